-- What tokens tell stays true while the table grows; lemmas before a proof are one proof.
use mathlib.Core.List.{List, [], ◌∷◌, ◌++◌}
use Prim.Native.Nat.{ℕ}
use Rattle.language.specs.Form.{Form}
use Rattle.language.specs.Plain.{Plain, infer, seq, under}
use Rattle.language.specs.Run.{Derived}
use Rattle.bindings.proofs.Chains.{is_more}
use Rattle.tokens.specs.Tells.{Names, Tells, TellsLemmas}

pub names_more : (fs gs : List Form) (ns : List ℕ) (ps : List Form) → Names fs ns ps → Names (fs ++ gs) ns ps
unfolding Names
names_more fs gs [] [] x = x
names_more fs gs (n ∷ ns) (p ∷ ps) x = (is_more fs gs n p x.0, names_more fs gs ns ps x.1)
names_more fs gs [] (p ∷ ps) x = elim x [ ]
names_more fs gs (n ∷ ns) [] x = elim x [ ]

pub tells_more : (fs gs : List Form) (D : Plain) (ts : List ℕ) → Tells fs D ts → Tells (fs ++ gs) D ts
unfolding Tells
tells_more fs gs (infer r ps) ts x = (x.0, x.1, names_more fs gs x.0 ps x.2, x.3, x.4)
tells_more fs gs (seq a b) ts x = (x.0, x.1, x.2, tells_more fs gs a x.0 x.3, tells_more fs gs b x.1 x.4)
tells_more fs gs (under p a) ts x = (x.0, x.1, x.2, is_more fs gs x.0 p x.3, tells_more fs gs a x.1 x.4)

pub lemmas_more : (fs gs : List Form) (ds : List Derived) (ts : List ℕ) → TellsLemmas fs ds ts → TellsLemmas (fs ++ gs) ds ts
unfolding TellsLemmas
lemmas_more fs gs [] ts x = x
lemmas_more fs gs (d ∷ ds) ts x =
    (x.0, x.1, x.2, tells_more fs gs d.proof x.0 x.3, lemmas_more fs gs ds x.1 x.4)
