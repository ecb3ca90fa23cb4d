-- What a callee's answer comes to: what the language gives there, with the state that then stands for the same and more; or the same refusal.
use Rattle.std.specs.Prelude.{Option}
use mathlib.Core.Path.{◌≡◌, refl, sym, ap, ◌∙◌}
use mathlib.Core.List.{List, [], ◌++◌}
use Prim.Native.Nat.{ℕ, ◌+◌, ◌≤◌}
use native.Mathlib.Nat.{le_refl}
use lib.ListN.{length}
use Rattle.language.specs.Form.{Form}
use Rattle.language.specs.Values.{Val, Env, Out, out, stop, with_all}
use Rattle.language.specs.Run.{evaluate, Derived, Argument, values_of, lemmas, joined}
use Rattle.bindings.specs.declared.Value.{Value}
use Rattle.bindings.specs.Stands.{Is, Stands, Chain}
use Rattle.tokens.specs.Tells.{Tells, TellsLemmas}
use Rattle.expressions.specs.declared.State.{State}
use Rattle.expressions.specs.Machine.{Shared, mk as mkE, done, refused as refusedE}
use Rattle.expressions.specs.Asked.{Text, Row}
use Rattle.expressions.specs.Meets.{Meets as MeetsE, Evaluated}
use Rattle.deductions.specs.Machine.{M, inner, remaining, bound, moved, joining, concluded, refused, got, lacking, pushed, stopped}
use Rattle.deductions.specs.Asked.{Based, Setting}
use Rattle.deductions.specs.Meets.{Grew, Meets, Lemmas, MeetsOperand, MeetsArgs}
use Rattle.deductions.proofs.Growth.{setting_grew, grew_moved}

-- an expression

pub record Ran (s : Shared) (d env b j : ℕ) (m m₁ : M) (x : Text) (fs : List Form) (e : Env) (β : List Form) (v : Value) : Type 0 where
  pub more : List Form
  pub value : Val
  pub grew : Grew 0 0 1 b m m₁ fs more []
  pub setting : Setting x (fs ++ more) e β s m₁ env b
  pub stands : Stands x.rows (fs ++ more) m₁.binds (bound m₁) value v
  pub is : evaluate x.phrases d e j (remaining m) ≡ out value (remaining m₁)

module _ (s : Shared) (d env b j : ℕ) (m : M) (x : Text) (fs : List Form) (e : Env) (β : List Form) (S : Setting x fs e β s m env b) where
  pub ran : Row x j → (f u : List ℕ) (st : State) (v : Value) → Evaluated s d env j (inner m) (done v (mkE f u st)) → Ran s d env b j m (moved m f u st) x fs e β v
  unfolding MeetsE
  ran row f u st v A = go (evaluate x.phrases d e j (remaining m)) refl (A.meets x fs e S.world row S.chain)
    where
      go : (q : Out Val) → evaluate x.phrases d e j (remaining m) ≡ q → MeetsE 0 0 x.rows (inner m) fs (done v (mkE f u st)) q → Ran s d env b j m (moved m f u st) x fs e β v
      go (out X w) i z =
          let g = grew_moved 0 b m f u st fs z.0 z.1 in
          record {
            more = z.0;
            value = X;
            grew = g;
            setting = setting_grew 0 0 1 b m (moved m f u st) fs z.0 [] g x e β s env b (le_refl b) S;
            stands = z.2;
            is = i ∙ ap (out X) (sym z.3);
          }
      go (stop n y) i z = absurd z

  pub ran_refused : Row x j → (n y : ℕ) → Evaluated s d env j (inner m) (refusedE n y) → evaluate x.phrases d e j (remaining m) ≡ stop n y
  unfolding MeetsE
  ran_refused row n y A = go (evaluate x.phrases d e j (remaining m)) refl (A.meets x fs e S.world row S.chain)
    where
      go : (q : Out Val) → evaluate x.phrases d e j (remaining m) ≡ q → MeetsE 0 0 x.rows (inner m) fs (refusedE n y) q → evaluate x.phrases d e j (remaining m) ≡ stop n y
      go (out X w) i z = absurd z
      go (stop n' y') i z = i ∙ rw (z.0, z.1)

-- a deduction's outcome, whatever the language calls it

pub record Proved (a c t b : ℕ) (m m₁ : M) (fs : List Form) (p : ℕ) (r : Out Derived) : Type 0 where
  pub more : List Form
  pub told : List ℕ
  pub derived : Derived
  pub grew : Grew a c t b m m₁ fs more told
  pub concludes : Is (fs ++ more) p derived.conclusion
  pub tells : Tells (fs ++ more) derived.proof told
  pub is : r ≡ out derived (remaining m₁)

pub proved : (a c t b : ℕ) (m m₁ : M) (fs : List Form) (p : ℕ) (r : Out Derived) → Meets a c t b m fs (concluded p m₁) r → Proved a c t b m m₁ fs p r
unfolding Meets
proved a c t b m m₁ fs p (out d w) z = record { more = z.0; told = z.1; derived = d; grew = z.2; concludes = z.3; tells = z.4; is = ap (out d) (sym z.5) }
proved a c t b m m₁ fs p (stop n y) z = absurd z

pub refusal : (a c t b : ℕ) (m : M) (fs : List Form) (n y : ℕ) (r : Out Derived) → Meets a c t b m fs (refused n y) r → r ≡ stop n y
unfolding Meets
refusal a c t b m fs n y (out d w) z = absurd z
refusal a c t b m fs n y (stop n' y') z = rw (z.0, z.1)

-- a phrase of either class

pub record Fetch (b : ℕ) (rows : List (List ℕ)) (m m₁ : M) (fs : List Form) (v : Value) (l : Option ℕ) (r : Out Argument) : Type 0 where
  pub more : List Form
  pub told : List ℕ
  pub argument : Argument
  pub grew : Grew 0 0 1 b m m₁ fs more told
  pub stands : Stands rows (fs ++ more) m₁.binds (bound m₁) argument.value v
  pub lemma : Lemmas (fs ++ more) l argument.lemma
  pub tells : TellsLemmas (fs ++ more) argument.lemma told
  pub paid : joining l + remaining m₁ ≤ remaining m
  pub is : r ≡ out argument (remaining m₁)

pub fetch : (b : ℕ) (rows : List (List ℕ)) (m m₁ : M) (fs : List Form) (v : Value) (l : Option ℕ) (r : Out Argument) → MeetsOperand b rows m fs (got v l m₁) r → Fetch b rows m m₁ fs v l r
unfolding MeetsOperand
fetch b rows m m₁ fs v l (out X w) z = record { more = z.0; told = z.1; argument = X; grew = z.2; stands = z.3; lemma = z.4; tells = z.5; paid = z.6; is = ap (out X) (sym z.7) }
fetch b rows m m₁ fs v l (stop n y) z = absurd z

pub unfetched : (b : ℕ) (rows : List (List ℕ)) (m : M) (fs : List Form) (n y : ℕ) (r : Out Argument) → MeetsOperand b rows m fs (lacking n y) r → r ≡ stop n y
unfolding MeetsOperand
unfetched b rows m fs n y (out X w) z = absurd z
unfetched b rows m fs n y (stop n' y') z = rw (z.0, z.1)

-- a list of arguments

pub record Args (left b : ℕ) (rows : List (List ℕ)) (m m₁ : M) (fs : List Form) (f : Env) (β : List Form) (y c : ℕ) (r : Out (List Argument)) : Type 0 where
  pub more : List Form
  pub told : List ℕ
  pub list : List Argument
  pub grew : Grew 0 left 1 b m m₁ fs more told
  pub chain : Chain rows (fs ++ more) m₁.binds (bound m₁) (with_all f (values_of list)) y
  pub count : length (values_of list) ≡ left
  pub tells : TellsLemmas (fs ++ more) (lemmas list) told
  pub based : Based (fs ++ more) m₁.base c (joined (lemmas list) β)
  pub above : b ≤ c
  pub paid : c + remaining m₁ ≤ b + remaining m
  pub is : r ≡ out list (remaining m₁)

pub args : (left b : ℕ) (rows : List (List ℕ)) (m m₁ : M) (fs : List Form) (f : Env) (β : List Form) (y c : ℕ) (r : Out (List Argument)) → MeetsArgs left b rows m fs f β (pushed y c m₁) r → Args left b rows m m₁ fs f β y c r
unfolding MeetsArgs
args left b rows m m₁ fs f β y c (out xs w) z = record { more = z.0; told = z.1; list = xs; grew = z.2; chain = z.3; count = z.4; tells = z.5; based = z.6; above = z.7; paid = z.8; is = ap (out xs) (sym z.9) }
args left b rows m m₁ fs f β y c (stop n k) z = absurd z

pub unlisted : (left b : ℕ) (rows : List (List ℕ)) (m : M) (fs : List Form) (f : Env) (β : List Form) (n y : ℕ) (r : Out (List Argument)) → MeetsArgs left b rows m fs f β (stopped n y) r → r ≡ stop n y
unfolding MeetsArgs
unlisted left b rows m fs f β n y (out X w) z = absurd z
unlisted left b rows m fs f β n y (stop n' y') z = rw (z.0, z.1)
