-- What is shown of the language, as statements over its definitions; demands 2 and 3 of document 01 among them.
use Rattle.std.specs.Prelude.{ℕ, ◌+◌, ◌≤◌, max, List, ◌++◌, true, ◌≡◌, ◌↔◌, length, get_or}
use Rattle.language.specs.Form.{Form, State, holds, holds_all, falsum}
use Rattle.language.specs.Syntax.{Phrase, Sheet}
use Rattle.language.specs.Numbers.{got}
use Rattle.language.specs.Read.{sheet}
use Rattle.language.specs.Plain.{Plain, infer, seq, under, Proves, inferences}
use Rattle.language.specs.Values.{Val, Env, empty, out}
use Rattle.language.specs.Run.{Derived, evaluate, deduce}
use Rattle.language.specs.Derives.{Evaluates, Derives}
use Rattle.language.specs.Certificate.{certificate}
use Rattle.language.specs.Answer.{Answer, answer, accepted}
use Rattle.language.specs.Check.{verdict, stands, certificate_at, Certificate, plain}

-- the interpreter ends with a value, or with what is derived, and w' left of the budget w, exactly where the rules give it by the work spent
unfoldable pub EvaluatesExactly : Type 0
EvaluatesExactly =
    (fs : List Phrase) (n : ℕ) (e : Env) (k w w' : ℕ) (v : Val) →
    (evaluate fs n e k w ≡ out v w') ↔ ((u : ℕ) × Evaluates fs n e k v u × (u + w' ≡ w))

unfoldable pub DeducesExactly : Type 0
DeducesExactly =
    (fs : List Phrase) (n : ℕ) (e : Env) (β : List Form) (k w w' : ℕ) (d : Derived) →
    (deduce fs n e β k w ≡ out d w') ↔ ((u : ℕ) × Derives fs n e β k d u × (u + w' ≡ w))

-- the rules derive d in a sheet by work w: its root in its base, with nothing bound, within 64 levels
abbrev pub SheetDerives : Sheet → Derived → ℕ → Type 0
SheetDerives S d w = Derives S.phrases 64 empty S.base S.root d w

-- an evaluator answers for a sheet's bytes, a budget and room
abbrev pub Evaluator : Type 0
Evaluator = List ℕ → ℕ → ℕ → Answer

-- demand 2 of an evaluator: a sheet that reads is accepted exactly when the rules derive a conclusion within the budget and 64 levels; the bytes are that
-- derivation's certificate, the work is what it takes, the inferences are the rules in its plain proof, and the room suffices
abbrev pub MeetsDemand2 : Evaluator → Type 0
MeetsDemand2 evaluator =
    (s : List ℕ) (S : Sheet) (end budget room : ℕ) (bytes : List ℕ) (w i : ℕ) → sheet s ≡ got S end → budget ≤ 1024 →
    (evaluator s budget room ≡ accepted bytes w i)
    ↔ ((d : Derived) × SheetDerives S d w × (w ≤ budget) × (bytes ≡ certificate d) × (i ≡ inferences d.proof) × (length bytes ≤ room))

-- the definitions' own answer meets it
unfoldable pub AcceptsExactly : Type 0
AcceptsExactly = MeetsDemand2 answer

-- demand 2, the checker: it accepts exactly what reads as a plain proof that proves the stated conclusion in the sheet's base
unfoldable pub ChecksExactly : Type 0
ChecksExactly =
    (s bytes : List ℕ) (S : Sheet) (end k i : ℕ) → sheet s ≡ got S end →
    (verdict s bytes ≡ stands k i)
    ↔ ((c : Certificate) × (certificate_at bytes ≡ got c (length bytes)) × (c.conclusion ≡ k)
    × Proves S.base (plain c.proof) (get_or c.forms k falsum) × (i ≡ inferences (plain c.proof)))

-- what the checker accepts holds in every valve state in which the sheet's base does
unfoldable pub StandsTrue : Type 0
StandsTrue =
    (s bytes : List ℕ) (S : Sheet) (end k i : ℕ) → sheet s ≡ got S end → verdict s bytes ≡ stands k i →
    (c : Certificate) × (certificate_at bytes ≡ got c (length bytes))
    × ((σ : State) → holds_all σ S.base ≡ true → holds σ (get_or c.forms k falsum) ≡ true)

-- the nodes of a plain proof, and how deep they nest, the outermost counted
unfoldable pub nodes : Plain → ℕ
nodes (infer r ps) = 1
nodes (seq a b) = 1 + (nodes a + nodes b)
nodes (under p a) = 1 + nodes a

unfoldable pub nesting : Plain → ℕ
nesting (infer r ps) = 1
nesting (seq a b) = 1 + max (nesting a) (nesting b)
nesting (under p a) = 1 + nesting a

-- a certificate inside document 01's limits
pub record InsideLimits (c : Certificate) : Type 0 where
  pub few : length c.forms ≤ 4608
  pub short : nodes (plain c.proof) ≤ 7168
  pub shallow : nesting (plain c.proof) ≤ 512

-- an accepted answer's bytes read as a plain proof inside the limits, which proves their conclusion in the sheet's base; the inferences
-- are its rules, and the checker accepts the bytes
unfoldable pub AnswersProved : Type 0
AnswersProved =
    (s : List ℕ) (S : Sheet) (end budget room : ℕ) (bytes : List ℕ) (w i : ℕ) → sheet s ≡ got S end → budget ≤ 1024 →
    answer s budget room ≡ accepted bytes w i →
    (c : Certificate) × (certificate_at bytes ≡ got c (length bytes)) × InsideLimits c
    × Proves S.base (plain c.proof) (get_or c.forms c.conclusion falsum) × (i ≡ inferences (plain c.proof))
    × (verdict s bytes ≡ stands c.conclusion i)

-- a sheet with propositions and assumptions appended to their lists
pub record Longer (S T : Sheet) : Type 0 where
  pub more_props : List Form
  pub more_base : List Form
  pub props : T.props ≡ S.props ++ more_props
  pub base : T.base ≡ S.base ++ more_base
  pub patterns : T.patterns ≡ S.patterns
  pub phrases : T.phrases ≡ S.phrases
  pub root : T.root ≡ S.root

-- bytes that read as a certificate, whose listing has p at its conclusion number
pub record Concludes (bytes : List ℕ) (p : Form) : Type 0 where
  pub read : Certificate
  pub reads : certificate_at bytes ≡ got read (length bytes)
  pub states : get_or read.forms read.conclusion falsum ≡ p

-- what stands of an answer to a sheet S for a sheet T of bytes t, a budget and room
pub record StandsFor (S T : Sheet) (t : List ℕ) (budget room : ℕ) (bytes : List ℕ) (w i : ℕ) : Type 0 where
  -- the rules derive the same in both, by the same work
  pub derived : Derived
  pub here : SheetDerives S derived w
  pub there : SheetDerives T derived w
  -- the answer is the same, and its bytes are the certificate of what was derived
  pub answers : answer t budget room ≡ accepted bytes w i
  pub written : bytes ≡ certificate derived
  -- what the certificate concludes is what was derived; checked alone against T it stands
  pub concludes : Concludes bytes derived.conclusion
  pub checks : verdict t bytes ≡ stands concludes.read.conclusion i
  -- and it is true in every valve state that makes all of T's assumptions true
  pub holding : (σ : State) → holds_all σ T.base ≡ true → holds σ derived.conclusion ≡ true

-- demand 3, over sheets as read: an answer stands for a longer sheet, no less budget and room for its certificate
unfoldable pub AnswersStandAsRead : Type 0
AnswersStandAsRead =
    (s t : List ℕ) (S T : Sheet) (end end' b b' room room' w i : ℕ) (bytes : List ℕ) →
    sheet s ≡ got S end → sheet t ≡ got T end' → Longer S T → b ≤ b' → b' ≤ 1024 → length bytes ≤ room' →
    answer s b room ≡ accepted bytes w i → StandsFor S T t b' room' bytes w i
