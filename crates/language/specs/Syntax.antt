-- What a sheet says once it is read. Propositions and patterns are trees; a phrase names phrases by number.
use Rattle.std.specs.Prelude.{ℕ, List, Bool, get_or}
use Rattle.language.specs.Form.{Conn, Form}

-- any (binds), exactly a proposition, not, and the connectives
pub data Pattern : Type 0 where
  any : Pattern
  exactly : Form → Pattern
  neg_p : Pattern → Pattern
  bin_p : Conn → Pattern → Pattern → Pattern

-- a clause of match or dmatch: a pattern and the phrase that is run where it fits
pub record Clause : Type 0 where
  pub pattern : Pattern
  pub body : ℕ

pub data Sort : Type 0 where
  function method : Sort

-- kinds 0 to 9
pub data Expression : Type 0 where
  prop : Form → Expression
  var con rule : ℕ → Expression
  -- a function or method of so many parameters, with its body; `true` where a fix has it bind itself
  abstract : Sort → Bool → ℕ → ℕ → Expression
  call : ℕ → List ℕ → Expression
  -- let
  bind : ℕ → ℕ → Expression
  match : ℕ → List Clause → Expression

-- kinds 16 to 22
pub data Deduction : Type 0 where
  -- a method call
  apply : ℕ → List ℕ → Deduction
  assume suppose dlet by : ℕ → ℕ → Deduction
  -- the first step and the others
  block : ℕ → List ℕ → Deduction
  dmatch : ℕ → List Clause → Deduction

pub data Phrase : Type 0 where
  expr : Expression → Phrase
  dedu : Deduction → Phrase

-- the five parts
pub record Sheet : Type 0 where
  pub props : List Form
  pub patterns : List Pattern
  pub phrases : List Phrase
  pub base : List Form
  pub root : ℕ

-- phrase k of a table of phrases
abbrev pub phrase_at : List Phrase → ℕ → Phrase
phrase_at fs k = get_or fs k (expr (var 0))
