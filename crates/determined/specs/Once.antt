-- When a contract is determined: any two results that it allows are one. A result is the answer z with what the lent buffers then hold, ws.
-- A function's `Asked` and `Learnt` are what whoever calls it shows and learns. They are read off its own `requires` and `ensures`, and every proof of a call cites them: a contract that says less has a `Learnt` that says less.
-- The other files have a line for each public function, a file for each crate.
use Rattle.std.specs.Prelude.{ℕ, ◌≡◌, List}
use seplogic.Ra.Ura.{Ura}
use base.Logic.{SProp, ent}
use prog.Memory.{Memory}
use prog.Routine.{Routine}
use types.Logic.{Logic}
use contract.Lifetimes.{Lfts}
use contract.Monad.{Fun, fact, conj}
use denote.Triple.Entry.{Args, Res}
use denote.Triple.Clauses.{Ended, Clauses, Lasts, at_exit}
use borrow.Fn.Kinds.{ParamKind, ResultKind, Dens, res_t, ended_of, In, Out}

-- a function with parameters ps and a result r
module _ {n : ℕ} (ps : List (ParamKind n)) (r : ResultKind n) where
  -- what the lent buffers hold at the end
  abbrev pub Left : (κs : Lfts n) → Dens κs ps → Type 0
  Left κs a = Lasts (ended_of n ps r) κs a

  -- whatever the arguments are, all is fixed
  unfoldable pub Once : Out n ps r → Type 0
  Once Learnt =
      (κs : Lfts n) (a : Dens κs ps) (z z' : (res_t r κs).Denot) (ws ws' : Left κs a) →
      Learnt κs a z (at_exit (ended_of n ps r) κs a ws) → Learnt κs a z' (at_exit (ended_of n ps r) κs a ws') → (z ≡ z') × (ws ≡ ws')

  -- for arguments that the contract admits, two results are alike in the sense of R
  unfoldable pub AnyTwo : (Asked : In n ps) → Out n ps r → ((κs : Lfts n) (a : Dens κs ps) → Asked κs a → (z z' : (res_t r κs).Denot) (ws ws' : Left κs a) → Type 0) → Type 0
  AnyTwo Asked Learnt R =
      (κs : Lfts n) (a : Dens κs ps) (q : Asked κs a) (z z' : (res_t r κs).Denot) (ws ws' : Left κs a) →
      Learnt κs a z (at_exit (ended_of n ps r) κs a ws) → Learnt κs a z' (at_exit (ended_of n ps r) κs a ws') → R κs a q z z' ws ws'

  -- for arguments that the contract admits, all is fixed
  abbrev pub OnceAsked : In n ps → Out n ps r → Type 0
  OnceAsked Asked Learnt = AnyTwo Asked Learnt (λ κs a q z z' ws ws'. (z ≡ z') × (ws ≡ ws'))

-- The same from the clause of the contract itself, for functions over a struct that holds a reference. Both clauses are seen of the same resource.
unfoldable pub OnceHeld : (T : Ended) → ((M : Type 1) (𝓤 : Ura M) (𝓛 : Logic 𝓤) → (Memory → SProp 𝓤) → (Routine → Fun 𝓤) → Clauses 𝓤 T) → Type 2
OnceHeld T clauses =
    (M : Type 1) (𝓤 : Ura M) (𝓛 : Logic 𝓤) (mem : Memory → SProp 𝓤) (run : Routine → Fun 𝓤) (κs : Lfts T.signature.lifetimes) (a : Args T.signature κs)
    (g : (clauses M 𝓤 𝓛 mem run κs a).ghost) (z z' : Res T.signature κs) (ws ws' : Lasts T κs a) →
    ent 𝓤 (conj 𝓤 ((clauses M 𝓤 𝓛 mem run κs a).ensures g z (at_exit T κs a ws)) ((clauses M 𝓤 𝓛 mem run κs a).ensures g z' (at_exit T κs a ws'))) (fact 𝓤 ((z ≡ z') × (ws ≡ ws')))
