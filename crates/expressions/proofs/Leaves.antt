-- The parts that run no expression: a closure, a variable, a constructor's count.
use Rattle.std.specs.Prelude.{Option, None, Result, Ok, Err, ok_or}
use mathlib.Core.Path.{◌≡◌, refl, ap}
use Prim.Native.Nat.{ℕ, zero, suc, ◌<◌, ◌≤◌}
use native.Mathlib.Omega.{arith}
use borrow.Author.Tests.{eq-eqb, ne_eqb}
use Rattle.bindings.specs.declared.Value.TheVariants.{Function, Method}
use Rattle.bindings.specs.Numbers.{closure_of, SmallValue}
use Rattle.bindings.specs.Stands.{closed}
use Rattle.language.specs.declared.refusal.Refusal.{Refusal}
use Rattle.language.specs.Syntax.{Sort, function, method}
use Rattle.language.specs.Run.{takes}
use Rattle.records.specs.Rows.{sort_of, sort_by}

module _ (k a e : ℕ) where
  pub closure_method : k ≡ 5 → Method (closure_of a e) ≡ closed (sort_of k) (closure_of a e)
  unfolding sort_by
  closure_method h = rw (eq-eqb _ _ h)

  pub closure_function : (k ≡ 5 → ⊥) → Function (closure_of a e) ≡ closed (sort_of k) (closure_of a e)
  unfolding sort_by
  closure_function h = rw (ne_eqb _ _ h)

pub closed_small : (s : Sort) (a e : ℕ) → a < 16384 → e ≤ 16384 → SmallValue (closed s (closure_of a e))
closed_small function a e h g = (omega arith, omega arith)
closed_small method a e h g = (omega arith, omega arith)

-- the error of an `ok_or` that found nothing
error_of : {T : Type 0} → Refusal → Result T Refusal → Refusal
error_of d (Ok x) = d
error_of d (Err e) = e

pub refused_by : {T : Type 0} (o : Option T) (d e : Refusal) → o ≡ None → Err e ≡ ok_or o d → e ≡ d
unfolding error_of
refused_by o d e h v = ap (error_of e) (rw h at v)

pub takes_one : (c : ℕ) → c ≡ 0 → 1 ≡ takes c
unfolding takes
takes_one c e = rw e

pub takes_two : (c : ℕ) → (c ≡ 0 → ⊥) → 2 ≡ takes c
unfolding takes
takes_two zero e = absurd (e refl)
takes_two (suc c) e = refl
