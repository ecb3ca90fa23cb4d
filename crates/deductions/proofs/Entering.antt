-- Entering a deduction, and which kind it is.
use mathlib.Core.Path.{◌≡◌, refl, sym, ◌∙◌}
use mathlib.Core.List.{List}
use Prim.Native.Nat.{ℕ, zero, suc, ◌+◌, ◌*◌, ◌-◌, ◌≤◌, ◌<◌}
use native.Mathlib.Omega.{arith}
use Rattle.language.specs.Refusals.{budget_spent, too_deep as too_deep_number}
use Rattle.language.specs.Form.{Form}
use Rattle.language.specs.Syntax.{Phrase}
use Rattle.language.specs.Values.{Env}
use Rattle.language.specs.Run.{entering, evaluate, deduce_step, deduce}
use Rattle.expressions.specs.Machine.{Shared, kind}
use Rattle.expressions.specs.Asked.{Text}
use Rattle.expressions.proofs.Operands.{row_inside}
use Rattle.deductions.specs.Machine.{M, inner, remaining, spent, MOut, refused}
use Rattle.deductions.specs.Asked.{In, Setting, Ready}
use Rattle.deductions.specs.Meets.{Meets, Deduced, Stepped}
use Rattle.deductions.proofs.Growth.{unspend}
use Rattle.deductions.proofs.Rows.{kind_most}

module _ (s : Shared) (env b k : ℕ) (m : M) where
  pub spent_out : (d : ℕ) → remaining m ≡ 0 → Deduced s d env b k m (refused budget_spent k)
  unfolding deduce entering Meets
  spent_out zero h = record { meets = λ x fs e β S l. rw h (refl, refl) }
  spent_out (suc d) h = record { meets = λ x fs e β S l. rw h (refl, refl) }

  pub too_deep : (d : ℕ) → (remaining m ≡ 0 → ⊥) → d ≡ 0 → Deduced s d env b k m (refused too_deep_number k)
  unfolding deduce entering Meets
  too_deep d h z = rw z (record { meets = λ x fs e β S l. go x e β fs (remaining m) h })
    where
      go : (x : Text) (e : Env) (β fs : List Form) (n : ℕ) → (n ≡ 0 → ⊥) → Meets 0 0 0 b m fs (refused too_deep_number k) (deduce x.phrases 0 e β k n)
      go x e β fs zero h = absurd (h refl)
      go x e β fs (suc n) h = (refl, refl)

  enter : (ps : List Phrase) (d : ℕ) (e : Env) (β : List Form) (n : ℕ) → (n ≡ 0 → ⊥) → (d ≡ 0 → ⊥) → deduce ps d e β k n ≡ deduce_step ps (evaluate ps (d - 1)) (deduce ps (d - 1)) e β k (n - 1)
  unfolding deduce entering
  enter ps zero e β n h z = absurd (z refl)
  enter ps (suc d) e β zero h z = absurd (h refl)
  enter ps (suc d) e β (suc n) h z =
      let p : suc d - 1 ≡ d = omega arith in
      let q : suc n - 1 ≡ n = omega arith in
      rw (p, q)

  pub setting_spent : (x : Text) (fs : List Form) (e : Env) (β : List Form) → Setting x fs e β s m env b → Setting x fs e β s (spent m) env b
  setting_spent x fs e β S = record {
    world = record { legible = S.world.legible; says = S.world.says; holds = S.world.holds; short = S.world.short };
    chain = S.chain;
    based = S.based;
  }

  pub entered : (d : ℕ) (o : MOut) → (remaining m ≡ 0 → ⊥) → (d ≡ 0 → ⊥) → Stepped s (d - 1) env b k (spent m) o → Deduced s d env b k m o
  entered d o h z A = record {
    meets = λ x fs e β S l. rw (enter x.phrases d e β (remaining m) h z)
        (unspend b m fs o (deduce_step x.phrases (evaluate x.phrases (d - 1)) (deduce x.phrases (d - 1)) e β k (remaining m - 1)) h (A.meets x fs e β (setting_spent x fs e β S) l));
  }

  pub ready_spent : (remaining m ≡ 0 → ⊥) → Ready (In k) s m env b 0 0 0 0 → Ready (In k) s (spent m) env b 4 4 11 1
  ready_spent h r =
      let i = r.room.inner in
      let rf = i.forms in let rb = i.binds in let rt = r.room.tokens in let rs = r.room.base in let z : 0 < remaining m = omega arith in
      record {
        text = r.text;
        formed = r.formed;
        bindings = r.bindings;
        basis = r.basis;
        setting = setting_spent r.text r.formed r.bindings r.basis r.setting;
        row = r.row;
        room = record {
          inner = record { forms = omega arith; binds = omega arith; small = i.small; short = i.short };
          tokens = omega arith;
          base = omega arith;
          short = r.room.short;
          small = r.room.small;
        };
      }

pub row_small : (s : Shared) (m : M) (env b k A C T U : ℕ) → Ready (In k) s m env b A C T U → 12 * k + 12 ≤ 16384
row_small s m env b k A C T U r =
    let i = row_inside r.text r.formed s (inner m) r.setting.world k r.row in
    let l = r.setting.world.short in
    omega arith

six : (q c : ℕ) → c ≡ 16 + q → q ≤ 6 → (c ≡ 16 → ⊥) → (c ≡ 17 → ⊥) → (c ≡ 18 → ⊥) → (c ≡ 19 → ⊥) → (c ≡ 20 → ⊥) → (c ≡ 21 → ⊥) → c ≡ 22
six zero c e h a₀ a₁ a₂ a₃ a₄ a₅ = absurd (a₀ e)
six (suc zero) c e h a₀ a₁ a₂ a₃ a₄ a₅ = absurd (a₁ e)
six (suc (suc zero)) c e h a₀ a₁ a₂ a₃ a₄ a₅ = absurd (a₂ e)
six (suc (suc (suc zero))) c e h a₀ a₁ a₂ a₃ a₄ a₅ = absurd (a₃ e)
six (suc (suc (suc (suc zero)))) c e h a₀ a₁ a₂ a₃ a₄ a₅ = absurd (a₄ e)
six (suc (suc (suc (suc (suc zero))))) c e h a₀ a₁ a₂ a₃ a₄ a₅ = absurd (a₅ e)
six (suc (suc (suc (suc (suc (suc zero)))))) c e h a₀ a₁ a₂ a₃ a₄ a₅ = e
six (suc (suc (suc (suc (suc (suc (suc q))))))) c e h a₀ a₁ a₂ a₃ a₄ a₅ = absurd (too_many q h)
  where
    too_many : (q : ℕ) → suc (suc (suc (suc (suc (suc (suc q)))))) ≤ 6 → ⊥
    too_many q h = omega arith

beyond : (c : ℕ) → 16 ≤ c → c ≤ 22 → (c ≡ 16 + (c - 16)) × (c - 16 ≤ 6)
beyond c h g = (omega arith, omega arith)

-- what is left once every other kind is ruled out
pub last_kind : (s : Shared) (m : M) (env b k c A C T U : ℕ) → Ready (In k) s m env b A C T U → 16 ≤ kind s.phrases k → c ≡ kind s.phrases k
    → (c ≡ 16 → ⊥) → (c ≡ 17 → ⊥) → (c ≡ 18 → ⊥) → (c ≡ 19 → ⊥) → (c ≡ 20 → ⊥) → (c ≡ 21 → ⊥) → kind s.phrases k ≡ 22
last_kind s m env b k c A C T U r h e a₀ a₁ a₂ a₃ a₄ a₅ =
    let most = kind_most r.text r.formed s (inner m) r.setting.world k r.row h in
    let q = beyond (kind s.phrases k) h most in
    sym e ∙ six (kind s.phrases k - 16) c (e ∙ q.0) q.1 a₀ a₁ a₂ a₃ a₄ a₅
