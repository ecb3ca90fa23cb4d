-- Bytes after bytes: what is emitted in parts is emitted whole, and where the whole has room each part has.
use Prim.Native.Nat.{ℕ, ◌+◌, ◌≤◌}
use mathlib.Core.Path.{◌≡◌, refl, sym, ap, ◌∙◌}
use mathlib.Core.Bool.{Bool, true, false}
use mathlib.Core.List.{List, [], ◌++◌, append_assoc, append-nil}
use native.Mathlib.Omega.{arith}
use lib.ListN.{length, length-append}
use lib.Dec.{ltb}
use lib.Seq.{length-sets}
use borrow.Author.Tests.{ltb-true, ltb-false}
use Rattle.words.proofs.Runs.{sets_sets}
use Rattle.language.specs.Numbers.{groups}
use Rattle.numbers.proofs.Groups.{one_byte, two_bytes, three_bytes}
use Rattle.certificates.specs.Emitted.{laid, Fits, Emitted}

-- a number takes three bytes at most
pub groups_few : (v : ℕ) → length (groups v) ≤ 3
groups_few v = go (ltb v 128) refl (ltb v 16384) refl
  where
    go : (a : Bool) → ltb v 128 ≡ a → (b : Bool) → ltb v 16384 ≡ b → length (groups v) ≤ 3
    go true p b q = omega (arith, one_byte v (ltb-true v 128 p))
    go false p true q = omega (arith, two_bytes v (ltb-false v 128 p) (ltb-true v 16384 q))
    go false p false q = omega (arith, three_bytes v (ltb-false v 16384 q))

-- no bytes change nothing, and bytes after bytes are one run
laid_none : (w : Bool) (out : List ℕ) (at : ℕ) → laid w out at [] ≡ out
laid_none true out at = refl
laid_none false out at = refl

laid_laid : (w : Bool) (out : List ℕ) (at : ℕ) (xs ys : List ℕ) → laid w (laid w out at xs) (at + length xs) ys ≡ laid w out at (xs ++ ys)
laid_laid true out at xs ys = sets_sets xs ys out at
laid_laid false out at xs ys = refl

laid_long : (w : Bool) (out : List ℕ) (at : ℕ) (xs : List ℕ) → length (laid w out at xs) ≡ length out
laid_long true out at xs = length-sets out at xs
laid_long false out at xs = refl

pub emitted_long : {w : Bool} {o p xs : List ℕ} {a b : ℕ} → Emitted w o a xs p b → length p ≡ length o
emitted_long {w} {o} {xs} {a} e = ap length e.output ∙ laid_long w o a xs

-- `Amid`: some of the bytes are emitted, the rest is to come
pub record Amid (w : Bool) (out₀ : List ℕ) (at₀ : ℕ) (whole out : List ℕ) (at : ℕ) (rest : List ℕ) : Type 0 where
  pub done : List ℕ
  pub emitted : Emitted w out₀ at₀ done out at
  pub split : done ++ rest ≡ whole

module _ {w : Bool} {out₀ : List ℕ} {at₀ : ℕ} {whole : List ℕ} where
  pub amid_start : Amid w out₀ at₀ whole out₀ at₀ whole
  amid_start = record { done = []; emitted = record { past = omega arith; output = sym (laid_none w out₀ at₀) }; split = refl }

  pub amid_more : {out : List ℕ} {at : ℕ} {out' : List ℕ} {at' : ℕ} (xs ys : List ℕ) →
      Amid w out₀ at₀ whole out at (xs ++ ys) → Emitted w out at xs out' at' → Amid w out₀ at₀ whole out' at' ys
  amid_more {out} {at} {out'} {at'} xs ys a e = record {
    done = a.done ++ xs;
    emitted = record {
      past = rw length-append (omega (arith, a.emitted.past, e.past));
      output =
          e.output
          ∙ ap (λ (o : List ℕ). laid w o at xs) a.emitted.output
          ∙ ap (λ (k : ℕ). laid w (laid w out₀ at₀ a.done) k xs) a.emitted.past
          ∙ laid_laid w out₀ at₀ a.done xs;
    };
    split = append_assoc a.done xs ys ∙ a.split;
  }

  pub amid_end : {out : List ℕ} {at : ℕ} → Amid w out₀ at₀ whole out at [] → Emitted w out₀ at₀ whole out at
  amid_end {out} {at} a = rw (sym (append-nil a.done) ∙ a.split) at a.emitted

-- room for the whole is room for the next part
fits_by : (w : Bool) (a b : ℕ) (xs ys o p : List ℕ) → (a + length xs ≤ length o → b + length ys ≤ length p) → Fits w a xs o → Fits w b ys p
fits_by true a b xs ys o p f h = f h
fits_by false a b xs ys o p f h = tt

module _ {w : Bool} {out₀ : List ℕ} {at₀ : ℕ} {whole : List ℕ} (fits : Fits w at₀ whole out₀) where
  pub amid_fits : {out : List ℕ} {at : ℕ} (xs ys : List ℕ) → Amid w out₀ at₀ whole out at (xs ++ ys) → Fits w at xs out
  amid_fits {out} {at} xs ys a =
      let n : length (a.done ++ (xs ++ ys)) ≡ length whole = ap length a.split in
      let m = length-append a.done (xs ++ ys) in
      let k = length-append xs ys in
      fits_by w at₀ at whole xs out₀ out (λ h. omega (arith, emitted_long a.emitted, a.emitted.past)) fits

  pub amid_fits_last : {out : List ℕ} {at : ℕ} (xs : List ℕ) → Amid w out₀ at₀ whole out at xs → Fits w at xs out
  amid_fits_last {out} {at} xs a = amid_fits xs [] (rw (append-nil xs) a)

-- the last part
pub amid_last : {w : Bool} {out₀ : List ℕ} {at₀ : ℕ} {whole out out' : List ℕ} {at at' : ℕ} (xs : List ℕ) →
    Amid w out₀ at₀ whole out at xs → Emitted w out at xs out' at' → Emitted w out₀ at₀ whole out' at'
amid_last xs a e = amid_end (amid_more xs [] (rw (append-nil xs) a) e)
