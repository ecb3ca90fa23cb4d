-- The contract of `write` allows one answer and one output, and what it asks can be met.
use Prim.Native.Nat.{ℕ}
use mathlib.Core.Path.{◌≡◌, refl, sym, ◌∙◌}
use mathlib.Core.List.{List, [], ◌∷◌}
use native.Mathlib.Omega.{arith}
use Rattle.std.specs.Prelude.{Option, Some}
use Rattle.language.specs.Form.{verum, falsum, same, member}
use Rattle.language.specs.Numbers.{groups, pick}
use Rattle.language.specs.Plain.{infer, inferences}
use Rattle.language.specs.Run.{derived}
use Rattle.language.specs.Certificate.{certificate, listing, listed, listed_all, needed, records, record_of, proof_bytes, references, index_of}
use Rattle.language.specs.Doors.{fronted}
use Rattle.forms.specs.Interned.{first}
use Rattle.forms.proofs.Growth.{first_table}
use Rattle.tokens.specs.Tells.{Names, Tells}
use Rattle.certificates.specs.declared.Written.{Written}
use Rattle.certificates.specs.Certified.{Writing, Writes}

-- for what is told, the answer and the output
pub certified_once : (forms : List ℕ) (n : ℕ) (tokens : List ℕ) (m conclusion : ℕ) (t out₀ out out' : List ℕ) (r r' : Option Written) →
    Writing forms n tokens m conclusion t → Writes forms n tokens m conclusion t out₀ r out → Writes forms n tokens m conclusion t out₀ r' out' → (r ≡ r') × (out ≡ out')
certified_once forms n tokens m conclusion t out₀ out out' r r' x a b =
    let c = a.certified x in
    let d = b.certified x in
    (c.answer ∙ sym d.answer, c.output ∙ sym d.output)

-- true-intro in two tokens, over a table of true and false
pub truth_told : Writing first 2 (0 ∷ (13 ∷ [])) 2 0 (0 ∷ (0 ∷ (0 ∷ (0 ∷ []))))
unfolding Tells Names
truth_told = record {
  trees = verum ∷ (falsum ∷ []);
  derived = derived verum (infer 13 []);
  table = first_table;
  tells = ([], refl, tt, refl, omega arith);
  concludes = record { low = omega arith; tree = refl };
  whole = omega arith;
  inside = omega arith;
  short = omega arith;
  room = omega arith;
}

-- its certificate lists true, has the rule and names its conclusion: so an output of six has these five bytes and its own last one
pub truth_certified : (r : Option Written) (out : List ℕ) →
    Writes first 2 (0 ∷ (13 ∷ [])) 2 0 (0 ∷ (0 ∷ (0 ∷ (0 ∷ [])))) (9 ∷ (9 ∷ (9 ∷ (9 ∷ (9 ∷ (9 ∷ [])))))) r out →
    (r ≡ Some (record { length = 5; inferences = record { 0 = 1 } })) × (out ≡ 1 ∷ (1 ∷ (0 ∷ (13 ∷ (0 ∷ (9 ∷ []))))))
unfolding certificate listing listed listed_all needed records record_of proof_bytes references index_of groups pick member same fronted inferences truth_told
truth_certified r out w = let c = w.certified truth_told in (c.answer, c.output)
