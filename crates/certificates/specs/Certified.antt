-- What writing a certificate asks and what it answers.
use Rattle.std.specs.Prelude.{ℕ, ◌*◌, ◌≤◌, ◌≡◌, List, length, take, leb, Option, Some, None}
use Rattle.language.specs.Form.{Form}
use Rattle.language.specs.Numbers.{pick}
use Rattle.language.specs.Plain.{inferences}
use Rattle.language.specs.Run.{Derived}
use Rattle.language.specs.Certificate.{listing, certificate}
use Rattle.language.specs.Doors.{fronted}
use Rattle.forms.specs.Table.{Table}
use Rattle.bindings.specs.Stands.{Is}
use Rattle.tokens.specs.Tells.{Tells}
use Rattle.certificates.specs.declared.Needed.{Needed}
use Rattle.certificates.specs.declared.Written.{Written}
use Rattle.certificates.specs.Marks.{Ready}

-- the first n words stand for trees, the first m tokens tell a proof over them, and `conclusion` is its conclusion's number; room to list them all
pub record Writing (forms : List ℕ) (n : ℕ) (tokens : List ℕ) (m conclusion : ℕ) (t : List ℕ) : Type 0 where
  pub trees : List Form
  pub derived : Derived
  pub table : Table (take n forms) trees
  pub tells : Tells trees derived.proof (take m tokens)
  pub concludes : Is trees conclusion derived.conclusion
  pub whole : n ≤ length forms
  pub inside : m ≤ length tokens
  pub short : length tokens ≤ 16384
  pub room : 2 * n ≤ length t

-- what is needed is listed in its order, the conclusion last
pub record Orders (forms : List ℕ) (n : ℕ) (tokens : List ℕ) (m conclusion : ℕ) (t₀ t : List ℕ) (r : Needed) : Type 0 where
  pub lists : (x : Writing forms n tokens m conclusion t₀) → Ready forms n x.trees (listing x.derived) t r.count
  pub counts : (x : Writing forms n tokens m conclusion t₀) → r.rules.0 ≡ inferences x.derived.proof

-- the certificate of d in front of the output, its length and its inferences; or, where the output is shorter, none
pub record Certified (d : Derived) (out₀ : List ℕ) (r : Option Written) (out : List ℕ) : Type 0 where
  pub answer : r ≡ pick (leb (length (certificate d)) (length out₀)) (Some (record { length = length (certificate d); inferences = record { 0 = inferences d.proof } })) None
  pub output : out ≡ pick (leb (length (certificate d)) (length out₀)) (fronted (certificate d) out₀) out₀

-- whatever the words and tokens tell is certified so
pub record Writes (forms : List ℕ) (n : ℕ) (tokens : List ℕ) (m conclusion : ℕ) (t out₀ : List ℕ) (r : Option Written) (out : List ℕ) : Type 0 where
  pub certified : (x : Writing forms n tokens m conclusion t) → Certified x.derived out₀ r out
