-- A proof in tokens, and its propositions listed.
use Rattle.std.specs.Prelude.{ℕ, ◌+◌, ◌*◌, ◌≤◌, ◌<◌, ◌≡◌, Bool, List, [], length, get_or, take}
use Rattle.language.specs.Form.{Form}
use Rattle.language.specs.Plain.{Plain, inferences}
use Rattle.language.specs.Run.{Derived}
use Rattle.language.specs.Certificate.{needed, listing, records, proof_bytes, certificate}
use Rattle.forms.specs.Table.{tree}
use Rattle.bindings.specs.Stands.{Is}
use Rattle.tokens.specs.Tells.{Tells}
use Rattle.certificates.specs.declared.Needed.{Needed}
use Rattle.certificates.specs.Marks.{mark, Ready}
use Rattle.certificates.specs.Emitted.{Fits, Emitted}

-- the first m tokens tell a proof over the table; nothing is listed yet
pub record Telling (forms : List ℕ) (n : ℕ) (tokens : List ℕ) (m : ℕ) (t : List ℕ) : Type 0 where
  pub trees : List Form
  pub proof : Plain
  pub tells : Tells trees proof (take m tokens)
  pub ready : Ready forms n trees [] t 0
  pub inside : m ≤ length tokens
  pub short : m ≤ 16384

-- what the proof needs is listed, and its rules are counted
pub record Needs (forms : List ℕ) (n : ℕ) (tokens : List ℕ) (m : ℕ) (t₀ t : List ℕ) (r : Needed) : Type 0 where
  pub lists : (x : Telling forms n tokens m t₀) → Ready forms n x.trees (needed x.proof []) t r.count
  pub counts : (x : Telling forms n tokens m t₀) → r.rules.0 ≡ inferences x.proof

-- the places of the listing l are in t
pub record Placing (fs l : List Form) (t : List ℕ) : Type 0 where
  pub marks : (j : ℕ) → j < length fs → get_or t j 0 ≡ mark (tree fs j) l
  pub few : length l ≤ 16384

-- the k records of a listing, to write or measure from `at` on
pub record Recording (forms : List ℕ) (n : ℕ) (t : List ℕ) (k : ℕ) (writes : Bool) (at : ℕ) (out : List ℕ) : Type 0 where
  pub trees : List Form
  pub derived : Derived
  pub ready : Ready forms n trees (listing derived) t k
  pub fits : Fits writes at (records (listing derived) (listing derived)) out
  pub near : at ≤ 16384

-- their bytes, from `at` on, and the place past them
pub record Records (forms : List ℕ) (n : ℕ) (t : List ℕ) (k : ℕ) (writes : Bool) (at : ℕ) (out₀ out : List ℕ) (r : ℕ) : Type 0 where
  pub near : r ≤ at + 9 * k
  pub emitted : (x : Recording forms n t k writes at out₀) → Emitted writes out₀ at (records (listing x.derived) (listing x.derived)) out r

-- the proof that the first m tokens tell, to write or measure from `at` on
pub record Proving (tokens : List ℕ) (m : ℕ) (t : List ℕ) (writes : Bool) (at : ℕ) (out : List ℕ) : Type 0 where
  pub trees : List Form
  pub derived : Derived
  pub tells : Tells trees derived.proof (take m tokens)
  pub placing : Placing trees (listing derived) t
  pub inside : m ≤ length tokens
  pub short : m ≤ 16384
  pub fits : Fits writes at (proof_bytes (listing derived) derived.proof) out
  pub near : at ≤ 262144

-- its bytes, from `at` on, and the place past them
pub record Proofs (tokens : List ℕ) (m : ℕ) (t : List ℕ) (writes : Bool) (at : ℕ) (out₀ out : List ℕ) (r : ℕ) : Type 0 where
  pub near : r ≤ at + 3 * (m + 1)
  pub emitted : (x : Proving tokens m t writes at out₀) → Emitted writes out₀ at (proof_bytes (listing x.derived) x.derived.proof) out r

-- the whole certificate, to write or measure: the listing of the proof, of k propositions, is in t
pub record Emitting (forms : List ℕ) (n : ℕ) (tokens : List ℕ) (m conclusion : ℕ) (t : List ℕ) (k : ℕ) (writes : Bool) (out : List ℕ) : Type 0 where
  pub trees : List Form
  pub derived : Derived
  pub tells : Tells trees derived.proof (take m tokens)
  pub concludes : Is trees conclusion derived.conclusion
  pub ready : Ready forms n trees (listing derived) t k
  pub inside : m ≤ length tokens
  pub short : m ≤ 16384
  pub fits : Fits writes 0 (certificate derived) out

-- its bytes from the front on, and its length
pub record Emits (forms : List ℕ) (n : ℕ) (tokens : List ℕ) (m conclusion : ℕ) (t : List ℕ) (k : ℕ) (writes : Bool) (out₀ out : List ℕ) (r : ℕ) : Type 0 where
  pub emitted : (x : Emitting forms n tokens m conclusion t k writes out₀) → Emitted writes out₀ 0 (certificate x.derived) out r
