-- A certificate that is written is read back as its listing, proof and conclusion; and where the proof proves, it stands.
use Prim.Native.Nat.{ℕ, ◌+◌, ◌≤◌}
use native.Mathlib.Omega.{arith}
use mathlib.Core.Path.{◌≡◌, refl, sym, ◌∙◌}
use mathlib.Core.List.{List, [], ◌++◌, append-nil}
use mathlib.Core.Bool.{Bool, true, false}
use lib.ListN.{length, get_or, length-append, get_or-eq_default}
use lib.Dec.{leb}
use borrow.Author.Tests.{eq-eqb, leb-true, leb-false}
use Rattle.language.specs.Refusals.{bytes_after}
use Rattle.language.specs.Form.{Form, verum, falsum}
use Rattle.language.specs.Rules.{gives, misshapen, table, ruled}
use Rattle.language.specs.Syntax.{Sheet}
use Rattle.language.specs.Numbers.{got, groups}
use Rattle.language.specs.Read.{sheet}
use Rattle.language.specs.Plain.{Plain, Proves, by_rule, in_turn, assuming, inferences}
use Rattle.language.specs.Run.{Derived}
use Rattle.language.specs.Certificate.{index_of, records, proof_bytes, listing, certificate}
use Rattle.language.specs.Check.{plain, Certificate, certificate_at, verdict, stands}
use Rattle.theorems.specs.Demands.{ChecksExactly, nodes, nesting}
use Rattle.theorems.proofs.Lists.{clash, get_d_within}
use Rattle.theorems.proofs.Members.{◌∈◌}
use Rattle.theorems.proofs.Closed.{Small}
use Rattle.theorems.proofs.Reading.{got_is, got_then, got_check}
use Rattle.theorems.proofs.Checking.{Regular, checks_exactly}
use Rattle.theorems.proofs.ReadBack.{Has, has_all, has_left, has_right, number_at, from_number}
use Rattle.theorems.proofs.Listing.{found, Names, Orderly, listing_orderly, listing_names, listing_concludes}
use Rattle.theorems.proofs.RecordsBack.{ref, index_at, records_at}
use Rattle.theorems.proofs.ProofsBack.{placed, plain_placed, node_at}

-- the certificate that is read where the listing l, the proof D and the conclusion p were written
unfoldable pub as_read : List Form → Plain → Form → Certificate
as_read l D p =
    let start = 0 + length (groups (length l)) + length (records l l) in
    record { forms = l; proof = placed l D start; conclusion = index_of p l; place = start + length (proof_bytes l D) }

module _ (l : List Form) (D : Plain) (p : Form) where
  bytes_read : (s : List ℕ) → s ≡ groups (length l) ++ (records l l ++ (proof_bytes l D ++ ref l p)) →
      length l ≤ 4608 → Small l → Orderly [] l → Names (λ q. q ∈ l) D → p ∈ l →
      Regular D → nodes D ≤ 7168 → nesting D ≤ 512 → certificate_at s ≡ got (as_read l D p) (length s)
  unfolding certificate_at as_read
  bytes_read s is few small order names concludes reg short shallow =
      let few' : length l ≤ 65535 = omega arith in
      let end = ref l p in
      let w₀ : Has s 0 (groups (length l) ++ (records l l ++ (proof_bytes l D ++ end))) = rw is (has_all _) in
      let w₁ = has_right (groups (length l)) (records l l ++ (proof_bytes l D ++ end)) w₀ in
      let w₂ = has_right (records l l) (proof_bytes l D ++ end) w₁ in
      let w₃ = has_right (proof_bytes l D) end w₂ in
      let ends : 0 + length (groups (length l)) + length (records l l) + length (proof_bytes l D) + length end ≡ length s =
      rw is (simp length-append (omega arith)) in
      got_then _ (from_number s 0 0 4608 (omega arith) few (number_at (length l) few' (has_left (groups (length l)) _ w₀)))
      ∙ got_then _ (records_at s l few' small order refl (has_left (records l l) _ w₁))
      ∙ got_then _ (node_at s l few' D 512 0 _ reg names shallow (omega arith) (has_left (proof_bytes l D) end w₂))
      ∙ got_then _ (index_at s l few' l [] (sym (append-nil l)) p concludes w₃)
      ∙ got_check bytes_after _ _ (eq-eqb _ _ ends)
      ∙ got_is refl ends

-- what is small enough to be written
pub record Writable (d : Derived) : Type 0 where
  pub few : length (listing d) ≤ 4608
  pub small : Small (listing d)
  pub short : nodes d.proof ≤ 7168
  pub shallow : nesting d.proof ≤ 512

-- what is read where d was written
pub record ReadsAs (d : Derived) (c : Certificate) : Type 0 where
  pub read : certificate_at (certificate d) ≡ got c (length (certificate d))
  pub forms : c.forms ≡ listing d
  pub proof : plain c.proof ≡ d.proof
  pub conclusion : c.conclusion ≡ index_of d.conclusion (listing d)
  pub states : get_or c.forms c.conclusion falsum ≡ d.conclusion

pub round_trip : (d : Derived) → Writable d → Regular d.proof → (c : Certificate) × ReadsAs d c
unfolding as_read certificate
round_trip d ok reg =
    let l = listing d in
    let (low, is) = rw append-nil at (found d.conclusion l [] (listing_concludes d)) in (
      as_read l d.proof d.conclusion,
      record {
        read = bytes_read l d.proof d.conclusion (certificate d) refl ok.few ok.small (listing_orderly d) (listing_names d)
            (listing_concludes d) reg ok.short ok.shallow;
        forms = refl;
        proof = plain_placed l d.proof _;
        conclusion = refl;
        states = get_d_within l (index_of d.conclusion l) falsum verum low ∙ is;
      },
    )

-- what is proved is regular: a rule that gives something is one of the sixteen
rule_known : (r : ℕ) (ps : List Form) {premises : List Form} {q : Form} → ruled r ps ≡ gives premises q → r ≤ 15
unfolding ruled table
rule_known r ps {premises} {q} e = by_size (leb r 15) refl
  where
    by_size : (t : Bool) → leb r 15 ≡ t → r ≤ 15
    by_size true t = leb-true r 15 t
    by_size false t =
        let n = leb-false r 15 t in
        let z : ruled r ps ≡ misshapen = get_or-eq_default (table (get_or ps 0 verum) (get_or ps 1 verum) (get_or ps 2 verum)) misshapen {n = r} (omega arith) in
        absurd (clash (cc))

pub proves_regular : {β : List Form} {D : Plain} {q : Form} → Proves β D q → Regular D
proves_regular (by_rule {ps = ps} {r = r} l w m) = (rule_known r ps w, l)
proves_regular (in_turn x y) = (proves_regular x, proves_regular y)
proves_regular (assuming x) = proves_regular x

-- a certificate of what is proved stands
pub certificate_stands : (s : List ℕ) (S : Sheet) (end : ℕ) (d : Derived) → sheet s ≡ got S end → Writable d →
    Proves S.base d.proof d.conclusion →
    verdict s (certificate d) ≡ stands (index_of d.conclusion (listing d)) (inferences d.proof)
unfolding ChecksExactly
certificate_stands s S end d e ok proved =
    let (c, r) = round_trip d ok (proves_regular proved) in
    let states : get_or c.forms (index_of d.conclusion (listing d)) falsum ≡ d.conclusion = rw (← r.conclusion) r.states in
    (checks_exactly s (certificate d) S end _ _ e).1 (c, r.read, r.conclusion, rw (r.proof, states) proved, rw r.proof)
