-- A rule node read again: its arguments are the listed trees, and what the rule answers is what the definition concludes.
use Prim.Native.Nat.{ℕ, zero, suc, ◌+◌, ◌≤◌, ◌<◌}
use mathlib.Core.Path.{◌≡◌, refl, ap, subst, ◌∙◌}
use mathlib.Core.Bool.{Bool, true, false}
use mathlib.Core.List.{List, [], ◌∷◌}
use native.Mathlib.Omega.{arith}
use lib.ListN.{length, get_or, take}
use lib.Seq.{length-take-le}
use Rattle.language.specs.Refusals.{premise_missing}
use Rattle.language.specs.Form.{Form, verum, members}
use Rattle.language.specs.Rules.{arity, Ruled, gives, misshapen, ruled}
use Rattle.language.specs.Numbers.{Got, got, check, below, times}
use Rattle.language.specs.Read.{reference}
use Rattle.language.specs.Check.{Counted, ruled_in, concluded}
use Rattle.numbers.proofs.Bounds.{then_got, below_got}
use Rattle.words.proofs.Fronts.{take_front}
use Rattle.forms.specs.Table.{tree}
use Rattle.forms.proofs.Trees.{truth_at}
use Rattle.rules.specs.Base.{base_of}
use Rattle.theorems.proofs.Arguments.{three, ruled_at}
use Rattle.rules.specs.Applied.{Ready, whether, outcome, Comes, Ruling}
use Rattle.checker.specs.declared.walking.Arguments.{Arguments}
use Rattle.std.specs.Prelude.{Result, Ok, Err}
use Rattle.language.specs.declared.refusal.Why.{Why}
use Rattle.language.specs.declared.refusal.Refusal.{Refusal}
use Rattle.forms.specs.declared.Formed.{Formed}
use Rattle.checker.specs.Places.{value_at, next_at, name_at, name_if, next_if, arguments_at}
use Rattle.checker.specs.Walk.{rule_at, Setting, Room, Awaits, Meets, Walks, Reached}
use Rattle.checker.proofs.Readings.{got_both, number_got}
use Rattle.checker.proofs.Nodes.{rule_read}

-- a listed proposition that was read is the tree at its name
pub record Argued (fs : List Form) (n : ℕ) (names s : List ℕ) (at : ℕ) (X : Form) (past : ℕ) : Type 0 where
  pub low : name_at names s at < n
  pub is : tree fs (name_at names s at) ≡ X
  pub next : next_at s at ≡ past

-- each listed proposition's name is the number of its tree
abbrev pub Named : List Form → ℕ → List ℕ → List Form → Type 0
Named fs n names ps = (j : ℕ) → j < length ps → (get_or names j 0 < n) × (tree fs (get_or names j 0) ≡ get_or ps j verum)

pub reference_got : (s : List ℕ) (ps : List Form) (names : List ℕ) (fs : List Form) (n : ℕ) → Named fs n names ps → (at : ℕ) (X : Form) (next : ℕ) → reference s ps at ≡ got X next → Argued fs n names s at X next
unfolding reference
reference_got s ps names fs n named at X next e =
    let a = then_got (below (length ps) s at) _ X next e in
    let b = below_got s at a.value a.place (length ps) a.first in
    let d = number_got s at a.value a.place b.read in
    let h = named a.value b.low in
    let g = got_both (get_or ps a.value verum) X a.place next a.rest in
    record { low = rw d.0 h.0; is = rw d.0 (h.1 ∙ g.0); next = d.1 ∙ g.1 }

-- the arguments that were read are the trees at the arguments' numbers, true where there is none
pub record Read (fs : List Form) (n : ℕ) (g : Arguments) (xs : List Form) (past : ℕ) : Type 0 where
  pub low : (g.x < n) × (g.y < n) × (g.z < n)
  pub x : tree fs g.x ≡ get_or xs 0 verum
  pub y : tree fs g.y ≡ get_or xs 1 verum
  pub z : tree fs g.z ≡ get_or xs 2 verum
  pub next : g.next ≡ past

module _ (s : List ℕ) (ps : List Form) (names : List ℕ) (fs : List Form) (n : ℕ) (named : Named fs n names ps) (truth : tree fs 0 ≡ verum) (some : 0 < n) where
  abbrev refs : List Form → ℕ → Got Form
  refs acc = reference s ps

  one : (at : ℕ) (X : Form) (next : ℕ) → reference s ps at ≡ got X next → Argued fs n names s at X next
  one = reference_got s ps names fs n named

  times_read : (k : ℕ) → k ≤ 3 → (at : ℕ) (xs : List Form) (next : ℕ) → times k refs [] at ≡ got xs next → Read fs n (arguments_at names s k at) xs next
  unfolding times arguments_at name_if next_if
  times_read zero h at xs next e =
      let g = got_both [] xs at next e in
      record { low = (some, some, some); x = rw (← g.0) truth; y = rw (← g.0) truth; z = rw (← g.0) truth; next = g.1 }
  times_read (suc zero) h at xs next e =
      let a = then_got (reference s ps at) _ xs next e in
      let o = one at a.value a.place a.first in
      let g = got_both (a.value ∷ []) xs a.place next a.rest in
      record { low = (o.low, some, some); x = rw (← g.0) o.is; y = rw (← g.0) truth; z = rw (← g.0) truth; next = o.next ∙ g.1 }
  times_read (suc (suc zero)) h at xs next e =
      let a = then_got (reference s ps at) _ xs next e in
      let b = then_got (reference s ps a.place) _ xs next a.rest in
      let o = one at a.value a.place a.first in
      let q = one a.place b.value b.place b.first in
      let g = got_both (a.value ∷ (b.value ∷ [])) xs b.place next b.rest in
      record {
        low = (o.low, rw o.next q.low, some);
        x = rw (← g.0) o.is;
        y = rw (← g.0, o.next) q.is;
        z = rw (← g.0) truth;
        next = rw o.next (q.next ∙ g.1);
      }
  times_read (suc (suc (suc zero))) h at xs next e =
      let a = then_got (reference s ps at) _ xs next e in
      let b = then_got (reference s ps a.place) _ xs next a.rest in
      let c = then_got (reference s ps b.place) _ xs next b.rest in
      let o = one at a.value a.place a.first in
      let q = one a.place b.value b.place b.first in
      let r = one b.place c.value c.place c.first in
      let g = got_both (a.value ∷ (b.value ∷ (c.value ∷ []))) xs c.place next c.rest in
      record {
        low = (o.low, rw o.next q.low, rw (o.next, q.next) r.low);
        x = rw (← g.0) o.is;
        y = rw (← g.0, o.next) q.is;
        z = rw (← g.0, o.next, q.next) r.is;
        next = rw (o.next, q.next) (r.next ∙ g.1);
      }
  times_read (suc (suc (suc (suc k)))) h at xs next e = absurd (omega arith)

-- a rule's answer as its node's
abbrev pub walked_of : ℕ → ℕ → Result Formed Why → Result Reached Refusal
walked_of at next (Ok f) = Ok (record { conclusion = f.at; next = next; size = f.size })
walked_of at next (Err w) = Err (record { 0 = w; 1 = at })

-- what a rule comes to is what the definition concludes
whether_meets : (v : Bool) (q : Form) (ws : List ℕ) (n : ℕ) (fs : List Form) (t₀ t : List ℕ) (used at next : ℕ) (answer : Result Formed Why) → Comes (whether v q ws) n fs t₀ t answer → Meets t fs n used (used + 1) next (walked_of at next answer) (check v premise_missing at (got q at))
unfolding whether check
whether_meets true q ws n fs t₀ t used at next answer C =
    let us = (whether true q ws).words in
    let w : take (length us) t ≡ us = ap (take (length us)) C.words ∙ take_front us t₀ in
    let i = C.is _ refl in
    let paid = C.paid in
    rw C.answer (refl, record { more = C.more; table = rw w C.table; low = i.0; is = i.1; paid = omega arith })
whether_meets false q ws n fs t₀ t used at next answer C = rw C.answer (refl, refl)

outcome_meets : (R : Ruled) (β : List Form) (ws : List ℕ) (n : ℕ) (fs : List Form) (t₀ t : List ℕ) (used at next : ℕ) (answer : Result Formed Why) → Comes (outcome R β ws) n fs t₀ t answer → Meets t fs n used (used + 1) next (walked_of at next answer) (ruled_in R β at)
unfolding outcome ruled_in
outcome_meets misshapen β ws n fs t₀ t used at next answer C = rw C.answer (refl, refl)
outcome_meets (gives ps q) β ws n fs t₀ t used at next answer C = whether_meets (members ps β) q ws n fs t₀ t used at next answer C

-- the rule at v and the arguments g, as the code takes them
module _ (t base names s : List ℕ) (n b at a v c k : ℕ) (g : Arguments) (ev : (v ≡ value_at s a) × (c ≡ next_at s a)) (ek : k ≡ get_or arity v 0) (eg : g ≡ arguments_at names s k c) where
  -- are the rule and the arguments that were read
  module _ (fs ps : List Form) (S : Setting t base names n b 0 fs ps) (used : ℕ) (d : Counted) (next : ℕ) (e : rule_at s at a ps used ≡ got d next) (room : Room t n used d.nodes) where
    abbrev rule : ℕ
    rule = (rule_read s ps used at a d next e).rule

    same_rule : v ≡ rule
    same_rule = ev.0 ∙ (rule_read s ps used at a d next e).named.0

    one_more : d.nodes ≡ used + 1
    one_more = ap (λ (u : Counted). u.nodes) (rule_read s ps used at a d next e).is

    free : (n < length t) × (n < 16384)
    free =
        let h = one_more in
        let l = room.long in
        let m = room.small in
        (omega arith, omega arith)

    arguments_read : Read fs n g (rule_read s ps used at a d next e).arguments next
    arguments_read =
        let r = rule_read s ps used at a d next e in
        let h = free in
        let two = S.table.enough in
        let l = length-take-le n t (omega arith) in
        let w : g ≡ arguments_at names s (get_or arity rule 0) r.place = rw (← same_rule, ← r.named.1, ← ev.1, ← ek) eg in
        rw w (times_read s ps names fs n S.named (truth_at (take n t) fs S.table) (omega arith) (get_or arity rule 0) (three rule) r.place r.arguments next r.read)

    rule_meets : (u : List ℕ) (answer : Result Formed Why) (w : Result Reached Refusal) → Ruling t n base b v g.x g.y g.z u answer → w ≡ walked_of at g.next answer → Meets u fs n used d.nodes next w (concluded (base_of fs base b) d.node)
    unfolding concluded
    rule_meets u answer w ruling walked =
        let r = rule_read s ps used at a d next e in
        let R = arguments_read in
        let same : ruled v (tree fs g.x ∷ (tree fs g.y ∷ (tree fs g.z ∷ []))) ≡ ruled rule r.arguments =
        ap (λ (m : ℕ). ruled m (tree fs g.x ∷ (tree fs g.y ∷ (tree fs g.z ∷ [])))) same_rule
        ∙ ruled_at rule (tree fs g.x) (tree fs g.y) (tree fs g.z) r.arguments R.x R.y R.z in
        let M = outcome_meets (ruled v (tree fs g.x ∷ (tree fs g.y ∷ (tree fs g.z ∷ [])))) (base_of fs base b) (take n t) n fs t u used at next answer (ruling.rules fs S.table) in
        let M₁ = subst (λ (Q : Ruled). Meets u fs n used (used + 1) next (walked_of at next answer) (ruled_in Q (base_of fs base b) at)) same M in
        let x : w ≡ walked_of at next answer = walked ∙ ap (λ (m : ℕ). walked_of at m answer) R.next in
        rw (r.is, x) M₁

  pub rule_ready : Awaits (rule_at s at a) t base names n b 0 → Ready t n base b g.x g.y g.z
  rule_ready A =
      let R = arguments_read A.trees A.listing A.setting A.used A.counted A.next A.was_read A.room in
      record {
        formed = record { trees = A.trees; table = A.setting.table };
        room = free A.trees A.listing A.setting A.used A.counted A.next A.was_read A.room;
        arguments = R.low;
        based = A.setting.based;
      }

  pub rule_walks : (u : List ℕ) (answer : Result Formed Why) (w : Result Reached Refusal) → Ruling t n base b v g.x g.y g.z u answer → w ≡ walked_of at g.next answer → Walks (rule_at s at a) t base names n b 0 u base w
  rule_walks u answer w ruling walked =
      record { kept = refl; meets = λ fs ps S used d next e room. rule_meets fs ps S used d next e room u answer w ruling walked }
