-- The propositions of part 1, named one by one: the answer from the start is the answer from here.
use Prim.Native.Nat.{ℕ, zero, suc, ◌+◌, ◌-◌, ◌≤◌, ◌<◌, ◌^◌}
use mathlib.Core.Path.{◌≡◌, refl, sym, ap, ◌∙◌}
use mathlib.Core.Bool.{Bool, true, false}
use mathlib.Core.List.{List, [], ◌∷◌, ◌++◌}
use native.Mathlib.Omega.{arith}
use native.Mathlib.Nat.{sub-zero}
use lib.ListN.{length, get_or, set, take, length-append, length-set}
use lib.Seq.{sets, length-take-le}
use lib.Dec.{ltb}
use Rattle.language.specs.Numbers.{Got, got, no, from}
use Rattle.words.specs.Front.{front}
use Rattle.words.proofs.Fronts.{front_put, front_own, front_front, take_front, length_front}
use Rattle.words.proofs.Runs.{front_sets}
use Rattle.numbers.proofs.Bounds.{from_got}
use Rattle.forms.specs.declared.Formed.{Formed}
use Rattle.forms.specs.Interned.{position, choose, having, first, Interned}
use Rattle.forms.proofs.Positions.{position_le, having_paid}
use Rattle.reader.specs.declared.Named.{Named}
use Rattle.std.specs.Prelude.{Result, Ok, Err}
use Rattle.language.specs.Numbered.{number_of}
use Rattle.language.specs.declared.refusal.Refusal.{Refusal}
use Rattle.records.specs.Reading.{Props, named, naming, word_at}
use Rattle.reader.specs.Parts.{named_after, part_one}
use Rattle.records.specs.Answers.{ends, Names}
use Rattle.reader.specs.Laid.{Space, Propositions}

-- having a word loses none
having_more : (w : ℕ) (ws : List ℕ) → length ws ≤ length (having w ws)
unfolding having choose
having_more w ws = go (ltb (position w ws) (length ws))
  where
    go : (b : Bool) → length ws ≤ length (choose b ws (ws ++ (w ∷ [])))
    go true = omega arith
    go false = rw length-append (omega arith)

-- names that fit their bits, and one more
low_snoc : (xs : List ℕ) (v : ℕ) → ((j : ℕ) → get_or xs j 0 < 16384) → v < 16384 → (j : ℕ) → get_or (xs ++ (v ∷ [])) j 0 < 16384
low_snoc [] v l h zero = h
low_snoc [] v l h (suc j) = omega arith
low_snoc (x ∷ xs) v l h zero = l 0
low_snoc (x ∷ xs) v l h (suc j) = low_snoc xs v (λ i. l (suc i)) h j

low_none : (j : ℕ) → get_or {A = ℕ} [] j 0 < 16384
low_none j = omega arith

-- one step of naming
module _ (s : List ℕ) (n i : ℕ) (names ws : List ℕ) (p : ℕ) where
  naming_end : n ≤ i → naming s (n - i) names ws p ≡ record { names = names; words = ws; ended = got tt p }
  unfolding naming
  naming_end h = let z : n - i ≡ 0 = omega arith in rw z

  naming_no : (why q : ℕ) → i < n → word_at s names p ≡ no why q → naming s (n - i) names ws p ≡ record { names = names; words = ws; ended = no why q }
  unfolding naming named
  naming_no why q h e = let z : n - i ≡ suc (n - (i + 1)) = omega arith in rw (z, e)

  naming_more : (w next : ℕ) → i < n → word_at s names p ≡ got w next
      → naming s (n - i) names ws p ≡ naming s (n - (i + 1)) (names ++ (position w ws ∷ [])) (having w ws) next
  unfolding naming named
  naming_more w next h e = let z : n - i ≡ suc (n - (i + 1)) = omega arith in rw (z, e)

-- the first i propositions have their names
pub record At (s : List ℕ) (count words at : ℕ) (names₀ forms₀ names forms : List ℕ) (i used p : ℕ) : Type 0 where
  pub done : List ℕ
  pub ws : List ℕ
  pub long : length done ≡ i
  pub in_use : length ws ≡ used
  pub within : i ≤ count
  pub paid : used ≤ words + i
  pub same : naming s count [] (take words forms₀) at ≡ naming s (count - i) done ws p
  pub names_are : names ≡ front done names₀
  pub forms_are : forms ≡ front ws forms₀
  pub low : (j : ℕ) → get_or done j 0 < 16384
  pub names_long : length names ≡ length names₀
  pub forms_long : length forms ≡ length forms₀

answered : (P : Props) (done ws : List ℕ) (r : Named) (names₀ forms₀ names forms : List ℕ)
    → P ≡ record { names = done; words = ws; ended = ends r.ended } → r.props ≡ length done → r.words ≡ length ws
    → names ≡ front done names₀ → forms ≡ front ws forms₀ → Propositions P r names₀ forms₀ names forms
answered P done ws r names₀ forms₀ names forms e p w n f = rw e (record { props = p; words = w; ended = refl; names = n; forms = f })

module _ (s : List ℕ) (count words at : ℕ) (names₀ forms₀ : List ℕ) (room : Space count words names₀ forms₀) where
  pub at_start : At s count words at names₀ forms₀ names₀ forms₀ 0 words at
  at_start =
      record {
        done = [];
        ws = take words forms₀;
        long = refl;
        in_use = length-take-le words forms₀ (omega (arith, room.words));
        within = omega arith;
        paid = omega arith;
        same = rw sub-zero;
        names_are = refl;
        forms_are = sym (front_own words forms₀);
        low = low_none;
        names_long = refl;
        forms_long = refl;
      }

  module _ (names forms : List ℕ) (i used p : ℕ) (a : At s count words at names₀ forms₀ names forms i used p) where
    known : take i names ≡ a.done
    known = let l = a.long in rw (a.names_are, ← l) (take_front a.done names₀)

    words_known : take used forms ≡ a.ws
    words_known = let l = a.in_use in rw (a.forms_are, ← l) (take_front a.ws forms₀)

    pub at_names : Names (take i names)
    at_names = record { low = rw known a.low }

    pub at_inside : i < count → i ≤ length names
    at_inside h = let l = a.names_long in omega (arith, room.names)

    pub at_room : i < count → used < length forms
    at_room h =
        let l = a.forms_long in
        let b = a.paid in
        omega (arith, room.words)

    pub at_put : (w : ℕ) (forms' : List ℕ) (r : Formed) → i < count → Interned w used forms forms' r → r.at < 2 ^ 32
    at_put w forms' r h I =
        let pos : r.at ≡ position w a.ws = rw words_known at I.at in
        let q = position_le w a.ws in
        let u = a.in_use in
        let b = at_room h in
        let l = a.forms_long in
        omega (arith, room.forms)

    pub at_end : count ≤ i → Propositions (naming s count [] (take words forms₀) at) (record { props = count; words = used; ended = Ok p }) names₀ forms₀ names forms
    at_end h = answered _ a.done a.ws _ names₀ forms₀ names forms (a.same ∙ naming_end s count i a.done a.ws p h) (let l = a.long in let k = a.within in omega arith) (sym a.in_use) a.names_are a.forms_are

    pub at_refused : (err : Refusal) → i < count → word_at s (take i names) p ≡ no (number_of err.0) err.1 → Propositions (naming s count [] (take words forms₀) at) (record { props = i; words = used; ended = Err err }) names₀ forms₀ names forms
    at_refused err h e =
        let f = rw known at e in
        answered _ a.done a.ws _ names₀ forms₀ names forms (a.same ∙ naming_no s count i a.done a.ws p (number_of err.0) err.1 h f) (sym a.long) (sym a.in_use) a.names_are a.forms_are

    pub at_more : (w next : ℕ) (forms' : List ℕ) (r : Formed) → i < count → word_at s (take i names) p ≡ got w next → Interned w used forms forms' r
        → At s count words at names₀ forms₀ (set names i r.at) forms' (i + 1) r.size next
    at_more w next forms' r h e I =
        let f = rw known at e in
        let k = words_known in
        let pos : r.at ≡ position w a.ws = rw k at I.at in
        let size : r.size ≡ length (having w a.ws) = rw k at I.size in
        let wrote : forms' ≡ front (having w a.ws) forms = rw k at I.words in
        let m = having_more w a.ws in
        let l = having_paid w a.ws in
        let q = position_le w a.ws in
        let u = a.in_use in
        let b = a.paid in
        let g = a.long in
        let is : forms' ≡ front (having w a.ws) forms₀ = wrote ∙ rw a.forms_are (front_front (having w a.ws) a.ws forms₀ m) in
        record {
          done = a.done ++ (position w a.ws ∷ []);
          ws = having w a.ws;
          long = length-append a.done (position w a.ws ∷ []) ∙ omega arith;
          in_use = sym size;
          within = omega arith;
          paid = omega arith;
          same = a.same ∙ naming_more s count i a.done a.ws p w next h f;
          names_are = rw pos (front_put a.done names₀ names i (position w a.ws) a.names_are g (omega (arith, room.names)));
          forms_are = is;
          low = low_snoc a.done (position w a.ws) a.low (omega (arith, room.words, room.forms));
          names_long = length-set names i r.at ∙ a.names_long;
          forms_long = ap length is ∙ length_front (having w a.ws) forms₀ (omega (arith, room.words));
        }

-- naming loses no word
pub naming_grows : (s : List ℕ) (n : ℕ) (names ws : List ℕ) (at : ℕ) → length ws ≤ length (naming s n names ws at).words
unfolding naming named
naming_grows s zero names ws at = omega arith
naming_grows s (suc n) names ws at = go (word_at s names at) (λ names' ws' at'. naming_grows s n names' ws' at')
  where
    go : (g : Got ℕ) → ((names' ws' : List ℕ) (at' : ℕ) → length ws' ≤ length (naming s n names' ws' at').words) → length ws ≤ length (named (naming s n) names ws g).words
    go (got w next) f =
        let h = having_more w ws in
        let k = f (names ++ (position w ws ∷ [])) (having w ws) next in
        omega arith
    go (no why q) f = omega arith

-- part 1: a table that starts with true and false, a count, and that many propositions
module _ (s ns₀ fs₀ fs₁ : List ℕ) (fs-long : 514 ≤ length fs₀) (begun : fs₁ ≡ sets fs₀ 0 first) where
  fresh : fs₁ ≡ front first fs₀
  fresh = begun ∙ front_sets first fs₀ (omega arith)

  fresh_long : length fs₁ ≡ length fs₀
  fresh_long = ap length fresh ∙ length_front first fs₀ (omega arith)

  pub part_room : (words count next : ℕ) → words ≡ length first → from 0 512 s 0 ≡ got count next → 512 ≤ length ns₀ → length fs₀ ≤ 16384 → Space count words ns₀ fs₁
  part_room words count next w e n f =
      let h = (from_got s 0 count next 0 512 e).to_top in
      let l = fresh_long in
      record { names = omega arith; words = omega arith; forms = omega arith }

  pub part_refused : (words : ℕ) (err : Refusal) → words ≡ length first → from 0 512 s 0 ≡ no (number_of err.0) err.1 → Propositions (part_one s) (record { props = 0; words = words; ended = Err err }) ns₀ fs₀ ns₀ fs₁
  unfolding part_one named_after
  part_refused words err w e = rw e (record { props = refl; words = w; ended = refl; names = refl; forms = fresh })

  pub part_read : (words count next : ℕ) (r : Named) (ns fs : List ℕ) → words ≡ length first → from 0 512 s 0 ≡ got count next
      → Propositions (naming s count [] (take words fs₁) next) r ns₀ fs₁ ns fs → Propositions (part_one s) r ns₀ fs₀ ns fs
  unfolding part_one named_after
  part_read words count next r ns fs w e P =
      let k : take words fs₁ ≡ first = rw (fresh, w) (take_front first fs₀) in
      let Q : Propositions (naming s count [] first next) r ns₀ fs₁ ns fs = rw k at P in
      let g = naming_grows s count [] first next in
      rw e (record {
        props = Q.props;
        words = Q.words;
        ended = Q.ended;
        names = Q.names;
        forms = Q.forms ∙ rw fresh (front_front (naming s count [] first next).words first fs₀ g);
      })
