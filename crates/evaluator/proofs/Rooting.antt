-- What reading a sheet leaves is what running its root asks; and the answer for a sheet is its run's, or the reading's refusal.
use Rattle.std.specs.Prelude.{Result, Ok, Err}
use Prim.Native.Nat.{ℕ, ◌+◌, ◌*◌, ◌≤◌, ◌<◌}
use native.Mathlib.Omega.{arith}
use mathlib.Core.Path.{◌≡◌, refl, sym, ap, ap₂, subst, ◌∙◌}
use mathlib.Core.List.{List}
use lib.ListN.{length, get_or, take, length-map}
use lib.Seq.{take_all}
use borrow.Author.Tests.{le-leb}
use Rattle.language.specs.Form.{Form, verum, member}
use Rattle.language.specs.Syntax.{Sheet}
use Rattle.language.specs.Numbers.{Got, got, pick}
use Rattle.language.specs.Read.{sheet}
use Rattle.language.specs.Values.{empty}
use Rattle.language.specs.Run.{deduce}
use Rattle.language.specs.Answer.{Answer, answer, started, ended}
use Rattle.language.specs.Doors.{evaluated_numbers, finished}
use Rattle.language.specs.Numbered.{number_of, numbered}
use Rattle.language.specs.declared.Accepted.{Accepted}
use Rattle.language.specs.declared.refusal.Refusal.{Refusal}
use Rattle.theorems.proofs.Lists.{all_at}
use Rattle.words.specs.Front.{front}
use Rattle.words.proofs.Fronts.{take_front, get_d_front}
use Rattle.forms.specs.Table.{tree}
use Rattle.records.specs.Rows.{cell}
use Rattle.records.specs.Reading.{Tables, reading}
use Rattle.reader.specs.declared.Counts.{Counts}
use Rattle.reader.specs.Laid.{Laid}
use Rattle.reader.specs.Stands.{Stands, ReadAs, read, unread}
use Rattle.reader.specs.Buffers.{Holds}
use Rattle.reader.proofs.Laying.{patterns_wide, phrases_wide}
use Rattle.reader.proofs.SheetSaying.{reading_sheet}
use Rattle.reader.proofs.Opened.{Opened, opened, base_few, get_d_tree, refused_not_read, refused_same}
use Rattle.bindings.specs.Stands.{Stands as Standing}
use Rattle.rules.proofs.Sets.{stack_alike}
use Rattle.expressions.specs.Machine.{shared}
use Rattle.expressions.proofs.Start.{text, world_read}
use Rattle.expressions.proofs.Sheets.{held}
use Rattle.deductions.specs.Machine.{M, inner}
use Rattle.deductions.specs.Asked.{In, Based, Setting}
use Rattle.evaluator.specs.Door.{Gives}
use Rattle.evaluator.specs.Parts.{start, Rooted, Runs}

-- the answer for a sheet that reads
sheet_answer : (s : List ℕ) (S : Sheet) (end budget room k : ℕ) → sheet s ≡ got S end → k ≡ S.root → budget ≤ 1024 →
    answer s budget room ≡ ended budget room (deduce S.phrases 64 empty S.base k budget)
unfolding answer pick started
sheet_answer s S end budget room k e f h = rw (le-leb budget 1024 h, e, f)

-- the sheet's base in front of a buffer
based_read : (S : Sheet) (T : Tables) (R : Stands S T) (bs₀ bs : List ℕ) (b : ℕ) → bs ≡ front T.base bs₀ → b ≡ length T.base → Based R.trees bs b S.base
based_read S T R bs₀ bs b e many =
    let count = R.table.count in
    let long : length S.base ≡ b = sym (ap length R.base) ∙ length-map T.base (tree R.trees) ∙ sym many in
    let same : (j : ℕ) → j < b → get_or bs j 0 ≡ get_or T.base j 0 = λ j l. rw e (get_d_front T.base bs₀ j (omega arith)) in
    let trees : (j : ℕ) → j < length S.base → tree R.trees (get_or bs j 0) ≡ get_or S.base j verum
    = λ j l. ap (tree R.trees) (same j (omega arith)) ∙ sym (get_d_tree R.trees T.base j (omega arith)) ∙ ap (λ (xs : List Form). get_or xs j verum) R.base in
    record {
      low = λ j l. let low = all_at (λ p. p < length T.words) T.base j 0 R.low (omega arith) in let at = same j l in omega arith;
      alike = λ p. sym (stack_alike R.trees bs S.base trees b (omega arith) p ∙ ap (λ (xs : List Form). member p xs) (take_all b S.base (omega arith)));
    }

module _ (s : List ℕ) (ns₀ fs₀ ps₀ hs₀ bs₀ ns fs ps hs bs : List ℕ) (r : Result Counts Refusal) (L : Laid s r ns₀ fs₀ ps₀ hs₀ bs₀ ns fs ps hs bs) (budget : ℕ) (within : budget ≤ 1024) where
  -- the answer for a sheet that is refused
  pub sheet_stops : (w : Refusal) → r ≡ Err w → (out₀ : List ℕ) → Gives (answer s budget (length out₀)) out₀ (Err w) out₀
  unfolding answer pick started finished evaluated_numbers
  sheet_stops w e out₀ = go (sheet s) refl (reading_sheet s)
    where
      go : (g : Got Sheet) → sheet s ≡ g → ReadAs (reading s) g → Gives (answer s budget (length out₀)) out₀ (Err w) out₀
      go g z (read {S} {end} x st) = absurd (refused_not_read (reading s).tables (reading s).root (number_of w.0) w.1 S.root end (sym L.answered ∙ ap numbered e) x)
      go g z (unread {n = n'} {p = p'} x) =
          let (a, b) = refused_same (reading s).tables (reading s).root (number_of w.0) w.1 n' p' (sym L.answered ∙ ap numbered e) x in
          record { numbers = rw (le-leb budget 1024 within, z, a, b); output = rw (le-leb budget 1024 within, z) }

  module _ (binds tokens : List ℕ) (c : Counts) (e : r ≡ Ok c) (f : length fs ≡ 4610) (v : length binds ≡ 16384) (t : length tokens ≡ 11264) (b : length bs ≡ 1088)
      (h : length hs ≡ 6144) (p : length ps ≡ 640) (hs-kept : length hs ≡ length hs₀) (ps-kept : length ps ≡ length ps₀) where
    O : Opened s c
    O = opened s c (sym L.answered ∙ ap numbered e)

    abbrev T : Tables
    T = (reading s).tables

    abbrev m : M
    m = start fs binds bs tokens c.words budget

    rows : Holds 12 T.phrases hs
    rows = held 12 T.phrases hs₀ hs (phrases_wide O.stands.phrases) L.phrases hs-kept

    -- the buffers stand for the sheet's text and base
    setting : Setting (text O.sheet_is T) O.stands.trees empty O.sheet_is.base (shared hs ps) m 0 c.base
    unfolding Standing
    setting =
        let R = O.stands in
        let used : take c.words fs ≡ T.words = ap₂ (λ (n : ℕ) (l : List ℕ). take n l) O.words_many L.forms ∙ take_front T.words fs₀ in
        record {
          world = world_read O.sheet_is T R (shared hs ps) (inner m) used rows (held 5 T.patterns ps₀ ps (patterns_wide R.patterns) L.patterns ps-kept) (omega arith) (omega arith);
          chain = refl;
          based = based_read O.sheet_is T R bs₀ bs c.base L.base O.base_many;
        }

    inside : In c.root (text O.sheet_is T)
    inside = let root = O.stands.root.0 in let is = O.root_is in omega arith

    pub sheet_roots : (listing : List ℕ) → length listing ≡ 9220 → Rooted (shared hs ps) m c.base c.root listing
    sheet_roots listing l =
        let R = O.stands in
        let words = O.words_many in
        let few = R.few in
        let members = base_few s O.sheet_is O.end O.is in
        let many = O.base_many in
        let same = sym (ap length R.base) ∙ length-map T.base (tree R.trees) in
        let kind = rows.cells c.root 0 inside (omega arith) in
        let deduction = R.root.1 in
        let root = O.root_is in
        let place : 12 * c.root + 0 ≡ 12 * c.root = omega arith in
        record {
          ready = record {
            text = text O.sheet_is T;
            formed = R.trees;
            bindings = empty;
            basis = O.sheet_is.base;
            setting = setting;
            row = inside;
            room = record {
              inner = record { forms = omega arith; binds = omega arith; small = omega arith; short = omega arith };
              tokens = omega arith;
              base = omega arith;
              short = omega arith;
              small = omega arith;
            };
          };
          deduction = subst (λ (k : ℕ). 16 ≤ k) (sym kind ∙ ap (λ (k : ℕ). get_or hs k 0) place) (subst (λ (k : ℕ). 16 ≤ cell T.phrases k 0) (sym root) deduction);
          listed = omega arith;
          formed = omega arith;
        }

    -- and the run's answer is the sheet's
    pub sheet_goes_on : (out₀ out : List ℕ) (z : Result Accepted Refusal) → Runs (shared hs ps) m c.base c.root out₀ z out → Gives (answer s budget (length out₀)) out₀ z out
    sheet_goes_on out₀ out z G =
        subst (λ (a : Answer). Gives a out₀ z out) (sym (sheet_answer s O.sheet_is O.end budget (length out₀) c.root O.is O.root_is within))
        (G.gives (text O.sheet_is T) O.stands.trees O.sheet_is.base setting inside)
