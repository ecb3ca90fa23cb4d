-- After a sheet was read into lent buffers, any expression of it may be evaluated with nothing bound.
use Rattle.std.specs.Prelude.{Ok}
use mathlib.Core.Path.{◌≡◌, sym, ap, ◌∙◌}
use mathlib.Core.List.{List}
use Prim.Native.Nat.{ℕ, ◌+◌, ◌*◌, ◌≤◌, ◌<◌}
use native.Mathlib.Omega.{arith}
use lib.ListN.{length, drop, take, length-append}
use Rattle.words.specs.Front.{front}
use Rattle.words.proofs.Fronts.{take_front}
use Rattle.records.specs.Rows.{flat}
use Rattle.records.specs.Reading.{Tables, reading}
use Rattle.records.proofs.Tables.{Wide, flat_long}
use Rattle.reader.specs.declared.Counts.{Counts}
use Rattle.reader.specs.Buffers.{Holds}
use Rattle.reader.specs.Laid.{Laid}
use Rattle.reader.proofs.Laying.{laid, patterns_wide, phrases_wide}
use Rattle.reader.proofs.Opened.{opened}
use Rattle.expressions.specs.Machine.{shared, mk, counters, kind}
use Rattle.expressions.specs.Asked.{Ready}
use Rattle.expressions.proofs.Start.{ready_read}

-- numbers written to the front of a buffer that is as long as before fit it
front_fits : (xs d t : List ℕ) → t ≡ front xs d → length t ≡ length d → length xs ≤ length d
front_fits xs d t e l =
    let n : length xs + length (drop (length xs) d) ≡ length d = sym (length-append xs (drop (length xs) d)) ∙ ap (λ (u : List ℕ). length u) (sym e) ∙ l in
    omega arith

-- rows laid in a buffer that is as long as before
pub held : (width : ℕ) (rows : List (List ℕ)) (d t : List ℕ) → Wide width rows → t ≡ front (flat rows) d → length t ≡ length d → Holds width rows t
held width rows d t h e l =
    let fits = front_fits (flat rows) d t e l in
    let long = flat_long width rows h in
    laid width rows h d t e (omega arith)

-- what reading leaves, and so much of the budget
module _ (s : List ℕ) (c : Counts) (ns₀ fs₀ ps₀ hs₀ bs₀ ns fs ps hs bs binds : List ℕ) (remaining : ℕ) (L : Laid s (Ok c) ns₀ fs₀ ps₀ hs₀ bs₀ ns fs ps hs bs)
    (hs-kept : length hs ≡ length hs₀) (ps-kept : length ps ≡ length ps₀) (hs-short : length hs ≤ 16384) (ps-short : length ps ≤ 16384) where
  pub ready_sheet : 514 + 4 * remaining ≤ length fs → length fs ≤ 16384 → 16 * remaining ≤ length binds → length binds ≤ 16384 →
      (k : ℕ) → k < c.phrases → kind hs k < 16 → Ready (shared hs ps) (mk fs binds (counters c.words 0 remaining)) 0 k 0 0
  ready_sheet f f' b b' k l low =
      let O = opened s c (sym L.answered) in
      let R = O.stands in
      let T : Tables = (reading s).tables in
      let used : take c.words fs ≡ T.words = rw (L.forms, O.words_many) (take_front T.words fs₀) in
      let phrases = held 12 T.phrases hs₀ hs (phrases_wide R.phrases) L.phrases hs-kept in
      let patterns = held 5 T.patterns ps₀ ps (patterns_wide R.patterns) L.patterns ps-kept in
      let few = R.few in
      let words = O.words_many in
      let many = O.phrases_many in
      let first = phrases.cells k 0 (omega arith) (omega arith) in
      let start : 12 * k + 0 ≡ 12 * k = omega arith in
      ready_read O.sheet_is T R (shared hs ps) (mk fs binds (counters c.words 0 remaining)) used phrases patterns hs-short ps-short k
      (omega arith, rw (← first, start) low)
      (record { forms = omega arith; binds = omega arith; small = f'; short = b' })
