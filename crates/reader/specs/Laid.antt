-- What the reader's functions answer and leave in the lent buffers.
use Rattle.std.specs.Prelude.{ℕ, ◌+◌, ◌≤◌, ◌≡◌, List, length, take, Result, Ok, Err}
use Rattle.language.specs.Numbers.{Got, got, no}
use Rattle.words.specs.Front.{front}
use Rattle.reader.specs.declared.Named.{Named}
use Rattle.language.specs.Numbered.{numbered}
use Rattle.language.specs.declared.refusal.Refusal.{Refusal}
use Rattle.reader.specs.declared.Counts.{Counts}
use Rattle.reader.specs.declared.parts.Listed.{Listed}
use Rattle.records.specs.Rows.{flat}
use Rattle.records.specs.Reading.{Kept, Props, Tables, Reading, reading}
use Rattle.records.specs.Answers.{ends, rows_in}

-- room for the names of so many propositions, and for their words past the table's first, all of whose numbers fit the bits of a part
pub record Space (count size : ℕ) (ns fs : List ℕ) : Type 0 where
  pub names : count ≤ length ns
  pub words : size + count ≤ length fs
  pub forms : length fs ≤ 16384

-- the names in front of one buffer, the words in use in front of the other, how many there are, and where that ended
pub record Propositions (P : Props) (r : Named) (ns₀ fs₀ ns fs : List ℕ) : Type 0 where
  pub props : r.props ≡ length P.names
  pub words : r.words ≡ length P.words
  pub ended : ends r.ended ≡ P.ended
  pub names : ns ≡ front P.names ns₀
  pub forms : fs ≡ front P.words fs₀

-- at most so many rows of w numbers in front of a buffer, how many there are, and where that ended
pub record Listing (w top : ℕ) (K : Kept (List ℕ)) (r : Listed) (t₀ t : List ℕ) : Type 0 where
  pub few : r.count ≤ top
  pub count : r.count ≡ length K.items
  pub ended : ends r.ended ≡ K.ended
  pub table : t ≡ front (flat K.items) t₀
  pub rows : rows_in w r.count t ≡ K.items

-- numbers in front of a buffer, how many there are, and where that ended
pub record Gathered (K : Kept ℕ) (r : Listed) (t₀ t : List ℕ) : Type 0 where
  pub count : r.count ≡ length K.items
  pub ended : ends r.ended ≡ K.ended
  pub table : t ≡ front K.items t₀

-- what a sheet's reading answers: how many there are of each, with the root, or the refusal's number and place
unfoldable pub counted : Tables → Got ℕ → Result Counts (ℕ × ℕ)
counted T (no why place) = Err (why, place)
counted T (got root end) =
    Ok (record {
      props = length T.names;
      words = length T.words;
      patterns = length T.patterns;
      phrases = length T.phrases;
      base = length T.base;
      root = root;
    })

-- the answer of a reading
abbrev pub answer : Reading → Result Counts (ℕ × ℕ)
answer X = counted X.tables X.root

-- what is read already: the names, and so many words
pub record ReadSoFar (T : Tables) (words : ℕ) (ns : List ℕ) : Type 0 where
  pub names : T.names ≡ ns
  pub words_many : length T.words ≡ words

-- what reading from the base on answers, and leaves in the buffers of the parts that it reads
pub record FromBase (X : Reading) (r : Result Counts Refusal) (bs₀ bs : List ℕ) : Type 0 where
  pub answered : numbered r ≡ answer X
  pub base : bs ≡ front X.tables.base bs₀

-- the same from the phrases on
pub record FromPhrases (X : Reading) (r : Result Counts Refusal) (hs₀ bs₀ hs bs : List ℕ) : Type 0 where
  pub answered : numbered r ≡ answer X
  pub phrases : hs ≡ front (flat X.tables.phrases) hs₀
  pub base : bs ≡ front X.tables.base bs₀

-- the same from the patterns on
pub record FromPatterns (X : Reading) (r : Result Counts Refusal) (ps₀ hs₀ bs₀ ps hs bs : List ℕ) : Type 0 where
  pub answered : numbered r ≡ answer X
  pub patterns : ps ≡ front (flat X.tables.patterns) ps₀
  pub phrases : hs ≡ front (flat X.tables.phrases) hs₀
  pub base : bs ≡ front X.tables.base bs₀

-- the five buffers of a sheet are long enough, and the table's numbers fit the bits of a part
pub record Room (ns fs ps hs bs : List ℕ) : Type 0 where
  pub names : 512 ≤ length ns
  pub forms : 514 ≤ length fs
  pub bits : length fs ≤ 16384
  pub patterns : 640 ≤ length ps
  pub phrases : 6144 ≤ length hs
  pub base : 64 ≤ length bs

-- a sheet's reading: its answer, and its tables in front of the five buffers
pub record Laid (s : List ℕ) (r : Result Counts Refusal) (ns₀ fs₀ ps₀ hs₀ bs₀ ns fs ps hs bs : List ℕ) : Type 0 where
  pub answered : numbered r ≡ answer (reading s)
  pub names : ns ≡ front (reading s).tables.names ns₀
  pub forms : fs ≡ front (reading s).tables.words fs₀
  pub patterns : ps ≡ front (flat (reading s).tables.patterns) ps₀
  pub phrases : hs ≡ front (flat (reading s).tables.phrases) hs₀
  pub base : bs ≡ front (reading s).tables.base bs₀
