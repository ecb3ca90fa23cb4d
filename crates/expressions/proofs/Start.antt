-- At the start of a run: what the reader leaves is what is asked.
use mathlib.Core.Path.{◌≡◌, refl}
use Prim.Native.Nat.{ℕ, ◌≤◌}
use lib.ListN.{length}
use Rattle.language.specs.Syntax.{Sheet}
use Rattle.language.specs.Values.{empty}
use Rattle.records.specs.Reading.{Tables}
use Rattle.reader.specs.Stands.{Stands as Reads}
use Rattle.reader.specs.Buffers.{Holds}
use Rattle.bindings.specs.Stands.{Stands}
use Rattle.expressions.specs.Machine.{Shared, M}
use Rattle.expressions.specs.Asked.{Text, Row, World, Room, Ready}
use Rattle.expressions.proofs.Growth.{used}

-- the text of a sheet that was read
abbrev pub text : Sheet → Tables → Text
text S T = record { phrases = S.phrases; patterns = S.patterns; rows = T.phrases; pattern_rows = T.patterns }

module _ (S : Sheet) (T : Tables) (R : Reads S T) (s : Shared) (m : M) (words : used m ≡ T.words)
    (phrases : Holds 12 T.phrases s.phrases) (patterns : Holds 5 T.patterns s.patterns) (short : length s.phrases ≤ 16384) (short' : length s.patterns ≤ 16384) where
  -- the buffers stand for the sheet's phrases and patterns
  pub world_read : World (text S T) R.trees s m
  world_read = record {
    legible = record { table = rw words R.table; says = R.patterns; holds = patterns; short = short' };
    says = R.phrases;
    holds = phrases;
    short = short;
  }

  -- with nothing bound and room for the budget, any expression may be evaluated
  pub ready_read : (k : ℕ) → Row (text S T) k → Room m 0 0 → Ready s m 0 k 0 0
  unfolding Stands
  ready_read k h room = record { text = text S T; formed = R.trees; bound = empty; world = world_read; row = h; chain = refl; room = room }
