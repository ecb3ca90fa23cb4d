-- The text past k bars, up to the first bar.
use Rattle.std.proofs.Common.{◌≡◌, ◌∙◌, ◌-◌, List, ℕ, length, take, drop, length-drop, arith}
use lib.Seq.{take_all}
use Rattle.wording.specs.Text.{piece}
use Rattle.wording.proofs.page.piece.Goals as goal

pub returns : goal.returns
unfolding piece
returns c =
    let s : List ℕ = c.args.texts.now in
    let rest : take (length s - c.skip.result) (drop c.skip.result s) ≡ drop c.skip.result s =
    take_all _ _ (omega (arith, length-drop c.skip.result s)) in
    c.bar.ensures.0 ∙ rw (rest, c.skip.ensures.0)
