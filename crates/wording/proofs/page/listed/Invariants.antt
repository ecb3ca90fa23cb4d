-- What is to be written from the start is what is to be written from here.
use Rattle.std.proofs.Common.{◌≡◌, drop, map}
use Rattle.wording.specs.Page.{page, write}
use Rattle.wording.specs.Text.{listed}
use Rattle.wording.proofs.page.listed.Given as goal

abbrev pub invariant-loop-x : goal.invariant-loop-x
invariant-loop-x g l =
    write (listed (map g.T.Numeric.number l.items)) (page l.initial.out l.at) ≡ write (listed (map g.T.Numeric.number (drop l.x-index l.items))) (page l.out l.k)
