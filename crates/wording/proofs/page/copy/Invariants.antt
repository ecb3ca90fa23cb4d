-- What is to be written from the start is what is to be written from here.
use Rattle.std.proofs.Common.{◌≡◌, drop}
use Rattle.wording.specs.Page.{page, write}
use Rattle.wording.proofs.page.copy.Given as goal

abbrev pub invariant-loop-c : goal.invariant-loop-c
invariant-loop-c l = write l.s (page l.initial.out l.at) ≡ write (drop l.c-index l.s) (page l.out l.k)
