-- What is to be written from the start is what is to be written from here.
use Rattle.std.proofs.Common.{◌≡◌, drop}
use Rattle.wording.specs.Page.{page, write}
use Rattle.wording.specs.Templates.{filled}
use Rattle.wording.proofs.template.fill.Given as goal

abbrev pub invariant-loop-c : goal.invariant-loop-c
invariant-loop-c l =
    write (filled l.facts l.c-items) (page l.initial.out l.at) ≡ write (filled l.facts (drop l.c-index l.c-items)) (page l.out l.n)
