-- The parts of a pattern are earlier patterns, so its number falls. At each return the row's kind and the word's kind say which case holds.
use Rattle.patterns.proofs.+fits.Given as goal

abbrev pub decreases-fits : goal.decreases-fits
decreases-fits l = l.q
