-- The word was found among the words in use, or it is appended.
use Rattle.forms.proofs.Interning.{interned_old, interned_new}
use Rattle.forms.proofs.intern.Goals as goal

pub returns-then-i-n : goal.returns-then-i-n
returns-then-i-n c = interned_old _ _ _ c.requires.0 _ c.find-i.ensures c.if-i-n.true

pub returns : goal.returns
returns c = interned_new _ _ _ c.requires.0 _ c.find-i.ensures c.if-i-n.false _ c.put.ensures
