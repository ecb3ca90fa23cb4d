-- The public functions of `forms`.
use Rattle.forms.proofs as forms
use Rattle.determined.specs.Once.{Once}

pub record Forms : Type 0 where
  pub start : Once forms.start.Kinds.ps forms.start.Kinds.r forms.start.Reads.Learnt
  pub atom : Once forms.atom.Kinds.ps forms.atom.Kinds.r forms.atom.Reads.Learnt
  pub negation : Once forms.negation.Kinds.ps forms.negation.Kinds.r forms.negation.Reads.Learnt
  pub conjunction : Once forms.conjunction.Kinds.ps forms.conjunction.Kinds.r forms.conjunction.Reads.Learnt
  pub disjunction : Once forms.disjunction.Kinds.ps forms.disjunction.Kinds.r forms.disjunction.Reads.Learnt
  pub conditional : Once forms.conditional.Kinds.ps forms.conditional.Kinds.r forms.conditional.Reads.Learnt
  pub biconditional : Once forms.biconditional.Kinds.ps forms.biconditional.Kinds.r forms.biconditional.Reads.Learnt
  pub form : Once forms.form.Kinds.ps forms.form.Kinds.r forms.form.Reads.Learnt
  pub intern : Once forms.intern.Kinds.ps forms.intern.Kinds.r forms.intern.Reads.Learnt
  pub find : Once forms.find.Kinds.ps forms.find.Kinds.r forms.find.Reads.Learnt
  pub word : Once forms.word.Kinds.ps forms.word.Kinds.r forms.word.Reads.Learnt
  pub kind_of : Once forms.kind_of.Kinds.ps forms.kind_of.Kinds.r forms.kind_of.Reads.Learnt
  pub left_of : Once forms.left_of.Kinds.ps forms.left_of.Kinds.r forms.left_of.Reads.Learnt
  pub right_of : Once forms.right_of.Kinds.ps forms.right_of.Kinds.r forms.right_of.Reads.Learnt
  pub kind_kind_of : Once forms.kind.Kind.of.Kinds.ps forms.kind.Kind.of.Kinds.r forms.kind.Kind.of.Reads.Learnt
  pub kind_kind_number : Once forms.kind.Kind.number.Kinds.ps forms.kind.Kind.number.Kinds.r forms.kind.Kind.number.Reads.Learnt
  pub kind_kind_of_word : Once forms.kind.Kind.of_word.Kinds.ps forms.kind.Kind.of_word.Kinds.r forms.kind.Kind.of_word.Reads.Learnt
  pub kind_kind_word : Once forms.kind.Kind.word.Kinds.ps forms.kind.Kind.word.Kinds.r forms.kind.Kind.word.Reads.Learnt
