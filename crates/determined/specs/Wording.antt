-- The public functions of `wording`.
use Rattle.wording.proofs as wording
use Rattle.determined.specs.Once.{Once}

pub record Wording : Type 0 where
  pub unread : Once wording.unread.Kinds.ps wording.unread.Kinds.r wording.unread.Reads.Learnt
  pub read_decimal : Once wording.read_decimal.Kinds.ps wording.read_decimal.Kinds.r wording.read_decimal.Reads.Learnt
  pub copy : Once wording.copy.Kinds.ps wording.copy.Kinds.r wording.copy.Reads.Learnt
  pub accepted : Once wording.accepted.Kinds.ps wording.accepted.Kinds.r wording.accepted.Reads.Learnt
  pub stands : Once wording.stands.Kinds.ps wording.stands.Kinds.r wording.stands.Reads.Learnt
  pub falls : Once wording.falls.Kinds.ps wording.falls.Kinds.r wording.falls.Reads.Learnt
  pub fails : Once wording.fails.Kinds.ps wording.fails.Kinds.r wording.fails.Reads.Learnt
  pub at_phrase : Once wording.at_phrase.Kinds.ps wording.at_phrase.Kinds.r wording.at_phrase.Reads.Learnt
  pub in_decimal : Once wording.in_decimal.Kinds.ps wording.in_decimal.Kinds.r wording.in_decimal.Reads.Learnt
  pub trouble : Once wording.trouble.Kinds.ps wording.trouble.Kinds.r wording.trouble.Reads.Learnt
  pub decimals_unread : Once wording.decimals.unread.Kinds.ps wording.decimals.unread.Kinds.r wording.decimals.unread.Reads.Learnt
  pub decimals_read : Once wording.decimals.read.Kinds.ps wording.decimals.read.Kinds.r wording.decimals.read.Reads.Learnt
  pub page_put : Once wording.page.put.Kinds.ps wording.page.put.Kinds.r wording.page.put.Reads.Learnt
  pub page_copy : Once wording.page.copy.Kinds.ps wording.page.copy.Kinds.r wording.page.copy.Reads.Learnt
  pub page_number : Once wording.page.number.Kinds.ps wording.page.number.Kinds.r wording.page.number.Reads.Learnt
  pub page_list : Once wording.page.list.Kinds.ps wording.page.list.Kinds.r wording.page.list.Reads.Learnt
  pub page_bytes : Once wording.page.bytes.Kinds.ps wording.page.bytes.Kinds.r wording.page.bytes.Reads.Learnt
  pub page_words : Once wording.page.words.Kinds.ps wording.page.words.Kinds.r wording.page.words.Reads.Learnt
  pub page_skip : Once wording.page.skip.Kinds.ps wording.page.skip.Kinds.r wording.page.skip.Reads.Learnt
  pub page_wide : Once wording.page.wide.Kinds.ps wording.page.wide.Kinds.r wording.page.wide.Reads.Learnt
  pub template_fill : Once wording.template.fill.Kinds.ps wording.template.fill.Kinds.r wording.template.fill.Reads.Learnt
