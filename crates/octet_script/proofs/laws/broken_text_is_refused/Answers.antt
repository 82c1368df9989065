use Rattle.octet_script.proofs.judging.WholeTexts.{not_utf8, no_thread, open_at_end, open_before_thread, end_of_nothing}
use Rattle.octet_script.proofs.laws.broken_text_is_refused.Goals as goal

pub returns : goal.returns
returns c = record {
  utf8 = not_utf8;
  no_thread = no_thread;
  open_at_end = open_at_end;
  open_before_thread = open_before_thread;
  end_of_nothing = end_of_nothing;
}
