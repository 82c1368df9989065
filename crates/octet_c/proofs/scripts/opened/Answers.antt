use Rattle.std.proofs.Common.{◌∙◌, length, ap, sym}
use Rattle.std.proofs.lemmas.List.{length-map}
use Rattle.octet_host_script.specs.Threads.{IsRecorded}
use Rattle.octet_c.specs.declared.held.Held.TheVariants as held
use Rattle.octet_c.proofs.Pairs.{all_held}
use Rattle.octet_c.proofs.scripts.opened.Goals as goal

pub returns-clause-good : goal.returns-clause-good
returns-clause-good c = all_held (λ held. held.value) (λ it. held.Recorded it) IsRecorded (λ it good. good) c.in_ok-threads.threads.items c.in_ok-recorded.recorded.items c.in_ok-threads.ensures.each c.in_ok-recorded.ensures.good

pub returns-clause-declared : goal.returns-clause-declared
returns-clause-declared c =
    let recorded = c.in_ok-recorded.recorded.items in let boxes = c.in_ok-threads.threads.items in let opens = c.in_ok-recorded.ensures.opens in record {
      script = opens.recorder.opening;
      spelled = opens.spelled;
      count = sym (length-map boxes (λ box. box.value)) ∙ (ap length c.in_ok-threads.ensures.each ∙ (length-map recorded (λ it. held.Recorded it) ∙ opens.count));
    }

pub returns-clause-opens : goal.returns-clause-opens
returns-clause-opens c = record {
  recorded = c.in_ok-recorded.recorded.items;
  opens = c.in_ok-recorded.ensures.opens;
  sessions_are = c.in_ok-threads.ensures.each;
}
