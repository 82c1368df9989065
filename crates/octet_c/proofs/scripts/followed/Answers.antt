use Rattle.std.proofs.Common.{◌∙◌, length, ap, sym}
use Rattle.std.proofs.lemmas.List.{length-map}
use Rattle.octet_parallel.specs.Calls.{script_in, log_in}
use Rattle.octet_host_script.specs.Threads.{IsRepeated}
use Rattle.octet_c.specs.declared.held.Held.TheVariants as held
use Rattle.octet_c.proofs.Pairs.{all_held}
use Rattle.octet_c.proofs.scripts.followed.Goals as goal

pub returns-clause-good : goal.returns-clause-good
returns-clause-good c = all_held (λ held. held.value) (λ it. held.Repeated it) IsRepeated (λ it good. good) c.in_ok-threads.threads.items c.in_ok-repeated.repeated.items c.in_ok-threads.ensures.each c.in_ok-repeated.ensures.good

pub returns-clause-recorded : goal.returns-clause-recorded
returns-clause-recorded c =
    let repeated = c.in_ok-repeated.repeated.items in let boxes = c.in_ok-threads.threads.items in let follows = c.in_ok-repeated.ensures.follows in record {
      script = script_in follows.rerun.field;
      log = (log_in follows.rerun.field).threads;
      spelled = follows.spelled;
      count = sym (length-map boxes (λ box. box.value)) ∙ (ap length c.in_ok-threads.ensures.each ∙ (length-map repeated (λ it. held.Repeated it) ∙ follows.count));
    }

pub returns-clause-follows : goal.returns-clause-follows
returns-clause-follows c = record {
  repeated = c.in_ok-repeated.repeated.items;
  follows = c.in_ok-repeated.ensures.follows;
  sessions_are = c.in_ok-threads.ensures.each;
}
