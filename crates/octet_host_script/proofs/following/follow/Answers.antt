use Rattle.std.proofs.Common.{rules, ◌≡◌, ◌∙◌, length, ap, sym, subst}
use Rattle.octet_model.specs.declared.script.Script.{Script}
use Rattle.octet_model.specs.declared.log.Log.{Log}
use Rattle.octet_parallel.specs.Calls.{log_in}
use Rattle.octet_rerun.specs.Reruns.{EachAtStart}
use Rattle.octet_host_script.specs.Opened.{EachFirstAgain}
use Rattle.octet_host_script.specs.Spelled.{IsSpelled}
use Rattle.octet_host_script.proofs.following.follow.Goals as goal

pub seat_all-requires-clause-start : goal.seat_all-requires-clause-start
seat_all-requires-clause-start c =
    let items : c.into_vec-followers.result.items ≡ c.in-Ok.new.1 = search rules in
    subst (λ rerun. EachAtStart rerun c.into_vec-followers.result.items) (sym c.in_ok-course.ensures)
    (subst (EachAtStart c.in-Ok.new.0) (sym items) c.in-Ok.ensures.followers)

pub returns-clause-follows : goal.returns-clause-follows
returns-clause-follows c =
    let items : c.into_vec-followers.result.items ≡ c.in-Ok.new.1 = search rules in
    let of_script = c.in-Ok.ensures.of.0 in let of_log = c.in-Ok.ensures.of.1 in record {
      rerun = c.in-Ok.new.0;
      spelled = subst (λ (script : Script). IsSpelled c.args.text.now c.args.bytes.now script (log_in c.in-Ok.new.0.field).threads) (sym of_script)
          (subst (λ (log : Log). IsSpelled c.args.text.now c.args.bytes.now c.in_ok-script.script log.threads) (sym of_log) c.in_ok-script.ensures.spelled);
      count = c.in_ok-seat_all.ensures.count ∙ (ap length items ∙ (c.in-Ok.ensures.as_many.0 ∙ ap (λ (log : Log). length log.threads) (sym of_log)));
      share = (c.in_ok-course.course.value, c.in_ok-seat_all.ensures.share);
      each = subst (λ rerun. EachFirstAgain rerun c.in_ok-seat_all.field-0.items) c.in_ok-course.ensures c.in_ok-seat_all.ensures.first;
    }
