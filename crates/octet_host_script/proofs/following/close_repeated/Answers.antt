use Rattle.std.proofs.Common.{◌≡◌, refl, sym, ap, subst}
use Rattle.octet_model.specs.declared.outcome.Outcome.{Outcome}
use Rattle.octet_host.proofs.lemmas.Taking.{any_more}
use Rattle.octet_host_script.specs.declared.kept.Kept.{Kept}
use Rattle.octet_host_script.specs.declared.repeated.Course.{Course}
use Rattle.octet_host_script.specs.Records.{RepeatsRecording}
use Rattle.octet_host_script.specs.Threads.{course_of}
use Rattle.octet_host_script.proofs.following.close_repeated.Goals as goal

pub returns-clause-repeats : goal.returns-clause-repeats
returns-clause-repeats c =
    let course = c.in_ok-course.course in
    let kept : Kept = record { script = course.script; log = course.log; values = c.in_ok-heap.field-0.outcome.heap } in
    let repeats : RepeatsRecording course kept = record {
      script_is = refl;
      log_is = refl;
      spelled = course.spelled;
      values = λ outcome faithful. ap (λ (o : Outcome). o.heap) (c.in_ok-heap.ensures.outcome outcome faithful);
    } in
    any_more (λ it. it.course.value ≡ course) (λ it. RepeatsRecording (course_of it) kept) (λ it same. subst (λ (h : Course). RepeatsRecording h kept) (sym same) repeats) c.args.threads.items c.in_ok-course.ensures.shared
