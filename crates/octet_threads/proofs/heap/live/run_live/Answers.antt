use Rattle.std.proofs.Common.{rules, ◌≡◌, ◌∙◌, List, All, Option, length, sym, ap, subst}
use Rattle.std.specs.List.{AllZip}
use Rattle.std.proofs.Math.ListN.{drop}
use Rattle.std.proofs.lemmas.List.{take_at}
use Rattle.std.proofs.lemmas.List.Elements.{length_all_zip}
use Rattle.octet_model.specs.Journals.{log_of}
use Rattle.octet_heap.specs.Seated.{journals_of}
use Rattle.octet_threads.specs.declared.heap.runner.Runner.{Runner}
use Rattle.octet_threads.specs.Runners.{AreOf, HasEnded, IsSame}
use Rattle.octet_threads.specs.Work.{SendEach, workers_in}
use Rattle.octet_base.specs.declared.fault.DeskFault.{DeskFault}
use Rattle.octet_live.specs.Written.{IsWritten}
use Rattle.octet_live.specs.Drained.{IsFresh}
use Rattle.octet_live.proofs.lemmas.Adding.{failed_rose, is_write_answer}
use Rattle.octet_threads.proofs.live_log.Leaving.{log_written, partly_written, nothing_added}
use Rattle.octet_threads.proofs.runners.Opening.{still_of}
use Rattle.octet_threads.proofs.heap.live.run_live.Goals as goal

pub returns-in_default-clause-partly : goal.returns-in_default-clause-partly
returns-in_default-clause-partly g c = nothing_added c.args.script.now (g.D.Desk.state c.args.desk.now)

pub run_written-requires-clause-send : goal.run_written-requires-clause-send
run_written-requires-clause-send g c κs within = subst (SendEach c.in-Ok.opened.drainer) (sym c.as_mut_slice.ensures.value) c.in-Ok.ensures.send

pub run_written-requires-clause-fresh : goal.run_written-requires-clause-fresh
run_written-requires-clause-fresh g c κs within = subst (λ (l : List Runner). IsFresh (length l) c.in-Ok.opened.drainer) (sym c.as_mut_slice.ensures.value) c.in-Ok.ensures.fresh

pub finish_run-requires-clause-runners : goal.finish_run-requires-clause-runners
finish_run-requires-clause-runners g c =
    let made = c.in-Ok.opened.runners.items in
    let ran = c.run_written.new.runners in
    let zip : AllZip IsSame made ran = search rules in
    let long : length made ≡ c.in-Ok.opened.runners.len = search rules in
    let many : length ran ≡ c.in-Ok.opened.runners.len = sym (length_all_zip IsSame made ran zip) ∙ long in
    subst (AreOf c.args.script.now) (sym (take_at ran (drop (length ran) made) c.in-Ok.opened.runners.len many)) (still_of c.args.script.now made ran c.in-Ok.ensures.runners zip)

pub finish_run-requires-clause-ended : goal.finish_run-requires-clause-ended
finish_run-requires-clause-ended g c =
    let made = c.in-Ok.opened.runners.items in
    let ran = c.run_written.new.runners in
    let zip : AllZip IsSame made ran = search rules in
    let long : length made ≡ c.in-Ok.opened.runners.len = search rules in
    let many : length ran ≡ c.in-Ok.opened.runners.len = sym (length_all_zip IsSame made ran zip) ∙ long in
    subst (λ (l : List Runner). All (HasEnded c.in-Ok.opened.heap) l) (sym (take_at ran (drop (length ran) made) c.in-Ok.opened.runners.len many)) c.run_written.ensures.ended

pub returns-in-Ok-finish_run-clause-written : goal.returns-in-Ok-finish_run-clause-written
returns-in-Ok-finish_run-clause-written g c =
    let made = c.in-Ok.opened.runners.items in
    let ran = c.run_written.new.runners in
    let value : c.as_mut_slice.result.now ≡ made = search rules in
    let zip : AllZip IsSame made ran = search rules in
    let long : length made ≡ c.in-Ok.opened.runners.len = search rules in
    let many : length ran ≡ c.in-Ok.opened.runners.len = sym (length_all_zip IsSame made ran zip) ∙ long in
    let all = take_at ran (drop (length ran) made) c.in-Ok.opened.runners.len many in
    let kept : c.kept-kept.result ≡ c.run_written.new.drainer.kept = c.kept-kept.ensures in
    subst (λ (fault : Option DeskFault). IsWritten c.in-Ok-finish_run.recorded.log.threads (g.D.Desk.state c.args.desk.now) fault (g.D.Desk.state c.run_written.new.desk)) (sym kept)
    (log_written ran c.in-Ok-finish_run.recorded.log.threads (length c.as_mut_slice.result.now) c.run_written.new.drainer.kept _ _
    (c.in-Ok-finish_run.ensures.log ∙ ap (λ (l : List Runner). log_of (journals_of (workers_in l))) all) (ap (λ (l : List Runner). length l) value ∙ length_all_zip IsSame made ran zip) c.run_written.ensures.writes)

pub returns-in-Ok-finish_run-clause-failed : goal.returns-in-Ok-finish_run-clause-failed
returns-in-Ok-finish_run-clause-failed g c =
    let kept : c.kept-kept.result ≡ c.run_written.new.drainer.kept = c.kept-kept.ensures in
    λ failed. failed_rose c.run_written.ensures.writes.pieces _ _ c.run_written.new.drainer.kept c.run_written.ensures.writes.adds (sym kept ∙ failed)

pub returns-in-Ok-finish_run-clause-kept : goal.returns-in-Ok-finish_run-clause-kept
returns-in-Ok-finish_run-clause-kept g c =
    let kept : c.kept-kept.result ≡ c.run_written.new.drainer.kept = c.kept-kept.ensures in
    let never = is_write_answer c.run_written.ensures.writes.pieces _ _ c.run_written.new.drainer.kept c.run_written.ensures.writes.adds in
    (λ is. never.0 (sym kept ∙ is), λ is. never.1 (sym kept ∙ is))

pub returns-clause-partly : goal.returns-clause-partly
returns-clause-partly g c =
    let made = c.in-Ok.opened.runners.items in
    let ran = c.run_written.new.runners in
    let value : c.as_mut_slice.result.now ≡ made = search rules in
    let zip : AllZip IsSame made ran = search rules in
    partly_written c.args.script.now c.in-Ok.opened.heap ran (length c.as_mut_slice.result.now) c.run_written.new.drainer.kept _ _ c.in-Ok.ensures.heap (still_of c.args.script.now made ran c.in-Ok.ensures.runners zip) c.run_written.ensures.ended
    (ap (λ (l : List Runner). length l) value ∙ length_all_zip IsSame made ran zip) c.run_written.ensures.writes
