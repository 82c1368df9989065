use Rattle.std.proofs.Common.{◌≡◌, ℕ, ◌^◌, ◌<◌, ◌≤◌, length, Some, slice_get, refl, sym, ap, ◌∙◌, subst, arith}
use Rattle.std.specs.Vec.{with_item}
use Rattle.octet_model.specs.declared.limits.TheConstants.{MAX_ACCESSES}
use Rattle.octet_model.specs.declared.log.ThreadLog.{ThreadLog}
use Rattle.octet_model.specs.Orders.{thread_log_of}
use Rattle.octet_replay.specs.declared.need.Need.{Need}
use Rattle.octet_replay.specs.Needs.{after_step, NamesThread}
use Rattle.octet_replay.specs.Threads.{need_of}
use Rattle.octet_replay.proofs.lemmas.Valid.{few_accesses, few_marks}
use Rattle.octet_clock.specs.declared.log_walk.LogWalk.{LogWalk}
use Rattle.octet_clock.specs.LogWalks.{next_by_progress, Advances, WantsSome}
use Rattle.octet_clock.proofs.plays.WalksAlone.{as_many_needs, few_counted, gap_within_accesses, log_within, more_counted, names_thread, own_read, progress_read, room_for_draw, room_for_event, walks_on, wants}
use Rattle.octet_clock.proofs.log_walk.LogWalk.step.Goals as goal

-- the thread's log and progress, as they were read
own_is : (c : goal.After-advance-arg-1) → c.index-as_slice-thread.result ≡ thread_log_of c.args.log.now.threads c.args.thread
own_is c = own_read c.args.log.now.threads c.args.log.now.valid c.args.self.now c.requires.at c.args.thread c.requires.ready c.as_slice.result.now c.index-as_slice-thread.result c.as_slice.ensures c.index-as_slice-thread.is

there : (c : goal.After-advance-arg-1) → slice_get c.args.self.now.threads.items c.args.thread ≡ Some c.index_mut-progress.result.now
there c = progress_read c.args.log.now.threads c.args.log.now.valid c.args.self.now c.requires.at c.args.thread c.requires.ready c.index_mut-progress.result.now c.index_mut-progress.ensures.value

pub advance-draw-requires-clause-wants : goal.advance-draw-requires-clause-wants
advance-draw-requires-clause-wants c =
    subst (λ (l : ThreadLog). WantsSome l c.index_mut-progress.result.now) (sym (own_is c))
    (wants c.args.log.now.threads c.args.log.now.valid c.args.self.now c.requires.at c.args.thread c.requires.ready c.index_mut-progress.result.now (there c))

pub advance-draw-requires-clause-accesses : goal.advance-draw-requires-clause-accesses
advance-draw-requires-clause-accesses c = subst (λ (l : ThreadLog). l.accesses ≤ MAX_ACCESSES) (sym (own_is c)) (few_accesses c.args.log.now.threads c.args.log.now.valid c.args.thread)

pub advance-draw-requires-clause-gap : goal.advance-draw-requires-clause-gap
advance-draw-requires-clause-gap c =
    gap_within_accesses c.args.log.now.threads c.args.log.now.valid c.args.self.now c.requires.at c.args.thread c.requires.ready c.index_mut-progress.result.now (there c)

pub advance-draw-requires-clause-marks : goal.advance-draw-requires-clause-marks
advance-draw-requires-clause-marks c = subst (λ (l : ThreadLog). length l.marks < 2 ^ 32) (sym (own_is c)) (few_marks c.args.log.now.threads c.args.log.now.valid c.args.thread)

-- the same, once the event is made
own_is_then : (c : goal.After-step-arg-1) → c.index-as_slice-thread.result ≡ thread_log_of c.args.log.now.threads c.args.thread
own_is_then c = own_read c.args.log.now.threads c.args.log.now.valid c.args.self.now c.requires.at c.args.thread c.requires.ready c.as_slice.result.now c.index-as_slice-thread.result c.as_slice.ensures c.index-as_slice-thread.is

there_then : (c : goal.After-step-arg-1) → slice_get c.args.self.now.threads.items c.args.thread ≡ Some c.index_mut-progress.result.now
there_then c = progress_read c.args.log.now.threads c.args.log.now.valid c.args.self.now c.requires.at c.args.thread c.requires.ready c.index_mut-progress.result.now c.index_mut-progress.ensures.value

advances : (c : goal.After-step-arg-1) → Advances (thread_log_of c.args.log.now.threads c.args.thread) c.index_mut-progress.result.now c.advance-draw.new.self c.advance-draw.result
advances c = subst (λ (l : ThreadLog). Advances l c.index_mut-progress.result.now c.advance-draw.new.self c.advance-draw.result) (own_is_then c) c.advance-draw.ensures

next_is : (c : goal.After-step-arg-1) → c.need-next.result ≡ need_of (next_by_progress (thread_log_of c.args.log.now.threads c.args.thread) c.advance-draw.new.self)
next_is c = c.need-next.ensures ∙ ap (λ (l : ThreadLog). need_of (next_by_progress l c.advance-draw.new.self)) (own_is_then c)

pub step-requires-clause-names : goal.step-requires-clause-names
step-requires-clause-names c =
    let log = c.args.log.now in
    let walk = c.args.self.now in
    let many = as_many_needs log.threads log.valid walk c.requires.at c.args.thread c.requires.ready in
    let within = log_within log.threads log.valid walk c.requires.at c.args.thread c.requires.ready in
    subst (λ (need : Need). NamesThread (length walk.waits.needs) need) (sym (next_is c))
    (subst (λ (n : ℕ). NamesThread n (need_of (next_by_progress (thread_log_of log.threads c.args.thread) c.advance-draw.new.self))) (sym many)
    (names_thread log.threads log.valid c.args.thread within c.advance-draw.new.self))

pub step-requires-clause-events : goal.step-requires-clause-events
step-requires-clause-events c =
    let room = room_for_event c.args.log.now.threads c.args.log.now.valid c.args.self.now c.requires.at c.args.thread c.requires.ready c.index_mut-progress.result.now (there_then c) in
    omega (arith, room)

pub step-requires-clause-draws : goal.step-requires-clause-draws
step-requires-clause-draws c drew =
    let room =
    room_for_draw c.args.log.now.threads c.args.log.now.valid c.args.self.now c.requires.at c.args.thread c.requires.ready c.index_mut-progress.result.now (there_then c)
    c.advance-draw.new.self c.advance-draw.result (advances c) drew in
    omega (arith, room)

pub returns : goal.returns
returns c =
    let logs = c.args.log.now.threads in
    let valid = c.args.log.now.valid in
    let walk = c.args.self.now in
    let at = c.requires.at in
    let t = c.args.thread in
    let ready = c.requires.ready in
    let p = c.index_mut-progress.result.now in
    let p' = c.advance-draw.new.self in
    let drew = c.advance-draw.result in
    let own_was = own_read logs valid walk at t ready c.as_slice.result.now c.index-as_slice-thread.result c.as_slice.ensures c.index-as_slice-thread.is in
    let there_was = progress_read logs valid walk at t ready p c.index_mut-progress.ensures.value in
    let advanced = subst (λ (l : ThreadLog). Advances l p p' drew) own_was c.advance-draw.ensures in
    let next_was = c.need-next.ensures ∙ ap (λ (l : ThreadLog). need_of (next_by_progress l p')) own_was in
    let walk' : LogWalk = record { threads = with_item walk.threads t p'; waits = c.step.new.self } in
    let stepped = c.step.ensures ∙ ap (after_step walk.waits t drew) next_was in
    let on = walks_on logs valid walk at t ready p there_was p' drew advanced walk' refl stepped in
    record {
      at = on;
      within = few_counted logs walk' on;
      more = more_counted logs valid walk at t ready p there_was p' drew advanced walk' refl stepped;
    }
