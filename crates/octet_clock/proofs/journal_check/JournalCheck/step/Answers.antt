use Rattle.std.proofs.Common.{◌≡◌, ℕ, suc, ◌+◌, [], length, Some, Option, sym, ap, ◌∙◌, subst, arith}
use Rattle.octet_model.specs.declared.event.Event.{Event}
use Rattle.octet_model.specs.HappensBefore.{event_at}
use Rattle.octet_model.specs.Plays.{next_in, lowest_play}
use Rattle.octet_replay.specs.declared.need.Need.{Need}
use Rattle.octet_replay.specs.Needs.{after_step, NamesThread}
use Rattle.octet_replay.specs.Replayed.{is_draw}
use Rattle.octet_replay.specs.Threads.{need_of}
use Rattle.octet_clock.specs.declared.journal_check.JournalCheck.{JournalCheck}
use Rattle.octet_clock.specs.Following.{counted}
use Rattle.octet_clock.specs.Play.{made_by}
use Rattle.octet_clock.proofs.checks.JournalsAlone.{as_many_needs, checks_on, fit_in_places, made_is, more_counted, need_names, play_within, room, room_for_draw, room_for_event, some_event, thread_within, waits_for_nothing}
use Rattle.octet_clock.proofs.journal_check.JournalCheck.step.Goals as goal

pub unreachable-requires : goal.unreachable-requires
unreachable-requires c =
    some_event c.args.journals.now c.requires.lawful c.args.self.now c.requires.at c.args.thread c.requires.lowest c.count-place.result c.count-place.ensures (sym c.event_at.ensures ∙ c.in_default.is)

pub take_in-requires-clause-threads : goal.take_in-requires-clause-threads
take_in-requires-clause-threads c = omega (arith, (fit_in_places c.args.journals.now c.requires.lawful).threads, c.requires.at.many)

pub take_in-requires-clause-thread : goal.take_in-requires-clause-thread
take_in-requires-clause-thread c =
    omega (arith, thread_within c.args.journals.now c.requires.lawful c.args.self.now c.requires.at c.args.thread c.requires.lowest, c.requires.at.many)

-- the event is the next of the thread
next_event : (c : goal.After-take_in-arg-1) → event_at c.args.journals.now (record { thread = c.args.thread; event = made_by (lowest_play [] c.args.journals.now) (counted c.args.self.now.waits) c.args.thread }) ≡ Some c.in-Some.event
next_event c =
    ap (λ (n : ℕ). event_at c.args.journals.now (record { thread = c.args.thread; event = n }))
    (sym (made_is c.args.journals.now c.requires.lawful c.args.self.now c.requires.at c.args.thread c.requires.lowest) ∙ sym c.count-place.ensures)
    ∙ sym c.event_at.ensures ∙ c.in-Some.is

pub take_in-requires-clause-room : goal.take_in-requires-clause-room
take_in-requires-clause-room c =
    omega (
      arith,
      room c.args.journals.now c.requires.lawful c.args.self.now c.requires.at c.args.thread c.requires.lowest c.in-Some.event (next_event c),
      made_is c.args.journals.now c.requires.lawful c.args.self.now c.requires.at c.args.thread c.requires.lowest,
    )

pub returns-in_err-take_in-clause-within : goal.returns-in_err-take_in-clause-within
returns-in_err-take_in-clause-within c = play_within c.args.journals.now c.requires.lawful c.args.self.now c.requires.at c.args.thread c.requires.lowest

pub overflow_add-place : goal.overflow_add-place
overflow_add-place c =
    let js = c.args.journals.now in
    let count_is = made_is js c.requires.lawful c.args.self.now c.requires.at c.args.thread c.requires.lowest in
    let there : event_at js (record { thread = c.args.thread; event = made_by (lowest_play [] js) (counted c.args.self.now.waits) c.args.thread }) ≡ Some c.in-Some.event =
    ap (λ (n : ℕ). event_at js (record { thread = c.args.thread; event = n })) (sym count_is ∙ sym c.count-place.ensures) ∙ sym c.event_at.ensures ∙ c.in-Some.is in
    omega (arith, room js c.requires.lawful c.args.self.now c.requires.at c.args.thread c.requires.lowest c.in-Some.event there, count_is, c.count-place.ensures)

-- the same, once it is taken in
event_taken : (c : goal.After-count_event-arg-1) → event_at c.args.journals.now (record { thread = c.args.thread; event = made_by (lowest_play [] c.args.journals.now) (counted c.args.self.now.waits) c.args.thread }) ≡ Some c.in-Some.event
event_taken c =
    ap (λ (n : ℕ). event_at c.args.journals.now (record { thread = c.args.thread; event = n }))
    (sym (made_is c.args.journals.now c.requires.lawful c.args.self.now c.requires.at c.args.thread c.requires.lowest) ∙ sym c.count-place.ensures)
    ∙ sym c.event_at.ensures ∙ c.in-Some.is

next_need : (c : goal.After-count_event-arg-1) → c.need_of-next.result ≡ need_of (next_in (event_at c.args.journals.now (record { thread = c.args.thread; event = c.count-place.result + 1 })))
next_need c = c.need_of-next.ensures ∙ ap (λ (o : Option Event). need_of (next_in o)) c.event_at-2.ensures

pub count_event-requires-clause-names : goal.count_event-requires-clause-names
count_event-requires-clause-names c =
    let js = c.args.journals.now in
    let many = as_many_needs js c.requires.lawful c.args.self.now c.requires.at c.args.thread c.requires.lowest in
    subst (λ (need : Need). NamesThread (length c.args.self.now.waits.needs) need) (sym (next_need c))
    (subst (λ (n : ℕ). NamesThread n (need_of (next_in (event_at js (record { thread = c.args.thread; event = c.count-place.result + 1 }))))) (sym many)
    (need_names js c.requires.lawful c.args.thread (c.count-place.result + 1)))

pub count_event-requires-clause-events : goal.count_event-requires-clause-events
count_event-requires-clause-events c =
    omega (arith, room_for_event c.args.journals.now c.requires.lawful c.args.self.now c.requires.at c.args.thread c.requires.lowest c.in-Some.event (event_taken c))

pub count_event-requires-clause-draws : goal.count_event-requires-clause-draws
count_event-requires-clause-draws c draw =
    omega (arith, room_for_draw c.args.journals.now c.requires.lawful c.args.self.now c.requires.at c.args.thread c.requires.lowest c.in-Some.event (event_taken c) draw)

pub count_event-requires-clause-free : goal.count_event-requires-clause-free
count_event-requires-clause-free c =
    waits_for_nothing c.args.journals.now c.requires.lawful c.args.self.now c.requires.at c.args.thread c.requires.lowest c.in-Some.event (event_taken c)

pub returns : goal.returns
returns c =
    let js = c.args.journals.now in
    let of = c.requires.lawful in
    let check = c.args.self.now in
    let at = c.requires.at in
    let t = c.args.thread in
    let lowest = c.requires.lowest in
    let event = c.in-Some.event in
    let k = made_by (lowest_play [] js) (counted check.waits) t in
    let count_is = made_is js of check at t lowest in
    let there : event_at js (record { thread = t; event = k }) ≡ Some event =
    ap (λ (n : ℕ). event_at js (record { thread = t; event = n })) (sym count_is ∙ sym c.count-place.ensures) ∙ sym c.event_at.ensures ∙ c.in-Some.is in
    let place : ℕ = c.count-place.result + 1 in
    let place_is : place ≡ suc k = omega (arith, c.count-place.ensures, count_is) in
    let need_is = c.need_of-next.ensures ∙ ap (λ (o : Option Event). need_of (next_in o)) c.event_at-2.ensures in
    let check' : JournalCheck = record { checker = c.take_in.new.self; waits = c.count_event.new.waits } in
    let waits_are = c.count_event.ensures ∙ (λ i. after_step check.waits t (is_draw event) (need_is i)) in
    record {
      at = checks_on js of check at t lowest event there place place_is check' c.in_ok-take_in.ensures.many c.in_ok-take_in.ensures.taken waits_are;
      within = play_within js of check at t lowest;
      more = more_counted js of check at t lowest event there place place_is check' c.in_ok-take_in.ensures.many c.in_ok-take_in.ensures.taken waits_are;
    }
