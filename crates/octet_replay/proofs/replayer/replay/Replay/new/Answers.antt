use Rattle.std.proofs.Common.{◌≡◌, List, length, ap, ◌∙◌, subst, arith}
use Rattle.std.specs.List.{sum}
use Rattle.octet_model.specs.declared.log.ThreadLog.{ThreadLog}
use Rattle.octet_replay.specs.declared.need.Need.{Need}
use Rattle.octet_replay.specs.declared.thread.ThreadReplay.{ThreadReplay}
use Rattle.octet_replay.specs.Needs.{NeedsAndCounts}
use Rattle.octet_replay.specs.Replayed.{AreNeedsOf}
use Rattle.octet_replay.proofs.Stepping.{opening_is, at_start, start_stands, start_names}
use Rattle.octet_replay.proofs.lemmas.Awaiting.{sum_none}
use Rattle.octet_replay.proofs.replayer.replay.Replay.new.Goals as goal

are_needs : (log logs : List ThreadLog) (threads now : List ThreadReplay) (needs : List Need) → logs ≡ log → now ≡ threads → AreNeedsOf logs now needs → AreNeedsOf log threads needs
are_needs log logs threads now needs p q are =
    subst (λ (ls : List ThreadLog). AreNeedsOf ls threads needs) p (subst (λ (ts : List ThreadReplay). AreNeedsOf logs ts needs) q are)

pub new-requires-clause-names : goal.new-requires-clause-names
new-requires-clause-names c =
    let agree : length c.args.script.now.threads ≡ length c.args.log.now.threads = omega arith in
    start_names c.args.script.now c.args.log.now.threads agree c.in_ok-threads.threads.items c.in_ok-threads.ensures.as_many c.in_ok-threads.ensures.each c.args.log.now.valid
    c.in_ok-needs.needs (are_needs c.args.log.now.threads c.as_slice.result.now c.in_ok-threads.threads.items c.deref.result.now c.in_ok-needs.needs c.as_slice.ensures c.deref.ensures.value c.in_ok-needs.ensures)

pub returns-clause-opens : goal.returns-clause-opens
returns-clause-opens c =
    opening_is (record { threads = c.in_ok-threads.threads; heap = c.in_ok-starting_heap.field-0; waits = c.in_ok-new.field-0; script = c.of.result; log = c.of-2.result })
    c.args.script.now c.args.log.now c.of.ensures c.of-2.ensures
    (ap (λ (w : NeedsAndCounts). sum w.events) c.in_ok-new.ensures ∙ sum_none (length c.in_ok-needs.needs))

pub returns-clause-at : goal.returns-clause-at
returns-clause-at c =
    let agree : length c.args.script.now.threads ≡ length c.args.log.now.threads = omega arith in
    at_start (record { threads = c.in_ok-threads.threads; heap = c.in_ok-starting_heap.field-0; waits = c.in_ok-new.field-0; script = c.of.result; log = c.of-2.result })
    c.args.script.now c.args.log.now c.of.ensures c.of-2.ensures agree
    (ap (λ (w : NeedsAndCounts). sum w.events) c.in_ok-new.ensures ∙ sum_none (length c.in_ok-needs.needs))
    (start_stands c.args.script.now c.args.log.now.threads agree c.in_ok-threads.threads.items c.in_ok-threads.ensures.as_many c.in_ok-threads.ensures.each
    c.in_ok-starting_heap.field-0.items c.in_ok-needs.needs c.in_ok-new.field-0 c.in_ok-starting_heap.ensures (are_needs c.args.log.now.threads c.as_slice.result.now c.in_ok-threads.threads.items c.deref.result.now c.in_ok-needs.needs c.as_slice.ensures c.deref.ensures.value c.in_ok-needs.ensures) c.in_ok-new.ensures)
