use Rattle.std.proofs.Common.{◌<◌, List, [], ◌∷◌, ◌++◌, length, rules, refl, sym, ap, ◌∙◌, subst, arith}
use Rattle.octet_model.specs.declared.script.Script.{Script}
use Rattle.octet_regions.specs.declared.access.Access.{Access}
use Rattle.octet_regions.specs.code.Bounds.{bounds_of}
use Rattle.octet_regions.specs.code.Chooser.{AreQueuesOf, FitQueues}
use Rattle.octet_regions.proofs.Gathering.{fit_of, gathered_all, gathered_none, rises_so_far}
use Rattle.octet_regions.proofs.QueuesByAccess.{queues_begin, queues_more}
use Rattle.octet_regions.proofs.chooser.queues_of.Goals as goal

pub loop-access-init : goal.loop-access-init
loop-access-init c = record {
  script = refl;
  log = refl;
  seen = [];
  gathered = gathered_none c.args.replayer.now [] c.requires.begins refl;
  queues = queues_begin c.args.threads c.in_ok-queues.queues.items c.in_ok-queues.ensures;
  last = c.new-last.ensures;
}

pub index_mut-queue-requires : goal.index_mut-queue-requires
index_mut-queue-requires c =
    let inv = c.loop-access.invariant in
    let within : c.in-Some.access.region.thread < length c.loop-access.queues.items = omega (arith, c.in-Some.ensures.adds.1, c.requires.threads, ap (λ (s : Script). length s.threads) inv.script, inv.queues.as_many) in
    search rules

pub note-requires-clause-thread : goal.note-requires-clause-thread
note-requires-clause-thread c =
    omega (arith, c.in-Some.ensures.adds.1, c.requires.threads, ap (λ (s : Script). length s.threads) c.loop-access.invariant.script, c.requires.few)

pub note-requires-clause-room : goal.note-requires-clause-room
note-requires-clause-room c = omega (arith, c.in-Some.ensures.adds.2)

pub loop-access-preserved : goal.loop-access-preserved
loop-access-preserved c =
    let inv = c.loop-access.invariant in
    let gathered = c.in-Some.ensures.adds.0 inv.seen inv.gathered in
    record {
      script = c.next_access.ensures.script ∙ inv.script;
      log = c.next_access.ensures.log ∙ inv.log;
      seen = inv.seen ++ c.in-Some.access ∷ [];
      gathered = gathered;
      queues =
          queues_more c.args.threads inv.seen c.in-Some.access c.loop-access.queues.items c.index_mut-queue.result.now c.take_in.new.self (bounds_of c.conflicts-conflicts.result) (rises_so_far c.next_access.new.replayer (inv.seen ++ c.in-Some.access ∷ []) gathered) inv.queues
          (omega (arith, c.in-Some.ensures.adds.1, c.requires.threads, ap (λ (s : Script). length s.threads) inv.script, inv.queues.as_many)) c.index_mut-queue.ensures.value
          (c.conflicts-conflicts.ensures inv.seen inv.last) c.in_ok-take_in.ensures.taken c.in_ok-take_in.ensures.over c.in_ok-take_in.ensures.knows c.in_ok-take_in.ensures.keeps;
      last = c.in_ok-note.ensures inv.seen inv.last;
    }

pub returns-clause-fit : goal.returns-clause-fit
returns-clause-fit c =
    let inv = c.loop-access.invariant in
    let s = c.args.replayer.now in
    let is = gathered_all c.next_access.new.replayer s.script s.log inv.seen (c.next_access.ensures.script ∙ inv.script) (c.next_access.ensures.log ∙ inv.log) c.requires.agree c.in_default.ensures.adds.1 (c.in_default.ensures.adds.0 inv.seen inv.gathered) in
    subst (λ (seen : List Access). FitQueues c.args.threads seen) is (fit_of c.loop-access.replayer c.args.threads inv.seen c.requires.few (c.requires.threads ∙ sym (ap (λ (x : Script). length x.threads) inv.script)) inv.gathered)

pub returns-clause-queues : goal.returns-clause-queues
returns-clause-queues c =
    let inv = c.loop-access.invariant in
    let s = c.args.replayer.now in
    let is = gathered_all c.next_access.new.replayer s.script s.log inv.seen (c.next_access.ensures.script ∙ inv.script) (c.next_access.ensures.log ∙ inv.log) c.requires.agree c.in_default.ensures.adds.1 (c.in_default.ensures.adds.0 inv.seen inv.gathered) in
    subst (λ (seen : List Access). AreQueuesOf c.args.threads seen c.loop-access.queues.items) is inv.queues
