use Rattle.std.proofs.Common.{rules, ◌≡◌, ◌∙◌, Some, ap, sym, subst}
use Rattle.octet_heap.specs.Calls.{Polls}
use Rattle.octet_heap.specs.Workers.{seat_of}
use Rattle.octet_heap.specs.declared.worker.Worker.{Worker}
use Rattle.octet_recorder.specs.Tracks.{pending_of}
use Rattle.octet_recorder.proofs.Keeping.{polled_own}
use Rattle.octet_recorder.proofs.recorder.Recorder.go_on.Goals as goal

pub returns-clause-notes : goal.returns-clause-notes
returns-clause-notes c =
    let has : c.args.track.now.worker.pending ≡ Some c.args.access = c.requires.own.pending ∙ (ap pending_of c.requires.begun ∙ c.requires.wanted) in record {
      polls = subst (λ (w : Worker). Polls c.args.access (seat_of c.args.track.now.worker) c.poll-poll.result (seat_of w)) (sym c.take_in.ensures.worker) (c.poll-poll.ensures.polls c.args.access has);
      lines = search rules;
      region = search rules;
    }

pub returns-clause-own : goal.returns-clause-own
returns-clause-own c =
    polled_own c.args.self.now c.args.wanted c.args.access c.args.track.now c.poll-poll.result c.take_in.new.self c.requires.own c.requires.begun c.requires.wanted
    (search rules) (search rules) (search rules) (search rules) (returns-clause-notes c) (search rules)
