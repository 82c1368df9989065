use Rattle.std.proofs.Common.{rules, ◌≡◌, ◌∙◌, sym, subst}
use Rattle.octet_interp.specs.declared.demand.Demand.{Demand}
use Rattle.octet_interp.specs.declared.demand.Demand.TheVariants.{Read, Write, Bump}
use Rattle.octet_interp.specs.Demands.{ThreadState, next_demand, after_demand, given}
use Rattle.octet_interp.specs.Laws.{IsJournalOf}
use Rattle.octet_heap.specs.Workers.{seat_of}
use Rattle.octet_threads.specs.Tasks.{task_of, Does}
use Rattle.octet_threads.specs.Carrying.{TellsAgain}
use Rattle.octet_threads.proofs.tasks.Doing.{pauses, safes, blocks_at_end}
use Rattle.octet_threads.proofs.tasks.Journals.{read_kept, write_kept, bump_kept, safe_kept, pause_kept, end_kept, end_told_again}
use Rattle.octet_threads.proofs.heap.carrying.carry_with_backoff.Goals as goal

pub returns-in-Read : goal.returns-in-Read
returns-in-Read g c =
    let s = c.args.config.now in
    let tells : next_demand s ≡ Read c.in-Read.object = sym c.next-demand.ensures.demand ∙ c.in-Read.is in
    let stands : c.give.new.self ≡ given (after_demand s) c.access-value.result = search rules in record {
      own = search rules;
      left = search rules;
      number = search rules;
      is_next = search rules;
      commands = search rules;
      objects = search rules;
      waits = search rules;
      ends = search rules;
      steps = search rules;
      journal = λ start kept. subst (λ (t : ThreadState). IsJournalOf start (seat_of c.access-value.new.worker).journal t) (sym stands)
          (read_kept start s c.in-Read.object c.access-value.result (seat_of c.args.worker.now) (seat_of c.access-value.new.worker) tells c.access-value.ensures.journal kept);
    }

pub returns-in-Write : goal.returns-in-Write
returns-in-Write g c =
    let s = c.args.config.now in
    let tells : next_demand s ≡ Write c.in-Write.object c.in-Write.value = sym c.next-demand.ensures.demand ∙ c.in-Write.is in record {
      own = search rules;
      left = search rules;
      number = search rules;
      is_next = search rules;
      commands = search rules;
      objects = search rules;
      waits = search rules;
      ends = search rules;
      steps = search rules;
      journal = λ start kept. subst (λ (t : ThreadState). IsJournalOf start (seat_of c.access.new.worker).journal t) (sym c.next-demand.ensures.state)
          (write_kept start s c.in-Write.object c.in-Write.value c.access.result (seat_of c.args.worker.now) (seat_of c.access.new.worker) tells c.access.ensures.journal kept);
    }

pub returns-in-Bump : goal.returns-in-Bump
returns-in-Bump g c =
    let s = c.args.config.now in
    let tells : next_demand s ≡ Bump c.in-Bump.object c.in-Bump.amount = sym c.next-demand.ensures.demand ∙ c.in-Bump.is in record {
      own = search rules;
      left = search rules;
      number = search rules;
      is_next = search rules;
      commands = search rules;
      objects = search rules;
      waits = search rules;
      ends = search rules;
      steps = search rules;
      journal = λ start kept. subst (λ (t : ThreadState). IsJournalOf start (seat_of c.access-in-Bump.new.worker).journal t) (sym c.next-demand.ensures.state)
          (bump_kept start s c.in-Bump.object c.in-Bump.amount c.access-in-Bump.result (seat_of c.args.worker.now) (seat_of c.access-in-Bump.new.worker) tells c.access-in-Bump.ensures.journal kept);
    }

pub returns-in-Safe : goal.returns-in-Safe
returns-in-Safe g c =
    let s = c.args.config.now in record {
      own = search rules;
      left = search rules;
      number = search rules;
      is_next = search rules;
      commands = search rules;
      objects = search rules;
      waits = search rules;
      ends = search rules;
      steps = subst (λ (d : Demand). Does (task_of d) (seat_of c.args.worker.now) (seat_of c.safe_point.new.worker)) (sym c.in-Safe.is)
          (safes (seat_of c.args.worker.now) (seat_of c.safe_point.new.worker) c.safe_point.result c.requires.can.own.owes_nothing c.requires.can.idle.0 c.safe_point.ensures.step);
      journal = λ start kept. subst (λ (t : ThreadState). IsJournalOf start (seat_of c.safe_point.new.worker).journal t) (sym c.next-demand.ensures.state)
          (safe_kept start s (seat_of c.args.worker.now) (seat_of c.safe_point.new.worker) (sym c.next-demand.ensures.demand ∙ c.in-Safe.is) c.safe_point.ensures.same kept);
    }

pub returns-in-Pause : goal.returns-in-Pause
returns-in-Pause g c =
    let s = c.args.config.now in
    let done = pauses (seat_of c.args.worker.now) (seat_of c.block.new.worker) (seat_of c.unblock.new.worker) c.block.ensures.step.0 c.unblock.ensures.step.0
    c.requires.can.own.owes_nothing c.requires.can.idle.0 c.block.ensures.step.1 c.unblock.ensures.step.1 in record {
      own = search rules;
      left = search rules;
      number = search rules;
      is_next = search rules;
      commands = search rules;
      objects = search rules;
      waits = search rules;
      ends = search rules;
      steps = subst (λ (d : Demand). Does (task_of d) (seat_of c.args.worker.now) (seat_of c.unblock.new.worker)) (sym c.in-Pause.is) done;
      journal = λ start kept. subst (λ (t : ThreadState). IsJournalOf start (seat_of c.unblock.new.worker).journal t) (sym c.next-demand.ensures.state)
          (pause_kept start s (seat_of c.args.worker.now) (seat_of c.unblock.new.worker) (sym c.next-demand.ensures.demand ∙ c.in-Pause.is) (c.unblock.ensures.same ∙ c.block.ensures.same) kept);
    }

pub returns-in-Ended : goal.returns-in-Ended
returns-in-Ended g c =
    let s = c.args.config.now in
    let again = end_told_again s c.in-Ended.end (sym c.next-demand.ensures.demand ∙ c.in-Ended.is) in record {
      own = search rules;
      left = search rules;
      number = search rules;
      is_next = search rules;
      commands = search rules;
      objects = search rules;
      waits = search rules;
      ends = subst (λ (t : ThreadState). TellsAgain c.next-demand.result t) (sym c.next-demand.ensures.state)
          (subst (λ (d : Demand). TellsAgain d (after_demand s)) (sym c.in-Ended.is) again);
      steps = subst (λ (d : Demand). Does (task_of d) (seat_of c.args.worker.now) (seat_of c.block-in-Ended.new.worker)) (sym c.in-Ended.is)
          (blocks_at_end c.in-Ended.end (seat_of c.args.worker.now) (seat_of c.block-in-Ended.new.worker) c.block-in-Ended.ensures.step.0 c.requires.can.own.owes_nothing c.requires.can.idle.0 c.block-in-Ended.ensures.step.1);
      journal = λ start kept. subst (λ (t : ThreadState). IsJournalOf start (seat_of c.block-in-Ended.new.worker).journal t) (sym c.next-demand.ensures.state)
          (end_kept start s c.in-Ended.end (seat_of c.args.worker.now) (seat_of c.block-in-Ended.new.worker) (sym c.next-demand.ensures.demand ∙ c.in-Ended.is) c.block-in-Ended.ensures.same kept);
    }
