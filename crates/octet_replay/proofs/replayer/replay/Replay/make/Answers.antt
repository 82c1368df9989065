use Rattle.std.proofs.Common.{Some, refl, sym, subst, ap, ◌∙◌}
use Rattle.std.proofs.lemmas.Option.{slice_get-get_or}
use Rattle.octet_model.specs.declared.log.ThreadLog.{ThreadLog}
use Rattle.octet_replay.specs.declared.thread.ThreadReplay.{ThreadReplay}
use Rattle.octet_replay.specs.Needs.{after_step}
use Rattle.octet_replay.specs.Replayed.{IsNextOf}
use Rattle.octet_replay.specs.Threads.{need_of, next_by_counts}
use Rattle.octet_replay.proofs.replayer.replay.Replay.make.Goals as goal

pub returns : goal.returns
returns c =
    let r = c.args.self.now in
    let was = c.index_mut-it.result.now in
    record {
      was = was;
      becomes = c.make.new.self;
      is_there = slice_get-get_or r.threads.items c.args.thread was c.requires.can.within ∙ ap (λ (t : ThreadReplay). Some t) (sym c.index_mut-it.ensures.value);
      grown = c.make.ensures;
      next_is = subst (λ (log : ThreadLog). IsNextOf log c.make.new.self c.next-next.result) c.requires.of_log (record { is = c.next-next.ensures.next; within = c.next-next.ensures.within });
      threads = refl;
      heap = c.change_heap.ensures;
      waits =
          c.step.ensures
          ∙ (λ i. after_step r.waits c.args.thread (c.is_draw-draw.ensures i)
          ((c.need.ensures ∙ ap need_of c.next-next.ensures.next ∙ ap (λ (log : ThreadLog). need_of (next_by_counts log c.make.new.self)) c.requires.of_log) i));
      script = refl;
      log = refl;
    }
