use Rattle.std.proofs.Common.{rules, List, sym, subst}
use Rattle.std.specs.Option.{ForSome}
use Rattle.octet_model.specs.declared.event.Event.{Event}
use Rattle.octet_model.specs.Journals.{gapped_marks}
use Rattle.octet_live.specs.Feeds.{HasSent}
use Rattle.octet_threads.proofs.heap.runner.Runner.run.Goals as goal

pub invariant_of-self : goal.invariant_of-self
invariant_of-self g c =
    let self = c.args.self.now in record {
      fits = search rules;
      idle = self.idle;
      fed = subst (λ (journal : List Event). ForSome self.feed (λ feed. HasSent feed (gapped_marks 0 journal))) (sym c.unblock.ensures.same) self.fed;
    }
