use Rattle.std.proofs.Common.{refl, rules}
use Rattle.octet_model.specs.declared.event.Event.TheVariants.{Update}
use Rattle.octet_model.specs.Thread.{added}
use Rattle.octet_state.specs.Steps.{target, ToBump}
use Rattle.octet_rule.specs.Seats.{view}
use Rattle.octet_rule.specs.Changes.{amount_by}
use Rattle.octet_heap.proofs.log.Entries.{gains, open_before, follows, takes_access}
use Rattle.octet_heap.proofs.recorder.Recorder.update.Goals as goal

pub add_access-requires : goal.add_access-requires
add_access-requires c = record { few = c.requires.more.few; near = c.requires.more.near }

pub invariant_of-self : goal.invariant_of-self
invariant_of-self c = let r = c.args.self.now in let v = view r.seat in let amount = amount_by c.args.change c.update-before.result in
    let update = Update (target v.thread.phase) c.update-before.result (added amount c.update-before.result) in record {
      logged = follows (ToBump amount) v _ c.update-before.result update _ r.base c.update-before.ensures.step.step refl (c.add_access.ensures.log r.base v.journal update refl r.logged);
    }

pub returns-clause-keeps : goal.returns-clause-keeps
returns-clause-keeps c = let r = c.args.self.now in let v = view r.seat in let w = view c.update-before.new.seat in let e = c.add_access.ensures in let amount = amount_by c.args.change c.update-before.result in
    let update = Update (target v.thread.phase) c.update-before.result (added amount c.update-before.result) in record {
      own = search rules;
      same_base = refl;
      counts = e.counts;
      takes = takes_access v.journal w.journal update r.log c.add_access.new.self (gains (ToBump amount) v w c.update-before.result update c.update-before.ensures.step.step refl) refl (open_before (ToBump amount) v w c.update-before.result c.update-before.ensures.step.step) e.counts e.marked e.marks;
    }
