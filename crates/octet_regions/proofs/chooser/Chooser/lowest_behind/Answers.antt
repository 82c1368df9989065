use Rattle.std.proofs.Common.{◌≡◌, inl, inr, length, refl, sym, ◌∙◌, subst, arith}
use Rattle.std.proofs.lemmas.Bool.{cases_lt}
use Rattle.std.proofs.lemmas.Option.{slice_get_read, slice_get_within}
use Rattle.octet_regions.specs.code.Chooser.{IsBehind}
use Rattle.octet_regions.proofs.Choosing.{behind_here, not_behind}
use Rattle.octet_regions.proofs.chooser.Chooser.lowest_behind.Goals as goal

pub returns-then-is_some : goal.returns-then-is_some
returns-then-is_some c =
    let queue = slice_get_read c.args.self.now.queues.items (length c.args.self.now.queues.items) c.loop-thread.thread c.index.result.now refl (omega (arith, c.loop-thread-test.true, c.len-thread-end.ensures)) c.index.ensures in
    (behind_here c.args.self.now.queues.items c.loop-thread.thread c.index.result.now queue c.next.result c.next.ensures (sym c.is_some.ensures ∙ c.if-is_some.true), c.loop-thread.invariant)

pub loop-thread-preserved : goal.loop-thread-preserved
loop-thread-preserved c = λ lower lt behind.
    elim (cases_lt lower c.loop-thread.thread) [
      | inl lower' ↦ c.loop-thread.invariant lower lower' behind
      | inr ge ↦
          let here : lower ≡ c.loop-thread.thread = omega (arith, ge, lt) in
          let queue = slice_get_read c.args.self.now.queues.items (length c.args.self.now.queues.items) c.loop-thread.thread c.index.result.now refl (omega (arith, c.loop-thread-test.true, c.len-thread-end.ensures)) c.index.ensures in
          not_behind c.args.self.now.queues.items c.loop-thread.thread c.index.result.now queue c.next.result c.next.ensures (sym c.is_some.ensures ∙ c.if-is_some.false) (subst (IsBehind c.args.self.now.queues.items) here behind)
    ]

pub returns : goal.returns
returns c = λ thread behind. c.loop-thread.invariant thread (omega (arith, slice_get_within c.args.self.now.queues.items thread behind.queue behind.is_there, c.loop-thread-test.false, c.len-thread-end.ensures)) behind
