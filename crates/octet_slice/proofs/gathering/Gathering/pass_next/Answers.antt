use Rattle.std.proofs.Common.{◌≡◌, suc, ◌+◌, arith, inl, inr, ap, ◌∙◌}
use Rattle.octet_slice.specs.code.Reached.{gathered, raised, with_searched}
use Rattle.octet_slice.proofs.Passing.{passes_it}
use Rattle.octet_slice.proofs.Settling.{no_draws}
use Rattle.octet_slice.proofs.gathering.Gathering.pass_next.Goals as goal
use Rattle.octet_slice.proofs.gathering.Gathering.pass_next.Goals.{in-Draw+else-number-self, in_default-mark}

pub returns-then-self-eq0-clause-settled : goal.returns-then-self-eq0-clause-settled
returns-then-self-eq0-clause-settled c = λ has_passed journals of now are part. no_draws journals c.args.logs.now (gathered c.args.self.now) c.args.thread are c.if-self-eq0.true

pub returns-clause-advances : goal.returns-clause-advances
returns-clause-advances c =
    passes_it c.args.logs.now (gathered c.args.self.now) (gathered c.match-next-2.self) (gathered c.move_searched.new.self) c.args.thread c.index-logs-thread.result c.in-Some.next c.requires.here c.requires.there
    c.index-logs-thread.is c.index.result.now c.index.ensures c.in-Some.ensures.next c.in-Some.ensures.left
    (elim c.match-next-2.branch [
      | in-Draw+else-number-self w ↦
          let next : c.in-Some.next.event + 1 ≡ suc c.in-Some.next.event = omega arith in
          inl (w.in-Draw.number, w.in-Draw.is, w.if-number-self.false, ap gathered w.self-is ∙ w.raise.ensures ∙ ap (raised (gathered c.args.self.now) c.args.thread) next)
      | in_default-mark w ↦ inr (w.in_default-mark.not-Draw, ap gathered w.self-is)
    ])
    (c.move_searched.ensures ∙ ap (with_searched (gathered c.match-next-2.self) c.args.thread) c.past.ensures)
