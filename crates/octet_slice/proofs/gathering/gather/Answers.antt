use Rattle.std.proofs.Common.{length, refl, ap, ◌∙◌}
use Rattle.std.proofs.lemmas.List.{length-set, length-replicate}
use Rattle.octet_slice.specs.declared.gathering.Reach.{Reach}
use Rattle.octet_slice.specs.code.Reached.{Gathered, gathered, no_reach, raised}
use Rattle.octet_slice.proofs.Settling.{begins_in_past}
use Rattle.octet_slice.proofs.gathering.gather.Goals as goal

pub loop-init : goal.loop-init
loop-init c = record {
  many =
      ap (λ (g : Gathered). length g.threads) (c.raise.ensures ∙ ap (λ (g : Gathered). raised g c.args.thread c.args.now) c.in_ok-past.ensures)
      ∙ length-set _ c.args.thread _ ∙ length-replicate {A = Reach} (length c.args.logs.now) no_reach;
  part = λ journals are le.
      begins_in_past journals c.args.logs.now c.args.thread c.args.now (length c.args.logs.now) (gathered c.in_ok-past.past) (gathered c.raise.new.self) refl c.in_ok-past.ensures c.raise.ensures c.requires are le;
}

pub loop-preserved : goal.loop-preserved
loop-preserved c = record {
  many = c.loop-test.ensures.advances.many ∙ c.loop.invariant.many;
  part = λ journals are le. c.loop-test.ensures.advances.stays_part journals c.args.thread c.args.now are (c.loop.invariant.part journals are le);
}

pub returns-clause-gathered : goal.returns-clause-gathered
returns-clause-gathered c journals are le = c.loop-test.ensures.settled refl journals c.args.thread c.args.now are (c.loop.invariant.part journals are le)
