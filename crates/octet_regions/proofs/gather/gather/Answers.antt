use Rattle.std.proofs.Common.{ap, ◌∙◌}
use Rattle.octet_replay.specs.ReplayState.{ReplayState}
use Rattle.octet_regions.proofs.Gathering.{gathered_all, gathered_none}
use Rattle.octet_regions.proofs.gather.gather.Goals as goal

pub loop-access-init : goal.loop-access-init
loop-access-init c =
    let opens = c.in_ok-replayer.ensures.opens in
    record {
      script = ap (λ (x : ReplayState). x.script) opens;
      log = ap (λ (x : ReplayState). x.log) opens;
      gathered = gathered_none c.in_ok-replayer.replayer _ (ap (λ (x : ReplayState). x.steps) opens) c.new-accesses.ensures.items;
    }

pub returns-clause-gathered : goal.returns-clause-gathered
returns-clause-gathered c =
    let inv = c.loop-access.invariant in
    gathered_all c.next_access.new.replayer c.args.script.now c.args.log.now c.loop-access.accesses.items (c.next_access.ensures.script ∙ inv.script) (c.next_access.ensures.log ∙ inv.log) c.in_ok-replayer.ensures.agree c.in_default.ensures.adds.1
    (c.in_default.ensures.adds.0 c.loop-access.accesses.items inv.gathered)
