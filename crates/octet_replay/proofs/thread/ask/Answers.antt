use Rattle.std.proofs.Common.{ap, ◌∙◌}
use Rattle.octet_interp.specs.Demands.{ThreadState}
use Rattle.octet_replay.proofs.Asking.{asked_read, asked_write, asked_bump, asked_end, asked_on, counts_at_read, counts_at_write, counts_at_bump, counts_at_end, counts_on}
use Rattle.octet_replay.proofs.thread.ask.Goals as goal

pub returns-in-Read-clause-up_next : goal.returns-in-Read-clause-up_next
returns-in-Read-clause-up_next c =
    asked_read c.args.config.now.commands c.args.config.now.at c.loop-next.config c.next.new.self c.in-Read.object
    (record { runs = c.loop-next.invariant.runs; settles = c.loop-next.invariant.settles; tells = c.in-Read.ensures.demand; stands = c.in-Read.ensures.state })

pub returns-in-Write-clause-up_next : goal.returns-in-Write-clause-up_next
returns-in-Write-clause-up_next c =
    asked_write c.args.config.now.commands c.args.config.now.at c.loop-next.config c.next.new.self c.in-Write.object c.in-Write.value
    (record { runs = c.loop-next.invariant.runs; settles = c.loop-next.invariant.settles; tells = c.in-Write.ensures.demand; stands = c.in-Write.ensures.state })

pub returns-in-Bump-clause-up_next : goal.returns-in-Bump-clause-up_next
returns-in-Bump-clause-up_next c =
    asked_bump c.args.config.now.commands c.args.config.now.at c.loop-next.config c.next.new.self c.in-Bump.object c.in-Bump.amount
    (record { runs = c.loop-next.invariant.runs; settles = c.loop-next.invariant.settles; tells = c.in-Bump.ensures.demand; stands = c.in-Bump.ensures.state })

pub loop-next-preserved : goal.loop-next-preserved
loop-next-preserved c =
    let on = asked_on c.args.config.now.commands c.args.config.now.at c.loop-next.config c.next.new.self c.next.result c.in-Safe.is
    (record { runs = c.loop-next.invariant.runs; settles = c.loop-next.invariant.settles; tells = c.next.ensures.demand; stands = c.next.ensures.state }) in
    record {
      runs = ap (λ (x : ThreadState). x.commands) c.next.ensures.state ∙ c.loop-next.invariant.runs;
      has = ap (λ (x : ThreadState). x.objects) c.next.ensures.state ∙ c.loop-next.invariant.has;
      asked = on.0;
      settles = on.1;
      counts = counts_on c.loop-next.config c.next.new.self c.next.ensures.state _ c.loop-next.invariant.counts c.next.result c.in-Safe.is c.next.ensures.demand;
    }

pub returns-in-Ended-clause-up_next : goal.returns-in-Ended-clause-up_next
returns-in-Ended-clause-up_next c =
    asked_end c.args.config.now.commands c.args.config.now.at c.loop-next.config c.next.new.self c.in-Ended.end
    (record { runs = c.loop-next.invariant.runs; settles = c.loop-next.invariant.settles; tells = c.in-Ended.ensures.demand; stands = c.in-Ended.ensures.state })

pub returns-in-Read-clause-regions : goal.returns-in-Read-clause-regions
returns-in-Read-clause-regions c = counts_at_read c.loop-next.config c.next.new.self c.in-Read.ensures.state _ c.loop-next.invariant.counts c.in-Read.object c.in-Read.ensures.demand

pub returns-in-Write-clause-regions : goal.returns-in-Write-clause-regions
returns-in-Write-clause-regions c = counts_at_write c.loop-next.config c.next.new.self c.in-Write.ensures.state _ c.loop-next.invariant.counts c.in-Write.object c.in-Write.value c.in-Write.ensures.demand

pub returns-in-Bump-clause-regions : goal.returns-in-Bump-clause-regions
returns-in-Bump-clause-regions c = counts_at_bump c.loop-next.config c.next.new.self c.in-Bump.ensures.state _ c.loop-next.invariant.counts c.in-Bump.object c.in-Bump.amount c.in-Bump.ensures.demand

pub returns-in-Ended-clause-regions : goal.returns-in-Ended-clause-regions
returns-in-Ended-clause-regions c = counts_at_end c.loop-next.config c.next.new.self c.in-Ended.ensures.state _ c.loop-next.invariant.counts c.in-Ended.end c.in-Ended.ensures.demand
