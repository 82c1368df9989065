use Rattle.std.proofs.Common.{◌≡◌, ℕ, suc, pred, ◌+◌, get_or, Option, sym, ap, ◌∙◌, arith}
use Rattle.std.proofs.lemmas.Option.{slice_get-get_or, slice_get_past}
use Rattle.octet_model.specs.declared.command.Command.{Command}
use Rattle.octet_model.specs.declared.command.Command.TheVariants.{Set}
use Rattle.octet_model.specs.Thread.{Configuration, stepped}
use Rattle.octet_interp.specs.Context.{configuration_of}
use Rattle.octet_interp.specs.Leads.{lead_of}
use Rattle.octet_interp.specs.Demands.{at_demand, is_demand, demand_from}
use Rattle.octet_interp.specs.Regions.{region_count, regions_to}
use Rattle.octet_interp.proofs.RegionsRun.{counts_on, most_one, none_past, none_where_it_stops}
use Rattle.octet_interp.proofs.Runs.{not_told_if, is_told_if, one_fuel, arrives_at_told, arrives_past, arrives_on, tells, can_pass}
use Rattle.octet_interp.proofs.context.advance.Goals as goal

pub returns-in-Some-clause-at_demand : goal.returns-in-Some-clause-at_demand
returns-in-Some-clause-at_demand c =
    sym (arrives_at_told c.args.commands.now (configuration_of c.loop-context.context) _ c.in-Some.demand (slice_get-get_or c.args.commands.now c.loop-context.context.place _ c.loop-context-test.true) (sym c.in-Some.ensures.demand))
    ∙ c.loop-context.invariant.arrives

pub returns-in-Some-clause-demand : goal.returns-in-Some-clause-demand
returns-in-Some-clause-demand c =
    sym (ap (λ (o : Option Command). demand_from o (configuration_of c.loop-context.context)) (slice_get-get_or c.args.commands.now c.loop-context.context.place _ c.loop-context-test.true)
    ∙ tells _ (configuration_of c.loop-context.context) c.in-Some.demand (omega arith) (sym c.in-Some.ensures.demand))

pub returns-in-Some-clause-ready : goal.returns-in-Some-clause-ready
returns-in-Some-clause-ready c = can_pass c.in-Some.demand _ _ _ (omega arith) (omega arith)

went_on : (c : goal.After-obey) → configuration_of c.obey.new.context ≡ stepped c.args.commands.now (configuration_of c.loop-context.context) (get_or c.args.commands.now c.loop-context.context.place (Set 0 0))
went_on c =
    let at = slice_get-get_or c.args.commands.now c.loop-context.context.place (Set 0 0) c.loop-context-test.true in
    c.obey.ensures.obeys c.args.commands.now (c.requires.leads.right c.loop-context.context.place c.loop-context-test.true ∙ ap (lead_of c.args.commands.now c.loop-context.context.place) at)

one_less : (c : goal.After-obey) → c.obey.new.context.fuel ≡ pred c.loop-context.context.fuel
one_less c = ap (λ (d : Configuration). d.fuel) (went_on c) ∙ one_fuel c.args.commands.now (configuration_of c.loop-context.context) (get_or c.args.commands.now c.loop-context.context.place (Set 0 0))

-- what the command counts, and what is counted on from there
counted_on : (c : goal.After-obey) → c.obey.new.context.regions + regions_to is_demand c.args.commands.now c.obey.new.context.fuel (configuration_of c.obey.new.context)
    ≡ c.loop-context.context.regions + regions_to is_demand c.args.commands.now c.loop-context.context.fuel (configuration_of c.loop-context.context)
counted_on c =
    let before = configuration_of c.loop-context.context in
    let command = get_or c.args.commands.now c.loop-context.context.place (Set 0 0) in
    let there = slice_get-get_or c.args.commands.now c.loop-context.context.place (Set 0 0) c.loop-context-test.true in
    let plain = not_told_if command before.registers (sym c.in_default.ensures.demand) in
    let n : before.fuel ≡ suc (pred before.fuel) = omega arith in
    let on : regions_to is_demand c.args.commands.now before.fuel before ≡ region_count command + regions_to is_demand c.args.commands.now (pred before.fuel) (stepped c.args.commands.now before command) =
    ap (λ (f : ℕ). regions_to is_demand c.args.commands.now f before) n ∙ counts_on is_demand c.args.commands.now (pred before.fuel) before command there plain in
    let same : regions_to is_demand c.args.commands.now c.obey.new.context.fuel (configuration_of c.obey.new.context) ≡ regions_to is_demand c.args.commands.now (pred before.fuel) (stepped c.args.commands.now before command) =
    (λ i. regions_to is_demand c.args.commands.now (one_less c i) (went_on c i)) in
    omega (arith, on, same, c.obey.ensures.regions)

pub loop-context-smaller : goal.loop-context-smaller
loop-context-smaller c = omega (arith, one_less c)

pub loop-context-preserved : goal.loop-context-preserved
loop-context-preserved c = record {
  arrives = ap (at_demand c.args.commands.now) (went_on c)
      ∙ arrives_on c.args.commands.now (configuration_of c.loop-context.context) _ (slice_get-get_or c.args.commands.now c.loop-context.context.place (Set 0 0) c.loop-context-test.true) (sym c.in_default.ensures.demand) (omega arith)
      ∙ c.loop-context.invariant.arrives;
  fuel = omega (arith, one_less c);
  regions = omega (arith, counted_on c, c.loop-context.invariant.regions);
  few = omega (arith, one_less c, c.obey.ensures.regions, most_one (get_or c.args.commands.now c.loop-context.context.place (Set 0 0)), c.loop-context.invariant.few);
}

pub returns-clause-at_demand : goal.returns-clause-at_demand
returns-clause-at_demand c = sym (arrives_past c.args.commands.now (configuration_of c.loop-context.context) (omega arith)) ∙ c.loop-context.invariant.arrives

pub returns-clause-demand : goal.returns-clause-demand
returns-clause-demand c = ap (λ (o : Option Command). demand_from o (configuration_of c.loop-context.context)) (sym (slice_get_past c.args.commands.now c.loop-context.context.place (omega arith)))

-- where the run ends, none are counted any more
ends_counted : (now total rest : ℕ) → now + rest ≡ total → rest ≡ 0 → now ≡ total
ends_counted now total rest is none = omega (arith, is, none)

pub returns-in-Some-clause-regions : goal.returns-in-Some-clause-regions
returns-in-Some-clause-regions c =
    ends_counted _ _ _ c.loop-context.invariant.regions
    (none_where_it_stops is_demand c.args.commands.now _ (configuration_of c.loop-context.context) (get_or c.args.commands.now c.loop-context.context.place (Set 0 0))
    (slice_get-get_or c.args.commands.now c.loop-context.context.place _ c.loop-context-test.true) (is_told_if _ _ c.in-Some.demand (sym c.in-Some.ensures.demand)))

pub returns-clause-regions : goal.returns-clause-regions
returns-clause-regions c =
    ends_counted _ _ _ c.loop-context.invariant.regions
    (none_past is_demand c.args.commands.now _ (configuration_of c.loop-context.context) (slice_get_past c.args.commands.now c.loop-context.context.place (omega arith)))
