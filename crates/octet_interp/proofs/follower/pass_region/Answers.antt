use Rattle.std.proofs.Common.{◌≡◌, ℕ, pred, ◌<◌, Bool, true, false, cond, List, [], ◌∷◌, ◌++◌, length, get_or, slice_index, sym, ap, ◌∙◌, arith}
use Rattle.std.proofs.lemmas.Option.{slice_get-get_or, slice_get_past}
use Rattle.octet_model.specs.declared.command.Command.{Command}
use Rattle.octet_model.specs.declared.command.Command.TheVariants.{Set}
use Rattle.octet_model.specs.Thread.{Configuration, is_access, settled, stepped}
use Rattle.octet_interp.specs.Context.{configuration_of, Obeys}
use Rattle.octet_interp.specs.Leads.{lead_of, IsLeadTable}
use Rattle.octet_interp.specs.Following.{is_region, places_ahead}
use Rattle.octet_interp.proofs.RegionsRun.{most_one}
use Rattle.octet_interp.proofs.Runs.{goes_on, one_fuel, stays_at, stays_past}
use Rattle.octet_interp.proofs.Followed.{counts_none, counts_one, none_at_access, none_past_all, places_on}
use Rattle.octet_interp.proofs.follower.pass_region.Goals as goal

-- where the command at hand leads
went_on : (commands : List Command) (leads : List ℕ) (here there : Configuration) → IsLeadTable commands leads → here.place < length commands → Obeys (get_or commands here.place (Set 0 0)) (slice_index leads here.place) here there
    → there ≡ stepped commands here (get_or commands here.place (Set 0 0))
went_on commands leads here there table lt obeys =
    let at = slice_get-get_or commands here.place (Set 0 0) lt in
    obeys commands (table.right here.place lt ∙ ap (lead_of commands here.place) at)

module _ (commands : List Command) (here there first : Configuration) (lt : here.place < length commands) (fuelled : 0 < here.fuel)
    (plain : is_access (get_or commands here.place (Set 0 0)) ≡ false) (went : there ≡ stepped commands here (get_or commands here.place (Set 0 0))) where
  abbrev command : Command
  command = get_or commands here.place (Set 0 0)

  one_less : there.fuel ≡ pred here.fuel
  one_less = ap (λ (d : Configuration). d.fuel) went ∙ one_fuel commands here command

  -- the command is passed, and told if it is a `region`
  passed : (b : Bool) → is_region command ≡ b → places_ahead commands here ≡ places_ahead commands first → places_ahead commands first ≡ cond b (here.place ∷ []) [] ++ places_ahead commands there
  passed b is ahead =
      sym ahead ∙ places_on commands here command (slice_get-get_or commands here.place (Set 0 0) lt) plain fuelled
      ∙ ap (λ (b : Bool). cond b (here.place ∷ []) [] ++ places_ahead commands (stepped commands here command)) is
      ∙ ap (λ (d : Configuration). cond b (here.place ∷ []) [] ++ places_ahead commands d) (sym went)

  settles_on : settled commands here ≡ settled commands first → settled commands there ≡ settled commands first
  settles_on settles = ap (settled commands) went ∙ goes_on is_access commands here command (slice_get-get_or commands here.place (Set 0 0) lt) plain fuelled ∙ settles

pub returns-then-is_access-clause-none : goal.returns-then-is_access-clause-none
returns-then-is_access-clause-none c none =
    let here = configuration_of c.loop-context.context in
    let ahead = none_at_access c.args.commands.now here _ (slice_get-get_or c.args.commands.now here.place (Set 0 0) c.loop-context-test.true) (sym c.is_access.ensures ∙ c.if-is_access.true) in
    (sym c.loop-context.invariant.ahead ∙ ahead, ahead, c.loop-context.invariant.regions)

pub returns-then-is_access-clause-stands : goal.returns-then-is_access-clause-stands
returns-then-is_access-clause-stands c none =
    let here = configuration_of c.loop-context.context in
    sym (stays_at is_access c.args.commands.now here.fuel here _ (slice_get-get_or c.args.commands.now here.place (Set 0 0) c.loop-context-test.true) (sym c.is_access.ensures ∙ c.if-is_access.true))
    ∙ c.loop-context.invariant.settles

pub returns-then-is_region-clause-some : goal.returns-then-is_region-clause-some
returns-then-is_region-clause-some c =
    let region = sym c.is_region.ensures ∙ c.if-is_region.true in (
      passed c.args.commands.now (configuration_of c.loop-context.context) (configuration_of c.obey.new.context) (configuration_of c.args.context.now) c.loop-context-test.true (omega arith) (sym c.is_access.ensures ∙ c.if-is_access.false)
          (went_on c.args.commands.now c.args.leads.now (configuration_of c.loop-context.context) (configuration_of c.obey.new.context) c.requires.leads c.loop-context-test.true c.obey.ensures.obeys) true region c.loop-context.invariant.ahead,
      omega (arith, c.obey.ensures.regions, counts_one (get_or c.args.commands.now c.loop-context.context.place (Set 0 0)) region, c.loop-context.invariant.regions),
    )

pub returns-then-is_region-clause-settles : goal.returns-then-is_region-clause-settles
returns-then-is_region-clause-settles c = settles_on c.args.commands.now (configuration_of c.loop-context.context) (configuration_of c.obey.new.context) (configuration_of c.args.context.now) c.loop-context-test.true (omega arith) (sym c.is_access.ensures ∙ c.if-is_access.false)
    (went_on c.args.commands.now c.args.leads.now (configuration_of c.loop-context.context) (configuration_of c.obey.new.context) c.requires.leads c.loop-context-test.true c.obey.ensures.obeys) c.loop-context.invariant.settles

pub returns-then-is_region-clause-few : goal.returns-then-is_region-clause-few
returns-then-is_region-clause-few c =
    let less = one_less c.args.commands.now (configuration_of c.loop-context.context) (configuration_of c.obey.new.context) (configuration_of c.args.context.now) c.loop-context-test.true (omega arith) (sym c.is_access.ensures ∙ c.if-is_access.false)
    (went_on c.args.commands.now c.args.leads.now (configuration_of c.loop-context.context) (configuration_of c.obey.new.context) c.requires.leads c.loop-context-test.true c.obey.ensures.obeys) in
    omega (arith, less, c.obey.ensures.regions, most_one (get_or c.args.commands.now c.loop-context.context.place (Set 0 0)), c.loop-context.invariant.few)

pub loop-context-smaller : goal.loop-context-smaller
loop-context-smaller c = let less = one_less c.args.commands.now (configuration_of c.loop-context.context) (configuration_of c.obey.new.context) (configuration_of c.args.context.now) c.loop-context-test.true (omega arith) (sym c.is_access.ensures ∙ c.if-is_access.false)
    (went_on c.args.commands.now c.args.leads.now (configuration_of c.loop-context.context) (configuration_of c.obey.new.context) c.requires.leads c.loop-context-test.true c.obey.ensures.obeys) in omega (arith, less)

pub loop-context-preserved : goal.loop-context-preserved
loop-context-preserved c =
    let command = get_or c.args.commands.now c.loop-context.context.place (Set 0 0) in
    let other : is_region command ≡ false = sym c.is_region.ensures ∙ c.if-is_region.false in
    let less = one_less c.args.commands.now (configuration_of c.loop-context.context) (configuration_of c.obey.new.context) (configuration_of c.args.context.now) c.loop-context-test.true (omega arith) (sym c.is_access.ensures ∙ c.if-is_access.false)
    (went_on c.args.commands.now c.args.leads.now (configuration_of c.loop-context.context) (configuration_of c.obey.new.context) c.requires.leads c.loop-context-test.true c.obey.ensures.obeys) in
    record {
      ahead = sym (passed c.args.commands.now (configuration_of c.loop-context.context) (configuration_of c.obey.new.context) (configuration_of c.args.context.now) c.loop-context-test.true (omega arith) (sym c.is_access.ensures ∙ c.if-is_access.false)
          (went_on c.args.commands.now c.args.leads.now (configuration_of c.loop-context.context) (configuration_of c.obey.new.context) c.requires.leads c.loop-context-test.true c.obey.ensures.obeys) false other c.loop-context.invariant.ahead);
      settles = settles_on c.args.commands.now (configuration_of c.loop-context.context) (configuration_of c.obey.new.context) (configuration_of c.args.context.now) c.loop-context-test.true (omega arith) (sym c.is_access.ensures ∙ c.if-is_access.false)
          (went_on c.args.commands.now c.args.leads.now (configuration_of c.loop-context.context) (configuration_of c.obey.new.context) c.requires.leads c.loop-context-test.true c.obey.ensures.obeys) c.loop-context.invariant.settles;
      regions = omega (arith, c.obey.ensures.regions, counts_none command other, c.loop-context.invariant.regions);
      few = omega (arith, less, c.obey.ensures.regions, most_one command, c.loop-context.invariant.few);
    }

pub returns-clause-none : goal.returns-clause-none
returns-clause-none c none =
    let ahead = none_past_all c.args.commands.now (configuration_of c.loop-context.context) (slice_get_past c.args.commands.now c.loop-context.context.place (omega arith)) in
    (sym c.loop-context.invariant.ahead ∙ ahead, ahead, c.loop-context.invariant.regions)

pub returns-clause-stands : goal.returns-clause-stands
returns-clause-stands c none =
    let here = configuration_of c.loop-context.context in
    sym (stays_past is_access c.args.commands.now here.fuel here (slice_get_past c.args.commands.now here.place (omega arith))) ∙ c.loop-context.invariant.settles
