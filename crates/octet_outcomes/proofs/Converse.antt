-- A run by moments, followed by the plain machine with fuel enough.
use Rattle.std.proofs.Common.{◌≡◌, ℕ, suc, pred, ◌+◌, ◌*◌, ◌<◌, ◌≤◌, ◌⊎◌, inl, inr, true, false, IsTrue, List, [], ◌∷◌, ◌++◌, length, set, get_or, Option, Some, None, slice_get, slice_index, refl, sym, ap, ap₂, ◌∙◌, subst, arith, length-set, get_or-set_same}
use Rattle.std.specs.List.{list_all}
use Rattle.std.proofs.lemmas.Bool.{cases_eq}
use Rattle.std.proofs.lemmas.List.{get_or-map, get_or-set_other, length-map}
use Rattle.octet_model.specs.declared.command.Command.{Command}
use Rattle.octet_model.specs.declared.command.Command.TheVariants as command
use Rattle.octet_model.specs.declared.event.Event.{Event}
use Rattle.octet_model.specs.declared.script.Script.{Script}
use Rattle.octet_model.specs.Thread.{Configuration, AccessOrEnd, ToEnd, added, is_access, settled, demand_at, demanded, past_access, configuration_after, starting_configuration}
use Rattle.octet_model.specs.Machine.{Journals, journal_of, PlainState, Operation, MakeRead, MakeWrite, MakeUpdate, Wants, event_made, heap_after, appended, performed}
use Rattle.octet_interp.specs.declared.demand.Demand.{Demand}
use Rattle.octet_interp.specs.declared.demand.Demand.TheVariants as wanted
use Rattle.octet_interp.specs.declared.program.Stand.{Stand}
use Rattle.octet_interp.specs.Standing.{access_at, access_demand, stand_of}
use Rattle.octet_outcomes.specs.Moments.{Moment, no_stand, stand_in, value_given, heap_past}
use Rattle.octet_model.specs.Machine.{Next, is_enabled}
use Rattle.octet_model.specs.Orders.{commands_of, is_done}
use Rattle.octet_interp.specs.Standing.{stand_past}
use Rattle.octet_outcomes.proofs.Fuel.{IsHalted, less_fuel}
use Rattle.octet_outcomes.proofs.Likeness.{by_access}
use Rattle.octet_outcomes.specs.Interleavings.{next_demanded, by_program, plan_with}
use Rattle.octet_outcomes.specs.Moments.{next_moment}
use Rattle.octet_outcomes.specs.Runs.{Follows}
use Rattle.octet_model.specs.Thread.{run_to}
use Rattle.octet_model.specs.Machine.{after, IsFront}
use Rattle.octet_model.specs.Plans.{Plan, opening_state, ends_of, end_of}
use Rattle.octet_model.specs.declared.outcome.End.TheVariants.{Done}
use Rattle.octet_model.proofs.lemmas.Fronts.{no_journal}
use Rattle.std.proofs.lemmas.Bool.{and_from}
use Rattle.std.proofs.lemmas.Option.{slice_get_past}
use Rattle.octet_outcomes.specs.Interleavings.{OutcomesAreFinal}
use Rattle.octet_outcomes.specs.Moments.{first_moment, AllDone}
use Rattle.octet_model.proofs.lemmas.Steps.{Makes, makes_from, same_journal, other_journal, as_many}
use Rattle.octet_model.proofs.lemmas.Splits.{configuration_split}
use Rattle.octet_interp.specs.Standing.{with_fuel}
use Rattle.octet_outcomes.proofs.Fuel.{same_past, past_fuel, pred_le}

abbrev access_of : List ℕ → Option Command → Option Demand
access_of registers o = elim o [ None ↦ None | Some command ↦ access_demand command registers ]

-- a thread with fuel that stands at an access makes it next, gets the value that the access gives, and changes the heap so
record MakesNext (commands : List Command) (d : Configuration) (heap : List ℕ) (demand : Demand) : Type 0 where
  operation : Operation
  enabled : (s : PlainState) → IsTrue (is_enabled s operation)
  wants : next_demanded (demand_at (slice_get commands d.place) d) ≡ Wants operation
  heaps : heap_after operation heap ≡ heap_past demand heap
  past : (c : Configuration) → settled commands c ≡ d → configuration_after commands c (event_made operation heap ∷ []) ≡ past_access (slice_get commands d.place) d (value_given demand heap)

at_fuel : (d : Configuration) (o : Option Command) (next : Next) → 0 < d.fuel → ((n : ℕ) → next_demanded (demand_at o (record { place = d.place; registers = d.registers; fuel = suc n })) ≡ next) → next_demanded (demand_at o d) ≡ next
at_fuel d o next fuelled h =
    let n : d.fuel ≡ suc (pred d.fuel) = omega arith in
    ap (λ (n : ℕ). next_demanded (demand_at o (record { place = d.place; registers = d.registers; fuel = n }))) n ∙ h (pred d.fuel)

makes_next : (commands : List Command) (d : Configuration) (heap : List ℕ) (demand : Demand) → 0 < d.fuel → access_at commands (stand_of d) ≡ Some demand → MakesNext commands d heap demand
makes_next commands d heap demand fuelled is = go (slice_get commands d.place) refl is
  where
    go : (o : Option Command) → slice_get commands d.place ≡ o → access_of d.registers o ≡ Some demand → MakesNext commands d heap demand
    go None at is = absurd cc
    go (Some (command.Read to object)) at is =
        let same : wanted.Read object ≡ demand = cc in
        subst (λ (a : Demand). MakesNext commands d heap a) same (record {
          operation = MakeRead object;
          enabled = λ s. refl;
          wants = ap (λ (o : Option Command). next_demanded (demand_at o d)) at ∙ at_fuel d (Some (command.Read to object)) (Wants (MakeRead object)) fuelled (λ n. refl);
          heaps = refl;
          past = λ c e. ap (λ (x : Configuration). past_access (slice_get commands x.place) x (slice_index heap object)) e;
        })
    go (Some (command.Write object from)) at is =
        let same : wanted.Write object (slice_index d.registers from) ≡ demand = cc in
        subst (λ (a : Demand). MakesNext commands d heap a) same (record {
          operation = MakeWrite object (slice_index d.registers from);
          enabled = λ s. refl;
          wants = ap (λ (o : Option Command). next_demanded (demand_at o d)) at ∙ at_fuel d (Some (command.Write object from)) (Wants (MakeWrite object (slice_index d.registers from))) fuelled (λ n. refl);
          heaps = refl;
          past = λ c e. ap (λ (x : Configuration). past_access (slice_get commands x.place) x (slice_index d.registers from)) e
              ∙ ap (λ (o : Option Command). past_access o d (slice_index d.registers from)) at ∙ sym (ap (λ (o : Option Command). past_access o d 0) at);
        })
    go (Some (command.Bump object from)) at is =
        let same : wanted.Bump object (slice_index d.registers from) ≡ demand = cc in
        subst (λ (a : Demand). MakesNext commands d heap a) same (record {
          operation = MakeUpdate object (added (slice_index d.registers from));
          enabled = λ s. refl;
          wants = ap (λ (o : Option Command). next_demanded (demand_at o d)) at ∙ at_fuel d (Some (command.Bump object from)) (Wants (MakeUpdate object (added (slice_index d.registers from)))) fuelled (λ n. refl);
          heaps = refl;
          past = λ c e. ap (λ (x : Configuration). past_access (slice_get commands x.place) x (added (slice_index d.registers from) (slice_index heap object))) e
              ∙ ap (λ (o : Option Command). past_access o d (added (slice_index d.registers from) (slice_index heap object))) at ∙ sym (ap (λ (o : Option Command). past_access o d 0) at);
        })
    go (Some _) at is = absurd cc

-- a thread has fuel for so many more accesses, and is halted in its moment or stands there
record Holds (script : Script) (more thread : ℕ) (c : Configuration) (stand : Stand) : Type 0 where
  enough : more * suc script.fuel + script.fuel ≤ c.fuel
  stands : IsHalted (commands_of script thread) stand ⊎ ((stand_of (settled (commands_of script thread) c) ≡ stand) × (c.fuel ≤ (settled (commands_of script thread) c).fuel + script.fuel))

abbrev config_with : Script → ℕ → ℕ → List Event → Configuration
config_with script fuel thread journal = configuration_after (commands_of script thread) (starting_configuration fuel) journal

record HoldsAll (script : Script) (fuel more : ℕ) (s : PlainState) (m : Moment) : Type 0 where
  heap : s.heap ≡ m.heap
  journals : length s.journals ≡ length script.threads
  stands : length m.stands ≡ length script.threads
  each : (thread : ℕ) → thread < length script.threads → Holds script more thread (config_with script fuel thread (journal_of s.journals thread)) (stand_in m thread)

fewer : (script : Script) (more thread : ℕ) (c : Configuration) (stand : Stand) → Holds script (suc more) thread c stand → Holds script more thread c stand
fewer script more thread c stand holds = record { enough = omega (arith, holds.enough); stands = holds.stands }

not_halted : (commands : List Command) (stand : Stand) (demand : Demand) → access_at commands stand ≡ Some demand → IsHalted commands stand → ⊥
not_halted commands stand demand is halted = go halted.command halted.plain (sym (ap (access_of stand.registers) halted.at) ∙ is)
  where
    go : (command : Command) → is_access command ≡ false → access_demand command stand.registers ≡ Some demand → ⊥
    go (command.Read to object) plain is = cc
    go (command.Write object from) plain is = cc
    go (command.Bump object from) plain is = cc
    go _ plain is = cc

module _ (script : Script) (fuel more : ℕ) (s : PlainState) (m between : Moment) (t : ℕ) (lt : t < length script.threads) (holds : HoldsAll script fuel (suc more) s m) (next : next_moment script m t ≡ Some between) where
  abbrev plan : Plan
  plan = plan_with script fuel

  abbrev commands : List Command
  commands = commands_of script t

  abbrev journal : List Event
  journal = journal_of s.journals t

  abbrev c : Configuration
  c = config_with script fuel t journal

  abbrev d : Configuration
  d = settled commands c

  by : (demand : Demand) × (access_at commands (stand_in m t) ≡ Some demand) × (record { stands = set m.stands t (stand_past commands script.fuel (stand_in m t) (value_given demand m.heap)); heap = heap_past demand m.heap } ≡ between)
  by = by_access m t commands script.fuel (access_at commands (stand_in m t)) between next

  abbrev demand : Demand
  demand = by.0

  here : (stand_of d ≡ stand_in m t) × (c.fuel ≤ d.fuel + script.fuel)
  here = elim (holds.each t lt).stands [ inl halted ↦ absurd (not_halted commands (stand_in m t) by.0 by.1 halted) | inr is ↦ is ]

  enough : suc more * suc script.fuel + script.fuel ≤ c.fuel
  enough = (holds.each t lt).enough

  makes : MakesNext commands d s.heap by.0
  makes = makes_next commands d s.heap by.0 (omega (arith, enough, here.1)) (ap (access_at commands) here.0 ∙ by.1)

  -- the plain machine makes the access
  made : Makes (by_program plan) s t makes.operation
  made = makes_from (by_program plan) s t makes.operation (omega (arith, lt, holds.journals)) makes.wants (makes.enabled s)

  abbrev passed : Configuration
  passed = past_access (slice_get commands d.place) d (value_given by.0 s.heap)

  config_is : config_with script fuel t (journal ++ event_made makes.operation s.heap ∷ []) ≡ past_access (slice_get commands d.place) d (value_given by.0 s.heap)
  config_is = configuration_split commands (starting_configuration fuel) journal (event_made makes.operation s.heap ∷ []) ∙ makes.past c refl

  -- the thread itself
  itself : Holds script more t passed (stand_past commands script.fuel (stand_in m t) (value_given by.0 m.heap))
  itself =
      let o = slice_get commands d.place in
      let fuel_is : passed.fuel ≡ pred d.fuel = past_fuel (slice_get commands d.place) d (value_given by.0 s.heap) in
      let some : d.fuel ≡ suc (pred d.fuel) = let pos : 0 < d.fuel = omega (arith, enough, here.1) in omega arith in
      let left : more * suc script.fuel + script.fuel ≤ passed.fuel = omega (arith, enough, here.1, fuel_is, some) in
      let stand : stand_past commands script.fuel (stand_in m t) (value_given by.0 m.heap) ≡ stand_of (run_to is_access commands (pred script.fuel) (with_fuel (pred script.fuel) (stand_of passed))) =
      ap₂ (λ (x : Stand) (h : List ℕ). stand_past commands script.fuel x (value_given by.0 h)) (sym here.0) (sym holds.heap)
      ∙ ap (λ (e : Configuration). stand_of (run_to is_access commands e.fuel e)) (same_past (slice_get commands d.place) d script.fuel (value_given by.0 s.heap)) in
      let alike = less_fuel commands (pred script.fuel) passed.fuel passed refl (omega (arith, left, pred_le script.fuel)) in
      record {
        enough = left;
        stands = elim alike [
          | inl halted ↦ inl (subst (λ (x : Stand). IsHalted commands x) (sym stand) halted)
          | inr same ↦ inr (same.stand ∙ sym stand, omega (arith, same.left, pred_le script.fuel))
        ];
      }

  stepped_on : HoldsAll script fuel more (performed s t makes.operation) between
  stepped_on = subst (λ (k : Moment). HoldsAll script fuel more (performed s t makes.operation) k) by.2 (record {
    heap = makes.heaps ∙ ap (heap_past by.0) holds.heap;
    journals = as_many s.journals t (event_made makes.operation s.heap) ∙ holds.journals;
    stands = length-set m.stands t (stand_past commands script.fuel (stand_in m t) (value_given by.0 m.heap)) ∙ holds.stands;
    each = λ u within. elim (cases_eq u t) [
      | inl e ↦ subst (λ (v : ℕ). Holds script more v (config_with script fuel v (journal_of (appended s.journals t (event_made makes.operation s.heap)) v)) (get_or (set m.stands t (stand_past commands script.fuel (stand_in m t) (value_given by.0 m.heap))) v no_stand)) (sym e)
          (subst (λ (x : Stand). Holds script more t (config_with script fuel t (journal_of (appended s.journals t (event_made makes.operation s.heap)) t)) x)
          (sym (get_or-set_same m.stands t (stand_past commands script.fuel (stand_in m t) (value_given by.0 m.heap)) no_stand (omega (arith, lt, holds.stands))))
          (subst (λ (e : Configuration). Holds script more t e (stand_past commands script.fuel (stand_in m t) (value_given by.0 m.heap)))
          (sym (ap (config_with script fuel t) (same_journal s.journals t (event_made makes.operation s.heap) made.within) ∙ config_is)) itself))
      | inr ne ↦ subst (λ (x : Stand). Holds script more u (config_with script fuel u (journal_of (appended s.journals t (event_made makes.operation s.heap)) u)) x)
          (sym (get_or-set_other m.stands t u (stand_past commands script.fuel (stand_in m t) (value_given by.0 m.heap)) no_stand ne))
          (subst (λ (e : Configuration). Holds script more u e (stand_in m u)) (sym (ap (config_with script fuel u) (other_journal s.journals t u (event_made makes.operation s.heap) ne)))
          (fewer script more u (config_with script fuel u (journal_of s.journals u)) (stand_in m u) (holds.each u within)))
    ];
  })

record Played (script : Script) (fuel : ℕ) (s : PlainState) (order : List ℕ) (last : Moment) : Type 0 where
  front : IsFront (by_program (plan_with script fuel)) s order
  holds : HoldsAll script fuel 0 (after (by_program (plan_with script fuel)) s order) last

plays : (script : Script) (fuel : ℕ) (picks : List ℕ) (s : PlainState) (m last : Moment) → Follows script m picks last → HoldsAll script fuel (length picks) s m → Played script fuel s picks last
plays script fuel [] s m last is holds = record { front = tt; holds = subst (λ (k : Moment). HoldsAll script fuel 0 s k) (sym is) holds }
plays script fuel (t ∷ picks) s m last f holds =
    let by = made script fuel (length picks) s m f.1.0 t f.0 holds f.1.1 in
    let rest = plays script fuel picks (performed s t (makes script fuel (length picks) s m f.1.0 t f.0 holds f.1.1).operation) f.1.0 last f.1.2 (stepped_on script fuel (length picks) s m f.1.0 t f.0 holds f.1.1) in
    record {
      front = (by.may, subst (λ (x : PlainState). IsFront (by_program (plan_with script fuel)) x picks) (sym by.stepped) rest.front);
      holds = subst (λ (x : PlainState). HoldsAll script fuel 0 (after (by_program (plan_with script fuel)) x picks) last) (sym by.stepped) rest.holds;
    }

opens : (script : Script) (fuel more : ℕ) → more * suc script.fuel + script.fuel ≤ fuel → HoldsAll script fuel more (opening_state (plan_with script fuel)) (first_moment script)
opens script fuel more enough = record {
  heap = refl;
  journals = length-map script.threads (λ (thread : List Command). []);
  stands = length-map script.threads (λ (commands : List Command). stand_of (settled commands (starting_configuration script.fuel)));
  each = λ t lt.
      subst (λ (c : Configuration). Holds script more t c (stand_in (first_moment script) t)) (sym (ap (config_with script fuel t) (no_journal script.threads t)))
      (subst (λ (x : Stand). Holds script more t (starting_configuration fuel) x) (sym (get_or-map (λ (commands : List Command). stand_of (settled commands (starting_configuration script.fuel))) script.threads t [] no_stand lt))
      (begun t));
}
  where
    begun : (t : ℕ) → Holds script more t (starting_configuration fuel) (stand_of (settled (commands_of script t) (starting_configuration script.fuel)))
    begun t = record {
      enough = enough;
      stands = elim (less_fuel (commands_of script t) script.fuel fuel (starting_configuration fuel) refl (omega (arith, enough))) [
        | inl halted ↦ inl halted
        | inr same ↦ inr (same.stand, same.left)
      ];
    }

module _ (script : Script) (fuel : ℕ) (s : PlainState) (last : Moment) (holds : HoldsAll script fuel 0 s last) (done : AllDone script last) where
  demands_end : (t : ℕ) → t < length script.threads → demanded (commands_of script t) (config_with script fuel t (journal_of s.journals t)) ≡ ToEnd Done
  demands_end t lt =
      let none : slice_get (commands_of script t) (stand_in last t).place ≡ None = slice_get_past (commands_of script t) (stand_in last t).place (done t lt) in
      elim (holds.each t lt).stands [
        | inl halted ↦ absurd (let no : None ≡ Some halted.command = sym (slice_get_past (commands_of script t) (stand_in last t).place (done t lt)) ∙ halted.at in cc)
        | inr is ↦
            ap (λ (o : Option Command). demand_at o (settled (commands_of script t) (config_with script fuel t (journal_of s.journals t))))
            (ap (λ (x : Stand). slice_get (commands_of script t) x.place) is.0 ∙ slice_get_past (commands_of script t) (stand_in last t).place (done t lt))
      ]

all_ended : (fuel : ℕ) (threads : List (List Command)) (journals : Journals)
    → ((t : ℕ) → t < length threads → demanded (get_or threads t []) (configuration_after (get_or threads t []) (starting_configuration fuel) (get_or journals t [])) ≡ ToEnd Done) → list_all is_done (ends_of fuel threads journals) ≡ true
all_ended fuel [] journals ends = refl
all_ended fuel (commands ∷ threads) [] ends = refl
all_ended fuel (commands ∷ threads) (journal ∷ journals) ends =
    and_from _ _ (ap (λ (a : AccessOrEnd). is_done (end_of a)) (ends 0 (omega arith))) (all_ended fuel threads journals (λ t lt. ends (suc t) (omega arith)))

pub outcomes_final : OutcomesAreFinal
outcomes_final script heap outcome =
    let picks = outcome.reached.picks in
    let fuel : ℕ = length outcome.reached.picks * suc script.fuel + script.fuel in
    let played = plays script (length outcome.reached.picks * suc script.fuel + script.fuel) outcome.reached.picks (opening_state (plan_with script (length outcome.reached.picks * suc script.fuel + script.fuel))) (first_moment script) outcome.last
    outcome.reached.follows (opens script (length outcome.reached.picks * suc script.fuel + script.fuel) (length outcome.reached.picks) (omega arith)) in
    let ended = demands_end script (length outcome.reached.picks * suc script.fuel + script.fuel) _ outcome.last played.holds outcome.done in
    record {
      fuel = length outcome.reached.picks * suc script.fuel + script.fuel;
      order = outcome.reached.picks;
      is_order = (played.front, λ t lt. ap next_demanded (ended t (omega (arith, lt, played.holds.journals))));
      done = all_ended (length outcome.reached.picks * suc script.fuel + script.fuel) script.threads _ ended;
      leaves = played.holds.heap ∙ outcome.leaves;
    }
