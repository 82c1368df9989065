-- How many `region` commands a run counts, and that journals count them so.
use Rattle.std.proofs.Common.{◌≡◌, ℕ, zero, suc, pred, ◌+◌, ◌<◌, ◌≤◌, Bool, true, false, List, [], ◌∷◌, ◌++◌, Option, Some, None, slice_get, refl, sym, ap, ◌∙◌, arith}
use Rattle.octet_model.specs.declared.command.Command.{Command}
use Rattle.octet_model.specs.declared.command.Command.TheVariants.{Read, Write, Bump, Safe, Pause, Region}
use Rattle.octet_model.specs.declared.event.Mark.{Mark}
use Rattle.octet_model.specs.declared.event.Event.{Event}
use Rattle.octet_model.specs.declared.event.Event.TheVariants.{Read as ReadEvent, Write as WriteEvent, Update, Marked}
use Rattle.octet_model.specs.Thread.{Configuration, run_to, stepped, is_access, past_demanded, configuration_after, added}
use Rattle.octet_interp.specs.declared.demand.Demand.{Demand}
use Rattle.octet_interp.specs.declared.demand.Demand.TheVariants.{Read as ReadDemand, Write as WriteDemand, Bump as BumpDemand, Safe as SafeDemand, Pause as PauseDemand, Ended}
use Rattle.octet_interp.specs.Regions.{region_count, regions_to, regions_ahead, regions_before}
use Rattle.octet_interp.specs.Demands.{ThreadState, is_demand, at_demand, next_demand}
use Rattle.octet_interp.specs.Laws.{Agrees, IsJournalOf, CountsRegions, CountsPast, RegionsAreCounted, MarksCountNoRegion}
use Rattle.octet_interp.proofs.Runs.{one_fuel, stopped}
use Rattle.octet_interp.proofs.Agreement.{IsToldBy, Tells, NoCommand, NoFuel, ByCommand, tells, standing_with, agrees, follows}

pub most_one : (command : Command) → region_count command ≤ 1
most_one Region = omega arith
most_one _ = omega arith

module _ (stops : Command → Bool) (commands : List Command) where
  abbrev at_kind : ℕ → Configuration → Command → Bool → ℕ
  at_kind fuel c command b = elim b [ true ↦ 0 | false ↦ region_count command + regions_to stops commands fuel (stepped commands c command) ]

  abbrev at_command : ℕ → Configuration → Option Command → ℕ
  at_command fuel c o = elim o [ None ↦ 0 | Some command ↦ at_kind fuel c command (stops command) ]

  pub counts_on : (fuel : ℕ) (c : Configuration) (command : Command) → slice_get commands c.place ≡ Some command → stops command ≡ false
      → regions_to stops commands (suc fuel) c ≡ region_count command + regions_to stops commands fuel (stepped commands c command)
  counts_on fuel c command at plain = ap (at_command fuel c) at ∙ ap (at_kind fuel c command) plain

  pub none_where_it_stops : (fuel : ℕ) (c : Configuration) (command : Command) → slice_get commands c.place ≡ Some command → stops command ≡ true → regions_to stops commands fuel c ≡ 0
  none_where_it_stops zero c command at stop = refl
  none_where_it_stops (suc fuel) c command at stop = ap (at_command fuel c) at ∙ ap (at_kind fuel c command) stop

  pub none_past : (fuel : ℕ) (c : Configuration) → slice_get commands c.place ≡ None → regions_to stops commands fuel c ≡ 0
  none_past zero c at = refl
  none_past (suc fuel) c at = ap (at_command fuel c) at

  pub none_without_fuel : (fuel : ℕ) (c : Configuration) → fuel ≡ 0 → regions_to stops commands fuel c ≡ 0
  none_without_fuel fuel c none = ap (λ (f : ℕ). regions_to stops commands f c) none

no_access : (command : Command) → is_demand command ≡ false → is_access command ≡ false
no_access (Read to object) is = absurd cc
no_access (Write object from) is = absurd cc
no_access (Bump object from) is = absurd cc
no_access _ is = refl

-- the regions up to the access are those up to the next demand, and those ahead from there
module _ (commands : List Command) where
  abbrev Splits : ℕ → Configuration → Configuration → Type 0
  Splits fuel c d = regions_to is_access commands fuel c ≡ regions_to is_demand commands fuel c + regions_to is_access commands d.fuel d

  split_from : (fuel : ℕ) (c : Configuration) → c.fuel ≡ fuel → Splits fuel c (run_to is_demand commands fuel c)
  split_from zero c is = omega (arith, none_without_fuel is_access commands c.fuel c is)
  split_from (suc fuel) c is = go (slice_get commands c.place) refl (λ command. split_from fuel (stepped commands c command) (one_fuel commands c command ∙ ap pred is))
    where
      run_kind : Command → Bool → Configuration
      run_kind command b = elim b [ true ↦ c | false ↦ run_to is_demand commands fuel (stepped commands c command) ]

      run_at : Option Command → Configuration
      run_at o = elim o [ None ↦ c | Some command ↦ run_kind command (is_demand command) ]

      here : regions_to is_demand commands (suc fuel) c ≡ 0 → Splits (suc fuel) c c
      here none = omega (arith, none, ap (λ (f : ℕ). regions_to is_access commands f c) is)

      Next : Command → Type 0
      Next command = Splits fuel (stepped commands c command) (run_to is_demand commands fuel (stepped commands c command))

      at_kind_is : (command : Command) (b : Bool) → slice_get commands c.place ≡ Some command → is_demand command ≡ b → Next command → Splits (suc fuel) c (run_kind command b)
      at_kind_is command true at stop next = here (none_where_it_stops is_demand commands (suc fuel) c command at stop)
      at_kind_is command false at stop next =
          omega (arith, counts_on is_demand commands fuel c command at stop, counts_on is_access commands fuel c command at (no_access command stop), next)

      go : (o : Option Command) → slice_get commands c.place ≡ o → ((command : Command) → Next command) → Splits (suc fuel) c (run_at o)
      go None at next = here (none_past is_demand commands (suc fuel) c at)
      go (Some command) at next = at_kind_is command (is_demand command) at refl (next command)

  pub splits : (c : Configuration) → Splits c.fuel c (at_demand commands c)
  splits c = split_from c.fuel c refl

-- an access of a journal leaves those ahead of the next one to be counted on
abbrev pub CountsOn : List Command → Event → Type 0
CountsOn commands event = (c : Configuration) → regions_before commands c (event ∷ []) ≡ regions_ahead commands c + regions_ahead commands (configuration_after commands c (event ∷ []))

pub before_access : (commands : List Command) (c : Configuration) (journal : List Event) (event : Event) → CountsOn commands event
    → regions_before commands c (journal ++ event ∷ []) ≡ regions_before commands c journal + regions_ahead commands (configuration_after commands (configuration_after commands c journal) (event ∷ []))
before_access commands c [] event on = on c
before_access commands c (ReadEvent object value ∷ journal) event on = omega (arith, before_access commands (past_demanded commands c value) journal event on)
before_access commands c (WriteEvent object value ∷ journal) event on = omega (arith, before_access commands (past_demanded commands c value) journal event on)
before_access commands c (Update object before after ∷ journal) event on = omega (arith, before_access commands (past_demanded commands c after) journal event on)
before_access commands c (Marked mark ∷ journal) event on = before_access commands c journal event on

pub before_mark : (commands : List Command) (c : Configuration) (journal : List Event) (mark : Mark) → regions_before commands c (journal ++ Marked mark ∷ []) ≡ regions_before commands c journal
before_mark commands c [] mark = refl
before_mark commands c (ReadEvent object value ∷ journal) mark = ap (λ (n : ℕ). regions_ahead commands c + n) (before_mark commands (past_demanded commands c value) journal mark)
before_mark commands c (WriteEvent object value ∷ journal) mark = ap (λ (n : ℕ). regions_ahead commands c + n) (before_mark commands (past_demanded commands c value) journal mark)
before_mark commands c (Update object before after ∷ journal) mark = ap (λ (n : ℕ). regions_ahead commands c + n) (before_mark commands (past_demanded commands c after) journal mark)
before_mark commands c (Marked other ∷ journal) mark = before_mark commands c journal mark

module _ (start : Configuration) (journal : List Event) (s : ThreadState) (kept : IsJournalOf start journal s) (counted : CountsRegions start journal s) where
  abbrev there : Configuration
  there = at_demand s.commands s.at

  -- where none are ahead of the demand, all were counted
  all_counted : regions_ahead s.commands there ≡ 0 → s.regions + regions_to is_demand s.commands s.at.fuel s.at ≡ regions_before s.commands start journal
  all_counted none = omega (arith, none, splits s.commands s.at, counted)

  past_access_counts : (event : Event) (at : Configuration) (regions : ℕ) → CountsOn s.commands event → configuration_after s.commands (configuration_after s.commands start journal) (event ∷ []) ≡ at
      → regions ≡ regions_before s.commands start journal → regions + regions_ahead s.commands at ≡ regions_before s.commands start (journal ++ event ∷ [])
  past_access_counts event at regions on leaves all = omega (arith, all, before_access s.commands start journal event on, ap (regions_ahead s.commands) leaves)

  -- past a safe point or a pause
  past_other_counts : (command : Command) → slice_get s.commands there.place ≡ Some command → 0 < there.fuel → is_access command ≡ false → region_count command ≡ 0
      → s.regions + regions_to is_demand s.commands s.at.fuel s.at + regions_ahead s.commands (stepped s.commands there command) ≡ regions_before s.commands start journal
  past_other_counts command at fuelled plain none =
      let n : there.fuel ≡ suc (pred there.fuel) = omega arith in
      let on : regions_ahead s.commands there ≡ region_count command + regions_to is_access s.commands (pred there.fuel) (stepped s.commands there command) =
      ap (λ (f : ℕ). regions_to is_access s.commands f there) n ∙ counts_on is_access s.commands (pred there.fuel) there command at plain in
      omega (arith, none, on, splits s.commands s.at, counted, ap (λ (f : ℕ). regions_to is_access s.commands f (stepped s.commands there command)) (one_fuel s.commands there command))

  counts_by : (command : Command) (demand : Demand) → slice_get s.commands there.place ≡ Some command → 0 < there.fuel → IsToldBy demand command there.registers
      → Agrees demand s (standing_with s demand) → CountsPast start journal demand (standing_with s demand)
  counts_by command (ReadDemand object) at fuelled by like =
      let alike = follows s.commands (configuration_after s.commands start journal) s.at kept.settles in
      let all = all_counted (none_where_it_stops is_access s.commands there.fuel there command at (ap is_access by.1)) in
      (all, λ value. past_access_counts (ReadEvent object value) _ _ (λ c. refl) (alike.1 value ∙ sym (like.1 value)) all)
  counts_by command (WriteDemand object value) at fuelled by like =
      let alike = follows s.commands (configuration_after s.commands start journal) s.at kept.settles in
      let all = all_counted (none_where_it_stops is_access s.commands there.fuel there command at (ap is_access by.1)) in
      (all, past_access_counts (WriteEvent object value) _ _ (λ c. refl) (alike.1 value ∙ sym (like.1 value)) all)
  counts_by command (BumpDemand object amount) at fuelled by like =
      let alike = follows s.commands (configuration_after s.commands start journal) s.at kept.settles in
      let all = all_counted (none_where_it_stops is_access s.commands there.fuel there command at (ap is_access by.1)) in
      (all, λ before. let after = added amount before in past_access_counts (Update object before after) _ _ (λ c. refl) (alike.1 after ∙ sym (like.1 after)) all)
  counts_by command SafeDemand at fuelled by like = past_other_counts Safe (at ∙ ap (λ (x : Command). Some x) by) fuelled refl refl
  counts_by command PauseDemand at fuelled by like = past_other_counts Pause (at ∙ ap (λ (x : Command). Some x) by) fuelled refl refl
  counts_by command (Ended end) at fuelled by like = absurd (let stop : is_demand command ≡ true = stopped is_demand s.commands s.at.fuel s.at command refl fuelled at in let none : true ≡ false = sym stop ∙ by.0 in cc)

  counts_with : (demand : Demand) → Tells (slice_get s.commands there.place) there demand → Agrees demand s (standing_with s demand) → CountsPast start journal demand (standing_with s demand)
  counts_with demand (NoCommand at) like = all_counted (none_past is_access s.commands there.fuel there at)
  counts_with demand (NoFuel command at none) like = all_counted (none_without_fuel is_access s.commands there.fuel there none)
  counts_with demand (ByCommand command other at fuelled by) like = counts_by command demand at fuelled by like

pub counted : RegionsAreCounted
counted start journal s kept counts =
    counts_with start journal s kept counts (next_demand s) (tells (slice_get s.commands (at_demand s.commands s.at).place) (at_demand s.commands s.at)) (agrees s)

pub marks_count_none : MarksCountNoRegion
marks_count_none start journal s mark counts = counts ∙ sym (before_mark s.commands start journal mark)
