-- A thread has fuel for each access of a journal that fits it.
use Rattle.std.proofs.Common.{◌≡◌, ℕ, zero, suc, pred, ◌+◌, ◌<◌, ◌≤◌, true, List, [], ◌∷◌, Option, Some, None, slice_get, slice_index, refl, sym, ap, subst, arith}
use Rattle.octet_model.specs.declared.command.Command.{Command}
use Rattle.octet_model.specs.declared.command.Command.TheVariants.{Read, Write, Bump}
use Rattle.octet_model.specs.declared.event.Event.{Event}
use Rattle.octet_model.specs.declared.event.Event.TheVariants as event
use Rattle.octet_model.specs.declared.outcome.End.TheVariants.{Spent}
use Rattle.octet_model.specs.Thread.{Configuration, AccessOrEnd, ToRead, ToWrite, ToBump, ToEnd, is_access, settled, demand_at, demanded, past_access, past_demanded, configuration_after, FitsFrom}
use Rattle.octet_model.specs.Journals.{access_count}
use Rattle.octet_interp.specs.declared.demand.Demand.{Demand}
use Rattle.octet_interp.specs.declared.demand.Demand.TheVariants as demand
use Rattle.octet_interp.specs.Demands.{ThreadState, next_demand, after_demand}
use Rattle.octet_interp.specs.Laws.{Agrees, IsJournalOf}
use Rattle.octet_interp.proofs.Runs.{one_fuel, along}
use Rattle.octet_interp.proofs.Agreement.{agrees, follows}
use Rattle.octet_machine.specs.Machine.{is_access as demands_access}

fuel_falls : (commands : List Command) (c : Configuration) → (settled commands c).fuel ≤ c.fuel
fuel_falls commands c =
    along is_access commands (λ a b. b.fuel ≤ a.fuel) (λ a. omega arith)
    (λ a b command at plain fuelled less. omega (arith, one_fuel commands a command))
    c.fuel c refl

abbrev IsAccess : AccessOrEnd → Type 0
IsAccess (ToEnd end) = ⊥
IsAccess _ = Unit {0}

-- what demands an access has fuel
fuelled_at : (command : Option Command) (d : Configuration) (fuel : ℕ) → d.fuel ≡ fuel → IsAccess (demand_at command d) → 0 < fuel
fuelled_at command d (suc fuel) is wants = omega arith
fuelled_at None d zero is wants = absurd wants
fuelled_at (Some (Read to object)) d zero is wants = absurd (subst IsAccess (ap (λ (n : ℕ). elim n as (λ k. AccessOrEnd) [ zero ↦ ToEnd Spent | suc k ↦ ToRead object ]) is) wants)
fuelled_at (Some (Write object from)) d zero is wants = absurd (subst IsAccess (ap (λ (n : ℕ). elim n as (λ k. AccessOrEnd) [ zero ↦ ToEnd Spent | suc k ↦ ToWrite object (slice_index d.registers from) ]) is) wants)
fuelled_at (Some (Bump object from)) d zero is wants = absurd (subst IsAccess (ap (λ (n : ℕ). elim n as (λ k. AccessOrEnd) [ zero ↦ ToEnd Spent | suc k ↦ ToBump object (slice_index d.registers from) ]) is) wants)
fuelled_at (Some _) d zero is wants = absurd wants

fuelled : (commands : List Command) (c : Configuration) → IsAccess (demanded commands c) → 0 < (settled commands c).fuel
fuelled commands c wants = let d = settled commands c in fuelled_at (slice_get commands d.place) d d.fuel refl wants

fuel_past : (command : Option Command) (d : Configuration) (value : ℕ) → (past_access command d value).fuel ≡ pred d.fuel
fuel_past None d value = refl
fuel_past (Some (Read to object)) d value = refl
fuel_past (Some _) d value = refl

-- an access takes fuel
takes_fuel : (commands : List Command) (c : Configuration) (value : ℕ) → IsAccess (demanded commands c) → suc (past_demanded commands c value).fuel ≤ c.fuel
takes_fuel commands c value wants =
    let d = settled commands c in
    omega (arith, fuel_past (slice_get commands d.place) d value, fuelled commands c wants, fuel_falls commands c)

-- a journal that fits has at most as many accesses as there was fuel, with what is left
pub fuel_left : (commands : List Command) (c : Configuration) (journal : List Event) → FitsFrom commands c journal → access_count journal + (configuration_after commands c journal).fuel ≤ c.fuel
fuel_left commands c [] fits = omega arith
fuel_left commands c (event.Read object value ∷ journal) fits =
    omega (arith, takes_fuel commands c value (subst IsAccess (sym fits.0) tt), fuel_left commands (past_demanded commands c value) journal fits.1)
fuel_left commands c (event.Write object value ∷ journal) fits =
    omega (arith, takes_fuel commands c value (subst IsAccess (sym fits.0) tt), fuel_left commands (past_demanded commands c value) journal fits.1)
fuel_left commands c (event.Update object before after ∷ journal) fits =
    omega (arith, takes_fuel commands c after (subst IsAccess (sym fits.0.1) tt), fuel_left commands (past_demanded commands c after) journal fits.1)
fuel_left commands c (event.Marked mark ∷ journal) fits = fuel_left commands c journal fits

wants_access : (d : Demand) (s t : ThreadState) → demands_access d ≡ true → Agrees d s t → IsAccess (demanded s.commands s.at)
wants_access (demand.Read object) s t is agrees = subst IsAccess (sym agrees.0) tt
wants_access (demand.Write object value) s t is agrees = subst IsAccess (sym agrees.0) tt
wants_access (demand.Bump object amount) s t is agrees = subst IsAccess (sym agrees.0) tt
wants_access _ s t is agrees = absurd cc

-- where one more access is demanded, there is fuel for it
pub access_left : (start : Configuration) (journal : List Event) (s : ThreadState) → IsJournalOf start journal s → demands_access (next_demand s) ≡ true → access_count journal < start.fuel
access_left start journal s kept is =
    let there = configuration_after s.commands start journal in
    let wants = wants_access (next_demand s) s (after_demand s) is (agrees s) in
    let same : demanded s.commands there ≡ demanded s.commands s.at = (follows s.commands there s.at kept.settles).0 in
    let has = fuelled s.commands there (subst IsAccess (sym same) wants) in
    omega (arith, fuel_left s.commands start journal kept.fits, has, fuel_falls s.commands there)
