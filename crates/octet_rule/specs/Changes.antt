-- What an update makes of the value that it finds, and by which amount it does so.
use Rattle.std.specs.Prelude.{◌≡◌, ℕ, ◌+◌, ◌-◌, ◌%◌, ◌^◌, ◌==◌, if◌then◌else◌, min, max, bit_and, bit_or, bit_xor}
use Rattle.atomic_table.specs.Table.{Me, Step as TableStep}
use Rattle.octet_model.specs.Thread.{added}
use Rattle.octet_state.specs.declared.act.Mode.TheVariants.{Update}
use Rattle.octet_state.specs.Steps.{ToBump, target}
use Rattle.octet_rule.specs.Views.{SeatView}
use Rattle.octet_rule.specs.Rule.{Steps, cell_place}
use Rattle.octet_rule.specs.Entering.{Enters}
use Rattle.octet_rule.specs.declared.change.Change.{Change}
use Rattle.octet_rule.specs.declared.change.Change.TheVariants.{Add, Sub, Swap, CompareExchange, And, Or, Xor, Max, Min}
use Rattle.octet_rule.specs.declared.entered.Entered.{Entered}
use Rattle.octet_rule.specs.declared.entered.Entered.TheVariants.{Made, Loaded}

-- the value that a change makes of a value
abbrev pub changed_by : Change → ℕ → ℕ
changed_by (Add amount) value = added amount value
changed_by (Sub amount) value = (value + (2 ^ 64 - amount)) % 2 ^ 64
changed_by (Swap new) value = new
changed_by (CompareExchange expected new) value = if value == expected then new else value
changed_by (And mask) value = bit_and value mask
changed_by (Or mask) value = bit_or value mask
changed_by (Xor mask) value = bit_xor value mask
changed_by (Max other) value = max value other
changed_by (Min other) value = min value other

-- the amount that leads from a value to what is made of it, modulo 2 ^ 64, which is 0 where the value stays
abbrev pub amount_by : Change → ℕ → ℕ
amount_by change value = (changed_by change value + (2 ^ 64 - value)) % 2 ^ 64

-- the amount leads from the value to what the change makes of it
abbrev pub IsLed : Change → ℕ → Type 0
IsLed change value = added (amount_by change value) value ≡ changed_by change value

-- one step of the protocol, by one operation on the cell.
-- The step adds the amount that leads from the value it finds to what the change makes of it
abbrev pub Changes : Change → TableStep (Unit {0}) → Me (Unit {0}) SeatView → ℕ → Me (Unit {0}) SeatView → Type 0
Changes change operation me told next = (next.1 ≡ me.1) × Steps (ToBump (amount_by change told)) me.0 told next.0 × (operation.word ≡ cell_place me.0 (target me.0.thread.phase)) × IsLed change told

-- the amount that an update by a change adds, where it is made at once
abbrev pub amount_entered : Change → Entered → ℕ
amount_entered change (Made told) = amount_by change told
amount_entered change (Loaded word state act) = 0

-- an access begins that is an update by a change
abbrev pub EntersToChange : ℕ → Change → SeatView → Entered → SeatView → Type 0
EntersToChange object change v entered w = Enters object Update (amount_entered change entered) v entered w

-- the amount leads to what the change makes of the value, where the update is made at once
abbrev pub IsLedIfMade : Change → Entered → Type 0
IsLedIfMade change (Made told) = IsLed change told
IsLedIfMade change (Loaded word state act) = Unit {0}
