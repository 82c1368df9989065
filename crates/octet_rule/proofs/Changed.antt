-- Each change of a cell is a step that adds an amount.
use Rattle.std.proofs.Common.{◌≡◌, ℕ, ◌+◌, ◌-◌, ◌^◌, ◌<◌, Bool, true, false, List, sym, refl, ap, ◌∙◌, arith, subst}
use Rattle.std.specs.Prelude.{◌==◌, ◌%◌, if◌then◌else◌, slice_index}
use Rattle.std.specs.Int.Bits.{and_lt}
use Rattle.std.proofs.lemmas.Nat.{or_lt, xor_lt}
use prog.Atomic.{either}
use Rattle.atomic_table.specs.Table.{Me, Allows, stepped}
use Rattle.octet_state.specs.declared.act.Mode.TheVariants.{Update}
use Rattle.octet_state.specs.declared.phase.Due.TheVariants.{Nothing}
use Rattle.octet_state.specs.State.{object_place}
use Rattle.octet_state.specs.Steps.{target}
use Rattle.octet_rule.specs.Views.{SeatView}
use Rattle.octet_rule.specs.Rule.{IsRuled, operation_on, cell_place}
use Rattle.octet_rule.specs.Changes.{changed_by, amount_by, Changes}
use Rattle.octet_rule.specs.Conditions.{MayPass}
use Rattle.octet_rule.specs.declared.change.Change.{Change}
use Rattle.octet_rule.specs.declared.change.Change.TheVariants.{Add, Sub, Swap, CompareExchange, And, Or, Xor, Max, Min}
use Rattle.octet_rule.proofs.Allowed.{may_pass, bumps}

-- the operands of a change are those of a u64
abbrev pub Fits : Change → Type 0
Fits (Add amount) = amount < 2 ^ 64
Fits (Sub amount) = amount < 2 ^ 64
Fits (Swap new) = new < 2 ^ 64
Fits (CompareExchange expected new) = new < 2 ^ 64
Fits (And mask) = mask < 2 ^ 64
Fits (Or mask) = mask < 2 ^ 64
Fits (Xor mask) = mask < 2 ^ 64
Fits (Max other) = other < 2 ^ 64
Fits (Min other) = other < 2 ^ 64

pick_fits : (b : Bool) (x y : ℕ) → x < 2 ^ 64 → y < 2 ^ 64 → (if b then x else y) < 2 ^ 64
pick_fits true x y h k = h
pick_fits false x y h k = k

changed_fits : (change : Change) (value : ℕ) → Fits change → value < 2 ^ 64 → changed_by change value < 2 ^ 64
changed_fits (Add amount) value h k = omega arith
changed_fits (Sub amount) value h k = omega arith
changed_fits (Swap new) value h k = h
changed_fits (CompareExchange expected new) value h k = pick_fits (value == expected) new value h k
changed_fits (And mask) value h k = and_lt 64 value mask k h
changed_fits (Or mask) value h k = or_lt 64 value mask k h
changed_fits (Xor mask) value h k = xor_lt 64 value mask k h
changed_fits (Max other) value h k = omega arith
changed_fits (Min other) value h k = omega arith

-- a value and the amount that leads from it to another one
leads : (value next : ℕ) → value < 2 ^ 64 → next < 2 ^ 64 → (value + (next + (2 ^ 64 - value)) % 2 ^ 64) % 2 ^ 64 ≡ next
leads value next h k = omega arith

pub adds : (change : Change) (value : ℕ) → Fits change → value < 2 ^ 64 → (value + amount_by change value) % 2 ^ 64 ≡ changed_by change value
adds change value fits small = leads value (changed_by change value) small (changed_fits change value fits small)

-- an exchange stores what the change makes of the word
pub exchanges : (expected new word : ℕ) → either (word == expected) new word ≡ changed_by (CompareExchange expected new) word
exchanges expected new word = by (word == expected)
  where
    by : (b : Bool) → either b new word ≡ (if b then new else word)
    by true = refl
    by false = refl

-- the place of a cell
at_cell : (v : SeatView) (threads place object : ℕ) → v.threads ≡ threads → MayPass object Update v.thread.phase → place ≡ object_place threads object + 1 → place ≡ cell_place v (target v.thread.phase)
at_cell v threads place object known may is = is ∙ (λ i. object_place (sym known i) (ap target (sym (may_pass object Update v.thread.phase may)) i) + 1)

module _ (threads : ℕ) (starts : List ℕ) (slots id : ℕ) (me : Me (Unit {0}) SeatView) (live : me.0.is_live ≡ true) where
  -- an operation that makes of each word what the change makes of it
  pub changes : (change : Change) (f : ℕ → ℕ) (place first second object : ℕ) → ((word : ℕ) → f word ≡ changed_by change word) → Fits change
      → me.0.thread.due ≡ Nothing → MayPass object Update me.0.thread.phase → me.0.threads ≡ threads → place ≡ object_place threads object + 1
      → Allows (IsRuled threads starts) slots id me place f (Changes change (operation_on slots place first second) me)
  changes change f place first second object makes fits due may known is s ruled slotted seen small =
      let word : ℕ = slice_index s.words place in
      let all = bumps threads starts slots id me live place object (amount_by change word) due may is s ruled slotted seen small in
      let same : (word + amount_by change word) % 2 ^ 64 ≡ f word = adds change word fits small ∙ sym (makes word) in (
        all.0,
        all.1,
        all.2,
        subst (λ (n : ℕ). IsRuled threads starts (stepped s place n id me.1 all.0 all.1)) same all.3,
        (all.4.0, all.4.1, at_cell me.0 threads place object known may is, adds change word fits small),
      )
