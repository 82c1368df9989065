-- Where openers and their ends lead.
use Rattle.std.specs.Prelude.{◌≡◌, ℕ, suc, ◌-◌, ◌<◌, ◌≤◌, ◌⊎◌, true, false, List, length, drop, Option, Some, slice_get, slice_index}
use Rattle.octet_model.specs.declared.command.Command.{Command}
use Rattle.octet_model.specs.declared.command.Command.TheVariants.{Loop, Branch, Close}
use Rattle.octet_model.specs.Script.{is_nested}
use Rattle.octet_model.specs.Thread.{end_from, matching_end, is_opened_at, place_after_close}

-- the lead of a command: an opener leads past its end, an end to where its opener says.
-- Any other command leads nowhere
abbrev pub lead_of : List Command → ℕ → Option Command → ℕ
lead_of commands place (Some (Loop test)) = suc (matching_end commands place)
lead_of commands place (Some (Branch test)) = suc (matching_end commands place)
lead_of commands place (Some Close) = place_after_close commands place
lead_of commands place _ = 0

-- the table has the lead of the command at the place
abbrev pub LeadsRight : List Command → List ℕ → ℕ → Type 0
LeadsRight commands leads place = slice_index leads place ≡ lead_of commands place (slice_get commands place)

-- the table has the lead of each command
pub record IsLeadTable (commands : List Command) (leads : List ℕ) : Type 0 where
  pub len : length leads ≡ length commands
  pub right : (place : ℕ) → place < length commands → LeadsRight commands leads place

-- the place is among the open ones
abbrev pub IsAmongOpen : List ℕ → ℕ → Type 0
IsAmongOpen opened place = (j : ℕ) × (j < length opened) × (slice_index opened j ≡ place)

-- the command leads right, and it is no opener whose end is still to come
pub record HasItsLead (commands : List Command) (leads : List ℕ) (here place : ℕ) : Type 0 where
  pub right : LeadsRight commands leads place
  pub ended : (end : ℕ) → here ≤ end → is_opened_at commands place end ≡ false

-- the openers below this place that are still open, lowest first.
-- The table is right for all other commands below this place, and empty from it on
pub record IsMatched (commands : List Command) (here : ℕ) (opened leads : List ℕ) : Type 0 where
  pub len : length leads ≡ length commands
  pub nested : is_nested (length opened) (drop here commands) ≡ true
  pub below : (j : ℕ) → j < length opened → slice_index opened j < here
  pub rising : (i j : ℕ) → i < j → j < length opened → slice_index opened i < slice_index opened j
  pub open_here : (j : ℕ) → j < length opened → is_opened_at commands (slice_index opened j) (end_from (length opened - j) here (drop here commands)) ≡ true
  pub empty : (place : ℕ) → here ≤ place → slice_index leads place ≡ 0
  pub others : (place : ℕ) → place < here → IsAmongOpen opened place ⊎ HasItsLead commands leads here place
