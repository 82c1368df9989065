-- Journals keep up with their threads.
use Rattle.std.proofs.Common.{◌≡◌, ℕ, Bool, false, List, [], ◌∷◌, ◌++◌, refl, sym, ap, ◌∙◌}
use Rattle.octet_model.specs.declared.event.Event.{Event}
use Rattle.octet_model.specs.declared.event.Event.TheVariants.{Read, Write, Update, Marked}
use Rattle.octet_model.specs.Thread.{Configuration, settled, configuration_after, added, FitsFrom}
use Rattle.octet_model.proofs.lemmas.Splits.{configuration_split, fits_join}
use Rattle.octet_interp.specs.declared.demand.Demand.{Demand}
use Rattle.octet_interp.specs.declared.demand.Demand.TheVariants.{Read, Write, Bump, Ended}
use Rattle.octet_interp.specs.Demands.{ThreadState, next_demand, after_demand}
use Rattle.octet_interp.specs.Laws.{Agrees, IsJournalOf, IsJournalPast, JournalsKeepUp, JournalsTakeMarks}
use Rattle.octet_interp.proofs.Agreement.{agrees, follows}

-- the same thread, standing there
abbrev standing_at : ThreadState → Configuration → Bool → ℕ → ThreadState
standing_at s at waits regions = record { commands = s.commands; at = at; waits = waits; objects = s.objects; regions = regions }

-- an event that fits the journal, and leaves it to settle where the thread now stands
with_event : (start : Configuration) (journal : List Event) (s : ThreadState) (at : Configuration) (waits : Bool) (regions : ℕ) (event : Event) → IsJournalOf start journal s
    → FitsFrom s.commands (configuration_after s.commands start journal) (event ∷ []) → configuration_after s.commands (configuration_after s.commands start journal) (event ∷ []) ≡ at
    → IsJournalOf start (journal ++ event ∷ []) (standing_at s at waits regions)
with_event start journal s at waits regions event kept fits leaves = record {
  fits = fits_join s.commands start journal (event ∷ []) kept.fits fits;
  settles = ap (settled s.commands) (configuration_split s.commands start journal (event ∷ []) ∙ leaves);
}

keeps_with : (start : Configuration) (journal : List Event) (s : ThreadState) (at : Configuration) (waits : Bool) (regions : ℕ) (demand : Demand)
    → Agrees demand s (standing_at s at waits regions) → IsJournalOf start journal s → IsJournalPast start journal demand (standing_at s at waits regions)
keeps_with start journal s at waits regions (Read object) agrees kept =
    let alike = follows s.commands (configuration_after s.commands start journal) s.at kept.settles in
    λ value. with_event start journal s _ false regions (Read object value) kept (alike.0 ∙ agrees.0, tt) (alike.1 value ∙ sym (agrees.1 value))
keeps_with start journal s at waits regions (Write object value) agrees kept =
    let alike = follows s.commands (configuration_after s.commands start journal) s.at kept.settles in
    with_event start journal s at waits regions (Write object value) kept (alike.0 ∙ agrees.0, tt) (alike.1 value ∙ sym (agrees.1 value))
keeps_with start journal s at waits regions (Bump object amount) agrees kept =
    let alike = follows s.commands (configuration_after s.commands start journal) s.at kept.settles in
    λ before. let after = added amount before in
    with_event start journal s at waits regions (Update object before after) kept ((amount, alike.0 ∙ agrees.0, refl), tt) (alike.1 after ∙ sym (agrees.1 after))
keeps_with start journal s at waits regions (Ended end) agrees kept =
    let after = configuration_after s.commands start journal in
    let ended = (follows s.commands after s.at kept.settles).0 ∙ agrees.0 in
    ((kept.fits, (end, ended)), ended)
keeps_with start journal s at waits regions _ agrees kept = record { fits = kept.fits; settles = kept.settles ∙ sym agrees }

pub keep_up : JournalsKeepUp
keep_up start journal s kept = keeps_with start journal s (after_demand s).at (after_demand s).waits (after_demand s).regions (next_demand s) (agrees s) kept

pub take_marks : JournalsTakeMarks
take_marks start journal s mark kept = record {
  fits = fits_join s.commands start journal (Marked mark ∷ []) kept.fits tt;
  settles = ap (settled s.commands) (configuration_split s.commands start journal (Marked mark ∷ [])) ∙ kept.settles;
}
