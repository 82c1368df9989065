-- Facts that have at most one proof.
use mathlib.Core.HLevel.{is_prop→PathP}
use Rattle.std.proofs.Common.{◌≡◌, ◌∙◌, ℕ, List, [], ◌∷◌, sym, ap}
use Rattle.std.proofs.Props.{props}
use Rattle.std.specs.Coded.{×_prop, Unit-prop}
use Rattle.octet_model.specs.declared.command.Command.{Command}
use Rattle.octet_model.specs.declared.event.Event.{Event}
use Rattle.octet_model.specs.declared.event.Event.TheVariants.{Read, Write, Update, Marked}
use Rattle.octet_model.specs.declared.outcome.End.{End}
use Rattle.octet_model.specs.Thread.{Configuration, AccessOrEnd, ToBump, added, demanded, past_demanded, FitsUpdate, FitsFrom}
use Rattle.octet_interp.specs.Demands.{ThreadState}
use Rattle.octet_interp.specs.Laws.{IsJournalOf}

end_set : IsSet End
end_set = hlevel props

access_set : IsSet AccessOrEnd
access_set = hlevel (props, end_set)

number_set : IsSet ℕ
number_set = hlevel props

-- an update is demanded with one amount
update_prop : (demand : AccessOrEnd) (object before after : ℕ) → IsProp (FitsUpdate demand object before after)
update_prop demand object before after x y = let same = ap amount_in (sym x.1 ∙ y.1) in λ i. (
  same i,
  is_prop→PathP (λ j. demand ≡ ToBump object (same j)) (λ j. access_set demand (ToBump object (same j))) x.1 y.1 i,
  is_prop→PathP (λ j. after ≡ added (same j) before) (λ j. number_set after (added (same j) before)) x.2 y.2 i,
)
  where
    amount_in : AccessOrEnd → ℕ
    amount_in (ToBump object amount) = amount
    amount_in _ = 0

fits_prop : (commands : List Command) (c : Configuration) (journal : List Event) → IsProp (FitsFrom commands c journal)
fits_prop commands c [] = Unit-prop
fits_prop commands c (Read object value ∷ journal) = ×_prop (access_set _ _) (fits_prop commands (past_demanded commands c value) journal)
fits_prop commands c (Write object value ∷ journal) = ×_prop (access_set _ _) (fits_prop commands (past_demanded commands c value) journal)
fits_prop commands c (Update object before after ∷ journal) = ×_prop (update_prop (demanded commands c) object before after) (fits_prop commands (past_demanded commands c after) journal)
fits_prop commands c (Marked mark ∷ journal) = fits_prop commands c journal

configuration_set : IsSet Configuration
configuration_set = hlevel props

pub journal_prop : (start : Configuration) (journal : List Event) (s : ThreadState) → IsProp (IsJournalOf start journal s)
journal_prop start journal s = hlevel (configuration_set, fits_prop)
