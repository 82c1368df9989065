-- A worker's journal keeps up with its thread.
use Rattle.std.proofs.Common.{◌≡◌, ◌∙◌, ℕ, false, List, [], ◌∷◌, ◌++◌, map, sym, refl, ap, subst, append_assoc, append-nil}
use Rattle.octet_model.specs.declared.command.Command.{Command}
use Rattle.octet_model.specs.declared.command.Command.TheVariants.{Read, Write, Bump}
use Rattle.octet_model.specs.declared.event.Mark.{Mark}
use Rattle.octet_model.specs.declared.event.Event.{Event}
use Rattle.octet_model.specs.declared.event.Event.TheVariants as event
use Rattle.octet_model.specs.declared.outcome.End.{End}
use Rattle.octet_model.specs.Thread.{Configuration, settled, is_access}
use Rattle.octet_interp.specs.declared.demand.Demand.{Demand}
use Rattle.octet_interp.specs.declared.demand.Demand.TheVariants as demand
use Rattle.octet_interp.specs.Demands.{ThreadState, is_demand, at_demand, past_demand, next_demand, after_demand, given}
use Rattle.octet_interp.specs.Laws.{Agrees, IsJournalOf, IsJournalPast}
use Rattle.octet_interp.proofs.Runs.{along, goes_on}
use Rattle.octet_interp.proofs.Agreement.{agrees}
use Rattle.octet_interp.proofs.Journaled.{keep_up, take_marks}
use Rattle.octet_state.specs.declared.act.Mode.TheVariants as mode
use Rattle.octet_rule.specs.Views.{SeatView}
use Rattle.octet_heap.specs.declared.pending_access.PendingAccess.{PendingAccess}
use Rattle.octet_heap.specs.declared.poll.Poll.TheVariants.{Ready}
use Rattle.octet_heap.specs.Growth.{access_event, AddsAccess}
use Rattle.octet_threads.specs.Carrying.{TellsAgain}

-- marks change nothing
marks_kept : (start : Configuration) (s : ThreadState) (marks : List Mark) (journal : List Event) → IsJournalOf start journal s → IsJournalOf start (journal ++ map (λ mark. event.Marked mark) marks) s
marks_kept start s [] journal kept = subst (λ (j : List Event). IsJournalOf start j s) (sym (append-nil journal)) kept
marks_kept start s (m ∷ marks) journal kept =
    subst (λ (j : List Event). IsJournalOf start j s) (append_assoc journal (event.Marked m ∷ []) (map (λ mark. event.Marked mark) marks))
    (marks_kept start s marks (journal ++ event.Marked m ∷ []) (take_marks start journal s m kept))

module _ (start : Configuration) (s : ThreadState) where
  past : (d : Demand) (journal : List Event) → next_demand s ≡ d → IsJournalOf start journal s → IsJournalPast start journal d (after_demand s)
  past d journal is kept = subst (λ (x : Demand). IsJournalPast start journal x (after_demand s)) is (keep_up start journal s kept)

  -- the journal that has grown by an access
  grown_by : (access : PendingAccess) (v w : SeatView) (value : ℕ) (a : AddsAccess access v (Ready value) w)
      → w.journal ≡ (v.journal ++ map (λ mark. event.Marked mark) a.marks) ++ access_event access.mode access.object access.value a.told ∷ []
  grown_by access v w value a = a.grown ∙ sym (append_assoc v.journal (map (λ mark. event.Marked mark) a.marks) (access_event access.mode access.object access.value a.told ∷ []))

  -- past a read, with its value
  pub read_kept : (object value : ℕ) (v w : SeatView) → next_demand s ≡ demand.Read object → AddsAccess (record { object = object; mode = mode.Read; value = 0 }) v (Ready value) w
      → IsJournalOf start v.journal s → IsJournalOf start w.journal (given (after_demand s) value)
  read_kept object value v w is a kept =
      let access : PendingAccess = record { object = object; mode = mode.Read; value = 0 } in
      subst (λ (j : List Event). IsJournalOf start j (given (after_demand s) value)) (sym (grown_by access v w value a))
      (subst (λ (n : ℕ). IsJournalOf start ((v.journal ++ map (λ mark. event.Marked mark) a.marks) ++ event.Read object a.told ∷ []) (given (after_demand s) n)) (sym a.value)
      (past (demand.Read object) (v.journal ++ map (λ mark. event.Marked mark) a.marks) is (marks_kept start s a.marks v.journal kept) a.told))

  -- past a write
  pub write_kept : (object value told : ℕ) (v w : SeatView) → next_demand s ≡ demand.Write object value → AddsAccess (record { object = object; mode = mode.Write; value = value }) v (Ready told) w
      → IsJournalOf start v.journal s → IsJournalOf start w.journal (after_demand s)
  write_kept object value told v w is a kept =
      let access : PendingAccess = record { object = object; mode = mode.Write; value = value } in
      subst (λ (j : List Event). IsJournalOf start j (after_demand s)) (sym (grown_by access v w told a))
      (past (demand.Write object value) (v.journal ++ map (λ mark. event.Marked mark) a.marks) is (marks_kept start s a.marks v.journal kept))

  -- past an update
  pub bump_kept : (object amount after : ℕ) (v w : SeatView) → next_demand s ≡ demand.Bump object amount → AddsAccess (record { object = object; mode = mode.Update; value = amount }) v (Ready after) w
      → IsJournalOf start v.journal s → IsJournalOf start w.journal (after_demand s)
  bump_kept object amount after v w is a kept =
      let access : PendingAccess = record { object = object; mode = mode.Update; value = amount } in
      subst (λ (j : List Event). IsJournalOf start j (after_demand s)) (sym (grown_by access v w after a))
      (past (demand.Bump object amount) (v.journal ++ map (λ mark. event.Marked mark) a.marks) is (marks_kept start s a.marks v.journal kept) a.told)

  -- past a safe point or a pause
  pub safe_kept : (v w : SeatView) → next_demand s ≡ demand.Safe → w.journal ≡ v.journal → IsJournalOf start v.journal s → IsJournalOf start w.journal (after_demand s)
  safe_kept v w is same kept = subst (λ (j : List Event). IsJournalOf start j (after_demand s)) (sym same) (past demand.Safe v.journal is kept)

  pub pause_kept : (v w : SeatView) → next_demand s ≡ demand.Pause → w.journal ≡ v.journal → IsJournalOf start v.journal s → IsJournalOf start w.journal (after_demand s)
  pause_kept v w is same kept = subst (λ (j : List Event). IsJournalOf start j (after_demand s)) (sym same) (past demand.Pause v.journal is kept)

-- a run to the next demand changes nothing of where the thread settles
settles_alike : (commands : List Command) (c : Configuration) → settled commands (at_demand commands c) ≡ settled commands c
settles_alike commands c =
    along is_demand commands (λ a b. settled commands b ≡ settled commands a) (λ a. refl)
    (λ a b command at plain fuelled alike. alike ∙ goes_on is_access commands a command at (no_access command plain) fuelled)
    c.fuel c refl
  where
    no_access : (command : Command) → is_demand command ≡ false → is_access command ≡ false
    no_access (Read to object) is = absurd cc
    no_access (Write object from) is = absurd cc
    no_access (Bump object from) is = absurd cc
    no_access _ is = refl

-- at its end it stays where it is
pub end_kept : (start : Configuration) (s : ThreadState) (end : End) (v w : SeatView) → next_demand s ≡ demand.Ended end → w.journal ≡ v.journal → IsJournalOf start v.journal s → IsJournalOf start w.journal (after_demand s)
end_kept start s end v w is same kept =
    let there : (after_demand s).at ≡ at_demand s.commands s.at = ap (λ (d : Demand). past_demand d (at_demand s.commands s.at)) is in
    subst (λ (j : List Event). IsJournalOf start j (after_demand s)) (sym same)
    (record { fits = kept.fits; settles = kept.settles ∙ sym (ap (settled s.commands) there ∙ settles_alike s.commands s.at) })

pub end_told_again : (s : ThreadState) (end : End) → next_demand s ≡ demand.Ended end → TellsAgain (demand.Ended end) (after_demand s)
end_told_again s end is = (subst (λ (d : Demand). Agrees d s (after_demand s)) is (agrees s)).1
