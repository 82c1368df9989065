-- What seats leave is recorded.
use Rattle.std.proofs.Common.{◌≡◌, ◌∙◌, ℕ, zero, suc, ◌+◌, ◌<◌, ◌≤◌, List, [], ◌∷◌, length, get_or, map, Result, Ok, Err, IfOk, refl, sym, ap, subst, subst₂, arith}
use Rattle.octet_model.specs.declared.command.Command.{Command}
use Rattle.octet_model.specs.declared.outcome.End.TheVariants.{Done}
use Rattle.octet_model.specs.Frugal.{IsFrugal}
use Rattle.octet_model.specs.Machine.{Journals, journal_of}
use Rattle.octet_model.specs.Plans.{Plan}
use Rattle.octet_model.specs.Plays.{IsOneHistory}
use Rattle.octet_model.proofs.lemmas.Growth.{faithful_from_history}
use Rattle.octet_model.specs.Thread.{starting_configuration, FitsToEnd}
use Rattle.octet_state.specs.State.{ProtocolState}
use Rattle.octet_state.proofs.lemmas.Laws.{off_is_frugal}
use Rattle.octet_rule.specs.declared.words.Seat.{Seat}
use Rattle.octet_rule.specs.Runs.{state_after}
use Rattle.octet_rule.specs.Seats.{view, Closes}
use Rattle.octet_heap.specs.declared.marker.Marker.{Marker}
use Rattle.octet_heap.specs.Markers.{marker_seats}
use Rattle.octet_heap.specs.Models.{marker_journals}
use Rattle.octet_recorder.proofs.lemmas.Programs.{program_fits_with}
use Rattle.octet_stream.specs.Recordings.{IsPlanOf, IsRecorded, ClosedIsRecorded}
use Rattle.octet_stream.proofs.Programs.{HavePrograms, run_has_programs}

-- the programs of journals
abbrev programs : (journals : Journals) → HavePrograms journals → List (List Command)
programs [] have = []
programs (j ∷ journals) have = have.0.0 ∷ programs journals have.1

-- fuel for the longest of them
abbrev fuel_for : (journals : Journals) → HavePrograms journals → ℕ
fuel_for [] have = 0
fuel_for (j ∷ journals) have = length have.0.0 + fuel_for journals have.1

as_many : (journals : Journals) (have : HavePrograms journals) → length (programs journals have) ≡ length journals
as_many [] have = refl
as_many (j ∷ journals) have = ap suc (as_many journals have.1)

fit : (fuel : ℕ) (journals : Journals) (have : HavePrograms journals) → fuel_for journals have ≤ fuel → (thread : ℕ) → thread < length journals
    → FitsToEnd (get_or (programs journals have) thread []) (starting_configuration fuel) (journal_of journals thread)
fit fuel [] have few thread there = absurd (omega (arith, there))
fit fuel (j ∷ journals) have few zero there = let f = program_fits_with (λ object value. Unit {0}) fuel have.0.0 j have.0.1 (omega (arith, few)) in (f.0, (Done, f.1))
fit fuel (j ∷ journals) have few (suc thread) there = fit fuel journals have.1 (omega (arith, few)) thread (omega (arith, there))

abbrev planned : (starts : List ℕ) (journals : Journals) (have : HavePrograms journals) → Plan
planned starts journals have = record { fuel = fuel_for journals have; starts = starts; threads = programs journals have }

is_planned : (starts : List ℕ) (journals : Journals) (have : HavePrograms journals) → IsPlanOf starts journals (planned starts journals have)
is_planned starts journals have = record { starts = refl; threads = as_many journals have; fits = fit (fuel_for journals have) journals have (omega arith) }

module _ (starts : List ℕ) (journals : Journals) (last : List ℕ) (draws : ℕ) where
  recorded : HavePrograms journals → IsOneHistory starts journals last draws → IsFrugal journals → IsRecorded starts journals last
  recorded have history frugal = record {
    plan = planned starts journals have;
    is_plan = is_planned starts journals have;
    faithful = λ plan is. faithful_from_history plan journals last draws (subst (λ (first : List ℕ). IsOneHistory first journals last draws) (sym is.starts) history) frugal is.threads is.fits;
    draws = draws;
    history = history;
  }

pub closed_is_recorded : ClosedIsRecorded
closed_is_recorded starts seats last closes =
    let s = closes.last in
    let js = map (λ seat. (view seat).journal) seats in
    let whole = state_after (length seats) starts closes.run in
    let journals : whole.journals ≡ js = ap (λ (x : ProtocolState). x.journals) (sym closes.after) ∙ closes.journals in
    let have = subst HavePrograms journals (run_has_programs (length seats) starts closes.run) in
    let history = subst₂ (λ (l : Journals) (cells : List ℕ). IsOneHistory s.starts l cells s.counter) closes.journals closes.cells closes.sound.one_history in
    let frugal = subst IsFrugal closes.journals (off_is_frugal s closes.sound closes.off) in
    recorded starts js last s.counter have (subst (λ (first : List ℕ). IsOneHistory first js last s.counter) closes.began history) frugal

same_journals : (markers : List Marker) → map (λ (seat : Seat). (view seat).journal) (marker_seats markers) ≡ marker_journals markers
same_journals [] = refl
same_journals (m ∷ markers) = ap (λ (js : Journals). (view m.recorder.seat).journal ∷ js) (same_journals markers)

-- so are the journals of markers
pub markers_recorded : {E : Type 0} (starts : List ℕ) (markers : List Marker) (closed : Result (List ℕ) E) → IfOk closed (λ last. Closes starts (marker_seats markers) last)
    → IfOk closed (λ last. IsRecorded starts (marker_journals markers) last)
markers_recorded starts markers (Ok last) closes = subst (λ (js : Journals). IsRecorded starts js last) (same_journals markers) (closed_is_recorded starts (marker_seats markers) last closes)
markers_recorded starts markers (Err e) closes = tt
