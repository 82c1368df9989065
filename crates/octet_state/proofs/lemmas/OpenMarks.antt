-- The marks at the end of a journal, those of an access that is to come.
use Rattle.std.proofs.Common.{◌≡◌, ℕ, ◌≤◌, List, [], ◌∷◌, ◌++◌, length, Some}
use Rattle.octet_model.specs.declared.event.Mark.{Mark}
use Rattle.octet_model.specs.declared.event.Event.{Event}
use Rattle.octet_model.specs.declared.event.Event.TheVariants.{Marked}
use Rattle.octet_model.specs.Frugal.{marks_at_end}
use Rattle.octet_model.specs.HappensBefore.{object_of}
use Rattle.octet_model.specs.Machine.{journal_of}
use Rattle.octet_state.specs.State.{ProtocolState, thread_of}
use Rattle.octet_state.specs.Soundness.{IsSound}
use Rattle.octet_state.proofs.frames.LongerJournals as longer
use Rattle.octet_state.proofs.lemmas.Widths.{ends_few}

-- a mark is one more of them, and after an access there is none
pub ends_marked : (journal : List Event) (mark : Mark) → marks_at_end (journal ++ Marked mark ∷ []) ≡ marks_at_end journal ++ mark ∷ []
ends_marked journal mark = longer.ends_marked [] journal mark

pub ends_access : (journal : List Event) (e : Event) (object : ℕ) → object_of e ≡ Some object → marks_at_end (journal ++ e ∷ []) ≡ []
ends_access journal e object of = longer.ends_access [] journal e object of

-- in a sound state they are at most fifteen
pub few_open : (s : ProtocolState) (t : ℕ) → IsSound s → length (marks_at_end (journal_of s.journals t)) ≤ 15
few_open s t sound =
    let x = thread_of s t in
    ends_few (length s.threads) (length s.cells) t x.count x.phase (marks_at_end (journal_of s.journals t)) sound.form.few_threads (sound.form.phases t) (sound.positions.at_end t)
