-- A look at the status of a thread that was asked keeps the state sound, whether it has answered or not.
use Rattle.std.proofs.Common.{◌≡◌, ℕ, ◌<◌, inl, Bool, true, false, length, Some, None, sym, refl, ap, subst}
use Rattle.std.specs.Prelude.{if◌then◌else◌}
use Rattle.octet_model.specs.declared.event.Mark.TheVariants.{Join}
use Rattle.octet_model.specs.declared.event.Event.TheVariants.{Marked}
use Rattle.octet_state.specs.declared.state_word.StateWord.{StateWord}
use Rattle.octet_state.specs.declared.status_word.StatusWord.{StatusWord}
use Rattle.octet_state.specs.declared.act.Mode.{Mode}
use Rattle.octet_state.specs.declared.phase.Phase.{Phase}
use Rattle.octet_state.specs.declared.phase.Phase.TheVariants.{Claimed}
use Rattle.octet_state.specs.declared.phase.Due.TheVariants.{Nothing, Glance}
use Rattle.octet_state.specs.State.{ProtocolState, thread_of, status_of}
use Rattle.octet_state.specs.Steps.{ToLook, moved, one_done, proceeded, step, is_safe_point}
use Rattle.octet_state.specs.Asking.{whom_to_ask, number_to_ask, next_to_ask, answers}
use Rattle.octet_state.specs.Form.{HoldsPhase}
use Rattle.octet_state.specs.Positions.{PriorNamesThread}
use Rattle.octet_state.specs.Soundness.{IsSound}
use Rattle.octet_state.specs.Laws.{Stands, LookIsLawful}
use Rattle.octet_state.proofs.lemmas.Packing.{status_back}
use Rattle.octet_state.proofs.steps.Glance.{due_soundly}
use Rattle.octet_state.proofs.lemmas.Widths.{status_fits}
use Rattle.octet_state.proofs.parts.WhomClaimsAsk.{next_there}
use Rattle.octet_state.proofs.steps.AnsweredClaim.{answered_soundly}
use Rattle.octet_state.proofs.frames.WordOfStep.{does_at}

module _ (s : ProtocolState) (t object : ℕ) (mode : Mode) (prior : StateWord) (done : ℕ) (inside : t < length s.threads) (sound : IsSound s) (stands : Stands s t (Claimed object mode prior done true)) where
  abbrev whom : ℕ
  whom = next_to_ask (whom_to_ask prior) t done

  left : done < number_to_ask (whom_to_ask prior) (length s.threads)
  left = (subst (HoldsPhase (length s.threads) (length s.cells) t (thread_of s t).count) stands.1 (sound.form.phases t)).3 refl

  pub there : next_to_ask (whom_to_ask prior) t done < length s.threads
  there = next_there prior (length s.threads) t done (subst (PriorNamesThread (length s.threads)) stands.1 (sound.positions.prior_named t)) left

  by_answer : (b : Bool) → answers (status_of s whom) t ≡ b
      → IsSound (proceeded s t (if b then moved (one_done (thread_of s t).phase) Nothing (thread_of s t) else moved (thread_of s t).phase Glance (thread_of s t)) (if b then Some (Marked (Join whom (status_of s whom).upto)) else None))
  by_answer true gives = subst (λ (p : Phase). IsSound (proceeded s t (moved (one_done p) Nothing (thread_of s t)) (Some (Marked (Join whom (status_of s whom).upto))))) (sym stands.1)
      (answered_soundly s t object mode prior done true inside sound stands.1 left (inl (refl, gives)))
  by_answer false waits = due_soundly s t Glance inside sound (ap is_safe_point stands.1)

  pub looks_soundly : IsSound (step (ToLook (next_to_ask (whom_to_ask prior) t done)) t s)
  looks_soundly = subst (λ (w : StatusWord). IsSound (proceeded s t (if answers w t then moved (one_done (thread_of s t).phase) Nothing (thread_of s t) else moved (thread_of s t).phase Glance (thread_of s t))
      (if answers w t then Some (Marked (Join whom w.upto)) else None))) (sym (status_back (status_of s whom) (status_fits s whom sound))) (by_answer (answers (status_of s whom) t) refl)

pub look_is_lawful : LookIsLawful
look_is_lawful s t place whom object mode prior done sound inside stands same at = record {
  may = (stands.0, (object, mode, prior, done, stands.1, same));
  sound = subst (λ (u : ℕ). IsSound (step (ToLook u) t s)) (sym same) (looks_soundly s t object mode prior done inside sound stands);
  does = does_at s sound.form t inside (ToLook whom) place (λ word. word) (subst (λ (u : ℕ). u < length s.threads) (sym same) (there s t object mode prior done inside sound stands)) at refl;
}
