-- A settle of a share keeps the state sound.
use Rattle.std.proofs.Common.{◌≡◌, ℕ, ◌+◌, ◌^◌, ◌<◌, ◌≤◌, inr, Bool, IsTrue, length, Some, None, sym, refl, ap, ◌∙◌, subst, arith, get_or-set_same}
use Rattle.std.specs.Prelude.{nat_le, nat_lt, if◌then◌else◌}
use Rattle.std.proofs.lemmas.Bool.{and_parts, eq-eqb, ne_eqb, leb-true}
use Rattle.octet_model.specs.declared.event.Mark.TheVariants.{Draw}
use Rattle.octet_model.specs.declared.event.Place.{Place}
use Rattle.octet_model.specs.Machine.{journal_of}
use Rattle.octet_model.specs.Journals.{access_count}
use Rattle.octet_model.specs.Frugal.{marks_at_end}
use Rattle.octet_model.proofs.lemmas.MarksSeen.{history_marks_seen}
use Rattle.octet_state.specs.declared.state_word.StateWord.{StateWord}
use Rattle.octet_state.specs.declared.state_word.StateWord.TheVariants.{WrEx, RdSh, ShInt}
use Rattle.octet_state.specs.declared.act.Mode.{Mode}
use Rattle.octet_state.specs.declared.act.Mode.TheVariants.{Read}
use Rattle.octet_state.specs.declared.phase.Phase.{Phase}
use Rattle.octet_state.specs.declared.phase.Phase.TheVariants.{Pass, Sharing}
use Rattle.octet_state.specs.declared.phase.Due.TheVariants.{Nothing}
use Rattle.octet_state.specs.Words.{packed_state}
use Rattle.octet_state.specs.State.{Thread, ProtocolState, thread_of, state_of, now, state_place}
use Rattle.octet_state.specs.Steps.{ToSettle, target, settling, passing, moved, with_state, proceeded, most_accesses}
use Rattle.octet_state.specs.Form.{HoldsPhase}
use Rattle.octet_state.specs.Positions.{is_resting, access_to_come, AreFew, HasMarksAtEnd}
use Rattle.octet_state.specs.Passing.{may_pass}
use Rattle.octet_state.specs.Intermediate.{change_of, change_by}
use Rattle.octet_state.specs.Pasts.{PhaseKnows, IsSharedAt}
use Rattle.octet_state.specs.FrugalShape.{marks_for, fences_for, IsPrivateState}
use Rattle.octet_state.specs.Soundness.{IsSound}
use Rattle.octet_state.specs.Laws.{Stands, SettleOfShareIsLawful}
use Rattle.octet_state.proofs.frames.SeenByOthers.{TouchesAlike}
use Rattle.octet_state.proofs.parts.Passing.{shared_state}
use Rattle.octet_state.proofs.frames.StateChange.{ChangesWell, changes_soundly, shape_kept}
use Rattle.octet_state.proofs.frames.WordOfStep.{does_at}

module _ (s : ProtocolState) (t object number : ℕ) (inside : t < length s.threads) (sound : IsSound s) (stands : Stands s t (Sharing object (Some number))) where
  abbrev settled : Thread
  settled = moved (Pass object Read) Nothing (thread_of s t)

  there : object < length s.cells
  there = subst (HoldsPhase (length s.threads) (length s.cells) t (thread_of s t).count) stands.1 (sound.form.phases t)

  state : state_of s object ≡ ShInt t
  state = shared_state s t object (Some number) sound stands.1

  knows : PhaseKnows s.journals s.counter t (Sharing object (Some number))
  knows = subst (PhaseKnows s.journals s.counter t) stands.1 (sound.pasts.phases t)

  abbrev draw : Place
  draw = record { thread = t; event = knows.1.0 }

  shared : IsSharedAt s.journals s.counter object number
  shared = (
    leb-true 1 number (and_parts (nat_le 1 number) (nat_lt number (2 ^ 64)) (sound.positions.marks draw (Draw number) knows.1.1.is_draw)).0,
    (history_marks_seen s.starts s.journals s.cells s.counter sound.one_history).drawn draw number knows.1.1.is_draw,
    (draw, knows.1.1),
  )

  within : object < length s.states
  within = omega (arith, there, sound.form.states)

  few_at_end : AreFew (marks_at_end (journal_of s.journals t))
  few_at_end = let ends : HasMarksAtEnd (Sharing object (Some number)) (marks_at_end (journal_of s.journals t)) = subst (λ (p : Phase). HasMarksAtEnd p (marks_at_end (journal_of s.journals t))) stands.1 (sound.positions.at_end t) in
      subst AreFew (sym ends.2) (omega arith, omega arith)

  well : ChangesWell s t object (RdSh number) settled
  well = record {
    dues = refl;
    phases = there;
    ran = ap is_resting stands.1;
    runs = refl;
    named = tt;
    prior_named = tt;
    accesses = subst (λ (p : Phase). access_count (journal_of s.journals t) + access_to_come p ≤ most_accesses) stands.1 (sound.positions.accesses t);
    at_end = few_at_end;
    others_change = λ u differ. sym (ap (λ (v : StateWord). change_of v u) state ∙ ap (λ (b : Bool). if b then Some (ShInt t) else None) (ne_eqb t u (λ same. differ (sym same))));
    own_change = refl;
    changed_nothing = λ o differ. ap (λ (p : Phase). change_by p t o) stands.1 ∙ ap (λ (b : Bool). if b then Some (ShInt t) else None) (ne_eqb object o (λ same. differ (sym same)));
    changes_nothing = λ o differ. refl;
    others_pass = λ mode u differ is_there h. readers mode u (subst (λ (v : StateWord). IsTrue (may_pass s.statuses s.threads mode u object v)) state h);
    passing = subst (λ (v : StateWord). IsTrue (may_pass (proceeded (with_state s object (RdSh number)) t settled None).statuses (proceeded (with_state s object (RdSh number)) t settled None).threads Read t object v)) (sym (get_or-set_same s.states object (RdSh number) (WrEx 0) within)) refl;
    state_knows = shared;
    knows = knows.0;
    counts = refl;
    handover = tt;
  }
    where
      readers : (mode : Mode) (u : ℕ) → IsTrue (may_pass s.statuses s.threads mode u object (ShInt t)) → IsTrue (may_pass (proceeded (with_state s object (RdSh number)) t settled None).statuses (proceeded (with_state s object (RdSh number)) t settled None).threads mode u object (RdSh number))
      readers Read u h = refl
      readers _ u h = absurd cc

  touching : TouchesAlike settled (thread_of s t)
  touching = record { marks_same = λ o. sym (ap (λ (p : Phase). marks_for p o) stands.1); fences_same = λ o. sym (ap (λ (p : Phase). fences_for p o) stands.1) }

  pub shares_soundly : IsSound (proceeded (with_state s object (RdSh number)) t (moved (Pass object Read) Nothing (thread_of s t)) None)
  shares_soundly = changes_soundly s t object (RdSh number) settled inside there sound well
      (shape_kept s t object (RdSh number) settled inside there sound well touching (eq-eqb object object refl) (λ u h. absurd (subst (IsPrivateState s.journals s.threads object u) state h)))

pub settle_of_share_is_lawful : SettleOfShareIsLawful
settle_of_share_is_lawful s t place new object number sound inside stands at stores = record {
  may = (stands.0, inr (object, number, stands.1));
  sound = subst (λ (p : Phase). IsSound (proceeded (with_state s (target p) (settling t (now s t) p)) t (moved (passing p) Nothing (thread_of s t)) None)) (sym stands.1) (shares_soundly s t object number inside sound stands);
  does = does_at s sound.form t inside ToSettle place (λ word. new)
      (subst (λ (p : Phase). target p < length s.cells) (sym stands.1) (there s t object number inside sound stands))
      (at ∙ ap (λ (p : Phase). state_place s (target p)) (sym stands.1)) (stores ∙ ap (λ (p : Phase). packed_state (settling t (now s t) p)) (sym stands.1));
}
