-- A fence keeps the state sound.
use Rattle.std.proofs.Common.{◌≡◌, ℕ, ◌+◌, ◌^◌, ◌<◌, ◌≤◌, inl, inr, Bool, true, false, ◌||◌, IsTrue, List, [], ◌∷◌, ◌++◌, length, Some, sym, refl, ap, ◌∙◌, subst, arith}
use Rattle.std.specs.Prelude.{◌==◌}
use Rattle.std.proofs.lemmas.Bool.{and_from, lt-ltb, le-leb}
use Rattle.octet_model.specs.declared.event.Mark.{Mark}
use Rattle.octet_model.specs.declared.event.Mark.TheVariants.{Fence}
use Rattle.octet_model.specs.declared.event.Event.{Event}
use Rattle.octet_model.specs.declared.event.Event.TheVariants.{Marked}
use Rattle.octet_model.specs.Machine.{journal_of, appended}
use Rattle.octet_model.specs.Journals.{access_count}
use Rattle.octet_model.specs.Frugal.{marks_at_end}
use Rattle.octet_model.specs.Plays.{IsOneHistory}
use Rattle.octet_model.specs.Log.{is_mark}
use Rattle.octet_model.proofs.lemmas.Steps.{count, new_event}
use Rattle.octet_model.proofs.lemmas.Growth.{history_grows}
use Rattle.octet_model.proofs.lemmas.Pasts.{past_has_draws_whole}
use Rattle.octet_model.proofs.lemmas.MarksSeen.{history_marks_seen}
use Rattle.octet_state.specs.declared.act.Mode.TheVariants.{Read}
use Rattle.octet_state.specs.declared.phase.Phase.{Phase}
use Rattle.octet_state.specs.declared.phase.Phase.TheVariants.{Pass, FenceDue}
use Rattle.octet_state.specs.State.{Thread, ProtocolState, thread_of, now}
use Rattle.octet_state.specs.Steps.{ToFence, counted, passing, proceeded, most_accesses}
use Rattle.octet_state.specs.Form.{HoldsPhase}
use Rattle.octet_state.specs.Positions.{is_resting, access_to_come, AreFew, HasMarksAtEnd}
use Rattle.octet_state.specs.Passing.{passes}
use Rattle.octet_state.specs.Pasts.{KnowsWrites, KnowsDraws, IsSharedAt, PhaseKnows}
use Rattle.octet_state.specs.Handover.{ClaimHandsOver}
use Rattle.octet_state.specs.FrugalShape.{fences_for, is_on}
use Rattle.octet_state.specs.Soundness.{IsSound}
use Rattle.octet_state.specs.Laws.{FenceIsLawful}
use Rattle.octet_state.proofs.frames.SeenByOthers.{busy, LooksAlike, each_thread, all_pass_on, changes_on, asks_zero}
use Rattle.octet_state.proofs.parts.DrawsCounted.{few_draws}
use Rattle.octet_state.proofs.frames.LongerJournals.{ends_marked}
use Rattle.octet_state.proofs.frames.EventMade.{StandsAfter, mine, now_more, form, positions}
use Rattle.octet_state.proofs.frames.MarkMade.{mark_keeps_order, claim_on, pasts_on, draw_after_on}
use Rattle.octet_state.proofs.frames.WordOfStep.{does_at}
use Rattle.octet_state.proofs.parts.FrugalShapeOfMarks.{shape_after_mark}

module _ (s : ProtocolState) (t object number : ℕ) (inside : t < length s.threads) (sound : IsSound s) (is : (thread_of s t).phase ≡ FenceDue object number) where
  -- the thread after its fence
  abbrev fenced : Thread
  fenced = counted (Pass object Read) s.counter

  abbrev event : Event
  event = Marked (Fence s.counter)

  shared : IsSharedAt s.journals s.counter object number
  shared = subst (PhaseKnows s.journals s.counter t) is (sound.pasts.phases t)

  small : s.counter < 2 ^ 64
  small = let h = few_draws s sound in omega arith

  stands : StandsAfter s t fenced event
  stands = record {
    ran = ap is_resting is;
    runs = refl;
    dues = refl;
    phases = subst (HoldsPhase (length s.threads) (length s.cells) t (thread_of s t).count) is (sound.form.phases t);
    prior_named = tt;
    mark_named = λ mark same. let it : Fence s.counter ≡ mark = cc in subst (λ (m : Mark). IsTrue (is_mark (length s.threads) t m)) it
        (and_from _ _ (le-leb 1 s.counter (let a = shared.0 in let b = shared.1 in omega arith)) (lt-ltb s.counter (2 ^ 64) small));
    accesses = let a : access_count (journal_of s.journals t) + 1 ≤ most_accesses = subst (λ (p : Phase). access_count (journal_of s.journals t) + access_to_come p ≤ most_accesses) is (sound.positions.accesses t) in omega arith;
    few = λ o none. absurd cc;
    at_end = subst AreFew (sym (ends_marked [] (journal_of s.journals t) (Fence s.counter)))
        (let none : marks_at_end (journal_of s.journals t) ≡ [] = subst (λ (p : Phase). HasMarksAtEnd p (marks_at_end (journal_of s.journals t))) is (sound.positions.at_end t) in
        subst (λ (l : List Mark). AreFew (l ++ Fence s.counter ∷ [])) (sym none) (omega arith, omega arith));
  }

  within : t < length s.journals
  within = mine s t fenced event inside sound

  history : IsOneHistory s.starts (appended s.journals t event) s.cells s.counter
  history = history_grows s.starts s.journals s.cells s.counter t event sound.one_history within (le-leb s.counter s.counter (omega arith)) refl
      (mark_keeps_order s.journals t (Fence s.counter) within sound.one_history.ordered)

  -- after the fence lies each draw so far, with its past
  draws_lie : KnowsDraws (appended s.journals t event) s.counter t (now (proceeded s t fenced (Some event)) t)
  draws_lie place n is_draw below = past_has_draws_whole (appended s.journals t event) t (now (proceeded s t fenced (Some event)) t) (count s.journals t) s.counter n place place
      (history_marks_seen s.starts (appended s.journals t event) s.cells s.counter history).differ
      (let h = now_more s t fenced event inside sound in omega arith) (inr (new_event s.journals t event within)) is_draw below (inl refl)

  writes_lie : KnowsWrites (appended s.journals t event) object t (now (proceeded s t fenced (Some event)) t)
  writes_lie place write =
      let draw = shared.2.0 in let behind = draw_after_on s t fenced (Fence s.counter) inside sound object number draw shared.2.1 in
      past_has_draws_whole (appended s.journals t event) t (now (proceeded s t fenced (Some event)) t) (count s.journals t) s.counter number draw place
      (history_marks_seen s.starts (appended s.journals t event) s.cells s.counter history).differ
      (let h = now_more s t fenced event inside sound in omega arith) (inr (new_event s.journals t event within)) behind.is_draw shared.1 (inr (behind.knows place write))

  alike : LooksAlike fenced (thread_of s t)
  alike = record { busy_same = sym (ap busy is) }

  on_same : (o : ℕ) → is_on fenced.phase o ≡ is_on (thread_of s t).phase o
  on_same o = or_false (object == o) ∙ sym (ap (λ (p : Phase). is_on p o) is)
    where
      or_false : (b : Bool) → (b || false) ≡ (false || b)
      or_false true = refl
      or_false false = refl

  pub fences_soundly : IsSound (proceeded s t fenced (Some event))
  fences_soundly = record {
    form = form s t fenced event inside sound stands;
    one_history = history;
    positions = positions s t fenced event inside sound stands;
    passing = all_pass_on s t fenced inside (Some event) alike sound.passing (subst (λ (p : Phase). IsTrue (passes s.statuses s.states s.threads t p)) is (sound.passing t));
    intermediate = changes_on s t fenced inside (Some event) alike sound.intermediate;
    pasts = pasts_on s t fenced (Fence s.counter) inside sound (λ n same. cc) writes_lie (omega arith) draws_lie;
    handover = each_thread s t fenced inside (Some event) (λ u y. ClaimHandsOver (proceeded s t fenced (Some event)).journals (proceeded s t fenced (Some event)).statuses u y.phase) tt
        (λ u differ. claim_on s t fenced (Fence s.counter) inside sound (λ n same. cc) u (thread_of s u).phase (sound.handover u));
    frugal = shape_after_mark s t fenced (Fence s.counter) inside sound on_same (asks_zero s t fenced inside (Some event) alike) (λ o old. refl)
        (λ o old marks. absurd (let fences : fences_for (thread_of s t).phase o ≡ true = ap (λ (p : Phase). fences_for p o) is ∙ marks in let not : fences_for (thread_of s t).phase o ≡ false = old.no_fence in cc));
  }

pub fence_is_lawful : FenceIsLawful
fence_is_lawful s t place object number sound inside stands at = record {
  may = (stands.0, (object, number, stands.1));
  sound = subst (λ (p : Phase). IsSound (proceeded s t (counted (passing p) s.counter) (Some (Marked (Fence s.counter))))) (sym stands.1) (fences_soundly s t object number inside sound stands.1);
  does = does_at s sound.form t inside ToFence place (λ word. word) tt at refl;
}
