-- What a draw and a fence wait for, by the draws that are made.
use Rattle.std.proofs.Common.{◌≡◌, ℕ, zero, suc, ◌<◌, ◌≤◌, ◌⊎◌, ◌↔◌, inl, inr, nat_lt, List, [], length, IsTrue, slice_get, refl, sym, ap, ◌∙◌, subst, arith}
use Rattle.std.proofs.lemmas.Bool.{cases_lt, eqb-true, eq-eqb, le-leb, leb-true, and_parts}
use Rattle.std.proofs.lemmas.List.{length-map}
use Rattle.std.proofs.lemmas.Option.{slice_get_within}
use Rattle.octet_model.specs.declared.command.Command.{Command}
use Rattle.octet_model.specs.declared.event.Event.TheVariants.{Marked}
use Rattle.octet_model.specs.declared.event.Mark.{Mark}
use Rattle.octet_model.specs.declared.event.Mark.TheVariants.{Draw, Fence}
use Rattle.octet_model.specs.declared.event.Place.{Place}
use Rattle.octet_model.specs.declared.log.ThreadLog.{ThreadLog}
use Rattle.octet_model.specs.declared.script.Script.{Script}
use Rattle.octet_model.specs.Machine.{journal_of, PlainState, MakeMark, Wants, Behavior, is_enabled, next_of, may_proceed, may_step, after, IsFront, AllFinished}
use Rattle.octet_model.specs.Journals.{access_count, mark_count, gap_after, due_mark}
use Rattle.octet_model.specs.Orders.{thread_log_of, by_log, opening_state, state_after, journals_after, IsLawfulFront}
use Rattle.octet_model.proofs.lemmas.Steps.{count, makes_from, by_front}
use Rattle.octet_model.proofs.lemmas.Fronts.{stays, makes_it, after_on}
use Rattle.octet_model.proofs.lemmas.LogsOfJournals.{as_many_after}
use Rattle.octet_clock.specs.Fronts.{IsDrawn, demand_after}
use Rattle.octet_clock.specs.Laws.{FenceWaits, UntiedDrawWaits}
use Rattle.octet_clock.specs.Untied.{by_log_alone, opening_alone, IsUntied}
use Rattle.octet_clock.proofs.lemmas.DrawsMade.{DrawsMade, draws_made, draws_made_longer}
use Rattle.octet_clock.proofs.lemmas.FrontLaws.{front_split}
use Rattle.octet_clock.proofs.lemmas.LogsAlone.{StandsAlike, by_counts, front_alone, next_alone, untied_leads_on}

-- what is next may step where it is enabled
module _ (V : Behavior) (s : PlainState) (t : ℕ) (lt : t < length s.journals) (mark : Mark) (next : next_of V s t ≡ Wants (MakeMark mark)) where
  may_where_enabled : IsTrue (is_enabled s (MakeMark mark)) → IsTrue (may_step V s t)
  may_where_enabled enabled = (makes_from V s t (MakeMark mark) lt next enabled).may

  enabled_where_may : IsTrue (may_step V s t) → IsTrue (is_enabled s (MakeMark mark))
  enabled_where_may may = sym (ap (may_proceed s) next) ∙ (and_parts _ _ may).1

module _ (script : Script) (log : List ThreadLog) (front : List ℕ) (lawful : IsLawfulFront script log front) where
  abbrev V : Behavior
  V = by_log script log

  abbrev s : PlainState
  s = state_after script log front

  many : length (state_after script log front).journals ≡ length log
  many = as_many_after V front (opening_state script) ∙ length-map script.threads (λ (c : List Command). []) ∙ lawful.0

  made : DrawsMade (state_after script log front).journals (state_after script log front).draws
  made = draws_made V (opening_state script).heap script.threads front lawful.1

  -- as many draws are made as a number that is drawn, or 0
  at_least : (number : ℕ) → (number ≡ 0) ⊎ IsDrawn (journals_after script log front) number → number ≤ s.draws
  at_least number (inl none) = omega arith
  at_least number (inr drawn) = made.seen.drawn drawn.0 number drawn.1

  is_drawn : (number : ℕ) → number ≤ s.draws → (number ≡ 0) ⊎ IsDrawn (journals_after script log front) number
  is_drawn zero le = inl refl
  is_drawn (suc k) le = inr (made.each (suc k) (omega arith) le)

  fence : (t number : ℕ) → t < length log → next_of V s t ≡ Wants (MakeMark (Fence number)) → IsTrue (may_step V s t) ↔ ((number ≡ 0) ⊎ IsDrawn (journals_after script log front) number)
  fence t number lt next = (
    λ may. is_drawn number (leb-true number s.draws (enabled_where_may V s t (omega (arith, many)) (Fence number) next may)),
    λ drawn. may_where_enabled V s t (omega (arith, many)) (Fence number) next (le-leb number s.draws (at_least number drawn)),
  )

  -- in an untied log a draw that is next is not made yet
  module _ (untied : IsUntied log) (t number : ℕ) (lt : t < length log) (next : next_of (by_log script log) (state_after script log front) t ≡ Wants (MakeMark (Draw (suc number)))) where
    abbrev V' : Behavior
    V' = by_log_alone log

    abbrev s' : PlainState
    s' = after (by_log_alone log) (opening_alone log) front

    both : IsFront V' (opening_alone log) front × StandsAlike (state_after script log front) (after (by_log_alone log) (opening_alone log) front)
    both = front_alone script log lawful.0 front lawful.1

    next' : next_of V' s' t ≡ Wants (MakeMark (Draw (suc number)))
    next' =
        let own = thread_log_of log t in
        let j = journal_of s.journals t in
        by_counts script log s s' both.1 t
        ∙ next_alone (due_mark (slice_get own.marks (mark_count j)) (gap_after 0 j)) (demand_after script t j) (nat_lt (access_count j) own.accesses) (nat_lt (mark_count j) (length own.marks)) (MakeMark (Draw (suc number))) next

    no_more : s.draws ≤ number
    no_more = elim (cases_lt number s.draws) [
      | inr le ↦ le
      | inl above ↦
          let on = untied_leads_on log front untied both.0 in
          let later = front_split V' front on.0 (opening_alone log) on.1.0 in
          let last = after V' s' on.0 in
          let there : t < length s'.journals = omega (arith, many, both.1.as_many) in
          let ends : AllFinished V' (after V' s' on.0) = subst (λ (x : PlainState). AllFinished V' x) (after_on V' front on.0 (opening_alone log)) on.1.1 in
          let it = makes_it V' on.0 s' t (MakeMark (Draw (suc number))) there next' later ends in
          let now = draws_made V' [] log front both.0 in
          let drawn = now.each (suc number) (omega arith) (omega (arith, above, both.1.draws)) in
          let stays_drawn = stays V' on.0 s' drawn.0.thread drawn.0.event (Marked (Draw (suc number))) drawn.1 in
          let all : DrawsMade last.journals last.draws = by_front V' (λ (x : PlainState). DrawsMade x.journals x.draws) (λ x u o m made. draws_made_longer x u o m.within m.enabled made) on.0 s' later now in
          let same = all.seen.differ drawn.0 (record { thread = t; event = count s'.journals t }) (suc number) stays_drawn it.1 in
          let old = slice_get_within (journal_of s'.journals drawn.0.thread) drawn.0.event (Marked (Draw (suc number))) drawn.1 in
          absurd (omega (arith, old, ap (λ (p : Place). p.event) same, ap (λ (p : Place). count s'.journals p.thread) same))
    ]

    draw : IsTrue (may_step V s t) ↔ ((number ≡ 0) ⊎ IsDrawn (journals_after script log front) number)
    draw = (
      λ may. is_drawn number (omega (arith, eqb-true (suc number) (suc s.draws) (enabled_where_may V s t (omega (arith, many)) (Draw (suc number)) next may))),
      λ drawn. may_where_enabled V s t (omega (arith, many)) (Draw (suc number)) next (eq-eqb (suc number) (suc s.draws) (omega (arith, at_least number drawn, no_more))),
    )

pub fence_waits : FenceWaits
fence_waits script log front t number lawful lt next = fence script log front lawful t number lt next

pub untied_draw_waits : UntiedDrawWaits
untied_draw_waits script log front t number untied lawful lt next = draw script log front lawful untied t number lt next
