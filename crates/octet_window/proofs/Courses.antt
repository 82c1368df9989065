-- Threads that make what is noted of them in an order that their marks allow.
use Rattle.std.proofs.Common.{◌≡◌, ℕ, ◌+◌, ◌<◌, inl, inr, List, [], ◌∷◌, ◌++◌, length, map, take, get_or, slice_set, refl, sym, ap, ◌∙◌, subst, length-set}
use Rattle.std.proofs.lemmas.Bool.{cases_eq}
use Rattle.std.proofs.lemmas.List.{get_or-set_same, get_or-set_other, length-map, take_all}
use Rattle.octet_model.specs.declared.event.Event.{Event}
use Rattle.octet_model.specs.Machine.{draws_after}
use Rattle.octet_model.specs.Plays.{operation_of}
use Rattle.octet_window.specs.declared.course.Step.{Step}
use Rattle.octet_window.specs.declared.notes.Note.{Note}
use Rattle.octet_window.specs.Courses.{event_next, events_by, no_note, notes_of, AllMade, AreAllSteps, IsCourse, MayGoOn, NoneGoesOn}
use Rattle.octet_window.specs.Histories.{noted, ComesTo, HasNoHistory}
use Rattle.octet_window.specs.Noting.{events_of, IsEventIn}
use Rattle.octet_window.specs.Values.{behind}
use Rattle.octet_window.proofs.Histories.{comes_at_start, comes_same, enough, history_at_end, none_where_it_stops, noted_on, value_in, zeros}
use Rattle.octet_window.proofs.Steps.{event_in, more_events, other_step, own_step, steps_more}
use Rattle.octet_window.proofs.Values.{behind_more, fit_more, fit_parts}

pub course_begins : (threads : List (List Note)) (made : List ℕ) → made ≡ map (λ notes. 0) threads → IsCourse threads [] made 0
course_begins threads made none = record {
  counted = ap (λ (l : List ℕ). length l) none ∙ length-map {B = ℕ} threads (λ (notes : List Note). 0);
  each = λ t. ap (λ (n : ℕ). events_of (take n (notes_of threads t))) (sym (ap (λ (l : List ℕ). get_or l t 0) none ∙ zeros threads t));
  inside = λ objects all. tt;
  comes = λ values fit. comes_same values (noted threads) none refl refl (comes_at_start values (noted threads) threads);
  fits = λ values last number h. tt;
}

module _ (threads : List (List Note)) (steps : List Step) (made : List ℕ) (draws : ℕ) (c : IsCourse threads steps made draws) where
  pub course_ends : AllMade threads made → AreAllSteps threads steps
  course_ends all = record {
    each = λ t. c.each t ∙ ap events_of (take_all (get_or made t 0) (notes_of threads t) (enough threads made all t));
    inside = c.inside;
    history = λ values fit. history_at_end values threads made draws (behind steps values) (c.comes values fit) all;
    fits = c.fits;
  }

  pub course_stops : NoneGoesOn threads made draws → (AllMade threads made → ⊥) → (values : List ℕ) → HasNoHistory values (noted threads)
  course_stops none not_all values last number h =
      none_where_it_stops values threads made draws (behind steps values) (c.comes values (c.fits values last number h)) none not_all last number h

  module _ (t k : ℕ) (e : Event) (inside : t < length threads) (next : MayGoOn threads made draws t) (is_k : get_or made t 0 ≡ k) (is_e : e ≡ event_next threads made t) where
    abbrev this : Step
    this = record { thread = t; event = e }

    there : t < length made
    there = subst (λ (n : ℕ). t < n) (sym c.counted) inside

    own : events_by t (steps ++ this ∷ []) ≡ events_of (take (get_or (slice_set made t (k + 1)) t 0) (notes_of threads t))
    own =
        own_step steps t e
        ∙ (ap (λ (l : List Event). l ++ e ∷ []) (c.each t)
        ∙ (ap (λ (x : Event). events_of (take (get_or made t 0) (notes_of threads t)) ++ x ∷ []) is_e
        ∙ (sym (more_events (notes_of threads t) (get_or made t 0) no_note next.0)
        ∙ ap (λ (n : ℕ). events_of (take n (notes_of threads t))) (ap (λ (n : ℕ). n + 1) is_k ∙ sym (get_or-set_same made t (k + 1) 0 there)))))

    pub course_on : IsCourse threads (steps ++ this ∷ []) (slice_set made t (k + 1)) (draws_after (operation_of e) draws)
    course_on = record {
      counted = length-set made t (k + 1) ∙ c.counted;
      each = λ u. elim (cases_eq u t) [
        | inr apart ↦ other_step steps t u e apart ∙ (c.each u ∙ ap (λ (n : ℕ). events_of (take n (notes_of threads u))) (sym (get_or-set_other made t u (k + 1) 0 apart)))
        | inl same ↦ subst (λ (v : ℕ). events_by v (steps ++ this ∷ []) ≡ events_of (take (get_or (slice_set made t (k + 1)) v 0) (notes_of threads v))) (sym same) own
      ];
      inside = λ objects all. steps_more steps objects (length threads) this (c.inside objects all) inside
          (subst (IsEventIn objects) (sym is_e) (event_in objects threads t (get_or made t 0) no_note next.0 all));
      comes = λ values fit.
          let f = fit_parts steps (this ∷ []) values fit in
          subst (λ (heap : List ℕ). ComesTo values (noted threads) (slice_set made t (k + 1)) (draws_after (operation_of e) draws) heap) (sym (behind_more steps this values))
          (noted_on values threads made draws (behind steps values) (c.comes values f.0) t k e inside next is_k is_e there f.1.0);
      fits = λ values last number h.
          let f = c.fits values last number h in
          fit_more steps (this ∷ []) values f (value_in values threads made draws (behind steps values) (c.comes values f) t k e inside next is_k is_e last number h, tt);
    }
