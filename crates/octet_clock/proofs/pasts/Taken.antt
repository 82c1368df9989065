-- What marks take in, and the clocks after them.
use Rattle.std.proofs.Common.{◌≡◌, ℕ, zero, suc, ◌-◌, ◌<◌, ◌≤◌, ◌^◌, ◌⊎◌, inl, inr, List, [], length, get_or, Option, Some, None, slice_get, sym, ap, ◌∙◌, subst, arith}
use Rattle.std.proofs.lemmas.Bool.{cases_eq, cases_lt}
use Rattle.std.proofs.lemmas.Option.{slice_get-get_or, slice_get_within}
use Rattle.std.proofs.lemmas.List.{get_or_past}
use Rattle.octet_model.specs.declared.event.Mark.{Mark}
use Rattle.octet_model.specs.declared.event.Mark.TheVariants.{Join, Draw, Fence}
use Rattle.octet_model.specs.declared.event.Event.{Event}
use Rattle.octet_model.specs.declared.event.Event.TheVariants.{Marked}
use Rattle.octet_model.specs.declared.event.Place.{Place}
use Rattle.octet_model.specs.Machine.{Journals, journal_of}
use Rattle.octet_model.specs.HappensBefore.{event_at, HappensBefore}
use Rattle.octet_model.specs.Past.{Reaches, InPast}
use Rattle.octet_model.proofs.lemmas.Pasts.{place, path_on, along_journal, past_has_joined, past_has_draws_whole}
use Rattle.octet_clock.specs.declared.clock.Clock.{Clock}
use Rattle.octet_clock.specs.declared.sources.Prefix.{Prefix}
use Rattle.octet_clock.specs.Clock.{IsRaised, IsJoined}
use Rattle.octet_clock.specs.Past.{AddsNothing, HasPast, IsPastOf}
use Rattle.octet_clock.specs.Play.{made_by, draws_by, IsWholePlay, IsStep}
use Rattle.octet_clock.specs.Sources.{IsNextStep, IsDrawn, KeepsDraws, IsSource, TakesIn, draw_of}
use Rattle.octet_clock.proofs.pasts.Edges.{Added, Before, Itself, ByJoin, ByDraw, ByFence, added}
use Rattle.octet_clock.proofs.pasts.Known.{past_joined}
use Rattle.octet_clock.proofs.plays.Walk.{made_grows, join_names, draw_is_next, fence_names, draws_differ, draw_is_some}

-- no more is made than the journals have
pub made_within : (js : Journals) (play : List ℕ) → IsWholePlay js play → (i t : ℕ) → i ≤ length play → made_by play i t ≤ length (journal_of js t)
made_within js play whole i t le = omega (arith, whole.makes t, made_grows play t (length play - i) i (length play) (omega arith) (omega arith))

module _ (js : Journals) where
  -- what lies in a past that ends with an event reaches that event
  reaches_last : (u event : ℕ) (a : Place) (x : Event) → event_at js (place u event) ≡ Some x → InPast js u (suc event) a → Reaches js a (place u event)
  reaches_last u event a x is h =
      elim (cases_eq h.near event) [
        | inl same ↦ subst (λ (n : ℕ). Reaches js a (place u n)) same h.reaches
        | inr differ ↦ inr (go h.reaches (along_journal js u h.near event (omega (arith, h.below)) (x, is)))
      ]
    where
      go : Reaches js a (place u h.near) → HappensBefore js (place u h.near) (place u event) → HappensBefore js a (place u event)
      go (inl same) path = subst (λ (p : Place). HappensBefore js p (place u event)) (sym same) path
      go (inr before) path = path_on js a (place u h.near) (place u event) before path

-- the draws that a mark waits for: a Draw those before it, a Fence those up to its number
abbrev pub WaitsForDraws : Mark → ℕ → Type 0
WaitsForDraws (Draw upto) number = upto ≡ suc number
WaitsForDraws (Fence upto) number = upto ≡ number
WaitsForDraws (Join from upto) number = ⊥

module _ (js : Journals) (play : List ℕ) (i t : ℕ) where
  abbrev k : ℕ
  k = made_by play i t

  abbrev Only : Place → Prefix → Type 0
  Only a first = InPast js t k a ⊎ (InPast js first.thread first.count a ⊎ (a ≡ place t k))

  pub join_source : (u p : ℕ) → IsNextStep js play i t (Marked (Join u p)) → IsSource js play i t (record { thread = u; count = p })
  join_source u p next =
      let made = join_names js play next.whole i t u p next.step in
      record {
        made = made;
        taken = λ a h. past_has_joined js t (suc k) k u p a (omega arith) next.step.makes (omega (arith, made_within js play next.whole i u (omega (arith, next.step.within)))) h;
        only = λ a h. go a (added js t k a h);
      }
    where
      go : (a : Place) → Added js t k a → Only a (record { thread = u; count = p })
      go a (Before was) = inl was
      go a (Itself here) = inr (inr here)
      go a (ByJoin from upto is past) =
          let makes = next.step.makes in
          let f : from ≡ u = cc in
          let n : upto ≡ p = cc in
          inr (inl (subst (λ (m : ℕ). InPast js u m a) n (subst (λ (m : ℕ). InPast js m upto a) f past)))
      go a (ByDraw first then draw at_draw is below reaches) = absurd (let makes = next.step.makes in cc)
      go a (ByFence first upto draw at_draw is below reaches) = absurd (let makes = next.step.makes in cc)

  -- a Join names fewer events than a journal may have
  pub join_fits : (u p : ℕ) → IsNextStep js play i t (Marked (Join u p)) → p < 2 ^ 32
  join_fits u p next =
      elim (cases_lt u (length js)) [
        | inl lt ↦ omega (arith, made, within, next.places.events u [] lt)
        | inr past ↦ omega (arith, made, within, ap (λ (j : List Event). length j) (get_or_past js u [] past))
      ]
    where
      made : p ≤ made_by play i u
      made = join_names js play next.whole i t u p next.step

      within : made_by play i u ≤ length (journal_of js u)
      within = made_within js play next.whole i u (omega (arith, next.step.within))

  -- the draws that the event at the place has seen
  abbrev HasSeen : ℕ → Type 0
  HasSeen upto = (event_at js (place t k) ≡ Some (Marked (Draw upto))) ⊎ (event_at js (place t k) ≡ Some (Marked (Fence upto)))

  -- what reaches one of the first draws
  record ByDraws (number : ℕ) (a : Place) : Type 0 where
    sooner : ℕ
    draw : Place
    within : sooner ≤ number
    is_draw : event_at js draw ≡ Some (Marked (Draw sooner))
    reaches : Reaches js a draw

  module _ (whole : IsWholePlay js play) where
    taken_from_draw : (upto number : ℕ) (first : Prefix) → HasSeen upto → number ≤ upto → IsDrawn js play i number first
        → (a : Place) → InPast js first.thread first.count a → InPast js t (suc k) a
    taken_from_draw upto number first seen le d a h =
        let h' = subst (λ (n : ℕ). InPast js first.thread n a) d.counted h in
        past_has_draws_whole js t (suc k) k upto number (place first.thread d.event) a (draws_differ js play whole) (omega arith) seen d.drawn le (reaches_last js first.thread d.event a (Marked (Draw number)) d.drawn h')

    by_draw : (number sooner : ℕ) (first : Prefix) (draw a : Place) → IsDrawn js play i number first → event_at js draw ≡ Some (Marked (Draw sooner)) → sooner ≤ number → Reaches js a draw
        → InPast js first.thread first.count a
    by_draw number sooner first draw a d at_draw le reaches =
        subst (λ (n : ℕ). InPast js first.thread n a) (sym d.counted)
        (past_has_draws_whole js first.thread (suc d.event) d.event number sooner draw a (draws_differ js play whole) (omega arith) (inl d.drawn) at_draw le reaches)

    module _ (mark : Mark) (number : ℕ) (waits : WaitsForDraws mark number) (step : IsStep js play i t (Marked mark)) where
      waited_are_made : number ≤ draws_by js play i
      waited_are_made = go mark waits step
        where
          go : (m : Mark) → WaitsForDraws m number → IsStep js play i t (Marked m) → number ≤ draws_by js play i
          go (Draw upto) w s = omega (arith, w, draw_is_next js play whole i t upto s)
          go (Fence upto) w s = omega (arith, w, fence_names js play whole i t upto s)
          go (Join from upto) w s = absurd w

      waited_are_seen : (upto : ℕ) × HasSeen upto × (number ≤ upto)
      waited_are_seen = go mark waits step
        where
          go : (m : Mark) → WaitsForDraws m number → IsStep js play i t (Marked m) → (upto : ℕ) × HasSeen upto × (number ≤ upto)
          go (Draw upto) w s = (upto, inl s.makes, omega (arith, w))
          go (Fence upto) w s = (upto, inr s.makes, omega (arith, w))
          go (Join from upto) w s = absurd w

      -- what the mark adds comes by these draws
      adds_by_draws : (m : Mark) → WaitsForDraws m number → IsStep js play i t (Marked m) → (a : Place) → Added js t k a → InPast js t k a ⊎ (ByDraws number a ⊎ (a ≡ place t k))
      adds_by_draws (Draw d) w s a (Before was) = inl was
      adds_by_draws (Draw d) w s a (Itself here) = inr (inr here)
      adds_by_draws (Draw d) w s a (ByJoin from upto is past) = absurd (let makes = s.makes in cc)
      adds_by_draws (Draw d) w s a (ByDraw sooner then draw at_draw is below reaches) =
          let makes = s.makes in
          let n : then ≡ d = cc in
          inr (inl (record { sooner = sooner; draw = draw; within = omega (arith, w, n, below); is_draw = at_draw; reaches = reaches }))
      adds_by_draws (Draw d) w s a (ByFence sooner upto draw at_draw is below reaches) = absurd (let makes = s.makes in cc)
      adds_by_draws (Fence f) w s a (Before was) = inl was
      adds_by_draws (Fence f) w s a (Itself here) = inr (inr here)
      adds_by_draws (Fence f) w s a (ByJoin from upto is past) = absurd (let makes = s.makes in cc)
      adds_by_draws (Fence f) w s a (ByDraw sooner then draw at_draw is below reaches) = absurd (let makes = s.makes in cc)
      adds_by_draws (Fence f) w s a (ByFence sooner upto draw at_draw is below reaches) =
          let makes = s.makes in
          let n : upto ≡ f = cc in
          inr (inl (record { sooner = sooner; draw = draw; within = omega (arith, w, n, below); is_draw = at_draw; reaches = reaches }))
      adds_by_draws (Join from upto) w s a new = absurd w

      -- it takes in the last of them
      waited_source : (first : Prefix) → IsDrawn js play i number first → IsSource js play i t first
      waited_source first d = record {
        made = d.made;
        taken = taken_from_draw waited_are_seen.0 number first waited_are_seen.1 waited_are_seen.2 d;
        only = λ a h. elim (adds_by_draws mark waits step a (added js t k a h)) [
          | inl was ↦ inl was
          | inr new ↦ elim new [
            | inl by ↦ inr (inl (by_draw number by.sooner first by.draw a d by.is_draw by.within by.reaches))
            | inr here ↦ inr (inr here)
          ]
        ];
      }

    -- and where there are none, nothing
    none_waited : (mark : Mark) → WaitsForDraws mark 0 → IsStep js play i t (Marked mark) → TakesIn js play i t None
    none_waited mark waits step = λ a h. elim (adds_by_draws mark 0 waits step mark waits step a (added js t k a h)) [
      | inl was ↦ inl was
      | inr new ↦ elim new [
        | inl by ↦ absurd (omega (arith, by.within, draw_is_some js play whole by.draw by.sooner by.is_draw))
        | inr here ↦ inr here
      ]
    ]

    -- a draw that was made is kept
    kept_draw : (place : ℕ) (draws : List Prefix) → KeepsDraws js play i draws → place < length draws → (first : Prefix) × (slice_get draws place ≡ Some first) × IsDrawn js play i (suc place) first
    kept_draw place draws keeps lt =
        let none : Prefix = record { thread = 0; count = 0 } in
        let there = slice_get-get_or draws place none lt in
        (get_or draws place none, there, keeps.each place (get_or draws place none) there)

    pub waited_takes_in : (mark : Mark) (number : ℕ) (draws : List Prefix) → WaitsForDraws mark number → IsStep js play i t (Marked mark) → KeepsDraws js play i draws → TakesIn js play i t (draw_of draws number)
    waited_takes_in mark zero draws waits step keeps = none_waited mark waits step
    waited_takes_in mark (suc before) draws waits step keeps =
        let kept = kept_draw before draws keeps (omega (arith, waited_are_made mark (suc before) waits step, keeps.counts)) in
        subst (λ (o : Option Prefix). TakesIn js play i t o) (sym kept.1) (waited_source mark (suc before) waits step kept.0 kept.2)

    -- a draw has a number of at least 1
    pub draw_number : (number : ℕ) → IsStep js play i t (Marked (Draw number)) → 1 ≤ number
    draw_number number step = omega (arith, draw_is_next js play whole i t number step)

  -- the clock after a mark, from the clock before it and what it takes in
  pub past_source : (first : Prefix) (own other both after : Clock) → IsSource js play i t first → k < length (journal_of js t) → IsPastOf js t k own → IsPastOf js first.thread first.count other
      → IsJoined own other both → IsRaised both t (suc k) after → IsPastOf js t (suc k) after
  past_source first own other both after source within mine its joined raised =
      past_joined js t k first.thread first.count own other both after mine its joined raised within source.taken source.only

  -- a mark adds nothing where the thread knew what it takes in
  pub known_adds_nothing : (first : Prefix) → IsSource js play i t first → HasPast js t k first → AddsNothing js t k
  known_adds_nothing first source known a h = elim (source.only a h) [
    | inl was ↦ inl was
    | inr new ↦ elim new [ inl its ↦ inl (known a its) | inr here ↦ inr here ]
  ]

  -- the same, where a count is what the thread has made
  pub counted_source : (count next : ℕ) (first : Prefix) (own other both after : Clock) → count ≡ k → next ≡ suc count → IsSource js play i t first → k < length (journal_of js t)
      → IsPastOf js t count own → IsPastOf js first.thread first.count other → IsJoined own other both → IsRaised both t next after → IsPastOf js t (suc count) after
  counted_source count next first own other both after is more source within mine its joined raised =
      let mine' = subst (λ (n : ℕ). IsPastOf js t n own) is mine in
      let raised' = subst (λ (n : ℕ). IsRaised both t n after) (more ∙ ap suc is) raised in
      subst (λ (n : ℕ). IsPastOf js t (suc n) after) (sym is) (past_source first own other both after source within mine' its joined raised')

  -- a step's event is in its journal
  pub step_within : (e : Event) → IsStep js play i t e → k < length (journal_of js t)
  step_within e step = slice_get_within (journal_of js t) k e step.makes
