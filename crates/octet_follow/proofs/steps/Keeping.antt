-- What a step changes keeps a state sound.
use Rattle.std.proofs.Common.{◌≡◌, ◌≢◌, ℕ, zero, suc, ◌<◌, ◌≤◌, ◌⊎◌, inl, inr, List, [], ◌∷◌, ◌++◌, map, length, get_or, set, slice_get, IsTrue, Option, Some, None, refl, sym, ap, ◌∙◌, subst, arith, length-set}
use Rattle.std.proofs.lemmas.Bool.{cases_eq}
use Rattle.std.proofs.lemmas.List.{length-map, get_or-set_same, get_or-set_other}
use Rattle.octet_model.specs.declared.event.Event.{Event}
use Rattle.octet_model.specs.declared.event.Event.TheVariants.{Marked}
use Rattle.octet_model.specs.declared.event.Mark.TheVariants.{Join}
use Rattle.octet_model.specs.Machine.{Journals, journal_of, PlainState, starting_state, Operation, Wants, is_enabled, event_made, heap_after, draws_after, appended, may_step, step, after, IsFront}
use Rattle.octet_model.specs.Plays.{operation_of, next_in, by_journals, state_after_play}
use Rattle.octet_model.proofs.lemmas.Steps.{at, stays_appended, as_many, new_event, makes_from, what_it_makes, draws_grow}
use Rattle.octet_model.proofs.lemmas.Fronts.{front_on, after_on}
use Rattle.octet_model.proofs.lemmas.LogsOfJournals.{same_start}
use Rattle.octet_follow.specs.State.{FollowerState, CourseState, follower_of, unbegun, journals_of, plain}
use Rattle.octet_follow.specs.Soundness.{JoinsShown, IsSoundFollower, IsSoundCourse}

pub journal_at : (ps : List FollowerState) (u : ℕ) → journal_of (map (λ (p : FollowerState). p.journal) ps) u ≡ (get_or ps u unbegun).journal
journal_at [] u = refl
journal_at (p ∷ ps) zero = refl
journal_at (p ∷ ps) (suc u) = journal_at ps u

-- the journals, where one follower has another
pub journals_set : (ps : List FollowerState) (t : ℕ) (q : FollowerState) → map (λ (p : FollowerState). p.journal) (set ps t q) ≡ set (map (λ (p : FollowerState). p.journal) ps) t q.journal
journals_set [] t q = refl
journals_set (p ∷ ps) zero q = refl
journals_set (p ∷ ps) (suc t) q = ap (λ (js : Journals). p.journal ∷ js) (journals_set ps t q)

pub journals_same : (ps : List FollowerState) (t : ℕ) (q : FollowerState) → q.journal ≡ (get_or ps t unbegun).journal → map (λ (p : FollowerState). p.journal) (set ps t q) ≡ map (λ (p : FollowerState). p.journal) ps
journals_same [] t q e = refl
journals_same (p ∷ ps) zero q e = ap (λ (j : List Event). j ∷ map (λ (p : FollowerState). p.journal) ps) e
journals_same (p ∷ ps) (suc t) q e = ap (λ (js : Journals). p.journal ∷ js) (journals_same ps t q e)

-- a change of the heap leaves its length
pub same_length : (o : Operation) (heap : List ℕ) → length (heap_after o heap) ≡ length heap
same_length (Operation.MakeMark mark) heap = refl
same_length (Operation.MakeRead object) heap = refl
same_length (Operation.MakeWrite object value) heap = length-set heap object value
same_length (Operation.MakeUpdate object change) heap = length-set heap object (change (get_or heap object 0))

-- what is next in journals is next in longer ones
next_longer : (js : Journals) (t u k : ℕ) (e : Event) (o : Operation) → next_in (at js u k) ≡ Wants o → next_in (at (appended js t e) u k) ≡ Wants o
next_longer js t u k e o wanted = go (at js u k) refl wanted
  where
    go : (x : Option Event) → at js u k ≡ x → next_in x ≡ Wants o → next_in (at (appended js t e) u k) ≡ Wants o
    go None is wanted = absurd cc
    go (Some x) is wanted = ap next_in (stays_appended js t u k e x is) ∙ wanted

-- a play of journals is a play of longer ones
play_longer : (js : Journals) (t : ℕ) (e : Event) (order : List ℕ) (s : PlainState) → IsFront (by_journals js) s order
    → IsFront (by_journals (appended js t e)) s order × (after (by_journals (appended js t e)) s order ≡ after (by_journals js) s order)
play_longer js t e [] s front = (tt, refl)
play_longer js t e (u ∷ order) s front =
    let V = by_journals (appended js t e) in
    let m = what_it_makes (by_journals js) s u front.0 in
    let n = makes_from V s u m.0 m.1.within (next_longer js t u (length (journal_of s.journals u)) e m.0 m.1.wanted) m.1.enabled in
    let state : step (by_journals js) s u ≡ step V s u = m.1.stepped ∙ sym n.stepped in
    let r = play_longer js t e order (step (by_journals js) s u) front.1 in
    ((n.may, subst (λ (x : PlainState). IsFront V x order) state r.0), ap (λ (x : PlainState). after V x order) (sym state) ∙ r.1)

-- one more event that the heap and the marks allow
pub play_grows : (starts : List ℕ) (js : Journals) (heap : List ℕ) (draws t : ℕ) (e : Event) (play : List ℕ)
    → IsFront (by_journals js) (starting_state starts js) play → state_after_play starts js play ≡ record { heap = heap; journals = js; draws = draws }
    → t < length js
    → IsTrue (is_enabled (record { heap = heap; journals = js; draws = draws }) (operation_of e))
    → event_made (operation_of e) heap ≡ e
    → IsFront (by_journals (appended js t e)) (starting_state starts (appended js t e)) (play ++ t ∷ [])
    × (state_after_play starts (appended js t e) (play ++ t ∷ []) ≡ record { heap = heap_after (operation_of e) heap; journals = appended js t e; draws = draws_after (operation_of e) draws })
play_grows starts js heap draws t e play is_play comes lt enabled is =
    let js' = appended js t e in
    let V = by_journals js' in
    let o = operation_of e in
    let order = play ++ t ∷ [] in
    let s0 = starting_state starts js in
    let s : PlainState = record { heap = heap; journals = js; draws = draws } in
    let s1 : PlainState = record { heap = heap_after o heap; journals = js'; draws = draws_after o draws } in
    let longer = play_longer js t e play s0 is_play in
    let there : after V s0 play ≡ s = longer.1 ∙ comes in
    let m = makes_from V s t o lt (ap next_in (new_event js t e lt)) enabled in
    let front : IsFront V s0 order = front_on V play (t ∷ []) s0 longer.0 (subst (λ (x : PlainState). IsTrue (may_step V x t)) (sym there) m.may, tt) in
    let ends : after V s0 order ≡ s1 =
    after_on V play (t ∷ []) s0 ∙ ap (λ (x : PlainState). step V x t) there ∙ m.stepped
    ∙ ap (λ (f : Event). record s1 { journals = appended js t f }) is in
    let Q : PlainState → Type 0 = λ z. IsFront V z order × (after V z order ≡ s1) in
    subst Q (ap (λ (n : Journals). record s0 { journals = n }) (same_start js js' (sym (as_many js t e)))) (front, ends)

-- an event of a longer journal is one of the shorter, or the last
pub get_appended : (journal : List Event) (e : Event) (k : ℕ) (x : Event) → slice_get (journal ++ e ∷ []) k ≡ Some x → (slice_get journal k ≡ Some x) ⊎ (x ≡ e)
get_appended [] e zero x is = inr cc
get_appended [] e (suc k) x is = absurd cc
get_appended (y ∷ journal) e zero x is = inl is
get_appended (y ∷ journal) e (suc k) x is = get_appended journal e k x is

module _ (s : CourseState) (sound : IsSoundCourse s) where
  pub many_journals : length (journals_of s) ≡ length s.followers
  many_journals = length-map s.followers (λ (p : FollowerState). p.journal)

  module _ (t : ℕ) (within : t < length s.followers) where
    -- the same followers but for one
    module _ (q : FollowerState) (play : List ℕ) (draws : ℕ) (cells : List ℕ) where
      abbrev next : CourseState
      next = record { starts = s.starts; play = play; followers = set s.followers t q; draws = draws; cells = cells }

      pub mine : follower_of next t ≡ q
      mine = get_or-set_same s.followers t q unbegun within

      pub others : (u : ℕ) → u ≢ t → follower_of next u ≡ follower_of s u
      others u ne = get_or-set_other s.followers t u q unbegun ne

      pub as_many_followers : length next.followers ≡ length s.followers
      as_many_followers = length-set s.followers t q

      module _ (shows : (follower_of s t).shown ≤ q.shown) (more : s.draws ≤ draws) where
        pub shown_more : (u : ℕ) → (follower_of s u).shown ≤ (follower_of next u).shown
        shown_more u =
            elim (cases_eq u t) [
              | inl same ↦ omega (arith, shows, ap (λ (n : ℕ). (follower_of s n).shown) same, ap (λ (n : ℕ). (follower_of next n).shown) same, ap (λ (p : FollowerState). p.shown) mine)
              | inr ne ↦ omega (arith, ap (λ (p : FollowerState). p.shown) (others u ne))
            ]

        pub joins_kept : (journal : List Event) → JoinsShown s journal → JoinsShown next journal
        joins_kept journal joins k from upto is = let a = joins k from upto is in let b = shown_more from in omega arith

        -- a follower that is as it was
        pub kept : (p : FollowerState) → IsSoundFollower s p → IsSoundFollower next p
        kept p its = record {
          shown = its.shown;
          look = let a = its.look in let b = shown_more p.whom in omega arith;
          seen = let a = its.seen in omega arith;
          joins = joins_kept p.journal its.joins;
        }

        pub keeps_sound : length cells ≡ length s.starts → IsFront (by_journals (journals_of next)) (starting_state s.starts (journals_of next)) play
            → state_after_play s.starts (journals_of next) play ≡ plain next → IsSoundFollower next q → IsSoundCourse next
        keeps_sound wide is_play comes its = record {
          wide = wide;
          is_play = is_play;
          comes = comes;
          each = λ u inside.
              elim (cases_eq u t) [
                | inl same ↦ subst (λ (p : FollowerState). IsSoundFollower next p) (sym (ap (follower_of next) same ∙ mine)) its
                | inr ne ↦ subst (λ (p : FollowerState). IsSoundFollower next p) (sym (others u ne)) (kept (follower_of s u) (sound.each u (let e = as_many_followers in omega arith)))
              ];
        }

      -- where no event is made
      module _ (no_event : q.journal ≡ (follower_of s t).journal) where
        same_journals : journals_of s ≡ map (λ (p : FollowerState). p.journal) (set s.followers t q)
        same_journals = sym (journals_same s.followers t q no_event)

        pub quiet_front : IsFront (by_journals (map (λ (p : FollowerState). p.journal) (set s.followers t q))) (starting_state s.starts (map (λ (p : FollowerState). p.journal) (set s.followers t q))) s.play
        quiet_front = subst (λ (js : Journals). IsFront (by_journals js) (starting_state s.starts js) s.play) same_journals sound.is_play

        pub quiet_comes : state_after_play s.starts (map (λ (p : FollowerState). p.journal) (set s.followers t q)) s.play ≡ record { heap = s.cells; journals = map (λ (p : FollowerState). p.journal) (set s.followers t q); draws = s.draws }
        quiet_comes = subst (λ (js : Journals). state_after_play s.starts js s.play ≡ record { heap = s.cells; journals = js; draws = s.draws }) same_journals sound.comes

    -- one more event
    module _ (e : Event) (enabled : IsTrue (is_enabled (plain s) (operation_of e))) (made : event_made (operation_of e) s.cells ≡ e) (q : FollowerState) (is_journal : q.journal ≡ (follower_of s t).journal ++ e ∷ []) where
      longer_journals : appended (journals_of s) t e ≡ map (λ (p : FollowerState). p.journal) (set s.followers t q)
      longer_journals =
          ap (λ (j : List Event). set (journals_of s) t (j ++ e ∷ [])) (journal_at s.followers t)
          ∙ ap (λ (j : List Event). set (journals_of s) t j) (sym is_journal) ∙ sym (journals_set s.followers t q)

      abbrev State : Journals → Type 0
      State js = IsFront (by_journals js) (starting_state s.starts js) (s.play ++ t ∷ [])
          × (state_after_play s.starts js (s.play ++ t ∷ []) ≡ record { heap = heap_after (operation_of e) s.cells; journals = js; draws = draws_after (operation_of e) s.draws })

      grown : State (map (λ (p : FollowerState). p.journal) (set s.followers t q))
      grown = subst State longer_journals (play_grows s.starts (journals_of s) s.cells s.draws t e s.play sound.is_play sound.comes (let m = many_journals in omega arith) enabled made)

      -- what it shows it has made, it shows no less than before, and what the event joins is shown
      pub event_keeps : q.shown ≤ length q.journal → (follower_of s t).shown ≤ q.shown → ((from upto : ℕ) → Marked (Join from upto) ≡ e → upto ≤ (follower_of s from).shown)
          → q.whom ≡ (follower_of s t).whom → q.found ≡ (follower_of s t).found → q.seen ≡ (follower_of s t).seen
          → IsSoundCourse (record { starts = s.starts; play = s.play ++ t ∷ []; followers = set s.followers t q; draws = draws_after (operation_of e) s.draws; cells = heap_after (operation_of e) s.cells })
      event_keeps shown shows joins whom found seen =
          let its = sound.each t within in
          let more = draws_grow (operation_of e) s.draws in
          let up = shown_more q (s.play ++ t ∷ []) (draws_after (operation_of e) s.draws) (heap_after (operation_of e) s.cells) shows more in
          keeps_sound q (s.play ++ t ∷ []) (draws_after (operation_of e) s.draws) (heap_after (operation_of e) s.cells) shows more (same_length (operation_of e) s.cells ∙ sound.wide) grown.0 grown.1
          (record {
            shown = shown;
            look = let a = its.look in let b = ap (λ (n : ℕ). (follower_of s n).shown) whom in let c = up q.whom in omega arith;
            seen = let a = its.seen in omega arith;
            joins = λ k from upto is.
                elim (get_appended (follower_of s t).journal e k (Marked (Join from upto)) (ap (λ (j : List Event). slice_get j k) (sym is_journal) ∙ is)) [
                  | inl old ↦ (let a = its.joins k from upto old in let b = up from in omega arith)
                  | inr last ↦ (let a = joins from upto last in let b = up from in omega arith)
                ];
          })
