-- Where some play makes every event of journals, the lowest play does so too, whatever its reads give.
use Rattle.std.proofs.Common.{◌≡◌, ℕ, zero, suc, ◌≤◌, false, ◌&&◌, nat_lt, List, [], ◌∷◌, length, Option, Some, None, IsTrue, slice_get, refl, sym, ap, ◌∙◌, subst, arith}
use Rattle.std.proofs.Math.Seq.{take-length}
use Rattle.std.proofs.lemmas.Option.{slice_get_past}
use Rattle.std.proofs.lemmas.List.{length-map}
use Rattle.octet_model.specs.declared.event.Event.{Event}
use Rattle.octet_model.specs.Machine.{Journals, journal_of, PlainState, starting_state, Operation, Next, Wants, Finished, NothingFits, Behavior, event_made, next_of, may_proceed, may_step, step, after, IsFront, AllFinished}
use Rattle.octet_model.specs.HappensBefore.{is_write}
use Rattle.octet_model.specs.Orders.{first_from, lowest, go_on, lowest_front}
use Rattle.octet_model.specs.Plays.{next_in, by_journals, lowest_play}
use Rattle.octet_model.proofs.lemmas.Steps.{count, makes_from, what_it_makes}
use Rattle.octet_model.proofs.lemmas.Fronts.{down_closed_at_start}
use Rattle.octet_model.proofs.lemmas.LogsOfJournals.{as_many_after}
use Rattle.octet_model.proofs.lemmas.LowestThread.{first_same, lowest_may}
use Rattle.octet_model.proofs.lemmas.Plays.{total, total_cons, total_after, total_none, lowest_ends}
use Rattle.octet_clock.specs.Play.{IsWholePlay}
use Rattle.octet_clock.proofs.lemmas.AlikeStates.{Alike, enabled_alike, step_alike}
use Rattle.octet_clock.proofs.lemmas.Readers.{reading, reading_enabled, reading_draws, reading_writes_not, NeverWrites, reads_are_ordered}
use Rattle.octet_clock.proofs.plays.Walk.{counts_are}

-- the read of one object in place of each access
abbrev reading_next : Next → Next
reading_next (Wants operation) = Wants (reading operation)
reading_next Finished = Finished
reading_next NothingFits = NothingFits

total_same : (one other : Journals) → length one ≡ length other → ((t : ℕ) → length (journal_of one t) ≡ length (journal_of other t)) → total one ≡ total other
total_same [] [] many same = refl
total_same [] (k ∷ other) many same = absurd (omega arith)
total_same (j ∷ one) [] many same = absurd (omega arith)
total_same (j ∷ one) (k ∷ other) many same =
    let first : length j ≡ length k = same 0 in
    omega (arith, total_cons j one, total_cons k other, first, total_same one other (omega arith) (λ t. same (suc t)))

module _ (js : Journals) where
  abbrev V : Behavior
  V = by_journals js

  -- the same journals, with reads alone
  abbrev V' : Behavior
  V' thread made = reading_next (by_journals js thread made)

  never : NeverWrites V'
  never t j o is heap = go (by_journals js t j) is
    where
      go : (n : Next) → reading_next n ≡ Wants o → is_write (event_made o heap) ≡ false
      go (Wants w) is' = let same : reading w ≡ o = cc in ap (λ (x : Operation). is_write (event_made x heap)) (sym same) ∙ reading_writes_not w heap
      go Finished is' = absurd cc
      go NothingFits is' = absurd cc

  module _ (s s' : PlainState) (alike : Alike s s') (t : ℕ) where
    proceeds : (n : Next) → may_proceed s n ≡ may_proceed s' (reading_next n)
    proceeds (Wants o) = enabled_alike s s' o alike ∙ sym (reading_enabled s' o)
    proceeds Finished = refl
    proceeds NothingFits = refl

    next_same : reading_next (next_of V s t) ≡ next_of V' s' t
    next_same = ap (λ (n : ℕ). reading_next (next_in (slice_get (journal_of js t) n))) (alike.counts t)

    may_same : may_step V s t ≡ may_step V' s' t
    may_same =
        let proceed : may_proceed s (next_of V s t) ≡ may_proceed s' (next_of V' s' t) = proceeds (next_of V s t) ∙ ap (may_proceed s') next_same in
        λ i. nat_lt t (alike.as_many i) && proceed i

    after_both : IsTrue (may_step V s t) → Alike (step V s t) (step V' s' t)
    after_both may =
        let m = what_it_makes V s t may in
        let m' =
        makes_from V' s' t (reading m.0) (omega (arith, m.1.within, alike.as_many)) (sym next_same ∙ ap reading_next m.1.wanted)
        (reading_enabled s' m.0 ∙ sym (enabled_alike s s' m.0 alike) ∙ m.1.enabled) in
        step_alike V V' s s' t m.0 (reading m.0) m.1 m' (reading_draws m.0) alike

  -- they have the same fronts
  on : (order : List ℕ) (s s' : PlainState) → Alike s s' → IsFront V s order → IsFront V' s' order × Alike (after V s order) (after V' s' order)
  on [] s s' alike front = (tt, alike)
  on (t ∷ order) s s' alike front =
      let rest = on order (step V s t) (step V' s' t) (after_both s s' alike t front.0) front.1 in
      ((sym (may_same s s' alike t) ∙ front.0, rest.0), rest.1)

  back : (order : List ℕ) (s s' : PlainState) → Alike s s' → IsFront V' s' order → IsFront V s order × Alike (after V s order) (after V' s' order)
  back [] s s' alike front = (tt, alike)
  back (t ∷ order) s s' alike front =
      let may : IsTrue (may_step V s t) = may_same s s' alike t ∙ front.0 in
      let rest = back order (step V s t) (step V' s' t) (after_both s s' alike t may) front.1 in
      ((may, rest.0), rest.1)

  -- and the same lowest one
  lowest_same : (steps : ℕ) (s s' : PlainState) → Alike s s' → lowest_front V steps s ≡ lowest_front V' steps s'
  lowest_same zero s s' alike = refl
  lowest_same (suc steps) s s' alike =
      at (lowest V s) refl (λ t may. lowest_same steps (step V s t) (step V' s' t) (after_both s s' alike t may))
      ∙ ap (λ (o : Option ℕ). go_on o (λ t. lowest_front V' steps (step V' s' t))) same
    where
      same : lowest V s ≡ lowest V' s'
      same =
          first_same (may_step V s) (may_step V' s') (length s.journals) 0 (λ t. may_same s s' alike t)
          ∙ ap (λ (n : ℕ). first_from (may_step V' s') 0 n) alike.as_many

      at : (o : Option ℕ) → lowest V s ≡ o → ((t : ℕ) → IsTrue (may_step V s t) → lowest_front V steps (step V s t) ≡ lowest_front V' steps (step V' s' t))
          → go_on (lowest V s) (λ t. lowest_front V steps (step V s t)) ≡ go_on (lowest V s) (λ t. lowest_front V' steps (step V' s' t))
      at None is rest = rw is refl
      at (Some t) is rest = rw is (ap (λ (l : List ℕ). t ∷ l) (rest t (lowest_may V s t is)))

  abbrev start : PlainState
  start = starting_state [] js

  starts_alike : Alike start start
  starts_alike = record { as_many = refl; counts = λ t. refl; draws = refl }

  module _ (play : List ℕ) (whole : IsWholePlay js play) where
    played : IsFront V' start play × Alike (after V start play) (after V' start play)
    played = on play start start starts_alike whole.is_play

    makes_all : (t : ℕ) → count (after V start play).journals t ≡ length (journal_of js t)
    makes_all t =
        ap (λ (l : List ℕ). count (after V start l).journals t) (sym (take-length play))
        ∙ counts_are js play whole.is_play (length play) t (omega arith) ∙ whole.makes t

    made_alike : (t : ℕ) → count (after V' start play).journals t ≡ length (journal_of js t)
    made_alike t = sym (played.1.counts t) ∙ makes_all t

    finished : AllFinished V' (after V' start play)
    finished t lt =
        ap (λ (n : ℕ). reading_next (next_in (slice_get (journal_of js t) n))) (made_alike t)
        ∙ ap (λ (o : Option Event). reading_next (next_in o)) (slice_get_past (journal_of js t) (length (journal_of js t)) (omega arith))

    enough : length play ≤ total js
    enough =
        let many : length (after V' start play).journals ≡ length js = as_many_after V' play start ∙ length-map js (λ (j : List Event). []) in
        omega (arith, total_after V' play start played.0, total_none js, total_same (after V' start play).journals js many made_alike)

    abbrev low : List ℕ
    low = lowest_play [] js

    comes : IsFront V' start (lowest_front V' (total js) start) × (after V' start (lowest_front V' (total js) start) ≡ after V' start play)
    comes =
        lowest_ends V' (total js) play start (down_closed_at_start (after V' start play).journals js)
        (reads_are_ordered V' never [] js play played.0) played.0 finished enough

    same_low : lowest_front V' (total js) start ≡ low
    same_low = sym (lowest_same (total js) start start starts_alike)

    of_low : IsFront V start low × Alike (after V start low) (after V' start low)
    of_low = back low start start starts_alike (subst (λ (l : List ℕ). IsFront V' start l) same_low comes.0)

    pub lowest_is_whole : IsWholePlay js (lowest_play [] js)
    lowest_is_whole = record {
      is_play = of_low.0;
      makes = λ t.
          sym (counts_are js low of_low.0 (length low) t (omega arith))
          ∙ ap (λ (l : List ℕ). count (after V start l).journals t) (take-length low)
          ∙ of_low.1.counts t
          ∙ ap (λ (l : List ℕ). count (after V' start l).journals t) (sym same_low)
          ∙ ap (λ (x : PlainState). count x.journals t) comes.1
          ∙ made_alike t;
    }
