-- Threads that stay where their needs say, as lists and counts grow.
use Rattle.std.proofs.Common.{◌≡◌, ◌≢◌, ℕ, suc, ◌<◌, ◌≤◌, ◌⊎◌, inl, inr, Bool, true, false, List, length, Option, Some, None, get_or, slice_get, slice_set, eqb, nat_le, refl, sym, ap, ◌∙◌, subst, arith}
use Rattle.std.proofs.lemmas.Bool.{cases_eq, cases_lt, le-leb, lt-leb, ne_eqb}
use Rattle.std.proofs.lemmas.List.{get_or-set_same, get_or-set_other}
use Rattle.std.proofs.lemmas.Option.{same_Some, slice_get-get_or, slice_get_within}
use Rattle.octet_replay.specs.declared.need.Need.{Need}
use Rattle.octet_replay.specs.declared.need.Need.TheVariants.{Free, Events, DrawsAre, DrawsReach, Never}
use Rattle.octet_replay.specs.declared.thread_set.ThreadSet.{ThreadSet}
use Rattle.octet_replay.specs.declared.waiting.WaitingList.{WaitingList}
use Rattle.octet_replay.specs.declared.waits.Lists.{Lists}
use Rattle.octet_replay.specs.Needs.{NeedsAndCounts, is_met, is_ready}
use Rattle.octet_replay.specs.ThreadSet.{has}
use Rattle.octet_replay.proofs.lemmas.Reading.{get_same, get_other}
use Rattle.octet_replay.specs.WaitingLists.{counts_of, Awaits, IsListed, IsPlaced, Keeps}

-- a list that keeps all that wait on it
abbrev pub KeepsAll : WaitingList → WaitingList → Type 0
KeepsAll before after = (thread number : ℕ) → Awaits before thread number → Awaits after thread number

-- who is listed stays so, where the counts are the same and the lists keep all
pub still_listed : (before after : Lists) → after.events.items ≡ before.events.items → after.draws ≡ before.draws
    → ((of : ℕ) (list : WaitingList) → slice_get after.at_events.items of ≡ Some list → (was : WaitingList) × (slice_get before.at_events.items of ≡ Some was) × KeepsAll was list)
    → KeepsAll before.at_draws after.at_draws
    → (thread : ℕ) (its : Need) → IsListed before thread its → IsListed after thread its
still_listed before after events draws lists at_draws thread Free is = tt
still_listed before after events draws lists at_draws thread Never is = tt
still_listed before after events draws lists at_draws thread (Events of count) is =
    λ list at below.
    let was = lists of list at in
    was.2 thread count (is was.0 was.1 (omega (arith, ap (λ (xs : List ℕ). get_or xs of 0) events)))
still_listed before after events draws lists at_draws thread (DrawsAre count) is =
    (λ same. at_draws thread (suc count) (is.0 (sym draws ∙ same)), λ below. at_draws thread count (is.1 (omega arith)))
still_listed before after events draws lists at_draws thread (DrawsReach count) is = λ below. at_draws thread count (is (omega arith))

-- one list that is written keeps all
pub lists_kept : (lists : List WaitingList) (at : ℕ) (old new : WaitingList) → old ≡ get_or lists at old → at < length lists → KeepsAll old new
    → (of : ℕ) (list : WaitingList) → slice_get (slice_set lists at new) of ≡ Some list → (was : WaitingList) × (slice_get lists of ≡ Some was) × KeepsAll was list
lists_kept lists at old new is within keeps of list there =
    elim (cases_eq of at) [
      | inl same ↦
          let here = subst (λ (n : ℕ). slice_get (slice_set lists at new) n ≡ Some list) same there in
          let is_new : new ≡ list = get_same lists at new list here in
          let was_old : slice_get lists at ≡ Some old = slice_get-get_or lists at old within ∙ ap (λ (x : WaitingList). Some x) (sym is) in
          (old, subst (λ (n : ℕ). slice_get lists n ≡ Some old) (sym same) was_old, subst (λ (x : WaitingList). KeepsAll old x) is_new keeps)
      | inr differ ↦ (list, sym (get_other lists at of new differ) ∙ there, λ t n a. a)
    ]

-- whether a thread is ready, by its need
pub ready_is : (w : NeedsAndCounts) (thread : ℕ) (need : Need) → slice_get w.needs thread ≡ Some need → is_ready w thread ≡ is_met w.events w.draws need
ready_is w thread need at = go (slice_get w.needs thread) at
  where
    go : (o : Option Need) → o ≡ Some need → ◌≡◌ {A = Bool} (elim o [ None ↦ false | Some n ↦ is_met w.events w.draws n ]) (is_met w.events w.draws need)
    go None is = absurd cc
    go (Some n) is = ap (λ (m : Need). is_met w.events w.draws m) (same_Some n need is)

pub not_there : (w : NeedsAndCounts) (thread : ℕ) → slice_get w.needs thread ≡ None → is_ready w thread ≡ false
not_there w thread at = go (slice_get w.needs thread) at
  where
    go : (o : Option Need) → o ≡ None → ◌≡◌ {A = Bool} (elim o [ None ↦ false | Some n ↦ is_met w.events w.draws n ]) false
    go None is = refl
    go (Some n) is = absurd cc

-- one thread is put among those that may step, or taken out
pub record Marked (mid after : Lists) (thread : ℕ) (met : Bool) : Type 0 where
  pub ready : ThreadSet
  pub after_is : after ≡ record mid { ready = ready }
  pub own : has ready thread ≡ met
  pub others : (other : ℕ) → other ≢ thread → has ready other ≡ has mid.ready other

-- on a list, and among those that may step, or not: then it is placed, and the others are where they were
module _ (before mid after : Lists) (thread : ℕ) (need : Need) (met : Bool) (here : slice_get before.needs.items thread ≡ Some need) (kept : Keeps (counts_of before) before mid) (same : mid.ready ≡ before.ready)
    (is : met ≡ is_met before.events.items before.draws need) (listed : IsListed mid thread need) (lists : (other : ℕ) (its : Need) → IsListed before other its → IsListed mid other its)
    (marked : Marked mid after thread met) where
  counts_same : counts_of after ≡ counts_of before
  counts_same = ap counts_of marked.after_is ∙ kept.counts_are

  listed_after : (other : ℕ) (its : Need) → IsListed mid other its → IsListed after other its
  listed_after other its there =
      subst (λ (l : Lists). IsListed l other its) (sym marked.after_is)
      (still_listed mid (record mid { ready = marked.ready }) refl refl (λ of list at. (list, at, λ t n a. a)) (λ t n a. a) other its there)

  pub placed_here : IsPlaced after thread
  placed_here = record {
    ready =
        ap (λ (l : Lists). has l.ready thread) marked.after_is ∙ marked.own ∙ is
        ∙ sym (ready_is (counts_of before) thread need here) ∙ ap (λ (w : NeedsAndCounts). is_ready w thread) (sym counts_same);
    listed = λ its at.
        let there = sym here ∙ ap (λ (w : NeedsAndCounts). slice_get w.needs thread) (sym counts_same) ∙ at in
        subst (λ (n : Need). IsListed after thread n) (same_Some need its there) (listed_after thread need listed);
  }

  pub others_placed : (other : ℕ) → IsPlaced before other → IsPlaced after other
  others_placed other was =
      elim (cases_eq other thread) [
        | inl here_too ↦ subst (λ (n : ℕ). IsPlaced after n) (sym here_too) placed_here
        | inr differ ↦ record {
          ready =
              ap (λ (l : Lists). has l.ready other) marked.after_is ∙ marked.others other differ ∙ ap (λ (s : ThreadSet). has s other) same ∙ was.ready
              ∙ ap (λ (w : NeedsAndCounts). is_ready w other) (sym counts_same);
          listed = λ its at.
              listed_after other its (lists other its (was.listed its (ap (λ (w : NeedsAndCounts). slice_get w.needs other) (sym counts_same) ∙ at)));
        }
      ]

-- as a count grows, a thread is due, or stays where it is
pub placed_or_due : (before after : Lists) (due : ThreadSet) → after.needs.items ≡ before.needs.items → after.ready ≡ before.ready
    → ((thread : ℕ) (need : Need) → IsListed before thread need
    → (has due thread ≡ true) ⊎ ((is_met after.events.items after.draws need ≡ is_met before.events.items before.draws need) × IsListed after thread need))
    → (thread : ℕ) → IsPlaced before thread → ((has due thread ≡ true) × (thread < length after.needs.items)) ⊎ IsPlaced after thread
placed_or_due before after due needs ready by thread was = go (slice_get before.needs.items thread) refl
  where
    ready_same : has after.ready thread ≡ is_ready (counts_of before) thread
    ready_same = ap (λ (s : ThreadSet). has s thread) ready ∙ was.ready

    there : slice_get after.needs.items thread ≡ slice_get before.needs.items thread
    there = ap (λ (xs : List Need). slice_get xs thread) needs

    go : (o : Option Need) → slice_get before.needs.items thread ≡ o → ((has due thread ≡ true) × (thread < length after.needs.items)) ⊎ IsPlaced after thread
    go None at = inr (record {
      ready = ready_same ∙ not_there (counts_of before) thread at ∙ sym (not_there (counts_of after) thread (there ∙ at));
      listed = λ need is. absurd (let none = there ∙ at in cc);
    })
    go (Some need) at =
        elim (by thread need (was.listed need at)) [
          | inl is ↦ inl (is, slice_get_within after.needs.items thread need (there ∙ at))
          | inr stays ↦ inr (record {
            ready = ready_same ∙ ready_is (counts_of before) thread need at ∙ sym stays.0 ∙ sym (ready_is (counts_of after) thread need (there ∙ at));
            listed = λ its is. subst (λ (n : Need). IsListed after thread n) (same_Some need its (sym (there ∙ at) ∙ is)) stays.1;
          })
        ]

-- after one more draw
pub after_draw : (l : Lists) (list : WaitingList) (due : ThreadSet) (next : ℕ) → next ≡ suc l.draws
    → ((thread at : ℕ) → Awaits l.at_draws thread at → (has due thread ≡ true) ⊎ ((next < at) × Awaits list thread at))
    → (thread : ℕ) (need : Need) → IsListed l thread need
    → (has due thread ≡ true) ⊎ ((is_met l.events.items next need ≡ is_met l.events.items l.draws need) × IsListed (record l { draws = next; at_draws = list }) thread need)
after_draw l list due next is_next taken thread Free is = inr (refl, tt)
after_draw l list due next is_next taken thread Never is = inr (refl, tt)
after_draw l list due next is_next taken thread (Events of count) is = inr (refl, is)
after_draw l list due next is_next taken thread (DrawsAre count) is =
    elim (cases_eq l.draws count) [
      | inl same ↦ elim (taken thread (suc count) (is.0 same)) [ inl here ↦ inl here | inr later ↦ absurd (omega (arith, later.0)) ]
      | inr differ ↦ elim (cases_lt l.draws count) [
        | inl below ↦ elim (taken thread count (is.1 below)) [
          | inl here ↦ inl here
          | inr later ↦ inr (ne_eqb count next (λ e. omega (arith, later.0)) ∙ sym (ne_eqb count l.draws (λ e. omega arith)), (λ e. absurd (omega (arith, later.0)), λ b. later.1))
        ]
        | inr above ↦ inr (ne_eqb count next (λ e. omega arith) ∙ sym (ne_eqb count l.draws (λ e. omega arith)), (λ e. absurd (omega arith), λ b. absurd (omega arith)))
      ]
    ]
after_draw l list due next is_next taken thread (DrawsReach count) is =
    elim (cases_lt l.draws count) [
      | inl below ↦ elim (taken thread count (is below)) [
        | inl here ↦ inl here
        | inr later ↦ inr (lt-leb count next later.0 ∙ sym (lt-leb count l.draws below), λ b. later.1)
      ]
      | inr above ↦ inr (le-leb count next (omega arith) ∙ sym (le-leb count l.draws above), λ b. absurd (omega arith))
    ]

-- after more events of a thread
module _ (l after : Lists) (by count : ℕ) (old new : WaitingList) (due : ThreadSet)
    (events : after.events.items ≡ slice_set l.events.items by count) (no_fewer : get_or l.events.items by 0 ≤ count) (within : by < length l.events.items)
    (lists : after.at_events.items ≡ slice_set l.at_events.items by new) (was : slice_get l.at_events.items by ≡ Some old)
    (draws : after.draws ≡ l.draws) (at_draws : after.at_draws ≡ l.at_draws)
    (taken : (thread at : ℕ) → Awaits old thread at → (has due thread ≡ true) ⊎ ((count < at) × Awaits new thread at)) where
  count_here : get_or after.events.items by 0 ≡ count
  count_here = ap (λ (xs : List ℕ). get_or xs by 0) events ∙ get_or-set_same l.events.items by count 0 within

  pub after_event : (thread : ℕ) (need : Need) → IsListed l thread need
      → (has due thread ≡ true) ⊎ ((is_met after.events.items after.draws need ≡ is_met l.events.items l.draws need) × IsListed after thread need)
  after_event thread Free is = inr (refl, tt)
  after_event thread Never is = inr (refl, tt)
  after_event thread (DrawsAre number) is =
      inr (
        ap (λ (n : ℕ). eqb number n) draws,
        (
          λ same. subst (λ (x : WaitingList). Awaits x thread (suc number)) (sym at_draws) (is.0 (sym draws ∙ same)),
          λ below. subst (λ (x : WaitingList). Awaits x thread number) (sym at_draws) (is.1 (omega arith)),
        ),
      )
  after_event thread (DrawsReach number) is =
      inr (ap (λ (n : ℕ). nat_le number n) draws, λ below. subst (λ (x : WaitingList). Awaits x thread number) (sym at_draws) (is (omega arith)))
  after_event thread (Events of number) is =
      elim (cases_eq of by) [
        | inr differ ↦
            let same_count : get_or after.events.items of 0 ≡ get_or l.events.items of 0 = ap (λ (xs : List ℕ). get_or xs of 0) events ∙ get_or-set_other l.events.items by of count 0 differ in
            inr (
              ap (λ (n : ℕ). nat_le number n) same_count,
              λ list at below. is list (sym (get_other l.at_events.items by of new differ) ∙ ap (λ (xs : List WaitingList). slice_get xs of) (sym lists) ∙ at) (omega (arith, same_count)),
            )
        | inl same ↦
            let before_is : get_or l.events.items of 0 ≡ get_or l.events.items by 0 = ap (λ (n : ℕ). get_or l.events.items n 0) same in
            let after_is : get_or after.events.items of 0 ≡ count = ap (λ (n : ℕ). get_or after.events.items n 0) same ∙ count_here in
            elim (cases_lt (get_or l.events.items of 0) number) [
              | inl below ↦ elim (taken thread number (is old (ap (λ (n : ℕ). slice_get l.at_events.items n) same ∙ was) below)) [
                | inl here ↦ inl here
                | inr later ↦ inr (
                  lt-leb number (get_or after.events.items of 0) (omega (arith, later.0, after_is)) ∙ sym (lt-leb number (get_or l.events.items of 0) below),
                  λ list at b.
                      let at_by = ap (λ (xs : List WaitingList). slice_get xs by) (sym lists) ∙ ap (λ (n : ℕ). slice_get after.at_events.items n) (sym same) ∙ at in
                      subst (λ (x : WaitingList). Awaits x thread number) (get_same l.at_events.items by new list at_by) later.1,
                )
              ]
              | inr above ↦ inr (le-leb number (get_or after.events.items of 0) (omega (arith, after_is, before_is)) ∙ sym (le-leb number (get_or l.events.items of 0) above), λ list at b. absurd (omega (arith, after_is, before_is)))
            ]
      ]

-- a new need of one thread leaves the others where they are
pub need_placed : (before after : Lists) (thread : ℕ) (next : Need) → after.needs.items ≡ slice_set before.needs.items thread next → after.ready ≡ before.ready
    → ((other : ℕ) (need : Need) → IsListed before other need → IsListed after other need) → after.events.items ≡ before.events.items → after.draws ≡ before.draws
    → (other : ℕ) → other ≢ thread → IsPlaced before other → IsPlaced after other
need_placed before after thread next needs ready lists events draws other differ was = record {
  ready =
      ap (λ (s : ThreadSet). has s other) ready ∙ was.ready ∙ sym same;
  listed = λ need at. lists other need (was.listed need (sym there ∙ at));
}
  where
    there : slice_get after.needs.items other ≡ slice_get before.needs.items other
    there = ap (λ (xs : List Need). slice_get xs other) needs ∙ get_other before.needs.items thread other next differ

    same : is_ready (counts_of after) other ≡ is_ready (counts_of before) other
    same = go (slice_get before.needs.items other) refl
      where
        go : (o : Option Need) → slice_get before.needs.items other ≡ o → is_ready (counts_of after) other ≡ is_ready (counts_of before) other
        go None at = not_there (counts_of after) other (there ∙ at) ∙ sym (not_there (counts_of before) other at)
        go (Some need) at =
            ready_is (counts_of after) other need (there ∙ at)
            ∙ ap (λ (xs : List ℕ). is_met xs after.draws need) events ∙ ap (λ (n : ℕ). is_met before.events.items n need) draws
            ∙ sym (ready_is (counts_of before) other need at)
