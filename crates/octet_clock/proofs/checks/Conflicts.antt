-- The earlier accesses in conflict with an access.
use Rattle.std.proofs.Common.{◌≡◌, ℕ, suc, ◌<◌, ◌≤◌, inl, inr, max, Bool, true, false, ◌||◌, List, [], length, get_or, Some, IsTrue, refl, sym, ap, ◌∙◌, subst, arith}
use Rattle.std.proofs.lemmas.Bool.{cases_lt, eq-eqb, eqb-true}
use Rattle.std.proofs.lemmas.List.{get_or_past}
use Rattle.std.proofs.lemmas.Option.{slice_get_within}
use Rattle.octet_model.specs.declared.event.Mark.{Mark}
use Rattle.octet_model.specs.declared.event.Event.{Event}
use Rattle.octet_model.specs.declared.event.Event.TheVariants.{Read, Write, Update, Marked}
use Rattle.octet_model.specs.declared.event.Place.{Place}
use Rattle.octet_model.specs.Machine.{Journals}
use Rattle.octet_model.specs.HappensBefore.{event_at, IsEvent, HappensBefore, object_of, is_write, Conflict}
use Rattle.octet_model.specs.Past.{InPast}
use Rattle.octet_model.proofs.lemmas.Pasts.{place, past_happens_before}
use Rattle.octet_clock.specs.declared.clock.Clock.{Clock}
use Rattle.octet_clock.specs.Clock.{count_in}
use Rattle.octet_clock.specs.Accesses.{IsAccessStep}
use Rattle.octet_clock.specs.LastAccesses.{is_read_of, is_write_of, conflicts_with, IsLastOf}
use Rattle.octet_clock.specs.Play.{made_by, step_place}
use Rattle.octet_clock.specs.Verdict.{IsEarlierConflict, IsUnorderedConflict}
use Rattle.octet_clock.proofs.pasts.Edges.{unmarked_adds}

-- in conflict with a write are the reads and the writes, and with a read the writes
conflicts_with_read : (object : ℕ) (e : Event) → conflicts_with object false e ≡ is_write_of object e
conflicts_with_read object (Read other value) = refl
conflicts_with_read object (Write other value) = refl
conflicts_with_read object (Update other before after) = refl
conflicts_with_read object (Marked mark) = refl

no_conflict : (object : ℕ) (e : Event) → is_read_of object e ≡ false → is_write_of object e ≡ false → conflicts_with object true e ≡ false
no_conflict object (Read other value) r w = r
no_conflict object (Write other value) r w = w
no_conflict object (Update other before after) r w = w
no_conflict object (Marked mark) r w = refl

read_conflicts : (object : ℕ) (e : Event) → is_read_of object e ≡ true → conflicts_with object true e ≡ true
read_conflicts object (Read other value) r = r
read_conflicts object (Write other value) r = absurd cc
read_conflicts object (Update other before after) r = absurd cc
read_conflicts object (Marked mark) r = absurd cc

write_conflicts : (object : ℕ) (e : Event) → is_write_of object e ≡ true → conflicts_with object true e ≡ true
write_conflicts object (Read other value) w = absurd cc
write_conflicts object (Write other value) w = w
write_conflicts object (Update other before after) w = w
write_conflicts object (Marked mark) w = absurd cc

module _ (js : Journals) (object t now : ℕ) where
  pub last_write_conflicts : (n : ℕ) → IsLastOf js (is_write_of object) t now n → IsLastOf js (conflicts_with object false) t now n
  last_write_conflicts n last =
      record {
        within = last.within;
        none_later = λ event e le lt is. conflicts_with_read object e ∙ last.none_later event e le lt is;
        passes = λ event is. let there = last.passes event is in (there.0, there.1, conflicts_with_read object there.0 ∙ there.2);
      }

  pub later_conflicts : (n m : ℕ) → IsLastOf js (is_write_of object) t now n → IsLastOf js (is_read_of object) t now m → IsLastOf js (conflicts_with object true) t now (max n m)
  later_conflicts n m writes reads =
      record {
        within = omega (arith, writes.within, reads.within);
        none_later = λ event e le lt is. no_conflict object e (reads.none_later event e (omega arith) lt is) (writes.none_later event e (omega arith) lt is);
        passes = λ event is. elim (cases_lt n m) [
          | inl below ↦ let there = reads.passes event (omega arith) in (there.0, there.1, read_conflicts object there.0 there.2)
          | inr above ↦ let there = writes.passes event (omega arith) in (there.0, there.1, write_conflicts object there.0 there.2)
        ];
      }

-- a conflicting event of another thread conflicts with the access
pub from_conflict : (e x : Event) (object o : ℕ) (writing : Bool) → object_of e ≡ Some object → is_write e ≡ writing → object_of x ≡ Some o → object_of e ≡ Some o → IsTrue (is_write x || is_write e) → conflicts_with object writing x ≡ true
from_conflict e (Read other value) object o true of does of_x of_e one = let same : other ≡ object = cc in eq-eqb other object same
from_conflict e (Read other value) object o false of does of_x of_e one = absurd cc
from_conflict e (Write other value) object o writing of does of_x of_e one = let same : other ≡ object = cc in eq-eqb other object same
from_conflict e (Update other before after) object o writing of does of_x of_e one = let same : other ≡ object = cc in eq-eqb other object same
from_conflict e (Marked mark) object o writing of does of_x of_e one = absurd cc

pub same_object : (x : Event) (object : ℕ) (writing : Bool) → conflicts_with object writing x ≡ true → object_of x ≡ Some object
same_object (Read other value) object true is = ap Some (eqb-true other object is)
same_object (Read other value) object false is = absurd cc
same_object (Write other value) object writing is = ap Some (eqb-true other object is)
same_object (Update other before after) object writing is = ap Some (eqb-true other object is)
same_object (Marked mark) object writing is = absurd cc

pub one_writes_of : (x : Event) (object : ℕ) (writing : Bool) → conflicts_with object writing x ≡ true → IsTrue (is_write x || writing)
one_writes_of (Read other value) object true is = refl
one_writes_of (Read other value) object false is = absurd cc
one_writes_of (Write other value) object writing is = refl
one_writes_of (Update other before after) object writing is = refl
one_writes_of (Marked mark) object writing is = absurd cc

module _ (js : Journals) (play : List ℕ) (i t object : ℕ) (writing : Bool) (known : Clock) (at : IsAccessStep js play i t object writing known) where
  abbrev k : ℕ
  k = made_by play i t

  here : step_place play i ≡ place t k
  here = λ j. record { thread = at.next.step.is_of j; event = made_by play i (at.next.step.is_of j) }

  -- the access is no mark, so what happens before it lies in the past before it
  not_marked : (mark : Mark) → event_at js (place t k) ≡ Some (Marked mark) → ⊥
  not_marked mark is =
      let makes = at.next.step.makes in
      let of = at.is_of in
      let same : at.event ≡ Marked mark = cc in
      let none = ap object_of same in
      absurd (cc (none, of))

  in_past : (a : Place) → IsEvent js a → (a.thread ≡ t → ⊥) → HappensBefore js a (step_place play i) → InPast js t k a
  in_past a is other path =
      let path' = subst (λ (p : Place). HappensBefore js a p) here path in
      elim (unmarked_adds js t k a not_marked (record { is_event = is; near = k; below = omega arith; reaches = inr path' })) [
        | inl was ↦ was
        | inr itself ↦ absurd (other (ap (λ (p : Place). p.thread) itself))
      ]

  module _ (u n : ℕ) (last : IsLastOf js (conflicts_with object writing) u (made_by play i u) n) where
    -- an earlier conflicting access is not after the last one
    below_last : (a : Place) → a.thread ≡ u → IsEarlierConflict js play i a → a.event < n
    below_last a same c =
        elim (cases_lt a.event n) [
          | inl lt ↦ lt
          | inr later ↦
              let conflict = subst (λ (p : Place). Conflict js a p) here c.conflict in
              let second : conflict.second ≡ at.event = some_same conflict.second at.event (sym conflict.is_second ∙ at.next.step.makes) in
              let passes = from_conflict at.event conflict.first object conflict.object writing at.is_of at.does conflict.of_one (ap object_of (sym second) ∙ conflict.of_same) (subst (λ (e : Event). IsTrue (is_write conflict.first || is_write e)) second conflict.one_writes) in
              let there : event_at js (place u a.event) ≡ Some conflict.first = subst (λ (v : ℕ). event_at js (place v a.event) ≡ Some conflict.first) same conflict.is_first in
              let made : a.event < made_by play i u = subst (λ (v : ℕ). a.event < made_by play i v) same c.earlier in
              absurd (let fails = last.none_later a.event conflict.first later made there in cc)
        ]
      where
        some_same : (x y : Event) → Some x ≡ Some y → x ≡ y
        some_same x y e = cc

    -- where the clock knows the last one, each happens before the access
    pub all_known : n ≤ count_in known u → (a : Place) → a.thread ≡ u → IsEarlierConflict js play i a → HappensBefore js a (step_place play i)
    all_known le a same c =
        let lt = below_last a same c in
        let in_clock : a.event < count_in known a.thread = subst (λ (v : ℕ). a.event < count_in known v) (sym same) (let h : a.event < count_in known u = omega arith in h) in
        subst (λ (p : Place). HappensBefore js a p) (sym here) (past_happens_before js t k k a ((at.past a).1 in_clock) (omega arith) (at.event, at.next.step.makes))

    -- where it does not, the last one does not happen before the access
    pub last_is_unordered : (u ≡ t → ⊥) → count_in known u < n → (event : ℕ) → suc event ≡ n
        → ((a : Place) → a.thread < u → IsEarlierConflict js play i a → HappensBefore js a (step_place play i)) → IsUnorderedConflict js play i (place u event)
    last_is_unordered other lt event is lower =
        let there = last.passes event (sym is) in
        record {
          is_earlier = record {
            earlier = omega (arith, last.within);
            conflict = subst (λ (p : Place). Conflict js (place u event) p) (sym here) (record {
              first = there.0;
              second = at.event;
              object = object;
              is_first = there.1;
              is_second = at.next.step.makes;
              by_others = other;
              of_one = same_object there.0 object writing there.2;
              of_same = at.is_of;
              one_writes = subst (λ (w : Bool). IsTrue (is_write there.0 || w)) (sym at.does) (one_writes_of there.0 object writing there.2);
            });
          };
          apart = λ path. (let past = (at.past (place u event)).0 (in_past (place u event) (there.0, there.1) other path) in omega arith);
          none_lower = lower;
          none_later = λ later same above c. (let h = below_last later same c in omega arith);
        }

  -- no earlier conflicting access is by the thread itself
  pub not_own : (a : Place) → a.thread ≡ t → IsEarlierConflict js play i a → ⊥
  not_own a same c = c.conflict.by_others (same ∙ sym at.next.step.is_of)

  -- each event is by one of the threads
  pub by_a_thread : (a : Place) → IsEarlierConflict js play i a → a.thread < length js
  by_a_thread a c = elim (cases_lt a.thread (length js)) [
    | inl lt ↦ lt
    | inr past ↦ absurd (omega (arith, slice_get_within (get_or js a.thread []) a.event c.conflict.first c.conflict.is_first, ap (λ (j : List Event). length j) (get_or_past js a.thread [] past)))
  ]
