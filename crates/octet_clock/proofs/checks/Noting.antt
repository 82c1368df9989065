-- What is kept of accesses stays true as an event is taken in.
use Rattle.std.proofs.Common.{◌≡◌, ◌≢◌, ℕ, suc, ◌≤◌, inl, inr, Bool, true, false, List, Some, refl, sym, ap, ◌∙◌, subst, arith}
use Rattle.std.proofs.lemmas.Bool.{cases_eq}
use Rattle.octet_model.specs.declared.event.Mark.{Mark}
use Rattle.octet_model.specs.declared.event.Event.{Event}
use Rattle.octet_model.specs.declared.event.Event.TheVariants.{Marked}
use Rattle.octet_model.specs.Machine.{Journals}
use Rattle.octet_model.specs.HappensBefore.{object_of, is_write}
use Rattle.octet_clock.specs.declared.accesses.Accesses.{Accesses}
use Rattle.octet_clock.specs.declared.accesses.ObjectAccesses.{ObjectAccesses}
use Rattle.octet_clock.specs.declared.clock.Clock.{Clock}
use Rattle.octet_clock.specs.declared.sources.Prefix.{Prefix}
use Rattle.octet_clock.specs.Accesses.{AreNoted, IsNoted, KeepsAccesses}
use Rattle.octet_clock.specs.Clock.{count_in, IsRaised}
use Rattle.octet_clock.specs.LastAccesses.{conflicts_with, conflicts_within, kept_of, read_in, written_in, is_read_of, is_write_of, IsLastOf, KeepsLast, LieWithin}
use Rattle.octet_clock.specs.Play.{made_by}
use Rattle.octet_clock.specs.Sources.{IsNextStep}
use Rattle.octet_clock.proofs.checks.Taking.{last_all_stay, last_noted, no_less, of_read, of_write}
use Rattle.octet_clock.proofs.plays.Walk.{made_one}
use Rattle.octet_clock.proofs.checks.Within.{lie_after_write, lie_in_own, lie_still, other_object, read_with_read}

some_same : (a b : Prefix) → Some a ≡ Some b → a ≡ b
some_same a b e = cc

module _ (js : Journals) (play : List ℕ) (i t : ℕ) (e : Event) (next : IsNextStep js play i t e) where
  abbrev k : ℕ
  k = made_by play i t

  pub accesses_on_mark : (mark : Mark) (accesses : Accesses) → e ≡ Marked mark → KeepsAccesses js play i accesses → KeepsAccesses js play (suc i) accesses
  accesses_on_mark mark accesses is keeps = record {
    reads = last_all_stay js play i t e next is_read_of (read_in accesses.objects.items) (λ o. ap (is_read_of o) is) keeps.reads;
    writes = last_all_stay js play i t e next is_write_of (written_in accesses.objects.items) (λ o. ap (is_write_of o) is) keeps.writes;
    made = λ o w first at. omega (arith, keeps.made o w first at, no_less js play i t e next first.thread);
    within = λ o w first at. lie_still js play i t e next o w first.thread first.count (ap (conflicts_with o w) is) (keeps.within o w first at);
  }

  module _ (object n : ℕ) (follows : Bool) (before after : Accesses) (is : n ≡ suc k) (of : object_of e ≡ Some object) (keeps : KeepsAccesses js play i before)
      (others : (other : ℕ) → other ≢ object → kept_of after.objects.items other ≡ kept_of before.objects.items other) where
    abbrev was : ℕ → ObjectAccesses
    was o = kept_of before.objects.items o

    abbrev now : ℕ → ObjectAccesses
    now o = kept_of after.objects.items o

    -- what stays of the object stays of all
    stays : (f : ObjectAccesses → ℕ) → f (now object) ≡ f (was object) → (o : ℕ) → f (now o) ≡ f (was o)
    stays f own o = elim (cases_eq o object) [
      | inl same ↦ subst (λ (x : ℕ). f (now x) ≡ f (was x)) (sym same) own
      | inr differ ↦ ap f (others o differ)
    ]

    -- the last events that pass a test, where what is kept of them stays, and where it is raised
    as_kept : (test : ℕ → Event → Bool) (f : ObjectAccesses → Clock) → ((o : ℕ) → test o e ≡ false) → f (now object) ≡ f (was object)
        → KeepsLast js play i test (λ o u. count_in (f (was o)) u) → KeepsLast js play (suc i) test (λ o u. count_in (f (now o)) u)
    as_kept test f fails same kept = λ o u.
        subst (λ (m : ℕ). IsLastOf js (test o) u (made_by play (suc i) u) m) (sym (stays (λ (x : ObjectAccesses). count_in (f x) u) (ap (λ (c : Clock). count_in c u) same) o))
        (last_all_stay js play i t e next test (λ other v. count_in (f (was other)) v) fails kept o u)

    as_raised : (test : ℕ → Event → Bool) (f : ObjectAccesses → Clock) → test object e ≡ true → ((o : ℕ) → (o ≡ object → ⊥) → test o e ≡ false) → IsRaised (f (was object)) t n (f (now object))
        → KeepsLast js play i test (λ o u. count_in (f (was o)) u) → KeepsLast js play (suc i) test (λ o u. count_in (f (now o)) u)
    as_raised test f passes fails raised kept =
        last_noted js play i t e next test object n (λ o u. count_in (f (was o)) u) (λ o u. count_in (f (now o)) u) is passes fails raised.own
        (λ o u differ. elim differ [
          | inl other ↦ ap (λ (x : ObjectAccesses). count_in (f x) u) (others o other)
          | inr other ↦ stays (λ (x : ObjectAccesses). count_in (f x) u) (raised.others u other) o
        ])
        kept

    reads_on : (writing : Bool) → is_write e ≡ writing → IsNoted (was object) writing t n follows (now object) → KeepsLast js play (suc i) is_read_of (read_in after.objects.items)
    reads_on true does noted = as_kept is_read_of (λ x. x.reads) (of_write e object of does).2 noted.reads keeps.reads
    reads_on false does noted = let r = of_read e object of does in as_raised is_read_of (λ x. x.reads) r.0 r.1 noted.reads keeps.reads

    writes_on : (writing : Bool) → is_write e ≡ writing → IsNoted (was object) writing t n follows (now object) → KeepsLast js play (suc i) is_write_of (written_in after.objects.items)
    writes_on false does noted = as_kept is_write_of (λ x. x.writes) (of_read e object of does).2 noted.writes keeps.writes
    writes_on true does noted = let w = of_write e object of does in as_raised is_write_of (λ x. x.writes) w.0 w.1 noted.writes keeps.writes

    -- first events of a thread that have been made, and in whose past the accesses lie
    record Holds (o : ℕ) (w : Bool) (first : Prefix) : Type 0 where
      made : first.count ≤ made_by play (suc i) first.thread
      within : LieWithin js play (suc i) o w first.thread first.count

    as_before : (o : ℕ) (w : Bool) (first : Prefix) → conflicts_with o w e ≡ false → conflicts_within (was o) w ≡ Some first → Holds o w first
    as_before o w first fails at = record {
      made = omega (arith, keeps.made o w first at, no_less js play i t e next first.thread);
      within = lie_still js play i t e next o w first.thread first.count fails (keeps.within o w first at);
    }

    own : (w : Bool) (first : Prefix) → record { thread = t; count = n } ≡ first → LieWithin js play (suc i) object w t (suc k) → Holds object w first
    own w first same h = subst (λ (p : Prefix). Holds object w p) same (record {
      made = omega (arith, is, no_less js play i t e next t, made_here);
      within = subst (λ (m : ℕ). LieWithin js play (suc i) object w t m) (sym is) h;
    })
      where
        made_here : made_by play (suc i) t ≡ suc k
        made_here = made_one play i t next.step.within next.step.is_of

    holds_own : (writing w f : Bool) (first : Prefix) → f ≡ follows → is_write e ≡ writing → IsNoted (was object) writing t n f (now object) → (f ≡ true → LieWithin js play i object true t k)
        → conflicts_within (now object) w ≡ Some first → Holds object w first
    holds_own true true f first same does noted known at = own true first (some_same (record { thread = t; count = n }) first (sym noted.last_access ∙ at)) (lie_after_write js play i t e next object of does true)
    holds_own true false f first same does noted known at = own false first (sym noted.last_write ∙ some_same (now object).last_write first at) (lie_after_write js play i t e next object of does false)
    holds_own false false f first same does noted known at = as_before object false first (read_with_read e object does) (ap Some (sym noted.last_write) ∙ at)
    holds_own false true true first same does noted known at = own true first (some_same (record { thread = t; count = n }) first (sym noted.last_access ∙ at)) (lie_in_own js play i t e next object true (known refl))
    holds_own false true false first same does noted known at = absurd (let nothing = sym noted.last_access ∙ at in cc)

    holds : (writing : Bool) → is_write e ≡ writing → IsNoted (was object) writing t n follows (now object) → (follows ≡ true → LieWithin js play i object true t k)
        → (o : ℕ) (w : Bool) (first : Prefix) → conflicts_within (now o) w ≡ Some first → Holds o w first
    holds writing does noted known o w first at = elim (cases_eq o object) [
      | inr differ ↦ as_before o w first (other_object e object o w of differ) (ap (λ (x : ObjectAccesses). conflicts_within x w) (sym (others o differ)) ∙ at)
      | inl same ↦ subst (λ (x : ℕ). Holds x w first) (sym same) (holds_own writing w follows first refl does noted known (ap (λ (x : ℕ). conflicts_within (now x) w) (sym same) ∙ at))
    ]

  pub accesses_on_access : (object n : ℕ) (writing follows : Bool) (before after : Accesses) → n ≡ suc k → object_of e ≡ Some object → is_write e ≡ writing
      → AreNoted before.objects.items object writing t n follows after.objects.items → (follows ≡ true → LieWithin js play i object true t k)
      → KeepsAccesses js play i before → KeepsAccesses js play (suc i) after
  accesses_on_access object n writing follows before after is of does noted known keeps =
      let all = holds object n follows before after is of keeps noted.others writing does noted.own known in
      record {
        reads = reads_on object n follows before after is of keeps noted.others writing does noted.own;
        writes = writes_on object n follows before after is of keeps noted.others writing does noted.own;
        made = λ o w first at. (all o w first at).made;
        within = λ o w first at. (all o w first at).within;
      }
