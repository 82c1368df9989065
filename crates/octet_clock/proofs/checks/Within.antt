-- In whose past the accesses in conflict with an access lie.
use Rattle.std.proofs.Common.{◌≡◌, ◌≢◌, ℕ, suc, ◌<◌, ◌⊎◌, inl, inr, Bool, true, false, ◌||◌, List, Some, IsTrue, refl, sym, ap, ◌∙◌, subst, arith}
use Rattle.std.proofs.lemmas.Bool.{cases_eq, ne_eqb}
use Rattle.octet_model.specs.declared.event.Event.{Event}
use Rattle.octet_model.specs.declared.event.Event.TheVariants.{Read, Write, Update, Marked}
use Rattle.octet_model.specs.declared.event.Place.{Place}
use Rattle.octet_model.specs.Machine.{Journals}
use Rattle.octet_model.specs.HappensBefore.{event_at, HappensBefore, object_of, is_write, Conflict}
use Rattle.octet_model.specs.Past.{InPast}
use Rattle.octet_model.proofs.lemmas.Pasts.{place, past_grows, past_happens_before, past_has_own, past_is_closed}
use Rattle.octet_clock.specs.declared.sources.Prefix.{Prefix}
use Rattle.octet_clock.specs.declared.verdict.Verdict.{Verdict}
use Rattle.octet_clock.specs.declared.verdict.Verdict.TheVariants.{Ordered, Unordered}
use Rattle.octet_clock.specs.LastAccesses.{conflicts_with, LieWithin}
use Rattle.octet_clock.specs.Past.{HasPast}
use Rattle.octet_clock.specs.Play.{made_by, step_place, IsMadeBefore}
use Rattle.octet_clock.specs.Sources.{IsNextStep}
use Rattle.octet_clock.specs.Verdict.{FollowsConflicts, JudgedUpTo}
use Rattle.octet_clock.proofs.checks.Conflicts.{from_conflict, same_object, one_writes_of}
use Rattle.octet_clock.proofs.pasts.Known.{own_event}
use Rattle.octet_clock.proofs.pasts.Taken.{step_within}
use Rattle.octet_clock.proofs.checks.Taking.{judged_more}
use Rattle.octet_clock.proofs.plays.Walk.{made_one, made_other}

-- a write conflicts with all that conflicts with a read
conflicts_more : (object : ℕ) (writing : Bool) (x : Event) → conflicts_with object writing x ≡ true → conflicts_with object true x ≡ true
conflicts_more object true x is = is
conflicts_more object false (Read other value) is = absurd cc
conflicts_more object false (Write other value) is = is
conflicts_more object false (Update other before after) is = is
conflicts_more object false (Marked mark) is = absurd cc

-- an access conflicts with accesses of its own object alone, and a read with no read
pub other_object : (e : Event) (object o : ℕ) (writing : Bool) → object_of e ≡ Some object → o ≢ object → conflicts_with o writing e ≡ false
other_object (Read other value) object o true of differ = let same : other ≡ object = cc in ne_eqb other o (λ is. differ (sym is ∙ same))
other_object (Read other value) object o false of differ = refl
other_object (Write other value) object o writing of differ = let same : other ≡ object = cc in ne_eqb other o (λ is. differ (sym is ∙ same))
other_object (Update other before after) object o writing of differ = let same : other ≡ object = cc in ne_eqb other o (λ is. differ (sym is ∙ same))
other_object (Marked mark) object o writing of differ = refl

pub read_with_read : (e : Event) (o : ℕ) → is_write e ≡ false → conflicts_with o false e ≡ false
read_with_read (Read other value) o does = refl
read_with_read (Write other value) o does = absurd cc
read_with_read (Update other before after) o does = absurd cc
read_with_read (Marked mark) o does = refl

module _ (js : Journals) (play : List ℕ) (i : ℕ) where
  pub lie_fewer : (object : ℕ) (writing : Bool) (u n : ℕ) → LieWithin js play i object true u n → LieWithin js play i object writing u n
  lie_fewer object writing u n h = record { lie = λ ordered a x made is passes. h.lie ordered a x made is (conflicts_more object writing x passes) }

  -- they lie in each past that has the one in which they lie
  pub lie_in_more : (object : ℕ) (writing : Bool) (t k : ℕ) (first : Prefix) → LieWithin js play i object writing first.thread first.count → HasPast js t k first → LieWithin js play i object writing t k
  lie_in_more object writing t k first h known = record { lie = λ ordered a x made is passes. known a (h.lie ordered a x made is passes) }

module _ (js : Journals) (play : List ℕ) (i t : ℕ) (e : Event) (next : IsNextStep js play i t e) where
  abbrev k : ℕ
  k = made_by play i t

  here : step_place play i ≡ place t k
  here = λ j. record { thread = next.step.is_of j; event = made_by play i (next.step.is_of j) }

  one_more : made_by play (suc i) t ≡ suc k
  one_more = made_one play i t next.step.within next.step.is_of

  some_same : (a b : Event) → Some a ≡ Some b → a ≡ b
  some_same a b e = cc

  made_up_to : (a : Place) → IsMadeBefore play (suc i) a → IsMadeBefore play i a ⊎ (a ≡ place t k)
  made_up_to a made = elim (cases_eq a.thread t) [
    | inr differ ↦ inl (omega (arith, made, made_other play i a.thread next.step.within (λ is. differ (sym is ∙ next.step.is_of))))
    | inl same ↦ elim (cases_eq a.event k) [
      | inl last ↦ inr (λ j. record { thread = same j; event = last j })
      | inr sooner ↦ let now = ap (made_by play i) same in let then = ap (made_by play (suc i)) same in inl (omega (arith, made, one_more))
    ]
  ]

  -- they still do, where the next event is none of them
  pub lie_still : (object : ℕ) (writing : Bool) (u n : ℕ) → conflicts_with object writing e ≡ false → LieWithin js play i object writing u n → LieWithin js play (suc i) object writing u n
  lie_still object writing u n fails h = record {
    lie = λ ordered a x made is passes. elim (made_up_to a made) [
      | inl before ↦ h.lie (λ step lt. ordered step (omega arith)) a x before is passes
      | inr last ↦ absurd (let one = some_same e x (sym next.step.makes ∙ sym (ap (event_at js) last) ∙ is) in let same = ap (conflicts_with object writing) one in cc)
    ];
  }

  own_last : InPast js t (suc k) (place t k)
  own_last = past_has_own js t (suc k) k (omega arith) (e, next.step.makes)

  -- after an access they lie in the past of its thread, where they did before it
  pub lie_in_own : (object : ℕ) (writing : Bool) → LieWithin js play i object writing t k → LieWithin js play (suc i) object writing t (suc k)
  lie_in_own object writing h = record {
    lie = λ ordered a x made is passes. elim (made_up_to a made) [
      | inl before ↦ past_grows js t k (suc k) a (omega arith) (h.lie (λ step lt. ordered step (omega arith)) a x before is passes)
      | inr last ↦ subst (λ (p : Place). InPast js t (suc k) p) (sym last) own_last
    ];
  }

  module _ (object : ℕ) (of : object_of e ≡ Some object) where
    conflict : (a : Place) (x : Event) → event_at js a ≡ Some x → a.thread ≢ t → conflicts_with object true x ≡ true → is_write e ≡ true → Conflict js a (step_place play i)
    conflict a x is differ passes does = subst (λ (p : Place). Conflict js a p) (sym here) (record {
      first = x;
      second = e;
      object = object;
      is_first = is;
      is_second = next.step.makes;
      by_others = differ;
      of_one = same_object x object true passes;
      of_same = of;
      one_writes = subst (λ (w : Bool). IsTrue (is_write x || w)) (sym does) (one_writes_of x object true passes);
    })

    -- after a write all do
    pub lie_after_write : is_write e ≡ true → (writing : Bool) → LieWithin js play (suc i) object writing t (suc k)
    lie_after_write does writing = record {
      lie = λ ordered a x made is passes. elim (made_up_to a made) [
        | inr last ↦ subst (λ (p : Place). InPast js t (suc k) p) (sym last) own_last
        | inl before ↦ elim (cases_eq a.thread t) [
          | inl same ↦ own_event js t (suc k) a same (let now = ap (made_by play i) same in omega (arith, before)) (step_within js play i t e next.step)
          | inr differ ↦
              let follows = ordered i (omega arith) a (record { earlier = before; conflict = conflict a x is differ (conflicts_more object writing x passes) does }) in
              past_is_closed js t (suc k) a (place t k) (subst (λ (p : Place). HappensBefore js a p) here follows) own_last
        ]
      ];
    }

    -- where they lie in the past of the access's thread, it follows them
    follows_from : (writing : Bool) → is_write e ≡ writing → LieWithin js play i object writing t k → ((step : ℕ) → step < i → FollowsConflicts js play step) → FollowsConflicts js play i
    follows_from writing does h ordered a c =
        let found = subst (λ (p : Place). Conflict js a p) here c.conflict in
        let second : found.second ≡ e = some_same found.second e (sym found.is_second ∙ next.step.makes) in
        let passes = from_conflict e found.first object found.object writing of does found.of_one (ap object_of (sym second) ∙ found.of_same) (subst (λ (x : Event). IsTrue (is_write found.first || is_write x)) second found.one_writes) in
        let past = h.lie ordered a found.first c.earlier found.is_first passes in
        subst (λ (p : Place). HappensBefore js a p) (sym here) (past_happens_before js t k k a past (omega arith) (e, next.step.makes))

    pub judged_within : (writing : Bool) (verdict : Verdict) → is_write e ≡ writing → LieWithin js play i object writing t k → JudgedUpTo js play i verdict → JudgedUpTo js play (suc i) verdict
    judged_within writing Ordered does h judged = judged_more js play i t e next Ordered judged (follows_from writing does h judged)
    judged_within writing (Unordered first second) does h judged = judged
