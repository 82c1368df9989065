-- Clocks that are pasts.
use Rattle.std.proofs.Common.{◌≡◌, ℕ, suc, ◌<◌, ◌≤◌, ◌-◌, ◌⊎◌, inl, inr, length, get_or, sym, ap, subst, arith}
use Rattle.std.proofs.lemmas.Bool.{cases_eq, cases_lt}
use Rattle.std.proofs.lemmas.Option.{slice_get-get_or}
use Rattle.octet_model.specs.declared.event.Event.TheVariants.{Read}
use Rattle.octet_model.specs.declared.event.Place.{Place}
use Rattle.octet_model.specs.Machine.{Journals, journal_of}
use Rattle.octet_model.specs.HappensBefore.{IsEvent}
use Rattle.octet_model.specs.Past.{InPast, Reaches}
use Rattle.octet_model.proofs.lemmas.Pasts.{place, past_grows, past_has_own, past_is_closed}
use Rattle.octet_clock.specs.declared.clock.Clock.{Clock}
use Rattle.octet_clock.specs.Clock.{count_in, IsRaised, IsJoined}
use Rattle.octet_clock.specs.Past.{AddsNothing, ArePastOf, IsPastOf}
use Rattle.octet_clock.proofs.pasts.Edges.{nothing_added}

-- what a raised clock knows
pub raised_has : (c d : Clock) (t n u e : ℕ) → IsRaised c t n d → e < count_in c u → e < count_in d u
raised_has c d t n u e raised lt =
    elim (cases_eq u t) [
      | inl same ↦ let own = raised.own in let c_t = ap (count_in c) same in let d_t = ap (count_in d) same in omega arith
      | inr differ ↦ omega (arith, raised.others u differ)
    ]

pub raised_own : (c d : Clock) (t n e : ℕ) → IsRaised c t n d → e < n → e < count_in d t
raised_own c d t n e raised lt = let own = raised.own in omega arith

pub raised_from : (c d : Clock) (t n u e : ℕ) → IsRaised c t n d → e < count_in d u → (e < count_in c u) ⊎ ((u ≡ t) × (e < n))
raised_from c d t n u e raised lt =
    elim (cases_eq u t) [
      | inl same ↦
          let own = raised.own in let c_t = ap (count_in c) same in let d_t = ap (count_in d) same in
          elim (cases_lt e n) [ inl below ↦ inr (same, below) | inr above ↦ inl (omega arith) ]
      | inr differ ↦ inl (omega (arith, raised.others u differ))
    ]

pub joined_from : (c d b : Clock) (u e : ℕ) → IsJoined c d b → e < count_in b u → (e < count_in c u) ⊎ (e < count_in d u)
joined_from c d b u e joined lt = let is = joined u in elim (cases_lt e (count_in c u)) [ inl below ↦ inl below | inr above ↦ inr (omega arith) ]

module _ (js : Journals) where
  is_event : (t i : ℕ) → i < length (journal_of js t) → IsEvent js (place t i)
  is_event t i lt = (get_or (journal_of js t) i (Read 0 0), slice_get-get_or (journal_of js t) i (Read 0 0) lt)

  -- a thread's first events lie in their past
  pub own_event : (t now : ℕ) (a : Place) → a.thread ≡ t → a.event < now → now ≤ length (journal_of js t) → InPast js t now a
  own_event t now a same lt within =
      let there : place t a.event ≡ a = λ i. record { thread = sym same i; event = a.event } in
      subst (λ (p : Place). InPast js t now p) there (past_has_own js t now a.event lt (is_event t a.event (omega arith)))

  -- before any event lies nothing
  pub past_of_none : (t : ℕ) (c : Clock) → ((u : ℕ) → count_in c u ≡ 0) → IsPastOf js t 0 c
  past_of_none t c none a = ((λ h. absurd (omega (arith, h.below))), λ lt. absurd (omega (arith, none a.thread)))

  -- the past of some of a thread's events, raised to more of them that add nothing, is the past of the more
  pub past_raised : (t k now : ℕ) (c d : Clock) → IsPastOf js t k c → k ≤ now → now ≤ length (journal_of js t)
      → ((i : ℕ) → k ≤ i → i < now → AddsNothing js t i) → IsRaised c t now d → IsPastOf js t now d
  past_raised t k now c d past le within quiet raised a = (to, from)
    where
      to : InPast js t now a → a.event < count_in d a.thread
      to h = elim (nothing_added js (now - k) t k now a (omega arith) quiet h) [
        | inl was ↦ raised_has c d t now a.thread a.event raised ((past a).0 was)
        | inr own ↦ subst (λ (u : ℕ). a.event < count_in d u) (sym own.0) (raised_own c d t now a.event raised own.1)
      ]

      from : a.event < count_in d a.thread → InPast js t now a
      from lt = elim (raised_from c d t now a.thread a.event raised lt) [
        | inl known ↦ past_grows js t k now a le ((past a).1 known)
        | inr own ↦ own_event t now a own.0 own.1 within
      ]

  -- after an event that takes in another past lie the thread's own past, the other past and the event
  pub past_joined : (t k u n : ℕ) (c d b e : Clock) → IsPastOf js t k c → IsPastOf js u n d → IsJoined c d b → IsRaised b t (suc k) e → k < length (journal_of js t)
      → ((a : Place) → InPast js u n a → InPast js t (suc k) a)
      → ((a : Place) → InPast js t (suc k) a → InPast js t k a ⊎ (InPast js u n a ⊎ (a ≡ place t k)))
      → IsPastOf js t (suc k) e
  past_joined t k u n c d b e own other joined raised within has gains a = (to, from)
    where
      to : InPast js t (suc k) a → a.event < count_in e a.thread
      to h = elim (gains a h) [
        | inl was ↦ raised_has b e t (suc k) a.thread a.event raised (omega (arith, joined a.thread, (own a).0 was))
        | inr new ↦ elim new [
          | inl was ↦ raised_has b e t (suc k) a.thread a.event raised (omega (arith, joined a.thread, (other a).0 was))
          | inr here ↦ subst (λ (p : Place). p.event < count_in e p.thread) (sym here) (raised_own b e t (suc k) k raised (omega arith))
        ]
      ]

      from : a.event < count_in e a.thread → InPast js t (suc k) a
      from lt = elim (raised_from b e t (suc k) a.thread a.event raised lt) [
        | inl known ↦ elim (joined_from c d b a.thread a.event joined known) [
          | inl mine ↦ past_grows js t k (suc k) a (omega arith) ((own a).1 mine)
          | inr its ↦ has a ((other a).1 its)
        ]
        | inr here ↦ own_event t (suc k) a here.0 here.1 (omega arith)
      ]

  -- a clock that knows as many events of a thread knows their past
  pub past_within : (t now u n : ℕ) (c : ℕ → ℕ) → ArePastOf js t now c → n ≤ c u → (a : Place) → InPast js u n a → InPast js t now a
  past_within t now u n c past le a h = go h.reaches
    where
      near : InPast js t now (place u h.near)
      near = (past (place u h.near)).1 (omega (arith, h.below))

      go : Reaches js a (place u h.near) → InPast js t now a
      go (inl same) = subst (λ (p : Place). InPast js t now p) (sym same) near
      go (inr path) = past_is_closed js t now a (place u h.near) path near
