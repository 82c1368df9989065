-- Where the seats of one table are seats of another too, what is known of each number agrees; and where so the views tell the words, what tells no seat changes none.
use Rattle.std.proofs.Common.{◌≡◌, ℕ, ◌<◌, inl, inr, Bool, true, false, List, [], ◌∷◌, ◌++◌, get_or, set, sym, ap, ◌∙◌, subst, arith, refl}
use mathlib.Core.Logic.{dite}
use mathlib.Core.Option.{some}
use native.Mathlib.Decide.{dec_le}
use lib.ListN.{get_elem?}
use Rattle.atomic_table.specs.Table.{State, stepped, homes_after}
use Rattle.atomic_table.proofs.Lists.{set_again, at_longer}
use Rattle.octet_seats.specs.Seats.{SeatFacts, AreJoined, IsSeated, IsThere, IsListed, AreSeats}
use Rattle.octet_seats.specs.Runs.{ViewsTell, SilenceKeeps, ArrivalKeeps}

-- two tables, where the seats of the first are seats of the second too
module _ {V A : Type 0} (facts : V → SeatFacts A) (IsSeen IsSeenToo : V → Type 0) (HasLeft HasLeftToo : ℕ → A → Type 0) (IsUnmade IsUnmadeToo : ℕ → Type 0) (most : ℕ) (Agree : ℕ → Type 0)
    (by_seen : (v : V) → IsSeen v → IsSeenToo v → Agree (facts v).number) (by_left : (number : ℕ) (left : A) → HasLeft number left → HasLeftToo number left → Agree number)
    (by_unmade : (number : ℕ) → IsUnmade number → IsUnmadeToo number → Agree number)
    (views others : List V) (r : AreSeats facts IsSeen HasLeft IsUnmade most views) (q : AreSeats facts IsSeenToo HasLeftToo IsUnmadeToo most others)
    (too : (place : ℕ) (v : V) → get_elem? views place ≡ some v → (facts v).is_live ≡ true → get_elem? others place ≡ some v) where
  first_knows : (t : ℕ) (it : IsThere facts views t) → IsSeated facts IsSeen HasLeft r.place_of r.seats_made r.has_joined it.place it.view
  first_knows t it = r.seated it.place it.view it.at it.live

  second_knows : (t : ℕ) (it : IsThere facts views t) → IsSeated facts IsSeenToo HasLeftToo q.place_of q.seats_made q.has_joined it.place it.view
  second_knows t it = q.seated it.place it.view (too it.place it.view it.at it.live) it.live

  as_many : r.seats_made ≡ q.seats_made
  as_many = sym ((first_knows 0 r.zeroth).counted r.zeroth.numbered) ∙ (second_knows 0 r.zeroth).counted r.zeroth.numbered

  -- of a seat that has joined they know by what it left
  of_joined : (has_joined also : ℕ → Bool) (t : ℕ) (seats : List (ℕ × A)) → AreJoined HasLeft has_joined seats → AreJoined HasLeftToo also seats → IsListed t seats → Agree t
  of_joined has_joined also t [] those these is = absurd is
  of_joined has_joined also t (seat ∷ seats) those these (inl e) = subst Agree e (by_left seat.0 seat.1 those.1 these.1)
  of_joined has_joined also t (seat ∷ seats) those these (inr is) = of_joined has_joined also t seats those.2 these.2 is

  pub all_agree : (t : ℕ) → Agree t
  all_agree t = dite (dec_le r.seats_made t)
      (λ h. by_unmade t (r.not_made t h) (q.not_made t (let m = as_many in omega arith)))
      (λ h. by (r.has_joined t) refl (omega arith))
    where
      by : (b : Bool) → r.has_joined t ≡ b → t < r.seats_made → Agree t
      by true e lt = of_joined r.has_joined q.has_joined t (facts r.zeroth.view).joined ((first_knows 0 r.zeroth).are_joined r.zeroth.numbered) ((second_knows 0 r.zeroth).are_joined r.zeroth.numbered) (r.listed t e)
      by false e lt = let it = r.there t lt e in subst Agree it.numbered (by_seen it.view (first_knows t it).seen (second_knows t it).seen)

-- a rule by which the live views tell the words
module _ {V : Type 0} (is_live : V → Bool) (Rule : State (Unit {0}) V → Type 0) (tell : ViewsTell is_live Rule) where
  pub silence_keeps : SilenceKeeps Rule
  silence_keeps slots id place me operation allows table r homes at small =
      let after = allows table r homes at small in let next = stepped table place (operation (get_or table.words place 0)) id me.1 after.0 after.1 in
      let same : table.views ≡ next.views = sym (ap (set table.views id) after.4 ∙ set_again table.views id me.0 at) in
      sym (tell table next r after.3 (λ place v there live. ap (λ (l : List V). get_elem? l place) (sym same) ∙ there))

  pub arrival_keeps : ArrivalKeeps Rule
  arrival_keeps slots place operation arrives table r homes small =
      let after = arrives table r homes small in
      sym (tell table (record { words = set table.words place (operation (get_or table.words place 0)); homes = homes_after table.homes [] after.1; views = table.views ++ after.0 ∷ [] }) r after.3
      (λ place v there live. at_longer table.views (after.0 ∷ []) place v there))
