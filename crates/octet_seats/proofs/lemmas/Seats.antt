-- Seats are dealt and join, and the seats of a table stay seats.
use Rattle.std.proofs.Common.{◌≡◌, ◌≢◌, ℕ, zero, suc, ◌+◌, ◌<◌, ◌≤◌, ◌⊎◌, inl, inr, ⊎_elim, Bool, true, false, cond, eqb, eq-eqb, ne_eqb, List, [], ◌∷◌, ◌++◌, map, length, get_or, set, sym, refl, ap, ◌∙◌, subst, arith}
use mathlib.Core.Option.{some, some-injective, some-ne-none}
use mathlib.Core.Logic.{dite}
use native.Mathlib.Decide.{ℕ_discrete}
use lib.ListN.{get_elem?}
use Rattle.atomic_table.proofs.Lists.{at_set, set_here, set_else, at_longer, at_last}
use Rattle.octet_seats.specs.Rows.{AreInRow}
use Rattle.octet_seats.specs.Seats.{SeatFacts, dealt, after_dealing, after_joining, AreJoined, IsApart, AreApart, IsSeated, IsThere, IsListed, AreSeats, Stay}

at_end : {T : Type 0} (l : List T) (a b : T) (j : ℕ) → get_elem? (l ++ a ∷ []) j ≡ some b → (get_elem? l j ≡ some b) ⊎ ((j ≡ length l) × (a ≡ b))
at_end {T} [] a b zero e = inr (refl, some-injective a b e)
at_end {T} [] a b (suc j) e = absurd (some-ne-none b (sym e))
at_end {T} (x ∷ xs) a b zero e = inl e
at_end {T} (x ∷ xs) a b (suc j) e = ⊎_elim (λ p. inl p) (λ p. let q = p.0 in inr (omega arith, p.1)) (at_end xs a b j e)

inside_at : {T : Type 0} (l : List T) (j : ℕ) (a : T) → get_elem? l j ≡ some a → j < length l
inside_at {T} [] j a e = absurd (some-ne-none a (sym e))
inside_at {T} (x ∷ xs) zero a e = omega arith
inside_at {T} (x ∷ xs) (suc j) a e = let h = inside_at xs j a e in omega arith

at_same : {T : Type 0} (l : List T) (i j : ℕ) (a b : T) → get_elem? l i ≡ some a → get_elem? l j ≡ some b → j ≡ i → b ≡ a
at_same {T} l i j a b at other e = some-injective b a (sym other ∙ (ap (get_elem? l) e ∙ at))

-- f, with the value v at the number t
abbrev but : {T : Type 0} → (ℕ → T) → ℕ → T → ℕ → T
but f t v u = cond (eqb u t) v (f u)

but_same : {T : Type 0} (f : ℕ → T) (t : ℕ) (v : T) → but f t v t ≡ v
but_same {T} f t v = ap (λ (b : Bool). cond b v (f t)) (eq-eqb t t refl)

but_other : {T : Type 0} (f : ℕ → T) (t : ℕ) (v : T) (u : ℕ) → u ≢ t → but f t v u ≡ f u
but_other {T} f t v u ne = ap (λ (b : Bool). cond b v (f u)) (ne_eqb u t ne)

module _ {A : Type 0} where
  joined_more : (HasLeft : ℕ → A → Type 0) (has_joined : ℕ → Bool) (seats : List (ℕ × A)) (x : ℕ × A) → AreJoined HasLeft has_joined seats → has_joined x.0 ≡ true → HasLeft x.0 x.1 → AreJoined HasLeft has_joined (seats ++ x ∷ [])
  joined_more HasLeft has_joined [] x those g p = (g, p, tt)
  joined_more HasLeft has_joined (y ∷ ys) x those g p = (those.0, those.1, joined_more HasLeft has_joined ys x those.2 g p)

  -- seats that have joined, while what each has left stays
  joined_later : (HasLeft HasLeftAfter : ℕ → A → Type 0) (has_joined later : ℕ → Bool) → ((u : ℕ) → has_joined u ≡ true → later u ≡ true) → ((u : ℕ) (a : A) → has_joined u ≡ true → HasLeft u a → HasLeftAfter u a)
      → (seats : List (ℕ × A)) → AreJoined HasLeft has_joined seats → AreJoined HasLeftAfter later seats
  joined_later HasLeft HasLeftAfter has_joined later more stay [] those = tt
  joined_later HasLeft HasLeftAfter has_joined later more stay (x ∷ xs) those = (more x.0 those.0, stay x.0 x.1 those.0 those.1, joined_later HasLeft HasLeftAfter has_joined later more stay xs those.2)

  -- a seat that joins is none of those that have joined
  apart_end : (number : ℕ) (seats : List (ℕ × A)) (x : ℕ × A) → IsApart number seats → x.0 ≢ number → IsApart number (seats ++ x ∷ [])
  apart_end number [] x apart ne = (ne, tt)
  apart_end number (y ∷ ys) x apart ne = (apart.0, apart_end number ys x apart.1 ne)

  apart_more : (HasLeft : ℕ → A → Type 0) (has_joined : ℕ → Bool) (seats : List (ℕ × A)) (x : ℕ × A) → has_joined x.0 ≡ false → AreJoined HasLeft has_joined seats → AreApart seats → AreApart (seats ++ x ∷ [])
  apart_more HasLeft has_joined [] x here those apart = (tt, tt)
  apart_more HasLeft has_joined (y ∷ ys) x here those apart = (
    apart_end y.0 ys x apart.0 (λ e. let a = those.0 in let b : has_joined y.0 ≡ false = subst (λ (n : ℕ). has_joined n ≡ false) e here in cc),
    apart_more HasLeft has_joined ys x here those.2 apart.1,
  )

  listed_end : (number : ℕ) (seats : List (ℕ × A)) (x : ℕ × A) → IsListed number seats → IsListed number (seats ++ x ∷ [])
  listed_end number [] x is = absurd is
  listed_end number (y ∷ ys) x (inl e) = inl e
  listed_end number (y ∷ ys) x (inr is) = inr (listed_end number ys x is)

  listed_last : (seats : List (ℕ × A)) (x : ℕ × A) → IsListed x.0 (seats ++ x ∷ [])
  listed_last [] x = inl refl
  listed_last (y ∷ ys) x = inr (listed_last ys x)

  -- seats in a row that have joined have left each what is its number's
  pub left_at : {T : Type 0} (number : T → ℕ) (left : T → A) (Holds : ℕ → T → Type 0) (HasLeft : ℕ → A → Type 0) (has_joined : ℕ → Bool) → ((n : ℕ) (x : T) → Holds n x → number x ≡ n)
      → (t : ℕ) (xs : List T) → AreInRow Holds t xs → AreJoined HasLeft has_joined (map (λ (x : T). (number x, left x)) xs) → (k : ℕ) (none : A) → k < length xs → HasLeft (t + k) (get_or (map left xs) k none)
  left_at {T} number left Holds HasLeft has_joined numbered t [] row those k none h = absurd (omega arith)
  left_at {T} number left Holds HasLeft has_joined numbered t (x ∷ xs) row those zero none h = let e = numbered t x row.0 in let n : number x ≡ t + 0 = omega arith in subst (λ (z : ℕ). HasLeft z (left x)) n those.1
  left_at {T} number left Holds HasLeft has_joined numbered t (x ∷ xs) row those (suc k) none h = let n : (t + 1) + k ≡ t + suc k = omega arith in
      subst (λ (z : ℕ). HasLeft z (get_or (map left xs) k none)) n (left_at number left Holds HasLeft has_joined numbered (t + 1) xs row.1 those.2 k none (omega arith))

module _ {V A : Type 0} (facts : V → SeatFacts A) (IsSeen : V → Type 0) (HasLeft : ℕ → A → Type 0) (IsUnmade : ℕ → Type 0) (most : ℕ) where
  -- the first seat, before it has dealt another
  pub first_seat : (v : V) → facts v ≡ record { is_live = true; number = 0; seats_made = 1; joined = [] } → IsSeen v → 0 < most → ((t : ℕ) → 1 ≤ t → IsUnmade t) → AreSeats facts IsSeen HasLeft IsUnmade most (v ∷ [])
  first_seat v is seen more unmade = record {
    place_of = λ t. 0;
    seats_made = 1;
    has_joined = λ t. false;
    few = omega arith;
    not_joined = λ t h. refl;
    not_made = unmade;
    zeroth = here;
    there = λ t h _. let n : 0 ≡ t = omega arith in subst (IsThere facts (v ∷ [])) n here;
    listed = λ t e. absurd (let f : false ≡ true = e in cc);
    seated = at_first;
  }
    where
      here : IsThere facts (v ∷ []) 0
      here = record { place = 0; view = v; at = refl; live = ap (λ (f : SeatFacts A). f.is_live) is; numbered = ap (λ (f : SeatFacts A). f.number) is }

      at_first : (place : ℕ) (w : V) → get_elem? (v ∷ []) place ≡ some w → (facts w).is_live ≡ true → IsSeated facts IsSeen HasLeft (λ t. 0) 1 (λ t. false) place w
      at_first zero w e live = subst (IsSeated facts IsSeen HasLeft (λ t. 0) 1 (λ t. false) 0) (some-injective v w e) record {
        within = let n : (facts v).number ≡ 0 = ap (λ (f : SeatFacts A). f.number) is in omega arith;
        own = refl;
        here = refl;
        seen = seen;
        counted = λ z. ap (λ (f : SeatFacts A). f.seats_made) is;
        are_joined = λ z. subst (λ (l : List (ℕ × A)). AreJoined HasLeft (λ t. false) l) (sym (ap (λ (f : SeatFacts A). f.joined) is)) tt;
        apart = λ z. subst (λ (l : List (ℕ × A)). AreApart l) (sym (ap (λ (f : SeatFacts A). f.joined) is)) tt;
      }
      at_first (suc place) w e live = absurd (some-ne-none w (sym e))

  module _ (views : List V) (r : AreSeats facts IsSeen HasLeft IsUnmade most views) (id : ℕ) (v : V) (at : get_elem? views id ≡ some v) (live : (facts v).is_live ≡ true) where
    mine : IsSeated facts IsSeen HasLeft r.place_of r.seats_made r.has_joined id v
    mine = r.seated id v at live

    -- where another view takes the place of this one, the seats are those that were
    module _ (w : V) (is_live : (facts w).is_live ≡ true) (number : (facts w).number ≡ (facts v).number) (joined : (facts w).joined ≡ (facts v).joined) where
      still_there : (t : ℕ) (it : IsThere facts views t) → (new : IsThere facts (set views id w) t) × ((facts new.view).joined ≡ (facts it.view).joined)
      still_there t it = dite (ℕ_discrete it.place id)
          (λ e. let same : it.view ≡ v = at_same views id it.place v it.view at it.at e in (
            record { place = id; view = w; at = set_here views id w (inside_at views id v at); live = is_live; numbered = number ∙ (ap (λ (z : V). (facts z).number) (sym same) ∙ it.numbered) },
            joined ∙ ap (λ (z : V). (facts z).joined) (sym same),
          ))
          (λ ne. (record { place = it.place; view = it.view; at = set_else views id it.place w ne ∙ it.at; live = it.live; numbered = it.numbered }, refl))

    -- seat 0 deals another
    pub seats_dealt : (left right : V) → (facts v).number ≡ 0 → (facts v).seats_made < most → facts left ≡ after_dealing (facts v) → facts right ≡ dealt (facts v)
        → (IsSeen v → IsSeen left) → (IsSeen v → IsUnmade (facts v).seats_made → IsSeen right) → AreSeats facts IsSeen HasLeft IsUnmade most (set views id left ++ right ∷ [])
    seats_dealt left right zeroth room is_left is_right see_left see_right =
        let made : (facts v).seats_made ≡ r.seats_made = mine.counted zeroth in let l : List V = set views id left in
        let place_of : ℕ → ℕ = but r.place_of r.seats_made (length l) in
        let old : (t : ℕ) → t < r.seats_made → place_of t ≡ r.place_of t = λ t h. but_other r.place_of r.seats_made (length l) t (λ e. omega arith) in
        let within = mine.within in
        let left_number : (facts left).number ≡ (facts v).number = ap (λ (f : SeatFacts A). f.number) is_left in
        let right_number : (facts right).number ≡ (facts v).seats_made = ap (λ (f : SeatFacts A). f.number) is_right in
        let left_joined : (facts left).joined ≡ (facts v).joined = ap (λ (f : SeatFacts A). f.joined) is_left in
        let right_joined : (facts right).joined ≡ [] = ap (λ (f : SeatFacts A). f.joined) is_right in
        let stays = still_there left (ap (λ (f : SeatFacts A). f.is_live) is_left ∙ live) left_number left_joined in
        let longer : (t : ℕ) → IsThere facts l t → IsThere facts (l ++ right ∷ []) t = λ t it. record { place = it.place; view = it.view; at = at_longer l (right ∷ []) it.place it.view it.at; live = it.live; numbered = it.numbered } in
        record {
          place_of = place_of;
          seats_made = suc r.seats_made;
          has_joined = r.has_joined;
          few = omega arith;
          not_joined = λ t h. r.not_joined t (omega arith);
          not_made = λ t h. r.not_made t (omega arith);
          zeroth = longer 0 (stays 0 r.zeroth).0;
          there = λ t h here. dite (ℕ_discrete t r.seats_made)
              (λ e. record { place = length l; view = right; at = at_last l right (length l) refl; live = ap (λ (f : SeatFacts A). f.is_live) is_right; numbered = right_number ∙ (made ∙ sym e) })
              (λ ne. longer t (stays t (r.there t (omega arith) here)).0);
          listed = λ t e. subst (λ (m : List (ℕ × A)). IsListed t m) (sym (stays 0 r.zeroth).1) (r.listed t e);
          seated = λ j y e live'. ⊎_elim
              (λ (p : get_elem? l j ≡ some y). ⊎_elim
              (λ (q : (j ≡ id) × (left ≡ y)). subst (λ (z : ℕ × V). IsSeated facts IsSeen HasLeft place_of (suc r.seats_made) r.has_joined z.0 z.1) (λ i. (sym q.0 i, q.1 i)) record {
                within = omega arith;
                own = ap place_of left_number ∙ (old (facts v).number within ∙ mine.own);
                here = ap r.has_joined left_number ∙ mine.here;
                seen = see_left mine.seen;
                counted = λ z. ap (λ (f : SeatFacts A). f.seats_made) is_left ∙ ap suc made;
                are_joined = λ z. subst (λ (m : List (ℕ × A)). AreJoined HasLeft r.has_joined m) (sym left_joined) (mine.are_joined zeroth);
                apart = λ z. subst (λ (m : List (ℕ × A)). AreApart m) (sym left_joined) (mine.apart zeroth);
              })
              (λ (q : (j ≢ id) × (get_elem? views j ≡ some y)). let its = r.seated j y q.1 live' in let its_within = its.within in record {
                within = omega arith;
                own = old (facts y).number its_within ∙ its.own;
                here = its.here;
                seen = its.seen;
                counted = λ z. absurd (q.0 (sym its.own ∙ (ap r.place_of (z ∙ sym zeroth) ∙ mine.own)));
                are_joined = its.are_joined;
                apart = its.apart;
              })
              (at_set views id j left y p))
              (λ (p : (j ≡ length l) × (right ≡ y)). subst (λ (z : ℕ × V). IsSeated facts IsSeen HasLeft place_of (suc r.seats_made) r.has_joined z.0 z.1) (λ i. (sym p.0 i, p.1 i)) record {
                within = omega arith;
                own = ap place_of (right_number ∙ made) ∙ but_same r.place_of r.seats_made (length l);
                here = r.not_joined (facts right).number (omega arith);
                seen = see_right mine.seen (r.not_made (facts v).seats_made (omega arith));
                counted = λ z. absurd (omega arith);
                are_joined = λ z. subst (λ (m : List (ℕ × A)). AreJoined HasLeft r.has_joined m) (sym right_joined) tt;
                apart = λ z. subst (λ (m : List (ℕ × A)). AreApart m) (sym right_joined) tt;
              })
              (at_end l right y j e);
        }

    -- what holds after a step or a join
    module _ (IsSeenAfter : V → Type 0) (HasLeftAfter : ℕ → A → Type 0) (IsUnmadeAfter : ℕ → Type 0) where
      -- the seat takes a step
      pub seats_stepped : (w : V) (room : ℕ) → room ≡ most → facts w ≡ facts v → IsSeenAfter w → Stay facts IsSeen IsSeenAfter HasLeft HasLeftAfter IsUnmade IsUnmadeAfter (facts v).number
          → AreSeats facts IsSeenAfter HasLeftAfter IsUnmadeAfter room (set views id w)
      seats_stepped w room many is seen stay =
          let t : ℕ = (facts v).number in let within = mine.within in let few = r.few in
          let number : (facts w).number ≡ t = ap (λ (f : SeatFacts A). f.number) is in
          let joined : (facts w).joined ≡ (facts v).joined = ap (λ (f : SeatFacts A). f.joined) is in
          let stays = still_there w (ap (λ (f : SeatFacts A). f.is_live) is ∙ live) number joined in
          let not_me : (u : ℕ) → r.has_joined u ≡ true → u ≢ t = λ u g e. let a = mine.here in let b : r.has_joined t ≡ true = subst (λ (z : ℕ). r.has_joined z ≡ true) e g in cc in
          let kept : (seats : List (ℕ × A)) → AreJoined HasLeft r.has_joined seats → AreJoined HasLeftAfter r.has_joined seats =
          joined_later HasLeft HasLeftAfter r.has_joined r.has_joined (λ u g. g) (λ u a g had. stay.left u a (not_me u g) had) in
          record {
            place_of = r.place_of;
            seats_made = r.seats_made;
            has_joined = r.has_joined;
            few = omega arith;
            not_joined = r.not_joined;
            not_made = λ u h. stay.unmade u (λ e. omega arith) (r.not_made u h);
            zeroth = (stays 0 r.zeroth).0;
            there = λ u h here. (stays u (r.there u h here)).0;
            listed = λ u e. subst (λ (m : List (ℕ × A)). IsListed u m) (sym (stays 0 r.zeroth).1) (r.listed u e);
            seated = λ j y e live'. ⊎_elim
                (λ (p : (j ≡ id) × (w ≡ y)). subst (λ (z : ℕ × V). IsSeated facts IsSeenAfter HasLeftAfter r.place_of r.seats_made r.has_joined z.0 z.1) (λ i. (sym p.0 i, p.1 i)) record {
                  within = omega arith;
                  own = ap r.place_of number ∙ mine.own;
                  here = ap r.has_joined number ∙ mine.here;
                  seen = seen;
                  counted = λ z. ap (λ (f : SeatFacts A). f.seats_made) is ∙ mine.counted (sym number ∙ z);
                  are_joined = λ z. subst (λ (m : List (ℕ × A)). AreJoined HasLeftAfter r.has_joined m) (sym joined) (kept (facts v).joined (mine.are_joined (sym number ∙ z)));
                  apart = λ z. subst (λ (m : List (ℕ × A)). AreApart m) (sym joined) (mine.apart (sym number ∙ z));
                })
                (λ (p : (j ≢ id) × (get_elem? views j ≡ some y)). let its = r.seated j y p.1 live' in record {
                  within = its.within;
                  own = its.own;
                  here = its.here;
                  seen = stay.seen y (λ e. p.0 (sym its.own ∙ (ap r.place_of e ∙ mine.own))) its.seen;
                  counted = its.counted;
                  are_joined = λ z. kept (facts y).joined (its.are_joined z);
                  apart = its.apart;
                })
                (at_set views id j w y e);
          }

      -- another joins seat 0
      pub seats_joined : (other : ℕ) (w both spent : V) (left : A) (room : ℕ) → room ≡ most → ¬ (other ≡ id) → get_elem? (set views id both) other ≡ some w → (facts w).is_live ≡ true → (facts v).number ≡ 0
          → facts both ≡ after_joining (facts v) (facts w).number left → (facts spent).is_live ≡ false → ((facts v).number ≢ (facts w).number → IsSeen v → IsSeenAfter both) → (IsSeen w → HasLeftAfter (facts w).number left)
          → Stay facts IsSeen IsSeenAfter HasLeft HasLeftAfter IsUnmade IsUnmadeAfter (facts w).number → AreSeats facts IsSeenAfter HasLeftAfter IsUnmadeAfter room (set (set views id both) other spent)
      seats_joined other w both spent left room many apart there live' zeroth is is_spent see leaves stay =
          let there' : get_elem? views other ≡ some w = ⊎_elim (λ (p : (other ≡ id) × (both ≡ w)). absurd (apart p.0)) (λ (p : (other ≢ id) × (get_elem? views other ≡ some w)). p.1) (at_set views id other both w there) in
          let its = r.seated other w there' live' in let t : ℕ = (facts w).number in
          let its_within = its.within in let within = mine.within in let few = r.few in
          let number : (facts both).number ≡ (facts v).number = ap (λ (f : SeatFacts A). f.number) is in
          let joined : (facts both).joined ≡ (facts v).joined ++ (t, left) ∷ [] = ap (λ (f : SeatFacts A). f.joined) is in
          let differ : (facts v).number ≢ t = λ e. apart (sym its.own ∙ (ap r.place_of (sym e) ∙ mine.own)) in
          let has_joined : ℕ → Bool = but r.has_joined t true in
          let still_joined : (u : ℕ) → r.has_joined u ≡ true → has_joined u ≡ true = λ u g. dite (ℕ_discrete u t) (λ e. ap has_joined e ∙ but_same r.has_joined t true) (λ ne. but_other r.has_joined t true u ne ∙ g) in
          let zeroth_seated = r.seated r.zeroth.place r.zeroth.view r.zeroth.at r.zeroth.live in
          let at_zeroth : (facts r.zeroth.view).joined ≡ (facts v).joined = ap (λ (z : V). (facts z).joined)
          (at_same views id r.zeroth.place v r.zeroth.view at r.zeroth.at (sym zeroth_seated.own ∙ (ap r.place_of (r.zeroth.numbered ∙ sym zeroth) ∙ mine.own))) in
          let stays_there : (u : ℕ) → u ≢ t → IsThere facts views u → IsThere facts (set (set views id both) other spent) u = λ u ne it.
          let not_other : it.place ≢ other = λ e. ne (sym it.numbered ∙ ap (λ (z : V). (facts z).number) (at_same views other it.place w it.view there' it.at e)) in
          dite (ℕ_discrete it.place id)
          (λ e. let same : it.view ≡ v = at_same views id it.place v it.view at it.at e in
          record { place = id; view = both; at = set_else (set views id both) other id spent (λ e. apart (sym e)) ∙ set_here views id both (inside_at views id v at); live = ap (λ (f : SeatFacts A). f.is_live) is ∙ live; numbered = number ∙ (ap (λ (z : V). (facts z).number) (sym same) ∙ it.numbered) })
          (λ else. record { place = it.place; view = it.view; at = set_else (set views id both) other it.place spent not_other ∙ (set_else views id it.place both else ∙ it.at); live = it.live; numbered = it.numbered }) in
          let not_it : (u : ℕ) → r.has_joined u ≡ true → u ≢ t = λ u g e. let a = its.here in let b : r.has_joined t ≡ true = subst (λ (z : ℕ). r.has_joined z ≡ true) e g in cc in
          let kept : (seats : List (ℕ × A)) → AreJoined HasLeft r.has_joined seats → AreJoined HasLeftAfter has_joined seats =
          joined_later HasLeft HasLeftAfter r.has_joined has_joined still_joined (λ u a g had. stay.left u a (not_it u g) had) in
          record {
            place_of = r.place_of;
            seats_made = r.seats_made;
            has_joined = has_joined;
            few = omega arith;
            not_joined = λ u h. but_other r.has_joined t true u (λ e. omega arith) ∙ r.not_joined u h;
            not_made = λ u h. stay.unmade u (λ e. omega arith) (r.not_made u h);
            zeroth = record { place = id; view = both; at = set_else (set views id both) other id spent (λ e. apart (sym e)) ∙ set_here views id both (inside_at views id v at); live = ap (λ (f : SeatFacts A). f.is_live) is ∙ live; numbered = number ∙ zeroth };
            there = λ u h here. let ne : u ≢ t = λ e. let a : has_joined u ≡ true = ap has_joined e ∙ but_same r.has_joined t true in cc in stays_there u ne (r.there u h (sym (but_other r.has_joined t true u ne) ∙ here));
            listed = λ u e. subst (λ (m : List (ℕ × A)). IsListed u m) (sym joined) (dite (ℕ_discrete u t)
                (λ same. subst (λ (n : ℕ). IsListed n ((facts v).joined ++ (t, left) ∷ [])) (sym same) (listed_last (facts v).joined (t, left)))
                (λ ne. listed_end u (facts v).joined (t, left) (subst (λ (m : List (ℕ × A)). IsListed u m) at_zeroth (r.listed u (sym (but_other r.has_joined t true u ne) ∙ e)))));
            seated = λ j y e live''. ⊎_elim
                (λ (p : (j ≡ other) × (spent ≡ y)). absurd (let a : (facts spent).is_live ≡ true = ap (λ (z : V). (facts z).is_live) p.1 ∙ live'' in cc))
                (λ (p : (j ≢ other) × (get_elem? (set views id both) j ≡ some y)). ⊎_elim
                (λ (q : (j ≡ id) × (both ≡ y)). subst (λ (z : ℕ × V). IsSeated facts IsSeenAfter HasLeftAfter r.place_of r.seats_made has_joined z.0 z.1) (λ i. (sym q.0 i, q.1 i)) record {
                  within = omega arith;
                  own = ap r.place_of number ∙ mine.own;
                  here = ap has_joined number ∙ (but_other r.has_joined t true (facts v).number differ ∙ mine.here);
                  seen = see differ mine.seen;
                  counted = λ z. ap (λ (f : SeatFacts A). f.seats_made) is ∙ mine.counted zeroth;
                  are_joined = λ z. subst (λ (m : List (ℕ × A)). AreJoined HasLeftAfter has_joined m) (sym joined)
                      (joined_more HasLeftAfter has_joined (facts v).joined (t, left) (kept (facts v).joined (mine.are_joined zeroth)) (but_same r.has_joined t true) (leaves its.seen));
                  apart = λ z. subst (λ (m : List (ℕ × A)). AreApart m) (sym joined) (apart_more HasLeft r.has_joined (facts v).joined (t, left) its.here (mine.are_joined zeroth) (mine.apart zeroth));
                })
                (λ (q : (j ≢ id) × (get_elem? views j ≡ some y)). let z = r.seated j y q.1 live'' in
                let ne : (facts y).number ≢ t = λ f. p.0 (sym z.own ∙ (ap r.place_of f ∙ its.own)) in record {
                  within = z.within;
                  own = z.own;
                  here = but_other r.has_joined t true (facts y).number ne ∙ z.here;
                  seen = stay.seen y ne z.seen;
                  counted = z.counted;
                  are_joined = λ k. kept (facts y).joined (z.are_joined k);
                  apart = z.apart;
                })
                (at_set views id j both y p.1))
                (at_set (set views id both) other j spent y e);
          }
