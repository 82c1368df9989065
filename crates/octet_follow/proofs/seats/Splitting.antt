-- A follower is split off the first one, and is joined back to it.
use Rattle.std.proofs.Common.{◌≡◌, ℕ, ◌<◌, true, List, length, refl, arith}
use Rattle.atomic_table.specs.Table.{Splits, Joins}
use Rattle.octet_seats.proofs.lemmas.Seats.{seats_dealt, seats_joined}
use Rattle.octet_follow.specs.Views.{FollowerView, facts_of, after_split, split_off, after_join}
use Rattle.octet_follow.specs.Rule.{IsSeenBy, HasLeft, IsUnmade, IsRuled, spent}

pub splits : (starts : List ℕ) (followers id : ℕ) (v : FollowerView) → v.is_live ≡ true → v.number ≡ 0 → v.followers_made < followers → Splits (IsRuled starts followers) id v (after_split v) (split_off v)
splits starts followers id v live zeroth room table r at = let s = r.state in let many = r.many in record {
  state = s;
  lie = r.lie;
  sound = r.sound;
  begins = r.begins;
  many = r.many;
  seats = seats_dealt facts_of (λ y. IsSeenBy y s) (HasLeft s) (IsUnmade s) (length s.followers) table.views r.seats id v at live (after_split v) (split_off v) zeroth (omega arith) refl refl
      (λ seen. record { sound = seen.sound; starts = seen.starts; many = seen.many; inside = seen.inside; stands = seen.stands })
      (λ seen fresh. record { sound = seen.sound; starts = seen.starts; many = seen.many; inside = omega arith; stands = fresh });
}

pub joins : (starts : List ℕ) (followers id : ℕ) (v : FollowerView) (other : ℕ) (w : FollowerView) → v.is_live ≡ true → v.number ≡ 0 → w.is_live ≡ true
    → Joins (IsRuled starts followers) id v other w (after_join v w) spent
joins starts followers id v other w live zeroth live' table r at apart there = let s = r.state in record {
  state = s;
  lie = r.lie;
  sound = r.sound;
  begins = r.begins;
  many = r.many;
  seats = seats_joined facts_of (λ y. IsSeenBy y s) (HasLeft s) (IsUnmade s) (length s.followers) table.views r.seats id v at live
      (λ y. IsSeenBy y s) (HasLeft s) (IsUnmade s) other w (after_join v w) spent w.follower (length s.followers) refl apart there live' zeroth refl refl
      (λ ne seen. record { sound = seen.sound; starts = seen.starts; many = seen.many; inside = seen.inside; stands = seen.stands })
      (λ seen. seen.stands) (record { seen = λ y ne seen. seen; left = λ u follower ne had. had; unmade = λ u ne had. had });
}
