-- A seat is split off that of thread 0, and joins it again: neither is a step of the run.
use Rattle.std.proofs.Common.{◌≡◌, ℕ, ◌<◌, true, List, sym, refl, subst, arith}
use Rattle.atomic_table.specs.Table.{Splits, Joins}
use Rattle.octet_state.specs.State.{Thread}
use Rattle.octet_seats.proofs.lemmas.Seats.{seats_dealt, seats_joined}
use Rattle.octet_rule.specs.Views.{SeatView, facts_of, left_of, after_split, split_off, after_join, spent}
use Rattle.octet_rule.specs.Rule.{Follows, HasLeft, IsUnmade, IsRuled}
use Rattle.octet_rule.specs.Conditions.{IsResting}
use Rattle.octet_rule.proofs.Runs.{threads_after}

pub splits : (threads : ℕ) (starts : List ℕ) (id : ℕ) (v : SeatView) → v.is_live ≡ true → v.number ≡ 0 → v.seats_made < threads → Splits (IsRuled threads starts) id v (after_split v) (split_off v)
splits threads starts id v live zeroth room table r at = let many = threads_after threads starts r.run in record {
  some_thread = r.some_thread;
  few_threads = r.few_threads;
  run = r.run;
  is_run = r.is_run;
  lie = r.lie;
  seats = seats_dealt facts_of (Follows threads starts r.run) (HasLeft threads starts r.run) (IsUnmade threads starts r.run) threads table.views r.seats id v at live (after_split v) (split_off v) zeroth room refl refl
      (λ had. let seen = had.seen in record {
        seen = record { sound = seen.sound; as_many = seen.as_many; began = seen.began; inside = seen.inside; stands = seen.stands; has_made = seen.has_made };
        trail = had.trail;
      })
      (λ had fresh. let seen = had.seen in record {
        seen = record { sound = seen.sound; as_many = seen.as_many; began = seen.began; inside = omega arith; stands = fresh.stands; has_made = fresh.journal };
        trail = fresh.trail;
      });
}

pub joins : (threads : ℕ) (starts : List ℕ) (id : ℕ) (v : SeatView) (other : ℕ) (w : SeatView) → v.is_live ≡ true → v.number ≡ 0 → w.is_live ≡ true → IsResting w.thread.phase
    → Joins (IsRuled threads starts) id v other w (after_join v w) spent
joins threads starts id v other w live zeroth live' still table r at apart there = record {
  some_thread = r.some_thread;
  few_threads = r.few_threads;
  run = r.run;
  is_run = r.is_run;
  lie = r.lie;
  seats = seats_joined facts_of (Follows threads starts r.run) (HasLeft threads starts r.run) (IsUnmade threads starts r.run) threads table.views r.seats id v at live
      (Follows threads starts r.run) (HasLeft threads starts r.run) (IsUnmade threads starts r.run) other w (after_join v w) spent (left_of w) threads refl apart there live' zeroth refl refl
      (λ ne had. let seen = had.seen in record {
        seen = record { sound = seen.sound; as_many = seen.as_many; began = seen.began; inside = seen.inside; stands = seen.stands; has_made = seen.has_made };
        trail = had.trail;
      })
      (λ had. record { rests = subst (λ (x : Thread). IsResting x.phase) (sym had.seen.stands) still; journal = had.seen.has_made; trail = had.trail })
      (record { seen = λ y ne had. had; left = λ u left ne had. had; unmade = λ u ne had. had });
}
