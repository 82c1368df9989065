-- A player is split off the first one, and is joined back to it: neither is a step of the run.
use Rattle.std.proofs.Common.{◌≡◌, ℕ, ◌<◌, true, length, refl, ap, ◌∙◌, arith}
use Rattle.atomic_table.specs.Table.{Splits, Joins}
use Rattle.octet_model.specs.declared.script.Script.{Script}
use Rattle.octet_model.specs.declared.log.Log.{Log}
use Rattle.octet_seats.proofs.lemmas.Seats.{seats_dealt, seats_joined}
use Rattle.octet_parallel.specs.Views.{PlayerView, facts_of, left_of, after_split, split_off, after_join}
use Rattle.octet_parallel.specs.Rule.{Follows, HasLeft, IsUnmade, IsRuled, spent}

pub splits : (script : Script) (log : Log) (id : ℕ) (v : PlayerView) → v.is_live ≡ true → v.number ≡ 0 → v.log ≡ log → v.players_made < length log.threads → Splits (IsRuled script log) id v (after_split v) (split_off v)
splits script log id v live zeroth same_log room table r at = record {
  agree = r.agree;
  untied = r.untied;
  run = r.run;
  is_run = r.is_run;
  lie = r.lie;
  seats = seats_dealt facts_of (Follows script log r.run) (HasLeft script log r.run) (IsUnmade script log r.run) (length log.threads) table.views r.seats id v at live (after_split v) (split_off v) zeroth room refl refl
      (λ had. let seen = had.seen in record { seen = record { sound = seen.sound; script = seen.script; log = seen.log; inside = seen.inside; stands = seen.stands }; trail = had.trail })
      (λ had fresh. let seen = had.seen in record {
        seen = record {
          sound = seen.sound;
          script = seen.script;
          log = seen.log;
          inside = let e = seen.sound.as_many in let f = ap (λ (z : Log). length z.threads) (seen.log ∙ same_log) in omega arith;
          stands = fresh.stands;
        };
        trail = fresh.trail;
      });
}

pub joins : (script : Script) (log : Log) (id : ℕ) (v : PlayerView) (other : ℕ) (w : PlayerView) → v.is_live ≡ true → v.number ≡ 0 → w.is_live ≡ true
    → Joins (IsRuled script log) id v other w (after_join v w) spent
joins script log id v other w live zeroth live' table r at apart there = record {
  agree = r.agree;
  untied = r.untied;
  run = r.run;
  is_run = r.is_run;
  lie = r.lie;
  seats = seats_joined facts_of (Follows script log r.run) (HasLeft script log r.run) (IsUnmade script log r.run) (length log.threads) table.views r.seats id v at live
      (Follows script log r.run) (HasLeft script log r.run) (IsUnmade script log r.run) other w (after_join v w) spent (left_of w) (length log.threads) refl apart there live' zeroth refl refl
      (λ ne had. let seen = had.seen in record { seen = record { sound = seen.sound; script = seen.script; log = seen.log; inside = seen.inside; stands = seen.stands }; trail = had.trail })
      (λ had. record { stands = had.seen.stands; trail = had.trail })
      (record { seen = λ y ne had. had; left = λ u left ne had. had; unmade = λ u ne had. had });
}
