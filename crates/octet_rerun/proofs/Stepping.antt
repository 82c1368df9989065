-- What a step of a player leaves of its journal.
use Rattle.std.proofs.Common.{◌≡◌, ◌∙◌, ℕ, sym, ap, subst}
use Rattle.octet_model.specs.declared.log.Log.{Log}
use Rattle.octet_parallel.specs.declared.fate.Fate.{Fate}
use Rattle.octet_parallel.specs.declared.fate.Fate.TheVariants.{Playing, Amiss, Stopped}
use Rattle.octet_parallel.specs.declared.played.Played.TheVariants.{Made, Waits, Through, Amiss as GoneAmiss, Stopped as HasStopped}
use Rattle.octet_parallel.specs.Calls.{MakesNext, WaitsFor, StepsBy, StepsTo}
use Rattle.octet_parallel.specs.Needs.{Needs}
use Rattle.octet_parallel.specs.Views.{PlayerView, next_in}
use Rattle.octet_rerun.specs.Reruns.{Awaits}

module _ (v w : PlayerView) where
  -- a player that makes its next event, or waits, plays
  pub makes_next : StepsTo v Made w → MakesNext v w
  makes_next steps = go v.player.fate steps
    where
      go : (fate : Fate) → StepsBy fate v Made w → MakesNext v w
      go Playing m = m
      go Amiss m = let is = m.1 in absurd cc
      go (Stopped whom) m = let is = m.1 in absurd cc

  waits_for : (whom needs found : ℕ) → StepsTo v (Waits whom needs found) w → WaitsFor v whom needs found w
  waits_for whom needs found steps = go v.player.fate steps
    where
      go : (fate : Fate) → StepsBy fate v (Waits whom needs found) w → WaitsFor v whom needs found w
      go Playing m = m
      go Amiss m = let is = m.1 in absurd cc
      go (Stopped other) m = let is = m.1 in absurd cc

  pub awaits : (whom needs found : ℕ) → StepsTo v (Waits whom needs found) w → Awaits w whom needs found
  awaits whom needs found steps =
      let waits = waits_for whom needs found steps in
      let moves = waits.look.moves in record {
        mark = waits.mark;
        is_next = ap (λ (x : PlayerView). next_in x) moves ∙ waits.is_next;
        needed = subst (λ (log : Log). Needs log.threads waits.mark whom needs) (sym (ap (λ (x : PlayerView). x.log) moves)) waits.needed;
        before = v;
        look = waits.look;
        fewer = waits.fewer;
      }

  pub stays_through : StepsTo v Through w → w.player.journal ≡ v.player.journal
  stays_through steps = go v.player.fate steps
    where
      go : (fate : Fate) → StepsBy fate v Through w → w.player.journal ≡ v.player.journal
      go Playing m = ap (λ (x : PlayerView). x.player.journal) m.0
      go Amiss m = ap (λ (x : PlayerView). x.player.journal) m.0
      go (Stopped other) m = ap (λ (x : PlayerView). x.player.journal) m.0

  pub stays_stopped : (whom : ℕ) → StepsTo v (HasStopped whom) w → w.player.journal ≡ v.player.journal
  stays_stopped whom steps = go v.player.fate steps
    where
      go : (fate : Fate) → StepsBy fate v (HasStopped whom) w → w.player.journal ≡ v.player.journal
      go Playing m = ap (λ (x : PlayerView). x.player.journal) m.stop.moves ∙ ap (λ (x : PlayerView). x.player.journal) m.look.moves
      go Amiss m = ap (λ (x : PlayerView). x.player.journal) m.0
      go (Stopped other) m = ap (λ (x : PlayerView). x.player.journal) m.0

  pub stays_amiss : StepsTo v GoneAmiss w → w.player.journal ≡ v.player.journal
  stays_amiss steps = go v.player.fate steps
    where
      go : (fate : Fate) → StepsBy fate v GoneAmiss w → w.player.journal ≡ v.player.journal
      go Playing m = ap (λ (x : PlayerView). x.player.journal) m.1.moves
      go Amiss m = ap (λ (x : PlayerView). x.player.journal) m.0
      go (Stopped other) m = ap (λ (x : PlayerView). x.player.journal) m.0
