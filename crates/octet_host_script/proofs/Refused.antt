-- A recording that is not followed.
use Rattle.std.proofs.Common.{◌≡◌, ℕ, List, refl, sym, subst, inr}
use Rattle.octet_model.specs.declared.log.ThreadLog.{ThreadLog}
use Rattle.octet_model.specs.declared.script.Script.{Script}
use Rattle.octet_replay.specs.declared.fault.ReplayFault.TheVariants as replay
use Rattle.octet_rerun.specs.declared.fault.RerunFault.{RerunFault}
use Rattle.octet_rerun.specs.declared.fault.RerunFault.TheVariants as rerun
use Rattle.octet_rerun.specs.Reruns.{Refuses}
use Rattle.octet_host_script.specs.declared.fault.FollowFault.{FollowFault}
use Rattle.octet_host_script.specs.Faults.{rerun_fault}
use Rattle.octet_host_script.specs.Refusals.{AreRefused, RefusesToFollow}
use Rattle.octet_host_script.specs.Spelled.{IsSpelled}

module _ (text bytes : List ℕ) (script : Script) (log : List ThreadLog) (spelled : IsSpelled text bytes script log) where
  of_why : (why : RerunFault) → Refuses script log why → AreRefused text bytes (rerun_fault why)
  of_why why refuses = record { script = script; log = log; spelled = spelled; why = why; refuses = refuses; is = refl }

  as_fault : (why : RerunFault) → Refuses script log why → RefusesToFollow text bytes (rerun_fault why)
  as_fault (rerun.Replay replay.OutOfMemory) refuses = tt
  as_fault (rerun.Replay (replay.ThreadsDiffer of_script of_log)) refuses = inr (of_why (rerun.Replay (replay.ThreadsDiffer of_script of_log)) refuses)
  as_fault (rerun.Replay (replay.Stuck positions)) refuses = inr (of_why (rerun.Replay (replay.Stuck positions)) refuses)
  as_fault (rerun.Replay (replay.Misfit thread wanted found)) refuses = inr (of_why (rerun.Replay (replay.Misfit thread wanted found)) refuses)
  as_fault (rerun.Unordered first second) refuses = of_why (rerun.Unordered first second) refuses

  -- what `Rerun::new` refuses is refused for the reason that it gives
  pub refused_for : (why : RerunFault) → Refuses script log why → (fault : FollowFault) → fault ≡ rerun_fault why → RefusesToFollow text bytes fault
  refused_for why refuses fault is = subst (RefusesToFollow text bytes) (sym is) (as_fault why refuses)
