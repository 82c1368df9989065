-- What a thread that is asked for its next access or its end tells.
use Rattle.std.proofs.Common.{◌≡◌, ℕ, ◌+◌, ◌⊎◌, inl, inr, false, List, [], refl, sym, ap, ◌∙◌, subst, arith, zero-add}
use Rattle.octet_model.specs.declared.command.Command.{Command}
use Rattle.octet_model.specs.declared.outcome.End.{End}
use Rattle.octet_model.specs.Thread.{Configuration, settled, demanded, past_demanded}
use Rattle.octet_interp.specs.declared.demand.Demand.{Demand}
use Rattle.octet_interp.specs.declared.demand.Demand.TheVariants.{Read, Write, Bump, Safe, Pause, Ended}
use Rattle.octet_interp.specs.Demands.{ThreadState, next_demand, after_demand, given, is_demand, is_read}
use Rattle.octet_interp.specs.Laws.{Agrees, CountsPast}
use Rattle.octet_interp.specs.Regions.{regions_ahead, regions_to}
use Rattle.octet_interp.proofs.Agreement.{agrees, follows}
use Rattle.octet_interp.proofs.RegionsRun.{counted}
use Rattle.octet_replay.specs.declared.thread.NextDemand.{NextDemand}
use Rattle.octet_replay.specs.declared.thread.NextDemand.TheVariants.{Read as ReadNext, Write as WriteNext, Bump as BumpNext, Ended as EndNext}
use Rattle.octet_replay.specs.NextDemand.{demand_of, IsBeforeDemand, IsDemandedNext}

-- the thread settles as the configuration does, and has told this demand
pub record Asked (commands : List Command) (c : Configuration) (s : ThreadState) (demand : Demand) (after : ThreadState) : Type 0 where
  pub runs : s.commands ≡ commands
  pub settles : settled commands s.at ≡ settled commands c
  pub tells : demand ≡ next_demand s
  pub stands : after ≡ after_demand s

module _ (commands : List Command) (c : Configuration) (s after : ThreadState) where
  agrees_here : (demand : Demand) → Asked commands c s demand after → Agrees demand (record s { commands = commands }) after
  agrees_here demand a =
      let at_told : Agrees (next_demand s) s after = subst (λ (x : ThreadState). Agrees (next_demand s) s x) (sym a.stands) (agrees s) in
      let at_demand : Agrees demand s after = subst (λ (d : Demand). Agrees d s after) (sym a.tells) at_told in
      subst (λ (x : List Command). Agrees demand (record s { commands = x }) after) a.runs at_demand

  -- an access that is told is the one that is demanded, and the thread goes on past it as past that one
  asked_access : (demand : Demand) (up_next : NextDemand) (past : ℕ → Configuration)
      → ((after.waits ≡ is_read demand) × ((value : ℕ) → past value ≡ past_demanded commands c value) → IsBeforeDemand commands c up_next after)
      → (demanded commands s.at ≡ demand_of up_next) × ((value : ℕ) → past value ≡ past_demanded commands s.at value)
      → Asked commands c s demand after → IsDemandedNext commands c up_next after
  asked_access demand up_next past stands here a =
      let on = follows commands s.at c a.settles in
      record {
        demands = sym on.0 ∙ here.0;
        stands = stands (ap (λ (x : ThreadState). x.waits) a.stands ∙ ap is_read (sym a.tells), λ value. here.1 value ∙ on.1 value);
      }

  pub asked_read : (object : ℕ) → Asked commands c s (Read object) after → IsDemandedNext commands c (ReadNext object) after
  asked_read object a = asked_access (Read object) (ReadNext object) (λ value. (given after value).at) (λ is. is) (agrees_here (Read object) a) a

  pub asked_write : (object value : ℕ) → Asked commands c s (Write object value) after → IsDemandedNext commands c (WriteNext object value) after
  asked_write object value a = asked_access (Write object value) (WriteNext object value) (λ any. after.at) (λ is. is) (agrees_here (Write object value) a) a

  pub asked_bump : (object amount : ℕ) → Asked commands c s (Bump object amount) after → IsDemandedNext commands c (BumpNext object amount) after
  asked_bump object amount a = asked_access (Bump object amount) (BumpNext object amount) (λ any. after.at) (λ is. is) (agrees_here (Bump object amount) a) a

  pub asked_end : (end : End) → Asked commands c s (Ended end) after → IsDemandedNext commands c (EndNext end) after
  asked_end end a =
      let here = agrees_here (Ended end) a in
      let on = follows commands s.at c a.settles in
      record { demands = sym on.0 ∙ here.0; stands = tt }

  -- a safe point and a pause change nothing of where it settles
  pub asked_on : (demand : Demand) → (demand ≡ Safe) ⊎ (demand ≡ Pause) → Asked commands c s demand after → (after.waits ≡ false) × (settled commands after.at ≡ settled commands c)
  asked_on demand (inl is) a =
      let at_safe = subst (λ (d : Demand). Asked commands c s d after) is a in
      (ap (λ (x : ThreadState). x.waits) a.stands ∙ ap is_read (sym at_safe.tells), agrees_here Safe at_safe ∙ a.settles)
  asked_on demand (inr is) a =
      let at_pause = subst (λ (d : Demand). Asked commands c s d after) is a in
      (ap (λ (x : ThreadState). x.waits) a.stands ∙ ap is_read (sym at_pause.tells), agrees_here Pause at_pause ∙ a.settles)

-- the `region` commands that were counted and those ahead are as many, wherever the thread is asked on the way
module _ (s after : ThreadState) (stands : after ≡ after_demand s) (total : ℕ) (all : s.regions + regions_ahead s.commands s.at ≡ total) where
  abbrev run_here : ℕ
  run_here = regions_to is_demand s.commands s.at.fuel s.at

  abbrev uncounted : ThreadState
  uncounted = record s { regions = 0 }

  counts_past : (demand : Demand) → demand ≡ next_demand s → CountsPast s.at [] demand (after_demand uncounted)
  counts_past demand tells =
      subst (λ (d : Demand). CountsPast s.at [] d (after_demand uncounted)) (sym tells)
      (counted s.at [] uncounted (record { fits = tt; settles = refl }) (zero-add (regions_ahead s.commands s.at)))

  counts_all : 0 + run_here ≡ regions_ahead s.commands s.at → after.regions ≡ total
  counts_all run = omega (arith, all, run, ap (λ (x : ThreadState). x.regions) stands)

  pub counts_at_read : (object : ℕ) → Read object ≡ next_demand s → after.regions ≡ total
  counts_at_read object tells = counts_all (counts_past (Read object) tells).0

  pub counts_at_write : (object value : ℕ) → Write object value ≡ next_demand s → after.regions ≡ total
  counts_at_write object value tells = counts_all (counts_past (Write object value) tells).0

  pub counts_at_bump : (object amount : ℕ) → Bump object amount ≡ next_demand s → after.regions ≡ total
  counts_at_bump object amount tells = counts_all (counts_past (Bump object amount) tells).0

  pub counts_at_end : (end : End) → Ended end ≡ next_demand s → after.regions ≡ total
  counts_at_end end tells = counts_all (counts_past (Ended end) tells)

  counts_still : 0 + run_here + regions_ahead s.commands (after_demand s).at ≡ regions_ahead s.commands s.at → after.regions + regions_ahead after.commands after.at ≡ total
  counts_still run = ap (λ (x : ThreadState). x.regions + regions_ahead x.commands x.at) stands ∙ omega (arith, all, run)

  pub counts_on : (demand : Demand) → (demand ≡ Safe) ⊎ (demand ≡ Pause) → demand ≡ next_demand s → after.regions + regions_ahead after.commands after.at ≡ total
  counts_on demand (inl is) tells = counts_still (counts_past Safe (sym is ∙ tells))
  counts_on demand (inr is) tells = counts_still (counts_past Pause (sym is ∙ tells))
