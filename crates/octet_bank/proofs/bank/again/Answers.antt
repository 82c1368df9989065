use Rattle.std.proofs.Common.{ℕ, ◌≤◌, sym, subst}
use Rattle.octet_model.specs.declared.log.Log.{Log}
use Rattle.octet_model.specs.declared.script.Script.{Script}
use Rattle.octet_model.specs.Orders.{IsFaithful}
use Rattle.octet_parallel.specs.Calls.{log_in}
use Rattle.octet_rerun.specs.declared.follower.Follower.{Follower}
use Rattle.octet_rerun.specs.Reruns.{IsAtStart}
use Rattle.octet_bank.specs.Tellers.{lines_of_payment}
use Rattle.octet_bank.proofs.bank.again.Goals as goal

pub pay_both_again-answers-requires-clause-first : goal.pay_both_again-answers-requires-clause-first
pay_both_again-answers-requires-clause-first g c lifetimes outlives = let new = c.new-first.ensures in record {
  start = subst (λ (f : Follower). IsAtStart c.in_ok-rerun.rerun 0 f) (sym new.follower) c.in_ok-rerun.ensures.first;
  idle = new.begun;
  room = subst (λ (n : ℕ). lines_of_payment ≤ n) (sym new.left) c.requires.bank.room;
}

pub pay_both_again-answers-requires-clause-second : goal.pay_both_again-answers-requires-clause-second
pay_both_again-answers-requires-clause-second g c lifetimes outlives = let new = c.new-second.ensures in record {
  start = subst (λ (f : Follower). IsAtStart c.in_ok-rerun.rerun 1 f) (sym new.follower) c.in_ok-rerun.ensures.second;
  idle = new.begun;
  room = subst (λ (n : ℕ). lines_of_payment ≤ n) (sym new.left) c.requires.bank.room;
}

pub returns : goal.returns
returns g c =
    let r = c.args.recording.now in let of = c.in_ok-rerun.ensures.of in let field = c.in_ok-rerun.rerun.field in
    let of_log = subst (λ (log : Log). IsFaithful r.script log.threads r.outcome) (sym of.1) c.requires.faithful in
    c.in_ok-outcome.ensures r.outcome (subst (λ (script : Script). IsFaithful script (log_in field).threads r.outcome) (sym of.0) of_log)
