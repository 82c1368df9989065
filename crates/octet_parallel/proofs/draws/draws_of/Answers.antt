use Rattle.std.proofs.Common.{rules, ◌≡◌, ◌∙◌, List, replicate, sym, subst}
use Rattle.octet_parallel.specs.Draws.{AreDraws, noted_of, highest_in, unknown}
use Rattle.octet_parallel.specs.declared.draws.PlayerEvents.{PlayerEvents}
use Rattle.octet_parallel.proofs.players.Noting.{are_draws, take_all, few_marks_each}
use Rattle.octet_parallel.proofs.draws.draws_of.Goals as goal

pub note_logs-requires-clause-few : goal.note_logs-requires-clause-few
note_logs-requires-clause-few c = few_marks_each c.args.log.now c.as_slice-logs.result.now (search rules)

pub returns : goal.returns
returns c =
    let start : c.as_mut_slice.result.now ≡ replicate (highest_in c.args.log.now.threads 0) unknown = search rules in
    let new : c.note_logs.new.draws ≡ noted_of (replicate (highest_in c.args.log.now.threads 0) unknown) 0 c.args.log.now.threads = search rules in
    let whole = take_all c.note_logs.new.draws _ c.in_ok-draws.draws.len (search rules) in
    subst (λ (draws : List PlayerEvents). AreDraws c.args.log.now.threads draws) (sym (whole ∙ new)) (are_draws c.args.log.now.threads c.requires)
