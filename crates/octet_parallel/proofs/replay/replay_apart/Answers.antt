use Rattle.std.proofs.Common.{◌≡◌, true, All, List, sym, subst}
use Rattle.octet_parallel.specs.declared.alone.Alone.{Alone}
use Rattle.octet_parallel.proofs.solo.Together.{have_heaps}
use Rattle.octet_parallel.proofs.solo.Solo.{concluded, refused}
use Rattle.octet_parallel.proofs.replay.replay_apart.Goals as goal

abbrev AllThrough : List Alone → Type 0
AllThrough threads = All (λ (alone : Alone). alone.is_through ≡ true) threads

pub returns-then-not-are_through : goal.returns-then-not-are_through
returns-then-not-are_through g c =
    refused c.args.script.now c.args.log.now.threads c.in_ok-threads.threads.items c.requires.apart c.requires.threads c.in_ok-threads.ensures
    (λ all. let yes = c.are_through.ensures.1 (subst AllThrough (sym c.deref.ensures.value) all) in let no = c.if-not-are_through.true in absurd cc)

pub returns : goal.returns
returns g c =
    let yes : c.are_through.result ≡ true = let no = c.if-not-are_through.false in cc in
    concluded c.args.script.now c.args.log.now.threads c.in_ok-threads.threads.items c.requires.apart c.requires.threads c.in_ok-threads.ensures c.requires.untied
    (subst AllThrough c.deref.ensures.value (c.are_through.ensures.0 yes)) c.in_ok-outcome.outcome c.in_ok-outcome.ensures

pub outcome_of-requires : goal.outcome_of-requires
outcome_of-requires g c = have_heaps c.args.script.now c.args.log.now.threads c.in_ok-threads.threads.items c.in_ok-threads.ensures
