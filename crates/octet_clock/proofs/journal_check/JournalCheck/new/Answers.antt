use Rattle.std.proofs.Common.{refl, arith}
use Rattle.octet_clock.proofs.checks.JournalsAlone.{check_starts, fit_in_places, some_journals, start_names}
use Rattle.octet_clock.proofs.journal_check.JournalCheck.new.Goals as goal

pub new-requires : goal.new-requires
new-requires c = omega (arith, (fit_in_places c.args.journals.now c.requires).threads)

pub new-requires-2-clause-some : goal.new-requires-2-clause-some
new-requires-2-clause-some c = omega (arith, some_journals c.args.journals.now c.requires, c.in_ok-needs.ensures.as_many)

pub new-requires-2-clause-few : goal.new-requires-2-clause-few
new-requires-2-clause-few c = omega (arith, (fit_in_places c.args.journals.now c.requires).threads, c.in_ok-needs.ensures.as_many)

pub new-requires-2-clause-names : goal.new-requires-2-clause-names
new-requires-2-clause-names c = start_names c.args.journals.now c.requires c.in_ok-needs.needs c.in_ok-needs.ensures

pub returns-clause-at : goal.returns-clause-at
returns-clause-at c =
    check_starts c.args.journals.now c.in_ok-needs.needs _ c.in_ok-needs.ensures c.in_ok-new.ensures.many
    (λ play. c.in_ok-new.ensures.holds c.args.journals.now play refl) c.in_ok-new-2.ensures
