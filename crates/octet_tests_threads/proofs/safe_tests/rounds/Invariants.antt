use Rattle.std.proofs.Common.{◌≡◌}
use Rattle.octet_state.specs.declared.phase.Due.TheVariants.{Nothing}
use Rattle.octet_rule.specs.Seats.{view, IsSeatOf}
use Rattle.octet_rule.specs.Conditions.{IsResting}
use Rattle.octet_tests_threads.proofs.safe_tests.rounds.Given as goal

abbrev pub invariant-loop : goal.invariant-loop
invariant-loop l = IsSeatOf l.words l.seat × ((view l.seat).thread.due ≡ Nothing) × ((view l.seat).number ≡ (view l.initial.seat).number) × IsResting (view l.seat).thread.phase × ((view l.seat).journal ≡ (view l.initial.seat).journal)
