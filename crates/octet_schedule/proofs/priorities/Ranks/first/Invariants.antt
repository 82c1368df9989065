use Rattle.std.proofs.Common.{MatchOption}
use Rattle.octet_schedule.specs.Ready.{NoneIn}
use Rattle.octet_schedule.specs.Ways.{IsFirstInRank}
use Rattle.octet_schedule.proofs.priorities.Ranks.first.Given as goal

abbrev pub invariant-loop-thread : goal.invariant-loop-thread
invariant-loop-thread l = MatchOption l.first (NoneIn l.ready l.passed_over 0 l.thread) (IsFirstInRank l.self l.ready l.passed_over l.thread)
