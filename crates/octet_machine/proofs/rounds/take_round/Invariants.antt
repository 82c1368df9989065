use Rattle.std.proofs.Common.{◌≡◌, ◌-◌, length}
use Rattle.std.specs.List.{range_with_len}
use Rattle.octet_machine.specs.Turns.{after_turns, after_round}
use Rattle.octet_machine.proofs.rounds.take_round.Given as goal

-- the turns that are left lead to where all of them lead
abbrev pub invariant-loop-thread : goal.invariant-loop-thread
invariant-loop-thread l = record {
  threads : l.thread-end ≡ length l.machine.runners;
  left : after_turns l.machine (range_with_len l.thread (l.thread-end - l.thread)) ≡ after_round l.fn.machine;
  script : l.machine.script ≡ l.fn.machine.script;
}
