use Rattle.std.proofs.Common.{◌≡◌, ◌%◌, length, map, drop}
use Rattle.octet_machine.specs.Turns.{after_turns, after_picks}
use Rattle.octet_machine.proofs.rounds.take_picks.Given as goal

-- the picks that are left lead to where all of them lead
abbrev pub invariant-loop-pick : goal.invariant-loop-pick
invariant-loop-pick l = record {
  threads : l.threads ≡ length l.machine.runners;
  left : after_turns l.machine (map (λ pick. pick % l.threads) (drop l.pick-index l.picks)) ≡ after_picks l.fn.machine l.picks;
}
