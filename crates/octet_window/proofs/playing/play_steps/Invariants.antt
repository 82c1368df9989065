use Rattle.std.proofs.Common.{length, take}
use Rattle.octet_window.specs.Ordering.{parts_of}
use Rattle.octet_window.proofs.Played.{HasPlayed}
use Rattle.octet_window.proofs.playing.play_steps.Given as goal

abbrev pub invariant-loop-step : goal.invariant-loop-step
invariant-loop-step l = HasPlayed l.starts (length l.threads) (take l.step-index l.steps) (parts_of l.run)
