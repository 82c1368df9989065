use Rattle.std.proofs.Common.{◌≡◌, ℕ, ◌<◌, true, Some, slice_get}
use Rattle.octet_model.specs.declared.command.Command.{Command}
use Rattle.octet_model.specs.Validity.{is_closer}
use Rattle.octet_outcomes.specs.Flow.{IsOpened}
use Rattle.octet_outcomes.proofs.closers.are_opened.Given as goal

abbrev pub invariant-loop-place : goal.invariant-loop-place
invariant-loop-place l = (k : ℕ) (command : Command) → k < l.place → slice_get l.commands k ≡ Some command → is_closer command ≡ true → IsOpened l.commands k
