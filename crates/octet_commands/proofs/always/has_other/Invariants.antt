use Rattle.std.proofs.Common.{◌≡◌, ℕ, ◌<◌, get_or}
use Rattle.octet_outcomes.specs.Endings.{no_ending}
use Rattle.octet_commands.proofs.always.has_other.Given as goal

abbrev pub invariant-loop-ending : goal.invariant-loop-ending
invariant-loop-ending l = (k : ℕ) → k < l.ending-index → get_or (get_or l.endings k no_ending).heap l.object 0 ≡ l.number
