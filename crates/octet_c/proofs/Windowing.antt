-- What is behind handles while the last accesses become a script.
use Rattle.std.proofs.Common.{◌≡◌, ◌∙◌, [], ap}
use Rattle.octet_host_long.specs.declared.following.ClosedAgain.{ClosedAgain}
use Rattle.octet_c.specs.Sessions.{IsLeftOf}

-- what a run has left that was made again stays so without its notes
pub left_taken : (before after : ClosedAgain) → IsLeftOf before → after ≡ record { values = before.values; made = []; last = 0 } → IsLeftOf after
left_taken before after (course, again, closed, same) is = (course, again, closed, ap (λ (a : ClosedAgain). a.values) is ∙ same)
