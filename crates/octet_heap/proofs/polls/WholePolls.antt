-- What a poll does follows from its steps.
use Rattle.std.proofs.Common.{◌≡◌, Option, Some}
use Rattle.octet_rule.specs.Views.{SeatView}
use Rattle.octet_heap.specs.declared.pending_access.PendingAccess.{PendingAccess}
use Rattle.octet_heap.specs.declared.poll.Poll.{Poll}
use Rattle.octet_heap.specs.Standing.{IsAbout}
use Rattle.octet_heap.specs.Workers.{IsPoll}
use Rattle.octet_heap.specs.Calls.{Polls}
use Rattle.octet_heap.proofs.polls.Paths.{owners_path}
use Rattle.octet_heap.proofs.polls.Finding.{poll_has_cause}
use Rattle.octet_heap.proofs.polls.Growing.{poll_adds}

pub polls_by : (access : PendingAccess) (begun : Option PendingAccess) (v w : SeatView) (answer : Poll) → IsAbout v.threads begun v.thread.phase → begun ≡ Some access → IsPoll access v answer w → Polls access v answer w
polls_by access begun v w answer about is steps = record {
  steps = steps;
  cause = poll_has_cause access begun v w answer about is steps;
  journal = poll_adds access begun v w answer about is steps;
  path = owners_path access v w answer steps;
}
