use Rattle.std.proofs.Common.{◌≡◌, ◌≤◌, ℕ, length, slice_index_or}
use Rattle.std.specs.List.{AllZip}
use Rattle.octet_live.proofs.lemmas.Left.{LeftBelow}
use Rattle.octet_threads.specs.declared.heap.runner.Runner.{Runner}
use Rattle.octet_threads.specs.Runners.{IsSame}
use Rattle.octet_threads.specs.Work.{workers_in, threads_in, marks_made}
use Rattle.octet_threads.proofs.heap.live.add_all_left.Given as goal

abbrev pub invariant-loop-thread : goal.invariant-loop-thread
invariant-loop-thread g l =
    let state = g.D.Desk.state in
    record {
      left : LeftBelow l.thread (length l.fn.runners) (marks_made l.fn.runners) l.fn.drainer (state l.fn.desk) l.drainer (state l.desk);
      same : AllZip IsSame l.fn.runners l.runners;
      workers : workers_in l.runners ≡ workers_in l.fn.runners;
      threads : threads_in l.runners ≡ threads_in l.fn.runners;
      ahead : (thread : ℕ) (none : Runner) → l.thread ≤ thread → slice_index_or l.runners thread none ≡ slice_index_or l.fn.runners thread none;
      begun : (state l.desk).begun ≡ (state l.fn.desk).begun;
    }
