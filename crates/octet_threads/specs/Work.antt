-- What a clause says of runners, their threads and their feeds.
use Rattle.std.specs.Prelude.{◌≡◌, ℕ, ◌<◌, List, [], map, length, slice_index_or, Option, Some}
use Rattle.octet_model.specs.declared.log.Gapped.{Gapped}
use Rattle.octet_model.specs.Journals.{gapped_marks}
use Rattle.octet_heap.specs.declared.worker.Worker.{Worker}
use Rattle.octet_heap.specs.Workers.{seat_of}
use Rattle.octet_interp.specs.Demands.{ThreadState}
use Rattle.octet_live.specs.declared.feed.Feed.{Feed}
use Rattle.octet_live.specs.declared.drainer.Drainer.{Drainer}
use Rattle.octet_live.specs.Drained.{IsFeedOf}
use Rattle.octet_threads.specs.declared.heap.runner.Runner.{Runner}

-- the workers of the runners
abbrev pub workers_in : List Runner → List Worker
workers_in runners = map (λ runner. runner.worker) runners

-- where the runners' threads stand
abbrev pub threads_in : List Runner → List ThreadState
threads_in runners = map (λ runner. runner.config) runners

-- the marks that a thread has made, with their gaps
abbrev pub marks_made : List Runner → ℕ → List Gapped
marks_made runners thread = slice_index_or (map (λ worker. gapped_marks 0 (seat_of worker).journal) (workers_in runners)) thread []

-- there is a feed, which is that of this thread, and one of this drainer
abbrev pub SendsTo : Drainer → ℕ → Option Feed → Type 0
SendsTo drainer thread feed = (own : Feed) × (feed ≡ Some own) × IsFeedOf drainer thread own

-- each runner sends what its thread has made to this drainer
abbrev pub SendEach : Drainer → List Runner → Type 0
SendEach drainer runners = (thread : ℕ) (none : Runner) → thread < length runners → SendsTo drainer thread (slice_index_or runners thread none).feed
