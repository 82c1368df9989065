-- What is said of markers and workers is what their models say.
use Rattle.std.specs.Prelude.{◌≡◌, ◌↔◌}
use Rattle.octet_heap.specs.declared.heap.Heap.{Heap}
use Rattle.octet_heap.specs.declared.marker.Marker.{Marker}
use Rattle.octet_heap.specs.declared.worker.Worker.{Worker}
use Rattle.octet_heap.specs.Builders.{Standing, Idle, StandsStill, IsBusy}
use Rattle.octet_heap.specs.Models.{marker_model, worker_model}
use Rattle.octet_heap.specs.Markers as marker
use Rattle.octet_heap.specs.Workers as worker

-- the facts that a thread is idle, that it rests, and that it has begun something are those of where it stands
pub record Tells (standing : Standing) (idle rests begun : Type 0) : Type 0 where
  pub of_idle : idle ↔ (standing ≡ Idle)
  pub of_rest : rests ↔ StandsStill standing
  pub of_begun : begun ↔ IsBusy standing

-- each marker of a heap says where its model stands
abbrev pub MarkersTell : Type 0
MarkersTell = (heap : Heap) (one : Marker) → marker.IsMarkerOf heap one → Tells (marker_model one).standing (marker.IsIdle one) (marker.Rests one) (marker.IsUnderWay one)

-- each worker of a heap says where its model stands
abbrev pub WorkersTell : Type 0
WorkersTell = (heap : Heap) (one : Worker) → worker.IsWorkerOf heap one → Tells (worker_model one).standing (worker.IsIdle one) (worker.Rests one) (worker.IsUnderWay one)
