use Rattle.octet_heap.specs.Markers.{marker_seat}
use Rattle.octet_heap.specs.Workers.{seat_of}
use Rattle.octet_heap.proofs.Telling.{tells}
use Rattle.octet_heap.proofs.laws.models_tell.Goals as goal

pub returns-clause-markers : goal.returns-clause-markers
returns-clause-markers c = λ heap one own. tells (marker_seat one).threads one.pending one.changing (marker_seat one).thread.phase own.about

pub returns-clause-workers : goal.returns-clause-workers
returns-clause-workers c = λ heap one own. tells (seat_of one).threads one.pending one.changing (seat_of one).thread.phase own.about
