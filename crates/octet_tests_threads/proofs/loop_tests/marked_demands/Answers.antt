use Rattle.octet_model.specs.Thread.{starting_configuration}
use Rattle.octet_heap.specs.Workers.{seat_of}
use Rattle.octet_threads.proofs.tasks.Fuel.{access_left}
use Rattle.octet_tests_threads.proofs.loop_tests.marked_demands.Goals as goal

pub carry-demand-requires-clause-can : goal.carry-demand-requires-clause-can
carry-demand-requires-clause-can g c κs within =
    let i = c.loop.invariant in record {
      own = i.own;
      idle = i.idle;
      more = λ wants. access_left (starting_configuration c.args.heap.now.fuel) (seat_of c.loop.worker).journal c.loop.config i.kept wants;
      objects = i.objects;
      waits = i.waits;
    }
