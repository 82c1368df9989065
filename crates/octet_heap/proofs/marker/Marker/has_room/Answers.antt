use Rattle.std.proofs.Common.{◌<◌, rules, arith}
use Rattle.octet_heap.proofs.marker.Marker.has_room.Goals as goal

pub returns-clause-whole : goal.returns-clause-whole
returns-clause-whole c =
    let log = c.args.self.now.recorder.log in (
      (λ is. let below : log.accesses < log.limit = search rules in record { few = omega arith; near = omega arith; room = log.room below }),
      (λ whole. let below = log.told log.accesses whole.room whole.near whole.few in search rules),
    )
