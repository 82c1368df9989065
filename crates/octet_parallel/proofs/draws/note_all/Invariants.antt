use Rattle.std.proofs.Common.{◌≡◌, ◌*◌, ◌^◌, ◌≤◌, drop}
use Rattle.octet_parallel.specs.Draws.{noted_all}
use Rattle.octet_parallel.proofs.draws.note_all.Given as goal

abbrev pub invariant-loop-next : goal.invariant-loop-next
invariant-loop-next l = record {
  small : l.place ≤ l.next * 2 ^ 32;
  rest : noted_all l.draws l.thread l.place (drop l.next l.marks) ≡ noted_all l.initial.draws l.thread 0 l.marks;
}
