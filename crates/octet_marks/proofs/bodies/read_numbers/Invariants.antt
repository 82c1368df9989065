use Rattle.std.proofs.Common.{◌≡◌, ◌-◌, ◌*◌, ◌++◌, length}
use Rattle.octet_marks.specs.Bodies.{numbers_at}
use Rattle.octet_marks.proofs.bodies.read_numbers.Given as goal

-- what is read, and then the numbers of the bytes that are left
abbrev pub invariant-loop : goal.invariant-loop
invariant-loop l = record {
  read : l.numbers.items ++ numbers_at (l.count - l.counter) l.rest ≡ numbers_at l.count l.bytes;
  left : length l.rest ≡ 8 * (l.count - l.counter);
}
