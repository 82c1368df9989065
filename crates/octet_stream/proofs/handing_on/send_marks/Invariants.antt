use Rattle.std.proofs.Common.{◌≡◌, ◌+◌, ◌++◌, map, take}
use Rattle.rtrb.specs.Ring.{sent, known_free, SameProducer}
use Rattle.octet_stream.specs.declared.item.Item.TheVariants.{Marked}
use Rattle.octet_stream.proofs.handing_on.send_marks.Given as goal

abbrev pub invariant-loop-mark : goal.invariant-loop-mark
invariant-loop-mark l = record {
  ring : SameProducer l.initial.sender l.sender;
  sent_so_far : sent l.sender ≡ sent l.initial.sender ++ map (λ mark. Marked mark) (take l.mark-index l.marks);
  free : known_free l.sender + l.mark-index ≡ known_free l.initial.sender;
}
