use Rattle.octet_marks.proofs.Counts.{are_counted, block_in_order, end_in_order}
use Rattle.octet_marks.proofs.laws.pieces_stand_in_order.Goals as goal

pub returns : goal.returns
returns c = record { counted = are_counted; blocks = block_in_order; ends = end_in_order }
