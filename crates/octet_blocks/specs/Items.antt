-- What the pieces of a marks file are to one of its threads.
use Rattle.std.specs.Prelude.{ℕ, ◌==◌, List, [], ◌∷◌, ◌++◌, map, if◌then◌else◌}
use Rattle.std.specs.List.{flat_map}
use Rattle.octet_marks.specs.declared.piece.Block.{Block}
use Rattle.octet_marks.specs.declared.piece.Piece.{Piece}
use Rattle.octet_marks.specs.declared.piece.Piece.TheVariants as pieces
use Rattle.octet_stream.specs.declared.item.Item.{Item}
use Rattle.octet_stream.specs.declared.item.Item.TheVariants.{Marked, BlockEnd, ThreadEnd}

-- the items of a block: its marks, and then its end
abbrev pub block_items : Block → List Item
block_items block = map (λ mark. Marked mark) block.marks ++ BlockEnd block.gap block.digest ∷ []

-- what a piece is to a thread: the items of its block, or its end. Another thread's is nothing to it
abbrev pub items_at : ℕ → Piece → List Item
items_at thread (pieces.Head head) = []
items_at thread (pieces.Block block) = if block.thread == thread then block_items block else []
items_at thread (pieces.End end) = if end.thread == thread then ThreadEnd ∷ [] else []

-- what the pieces of a file are to a thread
abbrev pub items_in : ℕ → List Piece → List Item
items_in thread all = flat_map (items_at thread) all
