-- What a thread that follows was fed.
use Rattle.std.specs.Prelude.{◌≡◌, List, [], ◌∷◌, ◌++◌, map}
use Rattle.octet_model.specs.declared.log.Gapped.{Gapped}
use Rattle.octet_follow.specs.declared.follower.Follower.{Follower}
use Rattle.octet_follow.specs.Blocks.{lengthened, carried}
use Rattle.octet_follow.specs.Calls.{given, given_after}
use Rattle.octet_stream.specs.declared.gathering.Gathered.{Gathered}
use Rattle.octet_stream.specs.declared.gathering.Gathered.TheVariants as gathered
use Rattle.octet_stream.specs.declared.item.Item.{Item}
use Rattle.octet_stream.specs.declared.item.Item.TheVariants.{Marked, BlockEnd, ThreadEnd, BreaksOff}
use Rattle.octet_stream.specs.Items.{marks_in, after_in}

-- the item that comes after marks that were gathered, if one does
abbrev pub item_after : Gathered → List Item
item_after gathered.Nothing = []
item_after gathered.Full = []
item_after (gathered.BlockEnd gap digest) = BlockEnd gap digest ∷ []
item_after gathered.ThreadEnd = ThreadEnd ∷ []
item_after gathered.BreaksOff = BreaksOff ∷ []

-- some marks were received and gathered, and then the item that comes after them
pub record Gathers (after : Gathered) (received_before : List Item) (marks_before : List Gapped) (received_now : List Item) (marks_now : List Gapped) : Type 0 where
  pub more : List Gapped
  pub gathers_marks : marks_now ≡ marks_before ++ more
  pub receives : received_now ≡ received_before ++ (map (λ mark. Marked mark) more ++ item_after after)

-- the follower was told the marks and the accesses of the items that were received, but for these marks, which are gathered for
-- its next block
pub record IsFed (items : List Item) (follower : Follower) (marks : List Gapped) : Type 0 where
  pub told : marks_in 0 items ≡ given follower ++ lengthened (given_after follower) marks
  pub after : after_in 0 items ≡ carried (given_after follower) marks 0
