-- What is handed on of a journal, block by block.
use Rattle.std.specs.Prelude.{◌≡◌, ℕ, ◌+◌, Bool, true, false, List, [], ◌∷◌, ◌++◌, map, length, Option, Some}
use Rattle.std.specs.List.{flat_map}
use Rattle.octet_model.specs.declared.event.Event.{Event}
use Rattle.octet_model.specs.declared.log.Gapped.{Gapped}
use Rattle.octet_model.specs.Journals.{gap_after, gapped_marks}
use Rattle.octet_digest.specs.Digests.{digest_of}
use Rattle.octet_stream.specs.declared.item.Item.{Item}
use Rattle.octet_stream.specs.declared.item.Item.TheVariants.{Marked, BlockEnd, ThreadEnd, BreaksOff}

-- blocks of events, joined
abbrev pub joined : List (List Event) → List Event
joined blocks = flat_map (λ block. block) blocks

-- the items of a block that comes after these events: its marks, each with the accesses since the one before it, and its end
-- with the accesses after them, and the digest of all events so far
abbrev pub items_of_block : List Event → List Event → List Item
items_of_block earlier block = map (λ mark. Marked mark) (gapped_marks 0 block) ++ BlockEnd (gap_after 0 block) (digest_of (earlier ++ block)) ∷ []

-- the items of blocks that come after these events
abbrev pub items_of : List Event → List (List Event) → List Item
items_of earlier [] = []
items_of earlier (block ∷ blocks) = items_of_block earlier block ++ items_of (earlier ++ block) blocks

-- the thread's end, once it is handed on
abbrev pub items_of_end : Bool → List Item
items_of_end true = ThreadEnd ∷ []
items_of_end false = []

-- these items are all that was handed on of a journal: its blocks up to its first `base` events and, where it has `ended`, its end.
-- Then no event is left
pub record AreOf (made : List Event) (base : ℕ) (ended : Bool) (items : List Item) : Type 0 where
  pub blocks : List (List Event)
  pub left : List Event
  pub cut : made ≡ joined blocks ++ left
  pub first : base ≡ length (joined blocks)
  pub are : items ≡ items_of [] blocks ++ items_of_end ended
  pub last : ended ≡ true → left ≡ []

-- the marks among items, each with the accesses since the mark before it, in whatever block that is.
-- So many accesses come before the items
abbrev pub marks_in : ℕ → List Item → List Gapped
marks_in before [] = []
marks_in before (Marked mark ∷ items) = record { gap = before + mark.gap; mark = mark.mark } ∷ marks_in 0 items
marks_in before (BlockEnd gap digest ∷ items) = marks_in (before + gap) items
marks_in before (ThreadEnd ∷ items) = marks_in before items
marks_in before (BreaksOff ∷ items) = marks_in before items

-- the accesses after the last mark among items, in whole blocks. So many come before the items
abbrev pub after_in : ℕ → List Item → ℕ
after_in before [] = before
after_in before (Marked mark ∷ items) = after_in 0 items
after_in before (BlockEnd gap digest ∷ items) = after_in (before + gap) items
after_in before (ThreadEnd ∷ items) = after_in before items
after_in before (BreaksOff ∷ items) = after_in before items

-- the digest of the last block that ends among items. Before them it is this one
abbrev pub digest_in : Option ℕ → List Item → Option ℕ
digest_in before [] = before
digest_in before (Marked mark ∷ items) = digest_in before items
digest_in before (BlockEnd gap digest ∷ items) = digest_in (Some digest) items
digest_in before (ThreadEnd ∷ items) = digest_in before items
digest_in before (BreaksOff ∷ items) = digest_in before items
