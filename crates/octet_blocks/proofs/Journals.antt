-- The blocks that were written of a thread are those of its journal.
use Rattle.std.proofs.Common.{◌≡◌, ◌∙◌, ℕ, suc, ◌+◌, ◌≤◌, ◌||◌, Bool, true, false, cond, eqb, List, [], ◌∷◌, ◌++◌, map, length, sum_by, Option, Some, None, refl, sym, ap, subst, arith, append_assoc, append-nil}
use Rattle.std.specs.List.{list_any}
use Rattle.std.proofs.lemmas.Bool.{eq-eqb, false≢true}
use Rattle.std.proofs.Math.Bool.{or-false}
use Rattle.std.proofs.lemmas.List.{length-append}
use Rattle.std.proofs.lemmas.List.Folds.{list_any-append}
use Rattle.std.proofs.lemmas.List.Sums.{sum_by-cons}
use Rattle.std.proofs.lemmas.Grind.{flat_map-append}
use Rattle.octet_model.specs.declared.event.Event.{Event}
use Rattle.octet_model.specs.declared.event.Event.TheVariants as event
use Rattle.octet_model.specs.declared.log.Gapped.{Gapped}
use Rattle.octet_model.specs.Journals.{access_count, gap_after, gapped_marks}
use Rattle.octet_model.proofs.lemmas.Splits.{accesses_split, gap_split, length_parts, length-gapped_marks}
use Rattle.octet_digest.specs.Digests.{digest_of}
use Rattle.octet_marks.specs.declared.piece.Block.{Block}
use Rattle.octet_marks.specs.declared.piece.End.{End}
use Rattle.octet_marks.specs.declared.piece.Piece.{Piece}
use Rattle.octet_marks.specs.declared.piece.Piece.TheVariants as pieces
use Rattle.octet_marks.specs.Counts.{events_at, accesses_at, is_end_of}
use Rattle.octet_marks.specs.Standing.{accesses_in, events_in}
use Rattle.octet_stream.specs.declared.item.Item.{Item}
use Rattle.octet_stream.specs.declared.item.Item.TheVariants.{Marked, BlockEnd, ThreadEnd, BreaksOff}
use Rattle.octet_stream.specs.Items.{joined, items_of_block, items_of, items_of_end, marks_in, after_in, AreOf}
use Rattle.octet_stream.specs.Laws.{MarksJoin}
use Rattle.rtrb.specs.Ring.{received}
use Rattle.octet_blocks.specs.declared.writer.BlockWriter.{BlockWriter}
use Rattle.octet_blocks.specs.Items.{block_items, items_at, items_in}
use Rattle.octet_blocks.specs.Laws.{IsWhole}
use Rattle.octet_blocks.specs.Writing.{AreOfThread, HasWritten, held_items}
use Rattle.octet_blocks.proofs.Written.{own_block, own_end, sum_more}

-- ---- items that are told apart
-- two ways to part the same items into a block and others
record IsSameBlock (ms ns : List Gapped) (g h d e : ℕ) (more other : List Item) : Type 0 where
  marks : ms ≡ ns
  gap : g ≡ h
  digest : d ≡ e
  rest : more ≡ other

same_block : (ms ns : List Gapped) (g h d e : ℕ) (x y z w : List Item)
    → ((map (λ mark. Marked mark) ms ++ BlockEnd g d ∷ []) ++ x) ++ y ≡ ((map (λ mark. Marked mark) ns ++ BlockEnd h e ∷ []) ++ z) ++ w → IsSameBlock ms ns g h d e (x ++ y) (z ++ w)
same_block [] [] g h d e x y z w is = record { marks = refl; gap = cc; digest = cc; rest = cc }
same_block [] (n ∷ ns) g h d e x y z w is = absurd cc
same_block (m ∷ ms) [] g h d e x y z w is = absurd cc
same_block (m ∷ ms) (n ∷ ns) g h d e x y z w is =
    let first : m ≡ n = cc in
    let later = same_block ms ns g h d e x y z w cc in
    record { marks = λ i. first i ∷ later.marks i; gap = later.gap; digest = later.digest; rest = later.rest }

no_end_first : (ms : List Gapped) (g d : ℕ) (later z w : List Item) → ThreadEnd ∷ later ≡ ((map (λ mark. Marked mark) ms ++ BlockEnd g d ∷ []) ++ z) ++ w → ⊥
no_end_first [] g d later z w is = cc
no_end_first (m ∷ ms) g d later z w is = cc

no_block_last : (ms : List Gapped) (g d : ℕ) (x y : List Item) (ended : Bool) → ((map (λ mark. Marked mark) ms ++ BlockEnd g d ∷ []) ++ x) ++ y ≡ items_of_end ended → ⊥
no_block_last [] g d x y true is = cc
no_block_last [] g d x y false is = cc
no_block_last (m ∷ ms) g d x y true is = cc
no_block_last (m ∷ ms) g d x y false is = cc

end_last : (later : List Item) (ended : Bool) → ThreadEnd ∷ later ≡ items_of_end ended → (ended ≡ true) × (later ≡ [])
end_last later true is = (refl, cc)
end_last later false is = absurd cc

nothing_over : (ms : List Gapped) (held : Option Item) (rest : List Item) → (map (λ mark. Marked mark) ms ++ held_items held) ++ rest ≡ [] → (ms ≡ []) × (held ≡ None)
nothing_over [] None rest is = (refl, refl)
nothing_over [] (Some item) rest is = absurd cc
nothing_over (m ∷ ms) held rest is = absurd cc

-- ---- how many accesses and events a block has
block_accesses : (before : ℕ) (block : List Event) → before + access_count block ≡ sum_by (λ (m : Gapped). m.gap) (gapped_marks before block) + gap_after before block
block_accesses before [] = omega arith
block_accesses before (event.Marked mark ∷ block) =
    let more = block_accesses 0 block in
    let one = sum_by-cons (λ (m : Gapped). m.gap) (record { gap = before; mark = mark }) (gapped_marks 0 block) in
    omega arith
block_accesses before (access ∷ block) = let more = block_accesses (suc before) block in omega arith

same_accesses : (piece : Block) (block : List Event) → piece.marks ≡ gapped_marks 0 block → piece.gap ≡ gap_after 0 block → accesses_in piece ≡ access_count block
same_accesses piece block marks gap =
    let all = block_accesses 0 block in
    (λ i. sum_by (λ (m : Gapped). m.gap) (marks i) + gap i) ∙ omega arith

same_events : (piece : Block) (block : List Event) → piece.marks ≡ gapped_marks 0 block → piece.gap ≡ gap_after 0 block → events_in piece ≡ length block
same_events piece block marks gap = (λ i. same_accesses piece block marks gap i + (ap (λ (l : List Gapped). length l) marks ∙ length-gapped_marks 0 block) i) ∙ sym (length_parts block)

-- ---- pieces of a thread, and the blocks that its items came from
-- the pieces are the first of these blocks, and the thread's end if they have it. Then no item is left
record IsBegun (thread : ℕ) (all : List Piece) (earlier : List Event) (blocks : List (List Event)) (ended : Bool) (left_over : List Item) : Type 0 where
  whole : List (List Event)
  later : List (List Event)
  parts : blocks ≡ whole ++ later
  items : items_in thread all ≡ items_of earlier whole ++ items_of_end (list_any (is_end_of thread) all)
  events : sum_by (events_at thread) all ≡ length (joined whole)
  accesses : sum_by (accesses_at thread) all ≡ access_count (joined whole)
  last : list_any (is_end_of thread) all ≡ true → (later ≡ []) × (ended ≡ true) × (left_over ≡ [])

ends_here : (a b : Bool) → b ≡ true → (a || b) ≡ true
ends_here true b is = refl
ends_here false b is = is

-- nothing of the thread stands behind its end
none_behind : (thread : ℕ) (before all : List Piece) (end : End) → end.thread ≡ thread → AreOfThread thread (before ++ pieces.End end ∷ []) all → all ≡ []
none_behind thread before [] end own are = refl
none_behind thread before (piece ∷ all) end own are =
    let ends : list_any (is_end_of thread) (before ++ pieces.End end ∷ []) ≡ true = list_any-append (is_end_of thread) before (pieces.End end ∷ []) ∙ ends_here (list_any (is_end_of thread) before) (is_end_of thread (pieces.End end) || false) (or-false (is_end_of thread (pieces.End end)) ∙ eq-eqb end.thread thread own) in
    absurd (false≢true (sym are.0 ∙ ends))

begun : (thread : ℕ) (before all : List Piece) (earlier : List Event) (blocks : List (List Event)) (ended : Bool) (left_over : List Item) → AreOfThread thread before all
    → items_in thread all ++ left_over ≡ items_of earlier blocks ++ items_of_end ended → IsBegun thread all earlier blocks ended left_over
begun thread before [] earlier blocks ended left_over are is = record { whole = []; later = blocks; parts = refl; items = refl; events = refl; accesses = refl; last = λ yes. absurd (false≢true yes) }
begun thread before (pieces.Head head ∷ all) earlier blocks ended left_over are is = absurd are.1
begun thread before (pieces.Block block ∷ all) earlier [] ended left_over are is =
    absurd (no_block_last block.marks block.gap block.digest (items_in thread all) left_over ended (ap (λ (l : List Item). (l ++ items_in thread all) ++ left_over) (sym (own_block thread block are.1.0)) ∙ is))
begun thread before (pieces.Block block ∷ all) earlier (first ∷ blocks) ended left_over are is =
    let own = own_block thread block are.1.0 in
    let more = items_in thread all in
    let same = same_block block.marks (gapped_marks 0 first) block.gap (gap_after 0 first) block.digest (digest_of (earlier ++ first)) more left_over (items_of (earlier ++ first) blocks) (items_of_end ended) (ap (λ (l : List Item). (l ++ more) ++ left_over) (sym own) ∙ is) in
    let rest = begun thread (before ++ pieces.Block block ∷ []) all (earlier ++ first) blocks ended left_over are.2 same.rest in
    let ends = list_any (is_end_of thread) all in
    let here : block_items block ≡ items_of_block earlier first = λ i. map (λ mark. Marked mark) (same.marks i) ++ BlockEnd (same.gap i) (same.digest i) ∷ [] in
    let mine = eq-eqb block.thread thread are.1.0 in
    let events : events_at thread (pieces.Block block) ≡ length first = ap (λ b. cond b (events_in block) 0) mine ∙ same_events block first same.marks same.gap in
    let accesses : accesses_at thread (pieces.Block block) ≡ access_count first = ap (λ b. cond b (accesses_in block) 0) mine ∙ same_accesses block first same.marks same.gap in
    record {
      whole = first ∷ rest.whole;
      later = rest.later;
      parts = ap (λ (l : List (List Event)). first ∷ l) rest.parts;
      items = (λ i. (own ∙ here) i ++ rest.items i) ∙ sym (append_assoc (items_of_block earlier first) (items_of (earlier ++ first) rest.whole) (items_of_end ends));
      events = sum_by-cons (events_at thread) (pieces.Block block) all ∙ (λ i. events i + rest.events i) ∙ sym (length-append first (joined rest.whole));
      accesses = sum_by-cons (accesses_at thread) (pieces.Block block) all ∙ (λ i. accesses i + rest.accesses i) ∙ sym (accesses_split first (joined rest.whole));
      last = rest.last;
    }
begun thread before (pieces.End end ∷ all) earlier [] ended left_over are is =
    let own = own_end thread end are.1.0 in
    let none = none_behind thread before all end are.1.0 are.2 in
    let last = end_last (items_in thread all ++ left_over) ended (ap (λ (l : List Item). (l ++ items_in thread all) ++ left_over) (sym own) ∙ is) in
    let no_over : left_over ≡ [] = ap (λ (l : List Piece). items_in thread l ++ left_over) (sym none) ∙ last.1 in
    let ends : list_any (is_end_of thread) (pieces.End end ∷ all) ≡ true = ap (λ b. b || list_any (is_end_of thread) all) (eq-eqb end.thread thread are.1.0) in
    record {
      whole = [];
      later = [];
      parts = refl;
      items = ap (λ (l : List Piece). items_in thread (pieces.End end ∷ l)) none ∙ append-nil (items_at thread (pieces.End end)) ∙ own ∙ sym (ap items_of_end ends);
      events = ap (λ (l : List Piece). sum_by (events_at thread) (pieces.End end ∷ l)) none;
      accesses = ap (λ (l : List Piece). sum_by (accesses_at thread) (pieces.End end ∷ l)) none;
      last = λ yes. (refl, last.0, no_over);
    }
begun thread before (pieces.End end ∷ all) earlier (first ∷ blocks) ended left_over are is =
    absurd (no_end_first (gapped_marks 0 first) (gap_after 0 first) (digest_of (earlier ++ first)) (items_in thread all ++ left_over) (items_of (earlier ++ first) blocks) (items_of_end ended)
    (ap (λ (l : List Item). (l ++ items_in thread all) ++ left_over) (sym (own_end thread end are.1.0)) ∙ is))

joined_both : (one other : List (List Event)) → joined (one ++ other) ≡ joined one ++ joined other
joined_both one other = flat_map-append (λ block. block) one other

-- the first pieces of a thread are what its journal hands on, as far as they go. They have no more accesses than the journal
pub record IsFront (journal : List Event) (thread : ℕ) (all : List Piece) (left_over : List Item) : Type 0 where
  pub are : AreOf journal (sum_by (events_at thread) all) (list_any (is_end_of thread) all) (items_in thread all)
  pub short : sum_by (accesses_at thread) all ≤ access_count journal
  pub none_over : list_any (is_end_of thread) all ≡ true → left_over ≡ []

pub is_front : (journal : List Event) (base : ℕ) (ended : Bool) (thread : ℕ) (all : List Piece) (left_over : List Item) → AreOf journal base ended (items_in thread all ++ left_over) → AreOfThread thread [] all → IsFront journal thread all left_over
is_front journal base ended thread all left_over of are =
    let b = begun thread [] all [] of.blocks ended left_over are of.are in record {
      are = record {
        blocks = b.whole;
        left = joined b.later ++ of.left;
        cut = of.cut ∙ ap (λ (l : List (List Event)). joined l ++ of.left) b.parts ∙ ap (λ (l : List Event). l ++ of.left) (joined_both b.whole b.later) ∙ append_assoc (joined b.whole) (joined b.later) of.left;
        first = b.events;
        are = b.items;
        last = λ yes. let l = b.last yes in (λ i. joined (l.0 i) ++ of.last l.1 i);
      };
      short =
          let whole = ap access_count of.cut in
          let parts = ap (λ (l : List (List Event)). access_count (joined l)) b.parts in
          let both = ap access_count (joined_both b.whole b.later) in
          omega (arith, b.accesses, whole, parts, both, accesses_split (joined of.blocks) of.left, accesses_split (joined b.whole) (joined b.later));
      none_over = λ yes. (b.last yes).2;
    }

-- ---- what a writer has written
written_front : (journal : List Event) (base : ℕ) (ended : Bool) (later : List Item) (writer : BlockWriter) (all : List Piece) (given : List ℕ)
    → AreOf journal base ended (received writer.receiver.end ++ later) → HasWritten writer all given → IsFront journal writer.receiver.thread all ((map (λ mark. Marked mark) writer.marks.items ++ held_items writer.held) ++ later)
written_front journal base ended later writer all given of has =
    let thread = writer.receiver.thread in
    let left_over = map (λ mark. Marked mark) writer.marks.items ++ held_items writer.held in
    let items : received writer.receiver.end ++ later ≡ items_in thread all ++ (left_over ++ later) = ap (λ (l : List Item). l ++ later) has.items ∙ append_assoc (items_in thread all) left_over later in
    is_front journal base ended thread all (left_over ++ later) (subst (AreOf journal base ended) items of) has.of_thread

pub blocks_begin : (journal : List Event) (base : ℕ) (ended : Bool) (later : List Item) (writer : BlockWriter) (all : List Piece) (given : List ℕ)
    → AreOf journal base ended (received writer.receiver.end ++ later) → HasWritten writer all given → AreOf journal writer.events writer.has_ended (items_in writer.receiver.thread all)
blocks_begin journal base ended later writer all given of has =
    let front = written_front journal base ended later writer all given of has in
    subst (λ (n : ℕ). AreOf journal n writer.has_ended (items_in writer.receiver.thread all)) (sym has.events)
    (subst (λ b. AreOf journal (sum_by (events_at writer.receiver.thread) all) b (items_in writer.receiver.thread all)) (sym has.ended) front.are)

-- ---- what items tell, with others behind them that tell nothing
pub marks_alone : (last : List Item) → ((n : ℕ) → marks_in n last ≡ []) → (before : ℕ) (items : List Item) → marks_in before (items ++ last) ≡ marks_in before items
marks_alone last quiet before [] = quiet before
marks_alone last quiet before (Marked mark ∷ items) = ap (λ (l : List Gapped). record { gap = before + mark.gap; mark = mark.mark } ∷ l) (marks_alone last quiet 0 items)
marks_alone last quiet before (BlockEnd gap digest ∷ items) = marks_alone last quiet (before + gap) items
marks_alone last quiet before (ThreadEnd ∷ items) = marks_alone last quiet before items
marks_alone last quiet before (BreaksOff ∷ items) = marks_alone last quiet before items

after_block : (last : List Item) (before since : ℕ) (block : List Event) (digest : ℕ)
    → after_in before ((map (λ mark. Marked mark) (gapped_marks since block) ++ BlockEnd (gap_after since block) digest ∷ []) ++ last) ≡ after_in (gap_after (before + since) block) last
after_block last before since [] digest = refl
after_block last before since (event.Marked mark ∷ block) digest = after_block last 0 0 block digest
after_block last before since (access ∷ block) digest =
    let next : before + suc since ≡ suc (before + since) = omega arith in
    after_block last before (suc since) block digest ∙ ap (λ (n : ℕ). after_in (gap_after n block) last) next

pub after_blocks : (last : List Item) (before : ℕ) (earlier : List Event) (blocks : List (List Event)) → after_in before (items_of earlier blocks ++ last) ≡ after_in (gap_after before (joined blocks)) last
after_blocks last before earlier [] = refl
after_blocks last before earlier (block ∷ blocks) =
    let rest = items_of (earlier ++ block) blocks in
    let same : before + 0 ≡ before = omega arith in
    ap (λ (l : List Item). after_in before l) (append_assoc (items_of_block earlier block) rest last)
    ∙ (after_block (rest ++ last) before 0 block (digest_of (earlier ++ block))
    ∙ (ap (λ (n : ℕ). after_in (gap_after n block) (rest ++ last)) same
    ∙ (after_blocks last (gap_after before block) (earlier ++ block) blocks
    ∙ ap (λ (n : ℕ). after_in n last) (sym (gap_split before block (joined blocks))))))

-- ---- the blocks of a thread that has ended
-- the thread's end is the last of its pieces
record HasLast (thread : ℕ) (before all : List Piece) : Type 0 where
  front : List Piece
  last : all ≡ front ++ pieces.End (record { thread = thread; events = sum_by (events_at thread) (before ++ front) }) ∷ []

end_is_last : (thread : ℕ) (before all : List Piece) → AreOfThread thread before all → list_any (is_end_of thread) all ≡ true → HasLast thread before all
end_is_last thread before [] are ends = absurd (false≢true ends)
end_is_last thread before (pieces.Head head ∷ all) are ends = absurd are.1
end_is_last thread before (pieces.Block block ∷ all) are ends =
    let more = end_is_last thread (before ++ pieces.Block block ∷ []) all are.2 ends in record {
      front = pieces.Block block ∷ more.front;
      last = (λ i. pieces.Block block ∷ more.last i)
          ∙ ap (λ (l : List Piece). pieces.Block block ∷ (more.front ++ pieces.End (record { thread = thread; events = sum_by (events_at thread) l }) ∷ [])) (append_assoc before (pieces.Block block ∷ []) more.front);
    }
end_is_last thread before (pieces.End end ∷ all) are ends = record {
  front = [];
  last = (λ i. pieces.End (record { thread = are.1.0 i; events = are.1.1 i }) ∷ none_behind thread before all end are.1.0 are.2 i)
      ∙ ap (λ (l : List Piece). pieces.End (record { thread = thread; events = sum_by (events_at thread) l }) ∷ []) (sym (append-nil before));
}

pub blocks_are : MarksJoin → (journal : List Event) (base : ℕ) (ended : Bool) (later : List Item) (writer : BlockWriter) (all : List Piece) (given : List ℕ)
    → AreOf journal base ended (received writer.receiver.end ++ later) → HasWritten writer all given → writer.has_ended ≡ true → IsWhole journal writer all
blocks_are marks_join journal base ended later writer all given of has ends =
    let thread = writer.receiver.thread in
    let front = written_front journal base ended later writer all given of has in
    let has_end : list_any (is_end_of thread) all ≡ true = sym has.ended ∙ ends in
    let left_over = nothing_over writer.marks.items writer.held later (front.none_over has_end) in
    let are = front.are in
    let whole : journal ≡ joined are.blocks = are.cut ∙ ap (λ (l : List Event). joined are.blocks ++ l) (are.last has_end) ∙ append-nil (joined are.blocks) in
    let items : items_in thread all ≡ items_of [] are.blocks ++ ThreadEnd ∷ [] = are.are ∙ ap (λ b. items_of [] are.blocks ++ items_of_end b) has_end in
    let end = end_is_last thread [] all has.of_thread has_end in
    let count : sum_by (events_at thread) end.front ≡ length journal =
    omega (arith, sum_more (events_at thread) end.front (pieces.End (record { thread = thread; events = sum_by (events_at thread) end.front })), ap (λ (l : List Piece). sum_by (events_at thread) l) end.last, are.first, ap (λ (l : List Event). length l) whole) in
    record {
      no_marks = left_over.0;
      none_held = left_over.1;
      front = end.front;
      last = end.last ∙ ap (λ (n : ℕ). end.front ++ pieces.End (record { thread = thread; events = n }) ∷ []) count;
      marks = ap (λ (l : List Item). marks_in 0 l) items ∙ marks_alone (ThreadEnd ∷ []) (λ n. refl) 0 (items_of [] are.blocks) ∙ marks_join are.blocks ∙ ap (λ (l : List Event). gapped_marks 0 l) (sym whole);
      after = ap (λ (l : List Item). after_in 0 l) items ∙ after_blocks (ThreadEnd ∷ []) 0 [] are.blocks ∙ ap (λ (l : List Event). gap_after 0 l) (sym whole);
    }

-- ---- an end that has come
abbrev ends_thread : Item → Bool
ends_thread (Marked mark) = false
ends_thread (BlockEnd gap digest) = false
ends_thread ThreadEnd = true
ends_thread BreaksOff = false

marks_end_none : (marks : List Gapped) → list_any ends_thread (map (λ mark. Marked mark) marks) ≡ false
marks_end_none [] = refl
marks_end_none (mark ∷ marks) = marks_end_none marks

block_ends_none : (own : Bool) (block : Block) → list_any ends_thread (cond own (block_items block) []) ≡ false
block_ends_none true block =
    list_any-append ends_thread (map (λ mark. Marked mark) block.marks) (BlockEnd block.gap block.digest ∷ []) ∙ ap (λ b. b || false) (marks_end_none block.marks)
block_ends_none false block = refl

end_ends : (own : Bool) → list_any ends_thread (cond own (ThreadEnd ∷ []) []) ≡ own
end_ends true = refl
end_ends false = refl

ends_in : (thread : ℕ) (all : List Piece) → list_any ends_thread (items_in thread all) ≡ list_any (is_end_of thread) all
ends_in thread [] = refl
ends_in thread (pieces.Head head ∷ all) = ends_in thread all
ends_in thread (pieces.Block block ∷ all) =
    list_any-append ends_thread (items_at thread (pieces.Block block)) (items_in thread all) ∙ (λ i. block_ends_none (eqb block.thread thread) block i || ends_in thread all i)
ends_in thread (pieces.End end ∷ all) =
    list_any-append ends_thread (items_at thread (pieces.End end)) (items_in thread all) ∙ (λ i. end_ends (eqb end.thread thread) i || ends_in thread all i)

pub end_is_written : (journal : List Event) (base : ℕ) (writer : BlockWriter) (all : List Piece) (given : List ℕ) → AreOf journal base true (received writer.receiver.end) → HasWritten writer all given → writer.held ≡ None → writer.has_ended ≡ true
end_is_written journal base writer all given of has none =
    let thread = writer.receiver.thread in
    let marks = map (λ mark. Marked mark) writer.marks.items in
    let items : received writer.receiver.end ≡ items_in thread all ++ marks = has.items ∙ ap (λ o. items_in thread all ++ (marks ++ held_items o)) none ∙ ap (λ (l : List Item). items_in thread all ++ l) (append-nil marks) in
    let come : list_any ends_thread (received writer.receiver.end) ≡ true =
    ap (λ (l : List Item). list_any ends_thread l) of.are ∙ list_any-append ends_thread (items_of [] of.blocks) (ThreadEnd ∷ []) ∙ ends_here (list_any ends_thread (items_of [] of.blocks)) true refl in
    let written : list_any ends_thread (received writer.receiver.end) ≡ list_any (is_end_of thread) all =
    ap (λ (l : List Item). list_any ends_thread l) items ∙ list_any-append ends_thread (items_in thread all) marks ∙ (λ i. ends_in thread all i || marks_end_none writer.marks.items i) ∙ or-false (list_any (is_end_of thread) all) in
    has.ended ∙ sym written ∙ come
