-- What writers make of journals stands behind a head as a file has it, and gives each thread its journal.
use Rattle.std.proofs.Common.{◌≡◌, ◌∙◌, ℕ, ◌+◌, ◌<◌, ◌≤◌, ◌&&◌, Bool, true, false, cond, eqb, List, [], ◌∷◌, ◌++◌, map, length, sum_by, Err, inl, inr, refl, sym, ap, subst, arith, append_assoc, append-nil}
use Rattle.std.specs.List.{AllByRecursion, flat_map, list_all, list_any}
use Rattle.std.proofs.lemmas.List.{length-append}
use Rattle.std.proofs.lemmas.List.Elements.{filter-append}
use Rattle.std.proofs.lemmas.List.Folds.{list_all-append}
use Rattle.std.proofs.lemmas.Grind.{flat_map-append}
use Rattle.rtrb.specs.Ring.{sent, received}
use Rattle.octet_model.specs.declared.event.Event.{Event}
use Rattle.octet_model.specs.declared.log.Gapped.{Gapped}
use Rattle.octet_model.specs.Journals.{gap_after, gapped_marks}
use Rattle.octet_model.specs.Log.{is_mark}
use Rattle.octet_model.specs.Machine.{Journals, journal_of}
use Rattle.octet_model.proofs.lemmas.Splits.{gapped_marks_split}
use Rattle.octet_log.proofs.Valid.{and_first, and_second}
use Rattle.octet_follow.specs.Blocks as again
use Rattle.octet_follow.specs.Calls.{given, given_after}
use Rattle.octet_marks.specs.declared.cause.MarksCause.{MarksCause}
use Rattle.octet_marks.specs.declared.piece.Head.{Head}
use Rattle.octet_marks.specs.declared.piece.Piece.{Piece}
use Rattle.octet_marks.specs.declared.piece.Piece.TheVariants as pieces
use Rattle.octet_marks.specs.Counts.{events_at, accesses_at, is_end_of}
use Rattle.octet_marks.specs.Files.{Unread, unread_of}
use Rattle.octet_marks.specs.Reading.{Read, piece_bytes}
use Rattle.octet_stream.specs.declared.item.Item.{Item}
use Rattle.octet_stream.specs.declared.item.Item.TheVariants.{Marked, BlockEnd, ThreadEnd}
use Rattle.octet_stream.specs.declared.long_follower.LongFollower.{LongFollower}
use Rattle.octet_stream.specs.declared.long_rerun.LongRerun.{LongRerun}
use Rattle.octet_stream.specs.Followers.{IsLongFollowerOf}
use Rattle.octet_stream.specs.Items.{joined, items_of, items_of_end, marks_in, after_in, AreOf}
use Rattle.octet_stream.specs.Laws.{MarksJoin}
use Rattle.octet_blocks.specs.declared.reader.BlockReader.{BlockReader}
use Rattle.octet_blocks.specs.Files.{is_of, pieces_of, IsOfOne, HasItsMarks, AreBehind, file_bytes, IsWrittenIn, KeepsLimits, AreWrittenOf}
use Rattle.octet_blocks.specs.Items.{items_at, items_in}
use Rattle.octet_blocks.specs.Laws.{WrittenStandsBehind, FileIsNeverRefused, RecordingIsFollowed, GoesOn, IsReadOf, IsGiven, IsToldOf}
use Rattle.octet_blocks.specs.Reading.{HasFed, HasNoNext, HasOtherHead, ReadsTo, waiting_items, break_items}
use Rattle.octet_blocks.specs.Writing.{AreOfThread, held_items}
use Rattle.octet_blocks.proofs.Written.{own_block}
use Rattle.octet_blocks.proofs.Journals.{IsFront, is_front, marks_alone, after_blocks}
use Rattle.octet_blocks.proofs.Files.{found, some_is_not_none}
use Rattle.octet_blocks.proofs.Own.{events_kept, accesses_kept, ends_kept, items_kept, of_thread_front, each_piece}

-- ---- the marks of pieces are those of a journal
module _ (threads thread : ℕ) where
  abbrev Valid : List Gapped → Bool
  Valid marks = list_all (λ m. is_mark threads thread m.mark) marks

  -- marks keep their kind, whatever stands before and behind them
  block_valid : (before : ℕ) (marks : List Gapped) (gap digest : ℕ) (later : List Item) → Valid (marks_in before ((map (λ mark. Marked mark) marks ++ BlockEnd gap digest ∷ []) ++ later)) ≡ true
      → (Valid marks ≡ true) × (next : ℕ) × (Valid (marks_in next later) ≡ true)
  block_valid before [] gap digest later valid = (refl, before + gap, valid)
  block_valid before (m ∷ marks) gap digest later valid =
      let first = is_mark threads thread m.mark in
      let others = Valid (marks_in 0 ((map (λ mark. Marked mark) marks ++ BlockEnd gap digest ∷ []) ++ later)) in
      let rest = block_valid 0 marks gap digest later (and_second first others valid) in
      (ap (λ b. b && Valid marks) (and_first first others valid) ∙ rest.0, rest.1, rest.2)

  pieces_valid : (n : ℕ) (before all : List Piece) → AreOfThread thread before all → Valid (marks_in n (items_in thread all)) ≡ true → AllByRecursion (HasItsMarks threads) all
  pieces_valid n before [] are valid = tt
  pieces_valid n before (pieces.Head head ∷ all) are valid = absurd are.1
  pieces_valid n before (pieces.Block block ∷ all) are valid =
      let own = own_block thread block are.1.0 in
      let b = block_valid n block.marks block.gap block.digest (items_in thread all) (ap (λ (l : List Item). Valid (marks_in n (l ++ items_in thread all))) (sym own) ∙ valid) in
      (subst (λ (t : ℕ). list_all (λ m. is_mark threads t m.mark) block.marks ≡ true) (sym are.1.0) b.0, pieces_valid b.1 (before ++ pieces.Block block ∷ []) all are.2 b.2)
  pieces_valid n before (pieces.End end ∷ all) are valid = (tt, pieces_valid n (before ++ pieces.End end ∷ []) all are.2 (end_valid n (items_in thread all) (eqb end.thread thread) valid))
    where
      end_valid : (n : ℕ) (later : List Item) (own : Bool) → Valid (marks_in n (cond own (ThreadEnd ∷ []) [] ++ later)) ≡ true → Valid (marks_in n later) ≡ true
      end_valid n later true valid = valid
      end_valid n later false valid = valid

-- ---- items that tell nothing of marks
quiet : (ended over has_ended : Bool) (n : ℕ) → (marks_in n (items_of_end ended ++ break_items over has_ended) ≡ []) × (after_in n (items_of_end ended ++ break_items over has_ended) ≡ n)
quiet true true true n = (refl, refl)
quiet true true false n = (refl, refl)
quiet true false has_ended n = (refl, refl)
quiet false true true n = (refl, refl)
quiet false true false n = (refl, refl)
quiet false false has_ended n = (refl, refl)

-- what the items of a journal tell, whatever says that they end
told_marks : MarksJoin → (blocks : List (List Event)) (ended over has_ended : Bool) → marks_in 0 ((items_of [] blocks ++ items_of_end ended) ++ break_items over has_ended) ≡ gapped_marks 0 (joined blocks)
told_marks marks_join blocks ended over has_ended =
    let last = items_of_end ended ++ break_items over has_ended in
    ap (λ (l : List Item). marks_in 0 l) (append_assoc (items_of [] blocks) (items_of_end ended) (break_items over has_ended))
    ∙ (marks_alone last (λ n. (quiet ended over has_ended n).0) 0 (items_of [] blocks) ∙ marks_join blocks)

told_after : (blocks : List (List Event)) (ended over has_ended : Bool) → after_in 0 ((items_of [] blocks ++ items_of_end ended) ++ break_items over has_ended) ≡ gap_after 0 (joined blocks)
told_after blocks ended over has_ended =
    let last = items_of_end ended ++ break_items over has_ended in
    ap (λ (l : List Item). after_in 0 l) (append_assoc (items_of [] blocks) (items_of_end ended) (break_items over has_ended))
    ∙ (after_blocks last 0 [] blocks ∙ (quiet ended over has_ended (gap_after 0 (joined blocks))).1)

-- ---- what writers have made
handed_in : (all : List Piece) (thread : ℕ) (journal : List Event) (is : IsWrittenIn all thread journal) → AreOf journal is.base is.ended (items_in thread all ++ ((map (λ mark. Marked mark) is.writer.marks.items ++ held_items is.writer.held) ++ is.later))
handed_in all thread journal is =
    let left_over = map (λ mark. Marked mark) is.writer.marks.items ++ held_items is.writer.held in
    let items : received is.writer.receiver.end ++ is.later ≡ items_in thread all ++ (left_over ++ is.later) =
    ap (λ (l : List Item). l ++ is.later) (is.written.items ∙ (λ i. items_in (is.own i) (pieces_of thread all) ++ left_over) ∙ ap (λ (l : List Item). l ++ left_over) (items_kept thread all)) ∙ append_assoc (items_in thread all) left_over is.later in
    subst (AreOf journal is.base is.ended) items is.handed

in_order : (all : List Piece) (thread : ℕ) (journal : List Event) → IsWrittenIn all thread journal → AreOfThread thread [] (pieces_of thread all)
in_order all thread journal is = subst (λ (t : ℕ). AreOfThread t [] (pieces_of thread all)) is.own is.written.of_thread

-- the first pieces of a file have of a thread what its journal hands on, as far as they go
front_of : (all front rest : List Piece) (thread : ℕ) (journal : List Event) → IsWrittenIn all thread journal → all ≡ front ++ rest → (left_over : List Item) × IsFront journal thread (pieces_of thread front) left_over
front_of all front rest thread journal is parts =
    let handed = handed_in all thread journal is in
    let left_over = (map (λ mark. Marked mark) is.writer.marks.items ++ held_items is.writer.held) ++ is.later in
    let behind = items_in thread rest ++ left_over in
    let items : items_in thread all ++ left_over ≡ items_in thread (pieces_of thread front) ++ behind =
    ap (λ (l : List Piece). items_in thread l ++ left_over) parts ∙ ap (λ (l : List Item). l ++ left_over) (flat_map-append (items_at thread) front rest) ∙ append_assoc (items_in thread front) (items_in thread rest) left_over
    ∙ ap (λ (l : List Item). l ++ behind) (sym (items_kept thread front)) in
    let own : pieces_of thread all ≡ pieces_of thread front ++ pieces_of thread rest = ap (pieces_of thread) parts ∙ filter-append (is_of thread) front rest in
    let order = of_thread_front thread [] (pieces_of thread front) (pieces_of thread rest) (subst (AreOfThread thread []) own (in_order all thread journal is)) in
    (behind, is_front journal is.base is.ended thread (pieces_of thread front) behind (subst (AreOf journal is.base is.ended) items handed) order)

written_marks : MarksJoin → (threads : ℕ) (all : List Piece) (thread : ℕ) (journal : List Event) → IsWrittenIn all thread journal → KeepsLimits threads thread journal → AllByRecursion (HasItsMarks threads) (pieces_of thread all)
written_marks marks_join threads all thread journal is of =
    let own = pieces_of thread all in
    let are = (front_of all all [] thread journal is (sym (append-nil all))).1.are in
    let test = λ (m : Gapped). is_mark threads thread m.mark in
    let told : marks_in 0 (items_in thread own) ≡ gapped_marks 0 (joined are.blocks) =
    ap (λ (l : List Item). marks_in 0 l) (are.are ∙ sym (append-nil (items_of [] are.blocks ++ items_of_end (list_any (is_end_of thread) own)))) ∙ told_marks marks_join are.blocks (list_any (is_end_of thread) own) false false in
    let parts : gapped_marks 0 journal ≡ gapped_marks 0 (joined are.blocks) ++ gapped_marks (gap_after 0 (joined are.blocks)) are.left =
    ap (gapped_marks 0) are.cut ∙ gapped_marks_split 0 (joined are.blocks) are.left in
    let valid : list_all test (gapped_marks 0 (joined are.blocks)) ≡ true =
    and_first (list_all test (gapped_marks 0 (joined are.blocks))) (list_all test (gapped_marks (gap_after 0 (joined are.blocks)) are.left))
    (sym (list_all-append test (gapped_marks 0 (joined are.blocks)) (gapped_marks (gap_after 0 (joined are.blocks)) are.left)) ∙ ap (list_all test) (sym parts) ∙ of.marks) in
    pieces_valid threads thread 0 [] own (in_order all thread journal is) (ap (list_all test) told ∙ valid)

written_short : (all : List Piece) (thread : ℕ) (journal : List Event) (threads : ℕ) → IsWrittenIn all thread journal → KeepsLimits threads thread journal → sum_by (accesses_at thread) all ≤ 4398046511104
written_short all thread journal threads is of =
    let front = (front_of all all [] thread journal is (sym (append-nil all))).1 in
    omega (arith, front.short, of.short, accesses_kept thread all)

pub written_stands : MarksJoin → WrittenStandsBehind
written_stands marks_join head all journals are = record {
  head_is = are.head_is;
  of_one = are.of_one;
  in_order = λ thread within. in_order all thread (journal_of journals thread) (are.written thread within);
  marks = each_piece (HasItsMarks head.threads) head.threads all are.of_one (λ thread within. written_marks marks_join head.threads all thread (journal_of journals thread) (are.written thread within) (are.limits thread within));
  short = λ thread within. written_short all thread (journal_of journals thread) head.threads (are.written thread within) (are.limits thread within);
}

-- ---- what a reader gives
some_is_not_cause : (read : Read) (cause : MarksCause) → found read ≡ Err cause → ⊥
some_is_not_cause read cause is = cc

-- where no piece comes next and all was fed, all was read
none_later : (later : List Piece) (unread : Unread) → HasNoNext unread → flat_map piece_bytes later ≡ unread.bytes ++ [] → GoesOn later unread → later ≡ []
none_later [] unread no_next left next = refl
none_later (piece ∷ later) unread no_next left (inr cut) = absurd (omega (arith, cut.0, ap (λ (l : List ℕ). length l) (left ∙ append-nil unread.bytes), length-append (piece_bytes piece) (flat_map piece_bytes later)))
none_later (piece ∷ later) unread no_next left (inl found) = elim no_next [
  | inl none ↦ absurd (some_is_not_none found.1.read (sym found.1.is ∙ none))
  | inr refused ↦ absurd (some_is_not_cause found.1.read refused.0 (sym found.1.is ∙ refused.1))
]

-- no head stands behind the first
no_head : (threads : ℕ) (all front : List Piece) (head : Head) (later : List Piece) → AllByRecursion (IsOfOne threads) all → all ≡ (front ++ pieces.Head head ∷ []) ++ later → ⊥
no_head threads [] [] head later of_one is = cc
no_head threads [] (x ∷ front) head later of_one is = cc
no_head threads (piece ∷ all) [] head later of_one is = let same : piece ≡ pieces.Head head = cc in subst (IsOfOne threads) same of_one.0
no_head threads (piece ∷ all) (x ∷ front) head later of_one is = no_head threads all front head later of_one.1 cc

no_other_head : (head : Head) (all read later : List Piece) → AllByRecursion (IsOfOne head.threads) all → pieces.Head head ∷ all ≡ read ++ later → HasOtherHead head read → ⊥
no_other_head head all read later of_one parts other = first other.front (parts ∙ ap (λ (l : List Piece). l ++ later) other.last)
  where
    first : (front : List Piece) → pieces.Head head ∷ all ≡ (front ++ pieces.Head other.head ∷ []) ++ later → ⊥
    first [] is = let same : other.head ≡ head = cc in other.other same
    first (x ∷ front) is = no_head head.threads all front other.head later of_one cc

all_read : (head : Head) (all read : List Piece) (unread : Unread) (other : Bool) → AreBehind head all → IsReadOf (pieces.Head head ∷ all) read unread [] → ReadsTo head other true read unread → read ≡ pieces.Head head ∷ all
all_read head all read unread true behind of reads = absurd (no_other_head head all read of.later behind.of_one of.parts reads)
all_read head all read unread false behind of reads =
    let none = none_later of.later unread reads.1 of.left of.next in
    sym (of.parts ∙ ap (λ (l : List Piece). read ++ l) none ∙ append-nil read)

-- the head is nothing to a thread
front_behind : (head : Head) (all read later : List Piece) (thread : ℕ) (journal : List Event) → IsWrittenIn all thread journal → pieces.Head head ∷ all ≡ read ++ later → (left_over : List Item) × IsFront journal thread (pieces_of thread read) left_over
front_behind head all [] later thread journal is parts = front_of all [] all thread journal is refl
front_behind head all (piece ∷ read) later thread journal is parts =
    let same : pieces.Head head ≡ piece = cc in
    let front = front_of all read later thread journal is cc in
    (front.0, subst (λ (p : Piece). IsFront journal thread (pieces_of thread (p ∷ read)) front.0) same front.1)

pub reader_gives : WrittenStandsBehind → FileIsNeverRefused → (head : Head) (all : List Piece) (journals : Journals) (fed rest : List ℕ) (reader : BlockReader) (read : List Piece) → AreWrittenOf head all journals
    → file_bytes head all ≡ fed ++ rest → HasFed head reader fed read → reader.feeder.thread < head.threads → reader.is_over ≡ true → waiting_items reader.waiting ≡ []
    → IsGiven (journal_of journals reader.feeder.thread) reader read × (rest ≡ [] → read ≡ pieces.Head head ∷ all)
reader_gives stands refuses_none head all journals fed rest reader read are bytes has within over nothing =
    let thread = reader.feeder.thread in
    let journal = journal_of journals thread in
    let behind = stands head all journals are in
    let of = refuses_none head all fed rest read (unread_of reader.reader) behind bytes has.read in
    let front = (front_behind head all read of.later thread journal (are.written thread within) of.parts).1 in
    let items : AreOf journal (sum_by (events_at thread) read) (list_any (is_end_of thread) read) (items_in thread read) =
    subst (λ (n : ℕ). AreOf journal n (list_any (is_end_of thread) read) (items_in thread read)) (events_kept thread read)
    (subst (λ b. AreOf journal (sum_by (events_at thread) (pieces_of thread read)) b (items_in thread read)) (ends_kept thread read)
    (subst (AreOf journal (sum_by (events_at thread) (pieces_of thread read)) (list_any (is_end_of thread) (pieces_of thread read))) (items_kept thread read) front.are)) in (
      record {
        items = subst (λ b. AreOf journal (sum_by (events_at thread) read) b (items_in thread read)) (sym has.ended) items;
        sent_all = sym (append-nil (sent reader.feeder.end)) ∙ ap (λ (l : List Item). sent reader.feeder.end ++ l) (sym nothing) ∙ has.items ∙ ap (λ b. items_in thread read ++ break_items b reader.has_ended) over;
      },
      λ whole. all_read head all read (unread_of reader.reader) reader.is_other behind (subst (λ (l : List ℕ). IsReadOf (pieces.Head head ∷ all) read (unread_of reader.reader) l) whole of)
          (subst (λ b. ReadsTo head reader.is_other b read (unread_of reader.reader)) over has.reads),
    )

-- ---- what a follower is told
pub follower_told : MarksJoin → (journal : List Event) (reader : BlockReader) (read : List Piece) (rerun : LongRerun) (thread : LongFollower) → IsGiven journal reader read
    → IsLongFollowerOf rerun thread → received thread.feed ≡ sent reader.feeder.end → thread.marks.items ≡ [] → IsToldOf journal (sum_by (events_at reader.feeder.thread) read) reader.has_ended thread
follower_told marks_join journal reader read rerun thread is own all none =
    let of = is.items in
    let fed = own.fed in
    let ended = reader.has_ended in
    let after = given_after thread.follower in
    let items : received thread.feed ≡ (items_of [] of.blocks ++ items_of_end ended) ++ break_items true ended = all ∙ is.sent_all ∙ ap (λ (l : List Item). l ++ break_items true ended) of.are in
    let no_more : given thread.follower ++ again.lengthened after thread.marks.items ≡ given thread.follower =
    ap (λ (l : List Gapped). given thread.follower ++ again.lengthened after l) none ∙ append-nil (given thread.follower) in
    let none_after : again.carried after thread.marks.items 0 ≡ after = ap (λ (l : List Gapped). again.carried after l 0) none ∙ omega arith in
    record {
      told = joined of.blocks;
      left = of.left;
      parts = of.cut;
      count = of.first;
      whole = λ yes. sym (of.cut ∙ ap (λ (l : List Event). joined of.blocks ++ l) (of.last yes) ∙ append-nil (joined of.blocks));
      is_told = record {
        marks = sym no_more ∙ (sym fed.told ∙ (ap (λ (l : List Item). marks_in 0 l) items ∙ told_marks marks_join of.blocks ended true ended));
        after = sym none_after ∙ (sym fed.after ∙ (ap (λ (l : List Item). after_in 0 l) items ∙ told_after of.blocks ended true ended));
      };
    }

-- a whole file has the end of a thread whose writer has it
end_read : (head : Head) (all read : List Piece) (thread : ℕ) (journal : List Event) (is : IsWrittenIn all thread journal) → read ≡ pieces.Head head ∷ all → is.writer.has_ended ≡ true → list_any (is_end_of thread) read ≡ true
end_read head all read thread journal is whole ended =
    ap (list_any (is_end_of thread)) whole ∙ sym (ends_kept thread all) ∙ ap (λ (t : ℕ). list_any (is_end_of t) (pieces_of thread all)) (sym is.own) ∙ sym is.written.ended ∙ ended

pub recording_followed : MarksJoin → WrittenStandsBehind → FileIsNeverRefused → RecordingIsFollowed
recording_followed marks_join stands refuses_none head all journals are reader read rerun thread within ended has over nothing own received_all none =
    let number = reader.feeder.thread in
    let journal = journal_of journals number in
    let gives = reader_gives stands refuses_none head all journals (file_bytes head all) [] reader read are (sym (append-nil (file_bytes head all))) has within over nothing in
    let told = follower_told marks_join journal reader read rerun thread gives.0 own received_all none in
    let has_end : reader.has_ended ≡ true = has.ended ∙ end_read head all read number journal (are.written number within) (gives.1 refl) ended in
    subst (λ (l : List Event). again.IsTold l thread.follower) (told.whole has_end) told.is_told
