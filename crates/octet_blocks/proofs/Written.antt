-- What a thread hands on becomes blocks, item by item.
use Rattle.std.proofs.Common.{◌≡◌, ◌∙◌, ℕ, ◌+◌, ◌||◌, IfSome, IfNone, true, false, cond, List, [], ◌∷◌, ◌++◌, map, length, Option, Some, None, refl, sym, ap, subst, arith, sum_by, append_assoc, append-nil}
use Rattle.std.specs.List.{flat_map, list_any}
use Rattle.std.proofs.lemmas.Bool.{eq-eqb}
use Rattle.std.proofs.Math.Bool.{or-false}
use Rattle.std.proofs.lemmas.Grind.{flat_map-append}
use Rattle.std.proofs.lemmas.List.Folds.{list_any-append}
use Rattle.std.proofs.lemmas.List.Sums.{sum_by-append}
use Rattle.rtrb.specs.Ring.{received, known_items, SameConsumer}
use Rattle.octet_model.specs.declared.log.Gapped.{Gapped}
use Rattle.octet_marks.specs.declared.piece.Block.{Block}
use Rattle.octet_marks.specs.declared.piece.End.{End}
use Rattle.octet_marks.specs.declared.piece.Piece.{Piece}
use Rattle.octet_marks.specs.declared.piece.Piece.TheVariants as pieces
use Rattle.octet_marks.specs.Counts.{events_at, is_end_of}
use Rattle.octet_marks.specs.Reading.{piece_bytes}
use Rattle.octet_marks.specs.Standing.{events_in}
use Rattle.octet_stream.specs.declared.item.Item.{Item}
use Rattle.octet_stream.specs.declared.receiver.Receiver.{Receiver}
use Rattle.octet_stream.specs.declared.item.Item.TheVariants.{Marked, BlockEnd, ThreadEnd}
use Rattle.octet_blocks.specs.declared.writer.BlockWriter.{BlockWriter}
use Rattle.octet_blocks.specs.Items.{block_items, items_at, items_in}
use Rattle.octet_blocks.specs.Writing.{Fits, StandsBehind, AreOfThread, held_items, HasWritten, SameWriter, KeepsBlock, Gathers, known_of}

-- one more piece of the thread
of_thread_more : (thread : ℕ) (before all : List Piece) (piece : Piece) → AreOfThread thread before all → list_any (is_end_of thread) (before ++ all) ≡ false → StandsBehind thread (before ++ all) piece
    → AreOfThread thread before (all ++ piece ∷ [])
of_thread_more thread before [] piece are goes_on stands =
    (subst (λ (l : List Piece). list_any (is_end_of thread) l ≡ false) (append-nil before) goes_on, subst (λ (l : List Piece). StandsBehind thread l piece) (append-nil before) stands, tt)
of_thread_more thread before (x ∷ all) piece are goes_on stands =
    let same : before ++ x ∷ all ≡ (before ++ x ∷ []) ++ all = sym (append_assoc before (x ∷ []) all) in
    (are.0, are.1, of_thread_more thread (before ++ x ∷ []) all piece are.2 (subst (λ (l : List Piece). list_any (is_end_of thread) l ≡ false) same goes_on) (subst (λ (l : List Piece). StandsBehind thread l piece) same stands))

-- one more piece, of all
more_of : {A : Type 0} (f : Piece → List A) (all : List Piece) (piece : Piece) → flat_map f (all ++ piece ∷ []) ≡ flat_map f all ++ f piece
more_of f all piece = flat_map-append f all (piece ∷ []) ∙ ap (λ l. flat_map f all ++ l) (append-nil (f piece))

pub sum_more : (f : Piece → ℕ) (all : List Piece) (piece : Piece) → sum_by f (all ++ piece ∷ []) ≡ sum_by f all + f piece
sum_more f all piece = sum_by-append f all (piece ∷ []) ∙ omega (arith)

pub own_block : (thread : ℕ) (block : Block) → block.thread ≡ thread → items_at thread (pieces.Block block) ≡ block_items block
own_block thread block is = ap (λ b. cond b (block_items block) []) (eq-eqb block.thread thread is)

pub own_end : (thread : ℕ) (end : End) → end.thread ≡ thread → items_at thread (pieces.End end) ≡ ThreadEnd ∷ []
own_end thread end is = ap (λ b. cond b (ThreadEnd ∷ []) []) (eq-eqb end.thread thread is)

-- ---- the same thread, by the same ring
same_on : (a b c : BlockWriter) → SameWriter a b → SameWriter b c → SameWriter a c
same_on a b c one other = record { thread = other.thread ∙ one.thread; ring = ((other.ring.0.0 ∙ one.ring.0.0, other.ring.0.1 ∙ one.ring.0.1, other.ring.0.2 ∙ one.ring.0.2, other.ring.0.3 ∙ one.ring.0.3), other.ring.1 ∙ one.ring.1) }

same_receiver : (one other : Receiver) → other ≡ one → (other.thread ≡ one.thread) × SameConsumer one.end other.end
same_receiver one other is = subst (λ (r : Receiver). (r.thread ≡ one.thread) × SameConsumer one.end r.end) (sym is) (refl, ((refl, refl, refl, refl), refl))

same_none : (a b : BlockWriter) → b.receiver ≡ a.receiver → SameWriter a b
same_none a b is = let both = same_receiver a.receiver b.receiver is in record { thread = both.0; ring = both.1 }

-- ---- step by step
pub gathers_none : (writer : BlockWriter) → Gathers writer writer
gathers_none writer = record { same = same_none writer writer refl; more = λ all given has. ([], subst (λ (l : List Piece). HasWritten writer l given) (sym (append-nil all)) has) }

pub gathers_on : (a b c : BlockWriter) → Gathers a b → Gathers b c → Gathers a c
gathers_on a b c one other = record {
  same = same_on a b c one.same other.same;
  more = λ all given has.
      let first = one.more all given has in
      let second = other.more (all ++ first.0) given first.1 in
      (first.0 ++ second.0, subst (λ (l : List Piece). HasWritten c l given) (append_assoc all first.0 second.0) second.1);
}

-- nothing is whole by it
kept : (a b : BlockWriter) → SameWriter a b → ((all : List Piece) (given : List ℕ) → HasWritten a all given → HasWritten b all given) → Gathers a b
kept a b same keeps = record { same = same; more = λ all given has. ([], subst (λ (l : List Piece). HasWritten b l given) (sym (append-nil all)) (keeps all given has)) }

-- an item was taken
pub gathers_item : (a b : BlockWriter) (item : Item) → a.held ≡ None → SameConsumer a.receiver.end b.receiver.end → b.receiver.thread ≡ a.receiver.thread
    → received b.receiver.end ≡ received a.receiver.end ++ item ∷ [] → b.held ≡ Some item → KeepsBlock a b → Gathers a b
gathers_item a b item none ring thread more held keeps = kept a b (record { thread = thread; ring = ring }) (λ all given has.
    let marks = map (λ mark. Marked mark) a.marks.items in
    record {
      items =
          more ∙ ap (λ (l : List Item). l ++ item ∷ []) (has.items ∙ ap (λ o. items_in a.receiver.thread all ++ (marks ++ held_items o)) none ∙ ap (λ (l : List Item). items_in a.receiver.thread all ++ l) (append-nil marks))
          ∙ append_assoc (items_in a.receiver.thread all) marks (item ∷ [])
          ∙ (λ i. items_in (sym thread i) all ++ (map (λ mark. Marked mark) (sym keeps.marks i) ++ held_items (sym held i)));
      of_thread = subst (λ (n : ℕ). AreOfThread n [] all) (sym thread) has.of_thread;
      bytes = has.bytes ∙ ap (λ (l : List ℕ). given ++ l) (sym keeps.bytes);
      events = keeps.events ∙ has.events ∙ ap (λ (n : ℕ). sum_by (events_at n) all) (sym thread);
      ended = keeps.ended ∙ has.ended ∙ ap (λ (n : ℕ). list_any (is_end_of n) all) (sym thread);
    })

-- nothing had come
pub gathers_nothing : (a b : BlockWriter) → a.held ≡ None → SameConsumer a.receiver.end b.receiver.end → b.receiver.thread ≡ a.receiver.thread → received b.receiver.end ≡ received a.receiver.end → b.held ≡ None → KeepsBlock a b → Gathers a b
gathers_nothing a b none ring thread same held keeps = kept a b (record { thread = thread; ring = ring }) (λ all given has. record {
  items = same ∙ has.items ∙ (λ i. items_in (sym thread i) all ++ (map (λ mark. Marked mark) (sym keeps.marks i) ++ held_items ((none ∙ sym held) i)));
  of_thread = subst (λ (n : ℕ). AreOfThread n [] all) (sym thread) has.of_thread;
  bytes = has.bytes ∙ ap (λ (l : List ℕ). given ++ l) (sym keeps.bytes);
  events = keeps.events ∙ has.events ∙ ap (λ (n : ℕ). sum_by (events_at n) all) (sym thread);
  ended = keeps.ended ∙ has.ended ∙ ap (λ (n : ℕ). list_any (is_end_of n) all) (sym thread);
})

-- what has come was taken, if something had
pub gathers_taken : (a b : BlockWriter) (took : Option Item) → a.held ≡ None → SameConsumer a.receiver.end b.receiver.end → b.receiver.thread ≡ a.receiver.thread
    → IfSome took (λ item. received b.receiver.end ≡ received a.receiver.end ++ item ∷ []) → IfNone took ((received b.receiver.end ≡ received a.receiver.end) × (known_items a.receiver.end ≡ []))
    → b.held ≡ took → KeepsBlock a b → Gathers a b
gathers_taken a b (Some item) none ring thread more nothing held keeps = gathers_item a b item none ring thread more held keeps
gathers_taken a b None none ring thread more nothing held keeps = gathers_nothing a b none ring thread nothing.0 held keeps

-- a piece is whole, whose items are the marks so far and the item that was taken
one_whole : (a b : BlockWriter) (piece : Piece) (item : Item) → a.held ≡ Some item → a.bytes.items ≡ [] → a.has_ended ≡ false → b.receiver ≡ a.receiver → b.marks.items ≡ [] → b.held ≡ None
    → items_at a.receiver.thread piece ≡ map (λ mark. Marked mark) a.marks.items ++ item ∷ []
    → ((all : List Piece) → a.events ≡ sum_by (events_at a.receiver.thread) all → StandsBehind a.receiver.thread all piece)
    → b.events ≡ a.events + events_at a.receiver.thread piece → b.has_ended ≡ is_end_of a.receiver.thread piece → b.bytes.items ≡ piece_bytes piece → Gathers a b
one_whole a b piece item held nothing goes_on receiver no_marks none is stands events ended bytes = record {
  same = same_none a b receiver;
  more = λ all given has.
      let n = a.receiver.thread in
      let same : n ≡ b.receiver.thread = sym (ap (λ (r : Receiver). r.thread) receiver) in
      let of = map (λ mark. Marked mark) a.marks.items in
      let no_end : list_any (is_end_of n) all ≡ false = sym has.ended ∙ goes_on in (
        piece ∷ [],
        record {
          items = (λ i. received (ap (λ (r : Receiver). r.end) receiver i)) ∙ has.items ∙ ap (λ o. items_in n all ++ (of ++ held_items o)) held ∙ ap (λ (l : List Item). items_in n all ++ l) (sym is)
              ∙ sym (more_of (items_at n) all piece) ∙ (λ i. items_in (same i) (all ++ piece ∷ [])) ∙ sym (append-nil (items_in b.receiver.thread (all ++ piece ∷ [])))
              ∙ (λ i. items_in b.receiver.thread (all ++ piece ∷ []) ++ (map (λ mark. Marked mark) (sym no_marks i) ++ held_items (sym none i)));
          of_thread = subst (λ (k : ℕ). AreOfThread k [] (all ++ piece ∷ [])) same (of_thread_more n [] all piece has.of_thread no_end (stands all has.events));
          bytes = more_of piece_bytes all piece ∙ (λ i. (has.bytes ∙ ap (λ (l : List ℕ). given ++ l) nothing ∙ append-nil given) i ++ sym bytes i);
          events = events ∙ ap (λ m. m + events_at n piece) has.events ∙ sym (sum_more (events_at n) all piece) ∙ ap (λ (k : ℕ). sum_by (events_at k) (all ++ piece ∷ [])) same;
          ended = ended ∙ sym (list_any-append (is_end_of n) all (piece ∷ []) ∙ (λ i. no_end i || or-false (is_end_of n piece) i)) ∙ ap (λ (k : ℕ). list_any (is_end_of k) (all ++ piece ∷ [])) same;
        },
      );
}

pub gathers_block : (a b : BlockWriter) (gap digest : ℕ) → a.held ≡ Some (BlockEnd gap digest) → a.bytes.items ≡ [] → a.has_ended ≡ false → b.receiver ≡ a.receiver → b.marks.items ≡ [] → b.held ≡ None
    → b.events ≡ a.events + (sum_by (λ m. m.gap) a.marks.items + gap + length a.marks.items) → b.has_ended ≡ a.has_ended
    → b.bytes.items ≡ piece_bytes (pieces.Block (record { thread = a.receiver.thread; first = a.events; marks = a.marks.items; gap = gap; digest = digest }))
    → Fits (record { thread = a.receiver.thread; first = a.events; marks = a.marks.items; gap = gap; digest = digest }) → Gathers a b
gathers_block a b gap digest held nothing goes_on receiver no_marks none events ended bytes fits =
    let n = a.receiver.thread in
    let block : Block = record { thread = n; first = a.events; marks = a.marks.items; gap = gap; digest = digest } in
    one_whole a b (pieces.Block block) (BlockEnd gap digest) held nothing goes_on receiver no_marks none (own_block n block refl) (λ all is. (refl, is, fits))
    (events ∙ ap (λ b. a.events + cond b (events_in block) 0) (sym (eq-eqb n n refl))) (ended ∙ goes_on) bytes

pub gathers_end : (a b : BlockWriter) → a.held ≡ Some ThreadEnd → a.bytes.items ≡ [] → a.has_ended ≡ false → b.receiver ≡ a.receiver → a.marks.items ≡ [] → b.marks.items ≡ [] → b.held ≡ None
    → b.events ≡ a.events → b.has_ended ≡ true → b.bytes.items ≡ piece_bytes (pieces.End (record { thread = a.receiver.thread; events = a.events })) → Gathers a b
gathers_end a b held nothing goes_on receiver had_none no_marks none events ended bytes =
    let n = a.receiver.thread in
    let end : End = record { thread = n; events = a.events } in
    one_whole a b (pieces.End end) ThreadEnd held nothing goes_on receiver no_marks none (own_end n end refl ∙ ap (λ (l : List Gapped). map (λ mark. Marked mark) l ++ ThreadEnd ∷ []) (sym had_none)) (λ all is. (refl, is))
    (events ∙ omega (arith)) (ended ∙ sym (eq-eqb n n refl)) bytes

-- what is known to have come is the receiver's
pub same_known : (a b : BlockWriter) → b.receiver ≡ a.receiver → known_of b ≡ known_of a
same_known a b is = ap (λ (r : Receiver). length (received r.end) + length (known_items r.end)) is
