-- A thread is given what the file has of it, piece by piece.
use Rattle.std.proofs.Common.{◌≡◌, ◌∙◌, ℕ, zero, suc, ◌+◌, ◌<◌, ◌≤◌, ◌||◌, Bool, true, false, List, [], ◌∷◌, ◌++◌, map, length, drop, Some, None, Err, refl, sym, ap, subst, arith, append_assoc, append-nil}
use Rattle.std.specs.Prelude.{slice_get}
use Rattle.std.specs.List.{list_any, AllByRecursion}
use Rattle.std.proofs.lemmas.Grind.{flat_map-append}
use Rattle.std.proofs.lemmas.List.{drop-drop, length-drop}
use Rattle.std.proofs.lemmas.List.Folds.{list_any-append}
use Rattle.std.proofs.Math.Bool.{or-false}
use Rattle.rtrb.specs.Ring.{sent, known_free, SameProducer}
use Rattle.octet_log.specs.Inputs.{AreBytes}
use Rattle.octet_marks.specs.declared.piece.Block.{Block}
use Rattle.octet_marks.specs.declared.piece.Head.{Head}
use Rattle.octet_marks.specs.declared.piece.Piece.{Piece}
use Rattle.octet_marks.specs.Counts.{is_end_of}
use Rattle.octet_marks.specs.Files.{Unread, unread_of, fed_with, IsNext, HasRead, FedBytesStandBehind, NextPieceStandsBehind}
use Rattle.octet_marks.specs.Laws.{PieceHasBytes}
use Rattle.octet_marks.specs.Reading.{piece_at}
use Rattle.octet_model.specs.declared.log.Gapped.{Gapped}
use Rattle.octet_stream.specs.declared.feeder.Feeder.{Feeder}
use Rattle.octet_stream.specs.declared.item.Item.{Item}
use Rattle.octet_stream.specs.declared.item.Item.TheVariants.{Marked, BlockEnd}
use Rattle.octet_blocks.specs.declared.fault.FeedFault.{FeedFault}
use Rattle.octet_blocks.specs.declared.fault.FeedFault.TheVariants as feed
use Rattle.octet_blocks.specs.declared.reader.BlockReader.{BlockReader}
use Rattle.octet_blocks.specs.declared.reader.Waiting.TheVariants as waits
use Rattle.octet_blocks.specs.Items.{block_items, items_at, items_in}
use Rattle.octet_blocks.specs.Reading.{waiting_items, break_items, IsOfRun, HasNoNext, ReadsTo, HasFed, SameReader, Gives, IsJudged, TurnsTo, Feeds, LacksRoom, HasFault}

-- ---- the items of a block, from one on
abbrev ended_by : List Gapped → Item → List Item
ended_by marks end = map (λ mark. Marked mark) marks ++ end ∷ []

at_mark : (marks : List Gapped) (end : Item) (given : ℕ) (mark : Gapped) → Some mark ≡ slice_get marks given → drop given (ended_by marks end) ≡ Marked mark ∷ drop 1 (drop given (ended_by marks end))
at_mark [] end given mark is = absurd cc
at_mark (m ∷ marks) end zero mark is = (let same : mark ≡ m = cc in ap (λ (x : Gapped). Marked x ∷ ended_by marks end) (sym same))
at_mark (m ∷ marks) end (suc given) mark is = at_mark marks end given mark is

at_end : (marks : List Gapped) (end : Item) (given : ℕ) → given ≤ length marks → None ≡ slice_get marks given → drop given (ended_by marks end) ≡ end ∷ drop 1 (drop given (ended_by marks end))
at_end [] end zero within is = refl
at_end [] end (suc given) within is = absurd (omega (arith, within))
at_end (m ∷ marks) end zero within is = absurd cc
at_end (m ∷ marks) end (suc given) within is = at_end marks end given (omega (arith, within)) is

last_dropped : (marks : List Gapped) (end : Item) → drop 1 (drop (length marks) (ended_by marks end)) ≡ []
last_dropped [] end = refl
last_dropped (m ∷ marks) end = last_dropped marks end

pub rest_mark : (block : Block) (given : ℕ) (mark : Gapped) → Some mark ≡ slice_get block.marks given → drop given (block_items block) ≡ Marked mark ∷ drop 1 (drop given (block_items block))
rest_mark block given mark is = at_mark block.marks (BlockEnd block.gap block.digest) given mark is

pub rest_end : (block : Block) (given : ℕ) → given ≤ length block.marks → None ≡ slice_get block.marks given → drop given (block_items block) ≡ BlockEnd block.gap block.digest ∷ drop 1 (drop given (block_items block))
rest_end block given within is = at_end block.marks (BlockEnd block.gap block.digest) given within is

pub rest_on : (block : Block) (given : ℕ) → drop (given + 1) (block_items block) ≡ drop 1 (drop given (block_items block))
rest_on block given = sym (drop-drop 1 given (block_items block))

pub rest_last : (block : Block) (given : ℕ) → given ≤ length block.marks → (given < length block.marks → ⊥) → [] ≡ drop 1 (drop given (block_items block))
rest_last block given within not_less =
    let all : given ≡ length block.marks = omega (arith, within, not_less) in
    sym (ap (λ (n : ℕ). drop 1 (drop n (block_items block))) all ∙ last_dropped block.marks (BlockEnd block.gap block.digest))

-- ---- the same thread, by the same ring
pub same_on : (a b c : BlockReader) → SameReader a b → SameReader b c → SameReader a c
same_on a b c one other = record { thread = other.thread ∙ one.thread; ring = ((other.ring.0.0 ∙ one.ring.0.0, other.ring.0.1 ∙ one.ring.0.1, other.ring.0.2 ∙ one.ring.0.2, other.ring.0.3 ∙ one.ring.0.3), other.ring.1 ∙ one.ring.1) }

same_feeder : (one other : Feeder) → other ≡ one → (other.thread ≡ one.thread) × SameProducer one.end other.end
same_feeder one other is = subst (λ (f : Feeder). (f.thread ≡ one.thread) × SameProducer one.end f.end) (sym is) (refl, ((refl, refl, refl, refl), refl))

pub same_none : (a b : BlockReader) → b.feeder ≡ a.feeder → SameReader a b
same_none a b is = let both = same_feeder a.feeder b.feeder is in record { thread = both.0; ring = both.1 }

-- ---- what was fed
-- of a thread that was given nothing
pub fed_nothing : (reader : BlockReader) → HasRead [] [] (unread_of reader.reader) → sent reader.feeder.end ≡ [] → waiting_items reader.waiting ≡ [] → reader.has_ended ≡ false → reader.is_other ≡ false → reader.is_over ≡ false
    → (wanted : Head) → HasFed wanted reader [] []
fed_nothing reader read none nothing ended other over wanted = record {
  are = λ i. omega (arith);
  read = read;
  items = ap (λ (l : List Item). l ++ waiting_items reader.waiting) none ∙ nothing ∙ ap (λ b. break_items b reader.has_ended) (sym over);
  ended = ended;
  reads = subst (λ b. ReadsTo wanted b reader.is_over [] (unread_of reader.reader)) (sym other) (subst (λ b. ReadsTo wanted false b [] (unread_of reader.reader)) (sym over) tt);
}

-- nothing was read
pub feeds_none : (wanted : Head) (a b : BlockReader) → SameReader a b → ((fed : List ℕ) (all : List Piece) → HasFed wanted a fed all → HasFed wanted b fed all) → Feeds wanted [] a b
feeds_none wanted a b same keeps = record {
  same = same;
  more = λ fed all has. ([], subst (λ (l : List Piece). HasFed wanted b (fed ++ []) l) (sym (append-nil all)) (subst (λ (l : List ℕ). HasFed wanted b l all) (sym (append-nil fed)) (keeps fed all has)));
}

pub feeds_start : (wanted : Head) (a : BlockReader) → Feeds wanted [] a a
feeds_start wanted a = feeds_none wanted a a (same_none a a refl) (λ fed all has. has)

pub feeds_on : (wanted : Head) (bytes : List ℕ) (a b c : BlockReader) → Feeds wanted [] a b → Feeds wanted bytes b c → Feeds wanted bytes a c
feeds_on wanted bytes a b c one other = record {
  same = same_on a b c one.same other.same;
  more = λ fed all has.
      let first = one.more fed all has in
      let second = other.more fed (all ++ first.0) (subst (λ (l : List ℕ). HasFed wanted b l (all ++ first.0)) (append-nil fed) first.1) in
      (first.0 ++ second.0, subst (λ (l : List Piece). HasFed wanted c (fed ++ bytes) l) (append_assoc all first.0 second.0) second.1);
}

-- what waits was given
given_keeps : (wanted : Head) (a b : BlockReader) → Gives a b → (fed : List ℕ) (all : List Piece) → HasFed wanted a fed all → HasFed wanted b fed all
given_keeps wanted a b gives fed all has =
    let reader : b.reader ≡ a.reader = ap (λ (r : BlockReader). r.reader) gives.rest in
    let ended : b.has_ended ≡ a.has_ended = ap (λ (r : BlockReader). r.has_ended) gives.rest in
    let over : b.is_over ≡ a.is_over = ap (λ (r : BlockReader). r.is_over) gives.rest in
    let other : b.is_other ≡ a.is_other = ap (λ (r : BlockReader). r.is_other) gives.rest in
    record {
      are = has.are;
      read = subst (λ r. HasRead fed all (unread_of r)) (sym reader) has.read;
      items = gives.items ∙ has.items ∙ (λ i. items_in (sym gives.same.thread i) all ++ break_items (sym over i) (sym ended i));
      ended = ended ∙ has.ended ∙ ap (λ (n : ℕ). list_any (is_end_of n) all) (sym gives.same.thread);
      reads = subst (λ r. ReadsTo wanted b.is_other b.is_over all (unread_of r)) (sym reader)
          (subst (λ x. ReadsTo wanted x b.is_over all (unread_of a.reader)) (sym other) (subst (λ x. ReadsTo wanted a.is_other x all (unread_of a.reader)) (sym over) has.reads));
    }

pub gives_feeds : (wanted : Head) (a b : BlockReader) → Gives a b → Feeds wanted [] a b
gives_feeds wanted a b gives = feeds_none wanted a b gives.same (given_keeps wanted a b gives)

-- ---- giving
pub gives_none : (a : BlockReader) → Gives a a
gives_none a = record { same = same_none a a refl; rest = refl; items = refl }

-- an item of those that wait was sent
pub gives_one : (a b c d : BlockReader) (item : Item) → Gives a b → waiting_items b.waiting ≡ item ∷ drop 1 (waiting_items b.waiting) → SameProducer b.feeder.end c.feeder.end → c.feeder.thread ≡ b.feeder.thread
    → sent c.feeder.end ≡ sent b.feeder.end ++ item ∷ [] → c ≡ record b { feeder = c.feeder } → d ≡ record c { waiting = d.waiting } → waiting_items d.waiting ≡ drop 1 (waiting_items c.waiting) → Gives a d
gives_one a b c d item gives next ring thread sends is moved rest =
    let feeder : d.feeder ≡ c.feeder = ap (λ (r : BlockReader). r.feeder) moved in
    let waits : c.waiting ≡ b.waiting = ap (λ (r : BlockReader). r.waiting) is in
    record {
      same = same_on a b d gives.same (same_on b c d (record { thread = thread; ring = ring }) (same_none c d feeder));
      rest = cc (gives.rest, is, moved);
      items =
          (λ i. sent (ap (λ (f : Feeder). f.end) feeder i) ++ (rest ∙ ap (λ w. drop 1 (waiting_items w)) waits) i)
          ∙ ap (λ (l : List Item). l ++ drop 1 (waiting_items b.waiting)) sends
          ∙ append_assoc (sent b.feeder.end) (item ∷ []) (drop 1 (waiting_items b.waiting))
          ∙ ap (λ (l : List Item). sent b.feeder.end ++ l) (sym next) ∙ gives.items;
    }

-- an item came back: only what its feeder knows is another
pub gives_back : (a b c : BlockReader) → Gives a b → SameProducer b.feeder.end c.feeder.end → c.feeder.thread ≡ b.feeder.thread → sent c.feeder.end ≡ sent b.feeder.end → c ≡ record b { feeder = c.feeder } → Gives a c
gives_back a b c gives ring thread sends is = record {
  same = same_on a b c gives.same (record { thread = thread; ring = ring });
  rest = is ∙ ap (λ (r : BlockReader). record r { feeder = c.feeder }) gives.rest ∙ (λ i. record a { feeder = c.feeder; waiting = sym (ap (λ (r : BlockReader). r.waiting) is) i });
  items = ap (λ (l : List Item). l ++ waiting_items c.waiting) sends ∙ ap (λ (r : BlockReader). sent b.feeder.end ++ waiting_items r.waiting) is ∙ gives.items;
}

pub lacks_room : (b c : BlockReader) (item : Item) (rest : List Item) → waiting_items b.waiting ≡ item ∷ rest → c.waiting ≡ b.waiting → SameProducer b.feeder.end c.feeder.end → sent c.feeder.end ≡ sent b.feeder.end → known_free b.feeder.end ≡ 0 → LacksRoom c
lacks_room b c item rest waits same ring sends full = record {
  waits = λ none. absurd (some_waits item rest (sym waits ∙ sym (ap waiting_items same) ∙ none));
  feeder = b.feeder;
  ring = ring;
  sent_all = sends;
  full = full;
}
  where
    some_waits : (item : Item) (rest : List Item) → item ∷ rest ≡ [] → ⊥
    some_waits item rest is = cc

-- ---- reading
of_run_more : (wanted : Head) (all : List Piece) (piece : Piece) → AllByRecursion (IsOfRun wanted) all → IsOfRun wanted piece → AllByRecursion (IsOfRun wanted) (all ++ piece ∷ [])
of_run_more wanted [] piece are is = (is, tt)
of_run_more wanted (x ∷ all) piece are is = (are.0, of_run_more wanted all piece are.1 is)

judged_reads : (wanted : Head) (all : List Piece) (piece : Piece) (unread : Unread) (other : Bool) → AllByRecursion (IsOfRun wanted) all → IsJudged wanted piece other → ReadsTo wanted other false (all ++ piece ∷ []) unread
judged_reads wanted all piece unread false are judged = of_run_more wanted all piece are judged
judged_reads wanted all piece unread true are judged = record { front = all; head = judged.0; last = ap (λ p. all ++ p ∷ []) judged.1; other = judged.2 }

fed_one : (wanted : Head) (a b c : BlockReader) (piece : Piece) → NextPieceStandsBehind → waiting_items a.waiting ≡ [] → a.is_other ≡ false → a.is_over ≡ false
    → b ≡ record a { reader = b.reader } → IsNext (unread_of a.reader) piece (unread_of b.reader) → TurnsTo wanted piece b c
    → (fed : List ℕ) (all : List Piece) → HasFed wanted a fed all → HasFed wanted c fed (all ++ piece ∷ [])
fed_one wanted a b c piece law nothing of_run goes_on is next turns fed all has =
    let thread = a.feeder.thread in
    let feeder : c.feeder ≡ a.feeder = turns.feeder ∙ ap (λ (r : BlockReader). r.feeder) is in
    let same : b.feeder.thread ≡ thread = ap (λ (r : BlockReader). r.feeder.thread) is in
    let over : c.is_over ≡ false = turns.over ∙ ap (λ (r : BlockReader). r.is_over) is ∙ goes_on in
    let ended : c.has_ended ≡ (a.has_ended || is_end_of thread piece) = turns.ended ∙ (λ i. ap (λ (r : BlockReader). r.has_ended) is i || is_end_of (same i) piece) in
    let items : waiting_items c.waiting ≡ items_at thread piece = turns.items ∙ ap (λ (n : ℕ). items_at n piece) same in
    let before : sent a.feeder.end ≡ items_in thread all =
    sym (append-nil (sent a.feeder.end)) ∙ ap (λ (l : List Item). sent a.feeder.end ++ l) (sym nothing) ∙ has.items ∙ ap (λ b. items_in thread all ++ break_items b a.has_ended) goes_on ∙ append-nil (items_in thread all) in
    let mine : items_in thread (all ++ piece ∷ []) ≡ items_in thread all ++ items_at thread piece = flat_map-append (items_at thread) all (piece ∷ []) ∙ ap (λ (l : List Item). items_in thread all ++ l) (append-nil (items_at thread piece)) in
    let reads : AllByRecursion (IsOfRun wanted) all = subst (λ b. ReadsTo wanted false b all (unread_of a.reader)) goes_on (subst (λ b. ReadsTo wanted b a.is_over all (unread_of a.reader)) of_run has.reads) in
    record {
      are = has.are;
      read = subst (λ r. HasRead fed (all ++ piece ∷ []) (unread_of r)) (sym turns.reader) (law fed all (unread_of a.reader) piece (unread_of b.reader) has.are has.read next);
      items = (λ i. sent (ap (λ (f : Feeder). f.end) feeder i) ++ items i) ∙ ap (λ (l : List Item). l ++ items_at thread piece) before ∙ sym mine
          ∙ (λ i. items_in (sym (ap (λ (f : Feeder). f.thread) feeder) i) (all ++ piece ∷ [])) ∙ sym (append-nil (items_in c.feeder.thread (all ++ piece ∷ []))) ∙ ap (λ b. items_in c.feeder.thread (all ++ piece ∷ []) ++ break_items b c.has_ended) (sym over);
      ended = ended ∙ (λ i. has.ended i || is_end_of thread piece) ∙ sym (list_any-append (is_end_of thread) all (piece ∷ []) ∙ ap (λ b. list_any (is_end_of thread) all || b) (or-false (is_end_of thread piece)))
          ∙ ap (λ (n : ℕ). list_any (is_end_of n) (all ++ piece ∷ [])) (sym (ap (λ (f : Feeder). f.thread) feeder));
      reads = subst (λ b. ReadsTo wanted c.is_other b (all ++ piece ∷ []) (unread_of c.reader)) (sym over) (judged_reads wanted all piece (unread_of c.reader) c.is_other reads turns.judged);
    }

pub feeds_one : (wanted : Head) (a b c : BlockReader) (piece : Piece) → NextPieceStandsBehind → waiting_items a.waiting ≡ [] → a.is_other ≡ false → a.is_over ≡ false
    → b ≡ record a { reader = b.reader } → IsNext (unread_of a.reader) piece (unread_of b.reader) → TurnsTo wanted piece b c → Feeds wanted [] a c
feeds_one wanted a b c piece law nothing of_run goes_on is next turns = record {
  same = same_none a c (turns.feeder ∙ ap (λ (r : BlockReader). r.feeder) is);
  more = λ fed all has. (piece ∷ [], subst (λ (l : List ℕ). HasFed wanted c l (all ++ piece ∷ [])) (sym (append-nil fed)) (fed_one wanted a b c piece law nothing of_run goes_on is next turns fed all has));
}

-- a piece that was read leaves fewer bytes
pub fewer : (before : Unread) (piece : Piece) (after : Unread) → PieceHasBytes → IsNext before piece after → length after.bytes < length before.bytes
fewer before piece after law next =
    let has = law before.threads before.bytes next.read next.is in
    omega (arith, has.0, has.1, ap (λ (u : Unread). length u.bytes) next.after_is, length-drop next.read.size before.bytes)

-- nothing was read: only the reader's own state is another
pub feeds_same : (wanted : Head) (a b : BlockReader) → b ≡ record a { reader = b.reader } → unread_of b.reader ≡ unread_of a.reader → Feeds wanted [] a b
feeds_same wanted a b is same = feeds_none wanted a b (same_none a b (ap (λ (r : BlockReader). r.feeder) is)) (λ fed all has. taken_keeps fed all has)
  where
    taken_keeps : (fed : List ℕ) (all : List Piece) → HasFed wanted a fed all → HasFed wanted b fed all
    taken_keeps fed all has = record {
      are = has.are;
      read = subst (HasRead fed all) (sym same) has.read;
      items = (λ i. ap (λ (r : BlockReader). sent r.feeder.end ++ waiting_items r.waiting) is i) ∙ has.items ∙ (λ i. sym (ap (λ (r : BlockReader). items_in r.feeder.thread all ++ break_items r.is_over r.has_ended) is) i);
      ended = ap (λ (r : BlockReader). r.has_ended) is ∙ has.ended ∙ sym (ap (λ (r : BlockReader). list_any (is_end_of r.feeder.thread) all) is);
      reads = subst (λ u. ReadsTo wanted b.is_other b.is_over all u) (sym same) (subst (λ (r : BlockReader). ReadsTo wanted r.is_other r.is_over all (unread_of a.reader)) (sym is) has.reads);
    }

bytes_more : (fed bytes : List ℕ) → AreBytes fed → AreBytes bytes → AreBytes (fed ++ bytes)
bytes_more [] bytes are more i = more i
bytes_more (x ∷ fed) bytes are more zero = are 0
bytes_more (x ∷ fed) bytes are more (suc i) = bytes_more fed bytes (λ k. are (suc k)) more i

-- bytes were taken
pub feeds_bytes : (wanted : Head) (bytes : List ℕ) (a b : BlockReader) → FedBytesStandBehind → AreBytes bytes → a.is_over ≡ false → b ≡ record a { reader = b.reader } → unread_of b.reader ≡ fed_with bytes (unread_of a.reader) → Feeds wanted bytes a b
feeds_bytes wanted bytes a b law fit goes_on is fed_is = record {
  same = same_none a b (ap (λ (r : BlockReader). r.feeder) is);
  more = λ fed all has. (
    [],
    subst (HasFed wanted b (fed ++ bytes)) (sym (append-nil all)) (record {
      are = bytes_more fed bytes has.are fit;
      read = subst (HasRead (fed ++ bytes) all) (sym fed_is) (law fed bytes all (unread_of a.reader) has.read);
      items = ap (λ (r : BlockReader). sent r.feeder.end ++ waiting_items r.waiting) is ∙ has.items ∙ sym (ap (λ (r : BlockReader). items_in r.feeder.thread all ++ break_items r.is_over r.has_ended) is);
      ended = ap (λ (r : BlockReader). r.has_ended) is ∙ has.ended ∙ sym (ap (λ (r : BlockReader). list_any (is_end_of r.feeder.thread) all) is);
      reads = still_reads wanted all (unread_of a.reader) (unread_of b.reader) a.is_other b.is_other a.is_over b.is_over goes_on (ap (λ (r : BlockReader). r.is_other) is) (ap (λ (r : BlockReader). r.is_over) is) has.reads;
    }),
  );
}
  where
    going : (wanted : Head) (all : List Piece) (one two : Unread) (other : Bool) → ReadsTo wanted other false all one → ReadsTo wanted other false all two
    going wanted all one two true reads = reads
    going wanted all one two false reads = reads

    still_reads : (wanted : Head) (all : List Piece) (one two : Unread) (other other_after over over_after : Bool) → over ≡ false → other_after ≡ other → over_after ≡ over → ReadsTo wanted other over all one → ReadsTo wanted other_after over_after all two
    still_reads wanted all one two other other_after over over_after goes_on same_other same_over reads =
        subst (λ b. ReadsTo wanted b over_after all two) (sym same_other) (subst (λ b. ReadsTo wanted other b all two) (sym (same_over ∙ goes_on)) (going wanted all one two other (subst (λ b. ReadsTo wanted other b all one) goes_on reads)))

-- ---- nothing more is read
over_reads : (wanted : Head) (all : List Piece) (unread : Unread) (other : Bool) → (other ≡ false → HasNoNext unread) → ReadsTo wanted other false all unread → ReadsTo wanted other true all unread
over_reads wanted all unread true no_next reads = reads
over_reads wanted all unread false no_next reads = (reads, no_next refl)

stopped : (wanted : Head) (a b : BlockReader) → waiting_items a.waiting ≡ [] → a.is_over ≡ false → (a.is_other ≡ false → HasNoNext (unread_of a.reader))
    → b.feeder ≡ a.feeder → b.reader ≡ a.reader → b.has_ended ≡ a.has_ended → b.is_other ≡ a.is_other → b.is_over ≡ true → waiting_items b.waiting ≡ break_items true a.has_ended
    → (fed : List ℕ) (all : List Piece) → HasFed wanted a fed all → HasFed wanted b fed all
stopped wanted a b nothing goes_on no_next feeder reader ended other over waits fed all has =
    let thread = a.feeder.thread in
    let before : sent a.feeder.end ≡ items_in thread all =
    sym (append-nil (sent a.feeder.end)) ∙ ap (λ (l : List Item). sent a.feeder.end ++ l) (sym nothing) ∙ has.items ∙ ap (λ b. items_in thread all ++ break_items b a.has_ended) goes_on ∙ append-nil (items_in thread all) in
    record {
      are = has.are;
      read = subst (λ r. HasRead fed all (unread_of r)) (sym reader) has.read;
      items = (λ i. sent (ap (λ (f : Feeder). f.end) feeder i) ++ waits i) ∙ ap (λ (l : List Item). l ++ break_items true a.has_ended) before
          ∙ (λ i. items_in (sym (ap (λ (f : Feeder). f.thread) feeder) i) all ++ break_items (sym over i) (sym ended i));
      ended = ended ∙ has.ended ∙ ap (λ (n : ℕ). list_any (is_end_of n) all) (sym (ap (λ (f : Feeder). f.thread) feeder));
      reads = subst (λ r. ReadsTo wanted b.is_other b.is_over all (unread_of r)) (sym reader)
          (subst (λ x. ReadsTo wanted x b.is_over all (unread_of a.reader)) (sym other)
          (subst (λ x. ReadsTo wanted a.is_other x all (unread_of a.reader)) (sym over)
          (over_reads wanted all (unread_of a.reader) a.is_other no_next (subst (λ x. ReadsTo wanted a.is_other x all (unread_of a.reader)) goes_on has.reads))));
    }

pub stop_feeds : (a b : BlockReader) → waiting_items a.waiting ≡ [] → a.is_over ≡ false → (a.is_other ≡ false → HasNoNext (unread_of a.reader))
    → b.feeder ≡ a.feeder → b.reader ≡ a.reader → b.has_ended ≡ a.has_ended → b.is_other ≡ a.is_other → b.is_over ≡ true → waiting_items b.waiting ≡ break_items true a.has_ended
    → (wanted : Head) → Feeds wanted [] a b
stop_feeds a b nothing goes_on no_next feeder reader ended other over waits wanted =
    feeds_none wanted a b (same_none a b feeder) (stopped wanted a b nothing goes_on no_next feeder reader ended other over waits)

pub stop_ended : (a b : BlockReader) → waiting_items a.waiting ≡ [] → a.is_over ≡ false → (a.is_other ≡ false → HasNoNext (unread_of a.reader)) → a.has_ended ≡ true → b ≡ record a { is_over = true } → (wanted : Head) → Feeds wanted [] a b
stop_ended a b nothing goes_on no_next ended is =
    stop_feeds a b nothing goes_on no_next (ap (λ (r : BlockReader). r.feeder) is) (ap (λ (r : BlockReader). r.reader) is) (ap (λ (r : BlockReader). r.has_ended) is) (ap (λ (r : BlockReader). r.is_other) is) (ap (λ (r : BlockReader). r.is_over) is)
    (ap (λ (r : BlockReader). waiting_items r.waiting) is ∙ nothing ∙ ap (break_items true) (sym ended))

pub stop_breaks : (a b : BlockReader) → waiting_items a.waiting ≡ [] → a.is_over ≡ false → (a.is_other ≡ false → HasNoNext (unread_of a.reader)) → a.has_ended ≡ false → b ≡ record a { is_over = true; waiting = waits.BreaksOff } → (wanted : Head) → Feeds wanted [] a b
stop_breaks a b nothing goes_on no_next ended is =
    stop_feeds a b nothing goes_on no_next (ap (λ (r : BlockReader). r.feeder) is) (ap (λ (r : BlockReader). r.reader) is) (ap (λ (r : BlockReader). r.has_ended) is) (ap (λ (r : BlockReader). r.is_other) is) (ap (λ (r : BlockReader). r.is_over) is)
    (ap (λ (r : BlockReader). waiting_items r.waiting) is ∙ ap (break_items true) (sym ended))

-- a fault that was found, where nothing more is read
pub stopped_fault : (a b : BlockReader) → b.reader ≡ a.reader → b.is_other ≡ a.is_other → b.is_over ≡ true → (fault : FeedFault) → HasFault a fault → HasFault b fault
stopped_fault a b reader other over feed.OutOfMemory has = tt
stopped_fault a b reader other over (feed.Refused cause at) has = (subst (λ r. piece_at (unread_of r).threads (unread_of r).bytes ≡ Err cause) (sym reader) has.0, subst (λ r. at ≡ (unread_of r).place) (sym reader) has.1, other ∙ has.2)
stopped_fault a b reader other over feed.OtherRun has = other ∙ has
stopped_fault a b reader other over feed.Over has = over
