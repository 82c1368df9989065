-- What a writer has gathered is put behind a file.
use Rattle.std.proofs.Common.{◌≡◌, ◌≢◌, ◌∙◌, ℕ, ◌<◌, true, false, cond, List, [], ◌∷◌, ◌++◌, refl, sym, ap, subst, append_assoc, append-nil}
use Rattle.std.specs.List.{AllByRecursion, flat_map}
use Rattle.std.proofs.lemmas.Bool.{eq-eqb, ne_eqb}
use Rattle.std.proofs.lemmas.List.{append_cancel_left}
use Rattle.std.proofs.lemmas.List.Elements.{filter-append}
use Rattle.std.proofs.lemmas.Grind.{flat_map-append}
use Rattle.octet_marks.specs.declared.piece.Head.{Head}
use Rattle.octet_marks.specs.declared.piece.Piece.{Piece}
use Rattle.octet_marks.specs.declared.piece.Piece.TheVariants as pieces
use Rattle.octet_marks.specs.Reading.{piece_bytes}
use Rattle.octet_blocks.specs.declared.writer.BlockWriter.{BlockWriter}
use Rattle.octet_blocks.specs.Files.{is_of, pieces_of, IsOfOne, file_bytes}
use Rattle.octet_blocks.specs.Laws.{IsAdded}
use Rattle.octet_blocks.specs.Writing.{StandsBehind, AreOfThread, HasWritten, Gathers}

-- ---- the pieces of one thread
is_own : (thread : ℕ) (before : List Piece) (piece : Piece) → StandsBehind thread before piece → is_of thread piece ≡ true
is_own thread before (pieces.Head head) stands = absurd stands
is_own thread before (pieces.Block block) stands = eq-eqb block.thread thread stands.0
is_own thread before (pieces.End end) stands = eq-eqb end.thread thread stands.0

is_others : (thread other : ℕ) (before : List Piece) (piece : Piece) → other ≢ thread → StandsBehind thread before piece → is_of other piece ≡ false
is_others thread other before (pieces.Head head) differs stands = refl
is_others thread other before (pieces.Block block) differs stands = ne_eqb block.thread other (λ same. differs (sym same ∙ stands.0))
is_others thread other before (pieces.End end) differs stands = ne_eqb end.thread other (λ same. differs (sym same ∙ stands.0))

own_pieces : (thread : ℕ) (before all : List Piece) → AreOfThread thread before all → pieces_of thread all ≡ all
own_pieces thread before [] are = refl
own_pieces thread before (piece ∷ all) are =
    ap (λ b. cond b (piece ∷ pieces_of thread all) (pieces_of thread all)) (is_own thread before piece are.1) ∙ ap (λ (l : List Piece). piece ∷ l) (own_pieces thread (before ++ piece ∷ []) all are.2)

no_pieces : (thread other : ℕ) (before all : List Piece) → other ≢ thread → AreOfThread thread before all → pieces_of other all ≡ []
no_pieces thread other before [] differs are = refl
no_pieces thread other before (piece ∷ all) differs are =
    ap (λ b. cond b (piece ∷ pieces_of other all) (pieces_of other all)) (is_others thread other before piece differs are.1) ∙ no_pieces thread other (before ++ piece ∷ []) all differs are.2

of_thread_behind : (thread : ℕ) (before front rest : List Piece) → AreOfThread thread before (front ++ rest) → AreOfThread thread (before ++ front) rest
of_thread_behind thread before [] rest are = subst (λ (l : List Piece). AreOfThread thread l rest) (sym (append-nil before)) are
of_thread_behind thread before (piece ∷ front) rest are =
    subst (λ (l : List Piece). AreOfThread thread l rest) (append_assoc before (piece ∷ []) front) (of_thread_behind thread (before ++ piece ∷ []) front rest are.2)

all_of_one : (threads thread : ℕ) (before all : List Piece) → thread < threads → AreOfThread thread before all → AllByRecursion (IsOfOne threads) all
all_of_one threads thread before [] within are = tt
all_of_one threads thread before (piece ∷ all) within are = (one piece are.1, all_of_one threads thread (before ++ piece ∷ []) all within are.2)
  where
    one : (x : Piece) → StandsBehind thread before x → IsOfOne threads x
    one (pieces.Head head) stands = stands
    one (pieces.Block block) stands = subst (λ (n : ℕ). n < threads) (sym stands.0) within
    one (pieces.End end) stands = subst (λ (n : ℕ). n < threads) (sym stands.0) within

both_of_one : (threads : ℕ) (all next : List Piece) → AllByRecursion (IsOfOne threads) all → AllByRecursion (IsOfOne threads) next → AllByRecursion (IsOfOne threads) (all ++ next)
both_of_one threads [] next are more = more
both_of_one threads (piece ∷ all) next are more = (are.0, both_of_one threads all next are.1 more)

-- ---- a file grows
pub writer_adds : (head : Head) (all : List Piece) (before after : BlockWriter) (given : List ℕ) → AllByRecursion (IsOfOne head.threads) all → before.receiver.thread < head.threads
    → HasWritten before (pieces_of before.receiver.thread all) given → before.bytes.items ≡ [] → Gathers before after → (next : List Piece) × IsAdded head all after given next
writer_adds head all before after given of_one within has none gathers =
    let thread = after.receiver.thread in
    let same : thread ≡ before.receiver.thread = gathers.same.thread in
    let more = gathers.more (pieces_of before.receiver.thread all) given has in
    let next = more.0 in
    let written : HasWritten after (pieces_of thread all ++ next) given = subst (λ (t : ℕ). HasWritten after (pieces_of t all ++ next) given) (sym same) more.1 in
    let are = of_thread_behind thread [] (pieces_of thread all) next written.of_thread in
    let mine : pieces_of thread (all ++ next) ≡ pieces_of thread all ++ next =
    filter-append (is_of thread) all next ∙ ap (λ (l : List Piece). pieces_of thread all ++ l) (own_pieces thread (pieces_of thread all) next are) in
    let passed : flat_map piece_bytes (pieces_of thread all) ≡ given =
    ap (λ (t : ℕ). flat_map piece_bytes (pieces_of t all)) same ∙ has.bytes ∙ ap (λ (l : List ℕ). given ++ l) none ∙ append-nil given in
    let bytes : flat_map piece_bytes next ≡ after.bytes.items =
    append_cancel_left given (flat_map piece_bytes next) after.bytes.items
    (ap (λ (l : List ℕ). l ++ flat_map piece_bytes next) (sym passed) ∙ sym (flat_map-append piece_bytes (pieces_of thread all) next) ∙ written.bytes) in (
      next,
      record {
        bytes = ap (λ (l : List ℕ). file_bytes head all ++ l) (sym bytes) ∙ sym (flat_map-append piece_bytes (pieces.Head head ∷ all) next);
        of_one = both_of_one head.threads all next of_one (all_of_one head.threads thread (pieces_of thread all) next (subst (λ (n : ℕ). n < head.threads) (sym same) within) are);
        own = subst (λ (l : List Piece). HasWritten after l given) (sym mine) written;
        others = λ other differs. filter-append (is_of other) all next ∙ ap (λ (l : List Piece). pieces_of other all ++ l) (no_pieces thread other (pieces_of thread all) next differs are) ∙ append-nil (pieces_of other all);
      },
    )
