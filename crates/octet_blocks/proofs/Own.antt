-- The pieces of a thread among those of all.
use Rattle.std.proofs.Common.{◌≡◌, ◌∙◌, ℕ, ◌+◌, ◌^◌, ◌<◌, ◌||◌, Bool, true, false, cond, List, [], ◌∷◌, ◌++◌, sum_by, refl, sym, ap, subst, arith, append_assoc, append-nil}
use Rattle.std.specs.List.{AllByRecursion, list_any}
use Rattle.std.proofs.lemmas.Bool.{eq-eqb}
use Rattle.std.proofs.lemmas.List.Elements.{filter-append}
use Rattle.std.proofs.lemmas.List.Sums.{sum_by-cons}
use Rattle.octet_marks.specs.declared.piece.Piece.{Piece}
use Rattle.octet_marks.specs.declared.piece.Piece.TheVariants as pieces
use Rattle.octet_marks.specs.Counts.{events_at, accesses_at, is_end_of}
use Rattle.octet_marks.specs.Standing.{accesses_in, events_in}
use Rattle.octet_stream.specs.declared.item.Item.{Item}
use Rattle.octet_stream.specs.declared.item.Item.TheVariants.{ThreadEnd}
use Rattle.octet_blocks.specs.Files.{is_of, pieces_of, IsOfOne}
use Rattle.octet_blocks.specs.Items.{block_items, items_at, items_in}
use Rattle.octet_blocks.specs.Writing.{StandsBehind, AreOfThread}
use Rattle.octet_blocks.proofs.Written.{sum_more}

-- ---- what a piece of another thread is to a thread
no_events : (thread : ℕ) (piece : Piece) → is_of thread piece ≡ false → events_at thread piece ≡ 0
no_events thread (pieces.Head head) other = refl
no_events thread (pieces.Block block) other = ap (λ b. cond b (events_in block) 0) other
no_events thread (pieces.End end) other = refl

no_accesses : (thread : ℕ) (piece : Piece) → is_of thread piece ≡ false → accesses_at thread piece ≡ 0
no_accesses thread (pieces.Head head) other = refl
no_accesses thread (pieces.Block block) other = ap (λ b. cond b (accesses_in block) 0) other
no_accesses thread (pieces.End end) other = refl

no_end : (thread : ℕ) (piece : Piece) → is_of thread piece ≡ false → is_end_of thread piece ≡ false
no_end thread (pieces.Head head) other = refl
no_end thread (pieces.Block block) other = refl
no_end thread (pieces.End end) other = other

no_items : (thread : ℕ) (piece : Piece) → is_of thread piece ≡ false → items_at thread piece ≡ []
no_items thread (pieces.Head head) other = refl
no_items thread (pieces.Block block) other = ap (λ b. cond b (block_items block) []) other
no_items thread (pieces.End end) other = ap (λ b. cond b (ThreadEnd ∷ []) []) other

-- ---- so its own pieces count alone
sum_kept : (thread : ℕ) (f : Piece → ℕ) → ((piece : Piece) → is_of thread piece ≡ false → f piece ≡ 0) → (all : List Piece) → sum_by f (pieces_of thread all) ≡ sum_by f all
sum_kept thread f none [] = refl
sum_kept thread f none (piece ∷ all) =
    elim (is_of thread piece) as (λ b. is_of thread piece ≡ b → sum_by f (cond b (piece ∷ pieces_of thread all) (pieces_of thread all)) ≡ sum_by f (piece ∷ all)) [
      | true ↦ λ own. sum_by-cons f piece (pieces_of thread all) ∙ ap (λ n. f piece + n) (sum_kept thread f none all) ∙ sym (sum_by-cons f piece all)
      | false ↦ λ other. sum_kept thread f none all ∙ omega (arith, none piece other, sum_by-cons f piece all)
    ] refl

pub events_kept : (thread : ℕ) (all : List Piece) → sum_by (events_at thread) (pieces_of thread all) ≡ sum_by (events_at thread) all
events_kept thread all = sum_kept thread (events_at thread) (no_events thread) all

pub accesses_kept : (thread : ℕ) (all : List Piece) → sum_by (accesses_at thread) (pieces_of thread all) ≡ sum_by (accesses_at thread) all
accesses_kept thread all = sum_kept thread (accesses_at thread) (no_accesses thread) all

pub ends_kept : (thread : ℕ) (all : List Piece) → list_any (is_end_of thread) (pieces_of thread all) ≡ list_any (is_end_of thread) all
ends_kept thread [] = refl
ends_kept thread (piece ∷ all) =
    elim (is_of thread piece) as (λ b. is_of thread piece ≡ b → list_any (is_end_of thread) (cond b (piece ∷ pieces_of thread all) (pieces_of thread all)) ≡ list_any (is_end_of thread) (piece ∷ all)) [
      | true ↦ λ own. ap (λ b. is_end_of thread piece || b) (ends_kept thread all)
      | false ↦ λ other. ends_kept thread all ∙ ap (λ b. b || list_any (is_end_of thread) all) (sym (no_end thread piece other))
    ] refl

pub items_kept : (thread : ℕ) (all : List Piece) → items_in thread (pieces_of thread all) ≡ items_in thread all
items_kept thread [] = refl
items_kept thread (piece ∷ all) =
    elim (is_of thread piece) as (λ b. is_of thread piece ≡ b → items_in thread (cond b (piece ∷ pieces_of thread all) (pieces_of thread all)) ≡ items_in thread (piece ∷ all)) [
      | true ↦ λ own. ap (λ (l : List Item). items_at thread piece ++ l) (items_kept thread all)
      | false ↦ λ other. items_kept thread all ∙ ap (λ (l : List Item). l ++ items_in thread all) (sym (no_items thread piece other))
    ] refl

-- ---- pieces of a thread, taken apart
pub of_thread_front : (thread : ℕ) (before front rest : List Piece) → AreOfThread thread before (front ++ rest) → AreOfThread thread before front
of_thread_front thread before [] rest are = tt
of_thread_front thread before (piece ∷ front) rest are = (are.0, are.1, of_thread_front thread (before ++ piece ∷ []) front rest are.2)

at_piece : (thread : ℕ) (before front : List Piece) (piece : Piece) (rest : List Piece) → AreOfThread thread before (front ++ piece ∷ rest) → (list_any (is_end_of thread) (before ++ front) ≡ false) × StandsBehind thread (before ++ front) piece
at_piece thread before [] piece rest are = subst (λ (l : List Piece). (list_any (is_end_of thread) l ≡ false) × StandsBehind thread l piece) (sym (append-nil before)) (are.0, are.1)
at_piece thread before (x ∷ front) piece rest are =
    subst (λ (l : List Piece). (list_any (is_end_of thread) l ≡ false) × StandsBehind thread l piece) (append_assoc before (x ∷ []) front) (at_piece thread (before ++ x ∷ []) front piece rest are.2)

stands_among : (thread : ℕ) (before : List Piece) (piece : Piece) → StandsBehind thread (pieces_of thread before) piece → StandsBehind thread before piece
stands_among thread before (pieces.Head head) stands = stands
stands_among thread before (pieces.Block block) stands = (stands.0, stands.1 ∙ events_kept thread before, stands.2)
stands_among thread before (pieces.End end) stands = (stands.0, stands.1 ∙ events_kept thread before)

-- a piece stands behind those of all threads as it stands behind those of its own
pub stands_in_all : (thread : ℕ) (before : List Piece) (piece : Piece) (rest : List Piece) → is_of thread piece ≡ true → AreOfThread thread [] (pieces_of thread (before ++ piece ∷ rest))
    → (list_any (is_end_of thread) before ≡ false) × StandsBehind thread before piece
stands_in_all thread before piece rest own are =
    let parts : pieces_of thread (before ++ piece ∷ rest) ≡ pieces_of thread before ++ piece ∷ pieces_of thread rest =
    filter-append (is_of thread) before (piece ∷ rest) ∙ ap (λ b. pieces_of thread before ++ cond b (piece ∷ pieces_of thread rest) (pieces_of thread rest)) own in
    let at = at_piece thread [] (pieces_of thread before) piece (pieces_of thread rest) (subst (AreOfThread thread []) parts are) in
    (sym (ends_kept thread before) ∙ at.0, stands_among thread before piece at.1)

-- the events of a thread fit into 64 bits, since those of its blocks do
events_within : (thread : ℕ) (before all : List Piece) → AreOfThread thread before all → sum_by (events_at thread) before < 2 ^ 64 → sum_by (events_at thread) (before ++ all) < 2 ^ 64
events_within thread before [] are small = subst (λ (l : List Piece). sum_by (events_at thread) l < 2 ^ 64) (sym (append-nil before)) small
events_within thread before (piece ∷ all) are small =
    subst (λ (l : List Piece). sum_by (events_at thread) l < 2 ^ 64) (append_assoc before (piece ∷ []) all) (events_within thread (before ++ piece ∷ []) all are.2 (next piece are.1))
  where
    next : (x : Piece) → StandsBehind thread before x → sum_by (events_at thread) (before ++ x ∷ []) < 2 ^ 64
    next (pieces.Head head) stands = absurd stands
    next (pieces.Block block) stands =
        let mine : events_at thread (pieces.Block block) ≡ events_in block = ap (λ b. cond b (events_in block) 0) (eq-eqb block.thread thread stands.0) in
        omega (arith, sum_more (events_at thread) before (pieces.Block block), mine, stands.1, stands.2.events)
    next (pieces.End end) stands = omega (arith, sum_more (events_at thread) before (pieces.End end), small)

pub events_before : (thread : ℕ) (before rest : List Piece) → AreOfThread thread [] (pieces_of thread (before ++ rest)) → sum_by (events_at thread) before < 2 ^ 64
events_before thread before rest are =
    let front = of_thread_front thread [] (pieces_of thread before) (pieces_of thread rest) (subst (AreOfThread thread []) (filter-append (is_of thread) before rest) are) in
    subst (λ (n : ℕ). n < 2 ^ 64) (events_kept thread before) (events_within thread [] (pieces_of thread before) front (omega (arith)))

-- what holds of the pieces of each thread holds of all
pub each_piece : (P : Piece → Type 0) (threads : ℕ) (all : List Piece) → AllByRecursion (IsOfOne threads) all → ((thread : ℕ) → thread < threads → AllByRecursion P (pieces_of thread all)) → AllByRecursion P all
each_piece P threads [] of_one each = tt
each_piece P threads (piece ∷ all) of_one each = (
  first of_one.0,
  each_piece P threads all of_one.1 (λ thread within. without (is_of thread piece) (pieces_of thread all) (each thread within)),
)
  where
    without : (b : Bool) (others : List Piece) → AllByRecursion P (cond b (piece ∷ others) others) → AllByRecursion P others
    without true others are = are.1
    without false others are = are

    head_of : (b : Bool) (others : List Piece) → b ≡ true → AllByRecursion P (cond b (piece ∷ others) others) → P piece
    head_of b others own are = (subst (λ c. AllByRecursion P (cond c (piece ∷ others) others)) own are).0

    own_thread : (x : Piece) → IsOfOne threads x → (thread : ℕ) × (thread < threads) × (is_of thread x ≡ true)
    own_thread (pieces.Head head) one = absurd one
    own_thread (pieces.Block block) one = (block.thread, one, eq-eqb block.thread block.thread refl)
    own_thread (pieces.End end) one = (end.thread, one, eq-eqb end.thread end.thread refl)

    first : IsOfOne threads piece → P piece
    first one = let own = own_thread piece one in head_of (is_of own.0 piece) (pieces_of own.0 all) own.2 (each own.0 own.1)
