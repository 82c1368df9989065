-- The pieces of all threads behind a head make a file, and a reader reads just these.
use Rattle.std.proofs.Common.{◌≡◌, ◌∙◌, ℕ, ◌+◌, ◌-◌, ◌^◌, ◌<◌, ◌≤◌, ◌&&◌, not, min, true, false, cond, eqb, ltb, leb, List, [], ◌∷◌, ◌++◌, length, sum_by, Option, Some, None, Ok, inl, inr, refl, sym, ap, subst, arith, append_assoc, append-nil}
use Rattle.std.specs.Prelude.{Result, replicate, slice_get, slice_set}
use Rattle.std.specs.List.{AllByRecursion, flat_map, list_all}
use Rattle.std.proofs.lemmas.Bool.{cases_lt, eq-eqb, ne_eqb, ltb-true, lt-ltb, le-leb}
use Rattle.std.proofs.lemmas.List.{length-replicate, length-set, append_cancel_left}
use Rattle.std.proofs.lemmas.List.Sums.{sum_by-append, sum_by-cons}
use Rattle.octet_model.specs.declared.event.Mark.{Mark}
use Rattle.octet_model.specs.declared.event.Mark.TheVariants.{Join, Draw, Fence}
use Rattle.octet_model.specs.declared.log.Gapped.{Gapped}
use Rattle.octet_model.specs.Log.{is_mark}
use Rattle.octet_log.proofs.Valid.{and_first, and_second}
use Rattle.octet_marks.specs.declared.cause.MarksCause.{MarksCause}
use Rattle.octet_marks.specs.declared.piece.Block.{Block}
use Rattle.octet_marks.specs.declared.piece.End.{End}
use Rattle.octet_marks.specs.declared.piece.Head.{Head}
use Rattle.octet_marks.specs.declared.piece.Piece.{Piece}
use Rattle.octet_marks.specs.declared.piece.Piece.TheVariants as pieces
use Rattle.octet_marks.specs.declared.progress.Progress.{Progress}
use Rattle.octet_marks.specs.Counts.{accesses_at, progress_in, ThreadsAreAsCounted}
use Rattle.octet_marks.specs.Files.{Unread, after_read, HasRead}
use Rattle.octet_marks.specs.Frames.{frame_at}
use Rattle.octet_marks.specs.Laws.{PieceIsReadAgain, FrontOfPieceIsCut, CutFileIsReadUpToThere}
use Rattle.octet_marks.specs.Marks.{number_of}
use Rattle.octet_marks.specs.Reading.{Read, fresh, piece_bytes, head_at, later_at, piece_at}
use Rattle.octet_marks.specs.Spellings.{HasSource, IsSpelled, IsPiece, threads_after, Leads}
use Rattle.octet_marks.specs.Standing.{standing_at, accesses_in, events_in, advanced, block_after, end_after}
use Rattle.octet_marks.proofs.Parts.{block_fits}
use Rattle.octet_blocks.specs.Files.{pieces_of, IsOfOne, HasItsMarks, AreBehind, file_bytes}
use Rattle.octet_blocks.specs.Laws.{GoesOn, IsReadOf, IsCutIn, IsReadWhole, FileIsNeverRefused}
use Rattle.octet_blocks.specs.Writing.{AreOfThread}
use Rattle.octet_blocks.proofs.Own.{stands_in_all, events_before}

-- ---- a piece that a writer made has bytes of its own
mark_spelled : (threads thread : ℕ) (m : Gapped) → threads ≤ 16 → is_mark threads thread m.mark ≡ true → m.gap < 2 ^ 32 → IsSpelled m
mark_spelled threads thread m few is gap = let s = named m.mark is in record { source = s.0; gap = gap; number = s.1 }
  where
    named : (mark : Mark) → is_mark threads thread mark ≡ true → HasSource mark × (number_of mark < 2 ^ 64)
    named (Join from upto) is = (
      omega (arith, few, ltb-true from threads (and_first (ltb from threads) (not (eqb from thread)) (and_first (ltb from threads && not (eqb from thread)) (ltb upto (2 ^ 64)) is))),
      ltb-true upto (2 ^ 64) (and_second (ltb from threads && not (eqb from thread)) (ltb upto (2 ^ 64)) is),
    )
    named (Draw number) is = (tt, ltb-true number (2 ^ 64) (and_second (leb 1 number) (ltb number (2 ^ 64)) is))
    named (Fence number) is = (tt, ltb-true number (2 ^ 64) (and_second (leb 1 number) (ltb number (2 ^ 64)) is))

marks_spelled : (threads thread : ℕ) (marks : List Gapped) → threads ≤ 16 → list_all (λ m. is_mark threads thread m.mark) marks ≡ true → AllByRecursion (λ m. m.gap < 2 ^ 32) marks → AllByRecursion IsSpelled marks
marks_spelled threads thread [] few are gaps = tt
marks_spelled threads thread (m ∷ marks) few are gaps =
    let first = is_mark threads thread m.mark in
    let others = list_all (λ x. is_mark threads thread x.mark) marks in
    (mark_spelled threads thread m few (and_first first others are) gaps.0, marks_spelled threads thread marks few (and_second first others are) gaps.1)

-- ---- a piece may stand next
-- the pieces behind the head lead to these threads
record Reached (head : Head) (before : List Piece) (threads : List Progress) : Type 0 where
  leads : Leads [] (pieces.Head head ∷ before) threads
  count : length threads ≡ head.threads

leads_more : (threads : List Progress) (all : List Piece) (mid : List Progress) (piece : Piece) (next : List Progress) → Leads threads all mid → IsPiece piece → threads_after mid piece ≡ Ok next → Leads threads (all ++ piece ∷ []) next
leads_more threads [] mid piece next leads is stands = (next, is, ap (λ (t : List Progress). threads_after t piece) leads ∙ stands, refl)
leads_more threads (x ∷ all) mid piece next leads is stands = (leads.0, leads.1, leads.2, leads_more leads.0 all mid piece next leads.3 is stands)

block_stands : (threads : List Progress) (block : Block) (p : Progress) → eqb (length threads) 0 ≡ false → slice_get threads block.thread ≡ Some p → p.ended ≡ false → eqb p.events block.first ≡ true
    → list_all (λ m. is_mark (length threads) block.thread m.mark) block.marks ≡ true → leb (p.accesses + accesses_in block) 4398046511104 ≡ true → ltb (p.events + events_in block) (2 ^ 64) ≡ true
    → threads_after threads (pieces.Block block) ≡ Ok (slice_set threads block.thread (record { events = p.events + events_in block; accesses = p.accesses + accesses_in block; ended = false }))
unfolding block_after standing_at advanced
block_stands threads block p known at goes_on first marks short counted = rw (known, at, goes_on, first, marks, short, counted) refl

end_stands : (threads : List Progress) (end : End) (p : Progress) → eqb (length threads) 0 ≡ false → slice_get threads end.thread ≡ Some p → p.ended ≡ false → eqb p.events end.events ≡ true
    → threads_after threads (pieces.End end) ≡ Ok (slice_set threads end.thread (record { events = p.events; accesses = p.accesses; ended = true }))
unfolding end_after standing_at
end_stands threads end p known at goes_on events = rw (known, at, goes_on, events) refl

known : (head : Head) (threads : List Progress) → 1 ≤ head.threads → length threads ≡ head.threads → eqb (length threads) 0 ≡ false
known head threads some count = ne_eqb (length threads) 0 (λ none. absurd (omega (arith, none, some, count)))

moves : (head : Head) (before : List Piece) (threads : List Progress) (piece : Piece) (thread : ℕ) (progress : Progress) → Reached head before threads → IsPiece piece
    → threads_after threads piece ≡ Ok (slice_set threads thread progress) → Reached head (before ++ piece ∷ []) (slice_set threads thread progress)
moves head before threads piece thread progress reached is stands = record {
  leads = leads_more [] (pieces.Head head ∷ before) threads piece (slice_set threads thread progress) reached.leads is stands;
  count = length-set threads thread progress ∙ reached.count;
}

accesses_within : (thread : ℕ) (before rest : List Piece) (block : Block) (most : ℕ) → block.thread ≡ thread → sum_by (accesses_at thread) (before ++ pieces.Block block ∷ rest) ≤ most → sum_by (accesses_at thread) before + accesses_in block ≤ most
accesses_within thread before rest block most own short =
    let mine : accesses_at thread (pieces.Block block) ≡ accesses_in block = ap (λ b. cond b (accesses_in block) 0) (eq-eqb block.thread thread own) in
    omega (arith, short, mine, sum_by-append (accesses_at thread) before (pieces.Block block ∷ rest), sum_by-cons (accesses_at thread) (pieces.Block block) rest)

steps : ThreadsAreAsCounted → (head : Head) (all before : List Piece) (piece : Piece) (rest : List Piece) (threads : List Progress) → AreBehind head all → all ≡ before ++ piece ∷ rest
    → IsOfOne head.threads piece → HasItsMarks head.threads piece → Reached head before threads → (after : List Progress) × Reached head (before ++ piece ∷ []) after
steps counted head all before (pieces.Head other) rest threads behind parts one marks reached = absurd one
steps counted head all before (pieces.Block block) rest threads behind parts one marks reached =
    let thread = block.thread in
    let some = behind.head_is.some_thread in
    let stands = stands_in_all thread before (pieces.Block block) rest (eq-eqb thread thread refl) (subst (λ (l : List Piece). AreOfThread thread [] (pieces_of thread l)) parts (behind.in_order thread one)) in
    let fits = stands.1.2 in
    let progress = progress_in thread before in
    let short = accesses_within thread before rest block 4398046511104 refl (subst (λ (l : List Piece). sum_by (accesses_at thread) l ≤ 4398046511104) parts (behind.short thread one)) in
    let small : progress.events + events_in block < 2 ^ 64 = subst (λ (n : ℕ). n + events_in block < 2 ^ 64) stands.1.1 fits.events in
    let is : IsPiece (pieces.Block block) = record {
      first = omega (arith, fits.events);
      gap = fits.gap;
      digest = fits.digest;
      marks = marks_spelled head.threads thread block.marks behind.head_is.few_threads marks fits.gaps;
      short = block_fits block fits.few;
    } in
    let next : Progress = record { events = progress.events + events_in block; accesses = progress.accesses + accesses_in block; ended = false } in (
      slice_set threads thread next,
      moves head before threads (pieces.Block block) thread next reached is
          (block_stands threads block progress (known head threads some reached.count) (counted head before threads thread reached.leads one) stands.0 (eq-eqb progress.events block.first (sym stands.1.1))
          (subst (λ (n : ℕ). list_all (λ m. is_mark n thread m.mark) block.marks ≡ true) (sym reached.count) marks) (le-leb (progress.accesses + accesses_in block) 4398046511104 short) (lt-ltb (progress.events + events_in block) (2 ^ 64) small)),
    )
steps counted head all before (pieces.End end) rest threads behind parts one marks reached =
    let thread = end.thread in
    let some = behind.head_is.some_thread in
    let order : AreOfThread thread [] (pieces_of thread (before ++ pieces.End end ∷ rest)) = subst (λ (l : List Piece). AreOfThread thread [] (pieces_of thread l)) parts (behind.in_order thread one) in
    let stands = stands_in_all thread before (pieces.End end) rest (eq-eqb thread thread refl) order in
    let small : end.events < 2 ^ 64 = subst (λ (n : ℕ). n < 2 ^ 64) (sym stands.1.1) (events_before thread before (pieces.End end ∷ rest) order) in
    let progress = progress_in thread before in
    let next : Progress = record { events = progress.events; accesses = progress.accesses; ended = true } in (
      slice_set threads thread next,
      moves head before threads (pieces.End end) thread next reached small
          (end_stands threads end progress (known head threads some reached.count) (counted head before threads thread reached.leads one) stands.0 (eq-eqb progress.events end.events (sym stands.1.1))),
    )

-- ---- so all of them lead on
all_step : ThreadsAreAsCounted → (head : Head) (all before rest : List Piece) (threads : List Progress) → AreBehind head all → all ≡ before ++ rest → AllByRecursion (IsOfOne head.threads) rest
    → AllByRecursion (HasItsMarks head.threads) rest → Reached head before threads → (after : List Progress) × Reached head all after
all_step counted head all before [] threads behind parts one marks reached = (threads, subst (λ (l : List Piece). Reached head l threads) (sym (parts ∙ append-nil before)) reached)
all_step counted head all before (piece ∷ rest) threads behind parts one marks reached =
    let next = steps counted head all before piece rest threads behind parts one.0 marks.0 reached in
    all_step counted head all (before ++ piece ∷ []) rest next.0 behind (parts ∙ sym (append_assoc before (piece ∷ []) rest)) one.1 marks.1 next.1

pub all_lead : ThreadsAreAsCounted → (head : Head) (all : List Piece) → AreBehind head all → (threads : List Progress) × Leads [] (pieces.Head head ∷ all) threads
all_lead counted head all behind =
    let start : Reached head [] (replicate head.threads fresh) = record { leads = (replicate head.threads fresh, behind.head_is, refl, refl); count = length-replicate head.threads fresh } in
    let last = all_step counted head all [] all (replicate head.threads fresh) behind refl behind.of_one behind.marks start in
    (last.0, last.1.leads)

pub file_is_read : ThreadsAreAsCounted → (head : Head) (all : List Piece) → AreBehind head all → (unread : Unread) × (unread.bytes ≡ []) × HasRead (file_bytes head all) (pieces.Head head ∷ all) unread
file_is_read counted head all behind =
    let lead = all_lead counted head all behind in (
      record { threads = lead.0; place = min (length (file_bytes head all)) (2 ^ 64 - 1); bytes = [] },
      refl,
      record { leads = lead.1; parts = sym (append-nil (file_bytes head all)); place = refl },
    )

-- ---- two ways to read the same bytes
abbrev pub found : Read → Result (Option Read) MarksCause
found read = Ok (Some read)

found_is : (one other : Read) → found one ≡ found other → one ≡ other
found_is one other is = cc

-- a piece has bytes
no_bytes : (piece : Piece) (more left : List ℕ) → [] ≡ (piece_bytes piece ++ more) ++ left → ⊥
no_bytes (pieces.Head head) more left is = cc
no_bytes (pieces.Block block) more left is = cc
no_bytes (pieces.End end) more left is = cc

-- pieces that were read of the front of a file are its first pieces
record AreFirst (file read : List Piece) (after end : List Progress) (left : List ℕ) : Type 0 where
  later : List Piece
  parts : file ≡ read ++ later
  leads : Leads after later end
  bytes : flat_map piece_bytes later ≡ left

are_first : PieceIsReadAgain → (threads : List Progress) (file read : List Piece) (after end : List Progress) (left : List ℕ) → Leads threads file end → Leads threads read after
    → flat_map piece_bytes file ≡ flat_map piece_bytes read ++ left → AreFirst file read after end left
are_first again threads file [] after end left leads reads is = record { later = file; parts = refl; leads = subst (λ (t : List Progress). Leads t file end) reads leads; bytes = is }
are_first again threads [] (piece ∷ read) after end left leads reads is = absurd (no_bytes piece (flat_map piece_bytes read) left is)
are_first again threads (p ∷ file) (q ∷ read) after end left leads reads is =
    let behind = flat_map piece_bytes file in
    let others = flat_map piece_bytes read ++ left in
    let one : Read = record { piece = p; threads = leads.0; size = length (piece_bytes p) } in
    let other : Read = record { piece = q; threads = reads.0; size = length (piece_bytes q) } in
    let bytes : piece_bytes p ++ behind ≡ piece_bytes q ++ others = is ∙ append_assoc (piece_bytes q) (flat_map piece_bytes read) left in
    let same : one ≡ other = found_is one other (sym (again threads p leads.0 behind leads.1 leads.2) ∙ ap (λ (l : List ℕ). piece_at threads l) bytes ∙ again threads q reads.0 others reads.1 reads.2) in
    let same_piece : p ≡ q = ap (λ (r : Read). r.piece) same in
    let same_threads : leads.0 ≡ reads.0 = ap (λ (r : Read). r.threads) same in
    let rest : behind ≡ others = append_cancel_left (piece_bytes p) behind others (bytes ∙ ap (λ (x : Piece). piece_bytes x ++ others) (sym same_piece)) in
    let more = are_first again leads.0 file read after end left leads.3 (subst (λ (t : List Progress). Leads t read after) (sym same_threads) reads.3) rest in
    record { later = more.later; parts = λ i. same_piece i ∷ more.parts i; leads = more.leads; bytes = more.bytes }

-- ---- what comes next
none_at_end : (threads : List Progress) → piece_at threads [] ≡ Ok None
unfolding head_at later_at frame_at
none_at_end threads = elim (eqb (length threads) 0) as (λ b. cond b (head_at []) (later_at threads []) ≡ Ok None) [ true ↦ refl | false ↦ refl ]

nothing_left : (bytes rest : List ℕ) → [] ≡ bytes ++ rest → bytes ≡ []
nothing_left [] rest is = refl
nothing_left (byte ∷ bytes) rest is = absurd cc

shorter : (a b c d : List ℕ) → a ++ b ≡ c ++ d → length c < length a → (next : ℕ) × (rest : List ℕ) × (a ≡ c ++ next ∷ rest)
shorter [] b c d is less = absurd (omega (arith, less))
shorter (x ∷ a) b [] d is less = (x, a, refl)
shorter (x ∷ a) b (y ∷ c) d is less =
    let first : x ≡ y = cc in
    let more = shorter a b c d (cc) (omega (arith, less)) in
    (more.0, more.1, λ i. first i ∷ more.2 i)

longer : (a b c d : List ℕ) → a ++ b ≡ c ++ d → length a ≤ length c → (rest : List ℕ) × (c ≡ a ++ rest)
longer [] b c d is most = (c, refl)
longer (x ∷ a) b [] d is most = absurd (omega (arith, most))
longer (x ∷ a) b (y ∷ c) d is most =
    let first : y ≡ x = cc in
    let more = longer a b c d (cc) (omega (arith, most)) in
    (more.0, λ i. first i ∷ more.1 i)

goes_on : PieceIsReadAgain → FrontOfPieceIsCut → (unread : Unread) (later : List Piece) (end : List Progress) (rest : List ℕ) → Leads unread.threads later end → flat_map piece_bytes later ≡ unread.bytes ++ rest → GoesOn later unread
goes_on again cut unread [] end rest leads is =
    let none = nothing_left unread.bytes rest is in
    (none, ap (λ (l : List ℕ). piece_at unread.threads l) none ∙ none_at_end unread.threads)
goes_on again cut unread (piece ∷ later) end rest leads is = elim (cases_lt (length unread.bytes) (length (piece_bytes piece))) [
  | inl less ↦
      let front = shorter (piece_bytes piece) (flat_map piece_bytes later) unread.bytes rest is less in
      inr (less, cut unread.threads piece leads.0 unread.bytes front.0 front.1 leads.1 leads.2 front.2)
  | inr most ↦
      let whole = longer (piece_bytes piece) (flat_map piece_bytes later) unread.bytes rest is most in
      let read : Read = record { piece = piece; threads = leads.0; size = length (piece_bytes piece) } in
      inl (after_read unread read, record { read = read; is = ap (λ (l : List ℕ). piece_at unread.threads l) whole.1 ∙ again unread.threads piece leads.0 whole.0 leads.1 leads.2; piece_is = refl; after_is = refl })
]

pub never_refused : ThreadsAreAsCounted → PieceIsReadAgain → FrontOfPieceIsCut → (head : Head) (all : List Piece) (fed rest : List ℕ) (read : List Piece) (unread : Unread) → AreBehind head all
    → file_bytes head all ≡ fed ++ rest → HasRead fed read unread → IsReadOf (pieces.Head head ∷ all) read unread rest
never_refused counted again cut head all fed rest read unread behind bytes has =
    let lead = all_lead counted head all behind in
    let file = pieces.Head head ∷ all in
    let same : flat_map piece_bytes file ≡ flat_map piece_bytes read ++ (unread.bytes ++ rest) = bytes ∙ ap (λ (l : List ℕ). l ++ rest) has.parts ∙ append_assoc (flat_map piece_bytes read) unread.bytes rest in
    let first = are_first again [] file read unread.threads lead.0 (unread.bytes ++ rest) lead.1 has.leads same in
    record { later = first.later; parts = first.parts; left = first.bytes; next = goes_on again cut unread first.later lead.0 rest first.leads first.bytes }

-- ---- a file that is cut
pub some_is_not_none : (read : Read) → found read ≡ Ok None → ⊥
some_is_not_none read is = cc

is_cut_in : (later : List Piece) (unread : Unread) → GoesOn later unread → piece_at unread.threads unread.bytes ≡ Ok None → IsCutIn later unread.bytes
is_cut_in [] unread next none = next.0
is_cut_in (piece ∷ later) unread next none = elim next [
  | inl found ↦ absurd (some_is_not_none found.1.read (sym found.1.is ∙ none))
  | inr cut ↦ cut.0
]

pub cut_file_is_read : FileIsNeverRefused → CutFileIsReadUpToThere → (head : Head) (all : List Piece) (front rest : List ℕ) (whole : Unread) → AreBehind head all → whole.bytes ≡ [] → HasRead (file_bytes head all) (pieces.Head head ∷ all) whole
    → file_bytes head all ≡ front ++ rest → IsReadWhole (pieces.Head head ∷ all) front
cut_file_is_read refuses_none up_to_there head all front [] whole behind none has bytes =
    let file = pieces.Head head ∷ all in record {
      read = file;
      later = [];
      unread = whole;
      parts = sym (append-nil file);
      has = subst (λ (l : List ℕ). HasRead l file whole) (bytes ∙ append-nil front) has;
      cut = none;
      none = ap (λ (l : List ℕ). piece_at whole.threads l) none ∙ none_at_end whole.threads;
    }
cut_file_is_read refuses_none up_to_there head all front (next ∷ rest) whole behind none has bytes =
    let file = pieces.Head head ∷ all in
    let cut = up_to_there [] file whole.threads front next rest has.leads bytes in
    let unread : Unread = record { threads = cut.after; place = min (length (flat_map piece_bytes cut.read)) (2 ^ 64 - 1); bytes = cut.left } in
    let reads : HasRead front cut.read unread = record { leads = cut.leads; parts = cut.parts; place = refl } in
    let of = refuses_none head all front (next ∷ rest) cut.read unread behind bytes reads in
    record { read = cut.read; later = of.later; unread = unread; parts = of.parts; has = reads; cut = is_cut_in of.later unread of.next cut.cut; none = cut.cut }
