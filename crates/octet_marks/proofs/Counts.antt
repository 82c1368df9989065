-- How far the threads are is what the pieces say, counted.
use Rattle.std.proofs.Common.{◌≡◌, ◌≢◌, ℕ, zero, suc, ◌+◌, ◌^◌, ◌<◌, ◌≤◌, ◌||◌, not, Bool, true, false, cond, eqb, ltb, leb, List, [], ◌∷◌, ◌++◌, length, Option, Some, None, Ok, Err, refl, sym, ap, subst, ◌∙◌, arith, sum_by, add-zero, zero-add}
use Rattle.std.specs.Prelude.{slice_get, slice_set, replicate}
use Rattle.std.specs.List.{list_all, list_any}
use Rattle.std.proofs.lemmas.Bool.{eqb-true, eqb-false, ne_eqb, leb-true}
use Rattle.std.proofs.lemmas.List.{length-set}
use Rattle.std.proofs.lemmas.Option.{slice_get_within}
use Rattle.std.proofs.lemmas.List.Sums.{sum_by-cons}
use Rattle.octet_model.specs.Log.{is_mark}
use Rattle.octet_marks.specs.declared.cause.MarksCause.TheVariants.{AfterEnd, OutOfOrder, BadMark, TooLong, BadKind}
use Rattle.octet_marks.specs.declared.piece.Head.{Head}
use Rattle.octet_marks.specs.declared.piece.Block.{Block}
use Rattle.octet_marks.specs.declared.piece.End.{End}
use Rattle.octet_marks.specs.declared.piece.Piece.{Piece}
use Rattle.octet_marks.specs.declared.piece.Piece.TheVariants as pieces
use Rattle.octet_marks.specs.declared.progress.Progress.{Progress}
use Rattle.octet_marks.specs.Judging.{◌>>=◌, wanted}
use Rattle.octet_marks.specs.Reading.{fresh}
use Rattle.octet_marks.specs.Spellings.{threads_after, Leads}
use Rattle.octet_marks.specs.Standing.{standing_at, accesses_in, events_in, advanced, block_after, end_after}
use Rattle.octet_marks.specs.Counts.{events_at, accesses_at, is_end_of, progress_in, StandsInOrder, EndsInOrder}
use Rattle.octet_marks.proofs.Framed.{bind_ok}
use Rattle.octet_marks.proofs.Takes.{some_is}
use Rattle.octet_marks.proofs.Whole.{wanted_ok, ok_is}

-- a thread that is at so many events, and has not ended
record IsAt (all : Option Progress) (events : ℕ) (progress : Progress) : Type 0 where
  is : all ≡ Some progress
  goes_on : progress.ended ≡ false
  events_are : progress.events ≡ events

not_true : (b : Bool) → not b ≡ true → b ≡ false
not_true true e = sym e
not_true false e = refl

standing_is : (all : Option Progress) (events : ℕ) (progress : Progress) → standing_at all events ≡ Ok progress → IsAt all events progress
unfolding standing_at
standing_is None events progress e = absurd cc
standing_is (Some p) events progress e =
    let a = wanted_ok (not p.ended) AfterEnd (λ goes_on. wanted (eqb p.events events) OutOfOrder >>= λ in_order. Ok p) progress e in
    let b = wanted_ok (eqb p.events events) OutOfOrder (λ in_order. Ok p) progress a.1 in
    subst (IsAt (Some p) events) (ok_is p progress b.1) (record { is = refl; goes_on = not_true p.ended a.0; events_are = eqb-true p.events events b.0 })

abbrev moved : Progress → Block → Progress
moved before block = record { events = before.events + events_in block; accesses = before.accesses + accesses_in block; ended = false }

-- a block that may stand next, by how far its thread is before it
record Moves (threads : List Progress) (block : Block) (after : Progress) : Type 0 where
  before : Progress
  at : IsAt (slice_get threads block.thread) block.first before
  marks : list_all (λ m. is_mark (length threads) block.thread m.mark) block.marks ≡ true
  short : before.accesses + accesses_in block ≤ 4398046511104
  after_is : after ≡ moved before block

block_moves : (threads : List Progress) (block : Block) (after : Progress) → block_after threads block ≡ Ok after → Moves threads block after
unfolding block_after advanced
block_moves threads block after e =
    let s = bind_ok (standing_at (slice_get threads block.thread) block.first) (λ before. wanted (list_all (λ m. is_mark (length threads) block.thread m.mark) block.marks) BadMark >>= λ marks. advanced before block) after e in
    let m = wanted_ok (list_all (λ m. is_mark (length threads) block.thread m.mark) block.marks) BadMark (λ marks. advanced s.0 block) after s.2 in
    let a = wanted_ok (leb (s.0.accesses + accesses_in block) 4398046511104) TooLong (λ short. wanted (ltb (s.0.events + events_in block) (2 ^ 64)) TooLong >>= λ counted. Ok (moved s.0 block)) after m.1 in
    let c = wanted_ok (ltb (s.0.events + events_in block) (2 ^ 64)) TooLong (λ counted. Ok (moved s.0 block)) after a.1 in
    record {
      before = s.0;
      at = standing_is (slice_get threads block.thread) block.first s.0 s.1;
      marks = m.0;
      short = leb-true (s.0.accesses + accesses_in block) 4398046511104 a.0;
      after_is = sym (ok_is (moved s.0 block) after c.1);
    }

abbrev closed : Progress → Progress
closed before = record { events = before.events; accesses = before.accesses; ended = true }

-- an end that may stand next
record Closes (threads : List Progress) (end : End) (after : Progress) : Type 0 where
  before : Progress
  at : IsAt (slice_get threads end.thread) end.events before
  after_is : after ≡ closed before

end_closes : (threads : List Progress) (end : End) (after : Progress) → end_after threads end ≡ Ok after → Closes threads end after
unfolding end_after
end_closes threads end after e =
    let s = bind_ok (standing_at (slice_get threads end.thread) end.events) (λ before. Ok (closed before)) after e in
    record { before = s.0; at = standing_is (slice_get threads end.thread) end.events s.0 s.1; after_is = sym (ok_is (closed s.0) after s.2) }

get_set_same : {A : Type 0} (xs : List A) (i : ℕ) (x y : A) → slice_get xs i ≡ Some x → slice_get (slice_set xs i y) i ≡ Some y
get_set_same [] i x y e = absurd cc
get_set_same (z ∷ xs) zero x y e = refl
get_set_same (z ∷ xs) (suc i) x y e = get_set_same xs i x y e

get_set_other : {A : Type 0} (xs : List A) (i j : ℕ) (y : A) → i ≢ j → slice_get (slice_set xs i y) j ≡ slice_get xs j
get_set_other [] i j y other = refl
get_set_other (z ∷ xs) zero zero y other = absurd (other refl)
get_set_other (z ∷ xs) zero (suc j) y other = refl
get_set_other (z ∷ xs) (suc i) zero y other = refl
get_set_other (z ∷ xs) (suc i) (suc j) y other = get_set_other xs i j y (λ e. other (ap suc e))

-- a progress and what pieces add to it
abbrev plus : Progress → Progress → Progress
plus a b = record { events = a.events + b.events; accesses = a.accesses + b.accesses; ended = a.ended || b.ended }

-- what one piece adds
abbrev added_by : ℕ → Piece → Progress
added_by thread piece = record { events = events_at thread piece; accesses = accesses_at thread piece; ended = is_end_of thread piece }

or_false : (b : Bool) → b ≡ (b || false)
or_false true = refl
or_false false = refl

or_true : (b : Bool) → true ≡ (b || true)
or_true true = refl
or_true false = refl

or_assoc : (a b c : Bool) → ((a || b) || c) ≡ (a || (b || c))
or_assoc true b c = refl
or_assoc false b c = refl

plus_nothing : (p : Progress) → p ≡ plus p (record { events = 0; accesses = 0; ended = false })
plus_nothing p = λ i. record { events = sym (add-zero p.events) i; accesses = sym (add-zero p.accesses) i; ended = or_false p.ended i }

-- how far the threads are after a piece behind the head
record Steps (threads : List Progress) (piece : Piece) (next : List Progress) : Type 0 where
  length_is : length next ≡ length threads
  get : (thread : ℕ) (p : Progress) → slice_get threads thread ≡ Some p → slice_get next thread ≡ Some (plus p (added_by thread piece))

known : (threads : List Progress) → 1 ≤ length threads → eqb (length threads) 0 ≡ false
known threads some = ne_eqb (length threads) 0 (λ e. absurd (omega (arith, e, some)))

block_next : (threads : List Progress) (block : Block) (next : List Progress) → 1 ≤ length threads → threads_after threads (pieces.Block block) ≡ Ok next → (after : Progress) × (block_after threads block ≡ Ok after) × (slice_set threads block.thread after ≡ next)
block_next threads block next some e =
    let is : (block_after threads block >>= λ progress. Ok (slice_set threads block.thread progress)) ≡ Ok next = rw (known threads some) at e in
    let b = bind_ok (block_after threads block) (λ progress. Ok (slice_set threads block.thread progress)) next is in
    (b.0, b.1, ok_is (slice_set threads block.thread b.0) next b.2)

end_next : (threads : List Progress) (end : End) (next : List Progress) → 1 ≤ length threads → threads_after threads (pieces.End end) ≡ Ok next → (after : Progress) × (end_after threads end ≡ Ok after) × (slice_set threads end.thread after ≡ next)
end_next threads end next some e =
    let is : (end_after threads end >>= λ progress. Ok (slice_set threads end.thread progress)) ≡ Ok next = rw (known threads some) at e in
    let b = bind_ok (end_after threads end) (λ progress. Ok (slice_set threads end.thread progress)) next is in
    (b.0, b.1, ok_is (slice_set threads end.thread b.0) next b.2)

block_get : (threads next : List Progress) (block : Block) (after : Progress) (thread : ℕ) (p : Progress) → slice_set threads block.thread after ≡ next → Moves threads block after → slice_get threads thread ≡ Some p
    → slice_get next thread ≡ Some (plus p (added_by thread (pieces.Block block)))
block_get threads next block after thread p next-is moves here =
    elim (eqb block.thread thread) as (λ b. eqb block.thread thread ≡ b → slice_get next thread ≡ Some (plus p (record { events = cond b (events_in block) 0; accesses = cond b (accesses_in block) 0; ended = false }))) [
      | true ↦ λ e.
          let same : block.thread ≡ thread = eqb-true block.thread thread e in
          let at : slice_get threads block.thread ≡ Some p = ap (slice_get threads) same ∙ here in
          let before : moves.before ≡ p = some_is moves.before p (sym moves.at.is ∙ at) in
          let ended : p.ended ≡ false = subst (λ (x : Progress). x.ended ≡ false) before moves.at.goes_on in
          let last : moved p block ≡ plus p (record { events = events_in block; accesses = accesses_in block; ended = false }) =
          λ i. record { events = p.events + events_in block; accesses = p.accesses + accesses_in block; ended = (sym ended ∙ or_false p.ended) i } in
          ap (slice_get next) (sym same) ∙ ap (λ l. slice_get l block.thread) (sym next-is) ∙ get_set_same threads block.thread p after at
          ∙ ap (λ (x : Progress). Some x) (moves.after_is ∙ ap (λ (x : Progress). moved x block) before ∙ last)
      | false ↦ λ e.
          ap (λ l. slice_get l thread) (sym next-is) ∙ get_set_other threads block.thread thread after (eqb-false block.thread thread e) ∙ here
          ∙ ap (λ (x : Progress). Some x) (plus_nothing p)
    ] refl

end_get : (threads next : List Progress) (end : End) (after : Progress) (thread : ℕ) (p : Progress) → slice_set threads end.thread after ≡ next → Closes threads end after → slice_get threads thread ≡ Some p
    → slice_get next thread ≡ Some (plus p (added_by thread (pieces.End end)))
end_get threads next end after thread p next-is closes here =
    elim (eqb end.thread thread) as (λ b. eqb end.thread thread ≡ b → slice_get next thread ≡ Some (plus p (record { events = 0; accesses = 0; ended = b }))) [
      | true ↦ λ e.
          let same : end.thread ≡ thread = eqb-true end.thread thread e in
          let at : slice_get threads end.thread ≡ Some p = ap (slice_get threads) same ∙ here in
          let before : closes.before ≡ p = some_is closes.before p (sym closes.at.is ∙ at) in
          let last : closed p ≡ plus p (record { events = 0; accesses = 0; ended = true }) =
          λ i. record { events = sym (add-zero p.events) i; accesses = sym (add-zero p.accesses) i; ended = or_true p.ended i } in
          ap (slice_get next) (sym same) ∙ ap (λ l. slice_get l end.thread) (sym next-is) ∙ get_set_same threads end.thread p after at
          ∙ ap (λ (x : Progress). Some x) (closes.after_is ∙ ap closed before ∙ last)
      | false ↦ λ e.
          ap (λ l. slice_get l thread) (sym next-is) ∙ get_set_other threads end.thread thread after (eqb-false end.thread thread e) ∙ here
          ∙ ap (λ (x : Progress). Some x) (plus_nothing p)
    ] refl

piece_steps : (threads : List Progress) (piece : Piece) (next : List Progress) → 1 ≤ length threads → threads_after threads piece ≡ Ok next → Steps threads piece next
piece_steps threads (pieces.Head head) next some e = absurd (head_fails next (rw (known threads some) at e))
  where
    head_fails : (next : List Progress) → Err BadKind ≡ Ok next → ⊥
    head_fails next e = cc
piece_steps threads (pieces.Block block) next some e =
    let n = block_next threads block next some e in
    record { length_is = ap (λ (l : List Progress). length l) (sym n.2) ∙ length-set threads block.thread n.0; get = λ thread p here. block_get threads next block n.0 thread p n.2 (block_moves threads block n.0 n.1) here }
piece_steps threads (pieces.End end) next some e =
    let n = end_next threads end next some e in
    record { length_is = ap (λ (l : List Progress). length l) (sym n.2) ∙ length-set threads end.thread n.0; get = λ thread p here. end_get threads next end n.0 thread p n.2 (end_closes threads end n.0 n.1) here }

-- how far the threads are after pieces behind the head
record Leaves (threads : List Progress) (all : List Piece) (after : List Progress) : Type 0 where
  length_is : length after ≡ length threads
  get : (thread : ℕ) (p : Progress) → slice_get threads thread ≡ Some p → slice_get after thread ≡ Some (plus p (progress_in thread all))

add_assoc : (a b c : ℕ) → a + b + c ≡ a + (b + c)
add_assoc a b c = omega arith

leads_leaves : (threads : List Progress) (all : List Piece) (after : List Progress) → 1 ≤ length threads → Leads threads all after → Leaves threads all after
leads_leaves threads [] after some leads = record {
  length_is = ap (λ (l : List Progress). length l) (sym leads);
  get = λ thread p here. ap (λ l. slice_get l thread) (sym leads) ∙ here ∙ ap (λ (x : Progress). Some x) (plus_nothing p);
}
leads_leaves threads (piece ∷ all) after some leads =
    let first = piece_steps threads piece leads.0 some leads.2 in
    let more = leads_leaves leads.0 all after (omega (arith, first.length_is, some)) leads.3 in
    record {
      length_is = more.length_is ∙ first.length_is;
      get = λ thread p here.
          more.get thread (plus p (added_by thread piece)) (first.get thread p here)
          ∙ (λ i. Some (record {
            events = (add_assoc p.events (events_at thread piece) (sum_by (events_at thread) all) ∙ ap (λ n. p.events + n) (sym (sum_by-cons (events_at thread) piece all))) i;
            accesses = (add_assoc p.accesses (accesses_at thread piece) (sum_by (accesses_at thread) all) ∙ ap (λ n. p.accesses + n) (sym (sum_by-cons (accesses_at thread) piece all))) i;
            ended = or_assoc p.ended (is_end_of thread piece) (list_any (is_end_of thread) all) i;
          }));
    }

get_replicate : (count i : ℕ) → i < count → slice_get (replicate count fresh) i ≡ Some fresh
get_replicate zero i within = absurd (omega (arith, within))
get_replicate (suc count) zero within = refl
get_replicate (suc count) (suc i) within = get_replicate count i (omega (arith, within))

length_replicate : (count : ℕ) → length (replicate count fresh) ≡ count
length_replicate zero = refl
length_replicate (suc count) = ap suc (length_replicate count)

-- how far the threads are behind a head and pieces
record Stands (head : Head) (all : List Piece) (threads : List Progress) : Type 0 where
  length_is : length threads ≡ head.threads
  get : (thread : ℕ) → thread < head.threads → slice_get threads thread ≡ Some (progress_in thread all)

head_stands : (head : Head) (all : List Piece) (threads : List Progress) → Leads [] (pieces.Head head ∷ all) threads → Stands head all threads
head_stands head all threads leads =
    let next-is : replicate head.threads fresh ≡ leads.0 = ok_is (replicate head.threads fresh) leads.0 leads.2 in
    let count : length leads.0 ≡ head.threads = ap (λ (l : List Progress). length l) (sym next-is) ∙ length_replicate head.threads in
    let more = leads_leaves leads.0 all threads (omega (arith, count, leads.1.some_thread)) leads.3 in
    record {
      length_is = more.length_is ∙ count;
      get = λ thread within.
          more.get thread fresh (ap (λ l. slice_get l thread) (sym next-is) ∙ get_replicate head.threads thread within)
          ∙ (λ i. Some (record { events = zero-add (sum_by (events_at thread) all) i; accesses = zero-add (sum_by (accesses_at thread) all) i; ended = list_any (is_end_of thread) all }));
    }

pub are_counted : (head : Head) (all : List Piece) (threads : List Progress) (thread : ℕ) → Leads [] (pieces.Head head ∷ all) threads → thread < head.threads → slice_get threads thread ≡ Some (progress_in thread all)
are_counted head all threads thread leads within = (head_stands head all threads leads).get thread within

-- what stands before a piece, and the piece
record Parted (threads : List Progress) (before : List Piece) (piece : Piece) : Type 0 where
  mid : List Progress
  next : List Progress
  leads : Leads threads before mid
  stands : threads_after mid piece ≡ Ok next

part : (threads : List Progress) (before : List Piece) (piece : Piece) (rest : List Piece) (after : List Progress) → Leads threads (before ++ piece ∷ rest) after → Parted threads before piece
part threads [] piece rest after leads = record { mid = threads; next = leads.0; leads = refl; stands = leads.2 }
part threads (x ∷ before) piece rest after leads =
    let more = part leads.0 before piece rest after leads.3 in
    record { mid = more.mid; next = more.next; leads = (leads.0, leads.1, leads.2, more.leads); stands = more.stands }

pub block_in_order : (head : Head) (before : List Piece) (block : Block) (rest : List Piece) (threads : List Progress) → Leads [] (pieces.Head head ∷ (before ++ pieces.Block block ∷ rest)) threads → StandsInOrder head before block
block_in_order head before block rest threads leads =
    let parted = part [] (pieces.Head head ∷ before) (pieces.Block block) rest threads leads in
    let stands = head_stands head before parted.mid parted.leads in
    let next = block_next parted.mid block parted.next (omega (arith, stands.length_is, leads.1.some_thread)) parted.stands in
    let moves = block_moves parted.mid block next.0 next.1 in
    let within : block.thread < head.threads = subst (λ (n : ℕ). block.thread < n) stands.length_is (slice_get_within parted.mid block.thread moves.before moves.at.is) in
    let is : moves.before ≡ progress_in block.thread before = some_is moves.before (progress_in block.thread before) (sym moves.at.is ∙ stands.get block.thread within) in
    record {
      thread = within;
      goes_on = subst (λ (p : Progress). p.ended ≡ false) is moves.at.goes_on;
      first = sym (subst (λ (p : Progress). p.events ≡ block.first) is moves.at.events_are);
      marks = subst (λ (n : ℕ). list_all (λ m. is_mark n block.thread m.mark) block.marks ≡ true) stands.length_is moves.marks;
      short = subst (λ (p : Progress). p.accesses + accesses_in block ≤ 4398046511104) is moves.short;
    }

pub end_in_order : (head : Head) (before : List Piece) (end : End) (rest : List Piece) (threads : List Progress) → Leads [] (pieces.Head head ∷ (before ++ pieces.End end ∷ rest)) threads → EndsInOrder head before end
end_in_order head before end rest threads leads =
    let parted = part [] (pieces.Head head ∷ before) (pieces.End end) rest threads leads in
    let stands = head_stands head before parted.mid parted.leads in
    let next = end_next parted.mid end parted.next (omega (arith, stands.length_is, leads.1.some_thread)) parted.stands in
    let closes = end_closes parted.mid end next.0 next.1 in
    let within : end.thread < head.threads = subst (λ (n : ℕ). end.thread < n) stands.length_is (slice_get_within parted.mid end.thread closes.before closes.at.is) in
    let is : closes.before ≡ progress_in end.thread before = some_is closes.before (progress_in end.thread before) (sym closes.at.is ∙ stands.get end.thread within) in
    record {
      thread = within;
      goes_on = subst (λ (p : Progress). p.ended ≡ false) is closes.at.goes_on;
      events = sym (subst (λ (p : Progress). p.events ≡ end.events) is closes.at.events_are);
    }
