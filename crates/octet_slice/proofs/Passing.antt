-- One more mark is passed: what is gathered stays in the past, and fewer marks are left.
use Rattle.std.proofs.Common.{◌≡◌, ℕ, zero, suc, ◌-◌, ◌<◌, ◌≤◌, ◌⊎◌, inl, inr, true, List, [], ◌∷◌, length, get_or, set, Some, refl, sym, ap, ◌∙◌, subst, arith}
use Rattle.std.proofs.lemmas.List.{length-set, length-map, get_or-map, get_or_default}
use Rattle.octet_model.specs.declared.event.Event.{Event}
use Rattle.octet_model.specs.declared.event.Event.TheVariants.{Marked}
use Rattle.octet_model.specs.declared.event.Mark.{Mark}
use Rattle.octet_model.specs.declared.event.Mark.TheVariants.{Join, Draw, Fence}
use Rattle.octet_model.specs.declared.log.ThreadLog.{ThreadLog}
use Rattle.octet_model.specs.Journals.{log_of_journal}
use Rattle.octet_model.specs.Machine.{Journals, journal_of}
use Rattle.octet_model.proofs.lemmas.Pasts.{place}
use Rattle.octet_slice.specs.declared.cursor.Cursor.{Cursor}
use Rattle.octet_slice.specs.declared.cursor.Placed.{Placed}
use Rattle.octet_slice.specs.declared.gathering.Reach.{Reach}
use Rattle.octet_slice.specs.code.Cursors.{past_mark, IsCursorOf, IsFirstMark, IsLogOfOne}
use Rattle.octet_slice.specs.Gathering.{AreOfLog, IsPartOfPast}
use Rattle.octet_slice.specs.code.Advancing.{Advances}
use Rattle.octet_slice.specs.code.Reached.{no_reach, reach_of, count_of, Gathered, raised, raised_by, with_taken_in, with_searched, left_of, left}
use Rattle.octet_slice.proofs.Growing.{raised_reach, raised_to, taken_counts, raised_taken_in, raised_searched, take_part, take_is, gather_part, taken_in_part, searched_part}

-- ---- how many marks are left

left_fewer : (logs : List ThreadLog) (threads : List Reach) (t : ℕ) (log : ThreadLog) (reach : Reach) → t < length logs → t < length threads → log ≡ get_or logs t log
    → left_of log reach < left_of log (reach_of threads t) → left logs (set threads t reach) < left logs threads
left_fewer [] threads t log reach here there is fewer = absurd (omega arith)
left_fewer (l ∷ logs) [] t log reach here there is fewer = absurd (omega arith)
left_fewer (l ∷ logs) (r ∷ threads) zero log reach here there is fewer = omega (arith, fewer, ap (λ (m : ThreadLog). left_of m reach) is, ap (λ (m : ThreadLog). left_of m r) is)
left_fewer (l ∷ logs) (r ∷ threads) (suc t) log reach here there is fewer = omega (arith, left_fewer logs threads t log reach (omega arith) (omega arith) is fewer)

left_same : (logs : List ThreadLog) (threads : List Reach) (t : ℕ) (reach : Reach) → reach.taken_in ≡ (reach_of threads t).taken_in → reach.searched ≡ (reach_of threads t).searched
    → left logs (set threads t reach) ≡ left logs threads
left_same [] threads t reach p q = refl
left_same (l ∷ logs) [] t reach p q = refl
left_same (l ∷ logs) (r ∷ threads) zero reach p q = omega (arith, ap (λ (c : Cursor). length l.marks - c.marks) p, ap (λ (c : Cursor). length l.marks - c.marks) q)
left_same (l ∷ logs) (r ∷ threads) (suc t) reach p q = omega (arith, left_same logs threads t reach p q)

left_taken : (logs : List ThreadLog) (g : Gathered) (mark : Mark) → left logs (raised_by g mark).threads ≡ left logs g.threads
left_taken logs g (Join from upto) = left_same logs g.threads from _ refl refl
left_taken logs g (Draw number) = refl
left_taken logs g (Fence number) = refl

many_taken : (g : Gathered) (mark : Mark) → length (raised_by g mark).threads ≡ length g.threads
many_taken g (Join from upto) = length-set g.threads from _
many_taken g (Draw number) = refl
many_taken g (Fence number) = refl

taken_inside : (g : Gathered) (mark : Mark) (u : ℕ) → (reach_of (raised_by g mark).threads u).taken_in ≡ (reach_of g.threads u).taken_in
taken_inside g (Join from upto) u = raised_taken_in g from upto u
taken_inside g (Draw number) u = refl
taken_inside g (Fence number) u = refl

-- ---- the two steps

pub log_of_one : (journals : Journals) (logs : List ThreadLog) (are : AreOfLog journals logs) (t : ℕ) (log : ThreadLog) → t < length logs → log ≡ get_or logs t log → IsLogOfOne (journal_of journals t) log
log_of_one journals logs are t log lt is =
    let there : t < length journals = omega (arith, lt, ap (λ (l : List ThreadLog). length l) are.is_log, length-map {B = ThreadLog} journals log_of_journal) in
    record {
      is_log = is ∙ ap (λ (l : List ThreadLog). get_or l t log) are.is_log ∙ get_or-map log_of_journal journals t [] log there;
      short = are.short t;
    }

-- the next mark is taken in
takes : (logs : List ThreadLog) (g mid after : Gathered) (t : ℕ) (log : ThreadLog) (next : Placed) → t < length g.threads → t < length logs → log ≡ get_or logs t log
    → ((journal : List Event) → IsLogOfOne journal log → IsCursorOf journal (reach_of g.threads t).taken_in → IsFirstMark journal (reach_of g.threads t).taken_in.events next)
    → (reach_of g.threads t).taken_in.marks < length log.marks → next.event < count_of g.threads t
    → mid ≡ raised_by g next.mark → after ≡ with_taken_in mid t (past_mark (reach_of g.threads t).taken_in next) → Advances logs g true after
takes logs g mid after t log next here there log_is first left_one below mid_is after_is = record {
  stays_part = λ journals thread now are part.
      let of_one = log_of_one journals logs are t log there log_is in
      let is_first = first (journal_of journals t) of_one (part.taken_in t) in
      let b = place t next.event in
      let taken = take_part journals thread now logs are g part b next.mark is_first.is_mark (part.in_past b below) in
      let is = take_is journals thread now logs are g part b next.mark is_first.is_mark in
      let same = taken_inside g next.mark t in
      let many : t < length (raised_by g next.mark).threads = omega (arith, here, many_taken g next.mark) in
      let first' : IsFirstMark (journal_of journals t) (reach_of (raised_by g next.mark).threads t).taken_in.events next = subst (λ (c : Cursor). IsFirstMark (journal_of journals t) c.events next) (sym same) is_first in
      let on = taken_in_part journals thread now (raised_by g next.mark) taken t many next first' (omega (arith, below, taken_counts g next.mark t)) is in
      subst (λ (x : Gathered). IsPartOfPast journals thread now x) (sym whole) on;
  many = ap (λ (x : Gathered). length x.threads) whole ∙ length-set (raised_by g next.mark).threads t _ ∙ many_taken g next.mark;
  still = λ never. absurd cc;
  fewer = λ passes.
      let same = taken_inside g next.mark t in
      let many : t < length (raised_by g next.mark).threads = omega (arith, here, many_taken g next.mark) in
      omega (
        arith,
        ap (λ (x : Gathered). left logs x.threads) whole,
        left_taken logs g next.mark,
        left_fewer logs (raised_by g next.mark).threads t log (record (reach_of (raised_by g next.mark).threads t) { taken_in = past_mark (reach_of (raised_by g next.mark).threads t).taken_in next }) there many log_is
            (omega (arith, left_one, ap (λ (c : Cursor). c.marks) same)),
      );
}
  where
    whole : after ≡ with_taken_in (raised_by g next.mark) t (past_mark (reach_of (raised_by g next.mark).threads t).taken_in next)
    whole =
        after_is ∙ ap (λ (x : Gathered). with_taken_in x t (past_mark (reach_of g.threads t).taken_in next)) mid_is
        ∙ ap (λ (c : Cursor). with_taken_in (raised_by g next.mark) t (past_mark c next)) (sym (taken_inside g next.mark t))

-- the next mark is searched past, and a draw of the past gathered with it
passes : (logs : List ThreadLog) (g mid after : Gathered) (t : ℕ) (log : ThreadLog) (next : Placed) → t < length g.threads → t < length logs → log ≡ get_or logs t log
    → ((journal : List Event) → IsLogOfOne journal log → IsCursorOf journal (reach_of g.threads t).searched → IsFirstMark journal (reach_of g.threads t).searched.events next)
    → (reach_of g.threads t).searched.marks < length log.marks
    → ((number : ℕ) × (next.mark ≡ Draw number) × (number ≤ g.draws) × (mid ≡ raised g t (suc next.event))) ⊎ (((number : ℕ) → next.mark ≡ Draw number → ⊥) × (mid ≡ g))
    → after ≡ with_searched mid t (past_mark (reach_of g.threads t).searched next) → Advances logs g true after
passes logs g mid after t log next here there log_is first left_one (inr (no_draw, mid_is)) after_is = record {
  stays_part = λ journals thread now are part.
      let is_first = first (journal_of journals t) (log_of_one journals logs are t log there log_is) (part.searched t) in
      let on = searched_part journals thread now g part t here next is_first (λ number is. absurd (no_draw number is)) in
      subst (λ (x : Gathered). IsPartOfPast journals thread now x) (sym whole) on;
  many = ap (λ (x : Gathered). length x.threads) whole ∙ length-set g.threads t _;
  still = λ never. absurd cc;
  fewer = λ passes. omega (
    arith,
    ap (λ (x : Gathered). left logs x.threads) whole,
    left_fewer logs g.threads t log (record (reach_of g.threads t) { searched = past_mark (reach_of g.threads t).searched next }) there here log_is (omega (arith, left_one)),
  );
}
  where
    whole : after ≡ with_searched g t (past_mark (reach_of g.threads t).searched next)
    whole = after_is ∙ ap (λ (x : Gathered). with_searched x t (past_mark (reach_of g.threads t).searched next)) mid_is
passes logs g mid after t log next here there log_is first left_one (inl (number, is_draw, le, mid_is)) after_is = record {
  stays_part = λ journals thread now are part.
      let is_first = first (journal_of journals t) (log_of_one journals logs are t log there log_is) (part.searched t) in
      let at_b = is_first.is_mark ∙ ap (λ (m : Mark). Some (Marked m)) is_draw in
      let more = gather_part journals thread now logs are g part (place t next.event) number at_b le in
      let first' : IsFirstMark (journal_of journals t) (reach_of (raised g t (suc next.event)).threads t).searched.events next = subst (λ (c : Cursor). IsFirstMark (journal_of journals t) c.events next) (sym (raised_searched g t (suc next.event) t)) is_first in
      let on = searched_part journals thread now (raised g t (suc next.event)) more t many next first' (λ other is. omega (arith, raised_to g t (suc next.event) here)) in
      subst (λ (x : Gathered). IsPartOfPast journals thread now x) (sym whole) on;
  many = ap (λ (x : Gathered). length x.threads) whole ∙ length-set (raised g t (suc next.event)).threads t _ ∙ length-set g.threads t _;
  still = λ never. absurd cc;
  fewer = λ passes. omega (
    arith,
    ap (λ (x : Gathered). left logs x.threads) whole,
    left_same logs g.threads t (raised_reach g t (suc next.event)) refl refl,
    left_fewer logs (raised g t (suc next.event)).threads t log
        (record (reach_of (raised g t (suc next.event)).threads t) { searched = past_mark (reach_of (raised g t (suc next.event)).threads t).searched next }) there many log_is
        (omega (arith, left_one, ap (λ (c : Cursor). c.marks) (raised_searched g t (suc next.event) t))),
  );
}
  where
    many : t < length (raised g t (suc next.event)).threads
    many = omega (arith, here, length-set g.threads t (raised_reach g t (suc next.event)))

    whole : after ≡ with_searched (raised g t (suc next.event)) t (past_mark (reach_of (raised g t (suc next.event)).threads t).searched next)
    whole =
        after_is ∙ ap (λ (x : Gathered). with_searched x t (past_mark (reach_of g.threads t).searched next)) mid_is
        ∙ ap (λ (c : Cursor). with_searched (raised g t (suc next.event)) t (past_mark c next)) (sym (raised_searched g t (suc next.event) t))

-- the same, by the reach as it was read
module _ (logs : List ThreadLog) (g mid after : Gathered) (t : ℕ) (log : ThreadLog) (next : Placed) (here : t < length g.threads) (there : t < length logs) (log_is : log ≡ get_or logs t log)
    (r : Reach) (read : r ≡ get_or g.threads t r) where
  is : reach_of g.threads t ≡ r
  is = get_or_default g.threads t no_reach r here ∙ sym read

  pub takes_it : ((journal : List Event) → IsLogOfOne journal log → IsCursorOf journal r.taken_in → IsFirstMark journal r.taken_in.events next) → r.taken_in.marks < length log.marks → next.event < r.count
      → mid ≡ raised_by g next.mark → after ≡ with_taken_in mid t (past_mark r.taken_in next) → Advances logs g true after
  takes_it first left_one below mid_is after_is =
      takes logs g mid after t log next here there log_is
      (λ journal of cursor. subst (λ (x : Reach). IsFirstMark journal x.taken_in.events next) (sym is) (first journal of (subst (λ (x : Reach). IsCursorOf journal x.taken_in) is cursor)))
      (subst (λ (x : Reach). x.taken_in.marks < length log.marks) (sym is) left_one)
      (subst (λ (x : Reach). next.event < x.count) (sym is) below)
      mid_is (after_is ∙ ap (λ (x : Reach). with_taken_in mid t (past_mark x.taken_in next)) (sym is))

  pub passes_it : ((journal : List Event) → IsLogOfOne journal log → IsCursorOf journal r.searched → IsFirstMark journal r.searched.events next) → r.searched.marks < length log.marks
      → ((number : ℕ) × (next.mark ≡ Draw number) × (number ≤ g.draws) × (mid ≡ raised g t (suc next.event))) ⊎ (((number : ℕ) → next.mark ≡ Draw number → ⊥) × (mid ≡ g))
      → after ≡ with_searched mid t (past_mark r.searched next) → Advances logs g true after
  passes_it first left_one marked after_is =
      passes logs g mid after t log next here there log_is
      (λ journal of cursor. subst (λ (x : Reach). IsFirstMark journal x.searched.events next) (sym is) (first journal of (subst (λ (x : Reach). IsCursorOf journal x.searched) is cursor)))
      (subst (λ (x : Reach). x.searched.marks < length log.marks) (sym is) left_one)
      marked (after_is ∙ ap (λ (x : Reach). with_searched mid t (past_mark x.searched next)) (sym is))
