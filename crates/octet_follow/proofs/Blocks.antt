-- Blocks tell a follower the journal that they are of.
use Rattle.std.proofs.Common.{◌≡◌, ◌∙◌, ℕ, zero, suc, ◌+◌, ◌<◌, List, [], ◌∷◌, ◌++◌, take, drop, length, refl, sym, ap, subst, arith, append-nil, append_assoc, sum_by}
use Rattle.std.proofs.lemmas.List.{get_or-map}
use Rattle.octet_digest.proofs.lemmas.Beginnings.{beginnings_agree}
use Rattle.octet_model.specs.declared.event.Event.{Event}
use Rattle.octet_model.specs.declared.log.Gapped.{Gapped}
use Rattle.octet_model.specs.declared.log.ThreadLog.{ThreadLog}
use Rattle.octet_model.specs.Journals.{access_count, gap_after, gapped_marks, log_of, log_of_journal}
use Rattle.octet_model.specs.Machine.{Journals, journal_of}
use Rattle.octet_model.specs.Plans.{thread_log_of}
use Rattle.octet_model.proofs.lemmas.Splits.{accesses_split}
use Rattle.octet_follow.specs.declared.follower.Follower.{Follower}
use Rattle.octet_follow.specs.Blocks.{lengthened, carried, after_taken, IsTold, BlocksTell, PartsTell, ToldHasBegun, ToldHasFollowed, DigestsAgree, DivergenceIsReal}
use Rattle.octet_follow.specs.Calls.{journal_in, with_first_gap, gap_to_next, after_last, given, given_after, accesses_given, IsThrough}
use Rattle.octet_follow.specs.Recordings.{Ahead}
use Rattle.octet_follow.proofs.Closing.{gaps_made}
use Rattle.octet_follow.proofs.lemmas.Pieces.{pieces_marks, pieces_gap}

take_all : (marks : List Gapped) → take (length marks) marks ≡ marks
take_all [] = refl
take_all (mark ∷ marks) = ap (λ (l : List Gapped). mark ∷ l) (take_all marks)

all_taken : (n after : ℕ) → after_taken n n after ≡ after
all_taken n after = grind arith

not_all_taken : (n m after : ℕ) → n < m → after_taken n m after ≡ 0
not_all_taken n m after fewer = grind arith

pub blocks_tell : BlocksTell
blocks_tell follower next earlier piece told takes = record {
  marks =
      takes.told_marks
      ∙ ((λ i. told.marks i ++ lengthened (told.after i) (take_all (gapped_marks 0 piece) i)) ∙ sym (pieces_marks earlier piece));
  after =
      takes.told_after
      ∙ ((λ i. carried (told.after i) (take_all (gapped_marks 0 piece) i) (all_taken (length (gapped_marks 0 piece)) (gap_after 0 piece) i)) ∙ sym (pieces_gap earlier piece));
}

-- ---- a block in two parts
none_more : (marks : List Gapped) → lengthened 0 marks ≡ marks
none_more [] = refl
none_more (mark ∷ marks) = ap (λ (n : ℕ). record { gap = n; mark = mark.mark } ∷ marks) (let e : 0 + mark.gap ≡ mark.gap = omega arith in e)

longer_twice : (more : ℕ) (xs ys : List Gapped) → lengthened more (xs ++ ys) ≡ lengthened more xs ++ lengthened (carried more xs 0) ys
longer_twice more [] ys = ap (λ (n : ℕ). lengthened n ys) (let e : more ≡ more + 0 = omega arith in e)
longer_twice more (x ∷ xs) ys = ap (λ (l : List Gapped). record { gap = more + x.gap; mark = x.mark } ∷ xs ++ l) (sym (none_more ys))

carried_twice : (more after : ℕ) (xs ys : List Gapped) → carried more (xs ++ ys) after ≡ carried (carried more xs 0) ys after
carried_twice more after [] [] = omega arith
carried_twice more after [] (y ∷ ys) = refl
carried_twice more after (x ∷ xs) [] = let e : after ≡ 0 + after = omega arith in e
carried_twice more after (x ∷ xs) (y ∷ ys) = refl

none_taken : (k : ℕ) → take {A = Gapped} k [] ≡ []
none_taken zero = refl
none_taken (suc k) = refl

take_both : (n m : ℕ) (marks : List Gapped) → take (n + m) marks ≡ take n marks ++ take m (drop n marks)
take_both zero m marks = ap (λ (k : ℕ). take k marks) (let e : 0 + m ≡ m = omega arith in e)
take_both (suc n) m [] = none_taken (suc n + m) ∙ sym (none_taken m)
take_both (suc n) m (mark ∷ marks) = ap (λ (k : ℕ). take k (mark ∷ marks)) (let e : suc n + m ≡ suc (n + m) = omega arith in e) ∙ ap (λ (l : List Gapped). mark ∷ l) (take_both n m marks)

after_both : (first second all left after : ℕ) → first < all → left + first ≡ all → after_taken second left after ≡ after_taken (first + second) all after
after_both first second all left after fewer is = grind arith

length_left : (n : ℕ) (marks : List Gapped) → n < length marks → length (drop n marks) + n ≡ length marks
length_left zero marks fewer = omega arith
length_left (suc n) [] fewer = absurd (omega arith)
length_left (suc n) (mark ∷ marks) fewer = let a = length_left n marks (omega arith) in omega arith

pub parts_tell : PartsTell
parts_tell first second after marks follower between next fewer one other =
    let between_after : given_after between ≡ carried (given_after follower) (take first marks) 0 = one.told_after ∙ ap (carried (given_after follower) (take first marks)) (not_all_taken first (length marks) after fewer) in
    record {
      told_marks =
          other.told_marks
          ∙ ((λ i. one.told_marks i ++ lengthened (between_after i) (take second (drop first marks)))
          ∙ (append_assoc (given follower) (lengthened (given_after follower) (take first marks)) (lengthened (carried (given_after follower) (take first marks) 0) (take second (drop first marks)))
          ∙ ap (λ (l : List Gapped). given follower ++ l) (sym (longer_twice (given_after follower) (take first marks) (take second (drop first marks))) ∙ ap (lengthened (given_after follower)) (sym (take_both first second marks)))));
      told_after =
          other.told_after
          ∙ ((λ i. carried (between_after i) (take second (drop first marks)) (after_both first second (length marks) (length (drop first marks)) after fewer (length_left first marks fewer) i))
          ∙ (sym (carried_twice (given_after follower) (after_taken (first + second) (length marks) after) (take first marks) (take second (drop first marks)))
          ∙ ap (λ (l : List Gapped). carried (given_after follower) l (after_taken (first + second) (length marks) after)) (sym (take_both first second marks))));
    }

-- ---- what was told is of the recording
own_log : (journals : Journals) (t : ℕ) → t < length journals → thread_log_of (log_of journals) t ≡ log_of_journal (journal_of journals t)
own_log journals t inside = get_or-map log_of_journal journals t [] (record { accesses = 0; marks = [] }) inside

accesses_told : (journal : List Event) (follower : Follower) → IsTold journal follower → accesses_given follower ≡ access_count journal
accesses_told journal follower told =
    let a = ap (λ (l : List Gapped). sum_by (λ (m : Gapped). m.gap) l) told.marks in
    let b = told.after in
    let c = gaps_made 0 journal in
    omega arith

further : (gap : ℕ) (marks : List Gapped) → Ahead (lengthened gap marks) gap
further gap [] next is = absurd cc
further gap (mark ∷ marks) next is = let e : record { gap = gap + mark.gap; mark = mark.mark } ≡ next = cc in let g = ap (λ (m : Gapped). m.gap) e in omega arith

pub told_has_begun : ToldHasBegun
told_has_begun threads journals t follower earlier later inside split told demanded =
    let log = own_log journals t inside in
    let begins : journal_of journals t ≡ earlier ++ later = split in record {
      accesses =
          let a = accesses_told earlier follower told in
          let b = ap (λ (l : ThreadLog). l.accesses) log in
          let c = ap access_count begins in
          let d = accesses_split earlier later in
          omega arith;
      more = lengthened (gap_after 0 earlier) (gapped_marks 0 later);
      marks =
          ap (λ (l : ThreadLog). l.marks) log
          ∙ (ap (gapped_marks 0) begins ∙ (pieces_marks earlier later ∙ ap (λ (l : List Gapped). l ++ lengthened (gap_after 0 earlier) (gapped_marks 0 later)) (sym told.marks)));
      ahead = subst (Ahead (lengthened (gap_after 0 earlier) (gapped_marks 0 later))) (sym told.after) (further (gap_after 0 earlier) (gapped_marks 0 later));
      demanded = demanded;
    }

pub told_has_followed : ToldHasFollowed
told_has_followed threads journals t follower inside told complete demanded =
    let log = own_log journals t inside in record {
      marks = told.marks ∙ sym (ap (λ (l : ThreadLog). l.marks) log);
      accesses = accesses_told (journal_of journals t) follower told ∙ sym (ap (λ (l : ThreadLog). l.accesses) log);
      complete = complete;
      demanded = demanded;
    }

-- ---- digests
same_count : (follower : Follower) (earlier : List Event) → IsTold earlier follower → IsThrough follower → access_count (journal_in follower) ≡ access_count earlier
same_count follower earlier told through =
    let marks : gapped_marks 0 (journal_in follower) ≡ gapped_marks 0 earlier = sym (ap (λ (l : List Gapped). gapped_marks 0 (journal_in follower) ++ with_first_gap (gap_to_next follower) l) through.1 ∙ append-nil (gapped_marks 0 (journal_in follower))) ∙ told.marks in
    let after : gap_to_next follower ≡ gap_after 0 earlier = sym (ap (λ (l : List Gapped). after_last l (gap_to_next follower) follower.after) through.1) ∙ told.after in
    let sums = ap (λ (l : List Gapped). sum_by (λ (m : Gapped). m.gap) l) marks in
    let none = through.0 in
    let a = gaps_made 0 (journal_in follower) in
    let b = gaps_made 0 earlier in
    omega arith

pub digests_agree : DigestsAgree
digests_agree follower whole earlier later is told through begins =
    beginnings_agree whole (journal_in follower) begins.0 earlier later begins.1 is (same_count follower earlier told through)

pub divergence_is_real : DivergenceIsReal
divergence_is_real follower whole earlier later is told through differ begins = differ (digests_agree follower whole earlier later is told through begins)
