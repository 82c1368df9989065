-- What a follower was fed, as items come and blocks are given.
use Rattle.std.proofs.Common.{◌≡◌, ◌∙◌, ℕ, ◌+◌, List, [], ◌∷◌, ◌++◌, map, take, length, Option, Some, refl, sym, ap, subst, arith, append_assoc, append-nil}
use Rattle.octet_model.specs.declared.log.Gapped.{Gapped}
use Rattle.octet_follow.specs.declared.follower.Follower.{Follower}
use Rattle.octet_follow.specs.Blocks.{lengthened, carried, after_taken, TakesBlock}
use Rattle.octet_follow.specs.Calls.{given, given_after}
use Rattle.octet_stream.specs.declared.gathering.Gathered.{Gathered}
use Rattle.octet_stream.specs.declared.item.Item.{Item}
use Rattle.octet_stream.specs.declared.item.Item.TheVariants.{Marked, BlockEnd, ThreadEnd, BreaksOff}
use Rattle.octet_stream.specs.Fed.{item_after, Gathers, IsFed}
use Rattle.octet_stream.specs.Items.{marks_in, after_in, digest_in}

-- ---- items that come after others
pub marks_split : (before : ℕ) (items later : List Item) → marks_in before (items ++ later) ≡ marks_in before items ++ marks_in (after_in before items) later
marks_split before [] later = refl
marks_split before (Marked mark ∷ items) later = ap (λ (l : List Gapped). record { gap = before + mark.gap; mark = mark.mark } ∷ l) (marks_split 0 items later)
marks_split before (BlockEnd gap digest ∷ items) later = marks_split (before + gap) items later
marks_split before (ThreadEnd ∷ items) later = marks_split before items later
marks_split before (BreaksOff ∷ items) later = marks_split before items later

pub after_split : (before : ℕ) (items later : List Item) → after_in before (items ++ later) ≡ after_in (after_in before items) later
after_split before [] later = refl
after_split before (Marked mark ∷ items) later = after_split 0 items later
after_split before (BlockEnd gap digest ∷ items) later = after_split (before + gap) items later
after_split before (ThreadEnd ∷ items) later = after_split before items later
after_split before (BreaksOff ∷ items) later = after_split before items later

pub digest_split : (before : Option ℕ) (items later : List Item) → digest_in before (items ++ later) ≡ digest_in (digest_in before items) later
digest_split before [] later = refl
digest_split before (Marked mark ∷ items) later = digest_split before items later
digest_split before (BlockEnd gap digest ∷ items) later = digest_split (Some digest) items later
digest_split before (ThreadEnd ∷ items) later = digest_split before items later
digest_split before (BreaksOff ∷ items) later = digest_split before items later

-- ---- marks that are gathered
one_mark : (after : ℕ) (marks : List Gapped) (mark : Gapped) → lengthened after marks ++ (record { gap = carried after marks 0 + mark.gap; mark = mark.mark } ∷ []) ≡ lengthened after (marks ++ mark ∷ [])
one_mark after [] mark = let same : after + 0 + mark.gap ≡ after + mark.gap = omega arith in ap (λ (n : ℕ). record { gap = n; mark = mark.mark } ∷ []) same
one_mark after (first ∷ marks) mark = let same : 0 + mark.gap ≡ mark.gap = omega arith in
    ap (λ (n : ℕ). record { gap = after + first.gap; mark = first.mark } ∷ (marks ++ (record { gap = n; mark = mark.mark } ∷ []))) same

no_more : (after : ℕ) (marks : List Gapped) (mark : Gapped) → carried after (marks ++ mark ∷ []) 0 ≡ 0
no_more after [] mark = refl
no_more after (first ∷ marks) mark = refl

fed_mark : (items : List Item) (follower : Follower) (marks : List Gapped) (mark : Gapped) → IsFed items follower marks → IsFed (items ++ Marked mark ∷ []) follower (marks ++ mark ∷ [])
fed_mark items follower marks mark fed = let after = given_after follower in record {
  told =
      marks_split 0 items (Marked mark ∷ [])
      ∙ (ap (λ (l : List Gapped). l ++ (record { gap = after_in 0 items + mark.gap; mark = mark.mark } ∷ [])) fed.told
      ∙ (ap (λ (n : ℕ). (given follower ++ lengthened after marks) ++ (record { gap = n + mark.gap; mark = mark.mark } ∷ [])) fed.after
      ∙ (append_assoc (given follower) (lengthened after marks) (record { gap = carried after marks 0 + mark.gap; mark = mark.mark } ∷ []) ∙ ap (λ (l : List Gapped). given follower ++ l) (one_mark after marks mark))));
  after = after_split 0 items (Marked mark ∷ []) ∙ sym (no_more after marks mark);
}

fed_marks : (items : List Item) (follower : Follower) (marks more : List Gapped) → IsFed items follower marks → IsFed (items ++ map (λ mark. Marked mark) more) follower (marks ++ more)
fed_marks items follower marks [] fed =
    subst (λ (l : List Item). IsFed l follower (marks ++ [])) (sym (append-nil items)) (subst (λ (l : List Gapped). IsFed items follower l) (sym (append-nil marks)) fed)
fed_marks items follower marks (mark ∷ more) fed =
    subst (λ (l : List Item). IsFed l follower (marks ++ mark ∷ more)) (append_assoc items (Marked mark ∷ []) (map (λ mark. Marked mark) more))
    (subst (λ (l : List Gapped). IsFed ((items ++ Marked mark ∷ []) ++ map (λ mark. Marked mark) more) follower l) (append_assoc marks (mark ∷ []) more)
    (fed_marks (items ++ Marked mark ∷ []) follower (marks ++ mark ∷ []) more (fed_mark items follower marks mark fed)))

-- ---- what comes after them
module _ (items : List Item) (follower : Follower) (marks : List Gapped) (fed : IsFed items follower marks) where
  -- an item that tells nothing of marks
  fed_same : (last : List Item) → marks_in (after_in 0 items) last ≡ [] → after_in (after_in 0 items) last ≡ after_in 0 items → IsFed (items ++ last) follower marks
  fed_same last no_marks no_accesses = record {
    told = marks_split 0 items last ∙ (ap (λ (l : List Gapped). marks_in 0 items ++ l) no_marks ∙ (append-nil (marks_in 0 items) ∙ fed.told));
    after = after_split 0 items last ∙ (no_accesses ∙ fed.after);
  }

  -- the marks are given, with the accesses after them
  pub fed_block : (last : List Item) (next : Follower) (gap : ℕ) → marks_in (after_in 0 items) last ≡ [] → after_in (after_in 0 items) last ≡ after_in 0 items + gap
      → TakesBlock (length marks) marks gap follower next → IsFed (items ++ last) next []
  fed_block last next gap no_marks accesses takes =
      let all : take (length marks) marks ≡ marks = take_all marks in
      let told_marks : given next ≡ given follower ++ lengthened (given_after follower) marks = takes.told_marks ∙ ap (λ (l : List Gapped). given follower ++ lengthened (given_after follower) l) all in
      let told_after : given_after next ≡ carried (given_after follower) marks gap = takes.told_after ∙ (ap (λ (l : List Gapped). carried (given_after follower) l (after_taken (length marks) (length marks) gap)) all ∙ ap (λ (n : ℕ). carried (given_after follower) marks n) (taken_whole (length marks) gap)) in record {
        told = marks_split 0 items last ∙ (ap (λ (l : List Gapped). marks_in 0 items ++ l) no_marks ∙ (append-nil (marks_in 0 items) ∙ (fed.told ∙ (sym told_marks ∙ sym (append-nil (given next))))));
        after = after_split 0 items last ∙ (accesses ∙ (ap (λ (n : ℕ). n + gap) fed.after ∙ (carried_more (given_after follower) marks gap ∙ (sym told_after ∙ omega arith))));
      }
    where
      take_all : (marks : List Gapped) → take (length marks) marks ≡ marks
      take_all [] = refl
      take_all (mark ∷ marks) = ap (λ (l : List Gapped). mark ∷ l) (take_all marks)

      taken_whole : (n after : ℕ) → after_taken n n after ≡ after
      taken_whole n after = grind arith

      carried_more : (before : ℕ) (marks : List Gapped) (gap : ℕ) → carried before marks 0 + gap ≡ carried before marks gap
      carried_more before [] gap = omega arith
      carried_more before (mark ∷ marks) gap = omega arith

-- what was gathered keeps a follower fed
pub fed_gathered : (after : Gathered) (items now : List Item) (follower : Follower) (marks more : List Gapped) → IsFed items follower marks → Gathers after items marks now more
    → (middle : List Item) × (now ≡ middle ++ item_after after) × IsFed middle follower more
fed_gathered after items now follower marks more fed gathers = let marked = map (λ mark. Marked mark) gathers.more in (
  items ++ marked,
  gathers.receives ∙ sym (append_assoc items marked (item_after after)),
  subst (λ (l : List Gapped). IsFed (items ++ marked) follower l) (sym gathers.gathers_marks) (fed_marks items follower marks gathers.more fed),
)

-- an item that ends the recording tells nothing of marks
pub fed_end : (items : List Item) (follower : Follower) (marks : List Gapped) → IsFed items follower marks → IsFed (items ++ ThreadEnd ∷ []) follower marks
fed_end items follower marks fed = fed_same items follower marks fed (ThreadEnd ∷ []) refl refl

pub fed_break : (items : List Item) (follower : Follower) (marks : List Gapped) → IsFed items follower marks → IsFed (items ++ BreaksOff ∷ []) follower marks
fed_break items follower marks fed = fed_same items follower marks fed (BreaksOff ∷ []) refl refl
