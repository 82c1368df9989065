-- What a thread was fed tells it the journal of the blocks.
use Rattle.std.proofs.Common.{◌≡◌, ◌∙◌, ℕ, suc, ◌+◌, List, [], ◌∷◌, ◌++◌, map, Option, Some, None, refl, sym, ap, arith, append-nil, append_assoc}
use Rattle.octet_model.specs.declared.event.Event.{Event}
use Rattle.octet_model.specs.declared.event.Event.TheVariants as event
use Rattle.octet_model.specs.declared.log.Gapped.{Gapped}
use Rattle.octet_model.specs.Journals.{gap_after, gapped_marks}
use Rattle.octet_model.proofs.lemmas.Splits.{gap_split}
use Rattle.octet_digest.specs.Digests.{digest_of}
use Rattle.octet_follow.specs.Blocks as again
use Rattle.octet_follow.specs.Calls.{given, given_after}
use Rattle.octet_stream.specs.declared.item.Item.{Item}
use Rattle.octet_stream.specs.declared.item.Item.TheVariants.{Marked, BlockEnd}
use Rattle.octet_stream.specs.Items.{joined, items_of_block, items_of, marks_in, after_in, digest_in}
use Rattle.octet_stream.specs.Laws.{FedIsTold, DivergenceIsReal}
use Rattle.octet_stream.proofs.Fed.{after_split, digest_split}
use Rattle.octet_stream.proofs.lemmas.Items.{marks_join}

-- ---- the accesses after the last mark
block_after : (before since : ℕ) (block : List Event) (digest : ℕ) → after_in before (map (λ mark. Marked mark) (gapped_marks since block) ++ BlockEnd (gap_after since block) digest ∷ []) ≡ gap_after (before + since) block
block_after before since [] digest = refl
block_after before since (event.Marked mark ∷ block) digest = block_after 0 0 block digest
block_after before since (access ∷ block) digest =
    let next : before + suc since ≡ suc (before + since) = omega arith in block_after before (suc since) block digest ∙ ap (λ (n : ℕ). gap_after n block) next

after_blocks : (before : ℕ) (earlier : List Event) (blocks : List (List Event)) → after_in before (items_of earlier blocks) ≡ gap_after before (joined blocks)
after_blocks before earlier [] = refl
after_blocks before earlier (block ∷ blocks) =
    let same : before + 0 ≡ before = omega arith in
    after_split before (items_of_block earlier block) (items_of (earlier ++ block) blocks)
    ∙ (ap (λ (n : ℕ). after_in n (items_of (earlier ++ block) blocks)) (block_after before 0 block (digest_of (earlier ++ block)) ∙ ap (λ (n : ℕ). gap_after n block) same)
    ∙ (after_blocks (gap_after before block) (earlier ++ block) blocks ∙ sym (gap_split before block (joined blocks))))

-- ---- the digest of the last block
block_digest : (before : Option ℕ) (marks : List Gapped) (gap digest : ℕ) → digest_in before (map (λ mark. Marked mark) marks ++ BlockEnd gap digest ∷ []) ≡ Some digest
block_digest before [] gap digest = refl
block_digest before (mark ∷ marks) gap digest = block_digest before marks gap digest

last_digest : (before : Option ℕ) (earlier : List Event) (block : List Event) (blocks : List (List Event))
    → digest_in before (items_of earlier (block ∷ blocks)) ≡ Some (digest_of (earlier ++ joined (block ∷ blocks)))
last_digest before earlier block [] =
    digest_split before (items_of_block earlier block) [] ∙ (block_digest before (gapped_marks 0 block) (gap_after 0 block) (digest_of (earlier ++ block)) ∙ ap (λ (l : List Event). Some (digest_of (earlier ++ l))) (sym (append-nil block)))
last_digest before earlier block (next ∷ blocks) =
    digest_split before (items_of_block earlier block) (items_of (earlier ++ block) (next ∷ blocks))
    ∙ (last_digest (digest_in before (items_of_block earlier block)) (earlier ++ block) next blocks ∙ ap (λ (l : List Event). Some (digest_of l)) (append_assoc earlier block (joined (next ∷ blocks))))

-- ---- the laws
pub fed_is_told : FedIsTold
fed_is_told rerun thread blocks own items none =
    let fed = own.fed in let after = given_after thread.follower in
    let no_more : given thread.follower ++ again.lengthened after thread.marks.items ≡ given thread.follower =
    ap (λ (l : List Gapped). given thread.follower ++ again.lengthened after l) none ∙ append-nil (given thread.follower) in
    let none_after : again.carried after thread.marks.items 0 ≡ after = ap (λ (l : List Gapped). again.carried after l 0) none ∙ omega arith in record {
      marks = sym no_more ∙ (sym fed.told ∙ (ap (λ (l : List Item). marks_in 0 l) items ∙ marks_join blocks));
      after = sym none_after ∙ (sym fed.after ∙ (ap (λ (l : List Item). after_in 0 l) items ∙ after_blocks 0 [] blocks));
    }

some_is : (a b : ℕ) → Some a ≡ Some b → a ≡ b
some_is a b is = grind (arith, is)

none_is_not : (a : ℕ) → None ≡ Some a → ⊥
none_is_not a is = grind (arith, is)

pub divergence_is_real : again.DivergenceIsReal → DivergenceIsReal
divergence_is_real real rerun thread whole later [] own parts items none through divergence diverges begins =
    none_is_not diverges.left.0 (sym (ap (λ (l : List Item). digest_in None l) items) ∙ diverges.left.1)
divergence_is_real real rerun thread whole later (block ∷ blocks) own parts items none through divergence diverges begins =
    let told = fed_is_told rerun thread (block ∷ blocks) own items none in
    let expected : digest_of (joined (block ∷ blocks)) ≡ diverges.left.0 =
    some_is (digest_of (joined (block ∷ blocks))) diverges.left.0 (sym (last_digest None [] block blocks) ∙ (sym (ap (λ (l : List Item). digest_in None l) items) ∙ diverges.left.1)) in
    real thread.follower whole (joined (block ∷ blocks)) later parts told through (λ same. diverges.left.2 (same ∙ expected)) begins
