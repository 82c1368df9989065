-- Items of blocks, and the marks among them.
use Rattle.std.proofs.Common.{◌≡◌, ◌∙◌, ℕ, suc, ◌+◌, List, [], ◌∷◌, ◌++◌, map, refl, sym, ap, arith, append_assoc, append-nil}
use Rattle.octet_model.specs.declared.event.Event.{Event}
use Rattle.octet_model.specs.declared.event.Event.TheVariants as event
use Rattle.octet_model.specs.declared.log.Gapped.{Gapped}
use Rattle.octet_model.specs.Journals.{gap_after, gapped_marks}
use Rattle.octet_model.proofs.lemmas.Splits.{gap_split, gapped_marks_split}
use Rattle.octet_digest.specs.Digests.{digest_of}
use Rattle.octet_stream.specs.declared.item.Item.{Item}
use Rattle.octet_stream.specs.declared.item.Item.TheVariants.{Marked, BlockEnd}
use Rattle.octet_stream.specs.Items.{joined, items_of_block, items_of, marks_in}
use Rattle.octet_stream.specs.Laws.{MarksJoin}

-- the marks of a block, then its end, then later items
block_marks : (before since : ℕ) (block : List Event) (digest : ℕ) (later : List Item)
    → marks_in before (map (λ mark. Marked mark) (gapped_marks since block) ++ BlockEnd (gap_after since block) digest ∷ later) ≡ gapped_marks (before + since) block ++ marks_in (gap_after (before + since) block) later
block_marks before since [] digest later = refl
block_marks before since (event.Marked mark ∷ block) digest later =
    ap (λ (l : List Gapped). record { gap = before + since; mark = mark } ∷ l) (block_marks 0 0 block digest later)
block_marks before since (access ∷ block) digest later =
    let next : before + suc since ≡ suc (before + since) = omega arith in
    block_marks before (suc since) block digest later ∙ ap (λ (n : ℕ). gapped_marks n block ++ marks_in (gap_after n block) later) next

marks_of_blocks : (before : ℕ) (earlier : List Event) (blocks : List (List Event)) (later : List Item)
    → marks_in before (items_of earlier blocks ++ later) ≡ gapped_marks before (joined blocks) ++ marks_in (gap_after before (joined blocks)) later
marks_of_blocks before earlier [] later = refl
marks_of_blocks before earlier (block ∷ blocks) later =
    let digest = digest_of (earlier ++ block) in
    let rest = items_of (earlier ++ block) blocks in
    let marks = map (λ mark. Marked mark) (gapped_marks 0 block) in
    let same : before + 0 ≡ before = omega arith in
    let after = gap_after before block in
    ap (λ (l : List Item). marks_in before l) (append_assoc (items_of_block earlier block) rest later ∙ append_assoc marks (BlockEnd (gap_after 0 block) digest ∷ []) (rest ++ later))
    ∙ (block_marks before 0 block digest (rest ++ later)
    ∙ (ap (λ (n : ℕ). gapped_marks n block ++ marks_in (gap_after n block) (rest ++ later)) same
    ∙ (ap (λ (l : List Gapped). gapped_marks before block ++ l) (marks_of_blocks after (earlier ++ block) blocks later)
    ∙ (sym (append_assoc (gapped_marks before block) (gapped_marks after (joined blocks)) (marks_in (gap_after after (joined blocks)) later))
    ∙ ((λ i. (sym (gapped_marks_split before block (joined blocks))) i ++ marks_in ((sym (gap_split before block (joined blocks))) i) later))))))

pub marks_join : MarksJoin
marks_join blocks =
    ap (λ (l : List Item). marks_in 0 l) (sym (append-nil (items_of [] blocks))) ∙ (marks_of_blocks 0 [] blocks [] ∙ append-nil (gapped_marks 0 (joined blocks)))

-- one block more
pub items_more : (earlier : List Event) (blocks : List (List Event)) (block : List Event)
    → items_of earlier (blocks ++ block ∷ []) ≡ items_of earlier blocks ++ items_of_block (earlier ++ joined blocks) block
items_more earlier [] block =
    append-nil (items_of_block earlier block) ∙ ap (λ (l : List Event). items_of_block l block) (sym (append-nil earlier))
items_more earlier (first ∷ blocks) block =
    ap (λ (l : List Item). items_of_block earlier first ++ l) (items_more (earlier ++ first) blocks block)
    ∙ (sym (append_assoc (items_of_block earlier first) (items_of (earlier ++ first) blocks) (items_of_block ((earlier ++ first) ++ joined blocks) block))
    ∙ ap (λ (l : List Event). (items_of_block earlier first ++ items_of (earlier ++ first) blocks) ++ items_of_block l block) (append_assoc earlier first (joined blocks)))

pub joined_more : (blocks : List (List Event)) (block : List Event) → joined (blocks ++ block ∷ []) ≡ joined blocks ++ block
joined_more [] block = append-nil block
joined_more (first ∷ blocks) block = ap (λ (l : List Event). first ++ l) (joined_more blocks block) ∙ sym (append_assoc first (joined blocks) block)
