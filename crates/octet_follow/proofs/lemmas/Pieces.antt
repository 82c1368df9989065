-- The marks and the gap of a journal, by those of its beginning and of the piece after it.
use Rattle.std.proofs.Common.{◌≡◌, ◌∙◌, ℕ, suc, ◌+◌, List, [], ◌∷◌, ◌++◌, refl, ap, arith}
use Rattle.octet_model.specs.declared.event.Event.{Event}
use Rattle.octet_model.specs.declared.event.Event.TheVariants.{Marked}
use Rattle.octet_model.specs.declared.log.Gapped.{Gapped}
use Rattle.octet_model.specs.Journals.{gap_after, gapped_marks}
use Rattle.octet_model.proofs.lemmas.Splits.{gap_split, gapped_marks_split}
use Rattle.octet_follow.specs.Blocks.{lengthened, carried}

marks_from : (more before : ℕ) (piece : List Event) → gapped_marks (more + before) piece ≡ lengthened more (gapped_marks before piece)
marks_from more before [] = refl
marks_from more before (Marked mark ∷ piece) = refl
marks_from more before (access ∷ piece) = let next : suc (more + before) ≡ more + suc before = omega arith in ap (λ (n : ℕ). gapped_marks n piece) next ∙ marks_from more (suc before) piece

gap_from : (more before : ℕ) (piece : List Event) → gap_after (more + before) piece ≡ carried more (gapped_marks before piece) (gap_after before piece)
gap_from more before [] = refl
gap_from more before (Marked mark ∷ piece) = refl
gap_from more before (access ∷ piece) = let next : suc (more + before) ≡ more + suc before = omega arith in ap (λ (n : ℕ). gap_after n piece) next ∙ gap_from more (suc before) piece

pub pieces_marks : (earlier piece : List Event) → gapped_marks 0 (earlier ++ piece) ≡ gapped_marks 0 earlier ++ lengthened (gap_after 0 earlier) (gapped_marks 0 piece)
pieces_marks earlier piece =
    let more = gap_after 0 earlier in
    let here : more ≡ more + 0 = omega arith in
    gapped_marks_split 0 earlier piece ∙ ap (λ (l : List Gapped). gapped_marks 0 earlier ++ l) (ap (λ (n : ℕ). gapped_marks n piece) here ∙ marks_from more 0 piece)

pub pieces_gap : (earlier piece : List Event) → gap_after 0 (earlier ++ piece) ≡ carried (gap_after 0 earlier) (gapped_marks 0 piece) (gap_after 0 piece)
pieces_gap earlier piece =
    let more = gap_after 0 earlier in
    let here : more ≡ more + 0 = omega arith in
    gap_split 0 earlier piece ∙ (ap (λ (n : ℕ). gap_after n piece) here ∙ gap_from more 0 piece)
