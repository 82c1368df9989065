-- Journals up to their counts.
use Rattle.std.proofs.Common.{◌≡◌, ℕ, zero, suc, ◌+◌, ◌-◌, ◌<◌, List, [], ◌∷◌, ◌++◌, length, take, drop, get_or, refl, sym, ap, ◌∙◌, arith}
use Rattle.std.proofs.Math.Seq.{take-append-add, take-append_seam}
use Rattle.std.proofs.lemmas.List.{take-append-drop}
use Rattle.octet_model.specs.declared.event.Event.{Event}
use Rattle.octet_model.specs.Journals.{gap_after, gapped_marks}
use Rattle.octet_model.specs.Machine.{Journals, journal_of}
use Rattle.octet_model.proofs.lemmas.Splits.{gapped_marks_split}
use Rattle.octet_slice.specs.FirstEvents.{first_events}

none_taken : (count : ℕ) → ◌≡◌ {A = List Event} (take count []) []
none_taken zero = refl
none_taken (suc count) = refl

-- the journal of a thread, up to its count
pub first_of : (counts : List ℕ) (js : Journals) (t : ℕ) → journal_of (first_events counts js) t ≡ take (get_or counts t 0) (journal_of js t)
first_of [] [] t = refl
first_of (n ∷ counts) [] zero = sym (none_taken n)
first_of (n ∷ counts) [] (suc t) = sym (none_taken (get_or counts t 0))
first_of [] (j ∷ js) zero = refl
first_of [] (j ∷ js) (suc t) = first_of [] js t
first_of (n ∷ counts) (j ∷ js) zero = refl
first_of (n ∷ counts) (j ∷ js) (suc t) = first_of counts js t

pub as_many_first : (counts : List ℕ) (js : Journals) → length (first_events counts js) ≡ length js
as_many_first counts [] = refl
as_many_first [] (j ∷ js) = ap suc (as_many_first [] js)
as_many_first (n ∷ counts) (j ∷ js) = ap suc (as_many_first counts js)

-- journals of as many threads that are the same for each thread
pub alike : (js ks : Journals) → length js ≡ length ks → ((t : ℕ) → journal_of js t ≡ journal_of ks t) → js ≡ ks
alike [] [] many same = refl
alike [] (k ∷ ks) many same = absurd (omega arith)
alike (j ∷ js) [] many same = absurd (omega arith)
alike (j ∷ js) (k ∷ ks) many same =
    let first : j ≡ k = same 0 in
    let rest : js ≡ ks = alike js ks (omega arith) (λ t. same (suc t)) in
    cc

-- a journal up to a count that is past its first part
pub take_past : {A : Type 0} (pre : List A) (e : A) (post : List A) (n : ℕ) → length pre < n → (more : List A) × (take n (pre ++ e ∷ post) ≡ pre ++ e ∷ more)
take_past pre e post n lt =
    let is : n ≡ length pre + suc (n - suc (length pre)) = omega arith in
    (take (n - suc (length pre)) post, ap (λ (m : ℕ). take m (pre ++ e ∷ post)) is ∙ take-append-add pre (e ∷ post) (suc (n - suc (length pre))))

-- the marks of a journal's first events are the first marks
pub first_marks : (n : ℕ) (journal : List Event) → take (length (gapped_marks 0 (take n journal))) (gapped_marks 0 journal) ≡ gapped_marks 0 (take n journal)
first_marks n journal =
    ap (λ (l : List Event). take (length (gapped_marks 0 (take n journal))) (gapped_marks 0 l)) (sym (take-append-drop n journal))
    ∙ ap (take (length (gapped_marks 0 (take n journal)))) (gapped_marks_split 0 (take n journal) (drop n journal))
    ∙ take-append_seam (gapped_marks 0 (take n journal)) (gapped_marks (gap_after 0 (take n journal)) (drop n journal))
