-- The last number of a source, and marks taken one by one from the end.
use Rattle.std.proofs.Common.{◌≡◌, ℕ, ◌≢◌, ◌+◌, ◌-◌, ◌<◌, ◌≤◌, cond, eqb, List, [], ◌∷◌, ◌++◌, length, take, get_or, refl, ap, ◌∙◌, arith}
use Rattle.std.proofs.lemmas.List.{take_more}
use Rattle.std.proofs.lemmas.Bool.{eq-eqb, ne_eqb}
use Rattle.octet_model.specs.declared.log.Gapped.{Gapped}
use Rattle.octet_marks.specs.Marks.{source_of, number_of, last_number}

pub last_push : (source before : ℕ) (marks : List Gapped) (gapped : Gapped) → last_number source before (marks ++ gapped ∷ []) ≡ cond (eqb (source_of gapped.mark) source) (number_of gapped.mark) (last_number source before marks)
last_push source before [] gapped = refl
last_push source before (g ∷ marks) gapped = last_push source (cond (eqb (source_of g.mark) source) (number_of g.mark) before) marks gapped

-- the last number of one mark more
pub last_more : (source : ℕ) (marks : List Gapped) (i : ℕ) (d : Gapped) → i < length marks → last_number source 0 (take (i + 1) marks) ≡ cond (eqb (source_of (get_or marks i d).mark) source) (number_of (get_or marks i d).mark) (last_number source 0 (take i marks))
last_more source marks i d within = ap (last_number source 0) (take_more marks i d within) ∙ last_push source 0 (take i marks) (get_or marks i d)

pub last_found : (source : ℕ) (marks : List Gapped) (left : ℕ) (d : Gapped) → 0 < left → left ≤ length marks → source_of (get_or marks (left - 1) d).mark ≡ source → last_number source 0 (take left marks) ≡ number_of (get_or marks (left - 1) d).mark
last_found source marks left d some within same =
    let more : left ≡ left - 1 + 1 = omega arith in
    ap (λ n. last_number source 0 (take n marks)) more ∙ last_more source marks (left - 1) d (omega arith)
    ∙ rw (eq-eqb (source_of (get_or marks (left - 1) d).mark) source same) refl

pub last_other : (source : ℕ) (marks : List Gapped) (left : ℕ) (d : Gapped) → 0 < left → left ≤ length marks → source_of (get_or marks (left - 1) d).mark ≢ source → last_number source 0 (take left marks) ≡ last_number source 0 (take (left - 1) marks)
last_other source marks left d some within other =
    let more : left ≡ left - 1 + 1 = omega arith in
    ap (λ n. last_number source 0 (take n marks)) more ∙ last_more source marks (left - 1) d (omega arith)
    ∙ rw (ne_eqb (source_of (get_or marks (left - 1) d).mark) source other) refl
