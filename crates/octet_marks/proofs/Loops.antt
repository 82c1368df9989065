-- Reading marks one after the other, as a loop does.
use Rattle.std.proofs.Common.{◌≡◌, ℕ, zero, suc, ◌-◌, ◌+◌, ◌≤◌, ◌<◌, eqb, true, false, List, [], ◌∷◌, ◌++◌, length, Option, Some, None, refl, sym, ap, ◌∙◌, arith}
use Rattle.std.proofs.lemmas.Bool.{eqb-true, eqb-false}
use Rattle.octet_model.specs.declared.log.Gapped.{Gapped}
use Rattle.octet_marks.specs.Fields.{◌>>=◌}
use Rattle.octet_marks.specs.Marks.{mark_at, marks_at}

one_more : (most : ℕ) (marks : List Gapped) (rest : List ℕ) → eqb (length rest) 0 ≡ false → marks_at (suc most) marks rest ≡ (mark_at marks rest >>= λ gapped. marks_at most (marks ++ gapped.0 ∷ []) gapped.1)
unfolding marks_at
one_more most marks [] some = absurd (eqb-false 0 0 some refl)
one_more most marks (byte ∷ rest) some = refl

pub at_end : (most : ℕ) (marks : List Gapped) (rest : List ℕ) (all : Option (List Gapped)) → eqb (length rest) 0 ≡ true → marks_at most marks rest ≡ all → Some marks ≡ all
unfolding marks_at
at_end zero marks [] all none so_far = so_far
at_end (suc most) marks [] all none so_far = so_far
at_end most marks (byte ∷ rest) all none so_far = absurd (omega (arith, eqb-true (length (byte ∷ rest)) 0 none))

pub too_many : (n i : ℕ) (marks : List Gapped) (rest : List ℕ) (all : Option (List Gapped)) → n ≤ i → eqb (length rest) 0 ≡ false → marks_at (n - i) marks rest ≡ all → None ≡ all
unfolding marks_at
too_many n i marks [] all done some so_far = absurd (eqb-false 0 0 some refl)
too_many n i marks (byte ∷ rest) all done some so_far = let none : n - i ≡ 0 = omega arith in ap (λ k. marks_at k marks (byte ∷ rest)) (sym none) ∙ so_far

pub no_mark : (n i : ℕ) (marks : List Gapped) (rest : List ℕ) (all : Option (List Gapped)) → i < n → eqb (length rest) 0 ≡ false → mark_at marks rest ≡ None → marks_at (n - i) marks rest ≡ all → None ≡ all
no_mark n i marks rest all within some none so_far =
    let more : n - i ≡ suc (n - (i + 1)) = omega arith in
    sym (ap (λ k. marks_at k marks rest) more ∙ one_more (n - (i + 1)) marks rest some ∙ rw none refl) ∙ so_far

pub goes_on : (n i : ℕ) (marks : List Gapped) (rest : List ℕ) (gapped : Gapped) (after : List ℕ) (all : Option (List Gapped)) → i < n → eqb (length rest) 0 ≡ false → mark_at marks rest ≡ Some (gapped, after) → marks_at (n - i) marks rest ≡ all → marks_at (n - (i + 1)) (marks ++ gapped ∷ []) after ≡ all
goes_on n i marks rest gapped after all within some is so_far =
    let more : n - i ≡ suc (n - (i + 1)) = omega arith in
    sym (ap (λ k. marks_at k marks rest) more ∙ one_more (n - (i + 1)) marks rest some ∙ rw is refl) ∙ so_far
