-- The digest of a journal that has grown.
use Rattle.std.proofs.Common.{◌≡◌, ◌∙◌, ℕ, List, [], ◌∷◌, ◌++◌, map, refl}
use Rattle.octet_model.specs.declared.event.Event.{Event}
use Rattle.octet_model.specs.declared.event.Event.TheVariants.{Marked}
use Rattle.octet_model.specs.declared.event.Mark.{Mark}
use Rattle.octet_digest.specs.Digests.{digest_with, digest_after, digest_of}
use Rattle.octet_digest.proofs.lemmas.Digests.{journals_join}

of_marks : (marks : List Mark) (digest : ℕ) (later : List Event) → digest_after digest (map (λ mark. Marked mark) marks ++ later) ≡ digest_after digest later
of_marks [] digest later = refl
of_marks (mark ∷ marks) digest later = of_marks marks digest later

-- marks are nothing to a digest
pub after_marks : (made : List Event) (marks : List Mark) → digest_of (made ++ map (λ mark. Marked mark) marks) ≡ digest_of made
after_marks made marks = journals_join 0 made (map (λ mark. Marked mark) marks) ∙ all_marks marks (digest_of made)
  where
    all_marks : (marks : List Mark) (digest : ℕ) → digest_after digest (map (λ mark. Marked mark) marks) ≡ digest
    all_marks [] digest = refl
    all_marks (mark ∷ marks) digest = all_marks marks digest

-- marks, and then an access
pub after_access : (made : List Event) (marks : List Mark) (access : Event) → digest_of (made ++ (map (λ mark. Marked mark) marks ++ access ∷ [])) ≡ digest_with access (digest_of made)
after_access made marks access = journals_join 0 made (map (λ mark. Marked mark) marks ++ access ∷ []) ∙ of_marks marks (digest_of made) (access ∷ [])
