-- Marks of threads.
use Rattle.std.proofs.Common.{◌≡◌, ◌∙◌, sym, ap, ℕ, ◌+◌, ◌<◌, ◌==◌, Bool, not, List, [], ◌∷◌, ◌++◌, length, map, get_or, take, slice_set}
use Rattle.std.proofs.lemmas.List.{take_more, take_more_set, map_push}
use Rattle.octet_schedule.specs.Ready.{marked}

-- one mark more is read
pub one_more : (marks : List ℕ) (so_far : List Bool) (place : ℕ) → take place so_far ≡ marked (take place marks)
    → place < length marks → place < length so_far
    → take (place + 1) (slice_set so_far place (not (get_or marks place 0 == 0))) ≡ marked (take (place + 1) marks)
one_more marks so_far place same there room =
    let mark : ℕ = get_or marks place 0 in
    let is_marked : ℕ → Bool = λ one. not (one == 0) in
    take_more_set so_far place (is_marked mark) room
    ∙ ap (λ begun. begun ++ is_marked mark ∷ []) same
    ∙ sym (map_push is_marked (take place marks) mark)
    ∙ ap (map is_marked) (sym (take_more marks place 0 there))
