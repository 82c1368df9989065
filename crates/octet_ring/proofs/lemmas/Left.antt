-- What is left of a sender, once it was taken.
use Rattle.std.proofs.Common.{arith, ◌≡◌, sym, ◌∙◌, ap, ℕ, ◌+◌, List, [], ◌++◌, length, length-append}
use Rattle.std.proofs.lemmas.List.{nil_from_length, append-nil}

-- where as many were taken as were left, and what was received still begins what was sent, it is all
pub all_taken : {X : Type 0} (sent before after more rest : List X) (count : ℕ) → sent ≡ before ++ more → length more ≡ count → length after ≡ length before + count → sent ≡ after ++ rest → after ≡ sent
all_taken sent before after more rest count first long took then =
    let as_first : length sent ≡ length before + length more = ap length first ∙ length-append before more in
    let as_then : length sent ≡ length after + length rest = ap length then ∙ length-append after rest in
    let none : rest ≡ [] = nil_from_length rest (omega arith) in
    sym (then ∙ ap (λ marks. after ++ marks) none ∙ append-nil after)
