use Rattle.std.proofs.Common.{◌≡◌, ◌∙◌, ◌++◌, List, ℕ, ap}
use Rattle.std.proofs.lemmas.List.{append_assoc}
use Rattle.octet_commands.specs.Answer.{try_text}
use Rattle.octet_commands.proofs.hunt.find_text.Goals as goal

pub returns : goal.returns
returns c =
    let said = try_text c.args.find.now.attempt c.args.find.now.preemptions in
    let first : c.into_bytes-text.result.items ≡ said = ap (λ v. v.items) c.into_bytes-text.ensures.value ∙ c.in_ok-line.ensures.ok ∙ simp append_assoc in
    c.in_ok-extend_from_slice.ensures.items
    ∙ ap (λ (line : List ℕ). line ++ c.as_slice.result.now) first
    ∙ ap (λ (found : List ℕ). said ++ found) (c.as_slice.ensures.value ∙ c.in_ok-found.ensures)
