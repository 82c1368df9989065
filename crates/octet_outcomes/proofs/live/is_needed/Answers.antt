use Rattle.std.proofs.Common.{◌≡◌, ℕ, suc, true, false, sym, ap, ◌∙◌}
use Rattle.std.proofs.lemmas.Option.{slice_get-get_or}
use Rattle.octet_outcomes.specs.Flow.{live_at}
use Rattle.octet_outcomes.proofs.Sparing.{spared_by}
use Rattle.octet_outcomes.proofs.live.is_needed.Goals as goal
use Rattle.octet_outcomes.proofs.live.is_needed.Goals.{else-is_live_past-via-then-is_live_past+else-not-sets, else-is_live_past-via-else-is_live_past}

pub returns-then-is_opener : goal.returns-then-is_opener
returns-then-is_opener c dead =
    spared_by c.args.commands.now c.args.live.now c.args.place c.args.register _ c.requires.there (sym c.if-uses.ensures)
    (λ alive. elim c.else-is_live_past.branch [
      | else-is_live_past-via-then-is_live_past+else-not-sets w ↦ w.sets.ensures w.if-not-sets.false
      | else-is_live_past-via-else-is_live_past w ↦ absurd (let no : false ≡ true = sym w.if-is_live_past.false ∙ c.is_live_past.ensures ∙ alive in cc)
    ])
    (λ opener.
    ap (λ (n : ℕ). live_at c.args.live.now (suc n) c.args.register) (sym (c.requires.ends.right c.args.place c.requires.there _ (slice_get-get_or c.args.commands.now c.args.place _ c.requires.there) opener))
    ∙ sym c.is_live_past-then-is_opener.ensures ∙ dead)

pub returns-else-is_opener : goal.returns-else-is_opener
returns-else-is_opener c dead =
    spared_by c.args.commands.now c.args.live.now c.args.place c.args.register _ c.requires.there (sym c.if-uses.ensures)
    (λ alive. elim c.else-is_live_past.branch [
      | else-is_live_past-via-then-is_live_past+else-not-sets w ↦ w.sets.ensures w.if-not-sets.false
      | else-is_live_past-via-else-is_live_past w ↦ absurd (let no : false ≡ true = sym w.if-is_live_past.false ∙ c.is_live_past.ensures ∙ alive in cc)
    ])
    (λ opener. absurd (let no : false ≡ true = c.if-is_opener.ensures ∙ opener in cc))
