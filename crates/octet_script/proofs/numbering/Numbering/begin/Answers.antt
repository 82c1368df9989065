use Rattle.std.proofs.Common.{ℕ, List, [], ◌∷◌, ◌++◌, ap, ◌∙◌}
use Rattle.octet_script.specs.declared.numbering.Numbering.{Numbering}
use Rattle.octet_script.proofs.Numbered.{keeps_present, keeps_none}
use Rattle.octet_script.proofs.numbering.Numbering.begin.Goals.{then-self+in_ok-push, else-self}
use Rattle.octet_script.proofs.numbering.Numbering.begin.Goals as goal

pub returns : goal.returns
returns c part parts =
    elim c.if-self.branch [
      | then-self+in_ok-push w ↦
          keeps_present c.args.self.now c.if-self.self.threads c.if-self.self.present part parts w.if-self.true
          (ap (λ (n : Numbering). n.threads) w.self-is ∙ w.in_ok-push.ensures.ok ∙ ap (λ (p : List ℕ). c.args.self.now.threads ++ p ∷ []) c.replace-present.ensures.value)
          (ap (λ (n : Numbering). n.present) w.self-is ∙ c.replace-present.ensures.after ∙ c.new.ensures)
      | else-self w ↦
          keeps_none c.args.self.now c.if-self.self.threads c.if-self.self.present part parts w.if-self.false
          (ap (λ (n : Numbering). n.threads) w.self-is)
          (ap (λ (n : Numbering). n.present) w.self-is ∙ c.replace-present.ensures.after ∙ c.new.ensures)
    ]
