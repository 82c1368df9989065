use Rattle.std.proofs.Common.{◌∙◌}
use Rattle.octet_script.proofs.Numbered.{ends_present, ends_none}
use Rattle.octet_script.proofs.numbering.Numbering.finish.Goals.{then-self+in_ok-push, else-self}
use Rattle.octet_script.proofs.numbering.Numbering.finish.Goals as goal

pub returns : goal.returns
returns c =
    elim c.if-self.branch [
      | then-self+in_ok-push w ↦ ends_present c.args.self c.if-self.threads w.if-self.true (w.threads-is ∙ w.in_ok-push.ensures.ok)
      | else-self w ↦ ends_none c.args.self c.if-self.threads w.if-self.false w.threads-is
    ]
