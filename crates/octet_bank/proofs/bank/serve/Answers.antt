use Rattle.std.proofs.Common.{rules, ◌∙◌, ℕ, List, codes, subst}
use Rattle.octet_bank.specs.Reports.{Saves}
use Rattle.octet_bank.proofs.Saved.{served}
use Rattle.octet_bank.proofs.bank.serve.Goals as goal

pub returns : goal.returns
returns g c =
    let r = c.in_ok-recording.recording in
    let a = (g.D.Desk.state c.args.desk.now).contents in let b = (g.D.Desk.state c.save.new.desk).contents in
    let d = (g.D.Desk.state c.save-2.new.desk).contents in
    let script = subst (λ (bytes : List ℕ). Saves (codes "bank.octet") bytes a b) (c.deref.ensures.value ∙ c.in_ok-print.ensures.text) c.in_ok-save.ensures.saved in
    let log = subst (λ (bytes : List ℕ). Saves (codes "bank.log") bytes b d) (c.deref-2.ensures.value ∙ c.in_ok-encode_v1.ensures) c.in_ok-save-2.ensures.saved in
    served c.tell-2.result a b d (g.D.Desk.state c.tell.new.desk).contents (g.D.Desk.state c.tell-2.new.desk).contents r.script r.log r.outcome c.in_ok-outcome.outcome _ _ _ (search rules) c.in_ok-recording.ensures.paid c.in_ok-recording.ensures.faithful c.in_ok-outcome.ensures
    script log c.in_ok-tell.ensures.told c.tell-2.ensures.told
