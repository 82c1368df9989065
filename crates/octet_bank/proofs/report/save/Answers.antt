use Rattle.std.proofs.Common.{◌∙◌, ℕ, List, Option, IsSome, refl, sym, subst}
use Rattle.octet_bank.proofs.Saved.{saved, where_ok}
use Rattle.octet_bank.proofs.report.save.Goals as goal

pub returns-clause-saved : goal.returns-clause-saved
returns-clause-saved g c =
    let begin = c.in_ok-begin.ensures in let add = c.in_ok-add.ensures in
    where_ok c.finish.result _
    (saved c.args.name.now c.args.bytes.now (g.D.Desk.state c.args.desk.now).contents (g.D.Desk.state c.begin.new.self).contents (g.D.Desk.state c.add.new.self).contents (g.D.Desk.state c.finish.new.self).contents
    (g.D.Desk.state c.begin.new.self).begun begin.done begin.begun_done add.done c.finish.ensures.contents)

pub begin-requires : goal.begin-requires
begin-requires g c = c.requires

pub add-requires : goal.add-requires
add-requires g c = subst (λ (o : Option (List ℕ)). IsSome o) (sym c.in_ok-begin.ensures.begun_done) refl

pub finish-requires : goal.finish-requires
finish-requires g c = subst (λ (o : Option (List ℕ)). IsSome o) (sym (c.in_ok-add.ensures.begun ∙ c.in_ok-begin.ensures.begun_done)) refl

pub returns-clause-begun : goal.returns-clause-begun
returns-clause-begun g c = where_ok c.finish.result _ c.finish.ensures.begun
