use Rattle.std.proofs.Common.{subst}
use Rattle.octet_tail.specs.Searches.{AreNotedBy}
use Rattle.octet_tail.proofs.Searching.{failed_on, if_err, on_ok, unnoted_by}
use Rattle.octet_tail.proofs.search.note_by.Goals as goal

pub returns-in-Ok-clause-noted : goal.returns-in-Ok-clause-noted
returns-in-Ok-clause-noted c = on_ok c.note.result _ _ (λ noted made last all had. noted made last all (subst (λ r. AreNotedBy made last all r) c.in-Ok.is had)) c.note.ensures.noted

pub returns-in-Ok-clause-failed : goal.returns-in-Ok-clause-failed
returns-in-Ok-clause-failed c =
    if_err c.note.result _ _ (λ why none made last all had. unnoted_by made last all c.args.piece.now why (none made last all (subst (λ r. AreNotedBy made last all r) c.in-Ok.is had))) c.note.ensures.unnoted

pub returns-in-Err-clause-failed : goal.returns-in-Err-clause-failed
returns-in-Err-clause-failed c = λ made last all had. failed_on made last all c.args.piece.now c.in-Err.why (subst (λ r. AreNotedBy made last all r) c.in-Err.is had)
