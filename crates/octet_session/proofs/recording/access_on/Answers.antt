use Rattle.std.proofs.Common.{ℕ, Result, IfErr, OnOk, sym, subst}
use Rattle.std.specs.declared.convert.Infallible.{Infallible}
use Rattle.octet_recorder.specs.declared.access.Access.{Access}
use Rattle.octet_recorder.specs.declared.access.Access.TheVariants.{Read, Write, Update}
use Rattle.octet_session.specs.declared.not_made.NotMade.{NotMade}
use Rattle.octet_session.specs.Asking.{Asks}
use Rattle.octet_session.specs.Recording.{track_standing, IsPending, IsMade}
use Rattle.octet_session.proofs.Asked.{asked_read, asked_write, asked_update, poll_is_reason, update_is_reason, poll_is_made, update_is_made}
use Rattle.octet_session.proofs.recording.access_on.Goals as goal

pub returns-in-Read-clause-asks : goal.returns-in-Read-clause-asks
returns-in-Read-clause-asks c =
    let v = track_standing c.args.recorder.now c.args.track.now in let w = track_standing c.args.recorder.now c.read_on.new.track in
    let asked = asked_read c.args.recorder.now c.args.track.now c.read_on.new.track c.requires.more c.read_on.ensures.number c.in-Read.object c.read_on.result c.read_on.ensures.begun c.read_on.ensures.notes in
    subst (λ (a : Access). Asks a v c.poll_answer.result w) (sym c.in-Read.is) (subst (λ (r : Result ℕ (NotMade Infallible)). Asks (Read c.in-Read.object) v r w) (sym c.poll_answer.ensures) asked)

pub returns-in-Write-clause-asks : goal.returns-in-Write-clause-asks
returns-in-Write-clause-asks c =
    let v = track_standing c.args.recorder.now c.args.track.now in let w = track_standing c.args.recorder.now c.write_on.new.track in
    let asked =
    asked_write c.args.recorder.now c.args.track.now c.write_on.new.track c.requires.more c.write_on.ensures.number c.in-Write.object c.in-Write.value c.write_on.result c.write_on.ensures.begun c.write_on.ensures.notes in
    subst (λ (a : Access). Asks a v c.poll_answer-in-Write.result w) (sym c.in-Write.is)
    (subst (λ (r : Result ℕ (NotMade Infallible)). Asks (Write c.in-Write.object c.in-Write.value) v r w) (sym c.poll_answer-in-Write.ensures) asked)

pub returns-in-Update-clause-asks : goal.returns-in-Update-clause-asks
returns-in-Update-clause-asks c =
    let v = track_standing c.args.recorder.now c.args.track.now in let w = track_standing c.args.recorder.now c.update.new.track in
    let asked = asked_update c.args.recorder.now c.args.track.now c.update.new.track c.requires.more c.update.ensures.number c.in-Update.object c.in-Update.change c.update.result c.update.ensures.begun c.update.ensures.notes in
    subst (λ (a : Access). Asks a v c.update_answer.result w) (sym c.in-Update.is)
    (subst (λ (r : Result ℕ (NotMade Infallible)). Asks (Update c.in-Update.object c.in-Update.change) v r w) (sym c.update_answer.ensures) asked)

pub returns-in-Read-clause-reason : goal.returns-in-Read-clause-reason
returns-in-Read-clause-reason c =
    let v = c.args.track.now in let w = c.read_on.new.track in
    subst (λ (a : Access). IfErr c.poll_answer.result (IsPending a v w)) (sym c.in-Read.is)
    (subst (λ (r : Result ℕ (NotMade Infallible)). IfErr r (IsPending (Read c.in-Read.object) v w)) (sym c.poll_answer.ensures) (poll_is_reason (Read c.in-Read.object) v w c.read_on.result c.read_on.ensures.notes))

pub returns-in-Write-clause-reason : goal.returns-in-Write-clause-reason
returns-in-Write-clause-reason c =
    let v = c.args.track.now in let w = c.write_on.new.track in
    subst (λ (a : Access). IfErr c.poll_answer-in-Write.result (IsPending a v w)) (sym c.in-Write.is)
    (subst (λ (r : Result ℕ (NotMade Infallible)). IfErr r (IsPending (Write c.in-Write.object c.in-Write.value) v w)) (sym c.poll_answer-in-Write.ensures) (poll_is_reason (Write c.in-Write.object c.in-Write.value) v w c.write_on.result c.write_on.ensures.notes))

pub returns-in-Update-clause-reason : goal.returns-in-Update-clause-reason
returns-in-Update-clause-reason c =
    let v = c.args.track.now in let w = c.update.new.track in
    subst (λ (a : Access). IfErr c.update_answer.result (IsPending a v w)) (sym c.in-Update.is)
    (subst (λ (r : Result ℕ (NotMade Infallible)). IfErr r (IsPending (Update c.in-Update.object c.in-Update.change) v w)) (sym c.update_answer.ensures) (update_is_reason c.in-Update.object c.in-Update.change v w c.update.result c.update.ensures.notes))

pub returns-in-Read-clause-made : goal.returns-in-Read-clause-made
returns-in-Read-clause-made c =
    let v = c.args.track.now in let w = c.read_on.new.track in
    subst (λ (a : Access). OnOk c.poll_answer.result (IsMade a v w)) (sym c.in-Read.is)
    (subst (λ (r : Result ℕ (NotMade Infallible)). OnOk r (IsMade (Read c.in-Read.object) v w)) (sym c.poll_answer.ensures) (poll_is_made (Read c.in-Read.object) v w c.read_on.result c.read_on.ensures.notes))

pub returns-in-Write-clause-made : goal.returns-in-Write-clause-made
returns-in-Write-clause-made c =
    let v = c.args.track.now in let w = c.write_on.new.track in
    subst (λ (a : Access). OnOk c.poll_answer-in-Write.result (IsMade a v w)) (sym c.in-Write.is)
    (subst (λ (r : Result ℕ (NotMade Infallible)). OnOk r (IsMade (Write c.in-Write.object c.in-Write.value) v w)) (sym c.poll_answer-in-Write.ensures) (poll_is_made (Write c.in-Write.object c.in-Write.value) v w c.write_on.result c.write_on.ensures.notes))

pub returns-in-Update-clause-made : goal.returns-in-Update-clause-made
returns-in-Update-clause-made c =
    let v = c.args.track.now in let w = c.update.new.track in
    subst (λ (a : Access). OnOk c.update_answer.result (IsMade a v w)) (sym c.in-Update.is)
    (subst (λ (r : Result ℕ (NotMade Infallible)). OnOk r (IsMade (Update c.in-Update.object c.in-Update.change) v w)) (sym c.update_answer.ensures) (update_is_made c.in-Update.object c.in-Update.change v w c.update.result c.update.ensures.notes))
