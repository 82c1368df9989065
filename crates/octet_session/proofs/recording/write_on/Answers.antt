use Rattle.std.proofs.Common.{rules, ◌≡◌, Some}
use Rattle.octet_recorder.specs.declared.access.Access.TheVariants.{Write}
use Rattle.octet_session.proofs.recording.write_on.Goals as goal

pub returns-in-Some-clause-notes : goal.returns-in-Some-clause-notes
returns-in-Some-clause-notes c =
    let is : c.args.track.now.begun ≡ Some (Write c.args.object c.args.value) = search rules in
    c.poll.ensures.notes (Write c.args.object c.args.value) is
