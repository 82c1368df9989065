use Rattle.std.proofs.Common.{rules, ◌≡◌, Some}
use Rattle.octet_recorder.specs.declared.access.Access.TheVariants.{Read}
use Rattle.octet_session.proofs.recording.read_on.Goals as goal

pub returns-in-Some-clause-notes : goal.returns-in-Some-clause-notes
returns-in-Some-clause-notes c =
    let is : c.args.track.now.begun ≡ Some (Read c.args.object) = search rules in
    c.poll.ensures.notes (Read c.args.object) is
