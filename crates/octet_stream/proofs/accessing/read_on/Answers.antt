use Rattle.std.proofs.Common.{◌≡◌, ℕ, sym, subst}
use Rattle.octet_model.specs.declared.event.Event.TheVariants as event
use Rattle.octet_digest.specs.Digests.{bits_of, digest_with}
use Rattle.octet_recorder.specs.declared.access.Access.TheVariants.{Read}
use Rattle.octet_stream.specs.declared.track.Track.{Track}
use Rattle.octet_stream.specs.Tracks.{IsTrackOf}
use Rattle.octet_stream.specs.Accesses.{backoff_after}
use Rattle.octet_stream.proofs.Keeping.{keeps_made, keeps_waiting, runs_on}
use Rattle.octet_stream.proofs.accessing.read_on.Goals as goal

pub returns-in-Ready-clause-own : goal.returns-in-Ready-clause-own
returns-in-Ready-clause-own c =
    let v = c.args.track.now in let marker = c.access_on.new.marker in
    let adds = c.in-Ready.ensures.polls.journal in
    let with_it = subst (λ (n : ℕ). bits_of c.read.result ≡ digest_with (event.Read c.args.object n) (bits_of v.digest)) adds.value c.read.ensures in
    subst (λ (t : Track). IsTrackOf c.args.run.now t) (sym c.made.ensures.made)
    (keeps_made c.args.run.now v marker c.requires.own (runs_on c.args.begun (Read c.args.object) v c.requires.may) c.in-Ready.ensures.own c.in-Ready.ensures.same c.read.result (event.Read c.args.object adds.told) adds.marks
    c.in-Ready.ensures.pending c.in-Ready.ensures.changing adds.grown with_it)

pub returns-in-Pending-clause-own : goal.returns-in-Pending-clause-own
returns-in-Pending-clause-own c =
    let v = c.args.track.now in
    let adds = c.in-Pending.ensures.polls.journal in
    subst (λ (t : Track). IsTrackOf c.args.run.now t) (sym c.waits.ensures.stays)
    (keeps_waiting c.args.run.now v c.access_on.new.marker c.requires.own (runs_on c.args.begun (Read c.args.object) v c.requires.may) c.in-Pending.ensures.own c.in-Pending.ensures.same (Read c.args.object) (backoff_after c.in-Pending.why) adds.marks
    c.in-Pending.ensures.pending c.in-Pending.ensures.changing adds.grown)
