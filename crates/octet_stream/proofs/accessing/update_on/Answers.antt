use Rattle.std.proofs.Common.{◌≡◌, ℕ, sym, subst}
use Rattle.octet_model.specs.declared.event.Event.TheVariants as event
use Rattle.octet_digest.specs.Digests.{bits_of, digest_with}
use Rattle.octet_rule.specs.Changes.{changed_by}
use Rattle.octet_recorder.specs.declared.access.Access.TheVariants.{Update}
use Rattle.octet_stream.specs.declared.track.Track.{Track}
use Rattle.octet_stream.specs.Tracks.{IsTrackOf}
use Rattle.octet_stream.specs.Accesses.{backoff_after}
use Rattle.octet_stream.proofs.Keeping.{keeps_made, keeps_waiting, runs_on}
use Rattle.octet_stream.proofs.accessing.update_on.Goals as goal

pub returns-in-Made-clause-own : goal.returns-in-Made-clause-own
returns-in-Made-clause-own c =
    let v = c.args.track.now in let before = c.in-Made.before in
    let adds = c.in-Made.ensures.polls.journal in
    let with_it = subst (λ (n : ℕ). bits_of c.update-in-Made.result ≡ digest_with (event.Update c.args.object before n) (bits_of v.digest)) c.changed.ensures c.update-in-Made.ensures in
    subst (λ (t : Track). IsTrackOf c.args.run.now t) (sym c.made.ensures.made)
    (keeps_made c.args.run.now v c.update.new.self c.requires.own (runs_on c.args.begun (Update c.args.object c.args.change) v c.requires.may) c.in-Made.ensures.own c.in-Made.ensures.same c.update-in-Made.result
    (event.Update c.args.object before (changed_by c.args.change before)) adds.marks c.in-Made.ensures.pending c.in-Made.ensures.changing adds.grown with_it)

pub returns-in-Pending-clause-own : goal.returns-in-Pending-clause-own
returns-in-Pending-clause-own c =
    let v = c.args.track.now in
    let adds = c.in-Pending.ensures.polls.journal in
    subst (λ (t : Track). IsTrackOf c.args.run.now t) (sym c.waits.ensures.stays)
    (keeps_waiting c.args.run.now v c.update.new.self c.requires.own (runs_on c.args.begun (Update c.args.object c.args.change) v c.requires.may) c.in-Pending.ensures.own c.in-Pending.ensures.same
    (Update c.args.object c.args.change) (backoff_after c.in-Pending.why) adds.marks c.in-Pending.ensures.pending c.in-Pending.ensures.changing adds.grown)
