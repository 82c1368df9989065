use Rattle.std.proofs.Common.{inl, inr, ap, sym, arith, ◌∙◌}
use Rattle.std.proofs.lemmas.Bool.{cases_lt}
use Rattle.octet_state.specs.declared.limits.TheConstants.{MAX_ACCESSES_OF_THREAD}
use Rattle.octet_model.specs.Journals.{access_count}
use Rattle.octet_stream.specs.Tracks.{journal_of}
use Rattle.octet_stream.proofs.Sent.{false_is_not_true}
use Rattle.octet_stream.proofs.long_run.LongRun.make_room.Goals as goal

pub returns-then-not-has_room-clause-reason : goal.returns-then-not-has_room-clause-reason
returns-then-not-has_room-clause-reason c =
    let same = ap (λ s. access_count s.journal) c.hand_on.ensures.same.seat in
    elim (cases_lt (access_count (journal_of c.args.track.now)) MAX_ACCESSES_OF_THREAD) [
      | inl few ↦ absurd (false_is_not_true (sym c.if-not-has_room.true ∙ c.has_room.ensures.whole.1 (c.hand_on.ensures.room c.if-not-hand_on.false few)))
      | inr all ↦ omega (arith, same, all)
    ]
