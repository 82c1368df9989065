-- A worker's journal grows at its end, and was seen.
use Rattle.std.proofs.Common.{◌≡◌, ◌∙◌, List, [], ◌∷◌, ◌++◌, Option, None, Some, refl, sym, ap, subst, append_assoc, append-nil}
use Rattle.std.specs.Option.{ForSome}
use Rattle.octet_model.specs.declared.event.Event.{Event}
use Rattle.octet_model.specs.declared.log.Gapped.{Gapped}
use Rattle.octet_model.specs.Journals.{gap_after, gapped_marks}
use Rattle.octet_model.proofs.lemmas.Splits.{gapped_marks_split}
use Rattle.octet_state.specs.State.{ProtocolState}
use Rattle.octet_state.specs.Steps.{made, ended_by, step}
use Rattle.octet_rule.specs.Rule.{IsSeenBy}
use Rattle.octet_rule.specs.Views.{SeatView, Taken, stepped_by}
use Rattle.octet_heap.specs.Walks.{Task, after_steps}
use Rattle.octet_heap.proofs.lemmas.Walks.{after_more}
use Rattle.octet_live.specs.declared.feed.Feed.{Feed}
use Rattle.octet_live.specs.Feeds.{HasSent}
use Rattle.octet_live.proofs.lemmas.Feeds.{still_sent}
use Rattle.octet_threads.specs.Tasks.{Does}

-- a list that begins with another
abbrev pub Grows : List Event → List Event → Type 0
Grows before after = (more : List Event) × (after ≡ before ++ more)

by_event : (journal : List Event) (event : Option Event) → Grows journal (ended_by journal event)
by_event journal None = ([], sym (append-nil journal))
by_event journal (Some event) = (event ∷ [], refl)

by_steps : (steps : List Taken) (v : SeatView) → Grows v.journal (after_steps steps v).journal
by_steps [] v = ([], sym (append-nil v.journal))
by_steps (t ∷ steps) v =
    let first = by_event v.journal (made t.kind v.number t.word v.thread) in
    let rest = by_steps steps (stepped_by t.kind t.word v) in
    (first.0 ++ rest.0, rest.1 ∙ (ap (λ (l : List Event). l ++ rest.0) first.1 ∙ append_assoc v.journal first.0 rest.0))

module _ (task : Task) (v w : SeatView) (does : Does task v w) where
  pub task_grows : Grows v.journal w.journal
  task_grows = let grown = by_steps (does.going ++ does.last ∷ []) v in (grown.0, ap (λ (x : SeatView). x.journal) does.after ∙ grown.1)

  -- after its last step
  pub task_seen : (state : ProtocolState) × IsSeenBy w state
  task_seen =
      let before = after_steps does.going v in
      let took = does.is_next.took in (
        step does.last.kind before.number took.before,
        subst (λ (x : SeatView). IsSeenBy x (step does.last.kind before.number took.before)) (sym (does.after ∙ after_more does.going (does.last ∷ []) v)) took.seen_after,
      )

-- the marks that were sent stay the first
pub feed_still_sent : (feed : Option Feed) (journal after : List Event) → Grows journal after → ForSome feed (λ feed. HasSent feed (gapped_marks 0 journal)) → ForSome feed (λ feed. HasSent feed (gapped_marks 0 after))
feed_still_sent feed journal after grown has own is =
    let split = ap (λ (l : List Event). gapped_marks 0 l) grown.1 ∙ gapped_marks_split 0 journal grown.0 in
    subst (λ (marks : List Gapped). HasSent own marks) (sym split) (still_sent own (gapped_marks 0 journal) (gapped_marks (gap_after 0 journal) grown.0) (has own is))
