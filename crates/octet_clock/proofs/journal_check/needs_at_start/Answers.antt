use Rattle.std.proofs.Common.{◌≡◌, ℕ, List, [], length, Option, slice_get, sym, ap, ◌∙◌, subst, arith, length-append}
use Rattle.std.proofs.lemmas.List.{get_or_default}
use Rattle.octet_model.specs.declared.event.Event.{Event}
use Rattle.octet_model.specs.Plays.{next_in, by_journals}
use Rattle.octet_replay.specs.declared.need.Need.{Need}
use Rattle.octet_replay.specs.Threads.{need_of}
use Rattle.octet_replay.proofs.lemmas.Reading.{holds_pushed}
use Rattle.octet_clock.proofs.journal_check.needs_at_start.Goals as goal

pub loop-journal-preserved : goal.loop-journal-preserved
loop-journal-preserved c =
    let journals = c.args.journals.now in
    let k = c.loop-journal.journal-index in
    let journal_is = c.journal-item.is ∙ get_or_default journals k c.journal-item.result [] c.loop-journal-test.true in
    let new : c.need_of.result ≡ need_of (by_journals journals k []) =
    c.need_of.ensures ∙ ap (λ (o : Option Event). need_of (next_in o)) (c.copied.ensures ∙ c.get.ensures) ∙ ap (λ (j : List Event). need_of (next_in (slice_get j 0))) journal_is in
    let P : ℕ → Need → Type 0 = λ t need. need ≡ need_of (by_journals journals t []) in
    let many = c.loop-journal.invariant.as_many in
    record {
      as_many = omega (arith, ap (λ (ns : List Need). length ns) c.in_ok-push.ensures.ok, length-append {A = Need}, many);
      each = λ t need at.
          holds_pushed P c.loop-journal.needs c.need_of.result c.loop-journal.invariant.each (subst (λ (n : ℕ). P n c.need_of.result) (sym many) new)
          t need (ap (λ (ns : List Need). slice_get ns t) (sym c.in_ok-push.ensures.ok) ∙ at);
    }
