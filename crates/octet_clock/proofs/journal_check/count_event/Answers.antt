use Rattle.std.proofs.Common.{◌≡◌, ℕ, suc, ◌+◌, true, List, Some, slice_get, slice_index, slice_set, sym, ap, ◌∙◌, arith}
use Rattle.std.proofs.lemmas.List.{set-get_or}
use Rattle.std.proofs.lemmas.Option.{get_or_from_slice_get}
use Rattle.octet_model.specs.declared.event.Event.{Event}
use Rattle.octet_model.specs.declared.event.Event.TheVariants.{Read, Write, Update, Marked}
use Rattle.octet_model.specs.HappensBefore.{is_access}
use Rattle.octet_replay.specs.declared.need.Need.{Need}
use Rattle.octet_replay.specs.declared.need.Need.TheVariants.{Free}
use Rattle.octet_replay.specs.Needs.{NeedsAndCounts, after_events, after_step}
use Rattle.octet_replay.specs.Replayed.{is_draw}
use Rattle.octet_clock.proofs.journal_check.count_event.Goals as goal

-- a thread that waits for nothing goes on so
goes_on : (needs : List Need) (thread : ℕ) → slice_get needs thread ≡ Some Free → slice_set needs thread Free ≡ needs
goes_on needs thread free =
    ap (λ (need : Need). slice_set needs thread need) (sym (get_or_from_slice_get needs thread Free Free free)) ∙ set-get_or needs thread Free

one_more : (n : ℕ) → 1 + n ≡ suc n
one_more n = omega arith

-- an event of such a thread is counted
one_counted : (w : NeedsAndCounts) (thread : ℕ) → slice_get w.needs thread ≡ Some Free
    → after_events w thread 1 ≡ record { needs = slice_set w.needs thread Free; events = slice_set w.events thread (suc (slice_index w.events thread)); draws = w.draws }
one_counted w thread free =
    λ i. record { needs = sym (goes_on w.needs thread free) i; events = slice_set w.events thread (one_more (slice_index w.events thread) i); draws = w.draws }

-- an access is no draw
counted_alone : (w : NeedsAndCounts) (thread : ℕ) (event : Event) → is_access event ≡ true → slice_get w.needs thread ≡ Some Free
    → after_events w thread 1 ≡ after_step w thread (is_draw event) Free
counted_alone w thread (Read object value) access free = one_counted w thread free
counted_alone w thread (Write object value) access free = one_counted w thread free
counted_alone w thread (Update object old new) access free = one_counted w thread free
counted_alone w thread (Marked mark) access free = absurd cc

pub returns-in-Free : goal.returns-in-Free
returns-in-Free c =
    let access : is_access c.args.event ≡ true = sym c.is_access.ensures ∙ c.if-is_access.true in
    c.count.ensures ∙ counted_alone c.args.waits.now c.args.thread c.args.event access (c.requires.free access)
    ∙ ap (λ (next : Need). after_step c.args.waits.now c.args.thread (is_draw c.args.event) next) (sym c.in-Free.is)
