-- By the rule the live views tell the words.
use Rattle.std.proofs.Common.{sym, ◌≡◌, ◌∙◌}
use Rattle.octet_state.specs.State.{opening}
use Rattle.octet_seats.proofs.lemmas.Seeing.{all_agree, silence_keeps, arrival_keeps}
use Rattle.octet_rule.specs.Views.{SeatView, facts_of}
use Rattle.octet_rule.specs.Runs.{steps_of}
use Rattle.octet_rule.specs.Rule.{Follows, HasLeft, IsUnmade, IsRuled}
use Rattle.octet_rule.specs.Laws.{ViewsTellWords, SilenceChangesNothing, ArrivalChangesNothing}
use Rattle.octet_rule.proofs.Telling.{steps_tell_words}

pub views_tell_words : ViewsTellWords
views_tell_words threads starts table other r q too =
    r.lie ∙ (steps_tell_words threads starts r.run q.run r.some_thread r.few_threads r.is_run q.is_run
    (all_agree facts_of (Follows threads starts r.run) (Follows threads starts q.run) (HasLeft threads starts r.run) (HasLeft threads starts q.run) (IsUnmade threads starts r.run) (IsUnmade threads starts q.run) threads
    (λ t. steps_of t (opening threads starts) r.run ≡ steps_of t (opening threads starts) q.run) (λ v here there. here.trail ∙ sym there.trail) (λ t left here there. here.trail ∙ sym there.trail) (λ t here there. here.trail ∙ sym there.trail)
    table.views other.views r.seats q.seats too)
    ∙ sym q.lie)

pub silence_changes_nothing : SilenceChangesNothing
silence_changes_nothing threads slots id place starts me operation = silence_keeps (λ (v : SeatView). v.is_live) (IsRuled threads starts) (views_tell_words threads starts) slots id place me operation

pub arrival_changes_nothing : ArrivalChangesNothing
arrival_changes_nothing threads slots place starts operation = arrival_keeps (λ (v : SeatView). v.is_live) (IsRuled threads starts) (views_tell_words threads starts) slots place operation
