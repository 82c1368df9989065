-- What a command answers that begins with the check of the log.
use Rattle.std.proofs.Common.{◌≡◌, List, Result, Ok, Err, inl, inr, ap, refl, ◌∙◌}
use Rattle.octet_model.specs.declared.log.ThreadLog.{ThreadLog}
use Rattle.octet_model.specs.declared.script.Script.{Script}
use Rattle.octet_model.specs.Machine.{PlainState}
use Rattle.octet_model.specs.Orders.{by_log, execution, lowest_order, outcome_of, starting_heap}
use Rattle.octet_model.proofs.lemmas.Fronts.{one_end, front_leads_on}
use Rattle.octet_clock.specs.Fronts.{OrdersConflicts}
use Rattle.octet_commands.specs.declared.refusal.Refused.{Refused}
use Rattle.octet_commands.specs.declared.refusal.Refused.TheVariants.{Because, OutOfMemory}
use Rattle.octet_clock.specs.declared.verdict.Verdict.TheVariants.{Ordered, Unordered}
use Rattle.octet_clock.specs.Verified.{IsVerified}
use Rattle.octet_commands.specs.declared.inputs.Pair.{Pair}
use Rattle.octet_commands.specs.declared.reply.Reply.{Reply}
use Rattle.octet_model.specs.declared.outcome.Outcome.{Outcome}
use Rattle.octet_replay.specs.Judged.{IsLawful}
use Rattle.octet_regions.specs.declared.serial.Serialized.{Serialized}
use Rattle.octet_regions.specs.Accesses.{accesses_of}
use Rattle.octet_regions.specs.Choice.{IsSerial}
use Rattle.octet_regions.specs.Runs.{Shows}
use Rattle.octet_commands.specs.declared.request.PairTask.TheVariants.{Verify}
use Rattle.octet_commands.specs.Answer.{Answer, answer_of, IsAnswered, does_not_fit, serial_said, verdict_said}
use Rattle.octet_commands.specs.Commands.{Fitting, PairReplays, SerialSays, WhereOrdered}
use Rattle.octet_commands.specs.Checked.{IsChecked, RefusesOrder}

-- the check refuses
order_refused : (Next : Answer → Type 0) (pair : Pair) (answer : Answer) → RefusesOrder pair answer → Fitting does_not_fit (WhereOrdered Next pair) pair.source.script pair.loaded.log.threads answer
order_refused Next pair answer (inl fault) = inl fault
order_refused Next pair answer (inr (first, second, verified, is)) = inr (verified.lawful, (Unordered first second, verified, is))

pub check_refused : (Next : Answer → Type 0) (pair : Pair) (stop : Refused) → IsChecked pair (Err stop) → IsAnswered (Fitting does_not_fit (WhereOrdered Next pair) pair.source.script pair.loaded.log.threads) (Err stop)
check_refused Next pair (Because reply) refused = order_refused Next pair (answer_of reply) refused
check_refused Next pair OutOfMemory refused = tt

-- which `verify` says
pub verified_not : (pair : Pair) (stop : Refused) → IsChecked pair (Err stop) → IsAnswered (PairReplays Verify pair) (Err stop)
verified_not pair (Because reply) (inl fault) = inl fault
verified_not pair (Because reply) (inr (first, second, verified, is)) = inr (verified.lawful, (Unordered first second, verified, is))
verified_not pair OutOfMemory refused = tt

-- and so it does where it passes
pub verified_ordered : (pair : Pair) (answer : Answer) → IsVerified pair.source.script pair.loaded.log.threads Ordered → answer ≡ verdict_said Ordered → PairReplays Verify pair answer
verified_ordered pair answer verified is = inr (verified.lawful, (Ordered, verified, is))

-- or it passes, and the command goes on
after_check : (Next : Answer → Type 0) (pair : Pair) (answer : Answer) → IsVerified pair.source.script pair.loaded.log.threads Ordered → Fitting does_not_fit Next pair.source.script pair.loaded.log.threads answer
    → Fitting does_not_fit (WhereOrdered Next pair) pair.source.script pair.loaded.log.threads answer
after_check Next pair answer verified (inl fault) = inl fault
after_check Next pair answer verified (inr (lawful, says)) = inr (lawful, (Ordered, verified, says))

pub check_passed : (Next : Answer → Type 0) (pair : Pair) (result : Result Reply Refused) → IsVerified pair.source.script pair.loaded.log.threads Ordered → IsAnswered (Fitting does_not_fit Next pair.source.script pair.loaded.log.threads) result
    → IsAnswered (Fitting does_not_fit (WhereOrdered Next pair) pair.source.script pair.loaded.log.threads) result
check_passed Next pair (Ok reply) verified says = after_check Next pair (answer_of reply) verified says
check_passed Next pair (Err (Because reply)) verified says = after_check Next pair (answer_of reply) verified says
check_passed Next pair (Err OutOfMemory) verified says = tt

-- what threads found to order all conflicts is so verified
pub ordered_verified : (script : Script) (log : List ThreadLog) → OrdersConflicts script log → IsVerified script log Ordered
ordered_verified script log orders =
    let low = lowest_order script log in
    let lawful = orders.0 in
    let ordered = orders.1 in
    record {
      lawful = lawful;
      told = record { ordered = (λ e. ordered, λ o. refl); unordered = λ first second never. absurd cc };
      one_outcome = λ e. record {
        execution = λ order is. ap (outcome_of script) (one_end (by_log script log) (starting_heap script) script.threads low order lawful.1 ordered is.1);
        journals = λ order is. ap (λ (s : PlainState). s.journals) (one_end (by_log script log) (starting_heap script) script.threads low order lawful.1 ordered is.1);
        continues = λ front is. (let on = front_leads_on (by_log script log) (starting_heap script) script.threads low front lawful.1 ordered is.1 in (on.0, (lawful.0, on.1)));
      };
    }

-- regions are told with the outcome of the lowest order
pub serial_answered : (pair : Pair) (found : Serialized) (reply : Reply) → IsLawful pair.source.script pair.loaded.log.threads → IsSerial (accesses_of pair.source.script pair.loaded.log.threads) found.serial
    → Shows pair.source.script pair.loaded.log.threads found.serial → found.outcome ≡ execution pair.source.script pair.loaded.log.threads (lowest_order pair.source.script pair.loaded.log.threads)
    → answer_of reply ≡ serial_said pair.source.script found.outcome found.serial → Fitting does_not_fit (SerialSays pair) pair.source.script pair.loaded.log.threads (answer_of reply)
serial_answered pair found reply lawful is_serial shows outcome said = inr (lawful, (found.serial, is_serial, shows, said ∙ ap (λ (o : Outcome). serial_said pair.source.script o found.serial) outcome))
