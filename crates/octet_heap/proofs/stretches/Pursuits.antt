-- The stretch of a claim: asks and looks.
use Rattle.std.proofs.Common.{◌≡◌, ◌∙◌, ℕ, suc, ◌<◌, ◌≤◌, Bool, true, false, Some, None, sym, refl, ap, arith, subst}
use Rattle.std.specs.Prelude.{◌==◌, if◌then◌else◌}
use Rattle.std.proofs.lemmas.Bool.{ne_eqb}
use Rattle.octet_state.specs.declared.phase.Phase.TheVariants.{Claimed}
use Rattle.octet_state.specs.declared.phase.Due.TheVariants.{Nothing, Glance}
use Rattle.octet_state.specs.declared.state_word.StateWord.{StateWord}
use Rattle.octet_state.specs.declared.why.Why.TheVariants as why
use Rattle.octet_state.specs.Words.{packed_status, unpacked_status}
use Rattle.octet_state.specs.Asking.{whom_to_ask, number_to_ask, next_to_ask, answers}
use Rattle.octet_state.specs.Positions.{NamesThread}
use Rattle.octet_state.specs.State.{Thread}
use Rattle.octet_state.specs.Steps.{ToAsk, ToLook, moved, one_done, one_asked, asked_by}
use Rattle.octet_state.specs.NextStep.{pursuit_of}
use Rattle.octet_rule.specs.Views.{SeatView}
use Rattle.octet_safe.specs.declared.reply.Reply.{Reply}
use Rattle.octet_safe.specs.declared.reply.Reply.TheVariants.{Given, Unanswered}
use Rattle.octet_safe.specs.Replies.{Asks, Looks}
use Rattle.octet_heap.specs.declared.pending_access.PendingAccess.{PendingAccess}
use Rattle.octet_heap.specs.declared.poll.Poll.TheVariants.{Pending}
use Rattle.octet_heap.specs.Walks.{access_task, next_step}
use Rattle.octet_heap.specs.Polls.{answer_by, Comes}
use Rattle.octet_heap.specs.Waiting.{StandsIn, HasBegun, Leaves}
use Rattle.octet_state.specs.declared.act.Whom.{Whom}
use Rattle.octet_state.proofs.lemmas.Widths.{asks_few}
use Rattle.octet_heap.specs.Ways.{Goes}
use Rattle.octet_heap.proofs.polls.Going.{next_in, goes_one, comes_by}

-- a reply by a test: given exactly where it holds
test_of_given : (upto : ℕ) (b : Bool) (u n : ℕ) → Given upto ≡ (if b then Given u else Unanswered n) → b ≡ true
test_of_given upto true u n e = refl
test_of_given upto false u n e = absurd cc

test_of_unanswered : (word : ℕ) (b : Bool) (u n : ℕ) → Unanswered word ≡ (if b then Given u else Unanswered n) → b ≡ false
test_of_unanswered word false u n e = refl
test_of_unanswered word true u n e = absurd cc

abbrev word_of : Reply → ℕ
word_of (Given upto) = 0
word_of (Unanswered word) = word

word_told : (word : ℕ) (b : Bool) (u n : ℕ) → Unanswered word ≡ (if b then Given u else Unanswered n) → n ≡ word
word_told word false u n e = sym (ap word_of e)
word_told word true u n e = absurd cc

module _ (access : PendingAccess) (prior : StateWord) (done whom : ℕ) (v u : SeatView) (left : done < number_to_ask (whom_to_ask prior) v.threads) (next : whom ≡ next_to_ask (whom_to_ask prior) v.number done) where
  more : (done == number_to_ask (whom_to_ask prior) v.threads) ≡ false
  more = ne_eqb done (number_to_ask (whom_to_ask prior) v.threads) (λ same. let h = left in omega arith)

  module _ (stands : StandsIn (Claimed access.object access.mode prior done false) v) where
    asks_next : ToAsk whom ≡ next_step (access_task access) v
    asks_next = sym (next_in access v (Claimed access.object access.mode prior done false) stands ∙ (ap (λ (b : Bool). pursuit_of b false (next_to_ask (whom_to_ask prior) v.number done)) more ∙ ap ToAsk (sym next)))

    pub ask_given : (reply : Reply) (upto : ℕ) → Asks whom v reply u → Given upto ≡ reply → StandsIn (Claimed access.object access.mode prior (suc done) false) u × Goes access v 2 u
    ask_given reply upto took given = let found = took.found in
        let blocked = test_of_given upto (unpacked_status found).blocked (unpacked_status found).upto (packed_status (asked_by v.number (unpacked_status found))) (given ∙ took.replies) in
        let is : u.thread ≡ moved (one_done v.thread.phase) Nothing v.thread = ap (λ (x : SeatView). x.thread) took.step.moves ∙ ap (λ (b : Bool). if b then moved (one_done v.thread.phase) Nothing v.thread else moved (one_asked v.thread.phase) Glance v.thread) blocked in (
          (ap (λ (x : Thread). x.due) is, ap (λ (x : Thread). x.phase) is ∙ ap one_done stands.1),
          goes_one access v u (ToAsk whom) found took.step asks_next (ap (λ (b : Bool). answer_by (if b then None else Some (why.Unanswered whom (packed_status (asked_by v.number (unpacked_status found))))) (ToAsk whom) found) blocked),
        )

    pub ask_waits : (reply : Reply) (word : ℕ) → Asks whom v reply u → Unanswered word ≡ reply → Comes access v (Pending (why.Unanswered whom word)) 3 u
    ask_waits reply word took waits = let found = took.found in let own = packed_status (asked_by v.number (unpacked_status found)) in
        let running = test_of_unanswered word (unpacked_status found).blocked (unpacked_status found).upto own (waits ∙ took.replies) in
        let is_word = word_told word (unpacked_status found).blocked (unpacked_status found).upto own (waits ∙ took.replies) in
        comes_by access v u (ToAsk whom) found (Pending (why.Unanswered whom word)) 3 took.step asks_next
        (ap (λ (b : Bool). answer_by (if b then None else Some (why.Unanswered whom own)) (ToAsk whom) found) running ∙ ap (λ (n : ℕ). Some (Pending (why.Unanswered whom n))) is_word) (omega arith)

  module _ (stands : StandsIn (Claimed access.object access.mode prior done true) v) where
    looks_next : ToLook whom ≡ next_step (access_task access) v
    looks_next = sym (next_in access v (Claimed access.object access.mode prior done true) stands ∙ (ap (λ (b : Bool). pursuit_of b true (next_to_ask (whom_to_ask prior) v.number done)) more ∙ ap ToLook (sym next)))

    pub look_given : (reply : Reply) (upto : ℕ) → Looks whom v reply u → Given upto ≡ reply → StandsIn (Claimed access.object access.mode prior (suc done) false) u × Goes access v 2 u
    look_given reply upto took given = let found = took.found in
        let answered = test_of_given upto (answers (unpacked_status found) v.number) (unpacked_status found).upto found (given ∙ took.replies) in
        let is : u.thread ≡ moved (one_done v.thread.phase) Nothing v.thread = ap (λ (x : SeatView). x.thread) took.step.moves ∙ ap (λ (b : Bool). if b then moved (one_done v.thread.phase) Nothing v.thread else moved v.thread.phase Glance v.thread) answered in (
          (ap (λ (x : Thread). x.due) is, ap (λ (x : Thread). x.phase) is ∙ ap one_done stands.1),
          goes_one access v u (ToLook whom) found took.step looks_next (ap (λ (b : Bool). answer_by (if b then None else Some (why.Unanswered whom found)) (ToLook whom) found) answered),
        )

    pub look_waits : (reply : Reply) (word : ℕ) → Looks whom v reply u → Unanswered word ≡ reply → NamesThread v.threads prior → Comes access v (Pending (why.Unanswered whom word)) 3 u × Leaves access (Pending (why.Unanswered whom word)) u
    look_waits reply word took waits named = let found = took.found in
        let running = test_of_unanswered word (answers (unpacked_status found) v.number) (unpacked_status found).upto found (waits ∙ took.replies) in
        let is_word = word_told word (answers (unpacked_status found) v.number) (unpacked_status found).upto found (waits ∙ took.replies) in
        let is : u.thread ≡ moved v.thread.phase Glance v.thread = ap (λ (x : SeatView). x.thread) took.step.moves ∙ ap (λ (b : Bool). if b then moved (one_done v.thread.phase) Nothing v.thread else moved v.thread.phase Glance v.thread) running in
        let phase : u.thread.phase ≡ Claimed access.object access.mode prior done true = ap (λ (x : Thread). x.phase) is ∙ stands.1 in
        let threads : v.threads ≡ u.threads = sym (ap (λ (x : SeatView). x.threads) took.step.moves) in (
          comes_by access v u (ToLook whom) found (Pending (why.Unanswered whom word)) 3 took.step looks_next
              (ap (λ (b : Bool). answer_by (if b then None else Some (why.Unanswered whom found)) (ToLook whom) found) running ∙ ap (λ (n : ℕ). Some (Pending (why.Unanswered whom n))) is_word) (omega arith),
          (ap (λ (x : Thread). x.due) is, subst (HasBegun u.threads access) (sym phase) (refl, refl, subst (λ (n : ℕ). done < number_to_ask (whom_to_ask prior) n) threads left, subst (λ (n : ℕ). NamesThread n prior) threads named)),
        )

-- at most fifteen are asked
pub asks_few_more : (whom : Whom) (threads done : ℕ) → threads ≤ 16 → done ≤ number_to_ask whom threads → done ≤ 15
asks_few_more whom threads done few h = let most = asks_few whom threads few in omega arith
