-- A load with the access after it, where that is made at once.
use Rattle.std.proofs.Common.{◌≡◌, ◌∙◌, ℕ, ◌≤◌, List, [], ◌∷◌, ◌++◌, IsTrue, None, sym, refl, ap, arith, subst}
use Rattle.octet_model.specs.declared.event.Event.{Event}
use Rattle.octet_model.specs.declared.event.Event.TheVariants as event
use Rattle.octet_model.specs.HappensBefore.{is_access}
use Rattle.octet_model.specs.Thread.{added}
use Rattle.octet_state.specs.declared.act.Act.{Act}
use Rattle.octet_state.specs.declared.act.Act.TheVariants.{Pass, Held}
use Rattle.octet_state.specs.declared.state_word.StateWord.{StateWord}
use Rattle.octet_state.specs.declared.why.Why.TheVariants as why
use Rattle.octet_state.specs.declared.act.Mode.{Mode}
use Rattle.octet_state.specs.declared.act.Mode.TheVariants.{Read, Write, Update}
use Rattle.octet_state.specs.declared.phase.Phase.TheVariants.{Pass}
use Rattle.octet_state.specs.declared.phase.Due.TheVariants.{Nothing}
use Rattle.octet_state.specs.Words.{unpacked_state}
use Rattle.octet_state.specs.State.{Thread}
use Rattle.octet_state.specs.Steps.{ToLoad, ToRead, ToWrite, ToBump, target, moved, state_in}
use Rattle.octet_state.specs.NextStep.{access_of, held_by}
use Rattle.octet_rule.specs.Views.{SeatView}
use Rattle.octet_rule.specs.Rule.{Steps}
use Rattle.octet_rule.specs.Entering.{IsMadeAtOnce, IsLoaded}
use Rattle.octet_rule.proofs.Known.{load_moves}
use Rattle.octet_rule.proofs.MadeAtOnce.{made_thread}
use Rattle.octet_heap.specs.declared.pending_access.PendingAccess.{PendingAccess}
use Rattle.octet_heap.specs.declared.poll.Poll.TheVariants.{Ready, Pending}
use Rattle.octet_heap.specs.Logs.{open_marks}
use Rattle.octet_heap.specs.OwnersPath.{value_by}
use Rattle.octet_heap.specs.Polls.{Comes}
use Rattle.octet_heap.specs.Waiting.{IsToLoad, Leaves}
use Rattle.octet_heap.proofs.log.Entries.{gains, keeps, open_before}
use Rattle.octet_heap.specs.Ways.{Goes}
use Rattle.octet_heap.proofs.polls.Going.{comes_after}
use Rattle.octet_heap.proofs.stretches.Loads.{load_goes, load_held}
use Rattle.octet_heap.proofs.stretches.Stretches.{access_comes}

-- its journal grows by the access
pub record MadeOne (v w : SeatView) : Type 0 where
  pub event : Event
  pub is : IsTrue (is_access event)
  pub grown : w.journal ≡ v.journal ++ event ∷ []
  pub few : open_marks v.journal ≤ 15

one_by : (mode : Mode) (value : ℕ) (v w : SeatView) (told : ℕ) → Steps (access_of mode value) v told w → MadeOne v w
one_by Read value v w told took = let e : Event = event.Read (target v.thread.phase) told in
    record { event = e; is = refl; grown = gains ToRead v w told e took refl; few = open_before ToRead v w told took }
one_by Write value v w told took = let e : Event = event.Write (target v.thread.phase) value in
    record { event = e; is = refl; grown = gains (ToWrite value) v w told e took refl; few = open_before (ToWrite value) v w told took }
one_by Update value v w told took = let e : Event = event.Update (target v.thread.phase) told (added value told) in
    record { event = e; is = refl; grown = gains (ToBump value) v w told e took refl; few = open_before (ToBump value) v w told took }

pub made_one : (object : ℕ) (mode : Mode) (value : ℕ) (v : SeatView) (told : ℕ) (w : SeatView) → IsMadeAtOnce object mode value v told w → MadeOne v w
made_one object mode value v told w at_once =
    let one = one_by mode value at_once.between w told at_once.accesses in
    let same : at_once.between.journal ≡ v.journal = keeps (ToLoad object mode) v at_once.between at_once.word at_once.loads refl in record {
      event = one.event;
      is = one.is;
      grown = one.grown ∙ ap (λ (l : List Event). l ++ one.event ∷ []) same;
      few = subst (λ (l : List Event). open_marks l ≤ 15) same one.few;
    }

module _ (access : PendingAccess) (v : SeatView) (told : ℕ) (w : SeatView) (at_once : IsMadeAtOnce access.object access.mode access.value v told w) where
  passes_on : at_once.between.thread ≡ moved (Pass access.object access.mode) Nothing v.thread
  passes_on = load_moves access.object access.mode v at_once.word at_once.between (state_in (unpacked_state at_once.word)) Pass at_once.loads refl (sym at_once.says)

  pub made_comes : v.thread.due ≡ Nothing → IsToLoad access v.thread.phase → Comes access v (Ready (value_by access.mode access.value told)) 19 w
  made_comes due loads =
      let goes = load_goes access v at_once.between at_once.word (state_in (unpacked_state at_once.word)) Pass at_once.loads refl (sym at_once.says) due loads Pass refl refl in
      comes_after access v at_once.between w 2 1 19 (Ready (value_by access.mode access.value told)) goes
      (access_comes access at_once.between w access.mode told (ap (λ (x : Thread). x.due) passes_on, ap (λ (x : Thread). x.phase) passes_on) refl at_once.accesses) (omega arith)

  pub made_leaves : Leaves access (Ready (value_by access.mode access.value told)) w
  made_leaves = let is = made_thread access.mode access.value at_once.between told w at_once.accesses in (ap (λ (x : Thread). x.due) is, ap (λ (x : Thread). x.phase) is)

-- the load alone
module _ (access : PendingAccess) (v w : SeatView) (word : ℕ) (state : StateWord) (act : Act) (alone : IsLoaded access.object access.mode v word state act w) where
  holds : state ≡ state_in (unpacked_state word)
  holds = sym (ap state_in alone.holds)

  pub loaded_goes : v.thread.due ≡ Nothing → IsToLoad access v.thread.phase → (a : Act) → act ≡ a → held_by a word ≡ None → Goes access v 2 w
  loaded_goes due loads = load_goes access v w word state act alone.loads holds alone.says due loads

  pub loaded_held : v.thread.due ≡ Nothing → IsToLoad access v.thread.phase → (by : ℕ) → act ≡ Held by → Comes access v (Pending (why.Held by word)) 3 w × Leaves access (Pending (why.Held by word)) w
  loaded_held due loads = load_held access v w word state act alone.loads holds alone.says due loads
