-- The stretch after a load.
use Rattle.std.proofs.Common.{◌≡◌, ◌∙◌, ℕ, None, sym, refl, ap, arith, subst}
use Rattle.octet_state.specs.declared.act.Act.{Act}
use Rattle.octet_state.specs.declared.act.Act.TheVariants.{Held}
use Rattle.octet_state.specs.declared.phase.Phase.{Phase}
use Rattle.octet_state.specs.declared.phase.Phase.TheVariants.{Idle, Want}
use Rattle.octet_state.specs.declared.phase.Due.TheVariants.{Nothing}
use Rattle.octet_state.specs.declared.state_word.StateWord.{StateWord}
use Rattle.octet_state.specs.declared.why.Why.TheVariants as why
use Rattle.octet_state.specs.Words.{unpacked_state}
use Rattle.octet_state.specs.Table.{decided}
use Rattle.octet_state.specs.State.{Thread}
use Rattle.octet_state.specs.Steps.{ToLoad, loaded, state_in}
use Rattle.octet_state.specs.NextStep.{kind_in_phase, held_by}
use Rattle.octet_rule.specs.Views.{SeatView}
use Rattle.octet_rule.specs.Rule.{Steps}
use Rattle.octet_rule.proofs.Known.{load_moves}
use Rattle.octet_heap.specs.declared.pending_access.PendingAccess.{PendingAccess}
use Rattle.octet_heap.specs.declared.poll.Poll.TheVariants.{Pending}
use Rattle.octet_heap.specs.Walks.{access_task, next_step}
use Rattle.octet_heap.specs.Polls.{answer_by, Comes}
use Rattle.octet_heap.specs.Waiting.{HasBegun, IsToLoad, Leaves}
use Rattle.octet_heap.specs.Ways.{Goes, with_value}
use Rattle.octet_heap.proofs.polls.Going.{next_in, goes_one, comes_by}

loads_next : (threads me count : ℕ) (access : PendingAccess) (p : Phase) → IsToLoad access p → kind_in_phase threads me count (ToLoad access.object access.mode) access.value p ≡ ToLoad access.object access.mode
loads_next threads me count access Idle h = refl
loads_next threads me count access (Want object mode None) h = λ i. ToLoad (h.0 i) (h.1 i)
loads_next threads me count access _ h = absurd h

-- the value has no part in it
pub loads_as : (access : PendingAccess) (value : ℕ) (p : Phase) → IsToLoad access p → IsToLoad (with_value access value) p
loads_as access value Idle h = tt
loads_as access value (Want object mode None) h = h
loads_as access value _ h = absurd h

module _ (access : PendingAccess) (v u : SeatView) (word : ℕ) (state : StateWord) (act : Act) (took : Steps (ToLoad access.object access.mode) v word u)
    (holds : state ≡ state_in (unpacked_state word)) (says : act ≡ decided state v.number access.mode v.thread.count) where
  moves : u.thread ≡ loaded act access.object access.mode state v.thread
  moves = load_moves access.object access.mode v word u state act took holds says

  -- where it is for this act
  moves_by : (a : Act) → act ≡ a → u.thread ≡ loaded a access.object access.mode state v.thread
  moves_by a is = moves ∙ ap (λ (b : Act). loaded b access.object access.mode state v.thread) is

  decides : (a : Act) → act ≡ a → decided (state_in (unpacked_state word)) v.number access.mode v.thread.count ≡ a
  decides a is = ap (λ (s : StateWord). decided s v.number access.mode v.thread.count) (sym holds) ∙ (sym says ∙ is)

  module _ (due : v.thread.due ≡ Nothing) (loads : IsToLoad access v.thread.phase) where
    next : ToLoad access.object access.mode ≡ next_step (access_task access) v
    next = sym (next_in access v v.thread.phase (due, refl) ∙ loads_next v.threads v.number v.thread.count access v.thread.phase loads)

    pub load_goes : (a : Act) → act ≡ a → held_by a word ≡ None → Goes access v 2 u
    load_goes a is none = goes_one access v u (ToLoad access.object access.mode) word took next
        (ap (λ (b : Act). answer_by (held_by b word) (ToLoad access.object access.mode) word) (decides a is) ∙ ap (λ o. answer_by o (ToLoad access.object access.mode) word) none)

    pub load_held : (by : ℕ) → act ≡ Held by → Comes access v (Pending (why.Held by word)) 3 u × Leaves access (Pending (why.Held by word)) u
    load_held by is = let e = moves_by (Held by) is in (
      comes_by access v u (ToLoad access.object access.mode) word (Pending (why.Held by word)) 3 took next (ap (λ (b : Act). answer_by (held_by b word) (ToLoad access.object access.mode) word) (decides (Held by) is)) (omega arith),
      (ap (λ (x : Thread). x.due) e, subst (HasBegun u.threads access) (sym (ap (λ (x : Thread). x.phase) e)) (refl, refl)),
    )
