-- An access that is made at once.
use Rattle.std.proofs.Common.{◌≡◌, ◌≢◌, ℕ, ◌+◌, ◌∙◌, List, length, Some, refl, sym, ap}
use Rattle.octet_model.specs.declared.event.Event.{Event}
use Rattle.octet_state.specs.declared.act.Mode.{Mode}
use Rattle.octet_state.specs.declared.act.Mode.TheVariants.{Read, Write, Update}
use Rattle.octet_state.specs.declared.act.Act.{Act}
use Rattle.octet_state.specs.declared.act.Act.TheVariants.{Pass}
use Rattle.octet_state.specs.declared.phase.Phase.TheVariants.{Idle, Pass}
use Rattle.octet_state.specs.declared.phase.Due.TheVariants.{Nothing}
use Rattle.octet_state.specs.declared.state_word.StateWord.{StateWord}
use Rattle.octet_state.specs.Words.{packed_state, unpacked_state}
use Rattle.octet_state.specs.Table.{decided}
use Rattle.octet_state.specs.State.{Thread}
use Rattle.octet_state.specs.Steps.{Kind, ToLoad, ToRead, ToWrite, ToBump, moved, loaded, state_in}
use Rattle.octet_state.specs.NextStep.{access_of}
use Rattle.octet_rule.specs.Views.{SeatView, stepped_by}
use Rattle.octet_rule.specs.Rule.{Steps}
use Rattle.octet_rule.specs.Entering.{IsMadeAtOnce, IsLoaded}
use Rattle.octet_rule.proofs.Known.{grows, stays, is_packed, load_moves}

-- after the access its thread is idle, with an event more
pub made_thread : (mode : Mode) (value : ℕ) (v : SeatView) (told : ℕ) (w : SeatView) → Steps (access_of mode value) v told w → w.thread ≡ moved Idle Nothing v.thread
made_thread Read value v told w took = ap (λ (x : SeatView). x.thread) took.moves
made_thread Write value v told w took = ap (λ (x : SeatView). x.thread) took.moves
made_thread Update value v told w took = ap (λ (x : SeatView). x.thread) took.moves

pub made_grows : (mode : Mode) (value : ℕ) (v : SeatView) (told : ℕ) (w : SeatView) → Steps (access_of mode value) v told w → length w.journal ≡ length v.journal + 1
made_grows Read value v told w took = grows ToRead v told w _ took refl
made_grows Write value v told w took = grows (ToWrite value) v told w _ took refl
made_grows Update value v told w took = grows (ToBump value) v told w _ took refl

-- after a load that lets it pass
pub passes_on : (object : ℕ) (mode : Mode) (v : SeatView) (told : ℕ) (w : SeatView) (state : StateWord) (act : Act) → Steps (ToLoad object mode) v told w
    → state ≡ state_in (unpacked_state told) → act ≡ decided state v.number mode v.thread.count → act ≡ Pass → w.thread ≡ moved (Pass object mode) Nothing v.thread
passes_on object mode v told w state act took holds says is = load_moves object mode v told w state act took holds says ∙ ap (λ (a : Act). loaded a object mode state v.thread) is

module _ (object : ℕ) (mode : Mode) (value : ℕ) (v : SeatView) (word : ℕ) (u : SeatView) (state : StateWord) (act : Act) (took : Steps (ToLoad object mode) v word u)
    (holds : state ≡ state_in (unpacked_state word)) (says : act ≡ decided state v.number mode v.thread.count) where
  decides : decided (state_in (unpacked_state word)) v.number mode v.thread.count ≡ act
  decides = ap (λ (s : StateWord). decided s v.number mode v.thread.count) (sym holds) ∙ sym says

  pub at_once : (told : ℕ) (w : SeatView) → act ≡ Pass → Steps (access_of mode value) u told w → IsMadeAtOnce object mode value v told w
  at_once told w is access = record { word = word; between = u; loads = took; says = decides ∙ is; accesses = access }

  pub waits_on : packed_state state ≡ word → act ≢ Pass → IsLoaded object mode v word state act u
  waits_on back waits = record { loads = took; holds = is_packed object mode v word u took ∙ ap (λ (s : StateWord). Some s) (sym holds); packed = back; says = says; waits = waits }

  -- where its thread stands after both steps
  pub both_move : (told : ℕ) (w : SeatView) → act ≡ Pass → Steps (access_of mode value) u told w → w.thread ≡ moved Idle Nothing v.thread
  both_move told w is access = made_thread mode value u told w access ∙ ap (λ (x : Thread). moved Idle Nothing x) (passes_on object mode v word u state act took holds says is)

  pub both_grow : (told : ℕ) (w : SeatView) → Steps (access_of mode value) u told w → length w.journal ≡ length v.journal + 1
  both_grow told w access = made_grows mode value u told w access ∙ ap (λ (n : ℕ). n + 1) (ap (λ (l : List Event). length l) (stays (ToLoad object mode) v word u took refl))

-- what no step changes
pub same_of : {A : Type 0} (f : SeatView → A) → ((k : Kind) (told : ℕ) (v : SeatView) → f (stepped_by k told v) ≡ f v) → (k l : Kind) (v u w : SeatView) (word told : ℕ) → Steps k v word u → Steps l u told w → f w ≡ f v
same_of f kept k l v u w word told first second = ap f second.moves ∙ (kept l told u ∙ (ap f first.moves ∙ kept k word v))
