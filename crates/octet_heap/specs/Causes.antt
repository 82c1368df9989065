-- Why a poll is pending, by the words that its own steps have found.
use Rattle.std.specs.Prelude.{◌≡◌, ◌≢◌, ℕ, Bool, true, false, List, [], ◌∷◌, ◌++◌, IsTrue, IsFalse, Option, Some, None}
use Rattle.octet_state.specs.declared.why.Why.TheVariants as why
use Rattle.octet_state.specs.Words.{packed_status, unpacked_state, unpacked_status}
use Rattle.octet_state.specs.Table.{is_changed_by}
use Rattle.octet_state.specs.Asking.{has_bit}
use Rattle.octet_state.specs.Steps.{Kind, ToAsk, ToLook, ToLoad, ToClaim, ToRaise, ToShare, state_in, asked_by}
use Rattle.octet_rule.specs.Views.{Taken}
use Rattle.octet_heap.specs.declared.poll.Poll.{Poll}
use Rattle.octet_heap.specs.declared.poll.Poll.TheVariants.{Pending}

-- the word of an object's state that a step has loaded, if it is a load
abbrev pub state_loaded : Kind → ℕ → Option ℕ
state_loaded (ToLoad object mode) word = Some word
state_loaded _ word = None

-- the step itself, if it is one on the status of another thread
abbrev pub status_met : Kind → ℕ → Option Taken
status_met (ToAsk whom) word = Some (record { kind = ToAsk whom; word = word })
status_met (ToLook whom) word = Some (record { kind = ToLook whom; word = word })
status_met _ word = None

-- the later of two, if it is there, else the earlier
abbrev pub later : {A : Type 0} → Option A → Option A → Option A
later (Some x) y = Some x
later None y = y

-- the last that any of the steps has
abbrev pub last_of : {A : Type 0} → (Kind → ℕ → Option A) → List Taken → Option A
last_of f [] = None
last_of f (taken ∷ more) = later (last_of f more) (f taken.kind taken.word)

-- the state word that these steps have loaded last is an intermediate state of the thread `by`,
-- which is another than `me`
pub record IsHeld (me : ℕ) (steps : List Taken) (by word : ℕ) : Type 0 where
  pub last : last_of state_loaded steps ≡ Some word
  pub changes : IsTrue (is_changed_by (state_in (unpacked_state word)) by)
  pub other : by ≢ me

-- the test whether a step is an exchange
abbrev pub is_exchange : Kind → Bool
is_exchange ToClaim = true
is_exchange ToRaise = true
is_exchange ToShare = true
is_exchange _ = false

-- an exchange among these steps has found another word than they had loaded
pub record IsChanged (steps : List Taken) (seen found : ℕ) : Type 0 where
  pub before : List Taken
  pub exchange : Kind
  pub after : List Taken
  pub are : steps ≡ before ++ record { kind = exchange; word = found } ∷ after
  pub exchanges : IsTrue (is_exchange exchange)
  pub had_loaded : last_of state_loaded before ≡ Some seen
  pub differs : found ≢ seen

-- the word that a step found is no answer of the thread `by` to `me`. An ask or a look found the thread not blocked,
-- and the look found the bit. The word told has that bit
abbrev pub IsNoAnswer : ℕ → ℕ → ℕ → Kind → ℕ → Type 0
IsNoAnswer me by word (ToAsk whom) found = (whom ≡ by) × IsFalse (unpacked_status found).blocked × (word ≡ packed_status (asked_by me (unpacked_status found)))
IsNoAnswer me by word (ToLook whom) found = (whom ≡ by) × IsFalse (unpacked_status found).blocked × IsTrue (has_bit (unpacked_status found) me) × (word ≡ found)
IsNoAnswer me by word _ found = ⊥

-- the status of another thread that these steps have met last is no answer
pub record IsUnanswered (me : ℕ) (steps : List Taken) (by word : ℕ) : Type 0 where
  pub last : Taken
  pub is_last : last_of status_met steps ≡ Some last
  pub no_answer : IsNoAnswer me by word last.kind last.word

-- each answer comes with its cause, and each cause brings its answer
pub record HasCause (me : ℕ) (steps : List Taken) (answer : Poll) : Type 0 where
  pub held : (by word : ℕ) → answer ≡ Pending (why.Held by word) → IsHeld me steps by word
  pub changed : (seen found : ℕ) → answer ≡ Pending (why.Changed seen found) → IsChanged steps seen found
  pub unanswered : (by word : ℕ) → answer ≡ Pending (why.Unanswered by word) → IsUnanswered me steps by word
  pub by_held : (by word : ℕ) → IsHeld me steps by word → answer ≡ Pending (why.Held by word)
  pub by_changed : (seen found : ℕ) → IsChanged steps seen found → answer ≡ Pending (why.Changed seen found)
  pub by_unanswered : (by word : ℕ) → IsUnanswered me steps by word → answer ≡ Pending (why.Unanswered by word)
