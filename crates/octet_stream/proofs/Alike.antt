-- Two states of the protocol that differ in one thread, in its journal and in values alone. Steps of the other threads keep them so.
use Rattle.std.proofs.Common.{◌≡◌, ◌≢◌, ◌∙◌, ◌⊎◌, inl, inr, ℕ, suc, ◌+◌, ◌<◌, Bool, true, false, IsTrue, List, [], ◌∷◌, length, get_or, set, slice_set, Option, Some, None, refl, sym, ap, subst, arith, length-set, length-append, get_or-set_same, get_or-set_other}
use Rattle.std.proofs.lemmas.Bool.{cases_eq}
use Rattle.octet_model.specs.declared.event.Event.{Event}
use Rattle.octet_model.specs.Machine.{Journals, journal_of}
use Rattle.octet_model.specs.Journals.{access_count}
use Rattle.octet_model.specs.Thread.{added}
use Rattle.octet_model.proofs.lemmas.Splits.{accesses_split}
use Rattle.octet_model.proofs.lemmas.Steps.{same_journal, other_journal, as_many}
use Rattle.octet_state.specs.declared.act.Mode.{Mode}
use Rattle.octet_state.specs.declared.act.Mode.TheVariants.{Read, Write, Update}
use Rattle.octet_state.specs.declared.act.Whom.{Whom}
use Rattle.octet_state.specs.declared.act.Act.TheVariants.{Raise, Share, Take}
use Rattle.octet_state.specs.declared.phase.Due.TheVariants.{Nothing, Answer}
use Rattle.octet_state.specs.declared.phase.Phase.TheVariants.{Off, Idle, Want, Pass, FenceDue, Claimed, Sharing, Blocked}
use Rattle.octet_state.specs.declared.state_word.StateWord.{StateWord}
use Rattle.octet_state.specs.declared.state_word.StateWord.TheVariants.{WrEx, ShInt}
use Rattle.octet_state.specs.Words.{packed_state, packed_status}
use Rattle.octet_state.specs.Table.{decided}
use Rattle.octet_state.specs.Asking.{whom_to_ask, number_to_ask, next_to_ask}
use Rattle.octet_state.specs.State.{Thread, ProtocolState, thread_of, status_at, state_at, now, unstarted}
use Rattle.octet_state.specs.Steps.{Kind, ToGlance, ToAnswer, ToBlock, ToUnblock, ToAsk, ToLook, ToLoad, ToRead, ToWrite, ToBump, ToClaim, ToSettle, ToDraw, ToFence, ToRaise, ToShare, May, moved, shown, asked_by, settling, claiming, mode_of, target, wins, found, told, after, made, acted, exchanged, grown, ended_by, step, is_safe_point, most_accesses}

pub record Alike (t : ℕ) (a b : ProtocolState) : Type 0 where
  pub counter : a.counter ≡ b.counter
  pub statuses : a.statuses ≡ b.statuses
  pub states : a.states ≡ b.states
  pub cells : length a.cells ≡ length b.cells
  pub count : length a.threads ≡ length b.threads
  pub journals_there : length a.journals ≡ length a.threads
  pub journals_here : length b.journals ≡ length b.threads
  pub others : (u : ℕ) → u ≢ t → thread_of a u ≡ thread_of b u
  pub made_same : (u : ℕ) → u ≢ t → now a u ≡ now b u
  pub accesses : (u : ℕ) → u ≢ t → access_count (journal_of a.journals u) ≡ access_count (journal_of b.journals u)

-- ---- what a step keeps of one state
pub record Keeps (s other : ProtocolState) : Type 0 where
  pub threads : other.threads ≡ s.threads
  pub journals : other.journals ≡ s.journals
  pub cells : length other.cells ≡ length s.cells

unchanged : (s : ProtocolState) → Keeps s s
unchanged s = record { threads = refl; journals = refl; cells = refl }

exchange_keeps : (b : Bool) (s : ProtocolState) (object : ℕ) (state : StateWord) → Keeps s (exchanged b s object state)
exchange_keeps true s object state = record { threads = refl; journals = refl; cells = refl }
exchange_keeps false s object state = unchanged s

exchange_statuses : (b : Bool) (s : ProtocolState) (object : ℕ) (state : StateWord) → (exchanged b s object state).statuses ≡ s.statuses
exchange_statuses true s object state = refl
exchange_statuses false s object state = refl

exchange_counter : (b : Bool) (s : ProtocolState) (object : ℕ) (state : StateWord) → (exchanged b s object state).counter ≡ s.counter
exchange_counter true s object state = refl
exchange_counter false s object state = refl

abbrev put_if : Bool → List StateWord → ℕ → StateWord → List StateWord
put_if true states object state = slice_set states object state
put_if false states object state = states

exchange_states : (b : Bool) (s : ProtocolState) (object : ℕ) (state : StateWord) → (exchanged b s object state).states ≡ put_if b s.states object state
exchange_states true s object state = refl
exchange_states false s object state = refl

pub act_keeps : (k : Kind) (t : ℕ) (s : ProtocolState) → Keeps s (acted k t s)
act_keeps ToAnswer t s = record { threads = refl; journals = refl; cells = refl }
act_keeps (ToBlock ends) t s = record { threads = refl; journals = refl; cells = refl }
act_keeps ToUnblock t s = record { threads = refl; journals = refl; cells = refl }
act_keeps (ToAsk whom) t s = record { threads = refl; journals = refl; cells = refl }
act_keeps (ToWrite value) t s = record { threads = refl; journals = refl; cells = length-set s.cells (target (thread_of s t).phase) value }
act_keeps (ToBump amount) t s = record { threads = refl; journals = refl; cells = length-set s.cells (target (thread_of s t).phase) (added amount (found (ToBump amount) t s)) }
act_keeps ToClaim t s = exchange_keeps (wins (found ToClaim t s) (thread_of s t).phase) s (target (thread_of s t).phase) (claiming t (mode_of (thread_of s t).phase))
act_keeps ToSettle t s = record { threads = refl; journals = refl; cells = refl }
act_keeps ToDraw t s = record { threads = refl; journals = refl; cells = refl }
act_keeps ToRaise t s = exchange_keeps (wins (found ToRaise t s) (thread_of s t).phase) s (target (thread_of s t).phase) (WrEx t)
act_keeps ToShare t s = exchange_keeps (wins (found ToShare t s) (thread_of s t).phase) s (target (thread_of s t).phase) (ShInt t)
act_keeps ToGlance t s = unchanged s
act_keeps (ToLook whom) t s = unchanged s
act_keeps (ToLoad object mode) t s = unchanged s
act_keeps ToRead t s = unchanged s
act_keeps ToFence t s = unchanged s

grown_same : (journals : Journals) (t : ℕ) (event : Option Event) → t < length journals → journal_of (grown journals t event) t ≡ ended_by (journal_of journals t) event
grown_same journals t None h = refl
grown_same journals t (Some event) h = same_journal journals t event h

grown_other : (journals : Journals) (t u : ℕ) (event : Option Event) → u ≢ t → journal_of (grown journals t event) u ≡ journal_of journals u
grown_other journals t u None ne = refl
grown_other journals t u (Some event) ne = other_journal journals t u event ne

grown_many : (journals : Journals) (t : ℕ) (event : Option Event) → length (grown journals t event) ≡ length journals
grown_many journals t None = refl
grown_many journals t (Some event) = as_many journals t event

module _ (k : Kind) (t : ℕ) (s : ProtocolState) where
  stepped_thread : t < length s.threads → thread_of (step k t s) t ≡ after k t (told k t s) (thread_of s t)
  stepped_thread h = ap (λ (l : List Thread). get_or (set l t (after k t (told k t s) (thread_of s t))) t unstarted) (act_keeps k t s).threads
      ∙ get_or-set_same s.threads t (after k t (told k t s) (thread_of s t)) unstarted h

  pub other_thread : (u : ℕ) → u ≢ t → thread_of (step k t s) u ≡ thread_of s u
  other_thread u ne = ap (λ (l : List Thread). get_or (set l t (after k t (told k t s) (thread_of s t))) u unstarted) (act_keeps k t s).threads
      ∙ get_or-set_other s.threads t u (after k t (told k t s) (thread_of s t)) unstarted ne

  pub as_many_threads : length (step k t s).threads ≡ length s.threads
  as_many_threads = length-set (acted k t s).threads t (after k t (told k t s) (thread_of s t)) ∙ ap (λ (l : List Thread). length l) (act_keeps k t s).threads

  stepped_journals : (step k t s).journals ≡ grown s.journals t (made k t (told k t s) (thread_of s t))
  stepped_journals = ap (λ (journals : Journals). grown journals t (made k t (told k t s) (thread_of s t))) (act_keeps k t s).journals

  pub as_many_journals : length (step k t s).journals ≡ length s.journals
  as_many_journals = ap (λ (journals : Journals). length journals) stepped_journals ∙ grown_many s.journals t (made k t (told k t s) (thread_of s t))

  stepped_journal : t < length s.journals → journal_of (step k t s).journals t ≡ ended_by (journal_of s.journals t) (made k t (told k t s) (thread_of s t))
  stepped_journal h = ap (λ (journals : Journals). journal_of journals t) stepped_journals ∙ grown_same s.journals t (made k t (told k t s) (thread_of s t)) h

  pub journal_of_other : (u : ℕ) → u ≢ t → journal_of (step k t s).journals u ≡ journal_of s.journals u
  journal_of_other u ne = ap (λ (journals : Journals). journal_of journals u) stepped_journals ∙ grown_other s.journals t u (made k t (told k t s) (thread_of s t)) ne

-- ---- an event more, or none
abbrev size : Option Event → ℕ
size None = 0
size (Some event) = 1

abbrev weight : Option Event → ℕ
weight None = 0
weight (Some event) = access_count (event ∷ [])

longer : (journal : List Event) (event : Option Event) → length (ended_by journal event) ≡ length journal + size event
longer journal None = omega arith
longer journal (Some event) = length-append journal (event ∷ [])

heavier : (journal : List Event) (event : Option Event) → access_count (ended_by journal event) ≡ access_count journal + weight event
heavier journal None = omega arith
heavier journal (Some event) = accesses_split journal (event ∷ [])

-- the steps that are told the value of a cell
abbrev OnCell : Kind → Type 0
OnCell ToRead = Unit {0}
OnCell (ToBump amount) = Unit {0}
OnCell _ = ⊥

module _ (t : ℕ) (a b : ProtocolState) (al : Alike t a b) (u : ℕ) (ne : u ≢ t) where
  abbrev x : thread_of a u ≡ thread_of b u
  x = al.others u ne

  abbrev n : now a u ≡ now b u
  n = al.made_same u ne

  -- ---- the step may be taken in both
  abbrev MayBy : Kind → Thread → ℕ → ℕ → ℕ → Type 0
  MayBy ToGlance y threads cells accesses = (y.due ≢ Answer) × IsTrue (is_safe_point y.phase)
  MayBy ToAnswer y threads cells accesses = y.due ≡ Answer
  MayBy (ToBlock ends) y threads cells accesses = (y.due ≡ Nothing) × (y.phase ≡ Idle)
  MayBy ToUnblock y threads cells accesses = (y.due ≡ Nothing) × ((y.phase ≡ Off) ⊎ (y.phase ≡ Blocked))
  MayBy (ToAsk whom) y threads cells accesses = (y.due ≡ Nothing) × ((object : ℕ) × (mode : Mode) × (prior : StateWord) × (done : ℕ)
      × (y.phase ≡ Claimed object mode prior done false) × (done < number_to_ask (whom_to_ask prior) threads) × (whom ≡ next_to_ask (whom_to_ask prior) u done))
  MayBy (ToLook whom) y threads cells accesses = (y.due ≡ Nothing) × ((object : ℕ) × (mode : Mode) × (prior : StateWord) × (done : ℕ)
      × (y.phase ≡ Claimed object mode prior done true) × (whom ≡ next_to_ask (whom_to_ask prior) u done))
  MayBy (ToLoad object mode) y threads cells accesses = (y.due ≡ Nothing) × (object < cells)
      × (((y.phase ≡ Idle) × (accesses < most_accesses)) ⊎ ((seen : Option StateWord) × (y.phase ≡ Want object mode seen)))
  MayBy ToRead y threads cells accesses = (y.due ≡ Nothing) × ((object : ℕ) × (y.phase ≡ Pass object Read))
  MayBy (ToWrite value) y threads cells accesses = (y.due ≡ Nothing) × ((object : ℕ) × (y.phase ≡ Pass object Write))
  MayBy (ToBump amount) y threads cells accesses = (y.due ≡ Nothing) × ((object : ℕ) × (y.phase ≡ Pass object Update))
  MayBy ToClaim y threads cells accesses = (y.due ≡ Nothing) × ((object : ℕ) × (mode : Mode) × (seen : StateWord) × (whom : Whom)
      × (y.phase ≡ Want object mode (Some seen)) × (decided seen u mode y.count ≡ Take whom))
  MayBy ToSettle y threads cells accesses = (y.due ≡ Nothing) × (((object : ℕ) × (mode : Mode) × (prior : StateWord) × (asked : Bool)
      × (y.phase ≡ Claimed object mode prior (number_to_ask (whom_to_ask prior) threads) asked))
      ⊎ ((object : ℕ) × (number : ℕ) × (y.phase ≡ Sharing object (Some number))))
  MayBy ToDraw y threads cells accesses = (y.due ≡ Nothing) × ((object : ℕ) × (y.phase ≡ Sharing object None))
  MayBy ToFence y threads cells accesses = (y.due ≡ Nothing) × ((object : ℕ) × (number : ℕ) × (y.phase ≡ FenceDue object number))
  MayBy ToRaise y threads cells accesses = (y.due ≡ Nothing) × ((object : ℕ) × (mode : Mode) × (seen : StateWord)
      × (y.phase ≡ Want object mode (Some seen)) × (decided seen u mode y.count ≡ Raise))
  MayBy ToShare y threads cells accesses = (y.due ≡ Nothing) × ((object : ℕ) × (mode : Mode) × (seen : StateWord) × (from : ℕ) × (upto : ℕ)
      × (y.phase ≡ Want object mode (Some seen)) × (decided seen u mode y.count ≡ Share from upto))

  abbrev MayIn : Kind → ProtocolState → Type 0
  MayIn k s = MayBy k (thread_of s u) (length s.threads) (length s.cells) (access_count (journal_of s.journals u))

  moved_over : (k : Kind) → MayIn k a → MayIn k b
  moved_over k may =
      subst (λ (m : ℕ). MayBy k (thread_of b u) (length b.threads) (length b.cells) m) (al.accesses u ne)
      (subst (λ (m : ℕ). MayBy k (thread_of b u) (length b.threads) m (access_count (journal_of a.journals u))) al.cells
      (subst (λ (m : ℕ). MayBy k (thread_of b u) m (length a.cells) (access_count (journal_of a.journals u))) al.count
      (subst (λ (y : Thread). MayBy k y (length a.threads) (length a.cells) (access_count (journal_of a.journals u))) x may)))

  pub may_alike : (k : Kind) → May k u a → May k u b
  may_alike ToGlance may = moved_over ToGlance may
  may_alike ToAnswer may = moved_over ToAnswer may
  may_alike (ToBlock ends) may = moved_over (ToBlock ends) may
  may_alike ToUnblock may = moved_over ToUnblock may
  may_alike (ToAsk whom) may = moved_over (ToAsk whom) may
  may_alike (ToLook whom) may = moved_over (ToLook whom) may
  may_alike (ToLoad object mode) may = moved_over (ToLoad object mode) may
  may_alike ToRead may = moved_over ToRead may
  may_alike (ToWrite value) may = moved_over (ToWrite value) may
  may_alike (ToBump amount) may = moved_over (ToBump amount) may
  may_alike ToClaim may = moved_over ToClaim may
  may_alike ToSettle may = moved_over ToSettle may
  may_alike ToDraw may = moved_over ToDraw may
  may_alike ToFence may = moved_over ToFence may
  may_alike ToRaise may = moved_over ToRaise may
  may_alike ToShare may = moved_over ToShare may

  -- ---- what the step is told, and what becomes of its thread
  told_same : (k : Kind) → (told k u a ≡ told k u b) ⊎ OnCell k
  told_same ToGlance = inl (λ i. packed_status (status_at (al.statuses i) u))
  told_same ToAnswer = inl (λ i. packed_status (status_at (al.statuses i) u))
  told_same (ToBlock ends) = inl (λ i. packed_status (status_at (al.statuses i) u))
  told_same ToUnblock = inl (λ i. packed_status (status_at (al.statuses i) u))
  told_same (ToAsk whom) = inl (λ i. packed_status (status_at (al.statuses i) whom))
  told_same (ToLook whom) = inl (λ i. packed_status (status_at (al.statuses i) whom))
  told_same (ToLoad object mode) = inl (λ i. packed_state (state_at (al.states i) object))
  told_same ToRead = inr tt
  told_same (ToWrite value) = inl refl
  told_same (ToBump amount) = inr tt
  told_same ToClaim = inl (λ i. packed_state (state_at (al.states i) (target (x i).phase)))
  told_same ToSettle = inl (λ i. packed_state (settling u (n i) (x i).phase))
  told_same ToDraw = inl al.counter
  told_same ToFence = inl al.counter
  told_same ToRaise = inl (λ i. packed_state (state_at (al.states i) (target (x i).phase)))
  told_same ToShare = inl (λ i. packed_state (state_at (al.states i) (target (x i).phase)))

  after_cell : (k : Kind) → OnCell k → after k u (told k u a) (thread_of a u) ≡ after k u (told k u b) (thread_of b u)
  after_cell ToRead on = λ i. moved Idle Nothing (x i)
  after_cell (ToBump amount) on = λ i. moved Idle Nothing (x i)
  after_cell ToGlance on = absurd on
  after_cell ToAnswer on = absurd on
  after_cell (ToBlock ends) on = absurd on
  after_cell ToUnblock on = absurd on
  after_cell (ToAsk whom) on = absurd on
  after_cell (ToLook whom) on = absurd on
  after_cell (ToLoad object mode) on = absurd on
  after_cell (ToWrite value) on = absurd on
  after_cell ToClaim on = absurd on
  after_cell ToSettle on = absurd on
  after_cell ToDraw on = absurd on
  after_cell ToFence on = absurd on
  after_cell ToRaise on = absurd on
  after_cell ToShare on = absurd on

  after_same : (k : Kind) → after k u (told k u a) (thread_of a u) ≡ after k u (told k u b) (thread_of b u)
  after_same k = elim (told_same k) [ inl same ↦ (λ i. after k u (same i) (x i)) | inr on ↦ after_cell k on ]

  -- ---- the event that it makes, or none
  size_cell : (k : Kind) → OnCell k → size (made k u (told k u a) (thread_of a u)) ≡ size (made k u (told k u b) (thread_of b u))
  size_cell ToRead on = refl
  size_cell (ToBump amount) on = refl
  size_cell ToGlance on = absurd on
  size_cell ToAnswer on = absurd on
  size_cell (ToBlock ends) on = absurd on
  size_cell ToUnblock on = absurd on
  size_cell (ToAsk whom) on = absurd on
  size_cell (ToLook whom) on = absurd on
  size_cell (ToLoad object mode) on = absurd on
  size_cell (ToWrite value) on = absurd on
  size_cell ToClaim on = absurd on
  size_cell ToSettle on = absurd on
  size_cell ToDraw on = absurd on
  size_cell ToFence on = absurd on
  size_cell ToRaise on = absurd on
  size_cell ToShare on = absurd on

  weight_cell : (k : Kind) → OnCell k → weight (made k u (told k u a) (thread_of a u)) ≡ weight (made k u (told k u b) (thread_of b u))
  weight_cell ToRead on = refl
  weight_cell (ToBump amount) on = refl
  weight_cell ToGlance on = absurd on
  weight_cell ToAnswer on = absurd on
  weight_cell (ToBlock ends) on = absurd on
  weight_cell ToUnblock on = absurd on
  weight_cell (ToAsk whom) on = absurd on
  weight_cell (ToLook whom) on = absurd on
  weight_cell (ToLoad object mode) on = absurd on
  weight_cell (ToWrite value) on = absurd on
  weight_cell ToClaim on = absurd on
  weight_cell ToSettle on = absurd on
  weight_cell ToDraw on = absurd on
  weight_cell ToFence on = absurd on
  weight_cell ToRaise on = absurd on
  weight_cell ToShare on = absurd on

  size_same : (k : Kind) → size (made k u (told k u a) (thread_of a u)) ≡ size (made k u (told k u b) (thread_of b u))
  size_same k = elim (told_same k) [ inl same ↦ (λ i. size (made k u (same i) (x i))) | inr on ↦ size_cell k on ]

  weight_same : (k : Kind) → weight (made k u (told k u a) (thread_of a u)) ≡ weight (made k u (told k u b) (thread_of b u))
  weight_same k = elim (told_same k) [ inl same ↦ (λ i. weight (made k u (same i) (x i))) | inr on ↦ weight_cell k on ]

  -- ---- the words
  counter_same : (k : Kind) → (acted k u a).counter ≡ (acted k u b).counter
  counter_same ToDraw = λ i. suc (al.counter i)
  counter_same ToClaim =
      exchange_counter (wins (found ToClaim u a) (thread_of a u).phase) a (target (thread_of a u).phase) (claiming u (mode_of (thread_of a u).phase)) ∙ (al.counter
      ∙ sym (exchange_counter (wins (found ToClaim u b) (thread_of b u).phase) b (target (thread_of b u).phase) (claiming u (mode_of (thread_of b u).phase))))
  counter_same ToRaise =
      exchange_counter (wins (found ToRaise u a) (thread_of a u).phase) a (target (thread_of a u).phase) (WrEx u) ∙ (al.counter
      ∙ sym (exchange_counter (wins (found ToRaise u b) (thread_of b u).phase) b (target (thread_of b u).phase) (WrEx u)))
  counter_same ToShare =
      exchange_counter (wins (found ToShare u a) (thread_of a u).phase) a (target (thread_of a u).phase) (ShInt u) ∙ (al.counter
      ∙ sym (exchange_counter (wins (found ToShare u b) (thread_of b u).phase) b (target (thread_of b u).phase) (ShInt u)))
  counter_same ToGlance = al.counter
  counter_same ToAnswer = al.counter
  counter_same (ToBlock ends) = al.counter
  counter_same ToUnblock = al.counter
  counter_same (ToAsk whom) = al.counter
  counter_same (ToLook whom) = al.counter
  counter_same (ToLoad object mode) = al.counter
  counter_same ToRead = al.counter
  counter_same (ToWrite value) = al.counter
  counter_same (ToBump amount) = al.counter
  counter_same ToSettle = al.counter
  counter_same ToFence = al.counter

  statuses_same : (k : Kind) → (acted k u a).statuses ≡ (acted k u b).statuses
  statuses_same ToAnswer = λ i. slice_set (al.statuses i) u (shown false (n i))
  statuses_same (ToBlock ends) = λ i. slice_set (al.statuses i) u (shown true (n i))
  statuses_same ToUnblock = λ i. slice_set (al.statuses i) u (shown false (n i))
  statuses_same (ToAsk whom) = λ i. slice_set (al.statuses i) whom (asked_by u (status_at (al.statuses i) whom))
  statuses_same ToClaim =
      exchange_statuses (wins (found ToClaim u a) (thread_of a u).phase) a (target (thread_of a u).phase) (claiming u (mode_of (thread_of a u).phase)) ∙ (al.statuses
      ∙ sym (exchange_statuses (wins (found ToClaim u b) (thread_of b u).phase) b (target (thread_of b u).phase) (claiming u (mode_of (thread_of b u).phase))))
  statuses_same ToRaise =
      exchange_statuses (wins (found ToRaise u a) (thread_of a u).phase) a (target (thread_of a u).phase) (WrEx u) ∙ (al.statuses
      ∙ sym (exchange_statuses (wins (found ToRaise u b) (thread_of b u).phase) b (target (thread_of b u).phase) (WrEx u)))
  statuses_same ToShare =
      exchange_statuses (wins (found ToShare u a) (thread_of a u).phase) a (target (thread_of a u).phase) (ShInt u) ∙ (al.statuses
      ∙ sym (exchange_statuses (wins (found ToShare u b) (thread_of b u).phase) b (target (thread_of b u).phase) (ShInt u)))
  statuses_same ToGlance = al.statuses
  statuses_same (ToLook whom) = al.statuses
  statuses_same (ToLoad object mode) = al.statuses
  statuses_same ToRead = al.statuses
  statuses_same (ToWrite value) = al.statuses
  statuses_same (ToBump amount) = al.statuses
  statuses_same ToSettle = al.statuses
  statuses_same ToDraw = al.statuses
  statuses_same ToFence = al.statuses

  states_same : (k : Kind) → (acted k u a).states ≡ (acted k u b).states
  states_same ToSettle = λ i. slice_set (al.states i) (target (x i).phase) (settling u (n i) (x i).phase)
  states_same ToClaim =
      exchange_states (wins (found ToClaim u a) (thread_of a u).phase) a (target (thread_of a u).phase) (claiming u (mode_of (thread_of a u).phase))
      ∙ ((λ i. put_if (wins (packed_state (state_at (al.states i) (target (x i).phase))) (x i).phase) (al.states i) (target (x i).phase) (claiming u (mode_of (x i).phase)))
      ∙ sym (exchange_states (wins (found ToClaim u b) (thread_of b u).phase) b (target (thread_of b u).phase) (claiming u (mode_of (thread_of b u).phase))))
  states_same ToRaise =
      exchange_states (wins (found ToRaise u a) (thread_of a u).phase) a (target (thread_of a u).phase) (WrEx u)
      ∙ ((λ i. put_if (wins (packed_state (state_at (al.states i) (target (x i).phase))) (x i).phase) (al.states i) (target (x i).phase) (WrEx u))
      ∙ sym (exchange_states (wins (found ToRaise u b) (thread_of b u).phase) b (target (thread_of b u).phase) (WrEx u)))
  states_same ToShare =
      exchange_states (wins (found ToShare u a) (thread_of a u).phase) a (target (thread_of a u).phase) (ShInt u)
      ∙ ((λ i. put_if (wins (packed_state (state_at (al.states i) (target (x i).phase))) (x i).phase) (al.states i) (target (x i).phase) (ShInt u))
      ∙ sym (exchange_states (wins (found ToShare u b) (thread_of b u).phase) b (target (thread_of b u).phase) (ShInt u)))
  states_same ToGlance = al.states
  states_same ToAnswer = al.states
  states_same (ToBlock ends) = al.states
  states_same ToUnblock = al.states
  states_same (ToAsk whom) = al.states
  states_same (ToLook whom) = al.states
  states_same (ToLoad object mode) = al.states
  states_same ToRead = al.states
  states_same (ToWrite value) = al.states
  states_same (ToBump amount) = al.states
  states_same ToDraw = al.states
  states_same ToFence = al.states

  -- ---- the states after it
  module _ (k : Kind) (inside : u < length a.threads) where
    here : u < length b.threads
    here = let same = al.count in omega arith

    in_a : u < length a.journals
    in_a = let same = al.journals_there in omega arith

    in_b : u < length b.journals
    in_b = let same = al.journals_here in let many = al.count in omega arith

    thread_same : (w : ℕ) → w ≢ t → thread_of (step k u a) w ≡ thread_of (step k u b) w
    thread_same w other = elim (cases_eq w u) [
      | inl is ↦ subst (λ (v : ℕ). thread_of (step k u a) v ≡ thread_of (step k u b) v) (sym is) (stepped_thread k u a inside ∙ (after_same k ∙ sym (stepped_thread k u b here)))
      | inr differ ↦ other_thread k u a w differ ∙ (al.others w other ∙ sym (other_thread k u b w differ))
    ]

    length_same : now (step k u a) u ≡ now (step k u b) u
    length_same =
        ap (λ (j : List Event). length j) (stepped_journal k u a in_a) ∙ (longer (journal_of a.journals u) (made k u (told k u a) (thread_of a u))
        ∙ ((λ i. n i + size_same k i) ∙ (sym (longer (journal_of b.journals u) (made k u (told k u b) (thread_of b u)))
        ∙ sym (ap (λ (j : List Event). length j) (stepped_journal k u b in_b)))))

    weight_here : access_count (journal_of (step k u a).journals u) ≡ access_count (journal_of (step k u b).journals u)
    weight_here =
        ap access_count (stepped_journal k u a in_a) ∙ (heavier (journal_of a.journals u) (made k u (told k u a) (thread_of a u))
        ∙ ((λ i. al.accesses u ne i + weight_same k i) ∙ (sym (heavier (journal_of b.journals u) (made k u (told k u b) (thread_of b u)))
        ∙ sym (ap access_count (stepped_journal k u b in_b)))))

    now_same : (w : ℕ) → w ≢ t → now (step k u a) w ≡ now (step k u b) w
    now_same w other = elim (cases_eq w u) [
      | inl is ↦ subst (λ (v : ℕ). now (step k u a) v ≡ now (step k u b) v) (sym is) length_same
      | inr differ ↦ ap (λ (j : List Event). length j) (journal_of_other k u a w differ) ∙ (al.made_same w other ∙ sym (ap (λ (j : List Event). length j) (journal_of_other k u b w differ)))
    ]

    accesses_same : (w : ℕ) → w ≢ t → access_count (journal_of (step k u a).journals w) ≡ access_count (journal_of (step k u b).journals w)
    accesses_same w other = elim (cases_eq w u) [
      | inl is ↦ subst (λ (v : ℕ). access_count (journal_of (step k u a).journals v) ≡ access_count (journal_of (step k u b).journals v)) (sym is) weight_here
      | inr differ ↦ ap access_count (journal_of_other k u a w differ) ∙ (al.accesses w other ∙ sym (ap access_count (journal_of_other k u b w differ)))
    ]

    pub step_alike : Alike t (step k u a) (step k u b)
    step_alike = record {
      counter = counter_same k;
      statuses = statuses_same k;
      states = states_same k;
      cells = (act_keeps k u a).cells ∙ (al.cells ∙ sym (act_keeps k u b).cells);
      count = as_many_threads k u a ∙ (al.count ∙ sym (as_many_threads k u b));
      journals_there = as_many_journals k u a ∙ (al.journals_there ∙ sym (as_many_threads k u a));
      journals_here = as_many_journals k u b ∙ (al.journals_here ∙ sym (as_many_threads k u b));
      others = thread_same;
      made_same = now_same;
      accesses = accesses_same;
    }
