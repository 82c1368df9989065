-- What is done to the memory, piece by piece, is the step.
use Rattle.std.proofs.Common.{◌≡◌, ℕ, zero, suc, ◌<◌, Bool, true, false, ◌==◌, if◌then◌else◌, IsFalse, ◌^◌, List, [], ◌∷◌, length, get_or, Option, Some, None, sym, ap, ◌∙◌, arith}
use Rattle.octet_model.specs.Thread.{added}
use Rattle.octet_model.specs.declared.event.Event.{Event}
use Rattle.octet_model.specs.declared.event.Event.TheVariants.{Read, Write, Update, Marked}
use Rattle.octet_model.specs.declared.event.Mark.TheVariants.{Join, Draw, Fence}
use Rattle.octet_state.specs.declared.state_word.StateWord.{StateWord}
use Rattle.octet_state.specs.declared.state_word.StateWord.TheVariants.{WrEx, RdEx, RdSh, ShInt}
use Rattle.octet_state.specs.declared.status_word.StatusWord.{StatusWord}
use Rattle.octet_state.specs.declared.act.Mode.{Mode}
use Rattle.octet_state.specs.declared.act.Mode.TheVariants as mode
use Rattle.octet_state.specs.declared.act.Act.{Act}
use Rattle.octet_state.specs.declared.phase.Phase.{Phase}
use Rattle.octet_state.specs.declared.phase.Phase.TheVariants.{Off, Idle, Want, Pass, FenceDue, Claimed, Sharing, Blocked}
use Rattle.octet_state.specs.declared.phase.Due.{Due}
use Rattle.octet_state.specs.declared.phase.Due.TheVariants.{Nothing, Glance}
use Rattle.octet_state.specs.declared.why.Why.{Why}
use Rattle.octet_state.specs.declared.why.Why.TheVariants as why
use Rattle.octet_state.specs.Words.{packed_state, unpacked_state, packed_status, unpacked_status, FitsStateWord, FitsStatusWord}
use Rattle.octet_state.specs.Table.{decided, is_changed_by}
use Rattle.octet_state.specs.Asking.{answers}
use Rattle.octet_state.specs.State.{Thread, ProtocolState, thread_of, status_of, state_of, cell_of, now}
use Rattle.octet_state.specs.Steps.{ToGlance, ToAnswer, ToBlock, ToUnblock, ToAsk, ToLook, ToLoad, ToRead, ToWrite, ToBump, ToClaim, ToSettle, ToDraw, ToFence, ToRaise, ToShare, step, told, moved, counted, target, mode_of, done_of, one_done, one_asked, wins, lost, claimed, claiming, owning, settling, passing, joined_by_share, loaded, due_by, blocked_in, shown, asked_by, with_cell, with_status, with_state, exchanged, proceeded, state_in}
use Rattle.octet_state.proofs.lemmas.Packing.{state_in_back, status_back}
use Rattle.octet_state.specs.NextStep.{waits, held_by}
use Rattle.octet_machine.specs.Memory.{with_thread, with_event, IsClaimOf}

pub fits_here : (s : ProtocolState) (object : ℕ) (state : StateWord) → state ≡ state_of s object → FitsStateWord (state_of s object) → FitsStateWord state
fits_here s object state same fits = rw same fits

pub others_here : (s : ProtocolState) (object me : ℕ) (state : StateWord) → state ≡ state_of s object → IsFalse (is_changed_by (state_of s object) me) → IsFalse (is_changed_by state me)
others_here s object me state same others = rw same others

pub few_here : (s : ProtocolState) (me : ℕ) (x : Thread) → x ≡ thread_of s me → done_of (thread_of s me).phase < 255 → done_of x.phase < 255
few_here s me x same few = rw same few

pub position_here : (s : ProtocolState) (whom : ℕ) (status : StatusWord) → status ≡ status_of s whom → FitsStatusWord (status_of s whom) → status.upto < 2 ^ 47
position_here s whom status same fits = rw same fits.0

-- the places of a thread's phase and count, where its own are known
module _ (s s' : ProtocolState) (me : ℕ) (x : Thread) (same : x ≡ thread_of s me) where
  pub stays : (due : Due) → s' ≡ with_thread s me (moved x.phase due (thread_of s me)) → s' ≡ with_thread s me (moved (thread_of s me).phase due (thread_of s me))
  stays due is = is ∙ ap (λ (y : Thread). with_thread s me (moved y.phase due (thread_of s me))) same

pub glances : (s s' : ProtocolState) (me : ℕ) (x : Thread) (status : StatusWord) (due : Due) → FitsStatusWord (status_of s me)
    → status ≡ status_of s me → due ≡ due_by status → x ≡ thread_of s me → s' ≡ with_thread s me (moved x.phase due (thread_of s me)) → s' ≡ step ToGlance me s
glances s s' me x status due fits is due_is same moves =
    stays s s' me x same due moves
    ∙ ap (λ (d : Due). with_thread s me (moved (thread_of s me).phase d (thread_of s me))) (due_is ∙ ap due_by (is ∙ sym (status_back (status_of s me) fits)))

pub answers_all : (s s1 s2 : ProtocolState) (me : ℕ) (x : Thread)
    → s1 ≡ with_status s me (shown false (now s me)) → x ≡ thread_of s1 me → s2 ≡ with_thread s1 me (moved x.phase Nothing (thread_of s1 me)) → s2 ≡ step ToAnswer me s
answers_all s s1 s2 me x shows same moves =
    stays s1 s2 me x same Nothing moves ∙ ap (λ (z : ProtocolState). with_thread z me (moved (thread_of z me).phase Nothing (thread_of z me))) shows

pub blocks : (s s1 s2 : ProtocolState) (me : ℕ) (ends : Bool) (phase : Phase)
    → s1 ≡ with_status s me (shown true (now s me)) → phase ≡ blocked_in ends → s2 ≡ with_thread s1 me (moved phase Nothing (thread_of s1 me)) → s2 ≡ step (ToBlock ends) me s
blocks s s1 s2 me ends phase shows is moves =
    moves ∙ ap (λ (p : Phase). with_thread s1 me (moved p Nothing (thread_of s1 me))) is
    ∙ ap (λ (z : ProtocolState). with_thread z me (moved (blocked_in ends) Nothing (thread_of z me))) shows

pub unblocks : (s s1 s2 : ProtocolState) (me : ℕ)
    → s1 ≡ with_status s me (shown false (now s me)) → s2 ≡ with_thread s1 me (moved Idle Nothing (thread_of s1 me)) → s2 ≡ step ToUnblock me s
unblocks s s1 s2 me shows moves = moves ∙ ap (λ (z : ProtocolState). with_thread z me (moved Idle Nothing (thread_of z me))) shows

-- after an ask, by the status that it finds and whether that is blocked
abbrev ask_ends : ProtocolState → ℕ → ℕ → StatusWord → Bool → ProtocolState
ask_ends s me whom status blocked =
    proceeded (with_status s whom (asked_by me (status_of s whom))) me
    (if blocked then moved (one_done (thread_of s me).phase) Nothing (thread_of s me) else moved (one_asked (thread_of s me).phase) Glance (thread_of s me))
    (if blocked then Some (Marked (Join whom status.upto)) else None)

module _ (s : ProtocolState) (me whom : ℕ) (x : Thread) (status : StatusWord) (fits : FitsStatusWord (status_of s whom)) (is : status ≡ status_of s whom) (same : x ≡ thread_of s me) where
  told_status : unpacked_status (packed_status (status_of s whom)) ≡ status
  told_status = status_back (status_of s whom) fits ∙ sym is

  ask_is : (blocked : Bool) → status.blocked ≡ blocked → step (ToAsk whom) me s ≡ ask_ends s me whom status blocked
  ask_is blocked b =
      ap (λ (w : StatusWord). ask_ends s me whom w w.blocked) told_status ∙ ap (ask_ends s me whom status) b

  ask_waits : (blocked : Bool) → status.blocked ≡ blocked
      → waits (ToAsk whom) me (told (ToAsk whom) me s) (thread_of s me) ≡ (if blocked then None else Some (why.Unanswered whom (packed_status (asked_by me status))))
  ask_waits blocked b =
      ap (λ (w : StatusWord). if w.blocked then None else Some (why.Unanswered whom (packed_status (asked_by me w)))) told_status
      ∙ ap (λ (c : Bool). if c then None else Some (why.Unanswered whom (packed_status (asked_by me status)))) b

  pub asks_blocked : (s1 s2 s3 : ProtocolState) (asked : StatusWord) (phase : Phase) → status.blocked ≡ true → asked ≡ asked_by me status → phase ≡ one_done x.phase
      → s1 ≡ with_event s me (Marked (Join whom status.upto)) → s2 ≡ with_status s1 whom asked → s3 ≡ with_thread s2 me (moved phase Nothing (thread_of s2 me))
      → s3 ≡ step (ToAsk whom) me s
  asks_blocked s1 s2 s3 asked phase b bit done joins sets moves =
      moves ∙ ap (λ (p : Phase). with_thread s2 me (moved p Nothing (thread_of s2 me))) (done ∙ ap (λ (y : Thread). one_done y.phase) same)
      ∙ ap (λ (z : ProtocolState). with_thread z me (moved (one_done (thread_of s me).phase) Nothing (thread_of z me))) (sets ∙ ap (λ (z : ProtocolState). with_status z whom asked) joins)
      ∙ ap (λ (w : StatusWord). with_thread (with_status (with_event s me (Marked (Join whom status.upto))) whom w) me (moved (one_done (thread_of s me).phase) Nothing (thread_of s me))) (bit ∙ ap (asked_by me) is)
      ∙ sym (ask_is true b)

  pub asks_running : (s1 s2 : ProtocolState) (asked : StatusWord) (phase : Phase) → status.blocked ≡ false → asked ≡ asked_by me status → phase ≡ one_asked x.phase
      → s1 ≡ with_status s whom asked → s2 ≡ with_thread s1 me (moved phase Glance (thread_of s1 me))
      → s2 ≡ step (ToAsk whom) me s
  asks_running s1 s2 asked phase b bit done sets moves =
      moves ∙ ap (λ (p : Phase). with_thread s1 me (moved p Glance (thread_of s1 me))) (done ∙ ap (λ (y : Thread). one_asked y.phase) same)
      ∙ ap (λ (z : ProtocolState). with_thread z me (moved (one_asked (thread_of s me).phase) Glance (thread_of z me))) sets
      ∙ ap (λ (w : StatusWord). with_thread (with_status s whom w) me (moved (one_asked (thread_of s me).phase) Glance (thread_of s me))) (bit ∙ ap (asked_by me) is)
      ∙ sym (ask_is false b)

  pub asks_answered : status.blocked ≡ true → None ≡ waits (ToAsk whom) me (told (ToAsk whom) me s) (thread_of s me)
  asks_answered b = sym (ask_waits true b)

  pub asks_unanswered : (word : ℕ) (asked : StatusWord) → status.blocked ≡ false → asked ≡ asked_by me status → word ≡ packed_status asked
      → Some (why.Unanswered whom word) ≡ waits (ToAsk whom) me (told (ToAsk whom) me s) (thread_of s me)
  asks_unanswered word asked b bit packs = ap (λ (n : ℕ). Some (why.Unanswered whom n)) (packs ∙ ap packed_status bit) ∙ sym (ask_waits false b)

  -- a look, by whether the status that it finds is an answer
  abbrev look_ends : StatusWord → Bool → ProtocolState
  look_ends w answered =
      proceeded s me
      (if answered then moved (one_done (thread_of s me).phase) Nothing (thread_of s me) else moved (thread_of s me).phase Glance (thread_of s me))
      (if answered then Some (Marked (Join whom w.upto)) else None)

  look_is : (answered : Bool) → answers status me ≡ answered → step (ToLook whom) me s ≡ look_ends status answered
  look_is answered a = ap (λ (w : StatusWord). look_ends w (answers w me)) told_status ∙ ap (look_ends status) a

  look_waits : (answered : Bool) → answers status me ≡ answered
      → waits (ToLook whom) me (told (ToLook whom) me s) (thread_of s me) ≡ (if answered then None else Some (why.Unanswered whom (packed_status (status_of s whom))))
  look_waits answered a =
      ap (λ (w : StatusWord). if answers w me then None else Some (why.Unanswered whom (packed_status (status_of s whom)))) told_status
      ∙ ap (λ (b : Bool). if b then None else Some (why.Unanswered whom (packed_status (status_of s whom)))) a

  pub looks_answered : (s1 s2 : ProtocolState) (phase : Phase) → answers status me ≡ true → phase ≡ one_done x.phase
      → s1 ≡ with_event s me (Marked (Join whom status.upto)) → s2 ≡ with_thread s1 me (moved phase Nothing (thread_of s1 me)) → s2 ≡ step (ToLook whom) me s
  looks_answered s1 s2 phase a done joins moves =
      moves ∙ ap (λ (p : Phase). with_thread s1 me (moved p Nothing (thread_of s1 me))) (done ∙ ap (λ (y : Thread). one_done y.phase) same)
      ∙ ap (λ (z : ProtocolState). with_thread z me (moved (one_done (thread_of s me).phase) Nothing (thread_of z me))) joins
      ∙ sym (look_is true a)

  pub looks_unanswered : (s1 : ProtocolState) → answers status me ≡ false → s1 ≡ with_thread s me (moved x.phase Glance (thread_of s me)) → s1 ≡ step (ToLook whom) me s
  looks_unanswered s1 a moves = stays s s1 me x same Glance moves ∙ sym (look_is false a)

  pub look_moves : answers status me ≡ true → None ≡ waits (ToLook whom) me (told (ToLook whom) me s) (thread_of s me)
  look_moves a = sym (look_waits true a)

  pub look_goes_on : (word : ℕ) → answers status me ≡ false → word ≡ packed_status status → Some (why.Unanswered whom word) ≡ waits (ToLook whom) me (told (ToLook whom) me s) (thread_of s me)
  look_goes_on word a packs = ap (λ (n : ℕ). Some (why.Unanswered whom n)) (packs ∙ ap packed_status is) ∙ sym (look_waits false a)

-- an item is the same whatever stands for one that is not there
pub same_at : {A : Type 0} (xs : List A) (i : ℕ) (x d : A) → i < length xs → x ≡ get_or xs i x → x ≡ get_or xs i d
same_at [] i x d lt is = absurd (omega arith)
same_at (y ∷ xs) zero x d lt is = is
same_at (y ∷ xs) (suc i) x d lt is = same_at xs i x d (omega arith) is

module _ (s : ProtocolState) (me : ℕ) where
  abbrev X : Thread
  X = thread_of s me

  abbrev idles : ProtocolState → ProtocolState
  idles z = with_thread z me (moved Idle Nothing (thread_of z me))

  abbrev read_ends : Phase → ProtocolState
  read_ends p = proceeded s me (moved Idle Nothing X) (Some (Read (target p) (cell_of s (target p))))

  pub reads : (s1 s2 : ProtocolState) (object value : ℕ) → X.phase ≡ Pass object mode.Read → value ≡ cell_of s object
      → s1 ≡ with_event s me (Read object value) → s2 ≡ idles s1 → s2 ≡ step ToRead me s
  reads s1 s2 object value phase is makes moves =
      moves ∙ ap idles (makes ∙ ap (λ (v : ℕ). with_event s me (Read object v)) is) ∙ sym (ap read_ends phase)

  pub reads_told : (object value : ℕ) → X.phase ≡ Pass object mode.Read → value ≡ cell_of s object → value ≡ told ToRead me s
  reads_told object value phase is = is ∙ sym (ap (λ (p : Phase). cell_of s (target p)) phase)

  -- another value is put into the cell, with the event of the access
  module _ (value : ℕ → ℕ) (e : ℕ → Event) where
    abbrev change_ends : Phase → ProtocolState
    change_ends p = proceeded (with_cell s (target p) (value (target p))) me (moved Idle Nothing X) (Some (e (target p)))

    changes : (s1 s2 : ProtocolState) (object : ℕ) (m : Mode) → X.phase ≡ Pass object m
        → s1 ≡ with_event s me (e object) → s2 ≡ idles (with_cell s1 object (value object)) → s2 ≡ change_ends X.phase
    changes s1 s2 object m phase makes moves =
        moves ∙ ap (λ (z : ProtocolState). idles (with_cell z object (value object))) makes ∙ sym (ap change_ends phase)

  pub writes : (s1 s2 : ProtocolState) (object value : ℕ) → X.phase ≡ Pass object mode.Write
      → s1 ≡ with_event s me (Write object value) → s2 ≡ idles (with_cell s1 object value) → s2 ≡ step (ToWrite value) me s
  writes s1 s2 object value = changes (λ o. value) (λ o. Write o value) s1 s2 object mode.Write

  pub bumps : (s1 s2 : ProtocolState) (object amount before after : ℕ) → X.phase ≡ Pass object mode.Update → before ≡ cell_of s object → after ≡ added amount before
      → s1 ≡ with_event s me (Update object before after) → s2 ≡ idles (with_cell s1 object after) → s2 ≡ step (ToBump amount) me s
  bumps s1 s2 object amount before after phase is adds makes moves =
      let sum : after ≡ added amount (cell_of s object) = adds ∙ ap (added amount) is in
      changes (λ o. added amount (cell_of s o)) (λ o. Update o (cell_of s o) (added amount (cell_of s o))) s1 s2 object mode.Update phase
      (makes ∙ ap (λ (b : ℕ). with_event s me (Update object b after)) is ∙ ap (λ (a : ℕ). with_event s me (Update object (cell_of s object) a)) sum)
      (moves ∙ ap (λ (a : ℕ). idles (with_cell s1 object a)) sum)

  module _ (object : ℕ) (mode : Mode) (state : StateWord) (act : Act) (count : ℕ) (fits : FitsStateWord (state_of s object)) (is : state ≡ state_of s object) (acts : act ≡ decided state me mode count) (counts : count ≡ X.count) where
    state_there : state ≡ state_in (unpacked_state (packed_state (state_of s object)))
    state_there = is ∙ sym (state_in_back (state_of s object) fits)

    pub loads : (s' : ProtocolState) (phase : Phase) (due : Due) → ((x : Thread) → moved phase due x ≡ loaded act object mode state x) → s' ≡ with_thread s me (moved phase due X) → s' ≡ step (ToLoad object mode) me s
    loads s' phase due is_loaded moves =
        moves ∙ ap (with_thread s me) (is_loaded X)
        ∙ ap (λ (a : Act). with_thread s me (loaded a object mode state X)) (acts ∙ ap (decided state me mode) counts)
        ∙ ap (λ (w : StateWord). with_thread s me (loaded (decided w me mode X.count) object mode w X)) state_there

    pub load_waits : (word : ℕ) (reason : Option Why) → word ≡ packed_state state → reason ≡ held_by act word → reason ≡ waits (ToLoad object mode) me (told (ToLoad object mode) me s) X
    load_waits word reason packs why_is =
        why_is ∙ ap (held_by act) (packs ∙ ap packed_state is)
        ∙ ap (λ (a : Act). held_by a (packed_state (state_of s object))) (acts ∙ ap (decided state me mode) counts)
        ∙ ap (λ (w : StateWord). held_by (decided w me mode X.count) (packed_state (state_of s object))) state_there

  module _ (object : ℕ) (mode : Mode) (seen : StateWord) (b : Bool) (phase : X.phase ≡ Want object mode (Some seen)) (same : (packed_state (state_of s object) == packed_state seen) ≡ b) where
    abbrev finds : Phase → Bool
    finds p = wins (packed_state (state_of s (target p))) p

    abbrev claim_ends : Phase → Bool → ProtocolState
    claim_ends p won = proceeded (exchanged won s (target p) (claiming me (mode_of p))) me (if won then moved (claimed p) Nothing X else moved (lost p) Glance X) None

    claim_is : step ToClaim me s ≡ claim_ends (Want object mode (Some seen)) b
    claim_is = ap (λ (p : Phase). claim_ends p (finds p)) phase ∙ ap (claim_ends (Want object mode (Some seen))) same

    abbrev raise_ends : Phase → Bool → ProtocolState
    raise_ends p won = proceeded (exchanged won s (target p) (WrEx me)) me (if won then moved (passing p) Nothing X else moved (lost p) Glance X) None

    raise_is : step ToRaise me s ≡ raise_ends (Want object mode (Some seen)) b
    raise_is = ap (λ (p : Phase). raise_ends p (finds p)) phase ∙ ap (raise_ends (Want object mode (Some seen))) same

    abbrev share_ends : Phase → Bool → ProtocolState
    share_ends p won = proceeded (exchanged won s (target p) (ShInt me)) me (if won then moved (Sharing (target p) None) Nothing X else moved (lost p) Glance X) (if won then joined_by_share p else None)

    share_is : step ToShare me s ≡ share_ends (Want object mode (Some seen)) b
    share_is = ap (λ (p : Phase). share_ends p (finds p)) phase ∙ ap (share_ends (Want object mode (Some seen))) same

  -- an exchange that found another word
  module _ (object : ℕ) (mode : Mode) (seen : StateWord) (found : ℕ) (reason : Option Why) (s' : ProtocolState) (phase : X.phase ≡ Want object mode (Some seen)) (same : (packed_state (state_of s object) == packed_state seen) ≡ false)
      (is_found : found ≡ packed_state (state_of s object)) (reason_is_so : reason ≡ Some (why.Changed (packed_state seen) found)) (moves : s' ≡ with_thread s me (moved (Want object mode None) Glance X)) where
    pub loses_claim : s' ≡ step ToClaim me s
    loses_claim = moves ∙ sym (claim_is object mode seen false phase same)

    pub loses_raise : s' ≡ step ToRaise me s
    loses_raise = moves ∙ sym (raise_is object mode seen false phase same)

    pub loses_share : s' ≡ step ToShare me s
    loses_share = moves ∙ sym (share_is object mode seen false phase same)

  -- one that found the word that was loaded
  module _ (object : ℕ) (mode : Mode) (seen : StateWord) (s1 s2 : ProtocolState) (phase : X.phase ≡ Want object mode (Some seen)) (same : (packed_state (state_of s object) == packed_state seen) ≡ true) where
    abbrev goes_to : Phase → ProtocolState → ProtocolState
    goes_to p z = with_thread z me (moved p Nothing (thread_of z me))

    pub claims : (state : StateWord) → state ≡ claiming me mode → s1 ≡ with_state s object state → s2 ≡ goes_to (Claimed object mode seen 0 false) s1 → s2 ≡ step ToClaim me s
    claims state is sets moves = moves ∙ ap (goes_to (Claimed object mode seen 0 false)) (sets ∙ ap (with_state s object) is) ∙ sym (claim_is object mode seen true phase same)

    pub raises : s1 ≡ with_state s object (WrEx me) → s2 ≡ goes_to (Pass object mode) s1 → s2 ≡ step ToRaise me s
    raises sets moves = moves ∙ ap (goes_to (Pass object mode)) sets ∙ sym (raise_is object mode seen true phase same)

  pub shares : (object : ℕ) (mode : Mode) (owner upto : ℕ) (s1 s2 s3 : ProtocolState) → X.phase ≡ Want object mode (Some (RdEx owner upto)) → (packed_state (state_of s object) == packed_state (RdEx owner upto)) ≡ true
      → s1 ≡ with_event s me (Marked (Join owner upto)) → s2 ≡ with_state s1 object (ShInt me) → s3 ≡ with_thread s2 me (moved (Sharing object None) Nothing (thread_of s2 me)) → s3 ≡ step ToShare me s
  shares object mode owner upto s1 s2 s3 phase same joins sets moves =
      moves ∙ ap (λ (z : ProtocolState). with_thread z me (moved (Sharing object None) Nothing (thread_of z me))) (sets ∙ ap (λ (z : ProtocolState). with_state z object (ShInt me)) joins)
      ∙ sym (share_is object mode (RdEx owner upto) true phase same)

  abbrev settle_ends : Phase → ProtocolState
  settle_ends p = with_thread (with_state s (target p) (settling me (now s me) p)) me (moved (passing p) Nothing X)

  claim_settles : (object : ℕ) (mode : Mode) (p : Phase) → IsClaimOf object mode p → settle_ends p ≡ with_thread (with_state s object (owning me (now s me) mode)) me (moved (Pass object mode) Nothing X)
  claim_settles object mode (Claimed claimed how prior done asked) is =
      ap (λ (o : ℕ). with_thread (with_state s o (owning me (now s me) how)) me (moved (Pass o how) Nothing X)) is.0
      ∙ ap (λ (m : Mode). with_thread (with_state s object (owning me (now s me) m)) me (moved (Pass object m) Nothing X)) is.1
  claim_settles object mode Off is = absurd is
  claim_settles object mode Idle is = absurd is
  claim_settles object mode (Want o m seen) is = absurd is
  claim_settles object mode (Pass o m) is = absurd is
  claim_settles object mode (FenceDue o n) is = absurd is
  claim_settles object mode (Sharing o drawn) is = absurd is
  claim_settles object mode Blocked is = absurd is

  pub settles_claim : (object : ℕ) (mode : Mode) (events : ℕ) (state : StateWord) (s1 s2 : ProtocolState) → IsClaimOf object mode X.phase → events ≡ now s me → state ≡ owning me events mode
      → s1 ≡ with_state s object state → s2 ≡ with_thread s1 me (moved (Pass object mode) Nothing (thread_of s1 me)) → s2 ≡ step ToSettle me s
  settles_claim object mode events state s1 s2 claim counts is sets moves =
      moves ∙ ap (λ (z : ProtocolState). with_thread z me (moved (Pass object mode) Nothing (thread_of z me))) (sets ∙ ap (with_state s object) (is ∙ ap (λ (n : ℕ). owning me n mode) counts))
      ∙ sym (claim_settles object mode X.phase claim)

  pub settles_share : (object number : ℕ) (s1 s2 : ProtocolState) → X.phase ≡ Sharing object (Some number)
      → s1 ≡ with_state s object (RdSh number) → s2 ≡ with_thread s1 me (moved (Pass object mode.Read) Nothing (thread_of s1 me)) → s2 ≡ step ToSettle me s
  settles_share object number s1 s2 phase sets moves =
      moves ∙ ap (λ (z : ProtocolState). with_thread z me (moved (Pass object mode.Read) Nothing (thread_of z me))) sets ∙ sym (ap settle_ends phase)

  abbrev draw_ends : Phase → ProtocolState
  draw_ends p = proceeded (record s { counter = suc s.counter }) me (counted (Sharing (target p) (Some (suc s.counter))) (suc s.counter)) (Some (Marked (Draw (suc s.counter))))

  pub draws : (object number : ℕ) (s1 s2 : ProtocolState) → X.phase ≡ Sharing object None → number ≡ suc s.counter
      → s1 ≡ with_event s me (Marked (Draw number)) → s2 ≡ with_thread (record s1 { counter = number }) me (counted (Sharing object (Some number)) number) → s2 ≡ step ToDraw me s
  draws object number s1 s2 phase is makes moves =
      moves ∙ ap (λ (z : ProtocolState). with_thread (record z { counter = number }) me (counted (Sharing object (Some number)) number)) makes
      ∙ ap (λ (n : ℕ). with_thread (record (with_event s me (Marked (Draw n))) { counter = n }) me (counted (Sharing object (Some n)) n)) is
      ∙ sym (ap draw_ends phase)

  abbrev fence_ends : Phase → ProtocolState
  fence_ends p = proceeded s me (counted (passing p) s.counter) (Some (Marked (Fence s.counter)))

  pub fences : (object number : ℕ) (s1 s2 : ProtocolState) → X.phase ≡ FenceDue object number
      → s1 ≡ with_event s me (Marked (Fence s.counter)) → s2 ≡ with_thread s1 me (counted (Pass object mode.Read) s.counter) → s2 ≡ step ToFence me s
  fences object number s1 s2 phase makes moves =
      moves ∙ ap (λ (z : ProtocolState). with_thread z me (counted (Pass object mode.Read) s.counter)) makes ∙ sym (ap fence_ends phase)
