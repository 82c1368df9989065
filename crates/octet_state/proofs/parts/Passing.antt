-- Who may pass: no two to an object of which one writes, and by which state or claim.
use Rattle.std.proofs.Common.{◌≡◌, ◌≢◌, ℕ, ◌⊎◌, inl, inr, Bool, true, false, ◌&&◌, ◌||◌, IsTrue, Option, Some, None, refl, ap, ◌∙◌, subst}
use Rattle.std.specs.Prelude.{◌==◌, not, if◌then◌else◌}
use Rattle.std.proofs.lemmas.Bool.{and_parts, eqb-true, eq-eqb}
use Rattle.octet_state.specs.declared.state_word.StateWord.{StateWord}
use Rattle.octet_state.specs.declared.state_word.StateWord.TheVariants.{WrEx, RdEx, WrInt, RdInt, ShInt}
use Rattle.octet_state.specs.declared.status_word.StatusWord.{StatusWord}
use Rattle.octet_state.specs.declared.act.Mode.{Mode}
use Rattle.octet_state.specs.declared.act.Mode.TheVariants.{Read}
use Rattle.octet_state.specs.declared.act.Whom.{Whom}
use Rattle.octet_state.specs.declared.phase.Phase.{Phase}
use Rattle.octet_state.specs.declared.phase.Phase.TheVariants.{Claimed, Sharing}
use Rattle.octet_state.specs.State.{ProtocolState, thread_of, status_of, state_of}
use Rattle.octet_state.specs.Asking.{whom_to_ask, is_to_ask, is_done, was_asked, answers, has_answered, is_unanswered}
use Rattle.octet_state.specs.Table.{is_changed_by}
use Rattle.octet_state.specs.Passing.{lets_pass, claim_lets_pass, may_pass}
use Rattle.octet_state.specs.Intermediate.{change_of, change_by}
use Rattle.octet_state.specs.Soundness.{IsSound}

-- a thread that is unanswered is neither done nor has it answered
pub unanswered_parts : (whom : Whom) (me done : ℕ) (asked : Bool) (thread : ℕ) (status : StatusWord) → IsTrue (is_unanswered whom me done asked thread status)
    → (is_done whom me done thread ≡ false) × (has_answered whom me done asked thread status ≡ false)
unanswered_parts whom me done asked thread status h = by_bools (is_to_ask whom me thread) (is_done whom me done thread) (was_asked whom me done asked thread) (answers status me) h
  where
    by_bools : (a d w n : Bool) → IsTrue (a && not d && (not w || not n)) → (d ≡ false) × ((w && n) ≡ false)
    by_bools false d w n h = absurd cc
    by_bools true true w n h = absurd cc
    by_bools true false true true h = absurd cc
    by_bools true false true false h = (refl, refl)
    by_bools true false false n h = (refl, refl)

-- only a write-exclusive state lets its owner, and no other, pass to a write or an update
pub writer_owns : (mode : Mode) (t : ℕ) (state : StateWord) → mode ≢ Read → IsTrue (lets_pass mode t state) → state ≡ WrEx t
writer_owns mode t (WrEx owner) writing h = ap (λ (u : ℕ). WrEx u) (eqb-true owner t h)
writer_owns Read t state writing h = absurd (writing refl)
writer_owns _ t state writing h = absurd cc

no_two_here : (mode how : Mode) (t u : ℕ) (state : StateWord) → how ≢ Read → IsTrue (lets_pass mode t state) → IsTrue (lets_pass how u state) → u ≡ t
no_two_here mode how t u state writing h k = eqb-true u t (subst (λ (w : StateWord). IsTrue (lets_pass mode t w)) (writer_owns how u state writing k) h)

-- a read-exclusive state lets its owner pass
pub reader_owns : (mode : Mode) (t owner upto : ℕ) → IsTrue (lets_pass mode t (RdEx owner upto)) → owner ≡ t
reader_owns Read t owner upto h = eqb-true owner t h
reader_owns _ t owner upto h = absurd cc

pub three_parts : (a b c : Bool) → IsTrue (a && b && c) → IsTrue a × IsTrue b × IsTrue c
three_parts a b c h = let x = and_parts (a && b) c h in let y = and_parts a b x.0 in (y.0, y.1, x.1)

no_two_claims : (mode how : Mode) (t u object : ℕ) (a b : StatusWord) (by : ℕ) (p : Phase) → how ≢ Read → IsTrue (claim_lets_pass mode t object a by p) → IsTrue (claim_lets_pass how u object b by p) → u ≡ t
no_two_claims mode how t u object a b by (Claimed claimed m prior done asked) writing h k =
    let x = three_parts (claimed == object) (lets_pass mode t prior) (is_unanswered (whom_to_ask prior) by done asked t a) h in
    let y = three_parts (claimed == object) (lets_pass how u prior) (is_unanswered (whom_to_ask prior) by done asked u b) k in no_two_here mode how t u prior writing x.1 y.1
no_two_claims mode how t u object a b by _ writing h k = absurd cc

pub no_two : (s : ProtocolState) (mode how : Mode) (t u object : ℕ) (state : StateWord) → how ≢ Read → IsTrue (may_pass s.statuses s.threads mode t object state) → IsTrue (may_pass s.statuses s.threads how u object state) → u ≡ t
no_two s mode how t u object (WrInt by) writing h k = no_two_claims mode how t u object (status_of s t) (status_of s u) by (thread_of s by).phase writing h k
no_two s mode how t u object (RdInt by) writing h k = no_two_claims mode how t u object (status_of s t) (status_of s u) by (thread_of s by).phase writing h k
no_two s mode how t u object state writing h k = no_two_here mode how t u state writing h k

-- a change of a state is the state
pub change_is : (state changed : StateWord) (v : ℕ) → change_of state v ≡ Some changed → state ≡ changed
change_is state changed v h = go (is_changed_by state v) h
  where
    go : (b : Bool) → (if b then Some state else None) ≡ Some changed → state ≡ changed
    go true k = cc
    go false k = absurd cc

-- the state of an object that a thread has claimed, or is to share
pub claimed_state : (s : ProtocolState) (v object : ℕ) (mode : Mode) (prior : StateWord) (done : ℕ) (asked : Bool) → IsSound s → (thread_of s v).phase ≡ Claimed object mode prior done asked
    → (state_of s object ≡ WrInt v) ⊎ (state_of s object ≡ RdInt v)
claimed_state s v object Read prior done asked sound is = inr (change_is (state_of s object) (RdInt v) v (sound.intermediate v object ∙ (ap (λ (p : Phase). change_by p v object) is ∙ own (object == object) (eq-eqb object object refl))))
  where
    own : (b : Bool) → b ≡ true → (if b then Some (RdInt v) else None) ≡ Some (RdInt v)
    own true e = refl
    own false e = absurd cc
claimed_state s v object _ prior done asked sound is = inl (change_is (state_of s object) (WrInt v) v (sound.intermediate v object ∙ (ap (λ (p : Phase). change_by p v object) is ∙ own (object == object) (eq-eqb object object refl))))
  where
    own : (b : Bool) → b ≡ true → (if b then Some (WrInt v) else None) ≡ Some (WrInt v)
    own true e = refl
    own false e = absurd cc

pub shared_state : (s : ProtocolState) (v object : ℕ) (drawn : Option ℕ) → IsSound s → (thread_of s v).phase ≡ Sharing object drawn → state_of s object ≡ ShInt v
shared_state s v object drawn sound is = change_is (state_of s object) (ShInt v) v (sound.intermediate v object ∙ (ap (λ (p : Phase). change_by p v object) is ∙ own (object == object) (eq-eqb object object refl)))
  where
    own : (b : Bool) → b ≡ true → (if b then Some (ShInt v) else None) ≡ Some (ShInt v)
    own true e = refl
    own false e = absurd cc

-- a thread that may pass to an object that another has claimed is let pass by the claim
pub passes_claim : (s : ProtocolState) (mode : Mode) (t object v : ℕ) (state : StateWord) → (state ≡ WrInt v) ⊎ (state ≡ RdInt v) → IsTrue (may_pass s.statuses s.threads mode t object state)
    → IsTrue (claim_lets_pass mode t object (status_of s t) v (thread_of s v).phase)
passes_claim s mode t object v state (inl is) h = subst (λ (w : StateWord). IsTrue (may_pass s.statuses s.threads mode t object w)) is h
passes_claim s mode t object v state (inr is) h = subst (λ (w : StateWord). IsTrue (may_pass s.statuses s.threads mode t object w)) is h
