-- The states that a thread may take.
use Rattle.std.proofs.Common.{◌≡◌, ◌≢◌, ℕ, Bool, true, false, IsTrue, None, refl}
use Rattle.std.specs.Prelude.{◌==◌, nat_le, if◌then◌else◌}
use Rattle.std.proofs.lemmas.Bool.{eq-eqb}
use Rattle.octet_state.specs.declared.state_word.StateWord.{StateWord}
use Rattle.octet_state.specs.declared.state_word.StateWord.TheVariants.{WrEx, RdEx, RdSh, WrInt, RdInt, ShInt}
use Rattle.octet_state.specs.declared.act.Mode.{Mode}
use Rattle.octet_state.specs.declared.act.Mode.TheVariants.{Read}
use Rattle.octet_state.specs.declared.act.Whom.{Whom}
use Rattle.octet_state.specs.declared.act.Whom.TheVariants.{One}
use Rattle.octet_state.specs.declared.act.Act.TheVariants.{Pass, Fence, Raise, Share, Take}
use Rattle.octet_state.specs.Table.{decided}
use Rattle.octet_state.specs.State.{ProtocolState}
use Rattle.octet_state.specs.Asking.{whom_to_ask}
use Rattle.octet_state.specs.Passing.{lets_pass, may_pass}
use Rattle.octet_state.specs.Intermediate.{change_of}
use Rattle.octet_state.specs.FrugalShape.{IsPrivateState}

-- a state that a thread may take: another's exclusive one, or a read-shared one
abbrev pub IsTakeable : StateWord → ℕ → Type 0
IsTakeable (WrEx owner) t = owner ≢ t
IsTakeable (RdEx owner upto) t = owner ≢ t
IsTakeable (RdSh number) t = Unit {0}
IsTakeable (WrInt by) t = ⊥
IsTakeable (RdInt by) t = ⊥
IsTakeable (ShInt by) t = ⊥

-- the table says Take of such a state alone, and asks whom the claim of that state asks
pub takeable : (seen : StateWord) (t : ℕ) (mode : Mode) (count : ℕ) (whom : Whom) → decided seen t mode count ≡ Take whom → IsTakeable seen t × (whom ≡ whom_to_ask seen)
takeable (WrEx owner) t mode count whom h = others (owner == t) refl h
  where
    others : (b : Bool) → (owner == t) ≡ b → (if b then Pass else Take (One owner)) ≡ Take whom → (owner ≢ t) × (whom ≡ One owner)
    others true e k = absurd cc
    others false e k = (λ same. let own = eq-eqb owner t same in cc, cc)
takeable (RdEx owner upto) t Read count whom h = absurd (neither (owner == t) h)
  where
    neither : (b : Bool) → (if b then Pass else Share owner upto) ≡ Take whom → ⊥
    neither true k = cc
    neither false k = cc
takeable (RdEx owner upto) t _ count whom h = others (owner == t) refl h
  where
    others : (b : Bool) → (owner == t) ≡ b → (if b then Raise else Take (One owner)) ≡ Take whom → (owner ≢ t) × (whom ≡ One owner)
    others true e k = absurd cc
    others false e k = (λ same. let own = eq-eqb owner t same in cc, cc)
takeable (RdSh number) t Read count whom h = absurd (neither (nat_le number count) h)
  where
    neither : (b : Bool) → (if b then Pass else Fence) ≡ Take whom → ⊥
    neither true k = cc
    neither false k = cc
takeable (RdSh number) t _ count whom h = (tt, cc)
takeable (WrInt by) t mode count whom h = absurd cc
takeable (RdInt by) t mode count whom h = absurd cc
takeable (ShInt by) t mode count whom h = absurd cc

-- nobody is changing it
pub takeable_unchanged : (seen : StateWord) (t u : ℕ) → IsTakeable seen t → change_of seen u ≡ None
takeable_unchanged (WrEx owner) t u h = refl
takeable_unchanged (RdEx owner upto) t u h = refl
takeable_unchanged (RdSh number) t u h = refl
takeable_unchanged (WrInt by) t u h = absurd h
takeable_unchanged (RdInt by) t u h = absurd h
takeable_unchanged (ShInt by) t u h = absurd h

-- who may pass is let pass by the state itself
pub takeable_passes : (s : ProtocolState) (how : Mode) (u object : ℕ) (seen : StateWord) (t : ℕ) → IsTakeable seen t → IsTrue (may_pass s.statuses s.threads how u object seen) → IsTrue (lets_pass how u seen)
takeable_passes s how u object (WrEx owner) t h k = k
takeable_passes s how u object (RdEx owner upto) t h k = k
takeable_passes s how u object (RdSh number) t h k = k
takeable_passes s how u object (WrInt by) t h k = absurd h
takeable_passes s how u object (RdInt by) t h k = absurd h
takeable_passes s how u object (ShInt by) t h k = absurd h

-- it is no private state of the thread that takes it
pub takeable_is_not_own : (s : ProtocolState) (object t : ℕ) (seen : StateWord) → IsTakeable seen t → IsPrivateState s.journals s.threads object t seen → ⊥
takeable_is_not_own s object t (WrEx owner) h k = h k
takeable_is_not_own s object t (RdEx owner upto) h k = h k
takeable_is_not_own s object t (RdSh number) h k = k
takeable_is_not_own s object t (WrInt by) h k = h
takeable_is_not_own s object t (RdInt by) h k = h
takeable_is_not_own s object t (ShInt by) h k = h
