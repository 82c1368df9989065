-- What a claim hands over as it begins.
use Rattle.std.proofs.Common.{◌≡◌, ℕ, Bool, true, false}
use Rattle.octet_state.specs.declared.state_word.StateWord.{StateWord}
use Rattle.octet_state.specs.declared.state_word.StateWord.TheVariants.{WrEx, RdEx, RdSh, WrInt, RdInt, ShInt}
use Rattle.octet_state.specs.declared.act.Whom.TheVariants.{One, All}
use Rattle.octet_state.specs.State.{ProtocolState, status_of, now}
use Rattle.octet_state.specs.Asking.{is_done, has_answered}
use Rattle.octet_state.specs.Pasts.{KnowsAccesses, StateKnows}
use Rattle.octet_state.specs.Handover.{OwnerHandsOver, ReaderHandsOver, HandsOver}
use Rattle.octet_state.proofs.steps.Raise.{owner_knows_all}
use Rattle.octet_state.proofs.parts.Takeable.{IsTakeable}
use Rattle.octet_state.proofs.parts.PassingInClaims.{none_is_done}

-- a claim that has just begun hands over what the state knew
pub claim_begins_handover : (s : ProtocolState) (object t : ℕ) (seen : StateWord) → IsTakeable seen t → StateKnows s.journals s.counter object seen → HandsOver s.journals s.statuses object t seen 0 false
claim_begins_handover s object t (WrEx owner) h knows = by_owner (is_done (One owner) t 0 owner) (none_is_done (One owner) t owner) knows
  where
    by_owner : (d : Bool) → d ≡ false → KnowsAccesses s.journals object owner (now s owner) → OwnerHandsOver s.journals object t owner (status_of s owner).upto d (has_answered (One owner) t 0 false owner (status_of s owner))
    by_owner true e k = absurd cc
    by_owner false e k = k
claim_begins_handover s object t (RdEx owner upto) h knows = by_owner (is_done (One owner) t 0 owner) (none_is_done (One owner) t owner) (owner_knows_all s object owner upto knows)
  where
    by_owner : (d : Bool) → d ≡ false → KnowsAccesses s.journals object owner (now s owner) → OwnerHandsOver s.journals object t owner (status_of s owner).upto d (has_answered (One owner) t 0 false owner (status_of s owner))
    by_owner true e k = absurd cc
    by_owner false e k = k
claim_begins_handover s object t (RdSh number) h knows = (knows.2, λ y. by_reader y (is_done All t 0 y) (none_is_done All t y))
  where
    by_reader : (y : ℕ) (d : Bool) → d ≡ false → ReaderHandsOver s.journals object t number y (status_of s y).upto d (has_answered All t 0 false y (status_of s y))
    by_reader y true e = absurd cc
    by_reader y false e = tt
claim_begins_handover s object t (WrInt by) h knows = absurd h
claim_begins_handover s object t (RdInt by) h knows = absurd h
claim_begins_handover s object t (ShInt by) h knows = absurd h
