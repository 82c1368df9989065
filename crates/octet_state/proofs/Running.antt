-- Every run keeps the state sound.
use Rattle.std.proofs.Common.{ℕ, ◌<◌, ◌^◌, inl, inr, true, false, [], ◌∷◌, length, refl}
use Rattle.octet_state.specs.Words.{packed_state, packed_status}
use Rattle.octet_state.specs.State.{ProtocolState, now, counter_place, status_place, state_place, cell_place}
use Rattle.octet_state.specs.declared.state_word.StateWord.TheVariants.{WrEx, RdSh, ShInt}
use Rattle.octet_state.specs.Steps.{Kind, ToGlance, ToAnswer, ToBlock, ToUnblock, ToAsk, ToLook, ToLoad, ToRead, ToWrite, ToBump, ToClaim, ToSettle, ToDraw, ToFence, ToRaise, ToShare, May, step, shown, claiming, owning}
use Rattle.octet_state.specs.Soundness.{IsSound}
use Rattle.octet_state.specs.Laws.{RunIsSound}
use Rattle.octet_state.proofs.steps.Glance.{glance_is_lawful}
use Rattle.octet_state.proofs.steps.Answer.{answer_is_lawful}
use Rattle.octet_state.proofs.steps.Rest.{block_is_lawful, unblock_is_lawful}
use Rattle.octet_state.proofs.steps.Ask.{ask_is_lawful}
use Rattle.octet_state.proofs.steps.Look.{look_is_lawful}
use Rattle.octet_state.proofs.steps.Load.{load_is_lawful}
use Rattle.octet_state.proofs.steps.ReadWriteUpdate.{read_is_lawful, write_is_lawful, bump_is_lawful}
use Rattle.octet_state.proofs.steps.Claim.{claim_is_lawful}
use Rattle.octet_state.proofs.steps.SettleOfClaim.{settle_of_claim_is_lawful}
use Rattle.octet_state.proofs.steps.SettleOfShare.{settle_of_share_is_lawful}
use Rattle.octet_state.proofs.steps.Draw.{draw_is_lawful}
use Rattle.octet_state.proofs.steps.Fence.{fence_is_lawful}
use Rattle.octet_state.proofs.steps.Raise.{raise_is_lawful}
use Rattle.octet_state.proofs.steps.Share.{share_is_lawful}

pub step_is_sound : (k : Kind) (t : ℕ) (s : ProtocolState) → IsSound s → t < length s.threads → May k t s → IsSound (step k t s)
step_is_sound ToGlance t s sound inside may = (glance_is_lawful s t (status_place t) sound inside may.0 may.1 refl).sound
step_is_sound ToAnswer t s sound inside may = (answer_is_lawful s t (status_place t) (packed_status (shown false (now s t))) sound inside may refl refl).sound
step_is_sound (ToBlock ends) t s sound inside may = (block_is_lawful s t (status_place t) (packed_status (shown true (now s t))) ends sound inside may refl refl).sound
step_is_sound ToUnblock t s sound inside (due, inl off) = (unblock_is_lawful s t (status_place t) (packed_status (shown false (now s t))) sound inside (inl (due, off)) refl refl).sound
step_is_sound ToUnblock t s sound inside (due, inr blocked) = (unblock_is_lawful s t (status_place t) (packed_status (shown false (now s t))) sound inside (inr (due, blocked)) refl refl).sound
step_is_sound (ToAsk whom) t s sound inside (due, (object, mode, prior, done, is, left, next)) =
    (ask_is_lawful s t (status_place whom) (2 ^ t) whom object mode prior done sound inside (due, is) left next refl refl).sound
step_is_sound (ToLook whom) t s sound inside (due, (object, mode, prior, done, is, next)) =
    (look_is_lawful s t (status_place whom) whom object mode prior done sound inside (due, is) next refl).sound
step_is_sound (ToLoad object mode) t s sound inside (due, there, inl (idle, few)) = (load_is_lawful s t (state_place s object) object mode sound inside there (inl ((due, idle), few)) refl).sound
step_is_sound (ToLoad object mode) t s sound inside (due, there, inr (seen, wants)) = (load_is_lawful s t (state_place s object) object mode sound inside there (inr (seen, (due, wants))) refl).sound
step_is_sound ToRead t s sound inside (due, (object, is)) = (read_is_lawful s t (cell_place s object) object sound inside (due, is) refl).sound
step_is_sound (ToWrite value) t s sound inside (due, (object, is)) = (write_is_lawful s t (cell_place s object) object value sound inside (due, is) refl).sound
step_is_sound (ToBump amount) t s sound inside (due, (object, is)) = (bump_is_lawful s t (cell_place s object) object amount sound inside (due, is) refl).sound
step_is_sound ToClaim t s sound inside (due, (object, mode, seen, whom, is, takes)) =
    (claim_is_lawful s t (state_place s object) (packed_state seen) (packed_state (claiming t mode)) object mode seen whom sound inside (due, is) takes refl refl refl).sound
step_is_sound ToSettle t s sound inside (due, inl (object, mode, prior, asked, is)) =
    (settle_of_claim_is_lawful s t (state_place s object) (packed_state (owning t (now s t) mode)) object mode prior asked sound inside (due, is) refl refl).sound
step_is_sound ToSettle t s sound inside (due, inr (object, number, is)) =
    (settle_of_share_is_lawful s t (state_place s object) (packed_state (RdSh number)) object number sound inside (due, is) refl refl).sound
step_is_sound ToDraw t s sound inside (due, (object, is)) = (draw_is_lawful s t counter_place object sound inside (due, is) refl).sound
step_is_sound ToFence t s sound inside (due, (object, number, is)) = (fence_is_lawful s t counter_place object number sound inside (due, is) refl).sound
step_is_sound ToRaise t s sound inside (due, (object, mode, seen, is, raises)) =
    (raise_is_lawful s t (state_place s object) (packed_state seen) (packed_state (WrEx t)) object mode seen sound inside (due, is) raises refl refl refl).sound
step_is_sound ToShare t s sound inside (due, (object, mode, seen, from, upto, is, shares)) =
    (share_is_lawful s t (state_place s object) (packed_state seen) (packed_state (ShInt t)) object mode seen from upto sound inside (due, is) shares refl refl refl).sound

pub run_is_sound : RunIsSound
run_is_sound s [] sound is = sound
run_is_sound s (taken ∷ run) sound is = run_is_sound (step taken.kind taken.thread s) run (step_is_sound taken.kind taken.thread s sound is.0 is.1) is.2
