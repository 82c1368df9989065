-- The laws of the protocol, which the crates above cite.
use Rattle.octet_state.specs.Laws.{GlanceIsLawful, AnswerIsLawful, BlockIsLawful, UnblockIsLawful, AskIsLawful, LookIsLawful, LoadIsLawful, ReadIsLawful, WriteIsLawful, BumpIsLawful, ClaimIsLawful, SettleOfClaimIsLawful, SettleOfShareIsLawful, DrawIsLawful, FenceIsLawful, RaiseIsLawful, ShareIsLawful, OpeningIsSound, RunIsSound, RejoiningIsSound, JournalsAreShort, CounterIsSmall, WordsFit, OffIsFrugal}
use Rattle.octet_state.proofs.steps.Glance.{glance_is_lawful as glance_proved}
use Rattle.octet_state.proofs.steps.Answer.{answer_is_lawful as answer_proved}
use Rattle.octet_state.proofs.steps.Rest.{block_is_lawful as block_proved, unblock_is_lawful as unblock_proved, rejoining_is_sound as rejoining_proved}
use Rattle.octet_state.proofs.steps.Ask.{ask_is_lawful as ask_proved}
use Rattle.octet_state.proofs.steps.Look.{look_is_lawful as look_proved}
use Rattle.octet_state.proofs.steps.Load.{load_is_lawful as load_proved}
use Rattle.octet_state.proofs.steps.ReadWriteUpdate.{read_is_lawful as read_proved, write_is_lawful as write_proved, bump_is_lawful as bump_proved}
use Rattle.octet_state.proofs.steps.Claim.{claim_is_lawful as claim_proved}
use Rattle.octet_state.proofs.steps.SettleOfClaim.{settle_of_claim_is_lawful as settle_of_claim_proved}
use Rattle.octet_state.proofs.steps.SettleOfShare.{settle_of_share_is_lawful as settle_of_share_proved}
use Rattle.octet_state.proofs.steps.Draw.{draw_is_lawful as draw_proved}
use Rattle.octet_state.proofs.steps.Fence.{fence_is_lawful as fence_proved}
use Rattle.octet_state.proofs.steps.Raise.{raise_is_lawful as raise_proved}
use Rattle.octet_state.proofs.steps.Share.{share_is_lawful as share_proved}
use Rattle.octet_state.proofs.Opening.{opening_is_sound as opening_proved}
use Rattle.octet_state.proofs.Running.{run_is_sound as run_proved}
use Rattle.octet_state.proofs.parts.DrawsCounted.{few_draws}
use Rattle.octet_state.proofs.lemmas.Widths.{few_marks, state_fits, status_fits}
use Rattle.octet_state.proofs.AllOff.{frugal_when_off}

pub glance_is_lawful : GlanceIsLawful
glance_is_lawful = glance_proved

pub answer_is_lawful : AnswerIsLawful
answer_is_lawful = answer_proved

pub block_is_lawful : BlockIsLawful
block_is_lawful = block_proved

pub unblock_is_lawful : UnblockIsLawful
unblock_is_lawful = unblock_proved

pub ask_is_lawful : AskIsLawful
ask_is_lawful = ask_proved

pub look_is_lawful : LookIsLawful
look_is_lawful = look_proved

pub load_is_lawful : LoadIsLawful
load_is_lawful = load_proved

pub read_is_lawful : ReadIsLawful
read_is_lawful = read_proved

pub write_is_lawful : WriteIsLawful
write_is_lawful = write_proved

pub bump_is_lawful : BumpIsLawful
bump_is_lawful = bump_proved

pub claim_is_lawful : ClaimIsLawful
claim_is_lawful = claim_proved

pub settle_of_claim_is_lawful : SettleOfClaimIsLawful
settle_of_claim_is_lawful = settle_of_claim_proved

pub settle_of_share_is_lawful : SettleOfShareIsLawful
settle_of_share_is_lawful = settle_of_share_proved

pub draw_is_lawful : DrawIsLawful
draw_is_lawful = draw_proved

pub fence_is_lawful : FenceIsLawful
fence_is_lawful = fence_proved

pub raise_is_lawful : RaiseIsLawful
raise_is_lawful = raise_proved

pub share_is_lawful : ShareIsLawful
share_is_lawful = share_proved

pub opening_is_sound : OpeningIsSound
opening_is_sound = opening_proved

pub run_is_sound : RunIsSound
run_is_sound = run_proved

pub rejoining_is_sound : RejoiningIsSound
rejoining_is_sound = rejoining_proved

pub journals_are_short : JournalsAreShort
journals_are_short = few_marks

pub counter_is_small : CounterIsSmall
counter_is_small = few_draws

pub words_fit : WordsFit
words_fit = λ s sound. (λ object. state_fits s object sound, λ thread. status_fits s thread sound)

pub off_is_frugal : OffIsFrugal
off_is_frugal = frugal_when_off
