use Rattle.octet_state.proofs.lemmas.Laws.{opening_is_sound, run_is_sound, rejoining_is_sound}
use Rattle.octet_state.proofs.laws.runs_are_sound.Goals as goal

pub returns-clause-opening : goal.returns-clause-opening
returns-clause-opening c = opening_is_sound

pub returns-clause-run : goal.returns-clause-run
returns-clause-run c = run_is_sound

pub returns-clause-rejoining : goal.returns-clause-rejoining
returns-clause-rejoining c = rejoining_is_sound
