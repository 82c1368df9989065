use Rattle.octet_parallel.proofs.steps.Lawful.{opening_is_sound, look_is_lawful, read_is_lawful, write_is_lawful, bump_is_lawful, count_is_lawful, mark_is_lawful, stop_is_lawful}
use Rattle.octet_parallel.proofs.laws.steps_keep_the_field_sound.Goals as goal

pub returns-clause-opening : goal.returns-clause-opening
returns-clause-opening c = opening_is_sound

pub returns-clause-look : goal.returns-clause-look
returns-clause-look c = look_is_lawful

pub returns-clause-read : goal.returns-clause-read
returns-clause-read c = read_is_lawful

pub returns-clause-write : goal.returns-clause-write
returns-clause-write c = write_is_lawful

pub returns-clause-bump : goal.returns-clause-bump
returns-clause-bump c = bump_is_lawful

pub returns-clause-count : goal.returns-clause-count
returns-clause-count c = count_is_lawful

pub returns-clause-mark : goal.returns-clause-mark
returns-clause-mark c = mark_is_lawful

pub returns-clause-stop : goal.returns-clause-stop
returns-clause-stop c = stop_is_lawful
