use Rattle.octet_blocks.proofs.Given as given
use Rattle.octet_blocks.proofs.laws.followers_are_told_the_recording.Goals as goal

pub returns-clause-given : goal.returns-clause-given
returns-clause-given c = given.reader_gives c.file_is_read.ensures.written c.file_is_read.ensures.never_refused

pub returns-clause-told : goal.returns-clause-told
returns-clause-told c = given.follower_told c.marks_join.ensures

pub returns-clause-followed : goal.returns-clause-followed
returns-clause-followed c = given.recording_followed c.marks_join.ensures c.file_is_read.ensures.written c.file_is_read.ensures.never_refused
