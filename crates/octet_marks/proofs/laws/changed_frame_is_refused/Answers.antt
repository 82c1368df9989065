use Rattle.octet_marks.proofs.Runs.{other_length, other_checksum}
use Rattle.octet_marks.proofs.laws.changed_frame_is_refused.Goals as goal

pub returns : goal.returns
returns c = record { length = other_length; checksum = other_checksum }
