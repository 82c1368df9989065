use Rattle.std.proofs.Common.{rules}
use Rattle.octet_follow.proofs.seats.Splitting.{splits}
use Rattle.octet_follow.proofs.words.Words.split.Goals as goal

pub split_seat-requires : goal.split_seat-requires
split_seat-requires c = (search rules, search rules, splits _ _ _ _ (search rules) (search rules) (search rules))
