use Rattle.std.proofs.Common.{rules}
use Rattle.octet_follow.proofs.seats.Splitting.{joins}
use Rattle.octet_follow.proofs.words.Words.join.Goals as goal

pub join_seat-requires : goal.join_seat-requires
join_seat-requires c = (search rules, search rules, search rules, search rules, joins _ _ _ _ _ _ (search rules) (search rules) (search rules))
