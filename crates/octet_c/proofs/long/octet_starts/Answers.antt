use Rattle.std.proofs.Common.{rules, inl}
use Rattle.octet_c.proofs.long.octet_starts.Goals as goal

pub returns-in-Ok : goal.returns-in-Ok
returns-in-Ok c = inl (c.in-Ok.starts.items, c.in-Ok.ensures.starts, search rules)
