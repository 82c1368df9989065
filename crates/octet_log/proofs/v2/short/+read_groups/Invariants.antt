use Rattle.octet_log.proofs.v2.short.+read_groups.Given as goal

abbrev pub decreases-read_groups : goal.decreases-read_groups
decreases-read_groups l = l.more
