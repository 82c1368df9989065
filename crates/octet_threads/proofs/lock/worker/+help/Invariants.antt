use Rattle.octet_threads.proofs.lock.worker.+help.Given as goal

abbrev pub decreases-help : goal.decreases-help
decreases-help l = l.most
