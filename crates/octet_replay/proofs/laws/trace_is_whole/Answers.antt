use Rattle.octet_replay.proofs.lemmas.Traces.{trace_follows_order, trace_has_journals, trace_is_whole}
use Rattle.octet_replay.proofs.laws.trace_is_whole.Goals as goal

pub returns-clause-journals : goal.returns-clause-journals
returns-clause-journals c = trace_has_journals

pub returns-clause-order : goal.returns-clause-order
returns-clause-order c = trace_follows_order

pub returns-clause-whole : goal.returns-clause-whole
returns-clause-whole c = trace_is_whole
