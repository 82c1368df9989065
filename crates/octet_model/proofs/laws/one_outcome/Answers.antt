use Rattle.std.proofs.Common.{ap}
use Rattle.octet_model.specs.Machine.{PlainState}
use Rattle.octet_model.specs.Orders.{by_log, starting_heap, outcome_of}
use Rattle.octet_model.proofs.lemmas.Fronts.{one_end, front_leads_on}
use Rattle.octet_model.proofs.laws.one_outcome.Goals as goal

pub returns-clause-execution : goal.returns-clause-execution
returns-clause-execution c script log order other lawful ordered is_other =
    ap (λ (s : PlainState). outcome_of script s) (one_end (by_log script log) (starting_heap script) script.threads order other lawful.1 ordered is_other.1)

pub returns-clause-journals : goal.returns-clause-journals
returns-clause-journals c script log order other lawful ordered is_other =
    ap (λ (s : PlainState). s.journals) (one_end (by_log script log) (starting_heap script) script.threads order other lawful.1 ordered is_other.1)

pub returns-clause-continues : goal.returns-clause-continues
returns-clause-continues c script log order front lawful ordered is_front =
    let r = front_leads_on (by_log script log) (starting_heap script) script.threads order front lawful.1 ordered is_front.1 in
    (r.0, (lawful.0, r.1))
