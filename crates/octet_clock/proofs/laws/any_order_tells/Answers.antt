use Rattle.octet_clock.proofs.lemmas.FrontLaws.{one_order_gives, one_order_tells, whole_front_is_order}
use Rattle.octet_clock.proofs.laws.any_order_tells.Goals as goal

pub returns-clause-whole : goal.returns-clause-whole
returns-clause-whole c = whole_front_is_order

pub returns-clause-tells : goal.returns-clause-tells
returns-clause-tells c = one_order_tells

pub returns-clause-gives : goal.returns-clause-gives
returns-clause-gives c = one_order_gives
