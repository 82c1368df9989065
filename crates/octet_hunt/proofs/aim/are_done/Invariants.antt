use Rattle.std.proofs.Common.{◌≡◌, true, take}
use Rattle.std.specs.List.{list_all}
use Rattle.octet_model.specs.Orders.{is_done}
use Rattle.octet_hunt.proofs.aim.are_done.Given as goal

abbrev pub invariant-loop-end : goal.invariant-loop-end
invariant-loop-end l = list_all is_done (take l.end-index l.ends) ≡ true
