use Rattle.std.proofs.Common.{rules, ◌≡◌, None, map}
use Rattle.octet_c.specs.Closed.{first_kind}
use Rattle.octet_c.proofs.Ended.{no_first}
use Rattle.octet_c.proofs.close_boxes.Goals as goal

pub returns-in-None-clause-refused : goal.returns-in-None-clause-refused
returns-in-None-clause-refused c =
    let none : first_kind (map (λ box. box.value) c.args.boxes.items) ≡ None = search rules in
    no_first (λ box. box.value) c.args.boxes.items none
