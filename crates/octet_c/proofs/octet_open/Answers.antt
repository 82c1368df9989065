use Rattle.std.proofs.Common.{rules, length, map, inr}
use Rattle.octet_c.proofs.Pairs.{holds_of}
use Rattle.octet_c.proofs.octet_open.Goals as goal

pub returns-in-Ok-clause-ready : goal.returns-in-Ok-clause-ready
returns-in-Ok-clause-ready c = λ ready. record {
  threads_held = map (λ box. box.value) c.in-Ok.opened.items;
  opened = c.in-Ok.ensures.opens;
  sessions_hold = holds_of (λ box. box.value) c.in-Ok.opened.items c.put_all.new.handles (c.put_all.ensures.ready (search (rules, ready)));
}

pub returns-in-Ok-clause-cause : goal.returns-in-Ok-clause-cause
returns-in-Ok-clause-cause c = λ unready.
    let refused = c.put_all.ensures.refused (λ ready. unready (search (rules, ready))) in
    inr (length c.in-Ok.opened.items, c.in-Ok.ensures.declared, refused.2, search (rules, refused.0))
