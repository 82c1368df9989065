use Rattle.std.proofs.Common.{rules}
use Rattle.octet_host_long.proofs.Passing.{takes_whole}
use Rattle.octet_host_long.proofs.outlet.Outlet.take.Goals as goal

pub returns-in-Ok-Whole : goal.returns-in-Ok-Whole
returns-in-Ok-Whole c = takes_whole c.args.self.now c.args.out.now c.pass.result c.pass.new.out c.pass.new.self (record {
  whole = c.gather.new.self;
  gathers = c.in-Ok-Whole.ensures.gathers;
  is = search rules;
  passes = c.pass.ensures;
})
