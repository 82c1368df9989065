use Rattle.std.proofs.Common.{◌∙◌, refl, sym, ap}
use Rattle.rtrb.specs.Ring.{sent}
use Rattle.octet_stream.specs.declared.feeder.Feeder.{Feeder}
use Rattle.octet_host_long.proofs.inlet.Inlet.new.Goals as goal

pub returns-clause-nothing : goal.returns-clause-nothing
returns-clause-nothing c = record {
  head_is = refl;
  nothing = λ none. c.new.ensures.nothing c.args.head.value (ap (λ (f : Feeder). sent f.end) (sym c.new.ensures.feeder) ∙ none);
}
