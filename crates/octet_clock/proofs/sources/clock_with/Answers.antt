use Rattle.std.proofs.Common.{arith, add-one}
use Rattle.octet_clock.proofs.pasts.Taken.{counted_source, step_within}
use Rattle.octet_clock.proofs.sources.clock_with.Goals as goal

pub returns : goal.returns
returns c = λ journals play index event next source marks is.
    let t = c.args.thread in
    let within = next.step.within in
    let own = c.clock_after-own.ensures journals play index next.whole (omega arith) marks (omega arith) in
    let other = c.clock_after-taken.ensures journals play index next.whole (omega arith) marks source.made in
    counted_source journals play index t c.args.count _ c.args.first c.clock_after-own.result c.clock_after-taken.result c.join.new.self c.raise.new.self is (add-one c.args.count) source (step_within journals play index t event next.step) own other c.join.ensures c.raise.ensures
