use Rattle.std.proofs.Common.{Err}
use Rattle.octet_commands.proofs.writing.Made.{file_refused, file_made}
use Rattle.octet_commands.proofs.giving.write_outputs.Goals as goal

pub returns-in-Err : goal.returns-in-Err
returns-in-Err g c = record {
  made = c.loop-output.invariant.whole _ (Err c.in-Err.fault) (file_refused c.args.outputs.now c.loop-output.output-index c.output-item.result c.loop-output-test.true c.output-item.is c.as_str.result.now c.as_slice.result.now c.as_str.ensures.value c.as_slice.ensures _ _ c.in-Err.fault c.in-Err.ensures.made);
}

pub loop-output-preserved : goal.loop-output-preserved
loop-output-preserved g c = record {
  whole = λ end result rest. c.loop-output.invariant.whole end result (file_made c.args.outputs.now c.loop-output.output-index c.output-item.result c.loop-output-test.true c.output-item.is c.as_str.result.now c.as_slice.result.now c.as_str.ensures.value c.as_slice.ensures _ _ end result c.in_default.ensures.made rest);
  begun = c.in_default.ensures.begun;
}
