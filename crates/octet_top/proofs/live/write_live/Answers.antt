use Rattle.std.proofs.Common.{◌∙◌, ap}
use Rattle.sha2.specs.Sha256.{sha256}
use Rattle.octet_top.proofs.writing.LiveMade.{begin_refused, head_refused, run_refused, run_ended}
use Rattle.octet_top.proofs.live.write_live.Goals as goal

pub returns-in-Err : goal.returns-in-Err
returns-in-Err g c = begin_refused c.args.source.now c.args.log_name.now _ _ c.in-Err.fault c.in-Err.ensures

pub returns-in-Err-add_head : goal.returns-in-Err-add_head
returns-in-Err-add_head g c =
    head_refused c.args.source.now c.args.log_name.now c.thread_count-threads.result c.digest-digest.result.bytes c.thread_count-threads.ensures.count (c.digest-digest.ensures ∙ ap sha256 c.as_slice.ensures) _ _ c.in_default.ensures _ c.in-Err-add_head.fault
    c.in-Err-add_head.ensures.added

pub returns-in-Ok : goal.returns-in-Ok
returns-in-Ok g c =
    run_ended c.args.source.now c.args.log_name.now c.thread_count-threads.result c.digest-digest.result.bytes c.thread_count-threads.ensures.count (c.digest-digest.ensures ∙ ap sha256 c.as_slice.ensures) _ _ c.in_default.ensures _ c.in_default-add_head.ensures.added
    c.in-Ok.live.recorded.log c.in-Ok.live.recorded.outcome c.in-Ok.live.kept _ _ c.end_live.result c.in-Ok.ensures.faithful c.in-Ok.ensures.written c.end_live.ensures

pub returns-in-Err-run_live : goal.returns-in-Err-run_live
returns-in-Err-run_live g c =
    run_refused c.args.source.now c.args.log_name.now c.thread_count-threads.result c.digest-digest.result.bytes c.thread_count-threads.ensures.count (c.digest-digest.ensures ∙ ap sha256 c.as_slice.ensures) _ _ c.in_default.ensures _ c.in_default-add_head.ensures.added _
    c.in-Err-run_live.ensures.partly
