use Rattle.std.proofs.Common.{◌∙◌, ap, get_or}
use Rattle.octet_log.proofs.Valid.{marks_at}
use Rattle.octet_log.proofs.v1.encoder.encode_v1.Goals as goal

pub push_thread-requires : goal.push_thread-requires
push_thread-requires c =
    marks_at c.args.log.now c.loop-thread.thread-index c.thread-item.result (rw c.as_slice-thread-items.ensures at c.loop-thread-test.true)
    (c.thread-item.is ∙ ap (λ s. get_or s c.loop-thread.thread-index c.thread-item.result) c.as_slice-thread-items.ensures)
