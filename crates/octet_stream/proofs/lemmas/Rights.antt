-- The right that a poll leaves.
use Rattle.octet_stream.specs.Rights.{ReadyHoldsRight}
use Rattle.octet_stream.proofs.Held.{ready_holds}

pub right_held : ReadyHoldsRight
right_held = ready_holds
