use Rattle.std.proofs.Common.{◌≡◌}
use Rattle.octet_recorder.specs.Recordings.{workers_in, programs_in, ends_in}
use Rattle.octet_recorder.proofs.closing.all_parts.Given as goal

abbrev pub invariant-loop-track : goal.invariant-loop-track
invariant-loop-track l = record {
  workers : l.workers ≡ workers_in l.yielded;
  programs : l.programs ≡ programs_in l.yielded;
  ends : l.ends ≡ ends_in l.yielded;
}
