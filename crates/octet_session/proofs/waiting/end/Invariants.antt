use Rattle.std.proofs.Common.{◌≡◌, None}
use Rattle.octet_session.specs.Standing.{GainsMarks}
use Rattle.octet_session.proofs.waiting.end.Given as goal

abbrev pub invariant-loop : goal.invariant-loop
invariant-loop g l = record {
  own : g.S.Session.IsThreadOf l.session l.thread;
  runs : g.S.Session.Runs l.thread;
  idle : (g.S.Session.standing l.session l.thread).begun ≡ None;
  number : (g.S.Session.standing l.session l.thread).number ≡ (g.S.Session.standing l.session l.initial.thread).number;
  journal : GainsMarks (g.S.Session.standing l.session l.initial.thread).journal (g.S.Session.standing l.session l.thread).journal;
}
