use Rattle.std.proofs.Common.{◌≡◌}
use Rattle.octet_session.specs.Standing.{GainsMarks}
use Rattle.octet_session.specs.Asking.{MayAsk}
use Rattle.octet_session.proofs.waiting.make.Given as goal

abbrev pub invariant-loop : goal.invariant-loop
invariant-loop g l = record {
  own : g.S.Session.IsThreadOf l.session l.thread;
  runs : g.S.Session.Runs l.thread;
  may : MayAsk l.wanted (g.S.Session.standing l.session l.thread).begun;
  number : (g.S.Session.standing l.session l.thread).number ≡ (g.S.Session.standing l.session l.initial.thread).number;
  journal : GainsMarks (g.S.Session.standing l.session l.initial.thread).journal (g.S.Session.standing l.session l.thread).journal;
  region : (g.S.Session.standing l.session l.thread).region ≡ (g.S.Session.standing l.session l.initial.thread).region;
  left : (g.S.Session.standing l.session l.thread).left ≡ (g.S.Session.standing l.session l.initial.thread).left;
}
