use Rattle.std.proofs.Common.{List, [], ◌∷◌, ◌++◌, IfSome, subst}
use Rattle.octet_model.specs.declared.event.Event.{Event}
use Rattle.octet_window.specs.Ordering.{accesses_in}
use Rattle.octet_tail.specs.Tails.{IsTail}
use Rattle.octet_tail.proofs.Asking.{still_noted, more_noted, some_noted}
use Rattle.octet_tail.proofs.tailed.TailedSession.ask.Goals as goal

pub returns-in_err-value-clause-own : goal.returns-in_err-value-clause-own
returns-in_err-value-clause-own g c = (c.ask.ensures.own, still_noted c.args.thread.now.tail _ _ c.in_err-value.ensures.asks.journal c.requires.own.1)

pub note-requires : goal.note-requires
note-requires g c = record { some = some_noted c.args.thread.now.tail _ c.requires.own.1 }

pub returns-clause-own : goal.returns-clause-own
returns-clause-own g c =
    let before : List Event = accesses_in (g.S.Session.standing c.args.self.now.session c.args.thread.now.thread).journal in (
      c.ask.ensures.own,
      more_noted c.note.new.tail c.args.wanted c.in_ok-value.value _ _ c.in_ok-value.ensures.asks.journal
          (subst (λ (e : Event). IfSome c.note.new.tail (IsTail (before ++ e ∷ []))) c.event_of.ensures (c.note.ensures.noted before c.requires.own.1)),
    )
