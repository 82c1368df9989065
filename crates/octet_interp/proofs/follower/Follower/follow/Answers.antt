use Rattle.std.proofs.Common.{[], ◌∷◌, ◌++◌, sym, subst}
use Rattle.octet_model.specs.declared.event.Event.{Event}
use Rattle.octet_interp.specs.Following.{IsFollowing}
use Rattle.octet_interp.proofs.Followed.{follows_event, follows_mark, value_is}
use Rattle.octet_interp.proofs.follower.Follower.follow.Goals as goal

pub returns-in-Marked-clause-follows : goal.returns-in-Marked-clause-follows
returns-in-Marked-clause-follows c start journal stands =
    subst (λ (event : Event). IsFollowing start (journal ++ event ∷ []) c.args.self.now) (sym c.in-Marked.is) (follows_mark start journal c.in-Marked.mark c.args.self.now stands)

pub returns-in-Read-clause-follows : goal.returns-in-Read-clause-follows
returns-in-Read-clause-follows c start journal stands =
    follows_event start journal c.args.event c.args.self.now c.pass.new.self c.in-Read.value stands c.pass.ensures.commands c.pass.ensures.regions c.pass.ensures.at
    (value_is c.args.event c.in-Read.value c.in-Read.is)
