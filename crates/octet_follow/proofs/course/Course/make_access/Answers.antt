use Rattle.std.proofs.Common.{refl}
use Rattle.octet_follow.proofs.Promise.{unshown, holds_back}
use Rattle.octet_follow.proofs.Following.{accessed, is_access, makes_access, one_less, shows_made}
use Rattle.octet_follow.proofs.course.Course.make_access.Goals as goal

pub returns-clause-own : goal.returns-clause-own
returns-clause-own c = (accessed _ _ _ _ (is_access c.args.access c.make-value.ensures.made.found) c.requires.own c.requires.shown c.make-value.ensures.own c.make-value.ensures.made.goes refl (c.digested-follower.ensures c.make-value.ensures.made.found c.make-value.ensures.made.told) refl refl refl refl refl refl refl refl (one_less _ c.requires.access)).0

pub returns-clause-given : goal.returns-clause-given
returns-clause-given c = (accessed _ _ _ _ (is_access c.args.access c.make-value.ensures.made.found) c.requires.own c.requires.shown c.make-value.ensures.own c.make-value.ensures.made.goes refl (c.digested-follower.ensures c.make-value.ensures.made.found c.make-value.ensures.made.told) refl refl refl refl refl refl refl refl (one_less _ c.requires.access)).1

pub returns-clause-unshown : goal.returns-clause-unshown
returns-clause-unshown c = unshown _ _ _ (shows_made _ c.requires.own.up) c.make-value.ensures.made.goes

pub returns-clause-holds : goal.returns-clause-holds
returns-clause-holds c = holds_back c.args.access _ _ _ (shows_made _ c.requires.own.up) c.make-value.ensures.made

pub returns-clause-made : goal.returns-clause-made
returns-clause-made c = makes_access c.args.access _ _ _ c.make-value.ensures.made
