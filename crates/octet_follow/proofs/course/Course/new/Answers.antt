use Rattle.std.proofs.Common.{rules, ◌≡◌, ◌∙◌, length, sym, subst}
use Rattle.octet_follow.specs.Calls.{EachAtStart}
use Rattle.octet_follow.proofs.Starting.{each_at_start, as_many_followers}
use Rattle.octet_follow.proofs.course.Course.new.Goals as goal

pub returns-clause-followers : goal.returns-clause-followers
returns-clause-followers c =
    let many = as_many_followers c.args.room 0 _ _ c.in_ok-followers.ensures in
    let counts : length c.in_ok-words.seats.items ≡ c.in_ok-words.words.followers = c.in_ok-words.ensures.seats.0 ∙ sym c.in_ok-words.ensures.of.1 in (
      search rules,
      subst (EachAtStart _ c.args.room) (sym c.from_vec.ensures) (each_at_start _ c.args.room _ _ c.in_ok-followers.ensures c.in_ok-words.ensures.seats.1 counts),
    )
