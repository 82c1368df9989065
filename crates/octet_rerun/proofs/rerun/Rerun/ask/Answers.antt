use Rattle.std.proofs.Common.{rules, ◌≡◌, ◌++◌, ◌∷◌, [], ℕ, sym, subst}
use Rattle.octet_rerun.specs.Events.{event_of, found_in}
use Rattle.octet_rerun.specs.Reruns.{made_by, Makes}
use Rattle.octet_rerun.proofs.Followers.{marks_first}
use Rattle.octet_rerun.proofs.rerun.Rerun.ask.Goals as goal

pub returns-in-None-clause-made : goal.returns-in-None-clause-made
returns-in-None-clause-made c =
    let v = c.args.follower.now in let u = c.make_marks.new.follower in let w = c.make.new.follower in let e = c.in-Some.event in
    let is : e ≡ event_of c.args.access (found_in e) = search rules in
    let made : made_by w ≡ made_by u ++ e ∷ [] = c.in-None.ensures.made (search rules) in
    subst (λ (value : ℕ). Makes c.args.access v value w) (sym c.found_in-in-None.ensures) (marks_first c.args.access v u w e c.in-Ok.ensures.marks made is)
