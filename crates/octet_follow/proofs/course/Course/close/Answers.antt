use Rattle.std.proofs.Common.{◌∙◌, List, map, ap, sym, subst, ℕ}
use Rattle.octet_follow.specs.declared.follower.Follower.{Follower}
use Rattle.octet_follow.specs.Calls.{starts_in, ClosesTo}
use Rattle.octet_follow.proofs.Closing.{each_seat, closes_to, keeps, repeats}
use Rattle.octet_follow.proofs.Faithful.{repeats_plan}
use Rattle.octet_follow.proofs.lemmas.Histories.{repeats_history}
use Rattle.octet_follow.proofs.course.Course.close.Goals.{After-from_vec}
use Rattle.octet_follow.proofs.course.Course.close.Goals as goal

pub close-requires : goal.close-requires
close-requires c = each_seat c.args.self c.args.followers c.requires.all c.requires.each _ (c.in_ok-seats.ensures ∙ ap (λ (l : List Follower). map (λ (f : Follower). f.seat) l) c.into_vec.ensures)

closes : (c : After-from_vec) → ClosesTo (starts_in c.args.self) c.args.followers c.from_vec.result
closes c = subst (λ (values : List ℕ). ClosesTo (starts_in c.args.self) c.args.followers values) (sym c.from_vec.ensures)
    (closes_to (starts_in c.args.self) c.args.followers c.in_ok-seats.seats.items c.in_ok-cells.cells.items (c.in_ok-seats.ensures ∙ ap (λ (l : List Follower). map (λ (f : Follower). f.seat) l) c.into_vec.ensures) c.in_ok-cells.ensures)

pub returns-clause-closes : goal.returns-clause-closes
returns-clause-closes c = closes c

pub returns-clause-keeps : goal.returns-clause-keeps
returns-clause-keeps c = keeps (starts_in c.args.self) c.args.followers c.from_vec.result (closes c)

pub returns-clause-repeats : goal.returns-clause-repeats
returns-clause-repeats c = repeats (starts_in c.args.self) c.args.followers c.from_vec.result (closes c)

pub returns-clause-plan : goal.returns-clause-plan
returns-clause-plan c = repeats_plan (starts_in c.args.self) c.args.followers c.from_vec.result (repeats (starts_in c.args.self) c.args.followers c.from_vec.result (closes c))

pub returns-clause-history : goal.returns-clause-history
returns-clause-history c = repeats_history (starts_in c.args.self) c.args.followers c.from_vec.result (repeats (starts_in c.args.self) c.args.followers c.from_vec.result (closes c))
