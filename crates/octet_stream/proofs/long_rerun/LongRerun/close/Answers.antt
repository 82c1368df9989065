use Rattle.std.proofs.Common.{◌≡◌, ℕ, List, IfOk, sym, subst, rules}
use Rattle.octet_follow.specs.declared.follower.Follower.{Follower}
use Rattle.octet_follow.specs.Calls as calls
use Rattle.octet_follow.specs.Calls.{view_of, starts_in, IsFollowerOf}
use Rattle.octet_follow.specs.Repeats.{KeepsToRecording}
use Rattle.octet_stream.specs.declared.long_follower.LongFollower.{LongFollower}
use Rattle.octet_stream.specs.Followers.{followers_of}
use Rattle.octet_stream.proofs.Stillness.{each_mapped}
use Rattle.octet_stream.proofs.long_rerun.LongRerun.close.Goals as goal

pub close-requires-clause-each : goal.close-requires-clause-each
close-requires-clause-each c =
    let followers : c.in_ok-all_followers.field-0 ≡ followers_of c.args.threads = search rules in
    let course = c.args.self.course in
    subst (λ (l : List Follower). calls.EachOf course l) (sym followers)
    (each_mapped (λ (t : LongFollower). t.follower) (λ (n : ℕ) (f : Follower). IsFollowerOf course f × ((view_of f).number ≡ n)) c.args.threads (λ place none there. let each = c.requires.each place none there in (each.0.own, each.1)))

pub returns-clause-keeps : goal.returns-clause-keeps
returns-clause-keeps c =
    let followers : c.in_ok-all_followers.field-0 ≡ followers_of c.args.threads = search rules in
    subst (λ (l : List Follower). IfOk c.close.result (λ heap. KeepsToRecording (starts_in c.args.self.course) l)) followers c.close.ensures.keeps
