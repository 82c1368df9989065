use Rattle.std.proofs.Common.{rules, ◌≡◌, ◌∙◌, ℕ, List, All, length, map, ap, sym, subst, arith}
use Rattle.std.proofs.lemmas.List.{length-map}
use Rattle.std.specs.Arc.{arc_value}
use Rattle.octet_follow.specs.Calls.{starts_in}
use Rattle.octet_marks.specs.declared.piece.Head.{Head}
use Rattle.octet_stream.specs.declared.long_follower.LongFollower.{LongFollower}
use Rattle.octet_stream.specs.declared.long_rerun.LongRerun.{LongRerun}
use Rattle.octet_stream.specs.Followers.{EachAtStart}
use Rattle.octet_host_long.specs.declared.inlet.Inlet.{Inlet}
use Rattle.octet_host_long.specs.declared.repeated.LongRepeated.{LongRepeated}
use Rattle.octet_host_long.specs.Opened.{head_with, IsSeatAgain, IsInlet}
use Rattle.octet_host_long.proofs.Beginning.{each_following, all_repeated}
use Rattle.octet_host_long.proofs.following.follow.Goals as goal

pub returns-clause-good : goal.returns-clause-good
returns-clause-good c =
    let rerun = c.in_ok-rerun.rerun in let sessions = c.in_ok-sessions.sessions.items in let streams = c.in_ok-inlets.inlets.items in let objects = length c.args.starts.now in
    let head = head_with c.args.threads c.args.starts.now c.args.declared.now in
    let followers : map (λ (it : LongRepeated). it.thread.thread) sessions ≡ c.in_ok-rerun.followers = search rules in
    let feeders : map (λ (inlet : Inlet). inlet.reader.feeder) streams ≡ c.in_ok-rerun.feeders = search rules in
    let seats : All (IsSeatAgain rerun objects c.args.last) sessions =
    subst (λ (r : LongRerun). All (IsSeatAgain r objects c.args.last) sessions) c.in_ok-course.ensures.rerun (subst (λ (n : ℕ). All (IsSeatAgain (arc_value c.in_ok-course.course).rerun.session objects n) sessions) c.in_ok-course.ensures.last c.in_ok-sessions.ensures.seats) in
    let inlets : All (IsInlet head) streams = subst (λ (h : Head). All (IsInlet h) streams) c.in_ok-head.ensures c.in_ok-inlets.ensures.each in
    let start = subst (λ (ts : List LongFollower). EachAtStart rerun ts (map (λ (inlet : Inlet). inlet.reader.feeder) streams)) (sym followers) (subst (EachAtStart rerun c.in_ok-rerun.followers) (sym feeders) c.in_ok-rerun.ensures.ends) in
    let same : length sessions ≡ length streams =
    omega (arith, length-map sessions (λ (it : LongRepeated). it.thread.thread), ap length followers, c.in_ok-rerun.ensures.count.0, c.in_ok-rerun.ensures.count.1, ap length feeders, length-map streams (λ (inlet : Inlet). inlet.reader.feeder)) in
    let starts : starts_in rerun.course ≡ c.args.starts.now = search rules in
    all_repeated rerun head c.args.last sessions streams seats inlets start same (ap length starts)

pub returns-clause-follows : goal.returns-clause-follows
returns-clause-follows c =
    let rerun = c.in_ok-rerun.rerun in let sessions = c.in_ok-sessions.sessions.items in let streams = c.in_ok-inlets.inlets.items in let objects = length c.args.starts.now in
    let head = head_with c.args.threads c.args.starts.now c.args.declared.now in
    let followers : map (λ (it : LongRepeated). it.thread.thread) sessions ≡ c.in_ok-rerun.followers = search rules in
    let feeders : map (λ (inlet : Inlet). inlet.reader.feeder) streams ≡ c.in_ok-rerun.feeders = search rules in
    let seats : All (IsSeatAgain rerun objects c.args.last) sessions =
    subst (λ (r : LongRerun). All (IsSeatAgain r objects c.args.last) sessions) c.in_ok-course.ensures.rerun (subst (λ (n : ℕ). All (IsSeatAgain (arc_value c.in_ok-course.course).rerun.session objects n) sessions) c.in_ok-course.ensures.last c.in_ok-sessions.ensures.seats) in
    let inlets : All (IsInlet head) streams = subst (λ (h : Head). All (IsInlet h) streams) c.in_ok-head.ensures c.in_ok-inlets.ensures.each in
    let start = subst (λ (ts : List LongFollower). EachAtStart rerun ts (map (λ (inlet : Inlet). inlet.reader.feeder) streams)) (sym followers) (subst (EachAtStart rerun c.in_ok-rerun.followers) (sym feeders) c.in_ok-rerun.ensures.ends) in
    let first : length sessions ≡ c.args.threads = omega (arith, length-map sessions (λ (it : LongRepeated). it.thread.thread), ap length followers, c.in_ok-rerun.ensures.count.0) in
    let second : length streams ≡ c.args.threads = omega (arith, c.in_ok-rerun.ensures.count.1, ap length feeders, length-map streams (λ (inlet : Inlet). inlet.reader.feeder)) in
    let starts : starts_in rerun.course ≡ c.args.starts.now = search rules in record {
      rerun = rerun;
      starts_are = starts;
      followers = c.in_ok-rerun.ensures.of.1;
      sessions_count = first;
      streams_count = second;
      share = (arc_value c.in_ok-course.course, c.in_ok-sessions.ensures.share);
      each = each_following rerun head c.args.last sessions streams seats inlets start (first ∙ sym second);
    }
