use Rattle.std.proofs.Common.{rules, ◌≡◌, ◌∙◌, List, All, length, map, ap, sym, subst, arith}
use Rattle.std.proofs.lemmas.List.{length-map}
use Rattle.std.specs.Arc.{arc_value}
use Rattle.octet_heap.specs.Models.{heap_model}
use Rattle.octet_stream.specs.declared.long_run.LongRun.{LongRun}
use Rattle.octet_stream.specs.declared.track.Track.{Track}
use Rattle.octet_stream.specs.Runs.{EachNew}
use Rattle.octet_host_long.specs.declared.outlet.Outlet.{Outlet}
use Rattle.octet_host_long.specs.declared.recorded.LongRecorded.{LongRecorded}
use Rattle.octet_host_long.specs.Opened.{IsSeat}
use Rattle.octet_host_long.proofs.Beginning.{each_opened, all_recorded}
use Rattle.octet_host_long.proofs.opening.open.Goals as goal

pub returns-clause-good : goal.returns-clause-good
returns-clause-good c =
    let run = c.in_ok-run.run' in let sessions = c.in_ok-sessions.sessions.items in let streams = c.in_ok-outlets.outlets.items in let objects = length c.args.starts.now in
    let tracks : map (λ (it : LongRecorded). it.track) sessions ≡ c.in_ok-run.tracks = search rules in
    let receivers : map (λ (outlet : Outlet). outlet.writer.receiver) streams ≡ c.in_ok-run.receivers = search rules in
    let seats : All (IsSeat run objects) sessions = subst (λ (r : LongRun). All (IsSeat r objects) sessions) c.in_ok-heap.ensures c.in_ok-sessions.ensures.seats in
    let new = subst (λ (ts : List Track). EachNew run ts (map (λ (outlet : Outlet). outlet.writer.receiver) streams)) (sym tracks) (subst (EachNew run c.in_ok-run.tracks) (sym receivers) c.in_ok-run.ensures.ends) in
    let same : length sessions ≡ length streams =
    omega (arith, length-map sessions (λ (it : LongRecorded). it.track), ap length tracks, c.in_ok-run.ensures.count.0, c.in_ok-run.ensures.count.1, ap length receivers, length-map streams (λ (outlet : Outlet). outlet.writer.receiver)) in
    let count : (heap_model run.heap).objects ≡ objects = search rules in
    all_recorded run objects sessions streams seats c.in_ok-outlets.ensures.each new same count

pub returns-clause-opens : goal.returns-clause-opens
returns-clause-opens c =
    let run = c.in_ok-run.run' in let sessions = c.in_ok-sessions.sessions.items in let streams = c.in_ok-outlets.outlets.items in let objects = length c.args.starts.now in
    let tracks : map (λ (it : LongRecorded). it.track) sessions ≡ c.in_ok-run.tracks = search rules in
    let receivers : map (λ (outlet : Outlet). outlet.writer.receiver) streams ≡ c.in_ok-run.receivers = search rules in
    let seats : All (IsSeat run objects) sessions = subst (λ (r : LongRun). All (IsSeat r objects) sessions) c.in_ok-heap.ensures c.in_ok-sessions.ensures.seats in
    let new = subst (λ (ts : List Track). EachNew run ts (map (λ (outlet : Outlet). outlet.writer.receiver) streams)) (sym tracks) (subst (EachNew run c.in_ok-run.tracks) (sym receivers) c.in_ok-run.ensures.ends) in
    let first : length sessions ≡ c.args.threads = omega (arith, length-map sessions (λ (it : LongRecorded). it.track), ap length tracks, c.in_ok-run.ensures.count.0) in
    let second : length streams ≡ c.args.threads = omega (arith, c.in_ok-run.ensures.count.1, ap length receivers, length-map streams (λ (outlet : Outlet). outlet.writer.receiver)) in record {
      run = run;
      model = search rules;
      sessions_count = first;
      streams_count = second;
      share = (arc_value c.in_ok-heap.heap, c.in_ok-sessions.ensures.share);
      each = each_opened run objects sessions streams seats c.in_ok-outlets.ensures.each new (first ∙ sym second);
    }
