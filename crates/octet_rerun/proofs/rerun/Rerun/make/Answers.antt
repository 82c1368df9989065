use Rattle.std.proofs.Common.{rules, arith, refl, ap, ◌∙◌, List, length, slice_get}
use Rattle.octet_model.specs.declared.event.Event.{Event}
use Rattle.octet_parallel.specs.Calls.{view_of}
use Rattle.octet_rerun.specs.Reruns.{recorded_of}
use Rattle.octet_rerun.proofs.Followers.{short, makes, more_made, grows}
use Rattle.octet_rerun.proofs.Stepping.{makes_next, awaits, stays_through, stays_amiss, stays_stopped}
use Rattle.octet_rerun.proofs.rerun.Rerun.make.Goals as goal

pub overflow_add-follower : goal.overflow_add-follower
overflow_add-follower c =
    let f = c.args.follower.now in
    let m = makes_next (view_of f.player) (view_of c.step.new.player) c.in-Made.ensures.step in
    omega (arith, more_made c.args.self.now f c.requires.own c.step.new.player c.in-Made.ensures.own c.in-Made.ensures.number m c.args.event c.requires.next, short c.args.self.now.recorded f.thread c.requires.own.recording.places.events)

pub returns-in-Made-clause-own : goal.returns-in-Made-clause-own
returns-in-Made-clause-own c =
    let f = c.args.follower.now in
    let m = makes_next (view_of f.player) (view_of c.step.new.player) c.in-Made.ensures.step in
    grows c.args.self.now f c.requires.own c.step.new.player c.in-Made.ensures.own c.in-Made.ensures.number m c.args.event c.requires.next _ _ refl (search rules)

pub returns-in-Made-clause-made : goal.returns-in-Made-clause-made
returns-in-Made-clause-made c = λ none.
    let f = c.args.follower.now in
    let m = makes_next (view_of f.player) (view_of c.step.new.player) c.in-Made.ensures.step in
    makes c.args.self.now f c.requires.own c.step.new.player c.in-Made.ensures.own c.in-Made.ensures.number m c.args.event c.requires.next

pub returns-in-Waits-clause-holds : goal.returns-in-Waits-clause-holds
returns-in-Waits-clause-holds c = awaits (view_of c.args.follower.now.player) (view_of c.step.new.player) c.in-Waits.whom c.in-Waits.needs c.in-Waits.found c.in-Waits.ensures.step

pub returns-in-Through-clause-holds : goal.returns-in-Through-clause-holds
returns-in-Through-clause-holds c =
    let v = view_of c.args.follower.now.player in let w = view_of c.step.new.player in record {
      ended = c.in-Through.ensures.ends;
      left = c.args.event;
      is_left = ap (λ (j : List Event). slice_get (recorded_of c.args.self.now c.args.follower.now.thread) (length j)) (stays_through v w c.in-Through.ensures.step) ∙ c.requires.next;
    }

pub returns-in-Amiss-clause-holds : goal.returns-in-Amiss-clause-holds
returns-in-Amiss-clause-holds c =
    let v = view_of c.args.follower.now.player in let w = view_of c.step.new.player in record {
      ended = c.in-Amiss.ensures.ends;
      left = c.args.event;
      is_left = ap (λ (j : List Event). slice_get (recorded_of c.args.self.now c.args.follower.now.thread) (length j)) (stays_amiss v w c.in-Amiss.ensures.step) ∙ c.requires.next;
    }

pub returns-in-Stopped-clause-holds : goal.returns-in-Stopped-clause-holds
returns-in-Stopped-clause-holds c =
    let v = view_of c.args.follower.now.player in let w = view_of c.step.new.player in record {
      ended = c.in-Stopped.ensures.ends;
      left = c.args.event;
      is_left = ap (λ (j : List Event). slice_get (recorded_of c.args.self.now c.args.follower.now.thread) (length j)) (stays_stopped v w c.in-Stopped.whom c.in-Stopped.ensures.step) ∙ c.requires.next;
    }
