use Rattle.std.proofs.Common.{◌≡◌, ◌<◌, ℕ, List, [], ◌∷◌, length, get_or, reverse, refl, sym, ap, ◌∙◌, subst, arith}
use Rattle.std.proofs.lemmas.List.{get_or_default, reverse-append}
use Rattle.octet_outcomes.specs.declared.tree.Step.{Step}
use Rattle.octet_outcomes.specs.Moments.{Moment, no_moment}
use Rattle.octet_outcomes.specs.Runs.{Follows, IsLedTo}
use Rattle.octet_outcomes.specs.Searches.{no_step, IsStep}
use Rattle.octet_outcomes.proofs.Likeness.{like_refl, like_sym, RunLike}
use Rattle.octet_outcomes.proofs.Ways.{way_on}
use Rattle.octet_outcomes.proofs.search.Searched.picks_to.Goals as goal
use Rattle.octet_outcomes.proofs.search.Searched.picks_to.Goals.{else-loop-taken-test, then-loop-taken-test+then-at-eq0}

pub loop-taken-init : goal.loop-taken-init
loop-taken-init c =
    let script = c.args.script.now in
    let m = get_or c.args.self.now.moments.moments c.args.place no_moment in
    record {
      near = omega arith;
      run = subst (λ (ps : List ℕ). RunLike script m ps m) (sym (ap reverse c.new-picks.ensures.items)) (record { end = m; follows = refl; like = like_refl script m });
    }

pub loop-taken-preserved : goal.loop-taken-preserved
loop-taken-preserved c =
    let script = c.args.script.now in
    let moments = c.args.self.now.moments.moments in
    let ways = c.requires.searched.ways in
    let steps = c.args.self.now.tree.steps.items in
    let at = c.loop-taken.at in
    let picks = c.loop-taken.picks.items in
    let taken = c.index-step.result.now in
    let m = get_or moments c.args.place no_moment in
    let below : at < length moments = omega (arith, c.loop-taken.invariant.near, c.requires.there) in
    let some : 0 < at = omega (arith, c.if-at-eq0.false) in
    let same : taken ≡ get_or steps at no_step = c.index-step.ensures ∙ get_or_default steps at taken no_step (omega (arith, below, ways.len)) in
    let is : IsStep script moments at taken = subst (λ (s : Step). IsStep script moments at s) (sym same) (ways.made at some below) in
    let turned : reverse c.push.new.self.items ≡ taken.thread ∷ reverse picks = ap reverse c.in_ok-push.ensures.items ∙ reverse-append picks (taken.thread ∷ []) in
    record {
      near = omega (arith, is.earlier, c.loop-taken.invariant.near);
      run = subst (λ (ps : List ℕ). RunLike script (get_or moments taken.from no_moment) ps m) (sym turned) (way_on script moments at taken (reverse picks) m is c.loop-taken.invariant.run);
    }

pub returns : goal.returns
returns c =
    let script = c.args.script.now in
    let moments = c.args.self.now.moments.moments in
    let picks = c.loop-taken.picks.items in
    let m = get_or moments c.args.place no_moment in
    let run = c.loop-taken.invariant.run in
    let start : c.loop-taken.at ≡ 0 = elim c.loop-taken-test.branch [
      | else-loop-taken-test w ↦ omega (arith, w.loop-taken-test.false, c.loop-taken.invariant.near)
      | then-loop-taken-test+then-at-eq0 w ↦ w.if-at-eq0.true
    ] in
    subst (λ (ps : List ℕ). IsLedTo script ps m) (sym (c.from_vec.ensures ∙ c.reverse.ensures.items)) (record {
      last = run.end;
      follows = subst (λ (k : Moment). Follows script k (reverse picks) run.end) (ap (λ (n : ℕ). get_or moments n no_moment) start ∙ c.requires.searched.ways.first) run.follows;
      like = like_sym script m run.end run.like;
    })
