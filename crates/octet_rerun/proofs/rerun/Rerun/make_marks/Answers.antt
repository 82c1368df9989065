use Rattle.std.proofs.Common.{rules, ◌≡◌, ◌∙◌, ◌++◌, ◌∷◌, []}
use Rattle.octet_model.specs.declared.event.Event.TheVariants.{Marked}
use Rattle.octet_rerun.specs.Reruns.{made_by}
use Rattle.octet_rerun.proofs.Followers.{more_marks}
use Rattle.octet_rerun.proofs.rerun.Rerun.make_marks.Goals as goal

pub loop-mark-preserved : goal.loop-mark-preserved
loop-mark-preserved c =
    let p = c.loop-mark.follower in let q = c.make.new.follower in
    let made : made_by q ≡ made_by p ++ Marked c.in-Some-Marked.mark ∷ [] = c.in_default-make.ensures.made (search rules) in record {
      own = c.in_default-make.ensures.own;
      thread = c.in_default-make.ensures.thread ∙ c.loop-mark.invariant.thread;
      marks = more_marks c.args.follower.now p q c.in-Some-Marked.mark c.loop-mark.invariant.marks made;
    }
