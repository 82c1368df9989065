use Rattle.std.proofs.Common.{◌-◌, ℕ, get_or, sym, subst, arith}
use Rattle.octet_window.specs.Noting.{IsEventIn}
use Rattle.octet_window.proofs.Played.{no_step}
use Rattle.octet_window.proofs.Values.{step_at}
use Rattle.octet_window.proofs.shown.shown_before.Goals as goal

pub show-requires : goal.show-requires
show-requires c =
    let steps = c.args.steps.now in
    let k = c.loop-place.place - 1 in
    let at = step_at steps k c.args.objects c.requires.0 no_step (omega (arith, c.loop-place-test.true, c.loop-place.invariant.within)) c.requires.1 in
    subst (λ (n : ℕ). IsEventIn n (get_or steps k no_step).event) (sym c.loop-place.invariant.wide) at.1
