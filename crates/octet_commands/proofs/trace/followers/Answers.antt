use Rattle.std.proofs.Common.{◌∙◌, ℕ, List, [], length, slice_get, sym, ap, subst, arith, length-append}
use Rattle.octet_model.specs.declared.event.Event.{Event}
use Rattle.octet_model.proofs.lemmas.Fronts.{no_journal}
use Rattle.octet_interp.specs.Following.{FollowerState}
use Rattle.octet_replay.proofs.lemmas.Reading.{holds_pushed}
use Rattle.octet_commands.specs.Tracing.{IsFollowerOf}
use Rattle.octet_commands.proofs.trace.followers.Goals as goal

pub loop-thread-preserved : goal.loop-thread-preserved
loop-thread-preserved c =
    let script = c.args.script.now in
    let P : ℕ → FollowerState → Type 0 = λ t s. IsFollowerOf script t [] s in
    let new : P c.loop-thread.thread c.in_ok-new.field-0 = record { commands = c.in_ok-new.ensures.commands; follows = c.in_ok-new.ensures.follows } in
    record {
      as_many = omega (arith, ap (λ (xs : List FollowerState). length xs) c.in_ok-push.ensures.items, length-append {A = FollowerState}, c.loop-thread.invariant.as_many);
      each = λ t s at.
          holds_pushed P c.loop-thread.followers.items c.in_ok-new.field-0 c.loop-thread.invariant.each
          (subst (λ (n : ℕ). P n c.in_ok-new.field-0) (sym c.loop-thread.invariant.as_many) new)
          t s (ap (λ (xs : List FollowerState). slice_get xs t) (sym c.in_ok-push.ensures.items) ∙ at);
    }

pub returns : goal.returns
returns c = record {
  as_many = omega (arith, c.loop-thread.invariant.as_many, c.len-thread-end.ensures);
  each = λ t s at. subst (λ (j : List Event). IsFollowerOf c.args.script.now t j s) (sym (no_journal c.args.script.now.threads t)) (c.loop-thread.invariant.each t s at);
}
