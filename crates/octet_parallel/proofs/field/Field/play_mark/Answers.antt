use Rattle.std.proofs.Common.{rules, ◌≡◌, ◌∙◌, inr, sym, ap, subst, ℕ, ◌++◌, ◌∷◌, []}
use Rattle.octet_model.specs.declared.event.Event.TheVariants.{Marked}
use Rattle.octet_model.specs.declared.log.Log.{Log}
use Rattle.octet_model.specs.Machine.{Next}
use Rattle.octet_parallel.specs.Needs.{Needs}
use Rattle.octet_parallel.specs.State.{stop_number}
use Rattle.octet_parallel.specs.Steps.{ToLook, event_next}
use Rattle.octet_parallel.specs.Views.{PlayerView}
use Rattle.octet_parallel.specs.Rule.{Steps}
use Rattle.octet_parallel.proofs.steps.Needing.{whom_within, has_found}
use Rattle.octet_parallel.proofs.field.Field.play_mark.Goals as goal

pub look-found-requires-clause-whom : goal.look-found-requires-clause-whom
look-found-requires-clause-whom c = whom_within _ _ c.requires.own c.args.mark c.requires.next c.in-Some.needed.whom c.in-Some.needed.events (search rules)

pub returns-then-found-clause-step : goal.returns-then-found-clause-step
returns-then-found-clause-step c = record {
  mark = c.args.mark;
  is_next = c.requires.next;
  needs = c.in-Some.needed.events;
  needed = subst (λ (l : Log). Needs l.threads c.args.mark c.in-Some.needed.whom c.in-Some.needed.events) (sym c.requires.own.own.0.2) c.in-Some.ensures.0;
  other = λ same. c.in-Some.ensures.1 (same ∙ c.requires.own.number);
  between = c.look-found.new.player.seat.inner.me.0;
  look = let e : c.look-found.result ≡ stop_number = search rules in
      subst (λ (n : ℕ). Steps (ToLook c.in-Some.needed.whom) c.args.player.now.seat.inner.me.0 n c.look-found.new.player.seat.inner.me.0) e c.look-found.ensures.step;
  stop = c.stop.ensures.step;
}

pub make_mark-requires-2-clause-found : goal.make_mark-requires-2-clause-found
make_mark-requires-2-clause-found c =
    has_found c.args.player.now.seat.inner.me.0 c.args.mark c.in-Some.needed c.look-found.result c.look-found.new.player.seat.inner.me.0 c.look-found.ensures.step
    (λ whom events needs. c.in-Some.ensures.2 whom events (subst (λ (l : Log). Needs l.threads c.args.mark whom events) c.requires.own.own.0.2 needs)) (search rules) (search rules)

pub returns-clause-step : goal.returns-clause-step
returns-clause-step c =
    let look = c.look-found.ensures.step in let made = c.make_mark-2.ensures.made in record {
      event = Marked c.args.mark;
      value = 0;
      is_next = ap (λ (n : Next). event_next n 0) c.requires.next;
      journal = made.journal ∙ ap (λ (x : PlayerView). x.player.journal ++ Marked c.args.mark ∷ []) look.moves;
      steps = inr (inr (record {
        mark = c.args.mark;
        is_next = c.requires.next;
        whom = c.in-Some.needed.whom;
        needs = c.in-Some.needed.events;
        needed = subst (λ (l : Log). Needs l.threads c.args.mark c.in-Some.needed.whom c.in-Some.needed.events) (sym c.requires.own.own.0.2) c.in-Some.ensures.0;
        other = λ same. c.in-Some.ensures.1 (same ∙ c.requires.own.number);
        found = c.look-found.result;
        between = c.look-found.new.player.seat.inner.me.0;
        look = look;
        enough = search rules;
        no_stop = search rules;
        events = made.events;
        advance = made.advance;
      }));
    }
