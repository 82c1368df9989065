use Rattle.std.proofs.Common.{rules, ◌≡◌, ◌+◌, ◌-◌, ◌/◌, ◌∙◌, ℕ, arith, ap, sym, refl, subst}
use Rattle.octet_state.specs.State.{Thread}
use Rattle.octet_state.specs.Steps.{ToLoad, drawn_of, loaded, moved}
use Rattle.octet_state.specs.Table.{decided}
use Rattle.octet_rule.specs.Views.{SeatView}
use Rattle.octet_rule.specs.Rule.{Steps}
use Rattle.octet_rule.proofs.Acting.{loads}
use Rattle.octet_rule.proofs.Known.{is_packed, is_not_mine, load_moves, few_after}
use Rattle.octet_rule.proofs.MadeAtOnce.{at_once, waits_on, both_move, both_grow, same_of}
use Rattle.octet_rule.proofs.words.Words.enter.Goals as goal

pub load_by_mode-word-requires-clause-allowed : goal.load_by_mode-word-requires-clause-allowed
load_by_mode-word-requires-clause-allowed c = loads _ _ _ _ _ (search rules) _ c.args.object c.args.mode.now c.requires.can.owes_nothing c.requires.phase (search rules) (search rules) (search rules)

pub state_in-state-requires-clause-packed : goal.state_in-state-requires-clause-packed
state_in-state-requires-clause-packed c = is_packed _ _ _ _ _ c.load_by_mode-word.ensures.step.1

pub decide-act-requires : goal.decide-act-requires
decide-act-requires c = let h = is_not_mine _ _ _ _ _ c.load_by_mode-word.ensures.step.1 in let e = c.state_in-state.ensures.state in search rules

pub invariant_of-seat : goal.invariant_of-seat
invariant_of-seat c = let took = c.load_by_mode-word.ensures.step.1 in let access = c.pass_by_mode-told.ensures.step in let seat = c.args.seat.now in
    let v : SeatView = seat.inner.me.0 in let u : SeatView = c.load_by_mode-word.new.inner.me.0 in let w : SeatView = c.pass_by_mode-told.new.inner.me.0 in
    let there : c.state_place-place.result / 8 - (1 + v.threads) ≡ c.args.object = search rules in
    let first : Steps (ToLoad c.args.object c.args.mode.now) v c.load_by_mode-word.result u = subst (λ (o : ℕ). Steps (ToLoad o c.args.mode.now) v c.load_by_mode-word.result u) there took in
    let says : c.decide-act.result ≡ decided c.state_in-state.result v.number c.args.mode.now v.thread.count = search rules in
    let is : w.thread ≡ moved _ _ v.thread = both_move c.args.object c.args.mode.now c.args.value v _ u c.state_in-state.result c.decide-act.result first c.state_in-state.ensures.state says _ w c.in-Pass.is access in
    let more = both_grow c.args.object c.args.mode.now c.args.value v _ u c.state_in-state.result c.decide-act.result first c.state_in-state.ensures.state says _ w access in
    let few = few_after _ _ _ _ access in
    let number : w.number ≡ v.number = same_of (λ (x : SeatView). x.number) (λ k told x. refl) _ _ v u w _ _ first access in
    let threads : w.threads ≡ v.threads = same_of (λ (x : SeatView). x.threads) (λ k told x. refl) _ _ v u w _ _ first access in
    let live : w.is_live ≡ v.is_live = same_of (λ (x : SeatView). x.is_live) (λ k told x. refl) _ _ v u w _ _ first access in record {
      bare = c.pass_by_mode-told.ensures.own.2 ∙ (c.load_by_mode-word.ensures.step.0 ∙ seat.bare);
      live = live ∙ seat.live;
      numbered = number ∙ seat.numbered;
      phased = ap (λ (x : Thread). x.phase) is ∙ sym c.become_idle.ensures;
      owes = ap (λ (x : Thread). x.due) is ∙ (sym c.requires.can.owes_nothing ∙ seat.owes);
      knows = ap (λ (x : Thread). x.count) is ∙ seat.knows;
      has_made = more ∙ ap (λ (n : ℕ). n + 1) seat.has_made;
      few = (let has = seat.has_made in omega arith, let t = seat.few.1 in omega arith, let t = seat.few.2 in omega arith);
      fits = let none : drawn_of c.become_idle.new.phase ≡ 0 = ap drawn_of c.become_idle.ensures in omega arith;
    }

pub returns-in-Pass-clause-steps : goal.returns-in-Pass-clause-steps
returns-in-Pass-clause-steps c = let took = c.load_by_mode-word.ensures.step.1 in
    let v : SeatView = c.args.seat.now.inner.me.0 in let u : SeatView = c.load_by_mode-word.new.inner.me.0 in let w : SeatView = c.pass_by_mode-told.new.inner.me.0 in
    let there : c.state_place-place.result / 8 - (1 + v.threads) ≡ c.args.object = search rules in
    let first : Steps (ToLoad c.args.object c.args.mode.now) v c.load_by_mode-word.result u = subst (λ (o : ℕ). Steps (ToLoad o c.args.mode.now) v c.load_by_mode-word.result u) there took in
    let says : c.decide-act.result ≡ decided c.state_in-state.result v.number c.args.mode.now v.thread.count = search rules in
    at_once c.args.object c.args.mode.now c.args.value v _ u c.state_in-state.result c.decide-act.result first c.state_in-state.ensures.state says _ w c.in-Pass.is c.pass_by_mode-told.ensures.step

pub invariant_of-seat-2 : goal.invariant_of-seat-2
invariant_of-seat-2 c = let took = c.load_by_mode-word.ensures.step.1 in
    let v : SeatView = c.args.seat.now.inner.me.0 in let w : SeatView = c.load_by_mode-word.new.inner.me.0 in
    let there : c.state_place-place.result / 8 - (1 + v.threads) ≡ c.args.object = search rules in
    let moves : w.thread ≡ loaded c.decide-act.result c.args.object c.args.mode.now c.state_in-state.result v.thread =
    load_moves c.args.object c.args.mode.now v c.load_by_mode-word.result w c.state_in-state.result c.decide-act.result
    (subst (λ (o : ℕ). Steps (ToLoad o c.args.mode.now) v c.load_by_mode-word.result w) there took) c.state_in-state.ensures.state (search rules) in
    let is : w.thread ≡ moved c.after_load-phase.result.0 c.after_load-phase.result.1 v.thread = moves ∙ c.after_load-phase.ensures.step v.thread in search rules

pub returns-clause-steps : goal.returns-clause-steps
returns-clause-steps c = let took = c.load_by_mode-word.ensures.step.1 in
    let v : SeatView = c.args.seat.now.inner.me.0 in let u : SeatView = c.load_by_mode-word.new.inner.me.0 in
    let there : c.state_place-place.result / 8 - (1 + v.threads) ≡ c.args.object = search rules in
    let first : Steps (ToLoad c.args.object c.args.mode.now) v c.load_by_mode-word.result u = subst (λ (o : ℕ). Steps (ToLoad o c.args.mode.now) v c.load_by_mode-word.result u) there took in
    let says : c.decide-act.result ≡ decided c.state_in-state.result v.number c.args.mode.now v.thread.count = search rules in
    waits_on c.args.object c.args.mode.now c.args.value v _ u c.state_in-state.result c.decide-act.result first c.state_in-state.ensures.state says c.state_in-state.ensures.back c.in_default.not-Pass
