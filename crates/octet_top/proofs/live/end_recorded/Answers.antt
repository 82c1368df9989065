use Rattle.std.proofs.Common.{◌≡◌, ◌∙◌, ℕ, List, [], ◌∷◌, subst}
use Rattle.octet_model.specs.Texts.{outcome_text}
use Rattle.octet_log.specs.v2.Pieces.{tail_bytes}
use Rattle.octet_commands.specs.declared.request.Way.TheVariants.{AsTheyCome}
use Rattle.octet_commands.specs.Delivery.{Add, Finish, Say}
use Rattle.octet_base.specs.Desk.{Says}
use Rattle.octet_top.proofs.writing.LiveMade.{some_then, one_some}
use Rattle.octet_commands.proofs.lemmas.Recorded.{recorded_whole}
use Rattle.octet_top.proofs.live.end_recorded.Goals as goal

pub outcome_text-requires-clause-ends : goal.outcome_text-requires-clause-ends
outcome_text-requires-clause-ends g c = (recorded_whole AsTheyCome c.args.script.now c.args.recorded.now.log c.args.recorded.now.outcome c.requires.faithful).ends

pub outcome_text-requires-clause-reads : goal.outcome_text-requires-clause-reads
outcome_text-requires-clause-reads g c = (recorded_whole AsTheyCome c.args.script.now c.args.recorded.now.log c.args.recorded.now.outcome c.requires.faithful).reads

pub outcome_text-requires-clause-heap : goal.outcome_text-requires-clause-heap
outcome_text-requires-clause-heap g c = (recorded_whole AsTheyCome c.args.script.now c.args.recorded.now.log c.args.recorded.now.outcome c.requires.faithful).heap

pub returns : goal.returns
returns g c =
    let state = g.D.Desk.state in
    let text : c.as_slice.result.now ≡ outcome_text c.args.script.now c.args.recorded.now.outcome = c.as_slice.ensures.value ∙ c.in-Ok.ensures in
    let says = subst (λ (bytes : List ℕ). Says bytes (state c.finish.new.self) c.say.result (state c.say.new.self)) text c.say.ensures in
    some_then (Add (tail_bytes c.args.recorded.now.log.threads) ∷ []) (Finish ∷ Say (outcome_text c.args.script.now c.args.recorded.now.outcome) ∷ []) (state c.args.desk.now) (state c.add_tail.new.desk) (state c.say.new.self) c.say.result c.in_default.ensures.added
    (some_then (Finish ∷ []) (Say (outcome_text c.args.script.now c.args.recorded.now.outcome) ∷ []) (state c.add_tail.new.desk) (state c.finish.new.self) (state c.say.new.self) c.say.result
    (one_some Finish _ _ _ c.in_default-finish.ensures) (one_some (Say (outcome_text c.args.script.now c.args.recorded.now.outcome)) _ _ _ says))
