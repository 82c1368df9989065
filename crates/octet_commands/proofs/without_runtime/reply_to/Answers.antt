use denote.Ref.{Bor}
use Rattle.std.proofs.Common.{ℕ, List, sym, subst}
use Rattle.octet_commands.specs.declared.request.Request.{Request}
use Rattle.octet_commands.specs.Answer.{given_reply}
use Rattle.octet_commands.specs.Request.{shown, if_alone}
use Rattle.octet_commands.specs.Replies.{Replies}
use Rattle.octet_commands.proofs.without_runtime.reply_to.Goals as goal

pub returns-in-OfPair : goal.returns-in-OfPair
returns-in-OfPair g c =
    let state = g.D.Desk.state in
    subst (λ (request : Request (Bor (List ℕ))). Replies (if_alone (shown request)) (state c.args.desk.now) (given_reply c.of_pair.result) (state c.of_pair.new.desk)) (sym c.in-OfPair.is) c.of_pair.ensures

pub returns-in-Convert : goal.returns-in-Convert
returns-in-Convert g c =
    let state = g.D.Desk.state in
    subst (λ (request : Request (Bor (List ℕ))). Replies (if_alone (shown request)) (state c.args.desk.now) (given_reply c.of_conversion.result) (state c.of_conversion.new.desk)) (sym c.in-Convert.is) c.of_conversion.ensures
