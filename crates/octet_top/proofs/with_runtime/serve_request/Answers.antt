use denote.Ref.{Bor}
use Rattle.std.proofs.Common.{ℕ, List, Some, sym, subst}
use Rattle.octet_commands.specs.declared.request.Way.{Way}
use Rattle.octet_commands.specs.declared.request.Request.{Request}
use Rattle.octet_commands.specs.declared.request.Request.TheVariants.{Run}
use Rattle.octet_commands.specs.Request.{shown}
use Rattle.octet_commands.specs.Answer.{given_reply}
use Rattle.octet_top.specs.Serving.{IsServed}
use Rattle.octet_commands.proofs.lemmas.Found.{generated_reply}
use Rattle.octet_top.proofs.with_runtime.serve_request.Goals as goal

pub returns-in-AsTheyCome : goal.returns-in-AsTheyCome
returns-in-AsTheyCome g c =
    let state = g.D.Desk.state in
    let before = state c.args.desk.now in
    let after = state c.serve_live.new.desk in
    subst (λ (request : Request (Bor (List ℕ))). IsServed (Some (shown request)) before after c.serve_live.result) (sym c.in-Run.is)
    (subst (λ (way : Way (Bor (List ℕ))). IsServed (Some (shown (Run way c.in-Run.script c.in-Run.log))) before after c.serve_live.result) (sym c.in-AsTheyCome.is) c.serve_live.ensures)

pub returns-in-Gen : goal.returns-in-Gen
returns-in-Gen g c =
    let state = g.D.Desk.state in
    subst (λ (request : Request (Bor (List ℕ))). IsServed (Some (shown request)) (state c.args.desk.now) (state c.deliver-in-Gen.new.desk) c.deliver-in-Gen.result) (sym c.in-Gen.is)
    (record {
      mid = state c.args.desk.now;
      reply = given_reply c.generate-reply.result;
      found = generated_reply c.in-Gen.number c.in-Gen.script.now c.in-Gen.log.now (state c.args.desk.now) c.generate-reply.result c.generate-reply.ensures;
      given = c.deliver-in-Gen.ensures;
    })

pub returns-in-Marks : goal.returns-in-Marks
returns-in-Marks g c =
    let state = g.D.Desk.state in
    subst (λ (request : Request (Bor (List ℕ))). IsServed (Some (shown request)) (state c.args.desk.now) (state c.serve_marks.new.desk) c.serve_marks.result) (sym c.in-Marks.is) c.serve_marks.ensures
