use Rattle.std.proofs.Common.{arith, ◌≡◌, ◌∙◌, ◌<◌, length, take, drop, min, Err, ap}
use Rattle.octet_commands.proofs.writing.Made.{piece_refused, piece_made, finish_made}
use Rattle.octet_commands.proofs.giving.write_file.Goals as goal

pub loop-rest-preserved : goal.loop-rest-preserved
loop-rest-preserved g c =
    let rest = c.loop-rest.rest.now in
    let piece = c.split_at.result.0.now in
    let more : 0 < length rest = grind (arith, c.loop-rest-test.true, c.is_empty.ensures) in
    let front : piece ≡ take (min 65536 (length rest)) rest = c.split_at.ensures.front ∙ ap (λ n. take n rest) c.min.ensures in
    let back : c.split_at.result.1.now ≡ drop (min 65536 (length rest)) rest = c.split_at.ensures.back ∙ ap (λ n. drop n rest) c.min.ensures in
    record {
      whole = λ end result makes. c.loop-rest.invariant.whole end result (piece_made rest piece more front c.split_at.result.1.now _ _ end result back c.in-Ok.ensures makes);
      begun = c.in-Ok.ensures.begun ∙ c.loop-rest.invariant.begun;
    }

pub returns-in-Err-clause-made : goal.returns-in-Err-clause-made
returns-in-Err-clause-made g c =
    let rest = c.loop-rest.rest.now in
    let piece = c.split_at.result.0.now in
    let more : 0 < length rest = grind (arith, c.loop-rest-test.true, c.is_empty.ensures) in
    let front : piece ≡ take (min 65536 (length rest)) rest = c.split_at.ensures.front ∙ ap (λ n. take n rest) c.min.ensures in
    c.loop-rest.invariant.whole (g.D.Desk.state c.add.new.self) (Err c.in-Err.fault) (piece_refused rest piece more front _ _ c.in-Err.fault c.in-Err.ensures)

pub returns-clause-made : goal.returns-clause-made
returns-clause-made g c =
    let rest = c.loop-rest.rest.now in
    let none : length rest ≡ 0 = grind (arith, c.loop-rest-test.false, c.is_empty.ensures) in
    c.loop-rest.invariant.whole (g.D.Desk.state c.finish.new.self) c.finish.result (finish_made rest _ _ c.finish.result none c.finish.ensures)
