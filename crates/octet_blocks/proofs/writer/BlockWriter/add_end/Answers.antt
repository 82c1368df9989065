use Rattle.std.proofs.Common.{◌≡◌, ◌∙◌, [], IfOk, Ok, subst, refl, arith}
use Rattle.std.proofs.lemmas.Grind.{common_steps}
use Rattle.octet_marks.specs.declared.piece.Piece.TheVariants as pieces
use Rattle.octet_marks.specs.Reading.{piece_bytes}
use Rattle.octet_blocks.proofs.Written.{gathers_end}
use Rattle.octet_blocks.proofs.writer.BlockWriter.add_end.Goals as goal

pub returns-clause-gathers : goal.returns-clause-gathers
returns-clause-gathers c =
    let was : c.end.result ≡ Ok c.in_ok-self.field-0 = c.in_ok-self.was in
    let told : c.in_ok-self.field-0.items ≡ piece_bytes (pieces.End (record { thread = c.thread.result; events = c.args.self.now.events })) =
    subst (λ r. IfOk r (λ b. b.items ≡ piece_bytes (pieces.End (record { thread = c.thread.result; events = c.args.self.now.events })))) was c.end.ensures in
    let bytes : c.in_ok-self.field-0.items ≡ piece_bytes (pieces.End (record { thread = c.args.self.now.receiver.thread; events = c.args.self.now.events })) =
    told ∙ (λ i. piece_bytes (pieces.End (record { thread = c.thread.ensures i; events = c.args.self.now.events }))) in
    let none : c.args.self.now.marks.items ≡ [] = grind (arith, common_steps) in
    gathers_end c.args.self.now _ c.requires.held c.requires.none c.requires.goes_on refl none none refl refl refl bytes
