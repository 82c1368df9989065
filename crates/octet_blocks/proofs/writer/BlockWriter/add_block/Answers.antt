use Rattle.std.proofs.Common.{◌≡◌, ◌∙◌, ◌+◌, ◌^◌, ◌<◌, length, sum_by, IfOk, Ok, subst, refl, arith}
use Rattle.std.specs.List.{AllByRecursion}
use Rattle.std.proofs.lemmas.Grind.{common_steps}
use Rattle.octet_marks.specs.declared.piece.Piece.TheVariants as pieces
use Rattle.octet_marks.specs.Reading.{piece_bytes}
use Rattle.octet_blocks.specs.Writing.{Fits}
use Rattle.octet_blocks.proofs.Written.{gathers_block}
use Rattle.octet_blocks.proofs.writer.BlockWriter.add_block.Goals as goal

pub returns-clause-gathers : goal.returns-clause-gathers
returns-clause-gathers c =
    let a = c.args.self.now in
    let was : c.block.result ≡ Ok c.in_ok-self.field-0 = c.in_ok-self.was in
    let told : c.in_ok-self.field-0.items ≡ piece_bytes (pieces.Block (record { thread = c.thread-thread.result; first = c.args.self.now.events; marks = c.as_slice-marks.result.now; gap = c.args.gap; digest = c.args.digest })) =
    subst (λ r. IfOk r (λ b. b.items ≡ piece_bytes (pieces.Block (record { thread = c.thread-thread.result; first = c.args.self.now.events; marks = c.as_slice-marks.result.now; gap = c.args.gap; digest = c.args.digest })))) was c.block.ensures in
    let bytes : c.in_ok-self.field-0.items ≡ piece_bytes (pieces.Block (record { thread = c.args.self.now.receiver.thread; first = c.args.self.now.events; marks = c.args.self.now.marks.items; gap = c.args.gap; digest = c.args.digest })) =
    told ∙ (λ i. piece_bytes (pieces.Block (record { thread = c.thread-thread.ensures i; first = c.args.self.now.events; marks = c.as_slice-marks.ensures.value i; gap = c.args.gap; digest = c.args.digest }))) in
    let events : c.in-Some.events ≡ c.args.self.now.events + (sum_by (λ m. m.gap) c.args.self.now.marks.items + c.args.gap + length c.args.self.now.marks.items) = grind (arith, common_steps) in
    let fits : Fits (record { thread = c.args.self.now.receiver.thread; first = c.args.self.now.events; marks = c.args.self.now.marks.items; gap = c.args.gap; digest = c.args.digest }) = record {
      gap = grind arith;
      digest = grind arith;
      events = grind (arith, common_steps);
      gaps = subst (AllByRecursion (λ m. m.gap < 2 ^ 32)) c.as_slice-marks.ensures.value c.gaps_of.ensures.fit;
      few = grind (arith, common_steps);
    } in
    gathers_block c.args.self.now _ c.args.gap c.args.digest c.requires.held c.requires.none c.requires.goes_on refl c.clear.ensures.items refl events refl bytes fits
