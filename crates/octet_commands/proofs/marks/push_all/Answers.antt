use Rattle.std.proofs.Common.{Bool, ◌++◌, [], ◌∷◌, Ok, subst}
use Rattle.octet_marks.specs.Files.{unread_of}
use Rattle.octet_commands.specs.Marks.{AddsNext}
use Rattle.octet_commands.proofs.lemmas.Chains.{one_more, fewer_bytes, text_more}
use Rattle.octet_commands.proofs.marks.push_all.Goals as goal

pub pieces-smaller : goal.pieces-smaller
pieces-smaller c =
    let before = unread_of c.pieces.reader in
    let after = unread_of c.push_next.new.reader in
    let next = subst (λ (b : Bool). AddsNext before after c.pieces.text.items c.push_next.new.text.items (Ok b)) c.if-branch.true c.in_ok-push_next.ensures in
    fewer_bytes before after next.0 next.1

pub pieces-preserved : goal.pieces-preserved
pieces-preserved c =
    let before = unread_of c.pieces.reader in
    let after = unread_of c.push_next.new.reader in
    let next = subst (λ (b : Bool). AddsNext before after c.pieces.text.items c.push_next.new.text.items (Ok b)) c.if-branch.true c.in_ok-push_next.ensures in
    let so_far = c.pieces.invariant in (
      so_far.0 ++ next.0 ∷ [],
      one_more so_far.0 (unread_of c.args.reader.now) before after next.0 so_far.1 next.1,
      text_more so_far.0 next.0 c.args.text.now.items c.pieces.text.items c.push_next.new.text.items so_far.2 next.2,
    )
