use Rattle.std.proofs.Common.{List, ℕ, ◌++◌, ◌∷◌, [], OnOk, sym, subst}
use Rattle.octet_marks.specs.declared.piece.Piece.{Piece}
use Rattle.octet_tail.specs.Between.{HaveNoted}
use Rattle.octet_tail.proofs.Noted.{noted_head, noted_end}
use Rattle.octet_tail.proofs.finders.Finders.note.Goals as goal

pub returns-in-Block-clause-noted : goal.returns-in-Block-clause-noted
returns-in-Block-clause-noted c =
    subst (λ (p : Piece). OnOk c.note_block.result ((made : List ℕ) (last : ℕ) (all : List Piece) → HaveNoted made last all c.args.self.now → HaveNoted made last (all ++ p ∷ []) c.note_block.new.self)) (sym c.in-Block.is)
    c.note_block.ensures.noted

pub returns-in-Head-clause-noted : goal.returns-in-Head-clause-noted
returns-in-Head-clause-noted c = λ made last all had. noted_head made last all c.args.piece.now c.in-Head._head c.args.self.now c.in-Head.is had

pub returns-in-End-clause-noted : goal.returns-in-End-clause-noted
returns-in-End-clause-noted c = λ made last all had. noted_end made last all c.args.piece.now c.in-End._end c.args.self.now c.in-End.is had
