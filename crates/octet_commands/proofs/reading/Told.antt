-- What the last reply of `marks` says.
use Rattle.std.proofs.Common.{◌≡◌, ◌∙◌, List, ℕ, true, Result, Ok, Err, IfOk, inl, inr, ap, subst}
use Rattle.octet_base.specs.Desk.{DeskState, Says}
use Rattle.octet_model.specs.declared.list.OutOfMemory.{OutOfMemory}
use Rattle.octet_marks.specs.declared.piece.Piece.{Piece}
use Rattle.octet_marks.specs.Files.{Unread}
use Rattle.octet_commands.specs.declared.reply.Reply.{Reply}
use Rattle.octet_commands.specs.declared.reply.Status.TheVariants.{Log}
use Rattle.octet_commands.specs.Answer.{Answer, answer_of, says}
use Rattle.octet_commands.specs.Delivery.{code_given}
use Rattle.octet_commands.specs.Marks.{ReadsTo, AreLines, IsReplySaid, IsLastSaid, EndsAfter}

-- the reply has an answer
pub reply_last : (reply : Reply) (answer : Answer) (before after : DeskState) (code : ℕ) → answer_of reply ≡ answer → IsReplySaid (Ok reply) before after code → IsLastSaid answer before after code
reply_last reply answer before after code is (made, speaks, code-is) =
    inl (made, subst (λ (a : Answer). Says a.text before made after) is speaks, subst (λ (a : Answer). code ≡ code_given a.status made) is code-is)

-- or there was no memory for it
pub last_of : (made : Result Reply OutOfMemory) (answer : Answer) (before after : DeskState) (code : ℕ) → IfOk made (λ reply. answer_of reply ≡ answer) → IsReplySaid made before after code → IsLastSaid answer before after code
last_of (Ok reply) answer before after code is said = reply_last reply answer before after code is said
last_of (Err lacking) answer before after code is said = inr said

-- it says why what comes next is refused
pub refused_told : (start stands : Unread) (text : List ℕ) (reply : Reply) (before after : DeskState) (code : ℕ) → AreLines start stands text true → answer_of reply ≡ says Log text → IsReplySaid (Ok reply) before after code
    → (pieces : List Piece) × (last : Unread) × ReadsTo start pieces last × EndsAfter pieces last before after code
refused_told start stands text reply before after code (pieces, reads, (cause, bad, is)) answers said =
    (pieces, stands, reads, inl (cause, bad, reply_last reply _ before after code (answers ∙ ap (says Log) is) said))
