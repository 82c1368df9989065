-- An access that is ready was made.
use Rattle.std.proofs.Common.{◌≡◌, ◌∙◌, ℕ, ℤ, OnOk, sym}
use Rattle.std.specs.declared.convert.Infallible.{Infallible}
use Rattle.octet_stream.specs.declared.long_run.Full.{Full}
use Rattle.octet_host.specs.Calls.{made_of}
use Rattle.octet_host.specs.declared.answer.Answer.{Answer}
use Rattle.octet_host.specs.declared.answer.Answer.TheVariants as answer
use Rattle.octet_host.specs.declared.misuse.Misuse.{Misuse}
use Rattle.octet_host.specs.declared.misuse.Misuse.TheVariants as misuse
use Rattle.octet_c.specs.declared.status.TheConstants as status
use Rattle.octet_c.specs.Statuses.{status_of, Tells, NeverHalts, IsSpent}

not_refused : (why : Misuse) → status_of why ≡ status.READY → ⊥
not_refused misuse.Resting same = absurd cc
not_refused misuse.Running same = absurd cc
not_refused misuse.Begun same = absurd cc
not_refused misuse.NotBegun same = absurd cc
not_refused misuse.NoSuchObject same = absurd cc
not_refused misuse.Spent same = absurd cc

not_pending : status.PENDING ≡ status.READY → ⊥
not_pending same = absurd cc

not_spent : status.SPENT ≡ status.READY → ⊥
not_spent same = absurd cc

module _ (Has : Type 0) where
  -- one of a thread of a script
  pub made_recorded : (given : Answer Infallible) (said : ℤ) (before out : ℕ) → Tells NeverHalts given said before out → OnOk (made_of given) Has → said ≡ status.READY → Has
  made_recorded (answer.Ready value) said before out tells made ready = made
  made_recorded answer.Pending said before out tells made ready = absurd (not_pending (sym tells.0 ∙ ready))
  made_recorded (answer.Refused why) said before out tells made ready = absurd (not_refused why (sym tells.0 ∙ ready))
  made_recorded (answer.Left halt) said before out tells made ready = absurd tells

  -- and of one of any length
  pub made_long : (given : Answer Full) (said : ℤ) (before out : ℕ) → Tells IsSpent given said before out → OnOk (made_of given) Has → said ≡ status.READY → Has
  made_long (answer.Ready value) said before out tells made ready = made
  made_long answer.Pending said before out tells made ready = absurd (not_pending (sym tells.0 ∙ ready))
  made_long (answer.Refused why) said before out tells made ready = absurd (not_refused why (sym tells.0 ∙ ready))
  made_long (answer.Left halt) said before out tells made ready = absurd (not_spent (sym tells.0 ∙ ready))
