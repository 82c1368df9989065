-- What tellers do.
use Rattle.std.specs.Prelude.{◌≡◌, ℕ, ◌*◌, ◌≤◌, List, [], ◌∷◌, ◌++◌, map, length, Option, None}
use Rattle.octet_model.specs.declared.event.Event.{Event}
use Rattle.octet_model.specs.declared.event.Event.TheVariants.{Read, Write, Marked}
use Rattle.octet_model.specs.declared.event.Mark.{Mark}
use Rattle.octet_model.specs.declared.log.ThreadLog.{ThreadLog}
use Rattle.octet_model.specs.declared.script.Script.{Script}
use Rattle.octet_model.specs.Journals.{log_of}
use Rattle.octet_model.specs.Thread.{added}
use Rattle.octet_recorder.specs.declared.access.Access.{Access}
use Rattle.octet_recorder.specs.declared.track.TheConstants.{LINES_OF_ACCESS}
use Rattle.octet_rerun.specs.declared.rerun.Rerun.{Rerun}
use Rattle.octet_rerun.specs.Reruns.{IsAtStart}
use Rattle.octet_session.specs.declared.not_made.NotMade.{NotMade}
use Rattle.octet_session.specs.declared.not_made.NotMade.TheVariants.{Left}
use Rattle.octet_session.specs.declared.second_thread.SecondThread.{SecondThread}
use Rattle.octet_bank.specs.declared.teller.TheConstants.{ACCOUNT}

-- marks as events
abbrev pub marked : List Mark → List Event
marked marks = map (λ mark. Marked mark) marks

-- a teller has read a balance and has written it back with the amount. Besides, it has made marks alone
pub record Pays (amount : ℕ) (before after : List Event) : Type 0 where
  pub balance : ℕ
  pub first : List Mark
  pub between : List Mark
  pub last : List Mark
  pub grown : after ≡ before ++ (marked first ++ Read ACCOUNT balance ∷ (marked between ++ Write ACCOUNT (added amount balance) ∷ marked last))

-- a log is that of two tellers who have paid these amounts, and done nothing else
pub record IsLogOfPayments (first second : ℕ) (log : List ThreadLog) : Type 0 where
  pub first_journal : List Event
  pub second_journal : List Event
  pub first_paid : Pays first [] first_journal
  pub second_paid : Pays second [] second_journal
  pub is : log ≡ log_of (first_journal ∷ second_journal ∷ [])

-- a thread has left its recording, for a reason of its session
pub record HasLeft {T H : Type 0} (IsReason : Option Access → T → T → NotMade H → Type 0) (after : T) (why : NotMade H) : Type 0 where
  pub halt : H
  pub left : why ≡ Left halt
  pub wanted : Option Access
  pub before : T
  pub reason : IsReason wanted before after why

-- the lines that a teller may take
abbrev pub lines_of_payment : ℕ
lines_of_payment = 2 * LINES_OF_ACCESS

-- a script of one account and two tellers, each with room for a payment
pub record IsOfBank (script : Script) : Type 0 where
  pub account : length script.objects ≡ 1
  pub tellers : length script.threads ≡ 2
  pub room : lines_of_payment ≤ script.fuel

-- a teller of a second run before it pays
pub record IsReady (rerun : Rerun) (thread : ℕ) (teller : SecondThread) : Type 0 where
  pub start : IsAtStart rerun thread teller.follower
  pub idle : teller.begun ≡ None
  pub room : lines_of_payment ≤ teller.left
