-- What the program leaves.
use Rattle.std.specs.Prelude.{◌≡◌, ℕ, ◌+◌, List, ◌++◌, Option, IsSomeAnd, IfSome, codes, get_or}
use Rattle.std.specs.Fmt.{decimal}
use Rattle.std.specs.FinMap.{insert}
use Rattle.octet_base.specs.Desk.{Contents}
use Rattle.octet_model.specs.declared.outcome.Outcome.{Outcome}
use Rattle.octet_model.specs.declared.log.Log.{Log}
use Rattle.octet_model.specs.declared.script.Script.{Script}
use Rattle.octet_model.specs.Orders.{IsFaithful}
use Rattle.octet_script.specs.Spelling.{canonical_text}
use Rattle.octet_model.specs.Texts.{log_bytes}
use Rattle.octet_bank.specs.declared.bank.TheConstants.{START}
use Rattle.octet_bank.specs.declared.teller.TheConstants.{ACCOUNT}
use Rattle.octet_bank.specs.Tellers.{IsLogOfPayments}

-- a desk that tells its contents has this file besides those before, and has said no more
abbrev pub Saves : List ℕ → List ℕ → Option Contents → Option Contents → Type 0
Saves name bytes before after = IfSome before (λ b. IsSomeAnd after (λ a. (a.files ≡ insert b.files name bytes) × (a.said ≡ b.said)))

-- the balance after a run
abbrev pub balance_of : Outcome → ℕ
balance_of outcome = get_or outcome.heap ACCOUNT 0

-- the line of a balance, after a word on whose it is
abbrev pub balance_line : List ℕ → ℕ → ℕ → List ℕ
balance_line whose balance total = whose ++ (codes "balance " ++ (decimal balance ++ (codes " of " ++ (decimal total ++ codes "\n"))))

-- a desk that tells its contents has said this besides, and has the same files
abbrev pub Tells : List ℕ → Option Contents → Option Contents → Type 0
Tells line before after = IfSome before (λ b. IsSomeAnd after (λ a. (a.files ≡ b.files) × (a.said ≡ b.said ++ line)))

-- both tellers have paid, and paid again: the files are the script and the log of a faithful recording, and the balance that it left is
-- said of both runs, beside the one at which no payment is lost
pub record Serves (before after : Contents) : Type 0 where
  pub script : Script
  pub log : Log
  pub outcome : Outcome
  pub first : ℕ
  pub second : ℕ
  pub total : ℕ
  pub sum : total ≡ START + first + second
  pub paid : IsLogOfPayments first second log.threads
  pub faithful : IsFaithful script log.threads outcome
  pub files : after.files ≡ insert (insert before.files (codes "bank.octet") (canonical_text script)) (codes "bank.log") (log_bytes log.threads)
  pub said : after.said ≡ (before.said ++ balance_line (codes "") (balance_of outcome) total) ++ balance_line (codes "again: ") (balance_of outcome) total
