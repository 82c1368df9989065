-- What a run of any length is a recording of.
use Rattle.std.specs.Prelude.{◌≡◌, ℕ, List, length, map}
use Rattle.octet_model.specs.declared.outcome.Outcome.{Outcome}
use Rattle.octet_model.specs.Journals.{log_of}
use Rattle.octet_model.specs.Machine.{Journals}
use Rattle.octet_model.specs.Plans.{Plan, FitsPlan, IsFaithful, ends_of, values_read}
use Rattle.octet_model.specs.Plays.{IsOneHistory}
use Rattle.octet_rule.specs.declared.words.Seat.{Seat}
use Rattle.octet_rule.specs.Seats.{view, Closes}

-- a plan of these journals, from these values on: each journal is what its thread of the plan does, to its end
pub record IsPlanOf (first : List ℕ) (journals : Journals) (plan : Plan) : Type 0 where
  pub starts : plan.starts ≡ first
  pub threads : length plan.threads ≡ length journals
  pub fits : FitsPlan plan journals

-- the ends of a plan's threads after these journals, the values that they read, and these last values
abbrev pub outcome_with : Plan → Journals → List ℕ → Outcome
outcome_with plan journals last = record { ends = ends_of plan.fuel plan.threads journals; reads = map values_read journals; heap = last }

-- a run with these journals is recorded. There is a plan of them, and with each plan of them, their log and the last
-- values are a faithful recording. The journals have one history, which gives these values
pub record IsRecorded (starts : List ℕ) (journals : Journals) (last : List ℕ) : Type 0 where
  pub plan : Plan
  pub is_plan : IsPlanOf starts journals plan
  pub faithful : (plan : Plan) → IsPlanOf starts journals plan → IsFaithful plan (log_of journals) (outcome_with plan journals last)
  pub draws : ℕ
  pub history : IsOneHistory starts journals last draws

-- whatever seats close with these values, their journals are recorded
abbrev pub ClosedIsRecorded : Type 0
ClosedIsRecorded = (starts : List ℕ) (seats : List Seat) (last : List ℕ)
    → Closes starts seats last → IsRecorded starts (map (λ seat. (view seat).journal) seats) last
