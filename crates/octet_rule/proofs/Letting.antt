-- A cell is reached only as the state of its object allows.
use Rattle.std.proofs.Common.{◌≡◌, ℕ, IsTrue, sym, ap, ◌∙◌, subst}
use Rattle.octet_state.specs.declared.act.Mode.{Mode}
use Rattle.octet_state.specs.declared.act.Mode.TheVariants.{Read, Write, Update}
use Rattle.octet_state.specs.declared.phase.Phase.{Phase}
use Rattle.octet_state.specs.declared.phase.Phase.TheVariants.{Pass}
use Rattle.octet_state.specs.State.{Thread, ProtocolState, thread_of}
use Rattle.octet_state.specs.Passing.{passes}
use Rattle.octet_rule.specs.Views.{SeatView}
use Rattle.octet_rule.specs.Rule.{IsSeenBy}
use Rattle.octet_rule.specs.Laws.{IsLetPass, AccessIsLetPass}

let_pass : (s : ProtocolState) (v : SeatView) (object : ℕ) (mode : Mode) → IsSeenBy v s → (thread_of s v.number).phase ≡ Pass object mode → IsLetPass mode v s
let_pass s v object mode seen is = record {
  object = object;
  passes = ap (λ (x : Thread). x.phase) (sym seen.stands) ∙ is;
  lets = subst (λ (p : Phase). IsTrue (passes s.statuses s.states s.threads v.number p)) is (seen.sound.passing v.number);
}

pub access_is_let_pass : AccessIsLetPass
access_is_let_pass Read value v told w took = let_pass took.before v took.may.1.0 Read took.seen took.may.1.1
access_is_let_pass Write value v told w took = let_pass took.before v took.may.1.0 Write took.seen took.may.1.1
access_is_let_pass Update value v told w took = let_pass took.before v took.may.1.0 Update took.seen took.may.1.1
