-- A step on the way to an access leaves the phase about the same demand.
use Rattle.std.proofs.Common.{◌≡◌, ℕ, Bool, true, false, ◌==◌, if◌then◌else◌, Option, Some, None, refl, sym, ap}
use Rattle.octet_model.specs.declared.event.Event.{Event}
use Rattle.octet_state.specs.declared.state_word.StateWord.{StateWord}
use Rattle.octet_state.specs.declared.state_word.StateWord.TheVariants.{WrEx, RdEx, RdSh, WrInt, RdInt, ShInt}
use Rattle.octet_state.specs.declared.act.Mode.{Mode}
use Rattle.octet_state.specs.declared.act.Mode.TheVariants.{Read}
use Rattle.octet_state.specs.declared.act.Whom.TheVariants.{One}
use Rattle.octet_state.specs.declared.act.Act.{Act}
use Rattle.octet_state.specs.declared.act.Act.TheVariants as act
use Rattle.octet_state.specs.declared.phase.Phase.{Phase}
use Rattle.octet_state.specs.declared.phase.Phase.TheVariants.{Off, Idle, Want, Pass, FenceDue, Claimed, Sharing, Blocked}
use Rattle.octet_state.specs.declared.phase.Due.{Due}
use Rattle.octet_state.specs.Table.{decided}
use Rattle.octet_state.specs.State.{Thread}
use Rattle.octet_state.specs.Steps.{moved, loaded, one_done, one_asked, lost, joined_by_share}
use Rattle.octet_machine.specs.Running.{demand_for, demand_in}
use Rattle.octet_machine.proofs.running.Journals.{IsMarking}

-- the other phase is about the same
abbrev pub AboutSame : Phase → Phase → ℕ → Type 0
AboutSame p q value = demand_in p value ≡ demand_in q value

pub done_same : (p : Phase) (value : ℕ) → AboutSame (one_done p) p value
done_same (Claimed o m prior done asked) value = refl
done_same Off value = refl
done_same Idle value = refl
done_same (Want o m seen) value = refl
done_same (Pass o m) value = refl
done_same (FenceDue o n) value = refl
done_same (Sharing o drawn) value = refl
done_same Blocked value = refl

pub asked_same : (p : Phase) (value : ℕ) → AboutSame (one_asked p) p value
asked_same (Claimed o m prior done asked) value = refl
asked_same Off value = refl
asked_same Idle value = refl
asked_same (Want o m seen) value = refl
asked_same (Pass o m) value = refl
asked_same (FenceDue o n) value = refl
asked_same (Sharing o drawn) value = refl
asked_same Blocked value = refl

pub lost_same : (p : Phase) (value : ℕ) → AboutSame (lost p) p value
lost_same (Want o m seen) value = refl
lost_same Off value = refl
lost_same Idle value = refl
lost_same (Pass o m) value = refl
lost_same (FenceDue o n) value = refl
lost_same (Claimed o m prior done asked) value = refl
lost_same (Sharing o drawn) value = refl
lost_same Blocked value = refl

-- where a step goes one of two ways, each about the same
pub either_same : (b : Bool) (p q r : Phase) (d e : Due) (x : Thread) (value : ℕ) → AboutSame p r value → AboutSame q r value → AboutSame (if b then moved p d x else moved q e x).phase r value
either_same true p q r d e x value a c = a
either_same false p q r d e x value a c = c

-- a mark or none, either way
pub either_marks : (b : Bool) (e : Option Event) → IsMarking e → IsMarking (if b then e else None)
either_marks true e is = is
either_marks false e is = tt

pub share_marks : (p : Phase) → IsMarking (joined_by_share p)
share_marks (Want o m None) = tt
share_marks (Want o m (Some (WrEx owner))) = tt
share_marks (Want o m (Some (RdEx owner upto))) = tt
share_marks (Want o m (Some (RdSh number))) = tt
share_marks (Want o m (Some (WrInt by))) = tt
share_marks (Want o m (Some (RdInt by))) = tt
share_marks (Want o m (Some (ShInt by))) = tt
share_marks Off = tt
share_marks Idle = tt
share_marks (Pass o m) = tt
share_marks (FenceDue o n) = tt
share_marks (Claimed o m prior done asked) = tt
share_marks (Sharing o drawn) = tt
share_marks Blocked = tt

-- a fence or a share: what a thread does for a read alone
abbrev pub serves_reads : Act → Bool
serves_reads act.Fence = true
serves_reads (act.Share from upto) = true
serves_reads _ = false

neither : (b : Bool) (a c : Act) → serves_reads a ≡ false → serves_reads c ≡ false → serves_reads (if b then a else c) ≡ false
neither true a c first second = first
neither false a c first second = second

pub only_reads : (state : StateWord) (me : ℕ) (mode : Mode) (count : ℕ) → serves_reads (decided state me mode count) ≡ true → mode ≡ Read
only_reads state me Read count is = refl
only_reads (WrEx owner) me mode count is = absurd (cc (neither (owner == me) act.Pass (act.Take (One owner)) refl refl, is))
only_reads (RdEx owner upto) me mode count is = absurd (cc (neither (owner == me) act.Raise (act.Take (One owner)) refl refl, is))
only_reads state me mode count is = absurd (cc is)

-- after a load the phase is about the access that was wanted
pub load_same : (a : Act) (o : ℕ) (m : Mode) (state : StateWord) (x : Thread) (value : ℕ) → (a ≡ act.Fence → m ≡ Read) → demand_in (loaded a o m state x).phase value ≡ Some (demand_for o m value)
load_same act.Pass o m state x value reads = refl
load_same act.Fence o m state x value reads = sym (ap (λ (n : Mode). Some (demand_for o n value)) (reads refl))
load_same act.Raise o m state x value reads = refl
load_same (act.Share from upto) o m state x value reads = refl
load_same (act.Take whom) o m state x value reads = refl
load_same (act.Held by) o m state x value reads = refl
