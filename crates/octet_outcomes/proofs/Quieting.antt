-- Past a place from which on a thread makes no conflicting access, it makes none.
use Rattle.std.proofs.Common.{◌≡◌, ℕ, zero, suc, ◌≤◌, ◌==◌, if◌then◌else◌, inl, inr, Bool, true, false, List, get_or, Option, Some, None, IfSome, slice_get, refl, subst, arith}
use Rattle.std.proofs.lemmas.Bool.{cases_lt}
use Rattle.octet_model.specs.declared.command.Command.{Command}
use Rattle.octet_model.specs.declared.command.Command.TheVariants.{Read, Loop, Branch, Close}
use Rattle.octet_model.specs.Thread.{Configuration, is_access, matching_end, place_after_close, stepped, settled, past_access}
use Rattle.octet_interp.specs.declared.demand.Demand.{Demand}
use Rattle.octet_interp.specs.declared.demand.Demand.TheVariants as wanted
use Rattle.octet_interp.specs.declared.program.Stand.{Stand}
use Rattle.octet_interp.specs.Standing.{access_demand, stand_past, with_fuel}
use Rattle.octet_interp.proofs.Runs.{along}
use Rattle.octet_outcomes.specs.declared.quiet.Quiet.{Quiet}
use Rattle.octet_outcomes.specs.Alone.{Conflicts, KeepsOff}
use Rattle.octet_outcomes.specs.Flow.{AreOpened, IsQuietFrom}
use Rattle.octet_outcomes.specs.Quiets.{AreQuiet, IsKnown, IsOver}
use Rattle.octet_outcomes.proofs.Flowing.{closer_leads, matched_past, LeadsTo, On, Back}

past_place : (o : Option Command) (c : Configuration) (value : ℕ) → (past_access o c value).place ≡ suc c.place
past_place None c value = refl
past_place (Some (Read to object)) c value = refl
past_place (Some _) c value = refl

module _ (commands : List Command) (opened : AreOpened commands) (demand : Demand) (from : ℕ) (quiet : IsQuietFrom commands demand from) where
  closed_past : (end next : ℕ) → from ≤ end → LeadsTo commands end next → from ≤ next
  closed_past end next past (On is) = omega (arith, past, is)
  closed_past end next past (Back head at loop ends) = elim (cases_lt next from) [
    | inl below ↦ absurd (omega (arith, quiet.over next head below at loop, ends, past))
    | inr beyond ↦ beyond
  ]

  opener_past : (place : ℕ) (b : Bool) → from ≤ place → from ≤ (if b then suc (matching_end commands place) else suc place)
  opener_past place true past = omega (arith, past, matched_past commands place)
  opener_past place false past = omega (arith, past)

  stepped_past : (c : Configuration) (command : Command) → slice_get commands c.place ≡ Some command → from ≤ c.place → from ≤ (stepped commands c command).place
  stepped_past c (Loop test) at past = opener_past c.place (get_or c.registers test 0 == 0) past
  stepped_past c (Branch test) at past = opener_past c.place (get_or c.registers test 0 == 0) past
  stepped_past c Close at past = closed_past c.place (place_after_close commands c.place) past (closer_leads commands c.place (opened c.place Close at refl))
  stepped_past c command at past = omega (arith, past)

  run_past : (c : Configuration) → from ≤ c.place → from ≤ (settled commands c).place
  run_past c past =
      along is_access commands (λ (c d : Configuration). from ≤ c.place → from ≤ d.place) (λ c here. here) (λ c d command at plain fuelled rest here. rest (stepped_past c command at here)) c.fuel c refl past

  pub keeps_off : (more fuel : ℕ) (stand : Stand) → from ≤ stand.place → KeepsOff more commands fuel demand stand
  keeps_off zero fuel stand past = tt
  keeps_off (suc more) fuel stand past = λ other is. (
    go other (slice_get commands stand.place) refl is,
    λ value.
        keeps_off more fuel (stand_past commands fuel stand value)
        (run_past (past_access (slice_get commands stand.place) (with_fuel fuel stand) value) (omega (arith, past, past_place (slice_get commands stand.place) (with_fuel fuel stand) value))),
  )
    where
      go : (other : Demand) (o : Option Command) → slice_get commands stand.place ≡ o → elim o [ None ↦ None | Some command ↦ access_demand command stand.registers ] ≡ Some other → Conflicts demand other → ⊥
      go other None at never conflicts = absurd cc
      go other (Some command) at is conflicts = quiet.none stand.place command past at (stand.registers, (other, is, conflicts))

pub over_off : (commands : List Command) (demand : Demand) (place : ℕ) → AreOpened commands → IsOver commands demand place → (fuel more : ℕ) (stand : Stand) → stand.place ≡ place → KeepsOff more commands fuel demand stand
over_off commands demand place opened over fuel more stand is = keeps_off commands opened demand over.from over.quiet more fuel stand (omega (arith, over.passed, is))

-- whatever a write or a bump puts into its object, it conflicts with the same accesses
any_write : (object value other : ℕ) (e : Demand) → Conflicts (wanted.Write object value) e → Conflicts (wanted.Write object other) e
any_write object value other (wanted.Read o) is = is
any_write object value other (wanted.Write o v) is = is
any_write object value other (wanted.Bump o v) is = is
any_write object value other _ is = is

any_bump : (object value other : ℕ) (e : Demand) → Conflicts (wanted.Bump object value) e → Conflicts (wanted.Bump object other) e
any_bump object value other (wanted.Read o) is = is
any_bump object value other (wanted.Write o v) is = is
any_bump object value other _ is = is

quiet_like : (commands : List Command) (d e : Demand) (from : ℕ) → ((other : Demand) → Conflicts e other → Conflicts d other) → IsQuietFrom commands d from → IsQuietFrom commands e from
quiet_like commands d e from same quiet = record {
  none = λ place command past at (registers, (other, is, conflicts)). quiet.none place command past at (registers, (other, is, same other conflicts));
  over = quiet.over;
}

said : (o : Option ℕ) (P : ℕ → Type 0) (from : ℕ) → o ≡ Some from → IfSome o P → P from
said o P from is holds = subst (λ (q : Option ℕ). IfSome q P) is holds

pub is_over : (commands : List Command) (quiets : List Quiet) (demand : Demand) (from place : ℕ) → AreQuiet commands quiets → IsKnown quiets demand from → from ≤ place → IsOver commands demand place
is_over commands quiets (wanted.Read object) from place are known past = record { from = from; passed = past; quiet = said _ (IsQuietFrom commands (wanted.Read object)) from known.1 (are object known.0).read }
is_over commands quiets (wanted.Write object value) from place are known past = record {
  from = from;
  passed = past;
  quiet = quiet_like commands (wanted.Write object 0) (wanted.Write object value) from (any_write object value 0) (said _ (IsQuietFrom commands (wanted.Write object 0)) from known.1 (are object known.0).write);
}
is_over commands quiets (wanted.Bump object amount) from place are known past = record {
  from = from;
  passed = past;
  quiet = quiet_like commands (wanted.Bump object 0) (wanted.Bump object amount) from (any_bump object amount 0) (said _ (IsQuietFrom commands (wanted.Bump object 0)) from known.1 (are object known.0).bump);
}
is_over commands quiets _ from place are known past = absurd known
