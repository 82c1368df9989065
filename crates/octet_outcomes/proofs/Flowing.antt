-- Where the commands of a thread lead, and what registers that are not live change of that: nothing.
use Rattle.std.proofs.Common.{◌≡◌, ℕ, zero, suc, pred, ◌+◌, ◌*◌, ◌-◌, ◌%◌, ◌^◌, ◌<◌, ◌≤◌, ◌==◌, ◌&&◌, if◌then◌else◌, inl, inr, Bool, true, false, List, [], ◌∷◌, length, drop, set, get_or, Option, Some, None, slice_get, refl, sym, ap, ap₂, ◌∙◌, subst, arith, length-set}
use Rattle.std.specs.Prelude.{◌||◌, nat_lt, bit_xor}
use Rattle.std.proofs.lemmas.Bool.{cases_eq, cases_lt, and_parts, eqb-true, eq-eqb}
use Rattle.std.proofs.lemmas.List.{get_or_past}
use Rattle.std.proofs.lemmas.Option.{slice_get_within}
use Rattle.octet_model.specs.declared.command.Command.{Command}
use Rattle.octet_model.specs.declared.command.Command.TheVariants.{Set, Copy, Add, Sub, Mul, Xor, Less, Same, Read, Write, Bump, Loop, Branch, Close}
use Rattle.octet_model.specs.declared.limits.TheConstants.{REGISTERS}
use Rattle.octet_model.specs.Thread.{Configuration, is_access, is_opener, end_from, matching_end, is_opened_at, matching_opener, place_past_end, place_after_close, stepped, settled, run_to, past_access}
use Rattle.octet_interp.specs.declared.demand.Demand.{Demand}
use Rattle.octet_interp.specs.declared.demand.Demand.TheVariants as wanted
use Rattle.octet_interp.specs.declared.program.Stand.{Stand}
use Rattle.octet_interp.specs.Standing.{access_at, access_demand, stand_of, stand_past, with_fuel}
use Rattle.octet_interp.proofs.Runs.{stays_at, stays_past}
use Rattle.octet_outcomes.specs.Alike.{GoAlike, StandAlike}
use Rattle.octet_outcomes.specs.Flow.{is_loop, live_at, set_by, uses, AreLive, AreOpened, IsKept, IsOpened}
use Rattle.octet_outcomes.proofs.Fuel.{run_on}

-- where a closer leads: past itself, or back to the head of the loop that it ends
pub data LeadsTo (commands : List Command) (end next : ℕ) : Type 0 where
  On : next ≡ suc end → LeadsTo commands end next
  Back : (command : Command) → slice_get commands next ≡ Some command → is_loop command ≡ true → matching_end commands next ≡ end → LeadsTo commands end next

-- the opener that is found for a closer which has one
found_opener : (commands : List Command) (end n opener : ℕ) → opener < n → is_opened_at commands opener end ≡ true → is_opened_at commands (matching_opener commands end n) end ≡ true
found_opener commands end zero opener lt is = absurd (omega arith)
found_opener commands end (suc n) opener lt is = go (is_opened_at commands n end) refl (λ below. found_opener commands end n opener below is)
  where
    at : Bool → ℕ
    at b = elim b [ true ↦ n | false ↦ matching_opener commands end n ]

    go : (b : Bool) → is_opened_at commands n end ≡ b → (opener < n → is_opened_at commands (matching_opener commands end n) end ≡ true) → is_opened_at commands (elim b [ true ↦ n | false ↦ matching_opener commands end n ]) end ≡ true
    go true e rest = e
    go false e rest = elim (cases_eq opener n) [
      | inl same ↦ absurd (let no : true ≡ false = sym (subst (λ (k : ℕ). is_opened_at commands k end ≡ true) same is) ∙ e in cc)
      | inr apart ↦ rest (omega (arith, lt, apart))
    ]

pub closer_leads : (commands : List Command) (end : ℕ) → IsOpened commands end → LeadsTo commands end (place_after_close commands end)
closer_leads commands end opened = go (slice_get commands (matching_opener commands end end)) refl (found_opener commands end end opened.opener opened.before opened.opens)
  where
    go : (o : Option Command) → slice_get commands (matching_opener commands end end) ≡ o
        → elim o [ None ↦ false | Some command ↦ is_opener command && (matching_end commands (matching_opener commands end end) == end) ] ≡ true
        → LeadsTo commands end (place_past_end o (matching_opener commands end end) end)
    go (Some (Loop test)) at is =
        Back (Loop test) at refl (eqb-true (matching_end commands (matching_opener commands end end)) end (and_parts (is_opener (Loop test)) (matching_end commands (matching_opener commands end end) == end) is).1)
    go o at is = On refl

-- an opener is not closed before itself
end_past : (depth place : ℕ) (commands : List Command) → place ≤ end_from depth place commands
end_past depth place [] = omega arith
end_past depth place (Loop test ∷ commands) = omega (arith, end_past (suc depth) (suc place) commands)
end_past depth place (Branch test ∷ commands) = omega (arith, end_past (suc depth) (suc place) commands)
end_past zero place (Close ∷ commands) = omega arith
end_past (suc zero) place (Close ∷ commands) = omega arith
end_past (suc (suc depth)) place (Close ∷ commands) = omega (arith, end_past (suc depth) (suc place) commands)
end_past depth place (command ∷ commands) = omega (arith, end_past depth (suc place) commands)

pub matched_past : (commands : List Command) (place : ℕ) → place ≤ matching_end commands place
matched_past commands place = end_past 0 place (drop place commands)

or_right : (b c : Bool) → c ≡ true → (b || c) ≡ true
or_right true c is = refl
or_right false c is = is

-- registers of the same numbers, with the same values in those that are live
pub record Agree (live : List (List Bool)) (place : ℕ) (xs ys : List ℕ) : Type 0 where
  pub len : length xs ≡ REGISTERS
  pub as_many : length ys ≡ REGISTERS
  pub same : (register : ℕ) → live_at live place register ≡ true → get_or xs register 0 ≡ get_or ys register 0

-- one register that gets the same value in both
reg_set : (xs ys : List ℕ) (to v w register : ℕ) → length xs ≡ length ys → v ≡ w → ((register ≡ to → ⊥) → get_or xs register 0 ≡ get_or ys register 0) → get_or (set xs to v) register 0 ≡ get_or (set ys to w) register 0
reg_set [] [] to v w register len is rest = refl
reg_set [] (y ∷ ys) to v w register len is rest = absurd (omega arith)
reg_set (x ∷ xs) [] to v w register len is rest = absurd (omega arith)
reg_set (x ∷ xs) (y ∷ ys) zero v w zero len is rest = is
reg_set (x ∷ xs) (y ∷ ys) zero v w (suc register) len is rest = rest (λ e. omega (arith, e))
reg_set (x ∷ xs) (y ∷ ys) (suc to) v w zero len is rest = rest (λ e. omega (arith, e))
reg_set (x ∷ xs) (y ∷ ys) (suc to) v w (suc register) len is rest = reg_set xs ys to v w register (omega arith) is (λ ne. rest (λ e. ne (omega (arith, e))))

-- the configuration with other registers
abbrev pub beside : Configuration → List ℕ → Configuration
beside c ys = record { place = c.place; registers = ys; fuel = c.fuel }

-- a configuration with other registers that agree
pub record Beside (live : List (List Bool)) (c d : Configuration) : Type 0 where
  pub registers : List ℕ
  pub is : d ≡ beside c registers
  pub agree : Agree live c.place c.registers registers

module _ (commands : List Command) (live : List (List Bool)) (opened : AreOpened commands) (are : AreLive commands live) where
  module _ (place : ℕ) (xs ys : List ℕ) (agree : Agree live place xs ys) (command : Command) (at : slice_get commands place ≡ Some command) where
    -- what holds of a register that is live, and of one past the last, holds of one of which it can be spared no more
    by_live : (register : ℕ) (P : Type 0) → (live_at live place register ≡ true → P) → (REGISTERS ≤ register → P) → (live_at live place register ≡ false → register < REGISTERS → P) → P
    by_live register P here past spared = elim (cases_lt register REGISTERS) [
      | inl below ↦ go (live_at live place register) refl below
      | inr beyond ↦ past beyond
    ]
      where
        go : (b : Bool) → live_at live place register ≡ b → register < REGISTERS → P
        go true is below = here is
        go false is below = spared is below

    both_past : (register : ℕ) → REGISTERS ≤ register → get_or xs register 0 ≡ get_or ys register 0
    both_past register past = get_or_past xs register 0 (omega (arith, past, agree.len)) ∙ sym (get_or_past ys register 0 (omega (arith, past, agree.as_many)))

    -- what the command reads is the same
    pub used : (register : ℕ) → uses command register ≡ true → get_or xs register 0 ≡ get_or ys register 0
    used register uses_it = by_live register (get_or xs register 0 ≡ get_or ys register 0) (agree.same register) (both_past register)
        (λ dead below.
        absurd (let no : true ≡ false = sym uses_it ∙ ((are place (slice_get_within commands place command at) register below).spared dead).used command at in cc))

    -- past it, what is live is the same, or was set
    next_same : (register : ℕ) → live_at live (suc place) register ≡ true → (set_by command ≡ Some register → ⊥) → get_or xs register 0 ≡ get_or ys register 0
    next_same register alive unset = by_live register (get_or xs register 0 ≡ get_or ys register 0) (agree.same register) (both_past register)
        (λ dead below. absurd (unset (((are place (slice_get_within commands place command at) register below).spared dead).on command at alive)))

    pub agree_on : set_by command ≡ None → Agree live (suc place) xs ys
    agree_on none = record {
      len = agree.len;
      as_many = agree.as_many;
      same = λ register alive. next_same register alive (λ some. let no : None ≡ Some register = sym none ∙ some in cc);
    }

    pub agree_set : (to v w : ℕ) → set_by command ≡ Some to → v ≡ w → Agree live (suc place) (set xs to v) (set ys to w)
    agree_set to v w sets is = record {
      len = length-set xs to v ∙ agree.len;
      as_many = length-set ys to w ∙ agree.as_many;
      same = λ register alive.
          reg_set xs ys to v w register (agree.len ∙ sym agree.as_many) is (λ ne. next_same register alive (λ some. let e : Some to ≡ Some register = sym sets ∙ some in ne (let same : to ≡ register = cc in sym same)));
    }

    pub agree_past : is_opener command ≡ true → Agree live (suc (matching_end commands place)) xs ys
    agree_past opener = record {
      len = agree.len;
      as_many = agree.as_many;
      same = λ register alive. by_live register (get_or xs register 0 ≡ get_or ys register 0) (agree.same register) (both_past register)
          (λ dead below.
          absurd (let no : true ≡ false = sym alive ∙ ((are place (slice_get_within commands place command at) register below).spared dead).past command at opener in cc));
    }

    pub agree_close : IsOpened commands place → set_by command ≡ None → Agree live (place_after_close commands place) xs ys
    agree_close is_opened none = go (place_after_close commands place) (closer_leads commands place is_opened)
      where
        go : (next : ℕ) → LeadsTo commands place next → Agree live next xs ys
        go next (On is) = subst (λ (p : ℕ). Agree live p xs ys) (sym is) (agree_on none)
        go next (Back head at_head loop ends) = record {
          len = agree.len;
          as_many = agree.as_many;
          same = λ register alive. elim (cases_lt register REGISTERS) [
            | inl below ↦
                agree.same register (subst (λ (p : ℕ). live_at live p register ≡ true) ends ((are next (slice_get_within commands next head at_head) register below).back head at_head loop alive))
            | inr past ↦ both_past register past
          ];
        }

  -- a command that is no access keeps registers agreed
  stepped_beside : (c : Configuration) (ys : List ℕ) (command : Command) → Agree live c.place c.registers ys → slice_get commands c.place ≡ Some command → is_access command ≡ false
      → Beside live (stepped commands c command) (stepped commands (beside c ys) command)
  stepped_beside c ys (Set to number) agree at plain = record { registers = set ys to number; is = refl; agree = agree_set c.place c.registers ys agree (Set to number) at to number number refl refl }
  stepped_beside c ys (Copy to from) agree at plain = record {
    registers = set ys to (get_or ys from 0);
    is = refl;
    agree = agree_set c.place c.registers ys agree (Copy to from) at to _ _ refl (used c.place c.registers ys agree (Copy to from) at from (eq-eqb from from refl));
  }
  stepped_beside c ys (Add to left right) agree at plain = record {
    registers = set ys to ((get_or ys left 0 + get_or ys right 0) % 2 ^ 64);
    is = refl;
    agree = agree_set c.place c.registers ys agree (Add to left right) at to _ _ refl
        (ap₂ (λ (a b : ℕ). (a + b) % 2 ^ 64) (used c.place c.registers ys agree (Add to left right) at left (ap (λ (b : Bool). b || (left == right)) (eq-eqb left left refl)))
        (used c.place c.registers ys agree (Add to left right) at right (or_right (right == left) (right == right) (eq-eqb right right refl))));
  }
  stepped_beside c ys (Sub to left right) agree at plain = record {
    registers = set ys to ((get_or ys left 0 + 2 ^ 64 - get_or ys right 0) % 2 ^ 64);
    is = refl;
    agree = agree_set c.place c.registers ys agree (Sub to left right) at to _ _ refl
        (ap₂ (λ (a b : ℕ). (a + 2 ^ 64 - b) % 2 ^ 64) (used c.place c.registers ys agree (Sub to left right) at left (ap (λ (b : Bool). b || (left == right)) (eq-eqb left left refl)))
        (used c.place c.registers ys agree (Sub to left right) at right (or_right (right == left) (right == right) (eq-eqb right right refl))));
  }
  stepped_beside c ys (Mul to left right) agree at plain = record {
    registers = set ys to ((get_or ys left 0 * get_or ys right 0) % 2 ^ 64);
    is = refl;
    agree = agree_set c.place c.registers ys agree (Mul to left right) at to _ _ refl
        (ap₂ (λ (a b : ℕ). (a * b) % 2 ^ 64) (used c.place c.registers ys agree (Mul to left right) at left (ap (λ (b : Bool). b || (left == right)) (eq-eqb left left refl)))
        (used c.place c.registers ys agree (Mul to left right) at right (or_right (right == left) (right == right) (eq-eqb right right refl))));
  }
  stepped_beside c ys (Xor to left right) agree at plain = record {
    registers = set ys to (bit_xor (get_or ys left 0) (get_or ys right 0));
    is = refl;
    agree = agree_set c.place c.registers ys agree (Xor to left right) at to _ _ refl
        (ap₂ (λ (a b : ℕ). bit_xor a b) (used c.place c.registers ys agree (Xor to left right) at left (ap (λ (b : Bool). b || (left == right)) (eq-eqb left left refl)))
        (used c.place c.registers ys agree (Xor to left right) at right (or_right (right == left) (right == right) (eq-eqb right right refl))));
  }
  stepped_beside c ys (Less to left right) agree at plain = record {
    registers = set ys to (if nat_lt (get_or ys left 0) (get_or ys right 0) then 1 else 0);
    is = refl;
    agree = agree_set c.place c.registers ys agree (Less to left right) at to _ _ refl
        (ap₂ (λ (a b : ℕ). if nat_lt a b then 1 else 0) (used c.place c.registers ys agree (Less to left right) at left (ap (λ (b : Bool). b || (left == right)) (eq-eqb left left refl)))
        (used c.place c.registers ys agree (Less to left right) at right (or_right (right == left) (right == right) (eq-eqb right right refl))));
  }
  stepped_beside c ys (Same to left right) agree at plain = record {
    registers = set ys to (if get_or ys left 0 == get_or ys right 0 then 1 else 0);
    is = refl;
    agree = agree_set c.place c.registers ys agree (Same to left right) at to _ _ refl
        (ap₂ (λ (a b : ℕ). if a == b then 1 else 0) (used c.place c.registers ys agree (Same to left right) at left (ap (λ (b : Bool). b || (left == right)) (eq-eqb left left refl)))
        (used c.place c.registers ys agree (Same to left right) at right (or_right (right == left) (right == right) (eq-eqb right right refl))));
  }
  stepped_beside c ys (Loop test) agree at plain = record {
    registers = ys;
    is = ap (λ (v : ℕ). record { place = if v == 0 then suc (matching_end commands c.place) else suc c.place; registers = ys; fuel = pred c.fuel }) (sym (used c.place c.registers ys agree (Loop test) at test (eq-eqb test test refl)));
    agree = go (get_or c.registers test 0 == 0);
  }
    where
      go : (b : Bool) → Agree live (if b then suc (matching_end commands c.place) else suc c.place) c.registers ys
      go true = agree_past c.place c.registers ys agree (Loop test) at refl
      go false = agree_on c.place c.registers ys agree (Loop test) at refl
  stepped_beside c ys (Branch test) agree at plain = record {
    registers = ys;
    is = ap (λ (v : ℕ). record { place = if v == 0 then suc (matching_end commands c.place) else suc c.place; registers = ys; fuel = pred c.fuel }) (sym (used c.place c.registers ys agree (Branch test) at test (eq-eqb test test refl)));
    agree = go (get_or c.registers test 0 == 0);
  }
    where
      go : (b : Bool) → Agree live (if b then suc (matching_end commands c.place) else suc c.place) c.registers ys
      go true = agree_past c.place c.registers ys agree (Branch test) at refl
      go false = agree_on c.place c.registers ys agree (Branch test) at refl
  stepped_beside c ys Close agree at plain = record { registers = ys; is = refl; agree = agree_close c.place c.registers ys agree Close at (opened c.place Close at refl) refl }
  stepped_beside c ys (Read to object) agree at plain = absurd cc
  stepped_beside c ys (Write object from) agree at plain = absurd cc
  stepped_beside c ys (Bump object from) agree at plain = absurd cc
  stepped_beside c ys other agree at plain = record { registers = ys; is = refl; agree = agree_on c.place c.registers ys agree other at refl }

  run_beside : (n : ℕ) (c : Configuration) (ys : List ℕ) → Agree live c.place c.registers ys → Beside live (run_to is_access commands n c) (run_to is_access commands n (beside c ys))
  run_beside zero c ys agree = record { registers = ys; is = refl; agree = agree }
  run_beside (suc n) c ys agree = go (slice_get commands c.place) refl (λ command regs next. run_beside n (stepped commands c command) regs next)
    where
      stays : run_to is_access commands (suc n) c ≡ c → run_to is_access commands (suc n) (beside c ys) ≡ beside c ys → Beside live (run_to is_access commands (suc n) c) (run_to is_access commands (suc n) (beside c ys))
      stays one two = record {
        registers = ys;
        is = two ∙ ap (λ (d : Configuration). beside d ys) (sym one);
        agree = subst (λ (d : Configuration). Agree live d.place d.registers ys) (sym one) agree;
      }

      kind : (command : Command) (b : Bool) → slice_get commands c.place ≡ Some command → is_access command ≡ b
          → ((regs : List ℕ) → Agree live (stepped commands c command).place (stepped commands c command).registers regs → Beside live (run_to is_access commands n (stepped commands c command)) (run_to is_access commands n (beside (stepped commands c command) regs)))
          → Beside live (run_to is_access commands (suc n) c) (run_to is_access commands (suc n) (beside c ys))
      kind command true at stop rest = stays (stays_at is_access commands (suc n) c command at stop) (stays_at is_access commands (suc n) (beside c ys) command at stop)
      kind command false at plain rest =
          let s = stepped_beside c ys command agree at plain in
          let r = rest s.registers s.agree in
          let one = run_on commands n c command at plain in
          record {
            registers = r.registers;
            is = run_on commands n (beside c ys) command at plain ∙ ap (run_to is_access commands n) s.is ∙ r.is ∙ ap (λ (d : Configuration). beside d r.registers) (sym one);
            agree = subst (λ (d : Configuration). Agree live d.place d.registers r.registers) (sym one) r.agree;
          }

      go : (o : Option Command) → slice_get commands c.place ≡ o
          → ((command : Command) (regs : List ℕ) → Agree live (stepped commands c command).place (stepped commands c command).registers regs → Beside live (run_to is_access commands n (stepped commands c command)) (run_to is_access commands n (beside (stepped commands c command) regs)))
          → Beside live (run_to is_access commands (suc n) c) (run_to is_access commands (suc n) (beside c ys))
      go None at rest = stays (stays_past is_access commands (suc n) c at) (stays_past is_access commands (suc n) (beside c ys) at)
      go (Some command) at rest = kind command (is_access command) at refl (rest command)

  -- an access too
  pass_beside : (c : Configuration) (ys : List ℕ) (command : Command) (value : ℕ) (demand : Demand) → Agree live c.place c.registers ys → slice_get commands c.place ≡ Some command → access_demand command c.registers ≡ Some demand
      → Beside live (past_access (Some command) c value) (past_access (Some command) (beside c ys) value)
  pass_beside c ys (Read to object) value demand agree at is = record { registers = set ys to value; is = refl; agree = agree_set c.place c.registers ys agree (Read to object) at to value value refl refl }
  pass_beside c ys (Write object from) value demand agree at is = record { registers = ys; is = refl; agree = agree_on c.place c.registers ys agree (Write object from) at refl }
  pass_beside c ys (Bump object from) value demand agree at is = record { registers = ys; is = refl; agree = agree_on c.place c.registers ys agree (Bump object from) at refl }
  pass_beside c ys other value demand agree at is = absurd cc

  -- the same access is made
  same_demand : (place : ℕ) (xs ys : List ℕ) → Agree live place xs ys → (o : Option Command) → slice_get commands place ≡ o
      → ◌≡◌ {A = Option Demand} (elim o [ None ↦ None | Some command ↦ access_demand command xs ]) (elim o [ None ↦ None | Some command ↦ access_demand command ys ])
  same_demand place xs ys agree None at = refl
  same_demand place xs ys agree (Some (Write object from)) at = ap (λ (v : ℕ). Some (wanted.Write object v)) (used place xs ys agree (Write object from) at from (eq-eqb from from refl))
  same_demand place xs ys agree (Some (Bump object from)) at = ap (λ (v : ℕ). Some (wanted.Bump object v)) (used place xs ys agree (Bump object from) at from (eq-eqb from from refl))
  same_demand place xs ys agree (Some other) at = refl

  abbrev stand_with : Stand → List ℕ → Stand
  stand_with stand ys = record { place = stand.place; registers = ys }

  -- where a thread stands after an access
  past_beside : (fuel : ℕ) (stand : Stand) (ys : List ℕ) (value : ℕ) (demand : Demand) → Agree live stand.place stand.registers ys → access_at commands stand ≡ Some demand
      → Beside live (settled commands (past_access (slice_get commands stand.place) (with_fuel fuel stand) value)) (settled commands (past_access (slice_get commands stand.place) (with_fuel fuel (stand_with stand ys)) value))
  past_beside fuel stand ys value demand agree is = go (slice_get commands stand.place) refl is
    where
      go : (o : Option Command) → slice_get commands stand.place ≡ o → elim o [ None ↦ None | Some command ↦ access_demand command stand.registers ] ≡ Some demand
          → Beside live (settled commands (past_access o (with_fuel fuel stand) value)) (settled commands (past_access o (with_fuel fuel (stand_with stand ys)) value))
      go None at never = absurd cc
      go (Some command) at demands =
          let p = pass_beside (with_fuel fuel stand) ys command value demand agree at demands in
          let past : Configuration = past_access (Some command) (with_fuel fuel stand) value in
          let r = run_beside (past_access (Some command) (with_fuel fuel stand) value).fuel (past_access (Some command) (with_fuel fuel stand) value) p.registers p.agree in
          record { registers = r.registers; is = ap (settled commands) p.is ∙ r.is; agree = r.agree }

  go_beside : (more fuel : ℕ) (stand : Stand) (ys : List ℕ) → Agree live stand.place stand.registers ys → GoAlike more commands fuel stand (stand_with stand ys)
  go_beside zero fuel stand ys agree = tt
  go_beside (suc more) fuel stand ys agree = (
    refl,
    same_demand stand.place stand.registers ys agree (slice_get commands stand.place) refl,
    λ demand is value.
        let p = past_beside fuel stand ys value demand agree is in
        subst (λ (s : Stand). GoAlike more commands fuel (stand_past commands fuel stand value) s) (ap stand_of (sym p.is)) (go_beside more fuel (stand_past commands fuel stand value) p.registers p.agree),
  )

  pub kept_alike : (fuel : ℕ) (stand kept : Stand) → length stand.registers ≡ REGISTERS → IsKept live stand kept → StandAlike commands fuel stand kept
  kept_alike fuel stand kept len is = record {
    go = λ more.
        subst (λ (p : ℕ). GoAlike more commands fuel stand (record { place = p; registers = kept.registers })) (sym is.place)
        (go_beside more fuel stand kept.registers (record { len = len; as_many = is.len ∙ len; same = λ register alive. sym (is.same register alive) }));
  }
