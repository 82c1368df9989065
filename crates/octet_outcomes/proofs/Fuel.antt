-- More fuel leads to the same stand, where the fuel was enough.
use Rattle.std.proofs.Common.{◌≡◌, ◌⊎◌, inl, inr, ◌+◌, ℕ, zero, suc, pred, ◌≤◌, Bool, true, false, List, Option, Some, None, slice_get, refl, sym, ap, ◌∙◌, subst, arith}
use Rattle.octet_model.specs.declared.command.Command.{Command}
use Rattle.octet_model.specs.declared.command.Command.TheVariants.{Set, Copy, Add, Sub, Mul, Xor, Less, Same, Read, Write, Bump, Loop, Branch, Close}
use Rattle.octet_model.specs.declared.outcome.End.TheVariants.{Spent}
use Rattle.octet_model.specs.Thread.{Configuration, ToEnd, run_to, stepped, settled, is_access, demand_at, demanded, past_access}
use Rattle.octet_interp.specs.declared.program.Stand.{Stand}
use Rattle.octet_interp.specs.Standing.{with_fuel, stand_of, stand_past}
use Rattle.octet_interp.proofs.Runs.{one_fuel, stays_at, stays_past}

-- without fuel, a command means that the thread is spent
spent_empty : (command : Command) (c : Configuration) → c.fuel ≡ 0 → demand_at (Some command) c ≡ ToEnd Spent
spent_empty (Read to object) c is = ap (λ (n : ℕ). demand_at (Some (Read to object)) (record { place = c.place; registers = c.registers; fuel = n })) is
spent_empty (Write object from) c is = ap (λ (n : ℕ). demand_at (Some (Write object from)) (record { place = c.place; registers = c.registers; fuel = n })) is
spent_empty (Bump object from) c is = ap (λ (n : ℕ). demand_at (Some (Bump object from)) (record { place = c.place; registers = c.registers; fuel = n })) is
spent_empty _ c is = refl

-- a command does the same with other fuel
same_step : (commands : List Command) (command : Command) (c : Configuration) (m : ℕ) → stepped commands (with_fuel (suc m) (stand_of c)) command ≡ with_fuel m (stand_of (stepped commands c command))
same_step commands (Set to number) c m = refl
same_step commands (Copy to from) c m = refl
same_step commands (Add to left right) c m = refl
same_step commands (Sub to left right) c m = refl
same_step commands (Mul to left right) c m = refl
same_step commands (Xor to left right) c m = refl
same_step commands (Less to left right) c m = refl
same_step commands (Same to left right) c m = refl
same_step commands (Loop test) c m = refl
same_step commands (Branch test) c m = refl
same_step commands Close c m = refl
same_step commands _ c m = refl

-- an access does too
pub same_past : (o : Option Command) (d : Configuration) (fuel value : ℕ) → past_access o (with_fuel fuel (stand_of d)) value ≡ with_fuel (pred fuel) (stand_of (past_access o d value))
same_past None d fuel value = refl
same_past (Some (Read to object)) d fuel value = refl
same_past (Some _) d fuel value = refl

pub past_fuel : (o : Option Command) (d : Configuration) (value : ℕ) → (past_access o d value).fuel ≡ pred d.fuel
past_fuel None d value = refl
past_fuel (Some (Read to object)) d value = refl
past_fuel (Some _) d value = refl

pub pred_le : (n : ℕ) → pred n ≤ n
pred_le zero = omega arith
pred_le (suc n) = omega arith

pred_mono : (m n : ℕ) → m ≤ n → pred m ≤ pred n
pred_mono zero n le = omega arith
pred_mono (suc m) zero le = absurd (omega arith)
pred_mono (suc m) (suc n) le = omega arith

module _ (commands : List Command) where
  abbrev at_command : ℕ → Configuration → Option Command → Configuration
  at_command n c o = elim o [ None ↦ c | Some command ↦ elim (is_access command) [ true ↦ c | false ↦ run_to is_access commands n (stepped commands c command) ] ]

  abbrev at_kind : ℕ → Configuration → Command → Bool → Configuration
  at_kind n c command b = elim b [ true ↦ c | false ↦ run_to is_access commands n (stepped commands c command) ]

  run_step : (n : ℕ) (c : Configuration) (o : Option Command) → slice_get commands c.place ≡ o → run_to is_access commands (suc n) c ≡ at_command n c o
  run_step n c o is = ap (at_command n c) is

  pub run_on : (n : ℕ) (c : Configuration) (command : Command) → slice_get commands c.place ≡ Some command → is_access command ≡ false → run_to is_access commands (suc n) c ≡ run_to is_access commands n (stepped commands c command)
  run_on n c command is plain = run_step n c (Some command) is ∙ ap (at_kind n c command) plain

  abbrev Alive : Configuration → Type 0
  Alive d = demand_at (slice_get commands d.place) d ≡ ToEnd Spent → ⊥

  pub more_fuel : (n m : ℕ) (c : Configuration) → c.fuel ≡ n → n ≤ m → Alive (run_to is_access commands n c) → stand_of (run_to is_access commands n c) ≡ stand_of (run_to is_access commands m (with_fuel m (stand_of c)))
  more_fuel zero m c fuelled le alive = go (slice_get commands c.place) refl
    where
      go : (o : Option Command) → slice_get commands c.place ≡ o → stand_of c ≡ stand_of (run_to is_access commands m (with_fuel m (stand_of c)))
      go None is = ap stand_of (sym (stays_past is_access commands m (with_fuel m (stand_of c)) is))
      go (Some command) is = absurd (alive (ap (λ (o : Option Command). demand_at o c) is ∙ spent_empty command c fuelled))
  more_fuel (suc n) zero c fuelled le alive = absurd (omega arith)
  more_fuel (suc n) (suc m) c fuelled le alive =
      go (slice_get commands c.place) refl (λ command plain. more_fuel n m (stepped commands c command) (one_fuel commands c command ∙ ap pred fuelled) (omega arith) plain)
    where
      kind : (command : Command) (b : Bool) → slice_get commands c.place ≡ Some command → is_access command ≡ b
          → (Alive (run_to is_access commands n (stepped commands c command)) → stand_of (run_to is_access commands n (stepped commands c command)) ≡ stand_of (run_to is_access commands m (with_fuel m (stand_of (stepped commands c command)))))
          → stand_of (run_to is_access commands (suc n) c) ≡ stand_of (run_to is_access commands (suc m) (with_fuel (suc m) (stand_of c)))
      kind command true is stop rest = ap stand_of (stays_at is_access commands (suc n) c command is stop) ∙ ap stand_of (sym (stays_at is_access commands (suc m) (with_fuel (suc m) (stand_of c)) command is stop))
      kind command false is plain rest =
          ap stand_of (run_on n c command is plain) ∙ rest (subst Alive (run_on n c command is plain) alive)
          ∙ ap (λ (e : Configuration). stand_of (run_to is_access commands m e)) (sym (same_step commands command c m)) ∙ ap stand_of (sym (run_on m (with_fuel (suc m) (stand_of c)) command is plain))

      go : (o : Option Command) → slice_get commands c.place ≡ o
          → ((command : Command) → Alive (run_to is_access commands n (stepped commands c command)) → stand_of (run_to is_access commands n (stepped commands c command)) ≡ stand_of (run_to is_access commands m (with_fuel m (stand_of (stepped commands c command)))))
          → stand_of (run_to is_access commands (suc n) c) ≡ stand_of (run_to is_access commands (suc m) (with_fuel (suc m) (stand_of c)))
      go None is rest = ap stand_of (stays_past is_access commands (suc n) c is) ∙ ap stand_of (sym (stays_past is_access commands (suc m) (with_fuel (suc m) (stand_of c)) is))
      go (Some command) is rest = kind command (is_access command) is refl (rest command)

  -- no fuel comes in a run
  run_fuel : (n : ℕ) (c : Configuration) → (run_to is_access commands n c).fuel ≤ c.fuel
  run_fuel zero c = omega arith
  run_fuel (suc n) c = go (slice_get commands c.place) refl (λ command. run_fuel n (stepped commands c command))
    where
      kind : (command : Command) (b : Bool) → (run_to is_access commands n (stepped commands c command)).fuel ≤ (stepped commands c command).fuel → (at_kind n c command b).fuel ≤ c.fuel
      kind command true rest = omega arith
      kind command false rest = omega (arith, rest, one_fuel commands c command, pred_le c.fuel)

      go : (o : Option Command) → slice_get commands c.place ≡ o → ((command : Command) → (run_to is_access commands n (stepped commands c command)).fuel ≤ (stepped commands c command).fuel) → (at_command n c o).fuel ≤ c.fuel
      go None is rest = omega arith
      go (Some command) is rest = kind command (is_access command) (rest command)

  pub settled_fuel : (c : Configuration) → (settled commands c).fuel ≤ c.fuel
  settled_fuel c = run_fuel c.fuel c

  pub past_settled_fuel : (c : Configuration) (o : Option Command) (value : ℕ) → (past_access o (settled commands c) value).fuel ≤ c.fuel
  past_settled_fuel c o value = omega (arith, past_fuel o (settled commands c) value, settled_fuel c, pred_le (settled commands c).fuel)

  -- past an access, a thread comes with its own fuel to where it comes with this fuel, unless it is spent
  pub past_same : (d : Configuration) (fuel value : ℕ) → d.fuel ≤ fuel → (demanded commands (past_access (slice_get commands d.place) d value) ≡ ToEnd Spent → ⊥)
      → stand_of (settled commands (past_access (slice_get commands d.place) d value)) ≡ stand_past commands fuel (stand_of d) value
  past_same d fuel value le alive =
      let o = slice_get commands d.place in
      let c = past_access (slice_get commands d.place) d value in
      let few : c.fuel ≤ pred fuel = omega (arith, past_fuel (slice_get commands d.place) d value, pred_mono d.fuel fuel le) in
      more_fuel c.fuel (pred fuel) c refl few alive ∙ ap (λ (e : Configuration). stand_of (run_to is_access commands e.fuel e)) (sym (same_past (slice_get commands d.place) d fuel value))

-- a thread stands at a command that is no access
pub record IsHalted (commands : List Command) (stand : Stand) : Type 0 where
  pub command : Command
  pub at : slice_get commands stand.place ≡ Some command
  pub plain : is_access command ≡ false

-- with more fuel it comes to the same stand, and uses no more of it
pub record GoesAlike (commands : List Command) (few many : ℕ) (c : Configuration) : Type 0 where
  pub stand : stand_of (run_to is_access commands many c) ≡ stand_of (run_to is_access commands few (with_fuel few (stand_of c)))
  pub left : many ≤ (run_to is_access commands many c).fuel + few

module _ (commands : List Command) where
  pub less_fuel : (few many : ℕ) (c : Configuration) → c.fuel ≡ many → few ≤ many → IsHalted commands (stand_of (run_to is_access commands few (with_fuel few (stand_of c)))) ⊎ GoesAlike commands few many c
  less_fuel zero many c fuelled le = go (slice_get commands c.place) refl
    where
      kind : (command : Command) (b : Bool) → slice_get commands c.place ≡ Some command → is_access command ≡ b → IsHalted commands (stand_of c) ⊎ GoesAlike commands 0 many c
      kind command true is stop = let e = stays_at is_access commands many c command is stop in inr (record { stand = ap stand_of e; left = omega (arith, ap (λ (d : Configuration). d.fuel) e, fuelled) })
      kind command false is plain = inl (record { command = command; at = is; plain = plain })

      go : (o : Option Command) → slice_get commands c.place ≡ o → IsHalted commands (stand_of c) ⊎ GoesAlike commands 0 many c
      go None is = let e = stays_past is_access commands many c is in inr (record { stand = ap stand_of e; left = omega (arith, ap (λ (d : Configuration). d.fuel) e, fuelled) })
      go (Some command) is = kind command (is_access command) is refl
  less_fuel (suc few) zero c fuelled le = absurd (omega arith)
  less_fuel (suc few) (suc many) c fuelled le =
      go (slice_get commands c.place) refl (λ command. less_fuel few many (stepped commands c command) (one_fuel commands c command ∙ ap pred fuelled) (omega arith))
    where
      both : (command : Command) → slice_get commands c.place ≡ Some command → is_access command ≡ false
          → IsHalted commands (stand_of (run_to is_access commands few (with_fuel few (stand_of (stepped commands c command))))) ⊎ GoesAlike commands few many (stepped commands c command)
          → IsHalted commands (stand_of (run_to is_access commands (suc few) (with_fuel (suc few) (stand_of c)))) ⊎ GoesAlike commands (suc few) (suc many) c
      both command is plain rest =
          let right : run_to is_access commands (suc few) (with_fuel (suc few) (stand_of c)) ≡ run_to is_access commands few (with_fuel few (stand_of (stepped commands c command))) =
          run_on commands few (with_fuel (suc few) (stand_of c)) command is plain ∙ ap (run_to is_access commands few) (same_step commands command c few) in
          let left : run_to is_access commands (suc many) c ≡ run_to is_access commands many (stepped commands c command) = run_on commands many c command is plain in
          elim rest [
            | inl halted ↦ inl (subst (λ (d : Configuration). IsHalted commands (stand_of d)) (sym right) halted)
            | inr alike ↦ inr (record { stand = ap stand_of left ∙ alike.stand ∙ ap stand_of (sym right); left = omega (arith, ap (λ (d : Configuration). d.fuel) left, alike.left) })
          ]

      kind : (command : Command) (b : Bool) → slice_get commands c.place ≡ Some command → is_access command ≡ b
          → IsHalted commands (stand_of (run_to is_access commands few (with_fuel few (stand_of (stepped commands c command))))) ⊎ GoesAlike commands few many (stepped commands c command)
          → IsHalted commands (stand_of (run_to is_access commands (suc few) (with_fuel (suc few) (stand_of c)))) ⊎ GoesAlike commands (suc few) (suc many) c
      kind command true is stop rest =
          let e = stays_at is_access commands (suc many) c command is stop in
          inr (record { stand = ap stand_of e ∙ ap stand_of (sym (stays_at is_access commands (suc few) (with_fuel (suc few) (stand_of c)) command is stop)); left = omega (arith, ap (λ (d : Configuration). d.fuel) e, fuelled) })
      kind command false is plain rest = both command is plain rest

      go : (o : Option Command) → slice_get commands c.place ≡ o
          → ((command : Command) → IsHalted commands (stand_of (run_to is_access commands few (with_fuel few (stand_of (stepped commands c command))))) ⊎ GoesAlike commands few many (stepped commands c command))
          → IsHalted commands (stand_of (run_to is_access commands (suc few) (with_fuel (suc few) (stand_of c)))) ⊎ GoesAlike commands (suc few) (suc many) c
      go None is rest =
          let e = stays_past is_access commands (suc many) c is in
          inr (record { stand = ap stand_of e ∙ ap stand_of (sym (stays_past is_access commands (suc few) (with_fuel (suc few) (stand_of c)) is)); left = omega (arith, ap (λ (d : Configuration). d.fuel) e, fuelled) })
      go (Some command) is rest = kind command (is_access command) is refl (rest command)
