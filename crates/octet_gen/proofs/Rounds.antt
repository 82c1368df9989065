-- Whatever its reads give, a loop of 1,250 turns round sixteen accesses makes 20,000 of them.
use Rattle.std.proofs.Common.{◌≡◌, ℕ, zero, suc, ◌+◌, ◌-◌, ◌*◌, ◌%◌, ◌^◌, ◌<◌, ◌≤◌, ◌==◌, Bool, true, false, ◌&&◌, if◌then◌else◌, Option, Some, None, List, [], ◌∷◌, ◌++◌, length, get_or, set, slice_get, replicate, refl, sym, ap, ◌∙◌, arith, subst}
use Rattle.std.specs.List.{All}
use Rattle.std.proofs.lemmas.Bool.{ne_eqb}
use Rattle.std.proofs.lemmas.List.{get_or-set_same, get_or-set_other, length-set}
use Rattle.std.proofs.lemmas.Option.{slice_get-get_or}
use Rattle.octet_model.specs.declared.limits.TheConstants.{REGISTERS}
use Rattle.octet_model.proofs.lemmas.Lists.{slice_get-append}
use Rattle.octet_model.specs.declared.command.Command.{Command}
use Rattle.octet_model.specs.declared.command.Command.TheVariants.{Sub, Read, Write, Close, Safe}
use Rattle.octet_model.specs.declared.event.Event.{Event}
use Rattle.octet_model.specs.declared.event.Event.TheVariants.{Read, Write, Update, Marked}
use Rattle.octet_model.specs.declared.outcome.End.{End}
use Rattle.octet_model.specs.declared.outcome.End.TheVariants.{Done}
use Rattle.octet_model.specs.Thread.{Configuration, starting_configuration, AccessOrEnd, ToRead, ToWrite, ToBump, ToEnd, is_access, is_opener, end_from, matching_end, is_opened_at, matching_opener, place_past_end, place_after_close, stepped, run_to, settled, demand_at, demanded, past_access, past_demanded, configuration_after, FitsUpdate, FitsFrom, FitsToEnd}
use Rattle.octet_model.specs.Journals.{access_count}
use Rattle.octet_gen.specs.Generated.{loop_round}

-- a read into register 2, or a write of register 0
pub data IsDrawn : Command → Type 0 where
  a-read : (object : ℕ) → IsDrawn (Read 2 object)
  a-write : (object : ℕ) → IsDrawn (Write object 0)

drawn_is_access : (c : Command) → IsDrawn c → is_access c ≡ true
drawn_is_access _ (a-read object) = refl
drawn_is_access _ (a-write object) = refl

drawn_is_no_opener : (c : Command) → IsDrawn c → is_opener c ≡ false
drawn_is_no_opener _ (a-read object) = refl
drawn_is_no_opener _ (a-write object) = refl

abbrev at : ℕ → List ℕ → ℕ → Configuration
at place registers fuel = record { place = place; registers = registers; fuel = fuel }

-- ---- runs up to an access

module _ (commands : List Command) where
  abbrev run : ℕ → Configuration → Configuration
  run fuel c = run_to is_access commands fuel c

  abbrev at_command : ℕ → Configuration → Option Command → Configuration
  at_command fuel c o = elim o [ None ↦ c | Some command ↦ elim (is_access command) [ true ↦ c | false ↦ run fuel (stepped commands c command) ] ]

  abbrev at_kind : ℕ → Configuration → Command → Bool → Configuration
  at_kind fuel c command b = elim b [ true ↦ c | false ↦ run fuel (stepped commands c command) ]

  one_step : (fuel : ℕ) (c : Configuration) (o : Option Command) → slice_get commands c.place ≡ o → run (suc fuel) c ≡ at_command fuel c o
  one_step fuel c o is = ap (at_command fuel c) is

  stays : (fuel : ℕ) (c : Configuration) (command : Command) → slice_get commands c.place ≡ Some command → is_access command ≡ true → run fuel c ≡ c
  stays zero c command is access = refl
  stays (suc fuel) c command is access = one_step fuel c (Some command) is ∙ ap (at_kind fuel c command) access

  stays_past : (fuel : ℕ) (c : Configuration) → slice_get commands c.place ≡ None → run fuel c ≡ c
  stays_past zero c is = refl
  stays_past (suc fuel) c is = one_step fuel c None is

  -- what a configuration demands, and where it is past that, follow from where it settles
  same_demand : (c d : Configuration) → settled commands c ≡ settled commands d → demanded commands c ≡ demanded commands d
  same_demand c d same = ap (λ (e : Configuration). demand_at (slice_get commands e.place) e) same

  same_past : (c d : Configuration) (value : ℕ) → settled commands c ≡ settled commands d → past_demanded commands c value ≡ past_demanded commands d value
  same_past c d value same = ap (λ (e : Configuration). past_access (slice_get commands e.place) e value) same

  past_same : (journal : List Event) (c d : Configuration) (value : ℕ) → settled commands c ≡ settled commands d → (Fits : AccessOrEnd → Type 0)
      → (Fits (demanded commands c) × FitsFrom commands (past_demanded commands c value) journal) × ((end : End) × (demanded commands (configuration_after commands (past_demanded commands c value) journal) ≡ ToEnd end))
      → (Fits (demanded commands d) × FitsFrom commands (past_demanded commands d value) journal) × ((end : End) × (demanded commands (configuration_after commands (past_demanded commands d value) journal) ≡ ToEnd end))
  past_same journal c d value same Fits fits =
      let p : past_demanded commands c value ≡ past_demanded commands d value = same_past c d value same in (
        (subst Fits (same_demand c d same) fits.0.0, subst (λ e. FitsFrom commands e journal) p fits.0.1),
        subst (λ e. (end : End) × (demanded commands (configuration_after commands e journal) ≡ ToEnd end)) p fits.1,
      )

  same_fit : (journal : List Event) (c d : Configuration) → settled commands c ≡ settled commands d → FitsToEnd commands c journal → FitsToEnd commands d journal
  same_fit [] c d same fits = (tt, (fits.1.0, sym (same_demand c d same) ∙ fits.1.1))
  same_fit (Read object value ∷ journal) c d same fits = past_same journal c d value same (λ demand. demand ≡ ToRead object) fits
  same_fit (Write object value ∷ journal) c d same fits = past_same journal c d value same (λ demand. demand ≡ ToWrite object value) fits
  same_fit (Update object before after ∷ journal) c d same fits = past_same journal c d after same (λ demand. FitsUpdate demand object before after) fits
  same_fit (Marked mark ∷ journal) c d same fits = same_fit journal c d same fits

  -- at its end a thread makes no access
  none_at_end : (journal : List Event) (c : Configuration) (end : End) → demanded commands c ≡ ToEnd end → FitsToEnd commands c journal → access_count journal ≡ 0
  none_at_end [] c end ended fits = refl
  none_at_end (Read object value ∷ journal) c end ended fits = absurd (let two : ToEnd end ≡ ToRead object = sym ended ∙ fits.0.0 in cc)
  none_at_end (Write object value ∷ journal) c end ended fits = absurd (let two : ToEnd end ≡ ToWrite object value = sym ended ∙ fits.0.0 in cc)
  none_at_end (Update object before after ∷ journal) c end ended fits = absurd (let two : ToEnd end ≡ ToBump object fits.0.0.0 = sym ended ∙ fits.0.0.1 in cc)
  none_at_end (Marked mark ∷ journal) c end ended fits = none_at_end journal c end ended fits

-- ---- where the loop's end and its opener lead

-- the commands after the accesses
abbrev tail : List Command
tail = Safe ∷ Sub 0 0 1 ∷ Close ∷ []

in_tail : (xs : List Command) (place i : ℕ) → place ≡ length xs + i → slice_get (xs ++ tail) place ≡ slice_get tail i
in_tail [] place i is = ap (slice_get tail) (omega arith)
in_tail (x ∷ xs) zero i is = absurd (omega arith)
in_tail (x ∷ xs) (suc place) i is = in_tail xs place i (omega arith)

end_past_one : (c : Command) (rest : List Command) (place : ℕ) → IsDrawn c → end_from 1 place (c ∷ rest) ≡ end_from 1 (suc place) rest
end_past_one _ rest place (a-read object) = refl
end_past_one _ rest place (a-write object) = refl

end_past : (xs : List Command) (place end : ℕ) → All IsDrawn xs → end ≡ length xs + place → end_from 1 place (xs ++ tail) ≡ end_from 1 end tail
end_past [] place end drawn is = ap (λ p. end_from 1 p tail) (omega arith)
end_past (x ∷ xs) place end drawn is =
    end_past_one x (xs ++ tail) place (drawn 0 x (omega arith)) ∙ end_past xs (suc place) end (λ k d lt. drawn (suc k) d (omega arith)) (omega arith)

module _ (accesses : List Command) (drawn : All IsDrawn accesses) (many : length accesses ≡ 16) where
  abbrev commands : List Command
  commands = loop_round accesses

  at_safe : slice_get commands 19 ≡ Some Safe
  at_safe = in_tail accesses 16 0 (omega arith)

  at_sub : slice_get commands 20 ≡ Some (Sub 0 0 1)
  at_sub = in_tail accesses 17 1 (omega arith)

  at_close : slice_get commands 21 ≡ Some Close
  at_close = in_tail accesses 18 2 (omega arith)

  at_end : slice_get commands 22 ≡ None
  at_end = in_tail accesses 19 3 (omega arith)

  access_there : (i : ℕ) → i < 16 → slice_get commands (suc (suc (suc i))) ≡ Some (get_or accesses i Safe)
  access_there i lt = slice_get-append accesses tail i (get_or accesses i Safe) (slice_get-get_or accesses i Safe (omega arith))

  access_drawn : (i : ℕ) → i < 16 → IsDrawn (get_or accesses i Safe)
  access_drawn i lt = drawn i Safe (omega arith)

  loop_ends_at : matching_end commands 2 ≡ 21
  loop_ends_at = end_past accesses 3 19 drawn (omega arith)

  no_opener : (place : ℕ) (command : Command) → slice_get commands place ≡ Some command → is_opener command ≡ false → matching_opener commands 21 (suc place) ≡ matching_opener commands 21 place
  no_opener place command there plain =
      let closed : is_opened_at commands place 21 ≡ false =
      ap (λ o. elim o [ None ↦ false | Some command ↦ is_opener command && (matching_end commands place == 21) ]) there ∙ ap (λ b. b && (matching_end commands place == 21)) plain in
      ap (λ (b : Bool). elim b [ true ↦ place | false ↦ matching_opener commands 21 place ]) closed

  down : (i : ℕ) → i ≤ 16 → matching_opener commands 21 (suc (suc (suc i))) ≡ matching_opener commands 21 3
  down zero le = refl
  down (suc i) le = no_opener (suc (suc (suc i))) (get_or accesses i Safe) (access_there i (omega arith)) (drawn_is_no_opener (get_or accesses i Safe) (access_drawn i (omega arith))) ∙ down i (omega arith)

  opened_at : matching_opener commands 21 21 ≡ 2
  opened_at =
      no_opener 20 (Sub 0 0 1) at_sub refl ∙ no_opener 19 Safe at_safe refl ∙ down 16 (omega arith)
      ∙ ap (λ (n : ℕ). elim (n == 21) [ true ↦ 2 | false ↦ matching_opener commands 21 2 ]) loop_ends_at

  leads_back : place_after_close commands 21 ≡ 2
  leads_back = ap (λ m. place_past_end (slice_get commands m) m 21) opened_at

  -- ---- one turn of the loop after its accesses

  -- the registers by the turns that are left
  record HasCounter (turns : ℕ) (registers : List ℕ) : Type 0 where
    left : get_or registers 0 0 ≡ turns
    one : get_or registers 1 0 ≡ 1
    all : 2 < length registers

  turned : (turns fuel : ℕ) (registers : List ℕ) → turns < 2 ^ 64 → HasCounter (suc turns) registers
      → settled commands (at 19 registers (suc (suc (suc (suc fuel))))) ≡ run commands fuel (at (if turns == 0 then 22 else 3) (set registers 0 turns) fuel)
  turned turns fuel registers fits has =
      let value : (get_or registers 0 0 + 2 ^ 64 - get_or registers 1 0) % 2 ^ 64 ≡ turns = omega (arith, has.left, has.one) in
      one_step commands (suc (suc (suc fuel))) (at 19 registers (suc (suc (suc (suc fuel))))) (Some Safe) at_safe
      ∙ one_step commands (suc (suc fuel)) (at 20 registers (suc (suc (suc fuel)))) (Some (Sub 0 0 1)) at_sub
      ∙ ap (λ n. run commands (suc (suc fuel)) (at 21 (set registers 0 n) (suc (suc fuel)))) value
      ∙ one_step commands (suc fuel) (at 21 (set registers 0 turns) (suc (suc fuel))) (Some Close) at_close
      ∙ ap (λ place. run commands (suc fuel) (at place (set registers 0 turns) (suc fuel))) leads_back
      ∙ ap (λ n. run commands fuel (at (if n == 0 then suc (matching_end commands 2) else 3) (set registers 0 turns) fuel)) (get_or-set_same registers 0 turns 0 (omega (arith, has.all)))
      ∙ ap (λ end. run commands fuel (at (if turns == 0 then suc end else 3) (set registers 0 turns) fuel)) loop_ends_at

  -- ---- one access

  past_drawn : (command : Command) → IsDrawn command → (place value fuel turns : ℕ) (registers : List ℕ) → HasCounter turns registers
      → (after : List ℕ) × HasCounter turns after × (past_access (Some command) (at place registers (suc fuel)) value ≡ at (suc place) after fuel)
  past_drawn _ (a-read object) place value fuel turns registers has = (
    set registers 2 value,
    record {
      left = get_or-set_other registers 2 0 value 0 (λ same. omega arith) ∙ has.left;
      one = get_or-set_other registers 2 1 value 0 (λ same. omega arith) ∙ has.one;
      all = omega (arith, length-set registers 2 value, has.all);
    },
    refl,
  )
  past_drawn _ (a-write object) place value fuel turns registers has = (registers, has, refl)

  no_end : (command : Command) → IsDrawn command → (place fuel : ℕ) (registers : List ℕ) (end : End) → demand_at (Some command) (at place registers (suc fuel)) ≡ ToEnd end → ⊥
  no_end _ (a-read object) place fuel registers end is = cc
  no_end _ (a-write object) place fuel registers end is = cc

  module _ (i fuel : ℕ) (registers : List ℕ) (lt : i < 16) where
    abbrev here : Configuration
    here = at (suc (suc (suc i))) registers (suc fuel)

    abbrev there : Command
    there = get_or accesses i Safe

    settled_there : settled commands here ≡ here
    settled_there = stays commands (suc fuel) here there (access_there i lt) (drawn_is_access there (access_drawn i lt))

    not_ended : (end : End) → demanded commands here ≡ ToEnd end → ⊥
    not_ended end is =
        no_end there (access_drawn i lt) (suc (suc (suc i))) fuel registers end
        (ap (λ o. demand_at o here) (sym (access_there i lt)) ∙ ap (λ (e : Configuration). demand_at (slice_get commands e.place) e) (sym settled_there) ∙ is)

    past_there : (value turns : ℕ) → HasCounter turns registers → (after : List ℕ) × HasCounter turns after × (past_demanded commands here value ≡ at (suc (suc (suc (suc i)))) after fuel)
    past_there value turns has =
        let p = past_drawn there (access_drawn i lt) (suc (suc (suc i))) value fuel turns registers has in
        (p.0, p.1, ap (λ (e : Configuration). past_access (slice_get commands e.place) e value) settled_there ∙ ap (λ o. past_access o here value) (access_there i lt) ∙ p.2)

  -- ---- all accesses

  -- at the i-th access of a turn, by the accesses left in it and the turns after it
  abbrev CountsFrom : List Event → Type 0
  CountsFrom journal = (i more turns fuel rest : ℕ) (registers : List ℕ) → i + suc more ≡ 16 → turns < 2 ^ 64 → HasCounter (suc turns) registers → fuel ≡ more + 4 + 20 * turns + rest
      → FitsToEnd commands (at (suc (suc (suc i))) registers (suc fuel)) journal → access_count journal ≡ suc more + 16 * turns

  past_turn : (journal : List Event) → CountsFrom journal → (turns rest : ℕ) (registers : List ℕ) → turns < 2 ^ 64 → HasCounter (suc turns) registers
      → FitsToEnd commands (at 19 registers (suc (suc (suc (suc (20 * turns + rest)))))) journal → access_count journal ≡ 16 * turns
  past_turn journal next zero rest registers fits has fit =
      let last : Configuration = at 22 (set registers 0 0) (20 * 0 + rest) in
      let ended : demanded commands last ≡ ToEnd Done =
      ap (λ (e : Configuration). demand_at (slice_get commands e.place) e) (stays_past commands (20 * 0 + rest) last at_end) ∙ ap (λ o. demand_at o last) at_end in
      none_at_end commands journal last Done ended (same_fit commands journal (at 19 registers (suc (suc (suc (suc (20 * 0 + rest)))))) last (turned 0 (20 * 0 + rest) registers fits has) fit)
  past_turn journal next (suc turns) rest registers fits has fit =
      let again : ℕ = 15 + 4 + 20 * turns + rest in
      let more : 20 * suc turns + rest ≡ suc again = omega arith in
      let counter : HasCounter (suc turns) (set registers 0 (suc turns)) = record {
        left = get_or-set_same registers 0 (suc turns) 0 (omega (arith, has.all));
        one = get_or-set_other registers 0 1 (suc turns) 0 (λ same. omega arith) ∙ has.one;
        all = omega (arith, length-set registers 0 (suc turns), has.all);
      } in
      let back : FitsToEnd commands (at 3 (set registers 0 (suc turns)) (20 * suc turns + rest)) journal =
      same_fit commands journal (at 19 registers (suc (suc (suc (suc (20 * suc turns + rest)))))) (at 3 (set registers 0 (suc turns)) (20 * suc turns + rest))
      (turned (suc turns) (20 * suc turns + rest) registers fits has
      ∙ ap (λ (b : Bool). run commands (20 * suc turns + rest) (at (if b then 22 else 3) (set registers 0 (suc turns)) (20 * suc turns + rest))) (ne_eqb (suc turns) 0 (λ same. omega arith))) fit in
      let count : access_count journal ≡ 16 + 16 * turns = next 0 15 turns again rest (set registers 0 (suc turns)) (omega arith) (omega arith) counter refl
      (subst (λ f. FitsToEnd commands (at 3 (set registers 0 (suc turns)) f) journal) more back) in
      omega arith

  past_access_there : (journal : List Event) → CountsFrom journal → (i more turns fuel rest value : ℕ) (registers : List ℕ) → i + suc more ≡ 16 → turns < 2 ^ 64 → HasCounter (suc turns) registers
      → fuel ≡ more + 4 + 20 * turns + rest → FitsToEnd commands (past_demanded commands (at (suc (suc (suc i))) registers (suc fuel)) value) journal → access_count journal ≡ more + 16 * turns
  past_access_there journal next i zero turns fuel rest value registers at_last fits has enough fit =
      let p = past_there i fuel registers (omega arith) value (suc turns) has in
      let place : suc (suc (suc (suc i))) ≡ 19 = omega arith in
      let fuelled : fuel ≡ suc (suc (suc (suc (20 * turns + rest)))) = omega arith in
      let on : FitsToEnd commands (at 19 p.0 (suc (suc (suc (suc (20 * turns + rest)))))) journal =
      subst (λ (c : Configuration). FitsToEnd commands c journal) (p.2 ∙ ap (λ n. at n p.0 fuel) place ∙ ap (λ f. at 19 p.0 f) fuelled) fit in
      let count : access_count journal ≡ 16 * turns = past_turn journal next turns rest p.0 fits p.1 on in
      omega arith
  past_access_there journal next i (suc more) turns fuel rest value registers at_last fits has enough fit =
      let p = past_there i fuel registers (omega arith) value (suc turns) has in
      let less : ℕ = more + 4 + 20 * turns + rest in
      let fuelled : fuel ≡ suc less = omega arith in
      let on : FitsToEnd commands (at (suc (suc (suc (suc i)))) p.0 (suc less)) journal =
      subst (λ (c : Configuration). FitsToEnd commands c journal) (p.2 ∙ ap (λ f. at (suc (suc (suc (suc i)))) p.0 f) fuelled) fit in
      next (suc i) more turns less rest p.0 (omega arith) fits p.1 refl on

  counts_from : (journal : List Event) → CountsFrom journal
  counts_from [] i more turns fuel rest registers at_last fits has enough fit = absurd (not_ended i fuel registers (omega arith) fit.1.0 fit.1.1)
  counts_from (Read object value ∷ journal) i more turns fuel rest registers at_last fits has enough fit =
      ap suc (past_access_there journal (counts_from journal) i more turns fuel rest value registers at_last fits has enough (fit.0.1, fit.1)) ∙ omega arith
  counts_from (Write object value ∷ journal) i more turns fuel rest registers at_last fits has enough fit =
      ap suc (past_access_there journal (counts_from journal) i more turns fuel rest value registers at_last fits has enough (fit.0.1, fit.1)) ∙ omega arith
  counts_from (Update object before after ∷ journal) i more turns fuel rest registers at_last fits has enough fit =
      ap suc (past_access_there journal (counts_from journal) i more turns fuel rest after registers at_last fits has enough (fit.0.1, fit.1)) ∙ omega arith
  counts_from (Marked mark ∷ journal) i more turns fuel rest registers at_last fits has enough fit = counts_from journal i more turns fuel rest registers at_last fits has enough fit

  pub loop_makes_its_accesses : (journal : List Event) → FitsToEnd commands (starting_configuration 32768) journal → access_count journal ≡ 20000
  loop_makes_its_accesses journal fit =
      let registers : List ℕ = set (set (replicate REGISTERS 0) 0 1250) 1 1 in
      let first : FitsToEnd commands (at 3 registers 32765) journal = same_fit commands journal (starting_configuration 32768) (at 3 registers 32765) refl fit in
      counts_from journal 0 15 1249 32764 7765 registers refl (omega arith) (record { left = refl; one = refl; all = omega arith }) refl first
