-- A journal fits its straight-line program to its end.
use Rattle.std.proofs.Common.{◌≡◌, ◌∙◌, ℕ, zero, suc, pred, ◌+◌, ◌^◌, ◌<◌, ◌≤◌, Bool, true, false, List, [], ◌∷◌, ◌++◌, length, Option, Some, None, slice_get, slice_index, slice_set, refl, sym, ap, subst, lit<, arith}
use Rattle.std.specs.List.{list_all}
use Rattle.std.proofs.lemmas.Bool.{and_from, and_parts, lt-ltb}
use Rattle.std.proofs.lemmas.List.{append_assoc, length-set, length-append}
use Rattle.octet_model.specs.declared.command.Command.{Command}
use Rattle.octet_model.specs.declared.command.Command.TheVariants as command
use Rattle.octet_model.specs.declared.event.Event.{Event}
use Rattle.octet_model.specs.declared.event.Event.TheVariants.{Read, Write, Update, Marked}
use Rattle.octet_model.specs.declared.outcome.End.TheVariants.{Done, Spent}
use Rattle.octet_model.specs.Thread.{Configuration, AccessOrEnd, ToRead, ToWrite, ToBump, ToEnd, starting_configuration, with_register, moved_to, stepped, is_access, run_to, settled, demand_at, demanded, past_access, past_demanded}
use Rattle.octet_model.specs.Script.{is_command, is_nested, is_thread}
use Rattle.octet_recorder.specs.Programs.{region_lines, read_lines, write_lines, bump_lines, Begins, IsWithin, IsProgramWith, FitsAll, ProgramFits, ProgramIsLong, ProgramIsValid, ProgramsJoin}

-- from a place on the commands are these
record From (commands : List Command) (place : ℕ) (rest : List Command) : Type 0 where
  each : (k : ℕ) → slice_get commands (place + k) ≡ slice_get rest k

at_first : (commands : List Command) (place : ℕ) (rest : List Command) → From commands place rest → slice_get commands place ≡ slice_get rest 0
at_first commands place rest from = let here : place ≡ place + 0 = omega arith in ap (λ (k : ℕ). slice_get commands k) here ∙ from.each 0

past_first : (commands : List Command) (place : ℕ) (first : Command) (rest : List Command) → From commands place (first ∷ rest) → From commands (suc place) rest
past_first commands place first rest from = record {
  each = λ k. let next : suc place + k ≡ place + suc k = omega arith in ap (λ (n : ℕ). slice_get commands n) next ∙ from.each (suc k);
}

module _ (commands : List Command) where
  -- a configuration with these commands before it, a register, and fuel for each of them
  record Stands (c : Configuration) (rest : List Command) : Type 0 where
    from : From commands c.place rest
    registers : 0 < length c.registers
    fuelled : length rest ≤ c.fuel

  abbrev at_command : ℕ → Configuration → Option Command → Configuration
  at_command fuel c o =
      elim o [ None ↦ c | Some command ↦ elim (is_access command) [ true ↦ c | false ↦ run_to is_access commands fuel (stepped commands c command) ] ]

  settles : (c : Configuration) (fuel : ℕ) (o : Option Command) → c.fuel ≡ suc fuel → slice_get commands c.place ≡ o → settled commands c ≡ at_command fuel c o
  settles c fuel o is at = ap (λ (f : ℕ). run_to is_access commands f c) is ∙ ap (at_command fuel c) at

  -- it goes on to there, past commands that are no access
  record Comes (c : Configuration) (rest : List Command) : Type 0 where
    to : Configuration
    stands : Stands to rest
    same : settled commands c ≡ settled commands to

  moved : (c d : Configuration) (first : Command) (rest : List Command) → Stands c (first ∷ rest) → d.place ≡ suc c.place → length d.registers ≡ length c.registers → d.fuel ≡ pred c.fuel → Stands d rest
  moved c d first rest s place registers fuel = record {
    from = subst (λ (n : ℕ). From commands n rest) (sym place) (past_first commands c.place first rest s.from);
    registers = let r = s.registers in omega arith;
    fuelled = let f = s.fuelled in omega arith;
  }

  set_on : (c : Configuration) (value : ℕ) (rest : List Command) → Stands c (command.Set 0 value ∷ rest) → Stands (with_register c 0 value) rest × (settled commands c ≡ settled commands (with_register c 0 value))
  set_on c value rest s =
      let f = s.fuelled in
      let is : c.fuel ≡ suc (pred c.fuel) = omega arith in (
        moved c (with_register c 0 value) (command.Set 0 value) rest s refl (length-set c.registers 0 value) refl,
        settles c (pred c.fuel) (Some (command.Set 0 value)) is (at_first commands c.place (command.Set 0 value ∷ rest) s.from),
      )

  region_on : (c : Configuration) (region : Bool) (rest : List Command) → Stands c (region_lines region ++ rest) → Comes c rest
  region_on c false rest s = record { to = c; stands = s; same = refl }
  region_on c true rest s =
      let f = s.fuelled in
      let is : c.fuel ≡ suc (pred c.fuel) = omega arith in record {
        to = moved_to c (suc c.place);
        stands = moved c (moved_to c (suc c.place)) command.Region rest s refl refl refl;
        same = settles c (pred c.fuel) (Some command.Region) is (at_first commands c.place (command.Region ∷ rest) s.from);
      }

  -- what a configuration demands, and where it is past it, follow from where it settles
  abbrev demand_by : Configuration → AccessOrEnd
  demand_by d = demand_at (slice_get commands d.place) d

  abbrev past_by : ℕ → Configuration → Configuration
  past_by value d = past_access (slice_get commands d.place) d value

  -- past this demand these commands are left
  record Demands (c : Configuration) (demand : AccessOrEnd) (rest : List Command) : Type 0 where
    demands : demanded commands c ≡ demand
    stands : (value : ℕ) → Stands (past_demanded commands c value) rest

  demands_as : (c d : Configuration) (demand : AccessOrEnd) (rest : List Command) → settled commands c ≡ settled commands d → Demands d demand rest → Demands c demand rest
  demands_as c d demand rest same demands = record {
    demands = ap demand_by same ∙ demands.demands;
    stands = λ value. subst (λ (x : Configuration). Stands x rest) (sym (ap (past_by value) same)) (demands.stands value);
  }

  -- at an access it stops
  demands_at : (c : Configuration) (first : Command) (demand : AccessOrEnd) (rest : List Command) → Stands c (first ∷ rest) → is_access first ≡ true
      → demand_at (Some first) c ≡ demand → ((value : ℕ) → Stands (past_access (Some first) c value) rest) → Demands c demand rest
  demands_at c first demand rest s stops told past =
      let f = s.fuelled in
      let is : c.fuel ≡ suc (pred c.fuel) = omega arith in
      let at = at_first commands c.place (first ∷ rest) s.from in
      let stays : settled commands c ≡ c = settles c (pred c.fuel) (Some first) is at ∙ ap (λ (b : Bool). elim b as (λ x. Configuration) [ true ↦ c | false ↦ run_to is_access commands (pred c.fuel) (stepped commands c first) ]) stops in record {
        demands = ap demand_by stays ∙ (ap (λ (o : Option Command). demand_at o c) at ∙ told);
        stands = λ value. subst (λ (x : Configuration). Stands x rest) (sym (ap (past_by value) stays ∙ ap (λ (o : Option Command). past_access o c value) at)) (past value);
      }

  abbrev fuelled_demand : AccessOrEnd → ℕ → AccessOrEnd
  fuelled_demand demand n = elim n as (λ k. AccessOrEnd) [ zero ↦ ToEnd Spent | suc k ↦ demand ]

  has_fuel : (c : Configuration) (first : Command) (rest : List Command) (demand : AccessOrEnd) → Stands c (first ∷ rest) → fuelled_demand demand c.fuel ≡ demand
  has_fuel c first rest demand s = let f = s.fuelled in let is : c.fuel ≡ suc (pred c.fuel) = omega arith in ap (fuelled_demand demand) is

  read_at : (c : Configuration) (object : ℕ) (rest : List Command) → Stands c (read_lines object ++ rest) → Demands c (ToRead object) rest
  read_at c object rest s =
      demands_at c (command.Read 1 object) (ToRead object) rest s refl (has_fuel c (command.Read 1 object) rest (ToRead object) s)
      (λ value. moved c (with_register c 1 value) (command.Read 1 object) rest s refl (length-set c.registers 1 value) refl)

  first_is : (registers : List ℕ) (value : ℕ) → 0 < length registers → slice_index (slice_set registers 0 value) 0 ≡ value
  first_is [] value some = absurd (omega (arith, some))
  first_is (x ∷ registers) value some = refl

  write_at : (c : Configuration) (object value : ℕ) (rest : List Command) → Stands c (write_lines object value ++ rest) → Demands c (ToWrite object value) rest
  write_at c object value rest s =
      let (stands, same) = set_on c value (command.Write object 0 ∷ rest) s in
      let d = with_register c 0 value in
      demands_as c d (ToWrite object value) rest same
      (demands_at d (command.Write object 0) (ToWrite object value) rest stands refl
      (has_fuel d (command.Write object 0) rest (ToWrite object (slice_index d.registers 0)) stands ∙ ap (λ (v : ℕ). ToWrite object v) (first_is c.registers value s.registers))
      (λ told. moved d (moved_to d (suc d.place)) (command.Write object 0) rest stands refl refl refl))

  bump_at : (c : Configuration) (object amount : ℕ) (rest : List Command) → Stands c (bump_lines object amount ++ rest) → Demands c (ToBump object amount) rest
  bump_at c object amount rest s =
      let (stands, same) = set_on c amount (command.Bump object 0 ∷ rest) s in
      let d = with_register c 0 amount in
      demands_as c d (ToBump object amount) rest same
      (demands_at d (command.Bump object 0) (ToBump object amount) rest stands refl
      (has_fuel d (command.Bump object 0) rest (ToBump object (slice_index d.registers 0)) stands ∙ ap (λ (v : ℕ). ToBump object v) (first_is c.registers amount s.registers))
      (λ told. moved d (moved_to d (suc d.place)) (command.Bump object 0) rest stands refl refl refl))

  begins : (c : Configuration) (program lines rest : List Command) (demand : AccessOrEnd) → Stands c program → Begins program lines rest
      → ((d : Configuration) → Stands d (lines ++ rest) → Demands d demand rest) → Demands c demand rest
  begins c program lines rest demand s b at =
      let comes = region_on c b.region (lines ++ rest) (subst (λ (p : List Command). Stands c p) b.is s) in
      demands_as c comes.to demand rest comes.same (at comes.to comes.stands)

  ends : (c : Configuration) → Stands c [] → demanded commands c ≡ ToEnd Done
  ends c s = go c.fuel refl
    where
      none : slice_get commands c.place ≡ None
      none = at_first commands c.place [] s.from

      told : settled commands c ≡ c → demanded commands c ≡ ToEnd Done
      told stays = ap demand_by stays ∙ ap (λ (o : Option Command). demand_at o c) none

      go : (fuel : ℕ) → c.fuel ≡ fuel → demanded commands c ≡ ToEnd Done
      go zero is = told (ap (λ (f : ℕ). run_to is_access commands f c) is)
      go (suc fuel) is = told (settles c fuel None is none)

  fits : (Holds : ℕ → ℕ → Type 0) (c : Configuration) (program : List Command) (journal : List Event) → Stands c program → IsProgramWith Holds program journal → FitsAll commands c journal
  fits Holds c program [] s p = (tt, ends c (subst (λ (l : List Command). Stands c l) p s))
  fits Holds c program (Read object value ∷ journal) s p =
      let d = begins c program (read_lines object) p.0 (ToRead object) s p.2 (λ d t. read_at d object p.0 t) in
      let more = fits Holds (past_demanded commands c value) p.0 journal (d.stands value) p.3 in
      ((d.demands, more.0), more.1)
  fits Holds c program (Write object value ∷ journal) s p =
      let d = begins c program (write_lines object value) p.0 (ToWrite object value) s p.2 (λ d t. write_at d object value p.0 t) in
      let more = fits Holds (past_demanded commands c value) p.0 journal (d.stands value) p.3 in
      ((d.demands, more.0), more.1)
  fits Holds c program (Update object before after ∷ journal) s p =
      let d = begins c program (bump_lines object p.1) p.0 (ToBump object p.1) s p.4 (λ d t. bump_at d object p.1 p.0 t) in
      let more = fits Holds (past_demanded commands c after) p.0 journal (d.stands after) p.5 in
      (((p.1, d.demands, p.3), more.0), more.1)
  fits Holds c program (Marked mark ∷ journal) s p = fits Holds c program journal s p

-- whatever holds of its accesses
pub program_fits_with : (Holds : ℕ → ℕ → Type 0) (fuel : ℕ) (program : List Command) (journal : List Event)
    → IsProgramWith Holds program journal → length program ≤ fuel → FitsAll program (starting_configuration fuel) journal
program_fits_with Holds fuel program journal p fuelled =
    fits program Holds (starting_configuration fuel) program journal
    (record { from = record { each = λ k. ap (λ (n : ℕ). slice_get program n) (omega arith) }; registers = lit< tt; fuelled = fuelled }) p

pub program_fits : ProgramFits
program_fits objects fuel program journal p fuelled = program_fits_with (IsWithin objects) fuel program journal p fuelled

-- the lines of an access make the program longer by one at least
longer : (program lines rest : List Command) → Begins program lines rest → 0 < length lines → suc (length rest) ≤ length program
longer program lines rest b some =
    omega (arith, ap (λ (l : List Command). length l) b.is, length-append (region_lines b.region) (lines ++ rest), length-append lines rest)

pub program_long : ProgramIsLong
program_long objects program [] p = omega arith
program_long objects program (Read object value ∷ journal) p = omega (arith, program_long objects p.0 journal p.3, longer program (read_lines object) p.0 p.2 (lit< tt))
program_long objects program (Write object value ∷ journal) p = omega (arith, program_long objects p.0 journal p.3, longer program (write_lines object value) p.0 p.2 (lit< tt))
program_long objects program (Update object before after ∷ journal) p = omega (arith, program_long objects p.0 journal p.5, longer program (bump_lines object p.1) p.0 p.4 (lit< tt))
program_long objects program (Marked mark ∷ journal) p = program_long objects program journal p

-- validity, as it is tested: lines that are valid, and that open and close nothing
record IsPlain (objects : ℕ) (lines : List Command) : Type 0 where
  valid : (rest : List Command) → list_all (is_command objects) rest ≡ true → list_all (is_command objects) (lines ++ rest) ≡ true
  nested : (rest : List Command) → is_nested 0 rest ≡ true → is_nested 0 (lines ++ rest) ≡ true

plain_begins : (objects : ℕ) (program lines rest : List Command) → Begins program lines rest → IsPlain objects lines → is_thread objects rest ≡ true → is_thread objects program ≡ true
plain_begins objects program lines rest b plain is = subst (λ (l : List Command). is_thread objects l ≡ true) (sym b.is) (go b.region)
  where
    commands : list_all (is_command objects) rest ≡ true
    commands = (and_parts (list_all (is_command objects) rest) (is_nested 0 rest) is).0

    nested : is_nested 0 rest ≡ true
    nested = (and_parts (list_all (is_command objects) rest) (is_nested 0 rest) is).1

    go : (region : Bool) → is_thread objects (region_lines region ++ (lines ++ rest)) ≡ true
    go false = and_from _ _ (plain.valid rest commands) (plain.nested rest nested)
    go true = and_from _ _ (plain.valid rest commands) (plain.nested rest nested)

plain_read : (objects object : ℕ) → object < objects → IsPlain objects (read_lines object)
plain_read objects object there = record { valid = λ rest is. and_from _ _ (lt-ltb object objects there) is; nested = λ rest is. is }

plain_write : (objects object value : ℕ) → IsWithin objects object value → IsPlain objects (write_lines object value)
plain_write objects object value within = record {
  valid = λ rest is. and_from _ _ (lt-ltb value (2 ^ 64) within.1) (and_from _ _ (lt-ltb object objects within.0) is);
  nested = λ rest is. is;
}

plain_bump : (objects object value : ℕ) → IsWithin objects object value → IsPlain objects (bump_lines object value)
plain_bump objects object value within = record {
  valid = λ rest is. and_from _ _ (lt-ltb value (2 ^ 64) within.1) (and_from _ _ (lt-ltb object objects within.0) is);
  nested = λ rest is. is;
}

pub program_valid : ProgramIsValid
program_valid objects program [] p = subst (λ (l : List Command). is_thread objects l ≡ true) (sym p) refl
program_valid objects program (Read object value ∷ journal) p = plain_begins objects program (read_lines object) p.0 p.2 (plain_read objects object p.1.0) (program_valid objects p.0 journal p.3)
program_valid objects program (Write object value ∷ journal) p = plain_begins objects program (write_lines object value) p.0 p.2 (plain_write objects object value p.1) (program_valid objects p.0 journal p.3)
program_valid objects program (Update object before after ∷ journal) p = plain_begins objects program (bump_lines object p.1) p.0 p.4 (plain_bump objects object p.1 p.2) (program_valid objects p.0 journal p.5)
program_valid objects program (Marked mark ∷ journal) p = program_valid objects program journal p

begins_more : (program lines rest more : List Command) → Begins program lines rest → Begins (program ++ more) lines (rest ++ more)
begins_more program lines rest more b = record {
  region = b.region;
  is = ap (λ (l : List Command). l ++ more) b.is ∙ (append_assoc (region_lines b.region) (lines ++ rest) more ∙ ap (λ (l : List Command). region_lines b.region ++ l) (append_assoc lines rest more));
}

pub programs_join_with : (Holds : ℕ → ℕ → Type 0) (program more : List Command) (journal later : List Event)
    → IsProgramWith Holds program journal → IsProgramWith Holds more later → IsProgramWith Holds (program ++ more) (journal ++ later)
programs_join_with Holds program more [] later p q = subst (λ (l : List Command). IsProgramWith Holds (l ++ more) later) (sym p) q
programs_join_with Holds program more (Read object value ∷ journal) later p q =
    (p.0 ++ more, p.1, begins_more program (read_lines object) p.0 more p.2, programs_join_with Holds p.0 more journal later p.3 q)
programs_join_with Holds program more (Write object value ∷ journal) later p q =
    (p.0 ++ more, p.1, begins_more program (write_lines object value) p.0 more p.2, programs_join_with Holds p.0 more journal later p.3 q)
programs_join_with Holds program more (Update object before after ∷ journal) later p q =
    (p.0 ++ more, p.1, p.2, p.3, begins_more program (bump_lines object p.1) p.0 more p.4, programs_join_with Holds p.0 more journal later p.5 q)
programs_join_with Holds program more (Marked mark ∷ journal) later p q = programs_join_with Holds program more journal later p q

pub programs_join : ProgramsJoin
programs_join objects program more journal later p q = programs_join_with (IsWithin objects) program more journal later p q
