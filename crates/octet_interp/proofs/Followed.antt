-- A follower, step by step.
use Rattle.std.proofs.Common.{◌≡◌, ℕ, zero, suc, pred, ◌+◌, ◌<◌, ◌⊎◌, inl, inr, Bool, true, false, List, [], ◌∷◌, ◌++◌, length, Option, Some, None, slice_get, refl, sym, ap, ◌∙◌, subst, arith, length-append}
use Rattle.octet_model.specs.declared.command.Command.{Command}
use Rattle.octet_model.specs.declared.command.Command.TheVariants.{Region}
use Rattle.octet_model.specs.declared.event.Event.{Event}
use Rattle.octet_model.specs.declared.event.Event.TheVariants.{Read, Write, Update, Marked}
use Rattle.octet_model.specs.declared.event.Mark.{Mark}
use Rattle.octet_model.specs.Thread.{Configuration, stepped, settled, is_access, past_access, past_demanded, configuration_after}
use Rattle.octet_model.proofs.lemmas.Splits.{configuration_split}
use Rattle.octet_interp.specs.Regions.{region_count, regions_to, regions_ahead}
use Rattle.octet_interp.specs.Following.{is_region, region_place, region_places, places_ahead, ends_in_mark, places_before_next, FollowerState, IsBeforeRegions, IsFollowing, IsBeforeAccess}
use Rattle.octet_interp.proofs.Runs.{one_fuel}
use Rattle.octet_interp.proofs.RegionsRun.{before_access, before_mark, CountsOn}

module _ (commands : List Command) where
  abbrev at_kind : ℕ → Configuration → Command → Bool → List ℕ
  at_kind fuel c command b = elim b [ true ↦ [] | false ↦ region_place command c.place ++ region_places commands fuel (stepped commands c command) ]

  abbrev at_command : ℕ → Configuration → Option Command → List ℕ
  at_command fuel c o = elim o [ None ↦ [] | Some command ↦ at_kind fuel c command (is_access command) ]

  pub places_on : (c : Configuration) (command : Command) → slice_get commands c.place ≡ Some command → is_access command ≡ false → 0 < c.fuel
      → places_ahead commands c ≡ region_place command c.place ++ places_ahead commands (stepped commands c command)
  places_on c command at plain fuelled =
      let n : c.fuel ≡ suc (pred c.fuel) = omega arith in
      ap (λ (f : ℕ). region_places commands f c) n ∙ ap (at_command (pred c.fuel) c) at ∙ ap (at_kind (pred c.fuel) c command) plain
      ∙ ap (λ (f : ℕ). region_place command c.place ++ region_places commands f (stepped commands c command)) (sym (one_fuel commands c command))

  none_at : (fuel : ℕ) (c : Configuration) (command : Command) → slice_get commands c.place ≡ Some command → is_access command ≡ true → region_places commands fuel c ≡ []
  none_at zero c command at stop = refl
  none_at (suc fuel) c command at stop = ap (at_command fuel c) at ∙ ap (at_kind fuel c command) stop

  none_from : (fuel : ℕ) (c : Configuration) → slice_get commands c.place ≡ None → region_places commands fuel c ≡ []
  none_from zero c at = refl
  none_from (suc fuel) c at = ap (at_command fuel c) at

  pub none_at_access : (c : Configuration) (command : Command) → slice_get commands c.place ≡ Some command → is_access command ≡ true → places_ahead commands c ≡ []
  none_at_access c command at stop = none_at c.fuel c command at stop

  pub none_past_all : (c : Configuration) → slice_get commands c.place ≡ None → places_ahead commands c ≡ []
  none_past_all c at = none_from c.fuel c at

  one_place : (command : Command) (place : ℕ) → length (region_place command place) ≡ region_count command
  one_place Region place = refl
  one_place _ place = refl

  as_many_from : (fuel : ℕ) (c : Configuration) → length (region_places commands fuel c) ≡ regions_to is_access commands fuel c
  as_many_from zero c = refl
  as_many_from (suc fuel) c = go (slice_get commands c.place) (λ command. as_many_from fuel (stepped commands c command))
    where
      kind : (command : Command) (b : Bool) → length (region_places commands fuel (stepped commands c command)) ≡ regions_to is_access commands fuel (stepped commands c command)
          → length (at_kind fuel c command b) ≡ elim b [ true ↦ 0 | false ↦ region_count command + regions_to is_access commands fuel (stepped commands c command) ]
      kind command true next = refl
      kind command false next = omega (arith, length-append (region_place command c.place) (region_places commands fuel (stepped commands c command)), one_place command c.place, next)

      go : (o : Option Command) → ((command : Command) → length (region_places commands fuel (stepped commands c command)) ≡ regions_to is_access commands fuel (stepped commands c command))
          → length (at_command fuel c o) ≡ elim o [ None ↦ 0 | Some command ↦ elim (is_access command) [ true ↦ 0 | false ↦ region_count command + regions_to is_access commands fuel (stepped commands c command) ] ]
      go None next = refl
      go (Some command) next = kind command (is_access command) (next command)

  -- the places of the `region` commands ahead are as many as are counted
  pub as_many : (c : Configuration) → length (places_ahead commands c) ≡ regions_ahead commands c
  as_many c = as_many_from c.fuel c

pub marked_last : (journal : List Event) (mark : Mark) → ends_in_mark (journal ++ Marked mark ∷ []) ≡ true
marked_last [] mark = refl
marked_last (event ∷ []) mark = refl
marked_last (event ∷ other ∷ journal) mark = marked_last (other ∷ journal) mark

-- an access, by what it leaves to be counted on
pub access_last : (journal : List Event) (event : Event) → ends_in_mark (event ∷ []) ≡ false → ends_in_mark (journal ++ event ∷ []) ≡ false
access_last [] event plain = plain
access_last (first ∷ []) event plain = plain
access_last (first ∷ other ∷ journal) event plain = access_last (other ∷ journal) event plain

-- the value that an access leaves, or read
abbrev pub IsValueOf : Event → ℕ → Type 0
IsValueOf (Read object own) value = value ≡ own
IsValueOf (Write object own) value = value ≡ own
IsValueOf (Update object old own) value = value ≡ own
IsValueOf (Marked mark) value = ⊥

abbrev places_if : FollowerState → Configuration → List Event → Bool → List ℕ
places_if s start journal b = elim b [ true ↦ [] | false ↦ places_ahead s.commands (configuration_after s.commands start journal) ]

-- past an access
pub follows_access : (start : Configuration) (journal : List Event) (event : Event) (before after : FollowerState) (value : ℕ) → IsBeforeAccess start journal before
    → after.commands ≡ before.commands → after.regions ≡ before.regions → after.at ≡ past_access (slice_get before.commands before.at.place) before.at value
    → ((c : Configuration) → configuration_after before.commands c (event ∷ []) ≡ past_demanded before.commands c value) → CountsOn before.commands event → ends_in_mark (event ∷ []) ≡ false
    → IsFollowing start (journal ++ event ∷ []) after
follows_access start journal event before after value stands commands regions at leaves on plain =
    let c = configuration_after before.commands start journal in
    let there : after.at ≡ configuration_after before.commands start (journal ++ event ∷ []) =
    at ∙ ap (λ (d : Configuration). past_access (slice_get before.commands d.place) d value) stands.stands ∙ sym (leaves c) ∙ sym (configuration_split before.commands start journal (event ∷ [])) in
    let s : FollowerState = record { commands = before.commands; at = after.at; regions = after.regions } in
    let is : after ≡ s = λ i. record { commands = commands i; at = after.at; regions = after.regions } in
    let ahead : places_ahead before.commands after.at ≡ places_before_next before.commands start (journal ++ event ∷ []) =
    ap (places_ahead before.commands) there ∙ sym (ap (places_if s start (journal ++ event ∷ [])) (access_last journal event plain)) in
    subst (IsFollowing start (journal ++ event ∷ [])) (sym is) (record {
      ahead = ahead;
      settles = ap (settled before.commands) there;
      counts = omega (
        arith,
        regions,
        stands.told.counts,
        ap (λ (l : List ℕ). length l) ahead,
        as_many before.commands after.at,
        ap (regions_ahead before.commands) (there ∙ configuration_split before.commands start journal (event ∷ [])),
        before_access before.commands start journal event on,
      );
    })

-- past a mark
pub follows_mark : (start : Configuration) (journal : List Event) (mark : Mark) (s : FollowerState) → IsBeforeAccess start journal s → IsFollowing start (journal ++ Marked mark ∷ []) s
follows_mark start journal mark s stands =
    let none : places_before_next s.commands start (journal ++ Marked mark ∷ []) ≡ [] = ap (places_if s start (journal ++ Marked mark ∷ [])) (marked_last journal mark) in
    subst (λ (places : List ℕ). IsBeforeRegions start (journal ++ Marked mark ∷ []) places s) (sym none) (record {
      ahead = stands.told.ahead;
      settles = stands.told.settles ∙ sym (ap (settled s.commands) (configuration_split s.commands start journal (Marked mark ∷ [])));
      counts = stands.told.counts ∙ sym (before_mark s.commands start journal mark);
    })

pub counts_one : (command : Command) → is_region command ≡ true → region_count command ≡ 1
counts_one Region is = refl
counts_one _ is = absurd cc

pub counts_none : (command : Command) → is_region command ≡ false → region_count command ≡ 0
counts_none Region is = absurd cc
counts_none _ is = refl

-- at the start
pub follows_none : (start : Configuration) (s : FollowerState) → s.at ≡ start → s.regions ≡ 0 → IsFollowing start [] s
follows_none start s at none = record {
  ahead = ap (places_ahead s.commands) at;
  settles = ap (settled s.commands) at;
  counts = omega (arith, none, as_many s.commands start);
}

-- an event, of either kind
pub follows_event : (start : Configuration) (journal : List Event) (event : Event) (before after : FollowerState) (value : ℕ) → IsBeforeAccess start journal before
    → after.commands ≡ before.commands → after.regions ≡ before.regions → after.at ≡ past_access (slice_get before.commands before.at.place) before.at value → IsValueOf event value
    → IsFollowing start (journal ++ event ∷ []) after
follows_event start journal (Read object own) before after value stands commands regions at is =
    follows_access start journal (Read object own) before after value stands commands regions at (λ c. ap (past_demanded before.commands c) (sym is)) (λ c. refl) refl
follows_event start journal (Write object own) before after value stands commands regions at is =
    follows_access start journal (Write object own) before after value stands commands regions at (λ c. ap (past_demanded before.commands c) (sym is)) (λ c. refl) refl
follows_event start journal (Update object old own) before after value stands commands regions at is =
    follows_access start journal (Update object old own) before after value stands commands regions at (λ c. ap (past_demanded before.commands c) (sym is)) (λ c. refl) refl
follows_event start journal (Marked mark) before after value stands commands regions at is = absurd is

pub value_is : (event : Event) (value : ℕ)
    → ((object : ℕ) × (event ≡ Read object value)) ⊎ (((object : ℕ) × (event ≡ Write object value)) ⊎ ((object : ℕ) × (old : ℕ) × (event ≡ Update object old value))) → IsValueOf event value
value_is event value (inl (object, is)) = subst (λ (e : Event). IsValueOf e value) (sym is) refl
value_is event value (inr (inl (object, is))) = subst (λ (e : Event). IsValueOf e value) (sym is) refl
value_is event value (inr (inr (object, old, is))) = subst (λ (e : Event). IsValueOf e value) (sym is) refl
