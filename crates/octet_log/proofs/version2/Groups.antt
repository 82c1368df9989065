-- A short number that is read is the one that was written, and what was written is read again; its bytes are its one spelling.
use Rattle.std.proofs.Common.{◌≡◌, ℕ, zero, suc, ◌+◌, ◌-◌, ◌*◌, ◌/◌, ◌%◌, ◌^◌, ◌<◌, ◌≤◌, ◌&&◌, true, false, cond, ltb, leb, List, [], ◌∷◌, ◌++◌, length, Ok, Err, refl, sym, ap, subst, ◌∙◌, append_assoc, arith, get_or}
use Rattle.std.proofs.lemmas.Bool.{lt-ltb, le-ltb, le-leb, ltb-true, ltb-false, leb-true}
use Rattle.octet_log.specs.declared.cause.LogCause.TheVariants.{BadNumber, CutShort}
use Rattle.octet_log.specs.Judging.{◌>>=◌, wanted, byte_at}
use Rattle.octet_log.specs.Inputs.{IsInput}
use Rattle.octet_log.specs.v2.Short.{number_of_groups, EndsAtLast, IsShortest, SpellsShort, groups, short_bytes, groups_at, short_at}
use Rattle.octet_log.proofs.Valid.{and_first, and_second}
use Rattle.octet_log.proofs.Fields.{bind_ok, wanted_ok, ok_is, Takes, Takes-then, byte_takes}
use Rattle.octet_log.proofs.Cuts.{IsCutIn, cons_is, nothing≢more}

-- the numbers that at most one group more than that many hold
unfoldable pub room : ℕ → ℕ
room zero = 128
room (suc more) = 128 * room more

pub room_of_nine : 2 ^ 64 ≤ room 9
unfolding room
room_of_nine = omega arith

-- a number below 128 has one group
pub groups_last : (more number : ℕ) → number < 128 → groups more number ≡ number ∷ []
unfolding groups
groups_last zero number small = refl
groups_last (suc more) number small = rw (lt-ltb number 128 small) refl

pub groups_more : (more number : ℕ) → 128 ≤ number → groups (suc more) number ≡ (number % 128 + 128) ∷ groups more (number / 128)
unfolding groups
groups_more more number large = rw (le-ltb number 128 large) refl

pub room_more : (more number : ℕ) → number < room (suc more) → number / 128 < room more
unfolding room
room_more more number small = omega arith

pub room_zero : (number : ℕ) → number < room 0 → number < 128
unfolding room
room_zero number small = small

-- the bytes of an input are below 256
first_byte : (bytes : List ℕ) (byte : ℕ) (rest : List ℕ) → IsInput bytes → bytes ≡ (byte ∷ []) ++ rest → byte < 256
first_byte bytes byte rest is parts = subst (λ (b : List ℕ). get_or b 0 0 < 256) parts (is.fits 0)

-- the number of a byte and the groups above it
pub put_together : (byte higher : ℕ) → 128 ≤ byte → byte < 256 → 1 ≤ higher → ((byte - 128 + 128 * higher) % 128 ≡ byte - 128) × ((byte - 128 + 128 * higher) / 128 ≡ higher) × (128 ≤ byte - 128 + 128 * higher)
put_together byte higher large small above = (omega arith, omega arith, omega arith)

pub groups_take : (more total place : ℕ) (bytes : List ℕ) (x : ℕ × List ℕ) → IsInput bytes → groups_at more total place bytes ≡ Ok x → Takes bytes (groups more x.0) x.1 × (x.0 < 2 ^ 64)
unfolding groups_at groups
groups_take zero total place bytes x is e =
    let b = bind_ok (byte_at total bytes) (λ byte. wanted (ltb byte.0 128) (BadNumber place) >>= λ last. Ok byte) x e in
    let w = wanted_ok (ltb b.0.0 128) (BadNumber place) (λ _. Ok b.0) x b.2 in
    let small : b.0.0 < 128 = ltb-true b.0.0 128 w.0 in
    let t = byte_takes total bytes b.0.0 b.0.1 is b.1 in
    subst (λ (y : ℕ × List ℕ). Takes bytes (y.0 ∷ []) y.1 × (y.0 < 2 ^ 64)) (ok_is b.0 x w.1) (t, omega (arith, small))
groups_take (suc more) total place bytes x is e =
    let b = bind_ok (byte_at total bytes) (λ byte. cond (ltb byte.0 128) (Ok byte) (groups_at more total place byte.1 >>= λ higher. wanted (leb 1 higher.0 && ltb higher.0 (2 ^ 57)) (BadNumber place) >>= λ fits. Ok (byte.0 - 128 + 128 * higher.0, higher.1))) x e in
    let t = byte_takes total bytes b.0.0 b.0.1 is b.1 in
    elim (ltb b.0.0 128) as (λ v. ltb b.0.0 128 ≡ v → cond v (Ok b.0) (groups_at more total place b.0.1 >>= λ higher. wanted (leb 1 higher.0 && ltb higher.0 (2 ^ 57)) (BadNumber place) >>= λ fits. Ok (b.0.0 - 128 + 128 * higher.0, higher.1)) ≡ Ok x → Takes bytes (groups (suc more) x.0) x.1 × (x.0 < 2 ^ 64)) [
      | true ↦ λ is_last h.
          let small : b.0.0 < 128 = ltb-true b.0.0 128 is_last in
          subst (λ (y : ℕ × List ℕ). Takes bytes (groups (suc more) y.0) y.1 × (y.0 < 2 ^ 64)) (ok_is b.0 x h)
          (rw (groups_last (suc more) b.0.0 small) t, omega (arith, small))
      | false ↦ λ goes_on h.
          let large : 128 ≤ b.0.0 = ltb-false b.0.0 128 goes_on in
          let small : b.0.0 < 256 = first_byte bytes b.0.0 b.0.1 is t.parts in
          let g = bind_ok (groups_at more total place b.0.1) (λ higher. wanted (leb 1 higher.0 && ltb higher.0 (2 ^ 57)) (BadNumber place) >>= λ fits. Ok (b.0.0 - 128 + 128 * higher.0, higher.1)) x h in
          let w = wanted_ok (leb 1 g.0.0 && ltb g.0.0 (2 ^ 57)) (BadNumber place) (λ _. Ok (b.0.0 - 128 + 128 * g.0.0, g.0.1)) x g.2 in
          let some_higher : 1 ≤ g.0.0 = leb-true 1 g.0.0 (and_first (leb 1 g.0.0) (ltb g.0.0 (2 ^ 57)) w.0) in
          let fits : g.0.0 < 2 ^ 57 = ltb-true g.0.0 (2 ^ 57) (and_second (leb 1 g.0.0) (ltb g.0.0 (2 ^ 57)) w.0) in
          let rest = groups_take more total place b.0.1 g.0 t.rest_is g.1 in
          let number = b.0.0 - 128 + 128 * g.0.0 in
          let together = put_together b.0.0 g.0.0 large small some_higher in
          let first : number % 128 + 128 ≡ b.0.0 = omega (arith, together.0, large) in
          let spelled : groups (suc more) number ≡ b.0.0 ∷ groups more g.0.0 = groups_more more number together.2 ∙ (λ i. first i ∷ groups more (together.1 i)) in
          let both = Takes-then bytes (b.0.0 ∷ []) b.0.1 (groups more g.0.0) g.0.1 t rest.0 in
          subst (λ (y : ℕ × List ℕ). Takes bytes (groups (suc more) y.0) y.1 × (y.0 < 2 ^ 64)) (ok_is (number, g.0.1) x w.1)
          (rw spelled both, omega (arith, small, fits))
    ] refl b.2

pub groups_again : (more total place number : ℕ) (rest : List ℕ) → number < room more → number < 2 ^ 64 → groups_at more total place (groups more number ++ rest) ≡ Ok (number, rest)
unfolding groups_at groups room
groups_again zero total place number rest small fits = rw (lt-ltb number 128 small) refl
groups_again (suc more) total place number rest small fits =
    elim (ltb number 128) as (λ v. ltb number 128 ≡ v → groups_at (suc more) total place (groups (suc more) number ++ rest) ≡ Ok (number, rest)) [
      | true ↦ λ is_last. ap (λ (l : List ℕ). groups_at (suc more) total place (l ++ rest)) (groups_last (suc more) number (ltb-true number 128 is_last)) ∙ rw is_last refl
      | false ↦ λ goes_on.
          let large : 128 ≤ number = ltb-false number 128 goes_on in
          let first : ltb (number % 128 + 128) 128 ≡ false = le-ltb (number % 128 + 128) 128 (omega arith) in
          let above : leb 1 (number / 128) ≡ true = le-leb 1 (number / 128) (omega (arith, large)) in
          let below : ltb (number / 128) (2 ^ 57) ≡ true = lt-ltb (number / 128) (2 ^ 57) (omega (arith, fits)) in
          let again : groups_at more total place (groups more (number / 128) ++ rest) ≡ Ok (number / 128, rest) = groups_again more total place (number / 128) rest (room_more more number small) (omega (arith, fits)) in
          let whole : number % 128 + 128 - 128 + 128 * (number / 128) ≡ number = omega arith in
          ap (λ (l : List ℕ). groups_at (suc more) total place (l ++ rest)) (groups_more more number large)
          ∙ rw (first, again, above, below) (ap (λ (n : ℕ). Ok (n, rest)) whole)
    ] refl

pub groups_cut : (more total place number : ℕ) → IsCutIn total (groups_at more total place) (groups more number)
unfolding groups_at groups
groups_cut zero total place number [] next rest e = refl
groups_cut zero total place number (x ∷ front) next rest e = absurd (nothing≢more front next rest (cons_is number x [] (front ++ next ∷ rest) e).1)
groups_cut (suc more) total place number [] next rest e = refl
groups_cut (suc more) total place number (x ∷ front) next rest e =
    elim (ltb number 128) as (λ v. ltb number 128 ≡ v → groups_at (suc more) total place (x ∷ front) ≡ Err (CutShort total)) [
      | true ↦ λ is_last.
          let alone : number ∷ [] ≡ x ∷ (front ++ next ∷ rest) = sym (groups_last (suc more) number (ltb-true number 128 is_last)) ∙ e in
          absurd (nothing≢more front next rest (cons_is number x [] (front ++ next ∷ rest) alone).1)
      | false ↦ λ goes_on.
          let large : 128 ≤ number = ltb-false number 128 goes_on in
          let parts = cons_is (number % 128 + 128) x (groups more (number / 128)) (front ++ next ∷ rest) (sym (groups_more more number large) ∙ e) in
          let first : ltb x 128 ≡ false = rw (← parts.0) (le-ltb (number % 128 + 128) 128 (omega arith)) in
          rw (first, groups_cut more total place (number / 128) front next rest parts.1) refl
    ] refl

pub short_takes : (total : ℕ) (bytes : List ℕ) (x : ℕ × List ℕ) → IsInput bytes → short_at total bytes ≡ Ok x → Takes bytes (short_bytes x.0) x.1 × (x.0 < 2 ^ 64)
short_takes total bytes x is e = groups_take 9 total (total - length bytes) bytes x is e

pub short_again : (total number : ℕ) (rest : List ℕ) → number < 2 ^ 64 → short_at total (short_bytes number ++ rest) ≡ Ok (number, rest)
short_again total number rest small = groups_again 9 total (total - length (short_bytes number ++ rest)) number rest (omega (arith, small, room_of_nine)) small

pub short_cut : (total number : ℕ) → IsCutIn total (short_at total) (short_bytes number)
short_cut total number front next rest e = groups_cut 9 total (total - length front) number front next rest e

-- more than one byte, of which the last is not 0
above_zero : (byte next : ℕ) (more : List ℕ) → EndsAtLast (next ∷ more) → IsShortest (byte ∷ next ∷ more) → 1 ≤ number_of_groups (next ∷ more)
above_zero byte next [] ends shortest = omega (arith, ends, shortest)
above_zero byte next (after ∷ more) ends shortest = omega (arith, above_zero next after more ends.2 shortest)

rest_shortest : (byte next : ℕ) (more : List ℕ) → IsShortest (byte ∷ next ∷ more) → IsShortest (next ∷ more)
rest_shortest byte next [] shortest = tt
rest_shortest byte next (after ∷ more) shortest = shortest

pub spells_groups : (bytes : List ℕ) (more : ℕ) → EndsAtLast bytes → IsShortest bytes → number_of_groups bytes < room more → bytes ≡ groups more (number_of_groups bytes)
unfolding room
spells_groups [] more ends shortest small = absurd ends
spells_groups (last ∷ []) more ends shortest small =
    let same : last % 128 + 128 * 0 ≡ last = omega (arith, ends) in
    sym (groups_last more (last % 128 + 128 * 0) (omega (arith, same, ends)) ∙ ap (λ (n : ℕ). n ∷ []) same)
spells_groups (byte ∷ next ∷ bytes) zero ends shortest small = absurd (omega (arith, small, above_zero byte next bytes ends.2 shortest))
spells_groups (byte ∷ next ∷ bytes) (suc more) ends shortest small =
    let higher = number_of_groups (next ∷ bytes) in
    let number = byte % 128 + 128 * higher in
    let above : 1 ≤ higher = above_zero byte next bytes ends.2 shortest in
    let first : number % 128 + 128 ≡ byte = omega (arith, ends.0, ends.1) in
    let rest : number / 128 ≡ higher = omega arith in
    let again : next ∷ bytes ≡ groups more higher = spells_groups (next ∷ bytes) more ends.2 (rest_shortest byte next bytes shortest) (omega (arith, small)) in
    ap (λ (l : List ℕ). byte ∷ l) again ∙ sym (groups_more more number (omega (arith, above)) ∙ (λ i. first i ∷ groups more (rest i)))

-- the groups of a number
pub record AreGroups (bytes : List ℕ) (number : ℕ) : Type 0 where
  pub ends : EndsAtLast bytes
  pub shortest : IsShortest bytes
  pub value : number_of_groups bytes ≡ number

one_group : (number : ℕ) → number < 128 → AreGroups (number ∷ []) number
one_group number small = record { ends = small; shortest = tt; value = omega (arith, small) }

longer_group : (byte higher : ℕ) (bytes : List ℕ) → 128 ≤ byte → byte < 256 → 1 ≤ higher → AreGroups bytes higher → AreGroups (byte ∷ bytes) (byte - 128 + 128 * higher)
longer_group byte higher [] large small above are = absurd are.ends
longer_group byte higher (next ∷ []) large small above are =
    record { ends = (large, small, are.ends); shortest = λ e. absurd (omega (arith, e, are.value, above)); value = omega (arith, large, small, are.value) }
longer_group byte higher (next ∷ after ∷ more) large small above are =
    record { ends = (large, small, are.ends); shortest = are.shortest; value = omega (arith, large, small, are.value) }

pub groups_spell : (more number : ℕ) → number < room more → AreGroups (groups more number) number
unfolding groups room
groups_spell zero number small = one_group number small
groups_spell (suc more) number small =
    elim (ltb number 128) as (λ v. ltb number 128 ≡ v → AreGroups (groups (suc more) number) number) [
      | true ↦ λ is_last. rw (groups_last (suc more) number (ltb-true number 128 is_last)) (one_group number (ltb-true number 128 is_last))
      | false ↦ λ goes_on.
          let large : 128 ≤ number = ltb-false number 128 goes_on in
          let whole : number % 128 + 128 - 128 + 128 * (number / 128) ≡ number = omega arith in
          rw (groups_more more number large)
          (subst (λ (n : ℕ). AreGroups ((number % 128 + 128) ∷ groups more (number / 128)) n) whole
          (longer_group (number % 128 + 128) (number / 128) (groups more (number / 128)) (omega arith) (omega arith) (omega (arith, large)) (groups_spell more (number / 128) (room_more more number small))))
    ] refl

pub spelled_short : (bytes : List ℕ) (number : ℕ) → SpellsShort bytes number → bytes ≡ short_bytes number
spelled_short bytes number s = spells_groups bytes 9 s.ends s.shortest (omega (arith, s.groups, s.fits, room_of_nine)) ∙ ap (groups 9) s.groups

pub short_spelled : (bytes : List ℕ) (number : ℕ) → number < 2 ^ 64 → bytes ≡ short_bytes number → SpellsShort bytes number
short_spelled bytes number small is =
    let are = groups_spell 9 number (omega (arith, small, room_of_nine)) in
    rw is (record { ends = are.ends; shortest = are.shortest; groups = are.value; fits = small })

-- the last group is written, and nothing is left
pub wrote_last : (out all : List ℕ) (more number : ℕ) → number < 128 → out ++ groups more number ≡ all → out ++ number ∷ [] ≡ all
wrote_last out all more number small so_far = ap (λ (l : List ℕ). out ++ l) (sym (groups_last more number small)) ∙ so_far

-- a group is written, and those above it are left
pub wrote_group : (out all : List ℕ) (i number : ℕ) → i < 9 → 128 ≤ number → out ++ groups (9 - i) number ≡ all → (out ++ (number % 128 + 128) ∷ []) ++ groups (9 - (i + 1)) (number / 128) ≡ all
wrote_group out all i number more large so_far =
    let count : 9 - i ≡ suc (9 - (i + 1)) = omega arith in
    append_assoc out ((number % 128 + 128) ∷ []) (groups (9 - (i + 1)) (number / 128))
    ∙ ap (λ (l : List ℕ). out ++ l) (sym (groups_more (9 - (i + 1)) number large) ∙ ap (λ (n : ℕ). groups n number) (sym count)) ∙ so_far

pub room_left : (i number : ℕ) → i < 9 → number < room (9 - i) → number / 128 < room (9 - (i + 1))
room_left i number more small =
    let count : 9 - i ≡ suc (9 - (i + 1)) = omega arith in
    room_more (9 - (i + 1)) number (subst (λ (n : ℕ). number < room n) count small)

pub room_at_last : (i number : ℕ) → 9 ≤ i → number < room (9 - i) → number < 128
room_at_last i number done small =
    let count : 9 - i ≡ 0 = omega arith in
    room_zero number (subst (λ (n : ℕ). number < room n) count small)
