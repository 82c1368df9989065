-- Laws of digests: a step loses nothing.
use Rattle.std.proofs.Common.{◌≡◌, ◌∙◌, sym, ℕ, ◌+◌, ◌*◌, ◌/◌, ◌%◌, ◌^◌, ◌<◌, List, [], ◌∷◌, refl, ap, arith}
use Rattle.std.specs.Prelude.{bit_xor, bit_or}
use Rattle.std.specs.Int.{w64, rotate_left}
use Rattle.std.specs.Int.Bits.{xor_assoc, xor_self, xor_zero_l}
use Rattle.std.proofs.Math.Nat.{add-zero, mul-one, mul_assoc, mul-add, mul-mod_left, mod-eq_of_lt, add-mul-mod_self_right}
use Rattle.std.proofs.lemmas.Nat.{shl-shr, shr_split, shr_below, mod-pow-add, or_shifted, or_lt, xor_comm, xor_lt, xor_mod, mul-mod_first, same_from_place, mod_below, pow_pos}
use Rattle.octet_model.specs.declared.event.Event.{Event}
use Rattle.octet_model.specs.declared.event.Event.TheVariants.{Read, Write, Update, Marked}
use Rattle.octet_digest.specs.Digests.{tag, word, value_of_update, stepped, digest_with, digest_after}
use Rattle.octet_digest.specs.Laws.{JournalsJoin, StepTellsDigest, StepTellsWord}

-- ---- exclusive or
xor_back : (a b : ℕ) → bit_xor a (bit_xor a b) ≡ b
xor_back a b = sym (xor_assoc a a b) ∙ (ap (λ (n : ℕ). bit_xor n b) (xor_self a) ∙ xor_zero_l b)

pub xor_tells : (a b c : ℕ) → bit_xor a b ≡ bit_xor a c → b ≡ c
xor_tells a b c same = sym (xor_back a b) ∙ (ap (bit_xor a) same ∙ xor_back a c)

pub xor_tells_first : (a b c : ℕ) → bit_xor a c ≡ bit_xor b c → a ≡ b
xor_tells_first a b c same = xor_tells c a b (xor_comm c a ∙ (same ∙ xor_comm b c))

-- ---- a product with an odd factor, whose inverse is known
times_back : (modulus factor inverse wraps x : ℕ) → factor * inverse ≡ 1 + wraps * modulus → (x * factor) % modulus * inverse % modulus ≡ x % modulus
times_back modulus factor inverse wraps x odd =
    mul-mod_first (x * factor) inverse modulus
    ∙ (ap (λ (n : ℕ). n % modulus) (mul_assoc x factor inverse ∙ (ap (λ (n : ℕ). x * n) odd ∙ (mul-add x 1 (wraps * modulus) ∙ (ap (λ (n : ℕ). n + x * (wraps * modulus)) (mul-one x) ∙ ap (λ (n : ℕ). x + n) (sym (mul_assoc x wraps modulus))))))
    ∙ add-mul-mod_self_right x (x * wraps) modulus)

pub times_tells : (modulus factor inverse wraps x y : ℕ) → factor * inverse ≡ 1 + wraps * modulus → (x * factor) % modulus ≡ (y * factor) % modulus → x % modulus ≡ y % modulus
times_tells modulus factor inverse wraps x y odd same =
    sym (times_back modulus factor inverse wraps x odd) ∙ (ap (λ (n : ℕ). n * inverse % modulus) same ∙ times_back modulus factor inverse wraps y odd)

-- ---- a turn of j + k bits by k
turned : (j k n : ℕ) → n < 2 ^ (k + j) → bit_or ((n * 2 ^ k) % 2 ^ (j + k)) (n / 2 ^ j) ≡ n % 2 ^ j * 2 ^ k + n / 2 ^ j
turned j k n below =
    ap (λ (m : ℕ). bit_or m (n / 2 ^ j)) (
    mod-pow-add (n * 2 ^ k) j k
    ∙ (ap (λ (m : ℕ). m % 2 ^ j * 2 ^ k + (n * 2 ^ k) % 2 ^ k) (shl-shr n k)
    ∙ (ap (λ (m : ℕ). n % 2 ^ j * 2 ^ k + m) (mul-mod_left n (2 ^ k)) ∙ add-zero (n % 2 ^ j * 2 ^ k)))
    ) ∙ or_shifted (n % 2 ^ j) k (n / 2 ^ j) (shr_below n k j below)

turn_tells : (j k m n : ℕ) → m < 2 ^ (k + j) → n < 2 ^ (k + j)
    → bit_or ((m * 2 ^ k) % 2 ^ (j + k)) (m / 2 ^ j) ≡ bit_or ((n * 2 ^ k) % 2 ^ (j + k)) (n / 2 ^ j) → m ≡ n
turn_tells j k m n m_below n_below same =
    let parts : (m % 2 ^ j ≡ n % 2 ^ j) × (m / 2 ^ j ≡ n / 2 ^ j) = same_from_place (m % 2 ^ j) (m / 2 ^ j) (n % 2 ^ j) (n / 2 ^ j) (2 ^ k) (shr_below m k j m_below) (shr_below n k j n_below) (sym (turned j k m m_below) ∙ (same ∙ turned j k n n_below)) in
    sym (shr_split m j) ∙ (ap (λ (x : ℕ). x * 2 ^ j + m % 2 ^ j) parts.1 ∙ (ap (λ (x : ℕ). n / 2 ^ j * 2 ^ j + x) parts.0 ∙ shr_split n j))

-- ---- a step
turn_of_5_tells : (m n : ℕ) → m < 2 ^ 64 → n < 2 ^ 64 → rotate_left w64 m 5 ≡ rotate_left w64 n 5 → m ≡ n
turn_of_5_tells m n m_below n_below same = turn_tells 59 5 m n m_below n_below same

pub turn_of_31_tells : (m n : ℕ) → m < 2 ^ 64 → n < 2 ^ 64 → rotate_left w64 m 31 ≡ rotate_left w64 n 31 → m ≡ n
turn_of_31_tells m n m_below n_below same = turn_tells 33 31 m n m_below n_below same

turn_below : (n : ℕ) → n < 2 ^ 64 → rotate_left w64 n 5 < 2 ^ 64
turn_below n below = or_lt 64 ((n * 2 ^ 5) % 2 ^ 64) (n / 2 ^ 59) (mod_below (n * 2 ^ 5) (2 ^ 64) (pow_pos 64)) (omega arith)

step_below : (digest w : ℕ) → stepped digest w < 2 ^ 64
step_below digest w = mod_below (bit_xor (rotate_left w64 digest 5) w * 5871781006564002453) (2 ^ 64) (pow_pos 64)

step_tells : (digest other w v : ℕ) → stepped digest w ≡ stepped other v → bit_xor (rotate_left w64 digest 5) w % 2 ^ 64 ≡ bit_xor (rotate_left w64 other 5) v % 2 ^ 64
step_tells digest other w v same =
    times_tells (2 ^ 64) 5871781006564002453 2323857671730065597 739706870995725965 (bit_xor (rotate_left w64 digest 5) w) (bit_xor (rotate_left w64 other 5) v) refl same

pub step_tells_digest : StepTellsDigest
step_tells_digest w one other one_below other_below same =
    let turned_one : ℕ = rotate_left w64 one 5 in
    let turned_other : ℕ = rotate_left w64 other 5 in
    let same_low : bit_xor (turned_one % 2 ^ 64) (w % 2 ^ 64) ≡ bit_xor (turned_other % 2 ^ 64) (w % 2 ^ 64) = sym (xor_mod turned_one w 64) ∙ (step_tells one other w w same ∙ xor_mod turned_other w 64) in
    let same_turned : turned_one % 2 ^ 64 ≡ turned_other % 2 ^ 64 = xor_tells_first (turned_one % 2 ^ 64) (turned_other % 2 ^ 64) (w % 2 ^ 64) same_low in
    turn_of_5_tells one other one_below other_below (sym (mod-eq_of_lt (turn_below one one_below)) ∙ (same_turned ∙ mod-eq_of_lt (turn_below other other_below)))

pub step_tells_word : StepTellsWord
step_tells_word digest one other below one_below other_below same =
    let turn : ℕ = rotate_left w64 digest 5 in
    xor_tells turn one other (
    sym (mod-eq_of_lt (xor_lt 64 turn one (turn_below digest below) one_below))
    ∙ (step_tells digest digest one other same ∙ mod-eq_of_lt (xor_lt 64 turn other (turn_below digest below) other_below)))

-- ---- an event
pub with_below : (event : Event) (digest : ℕ) → digest < 2 ^ 64 → digest_with event digest < 2 ^ 64
with_below (Read object value) digest below = step_below digest (word (tag object 1) value)
with_below (Write object value) digest below = step_below digest (word (tag object 2) value)
with_below (Update object before after) digest below = step_below digest (word (tag object 3) (value_of_update before after))
with_below (Marked mark) digest below = below

with_tells : (event : Event) (one other : ℕ) → one < 2 ^ 64 → other < 2 ^ 64 → digest_with event one ≡ digest_with event other → one ≡ other
with_tells (Read object value) one other one_below other_below same = step_tells_digest (word (tag object 1) value) one other one_below other_below same
with_tells (Write object value) one other one_below other_below same = step_tells_digest (word (tag object 2) value) one other one_below other_below same
with_tells (Update object before after) one other one_below other_below same = step_tells_digest (word (tag object 3) (value_of_update before after)) one other one_below other_below same
with_tells (Marked mark) one other one_below other_below same = same

-- ---- journals
pub digest_below : (journal : List Event) (digest : ℕ) → digest < 2 ^ 64 → digest_after digest journal < 2 ^ 64
digest_below [] digest below = below
digest_below (event ∷ journal) digest below = digest_below journal (digest_with event digest) (with_below event digest below)

pub later_tells : (journal : List Event) (one other : ℕ) → one < 2 ^ 64 → other < 2 ^ 64 → digest_after one journal ≡ digest_after other journal → one ≡ other
later_tells [] one other one_below other_below same = same
later_tells (event ∷ journal) one other one_below other_below same =
    with_tells event one other one_below other_below (later_tells journal (digest_with event one) (digest_with event other) (with_below event one one_below) (with_below event other other_below) same)

pub journals_join : JournalsJoin
journals_join digest [] later = refl
journals_join digest (event ∷ earlier) later = journals_join (digest_with event digest) earlier later
