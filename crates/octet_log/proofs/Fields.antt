-- A field that is read is the field that was written, and what was written is read again.
use Rattle.std.proofs.Common.{◌≡◌, ℕ, suc, ◌+◌, ◌^◌, ◌<◌, ◌≤◌, Bool, true, false, cond, ltb, List, [], ◌∷◌, ◌++◌, length, take, drop, Result, Ok, Err, refl, sym, ap, subst, ◌∙◌, append_assoc, arith, inl, inr}
use Rattle.std.specs.Int.{Width, w32, w64, byte_len, from_be_bytes, to_be_bytes}
use Rattle.std.proofs.lemmas.Bool.{cases_lt, ltb-false, le-ltb}
use Rattle.std.proofs.lemmas.List.{take_at, drop_at, take-append-drop, length-append, length-take, length-drop, get_or-drop, get_or-take, get_or_past}
use Rattle.std.proofs.lemmas.Nat.{be_bytes_4, be_bytes_8, from_be_bytes-to_be_bytes_4, from_be_bytes-to_be_bytes_8}
use Rattle.octet_log.specs.declared.cause.LogCause.{LogCause}
use Rattle.octet_log.specs.declared.cause.LogCause.TheVariants.{CutShort}
use Rattle.octet_log.specs.Judging.{◌>>=◌, wanted, byte_at}
use Rattle.octet_log.specs.v1.Decoding.{number_at}
use Rattle.octet_log.specs.Inputs.{AreBytes, IsInput}

pub AreBytes-drop : (n : ℕ) (bytes : List ℕ) → AreBytes bytes → AreBytes (drop n bytes)
AreBytes-drop n bytes h i = rw get_or-drop (h (n + i))

pub AreBytes-take : (n : ℕ) (bytes : List ℕ) → AreBytes bytes → AreBytes (take n bytes)
AreBytes-take n bytes h i =
    elim (cases_lt i n) [
      | inl lt ↦ rw (get_or-take n bytes i 0 lt) (h i)
      | inr le ↦ rw (get_or_past (take n bytes) i 0 (omega (arith, length-take n bytes))) (omega arith)
    ]

pub IsInput-drop : (n : ℕ) (bytes : List ℕ) → IsInput bytes → IsInput (drop n bytes)
IsInput-drop n bytes is = record { fits = AreBytes-drop n bytes is.fits; short = omega (arith, length-drop n bytes, is.short) }

pub IsInput-rest : (byte : ℕ) (bytes : List ℕ) → IsInput (byte ∷ bytes) → IsInput bytes
IsInput-rest byte bytes is = record { fits = λ i. is.fits (suc i); short = omega (arith, is.short) }

-- the value of a reading that did not fail
pub bind_ok : {A B : Type 0} (r : Result A LogCause) (f : A → Result B LogCause) (y : B) → (r >>= f) ≡ Ok y → (x : A) × (r ≡ Ok x) × (f x ≡ Ok y)
bind_ok (Ok x) f y e = (x, refl, e)
bind_ok (Err d) f y e = absurd cc

-- a test that did not fail
pub wanted_ok : {B : Type 0} (b : Bool) (cause : LogCause) (f : Unit {0} → Result B LogCause) (y : B) → (wanted b cause >>= f) ≡ Ok y → (b ≡ true) × (f tt ≡ Ok y)
wanted_ok true cause f y e = (refl, e)
wanted_ok false cause f y e = absurd cc

pub guard_ok : {A : Type 0} (b : Bool) (d : LogCause) (x y : A) → cond b (Err d) (Ok x) ≡ Ok y → (b ≡ false) × (x ≡ y)
guard_ok true d x y e = absurd cc
guard_ok false d x y e = (refl, cc)

abbrev pub done : {A : Type 0} → A → Result A LogCause
done x = Ok x

pub ok_is : {A : Type 0} (x y : A) → done x ≡ done y → x ≡ y
ok_is x y e = cc

-- what a reading took from the front
pub record Takes (bytes text rest : List ℕ) : Type 0 where
  pub parts : bytes ≡ text ++ rest
  pub rest_is : IsInput rest

pub Takes-then : (a x b y c : List ℕ) → Takes a x b → Takes b y c → Takes a (x ++ y) c
Takes-then a x b y c p q = record { parts = p.parts ∙ ap (λ (t : List ℕ). x ++ t) q.parts ∙ sym (append_assoc x y c); rest_is = q.rest_is }

pub byte_takes : (total : ℕ) (bytes : List ℕ) (byte : ℕ) (rest : List ℕ) → IsInput bytes → byte_at total bytes ≡ Ok (byte, rest) → Takes bytes (byte ∷ []) rest
byte_takes total [] byte rest is e = absurd cc
byte_takes total (b ∷ bytes) byte rest is e =
    subst (λ (x : ℕ × List ℕ). Takes (b ∷ bytes) (x.0 ∷ []) x.1) (ok_is (b, bytes) (byte, rest) e) (record { parts = refl; rest_is = IsInput-rest b bytes is })

-- a width of numbers, whose fields are their only spelling
pub record IsWide (w : Width) (limit : ℕ) : Type 0 where
  pub len : (n : ℕ) → length (to_be_bytes w n) ≡ byte_len w
  pub back : (bytes : List ℕ) → length bytes ≡ byte_len w → AreBytes bytes → to_be_bytes w (from_be_bytes w bytes) ≡ bytes
  pub again : (n : ℕ) → n < limit → from_be_bytes w (to_be_bytes w n) ≡ n
  pub below : (bytes : List ℕ) → AreBytes bytes → from_be_bytes w bytes < limit

pub wide32 : IsWide w32 (2 ^ 32)
wide32 = record {
  len = λ n. refl;
  back = λ bytes len fits. be_bytes_4 bytes _ len fits refl;
  again = λ n lt. from_be_bytes-to_be_bytes_4 n lt;
  below = λ bytes fits. omega (arith, fits 0, fits 1, fits 2, fits 3);
}

pub wide64 : IsWide w64 (2 ^ 64)
wide64 = record {
  len = λ n. refl;
  back = λ bytes len fits. be_bytes_8 bytes _ len fits refl;
  again = λ n lt. from_be_bytes-to_be_bytes_8 n lt;
  below = λ bytes fits. omega (arith, fits 0, fits 1, fits 2, fits 3, fits 4, fits 5, fits 6, fits 7);
}

pub one_spelling : (w : Width) (limit : ℕ) (wide : IsWide w limit) (bytes : List ℕ) (number : ℕ) → length bytes ≡ byte_len w → AreBytes bytes → from_be_bytes w bytes ≡ number → bytes ≡ to_be_bytes w number
one_spelling w limit wide bytes number len fits is = sym (wide.back bytes len fits) ∙ ap (to_be_bytes w) is

pub number_takes : (w : Width) (limit : ℕ) (wide : IsWide w limit) (total : ℕ) (bytes : List ℕ) (n : ℕ) (rest : List ℕ) → IsInput bytes → number_at w total bytes ≡ Ok (n, rest) → Takes bytes (to_be_bytes w n) rest × (n < limit)
number_takes w limit wide total bytes n rest is e =
    let g = guard_ok (ltb (length bytes) (byte_len w)) (CutShort total) (from_be_bytes w (take (byte_len w) bytes), drop (byte_len w) bytes) (n, rest) e in
    let long : byte_len w ≤ length bytes = ltb-false _ _ g.0 in
    let n-is : from_be_bytes w (take (byte_len w) bytes) ≡ n = ap (λ (p : ℕ × List ℕ). p.0) g.1 in
    let rest-is : drop (byte_len w) bytes ≡ rest = ap (λ (p : ℕ × List ℕ). p.1) g.1 in
    let front : to_be_bytes w n ≡ take (byte_len w) bytes = rw (← n-is) (wide.back (take (byte_len w) bytes) (omega (arith, length-take (byte_len w) bytes)) (AreBytes-take (byte_len w) bytes is.fits)) in
    (record { parts = rw (front, ← rest-is) (sym (take-append-drop (byte_len w) bytes)); rest_is = rw (← rest-is) (IsInput-drop (byte_len w) bytes is) }, rw (← n-is) (wide.below (take (byte_len w) bytes) (AreBytes-take (byte_len w) bytes is.fits)))

pub number_again : (w : Width) (limit : ℕ) (wide : IsWide w limit) (total n : ℕ) (rest : List ℕ) → n < limit → number_at w total (to_be_bytes w n ++ rest) ≡ Ok (n, rest)
number_again w limit wide total n rest lt =
    let len = wide.len n in
    let long : ltb (length (to_be_bytes w n ++ rest)) (byte_len w) ≡ false = le-ltb _ _ (omega (arith, length-append (to_be_bytes w n) rest)) in
    rw (long, take_at (to_be_bytes w n) rest (byte_len w) len, drop_at (to_be_bytes w n) rest (byte_len w) len, wide.again n lt) refl
