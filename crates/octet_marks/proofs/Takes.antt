-- What is read was written so: the bytes are those of the value, and then the rest.
use Rattle.std.proofs.Common.{◌≡◌, ℕ, zero, suc, ◌+◌, ◌-◌, ◌*◌, ◌%◌, ◌^◌, ◌<◌, ◌≤◌, ◌&&◌, Bool, true, false, cond, eqb, ltb, leb, List, [], ◌∷◌, ◌++◌, length, take, drop, get_or, Option, Some, None, refl, sym, ap, subst, ◌∙◌, append_assoc, arith}
use Rattle.std.specs.Int.{Width, byte_len, from_be_bytes, to_be_bytes}
use Rattle.std.specs.List.{AllByRecursion}
use Rattle.std.proofs.lemmas.Bool.{ltb-true, ltb-false, leb-true, eqb-true}
use Rattle.std.proofs.lemmas.List.{take-append-drop, length-take, append-nil}
use Rattle.octet_model.specs.declared.event.Mark.{Mark}
use Rattle.octet_model.specs.declared.event.Mark.TheVariants.{Join, Draw, Fence}
use Rattle.octet_model.specs.declared.log.Gapped.{Gapped}
use Rattle.octet_log.specs.Inputs.{AreBytes}
use Rattle.octet_log.specs.v2.Short.{groups, short_bytes}
use Rattle.octet_log.proofs.Fields.{IsWide, AreBytes-drop, AreBytes-take}
use Rattle.octet_log.proofs.Valid.{and_first, and_second}
use Rattle.octet_log.proofs.version2.Groups.{groups_last, groups_more, put_together}
use Rattle.octet_marks.specs.Fields.{◌>>=◌, passed, byte_at, bytes_at, number_at, groups_at, short_at}
use Rattle.octet_marks.specs.Marks.{source_of, number_of, mark_from, last_number, step_from, mark_bytes, marks_bytes, mark_after, mark_at, marks_at, marks_of}
use Rattle.octet_marks.specs.Spellings.{HasSource, IsSpelled}
use Rattle.octet_marks.proofs.Again.{last_fits, all_push}

-- the value of a reading that gave something
pub some_of : {A B : Type 0} (r : Option A) (f : A → Option B) (y : B) → (r >>= f) ≡ Some y → (x : A) × (r ≡ Some x) × (f x ≡ Some y)
some_of (Some x) f y e = (x, refl, e)
some_of None f y e = absurd cc

abbrev pub found : {A : Type 0} → A → Option A
found x = Some x

pub some_is : {A : Type 0} (x y : A) → found x ≡ found y → x ≡ y
some_is x y e = cc

-- a test that was passed
pub passed_of : {B : Type 0} (b : Bool) (f : Unit {0} → Option B) (y : B) → (passed b >>= f) ≡ Some y → (b ≡ true) × (f tt ≡ Some y)
passed_of true f y e = (refl, e)
passed_of false f y e = absurd cc

-- a choice that gave something
pub none_or : {A : Type 0} (b : Bool) (x y : A) → cond b None (Some x) ≡ Some y → (b ≡ false) × (x ≡ y)
none_or true x y e = absurd cc
none_or false x y e = (refl, cc)

pub some_or : {A : Type 0} (b : Bool) (x y : A) → cond b (Some x) None ≡ Some y → (b ≡ true) × (x ≡ y)
some_or false x y e = absurd cc
some_or true x y e = (refl, cc)

-- the bytes are the text, and then the rest, which are bytes too
pub record Takes (bytes text rest : List ℕ) : Type 0 where
  pub parts : bytes ≡ text ++ rest
  pub rest_is : AreBytes rest

pub then_takes : (a x b y c : List ℕ) → Takes a x b → Takes b y c → Takes a (x ++ y) c
then_takes a x b y c p q = record { parts = p.parts ∙ ap (λ (t : List ℕ). x ++ t) q.parts ∙ sym (append_assoc x y c); rest_is = q.rest_is }

pub byte_takes : (bytes : List ℕ) (x : ℕ × List ℕ) → AreBytes bytes → byte_at bytes ≡ Some x → Takes bytes (x.0 ∷ []) x.1
byte_takes [] x are e = absurd cc
byte_takes (byte ∷ bytes) x are e = subst (λ (y : ℕ × List ℕ). Takes (byte ∷ bytes) (y.0 ∷ []) y.1) (some_is (byte, bytes) x e) (record { parts = refl; rest_is = λ i. are (suc i) })

pub bytes_take : (count : ℕ) (bytes : List ℕ) (x : List ℕ × List ℕ) → AreBytes bytes → bytes_at count bytes ≡ Some x → Takes bytes x.0 x.1 × (length x.0 ≡ count) × AreBytes x.0
bytes_take count bytes x are e =
    let g = none_or (ltb (length bytes) count) (take count bytes, drop count bytes) x e in
    let long : count ≤ length bytes = ltb-false (length bytes) count g.0 in
    subst (λ (y : List ℕ × List ℕ). Takes bytes y.0 y.1 × (length y.0 ≡ count) × AreBytes y.0) g.1
    (record { parts = sym (take-append-drop count bytes); rest_is = AreBytes-drop count bytes are }, omega (arith, length-take count bytes, long), AreBytes-take count bytes are)

pub number_takes : (w : Width) (limit : ℕ) (wide : IsWide w limit) (bytes : List ℕ) (x : ℕ × List ℕ) → AreBytes bytes → number_at w bytes ≡ Some x → Takes bytes (to_be_bytes w x.0) x.1 × (x.0 < limit)
number_takes w limit wide bytes x are e =
    let a = some_of (bytes_at (byte_len w) bytes) (λ field. Some (from_be_bytes w field.0, field.1)) x e in
    let t = bytes_take (byte_len w) bytes a.0 are a.1 in
    let back : to_be_bytes w (from_be_bytes w a.0.0) ≡ a.0.0 = wide.back a.0.0 t.1 t.2 in
    subst (λ (y : ℕ × List ℕ). Takes bytes (to_be_bytes w y.0) y.1 × (y.0 < limit)) (some_is (from_be_bytes w a.0.0, a.0.1) x a.2)
    (rw back t.0, wide.below a.0.0 t.2)

groups_take : (more : ℕ) (bytes : List ℕ) (x : ℕ × List ℕ) → AreBytes bytes → groups_at more bytes ≡ Some x → Takes bytes (groups more x.0) x.1 × (x.0 < 2 ^ 64)
unfolding groups_at groups
groups_take zero bytes x are e =
    let b = some_of (byte_at bytes) (λ byte. cond (ltb byte.0 128) (Some byte) None) x e in
    let w = some_or (ltb b.0.0 128) b.0 x b.2 in
    let small : b.0.0 < 128 = ltb-true b.0.0 128 w.0 in
    subst (λ (y : ℕ × List ℕ). Takes bytes (y.0 ∷ []) y.1 × (y.0 < 2 ^ 64)) w.1 (byte_takes bytes b.0 are b.1, omega (arith, small))
groups_take (suc more) bytes x are e =
    let b = some_of (byte_at bytes) (λ byte. cond (ltb byte.0 128) (Some byte) (groups_at more byte.1 >>= λ higher. cond (leb 1 higher.0 && ltb higher.0 (2 ^ 57)) (Some (byte.0 - 128 + 128 * higher.0, higher.1)) None)) x e in
    let t = byte_takes bytes b.0 are b.1 in
    elim (ltb b.0.0 128) as (λ v. ltb b.0.0 128 ≡ v → cond v (Some b.0) (groups_at more b.0.1 >>= λ higher. cond (leb 1 higher.0 && ltb higher.0 (2 ^ 57)) (Some (b.0.0 - 128 + 128 * higher.0, higher.1)) None) ≡ Some x → Takes bytes (groups (suc more) x.0) x.1 × (x.0 < 2 ^ 64)) [
      | true ↦ λ is_last h.
          let small : b.0.0 < 128 = ltb-true b.0.0 128 is_last in
          subst (λ (y : ℕ × List ℕ). Takes bytes (groups (suc more) y.0) y.1 × (y.0 < 2 ^ 64)) (some_is b.0 x h)
          (rw (groups_last (suc more) b.0.0 small) t, omega (arith, small))
      | false ↦ λ goes_on h.
          let large : 128 ≤ b.0.0 = ltb-false b.0.0 128 goes_on in
          let small : b.0.0 < 256 = subst (λ (l : List ℕ). get_or l 0 0 < 256) t.parts (are 0) in
          let g = some_of (groups_at more b.0.1) (λ higher. cond (leb 1 higher.0 && ltb higher.0 (2 ^ 57)) (Some (b.0.0 - 128 + 128 * higher.0, higher.1)) None) x h in
          let w = some_or (leb 1 g.0.0 && ltb g.0.0 (2 ^ 57)) (b.0.0 - 128 + 128 * g.0.0, g.0.1) x g.2 in
          let some_higher : 1 ≤ g.0.0 = leb-true 1 g.0.0 (and_first (leb 1 g.0.0) (ltb g.0.0 (2 ^ 57)) w.0) in
          let fits : g.0.0 < 2 ^ 57 = ltb-true g.0.0 (2 ^ 57) (and_second (leb 1 g.0.0) (ltb g.0.0 (2 ^ 57)) w.0) in
          let rest = groups_take more b.0.1 g.0 t.rest_is g.1 in
          let number = b.0.0 - 128 + 128 * g.0.0 in
          let together = put_together b.0.0 g.0.0 large small some_higher in
          let first : number % 128 + 128 ≡ b.0.0 = omega (arith, together.0, large) in
          let spelled : groups (suc more) number ≡ b.0.0 ∷ groups more g.0.0 = groups_more more number together.2 ∙ (λ i. first i ∷ groups more (together.1 i)) in
          let both = then_takes bytes (b.0.0 ∷ []) b.0.1 (groups more g.0.0) g.0.1 t rest.0 in
          subst (λ (y : ℕ × List ℕ). Takes bytes (groups (suc more) y.0) y.1 × (y.0 < 2 ^ 64)) w.1
          (rw spelled both, omega (arith, small, fits))
    ] refl b.2

pub short_takes : (bytes : List ℕ) (x : ℕ × List ℕ) → AreBytes bytes → short_at bytes ≡ Some x → Takes bytes (short_bytes x.0) x.1 × (x.0 < 2 ^ 64)
short_takes bytes x are e = groups_take 9 bytes x are e

-- the mark of a source and a number has these
record IsFrom (source number : ℕ) (mark : Mark) : Type 0 where
  source_is : source_of mark ≡ source
  number_is : number_of mark ≡ number
  has : HasSource mark

mark_from_is : (source number : ℕ) (mark : Mark) → mark_from source number ≡ Some mark → IsFrom source number mark
mark_from_is source number mark e =
    elim (ltb source 16) as (λ b. ltb source 16 ≡ b → cond b (Some (Join source number)) (cond (eqb source 16) (Some (Draw number)) (cond (eqb source 17) (Some (Fence number)) None)) ≡ Some mark → IsFrom source number mark) [
      | true ↦ λ low h. subst (IsFrom source number) (some_is (Join source number) mark h) (record { source_is = refl; number_is = refl; has = ltb-true source 16 low })
      | false ↦ λ high h. elim (eqb source 16) as (λ b. eqb source 16 ≡ b → cond b (Some (Draw number)) (cond (eqb source 17) (Some (Fence number)) None) ≡ Some mark → IsFrom source number mark) [
        | true ↦ λ draw h. subst (IsFrom source number) (some_is (Draw number) mark h) (record { source_is = sym (eqb-true source 16 draw); number_is = refl; has = tt })
        | false ↦ λ other h.
            let w = some_or (eqb source 17) (Fence number) mark h in
            subst (IsFrom source number) w.1 (record { source_is = sym (eqb-true source 17 w.0); number_is = refl; has = tt })
      ] refl h
    ] refl e

step_back : (before step : ℕ) → before < 2 ^ 64 → step < 2 ^ 64 → step_from before ((before + step) % 2 ^ 64) ≡ step
step_back before step small fits = omega arith

mod_fits : (number : ℕ) → number % 2 ^ 64 < 2 ^ 64
mod_fits number = omega arith

pub mark_takes : (earlier : List Gapped) (bytes : List ℕ) (x : Gapped × List ℕ) → AreBytes bytes → AllByRecursion IsSpelled earlier → mark_at earlier bytes ≡ Some x → Takes bytes (mark_bytes earlier x.0) x.1 × IsSpelled x.0
unfolding mark_at
mark_takes earlier bytes x are all e =
    let s = some_of (byte_at bytes) (λ source. short_at source.1 >>= λ gap. passed (ltb gap.0 (2 ^ 32)) >>= λ small. short_at gap.1 >>= λ step. mark_after earlier source.0 gap.0 step.0 >>= λ gapped. Some (gapped, step.1)) x e in
    let g = some_of (short_at s.0.1) (λ gap. passed (ltb gap.0 (2 ^ 32)) >>= λ small. short_at gap.1 >>= λ step. mark_after earlier s.0.0 gap.0 step.0 >>= λ gapped. Some (gapped, step.1)) x s.2 in
    let p = passed_of (ltb g.0.0 (2 ^ 32)) (λ small. short_at g.0.1 >>= λ step. mark_after earlier s.0.0 g.0.0 step.0 >>= λ gapped. Some (gapped, step.1)) x g.2 in
    let d = some_of (short_at g.0.1) (λ step. mark_after earlier s.0.0 g.0.0 step.0 >>= λ gapped. Some (gapped, step.1)) x p.1 in
    let m = some_of (mark_after earlier s.0.0 g.0.0 d.0.0) (λ gapped. Some (gapped, d.0.1)) x d.2 in
    let before = last_number s.0.0 0 earlier in
    let number = (before + d.0.0) % 2 ^ 64 in
    let k = some_of (mark_from s.0.0 number) (λ mark. Some (with_gap g.0.0 mark)) m.0 m.1 in
    let is = mark_from_is s.0.0 number k.0 k.1 in
    let ts = byte_takes bytes s.0 are s.1 in
    let tg = short_takes s.0.1 g.0 ts.rest_is g.1 in
    let td = short_takes g.0.1 d.0 tg.0.rest_is d.1 in
    let both = then_takes bytes (s.0.0 ∷ []) s.0.1 (short_bytes g.0.0 ++ short_bytes d.0.0) d.0.1 ts (then_takes s.0.1 (short_bytes g.0.0) g.0.1 (short_bytes d.0.0) d.0.1 tg.0 td.0) in
    let made : Gapped = with_gap g.0.0 k.0 in
    let far : step_from (last_number (source_of k.0) 0 earlier) (number_of k.0) ≡ d.0.0 =
    (λ i. step_from (last_number (is.source_is i) 0 earlier) (is.number_is i)) ∙ step_back before d.0.0 (last_fits s.0.0 0 earlier (omega arith) all) td.1 in
    let spelled : s.0.0 ∷ (short_bytes g.0.0 ++ short_bytes d.0.0) ≡ mark_bytes earlier made = λ i. sym is.source_is i ∷ (short_bytes g.0.0 ++ short_bytes (sym far i)) in
    let good : IsSpelled made = record { source = is.has; gap = ltb-true g.0.0 (2 ^ 32) p.0; number = subst (λ (n : ℕ). n < 2 ^ 64) (sym is.number_is) (mod_fits (before + d.0.0)) } in
    let whole : (made, d.0.1) ≡ x = (λ i. (some_is made m.0 k.2 i, d.0.1)) ∙ some_is (m.0, d.0.1) x m.2 in
    subst (λ (y : Gapped × List ℕ). Takes bytes (mark_bytes earlier y.0) y.1 × IsSpelled y.0) whole
    (subst (λ (t : List ℕ). Takes bytes t d.0.1) spelled both, good)
  where
    with_gap : ℕ → Mark → Gapped
    with_gap gap mark = record { gap = gap; mark = mark }

-- all marks that were read are the earlier ones, and then those that the bytes spell
record AreMarks (earlier : List Gapped) (bytes : List ℕ) (all : List Gapped) : Type 0 where
  marks : List Gapped
  all_are : all ≡ earlier ++ marks
  parts : bytes ≡ marks_bytes earlier marks
  spelled : AllByRecursion IsSpelled marks

marks_take : (most : ℕ) (earlier : List Gapped) (bytes : List ℕ) (all : List Gapped) → AreBytes bytes → AllByRecursion IsSpelled earlier → marks_at most earlier bytes ≡ Some all → AreMarks earlier bytes all
unfolding marks_at
marks_take zero earlier [] all are spelled e = record { marks = []; all_are = sym (some_is earlier all e) ∙ sym (append-nil earlier); parts = refl; spelled = tt }
marks_take (suc most) earlier [] all are spelled e = record { marks = []; all_are = sym (some_is earlier all e) ∙ sym (append-nil earlier); parts = refl; spelled = tt }
marks_take zero earlier (byte ∷ bytes) all are spelled e = absurd cc
marks_take (suc most) earlier (byte ∷ bytes) all are spelled e =
    let g = some_of (mark_at earlier (byte ∷ bytes)) (λ gapped. marks_at most (earlier ++ gapped.0 ∷ []) gapped.1) all e in
    let t = mark_takes earlier (byte ∷ bytes) g.0 are spelled g.1 in
    let more = marks_take most (earlier ++ g.0.0 ∷ []) g.0.1 all t.0.rest_is (all_push earlier g.0.0 spelled t.1) g.2 in
    record {
      marks = g.0.0 ∷ more.marks;
      all_are = more.all_are ∙ append_assoc earlier (g.0.0 ∷ []) more.marks;
      parts = t.0.parts ∙ ap (λ (l : List ℕ). mark_bytes earlier g.0.0 ++ l) more.parts;
      spelled = (t.1, more.spelled);
    }

pub marks_of_take : (bytes : List ℕ) (marks : List Gapped) → AreBytes bytes → marks_of bytes ≡ Some marks → (bytes ≡ marks_bytes [] marks) × AllByRecursion IsSpelled marks
marks_of_take bytes marks are e =
    let all = marks_take (length bytes) [] bytes marks are tt e in
    (all.parts ∙ ap (marks_bytes []) (sym all.all_are), subst (AllByRecursion IsSpelled) (sym all.all_are) all.spelled)
