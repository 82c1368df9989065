-- One change of an access shows in the digest.
use Rattle.std.proofs.Common.{◌≡◌, ◌≢◌, ◌∙◌, ◌⊎◌, inl, inr, sym, ℕ, ◌*◌, ◌/◌, ◌%◌, ◌^◌, ◌<◌, ◌∷◌, refl, ap, arith}
use Rattle.std.specs.Int.{w64, rotate_left}
use Rattle.std.proofs.Math.Nat.{mod-eq_of_lt}
use Rattle.std.proofs.lemmas.Nat.{or_lt, xor_lt, mod_below, pow_pos}
use Rattle.octet_model.specs.declared.event.Event.{Event}
use Rattle.octet_model.specs.declared.event.Event.TheVariants.{Read, Write, Update}
use Rattle.octet_digest.specs.Digests.{tag, spread, word, value_of_update, stepped, digest_with, digest_of}
use Rattle.octet_digest.specs.Laws.{IsInRange, OneDiffers, DifferInOne, OneChangeShows}
use Rattle.octet_digest.proofs.lemmas.Digests.{xor_tells, xor_tells_first, times_tells, turn_of_31_tells, step_tells_word, with_below, digest_below, later_tells, journals_join}

spread_tells : (value other : ℕ) → value < 2 ^ 64 → other < 2 ^ 64 → spread value ≡ spread other → value ≡ other
spread_tells value other below other_below same =
    sym (mod-eq_of_lt below)
    ∙ (times_tells (2 ^ 64) 11400714819323198485 17428512612931826493 10771413168148108919 value other refl same ∙ mod-eq_of_lt other_below)

spread_below : (value : ℕ) → spread value < 2 ^ 64
spread_below value = mod_below (value * 11400714819323198485) (2 ^ 64) (pow_pos 64)

word_below : (t value : ℕ) → t < 2 ^ 64 → word t value < 2 ^ 64
word_below t value below = xor_lt 64 t (spread value) below (spread_below value)

-- words differ where either the tags or the values do
words_differ : (t s value other : ℕ) → value < 2 ^ 64 → other < 2 ^ 64 → OneDiffers t s value other → word t value ≢ word s other
words_differ t s value other below other_below (inl (differ, equal)) same =
    differ (xor_tells_first t s (spread other) (ap (λ (v : ℕ). word t v) (sym equal) ∙ same))
words_differ t s value other below other_below (inr (equal, differ)) same =
    differ (spread_tells value other below other_below (xor_tells s (spread value) (spread other) (ap (λ (x : ℕ). word x value) (sym equal) ∙ same)))

-- accesses whose words differ lead to two digests
differ_after : (digest t s value other : ℕ) → digest < 2 ^ 64 → t < 2 ^ 64 → s < 2 ^ 64 → value < 2 ^ 64 → other < 2 ^ 64
    → OneDiffers t s value other → stepped digest (word t value) ≢ stepped digest (word s other)
differ_after digest t s value other digest_lt t_lt s_lt below other_below differ same =
    words_differ t s value other below other_below differ (step_tells_word digest (word t value) (word s other) digest_lt (word_below t value t_lt) (word_below s other s_lt) same)

tags_differ : (kind object another value other : ℕ) → OneDiffers object another value other → OneDiffers (tag object kind) (tag another kind) value other
tags_differ kind object another value other (inl (differ, equal)) = inl ((λ same. differ (omega arith)), equal)
tags_differ kind object another value other (inr (equal, differ)) = inr (ap (λ (o : ℕ). tag o kind) equal, differ)

update_below : (before after : ℕ) → before < 2 ^ 64 → after < 2 ^ 64 → value_of_update before after < 2 ^ 64
update_below before after before_below after_below =
    xor_lt 64 (rotate_left w64 before 31) after (or_lt 64 ((before * 2 ^ 31) % 2 ^ 64) (before / 2 ^ 33) (mod_below (before * 2 ^ 31) (2 ^ 64) (pow_pos 64)) (omega arith)) after_below

-- exactly one of the object, the value found and the value left differs
update_differs : (object another before found after left : ℕ) → before < 2 ^ 64 → found < 2 ^ 64
    → (OneDiffers object another before found × (after ≡ left)) ⊎ ((object ≡ another) × (before ≡ found) × (after ≢ left))
    → OneDiffers object another (value_of_update before after) (value_of_update found left)
update_differs object another before found after left before_below found_below (inl (inl (differ, equal), same)) = inl (differ, cc)
update_differs object another before found after left before_below found_below (inl (inr (equal, differ), same)) =
    inr (equal, λ one. differ (turn_of_31_tells before found before_below found_below (xor_tells_first (rotate_left w64 before 31) (rotate_left w64 found 31) left (ap (λ (v : ℕ). value_of_update before v) (sym same) ∙ one))))
update_differs object another before found after left before_below found_below (inr (equal, same, differ)) =
    inr (equal, λ one. differ (xor_tells (rotate_left w64 found 31) after left (ap (λ (v : ℕ). value_of_update v after) (sym same) ∙ one)))

pub events_differ : (digest : ℕ) → digest < 2 ^ 64 → (one other : Event) → IsInRange one → IsInRange other → DifferInOne one other → digest_with one digest ≢ digest_with other digest
events_differ digest below (Read object value) (Read another other) one_in other_in differ =
    differ_after digest (tag object 1) (tag another 1) value other below (omega arith) (omega arith) one_in.1 other_in.1 (tags_differ 1 object another value other differ)
events_differ digest below (Write object value) (Write another other) one_in other_in differ =
    differ_after digest (tag object 2) (tag another 2) value other below (omega arith) (omega arith) one_in.1 other_in.1 (tags_differ 2 object another value other differ)
events_differ digest below (Read object value) (Write another other) one_in other_in differ =
    differ_after digest (tag object 1) (tag another 2) value other below (omega arith) (omega arith) one_in.1 other_in.1 (inl ((λ same. omega arith), differ))
events_differ digest below (Write object value) (Read another other) one_in other_in differ =
    differ_after digest (tag object 2) (tag another 1) value other below (omega arith) (omega arith) one_in.1 other_in.1 (inl ((λ same. omega arith), differ))
events_differ digest below (Update object before after) (Update another found left) one_in other_in differ =
    differ_after digest (tag object 3) (tag another 3) (value_of_update before after) (value_of_update found left) below (omega arith) (omega arith)
    (update_below before after one_in.1 one_in.2) (update_below found left other_in.1 other_in.2)
    (tags_differ 3 object another (value_of_update before after) (value_of_update found left) (update_differs object another before found after left one_in.1 other_in.1 differ))
events_differ digest below one other one_in other_in differ = absurd differ

pub one_change_shows : OneChangeShows
one_change_shows earlier later one other one_in other_in differ same =
    let before = digest_of earlier in
    let below : before < 2 ^ 64 = digest_below earlier 0 (omega arith) in
    events_differ before below one other one_in other_in differ (later_tells later (digest_with one before) (digest_with other before) (with_below one before below) (with_below other before below)
    (sym (journals_join 0 earlier (one ∷ later)) ∙ (same ∙ journals_join 0 earlier (other ∷ later))))
