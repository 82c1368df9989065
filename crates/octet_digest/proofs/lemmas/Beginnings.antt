-- Beginnings of one journal with equally many accesses have one digest.
use Rattle.std.proofs.Common.{◌≡◌, ◌∙◌, sym, ℕ, List, [], ◌∷◌, ◌++◌, refl, ap, arith}
use Rattle.octet_model.specs.declared.event.Event.{Event}
use Rattle.octet_model.specs.declared.event.Event.TheVariants.{Read, Write, Update, Marked}
use Rattle.octet_model.specs.Journals.{access_count}
use Rattle.octet_digest.specs.Digests.{digest_with, digest_after}
use Rattle.octet_digest.specs.Laws.{BeginningsAgree}

without_accesses : (journal : List Event) (digest : ℕ) → access_count journal ≡ 0 → digest_after digest journal ≡ digest
without_accesses [] digest none = refl
without_accesses (Marked mark ∷ journal) digest none = without_accesses journal digest none
without_accesses (access ∷ journal) digest none = absurd (omega arith)

counts_on : (event : Event) (one other : List Event) → access_count (event ∷ one) ≡ access_count (event ∷ other) → access_count one ≡ access_count other
counts_on (Read object value) one other same = omega arith
counts_on (Write object value) one other same = omega arith
counts_on (Update object before after) one other same = omega arith
counts_on (Marked mark) one other same = same

agree_from : (one rest other later : List Event) (digest : ℕ) → one ++ rest ≡ other ++ later → access_count one ≡ access_count other → digest_after digest one ≡ digest_after digest other
agree_from [] rest other later digest whole count = sym (without_accesses other digest (sym count))
agree_from (event ∷ one) rest [] later digest whole count = without_accesses (event ∷ one) digest count
agree_from (event ∷ one) rest (another ∷ other) later digest whole count =
    let same : event ≡ another = cc in
    let on : one ++ rest ≡ other ++ later = cc in
    let counts : access_count one ≡ access_count other = counts_on event one other (count ∙ ap (λ (e : Event). access_count (e ∷ other)) (sym same)) in
    agree_from one rest other later (digest_with event digest) on counts ∙ ap (λ (e : Event). digest_after (digest_with e digest) other) same

pub beginnings_agree : BeginningsAgree
beginnings_agree whole one rest other later is_one is_other count = agree_from one rest other later 0 (sym is_one ∙ is_other) count
