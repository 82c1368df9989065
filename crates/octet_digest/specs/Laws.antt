-- What a digest tells.
use Rattle.std.specs.Prelude.{◌≡◌, ◌≢◌, ◌⊎◌, ℕ, ◌^◌, ◌<◌, List, ◌∷◌, ◌++◌}
use Rattle.octet_model.specs.declared.event.Event.{Event}
use Rattle.octet_model.specs.declared.event.Event.TheVariants.{Read, Write, Update, Marked}
use Rattle.octet_model.specs.Journals.{access_count}
use Rattle.octet_digest.specs.Digests.{digest_after, digest_of, stepped}

-- the digest of a journal goes on from that of its beginning
abbrev pub JournalsJoin : Type 0
JournalsJoin = (digest : ℕ) (earlier later : List Event) → digest_after digest (earlier ++ later) ≡ digest_after (digest_after digest earlier) later

-- for a given word no two digests lead to one
abbrev pub StepTellsDigest : Type 0
StepTellsDigest = (word one other : ℕ) → one < 2 ^ 64 → other < 2 ^ 64 → stepped one word ≡ stepped other word → one ≡ other

-- for a given digest no two words lead to one
abbrev pub StepTellsWord : Type 0
StepTellsWord = (digest one other : ℕ) → digest < 2 ^ 64 → one < 2 ^ 64 → other < 2 ^ 64 → stepped digest one ≡ stepped digest other → one ≡ other

-- an object's number has 16 bits, and a value has 64
abbrev pub IsInRange : Event → Type 0
IsInRange (Read object value) = (object < 2 ^ 16) × (value < 2 ^ 64)
IsInRange (Write object value) = (object < 2 ^ 16) × (value < 2 ^ 64)
IsInRange (Update object before after) = (object < 2 ^ 16) × (before < 2 ^ 64) × (after < 2 ^ 64)
IsInRange (Marked mark) = Unit {0}

-- exactly one of two pairs of numbers differs
abbrev pub OneDiffers : ℕ → ℕ → ℕ → ℕ → Type 0
OneDiffers a b c d = ((a ≢ b) × (c ≡ d)) ⊎ ((a ≡ b) × (c ≢ d))

-- two accesses differ in one thing: in the object, or in a value, or, at equal values, in being a read or a write.
-- Of an update either the value found or the value left may differ
abbrev pub DifferInOne : Event → Event → Type 0
DifferInOne (Read object value) (Read another other) = OneDiffers object another value other
DifferInOne (Write object value) (Write another other) = OneDiffers object another value other
DifferInOne (Read object value) (Write another other) = value ≡ other
DifferInOne (Write object value) (Read another other) = value ≡ other
DifferInOne (Update object before after) (Update another found left) =
    (OneDiffers object another before found × (after ≡ left)) ⊎ ((object ≡ another) × (before ≡ found) × (after ≢ left))
DifferInOne _ _ = ⊥

-- journals that are equal but for one access, which differs in one thing, have different digests
abbrev pub OneChangeShows : Type 0
OneChangeShows = (earlier later : List Event) (one other : Event) → IsInRange one → IsInRange other → DifferInOne one other
    → digest_of (earlier ++ one ∷ later) ≢ digest_of (earlier ++ other ∷ later)

-- two beginnings of one journal with equally many accesses have one digest
abbrev pub BeginningsAgree : Type 0
BeginningsAgree = (whole one rest other later : List Event) → whole ≡ one ++ rest → whole ≡ other ++ later
    → access_count one ≡ access_count other → digest_of one ≡ digest_of other
