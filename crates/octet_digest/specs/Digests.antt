-- The digest of a journal: 64 bits that its accesses make. Marks are passed over.
use Rattle.std.specs.Prelude.{ℕ, ◌+◌, ◌*◌, ◌%◌, ◌^◌, bit_xor, List, [], ◌∷◌}
use Rattle.std.specs.Int.{w64, rotate_left}
use Rattle.octet_model.specs.declared.event.Event.{Event}
use Rattle.octet_model.specs.declared.event.Event.TheVariants.{Read, Write, Update, Marked}
use Rattle.octet_digest.specs.declared.digest.Digest.{Digest}
use Rattle.octet_digest.specs.declared.digest.TheConstants.{TURN, STEP_FACTOR, VALUE_FACTOR, FOUND_TURN, READ, WRITE, UPDATE}

-- the bits of a digest
abbrev pub bits_of : Digest → ℕ
bits_of digest = digest.bits

-- an object and a kind of access in one number
abbrev pub tag : ℕ → ℕ → ℕ
tag object kind = object * 4 + kind

-- a value spread over 64 bits
abbrev pub spread : ℕ → ℕ
spread value = (value * VALUE_FACTOR) % 2 ^ 64

-- what an access of this tag with this value puts into the digest
abbrev pub word : ℕ → ℕ → ℕ
word tag value = bit_xor tag (spread value)

-- the two values of an update in one
abbrev pub value_of_update : ℕ → ℕ → ℕ
value_of_update before after = bit_xor (rotate_left w64 before FOUND_TURN) after

-- the digest after an access that puts this word in
abbrev pub stepped : ℕ → ℕ → ℕ
stepped digest word = (bit_xor (rotate_left w64 digest TURN) word * STEP_FACTOR) % 2 ^ 64

-- the digest after an event: a read goes in with the value that it found, a write with the value that it wrote,
-- an update with the value that it found and the one that it left, and a mark not at all
abbrev pub digest_with : Event → ℕ → ℕ
digest_with (Read object value) digest = stepped digest (word (tag object READ) value)
digest_with (Write object value) digest = stepped digest (word (tag object WRITE) value)
digest_with (Update object before after) digest = stepped digest (word (tag object UPDATE) (value_of_update before after))
digest_with (Marked mark) digest = digest

-- the digest after the events of a journal
abbrev pub digest_after : ℕ → List Event → ℕ
digest_after digest [] = digest
digest_after digest (event ∷ journal) = digest_after (digest_with event digest) journal

-- the digest of a journal
abbrev pub digest_of : List Event → ℕ
digest_of journal = digest_after 0 journal
