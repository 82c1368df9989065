-- The frame of a piece: its kind, the length of its body, twice, the body, and a checksum of all these.
use Rattle.std.specs.Prelude.{ℕ, ◌+◌, ◌==◌, List, ◌∷◌, ◌++◌, length, take, drop, Option, Some, None, Result, Ok, nat_lt, nat_le, slice_index, ◌&&◌, if◌then◌else◌}
use Rattle.std.specs.Int.{to_be_bytes, from_be_bytes, w32, w64}
use Rattle.std.specs.Str.{bytes_eq}
use Rattle.sha2.specs.Sha256.{sha256}
use Rattle.octet_marks.specs.declared.cause.MarksCause.{MarksCause}
use Rattle.octet_marks.specs.declared.cause.MarksCause.TheVariants.{BadLength, BadChecksum}
use Rattle.octet_marks.specs.declared.limits.TheConstants.{MAX_BODY}
use Rattle.octet_marks.specs.Judging.{◌>>=◌, wanted}

-- the first eight bytes of the SHA-256 of some bytes
abbrev pub checksum : List ℕ → List ℕ
checksum bytes = to_be_bytes w64 (from_be_bytes w64 (take 8 (sha256 bytes)))

-- a frame without its checksum. Its length stands there twice, so that a change of it is found before so many
-- bytes are waited for
abbrev pub front_bytes : ℕ → List ℕ → List ℕ
front_bytes kind body = kind ∷ to_be_bytes w32 (length body) ++ to_be_bytes w32 (length body) ++ body

-- a frame
abbrev pub frame_bytes : ℕ → List ℕ → List ℕ
frame_bytes kind body = front_bytes kind body ++ checksum (front_bytes kind body)

-- the length of the body, which the eight bytes after the kind say twice
unfoldable pub length_at : List ℕ → Result ℕ MarksCause
length_at field = do
  fits ← wanted ((from_be_bytes w32 (take 4 field) == from_be_bytes w32 (drop 4 field)) && nat_le (from_be_bytes w32 (take 4 field)) MAX_BODY) BadLength
  Ok (from_be_bytes w32 (take 4 field))

-- the kind and the body of the frame at the front, and how many bytes the frame has; nothing, if it is cut
unfoldable pub frame_at : List ℕ → Result (Option (ℕ × List ℕ × ℕ)) MarksCause
frame_at bytes =
    if nat_lt (length bytes) 9 then Ok None else do
      body ← length_at (drop 1 (take 9 bytes))
      if nat_lt (length bytes) (9 + body + 8) then Ok None else do
        same ← wanted (bytes_eq (take 8 (drop (9 + body) bytes)) (checksum (take (9 + body) bytes))) BadChecksum
        Ok (Some (slice_index bytes 0, drop 9 (take (9 + body) bytes), 9 + body + 8))
