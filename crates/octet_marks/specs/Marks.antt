-- The marks of a block as bytes. Each is its source, its gap, and how far its number lies past that of the mark
-- before it with the same source.
use Rattle.std.specs.Prelude.{ℕ, zero, suc, ◌+◌, ◌-◌, ◌%◌, ◌^◌, ◌==◌, List, [], ◌∷◌, ◌++◌, length, Option, Some, None, nat_lt, if◌then◌else◌}
use Rattle.octet_model.specs.declared.event.Mark.{Mark}
use Rattle.octet_model.specs.declared.event.Mark.TheVariants.{Join, Draw, Fence}
use Rattle.octet_model.specs.declared.log.Gapped.{Gapped}
use Rattle.octet_model.specs.declared.limits.TheConstants.{MAX_THREADS}
use Rattle.octet_log.specs.v2.Short.{short_bytes}
use Rattle.octet_marks.specs.declared.source.TheConstants.{DRAW, FENCE}
use Rattle.octet_marks.specs.Fields.{◌>>=◌, passed, byte_at, short_at}

-- where a mark's number comes from: the thread that a Join names, or the counter of draws, for draws and for fences
abbrev pub source_of : Mark → ℕ
source_of (Join from upto) = from
source_of (Draw number) = DRAW
source_of (Fence number) = FENCE

-- the number of a mark: how many events of its thread a Join names, or the number that a Draw or a Fence has
abbrev pub number_of : Mark → ℕ
number_of (Join from upto) = upto
number_of (Draw number) = number
number_of (Fence number) = number

-- the mark with this source and this number, if the source is one
abbrev pub mark_from : ℕ → ℕ → Option Mark
mark_from source number =
    if nat_lt source MAX_THREADS then Some (Join source number)
    else if source == DRAW then Some (Draw number)
    else if source == FENCE then Some (Fence number)
    else None

-- the number of the last of the marks with this source; `before`, if there is none
abbrev pub last_number : ℕ → ℕ → List Gapped → ℕ
last_number source before [] = before
last_number source before (gapped ∷ more) = last_number source (if source_of gapped.mark == source then number_of gapped.mark else before) more

-- how far a number lies past another, modulo 2 ^ 64
abbrev pub step_from : ℕ → ℕ → ℕ
step_from before number = (2 ^ 64 + number - before) % 2 ^ 64

-- the bytes of a mark that stands after these in its block
abbrev pub mark_bytes : List Gapped → Gapped → List ℕ
mark_bytes earlier gapped =
    source_of gapped.mark ∷ short_bytes gapped.gap
    ++ short_bytes (step_from (last_number (source_of gapped.mark) 0 earlier) (number_of gapped.mark))

-- the bytes of marks that stand after the earlier ones in their block
abbrev pub marks_bytes : List Gapped → List Gapped → List ℕ
marks_bytes earlier [] = []
marks_bytes earlier (gapped ∷ more) = mark_bytes earlier gapped ++ marks_bytes (earlier ++ gapped ∷ []) more

-- the mark with this source and gap, whose number lies so far past that of the mark before it with the same source
abbrev pub mark_after : List Gapped → ℕ → ℕ → ℕ → Option Gapped
mark_after earlier source gap step = do
  mark ← mark_from source ((last_number source 0 earlier + step) % 2 ^ 64)
  Some (record { gap = gap; mark = mark })

-- the mark at the front, where these stand before it in its block, and the bytes after it
unfoldable pub mark_at : List Gapped → List ℕ → Option (Gapped × List ℕ)
mark_at earlier bytes = do
  source ← byte_at bytes
  gap ← short_at source.1
  small ← passed (nat_lt gap.0 (2 ^ 32))
  step ← short_at gap.1
  gapped ← mark_after earlier source.0 gap.0 step.0
  Some (gapped, step.1)

-- the marks that all of the bytes spell, with the earlier ones in front. There are at most `most` of them
unfoldable pub marks_at : ℕ → List Gapped → List ℕ → Option (List Gapped)
marks_at most earlier [] = Some earlier
marks_at zero earlier (byte ∷ bytes) = None
marks_at (suc most) earlier (byte ∷ bytes) = do
  gapped ← mark_at earlier (byte ∷ bytes)
  marks_at most (earlier ++ gapped.0 ∷ []) gapped.1

-- the marks that all of the bytes spell. Each of them takes at least one byte
abbrev pub marks_of : List ℕ → Option (List Gapped)
marks_of bytes = marks_at (length bytes) [] bytes
