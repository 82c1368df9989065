-- Room for lines.
use Rattle.std.proofs.Common.{◌≡◌, ◌∙◌, ℕ, ◌+◌, ◌≤◌, Option, Some, None, ap, arith}
use Rattle.octet_session.specs.Asking.{HasRoomFor, LacksRoomFor, Takes}

-- where no line is taken, as many are left
pub takes_none : (before after : Option ℕ) → Takes before 0 after → after ≡ before
takes_none before None taken = taken
takes_none before (Some left) taken = ap (λ (n : ℕ). Some n) (omega arith) ∙ taken

-- where some are taken, there is room for the others
pub room_after : (before after : Option ℕ) (lines more taken : ℕ) → Takes before taken after → HasRoomFor lines before → more + taken ≤ lines → HasRoomFor more after
room_after before None lines more taken takes room few = tt
room_after None (Some left) lines more taken takes room few = grind arith
room_after (Some had) (Some left) lines more taken takes room few = grind arith

-- there is not both
pub room_is_there : (lines : ℕ) (left : Option ℕ) → HasRoomFor lines left → LacksRoomFor lines left → ⊥
room_is_there lines None room lacks = lacks
room_is_there lines (Some left) room lacks = omega (arith, room, lacks)
