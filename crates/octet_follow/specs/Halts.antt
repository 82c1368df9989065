-- Why a mark is not made.
use Rattle.std.specs.Prelude.{◌≡◌, ℕ, suc, ◌<◌, ◌≤◌, ◌⊎◌}
use Rattle.octet_model.specs.declared.event.Mark.{Mark}
use Rattle.octet_model.specs.declared.event.Mark.TheVariants.{Join, Draw, Fence}
use Rattle.octet_follow.specs.declared.halt.Halt.{Halt}
use Rattle.octet_follow.specs.declared.halt.Halt.TheVariants.{Waits, WaitsForDraws, Amiss}
use Rattle.octet_follow.specs.Steps.{Kind, ToLook, ToLookAtDraws}
use Rattle.octet_follow.specs.Views.{FollowerView}
use Rattle.octet_follow.specs.Rule.{Steps}

-- the last step of the follower was of this kind, and found this word
abbrev pub HasLastFound : Kind → ℕ → FollowerView → Type 0
HasLastFound k found v = (before : FollowerView) × Steps k before found v

-- the mark needs so many draws before it
abbrev pub NeedsDraws : Mark → ℕ → Type 0
NeedsDraws (Join from upto) needs = ⊥
NeedsDraws (Draw number) needs = number ≡ suc needs
NeedsDraws (Fence number) needs = number ≡ needs

-- the mark fits nothing: it names no thread of the course, or a draw that was made. Draws are numbered from 1
abbrev pub IsMisfit : Mark → FollowerView → Type 0
IsMisfit (Join from upto) v = v.followers ≤ from
IsMisfit (Draw number) v = (number ≡ 0) ⊎ ((found : ℕ) × (number ≤ found) × HasLastFound ToLookAtDraws found v)
IsMisfit (Fence number) v = ⊥

-- the reason why a follower has not made a mark: its last look found less than the mark needs, or the mark fits nothing
abbrev pub HaltsMark : Mark → Halt → FollowerView → Type 0
HaltsMark mark (Waits whom needs found) v = (mark ≡ Join whom needs) × (found < needs) × HasLastFound (ToLook whom) found v
HaltsMark mark (WaitsForDraws needs found) v = NeedsDraws mark needs × (found < needs) × HasLastFound ToLookAtDraws found v
HaltsMark mark Amiss v = IsMisfit mark v
HaltsMark mark _ v = ⊥
