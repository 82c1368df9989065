-- Which thread comes next, by each way. `draws` is the sequence of numbers before, and `now` the one after.
use Rattle.std.specs.Prelude.{◌≡◌, ℕ, ◌+◌, ◌-◌, ◌*◌, ◌%◌, ◌^◌, ◌<◌, ◌≤◌, ◌⊎◌, min, max, Bool, true, false, if◌then◌else◌, nat_le, List, Option, None, Some, get_or, length, slice_set}
use Rattle.octet_schedule.specs.Draws.{drawn, next_draws, draws_after}
use Rattle.octet_schedule.specs.Ready.{IsReady, IsCandidate, NoneIn, IsDrawn}
use Rattle.octet_schedule.specs.declared.drawn.Drawn.{Drawn}
use Rattle.octet_schedule.specs.declared.drawn.Drawn.TheVariants.{Uniform, Bursts, Switches}
use Rattle.octet_schedule.specs.declared.priorities.Changes.{Changes}
use Rattle.octet_schedule.specs.declared.priorities.Priorities.{Priorities}
use Rattle.octet_schedule.specs.declared.priorities.Ranks.{Ranks}
use Rattle.octet_schedule.specs.declared.written.Written.{Written}

-- whether the one at work goes on: while any of its burst is left, and else the length of a new one is drawn; but for so many
-- switches, where a draw decides
abbrev pub Stays : Drawn → ℕ → Bool → Drawn → ℕ → Type 0
Stays Uniform draws stays that now = (stays ≡ false) × (that ≡ Uniform) × (now ≡ draws)
Stays (Bursts longest left) draws true that now = (0 < left) × (that ≡ Bursts longest (left - 1)) × (now ≡ draws)
Stays (Bursts longest left) draws false that now = (left ≡ 0) × (that ≡ Bursts longest (drawn draws % max longest 1)) × (now ≡ next_draws draws)
Stays (Switches switches accesses) draws stays that now =
    (stays ≡ nat_le switches (drawn draws % max accesses 1)) × (that ≡ Switches (if stays then switches else switches - 1) (accesses - 1)) × (now ≡ next_draws draws)

-- one that does not stay, or is tired, or is not ready
abbrev pub Stops : Drawn → ℕ → Option ℕ → Bool → Drawn → ℕ → Type 0
Stops it draws at_work is_tired that now = Stays it draws false that now ⊎ (((is_tired ≡ true) ⊎ (at_work ≡ None)) × (that ≡ it) × (now ≡ draws))

-- in a uniform schedule any one is drawn, but for one that is tired. Else the one at work goes on, or another one is drawn
abbrev pub GoesDrawn : Drawn → ℕ → List Bool → Option ℕ → Bool → ℕ → Drawn → ℕ → Type 0
GoesDrawn Uniform draws ready at_work is_tired thread that now = (that ≡ Uniform) × IsDrawn draws ready (if is_tired then at_work else None) thread now
GoesDrawn it draws ready at_work is_tired thread that now =
    ((at_work ≡ Some thread) × (is_tired ≡ false) × Stays it draws true that now)
    ⊎ ((between : ℕ) × Stops it draws at_work is_tired that between × IsDrawn between ready at_work thread now)

-- none of the threads that are written from its place on is ready
abbrev pub NoneIsWritten : Written → List Bool → Written → Type 0
NoneIsWritten it ready that =
    ((at : ℕ) → it.place ≤ at → at < length it.picks.items → get_or ready (get_or it.picks.items at 0) false ≡ false)
    × (that.picks.items ≡ it.picks.items) × (that.place ≡ length it.picks.items)

-- the first of them that is ready, and its place is passed
pub record IsNextWritten (it : Written) (ready : List Bool) (thread : ℕ) (that : Written) : Type 0 where
  pub at : ℕ
  pub from : it.place ≤ at
  pub there : at < length it.picks.items
  pub picked : thread ≡ get_or it.picks.items at 0
  pub is_ready : IsReady ready thread
  pub first : (before : ℕ) → it.place ≤ before → before < at → get_or ready (get_or it.picks.items before 0) false ≡ false
  pub picks : that.picks.items ≡ it.picks.items
  pub place : that.place ≡ at + 1

-- the next one that is written; after the last of them the one at work goes on, and else one is drawn
abbrev pub GoesAsWritten : Written → ℕ → List Bool → Option ℕ → ℕ → Written → ℕ → Type 0
GoesAsWritten it draws ready at_work thread that now =
    (IsNextWritten it ready thread that × (now ≡ draws))
    ⊎ (NoneIsWritten it ready that × (((at_work ≡ Some thread) × (now ≡ draws)) ⊎ ((at_work ≡ None) × IsDrawn draws ready None thread now)))

-- the ranks are drawn, one after the other, below this number
abbrev pub AreDrawn : ℕ → ℕ → List ℕ → Type 0
AreDrawn draws end ranks = (thread : ℕ) → thread < length ranks → get_or ranks thread 0 ≡ drawn (draws_after draws thread) % end

-- the rank of a thread
abbrev pub rank_of : Ranks → ℕ → ℕ
rank_of it thread = get_or it.ranks thread 0

-- a ready thread of these, of which none has a lower rank
pub record IsFirstInRank (it : Ranks) (ready : List Bool) (passed_over : Option ℕ) (upto thread : ℕ) : Type 0 where
  pub high : thread < upto
  pub candidate : IsCandidate ready passed_over thread
  pub lowest : (other : ℕ) → other < upto → IsCandidate ready passed_over other → rank_of it thread ≤ rank_of it other

-- the thread has the last rank, and the next one that is put last gets a higher one
pub record IsPutLast (it : Ranks) (thread : ℕ) (that : Ranks) : Type 0 where
  pub ranks : that.ranks ≡ slice_set it.ranks thread it.last
  pub last : that.last ≡ min (it.last + 1) (2 ^ 64 - 1)

-- so many changes, at places that are drawn
abbrev pub drawn_changes : ℕ → ℕ → Changes
drawn_changes draws times =
    let apart = 4 * 2 ^ (drawn draws % 5) in record { times = times; after = drawn (next_draws draws) % apart; apart = apart }

-- whether a change is due: after so many accesses, so many times. When the next one comes is drawn
abbrev pub CountsDown : Changes → ℕ → Bool → Changes → ℕ → Type 0
CountsDown it draws true that now =
    (it.after ≡ 0) × (0 < it.times) × (that ≡ record it { times = it.times - 1; after = drawn draws % max it.apart 1 }) × (now ≡ next_draws draws)
CountsDown it draws false that now = ((0 < it.after) ⊎ (it.times ≡ 0)) × (that ≡ record it { after = it.after - 1 }) × (now ≡ draws)

-- where another thread is ready, the one at work is put last when it is tired, or a change is due
abbrev pub PutsLast : Priorities → ℕ → List Bool → Option ℕ → Bool → Option ℕ → Priorities → ℕ → Type 0
PutsLast it draws ready at_work is_tired None that now =
    (that.order ≡ it.order)
    × ((((at_work ≡ None) ⊎ NoneIn ready at_work 0 (length ready)) × (that.changes ≡ it.changes) × (now ≡ draws)) ⊎ ((is_tired ≡ false) × CountsDown it.changes draws false that.changes now))
PutsLast it draws ready at_work is_tired (Some thread) that now =
    (at_work ≡ Some thread) × IsPutLast it.order thread that.order
    × (((is_tired ≡ true) × (that.changes ≡ it.changes) × (now ≡ draws)) ⊎ ((is_tired ≡ false) × CountsDown it.changes draws true that.changes now))

-- the ready thread of the lowest rank, but for the one that has just been put last
pub record GoesByRank (it : Priorities) (draws : ℕ) (ready : List Bool) (at_work : Option ℕ) (is_tired : Bool) (thread : ℕ) (that : Priorities) (now : ℕ) : Type 0 where
  pub passed_over : Option ℕ
  pub puts_last : PutsLast it draws ready at_work is_tired passed_over that now
  pub first : IsFirstInRank that.order ready passed_over (length ready) thread
