-- A schedule, and the thread that it picks.
use Rattle.std.specs.Prelude.{◌≡◌, ◌≢◌, ℕ, ◌+◌, ◌-◌, ◌^◌, min, Bool, true, List, Option, None, Some, length, nat_le}
use Rattle.octet_model.specs.declared.limits.TheConstants.{MAX_THREADS}
use Rattle.octet_schedule.specs.Draws.{draws_after}
use Rattle.octet_schedule.specs.Ready.{IsReady, NoneIn, still_ready}
use Rattle.octet_schedule.specs.Ways.{AreDrawn, GoesDrawn, GoesByRank, GoesAsWritten}
use Rattle.octet_schedule.specs.declared.drawn.Drawn.TheVariants.{Uniform, Bursts}
use Rattle.octet_schedule.specs.declared.priorities.TheConstants.{DRAWN_RANKS}
use Rattle.octet_schedule.specs.declared.priorities.Changes.{Changes}
use Rattle.octet_schedule.specs.declared.priorities.Ranks.{Ranks}
use Rattle.octet_schedule.specs.declared.schedule.TheConstants.{MOST_IN_A_ROW}
use Rattle.octet_schedule.specs.declared.schedule.Schedule.{Schedule}
use Rattle.octet_schedule.specs.declared.schedule.Way.{Way}
use Rattle.octet_schedule.specs.declared.schedule.Way.TheVariants as way

-- a schedule by which none is at work yet
abbrev pub begins : ℕ → Way → Schedule
begins draws how = record { draws = record { generator = draws }; way = how; at_work = None; in_a_row = 0 }

-- one by which any thread is drawn before each access
abbrev pub uniform : ℕ → Schedule
uniform draws = begins draws (way.Drawn Uniform)

-- one by which a thread makes up to so many accesses in a row, and then another one
abbrev pub by_bursts : ℕ → ℕ → Schedule
by_bursts draws longest = begins draws (way.Drawn (Bursts longest 0))

-- a schedule by priorities, whose ranks are drawn, and all of them lower than the one of whoever is put last
pub record Prioritizes (draws : ℕ) (changes : Changes) (that : Schedule) : Type 0 where
  pub order : Ranks
  pub ranks : AreDrawn draws DRAWN_RANKS order.ranks
  pub last : order.last ≡ DRAWN_RANKS
  pub begins_so : that ≡ begins (draws_after draws MAX_THREADS) (way.Priorities (record { order = order; changes = changes }))

-- the test whether the thread at work is to let the others go on
abbrev pub is_tired : Schedule → Bool
is_tired it = nat_le MOST_IN_A_ROW it.in_a_row

-- the one at work, if it is ready
abbrev pub ready_worker : Schedule → List Bool → Option ℕ
ready_worker it ready = still_ready ready it.at_work

-- the thread comes next by this way
abbrev pub Goes : Way → ℕ → List Bool → Option ℕ → Bool → ℕ → Way → ℕ → Type 0
Goes (way.Drawn it) draws ready at_work tired thread (way.Drawn that) now = GoesDrawn it draws ready at_work tired thread that now
Goes (way.Priorities it) draws ready at_work tired thread (way.Priorities that) now = GoesByRank it draws ready at_work tired thread that now
Goes (way.Written it) draws ready at_work tired thread (way.Written that) now = GoesAsWritten it draws ready at_work thread that now
Goes _ draws ready at_work tired thread _ now = ⊥

-- one that is tired comes next only where no other is ready, but as it is written
abbrev pub Rests : Way → List Bool → Option ℕ → Bool → ℕ → Type 0
Rests (way.Written it) ready at_work tired thread = Unit {0}
Rests _ ready at_work tired thread = tired ≡ true → at_work ≡ Some thread → NoneIn ready at_work 0 (length ready)

-- the thread makes one access more in a row, or its first one
pub record Notes (it : Schedule) (thread : ℕ) (that : Schedule) : Type 0 where
  pub at_work : that.at_work ≡ Some thread
  pub again : it.at_work ≡ Some thread → that.in_a_row ≡ min (it.in_a_row + 1) (2 ^ 32 - 1)
  pub another : it.at_work ≢ Some thread → that.in_a_row ≡ 1

-- a ready thread is picked, by the way of the schedule, and its accesses in a row are counted
pub record Picks (it : Schedule) (ready : List Bool) (thread : ℕ) (that : Schedule) : Type 0 where
  pub is_ready : IsReady ready thread
  pub goes : Goes it.way it.draws.generator ready (ready_worker it ready) (is_tired it) thread that.way that.draws.generator
  pub rests : Rests it.way ready (ready_worker it ready) (is_tired it) thread
  pub notes : Notes it thread that
