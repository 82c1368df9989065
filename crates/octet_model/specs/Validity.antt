-- What it means that a script or a log is valid, as plain facts.
use Rattle.std.specs.Prelude.{◌≢◌, ◌≡◌, ℕ, ◌*◌, ◌^◌, ◌<◌, ◌≤◌, Bool, true, false, List, [], length, take, get_or, map}
use Rattle.std.specs.List.{All, sum_by, count_by}
use Rattle.octet_model.specs.declared.command.Command.{Command}
use Rattle.octet_model.specs.declared.command.Command.TheVariants.{Set, Copy, Add, Sub, Mul, Xor, Less, Same, Read, Write, Bump, Loop, Branch, Close}
use Rattle.octet_model.specs.declared.event.Mark.{Mark}
use Rattle.octet_model.specs.declared.event.Mark.TheVariants.{Join, Draw, Fence}
use Rattle.octet_model.specs.declared.limits.TheConstants.{MAX_ACCESSES, MAX_FUEL, MAX_OBJECTS, MAX_THREADS, REGISTERS}
use Rattle.octet_model.specs.declared.log.ThreadLog.{ThreadLog}
use Rattle.octet_model.specs.declared.object.Object.{Object}
use Rattle.octet_model.specs.Thread.{is_opener}
use Rattle.octet_model.specs.Orders.{thread_log_of}

-- the number is one of a thread's registers
abbrev pub IsRegister : ℕ → Type 0
IsRegister register = register < REGISTERS

-- the number has 64 bits
abbrev pub IsNumber : ℕ → Type 0
IsNumber number = number < 2 ^ 64

-- each register that the command names is there
abbrev pub HasRegisters : Command → Type 0
HasRegisters (Set to number) = IsRegister to
HasRegisters (Copy to from) = IsRegister to × IsRegister from
HasRegisters (Add to left right) = IsRegister to × IsRegister left × IsRegister right
HasRegisters (Sub to left right) = IsRegister to × IsRegister left × IsRegister right
HasRegisters (Mul to left right) = IsRegister to × IsRegister left × IsRegister right
HasRegisters (Xor to left right) = IsRegister to × IsRegister left × IsRegister right
HasRegisters (Less to left right) = IsRegister to × IsRegister left × IsRegister right
HasRegisters (Same to left right) = IsRegister to × IsRegister left × IsRegister right
HasRegisters (Read to object) = IsRegister to
HasRegisters (Write object from) = IsRegister from
HasRegisters (Bump object from) = IsRegister from
HasRegisters (Loop test) = IsRegister test
HasRegisters (Branch test) = IsRegister test
HasRegisters _ = Unit {0}

-- the object that the command names is one of this number of objects
abbrev pub HasObject : ℕ → Command → Type 0
HasObject objects (Read to object) = object < objects
HasObject objects (Write object from) = object < objects
HasObject objects (Bump object from) = object < objects
HasObject objects _ = Unit {0}

-- the number that the command gives a register has 64 bits
abbrev pub HasNumber : Command → Type 0
HasNumber (Set to number) = IsNumber number
HasNumber _ = Unit {0}

-- all that a command names is in range, among this number of objects
abbrev pub IsCommand : ℕ → Command → Type 0
IsCommand objects command = HasRegisters command × HasNumber command × HasObject objects command

-- the test whether a command closes a loop or a branch
abbrev pub is_closer : Command → Bool
is_closer Close = true
is_closer _ = false

-- openers and closers are nested: up to each place stand at most as many closers as openers.
-- In all there are equally many of both
pub record IsNested (commands : List Command) : Type 0 where
  pub each_closes_one : (place : ℕ) → count_by is_closer (take place commands) ≤ count_by is_opener (take place commands)
  pub each_is_closed : count_by is_closer commands ≡ count_by is_opener commands

-- the commands of a valid thread are in range and nested
pub record IsValidThread (objects : ℕ) (commands : List Command) : Type 0 where
  pub in_range : All (IsCommand objects) commands
  pub nested : IsNested commands

-- no text stands at two places
abbrev pub AreDistinct : List (List ℕ) → Type 0
AreDistinct texts = (first second : ℕ) → first < second → second < length texts → get_or texts first [] ≢ get_or texts second []

-- a valid script: its fuel, objects and threads are within their limits, its names differ,
-- and its threads are valid
pub record IsValidScript (fuel : ℕ) (objects : List Object) (threads : List (List Command)) : Type 0 where
  pub some_fuel : 1 ≤ fuel
  pub most_fuel : fuel ≤ MAX_FUEL
  pub most_objects : length objects ≤ MAX_OBJECTS
  pub names_differ : AreDistinct (map (λ object. object.name) objects)
  pub some_threads : 1 ≤ length threads
  pub most_threads : length threads ≤ MAX_THREADS
  pub fuel_of_all : length threads * fuel ≤ MAX_FUEL
  pub each : All (IsValidThread (length objects)) threads

-- a valid mark of a thread, among a number of threads.
-- A Join names another thread. A Draw or a Fence has a number of at least 1
abbrev pub IsMark : ℕ → ℕ → Mark → Type 0
IsMark threads thread (Join from upto) = (from < threads) × (from ≢ thread) × IsNumber upto
IsMark threads thread (Draw number) = (1 ≤ number) × IsNumber number
IsMark threads thread (Fence number) = (1 ≤ number) × IsNumber number

-- a valid log of a thread: its marks are valid and fewer than 2 ^ 31, and their gaps sum to at most its accesses
pub record IsValidThreadLog (threads thread : ℕ) (log : ThreadLog) : Type 0 where
  pub few_marks : length log.marks < 2 ^ 31
  pub gaps : sum_by (λ mark. mark.gap) log.marks ≤ log.accesses
  pub marks : All (λ mark. IsMark threads thread mark.mark) log.marks

-- a valid log: its threads and accesses are within their limits, and the log of each thread is valid
pub record IsValidLog (log : List ThreadLog) : Type 0 where
  pub some_threads : 1 ≤ length log
  pub most_threads : length log ≤ MAX_THREADS
  pub accesses_of_all : sum_by (λ thread. thread.accesses) log ≤ MAX_ACCESSES
  pub each : (thread : ℕ) → thread < length log → IsValidThreadLog (length log) thread (thread_log_of log thread)
