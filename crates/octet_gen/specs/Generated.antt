-- The script that is generated from a number.
use Rattle.std.specs.Prelude.{◌≡◌, ℕ, zero, suc, ◌+◌, ◌*◌, ◌/◌, ◌%◌, ◌^◌, ◌==◌, nat_lt, if◌then◌else◌, List, [], ◌∷◌, ◌++◌, map, codes}
use Rattle.std.specs.Fmt.{decimal}
use Rattle.std.specs.List.{range_with_len}
use Rattle.octet_model.specs.declared.command.Command.{Command}
use Rattle.octet_model.specs.declared.command.Command.TheVariants.{Set, Sub, Read, Write, Loop, Close, Safe}
use Rattle.octet_model.specs.declared.script.Script.{Script}

-- the number that follows a number
abbrev pub next_number : ℕ → ℕ
next_number x = (x * 6364136223846793005 + 1442695040888963407) % 2 ^ 64

-- the number after so many draws
unfoldable pub number_after : ℕ → ℕ → ℕ
number_after number zero = number
number_after number (suc draws) = next_number (number_after number draws)

-- the draw at a place of the sequence, counted from 0: the new number divided by 2 ^ 33
abbrev pub draw_at : ℕ → ℕ → ℕ
draw_at number place = number_after number (suc place) / 2 ^ 33

-- the object that a draw names: one of the thread's own four objects for fourteen of sixteen draws,
-- else one of the 32 that all threads share
abbrev pub object_of_draw : ℕ → ℕ → ℕ
object_of_draw thread draw = if nat_lt (draw % 16) 14 then 4 * thread + (draw % 16) % 4 else 32 + (draw / 16) % 32

-- the access of a draw: a write of register 0 for one of four draws, else a read into register 2
abbrev pub access_of_draw : ℕ → ℕ → Command
access_of_draw thread draw = if (draw / 512) % 4 == 0 then Write (object_of_draw thread draw) 0 else Read 2 (object_of_draw thread draw)

-- the accesses of a thread, by the draws from a place of the sequence on
unfoldable pub accesses_from : ℕ → ℕ → ℕ → ℕ → List Command
accesses_from number start thread count = map (λ place. access_of_draw thread (draw_at number (start + place))) (range_with_len 0 count)

-- a loop of 1,250 turns round the given commands, with a safe point in each turn
abbrev pub loop_round : List Command → List Command
loop_round commands = (Set 0 1250 ∷ Set 1 1 ∷ Loop 0 ∷ []) ++ commands ++ (Safe ∷ Sub 0 0 1 ∷ Close ∷ [])

-- a thread: sixteen accesses, drawn after those of the threads before it, in a loop
abbrev pub generated_thread : ℕ → ℕ → List Command
generated_thread number thread = loop_round (accesses_from number (16 * thread) thread 16)

-- the first `count` threads
unfoldable pub generated_threads : ℕ → ℕ → List (List Command)
generated_threads number count = map (generated_thread number) (range_with_len 0 count)

-- the name of an object: o and its place
abbrev pub generated_name : ℕ → List ℕ
generated_name place = codes "o" ++ decimal place

-- the names of the first `count` objects
unfoldable pub generated_names : ℕ → List (List ℕ)
generated_names count = map generated_name (range_with_len 0 count)

-- the first `count` numbers
unfoldable pub first_numbers : ℕ → List ℕ
first_numbers count = range_with_len 0 count

-- the script of a number: fuel 32,768, 64 objects that start with their places, and eight threads
pub record IsGenerated (number : ℕ) (script : Script) : Type 0 where
  pub fuel : script.fuel ≡ 32768
  pub names : map (λ object. object.name) script.objects ≡ generated_names 64
  pub starts : map (λ object. object.start) script.objects ≡ first_numbers 64
  pub threads : script.threads ≡ generated_threads number 8
