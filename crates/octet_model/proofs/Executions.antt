-- Worked examples of scripts and logs, computed.
use Rattle.std.proofs.Common.{◌≡◌, List, [], ◌∷◌, refl, lit<}
use Rattle.std.specs.Prelude.{codes}
use Rattle.std.specs.Fmt.{digits}
use Rattle.octet_model.specs.declared.command.Command.{Command}
use Rattle.octet_model.specs.declared.command.Command.TheVariants.{Set, Sub, Read, Write, Bump, Loop, Branch, Close}
use Rattle.octet_model.specs.declared.event.Mark.TheVariants.{Join, Draw, Fence}
use Rattle.octet_model.specs.declared.outcome.End.TheVariants.{Done, Spent}
use Rattle.octet_model.specs.declared.outcome.Outcome.{Outcome}
use Rattle.octet_model.specs.declared.script.Script.{Script}
use Rattle.octet_model.specs.declared.log.ThreadLog.{ThreadLog}
use Rattle.octet_model.specs.Thread.{matching_end, place_after_close}
use Rattle.octet_model.specs.Journals.{log_of}
use Rattle.octet_model.specs.Orders.{lowest_order, execution, journals_after}
use Rattle.octet_model.specs.Totals.{added_to}
use Rattle.octet_model.specs.Texts.{log_bytes, outcome_text}

-- one thread reads
abbrev one_read : Script
one_read = record { fuel = 16384; objects = record { name = codes "x"; start = 5; fits = lit< tt } ∷ []; threads = (Read 0 0 ∷ []) ∷ []; valid = refl }

abbrev one_read_log : List ThreadLog
one_read_log = record { accesses = 1; marks = [] } ∷ []

one_read_order : lowest_order one_read one_read_log ≡ 0 ∷ []
one_read_order = refl

abbrev one_read_outcome : Outcome
one_read_outcome = record { ends = Done ∷ []; reads = (5 ∷ []) ∷ []; heap = 5 ∷ [] }

one_read_gives : execution one_read one_read_log (0 ∷ []) ≡ one_read_outcome
one_read_gives = refl

one_read_bytes : log_bytes one_read_log ≡ 0x4f ∷ 0x43 ∷ 0x54 ∷ 0x4c ∷ 1 ∷ 1 ∷ 0 ∷ 0 ∷ 0 ∷ 1 ∷ 0 ∷ 0 ∷ 0 ∷ 0 ∷ []
one_read_bytes = refl

one_read_text : outcome_text one_read one_read_outcome ≡ codes "thread 0 done 5\nobject x 5\n"
unfolding digits
one_read_text = refl

-- one thread writes, and another reads after it
abbrev write_then_read : Script
write_then_read = record {
  fuel = 16384;
  objects = record { name = codes "x"; start = 5; fits = lit< tt } ∷ [];
  threads = (Set 0 7 ∷ Write 0 0 ∷ []) ∷ (Read 0 0 ∷ []) ∷ [];
  valid = refl;
}

abbrev write_then_read_log : List ThreadLog
write_then_read_log = record { accesses = 1; marks = [] } ∷ record { accesses = 1; marks = record { gap = 0; mark = Join 0 1 } ∷ [] } ∷ []

write_then_read_order : lowest_order write_then_read write_then_read_log ≡ 0 ∷ 1 ∷ 1 ∷ []
write_then_read_order = refl

abbrev write_then_read_outcome : Outcome
write_then_read_outcome = record { ends = Done ∷ Done ∷ []; reads = [] ∷ (7 ∷ []) ∷ []; heap = 7 ∷ [] }

write_then_read_gives : execution write_then_read write_then_read_log (0 ∷ 1 ∷ 1 ∷ []) ≡ write_then_read_outcome
write_then_read_gives = refl

write_then_read_bytes : log_bytes write_then_read_log ≡
    0x4f ∷ 0x43 ∷ 0x54 ∷ 0x4c ∷ 1 ∷ 2
    ∷ 0 ∷ 0 ∷ 0 ∷ 1 ∷ 0 ∷ 0 ∷ 0 ∷ 0
    ∷ 0 ∷ 0 ∷ 0 ∷ 1 ∷ 0 ∷ 0 ∷ 0 ∷ 1
    ∷ 1 ∷ 0 ∷ 0 ∷ 0 ∷ 0 ∷ 0 ∷ 0 ∷ 0 ∷ 0 ∷ 0 ∷ 0 ∷ 0 ∷ 0 ∷ 1 ∷ []
write_then_read_bytes = refl

-- without its mark, the same script gives the same by its lowest order
abbrev without_mark : List ThreadLog
without_mark = record { accesses = 1; marks = [] } ∷ record { accesses = 1; marks = [] } ∷ []

without_mark_gives : execution write_then_read without_mark (lowest_order write_then_read without_mark) ≡ write_then_read_outcome
without_mark_gives = refl

-- where each thread's first event waits for the other's, no thread may step
waiting_for_each_other : lowest_order write_then_read
    (record { accesses = 1; marks = record { gap = 0; mark = Join 1 1 } ∷ [] } ∷ record { accesses = 1; marks = record { gap = 0; mark = Join 0 1 } ∷ [] } ∷ []) ≡ []
waiting_for_each_other = refl

-- a loop writes from 10 down to 1
abbrev counting_down : Script
counting_down = record {
  fuel = 16384;
  objects = record { name = codes "x"; start = 0; fits = lit< tt } ∷ [];
  threads = (Set 0 10 ∷ Set 1 1 ∷ Loop 0 ∷ Write 0 0 ∷ Sub 0 0 1 ∷ Close ∷ []) ∷ [];
  valid = refl;
}

abbrev counting_down_log : List ThreadLog
counting_down_log = record { accesses = 10; marks = [] } ∷ []

counting_down_gives : execution counting_down counting_down_log (lowest_order counting_down counting_down_log) ≡ record { ends = Done ∷ []; reads = [] ∷ []; heap = 1 ∷ [] }
counting_down_gives = refl

-- three threads, of which the first has nothing to do and the others share their reads
abbrev shared_reads : Script
shared_reads = record {
  fuel = 16384;
  objects = record { name = codes "x"; start = 9; fits = lit< tt } ∷ [];
  threads = [] ∷ (Read 0 0 ∷ Read 1 0 ∷ []) ∷ (Read 0 0 ∷ []) ∷ [];
  valid = refl;
}

abbrev shared_reads_log : List ThreadLog
shared_reads_log =
    record { accesses = 0; marks = [] }
    ∷ record { accesses = 2; marks = record { gap = 0; mark = Join 0 0 } ∷ record { gap = 1; mark = Fence 1 } ∷ [] }
    ∷ record { accesses = 1; marks = record { gap = 0; mark = Join 1 1 } ∷ record { gap = 0; mark = Draw 1 } ∷ [] } ∷ []

shared_reads_order : lowest_order shared_reads shared_reads_log ≡ 1 ∷ 1 ∷ 2 ∷ 2 ∷ 1 ∷ 1 ∷ 2 ∷ []
shared_reads_order = refl

shared_reads_gives : execution shared_reads shared_reads_log (1 ∷ 1 ∷ 2 ∷ 2 ∷ 1 ∷ 1 ∷ 2 ∷ []) ≡ record { ends = Done ∷ Done ∷ Done ∷ []; reads = [] ∷ (9 ∷ 9 ∷ []) ∷ (9 ∷ []) ∷ []; heap = 9 ∷ [] }
shared_reads_gives = refl

shared_reads_log_again : log_of (journals_after shared_reads shared_reads_log (1 ∷ 1 ∷ 2 ∷ 2 ∷ 1 ∷ 1 ∷ 2 ∷ [])) ≡ shared_reads_log
shared_reads_log_again = refl

-- two threads bump one object, and what they add is its total
abbrev bumps : Script
bumps = record {
  fuel = 16384;
  objects = record { name = codes "n"; start = 5; fits = lit< tt } ∷ [];
  threads = (Set 0 2 ∷ Bump 0 0 ∷ Bump 0 0 ∷ []) ∷ (Set 0 3 ∷ Bump 0 0 ∷ []) ∷ [];
  valid = refl;
}

abbrev bumps_log : List ThreadLog
bumps_log = record { accesses = 2; marks = [] } ∷ record { accesses = 1; marks = record { gap = 0; mark = Join 0 2 } ∷ [] } ∷ []

bumps_give : execution bumps bumps_log (lowest_order bumps bumps_log) ≡ record { ends = Done ∷ Done ∷ []; reads = [] ∷ [] ∷ []; heap = 12 ∷ [] }
bumps_give = refl

bumps_add : added_to 0 (journals_after bumps bumps_log (lowest_order bumps bumps_log)) ≡ 7
bumps_add = refl

-- totals are modulo 2 ^ 64
abbrev past_the_end : Script
past_the_end = record {
  fuel = 16384;
  objects = record { name = codes "n"; start = 18446744073709551615; fits = lit< tt } ∷ [];
  threads = (Set 0 2 ∷ Bump 0 0 ∷ []) ∷ [];
  valid = refl;
}

past_the_end_gives : execution past_the_end (record { accesses = 1; marks = [] } ∷ []) (0 ∷ []) ≡ record { ends = Done ∷ []; reads = [] ∷ []; heap = 1 ∷ [] }
past_the_end_gives = refl

-- fuel runs out in a loop
abbrev out_of_fuel : Script
out_of_fuel = record {
  fuel = 5;
  objects = record { name = codes "x"; start = 0; fits = lit< tt } ∷ [];
  threads = (Set 0 1 ∷ Loop 0 ∷ Read 1 0 ∷ Close ∷ []) ∷ [];
  valid = refl;
}

out_of_fuel_gives : execution out_of_fuel (record { accesses = 1; marks = [] } ∷ []) (0 ∷ []) ≡ record { ends = Spent ∷ []; reads = (0 ∷ []) ∷ []; heap = 0 ∷ [] }
out_of_fuel_gives = refl

-- openers within an opener
abbrev nested : List Command
nested = Loop 0 ∷ Branch 1 ∷ Close ∷ Branch 2 ∷ Loop 3 ∷ Close ∷ Close ∷ Close ∷ []

outer_end : matching_end nested 0 ≡ 7
outer_end = refl

inner_end : matching_end nested 3 ≡ 6
inner_end = refl

loop_goes_back : place_after_close nested 7 ≡ 0
loop_goes_back = refl

inner_loop_goes_back : place_after_close nested 5 ≡ 4
inner_loop_goes_back = refl

branch_goes_on : place_after_close nested 6 ≡ 7
branch_goes_on = refl
