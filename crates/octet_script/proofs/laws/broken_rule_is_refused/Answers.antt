use Rattle.octet_script.proofs.judging.BrokenRules.{unknown_word, wrong_count, misplaced, bad_argument, bad_fuel, many_objects, bad_end, open_thread, many_threads, fuel_of_all}
use Rattle.octet_script.proofs.laws.broken_rule_is_refused.Goals as goal

pub returns : goal.returns
returns c = record {
  word = unknown_word;
  count = wrong_count;
  place = misplaced;
  argument = bad_argument;
  fuel = bad_fuel;
  object = many_objects;
  end = bad_end;
  open_thread = open_thread;
  thread = many_threads;
  fuel_of_all = fuel_of_all;
}
