use Rattle.std.proofs.Common.{◌≡◌, ◌++◌, map, true}
use Rattle.std.specs.List.{list_all}
use Rattle.octet_model.specs.Name.{is_name}
use Rattle.octet_script.specs.Spelling.{declaration}
use Rattle.octet_script.proofs.spelling.Declared.{Entry, shown}
use Rattle.octet_script.proofs.objects.Objects.to_list.Given as goal

abbrev pub invariant-loop-name : goal.invariant-loop-name
invariant-loop-name l = record {
  can_next : (goal.iterator-loop-name).can_next l.name-iterator;
  finite : (goal.iterator-loop-name).is_finite l.name-iterator;
  declarations : map declaration l.objects.items ++ map shown l.name-iterator ≡ l.self;
  named : list_all (λ (e : Entry). is_name e.0.now) l.name-iterator ≡ true;
}
