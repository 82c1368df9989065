-- Statements of laws about the grammar.
use Rattle.std.specs.Prelude.{◌≡◌, ◌↔◌, ℕ, List, Ok, IsTrue}
use Rattle.std.specs.List.{list_all}
use Rattle.octet_model.specs.declared.script.Script.{Script}
use Rattle.octet_model.specs.Name.{is_name}
use Rattle.octet_script.specs.Spelling.{Spells, contents, object_names, canonical_text}
use Rattle.octet_script.specs.Parsing.{parsed}

-- the parsed text says what a script says exactly where the text spells this script
abbrev pub ParsedIsSpelled : Type 0
ParsedIsSpelled = (text : List ℕ) (script : Script) → (parsed text ≡ Ok (contents script)) ↔ Spells text script

-- a text spells one script at most
abbrev pub OneScript : Type 0
OneScript = (text : List ℕ) (script other : Script) → Spells text script → Spells text other → other ≡ script

-- the objects' names have the form of names. Each `Name` has this form by its type
abbrev pub AreNamed : Script → Type 0
AreNamed script = IsTrue (list_all is_name (object_names script.objects))

-- the canonical text of a script spells it
abbrev pub CanonicalSpells : Type 0
CanonicalSpells = (script : Script) → AreNamed script → Spells (canonical_text script) script
