-- The laws of both versions: bytes spell one log, and no log goes on where another ends.
use Rattle.std.specs.Prelude.{◌≡◌, ℕ, ◌↔◌, List, [], ◌++◌, Option, Ok, IsTrue}
use Rattle.octet_model.specs.declared.log.ThreadLog.{ThreadLog}
use Rattle.octet_model.specs.Log.{is_log}
use Rattle.octet_log.specs.Inputs.{IsInput}
use Rattle.octet_log.specs.Spellings.{IsSpelling}
use Rattle.octet_log.specs.Loading.{loaded}

-- the bytes load as a log exactly where they spell it and it is valid, in either version
abbrev pub LoadsLogs : Type 0
LoadsLogs = (bytes : List ℕ) (logs : List ThreadLog) (digest : Option (List ℕ)) → IsInput bytes → (loaded bytes ≡ Ok (record { logs = logs; digest = digest })) ↔ (IsSpelling bytes digest logs × IsTrue (is_log logs))

-- no bytes spell two logs, nor two digests
abbrev pub SpellingsSpellOneLog : Type 0
SpellingsSpellOneLog = (bytes : List ℕ) (one other : List ThreadLog) (digest second : Option (List ℕ)) → IsTrue (is_log one) → IsTrue (is_log other) → IsSpelling bytes digest one → IsSpelling bytes second other → (one ≡ other) × (digest ≡ second)

-- the spelling of one log is never a proper front of another's
abbrev pub NoSpellingIsAPrefix : Type 0
NoSpellingIsAPrefix = (front rest : List ℕ) (one other : List ThreadLog) (digest second : Option (List ℕ)) → IsTrue (is_log one) → IsTrue (is_log other) → IsSpelling front digest one → IsSpelling (front ++ rest) second other → rest ≡ []
