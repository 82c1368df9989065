-- A window as files.
use Rattle.std.specs.Prelude.{◌≡◌, ◌⊎◌, ◌<◌, ◌≤◌, length, Some}
use Rattle.sha2.specs.Sha256.{sha256}
use Rattle.octet_log.specs.declared.limits.TheConstants.{MAX_MARKS}
use Rattle.octet_log.specs.Spellings.{IsSpelling}
use Rattle.octet_log.specs.v2.Pieces.{marks_in}
use Rattle.octet_model.specs.declared.limits.TheConstants.{MAX_SCRIPT_FILE}
use Rattle.octet_script.specs.Spelling.{canonical_text}
use Rattle.octet_window.specs.declared.closing.Window.{Window}
use Rattle.octet_tail.specs.declared.texts.Texts.{Texts}
use Rattle.octet_tail.specs.declared.texts.Unwritten.{Unwritten}
use Rattle.octet_tail.specs.declared.texts.Unwritten.TheVariants.{TooLong, OutOfMemory}

-- the text is that of the window's script, no longer than a script's file may be, and the bytes spell its log, with the digest of the text
pub record IsTexts (window : Window) (texts : Texts) : Type 0 where
  pub script : texts.script.items ≡ canonical_text window.script
  pub fits : length texts.script.items ≤ MAX_SCRIPT_FILE
  pub log : IsSpelling texts.log.items (Some (sha256 texts.script.items)) window.log.threads

-- why a window has no files: its text is longer than a script's file may be, or its log has more marks than a log's file; or
-- memory was refused
abbrev pub IsUnwritten : Window → Unwritten → Type 0
IsUnwritten window TooLong = (MAX_SCRIPT_FILE < length (canonical_text window.script)) ⊎ (MAX_MARKS < marks_in window.log.threads)
IsUnwritten window OutOfMemory = Unit {0}
