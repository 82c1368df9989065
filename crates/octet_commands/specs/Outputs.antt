-- What an answer leaves in the files and in what was said, given whole or cut short.
use Rattle.std.specs.Prelude.{ℕ, ◌≡◌, ◌⊎◌, ◌++◌, List, [], ◌∷◌, take}
use Rattle.std.specs.FinMap.{insert}
use Rattle.octet_base.specs.Desk.{Files, Contents}
use Rattle.octet_commands.specs.Answer.{Answer}

-- the files with all of an answer's files written, in order
abbrev pub written : List (List ℕ × List ℕ) → Files → Files
written [] files = files
written (file ∷ rest) files = written rest (insert files file.0 file.1)

-- a file is as before, or has some first bytes of its own
abbrev pub IsPartlyWritten : List ℕ × List ℕ → Files → Files → Type 0
IsPartlyWritten file before after = (after ≡ before) ⊎ ((n : ℕ) × (after ≡ insert before file.0 (take n file.1)))

-- the files are written in order, up to one that is partly written
abbrev pub ArePartlyWritten : List (List ℕ × List ℕ) → Files → Files → Type 0
ArePartlyWritten [] before after = ⊥
ArePartlyWritten (file ∷ rest) before after = IsPartlyWritten file before after ⊎ ArePartlyWritten rest (insert before file.0 file.1) after

-- the answer is given whole: its files are written and its text is said
pub record IsWhole (answer : Answer) (before after : Contents) : Type 0 where
  pub files : after.files ≡ written answer.files before.files
  pub said : after.said ≡ before.said ++ answer.text

-- the answer is cut short. The files are partly written and nothing is said,
-- or all are written and some first bytes of the text are said
abbrev pub IsCutShort : Answer → Contents → Contents → Type 0
IsCutShort answer before after =
    (ArePartlyWritten answer.files before.files after.files × (after.said ≡ before.said))
    ⊎ ((after.files ≡ written answer.files before.files) × ((n : ℕ) × (after.said ≡ before.said ++ take n answer.text)))
