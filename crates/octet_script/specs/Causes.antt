-- The causes of refusals, as numbers and in words.
use Rattle.std.specs.Prelude.{ℕ, List, codes}
use Rattle.octet_script.specs.declared.cause.ScriptCause.{ScriptCause}
use Rattle.octet_script.specs.declared.cause.ScriptCause.TheVariants.{NotUtf8, UnknownWord, WrongCount, BadNumber, BadName, NameTwice, NoSuchObject, BadRegister, Misplaced, Unclosed, EndWithoutOpen, TooMany, NoThread, BadFuel}

-- the number of a cause
abbrev pub cause_number : ScriptCause → ℕ
cause_number NotUtf8 = 1
cause_number UnknownWord = 2
cause_number WrongCount = 3
cause_number BadNumber = 4
cause_number BadName = 5
cause_number NameTwice = 6
cause_number NoSuchObject = 7
cause_number BadRegister = 8
cause_number Misplaced = 9
cause_number Unclosed = 10
cause_number EndWithoutOpen = 11
cause_number TooMany = 12
cause_number NoThread = 13
cause_number BadFuel = 14

-- the words for a cause
abbrev pub cause_text : ScriptCause → List ℕ
cause_text NotUtf8 = codes "not UTF-8"
cause_text UnknownWord = codes "unknown word"
cause_text WrongCount = codes "wrong count of words"
cause_text BadNumber = codes "bad number"
cause_text BadName = codes "bad name"
cause_text NameTwice = codes "name given twice"
cause_text NoSuchObject = codes "no such object"
cause_text BadRegister = codes "bad register"
cause_text Misplaced = codes "misplaced"
cause_text Unclosed = codes "unclosed"
cause_text EndWithoutOpen = codes "end without open"
cause_text TooMany = codes "too many"
cause_text NoThread = codes "no thread"
cause_text BadFuel = codes "bad fuel"
