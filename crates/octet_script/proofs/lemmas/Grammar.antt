-- What a text says and the script that it spells, for the proofs above.
use Rattle.std.proofs.Common.{◌≡◌, ℕ, List, Result, Ok, Err, ap}
use Rattle.octet_model.specs.declared.script.Script.{Script}
use Rattle.octet_script.specs.declared.cause.ScriptFault.{ScriptFault}
use Rattle.octet_script.specs.declared.cause.ScriptFault.TheVariants.{Refused, OutOfMemory}
use Rattle.octet_script.specs.Spelling.{Spells, contents}
use Rattle.octet_script.specs.Parsing.{parsed, Gives}
use Rattle.octet_script.proofs.judging.Complete.{spelled_judged}
use Rattle.octet_script.proofs.spelling.Spelled.{script_says, same_script}

-- a text says what the script says that it spells
pub spells_parsed : (text : List ℕ) (s : Script) → Spells text s → parsed text ≡ Ok (contents s)
spells_parsed text s spells = spelled_judged text (contents s) (script_says s) spells

pub spelled_read : (text : List ℕ) (r : Result Script ScriptFault) (s : Script) → Gives contents r (parsed text) → Spells text s → Gives (λ t. t) r (Ok s)
spelled_read text (Ok t) s given spells =
    let good = spells_parsed text s spells in
    let says : contents s ≡ contents t = cc in
    ap (λ u. Ok u) (same_script s t says)
spelled_read text (Err OutOfMemory) s given spells = tt
spelled_read text (Err (Refused line cause)) s given spells =
    let good = spells_parsed text s spells in
    cc

-- a text spells one script at most
pub one_script : (text : List ℕ) (s t : Script) → Spells text s → Spells text t → t ≡ s
one_script text s t first second =
    let a = spells_parsed text s first in
    let b = spells_parsed text t second in
    let says : contents t ≡ contents s = cc in
    same_script t s says
