-- What words ask for, and which files that takes and writes.
use Rattle.std.specs.Prelude.{ℕ, Bool, true, false, ◌&&◌, nat_le, List, [], ◌∷◌, map, codes, if◌then◌else◌, Option, Some, None, String, string_bytes}
use denote.Ref.{Bor}
use Rattle.std.specs.Option.{option_map}
use Rattle.std.specs.Str.{bytes_eq}
use Rattle.std.specs.Global.{Global}
use Rattle.sha2.specs.Sha256.{sha256}
use Rattle.octet_script.specs.Spelling.{number_of}
use Rattle.octet_hunt.specs.declared.limits.TheConstants.{MAX_TRIES}
use Rattle.octet_commands.specs.declared.request.TheConstants.{DEFAULT_MOMENTS, MOST_MOMENTS}
use Rattle.octet_commands.specs.Picks.{are_picks}
use Rattle.octet_commands.specs.declared.request.PairTask.TheVariants.{Replay, Verify, Regions, Slice, Stop, Trace, Profile}
use Rattle.octet_commands.specs.declared.request.Way as way
use Rattle.octet_commands.specs.declared.request.Way.TheVariants.{AsTheyCome, BehindLock, ByPicks}
use Rattle.octet_commands.specs.declared.request.Quarry as quarry
use Rattle.octet_commands.specs.declared.request.Quarry.TheVariants.{OtherEnd, AnyCycle}
use Rattle.octet_commands.specs.declared.request.Claim as claim
use Rattle.octet_commands.specs.declared.request.Claim.TheVariants.{Leaves, CanEnd}
use Rattle.octet_commands.specs.declared.request.Request as request
use Rattle.octet_commands.specs.declared.request.Request.TheVariants.{Tidy, Show, Marks, OfPair, Parallel, Convert, Run, Gen, Hunt, Outcomes, Always}

-- the bytes of each word
abbrev pub texts : List (String Global) → List (List ℕ)
texts words = map (λ word. string_bytes word) words

-- the program's ways to run a script, with their texts as lists of bytes
abbrev pub Way : Type 0
Way = way.Way (List ℕ)

-- the digest that is written with the log: that of the script's text where threads run beside each other, else none
abbrev pub digest_kept : Way → List ℕ → Option (List ℕ)
digest_kept AsTheyCome text = Some (sha256 text)
digest_kept BehindLock text = None
digest_kept (ByPicks picks) text = None

-- what a hunt looks for, with its texts as lists of bytes
abbrev pub Quarry : Type 0
Quarry = quarry.Quarry (List ℕ)

-- what is claimed of every run, with its name as a list of bytes
abbrev pub Claim : Type 0
Claim = claim.Claim (List ℕ)

-- the program's requests, with their texts as lists of bytes
abbrev pub Request : Type 0
Request = request.Request (List ℕ)

-- the object that a quarry names
abbrev pub named_by : Quarry → Option (List ℕ)
named_by (OtherEnd name number) = Some name
named_by AnyCycle = None

-- the object that a claim names
abbrev pub claimed_of : Claim → Option (List ℕ)
claimed_of (Leaves name number) = Some name
claimed_of CanEnd = None

-- the number of tries that a word says, from 1 to 1,000,000
abbrev pub tries_of : List ℕ → Option ℕ
tries_of word = elim (number_of word) [ None ↦ None | Some n ↦ if nat_le 1 n && nat_le n MAX_TRIES then Some n else None ]

-- the number of moments that a word says, from 1 to 2^31
abbrev pub most_of : List ℕ → Option ℕ
most_of word = elim (number_of word) [ None ↦ None | Some n ↦ if nat_le 1 n && nat_le n MOST_MOMENTS then Some n else None ]

-- what two words ask for
abbrev pub asked_by_two : List ℕ → List ℕ → Option Request
asked_by_two word file =
    if bytes_eq word (codes "tidy") then Some (Tidy file)
    else (if bytes_eq word (codes "show") then Some (Show file)
    else (if bytes_eq word (codes "marks") then Some (Marks file)
    else (if bytes_eq word (codes "outcomes") then Some (Outcomes file DEFAULT_MOMENTS) else None)))

-- what three words ask for
abbrev pub asked_by_three : List ℕ → List ℕ → List ℕ → Option Request
asked_by_three word script log =
    if bytes_eq word (codes "run") then Some (Run AsTheyCome script log)
    else (if bytes_eq word (codes "locked") then Some (Run BehindLock script log)
    else (if bytes_eq word (codes "parallel") then Some (Parallel script log)
    else (if bytes_eq word (codes "replay") then Some (OfPair Replay script log None)
    else (if bytes_eq word (codes "verify") then Some (OfPair Verify script log None)
    else (if bytes_eq word (codes "regions") then Some (OfPair Regions script log None)
    else (if bytes_eq word (codes "trace") then Some (OfPair Trace script log None)
    else (if bytes_eq word (codes "profile") then Some (OfPair Profile script log None)
    else (if bytes_eq word (codes "outcomes") then option_map (λ most. Outcomes script most) (most_of log)
    else (if bytes_eq word (codes "always") then Some (Always CanEnd script log DEFAULT_MOMENTS) else None)))))))))

-- what four words ask for
abbrev pub asked_by_four : List ℕ → List ℕ → List ℕ → List ℕ → Option Request
asked_by_four word first second third =
    if bytes_eq word (codes "gen") then option_map (λ n. Gen n second third) (number_of first)
    else (if bytes_eq word (codes "turns") && are_picks third then Some (Run (ByPicks third) first second)
    else (if bytes_eq word (codes "profile") then Some (OfPair Profile first second (Some third))
    else (if bytes_eq word (codes "convert") then Some (Convert first second third)
    else (if bytes_eq word (codes "hunt") then option_map (λ tries. Hunt AnyCycle first second tries) (tries_of third)
    else (if bytes_eq word (codes "always") then option_map (λ most. Always CanEnd first second most) (most_of third) else None)))))

-- what five words ask for
abbrev pub asked_by_five : List ℕ → List ℕ → List ℕ → List ℕ → List ℕ → Option Request
asked_by_five word script log third last =
    if bytes_eq word (codes "slice") then elim (number_of third) [ None ↦ None | Some thread ↦ option_map (λ event. OfPair (Slice thread event) script log None) (number_of last) ]
    else (if bytes_eq word (codes "stop") then option_map (λ value. OfPair (Stop value) script log (Some third)) (number_of last)
    else (if bytes_eq word (codes "always") then option_map (λ number. Always (Leaves third number) script log DEFAULT_MOMENTS) (number_of last) else None))

-- what six words ask for
abbrev pub asked_by_six : List ℕ → List ℕ → List ℕ → List ℕ → List ℕ → List ℕ → Option Request
asked_by_six word script log name number last =
    if bytes_eq word (codes "hunt") then elim (number_of number) [ None ↦ None | Some n ↦ option_map (λ tries. Hunt (OtherEnd name n) script log tries) (tries_of last) ]
    else (if bytes_eq word (codes "always") then elim (number_of number) [ None ↦ None | Some n ↦ option_map (λ most. Always (Leaves name n) script log most) (most_of last) ] else None)

-- what words ask for, if they ask for anything
abbrev pub request_in : List (List ℕ) → Option Request
request_in (word ∷ file ∷ []) = asked_by_two word file
request_in (word ∷ script ∷ log ∷ []) = asked_by_three word script log
request_in (word ∷ first ∷ second ∷ third ∷ []) = asked_by_four word first second third
request_in (word ∷ script ∷ log ∷ third ∷ last ∷ []) = asked_by_five word script log third last
request_in (word ∷ script ∷ log ∷ name ∷ number ∷ last ∷ []) = asked_by_six word script log name number last
request_in _ = None

-- the test whether a request starts threads or runs a script, or is served while its file is read
abbrev pub needs_runtime : Request → Bool
needs_runtime (Marks file) = true
needs_runtime (Parallel script log) = true
needs_runtime (Run way script log) = true
needs_runtime (Gen number script log) = true
needs_runtime _ = false

-- the request, if it needs no runtime
abbrev pub if_alone : Request → Option Request
if_alone request = if needs_runtime request then None else Some request

-- the request, if there is one and it needs no runtime
abbrev pub alone_in : Option Request → Option Request
alone_in None = None
alone_in (Some request) = if_alone request

-- what words ask for that starts no thread, runs no script, and is served once its files are read
abbrev pub reading_in : List (List ℕ) → Option Request
reading_in words = alone_in (request_in words)

-- the files that a request writes, in order
abbrev pub outputs_of : Request → List (List ℕ)
outputs_of (Convert script log out) = out ∷ []
outputs_of (Run way script log) = log ∷ []
outputs_of (Gen number script log) = script ∷ log ∷ []
outputs_of (Hunt quarry script log tries) = log ∷ []
outputs_of (Always claim script log most) = log ∷ []
outputs_of _ = []

-- the files that a request writes, if there is a request
abbrev pub outputs_in : Option Request → List (List ℕ)
outputs_in None = []
outputs_in (Some request) = outputs_of request

-- the bytes of a name, if there is one
abbrev pub name_in : Option (Bor (List ℕ)) → Option (List ℕ)
name_in name = option_map (λ (shown : Bor (List ℕ)). shown.now) name

-- the way of a run that the program holds, by the bytes of its texts
abbrev pub shown_way : way.Way (Bor (List ℕ)) → Way
shown_way AsTheyCome = AsTheyCome
shown_way BehindLock = BehindLock
shown_way (ByPicks picks) = ByPicks picks.now

-- the quarry of a hunt that the program holds, by the bytes of its texts
abbrev pub shown_quarry : quarry.Quarry (Bor (List ℕ)) → Quarry
shown_quarry (OtherEnd name number) = OtherEnd name.now number
shown_quarry AnyCycle = AnyCycle

-- the claim that the program holds, by the bytes of its name
abbrev pub shown_claim : claim.Claim (Bor (List ℕ)) → Claim
shown_claim (Leaves name number) = Leaves name.now number
shown_claim CanEnd = CanEnd

-- the request that the program holds, by the bytes of its texts
abbrev pub shown : request.Request (Bor (List ℕ)) → Request
shown (Tidy script) = Tidy script.now
shown (Show log) = Show log.now
shown (Marks file) = Marks file.now
shown (OfPair task script log object) = OfPair task script.now log.now (name_in object)
shown (Parallel script log) = Parallel script.now log.now
shown (Convert script log out) = Convert script.now log.now out.now
shown (Run way script log) = Run (shown_way way) script.now log.now
shown (Gen number script log) = Gen number script.now log.now
shown (Hunt quarry script log tries) = Hunt (shown_quarry quarry) script.now log.now tries
shown (Outcomes script most) = Outcomes script.now most
shown (Always claim script log most) = Always (shown_claim claim) script.now log.now most
