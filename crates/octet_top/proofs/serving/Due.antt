-- Where files are told, words have answers of one status alone.
use Rattle.octet_model.specs.declared.limits.TheConstants.{MAX_LOG_FILE, MAX_SCRIPT_FILE}
use Rattle.std.proofs.Common.{◌≡◌, ◌∙◌, ◌⊎◌, ◌<◌, ℕ, List, length, Option, None, Some, IsSomeAnd, Result, Ok, Err, inl, inr, ap, sym, refl, subst, arith, IsTrue}
use Rattle.std.specs.FinMap.{get}
use std.HLevel.{prop→path_p}
use Rattle.std.proofs.Props.{props}
use Rattle.octet_base.specs.Desk.{Contents, DeskState}
use Rattle.octet_model.specs.Log.{is_log}
use Rattle.octet_model.specs.declared.script.Script.{Script}
use Rattle.octet_model.specs.declared.log.Log.{Log}
use Rattle.octet_script.proofs.lemmas.Grammar.{spells_parsed, one_script}
use Rattle.std.specs.Option.{option_map}
use Rattle.octet_log.specs.declared.loader.Digest.{Digest}
use Rattle.octet_log.specs.Readings.{reading_of}
use Rattle.octet_log.proofs.lemmas.Readings.{spelling_read, one_reading}
use Rattle.octet_marks.specs.declared.piece.Piece.{Piece}
use Rattle.octet_marks.specs.Files.{Unread}
use Rattle.octet_replay.specs.declared.fitting.FitFault.{FitFault}
use Rattle.octet_replay.specs.declared.fitting.FitFault.TheVariants.{WrongScript}
use Rattle.octet_replay.specs.Fit.{IsOfScript, IsOfAnother}
use Rattle.octet_replay.proofs.lemmas.OneAnswer.{not_refused}
use Rattle.octet_commands.specs.declared.inputs.Source.{Source}
use Rattle.octet_commands.specs.declared.inputs.Pair.{Pair}
use Rattle.octet_commands.specs.declared.request.PairTask.{PairTask}
use Rattle.octet_commands.specs.declared.reply.Status.{Status}
use Rattle.octet_commands.specs.declared.reply.Status.TheVariants as exit
use Rattle.octet_commands.specs.Answer.{Answer, code_of, not_a_command, read_failed, too_long, script_refused, log_refused}
use Rattle.octet_commands.specs.Request.{Request, Claim, claimed_of, Quarry, named_by, request_in}
use Rattle.octet_commands.specs.declared.request.Request.TheVariants.{Tidy, Show, Marks, OfPair, Parallel, Convert, Run, Gen, Hunt, Outcomes, Always}
use Rattle.octet_commands.specs.Inputs.{◌>>=◌, IsTaken, IsParsed, IsDecoded, IsChosen, IsScriptRead, IsLogRead, IsScriptChosen, IsPairRead}
use Rattle.octet_commands.specs.Marks.{ReadsTo, fed, judged, pieces_text, SaysRest, MarksAnswers, FileAnswers}
use Rattle.octet_top.specs.Serving.{IsServed}
use Rattle.octet_top.specs.Causes.{IsDue, MayDiffer, NoneFailed}
use Rattle.octet_commands.proofs.lemmas.Chains.{Stands, has_none, one_reading as reads_once}
use Rattle.octet_top.proofs.serving.Causes.{Ending, Whole, CutShort, Lacking, ended}
use Rattle.octet_commands.proofs.lemmas.Rows.{PairRow, AllDone, NotOrdered, NotSerial, NotThere, ParallelRow, Replayed, Apart, has_event, tidy_row, show_row, pair_row, parallel_row, run_row, none_status}
use Rattle.octet_commands.specs.Commands.{Answering, Answers, RequestAnswers, IsAnswer, TidyAnswers, ShowAnswers, Matching, PairReplays, PairAnswers, ParallelReplays, ParallelAnswers, Converts, ConvertAnswers, RunAnswers, HuntAnswers, AlwaysAnswers}
use Rattle.octet_outcomes.specs.declared.outcomes.Seen.{Seen}
use Rattle.octet_outcomes.specs.declared.outcomes.Seen.TheVariants as extent
use Rattle.octet_commands.specs.Outcomes.{search_said, search_text, Fails, Holds, OutcomesAnswers}
use Rattle.octet_commands.specs.declared.request.Claim.TheVariants.{Leaves, CanEnd}

-- a step ends in one way
pub record Single {A : Type 0} (Step : Result A Answer → Type 0) : Type 0 where
  pub one : (x y : A) → Step (Ok x) → Step (Ok y) → x ≡ y
  pub never : (x : A) (a : Answer) → Step (Ok x) → Step (Err a) → ⊥
  pub same : (a b : Answer) → Step (Err a) → Step (Err b) → a ≡ b

both : (x y z : Answer) → x ≡ z → y ≡ z → x ≡ y
both x y z is is' = is ∙ sym is'

-- and so do steps one after the other
then_single : {A B : Type 0} (first : Result A Answer → Type 0) (next : A → Result B Answer → Type 0) → Single first → ((x : A) → Single (next x)) → Single (first >>= next)
then_single {A} {B} first next f n = record {
  one = λ u v p q. (n p.0).one u v p.2 (subst (λ x. next x (Ok v)) (f.one q.0 p.0 q.1 p.1) q.2);
  never = λ u a p q. elim q [
    | inl refused ↦ f.never p.0 a p.1 refused
    | inr (x, is, refused) ↦ (n p.0).never u a p.2 (subst (λ y. next y (Err a)) (f.one x p.0 is p.1) refused)
  ];
  same = λ a b p q. elim p [
    | inl refused ↦ elim q [ inl refused' ↦ f.same a b refused refused' | inr (y, is, refused') ↦ absurd (f.never y a is refused) ]
    | inr (x, is, refused) ↦ elim q [
      | inl refused' ↦ absurd (f.never x b is refused')
      | inr (y, is', refused') ↦ (n x).same a b refused (subst (λ z. next z (Err b)) (f.one y x is' is) refused')
    ]
  ];
}

value_single : {A : Type 0} (value : A) → Single {A = A} (λ read. read ≡ Ok value)
value_single value = record { one = λ x y p q. cc; never = λ x a p q. cc; same = λ a b p q. cc }

-- the length of a file that is there
over : (file : Option (List ℕ)) (bytes : List ℕ) (limit : ℕ) → file ≡ Some bytes → IsSomeAnd file (λ b. limit < length b) → limit < length bytes
over None bytes limit is long = absurd long
over (Some b) bytes limit is long = let same : b ≡ bytes = cc in rw (← same) long

over_none : (file : Option (List ℕ)) (limit : ℕ) → file ≡ None → IsSomeAnd file (λ b. limit < length b) → ⊥
over_none None limit is long = long
over_none (Some b) limit is long = cc

taken_single : (name : List ℕ) (limit : ℕ) (t : Contents) → Single (IsTaken name limit (Some t))
taken_single name limit t = record {
  one = λ x y p q. (let both = sym p.0 ∙ q.0 in cc);
  never = λ x a p q. elim q [
    | inl (absent, is) ↦ (let both = sym p.0 ∙ absent in cc)
    | inr (long, is) ↦ omega (arith, over (get t.files name) x limit p.0 long, p.1)
  ];
  same = λ a b p q. elim p [
    | inl (absent, is) ↦ elim q [ inl (absent', is') ↦ both a b read_failed is is' | inr (long, is') ↦ absurd (over_none (get t.files name) limit absent long) ]
    | inr (long, is) ↦ elim q [ inl (absent, is') ↦ absurd (over_none (get t.files name) limit absent long) | inr (long', is') ↦ both a b (too_long name limit) is is' ]
  ];
}

parsed_single : (text : List ℕ) → Single (IsParsed text)
parsed_single text = record {
  one = λ x y p q. (let same : x.script ≡ y.script = one_script text y.script x.script q.1 p.1 in let t : x.text ≡ y.text = p.0 ∙ sym q.0 in λ i. record { text = t i; script = same i });
  never = λ x a p q. (let judged = sym q.2 ∙ spells_parsed text x.script p.1 in cc);
  same = λ a b p q. both a b (script_refused q.0 q.1) (p.3 ∙ (let judged = sym p.2 ∙ q.2 in cc)) q.3;
}

same_log : (a b : Log) → a.threads ≡ b.threads → a ≡ b
same_log a b e = λ i. record { threads = e i; valid = prop→path_p (λ j. IsTrue (is_log (e j))) (hlevel props) a.valid b.valid i }

same_digest : (a b : Option Digest) → option_map (λ d. d.bytes) a ≡ option_map (λ d. d.bytes) b → a ≡ b
same_digest None None e = refl
same_digest None (Some b) e = absurd cc
same_digest (Some a) None e = absurd cc
same_digest (Some a) (Some b) e = let same : a.bytes ≡ b.bytes = cc in λ i. Some (record { bytes = same i })

decoded_single : (bytes : List ℕ) → Single (IsDecoded bytes)
decoded_single bytes = record {
  one = λ x y p q. (let both = one_reading bytes x.log.threads y.log.threads (reading_of x).digest (reading_of y).digest x.log.valid y.log.valid p q in
      let log : x.log ≡ y.log = same_log x.log y.log both.0 in
      let digest : x.digest ≡ y.digest = same_digest x.digest y.digest both.1 in
      λ i. record { log = log i; digest = digest i });
  never = λ x a p q. (let judged = sym q.1 ∙ spelling_read bytes (reading_of x).digest x.log.threads x.log.valid p in cc);
  same = λ a b p q. both a b (log_refused q.0) (p.2 ∙ (let judged = sym p.1 ∙ q.1 in cc)) q.2;
}

chosen_single : (s : Script) (object : Option (List ℕ)) → Single (IsChosen s object)
chosen_single s object = record {
  one = λ x y p q. (let both = sym p ∙ q in cc);
  never = λ x a p q. (let both = sym p ∙ q.0 in cc);
  same = λ a b p q. p.1 ∙ sym q.1;
}

module _ (t : Contents) where
  pub script_single : (name : List ℕ) → Single (IsScriptRead name (Some t))
  script_single name = then_single (IsTaken name MAX_SCRIPT_FILE (Some t)) IsParsed (taken_single name MAX_SCRIPT_FILE t) parsed_single

  pub log_single : (name : List ℕ) → Single (IsLogRead name (Some t))
  log_single name = then_single (IsTaken name MAX_LOG_FILE (Some t)) IsDecoded (taken_single name MAX_LOG_FILE t) decoded_single

  pub script_chosen_single : (name : List ℕ) (object : Option (List ℕ)) → Single (IsScriptChosen name object (Some t))
  script_chosen_single name object =
      then_single (IsScriptRead name (Some t)) _ (script_single name) (λ source. then_single (IsChosen source.script object) _ (chosen_single source.script object) (λ wanted. value_single (source, wanted)))

  pub pair_single : (script_name log_name : List ℕ) (object : Option (List ℕ)) → Single (IsPairRead script_name log_name object (Some t))
  pair_single script_name log_name object =
      then_single (IsScriptChosen script_name object (Some t)) _ (script_chosen_single script_name object)
      (λ chosen. then_single (IsLogRead log_name (Some t)) _ (log_single log_name) (λ read. value_single _))

-- answers by what was read have one status, where the reading ends in one way
one_status : {T : Type 0} (Reading : Result T Answer → Type 0) (Answers' : T → Answer → Type 0) → Single Reading → ((input : T) (a b : Answer) → Answers' input a → Answers' input b → a.status ≡ b.status)
    → (a b : Answer) → Answering Reading Answers' a → Answering Reading Answers' b → a.status ≡ b.status
one_status Reading Answers' single same a b (inl p) (inl q) = ap (λ (x : Answer). x.status) (single.same a b p q)
one_status Reading Answers' single same a b (inl p) (inr (y, is, q)) = absurd (single.never y a is p)
one_status Reading Answers' single same a b (inr (x, is, p)) (inl q) = absurd (single.never x b is q)
one_status Reading Answers' single same a b (inr (x, is, p)) (inr (y, is', q)) = same x a b p (subst (λ z. Answers' z b) (single.one y x is' is) q)

as_said : (a b x y : Answer) → a ≡ x → b ≡ y → x.status ≡ y.status → a.status ≡ b.status
as_said a b x y is is' same = ap (λ (z : Answer). z.status) is ∙ same ∙ ap (λ (z : Answer). z.status) (sym is')

-- two answers of a task on a log that fits have one status
pair_same : (task : PairTask) (pair : Pair) (a b : Answer) → PairRow task pair a → PairRow task pair b → a.status ≡ b.status
pair_same task pair a b (AllDone row ordered serial there) (AllDone row' ordered' serial' there') = row.status ∙ sym row'.status
pair_same task pair a b (AllDone row ordered serial there) (NotOrdered row' is' checks apart) = absurd (apart (ordered checks))
pair_same task pair a b (AllDone row ordered serial there) (NotSerial row' is' judges ordered' apart) = absurd (apart (serial judges))
pair_same task pair a b (AllDone row ordered serial there) (NotThere row' is' ordered' none) = absurd (none there)
pair_same task pair a b (NotOrdered row is checks apart) (AllDone row' ordered serial there) = absurd (apart (ordered checks))
pair_same task pair a b (NotOrdered row is checks apart) (NotOrdered row' is' checks' apart') = is ∙ sym is'
pair_same task pair a b (NotOrdered row is checks apart) (NotSerial row' is' judges ordered apart') = absurd (apart ordered)
pair_same task pair a b (NotOrdered row is checks apart) (NotThere row' is' ordered none) = absurd (apart ordered)
pair_same task pair a b (NotSerial row is judges ordered apart) (AllDone row' ordered' serial there) = absurd (apart (serial judges))
pair_same task pair a b (NotSerial row is judges ordered apart) (NotOrdered row' is' checks apart') = absurd (apart' ordered)
pair_same task pair a b (NotSerial row is judges ordered apart) (NotSerial row' is' judges' ordered' apart') = is ∙ sym is'
pair_same task pair a b (NotSerial row is judges ordered apart) (NotThere row' is' ordered' none) = absurd (none (has_event task pair judges))
pair_same task pair a b (NotThere row is ordered none) (AllDone row' ordered' serial there) = absurd (none there)
pair_same task pair a b (NotThere row is ordered none) (NotOrdered row' is' checks apart) = absurd (apart ordered)
pair_same task pair a b (NotThere row is ordered none) (NotSerial row' is' judges ordered' apart) = absurd (none (has_event task pair judges))
pair_same task pair a b (NotThere row is ordered none) (NotThere row' is' ordered' none') = is ∙ sym is'

replays_status : (task : PairTask) (pair : Pair) (a b : Answer) → PairReplays task pair a → PairReplays task pair b → a.status ≡ b.status
replays_status task pair a b (inl p) (inl q) = as_said a b _ _ p.3 q.3 refl
replays_status task pair a b (inl p) (inr (lawful, says)) = absurd (not_refused pair.source.script pair.loaded.log.threads p.0 lawful p.1 p.2)
replays_status task pair a b (inr (lawful, says)) (inl q) = absurd (not_refused pair.source.script pair.loaded.log.threads q.0 lawful q.1 q.2)
replays_status task pair a b (inr (lawful, says)) (inr (lawful', says')) = pair_same task pair a b (pair_row task pair a says) (pair_row task pair b says')

-- and so have two of `parallel`
parallel_same : (pair : Pair) (a b : Answer) → ParallelRow pair a → ParallelRow pair b → a.status ≡ b.status
parallel_same pair a b (Replayed row ordered) (Replayed row' ordered') = row.status ∙ sym row'.status
parallel_same pair a b (Replayed row ordered) (Apart row' is' apart) = absurd (apart ordered)
parallel_same pair a b (Apart row is apart) (Replayed row' ordered) = absurd (apart ordered)
parallel_same pair a b (Apart row is apart) (Apart row' is' apart') = is ∙ sym is'

parallel_status : (pair : Pair) (a b : Answer) → ParallelReplays pair a → ParallelReplays pair b → a.status ≡ b.status
parallel_status pair a b (inl p) (inl q) = as_said a b _ _ p.3 q.3 refl
parallel_status pair a b (inl p) (inr (lawful, says)) = absurd (not_refused pair.source.script pair.loaded.log.threads p.0 lawful p.1 p.2)
parallel_status pair a b (inr (lawful, says)) (inl q) = absurd (not_refused pair.source.script pair.loaded.log.threads q.0 lawful q.1 q.2)
parallel_status pair a b (inr (lawful, says)) (inr (lawful', says')) = parallel_same pair a b (parallel_row pair a says) (parallel_row pair b says')

-- a conversion has one status
converts_status : (out : List ℕ) (pair : Pair) (a b : Answer) → Converts out pair a → Converts out pair b → a.status ≡ b.status
converts_status out pair a b (inl p) (inl q) = as_said a b _ _ p.3 q.3 refl
converts_status out pair a b (inl p) (inr q) = absurd (p.2.differ (p.2.script_has ∙ q.0 ∙ sym p.2.log_has))
converts_status out pair a b (inr p) (inl q) = absurd (q.2.differ (q.2.script_has ∙ p.0 ∙ sym q.2.log_has))
converts_status out pair a b (inr p) (inr q) = as_said a b _ _ p.2 q.2 refl

-- a log is not of its script and of another
pub not_of_another : (text : List ℕ) (digest : Option Digest) (fault : FitFault) → IsOfScript text digest → ¬ IsOfAnother text digest fault
not_of_another text None (WrongScript script log) own (is, digest, other) = absurd cc
not_of_another text (Some d) (WrongScript script log) own (is, digest, other) = let same : d ≡ log = cc in other (ap (λ (x : Digest). x.bytes) (sym same) ∙ own)

matching_status : (pair : Pair) (Next : Answer → Type 0) → ((a b : Answer) → Next a → Next b → a.status ≡ b.status) → (a b : Answer) → Matching Next pair a → Matching Next pair b → a.status ≡ b.status
matching_status pair Next same a b (inl p) (inl q) = as_said a b _ _ p.2 q.2 refl
matching_status pair Next same a b (inl p) (inr q) = absurd (not_of_another pair.source.text pair.loaded.digest p.0 q.0 p.1)
matching_status pair Next same a b (inr p) (inl q) = absurd (not_of_another pair.source.text pair.loaded.digest q.0 p.0 q.1)
matching_status pair Next same a b (inr p) (inr q) = same a b p.1 q.1

-- so have two of a marks file
pub some_file : (one other : List ℕ) (file : Option (List ℕ)) → file ≡ Some one → file ≡ Some other → one ≡ other
some_file one other file is is' = let both : Some one ≡ Some other = sym is ∙ is' in cc

rest_status : (name bytes : List ℕ) (stands : Unread) (text : List ℕ) (a b : Answer) → SaysRest name bytes stands text a → SaysRest name bytes stands text b → a.status ≡ b.status
rest_status name bytes stands text a b (inl (cut, inl (short, is))) (inl (cut', inl (short', is'))) = as_said a b _ _ is is' refl
rest_status name bytes stands text a b (inl (cut, inl (short, is))) (inl (cut', inr (long, is'))) = absurd (omega (arith, short, long))
rest_status name bytes stands text a b (inl (cut, inr (long, is))) (inl (cut', inl (short, is'))) = absurd (omega (arith, short, long))
rest_status name bytes stands text a b (inl (cut, inr (long, is))) (inl (cut', inr (long', is'))) = as_said a b _ _ is is' refl
rest_status name bytes stands text a b (inl (cut, says)) (inr (cause, bad, is)) = let both : Ok None ≡ Err cause = sym cut ∙ bad in absurd cc
rest_status name bytes stands text a b (inr (cause, bad, is)) (inl (cut, says)) = let both : Ok None ≡ Err cause = sym cut ∙ bad in absurd cc
rest_status name bytes stands text a b (inr (cause, bad, is)) (inr (cause', bad', is')) = as_said a b _ _ is is' refl

stands_so : (name bytes : List ℕ) (stands : Unread) (text : List ℕ) (a : Answer) → SaysRest name bytes stands text a → Stands stands
stands_so name bytes stands text a (inl (cut, says)) = inl cut
stands_so name bytes stands text a (inr (cause, bad, is)) = inr (cause, bad)

-- the bytes of a file are read in one way
pub marks_once : (name bytes : List ℕ) (a : Answer) (pieces : List Piece) (stands : Unread) → ReadsTo (fed (judged bytes)) pieces stands → Stands stands → MarksAnswers name bytes a → SaysRest name bytes stands (pieces_text pieces) a
marks_once name bytes a pieces stands reads ends (others, stands', reads', says) =
    let same = reads_once others pieces (fed (judged bytes)) stands' stands reads' (has_none stands' (stands_so name bytes stands' (pieces_text others) a says)) reads (has_none stands ends) in
    subst (λ (p : List Piece). SaysRest name bytes stands (pieces_text p) a) same.0 (subst (λ (s : Unread). SaysRest name bytes s (pieces_text others) a) same.1 says)

marks_status : (name bytes : List ℕ) (a b : Answer) → MarksAnswers name bytes a → MarksAnswers name bytes b → a.status ≡ b.status
marks_status name bytes a b (pieces, stands, reads, says) answers =
    rest_status name bytes stands (pieces_text pieces) a b says (marks_once name bytes b pieces stands reads (stands_so name bytes stands (pieces_text pieces) a says) answers)

file_status : (name : List ℕ) (t : Contents) (a b : Answer) → FileAnswers name (Some t) a → FileAnswers name (Some t) b → a.status ≡ b.status
file_status name t a b (inl (absent, is)) (inl (absent', is')) = as_said a b read_failed read_failed is is' refl
file_status name t a b (inl (absent, is)) (inr (bytes, there, answers)) = let both : None ≡ Some bytes = sym absent ∙ there in absurd cc
file_status name t a b (inr (bytes, there, answers)) (inl (absent, is)) = let both : None ≡ Some bytes = sym absent ∙ there in absurd cc
file_status name t a b (inr (bytes, there, answers)) (inr (bytes', there', answers')) =
    marks_status name bytes a b answers (subst (λ (x : List ℕ). MarksAnswers name x b) (some_file bytes' bytes (get t.files name) there' there) answers')

-- those of a hunt have one status too, or one says that a run was found and the other that none was
abbrev Differ : Status → Status → Type 0
Differ status other = ((status ≡ exit.Done) × (other ≡ exit.NotFound)) ⊎ ((status ≡ exit.NotFound) × (other ≡ exit.Done))

found_status : (quarry : Quarry) (log : List ℕ) (tries : ℕ) (chosen : Source × Option ℕ) (a : Answer) → HuntAnswers quarry log tries chosen a → (a.status ≡ exit.Done) ⊎ (a.status ≡ exit.NotFound)
found_status quarry log tries chosen a (inl find) = inl (ap (λ (x : Answer). x.status) find.is)
found_status quarry log tries chosen a (inr is) = inr (ap (λ (x : Answer). x.status) is ∙ none_status quarry tries)

both_found : (s s' : Status) → (s ≡ exit.Done) ⊎ (s ≡ exit.NotFound) → (s' ≡ exit.Done) ⊎ (s' ≡ exit.NotFound) → (s ≡ s') ⊎ Differ s s'
both_found s s' (inl is) (inl is') = inl (is ∙ sym is')
both_found s s' (inl is) (inr is') = inr (inl (is, is'))
both_found s s' (inr is) (inl is') = inr (inr (is, is'))
both_found s s' (inr is) (inr is') = inl (is ∙ sym is')

hunt_status : (t : Contents) (quarry : Quarry) (script log : List ℕ) (tries : ℕ) (a b : Answer) → RequestAnswers (Hunt quarry script log tries) (Some t) a → RequestAnswers (Hunt quarry script log tries) (Some t) b → (a.status ≡ b.status) ⊎ Differ a.status b.status
hunt_status t quarry script log tries a b (inl p) (inl q) = inl (ap (λ (x : Answer). x.status) ((script_chosen_single t script (named_by quarry)).same a b p q))
hunt_status t quarry script log tries a b (inl p) (inr (y, is, q)) = absurd ((script_chosen_single t script (named_by quarry)).never y a is p)
hunt_status t quarry script log tries a b (inr (x, is, p)) (inl q) = absurd ((script_chosen_single t script (named_by quarry)).never x b is q)
hunt_status t quarry script log tries a b (inr (x, is, p)) (inr (y, is', q)) = both_found a.status b.status (found_status quarry log tries x a p) (found_status quarry log tries y b q)

-- those of a search have one status too, or one says that not all was seen
abbrev pub IsCutEither : Status → Status → Type 0
IsCutEither status other = (status ≡ exit.NotAll) ⊎ (other ≡ exit.NotAll)

pub search_status : (script : Script) (most : ℕ) (a : Answer) → OutcomesAnswers script most a → (a.status ≡ exit.Done) ⊎ (a.status ≡ exit.NotAll)
search_status script most a (told, moments, stuck, seen, explored, is) = by seen is
  where
    by : (seen : Seen) → a ≡ search_said (search_text script told moments stuck) seen → (a.status ≡ exit.Done) ⊎ (a.status ≡ exit.NotAll)
    by extent.Whole is = inl (ap (λ (x : Answer). x.status) is)
    by extent.Most is = inr (ap (λ (x : Answer). x.status) is)
    by extent.Memory is = inr (ap (λ (x : Answer). x.status) is)

both_searched : (s s' : Status) → (s ≡ exit.Done) ⊎ (s ≡ exit.NotAll) → (s' ≡ exit.Done) ⊎ (s' ≡ exit.NotAll) → (s ≡ s') ⊎ IsCutEither s s'
both_searched s s' (inl is) (inl is') = inl (is ∙ sym is')
both_searched s s' (inl is) (inr is') = inr (inr is')
both_searched s s' (inr is) q = inr (inl is)

outcomes_status : (t : Contents) (script : List ℕ) (most : ℕ) (a b : Answer) → RequestAnswers (Outcomes script most) (Some t) a → RequestAnswers (Outcomes script most) (Some t) b → (a.status ≡ b.status) ⊎ IsCutEither a.status b.status
outcomes_status t script most a b (inl p) (inl q) = inl (ap (λ (x : Answer). x.status) ((script_single t script).same a b p q))
outcomes_status t script most a b (inl p) (inr (y, is, q)) = absurd ((script_single t script).never y a is p)
outcomes_status t script most a b (inr (x, is, p)) (inl q) = absurd ((script_single t script).never x b is q)
outcomes_status t script most a b (inr (x, is, p)) (inr (y, is', q)) = both_searched a.status b.status (search_status x.script most a p) (search_status y.script most b q)

-- the claim holds of all runs, not all was seen, or there is a run of which it does not hold
abbrev pub IsTellingOf : Claim → Source × Option ℕ → Status → Type 0
IsTellingOf claim (source, wanted) status =
    ((status ≡ exit.Done) × Holds source.script claim wanted) ⊎ ((status ≡ exit.NotAll) ⊎ ((status ≡ exit.Otherwise) × Fails source.script claim wanted))

pub always_status : (claim : Claim) (log : List ℕ) (chosen : Source × Option ℕ) (a : Answer) → AlwaysAnswers claim log chosen a → IsTellingOf claim chosen a.status
always_status claim log (source, wanted) a (inl (holds, is)) = inl (ap (λ (x : Answer). x.status) is, holds)
always_status claim log (source, wanted) a (inr (inl (seen, is))) = inr (inl (ap (λ (x : Answer). x.status) is))
always_status claim log (source, wanted) a (inr (inr (fails, inl witness))) = inr (inr (ap (λ (x : Answer). x.status) witness.is, fails))
always_status claim log (source, wanted) a (inr (inr (fails, inr is))) = inr (inr (ap (λ (x : Answer). x.status) is, fails))

-- no claim both holds and fails
never_both : (script : Script) (claim : Claim) (wanted : Option ℕ) → Holds script claim wanted → Fails script claim wanted → ⊥
never_both script (Leaves name number) None never fails = never
never_both script (Leaves name number) (Some object) always (value, leaves) = leaves.other (sym leaves.leaves ∙ always leaves.heap leaves.outcome)
never_both script CanEnd wanted can_end stuck = let leads = can_end stuck.moment stuck.reached in stuck.stuck leads.picks leads.last leads.follows leads.done

both_told : (claim : Claim) (chosen : Source × Option ℕ) (s s' : Status) → IsTellingOf claim chosen s → IsTellingOf claim chosen s' → (s ≡ s') ⊎ IsCutEither s s'
both_told claim chosen s s' (inr (inl cut)) q = inr (inl cut)
both_told claim chosen s s' (inl (is, holds)) (inr (inl cut)) = inr (inr cut)
both_told claim chosen s s' (inl (is, holds)) (inl (is', holds')) = inl (is ∙ sym is')
both_told claim chosen s s' (inl (is, holds)) (inr (inr (is', fails))) = absurd (never_both chosen.0.script claim chosen.1 holds fails)
both_told claim chosen s s' (inr (inr (is, fails))) (inl (is', holds)) = absurd (never_both chosen.0.script claim chosen.1 holds fails)
both_told claim chosen s s' (inr (inr (is, fails))) (inr (inl cut)) = inr (inr cut)
both_told claim chosen s s' (inr (inr (is, fails))) (inr (inr (is', fails'))) = inl (is ∙ sym is')

claim_status : (t : Contents) (claim : Claim) (script log : List ℕ) (most : ℕ) (a b : Answer) → RequestAnswers (Always claim script log most) (Some t) a → RequestAnswers (Always claim script log most) (Some t) b → (a.status ≡ b.status) ⊎ IsCutEither a.status b.status
claim_status t claim script log most a b (inl p) (inl q) = inl (ap (λ (x : Answer). x.status) ((script_chosen_single t script (claimed_of claim)).same a b p q))
claim_status t claim script log most a b (inl p) (inr (y, is, q)) = absurd ((script_chosen_single t script (claimed_of claim)).never y a is p)
claim_status t claim script log most a b (inr (x, is, p)) (inl q) = absurd ((script_chosen_single t script (claimed_of claim)).never x b is q)
claim_status t claim script log most a b (inr (x, is, p)) (inr (y, is', q)) =
    both_told claim x a.status b.status (always_status claim log x a p)
    (subst (λ (z : Source × Option ℕ). IsTellingOf claim z b.status) ((script_chosen_single t script (claimed_of claim)).one y x is' is) (always_status claim log y b q))

-- two answers to words have one status, or the words ask for a hunt or a search
answers_status : (words : List (List ℕ)) (t : Contents) (request : Option Request) (a b : Answer) → request_in words ≡ request → Answers request (Some t) a → Answers request (Some t) b → (a.status ≡ b.status) ⊎ MayDiffer words a.status b.status
answers_status words t None a b asked is is' = inl (as_said a b not_a_command not_a_command is is' refl)
answers_status words t (Some (Tidy script)) a b asked p q =
    inl (one_status (IsScriptRead script (Some t)) TidyAnswers (script_single t script) (λ source x y p q. (tidy_row source x p).status ∙ sym (tidy_row source y q).status) a b p q)
answers_status words t (Some (Show log)) a b asked p q =
    inl (one_status (IsLogRead log (Some t)) ShowAnswers (log_single t log) (λ read x y p q. (show_row read x p).status ∙ sym (show_row read y q).status) a b p q)
answers_status words t (Some (Marks file)) a b asked p q = inl (file_status file t a b p q)
answers_status words t (Some (OfPair task script log object)) a b asked p q =
    inl (one_status (IsPairRead script log object (Some t)) (PairAnswers task) (pair_single t script log object) (λ pair. matching_status pair (PairReplays task pair) (replays_status task pair)) a b p q)
answers_status words t (Some (Parallel script log)) a b asked p q =
    inl (one_status (IsPairRead script log None (Some t)) ParallelAnswers (pair_single t script log None) (λ pair. matching_status pair (ParallelReplays pair) (parallel_status pair)) a b p q)
answers_status words t (Some (Convert script log out)) a b asked p q =
    inl (one_status (IsPairRead script log None (Some t)) (ConvertAnswers out) (pair_single t script log None) (λ pair. matching_status pair (Converts out pair) (converts_status out pair)) a b p q)
answers_status words t (Some (Run task script log)) a b asked p q =
    inl (one_status (IsScriptRead script (Some t)) (RunAnswers task log) (script_single t script) (λ source x y p q. (run_row task log source x p).status ∙ sym (run_row task log source y q).status) a b p q)
answers_status words t (Some (Gen number script log)) a b asked p q = inl (as_said a b _ _ p.5 q.5 refl)
answers_status words t (Some (Hunt quarry script log tries)) a b asked p q = elim (hunt_status t quarry script log tries a b p q) [
  | inl same ↦ inl same
  | inr differ ↦ inr (inl (record { quarry = quarry; script_name = script; log_name = log; tries = tries; asked = asked; differ = differ }))
]
answers_status words t (Some (Outcomes script most)) a b asked p q = elim (outcomes_status t script most a b p q) [
  | inl same ↦ inl same
  | inr differ ↦ inr (inr (record { request = Outcomes script most; asked = asked; searches = tt; differ = differ }))
]
answers_status words t (Some (Always claim script log most)) a b asked p q = elim (claim_status t claim script log most a b p q) [
  | inl same ↦ inl same
  | inr differ ↦ inr (inr (record { request = Always claim script log most; asked = asked; searches = tt; differ = differ }))
]

-- exactly one status is due, or the words ask for a hunt or a search
pub one_due : (words : List (List ℕ)) (t : Contents) (status other : Status) → IsDue words (Some t) status → IsDue words (Some t) other → (status ≡ other) ⊎ MayDiffer words status other
one_due words t status other (a, p, is) (b, q, is') =
    subst (λ (s : Status). (s ≡ other) ⊎ MayDiffer words s other) is
    (subst (λ (s : Status). (a.status ≡ s) ⊎ MayDiffer words a.status s) is' (answers_status words t (request_in words) a b refl p q))

-- where no call of the desk fails, the status is that of an answer, unless memory was refused
pub comes : (words : List (List ℕ)) (before after : DeskState) (code : ℕ) → IsServed (request_in words) before after code → (t : Contents) → before.contents ≡ Some t → NoneFailed before after
    → (code ≡ code_of exit.Memory) ⊎ ((answer : Answer) × IsAnswer words (Some t) answer × (code ≡ code_of answer.status))
comes words before after code served t tells none = by (ended words before after code served)
  where
    by : Ending words before after code → (code ≡ code_of exit.Memory) ⊎ ((answer : Answer) × IsAnswer words (Some t) answer × (code ≡ code_of answer.status))
    by (Whole answer (inl (answers, same)) is counts left) = inr (answer, subst (λ contents. IsAnswer words contents answer) tells answers, is)
    by (Whole answer (inr (said, rose)) is counts left) = absurd (none.takes rose)
    by (CutShort is rose left) = absurd (none.writes rose)
    by (Lacking is counts left) = inl is

pub comes_as_due : (words : List (List ℕ)) (before after : DeskState) (code : ℕ) → IsServed (request_in words) before after code → (t : Contents) → before.contents ≡ Some t → (status : Status) → IsDue words before.contents status
    → NoneFailed before after → (code ≡ code_of status) ⊎ ((code ≡ code_of exit.Memory) ⊎ ((other : Status) × MayDiffer words status other × (code ≡ code_of other)))
comes_as_due words before after code served t tells status due none = elim (comes words before after code served t tells none) [
  | inl memory ↦ inr (inl memory)
  | inr (answer, answers, is) ↦ elim (one_due words t status answer.status (subst (λ contents. IsDue words contents status) tells due) (answer, answers, refl)) [
    | inl same ↦ inl (is ∙ ap code_of (sym same))
    | inr either ↦ inr (inr (answer.status, either, is))
  ]
]
