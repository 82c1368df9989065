-- From what is served to the promises of searches through all interleavings.
use Rattle.std.proofs.Common.{◌≡◌, ◌∙◌, ℕ, List, Option, Some, None, Ok, inl, inr, ap, sym, refl, subst, arith, get_or, ◌<◌, ◌⊎◌, ◌++◌}
use Rattle.std.specs.FinMap.{get}
use Rattle.std.specs.List.{All}
use Rattle.octet_base.specs.Desk.{Files, Contents, DeskState}
use Rattle.octet_model.specs.declared.script.Script.{Script}
use Rattle.octet_outcomes.specs.declared.outcomes.Seen.{Seen}
use Rattle.octet_outcomes.specs.declared.outcomes.Seen.TheVariants.{Whole, Most, Memory}
use Rattle.octet_outcomes.specs.Interleavings.{IsFinal}
use Rattle.octet_outcomes.specs.Runs.{IsOutcome}
use Rattle.octet_outcomes.proofs.Mirroring.{faithful_ends}
use Rattle.octet_outcomes.proofs.Converse.{outcomes_final}
use Rattle.octet_commands.specs.declared.inputs.Source.{Source}
use Rattle.octet_commands.specs.declared.outcomes.Told.{Told}
use Rattle.octet_commands.specs.declared.reply.Status.TheVariants.{Done, NotAll, Otherwise}
use Rattle.octet_commands.specs.declared.request.Request.TheVariants.{Outcomes, Always}
use Rattle.octet_commands.specs.Answer.{Answer, reports, says}
use Rattle.octet_commands.specs.Commands.{Answers, RequestAnswers, AlwaysAnswers, second_bytes}
use Rattle.octet_commands.specs.Inputs.{IsScriptChosen, IsScriptRead}
use Rattle.octet_commands.specs.Outcomes.{always_said, cut_line, otherwise_text, past_fuel, search_said, search_text, Holds, IsExplored, IsTold, OutcomesAnswers}
use Rattle.octet_commands.specs.Outputs.{IsWhole}
use Rattle.octet_commands.specs.Request.{request_in, Claim, claimed_of}
use Rattle.octet_commands.specs.declared.request.Claim.TheVariants.{Leaves, CanEnd}
use Rattle.octet_commands.proofs.lemmas.Rows.{not_done, script_refused, script_unread, chosen_refused, chosen_unread, not_of_reading}
use Rattle.octet_top.specs.Searches.{CutsOff, FindsOutcomes, HoldsOfRecorded, IsAlways, IsCutOff, IsNotAlways, IsSearched, OfRecorded, RefutesAlways, ShowsAlways}
use Rattle.octet_top.specs.Serving.{IsServed}
use Rattle.octet_top.proofs.serving.Effects.{leaves}
use Rattle.octet_top.proofs.serving.Promises.{at_status, at_success}
use Rattle.octet_top.proofs.writing.Left.{get-inserted}

-- what holds of every outcome holds of each recorded run
of_recorded : (script : Script) (Holds : List ℕ → Type 0) → ((heap : List ℕ) → IsOutcome script heap → Holds heap) → OfRecorded script Holds
of_recorded script Holds all log outcome faithful done = all outcome.heap (faithful_ends script log outcome faithful done)

told_final : (script : Script) (told : List Told) → All (IsTold script) told → All (λ t. IsFinal script t.heap) told
told_final script told each k default there = outcomes_final script (get_or told k default).heap (each k default there).outcome

-- all final heaps
searched_by : (script_name : List ℕ) (most : ℕ) (source : Source) (contents contents' : Contents) (answer : Answer) → IsScriptRead script_name (Some contents) (Ok source) → OutcomesAnswers source.script most answer → answer.status ≡ Done → IsWhole answer contents contents'
    → IsSearched script_name contents contents'
searched_by script_name most source contents contents' answer read (told, moments, stuck, seen, explored, is) done given = by seen explored is
  where
    text : List ℕ
    text = search_text source.script told moments stuck

    by : (seen : Seen) → IsExplored source.script most told moments stuck seen → answer ≡ search_said text seen → IsSearched script_name contents contents'
    by Most explored is = absurd (let both : Done ≡ NotAll = sym done ∙ ap (λ (a : Answer). a.status) is in cc)
    by Memory explored is = absurd (let both : Done ≡ NotAll = sym done ∙ ap (λ (a : Answer). a.status) is in cc)
    by Whole explored is =
        let said : IsWhole (says Done text) contents contents' = subst (λ (a : Answer). IsWhole a contents contents') is given in
        record {
          source = source;
          read = read;
          told = told;
          moments = moments;
          stuck = stuck;
          each = explored.each;
          final = told_final source.script told explored.each;
          all = of_recorded source.script _ (explored.all refl);
          some_stuck = explored.some_stuck;
          none_stuck = explored.none_stuck refl;
          contents = said.said;
        }

searched : (script_name : List ℕ) (most : ℕ) (contents contents' : Contents) (answer : Answer) → RequestAnswers (Outcomes script_name most) (Some contents) answer → answer.status ≡ Done → IsWhole answer contents contents' → IsSearched script_name contents contents'
searched script_name most contents contents' answer (inl refused) done given = absurd (not_done answer (script_refused script_name (Some contents) answer refused) done)
searched script_name most contents contents' answer (inr (source, read, answers)) done given = searched_by script_name most source contents contents' answer read answers done given

pub finds_outcomes : (words : List (List ℕ)) (before after : DeskState) (code : ℕ) → IsServed (request_in words) before after code → FindsOutcomes words before after code
finds_outcomes words before after code served script_name most contents contents' asked zero tells tells' =
    let success = at_success words before after code contents contents' (leaves words before after code served) zero tells tells' in
    searched script_name most contents contents' success.answer (subst (λ request. Answers request (Some contents) success.answer) asked success.answers) success.done success.given

-- some of them
cut_by : (script_name : List ℕ) (most : ℕ) (source : Source) (contents contents' : Contents) (answer : Answer) → IsScriptRead script_name (Some contents) (Ok source) → OutcomesAnswers source.script most answer → answer.status ≡ NotAll → IsWhole answer contents contents'
    → IsCutOff script_name most contents contents'
cut_by script_name most source contents contents' answer read (told, moments, stuck, seen, explored, is) cut given = by seen explored is
  where
    text : List ℕ
    text = search_text source.script told moments stuck

    off : (seen : Seen) → IsExplored source.script most told moments stuck seen → (most < moments) ⊎ (seen ≡ Memory) → answer ≡ says NotAll (text ++ cut_line seen) → IsCutOff script_name most contents contents'
    off seen explored cause is =
        let said : IsWhole (says NotAll (text ++ cut_line seen)) contents contents' = subst (λ (a : Answer). IsWhole a contents contents') is given in
        record {
          source = source;
          read = read;
          told = told;
          moments = moments;
          stuck = stuck;
          seen = seen;
          each = explored.each;
          final = told_final source.script told explored.each;
          some_stuck = explored.some_stuck;
          cause = cause;
          contents = said.said;
        }

    by : (seen : Seen) → IsExplored source.script most told moments stuck seen → answer ≡ search_said text seen → IsCutOff script_name most contents contents'
    by Whole explored is = absurd (let both : NotAll ≡ Done = sym cut ∙ ap (λ (a : Answer). a.status) is in cc)
    by Most explored is = off Most explored (inl (explored.cut refl)) is
    by Memory explored is = off Memory explored (inr refl) is

cut : (script_name : List ℕ) (most : ℕ) (contents contents' : Contents) (answer : Answer) → RequestAnswers (Outcomes script_name most) (Some contents) answer → answer.status ≡ NotAll → IsWhole answer contents contents' → IsCutOff script_name most contents contents'
cut script_name most contents contents' answer (inl refused) is given = absurd (not_of_reading answer NotAll refl (script_unread script_name (Some contents) answer refused) is)
cut script_name most contents contents' answer (inr (source, read, answers)) is given = cut_by script_name most source contents contents' answer read answers is given

pub cuts_off : (words : List (List ℕ)) (before after : DeskState) (code : ℕ) → IsServed (request_in words) before after code → CutsOff words before after code
cuts_off words before after code served script_name most contents contents' asked is tells tells' =
    let found = at_status NotAll words before after code contents contents' (λ e. omega (arith, e)) (λ e. omega (arith, e)) (λ e. omega (arith, e)) (leaves words before after code served) is tells tells' in
    cut script_name most contents contents' found.answer (subst (λ request. Answers request (Some contents) found.answer) asked found.answers) found.done found.given

-- a claim that holds
holds_of_recorded : (script : Script) (claim : Claim) (wanted : Option ℕ) → Holds script claim wanted → HoldsOfRecorded script claim wanted
holds_of_recorded script (Leaves name number) None holds = tt
holds_of_recorded script (Leaves name number) (Some object) holds = of_recorded script _ holds
holds_of_recorded script CanEnd wanted holds = tt

always_by : (claim : Claim) (script_name log_name : List ℕ) (contents contents' : Contents) (answer : Answer) (source : Source) (wanted : Option ℕ) → IsScriptChosen script_name (claimed_of claim) (Some contents) (Ok (source, wanted))
    → AlwaysAnswers claim log_name (source, wanted) answer → answer.status ≡ Done → IsWhole answer contents contents' → IsAlways claim script_name contents contents'
always_by claim script_name log_name contents contents' answer source wanted read (inl (holds, is)) done given =
    let said : IsWhole always_said contents contents' = subst (λ (a : Answer). IsWhole a contents contents') is given in
    record { source = source; wanted = wanted; read = read; holds = holds; recorded = holds_of_recorded source.script claim wanted holds; contents = said.said }
always_by claim script_name log_name contents contents' answer source wanted read (inr (inl (seen, is))) done given = absurd (let both : Done ≡ NotAll = sym done ∙ ap (λ (a : Answer). a.status) is in cc)
always_by claim script_name log_name contents contents' answer source wanted read (inr (inr (fails, inl witness))) done given = absurd (let both : Done ≡ Otherwise = sym done ∙ ap (λ (a : Answer). a.status) witness.is in cc)
always_by claim script_name log_name contents contents' answer source wanted read (inr (inr (fails, inr is))) done given = absurd (let both : Done ≡ Otherwise = sym done ∙ ap (λ (a : Answer). a.status) is in cc)

always_shown : (claim : Claim) (script_name log_name : List ℕ) (most : ℕ) (contents contents' : Contents) (answer : Answer) → RequestAnswers (Always claim script_name log_name most) (Some contents) answer → answer.status ≡ Done → IsWhole answer contents contents'
    → IsAlways claim script_name contents contents'
always_shown claim script_name log_name most contents contents' answer (inl refused) done given = absurd (not_done answer (chosen_refused script_name (claimed_of claim) (Some contents) answer refused) done)
always_shown claim script_name log_name most contents contents' answer (inr ((source, wanted), read, answers)) done given = always_by claim script_name log_name contents contents' answer source wanted read answers done given

pub shows_always : (words : List (List ℕ)) (before after : DeskState) (code : ℕ) → IsServed (request_in words) before after code → ShowsAlways words before after code
shows_always words before after code served claim script_name log_name most contents contents' asked zero tells tells' =
    let success = at_success words before after code contents contents' (leaves words before after code served) zero tells tells' in
    always_shown claim script_name log_name most contents contents' success.answer (subst (λ request. Answers request (Some contents) success.answer) asked success.answers) success.done success.given

-- a claim that does not hold
refuted_by : (claim : Claim) (script_name log_name : List ℕ) (contents contents' : Contents) (answer : Answer) (source : Source) (wanted : Option ℕ) → IsScriptChosen script_name (claimed_of claim) (Some contents) (Ok (source, wanted))
    → AlwaysAnswers claim log_name (source, wanted) answer → answer.status ≡ Otherwise → IsWhole answer contents contents' → IsNotAlways claim script_name log_name contents contents'
refuted_by claim script_name log_name contents contents' answer source wanted read (inl (holds, is)) other given = absurd (let both : Otherwise ≡ Done = sym other ∙ ap (λ (a : Answer). a.status) is in cc)
refuted_by claim script_name log_name contents contents' answer source wanted read (inr (inl (seen, is))) other given = absurd (let both : Otherwise ≡ NotAll = sym other ∙ ap (λ (a : Answer). a.status) is in cc)
refuted_by claim script_name log_name contents contents' answer source wanted read (inr (inr (fails, inl witness))) other given =
    let bytes = second_bytes source.text witness.recorded.log.threads in
    let said : IsWhole (reports Otherwise log_name bytes (otherwise_text source.script witness.preemptions witness.recorded.outcome)) contents contents' = subst (λ (a : Answer). IsWhole a contents contents') witness.is given in
    record {
      source = source;
      wanted = wanted;
      read = read;
      fails = fails;
      shown = inl (record {
        preemptions = witness.preemptions;
        recorded = witness.recorded;
        refutes = witness.refutes;
        written = ap (λ (fs : Files). get fs log_name) said.files ∙ get-inserted contents.files log_name bytes;
        file = witness.file;
        contents = said.said;
      });
    }
refuted_by claim script_name log_name contents contents' answer source wanted read (inr (inr (fails, inr is))) other given =
    let said : IsWhole past_fuel contents contents' = subst (λ (a : Answer). IsWhole a contents contents') is given in
    record { source = source; wanted = wanted; read = read; fails = fails; shown = inr said.said }

refuted : (claim : Claim) (script_name log_name : List ℕ) (most : ℕ) (contents contents' : Contents) (answer : Answer) → RequestAnswers (Always claim script_name log_name most) (Some contents) answer → answer.status ≡ Otherwise → IsWhole answer contents contents'
    → IsNotAlways claim script_name log_name contents contents'
refuted claim script_name log_name most contents contents' answer (inl refused) other given = absurd (not_of_reading answer Otherwise refl (chosen_unread script_name (claimed_of claim) (Some contents) answer refused) other)
refuted claim script_name log_name most contents contents' answer (inr ((source, wanted), read, answers)) other given = refuted_by claim script_name log_name contents contents' answer source wanted read answers other given

pub refutes_always : (words : List (List ℕ)) (before after : DeskState) (code : ℕ) → IsServed (request_in words) before after code → RefutesAlways words before after code
refutes_always words before after code served claim script_name log_name most contents contents' asked is tells tells' =
    let found = at_status Otherwise words before after code contents contents' (λ e. omega (arith, e)) (λ e. omega (arith, e)) (λ e. omega (arith, e)) (leaves words before after code served) is tells tells' in
    refuted claim script_name log_name most contents contents' found.answer (subst (λ request. Answers request (Some contents) found.answer) asked found.answers) found.done found.given
