-- What a run leaves that was cut.
use Rattle.std.proofs.Common.{◌≡◌, ◌∙◌, ◌⊎◌, ℕ, List, true, inl, inr, Option, Some, sym, ap, subst}
use Rattle.octet_base.specs.Desk.{Contents, DeskState}
use Rattle.octet_model.specs.Texts.{outcome_text}
use Rattle.octet_commands.specs.declared.reply.Status.{Status}
use Rattle.octet_commands.specs.declared.reply.Status.TheVariants as exit
use Rattle.octet_commands.specs.Answer.{Answer, code_of, writes_file}
use Rattle.octet_commands.specs.Request.{Request, request_in}
use Rattle.octet_commands.specs.declared.request.Request.TheVariants.{Run}
use Rattle.octet_commands.specs.declared.request.Way.TheVariants.{AsTheyCome}
use Rattle.octet_commands.specs.Commands.{Answers, RequestAnswers}
use Rattle.octet_top.specs.Effects.{IsGivenAnswer, LeavesLog, LeavesText, LeavesLine, CutsRun}
use Rattle.octet_commands.specs.Outputs.{written, IsCutShort, ArePartlyWritten}
use Rattle.octet_top.specs.Serving.{IsServed}
use Rattle.octet_top.proofs.serving.Causes.{same_status, says_failed}
use Rattle.octet_top.proofs.serving.Effects.{leaves, names_given}
use Rattle.octet_commands.proofs.lemmas.Rows.{Refuses, is_refusal, not_done, script_refused}

-- an answer that is given whole has another status
never_cut : (status : Status) → (status ≡ exit.Done) ⊎ (is_refusal status ≡ true) → ¬ ((code_of status ≡ code_of exit.Write) ⊎ (code_of status ≡ code_of exit.Memory))
never_cut status own (inl write) = let is : status ≡ exit.Write = same_status status exit.Write write in none exit.Write (subst (λ (s : Status). (s ≡ exit.Done) ⊎ (is_refusal s ≡ true)) is own)
  where
    none : (s : Status) → (exit.Write ≡ exit.Done) ⊎ (is_refusal exit.Write ≡ true) → ⊥
    none s (inl never) = cc
    none s (inr never) = cc
never_cut status own (inr memory) = let is : status ≡ exit.Memory = same_status status exit.Memory memory in none exit.Memory (subst (λ (s : Status). (s ≡ exit.Done) ⊎ (is_refusal s ≡ true)) is own)
  where
    none : (s : Status) → (exit.Memory ≡ exit.Done) ⊎ (is_refusal exit.Memory ≡ true) → ⊥
    none s (inl never) = cc
    none s (inr never) = cc

module _ (words : List (List ℕ)) (script log : List ℕ) (asked : request_in words ≡ Some (Run AsTheyCome script log)) (faults after_faults : ℕ) (t t' : Contents) where
  abbrev LeftByRun : Type 0
  LeftByRun = LeavesLog words t t' ⊎ (LeavesText script log t t' ⊎ LeavesLine words faults after_faults t t')

  -- the line of a refusal was cut
  line_cut : (answer : Answer) → IsGivenAnswer words t faults after_faults answer → Refuses answer → IsCutShort answer t t' → LeftByRun
  line_cut answer given refused (inl (part, said)) = absurd (subst (λ fs. ArePartlyWritten fs t.files t'.files) refused.files part)
  line_cut answer given refused (inr (files, (n, said))) = inr (inr (record {
    files = files ∙ ap (λ fs. written fs t.files) refused.files;
    said = inr (answer, given, not_done answer refused, (n, said));
  }))

  run_cut : (answer : Answer) → IsGivenAnswer words t faults after_faults answer → RequestAnswers (Run AsTheyCome script log) (Some t) answer → IsCutShort answer t t' → LeftByRun
  run_cut answer given (inl refused) short = line_cut answer given (script_refused script (Some t) answer refused) short
  run_cut answer given (inr (source, read, (logged, outcome, bytes, faithful, file, is))) short = by (subst (λ (a : Answer). IsCutShort a t t') is short)
    where
      by : IsCutShort (writes_file log bytes (outcome_text source.script outcome)) t t' → LeftByRun
      by (inl (inl part, said)) = inl (record {
        script_name = script;
        log_name = log;
        asked = asked;
        source = source;
        read = read;
        log = logged;
        bytes = bytes;
        as_many = sym faithful.is_lawful.0;
        spelled = file.spelled;
        file = part;
        said = said;
      })
      by (inl (inr never, said)) = absurd never
      by (inr (files, (n, said))) = inr (inl (record { source = source; read = read; log = logged; outcome = outcome; bytes = bytes; faithful = faithful; spelled = file.spelled; count = n; files = files; said = said }))

  answer_cut : (answer : Answer) → IsGivenAnswer words t faults after_faults answer → IsCutShort answer t t' → LeftByRun
  answer_cut answer (inl answers) short = run_cut answer (inl answers) (subst (λ (request : Option Request). Answers request (Some t) answer) asked answers) short
  answer_cut answer (inr (says, rose)) short = (let failed = says_failed (request_in words) (Some t) answer says in line_cut answer (inr (says, rose)) (record { status = ap is_refusal failed.status; files = failed.files }) short)

pub cuts : (words : List (List ℕ)) (before after : DeskState) (code : ℕ) → IsServed (request_in words) before after code → CutsRun words before after code
cuts words before after code served script log t t' asked cut tells tells' = elim (leaves words before after code served t t' tells tells') [
  | inl nothing ↦ inr (inr (record { files = nothing.files; said = inl nothing.said }))
  | inr (inr (left, is)) ↦ inl left
  | inr (inl (answer, given, inr (short, is))) ↦ answer_cut words script log asked before.take_faults after.take_faults t t' answer given short
  | inr (inl (answer, given, inl (whole, is))) ↦ absurd (never_cut answer.status
      (names_given words t before.take_faults after.take_faults answer given).own
      (elim cut [ inl write ↦ inl (sym is ∙ write) | inr memory ↦ inr (sym is ∙ memory) ]))
]
