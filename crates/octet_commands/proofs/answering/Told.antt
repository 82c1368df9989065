-- The lines of a trace, told one after another.
use Rattle.std.proofs.Common.{◌≡◌, ℕ, suc, ◌+◌, ◌-◌, ◌<◌, inl, inr, List, [], ◌∷◌, ◌++◌, length, codes, drop, Some, slice_get, slice_set, sym, ap, ◌∙◌, subst, arith, append_assoc, length-set}
use Rattle.std.proofs.Math.Seq.{drop-cons}
use Rattle.std.specs.Fmt.{decimal}
use Rattle.std.proofs.lemmas.Bool.{cases_eq}
use Rattle.std.proofs.lemmas.Option.{get_or_from_slice_get, slice_get_within}
use Rattle.octet_model.specs.declared.command.Command.{Command}
use Rattle.octet_model.specs.declared.event.Event.{Event}
use Rattle.octet_model.specs.declared.event.Place.{Place}
use Rattle.octet_model.specs.declared.log.ThreadLog.{ThreadLog}
use Rattle.octet_model.specs.declared.script.Script.{Script}
use Rattle.octet_model.specs.Thread.{Configuration, settled, configuration_after, starting_configuration, FitsFrom}
use Rattle.octet_model.specs.Machine.{Journals, journal_of, appended}
use Rattle.octet_model.specs.Orders.{commands_of}
use Rattle.octet_model.specs.Traces.{trace_of}
use Rattle.octet_model.proofs.lemmas.Steps.{other_journal, same_journal}
use Rattle.octet_replay.specs.ReplayState.{state_at}
use Rattle.octet_replay.proofs.lemmas.Reading.{get_other, get_same}
use Rattle.octet_interp.specs.Regions.{regions_before}
use Rattle.octet_interp.specs.Following.{access_place, places_ahead, places_before_next, CanFollow, FollowerState, IsBeforeAccess, IsFollowing, PassesRegion, FollowsOn}
use Rattle.octet_commands.specs.Answer.{place_text}
use Rattle.octet_commands.specs.EventTexts.{event_text, placed_text}
use Rattle.octet_commands.specs.TraceTexts.{event_lines, line_in, line_words, lines_after, made_by, region_line, region_lines}
use Rattle.octet_commands.specs.Tracing.{AreFollowers, FitsNext, IsFollowerOf, TellsEvent, TellsRegions}
use Rattle.octet_commands.proofs.answering.TraceSteps.{IsStep}

-- five parts, added one after another
pub five : (text a b c d e : List ℕ) → text ++ a ++ b ++ c ++ d ++ e ≡ text ++ (a ++ b ++ c ++ d ++ e)
five text a b c d e =
    ap (λ (l : List ℕ). l ++ c ++ d ++ e) (append_assoc text a b) ∙ ap (λ (l : List ℕ). l ++ d ++ e) (append_assoc text (a ++ b) c)
    ∙ ap (λ (l : List ℕ). l ++ e) (append_assoc text (a ++ b ++ c) d) ∙ append_assoc text (a ++ b ++ c ++ d) e

abbrev ahead_of : FollowerState → List ℕ
ahead_of s = places_ahead s.commands s.at

-- one more `region` command is told
pub one_more_region : (lines : List (List ℕ)) (place : Place) (last : ℕ) (text out total : List ℕ) (command : ℕ) (before after : FollowerState) → PassesRegion before command after
    → before.regions + length (ahead_of before) ≡ last
    → out ≡ text ++ place_text place ++ codes " region " ++ decimal after.regions ++ line_words (line_in lines place.thread command) ++ codes "\n"
    → text ++ region_lines lines place last (ahead_of before) ≡ total
    → out ++ region_lines lines place last (ahead_of after) ≡ total
one_more_region lines place last text out total command before after passes counts grown is =
    let more = ahead_of after in
    let line = line_in lines place.thread command in
    let number : after.regions ≡ last - length more = omega (arith, counts, passes.regions, ap (λ (l : List ℕ). length l) passes.ahead) in
    ap (λ (l : List ℕ). l ++ region_lines lines place last more) (grown ∙ five text (place_text place) (codes " region ") (decimal after.regions) (line_words line) (codes "\n")
    ∙ ap (λ (n : ℕ). text ++ region_line place n line) number)
    ∙ append_assoc text (region_line place (last - length more) line) (region_lines lines place last more)
    ∙ ap (λ (l : List ℕ). text ++ region_lines lines place last l) (sym passes.ahead)
    ∙ is

-- one fewer is left
pub counts_on : (last command : ℕ) (before after : FollowerState) → PassesRegion before command after → before.regions + length (ahead_of before) ≡ last → after.regions + length (ahead_of after) ≡ last
counts_on last command before after passes counts = omega (arith, counts, passes.regions, ap (λ (l : List ℕ). length l) passes.ahead)

module _ (lines : List (List ℕ)) (script : Script) (place : Place) (event : Event) (before mid after : FollowerState) (regions : List ℕ) (line : ℕ)
    (tells : TellsRegions lines place before regions mid) (follows : FollowsOn mid event after) (stands : line ≡ line_in lines place.thread mid.at.place) where
  abbrev told : List ℕ
  told = regions ++ placed_text script place event ++ made_by line event ++ codes "\n"

  -- the thread stands where its next access is
  before_access : (start : Configuration) (journal : List Event) → IsFollowing start journal before → IsBeforeAccess start journal mid
  before_access start journal following =
      let s : FollowerState = record { commands = before.commands; at = mid.at; regions = mid.regions } in
      let is : mid ≡ s = λ i. record { commands = tells.commands i; at = mid.at; regions = mid.regions } in
      subst (IsBeforeAccess start journal) (sym is) (record {
        told = record {
          ahead = ap (λ (commands : List Command). places_ahead commands mid.at) (sym tells.commands) ∙ tells.none_left;
          settles = ap (λ (commands : List Command). settled commands mid.at) (sym tells.commands) ∙ tells.settles ∙ following.settles;
          counts = omega (arith, tells.regions, following.counts, ap (λ (l : List ℕ). length l) following.ahead);
        };
        stands = tells.stands ∙ following.settles;
      })

  pub tells_event : TellsEvent lines script (place, event) before told after
  tells_event start journal following =
      let last : before.regions + length (ahead_of before) ≡ regions_before before.commands start journal = omega (arith, following.counts, ap (λ (l : List ℕ). length l) following.ahead) in
      let at : mid.at.place ≡ access_place before.commands start journal = ap (λ (c : Configuration). c.place) (tells.stands ∙ following.settles) in (
        ap (λ (l : List ℕ). l ++ placed_text script place event ++ made_by line event ++ codes "\n") (tells.told ∙ ap (λ (n : ℕ). region_lines lines place n (ahead_of before)) last
            ∙ ap (region_lines lines place (regions_before before.commands start journal)) following.ahead)
            ∙ ap (λ (n : ℕ). region_lines lines place (regions_before before.commands start journal) (places_before_next before.commands start journal) ++ placed_text script place event ++ made_by n event ++ codes "\n")
            (stands ∙ ap (line_in lines place.thread) at),
        follows start journal (before_access start journal following),
      )

-- an event's text, after that of its regions
pub event_told : (script : Script) (place : Place) (event : Event) (line : ℕ) (text regions : List ℕ)
    → text ++ regions ++ place_text place ++ codes " " ++ event_text script event ++ made_by line event ++ codes "\n" ≡ text ++ (regions ++ placed_text script place event ++ made_by line event ++ codes "\n")
event_told script place event line text regions =
    let placed = placed_text script place event in
    let front : text ++ regions ++ place_text place ++ codes " " ++ event_text script event ≡ text ++ (regions ++ placed) =
    ap (λ (l : List ℕ). l ++ event_text script event) (append_assoc (text ++ regions) (place_text place) (codes " "))
    ∙ append_assoc (text ++ regions) (place_text place ++ codes " ") (event_text script event) ∙ append_assoc text regions placed in
    ap (λ (l : List ℕ). l ++ made_by line event ++ codes "\n") front ∙ ap (λ (l : List ℕ). l ++ codes "\n") (append_assoc text (regions ++ placed) (made_by line event))
    ∙ append_assoc text (regions ++ placed ++ made_by line event) (codes "\n")

-- past the `region` commands the thread can follow what it demands
pub can_follow : (lines : List (List ℕ)) (place : Place) (event : Event) (before mid : FollowerState) (regions : List ℕ) → TellsRegions lines place before regions mid → FitsNext event before → CanFollow event mid
can_follow lines place event before mid regions tells fits = record {
  from = fits.from;
  stands = tells.stands ∙ fits.settles ∙ ap (λ (commands : List Command). settled commands fits.from) (sym tells.commands);
  fits = subst (λ (commands : List Command). FitsFrom commands fits.from (event ∷ [])) (sym tells.commands) fits.fits;
}

-- the followers, after an event of one of them
pub one_followed : (script : Script) (journals : Journals) (followers : List FollowerState) (t : ℕ) (e : Event) (new : FollowerState) → AreFollowers script journals followers → t < length journals
    → IsFollowerOf script t (journal_of journals t ++ e ∷ []) new → AreFollowers script (appended journals t e) (slice_set followers t new)
one_followed script journals followers t e new are lt it = record {
  as_many = omega (arith, length-set followers t new, are.as_many);
  each = λ u s at. elim (cases_eq u t) [
    | inr differ ↦ subst (λ (j : List Event). IsFollowerOf script u j s) (sym (other_journal journals t u e differ)) (are.each u s (sym (get_other followers t u new differ) ∙ at))
    | inl same ↦
        let here : slice_get (slice_set followers t new) t ≡ Some s = ap (λ (k : ℕ). slice_get (slice_set followers t new) k) (sym same) ∙ at in
        let its = subst (λ (x : FollowerState). IsFollowerOf script t (journal_of journals t ++ e ∷ []) x) (get_same followers t new s here) it in
        subst (λ (v : ℕ). IsFollowerOf script v (journal_of (appended journals t e) v) s) (sym same)
        (subst (λ (j : List Event). IsFollowerOf script t j s) (sym (same_journal journals t e lt)) its)
  ];
}

module _ (script : Script) (log : List ThreadLog) (told : ℕ) (item : Place × Event) (step : IsStep script log told item) where
  abbrev journals : Journals
  journals = (state_at script log told).journals

  abbrev its_journal : List Event
  its_journal = journal_of journals item.0.thread

  -- the event fits its thread's follower
  pub fits_follower : (s : FollowerState) → IsFollowerOf script item.0.thread its_journal s → FitsNext item.1 s
  fits_follower s it = record {
    from = configuration_after s.commands (starting_configuration script.fuel) its_journal;
    settles = it.follows.settles;
    fits = subst (λ (commands : List Command). FitsFrom commands (configuration_after commands (starting_configuration script.fuel) its_journal) (item.1 ∷ [])) (sym it.commands) step.fits;
  }

  -- and the event is told
  pub told_on : (lines : List (List ℕ)) (text new one total : List ℕ) (s : FollowerState) → slice_get (trace_of script log) told ≡ Some item → IsFollowerOf script item.0.thread its_journal s
      → new ≡ text ++ one → one ≡ event_lines lines script s.commands (starting_configuration script.fuel) its_journal item
      → text ++ lines_after lines script journals (drop told (trace_of script log)) ≡ total
      → new ++ lines_after lines script (state_at script log (suc told)).journals (drop (suc told) (trace_of script log)) ≡ total
  told_on lines text new one total s at it new_is one_is is =
      let trace = trace_of script log in
      let lt = slice_get_within trace told item at in
      let here : drop told trace ≡ item ∷ drop (suc told) trace = drop-cons trace told item lt ∙ ap (λ (x : Place × Event). x ∷ drop (suc told) trace) (get_or_from_slice_get trace told item item at) in
      let rest = lines_after lines script (appended journals item.0.thread item.1) (drop (suc told) trace) in
      ap (λ (js : Journals). new ++ lines_after lines script js (drop (suc told) trace)) step.appends
      ∙ ap (λ (l : List ℕ). l ++ rest) (new_is ∙ ap (λ (l : List ℕ). text ++ l) (one_is
      ∙ ap (λ (commands : List Command). event_lines lines script commands (starting_configuration script.fuel) its_journal item) it.commands))
      ∙ append_assoc text (event_lines lines script (commands_of script item.0.thread) (starting_configuration script.fuel) its_journal item) rest
      ∙ ap (λ (l : List (Place × Event)). text ++ lines_after lines script journals l) (sym here)
      ∙ is
