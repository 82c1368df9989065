-- A step that is lawful in each state that the view of its player allows keeps the rule.
use Rattle.std.proofs.Common.{◌≡◌, ◌≢◌, ℕ, true, List, [], ◌∷◌, ◌++◌, length, get_or, set, sym, refl, ap, ◌∙◌, subst, subst₂, arith}
use Rattle.atomic_table.specs.Table.{State, Me, keeps, Allows}
use Rattle.octet_model.specs.declared.script.Script.{Script}
use Rattle.octet_model.specs.declared.log.Log.{Log}
use Rattle.octet_model.specs.Orders.{by_log}
use Rattle.octet_clock.specs.Untied.{IsUntied}
use Rattle.octet_parallel.specs.State.{FieldState, player_of, words, next_of_player, opening}
use Rattle.octet_parallel.specs.Steps.{Kind, word_found, told, after, step}
use Rattle.octet_parallel.specs.Laws.{IsLawfulStep}
use Rattle.octet_seats.specs.Seats.{AreSeats, Stay}
use Rattle.octet_seats.specs.Runs.{after_all}
use Rattle.octet_seats.proofs.lemmas.Seats.{seats_stepped}
use Rattle.octet_seats.proofs.lemmas.Runs.{after_more, stepper_more, other_more, may_more}
use Rattle.octet_parallel.specs.Views.{PlayerView, facts_of, next_in, stepped_by}
use Rattle.octet_parallel.specs.Runs.{PlayerStep, moves, MayStep, IsRun, field_after, steps_of}
use Rattle.octet_parallel.specs.Rule.{IsSeenBy, Follows, HasLeft, IsUnmade, IsRuled, IsRuledStep, KeepsRule, Steps}

-- what is next for a player is what its view says
pub next_seen : (v : PlayerView) (s : FieldState) → IsSeenBy v s → next_of_player s v.number ≡ next_in v
next_seen v s seen = λ i. by_log (seen.script i) ((seen.log i).threads) v.number ((seen.stands i).journal)

module _ (k : Kind) (t place : ℕ) (operation : ℕ → ℕ) (s : FieldState) (law : IsLawfulStep k t place operation s) where
  -- the player that steps is as its view then has it
  seen_by_stepper : (v : PlayerView) (word : ℕ) → v.number ≡ t → word ≡ told k t s → IsSeenBy v s → IsSeenBy (stepped_by k word v) (step k t s)
  seen_by_stepper v word same is seen = record {
    sound = law.sound;
    script = seen.script;
    log = seen.log;
    inside = let a = seen.inside in let e = law.does.many in omega arith;
    stands = ap (player_of (step k t s)) same ∙ law.does.mine
        ∙ (λ i. after k ((ap (next_of_player s) (sym same) ∙ next_seen v s seen) i) (sym is i) ((ap (player_of s) (sym same) ∙ seen.stands) i));
  }

  -- and the others are as theirs have them
  seen_by_other : (v : PlayerView) → v.number ≢ t → IsSeenBy v s → IsSeenBy v (step k t s)
  seen_by_other v ne seen = record {
    sound = law.sound;
    script = seen.script;
    log = seen.log;
    inside = let a = seen.inside in let e = law.does.many in omega arith;
    stands = law.does.others v.number ne ∙ seen.stands;
  }

-- no step changes what is replayed
script_kept : (s : FieldState) (run : List PlayerStep) → (after_all moves s run).script ≡ s.script
script_kept s [] = refl
script_kept s (next ∷ run) = script_kept (step next.kind next.player s) run

log_kept : (s : FieldState) (run : List PlayerStep) → (after_all moves s run).log ≡ s.log
log_kept s [] = refl
log_kept s (next ∷ run) = log_kept (step next.kind next.player s) run

pub script_after : (script : Script) (log : Log) (run : List PlayerStep) → (field_after script log run).script ≡ script
script_after script log run = script_kept (opening script log) run

pub log_after : (script : Script) (log : Log) (run : List PlayerStep) → (field_after script log run).log ≡ log
log_after script log run = log_kept (opening script log) run

-- the rule for the script and the log that a view of the table knows of
abbrev as_known : {script known : Script} {log known_log : Log} {table : State (Unit {0}) PlayerView} → script ≡ known → log ≡ known_log → IsRuled script log table → IsRuled known known_log table
as_known {script} {known} {log} {known_log} {table} e f r = record {
  agree = subst₂ (λ (z : Script) (l : Log). length z.threads ≡ length l.threads) e f r.agree;
  untied = subst (λ (l : Log). IsUntied l.threads) f r.untied;
  run = r.run;
  is_run = subst₂ (λ (z : Script) (l : Log). IsRun (opening z l) r.run) e f r.is_run;
  lie = r.lie ∙ λ i. words (field_after (e i) (f i) r.run);
  seats = subst₂ (λ (z : Script) (l : Log). AreSeats facts_of (Follows z l r.run) (HasLeft z l r.run) (IsUnmade z l r.run) (length l.threads) table.views) e f r.seats;
}

abbrev pub Plays : Kind → Me (Unit {0}) PlayerView → ℕ → Me (Unit {0}) PlayerView → Type 0
Plays k me told next = (next.1 ≡ me.1) × Steps k me.0 told next.0

keeps_rule : (k : Kind) (s : FieldState) (v w : PlayerView) → IsRuledStep k s v w → KeepsRule k s v w
unfolding KeepsRule
keeps_rule k s v w is = is

-- a step that tells what `tell` makes of the word found
pub tells : (script : Script) (log : Log) (slots id : ℕ) (me : Me (Unit {0}) PlayerView) (place : ℕ) (operation tell : ℕ → ℕ) (k : Kind) → me.0.is_live ≡ true
    → ((s : FieldState) → IsSeenBy me.0 s → IsLawfulStep k me.0.number place operation s × (tell (word_found k me.0.number s) ≡ told k me.0.number s))
    → Allows (IsRuled script log) slots id me place operation (λ word. Plays k me (tell word))
tells script log slots id me place operation tell k live lawful table r _ at _ =
    let v : PlayerView = me.0 in let t : ℕ = v.number in let run : List PlayerStep = r.run in let first : FieldState = opening script log in
    let s : FieldState = field_after script log run in let mine = r.seats.seated id v at live in
    let both = lawful s mine.seen.seen in let law : IsLawfulStep k t place operation s = both.0 in let next : FieldState = step k t s in
    let at_place : ℕ = get_or table.words place 0 in
    let word : at_place ≡ word_found k t s = ap (λ (z : List ℕ). get_or z place 0) r.lie ∙ law.does.finds in
    let is_told : tell at_place ≡ told k t s = ap tell word ∙ both.1 in
    let w : PlayerView = stepped_by k (tell at_place) v in
    let seen_after : IsSeenBy w next = seen_by_stepper k t place operation s law v (tell at_place) refl is_told mine.seen.seen in
    let one : PlayerStep = record { player = t; kind = k } in
    let more : List PlayerStep = run ++ one ∷ [] in
    let comes : next ≡ field_after script log more = sym (after_more moves first run one) in
    let other : (u : ℕ) → u ≢ t → steps_of u script log more ≡ steps_of u script log run = λ u. other_more moves u first run one in
    let stay : Stay facts_of (Follows script log run) (Follows script log more) (HasLeft script log run) (HasLeft script log more) (IsUnmade script log run) (IsUnmade script log more) t = record {
      seen = λ y ne had. record { seen = subst (IsSeenBy y) comes (seen_by_other k t place operation s law y ne had.seen); trail = other y.number ne ∙ had.trail };
      left = λ u left ne had. record { stands = ap (λ (z : FieldState). player_of z u) (sym comes) ∙ (law.does.others u ne ∙ had.stands); trail = other u ne ∙ had.trail };
      unmade = λ u ne had. record { stands = ap (λ (z : FieldState). player_of z u) (sym comes) ∙ (law.does.others u ne ∙ had.stands); trail = other u ne ∙ had.trail };
    } in
    let follows : Follows script log more w = record {
      seen = subst (IsSeenBy w) comes seen_after;
      trail = stepper_more moves t first run one refl ∙ λ i. mine.seen.trail i ++ record { kind = k; word = sym is_told i } ∷ [];
    } in
    let rule_after : (ws : List ℕ) → ws ≡ words next → IsRuled script log record { words = ws; homes = table.homes; views = set table.views id w } = λ ws lie. record {
      agree = r.agree;
      untied = r.untied;
      run = more;
      is_run = may_more moves MayStep first run one r.is_run (mine.seen.seen.inside, law.may);
      lie = lie ∙ ap words comes;
      seats = seats_stepped facts_of (Follows script log run) (HasLeft script log run) (IsUnmade script log run) (length log.threads) table.views r.seats id v at live
          (Follows script log more) (HasLeft script log more) (IsUnmade script log more) w (length log.threads) refl refl follows stay;
    } in
    let same_script : script ≡ v.script = sym (script_after script log run) ∙ mine.seen.seen.script in
    let same_log : log ≡ v.log = sym (log_after script log run) ∙ mine.seen.seen.log in (
      w,
      keeps,
      tt,
      rule_after (set table.words place (operation at_place))
          (ap (λ (z : List ℕ). set z place (operation at_place)) r.lie ∙ (ap (λ (z : ℕ). set (words s) place (operation z)) word ∙ law.does.leaves)),
      (
        refl,
        record {
          before = s;
          seen = mine.seen.seen;
          may = law.may;
          word = is_told;
          moves = refl;
          seen_after = seen_after;
          ruled = keeps_rule k s v w record {
            table = table;
            seat = id;
            has = at;
            rule = as_known same_script same_log r;
            is_before = λ i. field_after (sym same_script i) (sym same_log i) run;
            rule_after = as_known same_script same_log (rule_after (words next) refl);
            grows = refl {a = more};
          };
        },
      ),
    )
