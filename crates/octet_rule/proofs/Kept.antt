-- A step that is lawful in each state that the seat's view allows keeps the rule.
use Rattle.std.proofs.Common.{◌≡◌, ◌≢◌, ℕ, ◌<◌, ◌≤◌, true, List, [], ◌∷◌, ◌++◌, length, get_or, set, sym, refl, ap, ◌∙◌, subst, arith}
use Rattle.atomic_table.specs.Table.{State, Me, keeps, Allows}
use Rattle.octet_model.specs.Machine.{journal_of}
use Rattle.octet_state.specs.State.{Thread, ProtocolState, thread_of, words, opening}
use Rattle.octet_state.specs.Steps.{Kind, found, told, after, made, ended_by, step, ThreadStep, IsRun}
use Rattle.octet_state.specs.Soundness.{IsSound}
use Rattle.octet_state.specs.Laws.{IsLawful}
use Rattle.octet_seats.specs.Seats.{AreSeats, Stay}
use Rattle.octet_seats.proofs.lemmas.Seats.{seats_stepped}
use Rattle.octet_rule.specs.Views.{SeatView, facts_of, stepped_by}
use Rattle.octet_rule.specs.Runs.{state_after, steps_of}
use Rattle.octet_rule.specs.Rule.{IsSeenBy, Follows, HasLeft, IsUnmade, IsRuled, IsRuledStep, KeepsRule, Steps}
use Rattle.octet_rule.specs.Conditions.{IsResting}
use Rattle.octet_rule.proofs.Runs.{after_more, run_more, stepper_more, other_more, threads_after, starts_after, sound_after}

module _ (k : Kind) (t place : ℕ) (operation : ℕ → ℕ) (s : ProtocolState) (law : IsLawful k t place operation s) where
  -- the thread that steps is where its seat then knows it to be
  seen_by_stepper : (v : SeatView) (word : ℕ) → v.number ≡ t → word ≡ told k t s → IsSeenBy v s → IsSeenBy (stepped_by k word v) (step k t s)
  seen_by_stepper v word same is seen = record {
    sound = law.sound;
    as_many = law.does.threads ∙ seen.as_many;
    began = law.does.starts ∙ seen.began;
    inside = let a = seen.inside in let e = law.does.threads in omega arith;
    stands = ap (thread_of (step k t s)) same ∙ (law.does.mine ∙ λ i. after k (sym same i) (sym is i) ((ap (thread_of s) (sym same) ∙ seen.stands) i));
    has_made = ap (journal_of (step k t s).journals) same ∙ (law.does.my_journal
        ∙ λ i. ended_by ((ap (journal_of s.journals) (sym same) ∙ seen.has_made) i) (made k (sym same i) (sym is i) ((ap (thread_of s) (sym same) ∙ seen.stands) i)));
  }

  -- and the others are where theirs know them to be
  seen_by_other : (v : SeatView) → v.number ≢ t → IsSeenBy v s → IsSeenBy v (step k t s)
  seen_by_other v ne seen = record {
    sound = law.sound;
    as_many = law.does.threads ∙ seen.as_many;
    began = law.does.starts ∙ seen.began;
    inside = let a = seen.inside in let e = law.does.threads in omega arith;
    stands = law.does.others v.number ne ∙ seen.stands;
    has_made = law.does.their_journals v.number ne ∙ seen.has_made;
  }

-- the state that a ruled table is in
module _ (threads : ℕ) (starts : List ℕ) (table : State (Unit {0}) SeatView) (r : IsRuled threads starts table) where
  pub sound_in : IsSound (state_after threads starts r.run)
  sound_in = sound_after threads starts r.run r.some_thread r.few_threads r.is_run

  -- it has a line for each object
  pub as_many_cells : length (state_after threads starts r.run).cells ≡ length starts
  as_many_cells = sym sound_in.form.starts ∙ ap (λ (l : List ℕ). length l) (starts_after threads starts r.run)

  -- the rule for as many threads and the starting values that a seat of the table knows of
  abbrev as_known : (n : ℕ) (l : List ℕ) → threads ≡ n → starts ≡ l → IsRuled n l table
  as_known n l many began = record {
    some_thread = subst (λ (z : ℕ). 0 < z) many r.some_thread;
    few_threads = subst (λ (z : ℕ). z ≤ 16) many r.few_threads;
    run = r.run;
    is_run = subst (λ (z : ℕ × List ℕ). IsRun (opening z.0 z.1) r.run) (λ i. (many i, began i)) r.is_run;
    lie = r.lie ∙ λ i. words (state_after (many i) (began i) r.run);
    seats = subst (λ (z : ℕ × List ℕ). AreSeats facts_of (Follows z.0 z.1 r.run) (HasLeft z.0 z.1 r.run) (IsUnmade z.0 z.1 r.run) z.0 table.views) (λ i. (many i, began i)) r.seats;
  }

-- one step of the protocol, in which no slot is taken or given back
abbrev pub Plays : Kind → Me (Unit {0}) SeatView → ℕ → Me (Unit {0}) SeatView → Type 0
Plays k me told next = (next.1 ≡ me.1) × Steps k me.0 told next.0

keeps_rule : (k : Kind) (s : ProtocolState) (v w : SeatView) → IsRuledStep k s v w → KeepsRule k s v w
unfolding KeepsRule
keeps_rule k s v w is = is

-- a step that tells what `tell` makes of the word found
pub tells : (threads : ℕ) (starts : List ℕ) (slots id : ℕ) (me : Me (Unit {0}) SeatView) (place : ℕ) (operation tell : ℕ → ℕ) (k : Kind) → me.0.is_live ≡ true
    → ((s : ProtocolState) → IsSeenBy me.0 s → length s.threads ≡ threads → length s.cells ≡ length starts
    → IsLawful k me.0.number place operation s × (tell (found k me.0.number s) ≡ told k me.0.number s))
    → Allows (IsRuled threads starts) slots id me place operation (λ word. Plays k me (tell word))
tells threads starts slots id me place operation tell k live lawful table r _ at _ =
    let v : SeatView = me.0 in let t : ℕ = v.number in let run : List ThreadStep = r.run in let s : ProtocolState = state_after threads starts run in let mine = r.seats.seated id v at live in
    let both = lawful s mine.seen.seen (threads_after threads starts run) (as_many_cells threads starts table r) in
    let law : IsLawful k t place operation s = both.0 in let next : ProtocolState = step k t s in
    let at_place : ℕ = get_or table.words place 0 in
    let word : at_place ≡ found k t s = ap (λ (z : List ℕ). get_or z place 0) r.lie ∙ law.does.finds in
    let is_told : tell at_place ≡ told k t s = ap tell word ∙ both.1 in
    let w : SeatView = stepped_by k (tell at_place) v in
    let seen_after : IsSeenBy w next = seen_by_stepper k t place operation s law v (tell at_place) refl is_told mine.seen.seen in
    let more : List ThreadStep = run ++ record { thread = t; kind = k } ∷ [] in
    let comes : next ≡ state_after threads starts more = sym (after_more (opening threads starts) run (record { thread = t; kind = k })) in
    let other : (u : ℕ) → u ≢ t → steps_of u (opening threads starts) more ≡ steps_of u (opening threads starts) run = λ u. other_more t u (opening threads starts) run k in
    let stay : Stay facts_of (Follows threads starts run) (Follows threads starts more) (HasLeft threads starts run) (HasLeft threads starts more) (IsUnmade threads starts run) (IsUnmade threads starts more) t = record {
      seen = λ y ne had. record { seen = subst (IsSeenBy y) comes (seen_by_other k t place operation s law y ne had.seen); trail = other y.number ne ∙ had.trail };
      left = λ u left ne had. record {
        rests = subst IsResting (ap (λ (y : Thread). y.phase) (sym (law.does.others u ne)) ∙ ap (λ (z : ProtocolState). (thread_of z u).phase) comes) had.rests;
        journal = ap (λ (z : ProtocolState). journal_of z.journals u) (sym comes) ∙ (law.does.their_journals u ne ∙ had.journal);
        trail = other u ne ∙ had.trail;
      };
      unmade = λ u ne had. record {
        stands = ap (λ (z : ProtocolState). thread_of z u) (sym comes) ∙ (law.does.others u ne ∙ had.stands);
        journal = ap (λ (z : ProtocolState). journal_of z.journals u) (sym comes) ∙ (law.does.their_journals u ne ∙ had.journal);
        trail = other u ne ∙ had.trail;
      };
    } in
    let follows : Follows threads starts more w = record {
      seen = subst (IsSeenBy w) comes seen_after;
      trail = stepper_more t (opening threads starts) run k ∙ λ i. mine.seen.trail i ++ record { kind = k; word = sym is_told i } ∷ [];
    } in
    let rule_after : (ws : List ℕ) → ws ≡ words next → IsRuled threads starts record { words = ws; homes = table.homes; views = set table.views id w } = λ ws lie. record {
      some_thread = r.some_thread;
      few_threads = r.few_threads;
      run = more;
      is_run = run_more (opening threads starts) run (record { thread = t; kind = k }) r.is_run mine.seen.seen.inside law.may;
      lie = lie ∙ ap words comes;
      seats = seats_stepped facts_of (Follows threads starts run) (HasLeft threads starts run) (IsUnmade threads starts run) threads table.views r.seats id v at live
          (Follows threads starts more) (HasLeft threads starts more) (IsUnmade threads starts more) w threads refl refl follows stay;
    } in
    let many : threads ≡ v.threads = sym (threads_after threads starts run) ∙ mine.seen.seen.as_many in
    let began : starts ≡ v.starts = sym (starts_after threads starts run) ∙ mine.seen.seen.began in (
      w,
      keeps,
      tt,
      rule_after (set table.words place (operation at_place))
          (ap (λ (z : List ℕ). set z place (operation at_place)) r.lie ∙ (ap (λ (z : ℕ). set (words s) place (operation z)) word ∙ law.does.leaves)),
      (
        refl,
        record {
          before = s;
          seen = mine.seen.seen;
          may = law.may;
          word = is_told;
          moves = refl;
          seen_after = seen_after;
          ruled = keeps_rule k s v w record {
            table = table;
            seat = id;
            has = at;
            rule = as_known threads starts table r v.threads v.starts many began;
            is_before = λ i. state_after (sym many i) (sym began i) run;
            rule_after = as_known threads starts (record { words = words next; homes = table.homes; views = set table.views id w }) (rule_after (words next) refl) v.threads v.starts many began;
            grows = refl {a = more};
          };
        },
      ),
    )

-- the same for a step that tells the word that it finds
pub plays : (threads : ℕ) (starts : List ℕ) (slots id : ℕ) (me : Me (Unit {0}) SeatView) (place : ℕ) (operation : ℕ → ℕ) (k : Kind) → me.0.is_live ≡ true
    → ((t : ℕ) (s : ProtocolState) → found k t s ≡ told k t s)
    → ((s : ProtocolState) → IsSeenBy me.0 s → length s.threads ≡ threads → length s.cells ≡ length starts → IsLawful k me.0.number place operation s)
    → Allows (IsRuled threads starts) slots id me place operation (Plays k me)
plays threads starts slots id me place operation k live same lawful = tells threads starts slots id me place operation (λ word. word) k live (λ s seen a b. (lawful s seen a b, same me.0.number s))
