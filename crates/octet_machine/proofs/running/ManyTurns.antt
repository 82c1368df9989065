-- Turns one after another.
use Rattle.std.proofs.Common.{◌≡◌, ℕ, suc, ◌+◌, ◌%◌, ◌<◌, inl, inr, false, List, [], ◌∷◌, length, map, Option, Some, None, Result, Ok, Err, IfOk, refl, sym, ap, ◌∙◌, subst, arith}
use Rattle.std.specs.List.{range_with_len}
use Rattle.std.proofs.lemmas.Bool.{cases_lt}
use Rattle.octet_model.specs.declared.list.OutOfMemory.{OutOfMemory}
use Rattle.octet_model.specs.declared.outcome.End.{End}
use Rattle.octet_model.specs.declared.outcome.Recorded.{Recorded}
use Rattle.octet_model.specs.declared.script.Script.{Script}
use Rattle.octet_model.specs.Journals.{log_of}
use Rattle.octet_model.specs.Orders.{outcome_of}
use Rattle.octet_machine.specs.Machine.{MachineState, runner_of, opening_machine, after_step, after_turn, state_of_turn, have_ended, plain_state}
use Rattle.octet_machine.specs.Turns.{after_turns, after_picks, after_round, after_rounds, EndsByRounds, IsPlayed}

-- with one more turn of a round taken, the others lead to the same
pub one_turn : (m m' : MachineState) (thread more fewer : ℕ) (end : MachineState) → m' ≡ after_turn m thread → more ≡ suc fewer
    → after_turns m (range_with_len thread more) ≡ end → after_turns m' (range_with_len (thread + 1) fewer) ≡ end
one_turn m m' thread more fewer end turned is left =
    ap (λ (x : MachineState). after_turns x (range_with_len (thread + 1) fewer)) turned
    ∙ sym (ap (λ (n : ℕ). after_turns m (range_with_len thread n)) is) ∙ left

-- no turn changes the script
turn_keeps_script : (m : MachineState) (thread : ℕ) → (after_turn m thread).script ≡ m.script
turn_keeps_script m thread = go (runner_of m thread).end
  where
    go : (end : Option End) → (state_of_turn end m (after_step m thread)).script ≡ m.script
    go None = refl
    go (Some end) = refl

turns_keep_script : (m : MachineState) (threads : List ℕ) → (after_turns m threads).script ≡ m.script
turns_keep_script m [] = refl
turns_keep_script m (thread ∷ threads) = turns_keep_script (after_turn m thread) threads ∙ turn_keeps_script m thread

-- after rounds before each of which some thread had not ended
abbrev pub IsUnderway : MachineState → MachineState → Type 0
IsUnderway before after = (rounds : ℕ) × (after ≡ after_rounds before rounds) × ((fewer : ℕ) → fewer < rounds → have_ended (after_rounds before fewer) ≡ false)

-- and one more
pub one_round : (before m m' : MachineState) → IsUnderway before m → have_ended m ≡ false → m' ≡ after_round m → IsUnderway before m'
one_round before m m' (rounds, comes, least) going round = (
  suc rounds,
  round ∙ ap after_round comes,
  λ fewer lt. elim (cases_lt fewer rounds) [
    | inl below ↦ least fewer below
    | inr above ↦
        let same : fewer ≡ rounds = omega arith in
        ap (λ (n : ℕ). have_ended (after_rounds before n)) same ∙ sym (ap have_ended comes) ∙ going
  ],
)

module _ (script : Script) (picks : List ℕ) (opening picked end : MachineState) (opens : opening ≡ opening_machine script) (picks_taken : picked ≡ after_picks opening picks) where
  picked_is : picked ≡ after_picks (opening_machine script) picks
  picked_is = picks_taken ∙ ap (λ (m : MachineState). after_picks m picks) opens

  -- it is still the machine of the script
  pub same_script : end.script ≡ picked.script → end.script ≡ script
  same_script same = same ∙ ap (λ (m : MachineState). m.script) picked_is ∙ turns_keep_script (opening_machine script) (map (λ pick. pick % length (opening_machine script).runners) picks)

  -- what is recorded of it is the record of the run that was played
  pub is_played : EndsByRounds picked end → (result : Result Recorded OutOfMemory)
      → IfOk result (λ r. r.log.threads ≡ log_of end.protocol.journals) → IfOk result (λ r. r.outcome ≡ outcome_of end.script (plain_state end.protocol)) → IfOk result (λ r. IsPlayed script picks r)
  is_played ends (Ok recorded) log outcome = record {
    end = end;
    played = subst (λ (m : MachineState). EndsByRounds m end) picked_is ends;
    record_of = record { log = log; outcome = outcome };
  }
  is_played ends (Err none) log outcome = tt
