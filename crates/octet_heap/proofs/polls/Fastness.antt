-- Which path an access takes, by the steps of its poll.
use Rattle.std.proofs.Common.{◌≡◌, ◌≢◌, ◌∙◌, ℕ, Bool, true, false, ◌&&◌, List, [], ◌∷◌, ◌++◌, drop, length, sym, refl, ap, append_assoc}
use Rattle.octet_state.specs.declared.act.Act.{Act}
use Rattle.octet_state.specs.declared.act.Act.TheVariants.{Pass}
use Rattle.octet_state.specs.declared.state_word.StateWord.{StateWord}
use Rattle.octet_state.specs.Words.{unpacked_state}
use Rattle.octet_state.specs.Table.{decided}
use Rattle.octet_state.specs.Steps.{ToLoad, state_in}
use Rattle.octet_state.specs.NextStep.{access_of}
use Rattle.octet_rule.specs.Views.{SeatView, Taken}
use Rattle.octet_rule.specs.Entering.{IsMadeAtOnce, IsLoaded}
use Rattle.octet_heap.specs.declared.pending_access.PendingAccess.{PendingAccess}
use Rattle.octet_heap.specs.declared.poll.Poll.{Poll}
use Rattle.octet_heap.specs.OwnersPath.{steps_since}
use Rattle.octet_heap.specs.Polls.{Comes}
use Rattle.octet_heap.specs.SlowPath.{is_idle, is_pass, passes_by, is_fast}
use Rattle.octet_heap.proofs.polls.Paths.{dropped}
use Rattle.octet_heap.proofs.lemmas.Walks.{after_more}
use Rattle.octet_heap.proofs.polls.Polled.{trail_after}

-- what the state of a load decides
abbrev decides : PendingAccess → SeatView → ℕ → Bool
decides access v word = is_pass (decided (state_in (unpacked_state word)) v.number access.mode v.thread.count)

by_first : (access : PendingAccess) (v w : SeatView) (first : Taken) (more : List Taken) → w.trail ≡ v.trail ++ first ∷ more → passes_by access v (steps_since v w) ≡ decides access v first.word
by_first access v w first more trail = ap (λ (l : List Taken). passes_by access v (drop (length v.trail) l)) trail ∙ ap (passes_by access v) (dropped v.trail (first ∷ more))

pub made_passes : (access : PendingAccess) (v : SeatView) (told : ℕ) (w : SeatView) → IsMadeAtOnce access.object access.mode access.value v told w → true ≡ passes_by access v (steps_since v w)
made_passes access v told w at_once = let load : Taken = record { kind = ToLoad access.object access.mode; word = at_once.word } in
    let on_cell : Taken = record { kind = access_of access.mode access.value; word = told } in
    sym (by_first access v w load (on_cell ∷ [])
    (ap (λ (x : SeatView). x.trail) at_once.accesses.moves ∙ (ap (λ (x : SeatView). x.trail ++ on_cell ∷ []) at_once.loads.moves ∙ append_assoc v.trail (load ∷ []) (on_cell ∷ [])))
    ∙ ap is_pass at_once.says)

not_pass : (act : Act) → act ≢ Pass → is_pass act ≡ false
not_pass Pass waits = absurd (waits refl)
not_pass _ waits = refl

module _ (access : PendingAccess) (v u : SeatView) (word : ℕ) (state : StateWord) (act : Act) (alone : IsLoaded access.object access.mode v word state act u) where
  abbrev load : Taken
  load = record { kind = ToLoad access.object access.mode; word = word }

  -- what the table says is not to pass
  waits : decides access v word ≡ false
  waits = ap (λ (s : StateWord). is_pass (decided s v.number access.mode v.thread.count)) (ap state_in alone.holds) ∙ (ap is_pass (sym alone.says) ∙ not_pass act alone.waits)

  trail : u.trail ≡ v.trail ++ load ∷ []
  trail = ap (λ (x : SeatView). x.trail) alone.loads.moves

  -- by the load alone
  pub load_waits : false ≡ passes_by access v (steps_since v u)
  load_waits = sym (by_first access v u load [] trail ∙ waits)

  -- and by the steps after it
  pub more_waits : (w : SeatView) (answer : Poll) (n : ℕ) → Comes access u answer n w → false ≡ passes_by access v (steps_since v w)
  more_waits w answer n c = let more = c.going ++ c.last ∷ [] in
      sym (by_first access v w load more
      (ap (λ (x : SeatView). x.trail) (c.after ∙ sym (after_more c.going (c.last ∷ []) u)) ∙ (trail_after more u ∙ (ap (λ (l : List Taken). l ++ more) trail ∙ append_assoc v.trail (load ∷ []) more)))
      ∙ waits)

-- an on_cell that was loaded before is a slow one
pub loaded_before : (access : PendingAccess) (v : SeatView) (steps : List Taken) → is_idle v.thread.phase ≡ false → is_fast access v steps ≡ false
loaded_before access v steps is = ap (λ (idle : Bool). idle && passes_by access v steps) is

pub idle_fast : (access : PendingAccess) (v : SeatView) (steps : List Taken) → is_idle v.thread.phase ≡ true → is_fast access v steps ≡ passes_by access v steps
idle_fast access v steps is = ap (λ (idle : Bool). idle && passes_by access v steps) is
