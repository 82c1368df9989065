-- A worker does a task step by step.
use Rattle.std.proofs.Common.{◌≡◌, ◌∙◌, ℕ, Bool, true, false, List, [], ◌∷◌, ◌++◌, sym, refl, ap, subst, append_assoc}
use Rattle.std.specs.Prelude.{◌==◌, not, if◌then◌else◌}
use Rattle.octet_model.specs.declared.outcome.End.{End}
use Rattle.octet_interp.specs.declared.demand.Demand.TheVariants as demand
use Rattle.octet_state.specs.declared.phase.Phase.TheVariants.{Idle, Blocked}
use Rattle.octet_state.specs.declared.phase.Due.TheVariants.{Nothing, Answer}
use Rattle.octet_state.specs.Words.{unpacked_status}
use Rattle.octet_state.specs.Steps.{Kind, ToBlock, ToUnblock, ToGlance, ToAnswer}
use Rattle.octet_rule.specs.Views.{SeatView, Taken}
use Rattle.octet_rule.specs.Rule.{Steps}
use Rattle.octet_safe.specs.Replies.{AnswersOr, PassesSafePoint}
use Rattle.octet_heap.specs.Walks.{Task, next_step, after_steps, IsNext}
use Rattle.octet_heap.proofs.lemmas.Walks.{after_more, next_in, next_by, walks_more}
use Rattle.octet_threads.specs.Tasks.{task_of, GoesBy, Does}

-- the thread has taken its steps so far, none of which does the task
pub record HasGone (task : Task) (v w : SeatView) : Type 0 where
  pub going : List Taken
  pub goes : GoesBy task v going
  pub after : w ≡ after_steps going v
  pub trail : w.trail ≡ v.trail ++ going

abbrev GoesOn : Task → SeatView → Taken → Type 0
GoesOn task v taken = task.is_done_by taken.kind taken.word ≡ false

pub gone_on : (task : Task) (u v w : SeatView) → HasGone task u v → HasGone task v w → HasGone task u w
gone_on task u v w g h = record {
  going = g.going ++ h.going;
  goes = walks_more (GoesOn task) task u g.going h.going g.goes (subst (λ (x : SeatView). GoesBy task x h.going) g.after h.goes);
  after = h.after ∙ (ap (after_steps h.going) g.after ∙ sym (after_more g.going h.going u));
  trail = h.trail ∙ (ap (λ (l : List Taken). l ++ h.going) g.trail ∙ append_assoc u.trail g.going h.going);
}

-- steps on the way, and then the task is done
pub gone_and_done : (task : Task) (u v w : SeatView) → HasGone task u v → Does task v w → Does task u w
gone_and_done task u v w g d =
    let there = ap (after_steps d.going) g.after ∙ sym (after_more g.going d.going u) in
    let joined : (l : List Taken) → l ≡ d.going ++ d.last ∷ [] → g.going ++ l ≡ (g.going ++ d.going) ++ d.last ∷ [] = λ l is. ap (λ (x : List Taken). g.going ++ x) is ∙ sym (append_assoc g.going d.going (d.last ∷ [])) in record {
      going = g.going ++ d.going;
      last = d.last;
      goes = walks_more (GoesOn task) task u g.going d.going g.goes (subst (λ (x : SeatView). GoesBy task x d.going) g.after d.goes);
      is_next = subst (λ (x : SeatView). IsNext task x d.last) there d.is_next;
      does = d.does;
      after = d.after ∙ (ap (after_steps (d.going ++ d.last ∷ [])) g.after ∙ (sym (after_more g.going (d.going ++ d.last ∷ []) u) ∙ ap (λ (l : List Taken). after_steps l u) (joined (d.going ++ d.last ∷ []) refl)));
      trail = d.trail ∙ (ap (λ (l : List Taken). l ++ (d.going ++ d.last ∷ [])) g.trail ∙ (append_assoc u.trail g.going (d.going ++ d.last ∷ []) ∙ ap (λ (l : List Taken). u.trail ++ l) (joined (d.going ++ d.last ∷ []) refl)));
    }

trail_of : (v w : SeatView) (k : Kind) (told : ℕ) → Steps k v told w → w.trail ≡ v.trail ++ record { kind = k; word = told } ∷ []
trail_of v w k told took = ap (λ (x : SeatView). x.trail) took.moves

pub gone_one : (task : Task) (v w : SeatView) (k : Kind) (told : ℕ) → Steps k v told w → k ≡ next_step task v → task.is_done_by k told ≡ false → HasGone task v w
gone_one task v w k told took next is_not = record {
  going = record { kind = k; word = told } ∷ [];
  goes = (next_by task v w k told took next, is_not, tt);
  after = took.moves;
  trail = trail_of v w k told took;
}

pub done_by : (task : Task) (v w : SeatView) (k : Kind) (told : ℕ) → Steps k v told w → k ≡ next_step task v → task.is_done_by k told ≡ true → Does task v w
done_by task v w k told took next is = record {
  going = [];
  last = record { kind = k; word = told };
  goes = tt;
  is_next = next_by task v w k told took next;
  does = is;
  after = took.moves;
  trail = trail_of v w k told took;
}

-- a block and an unblock
pub pauses : (u v w : SeatView) (found there : ℕ) → u.thread.due ≡ Nothing → u.thread.phase ≡ Idle → Steps (ToBlock false) u found v → Steps ToUnblock v there w → Does (task_of demand.Pause) u w
pauses u v w found there due phase blocks unblocks =
    let task = task_of demand.Pause in
    let owes : v.thread.due ≡ Nothing = ap (λ (x : SeatView). x.thread.due) blocks.moves in
    let stands : v.thread.phase ≡ Blocked = ap (λ (x : SeatView). x.thread.phase) blocks.moves in
    gone_and_done task u v w (gone_one task u v (ToBlock false) found blocks (sym (next_in task u Nothing Idle due phase)) refl)
    (done_by task v w ToUnblock there unblocks (sym (next_in task v Nothing Blocked owes stands)) refl)

-- a block for good
pub blocks_at_end : (end : End) (u v : SeatView) (found : ℕ) → u.thread.due ≡ Nothing → u.thread.phase ≡ Idle → Steps (ToBlock false) u found v → Does (task_of (demand.Ended end)) u v
blocks_at_end end u v found due phase blocks = let task = task_of (demand.Ended end) in done_by task u v (ToBlock false) found blocks (sym (next_in task u Nothing Idle due phase)) refl

-- a safe point: a glance, and an answer where it found a bit
pub safes : (u w : SeatView) (answered : Bool) → u.thread.due ≡ Nothing → u.thread.phase ≡ Idle → PassesSafePoint u answered w → Does (task_of demand.Safe) u w
safes u w answered due phase point = go ((unpacked_status point.found).asked == 0) refl answered point.by_bits point.answers
  where
    task : Task
    task = task_of demand.Safe

    next : ToGlance ≡ next_step task u
    next = sym (next_in task u Nothing Idle due phase)

    go : (none : Bool) → ((unpacked_status point.found).asked == 0) ≡ none → (b : Bool) → b ≡ not ((unpacked_status point.found).asked == 0) → AnswersOr b point.between w → Does task u w
    go true is false by_bits same = subst (λ (x : SeatView). Does task u x) (sym same) (done_by task u point.between ToGlance point.found point.glances next is)
    go false is true by_bits answer =
        let owes : point.between.thread.due ≡ Answer = ap (λ (x : SeatView). x.thread.due) point.glances.moves ∙ ap (λ (b : Bool). if b then Nothing else Answer) is in
        gone_and_done task u point.between w (gone_one task u point.between ToGlance point.found point.glances next is)
        (done_by task point.between w ToAnswer answer.0 answer.1 (sym (next_in task point.between Answer point.between.thread.phase owes refl)) refl)
    go true is true by_bits same = absurd (let f : true ≡ false = by_bits ∙ ap not is in cc)
    go false is false by_bits same = absurd (let f : false ≡ true = by_bits ∙ ap not is in cc)
