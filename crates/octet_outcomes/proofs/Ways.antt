-- The steps of a search lead to its moments.
use Rattle.std.proofs.Common.{◌≡◌, ℕ, zero, suc, ◌+◌, ◌<◌, ◌≤◌, List, [], ◌∷◌, ◌++◌, length, set, get_or, refl, sym, ap, ap₂, map, subst, ◌∙◌, inl, inr, arith, length-append, length-take-le, take, get_or-take, Option, Some, None, IfSome, Result, Ok, Err, IfOk, true, below_more}
use Rattle.octet_model.specs.declared.list.OutOfMemory.{OutOfMemory}
use Rattle.std.proofs.lemmas.List.{get_or_append_left}
use Rattle.std.proofs.lemmas.Bool.{eq-eqb}
use Rattle.octet_model.specs.declared.command.Command.{Command}
use Rattle.octet_model.specs.declared.script.Script.{Script}
use Rattle.octet_model.specs.Orders.{commands_of, starting_heap}
use Rattle.octet_interp.specs.declared.program.Stand.{Stand}
use Rattle.octet_interp.specs.Standing.{ThreadProgram}
use Rattle.octet_outcomes.specs.declared.tree.Step.{Step}
use Rattle.octet_outcomes.specs.Rows.{Grows}
use Rattle.octet_interp.specs.declared.demand.Demand.{Demand}
use Rattle.octet_interp.specs.Standing.{access_at, stand_past}
use Rattle.octet_outcomes.specs.Ahead.{Finds, FindsNext}
use Rattle.octet_outcomes.specs.Alike.{AreAlike, Leads}
use Rattle.octet_outcomes.specs.Moments.{Moment, MomentsState, no_moment, stand_in, stand_after, heap_after, heap_past, value_given, moved, next_moment, first_moment, start_of, AddsMoment}
use Rattle.octet_outcomes.specs.Runs.{AreMomentsOf, AreProgramsOf}
use Rattle.octet_outcomes.specs.Alone.{IsAlone}
use Rattle.octet_outcomes.specs.Searches.{is_followed, AreEdges, AreFound, AreLed, Extends, IsEdge, IsNumberOf, IsStep, MayBeEdge, no_step}
use Rattle.octet_outcomes.proofs.Closing.{below_suc, extends_by, leads_more, starts_first}
use Rattle.octet_outcomes.proofs.Likeness.{accessed, like_same, like_sym, like_trans, next_accessed, run_like, stood_like, RunLike}
use Rattle.octet_outcomes.proofs.Naming.{grow_at}

pub at_end : {A : Type 0} (xs : List A) (x d : A) (n : ℕ) → length xs ≡ n → get_or (xs ++ x ∷ []) n d ≡ x
at_end [] x d zero is = refl
at_end [] x d (suc n) is = absurd (omega arith)
at_end (y ∷ ys) x d zero is = absurd (omega arith)
at_end (y ∷ ys) x d (suc n) is = at_end ys x d n (omega arith)

-- steps of which the first so many are as before lead to the same moments
pub found_noted : (script : Script) (moments : List Moment) (many : ℕ) (steps noted rest : List Step) → many ≡ length moments → AreFound script moments steps → noted ≡ take many steps ++ rest → AreFound script moments noted
found_noted script moments many steps noted rest all of is =
    let kept : length (take many steps) ≡ many = length-take-le many steps (omega (arith, all, of.len)) in
    record {
      len = omega (arith, ap length is, length-append (take many steps) rest, kept, all);
      some = of.some;
      first = of.first;
      made = λ k some below.
          let same : get_or noted k no_step ≡ get_or steps k no_step =
          ap (λ (ss : List Step). get_or ss k no_step) is ∙ get_or_append_left (take many steps) rest no_step k (omega (arith, kept, below, all)) ∙ get_or-take many steps k no_step (omega (arith, below, all)) in
          subst (λ (s : Step). IsStep script moments k s) (sym same) (of.made k some below);
    }

-- the step that is noted for the next moment
pub noted_next : (count many : ℕ) (steps noted : List Step) (step : Step) → many ≡ count → count ≤ length steps → noted ≡ take many steps ++ step ∷ [] → (get_or noted count no_step ≡ step) × (count < length noted)
noted_next count many steps noted step all few is =
    let kept : length (take many steps) ≡ count = length-take-le many steps (omega (arith, all, few)) ∙ all in (
      ap (λ (ss : List Step). get_or ss count no_step) is ∙ at_end (take many steps) step no_step count kept,
      omega (arith, ap length is, length-append (take many steps) (step ∷ []), kept),
    )

-- one more moment, which the step that was noted leads to
module _ (script : Script) (before after : List Moment) (m : Moment) (noted : List Step) (place thread : ℕ)
    (of : AreFound script before noted) (there : place < length before) (lt : thread < length script.threads)
    (leads : Leads script after (get_or before place no_moment) thread (length before))
    (grown : after ≡ before ++ m ∷ []) (next : get_or noted (length before) no_step ≡ record { from = place; thread = thread }) (room : length before < length noted) where
  lengths : length after ≡ length before + 1
  lengths = omega (arith, ap length grown, length-append before (m ∷ []))

  extends : Extends before after
  extends = extends_by before after m (inr grown)

  at_place : (k : ℕ) → k < length before → get_or before k no_moment ≡ get_or after k no_moment
  at_place k below = sym (extends.1 k below)

  earlier_step : (k : ℕ) → k < length before → 0 < k → IsStep script after k (get_or noted k no_step)
  earlier_step k below some =
      let s = of.made k some below in
      let old : Step = get_or noted k no_step in
      record {
        earlier = s.earlier;
        thread = s.thread;
        leads = subst (λ (n : Moment). Leads script after n old.thread k) (at_place old.from (omega (arith, s.earlier, below))) (leads_more script before after (get_or before old.from no_moment) old.thread k extends s.leads);
      }

  new_step : IsStep script after (length before) (get_or noted (length before) no_step)
  new_step =
      let is : IsStep script after (length before) (record { from = place; thread = thread }) = record {
        earlier = there;
        thread = lt;
        leads = subst (λ (n : Moment). Leads script after n thread (length before)) (at_place place there) leads;
      } in
      subst (λ (t : Step). IsStep script after (length before) t) (sym next) is

  pub found_more : AreFound script after noted
  found_more = record {
    len = omega (arith, lengths, room);
    some = omega (arith, lengths);
    first = extends.1 0 of.some ∙ of.first;
    made = λ k some below. below_more (λ (n : ℕ). 0 < n → IsStep script after n (get_or noted n no_step)) (length before) earlier_step (λ _. new_step) k (omega (arith, lengths, below)) some;
  }

-- what one access of a thread adds
pub record Followed (script : Script) (before after : MomentsState) (m : Moment) (thread : ℕ) (found : Option ℕ) (noted : List Step) : Type 0 where
  pub moments : AreMomentsOf script after
  pub ways : AreFound script after.moments noted
  pub extends : Extends before.moments after.moments
  pub edge : IsEdge script after.moments m thread (elim found [ None ↦ 0 | Some place ↦ suc place ])

module _ (script : Script) (before after : MomentsState) (place thread : ℕ) (noted : List Step)
    (moments : AreMomentsOf script before) (of : AreFound script before.moments noted) (there : place < length before.moments) (lt : thread < length script.threads)
    (next : get_or noted (length before.moments) no_step ≡ record { from = place; thread = thread }) (room : length before.moments < length noted) where
  abbrev here : Moment
  here = get_or before.moments place no_moment

  -- the thread makes no access
  stays : next_moment script here thread ≡ None → after ≡ before → Followed script before after here thread None noted
  stays none e = record {
    moments = subst (λ (t : MomentsState). AreMomentsOf script t) (sym e) moments;
    ways = subst (λ (t : MomentsState). AreFound script t.moments noted) (sym e) of;
    extends = subst (λ (t : MomentsState). Extends before.moments t.moments) (sym e) (omega arith, λ k below. refl);
    edge = record { none = λ _. none; right = λ p no. absurd (omega (arith, no)) };
  }

  -- it leads to a moment that was there, or to a new one
  adds : (next_one kept : Moment) (found : ℕ) → next_moment script here thread ≡ Some next_one → AreAlike script next_one kept → AddsMoment before kept found after → Followed script before after here thread (Some found) noted
  adds next_one kept found is like a = record {
    moments = record { threads = a.same_threads ∙ moments.threads; objects = a.same_objects ∙ moments.objects };
    ways = go a.grows;
    extends = extends_by before.moments after.moments kept a.grows;
    edge = record { none = λ no. absurd (omega (arith, no)); right = λ p e. let q : found ≡ p = omega (arith, e) in subst (λ (n : ℕ). Leads script after.moments (get_or before.moments place no_moment) thread n) q leads };
  }
    where
      leads : Leads script after.moments (get_or before.moments place no_moment) thread found
      leads = record { there = a.there; after = next_one; next = is; like = like_same script next_one kept (get_or after.moments found no_moment) (sym a.is) like }

      go : Grows before.moments kept after.moments → AreFound script after.moments noted
      go (inl e) = subst (λ (ms : List Moment). AreFound script ms noted) (sym e) of
      go (inr e) =
          let len : length after.moments ≡ length before.moments + 1 = omega (arith, ap length e, length-append before.moments (kept ∷ [])) in
          let at : get_or after.moments (length before.moments) no_moment ≡ kept = ap (λ (ms : List Moment). get_or ms (length before.moments) no_moment) e ∙ at_end before.moments kept no_moment (length before.moments) refl in
          found_more script before.moments after.moments kept noted place thread of there lt
          (record { there = omega (arith, len); after = next_one; next = is; like = like_same script next_one kept (get_or after.moments (length before.moments) no_moment) (sym at) like }) e
          next room

  pub followed : (found : Option ℕ) (commands : List Command) → commands ≡ commands_of script thread → FindsNext commands script.fuel before here thread found after → Followed script before after here thread found noted
  followed found commands is finds =
      go (access_at (commands_of script thread) (stand_in here thread)) found refl (subst (λ (cs : List Command). FindsNext cs script.fuel before here thread found after) is finds)
    where
      go : (o : Option Demand) (found : Option ℕ) → access_at (commands_of script thread) (stand_in here thread) ≡ o
          → Finds (commands_of script thread) script.fuel before here thread (heap_after o here.heap) (stand_after (commands_of script thread) script.fuel (stand_in here thread) here.heap o) found after
          → Followed script before after here thread found noted
      go None None at e = stays (ap (λ (o : Option Demand). moved here thread (heap_after o here.heap) (stand_after (commands_of script thread) script.fuel (stand_in here thread) here.heap o)) at) e
      go (Some demand) (Some found) at a =
          adds (accessed script here thread demand) (record { stands = set here.stands thread a.kept; heap = heap_past demand here.heap }) found (next_accessed script here thread demand at)
          (stood_like script here thread (stand_past (commands_of script thread) script.fuel (stand_in here thread) (value_given demand here.heap)) a.kept (heap_past demand here.heap) a.alike) a.adds
      go None (Some found) at never = absurd never
      go (Some demand) None at never = absurd never

-- the first moment alone, with any one step
pub found_first : (script : Script) (moments : List Moment) (steps : List Step) → length moments ≡ 1 → get_or moments 0 no_moment ≡ first_moment script → length steps ≡ 1 → AreFound script moments steps
found_first script moments steps one first len = record {
  len = omega (arith, one, len);
  some = omega (arith, one);
  first = first;
  made = λ k some below. absurd (omega (arith, one, some, below));
}

-- the first moment alone, as the programs start
pub found_begun : (script : Script) (programs : List ThreadProgram) (heap : List ℕ) (s : MomentsState) (steps : List Step) → AreProgramsOf script programs → heap ≡ starting_heap script
    → s ≡ record { threads = length programs; objects = length heap; moments = record { stands = map (start_of script.fuel) programs; heap = heap } ∷ [] } → length steps ≡ 1 → AreFound script s.moments steps
found_begun script programs heap s steps of heaped is one =
    let m : record { stands = map (start_of script.fuel) programs; heap = heap } ≡ first_moment script = ap₂ (λ (ss : List Stand) (h : List ℕ). record { stands = ss; heap = h }) (starts_first script programs of) heaped in
    let all : s.moments ≡ first_moment script ∷ [] = ap (λ (t : MomentsState). t.moments) is ∙ ap (λ (k : Moment). k ∷ []) m in
    found_first script s.moments steps (ap length all) (ap (λ (ms : List Moment). get_or ms 0 no_moment) all) one

-- one step more in front
pub way_on : (script : Script) (moments : List Moment) (place : ℕ) (taken : Step) (picks : List ℕ) (end : Moment) → IsStep script moments place taken → RunLike script (get_or moments place no_moment) picks end
    → RunLike script (get_or moments taken.from no_moment) (taken.thread ∷ picks) end
way_on script moments place taken picks end is run =
    let r = run_like script picks (get_or moments place no_moment) is.leads.after run.end (like_sym script is.leads.after (get_or moments place no_moment) is.leads.like) run.follows in
    record { end = r.end; follows = (is.thread, (is.leads.after, is.leads.next, r.follows)); like = like_trans script end run.end r.end run.like r.like }

-- an edge with the number of what was found
numbered_edge : (script : Script) (moments : List Moment) (m : Moment) (thread number : ℕ) (found : Option ℕ) → IsNumberOf found number → IsEdge script moments m thread (elim found [ None ↦ 0 | Some place ↦ suc place ]) → IsEdge script moments m thread number
numbered_edge script moments m thread number None is edge = subst (λ (n : ℕ). IsEdge script moments m thread n) (sym is) edge
numbered_edge script moments m thread number (Some place) is edge = subst (λ (n : ℕ). IsEdge script moments m thread n) (sym is) edge

pub numbered : (script : Script) (moments : List Moment) (m : Moment) (thread : ℕ) (found : Option ℕ) (result : Result ℕ OutOfMemory) → IfOk result (IsNumberOf found)
    → IsEdge script moments m thread (elim found [ None ↦ 0 | Some place ↦ suc place ]) → IfOk result (IsEdge script moments m thread)
numbered script moments m thread found (Ok number) is edge = numbered_edge script moments m thread number found is edge
numbered script moments m thread found (Err none) is edge = tt

-- what is said of each item is said of one more at the end
pub pushed : {A : Type 0} (xs more : List A) (n : ℕ) (x d : A) (P : ℕ → A → Type 0) → length xs ≡ n → more ≡ xs ++ x ∷ [] → P n x → ((k : ℕ) → k < n → P k (get_or xs k d)) → (k : ℕ) → k < suc n → P k (get_or more k d)
pushed {A = A} xs more n x d P len grown here before =
    below_suc (λ k. P k (get_or more k d)) n
    (λ k lt. subst (λ (b : A). P k b) (sym (grow_at xs more x k d (omega (arith, lt, len)) (inr grown))) (before k lt))
    (subst (λ (b : A). P n b) (sym (ap (λ (ys : List A). get_or ys n d) grown ∙ at_end xs x d n len)) here)

-- edges of the first so many threads from a moment, where one thread may stand alone
pub record RowTo (script : Script) (moments : List Moment) (m : Moment) (only : Option ℕ) (many : ℕ) (row : List ℕ) : Type 0 where
  pub len : length row ≡ many
  pub alone : IfSome only (IsAlone script m)
  pub right : (thread place : ℕ) → thread < many → get_or row thread 0 ≡ suc place → Leads script moments m thread place
  pub none : (thread : ℕ) → thread < many → is_followed only thread ≡ true → get_or row thread 0 ≡ 0 → next_moment script m thread ≡ None

pub row_more : (script : Script) (before after : List Moment) (place : ℕ) (only : Option ℕ) (many edge : ℕ) (row more : List ℕ) → place < length before → Extends before after
    → MayBeEdge script after (get_or before place no_moment) only many edge → more ≡ row ++ edge ∷ []
    → RowTo script before (get_or before place no_moment) only many row → RowTo script after (get_or after place no_moment) only (suc many) more
row_more script before after place only many edge row more there extends may grown to =
    subst (λ (m : Moment). RowTo script after m only (suc many) more) (sym (extends.1 place there)) (record {
      len = omega (arith, ap length grown, length-append row (edge ∷ []), to.len);
      alone = to.alone;
      right = λ thread next lt.
          pushed row more many edge 0 (λ (k : ℕ) (e : ℕ). e ≡ suc next → Leads script after (get_or before place no_moment) k next) to.len grown (may.right next)
          (λ k below is. leads_more script before after (get_or before place no_moment) k next extends (to.right k next below is)) thread lt;
      none = pushed row more many edge 0 (λ (k : ℕ) (e : ℕ). is_followed only k ≡ true → e ≡ 0 → next_moment script (get_or before place no_moment) k ≡ None) to.len grown may.none to.none;
    })

pub row_edges : (script : Script) (moments : List Moment) (m : Moment) (only : Option ℕ) (many : ℕ) (row : List ℕ) → many ≡ length script.threads → IfSome only (λ thread. thread < length script.threads) → RowTo script moments m only many row → AreEdges script moments m row
row_edges script moments m None many row all there to = record {
  right = λ thread place lt. to.right thread place (omega (arith, lt, all));
  enough = inl (λ thread lt. to.none thread (omega (arith, lt, all)) refl);
}
row_edges script moments m (Some only) many row all there to = record {
  right = λ thread place lt. to.right thread place (omega (arith, lt, all));
  enough = inr (record {
    thread = only;
    there = there;
    alone = to.alone;
    edge = λ zero_edge.
        let stands : next_moment script m only ≡ None = to.none only (omega (arith, there, all)) (eq-eqb only only refl) zero_edge in
        let no : None ≡ Some (accessed script m only to.alone.demand) = sym stands ∙ next_accessed script m only to.alone.demand to.alone.at in
        cc;
  });
}

-- the edges of one more moment
pub led_push : (script : Script) (moments : List Moment) (rows : List (List ℕ)) (row : List ℕ) (place : ℕ) → place ≡ length rows → AreLed script moments rows → AreEdges script moments (get_or moments place no_moment) row → AreLed script moments (rows ++ row ∷ [])
led_push script moments rows row place is led edges k lt =
    pushed rows (rows ++ row ∷ []) (length rows) row [] (λ (n : ℕ) (r : List ℕ). AreEdges script moments (get_or moments n no_moment) r) refl refl
    (subst (λ (n : ℕ). AreEdges script moments (get_or moments n no_moment) row) is edges) led k (omega (arith, lt, length-append rows (row ∷ [])))
