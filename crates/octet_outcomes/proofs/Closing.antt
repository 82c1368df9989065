-- What was found has all ends of runs.
use Rattle.std.proofs.Common.{◌≡◌, ℕ, zero, suc, ◌<◌, ◌≤◌, ◌⊎◌, List, [], ◌∷◌, ◌++◌, length, get_or, refl, sym, ap, ap₂, map, subst, ◌∙◌, inl, inr, arith, Some, None, below_more}
use Rattle.std.specs.List.{Contains}
use Rattle.std.proofs.lemmas.List.Elements.{Contains-append_left}
use Rattle.std.proofs.lemmas.List.{length-map}
use Rattle.octet_model.specs.declared.command.Command.{Command}
use Rattle.octet_model.specs.declared.object.Object.{Object}
use Rattle.octet_model.specs.declared.script.Script.{Script}
use Rattle.octet_model.specs.Orders.{starting_heap}
use Rattle.octet_model.specs.Thread.{settled, starting_configuration}
use Rattle.octet_interp.specs.declared.program.Stand.{Stand}
use Rattle.octet_interp.specs.Standing.{ThreadProgram, stand_of}
use Rattle.octet_outcomes.specs.Rows.{Grows}
use Rattle.octet_outcomes.specs.Alike.{AreAlike, HasLike, Leads}
use Rattle.octet_outcomes.specs.Moments.{Moment, MomentsState, no_moment, next_moment, first_moment, start_of, AllDone}
use Rattle.octet_outcomes.specs.Runs.{Follows, IsReached, AreMomentsOf, AreProgramsOf, AreAllOutcomes, no_program}
use Rattle.octet_outcomes.specs.Searches.{AreEdges, AreLed, Extends, HasAlone}
use Rattle.octet_outcomes.proofs.Commuting.{Brought, Made, Left, brought, none_done}
use Rattle.octet_outcomes.proofs.Likeness.{like_refl, like_same, like_trans, done_like, run_like}
use Rattle.octet_outcomes.proofs.Naming.{grow_len, grow_at}

pub follows_on : (script : Script) (m between after : Moment) (picks : List ℕ) (thread : ℕ) → Follows script m picks between → thread < length script.threads → next_moment script between thread ≡ Some after → Follows script m (picks ++ thread ∷ []) after
follows_on script m between after [] thread is lt next = (lt, (after, subst (λ (k : Moment). next_moment script k thread ≡ Some after) is next, refl))
follows_on script m between after (pick ∷ picks) thread f lt next = (f.0, (f.1.0, f.1.1, follows_on script f.1.0 between after picks thread f.1.2 lt next))

pub reached_on : (script : Script) (m after : Moment) (thread : ℕ) → IsReached script m → thread < length script.threads → next_moment script m thread ≡ Some after → IsReached script after
reached_on script m after thread r lt next = record { picks = r.picks ++ thread ∷ []; follows = follows_on script (first_moment script) m after r.picks thread r.follows lt next }

-- what is kept stays kept where a list grows
pub contains_more : {A : Type 0} (xs ys : List A) (x y : A) → Grows xs x ys → Contains xs y → Contains ys y
contains_more xs ys x y (inl e) there = subst (λ zs. Contains zs y) (sym e) there
contains_more xs ys x y (inr e) there = subst (λ zs. Contains zs y) (sym e) (Contains-append_left xs (x ∷ []) y there)

pub extends_by : (xs ys : List Moment) (m : Moment) → Grows xs m ys → Extends xs ys
extends_by xs ys m grows = (grow_len xs ys m grows, λ place lt. grow_at xs ys m place no_moment lt grows)

pub below_suc : (P : ℕ → Type 0) (n : ℕ) → ((k : ℕ) → k < n → P k) → P n → (k : ℕ) → k < suc n → P k
below_suc P n below here k lt = below_more P n below here k (omega arith)

-- what an edge leads to stays there
pub leads_more : (script : Script) (xs ys : List Moment) (m : Moment) (thread place : ℕ) → Extends xs ys → Leads script xs m thread place → Leads script ys m thread place
leads_more script xs ys m thread place more leads = record {
  there = omega (arith, leads.there, more.0);
  after = leads.after;
  next = leads.next;
  like = like_same script leads.after (get_or xs place no_moment) (get_or ys place no_moment) (sym (more.1 place leads.there)) leads.like;
}

pub edges_more : (script : Script) (xs ys : List Moment) (m : Moment) (edges : List ℕ) → Extends xs ys → AreEdges script xs m edges → AreEdges script ys m edges
edges_more script xs ys m edges more are = record { right = λ thread place lt is. leads_more script xs ys m thread place more (are.right thread place lt is); enough = are.enough }

pub led_more : (script : Script) (xs ys : List Moment) (rows : List (List ℕ)) → length rows ≤ length xs → Extends xs ys → AreLed script xs rows → AreLed script ys rows
led_more script xs ys rows within more led place lt =
    subst (λ (m : Moment). AreEdges script ys m (get_or rows place [])) (sym (more.1 place (omega (arith, lt, within))))
    (edges_more script xs ys (get_or xs place no_moment) (get_or rows place []) more (led place lt))

-- where a thread has made an access, an edge leads to a moment like the one after it
pub record Along (script : Script) (moments : List Moment) (after : Moment) : Type 0 where
  pub place : ℕ
  pub there : place < length moments
  pub like : AreAlike script after (get_or moments place no_moment)

along : (script : Script) (moments : List Moment) (m : Moment) (edges : List ℕ) (thread edge : ℕ) (after : Moment) → AreEdges script moments m edges → thread < length script.threads → get_or edges thread 0 ≡ edge
    → (edge ≡ 0 → ⊥) → next_moment script m thread ≡ Some after → Along script moments after
along script moments m edges thread zero after are lt is some next = absurd (some refl)
along script moments m edges thread (suc place) after are lt is some next =
    let leads = are.right thread place lt is in
    let same : leads.after ≡ after = let e : Some leads.after ≡ Some after = sym leads.next ∙ next in cc in
    record { place = place; there = leads.there; like = subst (λ (k : Moment). AreAlike script k (get_or moments place no_moment)) same leads.like }

-- where the edges of all threads count
pub along_any : (script : Script) (moments : List Moment) (m : Moment) (edges : List ℕ) (thread : ℕ) (after : Moment) → AreEdges script moments m edges
    → ((other : ℕ) → other < length script.threads → get_or edges other 0 ≡ 0 → next_moment script m other ≡ None)
    → thread < length script.threads → next_moment script m thread ≡ Some after → Along script moments after
along_any script moments m edges thread after are all lt next =
    along script moments m edges thread (get_or edges thread 0) after are lt refl (λ none. let no : None ≡ Some after = sym (all thread lt none) ∙ next in cc) next

-- where that of one counts which stands alone
pub along_alone : (script : Script) (moments : List Moment) (m : Moment) (edges : List ℕ) (after : Moment) (one : HasAlone script m edges) → AreEdges script moments m edges → next_moment script m one.thread ≡ Some after → Along script moments after
along_alone script moments m edges after one are next = along script moments m edges one.thread (get_or edges one.thread 0) after are one.there refl one.edge next

-- a run from a moment that was found, of no more than so many accesses, comes to an end like one that was found
module _ (script : Script) (moments : List Moment) (rows : List (List ℕ)) (led : AreLed script moments rows) (whole : length moments ≤ length rows) where
  abbrev Finding : ℕ → Type 0
  Finding n = (place : ℕ) (picks : List ℕ) (last : Moment) → place < length moments → length picks ≤ n → Follows script (get_or moments place no_moment) picks last → AllDone script last → HasLike script moments last

  found_on : (n : ℕ) → Finding n → (place thread : ℕ) (picks : List ℕ) (last : Moment) → place < length moments → length picks ≤ n → Follows script (get_or moments place no_moment) (thread ∷ picks) last → AllDone script last → HasLike script moments last
  found_on n fewer place thread picks last there few f done = by are.enough
    where
      are : AreEdges script moments (get_or moments place no_moment) (get_or rows place [])
      are = led place (omega (arith, there, whole))

      on : (after : Moment) (rest : List ℕ) → Along script moments after → length rest ≤ n → Follows script after rest last → HasLike script moments last
      on after rest a less follows =
          let r = run_like script rest after (get_or moments a.place no_moment) last a.like follows in
          let found = fewer a.place rest r.end a.there less r.follows (done_like script last r.end r.like done) in
          record { place = found.place; there = found.there; like = like_trans script last r.end (get_or moments found.place no_moment) r.like found.like }

      first : (one : HasAlone script (get_or moments place no_moment) (get_or rows place [])) → Brought script (get_or moments place no_moment) one.thread (thread ∷ picks) last → HasLike script moments last
      first one (Made rest after next follows len) = on after rest (along_alone script moments (get_or moments place no_moment) (get_or rows place []) after one are next) (omega (arith, len, few)) follows
      first one (Left after later next last_next follows) = absurd (none_done script last one.thread later one.there done last_next)

      by : ((other : ℕ) → other < length script.threads → get_or (get_or rows place []) other 0 ≡ 0 → next_moment script (get_or moments place no_moment) other ≡ None) ⊎ HasAlone script (get_or moments place no_moment) (get_or rows place [])
          → HasLike script moments last
      by (inl all) = on f.1.0 picks (along_any script moments (get_or moments place no_moment) (get_or rows place []) thread f.1.0 are all f.0 f.1.1) few f.1.2
      by (inr one) = first one (brought script one.thread (thread ∷ picks) (get_or moments place no_moment) last one.alone f)

  pub end_found : (n : ℕ) → Finding n
  end_found n place [] last there few is done = record { place = place; there = there; like = subst (λ (k : Moment). AreAlike script k (get_or moments place no_moment)) (sym is) (like_refl script (get_or moments place no_moment)) }
  end_found zero place (thread ∷ picks) last there few f done = absurd (omega (arith, few))
  end_found (suc n) place (thread ∷ picks) last there few f done = found_on n (end_found n) place thread picks last there (omega (arith, few)) f done

-- the moment in which all programs start is the first one
pub starts_first : (script : Script) (programs : List ThreadProgram) → AreProgramsOf script programs → map (start_of script.fuel) programs ≡ (first_moment script).stands
starts_first script programs of =
    go programs script.threads of.len (λ k lt. of.commands k lt)
  where
    go : (ps : List ThreadProgram) (threads : List (List Command)) → length ps ≡ length threads → ((k : ℕ) → k < length threads → (get_or ps k no_program).commands ≡ get_or threads k [])
        → map (start_of script.fuel) ps ≡ map (λ (commands : List Command). stand_of (settled commands (starting_configuration script.fuel))) threads
    go [] [] len same = refl
    go [] (t ∷ threads) len same = absurd (omega arith)
    go (p ∷ ps) [] len same = absurd (omega arith)
    go (p ∷ ps) (t ∷ threads) len same =
        ap₂ (λ (s : Stand) (ss : List Stand). s ∷ ss) (ap (λ (commands : List Command). stand_of (settled commands (starting_configuration script.fuel))) (same 0 (omega arith)))
        (go ps threads (omega arith) (λ k lt. same (suc k) (omega arith)))

-- the first moment alone is one of a script's
pub begins : (script : Script) (programs : List ThreadProgram) (heap : List ℕ) (s : MomentsState) → AreProgramsOf script programs → heap ≡ starting_heap script
    → s ≡ record { threads = length programs; objects = length heap; moments = record { stands = map (start_of script.fuel) programs; heap = heap } ∷ [] } → AreMomentsOf script s
begins script programs heap s of heaped is = record {
  threads = ap (λ (t : MomentsState). t.threads) is ∙ of.len;
  objects = ap (λ (t : MomentsState). t.objects) is ∙ ap length heaped ∙ length-map script.objects (λ (o : Object). o.start);
}

-- all outcomes are among the heaps, where these have the heap of each moment in which all threads are done
pub all_outcomes : (script : Script) (s : MomentsState) (rows heaps : List (List ℕ)) → AreLed script s.moments rows → length s.moments ≤ length rows → 0 < length s.moments → get_or s.moments 0 no_moment ≡ first_moment script
    → ((place : ℕ) → place < length s.moments → AllDone script (get_or s.moments place no_moment) → Contains heaps (get_or s.moments place no_moment).heap)
    → AreAllOutcomes script heaps
all_outcomes script s rows heaps led whole some first listed heap outcome =
    let there = end_found script s.moments rows led whole (length outcome.reached.picks) 0 outcome.reached.picks outcome.last some (omega arith)
    (subst (λ (m : Moment). Follows script m outcome.reached.picks outcome.last) (sym first) outcome.reached.follows) outcome.done in
    subst (λ (h : List ℕ). Contains heaps h) (sym there.like.heap ∙ outcome.leaves)
    (listed there.place there.there (done_like script outcome.last (get_or s.moments there.place no_moment) there.like outcome.done))
