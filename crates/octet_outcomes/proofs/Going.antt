-- Where runs can come to an end, and where they cannot.
use Rattle.std.proofs.Common.{◌≡◌, ◌⊎◌, ℕ, Bool, true, false, zero, suc, pred, ◌<◌, ◌≤◌, List, [], ◌∷◌, length, set, get_or, refl, sym, ap, subst, ◌∙◌, inl, inr, arith, Some, None}
use Rattle.std.proofs.lemmas.Bool.{cases_lt}
use Rattle.octet_model.specs.declared.script.Script.{Script}
use Rattle.octet_outcomes.specs.declared.search.Searched.{Searched}
use Rattle.octet_outcomes.specs.declared.stuck.Stuck.{Stuck}
use Rattle.octet_outcomes.specs.Alike.{AreAlike, Leads}
use Rattle.octet_outcomes.specs.Moments.{Moment, no_moment, next_moment, AllDone}
use Rattle.octet_outcomes.specs.Runs.{Follows}
use Rattle.octet_outcomes.specs.Searches.{AreEdges, HasAlone, IsSearched}
use Rattle.octet_outcomes.specs.Stuck.{left_in, IsCounted, IsSettled, IsStuck, IsWhole, LeadsToEnd}
use Rattle.octet_outcomes.proofs.Closing.{below_suc, along_alone, along_any, Along}
use Rattle.octet_outcomes.proofs.Commuting.{brought, none_done, Brought, Made, Left}
use Rattle.octet_outcomes.proofs.Likeness.{done_like, like_sym, run_like}

suc_pred : (n : ℕ) → 0 < n → suc (pred n) ≡ n
suc_pred zero lt = absurd (omega arith)
suc_pred (suc n) lt = refl

-- one access more at the front
pub leads_on : (script : Script) (m after : Moment) (thread : ℕ) → thread < length script.threads → next_moment script m thread ≡ Some after → LeadsToEnd script after → LeadsToEnd script m
leads_on script m after thread lt next leads = record { last = leads.last; picks = thread ∷ leads.picks; follows = (lt, (after, next, leads.follows)); done = leads.done }

-- a moment like one that leads to an end does so too
pub leads_like : (script : Script) (m k : Moment) → AreAlike script m k → LeadsToEnd script k → LeadsToEnd script m
leads_like script m k alike leads =
    let r = run_like script leads.picks k m leads.last (like_sym script m k alike) leads.follows in
    record { last = r.end; picks = leads.picks; follows = r.follows; done = done_like script leads.last r.end r.like leads.done }

-- a moment leads to an end where an access leads to one like a moment that does
pub leads_by : (script : Script) (moments : List Moment) (m : Moment) (thread place : ℕ) → thread < length script.threads → Leads script moments m thread place → LeadsToEnd script (get_or moments place no_moment) → LeadsToEnd script m
leads_by script moments m thread place lt leads ends = leads_on script m leads.after thread lt leads.next (leads_like script leads.after (get_or moments place no_moment) leads.like ends)

-- then fewer are left
pub left_fewer : (marks : List Bool) (place : ℕ) → place < length marks → get_or marks place false ≡ false → left_in marks ≡ suc (left_in (set marks place true))
left_fewer [] place lt is = absurd (omega arith)
left_fewer (false ∷ marks) zero lt is = refl
left_fewer (true ∷ marks) zero lt is = absurd cc
left_fewer (false ∷ marks) (suc place) lt is = ap suc (left_fewer marks place (omega arith) is)
left_fewer (true ∷ marks) (suc place) lt is = left_fewer marks place (omega arith) is

pub left_few : (marks : List Bool) → left_in marks ≤ length marks
left_few [] = omega arith
left_few (false ∷ marks) = omega (arith, left_few marks)
left_few (true ∷ marks) = omega (arith, left_few marks)

pub none_left : (marks : List Bool) → left_in marks ≡ 0 → (k : ℕ) → k < length marks → get_or marks k false ≡ true
none_left [] none k lt = absurd (omega arith)
none_left (false ∷ marks) none k lt = absurd (omega arith)
none_left (true ∷ marks) none zero lt = refl
none_left (true ∷ marks) none (suc k) lt = none_left marks none k (omega arith)

-- what was found, with marks that are settled
module _ (script : Script) (found : Searched) (marks : List Bool) (of : IsSearched script found) (settled : IsSettled script found marks) where
  abbrev moments : List Moment
  moments = found.moments.moments

  abbrev m_at : ℕ → Moment
  m_at place = get_or found.moments.moments place no_moment

  abbrev row_at : ℕ → List ℕ
  row_at place = get_or found.edges.rows place []

  -- one that is not marked was gone on from
  gone_on : (place : ℕ) → place < length marks → get_or marks place false ≡ false → place < length found.edges.rows
  gone_on place lt unmarked = elim (cases_lt place (length found.edges.rows)) [
    | inl below ↦ below
    | inr past ↦ absurd (let no : true ≡ false = sym (settled.right.rest place lt past) ∙ unmarked in cc)
  ]

  -- no run of so few accesses comes from a moment that is not marked to an end
  abbrev NoEnd : ℕ → Type 0
  NoEnd n = (place : ℕ) (picks : List ℕ) (last : Moment) → place < length marks → get_or marks place false ≡ false → length picks ≤ n → Follows script (m_at place) picks last → AllDone script last → ⊥

  no_end_on : (n : ℕ) → NoEnd n → (place thread : ℕ) (picks : List ℕ) (last : Moment) → place < length marks → get_or marks place false ≡ false → length picks ≤ n → Follows script (m_at place) (thread ∷ picks) last → AllDone script last → ⊥
  no_end_on n fewer place thread picks last there unmarked few f done = by are.enough
    where
      are : AreEdges script moments (m_at place) (row_at place)
      are = of.led place (gone_on place there unmarked)

      on : (other edge : ℕ) (after : Moment) (rest : List ℕ) → other < length script.threads → get_or (row_at place) other 0 ≡ edge → (edge ≡ 0 → ⊥) → next_moment script (m_at place) other ≡ Some after
          → length rest ≤ n → Follows script after rest last → ⊥
      on other zero after rest lt is some next less follows = some refl
      on other (suc to) after rest lt is some next less follows =
          let leads = are.right other to lt is in
          let same : after ≡ leads.after = let e : Some after ≡ Some leads.after = sym next ∙ leads.next in cc in
          let r = run_like script rest leads.after (m_at to) last leads.like (subst (λ (k : Moment). Follows script k rest last) same follows) in
          fewer to rest r.end (omega (arith, leads.there, settled.right.len)) (settled.apart place there unmarked other to lt is) less r.follows (done_like script last r.end r.like done)

      first : (one : HasAlone script (m_at place) (row_at place)) → Brought script (m_at place) one.thread (thread ∷ picks) last → ⊥
      first one (Made rest after next follows len) = on one.thread (get_or (row_at place) one.thread 0) after rest one.there refl one.edge next (omega (arith, len, few)) follows
      first one (Left after later next last_next follows) = none_done script last one.thread later one.there done last_next

      by : ((other : ℕ) → other < length script.threads → get_or (row_at place) other 0 ≡ 0 → next_moment script (m_at place) other ≡ None) ⊎ HasAlone script (m_at place) (row_at place) → ⊥
      by (inl all) = on thread (get_or (row_at place) thread 0) f.1.0 picks f.0 refl (λ none. let no : None ≡ Some f.1.0 = sym (all thread f.0 none) ∙ f.1.1 in cc) f.1.1 few f.1.2
      by (inr one) = first one (brought script one.thread (thread ∷ picks) (m_at place) last one.alone f)

  pub no_end : (n : ℕ) → NoEnd n
  no_end n place [] last there unmarked few is done = let no : true ≡ false = sym (settled.right.ends place there (subst (λ (k : Moment). AllDone script k) is done)) ∙ unmarked in cc
  no_end zero place (thread ∷ picks) last there unmarked few f done = omega (arith, few)
  no_end (suc n) place (thread ∷ picks) last there unmarked few f done = no_end_on n (no_end n) place thread picks last there unmarked (omega (arith, few)) f done

  pub stuck_at : (place : ℕ) → place < length marks → get_or marks place false ≡ false → (m : Moment) → AreAlike script m (m_at place) → IsStuck script m
  stuck_at place there unmarked m alike picks last follows done =
      let r = run_like script picks m (m_at place) last alike follows in
      no_end (length picks) place picks r.end there unmarked (omega arith) r.follows (done_like script last r.end r.like done)

-- where all was found and marked, each run can go on to an end
module _ (script : Script) (found : Searched) (of : IsSearched script found) (whole : IsWhole found) (all : (place : ℕ) → place < length found.moments.moments → LeadsToEnd script (get_or found.moments.moments place no_moment)) where
  abbrev n_at : ℕ → Moment
  n_at place = get_or found.moments.moments place no_moment

  abbrev edges_at : ℕ → List ℕ
  edges_at place = get_or found.edges.rows place []

  -- from each moment that was found, each run of no more than so many accesses can
  abbrev Leading : ℕ → Type 0
  Leading n = (place : ℕ) (picks : List ℕ) (m : Moment) → place < length found.moments.moments → length picks ≤ n → Follows script (n_at place) picks m → LeadsToEnd script m

  -- the same of one access more, where some run of no more than so many accesses comes from there to an end
  abbrev Within : ℕ → ℕ → Type 0
  Within n k = (place : ℕ) (picks : List ℕ) (m : Moment) (ends : LeadsToEnd script (n_at place)) → place < length found.moments.moments → length picks ≤ suc n → length ends.picks ≤ k → Follows script (n_at place) picks m → LeadsToEnd script m

  within_on : (n k : ℕ) → Leading n → ((j : ℕ) → suc j ≡ k → Within n j) → Within n k
  within_on n k fewer nearer place [] m ends there few near is = subst (λ (x : Moment). LeadsToEnd script x) (sym is) ends
  within_on n k fewer nearer place (thread ∷ picks) m ends there few near f = by are.enough
    where
      are : AreEdges script found.moments.moments (n_at place) (edges_at place)
      are = of.led place (omega (arith, there, whole))

      on : (after : Moment) (rest : List ℕ) → Along script found.moments.moments after → length rest ≤ n → Follows script after rest m → LeadsToEnd script m
      on after rest a less follows =
          let r = run_like script rest after (n_at a.place) m a.like follows in
          leads_like script m r.end r.like (fewer a.place rest r.end a.there less r.follows)

      -- the thread that stands alone has not made its access
      later : (one : HasAlone script (n_at place) (edges_at place)) (start after : Moment) → next_moment script (n_at place) one.thread ≡ Some start → next_moment script m one.thread ≡ Some after
          → Follows script start (thread ∷ picks) after → Brought script (n_at place) one.thread ends.picks ends.last → LeadsToEnd script m
      later one start after next last_next follows (Left other end other_next end_next others) = absurd (none_done script ends.last one.thread end one.there ends.done end_next)
      later one start after next last_next follows (Made rest other other_next others len) =
          let a = along_alone script found.moments.moments (n_at place) (edges_at place) start one are next in
          let r = run_like script (thread ∷ picks) start (n_at a.place) after a.like follows in
          let same : other ≡ start = let e : Some other ≡ Some start = sym other_next ∙ next in cc in
          let e = run_like script rest start (n_at a.place) ends.last a.like (subst (λ (x : Moment). Follows script x rest ends.last) same others) in
          leads_on script m after one.thread one.there last_next
          (leads_like script after r.end r.like
          (nearer (pred k) (suc_pred k (omega (arith, near, len))) a.place (thread ∷ picks) r.end (record { last = e.end; picks = rest; follows = e.follows; done = done_like script ends.last e.end e.like ends.done }) a.there few
          (let one_less : suc (pred k) ≡ k = suc_pred k (omega (arith, near, len)) in omega (arith, near, len, one_less)) r.follows))

      first : (one : HasAlone script (n_at place) (edges_at place)) → Brought script (n_at place) one.thread (thread ∷ picks) m → LeadsToEnd script m
      first one (Made rest after next follows len) = on after rest (along_alone script found.moments.moments (n_at place) (edges_at place) after one are next) (omega (arith, len, few)) follows
      first one (Left start after next last_next follows) = later one start after next last_next follows (brought script one.thread ends.picks (n_at place) ends.last one.alone ends.follows)

      by : ((other : ℕ) → other < length script.threads → get_or (edges_at place) other 0 ≡ 0 → next_moment script (n_at place) other ≡ None) ⊎ HasAlone script (n_at place) (edges_at place) → LeadsToEnd script m
      by (inl every) = on f.1.0 picks (along_any script found.moments.moments (n_at place) (edges_at place) thread f.1.0 are every f.0 f.1.1) (omega (arith, few)) f.1.2
      by (inr one) = first one (brought script one.thread (thread ∷ picks) (n_at place) m one.alone f)

  lead_within : (k n : ℕ) → Leading n → Within n k
  lead_within zero n fewer = within_on n zero fewer (λ j is. absurd (omega (arith, is)))
  lead_within (suc k) n fewer = within_on n (suc k) fewer (λ j is. subst (λ (i : ℕ). Within n i) (let e : k ≡ j = omega (arith, is) in e) (lead_within k n fewer))

  pub leading : (n : ℕ) → Leading n
  leading zero place [] m there few is = subst (λ (x : Moment). LeadsToEnd script x) (sym is) (all place there)
  leading zero place (thread ∷ picks) m there few f = absurd (omega (arith, few))
  leading (suc n) place picks m there few f = lead_within (length (all place there).picks) n (leading n) place picks m (all place there) there few (omega arith) f

-- what is known of the first so many moments
pub record AreCounted (marks : List Bool) (many : ℕ) (stuck : Stuck) : Type 0 where
  pub few : stuck.count ≤ many
  pub none : stuck.count ≡ 0 → (k : ℕ) → k < many → get_or marks k false ≡ true
  pub there : 0 < stuck.count → stuck.first < many
  pub some : 0 < stuck.count → get_or marks stuck.first false ≡ false

pub count_marked : (marks : List Bool) (many : ℕ) (stuck : Stuck) → get_or marks many false ≡ true → AreCounted marks many stuck → AreCounted marks (suc many) stuck
count_marked marks many stuck marked c = record {
  few = omega (arith, c.few);
  none = λ none. below_suc (λ k. get_or marks k false ≡ true) many (c.none none) marked;
  there = λ some. omega (arith, c.there some);
  some = c.some;
}

pub count_unmarked : (marks : List Bool) (many : ℕ) (stuck more : Stuck) → get_or marks many false ≡ false
    → more.count ≡ suc stuck.count → (stuck.count ≡ 0 → more.first ≡ many) → (0 < stuck.count → more.first ≡ stuck.first)
    → AreCounted marks many stuck → AreCounted marks (suc many) more
count_unmarked marks many stuck more unmarked one start later c = record {
  few = omega (arith, one, c.few);
  none = λ none. absurd (omega (arith, none, one));
  there = λ _. first stuck.count refl (λ n. n < suc many) (omega arith) (λ some. omega (arith, c.there some));
  some = λ _. first stuck.count refl (λ n. get_or marks n false ≡ false) unmarked c.some;
}
  where
    first : (n : ℕ) → stuck.count ≡ n → (P : ℕ → Type 0) → P many → (0 < stuck.count → P stuck.first) → P more.first
    first zero is P here before = subst P (sym (start is)) here
    first (suc n) is P here before = let some : 0 < stuck.count = omega (arith, is) in subst P (sym (later some)) (before some)

-- all are counted
pub is_counted : (script : Script) (found : Searched) (marks : List Bool) (many : ℕ) (stuck : Stuck) → IsSearched script found → IsSettled script found marks → many ≡ length marks
    → AreCounted marks many stuck → IsCounted script found stuck
is_counted script found marks many stuck of settled all c = record {
  there = λ some. omega (arith, c.there some, all, settled.right.len);
  some = λ some. stuck_at script found marks of settled stuck.first (omega (arith, c.there some, all)) (c.some some);
  none = λ whole none m reached.
      leading script found of whole (λ place lt. settled.right.leads place (omega (arith, lt, settled.right.len)) (c.none none place (omega (arith, lt, settled.right.len, all))) whole)
      (length reached.picks) 0 reached.picks m of.ways.some (omega arith) (subst (λ (k : Moment). Follows script k reached.picks m) (sym of.ways.first) reached.follows);
}
