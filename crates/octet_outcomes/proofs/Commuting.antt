-- An access that conflicts with no later one of another thread may as well be made first.
use Rattle.std.proofs.Common.{◌≡◌, ℕ, zero, suc, ◌<◌, inl, inr, List, [], ◌∷◌, length, set, get_or, Option, Some, None, refl, sym, ap, ap₂, ◌∙◌, subst, arith}
use Rattle.std.proofs.lemmas.Bool.{cases_eq}
use Rattle.std.proofs.lemmas.List.{get_or-set_other, set_comm}
use Rattle.std.proofs.lemmas.Option.{slice_get_past}
use Rattle.octet_model.specs.declared.command.Command.{Command}
use Rattle.octet_model.specs.declared.script.Script.{Script}
use Rattle.octet_model.specs.Orders.{commands_of}
use Rattle.octet_model.specs.Thread.{added}
use Rattle.octet_interp.specs.declared.demand.Demand.{Demand}
use Rattle.octet_interp.specs.declared.demand.Demand.TheVariants.{Read, Write, Bump}
use Rattle.octet_interp.specs.declared.program.Stand.{Stand}
use Rattle.octet_interp.specs.Standing.{access_at, access_demand, stand_past}
use Rattle.octet_outcomes.specs.Alone.{Conflicts, KeepsOff, IsAlone}
use Rattle.octet_outcomes.specs.Moments.{Moment, no_stand, stand_in, value_given, heap_past, next_moment, AllDone}
use Rattle.octet_outcomes.specs.Runs.{Follows}
use Rattle.octet_outcomes.proofs.Likeness.{by_access, accessed, next_accessed, set_each}

added_both : (v a b : ℕ) → added a (added b v) ≡ added b (added a v)
added_both v a b = omega arith

-- two changes of one object, whose order does not matter
set_both : (heap : List ℕ) (object : ℕ) (f g : ℕ → ℕ) → ((v : ℕ) → f (g v) ≡ g (f v))
    → set (set heap object (g (get_or heap object 0))) object (f (get_or (set heap object (g (get_or heap object 0))) object 0))
    ≡ set (set heap object (f (get_or heap object 0))) object (g (get_or (set heap object (f (get_or heap object 0))) object 0))
set_both [] object f g same = refl
set_both (v ∷ heap) zero f g same = ap (λ (w : ℕ). w ∷ heap) (same v)
set_both (v ∷ heap) (suc object) f g same = ap (λ (h : List ℕ). v ∷ h) (set_both heap object f g same)

-- what one access does is not seen by the other
pub record Commute (d e : Demand) (heap : List ℕ) : Type 0 where
  pub heaps : heap_past e (heap_past d heap) ≡ heap_past d (heap_past e heap)
  pub first : value_given d (heap_past e heap) ≡ value_given d heap
  pub second : value_given e (heap_past d heap) ≡ value_given e heap

bumps : (object other a b : ℕ) (heap : List ℕ) → heap_past (Bump other b) (heap_past (Bump object a) heap) ≡ heap_past (Bump object a) (heap_past (Bump other b) heap)
bumps object other a b heap = elim (cases_eq object other) [
  | inl e ↦ subst (λ (p : ℕ). heap_past (Bump p b) (heap_past (Bump object a) heap) ≡ heap_past (Bump object a) (heap_past (Bump p b) heap)) e (set_both heap object (added b) (added a) (λ v. added_both v b a))
  | inr ne ↦
      ap (λ (v : ℕ). set (set heap object (added a (get_or heap object 0))) other (added b v)) (get_or-set_other heap object other (added a (get_or heap object 0)) 0 (λ is. ne (sym is)))
      ∙ set_comm heap object other (added a (get_or heap object 0)) (added b (get_or heap other 0)) ne
      ∙ sym (ap (λ (v : ℕ). set (set heap other (added b (get_or heap other 0))) object (added a v)) (get_or-set_other heap other object (added b (get_or heap other 0)) 0 ne))
]

pub commute : (d e : Demand) (heap : List ℕ) → (Conflicts d e → ⊥) → Commute d e heap
commute (Read object) (Write other value) heap apart = record { heaps = refl; first = get_or-set_other heap other object value 0 apart; second = refl }
commute (Read object) (Bump other amount) heap apart = record { heaps = refl; first = get_or-set_other heap other object (added amount (get_or heap other 0)) 0 apart; second = refl }
commute (Write object value) (Read other) heap apart = record { heaps = refl; first = refl; second = get_or-set_other heap object other value 0 (λ is. apart (sym is)) }
commute (Write object value) (Write other wrote) heap apart = record { heaps = set_comm heap object other value wrote apart; first = refl; second = refl }
commute (Write object value) (Bump other amount) heap apart = record {
  heaps = ap (λ (v : ℕ). set (set heap object value) other (added amount v)) (get_or-set_other heap object other value 0 (λ is. apart (sym is))) ∙ set_comm heap object other value (added amount (get_or heap other 0)) apart;
  first = refl;
  second = refl;
}
commute (Bump object amount) (Read other) heap apart = record { heaps = refl; first = refl; second = get_or-set_other heap object other (added amount (get_or heap object 0)) 0 (λ is. apart (sym is)) }
commute (Bump object amount) (Write other value) heap apart = record {
  heaps = set_comm heap object other (added amount (get_or heap object 0)) value apart ∙ sym (ap (λ (v : ℕ). set (set heap other value) object (added amount v)) (get_or-set_other heap other object value 0 apart));
  first = refl;
  second = refl;
}
commute (Bump object amount) (Bump other more) heap apart = record { heaps = bumps object other amount more heap; first = refl; second = refl }
commute d e heap apart = record { heaps = refl; first = refl; second = refl }

module _ (script : Script) (m between : Moment) (t u : ℕ) (alone : IsAlone script m t) (lt : u < length script.threads) (apart : u ≡ t → ⊥) (next : next_moment script m u ≡ Some between) where
  by : (demand : Demand) × (access_at (commands_of script u) (stand_in m u) ≡ Some demand) × (accessed script m u demand ≡ between)
  by = by_access m u (commands_of script u) script.fuel (access_at (commands_of script u) (stand_in m u)) between next

  free : Conflicts alone.demand by.0 → ⊥
  free = (alone.others u lt apart 1 by.0 by.1).0

  -- the thread still stands alone after an access of another
  pub alone_on : IsAlone script between t
  alone_on =
      let x : Stand = stand_past (commands_of script u) script.fuel (stand_in m u) (value_given by.0 m.heap) in
      subst (λ (k : Moment). IsAlone script k t) by.2 (record {
        demand = alone.demand;
        at = ap (access_at (commands_of script t)) (get_or-set_other m.stands u t _ no_stand (λ is. apart (sym is))) ∙ alone.at;
        others = set_each (λ (n : ℕ) (s same : Stand). n < length script.threads → (n ≡ t → ⊥) → (more : ℕ) → KeepsOff more (commands_of script n) script.fuel alone.demand s) m.stands m.stands u _ x refl
            (λ _ _ more. (alone.others u lt apart (suc more) by.0 by.1).1 (value_given by.0 m.heap)) alone.others;
      })

  abbrev before : Moment
  before = accessed script m t alone.demand

  -- its access may as well come first
  pub swapped : (after : Moment) → next_moment script between t ≡ Some after → next_moment script before u ≡ Some after
  swapped after then =
      let c = commute alone.demand by.0 m.heap free in
      let other : stand_in before u ≡ stand_in m u = get_or-set_other m.stands t u _ no_stand apart in
      let own : stand_in (accessed script m u by.0) t ≡ stand_in m t = get_or-set_other m.stands u t _ no_stand (λ is. apart (sym is)) in
      let second : next_moment script before u ≡ Some (accessed script before u by.0) = next_accessed script before u by.0 (ap (access_at (commands_of script u)) other ∙ by.1) in
      let first : next_moment script (accessed script m u by.0) t ≡ Some (accessed script (accessed script m u by.0) t alone.demand) =
      next_accessed script (accessed script m u by.0) t alone.demand (ap (access_at (commands_of script t)) own ∙ alone.at) in
      let stands : set before.stands u (stand_past (commands_of script u) script.fuel (stand_in before u) (value_given by.0 before.heap))
      ≡ set (accessed script m u by.0).stands t (stand_past (commands_of script t) script.fuel (stand_in (accessed script m u by.0) t) (value_given alone.demand (heap_past by.0 m.heap))) =
      ap₂ (λ (s : Stand) (v : ℕ). set before.stands u (stand_past (commands_of script u) script.fuel s v)) other c.second
      ∙ set_comm m.stands t u (stand_past (commands_of script t) script.fuel (stand_in m t) (value_given alone.demand m.heap)) (stand_past (commands_of script u) script.fuel (stand_in m u) (value_given by.0 m.heap)) (λ is. apart (sym is))
      ∙ sym (ap₂ (λ (s : Stand) (v : ℕ). set (accessed script m u by.0).stands t (stand_past (commands_of script t) script.fuel s v)) own c.first) in
      let same : accessed script before u by.0 ≡ accessed script (accessed script m u by.0) t alone.demand = ap₂ (λ (ss : List Stand) (h : List ℕ). record { stands = ss; heap = h }) stands c.heaps in
      second ∙ ap (λ (k : Moment). Some k) same ∙ sym first ∙ ap (λ (k : Moment). next_moment script k t) by.2 ∙ then

-- in a run a thread that stands alone makes its access first, with fewer accesses to come, or has not made it at its end
pub data Brought (script : Script) (m : Moment) (t : ℕ) (picks : List ℕ) (last : Moment) : Type 0 where
  Made : (rest : List ℕ) (first : Moment) → next_moment script m t ≡ Some first → Follows script first rest last → length picks ≡ suc (length rest) → Brought script m t picks last
  Left : (first after : Moment) → next_moment script m t ≡ Some first → next_moment script last t ≡ Some after → Follows script first picks after → Brought script m t picks last

pub brought : (script : Script) (t : ℕ) (picks : List ℕ) (m last : Moment) → IsAlone script m t → Follows script m picks last → Brought script m t picks last
brought script t [] m last alone is =
    let first : next_moment script m t ≡ Some (accessed script m t alone.demand) = next_accessed script m t alone.demand alone.at in
    Left (accessed script m t alone.demand) (accessed script m t alone.demand) first (ap (λ (k : Moment). next_moment script k t) is ∙ first) refl
brought script t (u ∷ picks) m last alone f = elim (cases_eq u t) [
  | inl e ↦ Made picks f.1.0 (subst (λ (n : ℕ). next_moment script m n ≡ Some f.1.0) e f.1.1) f.1.2 refl
  | inr apart ↦ other apart (brought script t picks f.1.0 last (alone_on script m f.1.0 t u alone f.0 apart f.1.1) f.1.2)
]
  where
    before : Moment
    before = accessed script m t alone.demand

    first : next_moment script m t ≡ Some (accessed script m t alone.demand)
    first = next_accessed script m t alone.demand alone.at

    other : (u ≡ t → ⊥) → Brought script f.1.0 t picks last → Brought script m t (u ∷ picks) last
    other apart (Made rest after then follows len) = Made (u ∷ rest) (accessed script m t alone.demand) first (f.0, (after, swapped script m f.1.0 t u alone f.0 apart f.1.1 after then, follows)) (ap suc len)
    other apart (Left then after next_is last_is follows) = Left (accessed script m t alone.demand) after first last_is (f.0, (then, swapped script m f.1.0 t u alone f.0 apart f.1.1 then next_is, follows))

-- where all threads are done there is no access
pub none_done : (script : Script) (m : Moment) (t : ℕ) (after : Moment) → t < length script.threads → AllDone script m → next_moment script m t ≡ Some after → ⊥
none_done script m t after lt done next =
    let by = by_access m t (commands_of script t) script.fuel (access_at (commands_of script t) (stand_in m t)) after next in
    let none : access_at (commands_of script t) (stand_in m t) ≡ None = ap (λ (o : Option Command). elim o [ None ↦ None | Some command ↦ access_demand command (stand_in m t).registers ]) (slice_get_past (commands_of script t) (stand_in m t).place (done t lt)) in
    let no : None ≡ Some by.0 = sym none ∙ by.1 in cc
