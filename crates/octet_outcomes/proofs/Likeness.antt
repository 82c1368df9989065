-- What follows alike from moments that are alike.
use Rattle.std.proofs.Common.{◌≡◌, ℕ, zero, suc, List, [], ◌∷◌, length, set, get_or, Option, Some, None, refl, sym, ap, ◌∙◌, subst, arith, length-set}
use Rattle.octet_model.specs.declared.command.Command.{Command}
use Rattle.octet_model.specs.declared.script.Script.{Script}
use Rattle.octet_model.specs.Orders.{commands_of}
use Rattle.octet_interp.specs.declared.demand.Demand.{Demand}
use Rattle.octet_interp.specs.declared.program.Stand.{Stand}
use Rattle.octet_interp.specs.Standing.{access_at, stand_past}
use Rattle.octet_outcomes.specs.Alike.{GoAlike, StandAlike, AreAlike}
use Rattle.octet_outcomes.specs.Moments.{Moment, no_stand, stand_in, stand_after, heap_after, moved, value_given, heap_past, next_moment, AllDone}
use Rattle.octet_outcomes.specs.Runs.{Follows}

go_refl : (more : ℕ) (commands : List Command) (fuel : ℕ) (s : Stand) → GoAlike more commands fuel s s
go_refl zero commands fuel s = tt
go_refl (suc more) commands fuel s = (refl, refl, λ demand is value. go_refl more commands fuel (stand_past commands fuel s value))

go_sym : (more : ℕ) (commands : List Command) (fuel : ℕ) (s t : Stand) → GoAlike more commands fuel s t → GoAlike more commands fuel t s
go_sym zero commands fuel s t alike = tt
go_sym (suc more) commands fuel s t (place, access, on) =
    (sym place, sym access, λ demand is value. go_sym more commands fuel (stand_past commands fuel s value) (stand_past commands fuel t value) (on demand (access ∙ is) value))

go_trans : (more : ℕ) (commands : List Command) (fuel : ℕ) (s t u : Stand) → GoAlike more commands fuel s t → GoAlike more commands fuel t u → GoAlike more commands fuel s u
go_trans zero commands fuel s t u first second = tt
go_trans (suc more) commands fuel s t u (place, access, on) (place', access', on') = (
  place ∙ place',
  access ∙ access',
  λ demand is value.
      go_trans more commands fuel (stand_past commands fuel s value) (stand_past commands fuel t value) (stand_past commands fuel u value) (on demand is value) (on' demand (sym access ∙ is) value),
)

pub stand_like : (commands : List Command) (fuel : ℕ) (s : Stand) → StandAlike commands fuel s s
stand_like commands fuel s = record { go = λ more. go_refl more commands fuel s }

pub like_refl : (script : Script) (m : Moment) → AreAlike script m m
like_refl script m = record { heap = refl; stands = refl; each = λ thread. stand_like (commands_of script thread) script.fuel (stand_in m thread) }

pub like_sym : (script : Script) (m k : Moment) → AreAlike script m k → AreAlike script k m
like_sym script m k alike = record {
  heap = sym alike.heap;
  stands = sym alike.stands;
  each = λ thread. record { go = λ more. go_sym more (commands_of script thread) script.fuel (stand_in m thread) (stand_in k thread) ((alike.each thread).go more) };
}

pub like_trans : (script : Script) (m k n : Moment) → AreAlike script m k → AreAlike script k n → AreAlike script m n
like_trans script m k n first second = record {
  heap = first.heap ∙ second.heap;
  stands = first.stands ∙ second.stands;
  each = λ thread. record {
    go = λ more. go_trans more (commands_of script thread) script.fuel (stand_in m thread) (stand_in k thread) (stand_in n thread) ((first.each thread).go more) ((second.each thread).go more);
  };
}

pub like_same : (script : Script) (m k n : Moment) → k ≡ n → AreAlike script m k → AreAlike script m n
like_same script m k n same alike = subst (λ (x : Moment). AreAlike script m x) same alike

-- which access a next moment is by
pub by_access : (m : Moment) (t : ℕ) (commands : List Command) (fuel : ℕ) (o : Option Demand) (between : Moment)
    → moved m t (heap_after o m.heap) (stand_after commands fuel (stand_in m t) m.heap o) ≡ Some between
    → (demand : Demand) × (o ≡ Some demand) × (record { stands = set m.stands t (stand_past commands fuel (stand_in m t) (value_given demand m.heap)); heap = heap_past demand m.heap } ≡ between)
by_access m t commands fuel None between is = absurd cc
by_access m t commands fuel (Some demand) between is = (demand, refl, cc)

-- the moment after an access of a thread
abbrev pub accessed : Script → Moment → ℕ → Demand → Moment
accessed script m t demand = record { stands = set m.stands t (stand_past (commands_of script t) script.fuel (stand_in m t) (value_given demand m.heap)); heap = heap_past demand m.heap }

pub next_accessed : (script : Script) (m : Moment) (t : ℕ) (demand : Demand) → access_at (commands_of script t) (stand_in m t) ≡ Some demand → next_moment script m t ≡ Some (accessed script m t demand)
next_accessed script m t demand at = ap (λ (o : Option Demand). moved m t (heap_after o m.heap) (stand_after (commands_of script t) script.fuel (stand_in m t) m.heap o)) at

-- what holds of the stands at each place holds where one of them is another
pub set_each : (P : ℕ → Stand → Stand → Type 0) (xs ys : List Stand) (t : ℕ) (x y : Stand) → length xs ≡ length ys → P t x y → ((u : ℕ) → P u (get_or xs u no_stand) (get_or ys u no_stand))
    → (u : ℕ) → P u (get_or (set xs t x) u no_stand) (get_or (set ys t y) u no_stand)
set_each P [] [] t x y len here rest u = rest u
set_each P [] (b ∷ ys) t x y len here rest u = absurd (omega arith)
set_each P (a ∷ xs) [] t x y len here rest u = absurd (omega arith)
set_each P (a ∷ xs) (b ∷ ys) zero x y len here rest zero = here
set_each P (a ∷ xs) (b ∷ ys) zero x y len here rest (suc u) = rest (suc u)
set_each P (a ∷ xs) (b ∷ ys) (suc t) x y len here rest zero = rest 0
set_each P (a ∷ xs) (b ∷ ys) (suc t) x y len here rest (suc u) = set_each (λ (n : ℕ). P (suc n)) xs ys t x y (omega arith) here (λ n. rest (suc n)) u

-- where one thread stands alike instead
pub stood_like : (script : Script) (m : Moment) (t : ℕ) (x y : Stand) (heap : List ℕ) → StandAlike (commands_of script t) script.fuel x y
    → AreAlike script (record { stands = set m.stands t x; heap = heap }) (record { stands = set m.stands t y; heap = heap })
stood_like script m t x y heap alike = record {
  heap = refl;
  stands = length-set m.stands t x ∙ sym (length-set m.stands t y);
  each = set_each (λ (u : ℕ) (s s' : Stand). StandAlike (commands_of script u) script.fuel s s') m.stands m.stands t x y refl alike (λ u. stand_like (commands_of script u) script.fuel (stand_in m u));
}

pub record NextLike (script : Script) (m k : Moment) (t : ℕ) (between : Moment) : Type 0 where
  pub other : Moment
  pub next : next_moment script k t ≡ Some other
  pub like : AreAlike script between other

pub next_like : (script : Script) (m k : Moment) (t : ℕ) (between : Moment) → AreAlike script m k → next_moment script m t ≡ Some between → NextLike script m k t between
next_like script m k t between alike next =
    let commands = commands_of script t in
    let by = by_access m t (commands_of script t) script.fuel (access_at (commands_of script t) (stand_in m t)) between next in
    let here = (alike.each t).go 1 in
    let past : StandAlike (commands_of script t) script.fuel (stand_past (commands_of script t) script.fuel (stand_in m t) (value_given by.0 m.heap)) (stand_past (commands_of script t) script.fuel (stand_in k t) (value_given by.0 k.heap)) =
    subst (λ (h : List ℕ). StandAlike (commands_of script t) script.fuel (stand_past (commands_of script t) script.fuel (stand_in m t) (value_given by.0 m.heap)) (stand_past (commands_of script t) script.fuel (stand_in k t) (value_given by.0 h)))
    alike.heap (record { go = λ more. ((alike.each t).go (suc more)).2 by.0 by.1 (value_given by.0 m.heap) }) in
    record {
      other = accessed script k t by.0;
      next = next_accessed script k t by.0 (sym here.1 ∙ by.1);
      like = subst (λ (x : Moment). AreAlike script x (accessed script k t by.0)) by.2 (record {
        heap = ap (heap_past by.0) alike.heap;
        stands = length-set m.stands t _ ∙ alike.stands ∙ sym (length-set k.stands t _);
        each = set_each (λ (u : ℕ) (s s' : Stand). StandAlike (commands_of script u) script.fuel s s') m.stands k.stands t _ _ alike.stands past alike.each;
      });
    }

-- a whole run
pub record RunLike (script : Script) (k : Moment) (picks : List ℕ) (last : Moment) : Type 0 where
  pub end : Moment
  pub follows : Follows script k picks end
  pub like : AreAlike script last end

pub run_like : (script : Script) (picks : List ℕ) (m k last : Moment) → AreAlike script m k → Follows script m picks last → RunLike script k picks last
run_like script [] m k last alike is = record { end = k; follows = refl; like = subst (λ (x : Moment). AreAlike script x k) (sym is) alike }
run_like script (thread ∷ picks) m k last alike f =
    let n = next_like script m k thread f.1.0 alike f.1.1 in
    let rest = run_like script picks f.1.0 n.other last n.like f.1.2 in
    record { end = rest.end; follows = (f.0, (n.other, n.next, rest.follows)); like = rest.like }

pub done_like : (script : Script) (m k : Moment) → AreAlike script m k → AllDone script m → AllDone script k
done_like script m k alike done thread lt = let here = (alike.each thread).go 1 in omega (arith, done thread lt, here.0)
