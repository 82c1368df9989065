-- What an order and a cycle show.
use Rattle.std.proofs.Common.{◌≡◌, ℕ, zero, suc, ◌+◌, ◌<◌, inl, inr, List, [], ◌∷◌, ◌++◌, length, Some, slice_get, refl, sym, ap, ◌∙◌, subst, arith, append_assoc, append-nil, length-append}
use Rattle.std.specs.List.{Contains}
use Rattle.std.proofs.lemmas.Bool.{cases_eq}
use Rattle.std.proofs.lemmas.Option.{slice_get_within, slice_get_read, get_or_from_slice_get}
use Rattle.std.proofs.lemmas.List.Elements.{Contains-append_left, Contains-append_right}
use Rattle.octet_model.specs.declared.log.ThreadLog.{ThreadLog}
use Rattle.octet_model.specs.declared.script.Script.{Script}
use Rattle.octet_replay.specs.Judged.{IsLawful}
use Rattle.octet_regions.specs.declared.access.Access.{Access}
use Rattle.octet_regions.specs.declared.region.Hop.{Hop}
use Rattle.octet_regions.specs.declared.region.Region.{Region}
use Rattle.octet_regions.specs.declared.serial.Serial.{Serial}
use Rattle.octet_regions.specs.declared.serial.Serial.TheVariants.{Order, Cycle}
use Rattle.octet_regions.specs.Accesses.{accesses_of}
use Rattle.octet_regions.specs.Choice.{IsChosen, IsChoice, IsCycle, IsHop, IsSerial, IsWalk, TakesAll, walk_end}
use Rattle.octet_regions.specs.code.Chooser.{FitQueues}
use Rattle.octet_regions.specs.Runs.{ClosesCycle, LeadsOn, ListsRegions, Shows}
use Rattle.octet_regions.proofs.Queues.{same_region}
use Rattle.octet_regions.proofs.SerialRuns.{runs_serially}

contains_at : {X : Type 0} (xs : List X) (k : ℕ) (x : X) → slice_get xs k ≡ Some x → Contains xs x
contains_at xs k x is = (k, slice_get_within xs k x is, get_or_from_slice_get xs k x x is)

at_contains : {X : Type 0} (xs : List X) (x : X) → Contains xs x → (k : ℕ) × (slice_get xs k ≡ Some x)
at_contains xs x has = (has.0, slice_get_read xs (length xs) has.0 x refl has.1 (sym has.2))

-- each region of a choice was chosen after those before it
chosen_at : (accesses : List Access) (taken order : List Region) → IsChoice accesses taken order → (k : ℕ) (region : Region) → slice_get order k ≡ Some region
    → (front : List Region) × IsChosen accesses (taken ++ front) region × ((j : ℕ) (one : Region) → j < k → slice_get order j ≡ Some one → Contains front one)
chosen_at accesses taken [] choice k region is = absurd cc
chosen_at accesses taken (first ∷ order) choice zero region is =
    let same : first ≡ region = cc in
    ([], subst (λ (t : List Region). IsChosen accesses t region) (sym (append-nil taken)) (subst (IsChosen accesses taken) same choice.0), λ j one lt at_j. absurd (omega arith))
chosen_at accesses taken (first ∷ order) choice (suc k) region is =
    let r = chosen_at accesses (taken ++ first ∷ []) order choice.1 k region is in
    (first ∷ r.0, subst (λ (t : List Region). IsChosen accesses t region) (append_assoc taken (first ∷ []) r.0) r.1, λ j one lt at_j. before r.0 j one lt at_j r.2)
  where
    before : (front : List Region) (j : ℕ) (one : Region) → j < suc k → slice_get (first ∷ order) j ≡ Some one → ((i : ℕ) (other : Region) → i < k → slice_get order i ≡ Some other → Contains front other) → Contains (first ∷ front) one
    before front zero one lt at_j more = (let same : first ≡ one = cc in contains_at (first ∷ front) 0 one (ap (λ (x : Region). Some x) same))
    before front (suc j) one lt at_j more = (let m = at_contains front one (more j one (omega arith) at_j) in contains_at (first ∷ front) (suc m.0) one m.1)

-- a later region of a thread has a higher number
rising : (accesses : List Access) (taken order : List Region) → IsChoice accesses taken order → (i j : ℕ) (one other : Region) → i < j → slice_get order i ≡ Some one → slice_get order j ≡ Some other → one.thread ≡ other.thread → one.number < other.number
rising accesses taken [] choice i j one other lt at_i at_j same = absurd cc
rising accesses taken (first ∷ order) choice (suc i) zero one other lt at_i at_j same = absurd (omega arith)
rising accesses taken (first ∷ order) choice zero zero one other lt at_i at_j same = absurd (omega arith)
rising accesses taken (first ∷ order) choice (suc i) (suc j) one other lt at_i at_j same = rising accesses (taken ++ first ∷ []) order choice.1 i j one other (omega arith) at_i at_j same
rising accesses taken (first ∷ order) choice zero (suc j) one other lt at_i at_j same =
    let is : first ≡ one = cc in
    let later = chosen_at accesses (taken ++ first ∷ []) order choice.1 j other at_j in
    let left = later.1.free.next.left in
    let not_now : ¬ Contains taken other = λ has. left.not_taken (Contains-append_left (taken ++ first ∷ []) later.0 other (Contains-append_left taken (first ∷ []) other has)) in
    let least = choice.0.free.next.first other (record { is_region = left.is_region; not_taken = not_now }) (sym same ∙ ap (λ (r : Region). r.thread) (sym is)) in
    elim (cases_eq one.number other.number) [
      | inr differ ↦ omega (arith, least, ap (λ (r : Region). r.number) is, differ)
      | inl equal ↦ absurd (left.not_taken (Contains-append_left (taken ++ first ∷ []) later.0 other (Contains-append_right taken (first ∷ []) other (contains_at (first ∷ []) 0 other (ap (λ (x : Region). Some x) (is ∙ same_region one other.thread other.number same equal))))))
    ]

lists : (accesses : List Access) (order : List Region) → IsChoice accesses [] order → TakesAll accesses order → ListsRegions accesses order
lists accesses order choice all = record {
  each_is_one = λ place region is. (chosen_at accesses [] order choice place region is).1.free.next.left.is_region;
  each_comes = λ region r. at_contains order region (all region r);
  in_order = λ first second one other lt is_one is_other same. rising accesses [] order choice first second one other lt is_one is_other same;
}

-- the hops of a walk
walk_at : (accesses : List Access) (taken : List Region) (thread : ℕ) (hops : List Hop) → IsWalk accesses taken thread hops → (k : ℕ) (hop : Hop) → slice_get hops k ≡ Some hop → IsHop accesses taken hop
walk_at accesses taken thread [] walk k hop is = absurd cc
walk_at accesses taken thread (first ∷ hops) walk zero hop is = (let same : first ≡ hop = cc in subst (IsHop accesses taken) same walk.1)
walk_at accesses taken thread (first ∷ hops) walk (suc k) hop is = walk_at accesses taken first.before.thread hops walk.2 k hop is

walk_next : (accesses : List Access) (taken : List Region) (thread : ℕ) (hops : List Hop) → IsWalk accesses taken thread hops → (k : ℕ) (hop next : Hop) → slice_get hops k ≡ Some hop → slice_get hops (suc k) ≡ Some next → next.after.thread ≡ hop.before.thread
walk_next accesses taken thread [] walk k hop next is is_next = absurd cc
walk_next accesses taken thread (first ∷ []) walk k hop next is is_next = absurd cc
walk_next accesses taken thread (first ∷ second ∷ hops) walk zero hop next is is_next =
    let same : first ≡ hop = cc in
    let same' : second ≡ next = cc in
    ap (λ (h : Hop). h.after.thread) (sym same') ∙ walk.2.0 ∙ ap (λ (h : Hop). h.before.thread) same
walk_next accesses taken thread (first ∷ second ∷ hops) walk (suc k) hop next is is_next = walk_next accesses taken first.before.thread (second ∷ hops) walk.2 k hop next is is_next

end_is : (thread : ℕ) (hops : List Hop) (k : ℕ) (hop : Hop) → suc k ≡ length hops → slice_get hops k ≡ Some hop → walk_end thread hops ≡ hop.before.thread
end_is thread [] k hop last is = absurd cc
end_is thread (first ∷ []) zero hop last is = (let same : first ≡ hop = cc in ap (λ (h : Hop). h.before.thread) same)
end_is thread (first ∷ []) (suc k) hop last is = absurd cc
end_is thread (first ∷ second ∷ hops) zero hop last is = absurd (omega arith)
end_is thread (first ∷ second ∷ hops) (suc k) hop last is = end_is first.before.thread (second ∷ hops) k hop (omega arith) is

behind_lead : (lead hops : List Hop) (k : ℕ) → slice_get (lead ++ hops) (length lead + k) ≡ slice_get hops k
behind_lead [] hops k = let e : length {A = Hop} [] + k ≡ k = omega arith in ap (slice_get hops) e
behind_lead (first ∷ lead) hops k = let e : length (first ∷ lead) + k ≡ suc (length lead + k) = omega arith in ap (slice_get (first ∷ lead ++ hops)) e ∙ behind_lead lead hops k

leads_on : (accesses : List Access) (taken : List Region) (hop next : Hop) → IsHop accesses taken hop → IsHop accesses taken next → next.after.thread ≡ hop.before.thread → LeadsOn hop next
leads_on accesses taken hop next is is_next same = record { same = sym same; at_or_after = is_next.into_next.first hop.before is.left (sym same) }

closes : (accesses : List Access) (taken : List Region) (cycle : List Hop) → IsCycle accesses taken cycle → ClosesCycle accesses cycle
closes accesses taken cycle c =
    let hops = c.lead ++ cycle in
    let lead = length c.lead in
    let at : (k : ℕ) (hop : Hop) → slice_get cycle k ≡ Some hop → slice_get hops (lead + k) ≡ Some hop = λ k hop is. behind_lead c.lead cycle k ∙ is in
    let hop_at : (k : ℕ) (hop : Hop) → slice_get cycle k ≡ Some hop → IsHop accesses taken hop = λ k hop is. walk_at accesses taken c.start hops c.walks (lead + k) hop (at k hop is) in
    record {
      some = c.some;
      each = λ place hop is. (hop_at place hop is).is_before;
      on = λ place hop next is is_next.
          leads_on accesses taken hop next (hop_at place hop is) (hop_at (suc place) next is_next)
          (walk_next accesses taken c.start hops c.walks (lead + place) hop next (at place hop is) (let e : suc (lead + place) ≡ lead + suc place = omega arith in ap (slice_get hops) e ∙ at (suc place) next is_next));
      back = λ last hop next ends is is_next.
          leads_on accesses taken hop next (hop_at last hop is) (hop_at 0 next is_next)
          (sym (c.comes_back next is_next) ∙ end_is c.start hops (lead + last) hop (omega (arith, ends, length-append c.lead cycle)) (at last hop is));
    }

pub shows : (script : Script) (log : List ThreadLog) (serial : Serial) → IsLawful script log → FitQueues (length script.threads) (accesses_of script log) → IsSerial (accesses_of script log) serial → Shows script log serial
shows script log (Order regions) lawful fit s = (runs_serially script log regions lawful fit.there s.0 s.1, lists (accesses_of script log) regions s.0 s.1)
shows script log (Cycle hops) lawful fit s = closes (accesses_of script log) s.0 hops s.3
