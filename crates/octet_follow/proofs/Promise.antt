-- While a follower does not show its last access, no event that was made happens after it.
use Rattle.std.proofs.Common.{◌≡◌, ℕ, zero, suc, ◌<◌, ◌≤◌, false, List, [], ◌∷◌, ◌++◌, length, get_or, slice_get, Some, sym, ap, ◌∙◌, arith, length-append}
use Rattle.std.proofs.lemmas.Option.{slice_get_within}
use Rattle.octet_model.specs.declared.event.Event.{Event}
use Rattle.octet_model.specs.declared.event.Event.TheVariants.{Marked}
use Rattle.octet_model.specs.declared.event.Mark.TheVariants.{Join, Draw}
use Rattle.octet_model.specs.declared.event.Place.{Place}
use Rattle.octet_model.specs.Machine.{Journals, journal_of}
use Rattle.octet_model.specs.HappensBefore.{event_at, Edge, ProgramOrder, Joined, Drawn, Fenced, IsEvent, IsPath}
use Rattle.octet_model.proofs.lemmas.Lists.{slice_get_last}
use Rattle.octet_follow.specs.declared.access.Access.{Access}
use Rattle.octet_follow.specs.declared.access.Access.TheVariants.{Read, Write, Update}
use Rattle.octet_follow.specs.Accesses.{event_of, GoesBy}
use Rattle.octet_follow.specs.State.{FollowerState, follower_of, unbegun, journals_of}
use Rattle.octet_follow.specs.Views.{FollowerView}
use Rattle.octet_follow.specs.Seats.{Goes}
use Rattle.octet_follow.specs.Promise.{HoldsBack}
use Rattle.octet_follow.proofs.steps.Keeping.{journal_at}

-- the first edge of a path
record Leads (journals : Journals) (a : Place) : Type 0 where
  next : Place
  edge : Edge journals a next
  is_event : IsEvent journals next

first_edge : (journals : Journals) (between : List Place) (a b : Place) → IsPath journals (a ∷ (between ++ b ∷ [])) → Leads journals a
first_edge journals [] a b path = record { next = b; edge = path.1; is_event = path.2 }
first_edge journals (c ∷ []) a b path = record { next = c; edge = path.1; is_event = path.2.0 }
first_edge journals (c ∷ d ∷ between) a b path = record { next = c; edge = path.1; is_event = path.2.0 }

-- an access is no draw
no_draw : (access : Access) (found number : ℕ) → event_of access found ≡ Marked (Draw number) → ⊥
no_draw (Read object) found number is = absurd cc
no_draw (Write object value) found number is = absurd cc
no_draw (Update object change) found number is = absurd cc

-- whoever has an event is one of the followers
has_events : (ps : List FollowerState) (u k : ℕ) (x : Event) → slice_get (get_or ps u unbegun).journal k ≡ Some x → u < length ps
has_events [] u k x is = absurd cc
has_events (p ∷ ps) zero k x is = omega arith
has_events (p ∷ ps) (suc u) k x is = let a = has_events ps u k x is in omega arith

-- a follower that makes an event and shows nothing of it
pub unshown : (v w : FollowerView) (e : Event) → v.follower.shown ≤ length v.follower.journal → Goes v (e ∷ []) false w → w.follower.shown < length w.follower.journal
unshown v w e within goes = let a = goes.shown in let b = ap (λ (j : List Event). length j) goes.journal in let c = length-append v.follower.journal (e ∷ []) in omega arith

pub holds_back : (access : Access) (value : ℕ) (v w : FollowerView) → v.follower.shown ≤ length v.follower.journal → GoesBy access v value w → HoldsBack w
holds_back access value v w within by s last seen long later happens = go lead.edge
  where
    found : ℕ
    found = by.found

    journal : w.follower.journal ≡ v.follower.journal ++ event_of access found ∷ []
    journal = by.goes.journal

    js : Journals
    js = journals_of s

    here : Place
    here = record { thread = w.number; event = last }

    lead : Leads js here
    lead = first_edge js happens.between here later happens.is_path

    mine : journal_of js w.number ≡ w.follower.journal
    mine = journal_at s.followers w.number ∙ ap (λ (p : FollowerState). p.journal) seen.stands

    is_last : last ≡ length v.follower.journal
    is_last = let a = ap (λ (j : List Event). length j) journal in let b = length-append v.follower.journal (event_of access found ∷ []) in omega arith

    there : event_at js here ≡ Some (event_of access found)
    there = (λ i. slice_get (mine i) (is_last i)) ∙ (ap (λ (j : List Event). slice_get j (length v.follower.journal)) journal ∙ slice_get_last v.follower.journal (event_of access found))

    not_drawn : (number : ℕ) → event_at js here ≡ Some (Marked (Draw number)) → ⊥
    not_drawn number is = no_draw access found number (let same : Some (event_of access found) ≡ Some (Marked (Draw number)) = sym there ∙ is in cc)

    go : Edge js here lead.next → ⊥
    go (ProgramOrder same next) =
        let within = slice_get_within (journal_of js lead.next.thread) lead.next.event lead.is_event.0 lead.is_event.1 in
        let a = ap (λ (u : ℕ). length (journal_of js u)) same in
        let b = ap (λ (j : List Event). length j) mine in
        omega arith
    go (Joined upto is below) =
        let there : slice_get (follower_of s lead.next.thread).journal lead.next.event ≡ Some (Marked (Join w.number upto)) = ap (λ (j : List Event). slice_get j lead.next.event) (sym (journal_at s.followers lead.next.thread)) ∙ is in
        let inside = has_events s.followers lead.next.thread lead.next.event (Marked (Join w.number upto)) there in
        let a = (seen.sound.each lead.next.thread inside).joins lead.next.event w.number upto there in
        let b = ap (λ (p : FollowerState). p.shown) seen.stands in
        let c = unshown v w (event_of access found) within by.goes in
        omega arith
    go (Drawn first then is then_is below) = not_drawn first is
    go (Fenced number upto is then_is below) = not_drawn number is
