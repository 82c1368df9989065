-- What a player makes is what was recorded of its thread.
use Rattle.std.proofs.Common.{◌≡◌, ◌∙◌, List, [], ◌∷◌, ◌++◌, length, map, Some, None, slice_get, ⊎_elim, refl, sym, ap, subst, append_assoc, append-nil}
use Rattle.std.proofs.lemmas.List.{get_or-map}
use Rattle.octet_model.specs.declared.event.Event.{Event}
use Rattle.octet_model.specs.declared.log.Log.{Log}
use Rattle.octet_model.specs.declared.script.Script.{Script}
use Rattle.octet_model.specs.Machine.{Journals, journal_of}
use Rattle.octet_model.specs.Orders.{lowest_order, journals_after, IsLawfulFront}
use Rattle.octet_clock.specs.Fronts.{OrdersConflicts}
use Rattle.octet_clock.proofs.lemmas.FrontLaws.{fronts_are_prefixes}
use Rattle.octet_parallel.specs.declared.player.Player.{Player}
use Rattle.octet_parallel.specs.Calls.{view_of, script_in, IsPlayerOf, MakesNext}
use Rattle.octet_parallel.specs.Rule.{IsSeenBy}
use Rattle.octet_parallel.specs.State.{PlayerState, FieldState, player_of, unbegun}
use Rattle.octet_parallel.specs.Views.{PlayerView}
use Rattle.octet_rerun.specs.declared.rerun.Rerun.{Rerun}
use Rattle.octet_rerun.specs.Reruns.{Begins, IsOfRecording, recorded_of}

-- what a player is seen to have made in a sound state is recorded
front_recorded : (v : PlayerView) (s : FieldState) → IsSeenBy v s → OrdersConflicts v.script v.log.threads
    → Begins v.player.journal (journal_of (journals_after v.script v.log.threads (lowest_order v.script v.log.threads)) v.number)
front_recorded v s seen orders =
    let lawful : IsLawfulFront v.script v.log.threads s.front = subst (λ z. z) (λ i. IsLawfulFront (seen.script i) ((seen.log i).threads) s.front) (seen.sound.agree, seen.sound.lawful) in
    let begins = fronts_are_prefixes v.script v.log.threads s.front v.number orders lawful in
    let moved : journal_of (journals_after v.script v.log.threads s.front) v.number ≡ journal_of (journals_after s.script s.log.threads s.front) v.number = λ i. journal_of (journals_after (sym seen.script i) ((sym seen.log i).threads) s.front) v.number in
    let mapped : journal_of (map (λ (p : PlayerState). p.journal) s.players) v.number ≡ (player_of s v.number).journal = get_or-map (λ (p : PlayerState). p.journal) s.players v.number unbegun [] seen.inside in
    let same : journal_of (journals_after v.script v.log.threads s.front) v.number ≡ v.player.journal =
    moved ∙ (ap (λ (js : Journals). journal_of js v.number) seen.sound.journals ∙ (mapped ∙ ap (λ (p : PlayerState). p.journal) seen.stands)) in
    (begins.0, begins.1 ∙ ap (λ (j : List Event). j ++ begins.0) same)

seen_after : (v w : PlayerView) → MakesNext v w → (s : FieldState) × IsSeenBy w s
seen_after v w m =
    ⊎_elim (λ access. let c = access.count in (_, c.seen_after))
    (λ marks. ⊎_elim (λ own. let a = own.advance in (_, a.seen_after)) (λ other. let a = other.advance in (_, a.seen_after)) marks) m.steps

-- so is what it has made by its next event
pub recorded_after : (rerun : Rerun) → IsOfRecording rerun → (v : PlayerView) (player : Player) → IsPlayerOf rerun.field player → MakesNext v (view_of player)
    → Begins (view_of player).player.journal (recorded_of rerun (view_of player).number)
recorded_after rerun recording v player own m =
    let w = view_of player in
    let seen = seen_after v w m in
    let belongs = own.own.0 in
    let P : Script → Log → Type 0 = λ script log. OrdersConflicts script log.threads → Begins w.player.journal (journal_of (journals_after script log.threads (lowest_order script log.threads)) w.number) in
    let of_field = subst (λ (log : Log). P (script_in rerun.field) log) belongs.2 (subst (λ (script : Script). P script w.log) belongs.1 (front_recorded w seen.0 seen.1)) in
    subst (λ (js : Journals). Begins w.player.journal (journal_of js w.number)) (sym recording.journals) (of_field recording.orders)

pub get_middle : {A : Type 0} (xs : List A) (x : A) (ys : List A) → slice_get (xs ++ x ∷ ys) (length xs) ≡ Some x
get_middle [] x ys = refl
get_middle (y ∷ xs) x ys = get_middle xs x ys

-- the event after those that were made is the one recorded there
pub made_as_recorded : (recorded before : List Event) (made event : Event) → Begins (before ++ made ∷ []) recorded → slice_get recorded (length before) ≡ Some event → made ≡ event
made_as_recorded recorded before made event begins is =
    let here : slice_get recorded (length before) ≡ Some made =
    ap (λ (l : List Event). slice_get l (length before)) (begins.1 ∙ append_assoc before (made ∷ []) begins.0) ∙ get_middle before made begins.0 in
    let same : Some made ≡ Some event = sym here ∙ is in cc

-- once no event is left, all were made
pub none_left : (journal recorded : List Event) → Begins journal recorded → slice_get recorded (length journal) ≡ None → journal ≡ recorded
none_left journal recorded begins none = go begins.0 begins.1
  where
    go : (more : List Event) → recorded ≡ journal ++ more → journal ≡ recorded
    go [] is = sym (append-nil journal) ∙ sym is
    go (e ∷ more) is = let some = get_middle journal e more in let here = ap (λ (l : List Event). slice_get l (length journal)) is in absurd cc
