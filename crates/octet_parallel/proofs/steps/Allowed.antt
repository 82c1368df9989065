-- Each step of a player keeps the rule, by the law of its kind, and acts by the operation of its kind.
use Rattle.std.proofs.Common.{◌≡◌, ◌≢◌, ℕ, ◌+◌, ◌*◌, ◌/◌, ◌%◌, ◌^◌, ◌<◌, ◌≤◌, Bool, true, false, [], ◌∷◌, length, None, if◌then◌else◌, sym, refl, ap, ◌∙◌, subst, arith, length-append}
use Rattle.atomic_table.specs.Table.{State, Me, Allows}
use Rattle.octet_model.specs.declared.event.Event.{Event}
use Rattle.octet_model.specs.declared.event.Event.TheVariants.{Marked}
use Rattle.octet_model.specs.declared.event.Mark.{Mark}
use Rattle.octet_model.specs.declared.script.Script.{Script}
use Rattle.octet_model.specs.declared.log.Log.{Log}
use Rattle.octet_model.specs.Thread.{added}
use Rattle.octet_model.specs.Machine.{Next, Wants, MakeMark, MakeRead, MakeWrite, MakeUpdate}
use Rattle.octet_parallel.specs.declared.fate.Fate.{Fate}
use Rattle.octet_parallel.specs.declared.fate.Fate.TheVariants.{Playing, Amiss, Stopped}
use Rattle.octet_parallel.specs.Needs.{Needs}
use Rattle.octet_parallel.specs.State.{PlayerState, FieldState, player_of, found_of, made_by, stop_number, progress_place, cell_place, next_of_player}
use Rattle.octet_parallel.specs.Steps.{Kind, ToLook, ToRead, ToWrite, ToBump, ToAdvance, ToStop, target, told, with_event, event_next, StopsAs, IsFree, IsAmissBy}
use Rattle.octet_parallel.specs.Laws.{AreFound}
use Rattle.octet_parallel.specs.Views.{PlayerView, next_in}
use Rattle.octet_parallel.specs.Rule.{IsSeenBy, IsRuled, Acts, operation_on, place_by}
use Rattle.octet_parallel.specs.Conditions.{IsFreeIn, HasFound, MayMark, StopsIn}
use Rattle.octet_parallel.proofs.steps.Lawful.{look_is_lawful, read_is_lawful, write_is_lawful, bump_is_lawful, count_is_lawful, mark_is_lawful, stop_is_lawful}
use Rattle.octet_parallel.proofs.steps.Kept.{Plays, tells, next_seen}

-- a step that is taken on its own word
acting : (holds : State (Unit {0}) PlayerView → Type 0) (slots id : ℕ) (me : Me (Unit {0}) PlayerView) (place given : ℕ) (f tell : ℕ → ℕ) (k : Kind) → place ≡ place_by k me.0
    → Allows holds slots id me place f (λ word. Plays k me (tell word)) → Allows holds slots id me place f (λ word. Acts k (operation_on slots place given) me (tell word))
acting holds slots id me place given f tell k is allows s ruled slotted seen small =
    let all = allows s ruled slotted seen small in
    (all.0, all.1, all.2, all.3, (all.4.0, all.4.1, is))

-- a free player in a state
free_in : (v : PlayerView) (s : FieldState) → IsSeenBy v s → IsFreeIn v → IsFree (player_of s v.number)
free_in v s seen free = subst IsFree (sym seen.stands) free

players_in : (v : PlayerView) (s : FieldState) → IsSeenBy v s → length s.players ≡ length v.log.threads
players_in v s seen = seen.sound.as_many ∙ ap (λ (l : Log). length l.threads) seen.log

amiss_in : (v : PlayerView) (s : FieldState) → IsSeenBy v s → IsAmissBy v.script v.log.threads v.number v.player.journal → IsAmissBy s.script s.log.threads v.number (player_of s v.number).journal
amiss_in v s seen is =
    subst (λ (z : Script). IsAmissBy z s.log.threads v.number (player_of s v.number).journal) (sym seen.script)
    (subst (λ (z : Log). IsAmissBy v.script z.threads v.number (player_of s v.number).journal) (sym seen.log)
    (subst (λ (z : PlayerState). IsAmissBy v.script v.log.threads v.number z.journal) (sym seen.stands) is))

stops_in : (v : PlayerView) (s : FieldState) (fate : Fate) → IsSeenBy v s → StopsIn v fate → StopsAs s v.number fate
stops_in v s Playing seen why = absurd why
stops_in v s Amiss seen why = amiss_in v s seen why
stops_in v s (Stopped whom) seen why = ap (λ (p : PlayerState). found_of p whom) seen.stands ∙ why

found_in : (v : PlayerView) (s : FieldState) (mark : Mark) → IsSeenBy v s → HasFound v mark → AreFound s v.number mark
found_in v s mark seen found whom events needs differs =
    subst (λ (p : PlayerState). (events ≤ found_of p whom) × (found_of p whom ≢ stop_number)) (sym seen.stands)
    (found whom events (subst (λ (l : Log). Needs l.threads mark whom events) seen.log needs) differs)

-- what an advance of a player is told, that owes, and that makes a mark
told_owing : (s : FieldState) (t : ℕ) → (player_of s t).owes ≡ true → told ToAdvance t s ≡ made_by s t
told_owing s t owes = ap (λ (b : Bool). length (with_event (player_of s t).journal (if b then None else event_next (next_of_player s t) 0))) owes

told_marking : (s : FieldState) (t : ℕ) (mark : Mark) → (player_of s t).owes ≡ false → next_of_player s t ≡ Wants (MakeMark mark) → told ToAdvance t s ≡ made_by s t + 1
told_marking s t mark free wants =
    ap (λ (b : Bool). length (with_event (player_of s t).journal (if b then None else event_next (next_of_player s t) 0))) free
    ∙ ap (λ (n : Next). length (with_event (player_of s t).journal (event_next n 0))) wants
    ∙ length-append (player_of s t).journal (event_made mark ∷ [])
  where
    event_made : Mark → Event
    event_made m = Marked m

module _ (script : Script) (log : Log) (slots id : ℕ) (me : Me (Unit {0}) PlayerView) (live : me.0.is_live ≡ true) where
  abbrev v : PlayerView
  v = me.0

  pub looks : (place whom : ℕ) → IsFreeIn v → v.log ≡ log → whom < length log.threads → place ≡ 8 * whom
      → Allows (IsRuled script log) slots id me place (λ word. word) (Acts (ToLook (place / 8)) (operation_on slots place 0) me)
  looks place whom free known inside is =
      let there : place / 8 ≡ whom = omega (arith, is) in
      acting (IsRuled script log) slots id me place 0 (λ word. word) (λ word. word) (ToLook (place / 8)) (is ∙ ap progress_place (sym there))
      (tells script log slots id me place (λ word. word) (λ word. word) (ToLook (place / 8)) live
      (λ s seen. (
        look_is_lawful s v.number place (place / 8) seen.sound seen.inside (free_in v s seen free)
            (let e = players_in v s seen in let f = ap (λ (l : Log). length l.threads) known in omega (arith, e, f, inside, there)) (is ∙ ap progress_place (sym there)),
        refl,
      )))

  pub reads : (place object : ℕ) → IsFreeIn v → next_in v ≡ Wants (MakeRead object) → place ≡ cell_place (length v.log.threads) object
      → Allows (IsRuled script log) slots id me place (λ word. word) (Acts ToRead (operation_on slots place 0) me)
  reads place object free next is =
      acting (IsRuled script log) slots id me place 0 (λ word. word) (λ word. word) ToRead (is ∙ ap (λ (n : Next). cell_place (length v.log.threads) (target n)) (sym next))
      (tells script log slots id me place (λ word. word) (λ word. word) ToRead live
      (λ s seen. (read_is_lawful s v.number place object seen.sound seen.inside (free_in v s seen free) (next_seen v s seen ∙ next) (is ∙ ap (λ (n : ℕ). cell_place n object) (sym (players_in v s seen))), refl)))

  pub writes : (place object value : ℕ) → IsFreeIn v → next_in v ≡ Wants (MakeWrite object value) → place ≡ cell_place (length v.log.threads) object
      → Allows (IsRuled script log) slots id me place (λ word. value) (Acts ToWrite (operation_on slots place value) me)
  writes place object value free next is =
      acting (IsRuled script log) slots id me place value (λ word. value) (λ word. word) ToWrite (is ∙ ap (λ (n : Next). cell_place (length v.log.threads) (target n)) (sym next))
      (tells script log slots id me place (λ word. value) (λ word. word) ToWrite live
      (λ s seen. (write_is_lawful s v.number place object value seen.sound seen.inside (free_in v s seen free) (next_seen v s seen ∙ next) (is ∙ ap (λ (n : ℕ). cell_place n object) (sym (players_in v s seen))), refl)))

  pub bumps : (place object amount : ℕ) → IsFreeIn v → next_in v ≡ Wants (MakeUpdate object (added amount)) → place ≡ cell_place (length v.log.threads) object
      → Allows (IsRuled script log) slots id me place (λ word. (word + amount) % 2 ^ 64) (Acts ToBump (operation_on slots place amount) me)
  bumps place object amount free next is =
      acting (IsRuled script log) slots id me place amount (λ word. (word + amount) % 2 ^ 64) (λ word. word) ToBump (is ∙ ap (λ (n : Next). cell_place (length v.log.threads) (target n)) (sym next))
      (tells script log slots id me place (λ word. (word + amount) % 2 ^ 64) (λ word. word) ToBump live
      (λ s seen. (bump_is_lawful s v.number place object amount seen.sound seen.inside (free_in v s seen free) (next_seen v s seen ∙ next) (is ∙ ap (λ (n : ℕ). cell_place n object) (sym (players_in v s seen))), refl)))

  pub counts : (place new : ℕ) → v.player.owes ≡ true → new ≡ length v.player.journal → place ≡ progress_place v.number
      → Allows (IsRuled script log) slots id me place (λ word. new) (λ word. Acts ToAdvance (operation_on slots place new) me new)
  counts place new owes is_new is =
      acting (IsRuled script log) slots id me place new (λ word. new) (λ word. new) ToAdvance is
      (tells script log slots id me place (λ word. new) (λ word. new) ToAdvance live
      (λ s seen.
      let owing : (player_of s v.number).owes ≡ true = ap (λ (p : PlayerState). p.owes) seen.stands ∙ owes in
      let here : new ≡ made_by s v.number = is_new ∙ sym (ap (λ (p : PlayerState). length p.journal) seen.stands) in
      (count_is_lawful s v.number place new seen.sound seen.inside owing is here, here ∙ sym (told_owing s v.number owing))))

  pub marks : (place new : ℕ) → (mark : Mark) → MayMark v mark → new ≡ length v.player.journal + 1 → place ≡ progress_place v.number
      → Allows (IsRuled script log) slots id me place (λ word. new) (λ word. Acts ToAdvance (operation_on slots place new) me new)
  marks place new mark may is_new is =
      acting (IsRuled script log) slots id me place new (λ word. new) (λ word. new) ToAdvance is
      (tells script log slots id me place (λ word. new) (λ word. new) ToAdvance live
      (λ s seen.
      let free = free_in v s seen may.0 in
      let wants = next_seen v s seen ∙ may.1 in
      let here : new ≡ made_by s v.number + 1 = is_new ∙ sym (ap (λ (p : PlayerState). length p.journal + 1) seen.stands) in
      (mark_is_lawful s v.number place new mark seen.sound seen.inside free wants (found_in v s mark seen may.2) is here, here ∙ sym (told_marking s v.number mark free.1 wants))))

  pub stops : (place : ℕ) (fate : Fate) → IsFreeIn v → StopsIn v fate → place ≡ progress_place v.number
      → Allows (IsRuled script log) slots id me place (λ word. stop_number) (λ word. Acts (ToStop fate) (operation_on slots place stop_number) me stop_number)
  stops place fate free why is =
      acting (IsRuled script log) slots id me place stop_number (λ word. stop_number) (λ word. stop_number) (ToStop fate) is
      (tells script log slots id me place (λ word. stop_number) (λ word. stop_number) (ToStop fate) live
      (λ s seen. (stop_is_lawful s v.number place fate seen.sound seen.inside (free_in v s seen free) (stops_in v s fate seen why) is, refl)))
