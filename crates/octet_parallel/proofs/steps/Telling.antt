-- What each player did in a run, with the words that it was told, tells the words that the run leaves: its own progress word follows from its steps, and of each cell all that was found there and all that was left there add up.
use Rattle.std.proofs.Common.{◌≡◌, ◌≢◌, ℕ, ◌+◌, ◌<◌, inl, inr, Bool, List, [], ◌∷◌, ◌++◌, map, length, get_or, set, sym, refl, ap, ◌∙◌, subst, arith, eq-eqb, length-set}
use Rattle.std.specs.Prelude.{◌==◌, if◌then◌else◌}
use Rattle.std.proofs.lemmas.Bool.{cases_eq, ne_eqb}
use Rattle.std.proofs.lemmas.List.{get_or-set_same, get_or-set_other}
use Rattle.octet_model.specs.declared.script.Script.{Script}
use Rattle.octet_model.specs.declared.log.Log.{Log}
use Rattle.octet_model.specs.Machine.{Next, Wants, Finished, NothingFits, MakeMark, MakeRead, MakeWrite, MakeUpdate}
use Rattle.octet_model.specs.Orders.{by_log}
use Rattle.octet_model.specs.Thread.{added}
use Rattle.octet_replay.proofs.lemmas.EventsMade.{same_length}
use Rattle.octet_seats.specs.Runs.{after_all, steps_by}
use Rattle.octet_seats.proofs.lemmas.Rows.{same_members}
use Rattle.octet_seats.proofs.lemmas.Telling.{same_known, same_word}
use Rattle.octet_seats.proofs.lemmas.Seeing.{all_agree}
use Rattle.octet_seats.specs.Cells.{spread}
use Rattle.octet_parallel.specs.State.{PlayerState, FieldState, player_of, unbegun, progress, next_of_player, opening}
use Rattle.octet_parallel.specs.Steps.{Kind, May, step, told, after, target, cells_after, IsRead, IsWrite, IsBump, ToLook, ToRead, ToWrite, ToBump, ToAdvance, ToStop}
use Rattle.octet_parallel.specs.Views.{Taken, facts_of}
use Rattle.octet_parallel.specs.Runs.{PlayerStep, taken_in, moves, MayStep, IsRun, field_after, steps_of}
use Rattle.octet_parallel.specs.Rule.{Follows, HasLeft, IsUnmade}
use Rattle.octet_parallel.specs.Laws.{StepsTellWords, ViewsTellWords}

-- what a player knows: what is replayed, and how far it is
record Known : Type 0 where
  script : Script
  log : Log
  player : PlayerState

abbrev knows : ℕ → FieldState → Known
knows t s = record { script = s.script; log = s.log; player = player_of s t }

abbrev next_by : ℕ → Known → Next
next_by t p = by_log p.script p.log.threads t p.player.journal

abbrev moved : ℕ → Taken → Known → Known
moved t taken p = record { script = p.script; log = p.log; player = after taken.kind (next_by t p) taken.word p.player }

-- what a step on a cell leaves, of what is next and the word that it finds
abbrev left_of : Next → ℕ → ℕ
left_of (Wants (MakeWrite object value)) word = value
left_of (Wants (MakeUpdate object change)) word = change word
left_of _ word = word

abbrev at_object : Bool → ℕ → ℕ
at_object here n = if here then n else 0

-- what a step finds in the cell of this object, and what it leaves, where it changes the cell
abbrev found_in : ℕ → Kind → Next → ℕ → ℕ
found_in object ToWrite next word = at_object (target next == object) word
found_in object ToBump next word = at_object (target next == object) word
found_in object _ next word = 0

abbrev left_in : ℕ → Kind → Next → ℕ → ℕ
left_in object ToWrite next word = at_object (target next == object) (left_of next word)
left_in object ToBump next word = at_object (target next == object) (left_of next word)
left_in object _ next word = 0

-- a step by the law of its kind
mine : (s : FieldState) (next : PlayerStep) → MayStep next s → knows next.player (step next.kind next.player s) ≡ moved next.player (taken_in s next) (knows next.player s)
mine s next may = let t = next.player in
    ap (λ (p : PlayerState). record { script = s.script; log = s.log; player = p }) (get_or-set_same s.players t (after next.kind (next_of_player s t) (told next.kind t s) (player_of s t)) unbegun may.0)

others : (s : FieldState) (next : PlayerStep) (t : ℕ) → t ≢ next.player → knows t (step next.kind next.player s) ≡ knows t s
others s next t ne = let u = next.player in
    ap (λ (p : PlayerState). record { script = s.script; log = s.log; player = p }) (get_or-set_other s.players u t (after next.kind (next_of_player s u) (told next.kind u s) (player_of s u)) unbegun ne)

-- one cell, in which another value takes the place of the one that is there
module _ (cells : List ℕ) (object o : ℕ) (value : ℕ) (inside : object < length cells) where
  changes : get_or (set cells o value) object 0 + at_object (o == object) (get_or cells o 0) ≡ get_or cells object 0 + at_object (o == object) value
  changes = elim (cases_eq o object) [
    | inl same ↦
        let here = eq-eqb o object same in
        let found : at_object (o == object) (get_or cells o 0) ≡ get_or cells object 0 = ap (λ (b : Bool). at_object b (get_or cells o 0)) here ∙ ap (λ (n : ℕ). get_or cells n 0) same in
        let left : at_object (o == object) value ≡ value = ap (λ (b : Bool). at_object b value) here in
        let now : get_or (set cells o value) object 0 ≡ value = ap (λ (n : ℕ). get_or (set cells n value) object 0) same ∙ get_or-set_same cells object value 0 inside in
        omega (arith, found, left, now)
    | inr ne ↦
        let there = ne_eqb o object ne in
        let found : at_object (o == object) (get_or cells o 0) ≡ 0 = ap (λ (b : Bool). at_object b (get_or cells o 0)) there in
        let left : at_object (o == object) value ≡ 0 = ap (λ (b : Bool). at_object b value) there in
        let now : get_or (set cells o value) object 0 ≡ get_or cells object 0 = get_or-set_other cells o object value 0 (λ e. ne (sym e)) in
        omega (arith, found, left, now)
  ]

-- a step on a cell leaves in place of what it finds what it leaves
abbrev Balances : ℕ → Kind → Next → List ℕ → Type 0
Balances object k next cells = get_or (cells_after k next cells) object 0 + found_in object k next (get_or cells (target next) 0) ≡ get_or cells object 0 + left_in object k next (get_or cells (target next) 0)

reads : (object : ℕ) (cells : List ℕ) (next : Next) → IsRead next → Balances object ToRead next cells
reads object cells (Wants (MakeRead o)) is = refl
reads object cells (Wants (MakeMark mark)) is = absurd is
reads object cells (Wants (MakeWrite o value)) is = absurd is
reads object cells (Wants (MakeUpdate o change)) is = absurd is
reads object cells Finished is = absurd is
reads object cells NothingFits is = absurd is

writes : (object : ℕ) (cells : List ℕ) (next : Next) → object < length cells → IsWrite next → Balances object ToWrite next cells
writes object cells (Wants (MakeWrite o value)) inside is = changes cells object o value inside
writes object cells (Wants (MakeMark mark)) inside is = absurd is
writes object cells (Wants (MakeRead o)) inside is = absurd is
writes object cells (Wants (MakeUpdate o change)) inside is = absurd is
writes object cells Finished inside is = absurd is
writes object cells NothingFits inside is = absurd is

bumps : (object : ℕ) (cells : List ℕ) (next : Next) (amount : ℕ) → object < length cells → IsBump amount next → Balances object ToBump next cells
bumps object cells next amount inside is = subst (λ (n : Next). Balances object ToBump n cells) (sym is.1) (changes cells object is.0 (added amount (get_or cells is.0 0)) inside)

-- no step changes how many players and cells there are
many_cells_after : (k : Kind) (next : Next) (cells : List ℕ) → length (cells_after k next cells) ≡ length cells
many_cells_after ToRead (Wants operation) cells = same_length operation cells
many_cells_after ToWrite (Wants operation) cells = same_length operation cells
many_cells_after ToBump (Wants operation) cells = same_length operation cells
many_cells_after ToRead Finished cells = refl
many_cells_after ToRead NothingFits cells = refl
many_cells_after ToWrite Finished cells = refl
many_cells_after ToWrite NothingFits cells = refl
many_cells_after ToBump Finished cells = refl
many_cells_after ToBump NothingFits cells = refl
many_cells_after (ToLook whom) next cells = refl
many_cells_after ToAdvance next cells = refl
many_cells_after (ToStop fate) next cells = refl

cells_kept : (s : FieldState) (run : List PlayerStep) → length (after_all moves s run).cells ≡ length s.cells
cells_kept s [] = refl
cells_kept s (next ∷ run) = cells_kept (step next.kind next.player s) run ∙ many_cells_after next.kind (next_of_player s next.player) s.cells

players_kept : (s : FieldState) (run : List PlayerStep) → length (after_all moves s run).players ≡ length s.players
players_kept s [] = refl
players_kept s (next ∷ run) = let t = next.player in players_kept (step next.kind t s) run ∙ length-set s.players t (after next.kind (next_of_player s t) (told next.kind t s) (player_of s t))

-- a step on one cell of a field of so many players
module _ (players object : ℕ) where
  abbrev HasCell : FieldState → Type 0
  HasCell s = (object < length s.cells) × (length s.players ≡ players)

  keeps : (s : FieldState) (next : PlayerStep) → HasCell s → MayStep next s → HasCell (step next.kind next.player s)
  keeps s next has may = let t = next.player in (
    let e = many_cells_after next.kind (next_of_player s t) s.cells in let h = has.0 in omega arith,
    length-set s.players t (after next.kind (next_of_player s t) (told next.kind t s) (player_of s t)) ∙ has.1,
  )

  one : (s : FieldState) (next : PlayerStep) → HasCell s → MayStep next s
      → get_or (step next.kind next.player s).cells object 0 + found_in object next.kind (next_of_player s next.player) (told next.kind next.player s)
      ≡ get_or s.cells object 0 + left_in object next.kind (next_of_player s next.player) (told next.kind next.player s)
  one s next has may = go next.kind next.player may.1
    where
      go : (k : Kind) (t : ℕ) → May k t s
          → get_or (step k t s).cells object 0 + found_in object k (next_of_player s t) (told k t s) ≡ get_or s.cells object 0 + left_in object k (next_of_player s t) (told k t s)
      go (ToLook whom) t may = refl
      go ToRead t may = reads object s.cells (next_of_player s t) may.1
      go ToWrite t may = writes object s.cells (next_of_player s t) has.0 may.1
      go ToBump t may = bumps object s.cells (next_of_player s t) may.1 has.0 may.2
      go ToAdvance t may = refl
      go (ToStop fate) t may = refl

  same_cell : (s : FieldState) (run other : List PlayerStep) → HasCell s → IsRun s run → IsRun s other → ((t : ℕ) → steps_by moves t s run ≡ steps_by moves t s other)
      → get_or (after_all moves s run).cells object 0 ≡ get_or (after_all moves s other).cells object 0
  same_cell s run other has is also same =
      same_word moves MayStep knows moved HasCell keeps (λ s next _ may. mine s next may) (λ s next t _ may ne. others s next t ne)
      players (λ s next has may. let e = has.1 in let h = may.0 in omega arith) (λ s. get_or s.cells object 0)
      (λ t taken p. found_in object taken.kind (next_by t p) taken.word) (λ t taken p. left_in object taken.kind (next_by t p) taken.word) one s run other has is also same

same_player : (s : FieldState) (run other : List PlayerStep) (t : ℕ) → IsRun s run → IsRun s other → steps_by moves t s run ≡ steps_by moves t s other → player_of (after_all moves s run) t ≡ player_of (after_all moves s other) t
same_player s run other t is also same =
    ap (λ (p : Known). p.player) (same_known moves MayStep knows moved (λ s. Unit {0}) (λ s next _ may. tt) (λ s next _ may. mine s next may) (λ s next t _ may ne. others s next t ne) s run other t tt is also same)

pub steps_tell_words : StepsTellWords
steps_tell_words script log run other is also same =
    let first : FieldState = opening script log in let s : FieldState = field_after script log run in let z : FieldState = field_after script log other in
    let s_players = players_kept first run in let z_players = players_kept first other in let s_cells = cells_kept first run in let z_cells = cells_kept first other in
    let players : s.players ≡ z.players = same_members unbegun s.players z.players (omega arith) (λ t h. same_player first run other t is also (same t)) in
    let cells : s.cells ≡ z.cells = same_members 0 s.cells z.cells (omega arith) (λ object h. same_cell (length first.players) object first run other (omega arith, refl) is also same) in
    λ i. spread (map progress (players i) ++ cells i)

pub views_tell_words : ViewsTellWords
views_tell_words script log table other r q too =
    r.lie ∙ (steps_tell_words script log r.run q.run r.is_run q.is_run
    (all_agree facts_of (Follows script log r.run) (Follows script log q.run) (HasLeft script log r.run) (HasLeft script log q.run) (IsUnmade script log r.run) (IsUnmade script log q.run) (length log.threads)
    (λ t. steps_of t script log r.run ≡ steps_of t script log q.run) (λ v here there. here.trail ∙ sym there.trail) (λ t left here there. here.trail ∙ sym there.trail) (λ t here there. here.trail ∙ sym there.trail)
    table.views other.views r.seats q.seats too)
    ∙ sym q.lie)
