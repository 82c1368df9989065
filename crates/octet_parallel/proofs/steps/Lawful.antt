-- Each kind of step keeps a state sound, and does to the words and the players what it says.
use Rattle.std.proofs.Common.{◌≡◌, ◌≢◌, ℕ, zero, suc, pred, ◌+◌, ◌<◌, ◌≤◌, inl, inr, Bool, true, false, cond, All, List, [], ◌∷◌, ◌++◌, map, length, replicate, get_or, set, Some, None, IsTrue, slice_get, refl, sym, ap, ◌∙◌, subst, arith, length-append}
use Rattle.std.proofs.lemmas.Bool.{cases_eq}
use Rattle.std.proofs.lemmas.List.{length-replicate, set-get_or}
use Rattle.octet_model.specs.declared.event.Event.{Event}
use Rattle.octet_model.specs.declared.event.Event.TheVariants.{Read, Write, Update, Marked}
use Rattle.octet_model.specs.declared.event.Mark.{Mark}
use Rattle.octet_model.specs.Thread.{added}
use Rattle.octet_model.specs.Journals.{mark_count, gap_after, due_mark}
use Rattle.octet_model.specs.Machine.{Journals, journal_of, no_events, Operation, MakeMark, MakeRead, MakeWrite, MakeUpdate, Next, Wants, is_enabled, event_made, heap_after}
use Rattle.octet_model.specs.Orders.{thread_log_of}
use Rattle.octet_model.proofs.lemmas.LowestFronts.{is_next}
use Rattle.octet_parallel.specs.declared.fate.Fate.{Fate}
use Rattle.octet_parallel.specs.declared.fate.Fate.TheVariants.{Playing, Amiss, Stopped}
use Rattle.octet_parallel.specs.Needs.{Needs}
use Rattle.octet_seats.specs.Cells.{spread}
use Rattle.octet_parallel.specs.State.{PlayerState, FieldState, SomeAmiss, player_of, unbegun, made_by, stop_number, shown, progress, words, progress_place, cell_place, next_of_player, plain, opening}
use Rattle.octet_parallel.specs.Steps.{step, after, told, with_event, event_next, front_after, cells_after, target, ToLook, ToRead, ToWrite, ToBump, ToAdvance, ToStop, StopsAs, IsFree, IsRead, IsWrite, IsAmissBy}
use Rattle.octet_parallel.specs.Soundness.{IsSoundLook, IsSoundPlayer, IsSoundField}
use Rattle.octet_parallel.specs.Laws.{LookIsLawful, ReadIsLawful, WriteIsLawful, BumpIsLawful, CountIsLawful, MarkIsLawful, StopIsLawful, OpeningIsSound, WordTellsStop}
use Rattle.octet_parallel.proofs.seats.Spread.{get_progress, set_progress, get_cell, set_cell, same_progress}
use Rattle.octet_parallel.proofs.steps.MayMark.{may_mark}
use Rattle.octet_parallel.proofs.steps.Keeping.{journals_same, journal_is, tracks, draws, short, longer_front, heap_after_it, journals_after_it, mine, others, as_many, some_kept, looks_kept, found_sound, keeps_sound}

-- the words, where a player and its progress word, or the cells, are others
same_words : (ws : List ℕ) (place : ℕ) → set ws place (get_or ws place 0) ≡ ws
same_words ws place = set-get_or ws place 0

longer : (j : List Event) (e : Event) → length (j ++ e ∷ []) ≡ suc (length j)
longer j e = let a = length-append j (e ∷ []) in omega arith

one_less : (j : List Event) (e : Event) → pred (length (j ++ e ∷ [])) ≡ length j
one_less j e = ap pred (longer j e)

-- the progress word, by what becomes of the player
word_by : (p : PlayerState) (f : Fate) → p.fate ≡ f → progress p ≡ elim f [ Playing ↦ shown p | Amiss ↦ stop_number | Stopped whom ↦ stop_number ]
word_by p f is = ap (λ (g : Fate). elim g [ Playing ↦ shown p | Amiss ↦ stop_number | Stopped whom ↦ stop_number ]) is

-- what a player shows that is free
shows : (p : PlayerState) → p.fate ≡ Playing → p.owes ≡ false → progress p ≡ length p.journal
shows p plays free = word_by p Playing plays
    ∙ ap (λ (b : Bool). elim b [ true ↦ pred (length p.journal) | false ↦ length p.journal ]) free

shows_less : (p : PlayerState) → p.fate ≡ Playing → p.owes ≡ true → progress p ≡ pred (length p.journal)
shows_less p plays owes = word_by p Playing plays
    ∙ ap (λ (b : Bool). elim b [ true ↦ pred (length p.journal) | false ↦ length p.journal ]) owes

shown_few : (p : PlayerState) → shown p ≤ length p.journal
shown_few p = go p.owes
  where
    go : (b : Bool) → elim b [ true ↦ pred (length p.journal) | false ↦ length p.journal ] ≤ length p.journal
    go true = omega arith
    go false = omega arith

not_amiss : (p : PlayerState) → p.fate ≡ Playing → p.fate ≡ Amiss → ⊥
not_amiss p plays is = cc

not_stopped : (p : PlayerState) (whom : ℕ) → p.fate ≡ Playing → p.fate ≡ Stopped whom → ⊥
not_stopped p whom plays is = cc

-- what a progress word tells
module _ (s : FieldState) (sound : IsSoundField s) (whom : ℕ) (inside : whom < length s.players) where
  tells_stop : progress (player_of s whom) ≡ stop_number → SomeAmiss s
  tells_stop is = go (player_of s whom).fate refl
    where
      go : (f : Fate) → (player_of s whom).fate ≡ f → SomeAmiss s
      go Playing plays =
          let e : progress (player_of s whom) ≡ shown (player_of s whom) = word_by (player_of s whom) Playing plays in
          absurd (let a = shown_few (player_of s whom) in let b = short s sound whom in omega arith)
      go Amiss amiss = record { whom = whom; within = inside; is_amiss = amiss }
      go (Stopped who) stopped = (sound.each whom inside).stopped who stopped

  tells_few : progress (player_of s whom) ≢ stop_number → progress (player_of s whom) ≤ made_by s whom
  tells_few is = go (player_of s whom).fate refl
    where
      go : (f : Fate) → (player_of s whom).fate ≡ f → progress (player_of s whom) ≤ made_by s whom
      go Playing plays =
          let e : progress (player_of s whom) ≡ shown (player_of s whom) = word_by (player_of s whom) Playing plays in
          let a = shown_few (player_of s whom) in omega arith
      go Amiss amiss = absurd (is (word_by (player_of s whom) Amiss amiss))
      go (Stopped who) stopped = absurd (is (word_by (player_of s whom) (Stopped who) stopped))

pub look_is_lawful : LookIsLawful
look_is_lawful s t place whom sound within free inside at = record {
  may = (free, inside);
  sound =
      keeps_sound s sound t within q s.front s.cells (omega arith) (λ is. is) sound.lawful (sound.journals ∙ sym (journals_same s.players t q refl)) sound.heap
      (record {
        owes = own.owes;
        amiss = own.amiss;
        stopped = λ who is. kept (own.stopped who is);
        looks = new_looks;
      });
  does = record {
    finds = ap (λ (n : ℕ). get_or (words s) n 0) at ∙ get_progress s whom inside;
    leaves =
        (λ i. set (words s) (at i) (sym (get_progress s whom inside) i)) ∙ same_words (words s) (progress_place whom)
        ∙ ap (λ (l : List ℕ). spread (l ++ s.cells)) (sym (same_progress s.players t q refl));
    mine = mine s sound t within q s.front s.cells;
    others = λ u ne. others s sound t within q s.front s.cells u ne;
    many = as_many s sound t within q s.front s.cells;
  };
}
  where
    p : PlayerState
    p = player_of s t

    q : PlayerState
    q = after (ToLook whom) (next_of_player s t) (progress (player_of s whom)) p

    own : IsSoundPlayer s t p
    own = sound.each t within

    after_it : FieldState
    after_it = step (ToLook whom) t s

    kept : SomeAmiss s → SomeAmiss after_it
    kept = some_kept s sound t within q s.front s.cells (omega arith) (λ is. is)

    more_made : (u : ℕ) → made_by s u ≤ made_by after_it u
    more_made u =
        elim (cases_eq u t) [
          | inl same ↦ omega (arith, ap (λ (n : ℕ). made_by s n) same, ap (λ (n : ℕ). made_by after_it n) same, ap (λ (x : PlayerState). length x.journal) (mine s sound t within q s.front s.cells))
          | inr ne ↦ omega (arith, ap (λ (x : PlayerState). length x.journal) (others s sound t within q s.front s.cells u ne))
        ]

    old : All (IsSoundLook after_it) p.found
    old = looks_kept s sound t within q s.front s.cells (omega arith) (λ is. is) p.found own.looks

    new_looks : All (IsSoundLook after_it) ((whom, progress (player_of s whom)) ∷ p.found)
    new_looks zero none inside_it = record {
      stop = λ is. kept (tells_stop s sound whom inside is);
      number = λ ne. let few = tells_few s sound whom inside ne in let more = more_made whom in omega arith;
    }
    new_looks (suc place) none inside_it = old place none (omega arith)

-- the progress word of a player is the stop number exactly where the player is amiss or stopped
pub word_tells_stop : WordTellsStop
word_tells_stop s t sound within = (
  (λ is plays.
      let e : progress (player_of s t) ≡ shown (player_of s t) = word_by (player_of s t) Playing plays in
      let a = shown_few (player_of s t) in let b = short s sound t in omega arith),
  (λ differs. go differs (player_of s t).fate refl),
)
  where
    go : (player_of s t).fate ≢ Playing → (f : Fate) → (player_of s t).fate ≡ f → progress (player_of s t) ≡ stop_number
    go differs Playing is = absurd (differs is)
    go differs Amiss is = word_by (player_of s t) Amiss is
    go differs (Stopped whom) is = word_by (player_of s t) (Stopped whom) is

-- a player stops
pub stop_is_lawful : StopIsLawful
stop_is_lawful s t place fate sound within free why at = record {
  may = (free, why);
  sound =
      keeps_sound s sound t within q s.front s.cells (omega arith) keeps sound.lawful (sound.journals ∙ sym (journals_same s.players t q refl)) sound.heap
      (record {
        owes = λ is. absurd (let b = free.1 in cc);
        amiss = λ is. amiss_by fate is why;
        stopped = λ who is. kept (stopped_by fate who is why);
        looks = looks_kept s sound t within q s.front s.cells (omega arith) keeps p.found own.looks;
      });
  does = record {
    finds = ap (λ (n : ℕ). get_or (words s) n 0) at ∙ get_progress s t within;
    leaves = (λ i. set (words s) (at i) (sym (stops fate refl why) i)) ∙ set_progress s t q within;
    mine = mine s sound t within q s.front s.cells;
    others = λ u ne. others s sound t within q s.front s.cells u ne;
    many = as_many s sound t within q s.front s.cells;
  };
}
  where
    p : PlayerState
    p = player_of s t

    q : PlayerState
    q = after (ToStop fate) (next_of_player s t) stop_number p

    own : IsSoundPlayer s t p
    own = sound.each t within

    keeps : p.fate ≡ Amiss → q.fate ≡ Amiss
    keeps is = absurd (not_amiss p free.0 is)

    kept : SomeAmiss s → SomeAmiss (step (ToStop fate) t s)
    kept = some_kept s sound t within q s.front s.cells (omega arith) keeps

    amiss_by : (f : Fate) → f ≡ Amiss → StopsAs s t f → IsAmissBy s.script s.log.threads t p.journal
    amiss_by Playing is why = absurd why
    amiss_by Amiss is why = why
    amiss_by (Stopped whom) is why = absurd cc

    stopped_by : (f : Fate) (who : ℕ) → f ≡ Stopped who → StopsAs s t f → SomeAmiss s
    stopped_by Playing who is why = absurd why
    stopped_by Amiss who is why = absurd cc
    stopped_by (Stopped whom) who is why = (found_sound s t p own whom).stop why

    stops : (f : Fate) → fate ≡ f → StopsAs s t f → progress q ≡ stop_number
    stops Playing is why = absurd why
    stops Amiss is why = word_by q Amiss is
    stops (Stopped whom) is why = word_by q (Stopped whom) is

-- ---- accesses
module _ (s : FieldState) (t : ℕ) (sound : IsSoundField s) (within : t < length s.players) (free : IsFree (player_of s t)) (o : Operation) (wants : next_of_player s t ≡ Wants o) (enabled : IsTrue (is_enabled (plain s) o)) where
  -- the player after it, with the event that it made
  module _ (q : PlayerState) (is_journal : q.journal ≡ (player_of s t).journal ++ event_made o s.cells ∷ []) (is_fate : q.fate ≡ (player_of s t).fate) (is_found : q.found ≡ (player_of s t).found) where
    more : length (player_of s t).journal ≤ length q.journal
    more = let a = longer (player_of s t).journal (event_made o s.cells) in let b = ap (λ (j : List Event). length j) is_journal in omega arith

    keeps_amiss : (player_of s t).fate ≡ Amiss → q.fate ≡ Amiss
    keeps_amiss is = is_fate ∙ is

    plays_on : q.fate ≡ Playing
    plays_on = is_fate ∙ free.0

    event_keeps : IsSoundField (record { script = s.script; log = s.log; front = s.front ++ t ∷ []; players = set s.players t q; cells = heap_after o s.cells })
    event_keeps =
        keeps_sound s sound t within q (s.front ++ t ∷ []) (heap_after o s.cells) more keeps_amiss
        (longer_front s sound t within o wants enabled) (journals_after_it s sound t within o wants enabled q is_journal) (heap_after_it s sound t within o wants enabled)
        (record {
          owes = λ owes. (plays_on, (let a = longer (player_of s t).journal (event_made o s.cells) in let b = ap (λ (j : List Event). length j) is_journal in omega arith));
          amiss = λ is. absurd (not_amiss q plays_on is);
          stopped = λ who is. absurd (not_stopped q who plays_on is);
          looks = looks_kept s sound t within q (s.front ++ t ∷ []) (heap_after o s.cells) more keeps_amiss q.found (subst (λ looks. All (IsSoundLook s) looks) (sym is_found) (sound.each t within).looks);
        })

    -- an access that isn't counted yet leaves the progress word
    same_word : q.owes ≡ true → progress q ≡ progress (player_of s t)
    same_word owes =
        shows_less q plays_on owes ∙ ap (λ (j : List Event). pred (length j)) is_journal ∙ one_less (player_of s t).journal (event_made o s.cells)
        ∙ sym (shows (player_of s t) free.0 free.1)

pub read_is_lawful : ReadIsLawful
read_is_lawful s t place object sound within free wants at = record {
  may = (free, subst IsRead (sym wants) tt);
  sound = subst (λ (z : FieldState). IsSoundField z) (sym is_step) (event_keeps s t sound within free (MakeRead object) wants refl q refl refl refl);
  does = record {
    finds = (λ i. get_or (words s) (at i) 0) ∙ get_cell s object ∙ ap (λ (n : Next). get_or s.cells (target n) 0) (sym wants);
    leaves =
        (λ i. set (words s) (at i) (get_or s.cells (target (wants i)) 0)) ∙ (λ i. set (words s) (cell_place (length s.players) object) (sym (get_cell s object) i)) ∙ same_words (words s) (cell_place (length s.players) object)
        ∙ ap (λ (l : List ℕ). spread (l ++ s.cells)) (sym (same_progress s.players t q (same_word s t sound within free (MakeRead object) wants refl q refl refl refl refl)))
        ∙ ap words (sym is_step);
    mine = mine s sound t within (after ToRead (next_of_player s t) (told ToRead t s) (player_of s t)) (step ToRead t s).front (step ToRead t s).cells;
    others = λ u ne. others s sound t within (after ToRead (next_of_player s t) (told ToRead t s) (player_of s t)) (step ToRead t s).front (step ToRead t s).cells u ne;
    many = as_many s sound t within (after ToRead (next_of_player s t) (told ToRead t s) (player_of s t)) (step ToRead t s).front (step ToRead t s).cells;
  };
}
  where
    q : PlayerState
    q = record { journal = (player_of s t).journal ++ Read object (get_or s.cells object 0) ∷ []; owes = true; fate = (player_of s t).fate; found = (player_of s t).found }

    by_next : Next → FieldState
    by_next next = record {
      script = s.script;
      log = s.log;
      front = front_after s.front t (event_next next (get_or s.cells (target next) 0));
      players = set s.players t (after ToRead next (get_or s.cells (target next) 0) (player_of s t));
      cells = cells_after ToRead next s.cells;
    }

    is_step : step ToRead t s ≡ record { script = s.script; log = s.log; front = s.front ++ t ∷ []; players = set s.players t q; cells = s.cells }
    is_step = ap by_next wants

pub write_is_lawful : WriteIsLawful
write_is_lawful s t place object value sound within free wants at = record {
  may = (free, subst IsWrite (sym wants) tt);
  sound = subst (λ (z : FieldState). IsSoundField z) (sym is_step) (event_keeps s t sound within free (MakeWrite object value) wants refl q refl refl refl);
  does = record {
    finds = (λ i. get_or (words s) (at i) 0) ∙ get_cell s object ∙ ap (λ (n : Next). get_or s.cells (target n) 0) (sym wants);
    leaves =
        (λ i. set (words s) (at i) value) ∙ set_cell s object value
        ∙ ap (λ (l : List ℕ). spread (l ++ set s.cells object value)) (sym (same_progress s.players t q (same_word s t sound within free (MakeWrite object value) wants refl q refl refl refl refl)))
        ∙ ap words (sym is_step);
    mine = mine s sound t within (after ToWrite (next_of_player s t) (told ToWrite t s) (player_of s t)) (step ToWrite t s).front (step ToWrite t s).cells;
    others = λ u ne. others s sound t within (after ToWrite (next_of_player s t) (told ToWrite t s) (player_of s t)) (step ToWrite t s).front (step ToWrite t s).cells u ne;
    many = as_many s sound t within (after ToWrite (next_of_player s t) (told ToWrite t s) (player_of s t)) (step ToWrite t s).front (step ToWrite t s).cells;
  };
}
  where
    q : PlayerState
    q = record { journal = (player_of s t).journal ++ Write object value ∷ []; owes = true; fate = (player_of s t).fate; found = (player_of s t).found }

    by_next : Next → FieldState
    by_next next = record {
      script = s.script;
      log = s.log;
      front = front_after s.front t (event_next next (get_or s.cells (target next) 0));
      players = set s.players t (after ToWrite next (get_or s.cells (target next) 0) (player_of s t));
      cells = cells_after ToWrite next s.cells;
    }

    is_step : step ToWrite t s ≡ record { script = s.script; log = s.log; front = s.front ++ t ∷ []; players = set s.players t q; cells = set s.cells object value }
    is_step = ap by_next wants

pub bump_is_lawful : BumpIsLawful
bump_is_lawful s t place object amount sound within free wants at = record {
  may = (free, amount, (object, wants));
  sound = subst (λ (z : FieldState). IsSoundField z) (sym is_step) (event_keeps s t sound within free (MakeUpdate object (added amount)) wants refl q refl refl refl);
  does = record {
    finds = (λ i. get_or (words s) (at i) 0) ∙ get_cell s object ∙ ap (λ (n : Next). get_or s.cells (target n) 0) (sym wants);
    leaves =
        (λ i. set (words s) (at i) (added amount (get_or s.cells (target (wants i)) 0))) ∙ set_cell s object (added amount old)
        ∙ ap (λ (l : List ℕ). spread (l ++ set s.cells object (added amount old))) (sym (same_progress s.players t q (same_word s t sound within free (MakeUpdate object (added amount)) wants refl q refl refl refl refl)))
        ∙ ap words (sym is_step);
    mine = mine s sound t within (after ToBump (next_of_player s t) (told ToBump t s) (player_of s t)) (step ToBump t s).front (step ToBump t s).cells;
    others = λ u ne. others s sound t within (after ToBump (next_of_player s t) (told ToBump t s) (player_of s t)) (step ToBump t s).front (step ToBump t s).cells u ne;
    many = as_many s sound t within (after ToBump (next_of_player s t) (told ToBump t s) (player_of s t)) (step ToBump t s).front (step ToBump t s).cells;
  };
}
  where
    old : ℕ
    old = get_or s.cells object 0

    q : PlayerState
    q = record { journal = (player_of s t).journal ++ Update object old (added amount old) ∷ []; owes = true; fate = (player_of s t).fate; found = (player_of s t).found }

    by_next : Next → FieldState
    by_next next = record {
      script = s.script;
      log = s.log;
      front = front_after s.front t (event_next next (get_or s.cells (target next) 0));
      players = set s.players t (after ToBump next (get_or s.cells (target next) 0) (player_of s t));
      cells = cells_after ToBump next s.cells;
    }

    is_step : step ToBump t s ≡ record { script = s.script; log = s.log; front = s.front ++ t ∷ []; players = set s.players t q; cells = set s.cells object (added amount old) }
    is_step = ap by_next wants

-- ---- advances
-- the state after an advance, by what the player owes and what is next for it
abbrev advanced : FieldState → ℕ → Bool → Next → FieldState
advanced s t owes next =
    let p = player_of s t in
    let event = cond owes None (event_next next (length (with_event p.journal (cond owes None (event_next next 0))))) in record {
      script = s.script;
      log = s.log;
      front = front_after s.front t event;
      players = set s.players t (record { journal = with_event p.journal event; owes = false; fate = p.fate; found = p.found });
      cells = s.cells;
    }

pub count_is_lawful : CountIsLawful
count_is_lawful s t place new sound within owes at is_new = record {
  may = inl owes;
  sound = subst (λ (z : FieldState). IsSoundField z) (sym is_step)
      (keeps_sound s sound t within q s.front s.cells (omega arith) (λ is. is) sound.lawful (sound.journals ∙ sym (journals_same s.players t q refl)) sound.heap
      (record {
        owes = λ is. absurd (let b : false ≡ true = is in cc);
        amiss = own.amiss;
        stopped = λ who is. kept (own.stopped who is);
        looks = looks_kept s sound t within q s.front s.cells (omega arith) (λ is. is) q.found own.looks;
      }));
  does = record {
    finds = ap (λ (n : ℕ). get_or (words s) n 0) at ∙ get_progress s t within;
    leaves = (λ i. set (words s) (at i) ((is_new ∙ sym (shows q (own.owes owes).0 refl)) i)) ∙ set_progress s t q within ∙ ap words (sym is_step);
    mine = mine s sound t within (after ToAdvance (next_of_player s t) (told ToAdvance t s) (player_of s t)) (step ToAdvance t s).front (step ToAdvance t s).cells;
    others = λ u ne. others s sound t within (after ToAdvance (next_of_player s t) (told ToAdvance t s) (player_of s t)) (step ToAdvance t s).front (step ToAdvance t s).cells u ne;
    many = as_many s sound t within (after ToAdvance (next_of_player s t) (told ToAdvance t s) (player_of s t)) (step ToAdvance t s).front (step ToAdvance t s).cells;
  };
}
  where
    own : IsSoundPlayer s t (player_of s t)
    own = sound.each t within

    q : PlayerState
    q = record { journal = (player_of s t).journal; owes = false; fate = (player_of s t).fate; found = (player_of s t).found }

    kept : SomeAmiss s → SomeAmiss (record { script = s.script; log = s.log; front = s.front; players = set s.players t q; cells = s.cells })
    kept = some_kept s sound t within q s.front s.cells (omega arith) (λ is. is)

    is_step : step ToAdvance t s ≡ record { script = s.script; log = s.log; front = s.front; players = set s.players t q; cells = s.cells }
    is_step = ap (λ (b : Bool). advanced s t b (next_of_player s t)) owes

-- the mark that is next is due
is_due : (s : FieldState) (t : ℕ) (mark : Mark) → next_of_player s t ≡ Wants (MakeMark mark)
    → due_mark (slice_get (thread_log_of s.log.threads t).marks (mark_count (player_of s t).journal)) (gap_after 0 (player_of s t).journal) ≡ Some mark
is_due s t mark wants = is_next _ _ _ _ (MakeMark mark) wants

pub mark_is_lawful : MarkIsLawful
mark_is_lawful s t place new mark sound within free wants found at is_new = record {
  may = inr (free, mark, wants, enabled);
  sound = subst (λ (z : FieldState). IsSoundField z) (sym is_step)
      (keeps_sound s sound t within q (s.front ++ t ∷ []) s.cells more keeps
      (longer_front s sound t within (MakeMark mark) wants enabled) (journals_after_it s sound t within (MakeMark mark) wants enabled q refl) (heap_after_it s sound t within (MakeMark mark) wants enabled)
      (record {
        owes = λ is. absurd (let b : false ≡ true = is in cc);
        amiss = λ is. absurd (not_amiss q free.0 is);
        stopped = λ who is. absurd (not_stopped q who free.0 is);
        looks = looks_kept s sound t within q (s.front ++ t ∷ []) s.cells more keeps q.found own.looks;
      }));
  does = record {
    finds = ap (λ (n : ℕ). get_or (words s) n 0) at ∙ get_progress s t within;
    leaves = (λ i. set (words s) (at i) (is_word i)) ∙ set_progress s t q within ∙ ap words (sym is_step);
    mine = mine s sound t within (after ToAdvance (next_of_player s t) (told ToAdvance t s) (player_of s t)) (step ToAdvance t s).front (step ToAdvance t s).cells;
    others = λ u ne. others s sound t within (after ToAdvance (next_of_player s t) (told ToAdvance t s) (player_of s t)) (step ToAdvance t s).front (step ToAdvance t s).cells u ne;
    many = as_many s sound t within (after ToAdvance (next_of_player s t) (told ToAdvance t s) (player_of s t)) (step ToAdvance t s).front (step ToAdvance t s).cells;
  };
}
  where
    own : IsSoundPlayer s t (player_of s t)
    own = sound.each t within

    q : PlayerState
    q = record { journal = (player_of s t).journal ++ Marked mark ∷ []; owes = false; fate = (player_of s t).fate; found = (player_of s t).found }

    more : length (player_of s t).journal ≤ length q.journal
    more = let a = longer (player_of s t).journal (Marked mark) in omega arith

    keeps : (player_of s t).fate ≡ Amiss → q.fate ≡ Amiss
    keeps is = is

    is_word : new ≡ progress q
    is_word = is_new ∙ (let a = longer (player_of s t).journal (Marked mark) in let e : made_by s t + 1 ≡ length q.journal = omega arith in e) ∙ sym (shows q free.0 refl)

    all_made : (whom events : ℕ) → Needs s.log.threads mark whom events → whom ≢ t → events ≤ length (journal_of (plain s).journals whom)
    all_made whom events needs differs =
        let a = found whom events needs differs in
        let b = (found_sound s t (player_of s t) own whom).number a.1 in
        let c = ap (λ (j : List Event). length j) (journal_is s sound whom) in omega arith

    enabled : IsTrue (is_enabled (plain s) (MakeMark mark))
    enabled =
        may_mark s.log.threads s.log.valid sound.untied (plain s) (tracks s sound) (draws s sound) t (let e = sound.as_many in omega arith) mark
        (ap (λ (j : List Event). due_mark (slice_get (thread_log_of s.log.threads t).marks (mark_count j)) (gap_after 0 j)) (journal_is s sound t) ∙ is_due s t mark wants)
        all_made

    is_step : step ToAdvance t s ≡ record { script = s.script; log = s.log; front = s.front ++ t ∷ []; players = set s.players t q; cells = s.cells }
    is_step = ap (λ (b : Bool). advanced s t b (next_of_player s t)) free.1 ∙ ap (λ (n : Next). advanced s t false n) wants

-- ---- before the first step
pub none_found : (n t : ℕ) → get_or (replicate n unbegun) t unbegun ≡ unbegun
none_found zero t = refl
none_found (suc n) zero = refl
none_found (suc n) (suc t) = none_found n t

no_journals : {A : Type 0} (xs : List A) (n : ℕ) → length xs ≡ n → no_events xs ≡ map (λ (p : PlayerState). p.journal) (replicate n unbegun)
no_journals [] zero e = refl
no_journals [] (suc n) e = absurd (omega arith)
no_journals (x ∷ xs) zero e = absurd (omega arith)
no_journals (x ∷ xs) (suc n) e = ap (λ (js : Journals). [] ∷ js) (no_journals xs n (omega arith))

pub opening_is_sound : OpeningIsSound
opening_is_sound script log agree untied = record {
  agree = agree;
  untied = untied;
  as_many = length-replicate (length log.threads) unbegun;
  lawful = tt;
  journals = no_journals script.threads (length log.threads) agree;
  heap = refl;
  each = λ t inside. subst (λ (p : PlayerState). IsSoundPlayer (opening script log) t p) (sym (none_found (length log.threads) t)) (record {
    owes = λ is. absurd (let b : false ≡ true = is in cc);
    amiss = λ is. absurd (not_amiss unbegun refl is);
    stopped = λ whom is. absurd (not_stopped unbegun whom refl is);
    looks = λ place none inside_it. absurd (omega arith);
  });
}
