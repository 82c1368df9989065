-- What a player knows between two of its calls, and what a step makes of it.
use Rattle.std.proofs.Common.{◌≡◌, ◌⊎◌, inl, inr, ℕ, suc, ◌+◌, ◌<◌, ◌≤◌, Bool, true, false, nat_lt, if◌then◌else◌, cond, List, [], ◌∷◌, ◌++◌, length, get_or, Option, Some, None, slice_get, refl, sym, ap, ◌∙◌, subst, subst₂, arith, length-append}
use Rattle.std.proofs.lemmas.Bool.{eq-eqb, ltb-false, ltb-true}
use Rattle.std.proofs.lemmas.List.Sums.{sum_by-cons, sum_by-append}
use Rattle.std.specs.List.{sum_by}
use Rattle.std.specs.Vec.{vec_len, vec_capacity}
use Rattle.octet_model.specs.declared.event.Event.{Event}
use Rattle.octet_model.specs.declared.event.Event.TheVariants.{Read, Write, Update, Marked}
use Rattle.octet_model.specs.declared.event.Mark.{Mark}
use Rattle.octet_model.specs.declared.log.Gapped.{Gapped}
use Rattle.octet_model.specs.declared.log.Log.{Log}
use Rattle.octet_model.specs.declared.log.ThreadLog.{ThreadLog}
use Rattle.octet_model.specs.Thread.{AccessOrEnd, ToRead, ToWrite, ToBump, ToEnd, starting_configuration, added}
use Rattle.octet_model.specs.Journals.{access_count, mark_count, gap_after, gapped_marks, due_mark, next_access, mark_first}
use Rattle.octet_model.specs.Machine.{Next, Wants, NothingFits, MakeMark, MakeRead, MakeWrite, MakeUpdate}
use Rattle.octet_model.specs.Orders.{by_log, commands_of, thread_log_of}
use Rattle.octet_model.proofs.lemmas.Splits.{length_parts, length-gapped_marks}
use Rattle.octet_model.proofs.lemmas.Validity.{valid_log}
use Rattle.octet_replay.specs.Threads.{IsReplayOf, next_by_counts, next_event, Grown, HasRoomFor, StandsFor}
use Rattle.octet_replay.specs.NextDemand.{demand_of}
use Rattle.octet_replay.specs.declared.thread.ThreadReplay.{ThreadReplay}
use Rattle.octet_replay.proofs.lemmas.Growing.{by_counts, grows, stands_for, has_room}
use Rattle.octet_replay.proofs.lemmas.Valid.{few_accesses, few_marks}
use Rattle.octet_parallel.specs.declared.field.Field.{Field}
use Rattle.octet_parallel.specs.declared.player.Player.{Player}
use Rattle.octet_parallel.specs.State.{PlayerState, FieldState, player_of}
use Rattle.octet_parallel.specs.Steps.{Kind, ToRead, ToWrite, ToBump, ToAdvance, step, target, event_next, with_event, IsAmissBy}
use Rattle.octet_replay.specs.Judged.{DemandsAccess, DemandsEnd}
use Rattle.octet_parallel.specs.Tracks.{Ahead, IsOnTrack}
use Rattle.octet_parallel.specs.Views.{PlayerView, next_in}
use Rattle.octet_parallel.specs.Rule.{Steps}
use Rattle.octet_parallel.specs.Seats.{IsSeatOf}
use Rattle.octet_parallel.specs.Calls.{view_of, script_in, log_in, IsPlayerOf}
use Rattle.octet_parallel.proofs.steps.Keeping.{own_track}
use Rattle.octet_parallel.proofs.steps.Kept.{next_seen}
use Rattle.octet_parallel.proofs.verdicts.Tracks.{next_left}

-- ---- what is next for a player, by what it keeps
module _ (field : Field) (p : Player) (own : IsPlayerOf field p) where
  abbrev log : ThreadLog
  log = thread_log_of (log_in field).threads p.number

  pub next_here : next_in (view_of p) ≡ next_by_counts log p.replay
  next_here =
      (λ i. by_log (own.own.0.1 i) ((own.own.0.2 i).threads) (own.number i) (own.journal i))
      ∙ by_counts (commands_of (script_in field) p.number) (starting_configuration (script_in field).fuel) (length (script_in field).objects) log p.journal.items p.replay own.replay

  -- the event that is next on a heap
  module _ (heap : List ℕ) (event : Event) (is : next_event (next_in (view_of p)) heap ≡ Some event) where
    event_here : next_event (next_by_counts log p.replay) heap ≡ Some event
    event_here = ap (λ (n : Next). next_event n heap) (sym next_here) ∙ is

    pub stands : StandsFor event p.replay
    stands = stands_for (commands_of (script_in field) p.number) (starting_configuration (script_in field).fuel) (length (script_in field).objects) log p.journal.items p.replay own.replay heap event event_here

    pub room : HasRoomFor event p.replay
    room = has_room (commands_of (script_in field) p.number) (starting_configuration (script_in field).fuel) (length (script_in field).objects) log p.journal.items p.replay own.replay heap event event_here
        (few_accesses (log_in field).threads (log_in field).valid p.number) (few_marks (log_in field).threads (log_in field).valid p.number)

    pub replays : (after : ThreadReplay) → Grown p.replay event after
        → IsReplayOf (commands_of (script_in field) p.number) (starting_configuration (script_in field).fuel) (length (script_in field).objects) log (p.journal.items ++ event ∷ []) after
    replays after grown = grows (commands_of (script_in field) p.number) (starting_configuration (script_in field).fuel) (length (script_in field).objects) log p.journal.items p.replay own.replay heap event after event_here grown

-- the journal after a step follows the log
pub track_after : (k : Kind) (v : PlayerView) (t : ℕ) (w : PlayerView) → Steps k v t w → IsOnTrack (thread_log_of w.log.threads w.number) w.player.journal
track_after k v t w took =
    let s : FieldState = step k v.number took.before in let seen = took.seen_after in
    subst (λ (p : PlayerState). IsOnTrack (thread_log_of w.log.threads w.number) p.journal) seen.stands
    (subst (λ (l : Log). IsOnTrack (thread_log_of l.threads w.number) (player_of s w.number).journal) seen.log (own_track s seen.sound w.number))

-- a journal that follows its log is no longer than it
pub no_longer : (log : ThreadLog) (journal : List Event) → IsOnTrack log journal → length journal ≤ log.accesses + length log.marks
no_longer log journal track =
    omega (
      arith,
      length_parts journal,
      track.accesses,
      ap (λ (marks : List Gapped). length marks) track.marks,
      length-append (gapped_marks 0 journal) track.rest,
      length-gapped_marks 0 journal,
    )

-- ---- one event more
-- the event that a step makes on the heap that it finds
pub record Happens (v : PlayerView) (event : Event) (w : PlayerView) : Type 0 where
  pub heap : List ℕ
  pub is : next_event (next_in v) heap ≡ Some event
  pub journal : w.player.journal ≡ v.player.journal ++ event ∷ []

module _ (v : PlayerView) (told_word : ℕ) (w : PlayerView) where
  pub read_happens : (object : ℕ) → Steps ToRead v told_word w → next_in v ≡ Wants (MakeRead object) → Happens v (Read object told_word) w
  read_happens object took next = record {
    heap = took.before.cells;
    is = ap (λ (n : Next). next_event n took.before.cells) next ∙ ap (λ (x : ℕ). Some (Read object x)) (sym (took.word ∙ ap (λ (n : Next). get_or took.before.cells (target n) 0) (next_seen v took.before took.seen ∙ next)));
    journal = ap (λ (x : PlayerView). x.player.journal) took.moves ∙ ap (λ (n : Next). with_event v.player.journal (event_next n told_word)) next;
  }

  pub write_happens : (object value : ℕ) → Steps ToWrite v told_word w → next_in v ≡ Wants (MakeWrite object value) → Happens v (Write object value) w
  write_happens object value took next = record {
    heap = [];
    is = ap (λ (n : Next). next_event n []) next;
    journal = ap (λ (x : PlayerView). x.player.journal) took.moves ∙ ap (λ (n : Next). with_event v.player.journal (event_next n told_word)) next;
  }

  pub bump_happens : (object amount after : ℕ) → Steps ToBump v told_word w → next_in v ≡ Wants (MakeUpdate object (added amount)) → after ≡ added amount told_word → Happens v (Update object told_word after) w
  bump_happens object amount after took next is = record {
    heap = took.before.cells;
    is =
        let there : told_word ≡ get_or took.before.cells object 0 = took.word ∙ ap (λ (n : Next). get_or took.before.cells (target n) 0) (next_seen v took.before took.seen ∙ next) in
        ap (λ (n : Next). next_event n took.before.cells) next ∙ (λ i. Some (Update object (sym there i) (added amount (sym there i)))) ∙ ap (λ (x : ℕ). Some (Update object told_word x)) (sym is);
    journal =
        ap (λ (x : PlayerView). x.player.journal) took.moves ∙ ap (λ (n : Next). with_event v.player.journal (event_next n told_word)) next
        ∙ ap (λ (x : ℕ). v.player.journal ++ Update object told_word x ∷ []) (sym is);
  }

  pub mark_happens : (mark : Mark) → Steps ToAdvance v told_word w → v.player.owes ≡ false → next_in v ≡ Wants (MakeMark mark) → Happens v (Marked mark) w
  mark_happens mark took free next = record {
    heap = [];
    is = ap (λ (n : Next). next_event n []) next;
    journal =
        ap (λ (x : PlayerView). x.player.journal) took.moves ∙ ap (λ (b : Bool). with_event v.player.journal (if b then None else event_next (next_in v) told_word)) free
        ∙ ap (λ (n : Next). with_event v.player.journal (event_next n told_word)) next;
  }

  -- an access that is counted stays
  pub counted : Steps ToAdvance v told_word w → v.player.owes ≡ true → w.player.journal ≡ v.player.journal
  counted took owes = ap (λ (x : PlayerView). x.player.journal) took.moves ∙ ap (λ (b : Bool). with_event v.player.journal (if b then None else event_next (next_in v) told_word)) owes

-- there is room for it
pub journal_room : (field : Field) (p : Player) → IsPlayerOf field p → (w : PlayerView) (event : Event) → w.log ≡ log_in field → w.number ≡ p.number → w.player.journal ≡ (view_of p).player.journal ++ event ∷ []
    → IsOnTrack (thread_log_of w.log.threads w.number) w.player.journal → vec_len p.journal < vec_capacity p.journal
journal_room field p own w event is_log is_number is_journal track =
    let fits = no_longer (thread_log_of w.log.threads w.number) w.player.journal track in
    let logs : thread_log_of w.log.threads w.number ≡ thread_log_of (log_in field).threads p.number = λ i. thread_log_of ((is_log i).threads) (is_number i) in
    let journals = is_journal ∙ ap (λ (j : List Event). j ++ event ∷ []) own.journal in
    omega (
      arith,
      fits,
      ap (λ (l : ThreadLog). l.accesses + length l.marks) logs,
      ap (λ (j : List Event). length j) journals,
      length-append p.journal.items (event ∷ []),
      own.room,
      p.journal.ok.0,
    )

-- the player after it
pub became : (field : Field) (p q : Player) (event : Event) → IsPlayerOf field p → (heap : List ℕ) → next_event (next_in (view_of p)) heap ≡ Some event
    → IsSeatOf field.words q.seat → (view_of q).number ≡ (view_of p).number → (view_of q).player.fate ≡ (view_of p).player.fate → (view_of q).player.owes ≡ false
    → (view_of q).player.journal ≡ (view_of p).player.journal ++ event ∷ [] → IsOnTrack (thread_log_of (view_of q).log.threads (view_of q).number) (view_of q).player.journal
    → Grown p.replay event q.replay → q.journal.items ≡ p.journal.items ++ event ∷ [] → vec_capacity q.journal ≡ vec_capacity p.journal → q.number ≡ p.number → q.fate ≡ p.fate → IsPlayerOf field q
became field p q event own heap is seat same_number same_fate paid is_journal track grown items capacity number fate =
    let journals : (view_of q).player.journal ≡ q.journal.items = is_journal ∙ ap (λ (j : List Event). j ++ event ∷ []) own.journal ∙ sym items in
    let numbers : (view_of q).number ≡ q.number = same_number ∙ own.number ∙ sym number in record {
      own = seat;
      number = numbers;
      inside = let a = own.inside in omega (arith, a, number);
      fate = same_fate ∙ own.fate ∙ sym fate;
      paid = paid;
      journal = journals;
      track = subst₃ (λ (l : Log) (n : ℕ) (j : List Event). IsOnTrack (thread_log_of l.threads n) j) seat.0.2 numbers journals track;
      replay = subst₂ (λ (n : ℕ) (j : List Event). IsReplayOf (commands_of (script_in field) n) (starting_configuration (script_in field).fuel) (length (script_in field).objects) (thread_log_of (log_in field).threads n) j q.replay) (sym number) (sym items)
          (replays field p own heap event is q.replay grown);
      room = let a = own.room in
          let e = ap (λ (n : ℕ). (thread_log_of (log_in field).threads n).accesses + length (thread_log_of (log_in field).threads n).marks) number in omega (arith, a, e, capacity);
    }
  where
    subst₃ : {A B C : Type 0} (P : A → B → C → Type 0) {a a' : A} {b b' : B} {c c' : C} → a ≡ a' → b ≡ b' → c ≡ c' → P a b c → P a' b' c'
    subst₃ P e f g x = subst (λ z. z) (λ i. P (e i) (f i) (g i)) x

-- ---- what is left of a log
-- the accesses are those before marks, and those since the last
total_gaps : (before : ℕ) (journal : List Event) → before + access_count journal ≡ sum_by (λ (g : Gapped). g.gap) (gapped_marks before journal) + gap_after before journal
total_gaps before [] = omega arith
total_gaps before (Read object value ∷ journal) = omega (arith, total_gaps (suc before) journal)
total_gaps before (Write object value ∷ journal) = omega (arith, total_gaps (suc before) journal)
total_gaps before (Update object old new ∷ journal) = omega (arith, total_gaps (suc before) journal)
total_gaps before (Marked mark ∷ journal) = omega (arith, total_gaps 0 journal, sum_by-cons (λ (g : Gapped). g.gap) (record { gap = before; mark = mark }) (gapped_marks 0 journal))

-- where all accesses were made and no mark is due, no mark is left
pub nothing_left : (log : ThreadLog) (journal : List Event) → IsOnTrack log journal → sum_by (λ (g : Gapped). g.gap) log.marks ≤ log.accesses → access_count journal ≡ log.accesses
    → due_mark (slice_get log.marks (mark_count journal)) (gap_after 0 journal) ≡ None → mark_count journal ≡ length log.marks
nothing_left log journal track fits all none = go track.rest track.marks track.ahead (ap (λ (o : Option Gapped). due_mark o (gap_after 0 journal)) (sym (next_left log (ToRead 0) journal [] track)) ∙ none)
  where
    go : (rest : List Gapped) → log.marks ≡ gapped_marks 0 journal ++ rest → Ahead rest (gap_after 0 journal) → due_mark (slice_get rest 0) (gap_after 0 journal) ≡ None → mark_count journal ≡ length log.marks
    go [] marks ahead no_due = omega (arith, ap (λ (ms : List Gapped). length ms) marks, length-append {A = Gapped} (gapped_marks 0 journal) [], length-gapped_marks 0 journal)
    go (next ∷ more) marks ahead no_due =
        let later = ahead next refl in
        let same : next.gap ≡ gap_after 0 journal =
        omega (
          arith,
          later,
          fits,
          all,
          total_gaps 0 journal,
          ap (λ (ms : List Gapped). sum_by (λ (g : Gapped). g.gap) ms) marks,
          sum_by-append (λ (g : Gapped). g.gap) (gapped_marks 0 journal) (next ∷ more),
          sum_by-cons (λ (g : Gapped). g.gap) next more,
        ) in
        absurd (let due : due_mark (Some next) (gap_after 0 journal) ≡ Some next.mark = ap (λ (b : Bool). cond b (Some next.mark) None) (eq-eqb next.gap (gap_after 0 journal) same) in cc)

-- what decides that nothing fits
nothing_fits : (due : Option Mark) (d : AccessOrEnd) (left marks : Bool) → mark_first due (next_access d left marks) ≡ NothingFits
    → (due ≡ None) × (((left ≡ true) × DemandsEnd d) ⊎ ((left ≡ false) × (DemandsAccess d ⊎ (marks ≡ true))))
nothing_fits (Some mark) d left marks is = absurd cc
nothing_fits None (ToRead object) true marks is = absurd cc
nothing_fits None (ToWrite object value) true marks is = absurd cc
nothing_fits None (ToBump object amount) true marks is = absurd cc
nothing_fits None (ToEnd end) true marks is = (refl, inl (refl, tt))
nothing_fits None (ToRead object) false marks is = (refl, inr (refl, inl tt))
nothing_fits None (ToWrite object value) false marks is = (refl, inr (refl, inl tt))
nothing_fits None (ToBump object amount) false marks is = (refl, inr (refl, inl tt))
nothing_fits None (ToEnd end) false true is = (refl, inr (refl, inr refl))
nothing_fits None (ToEnd end) false false is = absurd cc

module _ (field : Field) (p : Player) (own : IsPlayerOf field p) where
  abbrev own_log : ThreadLog
  own_log = thread_log_of (log_in field).threads p.number

  to_view : IsAmissBy (script_in field) (log_in field).threads p.number p.journal.items → IsAmissBy (view_of p).script (view_of p).log.threads (view_of p).number (view_of p).player.journal
  to_view is = subst (λ z. z) (λ i. IsAmissBy (sym own.own.0.1 i) ((sym own.own.0.2 i).threads) (sym own.number i) (sym own.journal i)) is

  gaps_fit : sum_by (λ (g : Gapped). g.gap) own_log.marks ≤ own_log.accesses
  gaps_fit =
      let inside : p.number < length (log_in field).threads = let a = own.inside in let e = field.words.numbered in omega arith in
      ((valid_log (log_in field).threads (log_in field).valid).each p.number inside).gaps

  module _ (none : due_mark (slice_get own_log.marks p.replay.marks) p.replay.gap ≡ None) where
    none_due : due_mark (slice_get own_log.marks (mark_count p.journal.items)) (gap_after 0 p.journal.items) ≡ None
    none_due = (λ i. due_mark (slice_get own_log.marks (sym own.replay.counts.counts_marks i)) (sym own.replay.counts.counts_gap i)) ∙ none

    pub all_made : own_log.accesses ≤ p.replay.accesses → access_count p.journal.items ≡ own_log.accesses
    all_made past = omega (arith, past, own.replay.counts.counts_accesses, own.replay.few_accesses)

    pub no_mark_left : own_log.accesses ≤ p.replay.accesses → mark_count p.journal.items ≡ length own_log.marks
    no_mark_left past = nothing_left own_log p.journal.items own.track gaps_fit (all_made past) none_due

  -- where nothing fits the player is amiss
  pub is_amiss : next_by_counts own_log p.replay ≡ NothingFits → IsAmissBy (view_of p).script (view_of p).log.threads (view_of p).number (view_of p).player.journal
  is_amiss is =
      let replay = p.replay in
      let why = nothing_fits (due_mark (slice_get own_log.marks replay.marks) replay.gap) (demand_of replay.up_next) (nat_lt replay.accesses own_log.accesses) (nat_lt replay.marks (length own_log.marks)) is in
      let here = own.replay.comes.demands in
      to_view (elim why.1 [
        | inl early ↦ inl (record { ends = subst DemandsEnd (sym here) early.1; fewer = omega (arith, ltb-true replay.accesses own_log.accesses early.0, own.replay.counts.counts_accesses) }, none_due why.0)
        | inr late ↦
            let past = ltb-false replay.accesses own_log.accesses late.0 in
            let none_left = no_mark_left why.0 past in
            inr (record {
              demands = elim late.1 [
                | inl demands ↦ subst DemandsAccess (sym here) demands
                | inr marks ↦ absurd (omega (arith, ltb-true replay.marks (length own_log.marks) marks, none_left, own.replay.counts.counts_marks))
              ];
              made = all_made why.0 past;
              no_mark_left = omega (arith, none_left);
            })
      ])
