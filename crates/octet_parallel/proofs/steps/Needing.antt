-- What a mark needs, and what a look finds of it.
use Rattle.std.proofs.Common.{◌≡◌, ◌≢◌, ℕ, suc, pred, ◌-◌, get_or, ◌<◌, ◌≤◌, inl, inr, Bool, if◌then◌else◌, List, [], length, Some, None, slice_get, sym, ap, ◌∙◌, subst, arith}
use Rattle.std.proofs.lemmas.Bool.{cases_lt, eq-eqb}
use Rattle.std.proofs.lemmas.List.{get_or_past}
use Rattle.std.proofs.lemmas.Option.{slice_get_past, slice_get-get_or}
use Rattle.octet_model.specs.declared.event.Mark.{Mark}
use Rattle.octet_model.specs.declared.event.Mark.TheVariants.{Join, Draw, Fence}
use Rattle.octet_model.specs.declared.log.Log.{Log}
use Rattle.octet_model.specs.declared.log.ThreadLog.{ThreadLog}
use Rattle.octet_model.specs.Journals.{mark_count, gap_after, due_mark}
use Rattle.octet_model.specs.Machine.{Wants, MakeMark}
use Rattle.octet_model.specs.Orders.{thread_log_of}
use Rattle.octet_model.specs.Validity.{IsMark}
use Rattle.octet_model.proofs.lemmas.LowestFronts.{is_next}
use Rattle.octet_parallel.specs.Needs.{mark_at, HasMarkAt, Needs}
use Rattle.octet_parallel.specs.Draws.{AreDraws, IsDrawOf, IsWhereDrawn}
use Rattle.octet_parallel.specs.declared.draws.PlayerEvents.{PlayerEvents}
use Rattle.octet_parallel.specs.declared.field.Field.{Field}
use Rattle.octet_parallel.specs.declared.player.Player.{Player}
use Rattle.octet_parallel.specs.State.{found_of, found_last, stop_number}
use Rattle.octet_parallel.specs.Steps.{ToLook}
use Rattle.octet_parallel.specs.Views.{PlayerView, next_in}
use Rattle.octet_parallel.specs.Rule.{Steps}
use Rattle.octet_parallel.specs.Conditions.{HasFound}
use Rattle.octet_parallel.specs.Calls.{view_of, log_in, IsPlayerOf}
use Rattle.octet_parallel.proofs.steps.MayMark.{due_is_valid}

-- ---- where a draw stands, by the table
module _ (log : List ThreadLog) (draws : List PlayerEvents) (are : AreDraws log draws) (number : ℕ) (some : 0 < number) where
  at_number : (whom place : ℕ) → HasMarkAt log whom place (Draw number) → slice_get draws (pred number) ≡ Some (record { whom = whom; events = suc place })
  at_number whom place has = are.0 whom place (pred number) (subst (λ (n : ℕ). HasMarkAt log whom place (Draw n)) (let e : number ≡ suc (pred number) = omega arith in e) has)

  pub none_drawn : slice_get draws (pred number) ≡ None → IsWhereDrawn log number None
  none_drawn none whom place has = let there = at_number whom place has in cc

  pub not_drawn : (d : PlayerEvents) → slice_get draws (pred number) ≡ Some d → d.events ≡ 0 → IsWhereDrawn log number None
  not_drawn d at zeroed whom place has =
      let e : record { whom = whom; events = suc place } ≡ d = let there = at_number whom place has in cc in
      let f : suc place ≡ d.events = ap (λ (x : PlayerEvents). x.events) e in omega arith

  pub is_drawn : (d : PlayerEvents) → slice_get draws (pred number) ≡ Some d → d.events ≢ 0 → IsWhereDrawn log number (Some d)
  is_drawn d at some_events = (
    subst (λ (n : ℕ). IsDrawOf log n d) (let e : suc (pred number) ≡ number = omega arith in e) (are.1 (pred number) d at (omega arith)),
    λ whom place has.
        let e : record { whom = whom; events = suc place } ≡ d = let there = at_number whom place has in cc in
        (ap (λ (x : PlayerEvents). x.whom) e, ap (λ (x : PlayerEvents). x.events) e),
  )

-- what is read of the table
pub past_table : (draws : List PlayerEvents) (number place : ℕ) → place ≡ number - 1 → length draws ≤ place → slice_get draws (pred number) ≡ None
past_table draws number place is past = slice_get_past draws (pred number) (omega arith)

pub read_table : (draws : List PlayerEvents) (number place : ℕ) (d : PlayerEvents) → place ≡ number - 1 → place < length draws → d ≡ get_or draws place d → slice_get draws (pred number) ≡ Some d
read_table draws number place d is inside at = ap (slice_get draws) (let e : pred number ≡ place = omega arith in e) ∙ slice_get-get_or draws place d inside ∙ ap Some (sym at)

-- the thread that has a mark is one of the log's
has_within : (log : List ThreadLog) (whom place : ℕ) (mark : Mark) → HasMarkAt log whom place mark → whom < length log
has_within log whom place mark has =
    elim (cases_lt whom (length log)) [
      | inl below ↦ below
      | inr past ↦ absurd (let none = ap (λ (l : ThreadLog). mark_at l.marks place) (get_or_past log whom (record { accesses = 0; marks = [] }) past) in cc)
    ]

-- so a mark that is next needs one of them
pub whom_within : (field : Field) (p : Player) → IsPlayerOf field p → (mark : Mark) → next_in (view_of p) ≡ Wants (MakeMark mark) → (whom events : ℕ) → Needs (log_in field).threads mark whom events → whom < field.words.players
whom_within field p own mark next whom events needs =
    let v = view_of p in
    let due : due_mark (slice_get (thread_log_of v.log.threads v.number).marks (mark_count v.player.journal)) (gap_after 0 v.player.journal) ≡ Some mark = is_next _ _ _ _ (MakeMark mark) next in
    let numbers : length (log_in field).threads ≡ field.words.players = field.words.numbered in
    let same : length v.log.threads ≡ length (log_in field).threads = ap (λ (l : Log). length l.threads) own.own.0.2 in
    let inside : v.number < length v.log.threads = let a = own.inside in let b = own.number in omega arith in
    go mark due needs (let e = numbers in e) (due_is_valid v.log.threads v.log.valid v.number inside (mark_count v.player.journal) (gap_after 0 v.player.journal) mark due) same
  where
    go : (m : Mark) → due_mark (slice_get (thread_log_of (view_of p).log.threads (view_of p).number).marks (mark_count (view_of p).player.journal)) (gap_after 0 (view_of p).player.journal) ≡ Some m
        → Needs (log_in field).threads m whom events → length (log_in field).threads ≡ field.words.players → IsMark (length (view_of p).log.threads) (view_of p).number m → length (view_of p).log.threads ≡ length (log_in field).threads → whom < field.words.players
    go (Join from upto) due needs numbers ok same = let a = ok.0 in let b = needs.0 in omega arith
    go (Draw number) due needs numbers ok same = let a = has_within (log_in field).threads whom needs.1 (Draw (pred number)) needs.3 in omega arith
    go (Fence number) due needs numbers ok same = let a = has_within (log_in field).threads whom needs.1 (Draw number) needs.3 in omega arith

-- ---- what a look finds
pub found_now : (v : PlayerView) (whom found : ℕ) (w : PlayerView) → Steps (ToLook whom) v found w → (u : ℕ) → u ≡ whom → found_of w.player u ≡ found
found_now v whom found w took u same =
    ap (λ (x : PlayerView). found_of x.player u) took.moves ∙ ap (λ (b : Bool). if b then found else found_last v.player.found u) (eq-eqb u whom same)

pub has_found : (v : PlayerView) (mark : Mark) (needed : PlayerEvents) (found : ℕ) (w : PlayerView) → Steps (ToLook needed.whom) v found w
    → ((whom events : ℕ) → Needs v.log.threads mark whom events → (whom ≡ needed.whom) × (events ≡ needed.events)) → needed.events ≤ found → found ≢ stop_number → HasFound w mark
has_found v mark needed found w took only enough no_stop whom events needs differs =
    let same = only whom events (subst (λ (l : Log). Needs l.threads mark whom events) (ap (λ (x : PlayerView). x.log) took.moves) needs) in
    let is : found_of w.player whom ≡ found = found_now v needed.whom found w took whom same.0 in
    ((let e = same.1 in omega arith), (λ e. no_stop (sym is ∙ e)))
