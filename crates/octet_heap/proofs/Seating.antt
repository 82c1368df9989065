-- The workers of a heap, by their seats.
use Rattle.std.proofs.Common.{◌≡◌, ◌∙◌, inl, ℕ, zero, suc, ◌<◌, ◌≤◌, IsTrue, List, [], ◌∷◌, ◌++◌, map, length, Option, None, sym, refl, ap, arith, subst, slice_index_or}
use Rattle.octet_model.specs.Machine.{Journals, journal_of}
use Rattle.octet_model.specs.Log.{is_log}
use Rattle.octet_model.specs.Journals.{access_count, log_of}
use Rattle.octet_model.specs.Orders.{plan_of, starting_heap, values_read, ends_of, FitsScript, IsFaithful}
use Rattle.octet_model.specs.Plays.{IsOneHistory}
use Rattle.octet_model.proofs.lemmas.Growth.{faithful_from_history}
use Rattle.octet_state.specs.declared.phase.Phase.TheVariants.{Off}
use Rattle.octet_state.specs.State.{Thread}
use Rattle.octet_state.proofs.lemmas.Laws.{off_is_frugal}
use Rattle.octet_state.proofs.lemmas.ValidLogs.{log_valid}
use Rattle.octet_rule.specs.declared.words.Seat.{Seat}
use Rattle.octet_rule.specs.Seats.{view, threads_of, starts_of, objects_of, Closes, EachFresh}
use Rattle.octet_rule.specs.Seats as rule
use Rattle.octet_heap.specs.declared.heap.Heap.{Heap}
use Rattle.octet_heap.specs.declared.closed.Closed.{Closed}
use Rattle.octet_heap.specs.declared.pending_access.PendingAccess.{PendingAccess}
use Rattle.octet_heap.specs.declared.worker.Worker.{Worker}
use Rattle.octet_heap.specs.Standing.{begun_of, IsOne, IsAbout, IsAtRest, HasFuel, IsWithin}
use Rattle.octet_heap.specs.Workers.{seat_of, begun_in, IsWorkerOf}
use Rattle.octet_heap.specs.Seated.{seats_in, journals_of, ArePlain, IsNew, EachNew, Starts, EachStarts, EachRests}
use Rattle.octet_heap.specs.Closings.{IsClosed}
use Rattle.octet_heap.proofs.Modelled.{same_standing, nothing_begun}

plain_more : (fuel : ℕ) (workers : List Worker) (worker : Worker) → ArePlain fuel workers → worker.fuel ≡ fuel → worker.pending ≡ None → worker.changing ≡ None → worker.slow ≡ 0 → ArePlain fuel (workers ++ worker ∷ [])
plain_more fuel [] worker plain is none no_change none_slow = ((is, none, no_change, none_slow), tt)
plain_more fuel (w ∷ workers) worker plain is none no_change none_slow = (plain.0, plain_more fuel workers worker plain.1 is none no_change none_slow)

plain_at : (fuel : ℕ) (workers : List Worker) (thread : ℕ) (none : Worker) → ArePlain fuel workers → thread < length workers
    → ((slice_index_or workers thread none).fuel ≡ fuel) × ((slice_index_or workers thread none).pending ≡ None) × ((slice_index_or workers thread none).changing ≡ None) × ((slice_index_or workers thread none).slow ≡ 0)
plain_at fuel [] thread none plain there = absurd (omega (arith, there))
plain_at fuel (w ∷ workers) zero none plain there = plain.0
plain_at fuel (w ∷ workers) (suc thread) none plain there = plain_at fuel workers thread none plain.1 (omega (arith, there))

pub map_more : {A B : Type 0} (f : A → B) (xs : List A) (x : A) → map f (xs ++ x ∷ []) ≡ map f xs ++ f x ∷ []
map_more f [] x = refl
map_more f (y ∷ xs) x = ap (λ (l : List _). f y ∷ l) (map_more f xs x)

pub map_length : {A B : Type 0} (f : A → B) (xs : List A) → length (map f xs) ≡ length xs
map_length f [] = refl
map_length f (x ∷ xs) = ap suc (map_length f xs)

pub seated_more : (fuel : ℕ) (seats : List Seat) (workers : List Worker) (worker : Worker) (seat : Seat) → seats_in workers ≡ seats → ArePlain fuel workers
    → worker.recorder.seat ≡ seat → worker.fuel ≡ fuel → worker.pending ≡ None → worker.changing ≡ None → worker.slow ≡ 0 → (seats_in (workers ++ worker ∷ []) ≡ seats ++ seat ∷ []) × ArePlain fuel (workers ++ worker ∷ [])
seated_more fuel seats workers worker seat are plain is same none no_change none_slow = (
  map_more (λ (w : Worker). w.recorder.seat) workers worker ∙ (λ i. are i ++ is i ∷ []),
  plain_more fuel workers worker plain same none no_change none_slow,
)

seat_at : (workers : List Worker) (thread : ℕ) (none : Worker) → slice_index_or (seats_in workers) thread none.recorder.seat ≡ (slice_index_or workers thread none).recorder.seat
seat_at [] thread none = refl
seat_at (w ∷ workers) zero none = refl
seat_at (w ∷ workers) (suc thread) none = seat_at workers thread none

pub same_count : (workers : List Worker) (seats : List Seat) → seats_in workers ≡ seats → length workers ≡ length seats
same_count workers seats are = sym (map_length (λ (w : Worker). w.recorder.seat) workers) ∙ ap (λ (l : List Seat). length l) are

pub each_new : (heap : Heap) (seats : List Seat) (workers : List Worker) → seats_in workers ≡ seats → ArePlain heap.fuel workers → EachFresh heap.words seats → EachNew heap workers
each_new heap seats workers are plain fresh thread none there =
    let w = slice_index_or workers thread none in
    let here : thread < length seats = let a = ap (λ (l : List Seat). length l) are in let b = map_length (λ (x : Worker). x.recorder.seat) workers in omega (arith, there) in
    let is : slice_index_or seats thread none.recorder.seat ≡ w.recorder.seat = ap (λ (l : List Seat). slice_index_or l thread none.recorder.seat) (sym are) ∙ seat_at workers thread none in
    let own = subst (λ (s : Seat). rule.IsSeatOf heap.words s × rule.IsFresh thread s) is (fresh thread none.recorder.seat here) in
    let p = plain_at heap.fuel workers thread none plain there in
    let nothing : begun_in w ≡ None = λ i. begun_of (p.1 i) (p.2 i) in
    let off : (seat_of w).thread.phase ≡ Off = ap (λ (x : Thread). x.phase) own.1.1 in (
      record {
        own = own.0;
        same_fuel = p.0;
        owes_nothing = ap (λ (x : Thread). x.due) own.1.1;
        one = subst (λ (o : Option PendingAccess). IsOne o w.changing) (sym p.1) tt;
        about = subst (λ (o : Option PendingAccess). IsAbout (seat_of w).threads o (seat_of w).thread.phase) (sym nothing) (subst IsAtRest (sym off) tt);
        fuelled = subst (λ (o : Option PendingAccess). HasFuel o w.recorder.log.accesses w.fuel) (sym nothing) tt;
        within = subst (IsWithin (objects_of heap.words)) (sym nothing) tt;
      },
      own.1.0,
      own.1.1,
      own.1.2,
      own.1.3,
      p.1,
      p.3,
    )

pub resting_seats : (heap : Heap) (seats : List Seat) (workers : List Worker) → seats ≡ seats_in workers → length workers ≡ threads_of heap.words → EachRests heap workers → (length seats ≡ threads_of heap.words) × rule.EachRests heap.words seats
resting_seats heap seats workers are all still = let many = ap (λ (l : List Seat). length l) are ∙ map_length (λ (x : Worker). x.recorder.seat) workers in (
  many ∙ all,
  λ thread none there. rests_at thread none (omega (arith, there, many)),
)
  where
    item : (ws : List Worker) (thread : ℕ) (none : Seat) → thread < length ws → (worker : Worker) × (slice_index_or (seats_in ws) thread none ≡ worker.recorder.seat) × ((other : Worker) → slice_index_or ws thread other ≡ worker)
    item [] thread none there = absurd (omega (arith, there))
    item (w ∷ ws) zero none there = (w, refl, λ other. refl)
    item (w ∷ ws) (suc thread) none there = item ws thread none (omega (arith, there))

    rests_at : (thread : ℕ) (none : Seat) → thread < length workers → rule.IsSeatOf heap.words (slice_index_or seats thread none) × rule.RestsAs thread (slice_index_or seats thread none)
    rests_at thread none there = let found = item workers thread none there in
        let h = subst (λ (w : Worker). IsWorkerOf heap w × ((seat_of w).number ≡ thread) × rule.RestsAs thread w.recorder.seat) (found.2 found.0) (let s = still thread found.0 there in (s.0, s.1, (s.1, s.2))) in
        subst (λ (s : Seat). rule.IsSeatOf heap.words s × rule.RestsAs thread s) (sym (ap (λ (l : List Seat). slice_index_or l thread none) are ∙ found.1)) (h.0.own, h.2)

-- the journals of the seats are those of the workers
pub same_journals : (workers : List Worker) → map (λ (seat : Seat). (view seat).journal) (seats_in workers) ≡ journals_of workers
same_journals [] = refl
same_journals (w ∷ workers) = ap (λ (l : Journals). (seat_of w).journal ∷ l) (same_journals workers)

-- no worker has made more accesses than there was fuel for
within_fuel : (heap : Heap) (workers : List Worker) → ((thread : ℕ) (none : Worker) → thread < length workers → IsWorkerOf heap (slice_index_or workers thread none)) → (thread : ℕ) → access_count (journal_of (journals_of workers) thread) ≤ heap.fuel
within_fuel heap [] each thread = omega arith
within_fuel heap (w ∷ workers) each zero = let few = w.few.0 in omega (arith, few, w.recorder.logged.accesses, (each zero w (omega arith)).same_fuel)
within_fuel heap (w ∷ workers) each (suc thread) = within_fuel heap workers (λ k none there. each (suc k) none (omega (arith, there))) thread

pub all_closed : (heap : Heap) (workers : List Worker) (seats : List Seat) (closed : Closed) → length workers ≡ threads_of heap.words → EachRests heap workers → seats ≡ seats_in workers
    → closed.logs ≡ log_of (journals_of workers) → closed.reads ≡ map values_read (journals_of workers) → Closes (starts_of heap.words) seats closed.heap → IsClosed heap workers closed
all_closed heap workers seats closed all still are logs reads closes = record {
  logs = logs;
  valid = λ script threads fuel. let s = closes.last in
      let journals : s.journals ≡ journals_of workers = closes.journals ∙ (ap (map (λ (seat : Seat). (view seat).journal)) are ∙ same_journals workers) in
      let many : length s.journals ≡ length script.threads = ap (λ (l : Journals). length l) journals ∙ (map_length (λ (w : Worker). (seat_of w).journal) workers ∙ (all ∙ sym threads)) in
      let fuelled : (thread : ℕ) → access_count (journal_of s.journals thread) ≤ script.fuel = λ thread.
      subst (λ (js : Journals). access_count (journal_of js thread) ≤ script.fuel) (sym journals)
      (subst (λ (n : ℕ). access_count (journal_of (journals_of workers) thread) ≤ n) (sym fuel) (within_fuel heap workers (λ k none there. (still k none there).0) thread)) in
      subst (λ (l : _). IsTrue (is_log l)) (ap log_of journals ∙ sym logs) (log_valid script s closes.sound many fuelled);
  reads = reads;
  cells = subst (λ (l : List Seat). Closes (starts_of heap.words) l closed.heap) are closes;
  faithful = λ script threads starts fit. let s = closes.last in
      let journals : s.journals ≡ journals_of workers = closes.journals ∙ (ap (map (λ (seat : Seat). (view seat).journal)) are ∙ same_journals workers) in
      let history : IsOneHistory (starting_heap script) s.journals s.cells s.counter = subst (λ (l : List ℕ). IsOneHistory l s.journals s.cells s.counter) (closes.began ∙ sym starts) closes.sound.one_history in
      let many : length script.threads ≡ length s.journals = threads ∙ (sym all ∙ (sym (map_length (λ (w : Worker). (seat_of w).journal) workers) ∙ sym (ap (λ (l : Journals). length l) journals))) in
      let whole = faithful_from_history (plan_of script) s.journals s.cells s.counter history (off_is_frugal s closes.sound closes.off) many (subst (FitsScript script) (sym journals) fit) in
      subst (λ (l : _). IsFaithful script l (record { ends = ends_of script.fuel script.threads (journals_of workers); reads = closed.reads; heap = closed.heap })) (sym logs)
      (subst (λ (o : _). IsFaithful script (log_of (journals_of workers)) o) (λ i. record { ends = ends_of script.fuel script.threads (journals_of workers); reads = sym reads i; heap = closes.cells i })
      (subst (λ (js : Journals). IsFaithful script (log_of js) (record { ends = ends_of script.fuel script.threads js; reads = map values_read js; heap = s.cells })) journals whole));
}

-- a new worker starts
starts : (heap : Heap) (thread : ℕ) (worker : Worker) → IsNew heap thread worker → Starts heap thread worker
starts heap thread worker new = record {
  own = new.0;
  rests = inl (ap (λ (x : Thread). x.phase) new.2);
  number = new.1;
  standing = same_standing worker.pending None worker.changing None _ Off new.5 (none_changing heap worker new.0 new.5 (ap (λ (x : Thread). x.phase) new.2)) (ap (λ (x : Thread). x.phase) new.2);
  journal = new.3;
}
  where
    none_changing : (h : Heap) (w : Worker) → IsWorkerOf h w → w.pending ≡ None → (seat_of w).thread.phase ≡ Off → w.changing ≡ None
    none_changing h w own none off = (nothing_begun (seat_of w).threads w.pending w.changing (seat_of w).thread.phase own.about (inl off)).1

pub each_starts : (heap : Heap) (workers : List Worker) → EachNew heap workers → EachStarts heap workers
each_starts heap workers new thread none there = starts heap thread (slice_index_or workers thread none) (new thread none there)
