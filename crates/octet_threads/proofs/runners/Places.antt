-- Runners that change in their places.
use Rattle.std.proofs.Common.{◌≡◌, ◌∙◌, ℕ, zero, suc, ◌<◌, List, [], ◌∷◌, All, length, map, set, get_or, slice_index_or, Option, None, Some, refl, sym, ap, subst, arith}
use Rattle.std.specs.List.{AllZip}
use Rattle.std.proofs.lemmas.List.{get_or-map, length-map}
use Rattle.std.proofs.lemmas.List.Elements.{AllZip-get_or, length_all_zip}
use Rattle.octet_model.specs.declared.log.Gapped.{Gapped}
use Rattle.octet_model.specs.declared.script.Script.{Script}
use Rattle.octet_model.specs.Journals.{gapped_marks}
use Rattle.octet_interp.specs.Demands.{ThreadState, next_demand}
use Rattle.octet_rule.specs.Conditions.{IsResting}
use Rattle.octet_heap.specs.declared.heap.Heap.{Heap}
use Rattle.octet_heap.specs.declared.worker.Worker.{Worker}
use Rattle.octet_heap.specs.Workers.{seat_of, IsWorkerOf}
use Rattle.octet_live.specs.declared.drainer.Drainer.{Drainer}
use Rattle.octet_live.specs.declared.feed.Feed.{Feed}
use Rattle.octet_live.specs.Feeds.{end_of}
use Rattle.octet_live.specs.Drained.{rings_of, threads_of}
use Rattle.octet_live.proofs.lemmas.Feeds.{still_feed}
use Rattle.octet_threads.specs.declared.heap.runner.Runner.{Runner}
use Rattle.octet_threads.specs.Runners.{end_by, AreOf, HasEnded, IsAtRest, IsEnd, IsSame, IsSeen}
use Rattle.octet_threads.specs.Work.{SendsTo, SendEach, marks_made, workers_in, threads_in}

many_workers : (runners : List Runner) → length (workers_in runners) ≡ length runners
many_workers runners = length-map runners (λ (r : Runner). r.worker)

worker_at : (runners : List Runner) (thread : ℕ) (none : Runner) → thread < length runners → get_or (workers_in runners) thread none.worker ≡ (slice_index_or runners thread none).worker
worker_at runners thread none there = get_or-map (λ (runner : Runner). runner.worker) runners thread none none.worker there

thread_at : (runners : List Runner) (thread : ℕ) (none : Runner) → thread < length runners → get_or (threads_in runners) thread none.config ≡ (slice_index_or runners thread none).config
thread_at runners thread none there = get_or-map (λ (runner : Runner). runner.config) runners thread none none.config there

pub made_at : (runners : List Runner) (thread : ℕ) (none : Runner) → thread < length runners → marks_made runners thread ≡ gapped_marks 0 (seat_of (slice_index_or runners thread none).worker).journal
made_at runners thread none there =
    get_or-map (λ (worker : Worker). gapped_marks 0 (seat_of worker).journal) (workers_in runners) thread none.worker [] (omega (arith, there, many_workers runners))
    ∙ ap (λ (worker : Worker). gapped_marks 0 (seat_of worker).journal) (worker_at runners thread none there)

-- where one has changed, but not what is read of it
pub map_set : {A B : Type 0} (read : A → B) (xs : List A) (i : ℕ) (none y : A) → read y ≡ read (get_or xs i none) → map read (set xs i y) ≡ map read xs
map_set read [] i none y same = refl
map_set {B = B} read (x ∷ xs) zero none y same = ap (λ (b : B). b ∷ map read xs) same
map_set {B = B} read (x ∷ xs) (suc i) none y same = ap (λ (l : List B). read x ∷ l) (map_set read xs i none y same)

pub all_same : (runners : List Runner) → AllZip IsSame runners runners
all_same [] = tt
all_same (runner ∷ runners) = (record { number = refl; commands = refl; end = refl }, all_same runners)

-- one more has changed
pub same_set : (xs ys : List Runner) (i : ℕ) (none y : Runner) → i < length xs → IsSame (get_or xs i none) y → AllZip IsSame xs ys → AllZip IsSame xs (set ys i y)
same_set [] ys i none y there same zip = absurd (omega (arith, there))
same_set (x ∷ xs) [] i none y there same zip = zip
same_set (x ∷ xs) (z ∷ ys) zero none y there same zip = (same, zip.1)
same_set (x ∷ xs) (z ∷ ys) (suc i) none y there same zip = (zip.0, same_set xs ys i none y (omega (arith, there)) same zip.1)

pub same_both : (xs ys zs : List Runner) → AllZip IsSame xs ys → AllZip IsSame ys zs → AllZip IsSame xs zs
same_both [] [] zs p q = q
same_both [] (y ∷ ys) zs p q = absurd p
same_both (x ∷ xs) [] zs p q = absurd p
same_both (x ∷ xs) (y ∷ ys) [] p q = absurd q
same_both (x ∷ xs) (y ∷ ys) (z ∷ zs) p q = (record { number = q.0.number ∙ p.0.number; commands = q.0.commands ∙ p.0.commands; end = q.0.end ∙ p.0.end }, same_both xs ys zs p.1 q.1)

-- what sends by the same ring, sends to a drainer that has the same rings
still_sends : (drainer drainer' : Drainer) (thread : ℕ) (feed feed' : Option Feed) → rings_of drainer' ≡ rings_of drainer → threads_of drainer' ≡ threads_of drainer → end_by feed' ≡ end_by feed → SendsTo drainer thread feed → SendsTo drainer' thread feed'
still_sends drainer drainer' thread feed None rings as_many same (own, is, of) = absurd (let both : None ≡ Some (end_of own) = same ∙ ap end_by is in cc)
still_sends drainer drainer' thread feed (Some own') rings as_many same (own, is, of) =
    let ends : end_of own' ≡ end_of own = (let both : Some (end_of own') ≡ Some (end_of own) = same ∙ ap end_by is in cc) in
    (own', refl, still_feed drainer drainer' thread own own' rings as_many ends of)

pub drained_sends : (drainer drainer' : Drainer) (thread : ℕ) (feed : Option Feed) → rings_of drainer' ≡ rings_of drainer → threads_of drainer' ≡ threads_of drainer → SendsTo drainer thread feed → SendsTo drainer' thread feed
drained_sends drainer drainer' thread feed rings as_many sends = still_sends drainer drainer' thread feed feed rings as_many refl sends

pub still_send : (drainer drainer' : Drainer) (xs ys : List Runner) → AllZip IsSame xs ys → rings_of drainer' ≡ rings_of drainer → threads_of drainer' ≡ threads_of drainer → SendEach drainer xs → SendEach drainer' ys
still_send drainer drainer' xs ys zip rings as_many send thread none there =
    let here : thread < length xs = omega (arith, there, length_all_zip IsSame xs ys zip) in
    still_sends drainer drainer' thread (slice_index_or xs thread none).feed (slice_index_or ys thread none).feed rings as_many (AllZip-get_or IsSame xs ys thread none none zip here).end (send thread none here)

-- a runner with the same worker, at the same place of its thread, is at rest as the other is, and has ended as it has
rests_still : (heap : Heap) (x y : Runner) → y.worker ≡ x.worker → y.config ≡ x.config → IsAtRest heap x → IsAtRest heap y
rests_still heap x y worker config rest = record {
  own = subst (IsWorkerOf heap) (sym worker) rest.own;
  rests = subst (λ (w : Worker). IsResting (seat_of w).thread.phase) (sym worker) rest.rests;
  objects = ap (λ (c : ThreadState). c.objects) config ∙ rest.objects;
}

ended_still : (heap : Heap) (x y : Runner) → y.worker ≡ x.worker → y.config ≡ x.config → HasEnded heap x → HasEnded heap y
ended_still heap x y worker config ended = record {
  rests = rests_still heap x y worker config ended.rests;
  ends = subst (λ (c : ThreadState). IsEnd (next_demand c)) (sym config) ended.ends;
  seen = subst IsSeen (sym worker) ended.seen;
}

-- runners with the same workers, each at the same place of its thread
module _ (xs ys : List Runner) (workers : workers_in ys ≡ workers_in xs) (threads : threads_in ys ≡ threads_in xs) where
  pub as_many : length ys ≡ length xs
  as_many = sym (many_workers ys) ∙ (ap (λ (l : List Worker). length l) workers ∙ many_workers xs)

  module _ (k : ℕ) (none : Runner) (there : k < length ys) where
    here : k < length xs
    here = omega (arith, there, as_many)

    own_worker : (slice_index_or ys k none).worker ≡ (slice_index_or xs k none).worker
    own_worker = sym (worker_at ys k none there) ∙ (ap (λ (l : List Worker). get_or l k none.worker) workers ∙ worker_at xs k none here)

    own_thread : (slice_index_or ys k none).config ≡ (slice_index_or xs k none).config
    own_thread = sym (thread_at ys k none there) ∙ (ap (λ (l : List ThreadState). get_or l k none.config) threads ∙ thread_at xs k none here)

  pub all_rest_still : (heap : Heap) → All (IsAtRest heap) xs → All (IsAtRest heap) ys
  all_rest_still heap rest k none there = rests_still heap (slice_index_or xs k none) (slice_index_or ys k none) (own_worker k none there) (own_thread k none there) (rest k none (here k none there))

  pub all_ended_still : (heap : Heap) → All (HasEnded heap) xs → All (HasEnded heap) ys
  all_ended_still heap ended k none there = ended_still heap (slice_index_or xs k none) (slice_index_or ys k none) (own_worker k none there) (own_thread k none there) (ended k none (here k none there))

  pub of_still : (script : Script) → AreOf script xs → AreOf script ys
  of_still script of = record {
    as_many = as_many ∙ of.as_many;
    each = λ k none there. (let own = of.each k none (here k none there) in record {
      number = ap (λ (w : Worker). (seat_of w).number) (own_worker k none there) ∙ own.number;
      commands = ap (λ (c : ThreadState). c.commands) (own_thread k none there) ∙ own.commands;
    });
  }

pub made_same : (xs ys : List Runner) → workers_in ys ≡ workers_in xs → marks_made ys ≡ marks_made xs
made_same xs ys workers = ap {B = ℕ → List Gapped} (λ (ws : List Worker) (thread : ℕ). slice_index_or (map (λ worker. gapped_marks 0 (seat_of worker).journal) ws) thread []) workers
