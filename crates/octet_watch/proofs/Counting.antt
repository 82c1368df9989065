-- Counting one event after another gives the counts of all.
use Rattle.std.proofs.Common.{◌≡◌, ◌≢◌, ℕ, suc, ◌+◌, ◌-◌, ◌^◌, ◌<◌, ◌≤◌, ◌==◌, cond, List, [], ◌∷◌, ◌++◌, map, length, get_or, take, replicate, set, refl, sym, ap, ◌∙◌, ⊎_elim, arith, zero-add, subst}
use Rattle.std.specs.List.{AllZip, count_by, range_with_len}
use Rattle.std.proofs.lemmas.List.{length-set, get_or-set_same, get_or-set_other, length-replicate, get_or-replicate, take_more, take_all, append-nil}
use Rattle.std.proofs.lemmas.List.Concat.{flat_map-append}
use Rattle.std.proofs.lemmas.Bool.{cases_eq, eq-eqb, ne_eqb}
use Rattle.std.proofs.lemmas.List.FromFn.{fill_by_all, length-map-range_with_len}
use Rattle.std.proofs.lemmas.List.Sums.{sum_by-cons, count_by-le-length}
use Rattle.octet_model.specs.declared.event.Event.{Event}
use Rattle.octet_watch.specs.Tally.{all_events, saturated, class_counts, IsTally, CountsByFunction, counted, CountsOn}

-- ---- places by place

length-counted : (classes numbers : List ℕ) → length (counted classes numbers) ≡ length numbers
length-counted [] numbers = refl
length-counted (class ∷ classes) numbers =
    length-counted classes (set numbers class (saturated (get_or numbers class 0 + 1))) ∙ length-set numbers class (saturated (get_or numbers class 0 + 1))

counted_at : (classes numbers : List ℕ) (k : ℕ) → k < length numbers → get_or numbers k 0 ≤ 2 ^ 64 - 1
    → get_or (counted classes numbers) k 0 ≡ saturated (get_or numbers k 0 + count_by (λ class. class == k) classes)
counted_at [] numbers k lt fits = omega arith
counted_at (class ∷ classes) numbers k lt fits =
    counted_at classes (set numbers class next) k (omega (arith, length-set numbers class next)) (⊎_elim here_fits there_fits (cases_eq class k))
    ∙ ⊎_elim here there (cases_eq class k)
  where
    next : ℕ
    next = saturated (get_or numbers class 0 + 1)

    others : ℕ
    others = count_by (λ other. other == k) classes

    all : ℕ
    all = count_by (λ other. other == k) (class ∷ classes)

    all_is : all ≡ cond (class == k) 1 0 + others
    all_is = sum_by-cons (λ (other : ℕ). cond (other == k) 1 0) class classes

    at_k : ℕ
    at_k = get_or (set numbers class next) k 0

    same : class ≡ k → at_k ≡ saturated (get_or numbers k 0 + 1)
    same is = ap (λ c. get_or (set numbers c (saturated (get_or numbers c 0 + 1))) k 0) is ∙ get_or-set_same numbers k (saturated (get_or numbers k 0 + 1)) 0 lt

    other : class ≢ k → at_k ≡ get_or numbers k 0
    other not = get_or-set_other numbers class k next 0 (λ is. not (sym is))

    here_fits : class ≡ k → at_k ≤ 2 ^ 64 - 1
    here_fits is = omega (arith, same is)

    there_fits : class ≢ k → at_k ≤ 2 ^ 64 - 1
    there_fits not = omega (arith, other not)

    here : class ≡ k → saturated (at_k + others) ≡ saturated (get_or numbers k 0 + all)
    here is = let one : cond {A = ℕ} (class == k) 1 0 ≡ 1 = ap (λ b. cond {A = ℕ} b 1 0) (eq-eqb class k is) in omega (arith, same is, all_is)

    there : class ≢ k → saturated (at_k + others) ≡ saturated (get_or numbers k 0 + all)
    there not = let none : cond {A = ℕ} (class == k) 1 0 ≡ 0 = ap (λ b. cond {A = ℕ} b 1 0) (ne_eqb class k not) in omega (arith, other not, all_is)

pub counts_of_all : (bound : ℕ) (classes : List ℕ) → counted classes (replicate bound 0) ≡ class_counts bound classes
counts_of_all bound classes =
    fill_by_all (λ k. saturated (count_by (λ class. class == k) classes)) (counted classes (replicate bound 0)) bound 0
    (length-counted classes (replicate bound 0) ∙ length-replicate {A = ℕ} bound 0)
    (λ k lt.
    let none : get_or (replicate bound 0) k 0 ≡ 0 = get_or-replicate bound k 0 0 lt in
    counted_at classes (replicate bound 0) k (omega (arith, length-replicate {A = ℕ} bound 0)) (omega arith) ∙ ap (λ n. saturated (n + count_by (λ class. class == k) classes)) none ∙ ap saturated (zero-add (count_by (λ class. class == k) classes)))

-- ---- one event more, and one journal more

counted-append : (classes more numbers : List ℕ) → counted (classes ++ more) numbers ≡ counted more (counted classes numbers)
counted-append [] more numbers = refl
counted-append (class ∷ classes) more numbers = counted-append classes more (set numbers class (saturated (get_or numbers class 0 + 1)))

same_map : {X Y : Type 0} (f g : X → Y) (xs : List X) → ((x : X) → f x ≡ g x) → map f xs ≡ map g xs
same_map f g [] same = refl
same_map f g (x ∷ xs) same = let e : f x ≡ g x = same x in let rest : map f xs ≡ map g xs = same_map f g xs same in cc

count_by-map : (class_of : Event → ℕ) (k : ℕ) (events : List Event) → count_by (λ class. class == k) (map class_of events) ≡ count_by (λ event. class_of event == k) events
count_by-map class_of k [] = refl
count_by-map class_of k (event ∷ events) =
    sum_by-cons (λ (class : ℕ). cond (class == k) 1 0) (class_of event) (map class_of events)
    ∙ ap (λ n. cond (class_of event == k) 1 0 + n) (count_by-map class_of k events)
    ∙ sym (sum_by-cons (λ (event : Event). cond (class_of event == k) 1 0) event events)

module _ (answers : Event → ℕ → Type 0) where
  zip-append : (events more : List Event) (classes others : List ℕ) → AllZip answers events classes → AllZip answers more others → AllZip answers (events ++ more) (classes ++ others)
  zip-append [] more [] others p q = q
  zip-append [] more (class ∷ classes) others p q = elim p [ ]
  zip-append (event ∷ events) more [] others p q = elim p [ ]
  zip-append (event ∷ events) more (class ∷ classes) others p q = (p.0, zip-append events more classes others p.1 q)

  pub counts_more : (events more all : List Event) (before numbers after : List ℕ) → CountsOn answers events before numbers → CountsOn answers more numbers after → all ≡ events ++ more → CountsOn answers all before after
  counts_more events more all before numbers after p q is = record {
    classes = p.classes ++ q.classes;
    answered = subst (λ es. AllZip answers es (p.classes ++ q.classes)) (sym is) (zip-append events more p.classes q.classes p.answered q.answered);
    counts = q.counts ∙ ap (counted q.classes) p.counts ∙ sym (counted-append p.classes q.classes before);
  }

  pub counts_one : (event : Event) (class : ℕ) (numbers after : List ℕ) → answers event class → after ≡ set numbers class (saturated (get_or numbers class 0 + 1)) → CountsOn answers (event ∷ []) numbers after
  counts_one event class numbers after answer is = record { classes = class ∷ []; answered = (answer, tt); counts = is }

  pub counts_journal : (journals : List (List Event)) (i : ℕ) (journal d : List Event) (start items before after stored : List ℕ) → i < length journals → journal ≡ get_or journals i d → before ≡ items → stored ≡ after
      → CountsOn answers (all_events (take i journals)) start items → CountsOn answers journal before after → CountsOn answers (all_events (take (i + 1) journals)) start stored
  counts_journal journals i journal d start items before after stored lt is lent kept p q =
      subst (CountsOn answers (all_events (take (i + 1) journals)) start) (sym kept)
      (counts_more (all_events (take i journals)) journal (all_events (take (i + 1) journals)) start items after p (subst (λ numbers. CountsOn answers journal numbers after) lent q)
      (ap all_events (take_more journals i d lt) ∙ flat_map-append (λ (events : List Event). events) (take i journals) (get_or journals i d ∷ [])
      ∙ ap (λ more. all_events (take i journals) ++ more) (append-nil (get_or journals i d) ∙ sym is)))

  pub tally_of_counts : (bound : ℕ) (journals : List (List Event)) (i : ℕ) (items numbers : List ℕ) → length journals ≤ i → numbers ≡ items
      → CountsOn answers (all_events (take i journals)) (replicate bound 0) items → IsTally answers bound journals numbers
  tally_of_counts bound journals i items numbers past same p = record {
    classes = p.classes;
    answered = subst (λ js. AllZip answers (all_events js) p.classes) (take_all i journals past) p.answered;
    counts = same ∙ p.counts ∙ counts_of_all bound p.classes;
  }

  pub length-tally : (bound : ℕ) (journals : List (List Event)) (numbers : List ℕ) → IsTally answers bound journals numbers → length numbers ≡ bound
  length-tally bound journals numbers p =
      ap (λ (l : List ℕ). length l) p.counts ∙ length-map-range_with_len (λ k. saturated (count_by (λ class. class == k) p.classes)) 0 bound

  -- ---- what a function of the event gives

  classes_are : (class_of : Event → ℕ) → ((event : Event) (class : ℕ) → answers event class → class ≡ class_of event)
      → (events : List Event) (classes : List ℕ) → AllZip answers events classes → classes ≡ map class_of events
  classes_are class_of each [] [] p = refl
  classes_are class_of each [] (class ∷ classes) p = elim p [ ]
  classes_are class_of each (event ∷ events) [] p = elim p [ ]
  classes_are class_of each (event ∷ events) (class ∷ classes) p =
      let first : class ≡ class_of event = each event class p.0 in
      let rest : classes ≡ map class_of events = classes_are class_of each events classes p.1 in
      cc

  length-classes : (events : List Event) (classes : List ℕ) → AllZip answers events classes → length classes ≡ length events
  length-classes [] [] p = refl
  length-classes [] (class ∷ classes) p = elim p [ ]
  length-classes (event ∷ events) [] p = elim p [ ]
  length-classes (event ∷ events) (class ∷ classes) p = ap suc (length-classes events classes p.1)

  pub counts_by_function : (bound : ℕ) (journals : List (List Event)) (numbers : List ℕ) → IsTally answers bound journals numbers → CountsByFunction answers bound journals numbers
  counts_by_function bound journals numbers p class_of each few =
      p.counts ∙ same_map (λ k. saturated (count_by (λ class. class == k) p.classes)) (λ k. count_by (λ event. class_of event == k) (all_events journals)) (range_with_len 0 bound)
      (λ k.
      let small : count_by (λ class. class == k) p.classes ≤ 2 ^ 64 - 1 =
      omega (arith, count_by-le-length (λ class. class == k) p.classes, length-classes (all_events journals) p.classes p.answered) in
      let whole : saturated (count_by (λ class. class == k) p.classes) ≡ count_by (λ class. class == k) p.classes = omega arith in
      whole ∙ ap (count_by (λ class. class == k)) (classes_are class_of each (all_events journals) p.classes p.answered) ∙ count_by-map class_of k (all_events journals))
