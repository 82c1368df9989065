-- The draws of one thread follow those of the threads before it.
use Rattle.std.proofs.Common.{◌≡◌, ℕ, zero, suc, ◌+◌, ◌*◌, ◌/◌, ◌^◌, List, [], ◌∷◌, ◌++◌, map, refl, sym, ap, ◌∙◌, append_assoc, append-nil, zero-add, arith}
use Rattle.std.specs.List.{range_with_len}
use Rattle.std.proofs.lemmas.List.FromFn.{map-range_with_len_more}
use Rattle.octet_model.specs.declared.command.Command.{Command}
use Rattle.octet_gen.specs.Generated.{next_number, number_after, draw_at, access_of_draw, accesses_from, loop_round, generated_thread, generated_threads}

same_number : (number m n : ℕ) → m ≡ n → number_after number m ≡ number_after number n
same_number number m n same = ap (number_after number) same

pub number_after-number_after : (number before draws : ℕ) → number_after (number_after number before) draws ≡ number_after number (before + draws)
unfolding number_after
number_after-number_after number before zero = same_number number before (before + 0) (omega arith)
number_after-number_after number before (suc draws) =
    ap next_number (number_after-number_after number before draws) ∙ same_number number (suc (before + draws)) (before + suc draws) (omega arith)

pub none_drawn : (number : ℕ) → number ≡ number_after number 0
unfolding number_after
none_drawn number = refl

pub one_drawn : (number draws x y : ℕ) → x ≡ number_after number draws → y ≡ next_number x → y ≡ number_after number (draws + 1)
unfolding number_after
one_drawn number draws x y was is = is ∙ ap next_number was ∙ same_number number (suc draws) (draws + 1) (omega arith)

pub thread_drawn : (number thread x y : ℕ) → x ≡ number_after number (16 * thread) → y ≡ number_after x 16 → y ≡ number_after number (16 * (thread + 1))
thread_drawn number thread x y was is =
    is ∙ ap (λ n. number_after n 16) was ∙ number_after-number_after number (16 * thread) 16 ∙ same_number number (16 * thread + 16) (16 * (thread + 1)) (omega arith)

same_map : {X Y : Type 0} (f g : X → Y) (xs : List X) → ((x : X) → f x ≡ g x) → map f xs ≡ map g xs
same_map f g [] same = refl
same_map f g (x ∷ xs) same = let e : f x ≡ g x = same x in let rest : map f xs ≡ map g xs = same_map f g xs same in cc

draw_shifted : (number before place : ℕ) → draw_at (number_after number before) (0 + place) ≡ draw_at number (before + place)
draw_shifted number before place =
    ap (λ n. n / 2 ^ 33) (number_after-number_after number before (suc (0 + place)) ∙ same_number number (before + suc (0 + place)) (suc (before + place)) (omega arith))

pub accesses_shifted : (number before thread count : ℕ) → accesses_from (number_after number before) 0 thread count ≡ accesses_from number before thread count
unfolding accesses_from
accesses_shifted number before thread count =
    same_map (λ place. access_of_draw thread (draw_at (number_after number before) (0 + place))) (λ place. access_of_draw thread (draw_at number (before + place))) (range_with_len 0 count)
    (λ place. ap (access_of_draw thread) (draw_shifted number before place))

pub no_accesses : (number start thread : ℕ) (commands : List Command) → commands ≡ commands ++ accesses_from number start thread 0
unfolding accesses_from
no_accesses number start thread commands = sym (append-nil commands)

-- one more access
accesses_more : (number thread count : ℕ) → accesses_from number 0 thread (count + 1) ≡ accesses_from number 0 thread count ++ access_of_draw thread (draw_at number count) ∷ []
unfolding accesses_from
accesses_more number thread count =
    map-range_with_len_more (λ place. access_of_draw thread (draw_at number (0 + place))) 0 count count (omega arith)
    ∙ ap (λ n. accesses_from number 0 thread count ++ access_of_draw thread (draw_at number n) ∷ []) (zero-add count)

pub access_pushed : (number thread count x y draw : ℕ) (before commands pushed : List Command) → commands ≡ before ++ accesses_from number 0 thread count → x ≡ number_after number count
    → y ≡ next_number x → draw ≡ y / 2 ^ 33 → pushed ≡ commands ++ access_of_draw thread draw ∷ [] → pushed ≡ before ++ accesses_from number 0 thread (count + 1)
unfolding number_after
access_pushed number thread count x y draw before commands pushed were was next drawn is =
    let there : draw ≡ draw_at number count = drawn ∙ ap (λ n. n / 2 ^ 33) (next ∙ ap next_number was) in
    is ∙ ap (λ d. commands ++ access_of_draw thread d ∷ []) there ∙ ap (λ c. c ++ access_of_draw thread (draw_at number count) ∷ []) were
    ∙ append_assoc before (accesses_from number 0 thread count) (access_of_draw thread (draw_at number count) ∷ [])
    ∙ ap (λ c. before ++ c) (sym (accesses_more number thread count))

pub no_threads : (number : ℕ) → [] ≡ generated_threads number 0
unfolding generated_threads
no_threads number = refl

-- one more thread
pub thread_pushed : (number thread x : ℕ) (commands : List Command) (threads pushed : List (List Command)) → threads ≡ generated_threads number thread → x ≡ number_after number (16 * thread)
    → commands ≡ loop_round (accesses_from x 0 thread 16) → pushed ≡ threads ++ commands ∷ [] → pushed ≡ generated_threads number (thread + 1)
unfolding generated_threads
thread_pushed number thread x commands threads pushed were was made is =
    let made_so : commands ≡ generated_thread number thread =
    made ∙ ap (λ n. loop_round (accesses_from n 0 thread 16)) was ∙ ap loop_round (accesses_shifted number (16 * thread) thread 16) in
    is ∙ ap (λ c. threads ++ c ∷ []) made_so ∙ ap (λ ts. ts ++ generated_thread number thread ∷ []) were
    ∙ sym (map-range_with_len_more (generated_thread number) 0 thread thread (omega arith))
