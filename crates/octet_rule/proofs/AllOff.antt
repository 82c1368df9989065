-- Once each thread rests, the state with every thread off is sound.
use Rattle.std.proofs.Common.{◌≡◌, ◌≢◌, ℕ, zero, suc, ◌<◌, ◌≤◌, ◌⊎◌, inl, inr, ⊎_elim, true, false, IsTrue, ◌||◌, List, [], ◌∷◌, map, length, get_or, sym, refl, ap, ◌∙◌, subst, arith, length-set, get_or-set_same, get_or-set_other}
use mathlib.Core.Logic.{dite}
use native.Mathlib.Decide.{ℕ_discrete}
use Rattle.std.proofs.lemmas.List.{length-map}
use Rattle.octet_state.specs.declared.phase.Phase.{Phase}
use Rattle.octet_state.specs.declared.phase.Phase.TheVariants.{Off, Blocked}
use Rattle.octet_state.specs.declared.phase.Due.{Due}
use Rattle.octet_state.specs.declared.phase.Due.TheVariants.{Nothing, Glance, Answer}
use Rattle.octet_state.specs.Form.{is_nothing}
use Rattle.octet_state.specs.State.{Thread, ProtocolState, thread_of, unstarted}
use Rattle.octet_state.specs.Steps.{is_safe_point, moved, rejoined}
use Rattle.octet_state.specs.Soundness.{IsSound}
use Rattle.octet_state.specs.Laws.{Stands}
use Rattle.octet_state.proofs.lemmas.Laws.{rejoining_is_sound}
use Rattle.octet_seats.proofs.lemmas.Rows.{same_members}
use Rattle.octet_rule.specs.Conditions.{IsResting}
use Rattle.octet_rule.specs.Runs.{all_off}

-- a thread that rests owes nothing
owes_nothing : (due : Due) (p : Phase) → is_safe_point p ≡ false → IsTrue (is_nothing due || is_safe_point p) → due ≡ Nothing
owes_nothing Nothing p e h = refl
owes_nothing Glance p e h = absurd (let f : is_safe_point p ≡ true = h in cc)
owes_nothing Answer p e h = absurd (let f : is_safe_point p ≡ true = h in cc)

rests : (s : ProtocolState) (t : ℕ) → IsSound s → IsResting (thread_of s t).phase → Stands s t Off ⊎ Stands s t Blocked
rests s t sound still = ⊎_elim
    (λ (off : (thread_of s t).phase ≡ Off). inl (owes_nothing (thread_of s t).due (thread_of s t).phase (ap is_safe_point off) (sound.form.dues t), off))
    (λ (blocked : (thread_of s t).phase ≡ Blocked). inr (owes_nothing (thread_of s t).due (thread_of s t).phase (ap is_safe_point blocked) (sound.form.dues t), blocked))
    still

-- the same state with a resting thread off
record IsRejoined (s : ProtocolState) (t : ℕ) : Type 0 where
  pub sound : IsSound (rejoined t s)
  pub as_many : length (rejoined t s).threads ≡ length s.threads
  pub off : (thread_of (rejoined t s) t).phase ≡ Off
  pub others : (u : ℕ) → u ≢ t → thread_of (rejoined t s) u ≡ thread_of s u

rejoins : (s : ProtocolState) (t : ℕ) → IsSound s → t < length s.threads → IsResting (thread_of s t).phase → IsRejoined s t
rejoins s t sound inside still = let x = moved Off Nothing (thread_of s t) in record {
  sound = rejoining_is_sound s t sound inside (rests s t sound still);
  as_many = length-set s.threads t x;
  off = ap (λ (y : Thread). y.phase) (get_or-set_same s.threads t x unstarted inside);
  others = λ u ne. get_or-set_other s.threads t u x unstarted ne;
}

-- the same state with the first so many threads off
off_below : ℕ → ProtocolState → ProtocolState
off_below zero s = s
off_below (suc n) s = rejoined n (off_below n s)

-- it is sound, and differs in those threads alone
record AreOff (s : ProtocolState) (n : ℕ) (next : ProtocolState) : Type 0 where
  pub sound : IsSound next
  pub as_many : length next.threads ≡ length s.threads
  pub off : (t : ℕ) → t < n → thread_of next t ≡ moved Off Nothing (thread_of s t)
  pub others : (t : ℕ) → n ≤ t → thread_of next t ≡ thread_of s t
  pub same : next ≡ record s { threads = next.threads }

are_off : (s : ProtocolState) → IsSound s → ((t : ℕ) → t < length s.threads → IsResting (thread_of s t).phase) → (n : ℕ) → n ≤ length s.threads → AreOff s n (off_below n s)
unfolding off_below
are_off s sound still zero few = record { sound = sound; as_many = refl; off = λ t h. absurd (omega arith); others = λ t h. refl; same = refl }
are_off s sound still (suc n) few =
    let old = are_off s sound still n (omega arith) in let before : ProtocolState = off_below n s in
    let many = old.as_many in let x = moved Off Nothing (thread_of before n) in
    let is = rejoins before n old.sound (omega arith) (subst (λ (y : Thread). IsResting y.phase) (sym (old.others n (omega arith))) (still n (omega arith))) in record {
      sound = is.sound;
      as_many = is.as_many ∙ old.as_many;
      off = λ t h. dite (ℕ_discrete t n)
          (λ e. ap (λ (u : ℕ). thread_of (rejoined n before) u) e ∙ (get_or-set_same before.threads n x unstarted (omega arith)
          ∙ (ap (λ (y : Thread). moved Off Nothing y) (old.others n (omega arith)) ∙ ap (λ (u : ℕ). moved Off Nothing (thread_of s u)) (sym e))))
          (λ ne. is.others t ne ∙ old.off t (omega arith));
      others = λ t h. is.others t (λ e. omega arith) ∙ old.others t (omega arith);
      same = λ i. record (old.same i) { threads = (rejoined n before).threads };
    }

map_at : (f : Thread → Thread) (xs : List Thread) (t : ℕ) → t < length xs → get_or (map f xs) t unstarted ≡ f (get_or xs t unstarted)
map_at f [] t h = absurd (omega arith)
map_at f (x ∷ xs) zero h = refl
map_at f (x ∷ xs) (suc t) h = map_at f xs t (omega arith)

pub all_off_sound : (s : ProtocolState) → IsSound s → ((t : ℕ) → t < length s.threads → IsResting (thread_of s t).phase) → IsSound (all_off s)
all_off_sound s sound still =
    let is = are_off s sound still (length s.threads) (omega arith) in let next : ProtocolState = off_below (length s.threads) s in
    let threads : next.threads ≡ map (moved Off Nothing) s.threads = same_members unstarted next.threads (map (moved Off Nothing) s.threads) (is.as_many ∙ sym (length-map s.threads (moved Off Nothing)))
    (λ t h. let n = is.as_many in is.off t (omega arith) ∙ sym (map_at (moved Off Nothing) s.threads t (omega arith))) in
    subst IsSound (is.same ∙ λ i. record s { threads = threads i }) is.sound

pub each_off : (s : ProtocolState) (t : ℕ) → (thread_of (all_off s) t).phase ≡ Off
each_off s t = at s.threads t
  where
    at : (xs : List Thread) (t : ℕ) → (get_or (map (moved Off Nothing) xs) t unstarted).phase ≡ Off
    at [] t = refl
    at (x ∷ xs) zero = refl
    at (x ∷ xs) (suc t) = at xs t
