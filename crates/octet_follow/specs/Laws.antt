-- Each step of a follower keeps what is sound, and does to the words and the followers what it says.
use Rattle.std.specs.Prelude.{◌≡◌, ◌≢◌, ℕ, length, slice_index, slice_set}
use Rattle.octet_follow.specs.State.{CourseState, follower_of, words}
use Rattle.octet_follow.specs.Steps.{Kind, May, step, after, word_found}
use Rattle.octet_follow.specs.Soundness.{IsSoundCourse}

-- the effect of a step: it finds a word in its place and leaves there what an operation makes of this word.
-- It changes its follower by the word found alone, and leaves the other followers as they are
pub record Does (k : Kind) (t place : ℕ) (operation : ℕ → ℕ) (s : CourseState) : Type 0 where
  pub finds : slice_index (words s) place ≡ word_found k t s
  pub leaves : slice_set (words s) place (operation (word_found k t s)) ≡ words (step k t s)
  pub mine : follower_of (step k t s) t ≡ after k (word_found k t s) (follower_of s t)
  pub others : (u : ℕ) → u ≢ t → follower_of (step k t s) u ≡ follower_of s u
  pub many : length (step k t s).followers ≡ length s.followers

-- the follower may take the step, which keeps the state sound and has this effect at this place
pub record IsLawfulStep (k : Kind) (t place : ℕ) (operation : ℕ → ℕ) (s : CourseState) : Type 0 where
  pub may : May k t s
  pub sound : IsSoundCourse (step k t s)
  pub does : Does k t place operation s
