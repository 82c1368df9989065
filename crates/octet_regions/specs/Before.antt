-- Which regions there are, and which is before which.
use Rattle.std.specs.Prelude.{◌≡◌, ◌≢◌, ℕ, ◌<◌, ◌||◌, IsTrue, List, Some, slice_get}
use Rattle.octet_model.specs.HappensBefore.{object_of, is_write}
use Rattle.octet_regions.specs.declared.region.Region.{Region}
use Rattle.octet_regions.specs.declared.access.Access.{Access}

-- two accesses by different threads, of one object, of which at least one writes
pub record InConflict (a b : Access) : Type 0 where
  pub by_others : a.region.thread ≢ b.region.thread
  pub object : ℕ
  pub of_one : object_of a.event ≡ Some object
  pub of_same : object_of b.event ≡ Some object
  pub one_writes : IsTrue (is_write a.event || is_write b.event)

-- a region is one that has an access
pub record IsRegion (accesses : List Access) (region : Region) : Type 0 where
  pub place : ℕ
  pub access : Access
  pub is_there : slice_get accesses place ≡ Some access
  pub in_region : access.region ≡ region

-- a region is before another: an access of the first comes earlier than a conflicting access of the other
pub record RegionBefore (accesses : List Access) (region other : Region) : Type 0 where
  pub first : ℕ
  pub second : ℕ
  pub one : Access
  pub two : Access
  pub earlier : first < second
  pub is_first : slice_get accesses first ≡ Some one
  pub is_second : slice_get accesses second ≡ Some two
  pub in_region : one.region ≡ region
  pub in_other : two.region ≡ other
  pub conflict : InConflict one two
