use Rattle.std.proofs.Common.{◌≡◌, ◌+◌, ℕ, length, map, slice_index_or}
use Rattle.octet_c.proofs.handing.threads_of.Given as goal

abbrev pub invariant-loop-held : goal.invariant-loop-held
invariant-loop-held g l = record {
  threads : map (λ it. g.T.Behind.as_held it) l.threads.items ≡ map (λ box. box.value) l.yielded;
  count : length l.yielded + length l.held-iterator.rest.items ≡ length l.fn.boxes.items;
  left : (k : ℕ) (d : _) → slice_index_or l.held-iterator.rest.items k d ≡ slice_index_or l.fn.boxes.items (length l.yielded + k) d;
}
