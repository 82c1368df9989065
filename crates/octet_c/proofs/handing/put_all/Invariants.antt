use Rattle.std.proofs.Common.{◌≡◌, ℕ, ◌+◌, ◌<◌, All, length, slice_index_or, Some}
use Rattle.octet_c.specs.declared.handle.Handle.{Handle}
use Rattle.octet_c.specs.Sessions.{IsHeld}
use Rattle.octet_c.proofs.handing.put_all.Given as goal

abbrev pub invariant-loop-place : goal.invariant-loop-place
invariant-loop-place l = record {
  good : All (λ held. IsHeld held.value) l.boxes.rest.items;
  count : l.place-index + length l.boxes.rest.items ≡ length l.place-items;
  all : length l.place-items ≡ length l.fn.boxes.items;
  rest : (k : ℕ) (d : _) → slice_index_or l.boxes.rest.items k d ≡ slice_index_or l.fn.boxes.items (l.place-index + k) d;
  held : (k : ℕ) (h : Handle) (d : _) → k < l.place-index → (slice_index_or l.place-items k h).held ≡ Some (slice_index_or l.fn.boxes.items k d).value;
}
