use Rattle.std.proofs.Common.{◌≡◌, ◌<◌, ◌≤◌, ℕ, All, length, map, None, Some, take, slice_index_or}
use Rattle.std.specs.Prelude.{IfOk, IfErr}
use Rattle.octet_c.specs.declared.handle.Handle.{Handle}
use Rattle.octet_c.specs.Closed.{RefusesToClose}
use Rattle.octet_c.specs.Sessions.{IsHeld}
use Rattle.octet_c.proofs.handing.take_all.Given as goal

abbrev pub invariant-loop-place : goal.invariant-loop-place
invariant-loop-place l = record {
  taken : IfOk l.taken (λ boxes. map (λ box. Some box.value) boxes.items ≡ take l.place-index (map (λ handle. handle.held) l.fn.handles));
  good : IfOk l.taken (λ boxes. All (λ box. IsHeld box.value) boxes.items);
  refused : IfErr l.taken (RefusesToClose (map (λ handle. handle.held) l.fn.handles));
  rest : (k : ℕ) (d : Handle) → l.place-index ≤ k → slice_index_or l.place-items k d ≡ slice_index_or l.fn.handles k d;
  count : length l.place-items ≡ length l.fn.handles;
  gone : (k : ℕ) (d : Handle) → k < l.place-index → k < length l.place-items → (slice_index_or l.place-items k d).held ≡ None;
}
