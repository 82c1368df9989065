use Rattle.std.proofs.Common.{◌≡◌, ◌<◌, All, length}
use Rattle.std.specs.Prelude.{Any, IfSome}
use Rattle.octet_host.specs.HandedBack.{IsAtWork, Both}
use Rattle.octet_host.proofs.lemmas.Noted.{AreNotedSoFar}
use Rattle.octet_host.proofs.lemmas.Taking.{AreTaken}
use Rattle.octet_host.proofs.handing_in.hand_in_all.Given as goal

abbrev pub invariant-loop-thread : goal.invariant-loop-thread
invariant-loop-thread g l = record {
  good : All g.T.HandIn.IsGood l.thread-iterator.rest.items;
  taken : AreTaken (λ it. IsAtWork (g.T.HandIn.stage it) → ⊥) (Both g.T.HandIn.IsAt g.T.HandIn.IsAmong) l.fn.threads.items l.number l.thread-iterator.rest.items;
  shared : IfSome l.last (λ all. Any (λ it. g.T.HandIn.shared it ≡ all) l.fn.threads.items);
  some_are : 0 < length l.fn.threads.items;
  many : length l.notes.items ≡ l.number;
  noted : AreNotedSoFar g.T.HandIn.IsNoted l.fn.threads.items l.notes.items;
}
