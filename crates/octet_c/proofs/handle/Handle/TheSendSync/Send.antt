-- A handle may go to another thread, as what is behind it may.
use mir.Raw.{raw}
use base.Fraction.{full_share}
use base.Shift.{Keyless}
use denote.Memory.{lone}
use denote.RawPtr.{Ptr, block_ptr, null_ptr}
use denote.Param.Send.{IsSend, part_keyless, owning_send, sendable}
use Rattle.std.specs.declared.alloc.Global.{Global}
use Rattle.std.specs.declared.option.Option.{Option}
use Rattle.std.specs.declared.option.Option.TheVariants.{None, Some}
use Rattle.std.specs.contracts.impls.GlobalAllocator.TheImpl.{ghosts}
use Rattle.std.proofs.alloc.Global.TheSendSync as heap
use Rattle.std.proofs.Crossing.{frees}
use Rattle.octet_c.specs.Owned.{owned}
use Rattle.octet_c.specs.Sessions.{IsHeld}
use Rattle.octet_c.specs.contracts.held.Held as held
use Rattle.octet_c.specs.contracts.handle.Handle as handle
use Rattle.octet_c.proofs.held.Held.TheSendSync as inside

held_send : IsSend held.the_row
held_send = search (sendable, inside.the_field_send)

keyless : (a : Global) (p : Ptr) (k : Option (held.the_row).Denot) → Keyless (owned (ghosts.dealloc_token a) held.the_row IsHeld p k)
keyless a null_ptr None = tt
keyless a null_ptr (Some x) = tt
keyless a (block_ptr b o) None = tt
keyless a (block_ptr b o) (Some x) = ((part_keyless held.the_row held_send full_share x b o, frees.frees a (raw (lone (held.the_row).mir)) (block_ptr b o)), λ _. tt)

pub send : IsSend handle.the_row
send = owning_send handle.the_type (search sendable, (heap.the_field_send, tt)) (λ h. keyless h.alloc h.at h.held) (λ k d w. tt)
