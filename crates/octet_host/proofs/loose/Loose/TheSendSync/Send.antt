-- What a box holds may go to another thread with its pointer.
use mir.Raw.{raw}
use denote.Builtin.{RawPtr}
use denote.RattleType.{RattleType}
use denote.Memory.{lone}
use denote.Param.Send.{IsSend, AllSend, Frees, owning_send, struct_send, sendable}
use denote.Struct.Owning.{shape, fields, to}
use denote.Struct.Struct.{exits_of}
use Rattle.core.specs.declared.alloc.Allocator.{Ghosts}
use Rattle.std_alloc.proofs.SendSync.{lies, quiet}
use Rattle.octet_host.specs.contracts.loose.Loose.{the_row, the_type}

pointer : IsSend RawPtr
pointer = search sendable

pub send : (T A : RattleType) (g : Ghosts A.Denot) → IsSend T → IsSend A → Frees g g.dealloc_token → IsSend (the_row T A g)
send T A g s sa f = let O = the_type T A g in let all : AllSend (fields O) = (pointer, (sa, tt)) in
    owning_send O all (λ d. (lies T s d.at d.value, f.frees d.alloc (raw (lone T.mir)) d.at)) (λ k. quiet (to O) (exits_of k (fields O)) ((struct_send (shape O) all).leaving k))
