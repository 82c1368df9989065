-- What a handle owns.
use mir.Syntax.{Ty}
use base.Fml.{Fml, ftrue, ffalse, fsep, fex}
use denote.RattleType.{RattleType}
use denote.RawPtr.{Ptr, block_ptr, null_ptr}
use Rattle.std.specs.declared.option.Option.{Option}
use Rattle.std.specs.declared.option.Option.TheVariants.{None, Some}
use Rattle.std_alloc.specs.Box.Ownership.{box_owns}

-- nothing at null, else a box of a value of which `Good` holds
abbrev pub owned : (Ty → Ptr → Fml) → (R : RattleType) → (R.Denot → Type 0) → Ptr → Option R.Denot → Fml
owned holds R Good null_ptr None = ftrue
owned holds R Good null_ptr (Some x) = ffalse
owned holds R Good (block_ptr b o) None = ffalse
owned holds R Good (block_ptr b o) (Some x) = fsep (box_owns holds R (block_ptr b o) x) (fex (Good x) (λ _. ftrue))
