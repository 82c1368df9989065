-- What a desk that tells its contents holds, and what a call that is refused leaves of it.
use Rattle.std.proofs.Common.{◌≡◌, ◌∙◌, ℕ, List, Some, Result, inl, inr, ap}
use Rattle.std.specs.Option.{unwrap_or}
use Rattle.octet_base.specs.Desk.{Files, Contents, DeskState, IsCalled, with_call}
use Rattle.octet_base.specs.declared.call.Call.{Call}
use Rattle.octet_base.specs.declared.fault.DeskFault.{DeskFault}

pub some_is : {x y : Contents} → Some x ≡ Some y → x ≡ y
some_is {x} {y} is = ap (λ o. unwrap_or o x) is

-- a desk tells these files, and that these bytes were said
pub record Holds (files : Files) (said : List ℕ) (state : DeskState) : Type 0 where
  pub contents : Contents
  pub tells : state.contents ≡ Some contents
  pub files_are : contents.files ≡ files
  pub said_is : contents.said ≡ said

-- a call that was refused, and changed nothing
pub held_called : {T : Type 0} (result : Result T DeskFault) (made : Call) (files : Files) (said : List ℕ) (before after : DeskState) → Holds files said before → IsCalled result made before.contents after.contents → Holds files said after
held_called result made files said before after holds (inl is) =
    record { contents = _; tells = is ∙ ap (with_call made) holds.tells; files_are = holds.files_are; said_is = holds.said_is }
held_called result made files said before after holds (inr (memory, is)) =
    record { contents = holds.contents; tells = is ∙ holds.tells; files_are = holds.files_are; said_is = holds.said_is }
