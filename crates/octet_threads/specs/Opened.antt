-- What a run begins with.
use Rattle.std.specs.Prelude.{All, length}
use Rattle.octet_model.specs.declared.script.Script.{Script}
use Rattle.octet_live.specs.Drained.{IsFresh}
use Rattle.octet_threads.specs.declared.heap.live.Opened.{Opened}
use Rattle.octet_threads.specs.Runners.{AreOf, IsAtRest, IsHeapOf}
use Rattle.octet_threads.specs.Work.{SendEach}

-- a run begins with a heap for the script and a runner at rest for each thread, which sends to a fresh drainer
pub record IsOpened (script : Script) (opened : Opened) : Type 0 where
  pub heap : IsHeapOf script opened.heap
  pub runners : AreOf script opened.runners.items
  pub rest : All (IsAtRest opened.heap) opened.runners.items
  pub send : SendEach opened.drainer opened.runners.items
  pub fresh : IsFresh (length opened.runners.items) opened.drainer
