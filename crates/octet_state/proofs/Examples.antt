-- Worked runs of the protocol, computed by the prover.
use Rattle.std.proofs.Common.{◌≡◌, ℕ, true, List, [], ◌∷◌, refl}
use Rattle.octet_model.specs.declared.event.Mark.TheVariants.{Join, Draw, Fence}
use Rattle.octet_model.specs.declared.event.Event.TheVariants as event
use Rattle.octet_model.specs.Machine.{Journals}
use Rattle.octet_state.specs.declared.state_word.StateWord.{StateWord}
use Rattle.octet_state.specs.declared.state_word.StateWord.TheVariants.{WrEx, RdEx, RdSh}
use Rattle.octet_state.specs.declared.act.Mode.TheVariants.{Read, Write, Update}
use Rattle.octet_state.specs.State.{ProtocolState, opening}
use Rattle.octet_state.specs.Steps.{Kind, ToGlance, ToAnswer, ToBlock, ToUnblock, ToAsk, ToLook, ToLoad, ToRead, ToWrite, ToBump, ToClaim, ToSettle, ToDraw, ToFence, ToShare, ThreadStep, after_run}

abbrev by : ℕ → Kind → ThreadStep
by thread kind = record { thread = thread; kind = kind }

-- what a run leaves: the journals, the states and the cells
record Leaves (s : ProtocolState) (journals : Journals) (states : List StateWord) (cells : List ℕ) : Type 0 where
  in_journals : s.journals ≡ journals
  in_states : s.states ≡ states
  in_cells : s.cells ≡ cells

-- thread 0 writes 7 and ends; thread 1 takes the object from it while it is blocked, after its one event, and reads
implicit_handover : Leaves
    (after_run (opening 2 (5 ∷ [])) (
    by 0 ToUnblock ∷ by 0 (ToLoad 0 Write) ∷ by 0 (ToWrite 7) ∷ by 0 (ToBlock true)
    ∷ by 1 ToUnblock ∷ by 1 (ToLoad 0 Read) ∷ by 1 ToClaim ∷ by 1 (ToAsk 0) ∷ by 1 ToSettle ∷ by 1 ToRead ∷ by 1 (ToBlock true) ∷ []))
    ((event.Write 0 7 ∷ []) ∷ (event.Marked (Join 0 1) ∷ event.Read 0 7 ∷ []) ∷ [])
    (RdEx 1 1 ∷ []) (7 ∷ [])
implicit_handover = record { in_journals = refl; in_states = refl; in_cells = refl }

-- thread 1 reads; thread 2 shares the object, draws and reads; thread 1 fences before it reads again
share_with_draw_and_fence : Leaves
    (after_run (opening 3 (9 ∷ [])) (
    by 1 ToUnblock ∷ by 1 (ToLoad 0 Read) ∷ by 1 ToClaim ∷ by 1 (ToAsk 0) ∷ by 1 ToSettle ∷ by 1 ToRead
    ∷ by 2 ToUnblock ∷ by 2 (ToLoad 0 Read) ∷ by 2 ToShare ∷ by 2 ToDraw ∷ by 2 ToSettle ∷ by 2 ToRead ∷ by 2 (ToBlock true)
    ∷ by 1 (ToLoad 0 Read) ∷ by 1 ToFence ∷ by 1 ToRead ∷ by 1 (ToBlock true) ∷ []))
    ([] ∷ (event.Marked (Join 0 0) ∷ event.Read 0 9 ∷ event.Marked (Fence 1) ∷ event.Read 0 9 ∷ []) ∷ (event.Marked (Join 1 1) ∷ event.Marked (Draw 1) ∷ event.Read 0 9 ∷ []) ∷ [])
    (RdSh 1 ∷ []) (9 ∷ [])
share_with_draw_and_fence = record { in_journals = refl; in_states = refl; in_cells = refl }

-- thread 0 adds 2 twice and ends; thread 1 takes the object from it, after its two events, and adds 3
three_bumps : Leaves
    (after_run (opening 2 (5 ∷ [])) (
    by 0 ToUnblock ∷ by 0 (ToLoad 0 Update) ∷ by 0 (ToBump 2) ∷ by 0 (ToLoad 0 Update) ∷ by 0 (ToBump 2) ∷ by 0 (ToBlock true)
    ∷ by 1 ToUnblock ∷ by 1 (ToLoad 0 Update) ∷ by 1 ToClaim ∷ by 1 (ToAsk 0) ∷ by 1 ToSettle ∷ by 1 (ToBump 3) ∷ by 1 (ToBlock true) ∷ []))
    ((event.Update 0 5 7 ∷ event.Update 0 7 9 ∷ []) ∷ (event.Marked (Join 0 2) ∷ event.Update 0 9 12 ∷ []) ∷ [])
    (WrEx 1 ∷ []) (12 ∷ [])
three_bumps = record { in_journals = refl; in_states = refl; in_cells = refl }

-- thread 1 has taken object 1; then each wants what the other has, has asked it, and answers while it waits
explicit_handovers : Leaves
    (after_run (opening 2 (0 ∷ 0 ∷ [])) (
    by 1 ToUnblock ∷ by 1 (ToLoad 1 Write) ∷ by 1 ToClaim ∷ by 1 (ToAsk 0) ∷ by 1 ToSettle ∷ by 1 (ToWrite 2)
    ∷ by 0 ToUnblock ∷ by 0 (ToLoad 1 Write) ∷ by 1 (ToLoad 0 Write) ∷ by 0 ToClaim ∷ by 1 ToClaim ∷ by 0 (ToAsk 1) ∷ by 1 (ToAsk 0)
    ∷ by 0 ToGlance ∷ by 0 ToAnswer ∷ by 1 ToGlance ∷ by 1 ToAnswer ∷ by 0 (ToLook 1) ∷ by 1 (ToLook 0)
    ∷ by 0 ToSettle ∷ by 1 ToSettle ∷ by 0 (ToWrite 1) ∷ by 1 (ToWrite 2) ∷ by 0 (ToBlock true) ∷ by 1 (ToBlock true) ∷ []))
    ((event.Marked (Join 1 2) ∷ event.Write 1 1 ∷ []) ∷ (event.Marked (Join 0 0) ∷ event.Write 1 2 ∷ event.Marked (Join 0 0) ∷ event.Write 0 2 ∷ []) ∷ [])
    (WrEx 1 ∷ WrEx 0 ∷ []) (2 ∷ 1 ∷ [])
explicit_handovers = record { in_journals = refl; in_states = refl; in_cells = refl }
