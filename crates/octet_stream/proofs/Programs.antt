-- After a run of the protocol, each journal has a straight-line program.
use Rattle.std.proofs.Common.{◌≡◌, ℕ, zero, suc, Bool, true, false, List, [], ◌∷◌, ◌++◌, Option, Some, None, replicate, refl, sym, subst, if◌then◌else◌}
use Rattle.octet_model.specs.declared.command.Command.{Command}
use Rattle.octet_model.specs.declared.event.Mark.{Mark}
use Rattle.octet_model.specs.declared.event.Mark.TheVariants.{Join}
use Rattle.octet_model.specs.declared.event.Event.{Event}
use Rattle.octet_model.specs.declared.event.Event.TheVariants as event
use Rattle.octet_model.specs.Machine.{Journals, appended, no_events}
use Rattle.octet_model.specs.Thread.{added}
use Rattle.octet_state.specs.declared.state_word.StateWord.{StateWord}
use Rattle.octet_state.specs.declared.state_word.StateWord.TheVariants.{WrEx, RdEx, RdSh, WrInt, RdInt, ShInt}
use Rattle.octet_state.specs.declared.phase.Phase.{Phase}
use Rattle.octet_state.specs.declared.phase.Phase.TheVariants.{Off, Idle, Want, Pass, FenceDue, Claimed, Sharing, Blocked}
use Rattle.octet_state.specs.Asking.{answers}
use Rattle.octet_state.specs.State.{Thread, ProtocolState, thread_of, unstarted, opening}
use Rattle.octet_state.specs.Steps.{Kind, ToGlance, ToAnswer, ToBlock, ToUnblock, ToAsk, ToLook, ToLoad, ToRead, ToWrite, ToBump, ToClaim, ToSettle, ToDraw, ToFence, ToRaise, ToShare, made, told, found, wins, exchanged, acted, claiming, mode_of, joined_by_share, target, grown, ThreadStep, step, after_run}
use Rattle.octet_state.specs.Words.{unpacked_status}
use Rattle.octet_recorder.specs.Programs.{read_lines, write_lines, bump_lines, IsProgramWith}
use Rattle.octet_recorder.proofs.lemmas.Programs.{programs_join_with}

-- there is a straight-line program of a journal, of whose accesses nothing is asked
abbrev pub HasProgram : List Event → Type 0
HasProgram journal = (program : List Command) × IsProgramWith (λ object value. Unit {0}) program journal

-- so does each journal of a list
abbrev pub HavePrograms : Journals → Type 0
HavePrograms [] = Unit {0}
HavePrograms (journal ∷ journals) = HasProgram journal × HavePrograms journals

-- and the event that is made, if one is
abbrev HasProgramIf : Option Event → Type 0
HasProgramIf None = Unit {0}
HasProgramIf (Some event) = HasProgram (event ∷ [])

of_mark : (mark : Mark) → HasProgram (event.Marked mark ∷ [])
of_mark mark = ([], refl)

of_read : (object value : ℕ) → HasProgram (event.Read object value ∷ [])
of_read object value = (read_lines object, ([], tt, record { region = false; is = refl }, refl))

of_write : (object value : ℕ) → HasProgram (event.Write object value ∷ [])
of_write object value = (write_lines object value, ([], tt, record { region = false; is = refl }, refl))

of_bump : (object amount before : ℕ) → HasProgram (event.Update object before (added amount before) ∷ [])
of_bump object amount before = (bump_lines object amount, ([], amount, tt, refl, record { region = false; is = refl }, refl))

of_mark_if : (b : Bool) (mark : Mark) → HasProgramIf (if b then Some (event.Marked mark) else None)
of_mark_if true mark = of_mark mark
of_mark_if false mark = tt

of_share : (phase : Phase) → HasProgramIf (joined_by_share phase)
of_share (Want object mode (Some (RdEx owner upto))) = of_mark (Join owner upto)
of_share (Want object mode (Some (WrEx owner))) = tt
of_share (Want object mode (Some (RdSh number))) = tt
of_share (Want object mode (Some (WrInt by))) = tt
of_share (Want object mode (Some (RdInt by))) = tt
of_share (Want object mode (Some (ShInt by))) = tt
of_share (Want object mode None) = tt
of_share Off = tt
of_share Idle = tt
of_share (Pass object mode) = tt
of_share (FenceDue object number) = tt
of_share (Claimed object mode prior done asked) = tt
of_share (Sharing object drawn) = tt
of_share Blocked = tt

of_share_if : (b : Bool) (phase : Phase) → HasProgramIf (if b then joined_by_share phase else None)
of_share_if true phase = of_share phase
of_share_if false phase = tt

-- whatever a step makes
of_made : (k : Kind) (me word : ℕ) (x : Thread) → HasProgramIf (made k me word x)
of_made ToGlance me word x = tt
of_made ToAnswer me word x = tt
of_made (ToBlock ends) me word x = tt
of_made ToUnblock me word x = tt
of_made (ToAsk whom) me word x = of_mark_if (unpacked_status word).blocked (Join whom (unpacked_status word).upto)
of_made (ToLook whom) me word x = of_mark_if (answers (unpacked_status word) me) (Join whom (unpacked_status word).upto)
of_made (ToLoad object mode) me word x = tt
of_made ToRead me word x = of_read (target x.phase) word
of_made (ToWrite value) me word x = of_write (target x.phase) value
of_made (ToBump amount) me word x = of_bump (target x.phase) amount word
of_made ToClaim me word x = tt
of_made ToSettle me word x = tt
of_made ToDraw me word x = ([], refl)
of_made ToFence me word x = ([], refl)
of_made ToRaise me word x = tt
of_made ToShare me word x = of_share_if (wins word x.phase) x.phase

longer : (journal : List Event) (made : Event) → HasProgram journal → HasProgram (made ∷ []) → HasProgram (journal ++ made ∷ [])
longer journal made p q = (p.0 ++ q.0, programs_join_with (λ object value. Unit {0}) p.0 q.0 journal (made ∷ []) p.1 q.1)

appended_have : (journals : Journals) (thread : ℕ) (made : Event) → HavePrograms journals → HasProgram (made ∷ []) → HavePrograms (appended journals thread made)
appended_have [] thread made have q = tt
appended_have (j ∷ journals) zero made have q = (longer j made have.0 q, have.1)
appended_have (j ∷ journals) (suc thread) made have q = (have.0, appended_have journals thread made have.1 q)

grown_have : (journals : Journals) (thread : ℕ) (o : Option Event) → HavePrograms journals → HasProgramIf o → HavePrograms (grown journals thread o)
grown_have journals thread None have q = have
grown_have journals thread (Some made) have q = appended_have journals thread made have q

-- a step changes no journal but by the event that it makes
exchanged_keeps : (b : Bool) (s : ProtocolState) (object : ℕ) (state : StateWord) → (exchanged b s object state).journals ≡ s.journals
exchanged_keeps true s object state = refl
exchanged_keeps false s object state = refl

acted_keeps : (k : Kind) (t : ℕ) (s : ProtocolState) → (acted k t s).journals ≡ s.journals
acted_keeps ToGlance t s = refl
acted_keeps ToAnswer t s = refl
acted_keeps (ToBlock ends) t s = refl
acted_keeps ToUnblock t s = refl
acted_keeps (ToAsk whom) t s = refl
acted_keeps (ToLook whom) t s = refl
acted_keeps (ToLoad object mode) t s = refl
acted_keeps ToRead t s = refl
acted_keeps (ToWrite value) t s = refl
acted_keeps (ToBump amount) t s = refl
acted_keeps ToClaim t s = exchanged_keeps (wins (found ToClaim t s) (thread_of s t).phase) s (target (thread_of s t).phase) (claiming t (mode_of (thread_of s t).phase))
acted_keeps ToSettle t s = refl
acted_keeps ToDraw t s = refl
acted_keeps ToFence t s = refl
acted_keeps ToRaise t s = exchanged_keeps (wins (found ToRaise t s) (thread_of s t).phase) s (target (thread_of s t).phase) (WrEx t)
acted_keeps ToShare t s = exchanged_keeps (wins (found ToShare t s) (thread_of s t).phase) s (target (thread_of s t).phase) (ShInt t)

after_have : (run : List ThreadStep) (s : ProtocolState) → HavePrograms s.journals → HavePrograms (after_run s run).journals
after_have [] s have = have
after_have (taken ∷ run) s have =
    let event = made taken.kind taken.thread (told taken.kind taken.thread s) (thread_of s taken.thread) in
    after_have run (step taken.kind taken.thread s)
    (grown_have (acted taken.kind taken.thread s).journals taken.thread event (subst HavePrograms (sym (acted_keeps taken.kind taken.thread s)) have)
    (of_made taken.kind taken.thread (told taken.kind taken.thread s) (thread_of s taken.thread)))

none_have : {A : Type 0} (threads : List A) → HavePrograms (no_events threads)
none_have [] = tt
none_have (x ∷ threads) = (([], refl), none_have threads)

pub run_has_programs : (threads : ℕ) (starts : List ℕ) (run : List ThreadStep) → HavePrograms (after_run (opening threads starts) run).journals
run_has_programs threads starts run = after_have run (opening threads starts) (none_have (replicate threads unstarted))
