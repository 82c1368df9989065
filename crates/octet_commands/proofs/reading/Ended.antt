-- How `marks` ends, by what was said so far.
use Rattle.std.proofs.Common.{◌≡◌, ◌≢◌, ◌∙◌, ◌++◌, ◌<◌, ◌≤◌, ◌+◌, ◌-◌, ℕ, zero, suc, List, [], ◌∷◌, length, take, drop, append_assoc, append-nil, Option, None, Some, Result, Ok, Err, IfSome, IsSomeAnd, inl, inr, ap, sym, refl, subst, arith}
use Rattle.std.specs.Global.{Vec}
use Rattle.std.specs.FinMap.{get}
use Rattle.std.proofs.lemmas.List.{take_at, drop_at, take-append-drop, length-append}
use Rattle.octet_base.specs.Desk.{Files, Contents, DeskState, Rose, Says, TakesPiece, with_call, with_said}
use Rattle.octet_base.specs.declared.call.Call.{Call}
use Rattle.octet_base.specs.declared.call.Call.TheVariants as call
use Rattle.octet_base.specs.declared.fault.DeskFault.{DeskFault}
use Rattle.octet_base.specs.declared.fault.DeskFault.TheVariants as fault
use Rattle.octet_marks.specs.declared.cause.MarksCause.{MarksCause}
use Rattle.octet_marks.specs.declared.piece.Piece.{Piece}
use Rattle.octet_marks.specs.Files.{Unread, unfed, fed_with, ending_of}
use Rattle.octet_marks.specs.Reading.{piece_at}
use Rattle.octet_marks.specs.Texts.{ending_text, refusal_line}
use Rattle.octet_commands.specs.declared.marks.TheConstants.{TOO_MANY_BYTES}
use Rattle.octet_commands.specs.declared.reply.Status.TheVariants as exit
use Rattle.octet_commands.specs.Answer.{Answer, code_of, says, read_failed, too_long}
use Rattle.octet_commands.specs.Delivery.{code_given}
use Rattle.octet_commands.specs.Marks.{ReadsTo, fed, pieces_text, FileAnswers, IsFileFound, IsFileCut, WhereTold, SaidWhole, SayFailed, MemoryRefused, IsMarksSaid, IsLastSaid, IsUnreadSaid, IsTold}
use Rattle.octet_commands.specs.Outputs.{written, IsWhole, IsCutShort}
use Rattle.octet_commands.proofs.lemmas.Holding.{Holds, some_is, held_called}
use Rattle.octet_commands.proofs.lemmas.Chains.{then_reads, reads_more, none_at}
use Rattle.octet_commands.proofs.reading.Judged.{IsFrontOf, IsFrontIn, text_then, refused_answers, ended_answers, long_answers, absent_answers, failed_fails, begun_answers}

-- so much was said, and nothing else was changed
pub record IsSaid (before now : DeskState) (text : List ℕ) : Type 0 where
  pub held : (t : Contents) → before.contents ≡ Some t → Holds t.files (t.said ++ text) now
  pub silent : before.contents ≡ None → now.contents ≡ None
  pub begun : now.begun ≡ before.begun
  pub writes : now.write_faults ≡ before.write_faults

-- bytes are said
spoken : (bytes : List ℕ) (made : Call) (files : Files) (said : List ℕ) (mid last : DeskState) → Holds files said mid → last.contents ≡ with_call made (with_said bytes mid.contents) → Holds files (said ++ bytes) last
spoken bytes made files said mid last holds is = record {
  contents = _;
  tells = is ∙ ap (λ c. with_call made (with_said bytes c)) holds.tells;
  files_are = holds.files_are;
  said_is = ap (λ s. s ++ bytes) holds.said_is;
}

-- of bytes that could not all be said, some first ones were
partly_spoken : (bytes : List ℕ) (why : DeskFault) (files : Files) (said : List ℕ) (mid last : DeskState) → Holds files said mid → Says bytes mid (Err why) last → (n : ℕ) × Holds files (said ++ take n bytes) last
partly_spoken bytes why files said mid last holds says = elim says.refused [
  | inl called ↦ (0, subst (λ (s : List ℕ). Holds files s last) (sym (append-nil said)) (held_called {T = Unit {0}} (Err why) _ files said mid last holds called))
  | inr (n, within, is) ↦ (n, spoken (take n bytes) _ files said mid last holds is)
]

-- what is told at the end
told_now : (files : Files) (said : List ℕ) (now : DeskState) (t' : Contents) → Holds files said now → now.contents ≡ Some t' → (t'.files ≡ files) × (t'.said ≡ said)
told_now files said now t' holds tells' =
    let same : t' ≡ holds.contents = some_is (sym tells' ∙ holds.tells) in
    (ap (λ (x : Contents). x.files) same ∙ holds.files_are, ap (λ (x : Contents). x.said) same ∙ holds.said_is)

whole_is : (answer : Answer) (text : List ℕ) (t t' : Contents) (now : DeskState) → answer.files ≡ [] → answer.text ≡ text → Holds t.files (t.said ++ text) now → now.contents ≡ Some t' → IsWhole answer t t'
whole_is answer text t t' now none is holds tells' =
    let told = told_now t.files (t.said ++ text) now t' holds tells' in
    record { files = told.0 ∙ sym (ap (λ fs. written fs t.files) none); said = told.1 ∙ ap (λ s. t.said ++ s) (sym is) }

cut_is : (answer : Answer) (front more : List ℕ) (t t' : Contents) (now : DeskState) → answer.files ≡ [] → answer.text ≡ front ++ more → Holds t.files (t.said ++ front) now → now.contents ≡ Some t' → IsCutShort answer t t'
cut_is answer front more t t' now none is holds tells' =
    let told = told_now t.files (t.said ++ front) now t' holds tells' in
    inr (told.0 ∙ sym (ap (λ fs. written fs t.files) none), (length front, told.1 ∙ ap (λ s. t.said ++ s) (sym (ap (take (length front)) is ∙ take_at front more (length front) refl))))

module _ (name : List ℕ) (before : DeskState) where
  -- how serving ends, when it ends in this state
  abbrev Ends : DeskState → ℕ → Type 0
  Ends after code = IsMarksSaid name before after code

  -- the last part of an answer is said, or not all of it is
  last_said : (text line : List ℕ) (answer : Answer) (mid after : DeskState) (made : Result (Unit {0}) DeskFault) → IsSaid before mid text → IsFileFound name before after answer → answer.files ≡ [] → answer.text ≡ text ++ line
      → Says line mid made after → (code : ℕ) → code ≡ code_given answer.status made → Ends after code
  last_said text line answer mid after (Ok tt) said found none is says code code-is = record {
    begun = says.begun ∙ said.begun;
    ends = SaidWhole answer found code-is (says.write_faults.stays (λ e. cc) ∙ said.writes)
        (λ t t' tells tells'. whole_is answer (text ++ line) t t' after none is
        (subst (λ (s : List ℕ). Holds t.files s after) (append_assoc t.said text line) (spoken line _ t.files (t.said ++ text) mid after (said.held t tells) says.done)) tells');
  }
  last_said text line answer mid after (Err why) said found none is says code code-is = by why says code-is
    where
      cut : (f : DeskFault) → Says line mid (Err f) after → WhereTold before after (IsFileCut name before after)
      cut f says t t' tells tells' =
          let part = partly_spoken line f t.files (t.said ++ text) mid after (said.held t tells) says in
          let front : List ℕ = text ++ take part.0 line in
          let whole : answer.text ≡ front ++ drop part.0 line = is ∙ ap (λ l. text ++ l) (sym (take-append-drop part.0 line)) ∙ sym (append_assoc text (take part.0 line) (drop part.0 line)) in
          (answer, found, cut_is answer front (drop part.0 line) t t' after none whole (subst (λ (s : List ℕ). Holds t.files s after) (append_assoc t.said text (take part.0 line)) part.1) tells')

      by : (f : DeskFault) → Says line mid (Err f) after → code ≡ code_given answer.status (Err f) → Ends after code
      by fault.OutOfMemory says is' = record { begun = says.begun ∙ said.begun; ends = MemoryRefused is' (says.write_faults.stays (λ e. cc) ∙ said.writes) (cut fault.OutOfMemory says) }
      by fault.Failed says is' = record { begun = says.begun ∙ said.begun; ends = SayFailed is' (subst (λ n. Rose n after.write_faults) said.writes (says.write_faults.rose refl)) (cut fault.Failed says) }
      by fault.Absent says is' = absurd (says.answer.not_absent refl)
      by fault.TooLong says is' = absurd (says.answer.not_too_long refl)

  -- memory may be refused before it
  last_ends : (text : List ℕ) (last : Answer) (mid after : DeskState) → IsSaid before mid text → IsFileFound name before after (says last.status (text ++ last.text)) → (code : ℕ) → IsLastSaid last mid after code → Ends after code
  last_ends text last mid after said found code (inl (made, speaks, is)) = last_said text last.text (says last.status (text ++ last.text)) mid after made said found refl refl speaks code is
  last_ends text last mid after said found code (inr (same, is)) = record {
    begun = ap (λ (s : DeskState). s.begun) same ∙ said.begun;
    ends = MemoryRefused is (ap (λ (s : DeskState). s.write_faults) same ∙ said.writes) (λ t t' tells tells'.
        (says last.status (text ++ last.text), found, cut_is (says last.status (text ++ last.text)) text last.text t t' after refl refl (subst (λ (s : DeskState). Holds t.files (t.said ++ text) s) (sym same) (said.held t tells)) tells'));
  }

  last_takes : (last : Answer) (mid after : DeskState) (code : ℕ) → IsLastSaid last mid after code → after.take_faults ≡ mid.take_faults
  last_takes last mid after code (inl (made, speaks, is)) = speaks.take_faults
  last_takes last mid after code (inr (same, is)) = ap (λ (s : DeskState). s.take_faults) same

  -- what was read so far, and said
  pub record IsUnderWay (now : DeskState) (from : ℕ) (unread : Unread) : Type 0 where
    pub bytes : List ℕ
    pub pieces : List Piece
    pub counted : length bytes ≡ from
    pub few : from ≤ TOO_MANY_BYTES
    pub front : IsFrontIn name before.contents bytes
    pub reads : ReadsTo (fed bytes) pieces unread
    pub cut : piece_at unread.threads unread.bytes ≡ Ok None
    pub said : IsSaid before now (pieces_text pieces)
    pub takes : now.take_faults ≡ before.take_faults

  pub started : (unread : Unread) → unread ≡ unfed → IsUnderWay before 0 unread
  started unread is = record {
    bytes = [];
    pieces = [];
    counted = refl;
    few = omega arith;
    front = nothing before.contents;
    reads = is;
    cut = ap (λ (u : Unread). piece_at u.threads u.bytes) is ∙ none_at;
    said = record { held = λ t tells. record { contents = t; tells = tells; files_are = refl; said_is = sym (append-nil t.said) }; silent = λ none. none; begun = refl; writes = refl };
    takes = refl;
  }
    where
      none : (file : Option (List ℕ)) → IsFrontOf file []
      none None = refl
      none (Some whole) = (whole, refl)

      nothing : (contents : Option Contents) → IsFrontIn name contents []
      nothing None = tt
      nothing (Some t) = none (get t.files name)

  -- memory is refused, and nothing more is said
  pub memory_ends : (after : DeskState) (from : ℕ) (unread : Unread) → IsUnderWay after from unread → (code : ℕ) → code ≡ code_of exit.Memory → Ends after code
  memory_ends after from unread under code is = record {
    begun = under.said.begun;
    ends = MemoryRefused is under.said.writes (λ t t' tells tells'.
        (let begins = begun_answers name under.bytes under.pieces unread (subst (λ n. n ≤ TOO_MANY_BYTES) (sym under.counted) under.few) under.reads before.contents under.front t tells in
        (begins.0, inl (begins.1, under.takes), cut_is begins.0 (pieces_text under.pieces) begins.3.0 t t' after begins.2 begins.3.1 (under.said.held t tells) tells')));
  }

  few_of : (now : DeskState) (from : ℕ) (unread : Unread) (under : IsUnderWay now from unread) → length under.bytes ≤ TOO_MANY_BYTES
  few_of now from unread under = omega (arith, under.counted, under.few)

  -- the file was too long
  pub long_ends : (now after : DeskState) (from : ℕ) (unread : Unread) → IsUnderWay now from unread → TOO_MANY_BYTES ≤ from → (code : ℕ) → IsLastSaid (too_long name (TOO_MANY_BYTES - 1)) now after code → Ends after code
  long_ends now after from unread under long code last =
      last_ends (pieces_text under.pieces) (too_long name (TOO_MANY_BYTES - 1)) now after under.said
      (inl (long_answers name under.bytes under.pieces unread (few_of now from unread under) under.reads before.contents under.front (omega (arith, under.counted, under.few, long)) under.cut, last_takes (too_long name (TOO_MANY_BYTES - 1)) now after code last ∙ under.takes)) code last

  module _ (now mid : DeskState) (from limit : ℕ) (unread : Unread) (under : IsUnderWay now from unread) where
    abbrev text : List ℕ
    text = pieces_text under.pieces

    without : (made : Call) (c : Option Contents) → c ≡ None → with_call made c ≡ None
    without made c none = ap (with_call made) none

    -- a piece of the file was taken, or was not
    taken_said : (result : Result (Vec ℕ) DeskFault) → TakesPiece name from limit now result mid → IsSaid before mid text
    taken_said result taken = record {
      held = λ t tells. held_called {T = Vec ℕ} result _ t.files (t.said ++ text) now mid (under.said.held t tells) taken.contents;
      silent = λ none. elim taken.contents [ inl is ↦ is ∙ without (call.Piece name from limit) now.contents (under.said.silent none) | inr (memory, is) ↦ is ∙ under.said.silent none ];
      begun = taken.begun ∙ under.said.begun;
      writes = taken.write_faults ∙ under.said.writes;
    }

    pub moved : (result : Result (Vec ℕ) DeskFault) → TakesPiece name from limit now result mid → mid.take_faults ≡ now.take_faults → IsUnderWay mid from unread
    moved result taken same = record {
      bytes = under.bytes;
      pieces = under.pieces;
      counted = under.counted;
      few = under.few;
      front = under.front;
      reads = under.reads;
      cut = under.cut;
      said = taken_said result taken;
      takes = same ∙ under.takes;
    }

    pub no_memory : TakesPiece name from limit now (Err fault.OutOfMemory) mid → (code : ℕ) → code ≡ code_of exit.Memory → Ends mid code
    no_memory taken code is = memory_ends mid from unread (moved (Err fault.OutOfMemory) taken (taken.take_faults.stays (λ e. cc))) code is

    abbrev failed : Answer
    failed = says exit.Read (text ++ read_failed.text)

    -- the file is not there
    absent_found : TakesPiece name from limit now (Err fault.Absent) mid → FileAnswers name before.contents failed
    absent_found taken = by before.contents refl
      where
        by : (contents : Option Contents) → before.contents ≡ contents → FileAnswers name before.contents failed
        by None none = absurd (subst (λ (c : Option Contents). IsSomeAnd c (λ t. get t.files name ≡ None)) (under.said.silent none) (taken.absent refl))
        by (Some t) tells =
            let holds = under.said.held t tells in
            let missing : get holds.contents.files name ≡ None = subst (λ (c : Option Contents). IsSomeAnd c (λ t. get t.files name ≡ None)) holds.tells (taken.absent refl) in
            let absent : get t.files name ≡ None = ap (λ (fs : Files). get fs name) (sym holds.files_are) ∙ missing in
            subst (λ (c : Option Contents). FileAnswers name c failed) (sym tells)
            (absent_answers name under.bytes under.pieces unread (few_of now from unread under) under.reads t (subst (λ (c : Option Contents). IsFrontIn name c under.bytes) tells under.front) absent)

    pub fails_ends : (why : DeskFault) → TakesPiece name from limit now (Err why) mid → why ≢ fault.OutOfMemory → (after : DeskState) (code : ℕ) → IsLastSaid read_failed mid after code → Ends after code
    fails_ends why taken known after code last = last_ends text read_failed mid after (taken_said (Err why) taken) (by why taken known) code last
      where
        by : (f : DeskFault) → TakesPiece name from limit now (Err f) mid → f ≢ fault.OutOfMemory → IsFileFound name before after failed
        by fault.OutOfMemory taken known = absurd (known refl)
        by fault.TooLong taken known = absurd (taken.not_too_long refl)
        by fault.Absent taken known = inl (absent_found taken, last_takes read_failed mid after code last ∙ taken.take_faults.stays (λ e. cc) ∙ under.takes)
        by fault.Failed taken known = inr (
          failed_fails name under.bytes under.pieces unread (few_of now from unread under) under.reads before.contents under.front,
          subst (λ n. Rose before.take_faults n) (sym (last_takes read_failed mid after code last)) (subst (λ n. Rose n mid.take_faults) under.takes (taken.take_faults.rose refl)),
        )

    pub unread_ends : (why : DeskFault) → TakesPiece name from limit now (Err why) mid → (after : DeskState) (code : ℕ) → IsUnreadSaid why mid after code → Ends after code
    unread_ends fault.OutOfMemory taken after code (same, is) = subst (λ (s : DeskState). Ends s code) (sym same) (no_memory taken code is)
    unread_ends fault.Failed taken after code last = fails_ends fault.Failed taken (λ e. cc) after code last
    unread_ends fault.Absent taken after code last = fails_ends fault.Absent taken (λ e. cc) after code last
    unread_ends fault.TooLong taken after code last = fails_ends fault.TooLong taken (λ e. cc) after code last

    module _ (block : Vec ℕ) (taken : TakesPiece name from limit now (Ok block) mid) where
      kept_takes : mid.take_faults ≡ before.take_faults
      kept_takes = taken.take_faults.stays (λ e. cc) ∙ under.takes

      -- the file, of which that was taken
      pub of_file : (t : Contents) → before.contents ≡ Some t → IsSomeAnd (get t.files name) (λ whole. block.items ≡ take limit (drop from whole))
      of_file t tells =
          let holds = under.said.held t tells in
          subst (λ (fs : Files). IsSomeAnd (get fs name) (λ whole. block.items ≡ take limit (drop from whole))) holds.files_are
          (subst (λ (c : Option Contents). IfSome c (λ t. IsSomeAnd (get t.files name) (λ whole. block.items ≡ take limit (drop from whole)))) holds.tells taken.bytes)

      -- what was taken stands behind what was read
      behind : (whole rest : List ℕ) → whole ≡ under.bytes ++ rest → block.items ≡ take limit (drop from whole) → block.items ≡ take limit rest
      behind whole rest is of = of ∙ ap (take limit) (ap (drop from) is ∙ drop_at under.bytes rest from under.counted)

      none_behind : (n : ℕ) (rest : List ℕ) → 0 < n → [] ≡ take n rest → rest ≡ []
      none_behind n [] some is = refl
      none_behind zero (byte ∷ rest) some is = absurd (omega (arith, some))
      none_behind (suc n) (byte ∷ rest) some is = absurd cc

      -- the file ends
      pub ended : block.items ≡ [] → 0 < limit → from < TOO_MANY_BYTES → (after : DeskState) (code : ℕ) → IsLastSaid (says exit.Done (ending_text (ending_of unread))) mid after code → Ends after code
      ended none some short after code last =
          last_ends text (says exit.Done (ending_text (ending_of unread))) mid after (taken_said (Ok block) taken)
          (inl (ended_answers name under.bytes under.pieces unread (few_of now from unread under) under.reads before.contents (all before.contents refl) (omega (arith, under.counted, short)) under.cut, last_takes (says exit.Done (ending_text (ending_of unread))) mid after code last ∙ kept_takes)) code last
        where
          by : (file : Option (List ℕ)) → IsFrontOf file under.bytes → IsSomeAnd file (λ whole. block.items ≡ take limit (drop from whole)) → file ≡ Some under.bytes
          by None front never = absurd never
          by (Some whole) (rest, is) of =
              let nothing : rest ≡ [] = none_behind limit rest some (sym none ∙ behind whole rest is of) in
              ap (λ (w : List ℕ). Some w) (is ∙ ap (λ (r : List ℕ). under.bytes ++ r) nothing ∙ append-nil under.bytes)

          all : (contents : Option Contents) → before.contents ≡ contents → IfSome contents (λ t. get t.files name ≡ Some under.bytes)
          all None tells = tt
          all (Some t) tells = by (get t.files name) (subst (λ (c : Option Contents). IsFrontIn name c under.bytes) tells under.front) (of_file t tells)

      abbrev longer : List ℕ
      longer = under.bytes ++ block.items

      front_on : IsFrontIn name before.contents longer
      front_on = all before.contents refl
        where
          by : (file : Option (List ℕ)) → IsFrontOf file under.bytes → IsSomeAnd file (λ whole. block.items ≡ take limit (drop from whole)) → IsFrontOf file longer
          by None front never = absurd never
          by (Some whole) (rest, is) of =
              (drop limit rest, is ∙ ap (λ (r : List ℕ). under.bytes ++ r) (sym (take-append-drop limit rest) ∙ ap (λ (b : List ℕ). b ++ drop limit rest) (sym (behind whole rest is of))) ∙ sym (append_assoc under.bytes block.items (drop limit rest)))

          all : (contents : Option Contents) → before.contents ≡ contents → IsFrontIn name contents longer
          all None tells = tt
          all (Some t) tells = by (get t.files name) (subst (λ (c : Option Contents). IsFrontIn name c under.bytes) tells under.front) (of_file t tells)

      module _ (within : from + length block.items ≤ TOO_MANY_BYTES) (more : List Piece) (stands : Unread) (goes_on : ReadsTo (fed_with block.items unread) more stands) where
        counted_on : length longer ≡ from + length block.items
        counted_on = length-append under.bytes block.items ∙ ap (λ n. n + length block.items) under.counted

        few_on : length longer ≤ TOO_MANY_BYTES
        few_on = omega (arith, counted_on, within)

        reads_longer : ReadsTo (fed longer) (under.pieces ++ more) stands
        reads_longer = then_reads under.pieces (fed longer) (fed_with block.items unread) stands more (reads_more block.items (fed under.bytes) unread under.pieces under.reads) goes_on

        -- the lines are said, and reading goes on
        pub goes : piece_at stands.threads stands.bytes ≡ Ok None → (after : DeskState) → Says (pieces_text more) mid (Ok tt) after → IsUnderWay after (from + length block.items) stands
        goes cut after says = record {
          bytes = longer;
          pieces = under.pieces ++ more;
          counted = counted_on;
          few = within;
          front = front_on;
          reads = reads_longer;
          cut = cut;
          said = record {
            held = λ t tells. subst (λ (s : List ℕ). Holds t.files s after) (append_assoc t.said text (pieces_text more) ∙ ap (λ (s : List ℕ). t.said ++ s) (sym (text_then under.pieces more)))
                (spoken (pieces_text more) _ t.files (t.said ++ text) mid after ((taken_said (Ok block) taken).held t tells) says.done);
            silent = λ none. says.done ∙ ap (λ c. with_call (call.Say (length (pieces_text more))) (with_said (pieces_text more) c)) ((taken_said (Ok block) taken).silent none);
            begun = says.begun ∙ (taken_said (Ok block) taken).begun;
            writes = says.write_faults.stays (λ e. cc) ∙ (taken_said (Ok block) taken).writes;
          };
          takes = says.take_faults ∙ kept_takes;
        }

        -- what comes next is refused
        bad_ends : (cause : MarksCause) → piece_at stands.threads stands.bytes ≡ Err cause → (after : DeskState) (code : ℕ) → IsLastSaid (says exit.Log (pieces_text more ++ refusal_line cause stands.place)) mid after code → Ends after code
        bad_ends cause bad after code last =
            let line = refusal_line cause stands.place in
            let same : pieces_text (under.pieces ++ more) ++ line ≡ text ++ (pieces_text more ++ line) = ap (λ (x : List ℕ). x ++ line) (text_then under.pieces more) ∙ append_assoc text (pieces_text more) line in
            last_ends text (says exit.Log (pieces_text more ++ line)) mid after (taken_said (Ok block) taken)
            (inl (subst (λ (x : List ℕ). FileAnswers name before.contents (says exit.Log x)) same (refused_answers name longer (under.pieces ++ more) stands few_on reads_longer before.contents front_on cause bad), last_takes (says exit.Log (pieces_text more ++ line)) mid after code last ∙ kept_takes)) code last

        -- the lines could not all be said
        say_ends : (why : DeskFault) (after : DeskState) (code : ℕ) → Says (pieces_text more) mid (Err why) after → code ≡ code_given exit.Done (Err why) → Ends after code
        say_ends why after code says is = by why says is
          where
            cut : (f : DeskFault) → Says (pieces_text more) mid (Err f) after → WhereTold before after (IsFileCut name before after)
            cut f says t t' tells tells' =
                let part = partly_spoken (pieces_text more) f t.files (t.said ++ text) mid after ((taken_said (Ok block) taken).held t tells) says in
                let begins = begun_answers name longer (under.pieces ++ more) stands few_on reads_longer before.contents front_on t tells in
                let front : List ℕ = text ++ take part.0 (pieces_text more) in
                let rest : List ℕ = drop part.0 (pieces_text more) ++ begins.3.0 in
                let split : pieces_text more ++ begins.3.0 ≡ take part.0 (pieces_text more) ++ rest =
                ap (λ (l : List ℕ). l ++ begins.3.0) (sym (take-append-drop part.0 (pieces_text more))) ∙ append_assoc (take part.0 (pieces_text more)) (drop part.0 (pieces_text more)) begins.3.0 in
                let whole : begins.0.text ≡ front ++ rest =
                begins.3.1 ∙ ap (λ (l : List ℕ). l ++ begins.3.0) (text_then under.pieces more) ∙ append_assoc text (pieces_text more) begins.3.0 ∙ ap (λ (l : List ℕ). text ++ l) split ∙ sym (append_assoc text (take part.0 (pieces_text more)) rest) in
                (begins.0, inl (begins.1, says.take_faults ∙ kept_takes), cut_is begins.0 front rest t t' after begins.2 whole (subst (λ (s : List ℕ). Holds t.files s after) (append_assoc t.said text (take part.0 (pieces_text more))) part.1) tells')

            by : (f : DeskFault) → Says (pieces_text more) mid (Err f) after → code ≡ code_given exit.Done (Err f) → Ends after code
            by fault.OutOfMemory says is' = record { begun = says.begun ∙ (taken_said (Ok block) taken).begun; ends = MemoryRefused is' (says.write_faults.stays (λ e. cc) ∙ (taken_said (Ok block) taken).writes) (cut fault.OutOfMemory says) }
            by fault.Failed says is' = record { begun = says.begun ∙ (taken_said (Ok block) taken).begun; ends = SayFailed is' (subst (λ n. Rose n after.write_faults) (taken_said (Ok block) taken).writes (says.write_faults.rose refl)) (cut fault.Failed says) }
            by fault.Absent says is' = absurd (says.answer.not_absent refl)
            by fault.TooLong says is' = absurd (says.answer.not_too_long refl)

      pub told_on : from + length block.items ≤ TOO_MANY_BYTES → (unread' : Unread) (after : DeskState) → IsTold block.items unread unread' mid after None → IsUnderWay after (from + length block.items) unread'
      told_on within unread' after (more, goes_on, cut, says) = goes within more unread' goes_on cut after says

      pub told_ends : from + length block.items ≤ TOO_MANY_BYTES → (unread' : Unread) (after : DeskState) (code : ℕ) → IsTold block.items unread unread' mid after (Some code) → Ends after code
      told_ends within unread' after code (inl (same, is)) = subst (λ (s : DeskState). Ends s code) (sym same) (memory_ends mid from unread (moved (Ok block) taken (taken.take_faults.stays (λ e. cc))) code is)
      told_ends within unread' after code (inr (more, stands, goes_on, inl (cause, bad, last))) = bad_ends within more stands goes_on cause bad after code last
      told_ends within unread' after code (inr (more, stands, goes_on, inr (why, says, is))) = say_ends within more stands goes_on why after code says is
