-- What the calls of an answer leave, given whole or cut short.
use Rattle.octet_model.specs.declared.limits.TheConstants.{MAX_LOG_FILE, MAX_SCRIPT_FILE}
use Rattle.std.proofs.Common.{◌≡◌, ◌≢◌, ◌∙◌, ◌++◌, ◌≤◌, ◌<◌, ◌+◌, ◌⊎◌, ℕ, zero, suc, List, [], ◌∷◌, map, take, drop, length, append_assoc, append-nil, Option, None, Some, Result, Ok, Err, Bool, true, false, cond, inl, inr, refl, sym, subst, ap, nat_cmp, arith}
use Rattle.std.specs.List.{flat_map}
use Rattle.std.specs.Option.{unwrap_or}
use Rattle.std.specs.Ordering.{eq_by_cmp}
use Rattle.std.specs.Cmp.{eq_by_cmp_equiv}
use Rattle.std.specs.Cmp.Lexicographic.{slice_cmp, nat_list_cmp_total, texts_ties}
use Rattle.std.specs.Str.{bytes_eq}
use Rattle.std.proofs.lemmas.Slice.Eq.{bytes_eq-Decides}
use Rattle.std.specs.FinMap.{get, insert, get-insert, same_map, slice_cmp-IsAntisymmetric, nat_cmp-IsAntisymmetric}
use Rattle.std.proofs.lemmas.List.{take-append-drop, take-append-le, length-drop}
use Rattle.std.proofs.Math.Seq.{take-append-add}
use Rattle.std.specs.Global.{Vec}
use Rattle.octet_base.specs.Desk.{Files, Contents, DeskState, with_call, with_bytes, with_empty, with_said}
use Rattle.octet_base.specs.declared.call.Call.{Call}
use Rattle.octet_base.specs.declared.fault.DeskFault.{DeskFault}
use Rattle.octet_base.specs.declared.call.Call.TheVariants as call
use Rattle.octet_commands.specs.Answer.{Answer, writes_file}
use Rattle.octet_commands.specs.Request.{Request}
use Rattle.octet_commands.specs.declared.request.Request.TheVariants.{Tidy, Show, Marks, OfPair, Parallel, Convert, Run, Gen, Hunt, Outcomes, Always}
use Rattle.octet_commands.specs.Inputs.{TakesOne, TakesBoth}
use Rattle.octet_commands.specs.Replies.{TakesFiles}
use Rattle.octet_commands.specs.Delivery.{Act, Add, Finish, Say, Makes, IsRefused, pieces, pieces_within, file_acts, acts_of}
use Rattle.octet_top.specs.Live.{MakesSome}
use Rattle.octet_commands.proofs.lemmas.Holding.{Holds, some_is, held_called}
use Rattle.octet_top.proofs.writing.Parts.{parts_acts}
use Rattle.octet_commands.specs.Outputs.{written, IsPartlyWritten, ArePartlyWritten, IsWhole, IsCutShort}

-- what the calls of an answer leave, by how the last of them ended
abbrev pub IsLeft : Answer → Result (Unit {0}) DeskFault → Contents → Contents → Type 0
IsLeft answer (Ok done) before after = IsWhole answer before after
IsLeft answer (Err fault) before after = IsCutShort answer before after

pub get-inserted : (files : Files) (name bytes : List ℕ) → get (insert files name bytes) name ≡ Some bytes
get-inserted files name bytes =
    get-insert nat_list_cmp_total files name bytes name ∙ ap (λ b. cond b (Some bytes) (get files name)) ((eq_by_cmp_equiv nat_list_cmp_total).refl name)

pub get-other : (files : Files) (name bytes other : List ℕ) → other ≢ name → get (insert files name bytes) other ≡ get files other
get-other files name bytes other differ =
    get-insert nat_list_cmp_total files name bytes other ∙ ap (λ b. cond b (Some bytes) (get files other)) (sym (texts_ties other name) ∙ differs (bytes_eq other name) refl)
  where
    differs : (b : Bool) → bytes_eq other name ≡ b → bytes_eq other name ≡ false
    differs true is = absurd (differ ((bytes_eq-Decides other name).0 is))
    differs false is = is

twice : {A : Type 0} (b : Bool) (x y z : A) → cond b x (cond b y z) ≡ cond b x z
twice true x y z = refl
twice false x y z = refl

-- the later bytes stay
insert-insert : (files : Files) (name before bytes : List ℕ) → insert (insert files name before) name bytes ≡ insert files name bytes
insert-insert files name before bytes =
    same_map nat_list_cmp_total (slice_cmp-IsAntisymmetric nat_cmp-IsAntisymmetric) _ _ (λ q.
    get-insert nat_list_cmp_total _ name bytes q
    ∙ ap (cond (eq_by_cmp (slice_cmp nat_cmp) q name) (Some bytes)) (get-insert nat_list_cmp_total files name before q)
    ∙ twice (eq_by_cmp (slice_cmp nat_cmp) q name) (Some bytes) (Some before) (get files q)
    ∙ sym (get-insert nat_list_cmp_total files name bytes q))

-- bytes after those that were added
more_bytes : (base : Files) (name done piece : List ℕ) → insert (insert base name done) name (unwrap_or (get (insert base name done) name) [] ++ piece) ≡ insert base name (done ++ piece)
more_bytes base name done piece = insert-insert base name done _ ∙ ap (λ o. insert base name (unwrap_or o [] ++ piece)) (get-inserted base name done)

-- all bytes of the pieces
abbrev pub joined : List (List ℕ) → List ℕ
joined pieces = flat_map (λ piece. piece) pieces

pieces_joined : (size n : ℕ) (bytes : List ℕ) → 0 < size → length bytes ≤ n → joined (pieces_within size n bytes) ≡ bytes
pieces_joined size n [] some room = refl
pieces_joined size zero (byte ∷ bytes) some room = absurd (omega (arith, room))
pieces_joined size (suc n) (byte ∷ bytes) some room =
    ap (λ rest. take size (byte ∷ bytes) ++ rest) (pieces_joined size n (drop size (byte ∷ bytes)) some (omega (arith, length-drop size (byte ∷ bytes), some, room)))
    ∙ take-append-drop size (byte ∷ bytes)

-- files that are taken
one_held : (name : List ℕ) (limit : ℕ) (Short : Type 0) (files : Files) (said : List ℕ) (before after : DeskState) → Holds files said before → TakesOne name limit Short before after → Holds files said after
one_held name limit Short files said before after holds (taken, takes, well) = held_called taken _ files said before after holds takes.contents

both_held : (script log : List ℕ) (object : Option (List ℕ)) (Short : Type 0) (files : Files) (said : List ℕ) (before after : DeskState) → Holds files said before → TakesBoth script log object Short before after → Holds files said after
both_held script log object Short files said before after holds (inl (bytes, mid, takes, passes, next)) =
    one_held log MAX_LOG_FILE Short files said mid after (held_called {T = Vec ℕ} (Ok bytes) _ files said before mid holds takes.contents) next
both_held script log object Short files said before after holds (inr (short, (taken, takes))) = held_called taken _ files said before after holds takes.contents

pub taken_held : (request : Option Request) (Short : Type 0) (files : Files) (said : List ℕ) (before after : DeskState) → Holds files said before → TakesFiles request Short before after → Holds files said after
taken_held None Short files said before after holds same = rw same holds
taken_held (Some (Tidy script)) Short files said before after holds takes = one_held script MAX_SCRIPT_FILE Short files said before after holds takes
taken_held (Some (Show log)) Short files said before after holds takes = one_held log MAX_LOG_FILE Short files said before after holds takes
taken_held (Some (Marks file)) Short files said before after holds never = absurd never
taken_held (Some (OfPair task script log object)) Short files said before after holds takes = both_held script log object Short files said before after holds takes
taken_held (Some (Parallel script log)) Short files said before after holds takes = both_held script log None Short files said before after holds takes
taken_held (Some (Convert script log out)) Short files said before after holds takes = both_held script log None Short files said before after holds takes
taken_held (Some (Run task script log)) Short files said before after holds takes = one_held script MAX_SCRIPT_FILE Short files said before after holds takes
taken_held (Some (Gen number script log)) Short files said before after holds same = rw same holds
taken_held (Some (Hunt quarry script log tries)) Short files said before after holds takes = one_held script MAX_SCRIPT_FILE Short files said before after holds takes
taken_held (Some (Outcomes script most)) Short files said before after holds takes = one_held script MAX_SCRIPT_FILE Short files said before after holds takes
taken_held (Some (Always claim script log most)) Short files said before after holds takes = one_held script MAX_SCRIPT_FILE Short files said before after holds takes

-- the calls were refused in the first part, or that was made whole
split_made : (acts more : List Act) (before : DeskState) (result : Result (Unit {0}) DeskFault) (after : DeskState) → Makes (acts ++ more) before result after
    → (IsRefused result × Makes acts before result after) ⊎ ((mid : DeskState) × Makes acts before (Ok tt) mid × Makes more mid result after)
split_made [] more before result after makes = inr (before, (refl, refl), makes)
split_made (act ∷ acts) more before result after (inl refused) = inl (refused.0, inl refused)
split_made (act ∷ acts) more before result after (inr (mid, does, makes)) = elim (split_made acts more mid result after makes) [
  | inl (refused, rest) ↦ inl (refused, inr (mid, does, rest))
  | inr (end, rest, next) ↦ inr (end, inr (mid, does, rest), next)
]

-- calls are made, and memory is refused nowhere between
pub some_of : (acts : List Act) (before : DeskState) (result : Result (Unit {0}) DeskFault) (after : DeskState) → Makes acts before result after → MakesSome acts before result after
some_of [] before result after made = made
some_of (act ∷ acts) before result after (inl refused) = inr (inl refused)
some_of (act ∷ acts) before result after (inr (mid, does, makes)) = inr (inr (mid, does, some_of acts mid result after makes))

split_some : (acts more : List Act) (before : DeskState) (result : Result (Unit {0}) DeskFault) (after : DeskState) → MakesSome (acts ++ more) before result after
    → (IsRefused result × MakesSome acts before result after) ⊎ ((mid : DeskState) × MakesSome acts before (Ok tt) mid × MakesSome more mid result after)
split_some [] more before result after makes = inr (before, (refl, refl), makes)
split_some (act ∷ acts) more before result after (inl (memory, same)) = inl (subst IsRefused (sym memory) tt, inl (memory, same))
split_some (act ∷ acts) more before result after (inr (inl refused)) = inl (refused.0, inr (inl refused))
split_some (act ∷ acts) more before result after (inr (inr (mid, does, makes))) = elim (split_some acts more mid result after makes) [
  | inl (refused, rest) ↦ inl (refused, inr (inr (mid, does, rest)))
  | inr (end, rest, next) ↦ inr (end, inr (inr (mid, does, rest)), next)
]

module _ (base : Files) (name : List ℕ) (said : List ℕ) where
  -- bytes are added after those that were added
  bytes_held : (done bytes : List ℕ) (made : Call) (before after : DeskState) → before.begun ≡ Some name → Holds (insert base name done) said before
      → after.contents ≡ with_call made (with_bytes before.begun bytes before.contents) → Holds (insert base name (done ++ bytes)) said after
  bytes_held done bytes made before after begun holds is = record {
    contents = _;
    tells = is ∙ ap (λ b. with_call made (with_bytes b bytes before.contents)) begun ∙ ap (λ t. with_call made (with_bytes (Some name) bytes t)) holds.tells;
    files_are = ap (λ (fs : Files). insert fs name (unwrap_or (get fs name) [] ++ bytes)) holds.files_are ∙ more_bytes base name done bytes;
    said_is = holds.said_is;
  }

  -- the file has all bytes, or some first ones
  abbrev IsAdded : List ℕ → List ℕ → Result (Unit {0}) DeskFault → DeskState → Type 0
  IsAdded done bytes (Ok all) after = Holds (insert base name (done ++ bytes)) said after
  IsAdded done bytes (Err fault) after = (k : ℕ) × Holds (insert base name (done ++ take k bytes)) said after

  rest_added : (parts : List (List ℕ)) (done : List ℕ) (before : DeskState) (result : Result (Unit {0}) DeskFault) (after : DeskState) → before.begun ≡ Some name → Holds (insert base name done) said before
      → MakesSome (map Add parts ++ Finish ∷ []) before result after → IsAdded done (joined parts) result after
  rest_added [] done before (Ok tt) after begun holds (inl (never, same)) = absurd cc
  rest_added [] done before (Err fault) after begun holds (inl (memory, same)) = (0, rw (append-nil done, same) holds)
  rest_added [] done before (Ok tt) after begun holds (inr (inl never)) = absurd never.0
  rest_added [] done before (Err fault) after begun holds (inr (inl (refused, finishes))) =
      (0, rw (append-nil done) (held_called {T = Unit {0}} (Err fault) call.Finish _ _ before after holds (inl finishes.contents)))
  rest_added [] done before result after begun holds (inr (inr (mid, finishes, (ok, is)))) =
      subst (λ r. IsAdded done [] r after) (sym ok) (rw (is, append-nil done) (held_called {T = Unit {0}} (Ok tt) call.Finish _ _ before mid holds (inl finishes.contents)))
  rest_added (part ∷ parts) done before (Ok tt) after begun holds (inl (never, same)) = absurd cc
  rest_added (part ∷ parts) done before (Err fault) after begun holds (inl (memory, same)) = (0, rw (append-nil done, same) holds)
  rest_added (part ∷ parts) done before (Ok tt) after begun holds (inr (inl never)) = absurd never.0
  rest_added (part ∷ parts) done before (Err fault) after begun holds (inr (inl (refused, adds))) = elim adds.refused [
    | inl called ↦ (0, rw (append-nil done) (held_called {T = Unit {0}} (Err fault) _ _ _ before after holds called))
    | inr (n, within, is) ↦ (n, rw (take-append-le n part (joined parts) within) (bytes_held done (take n part) _ before after begun holds is))
  ]
  rest_added (part ∷ parts) done before result after begun holds (inr (inr (mid, adds, makes))) =
      more result (rest_added parts (done ++ part) mid result after (adds.begun ∙ begun) (bytes_held done part _ before mid begun holds adds.done) makes)
    where
      more : (result : Result (Unit {0}) DeskFault) → IsAdded (done ++ part) (joined parts) result after → IsAdded done (part ++ joined parts) result after
      more (Ok tt) added = subst (λ bytes. Holds (insert base name bytes) said after) (append_assoc done part (joined parts)) added
      more (Err fault) (k, added) =
          (length part + k, subst (λ bytes. Holds (insert base name bytes) said after) (append_assoc done part (take k (joined parts)) ∙ ap (λ rest. done ++ rest) (sym (take-append-add part (joined parts) k))) added)

-- files are written, and nothing is said
abbrev AreLeft : List (List ℕ × List ℕ) → Files → List ℕ → Result (Unit {0}) DeskFault → DeskState → Type 0
AreLeft files base said (Ok all) after = Holds (written files base) said after
AreLeft files base said (Err fault) after = (now : Files) × Holds now said after × ArePartlyWritten files base now

-- a file that is begun
begun_held : (name : List ℕ) (base : Files) (said : List ℕ) (before after : DeskState) → Holds base said before → after.contents ≡ with_call (call.Begin name) (with_empty name before.contents) → Holds (insert base name []) said after
begun_held name base said before after holds is = record {
  contents = _;
  tells = is ∙ ap (λ t. with_call (call.Begin name) (with_empty name t)) holds.tells;
  files_are = ap (λ (fs : Files). insert fs name []) holds.files_are;
  said_is = holds.said_is;
}

-- one file, by its parts
pub parts_left : (name : List ℕ) (parts : List (List ℕ)) (base : Files) (said : List ℕ) (before : DeskState) (result : Result (Unit {0}) DeskFault) (after : DeskState) → Holds base said before → MakesSome (parts_acts name parts) before result after
    → AreLeft ((name, joined parts) ∷ []) base said result after
parts_left name parts base said before (Ok tt) after holds (inl (never, same)) = absurd cc
parts_left name parts base said before (Err fault) after holds (inl (memory, same)) = (base, rw same holds, inl (inl refl))
parts_left name parts base said before (Ok tt) after holds (inr (inl never)) = absurd never.0
parts_left name parts base said before (Err fault) after holds (inr (inl (refused, begins))) = elim begins.refused [
  | inl called ↦ (base, held_called {T = Unit {0}} (Err fault) _ _ _ before after holds called, inl (inl refl))
  | inr is ↦ (insert base name [], begun_held name base said before after holds is, inl (inr (0, refl)))
]
parts_left name parts base said before result after holds (inr (inr (mid, begins, makes))) =
    by result (rest_added base name said parts [] mid result after begins.begun_done (begun_held name base said before mid holds begins.done) makes)
  where
    by : (result : Result (Unit {0}) DeskFault) → IsAdded base name said [] (joined parts) result after → AreLeft ((name, joined parts) ∷ []) base said result after
    by (Ok tt) added = added
    by (Err fault) (k, added) = (insert base name (take k (joined parts)), added, inl (inr (k, refl)))

file_left : (file : List ℕ × List ℕ) (base : Files) (said : List ℕ) (before : DeskState) (result : Result (Unit {0}) DeskFault) (after : DeskState) → Holds base said before → Makes (file_acts file) before result after → AreLeft (file ∷ []) base said result after
file_left file base said before result after holds makes =
    subst (λ (bytes : List ℕ). AreLeft ((file.0, bytes) ∷ []) base said result after) (pieces_joined 65536 (length file.1) file.1 (omega arith) (omega arith))
    (parts_left file.0 (pieces file.1) base said before result after holds (some_of (file_acts file) before result after makes))

-- and all of them
files_left : (files : List (List ℕ × List ℕ)) (base : Files) (said : List ℕ) (before : DeskState) (result : Result (Unit {0}) DeskFault) (after : DeskState) → Holds base said before → Makes (flat_map file_acts files) before result after → AreLeft files base said result after
files_left [] base said before result after holds (ok, is) = subst (λ r. AreLeft [] base said r after) (sym ok) (rw is holds)
files_left (file ∷ files) base said before result after holds makes =
    by result (split_made (file_acts file) (flat_map file_acts files) before result after makes) (λ mid held rest. files_left files (insert base file.0 file.1) said mid result after held rest)
  where
    by : (result : Result (Unit {0}) DeskFault)
        → (IsRefused result × Makes (file_acts file) before result after) ⊎ ((mid : DeskState) × Makes (file_acts file) before (Ok tt) mid × Makes (flat_map file_acts files) mid result after)
        → ((mid : DeskState) → Holds (insert base file.0 file.1) said mid → Makes (flat_map file_acts files) mid result after → AreLeft files (insert base file.0 file.1) said result after)
        → AreLeft (file ∷ files) base said result after
    by (Ok tt) (inl never) next = absurd never.0
    by (Err fault) (inl (refused, makes)) next = let (now, held, part) = file_left file base said before (Err fault) after holds makes in elim part [ inl own ↦ (now, held, inl own) | inr never ↦ absurd never ]
    by (Ok tt) (inr (mid, whole, rest)) next = next mid (file_left file base said before (Ok tt) mid holds whole) rest
    by (Err fault) (inr (mid, whole, rest)) next = let (now, held, part) = next mid (file_left file base said before (Ok tt) mid holds whole) rest in (now, held, inr part)

-- a text is said after the files of an answer
module _ (answer : Answer) (t t' : Contents) (after : DeskState) (tells' : after.contents ≡ Some t') where
  now : (files : Files) (said : List ℕ) → Holds files said after → (t'.files ≡ files) × (t'.said ≡ said)
  now files said holds = let same : t' ≡ holds.contents = some_is (sym tells' ∙ holds.tells) in (ap (λ (x : Contents). x.files) same ∙ holds.files_are, ap (λ (x : Contents). x.said) same ∙ holds.said_is)

  spoken : (bytes : List ℕ) (made : Call) (files : Files) (mid last : DeskState) → Holds files t.said mid → last.contents ≡ with_call made (with_said bytes mid.contents) → Holds files (t.said ++ bytes) last
  spoken bytes made files mid last holds is = record {
    contents = _;
    tells = is ∙ ap (λ c. with_call made (with_said bytes c)) holds.tells;
    files_are = holds.files_are;
    said_is = ap (λ s. s ++ bytes) holds.said_is;
  }

  -- nothing of it was said
  unsaid : (mid : DeskState) (fault : DeskFault) → Holds (written answer.files t.files) t.said mid → after ≡ mid → IsLeft answer (Err fault) t t'
  unsaid mid fault holds same = let both = now _ _ (rw same holds) in inr (both.0, (0, both.1 ∙ sym (append-nil t.said)))

  said_left : (result : Result (Unit {0}) DeskFault) (mid : DeskState) → Holds (written answer.files t.files) t.said mid → MakesSome (Say answer.text ∷ []) mid result after → IsLeft answer result t t'
  said_left (Ok tt) mid holds (inl (never, same)) = absurd cc
  said_left (Err fault) mid holds (inl (memory, same)) = unsaid mid fault holds same
  said_left (Ok tt) mid holds (inr (inl never)) = absurd never.0
  said_left (Ok tt) mid holds (inr (inr (last, says, (ok, is)))) = let both = now _ _ (rw is (spoken answer.text _ _ mid last holds says.done)) in record { files = both.0; said = both.1 }
  said_left (Err fault) mid holds (inr (inl (refused, says))) = elim says.refused [
    | inl called ↦ (let both = now _ _ (held_called {T = Unit {0}} (Err fault) _ _ _ mid after holds called) in inr (both.0, (0, both.1 ∙ sym (append-nil t.said))))
    | inr (n, within, is) ↦ (let both = now _ _ (spoken (take n answer.text) _ _ mid after holds is) in inr (both.0, (n, both.1)))
  ]
  said_left (Err fault) mid holds (inr (inr (last, says, (never, is)))) = absurd cc

  -- the files were not written whole
  unwritten : (fault : DeskFault) → AreLeft answer.files t.files t.said (Err fault) after → IsLeft answer (Err fault) t t'
  unwritten fault left = let both = now left.0 t.said left.1 in inl (rw both.0 left.2, both.1)

-- the calls of an answer leave it whole, or cut short
pub answer_left : (answer : Answer) (before : DeskState) (result : Result (Unit {0}) DeskFault) (after : DeskState) (t t' : Contents) → Holds t.files t.said before → after.contents ≡ Some t' → Makes (acts_of answer) before result after → IsLeft answer result t t'
answer_left answer before result after t t' held tells' makes = by result (split_made (flat_map file_acts answer.files) (Say answer.text ∷ []) before result after makes)
  where
    by : (result : Result (Unit {0}) DeskFault)
        → (IsRefused result × Makes (flat_map file_acts answer.files) before result after) ⊎ ((mid : DeskState) × Makes (flat_map file_acts answer.files) before (Ok tt) mid × Makes (Say answer.text ∷ []) mid result after)
        → IsLeft answer result t t'
    by (Ok tt) (inl never) = absurd never.0
    by (Err fault) (inl (refused, makes)) = unwritten answer t t' after tells' fault (files_left answer.files t.files t.said before (Err fault) after held makes)
    by result (inr (mid, makes, says)) = said_left answer t t' after tells' result mid (files_left answer.files t.files t.said before (Ok tt) mid held makes) (some_of (Say answer.text ∷ []) mid result after says)

-- so do those of a file that is written in parts
pub told_left : (name : List ℕ) (parts : List (List ℕ)) (text : List ℕ) (before : DeskState) (result : Result (Unit {0}) DeskFault) (after : DeskState) (t t' : Contents) → Holds t.files t.said before → after.contents ≡ Some t'
    → MakesSome (parts_acts name parts ++ Say text ∷ []) before result after → IsLeft (writes_file name (joined parts) text) result t t'
told_left name parts text before result after t t' held tells' makes = by result (split_some (parts_acts name parts) (Say text ∷ []) before result after makes)
  where
    by : (result : Result (Unit {0}) DeskFault)
        → (IsRefused result × MakesSome (parts_acts name parts) before result after) ⊎ ((mid : DeskState) × MakesSome (parts_acts name parts) before (Ok tt) mid × MakesSome (Say text ∷ []) mid result after)
        → IsLeft (writes_file name (joined parts) text) result t t'
    by (Ok tt) (inl never) = absurd never.0
    by (Err fault) (inl (refused, makes)) = unwritten (writes_file name (joined parts) text) t t' after tells' fault (parts_left name parts t.files t.said before (Err fault) after held makes)
    by result (inr (mid, makes, says)) = said_left (writes_file name (joined parts) text) t t' after tells' result mid (parts_left name parts t.files t.said before (Ok tt) mid held makes) says

-- a file that was not written whole, and nothing was said
pub cut_left : (name : List ℕ) (parts : List (List ℕ)) (before : DeskState) (fault : DeskFault) (after : DeskState) (t t' : Contents) → Holds t.files t.said before → after.contents ≡ Some t' → MakesSome (parts_acts name parts) before (Err fault) after
    → IsPartlyWritten (name, joined parts) t.files t'.files × (t'.said ≡ t.said)
cut_left name parts before fault after t t' held tells' makes =
    let (files, holds, part) = parts_left name parts t.files t.said before (Err fault) after held makes in
    let both = now (writes_file name (joined parts) []) t t' after tells' files t.said holds in (
      elim part [
        | inl own ↦ rw both.0 own
        | inr never ↦ absurd never
      ],
      both.1,
    )
