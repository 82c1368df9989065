-- An exchange that begins a share keeps the state sound, whether it finds the state that was loaded or not.
use Rattle.std.proofs.Common.{◌≡◌, ◌≢◌, ℕ, ◌^◌, ◌<◌, inl, inr, Bool, true, false, ◌||◌, IsTrue, List, [], ◌∷◌, ◌++◌, length, Some, None, sym, refl, ap, ◌∙◌, subst, arith, length-set, get_or-set_same, get_or-set_other}
use Rattle.std.specs.Prelude.{◌==◌, not, nat_le, if◌then◌else◌}
use Rattle.std.proofs.lemmas.Bool.{cases_eq, and_from, eq-eqb, ne_eqb, lt-ltb, le-leb}
use prog.Atomic.{either}
use Rattle.octet_model.specs.declared.event.Mark.{Mark}
use Rattle.octet_model.specs.declared.event.Mark.TheVariants.{Join, Draw}
use Rattle.octet_model.specs.declared.event.Event.{Event}
use Rattle.octet_model.specs.declared.event.Event.TheVariants.{Marked}
use Rattle.octet_model.specs.Machine.{journal_of, appended}
use Rattle.octet_model.specs.Plays.{IsOneHistory}
use Rattle.octet_model.specs.Log.{is_mark}
use Rattle.octet_model.proofs.lemmas.Steps.{count, new_event}
use Rattle.octet_model.proofs.lemmas.Growth.{history_grows}
use Rattle.octet_model.proofs.lemmas.Pasts.{past_has_joined}
use Rattle.octet_state.specs.declared.state_word.StateWord.{StateWord}
use Rattle.octet_state.specs.declared.state_word.StateWord.TheVariants.{WrEx, RdEx, RdSh, WrInt, RdInt, ShInt}
use Rattle.octet_state.specs.declared.status_word.StatusWord.{StatusWord}
use Rattle.octet_state.specs.declared.act.Mode.{Mode}
use Rattle.octet_state.specs.declared.act.Mode.TheVariants.{Read}
use Rattle.octet_state.specs.declared.act.Whom.TheVariants.{One}
use Rattle.octet_state.specs.declared.act.Act.TheVariants.{Pass, Fence, Raise, Share, Take}
use Rattle.octet_state.specs.declared.phase.Phase.{Phase}
use Rattle.octet_state.specs.declared.phase.Phase.TheVariants.{Off, Idle, Want, Pass, FenceDue, Claimed, Sharing, Blocked}
use Rattle.octet_state.specs.declared.phase.Due.TheVariants.{Nothing, Glance}
use Rattle.octet_state.specs.Words.{packed_state}
use Rattle.octet_state.specs.Table.{decided}
use Rattle.octet_state.specs.State.{Thread, ProtocolState, thread_of, status_of, state_of, now, unstarted, state_place}
use Rattle.octet_state.specs.Steps.{ToShare, target, lost, moved, wins, with_state, exchanged, joined_by_share, proceeded}
use Rattle.octet_state.specs.Positions.{NamesThread}
use Rattle.octet_state.specs.Passing.{claim_lets_pass, may_pass, passes, AllPass}
use Rattle.octet_state.specs.Intermediate.{change_of, change_by, ChangesAreByPhases}
use Rattle.octet_state.specs.Pasts.{KnowsWrites, StateKnows, HasPasts}
use Rattle.octet_state.specs.Handover.{ClaimHandsOver}
use Rattle.octet_state.specs.FrugalShape.{has_access, marks_for, fences_for, is_on, touches, AsksThreadZero, IsPrivateState, IsPrivateShape, HasFrugalShape}
use Rattle.octet_state.specs.Soundness.{IsSound}
use Rattle.octet_state.specs.Laws.{Stands, ShareIsLawful}
use Rattle.octet_state.proofs.frames.SeenByOthers.{LooksAlike, each_thread, asks_zero}
use Rattle.octet_state.proofs.lemmas.Widths.{few_events}
use Rattle.octet_state.proofs.frames.LongerJournals.{ends_marked}
use Rattle.octet_state.proofs.frames.EventMade.{StandsAfter, mine, now_grows, now_more, form, positions}
use Rattle.octet_state.proofs.frames.MarkMade.{mark_keeps_order, writes_on, draws_on, claim_on, pasts_on}
use Rattle.octet_state.proofs.steps.Load.{IsReady, ready}
use Rattle.octet_state.proofs.steps.Raise.{exchange_makes, finds_seen, holds_seen, loses_soundly}
use Rattle.octet_state.proofs.frames.CounterChange.{form_reworded, positions_reworded}
use Rattle.octet_state.proofs.frames.WordOfStep.{does_at}
use Rattle.octet_state.proofs.parts.FrugalShapeOfMarks.{shape_after_mark}
use Rattle.octet_state.proofs.parts.FrugalShape.{private_state_on, shape_with}

-- only a read-exclusive state of another thread is shared, for a read
shared : (seen : StateWord) (t : ℕ) (mode : Mode) (number from upto : ℕ) → decided seen t mode number ≡ Share from upto → (seen ≡ RdEx from upto) × (mode ≡ Read) × (from ≢ t)
shared (WrEx owner) t mode number from upto h = absurd (neither (owner == t) h)
  where
    neither : (b : Bool) → (if b then Pass else Take (One owner)) ≡ Share from upto → ⊥
    neither true k = cc
    neither false k = cc
shared (RdEx owner since) t Read number from upto h = other (owner == t) refl h
  where
    other : (b : Bool) → (owner == t) ≡ b → (if b then Pass else Share owner since) ≡ Share from upto → (RdEx owner since ≡ RdEx from upto) × (Read ≡ Read) × (from ≢ t)
    other true e k = absurd cc
    other false e k = let u : owner ≡ from = cc in let p : since ≡ upto = cc in
        ((λ i. RdEx (u i) (p i)), refl, λ same. let it : (owner == t) ≡ true = eq-eqb owner t (u ∙ same) in cc)
shared (RdEx owner since) t _ number from upto h = absurd (neither (owner == t) h)
  where
    neither : (b : Bool) → (if b then Raise else Take (One owner)) ≡ Share from upto → ⊥
    neither true k = cc
    neither false k = cc
shared (RdSh drawn) t Read number from upto h = absurd (neither (nat_le drawn number) h)
  where
    neither : (b : Bool) → (if b then Pass else Fence) ≡ Share from upto → ⊥
    neither true k = cc
    neither false k = cc
shared (RdSh drawn) t _ number from upto h = absurd cc
shared (WrInt by) t mode number from upto h = absurd cc
shared (RdInt by) t mode number from upto h = absurd cc
shared (ShInt by) t mode number from upto h = absurd cc

module _ (s : ProtocolState) (t object owner upto : ℕ) (inside : t < length s.threads) (there : object < length s.cells) (sound : IsSound s)
    (stands : Stands s t (Want object Read (Some (RdEx owner upto)))) (state : state_of s object ≡ RdEx owner upto) (apart : owner ≢ t) where
  abbrev sharing : Thread
  sharing = moved (Sharing object None) Nothing (thread_of s t)

  abbrev event : Event
  event = Marked (Join owner upto)

  -- the event, and then the state of the object
  abbrev grown : ProtocolState
  grown = proceeded s t sharing (Some event)

  abbrev next : ProtocolState
  next = proceeded (with_state s object (ShInt t)) t sharing (Some event)

  is_ready : IsReady s t
  is_ready = ready s t object Read sound (inr (Some (RdEx owner upto), stands))

  -- the owner is there, and has reached the position that the state names
  knows : StateKnows s.journals s.counter object (RdEx owner upto)
  knows = subst (StateKnows s.journals s.counter object) state (sound.pasts.states object)

  named : owner < length s.threads
  named = subst (NamesThread (length s.threads)) state (sound.positions.named object)

  stands_after : StandsAfter s t sharing event
  stands_after = record {
    ran = is_ready.runs;
    runs = refl;
    dues = refl;
    phases = there;
    prior_named = tt;
    mark_named = λ mark same. let it : Join owner upto ≡ mark = cc in subst (λ (m : Mark). IsTrue (is_mark (length s.threads) t m)) it
        (and_from _ _ (and_from _ _ (lt-ltb owner (length s.threads) named) (ap not (ne_eqb owner t apart))) (lt-ltb upto (2 ^ 64) (let a = knows.0 in let b = few_events s owner sound in omega arith)));
    accesses = let a = is_ready.room in omega arith;
    few = λ o none. absurd cc;
    at_end = (owner, upto, ends_marked [] (journal_of s.journals t) (Join owner upto) ∙ ap (λ (l : List Mark). l ++ Join owner upto ∷ []) is_ready.bare);
  }

  within : t < length s.journals
  within = mine s t sharing event inside sound

  history : IsOneHistory s.starts (appended s.journals t event) s.cells s.counter
  history = history_grows s.starts s.journals s.cells s.counter t event sound.one_history within (le-leb upto (now s owner) knows.0) refl
      (mark_keeps_order s.journals t (Join owner upto) within sound.one_history.ordered)

  each : (P : ℕ → Thread → Type 0) → P t sharing → ((u : ℕ) → u ≢ t → P u (thread_of s u)) → (u : ℕ) → P u (thread_of next u)
  each = each_thread (with_state s object (ShInt t)) t sharing inside (Some event)

  object_within : object < length s.states
  object_within = let h = sound.form.states in omega arith

  own_state : state_of next object ≡ ShInt t
  own_state = get_or-set_same s.states object (ShInt t) (WrEx 0) object_within

  other_state : (o : ℕ) → o ≢ object → state_of next o ≡ state_of s o
  other_state o differ = get_or-set_other s.states object o (ShInt t) (WrEx 0) differ

  each_state : (P : ℕ → StateWord → Type 0) → P object (ShInt t) → ((o : ℕ) → o ≢ object → P o (state_of s o)) → (o : ℕ) → P o (state_of next o)
  each_state P here others o = elim (cases_eq o object) [
    | inl same ↦ subst (λ (q : ℕ). P q (state_of next q)) (sym same) (subst (P object) (sym own_state) here)
    | inr differ ↦ subst (P o) (sym (other_state o differ)) (others o differ)
  ]

  -- the thread claimed nothing
  claim_stays : (mode : Mode) (u o : ℕ) (status : StatusWord) (by : ℕ) → IsTrue (claim_lets_pass mode u o status by (thread_of s by).phase) → IsTrue (claim_lets_pass mode u o status by (thread_of next by).phase)
  claim_stays mode u o status = each (λ by y. IsTrue (claim_lets_pass mode u o status by (thread_of s by).phase) → IsTrue (claim_lets_pass mode u o status by y.phase))
      (λ h. absurd (let never : IsTrue (claim_lets_pass mode u o status t (Want object Read (Some (RdEx owner upto)))) = subst (λ (p : Phase). IsTrue (claim_lets_pass mode u o status t p)) stands.1 h in cc))
      (λ by differ h. h)

  pass_elsewhere : (mode : Mode) (u o : ℕ) (w : StateWord) → IsTrue (may_pass s.statuses s.threads mode u o w) → IsTrue (may_pass next.statuses next.threads mode u o w)
  pass_elsewhere mode u o (WrInt by) h = claim_stays mode u o (status_of s u) by h
  pass_elsewhere mode u o (RdInt by) h = claim_stays mode u o (status_of s u) by h
  pass_elsewhere mode u o (WrEx v) h = h
  pass_elsewhere mode u o (RdEx v p) h = h
  pass_elsewhere mode u o (RdSh number) h = h
  pass_elsewhere mode u o (ShInt by) h = h

  -- a read-exclusive object lets readers pass, and so does one that is being shared
  readers_stay : (mode : Mode) (u : ℕ) → IsTrue (may_pass s.statuses s.threads mode u object (RdEx owner upto)) → IsTrue (may_pass next.statuses next.threads mode u object (ShInt t))
  readers_stay Read u h = refl
  readers_stay _ u h = absurd cc

  pass_on : (mode : Mode) (u o : ℕ) → IsTrue (may_pass s.statuses s.threads mode u o (state_of s o)) → IsTrue (may_pass next.statuses next.threads mode u o (state_of next o))
  pass_on mode u = each_state (λ o w. IsTrue (may_pass s.statuses s.threads mode u o (state_of s o)) → IsTrue (may_pass next.statuses next.threads mode u o w))
      (λ h. readers_stay mode u (subst (λ (w : StateWord). IsTrue (may_pass s.statuses s.threads mode u object w)) state h))
      (λ o differ h. pass_elsewhere mode u o (state_of s o) h)

  passes_on : (u : ℕ) (p : Phase) → IsTrue (passes s.statuses s.states s.threads u p) → IsTrue (passes next.statuses next.states next.threads u p)
  passes_on u (Pass o mode) h = pass_on mode u o h
  passes_on u (FenceDue o number) h = pass_on Read u o h
  passes_on u Off h = refl
  passes_on u Idle h = refl
  passes_on u (Want o mode loaded) h = refl
  passes_on u (Claimed o mode prior done asked) h = refl
  passes_on u (Sharing o drawn) h = refl
  passes_on u Blocked h = refl

  passing : AllPass next
  passing = each (λ u y. IsTrue (passes next.statuses next.states next.threads u y.phase)) refl (λ u differ. passes_on u (thread_of s u).phase (sound.passing u))

  intermediate : ChangesAreByPhases next
  intermediate u o = each (λ v y. change_of (state_of next o) v ≡ change_by y.phase v o)
      (each_state (λ q w. change_of w t ≡ change_by (Sharing object None) t q)
      (ap (λ (b : Bool). if b then Some (ShInt t) else None) (eq-eqb t t refl ∙ sym (eq-eqb object object refl)))
      (λ q differ. sound.intermediate t q ∙ (ap (λ (p : Phase). change_by p t q) stands.1 ∙ sym (ap (λ (b : Bool). if b then Some (ShInt t) else None) (ne_eqb object q (λ same. differ (sym same)))))) o)
      (λ v differ. each_state (λ q w. change_of w v ≡ change_by (thread_of s v).phase v q)
      (ap (λ (b : Bool). if b then Some (ShInt t) else None) (ne_eqb t v (λ same. differ (sym same))) ∙ (sym (ap (λ (w : StateWord). change_of w v) state) ∙ sound.intermediate v object))
      (λ q elsewhere. sound.intermediate v q) o)
      u

  -- after the Join lie the writes that the owner knew at its position, and those are all writes of the object
  writes_lie : KnowsWrites (appended s.journals t event) object t (now grown t)
  writes_lie place write = past_has_joined (appended s.journals t event) t (now grown t) (count s.journals t) owner upto place
      (let h = now_more s t sharing event inside sound in omega arith) (new_event s.journals t event within)
      (let a = knows.0 in let b = now_grows s t sharing event inside sound owner in omega arith)
      (writes_on s t sharing (Join owner upto) inside sound object owner upto upto (omega arith) knows.1 place write)

  no_draw : (number : ℕ) → event ≡ Marked (Draw number) → ⊥
  no_draw number h = cc

  pasts_grown : HasPasts grown
  pasts_grown = pasts_on s t sharing (Join owner upto) inside sound no_draw writes_lie (sound.pasts.counts t)
      (draws_on s t sharing (Join owner upto) inside sound no_draw (thread_of s t).count t (now s t) (now grown t) (now_grows s t sharing event inside sound t) (sound.pasts.draws t))

  pasts : HasPasts next
  pasts = record {
    states = each_state (λ o w. StateKnows next.journals next.counter o w) tt (λ o differ. pasts_grown.states o);
    phases = pasts_grown.phases;
    counts = pasts_grown.counts;
    draws = pasts_grown.draws;
  }

  -- the thread as it wanted the object, after the event
  abbrev wanting : Thread
  wanting = moved (Want object Read None) Nothing (thread_of s t)

  abbrev still : ProtocolState
  still = proceeded s t wanting (Some event)

  still_alike : LooksAlike wanting (thread_of s t)
  still_alike = record { busy_same = sym is_ready.idle }

  still_shape : HasFrugalShape still
  still_shape = shape_after_mark s t wanting (Join owner upto) inside sound (λ o. sym (ap (λ (p : Phase). is_on p o) stands.1)) (asks_zero s t wanting inside (Some event) still_alike) (λ o old. refl) (λ o old marks. absurd cc)

  looks_so : {A : Type 0} (f : Phase → A) → f sharing.phase ≡ f wanting.phase → (u : ℕ) → f (thread_of next u).phase ≡ f (thread_of still u).phase
  looks_so f same = each (λ u y. f y.phase ≡ f (thread_of still u).phase)
      (subst (λ (y : Thread). f sharing.phase ≡ f y.phase) (sym (get_or-set_same s.threads t wanting unstarted inside)) same)
      (λ u differ. ap (λ (y : Thread). f y.phase) (sym (get_or-set_other s.threads t u wanting unstarted differ)))

  on_none : (o : ℕ) → o ≢ object → (object == o) ≡ false
  on_none o differ = ne_eqb object o (λ same. differ (sym same))

  -- another object is touched as before
  touches_there : (o u : ℕ) → o ≢ object → touches next.journals next.threads o u ≡ touches still.journals still.threads o u
  touches_there o u differ = ap (λ (on : Bool). has_access (journal_of next.journals u) o || on) (looks_so (λ p. is_on p o) (ap (λ (b : Bool). b || false) (on_none o differ)) u)

  -- and this one by the others
  touches_other : (u : ℕ) → u ≢ t → touches next.journals next.threads object u ≡ touches still.journals still.threads object u
  touches_other u differ = ap (λ (y : Thread). has_access (journal_of next.journals u) object || is_on y.phase object)
      (get_or-set_other s.threads t u sharing unstarted differ ∙ sym (get_or-set_other s.threads t u wanting unstarted differ))

  touches_own : touches next.journals next.threads object t ≡ true
  touches_own = ap (λ (y : Thread). has_access (journal_of next.journals t) object || is_on y.phase object) (get_or-set_same s.threads t sharing unstarted inside)
      ∙ last (has_access (journal_of next.journals t) object) (object == object) (eq-eqb object object refl)
    where
      last : (a b : Bool) → b ≡ true → (a || (b || false)) ≡ true
      last true b h = refl
      last false true h = refl
      last false false h = absurd cc

  asks_on : (u : ℕ) → AsksThreadZero (thread_of still u).phase → AsksThreadZero (thread_of next u).phase
  asks_on = each (λ u y. AsksThreadZero (thread_of still u).phase → AsksThreadZero y.phase)
      (λ h. subst (λ (y : Thread). AsksThreadZero y.phase) (get_or-set_same s.threads t wanting unstarted inside) h)
      (λ u differ h. subst (λ (y : Thread). AsksThreadZero y.phase) (get_or-set_other s.threads t u wanting unstarted differ) h)

  shape_there : (o u : ℕ) → o ≢ object → IsPrivateShape still.journals still.states still.threads o u → IsPrivateShape next.journals next.states next.threads o u
  shape_there o u differ old = record {
    state = subst (IsPrivateState next.journals next.threads o u) (sym (other_state o differ)) (private_state_on still.journals next.journals still.threads next.threads o u (state_of s o) (λ by h. (asks_on u h.0, h.1, h.2)) old.state);
    no_fence = looks_so (λ p. fences_for p o) refl u ∙ old.no_fence;
    before = old.before;
    to_come = λ marks. old.to_come (sym (looks_so (λ p. marks_for p o) (on_none o differ) u) ∙ marks);
  }

  -- the thread is not alone on the object: another thread had it read-exclusive
  not_alone : (b : Bool) → touches still.journals still.threads object t ≡ b → ((u : ℕ) → IsTrue (touches next.journals next.threads object u) → u ≡ t) → ⊥
  not_alone true was alone =
      let old = still_shape.private object t (was, λ u h. elim (cases_eq u t) [ inl same ↦ same | inr differ ↦ alone u (touches_other u differ ∙ h) ]) in
      apart (subst (IsPrivateState still.journals still.threads object t) state old.state)
  not_alone false was alone =
      let fresh : state_of s object ≡ WrEx 0 = still_shape.untouched object (λ u. elim (cases_eq u t) [
        | inl same ↦ subst (λ (v : ℕ). touches still.journals still.threads object v ≡ false) (sym same) was
        | inr differ ↦ not_touched (touches still.journals still.threads object u) (λ h. differ (alone u (touches_other u differ ∙ h)))
      ]) in
      let both : RdEx owner upto ≡ WrEx 0 = sym state ∙ fresh in cc
    where
      not_touched : (b : Bool) → (b ≡ true → ⊥) → b ≡ false
      not_touched true h = absurd (h refl)
      not_touched false h = refl

  shape : HasFrugalShape next
  shape = shape_with still.journals next.journals still.threads next.threads still.states next.states object t touches_own touches_there other_state shape_there
      (λ alone. absurd (not_alone (touches still.journals still.threads object t) refl alone)) still_shape

  pub shares_soundly : IsSound (proceeded (with_state s object (ShInt t)) t (moved (Sharing object None) Nothing (thread_of s t)) (Some (Marked (Join owner upto))))
  shares_soundly = record {
    form = form_reworded grown s.counter next.states (length-set s.states object (ShInt t)) (form s t sharing event inside sound stands_after);
    one_history = history;
    positions = let h = positions s t sharing event inside sound stands_after in let many = length-set s.threads t sharing in positions_reworded grown s.counter next.states
        (subst (λ (n : ℕ). (o : ℕ) → NamesThread n (state_of next o)) (sym many) (each_state (λ o w. NamesThread (length s.threads) w) inside (λ o differ. sound.positions.named o))) h;
    passing = passing;
    intermediate = intermediate;
    pasts = pasts;
    handover = each (λ u y. ClaimHandsOver next.journals next.statuses u y.phase) tt
        (λ u differ. claim_on s t sharing (Join owner upto) inside sound no_draw u (thread_of s u).phase (sound.handover u));
    frugal = shape;
  }

module _ (s : ProtocolState) (t object : ℕ) (mode : Mode) (seen : StateWord) (from upto : ℕ) (inside : t < length s.threads) (sound : IsSound s)
    (stands : Stands s t (Want object mode (Some seen))) (act : decided seen t mode (thread_of s t).count ≡ Share from upto) where
  by_outcome : (b : Bool) → (packed_state (state_of s object) == packed_state seen) ≡ b
      → IsSound (proceeded (exchanged b s object (ShInt t)) t (if b then moved (Sharing object None) Nothing (thread_of s t) else moved (Want object mode None) Glance (thread_of s t))
      (if b then joined_by_share (Want object mode (Some seen)) else None))
  by_outcome false lost = loses_soundly s t object mode seen inside sound stands
  by_outcome true won =
      let holds = holds_seen s t object mode seen inside sound stands in
      let kind = shared seen t mode (thread_of s t).count from upto act in
      let state : state_of s object ≡ RdEx from upto = finds_seen s object seen sound holds.1 won ∙ kind.0 in
      let stands_so : Stands s t (Want object Read (Some (RdEx from upto))) = (stands.0, stands.1 ∙ (λ i. Want object (kind.1 i) (Some (kind.0 i)))) in
      subst (λ (w : StateWord). IsSound (proceeded (with_state s object (ShInt t)) t (moved (Sharing object None) Nothing (thread_of s t)) (joined_by_share (Want object mode (Some w))))) (sym kind.0)
      (shares_soundly s t object from upto inside holds.0 sound stands_so state kind.2)

pub share_is_lawful : ShareIsLawful
share_is_lawful s t place old new object mode seen from upto sound inside stands act at loads stores = record {
  may = (stands.0, (object, mode, seen, from, upto, stands.1, act));
  sound = subst (λ (p : Phase). IsSound (proceeded (exchanged (wins (packed_state (state_of s (target p))) p) s (target p) (ShInt t)) t
      (if wins (packed_state (state_of s (target p))) p then moved (Sharing (target p) None) Nothing (thread_of s t) else moved (lost p) Glance (thread_of s t))
      (if wins (packed_state (state_of s (target p))) p then joined_by_share p else None))) (sym stands.1)
      (by_outcome s t object mode seen from upto inside sound stands act (packed_state (state_of s object) == packed_state seen) refl);
  does = does_at s sound.form t inside ToShare place (λ word. either (word == old) new word)
      (subst (λ (p : Phase). target p < length s.cells) (sym stands.1) (holds_seen s t object mode seen inside sound stands).0)
      (at ∙ ap (λ (p : Phase). state_place s (target p)) (sym stands.1)) (exchange_makes s (thread_of s t).phase object mode seen (ShInt t) old new stands.1 loads stores);
}
