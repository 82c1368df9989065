-- What a step changes keeps a state sound.
use Rattle.std.proofs.Common.{◌≡◌, ◌≢◌, ℕ, zero, suc, ◌<◌, ◌≤◌, inl, inr, Bool, cond, All, List, [], ◌∷◌, ◌++◌, map, length, get_or, set, slice_set, IsTrue, refl, sym, ap, ◌∙◌, subst, arith, length-append, length-set}
use Rattle.std.proofs.lemmas.Bool.{cases_eq, eq-eqb, ne_eqb}
use Rattle.std.proofs.lemmas.List.{length-map, get_or-set_same, get_or-set_other}
use Rattle.octet_model.specs.declared.event.Event.{Event}
use Rattle.octet_model.specs.Journals.{gapped_marks}
use Rattle.octet_model.specs.Machine.{Journals, journal_of, PlainState, Operation, Wants, Behavior, is_enabled, event_made, heap_after, performed, next_of, IsFront}
use Rattle.octet_model.specs.Orders.{by_log, thread_log_of, opening_state, state_after}
use Rattle.octet_model.proofs.lemmas.Steps.{Makes, makes_from, by_front}
use Rattle.octet_model.specs.declared.object.Object.{Object}
use Rattle.octet_replay.proofs.lemmas.EventsMade.{same_length}
use Rattle.octet_model.proofs.lemmas.Fronts.{no_journal, front_on, after_on}
use Rattle.octet_model.proofs.lemmas.Splits.{length_parts, length-gapped_marks}
use Rattle.octet_replay.proofs.lemmas.Valid.{few_accesses, few_marks}
use Rattle.octet_parallel.specs.declared.fate.Fate.TheVariants.{Amiss}
use Rattle.octet_parallel.specs.State.{PlayerState, FieldState, SomeAmiss, player_of, unbegun, found_of, found_last, made_by, stop_number, next_of_player, plain}
use Rattle.octet_clock.specs.Fronts.{demand_after}
use Rattle.octet_parallel.specs.Soundness.{IsSoundLook, IsSoundPlayer, IsSoundField}
use Rattle.octet_parallel.specs.Tracks.{IsOnTrack}
use Rattle.octet_parallel.proofs.verdicts.Tracks.{none_on_track, front_on_track}
use Rattle.octet_clock.proofs.lemmas.DrawsMade.{DrawsMade, draws_made}

journal_at : (ps : List PlayerState) (u : ℕ) → journal_of (map (λ (p : PlayerState). p.journal) ps) u ≡ (get_or ps u unbegun).journal
journal_at [] u = refl
journal_at (p ∷ ps) zero = refl
journal_at (p ∷ ps) (suc u) = journal_at ps u

-- the journals, where one player has another
journals_set : (ps : List PlayerState) (t : ℕ) (q : PlayerState) → map (λ (p : PlayerState). p.journal) (set ps t q) ≡ set (map (λ (p : PlayerState). p.journal) ps) t q.journal
journals_set [] t q = refl
journals_set (p ∷ ps) zero q = refl
journals_set (p ∷ ps) (suc t) q = ap (λ (js : Journals). p.journal ∷ js) (journals_set ps t q)

pub journals_same : (ps : List PlayerState) (t : ℕ) (q : PlayerState) → q.journal ≡ (get_or ps t unbegun).journal → map (λ (p : PlayerState). p.journal) (set ps t q) ≡ map (λ (p : PlayerState). p.journal) ps
journals_same [] t q e = refl
journals_same (p ∷ ps) zero q e = ap (λ (j : List Event). j ∷ map (λ (p : PlayerState). p.journal) ps) e
journals_same (p ∷ ps) (suc t) q e = ap (λ (js : Journals). p.journal ∷ js) (journals_same ps t q e)

-- what holds of the number 0 and of each look holds of the last look at a player
last_holds : (P : ℕ × ℕ → Type 0) (looks : List (ℕ × ℕ)) → All P looks → (whom : ℕ) → P (whom, 0) → P (whom, found_last looks whom)
last_holds P [] each whom none = none
last_holds P (look ∷ looks) each whom none =
    elim (cases_eq whom look.0) [
      | inl same ↦
          subst (λ (n : ℕ). P (whom, n)) (sym (ap (λ (b : Bool). cond b look.1 (found_last looks whom)) (eq-eqb whom look.0 same)))
          (subst (λ (n : ℕ). P (n, look.1)) (sym same) (each 0 look (omega arith)))
      | inr ne ↦
          subst (λ (n : ℕ). P (whom, n)) (sym (ap (λ (b : Bool). cond b look.1 (found_last looks whom)) (ne_eqb whom look.0 ne)))
          (last_holds P looks (λ place d inside. each (suc place) d (omega arith)) whom none)
    ]

pub found_sound : (s : FieldState) (t : ℕ) (p : PlayerState) → IsSoundPlayer s t p → (whom : ℕ) → IsSoundLook s (whom, found_of p whom)
found_sound s t p own whom = last_holds (IsSoundLook s) p.found own.looks whom (record { stop = λ is. absurd (let e : 0 ≡ stop_number = is in omega arith); number = λ ne. omega arith })

module _ (s : FieldState) (sound : IsSoundField s) where
  abbrev V : Behavior
  V = by_log s.script s.log.threads

  pub journal_is : (u : ℕ) → journal_of (plain s).journals u ≡ (player_of s u).journal
  journal_is u = ap (λ (js : Journals). journal_of js u) sound.journals ∙ journal_at s.players u

  pub tracks : (u : ℕ) → IsOnTrack (thread_log_of s.log.threads u) (journal_of (plain s).journals u)
  tracks =
      front_on_track V (demand_after s.script) s.log.threads (λ u journal. refl) s.front (opening_state s.script) sound.lawful
      (λ u. subst (λ (j : List Event). IsOnTrack (thread_log_of s.log.threads u) j) (sym (no_journal s.script.threads u)) (none_on_track (thread_log_of s.log.threads u)))

  pub own_track : (u : ℕ) → IsOnTrack (thread_log_of s.log.threads u) (player_of s u).journal
  own_track u = subst (λ (j : List Event). IsOnTrack (thread_log_of s.log.threads u) j) (journal_is u) (tracks u)

  pub draws : DrawsMade (plain s).journals (plain s).draws
  draws = draws_made V (map (λ object. object.start) s.script.objects) s.script.threads s.front sound.lawful

  pub many_journals : length (plain s).journals ≡ length s.players
  many_journals = ap (λ (js : Journals). length js) sound.journals ∙ length-map s.players (λ (p : PlayerState). p.journal)

  -- there is a cell for each object
  pub many_cells : length s.cells ≡ length s.script.objects
  many_cells =
      ap (λ (h : List ℕ). length h) (sym sound.heap)
      ∙ by_front V (λ (z : PlainState). length z.heap ≡ length s.script.objects) (λ z t o m many. same_length o z.heap ∙ many) s.front (opening_state s.script) sound.lawful
      (length-map s.script.objects (λ (object : Object). object.start))

  -- no journal is as long as the stop number
  pub short : (u : ℕ) → made_by s u < 4295229440
  short u =
      let track = own_track u in
      omega (
        arith,
        length_parts (player_of s u).journal,
        track.accesses,
        ap (λ marks. length marks) track.marks,
        length-append (gapped_marks 0 (player_of s u).journal) track.rest,
        length-gapped_marks 0 (player_of s u).journal,
        few_accesses s.log.threads s.log.valid u,
        few_marks s.log.threads s.log.valid u,
      )

  module _ (t : ℕ) (within : t < length s.players) where
    pub next_is : next_of V (plain s) t ≡ next_of_player s t
    next_is = ap (λ (j : List Event). V t j) (journal_is t)

    -- one more event
    module _ (o : Operation) (wants : next_of_player s t ≡ Wants o) (enabled : IsTrue (is_enabled (plain s) o)) where
      makes : Makes V (plain s) t o
      makes = makes_from V (plain s) t o (let e = many_journals in omega arith) (next_is ∙ wants) enabled

      pub longer_front : IsFront V (opening_state s.script) (s.front ++ t ∷ [])
      longer_front = front_on V s.front (t ∷ []) (opening_state s.script) sound.lawful (makes.may, tt)

      plain_after : state_after s.script s.log.threads (s.front ++ t ∷ []) ≡ performed (plain s) t o
      plain_after = after_on V s.front (t ∷ []) (opening_state s.script) ∙ makes.stepped

      pub heap_after_it : (state_after s.script s.log.threads (s.front ++ t ∷ [])).heap ≡ heap_after o s.cells
      heap_after_it = ap (λ (x : PlainState). x.heap) plain_after ∙ ap (heap_after o) sound.heap

      pub journals_after_it : (q : PlayerState) → q.journal ≡ (player_of s t).journal ++ event_made o s.cells ∷ []
          → (state_after s.script s.log.threads (s.front ++ t ∷ [])).journals ≡ map (λ (p : PlayerState). p.journal) (set s.players t q)
      journals_after_it q is =
          ap (λ (x : PlainState). x.journals) plain_after
          ∙ (λ i. slice_set (sound.journals i) t (journal_is t i ++ event_made o (sound.heap i) ∷ []))
          ∙ ap (λ (j : List Event). slice_set (map (λ (p : PlayerState). p.journal) s.players) t j) (sym is)
          ∙ sym (journals_set s.players t q)

    -- the same players but for one
    module _ (q : PlayerState) (front : List ℕ) (cells : List ℕ) where
      abbrev next : FieldState
      next = record { script = s.script; log = s.log; front = front; players = slice_set s.players t q; cells = cells }

      pub mine : player_of next t ≡ q
      mine = get_or-set_same s.players t q unbegun within

      pub others : (u : ℕ) → u ≢ t → player_of next u ≡ player_of s u
      others u ne = get_or-set_other s.players t u q unbegun ne

      pub as_many : length next.players ≡ length s.players
      as_many = length-set s.players t q

      module _ (grows : length (player_of s t).journal ≤ length q.journal) (keeps : (player_of s t).fate ≡ Amiss → q.fate ≡ Amiss) where
        made_more : (u : ℕ) → made_by s u ≤ made_by next u
        made_more u =
            elim (cases_eq u t) [
              | inl same ↦ omega (arith, grows, ap (λ (n : ℕ). made_by s n) same, ap (λ (n : ℕ). made_by next n) same, ap (λ (p : PlayerState). length p.journal) mine)
              | inr ne ↦ omega (arith, ap (λ (p : PlayerState). length p.journal) (others u ne))
            ]

        pub some_kept : SomeAmiss s → SomeAmiss next
        some_kept some = record {
          whom = some.whom;
          within = let w = some.within in let e = as_many in omega arith;
          is_amiss =
              elim (cases_eq some.whom t) [
                | inl same ↦
                    ap (λ (n : ℕ). (player_of next n).fate) same ∙ ap (λ (p : PlayerState). p.fate) mine ∙ keeps (ap (λ (n : ℕ). (player_of s n).fate) (sym same) ∙ some.is_amiss)
                | inr ne ↦ ap (λ (p : PlayerState). p.fate) (others some.whom ne) ∙ some.is_amiss
              ];
        }

        pub looks_kept : (looks : List (ℕ × ℕ)) → All (IsSoundLook s) looks → All (IsSoundLook next) looks
        looks_kept looks sounds place none inside =
            let look = sounds place none inside in record {
              stop = λ is. some_kept (look.stop is);
              number = λ ne. let a = look.number ne in let b = made_more (get_or looks place none).0 in omega arith;
            }

        player_kept : (u : ℕ) → u ≢ t → u < length s.players → IsSoundPlayer next u (player_of next u)
        player_kept u ne inside =
            let its = sound.each u inside in
            subst (λ (p : PlayerState). IsSoundPlayer next u p) (sym (others u ne)) (record {
              owes = its.owes;
              amiss = its.amiss;
              stopped = λ whom is. some_kept (its.stopped whom is);
              looks = looks_kept (player_of s u).found its.looks;
            })

        pub keeps_sound : IsFront V (opening_state s.script) front → (state_after s.script s.log.threads front).journals ≡ map (λ (p : PlayerState). p.journal) (set s.players t q)
            → (state_after s.script s.log.threads front).heap ≡ cells → IsSoundPlayer next t q → IsSoundField next
        keeps_sound lawful journals heap its = record {
          agree = sound.agree;
          untied = sound.untied;
          as_many = as_many ∙ sound.as_many;
          lawful = lawful;
          journals = journals;
          heap = heap;
          each = λ u inside.
              elim (cases_eq u t) [
                | inl same ↦
                    let here : IsSoundPlayer next t (player_of next t) = subst (λ (p : PlayerState). IsSoundPlayer next t p) (sym mine) its in
                    subst (λ (n : ℕ). IsSoundPlayer next n (player_of next n)) (sym same) here
                | inr ne ↦ player_kept u ne (let e = as_many in omega arith)
              ];
        }
