-- The machine values of a `Handle`. Assumes `Logic`.
use Rattle.std.proofs.Common.{◌≡◌, ℕ, List, [], ◌∷◌, ◌++◌, refl, subst, lit<}
use seplogic.Ra.Ura.{Ura}
use mir.Raw.{raw as bare}
use mathlib.Core.Bool.{true, ◌&&◌}
use lib.Dec.{T}
use mir.Val.{Val, vptr, vnull, vstruct, of_list, has_ty, WT}
use base.Logic.{never_e, via, snd∗, guard_i}
use base.Fraction.{full_share}
use base.Fml.{ftrue}
use types.Logic.{Logic, sem}
use types.Kit.{Item, Goal, Seq, Step, step, given, ‵, ◌$◌, move, drop, fsplit, fjoin, fpick, fpack, feq_i, feq_l, learn, use1}
use contract.Monad.{fact_use}
use denote.RattleType.{RattleType, Valss}
use denote.Builtin.{RawPtr}
use denote.Memory.{lone}
use denote.RawPtr.{Ptr, block_ptr, null_ptr, ptr_val, lies_at, Testable}
use denote.Steps.{nothing}
use denote.Param.{layout}
use denote.Struct.Struct.{within}
use denote.Struct.Owning.{shape, to as parts_of}
use Rattle.core.proofs.alloc.Calls.{handle_tells}
use Rattle.core.proofs.cell.Inside.{Good}
use Rattle.std.specs.declared.option.Option.{Option}
use Rattle.std.specs.declared.option.Option.TheVariants.{None, Some}
use Rattle.std.specs.contracts.alloc.Global as heap
use Rattle.std.proofs.alloc.Global.TheLaws as heap_laws
use Rattle.std.proofs.GlobalToken.{dealloc_token-Testable}
use Rattle.std.specs.contracts.impls.GlobalAllocator.TheImpl.{ghosts}
use Rattle.std_alloc.specs.Box.Ownership.{box_owns}
use Rattle.std_alloc.proofs.ResultValues.{and_tt}
use Rattle.octet_c.specs.Owned.{owned}
use Rattle.octet_c.specs.Sessions.{IsHeld}
use Rattle.octet_host.proofs.lemmas.Values.{both, al}
use Rattle.octet_c.specs.contracts.handle.Handle as handle
use Rattle.octet_c.specs.contracts.held.Held as held

abbrev pub R : RattleType
R = held.the_row

abbrev pub Z : RattleType
Z = heap.the_row

abbrev pub H : RattleType
H = handle.the_row

pub empty_good : (h : Val) → Good (layout Z) h → T (has_ty (layout Z) h && true) × WT (both vnull h)
empty_good h fits = (and_tt (has_ty (layout Z) h) fits.0, (record { fits = lit< tt }, (fits.1, tt)))

module _ {M : Type 1} {𝓤 : Ura M} {𝓛 : Logic 𝓤} {K : Type 0} {Γ : List (Item 𝓤)} {G : Goal 𝓤 𝓛.H} where
  -- null and none, or a block and a box
  either : K → (a : Z.Denot) (p : Ptr) (k : Option R.Denot) → (p ≡ null_ptr → k ≡ None → Seq K 𝓛 Γ G)
      → ((b o : ℕ) (x : R.Denot) → p ≡ block_ptr b o → k ≡ Some x → IsHeld x → Testable (block_ptr b o) → Seq K 𝓛 (‵ (box_owns (ghosts.dealloc_token a) R (block_ptr b o) x) ∷ Γ) G)
      → Seq K 𝓛 (‵ (owned (ghosts.dealloc_token a) R IsHeld p k) ∷ Γ) G
  either t a null_ptr None none one = drop t $ none refl refl
  either t a null_ptr (Some x) none one = use1 𝓛 (given ⊥ (‵ ftrue)) (never_e 𝓤 _) $ learn t (λ z. absurd z)
  either t a (block_ptr b o) None none one = use1 𝓛 (given ⊥ (‵ ftrue)) (never_e 𝓤 _) $ learn t (λ z. absurd z)
  either t a (block_ptr b o) (Some x) none one =
      let p = block_ptr b o in let B = box_owns (ghosts.dealloc_token a) R p x in
      fsplit t $ move t (1 ∷ []) $ fpick t (λ good. drop t $
      use1 𝓛 (given (Testable p) (‵ B)) (fact_use 𝓤 (Testable p) (via 𝓤 _ (snd∗ 𝓤 (sem 𝓛 (lies_at R full_share p x)) (sem 𝓛 (ghosts.dealloc_token a (bare (lone R.mir)) p))) (dealloc_token-Testable 𝓛 a (bare (lone R.mir)) p)) (guard_i 𝓤 (Testable p) (sem 𝓛 B))) $
      learn t (λ e. one b o x refl refl good e))

module _ {M : Type 1} {𝓤 : Ura M} {𝓛 : Logic 𝓤} {K : Type 0} {Γ : List (Item 𝓤)} {G : Goal 𝓤 𝓛.H} where
  pub handle_out : K → (d : H.Denot) (vs : List Val)
      → ((h : Val) → d.held ≡ None → vs ≡ both vnull h ∷ [] → Good (layout Z) h → Seq K 𝓛 (‵ (Z.own_val d.alloc (h ∷ [])) ∷ Γ) G)
      → ((b o : ℕ) (x : R.Denot) (h : Val) → d.held ≡ Some x → IsHeld x → vs ≡ both (vptr b o) h ∷ [] → Good (layout Z) h → Testable (block_ptr b o)
      → Seq K 𝓛 (‵ (box_owns (ghosts.dealloc_token d.alloc) R (block_ptr b o) x) ∷ ‵ (Z.own_val d.alloc (h ∷ [])) ∷ Γ) G)
      → Seq K 𝓛 (‵ (H.own_val d vs) ∷ Γ) G
  handle_out t d vs none one =
      fsplit t $ fpick t (λ vss. fsplit t $ feq_l t (λ ev. fsplit t $ feq_l t (λ ep. fsplit t $ handle_tells (al R Z heap_laws.the_row_laws ghosts) t d.alloc vss.1.0 (λ h ea fits. move t (1 ∷ []) $ drop t $ move t (1 ∷ []) $
      let said : vs ≡ vstruct (of_list (ptr_val d.at ∷ h ∷ [])) ∷ [] =
      (subst (λ (ws : List Val). vs ≡ vstruct (of_list (ptr_val d.at ∷ (ws ++ []))) ∷ []) ea (subst (λ (ps : List Val). vs ≡ vstruct (of_list (ps ++ (vss.1.0 ++ []))) ∷ []) ep ev)) in
      either t d.alloc d.at d.held
      (λ e k. none h k (subst (λ (p : Ptr). vs ≡ vstruct (of_list (ptr_val p ∷ h ∷ [])) ∷ []) e said) fits)
      (λ b o x e k good t. one b o x h k good (subst (λ (p : Ptr). vs ≡ vstruct (of_list (ptr_val p ∷ h ∷ [])) ∷ []) e said) fits t)))))

  pub handle_in : K → (b o : ℕ) (h : Val) (a : Z.Denot) (x : R.Denot) → IsHeld x
      → Step K 𝓛 (‵ (H.own_val (record { at = block_ptr b o; alloc = a; held = Some x }) (both (vptr b o) h ∷ [])) ∷ Γ) G (‵ (box_owns (ghosts.dealloc_token a) R (block_ptr b o) x) ∷ ‵ (Z.own_val a (h ∷ [])) ∷ Γ) G
  handle_in t b o h a x good = step (λ s. let v : Val = both (vptr b o) h in
      nothing t $ fpack t (IsHeld x) (λ _. ftrue) good $ move t (1 ∷ 0 ∷ []) $ fjoin t $ nothing t $ move t (2 ∷ 0 ∷ []) $ fjoin t $ feq_i t (List Val) (vptr b o ∷ []) (vptr b o ∷ []) refl $ fjoin t $ feq_i t (List Val) (v ∷ []) (v ∷ []) refl $ fjoin t $
      fpack t (Valss (RawPtr ∷ Z ∷ [])) (within (shape handle.the_type) (parts_of handle.the_type (record { at = block_ptr b o; alloc = a; held = Some x })) (v ∷ [])) (vptr b o ∷ [], (h ∷ [], tt)) $ fjoin t $ s)

  pub empty_in : K → (h : Val) (a : Z.Denot)
      → Step K 𝓛 (‵ (H.own_val (record { at = null_ptr; alloc = a; held = None }) (both vnull h ∷ [])) ∷ Γ) G (‵ (Z.own_val a (h ∷ [])) ∷ Γ) G
  empty_in t h a = step (λ s. let v : Val = both vnull h in
      nothing t $ nothing t $ move t (2 ∷ 1 ∷ []) $ fjoin t $ feq_i t (List Val) (vnull ∷ []) (vnull ∷ []) refl $ fjoin t $ feq_i t (List Val) (v ∷ []) (v ∷ []) refl $ fjoin t $
      fpack t (Valss (RawPtr ∷ Z ∷ [])) (within (shape handle.the_type) (parts_of handle.the_type (record { at = null_ptr; alloc = a; held = None })) (v ∷ [])) (vnull ∷ [], (h ∷ [], tt)) $ fjoin t $ s)
