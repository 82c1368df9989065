-- Two notes are opened, compared, and shut again.
use Rattle.std.proofs.Common.{◌≡◌, ℕ, List, [], ◌∷◌, ◌++◌, refl, sym, subst, IfSome}
use mir.Syntax.{a_type}
use mir.Val.{Val, vptr, vunit}
use mir.MapTy.{inst_fn}
use base.Logic.{SProp, ent, emp, sep, id⊢, apply∗, guard_i, all, all_e}
use base.Fml.{Lft, Share, Fml, ftrue, fsep, flft}
use prog.Wp.{WpFn}
use types.Logic.{sem}
use types.Kit.{‵, raw, ◌⊛◌, given, later, ◌$◌, ◌∵◌, !, qed, by, move, keep, split, join, fsplit, fsplit3, fjoin, learn, suffices, use0, use1, use2, await, feq_i}
use types.Run.{of_opd, returns, enter, unit_lit}
use types.ByLocal.{alloc_all, pass_all, free_all, look_at, sets}
use contract.Monad.{fact, fact_i, fact_use}
use contract.Running.{tables}
use denote.RattleType.{RattleType, owns}
use denote.Signature.{types_at, plain}
use denote.Steps.{nothing}
use denote.Param.{param, layouts}
use denote.Triple.Walked.{Stays, walk_of, stay_ref, Goes-ref}
use Rattle.once_cell.specs.Once.{Agrees, noted}
use Rattle.std.proofs.raw_atomic.Walks.{proved_at, leaves}
use Rattle.once_cell.proofs.Notes as notes
use Rattle.once_cell.proofs.Notes.{Note}
use Rattle.octet_host.proofs.Noting.{agree_if_same}
use Rattle.octet_host.specs.contracts.sealing.agree.{ended, clauses}
use Rattle.octet_host.specs.contracts.sealing.agree.Key.{name as #self}
use Rattle.octet_host.proofs.sealing.agree.Statement.{statement}
use Rattle.octet_host.proofs.sealing.agree.Code as code

pub agree_spec : {M : Type 1} → statement M
agree_spec 𝓤 𝓛 𝓜 𝓡 wired T L =
    let H = 𝓛.H in let 𝓣 = tables 𝓤 H 𝓜 𝓡 𝓡.env in let R : RattleType = param 0 T in let En = ended T in let c = clauses T 𝓛 𝓜.mem 𝓡.returns in
    let inst = layouts (a_type ∷ []) (T, tt) in let fn = inst_fn inst code.function in
    let hs : Stays En.signature.params En.kept = (stay_ref (0 ∷ []) tt (plain (λ _. Note 𝓛 R)), (stay_ref (1 ∷ []) tt (plain (λ _. Note 𝓛 R)), tt)) in
    proved_at 𝓛 En hs c 𝓜 𝓡 (Goes-ref 𝓛 3 0 tt (plain (λ _. Note 𝓛 R)), (Goes-ref 𝓛 3 1 tt (plain (λ _. Note 𝓛 R)), tt)) (#self inst) fn (code.unfolded 𝓤 H 𝓜 𝓡 wired (T, tt)) (λ z are.
    let κs = z.0.0 in let qs = z.0.1 in let Post : Val → SProp 𝓤 = (walk_of 𝓛 En hs c).post z in let Run : List Val → SProp 𝓤 = λ ws. WpFn 𝓤 H 𝓣.C 𝓣.Λ fn ws Post in
    let κ₀ : Lft = κs.0 in let q₀ : Share = qs.0 in let m = z.0.3.0 in let b₀ : ℕ = m.ref_ptr.0 in let o₀ : ℕ = m.ref_ptr.1 in let ν₀ : ℕ = m.ghost_name in let n = m.now in
    let κ₁ : Lft = κs.1.0 in let q₁ : Share = qs.1.0 in let w = z.0.3.1.0 in let b₁ : ℕ = w.ref_ptr.0 in let o₁ : ℕ = w.ref_ptr.1 in let ν₁ : ℕ = w.ghost_name in let x = w.now in
    let N : Fml = noted R n.cell n.known in let X : Fml = noted R x.cell x.known in
    let Shuts₀ = notes.Shuts 𝓛 R κ₀ q₀ b₀ o₀ ν₀ in let Shuts₁ = notes.Shuts 𝓛 R κ₁ q₁ b₁ o₁ ν₁ in
    let So : Type 0 = x.cell ≡ n.cell → IfSome x.known (Agrees n.known) in let Told : Type 0 = (n ≡ n) × So in
    let Vs : List Val = vptr b₀ o₀ ∷ vptr b₁ o₁ ∷ [] in
    qed 𝓛 (((‵ (flft κ₀ q₀) ⊛ ‵ (fsep (flft κ₁ q₁) (fsep (flft κs.1.1.0 qs.1.1.0) ftrue))) ⊛ ‵ (owns (types_at En.signature.params κs) z.0.3 z.0.4)) ∷ raw ((c κs z.0.3).requires z.1) ∷ []) ∵
    split ! $ split ! $ move ! (2 ∷ []) $ fsplit3 ! $ fsplit ! $ move ! (2 ∷ []) $ fsplit ! $ keep ! (3 ∷ 5 ∷ 1 ∷ 6 ∷ []) $
    suffices ! (Run Vs) (subst (λ (us : List Val). ent 𝓤 (Run Vs) (Run us)) (sym (λ i. are.0.0 i ++ (are.1.0.0 i ++ []))) (id⊢ 𝓤 (Run Vs))) $
    enter ! 𝓣.C 𝓣.Λ fn Vs Post $ alloc_all ! (λ l. pass_all ! refl ((tt, tt), ((tt, tt), tt)) $
    use2 𝓛 (later (‵ N ⊛ raw (all 𝓤 Shuts₀))) (notes.note_opens 𝓛 R κ₀ q₀ b₀ o₀ ν₀ n) $ await ! tt $ split ! $
    move ! (3 ∷ []) $ fsplit ! $ move ! (4 ∷ 0 ∷ []) $
    use2 𝓛 (later (‵ X ⊛ raw (all 𝓤 Shuts₁))) (notes.note_opens 𝓛 R κ₁ q₁ b₁ o₁ ν₁ x) $ await ! tt $ split ! $ move ! (3 ∷ 0 ∷ []) $
    use2 𝓛 (given So (‵ N ⊛ ‵ X)) (fact_use 𝓤 So (agree_if_same 𝓛 R n.cell x.cell n.known x.known) (λ so. guard_i 𝓤 So (sep 𝓤 (sem 𝓛 N) (sem 𝓛 X)) so)) $ learn ! (λ so. split ! $
    move ! (4 ∷ []) $ use1 𝓛 (raw (Shuts₀ n)) (all_e 𝓤 Shuts₀ n) $ move ! (1 ∷ 0 ∷ []) $ use2 𝓛 (later (‵ (notes.lent 𝓛 R κ₀ q₀ b₀ o₀ ν₀ n) ⊛ ‵ (flft κ₀ q₀))) (apply∗ 𝓤 (sem 𝓛 N) _) $ await ! tt $ split ! $
    move ! (3 ∷ []) $ use1 𝓛 (raw (Shuts₁ x)) (all_e 𝓤 Shuts₁ x) $ move ! (3 ∷ 0 ∷ []) $ use2 𝓛 (later (‵ (notes.lent 𝓛 R κ₁ q₁ b₁ o₁ ν₁ x) ⊛ ‵ (flft κ₁ q₁))) (apply∗ 𝓤 (sem 𝓛 X) _) $ await ! tt $ split ! $
    feq_i ! (List Val) z.0.4.1.0 (vptr b₁ o₁ ∷ []) are.1.0.0 $ fjoin ! $ nothing ! $ move ! (1 ∷ 0 ∷ []) $ fjoin ! $
    move ! (2 ∷ []) $ feq_i ! (List Val) z.0.4.0 (vptr b₀ o₀ ∷ []) are.0.0 $ fjoin ! $ fjoin ! $
    move ! (1 ∷ 3 ∷ []) $ fjoin ! $ move ! (2 ∷ 0 ∷ []) $ join ! $
    sets ! (of_opd ! (unit_lit !)) refl (tt, tt) $ feq_i ! (List Val) (vunit ∷ []) (vunit ∷ []) refl $ use0 𝓛 (raw (fact 𝓤 Told)) (fact_i 𝓤 Told (emp 𝓤) (refl, so)) $
    returns ! (look_at ! 0 refl) $ free_all ! refl $ keep ! (2 ∷ 3 ∷ 1 ∷ 0 ∷ []) $ by ! (leaves 𝓛 En hs c z vunit tt (n, (x, tt)) (tt, (tt, tt))))))
