-- `house` hands the run to `lodge`. Assumes `Logic`.
use Rattle.std.proofs.Common.{◌≡◌, ℕ, ◌+◌, ◌^◌, ◌<◌, List, [], ◌∷◌, ◌++◌, length, refl, sym, ap, ◌∙◌, subst, Vec, add_comm, w64}
use Rattle.std.proofs.raw_atomic.Walks.{proved_at}
use Rattle.std.proofs.alloc.Calls.{Goes-blank}
use base.Logic.{id⊢, never}
use mir.Val.{Val, vptr, vint}
use prog.Wp.{WpFn}
use contract.Monad.{fact}
use contract.Running.{tables}
use types.Kit.{‵, raw, ◌⊛◌, later, prop, ◌$◌, ◌∵◌, !, qed, move, drop, use1, split, fsplit, fjoin, feq_l, flt_l, regoal, rewrite, suffices, await, done, some, given, pick, learn, at_ret}
use types.Run.{enter, returns, of_opd, bin, and_then, no_more, first, blocks, exec}
use types.ByLocal.{alloc_all, pass_all, free_all, look_at, get, sets, lands_last, env}
use denote.Builtin.{u8, usize}
use denote.Exit.{yes}
use denote.RattleType.{owns}
use denote.RawPtr.{Ptr, RawPtr, block_ptr, ptr_val, in_a_block, ◌+ₚ◌}
use denote.Signature.{plain, types_at}
use denote.Steps.{nothing, heard, only}
use denote.Triple.Call.{calls_at_last}
use denote.Triple.Entry.{alive}
use denote.Triple.Table.{framed}
use denote.Triple.Walked.{says, Stays, stay_dropped, walk_of, ends_at}
use Rattle.std_alloc.specs.declared.vec.lodged.Lodged.{Lodged}
use Rattle.std_alloc.proofs.vec.lodge.Met as callee
use Rattle.sg_frames.specs.Ownership.{run_owns}
use Rattle.sg_frames.specs.contracts.block.Run as Run
use Rattle.sg_frames.proofs.Walks.{Good, tells, none_had}
use Rattle.sg_frames.proofs.Lodging.{byte_laws, Housed, housed-laws, Lodges, at_lodge, IsLodged, lodge_goes, lodge_gives}
use Rattle.sg_frames.specs.contracts.block.house as f
use Rattle.sg_frames.proofs.block.house.Statement.{statement}
use Rattle.sg_frames.proofs.block.house.Code as code

abbrev stayed : Stays f.ended.signature.params f.ended.kept
stayed = (stay_dropped (plain (λ _. RawPtr)) yes, (stay_dropped (plain (λ _. usize)) yes, (stay_dropped (plain (λ _. usize)) yes, (stay_dropped (plain (λ _. Run.the_row)) yes, tt))))

pub house_spec : {M : Type 1} → statement M
house_spec 𝓤 𝓛 𝓜 𝓡 wired =
    let c = f.clauses 𝓛 𝓜.mem 𝓡.returns in let W = walk_of 𝓛 f.ended stayed c in let 𝓣 = tables 𝓤 𝓛.H 𝓜 𝓡 𝓡.env in
    let Callee = Lodges 𝓛 𝓜.mem 𝓡.returns in
    let word = Goes-blank 𝓛 0 (plain (λ _. usize)) yes (λ κs x f. tt) in
    proved_at 𝓛 f.ended stayed c 𝓜 𝓡 (Goes-blank 𝓛 0 (plain (λ _. RawPtr)) yes (λ κs x f. tt), (word, (word, (Goes-blank 𝓛 0 (plain (λ _. Run.the_row)) yes (λ κs x f. tt), tt))))
    f.Key.name code.function (code.unfolded 𝓤 𝓛.H 𝓜 𝓡 wired) (λ z are.
    let vss = z.0.4 in let p = z.0.3.0 in let k = z.0.3.1.0 in let n = z.0.3.1.1.0 in let r = z.0.3.1.1.1.0 in let xs = r.items in
    let Asked = (r.ptr ≡ p +ₚ k) × (length xs ≡ n) × (0 < n) × (n < 2 ^ 63) in
    qed 𝓛 ((raw (alive 𝓛 f.ended.signature z.0.0 z.0.1) ⊛ ‵ (owns (types_at f.ended.signature.params z.0.0) z.0.3 vss)) ∷ raw (fact 𝓤 Asked) ∷ []) ∵
    move ! (1 ∷ []) $ heard ! Asked (λ asked. split ! $ move ! (1 ∷ []) $
    fsplit ! $ feq_l ! (λ is₀. fsplit ! $ fsplit ! $ feq_l ! (λ is₁. flt_l ! (λ fits₁. fsplit ! $ fsplit ! $ feq_l ! (λ is₂. flt_l ! (λ fits₂. fsplit ! $ fsplit ! $ none_had ! vss.1.1.1.0 (λ is₃. move ! (1 ∷ []) $ drop ! $
    rewrite ! 0 (λ (s : Ptr). ‵ (run_owns s xs)) asked.0 refl $ in_a_block ! p (λ s. run_owns (s +ₚ k) xs) (id⊢ 𝓤 (never 𝓤)) (λ b o at.
    rewrite ! 0 (λ (m : ℕ). ‵ (run_owns (block_ptr b m) xs)) (add_comm o k) refl $
    let y = at_lodge 𝓛 𝓜.mem 𝓡.returns b (k + o) n xs in
    regoal ! (λ (us : List Val). prop (WpFn 𝓤 𝓛.H 𝓣.C 𝓣.Λ code.function (us ++ (vss.1.0 ++ (vss.1.1.0 ++ (vss.1.1.1.0 ++ [])))) (W.post z))) (is₀ ∙ ap (λ s. ptr_val s ∷ []) at) refl $
    regoal ! (λ (us : List Val). prop (WpFn 𝓤 𝓛.H 𝓣.C 𝓣.Λ code.function ((vptr b o ∷ []) ++ (us ++ (vss.1.1.0 ++ (vss.1.1.1.0 ++ [])))) (W.post z))) is₁ refl $
    regoal ! (λ (us : List Val). prop (WpFn 𝓤 𝓛.H 𝓣.C 𝓣.Λ code.function ((vptr b o ∷ []) ++ ((vint w64 k ∷ []) ++ (us ++ (vss.1.1.1.0 ++ [])))) (W.post z))) is₂ refl $
    regoal ! (λ (us : List Val). prop (WpFn 𝓤 𝓛.H 𝓣.C 𝓣.Λ code.function ((vptr b o ∷ []) ++ ((vint w64 k ∷ []) ++ ((vint w64 n ∷ []) ++ (us ++ [])))) (W.post z))) is₃ refl $
    enter ! _ _ _ _ _ $ alloc_all ! (λ l. pass_all ! refl ((tt, tt), ((tt, record { fits = fits₁ }), ((tt, record { fits = fits₂ }), ((tt, tt), tt)))) $
    first ! $ blocks ! $ sets ! (bin ! (get ! refl) (get ! refl) tt) refl (tt, tt) $
    use1 𝓛 (raw (Callee.pre y)) (lodge_goes 𝓛 𝓜.mem 𝓡.returns b (k + o) n xs asked.1 asked.2 asked.3) $
    calls_at_last ! (framed 𝓤 𝓛.H 𝓜 𝓣) Callee (callee.met 𝓤 𝓛 𝓜 𝓡 (code.calls-std_alloc::vec::lodge 𝓡.env wired) u8 byte_laws) y (and_then ! (get ! refl) (and_then ! (get ! refl) (and_then ! (get ! refl) (no_more !)))) (λ v.
    use1 𝓛 (later (some (λ (h : Vec ℕ Lodged). given (IsLodged 𝓛 𝓜.mem 𝓡.returns b (k + o) n xs h) (‵ (Housed.own_val h (v ∷ [])))))) (lodge_gives 𝓛 𝓜.mem 𝓡.returns b (k + o) n xs v) $
    await ! tt $ pick ! (λ h. learn ! (λ is. tells ! Housed housed-laws h (v ∷ []) (λ u same good.
    let fine : Good Housed v = subst (Good Housed) (sym (ap only same)) good in
    rewrite ! 0 (λ w. ‵ (Housed.own_val h (w ∷ []))) (sym (ap only same)) refl $ lands_last ! refl fine $
    exec ! 𝓣.C 𝓣.Λ (env code.Mir.locals l) code.Mir.t-2 (at_ret _ (W.post z)) $
    sets ! (of_opd ! (get ! refl)) refl fine $
    returns ! (look_at ! 0 refl) $ free_all ! refl $
    suffices ! _ (ends_at 𝓛 f.ended stayed c z v h (tt, (tt, (tt, (tt, tt)))) (tt, (tt, (tt, (tt, tt))))) $ says ! (is.0, is.1, is.3 ∙ ap (block_ptr b) (add_comm k o) ∙ sym (ap (λ s. s +ₚ k) at)) $
    nothing ! $ nothing ! $ fjoin ! $ nothing ! $ fjoin ! $ nothing ! $ fjoin ! $ nothing ! $ fjoin ! $ move ! (2 ∷ 0 ∷ 1 ∷ []) $ done !))))))))))))))
