-- `attach` hands the bytes to what waits for them. Assumes `Logic`.
use Rattle.std.proofs.Common.{◌≡◌, ℕ, List, [], ◌∷◌, ◌++◌, length, refl, sym, ◌∙◌, subst}
use Rattle.std.proofs.lemmas.List.{with_items_is}
use Rattle.std.proofs.raw_atomic.Walks.{proved_at}
use Rattle.std.proofs.alloc.Calls.{Goes-blank}
use base.Logic.{all_e, apply∗}
use base.Fml.{fsep, feq, fwand}
use mir.Val.{Val}
use prog.Wp.{WpFn}
use contract.Monad.{fact}
use contract.Running.{tables}
use types.Logic.{sem}
use types.Kit.{‵, raw, ◌⊛◌, prop, ◌$◌, ◌∵◌, !, qed, move, drop, use1, use2, split, fsplit, fjoin, fpick, feq_l, feq_i, regoal, rewrite, suffices, done}
use types.Part.{whole, sub}
use types.Run.{enter, returns, of_opd, stop, fld}
use types.ByLocal.{alloc_all, pass_all, free_all, look_at, get, get_in, sets}
use denote.Exit.{yes}
use denote.Laws.{Typed}
use denote.RattleType.{owns}
use denote.Signature.{plain, types_at}
use denote.Steps.{nothing, heard}
use denote.Triple.Entry.{alive}
use denote.Triple.Walked.{says, Stays, stay_dropped, walk_of, ends_at}
use Rattle.std.specs.Vec.{with_items}
use Rattle.sg_frames.specs.Ownership.{run_owns}
use Rattle.sg_frames.specs.contracts.block.Run as Run
use Rattle.sg_frames.specs.contracts.block.Shell as Shell
use Rattle.sg_frames.proofs.Walks.{plainly, none, none_had, one_had}
use Rattle.sg_frames.proofs.Vecs.{Bytes, bytes-laws}
use Rattle.sg_frames.specs.contracts.block.attach as f
use Rattle.sg_frames.proofs.block.attach.Statement.{statement}
use Rattle.sg_frames.proofs.block.attach.Code as code

abbrev stayed : Stays f.ended.signature.params f.ended.kept
stayed = (stay_dropped (plain (λ _. Run.the_row)) yes, (stay_dropped (plain (λ _. Shell.the_row)) yes, tt))

pub attach_spec : {M : Type 1} → statement M
attach_spec 𝓤 𝓛 𝓜 𝓡 wired =
    let c = f.clauses 𝓛 𝓜.mem 𝓡.returns in let W = walk_of 𝓛 f.ended stayed c in let 𝓣 = tables 𝓤 𝓛.H 𝓜 𝓡 𝓡.env in
    proved_at 𝓛 f.ended stayed c 𝓜 𝓡 (Goes-blank 𝓛 0 (plain (λ _. Run.the_row)) yes (λ κs x f. tt), (Goes-blank 𝓛 0 (plain (λ _. Shell.the_row)) yes (λ κs x f. tt), tt))
    f.Key.name code.function (code.unfolded 𝓤 𝓛.H 𝓜 𝓡 wired) (λ z are.
    let vss = z.0.4 in let r = z.0.3.0 in let xs = r.items in let e = z.0.3.1.0 in
    let Given = λ (ys : List ℕ). fsep (feq ℕ (length ys) e.len) (run_owns e.ptr ys) in
    qed 𝓛 ((raw (alive 𝓛 f.ended.signature z.0.0 z.0.1) ⊛ ‵ (owns (types_at f.ended.signature.params z.0.0) z.0.3 vss)) ∷ raw (fact 𝓤 ((r.ptr ≡ e.ptr) × (length xs ≡ e.len))) ∷ []) ∵
    move ! (1 ∷ []) $ heard ! _ (λ asked. split ! $ move ! (1 ∷ []) $
    fsplit ! $ fsplit ! $ none_had ! vss.0 (λ is₀. move ! (1 ∷ []) $ fsplit ! $ fsplit ! $ fpick ! (λ typed. drop ! $ fpick ! (λ v. fsplit ! $ feq_l ! (λ len.
    let Whole = λ (ys : List ℕ). (plainly (Bytes ∷ [])).own_val (with_items v.vec ys, tt) vss.1.0 in
    -- [the way back; nothing; the bytes; the tokens]
    use1 𝓛 (‵ (fwand (Given xs) (Whole xs))) (all_e 𝓤 (λ ys. sem 𝓛 (fwand (Given ys) (Whole ys))) xs) $ move ! (2 ∷ []) $
    rewrite ! 0 (λ p. ‵ (run_owns p xs)) asked.0 refl $ feq_i ! ℕ (length xs) e.len asked.1 $ fjoin ! $
    use2 𝓛 (‵ (Whole xs)) (apply∗ 𝓤 (sem 𝓛 (Given xs)) (sem 𝓛 (Whole xs))) $ one_had ! Bytes bytes-laws (with_items v.vec xs) vss.1.0 (λ u is₁ good.
    move ! (1 ∷ []) $ drop ! $
    regoal ! (λ (us : List Val). prop (WpFn 𝓤 𝓛.H 𝓣.C 𝓣.Λ code.function (us ++ (vss.1.0 ++ [])) (W.post z))) is₀ refl $
    regoal ! (λ (us : List Val). prop (WpFn 𝓤 𝓛.H 𝓣.C 𝓣.Λ code.function ((none ∷ []) ++ (us ++ [])) (W.post z))) is₁ refl $
    enter ! _ _ _ _ _ $ alloc_all ! (λ l. pass_all ! refl ((tt, tt), ((subst (Typed Shell.the_row.mir) is₁ typed).0, tt)) $
    sets ! (of_opd ! (get_in ! (fld ! refl (stop !)) (sub ! 0 refl (whole !)))) refl good $
    sets ! (of_opd ! (get ! refl)) refl good $
    returns ! (look_at ! 0 refl) $ free_all ! refl $
    suffices ! _ (ends_at 𝓛 f.ended stayed c z u (with_items v.vec xs) (tt, (tt, tt)) (tt, (tt, tt))) $ says ! (with_items_is v.vec xs (asked.1 ∙ sym len)) $
    nothing ! $ nothing ! $ fjoin ! $ nothing ! $ fjoin ! $ move ! (2 ∷ 0 ∷ 1 ∷ []) $ done !))))))))
