-- `detach` takes the bytes out, and leaves the way back. Assumes `Logic`.
use Rattle.std.proofs.Common.{◌<◌, List, [], ◌∷◌, ◌++◌, refl}
use Rattle.std.proofs.raw_atomic.Walks.{proved_at}
use Rattle.std.proofs.alloc.Calls.{Goes-blank}
use base.Fml.{ftrue}
use mir.Val.{Val}
use prog.Wp.{WpFn}
use contract.Monad.{fact}
use contract.Running.{tables}
use types.Kit.{‵, raw, ◌⊛◌, prop, ◌$◌, ◌∵◌, !, qed, move, drop, use1, split, fsplit, fjoin, fpack, regoal, suffices, done}
use types.Part.{agg}
use types.Run.{enter, returns, of_opd, and_then, no_more}
use types.ByLocal.{alloc_all, pass_all, free_all, look_at, get, sets}
use denote.Exit.{yes}
use denote.Laws.{Typed}
use denote.Param.{layout}
use denote.RattleType.{owns}
use denote.Signature.{plain, types_at}
use denote.Steps.{nothing, heard}
use denote.Struct.Struct.{as_fields}
use denote.Triple.Entry.{alive}
use denote.Triple.Walked.{says, Stays, stay_dropped, walk_of, ends_at}
use Rattle.sg_frames.specs.Ownership.{run_owns}
use Rattle.sg_frames.specs.contracts.block.Run as Run
use Rattle.sg_frames.specs.contracts.block.Shell as Shell
use Rattle.sg_frames.proofs.Walks.{none, one, two, tells, none_made, two_made}
use Rattle.sg_frames.proofs.Vecs.{Bytes, bytes-laws, carve}
use Rattle.sg_frames.specs.contracts.block.detach as f
use Rattle.sg_frames.proofs.block.detach.Statement.{statement}
use Rattle.sg_frames.proofs.block.detach.Code as code

abbrev stayed : Stays f.ended.signature.params f.ended.kept
stayed = (stay_dropped (plain (λ _. Bytes)) yes, tt)

pub detach_spec : {M : Type 1} → statement M
detach_spec 𝓤 𝓛 𝓜 𝓡 wired =
    let c = f.clauses 𝓛 𝓜.mem 𝓡.returns in let W = walk_of 𝓛 f.ended stayed c in let 𝓣 = tables 𝓤 𝓛.H 𝓜 𝓡 𝓡.env in
    proved_at 𝓛 f.ended stayed c 𝓜 𝓡 (Goes-blank 𝓛 0 (plain (λ _. Bytes)) yes (λ κs x f. tt), tt)
    f.Key.name code.function (code.unfolded 𝓤 𝓛.H 𝓜 𝓡 wired) (λ z are.
    let v = z.0.3.0 in
    let e : Shell.the_row.Denot = record { ptr = v.ptr; len = v.len } in
    let r : Run.the_row.Denot = record { ptr = v.ptr; items = v.items } in
    qed 𝓛 ((raw (alive 𝓛 f.ended.signature z.0.0 z.0.1) ⊛ ‵ (owns (types_at f.ended.signature.params z.0.0) z.0.3 z.0.4)) ∷ raw (fact 𝓤 (0 < v.len)) ∷ []) ∵
    move ! (1 ∷ []) $ heard ! _ (λ some. split ! $ move ! (1 ∷ []) $
    fsplit ! $ tells ! Bytes bytes-laws v z.0.4.0 (λ u is good. move ! (1 ∷ []) $ drop ! $
    let inner = as_fields (layout Bytes ∷ []) (u ∷ []) (good, tt) in
    use1 𝓛 (‵ (run_owns v.ptr v.items) ⊛ ‵ (Shell.the_own e (one u ∷ []))) (carve 𝓛 v u some) $ split ! $
    none_made ! $ fjoin ! $ move ! (1 ∷ []) $ nothing ! $ fpack ! (Typed Shell.the_row.mir (one u ∷ [])) (λ _. ftrue) (inner, tt) $ fjoin ! $ move ! (1 ∷ 0 ∷ []) $
    two_made ! Run.the_row Shell.the_row r e none (one u) $
    regoal ! (λ (us : List Val). prop (WpFn 𝓤 𝓛.H 𝓣.C 𝓣.Λ code.function (us ++ []) (W.post z))) is refl $
    enter ! _ _ _ _ _ $ alloc_all ! (λ l. pass_all ! refl (good, tt) $
    sets ! (agg ! (no_more !)) refl (tt, tt) $
    sets ! (of_opd ! (get ! refl)) refl good $
    sets ! (agg ! (and_then ! (get ! refl) (no_more !))) refl inner $
    sets ! (agg ! (and_then ! (get ! refl) (and_then ! (get ! refl) (no_more !)))) refl (as_fields (layout Run.the_row ∷ layout Shell.the_row ∷ []) (none ∷ one u ∷ []) ((tt, tt), (inner, tt))) $
    returns ! (look_at ! 0 refl) $ free_all ! refl $
    suffices ! _ (ends_at 𝓛 f.ended stayed c z (two none (one u)) (r, e) (tt, tt) (tt, tt)) $ says ! (refl, refl, refl, refl) $
    nothing ! $ nothing ! $ fjoin ! $ move ! (2 ∷ 0 ∷ 1 ∷ []) $ done !))))
