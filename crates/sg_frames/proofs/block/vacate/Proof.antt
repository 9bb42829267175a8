-- `vacate` takes the run from `dislodge`. Assumes `Logic`.
use Rattle.std.proofs.Common.{◌≡◌, ◌^◌, ◌<◌, List, [], ◌∷◌, ◌++◌, refl, w64}
use Rattle.std.proofs.raw_atomic.Walks.{proved_at}
use Rattle.std.proofs.alloc.Calls.{Goes-blank}
use mir.Val.{Val, vint}
use prog.Wp.{WpFn}
use contract.Monad.{fact}
use contract.Running.{tables}
use types.Kit.{‵, raw, ◌⊛◌, later, prop, ◌$◌, ◌∵◌, !, qed, move, drop, use1, split, fsplit, fjoin, regoal, suffices, await, done, given, learn}
use types.Part.{agg}
use types.Run.{enter, returns, of_opd, and_then, no_more}
use types.ByLocal.{alloc_all, pass_all, free_all, look_at, get, sets, lands_as}
use denote.Builtin.{u8}
use denote.Exit.{yes}
use denote.RattleType.{owns}
use denote.Signature.{plain, types_at}
use denote.Steps.{nothing, heard}
use denote.Triple.Call.{calls_at}
use denote.Triple.Entry.{alive}
use denote.Triple.Table.{framed}
use denote.Triple.Walked.{says, Stays, stay_dropped, walk_of, ends_at}
use Rattle.std_alloc.proofs.vec.lodged.Vec+T+Lodged.dislodge.Met as callee
use Rattle.sg_frames.specs.Ownership.{run_owns}
use Rattle.sg_frames.specs.contracts.block.Run as Run
use Rattle.sg_frames.proofs.Walks.{none, tells, none_made}
use Rattle.sg_frames.proofs.Lodging.{byte_laws, Housed, housed-laws, Dislodges, at_dislodge, dislodge_goes, dislodge_gives}
use Rattle.sg_frames.specs.contracts.block.vacate as f
use Rattle.sg_frames.proofs.block.vacate.Statement.{statement}
use Rattle.sg_frames.proofs.block.vacate.Code as code

abbrev stayed : Stays f.ended.signature.params f.ended.kept
stayed = (stay_dropped (plain (λ _. Housed)) yes, tt)

pub vacate_spec : {M : Type 1} → statement M
vacate_spec 𝓤 𝓛 𝓜 𝓡 wired =
    let c = f.clauses 𝓛 𝓜.mem 𝓡.returns in let W = walk_of 𝓛 f.ended stayed c in let 𝓣 = tables 𝓤 𝓛.H 𝓜 𝓡 𝓡.env in
    let Callee = Dislodges 𝓛 𝓜.mem 𝓡.returns in
    proved_at 𝓛 f.ended stayed c 𝓜 𝓡 (Goes-blank 𝓛 0 (plain (λ _. Housed)) yes (λ κs x f. tt), tt)
    f.Key.name code.function (code.unfolded 𝓤 𝓛.H 𝓜 𝓡 wired) (λ z are.
    let v = z.0.3.0 in
    let r : Run.the_row.Denot = record { ptr = v.ptr; items = v.items } in
    qed 𝓛 ((raw (alive 𝓛 f.ended.signature z.0.0 z.0.1) ⊛ ‵ (owns (types_at f.ended.signature.params z.0.0) z.0.3 z.0.4)) ∷ raw (fact 𝓤 (0 < v.len)) ∷ []) ∵
    move ! (1 ∷ []) $ heard ! _ (λ some. split ! $ move ! (1 ∷ []) $
    fsplit ! $ tells ! Housed housed-laws v z.0.4.0 (λ u is good. move ! (1 ∷ []) $ drop ! $
    let y = at_dislodge 𝓛 𝓜.mem 𝓡.returns v u in
    regoal ! (λ (us : List Val). prop (WpFn 𝓤 𝓛.H 𝓣.C 𝓣.Λ code.function (us ++ []) (W.post z))) is refl $
    enter ! _ _ _ _ _ $ alloc_all ! (λ l. pass_all ! refl (good, tt) $
    sets ! (of_opd ! (get ! refl)) refl good $ use1 𝓛 (raw (Callee.pre y)) (dislodge_goes 𝓛 𝓜.mem 𝓡.returns v u) $
    calls_at ! (framed 𝓤 𝓛.H 𝓜 𝓣) Callee (callee.met 𝓤 𝓛 𝓜 𝓡 (code.calls-std_alloc::vec::lodged::Vec+T+Lodged::dislodge 𝓡.env wired) u8 byte_laws) y (and_then ! (get ! refl) (no_more !)) (λ w.
    use1 𝓛 (later (given ((w ≡ vint w64 v.len) × (v.len < 2 ^ 64)) (‵ (run_owns v.ptr v.items)))) (dislodge_gives 𝓛 𝓜.mem 𝓡.returns v u some w) $ await ! tt $ learn ! (λ got.
    lands_as ! got.0 refl (tt, record { fits = got.1 }) $
    sets ! (agg ! (no_more !)) refl (tt, tt) $
    none_made ! $ fjoin ! $
    returns ! (look_at ! 0 refl) $ free_all ! refl $
    suffices ! _ (ends_at 𝓛 f.ended stayed c z none r (tt, tt) (tt, tt)) $ says ! (refl, refl) $
    nothing ! $ nothing ! $ fjoin ! $ move ! (2 ∷ 0 ∷ 1 ∷ []) $ done !))))))
