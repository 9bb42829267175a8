-- `write_pair` lends the frames for the call of `pair_mut`, and has them back as both slices leave them. Assumes `Logic`.
use Rattle.std.proofs.Common.{◌≡◌, ◌≢◌, ℕ, List, [], ◌∷◌, ◌++◌, length, refl, ap, ◌∙◌, w32, MutBor, All}
use Rattle.std.proofs.raw_atomic.Walks.{proved}
use base.Fraction.{full_share}
use base.Logic.{id⊢, emp}
use base.Fml.{ftrue, flft, fres}
use mir.Syntax.{named}
use mir.Val.{Val, vunit, vstruct, vcons, vnil, of_list}
use contract.Monad.{fact, fact_i}
use contract.Running.{tables}
use types.Follow.{followed₂}
use base.Stored.{coded_list}
use types.Kit.{frame, ‵, raw, ◌⊛◌, some, later, ◌$◌, ◌∵◌, !, qed, done, move, keep, drop, use0, use1, use2, use3, split, join, fsplit, fjoin, feq_i, feq_l, fpick, fpack, pick, await, rewrite, suffices}
use types.Run.{enter, of_opd, unit_lit, addr, stop, no_more, and_then, returns}
use types.ByLocal.{alloc_all, pass_all, free_all, look_at, get, through, sets, lands_as}
use types.Tokens.{lft_new, lft_end}
use denote.Array.{Array}
use denote.Builtin.{u8, u32, unit}
use denote.Exit.{yes}
use denote.Follow.{both_by}
use denote.FollowSlice.{finally-res}
use denote.Laws.{shows}
use denote.Lend.{lends_again, comes_back, LentAgain}
use denote.Memory.{mem}
use denote.Plain.{uint_Makes, uint_vals, uint_Tells}
use denote.RattleType.{RattleType, Valss, owns}
use denote.Ref.{MutRef, mut_vals, mut_Tells}
use denote.Signature.{plain, types_at}
use denote.Slice.{MutSlice, slice_val, mut_slice_vals}
use denote.Steps.{nothing, owned, heard, peeks, only}
use denote.Struct.Declared.{shape}
use denote.Struct.Struct.{within}
use denote.Struct.Tuple.{Tuple, tuple_type}
use denote.Triple.Call.{calls_at}
use denote.Triple.Clauses.{lasts}
use denote.Triple.Entry.{Vals}
use denote.Triple.Spec.{triple_of}
use denote.Triple.Table.{framed}
use denote.Triple.Walked.{Stays, walk_of, says, stay_dropped, Goes-dropped, stay_ref, Goes-ref, ends_at}
use Rattle.sg_frames.specs.declared.place.Place.TheVariants.{Page}
use Rattle.sg_frames.specs.Held.{IsHere, bytes_at}
use Rattle.sg_frames.specs.Lending.{LendsTwo, with_pair}
use Rattle.sg_frames.specs.contracts.frames.Frames.{the_row as Fr}
use Rattle.sg_frames.specs.contracts.frames.Frames.pair_mut as g₁
use Rattle.sg_frames.proofs.frames.Frames.pair_mut.Met.{met as met₁}
use Rattle.sg_tests_ops.specs.contracts.frames.write_both as g₂
use Rattle.sg_tests_ops.proofs.frames.write_both.Met.{met as met₂}
use Rattle.sg_tests_ops.specs.contracts.frames.write_pair as f
use Rattle.sg_tests_ops.proofs.frames.write_pair.Statement.{statement}
use Rattle.sg_tests_ops.proofs.frames.write_pair.Code as code

abbrev stayed : Stays f.ended.signature.params f.ended.kept
stayed = (stay_ref (0 ∷ []) tt (plain (λ _. Fr)), (stay_dropped (plain (λ _. u32)) yes, (stay_dropped (plain (λ _. u32)) yes, tt)))

pub write_pair_spec : {M : Type 1} → statement M
unfolding both_by
write_pair_spec 𝓤 𝓛 𝓜 𝓡 wired =
    let c = f.clauses 𝓛 𝓜.mem 𝓡.returns in let 𝓣 = tables 𝓤 𝓛.H 𝓜 𝓡 𝓡.env in
    let word = Goes-dropped 𝓛 1 (plain (λ _. u32)) yes (λ κs x f. refl) in
    let fr = framed 𝓤 𝓛.H 𝓜 𝓣 in
    proved 𝓛 f.ended stayed c 𝓜 𝓡 (Goes-ref 𝓛 1 0 tt (plain (λ _. Fr)), (word, (word, tt)))
    f.Key.name code.function (code.unfolded 𝓤 𝓛.H 𝓜 𝓡 wired)
    (λ κs. (mut_vals, (uint_vals w32, (uint_vals w32, tt)))) (λ κs. (mut_Tells (named 0) κs.0 Fr, (uint_Tells w32, (uint_Tells w32, tt)))) (λ κs qs bounds a _ are.
    let κ = κs.0 in let q = qs.0 in let r = a.0 in let held = r.now in let i = a.1.0 in let j = a.1.1.0 in
    let b = r.ref_ptr.0 in let o = r.ref_ptr.1 in
    let vss : Vals f.signature κs = (mut_vals r, (uint_vals w32 i, (uint_vals w32 j, tt))) in
    let y : (walk_of 𝓛 f.ended stayed c).Ghost = ((κs, qs, bounds, a, vss), tt) in
    let Ref = λ (κ' : List ℕ) (x : MutBor Fr.Denot). (MutRef (named 0) κ' Fr).own_val x (mut_vals r) in
    qed 𝓛 (((‵ (flft κ q) ⊛ ‵ ftrue) ⊛ ‵ (owns (types_at f.signature.params κs) a vss)) ∷ raw (fact 𝓤 (i ≢ j)) ∷ raw (fact 𝓤 (IsHere held (Page i))) ∷ raw (fact 𝓤 (IsHere held (Page j))) ∷ []) ∵
    move ! (1 ∷ []) $ heard ! _ (λ apart. move ! (1 ∷ []) $ heard ! _ (λ here_i. move ! (1 ∷ []) $ heard ! _ (λ here_j.
    split ! $ split ! $ move ! (2 ∷ []) $ fsplit ! $ keep ! (0 ∷ 2 ∷ []) $
    enter ! _ _ _ _ _ $ alloc_all ! (λ l. pass_all ! refl ((tt, tt), ((tt, record { fits = are.1.0.1 }), ((tt, record { fits = are.1.1.0.1 }), tt))) $
    sets ! (addr ! (through ! refl (stop !))) refl (tt, tt) $
    lft_new ! tt (λ α. move ! (1 ∷ 2 ∷ []) $
    use2 𝓛 (later (some (λ (δ : ℕ). ‵ (Ref (α ∷ []) (record r { ghost_name = δ })) ⊛ ‵ (LentAgain Fr κ (α ∷ []) q r.ghost_name b o δ held))))
    (lends_again 𝓛 Fr (named 0) κ (α ∷ []) q r.ghost_name b o (named 0) held) $ await ! tt $ pick ! (λ δ. split ! $
    -- [the loan; what the lender keeps; the token of α]
    let lent = record r { ghost_name = δ } in
    let Bytes : RattleType = MutSlice (named 0) (α ∷ []) u8 in
    let Two : RattleType = Tuple (Bytes ∷ Bytes ∷ []) in
    let G₁ = triple_of 𝓛 g₁.signature (g₁.spec 𝓛 𝓜.mem 𝓡.returns) in
    let z₁ : G₁.Ghost = (((α ∷ [], tt), (full_share, tt), tt, (lent, (i, (j, tt))), (mut_vals r, (uint_vals w32 i, (uint_vals w32 j, tt)))), tt) in
    nothing ! $ owned ! u32 _ (uint_Makes 𝓛 w32) j _ (refl, are.1.1.0.1) $ join ! $ owned ! u32 _ (uint_Makes 𝓛 w32) i _ (refl, are.1.0.1) $ join ! $ move ! (1 ∷ 0 ∷ []) $ join ! $
    nothing ! $ move ! (3 ∷ 0 ∷ []) $ join ! $ join ! $
    use0 𝓛 (raw (fact 𝓤 (IsHere held (Page j)))) (fact_i 𝓤 _ (emp 𝓤) here_j) $ use0 𝓛 (raw (fact 𝓤 (IsHere held (Page i)))) (fact_i 𝓤 _ (emp 𝓤) here_i) $ join ! $ use0 𝓛 (raw (fact 𝓤 (i ≢ j))) (fact_i 𝓤 _ (emp 𝓤) apart) $ join ! $
    move ! (1 ∷ 0 ∷ []) $ use2 𝓛 (raw (G₁.pre z₁)) (id⊢ 𝓤 _) $
    calls_at ! fr G₁ (met₁ 𝓤 𝓛 𝓜 𝓡 (code.calls-sg_frames::frames::Frames::pair_mut 𝓡.env wired)) z₁ (and_then ! (get ! refl) (and_then ! (get ! refl) (and_then ! (get ! refl) (no_more !)))) (λ v₁.
    use1 𝓛 (later (some (λ (p : MutBor (List ℕ) × MutBor (List ℕ)). ((‵ (flft (α ∷ []) full_share) ⊛ ‵ ftrue) ⊛ ‵ (Two.own_val p (v₁ ∷ []))) ⊛ some (λ (ws : Unit {0} × (Unit {0} × (Unit {0} × Unit {0}))). ‵ (lasts g₁.ended z₁.0.0 z₁.0.3 ws)
    ⊛ (‵ (LendsTwo lent i j p) ⊛ (raw (fact 𝓤 (p.0.now ≡ bytes_at held (Page i))) ⊛ raw (fact 𝓤 (p.1.now ≡ bytes_at held (Page j))))))))) (id⊢ 𝓤 _) $
    await ! tt $ pick ! (λ p. split ! $ split ! $ split ! $ move ! (3 ∷ []) $ pick ! (λ ws₁. split ! $ drop ! $ split ! $ move ! (1 ∷ []) $ drop ! $
    -- [lends; the token; nothing; the two slices; what the lender keeps]
    move ! (3 ∷ []) $ fpick ! (λ vs. fsplit ! $ feq_l ! (λ two_is. fsplit ! $ move ! (1 ∷ []) $ fsplit ! $
    peeks ! Bytes _ (shows 𝓛 Bytes) p.1 vs.1.0 (λ says_b. rewrite ! 0 (λ (us : List Val). ‵ (Bytes.own_val p.1 us)) says_b.0.0 refl $ move ! (2 ∷ []) $
    peeks ! Bytes _ (shows 𝓛 Bytes) p.0 vs.0 (λ says_a. rewrite ! 0 (λ (us : List Val). ‵ (Bytes.own_val p.0 us)) says_a.0.0 refl $
    -- [the first slice; the second; nothing; lends; the token; nothing; what the lender keeps]
    let v : Val = vstruct (vcons (slice_val p.0.ref_ptr (length p.0.now)) (vcons (slice_val p.1.ref_ptr (length p.1.now)) vnil)) in
    let v_is : v₁ ≡ v = ap only two_is ∙ λ k. vstruct (of_list (says_a.0.0 k ++ (says_b.0.0 k ++ []))) in
    move ! (1 ∷ 2 ∷ []) $ fjoin ! $ move ! (1 ∷ 0 ∷ []) $ fjoin ! $ feq_i ! (List Val) (v ∷ []) (v ∷ []) refl $ fjoin ! $
    fpack ! (Valss (Bytes ∷ Bytes ∷ [])) (within (shape (tuple_type (Bytes ∷ Bytes ∷ []))) (p.0, (p.1, tt)) (v ∷ [])) (mut_slice_vals p.0, (mut_slice_vals p.1, tt)) $
    lands_as ! v_is refl (tt, ((tt, (record { fits = says_a.0.1.0 }, tt)), ((tt, (record { fits = says_b.0.1.0 }, tt)), tt))) $
    -- [the two slices; lends; the token; nothing; what the lender keeps]
    let G₂ = triple_of 𝓛 g₂.signature (g₂.spec 𝓛 𝓜.mem 𝓡.returns) in
    let z₂ : G₂.Ghost = (((α ∷ [], tt), (full_share, tt), tt, (p, tt), (v ∷ [], tt)), tt) in
    nothing ! $ move ! (1 ∷ 0 ∷ []) $ join ! $ move ! (2 ∷ 3 ∷ 0 ∷ []) $ join ! $ join ! $ nothing ! $ move ! (1 ∷ 0 ∷ []) $ use2 𝓛 (raw (G₂.pre z₂)) (id⊢ 𝓤 _) $
    calls_at ! fr G₂ (met₂ 𝓤 𝓛 𝓜 𝓡 (code.calls-sg_tests_ops::frames::write_both 𝓡.env wired)) z₂ (and_then ! (get ! refl) (no_more !)) (λ v₂.
    use1 𝓛 (later (some (λ (u : Unit {0}). ((‵ (flft (α ∷ []) full_share) ⊛ ‵ ftrue) ⊛ ‵ (unit.own_val u (v₂ ∷ []))) ⊛ some (λ (ws : (List ℕ × (List ℕ × Unit {0})) × Unit {0}). ‵ (lasts g₂.ended z₂.0.0 z₂.0.3 ws)
    ⊛ (raw (fact 𝓤 (All (λ x. x ≡ 1) ws.0.0)) ⊛ raw (fact 𝓤 (All (λ x. x ≡ 2) ws.0.1.0))))))) (id⊢ 𝓤 _) $
    await ! tt $ pick ! (λ u. split ! $ split ! $ split ! $ lft_end ! tt $
    -- [α is over; nothing; the unit; what was left; lends; what the lender keeps]
    move ! (2 ∷ []) $ feq_l ! (λ is_unit. lands_as ! (ap only is_unit) refl (tt, tt) $
    move ! (2 ∷ []) $ pick ! (λ ws. split ! $ move ! (1 ∷ []) $ split ! $ heard ! _ (λ ones. heard ! _ (λ twos.
    let new : Fr.Denot = with_pair held i j ws.0.0 ws.0.1.0 in
    fsplit ! $ fsplit ! $ fsplit ! $ fsplit ! $ use1 𝓛 (‵ (fres p.0.ghost_name ((coded_list u8.coded).code ws.0.0))) (finally-res 𝓛 u8 p.0.ghost_name ws.0.0) $
    move ! (3 ∷ []) $ fsplit ! $ fsplit ! $ fsplit ! $ use1 𝓛 (‵ (fres p.1.ghost_name ((coded_list u8.coded).code ws.0.1.0))) (finally-res 𝓛 u8 p.1.ghost_name ws.0.1.0) $
    move ! (4 ∷ 0 ∷ []) $ join ! $ move ! (0 ∷ 9 ∷ []) $ use2 𝓛 (‵ (fres δ (Fr.coded.code new)))
    (followed₂ 𝓛 (mem Fr) (mem (Array u8 0)) (mem (Array u8 0)) (with_pair held i j) δ p.0.ghost_name p.1.ghost_name ws.0.0 ws.0.1.0) $
    move ! (7 ∷ 9 ∷ 0 ∷ []) $ use3 𝓛 (later (‵ (Ref κ (record r { now = new })) ⊛ ‵ (flft κ q))) (comes_back 𝓛 Fr (named 0) κ (α ∷ []) q r.ghost_name b o δ held new) $ await ! tt $ split ! $
    sets ! (of_opd ! (unit_lit !)) refl (tt, tt) $ returns ! (look_at ! 0 refl) $ free_all ! refl $ keep ! (0 ∷ 1 ∷ []) $
    suffices ! _ (ends_at 𝓛 f.ended stayed c y vunit tt (new, (tt, (tt, tt))) (tt, (tt, (tt, tt)))) $ says ! (ws.0.0, ws.0.1.0, refl, ones, twos) $
    nothing ! $ nothing ! $ fjoin ! $ nothing ! $ fjoin ! $ move ! (1 ∷ 0 ∷ []) $ fjoin ! $ nothing ! $ move ! (2 ∷ 0 ∷ []) $ join ! $ frame ! $ frame ! $
    feq_i ! _ (vunit ∷ []) _ refl $ done !))))))))))))))))))))
