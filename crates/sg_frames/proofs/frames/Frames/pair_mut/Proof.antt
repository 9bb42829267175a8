-- `pair_mut` lends the slots, two of them, and the bytes of each: what is lent last is followed by the frames. Assumes `Logic`.
use Rattle.std.proofs.Common.{◌≡◌, ◌≢◌, ◌<◌, ℕ, List, [], ◌∷◌, ◌++◌, length, get_or, refl, ap, ◌∙◌, w32, MutBor}
use Rattle.std.proofs.raw_atomic.Walks.{proved, leaves}
use base.Logic.{id⊢, emp}
use base.Fml.{Fml, ftrue, flft}
use mir.Syntax.{named}
use mir.Val.{Val, vptr, vstruct, vcons, vnil, of_list}
use contract.Monad.{fact, fact_i}
use contract.Running.{tables}
use types.Kit.{‵, raw, ◌⊛◌, some, later, ◌$◌, ◌∵◌, !, qed, move, keep, drop, use0, use1, use2, split, join, fsplit, fjoin, feq_i, feq_l, fpick, fpack, pick, await, rewrite, group, by}
use types.Part.{whole, sub, agg}
use types.Run.{enter, of_opd, addr, stop, fld, no_more, and_then, returns}
use types.ByLocal.{alloc_all, pass_all, free_all, look_at, get, get_in, through, sets, lands_as}
use denote.Array.{Array}
use denote.Builtin.{u8, u32, RefMutOf}
use denote.Exit.{yes, no}
use denote.Follow.{follows_both}
use denote.Laws.{shows}
use denote.Plain.{uint_Makes, uint_vals, uint_Tells}
use denote.RattleType.{RattleType, Valss, owns}
use denote.Ref.{MutRef, mut_vals, mut_Tells}
use denote.Signature.{plain, types_at}
use denote.Slice.{MutSlice, slice_val, mut_slice_vals}
use denote.Steps.{nothing, owned, heard, peeks, only}
use denote.Struct.Declared.{shape}
use denote.Struct.Struct.{within}
use denote.Struct.Tuple.{Tuple, tuple_type}
use denote.Triple.Call.{calls_at}
use denote.Triple.Clauses.{lasts}
use denote.Triple.Entry.{Vals}
use denote.Triple.Spec.{triple_of}
use denote.Triple.Table.{framed}
use denote.Triple.Walked.{Stays, walk_of, stay_dropped, Goes-dropped, Goes-spent_ref}
use Rattle.sg_frames.specs.declared.place.Place.TheVariants.{Page}
use Rattle.sg_frames.specs.Held.{IsHere, bytes_at}
use Rattle.sg_frames.specs.Pieces.{Piece, no_piece}
use Rattle.sg_frames.specs.Slots.{LendsSlot, with_new, with_two}
use Rattle.sg_frames.specs.Tables.{ShowsSlots, with_slots}
use Rattle.sg_frames.specs.Lending.{LendsPages, pages_of, with_pages}
use Rattle.std.specs.Borrow.{LendsBoth}
use Rattle.sg_frames.proofs.Pairs.{below_shown, bytes_shown, written_pair}
use Rattle.sg_frames.proofs.Through.{both_through}
use Rattle.sg_frames.specs.contracts.slot.Slot.{the_row as Sr}
use Rattle.sg_frames.specs.contracts.frames.Frames.{the_row as Fr}
use Rattle.sg_frames.specs.contracts.frames.Frames.page_slots as g₁
use Rattle.sg_frames.proofs.frames.Frames.page_slots.Met.{met as met₁}
use Rattle.sg_frames.specs.contracts.slot.Slot.two as g₂
use Rattle.sg_frames.proofs.slot.Slot.two.Met.{met as met₂}
use Rattle.sg_frames.specs.contracts.slot.Slot.bytes_mut as g₃
use Rattle.sg_frames.proofs.slot.Slot.bytes_mut.Met.{met as met₃}
use Rattle.sg_frames.specs.contracts.frames.Frames.pair_mut as f
use Rattle.sg_frames.proofs.frames.Frames.pair_mut.Statement.{statement}
use Rattle.sg_frames.proofs.frames.Frames.pair_mut.Code as code

abbrev stayed : Stays f.ended.signature.params f.ended.kept
stayed = (stay_dropped (RefMutOf (0 ∷ []) tt (plain (λ _. Fr)) (λ _. tt)) no, (stay_dropped (plain (λ _. u32)) yes, (stay_dropped (plain (λ _. u32)) yes, tt)))

pub pair_mut_spec : {M : Type 1} → statement M
pair_mut_spec 𝓤 𝓛 𝓜 𝓡 wired =
    let c = f.clauses 𝓛 𝓜.mem 𝓡.returns in let 𝓣 = tables 𝓤 𝓛.H 𝓜 𝓡 𝓡.env in
    let word = Goes-dropped 𝓛 1 (plain (λ _. u32)) yes (λ κs x f. refl) in
    let fr = framed 𝓤 𝓛.H 𝓜 𝓣 in
    proved 𝓛 f.ended stayed c 𝓜 𝓡 (Goes-spent_ref 𝓛 1 (0 ∷ []) tt (plain (λ _. Fr)), (word, (word, tt)))
    f.Key.name code.function (code.unfolded 𝓤 𝓛.H 𝓜 𝓡 wired)
    (λ κs. (mut_vals, (uint_vals w32, (uint_vals w32, tt)))) (λ κs. (mut_Tells (named 0) κs.0 Fr, (uint_Tells w32, (uint_Tells w32, tt)))) (λ κs qs bounds a _ are.
    let κ = κs.0 in let q = qs.0 in let r = a.0 in let held = r.now in let i = a.1.0 in let j = a.1.1.0 in
    let vss : Vals f.signature κs = (mut_vals r, (uint_vals w32 i, (uint_vals w32 j, tt))) in
    let y : (walk_of 𝓛 f.ended stayed c).Ghost = ((κs, qs, bounds, a, vss), tt) in
    let Slots : RattleType = MutSlice (named 0) κ Sr in let One : RattleType = MutRef (named 0) κ Sr in let Bytes : RattleType = MutSlice (named 0) κ u8 in
    qed 𝓛 (((‵ (flft κ q) ⊛ ‵ ftrue) ⊛ ‵ (owns (types_at f.signature.params κs) a vss)) ∷ raw (fact 𝓤 (i ≢ j)) ∷ raw (fact 𝓤 (IsHere held (Page i))) ∷ raw (fact 𝓤 (IsHere held (Page j))) ∷ []) ∵
    move ! (1 ∷ []) $ heard ! _ (λ apart. move ! (1 ∷ []) $ heard ! _ (λ here_i. move ! (1 ∷ []) $ heard ! _ (λ here_j.
    split ! $ split ! $ move ! (2 ∷ []) $ fsplit ! $ keep ! (0 ∷ 2 ∷ []) $
    enter ! _ _ _ _ _ $ alloc_all ! (λ l. pass_all ! refl ((tt, tt), ((tt, record { fits = are.1.0.1 }), ((tt, record { fits = are.1.1.0.1 }), tt))) $
    -- [the frames; the token]
    sets ! (addr ! (through ! refl (stop !))) refl (tt, tt) $
    let G₁ = triple_of 𝓛 g₁.signature (g₁.spec 𝓛 𝓜.mem 𝓡.returns) in
    let z₁ : G₁.Ghost = ((κs, qs, tt, (r, tt), (mut_vals r, tt)), tt) in
    nothing ! $ move ! (1 ∷ 0 ∷ []) $ join ! $ nothing ! $ move ! (2 ∷ 0 ∷ []) $ join ! $ join ! $ nothing ! $ move ! (1 ∷ 0 ∷ []) $ use2 𝓛 (raw (G₁.pre z₁)) (id⊢ 𝓤 _) $
    calls_at ! fr G₁ (met₁ 𝓤 𝓛 𝓜 𝓡 (code.calls-sg_frames::frames::Frames::page_slots 𝓡.env wired)) z₁ (and_then ! (get ! refl) (no_more !)) (λ v₁.
    use1 𝓛 (later (some (λ (s : MutBor (List Piece)). ((‵ (flft κ q) ⊛ ‵ ftrue) ⊛ ‵ (Slots.own_val s (v₁ ∷ []))) ⊛ some (λ (ws : Unit {0} × Unit {0}). ‵ (lasts g₁.ended κs z₁.0.3 ws) ⊛ (‵ (LendsPages r s) ⊛ raw (fact 𝓤 (ShowsSlots (pages_of held) s.now))))))) (id⊢ 𝓤 _) $
    await ! tt $ pick ! (λ s. split ! $ split ! $ split ! $ move ! (3 ∷ []) $ pick ! (λ ws. split ! $ drop ! $ split ! $ move ! (1 ∷ []) $ heard ! _ (λ shown.
    -- [lends₁; the token; nothing; the slots]
    move ! (3 ∷ []) $ peeks ! Slots _ (shows 𝓛 Slots) s (v₁ ∷ []) (λ says₁. rewrite ! 0 (λ (vs : List Val). ‵ (Slots.own_val s vs)) says₁.0.0 refl $
    lands_as ! (ap only says₁.0.0) refl (tt, (tt, (record { fits = says₁.0.1.0 }, tt))) $
    -- [the slots; lends₁; the token; nothing]
    let G₂ = triple_of 𝓛 g₂.signature (g₂.spec 𝓛 𝓜.mem 𝓡.returns) in
    let z₂ : G₂.Ghost = ((κs, qs, tt, (s, (i, (j, tt))), (mut_slice_vals s, (uint_vals w32 i, (uint_vals w32 j, tt)))), tt) in
    let below_i : i < length s.now = below_shown held s.now shown i here_i in
    let below_j : j < length s.now = below_shown held s.now shown j here_j in
    nothing ! $ owned ! u32 _ (uint_Makes 𝓛 w32) j _ (refl, are.1.1.0.1) $ join ! $ owned ! u32 _ (uint_Makes 𝓛 w32) i _ (refl, are.1.0.1) $ join ! $ move ! (1 ∷ 0 ∷ []) $ join ! $
    move ! (2 ∷ 3 ∷ 0 ∷ []) $ join ! $ join ! $
    use0 𝓛 (raw (fact 𝓤 (j < length s.now))) (fact_i 𝓤 _ (emp 𝓤) below_j) $ use0 𝓛 (raw (fact 𝓤 (i < length s.now))) (fact_i 𝓤 _ (emp 𝓤) below_i) $ join ! $ use0 𝓛 (raw (fact 𝓤 (i ≢ j))) (fact_i 𝓤 _ (emp 𝓤) apart) $ join ! $
    move ! (1 ∷ 0 ∷ []) $ use2 𝓛 (raw (G₂.pre z₂)) (id⊢ 𝓤 _) $
    calls_at ! fr G₂ (met₂ 𝓤 𝓛 𝓜 𝓡 (code.calls-sg_frames::slot::Slot::two 𝓡.env wired)) z₂ (and_then ! (get ! refl) (and_then ! (get ! refl) (and_then ! (get ! refl) (no_more !)))) (λ v₂.
    use1 𝓛 (later (some (λ (p : MutBor Piece × MutBor Piece). ((‵ (flft κ q) ⊛ ‵ ftrue) ⊛ ‵ ((Tuple (One ∷ One ∷ [])).own_val p (v₂ ∷ []))) ⊛ some (λ (ws : Unit {0} × (Unit {0} × (Unit {0} × Unit {0}))). ‵ (lasts g₂.ended κs z₂.0.3 ws)
    ⊛ (‵ (LendsBoth (Array Sr 0) Sr Sr s p (with_two s.now i j)) ⊛ (raw (fact 𝓤 (p.0.now ≡ get_or s.now i no_piece)) ⊛ raw (fact 𝓤 (p.1.now ≡ get_or s.now j no_piece)))))))) (id⊢ 𝓤 _) $
    await ! tt $ pick ! (λ p. split ! $ split ! $ split ! $ move ! (3 ∷ []) $ pick ! (λ ws₂. split ! $ drop ! $ split ! $ move ! (1 ∷ []) $ split ! $ heard ! _ (λ first_is. heard ! _ (λ second_is.
    -- [lends₂; the token; nothing; the two slots; lends₁]
    move ! (3 ∷ []) $ fpick ! (λ vs₂. fsplit ! $ feq_l ! (λ pair_is. fsplit ! $ move ! (1 ∷ []) $ fsplit ! $ move ! (1 ∷ []) $ drop ! $
    peeks ! One _ (shows 𝓛 One) p.1 vs₂.1.0 (λ says_b. rewrite ! 0 (λ (vs : List Val). ‵ (One.own_val p.1 vs)) says_b.0 refl $ move ! (1 ∷ []) $
    peeks ! One _ (shows 𝓛 One) p.0 vs₂.0 (λ says_a. rewrite ! 0 (λ (vs : List Val). ‵ (One.own_val p.0 vs)) says_a.0 refl $
    -- [the first slot; the second slot; lends₂; the token; nothing; lends₁]
    let two_is : v₂ ≡ vstruct (vcons (vptr p.0.ref_ptr.0 p.0.ref_ptr.1) (vcons (vptr p.1.ref_ptr.0 p.1.ref_ptr.1) vnil)) = ap only pair_is ∙ λ k. vstruct (of_list (says_a.0 k ++ (says_b.0 k ++ []))) in
    lands_as ! two_is refl (tt, (tt, (tt, tt))) $
    sets ! (of_opd ! (get_in ! (fld ! refl (stop !)) (sub ! 0 refl (whole !)))) refl (tt, tt) $
    sets ! (of_opd ! (get_in ! (fld ! refl (stop !)) (sub ! 1 refl (whole !)))) refl (tt, tt) $
    sets ! (addr ! (through ! refl (stop !))) refl (tt, tt) $
    let G₃ = triple_of 𝓛 g₃.signature (g₃.spec 𝓛 𝓜.mem 𝓡.returns) in
    let z₃ : G₃.Ghost = ((κs, qs, tt, (p.0, tt), (mut_vals p.0, tt)), tt) in
    nothing ! $ move ! (1 ∷ 0 ∷ []) $ join ! $ move ! (3 ∷ 4 ∷ 0 ∷ []) $ join ! $ join ! $ nothing ! $ move ! (1 ∷ 0 ∷ []) $ use2 𝓛 (raw (G₃.pre z₃)) (id⊢ 𝓤 _) $
    calls_at ! fr G₃ (met₃ 𝓤 𝓛 𝓜 𝓡 (code.calls-sg_frames::slot::Slot::bytes_mut 𝓡.env wired)) z₃ (and_then ! (get ! refl) (no_more !)) (λ v₃.
    use1 𝓛 (later (some (λ (x : MutBor (List ℕ)). ((‵ (flft κ q) ⊛ ‵ ftrue) ⊛ ‵ (Bytes.own_val x (v₃ ∷ []))) ⊛ some (λ (ws : Unit {0} × Unit {0}). ‵ (lasts g₃.ended κs z₃.0.3 ws) ⊛ (‵ (LendsSlot p.0 x) ⊛ raw (fact 𝓤 (x.now ≡ p.0.now.bytes))))))) (id⊢ 𝓤 _) $
    await ! tt $ pick ! (λ x. split ! $ split ! $ split ! $ move ! (3 ∷ []) $ pick ! (λ ws₃. split ! $ drop ! $ split ! $ move ! (1 ∷ []) $ heard ! _ (λ x_is.
    move ! (3 ∷ []) $ peeks ! Bytes _ (shows 𝓛 Bytes) x (v₃ ∷ []) (λ says₃. rewrite ! 0 (λ (vs : List Val). ‵ (Bytes.own_val x vs)) says₃.0.0 refl $
    lands_as ! (ap only says₃.0.0) refl (tt, (tt, (record { fits = says₃.0.1.0 }, tt))) $
    -- [the first bytes; lends₃; the token; nothing; the second slot; lends₂; lends₁]
    sets ! (addr ! (through ! refl (stop !))) refl (tt, tt) $
    let z₄ : G₃.Ghost = ((κs, qs, tt, (p.1, tt), (mut_vals p.1, tt)), tt) in
    nothing ! $ move ! (5 ∷ 0 ∷ []) $ join ! $ move ! (3 ∷ 4 ∷ 0 ∷ []) $ join ! $ join ! $ nothing ! $ move ! (1 ∷ 0 ∷ []) $ use2 𝓛 (raw (G₃.pre z₄)) (id⊢ 𝓤 _) $
    calls_at ! fr G₃ (met₃ 𝓤 𝓛 𝓜 𝓡 (code.calls-sg_frames::slot::Slot::bytes_mut 𝓡.env wired)) z₄ (and_then ! (get ! refl) (no_more !)) (λ v₄.
    use1 𝓛 (later (some (λ (w : MutBor (List ℕ)). ((‵ (flft κ q) ⊛ ‵ ftrue) ⊛ ‵ (Bytes.own_val w (v₄ ∷ []))) ⊛ some (λ (ws : Unit {0} × Unit {0}). ‵ (lasts g₃.ended κs z₄.0.3 ws) ⊛ (‵ (LendsSlot p.1 w) ⊛ raw (fact 𝓤 (w.now ≡ p.1.now.bytes))))))) (id⊢ 𝓤 _) $
    await ! tt $ pick ! (λ w. split ! $ split ! $ split ! $ move ! (3 ∷ []) $ pick ! (λ ws₄. split ! $ drop ! $ split ! $ move ! (1 ∷ []) $ heard ! _ (λ w_is.
    move ! (3 ∷ []) $ peeks ! Bytes _ (shows 𝓛 Bytes) w (v₄ ∷ []) (λ says₄. rewrite ! 0 (λ (vs : List Val). ‵ (Bytes.own_val w vs)) says₄.0.0 refl $
    lands_as ! (ap only says₄.0.0) refl (tt, (tt, (record { fits = says₄.0.1.0 }, tt))) $
    -- [the second bytes; lends₄; the token; nothing; the first bytes; lends₃; lends₂; lends₁]
    sets ! (agg ! (and_then ! (get ! refl) (and_then ! (get ! refl) (no_more !)))) refl (tt, ((tt, (record { fits = says₃.0.1.0 }, tt)), ((tt, (record { fits = says₄.0.1.0 }, tt)), tt))) $
    let v : Val = vstruct (vcons (slice_val x.ref_ptr (length x.now)) (vcons (slice_val w.ref_ptr (length w.now)) vnil)) in
    nothing ! $ move ! (1 ∷ 0 ∷ []) $ fjoin ! $ move ! (4 ∷ 0 ∷ []) $ fjoin ! $ feq_i ! (List Val) (v ∷ []) (v ∷ []) refl $ fjoin ! $
    fpack ! (Valss (Bytes ∷ Bytes ∷ [])) (within (shape (tuple_type (Bytes ∷ Bytes ∷ []))) (x, (w, tt)) (v ∷ [])) (mut_slice_vals x, (mut_slice_vals w, tt)) $
    -- [the two slices; lends₄; the token; nothing; lends₃; lends₂; lends₁]
    returns ! (look_at ! 0 refl) $ free_all ! refl $
    let Pages : List Piece → Fr.Denot = λ now. with_pages held (with_slots (pages_of held) now) in
    let Both : (List ℕ → List ℕ → Fr.Denot) → Fml = follows_both Fr (Array u8 0) (Array u8 0) r.ghost_name x.ghost_name w.ghost_name in
    move ! (6 ∷ 5 ∷ 4 ∷ 1 ∷ []) $ group ! 4 $
    use1 𝓛 (‵ (Both (λ x' w'. Pages (with_two s.now i j (with_new p.0.now x') (with_new p.1.now w')))))
    (both_through 𝓛 Fr (Array Sr 0) Sr Sr (Array u8 0) (Array u8 0) Pages (with_two s.now i j) (with_new p.0.now) (with_new p.1.now) r.ghost_name s.ghost_name p.0.ghost_name p.1.ghost_name x.ghost_name w.ghost_name) $
    rewrite ! 0 (λ (F : List ℕ → List ℕ → Fr.Denot). ‵ (Both F)) (λ k x' w'. written_pair held s.now shown i j p.0.now p.1.now x' w' here_i here_j first_is second_is k) refl $
    -- [lends; the two slices; the token; nothing]
    use0 𝓛 (raw (fact 𝓤 (w.now ≡ bytes_at held (Page j)))) (fact_i 𝓤 _ (emp 𝓤) (w_is ∙ bytes_shown held s.now shown j p.1.now here_j second_is)) $
    use0 𝓛 (raw (fact 𝓤 (x.now ≡ bytes_at held (Page i)))) (fact_i 𝓤 _ (emp 𝓤) (x_is ∙ bytes_shown held s.now shown i p.0.now here_i first_is)) $ join ! $ move ! (1 ∷ 0 ∷ []) $ join ! $
    nothing ! $ nothing ! $ fjoin ! $ nothing ! $ fjoin ! $ nothing ! $ fjoin ! $
    move ! (3 ∷ 4 ∷ 0 ∷ 2 ∷ 1 ∷ []) $ join ! $ by ! (leaves 𝓛 f.ended stayed c y v (x, w) (tt, (tt, (tt, tt))) (tt, (tt, (tt, tt)))))))))))))))))))))))))))))))))
