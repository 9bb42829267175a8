-- A formed log isn't damaged.
use Rattle.std.proofs.Common.{◌≡◌, ◌⊎◌, inl, inr, ℕ, ◌+◌, ◌≤◌, arith, List, [], ◌∷◌, ◌++◌, length, Option, Some, None, refl, sym, ap, ◌∙◌, subst}
use Rattle.sg_disk.specs.Disk.{Bytes}
use Rattle.sg_record.specs.Records.{Record}
use Rattle.sg_log.specs.Formed.{IsFormed}
use Rattle.sg_log.specs.Frames.{LOG_END, Frames, HasRecords, Numbered, gate_after, numbered_from, numbered_in, text_of}
use Rattle.sg_log.specs.Texts.{spelled_all}
use Rattle.sg_log.proofs.Standing.{Frames-behind, gate_behind}
use Rattle.sg_log.proofs.Steps.{gate_later, gate_shut}
use Rattle.sg_analysis.specs.Sights.{steps_of}
use Rattle.sg_analysis.specs.Standing.{all_stand, IsPageLog}
use Rattle.sg_analysis.specs.Unended.{Start, stray}
use Rattle.sg_analysis.specs.Damage.{IsTorn, IsAmbiguous, IsDamagedAt}
use Rattle.sg_analysis.proofs.Taking.{true_left, all_stand-both, append_none, append_assoc}
use Rattle.sg_analysis.proofs.Strays.{no_stray}
use Rattle.sg_analysis.proofs.Walking.{front_of}
use Rattle.sg_analysis.proofs.Following.{in_order}
use Rattle.sg_analysis.proofs.Formedness.{ordered_stands, log_ordered}

numbered_both : (gate : ℕ) (lead rest : List (List Record)) → numbered_in gate (lead ++ rest) ≡ numbered_in gate lead ++ numbered_in (gate_after gate lead) rest
numbered_both gate [] rest = refl
numbered_both gate (rs ∷ lead) rest =
    let end = gate + 1 + length (text_of (spelled_all rs)) in
    ap (λ (ns : List Numbered). numbered_from (gate + 5) rs ++ ns) (numbered_both end lead rest) ∙ sym (append_assoc (numbered_from (gate + 5) rs) (numbered_in end lead) (numbered_in (gate_after end lead) rest))

-- where a formed log stands, it isn't damaged
pub undamaged : {f : Bytes} {base gate at : ℕ} {ns : List Numbered} → HasRecords f base gate ns → IsPageLog base ns → IsDamagedAt f base at → ⊥
undamaged {f = f} {base = base} {at = at} {ns = ns} h log d = by_rest (front_of f 0 d.frames h.frames d.formed h.stand) d.cause
  where
    formed : IsPageLog base (numbered_in base h.frames)
    formed = subst (IsPageLog base) (sym h.all) log

    shut : f (gate_after 0 h.frames) ≡ 1 → ⊥
    shut = gate_shut f 0 h.frames h.stand

    torn : (rest : List (List Record)) → h.frames ≡ d.frames ++ rest → IsTorn f base at d.frames → ⊥
    torn [] is t = shut (subst (λ (x : List (List Record)). f (gate_after 0 x) ≡ 1) (sym (is ∙ append_none d.frames)) (subst (λ n. f n ≡ 1) t.there t.gate))
    torn (rs ∷ rest) is t =
        let more : Frames f (gate_after 0 d.frames) (rs ∷ rest) = Frames-behind f 0 d.frames (rs ∷ rest) (subst (Frames f 0) is h.stand) in
        let next : IsFormed f (gate_after 0 d.frames) rs = record { gate = more.0; frame = more.1; text = more.2 } in
        let later = gate_later (gate_after (gate_after 0 d.frames) (rs ∷ [])) rest in
        let all_behind : gate_after 0 h.frames ≡ gate_after (gate_after 0 d.frames) (rs ∷ rest) = ap (gate_after 0) is ∙ gate_behind 0 d.frames (rs ∷ rest) in
        let split : numbered_in base h.frames ≡ numbered_in base (d.frames ++ rs ∷ []) ++ numbered_in (gate_after base (d.frames ++ rs ∷ [])) rest =
        ap (numbered_in base) (is ∙ sym (append_assoc d.frames (rs ∷ []) rest)) ∙ numbered_both base (d.frames ++ rs ∷ []) rest in
        let all = sym (all_stand-both base [] (numbered_in base (d.frames ++ rs ∷ [])) (numbered_in (gate_after base (d.frames ++ rs ∷ [])) rest)) ∙ (sym (ap (all_stand base) split) ∙ ordered_stands base (numbered_in base h.frames) (log_ordered formed)) in
        t.none rs (subst (λ n. IsFormed f n rs) (sym t.there) next) (within later all_behind (ap (λ n. gate_after n (rs ∷ [])) t.there)) (in_order base (d.frames ++ rs ∷ []) (true_left (all_stand base (numbered_in base (d.frames ++ rs ∷ []))) _ all))
      where
        within : gate_after (gate_after 0 d.frames) (rs ∷ []) ≤ gate_after (gate_after (gate_after 0 d.frames) (rs ∷ [])) rest → gate_after 0 h.frames ≡ gate_after (gate_after (gate_after 0 d.frames) (rs ∷ [])) rest
            → gate_after at (rs ∷ []) ≡ gate_after (gate_after 0 d.frames) (rs ∷ []) → base + gate_after at (rs ∷ []) ≤ LOG_END
        within le e same = omega (arith, h.within, h.at_gate, le, e, same)

    two : (rest : List (List Record)) → h.frames ≡ d.frames ++ rest → IsAmbiguous f base at d.frames → ⊥
    two [] is a = never (no_stray (steps_of (numbered_in base h.frames)) formed.steps.chained formed.steps.one_action) (subst (λ (x : List (List Record)). stray (steps_of (numbered_in base x)) ≡ Some a.stray.action) (sym (is ∙ append_none d.frames)) a.stray.first)
      where
        never : {o : Option Start} {b : Start} → o ≡ None → o ≡ Some b → ⊥
        never e f = absurd (cc)
    two (rs ∷ rest) is a = a.closed (Frames-behind f 0 d.frames (rs ∷ rest) (subst (Frames f 0) is h.stand)).0

    by_rest : (rest : List (List Record)) × (h.frames ≡ d.frames ++ rest) → IsTorn f base at d.frames ⊎ IsAmbiguous f base at d.frames → ⊥
    by_rest (rest, is) (inl t) = torn rest is t
    by_rest (rest, is) (inr a) = two rest is a
