-- A run is two runs, side by side. Assumes `Logic`.
use Rattle.std.proofs.Common.{◌≡◌, ℕ, ◌+◌, ◌≤◌, List, [], ◌∷◌, ◌++◌, length, take, drop as drop_l, refl, sym, arith, length-take}
use Rattle.std.proofs.lemmas.List.{take-append-drop}
use seplogic.Ra.Ura.{Ura}
use base.Fraction.{full_share}
use base.Logic.{ent, sep, via, fst∗, never_e, never}
use base.Fml.{fsep, feq}
use types.Logic.{Logic, sem}
use types.Kit.{‵, ◌⊛◌, ◌$◌, ◌∵◌, !, qed, by, move, drop, use1, use2, split, fsplit, fjoin, feq_i, rewrite, done}
use denote.RawPtr.{Ptr, block_ptr, null_ptr, ◌+ₚ◌}
use denote.RawPtr.Bytes.{bytes, bytes_cut, bytes_glue, bytes_apart, bytes_whole}
use Rattle.sg_frames.specs.Ownership.{run_owns}

module _ {M : Type 1} {𝓤 : Ura M} (𝓛 : Logic 𝓤) where
  in_bytes : (xs : List ℕ) (b o : ℕ) → ent 𝓤 (sem 𝓛 (run_owns (block_ptr b o) xs)) (sem 𝓛 (bytes full_share xs b o))
  in_bytes xs b o = qed 𝓛 (‵ (run_owns (block_ptr b o) xs) ∷ []) ∵ use1 𝓛 (‵ (fsep (feq ℕ (length xs) (length xs)) (bytes full_share xs b o))) (bytes_apart 𝓛 full_share (length xs) xs b o) $ fsplit ! $ drop ! $ done !

  of_bytes : (xs : List ℕ) (b o : ℕ) → ent 𝓤 (sem 𝓛 (bytes full_share xs b o)) (sem 𝓛 (run_owns (block_ptr b o) xs))
  of_bytes xs b o = qed 𝓛 (‵ (bytes full_share xs b o) ∷ []) ∵ feq_i ! ℕ (length xs) (length xs) refl $ fjoin ! $ by ! (bytes_whole 𝓛 full_share (length xs) xs b o)

  pub run_cut : (p : Ptr) (n : ℕ) (xs : List ℕ) → n ≤ length xs → ent 𝓤 (sem 𝓛 (run_owns p xs)) (sep 𝓤 (sem 𝓛 (run_owns p (take n xs))) (sem 𝓛 (run_owns (p +ₚ n) (drop_l n xs))))
  run_cut null_ptr n xs le = never_e 𝓤 _
  run_cut (block_ptr b o) n xs le =
      let long : length (take n xs) ≡ n = omega (arith, length-take n xs) in
      qed 𝓛 (‵ (run_owns (block_ptr b o) xs) ∷ []) ∵ use1 𝓛 (‵ (bytes full_share xs b o)) (in_bytes xs b o) $
      rewrite ! 0 (λ (ys : List ℕ). ‵ (bytes full_share ys b o)) (sym (take-append-drop n xs)) refl $
      use1 𝓛 (‵ (bytes full_share (take n xs) b o) ⊛ ‵ (bytes full_share (drop_l n xs) b (o + length (take n xs)))) (bytes_cut 𝓛 full_share (take n xs) (drop_l n xs) b o) $ split ! $
      rewrite ! 1 (λ (m : ℕ). ‵ (bytes full_share (drop_l n xs) b (o + m))) long refl $
      use1 𝓛 (‵ (run_owns (block_ptr b o) (take n xs))) (of_bytes (take n xs) b o) $ move ! (1 ∷ []) $
      use1 𝓛 (‵ (run_owns (block_ptr b (o + n)) (drop_l n xs))) (of_bytes (drop_l n xs) b (o + n)) $ move ! (1 ∷ 0 ∷ []) $ done !

  pub run_join : (p : Ptr) (xs ys : List ℕ) → ent 𝓤 (sep 𝓤 (sem 𝓛 (run_owns p xs)) (sem 𝓛 (run_owns (p +ₚ length xs) ys))) (sem 𝓛 (run_owns p (xs ++ ys)))
  run_join null_ptr xs ys = via 𝓤 (never 𝓤) (fst∗ 𝓤 (never 𝓤) (sem 𝓛 (run_owns null_ptr ys))) (never_e 𝓤 _)
  run_join (block_ptr b o) xs ys =
      qed 𝓛 (‵ (run_owns (block_ptr b o) xs) ∷ ‵ (run_owns (block_ptr b (o + length xs)) ys) ∷ []) ∵ use1 𝓛 (‵ (bytes full_share xs b o)) (in_bytes xs b o) $ move ! (1 ∷ []) $
      use1 𝓛 (‵ (bytes full_share ys b (o + length xs))) (in_bytes ys b (o + length xs)) $ move ! (1 ∷ 0 ∷ []) $
      use2 𝓛 (‵ (bytes full_share (xs ++ ys) b o)) (bytes_glue 𝓛 full_share xs ys b o) $ by ! (of_bytes (xs ++ ys) b o)
