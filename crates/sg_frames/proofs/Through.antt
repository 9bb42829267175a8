-- What a lender of two parts follows, where the parts are lent on. Assumes `Logic`.
use Rattle.std.proofs.Common.{[], ◌∷◌}
use seplogic.Ra.Ura.{Ura}
use base.Logic.{ent, sep, wand}
use base.Fml.{GName, fres}
use types.Logic.{Logic, sem}
use types.Kit.{‵, ◌⊛◌, ◌$◌, ◌∵◌, !, qed, each, assume, move, split, join, use2, by}
use types.Follow.{followed₂}
use denote.RattleType.{RattleType}
use denote.Memory.{mem}
use denote.Follow.{both_by, follows, follows_both, followed}

-- r lends s, s lends t and u, and these lend v and w: so r follows v and w
module _ {M : Type 1} {𝓤 : Ura M} (𝓛 : Logic 𝓤) (R S T U V W : RattleType) (F : S.Denot → R.Denot) (G : T.Denot → U.Denot → S.Denot) (I : V.Denot → T.Denot) (J : W.Denot → U.Denot) (r s t u v w : GName) where
  open 𝓛 use {A}

  pub both_through : ent 𝓤 (sep 𝓤 (sem 𝓛 (follows R S r s F)) (sep 𝓤 (sem 𝓛 (follows_both S T U s t u G)) (sep 𝓤 (sem 𝓛 (follows T V t v I)) (sem 𝓛 (follows U W u w J)))))
      (sem 𝓛 (follows_both R V W r v w (λ x y. F (G (I x) (J y)))))
  unfolding both_by
  both_through = qed 𝓛 (‵ (follows R S r s F) ∷ ‵ (follows_both S T U s t u G) ∷ ‵ (follows T V t v I) ∷ ‵ (follows U W u w J) ∷ []) ∵
      each ! (λ (x : V.Denot × W.Denot). wand 𝓤 (sep 𝓤 (A.res v (V.coded.code x.0)) (A.res w (W.coded.code x.1))) (A.res r (R.coded.code (F (G (I x.0) (J x.1))))))
      (λ x. assume ! (‵ (fres v (V.coded.code x.0)) ⊛ ‵ (fres w (W.coded.code x.1))) $ split ! $
      move ! (4 ∷ 0 ∷ []) $ use2 𝓛 (‵ (fres t (T.coded.code (I x.0)))) (followed 𝓛 T V I t v x.0) $
      move ! (4 ∷ 1 ∷ []) $ use2 𝓛 (‵ (fres u (U.coded.code (J x.1)))) (followed 𝓛 U W J u w x.1) $
      move ! (1 ∷ 0 ∷ []) $ join ! $ move ! (0 ∷ 2 ∷ []) $ use2 𝓛 (‵ (fres s (S.coded.code (G (I x.0) (J x.1))))) (followed₂ 𝓛 (mem S) (mem T) (mem U) G s t u (I x.0) (J x.1)) $
      move ! (1 ∷ 0 ∷ []) $ by ! (followed 𝓛 R S F r s (G (I x.0) (J x.1))))
