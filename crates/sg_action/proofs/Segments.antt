-- The bytes of a body come back: the note of byte 9.
use Rattle.std.proofs.Common.{◌≡◌, ℕ, Bool, true, false, List, [], ◌∷◌, ◌++◌, length, refl, sym, ap, ◌∙◌, inl, inr}
use Rattle.std.proofs.lemmas.Bool.{cases_eq}
use Rattle.sg_ops.specs.Table.{Table, range_at, rendered}
use Rattle.sg_base.specs.Overwritten.{overwritten}
use Rattle.sg_action.specs.States.{State, Change, Kept, with_one, made, apply}
use Rattle.sg_action.specs.States.Change.{Page, Write, Paint}
use Rattle.sg_action.specs.Opened.{StoodThere, IsOpened}
use Rattle.sg_action.specs.Opened.{put_back, IsNotFilled}
use Rattle.sg_ops.proofs.Rendering.{length-rendered}
use Rattle.sg_action.proofs.WrittenBack.{overwritten_back}
use Rattle.sg_action.proofs.Opened.{one_here, one_there}

module _ (t : Table) (kept : Kept) (begin : State) where
  one : (x y : State) (b c : ℕ) (after before : List ℕ) (at count : ℕ) → length after ≡ count → StoodThere (x.bands b) at count before → y.bands c ≡ with_one x.bands b (overwritten (x.bands b) at after) c
      → with_one y.bands b (overwritten (y.bands b) at before) c ≡ x.bands c
  one x y b c after before at count size h same = elim (cases_eq c b) [
    | inl is ↦
        let now : y.bands b ≡ overwritten (x.bands b) at after = ap y.bands (sym is) ∙ (same ∙ (ap (with_one x.bands b (overwritten (x.bands b) at after)) is ∙ one_here x.bands b (overwritten (x.bands b) at after))) in
        ap (λ (n : ℕ). with_one y.bands b (overwritten (y.bands b) at before) n) is
        ∙ (one_here y.bands b (overwritten (y.bands b) at before)
        ∙ (ap (λ (xs : List ℕ). overwritten xs at before) now ∙ (overwritten_back (x.bands b) after before at count size h ∙ ap x.bands (sym is))))
    | inr other ↦ one_there y.bands b c (overwritten (y.bands b) at before) other ∙ (same ∙ one_there x.bands b c (overwritten (x.bands b) at after) other)
  ]

  -- the before bytes of an action's records on a band, put back with the last record first, give the band as it was before these records: at the action's begin, or filled with zeros where the action took it
  pub bytes_back : (later rest : List Change) → IsOpened t kept begin (later ++ rest) → (c : ℕ) → IsNotFilled later c → (y : State) → y.bands c ≡ (made t begin (later ++ rest)).bands c → (put_back t later y).bands c ≡ (made t begin rest).bands c
  bytes_back [] rest h c k y same = same
  bytes_back (Page m op back ∷ ds) rest h c k y same = bytes_back ds rest h.0 c k y same
  bytes_back (Write b at before after ∷ ds) rest h c k y same =
      bytes_back ds rest h.0 c k (apply t y (Write b at after before)) (one (made t begin (ds ++ rest)) y b c after before at (length after) refl h.1 same)
  bytes_back (Paint b at count code position arg [] ∷ ds) rest h c k y same =
      bytes_back ds rest h.0 c k.1 (apply t y (Paint b at count code position arg []))
      (one_there y.bands b c (overwritten (y.bands b) at (rendered (range_at t code) arg position count)) k.0
      ∙ (same ∙ one_there (made t begin (ds ++ rest)).bands b c (overwritten ((made t begin (ds ++ rest)).bands b) at (rendered (range_at t code) arg position count)) k.0))
  bytes_back (Paint b at count code position arg (v ∷ before) ∷ ds) rest h c k y same =
      bytes_back ds rest h.0 c k (apply t y (Write b at [] (v ∷ before))) (one (made t begin (ds ++ rest)) y b c (rendered (range_at t code) arg position count) (v ∷ before) at count (length-rendered (range_at t code) arg position count) h.1 same)

  -- a band that was taken at the begin is never filled so
  pub kept_not_filled : (ds : List Change) → IsOpened t kept begin ds → (c : ℕ) → kept.bands c ≡ true → IsNotFilled ds c
  kept_not_filled [] h c k = tt
  kept_not_filled (Page m op back ∷ ds) h c k = kept_not_filled ds h.0 c k
  kept_not_filled (Write b at before after ∷ ds) h c k = kept_not_filled ds h.0 c k
  kept_not_filled (Paint b at count code position arg [] ∷ ds) h c k = ((λ is. absurd (two_ways (kept.bands b) h.1 (ap kept.bands (sym is) ∙ k))), kept_not_filled ds h.0 c k)
    where
      two_ways : (b : Bool) → b ≡ false → b ≡ true → ⊥
      two_ways b e f = cc
  kept_not_filled (Paint b at count code position arg (v ∷ before) ∷ ds) h c k = kept_not_filled ds h.0 c k
