use Rattle.std.proofs.Common.{[], ◌<◌, ◌≡◌, ◌⊎◌, ℕ, List, length, refl, lit<, inl, inr, subst, sym, ap, ◌∙◌, arith, length-set}
use Rattle.std.proofs.lemmas.List.{get_or-set_other}
use Rattle.sg_frames.specs.declared.place.Place.{Place}
use Rattle.sg_frames.specs.declared.place.Place.TheVariants.{Page}
use Rattle.sg_frames.specs.Held.{Held, HereBut, IsHere, bytes_at, with_bytes}
use Rattle.sg_frames.proofs.Lent.{here_but-none, here_but-written, here_but-taken, here_but-given, none_lent-here_but}
use Rattle.sg_tests_ops.proofs.frames.has_its_own.Goals as goal

-- a frame that is here stays so where the one before it is given other bytes
kept : (old new : Held) (place : Place) (bytes : List ℕ) → new ≡ with_bytes old place bytes → place ≡ Page 3 → IsHere old (Page 4) → IsHere new (Page 4)
kept old new place bytes is third here =
    ap (λ (h : Held). length (bytes_at h (Page 4))) (is ∙ ap (λ (p : Place). with_bytes old p bytes) third) ∙ ap length (get_or-set_other old.pages 3 4 bytes [] (λ same. omega (arith, same))) ∙ here

pub page_is-still-requires : goal.page_is-still-requires
page_is-still-requires c =
    let made = c.in_ok-frames in
    let has : 4 < length made.frames.pages = subst (λ n. 4 < n) (sym made.ensures.pages) (lit< tt) in
    let written = here_but-written (λ _. ⊥) made.frames (Page 4) c.fill.new.self has (made.ensures.none_lent.pages 4 has) (here_but-none made.frames made.ensures.none_lent) in
    let still = subst (λ n. 4 < n) (sym (length-set made.frames.pages 4 _)) has in
    kept c.take-loan.new.self c.give.new.self c.take-loan.result.place _ c.give.ensures.held c.take-loan.ensures.place
    (kept _ c.take-loan.new.self (Page 3) [] c.take-loan.ensures.left refl (elim (written (Page 4) still) [ inl lent ↦ absurd lent | inr stays ↦ stays ]))

pub end-requires : goal.end-requires
end-requires c =
    let made = c.in_ok-frames in
    let has : 4 < length made.frames.pages = subst (λ n. 4 < n) (sym made.ensures.pages) (lit< tt) in
    let written = here_but-written (λ _. ⊥) made.frames (Page 4) c.fill.new.self has (made.ensures.none_lent.pages 4 has) (here_but-none made.frames made.ensures.none_lent) in
    let taken = here_but-taken (λ _. ⊥) _ c.take-loan.new.self (Page 3) [] c.take-loan.ensures.left written in
    let given = here_but-given (λ _. ⊥) c.take-loan.new.self c.give.new.self c.take-loan.result.place _ c.give.ensures.held c.give.ensures.here
    (subst (λ (p : Place). HereBut (λ other. (other ≡ p) ⊎ ⊥) c.take-loan.new.self) (sym c.take-loan.ensures.place) taken) in
    record { none_lent = none_lent-here_but c.give.new.self given }
