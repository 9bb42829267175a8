-- A change reverts where its inverse gives back pages that are alike, and the inverses before it fit.
use Rattle.std.proofs.Common.{◌≡◌, Bool, true, false, cond, List, [], ◌∷◌, Some, None, refl, sym, ◌∙◌, subst}
use Rattle.sg_recovery.specs.Setting.{Setting}
use Rattle.sg_recovery.specs.Log.{Open}
use Rattle.sg_recovery.specs.Stands.{taken_off, all_off, settled}
use Rattle.sg_recovery.specs.Keeps.{Reverts}
use Rattle.sg_recovery.specs.Alike.{AreAlike, TakesTo}
use Rattle.sg_recovery.proofs.Basic.{some_one, then_some, then_of}

-- where an inverse was applied it fits
fits_then : (s : Setting) (c : s.C) (x y : s.X) → taken_off s c x ≡ Some y → (s.fits x (s.inverse c) ≡ true) × (y ≡ s.apply x (s.inverse c))
fits_then s c x y e = by_test (s.fits x (s.inverse c)) refl e
  where
    by_test : (b : Bool) → s.fits x (s.inverse c) ≡ b → cond b (Some (s.apply x (s.inverse c))) None ≡ Some y → (s.fits x (s.inverse c) ≡ true) × (y ≡ s.apply x (s.inverse c))
    by_test true f k = (f, cc)
    by_test false f k = absurd (cc)

-- the inverses of some changes, from states that are alike, where all fit in both
pub off_alike : (s : Setting) (R : s.X → s.X → Type 0) → AreAlike s R → (ds : List (Open s.C)) (x y a b : s.X) → R x y → all_off s ds x ≡ Some a → all_off s ds y ≡ Some b → R a b
off_alike s R w [] x y a b h e f = subst (λ z. R z b) (some_one x a e) (subst (λ z. R x z) (some_one y b f) h)
off_alike s R w (d ∷ ds) x y a b h e f =
    let p = then_some (taken_off s d.change x) (all_off s ds) a e in
    let q = then_some (taken_off s d.change y) (all_off s ds) b f in
    let fp = fits_then s d.change x p.0 p.1 in
    let fq = fits_then s d.change y q.0 q.1 in
    off_alike s R w ds p.0 q.0 a b (subst (λ z. R z q.0) (sym fp.1) (subst (λ z. R (s.apply x (s.inverse d.change)) z) (sym fq.1) (w.off x y d.change h fp.0 fq.0))) p.2 q.2

-- What the space of pages has to show of a change: with it, all inverses fit from the last back (the condition of the call); so they did without it; its
-- own inverse gives back pages that are alike; and pages alike to those of the action's begin read as these.
pub alike_reverts : (s : Setting) (R : s.X → s.X → Type 0) → AreAlike s R → (ds : List (Open s.C)) (x a b : s.X) (d : Open s.C) → all_off s (d ∷ ds) (s.apply x d.change) ≡ Some a → all_off s ds x ≡ Some b
    → R (s.apply (s.apply x d.change) (s.inverse d.change)) x → ((y : s.X) → R y b → s.reading y ≡ s.reading b) → Reverts s ds x d
alike_reverts s R w ds x a b d with_it without back reads =
    let p = then_some (taken_off s d.change (s.apply x d.change)) (all_off s ds) a with_it in
    let f = fits_then s d.change (s.apply x d.change) p.0 p.1 in
    let alike = off_alike s R w ds p.0 x a b (subst (λ z. R z x) (sym f.1) back) p.2 without in
    then_of (all_off s (d ∷ ds) (s.apply x d.change)) s.reading a with_it ∙ (reads a alike ∙ sym (then_of (all_off s ds x) s.reading b without))

-- at the begin of an action nothing is taken off
pub takes_none : (s : Setting) (R : s.X → s.X → Type 0) → AreAlike s R → (x : s.X) → TakesTo s R x [] x
takes_none s R w x = record { end = x; off = refl; alike = w.same x }

-- one change more, whose inverse gives back pages that are alike, where all inverses fit from the last back
pub takes_more : (s : Setting) (R : s.X → s.X → Type 0) → AreAlike s R → ((x y z : s.X) → R x y → R y z → R x z) → (begin : s.X) (ds : List (Open s.C)) (x a : s.X) (d : Open s.C) → TakesTo s R begin ds x
    → all_off s (d ∷ ds) (s.apply x d.change) ≡ Some a → R (s.apply (s.apply x d.change) (s.inverse d.change)) x → TakesTo s R begin (d ∷ ds) (s.apply x d.change)
takes_more s R w trans begin ds x a d h with_it back =
    let p = then_some (taken_off s d.change (s.apply x d.change)) (all_off s ds) a with_it in
    let f = fits_then s d.change (s.apply x d.change) p.0 p.1 in
    record { end = a; off = with_it; alike = trans a h.end begin (off_alike s R w ds p.0 x a h.end (subst (λ z. R z x) (sym f.1) back) p.2 h.off) h.alike }

-- one change taken off
pub takes_less : (s : Setting) (R : s.X → s.X → Type 0) (begin : s.X) (ds : List (Open s.C)) (x : s.X) (d : Open s.C) → TakesTo s R begin (d ∷ ds) x → TakesTo s R begin ds (s.apply x (s.inverse d.change))
takes_less s R begin ds x d h =
    let p = then_some (taken_off s d.change x) (all_off s ds) h.end h.off in
    let f = fits_then s d.change x p.0 p.1 in
    record { end = h.end; off = subst (λ z. all_off s ds z ≡ Some h.end) f.1 p.2; alike = h.alike }

-- so what is read once the action is taken off is what was read at its begin, and each change of it reverts
pub takes_reads : (s : Setting) (R : s.X → s.X → Type 0) (begin : s.X) (ds : List (Open s.C)) (x : s.X) → TakesTo s R begin ds x → ((y : s.X) → R y begin → s.reading y ≡ s.reading begin) → settled s ds x ≡ s.reading begin
takes_reads s R begin ds x h reads = then_of (all_off s ds x) s.reading h.end h.off ∙ reads h.end h.alike

pub takes_reverts : (s : Setting) (R : s.X → s.X → Type 0) (begin : s.X) (ds : List (Open s.C)) (x : s.X) (d : Open s.C) → TakesTo s R begin ds x → TakesTo s R begin (d ∷ ds) (s.apply x d.change)
    → ((y : s.X) → R y begin → s.reading y ≡ s.reading begin) → Reverts s ds x d
takes_reverts s R begin ds x d h k reads = takes_reads s R begin (d ∷ ds) (s.apply x d.change) k reads ∙ sym (takes_reads s R begin ds x h reads)
