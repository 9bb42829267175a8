-- An action that has changed nothing: no step was made, and nothing was freed.
use Rattle.std.proofs.Common.{◌≡◌, ℕ, zero, suc, Bool, true, false, not, List, [], ◌∷◌, ◌++◌, length, refl, sym, ap, ◌∙◌, arith}
use Rattle.std.specs.Prelude.{map, ◌&&◌}
use Rattle.sg_alloc.specs.Flags.{free_of}
use Rattle.sg_ops.specs.Table.{Table}
use Rattle.sg_action.specs.States.{State, Kept, Change}
use Rattle.sg_actions.specs.Changes.{meaning}
use Rattle.sg_actions.specs.Later.{AreChanges}
use Rattle.sg_actions.specs.Steps.{Step, Steps, opened, logged, with_change}
use Rattle.sg_actions.specs.Taken.{is_set, takes_page, takes_band}

-- no change was made where none is open
no_cons : (d : Change) (ds : List Change) → ◌≡◌ {A = List Change} [] (d ∷ ds) → ⊥
no_cons d ds e = cc

pub nothing_made : (t : Table) (kept : Kept) (begin first : State) (txn : ℕ) (made log : Steps) → AreChanges t kept begin first txn made log → opened (made ++ log) ≡ [] → made ≡ []
nothing_made t kept begin first txn [] log h e = refl
nothing_made t kept begin first txn (r ∷ made) log h e = absurd (no_cons (meaning h.0.1) (opened (made ++ log)) (sym e ∙ ap (λ (x : Step). map meaning (with_change x (logged (made ++ log)))) h.0.2))

-- FLAGS of which each is the same
same_flags : (xs ys : List Bool) → length xs ≡ length ys → ((n : ℕ) → is_set xs n ≡ is_set ys n) → xs ≡ ys
same_flags [] [] e h = refl
same_flags [] (y ∷ ys) e h = absurd (omega (arith, e))
same_flags (x ∷ xs) [] e h = absurd (omega (arith, e))
same_flags (x ∷ xs) (y ∷ ys) e h = λ i. h zero i ∷ same_flags xs ys (omega (arith, e)) (λ n. h (suc n)) i

and_true : (b : Bool) → b ≡ (b && true)
and_true true = refl
and_true false = refl

-- what was taken when an action began that has changed nothing, is taken now
pub taken_still : (taken : List Bool) (ds : List Change) (n : ℕ) → ds ≡ [] → is_set taken n ≡ (is_set taken n && not (takes_page ds n))
taken_still taken ds n none = and_true (is_set taken n) ∙ ap (λ (cs : List Change). is_set taken n && not (takes_page cs n)) (sym none)

pub bands_still : (taken : List Bool) (ds : List Change) (n : ℕ) → ds ≡ [] → is_set taken n ≡ (is_set taken n && not (takes_band ds n))
bands_still taken ds n none = and_true (is_set taken n) ∙ ap (λ (cs : List Change). is_set taken n && not (takes_band cs n)) (sym none)

-- so as many are free where the same was taken then
pub free_still : (taken taken' : List Bool) (ds ds' : List Change) → length taken' ≡ length taken → ds ≡ [] → ds' ≡ []
    → ((n : ℕ) → (is_set taken' n && not (takes_page ds' n)) ≡ (is_set taken n && not (takes_page ds n))) → free_of taken' ≡ free_of taken
free_still taken taken' ds ds' long none none' same = ap free_of (same_flags taken' taken long (λ n. taken_still taken' ds' n none' ∙ (same n ∙ sym (taken_still taken ds n none))))

pub bands_free_still : (taken taken' : List Bool) (ds ds' : List Change) → length taken' ≡ length taken → ds ≡ [] → ds' ≡ []
    → ((n : ℕ) → (is_set taken' n && not (takes_band ds' n)) ≡ (is_set taken n && not (takes_band ds n))) → free_of taken' ≡ free_of taken
bands_free_still taken taken' ds ds' long none none' same = ap free_of (same_flags taken' taken long (λ n. bands_still taken' ds' n none' ∙ (same n ∙ sym (bands_still taken ds n none))))
