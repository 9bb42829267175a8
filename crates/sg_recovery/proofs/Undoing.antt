-- Lists of steps back.
use Rattle.std.proofs.Common.{◌≡◌, Bool, true, false, cond, List, [], ◌∷◌, ◌++◌, map, Option, Some, None, refl, ◌∙◌, subst}
use Rattle.sg_recovery.specs.Setting.{Setting}
use Rattle.sg_recovery.specs.Log.{Top}
use Rattle.sg_recovery.specs.Stands.{all_back, undoes, all_undone}
use Rattle.sg_recovery.specs.Laws.{Each, Note, bare, goes_back, all_gone_back, Carried, Carries, Laws, Swaps}
use Rattle.sg_recovery.proofs.Basic.{some_one, then_some, then_of}

-- steps that keep a relation of readings keep it together
pub carried : {A O : Type 0} (back : A → O → Option O) (R : O → O → Type 0) (ns : List A) → Each (Carried back R) ns → (o p q : O) → R o p → all_back back ns o ≡ Some q
    → (r : O) × (all_back back ns p ≡ Some r) × R q r
carried back R [] h o p q rel is = (p, refl, subst (λ a. R a p) (some_one o q is) rel)
carried back R (n ∷ ns) h o p q rel is =
    let a = then_some (back n o) (all_back back ns) q is in
    let b = h.0 o p a.0 rel a.1 in
    let c = carried back R ns h.1 a.0 b.0 q b.2 a.2 in
    (c.0, then_of (back n p) (all_back back ns) b.0 b.1 ∙ c.1, c.2)

tops_below : (s : Setting) → Laws s → (ns : List (Top s.C s.N)) → Each (Carried (undoes s) s.Below) ns
tops_below s w [] = tt
tops_below s w (n ∷ ns) = (w.below_undo n, tops_below s w ns)

notes_below : (s : Setting) → Laws s → (ns : List (Note s)) → Each (Carries s s.Below) ns
notes_below s w [] = tt
notes_below s w (n ∷ ns) = (w.below_back n, notes_below s w ns)

-- what can be undone in a reading can be in one above it
pub undone_above : (s : Setting) → Laws s → (ns : List (Top s.C s.N)) (o p q : s.O) → s.Below o p → all_undone s ns o ≡ Some q
    → (r : s.O) × (all_undone s ns p ≡ Some r) × s.Below q r
undone_above s w ns o p q le is = carried (undoes s) s.Below ns (tops_below s w ns) o p q le is

pub back_above : (s : Setting) → Laws s → (ns : List (Note s)) (o p q : s.O) → s.Below o p → all_gone_back s ns o ≡ Some q
    → (r : s.O) × (all_gone_back s ns p ≡ Some r) × s.Below q r
back_above s w ns o p q le is = carried (goes_back s) s.Below ns (notes_below s w ns) o p q le is

-- what can be undone at its place can be undone
pub back_undoes : (s : Setting) (n : Note s) (o p : s.O) → goes_back s n o ≡ Some p → undoes s (bare s n) o ≡ Some p
back_undoes s n o p h = by_test (s.can_undo o n.note n.changes n.place) h
  where
    by_test : (b : Bool) → cond b (undoes s (bare s n) o) None ≡ Some p → undoes s (bare s n) o ≡ Some p
    by_test true k = k
    by_test false k = absurd (cc)

pub all_back_undoes : (s : Setting) (ns : List (Note s)) (o p : s.O) → all_gone_back s ns o ≡ Some p → all_undone s (map (bare s) ns) o ≡ Some p
all_back_undoes s [] o p h = h
all_back_undoes s (n ∷ ns) o p h =
    let a = then_some (goes_back s n o) (all_gone_back s ns) p h in
    then_of (undoes s (bare s n) o) (all_undone s (map (bare s) ns)) a.0 (back_undoes s n o a.0 a.1) ∙ all_back_undoes s ns a.0 p a.2

-- a note that changes places with the later ones is undone first
pub record IsFirst (s : Setting) (later : List (Note s)) (n : Note s) (rest : List (Note s)) (o q : s.O) : Type 0 where
  pub mid : s.O
  pub end : s.O
  pub undone : goes_back s n o ≡ Some mid
  pub others : all_gone_back s (later ++ rest) mid ≡ Some end
  pub above : s.Below q end

pub undone_first : (s : Setting) → Laws s → (later : List (Note s)) (n : Note s) (rest : List (Note s)) → Each (λ m. Swaps s m n) later
    → (o q : s.O) → all_gone_back s (later ++ n ∷ rest) o ≡ Some q → IsFirst s later n rest o q
undone_first s w [] n rest h o q is =
    let a = then_some (goes_back s n o) (all_gone_back s rest) q is in
    record { mid = a.0; end = q; undone = a.1; others = a.2; above = w.below_same q }
undone_first s w (m ∷ later) n rest h o q is =
    let a = then_some (goes_back s m o) (all_gone_back s (later ++ n ∷ rest)) q is in
    let f = undone_first s w later n rest h.1 a.0 q a.2 in
    let b = h.0 o a.0 f.mid a.1 f.undone in
    let c = back_above s w (later ++ rest) f.mid b.1 f.end b.4 f.others in
    record {
      mid = b.0;
      end = c.0;
      undone = b.2;
      others = then_of (goes_back s m b.0) (all_gone_back s (later ++ rest)) b.1 b.3 ∙ c.1;
      above = w.below_trans q f.end c.0 f.above c.2;
    }
