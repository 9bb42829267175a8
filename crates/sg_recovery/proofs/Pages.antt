-- A free page stays for each standing note that wants one.
use Rattle.std.proofs.Common.{◌≡◌, ℕ, ◌+◌, ◌≤◌, ◌==◌, arith, Bool, true, false, cond, not, List, [], ◌∷◌, ◌++◌, filter, Some, refl, sym, ap, ◌∙◌, subst, le_trans, le_refl}
use Rattle.sg_recovery.specs.Setting.{Setting}
use Rattle.sg_recovery.specs.Log.{Open, Top, Tally, said, is_in, open_not_of, open_up_to, notes_up_to}
use Rattle.sg_recovery.specs.Log.Record.{Change, TopEnd, PhysComp, TopVoid, CompEnd, Commit, End}
use Rattle.sg_recovery.specs.Stands.{settled, wanted, wants_one, HasPages}
use Rattle.sg_recovery.specs.Keeps.{Reverts, top_of}
use Rattle.sg_recovery.proofs.Appending.{phys_comp_settled}
use Rattle.sg_recovery.proofs.Basic.{some_one}

-- fewer notes want fewer pages
pub wanted_less : (s : Setting) (p : Top s.C s.N → Bool) (ns : List (Top s.C s.N)) → wanted s (filter p ns) ≤ wanted s ns
wanted_less s p [] = le_refl 0
wanted_less s p (n ∷ ns) = by_test (p n) (s.wants n.note) (wanted_less s p ns)
  where
    one : (c : Bool) (a b : ℕ) → a ≤ b → cond c (a + 1) a ≤ cond c (b + 1) b
    one true a b h = omega arith
    one false a b h = h

    more : (c : Bool) (a b : ℕ) → a ≤ b → a ≤ cond c (b + 1) b
    more true a b h = omega arith
    more false a b h = h

    by_test : (b c : Bool) → wanted s (filter p ns) ≤ wanted s ns → wanted s (cond b (n ∷ filter p ns) (filter p ns)) ≤ cond (s.wants n.note) (wanted s ns + 1) (wanted s ns)
    by_test true c h = one (s.wants n.note) (wanted s (filter p ns)) (wanted s ns) h
    by_test false c h = more (s.wants n.note) (wanted s (filter p ns)) (wanted s ns) h

pub wanted_but : (s : Setting) (later : List (Top s.C s.N)) (n : Top s.C s.N) (rest : List (Top s.C s.N)) → wanted s (later ++ n ∷ rest) ≡ wanted s (later ++ rest) + wants_one s n
wanted_but s [] n rest = by_test (s.wants n.note)
  where
    by_test : (c : Bool) → cond c (wanted s rest + 1) (wanted s rest) ≡ wanted s rest + cond c 1 0
    by_test true = refl
    by_test false = omega arith
wanted_but s (m ∷ later) n rest = by_test (s.wants m.note) (wanted_but s later n rest)
  where
    by_test : (c : Bool) → wanted s (later ++ n ∷ rest) ≡ wanted s (later ++ rest) + wants_one s n → cond c (wanted s (later ++ n ∷ rest) + 1) (wanted s (later ++ n ∷ rest)) ≡ cond c (wanted s (later ++ rest) + 1) (wanted s (later ++ rest)) + wants_one s n
    by_test true h = omega arith
    by_test false h = h

pub change_pages : (s : Setting) (l t p : ℕ) (c : s.C) (k : Tally s.C s.N) (x : s.X) → Reverts s k.opened x (record { lsn = l; transaction = t; change = c }) → HasPages s k x → HasPages s (said l (Change t p c) k) (s.apply x c)
change_pages s l t p c k x h pages o is = pages o (sym h ∙ is)

-- a top-end: the pages that were free, less those that its action took, still are enough
pub top_end_pages : (s : Setting) (l t p u : ℕ) (n : s.N) (k : Tally s.C s.N) (x : s.X) → open_not_of t k.opened ≡ []
    → ((o : s.O) → s.reading x ≡ Some o → wanted s (top_of s l t u n k.opened ∷ k.notes) ≤ s.free o) → HasPages s (said l (TopEnd t p u n) k) x
top_end_pages s l t p u n k x alone enough o is =
    le_trans (by_test (is_in t k.live)) (enough o (subst (λ ds. settled s ds x ≡ Some o) alone is))
  where
    by_test : (b : Bool) → wanted s (cond b (top_of s l t u n k.opened ∷ k.notes) k.notes) ≤ wanted s (top_of s l t u n k.opened ∷ k.notes)
    by_test true = le_refl (wanted s (top_of s l t u n k.opened ∷ k.notes))
    by_test false = more (s.wants n)
      where
        more : (c : Bool) → wanted s k.notes ≤ cond c (wanted s k.notes + 1) (wanted s k.notes)
        more true = omega arith
        more false = le_refl (wanted s k.notes)

-- a comp-end: its action took a page only where its note wants one
pub comp_end_pages : (s : Setting) (l t p u : ℕ) (later : List (Top s.C s.N)) (n : Top s.C s.N) (rest : List (Top s.C s.N)) (k : Tally s.C s.N) (x : s.X) (old : s.O)
    → k.notes ≡ later ++ n ∷ rest → notes_up_to t u (later ++ n ∷ rest) ≡ later ++ rest → open_not_of t k.opened ≡ [] → settled s k.opened x ≡ Some old
    → ((o : s.O) → s.reading x ≡ Some o → s.free old ≤ s.free o + wants_one s n) → HasPages s k x → HasPages s (said l (CompEnd t p u) k) x
comp_end_pages s l t p u later n rest k x old notes left alone was took pages o is =
    let less : wanted s (notes_up_to t u k.notes) ≡ wanted s (later ++ rest) = ap (wanted s) (ap (notes_up_to t u) notes ∙ left) in
    let before : wanted s (later ++ n ∷ rest) ≤ s.free old = subst (λ ns. wanted s ns ≤ s.free old) notes (pages old was) in
    let free = took o (subst (λ ds. settled s ds x ≡ Some o) alone is) in
    subst (λ a. a ≤ s.free o) (sym less) (enough (wanted s (later ++ rest)) (wants_one s n) (s.free old) (s.free o) (subst (λ a. a ≤ s.free old) (wanted_but s later n rest) before) free)
  where
    enough : (a b c d : ℕ) → a + b ≤ c → c ≤ d + b → a ≤ d
    enough a b c d h k = omega arith

-- an end, a commit, a top-void
pub end_pages : (s : Setting) (l t p : ℕ) (k : Tally s.C s.N) (x : s.X) → HasPages s k x → HasPages s (said l (End t p) k) x
end_pages s l t p k x pages o is = le_trans (wanted_less s (λ n. not (n.transaction == t)) k.notes) (pages o is)

pub commit_pages : (s : Setting) (l t p : ℕ) (k : Tally s.C s.N) (x : s.X) → HasPages s k x → HasPages s (said l (Commit t p) k) x
commit_pages s l t p k x pages o is = le_trans (wanted_less s (λ n. not (n.transaction == t)) k.notes) (pages o is)

pub top_void_pages : (s : Setting) (l t p u : ℕ) (k : Tally s.C s.N) (x : s.X) → open_not_of t k.opened ≡ k.opened → HasPages s k x → HasPages s (said l (TopVoid t p u) k) x
top_void_pages s l t p u k x e pages o is = pages o (subst (λ ds. settled s ds x ≡ Some o) e is)

-- a phys-comp
pub phys_comp_pages : (s : Setting) (l t p u : ℕ) (d : Open s.C) (ds : List (Open s.C)) (k : Tally s.C s.N) (x : s.X) (old : s.O) → k.opened ≡ d ∷ ds → open_up_to t u (d ∷ ds) ≡ ds → settled s k.opened x ≡ Some old
    → HasPages s k x → HasPages s (said l (PhysComp t p u (s.inverse d.change)) k) (s.apply x (s.inverse d.change))
phys_comp_pages s l t p u d ds k x old is rest was pages o now =
    let there : settled s ds (s.apply x (s.inverse d.change)) ≡ Some old = phys_comp_settled s d ds x old (subst (λ e. settled s e x ≡ Some old) is was) in
    let here : settled s ds (s.apply x (s.inverse d.change)) ≡ Some o = subst (λ e. settled s e (s.apply x (s.inverse d.change)) ≡ Some o) (ap (open_up_to t u) is ∙ rest) now in
    subst (λ a. wanted s k.notes ≤ s.free a) (some_one old o (sym there ∙ here)) (pages old was)
