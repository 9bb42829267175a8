-- A rollback: its notes can be undone one by one, and the entries are then those before the mark.
use Rattle.std.proofs.Common.{◌≡◌, ℕ, ◌<◌, ◌≤◌, ◌==◌, nat_le, arith, Bool, true, false, not, ◌&&◌, List, [], ◌∷◌, ◌++◌, filter, Option, Some, None, refl, sym, ap, ◌∙◌, subst, le_refl}
use Rattle.sg_recovery.specs.Setting.{Setting}
use Rattle.sg_recovery.specs.Log.{is_in}
use Rattle.sg_recovery.specs.Stands.{undoes}
use Rattle.sg_recovery.specs.Laws.{Each, Note, bare, goes_back, all_gone_back}
use Rattle.sg_recovery.specs.Shows.{Entry, Choice, IsUpward, IsOf, picked, left, from_on, behind, is_behind, live_after, Shows}
use Rattle.sg_recovery.proofs.Basic.{then_some, some_one, cond_true, each_more, filter_none, filter_append, filter_filter, filter_same, and_left, and_right, lt_is, lt_true, same_number, number_is, other_number, le_is, le_true, le_false}
use Rattle.sg_recovery.proofs.Undoing.{back_undoes}
use Rattle.sg_recovery.proofs.Showing.{each_all}

and_of : (a b : Bool) → a ≡ true → b ≡ true → (a && b) ≡ true
and_of true b h k = k
and_of false b h k = absurd (cc)

-- The last note of a live transaction can be undone now, whatever later notes of others stand.
pub last_can : (s : Setting) (first : s.S) (live : List ℕ) (later : List (Note s)) (n : Note s) (rest : List (Note s)) (h : List (Entry s.V)) (o : s.O) → Shows s first live (later ++ n ∷ rest) h o → is_in n.transaction live ≡ true
    → Each (λ m. m.transaction ≡ n.transaction → ⊥) later → Each (λ m. m.lsn < n.lsn) rest → (p : s.O) × (undoes s (bare s n) o ≡ Some p)
last_can s first live later n rest h o shows is others low =
    let f : Choice = from_on n.transaction n.lsn in
    let a = shows f up of in
    let front : picked s f later ≡ [] = filter_none (λ m. f m.transaction m.lsn) later (each_more (λ m. m.transaction ≡ n.transaction → ⊥) (λ m. f m.transaction m.lsn ≡ false) later (λ m ne. ap (λ b. b && nat_le n.lsn m.lsn) (other_number m.transaction n.transaction ne)) others) in
    let back : picked s f rest ≡ [] = filter_none (λ m. f m.transaction m.lsn) rest (each_more (λ m. m.lsn < n.lsn) (λ m. f m.transaction m.lsn ≡ false) rest (λ m lt. none (m.transaction == n.transaction) (nat_le n.lsn m.lsn) (le_false n.lsn m.lsn lt)) low) in
    let mid : f n.transaction n.lsn ≡ true = and_of (n.transaction == n.transaction) (nat_le n.lsn n.lsn) (same_number n.transaction) (le_true n.lsn n.lsn (le_refl n.lsn)) in
    let all : picked s f (later ++ n ∷ rest) ≡ n ∷ [] =
    filter_append (λ m. f m.transaction m.lsn) later (n ∷ rest) ∙ (ap (λ l. l ++ picked s f (n ∷ rest)) front ∙ (cond_true (f n.transaction n.lsn) (n ∷ picked s f rest) (picked s f rest) mid ∙ ap (λ l. n ∷ l) back)) in
    let b = then_some (goes_back s n o) (all_gone_back s []) a.0 (ap (λ (l : List (Note s)). all_gone_back s l o) (sym all) ∙ a.1) in
    (b.0, back_undoes s n o b.0 b.1)
  where
    none : (a b : Bool) → b ≡ false → (a && b) ≡ false
    none true b e = e
    none false b e = refl

    further : (b a c : ℕ) → b ≤ a → a ≤ c → b ≤ c
    further b a c h k = omega arith

    up : IsUpward (from_on n.transaction n.lsn)
    up u a c le z = and_of (u == n.transaction) (nat_le n.lsn c) (and_left (u == n.transaction) (nat_le n.lsn a) z) (le_true n.lsn c (further n.lsn a c (le_is n.lsn a (and_right (u == n.transaction) (nat_le n.lsn a) z)) le))

    of : IsOf live (from_on n.transaction n.lsn)
    of u a z = subst (λ v. is_in v live ≡ true) (sym (number_is u n.transaction (and_left (u == n.transaction) (nat_le n.lsn a) z))) is

-- What is left from an earlier point on is what is left from there on alone.
pub left_twice : (s : Setting) (t a b : ℕ) (h : List (Entry s.V)) → a ≤ b → left (from_on t a) (left (from_on t b) h) ≡ left (from_on t a) h
left_twice s t a b h le =
    filter_filter (λ e. not (from_on t a e.transaction e.at)) (λ e. not (from_on t b e.transaction e.at)) h
    ∙ filter_same (λ e. not (from_on t a e.transaction e.at) && not (from_on t b e.transaction e.at)) (λ e. not (from_on t a e.transaction e.at)) h
    (each_all (λ e. (not (from_on t a e.transaction e.at) && not (from_on t b e.transaction e.at)) ≡ not (from_on t a e.transaction e.at)) h (λ e. by_test (e.transaction == t) e.at))
  where
    by_le : (u : ℕ) (p q : Bool) → nat_le a u ≡ p → nat_le b u ≡ q → (not p && not q) ≡ not p
    by_le u true q e f = refl
    by_le u false true e f = absurd (low (le_is b u f))
      where
        clash : (c : Bool) → c ≡ false → c ≡ true → ⊥
        clash c x y = absurd (cc)

        low : b ≤ u → ⊥
        low k = clash (nat_le a u) e (le_true a u (omega arith))
    by_le u false false e f = refl

    by_test : (c : Bool) (u : ℕ) → (not (c && nat_le a u) && not (c && nat_le b u)) ≡ not (c && nat_le a u)
    by_test true u = by_le u (nat_le a u) (nat_le b u) refl refl
    by_test false u = refl

-- The reading of a running store shows the objects after its whole history.
pub reading_shows : (s : Setting) (first : s.S) (live : List ℕ) (ns : List (Note s)) (h : List (Entry s.V)) (o : s.O) → Shows s first live ns h o → s.objects o ≡ live_after s first h
reading_shows s first live ns h o shows =
    let a = shows (λ t a. false) (λ t a b le z. z) (λ t a z. absurd (never z)) in
    let none : picked s (λ t a. false) ns ≡ [] = filter_none (λ n. false) ns (each_all (λ n. false ≡ false) ns (λ n. refl)) in
    let all : left (λ t a. false) h ≡ h = filter_true h in
    ap s.objects (some_one o a.0 (ap (λ (l : List (Note s)). all_gone_back s l o) (sym none) ∙ a.1)) ∙ (a.2 ∙ ap (live_after s first) all)
  where
    never : false ≡ true → ⊥
    never z = absurd (cc)

    filter_true : (g : List (Entry s.V)) → filter (λ e. true) g ≡ g
    filter_true [] = refl
    filter_true (e ∷ g) = ap (λ l. e ∷ l) (filter_true g)

-- Some transactions undone, each from its begin or from a mark on: what is left is the history without these entries.
pub marks_show : (s : Setting) (first : s.S) (live : List ℕ) (ns : List (Note s)) (h : List (Entry s.V)) (o : s.O) (from : ℕ → Option ℕ) → Shows s first live ns h o
    → ((t b : ℕ) → from t ≡ Some b → is_in t live ≡ true) → (q : s.O) × (all_gone_back s (picked s (behind from) ns) o ≡ Some q) × (s.objects q ≡ live_after s first (left (behind from) h))
marks_show s first live ns h o from shows of = shows (behind from) (λ t a b le z. up (from t) a b le z) (λ t a z. is_of t (from t) refl a z)
  where
    further : (c a b : ℕ) → c < a → a ≤ b → c < b
    further c a b x y = omega arith

    up : (m : Option ℕ) (a b : ℕ) → a ≤ b → is_behind m a ≡ true → is_behind m b ≡ true
    up None a b le z = z
    up (Some c) a b le z = lt_true c b (further c a b (lt_is c a z) le)

    is_of : (t : ℕ) (m : Option ℕ) → from t ≡ m → (a : ℕ) → is_behind m a ≡ true → is_in t live ≡ true
    is_of t None e a z = absurd (cc)
    is_of t (Some b) e a z = of t b e
