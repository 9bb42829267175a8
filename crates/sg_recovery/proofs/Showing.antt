-- What each step of a running store does to what it shows.
use Rattle.std.proofs.Common.{◌≡◌, ℕ, ◌<◌, ◌≤◌, ◌==◌, nat_le, arith, Bool, true, false, cond, not, ◌&&◌, ◌||◌, List, [], ◌∷◌, ◌++◌, filter, Some, refl, sym, ap, ◌∙◌, subst}
use Rattle.sg_recovery.specs.Setting.{Setting}
use Rattle.sg_recovery.specs.Log.{is_in, without}
use Rattle.sg_recovery.specs.Laws.{Each, Note, goes_back, all_gone_back, Carries, Laws, Swaps, Passes}
use Rattle.sg_recovery.specs.Shows.{Entry, Choice, IsUpward, IsOf, picked, left, all_live, from_on, live_after, Shows, kept}
use Rattle.sg_recovery.proofs.Basic.{then_of, cond_true, cond_false, each_more, each_filter, each_kept, filter_all, filter_same, filter_filter, filter_append, not_true, true_or_false, and_left, and_right, or_left, or_right, or_cases, or_false, not_or, same_number, number_is, other_number, le_is, le_true, le_false}
use Rattle.sg_recovery.proofs.Undoing.{carried, back_above, undone_first}

not_of_true : (b : Bool) → b ≡ true → not b ≡ false
not_of_true b e = ap not e

not_of_false : (b : Bool) → b ≡ false → not b ≡ true
not_of_false b e = ap not e

no_true : {P : Type 0} (b : Bool) → b ≡ false → b ≡ true → P
no_true b e h = absurd (cc)

-- a note of another than the transaction, or of it below the LSN where the choice begins
picked_pass : (s : Setting) (f : Choice) (t l : ℕ) (v : s.V) (ns : List (Note s)) → IsUpward f → f t l ≡ false
    → Each (λ n. (n.lsn ≤ l) × ((n.transaction ≡ t → ⊥) → Passes s v n)) ns → Each (Passes s v) (picked s f ns)
picked_pass s f t l v ns up off h =
    each_kept (λ (n : Note s). (n.lsn ≤ l) × ((n.transaction ≡ t → ⊥) → Passes s v n)) (Passes s v) (λ n. f n.transaction n.lsn) ns
    (λ n p is. p.1 (λ same. no_true (f t l) off (up t n.lsn l p.0 (subst (λ u. f u n.lsn ≡ true) same is)))) h

-- a choice's result, for lists that are the chosen ones
shown : (s : Setting) (first : s.S) (ns ms : List (Note s)) (h g : List (Entry s.V)) (now q : s.O) → ms ≡ ns → g ≡ h → all_gone_back s ns now ≡ Some q → s.objects q ≡ live_after s first h
    → (r : s.O) × (all_gone_back s ms now ≡ Some r) × (s.objects r ≡ live_after s first g)
shown s first ns ms h g now q e d is same = (q, ap (λ (l : List (Note s)). all_gone_back s l now) e ∙ is, same ∙ sym (ap (live_after s first) d))

-- the entry is undone with its note, or it is not and no note of its transaction is
pub verb_shows : (s : Setting) → Laws s → (first : s.S) (live : List ℕ) (ns : List (Note s)) (h : List (Entry s.V)) (o now back : s.O) (n : Note s) (v : s.V)
    → Shows s first live ns h o → s.After v o now → goes_back s n now ≡ Some back → s.Below o back → Each (λ m. (m.lsn ≤ n.lsn) × ((m.transaction ≡ n.transaction → ⊥) → Passes s v m)) ns
    → Shows s first live (n ∷ ns) (record { transaction = n.transaction; at = n.lsn; verb = v } ∷ h) now
verb_shows s w first live ns h o now back n v shows after undone above pass f up of =
    true_or_false (f n.transaction n.lsn) Goal chosen spared
  where
    e : Entry s.V
    e = record { transaction = n.transaction; at = n.lsn; verb = v }

    Goal : Type 0
    Goal = (q : s.O) × (all_gone_back s (picked s f (n ∷ ns)) now ≡ Some q) × (s.objects q ≡ live_after s first (left f (e ∷ h)))

    chosen : f n.transaction n.lsn ≡ true → Goal
    chosen is =
        let a = shows f up of in
        let b = back_above s w (picked s f ns) o back a.0 above a.1 in
        shown s first (n ∷ picked s f ns) (picked s f (n ∷ ns)) (left f h) (left f (e ∷ h)) now b.0
        (cond_true (f n.transaction n.lsn) (n ∷ picked s f ns) (picked s f ns) is) (cond_false (not (f n.transaction n.lsn)) (e ∷ left f h) (left f h) (not_of_true (f n.transaction n.lsn) is))
        (then_of (goes_back s n now) (all_gone_back s (picked s f ns)) back undone ∙ b.1) (sym (w.below_objects a.0 b.0 b.2) ∙ a.2)

    spared : f n.transaction n.lsn ≡ false → Goal
    spared is =
        let a = shows f up of in
        let b = carried (goes_back s) (s.After v) (picked s f ns) (picked_pass s f n.transaction n.lsn v ns up is pass) o now a.0 after a.1 in
        shown s first (picked s f ns) (picked s f (n ∷ ns)) (e ∷ left f h) (left f (e ∷ h)) now b.0
        (cond_false (f n.transaction n.lsn) (n ∷ picked s f ns) (picked s f ns) is) (cond_true (not (f n.transaction n.lsn)) (e ∷ left f h) (left f h) (not_of_false (f n.transaction n.lsn) is))
        b.1 (w.after_objects v a.0 b.0 b.2 ∙ ap (λ (m : s.S). s.step m v) a.2)

-- a verb that logs nothing, and a refused one, is an entry without a note
pub looked_shows : (s : Setting) → Laws s → (first : s.S) (live : List ℕ) (ns : List (Note s)) (h : List (Entry s.V)) (o : s.O) (t at : ℕ) (v : s.V)
    → Shows s first live ns h o → s.After v o o → Each (λ m. (m.lsn ≤ at) × ((m.transaction ≡ t → ⊥) → Passes s v m)) ns
    → Shows s first live ns (record { transaction = t; at = at; verb = v } ∷ h) o
looked_shows s w first live ns h o t at v shows after pass f up of =
    true_or_false (f t at) Goal chosen spared
  where
    e : Entry s.V
    e = record { transaction = t; at = at; verb = v }

    Goal : Type 0
    Goal = (q : s.O) × (all_gone_back s (picked s f ns) o ≡ Some q) × (s.objects q ≡ live_after s first (left f (e ∷ h)))

    chosen : f t at ≡ true → Goal
    chosen is =
        let a = shows f up of in
        shown s first (picked s f ns) (picked s f ns) (left f h) (left f (e ∷ h)) o a.0 refl (cond_false (not (f t at)) (e ∷ left f h) (left f h) (not_of_true (f t at) is)) a.1 a.2

    spared : f t at ≡ false → Goal
    spared is =
        let a = shows f up of in
        let b = carried (goes_back s) (s.After v) (picked s f ns) (picked_pass s f t at v ns up is pass) o o a.0 after a.1 in
        shown s first (picked s f ns) (picked s f ns) (e ∷ left f h) (left f (e ∷ h)) o b.0 refl (cond_true (not (f t at)) (e ∷ left f h) (left f h) (not_of_false (f t at) is))
        b.1 (w.after_objects v a.0 b.0 b.2 ∙ ap (λ (m : s.S). s.step m v) a.2)

pub each_all : {A : Type 0} (P : A → Type 0) (xs : List A) → ((x : A) → P x) → Each P xs
each_all P [] f = tt
each_all P (x ∷ xs) f = (f x, each_all P xs f)

and_of : (a b : Bool) → a ≡ true → b ≡ true → (a && b) ≡ true
and_of true b h k = k
and_of false b h k = absurd (cc)

and_same : (a b : Bool) → (a ≡ true → b ≡ true) → (a && b) ≡ a
and_same true b f = f refl
and_same false b f = refl

-- a transaction that begins has no notes and no entries
pub begin_shows : (s : Setting) (first : s.S) (live : List ℕ) (ns : List (Note s)) (h : List (Entry s.V)) (o : s.O) (t : ℕ)
    → Shows s first live ns h o → Each (λ n. n.transaction ≡ t → ⊥) ns → Each (λ e. e.transaction ≡ t → ⊥) h → Shows s first (t ∷ live) ns h o
begin_shows s first live ns h o t shows none nobody f up of =
    let a = shows g g_up g_of in
    shown s first (picked s g ns) (picked s f ns) (left g h) (left f h) o a.0
    (filter_same (λ n. f n.transaction n.lsn) (λ n. g n.transaction n.lsn) ns (each_more (λ n. n.transaction ≡ t → ⊥) (λ n. f n.transaction n.lsn ≡ g n.transaction n.lsn) ns (λ n ne. agree n.transaction n.lsn ne) none))
    (filter_same (λ e. not (f e.transaction e.at)) (λ e. not (g e.transaction e.at)) h (each_more (λ e. e.transaction ≡ t → ⊥) (λ e. not (f e.transaction e.at) ≡ not (g e.transaction e.at)) h (λ e ne. ap not (agree e.transaction e.at ne)) nobody))
    a.1 a.2
  where
    g : Choice
    g u a = f u a && not (u == t)

    g_up : IsUpward g
    g_up u a b le is = and_of (f u b) (not (u == t)) (up u a b le (and_left (f u a) (not (u == t)) is)) (and_right (f u a) (not (u == t)) is)

    g_of : IsOf live g
    g_of u a is =
        let other : (u == t) ≡ false = not_true (u == t) (and_right (f u a) (not (u == t)) is) in
        or_cases (t == u) (is_in u live) (is_in u live ≡ true) (of u a (and_left (f u a) (not (u == t)) is))
        (λ same. no_true (u == t) other (subst (λ z. (u == z) ≡ true) (sym (number_is t u same)) (same_number u)))
        (λ h. h)

    agree : (u a : ℕ) → (u ≡ t → ⊥) → f u a ≡ g u a
    agree u a ne = sym (and_same (f u a) (not (u == t)) (λ is. not_of_false (u == t) (other_number u t ne)))

-- those without a transaction
pub without_not : (t : ℕ) (live : List ℕ) → is_in t (without t live) ≡ false
without_not t [] = refl
without_not t (u ∷ live) = by_test (u == t) refl (without_not t live)
  where
    by_test : (b : Bool) → (u == t) ≡ b → is_in t (without t live) ≡ false → is_in t (cond (not b) (u ∷ without t live) (without t live)) ≡ false
    by_test true e ih = ih
    by_test false e ih = ap (λ c. c || is_in t (without t live)) e ∙ ih

pub without_in : (t u : ℕ) (live : List ℕ) → is_in u (without t live) ≡ true → is_in u live ≡ true
without_in t u [] h = h
without_in t u (a ∷ live) h = by_test (not (a == t)) h (without_in t u live)
  where
    by_test : (b : Bool) → is_in u (cond b (a ∷ without t live) (without t live)) ≡ true → (is_in u (without t live) ≡ true → is_in u live ≡ true) → (a == u || is_in u live) ≡ true
    by_test true k ih = or_cases (a == u) (is_in u (without t live)) ((a == u || is_in u live) ≡ true) k (λ e. or_left (a == u) (is_in u live) e) (λ e. or_right (a == u) (is_in u live) (ih e))
    by_test false k ih = or_right (a == u) (is_in u live) (ih k)

-- those of them that are another
pub without_same : (t u : ℕ) (live : List ℕ) → (u ≡ t → ⊥) → is_in u (without t live) ≡ is_in u live
without_same t u [] ne = refl
without_same t u (a ∷ live) ne = by_test (a == t) refl (without_same t u live ne)
  where
    by_test : (b : Bool) → (a == t) ≡ b → is_in u (without t live) ≡ is_in u live → is_in u (cond (not b) (a ∷ without t live) (without t live)) ≡ (a == u || is_in u live)
    by_test true e ih =
        let at : a ≡ t = number_is a t e in
        let other : (a == u) ≡ false = other_number a u (λ same. ne (sym same ∙ at)) in
        ih ∙ sym (ap (λ c. c || is_in u live) other)
    by_test false e ih = ap (λ c. a == u || c) ih

-- what an ended transaction leaves
of_fewer : (t : ℕ) (live : List ℕ) (f : Choice) → IsOf (without t live) f → IsOf live f
of_fewer t live f of u a is = without_in t u live (of u a is)

-- the notes of others
abbrev pub others : (s : Setting) → ℕ → List (Note s) → List (Note s)
others s t ns = filter (λ n. not (n.transaction == t)) ns

-- a committed transaction is undone no more
pub commit_shows : (s : Setting) (first : s.S) (live : List ℕ) (ns : List (Note s)) (h : List (Entry s.V)) (o : s.O) (t : ℕ) → Shows s first live ns h o → Shows s first (without t live) (others s t ns) h o
commit_shows s first live ns h o t shows f up of =
    let a = shows f up (of_fewer t live f of) in
    shown s first (picked s f ns) (picked s f (others s t ns)) (left f h) (left f h) o a.0
    (filter_filter (λ n. f n.transaction n.lsn) (λ n. not (n.transaction == t)) ns ∙ filter_same (λ n. f n.transaction n.lsn && not (n.transaction == t)) (λ n. f n.transaction n.lsn) ns (each_all (λ n. (f n.transaction n.lsn && not (n.transaction == t)) ≡ f n.transaction n.lsn) ns (λ n. and_same (f n.transaction n.lsn) (not (n.transaction == t)) (other n.transaction n.lsn))))
    refl a.1 a.2
  where
    other : (u a : ℕ) → f u a ≡ true → not (u == t) ≡ true
    other u a is = not_of_false (u == t) (other_number u t (λ same. no_true (is_in t (without t live)) (without_not t live) (of t a (subst (λ z. f z a ≡ true) same is))))

-- a transaction that ends without notes
pub end_shows : (s : Setting) (first : s.S) (live : List ℕ) (ns : List (Note s)) (h : List (Entry s.V)) (o : s.O) (t : ℕ) → Shows s first live ns h o → Shows s first (without t live) ns h o
end_shows s first live ns h o t shows f up of = shows f up (of_fewer t live f of)

-- what is chosen too, from an LSN on
module _ (s : Setting) (live : List ℕ) (t b : ℕ) (f : Choice) where
  abbrev more : Choice
  more u a = f u a || from_on t b u a

  more_up : IsUpward f → IsUpward more
  more_up up u a c le is =
      or_cases (f u a) (from_on t b u a) (more u c ≡ true) is
      (λ e. or_left (f u c) (from_on t b u c) (up u a c le e))
      (λ e. or_right (f u c) (from_on t b u c) (and_of (u == t) (nat_le b c) (and_left (u == t) (nat_le b a) e) (le_true b c (further (le_is b a (and_right (u == t) (nat_le b a) e)) le))))
    where
      further : b ≤ a → a ≤ c → b ≤ c
      further h k = omega arith

  more_of : is_in t live ≡ true → IsOf live f → IsOf live more
  more_of is of u a h =
      or_cases (f u a) (from_on t b u a) (is_in u live ≡ true) h (of u a) (λ e. subst (λ z. is_in z live ≡ true) (sym (number_is u t (and_left (u == t) (nat_le b a) e))) is)

  more_left : (h : List (Entry s.V)) → left f (left (from_on t b) h) ≡ left more h
  more_left h =
      filter_filter (λ e. not (f e.transaction e.at)) (λ e. not (from_on t b e.transaction e.at)) h
      ∙ filter_same (λ e. not (f e.transaction e.at) && not (from_on t b e.transaction e.at)) (λ e. not (more e.transaction e.at)) h (each_all (λ e. (not (f e.transaction e.at) && not (from_on t b e.transaction e.at)) ≡ not (more e.transaction e.at)) h (λ e. sym (not_or (f e.transaction e.at) (from_on t b e.transaction e.at))))

  -- notes that the choice has no more of
  more_same : (u a : ℕ) → (u ≡ t → a < b) → more u a ≡ f u a
  more_same u a low = or_false (f u a) (from_on t b u a) (by_test (u == t) refl)
    where
      by_test : (c : Bool) → (u == t) ≡ c → (c && nat_le b a) ≡ false
      by_test true e = le_false b a (low (number_is u t e))
      by_test false e = refl

-- Undone from an LSN on, where no note stands from there on: the entries there logged nothing.
pub forget_shows : (s : Setting) (first : s.S) (live : List ℕ) (ns : List (Note s)) (h : List (Entry s.V)) (o : s.O) (t b : ℕ) → is_in t live ≡ true
    → Each (λ n. n.transaction ≡ t → n.lsn < b) ns → Shows s first live ns h o → Shows s first live ns (left (from_on t b) h) o
forget_shows s first live ns h o t b is low shows f up of =
    let g = more s live t b f in
    let a = shows g (more_up s live t b f up) (more_of s live t b f is of) in
    shown s first (picked s g ns) (picked s f ns) (left g h) (left f (left (from_on t b) h)) o a.0
    (filter_same (λ n. f n.transaction n.lsn) (λ n. g n.transaction n.lsn) ns (each_more (λ n. n.transaction ≡ t → n.lsn < b) (λ n. f n.transaction n.lsn ≡ g n.transaction n.lsn) ns (λ n le. sym (more_same s live t b f n.transaction n.lsn le)) low))
    (more_left s live t b f h) a.1 a.2

-- a transaction's last note is undone, and it changes places with the later ones of others
pub undo_shows : (s : Setting) → Laws s → (first : s.S) (live : List ℕ) (later : List (Note s)) (n : Note s) (rest : List (Note s)) (h : List (Entry s.V)) (o now : s.O)
    → is_in n.transaction live ≡ true → Each (λ m. (m.transaction ≡ n.transaction → ⊥) × Swaps s m n) later → Each (λ m. m.lsn < n.lsn) rest → ((back : s.O) → goes_back s n o ≡ Some back → s.Below back now)
    → Shows s first live (later ++ n ∷ rest) h o → Shows s first live (later ++ rest) (left (from_on n.transaction n.lsn) h) now
undo_shows s w first live later n rest h o now is others low undone shows f up of =
    let g = more s live n.transaction n.lsn f in
    let a = shows g (more_up s live n.transaction n.lsn f up) (more_of s live n.transaction n.lsn f is of) in
    let back_same : picked s g rest ≡ picked s f rest = filter_same (λ m. g m.transaction m.lsn) (λ m. f m.transaction m.lsn) rest (each_more (λ m. m.lsn < n.lsn) (λ m. g m.transaction m.lsn ≡ f m.transaction m.lsn) rest (λ m le. more_same s live n.transaction n.lsn f m.transaction m.lsn (λ e. le)) low) in
    let front_same : picked s g later ≡ picked s f later = filter_same (λ m. g m.transaction m.lsn) (λ m. f m.transaction m.lsn) later (each_more (λ m. (m.transaction ≡ n.transaction → ⊥) × Swaps s m n) (λ m. g m.transaction m.lsn ≡ f m.transaction m.lsn) later (λ m p. more_same s live n.transaction n.lsn f m.transaction m.lsn (λ e. absurd (p.0 e))) others) in
    let taken : g n.transaction n.lsn ≡ true = or_right (f n.transaction n.lsn) (from_on n.transaction n.lsn n.transaction n.lsn) (and_of (n.transaction == n.transaction) (nat_le n.lsn n.lsn) (same_number n.transaction) (le_true n.lsn n.lsn (omega arith))) in
    let mid : picked s g (n ∷ rest) ≡ n ∷ picked s f rest = cond_true (g n.transaction n.lsn) (n ∷ picked s g rest) (picked s g rest) taken ∙ ap (λ l. n ∷ l) back_same in
    let all : picked s g (later ++ n ∷ rest) ≡ picked s f later ++ n ∷ picked s f rest =
    filter_append (λ m. g m.transaction m.lsn) later (n ∷ rest) ∙ (ap (λ l. l ++ picked s g (n ∷ rest)) front_same ∙ ap (λ l. picked s f later ++ l) mid) in
    let swaps : Each (λ m. Swaps s m n) (picked s f later) = each_filter (λ m. Swaps s m n) (λ m. f m.transaction m.lsn) later (each_more (λ m. (m.transaction ≡ n.transaction → ⊥) × Swaps s m n) (λ m. Swaps s m n) later (λ m p. p.1) others) in
    let c = undone_first s w (picked s f later) n (picked s f rest) swaps o a.0 (ap (λ (l : List (Note s)). all_gone_back s l o) (sym all) ∙ a.1) in
    let d = back_above s w (picked s f later ++ picked s f rest) c.mid now c.end (undone c.mid c.undone) c.others in
    shown s first (picked s f later ++ picked s f rest) (picked s f (later ++ rest)) (left g h) (left f (left (from_on n.transaction n.lsn) h)) now d.0
    (filter_append (λ m. f m.transaction m.lsn) later rest) (more_left s live n.transaction n.lsn f h) d.1
    (sym (w.below_objects a.0 d.0 (w.below_trans a.0 c.end d.0 c.above d.2)) ∙ a.2)

-- the system has freed what is buried
pub freed_shows : (s : Setting) → Laws s → (first : s.S) (live : List ℕ) (ns : List (Note s)) (h : List (Entry s.V)) (o now : s.O) (tombs : s.W) → s.Freed tombs o now → Each (Carries s (s.Freed tombs)) ns
    → Shows s first live ns h o → Shows s first live ns h now
freed_shows s w first live ns h o now tombs freed pass shows f up of =
    let a = shows f up of in
    let b = carried (goes_back s) (s.Freed tombs) (picked s f ns) (each_filter (Carries s (s.Freed tombs)) (λ n. f n.transaction n.lsn) ns pass) o now a.0 freed a.1 in
    (b.0, b.1, sym (w.freed_objects tombs a.0 b.0 b.2) ∙ a.2)

-- A crash now: with all notes of the live transactions undone there is what the others' entries give.
pub crash_shows : (s : Setting) (first : s.S) (live : List ℕ) (ns : List (Note s)) (h : List (Entry s.V)) (o : s.O) → Shows s first live ns h o → Each (λ n. is_in n.transaction live ≡ true) ns
    → (q : s.O) × (all_gone_back s ns o ≡ Some q) × (s.objects q ≡ kept s first live h)
crash_shows s first live ns h o shows owned =
    let a = shows (all_live live) (λ t a b le is. is) (λ t a is. is) in
    (a.0, ap (λ (l : List (Note s)). all_gone_back s l o) (sym (filter_all (λ n. is_in n.transaction live) ns owned)) ∙ a.1, a.2)

-- what the steps do to the entries of those that aren't live
pub kept_entry : (s : Setting) (first : s.S) (live : List ℕ) (e : Entry s.V) (h : List (Entry s.V)) → is_in e.transaction live ≡ true → kept s first live (e ∷ h) ≡ kept s first live h
kept_entry s first live e h is = ap (live_after s first) (cond_false (not (is_in e.transaction live)) (e ∷ left (all_live live) h) (left (all_live live) h) (not_of_true (is_in e.transaction live) is))

pub kept_undone : (s : Setting) (first : s.S) (live : List ℕ) (t b : ℕ) (h : List (Entry s.V)) → is_in t live ≡ true → kept s first live (left (from_on t b) h) ≡ kept s first live h
kept_undone s first live t b h is =
    ap (live_after s first) (filter_filter (λ e. not (is_in e.transaction live)) (λ e. not (from_on t b e.transaction e.at)) h
    ∙ filter_same (λ e. not (is_in e.transaction live) && not (from_on t b e.transaction e.at)) (λ e. not (is_in e.transaction live)) h
    (each_all (λ e. (not (is_in e.transaction live) && not (from_on t b e.transaction e.at)) ≡ not (is_in e.transaction live)) h (λ e. and_same (not (is_in e.transaction live)) (not (from_on t b e.transaction e.at)) (other e.transaction e.at))))
  where
    other : (u a : ℕ) → not (is_in u live) ≡ true → not (from_on t b u a) ≡ true
    other u a h = not_of_false (from_on t b u a) (by_test (u == t) refl)
      where
        by_test : (c : Bool) → (u == t) ≡ c → (c && nat_le b a) ≡ false
        by_test true e = no_true (is_in u live) (not_true (is_in u live) h) (subst (λ z. is_in z live ≡ true) (sym (number_is u t e)) is)
        by_test false e = refl

pub kept_begun : (s : Setting) (first : s.S) (live : List ℕ) (t : ℕ) (h : List (Entry s.V)) → Each (λ e. e.transaction ≡ t → ⊥) h → kept s first (t ∷ live) h ≡ kept s first live h
kept_begun s first live t h none =
    ap (live_after s first) (filter_same (λ e. not (is_in e.transaction (t ∷ live))) (λ e. not (is_in e.transaction live)) h
    (each_more (λ e. e.transaction ≡ t → ⊥) (λ e. not (is_in e.transaction (t ∷ live)) ≡ not (is_in e.transaction live)) h (λ e ne. ap (λ c. not (c || is_in e.transaction live)) (other_number t e.transaction (λ is. ne (sym is)))) none))

pub kept_ended : (s : Setting) (first : s.S) (live : List ℕ) (t : ℕ) (h : List (Entry s.V)) → Each (λ e. e.transaction ≡ t → ⊥) h → kept s first (without t live) h ≡ kept s first live h
kept_ended s first live t h none =
    ap (live_after s first) (filter_same (λ e. not (is_in e.transaction (without t live))) (λ e. not (is_in e.transaction live)) h
    (each_more (λ e. e.transaction ≡ t → ⊥) (λ e. not (is_in e.transaction (without t live)) ≡ not (is_in e.transaction live)) h (λ e ne. ap not (without_same t e.transaction live ne)) none))

-- a transaction that isn't live any more
pub kept_over : (s : Setting) (first : s.S) (live : List ℕ) (t : ℕ) (h : List (Entry s.V)) → is_in t live ≡ false → kept s first (without t live) h ≡ kept s first live h
kept_over s first live t h over =
    ap (live_after s first) (filter_same (λ e. not (is_in e.transaction (without t live))) (λ e. not (is_in e.transaction live)) h
    (each_all (λ e. not (is_in e.transaction (without t live)) ≡ not (is_in e.transaction live)) h (λ e. ap not (by_test e.transaction (e.transaction == t) refl))))
  where
    differ : (c : Bool) → c ≡ false → c ≡ true → ⊥
    differ c x y = absurd (cc)

    by_test : (u : ℕ) (b : Bool) → (u == t) ≡ b → is_in u (without t live) ≡ is_in u live
    by_test u true e = subst (λ a. is_in a (without t live) ≡ is_in a live) (sym (number_is u t e)) (without_not t live ∙ sym over)
    by_test u false e = without_same t u live (λ is. differ (u == t) e (subst (λ a. (u == a) ≡ true) is (same_number u)))
