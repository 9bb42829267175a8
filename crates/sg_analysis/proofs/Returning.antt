-- What is kept of open changes and of standing notes, with one record more.
use Rattle.std.proofs.Common.{◌≡◌, ℕ, ◌<◌, ◌≤◌, ◌==◌, ◌||◌, ◌&&◌, nat_lt, Bool, true, false, cond, not, Some, None, List, [], ◌∷◌, map, filter, refl, sym, ap, ◌∙◌, subst, le_trans, le_of_lt, le_of_eq}
use Rattle.sg_record.specs.Changes.{Change as Changing}
use Rattle.sg_recovery.specs.Log.{Open, Top, Tally, said, tally, is_in, open_of, open_not_of, open_up_to, notes_of, notes_not_of, notes_up_to, changes_of}
use Rattle.sg_recovery.specs.Log.Record.{Begin, Change, TopEnd, PhysComp, TopVoid, CompEnd, Save, Commit, End}
use Rattle.sg_recovery.specs.Laws.{Each}
use Rattle.sg_recovery.specs.Shows.{Pairs}
use Rattle.sg_recovery.specs.Chains.{txn_of, border_of, Behind, Chains, IsStanding, Sound}
use Rattle.sg_recovery.proofs.Basic.{each_more, each_filter, each_kept, each_both, filter_all, filter_none, filter_filter, same_number, number_is, other_number, lt_true, lt_false, lt_not, or_right}
use Rattle.sg_recovery.proofs.Chaining.{clash}
use Rattle.sg_recovery.proofs.Running.{pairs_filter}
use Rattle.sg_recovery.proofs.Showing.{each_all}
use Rattle.sg_recovery.proofs.TakeOff.{own_none, own_of, of_up_to, other_open}
use Rattle.sg_analysis.specs.Sights.{Step, Steps, with_step}
use Rattle.sg_analysis.specs.Sights.Sight.{Stepped}
use Rattle.sg_analysis.specs.Firsts.{first, rest, cut_to}
use Rattle.sg_analysis.specs.Returns.{opens, returns, border_if, undoes_newest, goes_back, opens_behind, returns_behind}

abbrev Notes : Type 0
Notes = List (Top Changing (List ℕ))

abbrev number_of : Open Changing → ℕ
number_of d = d.lsn

abbrev return_of : Top Changing (List ℕ) → ℕ
return_of n = n.undo_next

neither : (a b : Bool) → b ≡ false → (a && b) ≡ false
neither true b e = e
neither false b e = refl

-- two tests change places
filters_turn : {A : Type 0} (p q : A → Bool) (xs : List A) → filter p (filter q xs) ≡ filter q (filter p xs)
filters_turn p q [] = refl
filters_turn {A = A} p q (x ∷ xs) = by_test (p x) (q x) refl refl (filters_turn p q xs)
  where
    by_test : (a b : Bool) → p x ≡ a → q x ≡ b → filter p (filter q xs) ≡ filter q (filter p xs) → filter p (cond b (x ∷ filter q xs) (filter q xs)) ≡ filter q (cond a (x ∷ filter p xs) (filter p xs))
    by_test true true e f more =
        ap (λ c. cond c (x ∷ filter p (filter q xs)) (filter p (filter q xs))) e
        ∙ (ap (λ (ys : List A). x ∷ ys) more ∙ sym (ap (λ c. cond c (x ∷ filter q (filter p xs)) (filter q (filter p xs))) f))
    by_test true false e f more = more ∙ sym (ap (λ c. cond c (x ∷ filter q (filter p xs)) (filter q (filter p xs))) f)
    by_test false true e f more = ap (λ c. cond c (x ∷ filter p (filter q xs)) (filter p (filter q xs))) e ∙ more
    by_test false false e f more = more

-- the open changes of a transaction up to a number
cut_all : (t u : ℕ) (es : List (Open Changing)) → Each (λ d. d.transaction ≡ t) es → Pairs Behind es → map number_of (open_up_to t u es) ≡ cut_to u (map number_of es)
cut_all t u [] own order = refl
cut_all t u (d ∷ es) own order = by_test (d.transaction == t) (nat_lt u d.lsn) (ap (λ a. a == t) own.0 ∙ same_number t) refl (cut_all t u es own.1 order.1)
  where
    low : d.lsn ≤ u → Each (λ e. not (e.transaction == t && nat_lt u e.lsn) ≡ true) es
    low le = each_more (Behind d) (λ e. not (e.transaction == t && nat_lt u e.lsn) ≡ true) es (λ e z. ap not (neither (e.transaction == t) (nat_lt u e.lsn) (lt_false u e.lsn (le_trans (le_of_lt z) le)))) order.0

    by_test : (a b : Bool) → a ≡ true → nat_lt u d.lsn ≡ b → map number_of (open_up_to t u es) ≡ cut_to u (map number_of es) → map number_of (cond (not (a && b)) (d ∷ open_up_to t u es) (open_up_to t u es)) ≡ cond b (cut_to u (map number_of es)) (d.lsn ∷ map number_of es)
    by_test true true is e more = more
    by_test true false is e more = ap (λ (ds : List (Open Changing)). d.lsn ∷ map number_of ds) (filter_all (λ e. not (e.transaction == t && nat_lt u e.lsn)) es (low (lt_not u d.lsn e)))
    by_test false b is e more = absurd (cc)

-- the numbers of open changes behind a step
pub opens-step : (lsn : ℕ) (x : Step) (rs : Steps) (t : ℕ) → Sound rs → opens (with_step rs lsn (Stepped x)) t ≡ cond (txn_of x == t) (opens_behind x lsn (opens rs t)) (opens rs t)
opens-step lsn x rs t h = by_own (txn_of x == t) refl
  where
    ds : List (Open Changing)
    ds = (tally rs).opened

    none : (u : ℕ) → (u == t) ≡ true → map number_of (open_of t (open_not_of u ds)) ≡ []
    none u e = ap (λ a. map number_of (open_of t (open_not_of a ds))) (number_is u t e) ∙ ap (map number_of) (own_none t ds)

    by_kind : (y : Step) → (txn_of y == t) ≡ true → map number_of (open_of t (said lsn y (tally rs)).opened) ≡ opens_behind y lsn (opens rs t)
    by_kind (Begin u p) e = refl
    by_kind (Change u p c) e = ap (λ b. map number_of (cond b (record { lsn = lsn; transaction = u; change = c } ∷ open_of t ds) (open_of t ds))) e
    by_kind (TopEnd u p n w) e = none u e
    by_kind (PhysComp u p n c) e =
        ap (λ a. map number_of (open_of t (open_up_to a n ds))) (number_is u t e)
        ∙ (ap (map number_of) (of_up_to t n ds) ∙ cut_all t n (open_of t ds) (own_of t ds) (pairs_filter Behind (λ d. d.transaction == t) ds h.order))
    by_kind (TopVoid u p n) e = none u e
    by_kind (CompEnd u p n) e = none u e
    by_kind (Save u p m) e = refl
    by_kind (Commit u p) e = refl
    by_kind (End u p) e = refl

    by_own : (b : Bool) → (txn_of x == t) ≡ b → map number_of (open_of t (said lsn x (tally rs)).opened) ≡ cond b (opens_behind x lsn (opens rs t)) (opens rs t)
    by_own true e = by_kind x e
    by_own false e = ap (map number_of) (other_open lsn x (tally rs) t (λ is. clash (txn_of x == t) e (ap (λ n. txn_of x == n) is ∙ same_number (txn_of x))))

-- the notes of a transaction are its own
own_notes : (t : ℕ) (ns : Notes) → Each (λ n. n.transaction ≡ t) (notes_of t ns)
own_notes t ns = each_kept (λ n. Unit {0}) (λ n. n.transaction ≡ t) (λ n. n.transaction == t) ns (λ n z e. number_is n.transaction t e) (each_all (λ n. Unit {0}) ns (λ n. tt))

-- of the standing notes of a transaction that goes on the newest one is undone, and no other
undone : (rs : Steps) (t u : ℕ) (ms : Notes) → Each (λ m. m.transaction ≡ t) ms → Each (λ m. IsStanding (tally rs).live (border_of m.transaction rs) m.transaction m.lsn m.undo_next) ms → Pairs Chains ms
    → undoes_newest (border_if rs t) (first (map return_of ms)) u ≡ true → map return_of (notes_up_to t u ms) ≡ rest (map return_of ms)
undone rs t u [] own standing chains fits = refl
undone rs t u (m ∷ ms) own standing chains fits = by_test (m.transaction == t) (nat_lt u m.lsn) (ap (λ a. a == t) own.0 ∙ same_number t) (lt_true u m.lsn (subst (λ a. a < m.lsn) (sym goes) standing.0.before))
  where
    live : is_in t (tally rs).live ≡ true
    live = subst (λ a. is_in a (tally rs).live ≡ true) own.0 standing.0.is_live

    by_border : (b : Bool) → b ≡ true → undoes_newest (cond b (Some (border_of t rs)) None) (Some m.undo_next) u ≡ true → u ≡ m.undo_next
    by_border true is e = number_is u m.undo_next e
    by_border false is e = absurd (cc)

    goes : u ≡ m.undo_next
    goes = by_border (t == 0 || is_in t (tally rs).live) (or_right (t == 0) (is_in t (tally rs).live) live) fits

    low : Each (λ k. not (k.transaction == t && nat_lt u k.lsn) ≡ true) ms
    low = each_more (λ k. (k.transaction ≡ t) × Chains m k) (λ k. not (k.transaction == t && nat_lt u k.lsn) ≡ true) ms
        (λ k z. ap not (neither (k.transaction == t) (nat_lt u k.lsn) (lt_false u k.lsn (le_trans (z.1.chained (z.0 ∙ sym own.0)) (le_of_eq (sym goes)))))) (each_both (λ k. k.transaction ≡ t) (Chains m) ms own.1 chains.0)

    by_test : (a b : Bool) → a ≡ true → b ≡ true → map return_of (cond (not (a && b)) (m ∷ notes_up_to t u ms) (notes_up_to t u ms)) ≡ map return_of ms
    by_test true true i j = ap (map return_of) (filter_all (λ k. not (k.transaction == t && nat_lt u k.lsn)) ms low)
    by_test true false i j = absurd (cc)
    by_test false b i j = absurd (cc)

-- none of a transaction is left
none_left : (t : ℕ) (ns : Notes) → notes_of t (notes_not_of t ns) ≡ []
none_left t ns =
    filter_filter (λ n. n.transaction == t) (λ n. not (n.transaction == t)) ns
    ∙ filter_none (λ n. n.transaction == t && not (n.transaction == t)) ns (each_all (λ n. (n.transaction == t && not (n.transaction == t)) ≡ false) ns (λ n. never (n.transaction == t)))
  where
    never : (b : Bool) → (b && not b) ≡ false
    never true = refl
    never false = refl

-- those of others are
differs : (u t : ℕ) → (u == t) ≡ false → (n : ℕ) → n ≡ t → (n == u) ≡ false
differs u t e n is = other_number n u (λ own. clash (u == t) e (ap (λ a. a == t) (sym own ∙ is) ∙ same_number t))

not_its : (u t : ℕ) → (u == t) ≡ false → (ns : Notes) → notes_of t (notes_not_of u ns) ≡ notes_of t ns
not_its u t e ns =
    filters_turn (λ n. n.transaction == t) (λ n. not (n.transaction == u)) ns
    ∙ filter_all (λ n. not (n.transaction == u)) (notes_of t ns) (each_more (λ n. n.transaction ≡ t) (λ n. not (n.transaction == u) ≡ true) (notes_of t ns) (λ n z. ap not (differs u t e n.transaction z)) (own_notes t ns))

-- another's notes stay
others_stay : (lsn : ℕ) (x : Step) (k : Tally Changing (List ℕ)) (t : ℕ) → (txn_of x == t) ≡ false → notes_of t (said lsn x k).notes ≡ notes_of t k.notes
others_stay lsn (Begin u p) k t e = refl
others_stay lsn (Change u p c) k t e = refl
others_stay lsn (TopEnd u p w n) k t e = by_test (is_in u k.live)
  where
    top : Top Changing (List ℕ)
    top = record { lsn = lsn; transaction = u; undo_next = w; note = n; changes = changes_of (open_of u k.opened) }

    by_test : (b : Bool) → notes_of t (cond b (top ∷ k.notes) k.notes) ≡ notes_of t k.notes
    by_test true = ap (λ c. cond c (top ∷ notes_of t k.notes) (notes_of t k.notes)) e
    by_test false = refl
others_stay lsn (PhysComp u p w c) k t e = refl
others_stay lsn (TopVoid u p w) k t e = refl
others_stay lsn (CompEnd u p w) k t e =
    filters_turn (λ n. n.transaction == t) (λ n. not (n.transaction == u && nat_lt w n.lsn)) k.notes
    ∙ filter_all (λ n. not (n.transaction == u && nat_lt w n.lsn)) (notes_of t k.notes)
    (each_more (λ n. n.transaction ≡ t) (λ n. not (n.transaction == u && nat_lt w n.lsn) ≡ true) (notes_of t k.notes) (λ n z. ap (λ b. not (b && nat_lt w n.lsn)) (differs u t e n.transaction z)) (own_notes t k.notes))
others_stay lsn (Save u p m) k t e = refl
others_stay lsn (Commit u p) k t e = not_its u t e k.notes
others_stay lsn (End u p) k t e = not_its u t e k.notes

-- the same of where undoing goes on behind standing notes
pub returns-step : (base lsn : ℕ) (x : Step) (rs : Steps) (t : ℕ) → Sound rs → goes_back base rs x ≡ true
    → returns (with_step rs lsn (Stepped x)) t ≡ cond (txn_of x == t) (returns_behind (is_in (txn_of x) (tally rs).live) x (returns rs t)) (returns rs t)
returns-step base lsn x rs t h back = by_own (txn_of x == t) refl
  where
    ns : Notes
    ns = (tally rs).notes

    none : (u : ℕ) → (u == t) ≡ true → map return_of (notes_of t (notes_not_of u ns)) ≡ []
    none u e = ap (λ a. map return_of (notes_of t (notes_not_of a ns))) (number_is u t e) ∙ ap (map return_of) (none_left t ns)

    by_kind : (y : Step) → goes_back base rs y ≡ true → (txn_of y == t) ≡ true → map return_of (notes_of t (said lsn y (tally rs)).notes) ≡ returns_behind (is_in (txn_of y) (tally rs).live) y (returns rs t)
    by_kind (Begin u p) b e = refl
    by_kind (Change u p c) b e = refl
    by_kind (TopEnd u p w n) b e = by_live (is_in u (tally rs).live)
      where
        top : Top Changing (List ℕ)
        top = record { lsn = lsn; transaction = u; undo_next = w; note = n; changes = changes_of (open_of u (tally rs).opened) }

        by_live : (l : Bool) → map return_of (notes_of t (cond l (top ∷ ns) ns)) ≡ cond l (w ∷ returns rs t) (returns rs t)
        by_live true = ap (λ c. map return_of (cond c (top ∷ notes_of t ns) (notes_of t ns))) e
        by_live false = refl
    by_kind (PhysComp u p w c) b e = refl
    by_kind (TopVoid u p w) b e = refl
    by_kind (CompEnd u p w) b e =
        let is = number_is u t e in
        ap (λ a. map return_of (notes_of t (notes_up_to a w ns))) is ∙ (ap (map return_of) (filters_turn (λ n. n.transaction == t) (λ n. not (n.transaction == t && nat_lt w n.lsn)) ns)
        ∙ undone rs t w (notes_of t ns) (own_notes t ns) (each_filter (λ m. IsStanding (tally rs).live (border_of m.transaction rs) m.transaction m.lsn m.undo_next) (λ n. n.transaction == t) ns h.notes) (pairs_filter Chains (λ n. n.transaction == t) ns h.chains)
        (subst (λ a. undoes_newest (border_if rs a) (first (returns rs a)) w ≡ true) is b))
    by_kind (Save u p m) b e = refl
    by_kind (Commit u p) b e = none u e
    by_kind (End u p) b e = none u e

    by_own : (b : Bool) → (txn_of x == t) ≡ b → map return_of (notes_of t (said lsn x (tally rs)).notes) ≡ cond b (returns_behind (is_in (txn_of x) (tally rs).live) x (returns rs t)) (returns rs t)
    by_own true e = by_kind x back e
    by_own false e = ap (map return_of) (others_stay lsn x (tally rs) t e)
