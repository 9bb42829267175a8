-- What is left of a log says what the whole log says.
use Rattle.std.proofs.Common.{◌≡◌, ℕ, ◌<◌, ◌≤◌, ◌==◌, nat_le, nat_lt, arith, Bool, true, false, cond, not, ◌&&◌, ◌||◌, List, [], ◌∷◌, ◌++◌, filter, refl, sym, ap, ◌∙◌, subst, lt_of_lt_of_le, le_trans}
use Rattle.sg_recovery.specs.Log.{Record, Numbered, Open, Top, Tally, said, tally, is_in, without, open_of, open_not_of, open_up_to, changes_of, notes_not_of, notes_up_to}
use Rattle.sg_recovery.specs.Log.Record.{Begin, Change, TopEnd, PhysComp, TopVoid, CompEnd, Save, Commit, End}
use Rattle.sg_recovery.specs.Laws.{Each}
use Rattle.sg_recovery.specs.TakeOff.{IsOwned, AreOwned}
use Rattle.sg_recovery.proofs.Basic.{cond_true, cond_false, each_more, each_filter, filter_all, filter_none, filter_same, filter_filter, number_is, le_is, le_true, le_false, lt_is, lt_not}
use Rattle.sg_kept.specs.Kept.{tally_from, IsParted, IsPoint}

and_turn : (a b : Bool) → (a && b) ≡ (b && a)
and_turn true true = refl
and_turn true false = refl
and_turn false true = refl
and_turn false false = refl

any_each : {A : Type 0} (P : A → Type 0) (xs : List A) → ((x : A) → P x) → Each P xs
any_each P [] f = tt
any_each P (x ∷ xs) f = (f x, any_each P xs f)

-- two tests in turn
pub filter_turn : {A : Type 0} (p q : A → Bool) (xs : List A) → filter p (filter q xs) ≡ filter q (filter p xs)
filter_turn p q xs = filter_filter p q xs ∙ (filter_same (λ x. p x && q x) (λ x. q x && p x) xs (any_each (λ x. (p x && q x) ≡ (q x && p x)) xs (λ x. and_turn (p x) (q x))) ∙ sym (filter_filter q p xs))

-- of those that pass the first test each passes the second
under_one_test : {A : Type 0} (a b : Bool) (x : A) (ys zs ws : List A) (p : A → Bool) → p x ≡ a → (a ≡ true → b ≡ true) → filter p ys ≡ ws → filter p (cond b (x ∷ ys) ys) ≡ cond a (x ∷ ws) ws
under_one_test a true x ys zs ws p e f h = ap (λ b. cond b (x ∷ filter p ys) (filter p ys)) e ∙ ap (λ l. cond a (x ∷ l) l) h
under_one_test true false x ys zs ws p e f h = absurd (never (f refl))
  where
    never : false ≡ true → ⊥
    never z = absurd (cc)
under_one_test false false x ys zs ws p e f h = h

filter_under : {A : Type 0} (p q : A → Bool) (xs : List A) → Each (λ x. p x ≡ true → q x ≡ true) xs → filter p (filter q xs) ≡ filter p xs
filter_under p q [] h = refl
filter_under p q (x ∷ xs) h = under_one_test (p x) (q x) x (filter q xs) [] (filter p xs) p refl h.0 (filter_under p q xs h.1)

-- whether a number from the point on is in a list doesn't rest on those below the point
in_one : (p t u : ℕ) (b c : Bool) (us : List ℕ) → p ≤ t → nat_le p u ≡ b → is_in t us ≡ c → is_in t (cond b (u ∷ us) us) ≡ (u == t || c)
in_one p t u true c us le e h = ap (λ d. u == t || d) h
in_one p t u false c us le e h = h ∙ sym (other (u == t) refl)
  where
    never : true ≡ false → ⊥
    never z = absurd (cc)

    other : (b : Bool) → (u == t) ≡ b → (b || c) ≡ c
    other true z = absurd (never (sym (le_true p u (subst (λ a. p ≤ a) (sym (number_is u t z)) le)) ∙ e))
    other false z = refl

pub in_from : (p t : ℕ) (live : List ℕ) → p ≤ t → is_in t (filter (λ u. nat_le p u) live) ≡ is_in t live
in_from p t [] le = refl
in_from p t (u ∷ us) le = in_one p t u (nat_le p u) (is_in t us) (filter (λ w. nat_le p w) us) le refl (in_from p t us le)

in_none : (p t u : ℕ) (b : Bool) (us : List ℕ) → t < p → nat_le p u ≡ b → is_in t us ≡ false → is_in t (cond b (u ∷ us) us) ≡ false
in_none p t u false us lt e h = h
in_none p t u true us lt e h = ap (λ b. b || is_in t us) (other (u == t) refl) ∙ h
  where
    never : p ≤ t → ⊥
    never le = absurd (omega (arith, le, lt))

    other : (b : Bool) → (u == t) ≡ b → b ≡ false
    other true z = absurd (never (subst (λ a. p ≤ a) (number_is u t z) (le_is p u e)))
    other false z = refl

pub in_below : (p t : ℕ) (live : List ℕ) → t < p → is_in t (filter (λ u. nat_le p u) live) ≡ false
in_below p t [] lt = refl
in_below p t (u ∷ us) lt = in_none p t u (nat_le p u) (filter (λ w. nat_le p w) us) lt refl (in_below p t us lt)

pub in_each : (p t : ℕ) (us : List ℕ) → Each (λ u. p ≤ u) us → is_in t us ≡ true → p ≤ t
in_each p t [] h e = absurd (cc)
in_each p t (u ∷ us) h e = by_test (u == t) refl (λ z. in_each p t us h.1 z)
  where
    by_test : (b : Bool) → (u == t) ≡ b → (is_in t us ≡ true → p ≤ t) → p ≤ t
    by_test true z f = subst (λ a. p ≤ a) (number_is u t z) h.0
    by_test false z f = f (ap (λ b. b || is_in t us) (sym z) ∙ e)

-- a transaction from the point on has its open changes from there on
pub own_from : {C : Type 0} (p t : ℕ) (ds : List (Open C)) → p ≤ t → Each (λ d. d.transaction ≤ d.lsn) ds → open_of t (filter (λ d. nat_le p d.lsn) ds) ≡ open_of t ds
own_from p t ds le own = filter_under (λ d. d.transaction == t) (λ d. nat_le p d.lsn) ds (each_more (λ d. d.transaction ≤ d.lsn) (λ d. (d.transaction == t) ≡ true → nat_le p d.lsn ≡ true) ds (λ d o e. high d.transaction d.lsn o (number_is d.transaction t e)) own)
  where
    high : (a l : ℕ) → a ≤ l → a ≡ t → nat_le p l ≡ true
    high a l o e = le_true p l (omega (arith, o, e, le))

module _ {C N : Type 0} where
  same_parts : {l l' : List ℕ} {o o' : List (Open C)} {n n' : List (Top C N)} → l ≡ l' → o ≡ o' → n ≡ n' → ◌≡◌ {A = Tally C N} (record { live = l; opened = o; notes = n }) (record { live = l'; opened = o'; notes = n' })
  same_parts x y z = cc

  pub tally_same : (k m : Tally C N) → k.live ≡ m.live → k.opened ≡ m.opened → k.notes ≡ m.notes → k ≡ m
  tally_same k m x y z = same_parts x y z

  -- a tally of what stands all below the point
  pub none_from : (p : ℕ) (k : Tally C N) → Each (λ t. t < p) k.live → Each (λ d. d.lsn < p) k.opened → Each (λ n. n.transaction < p) k.notes → tally_from p k ≡ record { live = []; opened = []; notes = [] }
  none_from p k lives opens notes =
      let a : filter (λ t. nat_le p t) k.live ≡ [] = filter_none (λ t. nat_le p t) k.live (each_more (λ t. t < p) (λ t. nat_le p t ≡ false) k.live (λ t lt. le_false p t lt) lives) in
      let b : filter (λ d. nat_le p d.lsn) k.opened ≡ [] = filter_none (λ d. nat_le p d.lsn) k.opened (each_more (λ d. d.lsn < p) (λ d. nat_le p d.lsn ≡ false) k.opened (λ d lt. le_false p d.lsn lt) opens) in
      let c : filter (λ n. nat_le p n.transaction) k.notes ≡ [] = filter_none (λ n. nat_le p n.transaction) k.notes (each_more (λ n. n.transaction < p) (λ n. nat_le p n.transaction ≡ false) k.notes (λ n lt. le_false p n.transaction lt) notes) in
      same_parts a b c

  -- of a log all of which stands below the point nothing is said from the point on
  record IsUnder (p : ℕ) (k : Tally C N) : Type 0 where
    lives : Each (λ t. t < p) k.live
    opens : Each (λ d. d.lsn < p) k.opened
    notes : Each (λ n. n.transaction < p) k.notes

  under_one : (p l : ℕ) (r : Record C N) (k : Tally C N) → l < p → IsOwned l r → IsUnder p k → IsUnder p (said l r k)
  under_one p l (Begin t q) k lt own h = record { lives = (subst (λ a. a < p) (sym own) lt, h.lives); opens = h.opens; notes = h.notes }
  under_one p l (Change t q c) k lt own h = record { lives = h.lives; opens = (lt, h.opens); notes = h.notes }
  under_one p l (TopEnd t q u n) k lt own h = record { lives = h.lives; opens = each_filter (λ d. d.lsn < p) (λ d. not (d.transaction == t)) k.opened h.opens; notes = by_test (is_in t k.live) }
    where
      low : t < p
      low = let own' : t < l = own in omega (arith, own', lt)

      by_test : (b : Bool) → Each (λ m. m.transaction < p) (cond b (record { lsn = l; transaction = t; undo_next = u; note = n; changes = changes_of (open_of t k.opened) } ∷ k.notes) k.notes)
      by_test true = (low, h.notes)
      by_test false = h.notes
  under_one p l (PhysComp t q u c) k lt own h = record { lives = h.lives; opens = each_filter (λ d. d.lsn < p) (λ d. not (d.transaction == t && nat_lt u d.lsn)) k.opened h.opens; notes = h.notes }
  under_one p l (TopVoid t q u) k lt own h = record { lives = h.lives; opens = each_filter (λ d. d.lsn < p) (λ d. not (d.transaction == t)) k.opened h.opens; notes = h.notes }
  under_one p l (CompEnd t q u) k lt own h = record { lives = h.lives; opens = each_filter (λ d. d.lsn < p) (λ d. not (d.transaction == t)) k.opened h.opens; notes = each_filter (λ n. n.transaction < p) (λ n. not (n.transaction == t && nat_lt u n.lsn)) k.notes h.notes }
  under_one p l (Save t q m) k lt own h = h
  under_one p l (Commit t q) k lt own h = record { lives = each_filter (λ u. u < p) (λ u. not (u == t)) k.live h.lives; opens = h.opens; notes = each_filter (λ n. n.transaction < p) (λ n. not (n.transaction == t)) k.notes h.notes }
  under_one p l (End t q) k lt own h = record { lives = each_filter (λ u. u < p) (λ u. not (u == t)) k.live h.lives; opens = h.opens; notes = each_filter (λ n. n.transaction < p) (λ n. not (n.transaction == t)) k.notes h.notes }

  under_all : (p : ℕ) (gone : List (Numbered C N)) → Each (λ r. r.lsn < p) gone → AreOwned gone → IsUnder p (tally gone)
  under_all p [] lows own = record { lives = tt; opens = tt; notes = tt }
  under_all p (r ∷ rs) lows own = under_one p r.lsn r.is (tally rs) lows.0 own.0 (under_all p rs lows.1 own.1)

  -- each open change is of a transaction that began before it
  pub opens_owned : (rs : List (Numbered C N)) → AreOwned rs → Each (λ d. d.transaction ≤ d.lsn) (tally rs).opened
  opens_owned [] own = tt
  opens_owned (r ∷ rs) own = by_kind r.lsn r.is own.0 (opens_owned rs own.1)
    where
      by_kind : (l : ℕ) (x : Record C N) → IsOwned l x → Each (λ d. d.transaction ≤ d.lsn) (tally rs).opened → Each (λ d. d.transaction ≤ d.lsn) (said l x (tally rs)).opened
      by_kind l (Begin t q) o h = h
      by_kind l (Change t q c) o h = (let o' : t < l = o in omega (arith, o'), h)
      by_kind l (TopEnd t q u n) o h = each_filter (λ d. d.transaction ≤ d.lsn) (λ d. not (d.transaction == t)) (tally rs).opened h
      by_kind l (PhysComp t q u c) o h = each_filter (λ d. d.transaction ≤ d.lsn) (λ d. not (d.transaction == t && nat_lt u d.lsn)) (tally rs).opened h
      by_kind l (TopVoid t q u) o h = each_filter (λ d. d.transaction ≤ d.lsn) (λ d. not (d.transaction == t)) (tally rs).opened h
      by_kind l (CompEnd t q u) o h = each_filter (λ d. d.transaction ≤ d.lsn) (λ d. not (d.transaction == t)) (tally rs).opened h
      by_kind l (Save t q m) o h = h
      by_kind l (Commit t q) o h = h
      by_kind l (End t q) o h = h

  -- A RECORD from the point on does the same to what is said from there on
  said_from : (p l : ℕ) (r : Record C N) (k : Tally C N) → p ≤ l → IsOwned l r → Each (λ d. d.transaction ≤ d.lsn) k.opened → said l r (tally_from p k) ≡ tally_from p (said l r k)
  said_from p l (Begin t q) k le own h = tally_same (said l (Begin t q) (tally_from p k)) (tally_from p (said l (Begin t q) k))
      (sym (cond_true (nat_le p t) (t ∷ filter (λ u. nat_le p u) k.live) (filter (λ u. nat_le p u) k.live) (le_true p t (subst (λ a. p ≤ a) (sym own) le)))) refl refl
  said_from p l (Change t q c) k le own h = tally_same (said l (Change t q c) (tally_from p k)) (tally_from p (said l (Change t q c) k))
      refl (sym (cond_true (nat_le p l) (record { lsn = l; transaction = t; change = c } ∷ filter (λ d. nat_le p d.lsn) k.opened) (filter (λ d. nat_le p d.lsn) k.opened) (le_true p l le))) refl
  said_from p l (TopEnd t q u n) k le own h = tally_same (said l (TopEnd t q u n) (tally_from p k)) (tally_from p (said l (TopEnd t q u n) k))
      refl (filter_turn (λ d. not (d.transaction == t)) (λ d. nat_le p d.lsn) k.opened) (by_number (nat_le p t) refl)
    where
      note : List C → Top C N
      note cs = record { lsn = l; transaction = t; undo_next = u; note = n; changes = cs }

      ns : List (Top C N)
      ns = filter (λ m. nat_le p m.transaction) k.notes

      here : (b : Bool) → p ≤ t → cond b (note (changes_of (open_of t k.opened)) ∷ filter (λ m. nat_le p m.transaction) k.notes) (filter (λ m. nat_le p m.transaction) k.notes)
          ≡ filter (λ m. nat_le p m.transaction) (cond b (note (changes_of (open_of t k.opened)) ∷ k.notes) k.notes)
      here true z = sym (cond_true (nat_le p t) (note (changes_of (open_of t k.opened)) ∷ filter (λ m. nat_le p m.transaction) k.notes) (filter (λ m. nat_le p m.transaction) k.notes) (le_true p t z))
      here false z = refl

      gone : (b : Bool) → nat_le p t ≡ false → filter (λ m. nat_le p m.transaction) k.notes ≡ filter (λ m. nat_le p m.transaction) (cond b (note (changes_of (open_of t k.opened)) ∷ k.notes) k.notes)
      gone true z = sym (cond_false (nat_le p t) (note (changes_of (open_of t k.opened)) ∷ filter (λ m. nat_le p m.transaction) k.notes) (filter (λ m. nat_le p m.transaction) k.notes) z)
      gone false z = refl

      by_number : (b : Bool) → nat_le p t ≡ b →
          cond (is_in t (filter (λ u. nat_le p u) k.live)) (note (changes_of (open_of t (filter (λ d. nat_le p d.lsn) k.opened))) ∷ filter (λ m. nat_le p m.transaction) k.notes) (filter (λ m. nat_le p m.transaction) k.notes)
          ≡ filter (λ m. nat_le p m.transaction) (cond (is_in t k.live) (note (changes_of (open_of t k.opened)) ∷ k.notes) k.notes)
      by_number true e =
          let high = le_is p t e in
          ap (λ b. cond b (note (changes_of (open_of t (filter (λ d. nat_le p d.lsn) k.opened))) ∷ filter (λ m. nat_le p m.transaction) k.notes) (filter (λ m. nat_le p m.transaction) k.notes)) (in_from p t k.live high)
          ∙ (ap (λ ds. cond (is_in t k.live) (note (changes_of ds) ∷ filter (λ m. nat_le p m.transaction) k.notes) (filter (λ m. nat_le p m.transaction) k.notes)) (own_from p t k.opened high h)
          ∙ here (is_in t k.live) high)
      by_number false e =
          ap (λ b. cond b (note (changes_of (open_of t (filter (λ d. nat_le p d.lsn) k.opened))) ∷ filter (λ m. nat_le p m.transaction) k.notes) (filter (λ m. nat_le p m.transaction) k.notes)) (in_below p t k.live (low e))
          ∙ gone (is_in t k.live) e
        where
          low : nat_le p t ≡ false → t < p
          low z = by (nat_lt t p) refl
            where
              by : (b : Bool) → nat_lt t p ≡ b → t < p
              by true w = lt_is t p w
              by false w = absurd (never (sym (le_true p t (lt_not t p w)) ∙ z))
                where
                  never : true ≡ false → ⊥
                  never v = absurd (cc)
  said_from p l (PhysComp t q u c) k le own h = tally_same (said l (PhysComp t q u c) (tally_from p k)) (tally_from p (said l (PhysComp t q u c) k))
      refl (filter_turn (λ d. not (d.transaction == t && nat_lt u d.lsn)) (λ d. nat_le p d.lsn) k.opened) refl
  said_from p l (TopVoid t q u) k le own h = tally_same (said l (TopVoid t q u) (tally_from p k)) (tally_from p (said l (TopVoid t q u) k))
      refl (filter_turn (λ d. not (d.transaction == t)) (λ d. nat_le p d.lsn) k.opened) refl
  said_from p l (CompEnd t q u) k le own h = tally_same (said l (CompEnd t q u) (tally_from p k)) (tally_from p (said l (CompEnd t q u) k))
      refl (filter_turn (λ d. not (d.transaction == t)) (λ d. nat_le p d.lsn) k.opened) (filter_turn (λ n. not (n.transaction == t && nat_lt u n.lsn)) (λ n. nat_le p n.transaction) k.notes)
  said_from p l (Save t q m) k le own h = refl
  said_from p l (Commit t q) k le own h = tally_same (said l (Commit t q) (tally_from p k)) (tally_from p (said l (Commit t q) k))
      (filter_turn (λ u. not (u == t)) (λ u. nat_le p u) k.live) refl (filter_turn (λ n. not (n.transaction == t)) (λ n. nat_le p n.transaction) k.notes)
  said_from p l (End t q) k le own h = tally_same (said l (End t q) (tally_from p k)) (tally_from p (said l (End t q) k))
      (filter_turn (λ u. not (u == t)) (λ u. nat_le p u) k.live) refl (filter_turn (λ n. not (n.transaction == t)) (λ n. nat_le p n.transaction) k.notes)

  pub owned_back : (xs ys : List (Numbered C N)) → AreOwned (xs ++ ys) → AreOwned ys
  owned_back [] ys own = own
  owned_back (x ∷ xs) ys own = owned_back xs ys own.1

  pub owned_front : (xs ys : List (Numbered C N)) → AreOwned (xs ++ ys) → AreOwned xs
  owned_front [] ys own = tt
  owned_front (x ∷ xs) ys own = (own.0, owned_front xs ys own.1)

  -- WHAT IS KEPT OF A LOG SAYS what the whole of it says of transactions and changes from the point on
  pub kept_from : (p : ℕ) (kept gone : List (Numbered C N)) → Each (λ r. p ≤ r.lsn) kept → Each (λ r. r.lsn < p) gone → AreOwned (kept ++ gone) → tally kept ≡ tally_from p (tally (kept ++ gone))
  kept_from p [] gone on low own = let u = under_all p gone low own in sym (none_from p (tally gone) u.lives u.opens u.notes)
  kept_from p (r ∷ rs) gone on low own =
      ap (λ k. said r.lsn r.is k) (kept_from p rs gone on.1 low own.1)
      ∙ said_from p r.lsn r.is (tally (rs ++ gone)) on.0 own.0 (opens_owned (rs ++ gone) own.1)

  -- which is all that it says, where each transaction that goes on has begun at the point or behind it, and each open change stands there
  pub point_all : (p : ℕ) (k : Tally C N) → IsPoint p k → Each (λ n. is_in n.transaction k.live ≡ true) k.notes → tally_from p k ≡ k
  point_all p k at lives = tally_same (tally_from p k) k
      (filter_all (λ t. nat_le p t) k.live (each_more (λ t. p ≤ t) (λ t. nat_le p t ≡ true) k.live (λ t le. le_true p t le) at.live))
      (filter_all (λ d. nat_le p d.lsn) k.opened (each_more (λ d. p ≤ d.lsn) (λ d. nat_le p d.lsn ≡ true) k.opened (λ d le. le_true p d.lsn le) at.opened))
      (filter_all (λ n. nat_le p n.transaction) k.notes (each_more (λ n. is_in n.transaction k.live ≡ true) (λ n. nat_le p n.transaction ≡ true) k.notes (λ n z. le_true p n.transaction (in_each p n.transaction k.live at.live z)) lives))
