-- THE LOG, AND WHO ACTS, of a log that was found.
use Rattle.std.proofs.Common.{◌≡◌, ◌≢◌, ◌⊎◌, inl, inr, ℕ, ◌<◌, ◌≤◌, ◌==◌, arith, Bool, true, false, List, [], ◌∷◌, Some, None, IsSome, refl, sym, ap, ◌∙◌, subst}
use Rattle.std.specs.Bool.{MatchBool}
use Rattle.std.proofs.lemmas.Bool.{cases_eq}
use Rattle.sg_record.specs.Changes.{Change as Changing}
use Rattle.sg_recovery.specs.Laws.{Each}
use Rattle.sg_recovery.specs.Log.{Open, tally, is_in}
use Rattle.sg_recovery.specs.Log.Record.{Begin, Change, TopEnd, PhysComp, TopVoid, CompEnd, Save, Commit, End}
use Rattle.sg_recovery.specs.Chains.{last_of, border_of, next_lsn, next_off}
use Rattle.sg_recovery.specs.Formed.{IsUnfinished, IsLog}
use Rattle.sg_recovery.proofs.Basic.{same_number, other_number}
use Rattle.sg_recovery.proofs.Chaining.{clash, sound}
use Rattle.sg_recovery.proofs.Unfinished.{all_found, none_found}
use Rattle.sg_actions.specs.Acting.{IsChained}
use Rattle.sg_actions.specs.Rows.{last_in, AreApart, at_rest}
use Rattle.sg_actions.specs.Steps.{Step, Steps, stepped, ended}
use Rattle.sg_actions.specs.TakingOff.{AreLinked, IsRunning, HasCommitted, AreRows}
use Rattle.sg_actions.specs.declared.rows.Actor.{Actor}
use Rattle.sg_actions.specs.declared.rows.Row.{Row}
use Rattle.sg_found.specs.Found.{IsOpenAt}
use Rattle.sg_found.proofs.Newest.{system_dead}

-- who acts: a transaction, with its last record and the one before its action
abbrev pub acting_at : (txn last before : ℕ) → Actor
acting_at txn last before = record { txn = record { 0 = txn }; last = last; before = before }

one_border : (b : ℕ) (last : ℕ) (P Q : Type 0) → last ≡ b → P → MatchBool (last == b) P Q
one_border b last P Q e p = by_test (last == b) (ap (λ (k : ℕ). k == b) e ∙ same_number b)
  where
    by_test : (c : Bool) → c ≡ true → MatchBool c P Q
    by_test true z = p
    by_test false z = absurd (cc)

other_border : (b : ℕ) (last : ℕ) (P Q : Type 0) → (last ≡ b → ⊥) → Q → MatchBool (last == b) P Q
other_border b last P Q ne q = by_test (last == b) (other_number last b ne)
  where
    by_test : (c : Bool) → c ≡ false → MatchBool c P Q
    by_test true z = absurd (cc)
    by_test false z = q

-- all actions but one have their ends
alone : (base : ℕ) (rs : Steps) (t u : ℕ) → IsLog base rs → IsUnfinished rs t → u ≢ t → last_of u rs ≡ border_of u rs
alone base rs t u h un ne = elim (cases_eq (last_of u rs) (border_of u rs)) as (λ _. last_of u rs ≡ border_of u rs) [
  | inl e ↦ e
  | inr d ↦ absurd (ne (h.one_action.one u t d un))
]

pub running_found : (base : ℕ) (rs : Steps) (tail t at before : ℕ) → IsLog base rs → base ≤ tail → next_lsn rs ≤ tail → IsUnfinished rs t → IsOpenAt rs base t at before → (t ≡ 0 → before ≡ 0)
    → IsRunning base rs tail (acting_at t (last_of t rs) before)
running_found base rs tail t at before h based below un o zero = record {
  log = h;
  based = based;
  below = below;
  system = system_dead base rs h;
  owned = (all_found base rs h t un).1;
  last_is = λ live. refl;
  before_is = o.own;
  system_is = λ e. (zero e, other_border (border_of 0 rs) (last_of 0 rs) _ _ (subst (IsUnfinished rs) e un) (ap (λ (u : ℕ). last_of u rs) e));
  acting = λ ne. own ne (h.one_action.whose t un);
  alone = λ u ne. alone base rs t u h un ne;
  linked = o.back.linked;
  before_low = low (h.one_action.whose t un);
}
  where
    own : t ≢ 0 → (t ≡ 0) ⊎ (is_in t (tally rs).live ≡ true) → is_in t (tally rs).live ≡ true
    own ne (inl e) = absurd (ne e)
    own ne (inr live) = live

    some : (xs : Steps) → next_lsn xs ≤ tail → 0 < tail
    some [] z = omega (arith, z)
    some (x ∷ xs) z = omega (arith, z)

    low : (t ≡ 0) ⊎ (is_in t (tally rs).live ≡ true) → before < tail
    low (inl e) = let z = zero e in let s = some rs below in omega (arith, z, s)
    low (inr live) = let z = o.own live in let s = (sound rs h.chained).borders t in omega (arith, z, s, below)

-- WHERE EACH ACTION HAS AN END
finished : (base : ℕ) (rs : Steps) → IsLog base rs → ((u : ℕ) → (u ≡ 0) ⊎ (is_in u (tally rs).live ≡ true) → last_of u rs ≡ border_of u rs) → (u : ℕ) → last_of u rs ≡ border_of u rs
finished base rs h all u = elim (cases_eq (last_of u rs) (border_of u rs)) as (λ _. last_of u rs ≡ border_of u rs) [
  | inl e ↦ e
  | inr d ↦ all u (h.one_action.whose u d)
]

pub none_open : (base : ℕ) (rs : Steps) → IsLog base rs → ((u : ℕ) → (u ≡ 0) ⊎ (is_in u (tally rs).live ≡ true) → last_of u rs ≡ border_of u rs) → (tally rs).opened ≡ []
none_open base rs h all = none_found base rs h (all 0 (inl refl)) (λ u live. all u (inr live))

-- nothing is open, and so no change is the newest step
pub idle_ended : (rs : Steps) → (tally rs).opened ≡ [] → ended rs ≡ rs
idle_ended [] e = refl
idle_ended (r ∷ rs) e = by_step r.lsn r.is e
  where
    by_step : (lsn : ℕ) (x : Step) → (tally (stepped rs lsn x)).opened ≡ [] → ended (stepped rs lsn x) ≡ stepped rs lsn x
    by_step lsn (Begin u p) none = refl
    by_step lsn (Change u p c) none = absurd (let no : ◌≡◌ {A = List (Open Changing)} (record { lsn = lsn; transaction = u; change = c } ∷ (tally rs).opened) [] = none in cc)
    by_step lsn (TopEnd u p w n) none = refl
    by_step lsn (PhysComp u p w c) none = refl
    by_step lsn (TopVoid u p w) none = refl
    by_step lsn (CompEnd u p w) none = refl
    by_step lsn (Save u p m) none = refl
    by_step lsn (Commit u p) none = refl
    by_step lsn (End u p) none = refl

-- each row that is found is of one that goes on, and so none says a commit
none_past : (rs : Steps) (rows : List Row) → ((u last : ℕ) → u ≢ 0 → last_in rows u ≡ Some last → is_in u (tally rs).live ≡ true) → (u last : ℕ) → u ≢ 0 → last_in rows u ≡ Some last → is_in u (tally rs).live ≡ false → HasCommitted rs u last
none_past rs rows known u last some there gone = absurd (clash (is_in u (tally rs).live) gone (known u last some there))

pub chained_found : (base : ℕ) (rs : Steps) (tail : ℕ) (rows : List Row) → IsLog base rs → base ≤ tail → next_lsn rs ≤ tail → ((u : ℕ) → (u ≡ 0) ⊎ (is_in u (tally rs).live ≡ true) → last_of u rs ≡ border_of u rs)
    → ((u : ℕ) → is_in u (tally rs).live ≡ true → last_in rows u ≡ Some (last_of u rs)) → ((u : ℕ) → tail ≤ u → last_in rows u ≡ None) → AreApart rows → ((u last : ℕ) → u ≢ 0 → last_in rows u ≡ Some last → is_in u (tally rs).live ≡ true) → IsChained base rs tail rows at_rest
chained_found base rs tail rows h based below all lives low apart known = record {
  running = record {
    log = h;
    based = based;
    below = below;
    system = dead;
    owned = subst (Each (λ d. d.transaction ≡ 0)) (sym none) tt;
    last_is = λ live. absurd (let no : true ≡ false = sym live ∙ dead in cc);
    before_is = λ live. absurd (let no : true ≡ false = sym live ∙ dead in cc);
    system_is = λ e. (refl, one_border (border_of 0 rs) (last_of 0 rs) _ _ (all 0 (inl refl)) refl);
    acting = λ ne. absurd (ne refl);
    alone = λ u ne. finished base rs h all u;
    linked = subst (AreLinked rs 0) (sym none) tt;
    before_low = some rs below;
  };
  rows_are = record { own = λ ne. absurd (ne refl); low = low; others = λ u ne live. lives u live; apart = apart; past = λ u last some ne there gone. none_past rs rows known u last some there gone };
  closed = ap (λ (xs : Steps). (tally xs).opened) (idle_ended rs none) ∙ none;
  at = sym (ap (next_off 0) none);
}
  where
    none : (tally rs).opened ≡ []
    none = none_open base rs h all

    dead : is_in 0 (tally rs).live ≡ false
    dead = system_dead base rs h

    some : (xs : Steps) → next_lsn xs ≤ tail → 0 < tail
    some [] z = omega (arith, z)
    some (x ∷ xs) z = omega (arith, z)

-- THE ROWS where one acts
pub rows_found : (rs : Steps) (tail t last before : ℕ) (rows : List Row) → (t ≢ 0 → is_in t (tally rs).live ≡ true) → ((u : ℕ) → is_in u (tally rs).live ≡ true → last_in rows u ≡ Some (last_of u rs))
    → ((u : ℕ) → tail ≤ u → last_in rows u ≡ None) → AreApart rows → ((u last : ℕ) → u ≢ 0 → last_in rows u ≡ Some last → is_in u (tally rs).live ≡ true) → AreRows rs tail rows (acting_at t last before)
rows_found rs tail t last before rows acts lives low apart known = record {
  own = λ ne. subst IsSome (sym (lives t (acts ne))) refl;
  low = low;
  others = λ u ne live. lives u live;
  apart = apart;
  past = λ u last some ne there gone. none_past rs rows known u last some there gone;
}

-- WHERE NOBODY ACTS nothing is open
pub rest_idle : (base : ℕ) (rs : Steps) (tail : ℕ) (rows : List Row) → IsChained base rs tail rows at_rest → (tally rs).opened ≡ []
rest_idle base rs tail rows h = by_list (tally rs).opened h.running.linked h.at
  where
    by_list : (ds : List (Open Changing)) → AreLinked rs 0 ds → 0 ≡ next_off 0 ds → ds ≡ []
    by_list [] l e = refl
    by_list (d ∷ ds) l e = absurd (let q = l.1 in omega (arith, q, e))
