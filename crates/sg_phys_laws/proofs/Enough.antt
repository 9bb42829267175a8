-- Enough is registered for an opening of a log with one record more, whose operation is registered.
use Rattle.std.proofs.Common.{◌≡◌, ⊎_elim, ◌<◌, ◌≤◌, ℕ, max, ◌==◌, Bool, true, false, List, [], ◌∷◌, ◌++◌, Option, Some, None, map, refl, sym, ap, ◌∙◌, subst, arith}
use mathlib.Core.Logic.{∥∥₁_elim}
use Rattle.std.specs.Prelude.{◌||◌, ◌&&◌, nat_le, if◌then◌else◌}
use Rattle.std.proofs.lemmas.Bool.Decides.{nat_tests}
use Rattle.std.proofs.lemmas.List.{append_assoc, append_cancel_left}
use Rattle.sg_log.specs.Frames.{Numbered}
use Rattle.sg_log.specs.Places.{StandsAt}
use Rattle.sg_ops.specs.Table.{Table}
use Rattle.sg_record.specs.Records.{Record, Says}
use Rattle.sg_record.specs.Records.Says.{Begin, Changed, TopEnd, PhysComp, TopVoid, CompEnd, Save, Commit, End, Checkpoint}
use Rattle.sg_redo.specs.Places.{changed_by}
use Rattle.sg_recovery.specs.Chains.{Formed, next_lsn}
use Rattle.sg_recovery.specs.Formed.{IsLog}
use Rattle.sg_recovery.specs.Laws.{Each}
use Rattle.sg_recovery.specs.Log.{tally, is_in}
use Rattle.sg_recovery.specs.Log.Record.{Change as StepChange, PhysComp as StepPhysComp}
use Rattle.sg_recovery.specs.TakeOff.{AreOwned}
use Rattle.sg_recovery.proofs.Basic.{or_cases, or_left, or_right, and_left, and_right, each_append, each_back, each_both, each_more}
use Rattle.sg_analysis.specs.Sights as sights
use Rattle.sg_analysis.specs.Analysis.{analysis_of, going_on, with_last, oldest_first, is_number}
use Rattle.sg_analysis.specs.Returns.{opens}
use Rattle.sg_analysis.proofs.Lists.{is_in-oldest_first}
use Rattle.sg_places.specs.Asked.{Undone, undone_of, is_among, is_needed, unknown_in, unknown_by, or_else, first_unknown}
use Rattle.sg_actions.specs.Steps.{Step, Steps, step_by, step_of, with_step}
use Rattle.sg_phys_laws.specs.Known.{IsRegistered, IsEnough, AllEnough}
use Rattle.sg_phys_laws.specs.Points.{estimate_or, last_estimate, redo_point, IsMarked}
use Rattle.sg_phys_laws.specs.States.{steps_of}
use Rattle.sg_phys_laws.proofs.Agreeing.{front_or, nothing}
use Rattle.sg_phys_laws.proofs.Backward.{StandsIn, stand_in, formed_one, owned_one, live_one, open_one, system_opens}
use Rattle.sg_phys_laws.proofs.Points.{behind_both}
use Rattle.sg_phys_laws.proofs.Sets.{code_set}
use Rattle.sg_phys_laws.proofs.Sighted.{steps_same}
use Rattle.sg_phys_laws.proofs.Stepping.{steps_more}
use Rattle.sg_phys_laws.proofs.Wrapped.{append_none}

-- WHERE EACH RECORD that is needed has its operation registered, no code is found that isn't; and the other way round
each_or : (t : Table) (point : ℕ) (undone : Undone) (n : Numbered) (ns : List Numbered) (o : Option ℕ) → unknown_by t point undone n.lsn n.is ≡ o → or_else o (first_unknown t point undone ns) ≡ None
    → (first_unknown t point undone ns ≡ None → Each (λ m. unknown_by t point undone m.lsn m.is ≡ None) ns) → Each (λ m. unknown_by t point undone m.lsn m.is ≡ None) (n ∷ ns)
each_or t point undone n ns None is h more = (is, more h)
each_or t point undone n ns (Some x) is h more = absurd cc

none_each : (t : Table) (point : ℕ) (undone : Undone) (ns : List Numbered) → first_unknown t point undone ns ≡ None → Each (λ n. unknown_by t point undone n.lsn n.is ≡ None) ns
none_each t point undone [] e = tt
none_each t point undone (n ∷ ns) e = each_or t point undone n ns (unknown_by t point undone n.lsn n.is) refl e (none_each t point undone ns)

none_all : (t : Table) (point : ℕ) (undone : Undone) (ns : List Numbered) → Each (λ n. unknown_by t point undone n.lsn n.is ≡ None) ns → first_unknown t point undone ns ≡ None
none_all t point undone [] h = refl
none_all t point undone (n ∷ ns) h = ap (λ (o : Option ℕ). or_else o (first_unknown t point undone ns)) h.0 ∙ none_all t point undone ns h.1

-- what is needed, by what a log says
abbrev pub needed_by : (point : ℕ) → Steps → (lsn : ℕ) → Record → Bool
needed_by point rs lsn r = nat_le point lsn || (is_in r.transaction (tally rs).live || (r.transaction == 0 && is_in lsn (system_opens (tally rs).opened)))

among_losers : (u : ℕ) (rs : Steps) (us : List ℕ) → is_among u (map (with_last rs) us) ≡ is_in u us
among_losers u rs [] = refl
among_losers u rs (v ∷ us) = ap (λ b. v == u || b) (among_losers u rs us)

number_in : (n : ℕ) (ns : List ℕ) → is_number n ns ≡ is_in n ns
number_in n [] = refl
number_in n (m ∷ ns) = ap (λ b. m == n || b) (number_in n ns)

needed_is : (base point : ℕ) (ns : List Numbered) (lsn : ℕ) (r : Record) → is_needed point (undone_of (analysis_of base ns)) lsn r ≡ needed_by point (steps_of ns) lsn r
needed_is base point ns lsn r =
    let rs : Steps = sights.steps_of ns in
    ap (λ (b : Bool). nat_le point lsn || (b || (r.transaction == 0 && is_number lsn (oldest_first (opens rs 0))))) (among_losers r.transaction rs (going_on rs) ∙ is_in-oldest_first r.transaction (tally rs).live)
    ∙ (ap (λ (b : Bool). nat_le point lsn || (is_in r.transaction (tally rs).live || (r.transaction == 0 && b))) (number_in lsn (oldest_first (opens rs 0)) ∙ is_in-oldest_first lsn (opens rs 0))
    ∙ ap (λ (x : Steps). needed_by point x lsn r) (steps_same [] ns))

-- a record of a formed log that is needed where the log has one record more was needed before
need_before : (point later : ℕ) (rs : Steps) (at : ℕ) (o : Option Step) (lsn : ℕ) (r : Record) → point ≤ later → Formed (with_step rs at o) → AreOwned (with_step rs at o) → r.transaction < lsn → lsn < next_lsn rs
    → needed_by later (with_step rs at o) lsn r ≡ true → needed_by point rs lsn r ≡ true
need_before point later rs at o lsn r le formed owned below low h =
    let late : Bool = nat_le point lsn in
    let live : Bool = is_in r.transaction (tally rs).live in
    let own : Bool = r.transaction == 0 && is_in lsn (system_opens (tally rs).opened) in
    let live' : Bool = is_in r.transaction (tally (with_step rs at o)).live in
    let own' : Bool = r.transaction == 0 && is_in lsn (system_opens (tally (with_step rs at o)).opened) in
    or_cases (nat_le later lsn) (live' || own') ((late || (live || own)) ≡ true) h
    (λ e. or_left late (live || own) (grind (arith, nat_tests, e, le)))
    (λ rest. or_right late (live || own) (or_cases live' own' ((live || own) ≡ true) rest
    (λ e. or_left live own (live_one r.transaction rs at o formed owned (omega (arith, below, low)) e))
    (λ e. or_right live own (both (r.transaction == 0) (is_in lsn (system_opens (tally rs).opened)) (and_left (r.transaction == 0) (is_in lsn (system_opens (tally (with_step rs at o)).opened)) e)
    (open_one lsn rs at o formed low (and_right (r.transaction == 0) (is_in lsn (system_opens (tally (with_step rs at o)).opened)) e))))))
  where
    both : (a b : Bool) → a ≡ true → b ≡ true → (a && b) ≡ true
    both true b h k = k
    both false b h k = absurd cc

-- a record that names an operation is a change, which is its transaction's
names_owned : (t : Table) (next lsn u p code : ℕ) (says : Says) → unknown_in t (changed_by says) ≡ Some code → ((x : Step) → step_by u p says ≡ Some x → StandsIn next lsn x) → (u < lsn) × (lsn < next)
names_owned t next lsn u p code Begin e h = absurd cc
names_owned t next lsn u p code (Changed c) e h = let s = h (StepChange u p c) refl in (s.owned, s.low)
names_owned t next lsn u p code (TopEnd w n) e h = absurd cc
names_owned t next lsn u p code (PhysComp w c) e h = let s = h (StepPhysComp u p w c) refl in (s.owned, s.low)
names_owned t next lsn u p code (TopVoid w) e h = absurd cc
names_owned t next lsn u p code (CompEnd w) e h = absurd cc
names_owned t next lsn u p code (Save m) e h = absurd cc
names_owned t next lsn u p code Commit e h = absurd cc
names_owned t next lsn u p code End e h = absurd cc
names_owned t next lsn u p code (Checkpoint x l) e h = absurd cc

-- where one record more estimates no less, history is repeated from no less
point_one : (base e lsn : ℕ) (x : Says) → IsMarked (λ k. max base e ≤ k) lsn x → max base e ≤ max base (estimate_or e x)
point_one base e lsn (Checkpoint estimate l) mark = let m = mark.0 in omega (arith, m)
point_one base e lsn Begin mark = omega arith
point_one base e lsn (Changed c) mark = omega arith
point_one base e lsn (TopEnd w n) mark = omega arith
point_one base e lsn (PhysComp w c) mark = omega arith
point_one base e lsn (TopVoid w) mark = omega arith
point_one base e lsn (CompEnd w) mark = omega arith
point_one base e lsn (Save m) mark = omega arith
point_one base e lsn Commit mark = omega arith
point_one base e lsn End mark = omega arith

point_later : (base : ℕ) (xs : List Numbered) (x : Numbered) → IsMarked (λ k. redo_point base xs ≤ k) x.lsn x.is.says → redo_point base xs ≤ redo_point base (xs ++ x ∷ [])
point_later base xs x mark = subst (λ (e : ℕ). redo_point base xs ≤ max base e) (sym (behind_both base xs (x ∷ []))) (point_one base (last_estimate base xs) x.lsn x.is.says mark)

-- ENOUGH IS REGISTERED still
module _ (t : Table) (base : ℕ) (xs : List Numbered) (x : Numbered) (mark : IsMarked (λ k. redo_point base xs ≤ k) x.lsn x.is.says)
    (formed : Formed (with_step (steps_of xs) x.lsn (step_of x.is))) (owned : AreOwned (with_step (steps_of xs) x.lsn (step_of x.is))) where
  abbrev rs : Steps
  rs = steps_of xs

  abbrev point : ℕ
  point = redo_point base (xs ++ x ∷ [])

  abbrev undone : Undone
  undone = undone_of (analysis_of base (xs ++ x ∷ []))

  -- for a record before it
  one : (n : Numbered) → ((y : Step) → step_of n.is ≡ Some y → StandsIn (next_lsn rs) n.lsn y) → unknown_by t (redo_point base xs) (undone_of (analysis_of base xs)) n.lsn n.is ≡ None → unknown_by t point undone n.lsn n.is ≡ None
  one n stands was = by_name (unknown_in t (changed_by n.is.says)) refl
    where
      by_need : (code : ℕ) (b : Bool) → unknown_in t (changed_by n.is.says) ≡ Some code → is_needed point undone n.lsn n.is ≡ b → (if b then unknown_in t (changed_by n.is.says) else None) ≡ None
      by_need code false is need = refl
      by_need code true is need =
          let s = names_owned t (next_lsn rs) n.lsn n.is.transaction n.is.previous code n.is.says is stands in
          let before : needed_by (redo_point base xs) rs n.lsn n.is ≡ true =
          need_before (redo_point base xs) point rs x.lsn (step_of x.is) n.lsn n.is (point_later base xs x mark) formed owned s.0 s.1
          (subst (λ (y : Steps). needed_by point y n.lsn n.is ≡ true) (steps_more xs x) (sym (needed_is base point (xs ++ x ∷ []) n.lsn n.is) ∙ need)) in
          sym (ap (λ (b : Bool). if b then unknown_in t (changed_by n.is.says) else None) (needed_is base (redo_point base xs) xs n.lsn n.is ∙ before)) ∙ was

      none : (b : Bool) → unknown_in t (changed_by n.is.says) ≡ None → (if b then unknown_in t (changed_by n.is.says) else None) ≡ None
      none true is = is
      none false is = refl

      by_name : (o : Option ℕ) → unknown_in t (changed_by n.is.says) ≡ o → unknown_by t point undone n.lsn n.is ≡ None
      by_name None is = none (is_needed point undone n.lsn n.is) is
      by_name (Some code) is = by_need code (is_needed point undone n.lsn n.is) is refl

  -- and for itself
  itself : IsRegistered t x.is → unknown_by t point undone x.lsn x.is ≡ None
  itself is = by (is_needed point undone x.lsn x.is)
    where
      by : (b : Bool) → (if b then unknown_in t (changed_by x.is.says) else None) ≡ None
      by true = is
      by false = refl

  pub enough_more : IsRegistered t x.is → IsEnough t base xs → IsEnough t base (xs ++ x ∷ [])
  enough_more registered enough =
      let stands = stand_in [] xs (formed_one rs x.lsn (step_of x.is) formed) (owned_one rs x.lsn (step_of x.is) owned) in
      none_all t point undone (xs ++ x ∷ [])
      (each_append (λ n. unknown_by t point undone n.lsn n.is ≡ None) xs (x ∷ [])
      (each_more (λ n. ((y : Step) → step_of n.is ≡ Some y → StandsIn (next_lsn rs) n.lsn y) × (unknown_by t (redo_point base xs) (undone_of (analysis_of base xs)) n.lsn n.is ≡ None)) (λ n. unknown_by t point undone n.lsn n.is ≡ None) xs (λ n h. one n h.0 h.1)
      (each_both (λ n. (y : Step) → step_of n.is ≡ Some y → StandsIn (next_lsn rs) n.lsn y) (λ n. unknown_by t (redo_point base xs) (undone_of (analysis_of base xs)) n.lsn n.is ≡ None) xs stands
      (none_each t (redo_point base xs) (undone_of (analysis_of base xs)) xs enough)))
      (itself registered, tt))

-- A RECORD THAT IS NEEDED of a log for which enough is registered has its operation registered
pub needed_registered : (t : Table) (base : ℕ) (ns : List Numbered) (lsn : ℕ) (r : Record) → IsEnough t base ns → StandsAt ns lsn r → needed_by (redo_point base ns) (steps_of ns) lsn r ≡ true → IsRegistered t r
needed_registered t base ns lsn r enough stands need = found ns (none_each t (redo_point base ns) (undone_of (analysis_of base ns)) ns enough) stands
  where
    here : (n : Numbered) → n.lsn ≡ lsn → n.is ≡ r → unknown_by t (redo_point base ns) (undone_of (analysis_of base ns)) n.lsn n.is ≡ None → IsRegistered t r
    here n at is h =
        sym (ap (λ (b : Bool). if b then unknown_in t (changed_by r.says) else None) (needed_is base (redo_point base ns) ns lsn r ∙ need))
        ∙ ((λ i. unknown_by t (redo_point base ns) (undone_of (analysis_of base ns)) (sym at i) (sym is i)) ∙ h)

    found : (ms : List Numbered) → Each (λ n. unknown_by t (redo_point base ns) (undone_of (analysis_of base ns)) n.lsn n.is ≡ None) ms → StandsAt ms lsn r → IsRegistered t r
    found [] h s = absurd s
    found (n ∷ ms) h s = ⊎_elim (λ e. here n e.0 e.1 h.0) (λ rest. found ms h.1 rest) s

-- EACH FRONT that has all durable records: of these alone,
pub all_enough_none : (t : Table) (base : ℕ) (ds : List Numbered) → IsEnough t base ds → AllEnough t base ds ds
all_enough_none t base ds enough front more e =
    let none : front ++ more ≡ [] = append_cancel_left ds (front ++ more) [] (sym (append_assoc ds front more) ∙ (e ∙ sym (append_none ds))) in
    subst (λ (l : List Numbered). IsEnough t base (ds ++ l)) (sym (nothing front more none)) (subst (IsEnough t base) (sym (append_none ds)) enough)

-- all records are one,
pub all_enough_whole : (t : Table) (base : ℕ) (ds ps : List Numbered) → AllEnough t base ds (ds ++ ps) → IsEnough t base (ds ++ ps)
all_enough_whole t base ds ps enough = enough ps [] (append_none (ds ++ ps))

-- with one record more,
pub all_enough_more : (t : Table) (base : ℕ) (ds ps : List Numbered) (x : Numbered) → IsMarked (λ k. redo_point base (ds ++ ps) ≤ k) x.lsn x.is.says → ∥ IsLog base (with_step (steps_of (ds ++ ps)) x.lsn (step_of x.is)) ∥₁
    → IsRegistered t x.is → AllEnough t base ds (ds ++ ps) → AllEnough t base ds ((ds ++ ps) ++ x ∷ [])
all_enough_more t base ds ps x mark formed registered all front more e = ⊎_elim
    (λ is_all. subst (IsEnough t base) (sym is_all) (∥∥₁_elim formed (code_set _ _) (λ log. enough_more t base (ds ++ ps) x mark log.chained log.owned registered (all_enough_whole t base ds ps all))))
    (λ less. all front less.0 less.1)
    (front_or (ds ++ front) more (ds ++ ps) x e)

-- and with more of them durable
pub all_enough_durable : (t : Table) (base : ℕ) (ds since all : List Numbered) → AllEnough t base ds all → AllEnough t base (ds ++ since) all
all_enough_durable t base ds since all enough front more e =
    subst (IsEnough t base) (sym (append_assoc ds since front)) (enough (since ++ front) more (ap (λ (l : List Numbered). l ++ more) (sym (append_assoc ds since front)) ∙ e))

-- WHAT IS KEPT OF A LOG whose front is cut off has enough registered too: it says what all of the log said, and history is repeated from no
-- earlier point
pub enough_kept : (t : Table) (base p : ℕ) (gone kept : List Numbered) → redo_point base (gone ++ kept) ≤ redo_point p kept → tally (steps_of kept) ≡ tally (steps_of (gone ++ kept)) → IsEnough t base (gone ++ kept) → IsEnough t p kept
enough_kept t base p gone kept later says enough =
    none_all t (redo_point p kept) (undone_of (analysis_of p kept)) kept
    (each_more (λ n. unknown_by t (redo_point base (gone ++ kept)) (undone_of (analysis_of base (gone ++ kept))) n.lsn n.is ≡ None) (λ n. unknown_by t (redo_point p kept) (undone_of (analysis_of p kept)) n.lsn n.is ≡ None) kept (λ n was. one n was)
    (each_back (λ n. unknown_by t (redo_point base (gone ++ kept)) (undone_of (analysis_of base (gone ++ kept))) n.lsn n.is ≡ None) gone kept
    (none_each t (redo_point base (gone ++ kept)) (undone_of (analysis_of base (gone ++ kept))) (gone ++ kept) enough)))
  where
    earlier : (n : Numbered) → needed_by (redo_point p kept) (steps_of kept) n.lsn n.is ≡ true → needed_by (redo_point base (gone ++ kept)) (steps_of (gone ++ kept)) n.lsn n.is ≡ true
    earlier n h =
        let rest : Bool = is_in n.is.transaction (tally (steps_of (gone ++ kept))).live || (n.is.transaction == 0 && is_in n.lsn (system_opens (tally (steps_of (gone ++ kept))).opened)) in
        let same : (nat_le (redo_point p kept) n.lsn || rest) ≡ true =
        subst (λ k. (nat_le (redo_point p kept) n.lsn || (is_in n.is.transaction k.live || (n.is.transaction == 0 && is_in n.lsn (system_opens k.opened)))) ≡ true) says h in
        or_cases (nat_le (redo_point p kept) n.lsn) rest ((nat_le (redo_point base (gone ++ kept)) n.lsn || rest) ≡ true) same
        (λ e. or_left (nat_le (redo_point base (gone ++ kept)) n.lsn) rest (grind (arith, nat_tests, e, later)))
        (λ e. or_right (nat_le (redo_point base (gone ++ kept)) n.lsn) rest e)

    one : (n : Numbered) → unknown_by t (redo_point base (gone ++ kept)) (undone_of (analysis_of base (gone ++ kept))) n.lsn n.is ≡ None → unknown_by t (redo_point p kept) (undone_of (analysis_of p kept)) n.lsn n.is ≡ None
    one n was = by_need (is_needed (redo_point p kept) (undone_of (analysis_of p kept)) n.lsn n.is) refl
      where
        by_need : (b : Bool) → is_needed (redo_point p kept) (undone_of (analysis_of p kept)) n.lsn n.is ≡ b → (if b then unknown_in t (changed_by n.is.says) else None) ≡ None
        by_need false need = refl
        by_need true need =
            let before = earlier n (sym (needed_is p (redo_point p kept) kept n.lsn n.is) ∙ need) in
            sym (ap (λ (b : Bool). if b then unknown_in t (changed_by n.is.says) else None) (needed_is base (redo_point base (gone ++ kept)) (gone ++ kept) n.lsn n.is ∙ before)) ∙ was
