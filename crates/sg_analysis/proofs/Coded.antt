-- The operations that an opening needs.
use Rattle.std.proofs.Common.{◌≡◌, ◌⊎◌, inl, inr, ℕ, ◌≤◌, ◌==◌, ◌||◌, nat_le, true, not, ◌&&◌, nat_lt, List, [], ◌∷◌, ◌++◌, refl, sym, subst}
use Rattle.std.specs.Prelude.{if◌then◌else◌}
use Rattle.sg_record.specs.Changes.{Change as Changing}
use Rattle.sg_record.specs.Records.{Says}
use Rattle.sg_record.specs.Records.Says.{Begin as SaysBegin, Changed as SaysChanged, TopEnd as SaysTopEnd, PhysComp as SaysPhysComp, TopVoid as SaysTopVoid, CompEnd as SaysCompEnd, Save as SaysSave, Commit as SaysCommit, End as SaysEnd, Checkpoint as SaysCheckpoint}
use Rattle.sg_recovery.specs.Log.{Open, tally, is_in}
use Rattle.sg_recovery.specs.Laws.{Each}
use Rattle.sg_recovery.proofs.Basic.{each_more, each_filter, same_number, le_true, or_left, or_right}
use Rattle.sg_log.specs.Frames.{Numbered}
use Rattle.sg_analysis.specs.Codes.{Code, codes_in, codes_said, redo_point, is_open_at, is_needed, codes_needed, codes, IsNamed, AreNamed, EachIsNeeded, OpenOnesAreNeeded}
use Rattle.sg_analysis.specs.Sights.{Steps, sight_by, sight_of, with_step, steps_behind, steps_of}

named_front : (code : Code) (some others : List Code) → IsNamed code some → IsNamed code (some ++ others)
named_front code [] others h = absurd h
named_front code (c ∷ some) others (inl is) = inl is
named_front code (c ∷ some) others (inr h) = inr (named_front code some others h)

named_back : (code : Code) (some others : List Code) → IsNamed code others → IsNamed code (some ++ others)
named_back code [] others h = h
named_back code (c ∷ some) others h = inr (named_back code some others h)

-- all are among themselves
named_own : (some : List Code) → AreNamed some some
named_own [] = tt
named_own (c ∷ some) = (inl refl, each_more (λ code. IsNamed code some) (λ code. IsNamed code (c ∷ some)) some (λ code h. inr h) (named_own some))

-- of records of which each is needed that passes a test
module _ (point : ℕ) (live : List ℕ) (opened : List (Open Changing)) where
  -- those of one of them
  here : (n : Numbered) (ns : List Numbered) → is_needed point live opened n ≡ true → AreNamed (codes_said n.is.says) (codes_needed point live opened (n ∷ ns))
  here n ns is_so =
      subst (λ b. AreNamed (codes_said n.is.says) ((if b then codes_said n.is.says else []) ++ codes_needed point live opened ns)) (sym is_so)
      (each_more (λ code. IsNamed code (codes_said n.is.says)) (λ code. IsNamed code (codes_said n.is.says ++ codes_needed point live opened ns)) (codes_said n.is.says) (λ code h. named_front code (codes_said n.is.says) (codes_needed point live opened ns) h) (named_own (codes_said n.is.says)))

  later : (n : Numbered) (ns : List Numbered) (some : List Code) → AreNamed some (codes_needed point live opened ns) → AreNamed some (codes_needed point live opened (n ∷ ns))
  later n ns some h =
      each_more (λ code. IsNamed code (codes_needed point live opened ns)) (λ code. IsNamed code (codes_needed point live opened (n ∷ ns))) some
      (λ code k. named_back code (if is_needed point live opened n then codes_said n.is.says else []) (codes_needed point live opened ns) k) h

  pub needed_all : (ns : List Numbered) → Each (λ n. is_needed point live opened n ≡ true → AreNamed (codes_said n.is.says) (codes_needed point live opened ns)) ns
  needed_all [] = tt
  needed_all (n ∷ ns) = (
    here n ns,
    each_more (λ m. is_needed point live opened m ≡ true → AreNamed (codes_said m.is.says) (codes_needed point live opened ns)) (λ m. is_needed point live opened m ≡ true → AreNamed (codes_said m.is.says) (codes_needed point live opened (n ∷ ns))) ns
        (λ m h is_so. later n ns (codes_said m.is.says) (h is_so)) (needed_all ns),
  )

  -- a change is among these records
  abbrev pub Stands : Open Changing → List Numbered → Type 0
  Stands d [] = ⊥
  Stands d (n ∷ ns) = ((n.lsn ≡ d.lsn) × (n.is.says ≡ SaysChanged d.change)) ⊎ Stands d ns

  pub open_named : (d : Open Changing) (ns : List Numbered) → is_open_at d.lsn opened ≡ true → Stands d ns → AreNamed (codes_in d.change) (codes_needed point live opened ns)
  open_named d [] is_so h = absurd h
  open_named d (n ∷ ns) is_so (inl is) =
      let open_here : is_open_at n.lsn opened ≡ true = subst (λ l. is_open_at l opened ≡ true) (sym is.0) is_so in
      let needed : is_needed point live opened n ≡ true = or_right (nat_le point n.lsn) (is_in n.is.transaction live || is_open_at n.lsn opened) (or_right (is_in n.is.transaction live) (is_open_at n.lsn opened) open_here) in
      subst (λ s. AreNamed (codes_said s) (codes_needed point live opened (n ∷ ns))) is.1 (here n ns needed)
  open_named d (n ∷ ns) is_so (inr h) = later n ns (codes_in d.change) (open_named d ns is_so h)

-- an open change is at its own number
at_own : (ds : List (Open Changing)) → Each (λ d. is_open_at d.lsn ds ≡ true) ds
at_own [] = tt
at_own (d ∷ ds) = (
  or_left (d.lsn == d.lsn) (is_open_at d.lsn ds) (same_number d.lsn),
  each_more (λ e. is_open_at e.lsn ds ≡ true) (λ e. is_open_at e.lsn (d ∷ ds) ≡ true) ds (λ e h. or_right (d.lsn == e.lsn) (is_open_at e.lsn ds) h) (at_own ds),
)

-- what holds of the changes that are open, and of one that a record makes, holds of those that are open behind it
open_kept : (P : Open Changing → Type 0) (rs : Steps) (n : Numbered) → Each P (tally rs).opened → ((c : Changing) → n.is.says ≡ SaysChanged c → P (record { lsn = n.lsn; transaction = n.is.transaction; change = c }))
    → Each P (tally (with_step rs n.lsn (sight_of n.is))).opened
open_kept P rs n h new = by_kind n.is.says refl
  where
    by_kind : (s : Says) → n.is.says ≡ s → Each P (tally (with_step rs n.lsn (sight_by n.is.transaction n.is.previous s))).opened
    by_kind SaysBegin e = h
    by_kind (SaysChanged c) e = (new c e, h)
    by_kind (SaysTopEnd u note) e = each_filter P (λ d. not (d.transaction == n.is.transaction)) (tally rs).opened h
    by_kind (SaysPhysComp u c) e = each_filter P (λ d. not (d.transaction == n.is.transaction && nat_lt u d.lsn)) (tally rs).opened h
    by_kind (SaysTopVoid u) e = each_filter P (λ d. not (d.transaction == n.is.transaction)) (tally rs).opened h
    by_kind (SaysCompEnd u) e = each_filter P (λ d. not (d.transaction == n.is.transaction)) (tally rs).opened h
    by_kind (SaysSave m) e = h
    by_kind SaysCommit e = h
    by_kind SaysEnd e = h
    by_kind (SaysCheckpoint estimate live) e = h

-- each open change is a record of the log
module _ (point : ℕ) (live : List ℕ) (opened : List (Open Changing)) where
  abbrev IsIn : Open Changing → List Numbered → Type 0
  IsIn d ns = Stands point live opened d ns

  all_in : (P : Open Changing → Type 0) (ns : List Numbered) (rs : Steps) → Each P (tally rs).opened → ((d : Open Changing) → IsIn d ns → P d) → Each P (tally (steps_behind rs ns)).opened
  all_in P [] rs h new = h
  all_in P (n ∷ ns) rs h new = all_in P ns (with_step rs n.lsn (sight_of n.is)) (open_kept P rs n h (λ c e. new (record { lsn = n.lsn; transaction = n.is.transaction; change = c }) (inl (refl, e)))) (λ d k. new d (inr k))

pub each_is_needed : EachIsNeeded
each_is_needed base ns =
    let point = redo_point base ns in
    let live = (tally (steps_of ns)).live in
    let opened = (tally (steps_of ns)).opened in
    each_more (λ n. is_needed point live opened n ≡ true → AreNamed (codes_said n.is.says) (codes_needed point live opened ns)) (λ n. (point ≤ n.lsn) ⊎ (is_in n.is.transaction live ≡ true) → AreNamed (codes_said n.is.says) (codes base ns)) ns
    (λ n h why. h (by_cause point live opened n why)) (needed_all point live opened ns)
  where
    by_cause : (point : ℕ) (live : List ℕ) (opened : List (Open Changing)) (n : Numbered) → (point ≤ n.lsn) ⊎ (is_in n.is.transaction live ≡ true) → is_needed point live opened n ≡ true
    by_cause point live opened n (inl le) = or_left (nat_le point n.lsn) (is_in n.is.transaction live || is_open_at n.lsn opened) (le_true point n.lsn le)
    by_cause point live opened n (inr on) = or_right (nat_le point n.lsn) (is_in n.is.transaction live || is_open_at n.lsn opened) (or_left (is_in n.is.transaction live) (is_open_at n.lsn opened) on)

pub open_ones_are_needed : OpenOnesAreNeeded
open_ones_are_needed base ns =
    let point = redo_point base ns in
    let live = (tally (steps_of ns)).live in
    let opened = (tally (steps_of ns)).opened in
    both opened (at_own opened) (all_in point live opened (λ d. is_open_at d.lsn opened ≡ true → AreNamed (codes_in d.change) (codes base ns)) ns [] tt (λ d h is_so. open_named point live opened d ns is_so h))
  where
    both : (ds : List (Open Changing)) → Each (λ d. is_open_at d.lsn (tally (steps_of ns)).opened ≡ true) ds → Each (λ d. is_open_at d.lsn (tally (steps_of ns)).opened ≡ true → AreNamed (codes_in d.change) (codes base ns)) ds → Each (λ d. AreNamed (codes_in d.change) (codes base ns)) ds
    both [] h k = tt
    both (d ∷ ds) h k = (k.0 h.0, both ds h.1 k.1)
