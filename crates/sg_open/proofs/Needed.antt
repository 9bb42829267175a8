-- A code that opening finds unknown is one that the log needs.
use Rattle.std.proofs.Common.{◌≡◌, inl, inr, ℕ, ◌==◌, ◌&&◌, ◌||◌, nat_le, not, Bool, true, false, cond, is_some, List, [], ◌∷◌, map, Option, Some, None, refl, sym, ap, ◌∙◌, subst}
use Rattle.sg_disk.specs.Disk.{Image, View}
use Rattle.sg_ops.specs.Table.{Table, record_at, range_at}
use Rattle.sg_record.specs.Changes.{Change}
use Rattle.sg_record.specs.Changes.Change.{Page, SegWrite, SegOp}
use Rattle.sg_record.specs.Records.{Says}
use Rattle.sg_record.specs.Records.Says.{Begin as SaysBegin, Changed as SaysChanged, TopEnd as SaysTopEnd, PhysComp as SaysPhysComp, TopVoid as SaysTopVoid, CompEnd as SaysCompEnd, Save as SaysSave, Commit as SaysCommit, End as SaysEnd, Checkpoint as SaysCheckpoint}
use Rattle.sg_redo.specs.Places.{changed_by}
use Rattle.sg_recovery.specs.Log.{Open, tally, is_in, open_of}
use Rattle.sg_recovery.specs.Laws.{Each}
use Rattle.sg_recovery.proofs.Basic.{each_more, or_left, or_right, or_cases, and_right}
use Rattle.sg_log.specs.Frames.{Numbered}
use Rattle.sg_analysis.specs.Sights.{Steps, steps_of}
use Rattle.sg_analysis.specs.Analysis.{analysis_of, with_last, going_on, oldest_first, is_number}
use Rattle.sg_analysis.specs.Returns.{opens}
use Rattle.sg_analysis.specs.Codes as needs
use Rattle.sg_analysis.specs.Codes.{Code, codes, codes_in, codes_said, codes_needed, is_open_at, IsNamed, AreNamed}
use Rattle.sg_analysis.specs.Codes.Sort.{OnItem, OnRange}
use Rattle.sg_analysis.proofs.Coded.{needed_all}
use Rattle.sg_analysis.proofs.Lists.{is_in-oldest_first}
use Rattle.sg_places.specs.Asked as asked
use Rattle.sg_places.specs.Asked.{Undone, undone_of, is_among, unknown_in, unknown_by, first_unknown, or_else}
use Rattle.sg_find.specs.Synced.{redo_point}
use Rattle.sg_find.specs.declared.fault.OpenFault.TheVariants.{UnknownOperation}
use Rattle.sg_engine.specs.Engine.{Origin}
use Rattle.sg_open.specs.Refusals.{IsRead, IsCause, StoreRefused}
use Rattle.sg_open.specs.Needed.{is_known, IsRegistered, IsUnregistered, codes_of}

-- the losers are those that go on
among_losers : (t : ℕ) (rs : Steps) (ts : List ℕ) → is_among t (map (with_last rs) ts) ≡ is_in t ts
among_losers t rs [] = refl
among_losers t rs (u ∷ ts) = ap (λ b. u == t || b) (among_losers t rs ts)

pub is_loser : (t : ℕ) (rs : Steps) → is_among t (map (with_last rs) (going_on rs)) ≡ is_in t (tally rs).live
is_loser t rs = among_losers t rs (going_on rs) ∙ is_in-oldest_first t (tally rs).live

pub number_in : (n : ℕ) (ns : List ℕ) → is_number n ns ≡ is_in n ns
number_in n [] = refl
number_in n (m ∷ ns) = ap (λ b. m == n || b) (number_in n ns)

-- the system's open changes are open ones
open_number : (n : ℕ) (ds : List (Open Change)) → is_in n (map (λ d. d.lsn) (open_of 0 ds)) ≡ true → is_open_at n ds ≡ true
open_number n [] h = absurd (cc)
open_number n (d ∷ ds) h = by_test (d.transaction == 0) h (open_number n ds)
  where
    by_test : (b : Bool) → is_in n (map (λ e. e.lsn) (cond b (d ∷ open_of 0 ds) (open_of 0 ds))) ≡ true → (is_in n (map (λ e. e.lsn) (open_of 0 ds)) ≡ true → is_open_at n ds ≡ true)
        → (d.lsn == n || is_open_at n ds) ≡ true
    by_test true z more = or_cases (d.lsn == n) (is_in n (map (λ e. e.lsn) (open_of 0 ds))) ((d.lsn == n || is_open_at n ds) ≡ true) z
        (λ e. or_left (d.lsn == n) (is_open_at n ds) e) (λ e. or_right (d.lsn == n) (is_open_at n ds) (more e))
    by_test false z more = or_right (d.lsn == n) (is_open_at n ds) (more z)

systems_number : (n : ℕ) (rs : Steps) → is_number n (oldest_first (opens rs 0)) ≡ true → is_open_at n (tally rs).opened ≡ true
systems_number n rs h = open_number n (tally rs).opened (sym (number_in n (oldest_first (opens rs 0)) ∙ is_in-oldest_first n (opens rs 0)) ∙ h)

-- a record whose operation is asked for is one whose operation is needed
asked_needed : (base point : ℕ) (ns : List Numbered) (n : Numbered) → asked.is_needed point (undone_of (analysis_of base ns)) n.lsn n.is ≡ true
    → needs.is_needed point (tally (steps_of ns)).live (tally (steps_of ns)).opened n ≡ true
asked_needed base point ns n h =
    let rs = steps_of ns in
    let losers = is_among n.is.transaction (analysis_of base ns).losers in
    let systems = n.is.transaction == 0 && is_number n.lsn (analysis_of base ns).opened in
    let live = is_in n.is.transaction (tally rs).live in
    let opened = is_open_at n.lsn (tally rs).opened in
    let goal : Type 0 = (nat_le point n.lsn || (live || opened)) ≡ true in
    or_cases (nat_le point n.lsn) (losers || systems) goal h
    (λ late. or_left (nat_le point n.lsn) (live || opened) late)
    (λ undone. or_right (nat_le point n.lsn) (live || opened)
    (or_cases losers systems ((live || opened) ≡ true) undone
    (λ loser. or_left live opened (sym (is_loser n.is.transaction rs) ∙ loser))
    (λ own. or_right live opened (systems_number n.lsn rs (and_right (n.is.transaction == 0) (is_number n.lsn (analysis_of base ns).opened) own)))))

module _ (t : Table) (ks : List Code) (code : ℕ) where
  -- the change whose code isn't registered names it
  change_names : (c : Change) → unknown_in t (Some c) ≡ Some code → AreNamed (codes_in c) ks → IsUnregistered t ks code
  change_names (Page c) e named = by_test (c.operation == 6 || c.operation == 7) (is_some (record_at t c.code)) refl e named
    where
      by_test : (b k : Bool) → is_some (record_at t c.code) ≡ k → ◌≡◌ {A = Option ℕ} (cond (b && not k) (Some c.code) None) (Some code)
          → AreNamed (cond b (record { sort = OnItem; code = c.code } ∷ []) []) ks → IsUnregistered t ks code
      by_test true false known z named = (record { sort = OnItem; code = c.code }, named.0, cc, known)
      by_test true true known z named = absurd (cc)
      by_test false k known z named = absurd (cc)
  change_names (SegWrite c) e named = absurd (cc)
  change_names (SegOp c) e named = by_test (is_some (range_at t c.code)) refl e named
    where
      by_test : (k : Bool) → is_some (range_at t c.code) ≡ k → ◌≡◌ {A = Option ℕ} (cond k None (Some c.code)) (Some code)
          → AreNamed (record { sort = OnRange; code = c.code } ∷ []) ks → IsUnregistered t ks code
      by_test false known z named = (record { sort = OnRange; code = c.code }, named.0, cc, known)
      by_test true known z named = absurd (cc)

  says_names : (s : Says) → unknown_in t (changed_by s) ≡ Some code → AreNamed (codes_said s) ks → IsUnregistered t ks code
  says_names SaysBegin e named = absurd (cc)
  says_names (SaysChanged c) e named = change_names c e named
  says_names (SaysTopEnd u note) e named = absurd (cc)
  says_names (SaysPhysComp u c) e named = change_names c e named
  says_names (SaysTopVoid u) e named = absurd (cc)
  says_names (SaysCompEnd u) e named = absurd (cc)
  says_names (SaysSave m) e named = absurd (cc)
  says_names SaysCommit e named = absurd (cc)
  says_names SaysEnd e named = absurd (cc)
  says_names (SaysCheckpoint estimate live) e named = absurd (cc)

  -- the first one that isn't is among these, where the operations of each record that is asked for are
  first_named : (point : ℕ) (undone : Undone) (ns : List Numbered) → Each (λ n. asked.is_needed point undone n.lsn n.is ≡ true → AreNamed (codes_said n.is.says) ks) ns
      → first_unknown t point undone ns ≡ Some code → IsUnregistered t ks code
  first_named point undone [] named e = absurd (cc)
  first_named point undone (n ∷ ns) named e = by_first (unknown_by t point undone n.lsn n.is) refl e (first_named point undone ns named.1)
    where
      by_need : (b : Bool) → asked.is_needed point undone n.lsn n.is ≡ b → cond b (unknown_in t (changed_by n.is.says)) None ≡ Some code → IsUnregistered t ks code
      by_need true needed z = says_names n.is.says z (named.0 needed)
      by_need false needed z = absurd (cc)

      by_first : (o : Option ℕ) → unknown_by t point undone n.lsn n.is ≡ o → or_else o (first_unknown t point undone ns) ≡ Some code
          → (first_unknown t point undone ns ≡ Some code → IsUnregistered t ks code) → IsUnregistered t ks code
      by_first None u z more = more z
      by_first (Some x) u z more = by_need (asked.is_needed point undone n.lsn n.is) refl (u ∙ z)

-- THE CODE THAT OPENING FINDS UNKNOWN is one that the records need, and none of its sort is registered
pub unknown_is_needed : (t : Table) (base : ℕ) (ns : List Numbered) (code : ℕ) → first_unknown t (redo_point base ns) (undone_of (analysis_of base ns)) ns ≡ Some code → IsUnregistered t (codes base ns) code
unknown_is_needed t base ns code e =
    let point = redo_point base ns in
    let live = (tally (steps_of ns)).live in
    let opened = (tally (steps_of ns)).opened in
    first_named t (codes base ns) code point (undone_of (analysis_of base ns)) ns
    (each_more (λ n. needs.is_needed point live opened n ≡ true → AreNamed (codes_said n.is.says) (codes base ns))
    (λ n. asked.is_needed point (undone_of (analysis_of base ns)) n.lsn n.is ≡ true → AreNamed (codes_said n.is.says) (codes base ns)) ns
    (λ n named asked_for. named (asked_needed base point ns n asked_for)) (needed_all point live opened ns))
    e

of_each : (P : Code → Type 0) (k : Code) (ks : List Code) → Each P ks → IsNamed k ks → P k
of_each P k [] each named = absurd named
of_each P k (j ∷ ks) each (inl is) = subst P is each.0
of_each P k (j ∷ ks) each (inr named) = of_each P k ks each.1 named

-- so there is none, where all are registered
pub none_unregistered : (t : Table) (ks : List Code) (code : ℕ) → Each (IsRegistered t) ks → IsUnregistered t ks code → ⊥
none_unregistered t ks code each (k, named, is, unknown) = let known : is_known t k.sort k.code ≡ true = of_each (IsRegistered t) k ks each named in absurd (cc)

pub cause_names : (t : Table) (c : Image) (code : ℕ) → IsCause t c (UnknownOperation code) → (r : IsRead c) × IsUnregistered t (codes_of c r) code
cause_names t c code (r, e) = (r, unknown_is_needed t r.super.base r.log.records code e)

pub cause_never : (t : Table) (c : Image) (code : ℕ) → ((r : IsRead c) → Each (IsRegistered t) (codes_of c r)) → IsCause t c (UnknownOperation code) → ⊥
cause_never t c code each h = let why = cause_names t c code h in none_unregistered t (codes_of c why.0) code (each why.0) why.1

pub refusal_names : (told : Bool) (t : Table) (o : Origin) (ds : List Numbered) (old new : View) (code : ℕ) → StoreRefused told t o ds old new (UnknownOperation code) → IsUnregistered t (codes o.super.base ds) code
refusal_names told t o ds old new code e = unknown_is_needed t o.super.base ds code e

pub refusal_never : (told : Bool) (t : Table) (o : Origin) (ds : List Numbered) (old new : View) (code : ℕ) → Each (IsRegistered t) (codes o.super.base ds) → StoreRefused told t o ds old new (UnknownOperation code) → ⊥
refusal_never told t o ds old new code each e = none_unregistered t (codes o.super.base ds) code each (refusal_names told t o ds old new code e)
