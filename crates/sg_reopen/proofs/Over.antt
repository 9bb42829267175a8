-- A log is cut: redo points, all lives, and the images of a cut.
use Rattle.std.proofs.Common.{◌≡◌, ◌≢◌, ◌⊎◌, inl, inr, ⊎_elim, ◌<◌, ◌≤◌, ◌+◌, ℕ, max, Option, Some, None, List, [], ◌∷◌, ◌++◌, Ok, refl, sym, ◌∙◌, ap, subst, arith, append_assoc}
use Rattle.std.proofs.lemmas.Bool.{cases_lt}
use Rattle.sg_disk.specs.Disk.{Image, View, LeavesOnly}
use Rattle.sg_disk.proofs.Moments.{weaker}
use Rattle.sg_log.specs.Frames.{Numbered, gate_after}
use Rattle.sg_log.specs.Held.{Tail}
use Rattle.sg_log.specs.Cut.{IsSplit, gate_of, gone_of, kept_of}
use Rattle.sg_log.proofs.Steps.{gate_later}
use Rattle.sg_pool.specs.declared.pool.Pool.{Pool}
use Rattle.sg_analysis.specs.Sights.{Sight, sight_of, Checkpoint, or_checkpoint, checkpoint_behind, last_checkpoint}
use Rattle.sg_analysis.specs.Sights.Sight.{Stepped, Estimated}
use Rattle.sg_analysis.specs.Analysis.{estimate_or}
use Rattle.sg_find.specs.Synced.{redo_point}
use Rattle.sg_engine.specs.History.{Entry, Homes, made, AreSame}
use Rattle.sg_engine.specs.Engine.{Origin, entries, geometry, IsStanding}
use Rattle.sg_engine.specs.Running.{IsAllowed}
use Rattle.sg_engine.specs.Cut.{Stand, super_at, cut_at, IsCutting}
use Rattle.sg_engine.proofs.Logs.{none_more}
use Rattle.sg_engine.proofs.Cut.{entries_cut, page_made, byte_made}
use Rattle.sg_reopen.specs.Again.{at_home, StandsAgain, MakesSame, AreMarked, ArePoints}
use Rattle.sg_reopen.proofs.Again.{entries_home, makes_more, same_then}
use Rattle.sg_reopen.proofs.Points.{again_first, stands_own}
use Rattle.sg_reopen.specs.Over.{StandsOver}

-- THE REDO POINT of what is kept is one that was allowed
greatest : (A : ℕ → Type 0) (base p e : ℕ) → base ≤ p → A p → A (max base e) → A (max p e)
greatest A base p e le at was = ⊎_elim
    (λ lt. let is : max base e ≡ max p e = omega (arith, le, lt) in subst A is was)
    (λ low. let is : p ≡ max p e = omega (arith, low) in subst A is at)
    (cases_lt p e)

module _ (A : ℕ → Type 0) (base p : ℕ) (le : base ≤ p) (at : A p) where
  with_one : (c : Checkpoint) (ns : List Numbered) → A (max base (estimate_or base (checkpoint_behind (Some c) ns))) → A (max p (estimate_or p (checkpoint_behind (Some c) ns)))
  with_one c [] was = greatest A base p c.1 le at was
  with_one c (n ∷ ns) was = by_sight (sight_of n.is) (λ d. with_one d ns) was
    where
      by_sight : (x : Sight) → ((d : Checkpoint) → A (max base (estimate_or base (checkpoint_behind (Some d) ns))) → A (max p (estimate_or p (checkpoint_behind (Some d) ns))))
          → A (max base (estimate_or base (checkpoint_behind (or_checkpoint (Some c) n.lsn x) ns))) → A (max p (estimate_or p (checkpoint_behind (or_checkpoint (Some c) n.lsn x) ns)))
      by_sight (Stepped x) f = f c
      by_sight (Estimated e) f = f (n.lsn, e)

  with_any : (last : Option Checkpoint) (ns : List Numbered) → A (max base (estimate_or base (checkpoint_behind last ns))) → A (max p (estimate_or p (checkpoint_behind None ns)))
  with_any last [] was = let is : p ≡ max p p = omega arith in subst A is at
  with_any last (n ∷ ns) was = by_sight (sight_of n.is) (λ l. with_any l ns) was
    where
      by_sight : (x : Sight) → ((l : Option Checkpoint) → A (max base (estimate_or base (checkpoint_behind l ns))) → A (max p (estimate_or p (checkpoint_behind None ns))))
          → A (max base (estimate_or base (checkpoint_behind (or_checkpoint last n.lsn x) ns))) → A (max p (estimate_or p (checkpoint_behind (or_checkpoint None n.lsn x) ns)))
      by_sight (Stepped x) f = f last
      by_sight (Estimated e) f = with_one (n.lsn, e) ns

  pub point_kept : (gone kept : List Numbered) → A (redo_point base (gone ++ kept)) → A (redo_point p kept)
  point_kept gone kept was = with_any (checkpoint_behind None gone) kept (subst (λ (l : Option Checkpoint). A (max base (estimate_or base l))) (both None gone) was)
    where
      both : (last : Option Checkpoint) (xs : List Numbered) → checkpoint_behind last (xs ++ kept) ≡ checkpoint_behind (checkpoint_behind last xs) kept
      both last [] = refl
      both last (x ∷ xs) = both (or_checkpoint last x.lsn (sight_of x.is)) xs

pub marks_back : (allowed : ℕ → Type 0) (xs ys : List Numbered) → AreMarked allowed (xs ++ ys) → AreMarked allowed ys
marks_back allowed [] ys marked = marked
marks_back allowed (x ∷ xs) ys marked = marks_back allowed xs ys marked.1

-- ALL LIVES: what the kept records make of a later life's home area is what they make of the cut store's first one
pub cut_same : (o : Origin) (a b : Stand) (before gone kept : List Numbered) (f : Homes) → MakesSame (cut_at o a before) (gone ++ kept) f → MakesSame (cut_at o b (before ++ gone)) kept (made (entries (at_home (cut_at o a before) f) gone) f)
cut_same o a b before gone kept f same =
    let e1 : entries (cut_at o b (before ++ gone)) kept ≡ entries o kept = entries_cut o b (before ++ gone) kept in
    let e2 : entries (at_home (cut_at o a before) f) gone ≡ entries o gone = entries_home (cut_at o a before) f gone ∙ entries_cut o a before gone in
    let e3 : entries (cut_at o a before) (gone ++ kept) ≡ entries o (gone ++ kept) = entries_cut o a before (gone ++ kept) in
    let was : AreSame (geometry o.super) (made (entries o (gone ++ kept)) f) (made (entries o (gone ++ kept)) (made (entries o before) o.first)) = subst (λ (l : List Entry). AreSame (geometry o.super) (made l f) (made l (made (entries o before) o.first))) e3 same in
    subst (λ (l : List Entry). AreSame (geometry o.super) (made (entries (cut_at o b (before ++ gone)) kept) (made l f)) (made (entries (cut_at o b (before ++ gone)) kept) (made (entries o (before ++ gone)) o.first))) (sym e2)
    (subst (λ (l : List Entry). AreSame (geometry o.super) (made l (made (entries o gone) f)) (made l (made (entries o (before ++ gone)) o.first))) (sym e1)
    (record {
      pages = λ n lt. page_made o gone kept n f ∙ (was.pages n lt ∙ (page_made o before (gone ++ kept) n o.first
          ∙ (ap (λ (l : List Numbered). (made (entries o l) o.first).page n) (sym (append_assoc before gone kept)) ∙ sym (page_made o (before ++ gone) kept n o.first))));
      bytes = λ b' i is_band is_byte. byte_made o gone kept b' i f ∙ (was.bytes b' i is_band is_byte ∙ (byte_made o before (gone ++ kept) b' i o.first
          ∙ (ap (λ (l : List Numbered). (made (entries o l) o.first).byte b' i) (sym (append_assoc before gone kept)) ∙ sym (byte_made o (before ++ gone) kept b' i o.first))));
    }))

-- an image of a later life of a store that was cut stands over all that it has ever done
pub over_life : (o : Origin) (a : Stand) (before rs since all : List Numbered) (f : Homes) (c : Image) → MakesSame (cut_at o a before) rs f → StandsAgain (at_home (cut_at o a before) f) (rs ++ since) all c → StandsOver o (before ++ (rs ++ since)) (before ++ all) c
over_life o a before rs since all f c same again = record {
  stand = a;
  gone = before;
  durable = rs ++ since;
  appended = all;
  of_durable = refl;
  of_all = refl;
  again = again_first (cut_at o a before) rs since (rs ++ since) all f c same refl again;
}

-- and so does one of its next life, with more of its records gone
pub over_cut : (o : Origin) (a b : Stand) (before gone kept : List Numbered) (f : Homes) (c : Image) → MakesSame (cut_at o a before) (gone ++ kept) f
    → StandsAgain (cut_at (at_home (cut_at o a before) f) b gone) kept kept c → StandsOver o (before ++ (gone ++ kept)) (before ++ (gone ++ kept)) c
over_cut o a b before gone kept f c same again = record {
  stand = b;
  gone = before ++ gone;
  durable = kept;
  appended = kept;
  of_durable = sym (append_assoc before gone kept);
  of_all = sym (append_assoc before gone kept);
  again = again_first (cut_at o b (before ++ gone)) kept [] kept kept (made (entries (at_home (cut_at o a before) f) gone) f) c (cut_same o a b before gone kept f same) (none_more kept) again;
}

-- THE POINTS of what is kept are allowed, where the point of the cut is
pub points_cut : (o : Origin) (v : View) (log : Tail) (pool : Pool) (point base : ℕ) (ds : List Numbered) (s : IsSplit base point ds) (b : Stand) → o.super.base ≡ base → b.base ≡ gate_of s → IsAllowed o v log pool point → ArePoints o (IsAllowed o v log pool) ds ds
    → ArePoints (cut_at o b (gone_of s)) (IsAllowed o v log pool) (kept_of s) (kept_of s)
points_cut o v log pool point base ds s b from at allowed points =
    let low : gate_of s ≤ point = s.within in
    let there : IsAllowed o v log pool b.base = record { pages = λ n lt. (let e = allowed.pages n lt in omega (arith, e, low, at)); bands = λ c lt. (let e = allowed.bands c lt in omega (arith, e, low, at)) } in
    record {
      more = [];
      is_all = none_more (kept_of s);
      low = marks_back (λ k. Unit {0}) (gone_of s) (kept_of s) (subst (λ (l : List Numbered). AreMarked (λ k. Unit {0}) l) s.all points.low);
      start = there;
      now = point_kept (IsAllowed o v log pool) o.super.base b.base (let up = gate_later base s.front in omega (arith, from, at, up)) there (gone_of s) (kept_of s)
          (subst (λ (l : List Numbered). IsAllowed o v log pool (redo_point o.super.base l)) s.all points.now);
      marked = tt;
    }

-- EACH IMAGE OF A CUT stands over all that the store has ever done
pub cutting_over : (o : Origin) (a : Stand) (before rs since ds : List Numbered) (f : Homes) (v : View) (log : Tail) (pool : Pool) (point : ℕ) (c : Image) → MakesSame (cut_at o a before) rs f → ds ≡ rs ++ since → a.base ≡ log.base
    → IsAllowed (at_home (cut_at o a before) f) v log pool point → ArePoints (at_home (cut_at o a before) f) (IsAllowed (at_home (cut_at o a before) f) v log pool) ds ds
    → IsCutting (at_home (cut_at o a before) f) v log pool point ds c → StandsOver o (before ++ ds) (before ++ ds) c
cutting_over o a before rs since ds f v log pool point c same begins base allowed points = ⊎_elim
    (λ stands. subst (λ (l : List Numbered). StandsOver o (before ++ l) (before ++ l) c) (sym begins)
    (over_life o a before rs since (rs ++ since) f c same
    (subst (λ (l : List Numbered). StandsAgain (at_home (cut_at o a before) f) l l c) begins (stands_own (IsAllowed (at_home (cut_at o a before) f) v log pool) (at_home (cut_at o a before) f) ds ds c points stands))))
    (λ (s, b, at, stands).
    let now : MakesSame (cut_at o a before) ds f = subst (λ (l : List Numbered). MakesSame (cut_at o a before) l f) (sym begins) (makes_more (cut_at o a before) rs since f same) in
    let split : MakesSame (cut_at o a before) (gone_of s ++ kept_of s) f = subst (λ (l : List Numbered). MakesSame (cut_at o a before) l f) s.all now in
    subst (λ (l : List Numbered). StandsOver o (before ++ l) (before ++ l) c) (sym s.all)
    (over_cut o a b before (gone_of s) (kept_of s) f c split
    (stands_own (IsAllowed (at_home (cut_at o a before) f) v log pool) (cut_at (at_home (cut_at o a before) f) b (gone_of s)) (kept_of s) (kept_of s) c
    (points_cut (at_home (cut_at o a before) f) v log pool point log.base ds s b base at allowed points) stands)))

pub moments_over : (o : Origin) (a : Stand) (before rs since ds : List Numbered) (f : Homes) (v w : View) (log : Tail) (pool : Pool) (point : ℕ) → MakesSame (cut_at o a before) rs f → ds ≡ rs ++ since → a.base ≡ log.base
    → IsAllowed (at_home (cut_at o a before) f) v log pool point → ArePoints (at_home (cut_at o a before) f) (IsAllowed (at_home (cut_at o a before) f) v log pool) ds ds
    → LeavesOnly v w (IsCutting (at_home (cut_at o a before) f) v log pool point ds) → LeavesOnly v w (StandsOver o (before ++ ds) (before ++ ds))
moments_over o a before rs since ds f v w log pool point same begins base allowed points run = weaker run (λ c m. cutting_over o a before rs since ds f v log pool point c same begins base allowed points m)
