-- An image stands from the redo point of its own records, where the engine allows each checkpoint's estimate.
use Rattle.std.proofs.Common.{◌≡◌, ⊎_elim, ℕ, max, List, [], ◌∷◌, ◌++◌, refl, sym, ◌∙◌, ap, subst, arith, append_assoc}
use Rattle.std.proofs.lemmas.Bool.{cases_lt}
use Rattle.std.proofs.lemmas.List.{append_cancel_left}
use Rattle.sg_disk.specs.Disk.{Image}
use Rattle.sg_log.specs.Frames.{Numbered}
use Rattle.sg_log.proofs.Unique.{HasRecords-one}
use Rattle.sg_record.specs.Records.{Says}
use Rattle.sg_record.specs.Records.Says.{Begin, Changed, TopEnd, PhysComp, TopVoid, CompEnd, Save, Commit, End, Checkpoint}
use Rattle.sg_engine.specs.Engine.{Origin, IsStanding}
use Rattle.sg_phys_laws.specs.Points.{estimate_or, last_estimate, redo_point, IsMarked, AreMarked, ArePoints}
use Rattle.sg_phys_laws.specs.Recovers.{StandsOwn}

-- the greater of two is one of them
greater : (A : ℕ → Type 0) (a b : ℕ) → A a → A b → A (max a b)
greater A a b one two = ⊎_elim
    (λ lt. let is : b ≡ max a b = omega arith in subst A is two)
    (λ le. let is : a ≡ max a b = omega arith in subst A is one)
    (cases_lt a b)

-- checkpoints of more records
pub marks_front : (allowed : ℕ → Type 0) (xs ys : List Numbered) → AreMarked allowed (xs ++ ys) → AreMarked allowed xs
marks_front allowed [] ys marked = tt
marks_front allowed (x ∷ xs) ys marked = (marked.0, marks_front allowed xs ys marked.1)

pub marks_both : (allowed : ℕ → Type 0) (xs ys : List Numbered) → AreMarked allowed xs → AreMarked allowed ys → AreMarked allowed (xs ++ ys)
marks_both allowed [] ys one two = two
marks_both allowed (x ∷ xs) ys one two = (one.0, marks_both allowed xs ys one.1 two)

pub mark_allow : (A B : ℕ → Type 0) (lsn : ℕ) (x : Says) → ((k : ℕ) → A k → B k) → IsMarked A lsn x → IsMarked B lsn x
mark_allow A B lsn (Checkpoint e l) more marked = (more e marked.0, marked.1)
mark_allow A B lsn Begin more marked = tt
mark_allow A B lsn (Changed c) more marked = tt
mark_allow A B lsn (TopEnd w n) more marked = tt
mark_allow A B lsn (PhysComp w c) more marked = tt
mark_allow A B lsn (TopVoid w) more marked = tt
mark_allow A B lsn (CompEnd w) more marked = tt
mark_allow A B lsn (Save m) more marked = tt
mark_allow A B lsn Commit more marked = tt
mark_allow A B lsn End more marked = tt

pub marks_allow : (A B : ℕ → Type 0) (ns : List Numbered) → ((k : ℕ) → A k → B k) → AreMarked A ns → AreMarked B ns
marks_allow A B [] more marked = tt
marks_allow A B (n ∷ ns) more marked = (mark_allow A B n.lsn n.is.says more marked.0, marks_allow A B ns more marked.1)

-- the last checkpoint of more records
pub behind_both : (e : ℕ) (xs ys : List Numbered) → last_estimate e (xs ++ ys) ≡ last_estimate (last_estimate e xs) ys
behind_both e [] ys = refl
behind_both e (x ∷ xs) ys = behind_both (estimate_or e x.is.says) xs ys

-- the point is allowed with more records, whose checkpoints are
module _ (A : ℕ → Type 0) (base : ℕ) (start : A base) where
  point_one : (e lsn : ℕ) (x : Says) → A (max base e) → IsMarked A lsn x → A (max base (estimate_or e x))
  point_one e lsn (Checkpoint estimate l) was marked = greater A base estimate start marked.0
  point_one e lsn Begin was marked = was
  point_one e lsn (Changed c) was marked = was
  point_one e lsn (TopEnd w n) was marked = was
  point_one e lsn (PhysComp w c) was marked = was
  point_one e lsn (TopVoid w) was marked = was
  point_one e lsn (CompEnd w) was marked = was
  point_one e lsn (Save m) was marked = was
  point_one e lsn Commit was marked = was
  point_one e lsn End was marked = was

  pub point_behind : (e : ℕ) (ns : List Numbered) → A (max base e) → AreMarked A ns → A (max base (last_estimate e ns))
  point_behind e [] was marked = was
  point_behind e (n ∷ ns) was marked = point_behind (estimate_or e n.is.says) ns (point_one e n.lsn n.is.says was marked.0) marked.1

  pub point_both : (xs ys : List Numbered) → A (redo_point base xs) → AreMarked A ys → A (redo_point base (xs ++ ys))
  point_both xs ys was marked = subst (λ (e : ℕ). A (max base e)) (sym (behind_both base xs ys)) (point_behind (last_estimate base xs) ys was marked)

-- AN IMAGE THAT STANDS from each point that is allowed stands from its own
pub stands_own : (A : ℕ → Type 0) (o : Origin) (ds all : List Numbered) (c : Image) → ArePoints o A ds all → ((k : ℕ) → A k → IsStanding o ds all k c) → StandsOwn o ds all c
stands_own A o ds all c points runs =
    let first = runs o.super.base points.start in
    let same = HasRecords-one first.held (runs (redo_point o.super.base first.records) (its_own first)).held in
    record {
      point = redo_point o.super.base first.records;
      stands = runs (redo_point o.super.base first.records) (its_own first);
      own = ap (redo_point o.super.base) same;
      low = subst (λ (l : List Numbered). AreMarked (λ k. Unit {0}) l) same (lows first);
    }
  where
    -- what is behind the durable records
    behind : (s : IsStanding o ds all o.super.base c) → points.more ≡ s.since ++ s.more
    behind s = append_cancel_left ds points.more (s.since ++ s.more) (sym points.is_all ∙ (s.front ∙ (ap (λ (l : List Numbered). l ++ s.more) s.later ∙ append_assoc ds s.since s.more)))

    since_marked : (s : IsStanding o ds all o.super.base c) → AreMarked A s.since
    since_marked s = marks_front A s.since s.more (subst (λ (l : List Numbered). AreMarked A l) (behind s) points.marked)

    its_own : (s : IsStanding o ds all o.super.base c) → A (redo_point o.super.base s.records)
    its_own s = subst (λ (l : List Numbered). A (redo_point o.super.base l)) (sym s.later) (point_both A o.super.base points.start ds s.since points.now (since_marked s))

    lows : (s : IsStanding o ds all o.super.base c) → AreMarked (λ k. Unit {0}) s.records
    lows s = subst (λ (l : List Numbered). AreMarked (λ k. Unit {0}) l) (sym s.later) (marks_both (λ k. Unit {0}) ds s.since points.low (marks_allow A (λ k. Unit {0}) s.since (λ k a. tt) (since_marked s)))

-- THE POINTS GO ON: over a call that leaves allowed what was,
pub points_allow : (A B : ℕ → Type 0) (o : Origin) (ds all : List Numbered) → ((k : ℕ) → A k → B k) → ArePoints o A ds all → ArePoints o B ds all
points_allow A B o ds all more points = record {
  more = points.more;
  is_all = points.is_all;
  low = points.low;
  start = more o.super.base points.start;
  now = more (redo_point o.super.base ds) points.now;
  marked = marks_allow A B points.more more points.marked;
}

-- with a record more,
pub points_append : (A : ℕ → Type 0) (o : Origin) (ds all : List Numbered) (n : Numbered) → ArePoints o A ds all → IsMarked A n.lsn n.is.says → ArePoints o A ds (all ++ n ∷ [])
points_append A o ds all n points mark = record {
  more = points.more ++ n ∷ [];
  is_all = ap (λ (l : List Numbered). l ++ n ∷ []) points.is_all ∙ append_assoc ds points.more (n ∷ []);
  low = points.low;
  start = points.start;
  now = points.now;
  marked = marks_both A points.more (n ∷ []) points.marked (mark, tt);
}

pub marks_back : (A : ℕ → Type 0) (xs ys : List Numbered) → AreMarked A (xs ++ ys) → AreMarked A ys
marks_back A [] ys marked = marked
marks_back A (x ∷ xs) ys marked = marks_back A xs ys marked.1

-- and with more that is durable
pub points_durable : (A : ℕ → Type 0) (o : Origin) (ds since rest all : List Numbered) → ArePoints o A ds all → all ≡ (ds ++ since) ++ rest → ArePoints o A (ds ++ since) all
points_durable A o ds since rest all points is =
    let behind : points.more ≡ since ++ rest = append_cancel_left ds points.more (since ++ rest) (sym points.is_all ∙ (is ∙ append_assoc ds since rest)) in
    let marked : AreMarked A since = marks_front A since rest (subst (λ (l : List Numbered). AreMarked A l) behind points.marked) in
    record {
      more = rest;
      is_all = is;
      low = marks_both (λ k. Unit {0}) ds since points.low (marks_allow A (λ k. Unit {0}) since (λ k a. tt) marked);
      start = points.start;
      now = point_both A o.super.base points.start ds since points.now marked;
      marked = marks_back A since rest (subst (λ (l : List Numbered). AreMarked A l) behind points.marked);
    }
