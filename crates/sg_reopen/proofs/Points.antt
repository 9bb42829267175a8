-- An image stands from the redo point of its own records, where the engine allows each checkpoint's estimate.
use Rattle.std.proofs.Common.{◌≡◌, ⊎_elim, ◌<◌, ◌≤◌, ◌+◌, ℕ, max, ◌==◌, Bool, true, false, if◌then◌else◌, length, unwrap_or, Option, Some, None, List, [], ◌∷◌, ◌++◌, refl, sym, ◌∙◌, ap, subst, arith, append_assoc}
use Rattle.std.proofs.lemmas.Bool.{cases_lt}
use Rattle.std.proofs.lemmas.List.{append_cancel_right, append_cancel_left}
use Rattle.sg_disk.specs.Disk.{Image, State, LeavesAny, View, LeavesOnly}
use Rattle.sg_disk.proofs.Moments.{weaker}
use Rattle.sg_log.specs.Frames.{Numbered}
use Rattle.sg_record.specs.Records.{Record}
use Rattle.sg_log.specs.Held.{Tail, tail_of, place_of, has_room, numbered}
use Rattle.sg_log.proofs.Unique.{HasRecords-one}
use Rattle.sg_analysis.specs.Sights.{Sight, sight_of, Checkpoint, or_checkpoint, checkpoint_behind, last_checkpoint}
use Rattle.sg_analysis.specs.Sights.Sight.{Stepped, Estimated}
use Rattle.sg_analysis.specs.Analysis.{estimate_or}
use Rattle.sg_pool.specs.declared.pool.Pool.{Pool}
use Rattle.sg_engine.specs.Numbers.{AllUnder}
use Rattle.sg_engine.specs.History.{Homes, entry_number}
use Rattle.sg_engine.specs.Engine.{Origin, entries, IsStanding}
use Rattle.sg_pool.specs.Pooled.{contents}
use Rattle.sg_engine.specs.Running.{IsEngine, IsAllowed}
use Rattle.sg_engine.proofs.Logs.{none_more}
use Rattle.sg_find.specs.Synced.{redo_point}
use Rattle.sg_reopen.specs.Again.{at_home, IsMarked, AreMarked, StandsAgain, ArePoints, MakesSame}
use Rattle.sg_reopen.proofs.Again.{records_under, stands_first}

-- the greater of two is one of them
greater : (A : ℕ → Type 0) (a b : ℕ) → A a → A b → A (max a b)
greater A a b one two = ⊎_elim
    (λ lt. let is : b ≡ max a b = omega arith in subst A is two)
    (λ le. let is : a ≡ max a b = omega arith in subst A is one)
    (cases_lt a b)

-- checkpoints of more records
pub marks_front : (allowed : ℕ → Type 0) (xs ys : List Numbered) → AreMarked allowed (xs ++ ys) → AreMarked allowed xs
marks_front allowed [] ys marked = tt
marks_front allowed (x ∷ xs) ys marked = (marked.0, marks_front allowed xs ys marked.1)

pub marks_both : (allowed : ℕ → Type 0) (xs ys : List Numbered) → AreMarked allowed xs → AreMarked allowed ys → AreMarked allowed (xs ++ ys)
marks_both allowed [] ys one two = two
marks_both allowed (x ∷ xs) ys one two = (one.0, marks_both allowed xs ys one.1 two)

mark_allow : (A B : ℕ → Type 0) (lsn : ℕ) (x : Sight) → ((k : ℕ) → A k → B k) → IsMarked A lsn x → IsMarked B lsn x
mark_allow A B lsn (Stepped x) more marked = tt
mark_allow A B lsn (Estimated e) more marked = (more e marked.0, marked.1)

pub marks_allow : (A B : ℕ → Type 0) (ns : List Numbered) → ((k : ℕ) → A k → B k) → AreMarked A ns → AreMarked B ns
marks_allow A B [] more marked = tt
marks_allow A B (n ∷ ns) more marked = (mark_allow A B n.lsn (sight_of n.is) more marked.0, marks_allow A B ns more marked.1)

-- the last checkpoint of more records
behind_both : (last : Option Checkpoint) (xs ys : List Numbered) → checkpoint_behind last (xs ++ ys) ≡ checkpoint_behind (checkpoint_behind last xs) ys
behind_both last [] ys = refl
behind_both last (x ∷ xs) ys = behind_both (or_checkpoint last x.lsn (sight_of x.is)) xs ys

-- the point is allowed with more records, whose checkpoints are
module _ (A : ℕ → Type 0) (base : ℕ) (start : A base) where
  point_one : (last : Option Checkpoint) (lsn : ℕ) (x : Sight) → A (max base (estimate_or base last)) → IsMarked A lsn x → A (max base (estimate_or base (or_checkpoint last lsn x)))
  point_one last lsn (Stepped x) was marked = was
  point_one last lsn (Estimated e) was marked = greater A base e start marked.0

  pub point_behind : (last : Option Checkpoint) (ns : List Numbered) → A (max base (estimate_or base last)) → AreMarked A ns → A (max base (estimate_or base (checkpoint_behind last ns)))
  point_behind last [] was marked = was
  point_behind last (n ∷ ns) was marked = point_behind (or_checkpoint last n.lsn (sight_of n.is)) ns (point_one last n.lsn (sight_of n.is) was marked.0) marked.1

  pub point_both : (xs ys : List Numbered) → A (redo_point base xs) → AreMarked A ys → A (redo_point base (xs ++ ys))
  point_both xs ys was marked = subst (λ (last : Option Checkpoint). A (max base (estimate_or base last))) (sym (behind_both None xs ys)) (point_behind (last_checkpoint xs) ys was marked)

-- no checkpoint estimates more than the numbers of the log
low_mark : (d lsn : ℕ) (x : Sight) → lsn < d → IsMarked (λ k. Unit {0}) lsn x → IsMarked (λ k. k ≤ d) lsn x
low_mark d lsn (Stepped x) lt marked = tt
low_mark d lsn (Estimated e) lt marked = (let le = marked.1 in omega arith, marked.1)

low_marks : (o : Origin) (d : ℕ) (ns : List Numbered) → AllUnder entry_number d (entries o ns) → AreMarked (λ k. Unit {0}) ns → AreMarked (λ k. k ≤ d) ns
low_marks o d [] under marked = tt
low_marks o d (n ∷ ns) under marked = (low_mark d n.lsn (sight_of n.is) under.0 marked.0, low_marks o d ns under.1 marked.1)

-- THE POINT of an image isn't behind the end of its log
pub point_within : (o : Origin) (ds all : List Numbered) (r : ℕ) (c : Image) → (s : IsStanding o ds all r c) → AreMarked (λ k. Unit {0}) s.records → redo_point o.super.base s.records ≤ s.tail
point_within o ds all r c s low =
    let first : o.super.base ≤ s.tail = let e = s.held.at_gate in omega arith in
    point_behind (λ k. k ≤ s.tail) o.super.base first None s.records (omega arith) (low_marks o s.tail s.records (records_under o _ o.super.base s.tail s.records s.held) low)

-- AN IMAGE THAT STANDS from each point that is allowed stands from its own
pub stands_own : (A : ℕ → Type 0) (o : Origin) (ds all : List Numbered) (c : Image) → ArePoints o A ds all → ((k : ℕ) → A k → IsStanding o ds all k c) → StandsAgain o ds all c
stands_own A o ds all c points runs =
    let first = runs o.super.base points.start in
    let same = HasRecords-one first.held (runs (redo_point o.super.base first.records) (its_own first)).held in
    record {
      point = redo_point o.super.base first.records;
      stands = runs (redo_point o.super.base first.records) (its_own first);
      own = ap (redo_point o.super.base) same;
      low = subst (λ (l : List Numbered). AreMarked (λ k. Unit {0}) l) same (lows first);
    }
  where
    -- what is behind the durable records
    behind : (s : IsStanding o ds all o.super.base c) → points.more ≡ s.since ++ s.more
    behind s = append_cancel_left ds points.more (s.since ++ s.more) (sym points.is_all ∙ (s.front ∙ (ap (λ (l : List Numbered). l ++ s.more) s.later ∙ append_assoc ds s.since s.more)))

    since_marked : (s : IsStanding o ds all o.super.base c) → AreMarked A s.since
    since_marked s = marks_front A s.since s.more (subst (λ (l : List Numbered). AreMarked A l) (behind s) points.marked)

    its_own : (s : IsStanding o ds all o.super.base c) → A (redo_point o.super.base s.records)
    its_own s = subst (λ (l : List Numbered). A (redo_point o.super.base l)) (sym s.later) (point_both A o.super.base points.start ds s.since points.now (since_marked s))

    lows : (s : IsStanding o ds all o.super.base c) → AreMarked (λ k. Unit {0}) s.records
    lows s = subst (λ (l : List Numbered). AreMarked (λ k. Unit {0}) l) (sym s.later) (marks_both (λ k. Unit {0}) ds s.since points.low (marks_allow A (λ k. Unit {0}) s.since (λ k a. tt) (since_marked s)))

-- EACH IMAGE OF EACH MOMENT, where each stands from each point that is allowed
pub moments_own : (A : ℕ → Type 0) (o : Origin) (ds all : List Numbered) (v w : View) → ArePoints o A ds all → ((k : ℕ) → A k → LeavesOnly v w (IsStanding o ds all k)) → LeavesOnly v w (StandsAgain o ds all)
moments_own A o ds all v w points runs =
    let run = runs o.super.base points.start in
    record {
      added = run.added;
      past = run.past;
      first = λ c leaves. stands_own A o ds all c points (λ k a. (runs k a).first c leaves);
      each = λ c any. stands_own A o ds all c points (λ k a. (runs k a).each c
          (subst (λ (l : List State). LeavesAny (w.now ∷ l) c) (append_cancel_right run.added (runs k a).added v.past (sym run.past ∙ (runs k a).past)) any));
    }

-- THE POINTS GO ON: over a call that leaves allowed what was,
pub points_allow : (A B : ℕ → Type 0) (o : Origin) (ds all : List Numbered) → ((k : ℕ) → A k → B k) → ArePoints o A ds all → ArePoints o B ds all
points_allow A B o ds all more points = record {
  more = points.more;
  is_all = points.is_all;
  low = points.low;
  start = more o.super.base points.start;
  now = more (redo_point o.super.base ds) points.now;
  marked = marks_allow A B points.more more points.marked;
}

-- with a record more,
pub points_append : (A : ℕ → Type 0) (o : Origin) (ds all : List Numbered) (n : Numbered) → ArePoints o A ds all → IsMarked A n.lsn (sight_of n.is) → ArePoints o A ds (all ++ n ∷ [])
points_append A o ds all n points mark = record {
  more = points.more ++ n ∷ [];
  is_all = ap (λ (l : List Numbered). l ++ n ∷ []) points.is_all ∙ append_assoc ds points.more (n ∷ []);
  low = points.low;
  start = points.start;
  now = points.now;
  marked = marks_both A points.more (n ∷ []) points.marked (mark, tt);
}

-- and with more that is durable
pub points_durable : (A : ℕ → Type 0) (o : Origin) (ds since rest all : List Numbered) → ArePoints o A ds all → all ≡ (ds ++ since) ++ rest → ArePoints o A (ds ++ since) all
points_durable A o ds since rest all points is =
    let behind : points.more ≡ since ++ rest = append_cancel_left ds points.more (since ++ rest) (sym points.is_all ∙ (is ∙ append_assoc ds since rest)) in
    let marked : AreMarked A since = marks_front A since rest (subst (λ (l : List Numbered). AreMarked A l) behind points.marked) in
    record {
      more = rest;
      is_all = is;
      low = marks_both (λ k. Unit {0}) ds since points.low (marks_allow A (λ k. Unit {0}) since (λ k a. tt) marked);
      start = points.start;
      now = point_both A o.super.base points.start ds since points.now marked;
      marked = marks_back A since rest (subst (λ (l : List Numbered). AreMarked A l) behind points.marked);
    }
  where
    marks_back : (A : ℕ → Type 0) (xs ys : List Numbered) → AreMarked A (xs ++ ys) → AreMarked A ys
    marks_back A [] ys marked = marked
    marks_back A (x ∷ xs) ys marked = marks_back A xs ys marked.1

-- a lower point is allowed too
pub allowed_less : (o : Origin) (v : View) (log : Tail) (pool : Pool) (j k : ℕ) → j ≤ k → IsAllowed o v log pool k → IsAllowed o v log pool j
allowed_less o v log pool j k le allowed = record {
  pages = λ n lt. let more = allowed.pages n lt in omega arith;
  bands = λ b lt. let more = allowed.bands b lt in omega arith;
}

-- THE POINTS of a store that was opened
pub points_opened : (o : Origin) (v : View) (log : Tail) (pool : Pool) (rs : List Numbered) → AreMarked (λ k. Unit {0}) rs → IsAllowed o v log pool (redo_point o.super.base rs) → ArePoints o (IsAllowed o v log pool) rs rs
points_opened o v log pool rs low allowed = record {
  more = [];
  is_all = none_more rs;
  low = low;
  start = allowed_less o v log pool o.super.base (redo_point o.super.base rs) (omega arith) allowed;
  now = allowed;
  marked = tt;
}

-- A WEAKER STATEMENT: of fewer durable records, and of more appended ones
pub again_weaker : (o : Origin) (ds all ds' all' s t : List Numbered) (c : Image) → ds' ≡ ds ++ s → all ≡ all' ++ t → StandsAgain o ds' all' c → StandsAgain o ds all c
again_weaker o ds all ds' all' s t c a b again = record {
  point = again.point;
  stands = record {
    super = again.stands.super;
    records = again.stands.records;
    tail = again.stands.tail;
    held = again.stands.held;
    since = s ++ again.stands.since;
    later = again.stands.later ∙ ap (λ (l : List Numbered). l ++ again.stands.since) a ∙ append_assoc ds s again.stands.since;
    more = again.stands.more ++ t;
    front = b ∙ ap (λ (l : List Numbered). l ++ t) again.stands.front ∙ append_assoc again.stands.records again.stands.more t;
    header = again.stands.header;
    sound = again.stands.sound;
    repeats = again.stands.repeats;
    history = again.stands.history;
  };
  own = again.own;
  low = again.low;
}

-- AN IMAGE OF A LATER LIFE stands again for the store as it was first
pub again_first : (o : Origin) (rs since ds all : List Numbered) (f : Homes) (c : Image) → MakesSame o rs f → ds ≡ rs ++ since → StandsAgain (at_home o f) ds all c → StandsAgain o ds all c
unfolding stands_first
again_first o rs since ds all f c same begins again = record {
  point = again.point;
  stands = stands_first o rs since ds all f again.point c same begins again.stands;
  own = again.own;
  low = again.low;
}

pub moments_first : (o : Origin) (rs since all : List Numbered) (f : Homes) (v w : View) → MakesSame o rs f → LeavesOnly v w (StandsAgain (at_home o f) (rs ++ since) all) → LeavesOnly v w (StandsAgain o (rs ++ since) all)
moments_first o rs since all f v w same run = weaker run (λ c again. again_first o rs since (rs ++ since) all f c same refl again)

-- A POINT THAT IS ALLOWED isn't behind the log's tail, so a checkpoint that estimates it is marked
by_since : (tail k : ℕ) (x : Option ℕ) → ((l : ℕ) → x ≡ Some l → l < tail) → k ≤ unwrap_or x tail → k ≤ tail
by_since tail k None low le = le
by_since tail k (Some l) low le = let lt : l < tail = low l refl in let here : k ≤ l = le in omega (arith, lt, here)

pub allowed_low : (o : Origin) (v : View) (log : Tail) (ds ps : List Numbered) (pool : Pool) (k : ℕ) → IsEngine o v log ds ps pool → 0 < o.super.pages → IsAllowed o v log pool k → k ≤ tail_of log
allowed_low o v log ds ps pool k e some allowed = by_since (tail_of log) k ((contents v pool).page_since 0) (λ l is. e.engine.behind.pages 0 l some is) (allowed.pages 0 some)

tail_place : (log : Tail) (r : Record) → tail_of log ≤ place_of log r
tail_place log r =
    let low = first (length log.buffer == 0) in
    let high = second (has_room log r) in
    omega (arith, low, high)
  where
    first : (b : Bool) → (if b then log.gate else log.gate + 5 + length log.buffer) ≤ log.gate + 5 + length log.buffer
    first true = omega arith
    first false = omega arith

    second : (b : Bool) → log.gate + 5 + length log.buffer ≤ (if b then log.gate + 5 + length log.buffer else log.gate + 5 + length log.buffer + 5)
    second true = omega arith
    second false = omega arith

pub point_marked : (o : Origin) (v : View) (log : Tail) (ds ps : List Numbered) (pool : Pool) (k : ℕ) (r : Record) → IsEngine o v log ds ps pool → 0 < o.super.pages → IsAllowed o v log pool k → sight_of r ≡ Estimated k → IsMarked (IsAllowed o v log pool) (numbered log r).lsn (sight_of r)
point_marked o v log ds ps pool k r e some allowed is =
    let low = allowed_low o v log ds ps pool k e some allowed in
    let place = tail_place log r in
    let near : k ≤ (numbered log r).lsn = omega (arith, low, place) in
    subst (IsMarked (IsAllowed o v log pool) (numbered log r).lsn) (sym is) (allowed, near)
