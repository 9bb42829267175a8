-- The calls of the engine over the pool.
use Rattle.std.proofs.Common.{◌≡◌, ◌≢◌, ◌⊎◌, inl, inr, ⊎_elim, ◌<◌, ◌≤◌, ◌+◌, ℕ, Bool, IsTrue, Option, Some, None, unwrap_or, Result, Ok, OnOk, List, [], ◌∷◌, ◌++◌, refl, sym, ◌∙◌, ap, subst, arith}
use Rattle.std.proofs.lemmas.Bool.{cases_eq}
use Rattle.sg_base.specs.Op.{Op}
use Rattle.sg_base.specs.declared.area.Area.{Area}
use Rattle.sg_base.specs.declared.area.Area.TheVariants.{Home}
use Rattle.sg_disk.specs.Disk.{Image, Part, View, LeavesOnly}
use Rattle.sg_disk.proofs.Moments.{weaker, joined}
use Rattle.sg_record.specs.Records.{Record}
use Rattle.sg_record.specs.Ranges.{IsRecord}
use Rattle.sg_base.specs.Ends.{HasRisen}
use Rattle.sg_log.specs.declared.fault.LogFault.{LogFault}
use Rattle.sg_log.specs.declared.fault.LogFault.TheVariants.{Disk, LogEnd, Damaged, Memory}
use Rattle.sg_log.specs.Faults.{AppendFails}
use Rattle.sg_log.specs.Frames.{Numbered, SameElsewhere, LOG_END}
use Rattle.sg_log.specs.Held.{Tail, Holds, tail_of, place_of, forced, appended, numbered, durable_after, waiting_after, IsBeforeOrAfter}
use Rattle.sg_log.proofs.Holding.{all_appended, durable_either, image_now, tail_empty, forced_empty}
use Rattle.sg_gate.specs.Batch.{IsReady}
use Rattle.sg_ops.specs.Table.{Table}
use Rattle.sg_redo.specs.Page.{on_page, made}
use Rattle.sg_pool.specs.declared.pool.Pool.{Pool}
use Rattle.sg_pool.specs.declared.fault.PoolFault.{PoolFault}
use Rattle.sg_pool.specs.declared.fault.PoolFault.TheVariants as pool_faults
use Rattle.sg_pool.specs.declared.windows.Windows.{Windows}
use Rattle.sg_pool.specs.Held.{since_of}
use Rattle.sg_pool.specs.Frames.{window_of, AreLastsKept, HaveGone}
use Rattle.sg_pool.specs.Units.{Geometry, EachPage, Units, IsBacked, IsCleaned}
use Rattle.sg_pool.specs.Changed.{IsCleanedThenChanged, IsCleanedThenWritten}
use Rattle.sg_pool.specs.Moments.{IsSameOrForced, IsMoment}
use Rattle.sg_pool.specs.Pooled.{sizes, contents, Backs, SameContents, IsPoolMoment, IsUnwritten, SameWindows, last_of, OthersKeepLasts, IsLogged}
use Rattle.sg_pool.specs.Shelves.{AreLogged, lasts, units, BringFails, OnTold}
use Rattle.sg_pool.specs.Lending.{IsLent, IsBandLent}
use Rattle.sg_pool.specs.Well.{IsWell}
use Rattle.sg_base.specs.declared.page.TheConstants.{BAND_SIZE}
use Rattle.sg_engine.specs.History as history
use Rattle.sg_engine.specs.History.{ChangesPage, ChangesBand, ChangesNothing, IsNumbered, IsHistory, AllWell, of_page, Appends}
use Rattle.sg_engine.specs.Kept.{IsEarly, AreBehind}
use Rattle.sg_engine.proofs.Early.{early_cleaned, early_at, early_changed, early_written}
use Rattle.sg_engine.specs.Engine.{Origin, entry_of, entries, geometry, IsLogOf, IsStanding, IsEngineOf, HasSlots}
use Rattle.sg_engine.specs.Running.{IsEngine, HasGoneOn, IsAllowed, DoesToPage, DoesToBand, DoesNothing}
use Rattle.sg_engine.proofs.Logs.{is_forced, home_apart}
use Rattle.sg_engine.proofs.Standing.{ready_same}
use Rattle.sg_engine.proofs.GoingOn.{IsHalf, Cleans, half_after}
use Rattle.sg_engine.proofs.Calls.{standing_weaker, engine_moment, engine_rest, half_moment, early_later, is_appended, append_half, page_again, band_again, nothing_again, page_well, force_again, pool_again, pool_forced_again}
use Rattle.sg_engine.proofs.Steps.{append_none}

-- the log's area isn't the home area
pub log_apart : (o : Origin) (log : Tail) → IsLogOf o.super log → log.area ≢ Home
log_apart o log place is = home_apart o (sym is ∙ place.area)

-- the superblock's slots at each moment of a pool's call
pub moment_slots : (o : Origin) (v : View) (log : Tail) (ds ps : List Numbered) (last : ℕ → ℕ) (m : Units) (g : Geometry) → IsLogOf o.super log → IsReady (v.now Home) → (c : Image) → IsMoment g v log ds ps last m c → HasSlots v c
moment_slots o v log ds ps last m g place ready c moment = ⊎_elim
    (λ before i low. ready_same v.now c ready (before.others Home (λ at. log_apart o log place (sym at))) i (inl (omega arith)))
    (λ goes. goes.superblock)
    moment

-- a front of the records stays one
pub durable_since : (log : Tail) (r : Record) (ds ps : List Numbered) → (s : List Numbered) × (durable_after log r ds ps ≡ ds ++ s)
durable_since log r ds ps = ⊎_elim (λ same. ([], same ∙ sym (append_none ds))) (λ more. (ps, more)) (durable_either log r ds ps)

-- the last changes stay below a later tail
pub logged_later : (wins : Windows) (t t' : ℕ) → t ≤ t' → ((b o : ℕ) → since_of wins.slots.items (window_of wins b) ≡ Some o → Rattle.sg_pool.specs.Frames.lasts_of wins b < t) → (b o : ℕ) → since_of wins.slots.items (window_of wins b) ≡ Some o → Rattle.sg_pool.specs.Frames.lasts_of wins b < t'
logged_later wins t t' le below b o is = let low = below b o is in omega arith

-- THE RECORD IS APPENDED, and the pool doesn't have it yet
module _ (o : Origin) (v v1 : View) (log : Tail) (ds ps : List Numbered) (pool : Pool) (r : Record) (fits : IsRecord r) (e : IsEngine o v log ds ps pool) (home : v1.now Home ≡ v.now Home)
    (holds : Holds v1 (appended log r) (durable_after log r ds ps) (waiting_after log r ps)) where
  abbrev x : Numbered
  x = numbered log r

  pub contents_same : contents v1 pool ≡ contents v pool
  contents_same = ap (λ (p : Part). units p.seen pool.shelf) home

  started_at : EachPage (geometry o.super) (λ n. IsNumbered x.lsn (o.first.page n))
  started_at n lt = let a = is_appended log r fits in let t = a.tail in let g = Rattle.sg_log.proofs.Holding.tail_at_gate log in ⊎_elim (λ none. inl none) (λ low. inr (omega arith)) (e.engine.started n lt)

  pub backs_there : Backs (sizes pool) v1 pool
  backs_there = subst (λ (g : Geometry). IsBacked g (v1.now Home) (contents v1 pool)) (sym e.sizes)
      (subst (λ (m : Units). IsBacked (geometry o.super) (v1.now Home) m) (sym contents_same) (subst (λ (p : Part). IsBacked (geometry o.super) p (contents v pool)) (sym home) e.engine.backed))

  pub logged_there : IsLogged (tail_of (appended log r)) v1 pool
  logged_there =
      let a = is_appended log r fits in let t = a.tail in let b = a.behind in
      record {
        pages = λ n k lt is. subst (λ (m : Units). Rattle.sg_base.specs.Page.lsn_of (m.page n) < tail_of (appended log r)) (sym contents_same)
            (let low = e.engine.below n k (subst (λ (g : Geometry). n < g.pages) e.sizes lt) (subst (λ (m : Units). m.page_since n ≡ Some k) contents_same is) in omega arith);
        bands = logged_later pool.shelf.wins (tail_of log) (tail_of (appended log r)) (omega arith) e.logged;
      }

  pub half_there : Appends (geometry o.super) o.first (entries o (ds ++ ps)) (entry_of o x) → IsHalf o v1 (appended log r) (durable_after log r ds ps) (waiting_after log r ps) (ds ++ ps) (x ∷ []) x.lsn (lasts pool.shelf) (contents v1 pool)
  half_there appends = subst (λ (m : Units). IsHalf o v1 (appended log r) (durable_after log r ds ps) (waiting_after log r ps) (ds ++ ps) (x ∷ []) x.lsn (lasts pool.shelf) m) (sym contents_same)
      (append_half o v v1 log ds ps (lasts pool.shelf) (contents v pool) r fits e.engine home holds appends)

  place_there : IsLogOf o.super (appended log r)
  place_there = let a = is_appended log r fits in record { area = a.area ∙ e.engine.place.area; base = a.base ∙ e.engine.place.base }

  pub apart_there : (appended log r).area ≢ Home
  apart_there = log_apart o (appended log r) place_there

  -- THE MOMENTS of an append and of a pool's call behind it
  pub change_moments : (w : View) (k : ℕ) → Appends (geometry o.super) o.first (entries o (ds ++ ps)) (entry_of o x) → IsAllowed o v log pool k → LeavesOnly v v1 (IsBeforeOrAfter v.now log ds ps)
      → LeavesOnly v1 w (IsPoolMoment v1 pool (appended log r) (durable_after log r ds ps) (waiting_after log r ps)) → LeavesOnly v w (IsStanding o ds ((ds ++ ps) ++ x ∷ []) k)
  change_moments w k appends early force run =
      let h = half_there appends in
      let a = is_appended log r fits in let t = a.tail in
      let early_there = early_later (geometry o.super) (tail_of log) x.lsn k (contents v1 pool) (omega arith) (subst (λ (m : Units). IsEarly (geometry o.super) (tail_of log) k m) (sym contents_same) early) in
      let since = durable_since log r ds ps in
      joined
      (weaker force (λ c before. standing_weaker o ds ((ds ++ ps) ++ x ∷ []) ds (ds ++ ps) [] (x ∷ []) k c (sym (append_none ds)) refl (engine_rest o v log ds ps (lasts pool.shelf) (contents v pool) k e.engine early c before)))
      (weaker run (λ c moment.
      let there = subst (λ (g : Geometry). IsMoment g v1 (appended log r) (durable_after log r ds ps) (waiting_after log r ps) (lasts pool.shelf) (contents v1 pool) c) e.sizes moment in
      standing_weaker o ds ((ds ++ ps) ++ x ∷ []) (durable_after log r ds ps) (durable_after log r ds ps ++ waiting_after log r ps) since.0 [] k c since.1 (sym (all_appended log r ds ps) ∙ sym (append_none (durable_after log r ds ps ++ waiting_after log r ps)))
      (half_moment o v1 (appended log r) (durable_after log r ds ps) (waiting_after log r ps) (lasts pool.shelf) (contents v1 pool) k (ds ++ ps) x h early_there c there
      (moment_slots o v1 (appended log r) (durable_after log r ds ps) (waiting_after log r ps) (lasts pool.shelf) (contents v1 pool) (geometry o.super) place_there h.backed.ready c there))))

  -- WHAT A CALL OF THE POOL LEAVES behind it
  module _ (w : View) (log2 : Tail) (pool2 : Pool) (logs : IsSameOrForced w (appended log r) log2 (durable_after log r ds ps) (waiting_after log r ps))
      (run : LeavesOnly v1 w (IsPoolMoment v1 pool (appended log r) (durable_after log r ds ps) (waiting_after log r ps))) (bytes : (a : Area) (i : ℕ) → (w.now a).seen i < 256) (size : sizes pool2 ≡ sizes pool) where
    cleans : (mid : Units) → IsCleaned (sizes pool) (contents v1 pool) mid → IsBacked (sizes pool) (w.now Home) mid → ((b k : ℕ) → b < o.super.bands → (contents v1 pool).band_since b ≡ Some k → mid.band_since b ≡ None → lasts pool.shelf b < log2.gate)
        → Cleans o v1 w (appended log r) log2 (durable_after log r ds ps) (waiting_after log r ps) (lasts pool.shelf) (contents v1 pool) mid
    cleans mid cleaned backed gone =
        let moments = subst (λ (g : Geometry). LeavesOnly v1 w (IsMoment g v1 (appended log r) (durable_after log r ds ps) (waiting_after log r ps) (lasts pool.shelf) (contents v1 pool))) e.sizes run in
        record {
          logs = logs;
          moments = moments;
          slots = weaker moments (moment_slots o v1 (appended log r) (durable_after log r ds ps) (waiting_after log r ps) (lasts pool.shelf) (contents v1 pool) (geometry o.super) place_there backs_there.ready);
          bytes = bytes;
          cleaned = subst (λ (g : Geometry). IsCleaned g (contents v1 pool) mid) e.sizes cleaned;
          backed = subst (λ (g : Geometry). IsBacked g (w.now Home) mid) e.sizes backed;
          gone = gone;
        }

    gone_on : (D W : List Numbered) → D ++ W ≡ durable_after log r ds ps ++ waiting_after log r ps → (s : List Numbered) → D ≡ durable_after log r ds ps ++ s → IsEngineOf o w log2 D W (lasts pool2.shelf) (contents w pool2) → AreLogged (tail_of log2) pool2.shelf
        → HasGoneOn o w log2 ds ((ds ++ ps) ++ x ∷ []) pool2
    gone_on D W all s front engine logged =
        let since = durable_since log r ds ps in
        record {
          durable = D;
          waiting = W;
          is_all = all ∙ all_appended log r ds ps;
          since = since.0 ++ s;
          later = front ∙ ap (λ (l : List Numbered). l ++ s) since.1 ∙ Rattle.std.proofs.Common.append_assoc ds since.0 s;
          engine = record { sizes = size ∙ e.sizes; engine = engine; logged = logged };
        }

    -- from the half state with the units that the pool had at last
    pub all_again : (mid : Units) → Appends (geometry o.super) o.first (entries o (ds ++ ps)) (entry_of o x) → IsCleaned (sizes pool) (contents v1 pool) mid → IsBacked (sizes pool) (w.now Home) mid
        → ((b k : ℕ) → b < o.super.bands → (contents v1 pool).band_since b ≡ Some k → mid.band_since b ≡ None → lasts pool.shelf b < log2.gate)
        → ((D W : List Numbered) → IsHalf o w log2 D W (ds ++ ps) (x ∷ []) x.lsn (lasts pool.shelf) mid → x.lsn < tail_of log2 → EachPage (geometry o.super) (λ n. IsNumbered x.lsn (o.first.page n)) → IsEngineOf o w log2 D W (lasts pool2.shelf) (contents w pool2))
        → ((t : ℕ) → AreLogged t pool.shelf → x.lsn < t → AreLogged t pool2.shelf) → HasGoneOn o w log2 ds ((ds ++ ps) ++ x ∷ []) pool2
    all_again mid appends cleaned backed gone again logs2 =
        let a = is_appended log r fits in let behind = a.behind in let tl = a.tail in
        let D = durable_after log r ds ps in
        let W = waiting_after log r ps in
        ⊎_elim
        (λ same.
        let t = ap tail_of same.0 in
        gone_on D W refl [] (sym (append_none D)) (again D W same.1 (omega arith) started_at) (logs2 (tail_of log2) (logged_later pool.shelf.wins (tail_of log) (tail_of log2) (omega arith) e.logged) (omega arith)))
        (λ more.
        let f = is_forced (appended log r) in
        let t = ap tail_of more.0 ∙ f.tail in
        gone_on (D ++ W) [] (append_none (D ++ W)) W refl (again (D ++ W) [] more.1 (omega arith) started_at) (logs2 (tail_of log2) (logged_later pool.shelf.wins (tail_of log) (tail_of log2) (omega arith) e.logged) (omega arith)))
        (half_after o v1 w (appended log r) log2 D W (ds ++ ps) (x ∷ []) x.lsn (lasts pool.shelf) (contents v1 pool) mid (half_there appends) (cleans mid cleaned backed gone))

    -- A CHANGE OF A PAGE
    pub page_call : (t : Table) (p : ℕ) (op : Op) → DoesToPage o t (ds ++ ps) x p op → p < (sizes pool).pages → IsCleanedThenChanged (sizes pool) (w.now Home) p (on_page t x.lsn op) (contents v1 pool) (contents w pool2) → Backs (sizes pool) w pool2 → SameWindows pool pool2
        → HasGoneOn o w log2 ds ((ds ++ ps) ++ x ∷ []) pool2
    page_call t p op does lt changed backs windows =
        let mid = changed.0 in
        let is = changed.3 in
        let same : (b : ℕ) → since_of pool2.shelf.wins.slots.items (window_of pool2.shelf.wins b) ≡ since_of pool.shelf.wins.slots.items (window_of pool.shelf.wins b) = λ b. ap (λ (l : Windows). since_of l.slots.items (window_of l b)) windows.windows in
        let last : (b : ℕ) → lasts pool2.shelf b ≡ lasts pool.shelf b = λ b. ap (λ (l : Windows). Rattle.sg_pool.specs.Frames.lasts_of l b) windows.windows in
        all_again mid does.appends changed.1 changed.2
        (λ b k small had none. let no : None ≡ Some k = sym none ∙ sym (is.band_since b) ∙ same b ∙ had in let bad : ⊥ = cc in absurd bad)
        (λ D W h low start. page_again o w log2 D W (ds ++ ps) x (lasts pool.shelf) mid h p (made t x.lsn op) (contents w pool2) (lasts pool2.shelf) does.effect (subst (λ (g : Geometry). p < g.pages) e.sizes lt) low (start p (subst (λ (g : Geometry). p < g.pages) e.sizes lt)) is
        (subst (λ (g : Geometry). IsBacked g (w.now Home) (contents w pool2)) e.sizes backs) (λ b k since. last b))
        (λ t logged low b k since. let was = logged b k (sym (same b) ∙ since) in let l = last b in omega arith)

    -- A CHANGE OF A BAND
    pub band_call : (b at : ℕ) (text : List ℕ) → DoesToBand o (ds ++ ps) x b at text → IsCleanedThenWritten (sizes pool) (w.now Home) b x.lsn at text (contents v1 pool) (contents w pool2) → Backs (sizes pool) w pool2
        → HaveGone log2.gate pool.shelf.wins pool2.shelf.wins → last_of pool2 b ≡ x.lsn → OthersKeepLasts b pool pool2 → ((t : ℕ) → AreLogged t pool.shelf → x.lsn < t → AreLogged t pool2.shelf) → HasGoneOn o w log2 ds ((ds ++ ps) ++ x ∷ []) pool2
    band_call b at text does changed backs gone its others logs2 =
        let mid = changed.0 in
        let own = changed.3 in
        let is = changed.4 in
        all_again mid does.appends changed.1 changed.2
        (λ c k small had none. ⊎_elim
        (λ same. let no : None ≡ Some k = sym none ∙ ap mid.band_since same ∙ own ∙ ap (contents v1 pool).band_since (sym same) ∙ had in let bad : ⊥ = cc in absurd bad)
        (λ differ. gone c k had (is.other_sinces c differ ∙ none))
        (cases_eq c b))
        (λ D W h low start. band_again o w log2 D W (ds ++ ps) x (lasts pool.shelf) mid h b at text (contents w pool2) (lasts pool2.shelf) does.effect low is
        (subst (λ (g : Geometry). IsBacked g (w.now Home) (contents w pool2)) e.sizes backs) its (λ c k differ since. (others c k differ since).1))
        logs2

  -- AN APPEND ALONE, of a record that changes nothing
  pub append_call : DoesNothing o (ds ++ ps) x → HasGoneOn o v1 (appended log r) ds ((ds ++ ps) ++ x ∷ []) pool
  append_call does =
      let a = is_appended log r fits in let behind = a.behind in let tl = a.tail in
      let since = durable_since log r ds ps in
      record {
        durable = durable_after log r ds ps;
        waiting = waiting_after log r ps;
        is_all = all_appended log r ds ps;
        since = since.0;
        later = since.1;
        engine = record {
          sizes = e.sizes;
          engine = nothing_again o v1 (appended log r) (durable_after log r ds ps) (waiting_after log r ps) (ds ++ ps) x (lasts pool.shelf) (contents v1 pool) (half_there does.appends) (lasts pool.shelf) does.effect (omega arith) (λ b k is. refl);
          logged = logged_later pool.shelf.wins (tail_of log) (tail_of (appended log r)) (omega arith) e.logged;
        };
      }

-- THE CALLS THAT CHANGE NO RECORD
module _ (o : Origin) (v w : View) (log : Tail) (ds ps : List Numbered) (pool : Pool) (e : IsEngine o v log ds ps pool) where
  pub rest_moments : (k : ℕ) → IsAllowed o v log pool k → LeavesOnly v w (IsBeforeOrAfter v.now log ds ps) → LeavesOnly v w (IsStanding o ds (ds ++ ps) k)
  rest_moments k early run = weaker run (engine_rest o v log ds ps (lasts pool.shelf) (contents v pool) k e.engine early)

  pub pool_moments : (k : ℕ) → IsAllowed o v log pool k → LeavesOnly v w (IsPoolMoment v pool log ds ps) → LeavesOnly v w (IsStanding o ds (ds ++ ps) k)
  pool_moments k early run = weaker run (λ c moment.
      let there = subst (λ (g : Geometry). IsMoment g v log ds ps (lasts pool.shelf) (contents v pool) c) e.sizes moment in
      engine_moment o v log ds ps (lasts pool.shelf) (contents v pool) k e.engine early c there (moment_slots o v log ds ps (lasts pool.shelf) (contents v pool) (geometry o.super) e.engine.place e.engine.backed.ready c there))

  pub apart_here : log.area ≢ Home
  apart_here = log_apart o log e.engine.place

  pub backs_here : Backs (sizes pool) v pool
  backs_here = subst (λ (g : Geometry). IsBacked g (v.now Home) (contents v pool)) (sym e.sizes) e.engine.backed

  pub logged_here : IsLogged (tail_of log) v pool
  logged_here = record { pages = λ n k lt is. e.engine.below n k (subst (λ (g : Geometry). n < g.pages) e.sizes lt) is; bands = e.logged }

  pub well_here : (n : ℕ) → n < (sizes pool).pages → IsWell ((contents v pool).page n)
  well_here n lt = page_well o v log ds ps (lasts pool.shelf) (contents v pool) n e.engine (subst (λ (g : Geometry). n < g.pages) e.sizes lt)

  pub force_call : (log2 : Tail) → log2 ≡ forced log → w.now Home ≡ v.now Home → Holds w log2 (ds ++ ps) [] → IsEngine o w log2 (ds ++ ps) [] pool
  force_call log2 is home holds =
      let same : contents w pool ≡ contents v pool = ap (λ (p : Part). units p.seen pool.shelf) home in
      let f = is_forced log in
      let t = ap tail_of is ∙ f.tail in
      record {
        sizes = e.sizes;
        engine = subst (λ (l : Tail). IsEngineOf o w l (ds ++ ps) [] (lasts pool.shelf) (contents w pool)) (sym is)
            (subst (λ (m : Units). IsEngineOf o w (forced log) (ds ++ ps) [] (lasts pool.shelf) m) (sym same)
            (force_again o v w log ds ps (lasts pool.shelf) (contents v pool) e.engine home (subst (λ (l : Tail). Holds w l (ds ++ ps) []) is holds)));
        logged = logged_later pool.shelf.wins (tail_of log) (tail_of log2) (omega arith) e.logged;
      }

  pub flush_call : (log2 : Tail) (pool2 : Pool) → log2 ≡ forced log → Holds w log2 (ds ++ ps) [] → LeavesOnly v w (IsPoolMoment v pool log ds ps) → ((a : Area) (i : ℕ) → (w.now a).seen i < 256) → sizes pool2 ≡ sizes pool → Backs (sizes pool) w pool2
      → SameContents v pool w pool2 → ((lsn : ℕ) → IsUnwritten pool2 lsn → ⊥) → ((t : ℕ) → AreLogged t pool.shelf → AreLogged t pool2.shelf) → IsEngine o w log2 (ds ++ ps) [] pool2
  flush_call log2 pool2 is holds run bytes size backs same written logs2 =
      let moments = subst (λ (g : Geometry). LeavesOnly v w (IsMoment g v log ds ps (lasts pool.shelf) (contents v pool))) e.sizes run in
      let f = is_forced log in
      let t = ap tail_of is ∙ f.tail in
      let g : (forced log).gate ≡ tail_of log = sym (tail_empty (forced log) (forced_empty log)) ∙ f.tail in
      let gate : log2.gate ≡ tail_of log = ap (λ (l : Tail). l.gate) is ∙ g in
      let none : (b k : ℕ) → b < o.super.bands → (contents w pool2).band_since b ≡ Some k → ⊥ = λ b k lt since. written k (inr (b, subst (λ (h : Geometry). b < h.bands) (sym (size ∙ e.sizes)) lt, since)) in
      let c : Cleans o v w log log2 ds ps (lasts pool.shelf) (contents v pool) (contents w pool2) = record {
        logs = inr (is, subst (λ (l : Tail). Holds w l (ds ++ ps) []) is holds);
        moments = moments;
        slots = weaker moments (moment_slots o v log ds ps (lasts pool.shelf) (contents v pool) (geometry o.super) e.engine.place e.engine.backed.ready);
        bytes = bytes;
        cleaned = subst (λ (h : Geometry). IsCleaned h (contents v pool) (contents w pool2)) e.sizes same;
        backed = subst (λ (h : Geometry). IsBacked h (w.now Home) (contents w pool2)) e.sizes backs;
        gone = λ b k lt had clean. let low = e.logged b k had in omega arith;
      } in
      record {
        sizes = size ∙ e.sizes;
        engine = pool_forced_again o v w log log2 ds ps (lasts pool.shelf) (lasts pool2.shelf) (contents v pool) (contents w pool2) e.engine c (is, subst (λ (l : Tail). Holds w l (ds ++ ps) []) is holds) (λ b k lt since. absurd (none b k lt since));
        logged = logs2 (tail_of log2) (logged_later pool.shelf.wins (tail_of log) (tail_of log2) (omega arith) e.logged);
      }

-- an append that fails for another reason than the log's end
pub append_failed : (end : ℕ) (old new : View) (f : LogFault) → AppendFails end old new f → (f ≡ LogEnd → ⊥) → HasRisen old.faults new.faults
append_failed end old new Disk fails other = fails
append_failed end old new LogEnd fails other = absurd (other refl)
append_failed end old new (Damaged at) fails other = absurd fails
append_failed end old new Memory fails other = absurd fails

pub append_ended : (end : ℕ) (old new : View) (f : LogFault) → AppendFails end old new f → f ≡ LogEnd → LOG_END < end
append_ended end old new f fails is = subst (AppendFails end old new) is fails

-- THE SAME in the words of the code: of the log that `append` left, and of the number that it answered
module _ (o : Origin) (v v1 : View) (log log1 : Tail) (ds ps : List Numbered) (pool : Pool) (r : Record) (fits : IsRecord r) (e : IsEngine o v log ds ps pool) (is : log1 ≡ appended log r) (elsewhere : SameElsewhere log.area v.now v1.now)
    (held : Holds v1 log1 (durable_after log r ds ps) (waiting_after log r ps)) where
  home1 : v1.now Home ≡ v.now Home
  home1 = elsewhere Home (λ at. log_apart o log e.engine.place (sym at))

  holds1 : Holds v1 (appended log r) (durable_after log r ds ps) (waiting_after log r ps)
  holds1 = subst (λ (l : Tail). Holds v1 l (durable_after log r ds ps) (waiting_after log r ps)) is held

  pub apart1 : log1.area ≢ Home
  apart1 = subst (λ (l : Tail). l.area ≢ Home) (sym is) (apart_there o v v1 log ds ps pool r fits e home1 holds1)

  pub backs1 : Backs (sizes pool) v1 pool
  backs1 = backs_there o v v1 log ds ps pool r fits e home1 holds1

  pub logged1 : IsLogged (tail_of log1) v1 pool
  logged1 = subst (λ (l : Tail). IsLogged (tail_of l) v1 pool) (sym is) (logged_there o v v1 log ds ps pool r fits e home1 holds1)

  pub well1 : (n : ℕ) → n < (sizes pool).pages → IsWell ((contents v1 pool).page n)
  well1 n lt = subst (λ (m : Units). IsWell (m.page n)) (sym (contents_same o v v1 log ds ps pool r fits e home1 holds1)) (page_well o v log ds ps (lasts pool.shelf) (contents v pool) n e.engine (subst (λ (g : Geometry). n < g.pages) e.sizes lt))

  pub moments1 : (w : View) (k : ℕ) → Appends (geometry o.super) o.first (entries o (ds ++ ps)) (entry_of o (numbered log r)) → IsAllowed o v log pool k → LeavesOnly v v1 (IsBeforeOrAfter v.now log ds ps)
      → LeavesOnly v1 w (IsPoolMoment v1 pool log1 (durable_after log r ds ps) (waiting_after log r ps)) → LeavesOnly v w (IsStanding o ds ((ds ++ ps) ++ numbered log r ∷ []) k)
  moments1 w k appends early force run = change_moments o v v1 log ds ps pool r fits e home1 holds1 w k appends early force
      (subst (λ (l : Tail). LeavesOnly v1 w (IsPoolMoment v1 pool l (durable_after log r ds ps) (waiting_after log r ps))) is run)

  module _ (w : View) (log2 : Tail) (pool2 : Pool) (lsn : ℕ) (at_place : lsn ≡ place_of log r) (logs : IsSameOrForced w log1 log2 (durable_after log r ds ps) (waiting_after log r ps))
      (run : LeavesOnly v1 w (IsPoolMoment v1 pool log1 (durable_after log r ds ps) (waiting_after log r ps))) (bytes : (a : Area) (i : ℕ) → (w.now a).seen i < 256) (size : sizes pool2 ≡ sizes pool) where
    logs1 : IsSameOrForced w (appended log r) log2 (durable_after log r ds ps) (waiting_after log r ps)
    logs1 = subst (λ (l : Tail). IsSameOrForced w l log2 (durable_after log r ds ps) (waiting_after log r ps)) is logs

    run1 : LeavesOnly v1 w (IsPoolMoment v1 pool (appended log r) (durable_after log r ds ps) (waiting_after log r ps))
    run1 = subst (λ (l : Tail). LeavesOnly v1 w (IsPoolMoment v1 pool l (durable_after log r ds ps) (waiting_after log r ps))) is run

    pub page1 : (t : Table) (p : ℕ) (op : Op) → DoesToPage o t (ds ++ ps) (numbered log r) p op → p < (sizes pool).pages → IsCleanedThenChanged (sizes pool) (w.now Home) p (on_page t lsn op) (contents v1 pool) (contents w pool2) → Backs (sizes pool) w pool2 → SameWindows pool pool2
        → HasGoneOn o w log2 ds ((ds ++ ps) ++ numbered log r ∷ []) pool2
    page1 t p op does lt changed backs windows = page_call o v v1 log ds ps pool r fits e home1 holds1 w log2 pool2 logs1 run1 bytes size t p op does lt
        (subst (λ (n : ℕ). IsCleanedThenChanged (sizes pool) (w.now Home) p (on_page t n op) (contents v1 pool) (contents w pool2)) at_place changed) backs windows

    pub band1 : (b at : ℕ) (text : List ℕ) → DoesToBand o (ds ++ ps) (numbered log r) b at text → IsCleanedThenWritten (sizes pool) (w.now Home) b lsn at text (contents v1 pool) (contents w pool2) → Backs (sizes pool) w pool2
        → HaveGone log2.gate pool.shelf.wins pool2.shelf.wins → last_of pool2 b ≡ lsn → OthersKeepLasts b pool pool2 → ((t : ℕ) → AreLogged t pool.shelf → lsn < t → AreLogged t pool2.shelf) → HasGoneOn o w log2 ds ((ds ++ ps) ++ numbered log r ∷ []) pool2
    band1 b at text does changed backs gone its others logs2 = band_call o v v1 log ds ps pool r fits e home1 holds1 w log2 pool2 logs1 run1 bytes size b at text does
        (subst (λ (n : ℕ). IsCleanedThenWritten (sizes pool) (w.now Home) b n at text (contents v1 pool) (contents w pool2)) at_place changed) backs gone (its ∙ at_place) others
        (λ t logged low. logs2 t logged (let e = at_place in omega arith))

-- THE MOMENTS of an append alone, where a record was to come
pub append_moments : (o : Origin) (v w : View) (log : Tail) (ds ps : List Numbered) (pool : Pool) (x : Numbered) (k : ℕ) → IsEngine o v log ds ps pool → IsAllowed o v log pool k → LeavesOnly v w (IsBeforeOrAfter v.now log ds ps) → LeavesOnly v w (IsStanding o ds ((ds ++ ps) ++ x ∷ []) k)
append_moments o v w log ds ps pool x k e early run = weaker (rest_moments o v w log ds ps pool e k early run) (λ c stands. standing_weaker o ds ((ds ++ ps) ++ x ∷ []) ds (ds ++ ps) [] (x ∷ []) k c (sym (append_none ds)) refl stands)

-- where the page is one, the pool's change fails for the disk alone
pub bring_failed : (told : Bool) (area : Area) (n : ℕ) (old new : View) (pool : Pool) (f : PoolFault) → BringFails told area n old new pool.shelf f → IsTrue told → area ≢ Home → Backs (sizes pool) old pool → IsWell ((contents old pool).page n) → HasRisen old.faults new.faults
bring_failed told area n old new pool pool_faults.Disk fails t apart backs well = fails
bring_failed told area n old new pool (pool_faults.Damaged page) fails t apart backs well = absurd (fails.1 t apart backs well)
bring_failed told area n old new pool pool_faults.Memory fails t apart backs well = absurd fails

-- A REDO POINT that is allowed stays so over a change
module _ (o : Origin) (v v1 : View) (log log1 : Tail) (ds ps : List Numbered) (pool : Pool) (r : Record) (fits : IsRecord r) (e : IsEngine o v log ds ps pool) (is : log1 ≡ appended log r) (elsewhere : SameElsewhere log.area v.now v1.now)
    (held : Holds v1 log1 (durable_after log r ds ps) (waiting_after log r ps)) (k : ℕ) (early : IsAllowed o v log pool k) where
  same1 : contents v1 pool ≡ contents v pool
  same1 = contents_same o v v1 log ds ps pool r fits e (home1 o v v1 log log1 ds ps pool r fits e is elsewhere held) (holds1 o v v1 log log1 ds ps pool r fits e is elsewhere held)

  tail1 : (place_of log r < tail_of log1) × (tail_of log ≤ place_of log r)
  tail1 = let a = is_appended log r fits in (subst (λ (l : Tail). place_of log r < tail_of l) (sym is) a.behind, a.tail)

  pub append_early : IsAllowed o v1 log1 pool k
  append_early = let t = tail1.0 in let u = tail1.1 in early_at (geometry o.super) (tail_of log) (tail_of log1) k (contents v1 pool) (omega arith) (subst (λ (m : Units). IsEarly (geometry o.super) (tail_of log) k m) (sym same1) early)

  module _ (w : View) (log2 : Tail) (pool2 : Pool) (lsn : ℕ) (at_place : lsn ≡ place_of log r) (logs : IsSameOrForced w log1 log2 (durable_after log r ds ps) (waiting_after log r ps)) where
    tail2 : tail_of log2 ≡ tail_of log1
    tail2 = ⊎_elim (λ same. ap tail_of same.0) (λ more. ap tail_of more.0 ∙ (is_forced log1).tail) logs

    cleaned1 : (mid : Units) → IsCleaned (sizes pool) (contents v1 pool) mid → IsEarly (geometry o.super) (tail_of log) k mid
    cleaned1 mid cleaned = early_cleaned (geometry o.super) (tail_of log) k (contents v1 pool) mid (subst (λ (m : Units). IsEarly (geometry o.super) (tail_of log) k m) (sym same1) early)
        (subst (λ (m : Units). AreBehind (geometry o.super) (tail_of log) m) (sym same1) e.engine.behind) (subst (λ (g : Geometry). IsCleaned g (contents v1 pool) mid) e.sizes cleaned)

    pub page_early : (t : Table) (p : ℕ) (op : Op) → IsCleanedThenChanged (sizes pool) (w.now Home) p (on_page t lsn op) (contents v1 pool) (contents w pool2) → IsAllowed o w log2 pool2 k
    page_early t p op changed = let a = tail1.0 in let u = tail1.1 in let q = tail2 in
        early_changed (geometry o.super) (tail_of log) (tail_of log2) k p lsn (made t lsn op) changed.0 (contents w pool2) (omega arith) (omega arith) (cleaned1 changed.0 changed.1) changed.3

    pub band_early : (b at : ℕ) (text : List ℕ) → IsCleanedThenWritten (sizes pool) (w.now Home) b lsn at text (contents v1 pool) (contents w pool2) → IsAllowed o w log2 pool2 k
    band_early b at text changed = let a = tail1.0 in let u = tail1.1 in let q = tail2 in
        early_written (geometry o.super) (tail_of log) (tail_of log2) k b lsn at text changed.0 (contents w pool2) (omega arith) (omega arith) (cleaned1 changed.0 changed.1) changed.4

-- and over a force, a flush, and a call that lends
pub rest_early : (o : Origin) (v w : View) (log log2 : Tail) (ds ps : List Numbered) (pool : Pool) (k : ℕ) → IsEngine o v log ds ps pool → IsAllowed o v log pool k → w.now Home ≡ v.now Home → log2 ≡ forced log → IsAllowed o w log2 pool k
rest_early o v w log log2 ds ps pool k e early home is =
    let f = is_forced log in
    let t = ap tail_of is ∙ f.tail in
    early_at (geometry o.super) (tail_of log) (tail_of log2) k (contents w pool) (omega arith) (subst (λ (m : Units). IsEarly (geometry o.super) (tail_of log) k m) (sym (ap (λ (p : Part). units p.seen pool.shelf) home)) early)

pub pool_early : (o : Origin) (v w : View) (log log2 : Tail) (ds ps : List Numbered) (pool pool2 : Pool) (k : ℕ) → IsEngine o v log ds ps pool → IsAllowed o v log pool k → SameContents v pool w pool2 → (log2 ≡ log) ⊎ (log2 ≡ forced log) → IsAllowed o w log2 pool2 k
pool_early o v w log log2 ds ps pool pool2 k e early same which =
    let t : tail_of log2 ≡ tail_of log = ⊎_elim (λ is. ap tail_of is) (λ is. ap tail_of is ∙ (is_forced log).tail) which in
    early_at (geometry o.super) (tail_of log) (tail_of log2) k (contents w pool2) (omega arith)
    (early_cleaned (geometry o.super) (tail_of log) k (contents v pool) (contents w pool2) early e.engine.behind (subst (λ (g : Geometry). IsCleaned g (contents v pool) (contents w pool2)) e.sizes same))

-- A CALL THAT LENDS a page or a band: the records are the same
pub lent_call : (o : Origin) (v w : View) (log log2 : Tail) (ds ps : List Numbered) (pool pool2 : Pool) → IsEngine o v log ds ps pool → IsSameOrForced w log log2 ds ps → LeavesOnly v w (IsPoolMoment v pool log ds ps) → ((a : Area) (i : ℕ) → (w.now a).seen i < 256)
    → sizes pool2 ≡ sizes pool → Backs (sizes pool) w pool2 → SameContents v pool w pool2 → HaveGone log2.gate pool.shelf.wins pool2.shelf.wins → AreLastsKept pool.shelf.wins pool2.shelf.wins → ((t : ℕ) → AreLogged t pool.shelf → AreLogged t pool2.shelf)
    → HasGoneOn o w log2 ds (ds ++ ps) pool2
lent_call o v w log log2 ds ps pool pool2 e logs run bytes size backs same gone kept logs2 =
    let moments = subst (λ (g : Geometry). LeavesOnly v w (IsMoment g v log ds ps (lasts pool.shelf) (contents v pool))) e.sizes run in
    let c : Cleans o v w log log2 ds ps (lasts pool.shelf) (contents v pool) (contents w pool2) = record {
      logs = logs;
      moments = moments;
      slots = weaker moments (moment_slots o v log ds ps (lasts pool.shelf) (contents v pool) (geometry o.super) e.engine.place e.engine.backed.ready);
      bytes = bytes;
      cleaned = subst (λ (h : Geometry). IsCleaned h (contents v pool) (contents w pool2)) e.sizes same;
      backed = subst (λ (h : Geometry). IsBacked h (w.now Home) (contents w pool2)) e.sizes backs;
      gone = λ b k lt had none. gone b k had none;
    } in
    let later : tail_of log ≤ tail_of log2 = ⊎_elim (λ is. let t = ap tail_of is.0 in omega arith) (λ is. let t = ap tail_of is.0 ∙ (is_forced log).tail in omega arith) logs in
    let logged = logs2 (tail_of log2) (logged_later pool.shelf.wins (tail_of log) (tail_of log2) later e.logged) in
    ⊎_elim
    (λ is. record { durable = ds; waiting = ps; is_all = refl; since = []; later = sym (append_none ds); engine = record { sizes = size ∙ e.sizes; engine = is.1; logged = logged } })
    (λ is. record { durable = ds ++ ps; waiting = []; is_all = append_none (ds ++ ps); since = ps; later = refl; engine = record { sizes = size ∙ e.sizes; engine = is.1; logged = logged } })
    (pool_again o v w log log2 ds ps (lasts pool.shelf) (lasts pool2.shelf) (contents v pool) (contents w pool2) e.engine c (λ b k lt since. (kept b k since).1))

-- where the windows are as they were
pub windows_kept : (pool pool2 : Pool) → SameWindows pool pool2 → AreLastsKept pool.shelf.wins pool2.shelf.wins
windows_kept pool pool2 same = subst (λ (l : Windows). AreLastsKept pool.shelf.wins l) (sym same.windows) (λ b k since. (since, refl))

pub windows_gone : (gate : ℕ) (pool pool2 : Pool) → SameWindows pool pool2 → HaveGone gate pool.shelf.wins pool2.shelf.wins
windows_gone gate pool pool2 same = subst (λ (l : Windows). HaveGone gate pool.shelf.wins l) (sym same.windows) (λ b k had none. let no : None ≡ Some k = sym none ∙ had in let bad : ⊥ = cc in absurd bad)

pub windows_logged : (pool pool2 : Pool) → SameWindows pool pool2 → (t : ℕ) → AreLogged t pool.shelf → AreLogged t pool2.shelf
windows_logged pool pool2 same t logged b k since =
    let was = logged b k (sym (ap (λ (l : Windows). since_of l.slots.items (window_of l b)) same.windows) ∙ since) in
    let l = ap (λ (l : Windows). Rattle.sg_pool.specs.Frames.lasts_of l b) same.windows in omega arith

-- WHAT A LOAN SAYS of the pool behind it
told_ok : {T : Type 0} (result : Result T PoolFault) (x : T) (P : Type 0) → result ≡ Ok x → OnTold result P → P
told_ok result x P is on = subst (λ (r : Result _ PoolFault). OnTold r P) is on

ok_of : {T : Type 0} (result : Result T PoolFault) (x : T) (P : Type 0) → result ≡ Ok x → OnOk result P → P
ok_of result x P is on = subst (λ (r : Result _ PoolFault). OnOk r P) is on

pub lent_page : {T : Type 0} (o : Origin) (told : Bool) (v w : View) (log log2 : Tail) (ds ps : List Numbered) (pool pool2 : Pool) (p : ℕ) (result : Result T PoolFault) (x : T) → result ≡ Ok x → IsLent told log.area v w p result pool pool2 → IsTrue told → IsEngine o v log ds ps pool
    → IsSameOrForced w log log2 ds ps → LeavesOnly v w (IsPoolMoment v pool log ds ps) → ((a : Area) (i : ℕ) → (w.now a).seen i < 256) → HasGoneOn o w log2 ds (ds ++ ps) pool2
lent_page o told v w log log2 ds ps pool pool2 p result x is lent t e logs run bytes =
    let apart = apart_here o v w log ds ps pool e in
    let backs = backs_here o v w log ds ps pool e in
    lent_call o v w log log2 ds ps pool pool2 e logs run bytes lent.size (told_ok result x (Backs (sizes pool) w pool2) is (lent.backed t apart backs)) (told_ok result x (SameContents v pool w pool2) is (lent.same t apart backs))
    (windows_gone log2.gate pool pool2 lent.windows) (windows_kept pool pool2 lent.windows) (windows_logged pool pool2 lent.windows)

pub lent_page_early : {T : Type 0} (o : Origin) (told : Bool) (v w : View) (log log2 : Tail) (ds ps : List Numbered) (pool pool2 : Pool) (p k : ℕ) (result : Result T PoolFault) (x : T) → result ≡ Ok x → IsLent told log.area v w p result pool pool2 → IsTrue told → IsEngine o v log ds ps pool
    → IsAllowed o v log pool k → (log2 ≡ log) ⊎ (log2 ≡ forced log) → IsAllowed o w log2 pool2 k
lent_page_early o told v w log log2 ds ps pool pool2 p k result x is lent t e early which =
    pool_early o v w log log2 ds ps pool pool2 k e early (told_ok result x (SameContents v pool w pool2) is (lent.same t (apart_here o v w log ds ps pool e) (backs_here o v w log ds ps pool e))) which

pub lent_band : {T : Type 0} (o : Origin) (told : Bool) (v w : View) (log log2 : Tail) (ds ps : List Numbered) (pool pool2 : Pool) (b : ℕ) (result : Result T PoolFault) (x : T) → result ≡ Ok x → IsBandLent told log log2 v w b result pool pool2 → IsTrue told → IsEngine o v log ds ps pool
    → IsSameOrForced w log log2 ds ps → LeavesOnly v w (IsPoolMoment v pool log ds ps) → ((a : Area) (i : ℕ) → (w.now a).seen i < 256) → HasGoneOn o w log2 ds (ds ++ ps) pool2
lent_band o told v w log log2 ds ps pool pool2 b result x is lent t e logs run bytes =
    let apart = apart_here o v w log ds ps pool e in
    let backs = backs_here o v w log ds ps pool e in
    lent_call o v w log log2 ds ps pool pool2 e logs run bytes lent.size (told_ok result x (Backs (sizes pool) w pool2) is (lent.backed t apart backs)) (told_ok result x (SameContents v pool w pool2) is (lent.same t apart backs))
    (ok_of result x (HaveGone log2.gate pool.shelf.wins pool2.shelf.wins) is (lent.gone e.logged)) lent.lasts lent.logged

pub lent_band_early : {T : Type 0} (o : Origin) (told : Bool) (v w : View) (log log2 : Tail) (ds ps : List Numbered) (pool pool2 : Pool) (b k : ℕ) (result : Result T PoolFault) (x : T) → result ≡ Ok x → IsBandLent told log log2 v w b result pool pool2 → IsTrue told → IsEngine o v log ds ps pool
    → IsAllowed o v log pool k → (log2 ≡ log) ⊎ (log2 ≡ forced log) → IsAllowed o w log2 pool2 k
lent_band_early o told v w log log2 ds ps pool pool2 b k result x is lent t e early which =
    pool_early o v w log log2 ds ps pool pool2 k e early (told_ok result x (SameContents v pool w pool2) is (lent.same t (apart_here o v w log ds ps pool e) (backs_here o v w log ds ps pool e))) which

-- and of its bytes
pub page_bytes : (o : Origin) (v w : View) (log : Tail) (ds ps : List Numbered) (pool : Pool) (p : ℕ) → IsEngine o v log ds ps pool → p < (sizes pool).pages → (contents v pool).page p ≡ (history.made (entries o (ds ++ ps)) o.first).page p
page_bytes o v w log ds ps pool p e lt = e.engine.joined.page p (subst (λ (g : Geometry). p < g.pages) e.sizes lt)

pub band_bytes : (o : Origin) (v w : View) (log : Tail) (ds ps : List Numbered) (pool : Pool) (b i : ℕ) → IsEngine o v log ds ps pool → b < (sizes pool).bands → i < BAND_SIZE → (contents v pool).byte b i ≡ (history.made (entries o (ds ++ ps)) o.first).byte b i
band_bytes o v w log ds ps pool b i e lt small = e.engine.joined.byte b i (subst (λ (g : Geometry). b < g.bands) e.sizes lt) small

-- a number that is at most each oldest change, and the tail
pub point_allowed : (o : Origin) (v : View) (log : Tail) (ds ps : List Numbered) (pool : Pool) (k : ℕ) → IsEngine o v log ds ps pool → ((lsn : ℕ) → IsUnwritten pool lsn → k ≤ lsn) → k ≤ tail_of log → IsAllowed o v log pool k
point_allowed o v log ds ps pool k e least low = record {
  pages = λ n lt. estimate ((contents v pool).page_since n) (λ s is. least s (inl (n, subst (λ (g : Geometry). n < g.pages) (sym e.sizes) lt, is)));
  bands = λ b lt. estimate ((contents v pool).band_since b) (λ s is. least s (inr (b, subst (λ (g : Geometry). b < g.bands) (sym e.sizes) lt, is)));
}
  where
    estimate : (since : Option ℕ) → ((s : ℕ) → since ≡ Some s → k ≤ s) → k ≤ unwrap_or since (tail_of log)
    estimate None at = low
    estimate (Some s) at = at s refl

pub unwritten_low : (o : Origin) (v : View) (log : Tail) (ds ps : List Numbered) (pool : Pool) (k : ℕ) → IsEngine o v log ds ps pool → IsUnwritten pool k → k ≤ tail_of log
unwritten_low o v log ds ps pool k e is = ⊎_elim
    (λ page. let lt = e.engine.behind.pages page.0 k (subst (λ (g : Geometry). page.0 < g.pages) e.sizes page.1) page.2 in omega arith)
    (λ band. let lt = e.engine.behind.bands band.0 k (subst (λ (g : Geometry). band.0 < g.bands) e.sizes band.1) band.2 in omega arith)
    is
