-- The calls of the engine, by what those of the log and of the pool say.
use Rattle.std.proofs.Common.{◌≡◌, ◌≢◌, ◌⊎◌, inl, inr, ⊎_elim, ◌<◌, ◌≤◌, ◌==◌, ℕ, nat_lt, Bool, true, false, Option, Some, None, unwrap_or, is_some, List, [], ◌∷◌, ◌++◌, length, refl, sym, ◌∙◌, ap, subst, arith, append_assoc}
use Rattle.std.proofs.lemmas.Bool.{cases_eq}
use Rattle.std.proofs.lemmas.Bool.Decides.{nat_tests}
use Rattle.sg_base.specs.Page.{lsn_of}
use Rattle.sg_base.specs.declared.area.Area.TheVariants.{Home}
use Rattle.sg_disk.specs.Disk.{Bytes, Image, Part, View}
use Rattle.sg_record.specs.Records.{Record}
use Rattle.sg_record.specs.Ranges.{IsRecord}
use Rattle.sg_log.proofs.Texts.{spelled-long}
use Rattle.sg_log.specs.Frames.{Numbered}
use Rattle.sg_log.specs.Held.{Tail, Holds, tail_of, place_of, has_room, forced, buffered, appended, numbered, durable_after, waiting_after, IsBeforeOrAfter}
use Rattle.sg_log.proofs.Holding.{all_appended, tail_room, tail_no_room}
use Rattle.sg_gate.specs.Superblock.{superblock}
use Rattle.sg_redo.specs.History.{OnPage, redone, repeated, applies, AllFit}
use Rattle.sg_redo.specs.Window.{OnWindow}
use Rattle.sg_pool.specs.Units.{Geometry, Units, IsBacked, IsGoing}
use Rattle.sg_pool.specs.Changed.{IsChanged, IsWritten}
use Rattle.sg_pool.specs.Moments.{IsMoment}
use Rattle.sg_pool.specs.Well.{IsWell}
use Rattle.sg_engine.specs.Numbers.{Rises, AllUnder}
use Rattle.sg_engine.specs.History.{Effect, ChangesPage, ChangesBand, ChangesNothing, Entry, entry_number, window_number, page_change, band_change, of_page, of_band, IsHistory, IsNumbered, Appends, AllWell}
use Rattle.sg_engine.specs.Kept.{home_in, IsKept, IsJoined, AreLast, IsEarly, page_estimate, band_estimate}
use Rattle.sg_engine.specs.Engine.{Origin, entry_of, entries, geometry, IsStanding, IsEngineOf, HasSlots}
use Rattle.sg_engine.proofs.Logs.{entries_append, is_forced, home_apart}
use Rattle.sg_engine.proofs.Units.{band_one}
use Rattle.sg_engine.proofs.Joined.{IsFollowed, going_kept, joined_forced}
use Rattle.sg_engine.proofs.Standing.{moment_stands, ready_same}
use Rattle.sg_engine.proofs.GoingOn.{IsHalf, engine_half, half_engine, Cleans, half_after, half_forced}
use Rattle.sg_engine.proofs.Followed.{page_followed, band_followed, nothing_followed, engine_followed, page_below, same_test, other_test, last_under}
use Rattle.sg_engine.proofs.Steps as hist
use Rattle.sg_engine.proofs.Steps.{append_none}

-- A WEAKER STATEMENT of an image: of fewer durable records, and of more appended ones
pub standing_weaker : (o : Origin) (ds all ds' all' s t : List Numbered) (r : ℕ) (c : Image) → ds' ≡ ds ++ s → all ≡ all' ++ t → IsStanding o ds' all' r c → IsStanding o ds all r c
standing_weaker o ds all ds' all' s t r c a b stands = record {
  super = stands.super;
  records = stands.records;
  tail = stands.tail;
  held = stands.held;
  since = s ++ stands.since;
  later = stands.later ∙ ap (λ (l : List Numbered). l ++ stands.since) a ∙ append_assoc ds s stands.since;
  more = stands.more ++ t;
  front = b ∙ ap (λ (l : List Numbered). l ++ t) stands.front ∙ append_assoc stands.records stands.more t;
  header = stands.header;
  sound = stands.sound;
  repeats = stands.repeats;
  history = stands.history;
}

-- MOMENTS of the pool's calls, between those of the engine
module _ (o : Origin) (v : View) (log : Tail) (ds ps : List Numbered) (last : ℕ → ℕ) (m : Units) (r : ℕ) where
  engine_keeps : IsEngineOf o v log ds ps last m → (d : ℕ) (now : Bytes) → log.gate ≤ d → IsGoing (geometry o.super) d last (v.now Home).seen m now
      → IsKept (geometry o.super) o.first (entries o (ds ++ ps)) d (page_estimate (tail_of log) m) (band_estimate (tail_of log) m) (home_in (geometry o.super) now)
  engine_keeps e d now le going = going_kept (geometry o.super) o.first (entries o (ds ++ ps)) d (tail_of log) last (v.now Home) m now e.history e.lasts e.backed (joined_forced (geometry o.super) o.first (entries o (ds ++ ps)) log.gate d (v.now Home).seen m le e.joined) going

  pub engine_moment : IsEngineOf o v log ds ps last m → IsEarly (geometry o.super) (tail_of log) r m → (c : Image) → IsMoment (geometry o.super) v log ds ps last m c → HasSlots v c → IsStanding o ds (ds ++ ps) r c
  engine_moment e early = moment_stands o v log ds ps last m r (page_estimate (tail_of log) m) (band_estimate (tail_of log) m) e.super e.place e.held e.backed.ready e.history e.started (engine_keeps e) early.pages early.bands

  pub engine_rest : IsEngineOf o v log ds ps last m → IsEarly (geometry o.super) (tail_of log) r m → (c : Image) → IsBeforeOrAfter v.now log ds ps c → IsStanding o ds (ds ++ ps) r c
  engine_rest e early c before = engine_moment e early c (inl before) (before_slots c before)
    where
      before_slots : (c : Image) → IsBeforeOrAfter v.now log ds ps c → HasSlots v c
      before_slots c before i low = ready_same v.now c e.backed.ready (before.others Home (λ at. home_apart o (at ∙ e.place.area))) i (inl (omega arith))

  -- and while a record is appended that the units don't have yet
  half_keeps : (done : List Numbered) (x : Numbered) → IsHalf o v log ds ps done (x ∷ []) x.lsn last m → (d : ℕ) (now : Bytes) → log.gate ≤ d → IsGoing (geometry o.super) d last (v.now Home).seen m now
      → IsKept (geometry o.super) o.first (entries o (ds ++ ps)) d (page_estimate x.lsn m) (band_estimate x.lsn m) (home_in (geometry o.super) now)
  half_keeps done x h d now le going =
      let split : entries o (done ++ x ∷ []) ≡ entries o done ++ entry_of o x ∷ [] = entries_append o done (x ∷ []) in
      subst (λ (l : List Entry). IsKept (geometry o.super) o.first l d (page_estimate x.lsn m) (band_estimate x.lsn m) (home_in (geometry o.super) now)) (sym (ap (entries o) h.all ∙ split))
      (hist.appended (geometry o.super) o.first (entries o done) (entry_of o x) d (page_estimate x.lsn m) (band_estimate x.lsn m) (home_in (geometry o.super) now) (subst (λ (l : List Entry). Rises entry_number 1 l) split h.history.rises)
      (λ n lt. low_estimate x.lsn (m.page_since n) (λ k is. h.behind.pages n k lt is)) (λ b lt. low_estimate x.lsn (m.band_since b) (λ k is. h.behind.bands b k lt is))
      (going_kept (geometry o.super) o.first (entries o done) d x.lsn last (v.now Home) m now h.done_history h.lasts h.backed (joined_forced (geometry o.super) o.first (entries o done) log.gate d (v.now Home).seen m le h.joined) going))
    where
      low_estimate : (x : ℕ) (o : Option ℕ) → ((k : ℕ) → o ≡ Some k → k < x) → unwrap_or o x ≤ x
      low_estimate x None low = omega arith
      low_estimate x (Some k) low = let lt = low k refl in omega arith

  pub half_moment : (done : List Numbered) (x : Numbered) → IsHalf o v log ds ps done (x ∷ []) x.lsn last m → IsEarly (geometry o.super) x.lsn r m → (c : Image) → IsMoment (geometry o.super) v log ds ps last m c → HasSlots v c → IsStanding o ds (ds ++ ps) r c
  half_moment done x h early = moment_stands o v log ds ps last m r (page_estimate x.lsn m) (band_estimate x.lsn m) h.super h.place h.held h.backed.ready
      (subst (λ (l : List Numbered). IsHistory (geometry o.super) o.first (entries o l)) (sym h.all) h.history) h.started (half_keeps done x h) early.pages early.bands

-- a redo point that is at most each estimate is so when the tail is later
later_estimate : (r t t' : ℕ) (o : Option ℕ) → t ≤ t' → r ≤ unwrap_or o t → r ≤ unwrap_or o t'
later_estimate r t t' None le early = omega arith
later_estimate r t t' (Some k) le early = early

pub early_later : (g : Geometry) (t t' r : ℕ) (m : Units) → t ≤ t' → IsEarly g t r m → IsEarly g t' r m
early_later g t t' r m le early = record { pages = λ n lt. later_estimate r t t' (m.page_since n) le (early.pages n lt); bands = λ b lt. later_estimate r t t' (m.band_since b) le (early.bands b lt) }

-- AN APPEND, as the log says it
pub record IsAppended (log log' : Tail) (r : Record) : Type 0 where
  pub area : log'.area ≡ log.area
  pub base : log'.base ≡ log.base
  pub gate : log.gate ≤ log'.gate
  pub tail : tail_of log ≤ place_of log r
  pub behind : place_of log r < tail_of log'

tail_place : (log : Tail) (r : Record) (b c : Bool) → (length log.buffer == 0) ≡ b → has_room log r ≡ c → tail_of log ≤ place_of log r
tail_place log r true true empty room = grind (arith, nat_tests, empty, room)
tail_place log r true false empty room = grind (arith, nat_tests, empty, room)
tail_place log r false true empty room = grind (arith, nat_tests, empty, room)
tail_place log r false false empty room = grind (arith, nat_tests, empty, room)

appended_room : (log : Tail) (r : Record) → has_room log r ≡ true → appended log r ≡ buffered log r
appended_room log r is = rw is refl

appended_forced : (log : Tail) (r : Record) → has_room log r ≡ false → appended log r ≡ buffered (forced log) r
appended_forced log r is = rw is refl

appended_by : (log : Tail) (r : Record) (c : Bool) → IsRecord r → has_room log r ≡ c → IsAppended log (appended log r) r
appended_by log r true fits is =
    let e = appended_room log r is in
    let t = ap tail_of e ∙ tail_room log r is in
    record { area = ap (λ (l : Tail). l.area) e; base = ap (λ (l : Tail). l.base) e; gate = let g = ap (λ (l : Tail). l.gate) e in omega arith; tail = tail_place log r (length log.buffer == 0) true refl is; behind = let some = spelled-long r in omega arith }
appended_by log r false fits is =
    let e = appended_forced log r is in
    let t = ap tail_of e ∙ tail_no_room log r fits is in
    let f = is_forced log in
    let le = f.gate in
    record { area = ap (λ (l : Tail). l.area) e ∙ f.area; base = ap (λ (l : Tail). l.base) e ∙ f.base; gate = let g = ap (λ (l : Tail). l.gate) e in omega arith; tail = tail_place log r (length log.buffer == 0) false refl is; behind = let some = spelled-long r in omega arith }

pub is_appended : (log : Tail) (r : Record) → IsRecord r → IsAppended log (appended log r) r
is_appended log r fits = appended_by log r (has_room log r) fits refl

-- the engine while the record is appended that the units don't have yet
pub append_half : (o : Origin) (v w : View) (log : Tail) (ds ps : List Numbered) (last : ℕ → ℕ) (m : Units) (r : Record) → IsRecord r → IsEngineOf o v log ds ps last m → w.now Home ≡ v.now Home
    → Holds w (appended log r) (durable_after log r ds ps) (waiting_after log r ps) → Appends (geometry o.super) o.first (entries o (ds ++ ps)) (entry_of o (numbered log r))
    → IsHalf o w (appended log r) (durable_after log r ds ps) (waiting_after log r ps) (ds ++ ps) (numbered log r ∷ []) (place_of log r) last m
append_half o v w log ds ps last m r fits e home holds appends =
    let a = is_appended log r fits in
    let ga = a.gate in
    let ta = a.tail in
    let be = a.behind in
    record {
      super = ap (λ (p : Part). superblock p.seen) home ∙ e.super;
      place = record { area = a.area ∙ e.place.area; base = a.base ∙ e.place.base };
      held = holds;
      backed = subst (λ (p : Part). IsBacked (geometry o.super) p m) (sym home) e.backed;
      all = all_appended log r ds ps;
      history = subst (λ (l : List Entry). IsHistory (geometry o.super) o.first l) (sym (entries_append o (ds ++ ps) (numbered log r ∷ []))) (hist.history_appended (geometry o.super) o.first (entries o (ds ++ ps)) (entry_of o (numbered log r)) e.history appends);
      done_history = e.history;
      started = λ n lt. ⊎_elim (λ none. inl none) (λ low. inr (omega arith)) (e.started n lt);
      joined = subst (λ (p : Part). IsJoined (geometry o.super) o.first (entries o (ds ++ ps)) (appended log r).gate p.seen m) (sym home) (joined_forced (geometry o.super) o.first (entries o (ds ++ ps)) log.gate (appended log r).gate (v.now Home).seen m ga e.joined);
      lasts = e.lasts;
      below = λ n k lt is. let low = e.below n k lt is in omega arith;
      behind = record { pages = λ n k lt is. let low = e.behind.pages n k lt is in omega arith; bands = λ b k lt is. let low = e.behind.bands b k lt is in omega arith };
    }

-- THE POOL'S PART of a change of a page
fit_behind : (xs ys : List OnPage) (p : List ℕ) → AllFit (xs ++ ys) p → AllFit ys (repeated xs p)
fit_behind [] ys p fit = fit
fit_behind (x ∷ xs) ys p fit = fit_behind xs ys (redone x p) fit.1

some_is : (makes : List ℕ → Option (List ℕ)) (page new : List ℕ) → makes page ≡ Some new → is_some (makes page) ≡ true
some_is makes page new is = ap (λ (o : Option (List ℕ)). is_some o) is

applies_with : (r : OnPage) (page : List ℕ) → lsn_of page < r.lsn → is_some (r.makes page) ≡ true → applies r page ≡ true
applies_with r page lt some = let t : nat_lt (lsn_of page) r.lsn ≡ true = grind (arith, nat_tests, lt) in rw (t, some) refl

module _ (o : Origin) (v : View) (log : Tail) (ds ps done : List Numbered) (x : Numbered) (last : ℕ → ℕ) (m : Units) (h : IsHalf o v log ds ps done (x ∷ []) x.lsn last m) where
  split_half : entries o (done ++ x ∷ []) ≡ entries o done ++ entry_of o x ∷ []
  split_half = entries_append o done (x ∷ [])

  rises_half : Rises entry_number 1 (entries o done ++ entry_of o x ∷ [])
  rises_half = subst (λ (l : List Entry). Rises entry_number 1 l) split_half h.history.rises

  above : 0 < x.lsn
  above = let le = hist.last_above entry_number 1 (entries o done) (entry_of o x) rises_half in omega arith

  -- the record's operation fits the page that the others made, and its number is above the page's
  pub half_applies : (p : ℕ) (makes : List ℕ → Option (List ℕ)) (page : List ℕ) → o.effect x.lsn x.is ≡ ChangesPage p makes → p < o.super.pages → IsNumbered x.lsn (o.first.page p) → page ≡ repeated (of_page p (entries o done)) (o.first.page p) → applies (record { lsn = x.lsn; makes = makes }) page ≡ true
  half_applies p makes page effect lt start is =
      let here : page_change p x.lsn (o.effect x.lsn x.is) ≡ record { lsn = x.lsn; makes = makes } ∷ [] = ap (page_change p x.lsn) effect ∙ one_of p x.lsn makes in
      let parts : of_page p (entries o (done ++ x ∷ [])) ≡ of_page p (entries o done) ++ record { lsn = x.lsn; makes = makes } ∷ [] = ap (of_page p) split_half ∙ hist.split_page p (entries o done) (entry_of o x) ∙ ap (λ (l : List OnPage). of_page p (entries o done) ++ l) here in
      let fit = fit_behind (of_page p (entries o done)) (record { lsn = x.lsn; makes = makes } ∷ []) (o.first.page p) (subst (λ (l : List OnPage). AllFit l (o.first.page p)) parts (h.history.fits p lt)) in
      let low : lsn_of (repeated (of_page p (entries o done)) (o.first.page p)) < x.lsn = page_below (geometry o.super) o.first (entries o done) x.lsn p h.done_history lt above start (hist.rises_under entry_number 1 (entries o done) (entry_of o x) rises_half) in
      let made = fit.0 low in
      subst (λ (q : List ℕ). applies (record { lsn = x.lsn; makes = makes }) q ≡ true) (sym is) (applies_with (record { lsn = x.lsn; makes = makes }) (repeated (of_page p (entries o done)) (o.first.page p)) low (some_is makes (repeated (of_page p (entries o done)) (o.first.page p)) made.0 made.1))
    where
      one_of : (p l : ℕ) (makes : List ℕ → Option (List ℕ)) → page_change p l (ChangesPage p makes) ≡ record { lsn = l; makes = makes } ∷ []
      one_of p l makes = let t = same_test p p refl in rw t refl

  -- THE ENGINE AGAIN, once the page follows
  pub page_again : (p : ℕ) (makes : List ℕ → Option (List ℕ)) (m' : Units) (last' : ℕ → ℕ) → o.effect x.lsn x.is ≡ ChangesPage p makes → p < o.super.pages → x.lsn < tail_of log → IsNumbered x.lsn (o.first.page p) → IsChanged p (record { lsn = x.lsn; makes = makes }) m m' → IsBacked (geometry o.super) (v.now Home) m'
      → ((b k : ℕ) → m'.band_since b ≡ Some k → last' b ≡ last b) → IsEngineOf o v log ds ps last' m'
  page_again p makes m' last' effect lt low start is backed same =
      let does = half_applies p makes (m.page p) effect lt start (h.joined.page p lt) in
      let followed : IsFollowed (geometry o.super) (entry_of o x) m m' = subst (λ (e : Effect). IsFollowed (geometry o.super) (record { lsn = x.lsn; effect = e }) m m') (sym effect) (page_followed (geometry o.super) x.lsn p makes m m' does is) in
      engine_followed o v log ds ps done x last last' m m' h low followed backed (λ b k small since d less.
      let none : band_change b x.lsn (o.effect x.lsn x.is) ≡ [] = ap (band_change b x.lsn) effect in
      let was = h.lasts b k small (sym (is.band_since b) ∙ since) d (let e = same b k since in omega arith) in
      subst (λ (l : List OnWindow). AllUnder window_number d l) (sym (hist.split_band b (entries o done) (entry_of o x) ∙ ap (λ (l : List OnWindow). of_band b (entries o done) ++ l) none ∙ append_none (of_band b (entries o done)))) was)

  -- and once the band follows
  pub band_again : (b at : ℕ) (bytes : List ℕ) (m' : Units) (last' : ℕ → ℕ) → o.effect x.lsn x.is ≡ ChangesBand b at bytes → x.lsn < tail_of log → IsWritten b x.lsn at bytes m m' → IsBacked (geometry o.super) (v.now Home) m'
      → last' b ≡ x.lsn → ((c k : ℕ) → c ≢ b → m'.band_since c ≡ Some k → last' c ≡ last c) → IsEngineOf o v log ds ps last' m'
  band_again b at bytes m' last' effect low is backed its others =
      let followed : IsFollowed (geometry o.super) (entry_of o x) m m' = subst (λ (e : Effect). IsFollowed (geometry o.super) (record { lsn = x.lsn; effect = e }) m m') (sym effect) (band_followed (geometry o.super) x.lsn b at bytes m m' is) in
      engine_followed o v log ds ps done x last last' m m' h low followed backed (λ c k small since d less.
      ⊎_elim
      (λ same.
      let e : x.lsn < d = let z = its in let w = ap last' same in omega arith in
      subst (λ (l : List OnWindow). AllUnder window_number d l) (hist.band_parts_are c (entries o done ++ entry_of o x ∷ []))
      (hist.under_parts window_number (λ e. band_change c e.lsn e.effect) (λ e. band_one c e.lsn e.effect) d (entries o done ++ entry_of o x ∷ []) (last_under (entries o done) (entry_of o x) d rises_half e)))
      (λ differ.
      let none : band_change c x.lsn (o.effect x.lsn x.is) ≡ [] = ap (band_change c x.lsn) effect ∙ other_band c x.lsn (λ e. differ (sym e)) in
      let was = h.lasts c k small (sym (is.other_sinces c differ) ∙ since) d (let e = others c k differ since in omega arith) in
      subst (λ (l : List OnWindow). AllUnder window_number d l) (sym (hist.split_band c (entries o done) (entry_of o x) ∙ ap (λ (l : List OnWindow). of_band c (entries o done) ++ l) none ∙ append_none (of_band c (entries o done)))) was)
      (cases_eq c b))
    where
      other_band : (c l : ℕ) → (b ≡ c → ⊥) → band_change c l (ChangesBand b at bytes) ≡ []
      other_band c l not = let t = other_test b c not in rw t refl

  -- and a record of neither
  pub nothing_again : (last' : ℕ → ℕ) → o.effect x.lsn x.is ≡ ChangesNothing → x.lsn < tail_of log → ((b k : ℕ) → m.band_since b ≡ Some k → last' b ≡ last b) → IsEngineOf o v log ds ps last' m
  nothing_again last' effect low same =
      let followed : IsFollowed (geometry o.super) (entry_of o x) m m = subst (λ (e : Effect). IsFollowed (geometry o.super) (record { lsn = x.lsn; effect = e }) m m) (sym effect) (nothing_followed (geometry o.super) x.lsn m) in
      engine_followed o v log ds ps done x last last' m m h low followed h.backed (λ b k small since d less.
      let none : band_change b x.lsn (o.effect x.lsn x.is) ≡ [] = ap (band_change b x.lsn) effect in
      let was = h.lasts b k small since d (let e = same b k since in omega arith) in
      subst (λ (l : List OnWindow). AllUnder window_number d l) (sym (hist.split_band b (entries o done) (entry_of o x) ∙ ap (λ (l : List OnWindow). of_band b (entries o done) ++ l) none ∙ append_none (of_band b (entries o done)))) was)

-- a page of the engine is a page of slots or zeros
well_last : (rs : List OnPage) (p : List ℕ) → AllWell rs p → IsWell (repeated rs p)
well_last [] p well = well
well_last (r ∷ rs) p well = well_last rs (redone r p) well.1

pub page_well : (o : Origin) (v : View) (log : Tail) (ds ps : List Numbered) (last : ℕ → ℕ) (m : Units) (n : ℕ) → IsEngineOf o v log ds ps last m → n < o.super.pages → IsWell (m.page n)
page_well o v log ds ps last m n e lt = subst IsWell (sym (e.joined.page n lt)) (well_last (of_page n (entries o (ds ++ ps))) (o.first.page n) (e.history.well n lt))

-- A FORCE
pub force_again : (o : Origin) (v w : View) (log : Tail) (ds ps : List Numbered) (last : ℕ → ℕ) (m : Units) → IsEngineOf o v log ds ps last m → w.now Home ≡ v.now Home → Holds w (forced log) (ds ++ ps) [] → IsEngineOf o w (forced log) (ds ++ ps) [] last m
force_again o v w log ds ps last m e home holds =
    let f = is_forced log in
    let le = f.gate in
    let all = sym (append_none (ds ++ ps)) in
    record {
      super = ap (λ (p : Part). superblock p.seen) home ∙ e.super;
      place = record { area = f.area ∙ e.place.area; base = f.base ∙ e.place.base };
      held = holds;
      backed = subst (λ (p : Part). IsBacked (geometry o.super) p m) (sym home) e.backed;
      history = subst (λ (l : List Numbered). IsHistory (geometry o.super) o.first (entries o l)) all e.history;
      started = λ n lt. ⊎_elim (λ none. inl none) (λ low. inr (omega arith)) (e.started n lt);
      joined = subst (λ (l : List Numbered). IsJoined (geometry o.super) o.first (entries o l) (forced log).gate (w.now Home).seen m) all
          (subst (λ (p : Part). IsJoined (geometry o.super) o.first (entries o (ds ++ ps)) (forced log).gate p.seen m) (sym home) (joined_forced (geometry o.super) o.first (entries o (ds ++ ps)) log.gate (forced log).gate (v.now Home).seen m le e.joined));
      lasts = subst (λ (l : List Numbered). AreLast (geometry o.super) (entries o l) last m) all e.lasts;
      below = λ n k lt is. let low = e.below n k lt is in let t = f.tail in omega arith;
      behind = record { pages = λ n k lt is. let low = e.behind.pages n k lt is in let t = f.tail in omega arith; bands = λ b k lt is. let low = e.behind.bands b k lt is in let t = f.tail in omega arith };
    }

at_tail : (o : Origin) (w : View) (log' : Tail) (D W done : List Numbered) (a b : ℕ) (last : ℕ → ℕ) (m' : Units) → a ≡ b → IsHalf o w log' D W done [] a last m' → IsHalf o w log' D W done [] b last m'
at_tail o w log' D W done a b last m' is h = subst (λ (t : ℕ). IsHalf o w log' D W done [] t last m') is h

with_lasts : (o : Origin) (w : View) (log' : Tail) (D W : List Numbered) (last last' : ℕ → ℕ) (m' : Units) → IsEngineOf o w log' D W last m' → ((b k : ℕ) → b < o.super.bands → m'.band_since b ≡ Some k → last' b ≡ last b) → IsEngineOf o w log' D W last' m'
with_lasts o w log' D W last last' m' e same = record {
  super = e.super;
  place = e.place;
  held = e.held;
  backed = e.backed;
  history = e.history;
  started = e.started;
  joined = e.joined;
  lasts = λ b k lt is d low. e.lasts b k lt is d (let s = same b k lt is in omega arith);
  below = e.below;
  behind = e.behind;
}

-- A CALL OF THE POOL that changes no unit, where it forced the log or not
pub pool_again : (o : Origin) (v w : View) (log log' : Tail) (ds ps : List Numbered) (last last' : ℕ → ℕ) (m m' : Units) → IsEngineOf o v log ds ps last m → Cleans o v w log log' ds ps last m m' → ((b k : ℕ) → b < o.super.bands → m'.band_since b ≡ Some k → last' b ≡ last b)
    → ((log' ≡ log) × IsEngineOf o w log' ds ps last' m') ⊎ ((log' ≡ forced log) × IsEngineOf o w log' (ds ++ ps) [] last' m')
pool_again o v w log log' ds ps last last' m m' e c same = ⊎_elim
    (λ kept. let t = ap tail_of kept.0 in inl (kept.0, with_lasts o w log' ds ps last last' m' (half_engine (at_tail o w log' ds ps (ds ++ ps) (tail_of log) (tail_of log') last m' (sym t) kept.1)) same))
    (λ more. let f = is_forced log in let t = ap tail_of more.0 ∙ f.tail in inr (more.0, with_lasts o w log' (ds ++ ps) [] last last' m' (half_engine (at_tail o w log' (ds ++ ps) [] (ds ++ ps) (tail_of log) (tail_of log') last m' (sym t) more.1)) same))
    (half_after o v w log log' ds ps (ds ++ ps) [] (tail_of log) last m m' (engine_half e) c)

-- and where it is known to have forced it
pub pool_forced_again : (o : Origin) (v w : View) (log log' : Tail) (ds ps : List Numbered) (last last' : ℕ → ℕ) (m m' : Units) → IsEngineOf o v log ds ps last m → Cleans o v w log log' ds ps last m m' → (log' ≡ forced log) × Holds w (forced log) (ds ++ ps) []
    → ((b k : ℕ) → b < o.super.bands → m'.band_since b ≡ Some k → last' b ≡ last b) → IsEngineOf o w log' (ds ++ ps) [] last' m'
pool_forced_again o v w log log' ds ps last last' m m' e c more same =
    let f = is_forced log in
    let t = ap tail_of more.0 ∙ f.tail in
    with_lasts o w log' (ds ++ ps) [] last last' m' (half_engine (at_tail o w log' (ds ++ ps) [] (ds ++ ps) (tail_of log) (tail_of log') last m' (sym t) (half_forced o v w log log' ds ps (ds ++ ps) [] (tail_of log) last m m' (engine_half e) c more))) same
