-- A log is cut, and the superblock renewed: each image stands, and the engine runs on.
use Rattle.std.proofs.Common.{◌≡◌, ◌≢◌, ◌⊎◌, inl, inr, ⊎_elim, ◌<◌, ◌≤◌, ◌+◌, ◌*◌, ◌-◌, ◌==◌, ℕ, Bool, true, false, if◌then◌else◌, Option, Some, None, unwrap_or, List, [], ◌∷◌, ◌++◌, length, Ok, refl, sym, ◌∙◌, ap, subst, arith}
use Rattle.std.proofs.Math.Path.{fun_ext}
use Rattle.std.proofs.lemmas.Bool.Decides.{nat_tests}
use Rattle.sg_base.specs.declared.area.Area.{Area}
use Rattle.sg_base.specs.declared.area.Area.TheVariants.{Home, Log0, Log1}
use Rattle.sg_disk.specs.Disk.{Bytes, Image, Part, State, Spoils, LeavesPart, Leaves, View, LeavesOnly}
use Rattle.sg_disk.proofs.Parts.{settled_byte}
use Rattle.sg_log.specs.Frames.{Numbered, HasRecords, SameElsewhere, Frames, numbered_in, gate_after}
use Rattle.sg_log.specs.Held.{Tail, Holds, tail_of}
use Rattle.sg_log.specs.Cut.{other_log, IsSplit, gate_of, gone_of, kept_of, Spares, cut_to}
use Rattle.sg_log.proofs.Holding.{holds_seen, tail_empty}
use Rattle.sg_log.proofs.Steps.{closed, gate_shut}
use Rattle.sg_gate.specs.Layout.{PAGE, HEADER, PLACES, HOMES, home_at}
use Rattle.sg_gate.specs.Batch.{laid, IsBatch, numbers_of, IsReady, IsSettled}
use Rattle.sg_gate.specs.Superblock.{superblock, SLOT, IsElsewhere, spare, spare_of, start_of, counting, IsRenewing, IsRenewed}
use Rattle.sg_gate.specs.declared.slot.Slot.{Slot}
use Rattle.sg_gate.specs.declared.slot.Slot.TheVariants.{First, Second}
use Rattle.sg_gate.proofs.Over.{laid_shut}
use Rattle.sg_gate.proofs.Slots.{superblock_agree}
use Rattle.sg_gate.specs.declared.superblock.Super.{Super}
use Rattle.sg_pool.specs.Units.{Geometry, EachPage, EachByte, Units, IsBacked, page_at, band_byte}
use Rattle.sg_pool.specs.Shelves.{units, lasts}
use Rattle.sg_pool.specs.Pooled.{contents}
use Rattle.sg_pool.specs.declared.shelf.Shelf.{Shelf}
use Rattle.sg_pool.specs.declared.pool.Pool.{Pool}
use Rattle.sg_pool.proofs.Homes.{page_same}
use Rattle.sg_engine.specs.Numbers.{AllUnder}
use Rattle.sg_engine.specs.History.{Entry, Homes, entry_number, IsHistory}
use Rattle.sg_engine.specs.Kept.{home_in, IsKept, IsJoined, PageHome, ByteHome, AreLast, AreBehind, IsEarly, page_estimate, band_estimate}
use Rattle.sg_engine.specs.Engine.{Origin, entries, geometry, log_area, IsLogOf, IsStanding, IsEngineOf}
use Rattle.sg_engine.specs.Running.{IsEngine, IsAllowed}
use Rattle.sg_engine.specs.Cut.{Stand, super_at, next_stand, cut_at, IsMade, RestsAt, StandsAs, IsCutting}
use Rattle.sg_engine.proofs.Cut.{cut_made}
use Rattle.sg_engine.proofs.Joined.{going_kept}
use Rattle.sg_engine.proofs.Standing.{stands_kept, going_same, going_starts}
use Rattle.sg_engine.proofs.Steps.{append_none}
use Rattle.sg_engine.proofs.Logs.{home_apart}
use Rattle.sg_engine.proofs.May.{in_under}

-- AN IMAGE AT REST STANDS, with the superblock of its store and the records in the area that this names, from each point that is allowed
pub made_stands : (o : Origin) (p : Part) (gate : ℕ) (ds : List Numbered) (last : ℕ → ℕ) (m : Units) (r : ℕ) (c : Image) → IsMade o p gate ds last m → IsEarly (geometry o.super) gate r m
    → superblock (c Home) ≡ Ok o.super → HasRecords (c (log_area o.super)) o.super.base gate ds → RestsAt p c → IsStanding o ds ds r c
made_stands o p gate ds last m r c h early super held rest =
    let shut : c Home HEADER ≡ 1 → ⊥ = λ is_open. h.backed.ready.closed (sym (rest HEADER (omega arith) (inl (omega arith))) ∙ is_open) in
    let home : IsKept (geometry o.super) o.first (entries o ds) gate (page_estimate gate m) (band_estimate gate m) (home_in (geometry o.super) (laid (c Home))) =
    going_kept (geometry o.super) o.first (entries o ds) gate gate last p m (laid (c Home)) h.history h.lasts h.backed h.joined
    (going_same (geometry o.super) gate last p.seen m p.seen (laid (c Home)) (λ i high. laid_shut (c Home) i shut ∙ rest i (omega (arith, high)) (inr high)) (going_starts (geometry o.super) gate last p.seen m)) in
    stands_kept o ds ds ds [] [] r gate gate (page_estimate gate m) (band_estimate gate m) c h.history h.started super held (sym (append_none ds)) (sym (append_none ds)) tt (omega arith) (λ is_open. absurd (shut is_open)) home early.pages early.bands

-- THE ENGINE BETWEEN CALLS, with an empty buffer, and what it made
pub made_of : (o : Origin) (v : View) (log : Tail) (ds : List Numbered) (last : ℕ → ℕ) (m : Units) → tail_of log ≡ log.gate → IsEngineOf o v log ds [] last m → IsMade o (v.now Home) log.gate ds last m
made_of o v log ds last m tail e = record {
  backed = e.backed;
  history = subst (λ (l : List Numbered). IsHistory (geometry o.super) o.first (entries o l)) (append_none ds) e.history;
  started = e.started;
  joined = subst (λ (l : List Numbered). IsJoined (geometry o.super) o.first (entries o l) log.gate (v.now Home).seen m) (append_none ds) e.joined;
  lasts = subst (λ (l : List Numbered). AreLast (geometry o.super) (entries o l) last m) (append_none ds) e.lasts;
  below = subst (λ (t : ℕ). Rattle.sg_pool.specs.Units.IsBelow (geometry o.super) t m) tail e.below;
  behind = subst (λ (t : ℕ). AreBehind (geometry o.super) t m) tail e.behind;
}

pub engine_of : (o : Origin) (v : View) (log : Tail) (ds : List Numbered) (last : ℕ → ℕ) (m : Units) → tail_of log ≡ log.gate → superblock (v.now Home).seen ≡ Ok o.super → IsLogOf o.super log → Holds v log ds [] → IsMade o (v.now Home) log.gate ds last m
    → IsEngineOf o v log ds [] last m
engine_of o v log ds last m tail super place held h = record {
  super = super;
  place = place;
  held = held;
  backed = h.backed;
  history = subst (λ (l : List Numbered). IsHistory (geometry o.super) o.first (entries o l)) (sym (append_none ds)) h.history;
  started = h.started;
  joined = subst (λ (l : List Numbered). IsJoined (geometry o.super) o.first (entries o l) log.gate (v.now Home).seen m) (sym (append_none ds)) h.joined;
  lasts = subst (λ (l : List Numbered). AreLast (geometry o.super) (entries o l) last m) (sym (append_none ds)) h.lasts;
  below = subst (λ (t : ℕ). Rattle.sg_pool.specs.Units.IsBelow (geometry o.super) t m) (sym tail) h.below;
  behind = subst (λ (t : ℕ). AreBehind (geometry o.super) t m) (sym tail) h.behind;
}

-- where the slots of the superblock alone have changed it made the same
pub made_moved : (o : Origin) (p q : Part) (gate : ℕ) (ds : List Numbered) (last : ℕ → ℕ) (m : Units) → ((i : ℕ) → HEADER ≤ i → q.seen i ≡ p.seen i) → ((i : ℕ) → (i < PLACES) ⊎ (HOMES ≤ i) → Spoils q.pending i → ⊥) → IsMade o p gate ds last m → IsMade o q gate ds last m
made_moved o p q gate ds last m same settled h = record {
  backed = record {
    ready = record { closed = λ is_open. h.backed.ready.closed (sym (same HEADER (omega arith)) ∙ is_open); settled = settled };
    pages = λ n lt none. page n ∙ h.backed.pages n lt none;
    bytes = λ b i is_band is_byte clean. byte b i ∙ h.backed.bytes b i is_band is_byte clean;
    clean = h.backed.clean;
  };
  history = h.history;
  started = h.started;
  joined = record {
    page = h.joined.page;
    byte = h.joined.byte;
    page_home = λ n lt. subst (λ (x : List ℕ). PageHome (entries o ds) gate n (m.page_since n) (o.first.page n) x) (sym (page n)) (h.joined.page_home n lt);
    byte_home = λ b i is_band is_byte. subst (λ (x : ℕ). ByteHome (entries o ds) gate b i (m.band_since b) (m.marked b i) (o.first.byte b i) x) (sym (byte b i)) (h.joined.byte_home b i is_band is_byte);
  };
  lasts = h.lasts;
  below = h.below;
  behind = h.behind;
}
  where
    page : (n : ℕ) → page_at q.seen (home_at n) ≡ page_at p.seen (home_at n)
    page n = page_same q.seen p.seen (home_at n) (home_at n) (λ k small. same (home_at n + k) (omega arith))

    byte : (b i : ℕ) → q.seen (band_byte (geometry o.super) b i) ≡ p.seen (band_byte (geometry o.super) b i)
    byte b i = same (band_byte (geometry o.super) b i) (omega arith)

-- and the units are what they were
pub units_same : (s : Shelf) (f g : Bytes) → ((i : ℕ) → HEADER ≤ i → g i ≡ f i) → units g s ≡ units f s
units_same s f g same = ap (λ (p : ℕ → List ℕ). record (units g s) { page = p }) pages ∙ ap (λ (b : ℕ → ℕ → ℕ). record (units f s) { byte = b }) bytes
  where
    pages : (units g s).page ≡ (units f s).page
    pages = fun_ext (λ n. ap (λ (x : List ℕ). Rattle.sg_pool.specs.Held.page_of s.slots.items s.frames.pages n x) (page_same g f (home_at n) (home_at n) (λ k small. same (home_at n + k) (omega arith))))

    bytes : (units g s).byte ≡ (units f s).byte
    bytes = fun_ext (λ b. fun_ext (λ i. ap (λ (x : ℕ). Rattle.sg_pool.specs.Frames.byte_in s.frames.windows (Rattle.sg_pool.specs.Frames.window_of s.wins b) i x) (same (band_byte (Rattle.sg_pool.specs.Shelves.geometry_of s) b i) (omega arith))))

-- records in an area whose bytes are the same
has_settled : (f c : Bytes) (base gate : ℕ) (ds : List Numbered) → HasRecords f base gate ds → ((i : ℕ) → c i ≡ f i) → HasRecords c base gate ds
has_settled f c base gate ds h same = record {
  frames = h.frames;
  stand = closed f c 0 h.frames (λ i lt. same i) (λ is. gate_shut f 0 h.frames h.stand (sym (same (gate_after 0 h.frames)) ∙ is)) h.stand;
  all = h.all;
  at_gate = h.at_gate;
  within = h.within;
}

home_other : (a : Area) → Home ≡ other_log a → ⊥
home_other Home e = cc
home_other Log0 e = cc
home_other Log1 e = cc

log_other : (a : Area) → a ≡ other_log a → ⊥
log_other Home e = cc
log_other Log0 e = cc
log_other Log1 e = cc

-- where the log stands then, by the next superblock
by_log : (b : Bool) → (if (if b then 1 else 0) == 0 then Log0 else Log1) ≡ other_log (if b then Log0 else Log1)
by_log true = refl
by_log false = refl

next_area : (o : Origin) (log : Tail) (base : ℕ) → log.area ≡ log_area o.super → log_area (super_at o.super (next_stand o.super base)) ≡ other_log log.area
next_area o log base place = by_log (o.super.log == 0) ∙ ap other_log (sym place)

early_less : (g : Geometry) (tail k j : ℕ) (m : Units) → k ≤ j → IsEarly g tail j m → IsEarly g tail k m
early_less g tail k j m le early = record { pages = λ n lt. (let e = early.pages n lt in omega (arith, e, le)); bands = λ b lt. (let e = early.bands b lt in omega (arith, e, le)) }

-- the spare slot lies before the header
spare_low : (f : Bytes) → spare_of f + SLOT ≤ HEADER
spare_low f = by_slot (spare (counting f))
  where
    by_slot : (s : Slot) → start_of s + SLOT ≤ HEADER
    by_slot First = omega arith
    by_slot Second = omega arith

module _ (o : Origin) (v : View) (log : Tail) (ds : List Numbered) (pool : Pool) (e : IsEngine o v log ds [] pool) (none : length log.buffer ≡ 0) where
  tail : tail_of log ≡ log.gate
  tail = tail_empty log none

  early : (k : ℕ) → IsAllowed o v log pool k → IsEarly (geometry o.super) log.gate k (contents v pool)
  early k a = subst (λ (t : ℕ). IsEarly (geometry o.super) t k (contents v pool)) tail a

  did : IsMade o (v.now Home) log.gate ds (lasts pool.shelf) (contents v pool)
  did = made_of o v log ds (lasts pool.shelf) (contents v pool) tail e.engine

  -- an image with the superblock and the log from before
  pub old_image : (c : Image) → RestsAt (v.now Home) c → superblock (c Home) ≡ superblock (v.now Home).seen → LeavesPart (v.now log.area) (c log.area) → StandsAs o v log pool ds c
  old_image c rest block part = λ k a.
      made_stands o (v.now Home) log.gate ds (lasts pool.shelf) (contents v pool) k c did (early k a) (block ∙ e.engine.super)
      (subst (λ (b : ℕ). HasRecords (c (log_area o.super)) b log.gate ds) e.engine.place.base
      (subst (λ (x : Area). HasRecords (c x) log.base log.gate ds) e.engine.place.area
      (has_settled (v.now log.area).seen (c log.area) log.base log.gate ds (holds_seen e.engine.held) (settled_byte (v.now log.area) (c log.area) e.engine.held.settled part)))) rest

  module _ (point : ℕ) (allowed : IsAllowed o v log pool point) (within : point < log.gate) (s : IsSplit log.base point ds) where
    abbrev then : Stand
    then = next_stand o.super (gate_of s)

    low : AllUnder entry_number (gate_of s) (entries o (gone_of s))
    low = in_under o log.base s.front

    cut_did : IsMade (cut_at o (next_stand o.super (gate_of s)) (gone_of s)) (v.now Home) log.gate (kept_of s) (lasts pool.shelf) (contents v pool)
    cut_did = cut_made o (gone_of s) (kept_of s) (gate_of s) low (next_stand o.super (gate_of s)) (v.now Home) log.gate (lasts pool.shelf) (contents v pool) (let w = s.within in omega (arith, w, within))
        (early_less (geometry o.super) log.gate (gate_of s) point (contents v pool) s.within (early point allowed))
        (subst (λ (l : List Numbered). IsMade o (v.now Home) log.gate l (lasts pool.shelf) (contents v pool)) s.all did)

    -- one with the new ones
    pub new_image : (w : View) → Holds w (cut_to (gate_of s) log) (kept_of s) [] → (c : Image) → RestsAt (v.now Home) c → superblock (c Home) ≡ Ok (super_at o.super (next_stand o.super (gate_of s))) → LeavesPart (w.now (other_log log.area)) (c (other_log log.area))
        → (k : ℕ) → IsAllowed o v log pool k → IsStanding (cut_at o (next_stand o.super (gate_of s)) (gone_of s)) (kept_of s) (kept_of s) k c
    new_image w held c rest block part k a =
        made_stands (cut_at o (next_stand o.super (gate_of s)) (gone_of s)) (v.now Home) log.gate (kept_of s) (lasts pool.shelf) (contents v pool) k c cut_did (early k a) block
        (subst (λ (x : Area). HasRecords (c x) (gate_of s) log.gate (kept_of s)) (sym (next_area o log (gate_of s) e.engine.place.area))
        (has_settled (w.now (other_log log.area)).seen (c (other_log log.area)) (gate_of s) log.gate (kept_of s) (holds_seen held) (settled_byte (w.now (other_log log.area)) (c (other_log log.area)) held.settled part))) rest

  ready_rest : (c : Image) → LeavesPart (v.now Home) (c Home) → RestsAt (v.now Home) c
  ready_rest c part i high out = part.rest i (e.engine.backed.ready.settled i out)

  ready_block : (c : Image) → LeavesPart (v.now Home) (c Home) → superblock (c Home) ≡ superblock (v.now Home).seen
  ready_block c part = superblock_agree (v.now Home).seen (c Home) (λ i lt. part.rest i (e.engine.backed.ready.settled i (inl (omega arith))))

  -- WHILE THE FRAMES ARE COPIED
  pub copying : (point : ℕ) (c : Image) → Spares (other_log log.area) v.now c → IsCutting o v log pool point ds c
  copying point c spares = inl (old_image c (ready_rest c (spares Home (home_other log.area))) (ready_block c (spares Home (home_other log.area))) (spares log.area (log_other log.area)))

  module _ (w : View) (same : SameElsewhere (other_log log.area) v.now w.now) where
    pub home_same : w.now Home ≡ v.now Home
    home_same = same Home (home_other log.area)

    -- where no frame goes the engine is as it was
    pub whole_engine : IsEngine o w log ds [] pool
    whole_engine = record {
      sizes = e.sizes;
      engine = engine_of o w log ds (lasts pool.shelf) (contents w pool) tail (ap (λ (p : Part). superblock p.seen) home_same ∙ e.engine.super) e.engine.place (holds_area w ds [] (same log.area (log_other log.area)) e.engine.held)
          (subst (λ (p : Part). IsMade o p log.gate ds (lasts pool.shelf) (units p.seen pool.shelf)) (sym home_same) did);
      logged = e.logged;
    }
      where
        holds_area : (w : View) (ds ps : List Numbered) → w.now log.area ≡ v.now log.area → Holds v log ds ps → Holds w log ds ps
        holds_area w ds ps at h = record {
          frames = h.frames;
          stand = subst (λ (p : Part). Frames p.seen 0 h.frames) (sym at) h.stand;
          all = h.all;
          settled = ap (λ (p : Part). p.pending) at ∙ h.settled;
          at_gate = h.at_gate;
          body = h.body;
          waiting = h.waiting;
          fields = h.fields;
          numbers = h.numbers;
          within = h.within;
        }

    pub whole_allowed : (k : ℕ) → IsAllowed o v log pool k → IsAllowed o w log pool k
    whole_allowed k a = subst (λ (p : Part). IsEarly (geometry o.super) (tail_of log) k (units p.seen pool.shelf)) (sym home_same) a

    module _ (point : ℕ) (allowed : IsAllowed o v log pool point) (within : point < log.gate) (s : IsSplit log.base point ds) (held : Holds w (cut_to (gate_of s) log) (kept_of s) []) where
      abbrev new : Super
      new = super_at o.super (next_stand o.super (gate_of s))

      -- WHILE THE SUPERBLOCK IS RENEWED
      pub renewing : (c : Image) → IsRenewing w.now (super_at o.super (next_stand o.super (gate_of s))) (spare_of (w.now Home).seen) c → IsCutting o v log pool point ds c
      renewing c r = ⊎_elim
          (λ was. inl (old_image c rest (was ∙ ap (λ (p : Part). superblock p.seen) home_same) (subst (λ (p : Part). LeavesPart p (c log.area)) (same log.area (log_other log.area)) (r.others log.area away))))
          (λ now. inr (s, next_stand o.super (gate_of s), refl, new_image point allowed within s w held c rest now (r.others (other_log log.area) (λ is. home_other log.area (sym is)))))
          r.super
        where
          away : log.area ≢ Home
          away is = home_apart o (sym is ∙ e.engine.place.area)

          rest : RestsAt (v.now Home) c
          rest i high out = r.rest i (inr (let lo = spare_low (w.now Home).seen in omega (arith, lo, high))) (λ spoilt. e.engine.backed.ready.settled i out (subst (λ (p : Part). Spoils p.pending i) home_same spoilt))
              ∙ ap (λ (p : Part). p.seen i) home_same

      module _ (x : View) (done : IsRenewed w.now x.now (super_at o.super (next_stand o.super (gate_of s))) (spare_of (w.now Home).seen)) where
        behind_same : (i : ℕ) → HEADER ≤ i → (x.now Home).seen i ≡ (v.now Home).seen i
        behind_same i high = done.rest i (inr (let lo = spare_low (w.now Home).seen in omega (arith, lo, high))) ∙ ap (λ (p : Part). p.seen i) home_same

        -- WHILE THE OLD AREA IS DROPPED
        pub dropping : (c : Image) → Spares log.area x.now c → IsCutting o v log pool point ds c
        dropping c spares =
            let home = spares Home (λ is. home_apart o (is ∙ e.engine.place.area)) in
            inr (
              s,
              next_stand o.super (gate_of s),
              refl,
              new_image point allowed within s w held c
                  (λ i high out. home.rest i (done.settled i) ∙ behind_same i high)
                  (superblock_agree (x.now Home).seen (c Home) (λ i lt. home.rest i (done.settled i)) ∙ done.super)
                  (subst (λ (p : Part). LeavesPart p (c (other_log log.area))) (done.others (other_log log.area) (λ is. home_other log.area (sym is))) (spares (other_log log.area) (λ is. log_other log.area (sym is)))),
            )

        -- AND THE ENGINE RUNS ON without the records that are gone
        module _ (y : View) (kept : SameElsewhere log.area x.now y.now) where
          home_now : y.now Home ≡ x.now Home
          home_now = kept Home (λ is. home_apart o (is ∙ e.engine.place.area))

          other_now : y.now (other_log log.area) ≡ w.now (other_log log.area)
          other_now = kept (other_log log.area) (λ is. log_other log.area (sym is)) ∙ done.others (other_log log.area) (λ is. home_other log.area (sym is))

          seen_now : (i : ℕ) → HEADER ≤ i → (y.now Home).seen i ≡ (v.now Home).seen i
          seen_now i high = ap (λ (p : Part). p.seen i) home_now ∙ behind_same i high

          settled_now : (i : ℕ) → (i < PLACES) ⊎ (HOMES ≤ i) → Spoils (y.now Home).pending i → ⊥
          settled_now i out spoilt = done.settled i (subst (λ (p : Part). Spoils p.pending i) home_now spoilt)

          pub units_now : contents y pool ≡ contents v pool
          units_now = units_same pool.shelf (v.now Home).seen (y.now Home).seen seen_now

          pub cut_engine : IsEngine (cut_at o (next_stand o.super (gate_of s)) (gone_of s)) y (cut_to (gate_of s) log) (kept_of s) [] pool
          cut_engine = record {
            sizes = e.sizes;
            engine = engine_of (cut_at o (next_stand o.super (gate_of s)) (gone_of s)) y (cut_to (gate_of s) log) (kept_of s) (lasts pool.shelf) (contents y pool) tail
                (ap (λ (p : Part). superblock p.seen) home_now ∙ done.super)
                (record { area = sym (next_area o log (gate_of s) e.engine.place.area); base = refl })
                (held_now)
                (subst (λ (m : Units). IsMade (cut_at o (next_stand o.super (gate_of s)) (gone_of s)) (y.now Home) log.gate (kept_of s) (lasts pool.shelf) m) (sym units_now)
                (made_moved (cut_at o (next_stand o.super (gate_of s)) (gone_of s)) (v.now Home) (y.now Home) log.gate (kept_of s) (lasts pool.shelf) (contents v pool) seen_now settled_now (cut_did point allowed within s)));
            logged = e.logged;
          }
            where
              held_now : Holds y (cut_to (gate_of s) log) (kept_of s) []
              held_now = record {
                frames = held.frames;
                stand = subst (λ (p : Part). Frames p.seen 0 held.frames) (sym other_now) held.stand;
                all = held.all;
                settled = ap (λ (p : Part). p.pending) other_now ∙ held.settled;
                at_gate = held.at_gate;
                body = held.body;
                waiting = held.waiting;
                fields = held.fields;
                numbers = held.numbers;
                within = held.within;
              }

          pub cut_allowed : (k : ℕ) → IsAllowed o v log pool k → IsAllowed o y (cut_to (gate_of s) log) pool k
          cut_allowed k a = subst (λ (m : Units). IsEarly (geometry o.super) (tail_of log) k m) (sym units_now) a
