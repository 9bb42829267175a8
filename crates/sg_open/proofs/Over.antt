-- An open batch is laid over: each image stands, and then nothing is repeated yet. Once all is, the engine runs.
use Rattle.std.proofs.Common.{◌≡◌, inl, inr, ◌<◌, ◌≤◌, ◌+◌, ℕ, Option, Some, None, Ok, List, [], refl, sym, ◌∙◌, ap, subst, arith}
use Rattle.sg_base.specs.declared.area.Area.TheVariants.{Home}
use Rattle.sg_disk.specs.Disk.{Bytes, Image, Part, LeavesPart, View, LeavesOnly, Range, Spoils}
use Rattle.sg_gate.specs.Layout.{HOMES}
use Rattle.sg_gate.specs.Batch.{laid, IsReady, IsLaid, IsWhole, IsSettled}
use Rattle.sg_gate.specs.Superblock.{superblock}
use Rattle.sg_gate.proofs.Slots.{superblock_agree}
use Rattle.sg_ops.specs.Table.{Table}
use Rattle.sg_record.specs.Records.{Record}
use Rattle.sg_log.specs.Frames.{Numbered, Frames, HasRecords, gate_after, numbered_in}
use Rattle.sg_log.specs.Held.{Tail, Holds, tail_of}
use Rattle.sg_log.proofs.Steps.{closed, gate_shut}
use Rattle.sg_pool.specs.declared.pool.Pool.{Pool}
use Rattle.sg_pool.specs.Units.{Geometry, IsBacked, IsBelow}
use Rattle.sg_pool.specs.Pooled.{sizes, contents, Backs}
use Rattle.sg_pool.specs.Shelves.{lasts}
use Rattle.sg_pool.proofs.RedoMoments.{tail_is_gate}
use Rattle.sg_engine.specs.Engine.{Origin, entries, geometry, log_area, IsStanding}
use Rattle.sg_engine.specs.Running.{IsEngine, IsAllowed}
use Rattle.sg_engine.proofs.Logs.{home_apart, none_more}
use Rattle.sg_find.specs.Synced.{reads}
use Rattle.sg_opening.specs.Opening.{IsFresh}
use Rattle.sg_opening.specs.Parts.{AreRepeated}
use Rattle.sg_opening.proofs.Opened as opened
use Rattle.sg_opening.proofs.Opened.{laid_low}
use Rattle.sg_opening.proofs.Parts as parts
use Rattle.sg_opening.proofs.Parts.{none_repeated}
use Rattle.sg_open.specs.Repeatable.{MayRepeat, IsRepeatable, IsRepeating}

-- the same bytes hold the same frames
pub same_frames : (f g : Bytes) (at : ℕ) (frames : List (List Record)) → ((i : ℕ) → g i ≡ f i) → Frames f at frames → Frames g at frames
same_frames f g at frames same stand = closed f g at frames (λ i lt. same i) (λ is. gate_shut f at frames stand (sym (same (gate_after at frames)) ∙ is)) stand

nothing : (l : ℕ) → None ≡ Some l → ⊥
nothing l e = cc

-- a log with nothing pending is what a crash leaves of it
pub settled_records : (p : Part) (c : Bytes) (base gate : ℕ) (ds : List Numbered) → p.pending ≡ [] → LeavesPart p c → HasRecords p.seen base gate ds → HasRecords c base gate ds
settled_records p c base gate ds none leaves has = record {
  frames = has.frames;
  stand = same_frames p.seen c 0 has.frames (λ i. leaves.rest i (λ spoils. subst (λ (l : List Range). Spoils l i) none spoils)) has.stand;
  all = has.all;
  at_gate = has.at_gate;
  within = has.within;
}

pub held_same : (v w : View) (log : Tail) (ds : List Numbered) → w.now log.area ≡ v.now log.area → Holds v log ds [] → Holds w log ds []
held_same v w log ds same h = record {
  frames = h.frames;
  stand = subst (λ (p : Part). Frames p.seen 0 h.frames) (sym same) h.stand;
  all = h.all;
  settled = ap (λ (p : Part). p.pending) same ∙ h.settled;
  at_gate = h.at_gate;
  body = h.body;
  waiting = h.waiting;
  fields = h.fields;
  numbers = h.numbers;
  within = h.within;
}

module _ (t : Table) (o : Origin) (r : ℕ) (ds : List Numbered) (v : View) (log : Tail) (pool : Pool) (is : IsRepeatable t o r ds v log pool) where
  abbrev g : Geometry
  g = geometry o.super

  pub apart : log.area ≡ Home → ⊥
  apart at = home_apart o (sym at ∙ is.place.area)

  -- while an open batch is laid over
  pub laid_stands : (c : Image) → IsWhole v.now o.super.pages (laid (v.now Home).seen) c → IsStanding o ds ds r c
  laid_stands c whole = opened.whole_stands o r log.gate ds (reads v) is.openable v.now refl
      (λ x leaves. settled_records (v.now (log_area o.super)) x o.super.base log.gate ds (is.settled (log_area o.super)) leaves is.openable.held)
      (home_apart o) c whole

  pub all_settled : IsSettled (v.now Home)
  all_settled i spoils = subst (λ (l : List Range). Spoils l i) (is.settled Home) spoils

  -- BEHIND IT: w0 is the disk then
  module _ (w0 : View) (over : IsLaid v.now w0.now) where
    pub held : Holds w0 log ds []
    held = held_same v w0 log ds (over.logs log.area apart) is.held

    pub ready : IsReady (w0.now Home)
    ready = record { closed = over.closed; settled = λ i out spoils. all_settled i (over.settled i spoils) }

    super_is : superblock (w0.now Home).seen ≡ Ok o.super
    super_is = superblock_agree (v.now Home).seen (w0.now Home).seen (λ i low. over.bytes i (inl low) ∙ laid_low (v.now Home).seen i (omega arith)) ∙ is.openable.super

    pub backs : Backs (sizes pool) w0 pool
    backs = is.new.backed w0 ready

    backs_here : IsBacked g (w0.now Home) (contents w0 pool)
    backs_here = subst (λ (x : Geometry). IsBacked x (w0.now Home) (contents w0 pool)) is.new.size backs

    high : (i : ℕ) → HOMES ≤ i → (w0.now Home).seen i ≡ laid (v.now Home).seen i
    high i far = over.bytes i (inr (omega arith))

    no_page : (n : ℕ) → n < g.pages → (x : Option ℕ) → (contents w0 pool).page_since n ≡ x → (contents w0 pool).page_since n ≡ None
    no_page n lt None e = e
    no_page n lt (Some l) e = absurd (is.new.written l (inl (n, subst (λ (x : Geometry). n < x.pages) (sym is.new.size) lt, e)))

    page_none : (n : ℕ) → n < g.pages → (contents w0 pool).page_since n ≡ None
    page_none n lt = no_page n lt ((contents w0 pool).page_since n) refl

    pub fresh : IsFresh g o.first (w0.now Home).seen (contents w0 pool)
    fresh =
        let homes = opened.seen_pages o r log.gate ds (reads v) is.openable (w0.now Home).seen high in
        let bytes = opened.seen_bytes o r log.gate ds (reads v) is.openable (w0.now Home).seen high in
        record {
          page = λ n lt. sym (backs_here.pages n lt (page_none n lt)) ∙ homes n lt;
          byte = λ b i is_band is_byte. sym (backs_here.bytes b i is_band is_byte (backs_here.clean b i (is.new.bands w0 b))) ∙ bytes b i is_band is_byte;
          page_home = homes;
          byte_home = bytes;
          page_since = page_none;
          band_since = λ b lt. is.new.bands w0 b;
          marked = λ b i is_band is_byte. backs_here.clean b i (is.new.bands w0 b);
        }

    -- NOTHING IS REPEATED YET
    pub begins : LeavesOnly v w0 (IsStanding o ds ds r) → IsRepeating o r ds [] held.frames w0 log pool
    begins run =
        let base : log.base ≡ o.super.base = is.place.base in
        record {
          rests = λ c leaves. run.each c (inl leaves);
          super = super_is;
          place = is.place;
          all = ap (λ (n : ℕ). numbered_in n held.frames) (sym base) ∙ held.all;
          stand = held.stand;
          at_gate = held.at_gate ∙ ap (λ (n : ℕ). n + gate_after 0 held.frames) base;
          held = held;
          size = is.new.size;
          backed = backs;
          logged = record {
            pages = λ n l lt e. absurd (is.new.written l (inl (n, lt, e)));
            bands = λ b l e. absurd (nothing l (sym (is.new.bands w0 b) ∙ e));
          };
          units = none_repeated o r log.gate ds (reads v) is.openable (o.super.base + 0) (w0.now Home).seen (lasts pool.shelf) (contents w0 pool) fresh;
        }

    pub may_repeat : MayRepeat t o r log.gate ds
    may_repeat = record { read = reads v; openable = is.openable; effect = is.effect; undone = is.undone; known = is.known }

    -- ALL IS REPEATED
    module _ (w : View) (log' : Tail) (new : Pool) (same : log' ≡ log) (frames : List (List Record)) (now : IsRepeating o r ds frames [] w log' new) where
      last_part : IsRepeating o r ds frames [] w log new
      last_part = subst (λ (x : Tail). IsRepeating o r ds frames [] w x new) same now

      all_is : numbered_in o.super.base frames ≡ ds
      all_is = ap (numbered_in o.super.base) (none_more frames) ∙ last_part.all

      to : ℕ
      to = o.super.base + gate_after 0 frames

      reached : o.super.base + gate_after 0 frames ≤ log.gate
      reached =
          let whole : log.gate ≡ o.super.base + gate_after 0 frames = last_part.at_gate ∙ ap (λ (l : List (List Record)). o.super.base + gate_after 0 l) (sym (none_more frames)) in
          omega (arith, whole)

      backed_here : IsBacked g (w.now Home) (contents w new)
      backed_here = subst (λ (x : Geometry). IsBacked x (w.now Home) (contents w new)) last_part.size last_part.backed

      units_all : AreRepeated g o.first (entries o ds) (entries o ds) r (o.super.base + gate_after 0 frames) log.gate (w.now Home).seen (lasts new.shelf) (contents w new)
      units_all = subst (λ (l : List Numbered). AreRepeated g o.first (entries o ds) (entries o l) r (o.super.base + gate_after 0 frames) log.gate (w.now Home).seen (lasts new.shelf) (contents w new)) all_is last_part.units

      low : IsBelow g (tail_of log) (contents w new)
      low = subst (λ (x : Geometry). IsBelow x (tail_of log) (contents w new)) last_part.size last_part.logged.pages

      -- the redo point is allowed from then on
      pub early : r ≤ log.gate → IsAllowed o w log' new r
      early le = subst (λ (x : Tail). IsAllowed o w x new r) (sym same) (parts.early o r log.gate ds (reads v) is.openable (o.super.base + gate_after 0 frames) reached w (lasts new.shelf) (contents w new) backed_here units_all
          log is.place refl (tail_is_gate w log ds last_part.held) last_part.super last_part.held low le)

      pub runs : IsEngine o w log' ds [] new
      runs = subst (λ (x : Tail). IsEngine o w x ds [] new) (sym same) (record {
        sizes = last_part.size;
        engine = parts.runs o r log.gate ds (reads v) is.openable (o.super.base + gate_after 0 frames) reached w (lasts new.shelf) (contents w new) backed_here units_all
            log is.place refl (tail_is_gate w log ds last_part.held) last_part.super last_part.held low;
        logged = last_part.logged.bands;
      })
