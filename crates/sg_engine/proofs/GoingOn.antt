-- The engine's invariant from call to call.
use Rattle.std.proofs.Common.{◌≡◌, ◌⊎◌, inl, inr, ⊎_elim, ◌<◌, ◌≤◌, ℕ, Option, Some, None, List, [], ◌++◌, Ok, refl, sym, ◌∙◌, ap, subst, arith}
use Rattle.sg_base.specs.Page.{lsn_of}
use Rattle.sg_base.specs.declared.area.Area.{Area}
use Rattle.sg_base.specs.declared.area.Area.TheVariants.{Home}
use Rattle.sg_disk.specs.Disk.{Image, View, LeavesOnly}
use Rattle.sg_disk.proofs.Moments.{seen_image}
use Rattle.sg_log.specs.Frames.{Numbered, HasRecords}
use Rattle.sg_log.specs.Held.{Tail, Holds, tail_of, forced}
use Rattle.sg_log.proofs.Holding.{holds_seen}
use Rattle.sg_log.proofs.Unique.{HasRecords-gate}
use Rattle.sg_gate.specs.Batch.{laid, IsReady}
use Rattle.sg_gate.specs.Superblock.{superblock}
use Rattle.sg_gate.proofs.Over.{laid_shut}
use Rattle.sg_gate.proofs.Slots.{superblock_agree}
use Rattle.sg_pool.specs.Units.{EachPage, Units, IsBacked, IsGoing, IsCleaned, IsBelow}
use Rattle.sg_pool.specs.Moments.{IsSameOrForced, IsMoment}
use Rattle.sg_engine.specs.History.{IsHistory, IsNumbered}
use Rattle.sg_engine.specs.Kept.{IsJoined, AreLast, AreBehind}
use Rattle.sg_engine.specs.Engine.{Origin, entries, geometry, IsLogOf, IsEngineOf, HasSlots}
use Rattle.sg_engine.proofs.Logs.{is_forced, home_apart}
use Rattle.sg_engine.proofs.Joined.{joined_forced, joined_gone}
use Rattle.sg_engine.proofs.Standing.{going_same, going_starts, ready_same}
use Rattle.sg_engine.proofs.Steps.{append_none}

-- BETWEEN CALLS, OR WITHIN ONE whose record is appended: the log holds the records that made the units, and then the rest. Each oldest change
-- is below the limit
pub record IsHalf (o : Origin) (v : View) (log : Tail) (ds ps done rest : List Numbered) (limit : ℕ) (last : ℕ → ℕ) (m : Units) : Type 0 where
  pub super : superblock (v.now Home).seen ≡ Ok o.super
  pub place : IsLogOf o.super log
  pub held : Holds v log ds ps
  pub backed : IsBacked (geometry o.super) (v.now Home) m
  pub all : ds ++ ps ≡ done ++ rest
  pub history : IsHistory (geometry o.super) o.first (entries o (done ++ rest))
  pub done_history : IsHistory (geometry o.super) o.first (entries o done)
  pub started : EachPage (geometry o.super) (λ n. IsNumbered log.gate (o.first.page n))
  pub joined : IsJoined (geometry o.super) o.first (entries o done) log.gate (v.now Home).seen m
  pub lasts : AreLast (geometry o.super) (entries o done) last m
  pub below : IsBelow (geometry o.super) (tail_of log) m
  pub behind : AreBehind (geometry o.super) limit m

pub engine_half : {o : Origin} {v : View} {log : Tail} {ds ps : List Numbered} {last : ℕ → ℕ} {m : Units} → IsEngineOf o v log ds ps last m → IsHalf o v log ds ps (ds ++ ps) [] (tail_of log) last m
engine_half {o = o} {ds = ds} {ps = ps} e = record {
  super = e.super;
  place = e.place;
  held = e.held;
  backed = e.backed;
  all = sym (append_none (ds ++ ps));
  history = subst (λ (l : List Numbered). IsHistory (geometry o.super) o.first (entries o l)) (sym (append_none (ds ++ ps))) e.history;
  done_history = e.history;
  started = e.started;
  joined = e.joined;
  lasts = e.lasts;
  below = e.below;
  behind = e.behind;
}

pub half_engine : {o : Origin} {v : View} {log : Tail} {ds ps done : List Numbered} {last : ℕ → ℕ} {m : Units} → IsHalf o v log ds ps done [] (tail_of log) last m → IsEngineOf o v log ds ps last m
half_engine {o = o} {v = v} {log = log} {done = done} {last = last} {m = m} h =
    let same = sym (h.all ∙ append_none done) in
    record {
      super = h.super;
      place = h.place;
      held = h.held;
      backed = h.backed;
      history = subst (λ (l : List Numbered). IsHistory (geometry o.super) o.first (entries o l)) same h.done_history;
      started = h.started;
      joined = subst (λ (l : List Numbered). IsJoined (geometry o.super) o.first (entries o l) log.gate (v.now Home).seen m) same h.joined;
      lasts = subst (λ (l : List Numbered). AreLast (geometry o.super) (entries o l) last m) same h.lasts;
      below = h.below;
      behind = h.behind;
    }

-- WHAT A CALL OF THE POOL SAYS at its end, of the units m that it had and those that it has once some went home
pub record Cleans (o : Origin) (v w : View) (log log' : Tail) (ds ps : List Numbered) (last : ℕ → ℕ) (m m' : Units) : Type 0 where
  pub logs : IsSameOrForced w log log' ds ps
  pub moments : LeavesOnly v w (IsMoment (geometry o.super) v log ds ps last m)
  pub slots : LeavesOnly v w (HasSlots v)
  pub bytes : (a : Area) (i : ℕ) → (w.now a).seen i < 256
  pub cleaned : IsCleaned (geometry o.super) m m'
  pub backed : IsBacked (geometry o.super) (w.now Home) m'
  pub gone : (b k : ℕ) → b < o.super.bands → m.band_since b ≡ Some k → m'.band_since b ≡ None → last b < log'.gate

module _ (o : Origin) (v w : View) (log log' : Tail) (ds ps : List Numbered) (last : ℕ → ℕ) (m m' : Units) (ready : IsReady (v.now Home)) (place : IsLogOf o.super log) (c : Cleans o v w log log' ds ps last m m') where
  abbrev image : Image
  image a = (w.now a).seen

  moment : IsMoment (geometry o.super) v log ds ps last m image
  moment = c.moments.each image (inl (seen_image w c.bytes))

  pub slots_same : superblock (w.now Home).seen ≡ superblock (v.now Home).seen
  slots_same = superblock_agree (v.now Home).seen (w.now Home).seen (c.slots.each image (inl (seen_image w c.bytes)))

  shut : (i : ℕ) → laid (w.now Home).seen i ≡ (w.now Home).seen i
  shut i = laid_shut (w.now Home).seen i c.backed.ready.closed

  -- the log's gate is where the moment says
  pub going_end : (gate : ℕ) → ((d : ℕ) (records : List Numbered) → HasRecords (w.now log.area).seen log.base d records → d ≡ gate) → IsGoing (geometry o.super) gate last (v.now Home).seen m (w.now Home).seen
  going_end gate one = ⊎_elim
      (λ before. going_same (geometry o.super) gate last (v.now Home).seen m (v.now Home).seen (w.now Home).seen
      (λ i high. ready_same v.now image ready (before.others Home (λ at. home_apart o (at ∙ place.area))) i (inr high)) (going_starts (geometry o.super) gate last (v.now Home).seen m))
      (λ goes.
      let same = one goes.durable goes.records goes.held in
      going_same (geometry o.super) gate last (v.now Home).seen m (laid (w.now Home).seen) (w.now Home).seen (λ i high. sym (shut i)) (subst (λ (d : ℕ). IsGoing (geometry o.super) d last (v.now Home).seen m (laid (w.now Home).seen)) same goes.going))
      moment

some_more : {X : Type 0} (o o' : Option X) (x : X) → (o' ≡ o) ⊎ (o' ≡ None) → o' ≡ Some x → o ≡ Some x
some_more o o' x which is = ⊎_elim (λ same. sym same ∙ is) (λ none. let no : ⊥ = cc in absurd no) which

-- the units after such a call
module _ (o : Origin) (v w : View) (log log' : Tail) (ds ps ds' ps' done rest : List Numbered) (limit : ℕ) (last : ℕ → ℕ) (m m' : Units) (h : IsHalf o v log ds ps done rest limit last m) (c : Cleans o v w log log' ds ps last m m') where
  half_with : Holds w log' ds' ps' → log'.area ≡ log.area → log'.base ≡ log.base → tail_of log' ≡ tail_of log → log.gate ≤ log'.gate → ds' ++ ps' ≡ ds ++ ps → IsGoing (geometry o.super) log'.gate last (v.now Home).seen m (w.now Home).seen
      → IsHalf o w log' ds' ps' done rest limit last m'
  half_with holds area base tail le all going =
      let start = λ (n : ℕ) (lt : n < o.super.pages). ⊎_elim (λ none. inl none) (λ low. inr (omega arith)) (h.started n lt) in
      record {
        super = slots_same o v w log log' ds ps last m m' h.backed.ready h.place c ∙ h.super;
        place = record { area = area ∙ h.place.area; base = base ∙ h.place.base };
        held = holds;
        backed = c.backed;
        all = all ∙ h.all;
        history = h.history;
        done_history = h.done_history;
        started = start;
        joined = joined_gone (geometry o.super) o.first (entries o done) log'.gate last (v.now Home) (w.now Home) m m' h.done_history start h.lasts h.backed (joined_forced (geometry o.super) o.first (entries o done) log.gate log'.gate (v.now Home).seen m le h.joined) c.cleaned c.backed c.gone going;
        lasts = λ b k lt is. h.lasts b k lt (some_more (m.band_since b) (m'.band_since b) k (c.cleaned.band_since b) is);
        below = λ n k lt is. subst (λ (t : ℕ). lsn_of (m'.page n) < t) (sym tail) (subst (λ (p : List ℕ). lsn_of p < tail_of log) (sym (c.cleaned.page n lt)) (h.below n k lt (some_more (m.page_since n) (m'.page_since n) k (c.cleaned.page_since n lt) is)));
        behind = record {
          pages = λ n k lt is. h.behind.pages n k lt (some_more (m.page_since n) (m'.page_since n) k (c.cleaned.page_since n lt) is);
          bands = λ b k lt is. h.behind.bands b k lt (some_more (m.band_since b) (m'.band_since b) k (c.cleaned.band_since b) is);
        };
      }

-- as `IsSameOrForced` says of the log
abbrev pub IsHalfAfter : (o : Origin) (w : View) (log log' : Tail) (ds ps done rest : List Numbered) (limit : ℕ) (last : ℕ → ℕ) (m' : Units) → Type 0
IsHalfAfter o w log log' ds ps done rest limit last m' = ((log' ≡ log) × IsHalf o w log' ds ps done rest limit last m') ⊎ ((log' ≡ forced log) × IsHalf o w log' (ds ++ ps) [] done rest limit last m')

pub half_forced : (o : Origin) (v w : View) (log log' : Tail) (ds ps done rest : List Numbered) (limit : ℕ) (last : ℕ → ℕ) (m m' : Units) → IsHalf o v log ds ps done rest limit last m → Cleans o v w log log' ds ps last m m' → (log' ≡ forced log) × Holds w (forced log) (ds ++ ps) [] → IsHalf o w log' (ds ++ ps) [] done rest limit last m'
half_forced o v w log log' ds ps done rest limit last m m' h c more =
    let e : log' ≡ forced log = more.0 in
    let f = is_forced log in
    let there : HasRecords (w.now log.area).seen log.base (forced log).gate (ds ++ ps) =
    subst (λ (b : ℕ). HasRecords (w.now log.area).seen b (forced log).gate (ds ++ ps)) f.base (subst (λ (a : Area). HasRecords (w.now a).seen (forced log).base (forced log).gate (ds ++ ps)) f.area (holds_seen more.1)) in
    let going = going_end o v w log log' ds ps last m m' h.backed.ready h.place c (forced log).gate (λ d records has. HasRecords-gate has there) in
    half_with o v w log log' ds ps (ds ++ ps) [] done rest limit last m m' h c (subst (λ (l : Tail). Holds w l (ds ++ ps) []) (sym e) more.1) (ap (λ (l : Tail). l.area) e ∙ f.area) (ap (λ (l : Tail). l.base) e ∙ f.base) (ap tail_of e ∙ f.tail)
    (let g = ap (λ (l : Tail). l.gate) e in let le = f.gate in omega arith) (append_none (ds ++ ps)) (subst (λ (d : ℕ). IsGoing (geometry o.super) d last (v.now Home).seen m (w.now Home).seen) (sym (ap (λ (l : Tail). l.gate) e)) going)

pub half_after : (o : Origin) (v w : View) (log log' : Tail) (ds ps done rest : List Numbered) (limit : ℕ) (last : ℕ → ℕ) (m m' : Units) → IsHalf o v log ds ps done rest limit last m → Cleans o v w log log' ds ps last m m' → IsHalfAfter o w log log' ds ps done rest limit last m'
half_after o v w log log' ds ps done rest limit last m m' h c = ⊎_elim
    (λ same.
    let e : log' ≡ log = same.0 in
    let going = going_end o v w log log' ds ps last m m' h.backed.ready h.place c log.gate (λ d records has. HasRecords-gate has (holds_seen same.1)) in
    inl (
      e,
      half_with o v w log log' ds ps ds ps done rest limit last m m' h c (subst (λ (l : Tail). Holds w l ds ps) (sym e) same.1) (ap (λ (l : Tail). l.area) e) (ap (λ (l : Tail). l.base) e) (ap tail_of e)
          (let g = ap (λ (l : Tail). l.gate) e in omega arith) refl (subst (λ (d : ℕ). IsGoing (geometry o.super) d last (v.now Home).seen m (w.now Home).seen) (sym (ap (λ (l : Tail). l.gate) e)) going),
    ))
    (λ more. inr (more.0, half_forced o v w log log' ds ps done rest limit last m m' h c more))
    c.logs
