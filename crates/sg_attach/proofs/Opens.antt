-- An image of which all is known that the engine promises is opened, and what is opened is the engine.
use Rattle.std.proofs.Common.{◌≡◌, inl, inr, ⊎_elim, ◌≤◌, ℕ, List, [], refl, sym, ap, ◌∙◌, subst, arith}
use mathlib.Core.Logic.{∥∥₁_elim, ∥∥₁_prop}
use Rattle.sg_base.specs.declared.page.TheConstants.{BAND_SIZE}
use Rattle.sg_disk.specs.Disk.{Image, View, Leaves, LeavesOnly}
use Rattle.sg_disk.proofs.Moments.{weaker, joined}
use Rattle.sg_log.specs.Frames.{Numbered}
use Rattle.sg_log.specs.Held.{Tail}
use Rattle.sg_ops.specs.Table.{Table}
use Rattle.sg_pool.specs.declared.pool.Pool.{Pool}
use Rattle.sg_recovery.specs.Formed.{IsLog}
use Rattle.sg_redo.specs.History.{OnByte, rewritten}
use Rattle.sg_redo.specs.Leaf.{leaf_of}
use Rattle.sg_action.specs.States.{State}
use Rattle.sg_engine.specs.Numbers.{Rises}
use Rattle.sg_engine.specs.Effects.{IsBy}
use Rattle.sg_engine.specs.History.{byte_number, byte_change, of_page, of_byte, made, repeated_from, AreSame}
use Rattle.sg_engine.specs.Engine.{Origin, entries, geometry, IsStanding}
use Rattle.sg_engine.specs.Running.{IsEngine, IsAllowed}
use Rattle.sg_engine.proofs.Bytes.{byte_repeats, covered_or, uncovered_all}
use Rattle.sg_engine.proofs.Logs.{none_more}
use Rattle.sg_engine.proofs.Pages.{from_there}
use Rattle.sg_engine.proofs.Units.{byte_one, rises_parts}
use Rattle.sg_find.specs.Synced.{reads, redo_point as point_found, SplitsAtSync}
use Rattle.sg_opening.specs.Opening.{AreThere, IsOpenable}
use Rattle.sg_open.specs.Found.{Opens, IsGoingOn}
use Rattle.sg_reopen.specs.Again.{image_home, StandsAgain}
use Rattle.sg_reopen.proofs.Again.{image_opens}
use Rattle.sg_reopen.proofs.OpenedOver.{own_point}
use Rattle.sg_reopen.proofs.Points.{point_within}
use Rattle.sg_actions.specs.Images.{Grows}
use Rattle.sg_actions.specs.Steps.{Steps, repeated}
use Rattle.sg_phys_laws.specs.Formed.{AreFormed}
use Rattle.sg_phys_laws.specs.Known.{IsEnough, AllEnough}
use Rattle.sg_phys_laws.specs.Poised.{AreSaid, IsPoised}
use Rattle.sg_phys_laws.specs.Points.{AreMarked}
use Rattle.sg_phys_laws.specs.Recovers.{cut_at, origin_of, records_in, point_in, IsSoundImage, Recovers, StandsOwn}
use Rattle.sg_phys_laws.specs.States.{state_of, steps_of, AllAgree}
use Rattle.sg_phys_laws.specs.Whole.{IsWholeImageOf}
use Rattle.sg_phys_laws.proofs.Agreeing.{all_agree_none}
use Rattle.sg_phys_laws.proofs.Cutting.{cut_same}
use Rattle.sg_phys_laws.proofs.Enough.{all_enough_none}
use Rattle.sg_phys_laws.proofs.Forming.{formed_none}
use Rattle.sg_phys_laws.proofs.Listing.{same-listed}
use Rattle.sg_phys_laws.proofs.Opened.{opened_poised}
use Rattle.sg_phys_laws.proofs.Sets.{state_set}
use Rattle.sg_phys_laws.proofs.Recovered.{image_is, image_fix, leaves_fix, grows_then}
use Rattle.sg_phys.proofs.Images.{by_table, image_by}
use Rattle.sg_attach.specs.Attached.{IsStoreImage, IsAttaching}
use Rattle.sg_attach.proofs.Points.{point_same, marks_said, marks_seen}

-- what the records make of the image's own home area is what history repeated from its point makes
own_makes : (o : Origin) (k : ℕ) (ns : List Numbered) (c : Image) → IsSoundImage o k ns c → AreSame (geometry o.super) (repeated_from k (entries o ns) (image_home o c)) (made (entries o ns) (image_home o c))
own_makes o k ns c s = record {
  pages = λ n lt. from_there k (of_page n (entries o ns)) ((image_home o c).page n) (s.history.sets n lt) (s.history.fits n lt) (s.sound.is_in n lt);
  bytes = λ b i is_band is_byte.
      let ws = of_byte b i (entries o ns) in
      let x = (image_home o c).byte b i in
      let rises : Rises byte_number 1 (of_byte b i (entries o ns)) = rises_parts byte_number (λ e. byte_change b i e.lsn e.effect) (λ e. byte_one b i e.lsn e.effect) 1 (entries o ns) s.history.rises in
      byte_repeats k k 1 ws x x rises (omega arith)
      (⊎_elim
      (λ covered. inr covered)
      (λ bare. inl (sym (ap (λ (l : List OnByte). rewritten l x) (uncovered_all k k ws (omega arith) bare) ∙ s.sound.last b i is_band is_byte bare)))
      (covered_or k ws));
}

-- with its records made, its pages and bands say what the steps make of what the store first said
image_said : (t : Table) (from : State) (durable log : Steps) (c : Image) → IsStoreImage t from durable log c → IsSoundImage (origin_of t c) (point_in (origin_of t c) c) (records_in (origin_of t c) c) c → AreSaid t from (origin_of t c) (records_in (origin_of t c) c)
image_said t from durable log c m s =
    let o : Origin = origin_of t c in
    let ns : List Numbered = records_in o c in
    let same = own_makes o (point_in o c) ns c s in
    cut_same o.super (state_of (made (entries o ns) (image_home o c))) (state_of (repeated_from (point_in o c) (entries o ns) (image_home o c)))
    (λ n lt. sym (ap leaf_of (same.pages n lt)))
    (λ b lt. same-listed BAND_SIZE ((made (entries o ns) (image_home o c)).byte b) ((repeated_from (point_in o c) (entries o ns) (image_home o c)).byte b) (λ i small. sym (same.bytes b i lt small)))
    ∙ (sym m.recovers.holds.state ∙ ap (λ (rs : Steps). repeated t from rs) m.recovers.holds.records)

-- that needs no more than the image
pub image_is_said : (t : Table) (from : State) (durable log : Steps) (c : Image) → IsStoreImage t from durable log c → AreSaid t from (origin_of t c) (records_in (origin_of t c) c)
image_is_said t from durable log c m = ∥∥₁_elim m.recovers.holds.sound (state_set _ _) (λ s. image_said t from durable log c m s)

-- and its log is formed
pub image_formed : (t : Table) (from : State) (durable log : Steps) (c : Image) → IsStoreImage t from durable log c → ∥ IsLog (origin_of t c).super.base (steps_of (records_in (origin_of t c) c)) ∥₁
image_formed t from durable log c m = subst (λ (rs : Steps). ∥ IsLog (origin_of t c).super.base rs ∥₁) m.recovers.holds.records m.recovers.holds.formed

-- it stands over its own home area
unfoldable stands_there : (t : Table) (k : ℕ) (ns : List Numbered) (c : Image) → IsSoundImage (origin_of t c) k ns c → IsStanding (origin_of t c) ns ns k c
stands_there t k ns c s = record {
  super = s.super;
  records = ns;
  tail = s.tail;
  held = s.held;
  since = [];
  later = none_more ns;
  more = [];
  front = none_more ns;
  header = s.header;
  sound = s.sound;
  repeats = own_makes (origin_of t c) k ns c s;
  history = s.history;
}

pub point_below : (t : Table) (k : ℕ) (ns : List Numbered) (c : Image) → (s : IsSoundImage (origin_of t c) k ns c) → point_found (origin_of t c).super.base ns ≤ s.tail
unfolding stands_there
point_below t k ns c s = point_within (origin_of t c) ns ns k c (stands_there t k ns c s) (marks_seen (λ k. Unit {0}) ns s.low)

-- IT CAN BE OPENED
pub sound_opens : (t : Table) (v : View) → (s : IsSoundImage (origin_of t (reads v)) (point_in (origin_of t (reads v)) (reads v)) (records_in (origin_of t (reads v)) (reads v)) (reads v)) → Opens (origin_of t (reads v)) s.tail (records_in (origin_of t (reads v)) (reads v)) v
unfolding stands_there
sound_opens t v s =
    let o : Origin = origin_of t (reads v) in
    let ns : List Numbered = records_in o (reads v) in
    subst (λ (r : ℕ). IsOpenable o r s.tail ns (reads v)) (sym (point_same o.super.base ns)) (image_opens t o ns ns (point_in o (reads v)) (reads v) (by_table t (reads v)) (stands_there t (point_in o (reads v)) ns (reads v) s))

-- its records are of pages and bands of the store
pub sound_there : (t : Table) (c : Image) → IsSoundImage (origin_of t c) (point_in (origin_of t c) c) (records_in (origin_of t c) c) c
    → AreThere (origin_of t c).super.pages (origin_of t c).super.bands (records_in (origin_of t c) c)
unfolding stands_there
sound_there t c s =
    let o : Origin = origin_of t c in
    let ns : List Numbered = records_in o c in
    (image_opens t o ns ns (point_in o c) c (by_table t c) (stands_there t (point_in o c) ns c s)).there

-- WHAT IS OPENED is the engine under the actions
pub opens_poised : (t : Table) (from : State) (c : Image) (w : View) (log : Tail) (pool : Pool) → AreMarked (λ k. Unit {0}) (records_in (origin_of t c) c) → AreSaid t from (origin_of t c) (records_in (origin_of t c) c)
    → ∥ IsLog (origin_of t c).super.base (steps_of (records_in (origin_of t c) c)) ∥₁ → IsEnough t (origin_of t c).super.base (records_in (origin_of t c) c) → IsEngine (origin_of t c) w log (records_in (origin_of t c) c) [] pool
    → IsAllowed (origin_of t c) w log pool (point_found (origin_of t c).super.base (records_in (origin_of t c) c)) → IsPoised t from (origin_of t c) w log pool
opens_poised t from c w log pool low said formed enough e allowed =
    let o : Origin = origin_of t c in
    opened_poised t from o w log (records_in o c) pool e said formed enough low (subst (IsAllowed o w log pool) (point_same o.super.base (records_in o c)) allowed)

-- AN IMAGE THAT STANDS AGAIN stands from its own redo point
own_of : (o : Origin) (ds all : List Numbered) (c : Image) → StandsAgain o ds all c → StandsOwn o ds all c
own_of o ds all c s = record { point = s.point; stands = s.stands; own = s.own ∙ point_same o.super.base s.stands.records; low = marks_said (λ k. Unit {0}) s.stands.records s.low }

-- AN IMAGE OF OPENING does: it holds the records that were found,
stands_found : (o : Origin) (rs : List Numbered) (c : Image) → AreMarked (λ k. Unit {0}) rs → IsStanding o rs rs (point_found o.super.base rs) c → StandsOwn o rs rs c
stands_found o rs c low s = own_of o rs rs c (own_point o rs c (marks_seen (λ k. Unit {0}) rs low) s)

-- which is a front as the one that was read is
image_between : (t : Table) (from : State) (durable log : Steps) (c d : Image) → (m : IsStoreImage t from durable log c) → IsStoreImage t from (steps_of (records_in (origin_of t c) c)) (steps_of (records_in (origin_of t c) c)) d → IsStoreImage t from durable log d
image_between t from durable log c d m n =
    let rs : Steps = steps_of (records_in (origin_of t c) c) in
    let same : m.front ≡ rs = m.recovers.holds.records in
    let in_log : Grows rs log = subst (λ (l : Steps). Grows l log) same m.is_front.within in
    let has : Grows durable rs = subst (Grows durable) same m.is_front.whole in
    record {
      front = n.front;
      is_front = record { within = grows_then n.front rs log n.is_front.within in_log; whole = grows_then durable rs n.front has n.is_front.whole };
      recovers = n.recovers;
    }

-- so it is one of the store,
standing_image : (t : Table) (from : State) (durable log : Steps) (v : View) → IsStoreImage t from durable log (reads v)
    → IsSoundImage (origin_of t (reads v)) (point_in (origin_of t (reads v)) (reads v)) (records_in (origin_of t (reads v)) (reads v)) (reads v) → (c : Image)
    → IsStanding (origin_of t (reads v)) (records_in (origin_of t (reads v)) (reads v)) (records_in (origin_of t (reads v)) (reads v)) (point_found (origin_of t (reads v)).super.base (records_in (origin_of t (reads v)) (reads v))) c
    → IsStoreImage t from durable log c
standing_image t from durable log v m s c stands =
    let o : Origin = origin_of t (reads v) in
    let ns : List Numbered = records_in o (reads v) in
    let by : IsBy t o = by_table t (reads v) in
    image_between t from durable log (reads v) c m
    (image_by t o from (steps_of ns) (steps_of ns) c by
    (image_is t from o ns ns c by (all_agree_none t o ns) (image_said t from durable log (reads v) m s)
    (formed_none o.super.base ns (image_formed t from durable log (reads v) m)) (all_enough_none t o.super.base ns m.recovers.holds.registered) (stands_found o ns c s.low stands)))

-- a truncated fact of an image is one
store_image_fix : (t : Table) (from : State) (durable log : Steps) (c : Image) → ∥ IsStoreImage t from durable log c ∥₁ → IsStoreImage t from durable log c
store_image_fix t from durable log c h =
    let m : IsWholeImageOf (Recovers t (origin_of t c)) t from durable log c = image_fix (origin_of t c) t from durable log c (∥∥₁_elim h ∥∥₁_prop (λ n. ∣ record { front = n.front; is_front = n.is_front; recovers = n.recovers.holds } ∣₁)) in
    record { front = m.front; is_front = m.is_front; recovers = record { holds = m.recovers; leads = (from, refl) } }

-- EACH IMAGE OF EACH MOMENT of opening, from its syncs on,
pub attach_behind : (t : Table) (v w mid : View) → IsGoingOn t v w mid → IsAttaching t v w mid
attach_behind t v w mid goes from durable log m =
    leaves_fix mid w (IsStoreImage t from durable log) (store_image_fix t from durable log)
    (∥∥₁_elim m.recovers.holds.sound ∥∥₁_prop (λ s.
    ∣ weaker (goes (origin_of t (reads v)) s.tail (records_in (origin_of t (reads v)) (reads v)) (λ lsn x. refl) (sound_opens t v s)) (standing_image t from durable log v m s) ∣₁))

-- and all of them where each that could have been left before was
pub opening_images : (t : Table) (from : State) (durable log : Steps) (v w : View) → ((c : Image) → Leaves v.now c → IsStoreImage t from durable log c) → IsStoreImage t from durable log (reads v)
    → SplitsAtSync v (IsAttaching t v w) → LeavesOnly v w (IsStoreImage t from durable log)
opening_images t from durable log v w each m split = joined (weaker split.before each) (split.behind from durable log m)

-- AN IMAGE THAT STANDS AGAIN, of whichever life, is one of the store,
pub stands_of : (t : Table) (from : State) (o : Origin) (ds all : List Numbered) (c : Image) → IsBy t o → AllAgree t o ds all → AreSaid t from o ds → AreFormed o.super.base ds all → AllEnough t o.super.base ds all → StandsAgain o ds all c → IsStoreImage t from (steps_of ds) (steps_of all) c
stands_of t from o ds all c by agree said formed enough s = image_by t o from (steps_of ds) (steps_of all) c by (image_is t from o ds all c by agree said formed enough (own_of o ds all c s))

-- and of a store without a record, as it is made, whose log is formed
empty_formed : (base : ℕ) → IsLog base (steps_of [])
empty_formed base = record {
  above = tt;
  owned = tt;
  chained = tt;
  system = tt;
  between = tt;
  straight = tt;
  ended = tt;
  over = tt;
  one_action = record { one = λ t u first other. absurd (first refl); whose = λ t first. absurd (first refl) };
}

pub none_of : (t : Table) (o : Origin) (c : Image) → IsBy t o → StandsAgain o [] [] c → IsStoreImage t (cut_at o.super (state_of o.first)) [] [] c
none_of t o c by s = stands_of t (cut_at o.super (state_of o.first)) o [] [] c by (all_agree_none t o []) refl (formed_none o.super.base [] ∣ empty_formed o.super.base ∣₁) (all_enough_none t o.super.base [] refl) s
