-- What an image holds, and that truncated facts of images are facts.
use Rattle.std.proofs.Common.{◌≡◌, ◌<◌, ◌+◌, ◌-◌, ℕ, List, ◌∷◌, ◌++◌, length, take, refl, sym, ap, ◌∙◌, subst, arith, length-append}
use Rattle.std.proofs.Math.Seq.{take-append_seam}
use Rattle.std.proofs.lemmas.List.{append_cancel_right, append_assoc}
use mathlib.Core.Logic.{∥∥₁_elim, ∥∥₁_prop}
use Rattle.sg_base.specs.declared.page.TheConstants.{BAND_SIZE}
use Rattle.sg_disk.specs.Disk as disk
use Rattle.sg_disk.specs.Disk.{Image, View, Leaves, LeavesAny, LeavesOnly}
use Rattle.sg_disk.proofs.Moments.{weaker}
use Rattle.sg_gate.specs.Batch.{laid}
use Rattle.sg_base.specs.declared.area.Area.TheVariants.{Home}
use Rattle.sg_log.specs.Frames.{Numbered, HasRecords, LOG_END, numbered_in}
use Rattle.sg_log.specs.Held.{Tail}
use Rattle.sg_ops.specs.Table.{Table}
use Rattle.sg_pool.specs.declared.pool.Pool.{Pool}
use Rattle.sg_action.specs.States.{State}
use Rattle.sg_engine.specs.Effects.{IsBy}
use Rattle.sg_engine.specs.History.{IsSound, AllThere}
use Rattle.sg_engine.specs.Kept.{home_in}
use Rattle.sg_engine.specs.Engine.{Origin, entries, geometry, log_area}
use Rattle.sg_engine.specs.Running.{IsAllowed}
use Rattle.sg_recovery.specs.Formed.{IsLog}
use Rattle.sg_redo.specs.Leaf.{leaf_of}
use Rattle.sg_actions.specs.Images.{Grows, Recovering, IsImageOf}
use Rattle.sg_actions.specs.Steps.{Steps, repeated}
use Rattle.sg_phys_laws.specs.Formed.{AreFormed}
use Rattle.sg_phys_laws.specs.Images.{homes_in}
use Rattle.sg_phys_laws.specs.Known.{IsEnough, AllEnough}
use Rattle.sg_phys_laws.specs.Logged.{Stood}
use Rattle.sg_phys_laws.specs.Points.{redo_point, ArePoints}
use Rattle.sg_phys_laws.specs.Recovers.{cut_at, records_in, said_in, IsSoundImage, Recovers, StandsOwn}
use Rattle.sg_phys_laws.specs.Poised.{AreSaid}
use Rattle.sg_phys_laws.specs.States.{state_of, steps_of, homes_of, AllAgree}
use Rattle.sg_phys_laws.specs.Whole.{IsWholeImageOf}
use Rattle.sg_phys_laws.proofs.Cutting.{cut_same}
use Rattle.sg_phys_laws.proofs.Going.{said_more}
use Rattle.sg_phys_laws.proofs.Fronting.{front_grows}
use Rattle.sg_phys_laws.proofs.Listing.{same-listed}
use Rattle.sg_phys_laws.proofs.Points.{stands_own}
use Rattle.sg_phys_laws.proofs.Reading.{frames_are, few_frames}
use Rattle.sg_phys_laws.proofs.Sets.{code_set, steps_set, state_set, disks_set}

-- THE RECORDS of an image are a function of its bytes
pub records_held : (o : Origin) (c : Image) (tail : ℕ) (ns : List Numbered) → HasRecords (c (log_area o.super)) o.super.base tail ns → records_in o c ≡ ns
unfolding records_in
records_held o c tail ns h =
    let few = few_frames 0 h.frames in
    let gate = h.at_gate in
    let within = h.within in
    let base : o.super.base + 0 ≡ o.super.base = omega arith in
    frames_are LOG_END o.super.base 0 (c (log_area o.super)) h.frames h.stand (omega (arith, few, gate, within)) ∙ (ap (λ (m : ℕ). numbered_in m h.frames) base ∙ h.all)

module _ (t : Table) (from : State) (o : Origin) (ds all : List Numbered) (c : Image) (by : IsBy t o) (agrees : AllAgree t o ds all) (begun : AreSaid t from o ds) (formed : AreFormed o.super.base ds all) (enough : AllEnough t o.super.base ds all) (own : StandsOwn o ds all c) where
  abbrev ns : List Numbered
  ns = own.stands.records

  held : records_in o c ≡ ns
  held = records_held o c own.stands.tail ns own.stands.held

  pages : (n : ℕ) → n < o.super.pages → leaf_of ((homes_of o ns).page n) ≡ leaf_of ((homes_in o own.point ns c).page n)
  pages n lt = ap leaf_of (sym (own.stands.repeats.pages n lt))

  bands : (b : ℕ) → b < o.super.bands → (state_of (homes_of o ns)).bands b ≡ (state_of (homes_in o own.point ns c)).bands b
  bands b lt = same-listed BAND_SIZE ((homes_of o ns).byte b) ((homes_in o own.point ns c).byte b) (λ i small. sym (own.stands.repeats.bytes b i lt small))

  said : cut_at o.super (state_of (homes_in o own.point ns c)) ≡ said_in o c
  said =
      ap (λ (k : ℕ). cut_at o.super (state_of (homes_in o k ns c))) own.own
      ∙ ap (λ (l : List Numbered). cut_at o.super (state_of (homes_in o (redo_point o.super.base l) l c))) (sym held)

  sound : IsSoundImage o (redo_point o.super.base ns) ns c
  sound = record {
    super = own.stands.super;
    tail = own.stands.tail;
    held = own.stands.held;
    header = own.stands.header;
    sound = subst (λ (k : ℕ). IsSound (geometry o.super) k own.stands.tail (entries o ns) (home_in (geometry o.super) (laid (c Home)))) own.own own.stands.sound;
    history = own.stands.history;
    low = own.low;
  }

  -- AN IMAGE THAT STANDS holds a front of the steps
  goes : AreSaid t from o ns
  goes = subst (AreSaid t from o) (sym own.stands.later)
      (said_more t from o ds own.stands.since by (subst (λ (l : List Numbered). AllThere (geometry o.super) (entries o l)) own.stands.later own.stands.history.there)
      (agrees own.stands.since own.stands.more (ap (λ (l : List Numbered). l ++ own.stands.more) (sym own.stands.later) ∙ sym own.stands.front)) begun)

  formed_front : ∥ IsLog o.super.base (steps_of ns) ∥₁
  formed_front = subst (λ (l : List Numbered). ∥ IsLog o.super.base (steps_of l) ∥₁) (sym own.stands.later)
      (formed own.stands.since own.stands.more (ap (λ (l : List Numbered). l ++ own.stands.more) (sym own.stands.later) ∙ sym own.stands.front))

  enough_front : IsEnough t o.super.base ns
  enough_front = subst (IsEnough t o.super.base) (sym own.stands.later)
      (enough own.stands.since own.stands.more (ap (λ (l : List Numbered). l ++ own.stands.more) (sym own.stands.later) ∙ sym own.stands.front))

  pub image_is : IsWholeImageOf (Recovers t o) t from (steps_of ds) (steps_of all) c
  image_is = record {
    front = steps_of ns;
    is_front = record {
      within = subst (λ (l : List Numbered). Grows (steps_of ns) (steps_of l)) (sym own.stands.front) (front_grows ns own.stands.more);
      whole = subst (λ (l : List Numbered). Grows (steps_of ds) (steps_of l)) (sym own.stands.later) (front_grows ds own.stands.since);
    };
    recovers = record {
      records = ap steps_of (sym held);
      state = sym goes ∙ (cut_same o.super (state_of (homes_of o ns)) (state_of (homes_in o own.point ns c)) pages bands ∙ said);
      sound = ∣ subst (λ (l : List Numbered). IsSoundImage o (redo_point o.super.base l) l c) (sym held) sound ∣₁;
      formed = formed_front;
      registered = subst (IsEnough t o.super.base) (sym held) enough_front;
    };
  }

-- what stands before a known end
front_is : {A : Type 0} (xs ys zs : List A) → ys ≡ zs ++ xs → take (length ys - length xs) ys ≡ zs
front_is xs ys zs e =
    let long : length ys ≡ length zs + length xs = ap length e ∙ length-append zs xs in
    let few : length ys - length xs ≡ length zs = omega (arith, long) in
    ap (λ (n : ℕ). take n ys) few ∙ (ap (take (length zs)) e ∙ take-append_seam zs xs)

-- A TRUNCATED FACT is one: that a log grows,
pub grows_fix : (a b : Steps) → ∥ Grows a b ∥₁ → Grows a b
grows_fix a b h = record {
  since = take (length b - length a) b;
  all = ∥∥₁_elim h (steps_set b (take (length b - length a) b ++ a)) (λ g. g.all ∙ ap (λ (l : Steps). l ++ a) (sym (front_is a b g.since g.all)));
}

-- that an image holds a front,
pub image_fix : (o : Origin) (t : Table) (first : State) (durable log : Steps) (c : Image) → ∥ IsWholeImageOf (Recovers t o) t first durable log c ∥₁ → IsWholeImageOf (Recovers t o) t first durable log c
image_fix o t first durable log c h =
    let f : Steps = steps_of (records_in o c) in
    record {
      front = f;
      is_front = record {
        within = grows_fix f log (∥∥₁_elim h ∥∥₁_prop (λ m. ∣ subst (λ (l : Steps). Grows l log) m.recovers.records m.is_front.within ∣₁));
        whole = grows_fix durable f (∥∥₁_elim h ∥∥₁_prop (λ m. ∣ subst (λ (l : Steps). Grows durable l) m.recovers.records m.is_front.whole ∣₁));
      };
      recovers = record {
        records = refl;
        state = ∥∥₁_elim h (state_set (repeated t first f) (said_in o c)) (λ m. subst (λ (l : Steps). repeated t first l ≡ said_in o c) m.recovers.records m.recovers.state);
        sound = ∥∥₁_elim h ∥∥₁_prop (λ m. m.recovers.sound);
        formed = ∥∥₁_elim h ∥∥₁_prop (λ m. subst (λ (l : Steps). ∥ IsLog o.super.base l ∥₁) m.recovers.records m.recovers.formed);
        registered = ∥∥₁_elim h (code_set _ _) (λ m. m.recovers.registered);
      };
    }

-- and that each image of each moment does
pub leaves_fix : (v w : View) (P : Image → Type 0) → ((c : Image) → ∥ P c ∥₁ → P c) → ∥ LeavesOnly v w P ∥₁ → LeavesOnly v w P
leaves_fix v w P fix h =
    let added : List disk.State = take (length w.past - length v.past) w.past in
    record {
      added = added;
      past = ∥∥₁_elim h (disks_set w.past (added ++ v.past)) (λ m. m.past ∙ ap (λ (l : List disk.State). l ++ v.past) (sym (front_is v.past w.past m.added m.past)));
      first = λ c leaves. fix c (∥∥₁_elim h ∥∥₁_prop (λ m. ∣ m.first c leaves ∣₁));
      each = λ c any. fix c (∥∥₁_elim h ∥∥₁_prop (λ m. ∣ m.each c (subst (λ (l : List disk.State). LeavesAny (w.now ∷ l) c) (front_is v.past w.past m.added m.past) any) ∣₁));
    }

-- EACH IMAGE OF EACH MOMENT, where each stands from each point that is allowed
moments_own : (o : Origin) (v w : View) (log : Tail) (pool : Pool) (ds all : List Numbered) → ArePoints o (IsAllowed o v log pool) ds all → Stood o v w log pool ds all → LeavesOnly v w (StandsOwn o ds all)
moments_own o v w log pool ds all points runs =
    let run = runs o.super.base points.start in
    record {
      added = run.added;
      past = run.past;
      first = λ c leaves. stands_own (IsAllowed o v log pool) o ds all c points (λ k a. (runs k a).first c leaves);
      each = λ c any. stands_own (IsAllowed o v log pool) o ds all c points (λ k a. (runs k a).each c
          (subst (λ (l : List disk.State). LeavesAny (w.now ∷ l) c) (append_cancel_right run.added (runs k a).added v.past (sym run.past ∙ (runs k a).past)) any));
    }

pub moments_are : (t : Table) (from : State) (o : Origin) (v w : View) (log : Tail) (pool : Pool) (ds all : List Numbered) → IsBy t o → AllAgree t o ds all → AreSaid t from o ds → AreFormed o.super.base ds all → AllEnough t o.super.base ds all → ArePoints o (IsAllowed o v log pool) ds all → Stood o v w log pool ds all
    → LeavesOnly v w (IsWholeImageOf (Recovers t o) t from (steps_of ds) (steps_of all))
moments_are t from o v w log pool ds all by agrees said formed enough points runs = weaker (moments_own o v w log pool ds all points runs) (λ c own. image_is t from o ds all c by agrees said formed enough own)

-- more steps, or fewer durable ones
pub grows_then : (a b c : Steps) → Grows a b → Grows b c → Grows a c
grows_then a b c g h = record { since = h.since ++ g.since; all = h.all ∙ (ap (λ (l : Steps). h.since ++ l) g.all ∙ sym (append_assoc h.since g.since a)) }

pub whole_more : (holds : Recovering) (t : Table) (first : State) (durable log more : Steps) (c : Image) → Grows log more → IsWholeImageOf holds t first durable log c → IsWholeImageOf holds t first durable more c
whole_more holds t first durable log more c g m = record { front = m.front; is_front = record { within = grows_then m.front log more m.is_front.within g; whole = m.is_front.whole }; recovers = m.recovers }

pub image_more : (holds : Recovering) (t : Table) (first : State) (durable log more : Steps) (c : Image) → Grows log more → IsImageOf holds t first durable log c → IsImageOf holds t first durable more c
image_more holds t first durable log more c g m = record {
  front = m.front;
  is_front = record { within = grows_then m.front log more m.is_front.within g; whole = m.is_front.whole };
  left = m.left;
  says = m.says;
  recovers = m.recovers;
}

-- AN IMAGE with all of its front is one
pub whole_image : (holds : Recovering) (t : Table) (first : State) (durable log : Steps) (c : Image) → IsWholeImageOf holds t first durable log c → IsImageOf holds t first durable log c
whole_image holds t first durable log c m = record { front = m.front; is_front = m.is_front; left = m.front; says = refl; recovers = m.recovers }
