-- What an image of a store stands for, and that what was opened of it can be started.
use Rattle.std.proofs.Common.{◌≡◌, ◌≤◌, List, [], Some, refl, sym, ap, ◌∙◌, subst}
use Rattle.sg_disk.specs.Disk.{Image}
use Rattle.std.specs.FinMap.{empty}
use Rattle.sg_gate.specs.declared.superblock.Super.{Super}
use Rattle.sg_ops.specs.Table.{Table}
use Rattle.sg_action.specs.States.{Extent, State}
use Rattle.sg_actions.specs.Engine.{StandsNow, led as led_engine}
use Rattle.sg_actions.specs.Steps.{Steps, repeated}
use Rattle.sg_actions.proofs.Sized.{repeated_sized}
use Rattle.sg_attach.specs.Attached.{IsStoreImage}
use Rattle.sg_ground.specs.Recovers.{OneLog}
use Rattle.sg_join.proofs.Fronts.{front_only}
use Rattle.sg_model.specs.Objects.{Objects}
use Rattle.sg_phys_laws.specs.Recovers.{RecoversBy, extent_by, origin_of, records_in, super_in}
use Rattle.sg_phys_laws.specs.States.{steps_of}
use Rattle.sg_phys_laws.proofs.Opened.{recovered_sized}
use Rattle.sg_reading.specs.Reading.{Reading}
use Rattle.sg_recovery.specs.Chains.{next_lsn}
use Rattle.sg_recovery.specs.Formed.{IsLog}
use Rattle.sg_recovery.specs.Log.{Numbered, tally}
use Rattle.sg_recovery.proofs.Basic.{then_some}
use Rattle.sg_recovery.specs.Setting.{Setting}
use Rattle.sg_recovery.specs.Stands.{HasPages, StandsFor as LogStands, all_off, all_undone, made, settled, stands_at}
use Rattle.sg_shown.proofs.History.{grows_is, image_is, made_is}
use Rattle.sg_shown.specs.Shown.{Over, RecoversSized, extent_of, opened_of}
use Rattle.sg_starting.specs.Starting.{IsFound, IsOpened, IsRead}
use Rattle.sg_store.specs.Engine.{Sizes, View, led}
use Rattle.sg_store.specs.Ground.{Ground, setting}
use Rattle.sg_store.specs.Stands.{StandsFor}
use Rattle.sg_mount.specs.Making.{IsNewStore, ground_of_sizes, sizes_of}
use Rattle.sg_mount.specs.Opening.{ImageStandsFor, IsStoreOf, sizes_in}

-- AN IMAGE COMES TO one log and one state
pub one_log : (t : Table) (c : Image) (log log' : Steps) (x x' : State) → RecoversBy t c log x → RecoversBy t c log' x' → (log ≡ log') × (x ≡ x')
one_log t c log log' x x' a b = (a.holds.records ∙ sym b.holds.records, a.holds.state ∙ sym b.holds.state)

-- also where it has to be of so many pages and bands
pub one_log_sized : (z : Sizes) → OneLog (RecoversSized RecoversBy z)
one_log_sized z t c log log' x x' a b = one_log t c log log' x x' a.image b.image

-- AN IMAGE THAT COMES TO ANYTHING over so many pages and bands has so many
pub has_sizes : (t : Table) (z : Sizes) (c : Image) (log : Steps) (x : State) → RecoversSized RecoversBy z t c log x → sizes_in c ≡ z
has_sizes t z c log x r =
    let e : extent_by (super_in c) ≡ extent_of z = sym (recovered_sized t c log x r.image) ∙ r.size in
    ap (λ (s : Extent). let y : Sizes = record { pages = s.pages; bands = s.bands } in y) e

-- so it stands for what it does over its own
pub stands_own : (t : Table) (z : Sizes) (c : Image) (m : Objects) → StandsFor t (ground_of_sizes z) c m → ImageStandsFor t c m
stands_own t z c m h = subst (λ (y : Sizes). StandsFor t (ground_of_sizes y) c m) (sym (has_sizes t z c h.log h.pages h.recovers)) h

-- a log and its pages stand for these objects
abbrev pub StandAt : (s : Setting) → List (Numbered s.C s.N) → s.X → s.S → Type 0
StandAt s log x m = (o : s.O) × (stands_at s (tally log) x ≡ Some o) × (s.objects o ≡ m) × HasPages s (tally log) x

module _ (t : Table) (z : Sizes) (c : Image) (q : IsStoreOf t z c) where
  abbrev pub g : Ground
  g = ground_of_sizes z

  abbrev pub s : Setting
  s = setting t g

  abbrev pub from : State
  from = q.recovers.image.leads.0

  log_is : q.log ≡ steps_of (records_in (origin_of t c) c)
  log_is = q.recovers.image.holds.records

  pages_are : q.pages ≡ made s from q.log
  pages_are = q.recovers.image.leads.1 ∙ sym (made_is RecoversBy t z from q.log)

  -- the first pages were as many
  pub from_sized : from.size ≡ extent_of z
  from_sized = sym (repeated_sized t from q.log) ∙ (sym (ap (λ (x : State). x.size) q.recovers.image.leads.1) ∙ q.recovers.size)

  -- it is one of the engine's
  pub image : IsStoreImage t from q.log q.log c
  image = record {
    front = q.log;
    is_front = record { within = record { since = []; all = refl }; whole = record { since = []; all = refl } };
    recovers = subst (λ (x : State). RecoversBy t c q.log x) q.recovers.image.leads.1 q.recovers.image;
  }

  -- what it stands for is what its log stands for
  pub stand_at : (m : Objects) → StandsFor t g c m → StandAt s q.log q.pages m
  stand_at m h =
      let e = one_log t c h.log q.log h.pages q.pages h.recovers.image q.recovers.image in
      subst (λ (x : State). StandAt s q.log x m) e.1 (subst (λ (l : Steps). StandAt s l h.pages m) e.0 (h.reading, h.stands, h.objects, h.free))

  -- and so does each image of a store that has all of that
  pub image_stands : (m : Objects) → StandsFor t g c m → (d : Image) → IsStoreImage t from q.log q.log d → StandsFor t g d m
  image_stands m h d i =
      let same : i.front ≡ q.log = front_only q.log i.front (record { within = grows_is i.is_front.within; whole = grows_is i.is_front.whole }) in
      let a = stand_at m h in
      record {
        log = q.log;
        pages = q.pages;
        recovers = record {
          image = subst (λ (x : State). RecoversBy t d q.log x) (sym q.recovers.image.leads.1) (subst (λ (l : Steps). RecoversBy t d l (repeated t from l)) same i.recovers);
          size = q.recovers.size;
        };
        reading = a.0;
        stands = a.1;
        objects = a.2;
        free = a.3;
      }

  -- AN ENGINE THAT WAS OPENED with these steps, all of them durable
  module _ (a : Over) (steps_are : a.engine.steps ≡ steps_of (records_in (origin_of t c) c)) (durable_are : a.engine.durable ≡ steps_of (records_in (origin_of t c) c)) where
    abbrev pub v : View g
    v = led t z from (opened_of RecoversBy a)

    pub log_same : q.log ≡ a.engine.steps
    log_same = log_is ∙ sym steps_are

    pub pages_same : q.pages ≡ made s from a.engine.steps
    pages_same = pages_are ∙ ap (made s from) log_same

    pub found : IsLog a.engine.base a.engine.steps → next_lsn a.engine.steps ≤ a.engine.tail → StandsNow (RecoversBy t) t (led_engine from a.engine) → IsFound t g v
    found formed below images = record {
      formed = formed;
      below = below;
      durable = durable_are ∙ sym steps_are;
      images = λ d leaves. image_is RecoversBy t z v a.engine.steps d from_sized (images d leaves);
    }

    -- what its log stands for
    pub log_stands : (m : Objects) → StandsFor t g c m → LogStands s v.first v.log m
    log_stands m h = subst (λ (x : State). StandAt s a.engine.steps x m) pages_same (subst (λ (l : Steps). StandAt s l q.pages m) log_same (stand_at m h))

    -- and what it reads as
    pub reads_as : (o : Reading) → IsRead t g v o → (m : Objects) × StandsFor t g c m
    reads_as o is = q.stood o
        (subst (λ (l : Steps). settled s (tally l).opened q.pages ≡ Some o) (sym log_same)
        (subst (λ (x : State). settled s (tally a.engine.steps).opened x ≡ Some o) (sym pages_same) is))

    -- IT CAN BE STARTED
    pub opened : IsFound t g v → IsOpened t g v
    opened f = record {
      can = record {
        found = f;
        off = subst (λ (x : State). (y : State) × (all_off s (tally a.engine.steps).opened x ≡ Some y)) pages_same
            (subst (λ (l : Steps). (y : State) × (all_off s (tally l).opened q.pages ≡ Some y)) log_same q.off);
      };
      stood = λ o is. (let r = reads_as o is in (r.0, log_stands r.0 r.1));
    }

-- AN IMAGE THAT STANDS FOR OBJECTS is one of a store
pub standing_is : (t : Table) (z : Sizes) (c : Image) (m : Objects) → StandsFor t (ground_of_sizes z) c m → IsStoreOf t z c
standing_is t z c m h =
    let s : Setting = setting t (ground_of_sizes z) in
    let read = then_some (settled s (tally h.log).opened h.pages) (all_undone s (tally h.log).notes) h.reading h.stands in
    let off = then_some (all_off s (tally h.log).opened h.pages) s.reading read.0 read.1 in
    record { log = h.log; pages = h.pages; recovers = h.recovers; off = (off.0, off.1); stood = λ o is. (m, h) }

-- A NEW STORE stands for no objects
pub new_stands : (t : Table) (s : Super) (c : Image) → IsNewStore t s c → StandsFor t (ground_of_sizes (sizes_in c)) c empty
new_stands t s c n = subst (λ (u : Super). StandsFor t (ground_of_sizes (sizes_of u)) c empty) (sym n.super) n.stands
