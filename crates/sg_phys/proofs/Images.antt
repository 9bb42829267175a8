-- What an image holds, by a table alone.
use Rattle.std.proofs.Common.{◌≡◌, ℕ, List, [], ◌∷◌, refl, sym, ap, ◌∙◌, subst}
use Rattle.std.specs.Prelude.{Ok}
use mathlib.Core.Logic.{∥∥₁_elim, ∥∥₁_prop}
use Rattle.sg_base.specs.declared.area.Area.TheVariants.{Home}
use Rattle.sg_disk.specs.Disk.{Image}
use Rattle.sg_gate.specs.Batch.{laid, IsBatch, numbers_of}
use Rattle.sg_gate.specs.Layout.{HEADER}
use Rattle.sg_gate.specs.declared.superblock.Super.{Super}
use Rattle.sg_log.specs.Frames.{Numbered, HasRecords, LOG_END}
use Rattle.sg_ops.specs.Table.{Table}
use Rattle.sg_record.specs.Records.{Record}
use Rattle.sg_recovery.specs.Formed.{IsLog}
use Rattle.sg_action.specs.States.{State}
use Rattle.sg_engine.specs.Effects.{IsBy}
use Rattle.sg_engine.specs.History.{Entry, IsHistory, IsSound, repeated_from}
use Rattle.sg_engine.specs.Kept.{home_in}
use Rattle.sg_engine.specs.Engine.{Origin, entries, geometry, log_area}
use Rattle.sg_actions.specs.Steps.{Steps, repeated}
use Rattle.sg_phys_laws.specs.Known.{IsEnough}
use Rattle.sg_phys_laws.specs.Points.{redo_point}
use Rattle.sg_phys_laws.specs.Reading.{frames_read}
use Rattle.sg_phys_laws.specs.Recovers.{cut_at, super_of, origin_of, records_in, point_in, said_in, IsSoundImage, Recovers, RecoversBy}
use Rattle.sg_phys_laws.specs.States.{state_of, steps_of}
use Rattle.sg_phys_laws.specs.Whole.{IsWholeImageOf}
use Rattle.sg_phys_laws.proofs.Sets.{code_set, steps_set, state_set}
use Rattle.sg_phys.specs.Phys.{Past, origin_at}

-- what records do by a table is what the table says
pub by_table : (t : Table) (c : Image) → IsBy t (origin_of t c)
by_table t c = record { says = λ lsn r. refl }

pub by_past : (t : Table) (q : Past) → IsBy t (origin_at t q)
by_past t q = record { says = λ lsn r. refl }

pub entries_same : (o p : Origin) → ((lsn : ℕ) (r : Record) → o.effect lsn r ≡ p.effect lsn r) → (ns : List Numbered) → entries o ns ≡ entries p ns
entries_same o p same [] = refl
entries_same o p same (n ∷ ns) = λ i. record { lsn = n.lsn; effect = same n.lsn n.is i } ∷ entries_same o p same ns i

records_same : (o p : Origin) (c : Image) → o.super ≡ p.super → records_in o c ≡ records_in p c
unfolding records_in
records_same o p c e = ap (λ (s : Super). frames_read LOG_END (c (log_area s)) s.base 0) e

-- the records of an image, and what it comes to, by two stores of one superblock and one table
module _ (o p : Origin) (c : Image) (e : o.super ≡ p.super) (same : (lsn : ℕ) (r : Record) → o.effect lsn r ≡ p.effect lsn r) where
  point_same : point_in o c ≡ point_in p c
  point_same = ap (λ (s : Super). redo_point s.base (records_in o c)) e ∙ ap (redo_point p.super.base) (records_same o p c e)

  said_same : said_in o c ≡ said_in p c
  said_same =
      ap (λ (k : ℕ). cut_at o.super (state_of (repeated_from k (entries o (records_in o c)) (home_in (geometry o.super) (laid (c Home)))))) point_same
      ∙ (ap (λ (ns : List Numbered). cut_at o.super (state_of (repeated_from (point_in p c) (entries o ns) (home_in (geometry o.super) (laid (c Home)))))) (records_same o p c e)
      ∙ (ap (λ (es : List Entry). cut_at o.super (state_of (repeated_from (point_in p c) es (home_in (geometry o.super) (laid (c Home)))))) (entries_same o p same (records_in p c))
      ∙ ap (λ (s : Super). cut_at s (state_of (repeated_from (point_in p c) (entries p (records_in p c)) (home_in (geometry s) (laid (c Home)))))) e))

  sound_same : (k : ℕ) (ns : List Numbered) → IsSoundImage o k ns c → IsSoundImage p k ns c
  sound_same k ns s = record {
    super = s.super ∙ ap Ok e;
    tail = s.tail;
    held = subst (λ (u : Super). HasRecords (c (log_area u)) u.base s.tail ns) e s.held;
    header = subst (λ (u : Super). c Home HEADER ≡ 1 → IsBatch u.pages (numbers_of (c Home))) e s.header;
    sound = subst (λ (u : Super). IsSound (geometry u) k s.tail (entries p ns) (home_in (geometry u) (laid (c Home)))) e
        (subst (λ (es : List Entry). IsSound (geometry o.super) k s.tail es (home_in (geometry o.super) (laid (c Home)))) (entries_same o p same ns) s.sound);
    history = subst (λ (u : Super). IsHistory (geometry u) (home_in (geometry u) (laid (c Home))) (entries p ns)) e
        (subst (λ (es : List Entry). IsHistory (geometry o.super) (home_in (geometry o.super) (laid (c Home))) es) (entries_same o p same ns) s.history);
    low = s.low;
  }

-- AN IMAGE OF A STORE holds by its table what it holds by what the store was opened from
holds_by : (t : Table) (o : Origin) (c : Image) (front : Steps) (x : State) → IsBy t o → Recovers t o c front x → Recovers t (origin_of t c) c front x
holds_by t o c front x by r =
    let p = origin_of t c in
    record {
      records = ∥∥₁_elim r.sound (steps_set front (steps_of (records_in p c))) (λ s. r.records ∙ ap steps_of (records_same o p c (sym (ap super_of s.super))));
      state = ∥∥₁_elim r.sound (state_set x (said_in p c)) (λ s. r.state ∙ said_same o p c (sym (ap super_of s.super)) by.says);
      sound = ∥∥₁_elim r.sound ∥∥₁_prop (λ s.
          let e : o.super ≡ p.super = sym (ap super_of s.super) in
          ∣ sound_same o p c e by.says (point_in p c) (records_in p c)
          (subst (λ (ns : List Numbered). IsSoundImage o (point_in p c) ns c) (records_same o p c e)
          (subst (λ (k : ℕ). IsSoundImage o k (records_in o c) c) (point_same o p c e by.says) s)) ∣₁);
      formed = ∥∥₁_elim r.sound ∥∥₁_prop (λ s. subst (λ (u : Super). ∥ IsLog u.base front ∥₁) (sym (ap super_of s.super)) r.formed);
      registered = ∥∥₁_elim r.sound (code_set _ _) (λ s.
          let e : o.super ≡ p.super = sym (ap super_of s.super) in
          subst (IsEnough t p.super.base) (records_same o p c e) (subst (λ (u : Super). IsEnough t u.base (records_in o c)) e r.registered));
    }

pub image_by : (t : Table) (o : Origin) (first : State) (durable log : Steps) (c : Image) → IsBy t o → IsWholeImageOf (Recovers t o) t first durable log c → IsWholeImageOf (RecoversBy t) t first durable log c
image_by t o first durable log c by m = record { front = m.front; is_front = m.is_front; recovers = record { holds = holds_by t o c m.front (repeated t first m.front) by m.recovers; leads = (first, refl) } }
