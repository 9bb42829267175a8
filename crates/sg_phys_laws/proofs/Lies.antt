-- The change of a record whose fields are in their ranges.
use Rattle.std.proofs.Common.{◌≡◌, ◌≢◌, ◌≤◌, ◌+◌, ℕ, IsTrue, Option, Some, IfSome, List, length, ⊎_elim, refl, sym, ap, ◌∙◌, subst}
use Rattle.std.proofs.lemmas.Bool.{cases_eq}
use Rattle.sg_base.specs.declared.page.TheConstants.{BAND_SIZE}
use Rattle.sg_base.specs.Op.{Op}
use Rattle.sg_disk.specs.Disk.{View}
use Rattle.sg_log.specs.Frames.{Numbered}
use Rattle.sg_log.specs.Held.{Tail}
use Rattle.sg_ops.specs.Laws.{IsLawful}
use Rattle.sg_ops.specs.Table.{Table, range_at, rendered}
use Rattle.sg_pool.specs.declared.pool.Pool.{Pool}
use Rattle.sg_record.specs.Changes.{Change as Changing, PageChange, BandBytes, BandOp}
use Rattle.sg_record.specs.Changes.Change.{Page, SegWrite, SegOp}
use Rattle.sg_record.specs.Ranges.{IsRecord, after_fits}
use Rattle.sg_record.specs.Records.{Record}
use Rattle.sg_redo.specs.Places.{changed_by, op_said, IsInRange}
use Rattle.sg_redo.proofs.InRange.{record_in}
use Rattle.sg_engine.specs.Engine.{Origin}
use Rattle.sg_phys_laws.specs.Logged.{IsAsked, IsWrite, IsFor, Writes, SaysPage}

in_range : (r : Record) (c : Changing) → IsRecord r → changed_by r.says ≡ Some c → IsInRange c
in_range r c range e = subst (λ (x : Option Changing). IfSome x IsInRange) e (record_in r range)

pub page_lies : (r : Record) (c : PageChange) → IsRecord r → changed_by r.says ≡ Some (Page c) → IsTrue (after_fits c.operation (length c.after))
page_lies r c range e = in_range r (Page c) range e

pub bytes_lie : (r : Record) (c : BandBytes) → IsRecord r → changed_by r.says ≡ Some (SegWrite c) → c.at + length c.after ≤ BAND_SIZE
bytes_lie r c range e = in_range r (SegWrite c) range e

pub op_lies : (r : Record) (c : BandOp) → IsRecord r → changed_by r.says ≡ Some (SegOp c) → (c.at + c.count ≤ BAND_SIZE) × (c.position + c.count ≤ 16384000)
op_lies r c range e = in_range r (SegOp c) range e

pub page_says : (r : Record) (c : PageChange) (op : Op) → changed_by r.says ≡ Some (Page c) → op ≡ op_said c → SaysPage r c.page op
page_says r c op e is = record { c = c; says = e; page = refl; op_is = sym is }

pub bytes_asked : (own given : Table) (o : Origin) (v : View) (log : Tail) (ds ps : List Numbered) (pool : Pool) (r : Record) (c : BandBytes) → IsAsked own given o v log ds ps pool r → changed_by r.says ≡ Some (SegWrite c) → IsWrite own o v log ds ps pool r c.band c.at c.after
bytes_asked own given o v log ds ps pool r c a e = record { phys = a.phys; by = a.by; says = subst (λ (x : Option Changing). Writes own x c.band c.at c.after) (sym e) (refl, refl, refl); registered = a.registered }

-- the range operation is the same one by both tables
same_range : (own given : Table) (code : ℕ) → IsLawful own → IsLawful given → (code ≢ 1 → given ≡ own) → range_at given code ≡ range_at own code
same_range own given code mine other means = ⊎_elim
    (λ fill. ap (range_at given) fill ∙ (other.has_fill ∙ (sym mine.has_fill ∙ ap (range_at own) (sym fill))))
    (λ more. ap (λ (t : Table). range_at t code) (means more))
    (cases_eq code 1)

pub op_asked : (own given : Table) (o : Origin) (v : View) (log : Tail) (ds ps : List Numbered) (pool : Pool) (r : Record) (c : BandOp) (bytes : List ℕ) → IsAsked own given o v log ds ps pool r → changed_by r.says ≡ Some (SegOp c) → IsLawful given
    → bytes ≡ rendered (range_at given c.code) c.arg c.position c.count → IsWrite own o v log ds ps pool r c.band c.at bytes
op_asked own given o v log ds ps pool r c bytes a e lawful is =
    let means : c.code ≢ 1 → given ≡ own = subst (IsFor own given _) e a.fits in
    record {
      phys = a.phys;
      by = a.by;
      says = subst (λ (x : Option Changing). Writes own x c.band c.at bytes) (sym e)
          (refl, refl, ap (λ x. rendered x c.arg c.position c.count) (sym (same_range own given c.code a.lawful lawful means)) ∙ sym is);
      registered = a.registered;
    }
