-- A change by a record that says it.
use Rattle.std.proofs.Common.{◌≡◌, ◌<◌, ◌≤◌, ◌+◌, ℕ, IsTrue, Option, Some, IfSome, List, ◌++◌, length, refl, sym, ◌∙◌, ap, subst, arith}
use Rattle.std.specs.Prelude.{None, IsSomeAnd}
use Rattle.sg_base.specs.Op.{Op}
use Rattle.sg_base.specs.declared.page.TheConstants.{BAND_SIZE}
use Rattle.sg_disk.specs.Disk.{View}
use Rattle.sg_record.specs.Changes.{Change, PageChange, BandBytes, BandOp}
use Rattle.sg_record.specs.Changes.Change.{Page, SegWrite, SegOp}
use Rattle.sg_record.specs.Ranges.{IsRecord, after_fits}
use Rattle.sg_record.specs.Records.{Record}
use Rattle.sg_log.specs.Frames.{Numbered}
use Rattle.sg_log.specs.Held.{Tail, place_of, numbered}
use Rattle.sg_log.proofs.Holding.{end_near}
use Rattle.sg_ops.specs.Table.{Table, range_at, rendered}
use Rattle.sg_redo.specs.Page.{made}
use Rattle.sg_redo.specs.Places.{op_said, changed_by, IsInRange}
use Rattle.sg_redo.proofs.InRange.{record_in}
use Rattle.sg_pool.specs.declared.pool.Pool.{Pool}
use Rattle.sg_pool.specs.Pooled.{sizes, contents}
use Rattle.sg_pool.specs.Units.{Geometry}
use Rattle.sg_pool.specs.Well.{IsWell}
use Rattle.sg_engine.specs.Effects.{IsBy, effect_of, FitsPage}
use Rattle.sg_engine.specs.Engine.{Origin}
use Rattle.sg_engine.specs.Running.{IsEngine, DoesToPage, DoesToBand}
use Rattle.sg_engine.proofs.May.{page_may, band_may}

-- the change that a record makes is in its range
in_range : (r : Record) (c : Change) → IsRecord r → changed_by r.says ≡ Some c → IsInRange c
in_range r c range is = subst (λ (o : Option Change). IfSome o IsInRange) is (record_in r range)

pub fits_said : (r : Record) (c : PageChange) → IsRecord r → changed_by r.says ≡ Some (Page c) → IsTrue (after_fits c.operation (length c.after))
fits_said r c range is = in_range r (Page c) range is

pub lies_said : (r : Record) (c : BandBytes) → IsRecord r → changed_by r.says ≡ Some (SegWrite c) → c.at + length c.after ≤ BAND_SIZE
lies_said r c range is = in_range r (SegWrite c) range is

pub op_lies : (r : Record) (c : BandOp) → IsRecord r → changed_by r.says ≡ Some (SegOp c) → (c.at + c.count ≤ BAND_SIZE) × (c.position + c.count ≤ 16384000)
op_lies r c range is = in_range r (SegOp c) range is

-- what a change that fits makes of its page
new_page : (o : Option (List ℕ)) → IsSomeAnd o IsWell → (new : List ℕ) × (o ≡ Some new) × IsWell new
new_page None fits = absurd fits
new_page (Some new) fits = (new, refl, fits)

-- IT MAY COME, and does to its page or band what it says
module _ (o : Origin) (v : View) (log : Tail) (ds ps : List Numbered) (pool : Pool) (t : Table) (r : Record) (e : IsEngine o v log ds ps pool) (is : IsBy t o) where
  pub says_page : (c : PageChange) (op : Op) → IsRecord r → changed_by r.says ≡ Some (Page c) → op ≡ op_said c → c.page < (sizes pool).pages → FitsPage t (place_of log r) c ((contents v pool).page c.page) → DoesToPage o t (ds ++ ps) (numbered log r) c.page op
  says_page c op range says same lt fits =
      let new = new_page (made t (place_of log r) (op_said c) ((contents v pool).page c.page)) fits in
      subst (λ (q : Op). DoesToPage o t (ds ++ ps) (numbered log r) c.page q) (sym same)
      (page_may o v log ds ps pool r e t c.page (op_said c) new.0 (let near = end_near log r range in let within = e.engine.held.within in omega arith) (is.says (place_of log r) r ∙ ap (effect_of t (place_of log r)) says) lt new.1 new.2)

  there : (b : ℕ) → b < (sizes pool).bands → b < o.super.bands
  there b lt = subst (λ (g : Geometry). b < g.bands) e.sizes lt

  pub says_write : (c : BandBytes) → changed_by r.says ≡ Some (SegWrite c) → c.band < (sizes pool).bands → DoesToBand o (ds ++ ps) (numbered log r) c.band c.at c.after
  says_write c says lt = band_may o v log ds ps pool r e c.band c.at c.after (there c.band lt) (is.says (place_of log r) r ∙ ap (effect_of t (place_of log r)) says)

  pub says_op : (c : BandOp) (bytes : List ℕ) → changed_by r.says ≡ Some (SegOp c) → c.band < (sizes pool).bands → bytes ≡ rendered (range_at t c.code) c.arg c.position c.count → DoesToBand o (ds ++ ps) (numbered log r) c.band c.at bytes
  says_op c bytes says lt text =
      subst (λ (xs : List ℕ). DoesToBand o (ds ++ ps) (numbered log r) c.band c.at xs) (sym text)
      (band_may o v log ds ps pool r e c.band c.at (rendered (range_at t c.code) c.arg c.position c.count) (there c.band lt) (is.says (place_of log r) r ∙ ap (effect_of t (place_of log r)) says))
