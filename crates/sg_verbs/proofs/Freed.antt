-- What was dropped is freed, as the store asks.
use Rattle.std.proofs.Common.{◌≡◌, ℕ, ◌-◌, ◌≤◌, Bool, true, false, List, Option, Some, refl, sym, ◌∙◌, subst, arith}
use Rattle.sg_base.specs.declared.numbers.TxnId.{TxnId}
use Rattle.sg_ops.specs.Table.{Table}
use Rattle.sg_record.specs.Changes.{Change as Changing}
use Rattle.sg_contents.specs.Standing.{Contents, IsContents}
use Rattle.sg_contents.specs.Meaning.{reading, page_total, IsCounted}
use Rattle.sg_space.specs.View.{Space}
use Rattle.sg_objects.specs.Freed.{FreedOne}
use Rattle.sg_store.specs.Engine.{Sizes, View, Action, Changed}
use Rattle.sg_store.specs.Verbs.{FreesNext}
use Rattle.sg_ground.specs.Clauses.{Shows}
use Rattle.sg_ground.proofs.Clauses.{contents_read, freed_so, nothing_buried}
use Rattle.sg_ground.specs.Recovers.{Recovering}
use Rattle.sg_shown.specs.Shown.{basis, basis_at}

-- how much a reading says is taken
pub pages_are : (s : Contents) → (reading s).pages ≡ page_total s
unfolding reading
pages_are s = refl

-- contents stand behind it
pub freed_there : (by : Option TxnId) {old new : Space} {s s' : Contents} (was : Bool) → FreedOne by old new s s' was → IsCounted old s → IsContents new s' × IsCounted new s'
freed_there by true d counted = (d.contents, d.counted counted)
freed_there by {old} {new} {s} {s'} false d counted = (d.contents, subst (λ (x : Space). IsCounted x s') (sym d.room) (subst (λ (x : Contents). IsCounted old x) (sym d.same) counted))

module _ (recovers : Recovering) (t : Table) (z : Sizes) (v w : View (basis recovers z)) (old new : Space) (shows' : Shows (basis_at recovers z) t w new) (s s' : Contents) (h : IsContents old s) (counted : IsCounted old s) (count : old.pages.count ≡ z.pages)
    (act : Action (basis recovers z)) (e : v.action ≡ Some act) (by : Option TxnId) (made : List (Rattle.sg_recovery.specs.Log.Numbered Changing (List ℕ))) (c : Changed t (basis recovers z) act v w made) where
  pub frees_next : (was : Bool) → FreedOne by old new s s' was → (was ≡ false → w.log ≡ v.log) → (was ≡ false → new ≡ old → (w.free_pages ≡ v.free_pages) × (w.free_bands ≡ v.free_bands)) → FreesNext t (basis recovers z) act by v w (reading s) made was
  frees_next true d same free =
      let k = freed_so (basis_at recovers z) t w old new s s' by d.row h shows' d.contents d.found d.forgets in
      let counted' = d.counted counted in
      let p = pages_are s in
      let p' = pages_are s' in
      let q = counted.pages in
      let q' = counted'.pages in
      let n = shows'.pages in
      let more = d.took in
      record {
        changed = c;
        place = Rattle.sg_reading.specs.Left.tomb_cell d.row.name d.row.root.0;
        dropper = k.dropper;
        was = k.was;
        of = k.of;
        now = reading s';
        reads = contents_read (basis_at recovers z) t w new s' shows' d.contents counted';
        freed = k.freed;
        stock = k.stock;
        took = (let y : z.pages - (reading s).pages ≤ z.pages - (reading s').pages = omega (arith, p, p', q, q', n, more, count) in y);
        fewer = (let f = k.fewer in omega (arith, f));
        left = k.left;
      }
  frees_next false d same free =
      let f = free refl d.room in (
        record { goes_on = c.goes_on; log = same refl; action = c.action ∙ sym e; pages = f.0; bands = f.1 },
        nothing_buried (basis_at recovers z) s by d.none,
      )
