use Rattle.std.proofs.Common.{◌≡◌, sym, subst}
use Rattle.sg_bands.specs.Parts.{blob_at}
use Rattle.sg_catalog.specs.declared.row.ObjectKind.{ObjectKind}
use Rattle.sg_reach.specs.Parts.{array_at}
use Rattle.sg_reach.proofs.Setting.{sets_none}
use Rattle.sg_contents.specs.Standing.{IsBody}
use Rattle.sg_contents.specs.Standing.Body.{AnArray, ATable, ABlob}
use Rattle.sg_walk.proofs.body.reach_body.Goals as goal

pub returns-in_ok-reach_array-in-Array-clause-reached : goal.returns-in_ok-reach_array-in-Array-clause-reached
returns-in_ok-reach_array-in-Array-clause-reached g c = λ shows.
    let r = c.in_ok-reach_array-in-Array.ensures.reached shows in
    record {
      body = AnArray (array_at (g.P.PageSpace.view c.args.space.now).space.pages.at c.args.root.0);
      is = subst (λ (k : ObjectKind). IsBody (g.P.PageSpace.view c.args.space.now).space k c.args.root.0 (AnArray (array_at (g.P.PageSpace.view c.args.space.now).space.pages.at c.args.root.0))) (sym c.in-Array.is) r.is;
      set = record { pages_set = r.set; bands_set = sets_none c.args.into.now.bands c.reach_array.new.into.bands c.in_ok-reach_array-in-Array.ensures.bands };
    }

pub returns-in_ok-reach_table-in-Table-clause-reached : goal.returns-in_ok-reach_table-in-Table-clause-reached
returns-in_ok-reach_table-in-Table-clause-reached g c = λ shows.
    let r = c.in_ok-reach_table-in-Table.ensures.reached shows in
    record {
      body = ATable r.table;
      is = subst (λ (k : ObjectKind). IsBody (g.P.PageSpace.view c.args.space.now).space k c.args.root.0 (ATable r.table)) (sym c.in-Table.is) r.is;
      set = record { pages_set = r.set; bands_set = sets_none c.args.into.now.bands c.reach_table.new.into.bands c.in_ok-reach_table-in-Table.ensures.bands };
    }

pub returns-in_ok-reach_blob-in-Blob-clause-reached : goal.returns-in_ok-reach_blob-in-Blob-clause-reached
returns-in_ok-reach_blob-in-Blob-clause-reached g c = λ shows.
    let r = c.in_ok-reach_blob-in-Blob.ensures.reached shows in
    record {
      body = ABlob (blob_at (g.P.PageSpace.view c.args.space.now).space.pages.at (g.P.PageSpace.view c.args.space.now).space.bands.at c.args.root.0);
      is = subst (λ (k : ObjectKind). IsBody (g.P.PageSpace.view c.args.space.now).space k c.args.root.0 (ABlob (blob_at (g.P.PageSpace.view c.args.space.now).space.pages.at (g.P.PageSpace.view c.args.space.now).space.bands.at c.args.root.0))) (sym c.in-Blob.is) r.is;
      set = record { pages_set = r.page; bands_set = r.set };
    }
