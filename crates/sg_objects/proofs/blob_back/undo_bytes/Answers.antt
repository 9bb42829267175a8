use Rattle.std.proofs.Common.{◌∙◌, sym}
use Rattle.sg_model.specs.declared.reason.Reason.TheVariants.{NoObject, WrongKind}
use Rattle.sg_blob.proofs.Parts.{still_raw}
use Rattle.sg_blob.proofs.Turned.{after_reads}
use Rattle.sg_objects.proofs.Blobbed.{blob_there}
use Rattle.sg_objects.proofs.PuttingBack.{back_catalog, bytes_not_missing, missing_none, missing_other, found_blob, was_laid, back_raw, can_restore, raw_back, undo_bytes_done}
use Rattle.sg_objects.proofs.blob_back.undo_bytes.Goals as goal

pub find-requires : goal.find-requires
find-requires g c = λ told. let can = c.requires.can told in (can.contents.catalog, back_catalog can.reads can.put_back, tt)

pub broken-requires : goal.broken-requires
broken-requires g c = λ told.
    let back = c.find.ensures.counts.told told in
    let can = c.requires.can back in
    let read = c.in_ok-sought.ensures.read (g.met.P.PageSpace.told_shows _ back) can.contents.catalog (back_catalog can.reads can.put_back) in
    bytes_not_missing _ c.args.size c.args.name can.found NoObject can.th can.reads (missing_none can.contents c.args.name (sym c.in_default.is ∙ read)) can.possible

pub broken-requires-in-Array : goal.broken-requires-in-Array
broken-requires-in-Array g c = λ told.
    let back = c.find.ensures.counts.told told in
    let can = c.requires.can back in
    let read = c.in_ok-sought.ensures.read (g.met.P.PageSpace.told_shows _ back) can.contents.catalog (back_catalog can.reads can.put_back) in
    bytes_not_missing _ c.args.size c.args.name can.found WrongKind can.th can.reads (missing_other can.contents c.args.name c.in-Some.found (sym c.in-Some.is ∙ read) (λ same. let e = sym c.in-Array.is ∙ same in cc)) can.possible

pub broken-requires-in-Table : goal.broken-requires-in-Table
broken-requires-in-Table g c = λ told.
    let back = c.find.ensures.counts.told told in
    let can = c.requires.can back in
    let read = c.in_ok-sought.ensures.read (g.met.P.PageSpace.told_shows _ back) can.contents.catalog (back_catalog can.reads can.put_back) in
    bytes_not_missing _ c.args.size c.args.name can.found WrongKind can.th can.reads (missing_other can.contents c.args.name c.in-Some.found (sym c.in-Some.is ∙ read) (λ same. let e = sym c.in-Table.is ∙ same in cc)) can.possible

pub restore_len-requires-clause-can : goal.restore_len-requires-clause-can
restore_len-requires-clause-can g c = λ told.
    let back = c.find.ensures.counts.told told in
    let can = c.requires.can back in
    let shows = g.met.P.PageSpace.told_shows _ back in
    let read = c.in_ok-sought.ensures.read shows can.contents.catalog (back_catalog can.reads can.put_back) in
    let f = found_blob can.contents c.args.name c.in-Some.found (sym c.in-Some.is ∙ read) c.in-Blob.is in
    let b = blob_there can.reads f in
    let w = was_laid _ c.args.size can.found can.th f b.1 can.possible in
    (raw_back c.args.size can.found can.th b.2 can.put_back w, still_raw c.in_ok-sought.ensures.kept shows (back_raw c.args.size can.found can.th b.2 can.put_back w), can_restore c.args.size can.found can.th b.2 can.put_back w)

pub returns-in_ok-restore_len-in-Blob-clause-did : goal.returns-in_ok-restore_len-in-Blob-clause-did
returns-in_ok-restore_len-in-Blob-clause-did g c =
    let k = c.in_ok-sought.ensures.kept in
    let restored = c.in_ok-restore_len-in-Blob.ensures.did in
    record {
      told = λ told. let mid = k.keeps.told told in (restored.did.keeps mid).told mid;
      done = λ told was s h found put th e.
          let shows = g.met.P.PageSpace.told_shows _ told in
          let mid = k.keeps.told told in
          let read = c.in_ok-sought.ensures.read shows s.catalog (back_catalog h put) in
          let f = found_blob s c.args.name c.in-Some.found (sym c.in-Some.is ∙ read) c.in-Blob.is in
          let b = blob_there h f in
          let w = was_laid _ c.args.size found th f b.1 e in
          let raw = still_raw k shows (back_raw c.args.size found th b.2 put w) in
          let can = can_restore c.args.size found th b.2 put w in
          (_, undo_bytes_done c.args.size c.args.name found th h f b.1 b.2 put w (after_reads k shows (restored.did.turns mid _ raw can)) (restored.blob mid _ raw can));
    }

pub returns-in_default-clause-later : goal.returns-in_default-clause-later
returns-in_default-clause-later g c = g.met.P.PageSpace.later_then _ _ _ _ (c.find.ensures.later _) (c.broken.ensures.later _)

pub returns-in-Array-clause-later : goal.returns-in-Array-clause-later
returns-in-Array-clause-later g c = g.met.P.PageSpace.later_then _ _ _ _ (c.find.ensures.later _) (c.broken-in-Array.ensures.later _)

pub returns-in-Table-clause-later : goal.returns-in-Table-clause-later
returns-in-Table-clause-later g c = g.met.P.PageSpace.later_then _ _ _ _ (c.find.ensures.later _) (c.broken-in-Table.ensures.later _)

pub returns-in_err-restore_len-in-Blob-clause-later : goal.returns-in_err-restore_len-in-Blob-clause-later
returns-in_err-restore_len-in-Blob-clause-later g c = g.met.P.PageSpace.later_then _ _ _ _ (c.find.ensures.later _) c.restore_len.ensures.later

pub returns-in_ok-restore_len-in-Blob-clause-later : goal.returns-in_ok-restore_len-in-Blob-clause-later
returns-in_ok-restore_len-in-Blob-clause-later g c = g.met.P.PageSpace.later_then _ _ _ _ (c.find.ensures.later _) c.restore_len.ensures.later
