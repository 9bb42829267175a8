use Rattle.std.proofs.Common.{ℕ, [], ◌∷◌, ap, ◌∙◌, refl, ◌+◌}
use Rattle.std.proofs.lemmas.List.{length_push}
use Rattle.sg_base.specs.Sheet.{Sheet}
use Rattle.sg_ops.specs.Table.{table_of}
use Rattle.sg_space.specs.Units.{Units}
use Rattle.sg_space.proofs.Known.{moved, keeps_then, writes_none, writes_then, writes_less}
use Rattle.sg_blob.proofs.Growth.{add_turns, with_band, last_band}
use Rattle.sg_blob.proofs.Roots.{put_possible}
use Rattle.sg_space.proofs.Changing.{put_keeps}
use Rattle.sg_blob.proofs.change.add_band.Goals as goal

pub take_band-requires : goal.take_band-requires
take_band-requires g c = λ told. let can = (c.requires.there told).2 in record { some = can.free; may = can.may_take }

pub change-requires-clause-can : goal.change-requires-clause-can
change-requires-clause-can g c = λ told.
    let back = c.take_band.ensures.counts.told told in
    let h = c.requires.there back in
    let took = c.in_ok-band.ensures.did in
    put_possible _ _ c.in_ok-band.band.0 _ c.write_u32.ensures.bytes h.2.behind c.requires.below (λ n le. took.keeps.may_have _ n (h.2.may_fill n le)) (moved (ap (λ (u : Units Sheet). u.at c.args.root.0) (took.pages back)) h.1.first)

pub returns-clause-did : goal.returns-clause-did
returns-clause-did g c =
    let took = c.in_ok-band.ensures.did in
    let did = c.in_ok-change.ensures.did in
    record {
      keeps = λ t. keeps_then took.keeps (put_keeps did);
      turns = λ t r h can.
          let told = took.keeps.told t in (
            with_band c.in_ok-band.band.0 r,
            add_turns {t = table_of (λ p. (goal.RecordOp-dyn g p).record_meaning p.1) (λ p. (goal.RangeOp-dyn g p).range_meaning p.1) c.args.ops.now} _ c.write_u32.ensures.bytes can.behind c.requires.below took.small h (record { took = took.bands t; same_pages = took.pages t; put = did.pages told; same_bands = did.bands told }),
            record { same_count = refl; same_peak = refl; same_bytes = refl; long = length_push r.bands _ ∙ ap (λ (n : ℕ). n + 1) can.behind; extends = record { more = c.in_ok-band.band.0 ∷ []; is = refl } },
            writes_then (writes_less (λ n same. last_band r.bands n c.in_ok-band.band.0 same) took.writes) (writes_none did.wrote),
          );
    }

pub returns-in_err-change-clause-later : goal.returns-in_err-change-clause-later
returns-in_err-change-clause-later g c = g.met.P.PageSpace.later_then _ _ _ _ (c.take_band.ensures.later _) c.change.ensures.later

pub returns-clause-later : goal.returns-clause-later
returns-clause-later g c = g.met.P.PageSpace.later_then _ _ _ _ (c.take_band.ensures.later _) c.change.ensures.later
