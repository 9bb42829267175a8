use Rattle.std.proofs.Common.{◌≡◌, false, true, sym, ap, ◌∙◌}
use Rattle.sg_record.specs.Shown.{shown_op}
use Rattle.sg_record.specs.Changes.Change.{SegOp}
use Rattle.sg_actions.specs.Changes.{meaning}
use Rattle.sg_actions.specs.Taken.{is_set, is_there}
use Rattle.sg_actions.proofs.Flags.{get_set, and_left}
use Rattle.sg_actions.proofs.Untaken.{untaken_band_none, fills_own}
use Rattle.sg_actions.proofs.settling.untake_band.Goals as goal

no : false ≡ true → ⊥
no e = cc

pub returns-then-not-is_band_there-clause-bands : goal.returns-then-not-is_band_there-clause-bands
returns-then-not-is_band_there-clause-bands c = untaken_band_none c.args.maps.now.bands c.args.unfreed.now.bands (meaning (SegOp (shown_op c.args.c.now))) c.requires
    (λ n f there. no (c.if-not-is_band_there.ensures ∙ (ap (is_there c.args.maps.now.bands c.args.unfreed.now.bands) (sym (fills_own (shown_op c.args.c.now) n f)) ∙ there)))

pub free_band-requires : goal.free_band-requires
free_band-requires c = get_set c.args.maps.now.bands c.args.c.now.band.0 (and_left (is_set c.args.maps.now.bands c.args.c.now.band.0) (is_set c.args.unfreed.now.bands c.args.c.now.band.0) (sym c.if-not-is_band_there.ensures))
