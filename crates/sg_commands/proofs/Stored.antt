-- An image that stands for objects has the log of a store, as a listing reads it.
use mathlib.Core.Logic.{∥∥₁_elim, ∥∥₁_prop}
use Rattle.sg_disk.specs.Disk as disk
use Rattle.sg_ops.specs.Table.{Table as Operations}
use Rattle.sg_model.specs.Objects.{Objects}
use Rattle.sg_inspect.specs.Logs.{HasLog}
use Rattle.sg_phys_laws.specs.Recovers.{origin_of, records_in, super_in}
use Rattle.sg_attach.proofs.Undamaged.{is_page_log, log_of, none_outside}
use Rattle.sg_commands.specs.Images.{StandsFor, reads_of}
use Rattle.sg_commands.specs.Stores.{grounds, says}

pub has_log : (t : Operations) (v : disk.View) (m : Objects) → StandsFor grounds says t (reads_of v) m → ∥ HasLog v.now ∥₁
has_log t v m h =
    let c : disk.Image = reads_of v in
    let r = h.recovers.image in
    ∥∥₁_elim r.holds.sound ∥∥₁_prop (λ s. ∥∥₁_elim (log_of t c h.log h.pages r) ∥∥₁_prop (λ formed. ∣ record {
      super = super_in c;
      gate = s.tail;
      log = record {
        records = records_in (origin_of t c) c;
        says = s.super;
        has = s.held;
        formed = is_page_log t c s formed;
        inside = none_outside t c s formed;
      };
    } ∣₁))
