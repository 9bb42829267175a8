use Rattle.std.proofs.Common.{ℕ, Option, length, refl, sym, ◌∙◌, ap, arith, subst}
use Rattle.sg_base.specs.declared.area.Area.TheVariants.{Home}
use Rattle.sg_gate.specs.Layout.{home_at}
use Rattle.sg_pool.specs.Held.{bytes_of}
use Rattle.sg_pool.specs.Units.{page_at}
use Rattle.sg_pool.specs.Well.{IsWell}
use Rattle.std.proofs.lemmas.Result.{err_from_is_err_and}
use Rattle.sg_pool.proofs.Welling.{well_of}
use Rattle.sg_pool.proofs.Slots.{frame_some}
use Rattle.sg_pool.proofs.pool.Pool.page.Goals as goal

pub page-requires : goal.page-requires
page-requires g c =
    let s = c.hold.new.self.shelf in
    let there = frame_some c.args.p.0 s.slots.items c.in_ok-f.f c.in_ok-f.ensures.held in
    let lt = there.0 in let many = s.shelf.many in
    s.shelf.here.pages c.in_ok-f.f (omega (arith, lt, many))

pub returns : goal.returns
returns g c =
    let s = c.hold.new.self.shelf in
    let there = frame_some c.args.p.0 s.slots.items c.in_ok-f.f c.in_ok-f.ensures.held in
    let lt = there.0 in let many = s.shelf.many in (
      (
        refl,
        λ x. tt,
        record {
          size = c.hold.ensures.size;
          brought = (c.in_ok-f.f, record { held = c.in_ok-f.ensures.held; used = c.in_ok-f.ensures.used; victim = c.in_ok-f.ensures.victim; others = c.in_ok-f.ensures.others });
          unused = tt;
          emptied = tt;
          windows = c.hold.ensures.windows;
          backed = c.in_ok-f.ensures.backed;
          same = c.in_ok-f.ensures.same;
          untouched = c.in_ok-f.ensures.untouched;
        },
      ),
      record {
        ends = tt;
        is_page = subst IsWell (sym c.page.ensures) (well_of _ (s.shelf.well c.in_ok-f.f c.args.p.0 there.0 there.1));
        size = ap length c.page.ensures ∙ s.shelf.here.pages c.in_ok-f.f (omega (arith, lt, many));
        bytes = λ told apart backed. c.page.ensures
            ∙ (sym (ap (λ (o : Option ℕ). bytes_of s.frames.pages o (page_at ((g.D.Disk.view c.hold.new.disk).now Home).seen (home_at c.args.p.0))) c.in_ok-f.ensures.held) ∙ (c.in_ok-f.ensures.same told apart backed).page c.args.p.0 c.requires.page);
        log_kept = c.hold.ensures.log_kept;
        log = c.in_ok-f.ensures.log;
        moments = c.hold.ensures.moments;
        well = c.in_ok-f.ensures.well;
        faults = tt;
        later = c.hold.ensures.later;
        heeded = c.in_ok-f.ensures.heeded;
        kept = c.hold.ensures.kept;
        grown = c.hold.ensures.grown;
        hit = c.hold.ensures.hit;
        spared = c.hold.ensures.spared;
        durable = c.hold.ensures.durable;
      },
    )

pub returns-in_err-f : goal.returns-in_err-f
returns-in_err-f g c =
    let failed = c.in_err-f.ensures in
    let p = err_from_is_err_and c.from_residual.result c.from_residual.ensures.1 in
    rw (p.1, p.2) (
      (
        refl,
        λ x. tt,
        record { size = c.hold.ensures.size; brought = tt; unused = failed.unused; emptied = failed.emptied; windows = c.hold.ensures.windows; backed = failed.backed; same = failed.same; untouched = failed.untouched },
      ),
      record {
        ends = tt;
        is_page = tt;
        size = tt;
        bytes = λ told apart backed. tt;
        log_kept = c.hold.ensures.log_kept;
        log = failed.log;
        moments = c.hold.ensures.moments;
        well = failed.well;
        faults = failed.faults;
        later = c.hold.ensures.later;
        heeded = failed.heeded;
        kept = c.hold.ensures.kept;
        grown = c.hold.ensures.grown;
        hit = c.hold.ensures.hit;
        spared = c.hold.ensures.spared;
        durable = c.hold.ensures.durable;
      },
    )
