use Rattle.std.proofs.Common.{◌∙◌}
use Rattle.sg_base.specs.declared.area.Area.TheVariants.{Home}
use Rattle.sg_pool.proofs.Writing.{place_moments, placed, logs_same, finish_moments, finish_done}
use Rattle.sg_pool.proofs.home.write_page.Goals as goal

pub returns-in-Err-clause-any_moment : goal.returns-in-Err-clause-any_moment
returns-in-Err-clause-any_moment g c told ready =
    place_moments c.args.page.now c.requires.size c.args.pages c.args.n (g.D.Disk.view c.args.disk.now) ready (g.D.Disk.view c.place.new.disk) c.place.result (c.place.ensures.does told)

pub returns-in-Ok-finish-clause-any_moment : goal.returns-in-Ok-finish-clause-any_moment
returns-in-Ok-finish-clause-any_moment g c told ready =
    let v = g.D.Disk.view c.args.disk.now in
    let m = g.D.Disk.view c.place.new.disk in
    let is = (c.in-Ok.ensures.does told).ok in
    let long = c.requires.size in
    finish_moments c.args.page.now long c.args.pages c.args.n v ready m is (g.D.Disk.view c.finish.new.disk)
    (place_moments c.args.page.now long c.args.pages c.args.n v ready m c.place.result (c.place.ensures.does told))
    (c.finish.ensures.any_moment told (placed c.args.page.now long c.args.pages c.args.n v ready m is))

pub returns-in-Err-finish-clause-any_moment : goal.returns-in-Err-finish-clause-any_moment
returns-in-Err-finish-clause-any_moment g c told ready =
    let v = g.D.Disk.view c.args.disk.now in
    let m = g.D.Disk.view c.place.new.disk in
    let is = (c.in-Ok.ensures.does told).ok in
    let long = c.requires.size in
    finish_moments c.args.page.now long c.args.pages c.args.n v ready m is (g.D.Disk.view c.finish.new.disk)
    (place_moments c.args.page.now long c.args.pages c.args.n v ready m c.place.result (c.place.ensures.does told))
    (c.finish.ensures.any_moment told (placed c.args.page.now long c.args.pages c.args.n v ready m is))

pub returns-in-Ok-finish-clause-done : goal.returns-in-Ok-finish-clause-done
returns-in-Ok-finish-clause-done g c told ready =
    let v = g.D.Disk.view c.args.disk.now in
    let m = g.D.Disk.view c.place.new.disk in
    let is = (c.in-Ok.ensures.does told).ok in
    let long = c.requires.size in
    finish_done c.args.page.now long c.args.pages c.args.n v ready m is ((g.D.Disk.view c.finish.new.disk).now Home)
    (c.in-Ok-finish.ensures.done told)

pub returns-in-Ok-finish-clause-logs : goal.returns-in-Ok-finish-clause-logs
returns-in-Ok-finish-clause-logs g c told ready b other =
    let v = g.D.Disk.view c.args.disk.now in
    let m = g.D.Disk.view c.place.new.disk in
    let is = (c.in-Ok.ensures.does told).ok in
    let long = c.requires.size in
    c.in-Ok-finish.ensures.logs told b other ∙ logs_same c.args.page.now long c.args.pages c.args.n v ready m is b other
