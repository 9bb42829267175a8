use Rattle.std.proofs.Common.{arith}
use Rattle.sg_hash.proofs.Trunks.{still_trunk, names_long, name_read, trunk_names}
use Rattle.sg_hash.proofs.walk.bucket_at.Goals as goal

pub get-requires : goal.get-requires
get-requires g c = λ told.
    let back = c.directory_of.ensures.counts.told told in
    let shows = g.met.P.PageSpace.told_shows _ back in
    let h = c.requires back in
    let is = c.in_ok-directory.ensures.read shows h.0 h.1 h.2 in
    let trunk = still_trunk c.in_ok-directory.ensures.kept shows h.2 in
    let long = names_long h.2 in
    let below = h.3 in
    let size = h.2.size in
    (h.1.names, trunk_names trunk is, (omega arith, omega arith))

pub returns-clause-read : goal.returns-clause-read
returns-clause-read g c = λ shows n t h below.
    let kept = c.in_ok-directory.ensures.kept in
    let is = c.in_ok-directory.ensures.read shows n t h in
    let trunk = still_trunk kept shows h in
    let read = c.in_ok-get.ensures.read (kept.shows shows) t.names (trunk_names trunk is) in
    name_read c.args.i _ c.get.new.into h below (omega arith) read c.read_u32.ensures.value

pub returns-clause-later : goal.returns-clause-later
returns-clause-later g c = λ t. g.met.P.PageSpace.later_then t _ _ _ (c.directory_of.ensures.later t) (c.get.ensures.later t)

pub returns-in_err-get-clause-later : goal.returns-in_err-get-clause-later
returns-in_err-get-clause-later g c = λ t. g.met.P.PageSpace.later_then t _ _ _ (c.directory_of.ensures.later t) (c.get.ensures.later t)
