use Rattle.std.proofs.Common.{◌<◌, ℕ, length, sym, subst}
use Rattle.sg_hash.specs.Table.{numbers_of}
use Rattle.sg_hash.specs.Steps.{IsFirstOf}
use Rattle.sg_hash.proofs.Changing.{home_there}
use Rattle.sg_hash.proofs.Trunks.{home_index}
use Rattle.sg_hash.proofs.walk.bucket_of.Goals as goal

pub bucket_at-requires : goal.bucket_at-requires
bucket_at-requires g c = λ told.
    let h = c.requires told in
    let there = home_there h.1 c.args.key.now in
    let is = home_index c.args.found h.0 c.args.key.now _ _ h.2 c.bucket_of-index.ensures.value c.fnv_1a.ensures in
    (numbers_of h.0, h.0, h.1.built.trunk, subst (λ (k : ℕ). k < length h.0.buckets) (sym is) there)

pub returns-clause-read : goal.returns-clause-read
returns-clause-read g c = λ shows t h same.
    let there = home_there h c.args.key.now in
    let is = home_index c.args.found t c.args.key.now _ _ same c.bucket_of-index.ensures.value c.fnv_1a.ensures in
    let below = subst (λ (k : ℕ). k < length t.buckets) (sym is) there in
    subst (λ (k : ℕ). IsFirstOf t k c.in_ok-first.first.0) is (c.in_ok-first.ensures.read shows _ t h.built.trunk below)
