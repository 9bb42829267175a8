-- Places in buckets, and the links from each to the one before it in its bucket.
use Rattle.std.specs.Prelude.{◌≡◌, ℕ, ◌<◌, ◌≤◌, ◌==◌, List, length, map, take, Option, None, slice_index_or}
use Rattle.sg_locks.specs.declared.chains.Link.{Link}
use Rattle.sg_locks.specs.Places.{last_place}

abbrev pub buckets_of : List Link → List ℕ
buckets_of links = map (λ l. l.bucket) links

-- the last place in a bucket
abbrev pub last_in : ℕ → List ℕ → Option ℕ
last_in bucket places = last_place (λ b. b == bucket) places

-- each bucket has its last place, and each place the one before it in its bucket; there is room for 4,096 places
pub record AreLinked (last : List (Option ℕ)) (capacity : ℕ) (links : List Link) : Type 0 where
  pub buckets : length last ≡ 4096
  pub room : 4096 ≤ capacity
  pub few : length links ≤ 4096
  pub ends : (b : ℕ) → b < 4096 → slice_index_or last b None ≡ last_in b (buckets_of links)
  pub below : (i : ℕ) (d : Link) → i < length links → (slice_index_or links i d).bucket < 4096
  pub earlier : (i : ℕ) (d : Link) → i < length links → (slice_index_or links i d).earlier ≡ last_in (slice_index_or links i d).bucket (take i (buckets_of links))
