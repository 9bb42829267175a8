-- What the steps want and do that remove entries at an address.
use Rattle.std.specs.Prelude.{◌≡◌, ℕ, ◌+◌, ◌<◌, ◌⊎◌, [], slice_get, Some}
use Rattle.sg_base.specs.Slots.{Slots}
use Rattle.sg_linear.specs.declared.address.Address.{Address}
use Rattle.sg_bucket.specs.Bucket.{Bucket, HasEntry, part_at}
use Rattle.sg_bucket.specs.Division.{those_not_at}
use Rattle.sg_bucket.specs.Part.{entries_in}
use Rattle.sg_bucket.specs.Steps.{with_part, without}

-- the page is one of the chain's, and this is the page before, if there is one
pub record IsBehind (before page : ℕ) (b : Bucket) : Type 0 where
  pub index : ℕ
  pub page_is : slice_get b.pages index ≡ Some page
  pub before_is : (i : ℕ) → index ≡ i + 1 → slice_get b.pages i ≡ Some before

-- the page has the entries that aren't at the address
pub record IsStripped (there : Address) (page : ℕ) (b b' : Bucket) : Type 0 where
  pub index : ℕ
  pub page_is : slice_get b.pages index ≡ Some page
  pub slots : Slots
  pub is : b' ≡ with_part index slots b
  pub left : entries_in slots ≡ those_not_at there (entries_in (part_at b.parts index))

-- the same of a page that stays: it's the first or has an entry
pub record IsPageLeft (there : Address) (page : ℕ) (b b' : Bucket) : Type 0 where
  pub stripped : IsStripped there page b b'
  pub entry : 0 < stripped.index → HasEntry stripped.slots

-- all entries of the page were at the address, and it's cut from the chain
pub record IsPageCut (there : Address) (page : ℕ) (b b' : Bucket) : Type 0 where
  pub index : ℕ
  pub behind : 0 < index
  pub page_is : slice_get b.pages index ≡ Some page
  pub is : b' ≡ without index b
  pub none_left : those_not_at there (entries_in (part_at b.parts index)) ≡ []

-- the one or the other, and the page behind which the next one stands now
abbrev pub IsPagePruned : Address → ℕ → ℕ → ℕ → Bucket → Bucket → Type 0
IsPagePruned there before page end b b' = (IsPageLeft there page b b' × (end ≡ page)) ⊎ (IsPageCut there page b b' × (end ≡ before))
