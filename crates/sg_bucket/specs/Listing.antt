-- What the listing of a bucket's keys tells of a page.
use Rattle.std.specs.Prelude.{◌≡◌, ℕ, List, ◌++◌, ⊤}
use Rattle.sg_base.specs.Sheet.{Sheet}
use Rattle.sg_base.specs.Slots.{Slots}
use Rattle.sg_bucket.specs.Division.{keys_of}
use Rattle.sg_bucket.specs.Part.{AreEntries, entries_in}
use Rattle.sg_bucket.specs.declared.listing.Unlisted.{Unlisted}
use Rattle.sg_bucket.specs.declared.listing.Unlisted.TheVariants as why

-- why the keys of these slots aren't listed: some cell holds no entry, or memory was refused
abbrev pub IsUnlisted : Slots → Unlisted → Type 0
IsUnlisted slots why.Broken = ¬ AreEntries slots
IsUnlisted slots why.Memory = ⊤

-- the keys of the page's entries stand behind those that there were, and this page is next
pub record ListsPage (old new : List (List ℕ)) (next : ℕ) (sheet : Sheet) : Type 0 where
  pub listed : new ≡ old ++ keys_of (entries_in sheet.slots)
  pub next_is : sheet.links.0 ≡ next
