-- Where the home area has what. All numbers are of bytes, but for those of places, pages and bands.
use Rattle.std.specs.Prelude.{◌⊎◌, ◌<◌, ◌≤◌, ◌+◌, ◌*◌, ℕ}
use Rattle.sg_base.specs.declared.page.TheConstants.{BAND_SIZE}

-- the bytes of a page, and of a place of the double-write area
abbrev pub PAGE : ℕ
PAGE = 4096

-- the double-write header: its gate, and behind it a count and the numbers of pages. The two slots of the superblock lie
-- before it
abbrev pub HEADER : ℕ
HEADER = 8192

-- the first of the 32 places
abbrev pub PLACES : ℕ
PLACES = 12288

-- the home of page 0
abbrev pub HOMES : ℕ
HOMES = 143360

-- where a place begins
abbrev pub place_at : ℕ → ℕ
place_at k = PLACES + PAGE * k

-- where a page's home begins
abbrev pub home_at : ℕ → ℕ
home_at n = HOMES + PAGE * n

-- where a band begins: behind the homes of all pages
abbrev pub band_at : (pages band : ℕ) → ℕ
band_at pages band = home_at pages + BAND_SIZE * band

-- a byte of the store: of a superblock slot, a page's home or a band, so of all but the double-write area
abbrev pub IsStore : ℕ → Type 0
IsStore i = (i < HEADER) ⊎ (HOMES ≤ i)

-- a byte of the store or of a place
abbrev pub IsOutside : ℕ → Type 0
IsOutside i = (i < HEADER) ⊎ (PLACES ≤ i)
