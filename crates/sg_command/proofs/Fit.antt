-- The sizes that a text says are fit.
use Rattle.std.proofs.Common.{◌≡◌, ℕ, Bool, true, false, IsTrue, if◌then◌else◌, List, Option, Some, None, option_and_then, codes, refl, subst}
use Rattle.toml.specs.Data.{Members}
use Rattle.toml.specs.Parse.{parse_document}
use Rattle.sg_geometry.specs.declared.geometry.Geometry.{Geometry}
use Rattle.sg_geometry.specs.Fit.{is_fit}
use Rattle.sg_command.specs.Sizes.{Says, number_at, are_sizes, sizes_in, fitting}

-- what holds of each result of a step holds of that of two
behind : {A B : Type 0} (P : B → Type 0) (f : A → Option B) → ((a : A) (b : B) → f a ≡ Some b → P b) → (o : Option A) (b : B) → option_and_then f o ≡ Some b → P b
behind P f each None b is = absurd (let bad : None ≡ Some b = is in cc)
behind P f each (Some a) b is = each a b is

abbrev IsFit : Geometry → Type 0
IsFit g = IsTrue (is_fit g)

fitting_fit : (h g : Geometry) → fitting h ≡ Some g → IsFit g
fitting_fit h g is = by_fit (is_fit h) refl is
  where
    by_fit : (b : Bool) → is_fit h ≡ b → (if b then Some h else None) ≡ Some g → IsFit g
    by_fit true fits some = let same : h ≡ g = cc in subst IsFit same fits
    by_fit false fits some = absurd (let bad : None ≡ Some g = some in cc)

module _ (members : Members) where
  -- the sizes, as one number behind another is found
  abbrev by_windows : (pages bands frames : ℕ) → ℕ → Option Geometry
  by_windows pages bands frames windows = fitting (record { pages = pages; bands = bands; frames = frames; windows = windows })

  abbrev by_frames : (pages bands : ℕ) → ℕ → Option Geometry
  by_frames pages bands frames = option_and_then (by_windows pages bands frames) (number_at (codes "windows") 32 members)

  abbrev by_bands : (pages : ℕ) → ℕ → Option Geometry
  by_bands pages bands = option_and_then (by_frames pages bands) (number_at (codes "frames") 256 members)

  abbrev by_pages : ℕ → Option Geometry
  by_pages pages = option_and_then (by_bands pages) (number_at (codes "bands") 1024 members)

  windows_fit : (pages bands frames windows : ℕ) (g : Geometry) → by_windows pages bands frames windows ≡ Some g → IsFit g
  windows_fit pages bands frames windows g is = fitting_fit (record { pages = pages; bands = bands; frames = frames; windows = windows }) g is

  frames_fit : (pages bands frames : ℕ) (g : Geometry) → by_frames pages bands frames ≡ Some g → IsFit g
  frames_fit pages bands frames g is = behind IsFit (by_windows pages bands frames) (windows_fit pages bands frames) (number_at (codes "windows") 32 members) g is

  bands_fit : (pages bands : ℕ) (g : Geometry) → by_bands pages bands ≡ Some g → IsFit g
  bands_fit pages bands g is = behind IsFit (by_frames pages bands) (frames_fit pages bands) (number_at (codes "frames") 256 members) g is

  pages_fit : (pages : ℕ) (g : Geometry) → by_pages pages ≡ Some g → IsFit g
  pages_fit pages g is = behind IsFit (by_bands pages) (bands_fit pages) (number_at (codes "bands") 1024 members) g is

  in_table : (g : Geometry) → sizes_in members ≡ Some g → IsFit g
  in_table g is = by_keys (are_sizes members) is
    where
      by_keys : (b : Bool) → (if b then option_and_then by_pages (number_at (codes "pages") 16384 members) else None) ≡ Some g → IsFit g
      by_keys false some = absurd (let bad : None ≡ Some g = some in cc)
      by_keys true some = behind IsFit by_pages pages_fit (number_at (codes "pages") 16384 members) g some

pub said_is_fit : (text : List ℕ) (g : Geometry) → Says text g → IsTrue (is_fit g)
said_is_fit text g says = behind IsFit sizes_in in_table (parse_document text) g says.sizes
