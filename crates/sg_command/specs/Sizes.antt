-- The sizes that the text of a geometry file says.
use Rattle.std.specs.Str.{bytes_eq}
use Rattle.std.specs.Prelude.{◌≡◌, ℕ, ℤ, pos, negsuc, ◌≤◌, ◌^◌, ◌||◌, ◌&&◌, nat_lt, Bool, true, if◌then◌else◌, List, length, codes, IsUtf8, Option, Some, None, option_and_then}
use Rattle.toml.specs.Data.{Data, Members, no_members, member, as_integer, get_member}
use Rattle.toml.specs.Parse.{parse_document}
use Rattle.sg_geometry.specs.declared.geometry.Geometry.{Geometry}
use Rattle.sg_geometry.specs.Fit.{is_fit}

-- an integer that a field of four bytes holds
abbrev pub in_field : ℤ → Option ℕ
in_field (pos n) = if nat_lt n (2 ^ 32) then Some n else None
in_field (negsuc n) = None

-- the number that the value at a key is, and the default where the key isn't there
abbrev pub number_or : ℕ → Option Data → Option ℕ
number_or default None = Some default
number_or default (Some value) = option_and_then in_field (as_integer value)

abbrev pub number_at : List ℕ → ℕ → Members → Option ℕ
number_at key default members = number_or default (get_member key members)

-- whether a key is one of the four
abbrev pub is_size : List ℕ → Bool
is_size key = bytes_eq key (codes "pages") || bytes_eq key (codes "bands") || bytes_eq key (codes "frames") || bytes_eq key (codes "windows")

-- whether each key is one of the four
abbrev pub are_sizes : Members → Bool
are_sizes no_members = true
are_sizes (member key value more) = is_size key && are_sizes more

-- the sizes if they are fit
abbrev pub fitting : Geometry → Option Geometry
fitting g = if is_fit g then Some g else None

-- the sizes that a table says: each key is one of the four, and each has an integer; all are fit
abbrev pub sizes_in : Members → Option Geometry
sizes_in members =
    if are_sizes members
    then option_and_then (λ pages. option_and_then (λ bands. option_and_then (λ frames. option_and_then (λ windows.
    fitting (record { pages = pages; bands = bands; frames = frames; windows = windows }))
    (number_at (codes "windows") 32 members)) (number_at (codes "frames") 256 members))
    (number_at (codes "bands") 1024 members)) (number_at (codes "pages") 16384 members)
    else None

-- THE SIZES THAT A TEXT SAYS: it has at most 65,536 bytes, and is a document of TOML with such a table
pub record Says (text : List ℕ) (g : Geometry) : Type 0 where
  pub short : length text ≤ 65536
  pub utf8 : IsUtf8 text
  pub sizes : option_and_then sizes_in (parse_document text) ≡ Some g
