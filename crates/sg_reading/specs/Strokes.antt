-- What the segment records of an action leave of a blob's bytes.
use Rattle.std.specs.Prelude.{◌≡◌, ℕ, zero, suc, ◌+◌, ◌<◌, ◌==◌, cond, List, [], ◌∷◌, ◌++◌, length, take, drop, None}
use Rattle.sg_reading.specs.Back.{Patch, laid, place_of}

-- a byte, and 0 behind the end
abbrev pub byte_at : List ℕ → ℕ → ℕ
byte_at [] i = 0
byte_at (x ∷ xs) zero = x
byte_at (x ∷ xs) (suc i) = byte_at xs i

-- the same bytes, but for zeros at the end
abbrev pub Alike : List ℕ → List ℕ → Type 0
Alike xs ys = (i : ℕ) → byte_at xs i ≡ byte_at ys i

-- A segment record came from the old bytes to the new ones: it holds those that stood where it wrote
pub record Wrote (p : Patch) (new old : List ℕ) : Type 0 where
  pub after : List ℕ
  pub long : length after ≡ length p.bytes
  pub stood : (j : ℕ) → j < length p.bytes → byte_at p.bytes j ≡ byte_at old (p.from + j)
  pub wrote : Alike new (laid (record { from = p.from; bytes = after }) old)

-- Some segment records, the last first, came from the old bytes to the new ones. One that makes a taken band 0 holds no
-- before bytes, and leaves what was read as 0
abbrev pub AllWrote : List Patch → List ℕ → List ℕ → Type 0
AllWrote [] new old = Alike new old
AllWrote (p ∷ ps) new old = (mid : List ℕ) × Wrote p new mid × AllWrote ps mid old

-- the bytes of the bands, one after another
abbrev pub contents : (ℕ → List ℕ) → List ℕ → List ℕ
contents s [] = []
contents s (b ∷ bs) = s b ++ contents s bs

-- bytes written over others from a place on
abbrev pub overwrite : ℕ → List ℕ → List ℕ → List ℕ
overwrite at new xs = take at xs ++ (new ++ drop (at + length new) xs)

-- a segment record writes on a band
abbrev pub written : (ℕ → List ℕ) → ℕ → ℕ → List ℕ → ℕ → List ℕ
written s band at new = λ n. cond (n == band) (overwrite at new (s n)) (s n)

-- no band stands twice
abbrev pub AreDistinct : List ℕ → Type 0
AreDistinct [] = Unit {0}
AreDistinct (b ∷ bs) = (place_of bs b ≡ None) × AreDistinct bs

-- each band has all its 32,768 bytes
abbrev pub AreWhole : (ℕ → List ℕ) → List ℕ → Type 0
AreWhole s [] = Unit {0}
AreWhole s (b ∷ bs) = (length (s b) ≡ 32768) × AreWhole s bs
