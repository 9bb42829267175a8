-- What a log of records makes of the pages and bands of a home area: each record as one page and one byte has it, and history repeated.
use Rattle.std.specs.Prelude.{◌≡◌, ◌⊎◌, ◌<◌, ◌≤◌, ◌==◌, ℕ, if◌then◌else◌, List, [], ◌∷◌, ◌++◌, Option}
use Rattle.sg_base.specs.Page.{lsn_of}
use Rattle.sg_redo.specs.History.{OnPage, OnByte, number_of, redone, repeated, rewritten, AllSetNumber, AllFit}
use Rattle.sg_redo.specs.Window.{OnWindow, on_byte}
use Rattle.sg_pool.specs.Units.{Geometry, EachPage, EachByte}
use Rattle.sg_pool.specs.Well.{IsWell}
use Rattle.sg_engine.specs.Numbers.{onward, Rises}

-- what a record does to the home area: it changes a page, by an operation that may not fit; or writes bytes to a band, whatever stood there; or
-- does nothing
pub data Effect : Type 0 where
  ChangesPage : (page : ℕ) → (makes : List ℕ → Option (List ℕ)) → Effect
  ChangesBand : (band at : ℕ) → (bytes : List ℕ) → Effect
  ChangesNothing : Effect

-- a record of the log as the home area has it
pub record Entry : Type 0 where
  pub lsn : ℕ
  pub effect : Effect

abbrev pub entry_number : Entry → ℕ
entry_number e = e.lsn

abbrev pub byte_number : OnByte → ℕ
byte_number w = w.lsn

abbrev pub window_number : OnWindow → ℕ
window_number w = w.lsn

-- an effect as page n has it, and as band b has it: none where it is on another
abbrev pub page_change : (n lsn : ℕ) → Effect → List OnPage
page_change n lsn (ChangesPage m makes) = if m == n then (record { lsn = lsn; makes = makes } ∷ []) else []
page_change n lsn (ChangesBand c at bytes) = []
page_change n lsn ChangesNothing = []

abbrev pub band_change : (b lsn : ℕ) → Effect → List OnWindow
band_change b lsn (ChangesPage m makes) = []
band_change b lsn (ChangesBand c at bytes) = if c == b then (record { lsn = lsn; at = at; bytes = bytes } ∷ []) else []
band_change b lsn ChangesNothing = []

-- and as byte i of the band has it
abbrev pub byte_change : (b i lsn : ℕ) → Effect → List OnByte
byte_change b i lsn e = on_byte i (band_change b lsn e)

-- THE RECORDS OF ONE PAGE, of one band and of one byte of it, in their order
abbrev pub of_page : ℕ → List Entry → List OnPage
of_page n [] = []
of_page n (e ∷ es) = page_change n e.lsn e.effect ++ of_page n es

abbrev pub of_band : ℕ → List Entry → List OnWindow
of_band b [] = []
of_band b (e ∷ es) = band_change b e.lsn e.effect ++ of_band b es

abbrev pub of_byte : ℕ → ℕ → List Entry → List OnByte
of_byte b i [] = []
of_byte b i (e ∷ es) = byte_change b i e.lsn e.effect ++ of_byte b i es

-- the pages and the bytes of bands of a home area
pub record Homes : Type 0 where
  pub page : ℕ → List ℕ
  pub byte : ℕ → ℕ → ℕ

-- WHAT RECORDS MAKE of a home area
abbrev pub made : List Entry → Homes → Homes
made es h = record { page = λ n. repeated (of_page n es) (h.page n); byte = λ b i. rewritten (of_byte b i es) (h.byte b i) }

-- HISTORY REPEATED from a number on
abbrev pub repeated_from : ℕ → List Entry → Homes → Homes
repeated_from r es h = record { page = λ n. repeated (onward number_of r (of_page n es)) (h.page n); byte = λ b i. rewritten (onward byte_number r (of_byte b i es)) (h.byte b i) }

-- two home areas of a store are the same
pub record AreSame (g : Geometry) (h k : Homes) : Type 0 where
  pub pages : EachPage g (λ n. h.page n ≡ k.page n)
  pub bytes : EachByte g (λ b i. h.byte b i ≡ k.byte b i)

-- IT REPEATS TO what all these records make of a first home area
abbrev pub RepeatsTo : Geometry → (r : ℕ) → List Entry → (first h : Homes) → Type 0
RepeatsTo g r es first h = AreSame g (repeated_from r es h) (made es first)

-- the page's number is 0, or below there
abbrev pub IsNumbered : ℕ → List ℕ → Type 0
IsNumbered d page = (lsn_of page ≡ 0) ⊎ (lsn_of page < d)

-- each record below this number is in the page, by the page's number
abbrev pub IsIn : ℕ → List OnPage → List ℕ → Type 0
IsIn e [] page = Unit {0}
IsIn e (r ∷ rs) page = (r.lsn < e → r.lsn ≤ lsn_of page) × IsIn e rs page

-- some record from this number on covers the byte
abbrev pub IsCoveredFrom : ℕ → List OnByte → Type 0
IsCoveredFrom e [] = ⊥
IsCoveredFrom e (w ∷ ws) = (e ≤ w.lsn) ⊎ IsCoveredFrom e ws

-- SOUND: a home area is sound for the records of its log, with their redo point and the log's tail
pub record IsSound (g : Geometry) (r tail : ℕ) (es : List Entry) (h : Homes) : Type 0 where
  pub is_in : EachPage g (λ n. IsIn r (of_page n es) (h.page n))
  pub well : EachPage g (λ n. IsWell (h.page n))
  pub within : EachPage g (λ n. IsNumbered tail (h.page n))
  pub fits : EachPage g (λ n. AllFit (onward number_of r (of_page n es)) (h.page n))
  pub last : EachByte g (λ b i. (IsCoveredFrom r (of_byte b i es) → ⊥) → rewritten (of_byte b i es) (h.byte b i) ≡ h.byte b i)

-- the page is a page of slots or zeros, and so it is after each of these records
abbrev pub AllWell : List OnPage → List ℕ → Type 0
AllWell [] page = IsWell page
AllWell (r ∷ rs) page = IsWell page × AllWell rs (redone r page)

-- a record is of a page or a band of the store, or of neither
abbrev pub IsThere : Geometry → Effect → Type 0
IsThere g (ChangesPage n makes) = n < g.pages
IsThere g (ChangesBand b at bytes) = b < g.bands
IsThere g ChangesNothing = Unit {0}

abbrev pub AllThere : Geometry → List Entry → Type 0
AllThere g [] = Unit {0}
AllThere g (e ∷ es) = IsThere g e.effect × AllThere g es

-- A HISTORY: records over a first home area, whose numbers rise. Each is of a page or a band of the store, sets its number, fits its page, and
-- leaves it a page
pub record IsHistory (g : Geometry) (first : Homes) (es : List Entry) : Type 0 where
  pub rises : Rises entry_number 1 es
  pub sets : EachPage g (λ n. AllSetNumber (of_page n es))
  pub fits : EachPage g (λ n. AllFit (of_page n es) (first.page n))
  pub well : EachPage g (λ n. AllWell (of_page n es) (first.page n))
  pub there : AllThere g es

-- THE NEXT RECORD may be appended: its number is above the others, and its change fits its page and leaves it a page
pub record Appends (g : Geometry) (first : Homes) (es : List Entry) (e : Entry) : Type 0 where
  pub rises : Rises entry_number 1 (es ++ e ∷ [])
  pub sets : EachPage g (λ n. AllSetNumber (page_change n e.lsn e.effect))
  pub fits : EachPage g (λ n. AllFit (page_change n e.lsn e.effect) ((made es first).page n))
  pub well : EachPage g (λ n. AllWell (page_change n e.lsn e.effect) ((made es first).page n))
  pub there : IsThere g e.effect
