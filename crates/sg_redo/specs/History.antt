-- One page, and one byte of a band, as records of the log change them.
use Rattle.std.specs.Prelude.{◌≡◌, ◌<◌, ◌≤◌, ◌&&◌, ℕ, suc, nat_lt, Bool, true, false, if◌then◌else◌, List, [], ◌∷◌, Option, Some, IfSome, unwrap_or, is_some}
use Rattle.sg_base.specs.Page.{lsn_of}

-- a record of the log as one page has it: its number, and what its operation makes of a page that it fits
pub record OnPage : Type 0 where
  pub lsn : ℕ
  pub makes : List ℕ → Option (List ℕ)

abbrev pub number_of : OnPage → ℕ
number_of r = r.lsn

-- a record as one byte of a band has it: the byte that it writes, whatever stood there
pub record OnByte : Type 0 where
  pub lsn : ℕ
  pub value : ℕ

-- REDO OF A PAGE: the record's operation exactly where the page's number is smaller and the operation fits
unfoldable pub redone : OnPage → List ℕ → List ℕ
redone r page = if nat_lt (lsn_of page) r.lsn then unwrap_or (r.makes page) page else page

-- history repeated: the records one after another
abbrev pub repeated : List OnPage → List ℕ → List ℕ
repeated [] page = page
repeated (r ∷ rs) page = repeated rs (redone r page)

-- the record is done to the page: its number is above the page's, and its operation fits
abbrev pub applies : OnPage → List ℕ → Bool
applies r page = nat_lt (lsn_of page) r.lsn && is_some (r.makes page)

-- the oldest change of the page that isn't on the disk, after the record: it is one, where the page had none
abbrev pub since_after : OnPage → List ℕ → Option ℕ → Option ℕ
since_after r page since = if applies r page then Some (unwrap_or since r.lsn) else since

-- and after the records one after another: the first of them that is done to the page, where it had none
abbrev pub since_repeated : List OnPage → List ℕ → Option ℕ → Option ℕ
since_repeated [] page since = since
since_repeated (r ∷ rs) page since = since_repeated rs (redone r page) (since_after r page since)

-- redo of a byte: the last record wins, whatever stood there
abbrev pub rewritten : List OnByte → ℕ → ℕ
rewritten [] x = x
rewritten (w ∷ ws) x = rewritten ws w.value

-- the records below a number
abbrev pub below : ℕ → List OnPage → List OnPage
below c [] = []
below c (r ∷ rs) = if nat_lt r.lsn c then r ∷ below c rs else below c rs

-- each has a number from there on, and above those before it
abbrev pub Rises : ℕ → List OnPage → Type 0
Rises low [] = Unit {0}
Rises low (r ∷ rs) = (low ≤ r.lsn) × Rises (suc r.lsn) rs

-- what the operation makes of a page has the record's number
pub record SetsNumber (r : OnPage) : Type 0 where
  pub sets : (page : List ℕ) → IfSome (r.makes page) (λ new. lsn_of new ≡ r.lsn)

abbrev pub AllSetNumber : List OnPage → Type 0
AllSetNumber [] = Unit {0}
AllSetNumber (r ∷ rs) = SetsNumber r × AllSetNumber rs

-- each record above the page's number fits the page when history is repeated
abbrev pub AllFit : List OnPage → List ℕ → Type 0
AllFit [] page = Unit {0}
AllFit (r ∷ rs) page = (lsn_of page < r.lsn → (new : List ℕ) × (r.makes page ≡ Some new)) × AllFit rs (redone r page)

-- some record covers the byte
abbrev pub IsCovered : List OnByte → Type 0
IsCovered [] = ⊥
IsCovered (w ∷ ws) = Unit {0}

-- the same as a test
abbrev pub is_covered : List OnByte → Bool
is_covered [] = false
is_covered (w ∷ ws) = true
