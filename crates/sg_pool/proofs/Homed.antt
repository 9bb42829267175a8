-- The homes once one page has gone home.
use Rattle.std.proofs.Common.{◌≡◌, ◌≢◌, ◌⊎◌, inl, inr, ⊎_elim, ◌<◌, ◌≤◌, ◌+◌, ℕ, zero, suc, List, length, get_or, sym, ◌∙◌, ap, arith}
use Rattle.std.proofs.lemmas.Bool.{cases_lt}
use Rattle.std.specs.List.{refill}
use Rattle.std.proofs.lemmas.List.{take_at}
use Rattle.sg_disk.specs.Disk.{Bytes, window}
use Rattle.sg_disk.proofs.Images.{put_outside}
use Rattle.sg_disk.proofs.Parts.{put_inside, window_is}
use Rattle.sg_gate.specs.Layout.{PAGE, home_at}
use Rattle.sg_pool.specs.Units.{Geometry, page_at, band_byte}
use Rattle.sg_pool.proofs.Homes.{page_same}
use Rattle.sg_pool.specs.Going.{with_home}

pub window_whole : (f : Bytes) (at n : ℕ) (page : List ℕ) → length page ≡ n → window f at (length page) ≡ page → window f at n ≡ page
window_whole f at n page long is = ap (window f at) (sym long) ∙ is

module _ (n : ℕ) (page : List ℕ) (long : length page ≡ PAGE) (f : Bytes) where
  pub homed_page : page_at (with_home n page f) (home_at n) ≡ page
  unfolding page_at
  homed_page = window_whole (with_home n page f) (home_at n) PAGE page long (window_is (with_home n page f) (home_at n) page (λ k lt. put_inside (home_at n) page f k 0 lt))

  pub homed_out : (i : ℕ) → (i < home_at n) ⊎ (home_at n + PAGE ≤ i) → with_home n page f i ≡ f i
  homed_out i out = put_outside (home_at n) page f i (λ low lt. ⊎_elim (λ a. absurd (omega arith)) (λ a. absurd (omega arith)) out)

  apart : (m j : ℕ) → m ≢ n → j < PAGE → (home_at m + j < home_at n) ⊎ (home_at n + PAGE ≤ home_at m + j)
  apart m j differ small = ⊎_elim
      (λ low. inl (omega arith))
      (λ high. inr (let a : n < m = omega arith in omega arith))
      (cases_lt m n)

  pub homed_other : (m : ℕ) → m ≢ n → page_at (with_home n page f) (home_at m) ≡ page_at f (home_at m)
  homed_other m differ = page_same (with_home n page f) f (home_at m) (home_at m) (λ j small. homed_out (home_at m + j) (apart m j differ small))

  pub homed_band : (g : Geometry) → n < g.pages → (b i : ℕ) → with_home n page f (band_byte g b i) ≡ f (band_byte g b i)
  homed_band g lt b i = homed_out (band_byte g b i) (inr (omega arith))

pub rewritten_whole : (old new : List ℕ) → length new ≡ length old → refill (length old) old new ≡ new
rewritten_whole old new same = take_at new _ (length old) same

-- a byte of a window of bytes
window_get : (f : Bytes) (at n i : ℕ) → i < n → get_or (window f at n) i 0 ≡ f (at + i)
window_get f at zero i lt = absurd (omega arith)
window_get f at (suc n) zero lt = let e : at ≡ at + 0 = omega arith in ap f e
window_get f at (suc n) (suc i) lt = let e : suc at + i ≡ at + suc i = omega arith in window_get f (suc at) n i (omega arith) ∙ ap f e

-- a window into which a band's home was read
pub band_read : (seen : Bytes) (at n i : ℕ) (old lent read : List ℕ) → length old ≡ n → lent ≡ old → length read ≡ length lent → read ≡ window seen at (length lent) → i < n → get_or (refill (length old) old read) i 0 ≡ seen (at + i)
band_read seen at n i old lent read size same long is lt =
    let e = ap length same in
    ap (λ (x : List ℕ). get_or x i 0) (rewritten_whole old read (long ∙ e) ∙ is) ∙ window_get seen at (length lent) i (omega (arith, e, size, lt))

-- a frame into which a page's home was read
window_sized : (seen : Bytes) (at n : ℕ) (lent read : List ℕ) → length lent ≡ n → read ≡ window seen at (length lent) → read ≡ window seen at n
window_sized seen at n lent read long is = is ∙ ap (window seen at) long

pub page_read : (seen : Bytes) (at : ℕ) (old lent read : List ℕ) → length old ≡ PAGE → lent ≡ old → length read ≡ length lent → read ≡ window seen at (length lent) → refill (length old) old read ≡ page_at seen at
unfolding page_at
page_read seen at old lent read size same long is = rewritten_whole old read (long ∙ ap length same) ∙ window_sized seen at PAGE lent read (ap length same ∙ size) is
