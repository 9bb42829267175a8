-- What was read of pages and bands that are known.
use Rattle.std.proofs.Common.{◌≡◌, ℕ, List, Option, Some, ◌⊎◌, inl, inr, sym, subst, ◌∙◌}
use Rattle.sg_base.specs.Page.{cell_in}
use Rattle.sg_base.specs.Sheet.{Sheet}
use Rattle.sg_space.specs.Reads.{HasCell}
use Rattle.sg_space.specs.Units.{HasAt}
use Rattle.sg_space.specs.View.{Space, View, Keeps, WritesIn, OnlyReads}

pub same_some : {A : Type 0} (x y : A) → Some x ≡ Some y → x ≡ y
same_some x y h = cc

-- two accounts of one page, or of one band
pub both : {A : Type 0} {at : ℕ → Option A} {n : ℕ} {P Q : A → Type 0} (h : HasAt at n P) → HasAt at n Q → Q h.what
both {A} {at} {n} {P} {Q} h k = subst Q (same_some k.what h.what (sym k.is ∙ h.is)) k.has

-- one that hasn't changed
pub moved : {A : Type 0} {old new : ℕ → Option A} {n : ℕ} {P : A → Type 0} → new n ≡ old n → HasAt old n P → HasAt new n P
moved e h = record { what = h.what; is = e ∙ h.is; has = h.has }

-- the cell that was read of a page is the one that is known to be there
pub read_is : {pages : ℕ → Option Sheet} {p kind slot : ℕ} {bytes : List ℕ} {P : Sheet → Type 0} (h : HasAt pages p P) → HasAt pages p (HasCell kind slot bytes) → cell_in (h.what).slots slot ≡ Some bytes
read_is h r = (both h r).is

-- what holds of a space before calls that only read holds after them, and the other way round
pub still : {v w : View} (P : Space → Type 0) → OnlyReads v w → v.Shows → P v.space → P w.space
still P k shows h = subst P (sym (k.same shows)) h

pub before : {v w : View} (P : Space → Type 0) → OnlyReads v w → v.Shows → P w.space → P v.space
before P k shows h = subst P (k.same shows) h

pub keeps_same : {v : View} → Keeps v v
keeps_same = record { told = λ t. t; may_take = λ h. h; may_have = λ p n h. h }

pub keeps_then : {u v w : View} → Keeps u v → Keeps v w → Keeps u w
keeps_then f g = record {
  told = λ t. g.told (f.told t);
  may_take = λ h. g.may_take (f.may_take h);
  may_have = λ p n h. g.may_have p n (f.may_have p n h);
}

-- reads one after another
pub reads_then : {u v w : View} → OnlyReads u v → OnlyReads v w → OnlyReads u w
reads_then f g = record { keeps = keeps_then f.keeps g.keeps; shows = λ t. g.shows (f.shows t); same = λ t. g.same (f.shows t) ∙ f.same t; wrote = λ b h. f.wrote b (g.wrote b h); still = λ s. g.still (f.still s) }

-- writes one after another
pub writes_then : {own : ℕ → Type 0} {u v w : View} → WritesIn own u v → WritesIn own v w → WritesIn own u w
writes_then {own} {u} {v} {w} f g = record { wrote = λ b h. side b (g.wrote b h) }
  where
    side : (b : ℕ) → v.HasWritten b ⊎ own b → u.HasWritten b ⊎ own b
    side b (inl h) = f.wrote b h
    side b (inr own) = inr own

-- calls that write nothing
pub writes_none : {own : ℕ → Type 0} {v w : View} → ((b : ℕ) → w.HasWritten b → v.HasWritten b) → WritesIn own v w
writes_none f = record { wrote = λ b h. inl (f b h) }

-- and those that write in fewer bands
pub writes_less : {own more : ℕ → Type 0} {v w : View} → ((b : ℕ) → own b → more b) → WritesIn own v w → WritesIn more v w
writes_less {own} {more} {v} {w} less f = record { wrote = λ b h. side b (f.wrote b h) }
  where
    side : (b : ℕ) → v.HasWritten b ⊎ own b → v.HasWritten b ⊎ more b
    side b (inl h) = inl h
    side b (inr own) = inr (less b own)
