-- What a page in memory says is within its bytes.
use Rattle.std.proofs.Common.{◌≡◌, ℕ, ◌≤◌, Option, Some, None, Bool, true, false, subst, slice_get}
use Rattle.sg_base.specs.Page.{bytes_of}
use Rattle.sg_base.specs.Sheet.{Sheet}
use Rattle.sg_slotted.proofs.Room.{bytes_fit}
use Rattle.sg_space.specs.Flagged.{shown}
use Rattle.sg_space.specs.Memory.{sheet_in, space_of}
use Rattle.sg_space.specs.declared.memory.MemSpace.{MemSpace}
use Rattle.sg_space.specs.declared.stock.MemPage.{MemPage}

same : (x y : Sheet) → Some x ≡ Some y → x ≡ y
same x y h = cc

shown_fits : (taken : Option Bool) (x : Option MemPage) (sheet : Sheet) → shown sheet_in taken x ≡ Some sheet → bytes_of sheet.slots ≤ 4072
shown_fits None x sheet e = absurd (cc)
shown_fits (Some false) x sheet e = absurd (cc)
shown_fits (Some true) None sheet e = absurd (cc)
shown_fits (Some true) (Some page) sheet e = subst (λ (s : Sheet). bytes_of s.slots ≤ 4072) (same (sheet_in page) sheet e) (bytes_fit page.bytes.items page.slotted)

pub memory_fits : (s : MemSpace) (p : ℕ) (sheet : Sheet) → (space_of s).pages.at p ≡ Some sheet → bytes_of sheet.slots ≤ 4072
memory_fits s p sheet e = shown_fits (slice_get s.maps.pages p) (slice_get s.pages.items p) sheet e
