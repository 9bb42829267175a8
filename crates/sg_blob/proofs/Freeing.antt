-- The bands of a blob are freed, one after another, and then its root.
use Rattle.std.proofs.Common.{◌≡◌, ℕ, ◌+◌, ◌*◌, ◌/◌, ◌<◌, ◌≤◌, List, length, Some, IsSome, sym, ap, subst, ◌∙◌, refl, arith, slice_get}
use Rattle.sg_base.specs.Sheet.{Sheet}
use Rattle.sg_space.specs.Bands.{FreedBand}
use Rattle.sg_space.specs.Owned.{Becomes, AreFreed}
use Rattle.sg_space.proofs.Freeing.{freed_none, next_stays, one_freed, all_freed}
use Rattle.sg_space.specs.Pages.{Freed}
use Rattle.sg_space.specs.Units.{Units, HasAt, IsFreed}
use Rattle.sg_space.specs.View.{Space, View, OnlyReads}
use Rattle.sg_space.proofs.Known.{moved}
use Rattle.sg_blob.proofs.Sides.{freed_becomes}
use Rattle.sg_blob.specs.Blob.{Blob, OwnsBand}
use Rattle.sg_blob.specs.Calls.{Gone}
use Rattle.sg_blob.specs.Raw.{Raw, IsRaw, IsRoot}
use Rattle.sg_blob.proofs.Parts.{StandsBlob}

-- the first bands of a list are free, and nothing else has changed
pub record BandsFreed (old new : Space) (taken : List ℕ) (count : ℕ) : Type 0 where
  pub pages : new.pages ≡ old.pages
  pub bands : AreFreed old.bands new.bands taken count

-- so many bands of the blobs that stood at a root are free
pub record FreesTo (v w : View) (root done : ℕ) : Type 0 where
  pub back : w.Told → v.Told
  pub later : v.faults ≤ w.faults
  pub told : v.Told → w.Told
  pub freed : v.Told → (b : Blob) → StandsBlob root b v.space → BandsFreed v.space w.space b.bands done
  pub may_have : v.Told → (page slots : ℕ) → v.MayHave page slots → w.MayHave page slots

-- reads before and between
pub frees_none : {v w : View} {root : ℕ} → (w.Told → v.Told) → v.faults ≤ w.faults → (v.Told → v.Shows) → OnlyReads v w → FreesTo v w root 0
frees_none back later shows k = record {
  back = back;
  later = later;
  told = k.keeps.told;
  freed = λ t b h. record { pages = ap (λ (s : Space). s.pages) (k.same (shows t)); bands = freed_none b.bands (ap (λ (s : Space). s.bands) (k.same (shows t))) };
  may_have = λ t p n h. k.keeps.may_have p n h;
}

-- what is read in between is what stood there
pub link_still : {v w : View} {root done : ℕ} {b : Blob} → FreesTo v w root done → v.Told → StandsBlob root b v.space → HasAt w.space.pages.at root (IsRoot (length b.bytes) b.peak b.bands)
link_still {root = root} {b = b} i t h = moved (ap (λ (u : Units Sheet). u.at root) (i.freed t b h).pages) h.raw.first

-- the next band is still there
pub next_some : {old new : Space} {root j n : ℕ} {r : Raw} → IsRaw old.pages.at old.bands.at root r → BandsFreed old new r.bands j → slice_get r.bands j ≡ Some n → IsSome (new.bands.at n)
next_some {j = j} {n = n} h f e = subst IsSome (sym (next_stays h.apart f.bands e ∙ (h.part j n e).is)) refl

-- one band more, after a read
pub frees_on : {u v w x : View} {root j n : ℕ} → FreesTo u v root j → (u.Told → v.Shows) → OnlyReads v w → (w.Told → v.Told) → v.faults ≤ w.faults → (x.Told → w.Told) → w.faults ≤ x.faults → FreedBand w x n → (u.Told → (b : Blob) → StandsBlob root b u.space → slice_get b.bands j ≡ Some n) → FreesTo u x root (j + 1)
frees_on {u} {v} {w} {x} {root} {j} {n} i shows k back later back' later' f is = record {
  back = λ t. i.back (back (back' t));
  later = let first = i.later in omega arith;
  told = λ t. f.told (k.keeps.told (i.told t));
  freed = λ t b h.
      let now : BandsFreed u.space w.space b.bands j = subst (λ (s : Space). BandsFreed u.space s b.bands j) (sym (k.same (shows t))) (i.freed t b h) in
      record {
        pages = f.pages (k.keeps.told (i.told t)) ∙ now.pages;
        bands = one_freed now.bands (is t b h) (f.bands (k.keeps.told (i.told t)));
      };
  may_have = λ t p m h. f.may_have p m (k.keeps.may_have p m (i.may_have t p m h));
}

pub all_gone : {v w x : View} {root done : ℕ} → FreesTo v w root done → Freed w x root → (v.Told → (b : Blob) → StandsBlob root b v.space → done ≡ length b.bands) → Gone v x root
all_gone {v} {w} {x} {root} {done} i f so = record {
  told = λ t. f.told (i.told t);
  gone = λ t b h.
      let all : BandsFreed v.space w.space b.bands (length b.bands) = subst (λ (n : ℕ). BandsFreed v.space w.space b.bands n) (so t b h) (i.freed t b h) in
      record {
        pages = freed_becomes (subst (λ (u : Units Sheet). IsFreed u x.space.pages root) all.pages (f.pages (i.told t)));
        bands = subst (λ (u : Units (List ℕ)). Becomes v.space.bands u (OwnsBand b.bands) (λ _. ⊥) (length b.bands) 0) (sym (f.bands (i.told t))) (all_freed all.bands);
      };
  may_have = λ t p n ne h. f.may_have p n ne (i.may_have t p n h);
}

-- as many bands as the peak wants are those that there are
pub so_many : (bands : List ℕ) (peak found : ℕ) → found ≡ peak → peak ≤ 32768 * length bands → 32768 * length bands < peak + 32768 → (found + 32767) / 32768 ≡ length bands
so_many bands peak found is least most = omega arith
