-- What stands there stays where its pages and bands do, and what it owns is taken.
use Rattle.std.proofs.Common.{◌≡◌, ℕ, Option, None, refl, sym, ap, ◌∙◌, inl}
use Rattle.sg_space.specs.Owned.{Becomes}
use Rattle.sg_space.specs.Units.{Units, HasAt}
use Rattle.sg_space.specs.View.{Space}
use Rattle.sg_space.proofs.Owners.{grown, grows_same}
use Rattle.sg_array.proofs.Growth.{owns_there}
use Rattle.sg_array.proofs.Sides.{array_stays}
use Rattle.sg_hash.proofs.Owning as table
use Rattle.sg_hash.proofs.Sides.{table_stays}
use Rattle.sg_catalog.specs.declared.row.ObjectKind.{ObjectKind}
use Rattle.sg_catalog.specs.declared.row.ObjectKind.TheVariants as kinds
pub use Rattle.sg_blob.proofs.Sides.{blob_stays}
pub use Rattle.sg_catalog.proofs.Sides.{catalog_stays}
use Rattle.sg_contents.specs.Standing.{Body, IsBody, OwnsPage, OwnsBand}
use Rattle.sg_contents.specs.Standing.Body.{AnArray, ATable, ABlob}

-- a change that owns nothing
pub nothing_owned : {A : Type 0} {old new : Units A} → new ≡ old → Becomes old new (λ _. ⊥) (λ _. ⊥) 0 0
nothing_owned e = grown (grows_same e)

pub not_there : {A : Type 0} {at : ℕ → Option A} {n m : ℕ} {P : A → Type 0} → at m ≡ None → HasAt at n P → n ≡ m → ⊥
not_there {at = at} none h same = let e = sym h.is ∙ (ap at same ∙ none) in (cc)

pub body_stays : (old new : Space) (kind : ObjectKind) (root : ℕ) (b : Body) → IsBody old kind root b → ((p : ℕ) → OwnsPage root b p → new.pages.at p ≡ old.pages.at p) → ((n : ℕ) → OwnsBand b n → new.bands.at n ≡ old.bands.at n) → IsBody new kind root b
body_stays old new kinds.Array root (AnArray a) h pages bands = array_stays h pages
body_stays old new kinds.Table root (ATable t) h pages bands = record { table = table_stays h.table pages; no_empty_key = h.no_empty_key }
body_stays old new kinds.Blob root (ABlob b) h pages bands = blob_stays old new h (pages root refl) bands
body_stays old new kinds.Array root (ATable t) h pages bands = h
body_stays old new kinds.Array root (ABlob b) h pages bands = h
body_stays old new kinds.Table root (AnArray a) h pages bands = h
body_stays old new kinds.Table root (ABlob b) h pages bands = h
body_stays old new kinds.Blob root (AnArray a) h pages bands = h
body_stays old new kinds.Blob root (ATable t) h pages bands = h

pub page_there : (space : Space) (kind : ObjectKind) (root : ℕ) (b : Body) → IsBody space kind root b → (p : ℕ) → OwnsPage root b p → space.pages.at p ≡ None → ⊥
page_there space kinds.Array root (AnArray a) h p o none = owns_there h.built p o none
page_there space kinds.Table root (ATable t) h p o none = table.owns_there (h.table).built p o none
page_there space kinds.Blob root (ABlob b) h p o none = not_there none (h.raw).first (sym o)
page_there space kinds.Array root (ATable t) h p o none = h
page_there space kinds.Array root (ABlob b) h p o none = h
page_there space kinds.Table root (AnArray a) h p o none = h
page_there space kinds.Table root (ABlob b) h p o none = h
page_there space kinds.Blob root (AnArray a) h p o none = h
page_there space kinds.Blob root (ATable t) h p o none = h

pub band_there : (space : Space) (kind : ObjectKind) (root : ℕ) (b : Body) → IsBody space kind root b → (n : ℕ) → OwnsBand b n → space.bands.at n ≡ None → ⊥
band_there space kinds.Blob root (ABlob b) h n (j, e) none = not_there none ((h.raw).part j n e) refl
band_there space kinds.Array root (ABlob b) h n o none = h
band_there space kinds.Table root (ABlob b) h n o none = h
band_there space kind root (AnArray a) h n o none = o
band_there space kind root (ATable t) h n o none = o

-- the root is one of its pages
pub root_owned : (root : ℕ) (b : Body) → OwnsPage root b root
root_owned root (AnArray a) = inl refl
root_owned root (ATable t) = inl refl
root_owned root (ABlob b) = refl
