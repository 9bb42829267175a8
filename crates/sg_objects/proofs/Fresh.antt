-- What an action that has only begun may open.
use Rattle.std.proofs.Common.{◌≡◌, ℕ, ◌≤◌, List, refl, sym, ap, ◌∙◌, subst}
use Rattle.sg_base.specs.Sheet.{Sheet}
use Rattle.sg_array.specs.Array.{Array, IsArray, per_page}
use Rattle.sg_array.specs.Calls.{IsRoomy}
use Rattle.sg_catalog.specs.Catalog as listing
use Rattle.sg_catalog.specs.declared.row.ObjectKind.{ObjectKind}
use Rattle.sg_catalog.specs.declared.row.ObjectKind.TheVariants as kinds
use Rattle.sg_hash.specs.Calls.{MayGrow}
use Rattle.sg_hash.specs.Table.{HashTable, IsHashTable}
use Rattle.sg_blob.specs.Blob.{Blob, IsBlob}
use Rattle.sg_space.specs.Units.{HasAt}
use Rattle.sg_space.specs.View.{View, Space, OnlyReads, MayFill}
use Rattle.sg_contents.specs.Limits.{limit, ArrayLimits, BodyLimits}
use Rattle.sg_contents.specs.Standing.{Body, Contents, IsContents}
use Rattle.sg_contents.specs.Standing.Body.{AnArray, ATable, ABlob}
use Rattle.sg_contents.proofs.Limited.{body_limits, catalog_limits}
use Rattle.sg_objects.specs.Done.{IsFresh}
use Rattle.sg_objects.specs.Found.{IsAt}
use Rattle.sg_objects.proofs.Located.{at_among}

-- the same after reads
pub still_fresh : {v w : View} → OnlyReads v w → v.Shows → IsFresh v → IsFresh w
still_fresh {v} {w} k shows f =
    let same = k.same shows in
    record {
      may_take = k.keeps.may_take f.may_take;
      may_fill = λ s h page slots few there. k.keeps.may_have page slots (f.may_fill s (subst (λ (x : Space). IsContents x s) same h) page slots
          (subst (λ (x : Space). slots ≤ limit s x.pages.at page) same few) (λ none. there (ap (λ (x : Space). x.pages.at page) same ∙ none)));
    }

-- a page that says something may have as many slots as its limit
fills : {v : View} {s : Contents} {P : Sheet → Type 0} (most p : ℕ) → IsFresh v → IsContents v.space s → limit s v.space.pages.at p ≡ most → HasAt v.space.pages.at p P → MayFill v p most
fills {s = s} most p fresh h is x = λ n le. fresh.may_fill s h p n (subst (λ (m : ℕ). n ≤ m) (sym is) le) (λ none. (let e = sym x.is ∙ none in cc))

-- the limits of the body under a name
pub limits_at : {space : Space} {kind : ObjectKind} {s : Contents} {name : List ℕ} {root : ℕ} {b : Body} → IsContents space s → (f : IsAt kind s name root) → s.body root ≡ b → BodyLimits (limit s space.pages.at) root b
limits_at {space} {kind} {s} {name} {root} h f is =
    subst (λ (b : Body). BodyLimits (limit s space.pages.at) root b) is
    (subst (λ (r : ℕ). BodyLimits (limit s space.pages.at) r (s.body r)) f.root_is
    (body_limits h f.row (at_among f) (f.row).kind (s.body (f.row).root.0) refl (h.body f.row (at_among f))))

-- AN ARRAY'S PAGES
roomy_by : {v : View} {s : Contents} {root : ℕ} {a : Array} → IsFresh v → IsContents v.space s → ArrayLimits (limit s v.space.pages.at) root a → IsArray v.space.pages.at root a → IsRoomy v root a
roomy_by {root = root} {a = a} fresh h l arr =
    let names = (arr.built).names in
    record {
      first = fills 139 root fresh h l.first names.first;
      index = λ j p e. fills 509 p fresh h (l.index p (j, e)) (names.index j p e);
      leaf = λ d p e. fills (per_page a.size) p fresh h (l.leaf p (d, e)) ((arr.built).leaf d p e);
    }

pub fresh_roomy : {v : View} {s : Contents} {name : List ℕ} {root : ℕ} {a : Array} → IsFresh v → IsContents v.space s → IsAt kinds.Array s name root → s.body root ≡ AnArray a → IsArray v.space.pages.at root a → IsRoomy v root a
fresh_roomy fresh h f is arr = roomy_by fresh h (limits_at h f is) arr

-- A TABLE'S
pub fresh_grow : {v : View} {s : Contents} {name : List ℕ} {root : ℕ} {a : HashTable} → IsFresh v → IsContents v.space s → IsAt kinds.Table s name root → s.body root ≡ ATable a → IsHashTable v.space.pages.at root a → MayGrow v a
fresh_grow fresh h f is table =
    let l = limits_at h f is in
    record {
      names = roomy_by fresh h l.names ((table.built).trunk).names;
      buckets = λ p o. fills 1018 p fresh h (l.buckets p o) ((((table.built).bucket o.index o.bucket o.is).linked).part o.owns.0 p o.owns.1);
    }

-- A BLOB'S ROOT
pub fresh_blob : {v : View} {s : Contents} {name : List ℕ} {root : ℕ} {b : Blob} → IsFresh v → IsContents v.space s → IsAt kinds.Blob s name root → s.body root ≡ ABlob b → IsBlob v.space.pages.at v.space.bands.at root b → MayFill v root 501
fresh_blob {root = root} fresh h f is blob = fills 501 root fresh h (limits_at h f is) (blob.raw).first

-- THE CATALOGUE'S
pub fresh_catalog : {v : View} {s : Contents} → IsFresh v → IsContents v.space s → (p : ℕ) → listing.Owns s.catalog p → MayFill v p 79
fresh_catalog fresh h p owned = fills 79 p fresh h (catalog_limits h p owned) (((h.catalog).raw).page owned.0 p owned.1)
