-- WHAT PAGES REACH doesn't depend on the bytes of bands.
use Rattle.std.proofs.Common.{◌≡◌, ℕ, Bool, true, inl, inr, List, slice_get, Option, Some, None, refl, sym, ◌∙◌, subst}
use Rattle.sg_base.specs.Sheet.{Sheet}
use Rattle.sg_action.specs.States.{State}
use Rattle.sg_array.specs.Array.{Array, IsArray}
use Rattle.sg_array.specs.Array as array
use Rattle.sg_blob.specs.Blob.{Blob, IsBlob}
use Rattle.sg_catalog.specs.Catalog.{Catalog, IsCatalog, rows}
use Rattle.sg_catalog.specs.Catalog as listing
use Rattle.sg_catalog.specs.declared.row.ObjectKind.{ObjectKind}
use Rattle.sg_catalog.specs.declared.row.ObjectKind.TheVariants as kinds
use Rattle.sg_catalog.specs.declared.row.Row.{Row}
use Rattle.sg_contents.specs.Standing.{Body, Contents, IsBody, OwnsPage, OwnsBand, IsAmong, IsContents, IsReachedPage, IsReachedBand}
use Rattle.sg_contents.specs.Standing.Body.{AnArray, ATable, ABlob}
use Rattle.sg_hash.specs.Table.{HashTable, IsHashTable}
use Rattle.sg_hash.specs.Table as table
use Rattle.sg_once.proofs.Arrays.{one_array}
use Rattle.sg_once.proofs.Others.{one_catalog}
use Rattle.sg_once.proofs.Pages.{both_at, same_link}
use Rattle.sg_reader.proofs.Once.{one_table}
use Rattle.sg_reader.proofs.Spaces.{contents_move, reached_page, reached_band}
use Rattle.sg_reader.specs.Alike.{space_of, IsPartOf}
use Rattle.sg_space.specs.View.{Space}
use Rattle.sg_store.specs.Engine.{Sizes}
use Rattle.sg_shown.specs.Taken.{AreTaken, with_bytes}

-- two bodies at a root have the same pages and bands
record OwnsSame (root : ℕ) (a b : Body) : Type 0 where
  page : (p : ℕ) → OwnsPage root b p → OwnsPage root a p
  band : (n : ℕ) → OwnsBand b n → OwnsBand a n

-- the root page of a blob names its bands
bands_same : (at : ℕ → Option Sheet) (bytes bytes' : ℕ → Option (List ℕ)) (root : ℕ) (a b : Blob) → IsBlob at bytes root a → IsBlob at bytes' root b
    → (j : ℕ) → slice_get b.bands j ≡ slice_get a.bands j
bands_same at bytes bytes' root a b h k j =
    let both = both_at h.raw.first k.raw.first in
    sym (same_link (slice_get a.bands j) (slice_get b.bands j) (λ n e. h.raw.fit j n e) (λ n e. k.raw.fit j n e) (sym (both.1.links j) ∙ both.2.links j))

body_same : (old new : Space) → new.pages.at ≡ old.pages.at → (kind : ObjectKind) (root : ℕ) (a b : Body) → IsBody old kind root a → IsBody new kind root b
    → OwnsSame root a b
body_same old new e kinds.Array root (AnArray a) (AnArray b) h k =
    let same : a ≡ b = one_array h (subst (λ (at : ℕ → Option Sheet). IsArray at root b) e k) in
    record { page = λ p o. subst (λ (x : Array). array.Owns root x p) (sym same) o; band = λ n o. o }
body_same old new e kinds.Table root (ATable a) (ATable b) h k =
    let same : a ≡ b = one_table h.table (subst (λ (at : ℕ → Option Sheet). IsHashTable at root b) e k.table) in
    record { page = λ p o. subst (λ (x : HashTable). table.Owns root x p) (sym same) o; band = λ n o. o }
body_same old new e kinds.Blob root (ABlob a) (ABlob b) h k =
    let k' : IsBlob old.pages.at new.bands.at root b = subst (λ (at : ℕ → Option Sheet). IsBlob at new.bands.at root b) e k in
    record { page = λ p o. o; band = λ n o. (o.0, sym (bands_same old.pages.at old.bands.at new.bands.at root a b h k' o.0) ∙ o.1) }
body_same old new e kinds.Array root (AnArray a) (ATable b) h k = absurd k
body_same old new e kinds.Array root (AnArray a) (ABlob b) h k = absurd k
body_same old new e kinds.Table root (ATable a) (AnArray b) h k = absurd k
body_same old new e kinds.Table root (ATable a) (ABlob b) h k = absurd k
body_same old new e kinds.Blob root (ABlob a) (AnArray b) h k = absurd k
body_same old new e kinds.Blob root (ABlob a) (ATable b) h k = absurd k
body_same old new e kinds.Array root (ATable a) b h k = absurd h
body_same old new e kinds.Array root (ABlob a) b h k = absurd h
body_same old new e kinds.Table root (AnArray a) b h k = absurd h
body_same old new e kinds.Table root (ABlob a) b h k = absurd h
body_same old new e kinds.Blob root (AnArray a) b h k = absurd h
body_same old new e kinds.Blob root (ATable a) b h k = absurd h

-- TWO CONTENTS in spaces with the same pages reach the same
module _ (old new : Space) (e : new.pages.at ≡ old.pages.at) (s r : Contents) (h : IsContents old s) (k : IsContents new r) where
  catalogs : s.catalog ≡ r.catalog
  catalogs = one_catalog h.catalog (subst (λ (at : ℕ → Option Sheet). IsCatalog at r.catalog) e k.catalog)

  among_same : (row : Row) → IsAmong (rows r.catalog) row → IsAmong (rows s.catalog) row
  among_same row a = subst (λ (c : Catalog). IsAmong (rows c) row) (sym catalogs) a

  bodies_same : (row : Row) → IsAmong (rows r.catalog) row → OwnsSame row.root.0 (s.body row.root.0) (r.body row.root.0)
  bodies_same row a = body_same old new e row.kind row.root.0 (s.body row.root.0) (r.body row.root.0) (h.body row (among_same row a)) (k.body row a)

  pub page_same : (p : ℕ) → IsReachedPage r p → IsReachedPage s p
  page_same p (inl o) = inl (subst (λ (c : Catalog). listing.Owns c p) (sym catalogs) o)
  page_same p (inr o) = inr (record { row = o.row; among = among_same o.row o.among; is = (bodies_same o.row o.among).page p o.is })

  pub band_same : (b : ℕ) → IsReachedBand r b → IsReachedBand s b
  band_same b o = record { row = o.row; among = among_same o.row o.among; is = (bodies_same o.row o.among).band b o.is }

-- SO WHAT IS REACHED IS TAKEN where contents stand in a space that says what the state does: for who ends a verb, and for who opens
pub taken_in : (z : Sizes) (space : Space) (x : State) (s : Contents) (has has_band : ℕ → Bool) → IsContents space s → IsPartOf space x
    → ((p : ℕ) → (space.pages.at p ≡ None → ⊥) → has p ≡ true) → ((b : ℕ) → (space.bands.at b ≡ None → ⊥) → has_band b ≡ true)
    → AreTaken z has has_band x.pages
taken_in z space x s has has_band h part pages bands =
    let stated : Space = space_of space.pages.count space.bands.count x in
    let stands : IsContents stated s = contents_move space stated s h refl (λ p o. part.pages p (reached_page space s h p o)) (λ b o. part.bands b (reached_band space s h b o))
    (λ b less none. absurd (let w : ◌≡◌ {A = Option (List ℕ)} (Some (x.bands b)) None = none in cc)) in
    record {
      pages = λ size bytes r q p o. pages p (reached_page space s h p (page_same stated (space_of z.pages z.bands (with_bytes size x.pages bytes)) refl s r stands q.contents p o));
      bands = λ size bytes r q b o. bands b (reached_band space s h b (band_same stated (space_of z.pages z.bands (with_bytes size x.pages bytes)) refl s r stands q.contents b o));
    }
