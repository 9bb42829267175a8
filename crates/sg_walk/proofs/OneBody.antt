-- AT MOST ONE BODY of a kind stands at a root.
use Rattle.std.proofs.Common.{◌≡◌, ℕ, List, slice_get, Option, Some, None, refl, sym, ap, ◌∙◌, subst}
use Rattle.byteorder.specs.Endian.{little_bytes}
use Rattle.sg_array.specs.Array.{Array, IsArray}
use Rattle.sg_base.specs.Page.{cell_in}
use Rattle.sg_base.specs.Sheet.{Sheet}
use Rattle.sg_bucket.specs.Bucket.{Bucket, IsBucket}
use Rattle.sg_catalog.specs.declared.row.ObjectKind.{ObjectKind}
use Rattle.sg_catalog.specs.declared.row.ObjectKind.TheVariants as kinds
use Rattle.sg_hash.specs.Table.{HashTable, IsHashTable, numbers_of, name_of, first_page, root_cell, root_sheet}
use Rattle.sg_hash.proofs.Roots.{same_numbers}
use Rattle.sg_space.specs.View.{Space}
use Rattle.sg_space.proofs.Links.{number_is}
use Rattle.sg_once.proofs.Pages.{same_lists}
use Rattle.sg_once.proofs.Arrays.{one_array}
use Rattle.sg_once.proofs.Others.{one_blob, one_bucket}
use Rattle.sg_contents.specs.Standing.{Body, IsBody}
use Rattle.sg_contents.specs.Standing.Body.{AnArray, ATable, ABlob}

-- A TABLE
module _ {at : ℕ → Option Sheet} {root : ℕ} {t u : HashTable} (h : IsHashTable at root t) (k : IsHashTable at root u) where
  sheets : root_sheet (root_cell (numbers_of t)) t.directory ≡ root_sheet (root_cell (numbers_of u)) u.directory
  sheets = let e : Some (root_sheet (root_cell (numbers_of t)) t.directory) ≡ Some (root_sheet (root_cell (numbers_of u)) u.directory) = sym h.built.trunk.first ∙ k.built.trunk.first in
      (let f : root_sheet (root_cell (numbers_of t)) t.directory ≡ root_sheet (root_cell (numbers_of u)) u.directory = cc in f)

  first_slot : Sheet → Option (List ℕ)
  first_slot x = cell_in x.slots 0

  numbers_are : numbers_of t ≡ numbers_of u
  unfolding first_slot
  numbers_are =
      let e : ◌≡◌ {A = Option (List ℕ)} (Some (root_cell (numbers_of t))) (Some (root_cell (numbers_of u))) = ap first_slot sheets in
      same_numbers (numbers_of t) (numbers_of u) h.built.trunk.range k.built.trunk.range (let f : root_cell (numbers_of t) ≡ root_cell (numbers_of u) = cc in f)

  directory_is : t.directory ≡ u.directory
  directory_is = ap (λ (x : Sheet). x.links.0) sheets

  names_are : t.names ≡ u.names
  names_are = one_array h.built.trunk.names (subst (λ d. IsArray at d u.names) (sym directory_is) k.built.trunk.names)

  name_same : (i : ℕ) → name_of (slice_get t.buckets i) ≡ name_of (slice_get u.buckets i)
  name_same i = sym (h.built.trunk.named i) ∙ (ap (λ (a : Array). slice_get a.items i) names_are ∙ k.built.trunk.named i)

  bucket_same : (i : ℕ) (x y : Option Bucket) → slice_get t.buckets i ≡ x → slice_get u.buckets i ≡ y → name_of x ≡ name_of y → x ≡ y
  bucket_same i None None e f g = refl
  bucket_same i None (Some c) e f g = absurd (let z : ◌≡◌ {A = Option (List ℕ)} None (Some (little_bytes 4 (first_page c))) = g in cc)
  bucket_same i (Some b) None e f g = absurd (let z : ◌≡◌ {A = Option (List ℕ)} (Some (little_bytes 4 (first_page b))) None = g in cc)
  bucket_same i (Some b) (Some c) e f g =
      let z : ◌≡◌ {A = Option (List ℕ)} (Some (little_bytes 4 (first_page b))) (Some (little_bytes 4 (first_page c))) = g in
      let w : little_bytes 4 (first_page b) ≡ little_bytes 4 (first_page c) = cc in
      let first : first_page b ≡ first_page c = number_is (first_page b) (first_page c) (h.built.trunk.fit i b e) (k.built.trunk.fit i c f) w in
      ap Some (one_bucket (h.built.bucket i b e) (subst (λ n. IsBucket at n c) (sym first) (k.built.bucket i c f)))

  buckets_are : t.buckets ≡ u.buckets
  buckets_are = same_lists t.buckets u.buckets (λ i. bucket_same i (slice_get t.buckets i) (slice_get u.buckets i) refl refl (name_same i))

  pub one_table : t ≡ u
  one_table = λ i. record { shape = (numbers_are i).shape; peak = (numbers_are i).peak; directory = directory_is i; names = names_are i; buckets = buckets_are i }

-- A BODY
pub one_body : (space : Space) (kind : ObjectKind) (root : ℕ) (a b : Body) → IsBody space kind root a → IsBody space kind root b → a ≡ b
one_body space kinds.Array root (AnArray a) (AnArray b) h k = ap AnArray (one_array h k)
one_body space kinds.Table root (ATable a) (ATable b) h k = ap ATable (one_table h.table k.table)
one_body space kinds.Blob root (ABlob a) (ABlob b) h k = ap ABlob (one_blob h k)
one_body space kinds.Array root (AnArray a) (ATable b) h k = absurd k
one_body space kinds.Array root (AnArray a) (ABlob b) h k = absurd k
one_body space kinds.Table root (ATable a) (AnArray b) h k = absurd k
one_body space kinds.Table root (ATable a) (ABlob b) h k = absurd k
one_body space kinds.Blob root (ABlob a) (AnArray b) h k = absurd k
one_body space kinds.Blob root (ABlob a) (ATable b) h k = absurd k
one_body space kinds.Array root (ATable a) b h k = absurd h
one_body space kinds.Array root (ABlob a) b h k = absurd h
one_body space kinds.Table root (AnArray a) b h k = absurd h
one_body space kinds.Table root (ABlob a) b h k = absurd h
one_body space kinds.Blob root (AnArray a) b h k = absurd h
one_body space kinds.Blob root (ATable a) b h k = absurd h
