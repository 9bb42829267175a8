-- STATES THAT CAN'T BE TOLD APART READ AS THE SAME.
use Rattle.std.proofs.Common.{◌≡◌, ℕ, zero, suc, ◌+◌, inl, inr, List, [], ◌∷◌, length, map, slice_get, Option, Some, None, refl, sym, ap, ◌∙◌, subst}
use Rattle.std.specs.List.{sum_by}
use Rattle.std.specs.FinMap.{from_entries}
use Rattle.std.proofs.lemmas.List.Sums.{sum_by-cons}
use Rattle.sg_base.specs.Sheet.{Sheet}
use Rattle.sg_base.specs.declared.numbers.TxnId.{TxnId}
use Rattle.sg_action.specs.States.{State}
use Rattle.sg_bucket.specs.Bucket.{Bucket}
use Rattle.sg_catalog.specs.Catalog.{rows}
use Rattle.sg_catalog.specs.declared.row.ObjectKind.{ObjectKind}
use Rattle.sg_catalog.specs.declared.row.ObjectKind.TheVariants as kinds
use Rattle.sg_catalog.specs.declared.row.Row.{Row}
use Rattle.sg_hash.specs.Table.{IsInBuckets}
use Rattle.sg_space.specs.View.{Space}
use Rattle.sg_reading.specs.Reading.{Thing, Tomb}
use Rattle.sg_reading.specs.Reading.Thing.{There}
use Rattle.sg_contents.specs.Standing.{Body, Contents, IsBody, OwnsPage, OwnsBand, IsAmong, IsContents, IsReachedPage}
use Rattle.sg_contents.specs.Standing.Body.{AnArray, ATable, ABlob}
use Rattle.sg_contents.specs.Meaning.{thing_of, if_object, if_tomb, things_of, tombs_of, reading, pages_in}
use Rattle.sg_contents.specs.Limits.{limit, BodyLimits}
use Rattle.sg_contents.proofs.Limited.{body_limits, catalog_limits}
use Rattle.sg_reader.specs.Alike.{space_of, AreAlikeOn, ReadsAs, IsAlike, with_parts, body_in, contents_in}
use Rattle.sg_reader.proofs.Carried.{less_alike, array_alike, blob_alike, catalog_alike}
use Rattle.sg_reader.proofs.Tables.{table_alike, table_map, table_pages, no_key}

-- A BODY
pub body_alike : {limit : ℕ → ℕ} (old new : Space) (kind : ObjectKind) (root : ℕ) (b : Body) → IsBody old kind root b → AreAlikeOn limit (OwnsPage root b) old.pages.at new.pages.at → ((n : ℕ) → OwnsBand b n → new.bands.at n ≡ old.bands.at n)
    → BodyLimits limit root b → IsBody new kind root (body_in new.pages.at b)
body_alike old new kinds.Array root (AnArray a) h k bands l = array_alike h k l
body_alike old new kinds.Table root (ATable t) h k bands l = record { table = table_alike h.table k l.first l.names; no_empty_key = no_key h.table k h.no_empty_key }
body_alike old new kinds.Blob root (ABlob b) h k bands l = blob_alike h k l bands
body_alike old new kinds.Array root (ATable t) h k bands l = h
body_alike old new kinds.Array root (ABlob b) h k bands l = h
body_alike old new kinds.Table root (AnArray a) h k bands l = h
body_alike old new kinds.Table root (ABlob b) h k bands l = h
body_alike old new kinds.Blob root (AnArray a) h k bands l = h
body_alike old new kinds.Blob root (ATable t) h k bands l = h

-- it has the same pages and bands,
in_buckets : (at : ℕ → Option Sheet) (bs : List Bucket) (p : ℕ) → IsInBuckets (map (with_parts at) bs) p → IsInBuckets bs p
in_buckets at bs p o = go bs o.index o.bucket o.is o.owns
  where
    go : (bs : List Bucket) (i : ℕ) (b : Bucket) → slice_get (map (with_parts at) bs) i ≡ Some b → Rattle.sg_bucket.specs.Bucket.OwnsPage b p → IsInBuckets bs p
    go [] i b e q = absurd (cc)
    go (c ∷ cs) zero b e q = record { index = 0; bucket = c; is = refl; owns = subst (λ z. Rattle.sg_bucket.specs.Bucket.OwnsPage z p) (let k : b ≡ with_parts at c = cc in k) q }
    go (c ∷ cs) (suc i) b e q = let r = go cs i b e q in record { index = suc r.index; bucket = r.bucket; is = r.is; owns = r.owns }

pub owned_back : (at : ℕ → Option Sheet) (root : ℕ) (b : Body) (p : ℕ) → OwnsPage root (body_in at b) p → OwnsPage root b p
owned_back at root (AnArray a) p o = o
owned_back at root (ATable t) p (inl o) = inl o
owned_back at root (ATable t) p (inr (inl o)) = inr (inl o)
owned_back at root (ATable t) p (inr (inr o)) = inr (inr (in_buckets at t.buckets p o))
owned_back at root (ABlob b) p o = o

pub bands_back : (at : ℕ → Option Sheet) (b : Body) (n : ℕ) → OwnsBand (body_in at b) n → OwnsBand b n
bands_back at (AnArray a) n o = o
bands_back at (ATable t) n o = o
bands_back at (ABlob b) n o = o

-- and means the same
thing_same : {limit : ℕ → ℕ} (old : Space) (at' : ℕ → Option Sheet) (kind : ObjectKind) (root : ℕ) (b : Body) → IsBody old kind root b → AreAlikeOn limit (OwnsPage root b) old.pages.at at' → thing_of root (body_in at' b) ≡ thing_of root b
thing_same old at' kind root (AnArray a) h k = refl
thing_same old at' kinds.Table root (ATable t) h k = ap (λ m. There (Rattle.sg_model.specs.Objects.Object.Table m) (record { root = root; peak = t.peak; bands = [] })) (table_map h.table k)
thing_same old at' kinds.Array root (ATable t) h k = absurd h
thing_same old at' kinds.Blob root (ATable t) h k = absurd h
thing_same old at' kind root (ABlob b) h k = refl

pages_same : {limit : ℕ → ℕ} (old : Space) (at' : ℕ → Option Sheet) (kind : ObjectKind) (root : ℕ) (b : Body) → IsBody old kind root b → AreAlikeOn limit (OwnsPage root b) old.pages.at at' → pages_in (body_in at' b) ≡ pages_in b
pages_same old at' kind root (AnArray a) h k = refl
pages_same old at' kinds.Table root (ATable t) h k = table_pages h.table k
pages_same old at' kinds.Array root (ATable t) h k = absurd h
pages_same old at' kinds.Blob root (ATable t) h k = absurd h
pages_same old at' kind root (ABlob b) h k = refl

-- rows of bodies that mean the same
module _ (body body' : ℕ → Body) where
  pub things_same : (xs : List Row) → ((row : Row) → IsAmong xs row → thing_of row.root.0 (body' row.root.0) ≡ thing_of row.root.0 (body row.root.0)) → things_of body' xs ≡ things_of body xs
  things_same [] h = refl
  things_same (row ∷ xs) h = λ i. if_object (row.name, h row (inl refl) i) row.dropper (things_same xs (λ r a. h r (inr a)) i)

  pub tombs_same : (xs : List Row) → ((row : Row) → IsAmong xs row → thing_of row.root.0 (body' row.root.0) ≡ thing_of row.root.0 (body row.root.0)) → tombs_of body' xs ≡ tombs_of body xs
  tombs_same [] h = refl
  tombs_same (row ∷ xs) h = λ i. if_tomb (λ (by : TxnId). (row.root.0 ∷ row.name, with_thing by (h row (inl refl) i))) row.dropper (tombs_same xs (λ r a. h r (inr a)) i)
    where
      with_thing : TxnId → Thing → Tomb
      with_thing by th = record { dropper = by.0; thing = th }

  pub totals_same : (xs : List Row) → ((row : Row) → IsAmong xs row → pages_in (body' row.root.0) ≡ pages_in (body row.root.0)) → sum_by (λ (row : Row). pages_in (body' row.root.0)) xs ≡ sum_by (λ (row : Row). pages_in (body row.root.0)) xs
  totals_same [] h = refl
  totals_same (row ∷ xs) h =
      sum_by-cons (λ (r : Row). pages_in (body' r.root.0)) row xs ∙ ((λ i. h row (inl refl) i + totals_same xs (λ r a. h r (inr a)) i) ∙ sym (sum_by-cons (λ (r : Row). pages_in (body r.root.0)) row xs))

-- THE WHOLE
module _ (pages bands : ℕ) (x y : State) (s : Contents) (r : ReadsAs pages bands x s) (k : IsAlike s x y) where
  h : IsContents (space_of pages bands x) s
  h = r.contents

  of_row : (row : Row) → IsAmong (rows s.catalog) row → AreAlikeOn (limit s x.pages) (OwnsPage row.root.0 (s.body row.root.0)) x.pages y.pages
  of_row row a = less_alike (λ p o. inr (record { row = row; among = a; is = o })) k.pages

  row_bands : (row : Row) → IsAmong (rows s.catalog) row → (n : ℕ) → OwnsBand (s.body row.root.0) n → y.bands n ≡ x.bands n
  row_bands row a n o = k.bands n (record { row = row; among = a; is = o })

  pub alike_contents : ReadsAs pages bands y (contents_in y.pages s)
  unfolding h
  alike_contents = record {
    contents = record {
      catalog = catalog_alike r.contents.catalog (less_alike (λ p o. inl o) k.pages) (catalog_limits r.contents);
      body = λ row a. body_alike (space_of pages bands x) (space_of pages bands y) row.kind row.root.0 (s.body row.root.0) (r.contents.body row a) (of_row row a) (λ n o. ap Some (row_bands row a n o))
          (body_limits r.contents row a row.kind (s.body row.root.0) refl (r.contents.body row a));
      once = r.contents.once;
      beside = λ row a p o. r.contents.beside row a p (owned_back y.pages row.root.0 (s.body row.root.0) p o);
      apart = λ row other a b ne p o q. r.contents.apart row other a b ne p (owned_back y.pages row.root.0 (s.body row.root.0) p o) (owned_back y.pages other.root.0 (s.body other.root.0) p q);
      bands_apart = λ row other a b ne n o q. r.contents.bands_apart row other a b ne n (bands_back y.pages (s.body row.root.0) n o) (bands_back y.pages (s.body other.root.0) n q);
      behind_map = λ row a n o. r.contents.behind_map row a n (bands_back y.pages (s.body row.root.0) n o);
      map = λ n less none. absurd (let z : Some (y.bands n) ≡ None = none in cc);
    };
    range = record {
      page = λ p o. r.range.page p (reached p o);
      band = λ n o. r.range.band n (record { row = o.row; among = o.among; is = bands_back y.pages (s.body o.row.root.0) n o.is });
    };
  }
    where
      reached : (p : ℕ) → IsReachedPage (contents_in y.pages s) p → IsReachedPage s p
      reached p (inl o) = inl o
      reached p (inr o) = inr (record { row = o.row; among = o.among; is = owned_back y.pages o.row.root.0 (s.body o.row.root.0) p o.is })

  -- PAGES THAT CAN'T BE TOLD APART READ AS THE SAME
  pub alike_reads : reading (contents_in y.pages s) ≡ reading s
  unfolding reading
  alike_reads =
      let same : (row : Row) → IsAmong (rows s.catalog) row → thing_of row.root.0 (body_in y.pages (s.body row.root.0)) ≡ thing_of row.root.0 (s.body row.root.0)
      = λ row a. thing_same (space_of pages bands x) y.pages row.kind row.root.0 (s.body row.root.0) (r.contents.body row a) (of_row row a) in
      let counts : (row : Row) → IsAmong (rows s.catalog) row → pages_in (body_in y.pages (s.body row.root.0)) ≡ pages_in (s.body row.root.0)
      = λ row a. pages_same (space_of pages bands x) y.pages row.kind row.root.0 (s.body row.root.0) (r.contents.body row a) (of_row row a) in
      λ i. record {
        things = from_entries (things_same s.body (contents_in y.pages s).body (rows s.catalog) same i);
        tombs = from_entries (tombs_same s.body (contents_in y.pages s).body (rows s.catalog) same i);
        peak = s.catalog.peak;
        pages = length s.catalog.pages + totals_same s.body (contents_in y.pages s).body (rows s.catalog) counts i;
      }
