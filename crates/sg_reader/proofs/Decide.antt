-- WHETHER A STATE READS AS SOMETHING is decided; so there is a reader.
use Rattle.std.proofs.Common.{◌≡◌, ℕ, ◌<◌, ◌≤◌, ◌⊎◌, inl, inr, Bool, true, false, cond, List, [], ◌∷◌, slice_get, Option, Some, None, refl, sym, ap, ◌∙◌, subst, arith}
use Rattle.std.specs.List.{find, count_by}
use Rattle.std.proofs.lemmas.Bool.{eqb-true}
use Rattle.sg_action.specs.States.{State}
use Rattle.sg_array.specs.Array as array
use Rattle.sg_bucket.specs.Bucket.{Bucket}
use Rattle.sg_catalog.specs.Catalog.{Catalog, IsCatalog, rows}
use Rattle.sg_catalog.specs.Catalog as listing
use Rattle.sg_catalog.specs.declared.row.ObjectKind.{ObjectKind}
use Rattle.sg_catalog.specs.declared.row.ObjectKind.TheVariants as kinds
use Rattle.sg_catalog.specs.declared.row.Row.{Row}
use Rattle.sg_hash.specs.Table.{HashTable}
use Rattle.sg_space.specs.View.{Space}
use Rattle.sg_contents.specs.Standing.{Body, Contents, IsBody, OwnsPage, OwnsBand, IsAmong, is_at, IsContents, map_bands, AreInRange, IsReachedPage}
use Rattle.sg_contents.specs.Standing.Body.{AnArray, ATable, ABlob}
use Rattle.sg_contents.proofs.Among.{found_among, only_one, eq_self}
use Rattle.sg_catalog.proofs.Lists.{found_passes}
use Rattle.sg_once.proofs.Deciding.{Dec, dec_map, dec_both, dec_if, dec_number, dec_less, dec_most, dec_each}
use Rattle.sg_once.proofs.DecideArray.{array_said, array_is, dec_is}
use Rattle.sg_once.proofs.DecideOthers.{search}
use Rattle.sg_once.proofs.DecideRest.{blob_said, blob_is, dec_blob, catalog_said, catalog_is, dec_catalog}
use Rattle.sg_reader.specs.Alike.{space_of, ReadsAs}
use Rattle.sg_reader.specs.Reader.{Reader}
use Rattle.sg_reader.proofs.DecideTable.{table_said, BucketsBelow, table_is, dec_table}
use Rattle.sg_reader.proofs.Once.{Decides, reader_of}

-- A BODY that pages and bands say
abbrev body_said : ℕ → Space → ObjectKind → ℕ → Body
body_said n space kinds.Array root = AnArray (array_said space.pages.at root)
body_said n space kinds.Table root = ATable (table_said n space.pages.at root)
body_said n space kinds.Blob root = ABlob (blob_said space.pages.at space.bands.at root)

-- the pages of a body's buckets are below a number
abbrev BodyBelow : ℕ → Body → Type 0
BodyBelow n (AnArray a) = Unit {0}
BodyBelow n (ATable t) = BucketsBelow n t.buckets
BodyBelow n (ABlob b) = Unit {0}

below_owned : (n root : ℕ) (b : Body) → ((p : ℕ) → OwnsPage root b p → p < n) → BodyBelow n b
below_owned n root (AnArray a) f = tt
below_owned n root (ATable t) f = λ i b e k p g. f p (inr (inr (record { index = i; bucket = b; is = e; owns = (k, g) })))
below_owned n root (ABlob b) f = tt

body_is : (n : ℕ) (space : Space) (kind : ObjectKind) (root : ℕ) (b : Body) → IsBody space kind root b → BodyBelow n b → body_said n space kind root ≡ b
body_is n space kinds.Array root (AnArray a) h low = ap AnArray (array_is h)
body_is n space kinds.Table root (ATable t) h low = ap ATable (table_is n h.table low)
body_is n space kinds.Blob root (ABlob b) h low = ap ABlob (blob_is h)
body_is n space kinds.Array root (ATable t) h low = absurd h
body_is n space kinds.Array root (ABlob b) h low = absurd h
body_is n space kinds.Table root (AnArray a) h low = absurd h
body_is n space kinds.Table root (ABlob b) h low = absurd h
body_is n space kinds.Blob root (AnArray a) h low = absurd h
body_is n space kinds.Blob root (ATable t) h low = absurd h

dec_body : (space : Space) (kind : ObjectKind) (root : ℕ) (b : Body) → Dec (IsBody space kind root b)
dec_body space kinds.Array root (AnArray a) = dec_is space.pages.at root a
dec_body space kinds.Table root (ATable t) = dec_table space.pages.at root t
dec_body space kinds.Blob root (ABlob b) = dec_blob space.pages.at space.bands.at root b
dec_body space kinds.Array root (ATable t) = inr (λ h. h)
dec_body space kinds.Array root (ABlob b) = inr (λ h. h)
dec_body space kinds.Table root (AnArray a) = inr (λ h. h)
dec_body space kinds.Table root (ABlob b) = inr (λ h. h)
dec_body space kinds.Blob root (AnArray a) = inr (λ h. h)
dec_body space kinds.Blob root (ATable t) = inr (λ h. h)

-- WHAT IS OWNED, by a property of all of it: decided for each property that is
dec_in : (ns : List ℕ) (P : ℕ → Type 0) → ((n : ℕ) → Dec (P n)) → Dec ((n : ℕ) → ((j : ℕ) × (slice_get ns j ≡ Some n)) → P n)
dec_in ns P d = dec_map (λ f. λ n i. f i.0 n i.1) (λ h. λ j n e. h n (j, e)) (dec_each ns (λ j n. P n) (λ j n. d n))

dec_buckets : (bs : List Bucket) (P : ℕ → Type 0) → ((n : ℕ) → Dec (P n)) → Dec ((n : ℕ) → Rattle.sg_hash.specs.Table.IsInBuckets bs n → P n)
dec_buckets bs P d = dec_map (λ f. λ n o. f o.index o.bucket o.is n o.owns) (λ h. λ i b e n o. h n (record { index = i; bucket = b; is = e; owns = o }))
    (dec_each bs (λ i b. (n : ℕ) → ((k : ℕ) × (slice_get b.pages k ≡ Some n)) → P n) (λ i b. dec_in b.pages P d))

dec_array_owned : (root : ℕ) (a : array.Array) (P : ℕ → Type 0) → ((n : ℕ) → Dec (P n)) → Dec ((n : ℕ) → array.Owns root a n → P n)
dec_array_owned root a P d = dec_map join (λ h. (h root (inl refl), ((λ n i. h n (inr (inl i))), (λ n i. h n (inr (inr i)))))) (dec_both (d root) (dec_both (dec_in a.index P d) (dec_in a.leaves P d)))
  where
    join : P root × (((n : ℕ) → ((j : ℕ) × (slice_get a.index j ≡ Some n)) → P n) × ((n : ℕ) → ((j : ℕ) × (slice_get a.leaves j ≡ Some n)) → P n)) → (n : ℕ) → array.Owns root a n → P n
    join f n (inl e) = subst P (sym e) f.0
    join f n (inr (inl i)) = f.1.0 n i
    join f n (inr (inr i)) = f.1.1 n i

dec_owned : (root : ℕ) (b : Body) (P : ℕ → Type 0) → ((n : ℕ) → Dec (P n)) → Dec ((n : ℕ) → OwnsPage root b n → P n)
dec_owned root (AnArray a) P d = dec_array_owned root a P d
dec_owned root (ATable t) P d = dec_map join (λ h. (h root (inl refl), ((λ n o. h n (inr (inl o))), (λ n o. h n (inr (inr o)))))) (dec_both (d root) (dec_both (dec_array_owned t.directory t.names P d) (dec_buckets t.buckets P d)))
  where
    join : P root × (((n : ℕ) → array.Owns t.directory t.names n → P n) × ((n : ℕ) → Rattle.sg_hash.specs.Table.IsInBuckets t.buckets n → P n)) → (n : ℕ) → Rattle.sg_hash.specs.Table.Owns root t n → P n
    join f n (inl e) = subst P (sym e) f.0
    join f n (inr (inl o)) = f.1.0 n o
    join f n (inr (inr o)) = f.1.1 n o
dec_owned root (ABlob b) P d = dec_map (λ p. λ n e. subst P (sym e) p) (λ h. h root refl) (d root)

dec_bands : (b : Body) (P : ℕ → Type 0) → ((n : ℕ) → Dec (P n)) → Dec ((n : ℕ) → OwnsBand b n → P n)
dec_bands (AnArray a) P d = inl (λ n o. absurd o)
dec_bands (ATable t) P d = inl (λ n o. absurd o)
dec_bands (ABlob b) P d = dec_in b.bands P d

-- whether a number is owned: not owned is a property
dec_not : {A : Type 0} → Dec A → Dec (A → ⊥)
dec_not (inl a) = inr (λ f. f a)
dec_not (inr f) = inl f

-- a number is none of a body's where none of these is the number
not_owned : (root : ℕ) (b : Body) (m : ℕ) → Dec (OwnsPage root b m → ⊥)
not_owned root b m = dec_map (λ f. λ o. f m o refl) (λ h. λ n o e. h (subst (OwnsPage root b) e o)) (dec_owned root b (λ n. n ≡ m → ⊥) (λ n. dec_not (dec_number n m)))

not_band : (b : Body) (m : ℕ) → Dec (OwnsBand b m → ⊥)
not_band b m = dec_map (λ f. λ o. f m o refl) (λ h. λ n o e. h (subst (OwnsBand b) e o)) (dec_bands b (λ n. n ≡ m → ⊥) (λ n. dec_not (dec_number n m)))

not_listed : (c : Catalog) (m : ℕ) → Dec (listing.Owns c m → ⊥)
not_listed c m = dec_map (λ f. λ o. f m o refl) (λ h. λ n o e. h (subst (listing.Owns c) e o)) (dec_in c.pages (λ n. n ≡ m → ⊥) (λ n. dec_not (dec_number n m)))

-- of each row
dec_rows : (xs : List Row) (P : Row → Type 0) → ((r : Row) → Dec (P r)) → Dec ((r : Row) → IsAmong xs r → P r)
dec_rows [] P d = inl (λ r a. absurd a)
dec_rows (x ∷ xs) P d = dec_map join (λ h. (h x (inl refl), (λ r a. h r (inr a)))) (dec_both (d x) (dec_rows xs P d))
  where
    join : P x × ((r : Row) → IsAmong xs r → P r) → (r : Row) → IsAmong (x ∷ xs) r → P r
    join f r (inl e) = subst P (sym e) f.0
    join f r (inr a) = f.1 r a

-- no root is named twice: to be looked at for the rows' roots alone
dec_once_rows : (xs : List Row) → Dec ((root : ℕ) → count_by (is_at root) xs ≤ 1)
dec_once_rows xs = dec_map once (λ h. λ i r e. h r.root.0) (dec_each xs (λ i r. count_by (is_at r.root.0) xs ≤ 1) (λ i r. dec_most (count_by (is_at r.root.0) xs) 1))
  where
    once : ((i : ℕ) (r : Row) → slice_get xs i ≡ Some r → count_by (is_at r.root.0) xs ≤ 1) → (root : ℕ) → count_by (is_at root) xs ≤ 1
    once f root = go (search (is_at root) xs)
      where
        go : ((i : ℕ) × (x : Row) × (slice_get xs i ≡ Some x) × (is_at root x ≡ true)) ⊎ (count_by (is_at root) xs ≡ 0) → count_by (is_at root) xs ≤ 1
        go (inl h) = subst (λ k. count_by (is_at k) xs ≤ 1) (eqb-true h.1.root.0 root h.3) (f h.0 h.1 h.2)
        go (inr h) = omega (arith, h)

-- THE CONTENTS that a state says
abbrev kind_found : Option Row → ObjectKind
kind_found None = kinds.Array
kind_found (Some row) = row.kind

abbrev said_with : ℕ → Space → Catalog → Contents
said_with n space c = record { catalog = c; body = λ root. body_said n space (kind_found (find (is_at root) (rows c))) root }

abbrev contents_said : ℕ → Space → Contents
contents_said n space = said_with n space (catalog_said n space.pages.at)

-- WHETHER SOME CONTENTS STAND in a state
module _ (pages bands : ℕ) (x : State) where
  dec_holds : (s : Contents) → Dec (IsContents (space_of pages bands x) s)
  dec_holds s =
      dec_map (λ p. record {
        catalog = p.0;
        body = p.1.0;
        once = p.1.1.0;
        beside = λ row a page o. p.1.1.1.0 row a page o;
        apart = λ row other a b ne page o q. p.1.1.1.1.0 row a other b ne page o q;
        bands_apart = λ row other a b ne band o q. p.1.1.1.1.1.0 row a other b ne band o q;
        behind_map = λ row a band o. p.1.1.1.1.1.1 row a band o;
        map = λ band less none. absurd (let z : ◌≡◌ {A = Option (List ℕ)} (Some (x.bands band)) None = none in cc);
      }) (λ h. (h.catalog, (h.body, (h.once, (h.beside, ((λ row a other b ne page o q. h.apart row other a b ne page o q), ((λ row a other b ne band o q. h.bands_apart row other a b ne band o q), h.behind_map)))))))
      (dec_both (dec_catalog x.pages s.catalog)
      (dec_both (dec_rows (rows s.catalog) (λ row. IsBody (space_of pages bands x) row.kind row.root.0 (s.body row.root.0)) (λ row. dec_body (space_of pages bands x) row.kind row.root.0 (s.body row.root.0)))
      (dec_both (dec_once_rows (rows s.catalog))
      (dec_both (dec_rows (rows s.catalog) (λ row. (page : ℕ) → OwnsPage row.root.0 (s.body row.root.0) page → listing.Owns s.catalog page → ⊥)
      (λ row. dec_owned row.root.0 (s.body row.root.0) (λ page. listing.Owns s.catalog page → ⊥) (λ page. not_listed s.catalog page)))
      (dec_both (dec_rows (rows s.catalog) (λ row. (other : Row) → IsAmong (rows s.catalog) other → (row.root.0 ≡ other.root.0 → ⊥) → (page : ℕ) → OwnsPage row.root.0 (s.body row.root.0) page → OwnsPage other.root.0 (s.body other.root.0) page → ⊥)
      (λ row. dec_rows (rows s.catalog) (λ other. (row.root.0 ≡ other.root.0 → ⊥) → (page : ℕ) → OwnsPage row.root.0 (s.body row.root.0) page → OwnsPage other.root.0 (s.body other.root.0) page → ⊥)
      (λ other. dec_if (dec_not (dec_number row.root.0 other.root.0)) (dec_owned row.root.0 (s.body row.root.0) (λ page. OwnsPage other.root.0 (s.body other.root.0) page → ⊥) (λ page. not_owned other.root.0 (s.body other.root.0) page)))))
      (dec_both (dec_rows (rows s.catalog) (λ row. (other : Row) → IsAmong (rows s.catalog) other → (row.root.0 ≡ other.root.0 → ⊥) → (band : ℕ) → OwnsBand (s.body row.root.0) band → OwnsBand (s.body other.root.0) band → ⊥)
      (λ row. dec_rows (rows s.catalog) (λ other. (row.root.0 ≡ other.root.0 → ⊥) → (band : ℕ) → OwnsBand (s.body row.root.0) band → OwnsBand (s.body other.root.0) band → ⊥)
      (λ other. dec_if (dec_not (dec_number row.root.0 other.root.0)) (dec_bands (s.body row.root.0) (λ band. OwnsBand (s.body other.root.0) band → ⊥) (λ band. not_band (s.body other.root.0) band)))))
      (dec_rows (rows s.catalog) (λ row. (band : ℕ) → OwnsBand (s.body row.root.0) band → map_bands (space_of pages bands x) ≤ band)
      (λ row. dec_bands (s.body row.root.0) (λ band. map_bands (space_of pages bands x) ≤ band) (λ band. dec_most (map_bands (space_of pages bands x)) band)))))))))

  dec_reached : (s : Contents) → Dec (AreInRange pages bands s)
  dec_reached s =
      dec_map (λ p. record { page = page p.0 p.1.0; band = λ n o. p.1.1 o.row o.among n o.is }) (λ h. ((λ n o. h.page n (inl o)), ((λ row a n o. h.page n (inr (record { row = row; among = a; is = o }))), (λ row a n o. h.band n (record { row = row; among = a; is = o })))))
      (dec_both (dec_in s.catalog.pages (λ n. n < pages) (λ n. dec_less n pages))
      (dec_both (dec_rows (rows s.catalog) (λ row. (n : ℕ) → OwnsPage row.root.0 (s.body row.root.0) n → n < pages) (λ row. dec_owned row.root.0 (s.body row.root.0) (λ n. n < pages) (λ n. dec_less n pages)))
      (dec_rows (rows s.catalog) (λ row. (n : ℕ) → OwnsBand (s.body row.root.0) n → n < bands) (λ row. dec_bands (s.body row.root.0) (λ n. n < bands) (λ n. dec_less n bands)))))
    where
      page : ((n : ℕ) → listing.Owns s.catalog n → n < pages) → ((row : Row) → IsAmong (rows s.catalog) row → (n : ℕ) → OwnsPage row.root.0 (s.body row.root.0) n → n < pages) → (n : ℕ) → IsReachedPage s n → n < pages
      page f g n (inl o) = f n o
      page f g n (inr o) = g o.row o.among n o.is

  dec_reads : (s : Contents) → Dec (ReadsAs pages bands x s)
  dec_reads s = dec_map (λ p. record { contents = p.0; range = p.1 }) (λ h. (h.contents, h.range)) (dec_both (dec_holds s) (dec_reached s))

  -- where some do, those that it says do
  module _ (s : Contents) (r : ReadsAs pages bands x s) where
    found : (row : Row) → IsAmong (rows s.catalog) row → (o : Option Row) → find (is_at row.root.0) (rows s.catalog) ≡ o → kind_found (find (is_at row.root.0) (rows s.catalog)) ≡ row.kind
    found row a (Some y) e =
        let same : row ≡ y = only_one (is_at row.root.0) (rows s.catalog) row y (r.contents.once row.root.0) a (found_among (is_at row.root.0) (rows s.catalog) y e) (eq_self row.root.0) (found_passes (is_at row.root.0) (rows s.catalog) y e) in
        ap kind_found e ∙ ap (λ (z : Row). z.kind) (sym same)
    found row a None e = absurd (missed (rows s.catalog) row a (is_at row.root.0) (eq_self row.root.0) e)
      where
        missed : (xs : List Row) (row : Row) → IsAmong xs row → (p : Row → Bool) → p row ≡ true → find p xs ≡ None → ⊥
        missed [] row a p e f = a
        missed (y ∷ ys) row (inl is) p e f = (let k : p y ≡ true = ap p (sym is) ∙ e in let w : ◌≡◌ {A = Option Row} (Some y) None = sym (ap (λ b. cond b (Some y) (find p ys)) k) ∙ f in cc)
        missed (y ∷ ys) row (inr m) p e f = go (p y) f (missed ys row m p e)
          where
            go : (b : Bool) → cond b (Some y) (find p ys) ≡ None → (find p ys ≡ None → ⊥) → ⊥
            go true g rest = let w : ◌≡◌ {A = Option Row} (Some y) None = g in cc
            go false g rest = rest g

    -- the bodies at the rows' roots
    bodies : (row : Row) → IsAmong (rows s.catalog) row → (said_with pages (space_of pages bands x) s.catalog).body row.root.0 ≡ s.body row.root.0
    bodies row a =
        ap (λ (k : ObjectKind). body_said pages (space_of pages bands x) k row.root.0) (found row a (find (is_at row.root.0) (rows s.catalog)) refl)
        ∙ body_is pages (space_of pages bands x) row.kind row.root.0 (s.body row.root.0) (r.contents.body row a) (below_owned pages row.root.0 (s.body row.root.0) (λ p o. r.range.page p (inr (record { row = row; among = a; is = o }))))

    owned : (row : Row) → IsAmong (rows s.catalog) row → (p : ℕ) → OwnsPage row.root.0 ((said_with pages (space_of pages bands x) s.catalog).body row.root.0) p → OwnsPage row.root.0 (s.body row.root.0) p
    owned row a p o = subst (λ (b : Body). OwnsPage row.root.0 b p) (bodies row a) o

    banded : (row : Row) → IsAmong (rows s.catalog) row → (n : ℕ) → OwnsBand ((said_with pages (space_of pages bands x) s.catalog).body row.root.0) n → OwnsBand (s.body row.root.0) n
    banded row a n o = subst (λ (b : Body). OwnsBand b n) (bodies row a) o

    with_reads : ReadsAs pages bands x (said_with pages (space_of pages bands x) s.catalog)
    with_reads = record {
      contents = record {
        catalog = r.contents.catalog;
        body = λ row a. subst (IsBody (space_of pages bands x) row.kind row.root.0) (sym (bodies row a)) (r.contents.body row a);
        once = r.contents.once;
        beside = λ row a p o. r.contents.beside row a p (owned row a p o);
        apart = λ row other a b ne p o q. r.contents.apart row other a b ne p (owned row a p o) (owned other b p q);
        bands_apart = λ row other a b ne n o q. r.contents.bands_apart row other a b ne n (banded row a n o) (banded other b n q);
        behind_map = λ row a n o. r.contents.behind_map row a n (banded row a n o);
        map = r.contents.map;
      };
      range = record {
        page = λ p o. r.range.page p (reached p o);
        band = λ n o. r.range.band n (record { row = o.row; among = o.among; is = banded o.row o.among n o.is });
      };
    }
      where
        reached : (p : ℕ) → IsReachedPage (said_with pages (space_of pages bands x) s.catalog) p → IsReachedPage s p
        reached p (inl o) = inl o
        reached p (inr o) = inr (record { row = o.row; among = o.among; is = owned o.row o.among p o.is })

    said_reads : ReadsAs pages bands x (contents_said pages (space_of pages bands x))
    said_reads = subst (λ (c : Catalog). ReadsAs pages bands x (said_with pages (space_of pages bands x) c)) (sym (catalog_is pages r.contents.catalog (λ i p e. r.range.page p (inl (i, e))))) with_reads

-- A STATE READS AS SOMETHING, or as nothing
pub decides : (pages bands : ℕ) → Decides pages bands
decides pages bands x = go (dec_reads pages bands x (contents_said pages (space_of pages bands x)))
  where
    go : Dec (ReadsAs pages bands x (contents_said pages (space_of pages bands x))) → ((s : Contents) × ReadsAs pages bands x s) ⊎ ((s : Contents) → ReadsAs pages bands x s → ⊥)
    go (inl r) = inl (contents_said pages (space_of pages bands x), r)
    go (inr never) = inr (λ s r. never (said_reads pages bands x s r))

-- SO THERE IS A READER
pub reader : (pages bands : ℕ) → Reader pages bands
reader pages bands = reader_of pages bands (decides pages bands)
