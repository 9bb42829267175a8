-- The buckets of a table are freed, one after another, and then the directory and the root.
use Rattle.std.proofs.Common.{◌≡◌, ℕ, ◌+◌, ◌<◌, ◌≤◌, List, [], ◌∷◌, length, take, Option, Some, None, sym, ap, subst, ◌∙◌, refl, arith, get_or, slice_get, inl, inr, zero, suc}
use Rattle.std.proofs.lemmas.Bool.{cases_eq}
use Rattle.std.proofs.lemmas.List.Sums.{sum_by_more, sum_by-cons}
use Rattle.std.proofs.lemmas.Option.{slice_get_within, slice_get-get_or}
use Rattle.std.proofs.Math.Seq.{take-length}
use Rattle.sg_base.specs.Sheet.{Sheet}
use Rattle.sg_array.specs.Array.{IsArray}
use Rattle.sg_array.specs.Array as array
use Rattle.sg_array.specs.Calls as array_calls
use Rattle.sg_linear.specs.Extent.{buckets_of, shape_of}
use Rattle.sg_bucket.specs.Bucket.{Bucket, IsBucket, IsLinked, OwnsPage}
use Rattle.sg_bucket.specs.Calls as bucket
use Rattle.sg_space.specs.Owned.{Becomes}
use Rattle.sg_space.specs.Units.{IsFreed}
use Rattle.sg_space.specs.View.{Space, View, OnlyReads}
use Rattle.sg_space.proofs.Known.{before, same_some}
use Rattle.sg_space.specs.Pages.{Freed}
use Rattle.sg_hash.specs.Calls.{IsGone, Gone}
use Rattle.sg_hash.specs.declared.root.Root.{Root}
use Rattle.sg_hash.specs.Table.{HashTable, Numbers, IsTrunk, IsBuilt, IsHashTable, chain_pages, first_page, numbers_of, root_cell, root_sheet}
use Rattle.sg_hash.specs.Steps.{IsInFirst, AreFreed, FreesBuckets, IsFirstOf, numbers_in}
use Rattle.sg_hash.proofs.Roots.{same_numbers}
use Rattle.sg_hash.proofs.Trunks.{trunk_names, still_table}
use Rattle.sg_hash.proofs.Owning.{trunk_stays, bucket_stays, trunk_not_bucket, root_not_array}

-- so many buckets are free
pub record FreesTo (v w : View) (root count : ℕ) : Type 0 where
  pub back : w.Told → v.Told
  pub later : v.faults ≤ w.faults
  pub frees : FreesBuckets v w root count

none_first : {bs : List Bucket} {p : ℕ} → IsInFirst bs 0 p → ⊥
none_first o = let less = o.below in omega arith

pub frees_none : (v : View) (root : ℕ) → FreesTo v v root 0
frees_none v root = record {
  back = λ t. t;
  later = omega arith;
  frees = record {
    told = λ t. t;
    freed = λ t x h. record { gone = λ p o. absurd (none_first o); others = λ p no. refl; free = omega arith; all = refl; bands = refl };
    may_have = λ t x h p n no m. m;
  };
}

-- what of a table stands when its first buckets are free
pub trunk_left : {old new : Space} {root count : ℕ} {n : Numbers} {t : HashTable} → IsBuilt old.pages.at root n t → AreFreed old new t.buckets count → IsTrunk new.pages.at root n t
trunk_left h f = trunk_stays h.trunk (λ p o. f.others p (λ x. trunk_not_bucket h.trunk (h.bucket x.index x.bucket x.is).linked p o x.owns))

pub bucket_left : {old new : Space} {root i : ℕ} {b : Bucket} {n : Numbers} {t : HashTable} → IsBuilt old.pages.at root n t → AreFreed old new t.buckets i → slice_get t.buckets i ≡ Some b → IsBucket new.pages.at (first_page b) b
bucket_left {i = i} {b = b} h f e = bucket_stays (h.bucket i b e) (λ p o. f.others p (λ x. let same = h.apart x.index i x.bucket b p x.is e x.owns o in let less = x.below in omega arith))

-- the bucket that begins in the page that was read
pub bucket_found : {old new : Space} {root i page : ℕ} {n : Numbers} {t : HashTable} → IsBuilt old.pages.at root n t → AreFreed old new t.buckets i → (f : IsFirstOf t i page) → IsLinked new.pages.at page f.bucket
bucket_found {new = new} h f first = subst (λ (p : ℕ). IsLinked new.pages.at p first.bucket) first.first (bucket_left h f first.is).linked

-- the pages of one bucket more
pub chain_step : (bs : List Bucket) (i : ℕ) (b : Bucket) → slice_get bs i ≡ Some b → chain_pages (take (i + 1) bs) ≡ chain_pages (take i bs) + length b.pages
chain_step bs i b e =
    let below : i < length bs = slice_get_within bs i b e in
    let is : get_or bs i b ≡ b = same_some _ _ (sym (slice_get-get_or bs i b below) ∙ e) in
    let long : length (get_or bs i b).pages ≡ length b.pages = ap (λ (c : Bucket). length c.pages) is in
    let sum : chain_pages (take (i + 1) bs) ≡ chain_pages (take i bs) + length (get_or bs i b).pages = sum_by_more (λ (c : Bucket). length c.pages) bs i b below in
    omega arith

-- the first buckets have no more pages than all
pub chain_take : (bs : List Bucket) (i : ℕ) → chain_pages (take i bs) ≤ chain_pages bs
chain_take bs zero = let none : chain_pages [] ≡ 0 = refl in omega arith
chain_take [] (suc i) = let none : chain_pages [] ≡ 0 = refl in omega arith
chain_take (b ∷ bs) (suc i) =
    let rest = chain_take bs i in
    let some : chain_pages (b ∷ take i bs) ≡ length b.pages + chain_pages (take i bs) = sum_by-cons (λ (c : Bucket). length c.pages) b (take i bs) in
    let all : chain_pages (b ∷ bs) ≡ length b.pages + chain_pages bs = sum_by-cons (λ (c : Bucket). length c.pages) b bs in
    omega arith

-- one more
one_freed : {old mid new : Space} {root i : ℕ} {b : Bucket} {n : Numbers} {t : HashTable} → IsBuilt old.pages.at root n t → AreFreed old mid t.buckets i → slice_get t.buckets i ≡ Some b → Becomes mid.pages new.pages (OwnsPage b) (λ _. ⊥) (length b.pages) 0 → new.bands ≡ mid.bands → AreFreed old new t.buckets (i + 1)
one_freed {old} {mid} {new} {root} {i} {b} {n} {t} h f e g bands = record {
  gone = λ p o. elim (cases_eq o.index i) as (λ _. new.pages.at p ≡ None) [
    | inl same ↦
        let is : o.bucket ≡ b = same_some _ _ (sym o.is ∙ (ap (slice_get t.buckets) same ∙ e)) in
        g.given p (subst (λ (x : Bucket). OwnsPage x p) is o.owns) (λ x. x)
    | inr ne ↦
        g.others p (λ mine. ne (h.apart o.index i o.bucket b p o.is e o.owns mine)) (λ x. x)
        ∙ f.gone p (record { index = o.index; below = let less = o.below in omega arith; bucket = o.bucket; is = o.is; owns = o.owns })
  ];
  others = λ p no.
      g.others p (λ mine. no (record { index = i; below = omega arith; bucket = b; is = e; owns = mine })) (λ x. x)
      ∙ f.others p (λ o. no (record { index = o.index; below = let less = o.below in omega arith; bucket = o.bucket; is = o.is; owns = o.owns }));
  free =
      let x = f.free in
      let y = g.exactly in
      let sum = chain_step t.buckets i b e in
      omega arith;
  all = g.all ∙ f.all;
  bands = bands ∙ f.bands;
}

pub frees_on : {u v w x : View} {root i page : ℕ} → FreesTo u v root i → (v.Told → v.Shows) → OnlyReads v w → (w.Told → v.Told) → v.faults ≤ w.faults → (x.Told → w.Told) → w.faults ≤ x.faults → bucket.Gone w x page → (u.Told → (t : HashTable) → IsHashTable u.space.pages.at root t → IsFirstOf t i page) → FreesTo u x root (i + 1)
frees_on {u} {v} {w} {x} {root} {i} {page} f shows k back later back' later' g first = record {
  back = λ told. f.back (back (back' told));
  later = let one = f.later in omega arith;
  frees = record {
    told = λ told. g.told (k.keeps.told (f.frees.told told));
    freed = λ told t h.
        let at = first told t h in
        let now = mid told t h in
        let linked = bucket_found h.built now at in
        let w_told = k.keeps.told (f.frees.told told) in
        one_freed h.built now at.is (g.pages w_told at.bucket linked) (g.bands w_told);
    may_have = λ told t h p n no had.
        let at = first told t h in
        let linked = bucket_found h.built (mid told t h) at in
        g.may_have (k.keeps.told (f.frees.told told)) at.bucket linked p n (λ mine. no (record { index = i; bucket = at.bucket; is = at.is; owns = mine })) (k.keeps.may_have p n (f.frees.may_have told t h p n no had));
  };
}
  where
    mid : u.Told → (t : HashTable) → IsHashTable u.space.pages.at root t → AreFreed u.space w.space t.buckets i
    mid told t h = subst (λ (s : Space). AreFreed u.space s t.buckets i) (sym (k.same (shows (f.frees.told told)))) (f.frees.freed told t h)

-- there are as many buckets as the root's numbers say
pub all_buckets : {at : ℕ → Option Sheet} {root count : ℕ} {t : HashTable} (found : Root) → IsHashTable at root t → numbers_in found ≡ numbers_of t → count ≡ buckets_of (shape_of found.extent) → length t.buckets ≡ count
all_buckets found h same e = h.many ∙ (ap (λ (n : Numbers). buckets_of n.shape) (sym same) ∙ sym e)

-- the directory stands when all buckets are free, and the root when the directory is free too
pub array_left : {old new : Space} {root p count : ℕ} {n : Numbers} {t : HashTable} → IsBuilt old.pages.at root n t → AreFreed old new t.buckets count → t.directory ≡ p → IsArray new.pages.at p t.names
array_left h f e = trunk_names (trunk_left h f) e

pub root_left : {old mid new : Space} {root p count : ℕ} {n : Numbers} {t : HashTable} → IsBuilt old.pages.at root n t → AreFreed old mid t.buckets count → t.directory ≡ p → array_calls.IsGone mid new p t.names → new.pages.at root ≡ Some (root_sheet (root_cell n) t.directory)
root_left {root = root} {t = t} h f e g = g.pages.others root (λ o. root_not_array (trunk_left h f) root (subst (λ (q : ℕ). array.Owns q t.names root) (sym e) o) refl) (λ x. x) ∙ (trunk_left h f).first

pub gone_all : {old mid last new : Space} {root p : ℕ} {n : Numbers} {t : HashTable} → IsBuilt old.pages.at root n t → AreFreed old mid t.buckets (length t.buckets) → t.directory ≡ p → array_calls.IsGone mid last p t.names → IsFreed last.pages new.pages root → new.bands ≡ last.bands → IsGone old new root t
gone_all {old} {mid} {last} {new} {root} {p} {n} {t} h f e g k bands = record {
  pages = record {
    others = λ q no no'.
        k.others q (λ is. no (inl is))
        ∙ (g.pages.others q (λ o. no (inr (inl (subst (λ (d : ℕ). array.Owns d t.names q) (sym e) o)))) (λ x. x)
        ∙ f.others q (λ o. no (inr (inr (record { index = o.index; bucket = o.bucket; is = o.is; owns = o.owns })))));
    taken = λ q none. absurd none;
    given = λ q o no. elim o as (λ _. new.pages.at q ≡ None) [
      | inl is ↦ ap new.pages.at is ∙ k.gone
      | inr r ↦ elim r as (λ _. new.pages.at q ≡ None) [
        | inl a ↦ k.others q (root_not_array left q a) ∙ g.pages.given q (subst (λ (d : ℕ). array.Owns d t.names q) e a) (λ x. x)
        | inr b ↦
            let linked = (h.bucket b.index b.bucket b.is).linked in
            k.others q (λ (is : q ≡ root). trunk_not_bucket h.trunk linked q (inl is) b.owns)
            ∙ (g.pages.others q (λ a. trunk_not_bucket h.trunk linked q (inr (subst (λ (d : ℕ). array.Owns d t.names q) (sym e) a)) b.owns) (λ x. x)
            ∙ f.gone q (record { index = b.index; below = slice_get_within t.buckets b.index b.bucket b.is; bucket = b.bucket; is = b.is; owns = b.owns }))
      ]
    ];
    exactly =
        let x = f.free in
        let y = g.pages.exactly in
        let z = k.free in
        let all : chain_pages (take (length t.buckets) t.buckets) ≡ chain_pages t.buckets = ap chain_pages (take-length t.buckets) in
        omega arith;
    all = k.count ∙ (g.pages.all ∙ f.all);
  };
  bands = bands ∙ (g.bands ∙ f.bands);
}
  where
    left : IsTrunk mid.pages.at root n t
    left = trunk_left h f

-- the three calls one after another
pub gone_calls : {u v w x y : View} {root p count : ℕ} → (u.Told → u.Shows) → OnlyReads u v → FreesBuckets v w root count → array_calls.Gone w x p → Freed x y root
    → (u.Shows → (t : HashTable) → IsHashTable u.space.pages.at root t → t.directory ≡ p)
    → (u.Shows → (t : HashTable) → IsHashTable u.space.pages.at root t → length t.buckets ≡ count)
    → Gone u y root
gone_calls {u} {v} {w} {x} {y} {root} {p} {count} shows k one two three directory many = record {
  told = λ told. three.told (two.told (one.told (k.keeps.told told)));
  gone = λ told t h.
      let there = k.keeps.told told in
      let now = still_table k (shows told) h in
      let freed = one.freed there t now in
      let all : AreFreed v.space w.space t.buckets (length t.buckets) = subst (λ (n : ℕ). AreFreed v.space w.space t.buckets n) (sym (many (shows told) t h)) freed in
      let is = directory (shows told) t h in
      let gone = two.gone (one.told there) t.names (array_left now.built freed is) in
      before (λ (s : Space). IsGone s y.space root t) k (shows told) (gone_all now.built all is gone (three.pages (two.told (one.told there))) (three.bands (two.told (one.told there))));
  may_have = λ told t h q m no had.
      let there = k.keeps.told told in
      let now = still_table k (shows told) h in
      let is = directory (shows told) t h in
      three.may_have q m (λ e. no (inl e))
      (two.may_have (one.told there) t.names (array_left now.built (one.freed there t now) is) q m (λ a. no (inr (inl (subst (λ (d : ℕ). array.Owns d t.names q) (sym is) a))))
      (one.may_have there t now q m (λ b. no (inr (inr b))) (k.keeps.may_have q m had)));
}

-- two accounts of one table have as many buckets
pub same_many : {at : ℕ → Option Sheet} {root : ℕ} {t t' : HashTable} → IsHashTable at root t → IsHashTable at root t' → length t.buckets ≡ length t'.buckets
same_many {t = t} {t' = t'} h k =
    let sheets = same_some _ _ (sym h.built.trunk.first ∙ k.built.trunk.first) in
    let cells : root_cell (numbers_of t) ≡ root_cell (numbers_of t') = ap (λ (s : Sheet). first_cell s.slots) sheets in
    let same = same_numbers (numbers_of t) (numbers_of t') h.built.trunk.range k.built.trunk.range cells in
    h.many ∙ (ap (λ (n : Numbers). buckets_of n.shape) same ∙ sym k.many)
  where
    first_cell : List (Option (List ℕ)) → List ℕ
    first_cell [] = []
    first_cell (None ∷ slots) = []
    first_cell (Some cell ∷ slots) = cell
