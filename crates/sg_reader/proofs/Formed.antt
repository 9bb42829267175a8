-- What contents mean is formed.
use Rattle.std.proofs.Common.{◌≡◌, ℕ, zero, suc, pred, ◌+◌, ◌-◌, ◌≤◌, Bool, true, false, List, [], ◌∷◌, ◌++◌, length, take, drop, slice_get, Option, Some, None, option_map, refl, sym, ap, ◌∙◌, subst, arith}
use Rattle.std.specs.Prelude.{if◌then◌else◌, option_and_then}
use Rattle.std.specs.List.{find}
use Rattle.std.specs.Str.{bytes_eq}
use Rattle.std.proofs.lemmas.List.{length-drop, length-take}
use Rattle.std.proofs.Math.Nat.{min-le_left}
use Rattle.std.proofs.lemmas.Slice.Eq.{bytes_eq-Decides}
use Rattle.sg_base.specs.declared.numbers.TxnId.{TxnId}
use Rattle.sg_base.specs.Slots.{Slots}
use Rattle.sg_base.specs.Sheet.{Sheet}
use Rattle.sg_bucket.specs.Entry.{Entry, IsEntryCell, entry_in, key_size, value_of}
use Rattle.sg_bucket.specs.Part.{AreEntries, entries_in}
use Rattle.sg_bucket.specs.Bucket.{Bucket, entries_of, part_at, IsBucket}
use Rattle.sg_catalog.specs.Catalog.{rows, there, is_there, is_tomb_of}
use Rattle.sg_catalog.specs.declared.row.ObjectKind.{ObjectKind}
use Rattle.sg_catalog.specs.declared.row.ObjectKind.TheVariants as kinds
use Rattle.sg_catalog.specs.declared.row.Row.{Row}
use Rattle.sg_hash.specs.Table.{all_entries, entries, value_at}
use Rattle.sg_space.specs.View.{Space}
use Rattle.sg_reading.specs.Reading.{Tomb, slot}
use Rattle.sg_reading.specs.Noted.{IsFormedThing, IsFormed}
use Rattle.sg_contents.specs.Standing.{Body, Contents, IsAmong, IsBody, IsContents}
use Rattle.sg_contents.specs.Standing.Body.{AnArray, ATable, ABlob}
use Rattle.sg_contents.specs.Meaning.{thing_of, thing_at, tomb_at, tomb_of, tomb_in, reading}
use Rattle.sg_contents.proofs.Among.{found_among}
use Rattle.sg_contents.proofs.Reading.{get_map, get_thing, get_tomb}

-- a key has at most 128 bytes, and a value at most 1,024
abbrev IsShort : Entry → Type 0
IsShort e = (length e.key ≤ 128) × (length e.value ≤ 1024)

-- of each of some entries
abbrev AreShort : List Entry → Type 0
AreShort [] = Unit {0}
AreShort (e ∷ es) = IsShort e × AreShort es

both_short : (xs ys : List Entry) → AreShort xs → AreShort ys → AreShort (xs ++ ys)
both_short [] ys h k = k
both_short (x ∷ xs) ys h k = (h.0, both_short xs ys h.1 k)

-- so it is of each key with what it is mapped to
short_value : (es : List Entry) → AreShort es → (key value : List ℕ) → value_of es key ≡ Some value → (length key ≤ 128) × (length value ≤ 1024)
short_value [] h key value f = absurd (cc)
short_value (e ∷ es) h key value f = go (bytes_eq e.key key) refl f (short_value es h.1 key value)
  where
    go : (b : Bool) → bytes_eq e.key key ≡ b → (if b then Some e.value else value_of es key) ≡ Some value → (value_of es key ≡ Some value → (length key ≤ 128) × (length value ≤ 1024)) → (length key ≤ 128) × (length value ≤ 1024)
    go true m g rest = (
      subst (λ k. length k ≤ 128) ((bytes_eq-Decides e.key key).0 m) h.0.0,
      subst (λ v. length v ≤ 1024) (let k : e.value ≡ value = cc in k) h.0.1,
    )
    go false m g rest = rest g

take_most : (n : ℕ) (xs : List ℕ) → length (take n xs) ≤ n
take_most n xs = let e = length-take n xs in subst (λ k. k ≤ n) (sym e) (min-le_left n (length xs))

cell_short : (cell : List ℕ) → IsEntryCell cell → IsShort (entry_in cell)
cell_short cell h =
    let a : length (drop (4 + key_size cell) cell) ≡ length cell - (4 + key_size cell) = length-drop (4 + key_size cell) cell in
    let w = h.whole in
    let v = h.value in
    let k = h.key in
    let most = take_most (key_size cell) (drop 4 cell) in
    (omega (arith, k, most), omega (arith, a, w, v))

slots_short : (slots : Slots) → AreEntries slots → AreShort (entries_in slots)
slots_short [] h = tt
slots_short (None ∷ slots) h = slots_short slots (λ k c e. h (suc k) c e)
slots_short (Some cell ∷ slots) h = (cell_short cell (h 0 cell refl), slots_short slots (λ k c e. h (suc k) c e))

parts_short : (parts : List Slots) → ((i : ℕ) (slots : Slots) → slice_get parts i ≡ Some slots → AreEntries slots) → AreShort (entries_of parts)
parts_short [] h = tt
parts_short (x ∷ xs) h = both_short (entries_in x) (entries_of xs) (slots_short x (h 0 x refl)) (parts_short xs (λ i s e. h (suc i) s e))

paired : (pages : List ℕ) (parts : List Slots) (i : ℕ) (slots : Slots) → length parts ≡ length pages → slice_get parts i ≡ Some slots → (p : ℕ) × (slice_get pages i ≡ Some p) × (part_at parts i ≡ slots)
paired [] [] i slots e f = absurd (cc)
paired [] (x ∷ xs) i slots e f = absurd (cc)
paired (p ∷ ps) [] i slots e f = absurd (cc)
paired (p ∷ ps) (x ∷ xs) zero slots e f = (p, refl, (let k : x ≡ slots = cc in k))
paired (p ∷ ps) (x ∷ xs) (suc i) slots e f = paired ps xs i slots (let k : suc (length xs) ≡ suc (length ps) = e in ap pred k) f

bucket_short : {at : ℕ → Option Sheet} {first : ℕ} (b : Bucket) → IsBucket at first b → AreShort (entries_of b.parts)
bucket_short b h = parts_short b.parts (λ i slots e.
    let p = paired b.pages b.parts i slots h.linked.long e in
    let part = h.linked.part i p.0 p.1 in
    subst AreEntries (part.has.slots_are ∙ p.2) part.has.page.cells)

buckets_short : (bs : List Bucket) → ((i : ℕ) (b : Bucket) → slice_get bs i ≡ Some b → AreShort (entries_of b.parts)) → AreShort (all_entries bs)
buckets_short [] h = tt
buckets_short (b ∷ bs) h = both_short (entries_of b.parts) (all_entries bs) (h 0 b refl) (buckets_short bs (λ i c e. h (suc i) c e))

-- a key that isn't mapped where it is empty has a byte
some_byte : (values : List ℕ → Option (List ℕ)) → values [] ≡ None → (key value : List ℕ) → values key ≡ Some value → 1 ≤ length key
some_byte values none [] value e = absurd (let k : ◌≡◌ {A = Option (List ℕ)} None (Some value) = sym none ∙ e in cc)
some_byte values none (b ∷ bs) value e = let k : 1 ≤ suc (length bs) = omega arith in k

body_formed : (space : Space) (kind : ObjectKind) (root : ℕ) (b : Body) → IsBody space kind root b → IsFormedThing (thing_of root b)
body_formed space kinds.Array root (AnArray a) h = let l = h.built.limits in (l.below_peak, l.few, (λ i item e. let z = l.each i item e in (z.sized, z.bytes)))
body_formed space kinds.Table root (ATable t) h = λ k v e.
    let short = short_value (entries t) (buckets_short t.buckets (λ i b f. bucket_short b (h.table.built.bucket i b f))) k v (sym (get_map t k) ∙ e) in
    (some_byte (value_at t) h.no_empty_key k v (sym (get_map t k) ∙ e), short.0, short.1)
body_formed space kinds.Blob root (ABlob b) h = h.raw.below_peak
body_formed space kinds.Array root (ATable t) h = absurd h
body_formed space kinds.Array root (ABlob b) h = absurd h
body_formed space kinds.Table root (AnArray a) h = absurd h
body_formed space kinds.Table root (ABlob b) h = absurd h
body_formed space kinds.Blob root (AnArray a) h = absurd h
body_formed space kinds.Blob root (ATable t) h = absurd h

-- EACH OBJECT of contents is formed
pub contents_formed : (space : Space) (s : Contents) → IsContents space s → (name : List ℕ) → IsFormed (slot (reading s) name).thing
contents_formed space s h name = subst IsFormed (sym (get_thing s name)) (go (there name (rows s.catalog)) refl)
  where
    go : (o : Option Row) → there name (rows s.catalog) ≡ o → IsFormed (option_map (thing_at s.body) o)
    go None f = tt
    go (Some row) f = body_formed space row.kind row.root.0 (s.body row.root.0) (h.body row (found_among (is_there name) (rows s.catalog) row f))

-- AND SO IS EACH TOMBSTONE
pub tombs_formed : (space : Space) (s : Contents) → IsContents space s → (name : List ℕ) (root : ℕ) (tomb : Tomb) → (slot (reading s) name).buried root ≡ Some tomb → IsFormedThing tomb.thing
tombs_formed space s h name root tomb e = go (find (is_tomb_of name root) (rows s.catalog)) refl
  where
    by : (row : Row) → IsAmong (rows s.catalog) row → (d : Option TxnId) → tomb_of s.body row d ≡ Some tomb → IsFormedThing tomb.thing
    by row a None f = absurd (cc)
    by row a (Some d) f =
        let k : tomb_at s.body d row ≡ tomb = cc in
        subst (λ (x : Tomb). IsFormedThing x.thing) k (body_formed space row.kind row.root.0 (s.body row.root.0) (h.body row a))

    go : (o : Option Row) → find (is_tomb_of name root) (rows s.catalog) ≡ o → IsFormedThing tomb.thing
    go None f = absurd (let k : ◌≡◌ {A = Option Tomb} None (Some tomb) = sym (get_tomb s root name ∙ ap (option_and_then (tomb_in s.body)) f) ∙ e in cc)
    go (Some row) f = by row (found_among (is_tomb_of name root) (rows s.catalog) row f) row.dropper (sym (get_tomb s root name ∙ ap (option_and_then (tomb_in s.body)) f) ∙ e)
