-- Items of one size, one behind another.
use Rattle.std.proofs.Common.{◌≡◌, ℕ, zero, suc, ◌+◌, ◌*◌, ◌<◌, ◌≤◌, List, [], ◌∷◌, ◌++◌, length, take, drop, Some, None, refl, ap, ◌∙◌, sym, arith, add-one, ◌-◌, slice_index_or}
use Rattle.std.proofs.Math.Nat.{mul-le-mul_right}
use Rattle.std.specs.Prelude.{slice_get, slice_set}
use Rattle.std.specs.Simd.{first_chunks}
use Rattle.std.proofs.lemmas.List.{length-take, length-take-le, length-drop, take-append-drop, take-append-le, drop-append-le, take-take, drop-drop, take_at, drop_at, take_all, drop-take}
use borrow.Rule.Slice.PartMut.{put_mid}
use Rattle.sg_model.specs.Objects.{Row}
use Rattle.sg_model.specs.Step.{overlaid}

pub length_chunks : (size n : ℕ) (bytes : List ℕ) → length (first_chunks size n bytes) ≡ n
length_chunks size zero bytes = refl
length_chunks size (suc n) bytes = ap suc (length_chunks size n (drop size bytes))

-- one more item behind the others
pub chunks_pushed : (size n : ℕ) (bytes item : List ℕ) → length bytes ≡ n * size → length item ≡ size → first_chunks size (suc n) (bytes ++ item) ≡ first_chunks size n bytes ++ item ∷ []
chunks_pushed size zero [] item whole sized = ap (λ (x : List ℕ). x ∷ []) (take_all size item (omega (arith, sized)))
chunks_pushed size zero (b ∷ bytes) item whole sized = absurd (omega arith)
chunks_pushed size (suc n) bytes item whole sized =
    let fits : size ≤ length bytes = omega arith in
    ap (λ (x : List ℕ). x ∷ first_chunks size (suc n) (drop size (bytes ++ item))) (take-append-le size bytes item fits)
    ∙ ap (λ (xs : List (List ℕ)). take size bytes ∷ xs) (ap (first_chunks size (suc n)) (drop-append-le size bytes item fits) ∙ chunks_pushed size n (drop size bytes) item (omega (arith, length-drop size bytes)) sized)

-- the item at an index
pub item_there : (size n i : ℕ) (bytes : List ℕ) → i < n → length bytes ≡ n * size → slice_index_or (first_chunks size n bytes) i [] ≡ take size (drop (i * size) bytes)
item_there size zero i bytes below whole = absurd (omega arith)
item_there size (suc n) zero bytes below whole =
    let none : 0 ≡ 0 * size = omega arith in
    ap (λ (k : ℕ). take size (drop k bytes)) none
item_there size (suc n) (suc i) bytes below whole =
    let rest : length (drop size bytes) ≡ n * size = omega (arith, length-drop size bytes) in
    item_there size n i (drop size bytes) (omega arith) rest ∙ ap (take size) (drop-drop (i * size) size bytes ∙ ap (λ (k : ℕ). drop k bytes) (omega arith))

-- the same, or that there is none
pub item_got : (size n i : ℕ) (bytes : List ℕ) → i < n → slice_get (first_chunks size n bytes) i ≡ Some (slice_index_or (first_chunks size n bytes) i [])
item_got size zero i bytes below = absurd (omega arith)
item_got size (suc n) zero bytes below = refl
item_got size (suc n) (suc i) bytes below = item_got size n i (drop size bytes) (omega arith)

pub no_item : (size n i : ℕ) (bytes : List ℕ) → n ≤ i → slice_get (first_chunks size n bytes) i ≡ None
no_item size zero i bytes past = refl
no_item size (suc n) zero bytes past = absurd (omega arith)
no_item size (suc n) (suc i) bytes past = no_item size n i (drop size bytes) (omega arith)

-- the items of bytes in which those of one item are replaced
pub item_replaced : (size n i : ℕ) (bytes item : List ℕ) → i < n → length bytes ≡ n * size → length item ≡ size → first_chunks size n (overlaid bytes (i * size) item) ≡ slice_set (first_chunks size n bytes) i item
item_replaced size zero i bytes item below whole sized = absurd (omega arith)
item_replaced size (suc n) zero bytes item below whole sized =
    let put : List ℕ = item ++ drop (0 + length item) bytes in
    let front : take size put ≡ item = take_at item (drop (0 + length item) bytes) size sized in
    let back : drop size put ≡ drop size bytes = drop_at item (drop (0 + length item) bytes) size sized ∙ ap (λ (k : ℕ). drop k bytes) (omega (arith, sized)) in
    let none : 0 * size ≡ 0 = omega arith in
    ap (λ (k : ℕ). first_chunks size (suc n) (overlaid bytes k item)) none
    ∙ (ap (λ (x : List ℕ). x ∷ first_chunks size n (drop size put)) front ∙ ap (λ (xs : List ℕ). item ∷ first_chunks size n xs) back)
item_replaced size (suc n) (suc i) bytes item below whole sized =
    let at : ℕ = i * size in
    let more : at ≤ n * size = mul-le-mul_right {m = i} {n = n} size (omega arith) in
    let long : size + at ≤ length bytes = omega (arith, more) in
    let behind : List ℕ = item ++ drop (suc i * size + length item) bytes in
    let moved : suc i * size ≡ size + at = omega arith in
    let front : take size (take (suc i * size) bytes ++ behind) ≡ take size bytes =
    ap (λ (k : ℕ). take size (take k bytes ++ behind)) moved ∙ (take-append-le size (take (size + at) bytes) behind (omega (arith, length-take (size + at) bytes)) ∙ take-take size (size + at) bytes (omega arith)) in
    let back : drop size (take (suc i * size) bytes ++ behind) ≡ overlaid (drop size bytes) at item =
    ap (λ (k : ℕ). drop size (take k bytes ++ behind)) moved ∙ (drop-append-le size (take (size + at) bytes) behind (omega (arith, length-take (size + at) bytes))
    ∙ (ap (λ (xs : List ℕ). xs ++ behind) (drop-take size at bytes)
    ∙ ap (λ (xs : List ℕ). take at (drop size bytes) ++ (item ++ xs)) (ap (λ (k : ℕ). drop k bytes) (omega arith) ∙ sym (drop-drop (at + length item) size bytes)))) in
    ap (λ (x : List ℕ). x ∷ first_chunks size n (drop size (take (suc i * size) bytes ++ behind))) front
    ∙ ap (λ (xs : List (List ℕ)). take size bytes ∷ xs) (ap (first_chunks size n) back ∙ item_replaced size n i (drop size bytes) item (omega arith) (omega (arith, length-drop size bytes)) sized)

-- the same, as a slice of the bytes
pub item_cut : (size n i : ℕ) (bytes : List ℕ) → i < n → length bytes ≡ n * size → take (i * size + size - i * size) (drop (i * size) bytes) ≡ slice_index_or (first_chunks size n bytes) i []
item_cut size n i bytes below whole = ap (λ (k : ℕ). take k (drop (i * size) bytes)) (omega arith) ∙ sym (item_there size n i bytes below whole)

pub length_cut : (size n i : ℕ) (bytes : List ℕ) → i < n → length bytes ≡ n * size → length (take (i * size + size - i * size) (drop (i * size) bytes)) ≡ size
length_cut size n i bytes below whole =
    let more : suc i * size ≤ n * size = mul-le-mul_right {m = suc i} {n = n} size (omega arith) in
    length-take-le (i * size + size - i * size) (drop (i * size) bytes) (omega (arith, more, length-drop (i * size) bytes)) ∙ omega arith

-- the same, after a write to a slice of the bytes
pub item_put : (size n i : ℕ) (bytes item : List ℕ) → i < n → length bytes ≡ n * size → length item ≡ size → first_chunks size n (put_mid (i * size) (i * size + size - i * size) bytes item) ≡ slice_set (first_chunks size n bytes) i item
item_put size n i bytes item below whole sized =
    let behind : drop (i * size + size - i * size) (drop (i * size) bytes) ≡ drop (i * size + length item) bytes =
    drop-drop (i * size + size - i * size) (i * size) bytes ∙ ap (λ (k : ℕ). drop k bytes) (omega (arith, sized)) in
    ap (λ (xs : List ℕ). first_chunks size n (take (i * size) bytes ++ (item ++ xs))) behind ∙ item_replaced size n i bytes item below whole sized

-- the items without the last one, and that one
pub last_taken : (size n m : ℕ) (bytes rest item : List ℕ) → n ≡ suc m → length bytes ≡ n * size → rest ≡ take (m * size) bytes → item ≡ slice_index_or (first_chunks size n bytes) m [] → first_chunks size n bytes ≡ first_chunks size m rest ++ item ∷ []
last_taken size n m bytes rest item one whole front last =
    let at : ℕ = m * size in
    let long : length bytes ≡ at + size = whole ∙ (ap (λ (k : ℕ). k * size) one ∙ omega arith) in
    let within : at ≤ length bytes = omega (arith, long) in
    let ending : take size (drop at bytes) ≡ drop at bytes = take_all size (drop at bytes) (omega (arith, length-drop at bytes, long)) in
    let is : item ≡ drop at bytes = last ∙ (item_there size n m bytes (omega (arith, one)) whole ∙ ending) in
    let parted : first_chunks size (suc m) bytes ≡ first_chunks size m (take at bytes) ++ drop at bytes ∷ [] =
    ap (first_chunks size (suc m)) (sym (take-append-drop at bytes))
    ∙ chunks_pushed size m (take at bytes) (drop at bytes) (length-take-le at bytes within) (omega (arith, length-drop at bytes, long)) in
    ap (λ (k : ℕ). first_chunks size k bytes) one ∙ (parted ∙ (ap (λ (xs : List ℕ). first_chunks size m xs ++ drop at bytes ∷ []) (sym front) ∙ ap (λ (x : List ℕ). first_chunks size m rest ++ x ∷ []) (sym is)))

-- the row of these items
abbrev pub row_with : ℕ → List (List ℕ) → Row
row_with size items = record { size = size; items = items }

-- the row with one more item
pub row_pushed : (size n : ℕ) (bytes more value : List ℕ) (row : Row) → row_with size (first_chunks size n bytes) ≡ row → more ≡ bytes ++ value → length bytes ≡ n * size → length value ≡ row.size → row_with size (first_chunks size (n + 1) more) ≡ row_with row.size (row.items ++ value ∷ [])
row_pushed size n bytes more value row is put whole sized =
    let F : Row → Row = λ r. row_with r.size (r.items ++ value ∷ []) in
    let same : size ≡ row.size = ap (λ (r : Row). r.size) is in
    ap (row_with size) (ap (first_chunks size (n + 1)) put ∙ (ap (λ (k : ℕ). first_chunks size k (bytes ++ value)) (add-one n) ∙ chunks_pushed size n bytes value whole (sized ∙ sym same))) ∙ ap F is

-- the row has as many items as the bytes
pub counted : (size n : ℕ) (bytes : List ℕ) (row : Row) → row_with size (first_chunks size n bytes) ≡ row → n ≡ length row.items
counted size n bytes row is = omega (arith, ap (λ (r : Row). length r.items) is, length_chunks size n bytes)

-- an item of the row is one of the bytes' items
pub within : (size n i : ℕ) (bytes : List ℕ) (row : Row) → row_with size (first_chunks size n bytes) ≡ row → i < length row.items → i < n
within size n i bytes row is there = omega (arith, ap (λ (r : Row). length r.items) is, length_chunks size n bytes, there)
