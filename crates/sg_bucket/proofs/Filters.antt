-- The entries of slots and of chains of pages in their order, and those of them that pass a test.
use Rattle.std.proofs.Common.{◌≡◌, ℕ, zero, suc, ◌+◌, ◌<◌, ◌≤◌, Bool, true, false, not, cond, if◌then◌else◌, List, [], ◌∷◌, ◌++◌, length, set, take, Option, Some, None, sym, ap, subst, ◌∙◌, refl, arith}
use Rattle.std.specs.List.{filter, sum_by, count_by, remove}
use Rattle.std.specs.Str.{bytes_eq}
use Rattle.std.proofs.lemmas.List.{append_assoc, append-nil, take_more}
use Rattle.std.proofs.lemmas.List.Elements.{filter-append}
use Rattle.std.proofs.lemmas.List.Filters.{sum_by-filter_both}
use Rattle.std.proofs.lemmas.List.Sums.{sum_by-cons}
use Rattle.sg_base.specs.Page.{cell_in}
use Rattle.sg_base.specs.Slots.{Slots}
use Rattle.sg_bucket.specs.Bucket.{entries_of, part_at}
use Rattle.sg_bucket.specs.Entry.{Entry, entry_in, AreOnce, value_of}
use Rattle.sg_bucket.specs.Part.{entries_in}
use Rattle.sg_bucket.proofs.Values.{has_key, equal_bytes}

-- a cell behind the others
pub slots_more : (slots : Slots) (cell : List ℕ) → entries_in (slots ++ (Some cell ∷ [])) ≡ entries_in slots ++ (entry_in cell ∷ [])
slots_more [] cell = refl
slots_more (None ∷ slots) cell = slots_more slots cell
slots_more (Some other ∷ slots) cell = ap (λ (es : List Entry). entry_in other ∷ es) (slots_more slots cell)

pub part_more : (parts : List Slots) (i : ℕ) (cell : List ℕ) → i + 1 ≡ length parts → entries_of (set parts i (part_at parts i ++ (Some cell ∷ []))) ≡ entries_of parts ++ (entry_in cell ∷ [])
part_more [] i cell e = absurd (omega arith)
part_more (slots ∷ []) zero cell e =
    append-nil (entries_in (slots ++ (Some cell ∷ []))) ∙ (slots_more slots cell ∙ ap (λ (es : List Entry). es ++ (entry_in cell ∷ [])) (sym (append-nil (entries_in slots))))
part_more (slots ∷ (other ∷ parts)) zero cell e = absurd (omega arith)
part_more (slots ∷ parts) (suc i) cell e =
    ap (λ (es : List Entry). entries_in slots ++ es) (part_more parts i cell (omega arith)) ∙ sym (append_assoc (entries_in slots) (entries_of parts) (entry_in cell ∷ []))

-- a page behind the others
pub pages_more : (parts : List Slots) (slots : Slots) → entries_of (parts ++ (slots ∷ [])) ≡ entries_of parts ++ entries_in slots
pages_more [] slots = append-nil (entries_in slots)
pages_more (first ∷ parts) slots = ap (λ (es : List Entry). entries_in first ++ es) (pages_more parts slots) ∙ sym (append_assoc (entries_in first) (entries_of parts) (entries_in slots))

pub parts_on : (parts : List Slots) (i : ℕ) → i < length parts → entries_of (take (i + 1) parts) ≡ entries_of (take i parts) ++ entries_in (part_at parts i)
parts_on parts i below = ap entries_of (take_more parts i [] below) ∙ pages_more (take i parts) (part_at parts i)

-- one slot further
pub slots_on : (slots : Slots) (i : ℕ) (cell : List ℕ) → i < length slots → cell_in slots i ≡ Some cell → entries_in (take (i + 1) slots) ≡ entries_in (take i slots) ++ (entry_in cell ∷ [])
slots_on slots i cell below e = ap entries_in (take_more slots i None below) ∙ (ap (λ (o : Option (List ℕ)). entries_in (take i slots ++ (o ∷ []))) e ∙ slots_more (take i slots) cell)

no_more : (slots : Slots) → entries_in (slots ++ (None ∷ [])) ≡ entries_in slots
no_more [] = refl
no_more (None ∷ slots) = no_more slots
no_more (Some other ∷ slots) = ap (λ (es : List Entry). entry_in other ∷ es) (no_more slots)

pub slots_past : (slots : Slots) (i : ℕ) → i < length slots → cell_in slots i ≡ None → entries_in (take (i + 1) slots) ≡ entries_in (take i slots)
slots_past slots i below e = ap entries_in (take_more slots i None below) ∙ (ap (λ (o : Option (List ℕ)). entries_in (take i slots ++ (o ∷ []))) e ∙ no_more (take i slots))

-- an entry that passes, and one that doesn't
pub passes : (p : Entry → Bool) (e : Entry) (es : List Entry) → p e ≡ true → filter p (e ∷ es) ≡ e ∷ filter p es
passes p e es h = ap (λ (b : Bool). cond {A = List Entry} b (e ∷ filter p es) (filter p es)) h

pub fails : (p : Entry → Bool) (e : Entry) (es : List Entry) → p e ≡ false → filter p (e ∷ es) ≡ filter p es
fails p e es h = ap (λ (b : Bool). cond {A = List Entry} b (e ∷ filter p es) (filter p es)) h

pub one_more_passes : (p : Entry → Bool) (es : List Entry) (e : Entry) → p e ≡ true → filter p (es ++ (e ∷ [])) ≡ filter p es ++ (e ∷ [])
one_more_passes p es e h = filter-append p es (e ∷ []) ∙ ap (λ (xs : List Entry). filter p es ++ xs) (passes p e [] h)

pub one_more_fails : (p : Entry → Bool) (es : List Entry) (e : Entry) → p e ≡ false → filter p (es ++ (e ∷ [])) ≡ filter p es
one_more_fails p es e h = filter-append p es (e ∷ []) ∙ (ap (λ (xs : List Entry). filter p es ++ xs) (fails p e [] h) ∙ append-nil (filter p es))

-- an entry removed that doesn't pass
pub without_failing : (p : Entry → Bool) (slots : Slots) (i : ℕ) (cell : List ℕ) → cell_in slots i ≡ Some cell → p (entry_in cell) ≡ false → filter p (entries_in (set slots i None)) ≡ filter p (entries_in slots)
without_failing p [] i cell e h = refl
without_failing p (o ∷ slots) zero cell e h = subst (λ (x : Option (List ℕ)). filter p (entries_in slots) ≡ filter p (entries_in (x ∷ slots))) (sym e) (sym (fails p (entry_in cell) (entries_in slots) h))
without_failing p (None ∷ slots) (suc i) cell e h = without_failing p slots i cell e h
without_failing p (Some other ∷ slots) (suc i) cell e h = ap (λ (xs : List Entry). cond {A = List Entry} (p (entry_in other)) (entry_in other ∷ xs) xs) (without_failing p slots i cell e h)

-- where all pass
pub all_pass : (p : Entry → Bool) (slots : Slots) → ((i : ℕ) (cell : List ℕ) → cell_in slots i ≡ Some cell → p (entry_in cell) ≡ true) → filter p (entries_in slots) ≡ entries_in slots
all_pass p [] h = refl
all_pass p (None ∷ slots) h = all_pass p slots (λ i. h (suc i))
all_pass p (Some cell ∷ slots) h = passes p (entry_in cell) (entries_in slots) (h 0 cell refl) ∙ ap (λ (es : List Entry). entry_in cell ∷ es) (all_pass p slots (λ i. h (suc i)))

pub all_parts_pass : (p : Entry → Bool) (parts : List Slots) → ((i : ℕ) → i < length parts → filter p (entries_in (part_at parts i)) ≡ entries_in (part_at parts i)) → filter p (entries_of parts) ≡ entries_of parts
all_parts_pass p [] h = refl
all_parts_pass p (slots ∷ parts) h =
    let here : filter p (entries_in slots) ≡ entries_in slots = h 0 (omega arith) in
    let rest : filter p (entries_of parts) ≡ entries_of parts = all_parts_pass p parts (λ i below. h (suc i) (omega arith)) in
    filter-append p (entries_in slots) (entries_of parts) ∙ (ap (λ (xs : List Entry). xs ++ filter p (entries_of parts)) here ∙ ap (λ (xs : List Entry). entries_in slots ++ xs) rest)

-- a page with other slots of which as many pass, and a page less that had no entry
pub set_passes : (p : Entry → Bool) (parts : List Slots) (i : ℕ) (slots : Slots) → filter p (entries_in slots) ≡ filter p (entries_in (part_at parts i)) → filter p (entries_of (set parts i slots)) ≡ filter p (entries_of parts)
set_passes p [] i slots e = refl
set_passes p (first ∷ parts) zero slots e =
    filter-append p (entries_in slots) (entries_of parts) ∙ (ap (λ (xs : List Entry). xs ++ filter p (entries_of parts)) e ∙ sym (filter-append p (entries_in first) (entries_of parts)))
set_passes p (first ∷ parts) (suc i) slots e =
    filter-append p (entries_in first) (entries_of (set parts i slots)) ∙ (ap (λ (xs : List Entry). filter p (entries_in first) ++ xs) (set_passes p parts i slots e) ∙ sym (filter-append p (entries_in first) (entries_of parts)))

pub cut_passes : (p : Entry → Bool) (parts : List Slots) (i : ℕ) → filter p (entries_in (part_at parts i)) ≡ [] → filter p (entries_of (remove parts i)) ≡ filter p (entries_of parts)
cut_passes p [] i e = absurd_empty i
  where
    absurd_empty : (i : ℕ) → filter p (entries_of (remove [] i)) ≡ filter p (entries_of [])
    absurd_empty zero = refl
    absurd_empty (suc i) = refl
cut_passes p (first ∷ parts) zero e = sym (filter-append p (entries_in first) (entries_of parts) ∙ ap (λ (xs : List Entry). xs ++ filter p (entries_of parts)) e)
cut_passes p (first ∷ parts) (suc i) e =
    filter-append p (entries_in first) (entries_of (remove parts i)) ∙ (ap (λ (xs : List Entry). filter p (entries_in first) ++ xs) (cut_passes p parts i e) ∙ sym (filter-append p (entries_in first) (entries_of parts)))

-- a test passes no more of the entries that pass another
fewer_by : (p q : Entry → Bool) (e : Entry) (es : List Entry) (b : Bool) → q e ≡ b → count_by p (filter q es) ≤ count_by p es → count_by p (filter q (e ∷ es)) ≤ count_by p (e ∷ es)
fewer_by p q e es true t rest =
    let same : count_by p (filter q (e ∷ es)) ≡ count_by p (e ∷ filter q es) = ap (λ (xs : List Entry). count_by p xs) (passes q e es t) in
    let left : count_by p (e ∷ filter q es) ≡ cond {A = ℕ} (p e) 1 0 + count_by p (filter q es) = sum_by-cons (λ (x : Entry). cond {A = ℕ} (p x) 1 0) e (filter q es) in
    let right : count_by p (e ∷ es) ≡ cond {A = ℕ} (p e) 1 0 + count_by p es = sum_by-cons (λ (x : Entry). cond {A = ℕ} (p x) 1 0) e es in
    omega arith
fewer_by p q e es false t rest =
    let same : count_by p (filter q (e ∷ es)) ≡ count_by p (filter q es) = ap (λ (xs : List Entry). count_by p xs) (fails q e es t) in
    let right : count_by p (e ∷ es) ≡ cond {A = ℕ} (p e) 1 0 + count_by p es = sum_by-cons (λ (x : Entry). cond {A = ℕ} (p x) 1 0) e es in
    omega arith

pub count-filter : (p q : Entry → Bool) (es : List Entry) → count_by p (filter q es) ≤ count_by p es
count-filter p q [] = omega arith
count-filter p q (e ∷ es) = fewer_by p q e es (q e) refl (count-filter p q es)

-- each key is still that of one entry at most
pub once-filter : (q : Entry → Bool) (es : List Entry) → AreOnce es → AreOnce (filter q es)
once-filter q es once = λ key. let all = once key in let few = count-filter (has_key key) q es in omega arith

-- Where the test depends on the key alone, a key that passes has the value that it had, and another has none.
value_by : (q : List ℕ → Bool) (e : Entry) (es : List Entry) (key : List ℕ) (b c : Bool) → q e.key ≡ b → bytes_eq e.key key ≡ c → value_of (filter (λ (x : Entry). q x.key) es) key ≡ (if q key then value_of es key else None) → value_of (filter (λ (x : Entry). q x.key) (e ∷ es)) key ≡ (if q key then value_of (e ∷ es) key else None)
value_by q e es key true true t s rest =
    let yes : q key ≡ true = ap q (sym (equal_bytes e.key key s)) ∙ t in
    let left : value_of (filter (λ (x : Entry). q x.key) (e ∷ es)) key ≡ Some e.value = ap (λ (xs : List Entry). value_of xs key) (passes (λ (x : Entry). q x.key) e es t) ∙ ap (λ (b : Bool). if b then Some e.value else value_of (filter (λ (x : Entry). q x.key) es) key) s in
    let right : (if q key then value_of (e ∷ es) key else None) ≡ Some e.value = ap (λ (b : Bool). if b then value_of (e ∷ es) key else None) yes ∙ ap (λ (b : Bool). if b then Some e.value else value_of es key) s in
    left ∙ sym right
value_by q e es key true false t s rest =
    let left : value_of (filter (λ (x : Entry). q x.key) (e ∷ es)) key ≡ value_of (filter (λ (x : Entry). q x.key) es) key = ap (λ (xs : List Entry). value_of xs key) (passes (λ (x : Entry). q x.key) e es t) ∙ ap (λ (b : Bool). if b then Some e.value else value_of (filter (λ (x : Entry). q x.key) es) key) s in
    let right : value_of (e ∷ es) key ≡ value_of es key = ap (λ (b : Bool). if b then Some e.value else value_of es key) s in
    left ∙ (rest ∙ ap (λ (o : Option (List ℕ)). if q key then o else None) (sym right))
value_by q e es key false true t s rest =
    let no : q key ≡ false = ap q (sym (equal_bytes e.key key s)) ∙ t in
    let left : value_of (filter (λ (x : Entry). q x.key) (e ∷ es)) key ≡ value_of (filter (λ (x : Entry). q x.key) es) key = ap (λ (xs : List Entry). value_of xs key) (fails (λ (x : Entry). q x.key) e es t) in
    let none : (o : Option (List ℕ)) → (if q key then o else None) ≡ None = λ o. ap (λ (b : Bool). if b then o else None) no in
    left ∙ (rest ∙ (none (value_of es key) ∙ sym (none (value_of (e ∷ es) key))))
value_by q e es key false false t s rest =
    let left : value_of (filter (λ (x : Entry). q x.key) (e ∷ es)) key ≡ value_of (filter (λ (x : Entry). q x.key) es) key = ap (λ (xs : List Entry). value_of xs key) (fails (λ (x : Entry). q x.key) e es t) in
    let right : value_of (e ∷ es) key ≡ value_of es key = ap (λ (b : Bool). if b then Some e.value else value_of es key) s in
    left ∙ (rest ∙ ap (λ (o : Option (List ℕ)). if q key then o else None) (sym right))

pub value_of-filter : (q : List ℕ → Bool) (es : List Entry) (key : List ℕ) → value_of (filter (λ (x : Entry). q x.key) es) key ≡ (if q key then value_of es key else None)
value_of-filter q [] key = none (q key)
  where
    none : (b : Bool) → None ≡ (if b then value_of [] key else None)
    none true = refl
    none false = refl
value_of-filter q (e ∷ es) key = value_by q e es key (q e.key) (bytes_eq e.key key) refl refl (value_of-filter q es key)

-- sums over those that pass and those that don't add up to the sum over all
pub sums-filter : (q : List ℕ → Bool) (f : Entry → ℕ) (es : List Entry) → sum_by f (filter (λ (x : Entry). q x.key) es) + sum_by f (filter (λ (x : Entry). not (q x.key)) es) ≡ sum_by f es
sums-filter q f es = sum_by-filter_both (λ (x : Entry). q x.key) (λ (x : Entry). not (q x.key)) (λ x. refl) f es
