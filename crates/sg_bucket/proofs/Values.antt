-- The values of keys in lists of entries, by counting.
use Rattle.std.proofs.Common.{◌≡◌, ◌≢◌, ℕ, ◌+◌, ◌<◌, ◌≤◌, ◌&&◌, Bool, true, false, cond, if◌then◌else◌, List, [], ◌∷◌, Option, Some, None, sym, ap, ◌∙◌, refl, arith}
use Rattle.std.specs.List.{count_by}
use Rattle.std.specs.Str.{bytes_eq}
use Rattle.std.proofs.lemmas.List.Sums.{sum_by-cons}
use Rattle.std.proofs.lemmas.Slice.Eq.{bytes_eq-Decides}
use Rattle.sg_bucket.specs.Entry.{Entry, value_of, with_value, AreOnce, AreExchanged}

-- the entry has this key, and is this one
abbrev pub has_key : List ℕ → Entry → Bool
has_key key e = bytes_eq e.key key

abbrev pub is_entry : Entry → Entry → Bool
is_entry d e = bytes_eq e.key d.key && bytes_eq e.value d.value

pub same_bytes : (xs : List ℕ) → bytes_eq xs xs ≡ true
same_bytes xs = (bytes_eq-Decides xs xs).1 refl

pub equal_bytes : (xs ys : List ℕ) → bytes_eq xs ys ≡ true → xs ≡ ys
equal_bytes xs ys e = (bytes_eq-Decides xs ys).0 e

other_by : (xs ys : List ℕ) (b : Bool) → bytes_eq xs ys ≡ b → xs ≢ ys → b ≡ false
other_by xs ys true e ne = absurd (ne (equal_bytes xs ys e))
other_by xs ys false e ne = refl

pub other_bytes : (xs ys : List ℕ) → xs ≢ ys → bytes_eq xs ys ≡ false
other_bytes xs ys ne = other_by xs ys (bytes_eq xs ys) refl ne

-- one more entry is counted, or it isn't
pub count_yes : (p : Entry → Bool) (e : Entry) (es : List Entry) → p e ≡ true → count_by p (e ∷ es) ≡ 1 + count_by p es
count_yes p e es h = sum_by-cons (λ (x : Entry). cond {A = ℕ} (p x) 1 0) e es ∙ ap (λ (b : Bool). cond {A = ℕ} b 1 0 + count_by p es) h

pub count_no : (p : Entry → Bool) (e : Entry) (es : List Entry) → p e ≡ false → count_by p (e ∷ es) ≡ count_by p es
count_no p e es h = sum_by-cons (λ (x : Entry). cond {A = ℕ} (p x) 1 0) e es ∙ (ap (λ (b : Bool). cond {A = ℕ} b 1 0 + count_by p es) h ∙ omega arith)

less_by : (a b : Bool) → cond {A = ℕ} (a && b) 1 0 ≤ cond {A = ℕ} a 1 0
less_by true true = omega arith
less_by true false = omega arith
less_by false b = omega arith

-- an entry is counted with those of its key
pub fewer : (d : Entry) (es : List Entry) → count_by (is_entry d) es ≤ count_by (has_key d.key) es
fewer d [] = omega arith
fewer d (e ∷ es) =
    let rest = fewer d es in
    let left : count_by (is_entry d) (e ∷ es) ≡ cond {A = ℕ} (is_entry d e) 1 0 + count_by (is_entry d) es = sum_by-cons (λ (x : Entry). cond {A = ℕ} (is_entry d x) 1 0) e es in
    let right : count_by (has_key d.key) (e ∷ es) ≡ cond {A = ℕ} (has_key d.key e) 1 0 + count_by (has_key d.key) es = sum_by-cons (λ (x : Entry). cond {A = ℕ} (has_key d.key x) 1 0) e es in
    let one = less_by (bytes_eq e.key d.key) (bytes_eq e.value d.value) in
    omega arith

-- where no entry has the key there is no value, and the other way round
none_by : (key : List ℕ) (e : Entry) (es : List Entry) (b : Bool) → bytes_eq e.key key ≡ b → (count_by (has_key key) es ≡ 0 → value_of es key ≡ None) → count_by (has_key key) (e ∷ es) ≡ 0 → (if b then Some e.value else value_of es key) ≡ None
none_by key e es true t rest h = absurd (let more = count_yes (has_key key) e es t in omega arith)
none_by key e es false t rest h = rest (sym (count_no (has_key key) e es t) ∙ h)

pub none_of : (key : List ℕ) (es : List Entry) → count_by (has_key key) es ≡ 0 → value_of es key ≡ None
none_of key [] h = refl
none_of key (e ∷ es) h = none_by key e es (bytes_eq e.key key) refl (none_of key es) h

no_count_by : (key : List ℕ) (e : Entry) (es : List Entry) (b : Bool) → bytes_eq e.key key ≡ b → (value_of es key ≡ None → count_by (has_key key) es ≡ 0) → (if b then Some e.value else value_of es key) ≡ None → count_by (has_key key) (e ∷ es) ≡ 0
no_count_by key e es true t rest h = absurd (cc)
no_count_by key e es false t rest h = count_no (has_key key) e es t ∙ rest h

pub no_count : (key : List ℕ) (es : List Entry) → value_of es key ≡ None → count_by (has_key key) es ≡ 0
no_count key [] h = refl
no_count key (e ∷ es) h = no_count_by key e es (bytes_eq e.key key) refl (no_count key es) h

-- a value is that of an entry
some_by : (d e : Entry) (es : List Entry) (b : Bool) → bytes_eq e.key d.key ≡ b → (value_of es d.key ≡ Some d.value → 0 < count_by (is_entry d) es) → (if b then Some e.value else value_of es d.key) ≡ Some d.value → 0 < count_by (is_entry d) (e ∷ es)
some_by d e es true t rest h =
    let same : e.value ≡ d.value = cc in
    let value : bytes_eq e.value d.value ≡ true = (bytes_eq-Decides e.value d.value).1 same in
    let is : is_entry d e ≡ true = ap (λ (b : Bool). b && bytes_eq e.value d.value) t ∙ value in
    let more = count_yes (is_entry d) e es is in omega arith
some_by d e es false t rest h =
    let is : is_entry d e ≡ false = ap (λ (b : Bool). b && bytes_eq e.value d.value) t in
    let more = count_no (is_entry d) e es is in
    let later = rest h in omega arith

pub entry_of : (d : Entry) (es : List Entry) → value_of es d.key ≡ Some d.value → 0 < count_by (is_entry d) es
entry_of d [] h = absurd (cc)
entry_of d (e ∷ es) h = some_by d e es (bytes_eq e.key d.key) refl (entry_of d es) h

-- and the other way round where each key is that of one entry
pub once_rest : (e : Entry) (es : List Entry) → AreOnce (e ∷ es) → AreOnce es
once_rest e es h = λ key.
    let all = h key in
    let sum : count_by (has_key key) (e ∷ es) ≡ cond {A = ℕ} (has_key key e) 1 0 + count_by (has_key key) es = sum_by-cons (λ (x : Entry). cond {A = ℕ} (has_key key x) 1 0) e es in
    omega arith

value_by : (d e : Entry) (es : List Entry) (b : Bool) → bytes_eq e.value d.value ≡ b → bytes_eq e.key d.key ≡ true → AreOnce (e ∷ es) → 0 < count_by (is_entry d) (e ∷ es) → Some e.value ≡ Some d.value
value_by d e es true t k once h = ap Some (equal_bytes e.value d.value t)
value_by d e es false t k once h =
    let is : is_entry d e ≡ false = ap (λ (b : Bool). b && bytes_eq e.value d.value) k ∙ t in
    let later = count_no (is_entry d) e es is in
    let all = once d.key in
    let first = count_yes (has_key d.key) e es k in
    let few = fewer d es in
    absurd (omega arith)

value_if : (d e : Entry) (es : List Entry) (b : Bool) → bytes_eq e.key d.key ≡ b → AreOnce (e ∷ es) → (0 < count_by (is_entry d) es → value_of es d.key ≡ Some d.value) → 0 < count_by (is_entry d) (e ∷ es) → (if b then Some e.value else value_of es d.key) ≡ Some d.value
value_if d e es true t once rest h = value_by d e es (bytes_eq e.value d.value) refl t once h
value_if d e es false t once rest h =
    let is : is_entry d e ≡ false = ap (λ (b : Bool). b && bytes_eq e.value d.value) t in
    let later = count_no (is_entry d) e es is in
    rest (omega arith)

pub value_there : (d : Entry) (es : List Entry) → AreOnce es → 0 < count_by (is_entry d) es → value_of es d.key ≡ Some d.value
value_there d [] once h = absurd (omega arith)
value_there d (e ∷ es) once h = value_if d e es (bytes_eq e.key d.key) refl once (value_there d es (once_rest e es once)) h

-- lists that count alike at a key have the same value there
alike_by : (key : List ℕ) (old new : List Entry) (o : Option (List ℕ)) → value_of old key ≡ o → AreOnce new → count_by (has_key key) new ≡ count_by (has_key key) old → ((v : List ℕ) → count_by (is_entry (record { key = key; value = v })) new ≡ count_by (is_entry (record { key = key; value = v })) old) → value_of new key ≡ o
alike_by key old new None e once keys entries = none_of key new (keys ∙ no_count key old e)
alike_by key old new (Some v) e once keys entries =
    let d : Entry = record { key = key; value = v } in
    let some : 0 < count_by (is_entry d) old = entry_of d old e in
    let same : count_by (is_entry d) new ≡ count_by (is_entry d) old = entries v in
    value_there d new once (omega arith)

pub alike : (key : List ℕ) (old new : List Entry) → AreOnce new → count_by (has_key key) new ≡ count_by (has_key key) old → ((v : List ℕ) → count_by (is_entry (record { key = key; value = v })) new ≡ count_by (is_entry (record { key = key; value = v })) old) → value_of new key ≡ value_of old key
alike key old new once keys entries = alike_by key old new (value_of old key) refl once keys entries

one_is : (p : Entry → Bool) (e : Entry) (b : Bool) → p e ≡ b → count_by p (e ∷ []) ≡ cond {A = ℕ} b 1 0
one_is p e true t = count_yes p e [] t
one_is p e false t = count_no p e [] t

-- what an exchange at one key does to the values
record IsAt (key : List ℕ) (es : List Entry) : Type 0 where
  others : (p : Entry → Bool) → ((e : Entry) → e.key ≡ key → p e ≡ false) → count_by p es ≡ 0

at_none : (key : List ℕ) → IsAt key []
at_none key = record { others = λ p h. refl }

at_one : (key : List ℕ) (e : Entry) → e.key ≡ key → IsAt key (e ∷ [])
at_one key e h = record { others = λ p differs. count_no p e [] (differs e h) }

elsewhere : (key other : List ℕ) (old new gone come : List Entry) → AreExchanged old new gone come → IsAt key gone → IsAt key come → AreOnce new → key ≢ other → value_of new other ≡ value_of old other
elsewhere key other old new gone come x g c once ne = alike other old new once
    (count (has_key other) (λ e same. other_bytes e.key other (λ eq. ne (sym same ∙ eq))))
    (λ v. count (is_entry (record { key = other; value = v })) (λ e same. ap (λ (b : Bool). b && bytes_eq e.value v) (other_bytes e.key other (λ eq. ne (sym same ∙ eq)))))
  where
    count : (p : Entry → Bool) → ((e : Entry) → e.key ≡ key → p e ≡ false) → count_by p new ≡ count_by p old
    count p differs =
        let sum : count_by p new + count_by p gone ≡ count_by p old + count_by p come = x.sums (λ e. cond {A = ℕ} (p e) 1 0) in
        let a = g.others p differs in
        let b = c.others p differs in
        omega arith

-- the values are those from before, but at one key
changed_by : (key : List ℕ) (value : Option (List ℕ)) (values : List ℕ → Option (List ℕ)) (new : List ℕ → Option (List ℕ)) (other : List ℕ) (b : Bool) → bytes_eq key other ≡ b → new key ≡ value → (key ≢ other → new other ≡ values other) → new other ≡ (if b then value else values other)
changed_by key value values new other true t here there = ap new (sym (equal_bytes key other t)) ∙ here
changed_by key value values new other false t here there = there (λ e. no (sym t ∙ (bytes_eq-Decides key other).1 e))
  where
    no : false ≡ true → ⊥
    no e = cc

pub changed : (key : List ℕ) (value : Option (List ℕ)) (values new : List ℕ → Option (List ℕ)) → new key ≡ value → ((other : List ℕ) → key ≢ other → new other ≡ values other) → new ≡ with_value values key value
changed key value values new here there = λ i other. at other i
  where
    at : (other : List ℕ) → new other ≡ with_value values key value other
    at other = changed_by key value values new other (bytes_eq key other) refl here (there other)

-- What a change of a list of entries leaves: each key once, and other values.
pub record IsMap (old new : List Entry) (key : List ℕ) (value : Option (List ℕ)) : Type 0 where
  pub once : AreOnce new
  pub values : value_of new ≡ with_value (value_of old) key value

has_self : (e : Entry) → has_key e.key e ≡ true
has_self e = same_bytes e.key

pub is_self : (e : Entry) → is_entry e e ≡ true
is_self e = ap (λ (b : Bool). b && bytes_eq e.value e.value) (same_bytes e.key) ∙ same_bytes e.value

-- a new entry
pub put_new : (e : Entry) (old new : List Entry) → AreExchanged old new [] (e ∷ []) → AreOnce old → count_by (has_key e.key) old ≡ 0 → IsMap old new e.key (Some e.value)
put_new e old new x once lacks = record {
  once = all;
  values = changed e.key (Some e.value) (value_of old) (value_of new) (value_there e new all there) (λ other ne. elsewhere e.key other old new [] (e ∷ []) x (at_none e.key) (at_one e.key e refl) all ne);
}
  where
    one : (key : List ℕ) (b : Bool) → bytes_eq e.key key ≡ b → count_by (has_key key) new ≤ 1
    one key true t =
        let same : count_by (has_key key) old ≡ 0 = ap (λ (k : List ℕ). count_by (has_key k) old) (sym (equal_bytes e.key key t)) ∙ lacks in
        let come = one_is (has_key key) e true t in
        let sum : count_by (has_key key) new + 0 ≡ count_by (has_key key) old + count_by (has_key key) (e ∷ []) = x.sums (λ d. cond {A = ℕ} (has_key key d) 1 0) in
        omega arith
    one key false t =
        let few = once key in
        let come = one_is (has_key key) e false t in
        let sum : count_by (has_key key) new + 0 ≡ count_by (has_key key) old + count_by (has_key key) (e ∷ []) = x.sums (λ d. cond {A = ℕ} (has_key key d) 1 0) in
        omega arith

    all : AreOnce new
    all key = one key (bytes_eq e.key key) refl

    there : 0 < count_by (is_entry e) new
    there =
        let come = one_is (is_entry e) e true (is_self e) in
        let sum : count_by (is_entry e) new + 0 ≡ count_by (is_entry e) old + count_by (is_entry e) (e ∷ []) = x.sums (λ d. cond {A = ℕ} (is_entry e d) 1 0) in
        omega arith

-- another entry of the same key
pub put_over : (d e : Entry) (old new : List Entry) → AreExchanged old new (d ∷ []) (e ∷ []) → d.key ≡ e.key → AreOnce old → IsMap old new e.key (Some e.value)
put_over d e old new x same once = record {
  once = all;
  values = changed e.key (Some e.value) (value_of old) (value_of new) (value_there e new all there) (λ other ne. elsewhere e.key other old new (d ∷ []) (e ∷ []) x (at_one e.key d same) (at_one e.key e refl) all ne);
}
  where
    all : AreOnce new
    all key =
        let few = once key in
        let gone = one_is (has_key key) d (bytes_eq e.key key) (ap (λ (k : List ℕ). bytes_eq k key) same) in
        let come = one_is (has_key key) e (bytes_eq e.key key) refl in
        let sum : count_by (has_key key) new + count_by (has_key key) (d ∷ []) ≡ count_by (has_key key) old + count_by (has_key key) (e ∷ []) = x.sums (λ d. cond {A = ℕ} (has_key key d) 1 0) in
        omega arith

    there : 0 < count_by (is_entry e) new
    there =
        let come = one_is (is_entry e) e true (is_self e) in
        let had : count_by (is_entry e) (d ∷ []) ≤ count_by (is_entry e) old = x.had (λ d. cond {A = ℕ} (is_entry e d) 1 0) in
        let sum : count_by (is_entry e) new + count_by (is_entry e) (d ∷ []) ≡ count_by (is_entry e) old + count_by (is_entry e) (e ∷ []) = x.sums (λ d. cond {A = ℕ} (is_entry e d) 1 0) in
        omega arith

-- an entry less
pub taken_out : (d : Entry) (old new : List Entry) → AreExchanged old new (d ∷ []) [] → AreOnce old → IsMap old new d.key None
taken_out d old new x once = record {
  once = all;
  values = changed d.key None (value_of old) (value_of new) (none_of d.key new gone) (λ other ne. elsewhere d.key other old new (d ∷ []) [] x (at_one d.key d refl) (at_none d.key) all ne);
}
  where
    sums : (key : List ℕ) → count_by (has_key key) new + count_by (has_key key) (d ∷ []) ≡ count_by (has_key key) old + 0
    sums key = x.sums (λ d. cond {A = ℕ} (has_key key d) 1 0)

    all : AreOnce new
    all key = let few = once key in let sum = sums key in omega arith

    gone : count_by (has_key d.key) new ≡ 0
    gone =
        let few = once d.key in
        let one = one_is (has_key d.key) d true (has_self d) in
        let sum = sums d.key in
        omega arith
