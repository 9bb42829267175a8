-- What parts come to, added one after another.
use Rattle.std.proofs.Common.{◌≡◌, ℕ, zero, suc, ◌+◌, ◌*◌, ◌/◌, ◌%◌, ◌^◌, ◌≤◌, ◌==◌, arith, Bool, true, false, cond, ◌&&◌, List, [], ◌∷◌, ◌++◌, length, map, take, drop, slice_index_or, Result, Ok, sym, refl, ap, ◌∙◌}
use Rattle.std.specs.Prelude.{sum}
use Rattle.std.specs.List.{flat_map, list_all, sum_by}
use Rattle.std.specs.FinMap.{entries}
use Rattle.std.proofs.lemmas.Bool.{eqb-true}
use Rattle.std.proofs.lemmas.List.{take_all}
use Rattle.std.proofs.lemmas.List.Sums.{sum_by-append, sum_by-cons, sum_by_push}
use Rattle.std.proofs.Math.Seq.{take-add, take-length, take-suc}
use Rattle.sg_model.specs.Objects.{Object}
use Rattle.sg_model.specs.Objects.Object.{Array, Table, Blob}
use Rattle.sg_lines.specs.declared.summary.Summary.{Summary}
use Rattle.sg_lines.specs.Added.{objects_in, items_in, entries_in, bytes_in, sum_in, summary_of_parts}
use Rattle.sg_lines.specs.Claims.{PartsMakeSummary}
use Rattle.sg_lines.specs.Heard.{Ears, Hears}
use Rattle.sg_lines.specs.Parts.{Part, item_parts, entry_part, piece_part, piece_parts, contents_of, beginning, parts_of_object, parts_of_all}
use Rattle.sg_lines.specs.Parts.Part.{AnItem, AnEntry, APiece}
use Rattle.sg_lines.specs.Summed.{counted, both, items_of, entries_of, bytes_of, sum_of, sum_of_entry}
use Rattle.sg_lines.specs.Text.{is_zero}
use Rattle.sg_lines.proofs.Summing.{same_summary}

-- what is added is what a part comes to
counts_one : (s a n : ℕ) → a ≡ n → counted (s + a) ≡ counted (s + counted (0 + n))
counts_one s a n e = omega (arith, e)

sums_one : (s a n : ℕ) → a % 2 ^ 64 ≡ n % 2 ^ 64 → (s + a) % 2 ^ 64 ≡ (s + (0 + n) % 2 ^ 64) % 2 ^ 64
sums_one s a n e = omega (arith, e)

pub added : (s a : Summary) (part : Part) → a.objects ≡ objects_in part → a.items ≡ items_in part → a.entries ≡ entries_in part → a.bytes ≡ bytes_in part → a.sum % 2 ^ 64 ≡ sum_in part % 2 ^ 64
    → both s a ≡ both s (summary_of_parts (part ∷ []))
added s a part o i k b t = same_summary _ _ _ _ _ _ _ _ _ _ (counts_one s.objects a.objects (objects_in part) o) (counts_one s.items a.items (items_in part) i)
    (counts_one s.entries a.entries (entries_in part) k) (counts_one s.bytes a.bytes (bytes_in part) b) (sums_one s.sum a.sum (sum_in part) t)

-- some parts, and others behind them
counts_more : (s x y z : ℕ) → z ≡ x + y → counted (counted (s + counted x) + counted y) ≡ counted (s + counted z)
counts_more s x y z e = omega (arith, e)

sums_more : (s x y z : ℕ) → z ≡ x + y → ((s + x % 2 ^ 64) % 2 ^ 64 + y % 2 ^ 64) % 2 ^ 64 ≡ (s + z % 2 ^ 64) % 2 ^ 64
sums_more s x y z e = omega (arith, e)

pub more_added : (s : Summary) (xs ys : List Part) → both (both s (summary_of_parts xs)) (summary_of_parts ys) ≡ both s (summary_of_parts (xs ++ ys))
more_added s xs ys = same_summary _ _ _ _ _ _ _ _ _ _
    (counts_more s.objects (sum_by objects_in xs) (sum_by objects_in ys) (sum_by objects_in (xs ++ ys)) (sum_by-append objects_in xs ys))
    (counts_more s.items (sum_by items_in xs) (sum_by items_in ys) (sum_by items_in (xs ++ ys)) (sum_by-append items_in xs ys))
    (counts_more s.entries (sum_by entries_in xs) (sum_by entries_in ys) (sum_by entries_in (xs ++ ys)) (sum_by-append entries_in xs ys))
    (counts_more s.bytes (sum_by bytes_in xs) (sum_by bytes_in ys) (sum_by bytes_in (xs ++ ys)) (sum_by-append bytes_in xs ys))
    (sums_more s.sum (sum_by sum_in xs) (sum_by sum_in ys) (sum_by sum_in (xs ++ ys)) (sum_by-append sum_in xs ys))

-- nothing, and some parts behind it
counts_all : (n : ℕ) → counted (counted 0 + counted n) ≡ counted n
counts_all n = omega arith

sums_all : (n : ℕ) → (0 % 2 ^ 64 + n % 2 ^ 64) % 2 ^ 64 ≡ n % 2 ^ 64
sums_all n = omega arith

pub mod_twice : (a n : ℕ) → a ≡ n % 2 ^ 64 → a % 2 ^ 64 ≡ n % 2 ^ 64
mod_twice a n e = omega (arith, e)

pub mod_both : (a b k v : ℕ) → a ≡ k % 2 ^ 64 → b ≡ v % 2 ^ 64 → ((a + b) % 2 ^ 64) % 2 ^ 64 ≡ (k + v) % 2 ^ 64
mod_both a b k v e h = omega (arith, e, h)

pub all_added : (parts : List Part) → both (summary_of_parts []) (summary_of_parts parts) ≡ summary_of_parts parts
all_added parts = same_summary _ _ _ _ _ _ _ _ _ _ (counts_all (sum_by objects_in parts)) (counts_all (sum_by items_in parts)) (counts_all (sum_by entries_in parts)) (counts_all (sum_by bytes_in parts)) (sums_all (sum_by sum_in parts))

-- a listener that adds, and never fails
abbrev pub adding : {S : Type 0} → (S → Summary) → Ears S
adding all = record {
  heard = λ from parts to. all to ≡ both (all from) (summary_of_parts parts);
  cut = λ from parts to. ⊥;
  faults = λ s. 0;
  who = λ s. 0;
}

pub heard_part : {S T E : Type 0} (all : S → Summary) (old new : S) (part : Part) (x : T) → all new ≡ both (all old) (summary_of_parts (part ∷ [])) → Hears {E = E} (adding all) old (part ∷ []) new (Ok x)
heard_part all old new part x e = record {
  heard = λ from before h. e ∙ (ap (λ (s : Summary). both s (summary_of_parts (part ∷ []))) h ∙ more_added (all from) before (part ∷ []));
  cut = tt;
  later = omega arith;
  quiet = refl;
  failed = tt;
  same = refl;
}

zero_both : (a b : ℕ) → a ≡ 0 → b ≡ 0 → a + b ≡ 0
zero_both a b e h = omega (arith, e, h)

zero_right : (a b : ℕ) → b ≡ 0 → a + b ≡ a
zero_right a b e = omega (arith, e)

-- CONTENTS have no object, item, key or byte but those that their object began with
module _ (f : Part → ℕ) (item : (i : ℕ) (x : List ℕ) → f (AnItem i x) ≡ 0) (entry : (k v : List ℕ) → f (AnEntry k v) ≡ 0) (piece : (at : ℕ) (x : List ℕ) → f (APiece at x) ≡ 0) where
  no_items : (n : ℕ) (items : List (List ℕ)) → sum_by f (item_parts n items) ≡ 0
  unfolding item_parts
  no_items zero items = refl
  no_items (suc n) items =
      let x = slice_index_or items n [] in
      sum_by_push f (item_parts n items) (AnItem n x) ∙ zero_both (sum_by f (item_parts n items)) (f (AnItem n x)) (no_items n items) (item n x)

  no_entries : (es : List (List ℕ × List ℕ)) → sum_by f (map entry_part es) ≡ 0
  no_entries [] = refl
  no_entries (e ∷ es) = sum_by-cons f (entry_part e) (map entry_part es) ∙ zero_both (f (entry_part e)) (sum_by f (map entry_part es)) (entry e.0 e.1) (no_entries es)

  no_piece : (at : ℕ) (x : List ℕ) (b : Bool) → sum_by f (cond b [] (APiece at x ∷ [])) ≡ 0
  no_piece at x true = refl
  no_piece at x false = sum_by-cons f (APiece at x) [] ∙ zero_both (f (APiece at x)) 0 (piece at x) refl

  no_pieces : (n : ℕ) (bytes : List ℕ) → sum_by f (piece_parts n bytes) ≡ 0
  unfolding piece_parts
  no_pieces zero bytes = refl
  no_pieces (suc n) bytes =
      let x = take 32 (drop (32 * n) bytes) in
      sum_by-append f (piece_parts n bytes) (piece_part (32 * n) x)
      ∙ zero_both (sum_by f (piece_parts n bytes)) (sum_by f (piece_part (32 * n) x)) (no_pieces n bytes) (no_piece (32 * n) x (list_all is_zero x))

  no_contents : (o : Object) → sum_by f (contents_of o) ≡ 0
  no_contents (Array row) = no_items (length row.items) row.items
  no_contents (Table m) = no_entries (entries m)
  no_contents (Blob bytes) = no_pieces ((length bytes + 31) / 32) bytes

  -- so an object's parts have what it begins with
  begins : (name : List ℕ) (o : Object) → sum_by f (parts_of_object name o) ≡ f (beginning name o)
  begins name o = sum_by-cons f (beginning name o) (contents_of o) ∙ zero_right (f (beginning name o)) (sum_by f (contents_of o)) (no_contents o)

-- the sums of bytes
same_sums : (a b c d : ℕ) → a ≡ c → b ≡ d → a + b ≡ c + d
same_sums a b c d e h = omega (arith, e, h)

items_sum : (n : ℕ) (items : List (List ℕ)) → n ≤ length items → sum_by sum_in (item_parts n items) ≡ sum_by sum (take n items)
unfolding item_parts
items_sum zero items le = refl
items_sum (suc n) items le =
    let x = slice_index_or items n [] in
    let rest : sum_by sum_in (item_parts n items) ≡ sum_by sum (take n items) = items_sum n items (omega arith) in
    let front : take (suc n) items ≡ take n items ++ x ∷ [] = take-suc items n [] (omega arith) in
    let whole : sum_by sum (take (suc n) items) ≡ sum_by sum (take n items) + sum x = ap (λ (xs : List (List ℕ)). sum_by sum xs) front ∙ sum_by_push sum (take n items) x in
    sum_by_push sum_in (item_parts n items) (AnItem n x) ∙ (same_sums (sum_by sum_in (item_parts n items)) (sum x) (sum_by sum (take n items)) (sum x) rest refl ∙ sym whole)

entries_sum : (es : List (List ℕ × List ℕ)) → sum_by sum_in (map entry_part es) ≡ sum_by sum_of_entry es
entries_sum [] = refl
entries_sum (e ∷ es) = sum_by-cons sum_in (entry_part e) (map entry_part es)
    ∙ (same_sums (sum_of_entry e) (sum_by sum_in (map entry_part es)) (sum_of_entry e) (sum_by sum_of_entry es) refl (entries_sum es) ∙ sym (sum_by-cons sum_of_entry e es))

zero_byte : (b : ℕ) (x : List ℕ) (z : Bool) → (b == 0) ≡ z → (z && list_all is_zero x) ≡ true → (list_all is_zero x ≡ true → sum x ≡ 0) → sum (b ∷ x) ≡ 0
zero_byte b x true is all rest = sum_by-cons (λ n. n) b x ∙ zero_both b (sum x) (eqb-true b 0 is) (rest all)
zero_byte b x false is all rest = absurd (cc)

zeros_sum : (x : List ℕ) → list_all is_zero x ≡ true → sum x ≡ 0
zeros_sum [] e = refl
zeros_sum (b ∷ x) e = zero_byte b x (b == 0) refl e (zeros_sum x)

piece_sum : (at : ℕ) (x : List ℕ) (b : Bool) → list_all is_zero x ≡ b → sum_by sum_in (cond b [] (APiece at x ∷ [])) ≡ sum x
piece_sum at x true is = sym (zeros_sum x is)
piece_sum at x false is = sum_by-cons sum_in (APiece at x) [] ∙ zero_right (sum x) 0 refl

pieces_sum : (n : ℕ) (bytes : List ℕ) → sum_by sum_in (piece_parts n bytes) ≡ sum (take (32 * n) bytes)
unfolding piece_parts
pieces_sum zero bytes = refl
pieces_sum (suc n) bytes =
    let x = take 32 (drop (32 * n) bytes) in
    let size : 32 * suc n ≡ 32 * n + 32 = omega arith in
    let whole : sum (take (32 * suc n) bytes) ≡ sum (take (32 * n) bytes) + sum x =
    ap (λ m. sum (take m bytes)) size ∙ (ap sum (take-add (32 * n) 32 bytes) ∙ sum_by-append (λ m. m) (take (32 * n) bytes) x) in
    sum_by-append sum_in (piece_parts n bytes) (piece_part (32 * n) x)
    ∙ (same_sums (sum_by sum_in (piece_parts n bytes)) (sum_by sum_in (piece_part (32 * n) x)) (sum (take (32 * n) bytes)) (sum x) (pieces_sum n bytes) (piece_sum (32 * n) x (list_all is_zero x) refl) ∙ sym whole)

all_bytes : (bytes : List ℕ) → length bytes ≤ 32 * ((length bytes + 31) / 32)
all_bytes bytes = omega arith

object_sum : (name : List ℕ) (o : Object) → sum_by sum_in (parts_of_object name o) ≡ sum_of o
object_sum name (Array row) =
    let parts = items_sum (length row.items) row.items (omega arith) in
    let all = ap (λ (xs : List (List ℕ)). sum_by sum xs) (take-length row.items) in
    omega (arith, parts, all)
object_sum name (Table m) = let parts = entries_sum (entries m) in omega (arith, parts)
object_sum name (Blob bytes) =
    let n = (length bytes + 31) / 32 in
    let parts = pieces_sum n bytes in
    let all = ap sum (take_all (32 * n) bytes (all_bytes bytes)) in
    omega (arith, parts, all)

-- of all objects
all_parts : (f : Part → ℕ) (of : Object → ℕ) → ((name : List ℕ) (o : Object) → sum_by f (parts_of_object name o) ≡ of o) → (es : List (List ℕ × Object)) → sum_by f (parts_of_all es) ≡ sum_by (λ e. of e.1) es
all_parts f of one [] = refl
all_parts f of one (e ∷ es) =
    let at : List ℕ × Object → ℕ = λ e. of e.1 in
    sum_by-append f (parts_of_object e.0 e.1) (parts_of_all es)
    ∙ (same_sums (sum_by f (parts_of_object e.0 e.1)) (sum_by f (parts_of_all es)) (of e.1) (sum_by at es) (one e.0 e.1) (all_parts f of one es) ∙ sym (sum_by-cons at e es))

one_object : (name : List ℕ) (o : Object) → objects_in (beginning name o) ≡ 1
one_object name (Array row) = refl
one_object name (Table m) = refl
one_object name (Blob bytes) = refl

its_items : (name : List ℕ) (o : Object) → items_in (beginning name o) ≡ items_of o
its_items name (Array row) = refl
its_items name (Table m) = refl
its_items name (Blob bytes) = refl

its_entries : (name : List ℕ) (o : Object) → entries_in (beginning name o) ≡ entries_of o
its_entries name (Array row) = refl
its_entries name (Table m) = refl
its_entries name (Blob bytes) = refl

its_bytes : (name : List ℕ) (o : Object) → bytes_in (beginning name o) ≡ bytes_of o
its_bytes name (Array row) = refl
its_bytes name (Table m) = refl
its_bytes name (Blob bytes) = refl

one_more : (a b : ℕ) → a ≡ b → 1 + a ≡ suc b
one_more a b e = omega (arith, e)

count_ones : (es : List (List ℕ × Object)) → sum_by (λ e. 1) es ≡ length es
count_ones [] = refl
count_ones (e ∷ es) = let rest = count_ones es in sum_by-cons (λ (e : List ℕ × Object). 1) e es ∙ one_more (sum_by (λ (e : List ℕ × Object). 1) es) (length es) rest

pub parts_summary : PartsMakeSummary
parts_summary objects =
    let es = entries objects in
    let o = all_parts objects_in (λ o. 1) (λ name o. begins objects_in (λ i x. refl) (λ k v. refl) (λ at x. refl) name o ∙ one_object name o) es ∙ count_ones es in
    let i = all_parts items_in items_of (λ name o. begins items_in (λ i x. refl) (λ k v. refl) (λ at x. refl) name o ∙ its_items name o) es in
    let k = all_parts entries_in entries_of (λ name o. begins entries_in (λ i x. refl) (λ k v. refl) (λ at x. refl) name o ∙ its_entries name o) es in
    let b = all_parts bytes_in bytes_of (λ name o. begins bytes_in (λ i x. refl) (λ k v. refl) (λ at x. refl) name o ∙ its_bytes name o) es in
    let s = all_parts sum_in sum_of object_sum es in
    same_summary _ _ _ _ _ _ _ _ _ _ (ap counted (sym o)) (ap counted (sym i)) (ap counted (sym k)) (ap counted (sym b)) (ap (λ n. n % 2 ^ 64) (sym s))
