-- The keys of tables, and the names of objects, in order.
use Rattle.std.proofs.Common.{◌≡◌, ℕ, ◌+◌, ◌≤◌, cond, ◌&&◌, List, [], ◌∷◌, map, Option, Some, None, is_some, is_none, sum_by, count_by, filter, refl, arith, sym, ap, ◌∙◌, subst, Ok, Err, IsPermutation, IsSorted}
use Rattle.std.specs.Prelude.{Result, IsOk, IfErr}
use Rattle.std.specs.Result.{IsErrAnd}
use Rattle.sg_space.specs.declared.space.ListFault.{ListFault}
use Rattle.sg_space.specs.declared.space.ListFault.TheVariants.{Memory, Space as InSpace}
use Rattle.sg_space.specs.declared.space.SpaceFault.{SpaceFault}
use Rattle.std.specs.Str.{bytes_eq}
use Rattle.std.specs.Cmp.Lexicographic.{nat_list_cmp_total}
use Rattle.std.specs.FinMap.{get, keys, find, get-from_entries}
use Rattle.std.proofs.lemmas.List.Sums.{sum_by-cons}
use Rattle.sg_base.specs.declared.numbers.TxnId.{TxnId}
use Rattle.sg_ops.specs.Table.{Table as Operations}
use Rattle.sg_bucket.specs.Division.{keys_of}
use Rattle.sg_bucket.specs.Entry.{Entry, AreOnce}
use Rattle.sg_catalog.specs.Catalog.{rows, is_there}
use Rattle.sg_catalog.specs.Look.{names_of, is_object}
use Rattle.sg_catalog.specs.declared.row.ObjectKind.TheVariants as kinds
use Rattle.sg_catalog.specs.declared.row.Row.{Row}
use Rattle.sg_hash.specs.Table.{HashTable, entries}
use Rattle.sg_model.specs.Step.{on}
use Rattle.sg_model.specs.Verb.{Outcome}
use Rattle.sg_model.specs.Verb.Verb.{Keys}
use Rattle.sg_model.specs.Verb.Reply.{Several}
use Rattle.sg_reading.specs.Reading.{Thing, objects, plain}
use Rattle.sg_reading.proofs.Slotted.{get_objects}
use Rattle.sg_model.specs.declared.reason.Reason.{Reason}
use Rattle.sg_space.specs.View.{Space}
use Rattle.sg_contents.specs.Standing.{Body, Contents, IsContents}
use Rattle.sg_contents.specs.Standing.Body.{ATable}
use Rattle.sg_contents.specs.Meaning.{pair_of, map_of, thing_at, if_object, things_of, reading}
use Rattle.sg_objects.specs.Found.{IsAt, IsMissing}
use Rattle.sg_objects.proofs.Ordered.{order, named, sorted_keys}
use Rattle.sg_objects.proofs.Tables.{table_under, missing_table}

-- A TABLE'S KEYS
pairs_keys : (es : List Entry) → map (λ e. e.0) (map pair_of es) ≡ keys_of es
pairs_keys [] = refl
pairs_keys (e ∷ es) = ap (λ ks. e.key ∷ ks) (pairs_keys es)

key_count : (q : List ℕ) (es : List Entry) → sum_by (named q) (keys_of es) ≡ count_by (λ e. bytes_eq e.key q) es
key_count q [] = refl
key_count q (e ∷ es) = sum_by-cons (named q) e.key (keys_of es) ∙ (ap (λ (n : ℕ). named q e.key + n) (key_count q es) ∙ sym (sum_by-cons (λ (x : Entry). cond (bytes_eq x.key q) 1 0) e es))

get_pairs : (t : HashTable) (q : List ℕ) → get (map_of t) q ≡ find order q (map pair_of (entries t))
unfolding map_of
get_pairs t q = get-from_entries nat_list_cmp_total (map pair_of (entries t)) q

pub table_keys : (t : HashTable) (ks : List (List ℕ)) → AreOnce (entries t) → IsPermutation (keys_of (entries t)) ks → IsSorted order ks → ks ≡ keys (map_of t)
table_keys t ks once p s =
    let e = pairs_keys (entries t) in
    sorted_keys (map pair_of (entries t)) ks (map_of t) (λ q. ap is_some (get_pairs t q))
    (λ q. subst (λ (n : ℕ). n ≤ 1) (sym (ap (sum_by (named q)) e ∙ key_count q (entries t))) (once q))
    (subst (λ (xs : List (List ℕ)). IsPermutation xs ks) (sym e) p) s

pub keys_said : {s : Contents} {name : List ℕ} {root : ℕ} {a : HashTable} (t : Operations) (ks : List (List ℕ)) → IsAt kinds.Table s name root → s.body root ≡ ATable a → ks ≡ keys (map_of a) → (on t Keys (plain (get (reading s).things name))).0 ≡ Ok (Several ks)
keys_said {root = root} {a = a} t ks f is e = ap (λ (th : Option Thing). (on t Keys (plain th)).0) (table_under f is) ∙ ap (λ (xs : List (List ℕ)). (let o : Outcome = Ok (Several xs) in o)) (sym e)

-- so there is a reply
pub keys_reply : {s : Contents} {name : List ℕ} {root : ℕ} {a : HashTable} (t : Operations) → IsAt kinds.Table s name root → s.body root ≡ ATable a → IsOk (on t Keys (plain (get (reading s).things name))).0
keys_reply {a = a} t f is = subst (λ (o : Outcome). IsOk o) (sym (keys_said t (keys (map_of a)) f is refl)) refl

-- WHY THERE IS NO LIST: a fault that is handed on, and one of the space, which is no want of memory
pub handed_on : {T : Type 0} (result : Result T ListFault) (fault : ListFault) (P : Type 0) → IsErrAnd result (λ e. e ≡ fault) → (fault ≡ Memory → P) → IfErr result (λ e. e ≡ Memory → P)
handed_on (Ok done) fault P h kept = tt
handed_on (Err e) fault P h kept = λ m. kept (sym h ∙ m)

pub not_memory : {T : Type 0} (result : Result T ListFault) (fault : SpaceFault) (P : Type 0) → IsErrAnd result (λ e. e ≡ InSpace fault) → IfErr result (λ e. e ≡ Memory → P)
not_memory (Ok done) fault P h = tt
not_memory (Err e) fault P h = λ m. absurd (cc)

-- THE NAMES OF OBJECTS
module _ (body : ℕ → Body) where
  things_names : (xs : List Row) → map (λ e. e.0) (things_of body xs) ≡ names_of xs
  things_names [] = refl
  things_names (row ∷ xs) = go row.dropper (things_names xs)
    where
      go : (d : Option TxnId) → map (λ e. e.0) (things_of body xs) ≡ names_of xs → map (λ e. e.0) (if_object (row.name, thing_at body row) d (things_of body xs)) ≡ map (λ r. r.name) (cond (is_none d) (row ∷ filter is_object xs) (filter is_object xs))
      go None e = ap (λ ks. row.name ∷ ks) e
      go (Some by) e = e

name_count : (q : List ℕ) (xs : List Row) → sum_by (named q) (names_of xs) ≡ count_by (is_there q) xs
name_count q [] = refl
name_count q (row ∷ xs) = go row.dropper (name_count q xs) ∙ sym (sum_by-cons (λ (r : Row). cond (is_there q r) 1 0) row xs)
  where
    go : (d : Option TxnId) → sum_by (named q) (names_of xs) ≡ count_by (is_there q) xs → sum_by (named q) (map (λ r. r.name) (cond (is_none d) (row ∷ filter is_object xs) (filter is_object xs))) ≡ cond (is_none d && bytes_eq row.name q) 1 0 + count_by (is_there q) xs
    go None e = sum_by-cons (named q) row.name (names_of xs) ∙ ap (λ (n : ℕ). named q row.name + n) e
    go (Some by) e = e ∙ (let z : count_by (is_there q) xs ≡ 0 + count_by (is_there q) xs = omega arith in z)

plain_some : (th : Option Thing) → is_some (plain th) ≡ is_some th
plain_some None = refl
plain_some (Some x) = refl

find_thing : (s : Contents) (q : List ℕ) → get (reading s).things q ≡ find order q (things_of s.body (rows s.catalog))
unfolding reading
find_thing s q = get-from_entries nat_list_cmp_total (things_of s.body (rows s.catalog)) q

pub object_names : (s : Contents) (names : List (List ℕ)) → ((q : List ℕ) → count_by (is_there q) (rows s.catalog) ≤ 1) → IsPermutation (names_of (rows s.catalog)) names → IsSorted order names → names ≡ keys (objects (reading s))
object_names s names once p sorted =
    let e = things_names s.body (rows s.catalog) in
    sorted_keys (things_of s.body (rows s.catalog)) names (objects (reading s))
    (λ q. ap is_some (get_objects (reading s) q) ∙ (plain_some (get (reading s).things q) ∙ ap is_some (find_thing s q)))
    (λ q. subst (λ (n : ℕ). n ≤ 1) (sym (ap (sum_by (named q)) e ∙ name_count q (rows s.catalog))) (once q))
    (subst (λ (xs : List (List ℕ)). IsPermutation xs names) (sym e) p) sorted

pub keys_refused : {space : Space} {s : Contents} (t : Operations) (name : List ℕ) (reason : Reason) → IsContents space s → IsMissing kinds.Table s name reason → (on t Keys (plain (get (reading s).things name))).0 ≡ Err reason
keys_refused {s = s} t name reason h m = missing_table s name (λ e. (Ok (Several (keys e)), e)) reason h m
