-- The code's maps and the finite maps that they show.
use Rattle.std.proofs.Common.{◌≡◌, ℕ, Bool, true, false, cond, List, [], ◌∷◌, ◌++◌, length, take, map, Option, Some, None, Result, Ok, Err, IfOk, refl, sym, ap, ◌∙◌, subst}
use Rattle.std.specs.Prelude.{T, Vec}
use Rattle.std.specs.declared.alloc.Global.{Global}
use Rattle.std.specs.List.{AllByRecursion, AllZip}
use Rattle.std.specs.List.Sorted.{IsStrictlySortedBy}
use Rattle.std.specs.declared.cmp.Ordering.TheVariants.{Less}
use Rattle.std.specs.FinMap.Entries as lists
use Rattle.std.proofs.lemmas.Map.Keys.{sorted_head, sorted_tail}
use Rattle.std.specs.Option.{option_map, is_some}
use Rattle.std.proofs.Math.Seq.{take-append_seam}
use Rattle.std.specs.Ordering.{nat_cmp, eq_by_cmp, is_lt}
use Rattle.std.specs.Cmp.{eq_by_cmp_equiv}
use Rattle.std.specs.Cmp.Lexicographic.{slice_cmp, nat_list_cmp_total}
use Rattle.std.specs.FinMap.{FinMap, entries, keys, get, insert, remove, find, from_entries, from_sorted, is_sorted, get-from_entries, get-from_sorted, entries-from_sorted, get-insert, get-remove, same_map, slice_cmp-IsAntisymmetric, nat_cmp-IsAntisymmetric, IsAntisymmetric}
use Rattle.std.specs.Str.{bytes_eq}
use Rattle.std.specs.BTreeMap.{is_at}
use Rattle.std.specs.Map.{keys_of, lookup}
use Rattle.sg_model.proofs.Footprint.{both_true}
use Rattle.sg_model.proofs.Parts.{get_del, same_entries, bytes_same}

abbrev pub at : List ℕ → List ℕ → Bool
at q = is_at (slice_cmp nat_cmp q)

exact : IsAntisymmetric (slice_cmp nat_cmp)
exact = slice_cmp-IsAntisymmetric nat_cmp-IsAntisymmetric

module _ {V W : Type 0} (f : V → W) where
  -- the finite map that entries of the code show
  abbrev pub shown_map : List (List ℕ × V) → FinMap (slice_cmp nat_cmp) W
  shown_map es = from_entries (map (λ e. (e.0, f e.1)) es)

  mapped : (b : Bool) (o : V) (r : Option V) → cond b (Some (f o)) (option_map f r) ≡ option_map f (cond b (Some o) r)
  mapped true o r = refl
  mapped false o r = refl

  unmapped : (b : Bool) (r : Option V) → cond b None (option_map f r) ≡ option_map f (cond b None r)
  unmapped true r = refl
  unmapped false r = refl

  found : (es : List (List ℕ × V)) (q : List ℕ) → find (slice_cmp nat_cmp) q (map (λ e. (e.0, f e.1)) es) ≡ option_map f (lookup (at q) es)
  found [] q = refl
  found (e ∷ es) q = ap (cond (at q e.0) (Some (f e.1))) (found es q) ∙ mapped (at q e.0) e.1 (lookup (at q) es)

  pub get_shown : (es : List (List ℕ × V)) (q : List ℕ) → get (shown_map es) q ≡ option_map f (lookup (at q) es)
  get_shown es q = get-from_entries nat_list_cmp_total (map (λ e. (e.0, f e.1)) es) q ∙ found es q

  -- what is at a key, where the code's map finds this there
  pub look : (s : FinMap (slice_cmp nat_cmp) W) (es : List (List ℕ × V)) (q : List ℕ) (o : Option V) → shown_map es ≡ s → o ≡ lookup (at q) es → get s q ≡ option_map f o
  look s es q o is h = ap (λ (m : FinMap (slice_cmp nat_cmp) W). get m q) (sym is) ∙ (get_shown es q ∙ ap (option_map f) (sym h))

  same_at : (q k : List ℕ) → at q k ≡ eq_by_cmp (slice_cmp nat_cmp) k q
  same_at q k = (eq_by_cmp_equiv nat_list_cmp_total).symm q k

  -- entries that differ at one key show maps that differ there
  pub one_put : (es fs : List (List ℕ × V)) (q : List ℕ) (o : V) → ((k : List ℕ) → lookup (at k) fs ≡ cond (at q k) (Some o) (lookup (at k) es)) → shown_map fs ≡ insert (shown_map es) q (f o)
  one_put es fs q o h = same_map nat_list_cmp_total exact _ _ (λ k.
      get_shown fs k ∙ (ap (option_map f) (h k) ∙ (sym (mapped (at q k) o (lookup (at k) es)) ∙ (ap (λ b. cond b (Some (f o)) (option_map f (lookup (at k) es))) (same_at q k)
      ∙ sym (get-insert nat_list_cmp_total (shown_map es) q (f o) k ∙ ap (cond (eq_by_cmp (slice_cmp nat_cmp) k q) (Some (f o))) (get_shown es k))))))

  pub one_gone : (es fs : List (List ℕ × V)) (q : List ℕ) → ((k : List ℕ) → lookup (at k) fs ≡ cond (at q k) None (lookup (at k) es)) → shown_map fs ≡ remove (shown_map es) q
  one_gone es fs q h = same_map nat_list_cmp_total exact _ _ (λ k.
      get_shown fs k ∙ (ap (option_map f) (h k) ∙ (sym (unmapped (at q k) (lookup (at k) es)) ∙ (ap (λ b. cond b None (option_map f (lookup (at k) es))) (same_at q k)
      ∙ sym (get-remove nat_list_cmp_total (shown_map es) q k ∙ ap (cond (eq_by_cmp (slice_cmp nat_cmp) k q) None) (get_shown es k))))))

  -- the same beside the finite map that the first entries show
  pub put_shown : (s : FinMap (slice_cmp nat_cmp) W) (es fs : List (List ℕ × V)) (q : List ℕ) (o : V) → shown_map es ≡ s → ((k : List ℕ) → lookup (at k) fs ≡ cond (at q k) (Some o) (lookup (at k) es)) → shown_map fs ≡ insert s q (f o)
  put_shown s es fs q o is h = one_put es fs q o h ∙ ap (λ (m : FinMap (slice_cmp nat_cmp) W). insert m q (f o)) is

  pub gone_shown : (s : FinMap (slice_cmp nat_cmp) W) (es fs : List (List ℕ × V)) (q : List ℕ) → shown_map es ≡ s → ((k : List ℕ) → lookup (at k) fs ≡ cond (at q k) None (lookup (at k) es)) → shown_map fs ≡ remove s q
  gone_shown s es fs q is h = one_gone es fs q h ∙ ap (λ (m : FinMap (slice_cmp nat_cmp) W). remove m q) is

  -- the keys of entries in order are those of the finite map
  below : (k : List ℕ) (es : List (List ℕ × V)) → AllByRecursion (λ y. slice_cmp nat_cmp k y ≡ Less) (keys_of es) → lists.below_all (slice_cmp nat_cmp) k (map (λ e. (e.0, f e.1)) es) ≡ true
  below k [] h = refl
  below k (e ∷ es) h = both_true (is_lt (slice_cmp nat_cmp k e.0)) (lists.below_all (slice_cmp nat_cmp) k (map (λ e. (e.0, f e.1)) es)) (ap is_lt h.0) (below k es h.1)

  sorted : (es : List (List ℕ × V)) → IsStrictlySortedBy (slice_cmp nat_cmp) (keys_of es) → is_sorted (slice_cmp nat_cmp) (map (λ e. (e.0, f e.1)) es) ≡ true
  sorted [] h = refl
  sorted (e ∷ es) h =
      both_true (lists.below_all (slice_cmp nat_cmp) e.0 (map (λ e. (e.0, f e.1)) es)) (is_sorted (slice_cmp nat_cmp) (map (λ e. (e.0, f e.1)) es)) (below e.0 es (sorted_head (slice_cmp nat_cmp) e.0 (keys_of es) h))
      (sorted es (sorted_tail (slice_cmp nat_cmp) e.0 (keys_of es) h))

  firsts : (es : List (List ℕ × V)) → map (λ (e : List ℕ × W). e.0) (map (λ (e : List ℕ × V). (e.0, f e.1)) es) ≡ keys_of es
  firsts [] = refl
  firsts (e ∷ es) = ap (λ (ks : List (List ℕ)). e.0 ∷ ks) (firsts es)

  pub keys_shown : (s : FinMap (slice_cmp nat_cmp) W) (es : List (List ℕ × V)) → shown_map es ≡ s → IsStrictlySortedBy (slice_cmp nat_cmp) (keys_of es) → keys s ≡ keys_of es
  keys_shown s es is h =
      let fs : List (List ℕ × W) = map (λ e. (e.0, f e.1)) es in
      let o : T (is_sorted (slice_cmp nat_cmp) fs) = subst T (sym (sorted es h)) tt in
      let one : s ≡ from_sorted {R = slice_cmp nat_cmp} fs = sym is ∙ same_map nat_list_cmp_total exact _ _ (λ q. get-from_entries nat_list_cmp_total fs q ∙ sym (get-from_sorted (slice_cmp nat_cmp) fs q o)) in
      ap (map (λ (e : List ℕ × W). e.0)) (ap entries one ∙ entries-from_sorted (slice_cmp nat_cmp) fs o) ∙ firsts es

  -- copies of entries show the same
  abbrev shown_one : List ℕ × V → List ℕ × W
  shown_one e = (e.0, f e.1)

  copies : (C : List ℕ → List ℕ → Type 0) (D : V → V → Type 0) → ((x y : List ℕ) → C x y → y ≡ x) → ((v w : V) → D v w → f w ≡ f v) → (es fs : List (List ℕ × V)) → AllZip (λ p q. C p.0 q.0 × D p.1 q.1) es fs → map shown_one fs ≡ map shown_one es
  copies C D key value [] [] h = refl
  copies C D key value [] (e ∷ es) h = absurd h
  copies C D key value (e ∷ es) [] h = absurd h
  copies C D key value (e ∷ es) (g ∷ gs) h =
      let rest : List (List ℕ × W) = map shown_one es in
      let named : List ℕ → List (List ℕ × W) = λ k. (k, f g.1) ∷ rest in
      let valued : W → List (List ℕ × W) = λ w. (e.0, w) ∷ rest in
      ap (λ (xs : List (List ℕ × W)). shown_one g ∷ xs) (copies C D key value es gs h.1) ∙ (ap named (key e.0 g.0 h.0.0) ∙ ap valued (value e.1 g.1 h.0.1))

  pub copied : (C : List ℕ → List ℕ → Type 0) (D : V → V → Type 0) → ((x y : List ℕ) → C x y → y ≡ x) → ((v w : V) → D v w → f w ≡ f v) → (es fs : List (List ℕ × V)) → AllZip (λ p q. C p.0 q.0 × D p.1 q.1) es fs → shown_map fs ≡ shown_map es
  copied C D key value es fs h = ap (from_entries {R = slice_cmp nat_cmp}) (copies C D key value es fs h)

pub keys_answered : {E : Type 0} (all names : List (List ℕ)) (result : Result (Vec (List ℕ) Global) E) → all ≡ names → IfOk result (λ v. v.items ≡ names) → IfOk result (λ v. v.items ≡ all)
keys_answered all names (Ok v) e h = h ∙ sym e
keys_answered all names (Err x) e h = tt

pub mapped_some : {V W : Type 0} (f : V → W) (o : Option V) → is_some (option_map f o) ≡ is_some o
mapped_some f None = refl
mapped_some f (Some x) = refl

-- whether there is something at a key
pub has : {V W : Type 0} (f : V → W) (s : FinMap (slice_cmp nat_cmp) W) (es : List (List ℕ × V)) (q : List ℕ) (b : Bool) → shown_map f es ≡ s → b ≡ is_some (lookup (at q) es) → b ≡ is_some (get s q)
has f s es q b is h = h ∙ sym (ap is_some (look f s es q (lookup (at q) es) is refl) ∙ mapped_some f (lookup (at q) es))

pub none_of : {W : Type 0} (o : Option W) → false ≡ is_some o → o ≡ None
none_of None e = refl
none_of (Some x) e = absurd (cc)

-- to take away what isn't there changes nothing
pub remove_absent : {W : Type 0} (m : FinMap (slice_cmp nat_cmp) W) (k : List ℕ) → false ≡ is_some (get m k) → remove m k ≡ m
remove_absent m k h = same_entries (remove m k) m (λ q. get_del m k q ∙ kept m k q (none_of (get m k) h) (bytes_eq k q) refl)
  where
    kept : {W : Type 0} (m : FinMap (slice_cmp nat_cmp) W) (k q : List ℕ) → get m k ≡ None → (b : Bool) → bytes_eq k q ≡ b → cond b None (get m q) ≡ get m q
    kept m k q none true e = sym none ∙ ap (get m) (bytes_same k q e)
    kept m k q none false e = refl

pub front : (a item rest : List ℕ) → a ≡ item → take (length item) (a ++ rest) ≡ item
front a item rest e = ap (λ (xs : List ℕ). take (length item) (xs ++ rest)) e ∙ take-append_seam item rest
