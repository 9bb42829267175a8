-- What a push and a pop make of the links.
use Rattle.std.proofs.Common.{◌≡◌, ℕ, zero, suc, ◌+◌, ◌<◌, ◌≤◌, List, [], ◌∷◌, ◌++◌, length, take, get_or, set, Option, Some, None, refl, sym, ap, ◌∙◌, subst, arith, length-append, add-one}
use Rattle.std.specs.Prelude.{cond, ◌==◌, replicate}
use Rattle.std.proofs.Common.{inl, inr}
use Rattle.std.proofs.lemmas.Bool.{eq-eqb, ne_eqb, cases_eq}
use Rattle.std.proofs.lemmas.List.{map-append, length-map, length-set, get_or-set_same, get_or-set_other, take-append-le, take_all, length-replicate}
use Rattle.sg_locks.specs.declared.chains.Link.{Link}
use Rattle.sg_locks.specs.Links.{buckets_of, last_in, AreLinked}
use Rattle.sg_locks.proofs.Walks.{last_more}

-- what stands in a list with one more
get_front : {A : Type 0} (xs : List A) (y : A) (i : ℕ) (d : A) → i < length xs → get_or (xs ++ y ∷ []) i d ≡ get_or xs i d
get_front [] y i d h = absurd (omega arith)
get_front (x ∷ xs) y zero d h = refl
get_front (x ∷ xs) y (suc i) d h = get_front xs y i d (omega arith)

get_end : {A : Type 0} (xs : List A) (y : A) (d : A) → get_or (xs ++ y ∷ []) (length xs) d ≡ y
get_end [] y d = refl
get_end (x ∷ xs) y d = get_end xs y d

pub same_item : {A : Type 0} (xs : List A) (i : ℕ) (d e : A) → i < length xs → get_or xs i d ≡ get_or xs i e
same_item [] i d e h = absurd (omega arith)
same_item (x ∷ xs) zero d e h = refl
same_item (x ∷ xs) (suc i) d e h = same_item xs i d e (omega arith)

module _ (last : List (Option ℕ)) (capacity : ℕ) (links : List Link) (l : Link) where
  more_buckets : buckets_of (links ++ l ∷ []) ≡ buckets_of links ++ l.bucket ∷ []
  more_buckets = map-append (λ (k : Link). k.bucket) links (l ∷ [])

  more_length : length (links ++ l ∷ []) ≡ suc (length links)
  more_length = let e = length-append links (l ∷ []) in omega (arith, e)

  last_with : (b : ℕ) → last_in b (buckets_of (links ++ l ∷ [])) ≡ cond (l.bucket == b) (Some (length links)) (last_in b (buckets_of links))
  last_with b = ap (last_in b) more_buckets ∙ (last_more (λ k. k == b) (buckets_of links) l.bucket ∙ ap (λ n. cond (l.bucket == b) (Some n) (last_in b (buckets_of links))) (length-map links (λ (k : Link). k.bucket)))

  front_with : (i : ℕ) → i ≤ length links → take i (buckets_of (links ++ l ∷ [])) ≡ take i (buckets_of links)
  front_with i h = ap (take i) more_buckets ∙ take-append-le i (buckets_of links) (l.bucket ∷ []) (let e = length-map links (λ (k : Link). k.bucket) in omega (arith, e))

  -- a link more
  pub push_links : AreLinked last capacity links → length links < 4096 → l.bucket < 4096 → l.earlier ≡ get_or last l.bucket None → AreLinked (set last l.bucket (Some (length links))) capacity (links ++ l ∷ [])
  push_links linked room small was = record {
    buckets = length-set last l.bucket (Some (length links)) ∙ linked.buckets;
    room = linked.room;
    few = (let e = more_length in omega (arith, e));
    ends = λ b h. elim (cases_eq l.bucket b) [
      | inl q ↦ (
          let inside : l.bucket < length last = (let e = linked.buckets in omega (arith, e)) in
          ap (λ k. get_or (set last l.bucket (Some (length links))) k None) (sym q)
          ∙ (get_or-set_same last l.bucket (Some (length links)) None inside
          ∙ sym (last_with b ∙ ap (λ c. cond c (Some (length links)) (last_in b (buckets_of links))) (eq-eqb l.bucket b q)))
          )
      | inr n ↦ (
          get_or-set_other last l.bucket b (Some (length links)) None (λ q. n (sym q))
          ∙ (linked.ends b h ∙ sym (last_with b ∙ ap (λ c. cond c (Some (length links)) (last_in b (buckets_of links))) (ne_eqb l.bucket b n)))
          )
    ];
    below = λ i d h. elim (cases_eq i (length links)) [
      | inl q ↦ subst (λ (k : Link). k.bucket < 4096) (sym (ap (λ n. get_or (links ++ l ∷ []) n d) q ∙ get_end links l d)) small
      | inr n ↦ (
          let inside : i < length links = (let e = more_length in omega (arith, e)) in
          subst (λ (k : Link). k.bucket < 4096) (sym (get_front links l i d inside)) (linked.below i d inside)
          )
    ];
    earlier = λ i d h. elim (cases_eq i (length links)) [
      | inl q ↦ (
          let at : get_or (links ++ l ∷ []) i d ≡ l = ap (λ n. get_or (links ++ l ∷ []) n d) q ∙ get_end links l d in
          let whole : take i (buckets_of (links ++ l ∷ [])) ≡ buckets_of links = front_with i (omega arith) ∙ take_all i (buckets_of links) (let e = length-map links (λ (k : Link). k.bucket) in omega (arith, e)) in
          subst (λ (k : Link). k.earlier ≡ last_in k.bucket (take i (buckets_of (links ++ l ∷ [])))) (sym at) (was ∙ (linked.ends l.bucket small ∙ ap (last_in l.bucket) (sym whole)))
          )
      | inr n ↦ (
          let inside : i < length links = (let e = more_length in omega (arith, e)) in
          subst (λ (k : Link). k.earlier ≡ last_in k.bucket (take i (buckets_of (links ++ l ∷ [])))) (sym (get_front links l i d inside))
          (linked.earlier i d inside ∙ ap (last_in (get_or links i d).bucket) (sym (front_with i (omega arith))))
          )
    ];
  }

  -- and one less
  pub pop_links : AreLinked last capacity (links ++ l ∷ []) → AreLinked (set last l.bucket l.earlier) capacity links
  pop_links linked =
      let long = more_length in
      let small : l.bucket < 4096 = subst (λ (k : Link). k.bucket < 4096) (get_end links l l) (linked.below (length links) l (omega (arith, long))) in
      let before : l.earlier ≡ last_in l.bucket (buckets_of links) =
      subst (λ (k : Link). k.earlier ≡ last_in k.bucket (take (length links) (buckets_of (links ++ l ∷ [])))) (get_end links l l) (linked.earlier (length links) l (omega (arith, long)))
      ∙ ap (last_in l.bucket) (front_with (length links) (omega arith) ∙ take_all (length links) (buckets_of links) (let e = length-map links (λ (k : Link). k.bucket) in omega (arith, e))) in
      record {
        buckets = length-set last l.bucket l.earlier ∙ linked.buckets;
        room = linked.room;
        few = (let f = linked.few in omega (arith, long, f));
        ends = λ b h. elim (cases_eq l.bucket b) [
          | inl q ↦ (
              let inside : l.bucket < length last = (let e = linked.buckets in omega (arith, e)) in
              ap (λ k. get_or (set last l.bucket l.earlier) k None) (sym q) ∙ (get_or-set_same last l.bucket l.earlier None inside ∙ (before ∙ ap (λ k. last_in k (buckets_of links)) q))
              )
          | inr n ↦ (
              get_or-set_other last l.bucket b l.earlier None (λ q. n (sym q))
              ∙ (linked.ends b h ∙ (last_with b ∙ ap (λ c. cond c (Some (length links)) (last_in b (buckets_of links))) (ne_eqb l.bucket b n)))
              )
        ];
        below = λ i d h. subst (λ (k : Link). k.bucket < 4096) (get_front links l i d h) (linked.below i d (omega (arith, long)));
        earlier = λ i d h.
            subst (λ (k : Link). k.earlier ≡ last_in k.bucket (take i (buckets_of (links ++ l ∷ [])))) (get_front links l i d h) (linked.earlier i d (omega (arith, long)))
            ∙ ap (last_in (get_or links i d).bucket) (front_with i (omega arith));
      }

-- the same links
pub relinked : (last then : List (Option ℕ)) (capacity more : ℕ) (links now : List Link) → AreLinked last capacity links → then ≡ last → more ≡ capacity → now ≡ links → AreLinked then more now
relinked last then capacity more links now linked e f g =
    subst (λ (ks : List (Option ℕ)). AreLinked ks more now) (sym e) (subst (λ (n : ℕ). AreLinked last n now) (sym f) (subst (λ (ls : List Link). AreLinked last capacity ls) (sym g) linked))

-- no links yet
replicate_get : (n b : ℕ) → get_or {A = Option ℕ} (replicate n None) b None ≡ None
replicate_get zero b = refl
replicate_get (suc n) zero = refl
replicate_get (suc n) (suc b) = replicate_get n b

pub no_links : (last : List (Option ℕ)) (capacity : ℕ) (links : List Link) → last ≡ replicate 4096 None → links ≡ [] → 4096 ≤ capacity → AreLinked last capacity links
no_links last capacity links e none room =
    subst (λ (ks : List (Option ℕ)). AreLinked ks capacity links) (sym e) (subst (λ (ls : List Link). AreLinked (replicate 4096 None) capacity ls) (sym none) (record {
      buckets = length-replicate {A = Option ℕ} 4096 None;
      room = room;
      few = omega arith;
      ends = λ b h. replicate_get 4096 b;
      below = λ i d h. absurd (omega arith);
      earlier = λ i d h. absurd (omega arith);
    }))

-- one bucket more without a place
pub replicate_more : {A : Type 0} (n : ℕ) (a : A) → replicate (n + 1) a ≡ replicate n a ++ a ∷ []
replicate_more n a = ap (λ k. replicate k a) (add-one n) ∙ go n
  where
    go : (n : ℕ) → a ∷ replicate n a ≡ replicate n a ++ a ∷ []
    go zero = refl
    go (suc n) = ap (λ xs. a ∷ xs) (go n)
