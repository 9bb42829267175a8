-- Looking for a live transaction in the list of names.
use Rattle.std.proofs.Common.{◌≡◌, ℕ, suc, ◌<◌, ◌≤◌, ◌+◌, Bool, true, false, cond, List, [], ◌∷◌, map, drop, length, get_or, Some, None, refl, sym, ap, ◌∙◌, add-one}
use Rattle.std.specs.List.{filter, find}
use Rattle.std.proofs.Math.Seq.{drop-cons}
use Rattle.std.proofs.lemmas.List.{drop_all}
use Rattle.sg_serial.specs.Runs.{Live}
use Rattle.sg_session.specs.declared.names.Named.{Named}
use Rattle.sg_session.specs.Names.{live_of, all_live}

module _ (p : Live → Bool) (items : List Named) (i : ℕ) where
  -- what is found from a place on, by what stands there
  found_from : (n : Named) → i < length items → n ≡ get_or items i n → find p (all_live (drop i items)) ≡ cond (p (live_of n)) (Some (live_of n)) (find p (all_live (drop (suc i) items)))
  found_from n within at = ap (λ (ns : List Named). find p (all_live ns)) (drop-cons items i n within ∙ ap (λ (m : Named). m ∷ drop (suc i) items) (sym at))

  pub found_here : (n : Named) → i < length items → n ≡ get_or items i n → find p (all_live items) ≡ find p (all_live (drop i items)) → p (live_of n) ≡ true → Some (live_of n) ≡ find p (all_live items)
  found_here n within at so_far is = sym (so_far ∙ (found_from n within at ∙ ap (λ b. cond b (Some (live_of n)) (find p (all_live (drop (suc i) items)))) is))

  pub not_here : (n : Named) → i < length items → n ≡ get_or items i n → find p (all_live items) ≡ find p (all_live (drop i items)) → p (live_of n) ≡ false → find p (all_live items) ≡ find p (all_live (drop (i + 1) items))
  not_here n within at so_far is = so_far ∙ (found_from n within at ∙ (ap (λ b. cond b (Some (live_of n)) (find p (all_live (drop (suc i) items)))) is ∙ ap (λ j. find p (all_live (drop j items))) (sym (add-one i))))

  pub found_none : length items ≤ i → find p (all_live items) ≡ find p (all_live (drop i items)) → None ≡ find p (all_live items)
  found_none past so_far = sym (so_far ∙ ap (λ (ns : List Named). find p (all_live ns)) (drop_all i items past))

map_filter_step : {A B : Type 0} (f : A → B) (b : Bool) (x : A) (xs : List A) (ys : List B) → map f xs ≡ ys → map f (cond b (x ∷ xs) xs) ≡ cond b (f x ∷ ys) ys
map_filter_step f true x xs ys e = ap (λ zs. f x ∷ zs) e
map_filter_step f false x xs ys e = e

pub map-filter : {A B : Type 0} (f : A → B) (p : B → Bool) (xs : List A) → map f (filter (λ x. p (f x)) xs) ≡ filter p (map f xs)
map-filter f p [] = refl
map-filter f p (x ∷ xs) = map_filter_step f (p (f x)) x (filter (λ y. p (f y)) xs) (filter p (map f xs)) (map-filter f p xs)
