-- Which chains have all holds that can be in the way of a touch.
use Rattle.std.proofs.Common.{◌≡◌, ℕ, Bool, true, false, cond, not, List, [], ◌∷◌, Option, refl, sym, ap, ◌∙◌}
use Rattle.std.proofs.Common.{inl, inr}
use Rattle.std.specs.Prelude.{◌||◌, ◌&&◌, ◌==◌, ◌⊎◌}
use Rattle.std.specs.Str.{bytes_eq}
use Rattle.std.proofs.lemmas.Bool.{eq-eqb}
use Rattle.sg_serial.specs.Locks.{Touch, Hold, lesser}
use Rattle.sg_serial.proofs.Commute.{or_left, or_right}
use Rattle.sg_serial.proofs.Kept.{and_true, not_both}
use Rattle.sg_model.specs.Touches.{Part, Region, Resource, is_key, is_kind, same_part, meet, meet_regions, conflict}
use Rattle.sg_model.specs.Touches.Part.{Kind, Key}
use Rattle.sg_model.specs.Touches.Region.{Just, EachKey, Everything}
use Rattle.sg_model.specs.Touches.Resource.{Of, Names}
use Rattle.sg_model.proofs.Parts.{part_same, bytes_same}
use Rattle.sg_locks.specs.Buckets.{bucket_of, region_bucket, resource_bucket, name_bucket}
use Rattle.sg_locks.specs.Places.{blocks, lesser_of, least_of}
use Rattle.sg_locks.proofs.Least.{lesser_assoc, both, left, right}

-- the least of those that pass one of two tests
least_join : (p q : Hold Resource → Bool) (hs : List (Hold Resource)) → lesser_of (least_of p hs) (least_of q hs) ≡ least_of (λ h. p h || q h) hs
least_join p q [] = refl
least_join p q (h ∷ hs) = go (p h) (q h) (least_of p hs) (least_of q hs) (least_of (λ k. p k || q k) hs) (least_join p q hs)
  where
    go : (b c : Bool) (l r m : Option ℕ) → lesser_of l r ≡ m → lesser_of (cond b (lesser h.transaction l) l) (cond c (lesser h.transaction r) r) ≡ cond (b || c) (lesser h.transaction m) m
    go true true l r m e = sym (both h.transaction l r) ∙ ap (lesser h.transaction) e
    go true false l r m e = sym (left h.transaction l r) ∙ ap (lesser h.transaction) e
    go false true l r m e = sym (right h.transaction l r) ∙ ap (lesser h.transaction) e
    go false false l r m e = e

least_same : (p q : Hold Resource → Bool) (hs : List (Hold Resource)) → ((h : Hold Resource) → p h ≡ q h) → least_of p hs ≡ least_of q hs
least_same p q [] e = refl
least_same p q (h ∷ hs) e = ap (λ b. cond b (lesser h.transaction (least_of p hs)) (least_of p hs)) (e h) ∙ ap (λ r. cond (q h) (lesser h.transaction r) r) (least_same p q hs e)

-- walks along chains that have all of them find the least
module _ (w : Hold Resource → Bool) (hs : List (Hold Resource)) (least : Option ℕ) where
  pub one_walk : (c : Hold Resource → Bool) → ((h : Hold Resource) → w h ≡ true → c h ≡ true) → lesser_of least (least_of (λ h. c h && w h) hs) ≡ lesser_of least (least_of w hs)
  one_walk c all = ap (lesser_of least) (least_same (λ h. c h && w h) w hs (λ h. go (c h) (w h) (all h)))
    where
      go : (b d : Bool) → (d ≡ true → b ≡ true) → (b && d) ≡ d
      go true d h = refl
      go false true h = h refl
      go false false h = refl

  pub two_walks : (c d : Hold Resource → Bool) → ((h : Hold Resource) → w h ≡ true → (c h || d h) ≡ true)
      → lesser_of (lesser_of least (least_of (λ h. c h && w h) hs)) (least_of (λ h. d h && w h) hs) ≡ lesser_of least (least_of w hs)
  two_walks c d all =
      lesser_assoc least (least_of (λ h. c h && w h) hs) (least_of (λ h. d h && w h) hs)
      ∙ ap (lesser_of least) (least_join (λ h. c h && w h) (λ h. d h && w h) hs ∙ least_same (λ h. (c h && w h) || (d h && w h)) w hs (λ h. go (c h) (d h) (w h) (all h)))
    where
      go : (a b e : Bool) → (e ≡ true → (a || b) ≡ true) → ((a && e) || (b && e)) ≡ e
      go true b true h = refl
      go false true true h = refl
      go false false true h = h refl
      go true true false h = refl
      go true false false h = refl
      go false true false h = refl
      go false false false h = refl

  pub three_walks : (c d e : Hold Resource → Bool) → ((h : Hold Resource) → w h ≡ true → (c h || (d h || e h)) ≡ true)
      → lesser_of (lesser_of (lesser_of least (least_of (λ h. c h && w h) hs)) (least_of (λ h. d h && w h) hs)) (least_of (λ h. e h && w h) hs) ≡ lesser_of least (least_of w hs)
  three_walks c d e all =
      lesser_assoc (lesser_of least (least_of (λ h. c h && w h) hs)) (least_of (λ h. d h && w h) hs) (least_of (λ h. e h && w h) hs)
      ∙ (ap (lesser_of (lesser_of least (least_of (λ h. c h && w h) hs))) (least_join (λ h. d h && w h) (λ h. e h && w h) hs)
      ∙ (lesser_assoc least (least_of (λ h. c h && w h) hs) (least_of (λ h. (d h && w h) || (e h && w h)) hs)
      ∙ ap (lesser_of least) (least_join (λ h. c h && w h) (λ h. (d h && w h) || (e h && w h)) hs ∙ least_same (λ h. (c h && w h) || ((d h && w h) || (e h && w h))) w hs (λ h. go (c h) (d h) (e h) (w h) (all h)))))
    where
      go : (a b k f : Bool) → (f ≡ true → (a || (b || k)) ≡ true) → ((a && f) || ((b && f) || (k && f))) ≡ f
      go true b k true h = refl
      go false true k true h = refl
      go false false true true h = refl
      go false false false true h = h refl
      go true true true false h = refl
      go true true false false h = refl
      go true false true false h = refl
      go true false false false h = refl
      go false true true false h = refl
      go false true false false h = refl
      go false false true false h = refl
      go false false false false h = refl

-- what meets a part of an object: the same part, all of it, all keys where it is a key, or the names where it is the kind
abbrev Meets : Resource → List ℕ → Part → Type 0
Meets r n x = (r ≡ Of n (Just x)) ⊎ ((r ≡ Of n Everything) ⊎ (((r ≡ Of n EachKey) × (is_key x ≡ true)) ⊎ ((r ≡ Names) × (is_kind x ≡ true))))

meets : (r : Resource) (n : List ℕ) (x : Part) → meet r (Of n (Just x)) ≡ true → Meets r n x
meets (Of m (Just y)) n x h =
    let p = and_true (bytes_eq m n) (same_part x y) h in
    inl (ap (λ (k : List ℕ). Of k (Just y)) (bytes_same m n p.0) ∙ ap (λ (z : Part). Of n (Just z)) (sym (part_same x y p.1)))
meets (Of m EachKey) n x h = let p = and_true (bytes_eq m n) (is_key x) h in inr (inr (inl (ap (λ (k : List ℕ). Of k EachKey) (bytes_same m n p.0), p.1)))
meets (Of m Everything) n x h = let p = and_true (bytes_eq m n) true h in inr (inl (ap (λ (k : List ℕ). Of k Everything) (bytes_same m n p.0)))
meets Names n x h = inr (inr (inr (refl, h)))

-- what meets a region of an object is of its name, or the names
of_name : (r : Resource) (n : List ℕ) (s : Region) → meet r (Of n s) ≡ true → (name_bucket r ≡ bucket_of n) ⊎ (r ≡ Names)
of_name (Of m q) n s h = inl (ap bucket_of (bytes_same m n (and_true (bytes_eq m n) (meet_regions q s) h).0))
of_name Names n s h = inr refl

blocks_meet : (t : ℕ) (a : Touch Resource) (h : Hold Resource) → blocks t a h ≡ true → meet h.touch.what a.what ≡ true
blocks_meet t a h e = (and_true (h.touch.write || a.write) (meet h.touch.what a.what) (and_true (not (h.transaction == t)) (conflict h.touch a) e).1).1

-- a hold in the way of a touch of the object n, whose name and whose resource have these buckets
module _ (t : ℕ) (a : Touch Resource) (n : List ℕ) (name resource whole : ℕ) (of : name ≡ bucket_of n) (own : resource ≡ resource_bucket a.what)
    (all : whole ≡ region_bucket name Everything) (h : Hold Resource) (e : blocks t a h ≡ true) where
  abbrev at : ℕ → Bool
  at bucket = resource_bucket h.touch.what == bucket

  abbrev under : Bool
  under = name_bucket h.touch.what == name

  found : (x : Part) → a.what ≡ Of n (Just x) → Meets h.touch.what n x
  found x is = meets h.touch.what n x (ap (meet h.touch.what) (sym is) ∙ blocks_meet t a h e)

  at_own : h.touch.what ≡ a.what → at resource ≡ true
  at_own is = eq-eqb (resource_bucket h.touch.what) resource (ap resource_bucket is ∙ sym own)

  at_region : (s : Region) (bucket : ℕ) → bucket ≡ region_bucket name s → h.touch.what ≡ Of n s → at bucket ≡ true
  at_region s bucket f is = eq-eqb (resource_bucket h.touch.what) bucket (ap resource_bucket is ∙ (ap (λ k. region_bucket k s) (sym of) ∙ sym f))

  at_names : h.touch.what ≡ Names → at 0 ≡ true
  at_names is = eq-eqb (resource_bucket h.touch.what) 0 (ap resource_bucket is)

  -- of a part that is neither the kind nor a key
  pub part_found : (x : Part) → a.what ≡ Of n (Just x) → is_key x ≡ false → is_kind x ≡ false → (at resource || at whole) ≡ true
  part_found x is no_key no_kind = elim (found x is) [
    | inl same ↦ or_left (at resource) (at whole) (at_own (same ∙ sym is))
    | inr rest ↦ elim rest [
      | inl every ↦ or_right (at resource) (at whole) (at_region Everything whole all every)
      | inr other ↦ elim other [ inl keyed ↦ absurd (not_both (is_key x) keyed.1 no_key) | inr names ↦ absurd (not_both (is_kind x) names.1 no_kind) ]
    ]
  ]

  -- of the kind
  pub kind_found : a.what ≡ Of n (Just Kind) → (at resource || (at whole || at 0)) ≡ true
  kind_found is = elim (found Kind is) [
    | inl same ↦ or_left (at resource) (at whole || at 0) (at_own (same ∙ sym is))
    | inr rest ↦ or_right (at resource) (at whole || at 0) (elim rest [
      | inl every ↦ or_left (at whole) (at 0) (at_region Everything whole all every)
      | inr other ↦ elim other [ inl keyed ↦ absurd (not_both false keyed.1 refl) | inr names ↦ or_right (at whole) (at 0) (at_names names.0) ]
    ])
  ]

  -- of a key
  pub key_found : (keys : ℕ) → keys ≡ region_bucket name EachKey → (k : List ℕ) → a.what ≡ Of n (Just (Key k)) → (at resource || (at whole || at keys)) ≡ true
  key_found keys each k is = elim (found (Key k) is) [
    | inl same ↦ or_left (at resource) (at whole || at keys) (at_own (same ∙ sym is))
    | inr rest ↦ or_right (at resource) (at whole || at keys) (elim rest [
      | inl every ↦ or_left (at whole) (at keys) (at_region Everything whole all every)
      | inr other ↦ elim other [ inl keyed ↦ or_right (at whole) (at keys) (at_region EachKey keys each keyed.0) | inr names ↦ absurd (not_both false names.1 refl) ]
    ])
  ]

-- the same of a touch of all keys, and of all of the object
module _ (t : ℕ) (a : Touch Resource) (n : List ℕ) (name : ℕ) (of : name ≡ bucket_of n) (h : Hold Resource) (e : blocks t a h ≡ true) where
  pub keys_found : a.what ≡ Of n EachKey → (name_bucket h.touch.what == name) ≡ true
  keys_found is = elim (of_name h.touch.what n EachKey (ap (meet h.touch.what) (sym is) ∙ blocks_meet t a h e)) [
    | inl same ↦ eq-eqb (name_bucket h.touch.what) name (same ∙ sym of)
    | inr names ↦ absurd (not_both false (ap (λ r. meet r (Of n EachKey)) (sym names) ∙ (ap (meet h.touch.what) (sym is) ∙ blocks_meet t a h e)) refl)
  ]

  pub whole_found : a.what ≡ Of n Everything → ((name_bucket h.touch.what == name) || (resource_bucket h.touch.what == 0)) ≡ true
  whole_found is = elim (of_name h.touch.what n Everything (ap (meet h.touch.what) (sym is) ∙ blocks_meet t a h e)) [
    | inl same ↦ or_left (name_bucket h.touch.what == name) (resource_bucket h.touch.what == 0) (eq-eqb (name_bucket h.touch.what) name (same ∙ sym of))
    | inr names ↦ or_right (name_bucket h.touch.what == name) (resource_bucket h.touch.what == 0) (eq-eqb (resource_bucket h.touch.what) 0 (ap resource_bucket names))
  ]
