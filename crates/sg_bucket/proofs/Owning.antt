-- Changes of buckets, one after another.
use Rattle.std.proofs.Common.{◌≡◌, ◌≢◌, ℕ, zero, suc, ◌⊎◌, List, [], ◌∷◌, Some, None, slice_get, sym, ap, ◌∙◌, arith, inl, inr}
use Rattle.std.proofs.lemmas.Bool.{cases_eq}
use Rattle.sg_space.specs.Owned.{Becomes}
use Rattle.sg_space.specs.Units.{Units}
use Rattle.sg_space.specs.View.{View, Space, OnlyReads}
use Rattle.sg_space.proofs.Known.{still, before, same_some}
use Rattle.sg_bucket.specs.Bucket.{Bucket, IsLinked, OwnsPage}
use Rattle.sg_bucket.specs.Steps.{Turns, Did, DidKeep}

-- a number is one of a list, or it isn't
pub one_of : (xs : List ℕ) (n : ℕ) → ((i : ℕ) × (slice_get xs i ≡ Some n)) ⊎ (((i : ℕ) × (slice_get xs i ≡ Some n)) → ⊥)
one_of [] n = inr (λ o. let e = o.1 in cc)
one_of (x ∷ xs) n = elim (cases_eq x n) [
  | inl same ↦ inl (0, ap Some same)
  | inr other ↦ elim (one_of xs n) [
    | inl later ↦ inl (suc later.0, later.1)
    | inr none ↦ inr (λ o. neither o.0 o.1 other none)
  ]
]
  where
    neither : (i : ℕ) → slice_get (x ∷ xs) i ≡ Some n → x ≢ n → (((i : ℕ) × (slice_get xs i ≡ Some n)) → ⊥) → ⊥
    neither zero e other none = other (same_some x n e)
    neither (suc i) e other none = none (i, e)

pub owns_or : (b : Bucket) (n : ℕ) → OwnsPage b n ⊎ (OwnsPage b n → ⊥)
owns_or b n = one_of b.pages n

-- Two changes of what is owned, one after the other. What is owned first and in between can be told
pub becomes_then : {A : Type 0} {a b c : Units A} {u v w : ℕ → Type 0} {l m n : ℕ} → ((k : ℕ) → u k ⊎ (u k → ⊥)) → ((k : ℕ) → v k ⊎ (v k → ⊥)) → Becomes a b u v l m → Becomes b c v w m n → Becomes a c u w l n
becomes_then {A} {a} {b} {c} {u} {v} {w} {l} {m} {n} first between f g = record {
  others = λ k none none'. elim (between k) as (λ _. c.at k ≡ a.at k) [
    | inl mine ↦ elim (f.taken k mine) as (λ _. c.at k ≡ a.at k) [
      | inl before ↦ absurd (none before)
      | inr free ↦ g.given k mine none' ∙ sym free
    ]
    | inr other ↦ g.others k other none' ∙ f.others k none other
  ];
  taken = λ k mine. elim (g.taken k mine) as (λ _. u k ⊎ (a.at k ≡ None)) [
    | inl then ↦ f.taken k then
    | inr free ↦ elim (first k) as (λ _. u k ⊎ (a.at k ≡ None)) [
      | inl before ↦ inl before
      | inr none ↦ elim (between k) as (λ _. u k ⊎ (a.at k ≡ None)) [
        | inl then ↦ f.taken k then
        | inr other ↦ inr (sym (f.others k none other) ∙ free)
      ]
    ]
  ];
  given = λ k mine none. elim (between k) as (λ _. c.at k ≡ None) [
    | inl then ↦ g.given k then none
    | inr other ↦ g.others k other none ∙ f.given k mine other
  ];
  exactly = let x = f.exactly in let y = g.exactly in omega arith;
  all = g.all ∙ f.all;
}

pub turns_then : {x y z : Space} {first : ℕ} (a b c : Bucket) → Turns x y first a b → Turns y z first b c → Turns x z first a c
turns_then a b c f g = record {
  linked = g.linked;
  pages = becomes_then (owns_or a) (owns_or b) f.pages g.pages;
  bands = g.bands ∙ f.bands;
}

-- a page of somebody else is there and somebody else's after a change too
pub still_other : {x y : Space} {first q : ℕ} {a b : Bucket} → Turns x y first a b → ¬ OwnsPage a q → x.pages.at q ≢ None → (¬ OwnsPage b q) × (y.pages.at q ≢ None)
still_other {x} {y} {q = q} {a = a} {b = b} f none there = (not_now, λ e. there (sym (f.pages.others q none not_now) ∙ e))
  where
    not_now : ¬ OwnsPage b q
    not_now mine = elim (f.pages.taken q mine) as (λ _. ⊥) [
      | inl before ↦ none before
      | inr free ↦ there free
    ]

pub did_of : {v w : View} {first : ℕ} {Can : Bucket → Type 0} {Is : Bucket → Bucket → Type 0} → DidKeep v w first Can Is → Did v w first Can Is
did_of d = record {
  told = λ told. (d.keeps told).told told;
  turns = d.turns;
  may_have = λ told b h can page n none there may. (d.keeps told).may_have page n may;
}

-- two steps, one after the other
pub did_then : {u v w : View} {first : ℕ} {Can Then : Bucket → Type 0} {Is Next All : Bucket → Bucket → Type 0} → Did u v first Can Is → Did v w first Then Next → (u.Told → (b b' : Bucket) → IsLinked u.space.pages.at first b → Can b → Turns u.space v.space first b b' → Is b b' → Then b') → (u.Told → (b b' b'' : Bucket) → IsLinked u.space.pages.at first b → Can b → Turns u.space v.space first b b' → Is b b' → Next b' b'' → All b b'') → Did u w first Can All
did_then {u} {v} {w} {first} f g so all = record {
  told = λ told. g.told (f.told told);
  turns = λ told b h can.
      let one = f.turns told b h can in
      let two = g.turns (f.told told) one.0 one.1.linked (so told b one.0 h can one.1 one.2) in
      (two.0, turns_then b one.0 two.0 one.1 two.1, all told b one.0 two.0 h can one.1 one.2 two.2);
  may_have = λ told b h can page n none there may.
      let one = f.turns told b h can in
      let other = still_other one.1 none there in
      g.may_have (f.told told) one.0 one.1.linked (so told b one.0 h can one.1 one.2) page n other.0 other.1 (f.may_have told b h can page n none there may);
}

-- the same step, told otherwise
pub did_as : {v w : View} {first : ℕ} {Can : Bucket → Type 0} {Is Now : Bucket → Bucket → Type 0} → Did v w first Can Is → (v.Told → (b b' : Bucket) → IsLinked v.space.pages.at first b → Can b → Turns v.space w.space first b b' → Is b b' → Now b b') → Did v w first Can Now
did_as f so = record {
  told = f.told;
  turns = λ told b h can. let one = f.turns told b h can in (one.0, one.1, so told b one.0 h can one.1 one.2);
  may_have = f.may_have;
}

-- a step before reads, and one after them
pub did_reads : {u v w : View} {first : ℕ} {Can : Bucket → Type 0} {Is : Bucket → Bucket → Type 0} → Did u v first Can Is → (v.Told → v.Shows) → OnlyReads v w → Did u w first Can Is
did_reads {u} {v} {w} {first} f shows k = record {
  told = λ told. k.keeps.told (f.told told);
  turns = λ told b h can. let one = f.turns told b h can in (one.0, still (λ (s : Space). Turns u.space s first b one.0) k (shows (f.told told)) one.1, one.2);
  may_have = λ told b h can page n none there may. k.keeps.may_have page n (f.may_have told b h can page n none there may);
}

pub reads_did : {u v w : View} {first : ℕ} {Can Then : Bucket → Type 0} {Is : Bucket → Bucket → Type 0} → (u.Told → u.Shows) → OnlyReads u v → Did v w first Then Is → (u.Told → (b : Bucket) → IsLinked u.space.pages.at first b → Can b → Then b) → Did u w first Can Is
reads_did {u} {v} {w} {first} shows k f so = record {
  told = λ told. f.told (k.keeps.told told);
  turns = λ told b h can.
      let one = f.turns (k.keeps.told told) b (still (λ (s : Space). IsLinked s.pages.at first b) k (shows told) h) (so told b h can) in
      (one.0, before (λ (s : Space). Turns s w.space first b one.0) k (shows told) one.1, one.2);
  may_have = λ told b h can page n none there may. f.may_have (k.keeps.told told) b (still (λ (s : Space). IsLinked s.pages.at first b) k (shows told) h) (so told b h can) page n none (still (λ (s : Space). s.pages.at page ≢ None) k (shows told) there) (k.keeps.may_have page n may);
}
