-- Changes of what a structure owns, one after another, and of two structures in one space.
use Rattle.std.proofs.Common.{◌≡◌, ℕ, ◌+◌, ◌⊎◌, None, sym, ap, ◌∙◌, arith, inl, inr}
use Rattle.sg_space.specs.Units.{Units}
use Rattle.sg_space.specs.Owned.{Becomes, Grows, AreApart}

pub grows_same : {A : Type 0} {old new : Units A} {own : ℕ → Type 0} {count : ℕ} → new ≡ old → Grows old new own own count count
grows_same {A} {old} {new} {own} {count} e = record {
  others = λ n no. ap (λ (u : Units A). u.at n) e;
  more = λ n o. o;
  taken = λ n o. inl o;
  exactly = ap (λ (u : Units A). u.free + count) e;
  all = ap (λ (u : Units A). u.count) e;
}

-- one growth after another. What is owned in between is taken
pub grows_then : {A : Type 0} {a b c : Units A} {u v w : ℕ → Type 0} {l m n : ℕ} → Grows a b u v l m → ((k : ℕ) → v k → b.at k ≡ None → ⊥) → Grows b c v w m n → Grows a c u w l n
grows_then {A} {a} {b} {c} {u} {v} {w} {l} {m} {n} f there g = record {
  others = λ k no. g.others k no ∙ f.others k (λ o. no (g.more k o));
  more = λ k o. g.more k (f.more k o);
  taken = λ k o. elim (g.taken k o) [
    | inl mine ↦ f.taken k mine
    | inr none ↦ inr (sym (f.others k (λ o. there k o none)) ∙ none)
  ];
  exactly = let x = f.exactly in let y = g.exactly in omega arith;
  all = g.all ∙ f.all;
}

-- a growth, and then a change within what is owned
pub grows_within : {A : Type 0} {a b c : Units A} {u v : ℕ → Type 0} {m n : ℕ} → Grows a b u v m n → ((k : ℕ) → ¬ v k → c.at k ≡ b.at k) → c.free ≡ b.free → c.count ≡ b.count → Grows a c u v m n
grows_within {A} {a} {b} {c} {u} {v} {m} {n} f same free all = record {
  others = λ k no. same k no ∙ f.others k no;
  more = f.more;
  taken = f.taken;
  exactly = ap (λ (x : ℕ). x + n) free ∙ f.exactly;
  all = all ∙ f.all;
}

pub grown : {A : Type 0} {old new : Units A} {own own' : ℕ → Type 0} {count count' : ℕ} → Grows old new own own' count count' → Becomes old new own own' count count'
grown g = record {
  others = λ n no no'. g.others n no';
  taken = g.taken;
  given = λ n o no. absurd (no (g.more n o));
  exactly = g.exactly;
  all = g.all;
}

-- Two structures side by side: what one does leaves what the other owns, and the two stay apart.
pub stays : {A : Type 0} {old new : Units A} {own own' other : ℕ → Type 0} {count count' : ℕ} → Becomes old new own own' count count' → AreApart old own other → (n : ℕ) → other n → new.at n ≡ old.at n
stays {A} {old} {new} {own} {own'} {other} b two n o = b.others n (λ mine. two.apart n mine o) (λ now. elim (b.taken n now) [
  | inl mine ↦ two.apart n mine o
  | inr none ↦ two.there n o none
])

pub two_stay : {A : Type 0} {old new : Units A} {own own' other : ℕ → Type 0} {count count' : ℕ} → Becomes old new own own' count count' → AreApart old own other → AreApart new own' other
two_stay {A} {old} {new} {own} {own'} {other} b two = record {
  apart = λ n mine o. elim (b.taken n mine) [
    | inl before ↦ two.apart n before o
    | inr none ↦ two.there n o none
  ];
  there = λ n o none. two.there n o (sym (stays b two n o) ∙ none);
}
