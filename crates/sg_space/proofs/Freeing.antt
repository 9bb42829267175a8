-- Pages, or bands, that are freed one after another.
use Rattle.std.proofs.Common.{◌≡◌, ◌≢◌, ℕ, ◌+◌, ◌<◌, ◌≤◌, List, length, Option, Some, None, sym, ap, ◌∙◌, arith, slice_get, inl, inr}
use Rattle.std.proofs.lemmas.Bool.{cases_eq}
use Rattle.std.proofs.lemmas.Option.{slice_get_within}
use Rattle.sg_space.specs.Owned.{Becomes, IsOneOf, IsFirst, AreFreed}
use Rattle.sg_space.specs.Units.{Units, IsFreed}
use Rattle.sg_space.proofs.Known.{same_some}

pub freed_none : {A : Type 0} {old new : Units A} (ns : List ℕ) → new ≡ old → AreFreed old new ns 0
freed_none {A} ns e = record {
  gone = λ n first. absurd (let less = first.1 in omega arith);
  others = λ n no. ap (λ (u : Units A). u.at n) e;
  free = let same : _ ≡ _ = ap (λ (u : Units A). u.free) e in omega arith;
  all = ap (λ (u : Units A). u.count) e;
}

-- the next one is as it was
pub next_stays : {A : Type 0} {old new : Units A} {ns : List ℕ} {j n : ℕ} → ((i k p : ℕ) → slice_get ns i ≡ Some p → slice_get ns k ≡ Some p → i ≡ k) → AreFreed old new ns j → slice_get ns j ≡ Some n → new.at n ≡ old.at n
next_stays {j = j} {n = n} apart f e = f.others n (λ first. let same = apart first.0 j n first.2 e in let less = first.1 in omega arith)

pub one_freed : {A : Type 0} {a b c : Units A} {ns : List ℕ} {j n : ℕ} → AreFreed a b ns j → slice_get ns j ≡ Some n → IsFreed b c n → AreFreed a c ns (j + 1)
one_freed {b = b} {c = c} {ns = ns} {j = j} {n = n} f e g = record {
  gone = λ k first. elim (cases_eq k n) as (λ _. c.at k ≡ None) [
    | inl same ↦ ap c.at same ∙ g.gone
    | inr other ↦ g.others k other ∙ f.gone k (first.0, before k first other, first.2)
  ];
  others = λ k no. g.others k (λ same. no (j, (omega arith), e ∙ ap Some (sym same))) ∙ f.others k (λ first. no (first.0, (let less = first.1 in omega arith), first.2));
  free = let x = f.free in let y = g.free in omega arith;
  all = g.count ∙ f.all;
}
  where
    before : (k : ℕ) → (first : IsFirst ns (j + 1) k) → k ≢ n → first.0 < j
    before k first other = elim (cases_eq first.0 j) as (λ _. first.0 < j) [
      | inl last ↦ absurd (other (same_some k n (sym first.2 ∙ (ap (slice_get ns) last ∙ e))))
      | inr less ↦ (let x = first.1 in omega arith)
    ]

pub all_freed : {A : Type 0} {old new : Units A} {ns : List ℕ} → AreFreed old new ns (length ns) → Becomes old new (IsOneOf ns) (λ _. ⊥) (length ns) 0
all_freed {ns = ns} f = record {
  others = λ n no none. f.others n (λ first. no (first.0, first.2));
  taken = λ n none. absurd none;
  given = λ n o none. f.gone n (o.0, slice_get_within ns o.0 n o.1, o.1);
  exactly = let x = f.free in omega arith;
  all = f.all;
}
