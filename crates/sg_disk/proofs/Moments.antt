-- How a run of calls goes on.
use Rattle.std.proofs.Common.{◌<◌, ◌⊎◌, inl, inr, ⊎_elim, ℕ, List, [], ◌∷◌, ◌++◌, Result, refl, sym, ◌∙◌, ap, append_assoc}
use Rattle.sg_disk.specs.Disk.{Image, State, Leaves, LeavesAny, View, Does, LeavesOnly}
use Rattle.sg_base.specs.declared.area.Area.{Area}

pub any-append : (xs ys : List State) (c : Image) → LeavesAny (xs ++ ys) c → LeavesAny xs c ⊎ LeavesAny ys c
any-append [] ys c any = inr any
any-append (x ∷ xs) ys c (inl here) = inl (inl here)
any-append (x ∷ xs) ys c (inr there) = ⊎_elim (λ l. inl (inr l)) (λ r. inr r) (any-append xs ys c there)

-- before the first call
pub started : (v : View) (P : Image → Type 0) → ((c : Image) → Leaves v.now c → P c) → LeavesOnly v v P
started v P here = record { added = []; past = refl; first = here; each = λ c. ⊎_elim (here c) (λ none. absurd none) }

-- one call more, in which a crash leaves what has P
pub goes_on : {T E : Type 0} {old mid new : View} {P : Image → Type 0} {result : Result T E} {widest done : State} → LeavesOnly old mid P → Does mid new result widest done
    → ((c : Image) → Leaves widest c → P c) → LeavesOnly old new P
goes_on {old = old} {mid = mid} {new = new} so_far call here = record {
  added = call.added ++ so_far.added;
  past = call.past ∙ ap (λ (l : List State). call.added ++ l) so_far.past ∙ sym (append_assoc call.added so_far.added old.past);
  first = so_far.first;
  each = λ c. ⊎_elim (λ now. here c (call.only c (inl now))) (λ before. ⊎_elim (λ l. here c (call.only c (inr l))) (λ r. so_far.each c (inr r)) (any-append call.added so_far.added c before));
}

-- a run, and then another
pub joined : {old mid new : View} {P : Image → Type 0} → LeavesOnly old mid P → LeavesOnly mid new P → LeavesOnly old new P
joined {old = old} first second = record {
  added = second.added ++ first.added;
  past = second.past ∙ ap (λ (l : List State). second.added ++ l) first.past ∙ sym (append_assoc second.added first.added old.past);
  first = first.first;
  each = λ c. ⊎_elim (λ now. second.each c (inl now)) (λ before. ⊎_elim (λ l. second.each c (inr l)) (λ r. first.each c (inr r)) (any-append second.added first.added c before));
}

pub weaker : {old new : View} {P Q : Image → Type 0} → LeavesOnly old new P → ((c : Image) → P c → Q c) → LeavesOnly old new Q
weaker run more = record { added = run.added; past = run.past; first = λ c here. more c (run.first c here); each = λ c any. more c (run.each c any) }

-- what a read gives is one of the images
pub seen_image : (v : View) → ((a : Area) (i : ℕ) → (v.now a).seen i < 256) → Leaves v.now (λ a. (v.now a).seen)
seen_image v bytes a = record { byte = bytes a; rest = λ i whole. refl }
