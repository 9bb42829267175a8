-- What windows keep when a band comes into one, is written to, or is clean.
use Rattle.std.proofs.Common.{◌≡◌, ◌≢◌, ◌⊎◌, inl, inr, ⊎_elim, ◌<◌, ◌≤◌, ◌+◌, ℕ, Bool, false, Option, Some, None, List, length, get_or, set, refl, sym, ◌∙◌, ap, arith, length-set, get_or-set_same, get_or-set_other}
use Rattle.std.proofs.lemmas.Bool.{cases_eq}
use Rattle.std.specs.Prelude.{replicate}
use Rattle.std.proofs.lemmas.List.{get_or-replicate, length-replicate}
use Rattle.sg_segment.specs.Runs.{NoneFrom}
use Rattle.sg_pool.specs.declared.slot.Slot.{Slot}
use Rattle.sg_pool.specs.declared.windows.Marks.{Marks}
use Rattle.sg_pool.specs.Held.{no_slot, frame_of, page_in, since_of}
use Rattle.sg_pool.specs.Windows.{no_marks, marked_in, IsWindows}
use Rattle.sg_pool.proofs.Slots.{some_same, none_is_some, apart_new, apart_kept, frame_kept, within_set, owned_set}
use Rattle.sg_pool.proofs.Clearing.{apart_cleared, frames_same}
use Rattle.sg_pool.proofs.Changes.{bool_cases}
use Rattle.sg_pool.proofs.Indexing.{replaced}
use Rattle.sg_pool.proofs.Fresh.{page_none, since_none, frame_none}

pub windows_new : (count bands : ℕ) (slots : List Slot) (index : List (Option ℕ)) (marks : List Marks) → 1 ≤ count → count ≤ 256 → slots ≡ replicate count no_slot → index ≡ replicate bands None → length marks ≡ count → IsWindows slots index marks 0
windows_new count bands slots index marks some few same all many = record {
  apart = λ i j n li lj a b. absurd (none_is_some n (sym (page_none count i) ∙ (ap (λ (t : List Slot). page_in t i) (sym same) ∙ a)));
  within = λ w b lt is. absurd (none_is_some b (sym (page_none count w) ∙ (ap (λ (t : List Slot). page_in t w) (sym same) ∙ is)));
  owned = λ w none. ap (λ (t : List Slot). since_of t (Some w)) same ∙ since_none count w;
  found = λ n lt. ap (λ (l : List (Option ℕ)). get_or l n None) all ∙ (get_or-replicate bands n None None (let e = ap length all ∙ length-replicate {A = Option ℕ} bands None in omega (arith, e, lt))
      ∙ (sym (frame_none count n) ∙ ap (λ (t : List Slot). frame_of t n) (sym same)));
  marked = let e = ap length same ∙ length-replicate count no_slot in omega (arith, e, many);
  few = let e = ap length same ∙ length-replicate count no_slot in omega (arith, e, few);
  next_there = let e = ap length same ∙ length-replicate count no_slot in omega (arith, e, some);
}

module _ (slots : List Slot) (index : List (Option ℕ)) (marks marks' : List Marks) (next next' : ℕ) (is : IsWindows slots index marks next) (many : length marks' ≡ length marks) (behind : next' < length slots) where
  module _ (w : ℕ) (lt : w < length slots) where
    -- a band comes into a window
    pub windows_put : (b : ℕ) → b < length index → frame_of slots b ≡ None → (new : List (Option ℕ)) → (page_in slots w ≡ None → new ≡ index) → ((n : ℕ) → page_in slots w ≡ Some n → new ≡ set index n None)
        → IsWindows (set slots w (record { number = Some b; since = None })) (set new b (Some w)) marks' next'
    windows_put b small absent new none some =
        let s : Slot = record { number = Some b; since = None } in
        let it = replaced slots index w b lt is.apart is.found small absent new (λ n held. is.within w n lt held) none some in
        let same = it.0 in
        let long : length (set new b (Some w)) ≡ length index = length-set new b (Some w) ∙ same in
        let count : length (set slots w s) ≡ length slots = length-set slots w s in
        let marked = is.marked in let few = is.few in
        record {
          apart = apart_new slots w s lt b refl absent is.apart;
          within = within_set slots w s lt (length (set new b (Some w))) (λ v n less held. let low = is.within v n less held in omega (arith, long, low)) (λ n held. let e = some_same b n held in omega (arith, long, e, small));
          owned = owned_set slots w s lt is.owned (λ none. refl);
          found = it.1;
          marked = omega (arith, count, many, marked);
          few = omega (arith, count, few);
          next_there = omega (arith, count, behind);
        }

    -- a window's band is changed
    pub windows_written : (s : Slot) (b : ℕ) → s.number ≡ page_in slots w → page_in slots w ≡ Some b → IsWindows (set slots w s) index marks' next'
    windows_written s b same held =
        let count : length (set slots w s) ≡ length slots = length-set slots w s in
        let marked = is.marked in let few = is.few in
        record {
          apart = apart_kept slots w s lt same is.apart;
          within = within_set slots w s lt (length index) is.within (λ n e. is.within w n lt (sym same ∙ e));
          owned = owned_set slots w s lt is.owned (λ none. absurd (none_is_some b (sym none ∙ (same ∙ held))));
          found = λ n less. is.found n less ∙ sym (frame_kept slots w s lt same n is.apart);
          marked = omega (arith, count, many, marked);
          few = omega (arith, count, few);
          next_there = omega (arith, count, behind);
        }

  -- bands are home
  pub windows_cleared : (new : List Slot) → length new ≡ length slots → ((h : ℕ) → page_in new h ≡ page_in slots h) → ((h : ℕ) → (since_of new (Some h) ≡ None) ⊎ (since_of new (Some h) ≡ since_of slots (Some h))) → IsWindows new index marks' next'
  windows_cleared new count pages sinces = let marked = is.marked in let few = is.few in record {
    apart = apart_cleared slots new count pages is.apart;
    within = λ w b lt held. is.within w b (omega (arith, count, lt)) (sym (pages w) ∙ held);
    owned = λ w none. ⊎_elim (λ clear. clear) (λ same. same ∙ is.owned w (sym (pages w) ∙ none)) (sinces w);
    found = λ n less. is.found n less ∙ sym (frames_same slots new count pages is.apart n);
    marked = omega (arith, count, many, marked);
    few = omega (arith, count, few);
    next_there = omega (arith, count, behind);
  }

-- no mark says of each byte that it isn't marked
pub unmarked : (dirty : List Bool) → NoneFrom dirty 0 → (k : ℕ) → get_or dirty k false ≡ false
unmarked dirty none k = ⊎_elim (λ yes. absurd (none k (omega arith) yes)) (λ not. not) (bool_cases (get_or dirty k false))

-- the marks of one window after another go
pub record AreUnmarking (old new : List Marks) (from w : ℕ) : Type 0 where
  pub count : length new ≡ length old
  pub cleared : (v k : ℕ) → from ≤ v → v < w → marked_in new (Some v) k ≡ false
  pub others : (v : ℕ) → (v < from) ⊎ (w ≤ v) → get_or new v no_marks ≡ get_or old v no_marks

pub unmarking_starts : (marks : List Marks) (from : ℕ) → AreUnmarking marks marks from from
unmarking_starts marks from = record { count = refl; cleared = λ v k low high. absurd (omega arith); others = λ v out. refl }

pub unmarking_next : (old new : List Marks) (from w : ℕ) (m : Marks) → from ≤ w → w < length new → ((k : ℕ) → get_or m.dirty k false ≡ false) → AreUnmarking old new from w → AreUnmarking old (set new w m) from (w + 1)
unmarking_next old new from w m low lt none is = record {
  count = length-set new w m ∙ is.count;
  cleared = λ v k a b. ⊎_elim
      (λ e. ap (λ (x : ℕ). get_or (get_or (set new w m) x no_marks).dirty k false) e ∙ (ap (λ (x : Marks). get_or x.dirty k false) (get_or-set_same new w m no_marks lt) ∙ none k))
      (λ differ. ap (λ (x : Marks). get_or x.dirty k false) (get_or-set_other new w v m no_marks differ) ∙ is.cleared v k a (omega arith))
      (cases_eq v w);
  others = λ v out.
      let differ : v ≢ w = ⊎_elim (λ a. λ e. absurd (omega (arith, a, e, low))) (λ a. λ e. absurd (omega (arith, a, e))) out in
      get_or-set_other new w v m no_marks differ ∙ is.others v (⊎_elim (λ a. inl a) (λ a. inr (omega (arith, a))) out);
}
