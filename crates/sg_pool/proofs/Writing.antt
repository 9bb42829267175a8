-- One page goes home: its moments, and its end.
use Rattle.std.proofs.Common.{◌≡◌, inl, inr, ⊎_elim, ◌<◌, ◌+◌, ◌-◌, ℕ, List, [], ◌∷◌, length, Result, sym, ◌∙◌, ap, subst, arith}
use Rattle.sg_base.specs.declared.area.Area.{Area}
use Rattle.sg_base.specs.declared.area.Area.TheVariants.{Home}
use Rattle.sg_disk.specs.Disk.{Bytes, Image, Part, State, LeavesPart, Leaves, View, Wrote, LeavesOnly, put, written, written_part}
use Rattle.sg_disk.proofs.Images.{put_outside}
use Rattle.sg_disk.proofs.Parts.{part_written, other_written, leaves_written, leaves_other, put_inside}
use Rattle.sg_disk.proofs.Moments.{started, goes_on, weaker, joined}
use Rattle.sg_gate.specs.Layout.{PAGE, HEADER, place_at, home_at, IsStore}
use Rattle.sg_gate.specs.Batch.{over, IsReady, IsDone, IsWhole, IsEither}
use Rattle.sg_pool.specs.Going.{IsStored, with_home}
use Rattle.sg_pool.proofs.Placing.{placed_ready}
use Rattle.sg_gate.proofs.Over.{laid_shut, in_or_out, step_in, step_out}

-- what a batch leaves, of the store alone
pub stored : (p : Part) (f : Bytes) → IsDone p f → IsStored p f
stored p f done = record { closed = done.closed; settled = done.settled; bytes = λ i store. done.bytes i (⊎_elim (λ low. inl low) (λ high. inr (omega arith)) store) }

-- what a crash leaves of an area that is ready
pub rest_whole : (s : State) (pages : ℕ) (p : Part) (c : Image) → IsReady p → LeavesPart p (c Home) → ((b : Area) → (b ≡ Home → ⊥) → LeavesPart (s b) (c b)) → IsWhole s pages p.seen c
rest_whole s pages p c ready leaves others =
    let shut : c Home HEADER ≡ 1 → ⊥ = λ gate. ready.closed (sym (leaves.rest HEADER (ready.settled HEADER (inl (omega arith)))) ∙ gate) in
    record {
      home = λ i store. laid_shut (c Home) i shut ∙ leaves.rest i (ready.settled i (⊎_elim (λ low. inl (omega arith)) (λ high. inr high) store));
      header = λ gate. absurd (shut gate);
      fits = leaves.byte;
      others = others;
    }

pub whole_store : (s : State) (pages : ℕ) (f f' : Bytes) (c : Image) → ((i : ℕ) → IsStore i → f i ≡ f' i) → IsWhole s pages f c → IsWhole s pages f' c
whole_store s pages f f' c same whole = record { home = λ i store. whole.home i store ∙ same i store; header = whole.header; fits = whole.fits; others = whole.others }

pub whole_state : (s t : State) (pages : ℕ) (f : Bytes) (c : Image) → ((b : Area) → (b ≡ Home → ⊥) → t b ≡ s b) → IsWhole t pages f c → IsWhole s pages f c
whole_state s t pages f c logs whole = record { home = whole.home; header = whole.header; fits = whole.fits; others = λ b other. subst (λ (p : Part). LeavesPart p (c b)) (logs b other) (whole.others b other) }

module _ (page : List ℕ) (long : length page ≡ PAGE) where
  placed_store : (f : Bytes) (i : ℕ) → IsStore i → put (place_at 0) page f i ≡ f i
  placed_store f i store = put_outside (place_at 0) page f i (λ low lt. ⊎_elim (λ a. absurd (omega arith)) (λ a. absurd (omega arith)) store)

  -- the page at place 0, laid over
  pub over_one : (n : ℕ) (f : Bytes) (i : ℕ) → IsStore i → over (n ∷ []) 0 (put (place_at 0) page f) (put (place_at 0) page f) i ≡ with_home n page f i
  over_one n f i store = ⊎_elim
      (λ is.
      let low = is.1 in let high = is.2 in
      let k = i - home_at n in
      let lt : k < length page = omega arith in
      let at : home_at n + k ≡ i = omega arith in
      step_in n 0 (put (place_at 0) page f) (put (place_at 0) page f) i low high ∙ (put_inside (place_at 0) page f k 0 lt ∙ sym (ap (put (home_at n) page f) (sym at) ∙ put_inside (home_at n) page f k 0 lt)))
      (λ out.
      let no = out.1 in
      step_out n 0 (put (place_at 0) page f) (put (place_at 0) page f) i no ∙ (placed_store f i store ∙ sym (put_outside (home_at n) page f i (λ low lt. no low (omega arith)))))
      (in_or_out (home_at n) i)

  module _ (pages n : ℕ) (v : View) (ready : IsReady (v.now Home)) where
    abbrev P : Image → Type 0
    P = IsEither v.now pages (v.now Home).seen (with_home n page (v.now Home).seen)

    at_start : (c : Image) → Leaves v.now c → P c
    at_start c leaves = inl (rest_whole v.now pages (v.now Home) c ready (leaves Home) (λ b other. leaves b))

    while_placed : (c : Image) → Leaves (written Home (place_at 0) page v.now) c → P c
    while_placed c leaves = inl (whole_store v.now pages (put (place_at 0) page (v.now Home).seen) (v.now Home).seen c (placed_store (v.now Home).seen)
        (rest_whole v.now pages (written_part (place_at 0) page (v.now Home)) c (placed_ready 0 page (omega arith) long (v.now Home) ready) (leaves_written v.now Home (place_at 0) page c leaves)
        (λ b other. leaves_other v.now Home b (place_at 0) page c other leaves)))

    pub place_moments : {T E : Type 0} (m : View) (r : Result T E) → Wrote Home (place_at 0) page v m r → LeavesOnly v m P
    place_moments m r wrote = goes_on (started v P at_start) wrote while_placed

    -- the page is placed
    module _ (m : View) (is : m.now ≡ written Home (place_at 0) page v.now) where
      part : m.now Home ≡ written_part (place_at 0) page (v.now Home)
      part = part_written v.now Home (place_at 0) page is

      pub placed : IsReady (m.now Home)
      placed = subst IsReady (sym part) (placed_ready 0 page (omega arith) long (v.now Home) ready)

      pub logs_same : (b : Area) → (b ≡ Home → ⊥) → m.now b ≡ v.now b
      logs_same b other = other_written v.now Home b (place_at 0) page other is

      seen_is : (m.now Home).seen ≡ put (place_at 0) page (v.now Home).seen
      seen_is = ap (λ (p : Part). p.seen) part

      later_is : (i : ℕ) → IsStore i → over (n ∷ []) 0 (m.now Home).seen (m.now Home).seen i ≡ with_home n page (v.now Home).seen i
      later_is i store = ap (λ (f : Bytes). over (n ∷ []) 0 f f i) seen_is ∙ over_one n (v.now Home).seen i store

      same_is : (i : ℕ) → IsStore i → (m.now Home).seen i ≡ (v.now Home).seen i
      same_is i store = ap (λ (f : Bytes). f i) seen_is ∙ placed_store (v.now Home).seen i store

      moved_on : (c : Image) → IsEither m.now pages (m.now Home).seen (over (n ∷ []) 0 (m.now Home).seen (m.now Home).seen) c → P c
      moved_on c either = ⊎_elim
          (λ before. inl (whole_state v.now m.now pages (v.now Home).seen c logs_same (whole_store m.now pages (m.now Home).seen (v.now Home).seen c same_is before)))
          (λ after. inr (whole_state v.now m.now pages (with_home n page (v.now Home).seen) c logs_same (whole_store m.now pages (over (n ∷ []) 0 (m.now Home).seen (m.now Home).seen) (with_home n page (v.now Home).seen) c later_is after)))
          either

      pub finish_moments : (w : View) → LeavesOnly v m P → LeavesOnly m w (IsEither m.now pages (m.now Home).seen (over (n ∷ []) 0 (m.now Home).seen (m.now Home).seen)) → LeavesOnly v w P
      finish_moments w first run = joined first (weaker run moved_on)

      pub finish_done : (p : Part) → IsDone p (over (n ∷ []) 0 (m.now Home).seen (m.now Home).seen) → IsStored p (with_home n page (v.now Home).seen)
      finish_done p done = let there = stored p (over (n ∷ []) 0 (m.now Home).seen (m.now Home).seen) done in record { closed = there.closed; settled = there.settled; bytes = λ i store. there.bytes i store ∙ later_is i store }
