-- The units when a window gets another band, and when its band is written to.
use Rattle.std.proofs.Common.{◌≡◌, ◌≢◌, ◌⊎◌, inl, inr, ⊎_elim, ◌<◌, ◌≤◌, ◌+◌, ◌-◌, ℕ, Bool, true, false, Option, Some, None, List, [], ◌∷◌, ◌++◌, length, take, drop, get_or, set, refl, sym, ◌∙◌, ap, subst, arith, length-set}
use Rattle.std.specs.Prelude.{◌↔◌, ◌||◌, unwrap_or}
use Rattle.std.proofs.lemmas.Bool.{cases_eq, cases_lt}
use Rattle.std.proofs.lemmas.List.{length-take-le, get_or-take, get_or-drop, get_or_append_left, get_or-append_right, append_assoc}
use Rattle.sg_base.specs.Overwritten.{overwritten}
use Rattle.sg_base.specs.declared.page.TheConstants.{BAND_SIZE}
use Rattle.sg_disk.specs.Disk.{Part, put}
use Rattle.sg_disk.proofs.Images.{put_outside}
use Rattle.sg_disk.proofs.Parts.{put_inside}
use Rattle.sg_frames.specs.Held.{Held}
use Rattle.sg_gate.specs.Layout.{home_at}
use Rattle.sg_segment.specs.Runs.{IsWithin}
use Rattle.sg_pool.specs.declared.slot.Slot.{Slot}
use Rattle.sg_pool.specs.declared.windows.Windows.{Windows}
use Rattle.sg_pool.specs.declared.windows.Marks.{Marks}
use Rattle.sg_redo.proofs.Bytes.{replay_byte}
use Rattle.sg_redo.specs.History.{OnByte, rewritten, is_covered}
use Rattle.sg_redo.specs.Window.{OnWindow, on_byte, replayed, since_replayed, AllLie}
use Rattle.sg_pool.specs.Changed.{IsWritten}
use Rattle.sg_pool.specs.Repeated.{IsBandRepeated}
use Rattle.sg_pool.specs.Held.{frame_of, page_in, since_of, AreApart, page_of}
use Rattle.sg_pool.specs.Windows.{no_marks, marked_in, last_in}
use Rattle.sg_pool.specs.Units.{Geometry, page_at, band_byte, IsBacked, IsCleaned}
use Rattle.sg_pool.specs.Frames.{units_of, byte_in, AreBelow}
use Rattle.sg_pool.proofs.Changes.{bool_cases}
use Rattle.sg_pool.proofs.Slots.{some_same, none_is_some, is_or_not, frame_is, frame_some, frame_kept, frame_other, frame_gone, apart_new, page_here, page_there, set_here, set_there}

-- A CLEAN WINDOW GETS A BAND FROM ITS HOME
module _ (g : Geometry) (slots : List Slot) (wins wins' : Windows) (w b : ℕ) (lt : w < length wins.slots.items) (is : wins'.slots.items ≡ set wins.slots.items w (record { number = Some b; since = None })) (absent : frame_of wins.slots.items b ≡ None)
    (clean : since_of wins.slots.items (Some w) ≡ None) (unmarked : (k : ℕ) → marked_in wins'.marks.items (Some w) k ≡ false) (marks : (v : ℕ) → v ≢ w → get_or wins'.marks.items v no_marks ≡ get_or wins.marks.items v no_marks) where
  abbrev s : Slot
  s = record { number = Some b; since = None }

  abbrev t : List Slot
  t = set wins.slots.items w s

  apart : AreApart t
  apart = apart_new wins.slots.items w s lt b refl absent wins.windows.apart

  at_t : (c : ℕ) → frame_of wins'.slots.items c ≡ frame_of t c
  at_t c = ap (λ (l : List Slot). frame_of l c) is

  since_t : (o : Option ℕ) → since_of wins'.slots.items o ≡ since_of t o
  since_t o = ap (λ (l : List Slot). since_of l o) is

  here : frame_of wins'.slots.items b ≡ Some w
  here = at_t b ∙ frame_is t w b apart (let e = length-set wins.slots.items w s in omega (arith, e, lt)) (page_here wins.slots.items w s lt)

  pub loaded_held : frame_of wins'.slots.items b ≡ Some w
  loaded_held = here

  pub loaded_others : (v : ℕ) → v ≢ w → page_in wins'.slots.items v ≡ page_in wins.slots.items v
  loaded_others v differ = ap (λ (l : List Slot). page_in l v) is ∙ page_there wins.slots.items w s lt v differ

  -- each band that has a change keeps its last one
  module _ (c o : ℕ) (since : since_of wins'.slots.items (frame_of wins'.slots.items c) ≡ Some o) where
    in_none : frame_of wins'.slots.items c ≡ None → ⊥
    in_none gone = none_is_some o (sym (ap (since_of wins'.slots.items) gone) ∙ since)

    fresh_none : Some b ≡ Some c → ⊥
    fresh_none new =
        let held : frame_of wins'.slots.items c ≡ Some w = ap (frame_of wins'.slots.items) (sym (some_same b c new)) ∙ here in
        none_is_some o (sym (ap (since_of wins'.slots.items) held ∙ (since_t (Some w) ∙ ap (λ (x : Slot). x.since) (set_here wins.slots.items w s lt))) ∙ since)

    abbrev Kept : Type 0
    Kept = (since_of wins.slots.items (frame_of wins.slots.items c) ≡ Some o) × (last_in wins'.marks.items (frame_of wins'.slots.items c) ≡ last_in wins.marks.items (frame_of wins.slots.items c))

    other_kept : (x : Option ℕ) → (Some b ≡ Some c → ⊥) → (page_in wins.slots.items w ≡ Some c → ⊥) → frame_of wins.slots.items c ≡ x → Kept
    other_kept None not_new not_old e = absurd (in_none (at_t c ∙ (frame_other wins.slots.items w s lt c apart not_new not_old ∙ e)))
    other_kept (Some v) not_new not_old e =
        let now = at_t c ∙ (frame_other wins.slots.items w s lt c apart not_new not_old ∙ e) in
        let differ : v ≢ w = λ same. not_old (ap (page_in wins.slots.items) (sym same) ∙ (frame_some c wins.slots.items v e).1) in
        let was : since_of wins.slots.items (Some v) ≡ Some o = sym (since_t (Some v) ∙ ap (λ (x : Slot). x.since) (set_there wins.slots.items w s lt v differ)) ∙ (sym (ap (since_of wins'.slots.items) now) ∙ since) in
        (ap (since_of wins.slots.items) e ∙ was, ap (last_in wins'.marks.items) now ∙ (ap (λ (m : Marks). m.last) (marks v differ) ∙ sym (ap (last_in wins.marks.items) e)))

    pub loaded_lasts : Kept
    loaded_lasts = ⊎_elim
        (λ new. absurd (fresh_none new.1))
        (λ not_new. ⊎_elim (λ was. absurd (in_none (at_t c ∙ frame_gone wins.slots.items w s lt c wins.windows.apart was.1 not_new.1))) (λ not_old. other_kept (frame_of wins.slots.items c) not_new.1 not_old.1 refl) (is_or_not (page_in wins.slots.items w) c))
        (is_or_not (Some b) c)

  -- and each change
  pub loaded_changes : (c o : ℕ) → since_of wins.slots.items (frame_of wins.slots.items c) ≡ Some o → since_of wins'.slots.items (frame_of wins'.slots.items c) ≡ Some o
  loaded_changes c o had = ⊎_elim
      (λ new. absurd (none_is_some o (sym (ap (since_of wins.slots.items) (ap (frame_of wins.slots.items) (sym (some_same b c new.1)) ∙ absent)) ∙ had)))
      (λ not_new. ⊎_elim
      (λ was. absurd (none_is_some o (sym clean ∙ (ap (since_of wins.slots.items) (sym (frame_is wins.slots.items w c wins.windows.apart lt was.1)) ∙ had))))
      (λ not_old. changes_at c o (frame_of wins.slots.items c) not_new.1 not_old.1 refl had)
      (is_or_not (page_in wins.slots.items w) c))
      (is_or_not (Some b) c)
    where
      changes_at : (c o : ℕ) (x : Option ℕ) → (Some b ≡ Some c → ⊥) → (page_in wins.slots.items w ≡ Some c → ⊥) → frame_of wins.slots.items c ≡ x → since_of wins.slots.items (frame_of wins.slots.items c) ≡ Some o → since_of wins'.slots.items (frame_of wins'.slots.items c) ≡ Some o
      changes_at c o None not_new not_old e had = absurd (none_is_some o (sym (ap (since_of wins.slots.items) e) ∙ had))
      changes_at c o (Some v) not_new not_old e had =
          let now = at_t c ∙ (frame_other wins.slots.items w s lt c apart not_new not_old ∙ e) in
          let differ : v ≢ w = λ same. not_old (ap (page_in wins.slots.items) (sym same) ∙ (frame_some c wins.slots.items v e).1) in
          ap (since_of wins'.slots.items) now ∙ (since_t (Some v) ∙ (ap (λ (x : Slot). x.since) (set_there wins.slots.items w s lt v differ) ∙ (ap (since_of wins.slots.items) (sym e) ∙ had)))

  module _ (frames frames' : Held) (pages : frames'.pages ≡ frames.pages) (others : (v : ℕ) → v ≢ w → get_or frames'.windows v [] ≡ get_or frames.windows v []) (p : Part)
      (bytes : (i : ℕ) → i < BAND_SIZE → get_or (get_or frames'.windows w []) i 0 ≡ p.seen (band_byte g b i)) where
    module _ (backed : IsBacked g p (units_of g p.seen slots wins frames)) where
      record IsSameBand (c : ℕ) : Type 0 where
        pub byte : (i : ℕ) → c < g.bands → i < BAND_SIZE → byte_in frames'.windows (frame_of wins'.slots.items c) i (p.seen (band_byte g c i)) ≡ byte_in frames.windows (frame_of wins.slots.items c) i (p.seen (band_byte g c i))
        pub since : since_of wins'.slots.items (frame_of wins'.slots.items c) ≡ since_of wins.slots.items (frame_of wins.slots.items c)
        pub marked : (i : ℕ) → marked_in wins'.marks.items (frame_of wins'.slots.items c) i ≡ marked_in wins.marks.items (frame_of wins.slots.items c) i

      same_in : (c : ℕ) (o' o : Option ℕ) → frame_of wins'.slots.items c ≡ o' → frame_of wins.slots.items c ≡ o
          → ((i : ℕ) → c < g.bands → i < BAND_SIZE → byte_in frames'.windows o' i (p.seen (band_byte g c i)) ≡ byte_in frames.windows o i (p.seen (band_byte g c i)))
          → since_of wins'.slots.items o' ≡ since_of wins.slots.items o → ((i : ℕ) → marked_in wins'.marks.items o' i ≡ marked_in wins.marks.items o i) → IsSameBand c
      same_in c o' o e' e byte since marked = record {
        byte = λ i is_band small. ap (λ (x : Option ℕ). byte_in frames'.windows x i (p.seen (band_byte g c i))) e' ∙ (byte i is_band small ∙ sym (ap (λ (x : Option ℕ). byte_in frames.windows x i (p.seen (band_byte g c i))) e));
        since = ap (since_of wins'.slots.items) e' ∙ (since ∙ sym (ap (since_of wins.slots.items) e));
        marked = λ i. ap (λ (x : Option ℕ). marked_in wins'.marks.items x i) e' ∙ (marked i ∙ sym (ap (λ (x : Option ℕ). marked_in wins.marks.items x i) e));
      }

      -- the band that comes
      case_new : IsSameBand b
      case_new = same_in b (Some w) None here absent (λ i is_band small. bytes i small) (since_t (Some w) ∙ ap (λ (x : Slot). x.since) (set_here wins.slots.items w s lt)) unmarked

      -- the one that goes
      case_old : (c : ℕ) → page_in wins.slots.items w ≡ Some c → (Some b ≡ Some c → ⊥) → IsSameBand c
      case_old c was not_new =
          let held : frame_of wins.slots.items c ≡ Some w = frame_is wins.slots.items w c wins.windows.apart lt was in
          let none : (i : ℕ) → marked_in wins.marks.items (frame_of wins.slots.items c) i ≡ false = λ i. backed.clean c i (ap (since_of wins.slots.items) held ∙ clean) in
          same_in c None (Some w) (at_t c ∙ frame_gone wins.slots.items w s lt c wins.windows.apart was not_new) held
          (λ i is_band small. backed.bytes c i is_band small (none i) ∙ ap (λ (x : Option ℕ). byte_in frames.windows x i (p.seen (band_byte g c i))) held)
          (sym clean) (λ i. sym (ap (λ (x : Option ℕ). marked_in wins.marks.items x i) (sym held) ∙ none i))

      -- and another
      other_at : (c : ℕ) (o : Option ℕ) → (Some b ≡ Some c → ⊥) → (page_in wins.slots.items w ≡ Some c → ⊥) → frame_of wins.slots.items c ≡ o → IsSameBand c
      other_at c None not_new not_old e = same_in c None None (at_t c ∙ (frame_other wins.slots.items w s lt c apart not_new not_old ∙ e)) e (λ i is_band small. refl) refl (λ i. refl)
      other_at c (Some v) not_new not_old e =
          let differ : v ≢ w = λ same. not_old (ap (page_in wins.slots.items) (sym same) ∙ (frame_some c wins.slots.items v e).1) in
          same_in c (Some v) (Some v) (at_t c ∙ (frame_other wins.slots.items w s lt c apart not_new not_old ∙ e)) e (λ i is_band small. ap (λ (x : List ℕ). get_or x i 0) (others v differ))
          (since_t (Some v) ∙ ap (λ (x : Slot). x.since) (set_there wins.slots.items w s lt v differ)) (λ i. ap (λ (x : Marks). get_or x.dirty i false) (marks v differ))

      band_same : (c : ℕ) → IsSameBand c
      band_same c = ⊎_elim
          (λ new. subst IsSameBand (some_same b c new.1) case_new)
          (λ not_new. ⊎_elim (λ was. case_old c was.1 not_new.1) (λ not_old. other_at c (frame_of wins.slots.items c) not_new.1 not_old.1 refl) (is_or_not (page_in wins.slots.items w) c))
          (is_or_not (Some b) c)

      pub band_loaded_cleaned : IsCleaned g (units_of g p.seen slots wins frames) (units_of g p.seen slots wins' frames')
      band_loaded_cleaned = record {
        page = λ n small. ap (λ (l : List (List ℕ)). page_of slots l n (page_at p.seen (home_at n))) pages;
        byte = λ c i is_band small. (band_same c).byte i is_band small;
        page_since = λ n small. inl refl;
        band_since = λ c. inl (band_same c).since;
        marked = λ c i. inl ((band_same c).marked i);
      }

      pub band_loaded_backed : IsBacked g p (units_of g p.seen slots wins' frames')
      band_loaded_backed = record {
        ready = backed.ready;
        pages = λ n small none. backed.pages n small none ∙ sym (ap (λ (l : List (List ℕ)). page_of slots l n (page_at p.seen (home_at n))) pages);
        bytes = λ c i is_band small none. let same = band_same c in backed.bytes c i is_band small (sym (same.marked i) ∙ none) ∙ sym (same.byte i is_band small);
        clean = λ c i none. let same = band_same c in same.marked i ∙ backed.clean c i (sym same.since ∙ none);
      }

      -- in what the code's values are
      module _ (g' : Geometry) (q : Part) (slots' : List Slot) (same_g : g' ≡ g) (same_p : q ≡ p) (same_slots : slots' ≡ slots) where
        pub values_cleaned : IsCleaned g (units_of g p.seen slots wins frames) (units_of g' q.seen slots' wins' frames')
        values_cleaned = subst (λ (h : Geometry). IsCleaned g (units_of g p.seen slots wins frames) (units_of h q.seen slots' wins' frames')) (sym same_g)
            (subst (λ (r : Part). IsCleaned g (units_of g p.seen slots wins frames) (units_of g r.seen slots' wins' frames')) (sym same_p)
            (subst (λ (l : List Slot). IsCleaned g (units_of g p.seen slots wins frames) (units_of g p.seen l wins' frames')) (sym same_slots) band_loaded_cleaned))

        pub values_backed : IsBacked g q (units_of g' q.seen slots' wins' frames')
        values_backed = subst (λ (h : Geometry). IsBacked g q (units_of h q.seen slots' wins' frames')) (sym same_g)
            (subst (λ (r : Part). IsBacked g r (units_of g r.seen slots' wins' frames')) (sym same_p)
            (subst (λ (l : List Slot). IsBacked g p (units_of g p.seen l wins' frames')) (sym same_slots) band_loaded_backed))

shape : (xs ys : List ℕ) (at : ℕ) → overwritten xs at ys ≡ take at xs ++ (ys ++ drop (at + length ys) xs)
shape xs ys at = append_assoc (take at xs) ys (drop (at + length ys) xs)

-- a byte of a list of which a part was written over
pub written_byte : (xs ys : List ℕ) (at i : ℕ) → at + length ys ≤ length xs → get_or (overwritten xs at ys) i 0 ≡ put at ys (λ k. get_or xs k 0) i
written_byte xs ys at i fits =
    let front : length (take at xs) ≡ at = length-take-le at xs (omega arith) in
    let tail = ys ++ drop (at + length ys) xs in
    ap (λ (zs : List ℕ). get_or zs i 0) (shape xs ys at) ∙ ⊎_elim
    (λ before. get_or_append_left (take at xs) tail 0 i (omega arith) ∙ (get_or-take at xs i 0 before ∙ sym (put_outside at ys (λ k. get_or xs k 0) i (λ low high. absurd (omega arith)))))
    (λ low. get_or-append_right (take at xs) tail at i 0 front low ∙ ⊎_elim
    (λ within.
    let place : at + (i - at) ≡ i = omega arith in
    get_or_append_left ys (drop (at + length ys) xs) 0 (i - at) within ∙ sym (ap (put at ys (λ k. get_or xs k 0)) (sym place) ∙ put_inside at ys (λ k. get_or xs k 0) (i - at) 0 within))
    (λ behind.
    let place : at + length ys + (i - at - length ys) ≡ i = omega arith in
    get_or-append_right ys (drop (at + length ys) xs) (length ys) (i - at) 0 refl behind
    ∙ (get_or-drop (at + length ys) xs (i - at - length ys) 0 ∙ (ap (λ (k : ℕ). get_or xs k 0) place ∙ sym (put_outside at ys (λ k. get_or xs k 0) i (λ a high. absurd (omega arith))))))
    (cases_lt (i - at) (length ys)))
    (cases_lt i at)

off_both : (m c : Bool) → (m || c) ≡ false → (m ≡ false) × (c ≡ false)
off_both true c none = absurd cc
off_both false c none = (refl, none)

-- a byte that no change covers is as it was
bare_rewritten : (ws : List OnByte) (x : ℕ) → is_covered ws ≡ false → rewritten ws x ≡ x
bare_rewritten [] x bare = refl
bare_rewritten (w ∷ ws) x bare = absurd cc

-- changes that leave a window without an oldest change are none
pub none_replayed : (ws : List OnWindow) (since : Option ℕ) → since_replayed ws since ≡ None → (since ≡ None) × (ws ≡ [])
none_replayed [] since none = (none, refl)
none_replayed (w ∷ ws) since none = absurd (none_is_some (unwrap_or since w.lsn) (sym (none_replayed ws (Some (unwrap_or since w.lsn)) none).0))

-- A WINDOW'S BAND IS CHANGED, and has this oldest change
module _ (g : Geometry) (slots : List Slot) (wins wins' : Windows) (w b : ℕ) (since : Option ℕ) (lt : w < length wins.slots.items) (held : frame_of wins.slots.items b ≡ Some w)
    (is : wins'.slots.items ≡ set wins.slots.items w (record { number = page_in wins.slots.items w; since = since }))
    (marks : (v : ℕ) → v ≢ w → get_or wins'.marks.items v no_marks ≡ get_or wins.marks.items v no_marks)
    (frames frames' : Held) (pages : frames'.pages ≡ frames.pages) (others : (v : ℕ) → v ≢ w → get_or frames'.windows v [] ≡ get_or frames.windows v []) where
  abbrev marked_slot : Slot
  marked_slot = record { number = page_in wins.slots.items w; since = since }

  window_same : (c : ℕ) → frame_of wins'.slots.items c ≡ frame_of wins.slots.items c
  window_same c = ap (λ (l : List Slot). frame_of l c) is ∙ frame_kept wins.slots.items w marked_slot lt refl c wins.windows.apart

  pub written_held : frame_of wins'.slots.items b ≡ Some w
  written_held = window_same b ∙ held

  since_now : since_of wins'.slots.items (Some w) ≡ since
  since_now = ap (λ (l : List Slot). since_of l (Some w)) is ∙ ap (λ (x : Slot). x.since) (set_here wins.slots.items w marked_slot lt)

  band_since_now : since_of wins'.slots.items (frame_of wins'.slots.items b) ≡ since
  band_since_now = ap (since_of wins'.slots.items) written_held ∙ since_now

  -- another band isn't in this window
  record IsOtherSame (c : ℕ) : Type 0 where
    pub byte : (i home : ℕ) → byte_in frames'.windows (frame_of wins'.slots.items c) i home ≡ byte_in frames.windows (frame_of wins.slots.items c) i home
    pub oldest : since_of wins'.slots.items (frame_of wins'.slots.items c) ≡ since_of wins.slots.items (frame_of wins.slots.items c)
    pub last : last_in wins'.marks.items (frame_of wins'.slots.items c) ≡ last_in wins.marks.items (frame_of wins.slots.items c)
    pub bits : (i : ℕ) → marked_in wins'.marks.items (frame_of wins'.slots.items c) i ≡ marked_in wins.marks.items (frame_of wins.slots.items c) i

  other_in : (c : ℕ) (o : Option ℕ) → c ≢ b → frame_of wins.slots.items c ≡ o → IsOtherSame c
  other_in c None differ e =
      let now = window_same c ∙ e in
      record {
        byte = λ i home. ap (λ (x : Option ℕ). byte_in frames'.windows x i home) now ∙ sym (ap (λ (x : Option ℕ). byte_in frames.windows x i home) e);
        oldest = ap (since_of wins'.slots.items) now ∙ sym (ap (since_of wins.slots.items) e);
        last = ap (last_in wins'.marks.items) now ∙ sym (ap (last_in wins.marks.items) e);
        bits = λ i. ap (λ (x : Option ℕ). marked_in wins'.marks.items x i) now ∙ sym (ap (λ (x : Option ℕ). marked_in wins.marks.items x i) e);
      }
  other_in c (Some v) differ e =
      let now = window_same c ∙ e in
      let apart : v ≢ w = λ same. differ (some_same c b (sym (frame_some c wins.slots.items v e).1 ∙ (ap (page_in wins.slots.items) same ∙ (frame_some b wins.slots.items w held).1))) in
      record {
        byte = λ i home. ap (λ (x : Option ℕ). byte_in frames'.windows x i home) now ∙ (ap (λ (x : List ℕ). get_or x i 0) (others v apart) ∙ sym (ap (λ (x : Option ℕ). byte_in frames.windows x i home) e));
        oldest = ap (since_of wins'.slots.items) now ∙ (ap (λ (l : List Slot). since_of l (Some v)) is ∙ (ap (λ (x : Slot). x.since) (set_there wins.slots.items w marked_slot lt v apart) ∙ sym (ap (since_of wins.slots.items) e)));
        last = ap (last_in wins'.marks.items) now ∙ (ap (λ (x : Marks). x.last) (marks v apart) ∙ sym (ap (last_in wins.marks.items) e));
        bits = λ i. ap (λ (x : Option ℕ). marked_in wins'.marks.items x i) now ∙ (ap (λ (x : Marks). get_or x.dirty i false) (marks v apart) ∙ sym (ap (λ (x : Option ℕ). marked_in wins.marks.items x i) e));
      }

  other : (c : ℕ) → c ≢ b → IsOtherSame c
  other c differ = other_in c (frame_of wins.slots.items c) differ refl

  -- where the record is below the tail, so is each band's last change
  pub written_below : (lsn : ℕ) → last_in wins'.marks.items (Some w) ≡ lsn → (tail : ℕ) → lsn < tail → AreBelow tail wins → AreBelow tail wins'
  written_below lsn last tail small below c o at = ⊎_elim
      (λ same. subst (λ (x : Option ℕ). last_in wins'.marks.items x < tail) (sym (ap (frame_of wins'.slots.items) same ∙ written_held)) (subst (λ (n : ℕ). n < tail) (sym last) small))
      (λ differ. let it = other c differ in subst (λ (n : ℕ). n < tail) (sym it.last) (below c o (sym it.oldest ∙ at)))
      (cases_eq c b)

  -- the other bands keep theirs
  pub written_lasts : (c o : ℕ) → c ≢ b → since_of wins'.slots.items (frame_of wins'.slots.items c) ≡ Some o
      → (since_of wins.slots.items (frame_of wins.slots.items c) ≡ Some o) × (last_in wins'.marks.items (frame_of wins'.slots.items c) ≡ last_in wins.marks.items (frame_of wins.slots.items c))
  written_lasts c o differ at = let it = other c differ in (sym it.oldest ∙ at, it.last)

  module _ (p : Part) where
    -- what the band keeps where it isn't marked
    pub changed_backed : ((i : ℕ) → b < g.bands → i < BAND_SIZE → marked_in wins'.marks.items (frame_of wins'.slots.items b) i ≡ false → p.seen (band_byte g b i) ≡ byte_in frames'.windows (frame_of wins'.slots.items b) i (p.seen (band_byte g b i)))
        → (since ≡ None → (i : ℕ) → marked_in wins'.marks.items (frame_of wins'.slots.items b) i ≡ false) → IsBacked g p (units_of g p.seen slots wins frames) → IsBacked g p (units_of g p.seen slots wins' frames')
    changed_backed bare clean backed = record {
      ready = backed.ready;
      pages = λ n small none. backed.pages n small none ∙ sym (ap (λ (l : List (List ℕ)). page_of slots l n (page_at p.seen (home_at n))) pages);
      bytes = λ c i is_band small none. ⊎_elim
          (λ same. subst (λ (x : ℕ). p.seen (band_byte g x i) ≡ byte_in frames'.windows (frame_of wins'.slots.items x) i (p.seen (band_byte g x i))) (sym same)
          (bare i (subst (λ (x : ℕ). x < g.bands) same is_band) small (subst (λ (x : ℕ). marked_in wins'.marks.items (frame_of wins'.slots.items x) i ≡ false) same none)))
          (λ differ. let it = other c differ in backed.bytes c i is_band small (sym (it.bits i) ∙ none) ∙ sym (it.byte i (p.seen (band_byte g c i))))
          (cases_eq c b);
      clean = λ c i none. ⊎_elim
          (λ same. subst (λ (x : ℕ). marked_in wins'.marks.items (frame_of wins'.slots.items x) i ≡ false) (sym same) (clean (sym band_since_now ∙ (ap (λ (x : ℕ). since_of wins'.slots.items (frame_of wins'.slots.items x)) (sym same) ∙ none)) i))
          (λ differ. let it = other c differ in it.bits i ∙ backed.clean c i (sym it.oldest ∙ none))
          (cases_eq c b);
    }

  -- BYTES ARE WRITTEN TO IT
  module _ (lsn at : ℕ) (new : List ℕ) (first : since ≡ Some (unwrap_or (since_of wins.slots.items (Some w)) lsn))
      (marked : (k : ℕ) → marked_in wins'.marks.items (Some w) k ≡ true ↔ ((marked_in wins.marks.items (Some w) k ≡ true) ⊎ IsWithin at (length new) k))
      (long : length (get_or frames.windows w []) ≡ BAND_SIZE) (fits : at + length new ≤ BAND_SIZE) (bytes : get_or frames'.windows w [] ≡ overwritten (get_or frames.windows w []) at new) where
    byte_now : (i home : ℕ) → byte_in frames'.windows (frame_of wins'.slots.items b) i home ≡ put at new (λ k. get_or (get_or frames.windows w []) k 0) i
    byte_now i home = ap (λ (x : Option ℕ). byte_in frames'.windows x i home) written_held ∙ (ap (λ (x : List ℕ). get_or x i 0) bytes ∙ written_byte (get_or frames.windows w []) new at i (omega (arith, fits, long)))

    marked_now : (i : ℕ) → marked_in wins'.marks.items (frame_of wins'.slots.items b) i ≡ true ↔ ((marked_in wins.marks.items (frame_of wins.slots.items b) i ≡ true) ⊎ IsWithin at (length new) i)
    marked_now i = subst (λ (x : Option ℕ). marked_in wins'.marks.items x i ≡ true ↔ ((marked_in wins.marks.items (frame_of wins.slots.items b) i ≡ true) ⊎ IsWithin at (length new) i)) (sym written_held)
        (subst (λ (x : Option ℕ). marked_in wins'.marks.items (Some w) i ≡ true ↔ ((marked_in wins.marks.items x i ≡ true) ⊎ IsWithin at (length new) i)) (sym held) (marked i))

    module _ (p : Part) where
      written_is : IsWritten b lsn at new (units_of g p.seen slots wins frames) (units_of g p.seen slots wins' frames')
      written_is = record {
        byte = λ i small. byte_now i (p.seen (band_byte g b i)) ∙ ap (λ (o : Option ℕ). put at new (λ k. byte_in frames.windows o k (p.seen (band_byte g b k))) i) (sym held);
        since = band_since_now ∙ (first ∙ ap (λ (o : Option ℕ). Some (unwrap_or (since_of wins.slots.items o) lsn)) (sym held));
        marked = marked_now;
        other_bytes = λ c i differ. (other c differ).byte i (p.seen (band_byte g c i));
        other_sinces = λ c differ. (other c differ).oldest;
        other_marks = λ c i differ. (other c differ).bits i;
        page = λ n. ap (λ (l : List (List ℕ)). page_of slots l n (page_at p.seen (home_at n))) pages;
        page_since = λ n. refl;
      }

      -- a byte of the band that isn't marked is as it was
      bare_same : IsBacked g p (units_of g p.seen slots wins frames) → (i : ℕ) → b < g.bands → i < BAND_SIZE → marked_in wins'.marks.items (frame_of wins'.slots.items b) i ≡ false → p.seen (band_byte g b i) ≡ byte_in frames'.windows (frame_of wins'.slots.items b) i (p.seen (band_byte g b i))
      bare_same backed i is_band small none =
          let not : (marked_in wins.marks.items (frame_of wins.slots.items b) i ≡ true) ⊎ IsWithin at (length new) i → ⊥ = λ it. let yes = (marked_now i).1 it in let no_true : false ≡ true = sym none ∙ yes in cc in
          let before : marked_in wins.marks.items (frame_of wins.slots.items b) i ≡ false = ⊎_elim (λ yes. absurd (not (inl yes))) (λ off. off) (bool_cases (marked_in wins.marks.items (frame_of wins.slots.items b) i)) in
          backed.bytes b i is_band small before ∙ (ap (λ (o : Option ℕ). byte_in frames.windows o i (p.seen (band_byte g b i))) held
          ∙ sym (byte_now i (p.seen (band_byte g b i)) ∙ put_outside at new (λ k. get_or (get_or frames.windows w []) k 0) i (λ low high. absurd (not (inr (low, high))))))

      written_backed : IsBacked g p (units_of g p.seen slots wins frames) → IsBacked g p (units_of g p.seen slots wins' frames')
      written_backed backed = changed_backed p (bare_same backed) (λ none. absurd (none_is_some _ (sym none ∙ first))) backed

      -- in what the code's values are
      module _ (g' : Geometry) (slots' : List Slot) (same_g : g' ≡ g) (same_slots : slots' ≡ slots) where
        pub values_written : IsWritten b lsn at new (units_of g p.seen slots wins frames) (units_of g' p.seen slots' wins' frames')
        values_written = subst (λ (h : Geometry). IsWritten b lsn at new (units_of g p.seen slots wins frames) (units_of h p.seen slots' wins' frames')) (sym same_g)
            (subst (λ (l : List Slot). IsWritten b lsn at new (units_of g p.seen slots wins frames) (units_of g p.seen l wins' frames')) (sym same_slots) written_is)

        pub values_written_backed : IsBacked g p (units_of g p.seen slots wins frames) → IsBacked g p (units_of g' p.seen slots' wins' frames')
        values_written_backed backed = subst (λ (h : Geometry). IsBacked g p (units_of h p.seen slots' wins' frames')) (sym same_g)
            (subst (λ (l : List Slot). IsBacked g p (units_of g p.seen l wins' frames')) (sym same_slots) (written_backed backed))

  -- CHANGES ARE REPEATED ON IT
  module _ (ws : List OnWindow) (first : since ≡ since_replayed ws (since_of wins.slots.items (Some w)))
      (marked : (k : ℕ) → k < BAND_SIZE → marked_in wins'.marks.items (Some w) k ≡ (marked_in wins.marks.items (Some w) k || is_covered (on_byte k ws)))
      (beyond : (k : ℕ) → BAND_SIZE ≤ k → marked_in wins'.marks.items (Some w) k ≡ false)
      (long : length (get_or frames.windows w []) ≡ BAND_SIZE) (lie : AllLie BAND_SIZE ws) (bytes : get_or frames'.windows w [] ≡ replayed ws (get_or frames.windows w [])) where
    byte_then : (i home : ℕ) → byte_in frames'.windows (frame_of wins'.slots.items b) i home ≡ rewritten (on_byte i ws) (byte_in frames.windows (frame_of wins.slots.items b) i home)
    byte_then i home = ap (λ (x : Option ℕ). byte_in frames'.windows x i home) written_held ∙ (ap (λ (x : List ℕ). get_or x i 0) bytes
        ∙ (replay_byte ws (get_or frames.windows w []) i (subst (λ (n : ℕ). AllLie n ws) (sym long) lie) ∙ ap (λ (o : Option ℕ). rewritten (on_byte i ws) (byte_in frames.windows o i home)) (sym held)))

    marked_then : (i : ℕ) → i < BAND_SIZE → marked_in wins'.marks.items (frame_of wins'.slots.items b) i ≡ (marked_in wins.marks.items (frame_of wins.slots.items b) i || is_covered (on_byte i ws))
    marked_then i small = ap (λ (o : Option ℕ). marked_in wins'.marks.items o i) written_held ∙ (marked i small ∙ ap (λ (o : Option ℕ). marked_in wins.marks.items o i || is_covered (on_byte i ws)) (sym held))

    module _ (p : Part) where
      replayed_is : IsBandRepeated b ws (units_of g p.seen slots wins frames) (units_of g p.seen slots wins' frames')
      replayed_is = record {
        byte = λ i small. byte_then i (p.seen (band_byte g b i));
        since = band_since_now ∙ (first ∙ ap (λ (o : Option ℕ). since_replayed ws (since_of wins.slots.items o)) (sym held));
        marked = marked_then;
        other_bytes = λ c i differ. (other c differ).byte i (p.seen (band_byte g c i));
        other_sinces = λ c differ. (other c differ).oldest;
        other_marks = λ c i differ. (other c differ).bits i;
        page = λ n. ap (λ (l : List (List ℕ)). page_of slots l n (page_at p.seen (home_at n))) pages;
        page_since = λ n. refl;
      }

      -- a byte of the band that isn't marked is as it was
      bare_then : IsBacked g p (units_of g p.seen slots wins frames) → (i : ℕ) → b < g.bands → i < BAND_SIZE → marked_in wins'.marks.items (frame_of wins'.slots.items b) i ≡ false → p.seen (band_byte g b i) ≡ byte_in frames'.windows (frame_of wins'.slots.items b) i (p.seen (band_byte g b i))
      bare_then backed i is_band small none =
          let neither = off_both (marked_in wins.marks.items (frame_of wins.slots.items b) i) (is_covered (on_byte i ws)) (sym (marked_then i small) ∙ none) in
          backed.bytes b i is_band small neither.0 ∙ sym (byte_then i (p.seen (band_byte g b i)) ∙ bare_rewritten (on_byte i ws) (byte_in frames.windows (frame_of wins.slots.items b) i (p.seen (band_byte g b i))) neither.1)

      -- without an oldest change there was no change
      clean_then : IsBacked g p (units_of g p.seen slots wins frames) → since ≡ None → (i : ℕ) → marked_in wins'.marks.items (frame_of wins'.slots.items b) i ≡ false
      clean_then backed none i =
          let it = none_replayed ws (since_of wins.slots.items (Some w)) (sym first ∙ none) in
          let was : marked_in wins.marks.items (frame_of wins.slots.items b) i ≡ false = backed.clean b i (ap (since_of wins.slots.items) held ∙ it.0) in
          ⊎_elim
          (λ small. marked_then i small ∙ (ap (λ (m : Bool). m || is_covered (on_byte i ws)) was ∙ ap (λ (l : List OnWindow). is_covered (on_byte i l)) it.1))
          (λ high. ap (λ (o : Option ℕ). marked_in wins'.marks.items o i) written_held ∙ beyond i high)
          (cases_lt i BAND_SIZE)

      replayed_backed : IsBacked g p (units_of g p.seen slots wins frames) → IsBacked g p (units_of g p.seen slots wins' frames')
      replayed_backed backed = changed_backed p (bare_then backed) (clean_then backed) backed

      -- in what the code's values are
      module _ (g' : Geometry) (slots' : List Slot) (same_g : g' ≡ g) (same_slots : slots' ≡ slots) where
        pub values_replayed : IsBandRepeated b ws (units_of g p.seen slots wins frames) (units_of g' p.seen slots' wins' frames')
        values_replayed = subst (λ (h : Geometry). IsBandRepeated b ws (units_of g p.seen slots wins frames) (units_of h p.seen slots' wins' frames')) (sym same_g)
            (subst (λ (l : List Slot). IsBandRepeated b ws (units_of g p.seen slots wins frames) (units_of g p.seen l wins' frames')) (sym same_slots) replayed_is)

        pub values_replayed_backed : IsBacked g p (units_of g p.seen slots wins frames) → IsBacked g p (units_of g' p.seen slots' wins' frames')
        values_replayed_backed backed = subst (λ (h : Geometry). IsBacked g p (units_of h p.seen slots' wins' frames')) (sym same_g)
            (subst (λ (l : List Slot). IsBacked g p (units_of g p.seen l wins' frames')) (sym same_slots) (replayed_backed backed))
