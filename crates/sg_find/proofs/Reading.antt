-- What is read of a log is the text of its frames.
use Rattle.std.proofs.Common.{◌⊎◌, ⊎_elim, ◌<◌, Bool, true, false, cond, Option, Some, None, take, add-zero, length-take, ◌≡◌, ℕ, suc, ◌+◌, ◌-◌, ◌≤◌, List, [], ◌∷◌, ◌++◌, length, refl, sym, ◌∙◌, ap, subst, arith, length-append}
use Rattle.std.proofs.lemmas.List.{take-append-le}
use Rattle.std.proofs.Math.Seq.{take-append_seam}
use Rattle.sg_disk.specs.Disk.{Bytes, View, Leaves, window}
use Rattle.sg_disk.proofs.Moments.{started}
use Rattle.sg_log.specs.Reads.{OnlyReads}
use Rattle.sg_record.specs.Records.{Record}
use Rattle.sg_log.specs.Texts.{spelled_all}
use Rattle.sg_log.specs.Frames.{Frames, IsFrame, text_of, gate_after, Numbered, numbered_from, numbered_in}
use Rattle.sg_log.proofs.Steps.{gate_later}
use Rattle.sg_log.proofs.Windows.{window-add, window-length}
use Rattle.sg_log.proofs.Standing.{Frames-behind, gate_behind}
use Rattle.sg_log.proofs.Holding.{gate_moved}
use Rattle.sg_ops.specs.Table.{Table}
use Rattle.sg_places.specs.Asked.{Undone, all_there, first_outside, first_unknown, or_else}
use Rattle.sg_places.proofs.Rest.{framed-length, first_unknown-append}
use Rattle.sg_find.specs.Stretch.{IsRead}
use Rattle.sg_places.specs.Text.{framed, framed_all, AreFrames, IsText, IsStretch}

pub frames_all : (f : Bytes) (at : ℕ) (frames : List (List Record)) → Frames f at frames → AreFrames frames
frames_all f at [] h = tt
frames_all f at (rs ∷ frames) h = (h.1, frames_all f (at + 1 + length (text_of (spelled_all rs))) frames h.3)

pub frames_bytes : (f : Bytes) (at n : ℕ) (frames : List (List Record)) → Frames f at frames → at + n ≡ gate_after at frames → window f at n ≡ framed_all frames
frames_bytes f at n [] h is = let none : n ≡ 0 = omega arith in ap (window f at) none
frames_bytes f at n (rs ∷ frames) h is =
    let size = length (text_of (spelled_all rs)) in
    let end = at + 1 + size in
    let high = gate_later end frames in
    let m = n - 1 - size in
    let split : n ≡ suc (size + m) = omega arith in
    let place : suc at ≡ at + 1 = omega arith in
    let there : suc at + size ≡ end = omega arith in
    let text : window f (suc at) size ≡ text_of (spelled_all rs) = ap (λ k. window f k size) place ∙ h.2 in
    let rest : window f (suc at + size) m ≡ framed_all frames = ap (λ k. window f k m) there ∙ frames_bytes f end m frames h.3 (omega arith) in
    ap (window f at) split ∙ (ap (λ (x : ℕ). x ∷ window f (suc at) (size + m)) h.0 ∙ ap (λ (xs : List ℕ). 1 ∷ xs) (window-add f (suc at) size m ∙ (ap (λ (xs : List ℕ). xs ++ window f (suc at + size) m) text ∙ ap (λ (xs : List ℕ). text_of (spelled_all rs) ++ xs) rest)))

-- how far frames reach
pub frames_reach : (at : ℕ) (frames : List (List Record)) → gate_after at frames ≡ at + length (framed_all frames)
frames_reach at [] = omega arith
frames_reach at (rs ∷ frames) =
    let more = frames_reach (at + 1 + length (text_of (spelled_all rs))) frames in
    omega (arith, more, length-append (framed rs) (framed_all frames))

-- A STRETCH OF THE AREA: so many bytes from here on are a front of what its frames are
pub stretch_text : (f : Bytes) (at size : ℕ) (frames : List (List Record)) → Frames f at frames → at + size ≤ gate_after at frames → window f at size ≡ take size (framed_all frames)
stretch_text f at size frames stand within =
    let n = gate_after at frames - at in
    let reach = gate_later at frames in
    let whole : window f at n ≡ framed_all frames = frames_bytes f at n frames stand (omega arith) in
    let split : n ≡ size + (n - size) = omega (arith, within) in
    let both : framed_all frames ≡ window f at size ++ window f (at + size) (n - size) = sym whole ∙ (ap (window f at) split ∙ window-add f at size (n - size)) in
    sym (ap (take size) both ∙ (ap (λ k. take k (window f at size ++ window f (at + size) (n - size))) (sym (window-length f at size)) ∙ take-append_seam (window f at size) (window f (at + size) (n - size))))

nothing_framed : (frames : List (List Record)) → framed_all frames ≡ [] → frames ≡ []
nothing_framed [] is = refl
nothing_framed (rs ∷ frames) is = absurd (omega (arith, ap length is, length-append (framed rs) (framed_all frames)))

-- what was read as a stretch
pub stretch_is : (f : Bytes) (at size n : ℕ) (frames : List (List Record)) (text space more : List ℕ) → n ≤ length text → space ≡ text ++ more → IsStretch frames text n → IsRead at frames (take n space) n
stretch_is f at size n frames text space more within is s =
    let front : take n space ≡ take n text = ap (take n) is ∙ take-append-le n text more within in
    record {
      part = s.part;
      rest = s.rest;
      is_all = s.is_all;
      whole = subst (λ (l : List ℕ). IsText s.part l) (sym front) s.whole;
      behind =
          let long : length (take n text) ≡ n = length-take n text ∙ omega (arith, within) in
          let bytes : length (take n text) ≡ length (framed_all s.part) = ap length s.whole.bytes in
          omega (arith, long, bytes, frames_reach at s.part);
    }

-- a stretch has a frame, where there is one and the greatest fits
pub stretch_some : (f : Bytes) (at : ℕ) (frames : List (List Record)) (text : List ℕ) (long : ℕ) → Frames f at frames → at < gate_after at frames → (length text ≡ gate_after at frames - at) ⊎ (65541 ≤ length text) → IsStretch frames text 0 → ⊥
stretch_some f at frames text long stand some room s = by_rest s.rest refl
  where
    none : s.part ≡ []
    none = nothing_framed s.part (sym s.whole.bytes)

    all : frames ≡ s.rest
    all = s.is_all ∙ ap (λ (l : List (List Record)). l ++ s.rest) none

    by_rest : (rest : List (List Record)) → s.rest ≡ rest → ⊥
    by_rest [] is = let none_at_all : gate_after at frames ≡ at = ap (gate_after at) (all ∙ is) in omega (arith, some, none_at_all)
    by_rest (rs ∷ more) is =
        let here : frames ≡ rs ∷ more = all ∙ is in
        let frame : IsFrame rs = (subst (λ (l : List (List Record)). Frames f at l) here stand).1 in
        let reach : gate_after at frames ≡ at + length (framed_all (rs ∷ more)) = ap (gate_after at) here ∙ frames_reach at (rs ∷ more) in
        let both = length-append (framed rs) (framed_all more) in
        let cut = s.most rs more is in
        let most : length (framed rs) ≤ 65541 = omega (arith, framed-length rs, frame.most) in
        ⊎_elim (λ whole. omega (arith, whole, reach, both, cut)) (λ great. omega (arith, great, cut, most)) room

-- FRAMES, ONE LIST BEHIND ANOTHER
pub outside_behind : (pages bands at : ℕ) (xs ys : List (List Record)) → first_outside pages bands at xs ≡ None → first_outside pages bands at (xs ++ ys) ≡ first_outside pages bands (gate_after at xs) ys
outside_behind pages bands at [] ys none = refl
outside_behind pages bands at (rs ∷ xs) ys none =
    let next = at + 1 + length (text_of (spelled_all rs)) in
    by_test (all_there pages bands rs) at (first_outside pages bands next xs) (first_outside pages bands next (xs ++ ys)) (first_outside pages bands (gate_after next xs) ys) none (outside_behind pages bands next xs ys)
  where
    by_test : (b : Bool) (at : ℕ) (o both behind : Option ℕ) → cond b o (Some at) ≡ None → (o ≡ None → both ≡ behind) → cond b both (Some at) ≡ behind
    by_test true at o both behind h more = more h
    by_test false at o both behind h more = absurd cc

pub outside_first : (pages bands at gate : ℕ) (xs ys : List (List Record)) → first_outside pages bands at xs ≡ Some gate → first_outside pages bands at (xs ++ ys) ≡ Some gate
outside_first pages bands at gate [] ys is = absurd cc
outside_first pages bands at gate (rs ∷ xs) ys is =
    let next = at + 1 + length (text_of (spelled_all rs)) in
    by_test (all_there pages bands rs) at gate (first_outside pages bands next xs) (first_outside pages bands next (xs ++ ys)) is (outside_first pages bands next gate xs ys)
  where
    by_test : (b : Bool) (at gate : ℕ) (o both : Option ℕ) → cond b o (Some at) ≡ Some gate → (o ≡ Some gate → both ≡ Some gate) → cond b both (Some at) ≡ Some gate
    by_test true at gate o both h more = more h
    by_test false at gate o both h more = h

pub numbered_behind : (gate : ℕ) (xs ys : List (List Record)) → numbered_in gate (xs ++ ys) ≡ numbered_in gate xs ++ numbered_in (gate_after gate xs) ys
numbered_behind gate [] ys = refl
numbered_behind gate (rs ∷ xs) ys =
    let next = gate + 1 + length (text_of (spelled_all rs)) in
    ap (λ (l : List Numbered). numbered_from (gate + 5) rs ++ l) (numbered_behind next xs ys)
    ∙ sym (assoc (numbered_from (gate + 5) rs) (numbered_in next xs) (numbered_in (gate_after next xs) ys))
  where
    assoc : (xs ys zs : List Numbered) → (xs ++ ys) ++ zs ≡ xs ++ (ys ++ zs)
    assoc [] ys zs = refl
    assoc (x ∷ xs) ys zs = ap (λ l. x ∷ l) (assoc xs ys zs)

-- THE LOG WAS ASKED SO FAR: up to this offset each record is of a page or a band of the store, and this is the first code that isn't registered
pub record IsAsked (t : Table) (pages bands base point : ℕ) (undone : Undone) (frames : List (List Record)) (at : ℕ) (unknown : Option ℕ) : Type 0 where
  pub front : List (List Record)
  pub back : List (List Record)
  pub is_all : frames ≡ front ++ back
  pub here : at ≡ gate_after 0 front
  pub there : first_outside pages bands 0 front ≡ None
  pub codes : unknown ≡ first_unknown t point undone (numbered_in base front)

pub asked_none : (t : Table) (pages bands base point : ℕ) (undone : Undone) (frames : List (List Record)) → IsAsked t pages bands base point undone frames 0 None
asked_none t pages bands base point undone frames = record { front = []; back = frames; is_all = refl; here = refl; there = refl; codes = refl }

append_assoc : (xs ys zs : List (List Record)) → (xs ++ ys) ++ zs ≡ xs ++ (ys ++ zs)
append_assoc [] ys zs = refl
append_assoc (x ∷ xs) ys zs = ap (λ l. x ∷ l) (append_assoc xs ys zs)

module _ (t : Table) (pages bands base point : ℕ) (undone : Undone) (frames : List (List Record)) (at : ℕ) (unknown : Option ℕ) (h : IsAsked t pages bands base point undone frames at unknown) where
  -- the frames behind it stand there
  pub back_stands : (f : Bytes) → Frames f 0 frames → Frames f at h.back
  back_stands f stand = subst (λ (n : ℕ). Frames f n h.back) (sym h.here) (Frames-behind f 0 h.front h.back (subst (λ (l : List (List Record)). Frames f 0 l) h.is_all stand))

  pub back_reaches : (end : ℕ) → end ≡ gate_after 0 frames → end ≡ gate_after at h.back
  back_reaches end is = is ∙ (ap (gate_after 0) h.is_all ∙ (gate_behind 0 h.front h.back ∙ ap (λ (n : ℕ). gate_after n h.back) (sym h.here)))

  module _ (text : List ℕ) (n : ℕ) (read : IsRead at h.back text n) where
    both : frames ≡ (h.front ++ read.part) ++ read.rest
    both = h.is_all ∙ (ap (λ (l : List (List Record)). h.front ++ l) read.is_all ∙ sym (append_assoc h.front read.part read.rest))

    pub asked_outside : (gate : ℕ) → first_outside pages bands at read.part ≡ Some gate → first_outside pages bands 0 frames ≡ Some gate
    asked_outside gate is =
        let here : first_outside pages bands 0 (h.front ++ read.part) ≡ Some gate = outside_behind pages bands 0 h.front read.part h.there ∙ (ap (λ (k : ℕ). first_outside pages bands k read.part) (sym h.here) ∙ is) in
        ap (first_outside pages bands 0) both ∙ outside_first pages bands 0 gate (h.front ++ read.part) read.rest here

    pub asked_more : (code : Option ℕ) → first_outside pages bands at read.part ≡ None → code ≡ first_unknown t point undone (numbered_in (base + at) read.part) → IsAsked t pages bands base point undone frames (at + n) (or_else unknown code)
    asked_more code none found =
        let place : gate_after base h.front ≡ base + at = ap (λ (k : ℕ). gate_after k h.front) (sym (add-zero base)) ∙ (gate_moved base 0 h.front ∙ ap (λ (k : ℕ). base + k) (sym h.here)) in
        let all : first_unknown t point undone (numbered_in base (h.front ++ read.part)) ≡ or_else (first_unknown t point undone (numbered_in base h.front)) (first_unknown t point undone (numbered_in (base + at) read.part))
        = ap (first_unknown t point undone) (numbered_behind base h.front read.part)
        ∙ (first_unknown-append t point undone (numbered_in base h.front) (numbered_in (gate_after base h.front) read.part)
        ∙ ap (λ (k : ℕ). or_else (first_unknown t point undone (numbered_in base h.front)) (first_unknown t point undone (numbered_in k read.part))) place) in
        record {
          front = h.front ++ read.part;
          back = read.rest;
          is_all = both;
          here = read.behind ∙ (ap (λ (k : ℕ). gate_after k read.part) h.here ∙ sym (gate_behind 0 h.front read.part));
          there = outside_behind pages bands 0 h.front read.part h.there ∙ (ap (λ (k : ℕ). first_outside pages bands k read.part) (sym h.here) ∙ none);
          codes = ap (λ (o : Option ℕ). or_else o code) h.codes ∙ (ap (or_else (first_unknown t point undone (numbered_in base h.front))) found ∙ sym all);
        }

  -- at the end nothing is left
  none_left : (at end : ℕ) (frames : List (List Record)) → end ≡ gate_after at frames → end ≤ at → frames ≡ []
  none_left at end [] is le = refl
  none_left at end (rs ∷ frames) is le = let later = gate_later (at + 1 + length (text_of (spelled_all rs))) frames in absurd (omega arith)

  pub asked_all : (end : ℕ) → end ≡ gate_after 0 frames → end ≤ at → (first_outside pages bands 0 frames ≡ None) × (unknown ≡ first_unknown t point undone (numbered_in base frames))
  asked_all end is le =
      let none : h.back ≡ [] = none_left at end h.back (back_reaches end is) le in
      let all : h.front ≡ frames = sym (h.is_all ∙ (ap (λ (l : List (List Record)). h.front ++ l) none ∙ append_none h.front)) in
      (ap (first_outside pages bands 0) (sym all) ∙ h.there, h.codes ∙ ap (λ (l : List (List Record)). first_unknown t point undone (numbered_in base l)) all)
    where
      append_none : (xs : List (List Record)) → xs ++ [] ≡ xs
      append_none [] = refl
      append_none (x ∷ xs) = ap (λ l. x ∷ l) (append_none xs)

-- nothing was called yet
pub reads_none : (told : Bool) (v : View) → OnlyReads told v v
reads_none told v = record {
  unchanged = λ is. refl;
  any_moment = λ is. started v (Leaves v.now) (λ c leaves. leaves);
  handed = refl;
  later = omega arith;
}
