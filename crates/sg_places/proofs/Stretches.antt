-- A stretch of a text: what its whole frames are.
use Rattle.std.proofs.Common.{◌≡◌, ◌⊎◌, ⊎_elim, ℕ, zero, suc, ◌+◌, ◌-◌, ◌<◌, ◌≤◌, arith, List, [], ◌∷◌, ◌++◌, length, take, drop, refl, sym, ap, ◌∙◌, subst, length-append, length-drop, length-take}
use Rattle.std.proofs.lemmas.List.{take-append-drop, drop-drop}
use Rattle.std.proofs.lemmas.Bool.{cases_lt}
use Rattle.std.proofs.Math.Seq.{take-append_seam, drop-append_seam}
use Rattle.byteorder.specs.Endian.{little_bytes, little_number}
use Rattle.byteorder.specs.Numbers.{little_number-reads_back}
use Rattle.sg_record.specs.Records.{Record}
use Rattle.sg_log.specs.Texts.{spelled_all}
use Rattle.sg_log.specs.Frames.{IsFrame}
use Rattle.sg_places.specs.Text.{framed, framed_all, AreFrames, IsStretch}
use Rattle.sg_places.proofs.Rest.{framed-length}

assoc : {X : Type 0} (xs ys zs : List X) → (xs ++ ys) ++ zs ≡ xs ++ (ys ++ zs)
assoc [] ys zs = refl
assoc (x ∷ xs) ys zs = ap (λ (l : List _). x ∷ l) (assoc xs ys zs)

take_behind : (xs ys : List ℕ) (k : ℕ) → length xs ≤ k → take k (xs ++ ys) ≡ xs ++ take (k - length xs) ys
take_behind [] ys k le = let none : k ≡ k - 0 = omega arith in ap (λ n. take n ys) none
take_behind (x ∷ xs) ys zero le = absurd (omega arith)
take_behind (x ∷ xs) ys (suc k) le =
    let same : k - length xs ≡ suc k - length (x ∷ xs) = omega arith in
    ap (λ (l : List ℕ). x ∷ l) (take_behind xs ys k (omega arith)) ∙ ap (λ n. (x ∷ xs) ++ take n ys) same

-- WHERE A FRAME IS CUT OFF behind its length, the length says more than there is
pub record IsShort (text : List ℕ) (at k : ℕ) (rs : List Record) : Type 0 where
  pub left : length text - at ≡ k
  pub stated : 5 ≤ k → little_number 4 (drop (at + 1) text) ≡ length (spelled_all rs)

pub short_at : (text : List ℕ) (at k : ℕ) (rs : List Record) (rest : List ℕ) → IsFrame rs → drop at text ≡ take k (framed rs ++ rest) → k < length (framed rs) → IsShort text at k rs
short_at text at k rs rest frame is short =
    let size = length (spelled_all rs) in
    let all : List ℕ = framed rs ++ rest in
    let whole = length-append (framed rs) rest in
    record {
      left = sym (length-drop at text) ∙ (ap length is ∙ (length-take k all ∙ omega (arith, whole)));
      stated = λ some.
          let one : 1 ≤ k = omega arith in
          let head : List ℕ = 1 ∷ little_bytes 4 size in
          let split : all ≡ head ++ (spelled_all rs ++ rest) = assoc head (spelled_all rs) rest in
          let five : length head ≡ 5 = omega arith in
          let cut : drop at text ≡ head ++ take (k - length head) (spelled_all rs ++ rest) = is ∙ (ap (take k) split ∙ take_behind head (spelled_all rs ++ rest) k (omega (arith, five))) in
          let behind : drop (at + 1) text ≡ little_bytes 4 size ++ take (k - length head) (spelled_all rs ++ rest) = sym (drop-drop 1 at text) ∙ ap (drop 1) cut in
          ap (little_number 4) behind ∙ little_number-reads_back 4 size (take (k - length head) (spelled_all rs ++ rest)) (omega (arith, frame.most));
    }

framed_both : (xs ys : List (List Record)) → framed_all (xs ++ ys) ≡ framed_all xs ++ framed_all ys
framed_both [] ys = refl
framed_both (rs ∷ xs) ys = ap (λ (l : List ℕ). framed rs ++ l) (framed_both xs ys) ∙ sym (assoc (framed rs) (framed_all xs) (framed_all ys))

are_both : (xs : List (List Record)) (rs : List Record) → AreFrames xs → IsFrame rs → AreFrames (xs ++ rs ∷ [])
are_both [] rs are one = (one, tt)
are_both (x ∷ xs) rs are one = (are.0, are_both xs rs are.1 one)

append_none : (xs : List ℕ) → xs ++ [] ≡ xs
append_none [] = refl
append_none (x ∷ xs) = ap (λ l. x ∷ l) (append_none xs)

-- THE FRAMES SO FAR that the text has whole, and a front of the others behind them
pub record AreWhole (frames : List (List Record)) (text : List ℕ) (at : ℕ) : Type 0 where
  pub part : List (List Record)
  pub rest : List (List Record)
  pub is_all : frames ≡ part ++ rest
  pub are : AreFrames part
  pub left : AreFrames rest
  pub front : take at text ≡ framed_all part
  pub size : ℕ
  pub behind : drop at text ≡ take size (framed_all rest)
  pub within : at ≤ length text

pub whole_starts : (frames : List (List Record)) (text : List ℕ) (k : ℕ) → AreFrames frames → text ≡ take k (framed_all frames) → AreWhole frames text 0
whole_starts frames text k are is = record {
  part = [];
  rest = frames;
  is_all = refl;
  are = tt;
  left = are;
  front = refl;
  size = k;
  behind = is;
  within = omega arith;
}

-- where some text is left, a frame stands there, whole or cut off
pub data IsNext (frames : List (List Record)) (text : List ℕ) (at : ℕ) (h : AreWhole frames text at) : Type 0 where
  WholeOne : (rs : List Record) (more : List (List Record)) → h.rest ≡ rs ∷ more → IsFrame rs → AreFrames more → length (framed rs) ≤ h.size → drop at text ≡ framed rs ++ take (h.size - length (framed rs)) (framed_all more) → IsNext frames text at h
  ShortOne : (rs : List Record) (more : List (List Record)) → h.rest ≡ rs ∷ more → IsFrame rs → h.size < length (framed rs) → drop at text ≡ take h.size (framed rs ++ framed_all more) → IsNext frames text at h

none_there : (text : List ℕ) (at k : ℕ) → at < length text → drop at text ≡ take k [] → ⊥
none_there text at k lt is = omega (arith, ap length is, length-drop at text, length-take {A = ℕ} k [])

pub next_one : (frames : List (List Record)) (text : List ℕ) (at : ℕ) (h : AreWhole frames text at) → at < length text → IsNext frames text at h
next_one frames text at h lt = by_rest h.rest refl
  where
    by_rest : (rest : List (List Record)) → h.rest ≡ rest → IsNext frames text at h
    by_rest [] is = absurd (none_there text at h.size lt (h.behind ∙ ap (λ (l : List (List Record)). take h.size (framed_all l)) is))
    by_rest (rs ∷ more) is =
        let there : drop at text ≡ take h.size (framed rs ++ framed_all more) = h.behind ∙ ap (λ (l : List (List Record)). take h.size (framed_all l)) is in
        let are : AreFrames (rs ∷ more) = subst AreFrames is h.left in
        ⊎_elim
        (λ short. ShortOne rs more is are.0 short there)
        (λ long. WholeOne rs more is are.0 are.1 long (there ∙ take_behind (framed rs) (framed_all more) h.size long))
        (cases_lt h.size (length (framed rs)))

-- a whole one comes to the others
pub whole_more : (frames : List (List Record)) (text : List ℕ) (at end : ℕ) (h : AreWhole frames text at) (rs : List Record) (more : List (List Record)) → h.rest ≡ rs ∷ more → IsFrame rs → AreFrames more
    → drop at text ≡ framed rs ++ take (h.size - length (framed rs)) (framed_all more) → end ≡ at + 5 + length (spelled_all rs) → end ≤ length text → AreWhole frames text end
whole_more frames text at end h rs more is frame are there ends within =
    let long : end ≡ at + length (framed rs) = omega (arith, framed-length rs, ends) in
    record {
      part = h.part ++ rs ∷ [];
      rest = more;
      is_all = h.is_all ∙ (ap (λ (l : List (List Record)). h.part ++ l) is ∙ sym (assoc h.part (rs ∷ []) more));
      are = are_both h.part rs h.are frame;
      left = are;
      front = ap (λ n. take n text) long ∙ (take_more text at (framed rs) (take (h.size - length (framed rs)) (framed_all more)) (framed_all h.part) h.within h.front there ∙ sym (framed_both h.part (rs ∷ []) ∙ ap (λ (l : List ℕ). framed_all h.part ++ l) (append_none (framed rs))));
      size = h.size - length (framed rs);
      behind = ap (λ n. drop n text) long ∙ (sym (drop-drop (length (framed rs)) at text) ∙ (ap (drop (length (framed rs))) there ∙ drop-append_seam (framed rs) (take (h.size - length (framed rs)) (framed_all more))));
      within = within;
    }
  where
    take_more : (text : List ℕ) (at : ℕ) (xs ys front : List ℕ) → at ≤ length text → take at text ≡ front → drop at text ≡ xs ++ ys → take (at + length xs) text ≡ front ++ xs
    take_more text at xs ys front le first there =
        let long : length front ≡ at = ap length (sym first) ∙ (length-take at text ∙ omega (arith, le)) in
        let all : text ≡ front ++ (xs ++ ys) = sym (take-append-drop at text) ∙ (ap (λ (l : List ℕ). l ++ drop at text) first ∙ ap (λ (l : List ℕ). front ++ l) there) in
        let both : length (front ++ xs) ≡ at + length xs = omega (arith, length-append front xs, long) in
        ap (take (at + length xs)) all ∙ (ap (take (at + length xs)) (sym (assoc front xs ys)) ∙ (ap (λ n. take n ((front ++ xs) ++ ys)) (sym both) ∙ take-append_seam (front ++ xs) ys))

-- where the text ends, or a frame is cut off, these are the stretch
pub whole_ends : (frames : List (List Record)) (text : List ℕ) (at : ℕ) (h : AreWhole frames text at) → ((rs : List Record) (more : List (List Record)) → h.rest ≡ rs ∷ more → length text < at + length (framed rs)) → IsStretch frames text at
whole_ends frames text at h most = record {
  part = h.part;
  rest = h.rest;
  is_all = h.is_all;
  whole = record { all = h.are; bytes = h.front };
  most = most;
}

pub at_end : (frames : List (List Record)) (text : List ℕ) (at : ℕ) → AreWhole frames text at → length text ≤ at → IsStretch frames text at
at_end frames text at h end = whole_ends frames text at h (λ rs more is. let some = framed-length rs in omega arith)

same_first : {X : Type 0} (x y : X) (xs ys : List X) → x ∷ xs ≡ y ∷ ys → x ≡ y
same_first x y xs ys e = cc

pub cut_off : (frames : List (List Record)) (text : List ℕ) (at : ℕ) (h : AreWhole frames text at) (rs : List Record) (more : List (List Record)) → h.rest ≡ rs ∷ more → h.size < length (framed rs) → drop at text ≡ take h.size (framed rs ++ framed_all more) → IsStretch frames text at
cut_off frames text at h rs more is short there = whole_ends frames text at h (λ qs others here.
    let same : rs ≡ qs = same_first rs qs more others (sym is ∙ here) in
    let long : length (framed rs) ≡ length (framed qs) = ap (λ (l : List Record). length (framed l)) same in
    omega (arith, ap length there, length-drop at text, length-take h.size (framed rs ++ framed_all more), h.within, long))
