-- The units when a frame is cleaned, and when it gets another page.
use Rattle.std.proofs.Common.{◌≡◌, ◌≢◌, ◌⊎◌, inl, inr, ⊎_elim, ◌<◌, ◌+◌, ℕ, false, Option, Some, None, List, [], length, get_or, set, refl, sym, ◌∙◌, ap, subst, arith, get_or-set_same, get_or-set_other, length-set}
use Rattle.std.proofs.lemmas.Bool.{cases_eq}
use Rattle.sg_disk.specs.Disk.{Bytes, Part}
use Rattle.sg_gate.specs.Layout.{PAGE, home_at}
use Rattle.sg_gate.specs.Batch.{IsReady}
use Rattle.sg_pool.specs.Going.{IsStored, with_home}
use Rattle.sg_pool.specs.Units.{Geometry, EachPage, page_at, band_byte, Units, IsBacked, IsCleaned}
use Rattle.sg_pool.specs.Well.{IsWell}
use Rattle.sg_pool.proofs.Homes.{page_same}
use Rattle.sg_pool.specs.Frames.{units_of, window_of, byte_in, IsShelf, IsAtHome}
use Rattle.sg_frames.specs.Held.{Held}
use Rattle.sg_pool.specs.declared.slot.Slot.{Slot}
use Rattle.sg_pool.specs.declared.windows.Windows.{Windows}
use Rattle.sg_pool.specs.Held.{frame_of, page_in, AreApart, IsIndex, bytes_of, since_of, page_of, page_since_of}
use Rattle.sg_pool.proofs.Homed.{homed_page, homed_other, homed_band}
use Rattle.std.proofs.lemmas.List.{set-set}
use Rattle.sg_pool.proofs.Slots.{apart_new, apart_none, some_same, none_is_some, is_or_not, frame_some, frame_is, set_here, set_there, page_here, apart_kept, frame_kept, frame_other, frame_gone, within_set, owned_set, page_there}

pub done_ready : (p : Part) (f : Bytes) → IsStored p f → IsReady p
done_ready p f done = record { closed = done.closed; settled = λ i out. done.settled i }

pub cleaned_refl : (g : Geometry) (m : Units) → IsCleaned g m m
cleaned_refl g m = record { page = λ n lt. refl; byte = λ b i a c. refl; page_since = λ n lt. inl refl; band_since = λ b. inl refl; marked = λ b i. inl refl }

chain : {X : Type 0} (a b c d : X) → (b ≡ a) ⊎ (b ≡ d) → (c ≡ b) ⊎ (c ≡ d) → (c ≡ a) ⊎ (c ≡ d)
chain a b c d first second = ⊎_elim (λ same. ⊎_elim (λ was. inl (same ∙ was)) (λ gone. inr (same ∙ gone)) first) (λ gone. inr gone) second

pub cleaned_twice : (g : Geometry) (m n k : Units) → IsCleaned g m n → IsCleaned g n k → IsCleaned g m k
cleaned_twice g m n k first second = record {
  page = λ i lt. second.page i lt ∙ first.page i lt;
  byte = λ b i is_band is_byte. second.byte b i is_band is_byte ∙ first.byte b i is_band is_byte;
  page_since = λ i lt. chain (m.page_since i) (n.page_since i) (k.page_since i) None (first.page_since i lt) (second.page_since i lt);
  band_since = λ b. chain (m.band_since b) (n.band_since b) (k.band_since b) None (first.band_since b) (second.band_since b);
  marked = λ b i. chain (m.marked b i) (n.marked b i) (k.marked b i) false (first.marked b i) (second.marked b i);
}

module _ (g : Geometry) (slots : List Slot) (wins : Windows) (frames : Held) (f : ℕ) (lt : f < length slots) (apart : AreApart slots) where
  -- A FRAME IS CLEANED
  abbrev pub cleaned : List Slot
  cleaned = set slots f (record { number = page_in slots f; since = None })

  here : frame_of cleaned ≡ frame_of slots
  here = λ j n. frame_kept slots f (record { number = page_in slots f; since = None }) lt refl n apart j

  since_cleaned : (o : Option ℕ) → (since_of cleaned o ≡ since_of slots o) ⊎ (since_of cleaned o ≡ None)
  since_cleaned None = inl refl
  since_cleaned (Some k) = ⊎_elim
      (λ same. inr (ap (λ (j : ℕ). since_of cleaned (Some j)) same ∙ ap (λ (s : Slot). s.since) (set_here slots f (record { number = page_in slots f; since = None }) lt)))
      (λ differ. inl (ap (λ (s : Slot). s.since) (set_there slots f (record { number = page_in slots f; since = None }) lt k differ)))
      (cases_eq k f)

  since_other : (k : ℕ) → k ≢ f → since_of cleaned (Some k) ≡ since_of slots (Some k)
  since_other k differ = ap (λ (s : Slot). s.since) (set_there slots f (record { number = page_in slots f; since = None }) lt k differ)

  page_cleaned : (n : ℕ) (home : List ℕ) → page_of cleaned frames.pages n home ≡ page_of slots frames.pages n home
  page_cleaned n home = ap (λ (h : ℕ → Option ℕ). bytes_of frames.pages (h n) home) here

  page_since_cleaned : (n : ℕ) → (page_since_of cleaned n ≡ page_since_of slots n) ⊎ (page_since_of cleaned n ≡ None)
  page_since_cleaned n = subst (λ (h : ℕ → Option ℕ). (since_of cleaned (h n) ≡ page_since_of slots n) ⊎ (since_of cleaned (h n) ≡ None)) (sym here) (since_cleaned (frame_of slots n))

  -- where there was nothing to write
  module _ (none : (page_in slots f ≡ None) ⊎ (since_of slots (Some f) ≡ None)) where
    same_since : (n : ℕ) (o : Option ℕ) → frame_of slots n ≡ o → since_of cleaned o ≡ since_of slots o
    same_since n None e = refl
    same_since n (Some k) e = ⊎_elim
        (λ same. ⊎_elim
        (λ empty. absurd (none_is_some n (sym empty ∙ (ap (page_in slots) (sym same) ∙ (frame_some n slots k e).1))))
        (λ clean. ap (λ (j : ℕ). since_of cleaned (Some j)) same ∙ (ap (λ (s : Slot). s.since) (set_here slots f (record { number = page_in slots f; since = None }) lt) ∙ (sym clean ∙ ap (λ (j : ℕ). since_of slots (Some j)) (sym same))))
        none)
        (λ differ. since_other k differ)
        (cases_eq k f)

    since_same : (n : ℕ) → page_since_of cleaned n ≡ page_since_of slots n
    since_same n = ap (λ (h : ℕ → Option ℕ). since_of cleaned (h n)) here ∙ same_since n (frame_of slots n) refl

    pub unwritten_cleaned : (seen : Bytes) → IsCleaned g (units_of g seen slots wins frames) (units_of g seen cleaned wins frames)
    unwritten_cleaned seen = record { page = λ n small. page_cleaned n (page_at seen (home_at n)); byte = λ b i a c. refl; page_since = λ n small. inl (since_same n); band_since = λ b. inl refl; marked = λ b i. inl refl }

    pub unwritten_backed : (p : Part) → IsBacked g p (units_of g p.seen slots wins frames) → IsBacked g p (units_of g p.seen cleaned wins frames)
    unwritten_backed p backed = record {
      ready = backed.ready;
      pages = λ n small is. backed.pages n small (sym (since_same n) ∙ is) ∙ sym (page_cleaned n (page_at p.seen (home_at n)));
      bytes = backed.bytes;
      clean = backed.clean;
    }

  -- where its page was written home
  module _ (n : ℕ) (is : page_in slots f ≡ Some n) (small : n < g.pages) (long : length (get_or frames.pages f []) ≡ PAGE) (p q : Part) (done : IsStored q (with_home n (get_or frames.pages f []) p.seen)) where
    abbrev page : List ℕ
    page = get_or frames.pages f []

    home_same : (k : ℕ) → page_at q.seen (home_at k) ≡ page_at (with_home n page p.seen) (home_at k)
    home_same k = page_same q.seen (with_home n page p.seen) (home_at k) (home_at k) (λ j lt. done.bytes (home_at k + j) (inr (omega arith)))

    other_same : (k : ℕ) → k ≢ n → page_at q.seen (home_at k) ≡ page_at p.seen (home_at k)
    other_same k differ = home_same k ∙ homed_other n page long p.seen k differ

    held : frame_of slots n ≡ Some f
    held = frame_is slots f n apart lt is

    in_frame : (home : List ℕ) → page_of slots frames.pages n home ≡ page
    in_frame home = ap (λ (o : Option ℕ). bytes_of frames.pages o home) held

    page_stays : (k : ℕ) → page_of cleaned frames.pages k (page_at q.seen (home_at k)) ≡ page_of slots frames.pages k (page_at p.seen (home_at k))
    page_stays k = page_cleaned k (page_at q.seen (home_at k)) ∙ ⊎_elim
        (λ same. subst (λ (j : ℕ). page_of slots frames.pages j (page_at q.seen (home_at j)) ≡ page_of slots frames.pages j (page_at p.seen (home_at j))) (sym same) (in_frame (page_at q.seen (home_at n)) ∙ sym (in_frame (page_at p.seen (home_at n)))))
        (λ differ. ap (page_of slots frames.pages k) (other_same k differ))
        (cases_eq k n)

    byte_stays : (b i : ℕ) → q.seen (band_byte g b i) ≡ p.seen (band_byte g b i)
    byte_stays b i = done.bytes (band_byte g b i) (inr (omega arith)) ∙ homed_band n page long p.seen g small b i

    pub written_cleaned : IsCleaned g (units_of g p.seen slots wins frames) (units_of g q.seen cleaned wins frames)
    written_cleaned = record {
      page = λ k lt. page_stays k;
      byte = λ b i a c. ap (byte_in frames.windows (window_of wins b) i) (byte_stays b i);
      page_since = λ k lt. page_since_cleaned k;
      band_since = λ b. inl refl;
      marked = λ b i. inl refl;
    }

    -- another page's frame isn't this one
    since_kept : (k : ℕ) → k ≢ n → (o : Option ℕ) → frame_of slots k ≡ o → since_of cleaned o ≡ since_of slots o
    since_kept k differ None e = refl
    since_kept k differ (Some j) e = since_other j (λ same. differ (some_same k n (sym (frame_some k slots j e).1 ∙ (ap (page_in slots) same ∙ is))))

    pub written_backed : IsBacked g p (units_of g p.seen slots wins frames) → IsBacked g q (units_of g q.seen cleaned wins frames)
    written_backed backed = record {
      ready = done_ready q (with_home n page p.seen) done;
      pages = λ k lt none. ⊎_elim
          (λ same. subst (λ (j : ℕ). page_at q.seen (home_at j) ≡ page_of cleaned frames.pages j (page_at q.seen (home_at j))) (sym same)
          (home_same n ∙ (homed_page n page long p.seen ∙ sym (page_cleaned n (page_at q.seen (home_at n)) ∙ in_frame (page_at q.seen (home_at n))))))
          (λ differ.
          let was : page_since_of slots k ≡ None = sym (ap (λ (h : ℕ → Option ℕ). since_of cleaned (h k)) here ∙ since_kept k differ (frame_of slots k) refl) ∙ none in
          other_same k differ ∙ (backed.pages k lt was ∙ sym (page_stays k)))
          (cases_eq k n);
      bytes = λ b i a c unmarked. byte_stays b i ∙ (backed.bytes b i a c unmarked ∙ sym (ap (byte_in frames.windows (window_of wins b) i) (byte_stays b i)));
      clean = backed.clean;
    }

  -- THE FRAME GETS OTHER BYTES, AND HOLDS ANOTHER PAGE OR NONE: those bytes are that page's home, and the frame was clean
  module _ (s : Slot) (bytes : List ℕ) (seen : Bytes) (long : f < length frames.pages) (clean : since_of slots (Some f) ≡ None) (fresh : s.since ≡ None) (apart' : AreApart (set slots f s))
      (new : (n : ℕ) → s.number ≡ Some n → (frame_of slots n ≡ None) × (bytes ≡ page_at seen (home_at n))) where
    abbrev pub refilled : Held
    refilled = record frames { pages = set frames.pages f bytes }

    abbrev pub replaced : List Slot
    replaced = set slots f s

    module _ (backed : EachPage g (λ n. page_since_of slots n ≡ None → page_at seen (home_at n) ≡ page_of slots frames.pages n (page_at seen (home_at n)))) (n : ℕ) (small : n < g.pages) where
      abbrev home : List ℕ
      home = page_at seen (home_at n)

      abbrev IsSame : Type 0
      IsSame = (page_of replaced refilled.pages n home ≡ page_of slots frames.pages n home) × (page_since_of replaced n ≡ page_since_of slots n)

      same_in : (o o' : Option ℕ) (x : List ℕ) → frame_of replaced n ≡ o' → frame_of slots n ≡ o → bytes_of refilled.pages o' home ≡ x → bytes_of frames.pages o home ≡ x → since_of replaced o' ≡ since_of slots o → IsSame
      same_in o o' x e' e a b c = (
        ap (λ (t : Option ℕ). bytes_of refilled.pages t home) e' ∙ (a ∙ sym (ap (λ (t : Option ℕ). bytes_of frames.pages t home) e ∙ b)),
        ap (since_of replaced) e' ∙ (c ∙ sym (ap (since_of slots) e)),
      )

      case_new : s.number ≡ Some n → IsSame
      case_new is = same_in None (Some f) home (frame_is replaced f n apart' (let e = length-set slots f s in omega (arith, e)) (page_here slots f s lt ∙ is)) (new n is).0
          (get_or-set_same frames.pages f bytes [] long ∙ (new n is).1) refl (ap (λ (x : Slot). x.since) (set_here slots f s lt) ∙ fresh)

      case_old : page_in slots f ≡ Some n → (s.number ≡ Some n → ⊥) → IsSame
      case_old was not_new =
          let held : frame_of slots n ≡ Some f = frame_is slots f n apart lt was in
          let is_clean : page_since_of slots n ≡ None = ap (since_of slots) held ∙ clean in
          same_in (Some f) None home (frame_gone slots f s lt n apart was not_new) held refl
          (sym (ap (λ (t : Option ℕ). bytes_of frames.pages t home) held) ∙ sym (backed n small is_clean)) (sym clean)

      other_at : (o : Option ℕ) → (s.number ≡ Some n → ⊥) → (page_in slots f ≡ Some n → ⊥) → frame_of slots n ≡ o → IsSame
      other_at None not_new not_old e = same_in None None home (frame_other slots f s lt n apart' not_new not_old ∙ e) e refl refl refl
      other_at (Some k) not_new not_old e =
          let differ : k ≢ f = λ same. not_old (ap (page_in slots) (sym same) ∙ (frame_some n slots k e).1) in
          same_in (Some k) (Some k) (get_or frames.pages k []) (frame_other slots f s lt n apart' not_new not_old ∙ e) e (get_or-set_other frames.pages f k bytes [] differ) refl (ap (λ (x : Slot). x.since) (set_there slots f s lt k differ))

      pub page_replaced : IsSame
      page_replaced = ⊎_elim
          (λ is. case_new is.1)
          (λ not_new. ⊎_elim (λ was. case_old was.1 not_new.1) (λ not_old. other_at (frame_of slots n) not_new.1 not_old.1 refl) (is_or_not (page_in slots f) n))
          (is_or_not s.number n)

    pub replaced_cleaned : (p : Part) → p.seen ≡ seen → IsBacked g p (units_of g seen slots wins frames) → IsCleaned g (units_of g seen slots wins frames) (units_of g seen replaced wins refilled)
    replaced_cleaned p same backed =
        let homes = subst (λ (h : Bytes). EachPage g (λ n. page_since_of slots n ≡ None → page_at h (home_at n) ≡ page_of slots frames.pages n (page_at seen (home_at n)))) same backed.pages in
        record { page = λ n small. (page_replaced homes n small).0; byte = λ b i a c. refl; page_since = λ n small. inl (page_replaced homes n small).1; band_since = λ b. inl refl; marked = λ b i. inl refl }

    pub replaced_backed : (p : Part) → p.seen ≡ seen → IsBacked g p (units_of g seen slots wins frames) → IsBacked g p (units_of g seen replaced wins refilled)
    replaced_backed p same backed =
        let homes = subst (λ (h : Bytes). EachPage g (λ n. page_since_of slots n ≡ None → page_at h (home_at n) ≡ page_of slots frames.pages n (page_at seen (home_at n)))) same backed.pages in
        record {
          ready = backed.ready;
          pages = λ n small none. let here = page_replaced homes n small in backed.pages n small (sym here.1 ∙ none) ∙ sym here.0;
          bytes = backed.bytes;
          clean = backed.clean;
        }

-- either way
module _ (g : Geometry) (slots : List Slot) {index : List (Option ℕ)} (wins : Windows) (frames : Held) (shelf : IsShelf g.pages g.bands slots index wins frames) (f : ℕ) (lt : f < length slots) (p q : Part) (home : IsAtHome slots frames f p q) where
  frame_long : length (get_or frames.pages f []) ≡ PAGE
  frame_long = shelf.here.pages f (let e = shelf.many in omega (arith, e))

  pub home_cleaned : IsCleaned g (units_of g p.seen slots wins frames) (units_of g q.seen (cleaned g slots wins frames f lt shelf.apart) wins frames)
  home_cleaned = ⊎_elim
      (λ is. written_cleaned g slots wins frames f lt shelf.apart is.number is.holds (shelf.within f is.number lt is.holds) frame_long p q is.done)
      (λ not. subst (λ (r : Part). IsCleaned g (units_of g p.seen slots wins frames) (units_of g r.seen (cleaned g slots wins frames f lt shelf.apart) wins frames)) (sym not.0) (unwritten_cleaned g slots wins frames f lt shelf.apart not.1 p.seen))
      home

  pub home_backed : IsBacked g p (units_of g p.seen slots wins frames) → IsBacked g q (units_of g q.seen (cleaned g slots wins frames f lt shelf.apart) wins frames)
  home_backed backed = ⊎_elim
      (λ is. written_backed g slots wins frames f lt shelf.apart is.number is.holds (shelf.within f is.number lt is.holds) frame_long p q is.done backed)
      (λ not. subst (λ (r : Part). IsBacked g r (units_of g r.seen (cleaned g slots wins frames f lt shelf.apart) wins frames)) (sym not.0) (unwritten_backed g slots wins frames f lt shelf.apart not.1 p backed))
      home

-- WHAT THE SHELF KEEPS
module _ (pages bands : ℕ) (slots : List Slot) {index : List (Option ℕ)} (wins : Windows) (frames : Held) (shelf : IsShelf pages bands slots index wins frames) (f : ℕ) (lt : f < length slots) (s : Slot) where
  pub shelf_slot : AreApart (set slots f s) → ((n : ℕ) → s.number ≡ Some n → n < pages) → (s.number ≡ None → s.since ≡ None) → ((n : ℕ) → s.number ≡ Some n → ∥ IsWell (get_or frames.pages f []) ∥₁) → (index' : List (Option ℕ)) → length index' ≡ length index → IsIndex (set slots f s) index'
      → IsShelf pages bands (set slots f s) index' wins frames
  shelf_slot apart small fresh well index' listed found = record {
    here = shelf.here;
    many = shelf.many ∙ sym (length-set slots f s);
    wide = shelf.wide;
    few = let e = length-set slots f s in let few = shelf.few in omega (arith, e, few);
    apart = apart;
    within = within_set slots f s lt pages shelf.within small;
    owned = owned_set slots f s lt shelf.owned fresh;
    most = shelf.most;
    listed = listed ∙ shelf.listed;
    found = found;
    most_bands = shelf.most_bands;
    listed_bands = shelf.listed_bands;
    well = λ h n less is. ⊎_elim
        (λ same. subst (λ (j : ℕ). ∥ IsWell (get_or frames.pages j []) ∥₁) (sym same) (well n (sym (page_here slots f s lt) ∙ (ap (page_in (set slots f s)) (sym same) ∙ is))))
        (λ differ. let e = length-set slots f s in shelf.well h n (omega (arith, e, less)) (sym (page_there slots f s lt h differ) ∙ is))
        (cases_eq h f);
  }

  pub shelf_cleaned : s.number ≡ page_in slots f → (s.number ≡ None → s.since ≡ None) → IsShelf pages bands (set slots f s) index wins frames
  shelf_cleaned same fresh = shelf_slot (apart_kept slots f s lt same shelf.apart) (λ n is. shelf.within f n lt (sym same ∙ is)) fresh (λ n is. shelf.well f n lt (sym same ∙ is)) index refl (λ n less. shelf.found n less ∙ sym (frame_kept slots f s lt same n shelf.apart))

pub frame_bytes : (size : ℕ) (pages : List (List ℕ)) (f : ℕ) (bytes : List ℕ) → length bytes ≡ size → ((i : ℕ) → i < length pages → length (get_or pages i []) ≡ size) → (i : ℕ) → i < length (set pages f bytes) → length (get_or (set pages f bytes) i []) ≡ size
frame_bytes size pages f bytes long each i less =
    let low : i < length pages = let e = length-set pages f bytes in omega (arith, e) in
    ⊎_elim
    (λ same. ap (λ (j : ℕ). length (get_or (set pages f bytes) j [])) same ∙ (ap length (get_or-set_same pages f bytes [] (subst (λ (j : ℕ). j < length pages) same low)) ∙ long))
    (λ differ. ap length (get_or-set_other pages f i bytes [] differ) ∙ each i low)
    (cases_eq i f)

-- with a page frame's bytes set
pub shelf_frame : (pages bands : ℕ) (slots : List Slot) {index : List (Option ℕ)} (wins : Windows) (frames : Held) (f : ℕ) (bytes : List ℕ) → length bytes ≡ 4096 → ((n : ℕ) → f < length slots → page_in slots f ≡ Some n → ∥ IsWell bytes ∥₁) → IsShelf pages bands slots index wins frames → IsShelf pages bands slots index wins (record frames { pages = set frames.pages f bytes })
shelf_frame pages bands slots wins frames f bytes long well shelf = record {
  here = record { pages = frame_bytes 4096 frames.pages f bytes long shelf.here.pages; windows = shelf.here.windows };
  many = length-set frames.pages f bytes ∙ shelf.many;
  wide = shelf.wide;
  few = shelf.few;
  apart = shelf.apart;
  within = shelf.within;
  owned = shelf.owned;
  most = shelf.most;
  listed = shelf.listed;
  found = shelf.found;
  most_bands = shelf.most_bands;
  listed_bands = shelf.listed_bands;
  well = λ h n less is. ⊎_elim
      (λ same. let many = shelf.many in
      subst (λ (page : List ℕ). ∥ IsWell page ∥₁) (sym (ap (λ (j : ℕ). get_or (set frames.pages f bytes) j []) same ∙ get_or-set_same frames.pages f bytes [] (subst (λ (j : ℕ). j < length frames.pages) same (omega (arith, many, less)))))
      (well n (subst (λ (j : ℕ). j < length slots) same less) (ap (page_in slots) (sym same) ∙ is)))
      (λ differ. subst (λ (page : List ℕ). ∥ IsWell page ∥₁) (sym (get_or-set_other frames.pages f h bytes [] differ)) (shelf.well h n less is))
      (cases_eq h f);
}

-- with other windows of as many bands, and a window's bytes set
pub shelf_window : (pages bands : ℕ) (slots : List Slot) {index : List (Option ℕ)} (wins wins' : Windows) (frames frames' : Held) (w : ℕ) (bytes : List ℕ) → IsShelf pages bands slots index wins frames → w < length frames.windows
    → frames' ≡ record frames { windows = set frames.windows w bytes } → length (get_or frames'.windows w []) ≡ 32768 → length wins'.slots.items ≡ length wins.slots.items → length wins'.index.items ≡ length wins.index.items → IsShelf pages bands slots index wins' frames'
shelf_window pages bands slots {index = index} wins wins' frames frames' w bytes shelf lt is long count listed =
    let sized : length bytes ≡ 32768 = sym (ap (λ (h : Held). length (get_or h.windows w [])) is ∙ ap (λ (l : List ℕ). length l) (get_or-set_same frames.windows w bytes [] lt)) ∙ long in
    subst (λ (h : Held). IsShelf pages bands slots index wins' h) (sym is) (record {
      here = record { pages = shelf.here.pages; windows = frame_bytes 32768 frames.windows w bytes sized shelf.here.windows };
      many = shelf.many;
      wide = length-set frames.windows w bytes ∙ (shelf.wide ∙ sym count);
      few = shelf.few;
      apart = shelf.apart;
      within = shelf.within;
      owned = shelf.owned;
      most = shelf.most;
      listed = shelf.listed;
      found = shelf.found;
      most_bands = shelf.most_bands;
      listed_bands = listed ∙ shelf.listed_bands;
      well = shelf.well;
    })

-- A CLEAN FRAME GETS A PAGE FROM ITS HOME, OR NONE
module _ (g : Geometry) (slots : List Slot) {index : List (Option ℕ)} (wins : Windows) (frames : Held) (shelf : IsShelf g.pages g.bands slots index wins frames) (f : ℕ) (lt : f < length slots) (clean : since_of slots (Some f) ≡ None)
    (p : ℕ) (absent : frame_of slots p ≡ None) where
  abbrev pub empty : Slot
  empty = record { number = None; since = None }

  abbrev pub loaded : Slot
  loaded = record { number = Some p; since = None }

  long : f < length frames.pages
  long = let e = shelf.many in omega (arith, e)

  module _ (seen : Bytes) where
    abbrev home_bytes : List ℕ
    home_bytes = page_at seen (home_at p)

    none_new : (n : ℕ) → None ≡ Some n → (frame_of slots n ≡ None) × (page_at seen (home_at p) ≡ page_at seen (home_at n))
    none_new n is = absurd (none_is_some n is)

    one_new : (n : ℕ) → Some p ≡ Some n → (frame_of slots n ≡ None) × (page_at seen (home_at p) ≡ page_at seen (home_at n))
    one_new n is = let same = some_same p n is in (ap (frame_of slots) (sym same) ∙ absent, ap (λ (j : ℕ). page_at seen (home_at j)) same)

  empty_apart : AreApart (set slots f empty)
  empty_apart = apart_none slots f empty lt refl shelf.apart

  loaded_apart : AreApart (set slots f loaded)
  loaded_apart = apart_new slots f loaded lt p refl absent shelf.apart

  -- in what the code's values are
  module _ (g' : Geometry) (q r : Part) (slots' : List Slot) (wins' : Windows) (frames' : Held) (same_g : g' ≡ g) (same : r ≡ q) (same_wins : wins' ≡ wins) (same_frames : frames' ≡ record frames { pages = set frames.pages f (page_at q.seen (home_at p)) })
      (backed : IsBacked g q (units_of g q.seen slots wins frames)) where
    units_are : (s : Slot) → slots' ≡ set slots f s → units_of g' r.seen slots' wins' frames' ≡ units_of g q.seen (set slots f s) wins (record frames { pages = set frames.pages f (page_at q.seen (home_at p)) })
    units_are s is = ap (λ (h : Geometry). units_of h r.seen slots' wins' frames') same_g ∙ (ap (λ (t : Part). units_of g t.seen slots' wins' frames') same ∙ (ap (λ (t : List Slot). units_of g q.seen t wins' frames') is
        ∙ (ap (λ (t : Windows). units_of g q.seen (set slots f s) t frames') same_wins ∙ ap (units_of g q.seen (set slots f s) wins) same_frames)))

    to_backed : (s : Slot) → slots' ≡ set slots f s → IsBacked g q (units_of g q.seen (set slots f s) wins (record frames { pages = set frames.pages f (page_at q.seen (home_at p)) })) → IsBacked g r (units_of g' r.seen slots' wins' frames')
    to_backed s is b = subst (λ (t : Part). IsBacked g t (units_of g' r.seen slots' wins' frames')) (sym same) (subst (IsBacked g q) (sym (units_are s is)) b)

    to_cleaned : (s : Slot) → slots' ≡ set slots f s → IsCleaned g (units_of g q.seen slots wins frames) (units_of g q.seen (set slots f s) wins (record frames { pages = set frames.pages f (page_at q.seen (home_at p)) })) → IsCleaned g (units_of g q.seen slots wins frames) (units_of g' r.seen slots' wins' frames')
    to_cleaned s is b = subst (IsCleaned g (units_of g q.seen slots wins frames)) (sym (units_are s is)) b

    pub empty_backed : slots' ≡ set slots f empty → IsBacked g r (units_of g' r.seen slots' wins' frames')
    empty_backed is = to_backed empty is (replaced_backed g slots wins frames f lt shelf.apart empty (page_at q.seen (home_at p)) q.seen long clean refl empty_apart (none_new q.seen) q refl backed)

    pub empty_cleaned : slots' ≡ set slots f empty → IsCleaned g (units_of g q.seen slots wins frames) (units_of g' r.seen slots' wins' frames')
    empty_cleaned is = to_cleaned empty is (replaced_cleaned g slots wins frames f lt shelf.apart empty (page_at q.seen (home_at p)) q.seen long clean refl empty_apart (none_new q.seen) q refl backed)

    pub loaded_backed : slots' ≡ set slots f loaded → IsBacked g r (units_of g' r.seen slots' wins' frames')
    loaded_backed is = to_backed loaded is (replaced_backed g slots wins frames f lt shelf.apart loaded (page_at q.seen (home_at p)) q.seen long clean refl loaded_apart (one_new q.seen) q refl backed)

    pub loaded_cleaned : slots' ≡ set slots f loaded → IsCleaned g (units_of g q.seen slots wins frames) (units_of g' r.seen slots' wins' frames')
    loaded_cleaned is = to_cleaned loaded is (replaced_cleaned g slots wins frames f lt shelf.apart loaded (page_at q.seen (home_at p)) q.seen long clean refl loaded_apart (one_new q.seen) q refl backed)

-- the second of two sets counts
pub twice : (slots t : List Slot) (f : ℕ) (a b : Slot) → t ≡ set slots f a → set t f b ≡ set slots f b
twice slots t f a b is = ap (λ (u : List Slot). set u f b) is ∙ set-set slots f a b

-- the bytes of a frame that is still here
pub frame_long_after : (old new : Held) (f : ℕ) (bytes : List ℕ) → f < length old.pages → new ≡ record old { pages = set old.pages f bytes } → length (get_or new.pages f []) ≡ 4096 → length bytes ≡ 4096
frame_long_after old new f bytes lt is here = sym (ap (λ (h : Held). length (get_or h.pages f [])) is ∙ ap (λ (l : List ℕ). length l) (get_or-set_same old.pages f bytes [] lt)) ∙ here
