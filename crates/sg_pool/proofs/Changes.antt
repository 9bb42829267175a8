-- A record is done to a page in its frame, or several are.
use Rattle.std.proofs.Common.{◌≡◌, ◌≢◌, ◌⊎◌, inl, inr, ⊎_elim, ◌<◌, ℕ, Bool, true, false, if◌then◌else◌, Option, Some, None, List, [], ◌∷◌, length, get_or, set, refl, sym, ◌∙◌, ap, subst, get_or-set_same, get_or-set_other}
use Rattle.std.specs.Prelude.{◌&&◌, nat_lt, is_some, unwrap_or}
use Rattle.std.proofs.lemmas.Bool.{cases_eq}
use Rattle.sg_base.specs.Page.{lsn_of}
use Rattle.sg_disk.specs.Disk.{Bytes, Part}
use Rattle.sg_frames.specs.Held.{Held}
use Rattle.sg_gate.specs.Layout.{home_at}
use Rattle.sg_base.specs.Op.{Op}
use Rattle.sg_ops.specs.Table.{Table}
use Rattle.sg_redo.specs.History.{OnPage, redone, repeated, applies, since_after, since_repeated}
use Rattle.sg_redo.specs.Page.{fits, on_page}
use Rattle.sg_redo.proofs.Redone.{applies_is}
use Rattle.sg_pool.specs.declared.slot.Slot.{Slot}
use Rattle.sg_pool.specs.declared.windows.Windows.{Windows}
use Rattle.sg_pool.specs.Changed.{slots_after, IsChanged}
use Rattle.sg_pool.specs.Repeated.{IsPageRepeated}
use Rattle.sg_pool.specs.Frames.{units_of}
use Rattle.sg_pool.specs.Held.{no_slot, frame_of, page_in, AreApart, bytes_of, since_of, page_of, page_since_of}
use Rattle.sg_pool.specs.Units.{Geometry, Units, IsBacked, page_at}
use Rattle.sg_pool.proofs.Slots.{some_same, frame_some, set_here, set_there, page_there, frame_kept}

module _ (r : OnPage) (page : List ℕ) where
  unfit : (o : Option (List ℕ)) → is_some o ≡ false → unwrap_or o page ≡ page
  unfit None is = refl
  unfit (Some new) is = cc

  not_above : (b : Bool) → (b && is_some (r.makes page)) ≡ false → (if b then unwrap_or (r.makes page) page else page) ≡ page
  not_above true is = unfit (r.makes page) is
  not_above false is = refl

  -- a record that doesn't apply changes nothing
  pub redone_same : applies r page ≡ false → redone r page ≡ page
  unfolding redone
  redone_same is = not_above (nat_lt (lsn_of page) r.lsn) is

pub bool_cases : (b : Bool) → (b ≡ true) ⊎ (b ≡ false)
bool_cases true = inl refl
bool_cases false = inr refl

since_some : (r : OnPage) (page : List ℕ) (o : Option ℕ) (b : Bool) → b ≡ true → (if b then Some (unwrap_or o r.lsn) else o) ≡ None → ⊥
since_some r page o true is none = cc
since_some r page o false is none = cc

since_none : (r : OnPage) (o : Option ℕ) (b : Bool) → b ≡ false → (if b then Some (unwrap_or o r.lsn) else o) ≡ o
since_none r o true is = cc
since_none r o false is = refl

-- records that leave it without a change change nothing
pub none_repeated : (rs : List OnPage) (page : List ℕ) (since : Option ℕ) → since_repeated rs page since ≡ None → (since ≡ None) × (repeated rs page ≡ page)
none_repeated [] page since none = (none, refl)
none_repeated (r ∷ rs) page since none =
    let rest = none_repeated rs (redone r page) (since_after r page since) none in
    ⊎_elim
    (λ yes. absurd (since_some r page since (applies r page) yes rest.0))
    (λ not. (sym (since_none r since (applies r page) not) ∙ rest.0, rest.1 ∙ redone_same r page not))
    (bool_cases (applies r page))

-- whether the code did it
applied_is : (t : Table) (op : Op) (lsn : ℕ) (page page' : List ℕ) (b : Bool) → page' ≡ page → b ≡ (nat_lt (lsn_of page') lsn && fits t op page') → applies (on_page t lsn op) page ≡ b
applied_is t op lsn page page' b same is = applies_is t lsn op page ∙ sym (is ∙ ap (λ (x : List ℕ). nat_lt (lsn_of x) lsn && fits t op x) same)

pub slots_not : (t : Table) (op : Op) (lsn : ℕ) (page page' : List ℕ) (b : Bool) (slots : List Slot) (f : ℕ) → page' ≡ page → b ≡ (nat_lt (lsn_of page') lsn && fits t op page') → b ≡ false
    → slots ≡ slots_after (applies (on_page t lsn op) page) slots f lsn
slots_not t op lsn page page' b slots f same is not = sym (ap (λ (x : Bool). slots_after x slots f lsn) (applied_is t op lsn page page' b same is ∙ not))

pub slots_done : (t : Table) (op : Op) (lsn : ℕ) (page page' : List ℕ) (b : Bool) (slots : List Slot) (f : ℕ) → page' ≡ page → b ≡ (nat_lt (lsn_of page') lsn && fits t op page') → b ≡ true
    → (slot : Slot) → slot ≡ get_or slots f no_slot → (since : ℕ) → since ≡ unwrap_or slot.since lsn
    → set slots f (record { number = slot.number; since = Some since }) ≡ slots_after (applies (on_page t lsn op) page) slots f lsn
slots_done t op lsn page page' b slots f same is applies_it slot at since oldest =
    ap (λ (n : ℕ). set slots f (record { number = slot.number; since = Some n })) oldest
    ∙ (ap (λ (x : Slot). set slots f (record { number = x.number; since = Some (unwrap_or x.since lsn) })) at
    ∙ sym (ap (λ (x : Bool). slots_after x slots f lsn) (applied_is t op lsn page page' b same is ∙ applies_it)))

-- frame f's slot may have another oldest change, and the others none
pub record IsMarkedSlot (slots slots1 : List Slot) (f : ℕ) (since : Option ℕ) : Type 0 where
  pub frames : (n : ℕ) → frame_of slots1 n ≡ frame_of slots n
  pub here : since_of slots1 (Some f) ≡ since
  pub others : (k : ℕ) → k ≢ f → since_of slots1 (Some k) ≡ since_of slots (Some k)
  pub pages : (k : ℕ) → page_in slots1 k ≡ page_in slots k

-- a slot that gets another oldest change
pub slot_marked : (slots : List Slot) (f : ℕ) (since : Option ℕ) → f < length slots → AreApart slots → IsMarkedSlot slots (set slots f (record { number = page_in slots f; since = since })) f since
slot_marked slots f since lt apart =
    let marked : Slot = record { number = page_in slots f; since = since } in
    record {
      frames = λ n. frame_kept slots f marked lt refl n apart;
      here = ap (λ (s : Slot). s.since) (set_here slots f marked lt);
      others = λ k differ. ap (λ (s : Slot). s.since) (set_there slots f marked lt k differ);
      pages = λ k. ⊎_elim
          (λ e. ap (page_in (set slots f marked)) e ∙ (ap (λ (s : Slot). s.number) (set_here slots f marked lt) ∙ ap (page_in slots) (sym e)))
          (λ differ. page_there slots f marked lt k differ)
          (cases_eq k f);
    }

slots_marked : (slots : List Slot) (f lsn : ℕ) → f < length slots → AreApart slots → (b : Bool) → IsMarkedSlot slots (slots_after b slots f lsn) f (if b then Some (unwrap_or (since_of slots (Some f)) lsn) else since_of slots (Some f))
slots_marked slots f lsn lt apart true = slot_marked slots f (Some (unwrap_or (since_of slots (Some f)) lsn)) lt apart
slots_marked slots f lsn lt apart false = record { frames = λ n. refl; here = refl; others = λ k differ. refl; pages = λ k. refl }

-- page p has these bytes and this oldest change, and nothing else has changed
pub record IsPageSet (p : ℕ) (bytes : List ℕ) (oldest : Option ℕ) (m m' : Units) : Type 0 where
  pub page : m'.page p ≡ bytes
  pub since : m'.page_since p ≡ oldest
  pub other_pages : (n : ℕ) → n ≢ p → m'.page n ≡ m.page n
  pub other_sinces : (n : ℕ) → n ≢ p → m'.page_since n ≡ m.page_since n
  pub byte : (b i : ℕ) → m'.byte b i ≡ m.byte b i
  pub band_since : (b : ℕ) → m'.band_since b ≡ m.band_since b
  pub marked : (b i : ℕ) → m'.marked b i ≡ m.marked b i

-- the page is still held, and so are the others
module _ (slots slots1 slots' : List Slot) (f : ℕ) (since : Option ℕ) (is_marked : IsMarkedSlot slots slots1 f since) (is : slots' ≡ slots1) where
  pub still_held : (p : ℕ) → frame_of slots p ≡ Some f → frame_of slots' p ≡ Some f
  still_held p held = ap (λ (t : List Slot). frame_of t p) is ∙ (is_marked.frames p ∙ held)

  pub others_still : (old : List Slot) → ((k : ℕ) → k ≢ f → page_in slots k ≡ page_in old k) → (k : ℕ) → k ≢ f → page_in slots' k ≡ page_in old k
  others_still old others k differ = ap (λ (t : List Slot). page_in t k) is ∙ (is_marked.pages k ∙ others k differ)

-- A FRAME GETS OTHER BYTES OF ITS PAGE, and its page this oldest change
module _ (p : ℕ) (page : List ℕ) (since : Option ℕ) (slots slots1 : List Slot) (frames : Held) (f : ℕ) (long : f < length frames.pages) (held : frame_of slots p ≡ Some f) (is_marked : IsMarkedSlot slots slots1 f since) where
  abbrev pub frames1 : Held
  frames1 = record frames { pages = set frames.pages f page }

  -- the page itself
  pub page_is : (home : List ℕ) → page_of slots frames.pages p home ≡ get_or frames.pages f []
  page_is home = ap (λ (o : Option ℕ). bytes_of frames.pages o home) held

  page_now : (home : List ℕ) → page_of slots1 frames1.pages p home ≡ page
  page_now home = ap (λ (o : Option ℕ). bytes_of frames1.pages o home) (is_marked.frames p ∙ held) ∙ get_or-set_same frames.pages f page [] long

  since_now : page_since_of slots1 p ≡ since
  since_now = ap (since_of slots1) (is_marked.frames p ∙ held) ∙ is_marked.here

  -- another page
  other_in : (n : ℕ) → n ≢ p → (home : List ℕ) (o : Option ℕ) → frame_of slots n ≡ o → (bytes_of frames1.pages o home ≡ bytes_of frames.pages o home) × (since_of slots1 o ≡ since_of slots o)
  other_in n differ home None e = (refl, refl)
  other_in n differ home (Some k) e =
      let apart_k : k ≢ f = λ same. differ (some_same n p (sym (frame_some n slots k e).1 ∙ (ap (page_in slots) same ∙ (frame_some p slots f held).1))) in
      (get_or-set_other frames.pages f k page [] apart_k, is_marked.others k apart_k)

  page_other : (n : ℕ) → n ≢ p → (home : List ℕ) → page_of slots1 frames1.pages n home ≡ page_of slots frames.pages n home
  page_other n differ home = ap (λ (o : Option ℕ). bytes_of frames1.pages o home) (is_marked.frames n) ∙ (other_in n differ home (frame_of slots n) refl).0

  since_other : (n : ℕ) → n ≢ p → page_since_of slots1 n ≡ page_since_of slots n
  since_other n differ = ap (since_of slots1) (is_marked.frames n) ∙ (other_in n differ [] (frame_of slots n) refl).1

  module _ (g : Geometry) (wins : Windows) (seen : Bytes) where
    is_set : IsPageSet p page since (units_of g seen slots wins frames) (units_of g seen slots1 wins frames1)
    is_set = record {
      page = page_now (page_at seen (home_at p));
      since = since_now;
      other_pages = λ n differ. page_other n differ (page_at seen (home_at n));
      other_sinces = λ n differ. since_other n differ;
      byte = λ b i. refl;
      band_since = λ b. refl;
      marked = λ b i. refl;
    }

    -- where it still has no change, its bytes are the same
    set_backed : (since ≡ None → (page_since_of slots p ≡ None) × (page ≡ page_of slots frames.pages p (page_at seen (home_at p)))) → (q : Part) → IsBacked g q (units_of g seen slots wins frames) → IsBacked g q (units_of g seen slots1 wins frames1)
    set_backed clean q backed = record {
      ready = backed.ready;
      pages = λ n small none. ⊎_elim
          (λ same. subst (λ (j : ℕ). page_at q.seen (home_at j) ≡ page_of slots1 frames1.pages j (page_at seen (home_at j))) (sym same)
          (let was = clean (sym since_now ∙ (ap (page_since_of slots1) (sym same) ∙ none)) in
          backed.pages p (subst (λ (j : ℕ). j < g.pages) same small) was.0 ∙ (sym was.1 ∙ sym (page_now (page_at seen (home_at p))))))
          (λ differ. backed.pages n small (sym (since_other n differ) ∙ none) ∙ sym (page_other n differ (page_at seen (home_at n))))
          (cases_eq n p);
      bytes = backed.bytes;
      clean = backed.clean;
    }

    -- in what the code's values are
    module _ (g' : Geometry) (slots' : List Slot) (wins' : Windows) (frames' : Held) (same_g : g' ≡ g) (is : slots' ≡ slots1) (same_wins : wins' ≡ wins) (same_frames : frames' ≡ frames1) where
      units_are : units_of g' seen slots' wins' frames' ≡ units_of g seen slots1 wins frames1
      units_are = ap (λ (h : Geometry). units_of h seen slots' wins' frames') same_g ∙ (ap (λ (t : List Slot). units_of g seen t wins' frames') is ∙ (ap (λ (t : Windows). units_of g seen slots1 t frames') same_wins ∙ ap (units_of g seen slots1 wins) same_frames))

      pub page_set : IsPageSet p page since (units_of g seen slots wins frames) (units_of g' seen slots' wins' frames')
      page_set = subst (IsPageSet p page since (units_of g seen slots wins frames)) (sym units_are) is_set

      pub page_set_backed : (since ≡ None → (page_since_of slots p ≡ None) × (page ≡ page_of slots frames.pages p (page_at seen (home_at p)))) → (q : Part) → IsBacked g q (units_of g seen slots wins frames) → IsBacked g q (units_of g' seen slots' wins' frames')
      page_set_backed clean q backed = subst (IsBacked g q) (sym units_are) (set_backed clean q backed)

-- A RECORD IS DONE TO A PAGE IN ITS FRAME
module _ (p : ℕ) (r : OnPage) (slots : List Slot) (frames : Held) (f : ℕ) (lt : f < length slots) (long : f < length frames.pages) (apart : AreApart slots) (held : frame_of slots p ≡ Some f) where
  abbrev was : List ℕ
  was = get_or frames.pages f []

  abbrev oldest : Option ℕ
  oldest = since_after r was (since_of slots (Some f))

  pub record_marked : IsMarkedSlot slots (slots_after (applies r was) slots f r.lsn) f oldest
  record_marked = slots_marked slots f r.lsn lt apart (applies r was)

  module _ (g : Geometry) (wins : Windows) (seen : Bytes) (g' : Geometry) (slots' : List Slot) (wins' : Windows) (frames' : Held) (same_g : g' ≡ g) (is : slots' ≡ slots_after (applies r was) slots f r.lsn) (same_wins : wins' ≡ wins)
      (same_frames : frames' ≡ record frames { pages = set frames.pages f (redone r was) }) where
    abbrev home : List ℕ
    home = page_at seen (home_at p)

    here : page_of slots frames.pages p home ≡ was
    here = page_is p (redone r was) oldest slots (slots_after (applies r was) slots f r.lsn) frames f long held record_marked home

    pub change_is : IsChanged p r (units_of g seen slots wins frames) (units_of g' seen slots' wins' frames')
    change_is =
        let set_so = page_set p (redone r was) oldest slots (slots_after (applies r was) slots f r.lsn) frames f long held record_marked g wins seen g' slots' wins' frames' same_g is same_wins same_frames in
        record {
          page = set_so.page ∙ sym (ap (redone r) here);
          since = set_so.since ∙ (ap (λ (o : Option ℕ). since_after r was (since_of slots o)) (sym held) ∙ ap (λ (x : List ℕ). since_after r x (page_since_of slots p)) (sym here));
          other_pages = set_so.other_pages;
          other_sinces = set_so.other_sinces;
          byte = set_so.byte;
          band_since = set_so.band_since;
          marked = set_so.marked;
        }

    pub change_backed : (q : Part) → IsBacked g q (units_of g seen slots wins frames) → IsBacked g q (units_of g' seen slots' wins' frames')
    change_backed = page_set_backed p (redone r was) oldest slots (slots_after (applies r was) slots f r.lsn) frames f long held record_marked g wins seen g' slots' wins' frames' same_g is same_wins same_frames
        (λ none. let it = none_repeated (r ∷ []) was (since_of slots (Some f)) none in (ap (since_of slots) held ∙ it.0, it.1 ∙ sym here))

-- RECORDS ARE REPEATED ON A PAGE IN ITS FRAME
module _ (p : ℕ) (rs : List OnPage) (slots : List Slot) (frames : Held) (f : ℕ) (lt : f < length slots) (long : f < length frames.pages) (apart : AreApart slots) (held : frame_of slots p ≡ Some f) where
  abbrev had : List ℕ
  had = get_or frames.pages f []

  abbrev first : Option ℕ
  first = since_repeated rs had (since_of slots (Some f))

  abbrev slots_then : List Slot
  slots_then = set slots f (record { number = page_in slots f; since = first })

  pub repeat_marked : IsMarkedSlot slots slots_then f first
  repeat_marked = slot_marked slots f first lt apart

  module _ (g : Geometry) (wins : Windows) (seen : Bytes) (g' : Geometry) (slots' : List Slot) (wins' : Windows) (frames' : Held) (same_g : g' ≡ g) (is : slots' ≡ slots_then) (same_wins : wins' ≡ wins)
      (same_frames : frames' ≡ record frames { pages = set frames.pages f (repeated rs had) }) where
    abbrev at_home : List ℕ
    at_home = page_at seen (home_at p)

    there : page_of slots frames.pages p at_home ≡ had
    there = page_is p (repeated rs had) first slots slots_then frames f long held repeat_marked at_home

    pub repeat_is : IsPageRepeated p rs (units_of g seen slots wins frames) (units_of g' seen slots' wins' frames')
    repeat_is =
        let set_so = page_set p (repeated rs had) first slots slots_then frames f long held repeat_marked g wins seen g' slots' wins' frames' same_g is same_wins same_frames in
        record {
          page = set_so.page ∙ sym (ap (repeated rs) there);
          since = set_so.since ∙ (ap (λ (o : Option ℕ). since_repeated rs had (since_of slots o)) (sym held) ∙ ap (λ (x : List ℕ). since_repeated rs x (page_since_of slots p)) (sym there));
          other_pages = set_so.other_pages;
          other_sinces = set_so.other_sinces;
          byte = set_so.byte;
          band_since = set_so.band_since;
          marked = set_so.marked;
        }

    pub repeat_backed : (q : Part) → IsBacked g q (units_of g seen slots wins frames) → IsBacked g q (units_of g' seen slots' wins' frames')
    repeat_backed = page_set_backed p (repeated rs had) first slots slots_then frames f long held repeat_marked g wins seen g' slots' wins' frames' same_g is same_wins same_frames
        (λ none. let it = none_repeated rs had (since_of slots (Some f)) none in (ap (since_of slots) held ∙ it.0, it.1 ∙ sym there))
