-- What is left of a text, and what was made of the part before.
use Rattle.std.proofs.Common.{◌≡◌, ℕ, ◌+◌, ◌-◌, ◌<◌, ◌≤◌, ◌&&◌, arith, Bool, true, false, cond, List, [], ◌∷◌, ◌++◌, length, take, drop, get_or, Option, Some, None, refl, sym, ap, ◌∙◌, subst, length-append, length-drop, length-take}
use Rattle.std.proofs.lemmas.List.{take-append-drop, drop-drop, take_rest, get_or-drop}
use Rattle.std.proofs.Math.Seq.{take-append_seam, drop-append_seam}
use Rattle.byteorder.specs.Endian.{little_bytes, little_number}
use Rattle.byteorder.specs.Numbers.{little_number-reads_back}
use Rattle.sg_ops.specs.Table.{Table}
use Rattle.sg_redo.specs.Places.{changed_by}
use Rattle.sg_redo.specs.declared.place.Place.{Place}
use Rattle.sg_record.specs.Records.{Record, spelled}
use Rattle.sg_record.specs.Ranges.{IsRecord}
use Rattle.sg_log.specs.Texts.{AreRecords, spelled_all}
use Rattle.sg_log.specs.Frames.{IsFrame, text_of, Numbered, numbered_from, numbered_in}
use Rattle.sg_record.proofs.Parsing.{spelled_first}
use Rattle.sg_log.proofs.Texts.{spelled-long}
use Rattle.sg_places.specs.Text.{framed, framed_all, AreFrames, IsText}
use Rattle.sg_places.specs.Asked.{is_there, all_there, first_outside, Undone, unknown_by, first_unknown, or_else}
use Rattle.sg_places.specs.Placed.{place_in, places_in}

-- RECORDS ARE LEFT behind an offset of some bytes
pub record AreLeft (bytes : List ℕ) (at : ℕ) (rest : List Record) : Type 0 where
  pub fields : AreRecords rest
  pub text : spelled_all rest ≡ drop at bytes

-- the first of them, where one stands there
pub record IsFirst (bytes : List ℕ) (at : ℕ) (r : Record) (rest : List Record) : Type 0 where
  pub more : List Record
  pub is : rest ≡ r ∷ more
  pub left : AreLeft bytes (at + length (spelled r)) more

pub first_left : (bytes : List ℕ) (at size : ℕ) (r : Record) (rest : List Record) → AreLeft bytes at rest → at < length bytes → IsRecord r → take size (drop at bytes) ≡ spelled r → IsFirst bytes at r rest
first_left bytes at size r [] left lt fields text = absurd (omega (arith, ap length left.text, length-drop at bytes))
first_left bytes at size r (q ∷ more) left lt fields text =
    let behind : drop at bytes ≡ spelled r ++ drop size (drop at bytes) = sym (take-append-drop size (drop at bytes)) ∙ ap (λ (xs : List ℕ). xs ++ drop size (drop at bytes)) text in
    let first = spelled_first q r (spelled_all more) (drop size (drop at bytes)) left.fields.0 fields (left.text ∙ behind) in
    let P : Record → List Record = λ x. x ∷ more in
    record {
      more = more;
      is = ap P first.0;
      left = record {
        fields = left.fields.1;
        text = first.1 ∙ (sym (drop-append_seam (spelled r) (drop size (drop at bytes))) ∙ (ap (drop (length (spelled r))) (sym behind) ∙ drop-drop (length (spelled r)) at bytes));
      };
    }

-- none is left behind the last byte
pub none_left : (bytes : List ℕ) (at : ℕ) (rest : List Record) → AreLeft bytes at rest → length bytes ≤ at → rest ≡ []
none_left bytes at [] left end = refl
none_left bytes at (r ∷ rest) left end = absurd (omega (arith, ap length left.text, length-drop at bytes, length-append (spelled r) (spelled_all rest), spelled-long r))

-- some is left before it
pub some_left : (bytes : List ℕ) (at : ℕ) (rest : List Record) → AreLeft bytes at rest → at < length bytes → (r : Record) × (more : List Record) × IsRecord r × (drop at bytes ≡ spelled r ++ spelled_all more)
some_left bytes at [] left lt = absurd (omega (arith, ap length left.text, length-drop at bytes))
some_left bytes at (r ∷ rest) left lt = (r, rest, left.fields.0, sym left.text)

-- FRAMES ARE LEFT behind an offset of a text
pub record FramesLeft (text : List ℕ) (at : ℕ) (rest : List (List Record)) : Type 0 where
  pub frames : AreFrames rest
  pub bytes : drop at text ≡ framed_all rest
  pub within : at ≤ length text

pub all_left : (frames : List (List Record)) (text : List ℕ) → IsText frames text → FramesLeft text 0 frames
all_left frames text is = record { frames = is.all; bytes = is.bytes; within = omega arith }

pub framed-length : (rs : List Record) → length (framed rs) ≡ 5 + length (spelled_all rs)
framed-length rs = omega (arith, length-append (little_bytes 4 (length (spelled_all rs))) (spelled_all rs))

pub no_frames_left : (text : List ℕ) (at : ℕ) (rest : List (List Record)) → FramesLeft text at rest → length text ≤ at → rest ≡ []
no_frames_left text at [] left end = refl
no_frames_left text at (rs ∷ rest) left end = absurd (omega (arith, ap length left.bytes, length-drop at text, length-append (framed rs) (framed_all rest), framed-length rs))

-- the first of them, its body, and what is left behind it
pub record IsFirstFrame (text : List ℕ) (at : ℕ) (rest : List (List Record)) : Type 0 where
  pub rs : List Record
  pub more : List (List Record)
  pub is : rest ≡ rs ∷ more
  pub frame : IsFrame rs
  pub stands : drop at text ≡ framed rs ++ framed_all more
  pub body : take (length (spelled_all rs)) (drop (at + 5) text) ≡ spelled_all rs
  pub left : FramesLeft text (at + 5 + length (spelled_all rs)) more

pub first_frame : (text : List ℕ) (at : ℕ) (rest : List (List Record)) → FramesLeft text at rest → at < length text → IsFirstFrame text at rest
first_frame text at [] left lt = absurd (omega (arith, ap length left.bytes, length-drop at text))
first_frame text at (rs ∷ more) left lt =
    let head : List ℕ = 1 ∷ little_bytes 4 (length (spelled_all rs)) in
    let body : List ℕ = spelled_all rs in
    let split : drop at text ≡ head ++ (body ++ framed_all more) = left.bytes ∙ assoc head body (framed_all more) in
    let behind : drop (at + 5) text ≡ body ++ framed_all more = sym (drop-drop 5 at text) ∙ (ap (drop 5) split ∙ drop-append_seam head (body ++ framed_all more)) in
    let last : drop (at + 5 + length body) text ≡ framed_all more = sym (drop-drop (length body) (at + 5) text) ∙ (ap (drop (length body)) behind ∙ drop-append_seam body (framed_all more)) in
    record {
      rs = rs;
      more = more;
      is = refl;
      frame = left.frames.0;
      stands = left.bytes;
      body = ap (take (length body)) behind ∙ take-append_seam body (framed_all more);
      left = record { frames = left.frames.1; bytes = last; within = omega (arith, ap length left.bytes, length-drop at text, length-append (framed rs) (framed_all more), framed-length rs) };
    }
  where
    assoc : (xs ys zs : List ℕ) → (xs ++ ys) ++ zs ≡ xs ++ (ys ++ zs)
    assoc [] ys zs = refl
    assoc (x ∷ xs) ys zs = ap (λ l. x ∷ l) (assoc xs ys zs)

-- THE CHECK SO FAR, of the records of a body
pub record IsChecked (t : Table) (pages bands point : ℕ) (undone : Undone) (lsn : ℕ) (bytes : List ℕ) (rs : List Record) (at : ℕ) (unknown : Option ℕ) : Type 0 where
  pub rest : List Record
  pub left : AreLeft bytes at rest
  pub there : all_there pages bands rs ≡ all_there pages bands rest
  pub codes : first_unknown t point undone (numbered_from lsn rs) ≡ or_else unknown (first_unknown t point undone (numbered_from (lsn + at) rest))

pub or_else_assoc : (a b c : Option ℕ) → or_else a (or_else b c) ≡ or_else (or_else a b) c
or_else_assoc None b c = refl
or_else_assoc (Some x) b c = refl

pub or_else_none : (a : Option ℕ) → or_else a None ≡ a
or_else_none None = refl
or_else_none (Some x) = refl

pub check_starts : (t : Table) (pages bands point : ℕ) (undone : Undone) (lsn : ℕ) (bytes : List ℕ) (rs : List Record) → AreRecords rs → spelled_all rs ≡ bytes → IsChecked t pages bands point undone lsn bytes rs 0 None
check_starts t pages bands point undone lsn bytes rs fields text = record {
  rest = rs;
  left = record { fields = fields; text = text };
  there = refl;
  codes = ap (λ n. first_unknown t point undone (numbered_from n rs)) (zero lsn);
}
  where
    zero : (n : ℕ) → n ≡ n + 0
    zero n = omega arith

module _ (t : Table) (pages bands point : ℕ) (undone : Undone) (lsn : ℕ) (bytes : List ℕ) (rs : List Record) (at : ℕ) (unknown : Option ℕ) (h : IsChecked t pages bands point undone lsn bytes rs at unknown)
    (size : ℕ) (r : Record) (lt : at < length bytes) (fields : IsRecord r) (text : take size (drop at bytes) ≡ spelled r) where
  next : IsFirst bytes at r h.rest
  next = first_left bytes at size r h.rest h.left lt fields text

  pub outside : is_there pages bands (changed_by r.says) ≡ false → all_there pages bands rs ≡ false
  outside out = h.there ∙ (ap (all_there pages bands) next.is ∙ ap (λ b. b && all_there pages bands next.more) out)

  pub check_goes_on : (code : Option ℕ) → is_there pages bands (changed_by r.says) ≡ true → code ≡ unknown_by t point undone (lsn + at) r → size ≡ length (spelled r) → IsChecked t pages bands point undone lsn bytes rs (at + size) (or_else unknown code)
  check_goes_on code inside is long =
      let ends : at + length (spelled r) ≡ at + size = ap (λ n. at + n) (sym long) in
      let place : lsn + at + length (spelled r) ≡ lsn + (at + size) = omega (arith, long) in
      record {
        rest = next.more;
        left = subst (λ n. AreLeft bytes n next.more) ends next.left;
        there = h.there ∙ (ap (all_there pages bands) next.is ∙ ap (λ b. b && all_there pages bands next.more) inside);
        codes = h.codes ∙ (ap (λ (l : List Record). or_else unknown (first_unknown t point undone (numbered_from (lsn + at) l))) next.is
            ∙ (ap (λ (o : Option ℕ). or_else unknown (or_else o (first_unknown t point undone (numbered_from (lsn + at + length (spelled r)) next.more)))) (sym is)
            ∙ (or_else_assoc unknown code _ ∙ ap (λ n. or_else (or_else unknown code) (first_unknown t point undone (numbered_from n next.more))) place)));
      }

pub check_ends : {t : Table} {pages bands point : ℕ} {undone : Undone} {lsn : ℕ} {bytes : List ℕ} {rs : List Record} {at : ℕ} {unknown : Option ℕ} → (h : IsChecked t pages bands point undone lsn bytes rs at unknown) → length bytes ≤ at
    → (all_there pages bands rs ≡ true) × (unknown ≡ first_unknown t point undone (numbered_from lsn rs))
check_ends {t = t} {pages = pages} {bands = bands} {point = point} {undone = undone} {lsn = lsn} {bytes = bytes} {at = at} {unknown = unknown} h end =
    let none = none_left bytes at h.rest h.left end in
    (h.there ∙ ap (all_there pages bands) none, sym (h.codes ∙ (ap (λ (l : List Record). or_else unknown (first_unknown t point undone (numbered_from (lsn + at) l))) none ∙ or_else_none unknown)))

-- one list of records and then another
pub first_unknown-append : (t : Table) (point : ℕ) (undone : Undone) (ns ms : List Numbered) → first_unknown t point undone (ns ++ ms) ≡ or_else (first_unknown t point undone ns) (first_unknown t point undone ms)
first_unknown-append t point undone [] ms = refl
first_unknown-append t point undone (n ∷ ns) ms = ap (or_else (unknown_by t point undone n.lsn n.is)) (first_unknown-append t point undone ns ms) ∙ or_else_assoc (unknown_by t point undone n.lsn n.is) (first_unknown t point undone ns) (first_unknown t point undone ms)

pub places_in-append : (pages base point : ℕ) (ns ms : List Numbered) → places_in pages base point (ns ++ ms) ≡ places_in pages base point ns ++ places_in pages base point ms
places_in-append pages base point [] ms = refl
places_in-append pages base point (n ∷ ns) ms = ap (λ (l : List Place). place_in pages base point n ++ l) (places_in-append pages base point ns ms) ∙ sym (assoc (place_in pages base point n) (places_in pages base point ns) (places_in pages base point ms))
  where
    assoc : (xs ys zs : List Place) → (xs ++ ys) ++ zs ≡ xs ++ (ys ++ zs)
    assoc [] ys zs = refl
    assoc (x ∷ xs) ys zs = ap (λ l. x ∷ l) (assoc xs ys zs)

places_assoc : (xs ys zs : List Place) → (xs ++ ys) ++ zs ≡ xs ++ (ys ++ zs)
places_assoc [] ys zs = refl
places_assoc (x ∷ xs) ys zs = ap (λ l. x ∷ l) (places_assoc xs ys zs)

places_none : (xs : List Place) → xs ++ [] ≡ xs
places_none [] = refl
places_none (x ∷ xs) = ap (λ l. x ∷ l) (places_none xs)

-- where the next frame of a log begins
behind : (gate : ℕ) (rs : List Record) → gate + 1 + length (text_of (spelled_all rs)) ≡ gate + 5 + length (spelled_all rs)
behind gate rs = omega (arith, length-append (little_bytes 4 (length (spelled_all rs))) (spelled_all rs))

-- THE CHECK SO FAR, of the frames of a text
pub record AreFramesChecked (t : Table) (pages bands start base point : ℕ) (undone : Undone) (text : List ℕ) (frames : List (List Record)) (at : ℕ) (unknown : Option ℕ) : Type 0 where
  pub rest : List (List Record)
  pub left : FramesLeft text at rest
  pub there : first_outside pages bands start frames ≡ first_outside pages bands (start + at) rest
  pub codes : first_unknown t point undone (numbered_in base frames) ≡ or_else unknown (first_unknown t point undone (numbered_in (base + at) rest))

pub frames_start : (t : Table) (pages bands start base point : ℕ) (undone : Undone) (text : List ℕ) (frames : List (List Record)) → IsText frames text → AreFramesChecked t pages bands start base point undone text frames 0 None
frames_start t pages bands start base point undone text frames is = record {
  rest = frames;
  left = all_left frames text is;
  there = ap (λ n. first_outside pages bands n frames) (zero start);
  codes = ap (λ n. first_unknown t point undone (numbered_in n frames)) (zero base);
}
  where
    zero : (n : ℕ) → n ≡ n + 0
    zero n = omega arith

module _ (t : Table) (pages bands start base point : ℕ) (undone : Undone) (text : List ℕ) (frames : List (List Record)) (at : ℕ) (unknown : Option ℕ) (h : AreFramesChecked t pages bands start base point undone text frames at unknown) (lt : at < length text) where
  pub frame : IsFirstFrame text at h.rest
  frame = first_frame text at h.rest h.left lt

  pub frame_outside : all_there pages bands frame.rs ≡ false → first_outside pages bands start frames ≡ Some (start + at)
  frame_outside out =
      let e : first_outside pages bands (start + at) (frame.rs ∷ frame.more) ≡ Some (start + at) = ap (λ b. cond b (first_outside pages bands (start + at + 1 + length (text_of (spelled_all frame.rs))) frame.more) (Some (start + at))) out in
      h.there ∙ (ap (first_outside pages bands (start + at)) frame.is ∙ e)

  pub frames_go_on : (code : Option ℕ) (end : ℕ) → end ≡ at + 5 + length (spelled_all frame.rs) → all_there pages bands frame.rs ≡ true → code ≡ first_unknown t point undone (numbered_from (base + (at + 5)) frame.rs)
      → AreFramesChecked t pages bands start base point undone text frames end (or_else unknown code)
  frames_go_on code end is inside found =
      let e : first_outside pages bands (start + at) (frame.rs ∷ frame.more) ≡ first_outside pages bands (start + at + 1 + length (text_of (spelled_all frame.rs))) frame.more
      = ap (λ b. cond b (first_outside pages bands (start + at + 1 + length (text_of (spelled_all frame.rs))) frame.more) (Some (start + at))) inside in
      let place : start + at + 1 + length (text_of (spelled_all frame.rs)) ≡ start + end = behind (start + at) frame.rs ∙ omega (arith, is) in
      let first : base + at + 5 ≡ base + (at + 5) = omega arith in
      let last : base + at + 1 + length (text_of (spelled_all frame.rs)) ≡ base + end = behind (base + at) frame.rs ∙ omega (arith, is) in
      let both = first_unknown-append t point undone (numbered_from (base + at + 5) frame.rs) (numbered_in (base + at + 1 + length (text_of (spelled_all frame.rs))) frame.more) in
      record {
        rest = frame.more;
        left = subst (λ n. FramesLeft text n frame.more) (sym is) frame.left;
        there = h.there ∙ (ap (first_outside pages bands (start + at)) frame.is ∙ (e ∙ ap (λ n. first_outside pages bands n frame.more) place));
        codes = h.codes ∙ (ap (λ (l : List (List Record)). or_else unknown (first_unknown t point undone (numbered_in (base + at) l))) frame.is
            ∙ (ap (or_else unknown) both
            ∙ (ap (λ n. or_else unknown (or_else (first_unknown t point undone (numbered_from n frame.rs)) (first_unknown t point undone (numbered_in (base + at + 1 + length (text_of (spelled_all frame.rs))) frame.more)))) first
            ∙ (ap (λ n. or_else unknown (or_else (first_unknown t point undone (numbered_from (base + (at + 5)) frame.rs)) (first_unknown t point undone (numbered_in n frame.more)))) last
            ∙ (ap (λ (o : Option ℕ). or_else unknown (or_else o (first_unknown t point undone (numbered_in (base + end) frame.more)))) (sym found)
            ∙ or_else_assoc unknown code _)))));
      }

pub frames_end : {t : Table} {pages bands start base point : ℕ} {undone : Undone} {text : List ℕ} {frames : List (List Record)} {at : ℕ} {unknown : Option ℕ} → (h : AreFramesChecked t pages bands start base point undone text frames at unknown) → length text ≤ at
    → (first_outside pages bands start frames ≡ None) × (unknown ≡ first_unknown t point undone (numbered_in base frames))
frames_end {t = t} {pages = pages} {bands = bands} {start = start} {base = base} {point = point} {undone = undone} {text = text} {at = at} {unknown = unknown} h end =
    let none = no_frames_left text at h.rest h.left end in
    (h.there ∙ ap (first_outside pages bands (start + at)) none, sym (h.codes ∙ (ap (λ (l : List (List Record)). or_else unknown (first_unknown t point undone (numbered_in (base + at) l))) none ∙ or_else_none unknown)))

-- a record lies in the bytes where it was read
pub lies : (bytes : List ℕ) (at size : ℕ) (r : Record) → at < length bytes → take size (drop at bytes) ≡ spelled r → size ≡ length (spelled r) → at + size ≤ length bytes
lies bytes at size r lt text long = omega (arith, ap length text, length-take size (drop at bytes), length-drop at bytes, long)

-- THE PLACES SO FAR, of the records of a body
pub record AreBodyPlaced (pages bands base point lsn : ℕ) (bytes : List ℕ) (rs : List Record) (before now : List Place) (at : ℕ) : Type 0 where
  pub rest : List Record
  pub left : AreLeft bytes at rest
  pub there : all_there pages bands rs ≡ true → all_there pages bands rest ≡ true
  pub places : before ++ places_in pages base point (numbered_from lsn rs) ≡ now ++ places_in pages base point (numbered_from (lsn + at) rest)

pub body_placed_none : (pages bands base point lsn : ℕ) (bytes : List ℕ) (rs : List Record) (before : List Place) → AreRecords rs → spelled_all rs ≡ bytes → AreBodyPlaced pages bands base point lsn bytes rs before before 0
body_placed_none pages bands base point lsn bytes rs before fields text = record {
  rest = rs;
  left = record { fields = fields; text = text };
  there = λ h. h;
  places = ap (λ n. before ++ places_in pages base point (numbered_from n rs)) (zero lsn);
}
  where
    zero : (n : ℕ) → n ≡ n + 0
    zero n = omega arith

right_true : (a b : Bool) → (a && b) ≡ true → b ≡ true
right_true true b x = x
right_true false b x = absurd (cc)

left_true : (a b : Bool) → (a && b) ≡ true → a ≡ true
left_true true b x = refl
left_true false b x = absurd (cc)

module _ (pages bands base point lsn : ℕ) (bytes : List ℕ) (rs : List Record) (before now : List Place) (at : ℕ) (h : AreBodyPlaced pages bands base point lsn bytes rs before now at)
    (size : ℕ) (r : Record) (lt : at < length bytes) (fields : IsRecord r) (text : take size (drop at bytes) ≡ spelled r) where
  placed_next : IsFirst bytes at r h.rest
  placed_next = first_left bytes at size r h.rest h.left lt fields text

  pub placed_there : all_there pages bands rs ≡ true → is_there pages bands (changed_by r.says) ≡ true
  placed_there all = left_true (is_there pages bands (changed_by r.says)) (all_there pages bands placed_next.more) (sym (ap (all_there pages bands) placed_next.is) ∙ h.there all)

  pub body_placed_more : (later : List Place) → later ≡ now ++ place_in pages base point (record { lsn = lsn + at; is = r }) → size ≡ length (spelled r) → AreBodyPlaced pages bands base point lsn bytes rs before later (at + size)
  body_placed_more later is long =
      let ends : at + length (spelled r) ≡ at + size = ap (λ n. at + n) (sym long) in
      let place : lsn + at + length (spelled r) ≡ lsn + (at + size) = omega (arith, long) in
      record {
        rest = placed_next.more;
        left = subst (λ n. AreLeft bytes n placed_next.more) ends placed_next.left;
        there = λ all. right_true (is_there pages bands (changed_by r.says)) (all_there pages bands placed_next.more) (sym (ap (all_there pages bands) placed_next.is) ∙ h.there all);
        places = h.places ∙ (ap (λ (l : List Record). now ++ places_in pages base point (numbered_from (lsn + at) l)) placed_next.is
            ∙ (sym (places_assoc now (place_in pages base point (record { lsn = lsn + at; is = r })) (places_in pages base point (numbered_from (lsn + at + length (spelled r)) placed_next.more)))
            ∙ (ap (λ (l : List Place). l ++ places_in pages base point (numbered_from (lsn + at + length (spelled r)) placed_next.more)) (sym is)
            ∙ ap (λ n. later ++ places_in pages base point (numbered_from n placed_next.more)) place)));
      }

pub body_placed : {pages bands base point lsn : ℕ} {bytes : List ℕ} {rs : List Record} {before now : List Place} {at : ℕ} → (h : AreBodyPlaced pages bands base point lsn bytes rs before now at) → length bytes ≤ at → now ≡ before ++ places_in pages base point (numbered_from lsn rs)
body_placed {pages = pages} {base = base} {point = point} {lsn = lsn} {bytes = bytes} {now = now} {at = at} h end =
    sym (h.places ∙ (ap (λ (l : List Record). now ++ places_in pages base point (numbered_from (lsn + at) l)) (none_left bytes at h.rest h.left end) ∙ places_none now))

-- and of the frames of a text
pub record AreFramesPlaced (pages bands base point : ℕ) (text : List ℕ) (frames : List (List Record)) (now : List Place) (at : ℕ) : Type 0 where
  pub rest : List (List Record)
  pub left : FramesLeft text at rest
  pub there : first_outside pages bands 0 frames ≡ None → first_outside pages bands at rest ≡ None
  pub places : places_in pages base point (numbered_in base frames) ≡ now ++ places_in pages base point (numbered_in (base + at) rest)

pub frames_placed_none : (pages bands base point : ℕ) (text : List ℕ) (frames : List (List Record)) → IsText frames text → AreFramesPlaced pages bands base point text frames [] 0
frames_placed_none pages bands base point text frames is = record {
  rest = frames;
  left = all_left frames text is;
  there = λ h. h;
  places = ap (λ n. places_in pages base point (numbered_in n frames)) (zero base);
}
  where
    zero : (n : ℕ) → n ≡ n + 0
    zero n = omega arith

none_outside : (b : Bool) (o : Option ℕ) (at : ℕ) → cond b o (Some at) ≡ None → (b ≡ true) × (o ≡ None)
none_outside true o at h = (refl, h)
none_outside false o at h = absurd (cc)

module _ (pages bands base point : ℕ) (text : List ℕ) (frames : List (List Record)) (now : List Place) (at : ℕ) (h : AreFramesPlaced pages bands base point text frames now at) (lt : at < length text) where
  pub placed_frame : IsFirstFrame text at h.rest
  placed_frame = first_frame text at h.rest h.left lt

  both_there : first_outside pages bands 0 frames ≡ None → (all_there pages bands placed_frame.rs ≡ true) × (first_outside pages bands (at + 1 + length (text_of (spelled_all placed_frame.rs))) placed_frame.more ≡ None)
  both_there none = none_outside (all_there pages bands placed_frame.rs) (first_outside pages bands (at + 1 + length (text_of (spelled_all placed_frame.rs))) placed_frame.more) at (sym (ap (first_outside pages bands at) placed_frame.is) ∙ h.there none)

  pub frame_there : first_outside pages bands 0 frames ≡ None → all_there pages bands placed_frame.rs ≡ true
  frame_there none = (both_there none).0

  pub frames_placed_more : (later : List Place) (end : ℕ) → end ≡ at + 5 + length (spelled_all placed_frame.rs) → later ≡ now ++ places_in pages base point (numbered_from (base + (at + 5)) placed_frame.rs) → AreFramesPlaced pages bands base point text frames later end
  frames_placed_more later end is found =
      let rs = placed_frame.rs in
      let place : at + 1 + length (text_of (spelled_all rs)) ≡ end = behind at rs ∙ sym is in
      let first : base + at + 5 ≡ base + (at + 5) = omega arith in
      let last : base + at + 1 + length (text_of (spelled_all rs)) ≡ base + end = behind (base + at) rs ∙ omega (arith, is) in
      let both = places_in-append pages base point (numbered_from (base + at + 5) rs) (numbered_in (base + at + 1 + length (text_of (spelled_all rs))) placed_frame.more) in
      record {
        rest = placed_frame.more;
        left = subst (λ n. FramesLeft text n placed_frame.more) (sym is) placed_frame.left;
        there = λ none. subst (λ n. first_outside pages bands n placed_frame.more ≡ None) place (both_there none).1;
        places = h.places ∙ (ap (λ (l : List (List Record)). now ++ places_in pages base point (numbered_in (base + at) l)) placed_frame.is
            ∙ (ap (λ (l : List Place). now ++ l) both
            ∙ (ap (λ n. now ++ (places_in pages base point (numbered_from n rs) ++ places_in pages base point (numbered_in (base + at + 1 + length (text_of (spelled_all rs))) placed_frame.more))) first
            ∙ (ap (λ n. now ++ (places_in pages base point (numbered_from (base + (at + 5)) rs) ++ places_in pages base point (numbered_in n placed_frame.more))) last
            ∙ (sym (places_assoc now (places_in pages base point (numbered_from (base + (at + 5)) rs)) (places_in pages base point (numbered_in (base + end) placed_frame.more)))
            ∙ ap (λ (l : List Place). l ++ places_in pages base point (numbered_in (base + end) placed_frame.more)) (sym found))))));
      }

pub frames_placed : {pages bands base point : ℕ} {text : List ℕ} {frames : List (List Record)} {now : List Place} {at : ℕ} → (h : AreFramesPlaced pages bands base point text frames now at) → length text ≤ at → now ≡ places_in pages base point (numbered_in base frames)
frames_placed {pages = pages} {base = base} {point = point} {text = text} {now = now} {at = at} h end =
    sym (h.places ∙ (ap (λ (l : List (List Record)). now ++ places_in pages base point (numbered_in (base + at) l)) (no_frames_left text at h.rest h.left end) ∙ places_none now))

-- WHAT STANDS AT A FRAME: a gate that is open, the length of its body, and the body
pub record StandsAt (text : List ℕ) (at size : ℕ) : Type 0 where
  pub some : 0 < size
  pub long : at + 5 + size ≤ length text
  pub gate : get_or text at 0 ≡ 1
  pub stated : little_number 4 (drop (at + 1) text) ≡ size

pub stands_at : (text : List ℕ) (at : ℕ) (rs : List Record) (rest : List ℕ) → at < length text → IsFrame rs → drop at text ≡ framed rs ++ rest → StandsAt text at (length (spelled_all rs))
stands_at text at rs rest lt frame is =
    let size = length (spelled_all rs) in
    let behind : drop (at + 1) text ≡ little_bytes 4 size ++ (spelled_all rs ++ rest) = sym (drop-drop 1 at text) ∙ (ap (drop 1) is ∙ assoc (little_bytes 4 size) (spelled_all rs) rest) in
    record {
      some = records_some rs frame.some;
      long = omega (arith, ap length is, length-drop at text, length-append (framed rs) rest, framed-length rs);
      gate = (ap (λ n. get_or text n 0) (add_none at) ∙ sym (get_or-drop at text 0 0)) ∙ ap (λ (xs : List ℕ). get_or xs 0 0) is;
      stated = ap (little_number 4) behind ∙ little_number-reads_back 4 size (spelled_all rs ++ rest) (omega (arith, frame.most));
    }
  where
    assoc : (xs ys zs : List ℕ) → (xs ++ ys) ++ zs ≡ xs ++ (ys ++ zs)
    assoc [] ys zs = refl
    assoc (x ∷ xs) ys zs = ap (λ l. x ∷ l) (assoc xs ys zs)

    add_none : (n : ℕ) → n ≡ n + 0
    add_none n = omega arith

    records_some : (rs : List Record) → (rs ≡ [] → ⊥) → 0 < length (spelled_all rs)
    records_some [] some = absurd (some refl)
    records_some (r ∷ rs) some = omega (arith, length-append (spelled r) (spelled_all rs), spelled-long r)

-- the body as it is cut out of the text
pub body_cut : (text : List ℕ) (at : ℕ) (rest : List (List Record)) (f : IsFirstFrame text at rest) (size : ℕ) → size ≡ length (spelled_all f.rs) → spelled_all f.rs ≡ take (at + 5 + size - (at + 5)) (drop (at + 5) text)
body_cut text at rest f size is =
    let n : at + 5 + size - (at + 5) ≡ length (spelled_all f.rs) = omega (arith, is) in
    sym (ap (λ m. take m (drop (at + 5) text)) n ∙ f.body)
