-- An image that stands is opened again, and its records make what they made before.
use Rattle.std.proofs.Common.{◌≡◌, inl, inr, ⊎_elim, ◌<◌, ℕ, true, Option, Some, None, List, [], ◌∷◌, ◌++◌, refl, sym, ◌∙◌, ap, subst, arith, append_assoc, add-zero}
use Rattle.std.proofs.lemmas.Bool.Decides.{nat_tests}
use Rattle.sg_base.specs.declared.page.TheConstants.{BAND_SIZE}
use Rattle.sg_disk.specs.Disk.{Bytes, Image}
use Rattle.sg_ops.specs.Table.{Table}
use Rattle.sg_record.specs.Changes.{Change}
use Rattle.sg_record.specs.Changes.Change.{Page, SegWrite, SegOp}
use Rattle.sg_redo.specs.History.{OnPage, OnByte, number_of, repeated, rewritten}
use Rattle.sg_redo.specs.Places.{changed_by}
use Rattle.sg_log.specs.Frames.{Numbered, HasRecords, gate_after}
use Rattle.sg_log.proofs.Holding.{gate_moved}
use Rattle.sg_pool.specs.Units.{Geometry}
use Rattle.sg_places.specs.Asked.{is_there}
use Rattle.sg_engine.specs.Numbers.{AllUnder, Rises}
use Rattle.sg_engine.specs.History.{Entry, Homes, entry_number, byte_number, page_change, byte_change, of_page, of_byte, made, AreSame, RepeatsTo, IsSound, IsHistory, IsThere, AllThere}
use Rattle.sg_engine.specs.Effects.{IsBy, effect_of}
use Rattle.sg_engine.specs.Engine.{Origin, entry_of, entries, geometry, IsStanding}
use Rattle.sg_engine.proofs.Bytes.{byte_repeats, covered_or, uncovered_all}
use Rattle.sg_engine.proofs.Logs.{entries_append}
use Rattle.sg_engine.proofs.May.{in_under}
use Rattle.sg_engine.proofs.Pages.{from_there}
use Rattle.sg_engine.proofs.Steps.{repeated_append, rewritten_append}
use Rattle.sg_engine.proofs.Units.{page_one, byte_one, rises_parts, append_parts}
use Rattle.sg_opening.specs.Opening.{IsOpenable, AreThere}
use Rattle.sg_disk.specs.Disk.{View}
use Rattle.sg_log.specs.Held.{Tail}
use Rattle.sg_pool.specs.declared.pool.Pool.{Pool}
use Rattle.sg_pool.specs.Pooled.{contents}
use Rattle.sg_engine.specs.Running.{IsEngine}
use Rattle.sg_reopen.specs.Again.{at_home, image_home, origin_at, MakesSame}

-- the first home area has no part in what a record does
pub entries_home : (o : Origin) (f : Homes) (ns : List Numbered) → entries (at_home o f) ns ≡ entries o ns
entries_home o f [] = refl
entries_home o f (n ∷ ns) = ap (λ (l : List Entry). entry_of o n ∷ l) (entries_home o f ns)

-- a record of a page or a band of the store says so
there_said : (t : Table) (g : Geometry) (lsn : ℕ) (c : Option Change) → IsThere g (effect_of t lsn c) → is_there g.pages g.bands c ≡ true
there_said t g lsn None there = refl
there_said t g lsn (Some (Page c)) there = let lt : c.page < g.pages = there in grind (arith, nat_tests)
there_said t g lsn (Some (SegWrite c)) there = let lt : c.band < g.bands = there in grind (arith, nat_tests)
there_said t g lsn (Some (SegOp c)) there = let lt : c.band < g.bands = there in grind (arith, nat_tests)

pub all_said : (t : Table) (o : Origin) (ns : List Numbered) → IsBy t o → AllThere (geometry o.super) (entries o ns) → AreThere o.super.pages o.super.bands ns
all_said t o [] is there = tt
all_said t o (n ∷ ns) is there = (there_said t (geometry o.super) n.lsn (changed_by n.is.says) (subst (IsThere (geometry o.super)) (is.says n.lsn n.is) there.0), all_said t o ns is there.1)

-- the records of an area are below its closed gate
pub records_under : (o : Origin) (f : Bytes) (base tail : ℕ) (ns : List Numbered) → HasRecords f base tail ns → AllUnder entry_number tail (entries o ns)
records_under o f base tail ns held =
    subst (λ (d : ℕ). AllUnder entry_number d (entries o ns)) at_end (subst (λ (l : List Numbered). AllUnder entry_number (gate_after base held.frames) (entries o l)) held.all (in_under o base held.frames))
  where
    at_end : gate_after base held.frames ≡ tail
    at_end = ap (λ (n : ℕ). gate_after n held.frames) (sym (add-zero base)) ∙ gate_moved base 0 held.frames ∙ sym held.at_gate

-- THE JOINT: AN IMAGE THAT STANDS CAN BE OPENED, with the records of its log, from the redo point from which it stands
pub image_opens : (t : Table) (o : Origin) (ds all : List Numbered) (r : ℕ) (c : Image) → IsBy t o → (s : IsStanding o ds all r c) → IsOpenable (origin_at o c) r s.tail s.records c
image_opens t o ds all r c is s =
    let same = sym (entries_home o (image_home o c) s.records) in
    let h : IsHistory (geometry o.super) (image_home o c) (entries (origin_at o c) s.records) = subst (λ (l : List Entry). IsHistory (geometry o.super) (image_home o c) l) same s.history in
    record {
      super = s.super;
      held = s.held;
      header = s.header;
      there = all_said t o s.records is s.history.there;
      first = refl;
      sound = subst (λ (l : List Entry). IsSound (geometry o.super) r s.tail l (image_home o c)) same s.sound;
      rises = h.rises;
      ends = records_under (origin_at o c) _ o.super.base s.tail s.records s.held;
      sets = h.sets;
      well = h.well;
      within = h.there;
    }

-- WHAT THE RECORDS OF AN IMAGE MAKE of its own home area is what they make of the first one
pub image_makes : (o : Origin) (ds all : List Numbered) (r : ℕ) (c : Image) → (s : IsStanding o ds all r c) → MakesSame o s.records (image_home o c)
image_makes o ds all r c s = record {
  pages = λ n lt. sym (from_there r (of_page n (entries o s.records)) ((image_home o c).page n) (s.history.sets n lt) (s.history.fits n lt) (s.sound.is_in n lt)) ∙ s.repeats.pages n lt;
  bytes = λ b i is_band is_byte.
      let ws = of_byte b i (entries o s.records) in
      let x = (image_home o c).byte b i in
      let rises : Rises byte_number 1 (of_byte b i (entries o s.records)) = rises_parts byte_number (λ e. byte_change b i e.lsn e.effect) (λ e. byte_one b i e.lsn e.effect) 1 (entries o s.records) s.history.rises in
      sym (byte_repeats r r 1 ws x x rises (omega arith)
      (⊎_elim
      (λ covered. inr covered)
      (λ bare. inl (sym (ap (λ (l : List OnByte). rewritten l x) (uncovered_all r r ws (omega arith) bare) ∙ s.sound.last b i is_band is_byte bare)))
      (covered_or r ws))) ∙ s.repeats.bytes b i is_band is_byte;
}

-- and with more records it stays so
pub makes_more : (o : Origin) (rs more : List Numbered) (f : Homes) → MakesSame o rs f → MakesSame o (rs ++ more) f
makes_more o rs more f same = record {
  pages = λ n lt. page_split n f ∙ (ap (repeated (of_page n (entries o more))) (same.pages n lt) ∙ sym (page_split n o.first));
  bytes = λ b i is_band is_byte. byte_split b i f ∙ (ap (rewritten (of_byte b i (entries o more))) (same.bytes b i is_band is_byte) ∙ sym (byte_split b i o.first));
}
  where
    page_split : (n : ℕ) (h : Homes) → repeated (of_page n (entries o (rs ++ more))) (h.page n) ≡ repeated (of_page n (entries o more)) (repeated (of_page n (entries o rs)) (h.page n))
    page_split n h = ap (λ (l : List OnPage). repeated l (h.page n)) (ap (of_page n) (entries_append o rs more) ∙ append_parts number_of (λ e. page_change n e.lsn e.effect) (λ e. page_one n e.lsn e.effect) (entries o rs) (entries o more))
        ∙ repeated_append (of_page n (entries o rs)) (of_page n (entries o more)) (h.page n)

    byte_split : (b i : ℕ) (h : Homes) → rewritten (of_byte b i (entries o (rs ++ more))) (h.byte b i) ≡ rewritten (of_byte b i (entries o more)) (rewritten (of_byte b i (entries o rs)) (h.byte b i))
    byte_split b i h = ap (λ (l : List OnByte). rewritten l (h.byte b i)) (ap (of_byte b i) (entries_append o rs more) ∙ append_parts byte_number (λ e. byte_change b i e.lsn e.effect) (λ e. byte_one b i e.lsn e.effect) (entries o rs) (entries o more))
        ∙ rewritten_append (of_byte b i (entries o rs)) (of_byte b i (entries o more)) (h.byte b i)

pub same_then : {g : Geometry} {h k l : Homes} → AreSame g h k → AreSame g k l → AreSame g h l
same_then a b = record { pages = λ n lt. a.pages n lt ∙ b.pages n lt; bytes = λ b' i is_band is_byte. a.bytes b' i is_band is_byte ∙ b.bytes b' i is_band is_byte }

pub same_start : (o : Origin) (rs : List Numbered) → MakesSame o rs o.first
same_start o rs = record { pages = λ n lt. refl; bytes = λ b i is_band is_byte. refl }

-- what a store with another first home area makes, as the store first was
made_home : (o : Origin) (f h : Homes) (ns : List Numbered) → AreSame (geometry o.super) h (made (entries (at_home o f) ns) f) → MakesSame o ns f → AreSame (geometry o.super) h (made (entries o ns) o.first)
made_home o f h ns a same = same_then (subst (λ (l : List Entry). AreSame (geometry o.super) h (made l f)) (entries_home o f ns) a) same

-- AN IMAGE OF A LATER LIFE STANDS for the store as it was first
unfoldable pub stands_first : (o : Origin) (rs since ds all : List Numbered) (f : Homes) (r : ℕ) (c : Image) → MakesSame o rs f → ds ≡ rs ++ since → (s : IsStanding (at_home o f) ds all r c) → IsStanding o ds all r c
stands_first o rs since ds all f r c same begins s =
    let is = entries_home o f s.records in
    let all_records : s.records ≡ rs ++ (since ++ s.since) = s.later ∙ (ap (λ (l : List Numbered). l ++ s.since) begins ∙ append_assoc rs since s.since) in
    let now : MakesSame o s.records f = subst (λ (l : List Numbered). MakesSame o l f) (sym all_records) (makes_more o rs (since ++ s.since) f same) in
    record {
      super = s.super;
      records = s.records;
      tail = s.tail;
      held = s.held;
      since = s.since;
      later = s.later;
      more = s.more;
      front = s.front;
      header = s.header;
      sound = subst (λ (l : List Entry). IsSound (geometry o.super) r s.tail l (image_home o c)) is s.sound;
      repeats = same_then (subst (λ (l : List Entry). RepeatsTo (geometry o.super) r l f (image_home o c)) is s.repeats) now;
      history = subst (λ (l : List Entry). IsHistory (geometry o.super) (image_home o c) l) is s.history;
    }

-- AND ITS RECORDS MAKE of the image's home area what they make of the first one of all
pub makes_again : (o : Origin) (rs since ds all : List Numbered) (f : Homes) (r : ℕ) (c : Image) → MakesSame o rs f → ds ≡ rs ++ since → (s : IsStanding (at_home o f) ds all r c) → MakesSame o s.records (image_home o c)
unfolding stands_first
makes_again o rs since ds all f r c same begins s = image_makes o ds all r c (stands_first o rs since ds all f r c same begins s)

-- THE PAGES AND BANDS of an engine that runs again are what all records make of the first home area of all
module _ (o : Origin) (rs since ds ps : List Numbered) (f : Homes) (v : View) (log : Tail) (pool : Pool) where
  all_make : MakesSame o rs f → ds ≡ rs ++ since → MakesSame o (ds ++ ps) f
  all_make same begins = subst (λ (l : List Numbered). MakesSame o (l ++ ps) f) (sym begins) (makes_more o (rs ++ since) ps f (makes_more o rs since f same))

module _ (o : Origin) (rs since ds ps : List Numbered) (f : Homes) (v : View) (log : Tail) (pool : Pool) where
  pub page_of_all : (n : ℕ) → MakesSame o rs f → ds ≡ rs ++ since → IsEngine (at_home o f) v log ds ps pool → n < o.super.pages → (contents v pool).page n ≡ (made (entries o (ds ++ ps)) o.first).page n
  page_of_all n same begins e lt = subst (λ (l : List Entry). (contents v pool).page n ≡ (made l f).page n) (entries_home o f (ds ++ ps)) (e.engine.joined.page n lt) ∙ (all_make o rs since ds ps f v log pool same begins).pages n lt

  pub byte_of_all : (b i : ℕ) → MakesSame o rs f → ds ≡ rs ++ since → IsEngine (at_home o f) v log ds ps pool → b < o.super.bands → i < BAND_SIZE → (contents v pool).byte b i ≡ (made (entries o (ds ++ ps)) o.first).byte b i
  byte_of_all b i same begins e is_band is_byte = subst (λ (l : List Entry). (contents v pool).byte b i ≡ (made l f).byte b i) (entries_home o f (ds ++ ps)) (e.engine.joined.byte b i is_band is_byte) ∙ (all_make o rs since ds ps f v log pool same begins).bytes b i is_band is_byte
