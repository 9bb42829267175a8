-- An empty store reads as no objects.
use Rattle.std.proofs.Common.{◌≡◌, ℕ, zero, suc, ◌+◌, ◌*◌, ◌<◌, ◌≤◌, ◌==◌, nat_lt, Bool, true, false, cond, List, [], ◌∷◌, length, map, replicate, Option, Some, None, slice_get, refl, sym, ap, subst, ◌∙◌, arith, inl, inr}
use Rattle.std.specs.Prelude.{option_map, OnOk}
use Rattle.std.specs.FinMap.{empty, entries, from_entries, len-entries, len-empty}
use Rattle.std.proofs.lemmas.List.{nil_from_length, get_or-replicate, get_or_past}
use Rattle.std.proofs.lemmas.Bool.{cases_lt}
use Rattle.std.proofs.lemmas.Bool.Decides.{nat_tests}
use Rattle.sg_base.specs.Page.{cell_in}
use Rattle.sg_base.specs.Sheet.{sheet_of}
use Rattle.sg_base.proofs.Testing.{slotted_passes}
use Rattle.sg_catalog.specs.Catalog.{Catalog, IsRaw, IsPage, IsCatalog, row_at}
use Rattle.sg_catalog.specs.Row.{row_cell}
use Rattle.sg_catalog.specs.declared.row.Row.{Row}
use Rattle.sg_contents.specs.Standing.{Contents, IsReachedPage}
use Rattle.sg_contents.specs.Standing.Body.{ABlob}
use Rattle.sg_contents.specs.Meaning.{reading}
use Rattle.sg_disk.specs.Disk.{Image}
use Rattle.sg_gate.specs.declared.superblock.Super.{Super}
use Rattle.sg_ops.specs.Table.{Table}
use Rattle.sg_action.specs.States.{State}
use Rattle.sg_model.specs.Objects.{Objects}
use Rattle.sg_phys_laws.specs.Recovers.{RecoversBy, cut_at, super_of}
use Rattle.sg_phys_laws.specs.States.{state_of}
use Rattle.sg_reading.specs.Reading.{Reading, objects, plain_entry}
use Rattle.sg_reader.specs.Alike.{ReadsAs}
use Rattle.sg_reader.proofs.Decide.{reader}
use Rattle.sg_redo.specs.Leaf.{leaf_of}
use Rattle.sg_reopen.specs.Making.{IsEmptyCatalogue, empty_home}
use Rattle.sg_space.specs.Units.{HasAt}
use Rattle.std.proofs.Common.{◌++◌, ◌^◌, slice_index, lit≤, lit<, Result, Ok, Err}
use Rattle.std.specs.Ordering.{nat_cmp}
use Rattle.std.specs.Cmp.Lexicographic.{slice_cmp}
use Rattle.sg_base.specs.Page.{Header}
use Rattle.sg_base.specs.Slotted.{is_slotted}
use Rattle.sg_reading.specs.Reading.{Thing}
use Rattle.sg_recovery.specs.Stands.{and_then, all_undone}
use Rattle.sg_store.specs.Ground.{setting}
use Rattle.sg_store.specs.Stands.{StandsFor}
use Rattle.sg_base.specs.declared.area.Area.TheVariants.{Home}
use Rattle.sg_disk.specs.Disk.{Bytes}
use Rattle.sg_gate.specs.Superblock.{MAGIC, IsSuper, counting, field, fields, first_out, read_in, read_with, said, start_of, superblock, text_at, wrong_in}
use Rattle.sg_gate.specs.declared.slot.Slot.{Slot}
use Rattle.sg_gate.proofs.Fields.{in_range}
use Rattle.sg_actions.specs.Steps.{Steps, repeated}
use Rattle.sg_attach.specs.Attached.{IsStoreImage}
use Rattle.sg_mount.specs.Making.{ground_at, IsNewStore}

-- a catalogue without a row, on one page, and what stands nowhere
abbrev pub no_rows : Catalog
no_rows = record { places = replicate 79 None; peak = 0; pages = 0 ∷ [] }

abbrev pub nothing : Contents
nothing = record { catalog = no_rows; body = λ root. ABlob (record { bytes = []; peak = 0; bands = [] }) }

-- no object has a name
pub no_objects : objects (reading nothing) ≡ empty
unfolding objects reading
no_objects =
    let list : List (List ℕ × Thing) = entries (from_entries []) in
    let none : list ≡ [] = nil_from_length list (sym (len-entries (from_entries [])) ∙ len-empty (slice_cmp nat_cmp) Thing) in
    ap (λ (es : List (List ℕ × Thing)). let m : Objects = from_entries (map plain_entry es) in m) none

here : {A : Type 0} (b : Bool) (x y : A) → b ≡ true → cond b x y ≡ x
here true x y is = refl
here false x y is = absurd cc

lt_true : (a b : ℕ) → a < b → nat_lt a b ≡ true
lt_true a b lt = grind (arith, nat_tests)

-- no place has a row
no_row : (i : ℕ) → row_at no_rows.places i ≡ None
no_row i = elim (cases_lt i 79) [
  | inl lt ↦ get_or-replicate 79 i None None lt
  | inr ge ↦ get_or_past no_rows.places i None ge
]

none_wanted : (n : ℕ) → 0 ≤ n
none_wanted n = omega arith

-- the first page is the only one
one_page : (j p : ℕ) → slice_get (0 ∷ []) j ≡ Some p → (j ≡ 0) × (p ≡ 0)
one_page zero p e = (refl, (let q : p ≡ 0 = cc in q))
one_page (suc j) p e = absurd cc

module _ (s : Super) (page : List ℕ) (cat : IsEmptyCatalogue page) (some : 64 ≤ s.pages) where
  abbrev pub x : State
  x = cut_at s (state_of (empty_home page))

  sheet : x.pages 0 ≡ Some (sheet_of page)
  sheet = here (nat_lt 0 s.pages) (leaf_of page) None (lt_true 0 s.pages (omega arith)) ∙ here (is_slotted page) (Some (sheet_of page)) None (slotted_passes page cat.slotted)

  is_page : IsPage 0 no_rows.places 0 (sheet_of page)
  is_page = record {
    kind = ap (λ (h : Header). h.kind) cat.header;
    link = ap (λ (h : Header). h.links.0) cat.header;
    few = subst (λ (l : List (Option (List ℕ))). length l ≤ 79) (sym cat.slots) (lit≤ tt);
    cells = λ k below. ap (λ (l : List (Option (List ℕ))). cell_in l k) cat.slots ∙ (refl ∙ sym (ap (option_map row_cell) (no_row (79 * 0 + k))));
  }

  raw : IsRaw x.pages no_rows
  raw = record {
    first = refl;
    page = λ j p e. (let o = one_page j p e in
        subst (λ (i : ℕ). HasAt x.pages p (IsPage (slice_index no_rows.pages (i + 1)) no_rows.places i)) (sym o.0)
        (subst (λ (n : ℕ). HasAt x.pages n (IsPage 0 no_rows.places 0)) (sym o.1) (record { what = sheet_of page; is = sheet; has = is_page })));
    says_peak = record { what = sheet_of page; is = sheet; has = record { says = ap (λ (h : Header). h.links.1) cat.header } };
    fit = λ j p e. (let o = one_page j p e in subst (λ (n : ℕ). n < 2 ^ 32) (sym o.1) (lit< tt));
    apart = λ i j p e f. (one_page i p e).0 ∙ sym (one_page j p f).0;
    long = refl;
    formed = λ i row e. absurd (let no : ◌≡◌ {A = Option Row} None (Some row) = sym (no_row i) ∙ e in cc);
  }

  catalog : IsCatalog x.pages no_rows
  catalog = record { raw = raw; once = λ name. lit≤ tt; below_peak = lit≤ tt; exactly = refl }

  pub reads : ReadsAs s.pages s.bands x nothing
  reads = record {
    contents = record {
      catalog = catalog;
      body = λ row a. absurd a;
      once = λ root. lit≤ tt;
      beside = λ row a. absurd a;
      apart = λ row other a. absurd a;
      bands_apart = λ row other a. absurd a;
      behind_map = λ row a. absurd a;
      map = λ b lt none. absurd (let no : ◌≡◌ {A = Option (List ℕ)} (Some (x.bands b)) None = none in cc);
    };
    range = record { page = λ p o. in_range p o; band = λ b o. absurd o.among };
  }
    where
      in_range : (p : ℕ) → IsReachedPage nothing p → p < s.pages
      in_range p (inl o) = (let h = one_page o.0 p o.1 in let z = h.1 in omega (arith, z))
      in_range p (inr o) = absurd o.among

  -- THE IMAGE stands for no objects
  pub stands : (t : Table) (c : Image) → RecoversBy t c [] x → StandsFor t (ground_at s) c empty
  stands t c r =
      let f = (reader s.pages s.bands).finds x nothing reads in
      record {
        log = [];
        pages = x;
        recovers = record { image = r; size = refl };
        reading = reading nothing;
        stands = ap (λ (o : Option Contents). and_then (option_map reading o) (all_undone (setting t (ground_at s)) [])) f.1 ∙ ap (λ (o : Reading). Some o) f.2;
        objects = no_objects;
        free = λ o e. none_wanted ((setting t (ground_at s)).free o);
      }

-- A SUPERBLOCK that was read is in its range
fits_first : (at : ℕ) (fits : Bool) (rest : List (ℕ × Bool)) → first_out ((at, fits) ∷ rest) ≡ None → first_out rest ≡ None
fits_first at true rest none = none
fits_first at false rest none = absurd cc

said_fits : (text : List ℕ) → wrong_in text ≡ None → IsSuper (said text)
unfolding wrong_in
said_fits text none = fits_first 9 (field text 9 2 == 1) (fields (said text)) (fits_first 1 (field text 1 8 == MAGIC) ((9, field text 9 2 == 1) ∷ fields (said text)) none)

read_fits : (at : ℕ) (text : List ℕ) (s : Super) (w : Option ℕ) → wrong_in text ≡ w → read_with at text w ≡ Ok s → IsSuper s
read_fits at text s None none e = subst IsSuper (let same : said text ≡ s = cc in same) (said_fits text none)
read_fits at text s (Some wrong) is e = absurd cc

is_super : (f : Bytes) (s : Super) (slot : Option Slot) → read_in f slot ≡ Ok s → IsSuper s
is_super f s None e = absurd cc
is_super f s (Some slot) e = read_fits (start_of slot) (text_at f (start_of slot)) s (wrong_in (text_at f (start_of slot))) refl e

pub some_pages : (s : Super) (c : Image) → superblock (c Home) ≡ Ok s → 1 ≤ s.pages
some_pages s c super = let low : 64 ≤ s.pages = (in_range s (is_super (c Home) s (counting (c Home)) super)).pages.0 in omega (arith, low)

no_front : (front since : Steps) → [] ≡ since ++ front → front ≡ []
no_front [] since e = refl
no_front (r ∷ front) [] e = absurd cc
no_front (r ∷ front) (q ∷ since) e = absurd cc

-- AN IMAGE of a new store
pub new_store : (t : Table) (s : Super) (page : List ℕ) (c : Image) → superblock (c Home) ≡ Ok s → IsEmptyCatalogue page → IsStoreImage t (cut_at s (state_of (empty_home page))) [] [] c → IsNewStore t s c
new_store t s page c super cat i = record {
  super = ap super_of super;
  from = cut_at s (state_of (empty_home page));
  image = i;
  stands = stands s page cat (in_range s (is_super (c Home) s (counting (c Home)) super)).pages.0 t c (subst (λ (l : Steps). RecoversBy t c l (repeated t (cut_at s (state_of (empty_home page))) l)) none i.recovers);
}
  where
    none : i.front ≡ []
    none = no_front i.front i.is_front.within.since i.is_front.within.all

pub on_ok : {T F : Type 0} {P Q : Type 0} (r : Result T F) → (P → Q) → OnOk r P → OnOk r Q
on_ok (Ok y) f h = f h
on_ok (Err e) f h = tt
