-- From a walk to what a state reads as, and what is taken of it.
use Rattle.std.proofs.Common.{◌≡◌, ℕ, zero, suc, ◌+◌, ◌-◌, ◌<◌, ◌≤◌, inl, inr, nat_lt, Bool, true, false, cond, List, [], ◌∷◌, length, Option, Some, None, IsSome, slice_get, refl, sym, ap, subst, ◌∙◌, arith, add-one}
use Rattle.std.proofs.lemmas.Bool.{cases_lt}
use Rattle.std.proofs.lemmas.Bool.Decides.{nat_tests}
use Rattle.std.proofs.lemmas.Option.{slice_get_within}
use Rattle.sg_alloc.specs.Flags.{map_bands_of}
use Rattle.sg_alloc.specs.declared.maps.Maps.{Maps}
use Rattle.sg_actions.specs.Engine.{EngineSeen, led, now_of}
use Rattle.sg_actions.specs.Images.{Recovering}
use Rattle.sg_actions.specs.Steps.{repeated}
use Rattle.sg_ops.specs.Table.{Table}
use Rattle.sg_actions.specs.Taken.{is_set}
use Rattle.sg_array.specs.Array.{Array}
use Rattle.sg_array.specs.Array as array
use Rattle.sg_base.specs.Sheet.{Sheet}
use Rattle.sg_bucket.specs.Bucket.{Bucket}
use Rattle.sg_catalog.specs.Catalog.{Catalog, rows}
use Rattle.sg_hash.specs.Table.{IsInBuckets}
use Rattle.sg_tables.specs.Table.{chains}
use Rattle.sg_reach.specs.Parts.{array_pages}
use Rattle.sg_contents.specs.Standing.Body.{AnArray, ATable, ABlob}
use Rattle.sg_catalog.specs.declared.row.Row.{Row}
use Rattle.sg_base.specs.Ends.{HasRisen}
use Rattle.sg_action.specs.States.{State}
use Rattle.sg_contents.specs.Standing.{Contents, Body, IsContents, IsAmong, IsReachedPage, IsReachedBand, AreInRange, OwnsPage, OwnsBand}
use Rattle.sg_names.specs.Pages.{later_no, later_pages, pages_for, page_no}
use Rattle.sg_names.proofs.Complete.{page_at}
use Rattle.sg_once.proofs.Others.{one_catalog}
use Rattle.sg_once.proofs.Pages.{none_behind, past_length}
use Rattle.sg_reach.proofs.Lists.{in_both, in_front, in_back, nth, nth_back, one_is}
use Rattle.sg_reach.specs.Marks.{AreSet}
use Rattle.sg_reach.proofs.Placing.{set_kept}
use Rattle.sg_reader.specs.Alike.{ReadsAs, HasReached, space_of}
use Rattle.sg_reader.proofs.Once.{one_body}
use Rattle.sg_reader.proofs.Spaces.{contents_move, reached_page, reached_band, space_reads}
use Rattle.sg_space.specs.Owned.{IsOneOf}
use Rattle.sg_space.specs.View.{Space}
use Rattle.sg_space.proofs.Known.{same_some}
use Rattle.sg_unread.specs.Unread.{below, filled, said_of, unread_space, IsReadable, LooksOn}
use Rattle.sg_walk.specs.Bodies.{body_pages, body_bands}
use Rattle.sg_walk.specs.Counts.{IsBegun, IsFresh}
use Rattle.sg_walk.specs.Rows.{Reaches, CanReach, all_pages, all_bands, bodies_of, reached_bands, reached_pages}
use Rattle.sg_walk.proofs.Counting.{counted}
use Rattle.sg_walk.proofs.Holding.{page_in, band_in, joined, pages_joined, bands_joined, contents_are}
use Rattle.sg_walk.proofs.Reaching.{can_reach}
use Rattle.std.specs.Prelude.{Result, Ok, Err, OnOk, IfErr}
use Rattle.sg_reach.specs.Fault.{IfBroken}
use Rattle.sg_reach.specs.declared.fault.ReachFault.{ReachFault}
use Rattle.sg_reach.specs.declared.fault.ReachFault.TheVariants.{Space as InSpace, Broken}
use Rattle.sg_walked.specs.Walked.{AllSay, AreFirst, IsWalked}

-- ONE OF SO MANY

here : {A : Type 0} (b : Bool) (x y : A) → b ≡ true → cond b x y ≡ x
here true x y is = refl
here false x y is = absurd cc

lt_true : (a b : ℕ) → a < b → nat_lt a b ≡ true
lt_true a b lt = grind (arith, nat_tests)

is_below : {A : Type 0} (n count : ℕ) (contents : ℕ → Option A) → n < count → below count contents n ≡ contents n
is_below n count contents lt = here (nat_lt n count) (contents n) None (lt_true n count lt)

-- what is there has a number below, and is what the state says
some_below : {A : Type 0} (n count : ℕ) (contents : ℕ → Option A) → (below count contents n ≡ None → ⊥) → n < count
some_below {A} n count contents there = elim (cases_lt n count) [
  | inl lt ↦ lt
  | inr ge ↦ absurd (there (none (nat_lt n count) (let e : nat_lt n count ≡ false = grind (arith, nat_tests) in e)))
]
  where
    none : (b : Bool) → b ≡ false → cond b (contents n) None ≡ None
    none false e = refl
    none true e = absurd cc

is_some : {A : Type 0} (o : Option A) (x : A) → o ≡ Some x → o ≡ None → ⊥
is_some o x e f = cc

-- what one of some rows has is among what all have
in_rows : (g : Row → List ℕ) (xs : List Row) (row : Row) (k n : ℕ) → IsAmong xs row → slice_get (g row) k ≡ Some n → (m : ℕ) × (slice_get (joined g xs) m ≡ Some n)
in_rows g [] row k n a e = absurd a
in_rows g (x ∷ xs) row k n a e = elim a [
  | inl same ↦ (k, in_front (g x) (joined g xs) k n (ap (λ (y : Row). slice_get (g y) k) (sym same) ∙ e))
  | inr l ↦ let h = in_rows g xs row k n l e in (length (g x) + h.0, in_back (g x) (joined g xs) h.0 n h.1)
]

-- what was set stays set
stays : (old new : List Bool) (ns : List ℕ) → AreSet old new ns → (n : ℕ) → slice_get old n ≡ Some true → slice_get new n ≡ Some true
stays old new ns set n e = set_kept set n e

-- what stands in a list of pages is owned
array_owned : (root : ℕ) (a : Array) (k p : ℕ) → slice_get (array_pages root a) k ≡ Some p → array.Owns root a p
array_owned root a zero p e = inl (sym (same_some root p e))
array_owned root a (suc k) p e = elim (in_both a.index a.leaves k p e) [
  | inl h ↦ inr (inl (k, h.1))
  | inr h ↦ inr (inr (h.0, h.2))
]

chains_owned : (bs : List Bucket) (k p : ℕ) → slice_get (chains bs) k ≡ Some p → IsInBuckets bs p
chains_owned [] k p e = absurd (cc)
chains_owned (b ∷ bs) k p e = elim (in_both b.pages (chains bs) k p e) [
  | inl h ↦ record { index = 0; bucket = b; is = refl; owns = (k, h.1) }
  | inr h ↦ let r = chains_owned bs h.0 p h.2 in record { index = suc r.index; bucket = r.bucket; is = r.is; owns = r.owns }
]

page_owned : (root : ℕ) (b : Body) (k p : ℕ) → slice_get (body_pages root b) k ≡ Some p → OwnsPage root b p
page_owned root (AnArray a) k p e = array_owned root a k p e
page_owned root (ATable t) zero p e = inl (sym (same_some root p e))
page_owned root (ATable t) (suc k) p e = elim (in_both (array_pages t.directory t.names) (chains t.buckets) k p e) [
  | inl h ↦ inr (inl (array_owned t.directory t.names k p h.1))
  | inr h ↦ inr (inr (chains_owned t.buckets h.0 p h.2))
]
page_owned root (ABlob b) k p e = (one_is root p k e).1

-- and what all rows have is of one
joined_from : (g : Row → List ℕ) (xs : List Row) (k n : ℕ) → slice_get (joined g xs) k ≡ Some n → (row : Row) × IsAmong xs row × ((i : ℕ) × (slice_get (g row) i ≡ Some n))
joined_from g [] k n e = absurd (cc)
joined_from g (x ∷ xs) k n e = elim (in_both (g x) (joined g xs) k n e) [
  | inl h ↦ (x, inl refl, (k, h.1))
  | inr h ↦ let r = joined_from g xs h.0 n h.2 in (r.0, inr r.1, r.2)
]

-- what a page says that says something
as_said : (blank : Sheet) (o : Option Sheet) → (o ≡ None → ⊥) → o ≡ Some (said_of blank o)
as_said blank None some = absurd (some refl)
as_said blank (Some sheet) some = refl

set_is : (flags : List Bool) (n : ℕ) → slice_get flags n ≡ Some true → is_set flags n ≡ true
set_is [] n e = absurd cc
set_is (b ∷ bs) zero e = cc
set_is (b ∷ bs) (suc n) e = set_is bs n e

set_from : (flags : List Bool) (n : ℕ) → is_set flags n ≡ true → slice_get flags n ≡ Some true
set_from [] n e = absurd cc
set_from (b ∷ bs) zero e = ap (λ (c : Bool). Some c) e
set_from (b ∷ bs) (suc n) e = set_from bs n e

-- what contents reach is there, as the state says it
has_reached : (blank : Sheet) (pages bands : ℕ) (x : State) (q : Contents) → map_bands_of pages bands ≤ bands → ReadsAs pages bands x q → HasReached (unread_space blank x pages bands) x q
has_reached blank pages bands x q few h = record {
  pages = λ p o. is_below p pages (filled blank x) (h.range.page p o) ∙ sym (as_said blank (x.pages p) (reached_page (space_of pages bands x) q h.contents p o));
  bands = λ b o. is_below b bands (λ n. Some (x.bands n)) (h.range.band b o);
  map = λ b lt none. is_some (Some (x.bands b)) (x.bands b) refl (sym (is_below b bands (λ n. Some (x.bands n)) (omega arith)) ∙ none);
}

-- there are as many behind as before
as_many : (old new : List Bool) (ns : List ℕ) → AreSet old new ns → length new ≡ length old
as_many old new ns s = omega (arith, less, more)
  where
    less : length new ≤ length old
    less = past_length new (length old) (s.others (length old) (λ o. is_some (slice_get old (length old)) false (s.can.free o.0 (length old) o.1) (none_behind old (length old) (omega arith)))
        ∙ none_behind old (length old) (omega arith))

    more : length old ≤ length new
    more = past_length old (length new) (sym (s.others (length new) (λ o. is_some (slice_get new (length new)) true (s.set (length new) o) (none_behind new (length new) (omega arith))))
        ∙ none_behind new (length new) (omega arith))

-- A WALK THAT ENDED WELL
module _ (blank : Sheet) (pages bands : ℕ) (x : State) (old new : Maps) (first : AreFirst pages bands old) (few : map_bands_of pages bands ≤ bands) (r : Reaches (unread_space blank x pages bands) old new) where
  abbrev pub sp : Space
  sp = unread_space blank x pages bands

  begun : IsBegun sp old
  begun = record {
    first = first.first;
    map = first.map;
    taken = λ b lt none. is_some (Some (x.bands b)) (x.bands b) refl (sym (is_below b bands (λ n. Some (x.bands n)) (omega arith)) ∙ none);
  }

  contents : IsContents sp r.contents
  contents = contents_are sp old new r begun

  range : AreInRange pages bands r.contents
  range = record {
    page = λ p o. some_below p pages (filled blank x) (reached_page sp r.contents contents p o);
    band = λ b o. some_below b bands (λ n. Some (x.bands n)) (reached_band sp r.contents contents b o);
  }

  first_stays : slice_get new.pages 0 ≡ Some true
  first_stays = set_kept r.set.pages_set 0 first.first

  -- and it is set
  page_set : (p : ℕ) → IsReachedPage (r.contents) p → slice_get new.pages p ≡ Some true
  page_set p (inl o) = catalog_page o.0 o.1
    where
      catalog_page : (j : ℕ) → slice_get (r.contents).catalog.pages j ≡ Some p → slice_get new.pages p ≡ Some true
      catalog_page zero e =
          let zero_page : p ≡ 0 = same_some p 0 (sym e ∙ r.reads.catalog.raw.first) in
          subst (λ (n : ℕ). slice_get new.pages n ≡ Some true) (sym zero_page) first_stays
      catalog_page (suc j) e =
          let exactly = r.reads.catalog.exactly in
          let within : suc j < length (r.contents).catalog.pages = slice_get_within (r.contents).catalog.pages (suc j) p e in
          let at = sp.pages.at in
          let no : page_no at (suc j) ≡ p = same_some (page_no at (suc j)) p (sym (page_at (r.contents).catalog r.reads.catalog (suc j) within) ∙ e) in
          let there : slice_get (later_pages at (pages_for (r.contents).catalog.peak - 1)) j ≡ Some p = nth (later_no at) (pages_for (r.contents).catalog.peak - 1) j (omega arith) ∙ ap (λ (n : ℕ). Some n) (ap (page_no at) (add-one j) ∙ no) in
          r.set.pages_set.set p (j, in_front (later_pages at (pages_for (r.contents).catalog.peak - 1)) (all_pages (rows (r.contents).catalog) (bodies_of r.contents)) j p there)
  page_set p (inr o) =
      let at = sp.pages.at in
      let k = page_in o.row.root.0 ((r.contents).body o.row.root.0) p o.is in
      let m = in_rows (λ row. body_pages row.root.0 ((r.contents).body row.root.0)) (rows (r.contents).catalog) o.row k.0 p o.among k.1 in
      let later = later_pages at (pages_for (r.contents).catalog.peak - 1) in
      let all : slice_get (all_pages (rows (r.contents).catalog) (bodies_of r.contents)) m.0 ≡ Some p = ap (λ (ns : List ℕ). slice_get ns m.0) (pages_joined (r.contents).body (rows (r.contents).catalog)) ∙ m.1 in
      r.set.pages_set.set p (length later + m.0, in_back later (all_pages (rows (r.contents).catalog) (bodies_of r.contents)) m.0 p all)

  band_set : (b : ℕ) → IsReachedBand (r.contents) b → slice_get new.bands b ≡ Some true
  band_set b o =
      let k = band_in ((r.contents).body o.row.root.0) b o.is in
      let m = in_rows (λ row. body_bands ((r.contents).body row.root.0)) (rows (r.contents).catalog) o.row k.0 b o.among k.1 in
      let all : slice_get (all_bands (bodies_of r.contents)) m.0 ≡ Some b = ap (λ (ns : List ℕ). slice_get ns m.0) (bands_joined (r.contents).body (rows (r.contents).catalog)) ∙ m.1 in
      r.set.bands_set.set b (m.0, all)

  -- WHAT ANY CONTENTS REACH is what these do
  module _ (q : Contents) (h : ReadsAs pages bands x q) where
    there : IsContents sp q
    there = space_reads sp x q h (has_reached blank pages bands x q few h)

    catalogs : q.catalog ≡ (r.contents).catalog
    catalogs = one_catalog there.catalog contents.catalog

    among : (row : Row) → IsAmong (rows q.catalog) row → IsAmong (rows (r.contents).catalog) row
    among row a = subst (λ (c : Catalog). IsAmong (rows c) row) catalogs a

    among_back : (row : Row) → IsAmong (rows (r.contents).catalog) row → IsAmong (rows q.catalog) row
    among_back row a = subst (λ (c : Catalog). IsAmong (rows c) row) (sym catalogs) a

    bodies : (row : Row) → IsAmong (rows q.catalog) row → q.body row.root.0 ≡ (r.contents).body row.root.0
    bodies row a = one_body sp row.kind row.root.0 (q.body row.root.0) ((r.contents).body row.root.0) (there.body row a) (contents.body row (among row a))

    page_same : (p : ℕ) → IsReachedPage q p → IsReachedPage (r.contents) p
    page_same p (inl o) = inl (subst (λ (c : Catalog). (j : ℕ) × (slice_get c.pages j ≡ Some p)) catalogs o)
    page_same p (inr o) = inr (record { row = o.row; among = among o.row o.among; is = subst (λ (b : Body). OwnsPage o.row.root.0 b p) (bodies o.row o.among) o.is })

    page_back : (p : ℕ) → IsReachedPage (r.contents) p → IsReachedPage q p
    page_back p (inl o) = inl (subst (λ (c : Catalog). (j : ℕ) × (slice_get c.pages j ≡ Some p)) (sym catalogs) o)
    page_back p (inr o) = inr (record { row = o.row; among = among_back o.row o.among; is = subst (λ (b : Body). OwnsPage o.row.root.0 b p) (sym (bodies o.row (among_back o.row o.among))) o.is })

    band_same : (b : ℕ) → IsReachedBand q b → IsReachedBand (r.contents) b
    band_same b o = record { row = o.row; among = among o.row o.among; is = subst (λ (y : Body). OwnsBand y b) (bodies o.row o.among) o.is }

    -- a page says something that they reach
    says : (p : ℕ) → IsReachedPage (r.contents) p → x.pages p ≡ None → ⊥
    says p o = reached_page (space_of pages bands x) q h.contents p (page_back p o)

  -- and nothing else is but page 0, which they reach
  only : (p : ℕ) → IsOneOf (reached_pages sp.pages.at (r.contents)) p → IsReachedPage (r.contents) p
  only p (i, e) = elim (in_both (later_pages sp.pages.at (pages_for (r.contents).catalog.peak - 1)) (all_pages (rows (r.contents).catalog) (bodies_of (r.contents))) i p e) [
    | inl h ↦
        let n = nth_back (later_no sp.pages.at) (pages_for (r.contents).catalog.peak - 1) i p h.1 in
        let exactly = r.reads.catalog.exactly in
        let at : slice_get (r.contents).catalog.pages (suc i) ≡ Some (page_no sp.pages.at (suc i)) = page_at (r.contents).catalog r.reads.catalog (suc i) (omega (arith, exactly, n.0)) in
        inl (suc i, at ∙ ap (λ (m : ℕ). Some m) (ap (page_no sp.pages.at) (sym (add-one i)) ∙ sym n.1))
    | inr h ↦
        let k = joined_from (λ row. body_pages row.root.0 ((r.contents).body row.root.0)) (rows (r.contents).catalog) h.0 p (ap (λ (ns : List ℕ). slice_get ns h.0) (sym (pages_joined (r.contents).body (rows (r.contents).catalog))) ∙ h.2) in
        inr (record { row = k.0; among = k.1; is = page_owned k.0.root.0 ((r.contents).body k.0.root.0) k.2.0 p k.2.1 })
  ]

  zero_reached : IsReachedPage (r.contents) 0
  zero_reached = inl (0, r.reads.catalog.raw.first)

  behind_first : (p : ℕ) → p < pages → slice_get old.pages p ≡ Some true → p ≡ 0
  behind_first zero less e = refl
  behind_first (suc p) less e = absurd (is_both (slice_get old.pages (suc p)) e (first.others (suc p) (omega arith) less))
    where
      is_both : (o : Option Bool) → o ≡ Some true → o ≡ Some false → ⊥
      is_both o a b = cc

  -- WHERE IT READS AS CONTENTS each page says something that is taken
  pub all_say : (q : Contents) → ReadsAs pages bands x q → AllSay pages x new.pages
  all_say q h p less set = by_said (x.pages p) refl
    where
      not_one : x.pages p ≡ None → ¬ IsOneOf (reached_pages sp.pages.at (r.contents)) p
      not_one none one = says q h p (only p one) none

      by_said : (o : Option Sheet) → x.pages p ≡ o → IsSome o
      by_said (Some sheet) is = refl
      by_said None is =
          let zero_page : p ≡ 0 = behind_first p less (sym (r.set.pages_set.others p (not_one is)) ∙ set_from new.pages p set) in
          absurd (says q h p (subst (λ (n : ℕ). IsReachedPage (r.contents) n) (sym zero_page) zero_reached) is)

  -- AND WHERE EACH DOES, it reads as these
  module _ (all : AllSay pages x new.pages) where
    said : (p : ℕ) → IsReachedPage (r.contents) p → x.pages p ≡ None → ⊥
    said p o none = no_some (x.pages p) none (all p (range.page p o) (set_is new.pages p (page_set p o)))
      where
        no_some : (o : Option Sheet) → o ≡ None → IsSome o → ⊥
        no_some None e h = absurd cc
        no_some (Some y) e h = absurd cc

    reads : ReadsAs pages bands x r.contents
    reads = record {
      contents = contents_move sp (space_of pages bands x) r.contents contents refl
          (λ p o. as_said blank (x.pages p) (said p o) ∙ sym (is_below p pages (filled blank x) (range.page p o))) (λ b o. sym (is_below b bands (λ n. Some (x.bands n)) (range.band b o)))
          (λ b less none. is_some (Some (x.bands b)) (x.bands b) refl none);
      range = range;
    }

    pub walked : IsWalked pages bands x new
    walked = record {
      pages_are = as_many old.pages new.pages _ r.set.pages_set ∙ first.pages_are;
      bands_are = as_many old.bands new.bands _ r.set.bands_set ∙ first.bands_are;
      contents = r.contents;
      reads = reads;
      page = λ q h p o. page_set p (page_same q h p o);
      band = λ q h b o. band_set b (band_same q h b o);
      map = λ b lt. stays old.bands new.bands (reached_bands r.contents) r.set.bands_set b (first.map b lt);
      free = (let c = (counted sp old new r).pages in let f = first.free in omega (arith, c, f));
      free_bands = (let c = (counted sp old new r).bands in let f = first.free_bands in omega (arith, c, f));
    }

-- A WALK THAT BROKE
fresh : (blank : Sheet) (pages bands : ℕ) (x : State) (old : Maps) → AreFirst pages bands old → IsFresh (unread_space blank x pages bands) old
fresh blank pages bands x old first = record {
  page = λ p some there. first.others p some (some_below p pages (filled blank x) (λ none. is_some (below pages (filled blank x) p) there.0 there.1 none));
  band = λ b behind there. first.other_bands b behind (some_below b bands (λ n. Some (x.bands n)) (λ none. is_some (below bands (λ n. Some (x.bands n)) b) there.0 there.1 none));
}

pub reach_reads : (blank : Sheet) (pages bands : ℕ) (x : State) (old : Maps) → AreFirst pages bands old → map_bands_of pages bands ≤ bands → (s : Contents) → ReadsAs pages bands x s → CanReach (unread_space blank x pages bands) old
reach_reads blank pages bands x old first few s h =
    can_reach (unread_space blank x pages bands) old s (space_reads (unread_space blank x pages bands) x s h (has_reached blank pages bands x s few h)) (fresh blank pages bands x old first)

pub none_reads : (blank : Sheet) (pages bands : ℕ) (x : State) (old : Maps) → AreFirst pages bands old → map_bands_of pages bands ≤ bands → ¬ CanReach (unread_space blank x pages bands) old → (s : Contents) → ReadsAs pages bands x s → ⊥
none_reads blank pages bands x old first few broken s h = broken (reach_reads blank pages bands x old first few s h)

-- A WALK THAT FAILED over what reads as contents: the engine has
no_rise : (a b : ℕ) → a ≡ 0 → b ≡ 0 → HasRisen a b → ⊥
no_rise a b e f risen = let r : a < b = risen (omega (arith, f)) in absurd (omega (arith, e, f, r))

pub has_failed : (a b : EngineSeen) (pages bands breaks : ℕ) → (a.Told → a.failed ≡ false) → (a.failed ≡ false → a.faults ≡ 0) → (b.failed ≡ false → b.faults ≡ 0) → (b.failed ≡ false → b.Told) → (b.Told → b.now ≡ a.now) → (IsReadable b pages bands → breaks ≡ 0)
    → HasRisen a.faults (b.faults + breaks) → IsReadable a pages bands → (f : Bool) → b.failed ≡ f → b.failed ≡ true
has_failed a b pages bands breaks whole none none' still same unbroken risen read true is = is
has_failed a b pages bands breaks whole none none' still same unbroken risen read false is =
    let told = still is in
    let zero_breaks = unbroken (record { told = told; contents = read.contents; reads = subst (λ (y : State). ReadsAs pages bands y read.contents) (sym (same told)) read.reads }) in
    let zero_faults = none' is in
    absurd (no_rise a.faults (b.faults + breaks) (none (whole read.told)) (omega (arith, zero_breaks, zero_faults)) risen)

pub fails_reading : {recovers : Table → Recovering} {t : Table} {m m' : Table → State → Type 0} (a b : EngineSeen) (pages bands breaks before : ℕ) (from : State) → LooksOn recovers t a b m m' → m t from → (a.Told → a.failed ≡ false) → (b.Told → b.failed ≡ false)
    → (a.failed ≡ false → a.faults ≡ 0) → (b.failed ≡ false → b.faults ≡ 0) → (a.Told → a.now ≡ now_of t (led from a)) → (b.Told → b.now ≡ now_of t (led from b)) → (IsReadable b pages bands → breaks ≡ 0) → before ≡ 0
    → HasRisen (a.faults + before) (b.faults + breaks) → IsReadable a pages bands → b.failed ≡ true
fails_reading {recovers} {t} {m} {m'} a b pages bands breaks before from looks stands whole whole' none none' now now' unbroken is_zero risen read =
    has_failed a b pages bands breaks whole none none' (λ still. looks.accounts.tells read.told still)
    (λ told'. now' told' ∙ (ap (repeated t from) ((looks.reads from stands read.told).stays (whole' told')).steps ∙ sym (now read.told)))
    unbroken (λ few. let r : a.faults + before < b.faults + breaks = risen few in omega (arith, is_zero, r)) read b.failed refl

pub on_err : {T F : Type 0} {P Q : F → Type 0} (r : Result T F) → ((e : F) → P e → Q e) → IfErr r P → IfErr r Q
on_err (Ok x) f h = tt
on_err (Err e) f h = f e h

pub on_ok : {T F : Type 0} {P Q : Type 0} (r : Result T F) → (P → Q) → OnOk r P → OnOk r Q
on_ok (Ok x) f h = f h
on_ok (Err e) f h = tt

pub on_broken : {T : Type 0} {P Q : Type 0} (r : Result T ReachFault) → (P → Q) → IfErr r (IfBroken P) → IfErr r (IfBroken Q)
on_broken (Ok x) f h = tt
on_broken (Err (InSpace fault)) f h = tt
on_broken (Err (Broken p)) f h = f h
