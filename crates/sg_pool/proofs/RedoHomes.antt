-- The home area behind runs of redo.
use Rattle.std.proofs.Common.{◌≡◌, ◌⊎◌, inl, inr, ⊎_elim, ◌<◌, ℕ, Option, None, Some, Result, Ok, Err, List, [], refl, sym, ◌∙◌, ap}
use Rattle.std.specs.Prelude.{OnOk, OnErr}
use Rattle.sg_base.specs.declared.page.TheConstants.{BAND_SIZE}
use Rattle.sg_disk.specs.Disk.{Bytes, Part}
use Rattle.sg_gate.specs.Layout.{home_at}
use Rattle.sg_redo.specs.History.{OnPage, repeated, since_repeated, rewritten}
use Rattle.sg_redo.specs.Window.{OnWindow, on_byte, since_replayed}
use Rattle.sg_pool.specs.declared.fault.PoolFault.{PoolFault}
use Rattle.sg_pool.specs.declared.fault.PoolFault.TheVariants.{Disk, Damaged, Memory}
use Rattle.sg_pool.specs.Redone.{PartRecords, AreWhole, IsRedone, ArePartlyRedone, AreHomesExact}
use Rattle.sg_pool.specs.Shelves.{OnTold}
use Rattle.sg_pool.specs.Units.{Geometry, Units, IsBacked, page_at, band_byte}
use Rattle.sg_pool.specs.Untouched.{IsUntouched}
use Rattle.sg_pool.proofs.Redone.{AreTogether}
use Rattle.sg_pool.proofs.Slots.{none_is_some, none_or_some}

-- homes that are as they were
pub exact_here : (g : Geometry) (before after : Bytes) (rs : PartRecords) (m m' : Units) → IsUntouched g before after m' → AreHomesExact g before after rs m m'
exact_here g before after rs m m' is = record {
  superblock = is.superblock;
  pages = λ n o lt since. inl (is.pages n o lt since);
  bands = λ b o lt since. inl (λ i small. is.bytes b o i lt small since);
}

-- said with the records of more units
module _ {R : Type 0} (since_by : List R → Option ℕ → Option ℕ) (nothing : (s : Option ℕ) → since_by [] s ≡ s) where
  pub since_whole : (some rs : List R) (now : Option ℕ) (o : ℕ) → now ≡ Some o → (some ≡ rs) ⊎ (some ≡ []) → now ≡ since_by some None → now ≡ since_by rs None
  since_whole some rs now o is whole by = ⊎_elim
      (λ same. by ∙ ap (λ (l : List R). since_by l None) same)
      (λ empty. absurd (none_is_some o (sym (by ∙ (ap (λ (l : List R). since_by l None) empty ∙ nothing None)) ∙ is)))
      whole

nothing_repeated : (page : List ℕ) (s : Option ℕ) → since_repeated [] page s ≡ s
nothing_repeated page s = refl

nothing_replayed : (s : Option ℕ) → since_replayed [] s ≡ s
nothing_replayed s = refl

pub exact_whole : (g : Geometry) (before after : Bytes) (some rs : PartRecords) (m m' : Units) → AreWhole some rs → AreHomesExact g before after some m m' → AreHomesExact g before after rs m m'
exact_whole g before after some rs m m' whole is = record {
  superblock = is.superblock;
  pages = λ n o lt since. ⊎_elim
      (λ same. inl same)
      (λ gone. inr (since_whole (λ (l : List OnPage) (s : Option ℕ). since_repeated l (m.page n) s) (nothing_repeated (m.page n)) (some.page n) (rs.page n) (m'.page_since n) o since (whole.page n) gone.0, gone.1))
      (is.pages n o lt since);
  bands = λ b o lt since. ⊎_elim
      (λ same. inl same)
      (λ gone. inr (since_whole since_replayed nothing_replayed (some.band b) (rs.band b) (m'.band_since b) o since (whole.band b) gone.0, gone.1))
      (is.bands b o lt since);
}

-- ONE UNIT OVER TWO RUNS, of which one has no record of it. E says that two homes are the same
module _ {R H : Type 0} (E : H → H → Type 0) (along : (a b c : H) → E a b → E b c → E a c) (since0 since1 : List R → Option ℕ → Option ℕ) (nothing0 : (s : Option ℕ) → since0 [] s ≡ s) (nothing1 : (s : Option ℕ) → since1 [] s ≡ s)
    (all a b some : List R) (together : ((b ≡ []) × (all ≡ a)) ⊎ ((a ≡ []) × (all ≡ b))) (whole : (some ≡ b) ⊎ (some ≡ [])) (s1 s2 : Option ℕ) (h0 h1 h2 x0 x1 : H) (o : ℕ) (is : s2 ≡ Some o)
    (first : (o1 : ℕ) → s1 ≡ Some o1 → E h1 h0 ⊎ ((s1 ≡ since0 a None) × E h1 x0)) (clean : s1 ≡ None → E h1 x1) (still : a ≡ [] → E x1 x0) (still_since : a ≡ [] → since1 b None ≡ since0 b None)
    (late : (s2 ≡ since1 some s1) ⊎ ((s2 ≡ since1 some None) ⊎ (s2 ≡ None))) (second : E h2 h1 ⊎ ((s2 ≡ since1 b None) × E h2 x1)) where
  abbrev IsEither : Type 0
  IsEither = E h2 h0 ⊎ ((s2 ≡ since0 all None) × E h2 x0)

  not_none : s2 ≡ None → ⊥
  not_none none = none_is_some o (sym none ∙ is)

  -- it has no record in the second run
  no_more : b ≡ [] → s2 ≡ s1
  no_more empty =
      let none : some ≡ [] = ⊎_elim (λ same. same ∙ empty) (λ e. e) whole in
      ⊎_elim
      (λ kept. kept ∙ (ap (λ (l : List R). since1 l s1) none ∙ nothing1 s1))
      (λ gone. absurd (⊎_elim (λ by. not_none (by ∙ (ap (λ (l : List R). since1 l None) none ∙ nothing1 None))) not_none gone))
      late

  -- it has none in the first
  fresh : s1 ≡ None → a ≡ [] → all ≡ b → s2 ≡ since0 all None
  fresh clean_then empty is_b =
      let by : s2 ≡ since1 some None = ⊎_elim (λ kept. kept ∙ ap (since1 some) clean_then) (λ gone. ⊎_elim (λ e. e) (λ none. absurd (not_none none)) gone) late in
      since_whole since1 nothing1 some b s2 o is whole by ∙ (still_since empty ∙ ap (λ (l : List R). since0 l None) (sym is_b))

  at_home : E h2 h1 → IsEither
  at_home same = ⊎_elim
      (λ none. ⊎_elim
      (λ it. absurd (not_none (no_more it.0 ∙ none)))
      (λ it. inr (fresh none it.0 it.1, along h2 h1 x0 same (along h1 x1 x0 (clean none) (still it.0))))
      together)
      (λ had. ⊎_elim
      (λ before. inl (along h2 h1 h0 same before))
      (λ gone. ⊎_elim
      (λ it. inr (no_more it.0 ∙ (gone.0 ∙ ap (λ (l : List R). since0 l None) (sym it.1)), along h2 h1 x0 same gone.1))
      (λ it. absurd (none_is_some had.0 (sym (gone.0 ∙ (ap (λ (l : List R). since0 l None) it.0 ∙ nothing0 None)) ∙ had.1)))
      together)
      (first had.0 had.1))
      (none_or_some s1)

  pub one_unit : IsEither
  one_unit = ⊎_elim
      at_home
      (λ gone. ⊎_elim
      (λ it. absurd (not_none (gone.0 ∙ (ap (λ (l : List R). since1 l None) it.0 ∙ nothing1 None))))
      (λ it. inr (gone.0 ∙ (still_since it.0 ∙ ap (λ (l : List R). since0 l None) (sym it.1)), along h2 x1 x0 gone.1 (still it.0)))
      together)
      second

-- the bytes of two bands are the same
abbrev pub AreSameBytes : (ℕ → ℕ) → (ℕ → ℕ) → Type 0
AreSameBytes f h = (i : ℕ) → i < BAND_SIZE → f i ≡ h i

-- A RUN, AND THEN ANOTHER, which may have come to an end in its midst
module _ (g : Geometry) (before : Bytes) (q : Part) (after : Bytes) (all a b some : PartRecords) (together : AreTogether all a b) (whole : AreWhole some b) (m m1 m2 : Units) (backed : IsBacked g q m1) (first : IsRedone g a m m1) (second : IsRedone g some m1 m2)
    (one : AreHomesExact g before q.seen a m m1) (two : AreHomesExact g q.seen after b m1 m2) where
  page_then : (n o : ℕ) → n < g.pages → m2.page_since n ≡ Some o → (page_at after (home_at n) ≡ page_at before (home_at n)) ⊎ ((m2.page_since n ≡ since_repeated (all.page n) (m.page n) None) × (page_at after (home_at n) ≡ m.page n))
  page_then n o lt since =
      let same : a.page n ≡ [] → m1.page n ≡ m.page n = λ none. (first.pages n lt).page ∙ ap (λ (rs : List OnPage). repeated rs (m.page n)) none in
      one_unit (λ (x y : List ℕ). x ≡ y) (λ x y z e f. e ∙ f) (λ (l : List OnPage) (s : Option ℕ). since_repeated l (m.page n) s) (λ (l : List OnPage) (s : Option ℕ). since_repeated l (m1.page n) s) (nothing_repeated (m.page n)) (nothing_repeated (m1.page n))
      (all.page n) (a.page n) (b.page n) (some.page n) (together.page n) (whole.page n) (m1.page_since n) (m2.page_since n) (page_at before (home_at n)) (page_at q.seen (home_at n)) (page_at after (home_at n)) (m.page n) (m1.page n) o since
      (λ o1 had. one.pages n o1 lt had) (backed.pages n lt) same (λ none. ap (λ (x : List ℕ). since_repeated (b.page n) x None) (same none)) (second.pages n lt).since (two.pages n o lt since)

  band_late : (n : ℕ) → n < g.bands → (m2.band_since n ≡ since_replayed (some.band n) (m1.band_since n)) ⊎ ((m2.band_since n ≡ since_replayed (some.band n) None) ⊎ (m2.band_since n ≡ None))
  band_late n lt = ⊎_elim (λ kept. inl kept) (λ gone. ⊎_elim (λ only. inr (inl only.since)) (λ none. inr (inr none)) gone) (second.bands n lt).since

  band_then : (n o : ℕ) → n < g.bands → m2.band_since n ≡ Some o → AreSameBytes (λ i. after (band_byte g n i)) (λ i. before (band_byte g n i)) ⊎ ((m2.band_since n ≡ since_replayed (all.band n) None) × AreSameBytes (λ i. after (band_byte g n i)) (m.byte n))
  band_then n o lt since =
      one_unit AreSameBytes (λ x y z e f i small. e i small ∙ f i small) since_replayed since_replayed nothing_replayed nothing_replayed
      (all.band n) (a.band n) (b.band n) (some.band n) (together.band n) (whole.band n) (m1.band_since n) (m2.band_since n) (λ i. before (band_byte g n i)) (λ i. q.seen (band_byte g n i)) (λ i. after (band_byte g n i)) (m.byte n) (m1.byte n) o since
      (λ o1 had. one.bands n o1 lt had) (λ none i small. backed.bytes n i lt small (backed.clean n i none))
      (λ none i small. (first.bands n lt).byte i small ∙ ap (λ (ws : List OnWindow). rewritten (on_byte i ws) (m.byte n i)) none) (λ none. refl) (band_late n lt) (two.bands n o lt since)

  pub exact_then : AreHomesExact g before after all m m2
  exact_then = record {
    superblock = λ i low. two.superblock i low ∙ one.superblock i low;
    pages = page_then;
    bands = band_then;
  }

-- what is known of the units of a run, however it ended
pub told_partly : {T : Type 0} (r : Result T PoolFault) (g : Geometry) (rs : PartRecords) (m m' : Units) → OnOk r (IsRedone g rs m m') → OnErr r (OnTold r (ArePartlyRedone g rs m m')) → OnTold r (ArePartlyRedone g rs m m')
told_partly (Ok x) g rs m m' whole part = (rs, record { page = λ n. inl refl; band = λ n. inl refl }, whole)
told_partly (Err Disk) g rs m m' whole part = tt
told_partly (Err (Damaged n)) g rs m m' whole part = part
told_partly (Err Memory) g rs m m' whole part = part
