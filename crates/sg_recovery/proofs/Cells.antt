-- The laws of a setting follow from the laws of its cells.
use Rattle.std.proofs.Common.{◌≡◌, Bool, true, false, cond, ◌||◌, List, Some, None, refl, sym, ap, ◌∙◌, subst}
use Rattle.sg_recovery.specs.Setting.{Setting}
use Rattle.sg_recovery.specs.Laws.{Note, goes_back, Laws}
use Rattle.sg_recovery.specs.Cells.{Cells, Undone, CellLaws, setting_of}
use Rattle.sg_recovery.proofs.Basic.{some_one, cond_true}

clash : {P : Type 0} (c : Bool) → c ≡ false → c ≡ true → P
clash c a z = absurd (cc)

or_two : (a b : Bool) → b ≡ true → (a || b) ≡ true
or_two true b h = refl
or_two false b h = h

by_bool : (b : Bool) (P : Type 0) → (b ≡ true → P) → (b ≡ false → P) → P
by_bool true P f g = f refl
by_bool false P f g = g refl

module _ (k : Cells) (w : CellLaws k) where
  s : Setting
  s = setting_of k

  -- a note that is undone at its place
  guarded : (n : Note (setting_of k)) (o p : k.O) → goes_back (setting_of k) n o ≡ Some p → (k.inside (k.touched o n.note n.changes) n.place ≡ true) × (k.unstep o n.note n.changes ≡ Some p)
  guarded n o p h = by_test (k.inside (k.touched o n.note n.changes) n.place) refl h
    where
      by_test : (b : Bool) → k.inside (k.touched o n.note n.changes) n.place ≡ b → cond b (k.unstep o n.note n.changes) None ≡ Some p → (k.inside (k.touched o n.note n.changes) n.place ≡ true) × (k.unstep o n.note n.changes ≡ Some p)
      by_test true e z = (e, z)
      by_test false e z = absurd (cc)

  place_has : (n : Note (setting_of k)) (o : k.O) → k.inside (k.touched o n.note n.changes) n.place ≡ true → (c : k.K) → k.has (k.touched o n.note n.changes) c ≡ true → k.has n.place c ≡ true
  place_has n o h c is = w.inside_has (k.touched o n.note n.changes) n.place c h is

  -- undone at its place in another reading
  there : (n : Note (setting_of k)) (o o1 p : k.O) → goes_back (setting_of k) n o ≡ Some o1 → (u : Undone k n.note n.changes o o1 p) → goes_back (setting_of k) n p ≡ Some u.end
  there n o o1 p h u =
      cond_true (k.inside (k.touched p n.note n.changes) n.place) (k.unstep p n.note n.changes) None (ap (λ t. k.inside t n.place) u.same ∙ (guarded n o o1 h).0) ∙ u.is

  -- two readings that are the same somewhere
  le_of : (o p : k.O) (c : k.K) → k.at p c ≡ k.at o c → k.Le c (k.at o c) (k.at p c)
  le_of o p c e = subst (λ a. k.Le c (k.at o c) a) (sym e) (w.le_same c (k.at o c))

  -- what a note does where it stands
  here : (n : k.N) (cs : List k.C) (o o1 : k.O) → k.unstep o n cs ≡ Some o1 → (c : k.K) → k.has (k.touched o n cs) c ≡ false → k.at o1 c ≡ k.at o c
  here n cs o o1 h c z =
      let u = w.note_local n cs o o1 o h (λ c z. w.le_same c (k.at o c)) in
      ap (λ q. k.at q c) (sym (some_one u.end o1 (sym u.is ∙ h))) ∙ u.outer c z

  below_more : (n : k.N) (cs : List k.C) (o p o1 : k.O) → ((c : k.K) → k.Le c (k.at o c) (k.at p c)) → k.unstep o n cs ≡ Some o1 → (u : Undone k n cs o o1 p) → (c : k.K) → k.Le c (k.at o1 c) (k.at u.end c)
  below_more n cs o p o1 le h u c =
      by_bool (k.has (k.touched o n cs) c) (k.Le c (k.at o1 c) (k.at u.end c)) (u.inner c)
      (λ z. subst (λ a. k.Le c a (k.at u.end c)) (sym (here n cs o o1 h c z)) (subst (λ a. k.Le c (k.at o c) a) (sym (u.outer c z)) (le c)))

  pub cells_laws : Laws (setting_of k)
  cells_laws = record {
    below_same = λ o c. w.le_same c (k.at o c);
    below_trans = λ o p q a b c. w.le_trans c (k.at o c) (k.at p c) (k.at q c) (a c) (b c);
    below_objects = λ o p a. w.objects_seen o p (λ c z. a c);
    below_undo = λ n o p o1 a h.
        let u = w.note_local n.note n.changes o o1 p h (λ c z. a c) in
        (u.end, u.is, below_more n.note n.changes o p o1 a h u);
    below_back = λ n o p o1 a h.
        let g = guarded n o o1 h in
        let u = w.note_local n.note n.changes o o1 p g.1 (λ c z. a c) in
        (u.end, there n o o1 p h u, below_more n.note n.changes o p o1 a g.1 u);
    after_objects = w.verb_step;
    freed_objects = λ f o p a. w.objects_seen o p (λ c z. by_bool (k.has f c) (k.Le c (k.at o c) (k.at p c)) (λ y. clash (k.seen c) (a.1 c y) z) (λ y. le_of o p c (a.0 c y)));
    clear_passes = λ v held m clear within o p o1 a h.
        let g = guarded m o o1 h in
        let tm = k.touched o m.note m.changes in
        let mine : (c : k.K) → k.has tm c ≡ true → (k.reads v c || k.writes v c) ≡ false = λ c z. clear c (within c (place_has m o g.0 c z)) in
        let unwritten : (c : k.K) → k.has tm c ≡ true → k.writes v c ≡ false = λ c z. by_bool (k.writes v c) (k.writes v c ≡ false) (λ y. clash (k.reads v c || k.writes v c) (mine c z) (or_two (k.reads v c) (k.writes v c) y)) (λ y. y) in
        let stays : (c : k.K) → k.has tm c ≡ true → k.at p c ≡ k.at o c = λ c z. a.2 c (unwritten c z) in
        let u = w.note_local m.note m.changes o o1 p g.1 (λ c z. le_of o p c (stays c z)) in
        let b = here m.note m.changes o o1 g.1 in
        let off : (c : k.K) → (k.reads v c || k.writes v c) ≡ true → k.has tm c ≡ false = λ c z. by_bool (k.has tm c) (k.has tm c ≡ false) (λ y. clash (k.reads v c || k.writes v c) (mine c y) z) (λ y. y) in
        let v1 = w.verb_local v o o1 a.0 (λ c z. b c (off c z)) in (
          u.end,
          there m o o1 p h u,
          (
            v1.0,
            (λ c z. u.outer c (off c (or_two (k.reads v c) (k.writes v c) z)) ∙ (a.1 c z ∙ sym (v1.1 c z))),
            (λ c z. by_bool (k.has tm c) (k.at u.end c ≡ k.at o1 c) (u.exact stays c) (λ y. u.outer c y ∙ (a.2 c z ∙ sym (b c y)))),
          ),
        );
    apart_passes = λ f held m apart within o p o1 a h.
        let g = guarded m o o1 h in
        let tm = k.touched o m.note m.changes in
        let stays : (c : k.K) → k.has tm c ≡ true → k.at p c ≡ k.at o c = λ c z. a.0 c (apart c (within c (place_has m o g.0 c z))) in
        let u = w.note_local m.note m.changes o o1 p g.1 (λ c z. le_of o p c (stays c z)) in
        let b = here m.note m.changes o o1 g.1 in (
          u.end,
          there m o o1 p h u,
          ((λ c z. by_bool (k.has tm c) (k.at u.end c ≡ k.at o1 c) (u.exact stays c) (λ y. u.outer c y ∙ (a.0 c z ∙ sym (b c y)))), a.1),
        );
    clear_swaps = λ v held n m clear writes within o o1 o2 h1 h2.
        let g1 = guarded n o o1 h1 in
        let g2 = guarded m o1 o2 h2 in
        let tn = k.touched o n.note n.changes in
        let tm = k.touched o1 m.note m.changes in
        let one : (c : k.K) → k.has tm c ≡ true → k.has tn c ≡ false = λ c z. by_bool (k.has tn c) (k.has tn c ≡ false)
        (λ y. clash (k.reads v c || k.writes v c) (clear c (within c (place_has m o1 g2.0 c z))) (or_two (k.reads v c) (k.writes v c) (writes c (place_has n o g1.0 c y)))) (λ y. y) in
        let two : (c : k.K) → k.has tn c ≡ true → k.has tm c ≡ false = λ c z. by_bool (k.has tm c) (k.has tm c ≡ false) (λ y. clash (k.has tn c) (one c y) z) (λ y. y) in
        let b1 = here n.note n.changes o o1 g1.1 in
        let b2 = here m.note m.changes o1 o2 g2.1 in
        let sm : (c : k.K) → k.has tm c ≡ true → k.at o c ≡ k.at o1 c = λ c z. sym (b1 c (one c z)) in
        let um = w.note_local m.note m.changes o1 o2 o g2.1 (λ c z. le_of o1 o c (sm c z)) in
        let sn : (c : k.K) → k.has tn c ≡ true → k.at um.end c ≡ k.at o c = λ c z. um.outer c (two c z) in
        let un = w.note_local n.note n.changes o o1 um.end g1.1 (λ c z. le_of o um.end c (sn c z)) in (
          um.end,
          un.end,
          there m o1 o2 o h2 um,
          there n o o1 um.end h1 un,
          (λ c. le_of o2 un.end c (by_bool (k.has tn c) (k.at un.end c ≡ k.at o2 c)
              (λ z. un.exact sn c z ∙ sym (b2 c (two c z)))
              (λ z. by_bool (k.has tm c) (k.at un.end c ≡ k.at o2 c) (λ y. un.outer c z ∙ um.exact sm c y) (λ y. un.outer c z ∙ (um.outer c y ∙ (sym (b1 c z) ∙ sym (b2 c y))))))),
        );
  }
