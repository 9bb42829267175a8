-- Each step of an opening leaves what the log stands for, and no note is undone twice.
use Rattle.std.proofs.Common.{◌≡◌, ℕ, ◌+◌, ◌<◌, ◌≤◌, ◌==◌, nat_lt, arith, Bool, true, false, cond, not, ◌&&◌, List, [], ◌∷◌, ◌++◌, Option, Some, refl, sym, ap, ◌∙◌, subst}
use Rattle.sg_recovery.specs.Setting.{Setting}
use Rattle.sg_recovery.specs.Log.{Record, Numbered, Top, said, tally, is_in, open_of, open_not_of, notes_of, notes_not_of, notes_up_to, changes_of}
use Rattle.sg_recovery.specs.Log.Record.{Begin, Change, TopEnd, PhysComp, TopVoid, CompEnd, Save, Commit, End}
use Rattle.sg_recovery.specs.Stands.{redo, made, settled, all_undone, stands_at, wanted, HasPages, StandsFor}
use Rattle.sg_recovery.specs.Laws.{Each, Laws}
use Rattle.sg_recovery.specs.Keeps.{Keeps, top_of, IsAside}
use Rattle.sg_recovery.specs.Shows.{Pairs}
use Rattle.sg_recovery.specs.Runs.{AllStand}
use Rattle.sg_recovery.specs.Chains.{next_lsn, border_of, Formed, walk, Finds, Chains, IsStanding, Sound, IsGone}
use Rattle.sg_recovery.specs.Opens.{Opens, AreOpening}
use Rattle.sg_recovery.specs.Opens.Opens.{takes_off, voids, changes, undoes_greatest, ends, frees}
use Rattle.sg_recovery.proofs.Basic.{then_some, some_one, cond_false, each_more, each_filter, each_kept, filter_all, same_number, other_number, number_is, lt_true, lt_false}
use Rattle.sg_recovery.proofs.Appending.{phys_comp_same, top_void_same, change_same, comp_end_keeps, end_same, system_keeps}
use Rattle.sg_recovery.proofs.Pages.{change_pages, comp_end_pages, end_pages, top_void_pages, phys_comp_pages}
use Rattle.sg_recovery.proofs.Chaining.{sound}

-- the notes of a sound log behind the greatest one
greatest_goes : {C N : Type 0} (rs : List (Numbered C N)) (n : Top C N) (rest : List (Top C N)) → Sound rs → (tally rs).notes ≡ n ∷ rest → notes_up_to n.transaction n.undo_next (n ∷ rest) ≡ rest
greatest_goes rs n rest h is =
    let own = subst (Each (λ m. IsStanding (tally rs).live (border_of m.transaction rs) m.transaction m.lsn m.undo_next)) is h.notes in
    let chains = subst (Pairs Chains) is h.chains in
    cond_false (not (n.transaction == n.transaction && nat_lt n.undo_next n.lsn)) (n ∷ notes_up_to n.transaction n.undo_next rest) (notes_up_to n.transaction n.undo_next rest)
    (ap (λ b. not (b && nat_lt n.undo_next n.lsn)) (same_number n.transaction) ∙ ap not (lt_true n.undo_next n.lsn own.0.before))
    ∙ filter_all (λ m. not (m.transaction == n.transaction && nat_lt n.undo_next m.lsn)) rest (each_more (Chains n) (λ m. not (m.transaction == n.transaction && nat_lt n.undo_next m.lsn) ≡ true) rest (λ m z. by_test m.transaction m.lsn n.transaction n.undo_next (m.transaction == n.transaction) refl z.chained) chains.0)
  where
    by_test : (mt ml nt nu : ℕ) (b : Bool) → (mt == nt) ≡ b → (mt ≡ nt → ml ≤ nu) → not (b && nat_lt nu ml) ≡ true
    by_test mt ml nt nu true e le = ap not (lt_false nu ml (le (number_is mt nt e)))
    by_test mt ml nt nu false e le = refl

none_of : {C N : Type 0} (t : ℕ) (ns : List (Top C N)) → Each (λ n. n.transaction ≡ t → ⊥) ns → notes_not_of t ns ≡ ns
none_of t ns h = filter_all (λ n. not (n.transaction == t)) ns (each_more (λ n. n.transaction ≡ t → ⊥) (λ n. not (n.transaction == t) ≡ true) ns (λ n ne. ap not (other_number n.transaction t ne)) h)

-- one step
pub opens_keeps : (s : Setting) → Laws s → (x : s.X) (rs : List (Numbered s.C s.N)) (l : ℕ) (r : Record s.C s.N) → Sound rs → Opens s (tally rs) (made s x rs) l r → Keeps s l r (tally rs) (made s x rs)
opens_keeps s w x rs l r h (takes_off t p u d ds is rest) o so = (o, phys_comp_same s l t p u d ds (tally rs) (made s x rs) o is rest so, refl)
opens_keeps s w x rs l r h (voids t p u none) o so =
    (o, top_void_same s l t p u (tally rs) (made s x rs) (ap (open_not_of t) none ∙ sym none) ∙ so, refl)
opens_keeps s w x rs l r h (changes t p c reverts) o so = (o, change_same s l t p c (tally rs) (made s x rs) reverts ∙ so, refl)
opens_keeps s w x rs l r h (undoes_greatest p n rest is alone done takes) o so =
    comp_end_keeps s w l n.transaction p n.undo_next n rest (tally rs) (made s x rs) is (greatest_goes rs n rest h is) alone done o so
opens_keeps s w x rs l r h (ends t p none) o so = (o, end_same s l t p (tally rs) (made s x rs) (none_of t (tally rs).notes none) ∙ so, refl)
opens_keeps s w x rs l r h (frees t p u n tombs live none alone freed) o so =
    system_keeps s l t p u n (tally rs) (made s x rs) alone live aside o so
  where
    aside : (o : s.O) → settled s (tally rs).opened (made s x rs) ≡ Some o → IsAside s (tally rs).notes (made s x rs) o
    aside o is =
        let d = freed o is in
        record {
          now = d.now;
          reads = d.reads;
          same = subst (λ ns. (q : s.O) → all_undone s ns o ≡ Some q → (p : s.O) × (all_undone s ns d.now ≡ Some p) × (s.objects q ≡ s.objects p)) (sym none)
              (λ q e. (d.now, refl, ap s.objects (sym (some_one o q e)) ∙ w.freed_objects tombs o d.now d.freed));
        }

-- the pages stay free
pub opens_pages : (s : Setting) → (x : s.X) (rs : List (Numbered s.C s.N)) (l : ℕ) (r : Record s.C s.N) (o : s.O) → Sound rs → Opens s (tally rs) (made s x rs) l r → stands_at s (tally rs) (made s x rs) ≡ Some o
    → HasPages s (tally rs) (made s x rs) → HasPages s (said l r (tally rs)) (redo s r (made s x rs))
opens_pages s x rs l r o h (takes_off t p u d ds is rest) so pages =
    let a = then_some (settled s (tally rs).opened (made s x rs)) (all_undone s (tally rs).notes) o so in
    phys_comp_pages s l t p u d ds (tally rs) (made s x rs) a.0 is rest a.1 pages
opens_pages s x rs l r o h (voids t p u none) so pages = top_void_pages s l t p u (tally rs) (made s x rs) (ap (open_not_of t) none ∙ sym none) pages
opens_pages s x rs l r o h (changes t p c reverts) so pages = change_pages s l t p c (tally rs) (made s x rs) reverts pages
opens_pages s x rs l r o h (undoes_greatest p n rest is alone done takes) so pages =
    let a = then_some (settled s (tally rs).opened (made s x rs)) (all_undone s (tally rs).notes) o so in
    comp_end_pages s l n.transaction p n.undo_next [] n rest (tally rs) (made s x rs) a.0 is (greatest_goes rs n rest h is) alone a.1 (λ now reads. takes a.0 now a.1 reads) pages
opens_pages s x rs l r o h (ends t p none) so pages = end_pages s l t p (tally rs) (made s x rs) pages
opens_pages s x rs l r o h (frees t p u n tombs live none alone freed) so pages =
    λ q is. subst (λ ns. wanted s ns ≤ s.free q) (sym (cond_false (is_in t (tally rs).live) (top_of s l t u n (tally rs).opened ∷ (tally rs).notes) (tally rs).notes live ∙ none)) (least (s.free q))
  where
    least : (a : ℕ) → 0 ≤ a
    least a = omega arith

-- a log without its last records is formed
formed_down : {C N : Type 0} (more down : List (Numbered C N)) → Formed (more ++ down) → Formed down
formed_down [] down f = f
formed_down (r ∷ more) down f = formed_down more down f.2

-- Every front of the log of an opening stands for what the log stood for that it found.
pub opening_stands : (s : Setting) → Laws s → (x : s.X) (m : s.S) (more down : List (Numbered s.C s.N)) → Formed (more ++ down) → AreOpening s x more down → StandsFor s x down m → AllStand s x m more down
opening_stands s w x m [] down f steps h = h
opening_stands s w x m (r ∷ more) down f steps h =
    let all = opening_stands s w x m more down f.2 steps.1 h in
    let a = top more all in
    let b = opens_keeps s w x (more ++ down) r.lsn r.is (sound (more ++ down) f.2) steps.0 a.0 a.1 in
    ((b.0, b.1, sym b.2 ∙ a.2, opens_pages s x (more ++ down) r.lsn r.is a.0 (sound (more ++ down) f.2) steps.0 a.1 a.3), all)
  where
    top : (more : List (Numbered s.C s.N)) → AllStand s x m more down → StandsFor s x (more ++ down) m
    top [] a = a
    top (q ∷ qs) a = a.0

-- once nothing is open and no loser is left, the pages read as what the log stands for
pub opened_reads : (s : Setting) (x : s.X) (m : s.S) (rs : List (Numbered s.C s.N)) → Formed rs → (tally rs).opened ≡ [] → (tally rs).live ≡ [] → StandsFor s x rs m
    → (o : s.O) × (s.reading (made s x rs) ≡ Some o) × (s.objects o ≡ m)
opened_reads s x m rs f none over h =
    let notes : (tally rs).notes ≡ [] = empty (tally rs).notes (subst (λ live. Each (λ n. IsStanding live (border_of n.transaction rs) n.transaction n.lsn n.undo_next) (tally rs).notes) over (sound rs f).notes) in
    let a = then_some (settled s (tally rs).opened (made s x rs)) (all_undone s (tally rs).notes) h.0 h.1 in
    let b : Some a.0 ≡ Some h.0 = subst (λ ns. all_undone s ns a.0 ≡ Some h.0) notes a.2 in
    (a.0, subst (λ ds. settled s ds (made s x rs) ≡ Some a.0) none a.1, ap s.objects (some_one a.0 h.0 b) ∙ h.2)
  where
    empty : (ns : List (Top s.C s.N)) → Each (λ n. IsStanding [] (border_of n.transaction rs) n.transaction n.lsn n.undo_next) ns → ns ≡ []
    empty [] e = refl
    empty (n ∷ ns) e = absurd (never e.0.is_live)
      where
        never : false ≡ true → ⊥
        never z = absurd (cc)

-- what is gone stays so, whatever is appended
pub gone_stays : {C N : Type 0} (at : ℕ) (r : Numbered C N) (rs : List (Numbered C N)) → at < r.lsn → IsGone at rs → IsGone at (r ∷ rs)
gone_stays {C = C} {N = N} at r rs lt h = by_kind r.is
  where
    P : Top C N → Type 0
    P n = n.lsn ≡ at → ⊥

    by_kind : (x : Record C N) → Each (λ n. n.lsn ≡ at → ⊥) (said r.lsn x (tally rs)).notes
    by_kind (Begin t p) = h
    by_kind (Change t p c) = h
    by_kind (TopEnd t p u n) = by_test (is_in t (tally rs).live)
      where
        top : Top C N
        top = record { lsn = r.lsn; transaction = t; undo_next = u; note = n; changes = changes_of (open_of t (tally rs).opened) }

        later : r.lsn ≡ at → ⊥
        later e = absurd (omega arith)

        by_test : (b : Bool) → Each (λ n. n.lsn ≡ at → ⊥) (cond b (top ∷ (tally rs).notes) (tally rs).notes)
        by_test true = (later, h)
        by_test false = h
    by_kind (PhysComp t p u c) = h
    by_kind (TopVoid t p u) = h
    by_kind (CompEnd t p u) = each_filter (λ n. n.lsn ≡ at → ⊥) (λ n. not (n.transaction == t && nat_lt u n.lsn)) (tally rs).notes h
    by_kind (Save t p m) = h
    by_kind (Commit t p) = each_filter (λ n. n.lsn ≡ at → ⊥) (λ n. not (n.transaction == t)) (tally rs).notes h
    by_kind (End t p) = each_filter (λ n. n.lsn ≡ at → ⊥) (λ n. not (n.transaction == t)) (tally rs).notes h

pub gone_later : {C N : Type 0} (at : ℕ) (more down : List (Numbered C N)) → Formed (more ++ down) → at < next_lsn down → IsGone at down → (at < next_lsn (more ++ down)) × IsGone at (more ++ down)
gone_later at [] down f lt h = (lt, h)
gone_later at (r ∷ more) down f lt h =
    let g = gone_later at more down f.2 lt h in
    (up g.0 f.0, gone_stays at r (more ++ down) (lt_le g.0 f.0) g.1)
  where
    lt_le : at < next_lsn (more ++ down) → next_lsn (more ++ down) ≤ r.lsn → at < r.lsn
    lt_le a b = omega arith

    up : at < next_lsn (more ++ down) → next_lsn (more ++ down) ≤ r.lsn → at < r.lsn + 1
    up a b = omega arith

-- the greatest note is gone once its comp-end is there
pub greatest_gone : {C N : Type 0} (rs : List (Numbered C N)) (n : Top C N) (rest : List (Top C N)) (l p : ℕ) → Formed rs → (tally rs).notes ≡ n ∷ rest → IsGone n.lsn (record { lsn = l; is = CompEnd n.transaction p n.undo_next } ∷ rs)
greatest_gone rs n rest l p f is =
    let h = sound rs f in
    let chains = subst (Pairs Chains) is h.chains in
    subst (Each (λ m. m.lsn ≡ n.lsn → ⊥)) (sym (ap (notes_up_to n.transaction n.undo_next) is ∙ greatest_goes rs n rest h is)) (each_more (Chains n) (λ m. m.lsn ≡ n.lsn → ⊥) rest (λ m z e. low z.lower e) chains.0)
  where
    low : {a b : ℕ} → a < b → a ≡ b → ⊥
    low z e = absurd (omega arith)

-- No note is undone twice: where a comp-end of an opening undid a note, a comp-end of this or a later opening, over whatever
-- was appended between, undoes another.
pub never_twice : {C N : Type 0} (rs more : List (Numbered C N)) (n : Top C N) (rest : List (Top C N)) (l p : ℕ) (m : Top C N) (others : List (Top C N))
    → Formed (more ++ (record { lsn = l; is = CompEnd n.transaction p n.undo_next } ∷ rs)) → (tally rs).notes ≡ n ∷ rest → (tally (more ++ (record { lsn = l; is = CompEnd n.transaction p n.undo_next } ∷ rs))).notes ≡ m ∷ others → m.lsn ≡ n.lsn → ⊥
never_twice {C = C} {N = N} rs more n rest l p m others f is now =
    let q : List (Numbered C N) = record { lsn = l; is = CompEnd n.transaction p n.undo_next } ∷ rs in
    let g : Formed q = formed_down more q f in
    let h = sound rs g.2 in
    let own = subst (Each (λ m. IsStanding (tally rs).live (border_of m.transaction rs) m.transaction m.lsn m.undo_next)) is h.notes in
    let gone = gone_later n.lsn more q f (low own.0.within (h.borders n.transaction) g.0) (greatest_gone rs n rest l p g.2 is) in
    (subst (Each (λ a. a.lsn ≡ n.lsn → ⊥)) now gone.1).0
  where
    low : {a b c : ℕ} → a ≤ b → b < c → c ≤ l → a < l + 1
    low x y z = omega arith

-- The loser whose walk comes to the greatest LSN has the greatest standing note.
pub greatest_found : {C N : Type 0} (rs : List (Numbered C N)) → Formed rs → (t : ℕ) (n : Top C N) (ns : List (Top C N)) → notes_of t (tally rs).notes ≡ n ∷ ns → Each (λ m. m.lsn ≤ n.lsn) (tally rs).notes
    → (rest : List (Top C N)) × ((tally rs).notes ≡ n ∷ rest)
greatest_found {C = C} {N = N} rs f t n ns is most = by_list (tally rs).notes is most (sound rs f).chains
  where
    by_list : (l : List (Top C N)) → notes_of t l ≡ n ∷ ns → Each (λ m. m.lsn ≤ n.lsn) l → Pairs Chains l → (rest : List (Top C N)) × (l ≡ n ∷ rest)
    by_list [] e g k = absurd (cc)
    by_list (a ∷ l) e g k = by_test (a.transaction == t) e
      where
        behind : notes_of t l ≡ n ∷ ns → (rest : List (Top C N)) × (a ∷ l ≡ n ∷ rest)
        behind d = absurd (low (subst (Each (Chains a)) d (each_filter (Chains a) (λ m. m.transaction == t) l k.0)).0.lower g.0)
          where
            low : n.lsn < a.lsn → a.lsn ≤ n.lsn → ⊥
            low x y = absurd (omega arith)

        by_test : (b : Bool) → cond b (a ∷ notes_of t l) (notes_of t l) ≡ n ∷ ns → (rest : List (Top C N)) × (a ∷ l ≡ n ∷ rest)
        by_test true d = (l, cc)
        by_test false d = behind d

-- what the walk of an undo of a transaction down to its begin comes to: its last standing note
pub walk_finds : {C N : Type 0} (rs : List (Numbered C N)) → Formed rs → (t : ℕ) (n : Top C N) (ns : List (Top C N)) → is_in t (tally rs).live ≡ true → notes_of t (tally rs).notes ≡ n ∷ ns
    → walk t (border_of t rs) rs ≡ Some n
walk_finds {C = C} {N = N} rs f t n ns live is =
    let h = sound rs f in
    let own : Each (λ (m : Top C N). t < m.lsn) (n ∷ ns) = subst (Each (λ m. t < m.lsn)) is
    (each_kept (λ m. IsStanding (tally rs).live (border_of m.transaction rs) m.transaction m.lsn m.undo_next) (λ m. t < m.lsn) (λ m. m.transaction == t) (tally rs).notes (λ m z e. subst (λ u. u < m.lsn) (number_is m.transaction t e) z.above) h.notes) in
    (subst (Finds rs t (border_of t rs)) is (h.finds t t live (omega arith))).0 own.0

pub walk_ends : {C N : Type 0} (rs : List (Numbered C N)) → Formed rs → (t : ℕ) → is_in t (tally rs).live ≡ true → notes_of t (tally rs).notes ≡ [] → walk t (border_of t rs) rs ≡ Option.None
walk_ends rs f t live is = subst (Finds rs t (border_of t rs)) is ((sound rs f).finds t t live (omega arith))
