-- What comes back is what the inverses give.
use Rattle.std.proofs.Common.{◌≡◌, ◌≢◌, ℕ, ◌<◌, ◌≤◌, nat_lt, List, [], ◌∷◌, Some, None, Bool, true, false, sym, ap, subst, ◌∙◌, refl, arith, inl, inr}
use Rattle.std.specs.Prelude.{map, if◌then◌else◌}
use Rattle.std.proofs.lemmas.Bool.{cases_eq}
use Rattle.sg_base.proofs.Overwriting.{overwritten_none}
use Rattle.sg_base.specs.Overwritten.{overwritten}
use Rattle.sg_ops.specs.Table.{Table}
use Rattle.sg_record.specs.Changes.{Change as Changing}
use Rattle.sg_record.specs.Changes.Change.{Page, SegWrite, SegOp}
use Rattle.sg_action.specs.Opened.{IsNotFilled, put_back}
use Rattle.sg_action.specs.States.{State, with_one, apply, inverse_of}
use Rattle.sg_action.specs.States.Change.{Paint}
use Rattle.sg_action.proofs.Opened.{one_here, one_there}
use Rattle.sg_recovery.proofs.Basic.{lt_is, lt_not}
use Rattle.sg_recovery.specs.Chains.{Formed}
use Rattle.sg_recovery.specs.Log.{tally, notes_of}
use Rattle.sg_actions.specs.Changes.{meaning}
use Rattle.sg_actions.specs.Notes.{NextIsFirst, GivesAsPut}
use Rattle.sg_actions.specs.Steps.{Steps}
use Rattle.sg_actions.specs.Counts.{Note}
use Rattle.sg_actions.specs.Undoing.{first_behind, next_note, stood_of, with_stood, given_back, all_given_back}
use Rattle.sg_actions.proofs.Walking.{next_is_first, same_some, none_some}

none_left : (rs : Steps) (txn : ℕ) → Formed rs → next_note txn txn rs ≡ None → notes_of txn (tally rs).notes ≡ []
none_left rs txn f h = by (notes_of txn (tally rs).notes) refl
  where
    by : (ns : List Note) → notes_of txn (tally rs).notes ≡ ns → notes_of txn (tally rs).notes ≡ []
    by [] e = e
    by (n ∷ ns) e = absurd (none_some n (sym h ∙ next_is_first rs txn n ns f e))

first_of : (ns : List Note) (stop : ℕ) (n : Note) → first_behind stop ns ≡ Some n → (rest : List Note) × (ns ≡ n ∷ rest) × (stop < n.lsn)
first_of [] stop n e = absurd (none_some n e)
first_of (m ∷ ns) stop n e = by (nat_lt stop m.lsn) refl e
  where
    by : (b : Bool) → nat_lt stop m.lsn ≡ b → (if b then Some m else None) ≡ Some n → (rest : List Note) × ((m ∷ ns) ≡ n ∷ rest) × (stop < n.lsn)
    by true k s = let same : m ≡ n = same_some m n s in (ns, ap (λ (x : Note). x ∷ ns) same, subst (λ (x : Note). stop < x.lsn) same (lt_is stop m.lsn k))
    by false k s = absurd (none_some n s)

pub next_first : NextIsFirst
next_first = record {
  none = none_left;
  first = λ rs txn n ns f e. next_is_first rs txn n ns f e;
  some = λ rs txn stop n e. first_of (notes_of txn (tally rs).notes) stop n e;
}

stood_pages : (outside band at : ℕ) (bytes : List ℕ) (x : State) → (with_stood (stood_of outside band at bytes) x).pages ≡ x.pages
stood_pages outside band at [] x = refl
stood_pages outside band at (y ∷ ys) x = by (nat_lt band outside)
  where
    by : (k : Bool) → (with_stood (if k then None else Some (band, (at, y ∷ ys))) x).pages ≡ x.pages
    by true = refl
    by false = refl

given_pages : (outside : ℕ) (c : Changing) (x : State) → (given_back outside c x).pages ≡ x.pages
given_pages outside (Page c) x = refl
given_pages outside (SegWrite c) x = stood_pages outside c.band c.at c.before x
given_pages outside (SegOp c) x = stood_pages outside c.band c.at c.before x

all_pages : (outside : ℕ) (cs : List Changing) (x : State) → (all_given_back outside cs x).pages ≡ x.pages
all_pages outside [] x = refl
all_pages outside (c ∷ cs) x = all_pages outside cs (given_back outside c x) ∙ given_pages outside c x

-- the bands before these stay
stood_inside : (outside band at : ℕ) (bytes : List ℕ) (x : State) (b : ℕ) → b < outside → (with_stood (stood_of outside band at bytes) x).bands b ≡ x.bands b
stood_inside outside band at [] x b low = refl
stood_inside outside band at (y ∷ ys) x b low = by (nat_lt band outside) refl
  where
    by : (k : Bool) → nat_lt band outside ≡ k → (with_stood (if k then None else Some (band, (at, y ∷ ys))) x).bands b ≡ x.bands b
    by true e = refl
    by false e = one_there x.bands band b (overwritten (x.bands band) at (y ∷ ys)) (λ same. let far = lt_not band outside e in absurd (omega (arith, same, far, low)))

given_inside : (outside : ℕ) (c : Changing) (x : State) (b : ℕ) → b < outside → (given_back outside c x).bands b ≡ x.bands b
given_inside outside (Page c) x b low = refl
given_inside outside (SegWrite c) x b low = stood_inside outside c.band c.at c.before x b low
given_inside outside (SegOp c) x b low = stood_inside outside c.band c.at c.before x b low

all_inside : (outside : ℕ) (cs : List Changing) (x : State) (b : ℕ) → b < outside → (all_given_back outside cs x).bands b ≡ x.bands b
all_inside outside [] x b low = refl
all_inside outside (c ∷ cs) x b low = all_inside outside cs (given_back outside c x) b low ∙ given_inside outside c x b low

-- one part of a band, in two states that have the same there
stood_same : (outside band at : ℕ) (bytes : List ℕ) (x y : State) (b : ℕ) → outside ≤ b → x.bands b ≡ y.bands b → (with_stood (stood_of outside band at bytes) x).bands b ≡ with_one y.bands band (overwritten (y.bands band) at bytes) b
stood_same outside band at [] x y b far e = elim (cases_eq b band) [
  | inl same ↦ e ∙ sym (ap (with_one y.bands band (overwritten (y.bands band) at [])) same ∙ (one_here y.bands band (overwritten (y.bands band) at []) ∙ (overwritten_none (y.bands band) at [] refl ∙ ap y.bands (sym same))))
  | inr ne ↦ e ∙ sym (one_there y.bands band b (overwritten (y.bands band) at []) ne)
]
stood_same outside band at (z ∷ zs) x y b far e = by (nat_lt band outside) refl
  where
    written : (with_stood (Some (band, (at, z ∷ zs))) x).bands b ≡ with_one y.bands band (overwritten (y.bands band) at (z ∷ zs)) b
    written = elim (cases_eq b band) [
      | inl same ↦
          let at_band : x.bands band ≡ y.bands band = ap x.bands (sym same) ∙ (e ∙ ap y.bands same) in
          ap (with_one x.bands band (overwritten (x.bands band) at (z ∷ zs))) same ∙ (one_here x.bands band (overwritten (x.bands band) at (z ∷ zs))
          ∙ (ap (λ (xs : List ℕ). overwritten xs at (z ∷ zs)) at_band ∙ sym (ap (with_one y.bands band (overwritten (y.bands band) at (z ∷ zs))) same ∙ one_here y.bands band (overwritten (y.bands band) at (z ∷ zs)))))
      | inr ne ↦ one_there x.bands band b (overwritten (x.bands band) at (z ∷ zs)) ne ∙ (e ∙ sym (one_there y.bands band b (overwritten (y.bands band) at (z ∷ zs)) ne))
    ]

    by : (k : Bool) → nat_lt band outside ≡ k → (with_stood (if k then None else Some (band, (at, z ∷ zs))) x).bands b ≡ with_one y.bands band (overwritten (y.bands band) at (z ∷ zs)) b
    by false f = written
    by true f = e ∙ sym (one_there y.bands band b (overwritten (y.bands band) at (z ∷ zs)) (λ same. let low = lt_is band outside f in absurd (omega (arith, same, far, low))))

all_same : (outside : ℕ) (t : Table) (cs : List Changing) (x y : State) (b : ℕ) → outside ≤ b → IsNotFilled (map meaning cs) b → x.bands b ≡ y.bands b → (all_given_back outside cs x).bands b ≡ (put_back t (map meaning cs) y).bands b
all_same outside t [] x y b far h e = e
all_same outside t (Page c ∷ cs) x y b far h e = all_same outside t cs x y b far h e
all_same outside t (SegWrite c ∷ cs) x y b far h e = all_same outside t cs (given_back outside (SegWrite c) x) (apply t y (inverse_of (meaning (SegWrite c)))) b far h (stood_same outside c.band c.at c.before x y b far e)
all_same outside t (SegOp c ∷ cs) x y b far h e = by c.before refl (λ u v k w. all_same outside t cs u v b far k w)
  where
    by : (before : List ℕ) → c.before ≡ before → ((u v : State) → IsNotFilled (map meaning cs) b → u.bands b ≡ v.bands b → (all_given_back outside cs u).bands b ≡ (put_back t (map meaning cs) v).bands b)
        → (all_given_back outside (SegOp c ∷ cs) x).bands b ≡ (put_back t (map meaning (SegOp c ∷ cs)) y).bands b
    by [] is more =
        let not_it : (b ≢ c.band) × IsNotFilled (map meaning cs) b = subst (λ (xs : List ℕ). IsNotFilled (Paint c.band c.at c.count c.code c.position c.arg xs ∷ map meaning cs) b) is h in
        subst (λ (xs : List ℕ). (all_given_back outside cs (with_stood (stood_of outside c.band c.at xs) x)).bands b ≡ (put_back t (Paint c.band c.at c.count c.code c.position c.arg xs ∷ map meaning cs) y).bands b) (sym is)
        (more x (apply t y (inverse_of (Paint c.band c.at c.count c.code c.position c.arg []))) not_it.1 (e ∙ sym (one_there y.bands c.band b _ not_it.0)))
    by (z ∷ zs) is more =
        let rest : IsNotFilled (map meaning cs) b = subst (λ (xs : List ℕ). IsNotFilled (Paint c.band c.at c.count c.code c.position c.arg xs ∷ map meaning cs) b) is h in
        subst (λ (xs : List ℕ). (all_given_back outside cs (with_stood (stood_of outside c.band c.at xs) x)).bands b ≡ (put_back t (Paint c.band c.at c.count c.code c.position c.arg xs ∷ map meaning cs) y).bands b) (sym is)
        (more (with_stood (stood_of outside c.band c.at (z ∷ zs)) x) (apply t y (inverse_of (Paint c.band c.at c.count c.code c.position c.arg (z ∷ zs)))) rest (stood_same outside c.band c.at (z ∷ zs) x y b far e))

pub gives_as_put : GivesAsPut
gives_as_put = record { pages = all_pages; inside = all_inside; bands = λ outside t cs x b far h. all_same outside t cs x x b far h refl }
