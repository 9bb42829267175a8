-- A page that was taken, and isn't any more.
use Rattle.std.proofs.Common.{◌≡◌, ◌≢◌, ℕ, ◌==◌, ◌<◌, List, [], ◌∷◌, length, Some, Bool, true, false, sym, ap, subst, ◌∙◌, refl, arith, slice_get, slice_set, inl, inr}
use Rattle.std.specs.Prelude.{◌&&◌}
use Rattle.std.proofs.lemmas.Bool.{cases_eq, cases_Bool}
use Rattle.std.proofs.lemmas.Bool.Decides.{nat_tests}
use Rattle.std.proofs.lemmas.List.{length-set}
use Rattle.std.proofs.lemmas.Option.{slice_get_within}
use Rattle.sg_base.specs.Op.{is_format}
use Rattle.sg_record.specs.Changes.{PageChange, BandOp}
use Rattle.sg_record.specs.Changes.Change.{Page, SegOp}
use Rattle.sg_action.specs.States.{Change}
use Rattle.sg_action.specs.States.Change.{Paint}
use Rattle.sg_action.specs.Opened.{formats}
use Rattle.sg_actions.specs.Changes.{meaning, op_said}
use Rattle.sg_actions.specs.Taken.{is_set, is_there, fills, AreFlags, IsUntaken, IsUntakenBand}
use Rattle.sg_actions.proofs.Flags.{and_right}
use Rattle.sg_actions.proofs.Taking.{set_here, set_there}

-- only the first operation takes a page
pub is_first : (c : PageChange) → c.operation ≢ 1 → is_format (op_said c) ≡ false
is_first c ne = elim (cases_Bool (c.operation == 1)) [
  | inl a ↦ absurd (ne (grind (arith, nat_tests, a)))
  | inr a ↦ elim (cases_Bool (c.operation == 2)) [
    | inl b ↦ rw a (rw b refl)
    | inr b ↦ elim (cases_Bool (c.operation == 3)) [
      | inl d ↦ rw a (rw b (rw d refl))
      | inr d ↦ elim (cases_Bool (c.operation == 4)) [
        | inl e ↦ rw a (rw b (rw d (rw e refl)))
        | inr e ↦ elim (cases_Bool (c.operation == 5)) [
          | inl f ↦ rw a (rw b (rw d (rw e (rw f refl))))
          | inr f ↦ elim (cases_Bool (c.operation == 6)) [
            | inl g ↦ rw a (rw b (rw d (rw e (rw f (rw g refl)))))
            | inr g ↦ rw a (rw b (rw d (rw e (rw f (rw g refl)))))
          ]
        ]
      ]
    ]
  ]
]

pub no_page : (c : PageChange) → c.operation ≢ 1 → (n : ℕ) → formats (meaning (Page c)) n ≡ false
no_page c ne n = ap (λ (b : Bool). b && (n == c.page)) (is_first c ne)

no : false ≡ true → ⊥
no e = cc

-- where nothing was taken, nothing is freed
pub untaken_none : (taken unfreed : List Bool) (d : Change) → AreFlags taken unfreed → ((n : ℕ) → formats d n ≡ true → is_there taken unfreed n ≡ true → ⊥) → IsUntaken taken unfreed taken d
untaken_none taken unfreed d h none = record { here = λ n f there. absurd (none n f there); there = λ n f. refl; less = λ n e. e; flags = h }

pub untaken_page : (taken unfreed taken' : List Bool) (c : PageChange) → AreFlags taken unfreed → is_there taken unfreed c.page ≡ true → slice_get taken c.page ≡ Some true → taken' ≡ slice_set taken c.page false → c.operation ≡ 1 → IsUntaken taken unfreed taken' (meaning (Page c))
untaken_page taken unfreed taken' c h there is e one = subst (λ (xs : List Bool). IsUntaken taken unfreed xs (meaning (Page c))) (sym e) (record {
  here = λ n f t. ap (is_set (slice_set taken c.page false)) (same n f) ∙ set_here taken c.page false below;
  there = λ n f. set_there taken c.page n false (λ s. no (sym f ∙ at n s));
  less = λ n s. elim (cases_eq n c.page) [
    | inl k ↦ absurd (no (sym (set_here taken c.page false below) ∙ (ap (is_set (slice_set taken c.page false)) (sym k) ∙ s)))
    | inr k ↦ sym (set_there taken c.page n false k) ∙ s
  ];
  flags = record {
    long = h.long ∙ sym (length-set taken c.page false);
    inside = λ n less clear. elim (cases_eq n c.page) [
      | inl k ↦ absurd (no (sym clear ∙ (ap (is_set unfreed) k ∙ and_right (is_set taken c.page) (is_set unfreed c.page) there)))
      | inr k ↦ set_there taken c.page n false k ∙ h.inside n (let l = length-set taken c.page false in omega (arith, less, l)) clear
    ];
    few = let l = length-set taken c.page false in omega (arith, l, h.few);
  };
})
  where
    below : c.page < length taken
    below = slice_get_within taken c.page true is

    same : (n : ℕ) → formats (meaning (Page c)) n ≡ true → n ≡ c.page
    same n f = let e : (n == c.page) ≡ true = and_right (is_format (op_said c)) (n == c.page) f in grind (arith, nat_tests, e)

    at : (n : ℕ) → n ≡ c.page → formats (meaning (Page c)) n ≡ true
    at n s =
        let t : (c.operation == 1) ≡ true = grind (arith, nat_tests, one) in
        let f : is_format (op_said c) ≡ true = rw t refl in
        let g : (n == c.page) ≡ true = grind (arith, nat_tests, s) in
        λ j. f j && g j

-- the change takes its own page alone
pub taken_only : (c : PageChange) (n : ℕ) → formats (meaning (Page c)) n ≡ true → n ≡ c.page
taken_only c n f = let e : (n == c.page) ≡ true = and_right (is_format (op_said c)) (n == c.page) f in grind (arith, nat_tests, e)

-- the same of bands
pub untaken_band_none : (taken unfreed : List Bool) (d : Change) → AreFlags taken unfreed → ((n : ℕ) → fills d n ≡ true → is_there taken unfreed n ≡ true → ⊥) → IsUntakenBand taken unfreed taken d
untaken_band_none taken unfreed d h none = record { here = λ n f there. absurd (none n f there); there = λ n f. refl; less = λ n e. e; flags = h }

fills_is : (c : BandOp) (n : ℕ) → fills (meaning (SegOp c)) n ≡ true → (n ≡ c.band) × (c.before ≡ [])
fills_is c n f = by c.before refl f
  where
    by : (before : List ℕ) → c.before ≡ before → fills (Paint c.band c.at c.count c.code c.position c.arg before) n ≡ true → (n ≡ c.band) × (c.before ≡ [])
    by [] e k = (grind (arith, nat_tests, k), e)
    by (y ∷ ys) e k = absurd (cc)

pub fills_own : (c : BandOp) (n : ℕ) → fills (meaning (SegOp c)) n ≡ true → n ≡ c.band
fills_own c n f = (fills_is c n f).0

pub fills_none : (c : BandOp) (n : ℕ) → length c.before ≢ 0 → fills (meaning (SegOp c)) n ≡ true → ⊥
fills_none c n some f = some (ap length (fills_is c n f).1)

fills_there : (c : BandOp) (n : ℕ) → length c.before ≡ 0 → n ≡ c.band → fills (meaning (SegOp c)) n ≡ true
fills_there c n none e = by c.before refl none
  where
    by : (before : List ℕ) → c.before ≡ before → length before ≡ 0 → fills (Paint c.band c.at c.count c.code c.position c.arg before) n ≡ true
    by [] is k = grind (arith, nat_tests, e)
    by (y ∷ ys) is k = absurd (omega (arith, k))

pub untaken_band : (taken unfreed taken' : List Bool) (c : BandOp) → AreFlags taken unfreed → is_there taken unfreed c.band ≡ true → slice_get taken c.band ≡ Some true → taken' ≡ slice_set taken c.band false → length c.before ≡ 0 → IsUntakenBand taken unfreed taken' (meaning (SegOp c))
untaken_band taken unfreed taken' c h there is e empty = subst (λ (xs : List Bool). IsUntakenBand taken unfreed xs (meaning (SegOp c))) (sym e) (record {
  here = λ n f t. ap (is_set (slice_set taken c.band false)) (fills_own c n f) ∙ set_here taken c.band false below;
  there = λ n f. set_there taken c.band n false (λ s. no (sym f ∙ fills_there c n empty s));
  less = λ n s. elim (cases_eq n c.band) [
    | inl k ↦ absurd (no (sym (set_here taken c.band false below) ∙ (ap (is_set (slice_set taken c.band false)) (sym k) ∙ s)))
    | inr k ↦ sym (set_there taken c.band n false k) ∙ s
  ];
  flags = record {
    long = h.long ∙ sym (length-set taken c.band false);
    inside = λ n less clear. elim (cases_eq n c.band) [
      | inl k ↦ absurd (no (sym clear ∙ (ap (is_set unfreed) k ∙ and_right (is_set taken c.band) (is_set unfreed c.band) there)))
      | inr k ↦ set_there taken c.band n false k ∙ h.inside n (let l = length-set taken c.band false in omega (arith, less, l)) clear
    ];
    few = let l = length-set taken c.band false in omega (arith, l, h.few);
  };
})
  where
    below : c.band < length taken
    below = slice_get_within taken c.band true is
