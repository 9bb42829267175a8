-- Steps that touch nothing in conflict can change places.
use Rattle.std.proofs.Common.{◌≡◌, Bool, true, false, List, [], ◌∷◌, refl, sym, ap, ◌∙◌, ◌⊎◌}
use Rattle.std.proofs.Common.{inl, inr}
use Rattle.std.specs.Prelude.{◌||◌}
use Rattle.sg_serial.specs.Machine.{any_touch, IsClearOf, Agree, HasFootprint}

pub true_or_false : (b : Bool) → (b ≡ true) ⊎ (b ≡ false)
true_or_false true = inl refl
true_or_false false = inr refl

pub or_false : (a b : Bool) → a ≡ false → b ≡ false → (a || b) ≡ false
or_false true b h i = absurd (cc)
or_false false b h i = i

pub or_true : (a b : Bool) → (a || b) ≡ true → (a ≡ true) ⊎ (b ≡ true)
or_true true b h = inl refl
or_true false b h = inr h

pub or_left : (a b : Bool) → a ≡ true → (a || b) ≡ true
or_left true b h = refl
or_left false b h = absurd (cc)

pub or_right : (a b : Bool) → b ≡ true → (a || b) ≡ true
or_right true b h = refl
or_right false b h = h

pub any_more : {Touch Cell : Type 0} (f g : Touch → Cell → Bool) (ts : List Touch) (c : Cell) → ((a : Touch) → f a c ≡ true → g a c ≡ true) → any_touch f ts c ≡ true → any_touch g ts c ≡ true
any_more f g [] c m h = absurd (cc)
any_more f g (t ∷ ts) c m h = elim (or_true (f t c) (any_touch f ts c) h) [ inl i ↦ or_left (g t c) (any_touch g ts c) (m t i) | inr i ↦ or_right (g t c) (any_touch g ts c) (any_more f g ts c m i) ]

module _ {S Op Out Cell Touch : Type 0} (Value : Cell → Type 0) (step : S → Op → Out × S) (cell : S → (c : Cell) → Value c) (touches : S → Op → List Touch) (reads writes : Touch → Cell → Bool) (law : HasFootprint Value step cell touches reads writes) where
  pub record Commute (s : S) (a b : Op) : Type 0 where
    pub touched_second : touches (step s a).1 b ≡ touches s b
    pub given_second : (step (step s a).1 b).0 ≡ (step s b).0
    pub touched_first : touches (step s b).1 a ≡ touches s a
    pub given_first : (step (step s b).1 a).0 ≡ (step s a).0
    pub same : (step (step s a).1 b).1 ≡ (step (step s b).1 a).1

  unwritten : (xs ys : List Touch) → IsClearOf reads writes xs ys → (c : Cell) → any_touch reads ys c ≡ true → any_touch writes xs c ≡ false
  unwritten xs ys h c r = elim (true_or_false (any_touch writes xs c)) [ inl w ↦ (let n : any_touch reads ys c ≡ false = h c w in absurd (cc)) | inr n ↦ n ]

  pub commute : (s : S) (a b : Op) → IsClearOf reads writes (touches s a) (touches (step s a).1 b) → IsClearOf reads writes (touches (step s a).1 b) (touches s a) → Commute s a b
  commute s a b h i =
      let x : S = (step s a).1 in
      let y : S = (step s b).1 in
      let agree_x : Agree Value step cell touches reads writes (touches x b) x s = λ c r. law.frame s a c (unwritten (touches s a) (touches x b) h c r) in
      let tb : touches s b ≡ touches x b = law.touched x s b agree_x in
      let agree_y : Agree Value step cell touches reads writes (touches s a) s y = λ c r. sym (law.frame s b c (ap (λ (ts : List Touch). any_touch writes ts c) tb ∙ unwritten (touches x b) (touches s a) i c r)) in
      let ta : touches y a ≡ touches s a = law.touched s y a agree_y in
      record {
        touched_second = sym tb;
        given_second = sym (law.given x s b agree_x);
        touched_first = ta;
        given_first = law.given s y a agree_y;
        same = law.exact _ _ (λ c. elim (true_or_false (any_touch writes (touches s a) c)) [
          | inl wa ↦ (let nb : any_touch writes (touches x b) c ≡ false = unwritten (touches x b) (touches s a) i c (any_more writes reads (touches s a) c (λ t w. law.read t c w) wa) in
              law.frame x b c nb ∙ sym (law.changed s y a agree_y c wa))
          | inr na ↦ elim (true_or_false (any_touch writes (touches x b) c)) [
            | inl wb ↦ sym (law.changed x s b agree_x c wb) ∙ sym (law.frame y a c (ap (λ (ts : List Touch). any_touch writes ts c) ta ∙ na))
            | inr nb ↦ law.frame x b c nb ∙ (law.frame s a c na ∙ (sym (law.frame s b c (ap (λ (ts : List Touch). any_touch writes ts c) tb ∙ nb)) ∙ sym (law.frame y a c (ap (λ (ts : List Touch). any_touch writes ts c) ta ∙ na))))
          ]
        ]);
      }
