use Rattle.std.proofs.Common.{◌≡◌, ◌<◌, ◌≤◌, ◌+◌, ℕ, List, true, IsTrue, refl, sym, subst, ap, ◌∙◌, arith}
use Rattle.sg_base.specs.Page.{offset_at, length_at, IsWhole}
use Rattle.sg_base.specs.Taken.{Takes, IsMet}
use Rattle.sg_base.proofs.Marked.{IsCheckedTo, checked_none, checked_full, checked_empty, meets}
use Rattle.sg_base.proofs.check.stored_bytes.Goals as goal
use Rattle.sg_base.proofs.check.stored_bytes.Goals.{then-offset-ne0+else-not-is_whole+else-not-take, else-offset-ne0}

pub slots-init : goal.slots-init
slots-init c = checked_none c.args.page.now c.args.start 64

met_there : (page : List ℕ) (s o l : ℕ) (taken : List ℕ) → o ≡ offset_at page s → l ≡ length_at page s → IsMet taken o (o + l) → IsMet taken (offset_at page s) (offset_at page s + length_at page s)
met_there page s o l taken at long m =
    let P : ℕ → Type 0 = λ x. IsMet taken x (x + l) in
    let Q : ℕ → Type 0 = λ x. IsMet taken (offset_at page s) (offset_at page s + x) in
    subst Q long (subst P at m)

pub returns-then-not-take : goal.returns-then-not-take
returns-then-not-take c =
    let page : List ℕ = c.args.page.now in
    let full : 0 < offset_at page c.slots.slot = omega arith in
    meets page c.args.start c.slots.slot c.args.count c.slots.taken c.slots.bytes c.slots.invariant c.slots-test.true full
    (met_there page c.slots.slot c.u16_at-offset.result c.u16_at-size.result c.slots.taken c.u16_at-offset.ensures c.u16_at-size.ensures c.if-not-take.ensures)

taken_there : (page : List ℕ) (s o l : ℕ) (taken new : List ℕ) → o ≡ offset_at page s → l ≡ length_at page s → Takes taken new o (o + l) → Takes taken new (offset_at page s) (offset_at page s + length_at page s)
taken_there page s o l taken new at long t =
    let P : ℕ → Type 0 = λ x. Takes taken new x (x + l) in
    let Q : ℕ → Type 0 = λ x. Takes taken new (offset_at page s) (offset_at page s + x) in
    subst Q long (subst P at t)

whole_there : (page : List ℕ) (start s o l : ℕ) → o ≡ offset_at page s → l ≡ length_at page s → 24 ≤ o → (0 < l → start ≤ o) → o + l ≤ 4096 → IsWhole page start s
whole_there page start s o l at long fields from to = record { behind_fields = omega arith; from = λ some. (let f : start ≤ o = from (omega arith) in omega arith); to = omega arith }

at_last : (page : List ℕ) (start n : ℕ) (taken final : List ℕ) (bytes total : ℕ) → IsCheckedTo page start n taken bytes → final ≡ taken → total ≡ bytes → IsCheckedTo page start n final total
at_last page start n taken final bytes total h e f =
    let P : List ℕ → Type 0 = λ x. IsCheckedTo page start n x bytes in
    let Q : ℕ → Type 0 = λ x. IsCheckedTo page start n final x in
    subst Q (sym f) (subst P (sym e) h)

pub slots-preserved : goal.slots-preserved
slots-preserved c =
    let page : List ℕ = c.args.page.now in
    let s : ℕ = c.slots.slot in
    let start : ℕ = c.args.start in
    let o : ℕ = c.u16_at-offset.result in
    let l : ℕ = c.u16_at-size.result in
    elim c.if-offset-ne0.branch [
      | then-offset-ne0+else-not-is_whole+else-not-take w ↦
          let full : 0 < offset_at page s = omega arith in
          let whole : IsTrue true → (24 ≤ o) × (0 < l → start ≤ o) × (o + l ≤ 4096) = w.if-not-is_whole.ensures.0 in
          let parts = whole refl in
          let size : c.u16_at-size.result ≡ length_at page s = c.u16_at-size.ensures in
          at_last page start (s + 1) w.take.new.taken c.if-offset-ne0.taken (c.slots.bytes + length_at page s) c.if-offset-ne0.bytes
          (checked_full page start s c.slots.taken w.take.new.taken c.slots.bytes c.requires.size c.slots.invariant full
          (whole_there page start s o l c.u16_at-offset.ensures c.u16_at-size.ensures parts.0 parts.1 parts.2)
          (taken_there page s o l c.slots.taken w.take.new.taken c.u16_at-offset.ensures c.u16_at-size.ensures w.if-not-take.ensures)) w.taken-is (w.bytes-is ∙ ap (λ (k : ℕ). c.slots.bytes + k) size)
      | else-offset-ne0 w ↦
          let empty : offset_at page s ≡ 0 = omega arith in
          at_last page start (s + 1) c.slots.taken c.if-offset-ne0.taken c.slots.bytes c.if-offset-ne0.bytes (checked_empty page start s c.slots.taken c.slots.bytes c.slots.invariant empty) w.taken-is w.bytes-is
    ]
