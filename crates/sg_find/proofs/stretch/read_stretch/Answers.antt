use Rattle.std.proofs.Common.{◌≡◌, ◌⊎◌, inl, inr, ⊎_elim, ◌+◌, ◌-◌, ◌≤◌, ℕ, ◌++◌, length, take, drop, min, false, Result, Ok, Err, OnOk, refl, sym, ap, ◌∙◌, subst, arith, length-take}
use Rattle.std.specs.Result.{is_err}
use Rattle.std.proofs.lemmas.Bool.{cases_lt}
use Rattle.sg_log.specs.Frames.{gate_after}
use Rattle.sg_log.proofs.Windows.{window-length}
use Rattle.sg_places.specs.Text.{IsStretch}
use Rattle.sg_find.proofs.Reading.{frames_all, stretch_text, stretch_is, stretch_some}
use Rattle.sg_find.proofs.stretch.read_stretch.Goals as goal

on_ok : {T E : Type 0} {P : Type 0} (r : Result T E) → false ≡ is_err r → OnOk r P → P
on_ok (Ok x) e p = p
on_ok (Err x) e p = absurd cc

pub read_at-requires : goal.read_at-requires
read_at-requires g c =
    let least = c.min-size.ensures in
    omega (arith, least, length-take c.min-size.result c.args.space.now, c.requires.there, c.requires.within)

pub returns-then-whole-eq0-clause-refused : goal.returns-then-whole-eq0-clause-refused
returns-then-whole-eq0-clause-refused g c frames told stand is room =
    let f = ((g.D.Disk.view c.args.disk.now).now c.args.area).seen in
    let least = c.min-size.ensures in
    let size = length (take c.min-size.result c.args.space.now) in
    let small : size ≡ c.min-size.result = length-take c.min-size.result c.args.space.now ∙ omega (arith, least) in
    let read = on_ok c.read_at.result (sym c.if-is_err.false ∙ c.is_err.ensures.value) (c.read_at.ensures.bytes told) in
    let text = read ∙ stretch_text f c.args.at size frames stand (omega (arith, least, small, is, c.requires.there)) in
    let s = c.whole_frames-whole.ensures.stretch frames size (frames_all f c.args.at frames stand) text in
    let long : length c.read_at.new.into ≡ size = ap length read ∙ window-length f c.args.at size in
    absurd (stretch_some f c.args.at frames c.read_at.new.into size stand (omega (arith, is, c.requires.there))
    (by_least (gate_after c.args.at frames - c.args.at) (length c.args.space.now) (length c.read_at.new.into) (long ∙ (small ∙ (least ∙ ap (λ (n : ℕ). min (n - c.args.at) (length c.args.space.now)) is))) room)
    (subst (λ (n : ℕ). IsStretch frames c.read_at.new.into n) c.if-whole-eq0.true s))
  where
    by_least : (a b n : ℕ) → n ≡ min a b → 65541 ≤ b → (n ≡ a) ⊎ (65541 ≤ n)
    by_least a b n is room = ⊎_elim (λ lt. inl (is ∙ omega arith)) (λ le. inr (omega arith)) (cases_lt a b)

pub returns-clause-stretch : goal.returns-clause-stretch
returns-clause-stretch g c frames told stand is room =
    let f = ((g.D.Disk.view c.args.disk.now).now c.args.area).seen in
    let least = c.min-size.ensures in
    let size = length (take c.min-size.result c.args.space.now) in
    let small : size ≡ c.min-size.result = length-take c.min-size.result c.args.space.now ∙ omega (arith, least) in
    let read = on_ok c.read_at.result (sym c.if-is_err.false ∙ c.is_err.ensures.value) (c.read_at.ensures.bytes told) in
    let text = read ∙ stretch_text f c.args.at size frames stand (omega (arith, least, small, is, c.requires.there)) in
    stretch_is f c.args.at size c.whole_frames-whole.result frames c.read_at.new.into (c.read_at.new.into ++ drop c.min-size.result c.args.space.now) (drop c.min-size.result c.args.space.now)
    c.whole_frames-whole.ensures.within refl (c.whole_frames-whole.ensures.stretch frames size (frames_all f c.args.at frames stand) text)
