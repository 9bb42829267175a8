use Rattle.std.proofs.Common.{sym, ap, ◌∙◌, refl, ℕ, List, Some}
use Rattle.std.proofs.lemmas.Result.{err_from_is_err_and}
use Rattle.sg_base.specs.Sheet.{sheet_of}
use Rattle.sg_ops.specs.Table.{Table}
use Rattle.sg_actions.proofs.Calling.{LooksBy, same_any}
use Rattle.sg_unread.specs.Looks.{looks_same}
use Rattle.sg_unread.specs.Unread.{filled}
use Rattle.sg_unread.proofs.Looking.{looks_once, by_looks, looks_ok, looks_err_is, breaks_at_once, none_looked, is_below, readable_back, none_behind, blank_filled, sheet_filled, is_nothing}
use Rattle.sg_unread.proofs.space.UnreadSpacePageSpace.page.Goals as goal

pub invariant_of-self-clause-unbroken : goal.invariant_of-self-clause-unbroken
invariant_of-self-clause-unbroken g c = λ w. absurd (let s = c.args.self.now in none_behind c.args.p.0 s.pages (filled (sheet_of s.blank) (g.E.Engine.view s.engine).now) c.if-p-self.true (c.requires w))

pub invariant_of-self-2-clause-unbroken : goal.invariant_of-self-2-clause-unbroken
invariant_of-self-2-clause-unbroken g c = λ w.
    let s = c.args.self.now in
    let k = c.look.ensures in
    let by : (t : Table) → LooksBy g.E.Engine.recovers t (g.E.Engine.view s.engine) (g.E.Engine.view c.look.new.self) (g.E.Engine.means s.engine) (g.E.Engine.means c.look.new.self) c.look.result = λ t. record { rests = k.rests; keeps = λ from m. k.means t from m; looks = λ from m. k.looks t from m; whole = g.met.E.Engine.told_whole _; full = g.met.E.Engine.full_failed _; now = λ from m. g.met.E.Engine.now_is _ t from m; now' = λ from m. g.met.E.Engine.now_is _ t from m } in
    s.unbroken (readable_back k.rests.counts.told (same_any (g.met.E.Engine.some s.engine) by) w)

pub returns-then-p-self : goal.returns-then-p-self
returns-then-p-self g c =
    let s = c.args.self.now in
    let e = g.E.Engine.view s.engine in
    let later = λ (t : Table). looks_same g.E.Engine.recovers t e (g.E.Engine.means s.engine) (g.met.E.Engine.told_whole _) (λ from m told. g.met.E.Engine.images s.engine t from m told) in
    let k = c.count_break.ensures in ((refl, λ s. tt, breaks_at_once e (sheet_of s.blank) s.pages s.bands s.breaks c.count_break.new.breaks _ _ c.count_break.result k.answer k.later k.risen (λ t. (later t, refl, refl)) (λ t h. h)), record { looked = tt; after = tt })

pub returns : goal.returns
returns g c =
    let s = c.args.self.now in
    let e = g.E.Engine.view s.engine in
    let e' = g.E.Engine.view c.look.new.self in
    let k = c.look.ensures in
    let by : (t : Table) → LooksBy g.E.Engine.recovers t e e' (g.E.Engine.means s.engine) (g.E.Engine.means c.look.new.self) c.look.result = λ t. record { rests = k.rests; keeps = λ from m. k.means t from m; looks = λ from m. k.looks t from m; whole = g.met.E.Engine.told_whole _; full = g.met.E.Engine.full_failed _; now = λ from m. g.met.E.Engine.now_is _ t from m; now' = λ from m. g.met.E.Engine.now_is _ t from m } in
    let later = λ (t : Table). looks_once (by t) in
    let same = same_any (g.met.E.Engine.some s.engine) by in
    let h = c.in_ok-look.ensures.rests in (
      (refl, λ s. tt, looks_ok e e' (sheet_of s.blank) s.pages s.bands s.breaks _ _ _ c.page.result h same (λ t. (later t, refl, refl)) (λ t. by_looks (later t))),
      record {
        looked = λ told. is_below c.args.p.0 s.pages (filled (sheet_of s.blank) e.now) c.if-p-self.false ∙ sheet_filled (sheet_of s.blank) e.now c.args.p.0 _ (ap (λ x. x.pages c.args.p.0) (sym (same told (h.counts.tells told)).now) ∙ c.page.ensures);
        after = tt;
      },
    )

pub returns-then-not-branch : goal.returns-then-not-branch
returns-then-not-branch g c =
    let s = c.args.self.now in
    let e = g.E.Engine.view s.engine in
    let e' = g.E.Engine.view c.look.new.self in
    let k = c.look.ensures in
    let by : (t : Table) → LooksBy g.E.Engine.recovers t e e' (g.E.Engine.means s.engine) (g.E.Engine.means c.look.new.self) c.look.result = λ t. record { rests = k.rests; keeps = λ from m. k.means t from m; looks = λ from m. k.looks t from m; whole = g.met.E.Engine.told_whole _; full = g.met.E.Engine.full_failed _; now = λ from m. g.met.E.Engine.now_is _ t from m; now' = λ from m. g.met.E.Engine.now_is _ t from m } in
    let later = λ (t : Table). looks_once (by t) in
    let same = same_any (g.met.E.Engine.some s.engine) by in
    let h = c.in_ok-look.ensures.rests in (
      (refl, λ s. tt, looks_ok e e' (sheet_of s.blank) s.pages s.bands s.breaks _ _ _ c.new.result h same (λ t. (later t, refl, refl)) (λ t. by_looks (later t))),
      record {
        looked = λ told. is_below c.args.p.0 s.pages (filled (sheet_of s.blank) e.now) c.if-p-self.false ∙ blank_filled (sheet_of s.blank) e.now c.args.p.0 (ap (λ x. x.pages c.args.p.0) (sym (same told (h.counts.tells told)).now) ∙ is_nothing (e'.now.pages c.args.p.0) (sym c.if-not-branch.true ∙ c.in_ok-look.ensures.says)) ∙ ap (λ (xs : List ℕ). Some (sheet_of xs)) (sym c.new.ensures);
        after = tt;
      },
    )

pub returns-in_err-look : goal.returns-in_err-look
returns-in_err-look g c =
    let s = c.args.self.now in
    let e = g.E.Engine.view s.engine in
    let e' = g.E.Engine.view c.look.new.self in
    let k = c.in_err-look.ensures in
    let later = λ (t : Table). looks_once (let r : LooksBy g.E.Engine.recovers t e e' (g.E.Engine.means s.engine) (g.E.Engine.means c.look.new.self) c.look.result =
    record { rests = c.look.ensures.rests; keeps = λ from m. c.look.ensures.means t from m; looks = λ from m. c.look.ensures.looks t from m; whole = g.met.E.Engine.told_whole _; full = g.met.E.Engine.full_failed _; now = λ from m. g.met.E.Engine.now_is _ t from m; now' = λ from m. g.met.E.Engine.now_is _ t from m } in r) in
    let p = err_from_is_err_and c.from_residual.result c.from_residual.ensures.1 in (
      (refl, λ s. tt, looks_err_is e e' (sheet_of s.blank) s.pages s.bands s.breaks _ _ c.from_residual.result c.in_err-look.field-0.0 p.0 p.1 p.2 k.rests (g.met.E.Engine.told_whole _) (λ t. (later t, refl, refl)) (λ t. by_looks (later t))),
      record { looked = none_looked _ c.from_residual.result p.0 p.1; after = tt },
    )
