use Rattle.std.proofs.Common.{sym, ap, ◌∙◌, refl, ℕ, List, Some}
use Rattle.std.proofs.lemmas.Result.{err_from_is_err_and}
use Rattle.sg_base.specs.Sheet.{sheet_of}
use Rattle.sg_ops.specs.Table.{Table}
use Rattle.sg_actions.proofs.Calling.{LooksBy, same_any}
use Rattle.sg_unread.specs.Looks.{looks_same}
use Rattle.sg_unread.proofs.Looking.{looks_once, by_looks, looks_ok, looks_err_is, breaks_at_once, none_looked, is_below, readable_back, none_behind}
use Rattle.sg_unread.proofs.space.UnreadSpacePageSpace.band.Goals as goal

pub invariant_of-self-clause-unbroken : goal.invariant_of-self-clause-unbroken
invariant_of-self-clause-unbroken g c = λ w. absurd (let s = c.args.self.now in none_behind c.args.b.0 s.bands (λ n. Some ((g.E.Engine.view s.engine).now.bands n)) c.if-b-self.true (c.requires w))

pub invariant_of-self-2-clause-unbroken : goal.invariant_of-self-2-clause-unbroken
invariant_of-self-2-clause-unbroken g c = λ w.
    let s = c.args.self.now in
    let k = c.load_band.ensures in
    let by : (t : Table) → LooksBy g.E.Engine.recovers t (g.E.Engine.view s.engine) (g.E.Engine.view c.load_band.new.self) (g.E.Engine.means s.engine) (g.E.Engine.means c.load_band.new.self) c.load_band.result = λ t. record { rests = k.rests; keeps = λ from m. k.means t from m; looks = λ from m. k.looks t from m; whole = g.met.E.Engine.told_whole _; full = g.met.E.Engine.full_failed _; now = λ from m. g.met.E.Engine.now_is _ t from m; now' = λ from m. g.met.E.Engine.now_is _ t from m } in
    s.unbroken (readable_back k.rests.counts.told (same_any (g.met.E.Engine.some s.engine) by) w)

pub returns-then-b-self : goal.returns-then-b-self
returns-then-b-self g c =
    let s = c.args.self.now in
    let e = g.E.Engine.view s.engine in
    let later = λ (t : Table). looks_same g.E.Engine.recovers t e (g.E.Engine.means s.engine) (g.met.E.Engine.told_whole _) (λ from m told. g.met.E.Engine.images s.engine t from m told) in
    let k = c.count_break.ensures in ((refl, λ s. tt, breaks_at_once e (sheet_of s.blank) s.pages s.bands s.breaks c.count_break.new.breaks _ _ c.count_break.result k.answer k.later k.risen (λ t. (later t, refl, refl)) (λ t h. h)), record { looked = tt; size = tt; after = tt })

pub returns : goal.returns
returns g c =
    let s = c.args.self.now in
    let e = g.E.Engine.view s.engine in
    let e' = g.E.Engine.view c.load_band.new.self in
    let k = c.load_band.ensures in
    let by : (t : Table) → LooksBy g.E.Engine.recovers t e e' (g.E.Engine.means s.engine) (g.E.Engine.means c.load_band.new.self) c.load_band.result = λ t. record { rests = k.rests; keeps = λ from m. k.means t from m; looks = λ from m. k.looks t from m; whole = g.met.E.Engine.told_whole _; full = g.met.E.Engine.full_failed _; now = λ from m. g.met.E.Engine.now_is _ t from m; now' = λ from m. g.met.E.Engine.now_is _ t from m } in
    let later = λ (t : Table). looks_once (by t) in
    let same = same_any (g.met.E.Engine.some s.engine) by in
    let h = c.in_ok-load_band.ensures.rests in (
      (refl, λ s. tt, looks_ok e e' (sheet_of s.blank) s.pages s.bands s.breaks _ _ _ c.band.result h same (λ t. (later t, refl, refl)) (λ t. by_looks (later t))),
      record {
        looked = λ told. is_below c.args.b.0 s.bands (λ n. Some (e.now.bands n)) c.if-b-self.false ∙ ap (λ (xs : List ℕ). Some xs) (ap (λ x. x.bands c.args.b.0) (sym (same told (h.counts.tells told)).now) ∙ c.band.ensures.looked);
        size = c.band.ensures.size;
        after = tt;
      },
    )

pub returns-in_err-load_band : goal.returns-in_err-load_band
returns-in_err-load_band g c =
    let s = c.args.self.now in
    let e = g.E.Engine.view s.engine in
    let e' = g.E.Engine.view c.load_band.new.self in
    let k = c.in_err-load_band.ensures in
    let later = λ (t : Table). looks_once (let r : LooksBy g.E.Engine.recovers t e e' (g.E.Engine.means s.engine) (g.E.Engine.means c.load_band.new.self) c.load_band.result =
    record { rests = c.load_band.ensures.rests; keeps = λ from m. c.load_band.ensures.means t from m; looks = λ from m. c.load_band.ensures.looks t from m; whole = g.met.E.Engine.told_whole _; full = g.met.E.Engine.full_failed _; now = λ from m. g.met.E.Engine.now_is _ t from m; now' = λ from m. g.met.E.Engine.now_is _ t from m } in r) in
    let p = err_from_is_err_and c.from_residual.result c.from_residual.ensures.1 in (
      (refl, λ s. tt, looks_err_is e e' (sheet_of s.blank) s.pages s.bands s.breaks _ _ c.from_residual.result c.in_err-load_band.field-0.0 p.0 p.1 p.2 k.rests (g.met.E.Engine.told_whole _) (λ t. (later t, refl, refl)) (λ t. by_looks (later t))),
      record { looked = none_looked _ c.from_residual.result p.0 p.1; size = none_looked _ c.from_residual.result p.0 p.1; after = tt },
    )
