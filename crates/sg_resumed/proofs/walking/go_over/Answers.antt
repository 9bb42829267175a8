use mathlib.Core.Logic.{∥∥₁_elim}
use Rattle.std.proofs.Common.{◌≡◌, ◌+◌, None, IsSome, Result, Err, sym, ap, subst, ◌∙◌, arith}
use Rattle.std.proofs.Props.{props}
use Rattle.std.specs.Prelude.{OnOk}
use Rattle.sg_base.specs.Sheet.{Sheet}
use Rattle.sg_reach.specs.declared.fault.ReachFault.{ReachFault}
use Rattle.sg_action.specs.States.{State}
use Rattle.sg_contents.specs.Standing.{Contents}
use Rattle.sg_reader.specs.Alike.{ReadsAs}
use Rattle.sg_actions.proofs.Finishing.{on_ok}
use Rattle.sg_unread.specs.Looks.{looks_then}
use Rattle.sg_walked.specs.Walked.{AllSay, IsWalked}
use Rattle.sg_found.specs.Looks.{AreBytes, LacksSome}
use Rattle.sg_resumed.specs.Walking.{HasWalked}
use Rattle.sg_resumed.proofs.Counted.{no_table, walk_ended, ends_ok, ends_broken, ok_all, broken_all, all_say, looks_now}
use Rattle.sg_resumed.proofs.walking.go_over.Goals as goal

pub returns-in-Err-clause-walked : goal.returns-in-Err-clause-walked
returns-in-Err-clause-walked g c =
    let k = c.walk-engine.ensures in
    let e1 = c.walk-engine.result.engine in
    subst (λ e. HasWalked {T = Unit {0}} g.E.Engine.recovers (g.E.Engine.view c.args.engine) (g.E.Engine.view e) 0 c.ended-in-Err.result.breaks (g.E.Engine.means c.args.engine) (g.E.Engine.means e) c.ended-in-Err.result.found) (sym c.ended-in-Err.ensures.engine)
    (walk_ended (Err c.in-Err.fault) c.ended-in-Err.result.found c.ended-in-Err.result.breaks k.looks (g.met.E.Engine.told_whole c.args.engine) (g.met.E.Engine.told_whole e1) (g.met.E.Engine.full_failed c.args.engine) tt tt c.ended-in-Err.ensures.ends)

pub returns-in-Ok-clause-walked : goal.returns-in-Ok-clause-walked
returns-in-Ok-clause-walked g c =
    let k = c.walk-engine.ensures in
    let l = c.look_behind-looked.ensures in
    let a = g.E.Engine.view c.args.engine in
    let b = g.E.Engine.view c.walk-engine.result.engine in
    let e2 = c.look_behind-looked.new.engine in
    let tells = subst (λ (r : Result (Unit {0}) ReachFault). OnOk r (a.Told → b.Told)) c.in-Ok.is k.tells in
    let quiet : b.faults + c.walk-engine.result.breaks ≡ a.faults = subst (λ (r : Result (Unit {0}) ReachFault). OnOk r (b.faults + c.walk-engine.result.breaks ≡ a.faults)) c.in-Ok.is k.quiet in
    let up = (k.looks no_table).faults in
    let same : b.faults ≡ a.faults = omega (arith, quiet, up) in
    subst (λ e. HasWalked {T = Unit {0}} g.E.Engine.recovers a (g.E.Engine.view e) 0 c.ended.result.breaks (g.E.Engine.means c.args.engine) (g.E.Engine.means e) c.ended.result.found) (sym c.ended.ensures.engine)
    (walk_ended c.look_behind-looked.result c.ended.result.found c.ended.result.breaks (λ t. looks_then (k.looks t) (l.looks t)) (g.met.E.Engine.told_whole c.args.engine) (g.met.E.Engine.told_whole e2) (g.met.E.Engine.full_failed c.args.engine)
    (on_ok c.look_behind-looked.result (λ f told. f (tells told)) l.tells) (on_ok c.look_behind-looked.result (λ q. q ∙ same) l.quiet) c.ended.ensures.ends)

pub returns-in-Ok-clause-bytes : goal.returns-in-Ok-clause-bytes
returns-in-Ok-clause-bytes g c = λ t from m.
    let k = c.walk-engine.ensures in
    let m1 = (k.looks t).means from m in
    let tells = subst (λ (r : Result (Unit {0}) ReachFault). OnOk r ((g.E.Engine.view c.args.engine).Told → (g.E.Engine.view c.walk-engine.result.engine).Told)) c.in-Ok.is k.tells in
    ends_ok ((g.E.Engine.view c.args.engine).Told → AreBytes c.walk-engine.new.into.pages c.args.pages (g.E.Engine.view c.args.engine).now) (g.E.Engine.view c.look_behind-looked.new.engine) c.look_behind-looked.result c.ended.result.found c.ended.result.breaks c.ended.ensures.ends
    (on_ok c.look_behind-looked.result (λ h told.
    let told1 = tells told in
    let same = looks_now (k.looks t) from m told (g.met.E.Engine.told_whole c.walk-engine.result.engine) told1 (g.met.E.Engine.now_is _ t from m told) (g.met.E.Engine.now_is _ t from m1 told1) in
    subst (λ (y : State). AreBytes c.walk-engine.new.into.pages c.args.pages y) same (h told1)) (c.look_behind-looked.ensures.bytes t from m1))

pub returns-in-Ok-clause-taken : goal.returns-in-Ok-clause-taken
returns-in-Ok-clause-taken g c =
    let k = c.walk-engine.ensures in
    let a = g.E.Engine.view c.args.engine in
    let b = g.E.Engine.view c.walk-engine.result.engine in
    let into = c.walk-engine.new.into in
    let tells = subst (λ (r : Result (Unit {0}) ReachFault). OnOk r (a.Told → b.Told)) c.in-Ok.is k.tells in
    let walked = subst (λ (r : Result (Unit {0}) ReachFault). OnOk r (a.Told → AllSay c.args.pages a.now into.pages → IsWalked c.args.pages c.args.bands a.now into)) c.in-Ok.is k.walked in
    ends_ok (a.Told → IsWalked c.args.pages c.args.bands a.now into) (g.E.Engine.view c.look_behind-looked.new.engine) c.look_behind-looked.result c.ended.result.found c.ended.result.breaks c.ended.ensures.ends
    (on_ok c.look_behind-looked.result (λ all told.
    let say : AllSay c.args.pages a.now into.pages = ∥∥₁_elim (g.met.E.Engine.some c.args.engine told) (hlevel props) (λ x.
    let told1 = tells told in
    let m1 = (k.looks x.0).means x.1 x.2 in
    let same = looks_now (k.looks x.0) x.1 x.2 told (g.met.E.Engine.told_whole c.walk-engine.result.engine) told1 (g.met.E.Engine.now_is _ x.0 x.1 x.2 told) (g.met.E.Engine.now_is _ x.0 x.1 m1 told1) in
    all_say into.pages c.args.pages a.now (subst (λ (y : State). AreBytes into.pages c.args.pages y) same (all x.0 x.1 m1 told1))) in
    walked told say)
    (ok_all (b.Told → AreBytes into.pages c.args.pages b.now) (g.E.Engine.means c.walk-engine.result.engine) c.look_behind-looked.result c.look_behind-looked.ensures.bytes))

pub returns-in-Ok-clause-broken : goal.returns-in-Ok-clause-broken
returns-in-Ok-clause-broken g c =
    let k = c.walk-engine.ensures in
    let a = g.E.Engine.view c.args.engine in
    let b = g.E.Engine.view c.walk-engine.result.engine in
    let e2 = g.E.Engine.view c.look_behind-looked.new.engine in
    let into = c.walk-engine.new.into in
    let tells = subst (λ (r : Result (Unit {0}) ReachFault). OnOk r (a.Told → b.Told)) c.in-Ok.is k.tells in
    let says = subst (λ (r : Result (Unit {0}) ReachFault). OnOk r (a.Told → (s : Contents) → ReadsAs c.args.pages c.args.bands a.now s → AllSay c.args.pages a.now into.pages)) c.in-Ok.is k.say in
    ends_broken (a.Told → (s : Contents) → ReadsAs c.args.pages c.args.bands a.now s → ⊥) e2 c.look_behind-looked.result c.ended.result.found c.ended.result.breaks c.ended.ensures.ends
    (broken_all (b.Told → LacksSome into.pages c.args.pages b.now) (a.Told → (s : Contents) → ReadsAs c.args.pages c.args.bands a.now s → ⊥) e2 (g.E.Engine.means c.walk-engine.result.engine) c.look_behind-looked.result c.look_behind-looked.ensures.lacks c.look_behind-looked.ensures.failed
    (λ lacks told s h. ∥∥₁_elim (g.met.E.Engine.some c.args.engine told) (hlevel props) (λ x.
    let told1 = tells told in
    let m1 = (k.looks x.0).means x.1 x.2 in
    let same = looks_now (k.looks x.0) x.1 x.2 told (g.met.E.Engine.told_whole c.walk-engine.result.engine) told1 (g.met.E.Engine.now_is _ x.0 x.1 x.2 told) (g.met.E.Engine.now_is _ x.0 x.1 m1 told1) in
    let z = lacks x.0 x.1 m1 told1 in
    absurd (let no : IsSome {T = Sheet} None = subst IsSome (ap (λ (y : State). y.pages z.page) (sym same) ∙ z.none) (says told s h z.page z.below z.set) in cc))))
