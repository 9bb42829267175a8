use Rattle.std.proofs.Common.{◌≡◌, Some, None, rules}
use Rattle.std.specs.FinMap.{get}
use Rattle.sg_model.specs.Objects.{Objects}
use Rattle.sg_plain.specs.Shown.{shown, objects_of}
use Rattle.sg_plain.specs.Undone.{shown_undo}
use Rattle.sg_plain.proofs.Found.{look, put_shown}
use Rattle.sg_plain.proofs.Taken.{none_undone, there_undone}
use Rattle.sg_plain.proofs.objects.Objects.undo_there.Goals as goal

pub returns-in_default : goal.returns-in_default
returns-in_default c =
    let s : Objects = c.args.self.now in
    let n = c.args.noted.now.name in
    let none : get s n ≡ None = look shown s c.self.inside.map.entries n None c.self.view_is c.in_default.ensures.value in
    let same : objects_of c.get_mut.follows.lender-at-none.entries ≡ s = rw c.get_mut.follows.holds-at-none c.self.view_is in
    none_undone s (objects_of c.get_mut.follows.lender-at-none.entries) n (shown_undo c.args.noted.now.undo) none c.requires same

pub returns : goal.returns
returns c =
    let s : Objects = c.args.self.now in
    let n = c.args.noted.now.name in
    let there : get s n ≡ Some (shown c.in-Some.object.now) = look shown s c.self.inside.map.entries n (Some c.in-Some.object.now) c.self.view_is c.in-Some.ensures.value in
    let after = c.get_mut.follows.lender c.undo.new.self in
    let put = put_shown shown s c.self.inside.map.entries after.entries n c.undo.new.self c.self.view_is ((c.get_mut.follows.holds c.undo.new.self).3 (search rules)).0 in
    there_undone s (objects_of after.entries) n (shown_undo c.args.noted.now.undo) (shown c.in-Some.object.now) (shown c.undo.new.self) c.undo.result there put c.undo.ensures
