use Rattle.std.proofs.Common.{◌≡◌, ◌++◌, ◌∷◌, [], ℕ, List, Option, None, Some, length, set, sym, ap, ◌∙◌, arith}
use Rattle.std.proofs.lemmas.List.{set_at}
use Rattle.sg_base.specs.Page.{slots_of}
use Rattle.sg_slotted.proofs.Layouts.{pushed_is}
use Rattle.sg_slotted.proofs.Room.{grown_room}
use Rattle.sg_slotted.proofs.calls.push.Goals as goal

pub fill-requires-clause-room : goal.fill-requires-clause-room
fill-requires-clause-room c =
    let e = c.grow.ensures in
    let room = c.make_room.ensures.room in
    let less = grown_room c.make_room.new.page c.grow.new.page c.make_room.ensures.slotted e.slotted e.slots e.lost in
    omega arith

-- the new slot's cell
last : (xs ys zs ws : List (Option (List ℕ))) (n : ℕ) (cell : List ℕ) → length ys ≡ n → ys ≡ xs → zs ≡ ys ++ (None ∷ []) → ws ≡ set zs n (Some cell) → ws ≡ xs ++ (Some cell ∷ [])
last xs ys zs ws n cell long e1 e2 e3 =
    e3 ∙ (ap (λ (q : List (Option (List ℕ))). set q n (Some cell)) e2 ∙ (set_at ys None [] (Some cell) n long ∙ ap (λ (q : List (Option (List ℕ))). q ++ (Some cell ∷ [])) e1))

pub returns-clause-slots : goal.returns-clause-slots
returns-clause-slots c =
    last (slots_of c.args.page.now) (slots_of c.make_room.new.page) (slots_of c.grow.new.page) (slots_of c.fill.new.page) c.slots-slot.result c.args.bytes.now (sym (c.slots-slot.ensures ∙ ap (λ (p : List ℕ). length (slots_of p)) c.new.ensures)) c.make_room.ensures.slots c.grow.ensures.slots c.fill.ensures.slots

pub returns-clause-bytes : goal.returns-clause-bytes
returns-clause-bytes c =
    pushed_is c.args.page.now c.make_room.new.page c.grow.new.page c.fill.new.page c.slots-slot.result c.args.bytes.now c.make_room.ensures.bytes (c.slots-slot.ensures ∙ ap (λ (p : List ℕ). length (slots_of p)) c.new.ensures) c.grow.ensures.bytes c.fill.ensures.bytes
