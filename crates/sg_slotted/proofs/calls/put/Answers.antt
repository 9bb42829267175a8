use Rattle.std.proofs.Common.{◌≡◌, ◌≤◌, ◌<◌, ◌+◌, ℕ, List, None, length, ap, ◌∙◌, arith, rules}
use Rattle.sg_base.specs.Page.{slots_of, cell_in, bytes_of, room_of}
use Rattle.sg_slotted.proofs.Layouts.{put_below, put_behind}
use Rattle.sg_slotted.proofs.Refusals.{put_fits}
use Rattle.sg_slotted.proofs.Room.{enough_room}
use Rattle.sg_slotted.proofs.calls.put.Goals as goal

pub store-requires-clause-room : goal.store-requires-clause-room
store-requires-clause-room c =
    let page : List ℕ = c.args.page.now in
    enough_room page c.room-room.result (length c.args.bytes.now) c.requires (c.room-room.ensures ∙ ap (λ (p : List ℕ). room_of (slots_of p)) c.new-view.ensures) (omega arith)

pub returns-else-room-bytes-clause-ok : goal.returns-else-room-bytes-clause-ok
returns-else-room-bytes-clause-ok c =
    let page : List ℕ = c.args.page.now in
    let below : c.args.slot < length (slots_of page) = omega (arith, c.slots-slots.ensures, ap (λ (p : List ℕ). length (slots_of p)) c.new-view.ensures) in
    let empty : cell_in (slots_of page) c.args.slot ≡ None = search rules in
    let fits : bytes_of (slots_of page) + length c.args.bytes.now ≤ 4072 = enough_room page c.room-room.result (length c.args.bytes.now) c.requires (c.room-room.ensures ∙ ap (λ (p : List ℕ). room_of (slots_of p)) c.new-view.ensures) (omega arith) in
    put_fits (slots_of page) (slots_of c.store.new.page) c.args.slot c.args.bytes.now below empty fits c.store.ensures.slots

pub returns-else-room-bytes-clause-bytes : goal.returns-else-room-bytes-clause-bytes
returns-else-room-bytes-clause-bytes c =
    let below : c.args.slot < length (slots_of c.args.page.now) = omega (arith, c.slots-slots.ensures, ap (λ (p : List ℕ). length (slots_of p)) c.new-view.ensures) in
    put_below c.args.page.now c.store.new.page c.args.slot c.args.bytes.now below c.store.ensures.bytes

pub returns-else-room-bytes-2-clause-bytes : goal.returns-else-room-bytes-2-clause-bytes
returns-else-room-bytes-2-clause-bytes c =
    let past : length (slots_of c.args.page.now) ≤ c.args.slot = omega (arith, c.slots-slots.ensures, ap (λ (p : List ℕ). length (slots_of p)) c.new-view.ensures) in
    put_behind c.args.page.now c.push.new.page c.args.slot c.args.bytes.now past c.push.ensures.bytes
