use Rattle.std.proofs.Common.{◌≡◌, ◌≢◌, ◌≤◌, ◌+◌, ℕ, List, Option, Some, None, length, set, ap, ◌∙◌, arith}
use Rattle.std.proofs.lemmas.List.{set-set}
use Rattle.sg_base.specs.Page.{slots_of, bytes_of, room_of, cell_in, length_at}
use Rattle.sg_slotted.proofs.Layouts.{set_in_place, set_again}
use Rattle.sg_slotted.proofs.Refusals.{set_fits, length_at_is}
use Rattle.sg_slotted.proofs.Room.{bytes_fit, bytes_without}
use Rattle.sg_slotted.proofs.calls.set.Goals as goal

pub refill-requires-clause-size : goal.refill-requires-clause-size
refill-requires-clause-size c =
    let page : List ℕ = c.args.page.now in
    let was : Some c.in-Some.old.now ≡ cell_in (slots_of page) c.args.slot = c.in-Some.ensures ∙ ap (λ (p : List ℕ). cell_in (slots_of p) c.args.slot) c.new-view.ensures in
    let same : length c.args.bytes.now ≡ length c.in-Some.old.now = omega arith in
    same ∙ length_at_is page c.args.slot c.in-Some.old.now c.requires was

pub returns-then-bytes-old-clause-ok : goal.returns-then-bytes-old-clause-ok
returns-then-bytes-old-clause-ok c =
    let page : List ℕ = c.args.page.now in
    let was : Some c.in-Some.old.now ≡ cell_in (slots_of page) c.args.slot = c.in-Some.ensures ∙ ap (λ (p : List ℕ). cell_in (slots_of p) c.args.slot) c.new-view.ensures in
    let most : bytes_of (slots_of page) ≤ 4072 = bytes_fit page c.requires in
    set_fits (slots_of page) (slots_of c.refill.new.page) c.args.slot c.in-Some.old.now c.args.bytes.now was (omega arith) c.refill.ensures.slots

pub returns-then-bytes-old-clause-bytes : goal.returns-then-bytes-old-clause-bytes
returns-then-bytes-old-clause-bytes c =
    let page : List ℕ = c.args.page.now in
    let was : Some c.in-Some.old.now ≡ cell_in (slots_of page) c.args.slot = c.in-Some.ensures ∙ ap (λ (p : List ℕ). cell_in (slots_of p) c.args.slot) c.new-view.ensures in
    let same : length c.args.bytes.now ≡ length c.in-Some.old.now = omega arith in
    set_in_place page c.refill.new.page c.args.slot c.args.bytes.now (same ∙ length_at_is page c.args.slot c.in-Some.old.now c.requires was) c.refill.ensures.bytes

pub store-requires-clause-room : goal.store-requires-clause-room
store-requires-clause-room c =
    let page : List ℕ = c.args.page.now in
    let room : c.room-room.result ≡ room_of (slots_of page) = c.room-room.ensures ∙ ap (λ (p : List ℕ). room_of (slots_of p)) c.new-view.ensures in
    let was : Some c.in-Some.old.now ≡ cell_in (slots_of page) c.args.slot = c.in-Some.ensures ∙ ap (λ (p : List ℕ). cell_in (slots_of p) c.args.slot) c.new-view.ensures in
    let less : bytes_of (set (slots_of page) c.args.slot None) + length c.in-Some.old.now ≡ bytes_of (slots_of page) = bytes_without (slots_of page) c.args.slot c.in-Some.old.now was in
    let same : bytes_of (slots_of c.clear.new.page) ≡ bytes_of (set (slots_of page) c.args.slot None) = ap bytes_of c.clear.ensures.slots in
    let most : bytes_of (slots_of page) ≤ 4072 = bytes_fit page c.requires in
    omega arith

pub returns-clause-ok : goal.returns-clause-ok
returns-clause-ok c =
    let page : List ℕ = c.args.page.now in
    let room : c.room-room.result ≡ room_of (slots_of page) = c.room-room.ensures ∙ ap (λ (p : List ℕ). room_of (slots_of p)) c.new-view.ensures in
    let was : Some c.in-Some.old.now ≡ cell_in (slots_of page) c.args.slot = c.in-Some.ensures ∙ ap (λ (p : List ℕ). cell_in (slots_of p) c.args.slot) c.new-view.ensures in
    let most : bytes_of (slots_of page) ≤ 4072 = bytes_fit page c.requires in
    let slots : slots_of c.store.new.page ≡ set (slots_of page) c.args.slot (Some c.args.bytes.now) =
    c.store.ensures.slots ∙ (ap (λ (xs : List (Option (List ℕ))). set xs c.args.slot (Some c.args.bytes.now)) c.clear.ensures.slots ∙ set-set (slots_of page) c.args.slot None (Some c.args.bytes.now)) in
    set_fits (slots_of page) (slots_of c.store.new.page) c.args.slot c.in-Some.old.now c.args.bytes.now was (omega arith) slots

pub returns-clause-bytes : goal.returns-clause-bytes
returns-clause-bytes c =
    let page : List ℕ = c.args.page.now in
    let was : Some c.in-Some.old.now ≡ cell_in (slots_of page) c.args.slot = c.in-Some.ensures ∙ ap (λ (p : List ℕ). cell_in (slots_of p) c.args.slot) c.new-view.ensures in
    let size : length c.in-Some.old.now ≡ length_at page c.args.slot = length_at_is page c.args.slot c.in-Some.old.now c.requires was in
    let other : length c.args.bytes.now ≢ length_at page c.args.slot = omega arith in
    set_again page c.clear.new.page c.store.new.page c.args.slot c.args.bytes.now other c.clear.ensures.bytes c.store.ensures.bytes
