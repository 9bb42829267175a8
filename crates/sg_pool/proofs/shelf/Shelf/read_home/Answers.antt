use Rattle.std.proofs.Common.{◌≡◌, ℕ, List, [], length, get_or, set, sym, ◌∙◌, ap, subst, arith, None, refl}
use Rattle.sg_disk.specs.Disk.{window}
use Rattle.sg_pool.specs.Units.{page_at}
use Rattle.std.proofs.lemmas.Result.{on_ok_weaker}
use Rattle.sg_base.specs.declared.area.Area.TheVariants.{Home}
use Rattle.sg_gate.specs.Layout.{home_at}
use Rattle.sg_frames.specs.Held.{Held}
use Rattle.std.specs.List.{refill, length_refill}
use Rattle.sg_pool.specs.declared.slot.Slot.{Slot}
use Rattle.sg_pool.specs.Held.{no_slot, page_in}
use Rattle.sg_pool.proofs.Slots.{page_here, none_is_some}
use Rattle.sg_pool.proofs.Changing.{shelf_frame}
use Rattle.sg_pool.proofs.Homed.{page_read}
use Rattle.sg_pool.proofs.shelf.Shelf.read_home.Goals as goal

pub returns-clause-frames : goal.returns-clause-frames
returns-clause-frames g c told =
    let s = c.args.self.now in
    let many = s.shelf.many in
    let there = c.requires.there in
    let here : length (get_or s.frames.pages c.args.f []) ≡ 4096 = s.shelf.here.pages c.args.f (omega (arith, many, there)) in
    let t = c.empty.new.self in
    let here' : length (get_or t.frames.pages c.args.f []) ≡ 4096 = subst (λ (h : Held). length (get_or h.pages c.args.f []) ≡ 4096) (sym c.empty.ensures.frames) here in
    on_ok_weaker c.read_at.result (λ is. ap (λ (bytes : List ℕ). record t.frames { pages = set t.frames.pages c.args.f bytes })
    (page_read ((g.D.Disk.view c.args.disk.now).now Home).seen (home_at c.args.p) (get_or t.frames.pages c.args.f []) c.page_mut.result.now c.read_at.new.into here' c.page_mut.ensures.value (omega arith) (is ∙ ap (λ (at : ℕ). window ((g.D.Disk.view c.args.disk.now).now Home).seen at (length c.page_mut.result.now)) c.page_start.ensures))
    ∙ ap (λ (h : Held). record h { pages = set h.pages c.args.f (page_at ((g.D.Disk.view c.args.disk.now).now Home).seen (home_at c.args.p)) }) c.empty.ensures.frames)
    (c.read_at.ensures.bytes told)

pub invariant_of-self : goal.invariant_of-self
invariant_of-self g c =
    let s = c.args.self.now in let t = c.empty.new.self in
    let many = s.shelf.many in
    let there = c.requires.there in
    let here : length (get_or s.frames.pages c.args.f []) ≡ 4096 = s.shelf.here.pages c.args.f (omega (arith, many, there)) in
    let here' : length (get_or t.frames.pages c.args.f []) ≡ 4096 = subst (λ (h : Held). length (get_or h.pages c.args.f []) ≡ 4096) (sym c.empty.ensures.frames) here in
    let bytes : List ℕ = refill (length (get_or t.frames.pages c.args.f [])) (get_or t.frames.pages c.args.f []) c.read_at.new.into in
    let long : length bytes ≡ 4096 = sym (length_refill (length (get_or t.frames.pages c.args.f [])) (get_or t.frames.pages c.args.f []) c.read_at.new.into refl) ∙ here' in
    let none : page_in t.slots.items c.args.f ≡ None = ap (λ (l : List Slot). page_in l c.args.f) c.empty.ensures.slots ∙ page_here s.slots.items c.args.f no_slot there in
    record { shelf = shelf_frame t.pages t.bands t.slots.items t.wins t.frames c.args.f bytes long (λ n less is. absurd (none_is_some n (sym none ∙ is))) t.shelf }
