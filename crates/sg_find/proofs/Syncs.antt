-- Syncs, one after another.
use Rattle.std.proofs.Common.{◌≡◌, Result, Ok, refl, sym, ◌∙◌, ap, subst, List, []}
use Rattle.sg_base.specs.declared.area.Area.{Area}
use Rattle.sg_base.specs.declared.area.Area.TheVariants.{Home, Log0, Log1}
use Rattle.sg_disk.specs.Disk.{Image, State, Part, Range, View, Leaves, LeavesOnly, Synced, synced, synced_part, at_area}
use Rattle.sg_disk.proofs.Moments.{started, goes_on}
use Rattle.sg_disk.proofs.Images.{sync_keeps}
use Rattle.sg_find.specs.Synced.{AreSynced}

-- one sync
pub first : {T E : Type 0} {v w : View} {r : Result T E} (a : Area) → Synced a v w r → LeavesOnly v w (Leaves v.now)
first {v = v} a does = goes_on (started v (Leaves v.now) (λ c leaves. leaves)) does (λ c leaves. leaves)

-- and another
pub next : {T E : Type 0} {u v w : View} {r : Result T E} (a : Area) → LeavesOnly u v (Leaves u.now) → ((c : Image) → Leaves v.now c → Leaves u.now c) → Synced a v w r → LeavesOnly u w (Leaves u.now)
next a run keeps does = goes_on run does keeps

-- what a crash leaves behind a sync it could have left before
pub behind : {T E : Type 0} {v w : View} {x : T} (a : Area) → Synced {E = E} a v w (Ok x) → (c : Image) → Leaves w.now c → Leaves v.now c
behind {v = v} a does c leaves = sync_keeps v.now a c (subst (λ (s : State). Leaves s c) does.ok leaves)

-- all three
all : (s : State) → AreSynced s (synced Log1 (synced Log0 (synced Home s)))
all s = record { seen = seen; settled = settled }
  where
    seen : (a : Area) → (synced Log1 (synced Log0 (synced Home s)) a).seen ≡ (s a).seen
    seen Home = refl
    seen Log0 = refl
    seen Log1 = refl

    settled : (a : Area) → (synced Log1 (synced Log0 (synced Home s)) a).pending ≡ []
    settled Home = refl
    settled Log0 = refl
    settled Log1 = refl

pub all_synced : {T E : Type 0} {u v w z : View} {x y t : T} → Synced {E = E} Home u v (Ok x) → Synced {E = E} Log0 v w (Ok y) → Synced {E = E} Log1 w z (Ok t) → AreSynced u.now z.now
all_synced {u = u} a b c = subst (λ (s : State). AreSynced u.now s) (sym (c.ok ∙ (ap (synced Log1) b.ok ∙ ap (λ (s : State). synced Log1 (synced Log0 s)) a.ok))) (all u.now)
