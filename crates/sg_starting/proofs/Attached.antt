-- A store over an engine that has been brought to its first line.
use Rattle.std.proofs.Common.{◌≡◌, ℕ, true, List, [], ◌++◌, Some, None, refl, sym, ap, ◌∙◌, subst}
use Rattle.sg_base.specs.declared.numbers.TxnId.{TxnId}
use Rattle.sg_ops.specs.Table.{Table as Operations}
use Rattle.sg_model.specs.Objects.{Objects}
use Rattle.sg_recovery.specs.Log.{Tally, tally, is_in}
use Rattle.sg_recovery.specs.Stands.{made, settled}
use Rattle.sg_recovery.proofs.Basic.{then_some}
use Rattle.sg_recovery.specs.Claims.{Log}
use Rattle.sg_join.specs.Join.{IsFront}
use Rattle.sg_join.proofs.Fronts.{front_only}
use Rattle.sg_run.specs.Run.{start}
use Rattle.sg_store.specs.Ground.{Ground, IsLawful, setting}
use Rattle.sg_disk.specs.Disk.{LeavesOnly}
use Rattle.sg_store.specs.Engine.{View, IsImageOf, Sizes, Shown, KeepsBy, led, AskedBy}
use Rattle.sg_store.specs.Store.{Core, Shows}
use Rattle.sg_store.specs.Asks.{ShowsSome}
use Rattle.sg_store.specs.Rests.{HasObjects}
use Rattle.sg_store.proofs.Resting.{has_objects}
use Rattle.sg_starting.specs.declared.opening.StartFault.{StartFault}
use Rattle.sg_starting.specs.declared.opening.StartFault.TheVariants.{Space, Broken, Memory}
use Rattle.sg_starting.specs.Starting.{IfBroken, AreLosers, IsFound, IsRead, IsStarting, IsOpenedWith, OpeningWith, TakesOff, TakenOff, AreBuried, IsUnread, AreEnded, AppendsNothing, ComesToOne, StandsForNone}
use Rattle.sg_starting.proofs.Steps.{taken_starts}

-- no transaction, and nothing held
abbrev pub empty : Core
empty = record { live = []; held = []; stopped = None }

pub opened_has : (t : Operations) (g : Ground) (lawful : IsLawful t g) (v : View g) (k : Core) (m : Objects) → k ≡ empty → Shows t g v empty (start m) → HasObjects [] m m k t g v
opened_has t g lawful v k m is shows = has_objects t g lawful v k (start m) (subst (λ c. Shows t g v c (start m)) (sym is) shows) refl [] m m refl refl refl

-- an engine of which the unfinished action was taken off, and whose pages read as objects, may go on
pub resumed_asks : {basis : Sizes → Ground} (t : Operations) (old new : Shown basis) (losers : List TxnId) → KeepsBy t old new → (new.Told → old.Told)
    → ((z : Sizes) (from : (basis z).X) → old.means t z from → old.Told → IsFound t (basis z) (led t z from old)
    → (c : TakesOff t (basis z) (led t z from old) (led t z from new)) × TakenOff t (basis z) (led t z from old) (led t z from new) c.made)
    → ((z : Sizes) (from : (basis z).X) → old.means t z from → old.Told → IsFound t (basis z) (led t z from old) → (o : (basis z).O) × IsRead t (basis z) (led t z from old) o)
    → AskedBy t old (IsOpenedWith losers t) → AskedBy t new (OpeningWith losers t)
resumed_asks {basis} t old new losers keeps back takes reads s = record {
  sizes = s.sizes;
  from = λ told. s.from (back told);
  means = λ told. keeps s.sizes (s.from (back told)) (s.means (back told));
  can = λ told.
      (let h = s.can (back told) in
      let v = led t s.sizes (s.from (back told)) old in
      let w = led t s.sizes (s.from (back told)) new in
      let taken = takes s.sizes (s.from (back told)) (s.means (back told)) (back told) h.opened.can.found in
      let o = reads s.sizes (s.from (back told)) (s.means (back told)) (back told) h.opened.can.found in
      let stood = h.opened.stood o.0 o.1 in
      let k = taken_starts t (basis s.sizes) h.lawful v w stood.0 h.opened.can.found stood.1 taken.0 taken.1 in
      record {
        over = record {
          opening = record { lawful = h.lawful; down = v.log; objects = stood.0; starts = k };
          live = λ u among. subst (λ (ls : List ℕ). is_in u ls ≡ true) (sym taken.1.live) (h.live u among);
        };
        cover = subst (λ (ls : List ℕ). AreLosers ls losers) (sym taken.1.live) h.cover;
        apart = h.apart;
      });
}

pub serving : {basis : Sizes → Ground} (t : Operations) (old mid : Shown basis) (losers : List TxnId) (k : Core) → k ≡ empty → KeepsBy t old mid → (mid.Told → old.Told)
    → ((z : Sizes) (from : (basis z).X) → old.means t z from → old.Told → (down : Log (setting t (basis z))) (m : Objects) → IsLawful t (basis z) → IsStarting t (basis z) (led t z from old) down m
    → AreLosers (tally (led t z from old).log).live losers → Shows t (basis z) (led t z from mid) empty (start m) × AreBuried t (basis z) (led t z from mid) 0)
    → AskedBy t old (OpeningWith losers t) → AskedBy t mid (ShowsSome k t)
serving {basis} t old mid losers k is keeps back shows s = record {
  sizes = s.sizes;
  from = λ told. s.from (back told);
  means = λ told. keeps s.sizes (s.from (back told)) (s.means (back told));
  can = λ told.
      (let h = s.can (back told) in
      let p = h.over.opening in
      let d = shows s.sizes (s.from (back told)) (s.means (back told)) (back told) p.down p.objects p.lawful p.starts h.cover in
      record { lawful = p.lawful; run = start p.objects; shows = subst (λ c. Shows t (basis s.sizes) (led t s.sizes (s.from (back told)) mid) c (start p.objects)) (sym is) d.0 });
}

pub if_broken : {P Q : Type 0} (why : StartFault) → IfBroken why P → (P → Q) → IfBroken why Q
if_broken (Space fault) h f = tt
if_broken (Broken page) h f = f h
if_broken Memory h f = tt

pub if_any : {Q : Type 0} (why : StartFault) → Q → IfBroken why Q
if_any (Space fault) q = tt
if_any (Broken page) q = q
if_any Memory q = tt

-- where no action is without an end none is taken off
pub takes_none : (t : Operations) (g : Ground) (v w : View g) → TakesOff t g v w → AreEnded v.log → AppendsNothing t g v w
takes_none t g v w c ended = subst (λ (l : Log (setting t g)). LeavesOnly v.disk w.disk (IsImageOf t g v (l ++ v.log))) (c.owed ended) c.moments

-- where the pages read as nothing the log stands for nothing
pub unread : (t : Operations) (g : Ground) (v : View g) → ((o : g.O) → IsRead t g v o → ⊥) → IsUnread t g v
unread t g v none = record {
  none = none;
  stands = λ m h. (let o = then_some (settled (setting t g) (tally v.log).opened (made (setting t g) v.first v.log)) _ h.0 h.1 in none o.0 o.1);
}

-- and no image does
pub none_stand : (t : Operations) (g : Ground) (v : View g) → ((o : g.O) → IsRead t g v o → ⊥) → IsFound t g v → ComesToOne t g → StandsForNone t g v
none_stand t g v none found one c leaves m s =
    let i = found.images c leaves in
    let all : i.front ≡ v.log = front_only v.log i.front (subst (λ (l : Log (setting t g)). IsFront l v.log i.front) found.durable i.is_front) in
    let same = one c i.left s.log (made (setting t g) v.first i.front) s.pages i.recovers s.recovers in
    let says : tally s.log ≡ tally v.log = ap (λ (l : Log (setting t g)). tally l) (sym same.0) ∙ (i.says ∙ ap (λ (l : Log (setting t g)). tally l) all) in
    let pages : s.pages ≡ made (setting t g) v.first v.log = sym same.1 ∙ ap (λ (l : Log (setting t g)). made (setting t g) v.first l) all in
    let o = then_some (settled (setting t g) (tally s.log).opened s.pages) _ s.reading s.stands in
    none o.0 (subst (λ (k : Tally g.C g.N). settled (setting t g) k.opened (made (setting t g) v.first v.log) ≡ Some o.0) says (subst (λ (x : g.X). settled (setting t g) (tally s.log).opened x ≡ Some o.0) pages o.1))
