-- What is asked of an opening leads to what its calls ask.
use Rattle.std.proofs.Common.{◌≡◌, ℕ, zero, suc, ◌<◌, true, List, [], ◌∷◌, length, get_or, Option, refl, sym, subst, arith, inl, inr}
use Rattle.sg_base.specs.declared.numbers.TxnId.{TxnId}
use Rattle.sg_ops.specs.Table.{Table as Operations}
use Rattle.sg_recovery.specs.Log.{Top, tally, is_in}
use Rattle.sg_recovery.specs.Chains.{IsStanding, border_of}
use Rattle.sg_recovery.specs.Claims.{Log}
use Rattle.sg_recovery.specs.Laws.{Each}
use Rattle.sg_recovery.proofs.Chaining.{sound}
use Rattle.sg_store.specs.Ground.{Ground, setting}
use Rattle.sg_store.specs.Engine.{View, Sizes, Shown, led, Asked, AskedBy, IsAtRest, IsAt, MayEnd}
use Rattle.sg_store.specs.Verbs.{CanLook}
use Rattle.sg_store.proofs.Counting.{live_going}
use Rattle.sg_starting.specs.declared.losers.Greatest.{Greatest}
use Rattle.sg_starting.specs.Starting.{IsAmong, AreLosers, Opening, OpeningOver, OpeningWith, OpeningAt, OpeningUndone, OpeningSettled}
use Rattle.sg_starting.specs.Loops.{Since, SinceBy, IsFinding, IsUndoing, IsEnding, IsFreeing}
use Rattle.sg_starting.proofs.Undoing as undoing

-- each element of a list is among it
pub among_get : (i : ℕ) (xs : List TxnId) (d : TxnId) → i < length xs → IsAmong (get_or xs i d).0 xs
among_get i [] d lt = absurd (omega arith)
among_get zero (x ∷ xs) d lt = inl refl
among_get (suc i) (x ∷ xs) d lt = inr (among_get i xs d (omega arith))

pub rests : (t : Operations) (g : Ground) (v : View g) → Opening t g v → IsAtRest t g v
rests t g v h = record { engine = h.starts.engine; idle = h.starts.idle }

pub looks : (t : Operations) (g : Ground) (v : View g) → Opening t g v → CanLook t g v
looks t g v h = record { rest = rests t g v h; reading = undoing.o t g h.lawful v h.down h.objects h.starts; reads = undoing.reads_now t g h.lawful v h.down h.objects h.starts }

-- the owner of a standing note goes on
pub owner : (t : Operations) (g : Ground) (v : View g) (u : ℕ) → OpeningAt u t g v → IsAt u t g v
owner t g v u h = record {
  rest = rests t g v h.opening;
  live = subst (λ n. is_in n (tally v.log).live ≡ true) h.own (first (tally v.log).notes h.notes (sound v.log h.opening.starts.engine.formed.chained).notes);
}
  where
    first : (ns : List (Top g.C g.N)) → ns ≡ h.top ∷ h.rest → Each (λ n. IsStanding (tally v.log).live (border_of n.transaction v.log) n.transaction n.lsn n.undo_next) ns → is_in h.top.transaction (tally v.log).live ≡ true
    first ns e all = (subst (λ (l : List (Top g.C g.N)). Each (λ n. IsStanding (tally v.log).live (border_of n.transaction v.log) n.transaction n.lsn n.undo_next) l) e all).0.is_live

module _ {basis : Sizes → Ground} where
  pub asked_of : (t : Operations) (e : Shown basis) (P : (g : Ground) → View g → Type 0) (Q : (t : Operations) (g : Ground) → View g → Type 0) → ((g : Ground) (v : View g) → P g v → Q t g v) → AskedBy t e P → Asked e Q
  asked_of t e P Q f s = record { by = t; sizes = s.sizes; from = s.from; means = s.means; can = λ told. f (basis s.sizes) (led t s.sizes (s.from told) e) (s.can told) }

  pub asked_for : (t : Operations) (e : Shown basis) (P Q : (g : Ground) → View g → Type 0) → ((g : Ground) (v : View g) → P g v → Q g v) → AskedBy t e P → AskedBy t e Q
  asked_for t e P Q f s = record { sizes = s.sizes; from = s.from; means = s.means; can = λ told. f (basis s.sizes) (led t s.sizes (s.from told) e) (s.can told) }

  -- a pass that looks for the greatest note
  pub finding_asks : (old now : Shown basis) (losers done : List TxnId) (best : Option Greatest) (x : TxnId) → IsAmong x.0 losers → Since old now (λ t g v w. IsFinding t g v w done best) → Asked old (OpeningOver losers) → Asked now (IsAt x.0)
  finding_asks old now losers done best x among i s = record {
    by = s.by;
    sizes = s.sizes;
    from = λ told. s.from (i.told told);
    means = λ told. i.means s.by s.sizes (s.from (i.told told)) (s.means (i.told told));
    can = λ told.
        (let h = s.can (i.told told) in
        let d = i.done s.by s.sizes (s.from (i.told told)) (s.means (i.told told)) (i.told told) in
        let k = d.starts h.opening.down h.opening.objects h.opening.lawful h.opening.starts in
        record {
          rest = record { engine = k.engine; idle = k.idle };
          live = subst (λ (l : Log (setting s.by (basis s.sizes))). is_in x.0 (tally l).live ≡ true) (sym (d.log h.opening.down h.opening.objects h.opening.lawful h.opening.starts)) (h.live x.0 among);
        });
  }

  -- a pass that ends a loser
  pub ending_asks : (old now : Shown basis) (those left : List TxnId) (x : TxnId) → IsAmong x.0 left → Since old now (λ t g v w. IsEnding t g v w those left) → Asked old (OpeningUndone those) → Asked now (MayEnd x.0)
  ending_asks old now those left x among i s = record {
    by = s.by;
    sizes = s.sizes;
    from = λ told. s.from (i.told told);
    means = λ told. i.means s.by s.sizes (s.from (i.told told)) (s.means (i.told told));
    can = λ told.
        (let h = s.can (i.told told) in
        let o = h.over.opening in
        let d = i.done s.by s.sizes (s.from (i.told told)) (s.means (i.told told)) (i.told told) in
        let k = d.starts o.down o.objects o.lawful o.starts h.undone in
        record { rest = record { engine = k.engine; idle = k.idle }; going = live_going x.0 (led s.by s.sizes (s.from (i.told told)) now).log (d.going o.down o.objects o.lawful o.starts h.undone h.apart h.over.live x.0 among) });
  }

  module _ (t : Operations) (old now : Shown basis) where
    -- a pass that undoes a note
    pub losing_asks : (losers : List TxnId) (at : ℕ) → SinceBy t old now (λ g v w. IsUndoing t g v w losers at) → AskedBy t old (OpeningWith losers t) → AskedBy t now (OpeningWith losers t)
    losing_asks losers at i s = record {
      sizes = s.sizes;
      from = λ told. s.from (i.told told);
      means = λ told. i.means s.sizes (s.from (i.told told)) (s.means (i.told told));
      can = λ told.
          (let h = s.can (i.told told) in
          let o = h.over.opening in
          let d = i.done s.sizes (s.from (i.told told)) (s.means (i.told told)) (i.told told) in
          let same = sym (d.lives o.down o.objects o.lawful o.starts h.cover) in
          record {
            over = record {
              opening = record { lawful = o.lawful; down = o.down; objects = o.objects; starts = d.starts o.down o.objects o.lawful o.starts h.cover };
              live = λ u among. subst (λ ls. is_in u ls ≡ true) same (h.over.live u among);
            };
            cover = subst (λ ls. AreLosers ls losers) same h.cover;
            apart = h.apart;
          });
    }

    -- a pass that frees something
    pub freeing_asks : (left : ℕ) → SinceBy t old now (λ g v w. IsFreeing t g v w left) → AskedBy t old (OpeningSettled t) → AskedBy t now (OpeningSettled t)
    freeing_asks left i s = record {
      sizes = s.sizes;
      from = λ told. s.from (i.told told);
      means = λ told. i.means s.sizes (s.from (i.told told)) (s.means (i.told told));
      can = λ told.
          (let h = s.can (i.told told) in
          let o = h.opening in
          let k = (i.done s.sizes (s.from (i.told told)) (s.means (i.told told)) (i.told told)).starts o.down o.objects o.lawful o.starts h.settled in
          record { opening = record { lawful = o.lawful; down = o.down; objects = o.objects; starts = k.0 }; settled = k.1 });
    }
