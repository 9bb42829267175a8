-- A newer superblock, and the calls of a cut.
use Rattle.std.proofs.Common.{◌≡◌, ◌⊎◌, inl, inr, ⊎_elim, ◌<◌, ◌≤◌, ◌+◌, ℕ, Option, Some, None, IfSome, List, [], ◌∷◌, length, Result, Ok, Err, refl, sym, ◌∙◌, ap, subst, arith}
use Rattle.sg_base.specs.declared.area.Area.{Area}
use Rattle.sg_disk.specs.Disk.{Spoils, Bytes, Image, Part, State, View, LeavesOnly, Leaves, Dropped, Synced, Does}
use Rattle.sg_disk.proofs.Moments.{goes_on, joined, weaker}
use Rattle.sg_log.specs.Frames.{Numbered, SameElsewhere}
use Rattle.sg_log.specs.Held.{Tail, Holds}
use Rattle.sg_log.specs.Cut.{other_log, IsSplit, gate_of, kept_of, gone_of, Spares, cut_to}
use Rattle.sg_log.proofs.Cutting.{spare_now, spare_dropped, other_dropped}
use Rattle.sg_disk.proofs.Parts.{other_synced}
use Rattle.sg_gate.specs.Superblock.{superblock, read_in, read_with, read_text, counting, start_of, text_at, sequence_of, said, wrong_in, IsNewer, IsRenewing, IsRenewed, spare_of, AreSettled}
use Rattle.sg_gate.specs.declared.slot.Slot.{Slot}
use Rattle.sg_gate.specs.declared.superblock.Super.{Super}
use Rattle.sg_base.specs.declared.area.Area.TheVariants.{Home}
use Rattle.sg_pool.specs.declared.pool.Pool.{Pool}
use Rattle.sg_engine.specs.Engine.{Origin}
use Rattle.sg_engine.specs.Running.{IsEngine, IsAllowed}
use Rattle.sg_engine.specs.Cut.{Stand, super_at, next_stand, cut_at, IsCutting, IsCutOff}
use Rattle.sg_engine.proofs.Renewed as renewed

-- it is newer than the one that counts
pub is_newer : (f : Bytes) (s t : Super) → superblock f ≡ Ok s → s.sequence < t.sequence → IsNewer f t
is_newer f s t e lt = by_slot (counting f) e
  where
    by_wrong : (at : ℕ) (text : List ℕ) (w : Option ℕ) → read_with at text w ≡ Ok s → sequence_of text < t.sequence
    by_wrong at text None z = let same : said text ≡ s = cc in let number : sequence_of text ≡ s.sequence = ap (λ (x : Super). x.sequence) same in omega (arith, number, lt)
    by_wrong at text (Some wrong) z = absurd (cc)

    by_slot : (c : Option Slot) → read_in f c ≡ Ok s → IfSome c (λ slot. sequence_of (text_at f (start_of slot)) < t.sequence)
    by_slot None z = tt
    by_slot (Some slot) z = by_wrong (start_of slot) (text_at f (start_of slot)) (wrong_in (text_at f (start_of slot))) z

-- A CUT, call by call
module _ (o : Origin) (v : View) (log : Tail) (ds : List Numbered) (pool : Pool) (e : IsEngine o v log ds [] pool) (none : length log.buffer ≡ 0) (point : ℕ) (allowed : IsAllowed o v log pool point) (within : point < log.gate) where
  pub copy_run : (w : View) → LeavesOnly v w (Spares (other_log log.area) v.now) → LeavesOnly v w (IsCutting o v log pool point ds)
  copy_run w run = weaker run (renewed.copying o v log ds pool e none point)

  pub whole_off : (w : View) (now : Tail) (t : Super) → SameElsewhere (other_log log.area) v.now w.now → now ≡ log → (s : IsSplit log.base point ds) × (now.base ≡ gate_of s) × Holds w now (kept_of s) [] → t ≡ o.super → IsCutOff o w now pool log.base point ds t
  whole_off w now t same is sp super = (sp.0, inl (sym sp.1 ∙ ap (λ (l : Tail). l.base) is, super, subst (λ (l : Tail). IsEngine o w l ds [] pool) (sym is) (renewed.whole_engine o v log ds pool e none w same)))

  pub whole_allows : (w : View) (now : Tail) (k : ℕ) → SameElsewhere (other_log log.area) v.now w.now → now ≡ log → IsAllowed o v log pool k → IsAllowed o w now pool k
  whole_allows w now k same is a = subst (λ (l : Tail). IsAllowed o w l pool k) (sym is) (renewed.whole_allowed o v log ds pool e none w same k a)

  module _ (w : View) (now : Tail) (t : Super) (same : SameElsewhere (other_log log.area) v.now w.now) (run : LeavesOnly v w (Spares (other_log log.area) v.now))
      (sp : (s : IsSplit log.base point ds) × (now.base ≡ gate_of s) × Holds w now (kept_of s) []) (how : (now ≡ log) ⊎ (now ≡ cut_to now.base log)) (moved : now.base ≡ log.base → ⊥) (is : t ≡ super_at o.super (next_stand o.super now.base)) where
    log_is : now ≡ cut_to (gate_of sp.0) log
    log_is = ⊎_elim (λ whole. absurd (moved (ap (λ (l : Tail). l.base) whole))) (λ cut. cut ∙ ap (λ (b : ℕ). cut_to b log) sp.1) how

    held : Holds w (cut_to (gate_of sp.0) log) (kept_of sp.0) []
    held = subst (λ (l : Tail). Holds w l (kept_of sp.0) []) log_is sp.2

    t_is : t ≡ super_at o.super (next_stand o.super (gate_of sp.0))
    t_is = is ∙ ap (λ (b : ℕ). super_at o.super (next_stand o.super b)) sp.1

    home_is : w.now Home ≡ v.now Home
    home_is = renewed.home_same o v log ds pool e none w same

    pub fresh : IsNewer (w.now Home).seen t
    fresh = is_newer (w.now Home).seen o.super t (ap (λ (p : Part). superblock p.seen) home_is ∙ e.engine.super) (let n : t.sequence ≡ o.super.sequence + 1 = ap (λ (x : Super). x.sequence) is in omega (arith, n))

    pub settled : AreSettled (w.now Home)
    settled i low spoilt = e.engine.backed.ready.settled i (inl (omega (arith, low))) (subst (λ (p : Part). Spoils p.pending i) home_is spoilt)

    pub renew_run : (x : View) → LeavesOnly w x (IsRenewing w.now t (spare_of (w.now Home).seen)) → LeavesOnly v x (IsCutting o v log pool point ds)
    renew_run x more = joined (copy_run w run) (weaker more (λ c r. renewed.renewing o v log ds pool e none w same point allowed within sp.0 held c (subst (λ (y : Super). IsRenewing w.now y (spare_of (w.now Home).seen) c) t_is r)))

    module _ (x : View) (more : LeavesOnly w x (IsRenewing w.now t (spare_of (w.now Home).seen))) (done : IsRenewed w.now x.now t (spare_of (w.now Home).seen)) (area : Area) (at : area ≡ log.area) where
      done_so : IsRenewed w.now x.now (super_at o.super (next_stand o.super (gate_of sp.0))) (spare_of (w.now Home).seen)
      done_so = subst (λ (y : Super). IsRenewed w.now x.now y (spare_of (w.now Home).seen)) t_is done

      dropping : (c : Image) → Spares log.area x.now c → IsCutting o v log pool point ds c
      dropping c spares = renewed.dropping o v log ds pool e none w same point allowed within sp.0 held x done_so c spares

      pub drop_run : {T E : Type 0} (y : View) (r : Result T E) → Dropped area 0 x y r → LeavesOnly v y (IsCutting o v log pool point ds)
      drop_run y r does = goes_on (renew_run x more) does (λ c leaves. dropping c (subst (λ (a : Area). Spares a x.now c) at (spare_dropped area 0 x.now x.now c (λ b other. refl) leaves)))

      pub sync_run : {T E S F : Type 0} {u : T} (y z : View) (r : Result S F) → Dropped {E = E} area 0 x y (Ok u) → Synced area y z r → LeavesOnly v z (IsCutting o v log pool point ds)
      sync_run y z r does synced = goes_on (drop_run y (Ok _) does) synced (λ c leaves. dropping c (subst (λ (a : Area). Spares a x.now c) at (spare_now area x.now y.now c (λ b other. other_dropped x.now area b 0 other does.ok) leaves)))

      others : {T E S F : Type 0} {u : T} {q : S} (y z : View) → Dropped {E = E} area 0 x y (Ok u) → Synced {E = F} area y z (Ok q) → SameElsewhere log.area x.now z.now
      others y z does synced = subst (λ (a : Area). SameElsewhere a x.now z.now) at (λ b other. other_synced y.now area b other synced.ok ∙ other_dropped x.now area b 0 other does.ok)

      pub cut_off : {T E S F : Type 0} {u : T} {q : S} (y z : View) → Dropped {E = E} area 0 x y (Ok u) → Synced {E = F} area y z (Ok q) → IsCutOff o z now pool log.base point ds t
      cut_off y z does synced = (
        sp.0,
        inr (
          t_is,
          subst (λ (l : Tail). IsEngine (cut_at o (next_stand o.super (gate_of sp.0)) (gone_of sp.0)) z l (kept_of sp.0) [] pool) (sym log_is)
              (renewed.cut_engine o v log ds pool e none w same point allowed within sp.0 held x done_so z (others y z does synced)),
        ),
      )

      pub cut_allows : {T E S F : Type 0} {u : T} {q : S} (y z : View) (k : ℕ) → Dropped {E = E} area 0 x y (Ok u) → Synced {E = F} area y z (Ok q) → IsAllowed o v log pool k → IsAllowed o z now pool k
      cut_allows y z k does synced a = subst (λ (l : Tail). IsAllowed o z l pool k) (sym log_is) (renewed.cut_allowed o v log ds pool e none w same point allowed within sp.0 held x done_so z (others y z does synced) k a)
