-- A store is opened again, whose log may have been cut.
use Rattle.std.proofs.Common.{◌≡◌, ⊎_elim, ◌≤◌, List, [], ◌∷◌, ◌++◌, Result, Ok, Err, IfOk, refl, sym, ◌∙◌, ap, subst, append_assoc}
use Rattle.std.proofs.lemmas.List.{append_cancel_left}
use Rattle.sg_disk.specs.Disk.{Image, View, Leaves, LeavesOnly}
use Rattle.sg_disk.proofs.Moments.{weaker, joined}
use Rattle.sg_log.specs.Frames.{Numbered}
use Rattle.sg_log.specs.Held.{Tail}
use Rattle.sg_ops.specs.Table.{Table}
use Rattle.sg_pool.specs.declared.pool.Pool.{Pool}
use Rattle.sg_engine.specs.Effects.{IsBy}
use Rattle.sg_engine.specs.History.{Homes}
use Rattle.sg_engine.specs.Engine.{Origin, IsStanding}
use Rattle.sg_engine.specs.Running.{IsEngine, IsAllowed}
use Rattle.sg_engine.specs.Cut.{cut_at}
use Rattle.sg_engine.proofs.Logs.{none_more}
use Rattle.sg_find.specs.Synced.{reads, redo_point}
use Rattle.sg_open.specs.Found.{Opens, AreOpening}
use Rattle.sg_reopen.specs.Again.{at_home, image_home, origin_at, StandsAgain, MakesSame, AreMarked}
use Rattle.sg_reopen.specs.Running.{RunsAgain}
use Rattle.sg_reopen.proofs.Again.{image_makes}
use Rattle.sg_reopen.proofs.Lives.{opens_reads}
use Rattle.sg_reopen.proofs.Points.{point_within, points_opened, again_first, again_weaker}
use Rattle.sg_reopen.specs.Over.{StandsOver}

none_left : {X : Type 0} (xs ys : List X) → xs ++ ys ≡ [] → xs ≡ []
none_left [] ys e = refl
none_left (x ∷ xs) ys e = absurd (cc)

-- where all records are durable, an image has just these
only_these : (xs ys zs : List Numbered) → xs ≡ (xs ++ ys) ++ zs → xs ++ ys ≡ xs
only_these xs ys zs e =
    let none : [] ≡ ys ++ zs = append_cancel_left xs [] (ys ++ zs) (sym (none_more xs) ∙ (e ∙ append_assoc xs ys zs)) in
    ap (λ (l : List Numbered). xs ++ l) (none_left ys zs (sym none)) ∙ sym (none_more xs)

-- an image of opening stands from its own point
pub own_point : (o : Origin) (rs : List Numbered) (c : Image) → AreMarked (λ k. Unit {0}) rs → IsStanding o rs rs (redo_point o.super.base rs) c → StandsAgain o rs rs c
own_point o rs c low s =
    let same : s.records ≡ rs = s.later ∙ only_these rs s.since s.more (s.front ∙ ap (λ (l : List Numbered). l ++ s.more) s.later) in
    record {
      point = redo_point o.super.base rs;
      stands = s;
      own = ap (redo_point o.super.base) (sym same);
      low = subst (λ (l : List Numbered). AreMarked (λ k. Unit {0}) l) (sym same) low;
    }

pub both_ok : {T E : Type 0} {P Q R : T → Type 0} (r : Result T E) → IfOk r P → IfOk r Q → ((x : T) → P x → Q x → R x) → IfOk r R
both_ok (Ok x) p q f = f x p q
both_ok (Err e) p q f = tt

module _ (t : Table) (o : Origin) (ds all : List Numbered) (v : View) (is : IsBy t o) (over : StandsOver o ds all (reads v)) where
  -- the store as it is since its log was cut last
  abbrev cut : Origin
  cut = cut_at o over.stand over.gone

  abbrev ns : List Numbered
  ns = over.again.stands.records

  pub opens : Opens (origin_at (cut_at o over.stand over.gone) (reads v)) over.again.stands.tail over.again.stands.records v
  opens = opens_reads t (cut_at o over.stand over.gone) over.durable over.appended (reads v) v (record { says = is.says }) (λ a. refl) over.again

  makes : MakesSame (cut_at o over.stand over.gone) over.again.stands.records (image_home (cut_at o over.stand over.gone) (reads v))
  makes = image_makes (cut_at o over.stand over.gone) over.durable over.appended over.again.point (reads v) over.again.stands

  pub within : redo_point over.stand.base over.again.stands.records ≤ over.again.stands.tail
  within = point_within (cut_at o over.stand over.gone) over.durable over.appended over.again.point (reads v) over.again.stands over.again.low

  pub runs : (w : View) (log : Tail) (pool : Pool) → IsEngine (origin_at (cut_at o over.stand over.gone) (reads v)) w log over.again.stands.records [] pool
      → IsAllowed (origin_at (cut_at o over.stand over.gone) (reads v)) w log pool (redo_point over.stand.base over.again.stands.records)
      → RunsAgain (cut_at o over.stand over.gone) (image_home (cut_at o over.stand over.gone) (reads v)) over.again.stands.records w log pool
  runs w log pool engine allowed = record {
    engine = engine;
    same = makes;
    points = points_opened (at_home (cut_at o over.stand over.gone) (image_home (cut_at o over.stand over.gone) (reads v))) w log pool over.again.stands.records over.again.low allowed;
  }

  -- EACH IMAGE of opening
  pub opening_over : (w : View) → ((c : Image) → Leaves v.now c → StandsOver o ds all c) → AreOpening (origin_at (cut_at o over.stand over.gone) (reads v)) over.again.stands.records v w → LeavesOnly v w (StandsOver o ds all)
  opening_over w each = ⊎_elim
      (λ early. weaker early each)
      (λ (mid, synced, early, late). joined (weaker early each) (weaker late behind))
    where
      behind : (c : Image) → IsStanding (origin_at (cut_at o over.stand over.gone) (reads v)) over.again.stands.records over.again.stands.records (redo_point over.stand.base over.again.stands.records) c → StandsOver o ds all c
      behind c stands = record {
        stand = over.stand;
        gone = over.gone;
        durable = over.durable;
        appended = over.appended;
        of_durable = over.of_durable;
        of_all = over.of_all;
        again = again_weaker (cut_at o over.stand over.gone) over.durable over.appended over.again.stands.records over.again.stands.records over.again.stands.since over.again.stands.more c over.again.stands.later over.again.stands.front
            (again_first (cut_at o over.stand over.gone) over.again.stands.records [] over.again.stands.records over.again.stands.records (image_home (cut_at o over.stand over.gone) (reads v)) c makes (none_more over.again.stands.records)
            (own_point (at_home (cut_at o over.stand over.gone) (image_home (cut_at o over.stand over.gone) (reads v))) over.again.stands.records c over.again.low stands));
      }
