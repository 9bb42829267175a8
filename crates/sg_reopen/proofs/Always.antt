-- Each image of each moment stands over all that was ever done to a store.
use Rattle.std.proofs.Common.{◌≡◌, ◌≤◌, ℕ, List, [], ◌∷◌, ◌++◌, refl, sym, ◌∙◌, ap, subst, append_assoc}
use Rattle.sg_disk.specs.Disk.{Image, View, LeavesOnly}
use Rattle.sg_disk.proofs.Moments.{weaker}
use Rattle.sg_record.specs.Records.{Record}
use Rattle.sg_log.specs.Frames.{Numbered}
use Rattle.sg_log.specs.Held.{Tail}
use Rattle.sg_gate.specs.declared.superblock.Super.{Super}
use Rattle.sg_analysis.specs.Sights.{sight_of}
use Rattle.sg_pool.specs.declared.pool.Pool.{Pool}
use Rattle.sg_engine.specs.History.{Effect, Entry, Homes, made, AreSame}
use Rattle.sg_engine.specs.Engine.{Origin, entries, geometry, IsStanding}
use Rattle.sg_engine.specs.Running.{IsAllowed}
use Rattle.sg_engine.specs.Cut.{Stand, stand_of, cut_at}
use Rattle.sg_engine.proofs.Cut.{entries_cut, page_made, byte_made}
use Rattle.sg_reopen.specs.Again.{at_home, image_home, StandsAgain, MakesSame, IsMarked, ArePoints}
use Rattle.sg_reopen.specs.Making.{IsEmptyCatalogue, IsEmptyStore, origin_of}
use Rattle.sg_reopen.specs.Over.{StandsOver, GivesAll, IsBetween}
use Rattle.sg_reopen.proofs.Again.{image_makes, makes_more}
use Rattle.sg_reopen.proofs.Making.{stands_again}
use Rattle.sg_reopen.proofs.Points.{moments_own, points_append}
use Rattle.sg_reopen.proofs.Over.{over_life}

-- a store that is just made, of which nothing is gone
pub made_over : (effect : (lsn : ℕ) → Record → Effect) (s : Super) (page : List ℕ) (c : Image) → IsEmptyCatalogue page → IsEmptyStore s page c → s.base ≡ 0 → 1 ≤ s.pages → StandsOver (origin_of effect s page) [] [] c
made_over effect s page c catalogue is base some = record {
  stand = stand_of s;
  gone = [];
  durable = [];
  appended = [];
  of_durable = refl;
  of_all = refl;
  again = stands_again effect s page c catalogue is base some;
}

-- over a call of the engine
pub rests_over : (o : Origin) (a : Stand) (before rs since all : List Numbered) (f : Homes) (v w : View) (log : Tail) (pool : Pool) → MakesSame (cut_at o a before) rs f
    → ArePoints (at_home (cut_at o a before) f) (IsAllowed (at_home (cut_at o a before) f) v log pool) (rs ++ since) all
    → ((k : ℕ) → IsAllowed (at_home (cut_at o a before) f) v log pool k → LeavesOnly v w (IsStanding (at_home (cut_at o a before) f) (rs ++ since) all k))
    → LeavesOnly v w (StandsOver o (before ++ (rs ++ since)) (before ++ all))
rests_over o a before rs since all f v w log pool same points runs =
    weaker (moments_own (IsAllowed (at_home (cut_at o a before) f) v log pool) (at_home (cut_at o a before) f) (rs ++ since) all v w points runs) (λ c again. over_life o a before rs since all f c same again)

pub appends_over : (o : Origin) (a : Stand) (before rs since all : List Numbered) (f : Homes) (v w : View) (log : Tail) (pool : Pool) (n : Numbered) → MakesSame (cut_at o a before) rs f
    → ArePoints (at_home (cut_at o a before) f) (IsAllowed (at_home (cut_at o a before) f) v log pool) (rs ++ since) all → IsMarked (IsAllowed (at_home (cut_at o a before) f) v log pool) n.lsn (sight_of n.is)
    → ((k : ℕ) → IsAllowed (at_home (cut_at o a before) f) v log pool k → LeavesOnly v w (IsStanding (at_home (cut_at o a before) f) (rs ++ since) (all ++ n ∷ []) k))
    → LeavesOnly v w (StandsOver o (before ++ (rs ++ since)) (before ++ (all ++ n ∷ [])))
appends_over o a before rs since all f v w log pool n same points mark runs =
    weaker (moments_own (IsAllowed (at_home (cut_at o a before) f) v log pool) (at_home (cut_at o a before) f) (rs ++ since) (all ++ n ∷ []) v w
    (points_append (IsAllowed (at_home (cut_at o a before) f) v log pool) (at_home (cut_at o a before) f) (rs ++ since) all n points mark) runs) (λ c again. over_life o a before rs since (all ++ n ∷ []) f c same again)

-- records that make of a home area what they make of the cut store's first one give all
gives : (o : Origin) (a : Stand) (before ns : List Numbered) (f : Homes) → MakesSame (cut_at o a before) ns f → GivesAll o before ns f
gives o a before ns f same =
    let was : AreSame (geometry o.super) (made (entries o ns) f) (made (entries o ns) (made (entries o before) o.first)) =
    subst (λ (l : List Entry). AreSame (geometry o.super) (made l f) (made l (made (entries o before) o.first))) (entries_cut o a before ns) same in
    record {
      pages = λ n lt. was.pages n lt ∙ page_made o before ns n o.first;
      bytes = λ b i is_band is_byte. was.bytes b i is_band is_byte ∙ byte_made o before ns b i o.first;
    }

pub gives_all : (o : Origin) (a : Stand) (before rs since : List Numbered) (f : Homes) → MakesSame (cut_at o a before) rs f → GivesAll o before (rs ++ since) f
gives_all o a before rs since f same = gives o a before (rs ++ since) f (makes_more (cut_at o a before) rs since f same)

-- AN IMAGE GIVES ALL
pub image_gives : (o : Origin) (ds all : List Numbered) (c : Image) → (over : StandsOver o ds all c) → GivesAll o over.gone over.again.stands.records (image_home (cut_at o over.stand over.gone) c)
image_gives o ds all c over = gives o over.stand over.gone over.again.stands.records (image_home (cut_at o over.stand over.gone) c)
    (image_makes (cut_at o over.stand over.gone) over.durable over.appended over.again.point c over.again.stands)

pub between_all : (o : Origin) (ds all : List Numbered) (c : Image) → (over : StandsOver o ds all c) → IsBetween ds (over.gone ++ over.again.stands.records) all
between_all o ds all c over = record {
  since = over.again.stands.since;
  more = over.again.stands.more;
  durable = ap (λ (l : List Numbered). over.gone ++ l) over.again.stands.later ∙ (sym (append_assoc over.gone over.durable over.again.stands.since) ∙ ap (λ (l : List Numbered). l ++ over.again.stands.since) (sym over.of_durable));
  front = over.of_all ∙ (ap (λ (l : List Numbered). over.gone ++ l) over.again.stands.front ∙ sym (append_assoc over.gone over.again.stands.records over.again.stands.more));
}
