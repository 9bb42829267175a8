-- A session that served serves behind a line.
use Rattle.std.proofs.Common.{◌≡◌, ℕ, List, [], ◌∷◌, map, None, refl, sym, ◌∙◌, subst}
use Rattle.sg_ops.specs.Table.{Table as Operations}
use Rattle.sg_serial.specs.Runs.{Live}
use Rattle.sg_core.specs.Live.{Txn}
use Rattle.sg_words.specs.Answers.{Answer}
use Rattle.sg_run.specs.Run.{Run}
use Rattle.sg_store.specs.Ground.{Ground, IsLawful}
use Rattle.sg_store.specs.Engine.{View, Sizes, Shown, led, AskedBy}
use Rattle.sg_store.specs.Asks as stores
use Rattle.sg_store.specs.Store as store
use Rattle.sg_session.specs.Lines.{Line}
use Rattle.sg_session.specs.Names.{all_unmarked}
use Rattle.sg_session.specs.Shows.{Core, Shows, ShowsSome}
use Rattle.sg_session.specs.Goes.{Goes}

module _ {basis : Sizes → Ground} where
  -- and so does its store
  pub store_serves : (t : Operations) (e : Shown basis) (k : Core) → AskedBy t e (ShowsSome k t) → AskedBy t e (stores.ShowsSome k.store t)
  store_serves t e k s = record {
    sizes = s.sizes;
    from = s.from;
    means = s.means;
    can = λ told. (let h = s.can told in record { lawful = h.lawful; run = h.run; shows = h.shows.store });
  }

  pub serves_through : (t : Operations) (old new : Shown basis) (k m : Core)
      → ((z : Sizes) (from : (basis z).X) → old.means t z from → new.means t z from) → (new.Told → old.Told)
      → ((z : Sizes) (from : (basis z).X) → old.means t z from → old.Told → (x : Run) → IsLawful t (basis z) → Shows t (basis z) (led t z from old) k x → (y : Run) × Shows t (basis z) (led t z from new) m y)
      → AskedBy t old (ShowsSome k t) → AskedBy t new (ShowsSome m t)
  serves_through t old new k m keeps back goes s = record {
    sizes = s.sizes;
    from = λ told. s.from (back told);
    means = λ told. keeps s.sizes (s.from (back told)) (s.means (back told));
    can = λ told. (let h = s.can (back told) in let next = goes s.sizes (s.from (back told)) (s.means (back told)) (back told) h.run h.lawful h.shows in record { lawful = h.lawful; run = next.0; shows = next.1 });
  }

  pub serves_on : (t : Operations) (old new : Shown basis) (k m : Core) (line : Line) (answer : Answer)
      → ((z : Sizes) (from : (basis z).X) → old.means t z from → new.means t z from) → (new.Told → old.Told)
      → ((z : Sizes) (from : (basis z).X) → old.means t z from → old.Told → (x : Run) → IsLawful t (basis z) → Shows t (basis z) (led t z from old) k x → Goes t (basis z) (led t z from old) x line answer (led t z from new) m)
      → AskedBy t old (ShowsSome k t) → AskedBy t new (ShowsSome m t)
  serves_on t old new k m line answer keeps back goes s = record {
    sizes = s.sizes;
    from = λ told. s.from (back told);
    means = λ told. keeps s.sizes (s.from (back told)) (s.means (back told));
    can = λ told. (let h = s.can (back told) in let next = goes s.sizes (s.from (back told)) (s.means (back told)) (back told) h.run h.lawful h.shows in record { lawful = h.lawful; run = next.after; shows = next.shows });
  }

-- a store without a live transaction shows no names
no_lives : (ls : List Live) → [] ≡ map (λ (l : Live). l.transaction) ls → [] ≡ all_unmarked ls
no_lives [] e = refl
no_lives (l ∷ ls) e = absurd (cc)

pub starts : (t : Operations) (g : Ground) (v : View g) (k : store.Core) (x : Run) → k.live ≡ [] → store.Shows t g v k x → Shows t g v (record { store = k; names = [] }) x
starts t g v k x none shows = record {
  store = shows;
  names = λ e. no_lives x.so_far.live (Rattle.std.proofs.Common.ap (λ (ls : List Txn). map (λ (l : Txn). l.transaction) ls) (sym none) ∙ (shows.runs e).is_kept.live);
}

pub starts_serving : {basis : Sizes → Ground} (t : Operations) (e : Shown basis) (k : store.Core) (names : List Live) → names ≡ [] → k.live ≡ [] → AskedBy t e (stores.ShowsSome k t) → AskedBy t e (ShowsSome (record { store = k; names = names }) t)
starts_serving {basis = basis} t e k names none none_live s = subst (λ (ls : List Live). AskedBy t e (ShowsSome (record { store = k; names = ls }) t)) (sym none) (record {
  sizes = s.sizes;
  from = s.from;
  means = s.means;
  can = λ told. (let h = s.can told in record { lawful = h.lawful; run = h.run; shows = starts t (basis s.sizes) (led t s.sizes (s.from told) e) k h.run none_live h.shows });
})
