-- VACANT ROWS BEHIND OTHERS.
use Rattle.std.proofs.Common.{◌≡◌, ◌≢◌, ℕ, ◌≤◌, ◌==◌, Bool, true, false, cond, List, [], ◌∷◌, ◌++◌, Option, Some, None, IsSome, Result, Ok, Err, sym, ap, subst, ◌∙◌, refl, length, arith}
use Rattle.std.specs.Prelude.{replicate, option_map, OnOk}
use Rattle.std.specs.List.{find}
use Rattle.std.proofs.lemmas.List.{length-replicate}
use Rattle.sg_recovery.specs.Log.{tally, is_in}
use Rattle.sg_actions.specs.Acting.{IsChained}
use Rattle.sg_actions.specs.Ending.{vacant}
use Rattle.sg_actions.specs.Engine.{EngineSeen}
use Rattle.sg_actions.specs.Rows.{last_in, AreApart}
use Rattle.sg_actions.specs.Steps.{Steps}
use Rattle.sg_actions.specs.Taken.{AreSaid}
use Rattle.sg_actions.specs.TakingOff.{AreRows}
use Rattle.sg_actions.specs.declared.rows.Actor.{Actor}
use Rattle.sg_actions.specs.declared.rows.Row.{Row}
use Rattle.sg_alloc.specs.declared.maps.Maps.{Maps}
use Rattle.sg_shown.specs.Spare.{HasSpare}
use Rattle.sg_regained.specs.Regained.{RestsAt, EndVacant}
use Rattle.sg_regained.proofs.Losers.{none_vacant, vacant_apart, vacant_behind}

-- a transaction's row is where it was
last_behind : (rows : List Row) (n u : ℕ) → u ≢ 0 → last_in (rows ++ replicate n vacant) u ≡ last_in rows u
last_behind [] n u some = none_vacant n u some
last_behind (r ∷ rows) n u some = by_test (r.txn.0 == u) (last_behind rows n u some)
  where
    by_test : (b : Bool) → last_in (rows ++ replicate n vacant) u ≡ last_in rows u
        → option_map (λ (x : Row). x.last) (cond b (Some r) (find (λ (x : Row). x.txn.0 == u) (rows ++ replicate n vacant)))
        ≡ option_map (λ (x : Row). x.last) (cond b (Some r) (find (λ (x : Row). x.txn.0 == u) rows))
    by_test true e = refl
    by_test false e = e

apart_behind : (rows : List Row) (n : ℕ) → AreApart rows → AreApart (rows ++ replicate n vacant)
apart_behind [] n a = vacant_apart n
apart_behind (r ∷ rows) n a = (λ some. last_behind rows n r.txn.0 some ∙ a.0 some, apart_behind rows n a.1)

rows_behind : (base : ℕ) (rs : Steps) (tail : ℕ) (rows : List Row) (actor : Actor) (n : ℕ) → IsChained base rs tail rows actor → AreRows rs tail (rows ++ replicate n vacant) actor
rows_behind base rs tail rows actor n c = record {
  own = λ ne. subst IsSome (sym (last_behind rows n actor.txn.0 ne)) (c.rows_are.own ne);
  low = λ u far. last_behind rows n u (λ none. absurd (let low = c.running.before_low in omega (arith, low, far, none))) ∙ c.rows_are.low u far;
  others = λ u ne live. last_behind rows n u (λ none. absurd (let no : true ≡ false = sym live ∙ (ap (λ (k : ℕ). is_in k (tally rs).live) none ∙ c.running.system) in cc)) ∙ c.rows_are.others u ne live;
  apart = apart_behind rows n c.rows_are.apart;
  past = λ u last some ne there gone. c.rows_are.past u last some ne (sym (last_behind rows n u some) ∙ there) gone;
}

rests_behind : (e : EngineSeen) (rows : List Row) (actor : Actor) (n : ℕ) → RestsAt e rows actor → RestsAt e (rows ++ replicate n vacant) actor
rests_behind e rows actor n h = record {
  chain = record { running = h.chain.running; rows_are = rows_behind e.base e.steps e.tail rows actor n h.chain; closed = h.chain.closed; at = h.chain.at };
  rest = h.rest;
}

-- of an engine, rows and an actor that are these
pub rests_spared : {E : Type 0} (view : E → EngineSeen) (e e' : E) (rows rows' : List Row) (actor actor' : Actor) (n : ℕ) → e' ≡ e → rows' ≡ rows ++ replicate n vacant → actor' ≡ actor
    → ((view e).Told → RestsAt (view e) rows actor) → (view e').Told → RestsAt (view e') rows' actor'
rests_spared {E} view e e' rows rows' actor actor' n same more who h told =
    subst (λ (x : Actor). RestsAt (view e') rows' x) (sym who)
    (subst (λ (xs : List Row). RestsAt (view e') xs actor) (sym more)
    (subst (λ (x : E). RestsAt (view x) (rows ++ replicate n vacant) actor) (sym same)
    (rests_behind (view e) rows actor n (h (subst (λ (x : E). (view x).Told) same told)))))

-- 65 of them
pub vacant_end : (rows old : List Row) → rows ≡ old ++ replicate 65 vacant → EndVacant rows
vacant_end rows old e = record { old = old; are = e ∙ ap (λ (xs : List Row). old ++ xs) (sym (vacant_behind 64)) }

-- ROOM FOR TRANSACTIONS
many_vacant : (n : ℕ) → n ≤ length (replicate n vacant)
many_vacant n = let l = length-replicate n vacant in omega (arith, l)

pub spare_of : (e : EngineSeen) (rows : List Row) (actor : Actor) → EndVacant rows → RestsAt e rows actor → HasSpare e.steps rows
spare_of e rows actor v h = record {
  old = v.old;
  front = replicate 64 vacant;
  last = vacant;
  are = v.are;
  many = many_vacant 64;
  going = λ u some there. absurd (let no : IsSome {T = ℕ} None = subst (λ (o : Option ℕ). IsSome o) (none_vacant 64 u some) there in cc);
  gone = h.chain.running.system;
}

-- what is taken says something, of an engine and flags that are these
pub said_as : {E : Type 0} (view : E → EngineSeen) (e e' : E) (maps maps' : Maps) → e' ≡ e → maps' ≡ maps → ((view e).Told → AreSaid maps.pages (view e).now.pages) → (view e').Told → AreSaid maps'.pages (view e').now.pages
said_as {E} view e e' maps maps' same is h =
    subst (λ (x : E). (view x).Told → AreSaid maps'.pages (view x).now.pages) (sym same) (subst (λ (m : Maps). (view e).Told → AreSaid m.pages (view e).now.pages) (sym is) h)

-- what holds of a result that is none of a failure, by what held before
pub on_ok_then : {T F P Q : Type 0} (r : Result T F) → (P → Q) → OnOk r P → OnOk r Q
on_ok_then (Ok x) f p = f p
on_ok_then (Err e) f p = tt
