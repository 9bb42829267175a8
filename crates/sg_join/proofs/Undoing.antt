-- The last note of a live transaction can be undone, and a page is free for it.
use Rattle.std.proofs.Common.{◌≡◌, ℕ, ◌+◌, ◌<◌, ◌≤◌, true, List, [], ◌∷◌, ◌++◌, map, Some, refl, sym, ap, ◌∙◌, subst, arith}
use Rattle.sg_recovery.specs.Setting.{Setting}
use Rattle.sg_recovery.specs.Log.{Top, Tally, tally, is_in, notes_of, open_not_of}
use Rattle.sg_recovery.specs.Log.Record.{CompEnd}
use Rattle.sg_recovery.specs.Stands.{made, settled, undoes, wanted, wants_one}
use Rattle.sg_recovery.specs.Laws.{Each, Laws, bare}
use Rattle.sg_recovery.specs.Keeps.{HasUndone}
use Rattle.sg_recovery.specs.Shows.{Shows, Ranks, Pairs, Running, from_on, left}
use Rattle.sg_recovery.specs.Runs.{TakesPages}
use Rattle.sg_recovery.specs.Runs.Goes.{undoes_last}
use Rattle.sg_recovery.specs.Chains.{next_lsn, IsLast}
use Rattle.sg_recovery.specs.Claims.{Log, History}
use Rattle.sg_recovery.proofs.Basic.{each_more}
use Rattle.sg_recovery.proofs.Pages.{wanted_but}
use Rattle.sg_recovery.proofs.Rolling.{last_can}
use Rattle.sg_recovery.proofs.Meeting.{last_of_own}
use Rattle.sg_join.specs.Join.{Keeps}
use Rattle.sg_join.proofs.Keeping as keeping

each_mapped : {A B : Type 0} (f : A → B) (P : B → Type 0) (xs : List A) → Each P (map f xs) → Each (λ x. P (f x)) xs
each_mapped f P [] h = tt
each_mapped f P (x ∷ xs) h = (h.0, each_mapped f P xs h.1)

-- a list whose map is split
record IsSplit {A B : Type 0} (f : A → B) (xs : List A) (later : List B) (n : B) (rest : List B) : Type 0 where
  front : List A
  mid : A
  back : List A
  all : xs ≡ front ++ mid ∷ back
  is_front : map f front ≡ later
  is_mid : f mid ≡ n

split_mapped : {A B : Type 0} (f : A → B) (xs : List A) (later : List B) (n : B) (rest : List B) → map f xs ≡ later ++ n ∷ rest → IsSplit f xs later n rest
split_mapped f [] [] n rest e = absurd (cc)
split_mapped f [] (m ∷ later) n rest e = absurd (cc)
split_mapped f (x ∷ xs) [] n rest e = record { front = []; mid = x; back = xs; all = refl; is_front = refl; is_mid = cc }
split_mapped {A} f (x ∷ xs) (m ∷ later) n rest e =
    let i = split_mapped f xs later n rest (cc) in
    record { front = x ∷ i.front; mid = i.mid; back = i.back; all = ap (λ l. x ∷ l) i.all; is_front = first i.front i.is_front; is_mid = i.is_mid }
  where
    head_is : f x ≡ m
    head_is = cc

    first : (l : List A) → map f l ≡ later → f x ∷ map f l ≡ m ∷ later
    first l h = cc

pairs_back : {A : Type 0} (R : A → A → Type 0) (xs ys : List A) → Pairs R (xs ++ ys) → Pairs R ys
pairs_back R [] ys h = h
pairs_back R (x ∷ xs) ys h = pairs_back R xs ys h.1

module _ (s : Setting) where
  -- it can be undone now
  pub last_undone : (first : s.S) (bound : ℕ) (held : ℕ → s.W) (k : Tally s.C s.N) (x : s.X) (h : History s) (i : Running s first bound held k x h) (t : ℕ) (n : Top s.C s.N) (own : List (Top s.C s.N))
      → notes_of t k.notes ≡ n ∷ own → is_in t k.live ≡ true → (p : s.O) × (undoes s n i.reading ≡ Some p)
  last_undone first bound held k x h i t n own e live =
      let l : IsLast k.notes t n = last_of_own k.notes t n own e in
      let c = split_mapped (bare s) i.placed l.later n l.rest (i.are ∙ l.all) in
      let own_mid : c.mid.transaction ≡ t = ap (λ (m : Top s.C s.N). m.transaction) c.is_mid ∙ l.own in
      let others : Each (λ m. m.transaction ≡ t → ⊥) c.front = each_mapped (bare s) (λ m. m.transaction ≡ t → ⊥) c.front (subst (Each (λ m. m.transaction ≡ t → ⊥)) (sym c.is_front) l.others) in
      let ranks : Pairs (Ranks s) (c.mid ∷ c.back) = pairs_back (Ranks s) c.front (c.mid ∷ c.back) (subst (Pairs (Ranks s)) c.all i.ranks) in
      let r = last_can s first k.live c.front c.mid c.back h i.reading (subst (λ a. Shows s first k.live a h i.reading) c.all i.shows) (ap (λ u. is_in u k.live) own_mid ∙ live)
      (each_more (λ m. m.transaction ≡ t → ⊥) (λ m. m.transaction ≡ c.mid.transaction → ⊥) c.front (λ m ne e. ne (e ∙ own_mid)) others)
      (each_more (Ranks s c.mid) (λ m. m.lsn < c.mid.lsn) c.back (λ m z. z.lower) ranks.0) in
      (r.0, ap (λ (m : Top s.C s.N). undoes s m i.reading) (sym c.is_mid) ∙ r.1)

  -- and a page is free for it, if it wants one
  pub last_free : (first : s.S) (bound : ℕ) (held : ℕ → s.W) (k : Tally s.C s.N) (x : s.X) (h : History s) (i : Running s first bound held k x h) (t : ℕ) (n : Top s.C s.N) (own : List (Top s.C s.N))
      → notes_of t k.notes ≡ n ∷ own → wants_one s n ≤ s.free i.reading
  last_free first bound held k x h i t n own e =
      let l : IsLast k.notes t n = last_of_own k.notes t n own e in
      let all : wanted s k.notes ≡ wanted s (l.later ++ l.rest) + wants_one s n = ap (wanted s) l.all ∙ wanted_but s l.later n l.rest in
      let pages : wanted s k.notes ≤ s.free i.reading = i.pages in
      more (wanted s (l.later ++ l.rest)) (wants_one s n) (s.free i.reading) (subst (λ a. a ≤ s.free i.reading) all pages)
    where
      more : (a b c : ℕ) → a + b ≤ c → b ≤ c
      more a b c z = omega (arith, z)

  -- A comp-end: the transaction's last note has been undone
  pub undone : Laws s → (first : s.S) (pages : s.X) (m : s.S) (held : ℕ → s.W) (durable log : Log s) (h : History s) (l t p u : ℕ) (n : Top s.C s.N) (own : List (Top s.C s.N)) → Keeps s first pages m held durable log h → next_lsn log ≤ l
      → notes_of t (tally log).notes ≡ n ∷ own → n.undo_next ≡ u → open_not_of t (tally log).opened ≡ []
      → ((o : s.O) → settled s (tally log).opened (made s pages log) ≡ Some o → HasUndone s n (made s pages log) o) → TakesPages s (tally log) (made s pages log) (wants_one s n)
      → Keeps s first pages m held durable (record { lsn = l; is = CompEnd t p u } ∷ log) (left (from_on t n.lsn) h)
  undone w first pages m held durable log h l t p u n own k le e next alone has takes =
      let is : IsLast (tally log).notes t n = last_of_own (tally log).notes t n own e in
      subst (λ v. Keeps s first pages m held durable (record { lsn = l; is = CompEnd t p v } ∷ log) (left (from_on t n.lsn) h)) next
      (subst (λ v. Keeps s first pages m held durable (record { lsn = l; is = CompEnd v p n.undo_next } ∷ log) (left (from_on v n.lsn) h)) is.own
      (keeping.goes s w first pages m held durable log h (left (from_on n.transaction n.lsn) h) (record { lsn = l; is = CompEnd n.transaction p n.undo_next }) k le
      (undoes_last p is.later n is.rest is.all (each_more (λ v. v.transaction ≡ t → ⊥) (λ v. v.transaction ≡ n.transaction → ⊥) is.later (λ v ne f. ne (f ∙ is.own)) is.others)
      (subst (λ v. open_not_of v (tally log).opened ≡ []) (sym is.own) alone) has takes)))
