-- Bytes of bands come back.
use Rattle.std.proofs.Props.{props}
use Rattle.std.proofs.Common.{◌≡◌, ◌≢◌, ℕ, ◌+◌, ◌<◌, ◌≤◌, ◌==◌, nat_le, nat_lt, List, [], ◌∷◌, ◌++◌, length, take, drop, Option, Some, None, Bool, true, false, sym, ap, subst, ◌∙◌, refl, arith, inl, inr, Ok, Err}
use Rattle.std.specs.Prelude.{◌&&◌, ◌||◌, if◌then◌else◌, IsSome, Result}
use Rattle.std.proofs.lemmas.List.{append_assoc, length-take-le, length-drop}
use Rattle.std.proofs.lemmas.Bool.{cases_Bool}
use Rattle.std.proofs.lemmas.Bool.Decides.{nat_tests}
use Rattle.sg_alloc.specs.declared.maps.Maps.{Maps}
use Rattle.sg_ops.specs.Table.{Table}
use Rattle.sg_record.specs.Changes.{Change as Changing, BandBytes, BandOp}
use Rattle.sg_record.specs.Changes.Change.{Page, SegWrite, SegOp}
use Rattle.sg_record.specs.Ranges.{Field, first_out, is_part, op_before_fits, says_fields, GREATEST, IsRecord}
use Rattle.sg_record.specs.Records.{Record, Says, HEADER, body_of}
use Rattle.sg_record.specs.Records.Says.{Begin as SaysBegin, Changed as SaysChanged, TopEnd as SaysTopEnd, PhysComp as SaysPhysComp, TopVoid as SaysTopVoid, CompEnd as SaysCompEnd, Save as SaysSave, Commit as SaysCommit, End as SaysEnd, Checkpoint as SaysCheckpoint}
use Rattle.sg_record.specs.Shown.{by}
use Rattle.sg_recovery.specs.Laws.{Each}
use Rattle.sg_recovery.specs.Log.{tally, said, changes_of}
use Rattle.sg_recovery.specs.Log.Record.{Change}
use Rattle.sg_recovery.specs.Chains.{Formed}
use Rattle.sg_recovery.proofs.Basic.{each_append}
use Rattle.sg_action.specs.States.{State, apply, made}
use Rattle.sg_space.specs.Bands.{IsPiece}
use Rattle.sg_actions.specs.Acting.{IsChained}
use Rattle.sg_actions.specs.Changes.{meaning, bytes_with}
use Rattle.sg_actions.specs.Engine.{EngineView, EngineSeen, EngineCounts, now_of, Moments, seen}
use Rattle.sg_actions.specs.Led.{Appended, Stayed, HasStayed}
use Rattle.sg_actions.specs.Steps.{Step, Steps, step_at, step_of, step_by, repeated, opened, ended, begin_of}
use Rattle.sg_actions.specs.Undoing.{Hop, Stood, hop_in, Leads, hopped, stood_of, stood_by, with_stood, given_by, all_given_back, put_by, is_of_bytes, HasFound, FindsNote, IsUndoable}
use Rattle.sg_actions.specs.PuttingBack.{PutAll, UndoBegun, MayUndo, AreOf, HasPutBack, IsHopAt, HasHop, GoesOn, PutBytes, PutOne, CanPutBack}
use Rattle.sg_actions.specs.declared.rows.Actor.{Actor}
use Rattle.sg_actions.specs.declared.rows.Row.{Row}
use Rattle.sg_actions.specs.declared.undo.Found.{Found}
use Rattle.sg_base.specs.declared.numbers.TxnId.{TxnId}
use Rattle.sg_space.specs.declared.space.SpaceFault.{SpaceFault}
use Rattle.sg_actions.proofs.Accounting.{KeepsCount, count_none, count_then, count_ok, accounts_ok, accounts_err}
use Rattle.sg_actions.proofs.Flags.{some_is}
use Rattle.sg_actions.specs.Calls.{NowActs, IsActable}
use Rattle.sg_actions.specs.Counts.{ActsCounts}
use Rattle.sg_actions.specs.Images.{Recovering}
use Rattle.sg_actions.specs.Later.{At, at_kept, AreChanges, Went}
use Rattle.sg_actions.specs.Offed.{kept_in}
use Rattle.sg_actions.specs.Growing.{grows_by, moments_then, grows_then}
use Rattle.sg_actions.specs.Onward.{at as moment}
use Rattle.sg_actions.specs.Taken.{kept_of}
use Rattle.sg_recovery.specs.Formed.{IsLog}
use Rattle.sg_actions.specs.View.{IsKept}
use Rattle.sg_actions.proofs.Beginning.{rest_kept}
use Rattle.sg_actions.proofs.Chained.{later, chain_change, chain_later, step_there, no_zero}
use Rattle.sg_actions.proofs.Walking.{at_low, same_some, none_some}

-- one change of who acts
pub puts_one : (t : Table) (e e' : EngineView) (txn last lsn : ℕ) (c : Changing) → Appended e e' (by txn last (SaysChanged c)) lsn → HasPutBack t e e' txn (apply t (now_of t e) (meaning c))
puts_one t e e' txn last lsn c g = record {
  first = g.first;
  made = record { lsn = lsn; is = Change txn last c } ∷ [];
  steps = g.steps;
  are = ((last, c, refl), tt);
  now = λ j. repeated t (g.first j) (g.steps j);
}

-- BYTES ARE WRITTEN
pub put_bytes : (t : Table) (e e' : EngineView) (rows : List Row) (actor : Actor) (b at count lsn : ℕ) (before after : List ℕ) (s : Stood) → s ≡ (b, (at, after)) → (e.Told → e'.Told) → (e'.Told → e.Told)
    → (e.Told → Appended e e' (by actor.txn.0 actor.last (SaysChanged (SegWrite (bytes_with b at count before after)))) lsn) → PutBytes t e e' rows actor (later actor lsn) s
put_bytes t e e' rows actor b at count lsn before after s is still back g = record {
  goes = record {
    told = still;
    back = back;
    who = refl;
    chain = chain;
  };
  put = λ told. subst (λ (z : Stood). HasPutBack t e e' actor.txn.0 (with_stood (Some z) (now_of t e))) (sym is) (puts_one t e e' actor.txn.0 actor.last lsn (SegWrite (bytes_with b at count before after)) (g told));
}
  where
    chain : e.Told → IsChained e.base e.steps e.tail rows actor → IsChained e'.base e'.steps e'.tail rows (later actor lsn)
    chain told h =
        let l = g told in
        subst (λ (n : ℕ). IsChained n e'.steps e'.tail rows (later actor lsn)) (sym l.base)
        (subst (λ (rs : Steps). IsChained e.base rs e'.tail rows (later actor lsn)) (sym l.steps)
        (chain_change e.base e.steps lsn e'.tail rows actor (SegWrite (bytes_with b at count before after)) l.tail (chain_later h l.number)))

-- THE PARTS of a record that was read are within a band
and_left : (a b : Bool) → (a && b) ≡ true → a ≡ true
and_left true b h = refl
and_left false b h = absurd (cc)

and_right : (a b : Bool) → (a && b) ≡ true → b ≡ true
and_right true b h = h
and_right false b h = absurd (cc)

fields : (fs : List Field) → first_out fs ≡ None → Each (λ f. f.1 ≡ true) fs
fields [] h = tt
fields (f ∷ fs) h = by f.1 refl h (fields fs)
  where
    by : (b : Bool) → f.1 ≡ b → (if b then first_out fs else Some f.0) ≡ None → (first_out fs ≡ None → Each (λ f. f.1 ≡ true) fs) → (f.1 ≡ true) × Each (λ f. f.1 ≡ true) fs
    by true e k more = (e, more k)
    by false e k more = absurd (cc)

pub fields_of : (transaction previous : ℕ) (says : Says) → IsRecord (by transaction previous says) → Each (λ f. f.1 ≡ true) (says_fields transaction previous says)
fields_of transaction previous says h = (fields ((1, nat_le (HEADER + length (body_of says)) GREATEST) ∷ says_fields transaction previous says) h.ranges).1

pub part_is : (at count : ℕ) → is_part at count ≡ true → IsPiece at count
part_is at count h =
    let a : nat_le 1 count ≡ true = and_left (nat_le 1 count) (nat_le count 8192 && nat_le (at + count) 32768) h in
    let r : (nat_le count 8192 && nat_le (at + count) 32768) ≡ true = and_right (nat_le 1 count) (nat_le count 8192 && nat_le (at + count) 32768) h in
    let b : nat_le count 8192 ≡ true = and_left (nat_le count 8192) (nat_le (at + count) 32768) r in
    let c : nat_le (at + count) 32768 ≡ true = and_right (nat_le count 8192) (nat_le (at + count) 32768) r in
    record { some = grind (arith, nat_tests, a); most = grind (arith, nat_tests, b); within = grind (arith, nat_tests, c) }

pub stood_of_is : (outside : ℕ) (b at : ℕ) (bytes : List ℕ) (s : Stood) → stood_of outside b at bytes ≡ Some s → ((b, (at, bytes)) ≡ s) × (1 ≤ length bytes)
stood_of_is outside b at [] s e = absurd (none_some s e)
stood_of_is outside b at (y ∷ ys) s e = (by (nat_lt b outside) e, omega arith)
  where
    by : (k : Bool) → (if k then None else Some (b, (at, y ∷ ys))) ≡ Some s → (b, (at, y ∷ ys)) ≡ s
    by true f = absurd (none_some s f)
    by false f = same_some (b, (at, y ∷ ys)) s f

few_bands : (b : ℕ) → nat_lt b 65536 ≡ true → b < 65536
few_bands b h = grind (arith, nat_tests, h)

write_band : (outside : ℕ) (w : BandBytes) (transaction previous : ℕ) (s : Stood) → IsRecord (by transaction previous (SaysChanged (SegWrite w))) → stood_of outside w.band w.at w.before ≡ Some s → s.0 < 65536
write_band outside w transaction previous s h e =
    let p = stood_of_is outside w.band w.at w.before s e in
    subst (λ (z : Stood). z.0 < 65536) p.0 (few_bands w.band (fields_of transaction previous (SaysChanged (SegWrite w)) h).0)

op_band : (outside : ℕ) (w : BandOp) (transaction previous : ℕ) (s : Stood) → IsRecord (by transaction previous (SaysChanged (SegOp w))) → stood_of outside w.band w.at w.before ≡ Some s → s.0 < 65536
op_band outside w transaction previous s h e =
    let p = stood_of_is outside w.band w.at w.before s e in
    subst (λ (z : Stood). z.0 < 65536) p.0 (few_bands w.band (fields_of transaction previous (SaysChanged (SegOp w)) h).0)

write_part : (outside : ℕ) (w : BandBytes) (transaction previous : ℕ) (s : Stood) → IsRecord (by transaction previous (SaysChanged (SegWrite w))) → stood_of outside w.band w.at w.before ≡ Some s → IsPiece s.1.0 (length s.1.1)
write_part outside w transaction previous s h e =
    let p = stood_of_is outside w.band w.at w.before s e in
    let piece : IsPiece w.at w.count = part_is w.at w.count (fields_of transaction previous (SaysChanged (SegWrite w)) h).1.1.0 in
    let same : IsPiece w.at (length w.before) = subst (λ (n : ℕ). IsPiece w.at n) (sym h.fits.1.0) piece in
    subst (λ (z : Stood). IsPiece z.1.0 (length z.1.1)) p.0 same

pub op_count : (c : BandOp) → op_before_fits false c ≡ true → 1 ≤ length c.before → length c.before ≡ c.count
op_count c h some = elim (cases_Bool (length c.before == c.count)) [
  | inl e ↦ grind (arith, nat_tests, e)
  | inr e ↦
      let none : (length c.before == 0) ≡ false = grind (arith, nat_tests, some) in
      absurd (no (sym h ∙ (ap (λ (b : Bool). b || (length c.before == 0 && (c.code == 1 && length c.arg == 0))) e ∙ ap (λ (b : Bool). b && (c.code == 1 && length c.arg == 0)) none)))
]
  where
    no : true ≡ false → ⊥
    no k = cc

op_part : (outside : ℕ) (w : BandOp) (transaction previous : ℕ) (s : Stood) → IsRecord (by transaction previous (SaysChanged (SegOp w))) → stood_of outside w.band w.at w.before ≡ Some s → IsPiece s.1.0 (length s.1.1)
op_part outside w transaction previous s h e =
    let p = stood_of_is outside w.band w.at w.before s e in
    let all = fields_of transaction previous (SaysChanged (SegOp w)) h in
    let piece : IsPiece w.at w.count = part_is w.at w.count all.1.1.0 in
    let last = all.1.1.1.1.1.1.0 in
    let same : IsPiece w.at (length w.before) = subst (λ (n : ℕ). IsPiece w.at n) (sym (op_count w last p.1)) piece in
    subst (λ (z : Stood). IsPiece z.1.0 (length z.1.1)) p.0 same

pub firsts : (a b : Hop) → Some a ≡ Some b → a.0 ≡ b.0
firsts a b e = ap (λ (h : Hop). h.0) (same_some a b e)

hop_part : (outside : ℕ) (transaction previous n : ℕ) (says : Says) (c : Option Changing) (s : Stood) → IsRecord (by transaction previous says) → hop_in (step_by transaction previous says) ≡ Some (c, n) → stood_by outside c ≡ Some s → IsPiece s.1.0 (length s.1.1)
hop_part outside transaction previous n SaysBegin c s h e k = absurd (none_some _ e)
hop_part outside transaction previous n (SaysChanged (Page w)) c s h e k = absurd (let q : Some (Page w) ≡ c = firsts (Some (Page w), previous) (c, n) e in none_some s (ap (stood_by outside) q ∙ k))
hop_part outside transaction previous n (SaysChanged (SegWrite w)) c s h e k = write_part outside w transaction previous s h (let q : Some (SegWrite w) ≡ c = firsts (Some (SegWrite w), previous) (c, n) e in ap (stood_by outside) q ∙ k)
hop_part outside transaction previous n (SaysChanged (SegOp w)) c s h e k = op_part outside w transaction previous s h (let q : Some (SegOp w) ≡ c = firsts (Some (SegOp w), previous) (c, n) e in ap (stood_by outside) q ∙ k)
hop_part outside transaction previous n (SaysTopEnd u note) c s h e k = absurd (none_some _ e)
hop_part outside transaction previous n (SaysPhysComp u w) c s h e k = absurd (let q : None ≡ c = firsts (None, u) (c, n) e in none_some s (ap (stood_by outside) q ∙ k))
hop_part outside transaction previous n (SaysTopVoid u) c s h e k = absurd (none_some _ e)
hop_part outside transaction previous n (SaysCompEnd u) c s h e k = absurd (none_some _ e)
hop_part outside transaction previous n (SaysSave m) c s h e k = absurd (none_some _ e)
hop_part outside transaction previous n SaysCommit c s h e k = absurd (none_some _ e)
hop_part outside transaction previous n SaysEnd c s h e k = absurd (none_some _ e)
hop_part outside transaction previous n (SaysCheckpoint m live) c s h e k = absurd (none_some _ e)

hop_band : (outside : ℕ) (transaction previous n : ℕ) (says : Says) (c : Option Changing) (s : Stood) → IsRecord (by transaction previous says) → hop_in (step_by transaction previous says) ≡ Some (c, n) → stood_by outside c ≡ Some s → s.0 < 65536
hop_band outside transaction previous n SaysBegin c s h e k = absurd (none_some _ e)
hop_band outside transaction previous n (SaysChanged (Page w)) c s h e k = absurd (let q : Some (Page w) ≡ c = firsts (Some (Page w), previous) (c, n) e in none_some s (ap (stood_by outside) q ∙ k))
hop_band outside transaction previous n (SaysChanged (SegWrite w)) c s h e k = write_band outside w transaction previous s h (let q : Some (SegWrite w) ≡ c = firsts (Some (SegWrite w), previous) (c, n) e in ap (stood_by outside) q ∙ k)
hop_band outside transaction previous n (SaysChanged (SegOp w)) c s h e k = op_band outside w transaction previous s h (let q : Some (SegOp w) ≡ c = firsts (Some (SegOp w), previous) (c, n) e in ap (stood_by outside) q ∙ k)
hop_band outside transaction previous n (SaysTopEnd u note) c s h e k = absurd (none_some _ e)
hop_band outside transaction previous n (SaysPhysComp u w) c s h e k = absurd (let q : None ≡ c = firsts (None, u) (c, n) e in none_some s (ap (stood_by outside) q ∙ k))
hop_band outside transaction previous n (SaysTopVoid u) c s h e k = absurd (none_some _ e)
hop_band outside transaction previous n (SaysCompEnd u) c s h e k = absurd (none_some _ e)
hop_band outside transaction previous n (SaysSave m) c s h e k = absurd (none_some _ e)
hop_band outside transaction previous n SaysCommit c s h e k = absurd (none_some _ e)
hop_band outside transaction previous n SaysEnd c s h e k = absurd (none_some _ e)
hop_band outside transaction previous n (SaysCheckpoint m live) c s h e k = absurd (none_some _ e)

pub part_band : (outside : ℕ) (r : Record) (n : ℕ) (c : Option Changing) (s : Stood) → IsRecord r → Some (c, n) ≡ hop_in (step_of r) → Some s ≡ stood_by outside c → s.0 < 65536
part_band outside r n c s h e k = hop_band outside r.transaction r.previous n r.says c s h (sym e) (sym k)

pub part_within : (outside : ℕ) (r : Record) (n : ℕ) (c : Option Changing) (s : Stood) → IsRecord r → Some (c, n) ≡ hop_in (step_of r) → Some s ≡ stood_by outside c → IsPiece s.1.0 (length s.1.1)
part_within outside r n c s h e k = hop_part outside r.transaction r.previous n r.says c s h (sym e) (sym k)

-- the same steps are there behind more of them
pub step_made : (made rs : Steps) (at : ℕ) (x : Step) → Formed (made ++ rs) → step_at rs at ≡ Some x → step_at (made ++ rs) at ≡ Some x
step_made [] rs at x f e = e
step_made (r ∷ made) rs at x f e =
    let more = step_made made rs at x f.2 e in
    let low = at_low (made ++ rs) at x f.2 more in
    step_there (made ++ rs) r.lsn at r.is (omega (arith, low, f.0)) ∙ more

some_step : (o : Option Step) (h : Hop) → hop_in o ≡ Some h → (x : Step) × (o ≡ Some x)
some_step None h e = absurd (none_some h e)
some_step (Some x) h e = (x, refl)

pub hop_made : (made rs now : Steps) (at : ℕ) (h : Hop) → now ≡ made ++ rs → Formed now → hop_in (step_at rs at) ≡ Some h → hop_in (step_at now at) ≡ Some h
hop_made made rs now at h is f e =
    let s = some_step (step_at rs at) h e in
    ap (λ (ss : Steps). hop_in (step_at ss at)) is ∙ (ap hop_in (step_made made rs at s.0 (subst Formed is f) s.1) ∙ (sym (ap hop_in s.1) ∙ e))

-- one after another
pub puts_then : (t : Table) {a b c : EngineView} {txn : ℕ} {x y : State} → HasPutBack t a b txn x → HasPutBack t b c txn y → HasPutBack t a c txn y
puts_then t {a} {b} {c} {txn} {x} {y} p q = record {
  first = q.first ∙ p.first;
  made = q.made ++ p.made;
  steps = q.steps ∙ (ap (λ (rs : Steps). q.made ++ rs) p.steps ∙ sym (append_assoc q.made p.made a.steps));
  are = each_append (λ r. (previous : ℕ) × (c : Changing) × (r.is ≡ Change txn previous c)) q.made p.made q.are p.are;
  now = q.now;
}

pub puts_none : (t : Table) (e : EngineView) (txn : ℕ) → HasPutBack t e e txn (now_of t e)
puts_none t e txn = record { first = refl; made = []; steps = refl; are = tt; now = refl }

pub puts_stay : (t : Table) {e e' : EngineView} (txn : ℕ) (x : State) → e'.first ≡ e.first → e'.steps ≡ e.steps → now_of t e ≡ x → HasPutBack t e e' txn x
puts_stay t {e} {e'} txn x first steps is = record { first = first; made = []; steps = steps; are = tt; now = (λ j. repeated t (first j) (steps j)) ∙ is }

-- ON THE WAY BACK: what is left of it gives the rest
pub record OnWay (outside : ℕ) (t : Table) (e e' : EngineView) (txn to at : ℕ) (goal : State) : Type 0 where
  pub hops : List Hop
  pub leads : Leads e.steps to at hops
  pub put : HasPutBack t e e' txn (now_of t e')
  pub left : all_given_back outside (changes_of (hopped txn at hops)) (now_of t e') ≡ goal

hop_given : (outside : ℕ) (txn at : ℕ) (h : Hop) (hs : List Hop) (x : State) → all_given_back outside (changes_of (hopped txn at (h ∷ hs))) x ≡ all_given_back outside (changes_of (hopped txn h.1 hs)) (given_by outside h.0 x)
hop_given outside txn at (None, n) hs x = refl
hop_given outside txn at (Some c, n) hs x = refl

-- some hop is left, where the way isn't at its end
pub hop_prop : (at : ℕ) (o : Option Hop) → IsProp (IsHopAt at o)
hop_prop at None = hlevel props
hop_prop at (Some h) = hlevel props

pub hop_there : (o : Option Step) (at : ℕ) → IsHopAt at (hop_in o) → IsSome o
hop_there None at h = absurd h
hop_there (Some x) at h = refl

pub next_hop : (outside : ℕ) (t : Table) (e e' : EngineView) (txn to at : ℕ) (goal : State) → at ≢ to → OnWay outside t e e' txn to at goal → Formed e'.steps → HasHop e'.steps at
next_hop outside t e e' txn to at goal ne w f = by w.hops w.leads
  where
    by : (hs : List Hop) → Leads e.steps to at hs → HasHop e'.steps at
    by [] l = absurd (ne l)
    by (h ∷ hs) l = subst (IsHopAt at) (sym (hop_made w.put.made e.steps e'.steps at h w.put.steps f l.0)) l.2

-- THE WAY GOES ON
pub way_on : (outside : ℕ) (t : Table) (e b e' : EngineView) (txn to at next : ℕ) (goal : State) → at ≢ to → Formed b.steps → ((h : Hop) → hop_in (step_at b.steps at) ≡ Some h → (next ≡ h.1) × HasPutBack t b e' txn (given_by outside h.0 (now_of t b))) → OnWay outside t e b txn to at goal → OnWay outside t e e' txn to next goal
way_on outside t e b e' txn to at next goal ne f one w = by w.hops w.leads w.left
  where
    by : (hs : List Hop) → Leads e.steps to at hs → all_given_back outside (changes_of (hopped txn at hs)) (now_of t b) ≡ goal → OnWay outside t e e' txn to next goal
    by [] l left = absurd (ne l)
    by (h ∷ hs) l left =
        let o = one h (hop_made w.put.made e.steps b.steps at h w.put.steps f l.0) in
        record {
          hops = hs;
          leads = subst (λ (n : ℕ). Leads e.steps to n hs) (sym o.0) l.3;
          put = puts_then t w.put (record { first = o.1.first; made = o.1.made; steps = o.1.steps; are = o.1.are; now = refl });
          left = ap (λ (n : ℕ). all_given_back outside (changes_of (hopped txn n hs)) (now_of t e')) o.0 ∙ (ap (λ (x : State). all_given_back outside (changes_of (hopped txn h.1 hs)) x) o.1.now ∙ (sym (hop_given outside txn at h hs (now_of t b)) ∙ left));
        }

-- AT ITS END all is given back
pub way_ends : (outside : ℕ) (t : Table) (e e' : EngineView) (txn to at : ℕ) (goal : State) → at ≡ to → OnWay outside t e e' txn to at goal → HasPutBack t e e' txn goal
way_ends outside t e e' txn to at goal is w = by w.hops w.leads w.left
  where
    by : (hs : List Hop) → Leads e.steps to at hs → all_given_back outside (changes_of (hopped txn at hs)) (now_of t e') ≡ goal → HasPutBack t e e' txn goal
    by [] l left = record { first = w.put.first; made = w.put.made; steps = w.put.steps; are = w.put.are; now = left }
    by (h ∷ hs) l left = absurd (omega (arith, l.1, is))

-- going on, one after another
pub goes_then : {a b c : EngineView} {rows : List Row} {actor mid new : Actor} → GoesOn a b rows actor mid → GoesOn b c rows mid new → GoesOn a c rows actor new
goes_then p q = record {
  told = λ z. q.told (p.told z);
  back = λ z. p.back (q.back z);
  who = q.who ∙ p.who;
  chain = λ z h. q.chain (p.told z) (p.chain z h);
}

pub goes_same : (e : EngineView) (rows : List Row) (actor : Actor) → GoesOn e e rows actor actor
goes_same e rows actor = record { told = λ z. z; back = λ z. z; who = refl; chain = λ z h. h }

-- a look goes on
pub goes_stays : {e e' : EngineView} (rows : List Row) (actor : Actor) → HasStayed e e' → (e'.Told → e.Told) → GoesOn e e' rows actor actor
goes_stays {e} {e'} rows actor s back = record {
  told = s.told;
  back = back;
  who = refl;
  chain = chain;
}
  where
    chain : e.Told → IsChained e.base e.steps e.tail rows actor → IsChained e'.base e'.steps e'.tail rows actor
    chain told h =
        let p = s.stays told in
        subst (λ (n : ℕ). IsChained n e'.steps e'.tail rows actor) (sym p.base) (subst (λ (rs : Steps). IsChained e.base rs e'.tail rows actor) (sym p.steps) (chain_later h p.tail))

-- ONE CHANGE IS PUT BACK, by its record
pub put_one : (outside : ℕ) (t : Table) (e e1 e' : EngineView) (rows : List Row) (actor actor' : Actor) (at next : ℕ) (c : Option Changing) (r : Record) → next < at → HasStayed e e1 → (e1.Told → e.Told) → (e.Told → step_at e.steps at ≡ step_of r) → Some (c, next) ≡ hop_in (step_of r)
    → GoesOn e1 e' rows actor actor' → (e1.Told → HasPutBack t e1 e' actor.txn.0 (given_by outside c (now_of t e1))) → PutOne outside t e e' rows actor actor' at next
put_one outside t e e1 e' rows actor actor' at next c r low s back step hop g put = record {
  low = low;
  goes = goes_then (goes_stays rows actor s back) g;
  hop = λ told h is.
      let same : (c, next) ≡ h = same_some (c, next) h (hop ∙ (sym (ap hop_in (step told)) ∙ is)) in
      let p = s.stays told in
      let now : now_of t e1 ≡ now_of t e = (λ j. repeated t (p.first j) (p.steps j)) in (
        ap (λ (k : Hop). k.1) same,
        subst (λ (k : Hop). HasPutBack t e e' actor.txn.0 (given_by outside k.0 (now_of t e))) same
            (subst (λ (x : State). HasPutBack t e e' actor.txn.0 (given_by outside c x)) now (puts_then t (puts_stay t {e = e} {e' = e1} actor.txn.0 (now_of t e) p.first p.steps refl) (put (s.told told)))),
      );
}

pub put_none : (outside : ℕ) (t : Table) (e : EngineView) (txn : ℕ) (c : Option Changing) → None ≡ stood_by outside c → HasPutBack t e e txn (given_by outside c (now_of t e))
put_none outside t e txn c none = subst (λ (o : Option Stood). HasPutBack t e e txn (with_stood o (now_of t e))) none (puts_none t e txn)

pub put_some : (outside : ℕ) (t : Table) (e e' : EngineView) (rows : List Row) (actor actor' : Actor) (s : Stood) (c : Option Changing) → Some s ≡ stood_by outside c → PutBytes t e e' rows actor actor' s → e.Told → HasPutBack t e e' actor.txn.0 (given_by outside c (now_of t e))
put_some outside t e e' rows actor actor' s c is p told = subst (λ (o : Option Stood). HasPutBack t e e' actor.txn.0 (with_stood o (now_of t e))) is (p.put told)

-- a way back begins
pub way_begins : (outside : ℕ) (t : Table) (e : EngineView) (txn to from : ℕ) (hs : List Hop) → Leads e.steps to from hs → OnWay outside t e e txn to from (all_given_back outside (changes_of (hopped txn from hs)) (now_of t e))
way_begins outside t e txn to from hs l = record { hops = hs; leads = l; put = puts_none t e txn; left = refl }

-- changes of who acts leave the notes
pub notes_made : (txn : ℕ) (made rs : Steps) → AreOf txn made → (tally (made ++ rs)).notes ≡ (tally rs).notes
notes_made txn [] rs h = refl
notes_made txn (r ∷ made) rs h = ap (λ (x : Step). (said r.lsn x (tally (made ++ rs))).notes) h.0.2 ∙ notes_made txn made rs h.1

-- it acts, where it is undone
pub can_act : {base : ℕ} {rs : Steps} {tail : ℕ} {unfreed : Maps} {rows : List Row} {actor : Actor} {txn stop : ℕ} → IsUndoable base rs tail unfreed rows actor txn stop → IsActable rs unfreed rows actor txn
can_act {base} {rs} {tail} {unfreed} {rows} {actor} {txn} {stop} h = record { rest = h.rest; row = λ ne. (some_is (h.chain.rows_are.others txn (λ e. no_zero rs txn h.chain.running.system h.live (e ∙ h.rest.system)) h.live), h.live) }

-- AN UNDO HAS BEGUN
pub undo_begun : (outside : ℕ) (t : Table) (limits : State → ℕ → ℕ) (e e1 e' : EngineView) (maps unfreed : Maps) (rows : List Row) (actor mid actor' : Actor) (txn stop : ℕ) (note : List ℕ) (f : Found) → (told' : e'.Told) → IsUndoable e.base e.steps e.tail unfreed rows actor txn stop → (h : HasFound e.steps txn stop note f)
    → HasStayed e e1 → (e1.Told → e.Told) → NowActs t limits e1 maps rows actor mid txn → GoesOn e1 e' rows mid actor' → HasPutBack t e1 e' mid.txn.0 (put_by outside note h.n.changes (now_of t e1))
    → (is_of_bytes note ≡ false → e'.steps ≡ e1.steps) → UndoBegun outside t e e' rows actor' txn stop note f.undo_next
undo_begun outside t limits e e1 e' maps unfreed rows actor mid actor' txn stop note f told' u h s back a g p still = record {
  n = h.n;
  is_next = h.next;
  note_is = h.note_is;
  goes_on = h.undo_next;
  acts = ap (λ (x : TxnId). x.0) g.who ∙ is;
  puts = puts;
  still = λ no. still no ∙ (s.stays told).steps;
  notes = ap (λ (rs : Steps). (tally rs).notes) puts.steps ∙ notes_made txn puts.made e.steps puts.are;
  chain = g.chain told1 (a.chain told1 ((goes_stays rows actor s back).chain told u.chain));
}
  where
    told1 : e1.Told
    told1 = g.back told'

    told : e.Told
    told = back told1

    is : mid.txn.0 ≡ txn
    is = a.is told1

    puts : HasPutBack t e e' txn (put_by outside note h.n.changes (now_of t e))
    puts =
        let q = s.stays told in
        let now : now_of t e1 ≡ now_of t e = (λ j. repeated t (q.first j) (q.steps j)) in
        subst (λ (x : State). HasPutBack t e e' txn (put_by outside note h.n.changes x)) now
        (puts_then t (puts_stay t {e = e} {e' = e1} txn (now_of t e) q.first q.steps refl) (subst (λ (n : ℕ). HasPutBack t e1 e' n (put_by outside note h.n.changes (now_of t e1))) is p))

-- with its bytes, and without
pub put_those : (outside : ℕ) (t : Table) (e e' : EngineView) (txn : ℕ) (note : List ℕ) (cs ds : List Changing) → is_of_bytes note ≡ true → cs ≡ ds → HasPutBack t e e' txn (all_given_back outside cs (now_of t e)) → HasPutBack t e e' txn (put_by outside note ds (now_of t e))
put_those outside t e e' txn note cs ds so same p = subst (λ (b : Bool). HasPutBack t e e' txn (if b then all_given_back outside ds (now_of t e) else now_of t e)) (sym so) (subst (λ (xs : List Changing). HasPutBack t e e' txn (all_given_back outside xs (now_of t e))) same p)

pub put_no : (outside : ℕ) (t : Table) (e : EngineView) (txn : ℕ) (note : List ℕ) (ds : List Changing) → is_of_bytes note ≡ false → HasPutBack t e e txn (put_by outside note ds (now_of t e))
put_no outside t e txn note ds not_so = subst (λ (b : Bool). HasPutBack t e e txn (if b then all_given_back outside ds (now_of t e) else now_of t e)) (sym not_so) (puts_none t e txn)

-- the same of equal parts
pub acts_at : {t : Table} {limits : State → ℕ → ℕ} {e : EngineView} {maps maps1 : Maps} {rows rows1 : List Row} {actor actor1 mid : Actor} {txn : ℕ} → maps1 ≡ maps → rows1 ≡ rows → actor1 ≡ actor → NowActs t limits e maps1 rows1 actor1 mid txn → NowActs t limits e maps rows actor mid txn
acts_at {t} {limits} {e} {maps} {maps1} {rows} {rows1} {actor} {actor1} {mid} {txn} a b c h =
    subst (λ (x : Actor). NowActs t limits e maps rows x mid txn) c (subst (λ (x : List Row). NowActs t limits e maps x actor1 mid txn) b (subst (λ (x : Maps). NowActs t limits e x rows1 actor1 mid txn) a h))

pub all_at : {outside : ℕ} {t : Table} {e e1 e' : EngineView} {rows rows1 : List Row} {mid actor' : Actor} {to from : ℕ} → e1 ≡ e → rows1 ≡ rows → PutAll outside t e1 e' rows1 mid actor' to from → PutAll outside t e e' rows mid actor' to from
all_at {outside} {t} {e} {e1} {e'} {rows} {rows1} {mid} {actor'} {to} {from} a b h = subst (λ (x : List Row). PutAll outside t e e' x mid actor' to from) b (subst (λ (x : EngineView). PutAll outside t x e' rows1 mid actor' to from) a h)

pub can_put : {t : Table} {limits : State → ℕ → ℕ} {e e1 e2 : EngineView} {maps unfreed : Maps} {rows rows2 : List Row} {actor mid : Actor} {txn stop : ℕ} {note : List ℕ} {f : Found} → e2 ≡ e1 → rows2 ≡ rows → (e.Told → IsUndoable e.base e.steps e.tail unfreed rows actor txn stop) → (e.Told → HasFound e.steps txn stop note f)
    → HasStayed e e1 → (e1.Told → e.Told) → NowActs t limits e1 maps rows actor mid txn → e2.Told → CanPutBack (seen e2) rows2 mid f.undo_next f.prev
can_put {t} {limits} {e} {e1} {e2} {maps} {unfreed} {rows} {rows2} {actor} {mid} {txn} {stop} {note} {f} same_view same_rows u h s back a told2 =
    subst (λ (x : EngineView). CanPutBack (seen x) rows2 mid f.undo_next f.prev) (sym same_view) (subst (λ (x : List Row). CanPutBack (seen e1) x mid f.undo_next f.prev) (sym same_rows) (at_view (subst (λ (x : EngineView). x.Told) same_view told2)))
  where
    at_view : e1.Told → CanPutBack (seen e1) rows mid f.undo_next f.prev
    at_view told1 =
        let found = h (back told1) in
        record {
          chain = a.chain told1 ((goes_stays rows actor s back).chain (back told1) (u (back told1)).chain);
          way = record { hops = found.hops; leads = subst (λ (rs : Steps). Leads rs f.undo_next f.prev found.hops) (sym (s.stays (back told1)).steps) found.leads };
        }

pub begun_those : (outside : ℕ) (t : Table) (limits : State → ℕ → ℕ) (e e1 e' : EngineView) (maps unfreed : Maps) (rows : List Row) (actor mid actor' : Actor) (txn stop : ℕ) (note : List ℕ) (f : Found) → (e.Told → IsUndoable e.base e.steps e.tail unfreed rows actor txn stop) → (e.Told → HasFound e.steps txn stop note f)
    → HasStayed e e1 → (e1.Told → e.Told) → NowActs t limits e1 maps rows actor mid txn → is_of_bytes note ≡ true → PutAll outside t e1 e' rows mid actor' f.undo_next f.prev → e'.Told → UndoBegun outside t e e' rows actor' txn stop note f.undo_next
begun_those outside t limits e e1 e' maps unfreed rows actor mid actor' txn stop note f u h s back a so p told' =
    let told1 = p.goes.back told' in
    let found = h (back told1) in
    let leads : Leads e1.steps f.undo_next f.prev found.hops = subst (λ (rs : Steps). Leads rs f.undo_next f.prev found.hops) (sym (s.stays (back told1)).steps) found.leads in
    let same : changes_of (hopped mid.txn.0 f.prev found.hops) ≡ found.n.changes = ap (λ (n : ℕ). changes_of (hopped n f.prev found.hops)) (a.is told1) ∙ found.changes in
    undo_begun outside t limits e e1 e' maps unfreed rows actor mid actor' txn stop note f told' (u (back told1)) found s back a p.goes
    (put_those outside t e1 e' mid.txn.0 note (changes_of (hopped mid.txn.0 f.prev found.hops)) found.n.changes so same (p.all told1 (a.chain told1 ((goes_stays rows actor s back).chain (back told1) (u (back told1)).chain)) found.hops leads))
    (λ no. absurd (let both : true ≡ false = sym so ∙ no in cc))

pub begun_no : (outside : ℕ) (t : Table) (limits : State → ℕ → ℕ) (e e1 : EngineView) (maps unfreed : Maps) (rows : List Row) (actor mid : Actor) (txn stop : ℕ) (note : List ℕ) (f : Found) → (e.Told → IsUndoable e.base e.steps e.tail unfreed rows actor txn stop) → (e.Told → HasFound e.steps txn stop note f)
    → HasStayed e e1 → (e1.Told → e.Told) → NowActs t limits e1 maps rows actor mid txn → is_of_bytes note ≡ false → e1.Told → UndoBegun outside t e e1 rows mid txn stop note f.undo_next
begun_no outside t limits e e1 maps unfreed rows actor mid txn stop note f u h s back a not_so told1 =
    let found = h (back told1) in
    undo_begun outside t limits e e1 e1 maps unfreed rows actor mid mid txn stop note f told1 (u (back told1)) found s back a (goes_same e1 rows mid) (put_no outside t e1 mid.txn.0 note found.n.changes not_so) (λ no. refl)

pub found_is : (e : EngineView) {txn stop : ℕ} {note : List ℕ} {o : Option Found} {f : Found} → o ≡ Some f → (e.Told → FindsNote e.steps txn stop note o) → e.Told → HasFound e.steps txn stop note f
found_is e {txn} {stop} {note} {o} {f} is h told = subst (λ (p : Option Found). FindsNote e.steps txn stop note p) is (h told)

-- COUNTS of a run of calls, so far
pub record HasRun (e e' : EngineSeen) (b b' : ℕ) : Type 0 where
  pub told : e'.Told → e.Told
  pub tells : e.Told → e'.Told
  pub quiet : e'.faults + b' ≡ e.faults + b
  pub disk : KeepsCount e.disk e'.disk e.gate e'.gate
  pub tail : e.tail ≤ e'.tail
  pub stops : e.failed ≡ true → (e'.failed ≡ true) × (e'.disk ≡ e.disk)

pub run_none : (e : EngineSeen) (b : ℕ) → HasRun e e b b
run_none e b = record { told = λ z. z; tells = λ z. z; quiet = refl; disk = count_none e.disk e.gate; tail = omega arith; stops = λ z. (z, refl) }

pub run_by : {T : Type 0} {e e' : EngineSeen} {b b' : ℕ} {x : T} → ActsCounts {T = T} e e' b b' (Ok x) → HasRun e e' b b'
run_by k = record { told = k.told; tells = k.tells; quiet = k.quiet; disk = count_ok k.accounts; tail = k.tail; stops = k.stops }

pub run_then : {e e1 e' : EngineSeen} {b b1 b' : ℕ} → HasRun e e1 b b1 → HasRun e1 e' b1 b' → HasRun e e' b b'
run_then {e} {e1} {e'} {b} {b1} {b'} h k = record {
  told = λ z. h.told (k.told z);
  tells = λ z. k.tells (h.tells z);
  quiet = k.quiet ∙ h.quiet;
  disk = count_then h.disk k.disk;
  tail = let p = h.tail in let q = k.tail in omega (arith, p, q);
  stops = λ z. let p = h.stops z in let q = k.stops p.0 in (q.0, q.1 ∙ p.1);
}

pub run_ok : {T : Type 0} {e e' : EngineSeen} {b b' : ℕ} (x : T) → HasRun e e' b b' → ActsCounts {T = T} e e' b b' (Ok x)
run_ok {T} {e} {e'} {b} {b'} x h = record { told = h.told; tells = h.tells; later = let q = h.quiet in omega (arith, q); quiet = h.quiet; disk = tt; accounts = accounts_ok x h.disk; log_end = tt; tail = h.tail; silent = tt; stops = h.stops }

pub run_err : {T S : Type 0} {e e1 e' : EngineSeen} {b b1 b' : ℕ} {f : SpaceFault} → HasRun e e1 b b1 → ActsCounts {T = T} e1 e' b1 b' (Err f) → ActsCounts {T = S} e e' b b' (Err f)
run_err {T} {S} {e} {e1} {e'} {b} {b1} {b'} {f} h k = record {
  told = λ z. h.told (k.told z);
  tells = tt;
  later = let q = h.quiet in let l = k.later in omega (arith, q, l);
  quiet = tt;
  disk = λ d few. let q = h.quiet in let r : e1.faults + b1 < e'.faults + b' = k.disk d few in omega (arith, q, r);
  accounts = accounts_err h.tells h.disk k.accounts;
  log_end = k.log_end;
  tail = let p = h.tail in let q = k.tail in omega (arith, p, q);
  silent = k.silent;
  stops = λ z. let p = h.stops z in let q = k.stops p.0 in (q.0, q.1 ∙ p.1);
}

-- one call of the engine, as a run and as what fails
pub run_engine : {T : Type 0} {e e' : EngineSeen} (b : ℕ) {x : T} → EngineCounts {T = T} e e' (Ok x) → HasRun e e' b b
run_engine b k = record { told = k.told; tells = k.tells; quiet = ap (λ (n : ℕ). n + b) k.quiet; disk = count_ok k.accounts; tail = k.tail; stops = k.stops }

pub err_engine : {T : Type 0} {e e' : EngineSeen} (b : ℕ) {f : SpaceFault} → (e'.Told → e'.failed ≡ false) → EngineCounts {T = T} e e' (Err f) → ActsCounts {T = T} e e' b b (Err f)
err_engine {T} {e} {e'} b {f} whole k = record {
  told = k.told;
  tells = tt;
  later = let l = k.later in omega (arith, l);
  quiet = tt;
  disk = λ d few. let r : e.faults < e'.faults = k.disk d (omega (arith, few)) in omega (arith, r);
  accounts = accounts_err (λ t. t) (count_none e.disk e.gate) k.accounts;
  log_end = λ z. let n = k.log_end z in let t = k.tail in omega (arith, n, t);
  tail = k.tail;
  silent = λ told. not_both e'.failed k.failed (whole told);
  stops = k.stops;
}
  where
    not_both : (x : Bool) → x ≡ true → x ≡ false → ⊥
    not_both x a c = cc

-- the same, where another result is the same failure
pub err_is : {T S : Type 0} {e e' : EngineSeen} {b b' : ℕ} (r : Result S SpaceFault) (f h : SpaceFault) → r ≡ Err h → h ≡ f → ActsCounts {T = T} e e' b b' (Err f) → ActsCounts {T = S} e e' b b' r
err_is {T} {S} {e} {e'} {b} {b'} r f h is same k =
    subst (λ (q : Result S SpaceFault). ActsCounts {T = S} e e' b b' q) (sym is) (subst (λ (x : SpaceFault). ActsCounts {T = S} e e' b b' (Err x)) (sym same) (run_err {T = T} {S = S} (run_none e b) k))

-- WHAT AN UNDO HAS LOGGED, where it has logged nothing
pub undone_none : (recovers : Recovering) (t : Table) (limits : State → ℕ → ℕ) (e e' : EngineView) (maps : Maps) (rows rows' : List Row) (actor actor' : Actor) (txn : ℕ) → rows' ≡ rows → actor' ≡ actor → IsKept t limits e maps rows actor → Moments recovers t e e' e.steps
    → (e'.Told → HasStayed e e') → e.Told → MayUndo recovers t limits e e' maps rows' actor' txn
undone_none recovers t limits e e' maps rows rows' actor actor' txn r a k mo stays told = record {
  made = [];
  are = tt;
  formed = k.chain.running.log;
  moments = mo;
  gone = λ told'. let s = stays told' in let p = s.stays told in record {
    steps = p.steps;
    base = p.base;
    durable = p.durable;
    kept = subst (λ (x : List Row). IsKept t limits e' maps x actor') (sym r) (subst (λ (x : Actor). IsKept t limits e' maps rows x) (sym a) (rest_kept t limits e e' maps rows actor s told k));
    same = λ j. kept_of limits maps.pages maps.bands (begin_of t (p.first j) (p.steps j)) (opened (p.steps j));
    begin = λ j. begin_of t (p.first j) (p.steps j);
  };
}

-- a run of calls hands this through, where what is kept held at first
abbrev pub Goes : Recovering → Table → (State → ℕ → ℕ) → (a b : At) → Type 0
Goes recovers t limits a b = a.engine.Told → at_kept t limits a → Went recovers t limits a b

-- and behind the looks with which it came to the note
undone_by : (recovers : Recovering) (t : Table) (limits : State → ℕ → ℕ) (e e1 e' : EngineView) (maps : Maps) (rows : List Row) (mid actor' : Actor) (txn : ℕ) → e.Told → ended e.steps ≡ e.steps → HasStayed e e1 → Moments recovers t e e1 e.steps → IsKept t limits e1 maps rows mid → mid.txn.0 ≡ txn
    → Goes recovers t limits (moment e1 maps rows mid true) (moment e' maps rows actor' true) → (e'.Told → e'.failed ≡ false) → MayUndo recovers t limits e e' maps rows actor' txn
undone_by recovers t limits e e1 e' maps rows mid actor' txn told idle s mo k1 who later whole = record {
  made = w.made;
  are = subst (λ (x : State). AreChanges t (kept_in limits t e maps) x e.first txn w.made e.steps) (ap (repeated t e.first) idle)
      (subst (λ (n : ℕ). AreChanges t (kept_in limits t e maps) (begin_of t e.first e.steps) e.first n w.made e.steps) who
      (subst (λ (x : State). AreChanges t (kept_of limits maps.pages maps.bands (begin_of t x e.steps) (opened e.steps)) (begin_of t x e.steps) x mid.txn.0 w.made e.steps) p.first
      (subst (λ (rs : Steps). AreChanges t (kept_of limits maps.pages maps.bands (begin_of t e1.first rs) (opened rs)) (begin_of t e1.first rs) e1.first mid.txn.0 w.made rs) p.steps w.are)));
  formed = subst (λ (n : ℕ). IsLog n (w.made ++ e.steps)) p.base (subst (λ (rs : Steps). IsLog e1.base (w.made ++ rs)) p.steps w.formed);
  moments = moments_then e e1 e' p.first p.durable (grows_by w.made e.steps) mo (subst (λ (rs : Steps). Moments recovers t e1 e' (w.made ++ rs)) p.steps w.moments);
  gone = λ told'. let h = w.gone (whole told') in record {
    steps = h.steps ∙ ap (λ (rs : Steps). w.made ++ rs) p.steps;
    base = h.base ∙ p.base;
    durable = grows_then p.durable h.durable;
    kept = h.kept;
    same = h.same ∙ (λ j. kept_of limits maps.pages maps.bands (begin_of t (p.first j) (p.steps j)) (opened (p.steps j)));
    begin = h.begin ∙ (λ j. begin_of t (p.first j) (p.steps j));
  };
}
  where
    p : Stayed e e1
    p = s.stays told

    w : Went recovers t limits (moment e1 maps rows mid true) (moment e' maps rows actor' true)
    w = later (s.told told) k1

-- the same of equal parts
pub undone_run : (recovers : Recovering) (t : Table) (limits : State → ℕ → ℕ) (e e1 e2 e' : EngineView) (maps m1 m2 m' : Maps) (rows r1 r2 r' : List Row) (actor a1 mid actor' : Actor) (b2 b' : Bool) (txn : ℕ) → e.Told → ended e.steps ≡ e.steps → HasStayed e e1 → Moments recovers t e e1 e.steps
    → m1 ≡ maps → r1 ≡ rows → a1 ≡ actor → IsKept t limits e maps rows actor → NowActs t limits e1 m1 r1 a1 mid txn → e2 ≡ e1 → m2 ≡ m1 → r2 ≡ r1 → b2 ≡ true → m' ≡ m2 → r' ≡ r2 → b' ≡ b2
    → Goes recovers t limits (moment e2 m2 r2 mid b2) (moment e' m' r' actor' b') → (e'.Told → e'.failed ≡ false) → MayUndo recovers t limits e e' maps r' actor' txn
undone_run recovers t limits e e1 e2 e' maps m1 m2 m' rows r1 r2 r' actor a1 mid actor' b2 b' txn told idle s mo em er ea k acts e_is m_is r_is b_is m_too r_too b_too later whole =
    subst (λ (x : List Row). MayUndo recovers t limits e e' maps x actor' txn) (sym (r_too ∙ (r_is ∙ er)))
    (undone_by recovers t limits e e1 e' maps rows mid actor' txn told idle s mo (now.kept (s.told told) (rest_kept t limits e e1 maps rows actor s told k)) (now.is (s.told told)) behind whole)
  where
    now : NowActs t limits e1 maps rows actor mid txn
    now = acts_at em er ea acts

    before : Goes recovers t limits (moment e1 maps rows mid true) (moment e' m' r' actor' b')
    before =
        subst (λ (x : EngineView). Goes recovers t limits (moment x maps rows mid true) (moment e' m' r' actor' b')) e_is
        (subst (λ (x : Maps). Goes recovers t limits (moment e2 x rows mid true) (moment e' m' r' actor' b')) (m_is ∙ em)
        (subst (λ (x : List Row). Goes recovers t limits (moment e2 m2 x mid true) (moment e' m' r' actor' b')) (r_is ∙ er)
        (subst (λ (x : Bool). Goes recovers t limits (moment e2 m2 r2 mid x) (moment e' m' r' actor' b')) b_is later)))

    behind : Goes recovers t limits (moment e1 maps rows mid true) (moment e' maps rows actor' true)
    behind =
        subst (λ (x : Maps). Goes recovers t limits (moment e1 maps rows mid true) (moment e' x rows actor' true)) (m_too ∙ (m_is ∙ em))
        (subst (λ (x : List Row). Goes recovers t limits (moment e1 maps rows mid true) (moment e' m' x actor' true)) (r_too ∙ (r_is ∙ er))
        (subst (λ (x : Bool). Goes recovers t limits (moment e1 maps rows mid true) (moment e' m' r' actor' x)) (b_too ∙ b_is) before))

-- as many bytes stood there
pub stood_long : (before band : List ℕ) (at count : ℕ) → before ≡ take count (drop at band) → at + count ≤ length band → length before ≡ count
stood_long before band at count is within = ap length is ∙ length-take-le count (drop at band) (let d = length-drop at band in omega (arith, d, within))

-- the counts of an equal view and count
pub counts_at : {T : Type 0} {e e1 e2 : EngineSeen} {b b1 b2 : ℕ} {r : Result T SpaceFault} → e2 ≡ e1 → b2 ≡ b1 → ActsCounts {T = T} e e1 b b1 r → ActsCounts {T = T} e e2 b b2 r
counts_at {T} {e} {e1} {e2} {b} {b1} {b2} {r} a d k = subst (λ (x : EngineSeen). ActsCounts {T = T} e x b b2 r) (sym a) (subst (λ (n : ℕ). ActsCounts {T = T} e e1 b n r) (sym d) k)

pub counts_from : {T : Type 0} {e e1 e2 : EngineSeen} {b b1 b2 : ℕ} {r : Result T SpaceFault} → e2 ≡ e1 → b2 ≡ b1 → ActsCounts {T = T} e2 e b2 b r → ActsCounts {T = T} e1 e b1 b r
counts_from {T} {e} {e1} {e2} {b} {b1} {b2} {r} a d k = subst (λ (x : EngineSeen). ActsCounts {T = T} x e b1 b r) a (subst (λ (n : ℕ). ActsCounts {T = T} e2 e n b r) d k)

-- the way back goes on lower at a record of an action, and there is one
pub hop_low : (rs : Steps) (at next : ℕ) (c : Option Changing) (r : Record) → HasHop rs at → step_at rs at ≡ step_of r → Some (c, next) ≡ hop_in (step_of r) → next < at
hop_low rs at next c r h s e = subst (IsHopAt at) (ap hop_in s ∙ sym e) h

pub hop_some : (rs : Steps) (at : ℕ) (r : Record) → HasHop rs at → step_at rs at ≡ step_of r → None ≡ hop_in (step_of r) → ⊥
hop_some rs at r h s e = subst (IsHopAt at) (ap hop_in s ∙ sym e) h

-- what is read can be read
pub no_fault : {A E : Type 0} {f : E} {x : Result A E} {y : A} → Err f ≡ x → x ≡ Ok y → ⊥
no_fault {A} {E} {f} {x} {y} a b = let e : (let r : Result A E = Err f in r) ≡ Ok y = a ∙ b in cc

-- no action is open, and the transaction goes on, by equal parts
pub actable_at : {rs rs' : Steps} {unfreed unfreed' : Maps} {rows rows' : List Row} {actor actor' : Actor} {txn : ℕ} → rs' ≡ rs → unfreed' ≡ unfreed → rows' ≡ rows → actor' ≡ actor → IsActable rs unfreed rows actor txn → IsActable rs' unfreed' rows' actor' txn
actable_at {rs} {rs'} {unfreed} {unfreed'} {rows} {rows'} {actor} {actor'} {txn} a b d f h =
    subst (λ (x : Steps). IsActable x unfreed' rows' actor' txn) (sym a)
    (subst (λ (x : Maps). IsActable rs x rows' actor' txn) (sym b)
    (subst (λ (x : List Row). IsActable rs unfreed x actor' txn) (sym d)
    (subst (λ (x : Actor). IsActable rs unfreed rows x txn) (sym f) h)))
