-- What holds of the engine as the actions see it.
use Rattle.std.proofs.Common.{◌≡◌, ◌<◌, ◌≤◌, ◌+◌, ℕ, List, [], ◌∷◌, ◌++◌, refl, sym, ◌∙◌, ap, subst, arith}
use Rattle.std.specs.Prelude.{Result, OnOk, Option, Some, None}
use Rattle.std.proofs.Common.{inr}
use Rattle.sg_disk.specs.Disk.{View}
use Rattle.sg_engine.specs.Effects.{IsBy, effect_of}
use Rattle.sg_engine.proofs.May.{nothing_may, band_may, all_under}
use Rattle.sg_base.specs.declared.page.TheConstants.{BAND_SIZE}
use Rattle.sg_engine.specs.History.{Homes, ChangesBand, entry_number}
use Rattle.sg_engine.specs.Numbers.{AllUnder}
use Rattle.std.specs.Prelude.{length}
use Rattle.sg_phys_laws.proofs.Paging.{each_ok}
use Rattle.sg_redo.specs.Places.{changed_by}
use Rattle.sg_phys_laws.proofs.Agreeing.{all_agree_more}
use Rattle.sg_log.specs.Frames.{Numbered}
use Rattle.sg_log.specs.Held.{Tail, place_of, numbered}
use Rattle.sg_ops.specs.Table.{Table, range_at, rendered}
use Rattle.sg_pool.specs.declared.pool.Pool.{Pool}
use Rattle.sg_pool.specs.Pooled.{sizes}
use Rattle.sg_pool.specs.Units.{Geometry}
use Rattle.sg_record.specs.Changes.{Change as Changing}
use Rattle.sg_record.specs.Changes.Change.{Page as PageChanged, SegWrite, SegOp}
use Rattle.sg_record.specs.Records.{Record}
use Rattle.sg_engine.specs.Engine.{Origin, entries}
use Rattle.sg_engine.specs.declared.fault.EngineFault.{EngineFault}
use Rattle.sg_engine.specs.Running.{IsEngine, IsAllowed, HasGoneOn, DoesNothing, DoesToBand}
use Rattle.sg_phys_laws.specs.Logged.{IsPhys, IsWrite, Writes, HasLogged, HasRun, Stood, at_number}
use Rattle.sg_phys_laws.specs.Poised.{IsNow}
use Rattle.sg_phys_laws.specs.Reading.{durable_in, waiting_in}
use Rattle.sg_phys_laws.specs.States.{AllAgree, IsChangeable, IsNext, homes_of}
use Rattle.sg_phys_laws.proofs.Reading.{held_are}

-- an engine of these records is one of those that its log's bytes say
pub now_again : (t : Table) (o : Origin) (w : View) (log : Tail) (ds ps : List Numbered) (pool : Pool) → IsEngine o w log ds ps pool → AllAgree t o ds (ds ++ ps) → IsNow t o w log pool
now_again t o w log ds ps pool e a =
    let h = held_are w log ds ps e.engine.held in
    subst (λ (d : List Numbered). IsPhys t o w log d (waiting_in log) pool) (sym h.0) (subst (λ (q : List Numbered). IsPhys t o w log ds q pool) (sym h.1) (record { engine = e; agrees = a }))

-- and its records are these
pub all_are : (o : Origin) (w : View) (log : Tail) (ds ps : List Numbered) (pool : Pool) → IsEngine o w log ds ps pool → durable_in w log ++ waiting_in log ≡ ds ++ ps
all_are o w log ds ps pool e =
    let h = held_are w log ds ps e.engine.held in
    ap (λ (d : List Numbered). d ++ waiting_in log) h.0 ∙ ap (λ (q : List Numbered). ds ++ q) h.1

pub append_none : (xs : List Numbered) → xs ++ [] ≡ xs
append_none [] = refl
append_none (x ∷ xs) = ap (λ (l : List Numbered). x ∷ l) (append_none xs)

-- A RECORD THAT CHANGES NOTHING may be appended,
pub plain_may : (t : Table) (o : Origin) (v : View) (log : Tail) (ds ps : List Numbered) (pool : Pool) (r : Record) → IsBy t o → changed_by r.says ≡ None → IsEngine o v log ds ps pool → DoesNothing o (ds ++ ps) (numbered log r)
plain_may t o v log ds ps pool r by plain e = nothing_may o v log ds ps pool r e (by.says (numbered log r).lsn r ∙ ap (effect_of t (numbered log r).lsn) plain)

-- and is a step then
pub plain_logged : (t : Table) (o : Origin) (v w : View) (log log' : Tail) (ds ps : List Numbered) (r : Record) (lsn : ℕ) (pool pool' : Pool) → IsBy t o → changed_by r.says ≡ None → IsPhys t o v log ds ps pool → lsn ≡ place_of log r
    → HasGoneOn o w log' ds ((ds ++ ps) ++ numbered log r ∷ []) pool' → HasLogged t o w log' ds (ds ++ ps) r lsn pool'
plain_logged t o v w log log' ds ps r lsn pool pool' by plain n number h =
    let next : IsNext t o (ds ++ ps) (numbered log r) = subst (IsChangeable t (place_of log r) (homes_of o (ds ++ ps))) (sym plain) tt in
    let agrees : AllAgree t o ds ((ds ++ ps) ++ numbered log r ∷ []) = all_agree_more o ds ps (ds ++ ps) (numbered log r) t refl by next n.agrees in
    subst (λ (k : ℕ). HasLogged t o w log' ds (ds ++ ps) r k pool') (sym number) (record { gone = h; agrees = agrees; above = all_under o r n.engine.engine.held })

-- BYTES OF A BAND may be written,
writes_effect : (t : Table) (lsn : ℕ) (c : Option Changing) (b at : ℕ) (bytes : List ℕ) → Writes t c b at bytes → effect_of t lsn c ≡ ChangesBand b at bytes
writes_effect t lsn None b at bytes w = absurd w
writes_effect t lsn (Some (PageChanged c)) b at bytes w = absurd w
writes_effect t lsn (Some (SegWrite c)) b at bytes w = ap (λ (n : ℕ). ChangesBand n c.at c.after) w.0 ∙ (ap (λ (n : ℕ). ChangesBand b n c.after) w.1 ∙ ap (λ (l : List ℕ). ChangesBand b at l) w.2)
writes_effect t lsn (Some (SegOp c)) b at bytes w =
    ap (λ (n : ℕ). ChangesBand n c.at (rendered (range_at t c.code) c.arg c.position c.count)) w.0 ∙ (ap (λ (n : ℕ). ChangesBand b n (rendered (range_at t c.code) c.arg c.position c.count)) w.1 ∙ ap (λ (l : List ℕ). ChangesBand b at l) w.2)

writes_next : (t : Table) (lsn : ℕ) (h : Homes) (c : Option Changing) (b at : ℕ) (bytes : List ℕ) → Writes t c b at bytes → at + length bytes ≤ BAND_SIZE → IsChangeable t lsn h c
writes_next t lsn h None b at bytes w lies = absurd w
writes_next t lsn h (Some (PageChanged c)) b at bytes w lies = absurd w
writes_next t lsn h (Some (SegWrite c)) b at bytes w lies = (let p = w.1 in let l = ap (λ (xs : List ℕ). length xs) w.2 in omega (arith, p, l, lies))
writes_next t lsn h (Some (SegOp c)) b at bytes w lies = (let p = w.1 in let l = ap (λ (xs : List ℕ). length xs) w.2 in omega (arith, p, l, lies))

pub bytes_may : (own : Table) (o : Origin) (v : View) (log : Tail) (ds ps : List Numbered) (pool : Pool) (r : Record) (b at : ℕ) (bytes : List ℕ) → IsWrite own o v log ds ps pool r b at bytes → b < (sizes pool).bands → DoesToBand o (ds ++ ps) (numbered log r) b at bytes
bytes_may own o v log ds ps pool r b at bytes a lt =
    band_may o v log ds ps pool r a.phys.engine b at bytes (subst (λ (g : Geometry). b < g.bands) a.phys.engine.sizes lt)
    (a.by.says (numbered log r).lsn r ∙ writes_effect own (numbered log r).lsn (changed_by r.says) b at bytes a.says)

-- and that is a step
pub bytes_agree : (own : Table) (o : Origin) (v : View) (log : Tail) (ds ps : List Numbered) (pool : Pool) (r : Record) (lsn : ℕ) (b at : ℕ) (bytes : List ℕ) → IsWrite own o v log ds ps pool r b at bytes → at + length bytes ≤ BAND_SIZE → lsn ≡ place_of log r → AllAgree own o ds ((ds ++ ps) ++ at_number lsn r ∷ [])
bytes_agree own o v log ds ps pool r lsn b at bytes a lies number =
    let next : IsNext own o (ds ++ ps) (numbered log r) = writes_next own (place_of log r) (homes_of o (ds ++ ps)) (changed_by r.says) b at bytes a.says lies in
    subst (λ (n : ℕ). AllAgree own o ds ((ds ++ ps) ++ at_number n r ∷ [])) (sym number) (all_agree_more o ds ps (ds ++ ps) (numbered log r) own refl a.by next a.phys.agrees)

pub bytes_logged : (own : Table) (o : Origin) (v w : View) (log log' : Tail) (ds ps : List Numbered) (r : Record) (lsn : ℕ) (pool pool' : Pool) (b at : ℕ) (bytes : List ℕ) → IsWrite own o v log ds ps pool r b at bytes → at + length bytes ≤ BAND_SIZE → lsn ≡ place_of log r
    → HasGoneOn o w log' ds ((ds ++ ps) ++ numbered log r ∷ []) pool' → HasLogged own o w log' ds (ds ++ ps) r lsn pool'
bytes_logged own o v w log log' ds ps r lsn pool pool' b at bytes a lies number h = record {
  gone = subst (λ (n : ℕ). HasGoneOn o w log' ds ((ds ++ ps) ++ at_number n r ∷ []) pool') (sym number) h;
  agrees = bytes_agree own o v log ds ps pool r lsn b at bytes a lies number;
  above = subst (λ (n : ℕ). AllUnder entry_number n (entries o (ds ++ ps))) (sym number) (all_under o r a.phys.engine.engine.held);
}

-- THE CALL FOR A BAND'S RECORD
pub bytes_run : (own : Table) (o : Origin) (v w : View) (log log' : Tail) (ds ps : List Numbered) (pool pool' : Pool) (r : Record) (lsn : ℕ) (b at : ℕ) (bytes : List ℕ) (result : Result ℕ EngineFault) → IsWrite own o v log ds ps pool r b at bytes → at + length bytes ≤ BAND_SIZE → lsn ≡ place_of log r
    → Stood o v w log pool ds ((ds ++ ps) ++ numbered log r ∷ []) → ((k : ℕ) → IsAllowed o v log pool k → OnOk result (IsAllowed o w log' pool' k)) → HasRun own o v w log log' pool pool' ds (ds ++ ps) r lsn result
bytes_run own o v w log log' ds ps pool pool' r lsn b at bytes result a lies number stood allowed = record {
  moments = inr (bytes_agree own o v log ds ps pool r lsn b at bytes a lies number, subst (λ (n : ℕ). Stood o v w log pool ds ((ds ++ ps) ++ at_number n r ∷ [])) (sym number) stood);
  allowed = each_ok (IsAllowed o v log pool) (IsAllowed o w log' pool') result allowed;
  registered = a.registered;
}
