-- What calls of the engine count, one behind another.
use Rattle.std.proofs.Common.{◌≡◌, inl, inr, ⊎_elim, ◌<◌, ◌≤◌, ℕ, false, List, [], Option, Some, None, Result, Ok, Err, refl, sym, ap, ◌∙◌, subst, arith}
use Rattle.std.specs.Prelude.{is_some}
use Rattle.sg_base.specs.Ends.{HasRisen}
use Rattle.sg_base.specs.Op.{Op}
use Rattle.sg_disk.specs.Disk.{View}
use Rattle.sg_disk.specs.Heeds.{Heeds}
use Rattle.sg_log.specs.Held.{Tail}
use Rattle.sg_ops.specs.Laws.{IsLawful}
use Rattle.sg_ops.specs.Table.{Table, range_at, rendered, byte_of}
use Rattle.sg_ops.specs.Meaning.{RangeMeaning}
use Rattle.sg_pool.specs.Counts.{HasGrown}
use Rattle.sg_pool.specs.Units.{Geometry}
use Rattle.sg_pool.specs.declared.pool.Pool.{Pool}
use Rattle.sg_record.specs.Changes.{Change as Changing}
use Rattle.sg_record.specs.Records.{Record}
use Rattle.sg_redo.specs.Places.{changed_by}
use Rattle.sg_engine.specs.Faults.{is_disk}
use Rattle.sg_engine.specs.declared.fault.EngineFault.{EngineFault}
use Rattle.sg_engine.specs.declared.fault.EngineFault.TheVariants.{Disk, LogEnd}
use Rattle.sg_phys_laws.specs.Counted.{HasCounted, LiesIn}
use Rattle.sg_phys_laws.specs.Logged.{SaysPage}

-- none was made
pub not_called : {T : Type 0} (v : View) (log : Tail) (pool : Pool) → HasCounted {T = T} v v log log pool pool (Err Disk)
not_called v log pool = record { later = omega arith; heeded = tt; hands = record { rising = omega arith; grown = inr (omega arith) }; size = refl }

-- nothing was done
pub nothing_counted : {T : Type 0} (v : View) (log : Tail) (pool : Pool) (x : T) → HasCounted v v log log pool pool (Ok x)
nothing_counted v log pool x = record { later = omega arith; heeded = refl; hands = record { rising = omega arith; grown = inr (omega arith) }; size = refl }

grown_then : (log mid new : Tail) (v m w : View) → v.handed ≤ m.handed → m.handed ≤ w.handed → HasGrown log mid v m → HasGrown mid new m w → HasGrown log new v w
grown_then log mid new v m w up further first then = ⊎_elim
    (λ full. inl (omega (arith, full, further)))
    (λ a. ⊎_elim (λ full. inl full) (λ b. inr (omega (arith, a, b))) then)
    first

heeds_then : {T : Type 0} (v m w : View) (r : Result T EngineFault) → m.faults ≡ v.faults → Heeds is_disk r m w → Heeds is_disk r v w
heeds_then v m w (Ok x) first then = then ∙ first
heeds_then v m w (Err Disk) first then = tt
heeds_then v m w (Err LogEnd) first then = then ∙ first

-- one behind another that answered
pub counted_then : {S T : Type 0} (v m w : View) (log mid new : Tail) (pool pool' pool'' : Pool) (x : S) (r : Result T EngineFault) → HasCounted v m log mid pool pool' (Ok x) → HasCounted m w mid new pool' pool'' r → HasCounted v w log new pool pool'' r
counted_then v m w log mid new pool pool' pool'' x r a b = record {
  later = (let f = a.later in let g = b.later in omega (arith, f, g));
  heeded = heeds_then v m w r a.heeded b.heeded;
  hands = record { rising = (let f = a.hands.rising in let g = b.hands.rising in omega (arith, f, g)); grown = grown_then log mid new v m w a.hands.rising b.hands.rising a.hands.grown b.hands.grown };
  size = b.size ∙ a.size;
}

pub risen_behind : (a b c : ℕ) → b ≡ a → HasRisen b c → HasRisen a c
risen_behind a b c same risen = subst (λ (n : ℕ). HasRisen n c) same risen

-- the page of a record is there
pub lies_page : (g : Geometry) (r : Record) (p : ℕ) (op : Op) → SaysPage r p op → LiesIn g (changed_by r.says) → p < g.pages
lies_page g r p op s lies = let lt = subst (λ (c : Option Changing). LiesIn g c) s.says lies in let e = s.page in omega (arith, lt, e)

-- A RANGE OPERATION that isn't registered gives zeros, as one that fills with none
none_of : (o : Option RangeMeaning) → is_some o ≡ false → o ≡ None
none_of None e = refl
none_of (Some m) e = absurd cc

pub render_none : (t : Table) (code position count : ℕ) (arg : List ℕ) → IsLawful t → is_some (range_at t code) ≡ false → rendered (range_at t 1) [] 0 count ≡ rendered (range_at t code) arg position count
unfolding rendered byte_of
render_none t code position count arg lawful none =
    ap (λ o. rendered o [] 0 count) lawful.has_fill ∙ ap (λ o. rendered o arg position count) (sym (none_of (range_at t code) none))
