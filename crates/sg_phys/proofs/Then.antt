-- A call behind another one that answered.
use Rattle.std.proofs.Common.{◌≡◌, inl, inr, ⊎_elim, ◌<◌, ◌≤◌, ◌+◌, ℕ, ◌∙◌, subst, arith}
use Rattle.std.specs.Prelude.{Result, Ok, Err, OnOk, OnErr, IfErr}
use Rattle.sg_base.specs.Ends.{HasRisen}
use Rattle.sg_disk.specs.Accounts.{UnlessDisk, IsShownEnd}
use Rattle.sg_disk.specs.Disk.{View, Image}
use Rattle.sg_disk.proofs.Moments.{joined, weaker}
use Rattle.sg_ops.specs.Table.{Table}
use Rattle.sg_space.specs.declared.space.SpaceFault.{SpaceFault}
use Rattle.sg_space.specs.declared.space.SpaceFault.TheVariants.{Disk}
use Rattle.sg_action.specs.States.{State}
use Rattle.sg_actions.specs.Engine.{LOG_END, EngineSeen, EngineRests, EngineLooks, led}
use Rattle.sg_actions.specs.Images.{Grows, Recovering, IsImageOf}
use Rattle.sg_actions.specs.Steps.{Steps}
use Rattle.sg_phys_laws.proofs.Recovered.{grows_then, image_more}

pub ok_more : {T E : Type 0} {P Q : Type 0} (r : Result T E) → (P → Q) → OnOk r P → OnOk r Q
ok_more (Ok x) f p = f p
ok_more (Err e) f p = tt

err_more : {T E : Type 0} {P Q : E → Type 0} (r : Result T E) → ((e : E) → P e → Q e) → IfErr r P → IfErr r Q
err_more (Ok x) f p = tt
err_more (Err e) f p = f e p

heeded_then : {T E : Type 0} (IsDisk : E → Type 0) (r : Result T E) (a b c : ℕ) → b ≡ a → UnlessDisk IsDisk r (c ≡ b) → UnlessDisk IsDisk r (c ≡ a)
heeded_then D (Ok x) a b c first h = h ∙ first
heeded_then D (Err e) a b c first h = λ not. h not ∙ first

shown_then : (u v w : View) (a b c : ℕ) → v.handed ≤ w.handed → IsShownEnd u v a b → IsShownEnd v w b c → IsShownEnd u w a c
shown_then u v w a b c up first second = ⊎_elim
    (λ full. inl (omega (arith, full, up)))
    (λ one. ⊎_elim (λ full. inl full) (λ two. inr (omega (arith, one, two))) second)
    first

risen_then : (a b c : ℕ) → a ≤ b → HasRisen b c → HasRisen a c
risen_then a b c le h few = let lt = h few in omega (arith, le, lt)

-- WHAT IT KEEPS over both
pub rests_then : {S T : Type 0} (a b c : EngineSeen) (x : S) (r : Result T SpaceFault) → b.failed ≡ a.failed → EngineRests a b (Ok x) → EngineRests b c r → EngineRests a c r
rests_then a b c x r same h k = record {
  counts = record {
    told = λ t. h.counts.told (k.counts.told t);
    tells = ok_more r (λ f t. f (h.counts.tells t)) k.counts.tells;
    base = k.counts.base ∙ h.counts.base;
    extent = k.counts.extent ∙ h.counts.extent;
    later = (let one = h.counts.later in let two = k.counts.later in omega (arith, one, two));
    quiet = ok_more r (λ e. e ∙ h.counts.quiet) k.counts.quiet;
    disk = err_more r (λ e f is. risen_then a.faults b.faults c.faults h.counts.later (f is)) k.counts.disk;
    accounts = record {
      later = (let one = h.counts.accounts.later in let two = k.counts.accounts.later in omega (arith, one, two));
      heeded = heeded_then (λ e. e ≡ Disk) r a.disk.faults b.disk.faults c.disk.faults h.counts.accounts.heeded k.counts.accounts.heeded;
      caused = err_more r (λ e f is tell. risen_then a.disk.faults b.disk.faults c.disk.faults h.counts.accounts.later (f is (h.counts.tells tell))) k.counts.accounts.caused;
      handed = (let one = h.counts.accounts.handed in let two = k.counts.accounts.handed in omega (arith, one, two));
      shown = shown_then a.disk b.disk c.disk a.gate b.gate c.gate k.counts.accounts.handed h.counts.accounts.shown k.counts.accounts.shown;
    };
    log_end = err_more r (λ e f is. subst (λ (n : ℕ). LOG_END < n + 131072) h.tail (f is)) k.counts.log_end;
    tail = (let one = h.counts.tail in let two = k.counts.tail in omega (arith, one, two));
    failed = k.counts.failed;
    stops = λ is. (let f = k.counts.stops (same ∙ is) in (f.0, f.1 ∙ (h.counts.stops is).1));
    first = λ is. k.counts.first (same ∙ is) ∙ h.counts.first is;
    full = ok_more r (λ e. e ∙ h.counts.full) k.counts.full;
    for_disk = err_more r (λ e f is. f is ∙ h.counts.full) k.counts.for_disk;
    for_end = k.counts.for_end;
  };
  only_disk = k.only_disk;
  records = k.records ∙ h.records;
  tail = k.tail ∙ h.tail;
}

-- and what becomes of its images
image_less : (holds : Recovering) (t : Table) (first : State) (a b log more : Steps) (c : Image) → Grows a b → log ≡ more → IsImageOf holds t first b log c → IsImageOf holds t first a more c
image_less holds t first a b log more c g same m = record {
  front = m.front;
  is_front = record { within = subst (λ (l : Steps). Grows m.front l) same m.is_front.within; whole = grows_then a b m.front g m.is_front.whole };
  left = m.left;
  says = m.says;
  recovers = m.recovers;
}

pub looks_then : {S T : Type 0} (holds : Recovering) (t : Table) (from : State) (a b c : EngineSeen) (x : S) (r : Result T SpaceFault) → (a.Told → b.Told) → EngineLooks holds t (led from a) (led from b) (Ok x) → EngineLooks holds t (led from b) (led from c) r → EngineLooks holds t (led from a) (led from c) r
looks_then holds t from a b c x r tells h k = record {
  stays = ok_more r (λ f tell. record {
    steps = (f (tells tell)).steps ∙ (h.stays tell).steps;
    durable = grows_then a.durable b.durable c.durable (h.stays tell).durable (f (tells tell)).durable;
  }) k.stays;
  moments = λ tell. joined (h.moments tell)
      (weaker (k.moments (tells tell)) (λ i m. image_less holds t from a.durable b.durable b.steps a.steps i (h.stays tell).durable (h.stays tell).steps m));
}
