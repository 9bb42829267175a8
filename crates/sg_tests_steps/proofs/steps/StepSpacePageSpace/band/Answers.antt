use Rattle.std.proofs.Common.{arith, refl, ap}
use Rattle.sg_space.specs.View.{Space}
use Rattle.sg_tests_steps.specs.Steps.Goes.{stays}
use Rattle.sg_tests_steps.proofs.Going.{pages_go}
use Rattle.sg_tests_steps.proofs.steps.StepSpacePageSpace.band.Goals as goal

pub returns-then-self-eq0 : goal.returns-then-self-eq0
returns-then-self-eq0 c =
    let fault = c.count_fault.ensures in (
      (
        refl,
        λ s. tt,
        record {
          counts = record { told = λ t. t; later = fault.later; quiet = tt; disk = λ e. fault.risen; log_end = λ e. absurd (cc) };
          writes = record { only_disk = fault.answer; records = refl };
          kept = tt;
          later = λ t. record { pages = λ p. stays; left = omega arith; faults = fault.later };
          means = λ t m. m;
        },
      ),
      record { looked = tt; size = tt; after = tt },
    )

pub returns : goal.returns
returns c =
    let looks = c.band.follows.holds-at-none in
    let kept = rw c.in_ok-found.was at looks.kept in (
      (
        refl,
        λ s. tt,
        record {
          counts = record { told = λ t. t; later = omega arith; quiet = refl; disk = tt; log_end = tt };
          writes = record { only_disk = tt; records = refl };
          kept = record { keeps = record { told = λ t. t; may_take = λ h. h; may_have = λ p n h. h }; shows = λ t. t; same = λ t. kept.same tt; wrote = λ b h. h; still = λ h. h };
          later = λ t. record { pages = λ p. pages_go (ap (λ (s : Space). s.pages) (kept.same tt)) p; left = omega arith; faults = omega arith };
          means = λ t m. m;
        },
      ),
      record { looked = λ t. c.in_ok-found.ensures.looked tt; size = c.in_ok-found.ensures.size; after = tt },
    )
