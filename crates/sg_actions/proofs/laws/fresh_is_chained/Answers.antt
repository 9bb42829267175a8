use Rattle.std.proofs.Common.{◌≡◌, ℕ, Some, None, true, false, refl, arith}
use Rattle.sg_actions.proofs.laws.fresh_is_chained.Goals as goal

no : false ≡ true → ⊥
no e = cc

none : (last : ℕ) → None ≡ Some last → ⊥
none last e = cc

pub returns : goal.returns
returns c = λ base tail some low. record {
  running = record {
    log = record { above = tt; owned = tt; chained = tt; system = tt; between = tt; straight = tt; ended = tt; over = tt; one_action = record { one = λ t u f g. absurd (f refl); whose = λ t f. absurd (f refl) } };
    based = low;
    below = some;
    system = refl;
    owned = tt;
    last_is = λ e. absurd (no e);
    before_is = λ e. absurd (no e);
    system_is = λ e. (refl, refl);
    acting = λ ne. absurd (ne refl);
    alone = λ u ne. refl;
    linked = tt;
    before_low = omega (arith, some);
  };
  rows_are = record { own = λ ne. absurd (ne refl); low = λ u far. refl; others = λ u ne e. absurd (no e); apart = tt; past = λ u last some ne there gone. absurd (none last there) };
  closed = refl;
  at = refl;
}
