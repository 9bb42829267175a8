use Rattle.std.proofs.Common.{ℕ, [], ◌∷◌, ap, sym, refl, ◌∙◌, ◌+◌, arith}
use Rattle.sg_space.proofs.Known.{moved, same_some}
use Rattle.sg_list.proofs.two.keep_two.Goals as goal

pub get-requires : goal.get-requires
get-requires g c = λ told.
    let made = c.in_ok-root.ensures.did.page tt in
    let one = c.in_ok-push.ensures.did.done tt [] made.fresh in
    let both = c.in_ok-push-2.ensures.did.done tt (c.args.first ∷ []) one.list in
    (c.args.first ∷ c.args.second ∷ [], both.list, record { item = c.args.first; is = refl; size_is = omega arith })

pub get-requires-2 : goal.get-requires-2
get-requires-2 g c = λ told.
    let made = c.in_ok-root.ensures.did.page tt in
    let one = c.in_ok-push.ensures.did.done tt [] made.fresh in
    let both = c.in_ok-push-2.ensures.did.done tt (c.args.first ∷ []) one.list in
    let same = c.in_ok-get.ensures.kept.same tt in
    (c.args.first ∷ c.args.second ∷ [], moved (ap (λ (s : _). s.pages.at c.in_ok-root.root.0) same) both.list, record { item = c.args.second; is = refl; size_is = omega arith })

pub returns : goal.returns
returns g c =
    let made = c.in_ok-root.ensures.did.page tt in
    let no_bands = c.in_ok-root.ensures.did.bands tt in
    let one = c.in_ok-push.ensures.did.done tt [] made.fresh in
    let both = c.in_ok-push-2.ensures.did.done tt (c.args.first ∷ []) one.list in
    let same = c.in_ok-get.ensures.kept.same tt in
    let same' = c.in_ok-get-2.ensures.kept.same tt in
    let after = moved (ap (λ (s : _). s.pages.at c.in_ok-root.root.0) same) both.list in
    record {
      was_free = made.was_free;
      list = moved (ap (λ (s : _). s.pages.at c.in_ok-root.root.0) same') after;
      first_is = sym (same_some _ _ (c.in_ok-get.ensures.read tt (c.args.first ∷ c.args.second ∷ []) both.list));
      second_is = sym (same_some _ _ (c.in_ok-get-2.ensures.read tt (c.args.first ∷ c.args.second ∷ []) after));
      others = λ p ne. ap (λ (s : _). s.pages.at p) (same' ∙ same) ∙ (both.others p ne ∙ (one.others p ne ∙ made.others p ne));
      free = ap (λ (s : _). s.pages.free + 1) (same' ∙ same) ∙ (ap (λ (n : ℕ). n + 1) (both.free ∙ one.free) ∙ made.free);
      bands = ap (λ (s : _). s.bands) (same' ∙ same) ∙ (both.bands ∙ (one.bands ∙ no_bands));
    }
