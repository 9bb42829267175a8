use Rattle.std.proofs.Common.{◌+◌, ℕ, List, refl, ap, ◌∙◌}
use Rattle.sg_base.specs.Sheet.{Sheet}
use Rattle.sg_space.proofs.Changing.{keeps_but}
use Rattle.sg_bucket.proofs.Changing.{links_can}
use Rattle.sg_hash.specs.Table.{root_sheet}
use Rattle.sg_hash.proofs.create.take_root.Goals as goal

pub change-requires-clause-can : goal.change-requires-clause-can
change-requires-clause-can g c = λ told.
    let back = c.take_page_with.ensures.counts.told told in
    links_can ((c.in_ok-root.ensures.did.pages back).fresh)

pub returns-clause-did : goal.returns-clause-did
returns-clause-did g c =
    let took = c.in_ok-root.ensures.did in
    let did = c.in_ok-change.ensures.did in
    record {
      keeps = λ told.
          let k = keeps_but did (λ sheet is. refl) in
          record { told = λ t. k.told (took.told t); may_take = λ h. k.may_take (took.may_take h); may_have = λ p n h. k.may_have p n (took.may_have p n h) };
      pages = λ told.
          let one = took.pages told in
          let two = did.pages (took.told told) in
          record {
            was_free = one.was_free;
            fresh = record {
              what = _;
              is = two.here one.fresh.what one.fresh.is;
              has = ap (λ (s : Sheet). record s { links = (c.args.directory.0, 0) }) one.fresh.has ∙ ap (λ (x : List ℕ). root_sheet x c.args.directory.0) c.spell_root.ensures;
            };
            others = λ q ne. two.others q ne ∙ one.others q ne;
            free = ap (λ (n : ℕ). n + 1) two.free ∙ one.free;
            count = two.count ∙ one.count;
          };
      bands = λ told. did.bands (took.told told) ∙ took.bands told;
    }

pub returns-in_err-change-clause-later : goal.returns-in_err-change-clause-later
returns-in_err-change-clause-later g c = g.met.P.PageSpace.later_then _ _ _ _ c.take_page_with.ensures.later c.change.ensures.later

pub returns-clause-later : goal.returns-clause-later
returns-clause-later g c = g.met.P.PageSpace.later_then _ _ _ _ c.take_page_with.ensures.later c.change.ensures.later
