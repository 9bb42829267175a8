use Rattle.std.proofs.Common.{◌<◌, ap, ◌∙◌, arith, length, Some, None, set, ◌++◌, ◌∷◌, []}
use Rattle.std.proofs.lemmas.List.{length-map}
use Rattle.sg_locks.specs.declared.chains.Link.{Link}
use Rattle.sg_locks.proofs.Links.{push_links, relinked, same_item}
use Rattle.sg_locks.proofs.chains.Chains.push.Goals as goal

pub invariant_of-self : goal.invariant_of-self
invariant_of-self c =
    let last = c.self.inside.last.items in
    let links = c.self.inside.links.items in
    let l : Link = record { bucket = c.args.bucket; earlier = c.index-earlier.result.now } in
    let short : length links < 4096 = let e = ap length c.self.view_is in let f = length-map links (λ (k : Link). k.bucket) in omega (arith, e, f, c.requires.room) in
    let inside : c.args.bucket < length last = let e = c.self.invariant.buckets in omega (arith, e, c.requires.below) in
    let was = c.index-earlier.ensures ∙ same_item last c.args.bucket c.index-earlier.result.now None inside in
    relinked (set last c.args.bucket (Some (length links))) _ _ _ (links ++ l ∷ []) _ (push_links last _ links l c.self.invariant short c.requires.below was)
    (ap (λ n. set last c.args.bucket (Some n)) (c.len-end.ensures ∙ c.self.inside.links.ok.0)) c.push_reserved.ensures.capacity c.push_reserved.ensures.items
