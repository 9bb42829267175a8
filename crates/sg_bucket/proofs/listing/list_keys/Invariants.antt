use Rattle.std.proofs.Common.{◌≡◌, ◌++◌, take}
use Rattle.sg_base.specs.Page.{slots_of}
use Rattle.sg_bucket.specs.Division.{keys_of}
use Rattle.sg_bucket.specs.Part.{entries_in}
use Rattle.sg_bucket.proofs.listing.list_keys.Given as goal

abbrev pub invariant-loop-slot : goal.invariant-loop-slot
invariant-loop-slot l = l.keys.items ≡ l.fn.keys.items ++ keys_of (entries_in (take l.slot (slots_of l.view.page.now)))
