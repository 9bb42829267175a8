use Rattle.std.proofs.Common.{lit<}
use Rattle.sg_tests_pages.proofs.Full.{flags}
use Rattle.sg_tests_pages.proofs.Silent.{untold}
use Rattle.sg_tests_pages.proofs.stores.acts_over.Goals as goal

pub new-requires-clause-pages : goal.new-requires-clause-pages
new-requires-clause-pages c = flags c.args.maps.pages c.args.unfreed.pages 512 c.requires.pages c.requires.unfreed_pages (lit< tt) c.requires.no_page

pub new-requires-clause-bands : goal.new-requires-clause-bands
new-requires-clause-bands c = flags c.args.maps.bands c.args.unfreed.bands 12 c.requires.bands c.requires.unfreed_bands (lit< tt) c.requires.no_band

pub new-requires-clause-said : goal.new-requires-clause-said
new-requires-clause-said c = λ told. absurd (untold told)

pub new-requires-clause-within : goal.new-requires-clause-within
new-requires-clause-within c = λ told. absurd (untold told)
