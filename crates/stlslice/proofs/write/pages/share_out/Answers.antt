use Rattle.stlslice.proofs.lemmas.Pages.{one_at_least}
use Rattle.stlslice.proofs.write.pages.share_out.Goals as goal

pub returns : goal.returns
returns g c = one_at_least c.min-2.result c.max-3.result c.max-3.ensures
