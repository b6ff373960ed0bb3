-- `image::pages::version_fits` meets its contract.
use Rattle.image.proofs.Judged.{fits_read}
use borrow.Author.Rules.{rules}
use Rattle.image.proofs.pages.version_fits.Goals as goal

pub returns : goal.returns
returns c = search (fits_read, rules)
