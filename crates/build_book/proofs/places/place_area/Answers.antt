use Rattle.std.proofs.Common.{◌∙◌, ap, sym}
use Rattle.build_book.specs.Places.{place_area}
use Rattle.build_book.proofs.places.place_area.Goals as goal

pub returns-in-Some : goal.returns-in-Some
returns-in-Some g c = c.area.ensures ∙ ap place_area (sym c.in-Some.is)
