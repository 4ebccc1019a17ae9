use Rattle.std.proofs.Common.{◌≡◌, ◌∙◌, List, None, Option, ap, replicate}
use Rattle.raster.specs.Grid.{Grid}
use Rattle.build_book.specs.Book.{Book}
use Rattle.build_book.specs.Job.{Job}
use Rattle.build_book.specs.Layer.{Layer}
use Rattle.build_book.proofs.lemmas.Places.{none_lawful}
use Rattle.build_book.proofs.book.Book.open.Goals as goal

same_book : (job : Job) (places others : List (Option Layer)) → places ≡ others
    → ◌≡◌ {A = Book} (record { job = job; places = places }) (record { job = job; places = others })
same_book job places others same = ap (λ ps. record { job = job; places = ps }) same

pub invariant_of-result : goal.invariant_of-result
invariant_of-result g c =
    none_lawful c.args.job.now c.in_ok-places.places.items c.layers.result c.in_ok-places.ensures
    (c.layers.ensures.value ∙ ap (λ (w : Grid). w.layers) c.grid.ensures)

pub returns : goal.returns
returns g c =
    same_book c.args.job.now c.in_ok-places.places.items _
    (c.in_ok-places.ensures ∙ ap (λ n. replicate n None) (c.layers.ensures.value ∙ ap (λ (w : Grid). w.layers) c.grid.ensures))
