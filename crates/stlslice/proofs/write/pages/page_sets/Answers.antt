use Rattle.std.proofs.Common.{◌≡◌, ◌∙◌, vec_len}
use Rattle.stlslice.proofs.lemmas.Pages.{of-made, one_at_least}
use Rattle.stlslice.proofs.write.pages.page_sets.Goals as goal

pub returns-clause-some_drawn : goal.returns-clause-some_drawn
returns-clause-some_drawn g c =
    let count = of-made (λ pages. vec_len pages ≡ c.max-count.result) c.blank_pages.result c.in_ok-drawn.drawn c.in_ok-drawn.ensures.value c.blank_pages.ensures.count in
    one_at_least c.min.result (vec_len c.in_ok-drawn.drawn) (count ∙ c.max-count.ensures)

pub returns-clause-some_free : goal.returns-clause-some_free
returns-clause-some_free g c =
    let count = of-made (λ pages. vec_len pages ≡ c.max-count.result) c.blank_pages-2.result c.in_ok-free.free c.in_ok-free.ensures.value c.blank_pages-2.ensures.count in
    one_at_least c.min.result (vec_len c.in_ok-free.free) (count ∙ c.max-count.ensures)
