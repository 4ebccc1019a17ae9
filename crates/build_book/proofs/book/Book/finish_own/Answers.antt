use Rattle.std.proofs.Common.{◌≡◌, ◌∙◌, ◌+◌, ℕ, arith, sym, ap, subst, flat_map, option_to_list}
use Rattle.std.specs.Vec.{with_items}
use Rattle.std.proofs.lemmas.List.{with_items_is}
use Rattle.build_book.specs.Book.{Book}
use Rattle.build_book.specs.Places.{filed_count}
use Rattle.build_book.specs.Build.{Build, IsComplete}
use Rattle.build_book.proofs.lemmas.Places.{all_complete, all_counted}
use Rattle.build_book.proofs.book.Book.finish_own.Goals as goal
use Rattle.build_book.proofs.book.Book.finish_own.Goals.{In_ok-layers}

whole_places : (g : _) (c : In_ok-layers g) → (with_items c.self.inside.places c.make_missing.new.places).items ≡ c.make_missing.new.places
whole_places g c =
    with_items_is c.self.inside.places c.make_missing.new.places
    (c.in_ok-late.ensures.lawful.one_each ∙ sym c.self.invariant.one_each ∙ sym c.self.inside.places.ok.0)

complete : (g : _) (c : In_ok-layers g) → IsComplete c.self.inside.job.now c.in_ok-layers.layers.items
complete g c =
    subst (IsComplete c.self.inside.job.now) (sym (c.in_ok-layers.ensures ∙ ap (flat_map option_to_list) (whole_places g c)))
    (all_complete c.self.inside.job.now c.make_missing.new.places c.in_ok-late.ensures.lawful c.in_ok-late.ensures.all)

all_places : (g : _) (c : In_ok-layers g) → filed_count c.make_missing.new.places ≡ c.self.inside.job.now.grid.layers
all_places g c = all_counted c.make_missing.new.places c.in_ok-late.ensures.all ∙ c.in_ok-late.ensures.lawful.one_each

pub of-requires : goal.of-requires
of-requires g c = complete g c

pub returns-clause-job : goal.returns-clause-job
returns-clause-job g c = ap (λ (b : Build). b.job) c.of.ensures ∙ ap (λ (s : Book). s.job) c.self.view_is

pub returns-clause-complete : goal.returns-clause-complete
returns-clause-complete g c = rw c.of.ensures (complete g (goal.at.returns-clause-complete g c).In_ok-layers)

-- the layers made are those that were not filed
late_are : (late made filed before after all whole : ℕ) → late ≡ made → made + before ≡ after → before ≡ filed → after ≡ all → all ≡ whole → late + filed ≡ whole
late_are late made filed before after all whole same counted kept is own = omega (arith, same, counted, kept, is, own)

pub returns-clause-late : goal.returns-clause-late
returns-clause-late g c =
    let d = (goal.at.returns-clause-late g c).In_ok-layers in
    late_are c.of.result.late d.in_ok-late.late (filed_count c.args.self.places) (filed_count d.as_mut_slice.result.now) _ _ _ (ap (λ (b : Build). b.late) c.of.ensures)
    d.in_ok-late.ensures.late (ap filed_count {y = c.args.self.places} (d.as_mut_slice.ensures.value ∙ ap (λ (s : Book). s.places) c.self.view_is)) (all_places g d)
    (ap (λ (s : Book). s.job.grid.layers) c.self.view_is)
