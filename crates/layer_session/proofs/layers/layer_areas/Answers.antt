use Rattle.std.proofs.Common.{◌≡◌, ◌∙◌, ℕ, ◌+◌, ◌-◌, ◌≤◌, ◌++◌, ◌∷◌, [], List, ap, arith, rules, subst, sym}
use Rattle.std.proofs.lemmas.List.FromFn.{map-range_with_len_more}
use Rattle.raster.specs.Filler.{IsFillOf, area_of}
use Rattle.raster.specs.Grid.{plane}
use Rattle.raster.specs.declared.rule.Rule.{Rule}
use Rattle.raster.specs.declared.span.Span.{Span}
use Rattle.mesh_weld.specs.Solid.{Solid}
use Rattle.build_book.specs.Job.{Job}
use Rattle.layer_session.specs.Answers.{areas_of}
use Rattle.layer_session.proofs.lemmas.Images.{as-high, next-plane}
use Rattle.layer_session.proofs.layers.layer_areas.Goals as goal

no-areas : (job : Job) (rule : Rule) (first : ℕ) → areas_of job rule first (first - first) ≡ []
no-areas job rule first =
    let none : first - first ≡ 0 = omega arith in
    ap (λ (n : ℕ). areas_of job rule first n) none

next-area : (job : Job) (rule : Rule) (first k area : ℕ) (areas new : List ℕ) → first ≤ k → areas ≡ areas_of job rule first (k - first)
    → area ≡ area_of job.grid rule job.solid.facets k → new ≡ areas ++ area ∷ [] → new ≡ areas_of job rule first (k + 1 - first)
next-area job rule first k area areas new h is next added =
    let more : k - first + 1 ≡ k + 1 - first = omega (arith, h) in
    let at : first + (k - first) ≡ k = omega (arith, h) in
    added
    ∙ ap (λ (l : List ℕ). l ++ area ∷ []) is
    ∙ ap (λ (a : ℕ). areas_of job rule first (k - first) ++ a ∷ []) next
    ∙ sym (map-range_with_len_more (area_of job.grid rule job.solid.facets) first (k - first) k at)
    ∙ ap (λ (n : ℕ). areas_of job rule first n) more

pub loop-k-init : goal.loop-k-init
loop-k-init g c =
    let at : c.in_ok-sweep.sweep.height ≡ plane c.args.job.now.grid c.args.first = search rules in
    record {
      solid = c.in_ok-sweep.ensures.mesh ∙ ap (λ (s : Solid). s.facets) c.solid.ensures;
      height = as-high c.in_ok-sweep.sweep.height (plane c.args.job.now.grid c.args.first) at;
      areas = c.in_ok-areas.ensures.items ∙ sym (no-areas c.args.job.now c.args.rule c.args.first);
    }

pub loop-k-preserved : goal.loop-k-preserved
loop-k-preserved g c =
    let job : Job = c.args.job.now in
    let inv = c.loop-k.invariant in
    let raised = c.in_ok-spans.ensures in
    let filled = subst (λ (l : List Span). IsFillOf job.grid c.args.rule job.solid.facets c.loop-k.k l) (sym c.as_slice.ensures.value) raised.filled in
    record {
      solid = raised.solid ∙ inv.solid;
      height = next-plane job.grid c.loop-k.k _ raised.height;
      areas = next-area job c.args.rule c.args.first c.loop-k.k c.area_of_spans.result c.loop-k.areas.items c.push.new.self.items c.loop-k.auto.k inv.areas (c.area_of_spans.ensures c.args.rule c.loop-k.k filled) c.in_ok-push.ensures.items;
    }

all-areas : (job : Job) (rule : Rule) (first k end : ℕ) (areas : List ℕ) → k ≡ end → areas ≡ areas_of job rule first (k - first)
    → areas ≡ areas_of job rule first (end - first)
all-areas job rule first k end areas last is = is ∙ ap (λ (n : ℕ). areas_of job rule first (n - first)) last

pub returns : goal.returns
returns g c =
    all-areas c.args.job.now c.args.rule c.args.first c.loop-k.k c.args.end c.loop-k.areas.items
    (omega (arith, c.requires.some, c.loop-k.auto.k-end, c.loop-k-test.false)) c.loop-k.invariant.areas
