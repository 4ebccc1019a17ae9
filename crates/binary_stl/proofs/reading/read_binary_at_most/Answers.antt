use Rattle.std.proofs.Common.{◌∙◌, ◌∷◌, [], ap, arith, length, length-append}
use Rattle.std.proofs.lemmas.Result.{err_from_is_err_and}
use Rattle.binary_stl.proofs.lemmas.Answer.{answer_fault, answer_found}
use Rattle.binary_stl.proofs.lemmas.Places.{first_facets_more, first_fault}
use Rattle.binary_stl.proofs.reading.read_binary_at_most.Goals as goal

pub returns-in_err-count : goal.returns-in_err-count
returns-in_err-count g c =
    let p = err_from_is_err_and c.from_residual.result c.from_residual.ensures.1 in
    rw (p.1, p.2) (answer_fault c.args.limit c.args.unit c.args.bytes.now c.in_err-count.field-0.0 (c.in_err-count.ensures.fault c.args.unit))

pub returns-in_err-facet : goal.returns-in_err-facet
returns-in_err-facet g c =
    let p = err_from_is_err_and c.from_residual-in_err-facet.result c.from_residual-in_err-facet.ensures.1 in
    rw (p.1, p.2) (answer_fault c.args.limit c.args.unit c.args.bytes.now c.in_err-facet.field-0.0
    (first_fault c.args.limit c.args.unit c.args.bytes.now c.loop-index.facets.items c.in_err-facet.field-0.0 c.loop-index.index c.loop-index.invariant.count
    c.in_ok-count.ensures.form
    (omega (arith, c.in_ok-count.ensures.count, c.in_ok-count.ensures.few))
    (omega (arith, c.in_ok-count.ensures.count, c.loop-index-test.true))
    c.loop-index.invariant.each c.in_err-facet.ensures.fault))

pub loop-index-preserved : goal.loop-index-preserved
loop-index-preserved g c = record {
  count = ap length c.in_ok-push.ensures.items ∙ length-append c.loop-index.facets.items (c.in_ok-facet.field-0 ∷ []) ∙ omega (arith, c.loop-index.invariant.count);
  each = first_facets_more c.args.unit c.args.bytes.now c.loop-index.facets.items c.push.new.self.items c.in_ok-facet.field-0 c.loop-index.index
      c.loop-index.invariant.count c.in_ok-push.ensures.items c.loop-index.invariant.each c.in_ok-facet.ensures.facet;
}

pub returns : goal.returns
returns g c =
    answer_found c.args.limit c.args.unit c.args.bytes.now c.loop-index.facets (record {
      form = c.in_ok-count.ensures.form;
      few = omega (arith, c.in_ok-count.ensures.count, c.in_ok-count.ensures.few);
      count = c.loop-index.invariant.count ∙ omega (arith, c.in_ok-count.ensures.count, c.loop-index-test.false, c.loop-index.auto.index-end);
      each = c.loop-index.invariant.each;
    })
