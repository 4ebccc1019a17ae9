use Rattle.std.proofs.Common.{◌≡◌, rules}
use Rattle.binary_stl.specs.Binary.{IsBinary}
use Rattle.stl_text.specs.declared.stl_fault.StlFault.TheVariants as stl
use Rattle.layer_session.proofs.lemmas.Texts.{reads_text}
use Rattle.layer_session.proofs.file.read_file_at_most.Goals as goal

pub returns-in_err-read_stl_at_most-clause-only : goal.returns-in_err-read_stl_at_most-clause-only
returns-in_err-read_stl_at_most-clause-only g c = λ facets reads.
    let misfit : IsBinary c.args.bytes.now → ⊥ = λ is. (let fits = c.is_binary.ensures.form.1 is in search rules) in
    let text = reads_text c.args.limit c.args.unit c.args.bytes.now facets misfit reads in
    let cause : c.in_err-read_stl_at_most.field-0.0 ≡ stl.Memory = c.in_err-read_stl_at_most.ensures.only facets text in
    search rules
