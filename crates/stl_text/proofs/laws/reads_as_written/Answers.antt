use Rattle.stl_text.proofs.lemmas.ReadIsWritten.{read_written}
use Rattle.stl_text.proofs.lemmas.Written.{written_reads}
use Rattle.stl_text.proofs.laws.reads_as_written.Goals as goal

pub returns : goal.returns
returns c limit unit bytes facets = (
  λ reading. (read_written limit unit bytes facets reading, reading.few),
  λ written. written_reads limit unit facets bytes written.1 written.0,
)
