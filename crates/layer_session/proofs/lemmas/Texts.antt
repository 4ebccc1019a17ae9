-- Bytes that are no binary STL are opened as a text.
use Rattle.std.proofs.Common.{ℕ, List, inl, inr}
use Rattle.std.specs.Prelude.{Err, Ok, Result}
use Rattle.geometry.specs.Facet.{Facet}
use Rattle.geometry.specs.declared.limits.TheConstants.{FACET_LIMIT}
use Rattle.micro_num.specs.declared.unit.Unit.{Unit as LengthUnit}
use Rattle.binary_stl.specs.Binary.{IsBinary}
use Rattle.stl_text.specs.Text.{Reads}
use Rattle.layer_session.specs.Session.{IsAnswer, ReadsFile, Session, of_file, of_text}
use Rattle.layer_session.specs.declared.session_fault.SessionFault.{SessionFault}
use Rattle.layer_session.specs.declared.session_fault.SessionFault.TheVariants as fault
use Rattle.layer_session.specs.declared.setup.Setup.{Setup}

pub reads_text : (limit : ℕ) (unit : LengthUnit) (bytes : List ℕ) (facets : List Facet) → (IsBinary bytes → ⊥) → ReadsFile limit unit bytes facets → Reads limit unit bytes facets
reads_text limit unit bytes facets misfit (inl (fits, reads)) = absurd (misfit fits)
reads_text limit unit bytes facets misfit (inr (misfit', reads)) = reads

pub as_text : (setup : Setup) (bytes : List ℕ) → (IsBinary bytes → ⊥) → (answer : Result Session SessionFault)
    → IsAnswer setup (of_file bytes) answer → IsAnswer setup (of_text bytes) answer
as_text setup bytes misfit (Ok session) is = record {
  facets = is.facets;
  range = is.range;
  reads = reads_text FACET_LIMIT setup.unit bytes is.facets misfit is.reads;
  reach = is.reach;
  closed = is.closed;
  solid = is.solid;
  grid = is.grid;
  rule = is.rule;
  count = is.count;
  bounds = is.bounds;
  times = is.times;
}
as_text setup bytes misfit (Err fault.Step) is = is
as_text setup bytes misfit (Err (fault.Stl cause)) (apart, (range, (misfit', is))) = (apart, (range, is))
as_text setup bytes misfit (Err (fault.Binary cause)) (apart, (range, (fits, is))) = absurd (misfit fits)
as_text setup bytes misfit (Err (fault.Arrays cause)) is = is
as_text setup bytes misfit (Err (fault.Weld cause)) (apart, (range, (facets, reads, bad))) = (apart, (range, (facets, reads_text FACET_LIMIT setup.unit bytes facets misfit reads, bad)))
as_text setup bytes misfit (Err (fault.Grid cause)) (apart, (range, (facets, reads, reach, closed, bad))) =
    (apart, (range, (facets, reads_text FACET_LIMIT setup.unit bytes facets misfit reads, reach, closed, bad)))
as_text setup bytes misfit (Err (fault.Screen cause)) (apart, (range, inl (facets, reads, bad))) = (apart, (range, inl (facets, reads_text FACET_LIMIT setup.unit bytes facets misfit reads, bad)))
as_text setup bytes misfit (Err (fault.Screen cause)) (apart, (range, inr (facets, reads, reach, closed, bad))) =
    (apart, (range, inr (facets, reads_text FACET_LIMIT setup.unit bytes facets misfit reads, reach, closed, bad)))
as_text setup bytes misfit (Err fault.Memory) is = is
as_text setup bytes misfit (Err (fault.Outside columns rows layers)) is = is

pub as_file : (setup : Setup) (bytes : List ℕ) → (IsBinary bytes → ⊥) → (answer : Result Session SessionFault)
    → IsAnswer setup (of_text bytes) answer → IsAnswer setup (of_file bytes) answer
as_file setup bytes misfit (Ok session) is = record {
  facets = is.facets;
  range = is.range;
  reads = inr (misfit, is.reads);
  reach = is.reach;
  closed = is.closed;
  solid = is.solid;
  grid = is.grid;
  rule = is.rule;
  count = is.count;
  bounds = is.bounds;
  times = is.times;
}
as_file setup bytes misfit (Err fault.Step) is = is
as_file setup bytes misfit (Err (fault.Stl cause)) (apart, (range, is)) = (apart, (range, (misfit, is)))
as_file setup bytes misfit (Err (fault.Binary cause)) (apart, (range, is)) = absurd is
as_file setup bytes misfit (Err (fault.Arrays cause)) is = is
as_file setup bytes misfit (Err (fault.Weld cause)) (apart, (range, (facets, reads, bad))) = (apart, (range, (facets, inr (misfit, reads), bad)))
as_file setup bytes misfit (Err (fault.Grid cause)) (apart, (range, (facets, reads, reach, closed, bad))) =
    (apart, (range, (facets, inr (misfit, reads), reach, closed, bad)))
as_file setup bytes misfit (Err (fault.Screen cause)) (apart, (range, inl (facets, reads, bad))) = (apart, (range, inl (facets, inr (misfit, reads), bad)))
as_file setup bytes misfit (Err (fault.Screen cause)) (apart, (range, inr (facets, reads, reach, closed, bad))) =
    (apart, (range, inr (facets, inr (misfit, reads), reach, closed, bad)))
as_file setup bytes misfit (Err fault.Memory) is = is
as_file setup bytes misfit (Err (fault.Outside columns rows layers)) is = is
