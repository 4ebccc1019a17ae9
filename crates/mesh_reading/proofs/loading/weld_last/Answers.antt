use Rattle.std.proofs.Common.{◌≡◌, ◌++◌}
use Rattle.mesh_weld.specs.Welder.{welder_of}
use Rattle.mesh_reading.proofs.lemmas.Faults.{passed_on, told, unread_text}
use Rattle.mesh_reading.proofs.lemmas.Reading.{none_made}
use Rattle.geometry.specs.declared.limits.TheConstants.{FACET_LIMIT}
use Rattle.mesh_reading.proofs.loading.weld_last.Goals as goal

pub returns-in_err-last : goal.returns-in_err-last
returns-in_err-last g c = λ unit taken fed welded is.
    let r = c.from_residual.result in
    let gives = c.from_residual.ensures.1 in
    record {
      ok = none_made r _ _ gives;
      err = passed_on r _ _
          (λ f is_fault. unread_text unit fed f (told unit fed c.in_err-last.field-0.0 f is_fault (c.in_err-last.ensures.fault FACET_LIMIT unit taken fed is)))
          gives;
      only = λ facets reads. passed_on r _ _
          (λ f is_fault. is_fault.0 (c.in_err-last.ensures.only FACET_LIMIT unit taken fed is facets reads)) gives;
    }

pub returns : goal.returns
returns g c = λ unit taken fed welded is.
    let found = c.in_ok-last.ensures.found FACET_LIMIT unit taken fed is in
    let all : c.weld_next.new.welder ≡ welder_of (taken ++ c.in_ok-last.last.items) =
    rw (← c.as_slice.ensures.value) (c.in_ok-weld_next.ensures.welded taken welded (rw c.as_slice.ensures.value found.few)) in
    record {
      ok = (taken ++ c.in_ok-last.last.items, found, all);
      err = tt;
      only = λ facets reads. tt;
    }
