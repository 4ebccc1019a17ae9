use Rattle.std.proofs.Common.{◌≡◌, ◌+◌, ◌++◌, take, drop}
use Rattle.std.specs.Prelude.{filter}
use Rattle.std.specs.List.{prefix_len}
use Rattle.contour.specs.Active.{starts_by, ends_above}
use Rattle.contour.proofs.active.pass_each.Given as goal

abbrev pub invariant-loop-i : goal.invariant-loop-i
invariant-loop-i g l = record {
  reached : l.i + prefix_len (starts_by l.s.facets l.z2) (drop l.i l.order) ≡ prefix_len (starts_by l.s.facets l.z2) l.order;
  active : l.active.items ≡ l.fn.active.items ++ filter (ends_above l.s.facets l.z2) (take l.i l.order);
}
