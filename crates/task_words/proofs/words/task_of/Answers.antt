use Rattle.std.proofs.Common.{◌≡◌, ◌∙◌, ap, codes, sym, Some}
use Rattle.task_words.specs.Words.{HasGrid, depth_given, first_fault, grid_given, number_given, rule_given, unit_given, value_of, voxel_given}
use Rattle.task_words.specs.declared.word_fault.Wanted.TheVariants as wanted
use Rattle.task_words.specs.declared.word_fault.WordFault.TheVariants as fault
use Rattle.task_words.proofs.TaskLemmas.{all_there, err_as, box_needs_none, depth_fault, is_missing, is_there, last_faults, layer_needed, pitch_needed, png_fault, told_err, told_ok, voxel_fault}
use Rattle.task_words.proofs.words.task_of.Goals as goal

pub returns-in_err-voxel-clause-fault : goal.returns-in_err-voxel-clause-fault
returns-in_err-voxel-clause-fault c uses h =
    let a = told_ok (rule_given uses) fault.BadRule c.in_ok-rule.rule (c.in_ok-rule.ensures.given uses h) in
    let b = told_ok (unit_given uses) fault.BadUnit c.in_ok-unit.unit (c.in_ok-unit.ensures.given uses h) in
    let g = told_ok (grid_given uses) fault.BadGrid c.in_ok-grid.grid (c.in_ok-grid.ensures.given uses h) in
    let e = told_err (voxel_given uses) fault.BadProbe c.in_err-voxel.field-0.0 (c.in_err-voxel.ensures.given uses h) in
    err_as c.from_residual-in_err-voxel.result c.in_err-voxel.field-0.0 (λ f. first_fault uses ≡ Some f) c.from_residual-in_err-voxel.ensures.1 (voxel_fault uses c.in_ok-rule.rule c.in_ok-unit.unit c.in_ok-grid.grid a b g e.0 ∙ ap (λ f. Some f) (sym e.1))

pub returns-in_err-depth-clause-fault : goal.returns-in_err-depth-clause-fault
returns-in_err-depth-clause-fault c uses h =
    let a = told_ok (rule_given uses) fault.BadRule c.in_ok-rule.rule (c.in_ok-rule.ensures.given uses h) in
    let b = told_ok (unit_given uses) fault.BadUnit c.in_ok-unit.unit (c.in_ok-unit.ensures.given uses h) in
    let g = told_ok (grid_given uses) fault.BadGrid c.in_ok-grid.grid (c.in_ok-grid.ensures.given uses h) in
    let v = told_ok (voxel_given uses) fault.BadProbe c.in_ok-voxel.voxel (c.in_ok-voxel.ensures.given uses h) in
    let e = told_err (depth_given uses) fault.BadDepth c.in_err-depth.field-0.0 (c.in_err-depth.ensures.given uses h) in
    err_as c.from_residual-in_err-depth.result c.in_err-depth.field-0.0 (λ f. first_fault uses ≡ Some f) c.from_residual-in_err-depth.ensures.1 (depth_fault uses c.in_ok-rule.rule c.in_ok-unit.unit c.in_ok-grid.grid a b g c.in_ok-voxel.voxel v e.0 ∙ ap (λ f. Some f) (sym e.1))

pub returns-in_err-png-clause-fault : goal.returns-in_err-png-clause-fault
returns-in_err-png-clause-fault c uses h =
    let a = told_ok (rule_given uses) fault.BadRule c.in_ok-rule.rule (c.in_ok-rule.ensures.given uses h) in
    let b = told_ok (unit_given uses) fault.BadUnit c.in_ok-unit.unit (c.in_ok-unit.ensures.given uses h) in
    let g = told_ok (grid_given uses) fault.BadGrid c.in_ok-grid.grid (c.in_ok-grid.ensures.given uses h) in
    let v = told_ok (voxel_given uses) fault.BadProbe c.in_ok-voxel.voxel (c.in_ok-voxel.ensures.given uses h) in
    let d = told_ok (depth_given uses) fault.BadDepth c.in_ok-depth.depth (c.in_ok-depth.ensures.given uses h) in
    err_as c.from_residual-in_err-png.result c.in_err-png.field-0.0 (λ f. first_fault uses ≡ Some f) c.from_residual-in_err-png.ensures.1 (png_fault uses c.in_ok-rule.rule c.in_ok-unit.unit c.in_ok-grid.grid a b g c.in_ok-voxel.voxel c.in_ok-depth.depth c.in_err-png.field-0.0 v d (c.in_err-png.ensures.fault uses h))

pub returns-then-is_box-clause-task : goal.returns-then-is_box-clause-task
returns-then-is_box-clause-task c uses h =
    let a = told_ok (rule_given uses) fault.BadRule c.in_ok-rule.rule (c.in_ok-rule.ensures.given uses h) in
    let b = told_ok (unit_given uses) fault.BadUnit c.in_ok-unit.unit (c.in_ok-unit.ensures.given uses h) in
    let g = told_ok (grid_given uses) fault.BadGrid c.in_ok-grid.grid (c.in_ok-grid.ensures.given uses h) in
    let v = told_ok (voxel_given uses) fault.BadProbe c.in_ok-voxel.voxel (c.in_ok-voxel.ensures.given uses h) in
    let d = told_ok (depth_given uses) fault.BadDepth c.in_ok-depth.depth (c.in_ok-depth.ensures.given uses h) in
    let last = last_faults uses c.in_ok-rule.rule c.in_ok-unit.unit c.in_ok-grid.grid a b g c.in_ok-voxel.voxel c.in_ok-depth.depth v d (c.in_ok-png.ensures.given uses h).1 in
    let box = sym (c.is_box.ensures uses h) ∙ c.if-is_box.true in
    (last ∙ box_needs_none uses box, (box, b))

pub returns-in_err-pitch-clause-fault : goal.returns-in_err-pitch-clause-fault
returns-in_err-pitch-clause-fault c uses h =
    let a = told_ok (rule_given uses) fault.BadRule c.in_ok-rule.rule (c.in_ok-rule.ensures.given uses h) in
    let b = told_ok (unit_given uses) fault.BadUnit c.in_ok-unit.unit (c.in_ok-unit.ensures.given uses h) in
    let g = told_ok (grid_given uses) fault.BadGrid c.in_ok-grid.grid (c.in_ok-grid.ensures.given uses h) in
    let v = told_ok (voxel_given uses) fault.BadProbe c.in_ok-voxel.voxel (c.in_ok-voxel.ensures.given uses h) in
    let d = told_ok (depth_given uses) fault.BadDepth c.in_ok-depth.depth (c.in_ok-depth.ensures.given uses h) in
    let last = last_faults uses c.in_ok-rule.rule c.in_ok-unit.unit c.in_ok-grid.grid a b g c.in_ok-voxel.voxel c.in_ok-depth.depth v d (c.in_ok-png.ensures.given uses h).1 in
    let box = sym (c.is_box.ensures uses h) ∙ c.if-is_box.false in
    let e = told_err (number_given (codes "pitch") uses) (fault.Missing wanted.Pitch) c.in_err-pitch.field-0.0 (c.in_err-pitch.ensures.given (value_of (codes "pitch") uses) h.pitch) in
    err_as c.from_residual-in_err-pitch.result c.in_err-pitch.field-0.0 (λ f. first_fault uses ≡ Some f) c.from_residual-in_err-pitch.ensures.1 (last ∙ pitch_needed uses box (is_missing (codes "pitch") uses e.0) ∙ ap (λ f. Some f) (sym e.1))

pub returns-in_err-layer-clause-fault : goal.returns-in_err-layer-clause-fault
returns-in_err-layer-clause-fault c uses h =
    let a = told_ok (rule_given uses) fault.BadRule c.in_ok-rule.rule (c.in_ok-rule.ensures.given uses h) in
    let b = told_ok (unit_given uses) fault.BadUnit c.in_ok-unit.unit (c.in_ok-unit.ensures.given uses h) in
    let g = told_ok (grid_given uses) fault.BadGrid c.in_ok-grid.grid (c.in_ok-grid.ensures.given uses h) in
    let v = told_ok (voxel_given uses) fault.BadProbe c.in_ok-voxel.voxel (c.in_ok-voxel.ensures.given uses h) in
    let d = told_ok (depth_given uses) fault.BadDepth c.in_ok-depth.depth (c.in_ok-depth.ensures.given uses h) in
    let last = last_faults uses c.in_ok-rule.rule c.in_ok-unit.unit c.in_ok-grid.grid a b g c.in_ok-voxel.voxel c.in_ok-depth.depth v d (c.in_ok-png.ensures.given uses h).1 in
    let box = sym (c.is_box.ensures uses h) ∙ c.if-is_box.false in
    let pitch = told_ok (number_given (codes "pitch") uses) (fault.Missing wanted.Pitch) c.in_ok-pitch.pitch (c.in_ok-pitch.ensures.given (value_of (codes "pitch") uses) h.pitch) in
    let e = told_err (number_given (codes "layer") uses) (fault.Missing wanted.Layer) c.in_err-layer.field-0.0 (c.in_err-layer.ensures.given (value_of (codes "layer") uses) h.layer) in
    err_as c.from_residual-in_err-layer.result c.in_err-layer.field-0.0 (λ f. first_fault uses ≡ Some f) c.from_residual-in_err-layer.ensures.1 (last ∙ layer_needed uses box (is_there (codes "pitch") uses c.in_ok-pitch.pitch pitch) (is_missing (codes "layer") uses e.0) ∙ ap (λ f. Some f) (sym e.1))

pub returns-in-Some-clause-task : goal.returns-in-Some-clause-task
returns-in-Some-clause-task c uses h =
    let a = told_ok (rule_given uses) fault.BadRule c.in_ok-rule.rule (c.in_ok-rule.ensures.given uses h) in
    let b = told_ok (unit_given uses) fault.BadUnit c.in_ok-unit.unit (c.in_ok-unit.ensures.given uses h) in
    let g = told_ok (grid_given uses) fault.BadGrid c.in_ok-grid.grid (c.in_ok-grid.ensures.given uses h) in
    let v = told_ok (voxel_given uses) fault.BadProbe c.in_ok-voxel.voxel (c.in_ok-voxel.ensures.given uses h) in
    let d = told_ok (depth_given uses) fault.BadDepth c.in_ok-depth.depth (c.in_ok-depth.ensures.given uses h) in
    let last = last_faults uses c.in_ok-rule.rule c.in_ok-unit.unit c.in_ok-grid.grid a b g c.in_ok-voxel.voxel c.in_ok-depth.depth v d (c.in_ok-png.ensures.given uses h).1 in
    let box = sym (c.is_box.ensures uses h) ∙ c.if-is_box.false in
    let pitch = told_ok (number_given (codes "pitch") uses) (fault.Missing wanted.Pitch) c.in_ok-pitch.pitch (c.in_ok-pitch.ensures.given (value_of (codes "pitch") uses) h.pitch) in
    let layer = told_ok (number_given (codes "layer") uses) (fault.Missing wanted.Layer) c.in_ok-layer.layer (c.in_ok-layer.ensures.given (value_of (codes "layer") uses) h.layer) in
    let none = last ∙ all_there uses box (is_there (codes "pitch") uses c.in_ok-pitch.pitch pitch) (is_there (codes "layer") uses c.in_ok-layer.layer layer) in
    let grid : HasGrid uses c.in_ok-unit.unit c.in_ok-pitch.pitch c.in_ok-layer.layer c.in_ok-grid.grid =
    record { unit_is = b; pitch_is = pitch; layer_is = layer; grid_is = g } in
    (none, (box, v ∙ ap (λ w. Some w) c.in-Some.is, grid))

pub returns-in-None-clause-task : goal.returns-in-None-clause-task
returns-in-None-clause-task c uses h =
    let a = told_ok (rule_given uses) fault.BadRule c.in_ok-rule.rule (c.in_ok-rule.ensures.given uses h) in
    let b = told_ok (unit_given uses) fault.BadUnit c.in_ok-unit.unit (c.in_ok-unit.ensures.given uses h) in
    let g = told_ok (grid_given uses) fault.BadGrid c.in_ok-grid.grid (c.in_ok-grid.ensures.given uses h) in
    let v = told_ok (voxel_given uses) fault.BadProbe c.in_ok-voxel.voxel (c.in_ok-voxel.ensures.given uses h) in
    let d = told_ok (depth_given uses) fault.BadDepth c.in_ok-depth.depth (c.in_ok-depth.ensures.given uses h) in
    let last = last_faults uses c.in_ok-rule.rule c.in_ok-unit.unit c.in_ok-grid.grid a b g c.in_ok-voxel.voxel c.in_ok-depth.depth v d (c.in_ok-png.ensures.given uses h).1 in
    let box = sym (c.is_box.ensures uses h) ∙ c.if-is_box.false in
    let pitch = told_ok (number_given (codes "pitch") uses) (fault.Missing wanted.Pitch) c.in_ok-pitch.pitch (c.in_ok-pitch.ensures.given (value_of (codes "pitch") uses) h.pitch) in
    let layer = told_ok (number_given (codes "layer") uses) (fault.Missing wanted.Layer) c.in_ok-layer.layer (c.in_ok-layer.ensures.given (value_of (codes "layer") uses) h.layer) in
    let none = last ∙ all_there uses box (is_there (codes "pitch") uses c.in_ok-pitch.pitch pitch) (is_there (codes "layer") uses c.in_ok-layer.layer layer) in
    let grid : HasGrid uses c.in_ok-unit.unit c.in_ok-pitch.pitch c.in_ok-layer.layer c.in_ok-grid.grid =
    record { unit_is = b; pitch_is = pitch; layer_is = layer; grid_is = g } in
    (none, c.slicing_of.ensures.given uses h grid box (v ∙ ap (λ w. Some w) c.in-None.is) a d (c.in_ok-png.ensures.given uses h).0)
