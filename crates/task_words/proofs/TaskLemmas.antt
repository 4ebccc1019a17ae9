-- From what is given to a task or a fault.
use Rattle.std.proofs.Common.{◌≡◌, ◌∙◌, Bool, true, false, refl, subst, sym, List, [], ◌∷◌, Option, Some, None, Ok, Err, codes, ℕ}
use Rattle.std.specs.Prelude.{IfErr, IsErrAnd, Result, find, is_some, option_map}
use Rattle.std.specs.Str.{bytes_eq}
use Rattle.layer_png.specs.declared.depth.Depth.{Depth}
use Rattle.micro_num.specs.declared.unit.Unit.{Unit as LengthUnit}
use Rattle.raster.specs.declared.rule.Rule.{Rule}
use Rattle.task_words.specs.Matches.{flag_text}
use Rattle.task_words.specs.Options.{Text, Use, is_given, value_or}
use Rattle.task_words.specs.Words.{depth_given, first_fault, first_of, given_value, grid_given, missing, number_of, rule_given, told, unit_given, voxel_given, without_png}
use Rattle.task_words.specs.declared.task.Given.{Given}
use Rattle.task_words.specs.declared.texts.Voxel.{Voxel}
use Rattle.task_words.specs.declared.word_fault.Wanted.TheVariants as wanted
use Rattle.task_words.specs.declared.word_fault.WordFault.{WordFault}
use Rattle.task_words.specs.declared.word_fault.WordFault.TheVariants as fault
use Rattle.task_words.proofs.Rows.{given_use}

pub told_ok : {T : Type 0} (o : Option T) (f : WordFault) (x : T) → Ok x ≡ told o f → o ≡ Some x
told_ok (Some y) f x e = cc
told_ok None f x e = cc

pub told_err : {T : Type 0} (o : Option T) (f g : WordFault) → Err g ≡ told o f → (o ≡ None) × (g ≡ f)
told_err (Some y) f g e = cc
told_err None f g e = (refl, cc)

pub flag_read : (b : Bool) (text : Option Text) (r : Bool) → text ≡ Some (flag_text b) → (text ≡ Some (codes "true") → r ≡ true) → (text ≡ Some (codes "false") → r ≡ false) → r ≡ b
flag_read true text r e on off = on e
flag_read false text r e on off = off e

-- `?` passes a fault up as it is
pub err_as : {T : Type 0} (r : Result T WordFault) (e : WordFault) (P : WordFault → Type 0) → IsErrAnd r (λ y. y ≡ e) → P e → IfErr r P
err_as (Ok x) e P h p = absurd h
err_as (Err y) e P h p = subst P (sym h) p

pub err_then : {T : Type 0} (r : Result T WordFault) (Q P : WordFault → Type 0) → IsErrAnd r Q → ((y : WordFault) → Q y → P y) → IfErr r P
err_then (Ok x) Q P h f = absurd h
err_then (Err y) Q P h f = f y h

-- an option with no default
pub is_there : (name : Text) (uses : List Use) (n : ℕ) → option_map number_of (value_or (given_value name uses) None) ≡ Some n → is_given name uses ≡ true
is_there name uses n e = given_use name uses ∙ go (find (λ u. bytes_eq u.option.name name) uses) e
  where
    go : (o : Option Use) → option_map number_of (value_or (option_map (λ u. u.value) o) None) ≡ Some n → is_some o ≡ true
    go (Some u) f = refl
    go None f = cc

pub is_missing : (name : Text) (uses : List Use) → option_map number_of (value_or (given_value name uses) None) ≡ None → is_given name uses ≡ false
is_missing name uses e = given_use name uses ∙ go (find (λ u. bytes_eq u.option.name name) uses) e
  where
    go : (o : Option Use) → option_map number_of (value_or (option_map (λ u. u.value) o) None) ≡ None → is_some o ≡ false
    go (Some u) f = cc
    go None f = refl

module _ (uses : List Use) (rule : Rule) (unit : LengthUnit) (grid : Option Given) (a : rule_given uses ≡ Some rule) (b : unit_given uses ≡ Some unit) (c : grid_given uses ≡ Some grid) where
  pub voxel_fault : voxel_given uses ≡ None → first_fault uses ≡ Some fault.BadProbe
  voxel_fault d = rw (a, b, c, d) refl

  pub depth_fault : (voxel : Option Voxel) → voxel_given uses ≡ Some voxel → depth_given uses ≡ None → first_fault uses ≡ Some fault.BadDepth
  depth_fault voxel d e = rw (a, b, c, d, e) refl

  pub png_fault : (voxel : Option Voxel) (depth : Depth) (f : WordFault) → voxel_given uses ≡ Some voxel → depth_given uses ≡ Some depth → without_png uses ≡ Some f → first_fault uses ≡ Some f
  png_fault voxel depth f d e g = rw (a, b, c, d, e, g) refl

  pub last_faults : (voxel : Option Voxel) (depth : Depth) → voxel_given uses ≡ Some voxel → depth_given uses ≡ Some depth → without_png uses ≡ None
      → first_fault uses ≡ first_of (missing (codes "pitch") wanted.Pitch uses ∷ missing (codes "layer") wanted.Layer uses ∷ [])
  last_faults voxel depth d e g = rw (a, b, c, d, e, g) refl

pub box_needs_none : (uses : List Use) → is_given (codes "box") uses ≡ true → first_of (missing (codes "pitch") wanted.Pitch uses ∷ missing (codes "layer") wanted.Layer uses ∷ []) ≡ None
box_needs_none uses e = rw e refl

pub pitch_needed : (uses : List Use) → is_given (codes "box") uses ≡ false → is_given (codes "pitch") uses ≡ false
    → first_of (missing (codes "pitch") wanted.Pitch uses ∷ missing (codes "layer") wanted.Layer uses ∷ []) ≡ Some (fault.Missing wanted.Pitch)
pitch_needed uses e f = rw (e, f) refl

pub layer_needed : (uses : List Use) → is_given (codes "box") uses ≡ false → is_given (codes "pitch") uses ≡ true → is_given (codes "layer") uses ≡ false
    → first_of (missing (codes "pitch") wanted.Pitch uses ∷ missing (codes "layer") wanted.Layer uses ∷ []) ≡ Some (fault.Missing wanted.Layer)
layer_needed uses e f g = rw (e, f, g) refl

pub all_there : (uses : List Use) → is_given (codes "box") uses ≡ false → is_given (codes "pitch") uses ≡ true → is_given (codes "layer") uses ≡ true
    → first_of (missing (codes "pitch") wanted.Pitch uses ∷ missing (codes "layer") wanted.Layer uses ∷ []) ≡ None
all_there uses e f g = rw (e, f, g) refl
