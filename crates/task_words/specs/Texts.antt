-- The texts of option values: rules, units, depths, grids and voxels.
use Rattle.std.specs.Prelude.{◌≡◌, ◌==◌, ◌&&◌, ℕ, ℤ, Bool, List, [], ◌∷◌, length, Option, Some, None, codes, if◌then◌else◌}
use Rattle.std.specs.Prelude.{nat_le, option_and_then, option_map, unsigned_abs}
use Rattle.std.specs.List.{slice_split}
use Rattle.std.specs.Str.{bytes_eq}
use Rattle.std.specs.Str.Parse.{digits_value, signed_digits_value}
use Rattle.clap.specs.Lexer.{without_minus}
use Rattle.geometry.specs.Point.{Point}
use Rattle.geometry.specs.declared.limits.TheConstants.{COORDINATE_LIMIT}
use Rattle.layer_png.specs.declared.depth.Depth.{Depth}
use Rattle.layer_png.specs.declared.depth.Depth.TheVariants as depth
use Rattle.micro_num.specs.declared.unit.Unit.{Unit as LengthUnit}
use Rattle.micro_num.specs.declared.unit.Unit.TheVariants as unit
use Rattle.raster.specs.declared.rule.Rule.{Rule}
use Rattle.raster.specs.declared.rule.Rule.TheVariants as rule
use Rattle.task_words.specs.Options.{Text, is_numeral}
use Rattle.task_words.specs.declared.task.Given.{Given}
use Rattle.task_words.specs.declared.texts.Fields.{Fields}
use Rattle.task_words.specs.declared.texts.Voxel.{Voxel}

-- the rule of this name
abbrev pub rule_named : Text → Option Rule
rule_named name =
    if bytes_eq name (codes "evenodd") then Some rule.EvenOdd
    else (if bytes_eq name (codes "nonzero") then Some rule.NonZero
    else (if bytes_eq name (codes "positive") then Some rule.Positive else None))

-- the unit of this name
abbrev pub unit_named : Text → Option LengthUnit
unit_named name =
    if bytes_eq name (codes "mm") then Some unit.Millimetre
    else (if bytes_eq name (codes "inch") then Some unit.Inch else None)

-- the depth that is written so
abbrev pub depth_named : Text → Option Depth
depth_named name =
    if bytes_eq name (codes "8") then Some depth.Eight
    else (if bytes_eq name (codes "1") then Some depth.One else None)

-- one to nine decimal digits
abbrev pub is_short_number : Text → Bool
is_short_number text = is_numeral text && nat_le (length text) 9

-- a number of one to nine digits, without a sign
abbrev pub count_in : Text → Option ℕ
count_in text = if is_short_number text then Some (digits_value 10 text) else None

-- the same with or without a minus before the digits
abbrev pub coordinate_in : Text → Option ℤ
coordinate_in text = if is_short_number (without_minus text) then Some (signed_digits_value 10 text) else None

-- what stands between the commas
abbrev pub fields : Text → List Text
fields text = slice_split (λ byte. byte == 44) text

-- the fields of what is left of a text
abbrev pub fields_of : Option Text → List Text
fields_of None = []
fields_of (Some text) = fields text

abbrev pub left_of : Fields → List Text
left_of f = fields_of (option_map (λ s. s.now) f.rest)

-- a step from field to field: the next one, and those after it
abbrev pub StepsTo : List Text → Option Text → List Text → Type 0
StepsTo [] found after = (found ≡ None) × (after ≡ [])
StepsTo (field ∷ rest) found after = (found ≡ Some field) × (after ≡ rest)

-- the next field as a value, and the fields after it
abbrev pub ReadsField : {T : Type 0} → (Text → Option T) → List Text → Option T → List Text → Type 0
ReadsField read [] found after = found ≡ None
ReadsField read (field ∷ rest) found after = (found ≡ read field) × (after ≡ rest)

-- the next field as a count, and then those after it
abbrev pub count_then : {T : Type 0} → List Text → (ℕ → List Text → Option T) → Option T
count_then [] next = None
count_then (field ∷ rest) next = option_and_then (λ n. next n rest) (count_in field)

-- the next field as a coordinate, and then those after it
abbrev pub coordinate_then : {T : Type 0} → List Text → (ℤ → List Text → Option T) → Option T
coordinate_then [] next = None
coordinate_then (field ∷ rest) next = option_and_then (λ z. next z rest) (coordinate_in field)

-- there is no further field
abbrev pub at_end : {T : Type 0} → List Text → Option T → Option T
at_end [] found = found
at_end (field ∷ rest) found = None

-- at most COORDINATE_LIMIT from 0
abbrev pub is_near : ℤ → Bool
is_near z = nat_le (unsigned_abs z) COORDINATE_LIMIT

-- the point with these coordinates, if they are in range
abbrev pub point_in_range : ℤ → ℤ → ℤ → Option Point
point_in_range x y z = if is_near x && (is_near y && is_near z) then Some (record { x = x; y = y; z = z }) else None

-- the grid of these counts and this least corner
abbrev pub given_at : ℕ → ℕ → ℕ → Point → Given
given_at columns rows layers origin = record { columns = columns; rows = rows; layers = layers; origin = origin }

-- the grid of a text `COLUMNS,ROWS,LAYERS,X0,Y0,Z0`
abbrev pub grid_in : Text → Option Given
grid_in text =
    count_then (fields text) (λ columns f. count_then f (λ rows g. count_then g (λ layers h.
    coordinate_then h (λ x i. coordinate_then i (λ y j. coordinate_then j (λ z k.
    at_end k (option_and_then (λ origin. Some (given_at columns rows layers origin)) (point_in_range x y z))))))))

-- the column, row and layer of a text `I,J,K`
abbrev pub voxel_in : Text → Option Voxel
voxel_in text =
    count_then (fields text) (λ i f. count_then f (λ j g. count_then g (λ k h.
    at_end h (Some (record { i = i; j = j; k = k })))))
