use Rattle.std.proofs.Common.{◌≡◌, ◌∙◌, ◌^◌, ap, refl, sym}
use Rattle.std.specs.Prelude.{Ok, pos}
use Rattle.micro_num.specs.declared.unit.Unit.{Unit as LengthUnit}
use Rattle.micro_num.specs.declared.unit.Unit.TheVariants.{Millimetre, Inch, Centimetre, Metre}
use Rattle.binary_stl.specs.Single.{coordinate_of, single_coordinate}
use Rattle.binary_stl.proofs.laws.equal_numbers.Goals as goal

zeros : (unit : LengthUnit) → (coordinate_of unit 0 ≡ Ok (pos 0)) × (coordinate_of unit (2 ^ 31) ≡ Ok (pos 0))
zeros Millimetre = (refl, refl)
zeros Inch = (refl, refl)
zeros Centimetre = (refl, refl)
zeros Metre = (refl, refl)

pub returns-clause-same : goal.returns-clause-same
returns-clause-same c = λ unit bits others z is js. ap (single_coordinate unit) (is ∙ sym js)

pub returns-clause-zero : goal.returns-clause-zero
returns-clause-zero c = zeros
