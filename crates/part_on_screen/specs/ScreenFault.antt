-- The line of the fault of a screen, or of a part on it.
use Rattle.std.specs.Prelude.{ℕ, Bool, List, ◌++◌, codes, decimal, if◌then◌else◌}
use Rattle.part_on_screen.specs.declared.screen_fault.ScreenFault.{ScreenFault}
use Rattle.part_on_screen.specs.declared.screen_fault.ScreenFault.TheVariants as fault

abbrev pub turned_text : Bool → List ℕ
turned_text fits_turned =
    if fits_turned then codes "turned by a quarter it fits" else codes "turned by a quarter it does not fit either"

abbrev pub screen_fault_text : ScreenFault → List ℕ
screen_fault_text fault.NoPixels = codes "screen has no pixels"
screen_fault_text (fault.TooManyPixels columns rows) =
    codes "screen too large: " ++ (decimal columns ++ (codes " columns, " ++ (decimal rows ++ codes " rows")))
screen_fault_text fault.NoSide = codes "pixel has no size"
screen_fault_text fault.NoPitch = codes "no whole number of micrometres up to 100000 is a multiple of both sides of a pixel"
screen_fault_text fault.NoFacets = codes "no facet is left"
screen_fault_text fault.OutOfRange = codes "part too far from the origin for these pixels"
screen_fault_text (fault.DoesNotFit width depth screen_width screen_depth fits_turned) =
    codes "part does not fit: " ++ (decimal width ++ (codes " x " ++ (decimal depth ++ (codes " micrometres on a screen of "
    ++ (decimal screen_width ++ (codes " x " ++ (decimal screen_depth ++ (codes "; " ++ turned_text fits_turned))))))))
screen_fault_text fault.ScreenOutOfRange = codes "part too far from the origin for this screen"
screen_fault_text (fault.TooHigh layers) = codes "part too high: " ++ (decimal layers ++ codes " layers")
