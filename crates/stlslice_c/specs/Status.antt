-- The statuses that calls return, and their texts.
use Rattle.std.specs.Prelude.{ℕ, List, nat_eq, codes, if◌then◌else◌}
use Rattle.layer_session.specs.declared.session_fault.SessionFault.{SessionFault}
use Rattle.layer_session.specs.declared.session_fault.SessionFault.TheVariants as fault
use Rattle.part_on_screen.specs.declared.screen_fault.ScreenFault.{ScreenFault}
use Rattle.part_on_screen.specs.declared.screen_fault.ScreenFault.TheVariants as screen
use Rattle.stlslice_c.specs.declared.status.TheConstants.{GRID, MEMORY, NO_FIT, OPEN_MESH, OUT_OF_RANGE, TEXT}

-- Pixels that are no screen's are options out of range; a part that does not fit has a status of its own.
abbrev pub screen_status : ScreenFault → ℕ
screen_status screen.NoPixels = OUT_OF_RANGE
screen_status (screen.TooManyPixels columns rows) = OUT_OF_RANGE
screen_status screen.NoSide = OUT_OF_RANGE
screen_status screen.NoPitch = OUT_OF_RANGE
screen_status screen.NoFacets = GRID
screen_status screen.OutOfRange = GRID
screen_status (screen.DoesNotFit width depth screen_width screen_depth fits_turned) = NO_FIT
screen_status screen.ScreenOutOfRange = GRID
screen_status (screen.TooHigh layers) = GRID

-- The program's statuses. What is out of range, or outside the grid, has one of its own, and so have arrays that are no facets.
abbrev pub status_of : SessionFault → ℕ
status_of fault.Step = OUT_OF_RANGE
status_of (fault.Stl cause) = TEXT
status_of (fault.Binary cause) = TEXT
status_of (fault.Arrays cause) = OUT_OF_RANGE
status_of (fault.Weld cause) = OPEN_MESH
status_of (fault.Grid cause) = GRID
status_of (fault.Screen cause) = screen_status cause
status_of fault.Memory = MEMORY
status_of (fault.Outside columns rows layers) = OUT_OF_RANGE

-- The text of a status. The numbers are those that a caller in C sees.
abbrev pub status_text : ℕ → List ℕ
status_text n =
    if nat_eq n 0 then codes "done"
    else if nat_eq n 1 then codes "a number is out of its range, or outside the grid"
    else if nat_eq n 3 then codes "the file is no STL that can be read"
    else if nat_eq n 4 then codes "the mesh has an open edge"
    else if nat_eq n 5 then codes "there is no such grid"
    else if nat_eq n 6 then codes "out of memory"
    else if nat_eq n 7 then codes "the buffer is too small"
    else if nat_eq n 8 then codes "no mesh was opened, or it was closed"
    else if nat_eq n 9 then codes "the part does not fit the screen"
    else codes "no status"
