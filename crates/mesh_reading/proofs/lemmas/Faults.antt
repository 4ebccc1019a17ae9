-- Which faults of reading are faults of the text.
use Rattle.std.proofs.Common.{◌≡◌, ◌≢◌, ◌⊎◌, ℕ, List, inl, inr, refl}
use Rattle.std.specs.Prelude.{Err, Result, IsErrAnd, IfErr, Ok}
use Rattle.micro_num.specs.declared.unit.Unit.{Unit as LengthUnit}
use Rattle.stl_text.specs.declared.stl_fault.StlFault.{StlFault}
use Rattle.stl_text.specs.declared.stl_fault.StlFault.TheVariants as stl
use Rattle.stl_text.specs.Text.{IsFaultOf, Reads}
use Rattle.geometry.specs.Facet.{Facet}
use Rattle.geometry.specs.declared.limits.TheConstants.{FACET_LIMIT}
use Rattle.mesh_weld.specs.Welding.{IsWeldFault}
use Rattle.mesh_weld.specs.declared.weld_fault.WeldFault.{WeldFault}
use Rattle.mesh_weld.specs.declared.weld_fault.WeldFault.TheVariants as weld
use Rattle.mesh_reading.specs.declared.read_fault.ReadFault.{ReadFault}
use Rattle.mesh_reading.specs.declared.read_fault.ReadFault.TheVariants as fault
use Rattle.mesh_reading.specs.Loading.{IsLoadFault, IsMisread}

abbrev pub IsReadingFault : LengthUnit → List ℕ → ReadFault → Type 0
IsReadingFault unit input f = (f ≡ fault.Memory) ⊎ IsMisread unit input f

-- what is returned for a fault of the text
pub told : (unit : LengthUnit) (input : List ℕ) (cause : StlFault) (f : ReadFault)
    → ((cause ≡ stl.Memory → f ≡ fault.Memory) × (cause ≢ stl.Memory → f ≡ fault.Stl cause))
    → (cause ≢ stl.Memory → IsFaultOf FACET_LIMIT unit input cause) → IsReadingFault unit input f
told unit input stl.Memory f gives known = inl (gives.0 refl)
told unit input (stl.Expected word at) f gives known = inr (stl.Expected word at, gives.1 (λ e. cc), known (λ e. cc))
told unit input (stl.Number cause at) f gives known = inr (stl.Number cause at, gives.1 (λ e. cc), known (λ e. cc))
told unit input (stl.Ended word) f gives known = inr (stl.Ended word, gives.1 (λ e. cc), known (λ e. cc))
told unit input (stl.TooMany at) f gives known = inr (stl.TooMany at, gives.1 (λ e. cc), known (λ e. cc))

-- if a text does not read as facets, there is no closed mesh
unread_mesh : (unit : LengthUnit) (input : List ℕ) (f : ReadFault) → IsMisread unit input f → IsLoadFault unit input f
unread_mesh unit input f h = rw h.1 h.2

pub unread_text : (unit : LengthUnit) (input : List ℕ) (f : ReadFault) → IsReadingFault unit input f → IsLoadFault unit input f
unread_text unit input f (inl is) = rw is tt
unread_text unit input f (inr h) = unread_mesh unit input f h

-- a mesh that is not closed has no solid
pub unclosed : (unit : LengthUnit) (input : List ℕ) (facets : List Facet) (cause : WeldFault) (f : ReadFault)
    → ((cause ≡ weld.Memory → f ≡ fault.Memory) × (cause ≢ weld.Memory → f ≡ fault.Weld cause))
    → Reads FACET_LIMIT unit input facets → IsWeldFault facets cause → IsLoadFault unit input f
unclosed unit input facets (weld.Open from to there back) f gives reads known = rw (gives.1 (λ e. cc)) (facets, reads, known)
unclosed unit input facets weld.Memory f gives reads known = rw (gives.0 refl) tt

pub passed_on : {T E : Type 0} (r : Result T E) (P Q : E → Type 0) → ((f : E) → P f → Q f) → IsErrAnd r P → IfErr r Q
passed_on (Ok x) P Q more h = tt
passed_on (Err f) P Q more h = more f h

pub not_read : (unit : LengthUnit) (input : List ℕ) (f : ReadFault) → IsLoadFault unit input f → f ≢ fault.Read
not_read unit input fault.Read h e = h
not_read unit input (fault.Stl cause) h e = cc
not_read unit input (fault.Weld cause) h e = cc
not_read unit input fault.Memory h e = cc
