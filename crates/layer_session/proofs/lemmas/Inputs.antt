-- An input is read as facets, or has a fault, and just one.
use Rattle.std.proofs.Common.{◌≡◌, ◌∙◌, ◌⊎◌, ℕ, List, ap, arith, inl, inr, length, refl, sym}
use Rattle.geometry.specs.Facet.{Facet}
use Rattle.geometry.specs.declared.limits.TheConstants.{FACET_LIMIT}
use Rattle.binary_stl.specs.Binary.{IsBinary, facet_count, length_of}
use Rattle.binary_stl.specs.declared.binary_fault.BinaryFault.{BinaryFault}
use Rattle.binary_stl.proofs.lemmas.OneOutcome as binary
use Rattle.binary_stl.proofs.lemmas.SomeOutcome.{either as binary_outcome}
use Rattle.mesh_arrays.specs.declared.array_fault.ArrayFault.{ArrayFault}
use Rattle.mesh_arrays.proofs.lemmas.OneOutcome as arrays
use Rattle.mesh_arrays.proofs.lemmas.SomeOutcome.{either}
use Rattle.micro_num.specs.declared.unit.Unit.{Unit as LengthUnit}
use Rattle.stl_text.specs.declared.stl_fault.StlFault.{StlFault}
use Rattle.stl_text.proofs.lemmas.Either.{outcome}
use Rattle.stl_text.proofs.lemmas.OneFault as text
use Rattle.stl_text.proofs.lemmas.OneReading as reading
use Rattle.layer_session.specs.Session.{Input, IsArrayFault, IsBinaryFault, IsFaultOfFile, IsOpenFault, IsReadAs, IsTextFault, ReadsFile, of_arrays, of_file, of_text}
use Rattle.layer_session.specs.Setup.{HasSteps}
use Rattle.layer_session.specs.declared.session_fault.SessionFault.{SessionFault}
use Rattle.layer_session.specs.declared.session_fault.SessionFault.TheVariants as fault
use Rattle.layer_session.specs.declared.setup.Setup.{Setup}

-- the fault of a text, a binary STL or arrays, as that of a session
abbrev pub IsRefused : Setup → Input → SessionFault → Type 0
IsRefused setup input f =
    ((cause : StlFault) × IsTextFault setup input cause × (f ≡ fault.Stl cause))
    ⊎ ((cause : BinaryFault) × IsBinaryFault setup input cause × (f ≡ fault.Binary cause))
    ⊎ ((cause : ArrayFault) × IsArrayFault input cause × (f ≡ fault.Arrays cause))

-- ---- a file
-- bytes have the length of a binary STL, or not
form : (bytes : List ℕ) → IsBinary bytes ⊎ (IsBinary bytes → ⊥)
form bytes = by (length bytes) (length_of (facet_count bytes))
  where
    by : (m n : ℕ) → (m ≡ n) ⊎ (m ≡ n → ⊥)
    by m n = grind arith

one_file : (limit : ℕ) (unit : LengthUnit) (bytes : List ℕ) (facets others : List Facet) → ReadsFile limit unit bytes facets → ReadsFile limit unit bytes others → facets ≡ others
one_file limit unit bytes facets others (inl (fits, is)) (inl (fits', js)) = binary.one_reading limit unit bytes facets others is js
one_file limit unit bytes facets others (inl (fits, is)) (inr (misfit, js)) = absurd (misfit fits)
one_file limit unit bytes facets others (inr (misfit, is)) (inl (fits, js)) = absurd (misfit fits)
one_file limit unit bytes facets others (inr (misfit, is)) (inr (misfit', js)) = reading.one_reading limit unit bytes facets others is js

-- the fault of a file is that of opening it
pub file_fault : (setup : Setup) (bytes : List ℕ) (f : SessionFault) → HasSteps setup → IsFaultOfFile FACET_LIMIT setup.unit bytes f → IsOpenFault setup (of_file bytes) f
file_fault setup bytes fault.Step range is = absurd is
file_fault setup bytes (fault.Stl cause) range is = (range, is)
file_fault setup bytes (fault.Binary cause) range is = (range, is)
file_fault setup bytes (fault.Arrays cause) range is = absurd is
file_fault setup bytes (fault.Weld cause) range is = absurd is
file_fault setup bytes (fault.Grid cause) range is = absurd is
file_fault setup bytes (fault.Screen cause) range is = absurd is
file_fault setup bytes fault.Memory range is = tt
file_fault setup bytes (fault.Outside columns rows layers) range is = absurd is

-- ---- any input
pub one_reading : (setup : Setup) (input : Input) (facets others : List Facet) → IsReadAs setup input facets → IsReadAs setup input others → facets ≡ others
one_reading setup (of_file bytes) facets others is js = one_file FACET_LIMIT setup.unit bytes facets others is js
one_reading setup (of_text bytes) facets others is js = reading.one_reading FACET_LIMIT setup.unit bytes facets others is js
one_reading setup (of_arrays points triangles) facets others is js = arrays.one_reading points triangles facets others is js

pub one_refusal : (setup : Setup) (input : Input) (f g : SessionFault) → IsRefused setup input f → IsRefused setup input g → f ≡ g
one_refusal setup (of_file bytes) f g (inl (cause, (misfit, h), is)) (inl (other, (misfit', k), js)) =
    is ∙ ap (λ (x : StlFault). fault.Stl x) (text.one_fault FACET_LIMIT setup.unit bytes cause other h k) ∙ sym js
one_refusal setup (of_file bytes) f g (inl (cause, (misfit, h), is)) (inr (inl (other, (fits, k), js))) = absurd (misfit fits)
one_refusal setup (of_file bytes) f g (inl (cause, h, is)) (inr (inr (other, k, js))) = absurd k
one_refusal setup (of_file bytes) f g (inr (inl (cause, (fits, h), is))) (inl (other, (misfit, k), js)) = absurd (misfit fits)
one_refusal setup (of_file bytes) f g (inr (inl (cause, (fits, h), is))) (inr (inl (other, (fits', k), js))) =
    is ∙ ap (λ (x : BinaryFault). fault.Binary x) (binary.one_fault FACET_LIMIT setup.unit bytes cause other h k) ∙ sym js
one_refusal setup (of_file bytes) f g (inr (inl (cause, h, is))) (inr (inr (other, k, js))) = absurd k
one_refusal setup (of_file bytes) f g (inr (inr (cause, h, is))) is' = absurd h
one_refusal setup (of_text bytes) f g (inl (cause, h, is)) (inl (other, k, js)) =
    is ∙ ap (λ (x : StlFault). fault.Stl x) (text.one_fault FACET_LIMIT setup.unit bytes cause other h k) ∙ sym js
one_refusal setup (of_text bytes) f g (inl (cause, h, is)) (inr (inl (other, k, js))) = absurd k
one_refusal setup (of_text bytes) f g (inl (cause, h, is)) (inr (inr (other, k, js))) = absurd k
one_refusal setup (of_text bytes) f g (inr (inl (cause, h, is))) is' = absurd h
one_refusal setup (of_text bytes) f g (inr (inr (cause, h, is))) is' = absurd h
one_refusal setup (of_arrays points triangles) f g (inl (cause, h, is)) is' = absurd h
one_refusal setup (of_arrays points triangles) f g (inr (inl (cause, h, is))) is' = absurd h
one_refusal setup (of_arrays points triangles) f g (inr (inr (cause, h, is))) (inl (other, k, js)) = absurd k
one_refusal setup (of_arrays points triangles) f g (inr (inr (cause, h, is))) (inr (inl (other, k, js))) = absurd k
one_refusal setup (of_arrays points triangles) f g (inr (inr (cause, h, is))) (inr (inr (other, k, js))) =
    is ∙ ap (λ (x : ArrayFault). fault.Arrays x) (arrays.one_fault points triangles cause other h k) ∙ sym js

pub not_both : (setup : Setup) (input : Input) (facets : List Facet) (f : SessionFault) → IsReadAs setup input facets → IsRefused setup input f → ⊥
not_both setup (of_file bytes) facets f (inl (fits, reads)) (inl (cause, (misfit, h), is)) = misfit fits
not_both setup (of_file bytes) facets f (inr (misfit, reads)) (inl (cause, (misfit', h), is)) = text.not_both FACET_LIMIT setup.unit bytes facets cause reads h
not_both setup (of_file bytes) facets f (inl (fits, reads)) (inr (inl (cause, (fits', h), is))) = binary.not_both FACET_LIMIT setup.unit bytes facets cause reads h
not_both setup (of_file bytes) facets f (inr (misfit, reads)) (inr (inl (cause, (fits, h), is))) = misfit fits
not_both setup (of_file bytes) facets f reads (inr (inr (cause, h, is))) = h
not_both setup (of_text bytes) facets f reads (inl (cause, h, is)) = text.not_both FACET_LIMIT setup.unit bytes facets cause reads h
not_both setup (of_text bytes) facets f reads (inr (inl (cause, h, is))) = h
not_both setup (of_text bytes) facets f reads (inr (inr (cause, h, is))) = h
not_both setup (of_arrays points triangles) facets f reads (inl (cause, h, is)) = h
not_both setup (of_arrays points triangles) facets f reads (inr (inl (cause, h, is))) = h
not_both setup (of_arrays points triangles) facets f reads (inr (inr (cause, h, is))) = arrays.not_both points triangles facets cause reads h

abbrev Read : Setup → Input → Type 0
Read setup input = (facets : List Facet) × IsReadAs setup input facets

abbrev Refused : Setup → Input → Type 0
Refused setup input = (f : SessionFault) × IsRefused setup input f

some_reading_of_file : (setup : Setup) (bytes : List ℕ) → IsBinary bytes ⊎ (IsBinary bytes → ⊥) → Read setup (of_file bytes) ⊎ Refused setup (of_file bytes)
some_reading_of_file setup bytes (inl fits) = elim (binary_outcome FACET_LIMIT setup.unit bytes) as (λ _. Read setup (of_file bytes) ⊎ Refused setup (of_file bytes)) [
  | inl h ↦ inl (h.0, inl (fits, h.1))
  | inr h ↦ inr (fault.Binary h.0, inr (inl (h.0, (fits, h.1), refl)))
]
some_reading_of_file setup bytes (inr misfit) = elim (outcome FACET_LIMIT setup.unit bytes) as (λ _. Read setup (of_file bytes) ⊎ Refused setup (of_file bytes)) [
  | inl h ↦ inl (h.0, inr (misfit, h.1))
  | inr h ↦ inr (fault.Stl h.0, inl (h.0, (misfit, h.1), refl))
]

pub some_reading : (setup : Setup) (input : Input) → Read setup input ⊎ Refused setup input
some_reading setup (of_file bytes) = some_reading_of_file setup bytes (form bytes)
some_reading setup (of_text bytes) = elim (outcome FACET_LIMIT setup.unit bytes) as (λ _. Read setup (of_text bytes) ⊎ Refused setup (of_text bytes)) [
  | inl h ↦ inl (h.0, h.1)
  | inr h ↦ inr (fault.Stl h.0, inl (h.0, h.1, refl))
]
some_reading setup (of_arrays points triangles) = elim (either points triangles) as (λ _. Read setup (of_arrays points triangles) ⊎ Refused setup (of_arrays points triangles)) [
  | inl h ↦ inl (h.0, h.1)
  | inr h ↦ inr (fault.Arrays h.0, inr (inr (h.0, h.1, refl)))
]
