-- The tokens of solids, one facet and one solid after another; and a text that reads as facets has no fault.
use Rattle.std.proofs.Common.{◌≡◌, ◌≢◌, ℕ, ◌⊎◌, inl, inr, List, [], ◌∷◌, ◌++◌, refl, sym, ◌∙◌, ap, append-nil}
use Rattle.std.specs.Prelude.{flat_map}
use Rattle.std.proofs.lemmas.Grind.{flat_map-append}
use Rattle.stl_text.specs.declared.word.Word.TheVariants.{Solid}
use Rattle.stl_text.specs.declared.stl_fault.StlFault.{StlFault}
use Rattle.stl_text.specs.declared.stl_fault.StlFault.TheVariants as fault
use Rattle.micro_num.specs.declared.unit.Unit.{Unit as LengthUnit}
use Rattle.geometry.specs.Facet.{Facet}
use Rattle.stl_text.specs.Text.{Token, rest_of_line, facets_of, Reads, IsFaultOf, facet_word, facet_tokens, solid_tokens, keyword_of}
use Rattle.stl_text.specs.Reader.{facet_tail}
use Rattle.stl_text.proofs.lemmas.OneFault.{not_both}
use Rattle.stl_text.specs.Stage.{open_solid}

abbrev solid_word : Token
solid_word = keyword_of Solid

pub open-more : (added : List Facet) (t : Facet) → open_solid (added ++ t ∷ []) ≡ open_solid added ++ ((facet_word ∷ []) ++ facet_tail t)
open-more added t =
    ap (λ ps. solid_word ∷ rest_of_line ∷ ps)
    (flat_map-append facet_tokens added (t ∷ []) ∙ ap (λ ps. flat_map facet_tokens added ++ ps) (append-nil (facet_tokens t)))

pub tokens-more : (solids : List (List Facet)) (added : List Facet)
    → flat_map solid_tokens (solids ++ added ∷ []) ≡ flat_map solid_tokens solids ++ solid_tokens added
tokens-more solids added =
    flat_map-append solid_tokens solids (added ∷ []) ∙ ap (λ ps. flat_map solid_tokens solids ++ ps) (append-nil (solid_tokens added))

pub facets-more : (solids : List (List Facet)) (added : List Facet) → facets_of solids ++ added ≡ facets_of (solids ++ added ∷ [])
facets-more solids added =
    ap (λ xs. facets_of solids ++ xs) (sym (append-nil added)) ∙ sym (flat_map-append (λ xs. xs) solids (added ∷ []))

-- a fault is `Memory` or another one
memory_or_not : (f : StlFault) → (f ≡ fault.Memory) ⊎ (f ≢ fault.Memory)
memory_or_not (fault.Expected kind at) = inr (λ e. cc)
memory_or_not (fault.Ended kind) = inr (λ e. cc)
memory_or_not (fault.Number cause at) = inr (λ e. cc)
memory_or_not (fault.TooMany at) = inr (λ e. cc)
memory_or_not fault.Memory = inl refl

-- For a text that reads as facets, the only fault is `Memory`.
pub only_memory : (limit : ℕ) (unit : LengthUnit) (bytes : List ℕ) (facets : List Facet) (f : StlFault) → Reads limit unit bytes facets
    → (f ≢ fault.Memory → IsFaultOf limit unit bytes f) → f ≡ fault.Memory
only_memory limit unit bytes facets f reading is = by_case (memory_or_not f)
  where
    by_case : (f ≡ fault.Memory) ⊎ (f ≢ fault.Memory) → f ≡ fault.Memory
    by_case (inl e) = e
    by_case (inr e) = absurd (not_both limit unit bytes facets f reading (is e))
