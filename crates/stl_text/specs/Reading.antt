-- The result for a text that is in memory as a whole.
use Rattle.std.specs.Prelude.{◌≡◌, ◌≢◌, ℕ, List, IfErr, IfOk, MatchResult, Result, Vec}
use Rattle.geometry.specs.Facet.{Facet}
use Rattle.micro_num.specs.declared.unit.Unit.{Unit as LengthUnit}
use Rattle.stl_text.specs.declared.stl_fault.StlFault.{StlFault}
use Rattle.stl_text.specs.declared.stl_fault.StlFault.TheVariants.{Memory}
use Rattle.stl_text.specs.Text.{IsFaultOf, Reads}

-- the result for a text: its facets, its one fault, or out of memory
pub record IsAnswerTo {A : Type 0} (limit : ℕ) (unit : LengthUnit) (text : List ℕ) (result : Result (Vec Facet A) StlFault) : Type 0 where
  -- only facets of the text are returned
  pub found : IfOk result (λ facets. Reads limit unit text facets.items)
  -- if the text reads as facets, exactly these are returned, unless memory runs out
  pub only : (facets : List Facet) → Reads limit unit text facets
      → MatchResult result (λ found. found.items ≡ facets) (λ fault. fault ≡ Memory)
  -- a fault is the text's, unless memory runs out
  pub fault : IfErr result (λ fault. fault ≢ Memory → IsFaultOf limit unit text fault)
