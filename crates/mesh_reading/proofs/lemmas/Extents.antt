-- The extent of facets that come after others.
use Rattle.std.proofs.Common.{◌≡◌, ◌∙◌, ◌≤◌, ◌+◌, ℕ, List, ◌++◌, Option, ap, length, length-append, arith}
use Rattle.geometry.specs.Point.{Point}
use Rattle.geometry.specs.Facet.{Facet}
use Rattle.geometry.specs.BoundingBox.{extent}
use Rattle.geometry.specs.declared.limits.TheConstants.{FACET_LIMIT}
use Rattle.mesh_reading.specs.declared.extent.Extent.{Extent}
use Rattle.mesh_reading.specs.Extent.{IsExtentOf, extent_of}

abbrev made : ℕ → Option (Point × Point) → Extent
made count corners = record { count = count; corners = corners }

pub grown-extent : (earlier more : List Facet) (old : Extent) (count : ℕ) (corners : Option (Point × Point)) → IsExtentOf earlier old
    → (old.count + length more ≤ FACET_LIMIT → count ≡ old.count + length more)
    → (old.corners ≡ extent earlier → corners ≡ extent (earlier ++ more)) → IsExtentOf (earlier ++ more) (made count corners)
grown-extent earlier more old count corners is count_is corners_are few =
    let long : length (earlier ++ more) ≡ length earlier + length more = length-append earlier more in
    let before : old ≡ extent_of earlier = is (omega (arith, few, long)) in
    let all : old.count ≡ length earlier = ap (λ (e : Extent). e.count) before in
    ap (λ n. made n corners) (omega (arith, count_is (omega (arith, few, long, all)), long, all))
    ∙ ap (λ k. made (length (earlier ++ more)) k) (corners_are (ap (λ (e : Extent). e.corners) before))
