-- Facets by the numbers of their corners are the facets themselves, if the numbers lead to the corners.
use Rattle.std.proofs.Common.{◌≡◌, ℕ, ◌<◌, ◌∷◌, [], true, List, length, get_or, map, refl, sym, ◌∙◌, subst, arith}
use Rattle.std.specs.List.{All, flat_map}
use Rattle.std.proofs.lemmas.List.{get_or_default}
use Rattle.std.proofs.lemmas.List.Elements.{All-cons, All-tail}
use Rattle.geometry.specs.Point.{Point}
use Rattle.geometry.specs.Facet.{Facet, corners}
use Rattle.mesh_weld.specs.Welder.{AreBelow}
use Rattle.mesh_weld.specs.Solid.{facet_by, facets_by, number_of, triples, vertices}
use Rattle.mesh_weld.proofs.lemmas.InOrder.{is_in, in_order-members, is_in-from_contains}
use Rattle.mesh_weld.proofs.lemmas.Transfer.{number_found}

-- facets by points that have all of their corners
module _ (ps : List Point) where
  abbrev AreThere : List Point → Type 0
  AreThere cs = All (λ p. is_in p ps ≡ true) cs

  there_next : (t : Facet) (ts : List Facet) → AreThere (flat_map corners (t ∷ ts)) → AreThere (flat_map corners ts)
  there_next t ts h =
      All-tail (λ p. is_in p ps ≡ true) t.c (flat_map corners ts)
      (All-tail (λ p. is_in p ps ≡ true) t.b (t.c ∷ flat_map corners ts) (All-tail (λ p. is_in p ps ≡ true) t.a (t.b ∷ t.c ∷ flat_map corners ts) h))

  facet_back : (t : Facet) → AreThere (corners t) → facet_by ps (map (number_of ps) (corners t)) ≡ t
  facet_back t h =
      let a = number_found t.a ps (h 0 t.a (omega arith)) in let b = number_found t.b ps (h 1 t.b (omega arith)) in let c = number_found t.c ps (h 2 t.c (omega arith)) in
      λ i. record { a = a.1 i; b = b.1 i; c = c.1 i }

  own_there : (t : Facet) (ts : List Facet) → AreThere (flat_map corners (t ∷ ts)) → AreThere (corners t)
  own_there t ts h =
      All-cons (λ p. is_in p ps ≡ true) t.a (t.b ∷ t.c ∷ []) (h 0 t.a (omega arith))
      (All-cons (λ p. is_in p ps ≡ true) t.b (t.c ∷ []) (h 1 t.b (omega arith)) (All-cons (λ p. is_in p ps ≡ true) t.c [] (h 2 t.c (omega arith)) (λ k d l. absurd (omega (arith, l)))))

  pub facets_back : (fs : List Facet) → AreThere (flat_map corners fs) → facets_by ps (map (λ t. map (number_of ps) (corners t)) fs) ≡ fs
  facets_back [] h = refl
  facets_back (t ∷ ts) h = λ i. facet_back t (own_there t ts h) i ∷ facets_back ts (there_next t ts h) i

  pub numbers_below : (fs : List Facet) → AreThere (flat_map corners fs) → AreBelow ps (map (λ t. map (number_of ps) (corners t)) fs)
  numbers_below [] h = λ k d l. absurd (omega (arith, l))
  numbers_below (t ∷ ts) h =
      let own = own_there t ts h in
      let a = number_found t.a ps (own 0 t.a (omega arith)) in let b = number_found t.b ps (own 1 t.b (omega arith)) in let c = number_found t.c ps (own 2 t.c (omega arith)) in
      All-cons (All (λ n. n < length ps)) (map (number_of ps) (corners t)) (map (λ u. map (number_of ps) (corners u)) ts)
      (All-cons (λ n. n < length ps) (number_of ps t.a) (number_of ps t.b ∷ number_of ps t.c ∷ []) a.0
      (All-cons (λ n. n < length ps) (number_of ps t.b) (number_of ps t.c ∷ []) b.0
      (All-cons (λ n. n < length ps) (number_of ps t.c) [] c.0 (λ k d l. absurd (omega (arith, l))))))
      (numbers_below ts (there_next t ts h))

corners_there : (fs : List Facet) → All (λ p. is_in p (vertices fs) ≡ true) (flat_map corners fs)
corners_there fs k d l =
    let cs : List Point = flat_map corners fs in
    in_order-members (get_or cs k d) cs ∙ is_in-from_contains cs (get_or cs k d) (k, l, get_or_default cs k (get_or cs k d) d l)

pub facets_again : (fs : List Facet) → facets_by (vertices fs) (triples fs) ≡ fs
facets_again fs = facets_back (vertices fs) fs (corners_there fs)

triples_below : (fs : List Facet) → AreBelow (vertices fs) (triples fs)
triples_below fs = numbers_below (vertices fs) fs (corners_there fs)

-- what is numbered leads to its points
module _ (fs : List Facet) (points : List Point) (numbers : List (List ℕ)) (points_are : points ≡ vertices fs) (numbers_are : numbers ≡ triples fs) where
  pub numbered_again : facets_by points numbers ≡ fs
  numbered_again = (λ i. facets_by (points_are i) (numbers_are i)) ∙ facets_again fs

  pub numbered_below : AreBelow points numbers
  numbered_below = subst (λ l. AreBelow points l) (sym numbers_are) (subst (λ l. AreBelow l (triples fs)) (sym points_are) (triples_below fs))
