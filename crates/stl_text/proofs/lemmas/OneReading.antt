-- A text reads as at most one list of facets.
use Rattle.std.proofs.Common.{◌≡◌, ℕ, Bool, true, false, List, [], ◌∷◌, ◌++◌, refl, sym, ◌∙◌, ap, subst, append_assoc, append-nil}
use Rattle.std.specs.Prelude.{Option, Some, None, ℤ, if◌then◌else◌, flat_map}
use Rattle.std.specs.List.{before_first}
use Rattle.std.proofs.lemmas.Grind.{flat_map-append}
use Rattle.micro_num.specs.declared.unit.Unit.{Unit as LengthUnit}
use Rattle.geometry.specs.Point.{Point}
use Rattle.geometry.specs.Facet.{Facet}
use Rattle.stl_text.specs.declared.word.Word.TheVariants.{Solid}
use Rattle.stl_text.specs.Text.{Token, keyword, keyword_of, normal_word, coordinate, rest_of_line, facet_tokens, solid_tokens, is_keyword, begins_with, after_token, rest_after, first_word, after_space, is_white, end_word, facets_of, Reads, keyword_text}
use Rattle.stl_text.proofs.lemmas.Determined.{State, Prefixes, Prefixes.longer, Prefixes.shorter, outside, next, run, run-append, then-some, then_at, only, shape-is, solid_slot, solids-run, agree}

-- The rest of a text after tokens, and after further tokens.

abbrev pub then_on : Option (List ℕ) → (List ℕ → Option (List ℕ)) → Option (List ℕ)
then_on None f = None
then_on (Some bytes) f = f bytes

pub rest-append : (unit : LengthUnit) (ps qs : List Token) (bytes : List ℕ)
    → rest_after unit (ps ++ qs) bytes ≡ then_on (rest_after unit ps bytes) (λ rest. rest_after unit qs rest)
rest-append unit [] qs bytes = refl
rest-append unit (p ∷ ps) qs bytes = by_test (begins_with unit p bytes) (rest-append unit ps qs (after_token p bytes))
  where
    by_test : (b : Bool) → rest_after unit (ps ++ qs) (after_token p bytes) ≡ then_on (rest_after unit ps (after_token p bytes)) (λ rest. rest_after unit qs rest)
        → (if b then rest_after unit (ps ++ qs) (after_token p bytes) else None)
        ≡ then_on (if b then rest_after unit ps (after_token p bytes) else None) (λ rest. rest_after unit qs rest)
    by_test true e = e
    by_test false e = refl

-- a token that the text continues with, and that the grammar permits next
pub record GoesOn (unit : LengthUnit) (state : State) (p : Token) (rest : List ℕ) : Type 0 where
  pub after : State
  pub permitted : next state p ≡ Some after
  pub begins : begins_with unit p rest ≡ true

pub goes_on : (unit : LengthUnit) (bytes : List ℕ) (front : List Token) (p : Token) (more : List Token) (state end : State) (rest last : List ℕ)
    → run outside front ≡ Some state → rest_after unit front bytes ≡ Some rest
    → run outside (front ++ p ∷ more) ≡ Some end → rest_after unit (front ++ p ∷ more) bytes ≡ Some last → GoesOn unit state p rest
goes_on unit bytes front p more state end rest last ran spelled ran_on spelled_on =
    let on : run state (p ∷ more) ≡ Some end =
    ap (λ o. then_at o (λ after. run after (p ∷ more))) (sym ran) ∙ sym (run-append outside front (p ∷ more)) ∙ ran_on in
    let text_on : rest_after unit (p ∷ more) rest ≡ Some last =
    ap (λ o. then_on o (λ bs. rest_after unit (p ∷ more) bs)) (sym spelled) ∙ sym (rest-append unit front (p ∷ more) bytes) ∙ spelled_on in
    let step : (after : State) × (next state p ≡ Some after) × (run after more ≡ Some end) = then-some _ _ end on in
    record { after = step.0; permitted = step.1; begins = tested _ _ text_on }
  where
    tested : (b : Bool) (o : Option (List ℕ)) → (if b then o else None) ≡ Some last → b ≡ true
    tested true o e = refl
    tested false o e = cc

-- if only white space is left, there is no word
pub ended_word : (after : List ℕ) → after_space after ≡ [] → first_word after ≡ []
ended_word after e = ap (before_first is_white) e

-- after the last word no solid begins
pub nothing_more : (unit : LengthUnit) (p : Token) (rest : List ℕ) → after_space rest ≡ [] → GoesOn unit outside p rest → ⊥
nothing_more unit p rest ended on =
    let solid : p ≡ keyword_of Solid = shape-is solid_slot p (only _ _ on.after on.permitted).0 in
    let begins : is_keyword (keyword_text Solid) (first_word rest) ≡ true = subst (λ x. begins_with unit x rest ≡ true) solid on.begins in
    let P : List ℕ → Type 0 = λ bs. is_keyword (keyword_text Solid) (before_first is_white bs) ≡ true in
    let none : P [] = subst P ended begins in
    cc

-- The facets are determined by the tokens.

abbrev numbers_in : List Token → List ℤ
numbers_in [] = []
numbers_in (keyword kind text ∷ ps) = numbers_in ps
numbers_in (normal_word ∷ ps) = numbers_in ps
numbers_in (coordinate z ∷ ps) = z ∷ numbers_in ps
numbers_in (rest_of_line ∷ ps) = numbers_in ps

abbrev three : Point → List ℤ
three p = p.x ∷ p.y ∷ p.z ∷ []

abbrev nine : Facet → List ℤ
nine t = three t.a ++ three t.b ++ three t.c

numbers_in-facets : (facets : List Facet) (rest : List Token)
    → numbers_in (flat_map facet_tokens facets ++ rest) ≡ flat_map nine facets ++ numbers_in rest
numbers_in-facets [] rest = refl
numbers_in-facets (t ∷ facets) rest =
    ap numbers_in (append_assoc (facet_tokens t) (flat_map facet_tokens facets) rest)
    ∙ ap (λ r. nine t ++ r) (numbers_in-facets facets rest)
    ∙ sym (append_assoc (nine t) (flat_map nine facets) (numbers_in rest))

numbers_in-solids : (solids : List (List Facet)) → numbers_in (flat_map solid_tokens solids) ≡ flat_map nine (facets_of solids)
numbers_in-solids [] = refl
numbers_in-solids (facets ∷ solids) =
    ap numbers_in (append_assoc (flat_map facet_tokens facets) (end_word ∷ rest_of_line ∷ []) (flat_map solid_tokens solids))
    ∙ numbers_in-facets facets (end_word ∷ rest_of_line ∷ flat_map solid_tokens solids)
    ∙ ap (λ r. flat_map nine facets ++ r) (numbers_in-solids solids)
    ∙ sym (flat_map-append nine facets (facets_of solids))

nine-injective : (facets others : List Facet) → flat_map nine facets ≡ flat_map nine others → facets ≡ others
nine-injective [] [] h = refl
nine-injective [] (u ∷ others) h = cc
nine-injective (t ∷ facets) [] h = cc
nine-injective (t ∷ facets) (u ∷ others) h =
    let ax : t.a.x ≡ u.a.x = cc in
    let ay : t.a.y ≡ u.a.y = cc in
    let az : t.a.z ≡ u.a.z = cc in
    let bx : t.b.x ≡ u.b.x = cc in
    let by : t.b.y ≡ u.b.y = cc in
    let bz : t.b.z ≡ u.b.z = cc in
    let cx : t.c.x ≡ u.c.x = cc in
    let cy : t.c.y ≡ u.c.y = cc in
    let cz : t.c.z ≡ u.c.z = cc in
    let rest : flat_map nine facets ≡ flat_map nine others = cc in
    λ i. record {
      a = record { x = ax i; y = ay i; z = az i };
      b = record { x = bx i; y = by i; z = bz i };
      c = record { x = cx i; y = cy i; z = cz i };
    } ∷ nine-injective facets others rest i

same_tokens : (solids others : List (List Facet)) → flat_map solid_tokens solids ≡ flat_map solid_tokens others
    → facets_of solids ≡ facets_of others
same_tokens solids others same =
    nine-injective _ _ (sym (numbers_in-solids solids) ∙ ap numbers_in same ∙ numbers_in-solids others)

-- a text reads as at most one list of facets
pub one_reading : (limit : ℕ) (unit : LengthUnit) (bytes : List ℕ) (facets others : List Facet)
    → Reads limit unit bytes facets → Reads limit unit bytes others → facets ≡ others
one_reading limit unit bytes facets others r s =
    r.each ∙ same_tokens r.solids s.solids (same (agree unit outside bytes _ _ outside outside r.rest s.rest
    (solids-run r.solids) (solids-run s.solids) r.spelled s.spelled)) ∙ sym s.each
  where
    same : Prefixes (flat_map solid_tokens r.solids) (flat_map solid_tokens s.solids) → flat_map solid_tokens r.solids ≡ flat_map solid_tokens s.solids
    same (longer [] is) = sym (append-nil _) ∙ sym is
    same (longer (p ∷ more) is) =
        absurd (nothing_more unit p r.rest r.whole
        (goes_on unit bytes (flat_map solid_tokens r.solids) p more outside outside r.rest s.rest (solids-run r.solids) r.spelled
        (ap (run outside) (sym is) ∙ solids-run s.solids)
        (ap (λ ps. rest_after unit ps bytes) (sym is) ∙ s.spelled)))
    same (shorter p more is) =
        absurd (nothing_more unit p s.rest s.whole
        (goes_on unit bytes (flat_map solid_tokens s.solids) p more outside outside s.rest r.rest (solids-run s.solids) s.spelled
        (ap (run outside) (sym is) ∙ solids-run r.solids)
        (ap (λ ps. rest_after unit ps bytes) (sym is) ∙ r.spelled)))
