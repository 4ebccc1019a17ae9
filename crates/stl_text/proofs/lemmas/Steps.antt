-- Reading tokens one after another: a whole reading, or its fault, from those of the parts.
use Rattle.std.proofs.Common.{◌≡◌, ◌≢◌, ℕ, Bool, true, false, ◌<◌, List, [], ◌∷◌, ◌++◌, length, refl, ◌∙◌, ap, subst, arith}
use Rattle.std.specs.Prelude.{FitsSigned, Option, Some, None, Ok, Err, Result, ℤ, nat_lt, ◌==◌, if◌then◌else◌}
use Rattle.micro_num.specs.declared.unit.Unit.{Unit as LengthUnit}
use Rattle.micro_num.specs.declared.num_fault.NumFault.{NumFault}
use Rattle.micro_num.specs.declared.num_fault.NumFault.TheVariants.{TooLong, OutOfRange}
use Rattle.geometry.specs.Point.{Point}
use Rattle.exact_int.specs.Bounds.{IsAtMost}
use Rattle.exact_int.proofs.lemmas.Sizes.{back_of}
use Rattle.micro_num.specs.Numeral.{Numeral, numeral_of}
use Rattle.micro_num.specs.Micrometres.{coordinate_of, numeral_coordinate, is_coordinate, micro}
use Rattle.stl_text.specs.declared.word.Word.{Word}
use Rattle.stl_text.specs.declared.word.TheConstants.{WORD_FRONT}
use Rattle.stl_text.specs.declared.word.Word.TheVariants.{Solid, FacetOrEnd, Normal, Outer, Loop, Vertex, Number, EndLoop, EndFacet}
use Rattle.stl_text.specs.Text.{Token, coordinate, is_keyword, is_wanted, keyword_text, HasOneKeyword, rest_after}
use Rattle.stl_text.specs.Reader.{Reader, Spells}
use Rattle.std.proofs.lemmas.Bool.{eqb-true, leb-true}
use Rattle.std.proofs.Common.{to_z, of_z, w32}
use Rattle.std.proofs.lemmas.Int.{to_z-of_z}
use Rattle.stl_text.proofs.lemmas.OneReading.{then_on, rest-append}
use Rattle.geometry.specs.declared.limits.TheConstants.{COORDINATE_LIMIT}
use Rattle.micro_num.specs.declared.limits.TheConstants.{WORD_LIMIT}

pub spelled-append : (unit : LengthUnit) (ps qs : List Token) (bytes rest last : List ℕ) → rest_after unit ps bytes ≡ Some rest
    → rest_after unit qs rest ≡ Some last → rest_after unit (ps ++ qs) bytes ≡ Some last
spelled-append unit ps qs bytes rest last spelled on =
    rest-append unit ps qs bytes ∙ ap (λ o. then_on o (λ r. rest_after unit qs r)) spelled ∙ on

pub spells_then : (ps qs : List Token) {old mid new : Reader} → Spells ps old mid → Spells qs mid new → Spells (ps ++ qs) old new
spells_then ps qs {old} {mid} {new} first last =
    let on : rest_after old.unit qs mid.rest ≡ Some new.rest = subst (λ u. rest_after u qs mid.rest ≡ Some new.rest) first.same_unit last.spelled in
    record {
      spelled = spelled-append old.unit ps qs old.rest mid.rest new.rest first.spelled on;
      same_unit = last.same_unit ∙ first.same_unit;
    }

-- the three coordinates of a point, which fit its type
pub point_spelled : (x y z : ℤ) {r0 r1 r2 r3 : Reader} {p : Point} → Spells (coordinate x ∷ []) r0 r1 → Spells (coordinate y ∷ []) r1 r2
    → Spells (coordinate z ∷ []) r2 r3 → FitsSigned w32 x → FitsSigned w32 y → FitsSigned w32 z
    → p ≡ record { x = to_z w32 (of_z w32 x); y = to_z w32 (of_z w32 y); z = to_z w32 (of_z w32 z) }
    → Spells (coordinate p.x ∷ coordinate p.y ∷ coordinate p.z ∷ []) r0 r3
point_spelled x y z at_x at_y at_z x_fits y_fits z_fits is =
    rw is
    (simp to_z-of_z
    (spells_then (coordinate x ∷ coordinate y ∷ []) (coordinate z ∷ []) (spells_then (coordinate x ∷ []) (coordinate y ∷ []) at_x at_y) at_z))

-- only one keyword fits this kind of word, and it is short
pub record NamesKeyword (kind : Word) : Type 0 where
  pub no_number : kind ≢ Number
  pub short : length (keyword_text kind) < WORD_FRONT
  pub only : (word : List ℕ) → is_wanted kind word ≡ is_keyword (keyword_text kind) word

pub names_keyword : (kind : Word) → HasOneKeyword kind → NamesKeyword kind
names_keyword Solid one = record { no_number = λ h. cc; short = omega arith; only = λ word. refl }
names_keyword FacetOrEnd one = absurd (omega (arith, one))
names_keyword Normal one = record { no_number = λ h. cc; short = omega arith; only = λ word. refl }
names_keyword Outer one = record { no_number = λ h. cc; short = omega arith; only = λ word. refl }
names_keyword Loop one = record { no_number = λ h. cc; short = omega arith; only = λ word. refl }
names_keyword Vertex one = record { no_number = λ h. cc; short = omega arith; only = λ word. refl }
names_keyword Number one = absurd (omega (arith, one))
names_keyword EndLoop one = record { no_number = λ h. cc; short = omega arith; only = λ word. refl }
names_keyword EndFacet one = record { no_number = λ h. cc; short = omega arith; only = λ word. refl }

-- a coordinate is in range
coordinate-within : (unit : LengthUnit) (word : List ℕ) (z : ℤ) → coordinate_of unit word ≡ Ok z → IsAtMost COORDINATE_LIMIT z
coordinate-within unit word z e = by_length (nat_lt WORD_LIMIT (length word)) e
  where
    by_range : (x : ℤ) (b : Bool) → is_coordinate x ≡ b → ◌≡◌ {A = Result ℤ NumFault} (if b then Ok x else Err OutOfRange) (Ok z) → IsAtMost COORDINATE_LIMIT z
    by_range x true within h =
        let same : x ≡ z = cc in
        subst (IsAtMost COORDINATE_LIMIT) same (record { at_most = leb-true _ _ within })
    by_range x false within h = cc

    by_numeral : (n : Option Numeral) → numeral_coordinate unit n ≡ Ok z → IsAtMost COORDINATE_LIMIT z
    by_numeral None h = cc
    by_numeral (Some n) h = by_range (micro unit n) (is_coordinate (micro unit n)) refl h

    by_length : (b : Bool) → (if b then Err TooLong else numeral_coordinate unit (numeral_of word)) ≡ Ok z → IsAtMost COORDINATE_LIMIT z
    by_length true h = cc
    by_length false h = by_numeral (numeral_of word) h

-- the same for the number in the bits of its type
pub coordinate-within-bits : (unit : LengthUnit) (word : List ℕ) (z : ℤ) → coordinate_of unit word ≡ Ok z → IsAtMost COORDINATE_LIMIT (to_z w32 (of_z w32 z))
coordinate-within-bits unit word z e =
    let within : IsAtMost COORDINATE_LIMIT z = coordinate-within unit word z e in
    record { at_most = omega (arith, back_of w32 z, within.at_most) }

pub empty-list : {A : Type 0} (xs : List A) → (length xs == 0) ≡ true → xs ≡ []
empty-list [] h = refl
empty-list (x ∷ xs) h = absurd (omega (arith, eqb-true _ _ h))

pub some-items : {A : Type 0} (xs : List A) (b : Bool) → b ≡ (length xs == 0) → b ≡ false → 0 < length xs
some-items [] b is h = cc
some-items (x ∷ xs) b is h = omega arith
