-- The tokens of a text are determined: of two fronts of solids that a text begins with, one is a prefix of the other.
use Rattle.std.proofs.Common.{◌≡◌, ℕ, Bool, true, false, ◌&&◌, List, [], ◌∷◌, ◌++◌, length, refl, sym, ◌∙◌, ap, subst, inl, inr, arith, ◌⊎◌, append_assoc}
use Rattle.std.specs.Prelude.{Option, Some, None, Ok, Err, Result, ℤ, ◌==◌, if◌then◌else◌, flat_map, slice_index_or}
use Rattle.std.specs.Str.{bytes_eq}
use Rattle.std.specs.Ordering.{int_eq}
use Rattle.std.proofs.lemmas.Slice.Eq.{bytes_eq-Decides}
use Rattle.std.proofs.lemmas.Bool.{and_parts, eqb-true}
use Rattle.std.proofs.lemmas.Bool.Decides.{Decides-int_eq}
use Rattle.micro_num.specs.declared.unit.Unit.{Unit as LengthUnit}
use Rattle.micro_num.specs.declared.num_fault.NumFault.{NumFault}
use Rattle.micro_num.specs.Micrometres.{coordinate_of}
use Rattle.stl_text.specs.declared.word.Word.{Word}
use Rattle.stl_text.specs.declared.word.Word.TheVariants.{Solid, FacetOrEnd, Normal, Outer, Loop, Vertex, Number, EndLoop, EndFacet}
use Rattle.geometry.specs.Facet.{Facet}
use Rattle.stl_text.specs.Text.{Token, keyword, normal_word, coordinate, rest_of_line, end_word, facet_tokens, solid_tokens, is_keyword, is_read_as, begins_with, after_token, rest_after, first_word, keyword_text, facet_keyword, end_keyword}
use Rattle.stl_text.proofs.lemmas.Options.{some-is}

-- Slots are tokens without their values: a keyword, a word of a normal, a coordinate, a rest of a line.
pub data Slot : Type 0 where
  fixed : Word → List ℕ → Slot
  any_word : Slot
  any_coordinate : Slot
  any_line : Slot

abbrev pub word_code : Word → ℕ
word_code Solid = 0
word_code FacetOrEnd = 1
word_code Normal = 2
word_code Outer = 3
word_code Loop = 4
word_code Vertex = 5
word_code Number = 6
word_code EndLoop = 7
word_code EndFacet = 8

abbrev pub word_at : ℕ → Word
word_at n = slice_index_or (Solid ∷ FacetOrEnd ∷ Normal ∷ Outer ∷ Loop ∷ Vertex ∷ Number ∷ EndLoop ∷ EndFacet ∷ []) n Solid

pub word_at-code : (w : Word) → word_at (word_code w) ≡ w
word_at-code Solid = refl
word_at-code FacetOrEnd = refl
word_at-code Normal = refl
word_at-code Outer = refl
word_at-code Loop = refl
word_at-code Vertex = refl
word_at-code Number = refl
word_at-code EndLoop = refl
word_at-code EndFacet = refl

word_same : (v w : Word) → (word_code v == word_code w) ≡ true → v ≡ w
word_same v w h = sym (word_at-code v) ∙ ap word_at (eqb-true _ _ h) ∙ word_at-code w

abbrev pub matches : Slot → Token → Bool
matches (fixed w text) (keyword w' text') = (word_code w == word_code w') && bytes_eq text text'
matches (fixed w text) normal_word = false
matches (fixed w text) (coordinate z) = false
matches (fixed w text) rest_of_line = false
matches any_word (keyword w' text') = false
matches any_word normal_word = true
matches any_word (coordinate z) = false
matches any_word rest_of_line = false
matches any_coordinate (keyword w' text') = false
matches any_coordinate normal_word = false
matches any_coordinate (coordinate z) = true
matches any_coordinate rest_of_line = false
matches any_line (keyword w' text') = false
matches any_line normal_word = false
matches any_line (coordinate z) = false
matches any_line rest_of_line = true

abbrev IsShape : Slot → Token → Type 0
IsShape (fixed w text) p = p ≡ keyword w text
IsShape any_word p = p ≡ normal_word
IsShape any_coordinate p = (z : ℤ) × (p ≡ coordinate z)
IsShape any_line p = p ≡ rest_of_line

pub shape-is : (slot : Slot) (p : Token) → matches slot p ≡ true → IsShape slot p
shape-is (fixed w text) (keyword w' text') h =
    let parts : ((word_code w == word_code w') ≡ true) × (bytes_eq text text' ≡ true) = and_parts _ _ h in
    let word_is : w' ≡ w = sym (word_same w w' parts.0) in
    let text_is : text' ≡ text = sym ((bytes_eq-Decides text text').0 parts.1) in
    λ i. keyword (word_is i) (text_is i)
shape-is (fixed w text) normal_word h = cc
shape-is (fixed w text) (coordinate z) h = cc
shape-is (fixed w text) rest_of_line h = cc
shape-is any_word (keyword w' text') h = cc
shape-is any_word normal_word h = refl
shape-is any_word (coordinate z) h = cc
shape-is any_word rest_of_line h = cc
shape-is any_coordinate (keyword w' text') h = cc
shape-is any_coordinate normal_word h = cc
shape-is any_coordinate (coordinate z) h = (z, refl)
shape-is any_coordinate rest_of_line h = cc
shape-is any_line (keyword w' text') h = cc
shape-is any_line normal_word h = cc
shape-is any_line (coordinate z) h = cc
shape-is any_line rest_of_line h = refl

-- a word that is read as a coordinate
pub read-is : (unit : LengthUnit) (word : List ℕ) (z : ℤ) → is_read_as z word unit ≡ true → coordinate_of unit word ≡ Ok z
read-is unit word z h = by_answer (coordinate_of unit word) refl h
  where
    by_answer : (o : Result ℤ NumFault) → coordinate_of unit word ≡ o
        → (elim o [ Ok x ↦ int_eq x z | Err cause ↦ false ]) ≡ true → coordinate_of unit word ≡ Ok z
    by_answer (Ok x) is e = is ∙ ap {B = Result ℤ NumFault} Ok ((Decides-int_eq x z).0 e)
    by_answer (Err cause) is e = cc

-- a text begins with at most one token that fits a slot
same_token : (unit : LengthUnit) (bytes : List ℕ) (slot : Slot) (p q : Token) → matches slot p ≡ true → matches slot q ≡ true
    → begins_with unit p bytes ≡ true → begins_with unit q bytes ≡ true → p ≡ q
same_token unit bytes (fixed w text) p q h k _ _ = shape-is (fixed w text) p h ∙ sym (shape-is (fixed w text) q k)
same_token unit bytes any_word p q h k _ _ = shape-is any_word p h ∙ sym (shape-is any_word q k)
same_token unit bytes any_line p q h k _ _ = shape-is any_line p h ∙ sym (shape-is any_line q k)
same_token unit bytes any_coordinate p q h k begins begins' =
    let a : (z : ℤ) × (p ≡ coordinate z) = shape-is any_coordinate p h in
    let b : (z : ℤ) × (q ≡ coordinate z) = shape-is any_coordinate q k in
    let read : coordinate_of unit (first_word bytes) ≡ Ok a.0 =
    read-is unit (first_word bytes) a.0 (subst (λ x. begins_with unit x bytes ≡ true) a.1 begins) in
    let read' : coordinate_of unit (first_word bytes) ≡ Ok b.0 =
    read-is unit (first_word bytes) b.0 (subst (λ x. begins_with unit x bytes ≡ true) b.1 begins') in
    let same_value : ◌≡◌ {A = Result ℤ NumFault} (Ok a.0) (Ok b.0) = sym read ∙ read' in
    let same_number : a.0 ≡ b.0 = cc in
    a.1 ∙ ap coordinate same_number ∙ sym b.1

-- States of the grammar: the slots that must come next, and whether a solid is open after them.

abbrev pub solid_slot : Slot
solid_slot = fixed Solid (keyword_text Solid)

abbrev pub facet_slot : Slot
facet_slot = fixed FacetOrEnd facet_keyword

abbrev pub end_slot : Slot
end_slot = fixed FacetOrEnd end_keyword

abbrev vertex_slots : List Slot
vertex_slots = fixed Vertex (keyword_text Vertex) ∷ any_coordinate ∷ any_coordinate ∷ any_coordinate ∷ []

abbrev pub facet_slots : List Slot
facet_slots =
    (fixed Normal (keyword_text Normal) ∷ any_word ∷ any_word ∷ any_word ∷ [])
    ++ (fixed Outer (keyword_text Outer) ∷ fixed Loop (keyword_text Loop) ∷ []) ++ vertex_slots ++ vertex_slots ++ vertex_slots
    ++ fixed EndLoop (keyword_text EndLoop) ∷ fixed EndFacet (keyword_text EndFacet) ∷ []

pub record State : Type 0 where
  pub slots : List Slot
  pub is_open : Bool

abbrev pub outside : State
outside = record { slots = []; is_open = false }

abbrev inside : State
inside = record { slots = []; is_open = true }

abbrev pub next_in : List Slot → Bool → Token → Option State
next_in [] false p = if matches solid_slot p then Some (record { slots = any_line ∷ []; is_open = true }) else None
next_in [] true p =
    if matches facet_slot p then Some (record { slots = facet_slots; is_open = true })
    else (if matches end_slot p then Some (record { slots = any_line ∷ []; is_open = false }) else None)
next_in (slot ∷ slots) is_open p = if matches slot p then Some (record { slots = slots; is_open = is_open }) else None

abbrev pub next : State → Token → Option State
next state p = next_in state.slots state.is_open p

abbrev pub then_at : Option State → (State → Option State) → Option State
then_at None f = None
then_at (Some state) f = f state

abbrev pub run : State → List Token → Option State
run state [] = Some state
run state (p ∷ ps) = then_at (next state p) (λ after. run after ps)

pub run-append : (state : State) (ps qs : List Token) → run state (ps ++ qs) ≡ then_at (run state ps) (λ after. run after qs)
run-append state [] qs = refl
run-append state (p ∷ ps) qs = by_next (λ after. run-append after ps qs) (next state p)
  where
    by_next : ((after : State) → run after (ps ++ qs) ≡ then_at (run after ps) (λ later. run later qs))
        → (o : Option State) → then_at o (λ after. run after (ps ++ qs)) ≡ then_at (then_at o (λ after. run after ps)) (λ later. run later qs)
    by_next rest None = refl
    by_next rest (Some after) = rest after

-- The tokens of solids are a run from outside a solid to outside.

facet-run : (t : Facet) (rest : List Token) → run inside (facet_tokens t ++ rest) ≡ run inside rest
facet-run t rest = refl

facets-run : (facets : List Facet) (rest : List Token) → run inside (flat_map facet_tokens facets ++ rest) ≡ run inside rest
facets-run [] rest = refl
facets-run (t ∷ facets) rest =
    ap (run inside) (append_assoc (facet_tokens t) (flat_map facet_tokens facets) rest)
    ∙ facet-run t (flat_map facet_tokens facets ++ rest)
    ∙ facets-run facets rest

solid-run : (facets : List Facet) (rest : List Token) → run outside (solid_tokens facets ++ rest) ≡ run outside rest
solid-run facets rest =
    ap (run inside) (append_assoc (flat_map facet_tokens facets) (end_word ∷ rest_of_line ∷ []) rest)
    ∙ facets-run facets (end_word ∷ rest_of_line ∷ rest)

pub solids-run : (solids : List (List Facet)) → run outside (flat_map solid_tokens solids) ≡ Some outside
solids-run [] = refl
solids-run (facets ∷ solids) = solid-run facets (flat_map solid_tokens solids) ∙ solids-run solids

-- which branch a test took
pub passed : {A : Type 0} (b : Bool) (x : A) (y : Option A) (t : A) → (if b then Some x else y) ≡ Some t
    → ((b ≡ true) × (x ≡ t)) ⊎ ((b ≡ false) × (y ≡ Some t))
passed true x y t h = let same_value : x ≡ t = cc in inl (refl, same_value)
passed false x y t h = inr (refl, h)

pub only : {A : Type 0} (b : Bool) (x : A) (t : A) → (if b then Some x else None) ≡ Some t → (b ≡ true) × (x ≡ t)
only true x t h = let same_value : x ≡ t = cc in (refl, same_value)
only false x t h = cc

-- a text that begins with one keyword begins with no other
keyword_once : (text text' word : List ℕ) → is_keyword text word ≡ true → is_keyword text' word ≡ true → text ≡ text'
keyword_once text text' word h k = sym ((bytes_eq-Decides _ text).0 h) ∙ (bytes_eq-Decides _ text').0 k

facet-or-end : (word : List ℕ) → is_keyword facet_keyword word ≡ true → is_keyword end_keyword word ≡ true → ⊥
facet-or-end word h k =
    let same_length : 5 ≡ 8 = ap {A = List ℕ} length (keyword_once facet_keyword end_keyword word h k) in
    omega (arith, same_length)

-- a text begins with at most one token that the grammar permits next
same_next_in : (unit : LengthUnit) (bytes : List ℕ) (slots : List Slot) (is_open : Bool) (p q : Token) (t u : State)
    → next_in slots is_open p ≡ Some t → next_in slots is_open q ≡ Some u
    → begins_with unit p bytes ≡ true → begins_with unit q bytes ≡ true → p ≡ q
same_next_in unit bytes (slot ∷ slots) is_open p q t u h k begins begins' =
    same_token unit bytes slot p q (only _ _ t h).0 (only _ _ u k).0 begins begins'
same_next_in unit bytes [] false p q t u h k begins begins' =
    same_token unit bytes solid_slot p q (only _ _ t h).0 (only _ _ u k).0 begins begins'
same_next_in unit bytes [] true p q t u h k begins begins' = by_choice (passed _ _ _ t h) (passed _ _ _ u k)
  where
    word : List ℕ
    word = first_word bytes

    as_facet : (x : Token) → matches facet_slot x ≡ true → begins_with unit x bytes ≡ true → is_keyword facet_keyword word ≡ true
    as_facet x m b = subst (λ y. begins_with unit y bytes ≡ true) (shape-is facet_slot x m) b

    as_end : (x : Token) → matches end_slot x ≡ true → begins_with unit x bytes ≡ true → is_keyword end_keyword word ≡ true
    as_end x m b = subst (λ y. begins_with unit y bytes ≡ true) (shape-is end_slot x m) b

    Facet : Token → State → Type 0
    Facet x v = (matches facet_slot x ≡ true) × (record { slots = facet_slots; is_open = true } ≡ v)

    End : Token → State → Type 0
    End x v = (matches facet_slot x ≡ false) × ((if matches end_slot x then Some (record { slots = any_line ∷ []; is_open = false }) else None) ≡ Some v)

    by_choice : Facet p t ⊎ End p t → Facet q u ⊎ End q u → p ≡ q
    by_choice (inl a) (inl b) = same_token unit bytes facet_slot p q a.0 b.0 begins begins'
    by_choice (inl a) (inr b) =
        absurd (facet-or-end word (as_facet p a.0 begins) (as_end q (only _ _ u b.1).0 begins'))
    by_choice (inr a) (inl b) =
        absurd (facet-or-end word (as_facet q b.0 begins') (as_end p (only _ _ t a.1).0 begins))
    by_choice (inr a) (inr b) = same_token unit bytes end_slot p q (only _ _ t a.1).0 (only _ _ u b.1).0 begins begins'

pub then-some : (o : Option State) (f : State → Option State) (t : State) → then_at o f ≡ Some t
    → (after : State) × (o ≡ Some after) × (f after ≡ Some t)
then-some None f t h = cc
then-some (Some after) f t h = (after, refl, h)

-- one list is a prefix of the other
pub data Prefixes (ps qs : List Token) : Type 0 where
  longer : (more : List Token) → qs ≡ ps ++ more → Prefixes ps qs
  shorter : (p : Token) (more : List Token) → ps ≡ qs ++ p ∷ more → Prefixes ps qs

with_head : (p : Token) (ps qs : List Token) → Prefixes ps qs → Prefixes (p ∷ ps) (p ∷ qs)
with_head p ps qs (longer more is) = longer more (ap {B = List Token} (λ r. p ∷ r) is)
with_head p ps qs (shorter q more is) = shorter q more (ap {B = List Token} (λ r. p ∷ r) is)

pub agree : (unit : LengthUnit) (state : State) (bytes : List ℕ) (ps qs : List Token) (s t : State) (rest rest' : List ℕ)
    → run state ps ≡ Some s → run state qs ≡ Some t
    → rest_after unit ps bytes ≡ Some rest → rest_after unit qs bytes ≡ Some rest' → Prefixes ps qs
agree unit state bytes [] qs s t rest rest' h k spelled spelled' = longer qs refl
agree unit state bytes (p ∷ ps) [] s t rest rest' h k spelled spelled' = shorter p ps refl
agree unit state bytes (p ∷ ps) (q ∷ qs) s t rest rest' h k spelled spelled' =
    let a : (after : State) × (next state p ≡ Some after) × (run after ps ≡ Some s) = then-some _ _ s h in
    let b : (after : State) × (next state q ≡ Some after) × (run after qs ≡ Some t) = then-some _ _ t k in
    let c : (begins_with unit p bytes ≡ true) × (rest_after unit ps (after_token p bytes) ≡ Some rest) = first_begins _ _ rest spelled in
    let d : (begins_with unit q bytes ≡ true) × (rest_after unit qs (after_token q bytes) ≡ Some rest') = first_begins _ _ rest' spelled' in
    let same : p ≡ q = same_next_in unit bytes state.slots state.is_open p q a.0 b.0 a.1 b.1 c.0 d.0 in
    let same_after : a.0 ≡ b.0 = some-is (sym a.1 ∙ ap (next state) same ∙ b.1) in
    subst (λ x. Prefixes (p ∷ ps) (x ∷ qs)) same
    (with_head p ps qs
    (agree unit a.0 (after_token p bytes) ps qs s t rest rest' a.2
    (subst (λ x. run x qs ≡ Some t) (sym same_after) b.2)
    c.1
    (subst (λ x. rest_after unit qs (after_token x bytes) ≡ Some rest') (sym same) d.1)))
  where
    first_begins : (b : Bool) (o : Option (List ℕ)) (r : List ℕ) → (if b then o else None) ≡ Some r → (b ≡ true) × (o ≡ Some r)
    first_begins true o r e = (refl, e)
    first_begins false o r e = cc
