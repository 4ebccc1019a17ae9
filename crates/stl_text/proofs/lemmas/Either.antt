-- Each text reads as facets or has a fault.
use Rattle.std.proofs.Common.{◌≡◌, ◌≢◌, ℕ, zero, suc, ◌+◌, ◌-◌, ◌<◌, ◌≤◌, Bool, true, false, cond, not, List, [], ◌∷◌, ◌++◌, length, take, drop, refl, sym, ◌∙◌, ap, subst, inl, inr, arith, ◌⊎◌, append_assoc, append-nil, length-append, length-drop}
use Rattle.std.specs.Prelude.{Option, Some, None, Ok, Err, Result, ℤ, pos, if◌then◌else◌, flat_map, nat_lt, ◌==◌}
use Rattle.std.specs.Str.{bytes_eq, str_to_ascii_lowercase}
use Rattle.std.specs.List.{before_first, position_or_len, prefix_len}
use Rattle.std.specs.Ordering.{int_eq}
use Rattle.std.proofs.lemmas.Bool.Decides.{Decides-int_eq}
use Rattle.std.proofs.lemmas.Bool.{lt-ltb, eqb-true, eqb-false}
use Rattle.std.proofs.lemmas.List.{take-append-drop}
use Rattle.std.proofs.Math.Numerals.{one-add}
use Rattle.std.proofs.lemmas.Grind.{flat_map-append}
use Rattle.std.proofs.lemmas.List.Sums.{sum_by-append}
use Rattle.stl_text.proofs.lemmas.OneFault.{facet_count-facets, facet_count-solids}
use Rattle.micro_num.specs.declared.unit.Unit.{Unit as LengthUnit}
use Rattle.micro_num.specs.declared.num_fault.NumFault.{NumFault}
use Rattle.micro_num.specs.Numeral.{from_first}
use Rattle.micro_num.specs.Micrometres.{coordinate_of}
use Rattle.stl_text.specs.declared.word.Word.{Word}
use Rattle.stl_text.specs.declared.word.Word.TheVariants.{Solid, FacetOrEnd, Vertex, Number}
use Rattle.stl_text.specs.declared.stl_fault.StlFault.{StlFault}
use Rattle.stl_text.specs.declared.stl_fault.StlFault.TheVariants as fault
use Rattle.geometry.specs.Point.{Point}
use Rattle.geometry.specs.Facet.{Facet, facet_with}
use Rattle.stl_text.specs.Text.{Token, keyword, normal_word, coordinate, rest_of_line, facet_word, end_word, facet_tokens, solid_tokens, is_keyword, is_text_of, is_wanted, is_read_as, is_facet_word, wanted, begins_with, after_token, rest_after, first_word, after_word, after_line, after_space, is_white, is_line_end, facets_of, Reads, Wants, IsFaultOf, keyword_of, keyword_text, facet_keyword, end_keyword, facet_count}
use Rattle.stl_text.proofs.lemmas.Determined.{Slot, fixed, any_word, any_coordinate, any_line, facet_slots}
use Rattle.stl_text.proofs.lemmas.OneReading.{then_on, rest-append}
use Rattle.stl_text.proofs.lemmas.Options.{some-is}
use Rattle.stl_text.specs.Stage.{open_solid}

-- The tokens that fill slots: coordinates are taken from a list in order, and are 0 when it is used up.

abbrev first_of : List ℤ → ℤ
first_of [] = pos 0
first_of (z ∷ zs) = z

abbrev others_of : List ℤ → List ℤ
others_of [] = []
others_of (z ∷ zs) = zs

abbrev token_of : Slot → List ℤ → Token
token_of (fixed w text) zs = keyword w text
token_of any_word zs = normal_word
token_of any_coordinate zs = coordinate (first_of zs)
token_of any_line zs = rest_of_line

abbrev left_by : Slot → List ℤ → List ℤ
left_by (fixed w text) zs = zs
left_by any_word zs = zs
left_by any_coordinate zs = others_of zs
left_by any_line zs = zs

abbrev fill : List Slot → List ℤ → List Token
fill [] zs = []
fill (slot ∷ slots) zs = token_of slot zs ∷ fill slots (left_by slot zs)

abbrev left_after : List Slot → List ℤ → List ℤ
left_after [] zs = zs
left_after (slot ∷ slots) zs = left_after slots (left_by slot zs)

fill-append : (slots more : List Slot) (zs : List ℤ) → fill (slots ++ more) zs ≡ fill slots zs ++ fill more (left_after slots zs)
fill-append [] more zs = refl
fill-append (slot ∷ slots) more zs = ap {B = List Token} (λ r. token_of slot zs ∷ r) (fill-append slots more (left_by slot zs))

abbrev from_three : List ℤ → Point
from_three zs = record { x = first_of zs; y = first_of (others_of zs); z = first_of (others_of (others_of zs)) }

abbrev after_three : List ℤ → List ℤ
after_three zs = others_of (others_of (others_of zs))

abbrev from_nine : List ℤ → Facet
from_nine zs = facet_with (from_three zs) (from_three (after_three zs)) (from_three (after_three (after_three zs)))

-- Scanning a text by slots, and what may stop a scan.

abbrev Fails : LengthUnit → Slot → List ℕ → Type 0
Fails unit (fixed w text) rest = is_keyword text (first_word rest) ≡ false
Fails unit any_word rest = first_word rest ≡ []
Fails unit any_coordinate rest = (cause : NumFault) × (coordinate_of unit (first_word rest) ≡ Err cause)
Fails unit any_line rest = ⊥

-- the keyword of a slot is the only one of its kind, and no `solid`
abbrev IsPlain : Slot → Type 0
IsPlain (fixed w text) = ((word : List ℕ) → is_text_of w word ≡ bytes_eq word text) × (w ≢ Solid) × (w ≢ Number)
IsPlain any_word = Unit {0}
IsPlain any_coordinate = Unit {0}
IsPlain any_line = Unit {0}

abbrev ArePlain : List Slot → Type 0
ArePlain [] = Unit {0}
ArePlain (slot ∷ slots) = IsPlain slot × ArePlain slots

record Stopped (unit : LengthUnit) (slots : List Slot) (bytes : List ℕ) : Type 0 where
  before : List Slot
  slot : Slot
  after : List Slot
  split : slots ≡ before ++ slot ∷ after
  values : List ℤ
  rest : List ℕ
  spelled : rest_after unit (fill before values) bytes ≡ Some rest
  fails : Fails unit slot rest
  plain : IsPlain slot

record Passed (unit : LengthUnit) (slots : List Slot) (bytes : List ℕ) : Type 0 where
  values : List ℤ
  rest : List ℕ
  spelled : rest_after unit (fill slots values) bytes ≡ Some rest

-- the list of values from which the slot takes z, if it takes one
put : Slot → ℤ → List ℤ → List ℤ
put (fixed w text) z zs = zs
put any_word z zs = zs
put any_coordinate z zs = z ∷ zs
put any_line z zs = zs

left-put : (slot : Slot) (z : ℤ) (zs : List ℤ) → left_by slot (put slot z zs) ≡ zs
unfolding put
left-put (fixed w text) z zs = refl
left-put any_word z zs = refl
left-put any_coordinate z zs = refl
left-put any_line z zs = refl

-- the text begins with a token of the slot, or the slot fails
one_slot : (unit : LengthUnit) (slot : Slot) (bytes : List ℕ)
    → ((z : ℤ) × ((zs : List ℤ) → begins_with unit (token_of slot (put slot z zs)) bytes ≡ true)) ⊎ Fails unit slot bytes
unfolding put
one_slot unit (fixed w text) bytes = by_test (is_keyword text (first_word bytes)) refl
  where
    by_test : (b : Bool) → is_keyword text (first_word bytes) ≡ b
        → ((z : ℤ) × ((zs : List ℤ) → is_keyword text (first_word bytes) ≡ true)) ⊎ (is_keyword text (first_word bytes) ≡ false)
    by_test true e = inl (pos 0, λ zs. e)
    by_test false e = inr e
one_slot unit any_word bytes = by_word (first_word bytes) refl
  where
    by_word : (word : List ℕ) → first_word bytes ≡ word
        → ((z : ℤ) × ((zs : List ℤ) → nat_lt 0 (length (first_word bytes)) ≡ true)) ⊎ (first_word bytes ≡ [])
    by_word [] e = inr e
    by_word (b ∷ bs) e = inl (pos 0, λ zs. ap (λ w. nat_lt 0 (length w)) e ∙ lt-ltb 0 (suc (length bs)) (omega arith))
one_slot unit any_coordinate bytes = by_answer (coordinate_of unit (first_word bytes)) refl
  where
    by_answer : (o : Result ℤ NumFault) → coordinate_of unit (first_word bytes) ≡ o
        → ((z : ℤ) × ((zs : List ℤ) → is_read_as z (first_word bytes) unit ≡ true)) ⊎ ((cause : NumFault) × (coordinate_of unit (first_word bytes) ≡ Err cause))
    by_answer (Ok z) e = inl (z, λ zs. ap (λ o. elim o [ Ok x ↦ int_eq x z | Err cause ↦ false ]) e ∙ (Decides-int_eq z z).1 refl)
    by_answer (Err cause) e = inr (cause, e)
one_slot unit any_line bytes = inl (pos 0, λ zs. refl)

-- the text after a slot does not depend on the slot's value
abbrev after_slot : Slot → List ℕ → List ℕ
after_slot any_line bytes = after_line bytes
after_slot (fixed w text) bytes = after_word bytes
after_slot any_word bytes = after_word bytes
after_slot any_coordinate bytes = after_word bytes

after-slot : (slot : Slot) (zs : List ℤ) (bytes : List ℕ) → after_token (token_of slot zs) bytes ≡ after_slot slot bytes
after-slot (fixed w text) zs bytes = refl
after-slot any_word zs bytes = refl
after-slot any_coordinate zs bytes = refl
after-slot any_line zs bytes = refl

-- a token of a first slot, and then those of the other slots
with_first : (unit : LengthUnit) (slot : Slot) (slots : List Slot) (z : ℤ) (values : List ℤ) (bytes rest : List ℕ)
    → begins_with unit (token_of slot (put slot z values)) bytes ≡ true
    → rest_after unit (fill slots values) (after_slot slot bytes) ≡ Some rest
    → rest_after unit (fill (slot ∷ slots) (put slot z values)) bytes ≡ Some rest
with_first unit slot slots z values bytes rest begins spelled =
    rw begins
    (ap (λ zs. rest_after unit (fill slots zs) (after_token (token_of slot (put slot z values)) bytes)) (left-put slot z values)
    ∙ ap (rest_after unit (fill slots values)) (after-slot slot (put slot z values) bytes)
    ∙ spelled)

scan : (unit : LengthUnit) (slots : List Slot) (bytes : List ℕ) → ArePlain slots → Passed unit slots bytes ⊎ Stopped unit slots bytes
scan unit [] bytes plain = inl (record { values = []; rest = bytes; spelled = refl })
scan unit (slot ∷ slots) bytes plain = by_slot (scan unit slots (after_slot slot bytes) plain.1) (one_slot unit slot bytes)
  where
    Begins : Type 0
    Begins = (z : ℤ) × ((zs : List ℤ) → begins_with unit (token_of slot (put slot z zs)) bytes ≡ true)

    by_slot : Passed unit slots (after_slot slot bytes) ⊎ Stopped unit slots (after_slot slot bytes) → Begins ⊎ Fails unit slot bytes
        → Passed unit (slot ∷ slots) bytes ⊎ Stopped unit (slot ∷ slots) bytes
    by_slot on (inr fails) =
        inr (record { before = []; slot = slot; after = slots; split = refl; values = []; rest = bytes; spelled = refl; fails = fails; plain = plain.0 })
    by_slot (inl on) (inl first) =
        inl (record {
          values = put slot first.0 on.values;
          rest = on.rest;
          spelled = with_first unit slot slots first.0 on.values bytes on.rest (first.1 on.values) on.spelled;
        })
    by_slot (inr on) (inl first) =
        inr (record {
          before = slot ∷ on.before;
          slot = on.slot;
          after = on.after;
          split = ap {B = List Slot} (λ r. slot ∷ r) on.split;
          values = put slot first.0 on.values;
          rest = on.rest;
          spelled = with_first unit slot on.before first.0 on.values bytes on.rest (first.1 on.values) on.spelled;
          fails = on.fails;
          plain = on.plain;
        })

-- The text after a token is never longer than the text.

from_first-le : (p : ℕ → Bool) (bytes : List ℕ) → length (from_first p bytes) ≤ length bytes
from_first-le p bytes =
    let left : length (drop (position_or_len p bytes) bytes) ≡ length bytes - position_or_len p bytes = length-drop (position_or_len p bytes) bytes in
    omega (arith, left)

pub after_space-le : (bytes : List ℕ) → length (after_space bytes) ≤ length bytes
after_space-le bytes =
    let left : length (drop (prefix_len is_white bytes) bytes) ≡ length bytes - prefix_len is_white bytes = length-drop (prefix_len is_white bytes) bytes in
    omega (arith, left)

word_length : (bytes : List ℕ) → length (first_word bytes) + length (after_word bytes) ≡ length (after_space bytes)
word_length bytes =
    let whole : first_word bytes ++ after_word bytes ≡ after_space bytes = take-append-drop (position_or_len is_white (after_space bytes)) (after_space bytes) in
    sym (length-append (first_word bytes) (after_word bytes)) ∙ ap length whole

after_word-le : (bytes : List ℕ) → length (after_word bytes) ≤ length bytes
after_word-le bytes = omega (arith, word_length bytes, after_space-le bytes)

pub after_word-lt : (bytes : List ℕ) → 0 < length (first_word bytes) → length (after_word bytes) < length bytes
after_word-lt bytes some = omega (arith, some, word_length bytes, after_space-le bytes)

after_line-le : (bytes : List ℕ) → length (after_line bytes) ≤ length bytes
after_line-le bytes = from_first-le is_line_end bytes

after_token-le : (p : Token) (bytes : List ℕ) → length (after_token p bytes) ≤ length bytes
after_token-le (keyword w text) bytes = after_word-le bytes
after_token-le normal_word bytes = after_word-le bytes
after_token-le (coordinate z) bytes = after_word-le bytes
after_token-le rest_of_line bytes = after_line-le bytes

pub rest-le : (unit : LengthUnit) (ps : List Token) (bytes rest : List ℕ) → rest_after unit ps bytes ≡ Some rest → length rest ≤ length bytes
rest-le unit [] bytes rest e = omega (arith, length_is e)
  where
    length_is : ◌≡◌ {A = Option (List ℕ)} (Some bytes) (Some rest) → length bytes ≡ length rest
    length_is h = let same : bytes ≡ rest = cc in ap length same
rest-le unit (p ∷ ps) bytes rest e =
    by_test (begins_with unit p bytes) (λ h. rest-le unit ps (after_token p bytes) rest h) e
  where
    by_test : (b : Bool) → (rest_after unit ps (after_token p bytes) ≡ Some rest → length rest ≤ length (after_token p bytes))
        → (if b then rest_after unit ps (after_token p bytes) else None) ≡ Some rest → length rest ≤ length bytes
    by_test true le h = omega (arith, le h, after_token-le p bytes)
    by_test false le h = cc

-- without a word there is only white space
pub no_word-space : (bytes : List ℕ) → first_word bytes ≡ [] → after_space bytes ≡ []
no_word-space bytes e = by_front (after_space bytes) refl (front_is bytes) e
  where
    Front : List ℕ → Type 0
    Front [] = Unit {0}
    Front (b ∷ bs) = is_white b ≡ false

    front_is : (bs : List ℕ) → Front (after_space bs)
    front_is [] = tt
    front_is (b ∷ bs) = at_head (front_is bs) (is_white b) refl
      where
        at_head : Front (after_space bs) → (w : Bool) → is_white b ≡ w → Front (after_space (b ∷ bs))
        at_head tail true white = rw white (rw one-add tail)
        at_head tail false clear = rw clear clear

    by_front : (bs : List ℕ) → after_space bytes ≡ bs → Front (after_space bytes) → first_word bytes ≡ [] → after_space bytes ≡ []
    by_front [] is front none = is
    by_front (a ∷ bs) is front none =
        let clear : is_white a ≡ false = subst Front is front in
        let word : before_first is_white (a ∷ bs) ≡ [] = ap (before_first is_white) (sym is) ∙ none in
        absurd (some_word a bs clear word)
      where
        some_word : (x : ℕ) (xs : List ℕ) → is_white x ≡ false → before_first is_white (x ∷ xs) ≡ [] → ⊥
        some_word x xs dark h =
            let P : Bool → Type 0 = λ w. take (cond (not w) (1 + position_or_len is_white xs) 0) (x ∷ xs) ≡ [] in
            let cut : P false = subst P dark h in
            let cut' : take (suc (position_or_len is_white xs)) (x ∷ xs) ≡ [] = ap (λ n. take n (x ∷ xs)) (sym one-add-is) ∙ cut in
            cc
          where
            one-add-is : 1 + position_or_len is_white xs ≡ suc (position_or_len is_white xs)
            one-add-is = one-add (position_or_len is_white xs)

-- The scan of a whole text.

abbrev pub end_tokens : List Token
end_tokens = end_word ∷ rest_of_line ∷ []

-- with one more solid, which is open
cut_open : (solids : List (List Facet)) (facets : List Facet)
    → flat_map solid_tokens (solids ++ facets ∷ []) ≡ flat_map solid_tokens solids ++ (open_solid facets ++ end_tokens)
cut_open solids facets =
    flat_map-append solid_tokens solids (facets ∷ [])
    ∙ ap (λ r. flat_map solid_tokens solids ++ r) (append-nil (solid_tokens facets))

-- cut before a token of the last facet
pub cut_facet : (solids : List (List Facet)) (facets : List Facet) (t : Facet) (front : List Token) (p : Token) (more : List Token)
    → facet_tokens t ≡ front ++ p ∷ more
    → flat_map solid_tokens (solids ++ (facets ++ t ∷ []) ∷ [])
    ≡ ((flat_map solid_tokens solids ++ open_solid facets) ++ front) ++ p ∷ (more ++ end_tokens)
cut_facet solids facets t front p more is =
    cut_open solids (facets ++ t ∷ [])
    ∙ ap (λ r. P ++ ((keyword_of Solid ∷ rest_of_line ∷ r) ++ end_tokens)) last
    ∙ ap (λ r. P ++ r) (append_assoc (open_solid facets) (front ++ p ∷ more) end_tokens)
    ∙ sym (append_assoc P (open_solid facets) ((front ++ p ∷ more) ++ end_tokens))
    ∙ ap (λ r. (P ++ open_solid facets) ++ r) (append_assoc front (p ∷ more) end_tokens)
    ∙ sym (append_assoc (P ++ open_solid facets) front (p ∷ (more ++ end_tokens)))
  where
    P : List Token
    P = flat_map solid_tokens solids

    last : flat_map facet_tokens (facets ++ t ∷ []) ≡ flat_map facet_tokens facets ++ (front ++ p ∷ more)
    last =
        flat_map-append facet_tokens facets (t ∷ [])
        ∙ ap (λ r. flat_map facet_tokens facets ++ r) (append-nil (facet_tokens t) ∙ is)

facets_of-open : (solids : List (List Facet)) (facets : List Facet)
    → length (facets_of (solids ++ facets ∷ [])) ≡ length (facets_of solids) + length facets
facets_of-open solids facets =
    ap length (flat_map-append (λ fs. fs) solids (facets ∷ []))
    ∙ length-append (facets_of solids) (facets ++ [])
    ∙ ap (λ r. length (facets_of solids) + length r) (append-nil facets)

pub facet_count-open : (solids : List (List Facet)) (facets : List Facet)
    → facet_count (flat_map solid_tokens solids ++ open_solid facets) ≡ length (facets_of solids) + length facets
facet_count-open solids facets =
    let f : Token → ℕ = λ x. cond (is_facet_word x) 1 0 in
    let split : facet_count (flat_map solid_tokens solids ++ open_solid facets) ≡ facet_count (flat_map solid_tokens solids) + facet_count (open_solid facets) =
    sum_by-append f (flat_map solid_tokens solids) (open_solid facets) in
    let inner : facet_count (open_solid facets) ≡ length facets = facet_count-facets facets in
    omega (arith, split, inner, facet_count-solids solids)

module _ (limit : ℕ) (unit : LengthUnit) (bytes : List ℕ) where
  abbrev pub Outcome : Type 0
  Outcome = ((facets : List Facet) × Reads limit unit bytes facets) ⊎ ((f : StlFault) × IsFaultOf limit unit bytes f)

  data Situation : Type 0 where
    closed : (solids : List (List Facet)) (rest : List ℕ) → rest_after unit (flat_map solid_tokens solids) bytes ≡ Some rest
        → length (facets_of solids) ≤ limit → Situation
    opened : (solids : List (List Facet)) (facets : List Facet) (rest : List ℕ)
        → rest_after unit (flat_map solid_tokens solids ++ open_solid facets) bytes ≡ Some rest
        → length (facets_of solids) + length facets ≤ limit → Situation

  abbrev rest_of : Situation → List ℕ
  rest_of (closed solids rest spelled few) = rest
  rest_of (opened solids facets rest spelled few) = rest

  wants : (solids : List (List Facet)) (front : List Token) (token : Token) (more : List Token) (rest : List ℕ) (at : ℕ) (word : List ℕ)
      → flat_map solid_tokens solids ≡ front ++ token ∷ more → facet_count front ≤ limit → rest_after unit front bytes ≡ Some rest
      → at + length (after_space rest) ≡ length bytes → word ≡ first_word rest → Wants limit unit bytes at token (facet_count front) word
  wants solids front token more rest at word cut few spelled offset stands =
      record {
        solids = solids;
        front = front;
        more = more;
        cut = cut;
        count = refl;
        few = few;
        rest = rest;
        spelled = spelled;
        offset = offset;
        stands = stands;
      }

  wants_at : (solids : List (List Facet)) (front : List Token) (token : Token) (more : List Token) (rest : List ℕ)
      → flat_map solid_tokens solids ≡ front ++ token ∷ more → facet_count front ≤ limit → rest_after unit front bytes ≡ Some rest
      → Wants limit unit bytes (length bytes - length (after_space rest)) token (facet_count front) (first_word rest)
  wants_at solids front token more rest cut few spelled =
      wants solids front token more rest (length bytes - length (after_space rest)) (first_word rest) cut few spelled
      (omega (arith, after_space-le rest, rest-le unit front bytes rest spelled)) refl

  ended : (solids : List (List Facet)) (front : List Token) (token : Token) (more : List Token) (rest : List ℕ) (kind : Word)
      → flat_map solid_tokens solids ≡ front ++ token ∷ more → facet_count front ≤ limit → rest_after unit front bytes ≡ Some rest
      → first_word rest ≡ [] → wanted token ≡ Some kind → (kind ≡ Solid → after_space bytes ≡ []) → Outcome
  ended solids front token more rest kind cut few spelled none kind_is no_solid =
      let at_end : length (after_space rest) ≡ 0 = ap length (no_word-space rest none) in
      inr (
        fault.Ended kind,
        record {
          token = token;
          facets_before = facet_count front;
          wants = wants solids front token more rest (length bytes) [] cut few spelled (omega (arith, at_end)) (sym none);
          kind_is = kind_is;
          no_solid = no_solid;
        },
      )

  unexpected : (solids : List (List Facet)) (front : List Token) (token : Token) (more : List Token) (rest : List ℕ) (kind : Word)
      → flat_map solid_tokens solids ≡ front ++ token ∷ more → facet_count front ≤ limit → rest_after unit front bytes ≡ Some rest
      → 0 < length (first_word rest) → wanted token ≡ Some kind → kind ≢ Number → is_wanted kind (first_word rest) ≡ false → Outcome
  unexpected solids front token more rest kind cut few spelled some kind_is no_number other =
      inr (
        fault.Expected kind (length bytes - length (after_space rest)),
        record {
          token = token;
          facets_before = facet_count front;
          word = first_word rest;
          wants = wants_at solids front token more rest cut few spelled;
          kind_is = kind_is;
          keyword_wanted = no_number;
          stands = some;
          other = other;
        },
      )

  -- a stopped scan is a fault
  stopped : (solids : List (List Facet)) (front : List Token) (slot : Slot) (zs : List ℤ) (more : List Token) (rest : List ℕ)
      → flat_map solid_tokens solids ≡ front ++ token_of slot zs ∷ more → facet_count front ≤ limit → rest_after unit front bytes ≡ Some rest
      → Fails unit slot rest → IsPlain slot → Outcome
  stopped solids front (fixed w text) zs more rest cut few spelled fails plain = by_word (first_word rest) refl
    where
      by_word : (word : List ℕ) → first_word rest ≡ word → Outcome
      by_word [] e = ended solids front (keyword w text) more rest w cut few spelled e refl (λ h. absurd (plain.1 h))
      by_word (b ∷ bs) e =
          let some : length (first_word rest) ≡ suc (length bs) = ap length e in
          unexpected solids front (keyword w text) more rest w cut few spelled (omega (arith, some)) refl plain.2
          (plain.0 (str_to_ascii_lowercase (first_word rest)) ∙ fails)
  stopped solids front any_word zs more rest cut few spelled fails plain =
      ended solids front normal_word more rest Number cut few spelled fails refl (λ h. cc)
  stopped solids front any_coordinate zs more rest cut few spelled fails plain = by_word (first_word rest) refl
    where
      by_word : (word : List ℕ) → first_word rest ≡ word → Outcome
      by_word [] e = ended solids front (coordinate (first_of zs)) more rest Number cut few spelled e refl (λ h. cc)
      by_word (b ∷ bs) e =
          let some : length (first_word rest) ≡ suc (length bs) = ap length e in
          inr (
            fault.Number fails.0 (length bytes - length (after_space rest)),
            record {
              z = first_of zs;
              facets_before = facet_count front;
              word = first_word rest;
              wants = wants_at solids front (coordinate (first_of zs)) more rest cut few spelled;
              stands = omega (arith, some);
              refused = fails.1;
            },
          )
  stopped solids front any_line zs more rest cut few spelled fails plain = absurd fails

  -- an outcome, or a situation with less of the text left
  abbrev Step : Situation → Type 0
  Step s = Outcome ⊎ ((next : Situation) × (length (rest_of next) < length (rest_of s)))

  at_end : (solids : List (List Facet)) (rest : List ℕ) → rest_after unit (flat_map solid_tokens solids) bytes ≡ Some rest
      → length (facets_of solids) ≤ limit → first_word rest ≡ [] → Outcome
  at_end [] rest spelled few none =
      let whole : bytes ≡ rest = some-is spelled in
      ended ([] ∷ []) [] (keyword_of Solid) (rest_of_line ∷ end_tokens) rest Solid refl (omega arith) spelled none refl
      (λ _. no_word-space bytes (ap first_word whole ∙ none))
  at_end (facets ∷ solids) rest spelled few none =
      inl (
        facets_of (facets ∷ solids),
        record
            { solids = facets ∷ solids; some = omega arith; each = refl; few = few; rest = rest; spelled = spelled; whole = no_word-space rest none },
      )

  -- the text continues after a front of solids
  on_after : (front more : List Token) (rest last : List ℕ) → rest_after unit front bytes ≡ Some rest
      → rest_after unit more rest ≡ Some last → rest_after unit (front ++ more) bytes ≡ Some last
  on_after front more rest last spelled on =
      rest-append unit front more bytes ∙ ap (λ o. then_on o (λ r. rest_after unit more r)) spelled ∙ on

  few_solids : (solids : List (List Facet)) → length (facets_of solids) ≤ limit → facet_count (flat_map solid_tokens solids) ≤ limit
  few_solids solids few = omega (arith, facet_count-solids solids, few)

  step_closed : (solids : List (List Facet)) (rest : List ℕ) (spelled : rest_after unit (flat_map solid_tokens solids) bytes ≡ Some rest)
      (few : length (facets_of solids) ≤ limit) → Step (closed solids rest spelled few)
  step_closed solids rest spelled few = by_word (first_word rest) refl
    where
      solid_word : Token
      solid_word = keyword_of Solid

      next_rest : List ℕ
      next_rest = after_line (after_word rest)

      by_test : 0 < length (first_word rest) → (b : Bool) → is_keyword (keyword_text Solid) (first_word rest) ≡ b → Step (closed solids rest spelled few)
      by_test some true h =
          let on : rest_after unit (solid_word ∷ rest_of_line ∷ []) rest ≡ Some next_rest = rw h refl in
          inr (
            opened solids [] next_rest (on_after (flat_map solid_tokens solids) (open_solid []) rest next_rest spelled on) (omega (arith, few)),
            omega (arith, after_line-le (after_word rest), after_word-lt rest some),
          )
      by_test some false h =
          inl (unexpected (solids ++ [] ∷ []) (flat_map solid_tokens solids) solid_word (rest_of_line ∷ end_tokens) rest Solid
          (cut_open solids []) (few_solids solids few) spelled some refl (λ e. cc) h)

      by_word : (word : List ℕ) → first_word rest ≡ word → Step (closed solids rest spelled few)
      by_word [] e = inl (at_end solids rest spelled few e)
      by_word (b ∷ bs) e =
          let some : length (first_word rest) ≡ suc (length bs) = ap length e in
          by_test (omega (arith, some)) (is_keyword (keyword_text Solid) (first_word rest)) refl

  abbrev zero_triangle : Facet
  zero_triangle = from_nine []

  plain_facet : ArePlain facet_slots
  plain_facet = (
    (λ w. refl, λ e. cc, λ e. cc),
    (
      tt,
      (
        tt,
        (
          tt,
          (
            (λ w. refl, λ e. cc, λ e. cc),
            (
              (λ w. refl, λ e. cc, λ e. cc),
              (
                vertex,
                (
                  tt,
                  (
                    tt,
                    (
                      tt,
                      (
                        vertex,
                        (
                          tt,
                          (
                            tt,
                            (
                              tt,
                              (
                                vertex,
                                (
                                  tt,
                                  (
                                    tt,
                                    (
                                      tt,
                                      ((λ w. refl, λ e. cc, λ e. cc), ((λ w. refl, λ e. cc, λ e. cc), tt)),
                                    ),
                                  ),
                                ),
                              ),
                            ),
                          ),
                        ),
                      ),
                    ),
                  ),
                ),
              ),
            ),
          ),
        ),
      ),
    ),
  )
    where
      vertex : IsPlain (fixed Vertex (keyword_text Vertex))
      vertex = (λ w. refl, λ e. cc, λ e. cc)

  step_opened : (solids : List (List Facet)) (facets : List Facet) (rest : List ℕ)
      (spelled : rest_after unit (flat_map solid_tokens solids ++ open_solid facets) bytes ≡ Some rest)
      (few : length (facets_of solids) + length facets ≤ limit) → Step (opened solids facets rest spelled few)
  step_opened solids facets rest spelled few = by_word (first_word rest) refl
    where
      P : List Token
      P = flat_map solid_tokens solids

      front : List Token
      front = P ++ open_solid facets

      cut_end : flat_map solid_tokens (solids ++ facets ∷ []) ≡ front ++ end_tokens
      cut_end = cut_open solids facets ∙ sym (append_assoc P (open_solid facets) end_tokens)

      few_front : facet_count front ≤ limit
      few_front = omega (arith, facet_count-open solids facets, few)

      Here : Type 0
      Here = Step (opened solids facets rest spelled few)

      by_scan : 0 < length (first_word rest) → length (facets_of solids) + length facets ≢ limit → is_keyword facet_keyword (first_word rest) ≡ true
          → Passed unit facet_slots (after_word rest) ⊎ Stopped unit facet_slots (after_word rest) → Here
      by_scan some room h (inl on) =
          let t : Facet = from_nine on.values in
          let whole : flat_map facet_tokens (facets ++ t ∷ []) ≡ flat_map facet_tokens facets ++ facet_tokens t =
          flat_map-append facet_tokens facets (t ∷ []) ∙ ap (λ r. flat_map facet_tokens facets ++ r) (append-nil (facet_tokens t)) in
          let read : rest_after unit (facet_word ∷ fill facet_slots on.values) rest ≡ Some on.rest = rw h on.spelled in
          let longer : rest_after unit (P ++ open_solid (facets ++ t ∷ [])) bytes ≡ Some on.rest =
          ap (λ r. rest_after unit (P ++ (keyword_of Solid ∷ rest_of_line ∷ r)) bytes) whole
          ∙ ap (λ ps. rest_after unit ps bytes) (sym (append_assoc P (open_solid facets) (facet_tokens t)))
          ∙ on_after front (facet_word ∷ fill facet_slots on.values) rest on.rest spelled read in
          let more : length (facets ++ t ∷ []) ≡ length facets + 1 = length-append facets (t ∷ []) in
          inr (
            opened solids (facets ++ t ∷ []) on.rest longer (omega (arith, few, room, more)),
            omega (arith, rest-le unit (fill facet_slots on.values) (after_word rest) on.rest on.spelled, after_word-lt rest some),
          )
      by_scan some room h (inr stop) =
          let before : List Token = fill stop.before stop.values in
          let left : List ℤ = left_after stop.before stop.values in
          let tokens : facet_tokens (from_nine stop.values) ≡ (facet_word ∷ before) ++ fill (stop.slot ∷ stop.after) left =
          ap (λ s. facet_word ∷ fill s stop.values) stop.split
          ∙ ap {B = List Token} (λ r. facet_word ∷ r) (fill-append stop.before (stop.slot ∷ stop.after) stop.values) in
          let f : Token → ℕ = λ x. cond (is_facet_word x) 1 0 in
          let split : facet_count (front ++ (facet_word ∷ before)) ≡ facet_count front + facet_count (facet_word ∷ before) = sum_by-append f front (facet_word ∷ before) in
          let parts : facet_count (facet_tokens (from_nine stop.values)) ≡ facet_count (facet_word ∷ before) + facet_count (fill (stop.slot ∷ stop.after) left) =
          ap facet_count tokens ∙ sum_by-append f (facet_word ∷ before) (fill (stop.slot ∷ stop.after) left) in
          let one : facet_count (facet_tokens (from_nine stop.values)) ≡ 1 = refl in
          let read : rest_after unit (facet_word ∷ before) rest ≡ Some stop.rest = rw h stop.spelled in
          inl (stopped (solids ++ (facets ++ from_nine stop.values ∷ []) ∷ []) (front ++ (facet_word ∷ before)) stop.slot left
          (fill stop.after (left_by stop.slot left) ++ end_tokens) stop.rest
          (cut_facet solids facets (from_nine stop.values) (facet_word ∷ before) (token_of stop.slot left) (fill stop.after (left_by stop.slot left)) tokens)
          (omega (arith, split, parts, one, facet_count-open solids facets, few, room))
          (on_after front (facet_word ∷ before) rest stop.rest spelled read)
          stop.fails stop.plain)

      by_room : 0 < length (first_word rest) → is_keyword facet_keyword (first_word rest) ≡ true
          → (b : Bool) → (length (facets_of solids) + length facets == limit) ≡ b → Here
      by_room some h true full =
          let limit_is : facet_count front ≡ limit = facet_count-open solids facets ∙ eqb-true _ limit full in
          inl (inr (
            fault.TooMany (length bytes - length (after_space rest)),
            record {
              word = first_word rest;
              wants = subst (λ n. Wants limit unit bytes (length bytes - length (after_space rest)) facet_word n (first_word rest)) limit_is
                  (wants_at (solids ++ (facets ++ zero_triangle ∷ []) ∷ []) front facet_word (fill facet_slots [] ++ end_tokens) rest
                  (cut_facet solids facets zero_triangle [] facet_word (fill facet_slots []) refl
                  ∙ ap (λ r. r ++ (facet_word ∷ (fill facet_slots [] ++ end_tokens))) (append-nil front))
                  few_front spelled);
              facet = h;
            },
          ))
      by_room some h false room = by_scan some (eqb-false _ limit room) h (scan unit facet_slots (after_word rest) plain_facet)

      by_end : 0 < length (first_word rest) → is_keyword facet_keyword (first_word rest) ≡ false
          → (b : Bool) → is_keyword end_keyword (first_word rest) ≡ b → Here
      by_end some no_facet true h =
          let next_rest : List ℕ = after_line (after_word rest) in
          let on : rest_after unit end_tokens rest ≡ Some next_rest = rw h refl in
          inr (
            closed (solids ++ facets ∷ []) next_rest
                (ap (λ ps. rest_after unit ps bytes) cut_end ∙ on_after front end_tokens rest next_rest spelled on)
                (omega (arith, facets_of-open solids facets, few)),
            omega (arith, after_line-le (after_word rest), after_word-lt rest some),
          )
      by_end some no_facet false h =
          inl (unexpected (solids ++ facets ∷ []) front end_word (rest_of_line ∷ []) rest FacetOrEnd cut_end few_front spelled some refl (λ e. cc)
          (rw no_facet h))

      by_test : 0 < length (first_word rest) → (b : Bool) → is_keyword facet_keyword (first_word rest) ≡ b → Here
      by_test some true h = by_room some h (length (facets_of solids) + length facets == limit) refl
      by_test some false h = by_end some h (is_keyword end_keyword (first_word rest)) refl

      by_word : (word : List ℕ) → first_word rest ≡ word → Here
      by_word [] e =
          inl (ended (solids ++ facets ∷ []) front end_word (rest_of_line ∷ []) rest FacetOrEnd cut_end few_front spelled e refl (λ h. cc))
      by_word (b ∷ bs) e =
          let some : length (first_word rest) ≡ suc (length bs) = ap length e in
          by_test (omega (arith, some)) (is_keyword facet_keyword (first_word rest)) refl

  step : (s : Situation) → Step s
  step (closed solids rest spelled few) = step_closed solids rest spelled few
  step (opened solids facets rest spelled few) = step_opened solids facets rest spelled few

  outcome_from : (fuel : ℕ) (s : Situation) → length (rest_of s) < fuel → Outcome
  outcome_from zero s enough = absurd (omega (arith, enough))
  outcome_from (suc fuel) s enough = by_step (λ next h. outcome_from fuel next h) (step s)
    where
      by_step : ((next : Situation) → length (rest_of next) < fuel → Outcome) → Step s → Outcome
      by_step go (inl outcome) = outcome
      by_step go (inr on) = go on.0 (omega (arith, on.1, enough))

  -- each text reads as facets or has a fault
  pub outcome : Outcome
  outcome = outcome_from (length bytes + 1) (closed [] bytes refl (omega arith)) (omega arith)
