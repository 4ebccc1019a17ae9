-- The front of a word decides what the word stands for: no keyword and no number is that long.
use Rattle.std.proofs.Common.{◌≡◌, ◌⊎◌, inl, inr, ℕ, ◌+◌, ◌-◌, ◌<◌, ◌≤◌, Bool, true, false, List, [], ◌++◌, length, min, take, refl, sym, ◌∙◌, ap, subst, arith, append-nil}
use Rattle.std.specs.Prelude.{Err}
use Rattle.std.specs.Char.{to_ascii_lowercase}
use Rattle.std.specs.Str.{str_to_ascii_lowercase}
use Rattle.std.proofs.Math.Seq.{take-append-add}
use Rattle.std.proofs.lemmas.Bool.{cases_lt, lt-ltb}
use Rattle.std.proofs.lemmas.List.{length-map, length-take-le, take-append-le, take-take, take_all}
use Rattle.std.proofs.lemmas.Slice.Eq.{bytes_eq-Decides}
use Rattle.exact_int.proofs.lemmas.Lists.{nil-of-length}
use Rattle.micro_num.specs.declared.limits.TheConstants.{WORD_LIMIT}
use Rattle.micro_num.specs.declared.num_fault.NumFault.TheVariants.{TooLong}
use Rattle.micro_num.specs.declared.unit.Unit.{Unit as LengthUnit}
use Rattle.micro_num.specs.Micrometres.{coordinate_of}
use Rattle.stl_text.specs.declared.word.TheConstants.{WORD_FRONT}
use Rattle.stl_text.specs.Text.{is_keyword}
use Rattle.stl_text.specs.Stage.{word_front}

-- the front of a short word is the word
front_whole : (word : List ℕ) → length word ≤ WORD_FRONT → word_front word ≡ word
front_whole word few = take_all WORD_FRONT word few

front_full : (word : List ℕ) → WORD_FRONT ≤ length word → length (word_front word) ≡ WORD_FRONT
front_full word many = length-take-le WORD_FRONT word many

pub front_twice : (word : List ℕ) → word_front (word_front word) ≡ word_front word
front_twice word = take-take WORD_FRONT WORD_FRONT word (omega arith)

pub front_some : (word : List ℕ) → 0 < length word → 0 < length (word_front word)
front_some word some = by_length (cases_lt (length word) WORD_FRONT)
  where
    by_length : (length word < WORD_FRONT) ⊎ (WORD_FRONT ≤ length word) → 0 < length (word_front word)
    by_length (inl few) = subst (λ w. 0 < length w) (sym (front_whole word (omega (arith, few)))) some
    by_length (inr many) = omega (arith, front_full word many)

pub word_some : (word : List ℕ) → 0 < length (word_front word) → 0 < length word
word_some word some = by_length (cases_lt (length word) WORD_FRONT)
  where
    by_length : (length word < WORD_FRONT) ⊎ (WORD_FRONT ≤ length word) → 0 < length word
    by_length (inl few) = subst (λ w. 0 < length w) (front_whole word (omega (arith, few))) some
    by_length (inr many) = omega (arith, many)

-- no front is kept of no word alone
pub no_word : (word held : List ℕ) → held ≡ word_front word → held ≡ [] → word ≡ []
no_word word held is none = by_length (cases_lt 0 (length word))
  where
    by_length : (0 < length word) ⊎ (length word ≤ 0) → word ≡ []
    by_length (inl some) = absurd (omega (arith, front_some word some, ap length (sym is ∙ none)))
    by_length (inr few) = nil-of-length word (omega (arith, few))

-- a front that goes on with some bytes, as many as it lacks
pub front_on : (word held bytes front : List ℕ) (n : ℕ) → held ≡ word_front word → n ≡ min (WORD_FRONT - length held) (length bytes)
    → front ≡ take n bytes → held ++ front ≡ word_front (word ++ bytes)
front_on word held bytes front n held_is n_is front_is = by_length (cases_lt (length word) WORD_FRONT)
  where
    -- as many as are lacking, or all
    taken : (room : ℕ) → room ≡ WORD_FRONT - length held → front ≡ take room bytes
    taken room room_is = front_is ∙ by_room (cases_lt (length bytes) room)
      where
        by_room : (length bytes < room) ⊎ (room ≤ length bytes) → take n bytes ≡ take room bytes
        by_room (inl few) = take_all n bytes (omega (arith, n_is, room_is, few)) ∙ sym (take_all room bytes (omega (arith, few)))
        by_room (inr many) =
            let same : n ≡ room = omega (arith, n_is, room_is, many) in
            ap (λ k. take k bytes) same

    by_length : (length word < WORD_FRONT) ⊎ (WORD_FRONT ≤ length word) → held ++ front ≡ word_front (word ++ bytes)
    by_length (inl few) =
        let whole : held ≡ word = held_is ∙ front_whole word (omega (arith, few)) in
        let room : ℕ = WORD_FRONT - length word in
        let all : length word + room ≡ WORD_FRONT = omega (arith, few) in
        ap (λ h. h ++ front) whole ∙ ap (λ f. word ++ f) (taken room (omega (arith, ap length whole)))
        ∙ sym (take-append-add word bytes room) ∙ ap (λ k. take k (word ++ bytes)) all
    by_length (inr many) =
        let size : length held ≡ WORD_FRONT = ap length held_is ∙ front_full word many in
        ap (λ f. held ++ f) (taken 0 (omega (arith, size))) ∙ append-nil held ∙ held_is ∙ sym (take-append-le WORD_FRONT word bytes many)

-- Keywords.

longer_keyword : (text word : List ℕ) → length text < length word → is_keyword text word ≡ false
longer_keyword text word more = by_test (is_keyword text word) refl
  where
    by_test : (b : Bool) → is_keyword text word ≡ b → is_keyword text word ≡ false
    by_test true is =
        let same : str_to_ascii_lowercase word ≡ text = (bytes_eq-Decides (str_to_ascii_lowercase word) text).0 is in
        let size : length word ≡ length text = sym (length-map word to_ascii_lowercase) ∙ ap length same in
        absurd (omega (arith, more, size))
    by_test false is = is

front_keyword : (text word : List ℕ) → length text < WORD_FRONT → is_keyword text (word_front word) ≡ is_keyword text word
front_keyword text word short = by_length (cases_lt (length word) WORD_FRONT)
  where
    by_length : (length word < WORD_FRONT) ⊎ (WORD_FRONT ≤ length word) → is_keyword text (word_front word) ≡ is_keyword text word
    by_length (inl few) = ap (is_keyword text) (front_whole word (omega (arith, few)))
    by_length (inr many) =
        longer_keyword text (word_front word) (omega (arith, short, front_full word many))
        ∙ sym (longer_keyword text word (omega (arith, short, many)))

pub same_keyword : (text word other : List ℕ) → length text < WORD_FRONT → word_front word ≡ word_front other
    → is_keyword text word ≡ is_keyword text other
same_keyword text word other short same =
    sym (front_keyword text word short) ∙ ap (is_keyword text) same ∙ front_keyword text other short

-- Numbers.

too_long : (unit : LengthUnit) (word : List ℕ) → WORD_LIMIT < length word → coordinate_of unit word ≡ Err TooLong
too_long unit word more = rw (lt-ltb WORD_LIMIT (length word) more) refl

front_number : (unit : LengthUnit) (word : List ℕ) → coordinate_of unit (word_front word) ≡ coordinate_of unit word
front_number unit word = by_length (cases_lt (length word) WORD_FRONT)
  where
    by_length : (length word < WORD_FRONT) ⊎ (WORD_FRONT ≤ length word) → coordinate_of unit (word_front word) ≡ coordinate_of unit word
    by_length (inl few) = ap (coordinate_of unit) (front_whole word (omega (arith, few)))
    by_length (inr many) =
        too_long unit (word_front word) (omega (arith, front_full word many)) ∙ sym (too_long unit word (omega (arith, many)))

pub same_number : (unit : LengthUnit) (word other : List ℕ) → word_front word ≡ word_front other → coordinate_of unit word ≡ coordinate_of unit other
same_number unit word other same = sym (front_number unit word) ∙ ap (coordinate_of unit) same ∙ front_number unit other

-- a word with the front of another one is not empty if that one is not
pub same_some : (word other : List ℕ) → word_front word ≡ word_front other → 0 < length other → 0 < length word
same_some word other same some = word_some word (subst (λ w. 0 < length w) (sym same) (front_some other some))
