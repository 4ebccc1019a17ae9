-- Facets that are written as a text are read back.
use Rattle.std.proofs.Common.{◌≡◌, ℕ, ◌≤◌, Bool, true, false, ◌&&◌, not, List, [], ◌∷◌, ◌++◌, length, refl, sym, ◌∙◌, ap, arith, append_assoc, append-nil, length-append}
use Rattle.std.specs.Prelude.{Some, Ok, Err, flat_map, nat_lt}
use Rattle.std.specs.Str.{str_to_ascii_lowercase}
use Rattle.std.specs.Char.{to_ascii_lowercase}
use Rattle.std.specs.List.{before_first, list_all}
use Rattle.std.specs.Ordering.{int_eq}
use Rattle.std.proofs.Math.Numerals.{one-add}
use Rattle.std.proofs.lemmas.Bool.{and_parts, lt-ltb}
use Rattle.std.proofs.lemmas.Bool.Decides.{Decides-int_eq, nat_tests}
use Rattle.std.proofs.lemmas.Slice.Eq.{bytes_eq-Decides}
use Rattle.micro_num.specs.declared.unit.Unit.{Unit as LengthUnit}
use Rattle.micro_num.specs.Numeral.{from_first}
use Rattle.stl_text.specs.declared.word.Word.{Word}
use Rattle.stl_text.specs.declared.word.Word.TheVariants.{FacetOrEnd, Solid}
use Rattle.geometry.specs.Facet.{Facet}
use Rattle.stl_text.specs.Text.{Token, keyword, normal_word, coordinate, rest_of_line, end_word, facet_tokens, solid_tokens, is_white, is_line_end, is_read_as, begins_with, after_space, first_word, after_word, after_token, rest_after, Reads, keyword_of, keyword_text, end_keyword}
use Rattle.stl_text.specs.Written.{Spaced, is_word, are_white, laid_out, IsWordOf, AreWordsOf, IsApart, IsRemark, IsLineBreak, IsAfterSolids, WrittenSolid, AreWrittenSolids, Written}
use Rattle.micro_num.proofs.lemmas.Grammar.{Starts, before-is, from-is}
use Rattle.stl_text.proofs.lemmas.Fronts.{line_end_white}
use Rattle.stl_text.proofs.lemmas.Solids.{facets-more, tokens-more}
use Rattle.stl_text.proofs.lemmas.Steps.{spelled-append}

-- white space in front is skipped
skip_white : (space more : List ℕ) → are_white space ≡ true → after_space (space ++ more) ≡ after_space more
skip_white [] more h = refl
skip_white (b ∷ space) more h =
    let white : is_white b ≡ true = (and_parts _ _ h).0 in
    rw white (rw one-add (skip_white space more (and_parts _ _ h).1))

not_not : (b : Bool) → not b ≡ true → b ≡ false
not_not true h = cc
not_not false h = refl

all_clear : (word : List ℕ) → is_word word ≡ true → list_all (λ b. not (is_white b)) word ≡ true
all_clear word h = (and_parts _ _ h).1

-- a word after white space, and the text after the word
word_first : (word more : List ℕ) → is_word word ≡ true → after_space (word ++ more) ≡ word ++ more
word_first [] more h = cc
word_first (b ∷ word) more h =
    let clear : is_white b ≡ false = not_not (is_white b) (and_parts _ _ (all_clear (b ∷ word) h)).0 in
    rw clear refl

record ReadsWord (space word more : List ℕ) : Type 0 where
  first : first_word (space ++ (word ++ more)) ≡ word
  after : after_word (space ++ (word ++ more)) ≡ more

word_read : (space word more : List ℕ) → are_white space ≡ true → is_word word ≡ true → Starts is_white more → ReadsWord space word more
word_read space word more white clear apart =
    let front : after_space (space ++ (word ++ more)) ≡ word ++ more = skip_white space (word ++ more) white ∙ word_first word more clear in
    record {
      first = ap (before_first is_white) front ∙ before-is is_white word more (all_clear word clear) apart;
      after = ap (from_first is_white) front ∙ from-is is_white word more (all_clear word clear) apart;
    }

record ReadsToken (unit : LengthUnit) (p : Token) (bytes more : List ℕ) : Type 0 where
  begins : begins_with unit p bytes ≡ true
  after : after_token p bytes ≡ more

token_read : (unit : LengthUnit) (p : Token) (space word more : List ℕ) → are_white space ≡ true → is_word word ≡ true → Starts is_white more
    → IsWordOf unit p word → ReadsToken unit p (space ++ (word ++ more)) more
token_read unit (keyword wanted text) space word more white clear apart is =
    let read : ReadsWord space word more = word_read space word more white clear apart in
    record { begins = (bytes_eq-Decides _ text).1 (ap str_to_ascii_lowercase read.first ∙ is); after = read.after }
token_read unit normal_word space word more white clear apart is =
    let read : ReadsWord space word more = word_read space word more white clear apart in
    record { begins = ap (λ w. nat_lt 0 (length w)) read.first ∙ (and_parts _ _ clear).0; after = read.after }
token_read unit (coordinate z) space word more white clear apart is =
    let read : ReadsWord space word more = word_read space word more white clear apart in
    record {
      begins = ap (λ w. is_read_as z w unit) read.first
          ∙ ap (λ o. elim o [ Ok x ↦ int_eq x z | Err cause ↦ false ]) is ∙ (Decides-int_eq z z).1 refl;
      after = read.after;
    }
token_read unit rest_of_line space word more white clear apart is = absurd is

step_on : (unit : LengthUnit) (p : Token) (ps : List Token) (bytes more last : List ℕ) → ReadsToken unit p bytes more
    → rest_after unit ps more ≡ Some last → rest_after unit (p ∷ ps) bytes ≡ Some last
step_on unit p ps bytes more last read on = rw read.begins (ap (rest_after unit ps) read.after ∙ on)

apart_white : (space more : List ℕ) → nat_lt 0 (length space) ≡ true → are_white space ≡ true → Starts is_white (space ++ more)
apart_white [] more h white = cc
apart_white (b ∷ space) more h white = (and_parts _ _ white).0

-- after the tokens there is white space, and then more text
record Leaves (unit : LengthUnit) (ps : List Token) (bytes more : List ℕ) : Type 0 where
  space : List ℕ
  white : are_white space ≡ true
  spelled : rest_after unit ps bytes ≡ Some (space ++ more)

words_read : (unit : LengthUnit) (ps : List Token) (words : List Spaced) (space more : List ℕ) → AreWordsOf unit ps words
    → are_white space ≡ true → Leaves unit ps (space ++ (laid_out words ++ more)) more
words_read unit [] [] space more are white = record { space = space; white = white; spelled = refl }
words_read unit [] (t ∷ words) space more are white = absurd are
words_read unit (p ∷ ps) [] space more are white = absurd are
words_read unit (p ∷ ps) (t ∷ words) space more are white =
    let word : is_word t.text ≡ true = (and_parts _ _ are.0).0 in
    let gap : (nat_lt 0 (length t.space) ≡ true) × (are_white t.space ≡ true) = and_parts _ _ (and_parts _ _ are.0).1 in
    let after : List ℕ = t.space ++ (laid_out words ++ more) in
    let text : (((t.text ++ t.space) ++ laid_out words) ++ more) ≡ t.text ++ after =
    append_assoc (t.text ++ t.space) (laid_out words) more ∙ append_assoc t.text t.space (laid_out words ++ more) in
    let read : ReadsToken unit p (space ++ (t.text ++ after)) after =
    token_read unit p space t.text after white word (apart_white t.space (laid_out words ++ more) gap.0 gap.1) are.1 in
    let on : Leaves unit ps after more = words_read unit ps words t.space more are.2 gap.1 in
    record {
      space = on.space;
      white = on.white;
      spelled = ap (λ bs. rest_after unit (p ∷ ps) (space ++ bs)) text
          ∙ step_on unit p ps (space ++ (t.text ++ after)) after (on.space ++ more) read on.spelled;
    }

-- white space is the same in upper and lower case
white-lower : (b : ℕ) → is_white (to_ascii_lowercase b) ≡ is_white b
white-lower b = grind (arith, nat_tests)

clear-lower : (word : List ℕ) → list_all (λ b. not (is_white b)) (str_to_ascii_lowercase word) ≡ list_all (λ b. not (is_white b)) word
clear-lower [] = refl
clear-lower (b ∷ word) =
    ap (λ w. not w && list_all (λ x. not (is_white x)) (str_to_ascii_lowercase word)) (white-lower b)
    ∙ ap (λ r. not (is_white b) && r) (clear-lower word)

pub some-lower : (word : List ℕ) → nat_lt 0 (length (str_to_ascii_lowercase word)) ≡ nat_lt 0 (length word)
some-lower [] = refl
some-lower (b ∷ word) = lt-ltb _ _ (omega arith) ∙ sym (lt-ltb _ _ (omega arith))

keyword_is_word : (word text : List ℕ) → str_to_ascii_lowercase word ≡ text → is_word text ≡ true → is_word word ≡ true
keyword_is_word word text is clear =
    ap (λ r. r && list_all (λ b. not (is_white b)) word) (sym (some-lower word))
    ∙ ap (λ r. nat_lt 0 (length (str_to_ascii_lowercase word)) && r) (sym (clear-lower word))
    ∙ ap is_word is ∙ clear

-- a text that begins with the end of a line, or is empty
abbrev pub EndsLine : List ℕ → Type 0
EndsLine bytes = Starts is_line_end bytes

ends_white : (bytes : List ℕ) → EndsLine bytes → Starts is_white bytes
ends_white [] ends = ends
ends_white (b ∷ bytes) ends = line_end_white b ends

apart_remark : (remark more : List ℕ) → IsApart remark → EndsLine more → Starts is_white (remark ++ more)
apart_remark [] more apart ends = ends_white more ends
apart_remark (b ∷ remark) more apart ends = apart

-- a keyword, and the rest of its line
line_read : (unit : LengthUnit) (kind : Word) (text space word remark more : List ℕ) → are_white space ≡ true
    → str_to_ascii_lowercase word ≡ text → is_word text ≡ true → IsRemark remark → EndsLine more
    → rest_after unit (keyword kind text ∷ rest_of_line ∷ []) (space ++ (word ++ (remark ++ more))) ≡ Some more
line_read unit kind text space word remark more white is text_is remark_is ends =
    step_on unit (keyword kind text) (rest_of_line ∷ []) (space ++ (word ++ (remark ++ more))) (remark ++ more) more
    (token_read unit (keyword kind text) space word (remark ++ more) white (keyword_is_word word text is text_is)
    (apart_remark remark more remark_is.apart ends) is)
    (ap Some (from-is is_line_end remark more remark_is.one_line ends))

break_white : (space : List ℕ) → IsLineBreak space → are_white space ≡ true
break_white [] is = absurd is
break_white (b ∷ space) is = ap (λ w. w && are_white space) (line_end_white b is.0) ∙ is.1

break_ends : (space more : List ℕ) → IsLineBreak space → EndsLine (space ++ more)
break_ends [] more is = absurd is
break_ends (b ∷ space) more is = is.0

end_white : (bytes : List ℕ) → IsAfterSolids bytes → are_white bytes ≡ true
end_white [] is = refl
end_white (b ∷ bytes) is = break_white (b ∷ bytes) is

end_ends : (bytes : List ℕ) → IsAfterSolids bytes → EndsLine bytes
end_ends [] is = tt
end_ends (b ∷ bytes) is = is.0

solid_read : (unit : LengthUnit) (facets : List Facet) (text space more : List ℕ) → WrittenSolid unit facets text → are_white space ≡ true
    → EndsLine more → rest_after unit (solid_tokens facets) (space ++ (text ++ more)) ≡ Some more
solid_read unit facets text space more w white ends =
    let closing : List ℕ = w.closing ++ (w.remark ++ more) in
    let body : List ℕ = w.line_break ++ (laid_out w.body ++ closing) in
    let whole : text ++ more ≡ w.opening ++ (w.name ++ body) = ap (λ t. t ++ more) w.text_is ∙ simp append_assoc in
    let opened : rest_after unit (keyword_of Solid ∷ rest_of_line ∷ []) (space ++ (w.opening ++ (w.name ++ body))) ≡ Some body =
    line_read unit Solid (keyword_text Solid) space w.opening w.name body white w.opening_is refl w.name_is
    (break_ends w.line_break (laid_out w.body ++ closing) w.line_break_is) in
    let read : Leaves unit (flat_map facet_tokens facets) body closing =
    words_read unit (flat_map facet_tokens facets) w.body w.line_break closing w.body_is (break_white w.line_break w.line_break_is) in
    let closed : rest_after unit (end_word ∷ rest_of_line ∷ []) (read.space ++ closing) ≡ Some more =
    line_read unit FacetOrEnd end_keyword read.space w.closing w.remark more read.white w.closing_is refl w.remark_is ends in
    ap (λ bs. rest_after unit (solid_tokens facets) (space ++ bs)) whole
    ∙ spelled-append unit ((keyword_of Solid ∷ rest_of_line ∷ []) ++ flat_map facet_tokens facets) (end_word ∷ rest_of_line ∷ [])
    (space ++ (w.opening ++ (w.name ++ body))) (read.space ++ closing) more
    (spelled-append unit (keyword_of Solid ∷ rest_of_line ∷ []) (flat_map facet_tokens facets)
    (space ++ (w.opening ++ (w.name ++ body))) body (read.space ++ closing) opened read.spelled)
    closed

solids_read : (unit : LengthUnit) (solids : List (List Facet)) (texts : List Spaced) (space more : List ℕ) → AreWrittenSolids unit solids texts
    → are_white space ≡ true → Leaves unit (flat_map solid_tokens solids) (space ++ (laid_out texts ++ more)) more
solids_read unit [] [] space more are white = record { space = space; white = white; spelled = refl }
solids_read unit [] (t ∷ texts) space more are white = absurd are
solids_read unit (facets ∷ solids) [] space more are white = absurd are
solids_read unit (facets ∷ solids) (t ∷ texts) space more are white =
    let after : List ℕ = t.space ++ (laid_out texts ++ more) in
    let text : (((t.text ++ t.space) ++ laid_out texts) ++ more) ≡ t.text ++ after =
    append_assoc (t.text ++ t.space) (laid_out texts) more ∙ append_assoc t.text t.space (laid_out texts ++ more) in
    let first : rest_after unit (solid_tokens facets) (space ++ (t.text ++ after)) ≡ Some after =
    solid_read unit facets t.text space after are.0 white (break_ends t.space (laid_out texts ++ more) are.1) in
    let on : Leaves unit (flat_map solid_tokens solids) after more = solids_read unit solids texts t.space more are.2 (break_white t.space are.1) in
    record {
      space = on.space;
      white = on.white;
      spelled = ap (λ bs. rest_after unit (flat_map solid_tokens (facets ∷ solids)) (space ++ bs)) text
          ∙ spelled-append unit (solid_tokens facets) (flat_map solid_tokens solids) (space ++ (t.text ++ after))
          after (on.space ++ more) first on.spelled;
    }

-- a text in which facets are written reads as these facets
pub written_reads : (limit : ℕ) (unit : LengthUnit) (facets : List Facet) (text : List ℕ) → length facets ≤ limit → Written unit facets text
    → Reads limit unit text facets
written_reads limit unit facets text few w =
    let last : List ℕ = w.last_text ++ w.after in
    let before : Leaves unit (flat_map solid_tokens w.solids) (w.lead ++ (laid_out w.texts ++ last)) last =
    solids_read unit w.solids w.texts w.lead last w.texts_are w.lead_is in
    let read : rest_after unit (solid_tokens w.last) (before.space ++ last) ≡ Some w.after =
    solid_read unit w.last w.last_text before.space w.after w.last_is before.white (end_ends w.after w.after_is) in
    record {
      solids = w.solids ++ w.last ∷ [];
      some = omega (arith, length-append w.solids (w.last ∷ []));
      each = w.each ∙ facets-more w.solids w.last;
      few = few;
      rest = w.after;
      spelled = ap (rest_after unit (flat_map solid_tokens (w.solids ++ w.last ∷ []))) w.text_is
          ∙ ap (λ ps. rest_after unit ps (w.lead ++ (laid_out w.texts ++ last))) (tokens-more w.solids w.last)
          ∙ spelled-append unit (flat_map solid_tokens w.solids) (solid_tokens w.last) (w.lead ++ (laid_out w.texts ++ last))
          (before.space ++ last) w.after before.spelled read;
      whole = ap after_space (sym (append-nil w.after)) ∙ skip_white w.after [] (end_white w.after w.after_is);
    }
