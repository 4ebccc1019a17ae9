-- A text that reads as facets is these facets written out.
use Rattle.std.proofs.Common.{◌≡◌, ℕ, ◌<◌, Bool, true, false, not, List, [], ◌∷◌, ◌++◌, take, length, refl, sym, ◌∙◌, ap, subst, arith, append_assoc, append-nil, length-append}
use Rattle.std.specs.Prelude.{Option, Some, None, Ok, if◌then◌else◌, ℤ, flat_map, nat_lt}
use Rattle.std.specs.Str.{str_to_ascii_lowercase}
use Rattle.std.specs.List.{before_first, list_all, prefix_len, position_or_len}
use Rattle.std.proofs.Math.Numerals.{one-add}
use Rattle.std.proofs.lemmas.Bool.{and_parts, lt-ltb, ltb-true}
use Rattle.std.proofs.lemmas.List.{take-append-drop}
use Rattle.std.proofs.lemmas.List.Folds.{list_all-append}
use Rattle.std.proofs.lemmas.Slice.Eq.{bytes_eq-Decides}
use Rattle.micro_num.specs.declared.unit.Unit.{Unit as LengthUnit}
use Rattle.micro_num.specs.Micrometres.{coordinate_of}
use Rattle.micro_num.proofs.lemmas.Grammar.{Starts, from_starts}
use Rattle.stl_text.specs.declared.word.Word.{Word}
use Rattle.stl_text.specs.declared.word.Word.TheVariants.{FacetOrEnd, Solid}
use Rattle.geometry.specs.Facet.{Facet}
use Rattle.stl_text.specs.Text.{Token, keyword, normal_word, coordinate, rest_of_line, facet_tokens, facets_of, solid_tokens, is_keyword, is_white, is_line_end, begins_with, after_space, first_word, after_word, after_line, after_token, rest_after, Reads, keyword_of, keyword_text, end_keyword}
use Rattle.stl_text.specs.Written.{Spaced, is_word, is_spaced_word, are_white, laid_out, IsWordOf, AreWordsOf, IsApart, IsRemark, IsLineBreak, IsAfterSolids, WrittenSolid, AreWrittenSolids, Written}
use Rattle.stl_text.proofs.lemmas.Determined.{read-is}
use Rattle.stl_text.proofs.lemmas.OneReading.{then_on, rest-append}
use Rattle.stl_text.proofs.lemmas.Either.{end_tokens}
use Rattle.stl_text.proofs.lemmas.Fronts.{line_end_white}
use Rattle.stl_text.proofs.lemmas.Written.{EndsLine, some-lower}
use Rattle.stl_text.proofs.lemmas.Options.{some-is}

-- A text is its white space, its first word and what is after the word.

abbrev space_of : List ℕ → List ℕ
space_of bytes = take (prefix_len is_white bytes) bytes

space_first : (bytes : List ℕ) → space_of bytes ++ after_space bytes ≡ bytes
space_first bytes = take-append-drop (prefix_len is_white bytes) bytes

space_white : (bytes : List ℕ) → are_white (space_of bytes) ≡ true
space_white [] = refl
space_white (b ∷ bytes) = by_test (space_white bytes) (is_white b) refl
  where
    by_test : are_white (space_of bytes) ≡ true → (w : Bool) → is_white b ≡ w → are_white (space_of (b ∷ bytes)) ≡ true
    by_test rest true e = rw e (rw one-add (rw e rest))
    by_test rest false e = rw e refl

word_first : (bytes : List ℕ) → first_word bytes ++ after_word bytes ≡ after_space bytes
word_first bytes = take-append-drop (position_or_len is_white (after_space bytes)) (after_space bytes)

line_first : (bytes : List ℕ) → before_first is_line_end bytes ++ after_line bytes ≡ bytes
line_first bytes = take-append-drop (position_or_len is_line_end bytes) bytes

before_clear : (p : ℕ → Bool) (bytes : List ℕ) → list_all (λ b. not (p b)) (before_first p bytes) ≡ true
before_clear p [] = refl
before_clear p (b ∷ bytes) = by_test (before_clear p bytes) (p b) refl
  where
    by_test : list_all (λ x. not (p x)) (before_first p bytes) ≡ true → (t : Bool) → p b ≡ t
        → list_all (λ x. not (p x)) (before_first p (b ∷ bytes)) ≡ true
    by_test rest true e = rw e refl
    by_test rest false e = rw e (rw one-add (rw e rest))

-- what is after a word begins with white space
word_ends : (bytes : List ℕ) → Starts is_white (after_word bytes)
word_ends bytes = from_starts is_white (after_space bytes)

-- after a word there is white space before the next one
gap_some : (bytes : List ℕ) → Starts is_white bytes → 0 < length (after_space bytes) → nat_lt 0 (length (space_of bytes)) ≡ true
gap_some [] starts some = absurd (omega (arith, some))
gap_some (b ∷ bytes) starts some = rw starts (rw one-add (lt-ltb _ _ (omega arith)))

-- Words.

abbrev is_for_word : Token → Bool
is_for_word (keyword wanted text) = nat_lt 0 (length text)
is_for_word normal_word = true
is_for_word (coordinate z) = true
is_for_word rest_of_line = false

-- the word at the front stands for the token
record StandsFor (unit : LengthUnit) (p : Token) (bytes : List ℕ) : Type 0 where
  some : nat_lt 0 (length (first_word bytes)) ≡ true
  is : IsWordOf unit p (first_word bytes)
  after : after_token p bytes ≡ after_word bytes

lower-is : (text word : List ℕ) → is_keyword text word ≡ true → str_to_ascii_lowercase word ≡ text
lower-is text word h = (bytes_eq-Decides (str_to_ascii_lowercase word) text).0 h

coordinate_some : (unit : LengthUnit) (z : ℤ) (word : List ℕ) → coordinate_of unit word ≡ Ok z → nat_lt 0 (length word) ≡ true
coordinate_some unit z [] h = cc
coordinate_some unit z (b ∷ word) h = lt-ltb _ _ (omega arith)

stands : (unit : LengthUnit) (p : Token) (bytes : List ℕ) → is_for_word p ≡ true → begins_with unit p bytes ≡ true → StandsFor unit p bytes
stands unit (keyword wanted text) bytes word begins =
    let lower : str_to_ascii_lowercase (first_word bytes) ≡ text = lower-is text (first_word bytes) begins in
    record { some = sym (some-lower (first_word bytes)) ∙ ap (λ w. nat_lt 0 (length w)) lower ∙ word; is = lower; after = refl }
stands unit normal_word bytes word begins = record { some = begins; is = tt; after = refl }
stands unit (coordinate z) bytes word begins =
    let read : coordinate_of unit (first_word bytes) ≡ Ok z = read-is unit (first_word bytes) z begins in
    record { some = coordinate_some unit z (first_word bytes) read; is = read; after = refl }
stands unit rest_of_line bytes word begins = cc

first_is_word : (bytes : List ℕ) → nat_lt 0 (length (first_word bytes)) ≡ true → is_word (first_word bytes) ≡ true
first_is_word bytes some = rw (some, before_clear is_white (after_space bytes)) refl

-- a first token
record Begins (unit : LengthUnit) (p : Token) (ps : List Token) (bytes rest : List ℕ) : Type 0 where
  begins : begins_with unit p bytes ≡ true
  on : rest_after unit ps (after_token p bytes) ≡ Some rest

first_begins : (unit : LengthUnit) (p : Token) (ps : List Token) (bytes rest : List ℕ) → rest_after unit (p ∷ ps) bytes ≡ Some rest
    → Begins unit p ps bytes rest
first_begins unit p ps bytes rest e = by_test (begins_with unit p bytes) refl e
  where
    by_test : (b : Bool) → begins_with unit p bytes ≡ b → (if b then rest_after unit ps (after_token p bytes) else None) ≡ Some rest
        → Begins unit p ps bytes rest
    by_test true is h = record { begins = is; on = h }
    by_test false is h = cc

-- the words of these tokens, and the text after them
record WordsAt (unit : LengthUnit) (ps : List Token) (bytes rest : List ℕ) : Type 0 where
  words : List Spaced
  are : AreWordsOf unit ps words
  text_is : after_space bytes ≡ laid_out words ++ after_space rest

words_written : (unit : LengthUnit) (ps : List Token) (bytes rest : List ℕ) → list_all is_for_word ps ≡ true → 0 < length (after_space rest)
    → rest_after unit ps bytes ≡ Some rest → WordsAt unit ps bytes rest
words_written unit [] bytes rest words some e =
    let same : bytes ≡ rest = cc in
    record { words = []; are = tt; text_is = ap after_space same }
words_written unit (p ∷ ps) bytes rest words some e =
    let parts : (is_for_word p ≡ true) × (list_all is_for_word ps ≡ true) = and_parts _ _ words in
    let begin : Begins unit p ps bytes rest = first_begins unit p ps bytes rest e in
    let first : StandsFor unit p bytes = stands unit p bytes parts.0 begin.begins in
    let more : List ℕ = after_word bytes in
    let on : WordsAt unit ps more rest =
    words_written unit ps more rest parts.1 some (ap (rest_after unit ps) (sym first.after) ∙ begin.on) in
    let left : 0 < length (after_space more) = omega (arith, ap length on.text_is, length-append (laid_out on.words) (after_space rest), some) in
    let gap : nat_lt 0 (length (space_of more)) ≡ true = gap_some more (word_ends bytes) left in
    let spaced : is_spaced_word (record { text = first_word bytes; space = space_of more }) ≡ true =
    rw (first_is_word bytes first.some, gap, space_white more) refl in
    record {
      words = record { text = first_word bytes; space = space_of more } ∷ on.words;
      are = (spaced, first.is, on.are);
      text_is = sym (word_first bytes)
          ∙ ap (λ t. first_word bytes ++ t) (sym (space_first more) ∙ ap (λ t. space_of more ++ t) on.text_is)
          ∙ sym (append_assoc (first_word bytes) (space_of more) (laid_out on.words ++ after_space rest))
          ∙ sym (append_assoc (first_word bytes ++ space_of more) (laid_out on.words) (after_space rest));
    }

-- Solids.

facets-words : (facets : List Facet) → list_all is_for_word (flat_map facet_tokens facets) ≡ true
facets-words [] = refl
facets-words (t ∷ facets) = list_all-append is_for_word (facet_tokens t) (flat_map facet_tokens facets) ∙ facets-words facets

remark_is : (bytes : List ℕ) → Starts is_white bytes → IsRemark (before_first is_line_end bytes)
remark_is bytes starts = record { apart = apart bytes starts; one_line = before_clear is_line_end bytes }
  where
    apart : (xs : List ℕ) → Starts is_white xs → IsApart (before_first is_line_end xs)
    apart [] white = tt
    apart (b ∷ xs) white = by_test (is_line_end b) refl
      where
        by_test : (t : Bool) → is_line_end b ≡ t → IsApart (before_first is_line_end (b ∷ xs))
        by_test true e = rw e tt
        by_test false e = rw e (rw one-add white)

break_is : (bytes : List ℕ) → EndsLine bytes → 0 < length (after_space bytes) → IsLineBreak (space_of bytes)
break_is [] ends some = absurd (omega (arith, some))
break_is (b ∷ bytes) ends some = rw (line_end_white b ends) (rw one-add (ends, space_white bytes))

end_is : (bytes : List ℕ) → EndsLine bytes → after_space bytes ≡ [] → IsAfterSolids bytes
end_is [] ends none = tt
end_is (b ∷ bytes) ends none =
    let whole : space_of (b ∷ bytes) ≡ b ∷ bytes =
    sym (append-nil (space_of (b ∷ bytes))) ∙ ap (λ t. space_of (b ∷ bytes) ++ t) (sym none) ∙ space_first (b ∷ bytes) in
    let white : are_white (b ∷ bytes) ≡ true = ap are_white (sym whole) ∙ space_white (b ∷ bytes) in
    (ends, (and_parts _ _ white).1)

-- the text between two lists of tokens
record Between (unit : LengthUnit) (ps qs : List Token) (bytes rest : List ℕ) : Type 0 where
  mid : List ℕ
  before : rest_after unit ps bytes ≡ Some mid
  after : rest_after unit qs mid ≡ Some rest

between : (unit : LengthUnit) (ps qs : List Token) (bytes rest : List ℕ) → rest_after unit (ps ++ qs) bytes ≡ Some rest
    → Between unit ps qs bytes rest
between unit ps qs bytes rest e = by_rest (rest_after unit ps bytes) refl (sym (rest-append unit ps qs bytes) ∙ e)
  where
    by_rest : (o : Option (List ℕ)) → rest_after unit ps bytes ≡ o → then_on o (λ r. rest_after unit qs r) ≡ Some rest
        → Between unit ps qs bytes rest
    by_rest None is h = cc
    by_rest (Some mid) is h = record { mid = mid; before = is; after = h }

word_some : (bytes : List ℕ) → nat_lt 0 (length (first_word bytes)) ≡ true → 0 < length (after_space bytes)
word_some bytes some =
    omega (arith, ltb-true 0 (length (first_word bytes)) some, ap length (word_first bytes), length-append (first_word bytes) (after_word bytes))

-- a keyword at the front, and the rest of its line
record LineAt (text bytes rest : List ℕ) : Type 0 where
  word : List ℕ
  word_is : str_to_ascii_lowercase word ≡ text
  remark : List ℕ
  remark_is : IsRemark remark
  text_is : after_space bytes ≡ word ++ (remark ++ rest)
  some : 0 < length (after_space bytes)
  ends : EndsLine rest

line_written : (unit : LengthUnit) (kind : Word) (text bytes rest : List ℕ) → nat_lt 0 (length text) ≡ true
    → rest_after unit (keyword kind text ∷ rest_of_line ∷ []) bytes ≡ Some rest → LineAt text bytes rest
line_written unit kind text bytes rest some e =
    let begun : Begins unit (keyword kind text) (rest_of_line ∷ []) bytes rest = first_begins unit (keyword kind text) (rest_of_line ∷ []) bytes rest e in
    let first : StandsFor unit (keyword kind text) bytes = stands unit (keyword kind text) bytes some begun.begins in
    let after : List ℕ = after_word bytes in
    let last : after_line after ≡ rest = some-is begun.on in
    record {
      word = first_word bytes;
      word_is = first.is;
      remark = before_first is_line_end after;
      remark_is = remark_is after (word_ends bytes);
      text_is = sym (word_first bytes)
          ∙ ap (λ t. first_word bytes ++ t) (sym (line_first after) ∙ ap (λ t. before_first is_line_end after ++ t) last);
      some = word_some bytes first.some;
      ends = subst EndsLine last (from_starts is_line_end after);
    }

abbrev open_line : List Token
open_line = keyword_of Solid ∷ rest_of_line ∷ []

-- a solid at the front, and the text after it
record SolidAt (unit : LengthUnit) (facets : List Facet) (bytes rest : List ℕ) : Type 0 where
  text : List ℕ
  is : WrittenSolid unit facets text
  text_is : after_space bytes ≡ text ++ rest
  some : 0 < length (after_space bytes)
  ends : EndsLine rest

solid_of : (unit : LengthUnit) (facets : List Facet) (bytes line mid rest : List ℕ) → LineAt (keyword_text Solid) bytes line
    → WordsAt unit (flat_map facet_tokens facets) line mid → LineAt end_keyword mid rest → SolidAt unit facets bytes rest
solid_of unit facets bytes line mid rest opening words closing =
    let some : 0 < length (after_space line) =
    omega (arith, ap length words.text_is, length-append (laid_out words.words) (after_space mid), closing.some) in
    let parts : after_space bytes
    ≡ opening.word ++ (opening.remark ++ (space_of line ++ (laid_out words.words ++ (closing.word ++ (closing.remark ++ rest))))) =
    opening.text_is ∙ ap (λ t. opening.word ++ (opening.remark ++ t))
    (sym (space_first line) ∙ ap (λ t. space_of line ++ t)
    (words.text_is ∙ ap (λ t. laid_out words.words ++ t) closing.text_is)) in
    record {
      text = opening.word ++ (opening.remark ++ (space_of line ++ (laid_out words.words ++ (closing.word ++ closing.remark))));
      is = record {
        opening = opening.word;
        opening_is = opening.word_is;
        name = opening.remark;
        name_is = opening.remark_is;
        line_break = space_of line;
        line_break_is = break_is line opening.ends some;
        body = words.words;
        body_is = words.are;
        closing = closing.word;
        closing_is = closing.word_is;
        remark = closing.remark;
        remark_is = closing.remark_is;
        text_is = refl;
      };
      text_is = parts ∙ sym (simp append_assoc);
      some = opening.some;
      ends = closing.ends;
    }

solid_written : (unit : LengthUnit) (facets : List Facet) (bytes rest : List ℕ) → rest_after unit (solid_tokens facets) bytes ≡ Some rest
    → SolidAt unit facets bytes rest
solid_written unit facets bytes rest e =
    let body : List Token = flat_map facet_tokens facets in
    let opened : Between unit open_line (body ++ end_tokens) bytes rest = between unit open_line (body ++ end_tokens) bytes rest e in
    let line : List ℕ = opened.mid in
    let inner : Between unit body end_tokens line rest = between unit body end_tokens line rest opened.after in
    let closing : LineAt end_keyword inner.mid rest = line_written unit FacetOrEnd end_keyword inner.mid rest refl inner.after in
    solid_of unit facets bytes line inner.mid rest
    (line_written unit Solid (keyword_text Solid) bytes line refl opened.before)
    (words_written unit body line inner.mid (facets-words facets) closing.some inner.before) closing

-- solids at the front, after which there is only white space
record SolidsAt (unit : LengthUnit) (facets : List Facet) (front : List ℕ) : Type 0 where
  solids : List (List Facet)
  texts : List Spaced
  texts_are : AreWrittenSolids unit solids texts
  last : List Facet
  last_text : List ℕ
  last_is : WrittenSolid unit last last_text
  after : List ℕ
  after_is : IsAfterSolids after
  each : facets ≡ facets_of solids ++ last
  text_is : front ≡ laid_out texts ++ (last_text ++ after)

solids_written : (unit : LengthUnit) (facets : List Facet) (solids : List (List Facet)) (bytes rest : List ℕ)
    → rest_after unit (flat_map solid_tokens (facets ∷ solids)) bytes ≡ Some rest → after_space rest ≡ []
    → SolidsAt unit (facets_of (facets ∷ solids)) (after_space bytes)
solids_written unit facets [] bytes rest e ended =
    let at : SolidAt unit facets bytes rest =
    solid_written unit facets bytes rest (ap (λ ps. rest_after unit ps bytes) (sym (append-nil (solid_tokens facets))) ∙ e) in
    record {
      solids = [];
      texts = [];
      texts_are = tt;
      last = facets;
      last_text = at.text;
      last_is = at.is;
      after = rest;
      after_is = end_is rest at.ends ended;
      each = append-nil facets;
      text_is = at.text_is;
    }
solids_written unit facets (next ∷ solids) bytes rest e ended =
    let more : List Token = flat_map solid_tokens (next ∷ solids) in
    let inner : Between unit (solid_tokens facets) more bytes rest = between unit (solid_tokens facets) more bytes rest e in
    let mid : List ℕ = inner.mid in
    let at : SolidAt unit facets bytes mid = solid_written unit facets bytes mid inner.before in
    let on : SolidsAt unit (facets_of (next ∷ solids)) (after_space mid) = solids_written unit next solids mid rest inner.after ended in
    let after : Between unit (solid_tokens next) (flat_map solid_tokens solids) mid rest =
    between unit (solid_tokens next) (flat_map solid_tokens solids) mid rest inner.after in
    let some : 0 < length (after_space mid) = (solid_written unit next mid after.mid after.before).some in
    record {
      solids = facets ∷ on.solids;
      texts = record { text = at.text; space = space_of mid } ∷ on.texts;
      texts_are = (at.is, break_is mid at.ends some, on.texts_are);
      last = on.last;
      last_text = on.last_text;
      last_is = on.last_is;
      after = on.after;
      after_is = on.after_is;
      each = ap (λ xs. facets ++ xs) on.each ∙ sym (append_assoc facets (facets_of on.solids) on.last);
      text_is = at.text_is ∙ ap (λ t. at.text ++ t) (sym (space_first mid) ∙ ap (λ t. space_of mid ++ t) on.text_is)
          ∙ sym (append_assoc at.text (space_of mid) (laid_out on.texts ++ (on.last_text ++ on.after)))
          ∙ sym (append_assoc (at.text ++ space_of mid) (laid_out on.texts) (on.last_text ++ on.after));
    }

-- a text that reads as facets is these facets written out
pub read_written : (limit : ℕ) (unit : LengthUnit) (bytes : List ℕ) (facets : List Facet) → Reads limit unit bytes facets
    → Written unit facets bytes
read_written limit unit bytes facets r = by_solids r.solids r.some r.each r.spelled
  where
    by_solids : (solids : List (List Facet)) → 0 < length solids → facets ≡ facets_of solids
        → rest_after unit (flat_map solid_tokens solids) bytes ≡ Some r.rest → Written unit facets bytes
    by_solids [] some each spelled = absurd (omega (arith, some))
    by_solids (first ∷ solids) some each spelled =
        let at : SolidsAt unit (facets_of (first ∷ solids)) (after_space bytes) = solids_written unit first solids bytes r.rest spelled r.whole in
        record {
          lead = space_of bytes;
          lead_is = space_white bytes;
          solids = at.solids;
          texts = at.texts;
          texts_are = at.texts_are;
          last = at.last;
          last_text = at.last_text;
          last_is = at.last_is;
          after = at.after;
          after_is = at.after_is;
          each = each ∙ at.each;
          text_is = sym (space_first bytes) ∙ ap (λ t. space_of bytes ++ t) at.text_is;
        }
