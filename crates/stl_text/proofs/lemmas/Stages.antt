-- The stages of a reading: how a token leads from one to the next, and the fault if a word does not fit.
use Rattle.std.proofs.Common.{◌≡◌, ℕ, ◌+◌, ◌<◌, ◌≤◌, Bool, true, false, cond, List, [], ◌∷◌, ◌++◌, length, take, drop, refl, sym, ◌∙◌, ap, subst, arith, append_assoc, append-nil, length-append, lit≤}
use Rattle.std.specs.Prelude.{Option, Some, Ok, Err, ℤ, nat_lt, flat_map}
use Rattle.std.specs.Ordering.{int_eq}
use Rattle.std.proofs.lemmas.Bool.{lt-ltb}
use Rattle.std.proofs.lemmas.Bool.Decides.{Decides-int_eq}
use Rattle.std.proofs.lemmas.List.Sums.{sum_by-append}
use Rattle.micro_num.specs.Micrometres.{coordinate_of}
use Rattle.micro_num.specs.declared.unit.Unit.{Unit as LengthUnit}
use Rattle.geometry.specs.Point.{origin}
use Rattle.geometry.specs.Facet.{Facet, facet_with}
use Rattle.stl_text.specs.declared.word.Word.TheVariants.{Solid}
use Rattle.stl_text.specs.declared.stl_fault.StlFault.{StlFault}
use Rattle.stl_text.specs.declared.stl_fault.StlFault.TheVariants as fault
use Rattle.stl_text.specs.declared.stage.Stage.TheVariants as stage
use Rattle.stl_text.specs.declared.stage.TheConstants.{LAST_WORD}
use Rattle.stl_text.specs.Text.{Token, keyword_of, keyword_text, rest_of_line, facet_word, end_word, facet_keyword, end_keyword, facet_tokens, solid_tokens, is_keyword, is_facet_word, is_read_as, begins_with, after_token, rest_after, first_word, after_space, after_word, after_line, facets_of, facet_count, IsFaultOf, Wants}
use Rattle.stl_text.specs.Reader.{facet_tail}
use Rattle.stl_text.specs.Stage.{Goes, IsForm, IsStop, Stands, ReadInside, front, open_solid, word_front}
use Rattle.stl_text.specs.FacetRun.{next_solid}
use Rattle.stl_text.proofs.lemmas.OneFault.{facet_count-solids}
use Rattle.stl_text.proofs.lemmas.Either.{cut_facet, facet_count-open, no_word-space, end_tokens}
use Rattle.stl_text.proofs.lemmas.Solids.{facets-more, open-more, tokens-more}
use Rattle.stl_text.proofs.lemmas.Steps.{spelled-append}
use Rattle.stl_text.proofs.lemmas.Options.{some-is}
use Rattle.stl_text.proofs.lemmas.OneReading.{ended_word}
use Rattle.stl_text.proofs.lemmas.WordFronts.{same_number, same_some}

abbrev zero_facet : Facet
zero_facet = facet_with origin origin origin

-- one token after others
one_token : (unit : LengthUnit) (tokens : List Token) (p : Token) (text after rest : List ℕ) → rest_after unit tokens text ≡ Some after
    → begins_with unit p after ≡ true → after_token p after ≡ rest → rest_after unit (tokens ++ p ∷ []) text ≡ Some rest
one_token unit tokens p text after rest spelled begins ends =
    spelled-append unit tokens (p ∷ []) text after rest spelled
    (rw begins (ap {B = Option (List ℕ)} Some ends))

-- `solid` and its line
pub solid_read : (limit : ℕ) (unit : LengthUnit) (some : Bool) (facets : List Facet) (text after : List ℕ)
    → Stands limit unit (stage.Between some) facets text after → is_keyword (keyword_text Solid) (first_word after) ≡ true
    → Stands limit unit stage.Facets facets text (after_line (after_word after))
solid_read limit unit true facets text after s h = record {
  solids = s.solids;
  added = [];
  items = s.items ∙ ap (λ a. facets_of s.solids ++ a) s.form.0;
  form = s.form.2;
  spelled = spelled-append unit (flat_map solid_tokens s.solids) (keyword_of Solid ∷ rest_of_line ∷ []) text after (after_line (after_word after)) s.spelled (rw h refl);
}
solid_read limit unit false facets text after s h = record {
  solids = s.solids;
  added = [];
  items = s.items ∙ ap (λ a. facets_of s.solids ++ a) s.form.0;
  form = s.form.2;
  spelled = spelled-append unit (flat_map solid_tokens s.solids) (keyword_of Solid ∷ rest_of_line ∷ []) text after (after_line (after_word after)) s.spelled (rw h refl);
}

-- `endsolid` and its line
pub end_read : (limit : ℕ) (unit : LengthUnit) (facets : List Facet) (text after : List ℕ)
    → Stands limit unit stage.Facets facets text after → is_keyword end_keyword (first_word after) ≡ true
    → Stands limit unit (stage.Between true) facets text (after_line (after_word after))
end_read limit unit facets text after s h =
    let P : List Token = flat_map solid_tokens s.solids in
    let rest : List ℕ = after_line (after_word after) in
    let tokens : flat_map solid_tokens (s.solids ++ s.added ∷ []) ≡ (P ++ open_solid s.added) ++ end_tokens =
    tokens-more s.solids s.added ∙ sym (append_assoc P (open_solid s.added) end_tokens) in
    record {
      solids = s.solids ++ s.added ∷ [];
      added = [];
      items = s.items ∙ facets-more s.solids s.added ∙ sym (append-nil (facets_of (s.solids ++ s.added ∷ [])));
      form = (refl, omega (arith, length-append s.solids (s.added ∷ [])), s.form);
      spelled = ap (λ ps. rest_after unit ps text) tokens
          ∙ spelled-append unit (P ++ open_solid s.added) end_tokens text after rest s.spelled (rw h refl);
    }

-- `facet`
pub facet_begun : (limit : ℕ) (unit : LengthUnit) (facets : List Facet) (t : Facet) (text after : List ℕ)
    → Stands limit unit stage.Facets facets text after → is_keyword facet_keyword (first_word after) ≡ true → length facets < limit
    → Stands limit unit (stage.Inside 0 t) facets text (after_word after)
facet_begun limit unit facets t text after s h room = record {
  solids = s.solids;
  added = s.added;
  items = s.items;
  form = (lit≤ tt, room);
  spelled = one_token unit (front stage.Facets s.solids s.added) facet_word text after (after_word after) s.spelled h refl;
}

-- a whole facet
facet_added : (limit : ℕ) (unit : LengthUnit) (facets : List Facet) (t : Facet) (text last : List ℕ) (solids : List (List Facet)) (added : List Facet)
    → facets ≡ facets_of solids ++ added → length facets < limit
    → rest_after unit ((flat_map solid_tokens solids ++ open_solid added) ++ facet_tokens t) text ≡ Some last
    → Stands limit unit stage.Facets (facets ++ t ∷ []) text last
facet_added limit unit facets t text last solids added items room spelled =
    let P : List Token = flat_map solid_tokens solids in
    record {
      solids = solids;
      added = added ++ t ∷ [];
      items = ap (λ xs. xs ++ t ∷ []) items ∙ append_assoc (facets_of solids) added (t ∷ []);
      form = omega (arith, length-append facets (t ∷ []), room);
      spelled = ap (λ ps. rest_after unit ps text)
          (ap (λ ps. P ++ ps) (open-more added t) ∙ sym (append_assoc P (open_solid added) (facet_tokens t)))
          ∙ spelled;
    }

pub facet_read : (limit : ℕ) (unit : LengthUnit) (facets : List Facet) (t : Facet) (text after last : List ℕ)
    → Stands limit unit stage.Facets facets text after → length facets < limit → rest_after unit (facet_tokens t) after ≡ Some last
    → Stands limit unit stage.Facets (facets ++ t ∷ []) text last
facet_read limit unit facets t text after last s room spelled =
    facet_added limit unit facets t text last s.solids s.added s.items room
    (spelled-append unit (front stage.Facets s.solids s.added) (facet_tokens t) text after last s.spelled spelled)

-- the end of a solid, and the beginning of the next
pub solid_passed : (limit : ℕ) (unit : LengthUnit) (facets : List Facet) (text after last : List ℕ)
    → Stands limit unit stage.Facets facets text after → rest_after unit next_solid after ≡ Some last
    → Stands limit unit stage.Facets facets text last
solid_passed limit unit facets text after last s spelled =
    let Q : List Token = flat_map solid_tokens s.solids ++ open_solid s.added in
    record {
      solids = s.solids ++ s.added ∷ [];
      added = [];
      items = s.items ∙ facets-more s.solids s.added ∙ sym (append-nil (facets_of (s.solids ++ s.added ∷ [])));
      form = s.form;
      spelled = ap (λ ps. rest_after unit (ps ++ open_solid []) text)
          (tokens-more s.solids s.added ∙ sym (append_assoc (flat_map solid_tokens s.solids) (open_solid s.added) end_tokens))
          ∙ ap (λ ps. rest_after unit ps text) (append_assoc Q end_tokens (open_solid []))
          ∙ spelled-append unit Q next_solid text after last s.spelled spelled;
    }

-- one word of a facet
inside_spelled : (limit : ℕ) (unit : LengthUnit) (words : ℕ) (facets : List Facet) (t u : Facet) (text after : List ℕ)
    (s : Stands limit unit (stage.Inside words t) facets text after) → ReadInside unit words t after u
    → rest_after unit ((flat_map solid_tokens s.solids ++ open_solid s.added) ++ facet_word ∷ take (words + 1) (facet_tail u)) text ≡ Some (after_word after)
inside_spelled limit unit words facets t u text after s read =
    let Q : List Token = flat_map solid_tokens s.solids ++ open_solid s.added in
    ap (λ ps. rest_after unit (Q ++ facet_word ∷ ps) text) read.goes.on
    ∙ ap (λ ps. rest_after unit ps text) (sym (append_assoc Q (facet_word ∷ take words (facet_tail t)) (read.token ∷ [])))
    ∙ one_token unit (Q ++ facet_word ∷ take words (facet_tail t)) read.token text after (after_word after) s.spelled read.begins read.one_word

pub inside_read : (limit : ℕ) (unit : LengthUnit) (words : ℕ) (facets : List Facet) (t u : Facet) (text after : List ℕ)
    → Stands limit unit (stage.Inside words t) facets text after → ReadInside unit words t after u → words < LAST_WORD
    → Stands limit unit (stage.Inside (words + 1) u) facets text (after_word after)
inside_read limit unit words facets t u text after s read more = record {
  solids = s.solids;
  added = s.added;
  items = s.items;
  form = (omega (arith, more), s.form.1);
  spelled = inside_spelled limit unit words facets t u text after s read;
}

pub inside_whole : (limit : ℕ) (unit : LengthUnit) (words : ℕ) (facets : List Facet) (t u : Facet) (text after : List ℕ)
    → Stands limit unit (stage.Inside words t) facets text after → ReadInside unit words t after u → (words < LAST_WORD → ⊥)
    → Stands limit unit stage.Facets (facets ++ u ∷ []) text (after_word after)
inside_whole limit unit words facets t u text after s read last =
    let all : words + 1 ≡ 20 = omega (arith, s.form.0, last) in
    let Q : List Token = flat_map solid_tokens s.solids ++ open_solid s.added in
    facet_added limit unit facets u text (after_word after) s.solids s.added s.items s.form.1
    (subst (λ n. rest_after unit (Q ++ facet_word ∷ take n (facet_tail u)) text ≡ Some (after_word after)) all
    (inside_spelled limit unit words facets t u text after s read))

-- Faults.

stuck : (limit : ℕ) (unit : LengthUnit) (text after : List ℕ) (solids : List (List Facet)) (tokens more : List Token) (p : Token) (f : StlFault)
    → flat_map solid_tokens solids ≡ tokens ++ p ∷ more → rest_after unit tokens text ≡ Some after → facet_count tokens ≤ limit
    → IsStop limit unit text p (facet_count tokens) after f → (f ≡ fault.Ended Solid → after_space text ≡ [])
    → IsFaultOf limit unit text f
stuck limit unit text after solids tokens more p f cut spelled few stop no_solid = by_fault f stop no_solid
  where
    wants : (at : ℕ) (word : List ℕ) → at + length (after_space after) ≡ length text → word ≡ first_word after
        → Wants limit unit text at p (facet_count tokens) word
    wants at word offset stands = record {
      solids = solids;
      front = tokens;
      more = more;
      cut = cut;
      count = refl;
      few = few;
      rest = after;
      spelled = spelled;
      offset = offset;
      stands = stands;
    }

    by_fault : (g : StlFault) → IsStop limit unit text p (facet_count tokens) after g
        → (g ≡ fault.Ended Solid → after_space text ≡ []) → IsFaultOf limit unit text g
    by_fault (fault.Expected kind at) s h = record {
      token = p;
      facets_before = facet_count tokens;
      word = first_word after;
      wants = wants at (first_word after) s.4 refl;
      kind_is = s.0;
      keyword_wanted = s.1;
      stands = s.2;
      other = s.3;
    }
    by_fault (fault.Ended kind) s h =
        let at_end : length (after_space after) ≡ 0 = ap length (no_word-space after s.1) in
        record {
          token = p;
          facets_before = facet_count tokens;
          wants = wants (length text) [] (omega (arith, at_end)) (sym s.1);
          kind_is = s.0;
          no_solid = λ e. h (ap fault.Ended e);
        }
    by_fault (fault.Number cause at) s h = record {
      z = s.0.0;
      facets_before = facet_count tokens;
      word = first_word after;
      wants = subst (λ q. Wants limit unit text at q (facet_count tokens) (first_word after)) s.0.1
          (wants at (first_word after) s.3 refl);
      stands = s.1;
      refused = s.2;
    }
    by_fault (fault.TooMany at) s h = record {
      word = first_word after;
      wants = subst (λ n. Wants limit unit text at facet_word n (first_word after)) s.1
          (subst (λ q. Wants limit unit text at q (facet_count tokens) (first_word after)) s.0
          (wants at (first_word after) s.3 refl));
      facet = s.2;
    }
    by_fault fault.Memory s h = s

form_few : (limit : ℕ) (some : Bool) (solids : List (List Facet)) (added : List Facet) (count : ℕ)
    → IsForm limit (stage.Between some) solids added count → (added ≡ []) × (count ≤ limit)
form_few limit true solids added count h = (h.0, h.2)
form_few limit false solids added count h = (h.0, h.2)

-- if `solid` is wanted
pub stuck_between : (limit : ℕ) (unit : LengthUnit) (some : Bool) (facets : List Facet) (text after : List ℕ) (f : StlFault)
    → Stands limit unit (stage.Between some) facets text after
    → ((before : ℕ) → IsStop limit unit text (keyword_of Solid) before after f)
    → (f ≡ fault.Ended Solid → after_space text ≡ []) → IsFaultOf limit unit text f
stuck_between limit unit some facets text after f s stop no_solid =
    let form : (s.added ≡ []) × (length facets ≤ limit) = form_few limit some s.solids s.added (length facets) s.form in
    let P : List Token = flat_map solid_tokens s.solids in
    let items : length facets ≡ length (facets_of s.solids) =
    ap length (s.items ∙ ap (λ a. facets_of s.solids ++ a) form.0 ∙ append-nil (facets_of s.solids)) in
    stuck limit unit text after (s.solids ++ [] ∷ []) P (rest_of_line ∷ end_tokens) (keyword_of Solid) f (tokens-more s.solids []) s.spelled
    (omega (arith, facet_count-solids s.solids, items, form.1)) (stop (facet_count P)) no_solid

facets_count : (limit : ℕ) (unit : LengthUnit) (facets : List Facet) (solids : List (List Facet)) (added : List Facet)
    → facets ≡ facets_of solids ++ added → facet_count (flat_map solid_tokens solids ++ open_solid added) ≡ length facets
facets_count limit unit facets solids added items =
    facet_count-open solids added ∙ sym (length-append (facets_of solids) added) ∙ ap length (sym items)

-- if `facet` or `endsolid` is wanted
pub stuck_facets : (limit : ℕ) (unit : LengthUnit) (facets : List Facet) (text after : List ℕ) (f : StlFault)
    → Stands limit unit stage.Facets facets text after → IsStop limit unit text end_word (length facets) after f
    → (f ≡ fault.Ended Solid → after_space text ≡ []) → IsFaultOf limit unit text f
stuck_facets limit unit facets text after f s stop no_solid =
    let P : List Token = flat_map solid_tokens s.solids in
    let count : facet_count (P ++ open_solid s.added) ≡ length facets = facets_count limit unit facets s.solids s.added s.items in
    stuck limit unit text after (s.solids ++ s.added ∷ []) (P ++ open_solid s.added) (rest_of_line ∷ []) end_word f
    (tokens-more s.solids s.added ∙ sym (append_assoc P (open_solid s.added) end_tokens)) s.spelled (omega (arith, count, s.form))
    (subst (λ n. IsStop limit unit text end_word n after f) (sym count) stop) no_solid

-- if one facet too many begins
pub too_many : (limit : ℕ) (unit : LengthUnit) (facets : List Facet) (text after : List ℕ) (f : StlFault)
    → Stands limit unit stage.Facets facets text after → IsStop limit unit text facet_word (length facets) after f
    → (f ≡ fault.Ended Solid → after_space text ≡ []) → IsFaultOf limit unit text f
too_many limit unit facets text after f s stop no_solid =
    let P : List Token = flat_map solid_tokens s.solids in
    let Q : List Token = P ++ open_solid s.added in
    let count : facet_count Q ≡ length facets = facets_count limit unit facets s.solids s.added s.items in
    let more : List Token = facet_tail zero_facet ++ end_tokens in
    stuck limit unit text after (s.solids ++ (s.added ++ zero_facet ∷ []) ∷ []) Q more facet_word f
    (cut_facet s.solids s.added zero_facet [] facet_word (facet_tail zero_facet) refl ∙ ap (λ r. r ++ facet_word ∷ more) (append-nil Q))
    s.spelled (omega (arith, count, s.form))
    (subst (λ n. IsStop limit unit text facet_word n after f) (sym count) stop) no_solid

-- inside a facet
pub stuck_inside : (limit : ℕ) (unit : LengthUnit) (words : ℕ) (facets : List Facet) (t u : Facet) (p : Token) (text after : List ℕ) (f : StlFault)
    → Stands limit unit (stage.Inside words t) facets text after → Goes words p t u
    → ((before : ℕ) → IsStop limit unit text p before after f)
    → (f ≡ fault.Ended Solid → after_space text ≡ []) → IsFaultOf limit unit text f
stuck_inside limit unit words facets t u p text after f s goes stop no_solid =
    let P : List Token = flat_map solid_tokens s.solids in
    let Q : List Token = P ++ open_solid s.added in
    let begun : List Token = facet_word ∷ take words (facet_tail t) in
    let left : List Token = drop (words + 1) (facet_tail u) in
    let count : facet_count Q ≡ length facets = facets_count limit unit facets s.solids s.added s.items in
    let cut : facet_tokens u ≡ begun ++ p ∷ left = ap {B = List Token} (λ ps. facet_word ∷ ps) goes.cut in
    let one : Token → ℕ = λ x. cond (is_facet_word x) 1 0 in
    let split : facet_count (Q ++ begun) ≡ facet_count Q + facet_count begun = sum_by-append one Q begun in
    let parts : facet_count (facet_tokens u) ≡ facet_count begun + facet_count (p ∷ left) = ap facet_count cut ∙ sum_by-append one begun (p ∷ left) in
    let single : facet_count (facet_tokens u) ≡ 1 = refl in
    stuck limit unit text after (s.solids ++ (s.added ++ u ∷ []) ∷ []) (Q ++ begun) (left ++ end_tokens) p f
    (cut_facet s.solids s.added u begun p left cut) s.spelled (omega (arith, split, parts, single, count, s.form.1))
    (stop (facet_count (Q ++ begun))) no_solid

-- the end of a text
pub ended_first : (limit : ℕ) (unit : LengthUnit) (facets : List Facet) (text after : List ℕ)
    → Stands limit unit (stage.Between false) facets text after → after_space after ≡ [] → IsFaultOf limit unit text (fault.Ended Solid)
ended_first limit unit facets text after s e =
    stuck_between limit unit false facets text after (fault.Ended Solid) s (λ before. (refl, ended_word after e))
    (λ _. ap after_space whole ∙ e)
  where
    whole : text ≡ after
    whole = some-is (sym (ap (λ solids. rest_after unit (flat_map solid_tokens solids) text) s.form.1) ∙ s.spelled)

-- Words.

-- a word of a normal
pub reads_as : (bytes word : List ℕ) → word_front (first_word bytes) ≡ word_front word → 0 < length word
    → nat_lt 0 (length (first_word bytes)) ≡ true
reads_as bytes word is some = lt-ltb 0 (length (first_word bytes)) (same_some (first_word bytes) word is some)

-- a coordinate
pub reads_number : (unit : LengthUnit) (bytes word : List ℕ) (z : ℤ) → word_front (first_word bytes) ≡ word_front word → coordinate_of unit word ≡ Ok z
    → is_read_as z (first_word bytes) unit ≡ true
reads_number unit bytes word z is read =
    ap (λ o. elim o [ Ok x ↦ int_eq x z | Err cause ↦ false ]) (same_number unit (first_word bytes) word is ∙ read) ∙ (Decides-int_eq z z).1 refl
