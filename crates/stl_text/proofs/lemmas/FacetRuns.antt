-- Rests of a text, and runs of facets in it.
use Rattle.std.proofs.Common.{◌≡◌, ℕ, ◌+◌, ◌-◌, ◌<◌, ◌≤◌, Bool, true, false, List, [], ◌∷◌, ◌++◌, length, drop, refl, sym, ◌∙◌, ap, subst, arith, append_assoc, append-nil, drop-drop, length-append, length-drop}
use Rattle.std.proofs.Common.{zero, suc, leb-true, leb-false}
use lib.Seq.{drop-nil}
use Rattle.std.specs.List.{All}
use Rattle.std.proofs.lemmas.List.Elements.{All-append}
use Rattle.std.specs.Prelude.{Some, None, if◌then◌else◌, nat_le}
use Rattle.std.specs.List.{position_or_len, prefix_len}
use Rattle.std.proofs.Math.Seq.{drop-append_seam, drop-length}
use Rattle.micro_num.specs.declared.unit.Unit.{Unit as LengthUnit}
use Rattle.geometry.specs.Facet.{Facet}
use Rattle.stl_text.specs.FacetRun.{IsRestOf, IsFacetRun, StandsBefore, next_solid}
use Rattle.stl_text.specs.Reader.{facet_tail}
use Rattle.stl_text.specs.Text.{Token, keyword, normal_word, coordinate, rest_of_line, after_space, after_token, after_word, after_line, begins_with, end_keyword, facet_keyword, first_word, is_keyword, is_line_end, is_white, keyword_of, keyword_text, facet_tokens, rest_after}
use Rattle.stl_text.specs.declared.word.Word.TheVariants.{FacetOrEnd, Solid}
use Rattle.stl_text.proofs.lemmas.Locality.{seen_keyword, tokens-on}
use Rattle.stl_text.proofs.lemmas.Stages.{facet_read, solid_passed}

-- Rests of a text.

pub whole_rest : (text : List ℕ) → IsRestOf text text
whole_rest text = record { skipped = 0; rest_is = refl }

pub rest_then : (text mid rest : List ℕ) → IsRestOf text mid → IsRestOf mid rest → IsRestOf text rest
rest_then text mid rest first last = record {
  skipped = first.skipped + last.skipped;
  rest_is = last.rest_is ∙ ap (drop last.skipped) first.rest_is ∙ drop-drop last.skipped first.skipped text;
}

-- the end of a text is a rest of it
pub no_rest : (text : List ℕ) → IsRestOf text []
no_rest text = record { skipped = length text; rest_is = sym (drop-length text) }

pub drop_rest : (n : ℕ) (text rest : List ℕ) → rest ≡ drop n text → IsRestOf text rest
drop_rest n text rest rest_is = record { skipped = n; rest_is = rest_is }

-- what was added to a text is a rest of it
pub added_rest : (text chunk : List ℕ) → IsRestOf (text ++ chunk) chunk
added_rest text chunk = record { skipped = length text; rest_is = sym (drop-append_seam text chunk) }

pub rest_within : (text rest : List ℕ) → IsRestOf text rest → length rest ≤ length text
rest_within text rest is = omega (arith, ap length is.rest_is, length-drop is.skipped text)

-- a rest as long as the text is the text
drop-same : (n : ℕ) (text : List ℕ) → length (drop n text) ≡ length text → drop n text ≡ text
drop-same n [] same = drop-nil n
drop-same zero (b ∷ bs) same = refl
drop-same (suc n) (b ∷ bs) same = absurd (omega (arith, same, length-drop n bs))

-- a text has one rest of each length
pub same_rest : (text xs ys : List ℕ) → IsRestOf text xs → IsRestOf text ys → length xs ≡ length ys → xs ≡ ys
same_rest text xs ys one other same = by_order (nat_le one.skipped other.skipped) refl
  where
    further : (m n : ℕ) (us vs : List ℕ) → us ≡ drop m text → vs ≡ drop n text → m ≤ n → length us ≡ length vs → us ≡ vs
    further m n us vs us_is vs_is le e =
        let k : m + (n - m) ≡ n = omega (arith, le) in
        let vs_rest : vs ≡ drop (n - m) us = vs_is ∙ ap (λ x. drop x text) (sym k) ∙ sym (drop-drop (n - m) m text) ∙ ap (drop (n - m)) (sym us_is) in
        sym (vs_rest ∙ drop-same (n - m) us (ap length (sym vs_rest) ∙ sym e))

    by_order : (b : Bool) → nat_le one.skipped other.skipped ≡ b → xs ≡ ys
    by_order true h = further one.skipped other.skipped xs ys one.rest_is other.rest_is (leb-true _ _ h) same
    by_order false h = sym (further other.skipped one.skipped ys xs other.rest_is one.rest_is (omega (arith, leb-false _ _ h)) (sym same))

after_word-rest : (bytes : List ℕ) → IsRestOf bytes (after_word bytes)
after_word-rest bytes = record {
  skipped = prefix_len is_white bytes + position_or_len is_white (after_space bytes);
  rest_is = drop-drop (position_or_len is_white (after_space bytes)) (prefix_len is_white bytes) bytes;
}

after_token-rest : (p : Token) (bytes : List ℕ) → IsRestOf bytes (after_token p bytes)
after_token-rest rest_of_line bytes = record { skipped = position_or_len is_line_end bytes; rest_is = refl }
after_token-rest (keyword wanted text) bytes = after_word-rest bytes
after_token-rest normal_word bytes = after_word-rest bytes
after_token-rest (coordinate z) bytes = after_word-rest bytes

pub rest_after-rest : (unit : LengthUnit) (ps : List Token) (bytes rest : List ℕ) → rest_after unit ps bytes ≡ Some rest → IsRestOf bytes rest
rest_after-rest unit [] bytes rest e =
    let same : bytes ≡ rest = cc in
    subst (IsRestOf bytes) same (whole_rest bytes)
rest_after-rest unit (p ∷ ps) bytes rest e =
    by_test (begins_with unit p bytes) (rest_after-rest unit ps (after_token p bytes) rest) e
  where
    by_test : (b : Bool) → (rest_after unit ps (after_token p bytes) ≡ Some rest → IsRestOf (after_token p bytes) rest)
        → (if b then rest_after unit ps (after_token p bytes) else None) ≡ Some rest → IsRestOf bytes rest
    by_test true later h = rest_then bytes (after_token p bytes) rest (after_token-rest p bytes) (later h)
    by_test false later h = cc

-- Runs.

-- a run of no facets
pub run_begun : (unit : LengthUnit) (text from : List ℕ) → IsRestOf text from → IsFacetRun unit text [] from from
run_begun unit text from begins = record {
  begins = begins;
  ends = whole_rest from;
  leads = λ limit had whole more is room. subst (λ fs. StandsBefore limit unit fs whole (from ++ more)) (sym (append-nil had)) is;
}

-- one facet more
pub run_facet : (unit : LengthUnit) (text : List ℕ) (facets : List Facet) (t : Facet) (from to rest : List ℕ) → IsFacetRun unit text facets from to
    → rest_after unit (facet_tokens t) to ≡ Some rest → 0 < length rest → IsFacetRun unit text (facets ++ t ∷ []) from rest
run_facet unit text facets t from to rest run spelled some = record {
  begins = run.begins;
  ends = rest_then from to rest run.ends (rest_after-rest unit (facet_tokens t) to rest spelled);
  leads = λ limit had whole more is room.
      let mid : StandsBefore limit unit (had ++ facets) whole (to ++ more) =
      run.leads limit had whole more is (omega (arith, room, length-append facets (t ∷ []))) in
      subst (λ fs. StandsBefore limit unit fs whole (rest ++ more)) (append_assoc had facets (t ∷ []))
      (record {
        after = rest ++ more;
        stands = facet_read limit unit (had ++ facets) t whole mid.after (rest ++ more) mid.stands
            (omega (arith, room, length-append facets (t ∷ []), length-append had facets))
            (seen_keyword unit FacetOrEnd facet_keyword (facet_tail t) mid.after (to ++ more) (rest ++ more) mid.sees
            (tokens-on unit (facet_tokens t) to more rest spelled some));
        sees = refl;
      });
}

-- the end of a solid, and the beginning of the next
pub run_solid : (unit : LengthUnit) (text : List ℕ) (facets : List Facet) (from to rest : List ℕ) → IsFacetRun unit text facets from to
    → rest_after unit next_solid to ≡ Some rest → 0 < length rest → IsFacetRun unit text facets from rest
run_solid unit text facets from to rest run spelled some = record {
  begins = run.begins;
  ends = rest_then from to rest run.ends (rest_after-rest unit next_solid to rest spelled);
  leads = λ limit had whole more is room.
      let mid : StandsBefore limit unit (had ++ facets) whole (to ++ more) = run.leads limit had whole more is room in
      record {
        after = rest ++ more;
        stands = solid_passed limit unit (had ++ facets) whole mid.after (rest ++ more) mid.stands
            (seen_keyword unit FacetOrEnd end_keyword (rest_of_line ∷ keyword_of Solid ∷ rest_of_line ∷ []) mid.after (to ++ more) (rest ++ more) mid.sees
            (tokens-on unit next_solid to more rest spelled some));
        sees = refl;
      };
}

-- the end of a solid and the beginning of the next, word by word and line by line
pub next_solid_read : (unit : LengthUnit) (bytes remark line solid name inside : List ℕ) → is_keyword end_keyword (first_word bytes) ≡ true
    → remark ≡ after_word bytes → line ≡ after_line remark → solid ≡ keyword_text Solid → is_keyword solid (first_word line) ≡ true
    → name ≡ after_word line → inside ≡ after_line name → rest_after unit next_solid bytes ≡ Some inside
next_solid_read unit bytes remark line solid name inside ends remark_is line_is solid_is begins name_is inside_is =
    let mid : after_line (after_word bytes) ≡ line = sym (line_is ∙ ap after_line remark_is) in
    let next : is_keyword (keyword_text Solid) (first_word line) ≡ true = sym (ap (λ s. is_keyword s (first_word line)) solid_is) ∙ begins in
    ap (λ b. if b then rest_after unit (rest_of_line ∷ keyword_of Solid ∷ rest_of_line ∷ []) (after_word bytes) else None) ends
    ∙ ap (λ bs. rest_after unit (keyword_of Solid ∷ rest_of_line ∷ []) bs) mid
    ∙ ap (λ b. if b then Some (after_line (after_word line)) else None) next
    ∙ ap Some (sym (inside_is ∙ ap after_line name_is))

-- Lists of runs.

-- what holds of each element of two lists holds of each of them together, if the second list was added
pub all_added : {X : Type 0} (P : X → Type 0) (b : Bool) (xs ys zs : List X) → zs ≡ (if b then xs ++ ys else xs) → All P xs → All P ys → All P zs
all_added P true xs ys zs is had more = subst (All P) (sym is) (All-append P xs ys had more)
all_added P false xs ys zs is had more = subst (All P) (sym is) had

pub all_of_one : {X : Type 0} (P : X → Type 0) (x : X) → P x → All P (x ∷ [])
all_of_one P x p zero d lt = p
all_of_one P x p (suc k) d lt = absurd (omega (arith, lt))
