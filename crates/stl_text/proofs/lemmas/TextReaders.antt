-- Reading a text in chunks: what a reader knows of the text so far, whatever follows it.
use Rattle.std.proofs.Common.{◌≡◌, ℕ, ◌+◌, ◌-◌, ◌<◌, ◌≤◌, Bool, true, false, not, List, [], ◌∷◌, ◌++◌, length, take, drop, refl, sym, ◌∙◌, ap, subst, ◌⊎◌, inl, inr, arith, append_assoc, append-nil, length-append}
use Rattle.std.specs.Prelude.{Some}
use Rattle.std.specs.List.{list_all, before_first, position_or_len}
use Rattle.std.proofs.Math.Numerals.{one-add}
use Rattle.std.proofs.lemmas.List.{take-append-drop}
use Rattle.micro_num.specs.declared.unit.Unit.{Unit as LengthUnit}
use Rattle.micro_num.proofs.lemmas.Grammar.{Starts, from_starts}
use Rattle.geometry.specs.Facet.{Facet}
use Rattle.stl_text.specs.declared.stl_fault.StlFault.{StlFault}
use Rattle.stl_text.specs.declared.stage.Stage.{Stage}
use Rattle.stl_text.specs.declared.stage.Stage.TheVariants as stage
use Rattle.stl_text.specs.declared.stage.ReaderState.{ReaderState}
use Rattle.stl_text.specs.declared.stage.ReaderState.TheVariants as state
use Rattle.stl_text.specs.Text.{first_word, after_space, after_word, after_line, is_white, IsFaultOf, facet_keyword, facet_tokens, is_line_end, rest_after}
use Rattle.stl_text.specs.Reader.{facet_tail}
use Rattle.stl_text.specs.Stage.{AtWord, IsForm, Stands, word_front}
use Rattle.stl_text.specs.TextReader.{EndsAt, IsAfter, IsReading, IsReadingAt, TextReader, StandsAt, Waits, whole}
use Rattle.stl_text.specs.FacetRun.{IsFacetRun, IsRestOf, StandsBefore}
use Rattle.stl_text.specs.declared.word.Word.TheVariants.{FacetOrEnd}
use Rattle.stl_text.proofs.lemmas.Locality.{line-on, line-over, seen_keyword, space-on, space-over, starts-on, tokens-on, word-first, word_next}
use Rattle.stl_text.proofs.lemmas.Fronts.{clear-append, is_clear, line_end_white}
use Rattle.stl_text.proofs.lemmas.FacetRuns.{added_rest, drop_rest, no_rest, rest_after-rest, rest_then, rest_within, same_rest, whole_rest}
use Rattle.stl_text.proofs.lemmas.Stages.{facet_read}
use Rattle.stl_text.proofs.lemmas.Either.{after_space-le, no_word-space}
use Rattle.stl_text.proofs.lemmas.WordFronts.{front_some, front_twice, no_word, word_some}

-- no word has no bytes
no_bytes : {P : Type 0} → 0 < length {A = ℕ} [] → P
no_bytes some = absurd (omega (arith, some))

-- A reader before its first byte.

pub at_start : (limit : ℕ) (unit : LengthUnit) → IsAfter limit unit []
    (record { limit = limit; unit = unit; count = 0; state = state.Word (stage.Between false); held = []; held_at = 0; facets = [] }) []
at_start limit unit = record {
  limit_is = omega arith;
  unit_is = refl;
  count_is = refl;
  is_rest = whole_rest [];
  word = [];
  held_is = refl;
  begins = no_bytes;
  clear = refl;
  after = λ more. more;
  stands = λ more. record { solids = []; added = []; items = refl; form = (refl, refl, omega arith); spelled = refl };
  sees = λ more. refl;
}

-- The next chunk comes.

begun_at : (limit : ℕ) (unit : LengthUnit) (p q : TextReader) (in_line : Bool) (s : Stage) (fed chunk : List ℕ)
    → q ≡ record p { count = p.count + length chunk } → Waits limit unit p s in_line fed [] → Waits limit unit q s in_line (fed ++ chunk) chunk
begun_at limit unit p q in_line s fed chunk e w = subst (λ r. Waits limit unit r s in_line (fed ++ chunk) chunk) (sym e) (record {
  limit_is = w.limit_is;
  unit_is = w.unit_is;
  count_is = omega (arith, w.count_is, length-append fed chunk);
  is_rest = added_rest fed chunk;
  word = w.word;
  held_is = w.held_is;
  begins = λ some. omega (arith, w.begins some, length-append fed chunk);
  clear = w.clear;
  after = λ more. w.after (chunk ++ more);
  stands = λ more. subst (λ t. Stands limit unit s p.facets t (w.after (chunk ++ more))) (sym (append_assoc fed chunk more)) (w.stands (chunk ++ more));
  sees = λ more. w.sees (chunk ++ more);
})

pub begun : (limit : ℕ) (unit : LengthUnit) (taken : List Facet) (r : TextReader) (fed chunk : List ℕ) → IsAfter limit unit taken r fed
    → IsReading limit unit taken (record r { count = r.count + length chunk }) (fed ++ chunk) chunk
begun limit unit taken r fed chunk is = at r.state is
  where
    p : TextReader
    p = whole taken r

    at : (pl : ReaderState) → IsReadingAt limit unit p pl fed [] → IsReadingAt limit unit (record p { count = p.count + length chunk }) pl (fed ++ chunk) chunk
    at (state.Word s) w = begun_at limit unit p (record p { count = p.count + length chunk }) false s fed chunk refl w
    at (state.Line s) w = (begun_at limit unit p (record p { count = p.count + length chunk }) true s fed chunk refl w.0, w.1)
    at (state.Stopped f) h = λ no more. subst (λ t. IsFaultOf limit unit t f) (sym (append_assoc fed chunk more)) (h no (chunk ++ more))

-- A word that is whole.

pub record Next (limit : ℕ) (unit : LengthUnit) (s : Stage) (facets : List Facet) (text word rest : List ℕ) (at : ℕ) : Type 0 where
  pub after : (more : List ℕ) → List ℕ
  pub at_word : (more : List ℕ) → AtWord limit unit s facets (text ++ more) (after more) word at
  pub left : (more : List ℕ) → after_word (after more) ≡ rest ++ more

-- `known` is the word, or its front
next_word : (limit : ℕ) (unit : LengthUnit) (p : TextReader) (s : Stage) (text ahead word known rest : List ℕ) (at : ℕ)
    (w : Waits limit unit p s false text ahead) → word_front word ≡ word_front known → 0 < length known → list_all is_clear word ≡ true
    → Starts is_white rest → 0 < length rest → ((more : List ℕ) → after_space (w.word ++ (ahead ++ more)) ≡ word ++ (rest ++ more))
    → at + (length word + length rest) ≡ length text → Next limit unit s p.facets text known rest at
next_word limit unit p s text ahead word known rest at w same some clear starts left_some spaced at_is = record {
  after = w.after;
  at_word = λ more. record {
    stands = w.stands more;
    word_is = ap word_front (next more).0 ∙ same;
    some = some;
    at_is = omega (arith, at_is, length-append text more, length_is more);
  };
  left = λ more. (next more).1;
}
  where
    seen : (more : List ℕ) → after_space (w.after more) ≡ word ++ (rest ++ more)
    seen more = w.sees more ∙ spaced more

    next : (more : List ℕ) → (first_word (w.after more) ≡ word) × (after_word (w.after more) ≡ rest ++ more)
    next more = word_next (w.after more) word (rest ++ more) (seen more) clear (starts-on rest more starts left_some)

    length_is : (more : List ℕ) → length (after_space (w.after more)) ≡ length word + (length rest + length more)
    length_is more = ap length (seen more) ∙ length-append word (rest ++ more) ∙ ap (λ n. length word + n) (length-append rest more)

-- after the word
moved : (limit : ℕ) (unit : LengthUnit) (q : TextReader) (s : Stage) (pl : ReaderState) (facets : List Facet) (text word rest : List ℕ) (at : ℕ)
    → Next limit unit s facets text word rest at
    → ((t after : List ℕ) → AtWord limit unit s facets t after word at → StandsAt limit unit pl q.facets t after)
    → q.limit ≡ limit → q.unit ≡ unit → q.count ≡ length text → q.held ≡ [] → IsRestOf text rest
    → IsReadingAt limit unit q pl text rest
moved limit unit q s (state.Word u) facets text word rest at n read limit_is unit_is count_is none is_rest = record {
  limit_is = limit_is;
  unit_is = unit_is;
  count_is = count_is;
  is_rest = is_rest;
  word = [];
  held_is = none;
  begins = no_bytes;
  clear = refl;
  after = λ more. after_word (n.after more);
  stands = λ more. read (text ++ more) (n.after more) (n.at_word more);
  sees = λ more. ap after_space (n.left more);
}
moved limit unit q s (state.Line u) facets text word rest at n read limit_is unit_is count_is none is_rest = (
  record {
    limit_is = limit_is;
    unit_is = unit_is;
    count_is = count_is;
    is_rest = is_rest;
    word = [];
    held_is = none;
    begins = no_bytes;
    clear = refl;
    after = λ more. after_line (after_word (n.after more));
    stands = λ more. read (text ++ more) (n.after more) (n.at_word more);
    sees = λ more. ap after_line (n.left more);
  },
  none,
)
moved limit unit q s (state.Stopped f) facets text word rest at n read limit_is unit_is count_is none is_rest =
    λ no more. read (text ++ more) (n.after more) (n.at_word more) no

-- The front of some bytes, up to white space.

front-clear : (p : ℕ → Bool) (xs : List ℕ) → list_all (λ x. not (p x)) (take (position_or_len p xs) xs) ≡ true
front-clear p [] = refl
front-clear p (x ∷ xs) = at_head (front-clear p xs) (p x) refl
  where
    at_head : list_all (λ y. not (p y)) (take (position_or_len p xs) xs) ≡ true → (b : Bool) → p x ≡ b
        → list_all (λ y. not (p y)) (take (position_or_len p (x ∷ xs)) (x ∷ xs)) ≡ true
    at_head tail true passes = rw passes refl
    at_head tail false fails = rw fails (rw one-add (rw fails tail))

-- The rest of a line.

-- the line goes on after the bytes ahead
pub line_on : (limit : ℕ) (unit : LengthUnit) (p : TextReader) (s : Stage) (text ahead rest : List ℕ) → IsReadingAt limit unit p (state.Line s) text ahead
    → rest ≡ after_line ahead → rest ≡ [] → IsReadingAt limit unit p (state.Line s) text rest
line_on limit unit p s text ahead rest is rest_is none =
    subst (λ r. IsReadingAt limit unit p (state.Line s) text r) (sym none) (
      record {
        limit_is = is.0.limit_is;
        unit_is = is.0.unit_is;
        count_is = is.0.count_is;
        is_rest = no_rest text;
        word = [];
        held_is = is.1;
        begins = no_bytes;
        clear = refl;
        after = is.0.after;
        stands = is.0.stands;
        sees = λ more. is.0.sees more ∙ ap (λ h. after_line (h ++ (ahead ++ more))) (no_word is.0.word p.held is.0.held_is is.1)
            ∙ line-over ahead more (sym rest_is ∙ none);
      },
      is.1,
    )

-- the line ends in the bytes ahead
pub line_ended : (limit : ℕ) (unit : LengthUnit) (p q : TextReader) (s : Stage) (text ahead rest : List ℕ) → IsReadingAt limit unit p (state.Line s) text ahead
    → q.limit ≡ p.limit → q.unit ≡ p.unit → q.count ≡ p.count → q.held ≡ p.held → q.facets ≡ p.facets
    → rest ≡ after_line ahead → 0 < length rest → IsReadingAt limit unit q (state.Word s) text rest
line_ended limit unit p q s text ahead rest is limit_is unit_is count_is held_is facets_is rest_is some =
    let none : q.held ≡ [] = held_is ∙ is.1 in
    record {
      limit_is = limit_is ∙ is.0.limit_is;
      unit_is = unit_is ∙ is.0.unit_is;
      count_is = count_is ∙ is.0.count_is;
      is_rest = rest_then text ahead rest is.0.is_rest (drop_rest (position_or_len is_line_end ahead) ahead rest rest_is);
      word = [];
      held_is = none;
      begins = no_bytes;
      clear = refl;
      after = is.0.after;
      stands = λ more. subst (λ fs. Stands limit unit s fs (text ++ more) (is.0.after more)) (sym facets_is) (is.0.stands more);
      sees = λ more. ap after_space
          (is.0.sees more ∙ ap (λ h. after_line (h ++ (ahead ++ more))) (no_word is.0.word p.held is.0.held_is is.1)
          ∙ line-on ahead more (subst (λ r. 0 < length r) rest_is some) ∙ ap (λ r. r ++ more) (sym rest_is));
    }

-- White space, and a word that goes on after the bytes ahead.

-- only white space is ahead
pub space_passed : (limit : ℕ) (unit : LengthUnit) (p : TextReader) (s : Stage) (text ahead rest : List ℕ) → Waits limit unit p s false text ahead
    → p.held ≡ [] → rest ≡ after_space ahead → rest ≡ [] → Waits limit unit p s false text rest
space_passed limit unit p s text ahead rest w none rest_is empty =
    subst (λ r. Waits limit unit p s false text r) (sym empty)
    (record {
      limit_is = w.limit_is;
      unit_is = w.unit_is;
      count_is = w.count_is;
      is_rest = no_rest text;
      word = [];
      held_is = none;
      begins = no_bytes;
      clear = refl;
      after = w.after;
      stands = w.stands;
      sees = λ more. w.sees more ∙ ap (λ h. after_space (h ++ (ahead ++ more))) (no_word w.word p.held w.held_is none)
          ∙ space-over ahead more (sym rest_is ∙ empty);
    })

-- what is seen of the bytes ahead after their white space
front_seen : (word ahead front more : List ℕ) → word ≡ [] → front ≡ after_space ahead → 0 < length front
    → after_space (word ++ (ahead ++ more)) ≡ front ++ more
front_seen word ahead front more none front_is some =
    ap (λ h. after_space (h ++ (ahead ++ more))) none ∙ space-on ahead more (subst (λ f. 0 < length f) front_is some) ∙ ap (λ f. f ++ more) (sym front_is)

-- the front of a word is kept
word_held : (limit : ℕ) (unit : LengthUnit) (p q : TextReader) (s : Stage) (text ahead word : List ℕ) (w : Waits limit unit p s false text ahead)
    → q.limit ≡ p.limit → q.unit ≡ p.unit → q.count ≡ p.count → q.facets ≡ p.facets → q.held ≡ word_front word
    → list_all is_clear word ≡ true → 0 < length word → q.held_at + length word ≡ length text
    → ((more : List ℕ) → after_space (w.word ++ (ahead ++ more)) ≡ word ++ more) → Waits limit unit q s false text []
word_held limit unit p q s text ahead word w limit_is unit_is count_is facets_is held_is clear some at_is seen = record {
  limit_is = limit_is ∙ w.limit_is;
  unit_is = unit_is ∙ w.unit_is;
  count_is = count_is ∙ w.count_is;
  is_rest = no_rest text;
  word = word;
  held_is = held_is;
  begins = λ _. omega (arith, at_is);
  clear = clear;
  after = w.after;
  stands = λ more. subst (λ fs. Stands limit unit s fs (text ++ more) (w.after more)) (sym facets_is) (w.stands more);
  sees = λ more. w.sees more ∙ seen more ∙ sym (word-first word more some clear);
}

-- A whole facet.

pub facet_passed : (limit : ℕ) (unit : LengthUnit) (p q : TextReader) (t : Facet) (text ahead rest : List ℕ) → Waits limit unit p stage.Facets false text ahead
    → p.held ≡ [] → rest_after unit (facet_tokens t) ahead ≡ Some rest → 0 < length rest → length p.facets < limit
    → q.limit ≡ p.limit → q.unit ≡ p.unit → q.count ≡ p.count → q.held ≡ p.held → q.facets ≡ p.facets ++ t ∷ []
    → Waits limit unit q stage.Facets false text rest
facet_passed limit unit p q t text ahead rest w none spelled some room limit_is unit_is count_is held_is facets_is =
    record {
      limit_is = limit_is ∙ w.limit_is;
      unit_is = unit_is ∙ w.unit_is;
      count_is = count_is ∙ w.count_is;
      is_rest = rest_then text ahead rest w.is_rest (rest_after-rest unit (facet_tokens t) ahead rest spelled);
      word = [];
      held_is = held_is ∙ none;
      begins = no_bytes;
      clear = refl;
      after = λ more. rest ++ more;
      stands = λ more. subst (λ fs. Stands limit unit stage.Facets fs (text ++ more) (rest ++ more)) (sym facets_is)
          (facet_read limit unit p.facets t (text ++ more) (w.after more) (rest ++ more) (w.stands more) room (read more));
      sees = λ more. refl;
    }
  where
    seen : (more : List ℕ) → after_space (w.after more) ≡ after_space (ahead ++ more)
    seen more = w.sees more ∙ ap (λ h. after_space (h ++ (ahead ++ more))) (no_word w.word p.held w.held_is none)

    read : (more : List ℕ) → rest_after unit (facet_tokens t) (w.after more) ≡ Some (rest ++ more)
    read more =
        seen_keyword unit FacetOrEnd facet_keyword (facet_tail t) (w.after more) (ahead ++ more) (rest ++ more) (seen more)
        (tokens-on unit (facet_tokens t) ahead more rest spelled some)

-- A run of facets.

-- the facets that a reader has, after those that were taken off it, and then those of the run
pub run_added : (taken had run items all : List Facet) → all ≡ had ++ items → items ≡ run → taken ++ all ≡ (taken ++ had) ++ run
run_added taken had run items all added same =
    ap (λ fs. taken ++ fs) (added ∙ ap (λ xs. had ++ xs) same) ∙ sym (append_assoc taken had run)

pub run_passed : (limit : ℕ) (unit : LengthUnit) (p q : TextReader) (facets : List Facet) (fed chunk ahead from to : List ℕ)
    → Waits limit unit p stage.Facets false (fed ++ chunk) ahead → p.held ≡ [] → IsFacetRun unit chunk facets from to → length ahead ≡ length from
    → length p.facets + length facets ≤ limit
    → q.limit ≡ p.limit → q.unit ≡ p.unit → q.count ≡ p.count → q.held ≡ p.held → q.facets ≡ p.facets ++ facets
    → Waits limit unit q stage.Facets false (fed ++ chunk) to
run_passed limit unit p q facets fed chunk ahead from to w none run long room limit_is unit_is count_is held_is facets_is =
    record {
      limit_is = limit_is ∙ w.limit_is;
      unit_is = unit_is ∙ w.unit_is;
      count_is = count_is ∙ w.count_is;
      is_rest = is_rest;
      word = [];
      held_is = held_is ∙ none;
      begins = no_bytes;
      clear = refl;
      after = λ more. (passed more).after;
      stands = λ more. subst (λ fs. Stands limit unit stage.Facets fs ((fed ++ chunk) ++ more) (passed more).after) (sym facets_is) (passed more).stands;
      sees = λ more. (passed more).sees;
    }
  where
    begins : IsRestOf (fed ++ chunk) from
    begins = rest_then (fed ++ chunk) chunk from (added_rest fed chunk) run.begins

    here : ahead ≡ from
    here = same_rest (fed ++ chunk) ahead from w.is_rest begins long

    is_rest : IsRestOf (fed ++ chunk) to
    is_rest = rest_then (fed ++ chunk) from to begins run.ends

    passed : (more : List ℕ) → StandsBefore limit unit (p.facets ++ facets) ((fed ++ chunk) ++ more) (to ++ more)
    passed more =
        run.leads limit p.facets ((fed ++ chunk) ++ more) more
        (record {
          after = w.after more;
          stands = w.stands more;
          sees = w.sees more ∙ ap (λ h. after_space (h ++ (ahead ++ more))) (no_word w.word p.held w.held_is none)
              ∙ ap (λ f. after_space (f ++ more)) here;
        })
        room

-- The end of a text.

ended_at : (limit : ℕ) (unit : LengthUnit) (p : TextReader) (s : Stage) (pl : ReaderState) (facets : List Facet) (fed : List ℕ)
    → Waits limit unit p s false fed [] → 0 < length p.held
    → ((t after : List ℕ) → AtWord limit unit s p.facets t after p.held p.held_at → StandsAt limit unit pl facets t after)
    → EndsAt limit unit pl facets fed
ended_at limit unit p s pl facets fed w kept read = by_state pl (read fed (w.after []) at_word)
  where
    some : 0 < length w.word
    some = word_some w.word (subst (λ h. 0 < length h) w.held_is kept)

    seen : after_space (w.after []) ≡ w.word ++ []
    seen = w.sees [] ∙ word-first w.word [] some w.clear

    next : (first_word (w.after []) ≡ w.word) × (after_word (w.after []) ≡ [])
    next = word_next (w.after []) w.word [] seen w.clear tt

    at_word : AtWord limit unit s p.facets fed (w.after []) p.held p.held_at
    at_word = record {
      stands = subst (λ t. Stands limit unit s p.facets t (w.after [])) (append-nil fed) (w.stands []);
      word_is = ap word_front next.0 ∙ sym (ap word_front w.held_is ∙ front_twice w.word);
      some = kept;
      at_is = omega (arith, w.begins some, ap length seen, length-append w.word []);
    }

    by_state : (x : ReaderState) → StandsAt limit unit x facets fed (w.after []) → EndsAt limit unit x facets fed
    by_state (state.Word u) h = (after_word (w.after []), h, ap after_space next.1)
    by_state (state.Line u) h = (after_line (after_word (w.after [])), h, ap (λ r. after_space (after_line r)) next.1)
    by_state (state.Stopped f) h = h

-- no word is kept
ended_free : (limit : ℕ) (unit : LengthUnit) (p : TextReader) (s : Stage) (fed : List ℕ) → Waits limit unit p s false fed [] → p.held ≡ []
    → EndsAt limit unit (state.Word s) p.facets fed
ended_free limit unit p s fed w none = (
  w.after [],
  subst (λ t. Stands limit unit s p.facets t (w.after [])) (append-nil fed) (w.stands []),
  w.sees [] ∙ ap (λ h. after_space (h ++ [])) (no_word w.word p.held w.held_is none),
)

-- the text ends in a line, or after a fault
ended_other : (limit : ℕ) (unit : LengthUnit) (p : TextReader) (s : Stage) (fed : List ℕ) → IsReadingAt limit unit p (state.Line s) fed []
    → EndsAt limit unit (state.Line s) p.facets fed
ended_other limit unit p s fed is = (
  is.0.after [],
  subst (λ t. Stands limit unit s p.facets t (is.0.after [])) (append-nil fed) (is.0.stands []),
  ap after_space (is.0.sees [] ∙ ap (λ h. after_line (h ++ [])) (no_word is.0.word p.held is.0.held_is is.1)),
)

ended_stopped : (limit : ℕ) (unit : LengthUnit) (p : TextReader) (f : StlFault) (fed : List ℕ) → IsReadingAt limit unit p (state.Stopped f) fed []
    → EndsAt limit unit (state.Stopped f) p.facets fed
ended_stopped limit unit p f fed is = λ no. subst (λ t. IsFaultOf limit unit t f) (append-nil fed) (is no [])

-- Bytes that are cut after their first word.

pub record Cut (front word rest : List ℕ) : Type 0 where
  pub clear : list_all is_clear word ≡ true
  pub whole : front ≡ word ++ rest
  pub starts : Starts is_white rest

cut_at : (front word rest : List ℕ) (n : ℕ) → n ≡ position_or_len is_white front → word ≡ take n front → rest ≡ drop n front → Cut front word rest
cut_at front word rest n n_is word_is rest_is = record {
  clear = ap (list_all is_clear) (word_is ∙ ap (λ k. take k front) n_is) ∙ front-clear is_white front;
  whole = sym (take-append-drop n front) ∙ ap (λ w. w ++ drop n front) (sym word_is) ∙ ap (λ r. word ++ r) (sym rest_is);
  starts = subst (Starts is_white) (sym (rest_is ∙ ap (λ k. drop k front) n_is)) (from_starts is_white front);
}

-- after white space there is a word
pub first_some : (ahead front word : List ℕ) (n : ℕ) → front ≡ after_space ahead → 0 < length front → n ≡ position_or_len is_white front → word ≡ take n front
    → 0 < length word
first_some ahead front word n front_is some n_is word_is = by_word word refl
  where
    by_word : (w : List ℕ) → word ≡ w → 0 < length w
    by_word [] e =
        let none : first_word ahead ≡ [] = ap (before_first is_white) (sym front_is) ∙ ap (λ k. take k front) (sym n_is) ∙ sym word_is ∙ e in
        absurd (omega (arith, some, ap length (front_is ∙ no_word-space ahead none)))
    by_word (b ∷ bs) e = omega arith

pub front_le : (ahead front : List ℕ) → front ≡ after_space ahead → length front ≤ length ahead
front_le ahead front front_is = omega (arith, ap length front_is, after_space-le ahead)

-- after a word, if the limit and the unit are those of the reader
pub moved_by : (limit l : ℕ) (unit u : LengthUnit) (q : TextReader) (s : Stage) (pl : ReaderState) (facets : List Facet) (text word rest : List ℕ) (at : ℕ)
    → l ≡ limit → u ≡ unit → q.limit ≡ l → q.unit ≡ u → Next limit unit s facets text word rest at
    → ((t after : List ℕ) → AtWord l u s facets t after word at → StandsAt l u pl q.facets t after)
    → q.count ≡ length text → q.held ≡ [] → IsRestOf text rest → IsReadingAt limit unit q pl text rest
moved_by limit l unit u q s pl facets text word rest at l_is u_is q_limit q_unit n read count_is none is_rest =
    subst (λ v. IsReadingAt limit v q pl text rest) u_is
    (subst (λ k. IsReadingAt k u q pl text rest) l_is
    (moved l u q s pl facets text word rest at
    (subst (λ v. Next l v s facets text word rest at) (sym u_is) (subst (λ k. Next k unit s facets text word rest at) (sym l_is) n))
    read q_limit q_unit count_is none is_rest))

-- The word at the front of the bytes ahead, if none is kept.

pub front_word : (limit : ℕ) (unit : LengthUnit) (p : TextReader) (s : Stage) (text ahead front word rest : List ℕ) (at n : ℕ)
    → Waits limit unit p s false text ahead → p.held ≡ [] → front ≡ after_space ahead → n ≡ position_or_len is_white front → word ≡ take n front
    → rest ≡ drop n front → 0 < length rest → at ≡ p.count - length front → Next limit unit s p.facets text word rest at
front_word limit unit p s text ahead front word rest at n w none front_is n_is word_is rest_is left_some at_is =
    let cut : Cut front word rest = cut_at front word rest n n_is word_is rest_is in
    let lengths : length front ≡ length word + length rest = ap length cut.whole ∙ length-append word rest in
    let some : 0 < length front = omega (arith, lengths, left_some) in
    next_word limit unit p s text ahead word word rest at w refl (first_some ahead front word n front_is some n_is word_is) cut.clear cut.starts left_some
    (λ more. front_seen w.word ahead front more (no_word w.word p.held w.held_is none) front_is some ∙ ap (λ f. f ++ more) cut.whole
    ∙ append_assoc word rest more)
    (omega (arith, at_is, w.count_is, rest_within text ahead w.is_rest, front_le ahead front front_is, lengths))

-- The bytes ahead end in their first word, which is kept.

pub front_held : (limit : ℕ) (unit : LengthUnit) (p q : TextReader) (s : Stage) (text ahead front word rest : List ℕ) (n : ℕ)
    → Waits limit unit p s false text ahead → p.held ≡ [] → front ≡ after_space ahead → 0 < length front → n ≡ position_or_len is_white front
    → word ≡ take n front → rest ≡ drop n front → rest ≡ []
    → q.limit ≡ p.limit → q.unit ≡ p.unit → q.count ≡ p.count → q.facets ≡ p.facets → q.held ≡ word_front word → q.held_at ≡ p.count - length front
    → Waits limit unit q s false text rest
front_held limit unit p q s text ahead front word rest n w none front_is some n_is word_is rest_is empty limit_is unit_is count_is facets_is held_is at_is =
    let cut : Cut front word rest = cut_at front word rest n n_is word_is rest_is in
    let same : front ≡ word = cut.whole ∙ ap (λ r. word ++ r) empty ∙ append-nil word in
    subst (λ r. Waits limit unit q s false text r) (sym empty)
    (word_held limit unit p q s text ahead word w limit_is unit_is count_is facets_is held_is cut.clear
    (subst (λ f. 0 < length f) same some)
    (omega (arith, at_is, ap length same, w.count_is, rest_within text ahead w.is_rest, front_le ahead front front_is))
    (λ more. front_seen w.word ahead front more (no_word w.word p.held w.held_is none) front_is some ∙ ap (λ f. f ++ more) same))

-- A word that was kept goes on.

joined : (so_far word rest more ahead : List ℕ) → ahead ≡ word ++ rest → so_far ++ (ahead ++ more) ≡ (so_far ++ word) ++ (rest ++ more)
joined so_far word rest more ahead whole =
    ap (λ v. so_far ++ (v ++ more)) whole ∙ ap (λ v. so_far ++ v) (append_assoc word rest more) ∙ sym (append_assoc so_far word (rest ++ more))

-- the word has bytes if some are kept
kept_some : (limit : ℕ) (unit : LengthUnit) (p : TextReader) (s : Stage) (text ahead : List ℕ) (w : Waits limit unit p s false text ahead)
    → 0 < length p.held → 0 < length w.word
kept_some limit unit p s text ahead w some = word_some w.word (subst (λ h. 0 < length h) w.held_is some)

pub kept_word : (limit : ℕ) (unit : LengthUnit) (p : TextReader) (s : Stage) (text ahead kept word rest : List ℕ) (n : ℕ)
    (w : Waits limit unit p s false text ahead) → 0 < length p.held → n ≡ position_or_len is_white ahead → word ≡ take n ahead → rest ≡ drop n ahead
    → kept ≡ word_front (w.word ++ word) → 0 < length rest → Next limit unit s p.facets text kept rest p.held_at
kept_word limit unit p s text ahead kept word rest n w some n_is word_is rest_is kept_is left_some =
    let cut : Cut ahead word rest = cut_at ahead word rest n n_is word_is rest_is in
    let lengths : length ahead ≡ length word + length rest = ap length cut.whole ∙ length-append word rest in
    let all : List ℕ = w.word ++ word in
    let size : length all ≡ length w.word + length word = length-append w.word word in
    let begun_some : 0 < length w.word = kept_some limit unit p s text ahead w some in
    let all_some : 0 < length all = omega (arith, size, begun_some) in
    let clear : list_all is_clear all ≡ true = clear-append w.word word w.clear cut.clear in
    next_word limit unit p s text ahead all kept rest p.held_at w (sym (ap word_front kept_is ∙ front_twice all))
    (subst (λ k. 0 < length k) (sym kept_is) (front_some all all_some)) clear cut.starts left_some
    (λ more. ap after_space (joined w.word word rest more ahead cut.whole) ∙ word-first all (rest ++ more) all_some clear)
    (omega (arith, w.begins begun_some, lengths, size))

pub kept_on : (limit : ℕ) (unit : LengthUnit) (p q : TextReader) (s : Stage) (text ahead word rest last : List ℕ) (n : ℕ)
    (w : Waits limit unit p s false text ahead) → 0 < length p.held → n ≡ position_or_len is_white ahead → word ≡ take n ahead → rest ≡ drop n ahead
    → rest ≡ [] → last ≡ []
    → q.limit ≡ p.limit → q.unit ≡ p.unit → q.count ≡ p.count → q.facets ≡ p.facets → q.held ≡ word_front (w.word ++ word) → q.held_at ≡ p.held_at
    → Waits limit unit q s false text last
kept_on limit unit p q s text ahead word rest last n w some n_is word_is rest_is empty last_is limit_is unit_is count_is facets_is held_is at_is =
    let cut : Cut ahead word rest = cut_at ahead word rest n n_is word_is rest_is in
    let same : ahead ≡ word = cut.whole ∙ ap (λ r. word ++ r) empty ∙ append-nil word in
    let all : List ℕ = w.word ++ word in
    let size : length all ≡ length w.word + length word = length-append w.word word in
    let begun_some : 0 < length w.word = kept_some limit unit p s text ahead w some in
    let all_some : 0 < length all = omega (arith, size, begun_some) in
    let clear : list_all is_clear all ≡ true = clear-append w.word word w.clear cut.clear in
    subst (λ r. Waits limit unit q s false text r) (sym last_is)
    (word_held limit unit p q s text ahead all w limit_is unit_is count_is facets_is held_is clear all_some
    (omega (arith, at_is, w.begins begun_some, size, ap length same))
    (λ more. ap after_space (ap (λ v. w.word ++ (v ++ more)) same ∙ sym (append_assoc w.word word more)) ∙ word-first all more all_some clear))

-- A line break is white space.

break_seen : (rest more : List ℕ) → Starts is_line_end rest → 0 < length rest → after_space (rest ++ more) ≡ after_space (drop 1 rest ++ more)
break_seen [] more starts some = absurd (omega (arith, some))
break_seen (b ∷ bs) more starts some = rw (line_end_white b starts) (rw one-add refl)

pub break_passed : (limit : ℕ) (unit : LengthUnit) (q : TextReader) (s : Stage) (text ahead rest last : List ℕ) → Waits limit unit q s false text rest
    → q.held ≡ [] → rest ≡ after_line ahead → 0 < length rest → last ≡ drop 1 rest → Waits limit unit q s false text last
break_passed limit unit q s text ahead rest last w none rest_is some last_is =
    let starts : Starts is_line_end rest = subst (Starts is_line_end) (sym rest_is) (from_starts is_line_end ahead) in
    subst (λ r. Waits limit unit q s false text r) (sym last_is)
    (record {
      limit_is = w.limit_is;
      unit_is = w.unit_is;
      count_is = w.count_is;
      is_rest = rest_then text rest (drop 1 rest) w.is_rest (drop_rest 1 rest (drop 1 rest) refl);
      word = [];
      held_is = none;
      begins = no_bytes;
      clear = refl;
      after = w.after;
      stands = w.stands;
      sees = λ more. w.sees more ∙ ap (λ h. after_space (h ++ (rest ++ more))) (no_word w.word q.held w.held_is none)
          ∙ break_seen rest more starts some;
    })

-- The end of a text, when no word is left to be read.

pub ends_free : (limit : ℕ) (unit : LengthUnit) (p : TextReader) (pl : ReaderState) (fed : List ℕ) → p.held ≡ [] → IsReadingAt limit unit p pl fed []
    → EndsAt limit unit pl p.facets fed
ends_free limit unit p (state.Word s) fed none is = ended_free limit unit p s fed is none
ends_free limit unit p (state.Line s) fed none is = ended_other limit unit p s fed is
ends_free limit unit p (state.Stopped f) fed none is = ended_stopped limit unit p f fed is

pub ends_between : (limit : ℕ) (unit : LengthUnit) (p : TextReader) (pl : ReaderState) (fed : List ℕ) → ((s : Stage) → pl ≡ state.Word s → ⊥)
    → IsReadingAt limit unit p pl fed [] → EndsAt limit unit pl p.facets fed
ends_between limit unit p (state.Word s) fed other is = absurd (other s refl)
ends_between limit unit p (state.Line s) fed other is = ended_other limit unit p s fed is
ends_between limit unit p (state.Stopped f) fed other is = ended_stopped limit unit p f fed is

-- The end of a text in a word, if the limit and the unit are those of the reader.
pub ended_by : (limit l : ℕ) (unit u : LengthUnit) (p : TextReader) (s : Stage) (pl : ReaderState) (facets : List Facet) (fed : List ℕ)
    → l ≡ limit → u ≡ unit → Waits limit unit p s false fed [] → 0 < length p.held
    → ((t after : List ℕ) → AtWord l u s p.facets t after p.held p.held_at → StandsAt l u pl facets t after)
    → EndsAt limit unit pl facets fed
ended_by limit l unit u p s pl facets fed l_is u_is w some read =
    subst (λ v. EndsAt limit v pl facets fed) u_is
    (subst (λ k. EndsAt k u pl facets fed) l_is
    (ended_at l u p s pl facets fed
    (subst (λ v. Waits l v p s false fed []) (sym u_is) (subst (λ k. Waits k unit p s false fed []) (sym l_is) w))
    some read))

pub ends_with : (limit : ℕ) (unit : LengthUnit) (pl ql : ReaderState) (facets others : List Facet) (fed : List ℕ) → pl ≡ ql → facets ≡ others
    → EndsAt limit unit pl facets fed → EndsAt limit unit ql others fed
ends_with limit unit pl ql facets others fed state_is facets_is e =
    subst (λ v. EndsAt limit unit v others fed) state_is (subst (λ fs. EndsAt limit unit pl fs fed) facets_is e)

-- the text ends at a stage
pub ends_stage : (limit : ℕ) (unit : LengthUnit) (pl : ReaderState) (s : Stage) (facets others : List Facet) (fed : List ℕ)
    → (pl ≡ state.Word s) ⊎ (pl ≡ state.Line s) → facets ≡ others → EndsAt limit unit pl facets fed → EndsAt limit unit (state.Word s) others fed
ends_stage limit unit pl s facets others fed (inl state_is) facets_is e =
    ends_with limit unit pl (state.Word s) facets others fed state_is facets_is e
ends_stage limit unit pl s facets others fed (inr state_is) facets_is e =
    ends_with limit unit pl (state.Line s) facets others fed state_is facets_is e

-- a reader that did not stop at a fault has the unit of the text
pub unit_known : (limit : ℕ) (unit : LengthUnit) (p : TextReader) (pl : ReaderState) (text ahead : List ℕ) → IsReadingAt limit unit p pl text ahead
    → ((f : StlFault) → pl ≡ state.Stopped f → ⊥) → p.unit ≡ unit
unit_known limit unit p (state.Word s) text ahead is going = is.unit_is
unit_known limit unit p (state.Line s) text ahead is going = is.0.unit_is
unit_known limit unit p (state.Stopped f) text ahead is going = absurd (going f refl)

-- The facets so far are taken off the reader.

within_form : (limit count : ℕ) (s : Stage) (solids : List (List Facet)) (added : List Facet) → IsForm limit s solids added count → count ≤ limit
within_form limit count (stage.Between true) solids added form = form.2
within_form limit count (stage.Between false) solids added form = form.2
within_form limit count stage.Facets solids added form = form
within_form limit count (stage.Inside words t) solids added form = omega (arith, form.1)

pub within_limit : (limit : ℕ) (unit : LengthUnit) (s : Stage) (facets : List Facet) (text after : List ℕ) → Stands limit unit s facets text after
    → length facets ≤ limit
within_limit limit unit s facets text after st = within_form limit (length facets) s st.solids st.added st.form

-- a reader that keeps the same but for what is left of the limit
same_whole : (limit : ℕ) (unit : LengthUnit) (p q : TextReader) (s : Stage) (in_line : Bool) (text ahead : List ℕ) → Waits limit unit p s in_line text ahead
    → (length p.facets ≤ p.limit → q.limit ≡ p.limit) → q.unit ≡ p.unit → q.count ≡ p.count → q.held ≡ p.held → q.held_at ≡ p.held_at
    → q.facets ≡ p.facets → Waits limit unit q s in_line text ahead
same_whole limit unit p q s in_line text ahead w limit_is unit_is count_is held_is at_is facets_is =
    let few : length p.facets ≤ limit = within_limit limit unit s p.facets (text ++ []) (w.after []) (w.stands []) in
    record {
      limit_is = limit_is (omega (arith, few, w.limit_is)) ∙ w.limit_is;
      unit_is = unit_is ∙ w.unit_is;
      count_is = count_is ∙ w.count_is;
      is_rest = w.is_rest;
      word = w.word;
      held_is = held_is ∙ w.held_is;
      begins = λ some. omega (arith, at_is, w.begins some);
      clear = w.clear;
      after = w.after;
      stands = λ more. subst (λ fs. Stands limit unit s fs (text ++ more) (w.after more)) (sym facets_is) (w.stands more);
      sees = w.sees;
    }

pub taken_off : (limit : ℕ) (unit : LengthUnit) (p q : TextReader) (pl : ReaderState) (text ahead : List ℕ) → IsReadingAt limit unit p pl text ahead
    → (length p.facets ≤ p.limit → q.limit ≡ p.limit) → q.unit ≡ p.unit → q.count ≡ p.count → q.held ≡ p.held → q.held_at ≡ p.held_at
    → q.facets ≡ p.facets → IsReadingAt limit unit q pl text ahead
taken_off limit unit p q (state.Word s) text ahead is limit_is unit_is count_is held_is at_is facets_is =
    same_whole limit unit p q s false text ahead is limit_is unit_is count_is held_is at_is facets_is
taken_off limit unit p q (state.Line s) text ahead is limit_is unit_is count_is held_is at_is facets_is =
    (same_whole limit unit p q s true text ahead is.0 limit_is unit_is count_is held_is at_is facets_is, held_is ∙ is.1)
taken_off limit unit p q (state.Stopped f) text ahead is limit_is unit_is count_is held_is at_is facets_is = is
