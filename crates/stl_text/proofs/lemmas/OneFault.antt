-- A text has at most one fault, and none if it reads as facets.
use Rattle.std.proofs.Common.{◌≡◌, ◌≢◌, ℕ, ◌+◌, ◌<◌, ◌≤◌, Bool, true, false, cond, ◌&&◌, List, [], ◌∷◌, ◌++◌, length, refl, sym, ◌∙◌, ap, subst, inl, inr, arith, ◌⊎◌, append-nil, lit≤, length-append}
use Rattle.std.specs.Prelude.{Option, Some, None, Ok, Err, Result, ℤ, if◌then◌else◌, flat_map, nat_lt}
use Rattle.std.specs.Str.{bytes_eq, str_to_ascii_lowercase}
use Rattle.std.specs.List.{list_all}
use Rattle.std.proofs.lemmas.List.Folds.{list_all-append}
use Rattle.std.proofs.lemmas.List.Sums.{sum_by-append, sum_by-cons}
use Rattle.std.proofs.lemmas.Slice.Eq.{bytes_eq-Decides}
use Rattle.std.proofs.lemmas.Bool.{and_parts}
use Rattle.micro_num.specs.declared.unit.Unit.{Unit as LengthUnit}
use Rattle.micro_num.specs.declared.num_fault.NumFault.{NumFault}
use Rattle.micro_num.specs.Micrometres.{coordinate_of}
use Rattle.stl_text.specs.declared.word.Word.{Word}
use Rattle.stl_text.specs.declared.word.Word.TheVariants.{Solid, FacetOrEnd, Normal, Outer, Loop, Vertex, Number, EndLoop, EndFacet}
use Rattle.stl_text.specs.declared.stl_fault.StlFault.{StlFault}
use Rattle.stl_text.specs.declared.stl_fault.StlFault.TheVariants as fault
use Rattle.geometry.specs.Facet.{Facet}
use Rattle.stl_text.specs.Text.{Token, keyword, normal_word, coordinate, rest_of_line, facet_word, end_word, facet_tokens, solid_tokens, is_keyword, is_text_of, is_wanted, is_facet_word, wanted, begins_with, rest_after, first_word, after_space, facets_of, Reads, Wants, IsFaultOf, keyword_of, facet_keyword, facet_count}
use Rattle.stl_text.proofs.lemmas.Determined.{Slot, fixed, any_word, any_coordinate, any_line, facet_slots, State, Prefixes, Prefixes.longer, Prefixes.shorter, word_code, word_at, word_at-code, matches, outside, next, next_in, run, run-append, then-some, then_at, only, passed, shape-is, read-is, solid_slot, facet_slot, end_slot, solids-run, agree}
use Rattle.stl_text.proofs.lemmas.OneReading.{GoesOn, goes_on, nothing_more, ended_word}
use Rattle.stl_text.proofs.lemmas.Options.{some-is}

-- Tokens of one kind.

abbrev kind_of : Token → ℕ
kind_of (keyword w text) = word_code w
kind_of normal_word = 9
kind_of (coordinate z) = 10
kind_of rest_of_line = 11

abbrev wanted_at : ℕ → Option Word
wanted_at n = if nat_lt n 9 then Some (word_at n) else (if nat_lt n 11 then Some Number else None)

wanted-kind : (p : Token) → wanted_at (kind_of p) ≡ wanted p
wanted-kind (keyword Solid text) = refl
wanted-kind (keyword FacetOrEnd text) = refl
wanted-kind (keyword Normal text) = refl
wanted-kind (keyword Outer text) = refl
wanted-kind (keyword Loop text) = refl
wanted-kind (keyword Vertex text) = refl
wanted-kind (keyword Number text) = refl
wanted-kind (keyword EndLoop text) = refl
wanted-kind (keyword EndFacet text) = refl
wanted-kind normal_word = refl
wanted-kind (coordinate z) = refl
wanted-kind rest_of_line = refl

same_wanted : (p q : Token) → kind_of p ≡ kind_of q → wanted p ≡ wanted q
same_wanted p q h = sym (wanted-kind p) ∙ ap wanted_at h ∙ wanted-kind q

code_low : (w : Word) → word_code w < 9
code_low Solid = lit≤ tt
code_low FacetOrEnd = lit≤ tt
code_low Normal = lit≤ tt
code_low Outer = lit≤ tt
code_low Loop = lit≤ tt
code_low Vertex = lit≤ tt
code_low Number = lit≤ tt
code_low EndLoop = lit≤ tt
code_low EndFacet = lit≤ tt

coordinate-kind : (p : Token) → kind_of p ≡ 10 → (z : ℤ) × (p ≡ coordinate z)
coordinate-kind (keyword w text) h = absurd (omega (arith, h, code_low w))
coordinate-kind normal_word h = absurd (omega (arith, h))
coordinate-kind (coordinate z) h = (z, refl)
coordinate-kind rest_of_line h = absurd (omega (arith, h))

keyword-kind : (kind : Word) (p : Token) → kind_of p ≡ word_code kind → (text : List ℕ) × (p ≡ keyword kind text)
keyword-kind kind (keyword w text) h =
    let same : w ≡ kind = sym (word_at-code w) ∙ ap word_at h ∙ word_at-code kind in
    (text, λ i. keyword (same i) text)
keyword-kind kind normal_word h = absurd (omega (arith, h, code_low kind))
keyword-kind kind (coordinate z) h = absurd (omega (arith, h, code_low kind))
keyword-kind kind rest_of_line h = absurd (omega (arith, h, code_low kind))

same_kind : (slot : Slot) (p q : Token) → matches slot p ≡ true → matches slot q ≡ true → kind_of p ≡ kind_of q
same_kind (fixed w text) p q h k = ap kind_of (shape-is (fixed w text) p h ∙ sym (shape-is (fixed w text) q k))
same_kind any_word p q h k = ap kind_of (shape-is any_word p h ∙ sym (shape-is any_word q k))
same_kind any_line p q h k = ap kind_of (shape-is any_line p h ∙ sym (shape-is any_line q k))
same_kind any_coordinate p q h k = ap kind_of (shape-is any_coordinate p h).1 ∙ sym (ap kind_of (shape-is any_coordinate q k).1)

-- the tokens that the grammar permits in one state are of one kind
next_kind_in : (slots : List Slot) (is_open : Bool) (p q : Token) (t u : State)
    → next_in slots is_open p ≡ Some t → next_in slots is_open q ≡ Some u → kind_of p ≡ kind_of q
next_kind_in (slot ∷ slots) is_open p q t u h k = same_kind slot p q (only _ _ t h).0 (only _ _ u k).0
next_kind_in [] false p q t u h k = same_kind solid_slot p q (only _ _ t h).0 (only _ _ u k).0
next_kind_in [] true p q t u h k = open_kind p t h ∙ sym (open_kind q u k)
  where
    open_kind : (x : Token) (v : State) → next_in [] true x ≡ Some v → kind_of x ≡ 1
    open_kind x v e = by_choice (passed _ _ _ v e)
      where
        by_choice : ((matches facet_slot x ≡ true) × (record { slots = facet_slots; is_open = true } ≡ v))
            ⊎ ((matches facet_slot x ≡ false) × ((if matches end_slot x then Some (record { slots = any_line ∷ []; is_open = false }) else None) ≡ Some v))
            → kind_of x ≡ 1
        by_choice (inl a) = ap kind_of (shape-is facet_slot x a.0)
        by_choice (inr b) = ap kind_of (shape-is end_slot x (only _ _ v b.1).0)

next_kind : (state : State) (p q : Token) (t u : State) → next state p ≡ Some t → next state q ≡ Some u → kind_of p ≡ kind_of q
next_kind state p q t u h k = next_kind_in state.slots state.is_open p q t u h k

-- Each keyword of a solid is one of the kind that is wanted there, in lower case.

abbrev is_sound : Token → Bool
is_sound (keyword kind text) = is_text_of kind text && bytes_eq (str_to_ascii_lowercase text) text
is_sound normal_word = true
is_sound (coordinate z) = true
is_sound rest_of_line = true

sound_facets : (facets : List Facet) → list_all is_sound (flat_map facet_tokens facets) ≡ true
sound_facets [] = refl
sound_facets (t ∷ facets) = list_all-append is_sound (facet_tokens t) (flat_map facet_tokens facets) ∙ sound_facets facets

sound_solid : (facets : List Facet) → list_all is_sound (solid_tokens facets) ≡ true
sound_solid facets = list_all-append is_sound (flat_map facet_tokens facets) (end_word ∷ rest_of_line ∷ []) ∙ rw (sound_facets facets) refl

sound_solids : (solids : List (List Facet)) → list_all is_sound (flat_map solid_tokens solids) ≡ true
sound_solids [] = refl
sound_solids (facets ∷ solids) =
    list_all-append is_sound (solid_tokens facets) (flat_map solid_tokens solids) ∙ rw (sound_solid facets) (sound_solids solids)

-- each token of a sound list is sound
sound_within : (front : List Token) (p : Token) (more : List Token) → list_all is_sound (front ++ p ∷ more) ≡ true → is_sound p ≡ true
sound_within front p more h =
    (and_parts _ _ (and_parts _ _ (sym (list_all-append is_sound front (p ∷ more)) ∙ h)).1).0

wanted_word : (kind : Word) (text word : List ℕ) → is_sound (keyword kind text) ≡ true → is_keyword text word ≡ true → is_wanted kind word ≡ true
wanted_word kind text word sound h =
    ap (is_text_of kind) ((bytes_eq-Decides _ text).0 h) ∙ (and_parts _ _ sound).0

-- The number of facets that begin.

facet_count-more : (front : List Token) (p : Token) (more : List Token) → is_facet_word p ≡ true → facet_count front < facet_count (front ++ p ∷ more)
facet_count-more front p more h =
    let f : Token → ℕ = λ x. cond (is_facet_word x) 1 0 in
    let split : facet_count (front ++ p ∷ more) ≡ facet_count front + facet_count (p ∷ more) = sum_by-append f front (p ∷ more) in
    let head : facet_count (p ∷ more) ≡ cond (is_facet_word p) 1 0 + facet_count more = sum_by-cons f p more in
    let one : ◌≡◌ {A = ℕ} (cond (is_facet_word p) 1 0) 1 = rw h refl in
    omega (arith, split, head, one)

pub facet_count-facets : (facets : List Facet) → facet_count (flat_map facet_tokens facets) ≡ length facets
facet_count-facets [] = refl
facet_count-facets (t ∷ facets) =
    let f : Token → ℕ = λ x. cond (is_facet_word x) 1 0 in
    let split : facet_count (facet_tokens t ++ flat_map facet_tokens facets) ≡ facet_count (facet_tokens t) + facet_count (flat_map facet_tokens facets) =
    sum_by-append f (facet_tokens t) (flat_map facet_tokens facets) in
    let one : facet_count (facet_tokens t) ≡ 1 = refl in
    let rest : facet_count (flat_map facet_tokens facets) ≡ length facets = facet_count-facets facets in
    omega (arith, split, one, rest)

pub facet_count-solids : (solids : List (List Facet)) → facet_count (flat_map solid_tokens solids) ≡ length (facets_of solids)
facet_count-solids [] = refl
facet_count-solids (facets ∷ solids) =
    let f : Token → ℕ = λ x. cond (is_facet_word x) 1 0 in
    let split : facet_count (solid_tokens facets ++ flat_map solid_tokens solids) ≡ facet_count (solid_tokens facets) + facet_count (flat_map solid_tokens solids) =
    sum_by-append f (solid_tokens facets) (flat_map solid_tokens solids) in
    let inner : facet_count (solid_tokens facets) ≡ facet_count (flat_map facet_tokens facets) + 0 =
    sum_by-append f (flat_map facet_tokens facets) (end_word ∷ rest_of_line ∷ []) in
    let each : facet_count (flat_map facet_tokens facets) ≡ length facets = facet_count-facets facets in
    let rest : facet_count (flat_map solid_tokens solids) ≡ length (facets_of solids) = facet_count-solids solids in
    let lengths : length (facets_of (facets ∷ solids)) ≡ length facets + length (facets_of solids) = length-append facets (facets_of solids) in
    omega (arith, split, inner, each, rest, lengths)

-- The tokens before a fault, and what the grammar permits next.

pub record Halt (limit : ℕ) (unit : LengthUnit) (bytes : List ℕ) : Type 0 where
  pub at : ℕ
  pub token : Token
  pub facets_before : ℕ
  pub word : List ℕ
  pub wants : Wants limit unit bytes at token facets_before word

-- the text has no word there, or one that fits no token of the kind, except a facet beyond the limit
pub record Refuses (limit : ℕ) (unit : LengthUnit) (bytes : List ℕ) (h : Halt limit unit bytes) : Type 0 where
  pub stops : (p : Token) → is_sound p ≡ true → kind_of h.token ≡ kind_of p → begins_with unit p h.wants.rest ≡ true
      → (is_facet_word p ≡ true) × (h.facets_before ≡ limit)

module _ (limit : ℕ) (unit : LengthUnit) (bytes : List ℕ) where
  state_of : (h : Halt limit unit bytes)
      → (state : State) × (run outside h.wants.front ≡ Some state) × (after : State) × (next state h.token ≡ Some after)
  state_of h =
      let w : Wants limit unit bytes h.at h.token h.facets_before h.word = h.wants in
      let whole : then_at (run outside w.front) (λ state. run state (h.token ∷ w.more)) ≡ Some outside =
      sym (run-append outside w.front (h.token ∷ w.more)) ∙ ap (run outside) (sym w.cut) ∙ solids-run w.solids in
      let first : (state : State) × (run outside w.front ≡ Some state) × (run state (h.token ∷ w.more) ≡ Some outside) =
      then-some _ _ outside whole in
      let second : (after : State) × (next first.0 h.token ≡ Some after) × (run after w.more ≡ Some outside) =
      then-some _ _ outside first.2 in
      (first.0, first.1, second.0, second.1)

  -- no token follows at a fault
  no_more : (h : Halt limit unit bytes) → Refuses limit unit bytes h → (p : Token) (more : List Token) (end : State) (last : List ℕ)
      → list_all is_sound (h.wants.front ++ p ∷ more) ≡ true → facet_count (h.wants.front ++ p ∷ more) ≤ limit
      → run outside (h.wants.front ++ p ∷ more) ≡ Some end → rest_after unit (h.wants.front ++ p ∷ more) bytes ≡ Some last → ⊥
  no_more h refuses p more end last sound few ran spelled =
      let state : (state : State) × (run outside h.wants.front ≡ Some state) × (after : State) × (next state h.token ≡ Some after) = state_of h in
      let on : GoesOn unit state.0 p h.wants.rest =
      goes_on unit bytes h.wants.front p more state.0 end h.wants.rest last state.1 h.wants.spelled ran spelled in
      let stopped : (is_facet_word p ≡ true) × (h.facets_before ≡ limit) =
      refuses.stops p (sound_within h.wants.front p more sound)
      (next_kind state.0 h.token p state.2 on.after state.3 on.permitted) on.begins in
      omega (arith, stopped.1, h.wants.count, facet_count-more h.wants.front p more stopped.0, few)

  -- Each fault excludes the tokens that the grammar permits at it.

  no_word : (w : Word) → is_text_of w [] ≡ true → ⊥
  no_word Solid h = cc
  no_word FacetOrEnd h = cc
  no_word Normal h = cc
  no_word Outer h = cc
  no_word Loop h = cc
  no_word Vertex h = cc
  no_word Number h = cc
  no_word EndLoop h = cc
  no_word EndFacet h = cc

  abbrev halt_of : (f : StlFault) → IsFaultOf limit unit bytes f → Halt limit unit bytes
  halt_of (fault.Expected kind at) x = record { at = at; token = x.token; facets_before = x.facets_before; word = x.word; wants = x.wants }
  halt_of (fault.Ended kind) x = record { at = length bytes; token = x.token; facets_before = x.facets_before; word = []; wants = x.wants }
  halt_of (fault.Number cause at) x = record { at = at; token = coordinate x.z; facets_before = x.facets_before; word = x.word; wants = x.wants }
  halt_of (fault.TooMany at) x = record { at = at; token = facet_word; facets_before = limit; word = x.word; wants = x.wants }
  halt_of fault.Memory x = absurd x

  unexpected_stops : (kind : Word) (token p : Token) (word rest : List ℕ) → wanted token ≡ Some kind → kind ≢ Number
      → is_wanted kind word ≡ false → word ≡ first_word rest → is_sound p ≡ true → kind_of token ≡ kind_of p
      → begins_with unit p rest ≡ true → ⊥
  unexpected_stops kind token (keyword w text) word rest wants no_number other stands sound same begins =
      let kind_is : ◌≡◌ {A = Option Word} (Some kind) (Some w) = sym wants ∙ same_wanted token (keyword w text) same in
      let w_is : kind ≡ w = cc in
      let fits : is_wanted w (first_word rest) ≡ true = wanted_word w text (first_word rest) sound begins in
      let clash : false ≡ true =
      sym other ∙ ap (λ k. is_wanted k word) w_is ∙ ap (is_wanted w) stands ∙ fits in
      cc
  unexpected_stops kind token normal_word word rest wants no_number other stands sound same begins =
      let kind_is : ◌≡◌ {A = Option Word} (Some kind) (Some Number) = sym wants ∙ same_wanted token normal_word same in
      let number : kind ≡ Number = cc in
      no_number number
  unexpected_stops kind token (coordinate z) word rest wants no_number other stands sound same begins =
      let kind_is : ◌≡◌ {A = Option Word} (Some kind) (Some Number) = sym wants ∙ same_wanted token (coordinate z) same in
      let number : kind ≡ Number = cc in
      no_number number
  unexpected_stops kind token rest_of_line word rest wants no_number other stands sound same begins =
      let kind_is : ◌≡◌ {A = Option Word} (Some kind) None = sym wants ∙ same_wanted token rest_of_line same in
      cc

  ended_stops : (kind : Word) (token p : Token) (rest : List ℕ) → wanted token ≡ Some kind → [] ≡ first_word rest
      → is_sound p ≡ true → kind_of token ≡ kind_of p → begins_with unit p rest ≡ true → ⊥
  ended_stops kind token (keyword w text) rest wants stands sound same begins =
      let fits : is_wanted w [] ≡ true = subst (λ word. is_wanted w word ≡ true) (sym stands) (wanted_word w text (first_word rest) sound begins) in
      no_word w fits
  ended_stops kind token normal_word rest wants stands sound same begins =
      let some : nat_lt 0 (length {A = ℕ} []) ≡ true = subst (λ word. nat_lt 0 (length word) ≡ true) (sym stands) begins in
      cc
  ended_stops kind token (coordinate z) rest wants stands sound same begins =
      let read : coordinate_of unit [] ≡ Ok z = ap (coordinate_of unit) stands ∙ read-is unit (first_word rest) z begins in
      cc
  ended_stops kind token rest_of_line rest wants stands sound same begins =
      let kind_is : ◌≡◌ {A = Option Word} (Some kind) None = sym wants ∙ same_wanted token rest_of_line same in
      cc

  number_stops : (z : ℤ) (cause : NumFault) (p : Token) (word rest : List ℕ) → coordinate_of unit word ≡ Err cause → word ≡ first_word rest
      → kind_of (coordinate z) ≡ kind_of p → begins_with unit p rest ≡ true → ⊥
  number_stops z cause p word rest refused stands same begins =
      let other : (y : ℤ) × (p ≡ coordinate y) = coordinate-kind p (sym same) in
      let read : coordinate_of unit (first_word rest) ≡ Ok other.0 =
      read-is unit (first_word rest) other.0 (subst (λ x. begins_with unit x rest ≡ true) other.1 begins) in
      let clash : ◌≡◌ {A = Result ℤ NumFault} (Err cause) (Ok other.0) = sym refused ∙ ap (coordinate_of unit) stands ∙ read in
      cc

  many_stops : (p : Token) (word rest : List ℕ) → is_keyword facet_keyword word ≡ true → word ≡ first_word rest
      → kind_of facet_word ≡ kind_of p → begins_with unit p rest ≡ true → is_facet_word p ≡ true
  many_stops p word rest facet stands same begins =
      let other : (text : List ℕ) × (p ≡ keyword FacetOrEnd text) = keyword-kind FacetOrEnd p (sym same) in
      let reads : is_keyword other.0 (first_word rest) ≡ true = subst (λ x. begins_with unit x rest ≡ true) other.1 begins in
      let text_is : other.0 ≡ facet_keyword =
      sym ((bytes_eq-Decides _ other.0).0 reads) ∙ ap str_to_ascii_lowercase (sym stands) ∙ (bytes_eq-Decides _ facet_keyword).0 facet in
      ap is_facet_word (other.1 ∙ ap (keyword FacetOrEnd) text_is)

  refuses : (f : StlFault) (x : IsFaultOf limit unit bytes f) → Refuses limit unit bytes (halt_of f x)
  refuses (fault.Expected kind at) x = record {
    stops = λ p sound same begins.
        absurd (unexpected_stops kind x.token p x.word x.wants.rest x.kind_is x.keyword_wanted x.other x.wants.stands sound same begins);
  }
  refuses (fault.Ended kind) x = record {
    stops = λ p sound same begins.
        absurd (ended_stops kind x.token p x.wants.rest x.kind_is x.wants.stands sound same begins);
  }
  refuses (fault.Number cause at) x = record {
    stops = λ p sound same begins.
        absurd (number_stops x.z cause p x.word x.wants.rest x.refused x.wants.stands same begins);
  }
  refuses (fault.TooMany at) x = record {
    stops = λ p sound same begins.
        (many_stops p x.word x.wants.rest x.facet x.wants.stands same begins, refl);
  }
  refuses fault.Memory x = absurd x

  sound_front : (h : Halt limit unit bytes) → list_all is_sound h.wants.front ≡ true
  sound_front h =
      let w : Wants limit unit bytes h.at h.token h.facets_before h.word = h.wants in
      (and_parts _ _ (sym (list_all-append is_sound w.front (h.token ∷ w.more)) ∙ ap (list_all is_sound) (sym w.cut) ∙ sound_solids w.solids)).0

  few_front : (h : Halt limit unit bytes) → facet_count h.wants.front ≤ limit
  few_front h = omega (arith, h.wants.count, h.wants.few)

  -- a fault is never after another one
  not_after : (h : Halt limit unit bytes) → Refuses limit unit bytes h → (k : Halt limit unit bytes) (p : Token) (more : List Token)
      → k.wants.front ≡ h.wants.front ++ p ∷ more → ⊥
  not_after h refusing k p more is =
      let state : (state : State) × (run outside k.wants.front ≡ Some state) × (after : State) × (next state k.token ≡ Some after) = state_of k in
      no_more h refusing p more state.0 k.wants.rest
      (ap (list_all is_sound) (sym is) ∙ sound_front k)
      (subst (λ ps. facet_count ps ≤ limit) is (few_front k))
      (ap (run outside) (sym is) ∙ state.1)
      (ap (λ ps. rest_after unit ps bytes) (sym is) ∙ k.wants.spelled)

  same_front : (h k : Halt limit unit bytes) → Refuses limit unit bytes h → Refuses limit unit bytes k → h.wants.front ≡ k.wants.front
  same_front h k refusing refusing' = by_prefix (agree unit outside bytes h.wants.front k.wants.front state.0 state'.0
      h.wants.rest k.wants.rest state.1 state'.1 h.wants.spelled k.wants.spelled)
    where
      state : (state : State) × (run outside h.wants.front ≡ Some state) × (after : State) × (next state h.token ≡ Some after)
      state = state_of h

      state' : (state : State) × (run outside k.wants.front ≡ Some state) × (after : State) × (next state k.token ≡ Some after)
      state' = state_of k

      by_prefix : Prefixes h.wants.front k.wants.front → h.wants.front ≡ k.wants.front
      by_prefix (longer [] is) = sym (append-nil _) ∙ sym is
      by_prefix (longer (p ∷ more) is) = absurd (not_after h refusing k p more is)
      by_prefix (shorter p more is) = absurd (not_after k refusing' h p more is)

  -- two faults after the same front
  record Same (h k : Halt limit unit bytes) : Type 0 where
    at : h.at ≡ k.at
    word : h.word ≡ k.word
    kind : kind_of h.token ≡ kind_of k.token

  same_halt : (h k : Halt limit unit bytes) → h.wants.front ≡ k.wants.front → Same h k
  same_halt h k front =
      let rest : h.wants.rest ≡ k.wants.rest = some-is (sym h.wants.spelled ∙ ap (λ ps. rest_after unit ps bytes) front ∙ k.wants.spelled) in
      let state : (state : State) × (run outside h.wants.front ≡ Some state) × (after : State) × (next state h.token ≡ Some after) = state_of h in
      let state' : (state : State) × (run outside k.wants.front ≡ Some state) × (after : State) × (next state k.token ≡ Some after) = state_of k in
      let state_is : state.0 ≡ state'.0 = some-is (sym state.1 ∙ ap (run outside) front ∙ state'.1) in
      let left : length (after_space h.wants.rest) ≡ length (after_space k.wants.rest) = ap (λ r. length (after_space r)) rest in
      record {
        at = omega (arith, h.wants.offset, k.wants.offset, left);
        word = h.wants.stands ∙ ap first_word rest ∙ sym k.wants.stands;
        kind = next_kind state.0 h.token k.token state.2 state'.2 state.3 (ap (λ x. next x k.token) state_is ∙ state'.3);
      }

  wanted_same : (p q : Token) (v w : Word) → wanted p ≡ Some v → wanted q ≡ Some w → kind_of p ≡ kind_of q → v ≡ w
  wanted_same p q v w h k same =
      let both : ◌≡◌ {A = Option Word} (Some v) (Some w) = sym h ∙ same_wanted p q same ∙ k in
      cc

  no_length : (word : List ℕ) → 0 < length word → word ≡ [] → ⊥
  no_length word some e =
      let none : length word ≡ 0 = ap length e in
      omega (arith, some, none)

  facet_fits : (kind : Word) (word : List ℕ) → kind ≡ FacetOrEnd → is_keyword facet_keyword word ≡ true → is_wanted kind word ≡ true
  facet_fits kind word e h = ap (λ k. is_wanted k word) e ∙ rw h refl

  facet_some : (word : List ℕ) → is_keyword facet_keyword word ≡ true → word ≡ [] → ⊥
  facet_some word h e =
      let none : is_keyword facet_keyword [] ≡ true = subst (λ x. is_keyword facet_keyword x ≡ true) e h in
      cc

  equal_faults : (f g : StlFault) (x : IsFaultOf limit unit bytes f) (y : IsFaultOf limit unit bytes g)
      → Same (halt_of f x) (halt_of g y) → f ≡ g
  equal_faults (fault.Expected v at) (fault.Expected w at') x y same =
      let kind : v ≡ w = wanted_same x.token y.token v w x.kind_is y.kind_is same.kind in
      λ i. fault.Expected (kind i) (same.at i)
  equal_faults (fault.Expected v at) (fault.Ended w) x y same = absurd (no_length x.word x.stands same.word)
  equal_faults (fault.Expected v at) (fault.Number cause at') x y same =
      absurd (x.keyword_wanted (wanted_same x.token (coordinate y.z) v Number x.kind_is refl same.kind))
  equal_faults (fault.Expected v at) (fault.TooMany at') x y same =
      let kind : v ≡ FacetOrEnd = wanted_same x.token facet_word v FacetOrEnd x.kind_is refl same.kind in
      let fits : is_wanted v x.word ≡ true = facet_fits v x.word kind (ap (is_keyword facet_keyword) same.word ∙ y.facet) in
      let clash : false ≡ true = sym x.other ∙ fits in
      cc
  equal_faults (fault.Ended v) (fault.Expected w at') x y same = absurd (no_length y.word y.stands (sym same.word))
  equal_faults (fault.Ended v) (fault.Ended w) x y same =
      ap fault.Ended (wanted_same x.token y.token v w x.kind_is y.kind_is same.kind)
  equal_faults (fault.Ended v) (fault.Number cause at') x y same = absurd (no_length y.word y.stands (sym same.word))
  equal_faults (fault.Ended v) (fault.TooMany at') x y same = absurd (facet_some y.word y.facet (sym same.word))
  equal_faults (fault.Number cause at) (fault.Expected w at') x y same =
      absurd (y.keyword_wanted (wanted_same y.token (coordinate x.z) w Number y.kind_is refl (sym same.kind)))
  equal_faults (fault.Number cause at) (fault.Ended w) x y same = absurd (no_length x.word x.stands same.word)
  equal_faults (fault.Number cause at) (fault.Number cause' at') x y same =
      let refused : ◌≡◌ {A = Result ℤ NumFault} (Err cause) (Err cause') = sym x.refused ∙ ap (coordinate_of unit) same.word ∙ y.refused in
      let cause_is : cause ≡ cause' = cc in
      λ i. fault.Number (cause_is i) (same.at i)
  equal_faults (fault.Number cause at) (fault.TooMany at') x y same = absurd (omega (arith, same.kind))
  equal_faults (fault.TooMany at) (fault.Expected w at') x y same =
      let kind : w ≡ FacetOrEnd = wanted_same y.token facet_word w FacetOrEnd y.kind_is refl (sym same.kind) in
      let fits : is_wanted w y.word ≡ true = facet_fits w y.word kind (ap (is_keyword facet_keyword) (sym same.word) ∙ x.facet) in
      let clash : false ≡ true = sym y.other ∙ fits in
      cc
  equal_faults (fault.TooMany at) (fault.Ended w) x y same = absurd (facet_some x.word x.facet same.word)
  equal_faults (fault.TooMany at) (fault.Number cause at') x y same = absurd (omega (arith, same.kind))
  equal_faults (fault.TooMany at) (fault.TooMany at') x y same = ap fault.TooMany same.at
  equal_faults fault.Memory g x y same = absurd x
  equal_faults (fault.Expected v at) fault.Memory x y same = absurd y
  equal_faults (fault.Ended v) fault.Memory x y same = absurd y
  equal_faults (fault.Number cause at) fault.Memory x y same = absurd y
  equal_faults (fault.TooMany at) fault.Memory x y same = absurd y

  -- a text has one fault at most
  pub one_fault : (f g : StlFault) → IsFaultOf limit unit bytes f → IsFaultOf limit unit bytes g → f ≡ g
  one_fault f g x y =
      equal_faults f g x y (same_halt (halt_of f x) (halt_of g y) (same_front (halt_of f x) (halt_of g y) (refuses f x) (refuses g y)))

  -- a text that ends after solids has no fault there
  no_fault_at_end : (f : StlFault) (x : IsFaultOf limit unit bytes f) → (halt_of f x).word ≡ []
      → ((kind : Word) → wanted (halt_of f x).token ≡ Some kind → kind ≡ Solid) → (after_space bytes ≡ [] → ⊥) → ⊥
  no_fault_at_end (fault.Expected kind at) x none solid some = no_length x.word x.stands none
  no_fault_at_end (fault.Ended kind) x none solid some = some (x.no_solid (solid kind x.kind_is))
  no_fault_at_end (fault.Number cause at) x none solid some = no_length x.word x.stands none
  no_fault_at_end (fault.TooMany at) x none solid some = facet_some x.word x.facet none
  no_fault_at_end fault.Memory x none solid some = x

  solid_wanted : (p : Token) (after : State) → next outside p ≡ Some after → (kind : Word) → wanted p ≡ Some kind → kind ≡ Solid
  solid_wanted p after permitted kind wants =
      let is : ◌≡◌ {A = Option Word} (Some kind) (Some Solid) = sym wants ∙ ap wanted (shape-is solid_slot p (only _ _ after permitted).0) in
      cc

  -- a text that reads as facets has a word
  has_word : (solids : List (List Facet)) (rest : List ℕ) → 0 < length solids
      → rest_after unit (flat_map solid_tokens solids) bytes ≡ Some rest → after_space bytes ≡ [] → ⊥
  has_word [] rest some spelled none = omega (arith, some)
  has_word (facets ∷ solids) rest some spelled none =
      nothing_more unit solid_word bytes none
      (goes_on unit bytes [] solid_word more outside outside bytes rest refl refl (solids-run (facets ∷ solids)) spelled)
    where
      solid_word : Token
      solid_word = keyword_of Solid

      more : List Token
      more = rest_of_line ∷ (flat_map facet_tokens facets ++ end_word ∷ rest_of_line ∷ []) ++ flat_map solid_tokens solids

  -- a text that reads as facets has no fault
  pub not_both : (facets : List Facet) (f : StlFault) → Reads limit unit bytes facets → IsFaultOf limit unit bytes f → ⊥
  not_both facets f r x = by_prefix (agree unit outside bytes whole h.wants.front outside state.0
      r.rest h.wants.rest (solids-run r.solids) state.1 r.spelled h.wants.spelled)
    where
      h : Halt limit unit bytes
      h = halt_of f x

      whole : List Token
      whole = flat_map solid_tokens r.solids

      state : (state : State) × (run outside h.wants.front ≡ Some state) × (after : State) × (next state h.token ≡ Some after)
      state = state_of h

      at_end : h.wants.front ≡ whole → ⊥
      at_end e =
          let rest : h.wants.rest ≡ r.rest = some-is (sym h.wants.spelled ∙ ap (λ ps. rest_after unit ps bytes) e ∙ r.spelled) in
          let there : state.0 ≡ outside = some-is (sym state.1 ∙ ap (run outside) e ∙ solids-run r.solids) in
          no_fault_at_end f x
          (h.wants.stands ∙ ap first_word rest ∙ ended_word r.rest r.whole)
          (solid_wanted h.token state.2 (ap (λ p. next p h.token) (sym there) ∙ state.3))
          (has_word r.solids r.rest r.some r.spelled)

      few : facet_count whole ≤ limit
      few = omega (arith, facet_count-solids r.solids, r.few, ap length r.each)

      by_prefix : Prefixes whole h.wants.front → ⊥
      by_prefix (longer [] is) = at_end (is ∙ append-nil _)
      by_prefix (longer (p ∷ more) is) =
          nothing_more unit p r.rest r.whole
          (goes_on unit bytes whole p more outside state.0 r.rest h.wants.rest (solids-run r.solids) r.spelled
          (ap (run outside) (sym is) ∙ state.1)
          (ap (λ ps. rest_after unit ps bytes) (sym is) ∙ h.wants.spelled))
      by_prefix (shorter p more is) =
          no_more h (refuses f x) p more outside r.rest
          (ap (list_all is_sound) (sym is) ∙ sound_solids r.solids)
          (subst (λ ps. facet_count ps ≤ limit) is few)
          (ap (run outside) (sym is) ∙ solids-run r.solids)
          (ap (λ ps. rest_after unit ps bytes) (sym is) ∙ r.spelled)
