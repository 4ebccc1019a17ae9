-- A flag is among the words exactly if it is given, in words that are uses of options.
use Rattle.std.proofs.Common.{◌≡◌, ◌∙◌, ◌==◌, ◌||◌, ◌+◌, Bool, cond, not, true, false, refl, sym, ap, ap₂, List, [], ◌∷◌, Option, Some, None, codes, ℕ, take, arith, suc}
use Rattle.std.proofs.lemmas.Bool.{eqb-true}
use Rattle.std.specs.Prelude.{option_and_then}
use Rattle.std.specs.List.{after_first, before_first, list_all, list_any, position_or_len}
use Rattle.std.specs.Str.{bytes_eq}
use Rattle.clap.specs.Lexer.{has_byte, long_of, long_of_rest, strip_byte}
use Rattle.task_words.specs.Options.{Kind, Known, Text, Use, alone_says, any_text, are_lawful, asks_help, asks_version, flag, gives, help, if_lawful, is_given, is_last, is_option_word, joined_says, letter_of, letter_says, long_says, number, option_named, option_of_letter, option_says, other_says, said, said_after, takes_value, used, version, wrong}
use Rattle.task_words.proofs.Matching.{found_is, known, same_text}

-- ---- the word of a flag

no_cut : (text : Text) → has_byte 61 text ≡ false → before_first (λ x. x == 61) text ≡ text
no_cut [] e = refl
no_cut (x ∷ xs) e = go (x == 61) e (λ f. no_cut xs f)
  where
    go : (b : Bool) → (b || has_byte 61 xs) ≡ false → (has_byte 61 xs ≡ false → before_first (λ y. y == 61) xs ≡ xs)
        → take (cond (not b) (1 + position_or_len (λ y. y == 61) xs) 0) (x ∷ xs) ≡ x ∷ xs
    go true f next = cc
    go false f next =
        let one : 1 + position_or_len (λ y. y == 61) xs ≡ suc (position_or_len (λ y. y == 61) xs) = omega arith in
        rw one (ap (λ t. x ∷ t) (next f))

whole_name : (text name : Text) → option_and_then long_of_rest (Some text) ≡ Some (name, None) → text ≡ name
whole_name [] name e = cc
whole_name (x ∷ xs) name e = go (has_byte 61 (x ∷ xs)) refl e
  where
    go : (b : Bool) → has_byte 61 (x ∷ xs) ≡ b
        → ◌≡◌ {A = Option (Text × Option Text)} (Some (before_first (λ y. y == 61) (x ∷ xs), cond b (Some (after_first (λ y. y == 61) (x ∷ xs))) None)) (Some (name, None)) → x ∷ xs ≡ name
    go true f is =
        let pair : ◌≡◌ {A = Text × Option Text} (before_first (λ y. y == 61) (x ∷ xs), Some (after_first (λ y. y == 61) (x ∷ xs))) (name, None) = cc in
        let part : ◌≡◌ {A = Option Text} (Some (after_first (λ y. y == 61) (x ∷ xs))) None = ap (λ q. q.1) pair in
        cc
    go false f is =
        let pair : ◌≡◌ {A = Text × Option Text} (before_first (λ y. y == 61) (x ∷ xs), None) (name, None) = cc in
        sym (no_cut (x ∷ xs) f) ∙ ap (λ q. q.0) pair

word_of_name : (word name : Text) → long_of word ≡ Some (name, None) → word ≡ 45 ∷ 45 ∷ name
word_of_name [] name e = cc
word_of_name (a ∷ []) name e = go (a == 45) e
  where
    go : (b : Bool) → option_and_then long_of_rest (option_and_then (strip_byte 45) (cond b (Some []) None)) ≡ Some (name, None) → a ∷ [] ≡ 45 ∷ 45 ∷ name
    go true f = cc
    go false f = cc
word_of_name (a ∷ b ∷ rest) name e = first (a == 45) refl e
  where
    second : a ≡ 45 → (q : Bool) → (b == 45) ≡ q → option_and_then long_of_rest (cond q (Some rest) None) ≡ Some (name, None) → a ∷ b ∷ rest ≡ 45 ∷ 45 ∷ name
    second is false qe f = cc
    second is true qe f = ap₂ (λ x y. x ∷ y) is (ap₂ (λ x y. x ∷ y) (eqb-true b 45 qe) (whole_name rest name f))

    first : (p : Bool) → (a == 45) ≡ p → option_and_then long_of_rest (option_and_then (strip_byte 45) (cond p (Some (b ∷ rest)) None)) ≡ Some (name, None) → a ∷ b ∷ rest ≡ 45 ∷ 45 ∷ name
    first false pe f = cc
    first true pe f = second (eqb-true a 45 pe) (b == 45) refl f

-- ---- the words

lawful_ends : (before uses : List Use) → if_lawful before (gives before) ≡ gives uses → before ≡ uses
lawful_ends before uses e = go (are_lawful before) e
  where
    go : (b : Bool) → cond b (gives before) wrong ≡ gives uses → before ≡ uses
    go true f = cc
    go false f = cc

help_ends : (before uses : List Use) → if_lawful before asks_help ≡ gives uses → ⊥
help_ends before uses e = go (are_lawful before) e
  where
    go : (b : Bool) → cond b asks_help wrong ≡ gives uses → ⊥
    go true f = cc
    go false f = cc

version_ends : (before uses : List Use) → if_lawful before asks_version ≡ gives uses → ⊥
version_ends before uses e = go (are_lawful before) e
  where
    go : (b : Bool) → cond b asks_version wrong ≡ gives uses → ⊥
    go true f = cc
    go false f = cc

letter_ends : (o : Option Known) (before uses : List Use) → letter_says o before ≡ gives uses → ⊥
letter_ends None before uses e = cc
letter_ends (Some o) before uses e = go o.kind e
  where
    go : (k : Kind) → alone_says o k before (λ _ _. wrong) ≡ gives uses → ⊥
    go flag f = cc
    go any_text f = cc
    go (number most) f = cc
    go help f = help_ends before uses f
    go version f = version_ends before uses f

other_ends : (table : List Known) (letter : Option ℕ) (before uses : List Use) → other_says table letter before ≡ gives uses → ⊥
other_ends table None before uses e = cc
other_ends table (Some x) before uses e = letter_ends (option_of_letter table x) before uses e

swap : (a b c : Bool) → ((a || b) || c) ≡ (b || (a || c))
swap true true c = refl
swap true false c = refl
swap false b c = or_assoc b c
  where
    or_assoc : (b c : Bool) → (b || c) ≡ (b || c)
    or_assoc b c = refl

or_none : (b : Bool) → (b || false) ≡ b
or_none true = refl
or_none false = refl

all_true : (table : List Known) → list_all (λ _. true) table ≡ true
all_true [] = refl
all_true (o ∷ os) = all_true os

module _ (table : List Known) (p : Text) (h1 : long_of (45 ∷ 45 ∷ p) ≡ Some (p, None)) (h2 : bytes_eq (45 ∷ 45 ∷ p) (codes "--") ≡ false)
    (h3 : option_named table p ≡ Some (known flag p None None)) where
  abbrev is_own : Text → Bool
  is_own word = bytes_eq word (45 ∷ 45 ∷ p)

  abbrev Counts : List Text → List Use → List Use → Type 0
  Counts words before uses = is_given p uses ≡ (is_given p before || list_any is_own words)

  abbrev Idle : List Text → Type 0
  Idle words = (before uses : List Use) → said_after table words None before ≡ gives uses → Counts words before uses

  abbrev Waits : List Text → Type 0
  Waits words = (o : Known) (before uses : List Use) → option_named table o.name ≡ Some o → takes_value o.kind ≡ true → said_after table words (Some o) before ≡ gives uses → Counts words before uses

  not_flag : (o : Known) → option_named table o.name ≡ Some o → takes_value o.kind ≡ true → bytes_eq o.name p ≡ false
  not_flag o found takes = go (bytes_eq o.name p) refl
    where
      go : (b : Bool) → bytes_eq o.name p ≡ b → bytes_eq o.name p ≡ false
      go false e = e
      go true e =
          let same : Some o ≡ Some (known flag p None None) = sym found ∙ ap (option_named table) (same_text o.name p e) ∙ h3 in
          let one : o ≡ known flag p None None = cc in
          let bad : false ≡ true = ap (λ (x : Known). takes_value x.kind) (sym one) ∙ takes in
          cc

  own_word : (word : Text) → is_own word ≡ true → (long_of word ≡ Some (p, None)) × (bytes_eq word (codes "--") ≡ false)
  own_word word e = (ap long_of (same_text word _ e) ∙ h1, ap (λ w. bytes_eq w (codes "--")) (same_text word _ e) ∙ h2)

  -- a word that is not the flag's
  other_word : (word : Text) → (is_own word ≡ true → ⊥) → is_own word ≡ false
  other_word word away = go (is_own word) refl
    where
      go : (b : Bool) → is_own word ≡ b → is_own word ≡ false
      go true e = absurd (away e)
      go false e = e

  -- one more word that is not the flag's, and one more use that is not the flag's
  skip_word : (word : Text) (rest : List Text) (before uses : List Use) → is_own word ≡ false → Counts rest before uses → Counts (word ∷ rest) before uses
  skip_word word rest before uses none h = h ∙ ap (λ b. is_given p before || (b || list_any is_own rest)) (sym none)

  skip_use : (o : Known) (v : Text) (rest : List Text) (before uses : List Use) → bytes_eq o.name p ≡ false → Counts rest (used o v before) uses → Counts rest before uses
  skip_use o v rest before uses none h = h ∙ ap (λ b. (b || is_given p before) || list_any is_own rest) none

  -- a flag that is given by its word
  by_word : (o : Known) (word : Text) (rest : List Text) (before uses : List Use) → bytes_eq o.name p ≡ is_own word → Counts rest (used o [] before) uses → Counts (word ∷ rest) before uses
  by_word o word rest before uses same h = h ∙ ap (λ b. (b || is_given p before) || list_any is_own rest) same ∙ swap (is_own word) (is_given p before) (list_any is_own rest)

  named_word : (word name : Text) → long_of word ≡ Some (name, None) → bytes_eq name p ≡ is_own word
  named_word word name l = ap (λ w. bytes_eq w (45 ∷ 45 ∷ p)) (sym (word_of_name word name l))

  step_flag : (k : Kind) (o : Known) (word : Text) (rest : List Text) (before uses : List Use) → o.kind ≡ k → option_named table o.name ≡ Some o → long_of word ≡ Some (o.name, None)
      → Idle rest → Waits rest → alone_says o k before (said_after table rest) ≡ gives uses → Counts (word ∷ rest) before uses
  step_flag flag o word rest before uses is found l idle waits e = by_word o word rest before uses (named_word word o.name l) (idle (used o [] before) uses e)
  step_flag any_text o word rest before uses is found l idle waits e =
      let takes : takes_value o.kind ≡ true = ap takes_value is in
      skip_word word rest before uses (sym (named_word word o.name l) ∙ not_flag o found takes) (waits o before uses found takes e)
  step_flag (number most) o word rest before uses is found l idle waits e =
      let takes : takes_value o.kind ≡ true = ap takes_value is in
      skip_word word rest before uses (sym (named_word word o.name l) ∙ not_flag o found takes) (waits o before uses found takes e)
  step_flag help o word rest before uses is found l idle waits e = absurd (help_ends before uses e)
  step_flag version o word rest before uses is found l idle waits e = absurd (version_ends before uses e)

  has_name : (name : Text) (o : Known) → option_named table name ≡ Some o → (option_named table o.name ≡ Some o) × (o.name ≡ name)
  has_name name o found =
      let same = same_text o.name name (found_is (λ _. true) (λ x. bytes_eq x.name name) table o (all_true table) found).1 in
      (ap (option_named table) same ∙ found, same)

  step_joined : (o : Known) (v word : Text) (rest : List Text) (before uses : List Use) → option_named table o.name ≡ Some o → is_own word ≡ false
      → Idle rest → joined_says o v before (said_after table rest) ≡ gives uses → Counts (word ∷ rest) before uses
  step_joined o v word rest before uses found none idle e = go (takes_value o.kind) refl e
    where
      go : (b : Bool) → takes_value o.kind ≡ b → cond b (said_after table rest None (used o v before)) wrong ≡ gives uses → Counts (word ∷ rest) before uses
      go true takes f = skip_word word rest before uses none (skip_use o v rest before uses (not_flag o found takes) (idle (used o v before) uses f))
      go false takes f = cc

  step_long : (word name : Text) (v : Option Text) (rest : List Text) (before uses : List Use) → long_of word ≡ Some (name, v) → Idle rest → Waits rest
      → (o : Option Known) → option_named table name ≡ o → long_says o v before (said_after table rest) ≡ gives uses → Counts (word ∷ rest) before uses
  step_long word name v rest before uses l idle waits None is e = cc
  step_long word name None rest before uses l idle waits (Some o) is e =
      let has = has_name name o is in
      step_flag o.kind o word rest before uses refl has.0 (l ∙ ap (λ n. Some (n, None)) (sym has.1)) idle waits e
  step_long word name (Some v) rest before uses l idle waits (Some o) is e =
      step_joined o v word rest before uses (has_name name o is).0 (other_word word (λ own. let bad : Some (name, Some v) ≡ Some (p, None) = sym l ∙ (own_word word own).0 in
      let pair : ◌≡◌ {A = Text × Option Text} (name, Some v) (p, None) = cc in let part : Some v ≡ None = ap (λ q. q.1) pair in cc)) idle e

  step_idle : (word : Text) (rest : List Text) → Idle rest → Waits rest → Idle (word ∷ rest)
  unfolding said_after
  step_idle word rest idle waits before uses e = go (bytes_eq word (codes "--")) refl e
    where
      long : (o : Option (Text × Option Text)) → long_of word ≡ o → option_says table word o before (said_after table rest) ≡ gives uses → Counts (word ∷ rest) before uses
      long None l f = absurd (other_ends table (letter_of word) before uses f)
      long (Some n) l f = step_long word n.0 n.1 rest before uses l idle waits (option_named table n.0) refl f

      last : (r : List Text) → cond (is_last r) (if_lawful before (gives before)) wrong ≡ gives uses → is_own word ≡ false → Counts (word ∷ r) before uses
      last [] f none = ap (is_given p) (sym (lawful_ends before uses f)) ∙ sym (or_none (is_given p before)) ∙ ap (λ b. is_given p before || (b || false)) (sym none)
      last (x ∷ xs) f none = cc

      go : (b : Bool) → bytes_eq word (codes "--") ≡ b → cond b (cond (is_last rest) (if_lawful before (gives before)) wrong) (option_says table word (long_of word) before (said_after table rest)) ≡ gives uses
          → Counts (word ∷ rest) before uses
      go true d f = last rest f (other_word word (λ own. let bad : true ≡ false = sym d ∙ (own_word word own).1 in cc))
      go false d f = long (long_of word) refl f

  step_waits : (word : Text) (rest : List Text) → Idle rest → Waits (word ∷ rest)
  unfolding said_after
  step_waits word rest idle o before uses found takes e = go (is_option_word word) refl e
    where
      go : (b : Bool) → is_option_word word ≡ b → cond b wrong (said_after table rest None (used o word before)) ≡ gives uses → Counts (word ∷ rest) before uses
      go true f g = cc
      go false f g = skip_word word rest before uses (other_word word (λ own.
          let own_is = own_word word own in
          let is : is_option_word word ≡ true = rw (own_is.1, own_is.0) refl in
          let bad : true ≡ false = sym is ∙ f in cc))
          (skip_use o word rest before uses (not_flag o found takes) (idle (used o word before) uses g))

  each : (words : List Text) → Idle words × Waits words
  unfolding said_after
  each [] = (
    λ before uses e. ap (is_given p) (sym (lawful_ends before uses e)) ∙ sym (or_none (is_given p before)),
    λ o before uses found takes e. cc,
  )
  each (word ∷ rest) = (step_idle word rest (each rest).0 (each rest).1, step_waits word rest (each rest).0)

  -- the flag is given exactly if its word is there
  pub flag_word : (words : List Text) (uses : List Use) → said table words ≡ gives uses → is_given p uses ≡ list_any is_own words
  flag_word words uses e = (each words).0 [] uses e
