-- What `clap` makes of words, for a table of options: what `said` says.
use Rattle.std.proofs.Common.{⊎_elim, ◌≡◌, ◌∙◌, ◌⊎◌, ◌==◌, ◌&&◌, ◌||◌, ◌++◌, ℕ, Bool, cond, true, false, not, refl, sym, ap, ap₂, arith, List, [], ◌∷◌, map, length, Option, Some, None, inl, inr, is_some, append-nil, drop, subst, zero, suc, ◌≤◌, ◌<◌}
use Rattle.std.proofs.lemmas.Bool.{eqb-true, leb-true, lt-ltb, ltb-true}
use Rattle.std.specs.Prelude.{⊤, neg_ℤ, pos}
use Rattle.std.specs.Prelude.{codes, find, fold, nat_lt, slice_get, option_and_then, encode_utf8}
use Rattle.std.specs.List.{list_all, list_any}
use Rattle.std.specs.Option.{option_map, option_map_or}
use Rattle.std.proofs.lemmas.Slice.Eq.{bytes_eq-Decides}
use Rattle.clap.proofs.WalkLemmas.{both}
use Rattle.std.specs.Str.{bytes_eq, chars}
use Rattle.clap.specs.Kinds.{Kinds, check_kinds, or_else, value_kinds}
use Rattle.clap.specs.Faults.{bundle_fault, built_fault, check_fault, default_fault, defaults_fault, entered_fault, given_default_fault, option_fault, flags_fault, long_fault, short_fault, react_fault, settle_fault, step_fault, turn_fault, use_fault, walk_fault}
use Rattle.clap.specs.Simple.{App, Shape, entered}
use Rattle.clap.specs.Takes.{is_given as is_given_to_clap}
use Rattle.clap.specs.Values.{reading_of}
use Rattle.clap.specs.Lexer.{long_of, short_of, short_of_rest}
use Rattle.std.specs.Str.Parse.{digits_value, starts_with_minus, without_leading_plus}
use Rattle.clap.specs.ValueTests.{accepts, fits_i64}
use Rattle.std.specs.Prelude.{int_le, nat_le}
use Rattle.clap.specs.Walk.{Held, Row, finished, walk, is_empty, with_default, nothing_held, rows_after, attached_value, next as goes_on, option_word, plain_word, long_word, bundle_met, short_word, Step, Waiting, after_flag, after_step, long_met, settled, settled_rows, value, arg_by_id, arg_by_index, arg_by_long, arg_by_short, Rule, Text, Walk, at_row, has_row, more_values, idle, option, used as used_by_clap, with_values, without, walked}
use Rattle.clap.specs.declared.builder.action.ArgAction.{ArgAction}
use Rattle.clap.specs.declared.builder.action.ArgAction.TheVariants as action
use Rattle.clap.specs.declared.builder.value_parser.Reading.{Reading}
use Rattle.clap.specs.declared.builder.value_parser.ValueParser.{ValueParser}
use Rattle.clap.specs.declared.builder.value_parser.ValueParser.TheVariants as vp
use Rattle.clap.specs.declared.parser.matches.ValueSource.TheVariants.{CommandLine}
use Rattle.clap.specs.declared.error.kind.ErrorKind.{ErrorKind}
use Rattle.clap.specs.declared.error.kind.ErrorKind.TheVariants as kind
use Rattle.task_words.specs.Options.{Kind, Known, Said, Use, any_text, are_lawful, flag, help, is_given, is_number, is_numeral, number, asked_by, asks_help, asks_nothing, asks_version, gives, option_named, option_of_letter, said, said_after, wrong, Rest, if_lawful, alone_says, joined_says, long_says, letter_says, other_says, option_says, word_says, is_last, is_option_word, letter_of, passes, takes_value, used, version}

-- ---- an option as a rule of `clap`, once the command is built

abbrev pub action_by : Kind → ArgAction
action_by flag = action.SetTrue
action_by any_text = action.Set
action_by (number most) = action.Set
action_by help = action.Help
action_by version = action.Version

abbrev pub values_by : Kind → ℕ
values_by flag = 0
values_by any_text = 1
values_by (number most) = 1
values_by help = 0
values_by version = 0

abbrev pub names_by : Kind → ℕ
names_by k = values_by k

abbrev pub parser_by : Kind → ValueParser
parser_by flag = vp.Bool
parser_by any_text = vp.String
parser_by (number most) = vp.Signed (pos 1) (pos most)
parser_by help = vp.String
parser_by version = vp.String

abbrev pub defaults_by : Kind → Option Text → List Text
defaults_by flag d = codes "false" ∷ []
defaults_by any_text None = []
defaults_by any_text (Some d) = d ∷ []
defaults_by (number most) None = []
defaults_by (number most) (Some d) = d ∷ []
defaults_by help d = []
defaults_by version d = []

abbrev pub missing_by : Kind → List Text
missing_by flag = codes "true" ∷ []
missing_by any_text = []
missing_by (number most) = []
missing_by help = []
missing_by version = []

abbrev pub rule_for : Known → Rule
rule_for o = record {
  id = o.name;
  long = Some o.name;
  aliases = [];
  short = o.letter;
  short_aliases = [];
  index = None;
  action = Some (action_by o.kind);
  range = Some (record { start_inclusive = values_by o.kind; end_inclusive = values_by o.kind });
  value_names = names_by o.kind;
  defaults = defaults_by o.kind o.default;
  missing = missing_by o.kind;
  trailing_var_arg = false;
  parser = Some (parser_by o.kind);
  ignore_case = false;
  required = false;
  is_simple = true;
  is_free = true;
}

abbrev pub shown : Kind → Text → List Text
shown flag v = codes "true" ∷ []
shown any_text v = v ∷ []
shown (number most) v = v ∷ []
shown help v = v ∷ []
shown version v = v ∷ []

abbrev pub row_for : Use → Row
row_for u = record {
  id = u.option.name;
  values = shown u.option.kind u.value;
  count = None;
  source = Some CommandLine;
  reading = reading_of (parser_by u.option.kind);
}

abbrev pub rows_for : List Use → List Row
rows_for [] = []
rows_for (u ∷ before) = rows_for before ++ row_for u ∷ []

-- ---- rows

any_snoc : {X : Type 0} (p : X → Bool) (xs : List X) (x : X) → list_any p (xs ++ x ∷ []) ≡ (p x || list_any p xs)
any_snoc p [] x = refl
any_snoc p (y ∷ ys) x = go (p y) (p x) (any_snoc p ys x)
  where
    go : (b c : Bool) → list_any p (ys ++ x ∷ []) ≡ (c || list_any p ys) → (b || list_any p (ys ++ x ∷ [])) ≡ (c || (b || list_any p ys))
    go true true e = refl
    go true false e = refl
    go false c e = e

pub has_row_for : (id : Text) (before : List Use) → has_row id (rows_for before) ≡ is_given id before
has_row_for id [] = refl
has_row_for id (u ∷ before) = any_snoc (λ r. bytes_eq r.id id) (rows_for before) (row_for u) ∙ ap (λ b. bytes_eq u.option.name id || b) (has_row_for id before)

-- a row that is not there yet comes last
pub new_row : (id : Text) (change : Row → List Row) (missing rows : List Row) → has_row id rows ≡ false → at_row id change missing rows ≡ rows ++ missing
new_row id change missing [] none = refl
new_row id change missing (r ∷ rs) none = go (bytes_eq r.id id) none (λ e. new_row id change missing rs e)
  where
    go : (b : Bool) → (b || has_row id rs) ≡ false → (has_row id rs ≡ false → at_row id change missing rs ≡ rs ++ missing)
        → cond b (change r ++ rs) (r ∷ at_row id change missing rs) ≡ (r ∷ rs) ++ missing
    go true e next = cc
    go false e next = ap (λ l. r ∷ l) (next e)

row_added : (id : Text) (how : Reading) (values : List Text) (rows : List Row) → has_row id rows ≡ false
    → with_values id how CommandLine values (without id rows)
    ≡ rows ++ record { id = id; values = values; count = None; source = Some CommandLine; reading = how } ∷ []
row_added id how values rows none =
    let same : without id rows ≡ rows = new_row id (λ _. []) [] rows none ∙ append-nil rows in
    rw same (new_row id (more_values CommandLine values) _ rows none)

-- ---- numbers

abbrev is_small : ℕ → Bool
is_small most = nat_lt most 9223372036854775808

and_false : (a : Bool) → (a && false) ≡ false
and_false true = refl
and_false false = refl

below_limit : (n most : ℕ) (a b : Bool) → (nat_le n most ≡ true → a ≡ true) → (a && (b && nat_le n most)) ≡ (b && nat_le n most)
below_limit n most a b fits = go (nat_le n most) fits
  where
    go : (c : Bool) → (c ≡ true → a ≡ true) → (a && (b && c)) ≡ (b && c)
    go true h = ap (λ x. x && (b && true)) (h refl)
    go false h = rw (and_false b) (and_false a)

in_range : (n most : ℕ) (b : Bool) → is_small most ≡ true → (b && (fits_i64 (pos n) && (int_le (pos 1) (pos n) && int_le (pos n) (pos most)))) ≡ (b && (nat_le 1 n && nat_le n most))
in_range n most b small = ap (λ x. b && x) (below_limit n most _ _ (λ e.
    let up : n ≤ most = leb-true n most e in
    let top : most < 9223372036854775808 = ltb-true most _ small in
    lt-ltb n 9223372036854775808 (omega arith)))

pub minus_refused : (v : Text) → starts_with_minus v ≡ true → is_numeral (without_leading_plus v) ≡ false
minus_refused [] e = refl
minus_refused (c ∷ cs) e = subst (λ x. is_numeral (without_leading_plus (x ∷ cs)) ≡ false) (sym (eqb-true c 45 e)) (and_false _)

not_above : (n : ℕ) → int_le (pos 1) (neg_ℤ (pos n)) ≡ false
not_above zero = refl
not_above (suc n) = refl

none_below : (t : Text) (n most : ℕ)
    → (is_numeral t && (fits_i64 (neg_ℤ (pos n)) && (int_le (pos 1) (neg_ℤ (pos n)) && int_le (neg_ℤ (pos n)) (pos most)))) ≡ false
none_below t n most = rw (not_above n, and_false (fits_i64 (neg_ℤ (pos n)))) (and_false (is_numeral t))

pub number_accepted : (most : ℕ) (v : Text) → is_small most ≡ true → accepts false (vp.Signed (pos 1) (pos most)) v ≡ is_number most v
number_accepted most v small = go (starts_with_minus v) refl
  where
    go : (b : Bool) → starts_with_minus v ≡ b → accepts false (vp.Signed (pos 1) (pos most)) v ≡ is_number most v
    go false e = rw e (in_range (digits_value 10 (without_leading_plus v)) most (is_numeral (without_leading_plus v)) small)
    go true e = rw (e, minus_refused v e) (none_below (drop 1 v) (digits_value 10 (drop 1 v)) most)

-- ---- one use of an option

-- the kinds of faults of words that are refused, but for help and version
abbrev pub IsWrong : Kinds → Type 0
IsWrong kinds = (k : ErrorKind) × (kinds ≡ k ∷ []) × (asked_by k ≡ asks_nothing)

abbrev values_for : Kind → Text → List Text
values_for flag v = []
values_for any_text v = v ∷ []
values_for (number most) v = v ∷ []
values_for help v = []
values_for version v = []

abbrev repeats : Bool → Kinds
repeats g = cond g (kind.ArgumentConflict ∷ []) []

abbrev refuses : Bool → Kinds
refuses p = cond p [] (kind.ValueValidation ∷ [])

abbrev pub is_use : Kind → Bool
is_use flag = true
is_use any_text = true
is_use (number most) = true
is_use help = false
is_use version = false

-- a limit that `clap` counts up to
abbrev pub is_sound : Kind → Bool
is_sound flag = true
is_sound any_text = true
is_sound (number most) = is_small most
is_sound help = true
is_sound version = true

or_none : (g : Bool) → (k : Kinds) → or_else (cond (g && true) (kind.ArgumentConflict ∷ []) []) k ≡ or_else (repeats g) k
or_none true k = refl
or_none false k = refl

none_after : (p : Bool) → or_else (cond p [] (kind.ValueValidation ∷ [])) [] ≡ refuses p
none_after true = refl
none_after false = refl

use_says : (k : Kind) (name : Text) (letter : Option ℕ) (default : Option Text) (v : Text) (rows : List Row) → is_use k ≡ true → is_sound k ≡ true
    → use_fault false (rule_for (record { name = name; letter = letter; kind = k; default = default })) (values_for k v) rows
    ≡ or_else (repeats (has_row name rows)) (refuses (passes k v))
use_says flag name letter default v rows u sound = or_none (has_row name rows) []
use_says any_text name letter default v rows u sound = or_none (has_row name rows) []
use_says (number most) name letter default v rows u sound =
    or_none (has_row name rows) _ ∙ ap (or_else (repeats (has_row name rows))) (none_after _ ∙ ap refuses (number_accepted most v sound))
use_says help name letter default v rows u sound = cc
use_says version name letter default v rows u sound = cc

-- a limit that `clap` counts up to, and only requests have letters
abbrev asks : Kind → Bool
asks flag = false
asks any_text = false
asks (number most) = false
asks help = true
asks version = true

abbrev pub fits_clap : Known → Bool
fits_clap o = is_sound o.kind && (not (is_some o.letter) || asks o.kind)

-- ---- finding options

or_false : (b : Bool) → (b || false) ≡ b
or_false true = refl
or_false false = refl

by_long : (table : List Known) (name : Text) → arg_by_long (map rule_for table) name ≡ option_map rule_for (option_named table name)
by_long [] name = refl
by_long (o ∷ os) name = go (bytes_eq o.name name) (by_long os name)
  where
    go : (b : Bool) → arg_by_long (map rule_for os) name ≡ option_map rule_for (option_named os name)
        → cond (b || false) (Some (rule_for o)) (arg_by_long (map rule_for os) name) ≡ option_map rule_for (cond b (Some o) (option_named os name))
    go true e = refl
    go false e = e

by_id : (table : List Known) (name : Text) → arg_by_id (map rule_for table) name ≡ option_map rule_for (option_named table name)
by_id [] name = refl
by_id (o ∷ os) name = go (bytes_eq o.name name) (by_id os name)
  where
    go : (b : Bool) → arg_by_id (map rule_for os) name ≡ option_map rule_for (option_named os name)
        → cond b (Some (rule_for o)) (arg_by_id (map rule_for os) name) ≡ option_map rule_for (cond b (Some o) (option_named os name))
    go true e = refl
    go false e = e

by_letter : (table : List Known) (x : ℕ) → arg_by_short (map rule_for table) x ≡ option_map rule_for (option_of_letter table x)
by_letter [] x = refl
by_letter (o ∷ os) x = go (option_map_or (λ l. l == x) o.letter false) (by_letter os x)
  where
    go : (b : Bool) → arg_by_short (map rule_for os) x ≡ option_map rule_for (option_of_letter os x)
        → cond (b || false) (Some (rule_for o)) (arg_by_short (map rule_for os) x) ≡ option_map rule_for (cond b (Some o) (option_of_letter os x))
    go true e = refl
    go false e = e

by_index : (table : List Known) (i : ℕ) → arg_by_index (map rule_for table) i ≡ None
by_index [] i = refl
by_index (o ∷ os) i = by_index os i

-- what is found by its name has it, and passes what all pass
pub found_is : (test : Known → Bool) (p : Known → Bool) (table : List Known) (o : Known) → list_all test table ≡ true → find p table ≡ Some o
    → (test o ≡ true) × (p o ≡ true)
found_is test p [] o all found = cc
found_is test p (x ∷ xs) o all found = go (p x) refl found (λ e. found_is test p xs o (both _ _ all).1 e)
  where
    go : (b : Bool) → p x ≡ b → cond b (Some x) (find p xs) ≡ Some o → (find p xs ≡ Some o → (test o ≡ true) × (p o ≡ true)) → (test o ≡ true) × (p o ≡ true)
    go true e is next =
        let same : x ≡ o = cc in
        (ap test (sym same) ∙ (both _ _ all).0, ap p (sym same) ∙ e)
    go false e is next = next is

pub same_text : (a b : Text) → bytes_eq a b ≡ true → a ≡ b
same_text a b e = (bytes_eq-Decides a b).0 e

pub itself : (a : Text) → bytes_eq a a ≡ true
itself a = (bytes_eq-Decides a a).1 refl

or_nil : (k : Kinds) → or_else k [] ≡ k
or_nil [] = refl
or_nil (k ∷ ks) = refl

or_assoc : (a b c : Kinds) → or_else (or_else a b) c ≡ or_else a (or_else b c)
or_assoc [] b c = refl
or_assoc (k ∷ ks) b c = refl

wrong_first : (a b : Kinds) → IsWrong a → IsWrong (or_else a b)
wrong_first a b w = rw w.1 (w.0, refl, w.2)

wrong_as : (a b : Kinds) → a ≡ b → IsWrong b → IsWrong a
wrong_as a b e w = (w.0, e ∙ w.1, w.2)

-- ---- the walk

-- what `clap` says of words, and the rows that it holds, as the words say
abbrev pub AreKnown : List Known → List Use → Type 0
AreKnown table [] = ⊤
AreKnown table (u ∷ before) = (option_named table u.option.name ≡ Some u.option) × AreKnown table before

abbrev pub Told : List Known → Kinds → List Row → Said → Type 0
Told table kinds rows (gives uses) = (kinds ≡ []) × (rows ≡ rows_for uses) × (are_lawful uses ≡ true) × AreKnown table uses
Told table kinds rows asks_help = kinds ≡ kind.DisplayHelp ∷ []
Told table kinds rows asks_version = kinds ≡ kind.DisplayVersion ∷ []
Told table kinds rows wrong = IsWrong kinds

-- past uses that are not lawful nothing is said
abbrev EndsWrong : Rest → Type 0
EndsWrong rest = (waiting : Option Known) (before : List Use) → are_lawful before ≡ false → rest waiting before ≡ wrong

no_longer : (o : Known) (v : Text) (before : List Use) → are_lawful before ≡ false → are_lawful (used o v before) ≡ false
no_longer o v before e = ap (λ b. b && (not (is_given o.name before) && passes o.kind v)) e

not_said : (before : List Use) (s : Said) → are_lawful before ≡ false → if_lawful before s ≡ wrong
not_said before s e = ap (λ b. cond b s wrong) e

alone_wrong : (o : Known) (k : Kind) (before : List Use) (rest : Rest) → are_lawful before ≡ false → EndsWrong rest → alone_says o k before rest ≡ wrong
alone_wrong o flag before rest e w = w None (used o [] before) (no_longer o [] before e)
alone_wrong o any_text before rest e w = w (Some o) before e
alone_wrong o (number most) before rest e w = w (Some o) before e
alone_wrong o help before rest e w = not_said before asks_help e
alone_wrong o version before rest e w = not_said before asks_version e

joined_wrong : (o : Known) (v : Text) (before : List Use) (rest : Rest) → are_lawful before ≡ false → EndsWrong rest → joined_says o v before rest ≡ wrong
joined_wrong o v before rest e w = go (takes_value o.kind)
  where
    go : (b : Bool) → cond b (rest None (used o v before)) wrong ≡ wrong
    go true = w None (used o v before) (no_longer o v before e)
    go false = refl

long_wrong : (o : Option Known) (v : Option Text) (before : List Use) (rest : Rest) → are_lawful before ≡ false → EndsWrong rest → long_says o v before rest ≡ wrong
long_wrong None v before rest e w = refl
long_wrong (Some o) None before rest e w = alone_wrong o o.kind before rest e w
long_wrong (Some o) (Some v) before rest e w = joined_wrong o v before rest e w

letter_wrong : (o : Option Known) (before : List Use) → are_lawful before ≡ false → letter_says o before ≡ wrong
letter_wrong None before e = refl
letter_wrong (Some o) before e = alone_wrong o o.kind before (λ _ _. wrong) e (λ _ _ _. refl)

other_wrong : (table : List Known) (letter : Option ℕ) (before : List Use) → are_lawful before ≡ false → other_says table letter before ≡ wrong
other_wrong table None before e = refl
other_wrong table (Some x) before e = letter_wrong (option_of_letter table x) before e

option_wrong : (table : List Known) (word : Text) (name : Option (Text × Option Text)) (before : List Use) (rest : Rest) → are_lawful before ≡ false → EndsWrong rest
    → option_says table word name before rest ≡ wrong
option_wrong table word None before rest e w = other_wrong table (letter_of word) before e
option_wrong table word (Some name) before rest e w = long_wrong (option_named table name.0) name.1 before rest e w

word_wrong : (table : List Known) (word : Text) (is_end : Bool) (before : List Use) (rest : Rest) → are_lawful before ≡ false → EndsWrong rest
    → word_says table word is_end before rest ≡ wrong
word_wrong table word is_end before rest e w = go (bytes_eq word (codes "--")) is_end
  where
    go : (b c : Bool) → cond b (cond c (if_lawful before (gives before)) wrong) (option_says table word (long_of word) before rest) ≡ wrong
    go true true = not_said before (gives before) e
    go true false = refl
    go false c = option_wrong table word (long_of word) before rest e w

unlawful : (table : List Known) (words : List Text) → EndsWrong (said_after table words)
unfolding said_after
unlawful table [] None before e = not_said before (gives before) e
unlawful table [] (Some o) before e = refl
unlawful table (word ∷ rest) None before e = word_wrong table word (is_last rest) before (said_after table rest) e (unlawful table rest)
unlawful table (word ∷ rest) (Some o) before e = go (is_option_word word) (unlawful table rest None (used o word before) (no_longer o word before e))
  where
    go : (b : Bool) → said_after table rest None (used o word before) ≡ wrong → cond b wrong (said_after table rest None (used o word before)) ≡ wrong
    go true next = refl
    go false next = next

told_as : (table : List Known) (said : Said) (a b : Kinds) (r q : List Row) → a ≡ b → r ≡ q → Told table b q said → Told table a r said
told_as table (gives uses) a b r q e f t = (e ∙ t.0, f ∙ t.1, t.2, t.3)
told_as table asks_help a b r q e f t = e ∙ t
told_as table asks_version a b r q e f t = e ∙ t
told_as table wrong a b r q e f t = wrong_as a b e t

told_wrong : (table : List Known) (said : Said) (a : Kinds) (r : List Row) → said ≡ wrong → IsWrong a → Told table a r said
told_wrong table said a r e w = subst (Told table a r) (sym e) w

-- ---- a use is lawful, or `clap` refuses it

rows_used : (k : Kind) (name : Text) (letter : Option ℕ) (default : Option Text) (v : Text) (rows : List Row) → is_use k ≡ true → has_row name rows ≡ false
    → used_by_clap (rule_for (record { name = name; letter = letter; kind = k; default = default })) (values_for k v) rows
    ≡ rows ++ row_for (record { option = record { name = name; letter = letter; kind = k; default = default }; value = v }) ∷ []
rows_used flag name letter default v rows u none = row_added name _ _ rows none
rows_used any_text name letter default v rows u none = row_added name _ _ rows none
rows_used (number most) name letter default v rows u none = row_added name _ _ rows none
rows_used help name letter default v rows u none = cc
rows_used version name letter default v rows u none = cc

abbrev pub UsesWell : Known → Text → List Use → Type 0
UsesWell o v before = (are_lawful (used o v before) ≡ true) × (use_fault false (rule_for o) (values_for o.kind v) (rows_for before) ≡ [])
    × (used_by_clap (rule_for o) (values_for o.kind v) (rows_for before) ≡ rows_for (used o v before))

abbrev pub UsesBadly : Known → Text → List Use → Type 0
UsesBadly o v before = (are_lawful (used o v before) ≡ false) × IsWrong (use_fault false (rule_for o) (values_for o.kind v) (rows_for before))

verdict : (o : Known) (v : Text) (before : List Use) → are_lawful before ≡ true → is_use o.kind ≡ true → is_sound o.kind ≡ true → UsesWell o v before ⊎ UsesBadly o v before
verdict o v before lawful kind_ok sound = go (is_given o.name before) (passes o.kind v) refl refl
  where
    fault : use_fault false (rule_for o) (values_for o.kind v) (rows_for before) ≡ or_else (repeats (is_given o.name before)) (refuses (passes o.kind v))
    fault = use_says o.kind o.name o.letter o.default v (rows_for before) kind_ok sound
        ∙ ap (λ b. or_else (repeats b) (refuses (passes o.kind v))) (has_row_for o.name before)

    all : (g p : Bool) → is_given o.name before ≡ g → passes o.kind v ≡ p → are_lawful (used o v before) ≡ (not g && p)
    all g p e f = rw (lawful, e, f) refl

    go : (g p : Bool) → is_given o.name before ≡ g → passes o.kind v ≡ p → UsesWell o v before ⊎ UsesBadly o v before
    go true p e f = inr (all true p e f, wrong_as _ _ (fault ∙ ap₂ (λ a b. or_else (repeats a) (refuses b)) e f) (kind.ArgumentConflict, refl, refl))
    go false true e f = inl (
      all false true e f,
      fault ∙ ap₂ (λ a b. or_else (repeats a) (refuses b)) e f,
      rows_used o.kind o.name o.letter o.default v (rows_for before) kind_ok (has_row_for o.name before ∙ e),
    )
    go false false e f = inr (all false false e f, wrong_as _ _ (fault ∙ ap₂ (λ a b. or_else (repeats a) (refuses b)) e f) (kind.ValueValidation, refl, refl))

-- ---- letters

letters_follow : (word letters : Text) → short_of word ≡ Some letters → (x : ℕ) × (xs : Text) × (letters ≡ x ∷ xs)
letters_follow [] letters e = cc
letters_follow (c ∷ cs) letters e = go (c == 45) cs e
  where
    second : (b : Bool) (y : ℕ) (ys : Text) → cond b None (Some (y ∷ ys)) ≡ Some letters → (x : ℕ) × (xs : Text) × (letters ≡ x ∷ xs)
    second true y ys is = cc
    second false y ys is = (y, ys, cc)

    go : (b : Bool) (rest : Text) → option_and_then short_of_rest (cond b (Some rest) None) ≡ Some letters → (x : ℕ) × (xs : Text) × (letters ≡ x ∷ xs)
    go false rest is = cc
    go true [] is = cc
    go true (y ∷ ys) is = second (y == 45) y ys is

request_first : (s m n : Kinds) (k : ErrorKind) → or_else (or_else (or_else s (k ∷ [])) m) n ≡ or_else s (k ∷ [])
request_first [] m n k = refl
request_first (x ∷ xs) m n k = refl

abbrev pub known : Kind → Text → Option ℕ → Option Text → Known
known k n l d = record { name = n; letter = l; kind = k; default = d }

module _ (base : Shape) (table : List Known) (fits : list_all fits_clap table ≡ true) where
  abbrev rules : List Rule
  rules = map rule_for table

  abbrev shape : Shape
  shape = record base { rules = rules; args_override_self = false; is_leaf = true }

  abbrev hold : List Row → Option (Text × List Text) → Held
  hold rows p = record { rows = rows; pending = p; skip = 0 }

  abbrev pub at : List Row → Option (Text × List Text) → Waiting → Walk
  at rows p waiting = record { held = hold rows p; waiting = waiting; position = 1; is_trailing = false; stopped = None }

  abbrev after_dashes : List Row → Option (Text × List Text) → Waiting → Walk
  after_dashes rows p waiting = record { held = hold rows p; waiting = waiting; position = 1; is_trailing = true; stopped = None }

  abbrev rest_fault : Walk → List Text → Kinds
  rest_fault w words = or_else (walk_fault shape [] w words) (settle_fault rules false (fold (walked rules []) w words).held)

  abbrev pub rest_rows : Walk → List Text → List Row
  rest_rows w words = (settled rules (fold (walked rules []) w words).held).rows

  next_word : (w : Walk) (word : Text) (rest : List Text)
      → rest_fault w (word ∷ rest) ≡ or_else (turn_fault shape [] w word) (rest_fault (walked rules [] w word) rest)
  unfolding walk_fault
  next_word w word rest = or_assoc (turn_fault shape [] w word) (walk_fault shape [] (walked rules [] w word) rest) _

  no_word : (w : Walk) → rest_fault w [] ≡ settle_fault rules false w.held
  unfolding walk_fault
  no_word w = refl

  told_next : (said : Said) (w v : Walk) (word : Text) (rest : List Text) → turn_fault shape [] w word ≡ [] → walked rules [] w word ≡ v
      → Told table (rest_fault v rest) (rest_rows v rest) said → Told table (rest_fault w (word ∷ rest)) (rest_rows w (word ∷ rest)) said
  told_next said w v word rest none next t = told_as table said _ _ _ _
      (next_word w word rest ∙ ap₂ (λ k u. or_else k (rest_fault u rest)) none next) (ap (λ u. rest_rows u rest) next) t

  wrong_here : (w : Walk) (word : Text) (rest : List Text) → IsWrong (turn_fault shape [] w word) → IsWrong (rest_fault w (word ∷ rest))
  wrong_here w word rest h = wrong_as _ _ (next_word w word rest) (wrong_first _ _ h)

  asks_here : (w : Walk) (word : Text) (rest : List Text) (k : ErrorKind) → turn_fault shape [] w word ≡ k ∷ [] → rest_fault w (word ∷ rest) ≡ k ∷ []
  asks_here w word rest k h = next_word w word rest ∙ ap (λ a. or_else a (rest_fault (walked rules [] w word) rest)) h

  stray : (rows : List Row) (p : Option (Text × List Text)) → step_fault shape 1 (hold rows p) value ≡ kind.UnknownArgument ∷ []
  stray rows p = rw (by_index table 1) refl

  unknown_is_wrong : IsWrong (kind.UnknownArgument ∷ [])
  unknown_is_wrong = (kind.UnknownArgument, refl, refl)

  -- ---- what is held agrees with the uses so far

  abbrev Good : List Row → Option (Text × List Text) → List Use → Type 0
  Good rows p before = (are_lawful before ≡ true) × (settle_fault rules false (hold rows p) ≡ []) × (settled_rows rules p rows ≡ rows_for before) × AreKnown table before

  abbrev Bad : List Row → Option (Text × List Text) → List Use → Type 0
  Bad rows p before = (are_lawful before ≡ false) × IsWrong (settle_fault rules false (hold rows p))

  abbrev Idle : List Text → Type 0
  Idle words = (rows : List Row) (p : Option (Text × List Text)) (before : List Use) → Good rows p before ⊎ Bad rows p before
      → Told table (rest_fault (at rows p idle) words) (rest_rows (at rows p idle) words) (said_after table words None before)

  abbrev Turned : List Row → Option (Text × List Text) → Text → List Text → Said → Type 0
  Turned rows p word rest said = Told table (rest_fault (at rows p idle) (word ∷ rest)) (rest_rows (at rows p idle) (word ∷ rest)) said

  abbrev awaiting : Known → List Use → Walk
  awaiting o before = at (rows_for before) (Some (o.name, [])) (option o.name)

  abbrev Waits : List Text → Type 0
  Waits words = (o : Known) (before : List Use) → are_lawful before ≡ true → AreKnown table before → option_named table o.name ≡ Some o → takes_value o.kind ≡ true
      → Told table (rest_fault (awaiting o before) words) (rest_rows (awaiting o before) words) (said_after table words (Some o) before)

  -- ---- `--`

  dashes_turn : (rows : List Row) (p : Option (Text × List Text)) (word : Text) → bytes_eq word (codes "--") ≡ true → turn_fault shape [] (at rows p idle) word ≡ []
  dashes_turn rows p word e = rw e refl

  dashes_walked : (rows : List Row) (p : Option (Text × List Text)) (word : Text) → bytes_eq word (codes "--") ≡ true
      → walked rules [] (at rows p idle) word ≡ after_dashes rows p idle
  unfolding walked
  dashes_walked rows p word e = rw e refl

  option_dashes_turn : (rows : List Row) (p : Option (Text × List Text)) (id word : Text) → bytes_eq word (codes "--") ≡ true → turn_fault shape [] (at rows p (option id)) word ≡ []
  option_dashes_turn rows p id word e = rw e refl

  option_dashes_walked : (rows : List Row) (p : Option (Text × List Text)) (id word : Text) → bytes_eq word (codes "--") ≡ true
      → walked rules [] (at rows p (option id)) word ≡ after_dashes rows p (option id)
  unfolding walked
  option_dashes_walked rows p id word e = rw e refl

  dashes_then : (rows : List Row) (p : Option (Text × List Text)) (waiting : Waiting) (word : Text) (rest : List Text)
      → IsWrong (rest_fault (after_dashes rows p waiting) (word ∷ rest))
  dashes_then rows p waiting word rest =
      wrong_here (after_dashes rows p waiting) word rest (wrong_as _ _ (stray rows p) unknown_is_wrong)

  -- ---- `--NAME` and `--NAME=VALUE`

  abbrev met : Option Known → Option Text → Text → Held → Held × Step
  met o v word h = after_flag rules idle word (long_met rules (option_map rule_for o) v h).0 (long_met rules (option_map rule_for o) v h).1

  long_turn : (rows : List Row) (p : Option (Text × List Text)) (word name : Text) (v : Option Text) → bytes_eq word (codes "--") ≡ false → long_of word ≡ Some (name, v)
      → turn_fault shape [] (at rows p idle) word
      ≡ or_else (long_fault rules false (option_map rule_for (option_named table name)) v (hold rows p))
      (step_fault shape 1 (met (option_named table name) v word (hold rows p)).0 (met (option_named table name) v word (hold rows p)).1)
  long_turn rows p word name v e l = rw (e, l, by_long table name) refl

  long_walked : (rows : List Row) (p : Option (Text × List Text)) (word name : Text) (v : Option Text) → bytes_eq word (codes "--") ≡ false → long_of word ≡ Some (name, v)
      → walked rules [] (at rows p idle) word
      ≡ after_step rules word (at rows p idle) (met (option_named table name) v word (hold rows p)).0 (met (option_named table name) v word (hold rows p)).1
  unfolding walked
  long_walked rows p word name v e l = rw (e, l, by_long table name) refl

  -- a word that uses an option with a value
  step_used : (o : Known) (v : Text) (rows : List Row) (p : Option (Text × List Text)) (before : List Use) (word : Text) (rest : List Text)
      → option_named table o.name ≡ Some o → is_use o.kind ≡ true → is_sound o.kind ≡ true → Good rows p before ⊎ Bad rows p before
      → turn_fault shape [] (at rows p idle) word ≡ react_fault rules false (rule_for o) (values_for o.kind v) (hold rows p)
      → walked rules [] (at rows p idle) word ≡ at (used_by_clap (rule_for o) (values_for o.kind v) (settled_rows rules p rows)) None idle
      → Idle rest
      → Turned rows p word rest (said_after table rest None (used o v before))
  step_used o v rows p before word rest found kind_ok sound ready turn walk next = ⊎_elim good bad ready
    where
      bad : Bad rows p before → Turned rows p word rest (said_after table rest None (used o v before))
      bad b = told_wrong table _ _ _ (unlawful table rest None (used o v before) (no_longer o v before b.0))
          (wrong_here (at rows p idle) word rest (wrong_as _ _ turn (wrong_first _ _ b.1)))

      good : Good rows p before → Turned rows p word rest (said_after table rest None (used o v before))
      good g =
          let fault : turn_fault shape [] (at rows p idle) word ≡ use_fault false (rule_for o) (values_for o.kind v) (rows_for before) =
          turn ∙ ap₂ (λ k r. or_else k (use_fault false (rule_for o) (values_for o.kind v) r)) g.1 g.2 in
          let after : walked rules [] (at rows p idle) word ≡ at (used_by_clap (rule_for o) (values_for o.kind v) (rows_for before)) None idle =
          walk ∙ ap (λ r. at (used_by_clap (rule_for o) (values_for o.kind v) r) None idle) g.2 in
          ⊎_elim (λ w. told_next _ _ _ word rest (fault ∙ w.1) (after ∙ ap (λ r. at r None idle) w.2)
          (next (rows_for (used o v before)) None (used o v before) (inl (w.0, refl, refl, (found, g.3)))))
          (λ w. told_wrong table _ _ _ (unlawful table rest None (used o v before) w.0) (wrong_here (at rows p idle) word rest (wrong_as _ _ fault w.1)))
          (verdict o v before g.0 kind_ok sound)

  -- an option whose value is the next word
  step_awaits : (o : Known) (rows : List Row) (p : Option (Text × List Text)) (before : List Use) (word : Text) (rest : List Text)
      → option_named table o.name ≡ Some o → takes_value o.kind ≡ true → Good rows p before ⊎ Bad rows p before
      → turn_fault shape [] (at rows p idle) word ≡ settle_fault rules false (hold rows p)
      → walked rules [] (at rows p idle) word ≡ at (settled_rows rules p rows) (Some (o.name, [])) (option o.name)
      → Waits rest → Turned rows p word rest (said_after table rest (Some o) before)
  step_awaits o rows p before word rest found takes ready turn walk next = ⊎_elim good bad ready
    where
      bad : Bad rows p before → Turned rows p word rest (said_after table rest (Some o) before)
      bad b = told_wrong table _ _ _ (unlawful table rest (Some o) before b.0) (wrong_here (at rows p idle) word rest (wrong_as _ _ turn b.1))

      good : Good rows p before → Turned rows p word rest (said_after table rest (Some o) before)
      good g = told_next _ _ _ word rest (turn ∙ g.1) (walk ∙ ap (λ r. at r (Some (o.name, [])) (option o.name)) g.2)
          (next o before g.0 g.3 found takes)

  -- a word that asks for the help or the version
  step_asks : (asked : Said) (k : ErrorKind) (rows : List Row) (p : Option (Text × List Text)) (before : List Use) (word : Text) (rest : List Text)
      → ((kinds : Kinds) (r : List Row) → kinds ≡ k ∷ [] → Told table kinds r asked) → Good rows p before ⊎ Bad rows p before
      → (more : Kinds) → turn_fault shape [] (at rows p idle) word ≡ or_else (settle_fault rules false (hold rows p)) (k ∷ more) → more ≡ []
      → Turned rows p word rest (if_lawful before asked)
  step_asks asked k rows p before word rest tells ready more turn none = ⊎_elim good bad ready
    where
      bad : Bad rows p before → Turned rows p word rest (if_lawful before asked)
      bad b = told_wrong table _ _ _ (not_said before asked b.0) (wrong_here (at rows p idle) word rest (wrong_as _ _ turn (wrong_first _ _ b.1)))

      good : Good rows p before → Turned rows p word rest (if_lawful before asked)
      good g = subst (Turned rows p word rest) (sym (ap (λ b. cond b asked wrong) g.0))
          (tells _ _ (asks_here (at rows p idle) word rest k (turn ∙ ap₂ (λ a m. or_else a (k ∷ m)) g.1 none)))

  unknown_here : (rows : List Row) (p : Option (Text × List Text)) (word : Text) (rest : List Text) → turn_fault shape [] (at rows p idle) word ≡ kind.UnknownArgument ∷ []
      → Turned rows p word rest wrong
  unknown_here rows p word rest turn = wrong_here (at rows p idle) word rest (wrong_as _ _ turn unknown_is_wrong)

  too_many_here : (rows : List Row) (p : Option (Text × List Text)) (word : Text) (rest : List Text) → turn_fault shape [] (at rows p idle) word ≡ kind.TooManyValues ∷ []
      → Turned rows p word rest wrong
  too_many_here rows p word rest turn = wrong_here (at rows p idle) word rest (wrong_as _ _ turn (kind.TooManyValues, refl, refl))

  step_known : (k : Kind) (n : Text) (l : Option ℕ) (d : Option Text) (v : Option Text) (rows : List Row) (p : Option (Text × List Text)) (before : List Use) (word : Text) (rest : List Text)
      → option_named table n ≡ Some (known k n l d) → is_sound k ≡ true → Good rows p before ⊎ Bad rows p before → Idle rest → Waits rest
      → turn_fault shape [] (at rows p idle) word
      ≡ or_else (long_fault rules false (Some (rule_for (known k n l d))) v (hold rows p))
      (step_fault shape 1 (met (Some (known k n l d)) v word (hold rows p)).0 (met (Some (known k n l d)) v word (hold rows p)).1)
      → walked rules [] (at rows p idle) word
      ≡ after_step rules word (at rows p idle) (met (Some (known k n l d)) v word (hold rows p)).0 (met (Some (known k n l d)) v word (hold rows p)).1
      → Turned rows p word rest (long_says (Some (known k n l d)) v before (said_after table rest))
  step_known flag n l d None rows p before word rest found sound ready next waits turn walk =
      step_used (known flag n l d) [] rows p before word rest found refl refl ready (turn ∙ or_nil _) walk next
  step_known flag n l d (Some v) rows p before word rest found sound ready next waits turn walk = too_many_here rows p word rest turn
  step_known any_text n l d None rows p before word rest found sound ready next waits turn walk =
      step_awaits (known any_text n l d) rows p before word rest found refl ready (turn ∙ or_nil _) walk waits
  step_known any_text n l d (Some v) rows p before word rest found sound ready next waits turn walk =
      step_used (known any_text n l d) v rows p before word rest found refl refl ready (turn ∙ or_nil _) walk next
  step_known (number most) n l d None rows p before word rest found sound ready next waits turn walk =
      step_awaits (known (number most) n l d) rows p before word rest found refl ready (turn ∙ or_nil _) walk waits
  step_known (number most) n l d (Some v) rows p before word rest found sound ready next waits turn walk =
      step_used (known (number most) n l d) v rows p before word rest found refl sound ready (turn ∙ or_nil _) walk next
  step_known help n l d None rows p before word rest found sound ready next waits turn walk =
      step_asks asks_help kind.DisplayHelp rows p before word rest (λ _ _ e. e) ready [] (turn ∙ or_nil _) refl
  step_known help n l d (Some v) rows p before word rest found sound ready next waits turn walk = too_many_here rows p word rest turn
  step_known version n l d None rows p before word rest found sound ready next waits turn walk =
      step_asks asks_version kind.DisplayVersion rows p before word rest (λ _ _ e. e) ready [] (turn ∙ or_nil _) refl
  step_known version n l d (Some v) rows p before word rest found sound ready next waits turn walk = too_many_here rows p word rest turn

  -- an option that is found by a name has that name
  named : (name : Text) (o : Known) → option_named table name ≡ Some o → (option_named table o.name ≡ Some o) × (is_sound o.kind ≡ true)
  named name o found =
      let is = found_is fits_clap (λ x. bytes_eq x.name name) table o fits found in
      (ap (option_named table) (same_text o.name name is.1) ∙ found, (both _ _ is.0).0)

  step_long : (name : Text) (v : Option Text) (rows : List Row) (p : Option (Text × List Text)) (before : List Use) (word : Text) (rest : List Text)
      → bytes_eq word (codes "--") ≡ false → long_of word ≡ Some (name, v) → Good rows p before ⊎ Bad rows p before → Idle rest → Waits rest
      → Turned rows p word rest (long_says (option_named table name) v before (said_after table rest))
  step_long name v rows p before word rest e l ready next waits = go (option_named table name) refl (long_turn rows p word name v e l) (long_walked rows p word name v e l)
    where
      go : (found : Option Known) → option_named table name ≡ found
          → turn_fault shape [] (at rows p idle) word ≡ or_else (long_fault rules false (option_map rule_for (option_named table name)) v (hold rows p))
          (step_fault shape 1 (met (option_named table name) v word (hold rows p)).0 (met (option_named table name) v word (hold rows p)).1)
          → walked rules [] (at rows p idle) word
          ≡ after_step rules word (at rows p idle) (met (option_named table name) v word (hold rows p)).0 (met (option_named table name) v word (hold rows p)).1
          → Turned rows p word rest (long_says (option_named table name) v before (said_after table rest))
      go None is turn walk = rw is (unknown_here rows p word rest (rw is at turn))
      go (Some o) is turn walk =
          rw is (step_known o.kind o.name o.letter o.default v rows p before word rest (named name o is).0 (named name o is).1 ready next waits (rw is at turn) (rw is at walk))

  -- ---- `-LETTER`

  letters_turn : (rows : List Row) (p : Option (Text × List Text)) (word letters : Text) → bytes_eq word (codes "--") ≡ false → long_of word ≡ None → short_of word ≡ Some letters
      → turn_fault shape [] (at rows p idle) word ≡ or_else (bundle_fault rules false letters (hold rows p))
      (step_fault shape 1 (short_word rules idle word letters (hold rows p)).0 (short_word rules idle word letters (hold rows p)).1)
  letters_turn rows p word letters e l s = rw (e, l, s) refl

  abbrev first_letter : Text → Option ℕ
  first_letter letters = slice_get (chars letters) 0

  bundle_none : (rows : List Row) (p : Option (Text × List Text)) (x : ℕ) (xs : Text) → first_letter (x ∷ xs) ≡ None → bundle_fault rules false (x ∷ xs) (hold rows p) ≡ []
  unfolding flags_fault
  bundle_none rows p x xs e = rw e refl

  bundle_plain : (rows : List Row) (p : Option (Text × List Text)) (word : Text) (x : ℕ) (xs : Text) → first_letter (x ∷ xs) ≡ None
      → short_word rules idle word (x ∷ xs) (hold rows p) ≡ (hold rows p, value)
  unfolding bundle_met
  bundle_plain rows p word x xs e = rw e refl

  bundle_some : (rows : List Row) (p : Option (Text × List Text)) (x : ℕ) (xs : Text) (c : ℕ) → first_letter (x ∷ xs) ≡ Some c
      → bundle_fault rules false (x ∷ xs) (hold rows p)
      ≡ short_fault rules false (option_map rule_for (option_of_letter table c)) (drop (length (encode_utf8 c)) (x ∷ xs)) (hold rows p)
      (flags_fault rules false (length xs) (drop (length (encode_utf8 c)) (x ∷ xs)) 0)
  unfolding flags_fault
  bundle_some rows p x xs c e = rw (e, by_letter table c) refl

  step_request : (k : Kind) (n : Text) (l : Option ℕ) (d : Option Text) (rows : List Row) (p : Option (Text × List Text)) (before : List Use) (word more : Text) (rest : List Text)
      → asks k ≡ true → Good rows p before ⊎ Bad rows p before → (next : Held → Kinds) (m : Kinds)
      → turn_fault shape [] (at rows p idle) word ≡ or_else (short_fault rules false (Some (rule_for (known k n l d))) more (hold rows p) next) m
      → Turned rows p word rest (letter_says (Some (known k n l d)) before)
  step_request flag n l d rows p before word more rest a ready next m turn = cc
  step_request any_text n l d rows p before word more rest a ready next m turn = cc
  step_request (number most) n l d rows p before word more rest a ready next m turn = cc
  step_request help n l d rows p before word more rest a ready next m turn =
      step_asks asks_help kind.DisplayHelp rows p before word rest (λ _ _ e. e) ready [] (turn ∙ request_first _ _ m kind.DisplayHelp) refl
  step_request version n l d rows p before word more rest a ready next m turn =
      step_asks asks_version kind.DisplayVersion rows p before word rest (λ _ _ e. e) ready [] (turn ∙ request_first _ _ m kind.DisplayVersion) refl

  lettered : (c : ℕ) (o : Known) → option_of_letter table c ≡ Some o → asks o.kind ≡ true
  lettered c o found =
      let is = found_is fits_clap (λ x. option_map_or (λ l. l == c) x.letter false) table o fits found in
      has o.letter is.1 (both _ _ is.0).1
    where
      has : (l : Option ℕ) → option_map_or (λ x. x == c) l false ≡ true → (not (is_some l) || asks o.kind) ≡ true → asks o.kind ≡ true
      has None e f = cc
      has (Some x) e f = f

  abbrev past_letter : ℕ → ℕ → Text → Text
  past_letter c x xs = drop (length (encode_utf8 c)) (x ∷ xs)

  abbrev letter_fault : List Row → Option (Text × List Text) → ℕ → ℕ → Text → Option Known → Kinds
  letter_fault rows p c x xs o = short_fault rules false (option_map rule_for o) (past_letter c x xs) (hold rows p) (flags_fault rules false (length xs) (past_letter c x xs) 0)

  bundle_at : (rows : List Row) (p : Option (Text × List Text)) (x : ℕ) (xs : Text) (c : ℕ) (o : Option Known) → first_letter (x ∷ xs) ≡ Some c → option_of_letter table c ≡ o
      → bundle_fault rules false (x ∷ xs) (hold rows p) ≡ letter_fault rows p c x xs o
  bundle_at rows p x xs c o e is = bundle_some rows p x xs c e ∙ ap (letter_fault rows p c x xs) is

  abbrev after_letters : List Row → Option (Text × List Text) → Text → ℕ → Text → Kinds
  after_letters rows p word x xs = step_fault shape 1 (short_word rules idle word (x ∷ xs) (hold rows p)).0 (short_word rules idle word (x ∷ xs) (hold rows p)).1

  letters_from : (x : ℕ) (xs : Text) (rows : List Row) (p : Option (Text × List Text)) (before : List Use) (word : Text) (rest : List Text) → Good rows p before ⊎ Bad rows p before
      → turn_fault shape [] (at rows p idle) word ≡ or_else (bundle_fault rules false (x ∷ xs) (hold rows p))
      (step_fault shape 1 (short_word rules idle word (x ∷ xs) (hold rows p)).0 (short_word rules idle word (x ∷ xs) (hold rows p)).1)
      → Turned rows p word rest (other_says table (first_letter (x ∷ xs)) before)
  letters_from x xs rows p before word rest ready turn = first (first_letter (x ∷ xs)) refl
    where
      of : (c : ℕ) (o : Option Known) → first_letter (x ∷ xs) ≡ Some c → option_of_letter table c ≡ o → Turned rows p word rest (letter_says o before)
      of c None e is = unknown_here rows p word rest (turn ∙ ap (λ k. or_else k (after_letters rows p word x xs)) (bundle_at rows p x xs c None e is))
      of c (Some o) e is = step_request o.kind o.name o.letter o.default rows p before word (past_letter c x xs) rest (lettered c o is) ready
          (flags_fault rules false (length xs) (past_letter c x xs) 0) (after_letters rows p word x xs)
          (turn ∙ ap (λ k. or_else k (after_letters rows p word x xs)) (bundle_at rows p x xs c (Some o) e is))

      first : (o : Option ℕ) → first_letter (x ∷ xs) ≡ o → Turned rows p word rest (other_says table (first_letter (x ∷ xs)) before)
      first None e = rw e (unknown_here rows p word rest
          (turn ∙ ap₂ (λ k m. or_else k (step_fault shape 1 m.0 m.1)) (bundle_none rows p x xs e) (bundle_plain rows p word x xs e) ∙ stray rows p))
      first (Some c) e = rw e (of c (option_of_letter table c) e refl)

  step_letters : (letters : Text) (rows : List Row) (p : Option (Text × List Text)) (before : List Use) (word : Text) (rest : List Text)
      → bytes_eq word (codes "--") ≡ false → long_of word ≡ None → short_of word ≡ Some letters → Good rows p before ⊎ Bad rows p before
      → Turned rows p word rest (other_says table (first_letter letters) before)
  step_letters letters rows p before word rest e l s ready =
      let some = letters_follow word letters s in
      subst (λ t. Turned rows p word rest (other_says table (first_letter t) before)) (sym some.2)
      (letters_from some.0 some.1 rows p before word rest ready (letters_turn rows p word (some.0 ∷ some.1) e l (s ∙ ap (λ t. Some t) some.2)))

  -- ---- any other word

  plain_turn : (rows : List Row) (p : Option (Text × List Text)) (word : Text) → bytes_eq word (codes "--") ≡ false → long_of word ≡ None → short_of word ≡ None
      → turn_fault shape [] (at rows p idle) word ≡ kind.UnknownArgument ∷ []
  plain_turn rows p word e l s = rw (e, l, s) (stray rows p)

  -- ---- a word where no value is awaited

  ends : (rows : List Row) (p : Option (Text × List Text)) (before : List Use) → Good rows p before ⊎ Bad rows p before
      → Told table (settle_fault rules false (hold rows p)) (settled_rows rules p rows) (if_lawful before (gives before))
  ends rows p before ready = ⊎_elim good bad ready
    where
      good : Good rows p before → Told table (settle_fault rules false (hold rows p)) (settled_rows rules p rows) (if_lawful before (gives before))
      good g = subst (Told table (settle_fault rules false (hold rows p)) (settled_rows rules p rows)) (sym (ap (λ b. cond b (gives before) wrong) g.0)) (g.1, g.2, g.0, g.3)

      bad : Bad rows p before → Told table (settle_fault rules false (hold rows p)) (settled_rows rules p rows) (if_lawful before (gives before))
      bad b = told_wrong table _ _ _ (not_said before (gives before) b.0) b.1

  step_dashes : (rows : List Row) (p : Option (Text × List Text)) (before : List Use) (word : Text) (rest : List Text) → bytes_eq word (codes "--") ≡ true → Good rows p before ⊎ Bad rows p before
      → Turned rows p word rest (cond (is_last rest) (if_lawful before (gives before)) wrong)
  step_dashes rows p before word [] e ready = told_next _ _ _ word [] (dashes_turn rows p word e) (dashes_walked rows p word e)
      (told_as table _ _ _ _ _ (no_word (after_dashes rows p idle)) refl (ends rows p before ready))
  step_dashes rows p before word (x ∷ xs) e ready = told_next wrong _ _ word (x ∷ xs) (dashes_turn rows p word e) (dashes_walked rows p word e) (dashes_then rows p idle x xs)

  step_other : (rows : List Row) (p : Option (Text × List Text)) (before : List Use) (word : Text) (rest : List Text) → bytes_eq word (codes "--") ≡ false → Good rows p before ⊎ Bad rows p before
      → long_of word ≡ None → Turned rows p word rest (other_says table (letter_of word) before)
  step_other rows p before word rest e ready l = go (short_of word) refl
    where
      go : (o : Option Text) → short_of word ≡ o → Turned rows p word rest (other_says table (letter_of word) before)
      go None s = rw s (unknown_here rows p word rest (plain_turn rows p word e l s))
      go (Some letters) s = rw s (step_letters letters rows p before word rest e l s ready)

  step_option : (rows : List Row) (p : Option (Text × List Text)) (before : List Use) (word : Text) (rest : List Text) → bytes_eq word (codes "--") ≡ false → Good rows p before ⊎ Bad rows p before
      → Idle rest → Waits rest → Turned rows p word rest (option_says table word (long_of word) before (said_after table rest))
  step_option rows p before word rest e ready next waits = go (long_of word) refl
    where
      go : (o : Option (Text × Option Text)) → long_of word ≡ o → Turned rows p word rest (option_says table word o before (said_after table rest))
      go None l = step_other rows p before word rest e ready l
      go (Some n) l = step_long n.0 n.1 rows p before word rest e l ready next waits

  step_idle : (word : Text) (rest : List Text) → Idle rest → Waits rest → Idle (word ∷ rest)
  unfolding said_after
  step_idle word rest next waits rows p before ready = go (bytes_eq word (codes "--")) refl
    where
      go : (b : Bool) → bytes_eq word (codes "--") ≡ b → Turned rows p word rest (said_after table (word ∷ rest) None before)
      go true e = rw e (step_dashes rows p before word rest e ready)
      go false e = rw e (step_option rows p before word rest e ready next waits)

  -- ---- a word where a value is awaited

  no_value : (k : Kind) (n : Text) (l : Option ℕ) (d : Option Text) (rows : List Row) → takes_value k ≡ true → use_fault false (rule_for (known k n l d)) [] rows ≡ kind.InvalidValue ∷ []
  no_value flag n l d rows t = cc
  no_value any_text n l d rows t = refl
  no_value (number most) n l d rows t = refl
  no_value help n l d rows t = cc
  no_value version n l d rows t = cc

  awaits_fault : (o : Known) (rows : List Row) → option_named table o.name ≡ Some o → takes_value o.kind ≡ true
      → IsWrong (settle_fault rules false (hold rows (Some (o.name, []))))
  awaits_fault o rows found takes = rw (by_id table o.name, found) (kind.InvalidValue, no_value o.kind o.name o.letter o.default rows takes, refl)

  long_fault_wrong : (o : Option Known) (v : Option Text) (h : Held) → IsWrong (settle_fault rules false h) → IsWrong (long_fault rules false (option_map rule_for o) v h)
  long_fault_wrong None v h w = unknown_is_wrong
  long_fault_wrong (Some o) v h w = go o.kind v
    where
      go : (k : Kind) (v : Option Text) → IsWrong (long_fault rules false (Some (rule_for (known k o.name o.letter o.default))) v h)
      go flag None = wrong_first _ _ w
      go flag (Some v) = (kind.TooManyValues, refl, refl)
      go any_text None = w
      go any_text (Some v) = wrong_first _ _ w
      go (number most) None = w
      go (number most) (Some v) = wrong_first _ _ w
      go help None = wrong_first _ _ w
      go help (Some v) = (kind.TooManyValues, refl, refl)
      go version None = wrong_first _ _ w
      go version (Some v) = (kind.TooManyValues, refl, refl)

  awaiting_long : (rows : List Row) (p : Option (Text × List Text)) (id word name : Text) (v : Option Text) → bytes_eq word (codes "--") ≡ false → long_of word ≡ Some (name, v)
      → turn_fault shape [] (at rows p (option id)) word
      ≡ or_else (long_fault rules false (option_map rule_for (option_named table name)) v (hold rows p))
      (step_fault shape 1 (long_word rules (option id) word name v (hold rows p)).0 (long_word rules (option id) word name v (hold rows p)).1)
  awaiting_long rows p id word name v e l = rw (e, l, by_long table name) refl

  awaiting_letters : (rows : List Row) (p : Option (Text × List Text)) (id word letters : Text) → bytes_eq word (codes "--") ≡ false → long_of word ≡ None → short_of word ≡ Some letters
      → turn_fault shape [] (at rows p (option id)) word ≡ or_else (bundle_fault rules false letters (hold rows p))
      (step_fault shape 1 (short_word rules (option id) word letters (hold rows p)).0 (short_word rules (option id) word letters (hold rows p)).1)
  awaiting_letters rows p id word letters e l s = rw (e, l, s) refl

  short_fault_wrong : (o : Option Known) (more : Text) (h : Held) (next : Held → Kinds) → IsWrong (settle_fault rules false h)
      → IsWrong (short_fault rules false (option_map rule_for o) more h next)
  short_fault_wrong None more h next w = unknown_is_wrong
  short_fault_wrong (Some o) more h next w = go o.kind (attached_value more)
    where
      attached : (k : Kind) (v : Option Text) → IsWrong (option_fault rules false (rule_for (known k o.name o.letter o.default)) v h)
      attached k None = w
      attached k (Some v) = wrong_first _ _ w

      go : (k : Kind) (v : Option Text) → IsWrong (short_fault rules false (Some (rule_for (known k o.name o.letter o.default))) more h next)
      go flag v = wrong_first _ _ (wrong_first _ _ w)
      go any_text v = attached any_text (attached_value more)
      go (number most) v = attached (number most) (attached_value more)
      go help v = wrong_first _ _ (wrong_first _ _ w)
      go version v = wrong_first _ _ (wrong_first _ _ w)

  values_are : (k : Kind) (v : Text) → takes_value k ≡ true → (values_for k v ≡ v ∷ []) × (is_use k ≡ true)
  values_are flag v t = cc
  values_are any_text v t = (refl, refl)
  values_are (number most) v t = (refl, refl)
  values_are help v t = cc
  values_are version v t = cc

  abbrev filled_at : Known → Text → List Use → Walk
  filled_at o v before = at (rows_for before) (Some (o.name, v ∷ [])) idle

  pushes : (o : Known) (rows : List Row) (word : Text) → option_named table o.name ≡ Some o → takes_value o.kind ≡ true
      → plain_word rules (option o.name) word (hold rows (Some (o.name, []))) ≡ (hold rows (Some (o.name, word ∷ [])), goes_on idle)
  pushes o rows word found takes = rw (by_id table o.name, found) (ap (λ m. (m.0, goes_on m.1)) (go o.kind takes))
    where
      go : (k : Kind) → takes_value k ≡ true
          → option_word (Some (rule_for (known k o.name o.letter o.default))) o.name word (hold rows (Some (o.name, []))) ≡ (hold rows (Some (o.name, word ∷ [])), idle)
      go flag t = cc
      go any_text t = rw (itself o.name) refl
      go (number most) t = rw (itself o.name) refl
      go help t = cc
      go version t = cc

  abbrev Pushed : Known → List Use → Text → Type 0
  Pushed o before word = (turn_fault shape [] (awaiting o before) word ≡ []) × (walked rules [] (awaiting o before) word ≡ filled_at o word before)

  abbrev plain_after : Known → List Use → Text → Held × Step
  plain_after o before word = plain_word rules (option o.name) word (hold (rows_for before) (Some (o.name, [])))

  pushed_as : (o : Known) (before : List Use) (word : Text) → option_named table o.name ≡ Some o → takes_value o.kind ≡ true
      → turn_fault shape [] (awaiting o before) word ≡ step_fault shape 1 (plain_after o before word).0 (plain_after o before word).1
      → walked rules [] (awaiting o before) word ≡ after_step rules word (awaiting o before) (plain_after o before word).0 (plain_after o before word).1
      → Pushed o before word
  pushed_as o before word found takes turn walk =
      let is = pushes o (rows_for before) word found takes in
      (turn ∙ ap (λ m. step_fault shape 1 m.0 m.1) is, walk ∙ ap (λ m. after_step rules word (awaiting o before) m.0 m.1) is)

  no_hyphen_turn : (o : Known) (before : List Use) (word : Text) → bytes_eq word (codes "--") ≡ false → long_of word ≡ None → short_of word ≡ None
      → turn_fault shape [] (awaiting o before) word ≡ step_fault shape 1 (plain_after o before word).0 (plain_after o before word).1
  no_hyphen_turn o before word e l s = rw (e, l, s) refl

  no_hyphen_walk : (o : Known) (before : List Use) (word : Text) → bytes_eq word (codes "--") ≡ false → long_of word ≡ None → short_of word ≡ None
      → walked rules [] (awaiting o before) word ≡ after_step rules word (awaiting o before) (plain_after o before word).0 (plain_after o before word).1
  unfolding walked
  no_hyphen_walk o before word e l s = rw (e, l, s) refl

  odd_letters_met : (o : Known) (before : List Use) (word : Text) (x : ℕ) (xs : Text) → first_letter (x ∷ xs) ≡ None
      → short_word rules (option o.name) word (x ∷ xs) (hold (rows_for before) (Some (o.name, []))) ≡ plain_after o before word
  unfolding bundle_met
  odd_letters_met o before word x xs e = rw e refl

  odd_letters_walk : (o : Known) (before : List Use) (word letters : Text) → bytes_eq word (codes "--") ≡ false → long_of word ≡ None → short_of word ≡ Some letters
      → walked rules [] (awaiting o before) word ≡ after_step rules word (awaiting o before) (short_word rules (option o.name) word letters (hold (rows_for before) (Some (o.name, [])))).0
      (short_word rules (option o.name) word letters (hold (rows_for before) (Some (o.name, [])))).1
  unfolding walked
  odd_letters_walk o before word letters e l s = rw (e, l, s) refl

  -- what is held once the option has its value
  filled_ready : (o : Known) (before : List Use) (word : Text) → are_lawful before ≡ true → AreKnown table before → option_named table o.name ≡ Some o → takes_value o.kind ≡ true → is_sound o.kind ≡ true
      → Good (rows_for before) (Some (o.name, word ∷ [])) (used o word before) ⊎ Bad (rows_for before) (Some (o.name, word ∷ [])) (used o word before)
  filled_ready o before word lawful all found takes sound =
      let vs = values_are o.kind word takes in
      let fault : settle_fault rules false (hold (rows_for before) (Some (o.name, word ∷ []))) ≡ use_fault false (rule_for o) (values_for o.kind word) (rows_for before) =
      rw (by_id table o.name, found, vs.0) refl in
      let rows : settled_rows rules (Some (o.name, word ∷ [])) (rows_for before) ≡ used_by_clap (rule_for o) (values_for o.kind word) (rows_for before) =
      rw (by_id table o.name, found, vs.0) refl in
      ⊎_elim (λ w. inl (w.0, fault ∙ w.1, rows ∙ w.2, (found, all))) (λ w. inr (w.0, wrong_as _ _ fault w.1)) (verdict o word before lawful vs.1 sound)

  awaiting_wrong : (o : Known) (before : List Use) (word : Text) (rest : List Text) (k : Kinds) → turn_fault shape [] (awaiting o before) word ≡ k → IsWrong k → IsWrong (rest_fault (awaiting o before) (word ∷ rest))
  awaiting_wrong o before word rest k turn w = wrong_here (awaiting o before) word rest (wrong_as _ _ turn w)

  abbrev Taken : Known → List Use → Text → List Text → Said → Type 0
  Taken o before word rest said = Told table (rest_fault (awaiting o before) (word ∷ rest)) (rest_rows (awaiting o before) (word ∷ rest)) said

  take_value : (o : Known) (before : List Use) (word : Text) (rest : List Text) → are_lawful before ≡ true → AreKnown table before → option_named table o.name ≡ Some o → takes_value o.kind ≡ true → is_sound o.kind ≡ true
      → Idle rest → Pushed o before word → Taken o before word rest (said_after table rest None (used o word before))
  take_value o before word rest lawful all found takes sound then pushed = told_next _ _ _ word rest pushed.0 pushed.1
      (then (rows_for before) (Some (o.name, word ∷ [])) (used o word before) (filled_ready o before word lawful all found takes sound))

  take_dashes : (o : Known) (before : List Use) (word : Text) (rest : List Text) → option_named table o.name ≡ Some o → takes_value o.kind ≡ true
      → bytes_eq word (codes "--") ≡ true → Taken o before word rest wrong
  take_dashes o before word [] found takes e = told_next wrong _ _ word [] (option_dashes_turn (rows_for before) (Some (o.name, [])) o.name word e) (option_dashes_walked (rows_for before) (Some (o.name, [])) o.name word e)
      (wrong_as _ _ (no_word (after_dashes (rows_for before) (Some (o.name, [])) (option o.name))) (awaits_fault o (rows_for before) found takes))
  take_dashes o before word (x ∷ xs) found takes e = told_next wrong _ _ word (x ∷ xs) (option_dashes_turn (rows_for before) (Some (o.name, [])) o.name word e) (option_dashes_walked (rows_for before) (Some (o.name, [])) o.name word e)
      (dashes_then (rows_for before) (Some (o.name, [])) (option o.name) x xs)

  -- a word that is an option itself leaves the one before it without its value
  refused_word : (word : Text) → is_option_word word ≡ true → (said : Said) → cond (is_option_word word) wrong said ≡ wrong
  refused_word word e said = ap (λ b. cond b wrong said) e

  taken_word : (word : Text) → is_option_word word ≡ false → (said : Said) → cond (is_option_word word) wrong said ≡ said
  taken_word word e said = ap (λ b. cond b wrong said) e

  step_waits : (word : Text) (rest : List Text) → Idle rest → Waits rest → Waits (word ∷ rest)
  unfolding said_after
  step_waits word rest then waits o before lawful all found takes = go (bytes_eq word (codes "--")) refl
    where
      sound : is_sound o.kind ≡ true
      sound = (named o.name o found).1

      refused : is_option_word word ≡ true → Taken o before word rest wrong → Taken o before word rest (said_after table (word ∷ rest) (Some o) before)
      refused e t = subst (Taken o before word rest) (sym (refused_word word e (said_after table rest None (used o word before)))) t

      taken : is_option_word word ≡ false → Pushed o before word → Taken o before word rest (said_after table (word ∷ rest) (Some o) before)
      taken e t = subst (Taken o before word rest) (sym (taken_word word e (said_after table rest None (used o word before))))
          (take_value o before word rest lawful all found takes sound then t)

      settled_wrong : IsWrong (settle_fault rules false (hold (rows_for before) (Some (o.name, []))))
      settled_wrong = awaits_fault o (rows_for before) found takes

      letter : (e : bytes_eq word (codes "--") ≡ false) (l : long_of word ≡ None) (x : ℕ) (xs : Text) (s : short_of word ≡ Some (x ∷ xs)) (c : Option ℕ) → first_letter (x ∷ xs) ≡ c
          → Taken o before word rest (said_after table (word ∷ rest) (Some o) before)
      letter e l x xs s None f =
          let is : is_option_word word ≡ false = rw (e, l, s) (ap is_some f) in
          let turn = awaiting_letters (rows_for before) (Some (o.name, [])) o.name word (x ∷ xs) e l s in
          let met_is = odd_letters_met o before word x xs f in
          taken is (pushed_as o before word found takes
          (turn ∙ ap₂ (λ k m. or_else k (step_fault shape 1 m.0 m.1)) (bundle_none (rows_for before) (Some (o.name, [])) x xs f) met_is)
          (odd_letters_walk o before word (x ∷ xs) e l s ∙ ap (λ m. after_step rules word (awaiting o before) m.0 m.1) met_is))
      letter e l x xs s (Some c) f =
          let is : is_option_word word ≡ true = rw (e, l, s) (ap is_some f) in
          let bad = wrong_as _ _ (bundle_some (rows_for before) (Some (o.name, [])) x xs c f)
          (short_fault_wrong (option_of_letter table c) (past_letter c x xs) (hold (rows_for before) (Some (o.name, []))) _ settled_wrong) in
          refused is (awaiting_wrong o before word rest _ (awaiting_letters (rows_for before) (Some (o.name, [])) o.name word (x ∷ xs) e l s) (wrong_first _ _ bad))

      hyphen : (e : bytes_eq word (codes "--") ≡ false) (l : long_of word ≡ None) (so : Option Text) → short_of word ≡ so
          → Taken o before word rest (said_after table (word ∷ rest) (Some o) before)
      hyphen e l None s = taken (rw (e, l, s) refl) (pushed_as o before word found takes (no_hyphen_turn o before word e l s) (no_hyphen_walk o before word e l s))
      hyphen e l (Some letters) s =
          let some = letters_follow word letters s in
          letter e l some.0 some.1 (s ∙ ap (λ t. Some t) some.2) (first_letter (some.0 ∷ some.1)) refl

      long : (e : bytes_eq word (codes "--") ≡ false) (lo : Option (Text × Option Text)) → long_of word ≡ lo
          → Taken o before word rest (said_after table (word ∷ rest) (Some o) before)
      long e None l = hyphen e l (short_of word) refl
      long e (Some n) l =
          let is : is_option_word word ≡ true = rw (e, l) refl in
          refused is (awaiting_wrong o before word rest _ (awaiting_long (rows_for before) (Some (o.name, [])) o.name word n.0 n.1 e l)
          (wrong_first _ _ (long_fault_wrong (option_named table n.0) n.1 (hold (rows_for before) (Some (o.name, []))) settled_wrong)))

      go : (b : Bool) → bytes_eq word (codes "--") ≡ b → Taken o before word rest (said_after table (word ∷ rest) (Some o) before)
      go true e =
          let is : is_option_word word ≡ true = rw e refl in
          refused is (take_dashes o before word rest found takes e)
      go false e = long e (long_of word) refl

  each : (words : List Text) → Idle words × Waits words
  unfolding said_after
  each [] = (
    λ rows p before ready. told_as table _ _ _ _ _ (no_word (at rows p idle)) refl (ends rows p before ready),
    λ o before lawful all found takes. wrong_as _ _ (no_word (awaiting o before)) (awaits_fault o (rows_for before) found takes),
  )
  each (word ∷ rest) = (step_idle word rest (each rest).0 (each rest).1, step_waits word rest (each rest).0 (each rest).1)

  -- what `clap` makes of words is what they say
  pub told : (words : List Text) → Told table (rest_fault (at [] None idle) words) (rest_rows (at [] None idle) words) (said table words)
  told words = (each words).0 [] None [] (inl (refl, refl, refl, tt))

-- ---- a whole parse

abbrev default_fits : Kind → Option Text → Bool
default_fits flag d = true
default_fits any_text d = true
default_fits (number most) None = true
default_fits (number most) (Some d) = is_small most && is_number most d
default_fits help d = true
default_fits version d = true

abbrev pub has_fitting_default : Known → Bool
has_fitting_default o = default_fits o.kind o.default

fits_number : (most : ℕ) (d : Text) → (is_small most && is_number most d) ≡ true → value_kinds false (vp.Signed (pos 1) (pos most)) d ≡ []
fits_number most d e =
    let is = both _ _ e in
    let ok : accepts false (vp.Signed (pos 1) (pos most)) d ≡ true = number_accepted most d is.0 ∙ is.1 in
    ap (λ b. cond b [] (kind.ValueValidation ∷ [])) ok

default_passes_for : (k : Kind) (n : Text) (l : Option ℕ) (d : Option Text) (rows : List Row) → default_fits k d ≡ true → default_fault rows (rule_for (known k n l d)) ≡ []
default_passes_for k n l d rows e = go k d (has_row n rows) e
  where
    or_fault : Kind → Option Text → Bool → Kinds
    or_fault k d b = cond (b || is_empty (defaults_by k d)) [] (given_default_fault (rule_for (known k n l d)) (defaults_by k d))

    go : (k : Kind) (d : Option Text) (b : Bool) → default_fits k d ≡ true → or_fault k d b ≡ []
    go k d true e = refl
    go flag d false e = refl
    go any_text None false e = refl
    go any_text (Some d) false e = refl
    go (number most) None false e = refl
    go (number most) (Some d) false e = ap (λ x. or_else x []) (fits_number most d e)
    go help d false e = refl
    go version d false e = refl

no_default_fault : (table : List Known) (rows : List Row) → list_all has_fitting_default table ≡ true → defaults_fault rows (map rule_for table) ≡ []
unfolding defaults_fault
no_default_fault [] rows e = refl
no_default_fault (o ∷ os) rows e =
    let is = both _ _ e in
    ap₂ or_else (default_passes_for o.kind o.name o.letter o.default rows is.0) (no_default_fault os (with_default rows (rule_for o)) is.1)

none_required : (table : List Known) (rows : List Row) → list_any (λ a. a.required && not (is_given_to_clap a.id rows)) (map rule_for table) ≡ false
none_required [] rows = refl
none_required (o ∷ os) rows = none_required os rows

none_entered : (top : Shape) (stop : Option (Text × List Text)) → (entered (record { top = top; subs = [] }) stop ≡ None) × (entered_fault (record { top = top; subs = [] }) stop ≡ [])
none_entered top None = (refl, refl)
none_entered top (Some p) = (refl, refl)

peeled : (w b s d c : Kinds) → b ≡ [] → d ≡ [] → c ≡ [] → or_else w (or_else b (or_else s (or_else d c))) ≡ or_else w s
peeled w b s d c e f g = rw (e, f, g) (ap (or_else w) (or_nil s))

module _ (base : Shape) (table : List Known) (fits : list_all fits_clap table ≡ true) (defaults : list_all has_fitting_default table ≡ true)
    (help_on_nothing : base.arg_required_else_help ≡ false) (no_subcommand : base.subcommand_required ≡ false) where
  abbrev pub table_app : App
  table_app = record { top = shape base table fits; subs = [] }

  no_check_fault : (rows : List Row) (b : Bool) → check_fault (shape base table fits) rows b ≡ []
  no_check_fault rows b = rw (help_on_nothing, no_subcommand, none_required table rows, and_false (not b)) (last (not (base.subcommand_negates_reqs && b)))
    where
      last : (c : Bool) → check_kinds false false (c && false) ≡ []
      last true = refl
      last false = refl

  parse_fault : (words : List Text) → built_fault table_app nothing_held words ≡ rest_fault base table fits (at base table fits [] None idle) words
  parse_fault words = peeled _ _ _ _ _ (none_entered (shape base table fits) stop).1 (no_default_fault table end defaults)
      (no_check_fault (finished (map rule_for table) (walk (map rule_for table) [] nothing_held words).held) (is_some (entered table_app stop)))
    where
      stop : Option (Text × List Text)
      stop = (walk (map rule_for table) [] nothing_held words).stopped

      end : List Row
      end = (settled (map rule_for table) (walk (map rule_for table) [] nothing_held words).held).rows

  parse_rows : (words : List Text) → rows_after (map rule_for table) [] words ≡ fold with_default (rest_rows base table fits (at base table fits [] None idle) words) (map rule_for table)
  parse_rows words = refl

  -- what `clap` makes of words is what they say
  pub parse_told : (words : List Text) → Told table (built_fault table_app nothing_held words) (rest_rows base table fits (at base table fits [] None idle) words) (said table words)
  parse_told words = told_as table (said table words) _ _ _ _ (parse_fault words) refl (told base table fits words)
