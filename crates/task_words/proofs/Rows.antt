-- The rows that `clap` holds at the end, option by option.
use Rattle.std.proofs.Common.{◌≡◌, ◌∙◌, ◌||◌, ◌++◌, ℕ, Bool, cond, true, false, not, refl, sym, ap, List, [], ◌∷◌, map, Option, Some, None}
use Rattle.std.specs.Prelude.{IfSome, codes, find, fold, is_some, option_and_then, slice_get}
use Rattle.clap.specs.Lexer.{without_minus}
use Rattle.std.specs.Option.{option_map}
use Rattle.std.specs.Str.{bytes_eq}
use Rattle.clap.proofs.WalkLemmas.{both}
use Rattle.clap.specs.Values.{read_as, reading_of}
use Rattle.clap.specs.Walk.{Row, Text, first_of, one_of, row_text, default_rows, has_row, more_values, with_default}
use Rattle.clap.specs.declared.parser.matches.ValueSource.TheVariants.{CommandLine, DefaultValue}
use Rattle.task_words.specs.Options.{Kind, Known, Use, any_text, are_lawful, flag, is_given, is_number, number, option_named, passes, value_or}
use Rattle.task_words.proofs.Matching.{AreKnown, defaults_by, known, shown, has_row_for, new_row, parser_by, row_for, rows_for, rule_for, same_text}

-- the first of two that is there
abbrev pub first_there : {T : Type 0} → Option T → Option T → Option T
first_there (Some x) other = Some x
first_there None other = other

abbrev pub row_at : Text → List Row → Option Row
row_at name rows = find (λ r. bytes_eq r.id name) rows

abbrev pub use_at : Text → List Use → Option Use
use_at name uses = find (λ u. bytes_eq u.option.name name) uses

find_snoc : {X : Type 0} (p : X → Bool) (xs : List X) (x : X) → find p (xs ++ x ∷ []) ≡ first_there (find p xs) (cond (p x) (Some x) None)
find_snoc p [] x = refl
find_snoc p (y ∷ ys) x = go (p y) (find_snoc p ys x)
  where
    go : (b : Bool) → find p (ys ++ x ∷ []) ≡ first_there (find p ys) (cond (p x) (Some x) None)
        → cond b (Some y) (find p (ys ++ x ∷ [])) ≡ first_there (cond b (Some y) (find p ys)) (cond (p x) (Some x) None)
    go true e = refl
    go false e = e

no_row_at : (name : Text) (rows : List Row) → has_row name rows ≡ false → row_at name rows ≡ None
no_row_at name [] e = refl
no_row_at name (r ∷ rs) e = go (bytes_eq r.id name) e (λ f. no_row_at name rs f)
  where
    go : (b : Bool) → (b || has_row name rs) ≡ false → (has_row name rs ≡ false → row_at name rs ≡ None) → cond b (Some r) (row_at name rs) ≡ None
    go true f next = cc
    go false f next = next f

some_row_at : (name : Text) (rows : List Row) → has_row name rows ≡ true → (r : Row) × (row_at name rows ≡ Some r)
some_row_at name [] e = cc
some_row_at name (r ∷ rs) e = go (bytes_eq r.id name) e (λ f. some_row_at name rs f)
  where
    go : (b : Bool) → (b || has_row name rs) ≡ true → (has_row name rs ≡ true → (q : Row) × (row_at name rs ≡ Some q)) → (q : Row) × (cond b (Some r) (row_at name rs) ≡ Some q)
    go true f next = (r, refl)
    go false f next = next f

-- the row of a use
pub row_of_use : (name : Text) (uses : List Use) → are_lawful uses ≡ true → row_at name (rows_for uses) ≡ option_map row_for (use_at name uses)
row_of_use name [] e = refl
row_of_use name (u ∷ before) e =
    let is = both _ _ e in
    let own = both _ _ is.1 in
    find_snoc (λ r. bytes_eq r.id name) (rows_for before) (row_for u) ∙ go (bytes_eq u.option.name name) refl own.0 (row_of_use name before is.0)
  where
    go : (b : Bool) → bytes_eq u.option.name name ≡ b → not (is_given u.option.name before) ≡ true → row_at name (rows_for before) ≡ option_map row_for (use_at name before)
        → first_there (row_at name (rows_for before)) (cond b (Some (row_for u)) None) ≡ option_map row_for (cond b (Some u) (use_at name before))
    go true same fresh next =
        let free : (g : Bool) → not g ≡ true → g ≡ false = λ g. elim g as (λ (x : Bool). not x ≡ true → x ≡ false) [ true ↦ λ f. cc | false ↦ λ f. refl ] in
        let none : has_row name (rows_for before) ≡ false = ap (λ n. has_row n (rows_for before)) (sym (same_text u.option.name name same)) ∙ (has_row_for u.option.name before ∙ free _ fresh) in
        ap (λ o. first_there o (Some (row_for u))) (no_row_at name (rows_for before) none)
    go false same fresh next = keep (row_at name (rows_for before)) ∙ next
      where
        keep : (o : Option Row) → first_there o None ≡ o
        keep None = refl
        keep (Some r) = refl

-- ---- defaults

abbrev pub default_row : Known → Text → Row
default_row o d = record { id = o.name; values = d ∷ []; count = None; source = Some DefaultValue; reading = reading_of (parser_by o.kind) }

-- the row of the defaults of an option, if it has any
abbrev pub rows_by_default : Known → List Text → Option Row
rows_by_default o [] = None
rows_by_default o (v ∷ vs) = Some (record { id = o.name; values = v ∷ vs; count = None; source = Some DefaultValue; reading = reading_of (parser_by o.kind) })

abbrev pub default_at : Text → List Known → Option Row
default_at name [] = None
default_at name (o ∷ os) = first_there (cond (bytes_eq o.name name) (rows_by_default o (defaults_by o.kind o.default)) None) (default_at name os)

one_default : (name : Text) (o : Known) (rows : List Row) (values : List Text) → has_row o.name rows ≡ false
    → row_at name (default_rows o.name (reading_of (parser_by o.kind)) values rows)
    ≡ first_there (row_at name rows) (cond (bytes_eq o.name name) (rows_by_default o values) None)
one_default name o rows [] none = go (row_at name rows) (bytes_eq o.name name)
  where
    go : (r : Option Row) (b : Bool) → r ≡ first_there r (cond b None None)
    go (Some r) b = refl
    go None true = refl
    go None false = refl
one_default name o rows (v ∷ vs) none =
    ap (row_at name) (new_row o.name (more_values DefaultValue (v ∷ vs)) _ rows none)
    ∙ find_snoc (λ r. bytes_eq r.id name) rows (record { id = o.name; values = v ∷ vs; count = None; source = Some DefaultValue; reading = reading_of (parser_by o.kind) })

after_default : (name : Text) (o : Known) (rows : List Row)
    → row_at name (with_default rows (rule_for o)) ≡ first_there (row_at name rows) (cond (bytes_eq o.name name) (rows_by_default o (defaults_by o.kind o.default)) None)
after_default name o rows = go (has_row o.name rows) refl
  where
    there : (r : Option Row) (q : Row) (d : Option Row) → r ≡ Some q → r ≡ first_there r d
    there r q d e = rw e refl

    same : (b : Bool) → bytes_eq o.name name ≡ b → has_row o.name rows ≡ true
        → row_at name rows ≡ first_there (row_at name rows) (cond b (rows_by_default o (defaults_by o.kind o.default)) None)
    same true e has =
        let found = some_row_at name rows (ap (λ n. has_row n rows) (sym (same_text o.name name e)) ∙ has) in
        there (row_at name rows) found.0 _ found.1
    same false e has = keep (row_at name rows)
      where
        keep : (r : Option Row) → r ≡ first_there r None
        keep None = refl
        keep (Some r) = refl

    go : (b : Bool) → has_row o.name rows ≡ b
        → row_at name (cond b rows (default_rows o.name (reading_of (parser_by o.kind)) (defaults_by o.kind o.default) rows))
        ≡ first_there (row_at name rows) (cond (bytes_eq o.name name) (rows_by_default o (defaults_by o.kind o.default)) None)
    go true has = same (bytes_eq o.name name) refl has
    go false has = one_default name o rows (defaults_by o.kind o.default) has

first_assoc : {T : Type 0} (a b c : Option T) → first_there (first_there a b) c ≡ first_there a (first_there b c)
first_assoc None b c = refl
first_assoc (Some x) b c = refl

pub row_after : (name : Text) (table : List Known) (rows : List Row) → row_at name (fold with_default rows (map rule_for table)) ≡ first_there (row_at name rows) (default_at name table)
row_after name [] rows = go (row_at name rows)
  where
    go : (r : Option Row) → r ≡ first_there r None
    go None = refl
    go (Some r) = refl
row_after name (o ∷ os) rows =
    row_after name os (with_default rows (rule_for o)) ∙ ap (λ r. first_there r (default_at name os)) (after_default name o rows) ∙ first_assoc (row_at name rows) _ _

-- the row of an option at the end
pub row_at_end : (name : Text) (table : List Known) (uses : List Use) → are_lawful uses ≡ true
    → row_at name (fold with_default (rows_for uses) (map rule_for table)) ≡ first_there (option_map row_for (use_at name uses)) (default_at name table)
row_at_end name table uses lawful = row_after name table (rows_for uses) ∙ ap (λ r. first_there r (default_at name table)) (row_of_use name uses lawful)

-- ---- what is read of an option

abbrev pub end_rows : List Known → List Use → List Row
end_rows table uses = fold with_default (rows_for uses) (map rule_for table)

-- a use of that name is of the option that has it
pub use_known : (table : List Known) (name : Text) (uses : List Use) (u : Use) → AreKnown table uses → use_at name uses ≡ Some u → option_named table name ≡ Some u.option
use_known table name [] u all e = cc
use_known table name (x ∷ before) u all e = go (bytes_eq x.option.name name) refl e (use_known table name before u all.1)
  where
    go : (b : Bool) → bytes_eq x.option.name name ≡ b → cond b (Some x) (use_at name before) ≡ Some u → (use_at name before ≡ Some u → option_named table name ≡ Some u.option)
        → option_named table name ≡ Some u.option
    go true same is next =
        let one : x ≡ u = cc in
        ap (option_named table) (sym (same_text x.option.name name same)) ∙ all.0 ∙ ap (λ (y : Use). Some y.option) one
    go false same is next = next is

use_passes : (name : Text) (uses : List Use) (u : Use) → are_lawful uses ≡ true → use_at name uses ≡ Some u → passes u.option.kind u.value ≡ true
use_passes name [] u lawful e = cc
use_passes name (x ∷ before) u lawful e = go (bytes_eq x.option.name name) e (λ f. use_passes name before u (both _ _ lawful).0 f)
  where
    go : (b : Bool) → cond b (Some x) (use_at name before) ≡ Some u → (use_at name before ≡ Some u → passes u.option.kind u.value ≡ true) → passes u.option.kind u.value ≡ true
    go true is next =
        let one : x ≡ u = cc in
        ap (λ (y : Use). passes y.option.kind y.value) (sym one) ∙ (both _ _ (both _ _ lawful).1).1
    go false is next = next is

pub given_use : (name : Text) (uses : List Use) → is_given name uses ≡ is_some (use_at name uses)
given_use name [] = refl
given_use name (u ∷ before) = go (bytes_eq u.option.name name) (given_use name before)
  where
    go : (b : Bool) → is_given name before ≡ is_some (use_at name before) → (b || is_given name before) ≡ is_some (cond b (Some u) (use_at name before))
    go true e = refl
    go false e = e

abbrev pub value_given : Text → List Use → Option Text
value_given name uses = option_map (λ u. u.value) (use_at name uses)

module _ (table : List Known) (uses : List Use) (lawful : are_lawful uses ≡ true) (all : AreKnown table uses) where
  row_end : (name : Text) → row_at name (end_rows table uses) ≡ first_there (option_map row_for (use_at name uses)) (default_at name table)
  row_end name = row_at_end name table uses lawful

  same_option : (name : Text) (o : Known) (u : Use) → option_named table name ≡ Some o → use_at name uses ≡ Some u → u.option ≡ o
  same_option name o u found e =
      let is = sym (use_known table name uses u all e) ∙ found in
      cc

  pub text_held : (name : Text) (d : Option Text) → option_named table name ≡ Some (known any_text name None d)
      → default_at name table ≡ rows_by_default (known any_text name None d) (defaults_by any_text d)
      → first_of name (end_rows table uses) ≡ value_or (value_given name uses) d
  text_held name d found def = ap (option_and_then (λ (r : Row). slice_get r.values 0)) (row_end name) ∙ go (use_at name uses) refl d def
    where
      go : (w : Option Use) → use_at name uses ≡ w → (e : Option Text) → default_at name table ≡ rows_by_default (known any_text name None e) (defaults_by any_text e)
          → option_and_then (λ (r : Row). slice_get r.values 0) (first_there (option_map row_for w) (default_at name table)) ≡ value_or (option_map (λ u. u.value) w) e
      go (Some u) is e f = ap (λ (k : Kind). slice_get (shown k u.value) 0) (ap (λ (o : Known). o.kind) (same_option name _ u found is))
      go None is None f = rw f refl
      go None is (Some t) f = rw f refl

  pub flag_held : (name : Text) → option_named table name ≡ Some (known flag name None None)
      → default_at name table ≡ rows_by_default (known flag name None None) (codes "false" ∷ [])
      → one_of name (end_rows table uses) ≡ Some (cond (is_given name uses) (codes "true") (codes "false"))
  flag_held name found def = ap (option_and_then row_text) (row_end name) ∙ go (use_at name uses) refl ∙ ap (λ b. Some (cond b (codes "true") (codes "false"))) (sym (given_use name uses))
    where
      go : (w : Option Use) → use_at name uses ≡ w
          → option_and_then row_text (first_there (option_map row_for w) (default_at name table)) ≡ Some (cond (is_some w) (codes "true") (codes "false"))
      go (Some u) is = ap (λ (k : Kind). option_map (read_as (reading_of (parser_by k))) (slice_get (shown k u.value) 0)) (ap (λ (o : Known). o.kind) (same_option name _ u found is))
      go None is = rw def refl

  pub number_held : (name : Text) (most : ℕ) (d : Option Text) → option_named table name ≡ Some (known (number most) name None d)
      → default_at name table ≡ rows_by_default (known (number most) name None d) (defaults_by (number most) d)
      → one_of name (end_rows table uses) ≡ option_map without_minus (value_or (value_given name uses) d)
  number_held name most d found def = ap (option_and_then row_text) (row_end name) ∙ go (use_at name uses) refl d def
    where
      go : (w : Option Use) → use_at name uses ≡ w → (e : Option Text) → default_at name table ≡ rows_by_default (known (number most) name None e) (defaults_by (number most) e)
          → option_and_then row_text (first_there (option_map row_for w) (default_at name table)) ≡ option_map without_minus (value_or (option_map (λ u. u.value) w) e)
      go (Some u) is e f = ap (λ (k : Kind). option_map (read_as (reading_of (parser_by k))) (slice_get (shown k u.value) 0)) (ap (λ (o : Known). o.kind) (same_option name _ u found is))
      go None is None f = rw f refl
      go None is (Some t) f = rw f refl

  pub number_right : (name : Text) (most : ℕ) (d : Option Text) → option_named table name ≡ Some (known (number most) name None d) → IfSome d (λ v. is_number most v ≡ true)
      → IfSome (value_or (value_given name uses) d) (λ v. is_number most v ≡ true)
  number_right name most d found right = go (use_at name uses) refl
    where
      go : (w : Option Use) → use_at name uses ≡ w → IfSome (value_or (option_map (λ u. u.value) w) d) (λ v. is_number most v ≡ true)
      go (Some u) is = ap (λ (k : Kind). passes k u.value) (ap (λ (o : Known). o.kind) (sym (same_option name _ u found is))) ∙ use_passes name uses u lawful is
      go None is = right

  pub source_held : (name : Text) (d : Text) → option_named table name ≡ Some (known any_text name None (Some d))
      → default_at name table ≡ rows_by_default (known any_text name None (Some d)) (d ∷ [])
      → option_and_then (λ (r : Row). r.source) (row_at name (end_rows table uses)) ≡ Some (cond (is_given name uses) CommandLine DefaultValue)
  source_held name d found def = ap (option_and_then (λ (r : Row). r.source)) (row_end name) ∙ go (use_at name uses) refl ∙ ap (λ b. Some (cond b CommandLine DefaultValue)) (sym (given_use name uses))
    where
      go : (w : Option Use) → use_at name uses ≡ w
          → option_and_then (λ (r : Row). r.source) (first_there (option_map row_for w) (default_at name table)) ≡ Some (cond (is_some w) CommandLine DefaultValue)
      go (Some u) is = refl
      go None is = rw def refl
