-- When two grids, and two rules, compare as equal.
use Rattle.std.proofs.Common.{◌≡◌, ℕ, Bool, true, ◌&&◌, Decides, refl, subst, int_eq, arith}
use Rattle.std.specs.Prelude.{◌==◌}
use Rattle.std.proofs.lemmas.Bool.{eqb-true, and_from, and_parts}
use Rattle.std.proofs.lemmas.Bool.Decides.{Decides-int_eq, nat_tests}
use Rattle.raster.specs.Grid.{Grid}
use Rattle.raster.specs.declared.rule.Rule.{Rule}
use Rattle.raster.specs.declared.rule.Rule.TheVariants.{EvenOdd, NonZero, Positive}
use Rattle.raster.specs.contracts.rule.Rule.{the_type}
use denote.Enum.Bare.{sameb}

abbrev are_alike : Grid → Grid → Bool
are_alike a b =
    a.pitch == b.pitch && (a.layer_height == b.layer_height && (a.columns == b.columns && (a.rows == b.rows && (a.layers == b.layers
    && (int_eq a.origin.x b.origin.x && (int_eq a.origin.y b.origin.y && int_eq a.origin.z b.origin.z))))))

equal_self : (n : ℕ) → (n == n) ≡ true
equal_self n = grind (arith, nat_tests)

alike_self : (a : Grid) → are_alike a a ≡ true
alike_self a =
    and_from _ _ (equal_self a.pitch)
    (and_from _ _ (equal_self a.layer_height)
    (and_from _ _ (equal_self a.columns)
    (and_from _ _ (equal_self a.rows)
    (and_from _ _ (equal_self a.layers)
    (and_from _ _ ((Decides-int_eq a.origin.x a.origin.x).1 refl)
    (and_from _ _ ((Decides-int_eq a.origin.y a.origin.y).1 refl) ((Decides-int_eq a.origin.z a.origin.z).1 refl)))))))

alike-is : (a b : Grid) → are_alike a b ≡ true → a ≡ b
alike-is a b h =
    let pitch = and_parts (a.pitch == b.pitch) _ h in
    let height = and_parts (a.layer_height == b.layer_height) _ pitch.1 in
    let columns = and_parts (a.columns == b.columns) _ height.1 in
    let rows = and_parts (a.rows == b.rows) _ columns.1 in
    let layers = and_parts (a.layers == b.layers) _ rows.1 in
    let x = and_parts (int_eq a.origin.x b.origin.x) _ layers.1 in
    let y = and_parts (int_eq a.origin.y b.origin.y) _ x.1 in
    λ i. record {
      origin = record {
        x = (Decides-int_eq a.origin.x b.origin.x).0 x.0 i;
        y = (Decides-int_eq a.origin.y b.origin.y).0 y.0 i;
        z = (Decides-int_eq a.origin.z b.origin.z).0 y.1 i;
      };
      pitch = eqb-true _ _ pitch.0 i;
      layer_height = eqb-true _ _ height.0 i;
      columns = eqb-true _ _ columns.0 i;
      rows = eqb-true _ _ rows.0 i;
      layers = eqb-true _ _ layers.0 i;
    }

pub grids_decide : (a b : Grid) → Decides (are_alike a b) (a ≡ b)
grids_decide a b = (alike-is a b, λ e. subst (λ c. are_alike a c ≡ true) e (alike_self a))

same_rule : (a b : Rule) → sameb the_type a b ≡ true → a ≡ b
same_rule EvenOdd EvenOdd h = refl
same_rule NonZero NonZero h = refl
same_rule Positive Positive h = refl
same_rule EvenOdd NonZero h = cc
same_rule EvenOdd Positive h = cc
same_rule NonZero EvenOdd h = cc
same_rule NonZero Positive h = cc
same_rule Positive EvenOdd h = cc
same_rule Positive NonZero h = cc

rule_itself : (a : Rule) → sameb the_type a a ≡ true
rule_itself EvenOdd = refl
rule_itself NonZero = refl
rule_itself Positive = refl

pub rules_decide : (a b : Rule) → Decides (sameb the_type a b) (a ≡ b)
rules_decide a b = (same_rule a b, λ e. subst (λ c. sameb the_type a c ≡ true) e (rule_itself a))
