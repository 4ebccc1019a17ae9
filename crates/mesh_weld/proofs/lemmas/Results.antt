-- What holds of a result that is no error.
use Rattle.std.proofs.Common.{◌≡◌, Bool, true, false, not, sym, ◌∙◌, ap}
use Rattle.std.specs.Prelude.{Err, IfOk, Ok, OnOk, Result}
use Rattle.std.specs.Result.{is_err, result_eq}
use Rattle.std.proofs.lemmas.Bool.{false≢true}

pub on_ok : {T E : Type 0} → (P : Type 0) (r : Result T E) → is_err r ≡ false → OnOk r P → P
on_ok P (Ok x) e p = p
on_ok P (Err x) e p = absurd (false≢true (sym e))

-- a result that a test did not find to be another one than true
pub on_true : {E : Type 0} → (same : Bool → Bool → Bool) (eq : E → E → Bool) (r : Result Bool E) → same false true ≡ false → false ≡ not (result_eq same eq r (Ok true))
    → (P : Bool → Type 0) → IfOk r P → P true
on_true same eq (Ok true) differ e P p = p
on_true same eq (Ok false) differ e P p = absurd (false≢true (e ∙ ap not differ))
on_true same eq (Err x) differ e P p = absurd (false≢true e)

-- what holds if both of two results are no errors
pub both_ok : {T E F : Type 0} {P Q R : Type 0} (r : Result T E) (s : Result (Unit {0}) F) → OnOk r (s ≡ Ok tt) → (P → Q → R) → OnOk s P → OnOk r Q → OnOk r R
both_ok (Ok x) (Ok y) is f p q = f p q
both_ok (Ok x) (Err y) is f p q = absurd (false≢true (sym (ap is_err is)))
both_ok (Err x) s is f p q = tt
