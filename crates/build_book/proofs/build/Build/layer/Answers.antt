use Rattle.std.proofs.Common.{◌≡◌, ◌∙◌, ℕ, ◌<◌, ◌≤◌, List, length, get_or, Option, Some, None, slice_get, is_some, IfNone, IfSome, Bor, sym, subst, ap, arith}
use Rattle.std.specs.Prelude.{nat_lt}
use Rattle.std.proofs.lemmas.Bool.{leb-false, leb-true}
use Rattle.std.proofs.lemmas.Option.{slice_get_read}
use Rattle.build_book.specs.Job.{Job}
use Rattle.build_book.specs.Layer.{Layer, IsLawful, AreLawfulFrom}
use Rattle.build_book.specs.Build.{Build}
use Rattle.build_book.proofs.lemmas.Promise.{lawful_at}
use Rattle.build_book.proofs.build.Build.layer.Goals as goal

-- what is read of lawful layers is lawful
lawful_read : (job : Job) (layers read : List Layer) (k : ℕ) (found : Option (Bor Layer)) → AreLawfulFrom job 0 layers → read ≡ layers
    → is_some found ≡ nat_lt k (length read) → IfSome found (λ layer. layer.now ≡ get_or read k layer.now)
    → IfSome found (λ layer. IsLawful job k layer.now)
lawful_read job layers read k None all same some at = tt
lawful_read job layers read k (Some layer) all same some at =
    subst (λ n. IsLawful job n layer.now) (omega arith)
    (lawful_at job 0 layers all k layer.now
    (slice_get_read layers (length read) k layer.now (ap length same) (leb-true _ _ (sym some))
    (subst (λ l. layer.now ≡ get_or l k layer.now) same at)))

-- a layer is read exactly where the list has one
some_read : (layers read : List Layer) (k : ℕ) (found : Option (Bor Layer)) → read ≡ layers → is_some found ≡ nat_lt k (length read)
    → IfSome found (λ layer. layer.now ≡ get_or read k layer.now) → IfSome found (λ layer. slice_get layers k ≡ Some layer.now)
some_read layers read k None same some at = tt
some_read layers read k (Some layer) same some at =
    slice_get_read layers (length read) k layer.now (ap length same) (leb-true _ _ (sym some)) (subst (λ l. layer.now ≡ get_or l k layer.now) same at)

within_read : (count : ℕ) (read : List Layer) (k : ℕ) (found : Option (Bor Layer)) → length read ≡ count → is_some found ≡ nat_lt k (length read)
    → IfSome found (λ layer. k < count)
within_read count read k None whole some = tt
within_read count read k (Some layer) whole some = subst (λ n. k < n) whole (leb-true _ _ (sym some))

none_read : (count : ℕ) (read : List Layer) (k : ℕ) (found : Option (Bor Layer)) → length read ≡ count → is_some found ≡ nat_lt k (length read)
    → IfNone found (count ≤ k)
none_read count read k None whole some = let past = leb-false _ _ (sym some) in omega (arith, past, whole)
none_read count read k (Some layer) whole some = tt

pub returns-clause-some : goal.returns-clause-some
returns-clause-some g c =
    let read = c.get.ensures.lookup in
    some_read c.args.self.now.layers c.deref.result.now c.args.k c.get.result (c.deref.ensures.value ∙ ap (λ (s : Build). s.layers) c.self.view_is)
    read.0 read.1

pub returns-clause-within : goal.returns-clause-within
returns-clause-within g c =
    within_read c.args.self.now.job.grid.layers c.deref.result.now c.args.k c.get.result
    (ap length c.deref.ensures.value ∙ c.self.invariant.whole ∙ ap (λ (s : Build). s.job.grid.layers) c.self.view_is) c.get.ensures.lookup.0

pub returns-clause-none : goal.returns-clause-none
returns-clause-none g c =
    none_read c.args.self.now.job.grid.layers c.deref.result.now c.args.k c.get.result
    (ap length c.deref.ensures.value ∙ c.self.invariant.whole ∙ ap (λ (s : Build). s.job.grid.layers) c.self.view_is) c.get.ensures.lookup.0

pub returns-clause-lawful : goal.returns-clause-lawful
returns-clause-lawful g c =
    let read = c.get.ensures.lookup in
    lawful_read c.args.self.now.job c.self.inside.layers.items c.deref.result.now c.args.k c.get.result
    (subst (λ job. AreLawfulFrom job 0 c.self.inside.layers.items) (ap (λ (s : Build). s.job) c.self.view_is) c.self.invariant.lawful)
    c.deref.ensures.value read.0 read.1
