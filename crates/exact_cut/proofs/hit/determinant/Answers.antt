use Rattle.std.proofs.Common.{◌≡◌, ℤ, ◌+ℤ◌, ◌-ℤ◌, ◌*ℤ◌, [], ◌∷◌, refl, ◌∙◌}
use mir.Syntax.{w64, w128}
use Rattle.exact_int.proofs.lemmas.Sizes.{sizes, fits, is_at_most}
use Rattle.exact_cut.specs.Bounds.{determinant_limit}
use Rattle.exact_int.proofs.lemmas.Identity.{reads, identity}
use Rattle.exact_cut.proofs.lemmas.Stored.{stored_in}
use Rattle.exact_cut.proofs.hit.determinant.Goals as goal

joined : {a k l m : ℤ} (x y z k' l' m' : ℤ) → a ≡ x *ℤ k' -ℤ y *ℤ l' +ℤ z *ℤ m' → k' ≡ k → l' ≡ l → m' ≡ m → a ≡ x *ℤ k -ℤ y *ℤ l +ℤ z *ℤ m
joined x y z k' l' m' e f g h = e ∙ (λ i. x *ℤ f i -ℤ y *ℤ g i +ℤ z *ℤ h i)

pub cross-requires-clause-a : goal.cross-requires-clause-a
cross-requires-clause-a c = stored_in w64 c.args.f.now.b.y c.args.f.now.b.y_in

pub cross-requires-clause-b : goal.cross-requires-clause-b
cross-requires-clause-b c = stored_in w64 c.args.f.now.b.z c.args.f.now.b.z_in

pub cross-requires-clause-c : goal.cross-requires-clause-c
cross-requires-clause-c c = stored_in w64 c.args.f.now.c.y c.args.f.now.c.y_in

pub cross-requires-clause-d : goal.cross-requires-clause-d
cross-requires-clause-d c = stored_in w64 c.args.f.now.c.z c.args.f.now.c.z_in

pub cross-requires-2-clause-a : goal.cross-requires-2-clause-a
cross-requires-2-clause-a c = stored_in w64 c.args.f.now.b.x c.args.f.now.b.x_in

pub cross-requires-2-clause-b : goal.cross-requires-2-clause-b
cross-requires-2-clause-b c = stored_in w64 c.args.f.now.b.z c.args.f.now.b.z_in

pub cross-requires-2-clause-c : goal.cross-requires-2-clause-c
cross-requires-2-clause-c c = stored_in w64 c.args.f.now.c.x c.args.f.now.c.x_in

pub cross-requires-2-clause-d : goal.cross-requires-2-clause-d
cross-requires-2-clause-d c = stored_in w64 c.args.f.now.c.z c.args.f.now.c.z_in

pub cross-requires-3-clause-a : goal.cross-requires-3-clause-a
cross-requires-3-clause-a c = stored_in w64 c.args.f.now.b.x c.args.f.now.b.x_in

pub cross-requires-3-clause-b : goal.cross-requires-3-clause-b
cross-requires-3-clause-b c = stored_in w64 c.args.f.now.b.y c.args.f.now.b.y_in

pub cross-requires-3-clause-c : goal.cross-requires-3-clause-c
cross-requires-3-clause-c c = stored_in w64 c.args.f.now.c.x c.args.f.now.c.x_in

pub cross-requires-3-clause-d : goal.cross-requires-3-clause-d
cross-requires-3-clause-d c = stored_in w64 c.args.f.now.c.y c.args.f.now.c.y_in

pub overflow_mul-x : goal.overflow_mul-x
overflow_mul-x c = fits w128 (search (sizes, c.args.f.now.a.x_in, c.cross.ensures.bound) depth 40) refl

pub overflow_mul-y : goal.overflow_mul-y
overflow_mul-y c = fits w128 (search (sizes, c.args.f.now.a.y_in, c.cross-2.ensures.bound) depth 40) refl

pub overflow_mul-z : goal.overflow_mul-z
overflow_mul-z c = fits w128 (search (sizes, c.args.f.now.a.z_in, c.cross-3.ensures.bound) depth 40) refl

pub overflow_sub-result : goal.overflow_sub-result
overflow_sub-result c =
    let p = c.args.f.now.a in
    fits w128 (search (sizes, p.x_in, p.y_in, c.cross.ensures.bound, c.cross-2.ensures.bound) depth 40) refl

pub overflow_add-result : goal.overflow_add-result
overflow_add-result c =
    let p = c.args.f.now.a in
    fits w128 (search (sizes, p.x_in, p.y_in, p.z_in, c.cross.ensures.bound, c.cross-2.ensures.bound, c.cross-3.ensures.bound) depth 40) refl

pub returns-clause-bound : goal.returns-clause-bound
returns-clause-bound c =
    let p = c.args.f.now.a in
    is_at_most determinant_limit (search (sizes, p.x_in, p.y_in, p.z_in, c.cross.ensures.bound, c.cross-2.ensures.bound, c.cross-3.ensures.bound) depth 40) refl

pub returns-clause-value : goal.returns-clause-value
returns-clause-value c =
    let p = c.args.f.now.a in
    let q = c.args.f.now.b in
    let r = c.args.f.now.c in
    let e1 : c.cross.result ≡ q.y *ℤ r.z -ℤ q.z *ℤ r.y = c.cross.ensures.value ∙ identity (q.y ∷ q.z ∷ r.y ∷ r.z ∷ []) (search (reads, sizes, q.y_in, q.z_in, r.y_in, r.z_in) depth 40 fits 5000) refl in
    let e2 : c.cross-2.result ≡ q.x *ℤ r.z -ℤ q.z *ℤ r.x = c.cross-2.ensures.value ∙ identity (q.x ∷ q.z ∷ r.x ∷ r.z ∷ []) (search (reads, sizes, q.x_in, q.z_in, r.x_in, r.z_in) depth 40 fits 5000) refl in
    let e3 : c.cross-3.result ≡ q.x *ℤ r.y -ℤ q.y *ℤ r.x = c.cross-3.ensures.value ∙ identity (q.x ∷ q.y ∷ r.x ∷ r.y ∷ []) (search (reads, sizes, q.x_in, q.y_in, r.x_in, r.y_in) depth 40 fits 5000) refl in
    joined {a = _} p.x p.y p.z c.cross.result c.cross-2.result c.cross-3.result
    (identity (p.x ∷ p.y ∷ p.z ∷ c.cross.result ∷ c.cross-2.result ∷ c.cross-3.result ∷ []) (search (reads, sizes, p.x_in, p.y_in, p.z_in, c.cross.ensures.bound, c.cross-2.ensures.bound, c.cross-3.ensures.bound) depth 40 fits 5000) refl) e1 e2 e3
    ∙ identity (p.x ∷ p.y ∷ p.z ∷ q.x ∷ q.y ∷ q.z ∷ r.x ∷ r.y ∷ r.z ∷ []) (search reads depth 40 fits 5000) refl
