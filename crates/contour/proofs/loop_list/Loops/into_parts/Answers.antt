use Rattle.std.proofs.Common.{◌≡◌, ◌∙◌, ◌<◌, ◌++◌, ◌∷◌, [], ap, arith, length, subst, sym}
use Rattle.contour.specs.Loops.{AreEnds, all_ends, parts_from}
use Rattle.contour.proofs.lemmas.Parts.{inner-are, inner-none, inner-pushed}
use Rattle.contour.proofs.loop_list.Loops.into_parts.Goals as goal
use Rattle.contour.proofs.loop_list.Loops.into_parts.Given as given
use Rattle.contour.proofs.loop_list.Loops.into_parts.Goals.{then-not-is_empty+in_ok-push, else-not-is_empty}

all : (g : given.Over) (c : goal.Joined-not-is_empty g)
    → c.if-not-is_empty.ends.items ≡ all_ends c.self.inside.inner_ends.items (length c.self.inside.flat.items)
all g c =
    let inner = c.self.inside.inner_ends.items in
    let count = length c.self.inside.flat.items in
    elim c.if-not-is_empty.branch [
      | then-not-is_empty+in_ok-push w ↦
          let some : 0 < count = grind (arith, c.self.inside.flat.ok.0) in
          let last : w.len.result ≡ count = omega (arith, w.len.ensures, c.self.inside.flat.ok.0) in
          inner-pushed c.if-not-is_empty.ends.items inner w.len.result count
          (subst (λ v. v.items ≡ inner ++ w.len.result ∷ []) (sym w.ends-is) w.in_ok-push.ensures.items) last some
      | else-not-is_empty w ↦
          let none : count ≡ 0 = grind (arith, c.self.inside.flat.ok.0) in
          let same : c.if-not-is_empty.ends.items ≡ inner = ap (λ v. v.items) w.ends-is in
          subst (λ ends. c.if-not-is_empty.ends.items ≡ ends) (inner-none inner count none c.self.invariant) same
    ]

pub returns-clause-parts : goal.returns-clause-parts
returns-clause-parts g c = sym (ap (λ ends. parts_from 0 ends c.self.inside.flat.items) (all g c) ∙ c.self.view_is)

pub returns-clause-ends : goal.returns-clause-ends
returns-clause-ends g c =
    subst (λ ends. AreEnds 0 ends (length c.self.inside.flat.items)) (sym (all g c))
    (inner-are c.self.inside.inner_ends.items (length c.self.inside.flat.items) c.self.invariant)
