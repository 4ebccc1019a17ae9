use Rattle.std.proofs.Common.{[], ◌∷◌, refl}
use mir.Syntax.{w128}
use Rattle.exact_int.proofs.lemmas.Sizes.{sizes, fits, is_at_most}
use Rattle.exact_cut.specs.Bounds.{cross_limit}
use Rattle.exact_int.proofs.lemmas.Identity.{reads, identity}
use Rattle.exact_cut.proofs.hit.cross.Goals as goal

pub overflow_sub-result : goal.overflow_sub-result
overflow_sub-result c = fits w128 (search (sizes, c.requires.a, c.requires.b, c.requires.c, c.requires.d) depth 40) refl

pub returns-clause-value : goal.returns-clause-value
returns-clause-value c = identity (c.args.a ∷ c.args.b ∷ c.args.c ∷ c.args.d ∷ []) (search (reads, sizes, c.requires.a, c.requires.b, c.requires.c, c.requires.d) depth 40 fits 5000) refl

pub returns-clause-bound : goal.returns-clause-bound
returns-clause-bound c = is_at_most cross_limit (search (sizes, c.requires.a, c.requires.b, c.requires.c, c.requires.d) depth 40) refl
