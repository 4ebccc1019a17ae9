use Rattle.std.proofs.Common.{◌∙◌, Some, sym, subst, arith}
use Rattle.build_book.specs.Book.{IsLawfulPlace}
use Rattle.build_book.proofs.lemmas.Promise.{lawful_promised, promised_once, build_promised, layer_stands, one_build as builds_are_one}
use Rattle.build_book.proofs.lemmas.SomeBuild.{some_build}
use Rattle.build_book.proofs.laws.headline.Goals as goal

pub returns-clause-book : goal.returns-clause-book
returns-clause-book c = λ facets grid rule book k layer lawful job there.
    lawful_promised facets grid rule k layer (subst (λ j. IsLawfulPlace j k (Some layer)) job (lawful.lawful k (Some layer) there))

pub returns-clause-build : goal.returns-clause-build
returns-clause-build c = λ facets grid rule layers k layer complete there. build_promised facets grid rule layers complete k layer there

pub returns-clause-whole : goal.returns-clause-whole
returns-clause-whole c = λ facets grid rule layers k complete low. layer_stands layers k (omega (arith, complete.whole, low))

pub returns-clause-only : goal.returns-clause-only
returns-clause-only c = promised_once

pub returns-clause-some_build : goal.returns-clause-some_build
returns-clause-some_build c = some_build

pub returns-clause-one_build : goal.returns-clause-one_build
returns-clause-one_build c = λ job a b complete complete'. builds_are_one job 0 a b (complete.whole ∙ sym complete'.whole) complete.lawful complete'.lawful
