use Rattle.std.proofs.Common.{◌≡◌, ◌∙◌, ◌∷◌, ◌++◌, [], ap, arith, decimal}
use Rattle.raster.proofs.lemmas.Decimals.{length-five, longer}
use Rattle.raster.proofs.pbm.header.Header.of.Goals as goal

pub push_decimal-requires : goal.push_decimal-requires
push_decimal-requires c =
    let one = longer [] (80 ∷ 52 ∷ 10 ∷ []) c.begun-header.result c.begun-header.ensures in
    omega (arith, length-five c.args.width c.requires.width, length-five c.args.height c.requires.height)

pub push-requires : goal.push-requires
push-requires c =
    let one = longer [] (80 ∷ 52 ∷ 10 ∷ []) c.begun-header.result c.begun-header.ensures in
    let two = longer c.begun-header.result _ c.push_decimal.new.self c.push_decimal.ensures in
    omega (arith, length-five c.args.width c.requires.width, length-five c.args.height c.requires.height)

pub push_decimal-requires-2 : goal.push_decimal-requires-2
push_decimal-requires-2 c =
    let one = longer [] (80 ∷ 52 ∷ 10 ∷ []) c.begun-header.result c.begun-header.ensures in
    let two = longer c.begun-header.result _ c.push_decimal.new.self c.push_decimal.ensures in
    let three = longer c.push_decimal.new.self (32 ∷ []) c.push.new.self c.push.ensures in
    omega (arith, length-five c.args.width c.requires.width, length-five c.args.height c.requires.height)

pub push-requires-2 : goal.push-requires-2
push-requires-2 c =
    let one = longer [] (80 ∷ 52 ∷ 10 ∷ []) c.begun-header.result c.begun-header.ensures in
    let two = longer c.begun-header.result _ c.push_decimal.new.self c.push_decimal.ensures in
    let three = longer c.push_decimal.new.self (32 ∷ []) c.push.new.self c.push.ensures in
    let four = longer c.push.new.self _ c.push_decimal-2.new.self c.push_decimal-2.ensures in
    omega (arith, length-five c.args.width c.requires.width, length-five c.args.height c.requires.height)

pub returns : goal.returns
returns c =
    let one : c.push_decimal.new.self ≡ 80 ∷ 52 ∷ 10 ∷ decimal c.args.width = c.push_decimal.ensures ∙ ap (λ t. t ++ decimal c.args.width) c.begun-header.ensures in
    let two : c.push.new.self ≡ 80 ∷ 52 ∷ 10 ∷ decimal c.args.width ++ 32 ∷ [] = c.push.ensures ∙ ap (λ t. t ++ 32 ∷ []) one in
    c.push-2.ensures ∙ ap (λ t. t ++ 10 ∷ []) (c.push_decimal-2.ensures ∙ ap (λ t. t ++ decimal c.args.height) two)
