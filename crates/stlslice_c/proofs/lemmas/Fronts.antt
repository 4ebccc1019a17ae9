-- A loop that writes f x over the front of a list, for each x of another.
use Rattle.std.proofs.Common.{◌≡◌, ℕ, ◌+◌, ◌-◌, ◌<◌, List, [], ◌∷◌, ◌++◌, length, map, take, drop, set, get_or, sym, ap, ◌∙◌, arith}
use Rattle.std.proofs.lemmas.List.{append_assoc, drop_more, length-map, map_more, set-append_right}
use lib.Seq.{length-take-le}

pub put_next : {X Y : Type 0} (f : X → Y) (xs : List X) (ys : List Y) (i : ℕ) (x : X) → i < length xs → i < length ys → x ≡ get_or xs i x
    → set (map f (take i xs) ++ drop i ys) i (f x) ≡ map f (take (i + 1) xs) ++ drop (i + 1) ys
put_next f xs ys i x low high at =
    let front = map f (take i xs) in let rest = drop (i + 1) ys in
    let long : length front ≡ i = length-map (take i xs) f ∙ length-take-le i xs (omega (arith, low)) in
    let none : i - i ≡ 0 = omega arith in
    set-append_right front (drop i ys) i i (f x) long (omega arith) ∙ ap (λ n. front ++ set (drop i ys) n (f x)) none
    ∙ ap (λ zs. front ++ set zs 0 (f x)) (drop_more ys i (f x) high) ∙ sym (append_assoc front (f x ∷ []) rest)
    ∙ ap (λ z. (front ++ f z ∷ []) ++ rest) at ∙ sym (ap (λ zs. zs ++ rest) (map_more f xs i x low))
