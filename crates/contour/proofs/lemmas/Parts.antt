-- A list cut into parts: how many there are, where each begins, and one more at the end.
use Rattle.std.proofs.Common.{◌≡◌, ℕ, zero, suc, ◌+◌, ◌-◌, ◌<◌, ◌≤◌, List, [], ◌∷◌, ◌++◌, refl, sym, ◌∙◌, ap, subst, length, take, drop, get_or, arith, Some, None}
use Rattle.std.specs.Prelude.{flat_map, slice_get}
use Rattle.std.specs.List.{AllByRecursion}
use Rattle.std.proofs.lemmas.List.{length-append, length-drop, drop-drop, take-append-le, drop-append-le, take_all, take-append-drop, nil_from_length}
use Rattle.contour.specs.Loops.{parts_from, AreEnds, AreInnerEnds, all_ends, start_of}

pub length-parts : {X : Type 0} (at : ℕ) (ends : List ℕ) (xs : List X) → length (parts_from at ends xs) ≡ length ends
length-parts at [] xs = refl
length-parts at (e ∷ ends) xs = ap suc (length-parts e ends (drop (e - at) xs))

ends-up : (at : ℕ) (ends : List ℕ) (n : ℕ) → AreEnds at ends n → at ≤ n
ends-up at [] n h = omega arith
ends-up at (e ∷ ends) n h = let up = ends-up e ends n h.1 in let here = h.0 in omega arith

start_of-first : (at : ℕ) (ends : List ℕ) → start_of at ends 0 ≡ at
start_of-first at [] = refl
start_of-first at (e ∷ ends) = refl

start_of-next : (at : ℕ) (ends : List ℕ) (k : ℕ) → k < length ends → start_of at ends (suc k) ≡ get_or ends k 0
start_of-next at [] k h = absurd (omega arith)
start_of-next at (e ∷ ends) zero h = start_of-first e ends
start_of-next at (e ∷ ends) (suc k) h = start_of-next e ends k (omega arith)

pub start_of-before : (ends : List ℕ) (number before : ℕ) → before ≡ number - 1 → 0 < number → number ≤ length ends
    → get_or ends before 0 ≡ start_of 0 ends number
start_of-before ends zero before e l h = absurd (omega arith)
start_of-before ends (suc k) before e l h =
    let same : before ≡ k = omega arith in
    ap (λ m. get_or ends m 0) same ∙ sym (start_of-next 0 ends k (omega arith))

pub record Bounds (at : ℕ) (ends : List ℕ) (k n : ℕ) : Type 0 where
  pub from : at ≤ start_of at ends k
  pub up : start_of at ends k ≤ get_or ends k 0
  pub within : get_or ends k 0 ≤ n

part-bounds : (at : ℕ) (ends : List ℕ) (k n : ℕ) → AreEnds at ends n → k < length ends → Bounds at ends k n
part-bounds at [] k n h l = absurd (omega arith)
part-bounds at (e ∷ ends) zero n h l =
    record { from = omega arith; up = h.0; within = ends-up e ends n h.1 }
part-bounds at (e ∷ ends) (suc k) n h l =
    let b = part-bounds e ends k n h.1 (omega arith) in
    let here = h.0 in
    record { from = omega arith; up = b.up; within = b.within }

part-is : {X : Type 0} (at : ℕ) (ends : List ℕ) (k n : ℕ) (xs : List X) → AreEnds at ends n → k < length ends
    → slice_get (parts_from at ends xs) k ≡ Some (take (get_or ends k 0 - start_of at ends k) (drop (start_of at ends k - at) xs))
part-is at [] k n xs h l = absurd (omega arith)
part-is at (e ∷ ends) zero n xs h l =
    let none : at - at ≡ 0 = omega arith in
    ap (λ m. Some (take (e - at) (drop m xs))) (sym none)
part-is at (e ∷ ends) (suc k) n xs h l =
    let b = part-bounds e ends k n h.1 (omega arith) in
    let here = h.0 in
    let distance : (e - at) + (start_of e ends k - e) ≡ start_of e ends k - at = omega arith in
    part-is e ends k n (drop (e - at) xs) h.1 (omega arith)
    ∙ ap (λ ys. Some (take (get_or ends k 0 - start_of e ends k) ys)) (drop-drop (start_of e ends k - e) (e - at) xs)
    ∙ ap (λ m. Some (take (get_or ends k 0 - start_of e ends k) (drop m xs))) distance

part-none : {X : Type 0} (at : ℕ) (ends : List ℕ) (k : ℕ) (xs : List X) → length ends ≤ k → slice_get (parts_from at ends xs) k ≡ None
part-none at [] k xs l = refl
part-none at (e ∷ ends) zero xs l = absurd (omega arith)
part-none at (e ∷ ends) (suc k) xs l = part-none e ends k (drop (e - at) xs) (omega arith)

-- one more part
pub ends-push : (at : ℕ) (ends : List ℕ) (n m : ℕ) → AreEnds at ends n → n ≤ m → AreEnds at (ends ++ m ∷ []) m
ends-push at [] n m h l = (omega arith, refl)
ends-push at (e ∷ ends) n m h l = (h.0, ends-push e ends n m h.1 l)

pub parts-push : {X : Type 0} (at : ℕ) (ends : List ℕ) (xs ys : List X) (n m : ℕ) → AreEnds at ends n → length xs + at ≡ n
    → length ys + n ≡ m → parts_from at (ends ++ m ∷ []) (xs ++ ys) ≡ parts_from at ends xs ++ ys ∷ []
parts-push at [] xs ys n m h l k =
    let none : length xs ≡ 0 = omega arith in
    let all : length ys ≡ m - at = omega arith in
    ap (λ zs. take (m - at) (zs ++ ys) ∷ []) (nil_from_length xs none) ∙ ap (λ zs. zs ∷ []) (take_all (m - at) ys (omega arith))
parts-push at (e ∷ ends) xs ys n m h l k =
    let up = ends-up e ends n h.1 in
    let here = h.0 in
    let within : e - at ≤ length xs = omega arith in
    let left : length (drop (e - at) xs) + e ≡ n = omega (arith, length-drop (e - at) xs) in
    (λ i. take-append-le (e - at) xs ys within i ∷ parts_from e (ends ++ m ∷ []) (drop-append-le (e - at) xs ys within i))
    ∙ ap (λ ps. take (e - at) xs ∷ ps) (parts-push e ends (drop (e - at) xs) ys n m h.1 left k)

bounds-in : (ends : List ℕ) (n number : ℕ) → AreEnds 0 ends n → number < length ends → Bounds 0 ends number n
bounds-in ends n number h l = part-bounds 0 ends number n h l

part-at : {X : Type 0} (ends : List ℕ) (number start end : ℕ) (xs : List X) → AreEnds 0 ends (length xs) → number < length ends
    → start ≡ start_of 0 ends number → end ≡ get_or ends number 0
    → Some (take (end - start) (drop start xs)) ≡ slice_get (parts_from 0 ends xs) number
part-at ends number start end xs h l e f =
    (λ i. Some (take (f i - e i) (drop (e i) xs)))
    ∙ ap (λ m. Some (take (get_or ends number 0 - start_of 0 ends number) (drop m xs))) (nothing_off (start_of 0 ends number))
    ∙ sym (part-is 0 ends number (length xs) xs h l)
  where
    nothing_off : (n : ℕ) → n ≡ n - 0
    nothing_off n = omega arith

-- the parts are the list
pub parts-all : {X : Type 0} (at : ℕ) (ends : List ℕ) (xs : List X) → AreEnds at ends (length xs + at) → flat_map (λ part. part) (parts_from at ends xs) ≡ xs
parts-all at [] xs h = sym (nil_from_length xs (omega (arith, h)))
parts-all at (e ∷ ends) xs h =
    let up = ends-up e ends (length xs + at) h.1 in let here = h.0 in
    let rest : length (drop (e - at) xs) + e ≡ length xs + at = omega (arith, length-drop (e - at) xs, up, here) in
    ap (λ ys. take (e - at) xs ++ ys) (parts-all e ends (drop (e - at) xs) (subst (AreEnds e ends) (sym rest) h.1))
    ∙ take-append-drop (e - at) xs

pub parts-whole : {X : Type 0} (ends : List ℕ) (xs : List X) → AreEnds 0 ends (length xs) → flat_map (λ part. part) (parts_from 0 ends xs) ≡ xs
parts-whole ends xs h = parts-all 0 ends xs (let same : length xs ≡ length xs + 0 = omega arith in subst (AreEnds 0 ends) same h)

-- ---- the last part ends with the list, so its end may be left out

-- a part begins and ends where it does after the list's end is added
start_of-cut : (at count : ℕ) (ends tail : List ℕ) (k : ℕ) → k < count → k ≤ length ends
    → start_of at (take count (ends ++ tail)) k ≡ start_of at ends k
start_of-cut at zero ends tail k l m = absurd (omega (arith, l))
start_of-cut at (suc count) ends tail zero l m = start_of-first at (take (suc count) (ends ++ tail)) ∙ sym (start_of-first at ends)
start_of-cut at (suc count) [] tail (suc k) l m = absurd (omega (arith, m))
start_of-cut at (suc count) (e ∷ ends) tail (suc k) l m = start_of-cut e count ends tail k (omega (arith, l)) (omega (arith, m))

end-cut : (count : ℕ) (ends : List ℕ) (n k : ℕ) → k < count → k ≤ length ends
    → get_or (take count (ends ++ n ∷ [])) k 0 ≡ get_or ends k n
end-cut zero ends n k l m = absurd (omega (arith, l))
end-cut (suc count) [] n zero l m = refl
end-cut (suc count) [] n (suc k) l m = absurd (omega (arith, m))
end-cut (suc count) (e ∷ ends) n zero l m = refl
end-cut (suc count) (e ∷ ends) n (suc k) l m = end-cut count ends n k (omega (arith, l)) (omega (arith, m))

length-cut : (count : ℕ) (ends : List ℕ) (n : ℕ) → count ≤ length ends + 1 → length (take count (ends ++ n ∷ [])) ≡ count
length-cut zero ends n l = refl
length-cut (suc zero) [] n l = refl
length-cut (suc (suc count)) [] n l = absurd (omega (arith, l))
length-cut (suc count) (e ∷ ends) n l = ap suc (length-cut count ends n (omega (arith, l)))

pub cut-none : {X : Type 0} (count : ℕ) (ends : List ℕ) (number : ℕ) (xs : List X) → count ≤ length ends + 1 → count ≤ number
    → None ≡ slice_get (parts_from 0 (take count (ends ++ length xs ∷ [])) xs) number
cut-none count ends number xs few past =
    let long = length-cut count ends (length xs) few in
    sym (part-none 0 (take count (ends ++ length xs ∷ [])) number xs (omega (arith, long, past)))

pub record IsInList (start end n : ℕ) : Type 0 where
  pub up : start ≤ end
  pub within : end ≤ n

pub cut-in : (count : ℕ) (ends : List ℕ) (number n start end : ℕ) → count ≤ length ends + 1 → AreEnds 0 (take count (ends ++ n ∷ [])) n
    → number < count → start ≡ start_of 0 ends number → end ≡ get_or ends number n → IsInList start end n
cut-in count ends number n start end few h l e f =
    let long = length-cut count ends n few in
    let b = bounds-in (take count (ends ++ n ∷ [])) n number h (omega (arith, long, l)) in
    let from = start_of-cut 0 count ends (n ∷ []) number l (omega (arith, few, l)) in
    let to = end-cut count ends n number l (omega (arith, few, l)) in
    let up = b.up in
    let within = b.within in
    record { up = omega (arith, e, f, from, to, up); within = omega (arith, f, to, within) }

pub cut-at : {X : Type 0} (count : ℕ) (ends : List ℕ) (number start end : ℕ) (xs : List X) → count ≤ length ends + 1
    → AreEnds 0 (take count (ends ++ length xs ∷ [])) (length xs) → number < count → start ≡ start_of 0 ends number
    → end ≡ get_or ends number (length xs)
    → Some (take (end - start) (drop start xs)) ≡ slice_get (parts_from 0 (take count (ends ++ length xs ∷ [])) xs) number
cut-at count ends number start end xs few h l e f =
    let n = length xs in
    let long = length-cut count ends n few in
    let inside : number ≤ length ends = omega (arith, few, l) in
    part-at (take count (ends ++ n ∷ [])) number start end xs h (omega (arith, long, l))
    (e ∙ sym (start_of-cut 0 count ends (n ∷ []) number l inside)) (f ∙ sym (end-cut count ends n number l inside))

whole-cut : (ends : List ℕ) (n : ℕ) → take (length ends) (ends ++ n ∷ []) ≡ ends
whole-cut [] n = refl
whole-cut (e ∷ ends) n = ap (λ es. e ∷ es) (whole-cut ends n)

-- the ends of all parts, from those of all but the last
pub inner-are : (inner : List ℕ) (n : ℕ) → AreInnerEnds inner n → AreEnds 0 (all_ends inner n) n
inner-are inner zero h = refl
inner-are inner (suc n) h = h

pub inner-none : (inner : List ℕ) (n : ℕ) → n ≡ 0 → AreInnerEnds inner n → inner ≡ all_ends inner n
inner-none inner zero e h = h
inner-none inner (suc n) e h = absurd (omega (arith, e))

pub inner-pushed : (ends inner : List ℕ) (last n : ℕ) → ends ≡ inner ++ last ∷ [] → last ≡ n → 0 < n → ends ≡ all_ends inner n
inner-pushed ends inner last zero e same l = absurd (omega (arith, l))
inner-pushed ends inner last (suc n) e same l = e ∙ ap (λ m. inner ++ m ∷ []) same

pub count-none : {X : Type 0} (inner : List ℕ) (xs : List X) → length xs ≡ 0 → 0 ≡ length (parts_from 0 (all_ends inner (length xs)) xs)
count-none inner [] e = refl
count-none inner (x ∷ xs) e = absurd (omega (arith, e))

pub count-some : {X : Type 0} (inner : List ℕ) (xs : List X) → 0 < length xs
    → length inner + 1 ≡ length (parts_from 0 (all_ends inner (length xs)) xs)
count-some inner [] l = absurd (omega (arith, l))
count-some inner (x ∷ xs) l =
    let long = length-append inner (suc (length xs) ∷ []) in
    let counted = length-parts 0 (inner ++ suc (length xs) ∷ []) (x ∷ xs) in
    omega (arith, long, counted)

-- the first `count` of these positions and the end of the list cut it into these parts
pub record IsCutInto {X : Type 0} (parts : List (List X)) (flat : List X) (ends : List ℕ) (count : ℕ) : Type 0 where
  pub few : count ≤ length ends + 1
  pub ends_are : AreEnds 0 (take count (ends ++ length flat ∷ [])) (length flat)
  pub is : parts_from 0 (take count (ends ++ length flat ∷ [])) flat ≡ parts

cut_by : {X : Type 0} (parts : List (List X)) (flat : List X) (all ends : List ℕ) (count : ℕ) → count ≤ length ends + 1
    → all ≡ take count (ends ++ length flat ∷ []) → AreEnds 0 all (length flat) → parts_from 0 all flat ≡ parts → IsCutInto parts flat ends count
cut_by parts flat all ends count few e h is =
    record { few = few; ends_are = subst (λ es. AreEnds 0 es (length flat)) e h; is = ap (λ es. parts_from 0 es flat) (sym e) ∙ is }

-- if all ends are given
pub cut-by-all : {X : Type 0} (parts : List (List X)) (flat xs : List X) (ends all : List ℕ) → flat ≡ xs → ends ≡ all
    → AreEnds 0 all (length xs) → parts_from 0 all xs ≡ parts → IsCutInto parts flat ends (length ends)
cut-by-all parts flat xs ends all e f h is =
    subst (λ ys. IsCutInto parts ys ends (length ends)) (sym e)
    (subst (λ es. IsCutInto parts xs es (length es)) (sym f)
    (cut_by parts xs all all (length all) (omega arith) (sym (whole-cut all (length xs))) h is))

-- with all but the last
inner_cut : (inner : List ℕ) (n count : ℕ) → count ≡ length (all_ends inner n) → all_ends inner n ≡ take count (inner ++ n ∷ [])
inner_cut inner zero count e = ap (λ m. take m (inner ++ 0 ∷ [])) (sym e)
inner_cut inner (suc n) count e = sym (take_all count (inner ++ suc n ∷ []) (omega (arith, e)))

inner_few : (inner : List ℕ) (n : ℕ) → length (all_ends inner n) ≤ length inner + 1
inner_few inner zero = omega arith
inner_few inner (suc n) = let long = length-append inner (suc n ∷ []) in omega (arith, long)

pub cut-by-inner : {X : Type 0} (parts : List (List X)) (flat all : List X) (ends inner : List ℕ) (count : ℕ) → flat ≡ all → ends ≡ inner
    → AreInnerEnds inner (length all) → parts_from 0 (all_ends inner (length all)) all ≡ parts → count ≡ length parts
    → IsCutInto parts flat ends count
cut-by-inner parts flat all ends inner count e f h is k =
    let counted : count ≡ length (all_ends inner (length all)) =
    k ∙ ap length (sym is) ∙ length-parts 0 (all_ends inner (length all)) all in
    let few = inner_few inner (length all) in
    subst (λ xs. IsCutInto parts xs ends count) (sym e)
    (subst (λ es. IsCutInto parts all es count) (sym f)
    (cut_by parts all (all_ends inner (length all)) inner count (omega (arith, counted, few)) (inner_cut inner (length all) count counted)
    (inner-are inner (length all) h) is))

-- without the last end: if no part is empty, the others say all
last_off : (at m n : ℕ) (ends : List ℕ) → m + 1 ≡ length ends → AreEnds at ends n → ends ≡ take m ends ++ n ∷ []
last_off at m n [] e h = absurd (omega (arith, e))
last_off at zero n (x ∷ []) e h = ap (λ y. y ∷ []) h.1
last_off at (suc m) n (x ∷ []) e h = absurd (omega (arith, e))
last_off at zero n (x ∷ y ∷ ends) e h = absurd (omega (arith, e))
last_off at (suc m) n (x ∷ y ∷ ends) e h = ap (λ es. x ∷ es) (last_off x m n (y ∷ ends) (omega (arith, e)) h.1)

take_none : {X : Type 0} (m : ℕ) (xs : List X) → xs ≡ [] → take m xs ≡ []
take_none m [] e = take_all m [] (omega arith)
take_none m (x ∷ xs) e = absurd (let none = ap length e in omega (arith, none))

pub record AreOthers (ends inner : List ℕ) (n : ℕ) : Type 0 where
  pub inner_are : AreInnerEnds inner n
  pub all : all_ends inner n ≡ ends

pub others-are : {X : Type 0} (P : List X → Type 0) → (P [] → ⊥) → (m : ℕ) (ends : List ℕ) (xs : List X) → m ≡ length ends - 1
    → AreEnds 0 ends (length xs) → AllByRecursion P (parts_from 0 ends xs) → AreOthers ends (take m ends) (length xs)
others-are P never m [] [] e h all = record { inner_are = take_none m [] refl; all = refl }
others-are P never m [] (x ∷ xs) e h all = absurd (omega (arith, h))
others-are P never m (y ∷ ends) [] e h all = absurd (never (subst P (take_none (y - 0) [] refl) all.0))
others-are P never m (y ∷ ends) (x ∷ xs) e h all =
    let is : y ∷ ends ≡ take m (y ∷ ends) ++ suc (length xs) ∷ [] = last_off 0 m (suc (length xs)) (y ∷ ends) (omega (arith, e)) h in
    record { inner_are = subst (λ es. AreEnds 0 es (suc (length xs))) is h; all = sym is }
