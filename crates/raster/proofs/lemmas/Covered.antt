-- The pixels of a row lie in the spans of that row.
use Rattle.std.proofs.Common.{◌≡◌, ◌≢◌, ℕ, zero, suc, ◌+◌, ◌-◌, ◌<◌, ◌≤◌, List, [], ◌∷◌, ◌++◌, Bool, true, false, ◌&&◌, ◌||◌, length, take, drop, length-drop, refl, ap, sym, ◌∙◌, arith}
use Rattle.std.specs.Prelude.{nat_lt, nat_le, ◌==◌}
use Rattle.std.specs.List.{list_all}
use Rattle.std.proofs.lemmas.List.{take-append-drop, get_or-take, get_or-drop, length-take-le}
use Rattle.std.proofs.lemmas.List.Folds.{list_any-append}
use Rattle.std.proofs.lemmas.Bool.{and_from, and_parts}
use Rattle.std.proofs.lemmas.Bool.Decides.{nat_tests}
use Rattle.raster.specs.declared.span.Span.{Span}
use Rattle.raster.specs.Span.{covers, is_span_within}
use Rattle.raster.specs.Rows.{IsRowStart, are_within, crosses, span_at}

one-elsewhere : (row from to i j : ℕ) (rest : Bool) → row ≢ j → rest ≡ false → (row == j && nat_le from i && nat_lt i to || rest) ≡ false
one-elsewhere row from to i j rest h k = grind (arith, nat_tests)

one-here : (row from to i j : ℕ) → row ≡ j → (row == j && nat_le from i && nat_lt i to) ≡ (nat_le from i && nat_lt i to)
one-here row from to i j h = grind (arith, nat_tests)

covers-elsewhere : (spans : List Span) (i j : ℕ) → ((k : ℕ) → k < length spans → (span_at spans k).row ≢ j) → covers spans i j ≡ false
covers-elsewhere [] i j h = refl
covers-elsewhere (s ∷ rest) i j h =
    one-elsewhere s.row s.from s.to i j (covers rest i j) (h 0 (omega arith)) (covers-elsewhere rest i j (λ k low. h (suc k) (omega arith)))

covers-here : (spans : List Span) (i j : ℕ) → ((k : ℕ) → k < length spans → (span_at spans k).row ≡ j) → covers spans i j ≡ crosses spans i
covers-here [] i j h = refl
covers-here (s ∷ rest) i j h =
    ap (λ (b : Bool). b || covers rest i j) (one-here s.row s.from s.to i j (h 0 (omega arith)))
    ∙ ap (λ (b : Bool). nat_le s.from i && nat_lt i s.to || b) (covers-here rest i j (λ k low. h (suc k) (omega arith)))

all-drop : {X : Type 0} (p : X → Bool) (n : ℕ) (xs : List X) → list_all p xs ≡ true → list_all p (drop n xs) ≡ true
all-drop p zero xs h = h
all-drop p (suc n) [] h = h
all-drop p (suc n) (x ∷ xs) h = all-drop p n xs (and_parts (p x) (list_all p xs) h).1

all-take : {X : Type 0} (p : X → Bool) (n : ℕ) (xs : List X) → list_all p xs ≡ true → list_all p (take n xs) ≡ true
all-take p zero xs h = refl
all-take p (suc n) [] h = h
all-take p (suc n) (x ∷ xs) h =
    and_from (p x) (list_all p (take n xs)) (and_parts (p x) (list_all p xs) h).0 (all-take p n xs (and_parts (p x) (list_all p xs) h).1)

within-columns : (columns rows : ℕ) (spans : List Span) → list_all (is_span_within columns rows) spans ≡ true → are_within columns spans ≡ true
within-columns columns rows [] h = refl
within-columns columns rows (s ∷ rest) h =
    step s.row s.from s.to (are_within columns rest) (and_parts (is_span_within columns rows s) (list_all (is_span_within columns rows) rest) h).0
    (within-columns columns rows rest (and_parts (is_span_within columns rows s) (list_all (is_span_within columns rows) rest) h).1)
  where
    step : (row from to : ℕ) (b : Bool) → (nat_lt row rows && nat_lt from to && nat_le to columns) ≡ true → b ≡ true → (nat_lt from to && nat_le to columns && b) ≡ true
    step row from to b h k = grind (arith, nat_tests)

-- the part of the spans between two splits has all that lies in the row
pub covers-part : (spans : List Span) (start end i j : ℕ) → start ≤ end → IsRowStart spans end (j + 1) → IsRowStart spans start j → covers spans i j ≡ crosses (take (end - start) (drop start spans)) i
covers-part spans start end i j order last first =
    let part : List Span = take (end - start) (drop start spans) in
    let tail : List Span = drop (end - start) (drop start spans) in
    let size-front : length (take start spans) ≡ start = length-take-le start spans first.within in
    let size-rest : length (drop start spans) ≡ length spans - start = length-drop start spans in
    let size-part : length (take (end - start) (drop start spans)) ≡ end - start = length-take-le (end - start) (drop start spans) (omega (arith, last.within)) in
    let size-tail : length (drop (end - start) (drop start spans)) ≡ length (drop start spans) - (end - start) = length-drop (end - start) (drop start spans) in
    let low : covers (take start spans) i j ≡ false = covers-elsewhere (take start spans) i j (λ k h e.
    omega (arith, first.below k (omega arith), ap (λ (s : Span). s.row) (get_or-take start spans k (record { row = 0; from = 0; to = 0 }) (omega arith)), e)) in
    let high : covers (drop (end - start) (drop start spans)) i j ≡ false = covers-elsewhere (drop (end - start) (drop start spans)) i j (λ k h e.
    omega (arith, last.above (end + k) (omega arith) (omega (arith, last.within)), ap (λ (s : Span). s.row) (get_or-drop (end - start) (drop start spans) k (record { row = 0; from = 0; to = 0 })), ap (λ (s : Span). s.row) (get_or-drop start spans (end - start + k) (record { row = 0; from = 0; to = 0 })), ap (λ (n : ℕ). (span_at spans n).row) (shift start end k order), e)) in
    let here : covers (take (end - start) (drop start spans)) i j ≡ crosses (take (end - start) (drop start spans)) i = covers-here (take (end - start) (drop start spans)) i j (λ k h.
    middle (span_at (take (end - start) (drop start spans)) k).row (span_at (drop start spans) k).row (span_at spans (start + k)).row j
    (ap (λ (s : Span). s.row) (get_or-take (end - start) (drop start spans) k (record { row = 0; from = 0; to = 0 }) (omega arith)))
    (ap (λ (s : Span). s.row) (get_or-drop start spans k (record { row = 0; from = 0; to = 0 })))
    (last.below (start + k) (omega arith))
    (first.above (start + k) (omega arith) (omega (arith, last.within)))) in
    split-covers (take start spans) (take (end - start) (drop start spans)) (drop (end - start) (drop start spans)) spans
    (ap (λ (l : List Span). take start spans ++ l) (take-append-drop (end - start) (drop start spans)) ∙ take-append-drop start spans)
    low high ∙ here
  where
    shift : (start end k : ℕ) → start ≤ end → start + (end - start + k) ≡ end + k
    shift start end k h = omega arith

    middle : (a b c j : ℕ) → a ≡ b → b ≡ c → c < j + 1 → j ≤ c → a ≡ j
    middle a b c j e f g h = omega arith

    split-covers : (xs ys zs all : List Span) → xs ++ (ys ++ zs) ≡ all → covers xs i j ≡ false → covers zs i j ≡ false → covers all i j ≡ covers ys i j
    split-covers xs ys zs all e low high =
        ap (λ (l : List Span). covers l i j) (sym e)
        ∙ list_any-append (λ s. s.row == j && nat_le s.from i && nat_lt i s.to) xs (ys ++ zs)
        ∙ ap (λ (b : Bool). covers xs i j || b) (list_any-append (λ s. s.row == j && nat_le s.from i && nat_lt i s.to) ys zs)
        ∙ ends (covers xs i j) (covers ys i j) (covers zs i j) low high
      where
        ends : (a b c : Bool) → a ≡ false → c ≡ false → (a || (b || c)) ≡ b
        ends a b c h k = grind arith

pub within-part : (columns rows : ℕ) (spans : List Span) (start n : ℕ) → list_all (is_span_within columns rows) spans ≡ true → are_within columns (take n (drop start spans)) ≡ true
within-part columns rows spans start n h =
    all-take (λ s. nat_lt s.from s.to && nat_le s.to columns) n (drop start spans)
    (all-drop (λ s. nat_lt s.from s.to && nat_le s.to columns) start spans (within-columns columns rows spans h))
