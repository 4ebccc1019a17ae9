-- Polynomial identities over ℤ, by computation.
-- Each side of an identity in the variables of `ρ` is an `Ex`. `ring` proves the identity if the normal form of the difference
-- has no terms, which `refl` checks.
use Rattle.std.proofs.Common.{◌≡◌, ℕ, Bool, true, false, T, leb, List, [], ◌∷◌, ℤ, pos, negsuc, ◌+ℤ◌, ◌-ℤ◌, ◌*ℤ◌, neg_ℤ, refl, sym, ◌∙◌, ap, subst}
use Prim.Native.Nat.{zero, suc, compare, Ordering}
use lib.Dec.{eqb→eq, compare_is_eq}
use lib.IntN.{+ℤ_idl, +ℤ_idr, +ℤ_assoc, *ℤ_comm, zero-*ℤ, *ℤ-zero}
use Rattle.exact_int.proofs.lemmas.Laws.{mul_add, mul_assoc, one_mul, mul_one, neg_mul, swap_sums, move_left, neg_add, same_from_difference}

infixl 6 ◌⊕◌ ◌⊖◌
infixl 7 ◌⊗◌
pub data Ex : Type 0 where
  var : ℕ → Ex
  con : ℤ → Ex
  ◌⊕◌ : Ex → Ex → Ex
  ◌⊖◌ : Ex → Ex → Ex
  ◌⊗◌ : Ex → Ex → Ex
  opp : Ex → Ex

-- the n-th variable's value
abbrev pub at : List ℤ → ℕ → ℤ
at [] n = pos 0
at (x ∷ xs) zero = x
at (x ∷ xs) (suc n) = at xs n

abbrev pub value : List ℤ → Ex → ℤ
value ρ (var n) = at ρ n
value ρ (con c) = c
value ρ (a ⊕ b) = value ρ a +ℤ value ρ b
value ρ (a ⊖ b) = value ρ a -ℤ value ρ b
value ρ (a ⊗ b) = value ρ a *ℤ value ρ b
value ρ (opp a) = neg_ℤ (value ρ a)

-- ---- words: products of variables, by number, the greatest first
abbrev word : List ℤ → List ℕ → ℤ
word ρ [] = pos 1
word ρ (x ∷ xs) = at ρ x *ℤ word ρ xs

abbrev put : ℕ → List ℕ → List ℕ
put x [] = x ∷ []
put x (y ∷ ys) = elim (leb y x) [ true ↦ x ∷ (y ∷ ys) | false ↦ y ∷ put x ys ]

abbrev join : List ℕ → List ℕ → List ℕ
join [] m = m
join (x ∷ xs) m = put x (join xs m)

abbrev order : List ℕ → List ℕ → Ordering
order [] [] = Ordering.eq
order [] (y ∷ ys) = Ordering.lt
order (x ∷ xs) [] = Ordering.gt
order (x ∷ xs) (y ∷ ys) = elim (compare x y) [ Ordering.lt ↦ Ordering.lt | Ordering.eq ↦ order xs ys | Ordering.gt ↦ Ordering.gt ]

-- ---- sums of terms, the greatest word last
pub data Poly : Type 0 where
  none : Poly
  term : ℤ → List ℕ → Poly → Poly

abbrev poly : List ℤ → Poly → ℤ
poly ρ none = pos 0
poly ρ (term c m p) = c *ℤ word ρ m +ℤ poly ρ p

-- adds `term c m p` to a sum; `rest` adds p
abbrev merge : ℤ → List ℕ → Poly → (Poly → Poly) → Poly → Poly
merge c m p rest none = term c m p
merge c m p rest (term d n q) = elim (order m n) [ Ordering.lt ↦ term c m (rest (term d n q)) | Ordering.eq ↦ term (c +ℤ d) m (rest q) | Ordering.gt ↦ term d n (merge c m p rest q) ]

abbrev add : Poly → Poly → Poly
add none q = q
add (term c m p) q = merge c m p (add p) q

abbrev scale : ℤ → List ℕ → Poly → Poly
scale c m none = none
scale c m (term d n q) = term (c *ℤ d) (join m n) (scale c m q)

abbrev mul : Poly → Poly → Poly
mul none q = none
mul (term c m p) q = add (scale c m q) (mul p q)

abbrev negate : Poly → Poly
negate none = none
negate (term c m p) = term (neg_ℤ c) m (negate p)

abbrev pub norm : Ex → Poly
norm (var n) = term (pos 1) (n ∷ []) none
norm (con c) = term c [] none
norm (a ⊕ b) = add (norm a) (norm b)
norm (a ⊖ b) = add (norm a) (negate (norm b))
norm (a ⊗ b) = mul (norm a) (norm b)
norm (opp a) = negate (norm a)

abbrev is_nought : ℤ → Bool
is_nought (pos zero) = true
is_nought (pos (suc n)) = false
is_nought (negsuc n) = false

-- a sum without its terms that are 0: none are left of a difference of equal polynomials
abbrev pub left_over : Poly → Poly
left_over none = none
left_over (term c m p) = elim (is_nought c) [ true ↦ left_over p | false ↦ term c m (left_over p) ]

-- ---- the values of words and polynomials
put-word : (ρ : List ℤ) (x : ℕ) (ys : List ℕ) → word ρ (put x ys) ≡ at ρ x *ℤ word ρ ys
put-word ρ x [] = refl
put-word ρ x (y ∷ ys) = elim (leb y x) as (λ b. word ρ (elim b [ true ↦ x ∷ (y ∷ ys) | false ↦ y ∷ put x ys ]) ≡ at ρ x *ℤ (at ρ y *ℤ word ρ ys)) [
  | true ↦ refl
  | false ↦ ap (λ z. at ρ y *ℤ z) (put-word ρ x ys) ∙ sym (mul_assoc (at ρ y) (at ρ x) (word ρ ys)) ∙ ap (λ z. z *ℤ word ρ ys) (*ℤ_comm (at ρ y) (at ρ x)) ∙ mul_assoc (at ρ x) (at ρ y) (word ρ ys)
]

join-word : (ρ : List ℤ) (xs ys : List ℕ) → word ρ (join xs ys) ≡ word ρ xs *ℤ word ρ ys
join-word ρ [] ys = sym (one_mul (word ρ ys))
join-word ρ (x ∷ xs) ys = put-word ρ x (join xs ys) ∙ ap (λ z. at ρ x *ℤ z) (join-word ρ xs ys) ∙ sym (mul_assoc (at ρ x) (word ρ xs) (word ρ ys))

compare-same : (x y : ℕ) → compare x y ≡ Ordering.eq → x ≡ y
compare-same x y e = eqb→eq x y (subst (λ (o : Ordering). T (compare_is_eq o)) (sym e) tt)

order-same : (xs ys : List ℕ) → order xs ys ≡ Ordering.eq → xs ≡ ys
order-same [] [] e = refl
order-same [] (y ∷ ys) e = cc
order-same (x ∷ xs) [] e = cc
order-same (x ∷ xs) (y ∷ ys) e = by (compare x y) refl (order-same xs ys) e
  where
    by : (o : Ordering) → compare x y ≡ o → (order xs ys ≡ Ordering.eq → xs ≡ ys) → elim o [ Ordering.lt ↦ Ordering.lt | Ordering.eq ↦ order xs ys | Ordering.gt ↦ Ordering.gt ] ≡ Ordering.eq → x ∷ xs ≡ y ∷ ys
    by Ordering.lt d i h = cc
    by Ordering.eq d i h = let a = compare-same x y d in let b = i h in cc
    by Ordering.gt d i h = cc

scale-term : (a b : ℤ) (m n p : ℤ) → (a *ℤ b) *ℤ (m *ℤ n) +ℤ (a *ℤ m) *ℤ p ≡ (a *ℤ m) *ℤ (b *ℤ n +ℤ p)
scale-term a b m n p =
    ap (λ z. z +ℤ (a *ℤ m) *ℤ p) (mul_assoc a b (m *ℤ n) ∙ ap (λ z. a *ℤ z) (sym (mul_assoc b m n) ∙ ap (λ z. z *ℤ n) (*ℤ_comm b m) ∙ mul_assoc m b n) ∙ sym (mul_assoc a m (b *ℤ n)))
    ∙ sym (mul_add (a *ℤ m) (b *ℤ n) p)

scale-poly : (ρ : List ℤ) (c : ℤ) (m : List ℕ) (p : Poly) → poly ρ (scale c m p) ≡ (c *ℤ word ρ m) *ℤ poly ρ p
scale-poly ρ c m none = sym (*ℤ-zero (c *ℤ word ρ m))
scale-poly ρ c m (term d n q) =
    ap (λ z. (c *ℤ d) *ℤ z +ℤ poly ρ (scale c m q)) (join-word ρ m n)
    ∙ ap (λ z. (c *ℤ d) *ℤ (word ρ m *ℤ word ρ n) +ℤ z) (scale-poly ρ c m q)
    ∙ scale-term c d (word ρ m) (word ρ n) (poly ρ q)

join-terms : (c d m p q : ℤ) → (c +ℤ d) *ℤ m +ℤ (p +ℤ q) ≡ (c *ℤ m +ℤ p) +ℤ (d *ℤ m +ℤ q)
join-terms c d m p q =
    ap (λ z. z +ℤ (p +ℤ q)) (*ℤ_comm (c +ℤ d) m ∙ mul_add m c d ∙ ap (λ z. z +ℤ m *ℤ d) (*ℤ_comm m c) ∙ ap (λ z. c *ℤ m +ℤ z) (*ℤ_comm m d))
    ∙ swap_sums (c *ℤ m) (d *ℤ m) p q

merge-poly : (ρ : List ℤ) (c : ℤ) (m : List ℕ) (p : Poly) (rest : Poly → Poly) → ((q : Poly) → poly ρ (rest q) ≡ poly ρ p +ℤ poly ρ q) → (q : Poly) → poly ρ (merge c m p rest q) ≡ poly ρ (term c m p) +ℤ poly ρ q
merge-poly ρ c m p rest h none = sym (+ℤ_idr (poly ρ (term c m p)))
merge-poly ρ c m p rest h (term d n q) = by (order m n) refl (merge-poly ρ c m p rest h q)
  where
    by : (o : Ordering) → order m n ≡ o → poly ρ (merge c m p rest q) ≡ poly ρ (term c m p) +ℤ poly ρ q
        → poly ρ (elim o [ Ordering.lt ↦ term c m (rest (term d n q)) | Ordering.eq ↦ term (c +ℤ d) m (rest q) | Ordering.gt ↦ term d n (merge c m p rest q) ]) ≡ poly ρ (term c m p) +ℤ poly ρ (term d n q)
    by Ordering.lt e i = ap (λ z. c *ℤ word ρ m +ℤ z) (h (term d n q)) ∙ sym (+ℤ_assoc (c *ℤ word ρ m) (poly ρ p) (poly ρ (term d n q)))
    by Ordering.eq e i =
        ap (λ z. (c +ℤ d) *ℤ word ρ m +ℤ z) (h q)
        ∙ join-terms c d (word ρ m) (poly ρ p) (poly ρ q)
        ∙ ap (λ w. poly ρ (term c m p) +ℤ (d *ℤ word ρ w +ℤ poly ρ q)) (order-same m n e)
    by Ordering.gt e i = ap (λ z. d *ℤ word ρ n +ℤ z) i ∙ move_left (d *ℤ word ρ n) (poly ρ (term c m p)) (poly ρ q)

add-poly : (ρ : List ℤ) (p q : Poly) → poly ρ (add p q) ≡ poly ρ p +ℤ poly ρ q
add-poly ρ none q = sym (+ℤ_idl (poly ρ q))
add-poly ρ (term c m p) q = merge-poly ρ c m p (add p) (add-poly ρ p) q

mul-poly : (ρ : List ℤ) (p q : Poly) → poly ρ (mul p q) ≡ poly ρ p *ℤ poly ρ q
mul-poly ρ none q = sym (zero-*ℤ (poly ρ q))
mul-poly ρ (term c m p) q =
    add-poly ρ (scale c m q) (mul p q)
    ∙ ap (λ z. z +ℤ poly ρ (mul p q)) (scale-poly ρ c m q)
    ∙ ap (λ z. (c *ℤ word ρ m) *ℤ poly ρ q +ℤ z) (mul-poly ρ p q)
    ∙ ap (λ z. z +ℤ poly ρ p *ℤ poly ρ q) (*ℤ_comm (c *ℤ word ρ m) (poly ρ q))
    ∙ ap (λ z. poly ρ q *ℤ (c *ℤ word ρ m) +ℤ z) (*ℤ_comm (poly ρ p) (poly ρ q))
    ∙ sym (mul_add (poly ρ q) (c *ℤ word ρ m) (poly ρ p))
    ∙ *ℤ_comm (poly ρ q) (c *ℤ word ρ m +ℤ poly ρ p)

negate-poly : (ρ : List ℤ) (p : Poly) → poly ρ (negate p) ≡ neg_ℤ (poly ρ p)
negate-poly ρ none = refl
negate-poly ρ (term c m p) =
    ap (λ z. z +ℤ poly ρ (negate p)) (neg_mul c (word ρ m))
    ∙ ap (λ z. neg_ℤ (c *ℤ word ρ m) +ℤ z) (negate-poly ρ p)
    ∙ sym (neg_add (c *ℤ word ρ m) (poly ρ p))

norm-value : (ρ : List ℤ) (e : Ex) → poly ρ (norm e) ≡ value ρ e
norm-value ρ (var n) = +ℤ_idr (pos 1 *ℤ (at ρ n *ℤ pos 1)) ∙ one_mul (at ρ n *ℤ pos 1) ∙ mul_one (at ρ n)
norm-value ρ (con c) = +ℤ_idr (c *ℤ pos 1) ∙ mul_one c
norm-value ρ (a ⊕ b) = add-poly ρ (norm a) (norm b) ∙ ap (λ z. z +ℤ poly ρ (norm b)) (norm-value ρ a) ∙ ap (λ z. value ρ a +ℤ z) (norm-value ρ b)
norm-value ρ (a ⊖ b) =
    add-poly ρ (norm a) (negate (norm b)) ∙ ap (λ z. poly ρ (norm a) +ℤ z) (negate-poly ρ (norm b))
    ∙ ap (λ z. z -ℤ poly ρ (norm b)) (norm-value ρ a) ∙ ap (λ z. value ρ a -ℤ z) (norm-value ρ b)
norm-value ρ (a ⊗ b) = mul-poly ρ (norm a) (norm b) ∙ ap (λ z. z *ℤ poly ρ (norm b)) (norm-value ρ a) ∙ ap (λ z. value ρ a *ℤ z) (norm-value ρ b)
norm-value ρ (opp a) = negate-poly ρ (norm a) ∙ ap neg_ℤ (norm-value ρ a)

nought-is : (c : ℤ) → is_nought c ≡ true → c ≡ pos 0
nought-is (pos zero) e = refl
nought-is (pos (suc n)) e = cc
nought-is (negsuc n) e = cc

left_over-poly : (ρ : List ℤ) (p : Poly) → poly ρ (left_over p) ≡ poly ρ p
left_over-poly ρ none = refl
left_over-poly ρ (term c m p) = by (is_nought c) refl (left_over-poly ρ p)
  where
    by : (b : Bool) → is_nought c ≡ b → poly ρ (left_over p) ≡ poly ρ p → poly ρ (elim b [ true ↦ left_over p | false ↦ term c m (left_over p) ]) ≡ c *ℤ word ρ m +ℤ poly ρ p
    by true d i = i ∙ sym (ap (λ z. z *ℤ word ρ m +ℤ poly ρ p) (nought-is c d) ∙ ap (λ z. z +ℤ poly ρ p) (zero-*ℤ (word ρ m)) ∙ +ℤ_idl (poly ρ p))
    by false d i = ap (λ z. c *ℤ word ρ m +ℤ z) i

-- the identity `l ≡ r` at the values of the variables, if no term of the difference is left: pass `refl`
pub ring : (ρ : List ℤ) (l r : Ex) → left_over (norm (l ⊖ r)) ≡ none → value ρ l ≡ value ρ r
ring ρ l r e = same_from_difference (value ρ l) (value ρ r) (sym (norm-value ρ (l ⊖ r)) ∙ sym (left_over-poly ρ (norm (l ⊖ r))) ∙ ap (poly ρ) e)
