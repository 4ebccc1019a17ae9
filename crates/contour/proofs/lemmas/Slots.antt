-- The slots of an edge in a list, and the linked lists that keep them: pushed from the last slot to the first, and popped
-- from the first on.
use Rattle.std.proofs.Common.{◌≡◌, ℕ, zero, suc, ◌+◌, ◌<◌, ◌≤◌, cond, List, [], ◌∷◌, ◌⊎◌, inl, inr, refl, sym, ◌∙◌, ap, subst, length, take, drop, get_or, set, arith, get_or-set_same, get_or-set_other}
use Rattle.std.specs.Prelude.{◌==◌}
use Rattle.std.proofs.lemmas.List.{drop_more, get_or_default, get_or_past, get_or-drop, take_all}
use Rattle.std.proofs.lemmas.List.Sums.{count_by_more_yes, count_by_more_no}
use Rattle.std.proofs.lemmas.Bool.{cases_eq, cases_lt, eq-eqb, ne_eqb}
use Rattle.contour.specs.Linker.{ArePopped, HasFirsts, HasLeft, HasNexts, IsClear, slot_after, slots}
use Rattle.contour.specs.declared.linker.TheConstants.{NONE}
use Rattle.contour.proofs.lemmas.Counts.{AreEven, times, times-own, times-other}
use Rattle.geometry.specs.declared.limits.TheConstants.{FACET_LIMIT}

slots-own : (n x e : ℕ) (xs : List ℕ) → x ≡ e → slots n e (x ∷ xs) ≡ n ∷ slots (n + 1) e xs
slots-own n x e xs h = ap (λ b. cond b (n ∷ slots (n + 1) e xs) (slots (n + 1) e xs)) (eq-eqb x e h)

slots-other : (n x e : ℕ) (xs : List ℕ) → (x ≡ e → ⊥) → slots n e (x ∷ xs) ≡ slots (n + 1) e xs
slots-other n x e xs h = ap (λ b. cond b (n ∷ slots (n + 1) e xs) (slots (n + 1) e xs)) (ne_eqb x e h)

pub length-slots : (n e : ℕ) (xs : List ℕ) → length (slots n e xs) ≡ times e xs
length-slots n e [] = refl
length-slots n e (x ∷ xs) = by_test (length-slots (n + 1) e xs) (cases_eq x e)
  where
    by_test : length (slots (n + 1) e xs) ≡ times e xs → (x ≡ e) ⊎ (x ≡ e → ⊥) → length (slots n e (x ∷ xs)) ≡ times e (x ∷ xs)
    by_test rest (inl h) =
        ap length (slots-own n x e xs h)
        ∙ (let count : times e (x ∷ xs) ≡ 1 + times e xs = subst (λ y. times y (x ∷ xs) ≡ 1 + times y xs) h (times-own x xs) in
        let more : suc (length (slots (n + 1) e xs)) ≡ times e (x ∷ xs) = omega (arith, rest, count) in more)
    by_test rest (inr h) = ap length (slots-other n x e xs h) ∙ rest ∙ sym (times-other e x xs (ne_eqb x e h))

-- the position of the k-th of the slots, and what comes after it
pub record AtSlot (n e : ℕ) (xs found : List ℕ) (k : ℕ) : Type 0 where
  pub at : ℕ
  pub within : at < length xs
  pub slot : get_or found k NONE ≡ n + at
  pub is : get_or xs at 0 ≡ e
  pub behind : drop (suc k) found ≡ slots (n + at + 1) e (drop (suc at) xs)

slot_later : (n x e : ℕ) (xs found more : List ℕ) (k m : ℕ) → AtSlot (n + 1) e xs found k
    → get_or more m NONE ≡ get_or found k NONE → drop (suc m) more ≡ drop (suc k) found → AtSlot n e (x ∷ xs) more m
slot_later n x e xs found more k m h same behind = record {
  at = suc h.at;
  within = (let l = h.within in omega arith);
  slot = same ∙ h.slot ∙ (let s : (n + 1) + h.at ≡ n + suc h.at = omega arith in s);
  is = h.is;
  behind = behind ∙ h.behind ∙ (let s : (n + 1) + h.at + 1 ≡ n + suc h.at + 1 = omega arith in ap (λ i. slots i e (drop (suc h.at) xs)) s);
}

pub slots-at : (n e : ℕ) (xs : List ℕ) (k : ℕ) → k < length (slots n e xs) → AtSlot n e xs (slots n e xs) k
slots-at n e [] k l = absurd (omega (arith, l))
slots-at n e (x ∷ xs) k l = by_test (λ m. slots-at (n + 1) e xs m) (cases_eq x e) k l
  where
    own : (k : ℕ) → x ≡ e → k < length (n ∷ slots (n + 1) e xs) → ((m : ℕ) → m < length (slots (n + 1) e xs) → AtSlot (n + 1) e xs (slots (n + 1) e xs) m)
        → AtSlot n e (x ∷ xs) (n ∷ slots (n + 1) e xs) k
    own zero h l rest = record {
      at = 0;
      within = omega arith;
      slot = (let s : n ≡ n + 0 = omega arith in s);
      is = h;
      behind = (let s : n + 1 ≡ n + 0 + 1 = omega arith in ap (λ i. slots i e xs) s);
    }
    own (suc k) h l rest = slot_later n x e xs (slots (n + 1) e xs) (n ∷ slots (n + 1) e xs) k (suc k) (rest k (omega (arith, l))) refl refl

    by_test : ((m : ℕ) → m < length (slots (n + 1) e xs) → AtSlot (n + 1) e xs (slots (n + 1) e xs) m)
        → (x ≡ e) ⊎ (x ≡ e → ⊥) → (k : ℕ) → k < length (slots n e (x ∷ xs)) → AtSlot n e (x ∷ xs) (slots n e (x ∷ xs)) k
    by_test rest (inl h) k l =
        subst (λ ps. AtSlot n e (x ∷ xs) ps k) (sym (slots-own n x e xs h)) (own k h (subst (λ ps. k < length ps) (slots-own n x e xs h) l) rest)
    by_test rest (inr h) k l =
        subst (λ ps. AtSlot n e (x ∷ xs) ps k) (sym (slots-other n x e xs h))
        (slot_later n x e xs (slots (n + 1) e xs) (slots (n + 1) e xs) k k (rest k (subst (λ ps. k < length ps) (slots-other n x e xs h) l)) refl refl)

-- ---- pushing
module _ (heads starts : List ℕ) (i : ℕ) (l : i < length starts) (edge : get_or starts i 0 < length heads) (h : HasFirsts heads (i + 1) starts) where
  from_here : (e : ℕ) → slots i e (drop i starts) ≡ slots i e (get_or starts i 0 ∷ drop (i + 1) starts)
  from_here e = ap (slots i e) (drop_more starts i 0 l)

  pub push-firsts : HasFirsts (set heads (get_or starts i 0) i) i starts
  push-firsts e = by_test (cases_eq (get_or starts i 0) e)
    where
      by_test : (get_or starts i 0 ≡ e) ⊎ (get_or starts i 0 ≡ e → ⊥)
          → get_or (set heads (get_or starts i 0) i) e NONE ≡ get_or (slots i e (drop i starts)) 0 NONE
      by_test (inl s) =
          ap (λ f. get_or (set heads (get_or starts i 0) i) f NONE) (sym s) ∙ get_or-set_same heads (get_or starts i 0) i NONE edge
          ∙ ap (λ ps. get_or ps 0 NONE) (sym (from_here e ∙ slots-own i (get_or starts i 0) e (drop (i + 1) starts) s))
      by_test (inr s) =
          get_or-set_other heads (get_or starts i 0) e i NONE (λ r. s (sym r)) ∙ h e
          ∙ ap (λ ps. get_or ps 0 NONE) (sym (from_here e ∙ slots-other i (get_or starts i 0) e (drop (i + 1) starts) s))

  pub push-nexts : (after : List ℕ) (v : ℕ) → i < length after → v ≡ get_or heads (get_or starts i 0) 0 → HasNexts after (i + 1) starts
      → HasNexts (set after i v) i starts
  push-nexts after v inside is rest j low high = by_test (cases_eq j i)
    where
      by_test : (j ≡ i) ⊎ (j ≡ i → ⊥)
          → get_or (set after i v) j NONE ≡ get_or (slots (j + 1) (get_or starts j 0) (drop (j + 1) starts)) 0 NONE
      by_test (inl s) =
          subst (λ m. get_or (set after i v) m NONE ≡ get_or (slots (m + 1) (get_or starts m 0) (drop (m + 1) starts)) 0 NONE) (sym s)
          (get_or-set_same after i v NONE inside ∙ is ∙ get_or_default heads (get_or starts i 0) 0 NONE edge ∙ h (get_or starts i 0))
      by_test (inr s) = get_or-set_other after i j v NONE s ∙ rest j (omega (arith, low, s)) high

-- ---- popping
module _ (heads starts finishes : List ℕ) (i : ℕ) (l : i < length finishes) (edge : get_or finishes i 0 < length heads)
    (left : HasLeft heads starts finishes i) where
  pub pop-popped : (next : List ℕ) (v : ℕ) → i < length next → v ≡ get_or heads (get_or finishes i 0) 0 → ArePopped next starts finishes i
      → ArePopped (set next i v) starts finishes (i + 1)
  pop-popped next v inside is rest j low = by_test (cases_eq j i)
    where
      by_test : (j ≡ i) ⊎ (j ≡ i → ⊥) → get_or (set next i v) j NONE ≡ slot_after starts finishes j (get_or finishes j 0)
      by_test (inl s) =
          subst (λ m. get_or (set next i v) m NONE ≡ slot_after starts finishes m (get_or finishes m 0)) (sym s)
          (get_or-set_same next i v NONE inside ∙ is ∙ get_or_default heads (get_or finishes i 0) 0 NONE edge ∙ left (get_or finishes i 0))
      by_test (inr s) = get_or-set_other next i j v NONE s ∙ rest j (omega (arith, low, s))

  module _ (after : List ℕ) (size : length after ≡ length starts) (few : length after ≤ FACET_LIMIT) (nexts : HasNexts after 0 starts) where
    abbrev e_now : ℕ
    e_now = get_or finishes i 0

    behind_it : (k : ℕ) → get_or after (get_or (slots 0 e_now starts) k NONE) NONE ≡ get_or (slots 0 e_now starts) (k + 1) NONE
    behind_it k = by_test (cases_lt k (length (slots 0 e_now starts)))
      where
        by_test : (k < length (slots 0 e_now starts)) ⊎ (length (slots 0 e_now starts) ≤ k)
            → get_or after (get_or (slots 0 e_now starts) k NONE) NONE ≡ get_or (slots 0 e_now starts) (k + 1) NONE
        by_test (inl m) = found (slots-at 0 e_now starts k m)
          where
            found : AtSlot 0 e_now starts (slots 0 e_now starts) k
                → get_or after (get_or (slots 0 e_now starts) k NONE) NONE ≡ get_or (slots 0 e_now starts) (k + 1) NONE
            found p =
                let same : get_or (slots 0 e_now starts) k NONE ≡ p.at = p.slot ∙ (let z : 0 + p.at ≡ p.at = omega arith in z) in
                let one : p.at + 1 ≡ suc p.at = omega arith in
                let one' : p.at + 1 ≡ 0 + p.at + 1 = omega arith in
                let up : suc k + 0 ≡ k + 1 = omega arith in
                ap (λ m. get_or after m NONE) same ∙ nexts p.at (omega arith) p.within
                ∙ (λ t. get_or (slots (one' t) (p.is t) (drop (one t) starts)) 0 NONE)
                ∙ ap (λ ps. get_or ps 0 NONE) (sym p.behind)
                ∙ get_or-drop (suc k) (slots 0 e_now starts) 0 NONE
                ∙ ap (λ m. get_or (slots 0 e_now starts) m NONE) up
        by_test (inr m) =
            ap (λ n. get_or after n NONE) (get_or_past (slots 0 e_now starts) k NONE m)
            ∙ get_or_past after NONE NONE (omega (arith, few))
            ∙ sym (get_or_past (slots 0 e_now starts) (k + 1) NONE (omega (arith, m)))

    pub pop-left : (v : ℕ) → v ≡ get_or after (get_or heads (get_or finishes i 0) 0) NONE
        → HasLeft (set heads (get_or finishes i 0) v) starts finishes (i + 1)
    pop-left v is e = by_test (cases_eq (get_or finishes i 0) e)
      where
        by_test : (get_or finishes i 0 ≡ e) ⊎ (get_or finishes i 0 ≡ e → ⊥)
            → get_or (set heads (get_or finishes i 0) v) e NONE ≡ slot_after starts finishes (i + 1) e
        by_test (inl s) =
            subst (λ f. get_or (set heads (get_or finishes i 0) v) f NONE ≡ slot_after starts finishes (i + 1) f) s
            (get_or-set_same heads (get_or finishes i 0) v NONE edge ∙ is
            ∙ ap (λ m. get_or after m NONE) (get_or_default heads (get_or finishes i 0) 0 NONE edge ∙ left (get_or finishes i 0))
            ∙ behind_it (times e_now (take i finishes))
            ∙ ap (λ k. get_or (slots 0 (get_or finishes i 0) starts) k NONE)
            (sym (count_by_more_yes (λ f. f == get_or finishes i 0) finishes i 0 l (eq-eqb (get_or finishes i 0) (get_or finishes i 0) refl))))
        by_test (inr s) =
            get_or-set_other heads (get_or finishes i 0) e v NONE (λ r. s (sym r)) ∙ left e
            ∙ ap (λ k. get_or (slots 0 e starts) k NONE) (sym (count_by_more_no (λ f. f == e) finishes i 0 l (ne_eqb (get_or finishes i 0) e s)))

-- ---- after all pops the linked lists are empty, if each edge starts as often as it finishes
pub left-clear : (heads starts finishes : List ℕ) → AreEven starts finishes → HasLeft heads starts finishes (length finishes) → IsClear heads
left-clear heads starts finishes even left e =
    let all : times e (take (length finishes) finishes) ≡ times e finishes = ap (times e) (take_all (length finishes) finishes (omega arith)) in
    let few = length-slots 0 e starts in let same = even e in
    left e ∙ get_or_past (slots 0 e starts) (times e (take (length finishes) finishes)) NONE (omega (arith, all, few, same))
