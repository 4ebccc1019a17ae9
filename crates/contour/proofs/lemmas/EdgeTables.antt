-- The chains of a table of edges: how an edge is searched, and how one is added. Then the edges of a list, numbered one after
-- another.
use Rattle.std.proofs.Common.{◌≡◌, ℕ, zero, suc, ◌+◌, ◌*◌, ◌<◌, ◌≤◌, Bool, true, false, cond, eqb, List, [], ◌∷◌, ◌++◌, ◌⊎◌, inl, inr, refl, sym, ◌∙◌, ap, subst, length, get_or, set, arith, get_or-set_same, get_or-set_other}
use Rattle.std.specs.Prelude.{◌≢◌}
use Rattle.std.proofs.lemmas.List.{append_assoc, append-nil, get_or_append_left, get_or_push, length-append, length-set, length_push}
use Rattle.std.proofs.lemmas.Bool.{cases_eq, cases_order, eq-eqb, eqb-true, ne_eqb}
use Rattle.contour.specs.EdgeTable.{AreChains, AreNumbered, IsNumbered, IsTable, bucket, end_in}
use Rattle.geometry.specs.declared.limits.TheConstants.{FACET_LIMIT}

-- ---- the end of a chain
module _ (hash : ℕ → ℕ) (b : ℕ) (edges : List ℕ) where
  end-low : (n : ℕ) → end_in hash edges b n ≤ n
  end-low zero = omega arith
  end-low (suc n) = by_test (eqb (hash (get_or edges n 0)) b) (end-low n)
    where
      by_test : (t : Bool) → end_in hash edges b n ≤ n → cond t (suc n) (end_in hash edges b n) ≤ suc n
      by_test true low = omega arith
      by_test false low = omega (arith, low)

  end-fixed : (n : ℕ) → end_in hash edges b (end_in hash edges b n) ≡ end_in hash edges b n
  end-fixed zero = refl
  end-fixed (suc n) = by_test (eqb (hash (get_or edges n 0)) b) refl (end-fixed n)
    where
      by_test : (t : Bool) → eqb (hash (get_or edges n 0)) b ≡ t → end_in hash edges b (end_in hash edges b n) ≡ end_in hash edges b n
          → end_in hash edges b (cond t (suc n) (end_in hash edges b n)) ≡ cond t (suc n) (end_in hash edges b n)
      by_test true h rest = ap (λ t. cond t (suc n) (end_in hash edges b n)) h
      by_test false h rest = rest

  -- after the end no edge is in the bucket
  end-last : (n j : ℕ) → end_in hash edges b n ≤ j → j < n → hash (get_or edges j 0) ≡ b → ⊥
  end-last zero j low less h = omega (arith, less)
  end-last (suc n) j low less h = by_test (eqb (hash (get_or edges n 0)) b) refl low (end-last n j)
    where
      by_test : (t : Bool) → eqb (hash (get_or edges n 0)) b ≡ t → cond t (suc n) (end_in hash edges b n) ≤ j
          → (end_in hash edges b n ≤ j → j < n → hash (get_or edges j 0) ≡ b → ⊥) → ⊥
      by_test true e up rest = omega (arith, up, less)
      by_test false e up rest = by_place (cases_eq j n)
        where
          by_place : (j ≡ n) ⊎ (j ≡ n → ⊥) → ⊥
          by_place (inl same) =
              let own : eqb (hash (get_or edges n 0)) b ≡ true = eq-eqb _ _ (ap (λ i. hash (get_or edges i 0)) (sym same) ∙ h) in cc
          by_place (inr other) = rest up (omega (arith, less, other)) h

  -- the edge before the end is in the bucket
  end-own : (n : ℕ) → end_in hash edges b (suc n) ≡ suc n → hash (get_or edges n 0) ≡ b
  end-own n h = by_test (eqb (hash (get_or edges n 0)) b) refl h
    where
      by_test : (t : Bool) → eqb (hash (get_or edges n 0)) b ≡ t → cond t (suc n) (end_in hash edges b n) ≡ suc n → hash (get_or edges n 0) ≡ b
      by_test true e s = eqb-true _ _ e
      by_test false e s = let low = end-low n in absurd (omega (arith, low, s))

  end-append : (more : List ℕ) (n : ℕ) → n ≤ length edges → end_in hash (edges ++ more) b n ≡ end_in hash edges b n
  end-append more zero l = refl
  end-append more (suc n) l =
      λ i. cond (eqb (hash (get_or_append_left edges more 0 n (omega (arith, l)) i)) b) (suc n) (end-append more n (omega (arith, l)) i)

-- ---- a search from the end of a chain: an edge is not among those from `end` on
pub record IsSearched (hash : ℕ → ℕ) (edges : List ℕ) (edge end : ℕ) : Type 0 where
  pub within : end ≤ length edges
  pub own : end_in hash edges (hash edge) end ≡ end
  pub none : (j : ℕ) → end ≤ j → j < length edges → get_or edges j 0 ≢ edge

pub search-begins : (hash : ℕ → ℕ) (ends edges before : List ℕ) (edge end : ℕ) → AreChains hash ends edges before → hash edge < length ends
    → end ≡ get_or ends (hash edge) 0 → IsSearched hash edges edge end
search-begins hash ends edges before edge end p inside is =
    subst (IsSearched hash edges edge) (sym (is ∙ p.last (hash edge) inside)) (record {
      within = end-low hash (hash edge) edges (length edges);
      own = end-fixed hash (hash edge) edges (length edges);
      none = λ j low l q. end-last hash (hash edge) edges (length edges) j low l (ap hash q);
    })

pub search-goes : (hash : ℕ → ℕ) (ends edges before : List ℕ) (edge end k : ℕ) → AreChains hash ends edges before → IsSearched hash edges edge end
    → end ≡ suc k → get_or edges k 0 ≢ edge → IsSearched hash edges edge (get_or before k 0)
search-goes hash ends edges before edge end k p s up other =
    subst (IsSearched hash edges edge) (sym (p.earlier k inside ∙ ap (λ b. end_in hash edges b k) same)) (record {
      within = (let low = end-low hash (hash edge) edges k in omega (arith, low, inside));
      own = end-fixed hash (hash edge) edges k;
      none = λ j low l. by_place j low l (cases_order j k);
    })
  where
    inside : k < length edges
    inside = let w = s.within in omega (arith, w, up)

    same : hash (get_or edges k 0) ≡ hash edge
    same = end-own hash (hash edge) edges k (subst (λ n. end_in hash edges (hash edge) n ≡ n) up s.own)

    by_place : (j : ℕ) → end_in hash edges (hash edge) k ≤ j → j < length edges → (j ≡ k) ⊎ ((j < k) ⊎ (k < j)) → get_or edges j 0 ≢ edge
    by_place j low l (inl h) = λ q. other (ap (λ i. get_or edges i 0) (sym h) ∙ q)
    by_place j low l (inr (inl h)) = λ q. end-last hash (hash edge) edges k j low h (ap hash q)
    by_place j low l (inr (inr h)) = s.none j (omega (arith, h, up)) l

pub before-low : (hash : ℕ → ℕ) (ends edges before : List ℕ) (k : ℕ) → AreChains hash ends edges before → k < length edges → get_or before k 0 ≤ k
before-low hash ends edges before k p l =
    let e = p.earlier k l in let low = end-low hash (hash (get_or edges k 0)) edges k in omega (arith, e, low)

-- ---- one edge more
module _ (hash : ℕ → ℕ) (ends edges before : List ℕ) (p : AreChains hash ends edges before) (edge : ℕ) (inside : hash edge < length ends)
    (new : (k : ℕ) → k < length edges → get_or edges k 0 ≢ edge) where
  count : length (edges ++ edge ∷ []) ≡ suc (length edges)
  count = let e = length_push edges edge in omega (arith, e)

  end_now : (b : ℕ) → end_in hash (edges ++ edge ∷ []) b (length (edges ++ edge ∷ []))
      ≡ cond (eqb (hash edge) b) (suc (length edges)) (end_in hash edges b (length edges))
  end_now b =
      ap (end_in hash (edges ++ edge ∷ []) b) count
      ∙ (λ i. cond (eqb (hash (get_or_push edges edge 0 (length edges) refl i)) b) (suc (length edges))
      (end-append hash b edges (edge ∷ []) (length edges) (omega arith) i))

  chains-add : AreChains hash (set ends (hash edge) (suc (length edges))) (edges ++ edge ∷ []) (before ++ get_or ends (hash edge) 0 ∷ [])
  chains-add = record {
    size = (let e = length_push before (get_or ends (hash edge) 0) in let s = p.size in omega (arith, e, s, count));
    last = λ b l. last_of b (let n = length-set ends (hash edge) (suc (length edges)) in omega (arith, l, n)) (cases_eq b (hash edge));
    earlier = λ k l. earlier_of k l (cases_eq k (length edges));
    distinct = λ i j less l. distinct_of i j less l (cases_eq j (length edges));
  }
    where
      last_of : (b : ℕ) → b < length ends → (b ≡ hash edge) ⊎ (b ≡ hash edge → ⊥)
          → get_or (set ends (hash edge) (suc (length edges))) b 0 ≡ end_in hash (edges ++ edge ∷ []) b (length (edges ++ edge ∷ []))
      last_of b l (inl h) =
          ap (λ c. get_or (set ends (hash edge) (suc (length edges))) c 0) h ∙ get_or-set_same ends (hash edge) (suc (length edges)) 0 inside
          ∙ sym (end_now b ∙ ap (λ t. cond t (suc (length edges)) (end_in hash edges b (length edges))) (eq-eqb (hash edge) b (sym h)))
      last_of b l (inr h) =
          get_or-set_other ends (hash edge) b (suc (length edges)) 0 h ∙ p.last b l
          ∙ sym (end_now b ∙ ap (λ t. cond t (suc (length edges)) (end_in hash edges b (length edges))) (ne_eqb (hash edge) b (λ q. h (sym q))))

      earlier_of : (k : ℕ) → k < length (edges ++ edge ∷ []) → (k ≡ length edges) ⊎ (k ≡ length edges → ⊥)
          → get_or (before ++ get_or ends (hash edge) 0 ∷ []) k 0 ≡ end_in hash (edges ++ edge ∷ []) (hash (get_or (edges ++ edge ∷ []) k 0)) k
      earlier_of k l (inl h) =
          get_or_push before (get_or ends (hash edge) 0) 0 k (p.size ∙ sym h) ∙ p.last (hash edge) inside
          ∙ sym (end-append hash (hash edge) edges (edge ∷ []) (length edges) (omega arith))
          ∙ (λ i. end_in hash (edges ++ edge ∷ []) (hash (sym (get_or_push edges edge 0 k (sym h)) i)) (sym h i))
      earlier_of k l (inr h) =
          let m : k < length edges = omega (arith, l, h, count) in
          get_or_append_left before (get_or ends (hash edge) 0 ∷ []) 0 k (let s = p.size in omega (arith, m, s)) ∙ p.earlier k m
          ∙ ap (λ e. end_in hash edges (hash e) k) (sym (get_or_append_left edges (edge ∷ []) 0 k m))
          ∙ sym (end-append hash (hash (get_or (edges ++ edge ∷ []) k 0)) edges (edge ∷ []) k (omega (arith, m)))

      distinct_of : (i j : ℕ) → i < j → j < length (edges ++ edge ∷ []) → (j ≡ length edges) ⊎ (j ≡ length edges → ⊥)
          → get_or (edges ++ edge ∷ []) i 0 ≢ get_or (edges ++ edge ∷ []) j 0
      distinct_of i j less l (inl h) = λ q.
          let m : i < length edges = omega (arith, less, h) in
          new i m (sym (get_or_append_left edges (edge ∷ []) 0 i m) ∙ q ∙ get_or_push edges edge 0 j (sym h))
      distinct_of i j less l (inr h) = λ q.
          let m : j < length edges = omega (arith, l, h, count) in
          p.distinct i j less m (sym (get_or_append_left edges (edge ∷ []) 0 i (omega (arith, less, m))) ∙ q ∙ get_or_append_left edges (edge ∷ []) 0 j m)

pub table-adds : (ends edges before : List ℕ) (edge b end : ℕ) → IsTable ends edges before → ((k : ℕ) → k < length edges → get_or edges k 0 ≢ edge)
    → b ≡ bucket (length ends) edge → b < length ends → end ≡ get_or ends b 0
    → IsTable (set ends b (length edges + 1)) (edges ++ edge ∷ []) (before ++ end ∷ [])
table-adds ends edges before edge b end t new is inside read =
    let one : suc (length edges) ≡ length edges + 1 = omega arith in
    let size : length (set ends b (length edges + 1)) ≡ length ends = length-set ends b (length edges + 1) in
    record {
      some = (let s = t.some in omega (arith, s, size));
      few = (let f = t.few in omega (arith, f, size));
      chains =
          subst (λ n. AreChains (bucket n) (set ends b (length edges + 1)) (edges ++ edge ∷ []) (before ++ end ∷ [])) (sym size)
          (subst (λ x. AreChains (bucket (length ends)) (set ends b (length edges + 1)) (edges ++ edge ∷ []) (before ++ x ∷ [])) (sym read)
          (subst (λ n. AreChains (bucket (length ends)) (set ends b n) (edges ++ edge ∷ []) (before ++ get_or ends b 0 ∷ [])) one
          (subst (λ c. AreChains (bucket (length ends)) (set ends c (suc (length edges))) (edges ++ edge ∷ []) (before ++ get_or ends c 0 ∷ [])) (sym is)
          (chains-add (bucket (length ends)) ends edges before t.chains edge (subst (λ c. c < length ends) is inside) new))));
    }

pub table-begins : (ends edges before : List ℕ) → 0 < length ends → length ends ≤ 4 * FACET_LIMIT → ((b : ℕ) → b < length ends → get_or ends b 0 ≡ 0)
    → edges ≡ [] → before ≡ [] → IsTable ends edges before
table-begins ends edges before some few zeros e f =
    subst (λ xs. IsTable ends xs before) (sym e) (subst (λ xs. IsTable ends [] xs) (sym f) (record {
      some = some;
      few = few;
      chains = record {
        size = refl;
        last = zeros;
        earlier = λ k l. absurd (omega (arith, l));
        distinct = λ i j less l. absurd (omega (arith, l));
      };
    }))

-- ---- edges numbered one after another
pub numbered-begins : (edges list : List ℕ) → AreNumbered edges list edges list 0
numbered-begins edges list = record {
  more = [];
  grown = sym (append-nil edges);
  few = omega arith;
  within = λ j l. absurd (omega (arith, l));
  is = λ j l. absurd (omega (arith, l));
  left = λ j l. refl;
}

pub numbered-more : (old list mid new numbers : List ℕ) (i k : ℕ) → AreNumbered old list mid numbers i → i < length numbers
    → IsNumbered mid (get_or numbers i 0) new k → AreNumbered old list new (set numbers i k) (i + 1)
numbered-more old list mid new numbers i k p inside q = record {
  more = p.more ++ q.more;
  grown = q.grown ∙ ap (λ xs. xs ++ q.more) p.grown ∙ append_assoc old p.more q.more;
  few = (let n = length-append p.more q.more in let a = p.few in let b = q.few in omega (arith, n, a, b));
  within = λ j l. within_of j l (cases_eq j i);
  is = λ j l. is_of j l (cases_eq j i);
  left = λ j l. get_or-set_other numbers i j k 0 (λ h. omega (arith, h, l)) ∙ p.left j (omega (arith, l));
}
  where
    longer : length mid ≤ length new
    longer = let n = ap length q.grown ∙ length-append mid q.more in omega (arith, n)

    within_of : (j : ℕ) → j < i + 1 → (j ≡ i) ⊎ (j ≡ i → ⊥) → get_or (set numbers i k) j 0 < length new
    within_of j l (inl h) =
        let e = ap (λ n. get_or (set numbers i k) n 0) h ∙ get_or-set_same numbers i k 0 inside in let w = q.within in omega (arith, e, w)
    within_of j l (inr h) =
        let e = get_or-set_other numbers i j k 0 h in let w = p.within j (omega (arith, l, h)) in omega (arith, e, w, longer)

    is_of : (j : ℕ) → j < i + 1 → (j ≡ i) ⊎ (j ≡ i → ⊥) → get_or new (get_or (set numbers i k) j 0) 0 ≡ get_or list j 0
    is_of j l (inl h) =
        ap (λ n. get_or new n 0) (ap (λ n. get_or (set numbers i k) n 0) h ∙ get_or-set_same numbers i k 0 inside)
        ∙ q.is ∙ p.left i (omega arith) ∙ ap (λ n. get_or list n 0) (sym h)
    is_of j l (inr h) =
        let m : j < i = omega (arith, l, h) in
        ap (λ n. get_or new n 0) (get_or-set_other numbers i j k 0 h)
        ∙ ap (λ xs. get_or xs (get_or numbers j 0) 0) q.grown
        ∙ get_or_append_left mid q.more 0 (get_or numbers j 0) (p.within j m)
        ∙ p.is j m
