-- Places of a book, before and after layers are put into those that are free.
use Rattle.std.proofs.Common.{◌≡◌, ℕ, zero, suc, ◌+◌, ◌*◌, ◌<◌, ◌≤◌, Bool, true, false, not, ◌⊎◌, inl, inr, List, [], ◌∷◌, ◌++◌, length, append_assoc, append-nil, length-append, replicate, take, drop, map, set, get_or, refl, sym, ◌∙◌, ap, subst, arith, Option, Some, None, cond, is_some, flat_map, option_to_list, slice_get, Fits}
use mir.Syntax.{w64}
use mir.Val.{bool_byte}
use Rattle.std.specs.Prelude.{nat_le}
use Rattle.std.proofs.lemmas.Bool.Decides.{leb_tells}
use Rattle.std.proofs.lemmas.List.{length-replicate}
use Rattle.std.proofs.lemmas.List.Sums.{sum_by-cons, count_by-le-length}
use Rattle.build_book.specs.Job.{Job, stripe_length, stripe_count}
use Rattle.build_book.specs.Layer.{Layer, IsLawful, AreLawfulFrom}
use Rattle.build_book.specs.Piece.{IsStripe}
use Rattle.build_book.specs.Places.{filed_count, with_layers, or_layer, IsTaken, AreFree}
use Rattle.build_book.specs.Book.{IsLawfulPlace, IsLawfulBook}
use Rattle.build_book.specs.Build.{IsComplete}
use Rattle.build_book.specs.declared.limits.TheConstants.{MOST_STRIPES, STRIPE_LAYERS}
use Rattle.geometry.specs.declared.limits.TheConstants.{LAYER_LIMIT}

filled_none : (places : List (Option Layer)) → with_layers zero [] places ≡ places
filled_none [] = refl
filled_none (p ∷ ps) = refl

pub filled_empty : (f : ℕ) (places : List (Option Layer)) → places ≡ with_layers f [] places
filled_empty f [] = refl
filled_empty zero (p ∷ ps) = refl
filled_empty (suc f) (p ∷ ps) = ap (λ qs. p ∷ qs) (filled_empty f ps)

-- an iterator gives its next layer
pub front_step : {X : Type 0} (ys zs rest all : List X) (x : X) → ys ++ zs ≡ all → zs ≡ x ∷ rest → (ys ++ x ∷ []) ++ rest ≡ all
front_step ys zs rest all x whole next = append_assoc ys (x ∷ []) rest ∙ ap (λ l. ys ++ l) (sym next) ∙ whole

-- an iterator that has none left has given all
pub all_front : {X : Type 0} (ys zs all items : List X) (left : ℕ) → ys ++ zs ≡ all → left ≡ length zs → left ≡ 0 → all ≡ items → ys ≡ items
all_front ys [] all items left whole counted none same = sym (append-nil ys) ∙ whole ∙ same
all_front ys (z ∷ zs) all items left whole counted none same = absurd (omega (arith, counted, none))

pub room_here : {X : Type 0} (at room : ℕ) (zs rest : List X) (x : X) → at + length zs ≤ room → zs ≡ x ∷ rest → at < room
room_here at room zs rest x within next = omega (arith, within, ap length next)

pub room_after : {X : Type 0} (at room : ℕ) (zs rest : List X) (x : X) → at + length zs ≤ room → zs ≡ x ∷ rest → at + 1 + length rest ≤ room
room_after at room zs rest x within next = omega (arith, within, ap length next)

pub few_front : {X : Type 0} (ys zs all : List X) (most : ℕ) → ys ++ zs ≡ all → length all ≤ most → length ys ≤ most
few_front ys zs all most whole few = omega (arith, length-append ys zs, ap length whole, few)

pub length_step : {X : Type 0} (ys : List X) (x : X) → length (ys ++ x ∷ []) ≡ length ys + 1
length_step ys x = omega (arith, length-append ys (x ∷ []))

-- one more layer is put into its place
pub filled_step : (f n : ℕ) (ys : List Layer) (y : Layer) (ps : List (Option Layer)) (v : Option Layer) → n ≡ f + length ys → n < length ps
    → v ≡ get_or (with_layers f ys ps) n v → set (with_layers f ys ps) n (or_layer v y) ≡ with_layers f (ys ++ y ∷ []) ps
filled_step f n ys y [] v at low e = absurd (omega (arith, low))
filled_step zero zero [] y (p ∷ ps) v at low e =
    let here : v ≡ p = e in
    ap (λ w. or_layer w y ∷ ps) here ∙ ap (λ qs. or_layer p y ∷ qs) (sym (filled_none ps))
filled_step zero (suc n) [] y (p ∷ ps) v at low e = absurd (omega (arith, at))
filled_step zero zero (l ∷ ls) y (p ∷ ps) v at low e = absurd (omega (arith, at))
filled_step zero (suc n) (l ∷ ls) y (p ∷ ps) v at low e =
    ap (λ qs. or_layer p l ∷ qs) (filled_step zero n ls y ps v (omega (arith, at)) (omega (arith, low)) e)
filled_step (suc f) zero ys y (p ∷ ps) v at low e = absurd (omega (arith, at))
filled_step (suc f) (suc n) ys y (p ∷ ps) v at low e =
    ap (λ qs. p ∷ qs) (filled_step f n ys y ps v (omega (arith, at)) (omega (arith, low)) e)

pub length-filled : (f : ℕ) (ys : List Layer) (ps : List (Option Layer)) → length (with_layers f ys ps) ≡ length ps
length-filled f ys [] = refl
length-filled zero [] (p ∷ ps) = refl
length-filled zero (y ∷ ys) (p ∷ ps) = ap suc (length-filled zero ys ps)
length-filled (suc f) ys (p ∷ ps) = ap suc (length-filled f ys ps)

-- 1 for a free place
abbrev pub one_if_free : Option Layer → ℕ
one_if_free place = cond (not (is_some place)) 1 0

-- a place that was free is counted once it is filled
pub count_step : (ps : List (Option Layer)) (n : ℕ) (y : Layer) (v : Option Layer) → n < length ps → v ≡ get_or ps n v
    → one_if_free v + filed_count ps ≡ filed_count (set ps n (or_layer v y))
count_step [] n y v low e = absurd (omega (arith, low))
count_step (p ∷ ps) zero y v low e = simp sum_by-cons (by_place p v e)
  where
    by_place : (p v : Option Layer) → v ≡ p
        → one_if_free v + (cond (is_some p) 1 0 + filed_count ps) ≡ cond (is_some (or_layer v y)) 1 0 + filed_count ps
    by_place None None e = omega arith
    by_place (Some x) (Some z) e = omega arith
    by_place None (Some z) e = cc
    by_place (Some x) None e = cc
count_step (p ∷ ps) (suc n) y v low e =
    let rest : one_if_free v + filed_count ps ≡ filed_count (set ps n (or_layer v y)) = count_step ps n y v (omega (arith, low)) e in
    simp sum_by-cons (omega (arith, rest))

-- a place that is filled counts once
pub one_or_none : (v w : Option Layer) (b : Bool) (r : ℕ) → v ≡ w → r ≡ bool_byte b → b ≡ not (is_some w) → r ≡ one_if_free v
one_or_none v w b r same byte test =
    byte ∙ ap bool_byte (test ∙ ap (λ p. not (is_some p)) (sym same)) ∙ by_test (not (is_some v))
  where
    by_test : (b : Bool) → bool_byte b ≡ cond b 1 0
    by_test true = refl
    by_test false = refl

pub one_at_most : (v : Option Layer) → one_if_free v ≤ 1
one_at_most None = omega arith
one_at_most (Some x) = omega arith

-- if the places were free, the layers are in them
filled-is : (f n : ℕ) (ys : List Layer) (ps : List (Option Layer)) → n ≡ f + length ys → n ≤ length ps
    → ((k : ℕ) → f ≤ k → k < n → slice_get ps k ≡ Some None)
    → with_layers f ys ps ≡ take f ps ++ map Some ys ++ drop n ps
filled-is zero zero [] [] at low free = refl
filled-is zero (suc n) [] [] at low free = absurd (omega (arith, at))
filled-is zero n (y ∷ ys) [] at low free = absurd (omega (arith, at, low))
filled-is (suc f) n ys [] at low free = absurd (omega (arith, at, low))
filled-is zero zero [] (p ∷ ps) at low free = refl
filled-is zero (suc n) [] (p ∷ ps) at low free = absurd (omega (arith, at))
filled-is zero zero (y ∷ ys) (p ∷ ps) at low free = absurd (omega (arith, at))
filled-is zero (suc n) (y ∷ ys) (p ∷ ps) at low free =
    let rest : with_layers zero ys ps ≡ map Some ys ++ drop n ps =
    filled-is zero n ys ps (omega (arith, at)) (omega (arith, low)) (λ k a b. free (suc k) (omega arith) (omega (arith, b))) in
    first p (free zero (omega arith) (omega arith)) ∙ ap (λ qs. Some y ∷ qs) rest
  where
    first : (p : Option Layer) → Some p ≡ Some None → or_layer p y ∷ with_layers zero ys ps ≡ Some y ∷ with_layers zero ys ps
    first None e = refl
    first (Some x) e = cc
filled-is (suc f) zero ys (p ∷ ps) at low free = absurd (omega (arith, at))
filled-is (suc f) (suc n) ys (p ∷ ps) at low free =
    ap (λ qs. p ∷ qs) (filled-is f n ys ps (omega (arith, at)) (omega (arith, low)) (λ k a b. free (suc k) (omega (arith, a)) (omega (arith, b))))

-- each place from k on is empty or has its layer
AreLawfulPlaces : Job → ℕ → List (Option Layer) → Type 0
AreLawfulPlaces job k ps = (n : ℕ) (place : Option Layer) → slice_get ps n ≡ Some place → IsLawfulPlace job (k + n) place

lawful_or : (job : Job) (k : ℕ) (p : Option Layer) (y : Layer) → IsLawfulPlace job k p → IsLawful job k y → IsLawfulPlace job k (or_layer p y)
lawful_or job k None y old new = new
lawful_or job k (Some x) y old new = old

lawful_filled : (job : Job) (at f : ℕ) (ys : List Layer) (ps : List (Option Layer)) → AreLawfulPlaces job at ps
    → AreLawfulFrom job (at + f) ys → AreLawfulPlaces job at (with_layers f ys ps)
unfolding AreLawfulPlaces
lawful_filled job at f ys [] old new n place e = cc
lawful_filled job at zero [] (p ∷ ps) old new n place e = old n place e
lawful_filled job at zero (y ∷ ys) (p ∷ ps) old new zero place e =
    let here : or_layer p y ≡ place = cc in
    subst (IsLawfulPlace job (at + 0)) here (lawful_or job (at + 0) p y (old zero p refl) new.0)
lawful_filled job at zero (y ∷ ys) (p ∷ ps) old new (suc n) place e =
    subst (λ k. IsLawfulPlace job k place) (omega arith)
    (lawful_filled job (at + 1) zero ys ps
    (λ k q h. subst (λ j. IsLawfulPlace job j q) (omega arith) (old (suc k) q h))
    (subst (λ k. AreLawfulFrom job k ys) (omega arith) new.1) n place e)
lawful_filled job at (suc f) ys (p ∷ ps) old new zero place e = old zero place e
lawful_filled job at (suc f) ys (p ∷ ps) old new (suc n) place e =
    subst (λ k. IsLawfulPlace job k place) (omega arith)
    (lawful_filled job (at + 1) f ys ps
    (λ k q h. subst (λ j. IsLawfulPlace job j q) (omega arith) (old (suc k) q h))
    (subst (λ k. AreLawfulFrom job k ys) (omega arith) new) n place e)

-- a lawful book stays so
lawful_book : (job : Job) (f : ℕ) (ys : List Layer) (ps : List (Option Layer)) → IsLawfulBook (record { job = job; places = ps })
    → AreLawfulFrom job f ys → IsLawfulBook (record { job = job; places = with_layers f ys ps })
unfolding AreLawfulPlaces
lawful_book job f ys ps old new = record {
  one_each = length-filled f ys ps ∙ old.one_each;
  lawful = λ n place e. subst (λ k. IsLawfulPlace job k place) (omega arith)
      (lawful_filled job 0 f ys ps (λ k q h. subst (λ j. IsLawfulPlace job j q) (omega arith) (old.lawful k q h))
      (subst (λ k. AreLawfulFrom job k ys) (omega arith) new) n place e);
}

-- the places of the layers are taken, and those that were stay so
taken_filled : (f n : ℕ) (ys : List Layer) (ps : List (Option Layer)) → n ≡ f + length ys
    → (k : ℕ) → k < length ps → (k < f → IsTaken ps k) → k < n → IsTaken (with_layers f ys ps) k
taken_filled f n ys [] at k low below near = absurd (omega (arith, low))
taken_filled zero n [] (p ∷ ps) at k low below near = absurd (omega (arith, at, near))
taken_filled zero n (y ∷ ys) (p ∷ ps) at zero low below near = or_taken p
  where
    or_taken : (p : Option Layer) → IsTaken (or_layer p y ∷ with_layers zero ys ps) zero
    or_taken None = (y, refl)
    or_taken (Some x) = (x, refl)
taken_filled zero zero (y ∷ ys) (p ∷ ps) at (suc k) low below near = absurd (omega (arith, at))
taken_filled zero (suc n) (y ∷ ys) (p ∷ ps) at (suc k) low below near =
    taken_filled zero n ys ps (omega (arith, at)) k (omega (arith, low)) (λ h. absurd (omega (arith, h))) (omega (arith, near))
taken_filled (suc f) n ys (p ∷ ps) at zero low below near = below (omega arith)
taken_filled (suc f) zero ys (p ∷ ps) at (suc k) low below near = absurd (omega (arith, at))
taken_filled (suc f) (suc n) ys (p ∷ ps) at (suc k) low below near =
    taken_filled f n ys ps (omega (arith, at)) k (omega (arith, low)) (λ h. below (omega (arith, h))) (omega (arith, near))

-- a book of empty places

pub none_filed : (n : ℕ) → filed_count (replicate n None) ≡ 0
none_filed zero = refl
none_filed (suc n) = simp sum_by-cons (omega (arith, none_filed n))

none_there : (job : Job) (n k : ℕ) (place : Option Layer) → slice_get (replicate {A = Option Layer} n None) k ≡ Some place → IsLawfulPlace job k place
none_there job n k None h = tt
none_there job zero k (Some layer) h = absurd (cc)
none_there job (suc n) zero (Some layer) h = absurd (cc)
none_there job (suc n) (suc k) (Some layer) h = absurd (clash n k layer h)
  where
    clash : (n k : ℕ) (layer : Layer) → slice_get (replicate {A = Option Layer} n None) k ≡ Some (Some layer) → ⊥
    clash zero k layer h = cc
    clash (suc n) zero layer h = cc
    clash (suc n) (suc k) layer h = clash n k layer h

pub none_lawful : (job : Job) (places : List (Option Layer)) (n : ℕ) → places ≡ replicate n None → n ≡ job.grid.layers
    → IsLawfulBook (record { job = job; places = places })
none_lawful job places n is whole =
    record {
      one_each = ap length is ∙ length-replicate n None ∙ whole;
      lawful = λ k place h. none_there job n k place (ap (λ ps. slice_get ps k) (sym is) ∙ h);
    }

-- a place that is taken has a layer
module _ (Goal : Option Layer → Type 0) (some : (x : Layer) → Goal (Some x)) where
  by_layer : (p : Option Layer) (ps : List (Option Layer)) → IsTaken (p ∷ ps) zero → Goal p
  by_layer None ps (x, e) = cc
  by_layer (Some x) ps taken = some x

-- the layers of places that are all taken

kept_count : (ps : List (Option Layer)) → ((k : ℕ) → k < length ps → IsTaken ps k) → length (flat_map option_to_list ps) ≡ length ps
kept_count [] taken = refl
kept_count (p ∷ ps) taken =
    by_layer (λ q. length (option_to_list q ++ flat_map option_to_list ps) ≡ length (p ∷ ps))
    (λ x. ap suc (kept_count ps (λ k h. taken (suc k) (omega (arith, h))))) p ps (taken zero (omega arith))

kept_lawful : (job : Job) (at : ℕ) (ps : List (Option Layer)) → AreLawfulPlaces job at ps → ((k : ℕ) → k < length ps → IsTaken ps k)
    → AreLawfulFrom job at (flat_map option_to_list ps)
unfolding AreLawfulPlaces
kept_lawful job at [] lawful taken = tt
kept_lawful job at (p ∷ ps) lawful taken =
    by_layer (λ q. IsLawfulPlace job at q → AreLawfulFrom job at (option_to_list q ++ flat_map option_to_list ps))
    (λ x first. (
      first,
      kept_lawful job (at + 1) ps
          (λ k q h. subst (λ j. IsLawfulPlace job j q) (omega arith) (lawful (suc k) q h))
          (λ k h. taken (suc k) (omega (arith, h))),
    ))
    p ps (taken zero (omega arith))
    (subst (λ j. IsLawfulPlace job j p) (omega arith) (lawful zero p refl))

-- if all places of a lawful book are taken, its layers are complete
pub all_complete : (job : Job) (ps : List (Option Layer)) → IsLawfulBook (record { job = job; places = ps })
    → ((k : ℕ) → k < length ps → IsTaken ps k) → IsComplete job (flat_map option_to_list ps)
unfolding AreLawfulPlaces
all_complete job ps lawful taken = record {
  whole = kept_count ps taken ∙ lawful.one_each;
  lawful = kept_lawful job 0 ps (λ k q h. subst (λ j. IsLawfulPlace job j q) (omega arith) (lawful.lawful k q h)) taken;
}

pub all_counted : (ps : List (Option Layer)) → ((k : ℕ) → k < length ps → IsTaken ps k) → filed_count ps ≡ length ps
all_counted [] taken = refl
all_counted (p ∷ ps) taken =
    let rest : filed_count ps ≡ length ps = all_counted ps (λ k h. taken (suc k) (omega (arith, h))) in
    simp sum_by-cons
    (by_layer (λ q. cond (is_some q) 1 0 + filed_count ps ≡ suc (length ps)) (λ x. omega (arith, rest)) p ps (taken zero (omega arith)))

-- what a read of a place says

pub taken_at : (ps : List (Option Layer)) (n : ℕ) (v : Option Layer) → n < length ps → v ≡ get_or ps n v → is_some v ≡ true → IsTaken ps n
taken_at [] n v low read some = absurd (omega (arith, low))
taken_at (p ∷ ps) zero v low read some = by_place p (ap is_some (sym read) ∙ some)
  where
    by_place : (p : Option Layer) → is_some p ≡ true → IsTaken (p ∷ ps) zero
    by_place None e = cc
    by_place (Some x) e = (x, refl)
taken_at (p ∷ ps) (suc n) v low read some = taken_at ps n v (omega (arith, low)) read some

pub free_at : (ps : List (Option Layer)) (n : ℕ) (v : Option Layer) → n < length ps → v ≡ get_or ps n v → is_some v ≡ false → slice_get ps n ≡ Some None
free_at [] n v low read none = absurd (omega (arith, low))
free_at (p ∷ ps) zero v low read none = by_place p (ap is_some (sym read) ∙ none)
  where
    by_place : (p : Option Layer) → is_some p ≡ false → Some p ≡ Some None
    by_place None e = refl
    by_place (Some x) e = cc
free_at (p ∷ ps) (suc n) v low read none = free_at ps n v (omega (arith, low)) read none

-- what holds of each number from `first` on and below k, and of k, holds below k + 1
pub one_further : (P : ℕ → Type 0) (first k : ℕ) → ((n : ℕ) → first ≤ n → n < k → P n) → P k → (n : ℕ) → first ≤ n → n < k + 1 → P n
one_further P first k all last n from below = by_order (leb_tells (suc n) k)
  where
    by_order : ((nat_le (suc n) k ≡ true) × (suc n ≤ k)) ⊎ ((nat_le (suc n) k ≡ false) × (k < suc n)) → P n
    by_order (inl x) = all n from x.1
    by_order (inr x) = let same : k ≡ n = omega (arith, x.1, below) in subst P same last

-- if the places from `first` up to `at` are free, none of them is a taken one
pub none_before : (ps : List (Option Layer)) (first at k : ℕ) → ((n : ℕ) → first ≤ n → n < at → slice_get ps n ≡ Some None)
    → first ≤ k → IsTaken ps k → at ≤ k
none_before ps first at k free from taken = by_order (leb_tells at k)
  where
    by_order : ((nat_le at k ≡ true) × (at ≤ k)) ⊎ ((nat_le at k ≡ false) × (k < at)) → at ≤ k
    by_order (inl x) = x.1
    by_order (inr x) = let both : Some (Some taken.0) ≡ Some None = sym taken.1 ∙ free k from x.1 in cc

-- a stripe of the places of a book

pub moved_stripe : (job other : Job) (s t : ℕ) (xs ys : List Layer) → other ≡ job → t ≡ s → ys ≡ xs → IsStripe other t xs → IsStripe job s ys
moved_stripe job other s t xs ys same at equal stripe =
    subst (λ w. IsStripe w s ys) same (subst (λ n. IsStripe other n ys) at (subst (λ l. IsStripe other t l) (sym equal) stripe))

pub stripe_taken : (job : Job) (s first end : ℕ) (ps : List (Option Layer)) → IsLawfulBook (record { job = job; places = ps })
    → first ≡ STRIPE_LAYERS * s → end ≡ STRIPE_LAYERS * s + stripe_length job.grid s
    → ((k : ℕ) → k < STRIPE_LAYERS * s → k < length ps → IsTaken ps k) → ((k : ℕ) → first ≤ k → k < end → IsTaken ps k)
    → (k : ℕ) → k < STRIPE_LAYERS * (s + 1) → k < length ps → IsTaken ps k
stripe_taken job s first end ps lawful at last below here k near low = by_order (leb_tells (suc k) (STRIPE_LAYERS * s))
  where
    by_order : ((nat_le (suc k) (STRIPE_LAYERS * s) ≡ true) × (suc k ≤ STRIPE_LAYERS * s)) ⊎ ((nat_le (suc k) (STRIPE_LAYERS * s) ≡ false) × (STRIPE_LAYERS * s < suc k)) → IsTaken ps k
    by_order (inl x) = below k x.1 low
    by_order (inr x) = here k (omega (arith, at, x.1)) (omega (arith, last, x.1, near, low, lawful.one_each))

pub stripe_lawful : (job : Job) (s first : ℕ) (ys : List Layer) (ps new : List (Option Layer)) → IsLawfulBook (record { job = job; places = ps })
    → first ≡ STRIPE_LAYERS * s → IsStripe job s ys → new ≡ with_layers first ys ps → IsLawfulBook (record { job = job; places = new })
stripe_lawful job s first ys ps new lawful at stripe is =
    subst (λ l. IsLawfulBook (record { job = job; places = l })) (sym is)
    (lawful_book job first ys ps lawful (subst (λ n. AreLawfulFrom job n ys) (sym at) stripe.lawful))

pub stripe_filled : (job : Job) (s first : ℕ) (ys : List Layer) (ps new : List (Option Layer)) → IsLawfulBook (record { job = job; places = ps })
    → first ≡ STRIPE_LAYERS * s → IsStripe job s ys → new ≡ with_layers first ys ps
    → ((k : ℕ) → k < STRIPE_LAYERS * s → k < length ps → IsTaken ps k)
    → (k : ℕ) → k < STRIPE_LAYERS * (s + 1) → k < length new → IsTaken new k
stripe_filled job s first ys ps new lawful at stripe is below k near low =
    let long : length new ≡ length ps = ap length is ∙ length-filled first ys ps in
    let early : k < length ps = omega (arith, low, long) in
    subst (λ l. IsTaken l k) (sym is)
    (taken_filled first (first + length ys) ys ps refl k early (λ h. below k (omega (arith, h, at)) early)
    (omega (arith, at, stripe.whole, near, early, lawful.one_each)))

pub few_layers : (job : Job) (ps : List (Option Layer)) → IsLawfulBook (record { job = job; places = ps }) → (n : ℕ) → n ≡ stripe_count job.grid → n ≤ MOST_STRIPES
    → filed_count ps ≤ STRIPE_LAYERS * MOST_STRIPES
few_layers job ps lawful n is few = omega (arith, count_by-le-length is_some ps, lawful.one_each, is, few)

-- free places of a stripe are those of its layers
stripe_free : (job : Job) (s first end : ℕ) (ys : List Layer) (ps qs : List (Option Layer)) → IsStripe job s ys
    → first ≡ STRIPE_LAYERS * s → end ≡ STRIPE_LAYERS * s + stripe_length job.grid s → ps ≡ qs → AreFree ps first end
    → (k : ℕ) → STRIPE_LAYERS * s ≤ k → k < STRIPE_LAYERS * s + length ys → slice_get qs k ≡ Some None
stripe_free job s first end ys ps qs stripe at last same free k low high =
    subst (λ l. slice_get l k ≡ Some None) same (free k (omega (arith, low, at)) (omega (arith, high, last, stripe.whole)))

-- if a stripe's places were free, its layers are in them
pub stripe_filed : (job : Job) (s first end : ℕ) (ys zs : List Layer) (ps qs new : List (Option Layer))
    → IsLawfulBook (record { job = job; places = ps }) → IsStripe job s ys → first ≡ STRIPE_LAYERS * s → end ≡ STRIPE_LAYERS * s + stripe_length job.grid s
    → new ≡ with_layers first ys ps → AreFree ps first end → ys ≡ zs → ps ≡ qs
    → new ≡ take (STRIPE_LAYERS * s) qs ++ map Some zs ++ drop (STRIPE_LAYERS * s + length zs) qs
stripe_filed job s first end ys zs ps qs new lawful stripe at last is free same equal =
    is ∙ ap (λ n. with_layers n ys ps) at
    ∙ filled-is (STRIPE_LAYERS * s) (STRIPE_LAYERS * s + length ys) ys ps refl (omega (arith, stripe.whole, lawful.one_each))
    (stripe_free job s first end ys ps ps stripe at last refl free)
    ∙ ap (λ l. take (STRIPE_LAYERS * s) ps ++ map Some l ++ drop (STRIPE_LAYERS * s + length l) ps) same
    ∙ ap (λ l. take (STRIPE_LAYERS * s) l ++ map Some zs ++ drop (STRIPE_LAYERS * s + length zs) l) equal

-- the places of a stripe are in the list, and its layers fit there
pub below_end : (first end : ℕ) → first < end → end ≤ LAYER_LIMIT → Fits w64 first
below_end first end below few = omega (arith, below, few)

pub at_end : (end : ℕ) → end ≤ LAYER_LIMIT → Fits w64 end
at_end end few = omega (arith, few)

pub end_within : (job : Job) (end : ℕ) (ps : List (Option Layer)) → IsLawfulBook (record { job = job; places = ps }) → end ≤ job.grid.layers → end ≤ length ps
end_within job end ps lawful within = omega (arith, within, lawful.one_each)

pub stripe_fits : (job : Job) (s first end : ℕ) (ys : List Layer) (ps : List (Option Layer)) → IsLawfulBook (record { job = job; places = ps })
    → first ≡ STRIPE_LAYERS * s → end ≡ STRIPE_LAYERS * s + stripe_length job.grid s → end ≤ job.grid.layers → IsStripe job s ys → first + length ys ≤ length ps
stripe_fits job s first end ys ps lawful at last within stripe = omega (arith, at, last, within, stripe.whole, lawful.one_each)

pub stripe_few : (job : Job) (s : ℕ) (ys : List Layer) → IsStripe job s ys → length ys ≤ STRIPE_LAYERS
stripe_few job s ys stripe = omega (arith, stripe.whole)
