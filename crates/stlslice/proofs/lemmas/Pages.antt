-- Images that are drawn into pages: which bytes they have, and how many.
use Rattle.std.proofs.Common.{◌≡◌, ℕ, zero, suc, ◌+◌, ◌*◌, ◌-◌, ◌<◌, ◌≤◌, List, [], ◌∷◌, ◌++◌, max, min, length, append_assoc, ap, sym, ◌∙◌, arith, refl, slice_index_or, drop, subst, ◌^◌, Option, Some}
use Rattle.std.specs.Prelude.{Bool, false, Err, IfOk, Ok, Result, SomeIff, flat_map}
use Rattle.std.specs.Result.{result_ok}
use Rattle.std.specs.List.{All, range_with_len}
use Rattle.std.proofs.lemmas.List.Concat.{flat_map-cons}
use Rattle.std.proofs.Math.Seq.{drop-cons}
use Rattle.std.proofs.Math.Nat.{mul-le-mul_left}
use Rattle.raster.proofs.lemmas.Written.{IsUnderWay, all-counted, begun}
use Rattle.devices.specs.Devices.{greatest_count}
use Rattle.raster.specs.Grid.{Grid, IsGrid}
use Rattle.raster.specs.Image.{image_of_pixels, images_limit}
use Rattle.raster.proofs.lemmas.Images.{length-image, small-images}
use Rattle.devices.specs.Transcript.{transcript}
use Rattle.build_book.specs.Job.{Job}
use Rattle.stlslice.specs.Put.{IsPut}
use Rattle.stlslice.specs.Pages.{all_images, image_size, images_between, images_of}
use Rattle.stlslice.proofs.lemmas.Put.{put-on, with-part}

-- the text of a range in two parts
range-parts : (f : ℕ → List ℕ) (a m n : ℕ) → flat_map f (range_with_len a (m + n)) ≡ flat_map f (range_with_len a m) ++ flat_map f (range_with_len (a + m) n)
range-parts f a zero n =
    let none : zero + n ≡ n = omega arith in
    let here : a ≡ a + zero = omega arith in
    ap (λ (k : ℕ). flat_map f (range_with_len a k)) none
    ∙ ap (λ (k : ℕ). flat_map f (range_with_len k n)) here
range-parts f a (suc m) n =
    let first : List ℕ = flat_map f (range_with_len (a + 1) m) in
    let more : suc m + n ≡ suc (m + n) = omega arith in
    let next : a + 1 + m ≡ a + suc m = omega arith in
    ap (λ (k : ℕ). flat_map f (range_with_len a k)) more
    ∙ flat_map-cons f a (range_with_len (a + 1) (m + n))
    ∙ ap (λ (l : List ℕ). f a ++ l) (range-parts f (a + 1) m n ∙ ap (λ (k : ℕ). first ++ flat_map f (range_with_len k n)) next)
    ∙ sym (append_assoc (f a) first (flat_map f (range_with_len (a + suc m) n)))
    ∙ ap (λ (l : List ℕ). l ++ flat_map f (range_with_len (a + suc m) n)) (sym (flat_map-cons f a (range_with_len (a + 1) m)))

-- images up to a layer, and those from it on
images-parts : (f : ℕ → List ℕ) (a b c : ℕ) → a ≤ b → b ≤ c → images_between f a c ≡ images_between f a b ++ images_between f b c
images-parts f a b c low high =
    let size : c - a ≡ (b - a) + (c - b) = omega (arith, low, high) in
    let next : a + (b - a) ≡ b = omega (arith, low) in
    ap (λ (n : ℕ). flat_map f (range_with_len a n)) size
    ∙ range-parts f a (b - a) (c - b)
    ∙ ap (λ (n : ℕ). flat_map f (range_with_len a (b - a)) ++ flat_map f (range_with_len n (c - b))) next

-- the first of some images
images-first : (f : ℕ → List ℕ) (a b : ℕ) → a < b → images_between f a b ≡ f a ++ images_between f (a + 1) b
images-first f a b h =
    let more : b - a ≡ suc (b - (a + 1)) = omega (arith, h) in
    ap (λ (n : ℕ). flat_map f (range_with_len a n)) more
    ∙ flat_map-cons f a (range_with_len (a + 1) (b - (a + 1)))

pub no-images : (f : ℕ → List ℕ) (a b : ℕ) → b ≤ a → images_between f a b ≡ []
no-images f a b h =
    let none : b - a ≡ 0 = omega (arith, h) in
    ap (λ (n : ℕ). flat_map f (range_with_len a n)) none

-- all images of a grid have the same length
pub length-is : (g : Grid) (pixel : ℕ → ℕ → Bool) → length (image_of_pixels g.columns g.rows pixel) ≡ image_size g
unfolding image_size
length-is g pixel = length-image g.columns g.rows pixel ∙ sym (length-image g.columns g.rows (λ i j. false))

-- Pages that are drawn: page k has the images of up to `per` layers, after those of the pages before it. There are n layers.
pub pages-drawn : {P : Type 0} (bytes : P → List ℕ) (f : ℕ → List ℕ) (n per first : ℕ) (pages : List P) → first ≤ n
    → ((k : ℕ) (d : P) → k < length pages
    → bytes (slice_index_or pages k d) ≡ images_between f (min (first + k * per) n) (min (min (first + k * per) n + per) n))
    → flat_map bytes pages ≡ images_between f first (min (first + length pages * per) n)
pages-drawn bytes f n per first [] low each = sym (no-images f first (min (first + 0 * per) n) (omega arith))
pages-drawn bytes f n per first (p ∷ ps) low each =
    let next : ℕ = min (first + per) n in
    let end : ℕ = min (next + length ps * per) n in
    let begin : min (first + 0 * per) n ≡ first = omega (arith, low) in
    let here : bytes p ≡ images_between f first next =
    each 0 p (omega arith)
    ∙ ap (λ (a : ℕ). images_between f a (min (a + per) n)) begin in
    let rest : flat_map bytes ps ≡ images_between f next end =
    pages-drawn bytes f n per next ps (omega arith)
    (λ k d h. each (suc k) d (omega (arith, h)) ∙ ap (λ (a : ℕ). images_between f a (min (a + per) n)) (shift k)) in
    flat_map-cons bytes p ps
    ∙ ap (λ (l : List ℕ). l ++ flat_map bytes ps) here
    ∙ ap (λ (l : List ℕ). images_between f first next ++ l) rest
    ∙ sym (images-parts f first next end (omega arith) (omega arith))
    ∙ ap (λ (m : ℕ). images_between f first m) (all (length ps))
  where
    shift : (k : ℕ) → min (first + suc k * per) n ≡ min (min (first + per) n + k * per) n
    shift k = omega arith

    all : (m : ℕ) → min (min (first + per) n + m * per) n ≡ min (first + suc m * per) n
    all m = omega arith

-- the bytes of a page, and of those after it
pub page-next : {P : Type 0} (bytes : P → List ℕ) (pages : List P) (k : ℕ) (page : P) → k < length pages → page ≡ slice_index_or pages k page
    → flat_map bytes (drop k pages) ≡ bytes page ++ flat_map bytes (drop (k + 1) pages)
page-next bytes pages k page h is =
    let next : suc k ≡ k + 1 = omega arith in
    ap (flat_map bytes) (drop-cons pages k page h)
    ∙ flat_map-cons bytes (slice_index_or pages k page) (drop (suc k) pages)
    ∙ ap (λ p. bytes p ++ flat_map bytes (drop (suc k) pages)) (sym is)
    ∙ ap (λ (n : ℕ). bytes page ++ flat_map bytes (drop n pages)) next

-- what holds of the pages that were made
pub of-made : {T E : Type 0} (P : T → Type 0) (r : Result T E) (x : T) → Some x ≡ result_ok r → IfOk r P → P x
of-made P (Ok y) x is h =
    let same : y ≡ x = cc in
    subst P same h
of-made P (Err e) x is h = cc

-- the bytes of `per` images that were counted
pub product-is : (found : Option ℕ) (product a b : ℕ) → found ≡ Some product → SomeIff found (a * b < 2 ^ 64) (a * b) → product ≡ a * b
product-is found product a b is h = (subst (λ (o : Option ℕ). SomeIff o (a * b < 2 ^ 64) (a * b)) is h).1

-- pages without images
blank-text : {P : Type 0} (bytes : P → List ℕ) (pages : List P) → All (λ page. bytes page ≡ []) pages → flat_map bytes pages ≡ []
blank-text bytes [] h = refl
blank-text bytes (p ∷ ps) h =
    flat_map-cons bytes p ps
    ∙ ap (λ (l : List ℕ). l ++ flat_map bytes ps) (h 0 p (omega arith))
    ∙ blank-text bytes ps (λ k d low. h (suc k) d (omega (arith, low)))

-- nothing is out, and all images are to go
pub all-begun : {P : Type 0} (bytes : P → List ℕ) (f : ℕ → List ℕ) (n : ℕ) (now : Option (List ℕ)) (pages : List P) → All (λ page. bytes page ≡ []) pages
    → IsUnderWay now now (all_images f n) 0 0 (flat_map bytes pages) (images_between f 0 n)
all-begun bytes f n now pages none =
    let size : n ≡ n - 0 = omega arith in
    let same : all_images f n ≡ images_between f 0 n = ap (λ (m : ℕ). flat_map f (range_with_len 0 m)) size in
    subst (λ (l : List ℕ). IsUnderWay now now (all_images f n) 0 0 l (images_between f 0 n)) (sym (blank-text bytes pages none))
    (subst (λ (l : List ℕ). IsUnderWay now now (all_images f n) 0 0 [] l) same (begun now 0 [] (all_images f n)))

-- one image more fits a page that has fewer than `per`
pub one-more-fits : (m per size len room : ℕ) → len ≤ m * size → m < per → per * size ≤ room → len + size ≤ room
one-more-fits m per size len room few more all =
    let rows : size * suc m ≤ size * per = mul-le-mul_left size (omega (arith, more)) in
    omega (arith, few, all, rows)

-- and is no longer than the others may be
pub one-more : (m n size old new : ℕ) → n ≡ suc m → old ≤ m * size → new ≤ old + size → new ≤ n * size
one-more m n size old new next few more = rw next (omega (arith, few, more))

-- the next image is drawn
pub image-drawn : (f : ℕ → List ℕ) (k end : ℕ) (bytes new image text : List ℕ) → k < end → image ≡ f k → new ≡ bytes ++ image
    → bytes ++ images_between f k end ≡ text → new ++ images_between f (k + 1) end ≡ text
image-drawn f k end bytes new image text h is added before =
    ap (λ (l : List ℕ). l ++ images_between f (k + 1) end) (added ∙ ap (λ (l : List ℕ). bytes ++ l) is)
    ∙ append_assoc bytes (f k) (images_between f (k + 1) end)
    ∙ ap (λ (l : List ℕ). bytes ++ l) (sym (images-first f k end h))
    ∙ before

-- the bytes of all images of a grid can be counted
pub few-bytes : (job held : Job) (grid : Grid) → held ≡ job → grid ≡ held.grid → IsGrid grid → length (images_of job) ≤ images_limit
few-bytes job held grid same of given =
    let limits : IsGrid job.grid = subst IsGrid (of ∙ ap (λ (j : Job). j.grid) same) given in
    small-images job.grid job.rule job.solid.facets limits.columns_high limits.rows_high limits.layers_high

-- what is out of these images, and what a chunk holds, can be counted too
pub held-counted : (job held : Job) (grid : Grid) (old now : Option (List ℕ)) (sent : ℕ) (chunk rest : List ℕ) → held ≡ job → grid ≡ held.grid → IsGrid grid
    → IsUnderWay old now (images_of job) 0 sent chunk rest → sent + length chunk ≤ images_limit
held-counted job held grid old now sent chunk rest same of given text =
    omega (arith, few-bytes job held grid same of given, all-counted old now (images_of job) 0 sent chunk rest text)

-- what is out and what goes out next can be counted
pub next-counted : (old now : Option (List ℕ)) (text : List ℕ) (written : ℕ) (part left : List ℕ) → length text ≤ greatest_count
    → IsUnderWay old now text 0 written part left → written + length part ≤ greatest_count
next-counted old now text written part left few under = omega (arith, few, all-counted old now text 0 written part left under)

-- one set went out, and the next one is drawn
pub set-out : (f : ℕ → List ℕ) (n : ℕ) (old now new : Option (List ℕ)) (before after written total first end : ℕ) (part drawn : List ℕ)
    → IsUnderWay old now (all_images f n) 0 written part (images_between f first n)
    → IsPut (Ok total) (transcript now new before after) part written → first ≤ end → end ≤ n → drawn ≡ images_between f first end
    → IsUnderWay old new (all_images f n) 0 total drawn (images_between f end n)
set-out f n old now new before after written total first end part drawn under put low high is =
    with-part old new (all_images f n) 0 total drawn (images_between f end n) (images_between f first n)
    (put-on old now new before after (all_images f n) 0 written total part (images_between f first n) under put)
    (images-parts f first end n low high ∙ ap (λ (l : List ℕ). l ++ images_between f end n) (sym is))

-- each set has a layer at least
pub fewer-left : (count first m per end : ℕ) → 1 ≤ m → 1 ≤ per → first < count → end ≡ min (first + m * per) count → count - end < count - first
fewer-left count first m per end some few h is =
    let one : per * 1 ≤ per * m = mul-le-mul_left per some in
    omega (arith, one, few, h, is)

-- a number of pages, or of the images of one
pub one_at_least : (m n : ℕ) → n ≡ max m 1 → 0 < n
one_at_least m n is = omega (arith, is)
