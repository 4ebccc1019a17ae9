-- How much of a text went out, how much a chunk holds, and how much is left; and the rows of an image.
use Rattle.std.proofs.Common.{◌≡◌, ℕ, zero, suc, ◌+◌, ◌-◌, ◌<◌, ◌≤◌, List, [], ◌∷◌, ◌++◌, Bool, length, take, drop, length-append, length-drop, append_assoc, ap, sym, subst, ◌∙◌, arith}
use Rattle.std.specs.Prelude.{Option, reverse, flat_map, nat_lt, ◌&&◌}
use Rattle.std.specs.List.{range_with_len}
use Rattle.std.specs.Int.{div_ceil}
use Rattle.std.proofs.lemmas.List.FromFn.{length-map-range_with_len}
use Rattle.std.proofs.KnownBytes.{Appends-nil, Appends-trans}
use Rattle.std.specs.Io.KnownBytes.{Appends}
use Rattle.std.proofs.lemmas.List.{append-nil, drop-append-le, drop-drop, reverse-append, take-append-drop, take-append-le}
use Rattle.std.proofs.lemmas.List.Concat.{flat_map-cons}
use Rattle.std.proofs.Math.Seq.{take-add}
use Rattle.devices.specs.Devices.{AppendsFirst}
use Rattle.devices.specs.Sent.{IsCutOff}
use Rattle.devices.specs.Transcript.{Transcript}
use Rattle.raster.specs.Filler.{below}
use Rattle.raster.specs.Image.{packed_byte, row_bytes}

-- the rows below n, the greatest first
abbrev pub lower_rows : ℕ → (ℕ → ℕ → Bool) → ℕ → List ℕ
lower_rows width pixel n = flat_map (λ j. row_bytes width (λ i. pixel i j)) (reverse (below n))

range-more : (a n : ℕ) → range_with_len a (suc n) ≡ range_with_len a n ++ ((a + n) ∷ [])
range-more a zero = ap (λ (m : ℕ). m ∷ []) (omega arith)
range-more a (suc n) = ap (λ (l : List ℕ). a ∷ l) (range-more (a + 1) n ∙ ap (λ (m : ℕ). range_with_len (a + 1) n ++ (m ∷ [])) (omega arith))

pub rows-step : (width : ℕ) (pixel : ℕ → ℕ → Bool) (n : ℕ) → lower_rows width pixel (suc n) ≡ row_bytes width (λ i. pixel i n) ++ lower_rows width pixel n
rows-step width pixel n =
    ap (λ (l : List ℕ). flat_map (λ j. row_bytes width (λ i. pixel i j)) (reverse l)) (range-more 0 n)
    ∙ ap (λ (l : List ℕ). flat_map (λ j. row_bytes width (λ i. pixel i j)) l) (reverse-append (below n) ((0 + n) ∷ []))
    ∙ flat_map-cons (λ j. row_bytes width (λ i. pixel i j)) (0 + n) (reverse (below n))
    ∙ ap (λ (m : ℕ). row_bytes width (λ i. pixel i m) ++ lower_rows width pixel n) (omega arith)

-- the first bytes of a text went out, up to `written`, counted on from `before`; a chunk and then the rest are still to go
pub record IsUnderWay (old now : Option (List ℕ)) (text : List ℕ) (before written : ℕ) (chunk rest : List ℕ) : Type 0 where
  pub low : before ≤ written
  pub high : written ≤ before + length text
  pub out : AppendsFirst old now (written - before) text
  pub left : drop (written - before) text ≡ chunk ++ rest

pub begun : (now : Option (List ℕ)) (before : ℕ) (chunk rest : List ℕ) → IsUnderWay now now (chunk ++ rest) before before chunk rest
begun now before chunk rest =
    let none : before - before ≡ 0 = omega arith in
    record {
      low = omega arith;
      high = omega arith;
      out = subst (λ (n : ℕ). Appends now now (take n (chunk ++ rest))) (sym none) (Appends-nil now);
      left = ap (λ (n : ℕ). drop n (chunk ++ rest)) none;
    }

-- what is out, held and left is all
pub all-counted : (old now : Option (List ℕ)) (text : List ℕ) (before written : ℕ) (chunk rest : List ℕ) → IsUnderWay old now text before written chunk rest → written + length chunk + length rest ≡ before + length text
all-counted old now text before written chunk rest h =
    let left : length (drop (written - before) text) ≡ length (chunk ++ rest) = ap (λ (l : List ℕ). length l) h.left in
    omega (arith, h.low, h.high, left, length-drop (written - before) text, length-append chunk rest)

-- more of the chunk went out, on success or before a failure
pub more-out : (old now new : Option (List ℕ)) (text : List ℕ) (before written total : ℕ) (chunk rest : List ℕ) → IsUnderWay old now text before written chunk rest → written ≤ total → total ≤ written + length chunk → AppendsFirst now new (total - written) chunk → AppendsFirst old new (total - before) text
more-out old now new text before written total chunk rest h low high sent =
    subst (λ (l : List ℕ). Appends old new l) (sym together)
    (Appends-trans old now new (take (written - before) text) (take (total - written) chunk) h.out sent)
  where
    together : take (total - before) text ≡ take (written - before) text ++ take (total - written) chunk
    together =
        ap (λ (n : ℕ). take n text) (omega (arith, h.low, low))
        ∙ take-add (written - before) (total - written) text
        ∙ ap (λ (l : List ℕ). take (written - before) text ++ take (total - written) l) h.left
        ∙ ap (λ (l : List ℕ). take (written - before) text ++ l) (take-append-le (total - written) chunk rest (omega (arith, low, high)))

-- what is written is within the text
pub written-within : (old now : Option (List ℕ)) (text : List ℕ) (before written total : ℕ) (chunk rest : List ℕ) → IsUnderWay old now text before written chunk rest → total < written + length chunk → total < before + length text
written-within old now text before written total chunk rest h high =
    omega (arith, high, all-counted old now text before written chunk rest h)

-- a chunk after its front, or all of it, went out
pub moved : (old now new : Option (List ℕ)) (text : List ℕ) (before written total : ℕ) (chunk kept rest : List ℕ) → IsUnderWay old now text before written chunk rest → written ≤ total → total ≤ written + length chunk → AppendsFirst now new (total - written) chunk → kept ≡ drop (total - written) chunk → IsUnderWay old new text before total kept rest
moved old now new text before written total chunk kept rest h low high sent is = record {
  low = omega (arith, h.low, low);
  high = omega (arith, high, all-counted old now text before written chunk rest h);
  out = more-out old now new text before written total chunk rest h low high sent;
  left = ap (λ (n : ℕ). drop n text) (omega (arith, h.low, low))
      ∙ sym (drop-drop (total - written) (written - before) text)
      ∙ ap (λ (l : List ℕ). drop (total - written) l) h.left
      ∙ drop-append-le (total - written) chunk rest (omega (arith, low, high))
      ∙ ap (λ (l : List ℕ). l ++ rest) (sym is);
}

-- a text of which the front went out, and then the rest, or a front of it
pub whole-out : (a b c : Option (List ℕ)) (text held : List ℕ) (sent : ℕ) → AppendsFirst a b sent text → held ≡ drop sent text → Appends b c held → Appends a c text
whole-out a b c text held sent first is rest =
    subst (λ (l : List ℕ). Appends a c l) (ap (λ (l : List ℕ). take sent text ++ l) is ∙ take-append-drop sent text)
    (Appends-trans a b c (take sent text) held first rest)

pub first-out : (a b c : Option (List ℕ)) (text held : List ℕ) (sent written : ℕ) → AppendsFirst a b sent text → held ≡ drop sent text → sent ≤ written → AppendsFirst b c (written - sent) held → AppendsFirst a c written text
first-out a b c text held sent written first is low more =
    subst (λ (l : List ℕ). Appends a c l)
    (ap (λ (l : List ℕ). take sent text ++ take (written - sent) l) is
    ∙ sym (take-add sent (written - sent) text)
    ∙ ap (λ (n : ℕ). take n text) (omega (arith, low)))
    (Appends-trans a b c (take sent text) (take (written - sent) held) first more)

-- a text of which only a chunk was left to go out
pub all-out : (old now new : Option (List ℕ)) (text : List ℕ) (before written : ℕ) (chunk : List ℕ) → IsUnderWay old now text before written chunk [] → Appends now new chunk → Appends old new text
all-out old now new text before written chunk h out = whole-out old now new text chunk (written - before) h.out (sym (h.left ∙ append-nil chunk)) out

-- a chunk that took the next part of what was left
pub taken-on : (old now : Option (List ℕ)) (text : List ℕ) (before written : ℕ) (chunk more part rest left : List ℕ) → IsUnderWay old now text before written chunk left → left ≡ part ++ rest → more ≡ chunk ++ part → IsUnderWay old now text before written more rest
taken-on old now text before written chunk more part rest left h next is = record {
  low = h.low;
  high = h.high;
  out = h.out;
  left = h.left
      ∙ ap (λ (l : List ℕ). chunk ++ l) next
      ∙ sym (append_assoc chunk part rest)
      ∙ ap (λ (l : List ℕ). l ++ rest) (sym is);
}

pub length-row : (width : ℕ) (pixel : ℕ → Bool) → length (row_bytes width pixel) ≡ div_ceil width 8
length-row width pixel = length-map-range_with_len (packed_byte (λ i. nat_lt i width && pixel i)) 0 (div_ceil width 8)

-- the row above those of a number
pub next-row : (width m n : ℕ) (pixel : ℕ → ℕ → Bool) → m ≡ suc n → lower_rows width pixel m ≡ row_bytes width (λ i. pixel i n) ++ lower_rows width pixel n
next-row width m n pixel next = ap (λ (k : ℕ). lower_rows width pixel k) next ∙ rows-step width pixel n

-- a text that was cut off, and what was to come after it
pub cut-before : (sink : Transcript) (text more : List ℕ) (before written : ℕ) → IsCutOff sink text before written → IsCutOff sink (text ++ more) before written
cut-before sink text more before written h = record {
  low = h.low;
  high = omega (arith, h.high, length-append text more);
  out = subst (λ (l : List ℕ). Appends sink.old sink.new l) (sym (take-append-le (written - before) text more (omega (arith, h.high)))) h.out;
  failed = h.failed;
}

-- a text that was cut off, if nothing went out before it
pub cut-first : (sink : Transcript) (text : List ℕ) (written : ℕ) → IsCutOff sink text 0 written → AppendsFirst sink.old sink.new written text
cut-first sink text written h =
    let all : written - 0 ≡ written = omega arith in
    subst (λ (n : ℕ). AppendsFirst sink.old sink.new n text) all h.out

pub cut-within : (sink : Transcript) (text : List ℕ) (written : ℕ) → IsCutOff sink text 0 written → written < length text
cut-within sink text written h = omega (arith, h.high)

-- the rest of a text that was cut off
pub rest-within : (sent written : ℕ) (text held : List ℕ) → held ≡ drop (sent - 0) text → sent ≤ 0 + length text → written < sent + length held → written < length text
rest-within sent written text held is high low = omega (arith, ap (λ (l : List ℕ). length l) is, length-drop (sent - 0) text)
