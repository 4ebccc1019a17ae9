-- A room of bytes, of which the first n are taken, with a part written right after them.
use Rattle.std.proofs.Common.{◌≡◌, ℕ, ◌+◌, ◌-◌, ◌≤◌, List, Vec, length, get_or, take, drop, length-drop, ap, subst, sym, ◌++◌, ◌∙◌, inl, inr, arith}
use Rattle.std.proofs.lemmas.Bool.{cases_lt}
use Rattle.std.proofs.lemmas.List.{get_or-drop, get_or_past, get_or-take, length-take, length-take-le, with_items_is}
use Rattle.std.proofs.lemmas.Slice.{drop-put_mid, take-put_mid}
use borrow.Rule.Slice.PartMut.{put_mid, same_len_mid}

-- the part that is written, of m bytes
abbrev pub free_part : List ℕ → ℕ → ℕ → List ℕ
free_part room n m = take (n + m - n) (drop n room)

abbrev pub drawn : List ℕ → ℕ → ℕ → List ℕ → List ℕ
drawn room n m part = put_mid n (n + m - n) room part

-- the bytes that are held, by what the room shows of them
pub fits-after : (room held : List ℕ) (n m limit : ℕ) → take n room ≡ held → n ≤ length room → length room ≡ limit → length held + m ≤ limit → n + m ≤ length room
fits-after room held n m limit is inside size fits =
    omega (arith, ap (λ (l : List ℕ). length l) is, length-take-le n room inside)

pub length-free : (room : List ℕ) (n m : ℕ) → n + m ≤ length room → length (free_part room n m) ≡ m
length-free room n m inside = length-take-le (n + m - n) (drop n room) (omega (arith, length-drop n room)) ∙ omega arith

pub zero-free : (room : List ℕ) (n m : ℕ) → ((k : ℕ) → n ≤ k → get_or room k 0 ≡ 0) → (k : ℕ) → get_or (free_part room n m) k 0 ≡ 0
zero-free room n m free k =
    elim (cases_lt k (n + m - n)) [
      | inl low ↦ get_or-take (n + m - n) (drop n room) k 0 low ∙ get_or-drop n room k 0 ∙ free (n + k) (omega arith)
      | inr high ↦ get_or_past (free_part room n m) k 0 (omega (arith, length-take (n + m - n) (drop n room), high))
    ]

pub length-drawn : (room : List ℕ) (n m : ℕ) (part : List ℕ) → n + m ≤ length room → length part ≡ m → length (drawn room n m part) ≡ length room
length-drawn room n m part inside size = same_len_mid n (n + m - n) room part (size ∙ sym (length-free room n m inside))

pub take-drawn : (room : List ℕ) (n m : ℕ) (part held text : List ℕ) → n + m ≤ length room → length part ≡ m → take n room ≡ held → part ≡ text → take (n + m) (drawn room n m part) ≡ held ++ text
take-drawn room n m part held text inside size before is =
    take-put_mid n (n + m - n) room part (n + m) (omega arith) (omega arith)
    ∙ ap (λ (l : List ℕ). l ++ part) before
    ∙ ap (λ (l : List ℕ). held ++ l) is

pub zero-drawn : (room : List ℕ) (n m : ℕ) (part : List ℕ) → n + m ≤ length room → length part ≡ m → ((k : ℕ) → n ≤ k → get_or room k 0 ≡ 0) → (k : ℕ) → n + m ≤ k → get_or (drawn room n m part) k 0 ≡ 0
zero-drawn room n m part inside size free k high =
    let place : n + m + (k - (n + m)) ≡ k = omega arith in
    ap (λ (i : ℕ). get_or (drawn room n m part) i 0) (sym place)
    ∙ sym (get_or-drop (n + m) (drawn room n m part) (k - (n + m)) 0)
    ∙ ap (λ (l : List ℕ). get_or l (k - (n + m)) 0) (drop-put_mid n (n + m - n) room part (n + m) (omega arith) (omega arith) (size ∙ omega arith))
    ∙ get_or-drop (n + m) room (k - (n + m)) 0
    ∙ free (n + m + (k - (n + m))) (omega arith)

-- the same room as the bytes of a vector, which were lent as a slice
pub drawn-back : {Z : Type 0} (v : Vec ℕ Z) (lent : List ℕ) (n m : ℕ) (part : List ℕ) → lent ≡ v.items → n + m ≤ length v.items → length part ≡ m
    → take v.len (drawn lent n m part ++ drop (length (drawn lent n m part)) v.items) ≡ drawn v.items n m part
drawn-back v lent n m part same inside size =
    let room : n + m ≤ length lent = subst (λ (l : List ℕ). n + m ≤ length l) (sym same) inside in
    with_items_is v (drawn lent n m part) (omega (arith, length-drawn lent n m part room size, ap (λ (l : List ℕ). length l) same, v.ok.0))
    ∙ ap (λ (l : List ℕ). drawn l n m part) same
