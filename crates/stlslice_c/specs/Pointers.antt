-- What C gives a call at a pointer.
use Rattle.std.specs.Prelude.{◌-◌, ◌/◌, ◌^◌, ℕ, List, length, nat_le, if◌then◌else◌}
use base.Fml.{Fml, Lft, Share, ftrue, feq, fhide, flft, fsep}
use types.SemTy.{cells}
use types.Share.{parts}
use denote.Memory.{mem, shares}
use denote.RattleType.{RattleType}
use denote.RawPtr.{Ptr, block_ptr, null_ptr}
use denote.Slice.{elements_shared}

-- How many values of a size lie at a pointer for which C tells a number: as many, if the pointer is not null and an object
-- can have so many; otherwise none. An object has at most 2^63 - 1 bytes, `PTRDIFF_MAX` of C.
abbrev pub count_at : ℕ → Ptr → ℕ → ℕ
count_at size (block_ptr b o) n = if nat_le n ((2 ^ 63 - 1) / size) then n else 0
count_at size null_ptr n = 0

-- these values lie side by side from the pointer on
abbrev pub side_by_side : (R : RattleType) → Ptr → List R.Denot → Fml
side_by_side R (block_ptr b o) xs = cells (mem R) xs b o
side_by_side R null_ptr xs = ftrue

-- what C lends a call at a pointer for which it tells a number: the values that lie there
abbrev pub lent : (R : RattleType) → Ptr → ℕ → List R.Denot → Fml
lent R p n xs = fsep (feq ℕ (length xs) (count_at (mem R).size p n)) (side_by_side R p xs)

-- a share of values that lie side by side from the pointer on
abbrev pub shared_side_by_side : (R : RattleType) → Share → Ptr → List R.Denot → Fml
shared_side_by_side R q (block_ptr b o) xs = parts (mem R) (shares R) q xs b o
shared_side_by_side R q null_ptr xs = ftrue

-- what C lends a call at a pointer to values that it may lend to other calls too
abbrev pub lent_shared : (R : RattleType) → Share → Ptr → ℕ → List R.Denot → Fml
lent_shared R q p n xs = fsep (feq ℕ (length xs) (count_at (mem R).size p n)) (shared_side_by_side R q p xs)

-- what a `&` to values that lie side by side from the pointer on has, for a lifetime
abbrev pub seen_side_by_side : (R : RattleType) → Lft → Ptr → List R.Denot → Fml
seen_side_by_side R κ (block_ptr b o) xs = fhide (elements_shared R xs b o κ)
seen_side_by_side R κ null_ptr xs = ftrue

-- What C lends a call that only reads what lies at a pointer: a `&` to the values that lie there, and for the call a share of
-- its lifetime. Any number of calls can have the same at the same time, each with a share of its own.
abbrev pub lent_to_read : (R : RattleType) → Lft × Share → Ptr → ℕ → List R.Denot → Fml
lent_to_read R loan p n xs =
    fsep (feq ℕ (length xs) (count_at (mem R).size p n)) (fsep (seen_side_by_side R loan.0 p xs) (flft loan.0 loan.1))
