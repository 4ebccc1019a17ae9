-- A table that numbers edges from 0 on. The edges of a bucket form a chain: `ends` has the end of each chain, and `before` where
-- it goes on from an edge. An end is 1 more than a number, and 0 is the end of nothing.
use Rattle.std.specs.Prelude.{◌≡◌, ◌≢◌, ℕ, zero, suc, ◌*◌, ◌/◌, ◌%◌, ◌<◌, ◌≤◌, ◌==◌, List, ◌++◌, length, slice_index, if◌then◌else◌}
use Rattle.contour.specs.declared.edge_table.TheConstants.{HASHES, MULTIPLIER}
use Rattle.geometry.specs.declared.limits.TheConstants.{FACET_LIMIT}

-- which of `buckets` buckets an edge is in: in proportion to its hash
abbrev pub bucket : ℕ → ℕ → ℕ
bucket buckets edge = edge * MULTIPLIER % HASHES * buckets / HASHES

-- the end of the first n edges that are in bucket b
abbrev pub end_in : (ℕ → ℕ) → List ℕ → ℕ → ℕ → ℕ
end_in hash edges b zero = zero
end_in hash edges b (suc n) = if hash (slice_index edges n) == b then suc n else end_in hash edges b n

-- no edge has two numbers
abbrev pub AreDistinct : List ℕ → Type 0
AreDistinct edges = (i j : ℕ) → i < j → j < length edges → slice_index edges i ≢ slice_index edges j

-- the chains of the edges by their buckets
pub record AreChains (hash : ℕ → ℕ) (ends edges before : List ℕ) : Type 0 where
  pub size : length before ≡ length edges
  pub last : (b : ℕ) → b < length ends → slice_index ends b ≡ end_in hash edges b (length edges)
  pub earlier : (k : ℕ) → k < length edges → slice_index before k ≡ end_in hash edges (hash (slice_index edges k)) k
  pub distinct : AreDistinct edges

pub record IsTable (ends edges before : List ℕ) : Type 0 where
  pub some : 0 < length ends
  pub few : length ends ≤ 4 * FACET_LIMIT
  pub chains : AreChains (bucket (length ends)) ends edges before

-- the edge has the number k among the new edges, which are the old ones and perhaps one more
pub record IsNumbered (old : List ℕ) (edge : ℕ) (new : List ℕ) (k : ℕ) : Type 0 where
  pub more : List ℕ
  pub grown : new ≡ old ++ more
  pub few : length more ≤ 1
  pub within : k < length new
  pub is : slice_index new k ≡ edge

-- the first n edges of a list are replaced by their numbers among the new edges, which are the old ones and at most n more
pub record AreNumbered (old list new numbers : List ℕ) (n : ℕ) : Type 0 where
  pub more : List ℕ
  pub grown : new ≡ old ++ more
  pub few : length more ≤ n
  pub within : (j : ℕ) → j < n → slice_index numbers j < length new
  pub is : (j : ℕ) → j < n → slice_index new (slice_index numbers j) ≡ slice_index list j
  pub left : (j : ℕ) → n ≤ j → slice_index numbers j ≡ slice_index list j
