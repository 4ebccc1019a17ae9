-- The places of a book, one for each layer of its job: a place is empty or has a layer.
use Rattle.std.specs.Prelude.{◌≡◌, ℕ, zero, suc, ◌<◌, ◌≤◌, List, [], ◌∷◌, Option, Some, None, is_some, count_by, sum_by, slice_get}
use Rattle.build_book.specs.Layer.{Layer}

abbrev pub filed_count : List (Option Layer) → ℕ
filed_count places = count_by is_some places

abbrev pub place_area : Option Layer → ℕ
place_area None = 0
place_area (Some layer) = layer.area

abbrev pub total_area : List (Option Layer) → ℕ
total_area places = sum_by place_area places

abbrev pub IsTaken : List (Option Layer) → ℕ → Type 0
IsTaken places k = (layer : Layer) × (slice_get places k ≡ Some (Some layer))

-- k is the least taken place from `first` up to, but not including, `end`
abbrev pub IsTakenAt : List (Option Layer) → ℕ → ℕ → ℕ → Type 0
IsTakenAt places first end k = (first ≤ k) × (k < end) × IsTaken places k × ((n : ℕ) → first ≤ n → n < k → slice_get places n ≡ Some None)

-- no place from `first` up to, but not including, `end` is taken
abbrev pub AreFree : List (Option Layer) → ℕ → ℕ → Type 0
AreFree places first end = (k : ℕ) → first ≤ k → k < end → slice_get places k ≡ Some None

-- a place's layer, or this one if it has none
abbrev pub or_layer : Option Layer → Layer → Option Layer
or_layer None layer = Some layer
or_layer (Some old) layer = Some old

-- the places, with these layers in those from `first` on that were free
abbrev pub with_layers : ℕ → List Layer → List (Option Layer) → List (Option Layer)
with_layers first layers [] = []
with_layers zero [] (place ∷ places) = place ∷ places
with_layers zero (layer ∷ layers) (place ∷ places) = or_layer place layer ∷ with_layers zero layers places
with_layers (suc first) layers (place ∷ places) = place ∷ with_layers first layers places
