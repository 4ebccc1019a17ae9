use Rattle.std.proofs.Common.{rules, length, ◌≡◌, ◌+◌, ◌*◌, ◌-◌, ◌<◌, ℕ, List, max, get_or, ap, sym, ◌∙◌}
use Rattle.std.specs.Prelude.{bit_or}
use Rattle.std.specs.Int.{bit_at, to_be_bytes, w64}
use Rattle.std.proofs.lemmas.Nat.{be_bytes_8}
use Rattle.std.proofs.lemmas.Nat.Bits.{bit_at_or}
use Rattle.raster.proofs.lemmas.Masks.{bit_at-byte}
use Rattle.raster.proofs.pbm.bits.with_mask.Goals as goal

pub returns : goal.returns
returns c = λ k b small low.
    let word = c.from_be_bytes.result in
    let place = 63 - (8 * k + b) in
    let size : length c.args.bytes ≡ 8 = search rules in
    let bytes_in : (i : ℕ) → get_or c.args.bytes i 0 < 256 = search rules in
    let same : to_be_bytes w64 word ≡ c.args.bytes = be_bytes_8 c.args.bytes word size bytes_in c.from_be_bytes.ensures in
    ap (λ (l : List ℕ). bit_at (get_or l k 0) (7 - b)) c.to_be_bytes.ensures
    ∙ bit_at-byte (bit_or word c.args.mask) k b small low
    ∙ bit_at_or word c.args.mask place
    ∙ ap (λ (n : ℕ). max n (bit_at c.args.mask place)) (sym (bit_at-byte word k b small low) ∙ ap (λ (l : List ℕ). bit_at (get_or l k 0) (7 - b)) same)
