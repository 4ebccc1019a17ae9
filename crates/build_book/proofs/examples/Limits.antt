-- The limits as they are published. Clauses cite their names, so that a constant with another value fails here.
use Rattle.std.proofs.Common.{◌≡◌, refl}
use Rattle.build_book.specs.declared.limits.TheConstants.{MOST_STRIPES, STRIPE_LAYERS, VOXEL_LIMIT}

layers_of_a_stripe : STRIPE_LAYERS ≡ 8
layers_of_a_stripe = refl

stripes_of_a_job : MOST_STRIPES ≡ 8192
stripes_of_a_job = refl

-- 65,535 layers of 16,384 columns and rows
voxels_of_a_grid : VOXEL_LIMIT ≡ 17591917608960
voxels_of_a_grid = refl
