-- The limits as they are published. Clauses cite their names, so that a constant with another value fails here.
use Rattle.std.proofs.Common.{◌≡◌, refl}
use Rattle.mesh_reading.specs.declared.window.TheConstants.{LEAST_READ}

-- what a call of a source is offered at least, in bytes: PIPE_BUF of Linux
least_read : LEAST_READ ≡ 4096
least_read = refl
