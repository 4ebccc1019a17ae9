-- The names that the walks of the exports cite.
pub use Rattle.std.proofs.Common.{ℕ, ℤ, List, [], ◌∷◌, refl, ap, w8, w32, w64}
pub use mir.Val.{Val, vunit}
pub use base.Logic.{SProp, id⊢, ex_i}
pub use types.Kit.{raw, ◌⊛◌, ◌$◌, !, by, keep, split, feq_l, feq_i}
pub use types.Run.{of_opd, unit_lit, returns}
pub use types.ByLocal.{alloc_all, pass_all, free_all, look_at, get, sets, lands_as}
pub use contract.Monad.{fact}
pub use denote.Builtin.{u8, u32, u64, usize, unit}
pub use denote.RawPtr.{Testable}
pub use denote.Steps.{heard, only}
pub use denote.Triple.Spec.{triple_of}
pub use Rattle.stlslice_c.proofs.lemmas.Lending.{ptr_good}
pub use Rattle.stlslice_c.proofs.lemmas.Passing.{Passed, allocator, number, to_read, shared, filled, Places, passes_on, answers_with, lifetimes_of, shares_of, values_of, machine_values, over, lefts}
pub use Rattle.stlslice_c.proofs.lemmas.Placing.{finder, finds_one, finds_many, slices, slices_bytes}
pub use Rattle.stlslice_c.proofs.lemmas.Exported.{export_proved, begins, begins_with, enters, words, typed, told, locals_of, walk_ends}
