-- The ranges of the numbers in a task.
use Rattle.std.specs.Prelude.{◌≤◌, ℕ}
use Rattle.task_words.specs.declared.task.Task.{Task}
use Rattle.task_words.specs.declared.task.Task.TheVariants as task
use Rattle.geometry.specs.Limits.{IsStep}
use Rattle.stripe_claims.specs.declared.limits.TheConstants.{PASS_LIMIT}

-- the numbers of slicing are in range
abbrev pub AreInRange : ℕ → ℕ → ℕ → Type 0
AreInRange pitch layer workers = IsStep pitch × IsStep layer × (1 ≤ workers) × (workers ≤ PASS_LIMIT)

-- the task's numbers are in range
abbrev pub IsInRange : Task → Type 0
IsInRange (task.Box unit) = Unit {0}
IsInRange (task.Slice unit pitch layer rule workers report grid) = AreInRange pitch layer workers
IsInRange (task.Png unit pitch layer rule workers grid depth mirrors) = AreInRange pitch layer workers
IsInRange (task.Probe unit pitch layer grid i j k) = IsStep pitch × IsStep layer
