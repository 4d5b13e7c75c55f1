-- Counting, as a pass.
use Rattle.std.specs.Prelude.{ℕ, ◌+◌}

-- one more for row x
abbrev pub more : ℕ → ℕ → ℕ
more n x = n + 1
