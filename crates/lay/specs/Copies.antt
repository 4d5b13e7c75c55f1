-- A copy to the beginning of a place.
use Rattle.std.specs.Prelude.{List, ℕ, ◌≤◌, length}

pub record CopyRoom {A : Type 0} (from : List A) (n : ℕ) (place : List A) : Type 0 where
  pub there : n ≤ length from
  pub room : n ≤ length place
