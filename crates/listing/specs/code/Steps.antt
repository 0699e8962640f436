-- What the steps of a piece add, one behind the other.
use Rattle.std.specs.Prelude.{◌≡◌, List, ◌++◌, ℕ, ◌-◌, ◌≤◌, length}
use Rattle.text.specs.Text.{Gains}
use Rattle.text.specs.declared.Text.{Text}
use Rattle.listing.specs.code.Pieces.{left_of, calls_left, least_room}
use Rattle.listing.specs.declared.Left.{Left}

-- A state of the input s: as many lines as bytes before the place at most, and a place of the input.
abbrev pub Within : List ℕ → ℕ → ℕ → Type 0
Within s place messages = (messages ≤ place) × (place ≤ length s)

-- What one step adds to a text, and what it leaves.
pub record Adds (s : List ℕ) (left : Left) (old new : Text) (next : Left) : Type 0 where
  pub added : List ℕ
  pub text : left_of s left ≡ added ++ left_of s next
  pub few : length added ≤ least_room
  pub gains : Gains added old new
  pub fewer : calls_left s next ≤ calls_left s left - 1
