-- How the routine tells what the program writes: both texts in a lent room, one behind the other.
use Rattle.std.specs.Prelude.{◌≡◌, List, ◌++◌, ℕ, ◌+◌, ◌≤◌, length, Result, Ok, Err}
use Rattle.text.specs.Text.{fitting, Puts, Gains}
use Rattle.text.specs.declared.Text.{Text}
use Rattle.plan.specs.declared.Wrong.{Wrong}
use Rattle.plan.specs.Files.{Found, One, Not, found_in, patch_in}
use Rattle.plan.specs.Said.{Said}
use Rattle.plan.specs.declared.Written.{Written}

-- How what a file comes to is told: with its patch.
abbrev pub told : List ℕ → Found → Result (List ℕ) Wrong
told p One = Ok p
told p (Not w) = Err w

abbrev pub finding : List ℕ → Result (List ℕ) Wrong
finding s = told (patch_in s) (found_in s)

-- All that can be said fits into a room of so many bytes.
abbrev pub room_most : ℕ
room_most = 11264

-- A text gains both, one behind the other, and `between` is the place behind the first.
pub record PutsBoth (w : Said) (old new : Text) (between : ℕ) : Type 0 where
  pub out : between ≡ old.end + length (fitting w.out old.room.now old.end)
  pub gains : Gains (w.out ++ w.err) old new
  pub ordered : between ≤ new.end

-- As much as fits stands in the room; up to `out` what goes to the standard output.
pub record Says (w : Said) (old new : List ℕ) (r : Written) : Type 0 where
  pub out : r.out ≡ length (fitting w.out old 0)
  pub puts : Puts (w.out ++ w.err) old 0 new r.end
  pub ordered : r.out ≤ r.end
  pub within : r.end ≤ length new
