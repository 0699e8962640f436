-- How long lines are, and what is left of the lines behind some.
use mathlib.Core.Path.{◌≡◌}
use mathlib.Core.List.{List, [], ◌∷◌, ◌++◌, append_assoc}
use Prim.Native.Nat.{ℕ, suc, ◌+◌, ◌≤◌}
use native.Mathlib.Nat.{add-zero}
use native.Mathlib.Omega.{arith}
use lib.ListN.{length, length-append}
use Rattle.answers.specs.declared.Outcome.{Outcome}
use Rattle.text.specs.Text.{ascii, followed, signed, spaced}
use Rattle.text.proofs.Spaced.{followed_most, signed_most, spaced_most}
use Rattle.streams.specs.Stream.{Report}
use Rattle.reading.specs.code.Rooms.{outcome_in}
use Rattle.listing.specs.Listing.{line, lines, total}
use Rattle.listing.specs.code.Pieces.{left_behind, least_room}

-- A line has at most 21 bytes for each number, and a sign.
pub line_most : (start end : ℕ) (o : Outcome) (noise : ℕ) → length (line start end o noise) ≤ least_room
line_most start end o noise =
    let front = spaced (start ∷ end ∷ o.answer ∷ o.detail ∷ []) in
    let value = signed o.value 0x20 in
    let last = followed noise 0x0A in
    let long = spaced_most (start ∷ end ∷ o.answer ∷ o.detail ∷ []) in
    let v = signed_most o.value 0x20 in
    let n = followed_most noise 0x0A in
    omega (arith, length-append front (value ++ last), length-append value last)

pub total_most : (n : ℕ) → length (total n) ≤ least_room
unfolding total ascii
total_most n = let l = followed_most n 0x0A in rw (length-append (ascii "messages ") (followed n 0x0A)) (omega arith)

-- What is left behind n lines, where a report is next: its line, and what is left behind that.
pub left_next : (n : ℕ) (r : Report) (rs : List Report) → left_behind n (r ∷ rs) ≡ line r.start r.end (outcome_in r) r.noise ++ left_behind (n + 1) rs
unfolding left_behind lines
left_next n r rs =
    let count : n + suc (length rs) ≡ n + 1 + length rs = omega arith in
    rw count (simp append_assoc)

-- Where no report is left, it is the count.
pub left_total : (n : ℕ) → left_behind n [] ≡ total n
unfolding left_behind lines
left_total n = rw (add-zero n)
