-- The lines of reports whose numbers lie flat in lent room, as C has them: from any index on, and one behind the other.
use mathlib.Core.Path.{◌≡◌, refl}
use mathlib.Core.List.{List, [], ◌∷◌, ◌++◌}
use Prim.Native.Nat.{ℕ, zero, suc, ◌+◌, ◌≤◌}
use native.Mathlib.Omega.{arith}
use lib.ListN.{length, take, drop, get_or}
use lib.Seq.{drop-cons}
use Rattle.answers.specs.Lists.{All}
use Rattle.answers.specs.code.Numbers.{of_number}
use Rattle.text.specs.Text.{followed, signed, spaced}
use Rattle.streams.specs.Stream.{Report}
use Rattle.reading.specs.code.Rooms.{width, value_among, noise_among, flat, ReadsBack}
use Rattle.listing.specs.Listing.{lines}

-- The line of a report's numbers, the value in two's complement.
abbrev pub line_of : List ℕ → List ℕ
line_of ns = spaced (take value_among ns) ++ (signed (of_number (get_or ns value_among 0)) 0x20 ++ followed (get_or ns noise_among 0) 0x0A)

-- The lines of some reports, whose numbers stand one behind the other.
unfoldable pub lines_of : ℕ → List ℕ → List ℕ
lines_of zero numbers = []
lines_of (suc n) numbers = line_of numbers ++ lines_of n (drop width numbers)

-- The lines of the numbers of reports whose values they tell are the reports' lines.
pub lines_flat : (rs : List Report) (more : List ℕ) → All ReadsBack rs → lines_of (length rs) (flat rs ++ more) ≡ lines rs
unfolding lines_of flat lines
lines_flat [] more t = refl
lines_flat (r ∷ rs) more t = rw (t.0, lines_flat rs more t.1)

-- The line of the numbers from an index on is that of the six there.
pub line_at : (ns : List ℕ) (k : ℕ) → k + width ≤ length ns
    → line_of (get_or ns k 0 ∷ get_or ns (k + 1) 0 ∷ get_or ns (k + 2) 0 ∷ get_or ns (k + 3) 0 ∷ get_or ns (k + 4) 0 ∷ get_or ns (k + 5) 0 ∷ []) ≡ line_of (drop k ns)
line_at ns k h =
    let e₁ : k + 1 ≡ suc k = omega arith in
    let e₂ : k + 2 ≡ suc (suc k) = omega arith in
    let e₃ : k + 3 ≡ suc (suc (suc k)) = omega arith in
    let e₄ : k + 4 ≡ suc (suc (suc (suc k))) = omega arith in
    let e₅ : k + 5 ≡ suc (suc (suc (suc (suc k)))) = omega arith in
    let d₁ = drop-cons ns (suc k) 0 (omega arith) in
    let d₂ = drop-cons ns (suc (suc k)) 0 (omega arith) in
    let d₃ = drop-cons ns (suc (suc (suc k))) 0 (omega arith) in
    let d₄ = drop-cons ns (suc (suc (suc (suc k)))) 0 (omega arith) in
    let d₅ = drop-cons ns (suc (suc (suc (suc (suc k))))) 0 (omega arith) in
    rw (e₁, e₂, e₃, e₄, e₅, drop-cons ns k 0 (omega arith), d₁, d₂, d₃, d₄, d₅)
