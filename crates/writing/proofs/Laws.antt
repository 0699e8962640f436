-- The lengths of the messages and of a bank, how a bank goes on from one patch to the next, and where its lowest bad patch stands.
-- Each law goes by the definition it names, or by the number of patches.
use mathlib.Core.Path.{◌≡◌, refl, sym, ◌∙◌}
use mathlib.Core.List.{List, [], ◌∷◌, ◌++◌, append_assoc, append-nil}
use mathlib.Core.Option.{Option, none, some}
use Prim.Native.Nat.{ℕ, zero, suc, ◌+◌, ◌*◌, ◌/◌, ◌%◌, ◌<◌, ◌≤◌}
use native.Mathlib.Omega.{arith}
use native.Mathlib.Numerals.{add-one}
use lib.ListN.{length, get_or, take, drop, length-append, length-drop}
use lib.Seq.{length-take-le, drop-drop}
use borrow.Author.Tests.{le-ltb, eq-eqb}
use Rattle.answers.specs.Table.{row_at, row_found, Found, found, done, first}
use Rattle.answers.specs.declared.Placed.{Placed}
use Rattle.answers.specs.Effect.{tested, placed, or_later}
use Rattle.answers.specs.code.Found.{found_or}
use Rattle.answers.proofs.Rows.{first_stopped, first_zero}
use Rattle.std.specs.Simd.{first_chunks}
use Rattle.frames.proofs.Blocks.{block_is}
use Rattle.nibbles.specs.Nibbles.{nibbles, sum}
use Rattle.nibbles.proofs.Laws.{length_nibbles}
use Rattle.patch.specs.Patch.{first_out, first_half, field_rows}
use Rattle.patch.proofs.Tests.{field_refusals}
use Rattle.messages.specs.Layout.{dump}
use Rattle.writing.specs.Writing.{writing_bank, bank_from, first_bad, unless_bad}

-- A dump has two nibbles to a byte, and seven bytes around them.
pub length_dump : (o n : ℕ) (p : List ℕ) → length (dump o n p) ≡ 2 * length p + 7
unfolding dump
length_dump o n p = simp (length-append, length_nibbles) (omega arith)

-- A dump is its first five bytes, the nibbles, and the sum with F7H.
pub dump_parts : (o n : ℕ) (p : List ℕ) → dump o n p ≡ ((0xF0 ∷ 0x10 ∷ 0x06 ∷ o ∷ n ∷ []) ++ nibbles p) ++ (sum p ∷ 0xF7 ∷ [])
unfolding dump
dump_parts o n p = simp append_assoc

-- The patch numbered k of a bank that is cut into patches.
pub patch_in : (ps : List ℕ) (patches : List (List ℕ)) (k : ℕ) → patches ≡ first_chunks 134 (length ps / 134) ps → k < length patches
    → get_or patches k [] ≡ take 134 (drop (k * 134) ps)
patch_in ps patches k e h = let place : 134 * k ≡ k * 134 = omega arith in rw place at (block_is 134 (length ps / 134) k ps patches e h)

-- A patch of a bank has 134 bytes.
pub length_patch : (ps : List ℕ) (k : ℕ) → k * 134 + 134 ≤ length ps → length (take 134 (drop (k * 134) ps)) ≡ 134
length_patch ps k h = length-take-le 134 (drop (k * 134) ps) (simp length-drop (omega arith))

-- A patch's dump has 275 bytes.
pub length_patch_dump : (o n : ℕ) (p : List ℕ) → length p ≡ 134 → length (dump o n p) ≡ 275
length_patch_dump o n p e = omega (arith, length_dump o n p)

-- A bank of n patches has n times 275 bytes.
pub length_bank : (n k : ℕ) (ps : List ℕ) → n * 134 ≤ length ps → length (bank_from n k ps) ≡ n * 275
unfolding bank_from
length_bank zero k ps h = refl
length_bank (suc n) k ps h =
    let one : suc n ≡ n + 1 = sym (add-one n) in
    let h' : (n + 1) * 134 ≤ length ps = rw one at h in
    let here = length_patch_dump 0x01 k (take 134 ps) (length-take-le 134 ps (omega arith)) in
    let rest = length_bank n (suc k) (drop 134 ps) (simp length-drop (omega arith)) in
    rw (length-append, here, rest, one) (omega arith)

-- The first n patches of a bank and then m more.
pub bank_split : (n m k : ℕ) (ps : List ℕ) → bank_from (n + m) k ps ≡ bank_from n k ps ++ bank_from m (n + k) (drop (n * 134) ps)
unfolding bank_from
bank_split zero m k ps =
    let a : 0 + m ≡ m = omega arith in
    let b : 0 + k ≡ k = omega arith in
    rw (a, b)
bank_split (suc n) m k ps =
    let a : suc n + m ≡ suc (n + m) = omega arith in
    let b : suc n + k ≡ n + suc k = omega arith in
    let c : suc n * 134 ≡ 134 + n * 134 = omega arith in
    rw (a, b, c, append_assoc, ← drop-drop (n * 134) 134 ps, bank_split n m (suc k) (drop 134 ps))

-- One patch more is one dump more.
pub bank_more : (n k : ℕ) (ps : List ℕ) → bank_from (n + 1) k ps ≡ bank_from n k ps ++ dump 0x01 (n + k) (take 134 (drop (n * 134) ps))
unfolding bank_from
bank_more n k ps = bank_split n 1 k ps ∙ rw append-nil

-- A bad patch is the lowest bad one of those from it on.
pub bad_here : (n k : ℕ) (ps : List ℕ) → ((tested (field_rows (take 134 ps))).answer ≡ 0 → ⊥)
    → first_bad (n + 1) k ps ≡ some (placed (tested (field_rows (take 134 ps))) k)
unfolding first_bad
bad_here n k ps h = rw (add-one n, first_stopped (field_rows (take 134 ps)) (done 0 [] []) h)

-- A patch that passes leaves it to those behind it.
pub bad_next : (n k : ℕ) (ps : List ℕ) → (tested (field_rows (take 134 ps))).answer ≡ 0 → first_bad (n + 1) k ps ≡ first_bad n (k + 1) (drop 134 ps)
unfolding first_bad
bad_next n k ps h = rw (add-one n, add-one k, first_zero (field_rows (take 134 ps)) (done 0 [] []) (field_refusals (take 134 ps)) h)

-- A bank of whole patches, at most 100, is left to its patches and the room.
pub bank_is_tested : (ps out : List ℕ) → length ps % 134 ≡ 0 → length ps ≤ 13400
    → writing_bank ps out ≡ unless_bad (first_bad (length ps / 134) 0 ps) (bank_from (length ps / 134) 0 ps) out
unfolding writing_bank
bank_is_tested ps out e h = rw (eq-eqb (length ps % 134) 0 e, le-ltb 13400 (length ps) h)

-- A bank whose test answers 0 has no bad patch.
pub none_bad : (n k : ℕ) (ps : List ℕ) → (found_or (first_bad n k ps)).outcome.answer ≡ 0 → first_bad n k ps ≡ none
unfolding first_bad
none_bad zero k ps z = refl
none_bad (suc n) k ps z = go (first_out (take 134 ps)) (first_half (take 134 ps)) z (none_bad n (suc k) (drop 134 ps))
  where
    behind : Option Placed
    behind = first_bad n (suc k) (drop 134 ps)

    from : Option Found → Option ℕ → Option Placed
    from a b = or_later k (first (row_found 11 a ∷ row_at 12 b ∷ []) (done 0 [] [])) behind

    go : (a : Option Found) (b : Option ℕ) → (found_or (from a b)).outcome.answer ≡ 0
        → ((found_or behind).outcome.answer ≡ 0 → behind ≡ none) → from a b ≡ none
    go none none z rest = rest z
    go none (some d) z rest = absurd (omega arith)
    go (some (found d v)) b z rest = absurd (omega arith)
