-- A dump's data packed from among real time: k bytes are packed, what is left of the content is what is left from the place at hand on, and no
-- byte passed was above 15.
use mathlib.Core.Path.{◌≡◌, refl, ap, ◌∙◌}
use mathlib.Core.List.{List, [], ◌∷◌, ◌++◌, append-nil}
use mathlib.Core.Option.{some}
use Rattle.std.specs.Prelude.{Some, None}
use Prim.Native.Nat.{ℕ, ◌+◌, ◌*◌, ◌<◌, ◌≤◌}
use native.Mathlib.Omega.{arith}
use lib.Bits.{bit_or}
use lib.ListN.{length, take, drop, get_or, set, drop_of_length-le}
use lib.Seq.{drop-cons, length-take-le, take_all}
use Rattle.answers.proofs.Copied.{Copied, copied_next}
use Rattle.streams.specs.Bytes.{without_real_time}
use Rattle.frames.specs.code.Extent.{past_real_time}
use Rattle.nibbles.specs.Nibbles.{pack, wide_from, first_wide}
use Rattle.nibbles.proofs.Laws.{length_pack, pack_take, wide_here}
use Rattle.nibbles.proofs.Passing.{wide_passed, wide_end}
use Rattle.judging.specs.code.Content.{StandsAt, sent_in, PacksTo}
use Rattle.std.proofs.lemmas.Nat.{le_or_l, le_or_r}
use Rattle.judging.proofs.Places.{stands_next, stands_byte, LeftAt, left_behind, left_more, left_passed, left_stands, sent_length, sent_byte}

abbrev passed : List ℕ → ℕ → List ℕ
passed s i = pack (take (2 * i) s)

pub record Underway (s b o₀ o : List ℕ) (at k : ℕ) : Type 0 where
  pub copied : Copied (passed s) (length o₀) o₀ o k
  pub left : LeftAt b (4 + 2 * k) at
  pub narrow : first_wide s ≡ wide_from (2 * k) (drop (2 * k) s)

pub both_narrow : (x y : ℕ) → bit_or x y < 16 → (x ≤ 15) × (y ≤ 15)
both_narrow x y h = (omega (arith, le_or_l x y), omega (arith, le_or_r x y))

-- A byte above 15 behind others that are not.
stopped : (s : List ℕ) (j : ℕ) (after : List ℕ) → first_wide s ≡ wide_from j (drop j s) → j < length s → 15 < get_or s j 0 → PacksTo s after (Some j)
stopped s j after e h w =
    let here : first_wide s ≡ some j = e ∙ rw (drop-cons s j 0 h) (wide_here j (get_or s j 0) _ w) in
    record { first = rw here; packed = λ n. let z : ◌≡◌ {A = ℕ} 0 1 = cc in absurd (omega arith) }

module _ (b o₀ : List ℕ) (h : 4 + 2 * length o₀ < length (without_real_time b)) where
  abbrev sent : List ℕ
  sent = sent_in (length o₀) (without_real_time b)

  long : length sent ≡ 2 * length o₀
  long = sent_length (length o₀) (without_real_time b) (omega arith)

  pub begun : (at : ℕ) → StandsAt b 3 at → Underway sent b o₀ o₀ (at + 1) 0
  unfolding pack
  begun at s = record { copied = (omega arith, refl, refl); left = left_behind b 3 at s; narrow = refl }

  module _ (o : List ℕ) (at k : ℕ) (u : Underway sent b o₀ o at k) (l : k < length o₀) where
    -- A pair, and a byte behind it, is left.
    pub two_more : at + 1 < length b
    two_more = left_more b (4 + 2 * k) at u.left 1 (omega arith)

    -- Real time is passed over.
    pub noise_passed : 0xF7 < get_or b at 0 → Underway sent b o₀ o (at + 1) k
    noise_passed h = record { copied = u.copied; left = left_passed b (4 + 2 * k) at u.left (omega (arith, two_more)) h; narrow = u.narrow }

    -- Any other byte is the pair's first nibble.
    module _ (data_byte : get_or b at 0 ≤ 0xF7) where
      first : StandsAt b (4 + 2 * k) at
      first = left_stands b (4 + 2 * k) at u.left (omega (arith, two_more)) data_byte

      low_byte : get_or sent (2 * k) 0 ≡ get_or b at 0
      low_byte = sent_byte (length o₀) (without_real_time b) (omega arith) (2 * k) (omega arith) ∙ stands_byte b (4 + 2 * k) at first

      pub low_wide : 15 < get_or b at 0 → PacksTo sent o (Some (2 * k))
      low_wide w = stopped sent (2 * k) o u.narrow (omega (arith, long)) (omega (arith, low_byte))

      -- The place of the pair's second nibble.
      pub second : StandsAt b (4 + 2 * k + 1) (past_real_time b (at + 1))
      second = stands_next b (4 + 2 * k) at first (omega arith)

      module _ (narrow : get_or b at 0 ≤ 15) where
        next_narrow : first_wide sent ≡ wide_from (2 * k + 1) (drop (2 * k + 1) sent)
        next_narrow = u.narrow ∙ wide_passed sent (2 * k) (omega (arith, long)) (omega (arith, low_byte))

        module _ (next : ℕ) (there : StandsAt b (4 + 2 * k + 1) next) where
          high_byte : get_or sent (2 * k + 1) 0 ≡ get_or b next 0
          high_byte =
              let same : 4 + (2 * k + 1) ≡ 4 + 2 * k + 1 = omega arith in
              (rw same at (sent_byte (length o₀) (without_real_time b) (omega arith) (2 * k + 1) (omega arith))) ∙ stands_byte b (4 + 2 * k + 1) next there

          pub high_wide : 15 < get_or b next 0 → PacksTo sent o (Some (2 * k + 1))
          high_wide w = stopped sent (2 * k + 1) o next_narrow (omega (arith, long)) (omega (arith, high_byte))

          pub packed_on : get_or b next 0 ≤ 15 → Underway sent b o₀ (set o k (get_or b at 0 + 16 * get_or b next 0)) (next + 1) (k + 1)
          packed_on w =
              let twice : 2 * (k + 1) ≡ 2 * k + 1 + 1 = omega arith in
              let further : 4 + 2 * (k + 1) ≡ 4 + 2 * k + 1 + 1 = omega arith in
              let ends : length (passed sent k) ≡ k = omega (arith, length_pack (take (2 * k) sent), length-take-le (2 * k) sent (omega (arith, long))) in
              let byte = get_or b at 0 + 16 * get_or b next 0 in
              let more : passed sent (k + 1) ≡ passed sent k ++ (byte ∷ []) = rw (← low_byte, ← high_byte) (pack_take sent k (omega (arith, long))) in
              record {
                copied = copied_next (passed sent) (length o₀) o₀ o k u.copied l k (_ ∷ []) ends more (omega arith);
                left = rw further (left_behind b (4 + 2 * k + 1) next there);
                narrow = next_narrow ∙ rw twice (wide_passed sent (2 * k + 1) (omega (arith, long)) (omega (arith, high_byte)));
              }

    -- Two narrow bytes side by side are a pair.
    pub pair_on : bit_or (get_or b at 0) (get_or b (at + 1) 0) < 16
        → Underway sent b o₀ (set o k (get_or b at 0 + 16 * get_or b (at + 1) 0)) (at + 2) (k + 1)
    pair_on h =
        let narrow = both_narrow (get_or b at 0) (get_or b (at + 1) 0) h in
        let data_byte : get_or b at 0 ≤ 0xF7 = omega (arith, narrow.0) in
        let behind : LeftAt b (4 + 2 * k + 1) (at + 1) = left_behind b (4 + 2 * k) at (first data_byte) in
        let there = left_stands b (4 + 2 * k + 1) (at + 1) behind two_more (omega (arith, narrow.1)) in
        let two : at + 1 + 1 ≡ at + 2 = omega arith in
        rw two at (packed_on data_byte narrow.0 (at + 1) there narrow.1)

  -- All of them.
  pub gathered : (o : List ℕ) (at k : ℕ) → Underway sent b o₀ o at k → length o₀ ≤ k → PacksTo sent o None
  gathered o at k u l =
      let all : k ≡ length o₀ = omega (arith, u.copied.0) in
      let whole : passed sent k ≡ pack sent = ap pack (take_all (2 * k) sent (omega (arith, long))) in
      let ends : length o₀ ≤ length (passed sent k) = omega (arith, ap length whole, length_pack sent, long) in
      let none_wide = u.narrow ∙ wide_end sent (2 * k) (omega (arith, long)) in
      record {
        first = rw none_wide;
        packed = λ _. u.copied.2 ∙ rw (drop_of_length-le o₀ ends, append-nil, whole);
      }
