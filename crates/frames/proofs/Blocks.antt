-- Blocks of bytes one after the other: what each byte of some blocks and of one more has, all of theirs have; and what that leaves to
-- count of a message's body.
use Rattle.std.proofs.Common.{◌≡◌, ℕ, zero, suc, ◌+◌, ◌*◌, ◌/◌, ◌<◌, ◌≤◌, List, [], ◌∷◌, length, get_or, take, drop, refl, ap, ◌∙◌, add-zero, cond, eqb, drop_of_length-le, arith, lt_of_not-le, get_or-take, length-take, length-drop, drop-drop, take-add}
use native.Mathlib.Decide.{dec_le}
use Rattle.std.specs.List.{All}
use Rattle.std.specs.Simd.{first_chunks}
use Rattle.std.proofs.Math.Nat.{mul-div-le, mul-le-mul_left}
use Rattle.std.proofs.lemmas.List.{take_more, take-take}
use Rattle.std.proofs.lemmas.List.Elements.{All-append, All-get_or, All-take, All-head, All-tail, All-weaker}
use Rattle.streams.specs.Bytes.{body, real_time_in}
use Rattle.streams.proofs.Bytes.{goes_on, body_on}
use Rattle.streams.proofs.Noise.{noise_none, noise_one, noise_more, noise_other, noise_append}
use Rattle.frames.specs.declared.Span.{Span}
use Rattle.frames.specs.declared.Ending.{Ending}
use Rattle.frames.specs.declared.Ending.TheVariants.{Whole, Interrupted, Cut}
use Rattle.frames.specs.code.Extent.{span_of, ending_of}
use Rattle.frames.specs.code.Blocks.{Goes, Onward}
use Rattle.frames.proofs.Extent.{split, body_goes, body_ended, body_end}

length-first_chunks : (n k : ℕ) (s : List ℕ) → length (first_chunks n k s) ≡ k
length-first_chunks n zero s = refl
length-first_chunks n (suc k) s = ap suc (length-first_chunks n k (drop n s))

-- The block at an index.
block_at : (n k i : ℕ) (s : List ℕ) → i < k → get_or (first_chunks n k s) i [] ≡ take n (drop (n * i) s)
block_at n zero i s h = absurd (omega arith)
block_at n (suc k) zero s h = let z : n * 0 ≡ 0 = omega arith in rw z
block_at n (suc k) (suc i) s h =
    let e : n + n * i ≡ n * suc i = omega arith in block_at n k i (drop n s) (omega arith) ∙ rw (drop-drop (n * i) n s, e)

pub block_is : (n k i : ℕ) (s : List ℕ) (blocks : List (List ℕ)) → blocks ≡ first_chunks n k s → i < length blocks
    → get_or blocks i [] ≡ take n (drop (n * i) s)
block_is n k i s blocks e h =
    ap (λ (l : List (List ℕ)). get_or l i []) e ∙ block_at n k i s (omega (arith, ap length e, length-first_chunks n k s))

-- What holds of each byte of the first blocks and of one more.
pub block_more : (P : ℕ → Type 0) (n k i : ℕ) (s : List ℕ) (blocks : List (List ℕ)) → blocks ≡ first_chunks n k s → i < length blocks
    → All P (take (n * i) s) → All P (get_or blocks i []) → All P (take (n * (i + 1)) s)
block_more P n k i s blocks e h before here =
    let block = block_is n k i s blocks e h in
    let next : n * i + n ≡ n * (i + 1) = omega arith in
    rw (← next, take-add) (All-append P (take (n * i) s) (take n (drop (n * i) s)) before (rw block at here))

-- Bytes over which the message goes on leave its body to what stands behind them, and the real time among them is counted.
pub onward_past : (s : List ℕ) (n : ℕ) → n ≤ length s → All Goes (take n s) → Onward s n (real_time_in (take n s))
onward_past s zero h a = rw noise_none (record { within = omega arith; fewer = omega arith; counted = omega arith; heard = omega arith })
onward_past [] (suc n) h a = absurd (omega arith)
onward_past (b ∷ s) (suc n) h a =
    let goes : Goes b = All-head Goes b (take n s) a in
    let o = onward_past s n (omega arith) (All-tail Goes b (take n s) a) in
    let e : body (b ∷ s) ≡ b ∷ body s = body_on b s (goes_on b (λ k l. goes (k, l))) in
    let all = ap real_time_in e ∙ noise_append (b ∷ []) (body s) in
    record {
      within = omega arith;
      fewer = omega (arith, o.fewer, noise_one b, noise_append (b ∷ []) (take n s));
      counted = omega (arith, o.counted, ap length e);
      heard = omega (arith, o.heard, all, noise_append (b ∷ []) (take n s));
    }

-- Data bytes are no real time.
quiet : (s : List ℕ) → All (λ b. b < 0x80) s → real_time_in s ≡ 0
quiet [] a = noise_none
quiet (b ∷ s) a =
    let low : b < 0x80 = All-head (λ x. x < 0x80) b s a in noise_other b s (omega arith) ∙ quiet s (All-tail (λ x. x < 0x80) b s a)

pub onward_quiet : (s : List ℕ) (n : ℕ) → n ≤ length s → All (λ b. b < 0x80) (take n s) → Onward s n 0
onward_quiet s n h a =
    let none = quiet (take n s) a in
    let goes = All-weaker (λ b. b < 0x80) Goes (λ b low e. omega (arith, low, e.0)) (take n s) a in
    rw none at (onward_past s n h goes)

-- First some bytes, then some of what is left.
pub onward_then : (s : List ℕ) (i j m n : ℕ) → Onward s i m → Onward (drop i s) j n → Onward s (i + j) (m + n)
onward_then s i j m n o p =
    let same : drop j (drop i s) ≡ drop (i + j) s = drop-drop j i s in
    record {
      within = omega (arith, o.within, p.within, length-drop i s);
      fewer = omega (arith, o.fewer, p.fewer);
      counted = omega (arith, o.counted, p.counted, ap (λ (t : List ℕ). length (body t)) same);
      heard = omega (arith, o.heard, p.heard, ap (λ (t : List ℕ). real_time_in (body t)) same);
    }

-- One block more.
pub onward_block : (n i : ℕ) (s : List ℕ) (blocks : List (List ℕ)) (m k : ℕ) → blocks ≡ first_chunks n (length s / n) s → i < length blocks
    → Onward s (n * i) m → All Goes (get_or blocks i []) → k ≡ real_time_in (get_or blocks i []) → Onward s (n * (i + 1)) (m + k)
onward_block n i s blocks m k e h o goes heard =
    let b = block_is n (length s / n) i s blocks e h in
    let next : n * i + n ≡ n * (i + 1) = omega arith in
    let within : i + 1 ≤ length s / n = omega (arith, ap length e, length-first_chunks n (length s / n) s) in
    let t = drop (n * i) s in
    let room : n ≤ length t = omega (arith, mul-le-mul_left n within, mul-div-le (length s) n, length-drop (n * i) s) in
    rw (← next, heard, b) (onward_then s (n * i) n m (real_time_in (take n t)) o (onward_past t n room (rw b at goes)))

-- One byte more, a data byte or real time; and the span where nothing is left of the body.
module _ (s : List ℕ) where
  onward_on : (i n : ℕ) → i < length s → Goes (get_or s i 0) → Onward s i n → Onward s (i + 1) (n + real_time_in (get_or s i 0 ∷ []))
  onward_on i n h goes o =
      let b = get_or s i 0 in
      let t = body (drop (i + 1) s) in
      let e = body_goes s i h goes in
      record {
        within = omega arith;
        fewer = omega (arith, o.fewer, noise_one b);
        counted = omega (arith, o.counted, ap length e);
        heard = omega (arith, o.heard, ap real_time_in e, noise_append (b ∷ []) t);
      }

  pub onward_data : (i n : ℕ) → i < length s → get_or s i 0 ≤ 0x7F → Onward s i n → Onward s (i + 1) n
  onward_data i n h low o =
      let none = noise_other (get_or s i 0) [] (omega arith) ∙ noise_none in
      rw (none, add-zero n) at (onward_on i n h (λ e. omega (arith, e.0, low)) o)

  pub onward_noise : (i n : ℕ) → i < length s → 0xF7 < get_or s i 0 → Onward s i n → Onward s (i + 1) (n + 1)
  onward_noise i n h high o =
      let one = noise_more (get_or s i 0) [] high ∙ ap suc noise_none in
      rw one at (onward_on i n h (λ e. omega (arith, e.1)) o)

  left : (i n : ℕ) (e : Ending) → Onward s i n → body (drop i s) ≡ [] → ending_of (drop i s) ≡ e
      → ◌≡◌ {A = Span} (record { length = i; noise = n; ending = e }) (span_of s)
  unfolding span_of
  left i n e o none end =
      let l : length (body s) ≡ i = omega (arith, o.counted, ap length none) in
      let k : real_time_in (body s) ≡ n = omega (arith, o.heard, ap real_time_in none ∙ noise_none) in
      rw (l, k, end)

  pub span_ends : (i n : ℕ) (e : Ending) → Onward s i n → i < length s → 0x7F < get_or s i 0 → get_or s i 0 ≤ 0xF7
      → e ≡ cond (eqb (get_or s i 0) 0xF7) Whole Interrupted → ◌≡◌ {A = Span} (record { length = i; noise = n; ending = e }) (span_of s)
  span_ends i n e o h k l end = left i n e o (body_ended s i h (omega arith) l) (rw (split s i h, end))

  pub span_cut : (i n : ℕ) → Onward s i n → length s ≤ i → ◌≡◌ {A = Span} (record { length = length s; noise = n; ending = Cut }) (span_of s)
  span_cut i n o h =
      let whole : i ≡ length s = omega (arith, o.within) in
      rw whole at (left i n Cut o (body_end s i h) (rw (drop_of_length-le s h)))

-- What holds of the first bytes and one more holds of the first.
pub all_before : (P : ℕ → Type 0) (s : List ℕ) (i : ℕ) → All P (take (i + 1) s) → All P (take i s)
all_before P s i a =
    let fewer : i ≤ i + 1 = omega arith in rw take-take at (All-take P i (take (i + 1) s) a)

-- One byte more of a block that goes on: 80H and above is real time, and its quotient by 128 counts it.
quotient : (b : ℕ) → b < 256 → Goes b → real_time_in (b ∷ []) ≡ b / 128
quotient b h goes = by_size (dec_le 0x80 b)
  where
    by_size : Dec (0x80 ≤ b) → real_time_in (b ∷ []) ≡ b / 128
    by_size (yes k) =
        let high : 0xF7 < b = lt_of_not-le (λ l. goes (k, l)) in
        let one : b / 128 ≡ 1 = omega arith in
        rw one (noise_more b [] high ∙ ap suc noise_none)
    by_size (no k) =
        let none : b / 128 ≡ 0 = omega (arith, k) in
        rw none (noise_other b [] (omega (arith, k)) ∙ noise_none)

pub noise_next : (s : List ℕ) (i : ℕ) → i < length s → get_or s i 0 < 256 → All Goes (take (i + 1) s)
    → real_time_in (take (i + 1) s) ≡ real_time_in (take i s) + get_or s i 0 / 128
noise_next s i h fits a =
    let last : i < i + 1 = omega arith in
    let b = get_or s i 0 in
    let here : Goes b = rw get_or-take at (All-get_or Goes (take (i + 1) s) i 0 (simp length-take (omega arith)) a) in
    ap real_time_in (take_more s i 0 h) ∙ noise_append (take i s) (b ∷ [])
    ∙ ap (λ (n : ℕ). real_time_in (take i s) + n) (quotient b fits here)
