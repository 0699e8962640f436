-- Nibbles and packing are inverse to each other, the first wide byte is the first, and which changes of one byte a sum can miss.
-- Each law goes by the list's elements; what is left of a byte, its two nibbles and the sums is linear arithmetic.
use Rattle.std.proofs.Common.{◌≡◌, ℕ, zero, suc, ◌+◌, ◌*◌, ◌/◌, ◌%◌, ◌<◌, ◌≤◌, Bool, true, false, cond, eqb, ltb, ◌⊎◌, List, [], ◌∷◌, ◌++◌, length, get_or, take, drop, sym, refl, ap, ◌∙◌, inl, inr, ⊎_elim, append_assoc, append-nil, le_of_suc-le-suc, add-zero, add_assoc, add-one, arith, length-drop, take-append-drop, drop_of_length-le, length-take-le, drop-cons, take-suc, ltb-false, ltb-true, le-ltb, lt-ltb, eq-eqb, ne_eqb, eqb-true}
use mathlib.Core.List.{tail-eq_of_cons-eq, nil≢cons}
use mathlib.Core.Option.{none, some}
use native.Mathlib.Nat.{mod-add-mod}
use borrow.Author.Tests.{eqb-false}
use Rattle.answers.specs.Lists.{All}
use Rattle.answers.specs.Table.{outcome}
use Rattle.ranges.proofs.Between.{MovedBy}
use Rattle.nibbles.specs.promises.Inverse.{FirstWideAt, Inverse}
use Rattle.nibbles.specs.promises.Reduced.{reducing, Reduced}
use Rattle.nibbles.specs.Nibbles.{nibbles, pack, total, sum, wide_from, first_wide, packing, unpacking}

-- Nibbles and packing.

-- The nibbles of bytes are the nibbles of the first ones, then of the others.
pub nibbles_append : (p q : List ℕ) → nibbles (p ++ q) ≡ nibbles p ++ nibbles q
unfolding nibbles
nibbles_append [] q = refl
nibbles_append (b ∷ p) q = rw (nibbles_append p q)

-- There are two nibbles to a byte.
pub length_nibbles : (p : List ℕ) → length (nibbles p) ≡ 2 * length p
unfolding nibbles
length_nibbles [] = refl
length_nibbles (b ∷ p) = omega (arith, length_nibbles p)

-- There is a byte to two nibbles; one left over is none.
pub length_pack : (ns : List ℕ) → length (pack ns) ≡ length ns / 2
unfolding pack
length_pack [] = refl
length_pack (low ∷ []) = refl
length_pack (low ∷ high ∷ ns) = omega (arith, length_pack ns)

byte_back : (b : ℕ) → b % 16 + 16 * (b / 16) ≡ b
byte_back b = omega arith

-- Packing the nibbles of bytes, and what follows them, gives those bytes first.
pub pack_after_nibbles : (p r : List ℕ) → pack (nibbles p ++ r) ≡ p ++ pack r
unfolding nibbles pack
pack_after_nibbles [] r = refl
pack_after_nibbles (b ∷ p) r = rw (pack_after_nibbles p r, byte_back b)

-- Packing the nibbles of any bytes gives the bytes.
pub pack_nibbles : (p : List ℕ) → pack (nibbles p) ≡ p
unfolding nibbles pack
pack_nibbles [] = refl
pack_nibbles (b ∷ p) = rw (pack_nibbles p, byte_back b)

-- The nibbles of packed nibbles are those nibbles, where their number is even.
pub nibbles_pack : (ns : List ℕ) → length ns % 2 ≡ 0 → All (λ b. b < 16) ns → nibbles (pack ns) ≡ ns
unfolding nibbles pack
nibbles_pack [] e a = refl
nibbles_pack (low ∷ []) e a = absurd (omega arith)
nibbles_pack (low ∷ high ∷ ns) e a =
    let h = a.0 in
    let low_back : (low + 16 * high) % 16 ≡ low = omega arith in
    let high_back : (low + 16 * high) / 16 ≡ high = omega arith in
    rw (low_back, high_back, nibbles_pack ns (omega arith) a.1.1)

-- The nibbles of bytes below 256 are below 16.
pub nibbles_narrow : (p : List ℕ) → All (λ b. b < 256) p → All (λ b. b < 16) (nibbles p)
unfolding nibbles
nibbles_narrow [] a = tt
nibbles_narrow (b ∷ p) a = let h = a.0 in (omega arith, (omega arith, nibbles_narrow p a.1))

-- The first wide byte.

-- At a wide byte its index is the answer.
pub wide_here : (i b : ℕ) (bs : List ℕ) → 15 < b → wide_from i (b ∷ bs) ≡ some i
unfolding wide_from
wide_here i b bs h = rw (lt-ltb 15 b h)

-- A byte that is not wide is passed.
pub wide_next : (i b : ℕ) (bs : List ℕ) → b ≤ 15 → wide_from i (b ∷ bs) ≡ wide_from (suc i) bs
unfolding wide_from
wide_next i b bs h = rw (le-ltb 15 b h)

-- Where all bytes are below 16, none is wide.
pub not_wide : (i : ℕ) (ns : List ℕ) → All (λ b. b < 16) ns → wide_from i ns ≡ none
unfolding wide_from
not_wide i [] a = refl
not_wide i (b ∷ ns) a = wide_next i b ns (le_of_suc-le-suc a.0) ∙ not_wide (suc i) ns a.1

-- Behind bytes below 16 a wide one is the first.
pub wide_behind : (i : ℕ) (ns : List ℕ) (b : ℕ) (bs : List ℕ) → All (λ b. b < 16) ns → 15 < b → wide_from i (ns ++ b ∷ bs) ≡ some (i + length ns)
wide_behind i [] b bs a h = rw (add-zero i) (wide_here i b bs h)
wide_behind i (n ∷ ns) b bs a h =
    let next : suc i + length ns ≡ i + suc (length ns) = omega arith in
    wide_next i n (ns ++ b ∷ bs) (le_of_suc-le-suc a.0) ∙ wide_behind (suc i) ns b bs a.1 h ∙ ap some next

-- Where none is wide, all are below 16.
pub wide_none : (i : ℕ) (ns : List ℕ) → wide_from i ns ≡ none → All (λ b. b < 16) ns
unfolding wide_from
wide_none i [] e = tt
wide_none i (b ∷ ns) e = by (ltb 15 b) refl e (wide_none (suc i) ns)
  where
    by : (t : Bool) → ltb 15 b ≡ t → cond t (some i) (wide_from (suc i) ns) ≡ none → (wide_from (suc i) ns ≡ none → All (λ b. b < 16) ns)
        → All (λ b. b < 16) (b ∷ ns)
    by true q e rest = let z : ◌≡◌ {A = ℕ} 0 1 = cc in absurd (omega arith)
    by false q e rest = (omega (arith, ltb-false 15 b q), rest e)

abbrev Found : ℕ → List ℕ → ℕ → Type 0
Found k ns i = (j : ℕ) × (i ≡ k + j) × FirstWideAt ns j

found : (k : ℕ) (ns : List ℕ) (i : ℕ) → wide_from k ns ≡ some i → Found k ns i
unfolding wide_from
found k [] i e = let z : ◌≡◌ {A = ℕ} 0 1 = cc in absurd (omega arith)
found k (b ∷ ns) i e = by (ltb 15 b) refl e (found (suc k) ns i)
  where
    by : (t : Bool) → ltb 15 b ≡ t → cond t (some k) (wide_from (suc k) ns) ≡ some i → (wide_from (suc k) ns ≡ some i → Found (suc k) ns i)
        → Found k (b ∷ ns) i
    by true q e rest =
        let same : k ≡ i = cc in
        (0, omega arith, record { within = omega arith; wide = ltb-true 15 b q; narrow_before = tt })
    by false q e rest =
        let (j, at, f) = rest e in
        let w = f.within in
        (suc j, omega arith, record { within = omega arith; wide = f.wide; narrow_before = (omega (arith, ltb-false 15 b q), f.narrow_before) })

finds : (k : ℕ) (ns : List ℕ) (j : ℕ) → FirstWideAt ns j → wide_from k ns ≡ some (k + j)
finds k [] j f = let w = f.within in absurd (omega arith)
finds k (b ∷ ns) zero f =
    let none_added : k ≡ k + 0 = omega arith in
    wide_here k b ns f.wide ∙ ap some none_added
finds k (b ∷ ns) (suc j) f =
    let w = f.within in
    let moved : suc k + j ≡ k + suc j = omega arith in
    wide_next k b ns (le_of_suc-le-suc f.narrow_before.0)
    ∙ finds (suc k) ns j (record { within = le_of_suc-le-suc w; wide = f.wide; narrow_before = f.narrow_before.1 })
    ∙ ap some moved

-- The answer is i exactly when a wide byte stands at i and none before it.
first_wide_at : (ns : List ℕ) (i : ℕ) → first_wide ns ≡ some i → FirstWideAt ns i
first_wide_at ns i e =
    let (j, at, f) = found 0 ns i e in
    let same : i ≡ j = omega arith in
    rw same f

-- The sum.

-- The total of bytes is that of the first ones and that of the others.
pub total_append : (p q : List ℕ) → total (p ++ q) ≡ total p + total q
unfolding total
total_append [] q = omega arith
total_append (b ∷ p) q = omega (arith, total_append p q)

-- The sum is a data byte.
pub sum_below : (p : List ℕ) → sum p < 128
unfolding sum
sum_below p = omega arith

-- What is reduced at each step is reduced at the end.
at_the_end : (m s : ℕ) (bytes : List ℕ) → reducing m (s % m) bytes ≡ (s + total bytes) % m
unfolding reducing total
at_the_end m s [] = rw (add-zero s)
at_the_end m s (b ∷ bytes) = rw (mod-add-mod s m b, at_the_end m (s + b) bytes, add_assoc s b (total bytes))

in_a_byte : (s : ℕ) (bytes : List ℕ) → s < 256 → reducing 256 s bytes < 256
unfolding reducing
in_a_byte s [] h = h
in_a_byte s (b ∷ bytes) h = in_a_byte ((s + b) % 256) bytes (omega arith)

by_128 : (bytes : List ℕ) → reducing 128 0 bytes ≡ sum bytes
unfolding sum
by_128 bytes = omega (arith, at_the_end 128 0 bytes)

by_256 : (bytes : List ℕ) → reducing 256 0 bytes % 128 ≡ sum bytes
unfolding sum
by_256 bytes = omega (arith, at_the_end 256 0 bytes)

pub reduced : Reduced
reduced = record {
  at_the_end = at_the_end;
  by_128 = by_128;
  in_a_byte = in_a_byte;
  by_256 = by_256;
}

pub inverse : Inverse
inverse = record {
  packed_again = pack_nibbles;
  sent_again = nibbles_pack;
  narrow = nibbles_narrow;
  sum_below = sum_below;
  first_is_wide = λ ns i. (first_wide_at ns i, λ f. finds 0 ns i f ∙ ap some (omega arith));
  none_wide = λ ns. (wide_none _ ns, not_wide _ ns);
}

-- A low and a high nibble changed under a sum that stayed: the low one did not change, the high one not or by 8.
pub record Missed (l h l' h' : ℕ) : Type 0 where
  pub low : l' ≡ l
  pub high : (h' ≡ h) ⊎ MovedBy 8 h h'

pub missed : (t l h l' h' : ℕ) → l < 16 → h < 16 → l' < 16 → h' < 16 → (t + (l + 16 * h)) % 128 ≡ (t + (l' + 16 * h')) % 128 → Missed l h l' h'
missed t l h l' h' n₁ n₂ n₃ n₄ e = record { low = omega arith; high = by (eqb h' h) (ltb h' h) refl refl }
  where
    by : (u v : Bool) → eqb h' h ≡ u → ltb h' h ≡ v → (h' ≡ h) ⊎ MovedBy 8 h h'
    by true v q r = inl (eqb-true h' h q)
    by false true q r = let other = eqb-false h' h q in let less = ltb-true h' h r in inr (inr (omega arith))
    by false false q r = let other = eqb-false h' h q in let more = ltb-false h' h r in inr (inl (omega arith))

-- Such nibbles have the same sum.
pub sums_alike : (t l h l' h' : ℕ) → Missed l h l' h' → (t + (l + 16 * h)) % 128 ≡ (t + (l' + 16 * h')) % 128
sums_alike t l h l' h' m =
    let low = m.low in
    ⊎_elim (λ e. omega arith) (λ (w : MovedBy 8 h h'). ⊎_elim (λ e. omega arith) (λ e. omega arith) w) m.high

-- A high nibble h and a sum s that change places under a sum that fits are equal: 17 times their difference would be a multiple of 128.
pub sums_exchanged : (t l h s : ℕ) → h < 16 → s < 16 → s ≡ (t + (l + 16 * h)) % 128 → h ≡ (t + (l + 16 * s)) % 128 → h ≡ s
sums_exchanged t l h s n₁ n₂ was is = by (ltb h s) (ltb s h) refl refl
  where
    q₁ : ℕ
    q₁ = (t + (l + 16 * h)) / 128

    q₂ : ℕ
    q₂ = (t + (l + 16 * s)) / 128

    multiple : 17 * s + 128 * q₁ ≡ 17 * h + 128 * q₂
    multiple = omega arith

    by : (u v : Bool) → ltb h s ≡ u → ltb s h ≡ v → h ≡ s
    by true v q r = let less = ltb-true h s q in let one : q₂ ≡ q₁ + 1 = omega (arith, multiple) in absurd (omega (arith, multiple))
    by false true q r = let less = ltb-true s h r in let one : q₁ ≡ q₂ + 1 = omega (arith, multiple) in absurd (omega (arith, multiple))
    by false false q r = omega (arith, ltb-false h s q, ltb-false s h r)

-- The sum of packed bytes around one of them.
pub sum_around : (p₁ : List ℕ) (b : ℕ) (p₂ : List ℕ) → sum (p₁ ++ b ∷ p₂) ≡ (total p₁ + total p₂ + b) % 128
unfolding sum total
sum_around p₁ b p₂ = omega (arith, total_append p₁ (b ∷ p₂))

-- Places in nibbles with their sum.

-- The packed bytes where two nibbles of one of them are x and y.
pub pack_pair : (p₁ p₂ : List ℕ) (x y : ℕ) → pack (nibbles p₁ ++ (x ∷ y ∷ nibbles p₂)) ≡ p₁ ++ (x + 16 * y) ∷ p₂
unfolding pack
pack_pair p₁ p₂ x y = rw (pack_after_nibbles p₁ (x ∷ y ∷ nibbles p₂), pack_nibbles p₂)

-- The packed bytes where the high nibble of one is x and the low nibble of the next is y.
pub pack_across : (p₁ p₂ : List ℕ) (l x y h : ℕ) → pack (nibbles p₁ ++ (l ∷ x ∷ y ∷ h ∷ nibbles p₂)) ≡ p₁ ++ (l + 16 * x) ∷ (y + 16 * h) ∷ p₂
unfolding pack
pack_across p₁ p₂ l x y h = rw (pack_after_nibbles p₁ (l ∷ x ∷ y ∷ h ∷ nibbles p₂), pack_nibbles p₂)

-- A byte x, with u before it and v behind it, in the nibbles of p and then s: the low or the high nibble of a byte of p, or s.
pub data Position (p : List ℕ) (s : ℕ) (u : List ℕ) (x : ℕ) (v : List ℕ) : Type 0 where
  at_low : (p₁ : List ℕ) (b : ℕ) (p₂ : List ℕ) → p ≡ p₁ ++ b ∷ p₂
      → u ≡ nibbles p₁ → x ≡ b % 16 → v ≡ (b / 16) ∷ (nibbles p₂ ++ (s ∷ [])) → Position p s u x v
  at_high : (p₁ : List ℕ) (b : ℕ) (p₂ : List ℕ) → p ≡ p₁ ++ b ∷ p₂
      → u ≡ nibbles p₁ ++ ((b % 16) ∷ []) → x ≡ b / 16 → v ≡ nibbles p₂ ++ (s ∷ []) → Position p s u x v
  at_sum : u ≡ nibbles p → x ≡ s → v ≡ [] → Position p s u x v

pub no_tail : (u : List ℕ) (x : ℕ) (v : List ℕ) → u ++ x ∷ v ≡ [] → ⊥
no_tail [] x v e = nil≢cons (sym e)
no_tail (a ∷ u) x v e = nil≢cons (sym e)

further : (b : ℕ) {p : List ℕ} {s : ℕ} {u : List ℕ} {x : ℕ} {v : List ℕ} (l h : ℕ)
    → l ≡ b % 16 → h ≡ b / 16 → Position p s u x v → Position (b ∷ p) s (l ∷ h ∷ u) x v
unfolding nibbles
further b l h el eh (at_low p₁ c p₂ e₀ e₁ e₂ e₃) = at_low (b ∷ p₁) c p₂ (cc) (cc) e₂ e₃
further b l h el eh (at_high p₁ c p₂ e₀ e₁ e₂ e₃) = at_high (b ∷ p₁) c p₂ (cc) (cc) e₂ e₃
further b l h el eh (at_sum e₁ e₂ e₃) = at_sum (cc) e₂ e₃

-- Every place in the nibbles and their sum is one of the three.
pub position : (p : List ℕ) (s : ℕ) (u : List ℕ) (x : ℕ) (v : List ℕ) → u ++ x ∷ v ≡ nibbles p ++ (s ∷ []) → Position p s u x v
unfolding nibbles
position [] s [] x v e = at_sum refl (cc) (cc)
position [] s (a ∷ u) x v e = absurd (no_tail u x v (tail-eq_of_cons-eq e))
position (b ∷ p) s [] x v e = at_low [] b p refl refl (cc) (cc)
position (b ∷ p) s (a ∷ []) x v e = at_high [] b p refl (cc) (cc) (cc)
position (b ∷ p) s (a ∷ a' ∷ u) x v e = further b a a' (cc) (cc) (position p s u x v (cc))

-- Two neighbours a and b, with u before them and v behind them, in the nibbles of p and then s: the two nibbles of a byte, the high one of a
-- byte and the low one of the next, or the last nibble and s.
pub data Neighbours (p : List ℕ) (s : ℕ) (u : List ℕ) (a b : ℕ) (v : List ℕ) : Type 0 where
  within : (p₁ : List ℕ) (c : ℕ) (p₂ : List ℕ) → p ≡ p₁ ++ c ∷ p₂
      → u ≡ nibbles p₁ → a ≡ c % 16 → b ≡ c / 16 → v ≡ nibbles p₂ ++ (s ∷ []) → Neighbours p s u a b v
  across : (p₁ : List ℕ) (c c' : ℕ) (p₂ : List ℕ) → p ≡ p₁ ++ c ∷ c' ∷ p₂
      → u ≡ nibbles p₁ ++ ((c % 16) ∷ []) → a ≡ c / 16 → b ≡ c' % 16 → v ≡ (c' / 16) ∷ (nibbles p₂ ++ (s ∷ [])) → Neighbours p s u a b v
  at_end : (p₁ : List ℕ) (c : ℕ) → p ≡ p₁ ++ c ∷ [] → u ≡ nibbles p₁ ++ ((c % 16) ∷ []) → a ≡ c / 16 → b ≡ s → v ≡ [] → Neighbours p s u a b v

pub neighbours : (p : List ℕ) (s : ℕ) (u : List ℕ) (a b : ℕ) (v : List ℕ) → u ++ a ∷ b ∷ v ≡ nibbles p ++ (s ∷ []) → Neighbours p s u a b v
unfolding nibbles
neighbours p s u a b v e = go (position p s u a (b ∷ v) e)
  where
    go : Position p s u a (b ∷ v) → Neighbours p s u a b v
    go (at_low p₁ c p₂ e₀ e₁ e₂ e₃) = within p₁ c p₂ e₀ e₁ e₂ (cc) (cc)
    go (at_high p₁ c [] e₀ e₁ e₂ e₃) = at_end p₁ c e₀ e₁ e₂ (cc) (cc)
    go (at_high p₁ c (c' ∷ p₂) e₀ e₁ e₂ e₃) = across p₁ c c' p₂ e₀ e₁ e₂ (cc) (cc)
    go (at_sum e₁ e₂ e₃) = absurd (nil≢cons (sym e₃))

-- What packing and unpacking give, case by case.

-- Nibbles that do not fit are refused by 13.
pub unpacking_short : (bytes out : List ℕ) → length out < 2 * length bytes → unpacking bytes out ≡ record { result = outcome 13 0; lent = out }
unfolding unpacking
unpacking_short bytes out h = rw (length_nibbles bytes, lt-ltb (length out) (2 * length bytes) h)

-- Nibbles that fit are written, and the bytes behind them kept.
pub unpacking_done : (bytes out : List ℕ) → 2 * length bytes ≤ length out
    → unpacking bytes out ≡ record { result = outcome 0 (2 * length bytes); lent = nibbles bytes ++ drop (2 * length bytes) out }
unfolding unpacking
unpacking_done bytes out h = rw (length_nibbles bytes, le-ltb (length out) (2 * length bytes) h)

-- An odd number of nibbles is refused by 7.
pub packing_odd : (ns out : List ℕ) → length ns % 2 ≡ 1 → packing ns out ≡ record { result = outcome 7 0; lent = out }
unfolding packing
packing_odd ns out odd = rw (eq-eqb (length ns % 2) 1 odd)

-- Then a byte above 15 by 9, with its index.
pub packing_wide : (ns out : List ℕ) (i : ℕ) → (length ns % 2 ≡ 1 → ⊥) → first_wide ns ≡ some i
    → packing ns out ≡ record { result = outcome 9 i; lent = out }
unfolding packing
packing_wide ns out i even wide = rw (ne_eqb (length ns % 2) 1 even, wide)

-- Then packed bytes that do not fit by 13.
pub packing_short : (ns out : List ℕ) → (length ns % 2 ≡ 1 → ⊥) → first_wide ns ≡ none → length out < length ns / 2
    → packing ns out ≡ record { result = outcome 13 0; lent = out }
unfolding packing
packing_short ns out even narrow h = rw (ne_eqb (length ns % 2) 1 even, narrow, length_pack ns, lt-ltb (length out) (length ns / 2) h)

-- Packed bytes that fit are written, and the bytes behind them kept.
pub packing_done : (ns out : List ℕ) → (length ns % 2 ≡ 1 → ⊥) → first_wide ns ≡ none → length ns / 2 ≤ length out
    → packing ns out ≡ record { result = outcome 0 (length ns / 2); lent = pack ns ++ drop (length ns / 2) out }
unfolding packing
packing_done ns out even narrow h = rw (ne_eqb (length ns % 2) 1 even, narrow, length_pack ns, le-ltb (length out) (length ns / 2) h)

-- What a loop over the bytes needs.

-- The sum from i on takes in the byte at i, and behind the last byte it is made.
pub reducing_drop : (m t : ℕ) (s : List ℕ) (i : ℕ) → i < length s → reducing m t (drop i s) ≡ reducing m ((t + get_or s i 0) % m) (drop (i + 1) s)
unfolding reducing
reducing_drop m t s i h = rw (drop-cons s i 0 h) (simp add-one)

pub reducing_end : (m t : ℕ) (s : List ℕ) (i : ℕ) → length s ≤ i → reducing m t (drop i s) ≡ t
unfolding reducing
reducing_end m t s i h = rw (drop_of_length-le s h)

-- One byte more gives two nibbles more.
pub nibbles_take : (s : List ℕ) (i : ℕ) → i < length s
    → nibbles (take (i + 1) s) ≡ nibbles (take i s) ++ ((get_or s i 0 % 16) ∷ (get_or s i 0 / 16) ∷ [])
unfolding nibbles
nibbles_take s i h = rw (add-one, take-suc s i 0 h, nibbles_append)

-- Packing goes on behind an even number of nibbles.
pub pack_append : (u v : List ℕ) → length u % 2 ≡ 0 → pack (u ++ v) ≡ pack u ++ pack v
unfolding pack
pack_append [] v e = refl
pack_append (low ∷ []) v e = absurd (omega arith)
pack_append (low ∷ high ∷ u) v e = rw (pack_append u v (omega arith))

pack_single : (s : List ℕ) → length s < 2 → pack s ≡ []
unfolding pack
pack_single [] h = refl
pack_single (x ∷ []) h = refl
pack_single (x ∷ y ∷ s) h = absurd (omega arith)

-- Two nibbles more give one packed byte more.
pub pack_take : (s : List ℕ) (i : ℕ) → 2 * i + 1 < length s
    → pack (take (2 * (i + 1)) s) ≡ pack (take (2 * i) s) ++ ((get_or s (2 * i) 0 + 16 * get_or s (2 * i + 1) 0) ∷ [])
unfolding pack
pack_take s i h =
    let twice : 2 * (i + 1) ≡ suc (suc (2 * i)) = omega arith in
    let one : suc (2 * i) ≡ 2 * i + 1 = omega arith in
    let even : length (take (2 * i) s) % 2 ≡ 0 = omega (arith, length-take-le (2 * i) s (omega arith)) in
    rw (twice, take-suc s (suc (2 * i)) 0 (omega arith), take-suc s (2 * i) 0 (omega arith), one, append_assoc, pack_append (take (2 * i) s) _ even)

-- The pairs are all that is packed.
pub pack_whole : (s : List ℕ) → pack (take (2 * (length s / 2)) s) ≡ pack s
pack_whole s =
    let n = 2 * (length s / 2) in
    let even : length (take n s) % 2 ≡ 0 = omega (arith, length-take-le n s (omega arith)) in
    let rest : pack (drop n s) ≡ [] = pack_single (drop n s) (simp length-drop (omega arith)) in
    let parts = pack_append (take n s) (drop n s) even in
    sym (rw (take-append-drop n s, rest, append-nil) at parts)
