-- The rule of a table, and which of its fields have a sign: one test each, computed over its rows, and what it says at each. A range that is stored from the least byte up, or through
-- 255 to 0, is one from the least value to the greatest: in a signed field the least byte is 80H or above and the greatest below.
use Rattle.std.proofs.Common.{◌≡◌, ℕ, suc, ◌+◌, ◌-◌, ◌*◌, ◌<◌, ◌≤◌, Bool, true, false, cond, not, ◌&&◌, T, eqb, ltb, leb, [], length, ℤ, pos, negsuc, refl, ap, arith, eqb→eq, ltb→lt, leb→le, ltb-false, ltb-true, le-ltb, lt-ltb, le-leb}
use lib.ListN.{get_or-eq_default}
use borrow.Author.Tests.{lt-leb}
use lib.Signed.{le_z}
use Rattle.ranges.specs.Ranges.{Table, place_in, least_in, greatest_in, between, in_row, signed_in, value_in}
use Rattle.ranges.specs.Values.{plus, minus, value_of, value_by, from_to}
use Rattle.ranges.specs.promises.Tables.{TableRule, Signs, Goes}
use Rattle.ranges.proofs.Below.{parts, each, at}
use Rattle.ranges.proofs.Between.{is_byte}

-- From the least byte up.
plain_range : (l g b : ℕ) → l ≤ g → b < 256 → between l g b ≡ from_to (plus l) (plus g) (plus b)
unfolding between
plain_range l g b h hb = simp (lt-ltb b 256 hb, le-leb l g h)

-- What a byte lacks to 256, below zero.
pub lacking : (b : ℕ) → b < 256 → minus (256 - b) ≡ negsuc (255 - b)
lacking b h = let e : 256 - b ≡ suc (255 - b) = omega arith in rw e

-- Through 255 to 0.
signed_range : (l g b : ℕ) → g < 0x80 → 0x80 ≤ l → l < 256 → b < 256 → between l g b ≡ from_to (value_of l) (value_of g) (value_of b)
unfolding between value_of
signed_range l g b hg hl sl hb = go (ltb b 0x80) (ltb b l) refl refl
  where
    go : (t u : Bool) → ltb b 0x80 ≡ t → ltb b l ≡ u → between l g b ≡ from_to (value_of l) (value_of g) (value_of b)
    go true u q r =
        let a = ltb-true b 0x80 q in
        simp (lt-ltb b 256 hb, lt-leb l g (omega arith), lt-leb l b (omega arith), q, le-ltb l 0x80 hl, lt-ltb g 0x80 hg, lacking l sl)
    go false true q r =
        let a = ltb-false b 0x80 q in
        let c = ltb-true b l r in
        simp (
          lt-ltb b 256 hb,
          lt-leb l g (omega arith),
          lt-leb l b c,
          lt-leb b g (omega arith),
          q,
          le-ltb l 0x80 hl,
          lt-ltb g 0x80 hg,
          lacking b hb,
          lacking l sl,
          lt-leb (255 - b) (255 - l) (omega arith),
        )
    go false false q r =
        let c = ltb-false b l r in
        simp (
          lt-ltb b 256 hb,
          lt-leb l g (omega arith),
          le-leb l b c,
          q,
          le-ltb l 0x80 hl,
          lt-ltb g 0x80 hg,
          lacking b hb,
          lacking l sl,
          le-leb (255 - b) (255 - l) (omega arith),
        )

-- Two values are the same.
abbrev same : ℤ → ℤ → Bool
same (pos a) (pos b) = eqb a b
same (pos a) (negsuc b) = false
same (negsuc a) (pos b) = false
same (negsuc a) (negsuc b) = eqb a b

is_same : (v w : ℤ) → T (same v w) → v ≡ w
is_same (pos a) (pos b) t = ap pos (eqb→eq a b t)
is_same (pos a) (negsuc b) t = absurd t
is_same (negsuc a) (pos b) t = absurd t
is_same (negsuc a) (negsuc b) t = ap negsuc (eqb→eq a b t)

-- Two tests that agree.
abbrev agree : Bool → Bool → Bool
agree true b = b
agree false b = not b

agreed : (a b : Bool) → T (agree a b) → a ≡ b
agreed true true t = refl
agreed true false t = absurd t
agreed false true t = absurd t
agreed false false t = refl

module _ (t : Table) where
  abbrev bytes_right : ℕ → Bool
  bytes_right k = ltb (least_in t k) 256 && ltb (greatest_in t k) 256

  abbrev sign_right : Bool → ℕ → Bool
  sign_right signed k = cond signed (ltb (greatest_in t k) 0x80 && leb 0x80 (least_in t k)) true

  -- A row that is right: its own place, two bytes, and in a signed field the greatest below 80H and the least not.
  abbrev row_right : ℕ → Bool
  row_right k = eqb (place_in t k) k && (bytes_right k && sign_right (signed_in t k) k)

  abbrev pub right : Bool
  right = each row_right (length t)

  module _ (r : T right) where
    row_of : (k : ℕ) → k < length t → T (eqb (place_in t k) k) × T (bytes_right k) × T (sign_right (signed_in t k) k)
    row_of k h =
        let a = parts (eqb (place_in t k) k) (bytes_right k && sign_right (signed_in t k) k) (at row_right (length t) r k h) in
        let b = parts (bytes_right k) (sign_right (signed_in t k) k) a.1 in
        (a.0, b.0, b.1)

    -- Past the table there is nothing but 0.
    bounds : (k : ℕ) → (least_in t k < 256) × (greatest_in t k < 256)
    bounds k = go (ltb k (length t)) refl
      where
        go : (u : Bool) → ltb k (length t) ≡ u → (least_in t k < 256) × (greatest_in t k < 256)
        go true q =
            let b = parts (ltb (least_in t k) 256) (ltb (greatest_in t k) 256) (row_of k (ltb-true k (length t) q)).1 in
            (ltb→lt _ _ b.0, ltb→lt _ _ b.1)
        go false q = rw (get_or-eq_default t [] (ltb-false k (length t) q)) (omega arith, omega arith)

    -- Bounds of a signed field.
    signed_bounds : (k : ℕ) → T (sign_right true k) → (greatest_in t k < 0x80) × (0x80 ≤ least_in t k)
    signed_bounds k s =
        let a = parts (ltb (greatest_in t k) 0x80) (leb 0x80 (least_in t k)) s in
        (ltb→lt _ _ a.0, leb→le _ _ a.1)

    with_sign : (k b : ℕ) → k < length t → b < 256 → in_row t k b ≡ from_to (value_in t k (least_in t k)) (value_in t k (greatest_in t k)) (value_in t k b)
    unfolding in_row value_by
    with_sign k b h hb = go (signed_in t k) refl (row_of k h).2
      where
        go : (u : Bool) → signed_in t k ≡ u → T (sign_right u k)
            → between (least_in t k) (greatest_in t k) b
            ≡ from_to (cond u (value_of (least_in t k)) (plus (least_in t k))) (cond u (value_of (greatest_in t k)) (plus (greatest_in t k)))
            (cond u (value_of b) (plus b))
        go true q s = let a = signed_bounds k s in signed_range (least_in t k) (greatest_in t k) b a.0 a.1 (bounds k).0 hb
        go false q s = plain_range (least_in t k) (greatest_in t k) b (ltb-false (greatest_in t k) (least_in t k) q) hb

    ordered : (k : ℕ) → k < length t → le_z (value_in t k (least_in t k)) (value_in t k (greatest_in t k)) ≡ true
    unfolding value_by value_of
    ordered k h = go (signed_in t k) refl (row_of k h).2
      where
        go : (u : Bool) → signed_in t k ≡ u → T (sign_right u k)
            → le_z (cond u (value_of (least_in t k)) (plus (least_in t k))) (cond u (value_of (greatest_in t k)) (plus (greatest_in t k))) ≡ true
        go true q s =
            let a = signed_bounds k s in
            simp (le-ltb (least_in t k) 0x80 a.1, lt-ltb (greatest_in t k) 0x80 a.0, lacking (least_in t k) (bounds k).0)
        go false q s = le-leb _ _ (ltb-false (greatest_in t k) (least_in t k) q)

    -- A table whose rows are right keeps the rule.
    pub table_rule : TableRule t
    unfolding in_row
    table_rule = record {
      place = λ k h. eqb→eq (place_in t k) k (row_of k h).0;
      bytes = bounds;
      ordered = ordered;
      with_sign = with_sign;
      accepted = λ k b e. is_byte (least_in t k) (greatest_in t k) b e;
    }

  -- The fields with a sign are those that are named.
  abbrev pub signs_right : (ℕ → Bool) → Bool
  signs_right signed = each (λ k. agree (signed_in t k) (signed k)) (length t)

  module _ (signed : ℕ → Bool) (r : T (signs_right signed)) where
    sign_held : (k : ℕ) → k < length t → signed_in t k ≡ signed k
    sign_held k h = agreed (signed_in t k) (signed k) (at (λ k. agree (signed_in t k) (signed k)) (length t) r k h)

    pub signs : Signs t signed
    unfolding value_by value_of
    signs = record {
      from_zero = λ k n h e l. rw (sign_held k h, e, lt-ltb n 0x80 l);
      below_zero = λ k n h e l u.
          let size : 256 - (256 - n) ≡ n = omega arith in
          rw (sign_held k h, e, le-ltb (256 - n) 0x80 (omega arith), size);
      without_sign = λ k b h e. rw (sign_held k h, e);
    }

  abbrev goes : ℤ → ℤ → ℕ → Bool
  goes least greatest k = same (value_in t k (least_in t k)) least && same (value_in t k (greatest_in t k)) greatest

  goes_so : (least greatest : ℤ) (k : ℕ) → T (goes least greatest k) → Goes t k least greatest
  goes_so least greatest k u =
      let both = parts (same (value_in t k (least_in t k)) least) _ u in
      (is_same (value_in t k (least_in t k)) least both.0, is_same (value_in t k (greatest_in t k)) greatest both.1)

  -- Places that lie d apart from place a on: one test of the n of them.
  pub each_goes : (least greatest : ℤ) (a d n : ℕ) → T (each (λ i. goes least greatest (a + d * i)) n) → (i : ℕ) → i < n
      → Goes t (a + d * i) least greatest
  each_goes least greatest a d n u i h = goes_so least greatest (a + d * i) (at (λ i. goes least greatest (a + d * i)) n u i h)
