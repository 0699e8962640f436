-- What the two states hand to each other: the scan from outside by the count of bytes before the first F0H, and from inside by the byte
-- that ends the message.
use Rattle.std.proofs.Common.{◌≡◌, ℕ, suc, ◌+◌, ◌<◌, ◌≤◌, Bool, true, false, cond, eqb, List, [], ◌∷◌, length, get_or, drop, refl, add-zero, arith, drop_of_length-le, eqb-true}
use borrow.Author.Tests.{eqb-false}
use Rattle.answers.specs.Table.{Verdict}
use Rattle.streams.specs.Bytes.{body}
use Rattle.frames.specs.code.Extent.{ahead}
use Rattle.streams.specs.Stream.{message_at}
use Rattle.streams.specs.code.Scan.{outside, inside, scan}
use Rattle.frames.proofs.Extent.{split}
use Rattle.streams.proofs.Scan.{further, scan_outside}
use Rattle.streams.proofs.Walk.{scan_cut, scan_closed, scan_again, scan_broken}

module _ (judge : List ℕ → Verdict) where
  -- No F0H: no report.
  pub outside_none : (t : List ℕ) (p : ℕ) → length t ≤ ahead t → scan judge p outside t ≡ []
  unfolding ahead
  outside_none [] p h = refl
  outside_none (b ∷ t) p h = rw (scan_outside judge p b t) (by_test (eqb b 0xF0) h (outside_none t (suc p)))
    where
      by_test : (v : Bool) → suc (length t) ≤ cond v 0 (suc (ahead t)) → (length t ≤ ahead t → scan judge (suc p) outside t ≡ [])
          → scan judge (suc p) (cond v (inside p [] 0) outside) t ≡ []
      by_test true k i = absurd (omega arith)
      by_test false k i = i (omega arith)

  -- The first F0H: inside the message there.
  pub outside_found : (t : List ℕ) (p : ℕ) → ahead t < length t
      → scan judge p outside t ≡ scan judge (suc (p + ahead t)) (inside (p + ahead t) [] 0) (drop (ahead t + 1) t)
  unfolding ahead
  outside_found [] p h = absurd (omega arith)
  outside_found (b ∷ t) p h = rw (scan_outside judge p b t) (by_test (eqb b 0xF0) h (outside_found t (suc p)))
    where
      by_test : (v : Bool) → cond v 0 (suc (ahead t)) < suc (length t)
          → (ahead t < length t → scan judge (suc p) outside t ≡ scan judge (suc (suc p + ahead t)) (inside (suc p + ahead t) [] 0) (drop (ahead t + 1) t))
          → scan judge (suc p) (cond v (inside p [] 0) outside) t
          ≡ scan judge (suc (p + cond v 0 (suc (ahead t)))) (inside (p + cond v 0 (suc (ahead t))) [] 0) (drop (cond v 0 (suc (ahead t)) + 1) (b ∷ t))
      by_test true k i = rw (add-zero p)
      by_test false k i =
          let e : suc (ahead t) + 1 ≡ suc (ahead t + 1) = omega arith in
          rw (e, further p (ahead t)) (i (omega arith))

  -- The byte behind the body.
  module _ (f : ℕ) (t : List ℕ) (h : length (body t) < length t) where
    behind : drop (length (body t)) t ≡ get_or t (length (body t)) 0 ∷ drop (length (body t) + 1) t
    behind = split t (length (body t)) h

    pub inside_again : get_or t (length (body t)) 0 ≡ 0xF0
        → scan judge (suc f) (inside f [] 0) t
        ≡ message_at judge f t ∷ scan judge (suc (suc f + length (body t))) (inside (suc f + length (body t)) [] 0) (drop (length (body t) + 1) t)
    inside_again e = scan_again judge f t (drop (length (body t) + 1) t) (rw e at behind)

    pub inside_left : (get_or t (length (body t)) 0 ≡ 0xF0 → ⊥)
        → scan judge (suc f) (inside f [] 0) t ≡ message_at judge f t ∷ scan judge (suc (suc f + length (body t))) outside (drop (length (body t) + 1) t)
    inside_left n = by_test (eqb (get_or t (length (body t)) 0) 0xF7) refl
      where
        by_test : (v : Bool) → eqb (get_or t (length (body t)) 0) 0xF7 ≡ v
            → scan judge (suc f) (inside f [] 0) t ≡ message_at judge f t ∷ scan judge (suc (suc f + length (body t))) outside (drop (length (body t) + 1) t)
        by_test true q = scan_closed judge f t (drop (length (body t) + 1) t) (rw (eqb-true (get_or t (length (body t)) 0) 0xF7 q) at behind)
        by_test false q =
            let b = get_or t (length (body t)) 0 in scan_broken judge f t b (drop (length (body t) + 1) t) behind n (eqb-false b 0xF7 q)

  pub inside_cut : (f : ℕ) (t : List ℕ) → length t ≤ length (body t) → scan judge (suc f) (inside f [] 0) t ≡ message_at judge f t ∷ []
  inside_cut f t h = scan_cut judge f t (drop_of_length-le t h)
