-- The walk by counts: how many bytes stand before the first F0H, and how the message there ends.
-- The walk goes by the bytes before the F0H; the message by what stands behind its body.
use Rattle.std.proofs.Common.{◌≡◌, ℕ, suc, ◌+◌, ◌<◌, ◌≤◌, Bool, true, false, cond, eqb, List, [], ◌∷◌, length, get_or, drop, refl, ◌∙◌, add-zero, arith, length-drop, drop-drop}
use mathlib.Core.Option.{none, some}
use Rattle.answers.specs.Table.{Verdict, refused, outcome}
use Rattle.streams.specs.Bytes.{body, without_real_time, real_time_in, framed}
use Rattle.frames.specs.declared.Ending.TheVariants.{Whole, Interrupted, Cut}
use Rattle.frames.specs.code.Extent.{ahead, start_at, ending_of}
use Rattle.frames.proofs.Extent.{behind_cut, behind_whole, behind_interrupted}
use Rattle.streams.specs.Stream.{report, message_at, first_from, walk}
use Rattle.streams.proofs.Scan.{further}
use Rattle.streams.proofs.Walk.{cut_message, closed_message, interrupted_message}

module _ (judge : List ℕ → Verdict) where
  -- The walk by the count of bytes before the first F0H.
  first_none : (t : List ℕ) (p : ℕ) → length t ≤ ahead t → first_from judge p t ≡ none
  unfolding ahead first_from
  first_none [] p h = refl
  first_none (b ∷ t) p h = by_test (eqb b 0xF0) h (first_none t (suc p))
    where
      by_test : (v : Bool) → suc (length t) ≤ cond v 0 (suc (ahead t)) → (length t ≤ ahead t → first_from judge (suc p) t ≡ none)
          → cond v (some (message_at judge p t)) (first_from judge (suc p) t) ≡ none
      by_test true k i = absurd (omega arith)
      by_test false k i = i (omega arith)

  first_found : (t : List ℕ) (p : ℕ) → ahead t < length t → first_from judge p t ≡ some (message_at judge (p + ahead t) (drop (suc (ahead t)) t))
  unfolding ahead first_from
  first_found [] p h = absurd (omega arith)
  first_found (b ∷ t) p h = by_test (eqb b 0xF0) h (first_found t (suc p))
    where
      by_test : (v : Bool) → cond v 0 (suc (ahead t)) < suc (length t)
          → (ahead t < length t → first_from judge (suc p) t ≡ some (message_at judge (suc p + ahead t) (drop (suc (ahead t)) t)))
          → cond v (some (message_at judge p t)) (first_from judge (suc p) t)
          ≡ some (message_at judge (p + cond v 0 (suc (ahead t))) (drop (cond v 0 (suc (ahead t))) t))
      by_test true k i = rw (add-zero p)
      by_test false k i = rw (further p (ahead t)) (i (omega arith))

  module _ (s : List ℕ) (p : ℕ) where
    pub walk_none : length s ≤ start_at s p → walk judge s p ≡ none
    unfolding walk start_at
    walk_none h = first_none (drop p s) p (omega (arith, length-drop p s))

    pub walk_found : start_at s p < length s → walk judge s p ≡ some (message_at judge (start_at s p) (drop (suc (start_at s p)) s))
    unfolding walk start_at
    walk_found h =
        let e : p + suc (ahead (drop p s)) ≡ suc (p + ahead (drop p s)) = omega arith in
        first_found (drop p s) p (omega (arith, length-drop p s)) ∙ rw (drop-drop (suc (ahead (drop p s))) p s, e)

  -- A message by how it ends.
  module _ (f : ℕ) (t : List ℕ) where
    pub message_cut : ending_of (drop (length (body t)) t) ≡ Cut
        → message_at judge f t ≡ report f (suc f + length (body t)) (refused (outcome 2 0)) (real_time_in (body t))
    message_cut e = cut_message judge f t (behind_cut (drop (length (body t)) t) e)

    pub message_interrupted : ending_of (drop (length (body t)) t) ≡ Interrupted
        → message_at judge f t ≡ report f (suc f + length (body t)) (refused (outcome 3 0)) (real_time_in (body t))
    message_interrupted e =
        let w = drop (length (body t)) t in
        let b = behind_interrupted w e in interrupted_message judge f t (get_or w 0 0) (drop 1 w) b.0 b.1

    pub message_complete : ending_of (drop (length (body t)) t) ≡ Whole
        → message_at judge f t ≡ report f (suc (suc f + length (body t))) (judge (framed (without_real_time (body t)))) (real_time_in (body t))
    message_complete e = let w = drop (length (body t)) t in closed_message judge f t (drop 1 w) (behind_whole w e)
