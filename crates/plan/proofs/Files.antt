-- What a file comes to, test by test; and its bytes outside the dump, one at a time.
use Rattle.std.proofs.Common.{◌≡◌, ◌∙◌, refl, Bool, true, false, cond, List, [], ◌∷◌, ℕ, ◌-◌, ◌≤◌, ◌<◌, arith, nat_lt}
use lib.Dec.{eqb, ltb}
use lib.ListN.{length, drop_of_length-le}
use lib.Seq.{take-nil}
use mathlib.Core.Bool.{◌&&◌}
use borrow.Author.Tests.{lt-ltb, le-ltb, ltb-true, ltb-false}
use Rattle.std.specs.List.{list_all}
use Rattle.streams.specs.Bytes.{byte_kind, is_real_time, realTime}
use Rattle.streams.specs.Stream.{between}
use Rattle.streams.proofs.Bytes.{kind_is, stays}
use Rattle.reading.specs.declared.walking.Report.{Report}
use Rattle.reading.specs.code.Told.{walked}
use Rattle.listing.specs.Listing.{most}
use Rattle.plan.specs.declared.Wrong.TheVariants.{TooLong, NoPatch, NotOne, Outside}
use Rattle.plan.specs.Files.{One, Not, is_patch_dump, only_real_time, by_second, by_first, found_in}

-- Real time is what lies above F7H.
real_time_is : (b : ℕ) → is_real_time (byte_kind b) ≡ nat_lt 247 b
real_time_is b = go (ltb 247 b) refl
  where
    go : (t : Bool) → ltb 247 b ≡ t → is_real_time (byte_kind b) ≡ t
    go true q = let k = ltb-true 247 b q in rw (kind_is realTime b k) refl
    go false q = let k = ltb-false 247 b q in stays b k

pub quiet_is : (s : List ℕ) → only_real_time s ≡ list_all (λ b. nat_lt 247 b) s
unfolding only_real_time
quiet_is [] = refl
quiet_is (b ∷ s) = rw (real_time_is b, quiet_is s) refl

module _ (s : List ℕ) (i to : ℕ) where
  pub quiet_past : length s ≤ i → only_real_time (between s i to) ≡ true
  unfolding only_real_time
  quiet_past h = rw (drop_of_length-le s h, take-nil (to - i))

  pub quiet_end : to ≤ i → only_real_time (between s i to) ≡ true
  unfolding only_real_time
  quiet_end h = let none : to - i ≡ 0 = omega arith in rw none

-- The file, by its tests in order.
module _ (s : List ℕ) where
  pub too_long : most < length s → found_in s ≡ Not TooLong
  unfolding found_in
  too_long h = rw (lt-ltb most (length s) h)

  module _ (l : length s ≤ most) where
    short : found_in s ≡ by_first s (walked s 0)
    unfolding found_in
    short = rw (le-ltb most (length s) l)

    pub no_message : (r : Report) → r ≡ walked s 0 → eqb r.outcome.answer 1 ≡ true → found_in s ≡ Not NoPatch
    no_message r e z = rw (short, ← e) (rw z)

    -- There is a first message.
    module _ (r : Report) (e : r ≡ walked s 0) (m : eqb r.outcome.answer 1 ≡ false) where
      pub first_told : is_patch_dump r.outcome ≡ false → found_in s ≡ Not (NotOne r)
      first_told d = rw (short, ← e) (rw (m, d))

      -- It is an accepted patch dump.
      module _ (d : is_patch_dump r.outcome ≡ true) (next : Report) (f : next ≡ walked s r.end) where
        first_good : found_in s ≡ by_second s r next
        first_good = rw (short, ← e, f) (rw (m, d))

        pub second_told : eqb next.outcome.answer 1 ≡ false → found_in s ≡ Not (NotOne next)
        second_told n = first_good ∙ rw n

        module _ (z : eqb next.outcome.answer 1 ≡ true) where
          pub by_quiet : (t u : Bool) → only_real_time (between s 0 r.start) ≡ t → only_real_time (between s r.end (length s)) ≡ u
              → found_in s ≡ cond (t && u) One (Not Outside)
          by_quiet t u q w = first_good ∙ rw (z, q, w)
