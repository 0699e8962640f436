-- A patch dump with two neighbours among its nibbles and its sum replaced or exchanged, by the row that refuses it; one byte replaced is a pair
-- of nibbles replaced, or the sum. And messages that an F0H makes of a dump's last bytes.
-- The sum misses only a high nibble that moved by 8; its byte then moved by 128, out of its range.
use mathlib.Core.Path.{◌≡◌, refl, sym, ap, ◌∙◌}
use mathlib.Core.Bool.{Bool, true, false, ◌&&◌, ◌||◌, cond}
use mathlib.Core.List.{List, [], ◌∷◌, ◌++◌, append_assoc}
use mathlib.Core.Logic.{inl, inr, ⊎_elim}
use mathlib.Core.Option.{none, some}
use Prim.Native.Nat.{ℕ, suc, ◌+◌, ◌*◌, ◌/◌, ◌%◌, ◌<◌}
use native.Mathlib.Nat.{le_of_suc-le-suc}
use native.Mathlib.Omega.{arith}
use lib.Dec.{eqb, ltb}
use lib.IntN.{ℤ}
use lib.ListN.{length, get_or, length-append}
use lib.Seq.{append_snoc, get_or_at}
use borrow.Author.Tests.{eqb-true, eqb-false, ltb-true, ltb-false, le-ltb, eq-eqb, ne_eqb}
use Rattle.answers.specs.declared.Outcome.{Outcome}
use Rattle.answers.specs.Lists.{All}
use Rattle.answers.specs.Table.{row, says, outcome, outcome_at, found, refused, unless, first, answer_of}
use Rattle.answers.proofs.Lists.{all_append, all_left, all_right}
use Rattle.nibbles.specs.Nibbles.{nibbles, pack, total, sum}
use Rattle.nibbles.proofs.Laws.{length_nibbles, nibbles_narrow, pack_nibbles, pack_pair, pack_across}
use Rattle.nibbles.proofs.Laws.{sum_around, missed, sums_exchanged, Position, at_low, at_high, at_sum, position}
use Rattle.nibbles.proofs.Laws.{Neighbours, within, across, at_end, neighbours}
use Rattle.ranges.proofs.Between.{MovedBy}
use Rattle.ranges.proofs.Runs.{run_bytes}
use Rattle.fields.specs.Fields.{fields, value_at}
use Rattle.patch.specs.Patch.{first_out}
use Rattle.patch.proofs.Runs.{fields_moved}
use Rattle.messages.specs.Kinds.{a_patch, Dump, of_dump, Filed, size_of}
use Rattle.messages.specs.Judge.{sent_rows, misnumbered, judge}
use Rattle.messages.specs.Layout.{message_of}
use Rattle.messages.specs.promises.Neighbours.{nibbles_refusal, replaced_refusal, exchanged_refusal}
use Rattle.messages.proofs.Numbers.{refused_number}
use Rattle.messages.proofs.DumpLaws.{RefusedBy as RefusedAs, too_wide, wrong_sum, right_sum, dump_tested}

abbrev RefusedBy : List ℕ → ℕ → Outcome → Type 0
RefusedBy = RefusedAs a_patch

out_of_range : (d : List ℕ) (s k : ℕ) (w : ℤ) → All (λ b. b < 16) d → s ≡ sum (pack d) → first_out (pack d) ≡ some (found k w) → RefusedBy d s (outcome_at 11 k w)
out_of_range d s k w a e f v = right_sum a_patch d s a e v ∙ rw f

-- The low nibble l and the high one h, of the packed byte k, now l' and h': beside them the sum is t.
nibbles_refused : (d : List ℕ) (s t k low l h l' h' : ℕ) → All (λ b. b < 16) d → l < 16 → h < 16 → l' < 16 → h' < 16
    → s ≡ (t + (l + 16 * h)) % 128 → sum (pack d) ≡ (t + (l' + 16 * h')) % 128 → ((l' ≡ l) × (h' ≡ h) → ⊥)
    → (l' ≡ l → MovedBy 8 h h' → first_out (pack d) ≡ some (found k (value_at k (low + 16 * h')))) → RefusedBy d s (nibbles_refusal k low l h l' h')
nibbles_refused d s t k low l h l' h' a n₁ n₂ n₃ n₄ was is other out v = go (eqb l' l) (eqb h' (h + 8)) (eqb h (h' + 8)) refl refl refl
  where
    go : (x y z : Bool) → eqb l' l ≡ x → eqb h' (h + 8) ≡ y → eqb h (h' + 8) ≡ z
        → first (sent_rows a_patch d s) v ≡ refused (cond (x && (y || z)) (outcome_at 11 k (value_at k (low + 16 * h'))) (outcome 10 0))
    go false y z q₁ q₂ q₃ = wrong_sum a_patch d s a (λ e. eqb-false l' l q₁ (missed t l h l' h' n₁ n₂ n₃ n₄ (sym was ∙ e ∙ is)).low) v
    go true true z q₁ q₂ q₃ =
        let same = eqb-true l' l q₁ in let up = eqb-true h' (h + 8) q₂ in out_of_range d s k _ a (omega arith) (out same (inl up)) v
    go true false true q₁ q₂ q₃ =
        let same = eqb-true l' l q₁ in let down = eqb-true h (h' + 8) q₃ in out_of_range d s k _ a (omega arith) (out same (inr down)) v
    go true false false q₁ q₂ q₃ =
        let same = eqb-true l' l q₁ in
        let not_up = eqb-false h' (h + 8) q₂ in
        let not_down = eqb-false h (h' + 8) q₃ in
        wrong_sum a_patch d s a (λ e. ⊎_elim (λ z. other (same, z)) (λ (m : MovedBy 8 h h'). ⊎_elim not_up not_down m)
        (missed t l h l' h' n₁ n₂ n₃ n₄ (sym was ∙ e ∙ is)).high) v

-- Of two bytes the first that is no nibble is told, else what is told of two nibbles.
nibbles_first : (u : List ℕ) (x y : ℕ) (w : List ℕ) (s : ℕ) (o : Outcome) → All (λ b. b < 16) u → (x < 16 → y < 16 → RefusedBy (u ++ x ∷ y ∷ w) s o)
    → RefusedBy (u ++ x ∷ y ∷ w) s (cond (ltb 15 x) (outcome 9 (length u)) (cond (ltb 15 y) (outcome 9 (suc (length u))) o))
nibbles_first u x y w s o a t v = go (ltb 15 x) (ltb 15 y) refl refl
  where
    go : (b c : Bool) → ltb 15 x ≡ b → ltb 15 y ≡ c
        → first (sent_rows a_patch (u ++ x ∷ y ∷ w) s) v ≡ refused (cond b (outcome 9 (length u)) (cond c (outcome 9 (suc (length u))) o))
    go true c q r = too_wide a_patch u x (y ∷ w) s a (ltb-true 15 x q) v
    go false true q r =
        let one : length (u ++ (x ∷ [])) ≡ suc (length u) = omega (arith, length-append u (x ∷ [])) in
        let small = ltb-false 15 x q in
        rw (append_snoc u x (y ∷ w), one) at
        (too_wide a_patch (u ++ (x ∷ [])) y w s (all_append (λ b. b < 16) u (x ∷ []) a (omega arith, tt)) (ltb-true 15 y r) v)
    go false false q r =
        let x_small = ltb-false 15 x q in
        let y_small = ltb-false 15 y r in
        t (omega arith) (omega arith) v

-- Two nibbles exchanged leave the sum wrong: not even a high one alone has moved.
nibbles_exchanged : (j low a b : ℕ) → a < 16 → b < 16 → (a ≡ b → ⊥) → replaced_refusal j low a b b a ≡ exchanged_refusal j b
nibbles_exchanged j low a b ha hb other =
    rw (le-ltb 15 a (le_of_suc-le-suc ha), le-ltb 15 b (le_of_suc-le-suc hb), ne_eqb a b other, ne_eqb b a (λ e. other (sym e))) (go (eqb (j % 2) 0))
  where
    go : (t : Bool) → cond t (outcome 10 0) (outcome 10 0) ≡ outcome 10 0
    go true = refl
    go false = refl

module _ (k : Dump) (filed : Filed (of_dump k)) (patch : k.packed ≡ a_patch) (p : List ℕ) (l : length p ≡ 134) (ok : first_out p ≡ none) where
  -- A dump with the bytes w behind its opcode and the byte n comes to 8, by n, or else to o.
  pub record Comes (n : ℕ) (w : List ℕ) (o : Outcome) : Type 0 where
    pub to : judge (message_of k.opcode (n ∷ w)) ≡ unless (says (row 8 (misnumbered k.behind n))) (refused o)

  comes : (n : ℕ) (w d : List ℕ) (s : ℕ) (o : Outcome) → w ≡ d ++ (s ∷ []) → length w ≡ 269 → RefusedBy d s o → Comes n w o
  comes n w d s o e long t =
      record { to = rw e (rw (dump_tested k filed n d s (omega (arith, ap size_of patch, ap length e, length-append d (s ∷ []))), patch, t)) }

  -- So it is refused.
  pub comes_refused : {n : ℕ} {w : List ℕ} {o : Outcome} → Comes n w o → answer_of (judge (message_of k.opcode (n ∷ w))) ≡ 0 → ⊥
  comes_refused {n} {w} {o} e z = go (misnumbered k.behind n) refl
    where
      go : (t : Bool) → misnumbered k.behind n ≡ t → ⊥
      go true q = let f = rw q at e.to in (refused_number _ (outcome 8 0) f).0 (rw f at z)
      go false q = let f = rw q at e.to in (refused_number _ o f).0 (rw f at z)

  -- The patch cut in two.
  cut_bytes : (p₁ r : List ℕ) → p ≡ p₁ ++ r → All (λ b. b < 256) p₁ × All (λ b. b < 256) r
  cut_bytes p₁ r e = let a = rw e at (run_bytes fields 0 p ok) in (all_left _ p₁ r a, all_right _ p₁ r a)

  -- The nibbles up to the low one of the byte c.
  front_narrow : (p₁ : List ℕ) (c : ℕ) (r : List ℕ) → p ≡ p₁ ++ c ∷ r → All (λ b. b < 16) (nibbles p₁ ++ ((c % 16) ∷ []))
  front_narrow p₁ c r e = all_append (λ b. b < 16) (nibbles p₁) ((c % 16) ∷ []) (nibbles_narrow p₁ (cut_bytes p₁ (c ∷ r) e).0) (omega arith, tt)

  -- A byte whose high nibble moved by 8 is out of its range.
  moved_byte : (p₁ : List ℕ) (c h : ℕ) (p₂ : List ℕ) → p ≡ p₁ ++ c ∷ p₂ → MovedBy 8 (c / 16) h
      → first_out (p₁ ++ (c % 16 + 16 * h) ∷ p₂) ≡ some (found (length p₁) (value_at (length p₁) (c % 16 + 16 * h)))
  moved_byte p₁ c h p₂ e m =
      fields_moved p₁ c (c % 16 + 16 * h) p₂ (rw e at l) (rw e at ok) (⊎_elim (λ z. inl (omega arith)) (λ z. inr (omega arith)) m)

  -- The nibbles x and y for those of the byte c.
  within_refused : (low : ℕ) (p₁ : List ℕ) (c : ℕ) (p₂ : List ℕ) (x y : ℕ) → p ≡ p₁ ++ c ∷ p₂ → ((x ≡ c % 16) × (y ≡ c / 16) → ⊥)
      → RefusedBy (nibbles p₁ ++ (x ∷ y ∷ nibbles p₂)) (sum p) (replaced_refusal (length (nibbles p₁)) low (c % 16) (c / 16) x y)
  within_refused low p₁ c p₂ x y e other =
      let u = nibbles p₁ in
      let d = u ++ (x ∷ y ∷ nibbles p₂) in
      let even : length u % 2 ≡ 0 = omega (arith, length_nibbles p₁) in
      let half : length u / 2 ≡ length p₁ = omega (arith, length_nibbles p₁) in
      let (a₁, a₂) = cut_bytes p₁ (c ∷ p₂) e in
      let byte = a₂.0 in
      let front = nibbles_narrow p₁ a₁ in
      let t = total p₁ + total p₂ in
      let packed = pack_pair p₁ p₂ x y in
      let was : sum p ≡ (t + (c % 16 + 16 * (c / 16))) % 128 = rw e (omega (arith, sum_around p₁ c p₂)) in
      let is : sum (pack d) ≡ (t + (x + 16 * y)) % 128 = rw packed (sum_around p₁ (x + 16 * y) p₂) in
      let out : x ≡ c % 16 → MovedBy 8 (c / 16) y → first_out (pack d) ≡ some (found (length p₁) (value_at (length p₁) (c % 16 + 16 * y))) =
      λ same m. rw (packed, same) (moved_byte p₁ c y p₂ e m) in
      rw (eq-eqb (length u % 2) 0 even, half)
      (nibbles_first u x y (nibbles p₂) (sum p) (nibbles_refusal (length p₁) (c % 16) (c % 16) (c / 16) x y) front
      (λ hx hy. nibbles_refused d (sum p) t (length p₁) (c % 16) (c % 16) (c / 16) x y
      (all_append (λ b. b < 16) u (x ∷ y ∷ nibbles p₂) front (hx, (hy, nibbles_narrow p₂ a₂.1)))
      (omega arith) (omega arith) hx hy was is other out))

  -- The nibbles x and y for the high one of the byte c and the low one of the next, c'.
  across_refused : (p₁ : List ℕ) (c c' : ℕ) (p₂ : List ℕ) (x y : ℕ) → p ≡ p₁ ++ c ∷ c' ∷ p₂ → ((x ≡ c / 16) × (y ≡ c' % 16) → ⊥)
      → let u = nibbles p₁ ++ ((c % 16) ∷ []) in
      RefusedBy (u ++ (x ∷ y ∷ (c' / 16) ∷ nibbles p₂)) (sum p) (replaced_refusal (length u) (c % 16) (c / 16) (c' % 16) x y)
  unfolding total
  across_refused p₁ c c' p₂ x y e other =
      let u = nibbles p₁ ++ ((c % 16) ∷ []) in
      let r = (c' / 16) ∷ nibbles p₂ in
      let d = u ++ (x ∷ y ∷ r) in
      let long : length u ≡ 2 * length p₁ + 1 = omega (arith, length-append (nibbles p₁) ((c % 16) ∷ []), length_nibbles p₁) in
      let odd : length u % 2 ≡ 0 → ⊥ = λ z. omega arith in
      let half : length u / 2 ≡ length p₁ = omega arith in
      let a = (cut_bytes p₁ (c ∷ c' ∷ p₂) e).1 in
      let byte = a.0 in
      let byte' = a.1.0 in
      let front = front_narrow p₁ c (c' ∷ p₂) e in
      let t = total p₁ + total p₂ + c % 16 + 16 * (c' / 16) in
      let packed = rw (← (append_snoc (nibbles p₁) (c % 16) (x ∷ y ∷ r))) at (pack_across p₁ p₂ (c % 16) x y (c' / 16)) in
      let was : sum p ≡ (t + (c' % 16 + 16 * (c / 16))) % 128 = rw e (omega (arith, sum_around p₁ c (c' ∷ p₂))) in
      let is : sum (pack d) ≡ (t + (y + 16 * x)) % 128 = rw packed (omega (arith, sum_around p₁ (c % 16 + 16 * x) ((y + 16 * (c' / 16)) ∷ p₂))) in
      let out : y ≡ c' % 16 → MovedBy 8 (c / 16) x → first_out (pack d) ≡ some (found (length p₁) (value_at (length p₁) (c % 16 + 16 * x))) = λ low m.
      let same : y + 16 * (c' / 16) ≡ c' = omega arith in
      rw (packed, same) (moved_byte p₁ c x (c' ∷ p₂) e m) in
      rw (ne_eqb (length u % 2) 0 odd, half)
      (nibbles_first u x y r (sum p) (nibbles_refusal (length p₁) (c % 16) (c' % 16) (c / 16) y x) front
      (λ hx hy. nibbles_refused d (sum p) t (length p₁) (c % 16) (c' % 16) (c / 16) y x
      (all_append (λ b. b < 16) u (x ∷ y ∷ r) front (hx, (hy, (omega arith, nibbles_narrow p₂ a.1.1))))
      (omega arith) (omega arith) hy hx was is (λ z. other (z.1, z.0)) out))

  -- The last nibble, of the byte c, exchanged with the sum.
  end_refused : (p₁ : List ℕ) (c : ℕ) → p ≡ p₁ ++ c ∷ [] → (c / 16 ≡ sum p → ⊥)
      → let u = nibbles p₁ ++ ((c % 16) ∷ []) in RefusedBy (u ++ (sum p ∷ [])) (c / 16) (exchanged_refusal (length u) (sum p))
  unfolding nibbles total
  end_refused p₁ c e other v = go (ltb 15 (sum p)) refl
    where
      u : List ℕ
      u = nibbles p₁ ++ ((c % 16) ∷ [])

      front : All (λ b. b < 16) u
      front = front_narrow p₁ c [] e

      go : (t : Bool) → ltb 15 (sum p) ≡ t → first (sent_rows a_patch (u ++ (sum p ∷ [])) (c / 16)) v ≡ refused (cond t (outcome 9 (length u)) (outcome 10 0))
      go true q = too_wide a_patch u (sum p) [] (c / 16) front (ltb-true 15 (sum p) q) v
      go false q =
          let d = u ++ (sum p ∷ []) in
          let small = ltb-false 15 (sum p) q in
          let byte = (cut_bytes p₁ (c ∷ []) e).1.0 in
          let t = total p₁ + 0 in
          let packed = rw (← (append_snoc (nibbles p₁) (c % 16) (sum p ∷ []))) at (pack_pair p₁ [] (c % 16) (sum p)) in
          let was : sum p ≡ (t + (c % 16 + 16 * (c / 16))) % 128 = rw e (omega (arith, sum_around p₁ c [])) in
          let is : sum (pack d) ≡ (t + (c % 16 + 16 * sum p)) % 128 = rw packed (sum_around p₁ (c % 16 + 16 * sum p) []) in
          wrong_sum a_patch d (c / 16) (all_append (λ b. b < 16) u (sum p ∷ []) front (omega arith, tt))
          (λ z. other (sums_exchanged t (c % 16) (c / 16) (sum p) (omega arith) (omega arith) was (z ∙ is))) v

  abbrev sent : List ℕ
  sent = nibbles p ++ (sum p ∷ [])

  -- Other bytes for one or two of them.
  long_still : (u m v w : List ℕ) → u ++ (m ++ v) ≡ sent → length m ≡ length w → length (u ++ (w ++ v)) ≡ 269
  long_still u m v w e same = omega (
    arith,
    ap length e,
    length-append (nibbles p) (sum p ∷ []),
    length_nibbles p,
    length-append u (m ++ v),
    length-append u (w ++ v),
    length-append m v,
    length-append w v,
  )

  -- The byte before the first of two, the bytes n and u: a low nibble where the first is a high one.
  abbrev pub low_before : ℕ → List ℕ → ℕ
  low_before n u = get_or (n ∷ u) (length u) 0

  -- Two neighbours a and b of the nibbles replaced by x and y.
  pub two_replaced : (n : ℕ) (u : List ℕ) (a b : ℕ) (v : List ℕ) (x y : ℕ) → u ++ a ∷ b ∷ v ≡ sent → suc (length u) < 268
      → ((x ≡ a) × (y ≡ b) → ⊥) → Comes n (u ++ x ∷ y ∷ v) (replaced_refusal (length u) (low_before n u) a b x y)
  two_replaced n u a b v x y e h other = go (neighbours p (sum p) u a b v e)
    where
      long : length (u ++ x ∷ y ∷ v) ≡ 269
      long = long_still u (a ∷ b ∷ []) v (x ∷ y ∷ []) e refl

      go : Neighbours p (sum p) u a b v → Comes n (u ++ x ∷ y ∷ v) (replaced_refusal (length u) (low_before n u) a b x y)
      go (within p₁ c p₂ e₀ e₁ e₂ e₃ e₄) =
          let d = nibbles p₁ ++ (x ∷ y ∷ nibbles p₂) in
          let same : u ++ x ∷ y ∷ v ≡ d ++ (sum p ∷ []) = rw (e₁, e₄, append_assoc (nibbles p₁) (x ∷ y ∷ nibbles p₂) (sum p ∷ [])) in
          comes n (u ++ x ∷ y ∷ v) d (sum p) _ same long (rw (e₁, e₂, e₃) (within_refused (low_before n (nibbles p₁)) p₁ c p₂ x y e₀ (rw (e₂, e₃) at other)))
      go (across p₁ c c' p₂ e₀ e₁ e₂ e₃ e₄) =
          let front = nibbles p₁ ++ ((c % 16) ∷ []) in
          let r = x ∷ y ∷ (c' / 16) ∷ nibbles p₂ in
          let same : u ++ x ∷ y ∷ v ≡ (front ++ r) ++ (sum p ∷ []) = rw (e₁, e₄, append_assoc front r (sum p ∷ [])) in
          let long_front : suc (length (nibbles p₁)) ≡ length front = omega (arith, length-append (nibbles p₁) ((c % 16) ∷ [])) in
          let low : low_before n front ≡ c % 16 = get_or_at (n ∷ nibbles p₁) (c % 16) [] 0 (length front) long_front in
          comes n (u ++ x ∷ y ∷ v) (front ++ r) (sum p) _ same long (rw (e₁, e₂, e₃, low) (across_refused p₁ c c' p₂ x y e₀ (rw (e₂, e₃) at other)))
      go (at_end p₁ c e₀ e₁ e₂ e₃ e₄) =
          absurd (omega (arith, ap length e₀, ap length e₁, length-append (nibbles p₁) ((c % 16) ∷ []), length_nibbles p₁, length-append p₁ (c ∷ [])))

  -- Two neighbours of the nibbles and the sum exchanged.
  pub exchanged : (n : ℕ) (u : List ℕ) (a b : ℕ) (v : List ℕ) → u ++ a ∷ b ∷ v ≡ sent → (a ≡ b → ⊥) → Comes n (u ++ b ∷ a ∷ v) (exchanged_refusal (length u) b)
  exchanged n u a b v e other = go (neighbours p (sum p) u a b v e)
    where
      nibbles_both : suc (length u) < 268 → a < 16 → b < 16 → Comes n (u ++ b ∷ a ∷ v) (exchanged_refusal (length u) b)
      nibbles_both h ha hb = rw (nibbles_exchanged (length u) (low_before n u) a b ha hb other) at (two_replaced n u a b v b a e h (λ z. other z.1))

      go : Neighbours p (sum p) u a b v → Comes n (u ++ b ∷ a ∷ v) (exchanged_refusal (length u) b)
      go (within p₁ c p₂ e₀ e₁ e₂ e₃ e₄) =
          let byte = (cut_bytes p₁ (c ∷ p₂) e₀).1.0 in
          nibbles_both (omega (arith, ap length e₀, ap length e₁, length_nibbles p₁, length-append p₁ (c ∷ p₂))) (omega arith) (omega arith)
      go (across p₁ c c' p₂ e₀ e₁ e₂ e₃ e₄) =
          let byte = (cut_bytes p₁ (c ∷ c' ∷ p₂) e₀).1.0 in
          let before = length-append (nibbles p₁) ((c % 16) ∷ []) in
          nibbles_both (omega (arith, ap length e₀, ap length e₁, before, length_nibbles p₁, length-append p₁ (c ∷ c' ∷ p₂))) (omega arith) (omega arith)
      go (at_end p₁ c e₀ e₁ e₂ e₃ e₄) =
          let front = nibbles p₁ ++ ((c % 16) ∷ []) in
          let same : u ++ b ∷ a ∷ v ≡ (front ++ (sum p ∷ [])) ++ ((c / 16) ∷ []) = rw (e₁, e₂, e₃, e₄, append_assoc front (sum p ∷ []) ((c / 16) ∷ [])) in
          comes n (u ++ b ∷ a ∷ v) (front ++ (sum p ∷ [])) (c / 16) _ same (long_still u (a ∷ b ∷ []) v (b ∷ a ∷ []) e refl)
          (rw (e₁, e₃) (end_refused p₁ c e₀ (rw (e₂, e₃) at other)))

  -- One byte x of the nibbles and the sum replaced by another byte y: two nibbles, one of them as it was, or the sum.
  pub replaced : (n : ℕ) (u : List ℕ) (x : ℕ) (v : List ℕ) (y : ℕ) → u ++ x ∷ v ≡ sent → (y ≡ x → ⊥)
      → answer_of (judge (message_of k.opcode (n ∷ (u ++ y ∷ v)))) ≡ 0 → ⊥
  replaced n u x v y e other = go (position p (sum p) u x v e)
    where
      go : Position p (sum p) u x v → answer_of (judge (message_of k.opcode (n ∷ (u ++ y ∷ v)))) ≡ 0 → ⊥
      go (at_low p₁ c p₂ e₀ e₁ e₂ e₃) =
          let h : suc (length u) < 268 = omega (arith, ap length e₀, ap length e₁, length_nibbles p₁, length-append p₁ (c ∷ p₂)) in
          rw e₃ (comes_refused (two_replaced n u x (c / 16) (nibbles p₂ ++ (sum p ∷ [])) y (c / 16) (rw e₃ at e) h (λ z. other z.0)))
      go (at_high p₁ c p₂ e₀ e₁ e₂ e₃) =
          let h : suc (length (nibbles p₁)) < 268 = omega (arith, ap length e₀, length_nibbles p₁, length-append p₁ (c ∷ p₂)) in
          let before = append_snoc (nibbles p₁) (c % 16) in
          rw (e₁, before (y ∷ v)) (comes_refused (two_replaced n (nibbles p₁) (c % 16) x v (c % 16) y (rw (e₁, before (x ∷ v)) at e) h (λ z. other z.1)))
      go (at_sum e₁ e₂ e₃) =
          let narrow = nibbles_narrow p (run_bytes fields 0 p ok) in
          let same : u ++ y ∷ v ≡ nibbles p ++ (y ∷ []) = rw (e₁, e₃) in
          comes_refused (comes n (u ++ y ∷ v) (nibbles p) y (outcome 10 0) same (long_still u (x ∷ []) v (y ∷ []) e refl)
          (wrong_sum a_patch (nibbles p) y narrow (λ z. other (z ∙ ap sum (pack_nibbles p) ∙ sym e₂))))
