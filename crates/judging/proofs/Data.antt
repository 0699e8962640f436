-- What packing a dump's data into a buffer that just fits it tells: 9, or the packed bytes; and the test of the data, the sum and the packed bytes.
use Rattle.std.proofs.Common.{◌≡◌, ℕ, ◌*◌, ◌/◌, ◌%◌, ◌≤◌, List, [], length, drop, refl, sym, ap, ◌∙◌, arith, drop_of_length-le, eq-eqb, ne_eqb}
use mathlib.Core.List.{append-nil}
use mathlib.Core.Option.{Option, none, some}
use Rattle.answers.specs.Table.{outcome}
use Rattle.answers.specs.Effect.{Gives, tested}
use Rattle.answers.specs.declared.Outcome.{Outcome}
use Rattle.nibbles.specs.Nibbles.{pack, sum, first_wide, packing}
use Rattle.nibbles.proofs.Laws.{packing_wide, packing_done}
use Rattle.answers.proofs.Rows.{Refusals, tested_stopped, tested_passed_on}
use Rattle.messages.specs.declared.kinds.Packed.{Packed as PackedBytes}
use Rattle.messages.specs.Judge.{data_rows, packed_rows, sent_rows}
use Rattle.judging.specs.code.Content.{Gathers}
use Rattle.judging.specs.code.Judged.{Checked}

module _ (ns out after : List ℕ) (p : Outcome) (fits : length ns ≡ 2 * length out) (g : Gives (packing ns out) p after) where
  -- Either a byte is above 15, and the answer is 9 with its index, or the buffer holds the packed bytes and no more.
  data Packed : Type 0 where
    wide : (i : ℕ) → first_wide ns ≡ some i → p ≡ outcome 9 i → Packed
    whole : first_wide ns ≡ none → p.answer ≡ 0 → after ≡ pack ns → Packed

  even : length ns % 2 ≡ 1 → ⊥
  even e = omega arith

  packed : Packed
  packed = by_wide (first_wide ns) refl
    where
      by_wide : (o : Option ℕ) → first_wide ns ≡ o → Packed
      by_wide (some i) e = wide i e (g.result ∙ rw (packing_wide ns out i even e))
      by_wide none e =
          let room : length ns / 2 ≤ length out = omega arith in
          let gone : drop (length ns / 2) out ≡ [] = drop_of_length-le out {i = length ns / 2} (omega arith) in
          whole e (rw (g.result, packing_done ns out even e room)) (g.lent ∙ rw (packing_done ns out even e room, gone, append-nil))

  pub packing_refused : (p.answer ≡ 0 → ⊥) → Gathers ns after p
  packing_refused n = by_packed packed
    where
      by_packed : Packed → Gathers ns after p
      by_packed (wide i w q) = record { told = q ∙ rw w; packed = λ k. let z : ◌≡◌ {A = ℕ} 0 1 = cc in absurd (omega arith) }
      by_packed (whole w z q) = absurd (n z)

  pub packing_gathered : p.answer ≡ 0 → Gathers ns after (outcome 0 0)
  packing_gathered z = by_packed packed
    where
      by_packed : Packed → Gathers ns after (outcome 0 0)
      by_packed (wide i w q) = let e = sym z ∙ ap (λ (o : Outcome). o.answer) q in absurd (omega (arith, e))
      by_packed (whole w z q) = record { told = rw w; packed = λ _. q }

-- The rows of a dump's data where a byte is above 15, where the sum differs, and where both tests pass.
module _ (ns : List ℕ) (s : ℕ) where
  pub data_wide : (i : ℕ) → first_wide ns ≡ some i → outcome 9 i ≡ tested (data_rows ns s)
  unfolding data_rows
  data_wide i e = rw e

  pub data_sum : first_wide ns ≡ none → (s ≡ sum (pack ns) → ⊥) → outcome 10 0 ≡ tested (data_rows ns s)
  unfolding data_rows
  data_sum e n = rw (e, ne_eqb s (sum (pack ns)) n)

  pub data_passed : first_wide ns ≡ none → s ≡ sum (pack ns) → outcome 0 0 ≡ tested (data_rows ns s)
  unfolding data_rows
  data_passed e q = rw (e, eq-eqb s (sum (pack ns)) q)

-- The test of a dump's data, by what packing them left.
module _ (d : List ℕ) (s : ℕ) (after : List ℕ) (r : Outcome) (g : Gathers d after r) where
  pub check_refused : (r.answer ≡ 0 → ⊥) → Checked d s after r
  check_refused n = go (first_wide d) refl
    where
      go : (o : Option ℕ) → first_wide d ≡ o → Checked d s after r
      go (some i) w = record { outcome = g.told ∙ rw w (sym (sym (data_wide d s i w))); packed = λ z. absurd (n z) }
      go none w = absurd (n (ap (λ (o : Outcome). o.answer) (rw w at g.told)))

  narrow : r.answer ≡ 0 → first_wide d ≡ none
  narrow z = go (first_wide d) refl
    where
      go : (o : Option ℕ) → first_wide d ≡ o → first_wide d ≡ none
      go (some i) w = let e = sym z ∙ ap (λ (o : Outcome). o.answer) (rw w at g.told) in absurd (omega (arith, e))
      go none w = w

  module _ (z : r.answer ≡ 0) (x : ℕ) (q : x ≡ sum after) where
    pub check_sum : (x ≡ s → ⊥) → Checked d s after (outcome 10 0)
    check_sum n =
        let other : s ≡ sum (pack d) → ⊥ = λ k. n (q ∙ (ap sum (g.packed (narrow z)) ∙ sym k)) in
        record { outcome = data_sum d s (narrow z) other; packed = λ k. absurd (omega (arith, k)) }

    pub check_done : x ≡ s → Checked d s after (outcome 0 0)
    check_done k =
        let same : s ≡ sum (pack d) = sym k ∙ (q ∙ ap sum (g.packed (narrow z))) in
        record { outcome = data_passed d s (narrow z) same; packed = λ _. g.packed (narrow z) }

pub data_refusals : (ns : List ℕ) (s : ℕ) → Refusals (data_rows ns s)
unfolding data_rows
data_refusals ns s = omega arith

-- The test of a dump's data: stopped at the data and the sum, or left to the packed bytes.
module _ (q : PackedBytes) (ns : List ℕ) (s : ℕ) (after : List ℕ) (d : Outcome) (k : Checked ns s after d) where
  pub data_stopped : (d.answer ≡ 0 → ⊥) → d ≡ tested (sent_rows q ns s)
  data_stopped n =
      let e = k.outcome in
      rw (tested_stopped (data_rows ns s) (packed_rows q (pack ns)) (λ z. n (ap (λ (o : Outcome). o.answer) e ∙ z))) e

  pub data_left : d.answer ≡ 0 → tested (packed_rows q after) ≡ tested (sent_rows q ns s)
  data_left z =
      let e = k.outcome in
      rw (k.packed z, tested_passed_on (data_rows ns s) (packed_rows q (pack ns)) (data_refusals ns s) (sym (ap (λ (o : Outcome). o.answer) e) ∙ z))
