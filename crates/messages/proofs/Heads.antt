-- Messages that damage makes of a dump's bytes and that are refused by their first ones: the end of the dump behind an F0H, and a dump with its opcode
-- and the byte behind it exchanged.
use mathlib.Core.Path.{◌≡◌, sym, ◌∙◌, subst}
use mathlib.Core.Bool.{Bool, true, false, not, ◌&&◌, ◌||◌}
use mathlib.Core.List.{List, [], ◌∷◌, ◌++◌, tail-eq_of_cons-eq}
use Prim.Native.Nat.{ℕ, ◌+◌, ◌<◌}
use native.Mathlib.Omega.{arith}
use lib.Dec.{T, eqb}
use lib.ListN.{length, length-append}
use borrow.Author.Tests.{eq-eqb, ne_eqb}
use Rattle.answers.specs.Lists.{All}
use Rattle.answers.specs.Table.{answer_of}
use Rattle.answers.specs.promises.Decides.{Silent}
use Rattle.answers.proofs.Rows.{row_silent}
use Rattle.streams.specs.Bytes.{framed}
use Rattle.nibbles.proofs.Laws.{no_tail}
use Rattle.ranges.proofs.Below.{parts}
use Rattle.messages.specs.Kinds.{Dump, Kind, of_dump, of_short, unknown, kinds}
use Rattle.messages.specs.Kinds.{Filed, kind_of, opcode_of, length_of, is_unknown}
use Rattle.messages.specs.Judge.{misnumbered, kind_rows, judge}
use Rattle.messages.specs.Layout.{message_of}
use Rattle.messages.proofs.Filed.{every_kind, found_opcode}
use Rattle.messages.proofs.Numbers.{done_head, done_kind}

-- The last bytes of nibbles d and a sum s are not what stands between F0H and F7H of an accepted message: none of them begins with 10H 06H.
pub suffix_refused : (u v d : List ℕ) (s : ℕ) → All (λ b. b < 16) d → u ++ v ≡ d ++ (s ∷ []) → answer_of (judge (framed v)) ≡ 0 → ⊥
suffix_refused [] v [] s a e z = let h = (done_head (framed (s ∷ [])) (rw e at z)).1 in omega arith
suffix_refused [] v (b ∷ d) s a e z = let h = (done_head (framed (b ∷ (d ++ (s ∷ [])))) (rw e at z)).0 in omega (arith, a.0)
suffix_refused (x ∷ u) [] [] s a e z = let h = (done_head (framed []) z).0 in omega arith
suffix_refused (x ∷ u) (y ∷ v) [] s a e z = absurd (no_tail u y v (tail-eq_of_cons-eq e))
suffix_refused (x ∷ u) v (b ∷ d) s a e z = suffix_refused u v d s a.1 (tail-eq_of_cons-eq e) z

-- No short message is as long as a dump, and no two dumps of one length each take the other's opcode for the byte behind its own.
abbrev apart : Kind → Kind → Bool
apart (of_dump k) (of_dump m) =
    (eqb k.opcode m.opcode || not (eqb k.length m.length)) || (misnumbered m.behind k.opcode || misnumbered k.behind m.opcode)
apart (of_dump k) (of_short m) = not (eqb k.length m.length)
apart (of_dump k) unknown = true
apart (of_short k) m = true
apart unknown m = true

abbrev apart_from : Kind → List Kind → Bool
apart_from k [] = true
apart_from k (m ∷ ms) = apart k m && apart_from k ms

each_apart : (k : Kind) (ms : List Kind) → T (apart_from k ms) → All (λ m. T (apart k m)) ms
each_apart k [] t = tt
each_apart k (m ∷ ms) t = let q = parts (apart k m) (apart_from k ms) t in (q.0, each_apart k ms q.1)

all_apart : (k : Dump) → Filed (of_dump k) → (o : ℕ) → T (apart (of_dump k) (kind_of o))
all_apart k f =
    let from_all = every_kind (λ a. T (apart_from a kinds)) tt (omega arith) k.opcode in
    every_kind (λ m. T (apart (of_dump k) m)) tt (each_apart (of_dump k) kinds (subst (λ (a : Kind). T (apart_from a kinds)) f from_all))

-- So a dump with its opcode and the byte behind it exchanged is not accepted.
pub opcode_exchanged : (k : Dump) → Filed (of_dump k) → (n : ℕ) → misnumbered k.behind n ≡ false → (k.opcode ≡ n → ⊥)
    → (w : List ℕ) → 6 + length w ≡ k.length → answer_of (judge (message_of n (k.opcode ∷ w))) ≡ 0 → ⊥
opcode_exchanged k filed n number other w long z =
    let q = done_kind m z in
    by_its_kind (kind_of n) (found_opcode n q.known) q.known q.long q.passed (all_apart k filed n)
  where
    m : List ℕ
    m = message_of n (k.opcode ∷ w)

    size : length m ≡ k.length
    size = omega (arith, length-append w (0xF7 ∷ []))

    by_its_kind : (a : Kind) → n ≡ opcode_of a → is_unknown a ≡ false → length m ≡ length_of a → Silent (kind_rows a m) → T (apart (of_dump k) a) → ⊥
    by_its_kind (of_dump a) e u l s t = rw (
      ne_eqb k.opcode a.opcode (λ o. other (o ∙ sym e)),
      eq-eqb k.length a.length (sym size ∙ l),
      row_silent 8 (misnumbered a.behind k.opcode) s.0,
      rw e at number,
    ) at t
    by_its_kind (of_short a) e u l s t = rw (eq-eqb k.length a.length (sym size ∙ l)) at t
    by_its_kind unknown e u l s t = let y : ◌≡◌ {A = ℕ} 0 1 = cc in omega arith
