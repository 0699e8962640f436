-- A data byte replaced by another leaves data bytes between F0H and F7H, which are one report of a stream; what they come to is known.
use mathlib.Core.Path.{◌≡◌, refl, ap, ◌∙◌}
use mathlib.Core.List.{List, [], ◌∷◌}
use Prim.Native.Nat.{ℕ, suc, ◌+◌, ◌*◌, ◌<◌}
use native.Mathlib.Omega.{arith}
use lib.ListN.{length, set, length-append, length-set}
use lib.Seq.{set-append_left}
use Rattle.answers.specs.Table.{Verdict}
use Rattle.answers.proofs.Lists.{all_set}
use Rattle.answers.proofs.Rows.{row_equal}
use Rattle.streams.specs.Bytes.{framed}
use Rattle.streams.specs.Stream.{report}
use Rattle.streams.proofs.Complete.{data_bytes}
use Rattle.messages.specs.declared.kinds.Dump.{Dump}
use Rattle.messages.specs.declared.kinds.Kind.TheVariants.{Dump as of_dump}
use Rattle.messages.specs.Kinds.{split_patch, size_of, Filed, kind_of}
use Rattle.messages.specs.Judge.{judge}
use Rattle.messages.specs.Layout.{message, behind_for}
use Rattle.messages.specs.promises.OneNibble.{AsWritten}
use Rattle.messages.proofs.OneNibble.{one_nibble}
use Rattle.messages.proofs.Written.{sound}
use Rattle.writing.proofs.Laws.{length_dump}
use Rattle.theorems.specs.Slipped.{OneLine}
use Rattle.theorems.specs.Nibble.{NibbleShown}
use Rattle.theorems.proofs.Containment.{one_message, parts}

shown : (k : Dump) → Filed (of_dump k) → (b p : List ℕ) → AsWritten k b p → (i y : ℕ) (v : Verdict)
    → (i < 2 * size_of k.packed → y < 0x80 → judge (set (message (of_dump k) b p) (5 + i) y) ≡ v)
    → i < 2 * size_of k.packed → y < 0x80 → (before behind : List ℕ)
    → let m = message (of_dump k) b p in OneLine before m (set m (5 + i) y) behind v
shown k filed b p w i y v told h d before behind =
    let m = message (of_dump k) b p in
    let s = sound (of_dump k) b p filed w.given w.bytes w.passes in
    let c = s.content in
    let l = row_equal 7 (length p) (size_of k.packed) w.passes.0 in
    let size = length_dump k.opcode (behind_for k.behind b) p in
    let whole : length m ≡ 2 + length c = ap length s.bytes ∙ omega (arith, length-append c (0xF7 ∷ [])) in
    let next : 5 + i ≡ suc (4 + i) = omega arith in
    let inside : 4 + i < length c = omega arith in
    let same : set m (5 + i) y ≡ framed (set c (4 + i) y) =
    ap (λ (x : List ℕ). set x (5 + i) y) s.bytes ∙ rw next (ap (◌∷◌ 0xF0) (set-append_left c (0xF7 ∷ []) (4 + i) y inside)) in
    let e = framed (set c (4 + i) y) in
    let one = report (length before) (length before + length e) (judge e) 0 ∷ [] in
    let laid = one_message before (set c (4 + i) y) behind (data_bytes (set c (4 + i) y) (all_set (λ x. x < 0x80) c (4 + i) y s.seven d)) in
    let long : length e ≡ length m = omega (arith, length-append (set c (4 + i) y) (0xF7 ∷ []), length-set c (4 + i) y) in
    rw same ((parts before e behind one laid).within ∙ rw (long, rw same at (told h d)))

pub nibble_shown : NibbleShown
unfolding kind_of
nibble_shown = record {
  every_dump = λ k filed b p w i y h d ne. shown k filed b p w i y _ (λ h d. one_nibble.every_dump k filed b p w i y h d ne) h d;
  split = λ b p w i y h d ne. shown split_patch refl b p w i y _ (λ h d. one_nibble.split b p w i y h d ne) h d;
}
