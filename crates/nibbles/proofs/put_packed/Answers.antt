-- That no nibble is wide keeps each packed byte below 256.
use Rattle.std.proofs.Common.{◌≡◌, ℕ, ◌+◌, ◌*◌, ◌/◌, ◌%◌, ◌<◌, ◌≤◌, List, [], ◌∷◌, ◌++◌, length, get_or, take, sym, refl, ap, ◌∙◌, arith, length-take-le}
use Rattle.answers.proofs.Lists.{all_get}
use Rattle.answers.proofs.Copied.{copied_next}
use mathlib.Core.Option.{none}
use Rattle.nibbles.specs.Nibbles.{pack, first_wide}
use Rattle.nibbles.proofs.Laws.{length_pack, pack_take, pack_whole, wide_none}
use Rattle.nibbles.proofs.Passing.{word_packed}
use Rattle.nibbles.proofs.put_packed.Goals as goal

long : (s : List ℕ) (i : ℕ) → i ≤ length s / 2 → length (pack (take (2 * i) s)) ≡ i
long s i h = omega (arith, length_pack (take (2 * i) s), length-take-le (2 * i) s (omega arith))

pub loop-i-init : goal.loop-i-init
unfolding pack
loop-i-init c = (omega arith, refl, refl)

-- Both nibbles of a pair are below 16.
narrow : (s : List ℕ) (i : ℕ) → first_wide s ≡ none → i < length s / 2 → (get_or s (2 * i) 0 < 16) × (get_or s (2 * i + 1) 0 < 16)
narrow s i e h =
    let all = wide_none 0 s e in
    (all_get (λ b. b < 16) s (2 * i) 0 (omega arith) all, all_get (λ b. b < 16) s (2 * i + 1) 0 (omega arith) all)

pub overflow_add-out : goal.overflow_add-out
overflow_add-out c = omega (arith, narrow c.args.sent.now c.loop-i.i c.requires.0 (omega arith), c.from_le_bytes-word.ensures)

pub loop-i-preserved : goal.loop-i-preserved
loop-i-preserved c =
    let s = c.args.sent.now in
    let at = c.loop-i in
    let i = at.i in
    let low = get_or s (2 * i) 0 in
    let high = get_or s (2 * i + 1) 0 in
    let both = narrow s i c.requires.0 (omega arith) in
    let word : c.from_le_bytes-word.result ≡ low + 256 * high = omega (arith, c.from_le_bytes-word.ensures) in
    let byte : (c.from_le_bytes-word.result + c.from_le_bytes-word.result / 16) % 256 ≡ low + 16 * high = rw word (word_packed low high both.0 both.1) in
    let more = pack_take s i (omega arith) ∙ ap (λ (x : ℕ). pack (take (2 * i) s) ++ (x ∷ [])) (sym byte) in
    copied_next (λ k. pack (take (2 * k) s)) (length s / 2) c.args.out.now at.out i at.invariant (omega arith) i (_ ∷ [])
    (long s i (omega arith)) more (omega (arith, c.requires.1))

pub returns : goal.returns
returns c =
    let sent = c.args.sent.now in
    let e : c.loop-i.i ≡ length sent / 2 = omega arith in
    c.loop-i.invariant.2 ∙ rw (e, long sent (length sent / 2) (omega arith), pack_whole sent)
