-- The bytes are added up, each sum reduced by 256 as it is made, and the whole once more by 128: that is their sum.
use Rattle.std.proofs.Common.{◌≡◌, ℕ, ◌+◌, ◌%◌, List, [], ◌∷◌, fold, refl, rules}
use Rattle.nibbles.specs.promises.Reduced.{reducing}
use Rattle.nibbles.proofs.Laws.{reduced}
use Rattle.nibbles.proofs.checksum.Goals as goal

added : (s : ℕ) (bytes : List ℕ) → fold (λ t b. (t + b) % 256) s bytes ≡ reducing 256 s bytes
unfolding reducing
added s [] = refl
added s (b ∷ bytes) = added ((s + b) % 256) bytes

pub returns : goal.returns
returns c =
    let packed = c.args.packed.now in
    let e : c.fold.result ≡ fold (λ t b. (t + b) % 256) 0 packed = search rules in
    rw (e, added 0 packed) (reduced.by_256 packed)
