-- What reading leaves in a lent buffer: refused, every byte, by 13 too; done, those behind the packed bytes.
use mathlib.Core.Path.{◌≡◌, refl}
use mathlib.Core.Bool.{Bool, true, false}
use mathlib.Core.List.{List}
use Prim.Native.Nat.{ℕ}
use native.Mathlib.Omega.{arith}
use lib.Dec.{leb}
use lib.ListN.{length, drop}
use lib.Seq.{drop-append_seam}
use Rattle.answers.specs.Table.{Verdict, done, refused}
use Rattle.answers.specs.promises.Decides.{Keeps}
use Rattle.streams.specs.Stream.{packed_in, read_into}

pub reading_keeps : (f e : ℕ) (v : Verdict) (n : ℕ) (lent : List ℕ)
    → let x = read_into f e v n lent in Keeps x.result.outcome.answer (length (packed_in v)) lent x.lent
reading_keeps f e (done o b p) n lent = by_test (leb (length p) (length lent)) refl
  where
    by_test : (t : Bool) → leb (length p) (length lent) ≡ t
        → let x = read_into f e (done o b p) n lent in Keeps x.result.outcome.answer (length p) lent x.lent
    by_test true q = rw q (record { refused = λ k. absurd (k refl); behind = λ z. drop-append_seam p (drop (length p) lent) })
    by_test false q = rw q (record { refused = λ k. refl; behind = λ z. absurd (omega arith) })
reading_keeps f e (refused o) n lent = record { refused = λ k. refl; behind = λ z. refl }
