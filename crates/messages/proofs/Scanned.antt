-- A message as our writer writes it, in a scan: it is reported with its record, and the scan goes on behind it.
use mathlib.Core.Path.{◌≡◌}
use mathlib.Core.List.{List, ◌∷◌, ◌++◌}
use Prim.Native.Nat.{ℕ, ◌+◌}
use lib.ListN.{length}
use Rattle.streams.specs.Stream.{report}
use Rattle.streams.specs.code.Scan.{outside, scan}
use Rattle.streams.proofs.Complete.{data_bytes, scan_framed}
use Rattle.messages.specs.Kinds.{Kind}
use Rattle.messages.specs.Judge.{judge}
use Rattle.messages.specs.Layout.{message, record_for}
use Rattle.messages.proofs.Written.{Sound, sound_holds}

pub sound_scanned : (k : Kind) (b p : List ℕ) → Sound k b p → (place : ℕ) (behind : List ℕ) → scan judge place outside (message k b p ++ behind)
    ≡ report place (place + length (message k b p)) (record_for k b p) 0 ∷ scan judge (place + length (message k b p)) outside behind
sound_scanned k b p s place behind =
    sound_holds k b p (λ m v. scan judge place outside (m ++ behind) ≡ report place (place + length m) v 0 ∷ scan judge (place + length m) outside behind)
    (λ c a. scan_framed judge place c behind (data_bytes c a)) s
