-- What the walk finds is heard from its start to its end; where it finds nothing, nothing stands between the two; a record is read there.
use mathlib.Core.Path.{◌≡◌, refl}
use mathlib.Core.List.{List}
use mathlib.Core.Option.{Option, none, some}
use Prim.Native.Nat.{ℕ, ◌-◌}
use native.Mathlib.Omega.{arith}
use lib.ListN.{length}
use Rattle.streams.specs.Bytes.{real_time_in}
use Rattle.streams.specs.Stream.{Report, between}
use Rattle.streams.specs.Stream as stream
use Rattle.streams.specs.promises.Noise.{Counted, Heard}
use Rattle.streams.proofs.Heard.{counts, how_noisy}
use Rattle.messages.specs.Judge.{judge}
use Rattle.reading.specs.code.Told.{report_or, walked}
use Rattle.theorems.specs.Noise.{HowNoisy}
use Rattle.theorems.proofs.Answers.{demand_1, made_all}

nothing : (s : List ℕ) (n : ℕ) → Counted s n n 0
unfolding real_time_in
nothing s n =
    let none_between : n - n ≡ 0 = omega arith in
    counts s n n 0 (rw none_between refl) (rw none_between refl) (omega arith)

walk_heard : (s : List ℕ) (place : ℕ) → let r = walked s place in Counted s r.start r.end r.noise
walk_heard s place = by_walk (stream.walk judge s place) refl
  where
    by_walk : (o : Option Report) → stream.walk judge s place ≡ o → let r = report_or (length s) o in Counted s r.start r.end r.noise
    by_walk none e = nothing s (length s)
    by_walk (some r) e = ((how_noisy judge s).found place r e).count

pub how_noisy_was_the_line : HowNoisy
how_noisy_was_the_line = record {
  walk = walk_heard;
  read = λ s place lent. let w = demand_1.read_where s place lent in rw (w.0, w.1, w.2) (walk_heard s place);
  reports_each = λ s place. (how_noisy judge s).each place;
  reports_made = λ s place room. made_all (Heard judge s) s place room ((how_noisy judge s).each place);
}
