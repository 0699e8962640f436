-- Document 02 (iv), 'Reading straight from the cable': each call takes bytes up to the end of the next message, or all if none ends, and says how
-- many it took, with the report or that none has ended.
use Rattle.std.specs.Prelude.{List, [], ◌∷◌, ℕ, suc}
use Rattle.std.proofs.Math.Option.{Option, none, some}
use Rattle.answers.specs.Table.{Verdict}
use Rattle.streams.specs.Bytes.{ByteKind, dataByte, exclusive, endOfExclusive, otherStatus, realTime, byte_kind}
use Rattle.streams.specs.Stream.{Report}
use Rattle.streams.specs.code.Scan.{State, outside, next, emit}

-- What a call takes: how many bytes, the state behind them, and the report of the message that ended.
pub record Taken : Type 0 where
  pub count : ℕ
  pub state : State
  pub ended : Option Report

abbrev pub taking : ℕ → State → Option Report → Taken
taking n st r = record { count = n; state = st; ended = r }

-- F7H is taken with the message that it ends. A byte that interrupts one is not taken: it is fed again.
abbrev pub own_byte : ByteKind → ℕ
own_byte dataByte = 0
own_byte exclusive = 0
own_byte endOfExclusive = 1
own_byte otherStatus = 0
own_byte realTime = 0

-- A byte of kind k that completes no report is taken, and then what is taken behind it; the first report ends the call, outside a message.
abbrev pub onward : ByteKind → List Report → Taken → Taken
onward k [] t = taking (suc t.count) t.state t.ended
onward k (r ∷ rs) t = taking (own_byte k) outside (some r)

module _ (judge : List ℕ → Verdict) where
  -- What a call takes of the bytes s, the first of which stands at place p, from a state.
  abbrev pub taken : ℕ → State → List ℕ → Taken
  taken p st [] = taking 0 st none
  taken p st (b ∷ s) = onward (byte_kind b) (emit judge (byte_kind b) p st) (taken (suc p) (next (byte_kind b) b p st) s)
