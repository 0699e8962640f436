-- What holds of every call that is fed bytes: it takes the beginning of what the walk's two states make of them, and it gets on.
use Rattle.std.specs.Prelude.{◌≡◌, List, [], ◌∷◌, ◌++◌, ℕ, ◌+◌, ◌≤◌, ◌<◌, length, drop}
use Rattle.std.proofs.Math.Option.{Option, none, some}
use Rattle.answers.specs.Table.{Verdict, refused, outcome}
use Rattle.streams.specs.Bytes.{framed}
use Rattle.streams.specs.Stream.{Report}
use Rattle.streams.specs.Feed.{taken}
use Rattle.streams.specs.code.Scan.{State, outside, inside, scan}

abbrev pub list_of : Option Report → List Report
list_of none = []
list_of (some r) = r ∷ []

-- Of the bytes xs, the first at place p, a call takes n: up to the end of the message whose report it gives, which may be none of them, or all.
pub data Stops (p : ℕ) (xs : List ℕ) (n : ℕ) (st : State) (r : Option Report) : Type 0 where
  at_an_end : (e : Report) → r ≡ some e → e.end ≡ p + n → st ≡ outside → Stops p xs n st r
  at_all : r ≡ none → n ≡ length xs → Stops p xs n st r

-- No more real time stands in the message that is open than bytes before place p.
abbrev pub Within : ℕ → State → Type 0
Within p outside = Unit {0}
Within p (inside f c n) = n ≤ p

module _ (judge : List ℕ → Verdict) where
  -- What a message comes to that ends with a call: it was closed, or interrupted.
  pub data Ending (v : Verdict) : Type 0 where
    closed : (c : List ℕ) → v ≡ judge (framed c) → Ending v
    interrupted : v ≡ refused (outcome 3 0) → Ending v

  abbrev pub EndsSo : Option Report → Type 0
  EndsSo none = Unit {0}
  EndsSo (some r) = Ending r.verdict

  pub record Fed (p : ℕ) (st : State) (xs : List ℕ) : Type 0 where
    pub within : (taken judge p st xs).count ≤ length xs
    pub stops : Stops p xs (taken judge p st xs).count (taken judge p st xs).state (taken judge p st xs).ended
    -- whatever is fed behind them: the states' reports are this call's, then those from where it stopped, bytes not taken being fed again
    pub onward : (ys : List ℕ) → let t = taken judge p st xs in
        scan judge p st (xs ++ ys) ≡ list_of t.ended ++ scan judge (p + t.count) t.state (drop t.count xs ++ ys)
    pub ends_so : EndsSo (taken judge p st xs).ended
    -- the noise counted stays within the bytes passed
    pub counted : Within p st → Within (p + (taken judge p st xs).count) (taken judge p st xs).state
    -- outside a message bytes are taken where there are some
    pub gets_on : st ≡ outside → 0 < length xs → 0 < (taken judge p st xs).count
