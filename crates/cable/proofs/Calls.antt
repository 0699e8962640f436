-- A call by its tests: behind the end, past the limit, with a message open, and with none.
use mathlib.Core.Path.{◌≡◌, ap, ◌∙◌}
use mathlib.Core.Bool.{Bool, true, false, cond}
use mathlib.Core.List.{List, []}
use Prim.Native.Nat.{ℕ, min, ◌+◌}
use lib.Dec.{ltb}
use lib.ListN.{length, take}
use Rattle.streams.specs.Feed.{taken}
use Rattle.streams.specs.code.Scan.{State, outside, inside}
use Rattle.messages.specs.Judge.{judge}
use Rattle.cable.specs.declared.Cable.{Cable}
use Rattle.cable.specs.declared.Step.{Step}
use Rattle.cable.specs.Cable.{limit, held_by, cleared, resting, step_by, refusing, goes, feeding, last_told, ending}

module _ (c : Cable) where
  -- The message that is open.
  abbrev pub its : State
  its = inside c.start (take c.count c.bytes) (min c.noise c.taken)

  pub held_inside : c.inside ≡ true → held_by c ≡ its
  held_inside i = ap (λ (v : Bool). cond v its outside) i

  pub held_outside : c.inside ≡ false → held_by c ≡ outside
  held_outside i = ap (λ (v : Bool). cond v its outside) i

  -- The declared end.
  abbrev ended : Step
  ended = record { state = resting [] c.taken true; fed = last_told c.taken (held_by c) }

  pub ending_over : c.over ≡ true → ending c ≡ refusing c c.taken 1
  unfolding ending
  ending_over o = ap (λ (v : Bool). cond v (refusing c c.taken 1) ended) o

  pub ending_first : c.over ≡ false → ending c ≡ record { state = resting [] c.taken true; fed = last_told c.taken (held_by c) }
  unfolding ending
  ending_first o = ap (λ (v : Bool). cond v (refusing c c.taken 1) ended) o

  -- A feed.
  module _ (s : List ℕ) where
    pub feeding_over : c.over ≡ true → feeding c s ≡ refusing c c.taken 1
    unfolding feeding
    feeding_over o = ap (λ (v : Bool). cond v (refusing c c.taken 1) (cond (ltb limit (c.taken + length s)) (refusing c 0 21) (goes c s))) o

    before_end : c.over ≡ false → feeding c s ≡ cond (ltb limit (c.taken + length s)) (refusing c 0 21) (goes c s)
    unfolding feeding
    before_end o = ap (λ (v : Bool). cond v (refusing c c.taken 1) (cond (ltb limit (c.taken + length s)) (refusing c 0 21) (goes c s))) o

    pub feeding_many : c.over ≡ false → ltb limit (c.taken + length s) ≡ true → feeding c s ≡ refusing c 0 21
    feeding_many o m = before_end o ∙ ap (λ (v : Bool). cond v (refusing c 0 21) (goes c s)) m

    pub feeding_goes : c.over ≡ false → ltb limit (c.taken + length s) ≡ false → feeding c s ≡ goes c s
    feeding_goes o m = before_end o ∙ ap (λ (v : Bool). cond v (refusing c 0 21) (goes c s)) m

    pub goes_inside : c.inside ≡ true → goes c s ≡ step_by c.bytes c.taken (taken judge c.taken (held_by c) s)
    goes_inside i = ap (λ (v : Bool). step_by (cond v c.bytes cleared) c.taken (taken judge c.taken (held_by c) s)) i

    pub goes_outside : c.inside ≡ false → goes c s ≡ step_by cleared c.taken (taken judge c.taken outside s)
    goes_outside i = ap (λ (v : Bool). step_by (cond v c.bytes cleared) c.taken (taken judge c.taken (cond v its outside) s)) i
