-- What a kind of dump has no test for, it is never refused by: 11 where its packed bytes have no table, 12 where they have no buses.
use Rattle.std.specs.Prelude.{◌≡◌, List, ℕ}
use Rattle.std.proofs.Math.Option.{none}
use Rattle.answers.specs.Table.{answer_of}
use Rattle.answers.specs.Effect.{tested}
use Rattle.messages.specs.Kinds.{Dump, of_dump, split_patch, master_parameters, shape_of, kind_of}
use Rattle.messages.specs.Judge.{byte_at, judge}
use Rattle.messages.specs.Layout.{given_rows}
use Rattle.messages.specs.code.Sizes.{lent_rows}

-- No dump of a kind is answered n: a complete message, what its writer is given, packed bytes that are lent.
pub record NeverFor (k : Dump) (n : ℕ) : Type 0 where
  pub read : (m : List ℕ) → kind_of (byte_at m 3) ≡ of_dump k → answer_of (judge m) ≡ n → ⊥
  pub written : (b p : List ℕ) → (tested (given_rows (of_dump k) b p)).answer ≡ n → ⊥
  pub lent : (p : List ℕ) → (tested (lent_rows k.packed p)).answer ≡ n → ⊥

pub record NeverGiven : Type 0 where
  pub no_table : (k : Dump) → (shape_of k.packed).table ≡ none → NeverFor k 11
  pub no_buses : (k : Dump) → (shape_of k.packed).buses ≡ 0 → NeverFor k 12
  -- Document 01: a master has no field test, so 11 and 12 are never given for it.
  pub master_11 : NeverFor master_parameters 11
  pub master_12 : NeverFor master_parameters 12
  -- 02 (x): a split has no buses.
  pub split_12 : NeverFor split_patch 12
