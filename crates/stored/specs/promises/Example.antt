-- Document 02 (ii): files of some units, computed.
use Rattle.std.specs.Prelude.{◌≡◌, [], ◌∷◌, replicate}
use Rattle.answers.specs.Table.{outcome}
use Rattle.answers.specs.Effect.{no_place}
use Rattle.stored.specs.Records.{header, new_file}
use Rattle.stored.specs.Files.{to_stored, from_stored}

pub record Example : Type 0 where
  -- the master's offset stands there without a master too
  pub no_record : header 0 0 ≡ 0 ∷ 0 ∷ 10 ∷ 0 ∷ 0 ∷ 0 ∷ 10 ∷ 0 ∷ 10 ∷ 0 ∷ []
  pub two_patches : header 2 0 ≡ 2 ∷ 0 ∷ 10 ∷ 0 ∷ 0 ∷ 0 ∷ 0x18 ∷ 0x01 ∷ 0x18 ∷ 0x01 ∷ []
  pub whole_bank : header 100 1 ≡ 100 ∷ 0 ∷ 10 ∷ 0 ∷ 1 ∷ 0 ∷ 0xC6 ∷ 0x34 ∷ 0x72 ∷ 0x35 ∷ []
  -- an empty file is a unit's without a record
  pub empty : new_file [] ≡ header 0 0
  pub empty_stored : to_stored [] (replicate 10 0) ≡ record { result = no_place (outcome 0 10); lent = header 0 0 }
  pub empty_back : from_stored (header 0 0) [] ≡ record { result = no_place (outcome 0 0); lent = [] }
  pub no_room : to_stored [] (replicate 9 0) ≡ record { result = no_place (outcome 13 0); lent = replicate 9 0 }
