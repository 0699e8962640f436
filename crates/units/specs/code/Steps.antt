-- A step as the code tells it: the report, the unit, and the message that is sent on in a room of seven bytes.
use Rattle.std.specs.Prelude.{List, [], ℕ, length, Option, None, Some}
use Rattle.answers.specs.Lists.{bytes_from}
use Rattle.messages.specs.Kinds.{group_mode}
use Rattle.reading.specs.declared.walking.Report.{Report}
use Rattle.reading.specs.code.Told.{walked}
use Rattle.units.specs.declared.Unit.{Unit}
use Rattle.units.specs.declared.Act.{Act}
use Rattle.units.specs.declared.Step.{Step}
use Rattle.units.specs.Units.{Stepped, stepping}

-- What a message does: the bytes that are sent on, if any.
abbrev pub sent_on : Option (List ℕ) → List ℕ
sent_on None = []
sent_on (Some message) = message

abbrev pub done_by : Act → Stepped
done_by a = record { unit = a.unit; sent = sent_on a.sent; meant = a.meant }

abbrev pub told : Report → Stepped → Step
told r s = record {
  report = r;
  unit = s.unit;
  meant = s.meant;
  count = length s.sent;
  sent = bytes_from group_mode.length 0 s.sent;
}

-- The step, with the walk's report.
abbrev pub steps : Unit → List ℕ → ℕ → Step
steps u s place = told (walked s place) (stepping u s place)
